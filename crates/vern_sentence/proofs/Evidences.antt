-- Evidence is an expression of names and parentheses alone.
use Rattle.std.proofs.Common.{◌≡◌, ℕ, Bool, true, false, cond, nat_lt, List, [], ◌∷◌, ◌++◌, Option, Some, None, refl, sym, ap, ◌∙◌, subst}
use Rattle.vern_lex.specs.declared.span.Span.{Span}
use Rattle.vern_grammar.specs.Trees.{Name, Expression}
use Rattle.vern_grammar.specs.Kinds.{Kind, Lexeme}
use Rattle.vern_grammar.specs.Kinds as kind
use Rattle.vern_grammar.specs.Levels.{limit}
use Rattle.vern_grammar.specs.Grammar.{tok, span, named, application, Head, Next, last, IsOperand, constant, applied, enclosed, governed}
use Rattle.vern_grammar.specs.Grammar.{IsApplication, alone, to_name, to_expression, IsHead, left, negating, names, groups, IsExpression}
use Rattle.vern_grammar.specs.Machine.{Frame, parenthesis, argument, Mode, State, at, want, applying, after, depth, within, close, whole}
use Rattle.vern_grammar.specs.Machine.{an_expression, on, step, run, ends}
use Rattle.vern_grammar.proofs.Runs.{is_foreign}
use Rattle.vern_grammar.proofs.Laws as laws
use Rattle.vern_sentence.specs.Evidence.{IsEvidenceBehind, IsEvidenceApplication, IsEvidence}
use Rattle.vern_sentence.specs.Evidence as ev
use Rattle.vern_sentence.specs.Slots.{evidence, is_simple, next_place, first_place, expression_in}
use Rattle.vern_sentence.proofs.Signs.{some_out}
use Rattle.vern_sentence.proofs.Parts.{over, split_over, ended_by, Ran, Ended, expression_whole, over_run}

-- ---- the tokens

abbrev pub AllSimple : List Lexeme → Type 0
AllSimple [] = Unit {0}
AllSimple (t ∷ ts) = (is_simple t.kind ≡ true) × AllSimple ts

simple_both : (ts us : List Lexeme) → AllSimple ts → AllSimple us → AllSimple (ts ++ us)
simple_both [] us a b = b
simple_both (t ∷ ts) us a b = (a.0, simple_both ts us a.1 b)

simple_front : (ts us : List Lexeme) → AllSimple (ts ++ us) → AllSimple ts
simple_front [] us a = tt
simple_front (t ∷ ts) us a = (a.0, simple_front ts us a.1)

simple_back : (ts us : List Lexeme) → AllSimple (ts ++ us) → AllSimple us
simple_back [] us a = a
simple_back (t ∷ ts) us a = simple_back ts us a.1

-- ---- evidence is an expression

mutual
  pub evidence_operand : {o : ℕ} {ts : List Lexeme} {t : Expression} → IsEvidenceBehind o ts t
      → (from : ℕ) × (to : ℕ) × ((g : Next) → IsOperand 0 g o ts from to t)
  evidence_operand (ev.applied {to = to} {x = x} w) = (x.span.from, to, λ g. applied (evidence_application w))
  evidence_operand (ev.enclosed c d l e) = let (a, b, f) = evidence_operand e in (c.from, d.to, λ g. enclosed c d l (f last))

  evidence_application : {o to : ℕ} {ts : List Lexeme} {x : Name} {ys : List Expression} → IsEvidenceApplication o ts x ys to
      → IsApplication o ts x ys to
  evidence_application (ev.alone x c) = alone x c
  evidence_application (ev.to_name y c w) = to_name y c (evidence_application w)
  evidence_application (ev.to_evidence c d w l e) = let (a, b, f) = evidence_operand e in
      to_expression c d (evidence_application w) l (f last)

mutual
  pub evidence_simple : {o : ℕ} {ts : List Lexeme} {t : Expression} → IsEvidenceBehind o ts t → AllSimple ts
  evidence_simple (ev.applied w) = application_simple w
  evidence_simple (ev.enclosed {ts = ts} c d l e) = (refl, simple_both ts _ (evidence_simple e) (refl, tt))

  application_simple : {o to : ℕ} {ts : List Lexeme} {x : Name} {ys : List Expression} → IsEvidenceApplication o ts x ys to → AllSimple ts
  application_simple (ev.alone x c) = (refl, tt)
  application_simple (ev.to_name {ts = ts} y c w) = simple_both ts _ (application_simple w) (refl, tt)
  application_simple (ev.to_evidence {ts = ts} {us = us} c d w l e) =
      simple_both ts _ (application_simple w) (refl, simple_both us _ (evidence_simple e) (refl, tt))

pub evidence_expression : (ts : List Lexeme) (t : Expression) → IsEvidence ts t → IsExpression ts t
evidence_expression ts t e = let (a, b, f) = evidence_operand e in (0, a, b, f last)

-- ---- and each of such tokens is evidence

head_not_simple : {h : Head} {o : ℕ} {ts : List Lexeme} → IsHead h o ts → AllSimple ts → ⊥
head_not_simple (left {ts = ts} c e m l) a = let b = simple_back ts _ a in cc_no b.0
  where
    cc_no : false ≡ true → ⊥
    cc_no e = cc
head_not_simple (negating c l) a = let b = a.0 in cc
head_not_simple (names q a b c d sort ns p) s = let h = s.0 in cc
head_not_simple (groups q a d gs) s = let h = s.0 in cc

mutual
  operand_evidence : {n o from to : ℕ} {g : Next} {ts : List Lexeme} {t : Expression} → IsOperand n g o ts from to t → AllSimple ts
      → IsEvidenceBehind o ts t
  operand_evidence (constant b c) s = let h = s.0 in cc
  operand_evidence (applied w) s = ev.applied (application_evidence w s)
  operand_evidence (enclosed {ts = ts} c d l e) s = ev.enclosed c d l (operand_evidence e (simple_front ts _ s.1))
  operand_evidence (governed {ts = ts} {us = us} h f e r) s = absurd (head_not_simple h (simple_front ts us s))

  application_evidence : {o to : ℕ} {ts : List Lexeme} {x : Name} {ys : List Expression} → IsApplication o ts x ys to → AllSimple ts
      → IsEvidenceApplication o ts x ys to
  application_evidence (alone x c) s = ev.alone x c
  application_evidence (to_name {ts = ts} y c w) s = ev.to_name y c (application_evidence w (simple_front ts _ s))
  application_evidence (to_expression {ts = ts} {us = us} c d w l e) s =
      ev.to_evidence c d (application_evidence w (simple_front ts _ s)) l (operand_evidence e (simple_front us _ (simple_back ts _ s).1))

-- ---- its machine

over_simple : (ts : List Lexeme) (m : Option State) → AllSimple ts → over evidence m ts ≡ run m ts
over_simple [] m a = refl
over_simple (t ∷ ts) None a = over_simple ts None a.1
over_simple (t ∷ ts) (Some s) a = ap (λ b. over evidence (cond b (step s t) None) ts) a.0 ∙ over_simple ts (step s t) a.1

evidence_step : (k : Bool) (m : Option State) (y : State) → cond k m None ≡ Some y → (k ≡ true) × (m ≡ Some y)
evidence_step true m y e = (refl, e)
evidence_step false m y e = cc

simple_over : (ts : List Lexeme) (s z : State) → over evidence (Some s) ts ≡ Some z → AllSimple ts
simple_over [] s z e = tt
simple_over (t ∷ ts) s z e = split_over evidence (AllSimple (t ∷ ts)) (next_place evidence s t) ts z
    (λ y q p. ((evidence_step (is_simple t.kind) (step s t) y q).0, simple_over ts y z p)) e

foreign_evidence : (s : State) (k : Kind) (c : Span) → is_foreign k ≡ true → next_place evidence s (tok k c) ≡ None
foreign_evidence s (kind.name x) c e = cc
foreign_evidence s kind.opening c e = cc
foreign_evidence s kind.closing c e = cc
foreign_evidence s _ c e = refl

pub evidence_ran : (ts : List Lexeme) (t : Expression) → IsEvidence ts t → Ran evidence ts t
evidence_ran ts t e = by (laws.expression_stands ts t (evidence_expression ts t e))
  where
    by : laws.Stands [] ts (an_expression t) → Ran evidence ts t
    by r = record {
      place = r.state;
      ran = over_simple ts _ (evidence_simple e) ∙ r.ran;
      tree = ap expression_in r.finished;
      foreign =
          foreign_evidence r.state;
    }

pub evidence_whole : (ts : List Lexeme) (s : State) (t : Expression) → over evidence (Some (first_place evidence)) ts ≡ Some s
    → expression_in (ends (Some s)) ≡ Some t → IsEvidence ts t
evidence_whole ts s t e q =
    let a = simple_over ts _ s e in
    let (n, x, y, w) = expression_whole ts s t (over_run _ ts ∙ sym (over_simple ts _ a) ∙ e) q in
    operand_evidence w a

-- ---- so many `)` end it, behind a name where an operand begins

SimpleMode : Mode → Type 0
SimpleMode want = Unit {0}
SimpleMode (applying x ys to) = Unit {0}
SimpleMode (after v from to) = Unit {0}
SimpleMode _ = ⊥

SimpleFrames : List Frame → Type 0
SimpleFrames [] = Unit {0}
SimpleFrames (parenthesis f ∷ s) = SimpleFrames s
SimpleFrames (argument x ys ∷ s) = SimpleFrames s
SimpleFrames _ = ⊥

record IsSimple (st : State) : Type 0 where
  mode : SimpleMode st.mode
  frames : SimpleFrames st.stack

moved : {x to : State} → Some x ≡ Some to → IsSimple x → IsSimple to
moved {x = x} {to = to} e h = subst IsSimple (some_out x to e) h

within_simple : (n : ℕ) (x to : State) → IsSimple x → within n x ≡ Some to → IsSimple to
within_simple n x to h e = by_test (nat_lt n limit) e
  where
    by_test : (b : Bool) → cond b (Some x) None ≡ Some to → IsSimple to
    by_test true p = moved p h
    by_test false p = cc

close_simple : (s : List Frame) (v : Expression) (a b : ℕ) (to : State) → SimpleFrames s → close v a b s ≡ Some to → IsSimple to
unfolding close SimpleFrames SimpleMode
close_simple (parenthesis f ∷ s) v a b to h e = moved e (record { mode = tt; frames = h })
close_simple (argument x ys ∷ s) v a b to h e = moved e (record { mode = tt; frames = h })
close_simple [] v a b to h e = cc
close_simple _ v a b to h e = absurd h

on_simple : (m : Mode) (s : List Frame) (k : Kind) (c : Span) (to : State) → IsSimple (at m s) → is_simple k ≡ true → on m s k c ≡ Some to
    → IsSimple to
unfolding SimpleMode SimpleFrames
on_simple want s (kind.name x) c to h i e = moved e (record { mode = tt; frames = h.frames })
on_simple want s kind.opening c to h i e = within_simple (depth s) _ to (record { mode = tt; frames = h.frames }) e
on_simple want s kind.closing c to h i e = cc
on_simple want s _ c to h i e = cc
on_simple (applying x ys b) s (kind.name y) c to h i e = moved e (record { mode = tt; frames = h.frames })
on_simple (applying x ys b) s kind.opening c to h i e = within_simple (depth s) _ to (record { mode = tt; frames = h.frames }) e
on_simple (applying x ys b) s kind.closing c to h i e = close_simple s (application x ys b) b c.to to h.frames e
on_simple (applying x ys b) s _ c to h i e = cc
on_simple (after v a b) s kind.closing c to h i e = close_simple s v b c.to to h.frames e
on_simple (after v a b) s (kind.name x) c to h i e = cc
on_simple (after v a b) s kind.opening c to h i e = cc
on_simple (after v a b) s _ c to h i e = cc
on_simple _ s k c to h i e = absurd h.mode

over_is_simple : (ts : List Lexeme) (s z : State) → IsSimple s → over evidence (Some s) ts ≡ Some z → IsSimple z
over_is_simple [] s z h e = moved e h
over_is_simple (t ∷ ts) s z h e =
    split_over evidence (IsSimple z) (next_place evidence s t) ts z
    (λ y q p. let (i, w) = evidence_step (is_simple t.kind) (step s t) y q in
    over_is_simple ts y z (on_simple s.mode s.stack t.kind t.span y h i w) p) e

nowhere : Span
nowhere = span 0 0

mutual
  unfolding SimpleFrames close whole nowhere

  closes_after : (s : List Frame) (v : Expression) (a b : ℕ) → SimpleFrames s → Ended evidence (at (after v a b) s)
  closes_after [] v a b h = record { tokens = []; place = at (after v a b) []; part = v; ran = refl; tree = refl }
  closes_after (parenthesis f ∷ s) v a b h = ended_by evidence _ (at (after v f nowhere.to) s) (tok kind.closing nowhere) refl
      (closes_after s v f nowhere.to h)
  closes_after (argument x ys ∷ s) v a b h = ended_by evidence _ (at (applying x (ys ++ (v ∷ [])) nowhere.to) s)
      (tok kind.closing nowhere) refl (closes_applying s x (ys ++ (v ∷ [])) nowhere.to h)
  closes_after _ v a b h = absurd h

  closes_applying : (s : List Frame) (x : Name) (ys : List Expression) (b : ℕ) → SimpleFrames s → Ended evidence (at (applying x ys b) s)
  closes_applying [] x ys b h = record { tokens = []; place = at (applying x ys b) []; part = application x ys b; ran = refl; tree = refl }
  closes_applying (parenthesis f ∷ s) x ys b h = ended_by evidence _ (at (after (application x ys b) f nowhere.to) s)
      (tok kind.closing nowhere) refl (closes_after s (application x ys b) f nowhere.to h)
  closes_applying (argument y zs ∷ s) x ys b h =
      ended_by evidence _ (at (applying y (zs ++ (application x ys b ∷ [])) nowhere.to) s) (tok kind.closing nowhere) refl
      (closes_applying s y (zs ++ (application x ys b ∷ [])) nowhere.to h)
  closes_applying _ x ys b h = absurd h

ended_at : (m : Mode) (s : List Frame) → SimpleMode m → SimpleFrames s → Ended evidence (at m s)
unfolding SimpleMode
ended_at want s h f = ended_by evidence _ (at (applying (named (120 ∷ []) nowhere) [] nowhere.to) s)
    (tok (kind.name (120 ∷ [])) nowhere) refl (closes_applying s (named (120 ∷ []) nowhere) [] nowhere.to f)
ended_at (applying x ys b) s h f = closes_applying s x ys b f
ended_at (after v a b) s h f = closes_after s v a b f
ended_at _ s h f = absurd h

pub evidence_ended : (ts : List Lexeme) (s : State) → over evidence (Some (first_place evidence)) ts ≡ Some s → Ended evidence s
unfolding SimpleMode SimpleFrames
evidence_ended ts s e = let h = over_is_simple ts (first_place evidence) s (record { mode = tt; frames = tt }) e in
    ended_at s.mode s.stack h.mode h.frames
