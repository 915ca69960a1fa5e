-- One tree, exact faults.
use Rattle.std.proofs.Common.{◌≡◌, ℕ, ◌+◌, ◌<◌, ◌≤◌, ◌⊎◌, inl, inr, List, [], ◌∷◌, ◌++◌, length, take, drop, true, Option, Some, None}
use Rattle.std.proofs.Common.{refl, sym, ap, ◌∙◌, arith, append_assoc, append-nil, take_all, length-append}
use Rattle.std.proofs.Math.Seq.{take-append_seam, take-append-add}
use Rattle.std.proofs.lemmas.List.{take-append-drop, take-append-le, length-take}
use Rattle.vern_grammar.specs.Trees.{Expression, Shape}
use Rattle.vern_lex.specs.declared.span.Span.{Span}
use Rattle.vern_grammar.specs.Kinds.{Kind, Lexeme}
use Rattle.vern_grammar.specs.Kinds as kind
use Rattle.vern_grammar.specs.Grammar.{tok, IsExpression, IsShape, last, Begins, IsFault}
use Rattle.vern_grammar.specs.Machine.{Frame, outline, State, Phrase, an_expression, a_shape, step, next, run, ends, start, parsed}
use Rattle.vern_grammar.specs.Machine.{whole, close, chain, Fails}
use Rattle.vern_grammar.proofs.Runs.{run-append, run-None, is_foreign, operand_most, runs, Arrives, chains, Chains}
use Rattle.vern_grammar.proofs.Sound.{Aim, for_expression, for_shape, ground, Found, expression_found, shape_found, sound}
use Rattle.vern_grammar.proofs.Finish.{GoesOn, goes_on}

-- ---- the machine and the grammar

complete_by : (n a b : ℕ) (ts : List Lexeme) (t : Expression) → Arrives [] ts n last a b t → parsed [] ts ≡ Some (an_expression t)
unfolding whole
complete_by n a b ts t r = ap ends r.ran ∙ r.settles.1

pub expression_read : (ts : List Lexeme) (t : Expression) → IsExpression ts t → parsed [] ts ≡ Some (an_expression t)
expression_read ts t (n, a, b, e) = complete_by n a b ts t (runs e [] refl (inl (operand_most e)))

chained_by : (ts : List Lexeme) (t : Shape) → Chains (outline ∷ []) ts t → parsed (outline ∷ []) ts ≡ Some (a_shape t)
unfolding chain
chained_by ts t r = ap ends r.ran ∙ r.finished

pub shape_read : (ts : List Lexeme) (t : Shape) → IsShape ts t → parsed (outline ∷ []) ts ≡ Some (a_shape t)
shape_read ts t e = chained_by ts t (chains e (outline ∷ []) refl refl)

pub found_read : (aim : Aim) (ts : List Lexeme) (p : Phrase) → Found aim ts p → parsed (ground aim) ts ≡ Some p
found_read aim ts p (expression_found {n = n} {a = a} {b = b} {t = t} e) = expression_read ts t (n, a, b, e)
found_read aim ts p (shape_found {t = t} e) = shape_read ts t e

expression_of : (ts : List Lexeme) (p : Phrase) → Found for_expression ts p → (t : Expression) × (p ≡ an_expression t) × IsExpression ts t
expression_of ts p (expression_found {n = n} {a = a} {b = b} {t = t} e) = (t, refl, (n, a, b, e))

shape_of : (ts : List Lexeme) (p : Phrase) → Found for_shape ts p → (t : Shape) × (p ≡ a_shape t) × IsShape ts t
shape_of ts p (shape_found {t = t} e) = (t, refl, e)

pub expression_given : (ts : List Lexeme) (p : Phrase) → parsed [] ts ≡ Some p
    → (t : Expression) × (p ≡ an_expression t) × IsExpression ts t
expression_given ts p e = expression_of ts p (sound for_expression ts p e)

pub shape_given : (ts : List Lexeme) (p : Phrase) → parsed (outline ∷ []) ts ≡ Some p → (t : Shape) × (p ≡ a_shape t) × IsShape ts t
shape_given ts p e = shape_of ts p (sound for_shape ts p e)

-- Behind a whole expression or shape the machine has its tree, and refuses a `)` and all that no expression goes on with.
pub record Stands (s : List Frame) (ts : List Lexeme) (p : Phrase) : Type 0 where
  pub state : State
  pub ran : run (start s) ts ≡ Some state
  pub finished : ends (Some state) ≡ Some p
  pub closed : (c : Span) → step state (tok kind.closing c) ≡ None
  pub foreign : (k : Kind) (c : Span) → is_foreign k ≡ true → step state (tok k c) ≡ None

expression_stands_by : (n a b : ℕ) (ts : List Lexeme) (t : Expression) → Arrives [] ts n last a b t → Stands [] ts (an_expression t)
unfolding whole close
expression_stands_by n a b ts t r = record {
  state = r.state;
  ran = r.ran;
  finished = r.settles.1;
  closed = r.settles.0;
  foreign =
      r.settles.2;
}

pub expression_stands : (ts : List Lexeme) (t : Expression) → IsExpression ts t → Stands [] ts (an_expression t)
expression_stands ts t (n, a, b, e) = expression_stands_by n a b ts t (runs e [] refl (inl (operand_most e)))

shape_stands_by : (ts : List Lexeme) (t : Shape) → Chains (outline ∷ []) ts t → Stands (outline ∷ []) ts (a_shape t)
unfolding chain
shape_stands_by ts t r = record { state = r.state; ran = r.ran; finished = r.finished; closed = r.closed; foreign = r.foreign }

pub shape_stands : (ts : List Lexeme) (t : Shape) → IsShape ts t → Stands (outline ∷ []) ts (a_shape t)
shape_stands ts t e = shape_stands_by ts t (chains e (outline ∷ []) refl refl)

-- ---- one tree

same_expression : (t u : Expression) (m : Option Phrase) → m ≡ Some (an_expression t) → m ≡ Some (an_expression u) → t ≡ u
same_expression t u m p q = cc

same_shape : (t u : Shape) (m : Option Phrase) → m ≡ Some (a_shape t) → m ≡ Some (a_shape u) → t ≡ u
same_shape t u m p q = cc

pub one_expression : (ts : List Lexeme) (t u : Expression) → IsExpression ts t → IsExpression ts u → t ≡ u
one_expression ts t u e f = same_expression t u (parsed [] ts) (expression_read ts t e) (expression_read ts u f)

pub one_shape : (ts : List Lexeme) (t u : Shape) → IsShape ts t → IsShape ts u → t ≡ u
one_shape ts t u e f = same_shape t u (parsed (outline ∷ []) ts) (shape_read ts t e) (shape_read ts u f)

-- ---- faults

none_some : {m : Option Phrase} (p : Phrase) → m ≡ None → m ≡ Some p → ⊥
none_some p a b = cc

stopped : (s : List Frame) (ts us : List Lexeme) (p : Phrase) → run (start s) ts ≡ None → parsed s (ts ++ us) ≡ Some p → ⊥
stopped s ts us p n e = none_some p (ap ends (run-append (start s) ts us ∙ ap (λ m. run m us) n ∙ run-None us)) e

begins_expression : (ts : List Lexeme) → GoesOn for_expression ts → Begins IsExpression ts
begins_expression ts g = let (t, e, x) = expression_of (ts ++ g.tokens) g.phrase g.found in (g.tokens, t, x)

begins_shape : (ts : List Lexeme) → GoesOn for_shape ts → Begins IsShape ts
begins_shape ts g = let (t, e, x) = shape_of (ts ++ g.tokens) g.phrase g.found in (g.tokens, t, x)

pub expression_fault : (ts : List Lexeme) (p : ℕ) → Fails [] ts p → IsFault IsExpression ts p
expression_fault ts p f = record {
  within = f.within;
  begun = begins_expression (take p ts) (goes_on for_expression (take p ts) f.state f.begun);
  refused = λ h w. stopped [] (take (p + 1) ts) w.0 (an_expression w.1) (f.refused h) (expression_read (take (p + 1) ts ++ w.0) w.1 w.2);
  unfinished = λ q t e. none_some (an_expression t) (f.unfinished q) (expression_read ts t e);
}

pub shape_fault : (ts : List Lexeme) (p : ℕ) → Fails (outline ∷ []) ts p → IsFault IsShape ts p
shape_fault ts p f = record {
  within = f.within;
  begun = begins_shape (take p ts) (goes_on for_shape (take p ts) f.state f.begun);
  refused = λ h w. stopped (outline ∷ []) (take (p + 1) ts) w.0 (a_shape w.1) (f.refused h) (shape_read (take (p + 1) ts ++ w.0) w.1 w.2);
  unfinished = λ q t e. none_some (a_shape t) (f.unfinished q) (shape_read ts t e);
}

-- ---- a tree or a fault

fails_at : (s : List Frame) (ts us : List Lexeme) (u : Lexeme) (st : State) → run (start s) ts ≡ Some st → step st u ≡ None
    → Fails s (ts ++ (u ∷ us)) (length ts)
fails_at s ts us u st e n = record {
  within = omega (arith, length-append ts (u ∷ us));
  state = st;
  begun = ap (run (start s)) (take-append_seam ts (u ∷ us)) ∙ e;
  refused = λ h. ap (run (start s)) (take-append-add ts (u ∷ us) 1) ∙ run-append (start s) ts (u ∷ []) ∙ ap (λ m. next m u) e ∙ n;
  unfinished = λ q. absurd (omega (arith, q, length-append ts (u ∷ us)));
}

fails_last : (s : List Frame) (ts : List Lexeme) (st : State) → run (start s) ts ≡ Some st → ends (Some st) ≡ None → Fails s ts (length ts)
fails_last s ts st e n = record {
  within = omega arith;
  state = st;
  begun = ap (run (start s)) (take_all (length ts) ts (omega arith)) ∙ e;
  refused = λ h. absurd (omega arith);
  unfinished = λ q. ap ends e ∙ n;
}

abbrev Verdict : List Frame → List Lexeme → Type 0
Verdict s ts = ((p : Phrase) × (parsed s ts ≡ Some p)) ⊎ ((p : ℕ) × Fails s ts p)

module _ (s : List Frame) where
  verdict_end : (ts : List Lexeme) (st : State) (m : Option Phrase) → run (start s) ts ≡ Some st → ends (Some st) ≡ m → Verdict s ts
  verdict_end ts st (Some p) e f = inl (p, ap ends e ∙ f)
  verdict_end ts st None e f = inr (length ts, fails_last s ts st e f)

  verdict_step : (ts us : List Lexeme) (u : Lexeme) (st : State) (m : Option State) → run (start s) ts ≡ Some st → step st u ≡ m →
      ((to : State) → run (start s) (ts ++ (u ∷ [])) ≡ Some to → Verdict s ((ts ++ (u ∷ [])) ++ us)) → Verdict s (ts ++ (u ∷ us))
  verdict_step ts us u st (Some to) e f g = rw append_assoc at (g to (run-append (start s) ts (u ∷ []) ∙ ap (λ m. next m u) e ∙ f))
  verdict_step ts us u st None e f g = inr (length ts, fails_at s ts us u st e f)

  verdict_by : (us ts : List Lexeme) (st : State) → run (start s) ts ≡ Some st → Verdict s (ts ++ us)
  verdict_by [] ts st e = rw append-nil (verdict_end ts st (ends (Some st)) e refl)
  verdict_by (u ∷ us) ts st e = verdict_step ts us u st (step st u) e refl (λ to f. verdict_by us (ts ++ (u ∷ [])) to f)

pub expression_or_fault : (ts : List Lexeme) → ((t : Expression) × IsExpression ts t) ⊎ ((p : ℕ) × IsFault IsExpression ts p)
expression_or_fault ts = of (verdict_by [] ts [] _ refl)
  where
    of : Verdict [] ts → ((t : Expression) × IsExpression ts t) ⊎ ((p : ℕ) × IsFault IsExpression ts p)
    of (inl (p, e)) = let (t, i, x) = expression_given ts p e in inl (t, x)
    of (inr (p, f)) = inr (p, expression_fault ts p f)

pub shape_or_fault : (ts : List Lexeme) → ((t : Shape) × IsShape ts t) ⊎ ((p : ℕ) × IsFault IsShape ts p)
shape_or_fault ts = of (verdict_by (outline ∷ []) ts [] _ refl)
  where
    of : Verdict (outline ∷ []) ts → ((t : Shape) × IsShape ts t) ⊎ ((p : ℕ) × IsFault IsShape ts p)
    of (inl (p, e)) = let (t, i, x) = shape_given ts p e in inl (t, x)
    of (inr (p, f)) = inr (p, shape_fault ts p f)

-- ---- not both, and one fault

-- the beginning of what begins a tree begins one
begins_shorter : {A : Type 0} (R : List Lexeme → A → Type 0) (ts us : List Lexeme) → Begins R (ts ++ us) → Begins R ts
begins_shorter R ts us (ws, t, r) = (us ++ ws, t, rw append_assoc at r)

begins_take : {A : Type 0} (R : List Lexeme → A → Type 0) (ts : List Lexeme) (p q : ℕ) → p ≤ q → q ≤ length ts → Begins R (take q ts)
    → Begins R (take p ts)
begins_take R ts p q h l b =
    let e : take q ts ≡ take p ts ++ drop p (take q ts) =
    sym (take-append-drop p (take q ts)) ∙ ap (λ x. x ++ drop p (take q ts))
    (sym (take-append-le p (take q ts) (drop q ts) (omega (arith, length-take q ts))) ∙ ap (take p) (take-append-drop q ts)) in
    begins_shorter R (take p ts) (drop p (take q ts)) (rw e at b)

pub not_both : {A : Type 0} (R : List Lexeme → A → Type 0) (ts : List Lexeme) (p : ℕ) (t : A) → IsFault R ts p → R ts t → ⊥
not_both R ts p t f r =
    let all : Begins R (take (length ts) ts) = rw (take_all (length ts) ts (omega arith)) ([], t, rw append-nil r) in
    let early : p < length ts → ⊥ = λ h. f.refused h (begins_take R ts (p + 1) (length ts) (omega arith) (omega arith) all) in
    let late : p ≡ length ts → ⊥ = λ e. f.unfinished e t r in
    let within = f.within in
    omega arith

earlier : {A : Type 0} (R : List Lexeme → A → Type 0) (ts : List Lexeme) (p q : ℕ) → IsFault R ts p → IsFault R ts q → p < q → ⊥
earlier R ts p q f g h = let w = g.within in f.refused (omega arith) (begins_take R ts (p + 1) q (omega arith) g.within g.begun)

pub one_fault : {A : Type 0} (R : List Lexeme → A → Type 0) (ts : List Lexeme) (p q : ℕ) → IsFault R ts p → IsFault R ts q → p ≡ q
one_fault R ts p q f g =
    let less : p < q → ⊥ = earlier R ts p q f g in
    let more : q < p → ⊥ = earlier R ts q p g f in
    omega arith
