-- The environment stays in order, open proofs stay those of trees, and a good Qed has a derivation.
use Rattle.std.proofs.Common.{◌≡◌, ℕ, List, [], ◌∷◌, Option, Some, None, Result, Ok, Err, refl, ap, subst, ◌∙◌, ◌⊎◌, inl, inr}
use Rattle.fol_theory.specs.Syntax.{Formula}
use Rattle.vern_grammar.specs.Trees.{Name, Group, Expression, Shape}
use Rattle.vern_sentence.specs.Trees.{Closer, qed, defined, admitted, abort, Sentence, declare, define, begin, proof_word, refinement, bullet, brace_in, brace_out, close}
use Rattle.vern_sentence.specs.Trees as sentence
use Rattle.env_theory.specs.Declarations.{Declaration, stated}
use Rattle.env_theory.specs.Orders.{InOrder}
use Rattle.env_theory.proofs.Lawfuls.{lawful}
use Rattle.base_core.specs.Answers.{and_then}
use Rattle.elab_theory.specs.Faults.{Fault as TypingFault}
use Rattle.elab_theory.specs.Sentences.{declaration_of, definition_of, statement_of}
use Rattle.elab_theory.proofs.Ordered.{declaration_ordered, definition_ordered, statement_ordered}
use Rattle.logic_theory.specs.Derivations.{Derives}
use Rattle.logic_theory.specs.Goals.{goal, sequent, Leads}
use Rattle.logic_theory.proofs.Grafting.{opens_itself, opens_sound}
use Rattle.tactic_theory.specs.Typing.{typed}
use Rattle.tactic_theory.specs.States.{State, StepFault, Inner, proof, open_brace, close_brace, by_bullet, inner_of, run_one, goals_of, find_brace}
use Rattle.tactic_theory.specs.States as states
use Rattle.tactic_theory.proofs.Proved.{one_fits, qed_done}
use Rattle.tactic_theory.proofs.Typed.{refinement_typed}
use Rattle.script_theory.specs.Sizes.{large, large_declaration}
use Rattle.script_theory.specs.Sentences.{Verdict, good, faulty, blocked, misplaced, Open, Script, empty, sized, from_elaboration, declaration, definition, lemma, bytes_of, declared, begun, stepped, with_statement, qed_verdict, if_good, closing_verdict, closed_env, inner_at, one_at, one, state_behind}
use Rattle.script_theory.specs.Kept.{IsNamed, AreNamed, IsInner, AreInner, OpenKept, HasFault, ProofKept, IsKept, StatementProved, IsProved, StatementIs, IsInProof}

ok_is : {A : Type 0} (x y : A) → ◌≡◌ {A = Result A StepFault} (Ok x) (Ok y) → x ≡ y
ok_is x y e = cc

none_ok : {A : Type 0} (f : StepFault) (x : A) → ◌≡◌ {A = Result A StepFault} (Err f) (Ok x) → ⊥
none_ok f x e = cc

both_steps : {A B : Type 0} (r : Result A StepFault) (f : A → Result B StepFault) (y : B) → and_then r f ≡ Ok y →
    (x : A) × (r ≡ Ok x) × (f x ≡ Ok y)
both_steps (Ok x) f y e = (x, refl, e)
both_steps (Err g) f y e = absurd (none_ok g y e)

elaborated : {A : Type 0} (r : Result A TypingFault) (x : A) → from_elaboration r ≡ Ok x → r ≡ Ok x
elaborated (Ok y) x e = λ i. Ok (ok_is y x e i)
elaborated (Err g) x e = absurd (none_ok _ x e)

sized_is : {A : Type 0} (o : Option (ℕ × ℕ)) (x y : A) → sized o x ≡ Ok y → x ≡ y
sized_is None x y e = ok_is x y e
sized_is (Some w) x y e = absurd (none_ok _ y e)

-- ---- what is declared or begun may be added

module _ (E : List Declaration) (o : InOrder E) (x : Name) (n : x.text ≡ [] → ⊥) where
  declaration_follows : (y : Shape) (d : Declaration) → declaration E x y ≡ Ok d → InOrder (d ∷ E)
  declaration_follows y d e =
      let j = both_steps (from_elaboration (declaration_of E x y)) (λ c. sized (large_declaration E c) c) d e in
      subst (λ z. InOrder (z ∷ E)) (sized_is (large_declaration E j.0) j.0 d j.2)
      (declaration_ordered E o x n y j.0 (elaborated (declaration_of E x y) j.0 j.1))

  definition_follows : (gs : List Group) (r : Option Name) (a : Expression) (d : Declaration) → definition E x gs r a ≡ Ok d →
      InOrder (d ∷ E)
  definition_follows gs r a d e =
      let j = both_steps (from_elaboration (definition_of E x gs r a)) (λ c. sized (large_declaration E c) c) d e in
      subst (λ z. InOrder (z ∷ E)) (sized_is (large_declaration E j.0) j.0 d j.2)
      (definition_ordered E o x n gs r a j.0 (elaborated (definition_of E x gs r a) j.0 j.1))

  lemma_follows : (a : Expression) (w : List ℕ × Formula) → lemma E x a ≡ Ok w → InOrder (stated w.0 w.1 ∷ E)
  lemma_follows a w e =
      let j = both_steps (from_elaboration (statement_of E x a)) (λ b. sized (large E b) (x.text, b)) w e in
      subst (λ (z : List ℕ × Formula). InOrder (stated z.0 z.1 ∷ E)) (sized_is (large E j.0) (x.text, j.0) w j.2)
      (statement_ordered E o x n a j.0 (elaborated (statement_of E x a) j.0 j.1))

-- ---- what each sentence keeps

with_in_order : (E : List Declaration) (a : Option (List ℕ × Formula)) (s : State) → InOrder E → OpenKept E a s →
    InOrder (with_statement E a)
with_in_order E None s o k = o
with_in_order E (Some w) s o k = k.0

if_in_order : (E : List Declaration) (a : Option (List ℕ × Formula)) (s : State) (v : Verdict) → InOrder E → OpenKept E a s →
    InOrder (if_good E a v)
if_in_order E a s good o k = with_in_order E a s o k
if_in_order E a s (faulty e) o k = o
if_in_order E a s (blocked f) o k = o
if_in_order E a s misplaced o k = o

closed_kept : (c : Closer) (E : List Declaration) (p : Open) (v : Verdict) → InOrder E → OpenKept E p.statement p.goals →
    InOrder (closed_env c E p.statement v)
closed_kept qed E p v o k = with_in_order E p.statement p.goals o k
closed_kept defined E p v o k = if_in_order E p.statement p.goals v o k
closed_kept admitted E p v o k = with_in_order E p.statement p.goals o k
closed_kept abort E p v o k = o

declared_kept : (E : List Declaration) (r : Result Declaration StepFault) → InOrder E → ((d : Declaration) → r ≡ Ok d → InOrder (d ∷ E)) →
    IsKept (declared E r).0
declared_kept E (Ok d) o f = (f d refl, tt)
declared_kept E (Err e) o f = (o, tt)

begun_kept : (id : ℕ) (E : List Declaration) (r : Result (List ℕ × Formula) StepFault) → InOrder E →
    ((w : List ℕ × Formula) → r ≡ Ok w → InOrder (stated w.0 w.1 ∷ E)) → IsKept (begun id E r).0
begun_kept id E (Ok w) o f = (o, ((f w refl, opens_itself E (goal [] w.1)), tt))
begun_kept id E (Err e) o f = (o, (tt, tt))

open_step : (E : List Declaration) (a : Option (List ℕ × Formula)) (x : Inner sentence.Refinement) (s u : State) → InOrder E →
    OpenKept E a s → run_one (large E) (typed E) E x s ≡ Ok u → OpenKept E a u
open_step E None x s u o k e = tt
open_step E (Some w) x s u o k e =
    (k.0, one_fits (large E) (typed E) E (lawful E o) (λ g z r h j. refinement_typed E o g h z r j) (goal [] w.1) (tt, k.0.0.1) x s u k.1 e)

module _ (id : ℕ) (E : List Declaration) (p : Open) (o : InOrder E) (k : OpenKept E p.statement p.goals) where
  stepped_kept : (r : Result State StepFault) → HasFault p.statement None →
      ((u : State) → r ≡ Ok u → OpenKept E p.statement u) → IsKept (stepped id E p r).0
  stepped_kept (Ok u) h f = (o, (f u refl, h))
  stepped_kept (Err e) h f = (o, (k, now p.statement))
    where
      now : (a : Option (List ℕ × Formula)) → HasFault a (Some id)
      now None = tt
      now (Some w) = tt

  inner_kept : (f : Option ℕ) (x : Inner sentence.Refinement) → p.fault ≡ f → HasFault p.statement p.fault → IsKept (inner_at id E p f x).0
  inner_kept (Some f) x q h = (o, (k, h))
  inner_kept None x q h = stepped_kept (run_one (large E) (typed E) E x p.goals) (subst (HasFault p.statement) q h)
      (λ u e. open_step E p.statement x p.goals u o k e)

at_kept : (id : ℕ) (E : List Declaration) (p : Option Open) (x : Sentence) → IsNamed x → InOrder E → ProofKept E p →
    IsKept (one_at id E p x).0
at_kept id E None (declare x y) n o k = declared_kept E (declaration E x y) o (λ d e. declaration_follows E o x n y d e)
at_kept id E None (define x gs r a) n o k = declared_kept E (definition E x gs r a) o (λ d e. definition_follows E o x n gs r a d e)
at_kept id E None (begin x a) n o k = begun_kept id E (lemma E x a) o (λ w e. lemma_follows E o x n a w e)
at_kept id E (Some p) proof_word n o k = inner_kept id E p o k.0 p.fault proof refl k.1
at_kept id E (Some p) (refinement r) n o k = inner_kept id E p o k.0 p.fault (inner_of r) refl k.1
at_kept id E (Some p) (bullet b m) n o k = inner_kept id E p o k.0 p.fault (by_bullet (bytes_of m b)) refl k.1
at_kept id E (Some p) brace_in n o k = inner_kept id E p o k.0 p.fault open_brace refl k.1
at_kept id E (Some p) brace_out n o k = inner_kept id E p o k.0 p.fault close_brace refl k.1
at_kept id E (Some p) (close c) n o k = (closed_kept c E p (closing_verdict c p.goals p.fault) o k.0, tt)
at_kept id E p x n o k = (o, k)

-- each sentence keeps the state
pub one_kept : (s : Script) (id : ℕ) (x : Sentence) → IsNamed x → IsKept s → IsKept (one s id x).0
one_kept s id x n k = at_kept id s.env s.proof x n k.0 k.1

pub all_kept : (ws : List (ℕ × Sentence)) (s : Script) → AreNamed ws → IsKept s → IsKept (state_behind ws s)
all_kept [] s n k = k
all_kept (w ∷ ws) s n k = all_kept ws (one s w.0 w.1).0 n.1 (one_kept s w.0 w.1 n.0 k)

-- ---- a good closer

module _ (E : List Declaration) (o : InOrder E) where
  proved_by : (a : Option (List ℕ × Formula)) (s : State) → OpenKept E a s → HasFault a None → (r : Result State StepFault) →
      states.qed s ≡ r → qed_verdict r ≡ good → StatementProved E a
  proved_by a s k h (Err e) p v = absurd cc
  proved_by None s k h (Ok u) p v = h
  proved_by (Some w) s k h (Ok u) p v = opens_sound E (goal [] w.1) []
      (subst (Leads E (sequent (goal [] w.1) ∷ [])) (qed_done (goals_of s) (find_brace s.frames) u p) k.1) (tt, k.0.0.1) tt

  good_closer : (c : Closer) (p : Open) → (c ≡ qed) ⊎ (c ≡ defined) → ProofKept E (Some p) → (f : Option ℕ) → p.fault ≡ f →
      closing_verdict c p.goals f ≡ good → StatementProved E p.statement
  good_closer c p h k (Some f) q v = absurd cc
  good_closer qed p h k None q v = proved_by p.statement p.goals k.0 (subst (HasFault p.statement) q k.1) (states.qed p.goals) refl v
  good_closer defined p h k None q v = proved_by p.statement p.goals k.0 (subst (HasFault p.statement) q k.1) (states.qed p.goals) refl v
  good_closer admitted p (inl h) k None q v = absurd cc
  good_closer admitted p (inr h) k None q v = absurd cc
  good_closer abort p (inl h) k None q v = absurd cc
  good_closer abort p (inr h) k None q v = absurd cc

at_proved : (id : ℕ) (E : List Declaration) (p : Option Open) (c : Closer) → (c ≡ qed) ⊎ (c ≡ defined) → InOrder E → ProofKept E p →
    (one_at id E p (close c)).1 ≡ good → IsProved E p
at_proved id E None c h o k v = absurd cc
at_proved id E (Some p) c h o k v = good_closer E o c p h k p.fault refl v

-- a Qed or Defined that is good behind any sentences: its statement has a derivation
pub good_is_proved : (ws : List (ℕ × Sentence)) → AreNamed ws → (id : ℕ) (c : Closer) → (c ≡ qed) ⊎ (c ≡ defined) →
    (one (state_behind ws empty) id (close c)).1 ≡ good → IsProved (state_behind ws empty).env (state_behind ws empty).proof
good_is_proved ws n id c h v =
    let k = all_kept ws empty n ((tt, tt), tt) in
    at_proved id (state_behind ws empty).env (state_behind ws empty).proof c h k.0 k.1 v

-- ---- from a lemma to its closer

stepped_stays : (id : ℕ) (E : List Declaration) (a : Option (List ℕ × Formula)) (p : Open) (r : Result State StepFault) → p.statement ≡ a →
    IsInProof E a (stepped id E p r).0
stepped_stays id E a p (Ok u) h = (refl, h)
stepped_stays id E a p (Err e) h = (refl, h)

inner_stays : (id : ℕ) (E : List Declaration) (a : Option (List ℕ × Formula)) (p : Open) (f : Option ℕ) (x : Inner sentence.Refinement) →
    p.statement ≡ a → IsInProof E a (inner_at id E p f x).0
inner_stays id E a p (Some f) x h = (refl, h)
inner_stays id E a p None x h = stepped_stays id E a p (run_one (large E) (typed E) E x p.goals) h

at_stays : (id : ℕ) (E : List Declaration) (a : Option (List ℕ × Formula)) (p : Option Open) (x : Sentence) → IsInner x → StatementIs a p →
    IsInProof E a (one_at id E p x).0
at_stays id E a None x i h = absurd h
at_stays id E a (Some p) proof_word i h = inner_stays id E a p p.fault proof h
at_stays id E a (Some p) (refinement r) i h = inner_stays id E a p p.fault (inner_of r) h
at_stays id E a (Some p) (bullet b m) i h = inner_stays id E a p p.fault (by_bullet (bytes_of m b)) h
at_stays id E a (Some p) brace_in i h = inner_stays id E a p p.fault open_brace h
at_stays id E a (Some p) brace_out i h = inner_stays id E a p p.fault close_brace h
at_stays id E a (Some p) (declare x y) i h = absurd i
at_stays id E a (Some p) (define x gs r b) i h = absurd i
at_stays id E a (Some p) (begin x b) i h = absurd i
at_stays id E a (Some p) (close c) i h = absurd i

-- inner sentences keep the environment and the statement
pub inners_stay : (ws : List (ℕ × Sentence)) → AreInner ws → (E : List Declaration) (a : Option (List ℕ × Formula)) (s : Script) →
    IsInProof E a s → IsInProof E a (state_behind ws s)
inners_stay [] i E a s h = h
inners_stay (w ∷ ws) i E a s h =
    inners_stay ws i.1 E a (one s w.0 w.1).0 (let r = at_stays w.0 s.env a s.proof w.1 i.0 h.1 in (r.0 ∙ h.0, r.1))

begun_in : (id : ℕ) (E : List Declaration) (w : List ℕ × Formula) (r : Result (List ℕ × Formula) StepFault) → r ≡ Ok w →
    IsInProof E (Some w) (begun id E r).0
begun_in id E w (Ok v) e = (refl, ap (λ z. Some z) (ok_is v w e))
begun_in id E w (Err z) e = absurd (none_ok z w e)

begin_in : (id : ℕ) (E : List Declaration) (p : Option Open) (x : Name) (a : Expression) (w : List ℕ × Formula) → p ≡ None →
    lemma E x a ≡ Ok w → IsInProof E (Some w) (one_at id E p (begin x a)).0
begin_in id E None x a w n e = begun_in id E w (lemma E x a) e
begin_in id E (Some p) x a w n e = absurd cc

proved_in : (E : List Declaration) (w : List ℕ × Formula) (F : List Declaration) (p : Option Open) → F ≡ E → StatementIs (Some w) p →
    IsProved F p → Derives E [] [] w.1
proved_in E w F None e h k = absurd k
proved_in E w F (Some p) e h k = subst (λ z. Derives z [] [] w.1) e (subst (StatementProved F) h k)

inners_named : (ws : List (ℕ × Sentence)) → AreInner ws → AreNamed ws
inners_named [] i = tt
inners_named (w ∷ ws) i = (go w.1 i.0, inners_named ws i.1)
  where
    go : (x : Sentence) → IsInner x → IsNamed x
    go proof_word j = tt
    go (refinement r) j = tt
    go (bullet b m) j = tt
    go brace_in j = tt
    go brace_out j = tt
    go (declare x y) j = absurd j
    go (define x gs r b) j = absurd j
    go (begin x b) j = absurd j
    go (close c) j = absurd j

module _ (before : List (ℕ × Sentence)) (named : AreNamed before) (id : ℕ) (x : Name) (nx : x.text ≡ [] → ⊥) (a : Expression)
    (w : List ℕ × Formula) where
  -- a block behind any sentences: if its closer is good, its statement has a derivation over the environment before its lemma
  pub block_is_proved : (ws : List (ℕ × Sentence)) → AreInner ws → (closer_id : ℕ) (c : Closer) → (c ≡ qed) ⊎ (c ≡ defined) →
      (state_behind before empty).proof ≡ None → lemma (state_behind before empty).env x a ≡ Ok w →
      (one (state_behind ws (one (state_behind before empty) id (begin x a)).0) closer_id (close c)).1 ≡ good →
      Derives (state_behind before empty).env [] [] w.1
  block_is_proved ws i closer_id c h n e v =
      let s : Script = state_behind before empty in
      let u : Script = (one s id (begin x a)).0 in
      let last : Script = state_behind ws u in
      let k : IsKept last = all_kept ws u (inners_named ws i) (one_kept s id (begin x a) nx (all_kept before empty named ((tt, tt), tt))) in
      let j = inners_stay ws i s.env (Some w) u (begin_in id s.env s.proof x a w n e) in
      proved_in s.env w last.env last.proof j.0 j.1 (at_proved closer_id last.env last.proof c h k.0 k.1 v)
