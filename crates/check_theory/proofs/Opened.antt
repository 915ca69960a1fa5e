-- Where a proof is open: what a sentence that stands where its kind belongs leaves, and its verdict.
use Rattle.std.proofs.Common.{◌≡◌, ℕ, List, [], ◌∷◌, Bool, true, false, Option, Some, None, Result, Ok, Err, refl, sym, subst}
use Rattle.line_theory.specs.Lists.{Every}
use Rattle.fol_theory.specs.Syntax.{Formula}
use Rattle.vern_sentence.specs.Trees.{Closer, qed, defined, admitted, abort, Sentence, declare, define, begin, proof_word, refinement, bullet, brace_in, brace_out, close}
use Rattle.vern_sentence.specs.Trees as sentence
use Rattle.vern_step.specs.Parsed.{kind_of}
use Rattle.env_theory.specs.Declarations.{Declaration}
use Rattle.tactic_theory.specs.Typing.{typed}
use Rattle.tactic_theory.specs.States.{State, StepFault, Inner, proof, open_brace, close_brace, by_bullet, inner_of, run_one}
use Rattle.tactic_theory.specs.States as states
use Rattle.script_theory.specs.Sizes.{large}
use Rattle.script_theory.specs.Sentences.{Verdict, misplaced, Open, Script, declaration, definition, lemma, declared, begun, stepped, bytes_of, qed_verdict, closing_verdict, inner_at, one_at, one, state_behind, verdicts}
use Rattle.doc_theory.specs.Documents.{Mark}
use Rattle.doc_theory.specs.Flat.{role_of}
use Rattle.check_theory.specs.Pieces.{place_in_proofs}
use Rattle.check_theory.specs.Read.{with_tree, trees}
use Rattle.check_theory.proofs.Trees.{kind_is, tree_is}
use Rattle.check_theory.proofs.Placed.{Allows, opens, Placed}

-- a proof is open, or none is
abbrev pub Stands : Bool → Option Open → Type 0
Stands false None = Unit {0}
Stands true (Some o) = Unit {0}
Stands b p = ⊥

pub none_open : (p : Option Open) → Stands false p → p ≡ None
none_open None h = refl
none_open (Some o) h = absurd h

-- a proof is open behind a sentence or not, and its verdict is a verdict on it
abbrev Leaves : Bool → Script × Verdict → Type 0
Leaves b r = Stands b r.0.proof × (r.1 ≡ misplaced → ⊥)

declared_leaves : (E : List Declaration) (r : Result Declaration StepFault) → Leaves false (declared E r)
declared_leaves E (Ok d) = (tt, λ e. cc)
declared_leaves E (Err f) = (tt, λ e. cc)

begun_leaves : (id : ℕ) (E : List Declaration) (r : Result (List ℕ × Formula) StepFault) → Leaves true (begun id E r)
begun_leaves id E (Ok w) = (tt, λ e. cc)
begun_leaves id E (Err f) = (tt, λ e. cc)

stepped_leaves : (id : ℕ) (E : List Declaration) (p : Open) (r : Result State StepFault) → Leaves true (stepped id E p r)
stepped_leaves id E p (Ok u) = (tt, λ e. cc)
stepped_leaves id E p (Err f) = (tt, λ e. cc)

inner_leaves : (id : ℕ) (E : List Declaration) (p : Open) (f : Option ℕ) (x : Inner sentence.Refinement) → Leaves true (inner_at id E p f x)
inner_leaves id E p (Some f) x = (tt, λ e. cc)
inner_leaves id E p None x = stepped_leaves id E p (run_one (large E) (typed E) E x p.goals)

qed_found : (r : Result State StepFault) → qed_verdict r ≡ misplaced → ⊥
qed_found (Ok s) e = cc
qed_found (Err f) e = cc

closing_found : (k : Closer) (s : State) (f : Option ℕ) → closing_verdict k s f ≡ misplaced → ⊥
closing_found k s (Some f) e = cc
closing_found qed s None e = qed_found (states.qed s) e
closing_found defined s None e = qed_found (states.qed s) e
closing_found admitted s None e = cc
closing_found abort s None e = cc

at_leaves : (id : ℕ) (E : List Declaration) (b : Bool) (p : Option Open) (t : Sentence) → Allows b (role_of (place_in_proofs (kind_of t)))
    → Stands b p → Leaves (opens (role_of (place_in_proofs (kind_of t)))) (one_at id E p t)
at_leaves id E false (Some o) t a h = absurd h
at_leaves id E true None t a h = absurd h
at_leaves id E false None (declare x y) a h = declared_leaves E (declaration E x y)
at_leaves id E false None (define x gs r y) a h = declared_leaves E (definition E x gs r y)
at_leaves id E false None (begin x y) a h = begun_leaves id E (lemma E x y)
at_leaves id E true (Some o) proof_word a h = inner_leaves id E o o.fault proof
at_leaves id E true (Some o) (refinement r) a h = inner_leaves id E o o.fault (inner_of r)
at_leaves id E true (Some o) (bullet c n) a h = inner_leaves id E o o.fault (by_bullet (bytes_of n c))
at_leaves id E true (Some o) brace_in a h = inner_leaves id E o o.fault open_brace
at_leaves id E true (Some o) brace_out a h = inner_leaves id E o o.fault close_brace
at_leaves id E true (Some o) (close qed) a h = (tt, closing_found qed o.goals o.fault)
at_leaves id E true (Some o) (close defined) a h = (tt, closing_found defined o.goals o.fault)
at_leaves id E true (Some o) (close admitted) a h = (tt, closing_found admitted o.goals o.fault)
at_leaves id E true (Some o) (close abort) a h = (tt, closing_found abort o.goals o.fault)
at_leaves id E b p t a h = absurd a

-- ---- lists

-- whether a proof is open behind live sentences
abbrev pub open_behind : Bool → List Mark → Bool
open_behind b [] = b
open_behind b (m ∷ ms) = open_behind (opens (role_of m.sentence.kind)) ms

module _ (m : Mark) (ms : List Mark) (b : Bool) (s : Script) (h : Placed b (m ∷ ms)) (k : Stands b s.proof) where
  first_leaves : Leaves (opens (role_of m.sentence.kind)) (one s m.id h.0.0.0)
  first_leaves =
      subst (λ j. Leaves (opens (role_of j)) (one s m.id h.0.0.0)) (sym (kind_is m.sentence h.0))
      (at_leaves m.id s.env b s.proof h.0.0.0 (subst (λ j. Allows b (role_of j)) (kind_is m.sentence h.0) h.1) k)

pub open_stands : (ms : List Mark) (b : Bool) (s : Script) → Placed b ms → Stands b s.proof
    → Stands (open_behind b ms) (state_behind (trees ms) s).proof
open_stands [] b s h k = k
open_stands (m ∷ ms) b s h k =
    subst (λ o. Stands (open_behind b (m ∷ ms)) (state_behind (with_tree m.id o (trees ms)) s).proof) (sym (tree_is m.sentence h.0))
    (open_stands ms (opens (role_of m.sentence.kind)) (one s m.id h.0.0.0).0 h.2 (first_leaves m ms b s h k).0)

-- no verdict is told on a sentence out of place
pub all_found : (ms : List Mark) (b : Bool) (s : Script) → Placed b ms → Stands b s.proof
    → Every (λ v. v.1 ≡ misplaced → ⊥) (verdicts (trees ms) s)
all_found [] b s h k = tt
all_found (m ∷ ms) b s h k =
    let r = first_leaves m ms b s h k in
    subst (λ o. Every (λ v. v.1 ≡ misplaced → ⊥) (verdicts (with_tree m.id o (trees ms)) s)) (sym (tree_is m.sentence h.0))
    (r.1, all_found ms (opens (role_of m.sentence.kind)) (one s m.id h.0.0.0).0 h.2 r.0)
