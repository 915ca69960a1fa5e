-- Worked rows, computed.
use Rattle.fol_theory.specs.Slots.{slot}
use Rattle.logic_theory.specs.Goals.{Goal, goal}
use Rattle.env_theory.specs.Orders.{InOrder}
use Rattle.env_theory.specs.Typing.{WellFormed}
use Rattle.env_theory.specs.Declarations.{Declaration, sort, function, predicate, stated, formula}
use Rattle.std.proofs.Common.{◌≡◌, ℕ, List, [], ◌∷◌, codes, Option, Some, None, Result, Ok, Err, true, false, refl, sym, ◌∙◌, subst, true≢false}
use Rattle.std.specs.Cmp.Lexicographic.{bytes_decides}
use Rattle.fol_theory.specs.Syntax.{Term, var, app, nil, cons, Formula, truth, pred, equal, both, implies, all, ex, is_name}
use Rattle.fol_theory.specs.Contexts.{variable, hypothesis}
use Rattle.logic_theory.specs.Derivations.{Derives}
use Rattle.tactic_theory.specs.Faults.{Fault, cannot_match, no_goal, not_of_form, name_taken}
use Rattle.tactic_theory.specs.Evidence.{assumed, declared}
use Rattle.tactic_theory.specs.Refinements.{
  Refinement,
  intro,
  intros,
  apply,
  rewrite,
  reflexivity,
  split,
  exact,
  destruct_pair,
  unfold_in,
  refine,
  IsTypedRow,
}
use Rattle.tactic_theory.specs.States.{
  row_fault,
  bad_bullet,
  unfinished,
  Inner,
  by_refinement,
  by_bullet,
  open_brace,
  run_all,
  begin,
  block,
  state,
  frame,
  brace,
}
use Rattle.tactic_theory.proofs.Shown.{ok_injective}
use Rattle.tactic_theory.proofs.Proved.{block_proved}

abbrev no_limit : Formula → Option (ℕ × ℕ)
no_limit a = None

abbrev K : Term
K = app (codes "k") nil

abbrev Of : Term → Formula
Of t = pred (codes "P") (cons t nil)

abbrev Q : Formula
Q = pred (codes "Q") nil

abbrev A : Formula
A = all (codes "T") (codes "x") (implies (Of (var 0)) (Of (var 0)))

abbrev B : Formula
B = all (codes "T") (codes "x") (implies (Of (var 0)) Q)

abbrev E : List Declaration
E = stated (codes "b") B ∷ stated (codes "a") A ∷ function (codes "k") [] (codes "T") ∷ predicate (codes "Q") []
    ∷ predicate (codes "P") (codes "T" ∷ []) ∷ sort (codes "T") ∷ []

apply_one : refine no_limit E (goal [] (Of K)) (apply (declared (codes "a") A)) ≡ Ok (goal [] (Of K) ∷ [])
apply_one = refl

apply_none : refine no_limit E (goal [] (implies (Of K) (Of K))) (apply (declared (codes "a") A)) ≡ Ok []
apply_none = refl

apply_b : refine no_limit E (goal [] (implies (Of K) Q)) (apply (declared (codes "b") B)) ≡ Ok []
apply_b = refl

apply_undetermined : refine no_limit E (goal [] Q) (apply (declared (codes "b") B)) ≡ Err cannot_match
apply_undetermined = refl

-- rewrite takes the first place
abbrev F : Term → Term
F t = app (codes "f") (cons t nil)

abbrev R : Formula
R = all (codes "T") (codes "x") (equal (codes "T") (F (var 0)) (var 0))

abbrev D : List Declaration
D = stated (codes "q") R ∷ function (codes "k") [] (codes "T") ∷ function (codes "f") (codes "T" ∷ []) (codes "T") ∷ sort (codes "T") ∷ []

rewrite_once : refine no_limit D (goal [] (equal (codes "T") (F (F K)) K)) (rewrite true (declared (codes "q") R))
    ≡ Ok (goal [] (equal (codes "T") (F K) K) ∷ [])
rewrite_once = refl

rewrite_twice : refine no_limit D (goal [] (equal (codes "T") (F K) K)) (rewrite true (declared (codes "q") R))
    ≡ Ok (goal [] (equal (codes "T") K K) ∷ [])
rewrite_twice = refl

closed : refine no_limit D (goal [] (equal (codes "T") K K)) reflexivity ≡ Ok []
closed = refl

-- bullets
abbrev G : List Declaration
G = predicate (codes "B") [] ∷ predicate (codes "A") [] ∷ []

abbrev X : Formula
X = pred (codes "A") nil

abbrev Y : Formula
Y = pred (codes "B") nil

abbrev typed : Goal → Refinement → Result Refinement Fault
typed g r = Ok r

abbrev script : List ℕ → List (Inner Refinement)
script b = by_refinement (intro (Some (codes "h"))) ∷ by_refinement (destruct_pair (assumed 0) (codes "a") (codes "b"))
    ∷ by_refinement split ∷ by_bullet (codes "-") ∷ by_refinement (exact (assumed 1)) ∷ by_bullet b ∷ by_refinement (exact (assumed 0)) ∷ []

wrong_bullet : block no_limit typed G (implies (both X Y) (both Y X)) (script (codes "+")) ≡ Err (row_fault no_goal)
wrong_bullet = refl

good : block no_limit typed G (implies (both X Y) (both Y X)) (script (codes "-")) ≡ Ok (state [] [])
good = refl

-- a fresh name, a name that is free again, a witness taken apart
abbrev H : List ℕ
H = codes "H"

fresh_names : refine no_limit G (goal [] (implies X Y)) intros ≡ Ok (goal (slot H (hypothesis X) ∷ []) Y ∷ [])
fresh_names = refl

name_is_free : refine no_limit G (goal (slot H (hypothesis (both X Y)) ∷ []) Y) (destruct_pair (assumed 0) H (codes "k"))
    ≡ Ok (goal (slot (codes "k") (hypothesis Y) ∷ slot H (hypothesis X) ∷ []) Y ∷ [])
name_is_free = refl

name_is_taken : refine no_limit G (goal (slot H (hypothesis (both X Y)) ∷ []) Y) (destruct_pair (assumed 0) (codes "A")
    (codes "k")) ≡ Err name_taken
name_is_taken = refl

witness_apart : refine no_limit E (goal (slot H (hypothesis (ex (codes "T") (codes "x") (Of (var 0)))) ∷ []) (Of K))
    (destruct_pair (assumed 0) (codes "y") H)
    ≡ Ok (goal (slot H (hypothesis (Of (var 0))) ∷ slot (codes "y") (variable (codes "T")) ∷ []) (Of K) ∷ [])
witness_apart = refl

-- rewriting to the left, under a binder, by a hypothesis: the instance has no bound variable
to_the_left : refine no_limit D (goal (slot H (hypothesis (equal (codes "T") (var 0) K)) ∷ slot (codes "y")
    (variable (codes "T")) ∷ []) (all (codes "T") (codes "z") (equal (codes "T") (var 0) K))) (rewrite false (assumed 0))
    ≡ Ok (goal (slot H (hypothesis (equal (codes "T") (var 0) K)) ∷ slot (codes "y") (variable (codes "T")) ∷ [])
    (all (codes "T") (codes "z") (equal (codes "T") (var 0) (var 1))) ∷ [])
to_the_left = refl

-- no place but under the binder that its variable is bound by
bound_place : refine no_limit D (goal [] (all (codes "T") (codes "z") (equal (codes "T") (F (var 0)) (var 0))))
    (rewrite true (declared (codes "q") R)) ≡ Err cannot_match
bound_place = refl

-- a definition put in, in a hypothesis, which goes to the end
abbrev dd : Declaration
dd = formula (codes "d") [] (both X X)

abbrev G2 : List Declaration
G2 = dd ∷ G

unfolded : refine no_limit G2 (goal (slot (codes "k") (hypothesis Y) ∷ slot H (hypothesis (pred (codes "d") nil)) ∷ []) Y)
    (unfold_in dd H) ≡ Ok (goal (slot H (hypothesis (both X X)) ∷ slot (codes "k") (hypothesis Y) ∷ []) Y ∷ [])
unfolded = refl

not_there : refine no_limit G2 (goal (slot (codes "k") (hypothesis Y) ∷ slot H (hypothesis X) ∷ []) Y) (unfold_in dd H)
    ≡ Ok (goal (slot (codes "k") (hypothesis Y) ∷ slot H (hypothesis X) ∷ []) Y ∷ [])
not_there = refl

head_split : refine no_limit G2 (goal [] (pred (codes "d") nil)) split ≡ Ok (goal [] X ∷ goal [] X ∷ [])
head_split = refl

-- braces: a bullet inside, the tail behind
braced : run_all no_limit typed G (by_refinement split ∷ open_brace ∷ []) (begin (both X Y))
    ≡ Ok (state (goal [] X ∷ []) (frame brace (goal [] Y ∷ []) ∷ []))
braced = refl

brace_open : block no_limit typed G truth (open_brace ∷ by_refinement split ∷ []) ≡ Err bad_bullet
brace_open = refl

left_over : block no_limit typed G (both X Y) (by_refinement split ∷ []) ≡ Err (unfinished 2)
left_over = refl

-- the environments are in order, so the good block has a derivation
in_order : InOrder G
in_order = ((refl, tt, (refl, tt, tt)), (differ (codes "B") [] refl, tt, (differ (codes "A") [] refl, tt, tt)))
  where
    differ : (x y : List ℕ) → is_name x y ≡ false → x ≡ y → ⊥
    differ x y e q = true≢false (sym ((bytes_decides x y).1 q) ∙ e)

-- what is typed by itself: the rows of the script ask for nothing
abbrev untyped : Goal → Refinement → Result Refinement Fault
untyped g (exact (assumed i)) = Ok (exact (assumed i))
untyped g (destruct_pair (assumed i) m n) = Ok (destruct_pair (assumed i) m n)
untyped g (intro n) = Ok (intro n)
untyped g split = Ok split
untyped g r = Err not_of_form

untyped_well : (g : Goal) (x r : Refinement) → untyped g x ≡ Ok r → IsTypedRow G g.slots r
untyped_well g (exact (assumed i)) r e = subst (IsTypedRow G g.slots) (ok_injective (exact (assumed i)) r e) tt
untyped_well g (destruct_pair (assumed i) m n) r e = subst (IsTypedRow G g.slots) (ok_injective (destruct_pair (assumed i) m n) r e) tt
untyped_well g (intro n) r e = subst (IsTypedRow G g.slots) (ok_injective (intro n) r e) tt
untyped_well g split r e = subst (IsTypedRow G g.slots) (ok_injective split r e) tt
untyped_well g x r e = absurd cc

derivation : Derives G [] [] (implies (both X Y) (both Y X))
derivation = block_proved no_limit untyped G in_order (λ g x r f e. untyped_well g x r e) (implies (both X Y) (both Y X))
    ((x, y), (y, x)) (script (codes "-")) (state [] []) refl
  where
    x : WellFormed G [] X
    x = (tt, tt)

    y : WellFormed G [] Y
    y = (tt, tt)
