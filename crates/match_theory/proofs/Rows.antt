-- Matching computed on small patterns.
use Rattle.std.proofs.Common.{◌≡◌, List, [], ◌∷◌, ℕ, refl, Some, None}
use Rattle.fol_theory.specs.Syntax.{Term, var, app, nil, cons, Formula, pred, equal, implies, all}
use Rattle.match_theory.specs.Matching.{matches}
use Rattle.match_theory.specs.Places.{find_instance, abstracted}

-- the names P, Q, T and f, and the constant k
abbrev big_p : List ℕ
big_p = 80 ∷ []

abbrev big_q : List ℕ
big_q = 81 ∷ []

abbrev big_t : List ℕ
big_t = 84 ∷ []

abbrev small_f : List ℕ
small_f = 102 ∷ []

abbrev k : Term
k = app (107 ∷ []) nil

-- a predicate of one argument
abbrev of_p : Term → Formula
of_p t = pred big_p (cons t nil)

-- P x with x open against P k has the instance k, against Q none
one_open : matches 1 (of_p (var 0)) (of_p k) ≡ Some (k ∷ [])
one_open = refl

no_instance : matches 1 (of_p (var 0)) (pred big_q nil) ≡ None
no_instance = refl

-- a variable that doesn't occur gets any term
undetermined : matches 1 (pred big_q nil) (pred big_q nil) ≡ Some (var 0 ∷ [])
undetermined = refl

-- one variable has one term: P x -> P x against P k -> P k, and against P k -> P (f k)
twice : matches 1 (implies (of_p (var 0)) (of_p (var 0))) (implies (of_p k) (of_p k)) ≡ Some (k ∷ [])
twice = refl

two_terms : matches 1 (implies (of_p (var 0)) (of_p (var 0))) (implies (of_p k) (of_p (app small_f (cons k nil)))) ≡ None
two_terms = refl

-- a term that has a variable bound above it is no instance, and printing names don't count
bound : matches 1 (all big_t [] (of_p (var 1))) (all big_t (120 ∷ []) (of_p (var 0))) ≡ None
bound = refl

unbound : matches 1 (all big_t [] (of_p (var 1))) (all big_t (120 ∷ []) (of_p (var 3))) ≡ Some (var 2 ∷ [])
unbound = refl

-- a variable of the context stands for itself, lowered by the open ones
outer : matches 1 (of_p (var 1)) (of_p (var 0)) ≡ Some (var 0 ∷ [])
outer = refl

-- the first place in preorder: f x in P (f (f k)) is there with f k and not with k
outermost : find_instance 1 (app small_f (cons (var 0) nil)) (of_p (app small_f (cons (app small_f (cons k nil)) nil)))
    ≡ Some (app small_f (cons k nil) ∷ [])
outermost = refl

-- the left side of an equation before the right one
left_first : find_instance 1 (app small_f (cons (var 0) nil))
    (equal big_t (app small_f (cons (var 4) nil)) (app small_f (cons k nil))) ≡ Some (var 4 ∷ [])
left_first = refl

-- abstracting takes all occurrences, also under binders, where the term is shifted
everywhere : abstracted 0 (var 2) (implies (of_p (var 2)) (all big_t [] (of_p (var 3)))) ≡ implies (of_p (var 0))
    (all big_t [] (of_p (var 1)))
everywhere = refl
