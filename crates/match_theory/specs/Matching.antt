-- Matching computed: the terms that a pattern's open variables have in a target.
use Rattle.std.specs.Prelude.{ℕ, zero, suc, ◌-◌, Bool, true, false, ◌&&◌, if◌then◌else◌, nat_lt, ◌==◌, List, [], ◌∷◌, Option, Some, None}
use Rattle.fol_theory.specs.Syntax.{
  Term,
  var,
  app,
  Terms,
  nil,
  cons,
  Formula,
  truth,
  falsity,
  pred,
  equal,
  both,
  either,
  implies,
  all,
  ex,
  is_name,
}

-- the next step, if there is an answer
abbrev pub and_then : {A B : Type 0} → Option A → (A → Option B) → Option B
and_then None f = None
and_then (Some x) f = f x

-- two terms are equal
abbrev mutual
  pub same_term : Term → Term → Bool
  same_term (var i) (var j) = i == j
  same_term (app f ts) (app g us) = is_name f g && same_terms ts us
  same_term t u = false

  pub same_terms : Terms → Terms → Bool
  same_terms nil nil = true
  same_terms (cons t ts) (cons u us) = same_term t u && same_terms ts us
  same_terms ts us = false

-- a term without its newest `by` variables, if it has none of them
abbrev mutual
  pub lower : ℕ → Term → Option Term
  lower by (var i) = if nat_lt i by then None else Some (var (i - by))
  lower by (app f ts) = and_then (lower_terms by ts) (λ us. Some (app f us))

  pub lower_terms : ℕ → Terms → Option Terms
  lower_terms by nil = Some nil
  lower_terms by (cons t ts) = and_then (lower by t) (λ u. and_then (lower_terms by ts) (λ us. Some (cons u us)))

-- for each open variable, from 0, its term, if it has one yet: the term is put in, or must be the one that is there
abbrev pub give : ℕ → Term → List (Option Term) → Option (List (Option Term))
give i t [] = None
give zero t (None ∷ m) = Some (Some t ∷ m)
give zero t (Some u ∷ m) = if same_term u t then Some (Some u ∷ m) else None
give (suc i) t (x ∷ m) = and_then (give i t m) (λ k. Some (x ∷ k))

-- a variable of the pattern under b binders: a bound one, an open one, or one of the context
abbrev pub match_var : ℕ → ℕ → ℕ → Term → List (Option Term) → Option (List (Option Term))
match_var n b i u m =
    if nat_lt i b then (if same_term (var i) u then Some m else None)
    else (if nat_lt (i - b) n then and_then (lower b u) (λ t. give (i - b) t m)
    else (if same_term (var (i - n)) u then Some m else None))

-- a term of the pattern, and terms in order
abbrev mutual
  pub match_term : ℕ → ℕ → Term → Term → List (Option Term) → Option (List (Option Term))
  match_term n b (var i) u m = match_var n b i u m
  match_term n b (app f ts) (app g us) m = if is_name f g then match_terms n b ts us m else None
  match_term n b t u m = None

  pub match_terms : ℕ → ℕ → Terms → Terms → List (Option Term) → Option (List (Option Term))
  match_terms n b nil nil m = Some m
  match_terms n b (cons t ts) (cons u us) m = and_then (match_term n b t u m) (λ k. match_terms n b ts us k)
  match_terms n b ts us m = None

-- a formula of the pattern; printing names are put aside
abbrev pub match_formula : ℕ → ℕ → Formula → Formula → List (Option Term) → Option (List (Option Term))
match_formula n b truth truth m = Some m
match_formula n b falsity falsity m = Some m
match_formula n b (pred p ts) (pred q us) m = if is_name p q then match_terms n b ts us m else None
match_formula n b (equal s t u) (equal r v w) m = if is_name s r then and_then (match_term n b t v m) (λ k. match_term n b u w k) else None
match_formula n b (both a c) (both x y) m = and_then (match_formula n b a x m) (λ k. match_formula n b c y k)
match_formula n b (either a c) (either x y) m = and_then (match_formula n b a x m) (λ k. match_formula n b c y k)
match_formula n b (implies a c) (implies x y) m = and_then (match_formula n b a x m) (λ k. match_formula n b c y k)
match_formula n b (all s x a) (all r y c) m = if is_name s r then match_formula n (suc b) a c m else None
match_formula n b (ex s x a) (ex r y c) m = if is_name s r then match_formula n (suc b) a c m else None
match_formula n b a c m = None

-- nothing is known of n variables
abbrev pub blank : ℕ → List (Option Term)
blank zero = []
blank (suc n) = None ∷ blank n

-- a variable that nothing determines gets any term
abbrev pub chosen : List (Option Term) → List Term
chosen [] = []
chosen (None ∷ m) = var 0 ∷ chosen m
chosen (Some t ∷ m) = t ∷ chosen m

-- the terms of an instance, if there is one
abbrev pub matches : ℕ → Formula → Formula → Option (List Term)
matches n pattern target = and_then (match_formula n 0 pattern target (blank n)) (λ m. Some (chosen m))

-- the same of a term
abbrev pub term_matches : ℕ → Term → Term → Option (List Term)
term_matches n pattern target = and_then (match_term n 0 pattern target (blank n)) (λ m. Some (chosen m))
