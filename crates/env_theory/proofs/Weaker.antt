-- What an environment declares stays declared when it grows.
use Rattle.std.proofs.Common.{◌≡◌, ℕ, Bool, true, false, List, [], ◌∷◌, refl, sym, ap, subst, if◌then◌else◌, Option, Some, None}
use Rattle.fol_theory.specs.Syntax.{Term, var, app, Terms, nil, cons, Formula, truth, falsity, pred, equal, both, either, implies, all, ex}
use Rattle.fol_theory.specs.Syntax.{is_name}
use Rattle.env_theory.specs.Declarations.{Declaration, sort, function, predicate, stated, term, formula, name_of, find, bound}
use Rattle.env_theory.specs.Typing.{Extends, HasSort, HaveSorts, WellFormed, takes, Gives, IsSort, IsPredicate, Declares, Environment, Put}
use Rattle.env_theory.specs.Typing.{Puts}
use Rattle.env_theory.proofs.SameNames.{one_name, own_name}

abbrev Known : Option Declaration → Type 0
Known None = ⊥
Known (Some d) = Unit {0}

stays : (E F : List Declaration) → Extends E F → (n : List ℕ) → Known (find E n) → find F n ≡ find E n
stays E F x n = go (find E n) refl
  where
    go : (o : Option Declaration) → find E n ≡ o → Known o → find F n ≡ o
    go None e h = absurd h
    go (Some d) e h = x n d e

known_gives : (o : Option Declaration) (s : List ℕ) → Gives o s → Known o
known_gives None s h = h
known_gives (Some d) s h = tt

known_sort : (o : Option Declaration) → IsSort o → Known o
known_sort None h = h
known_sort (Some d) h = tt

known_predicate : (o : Option Declaration) → IsPredicate o → Known o
known_predicate None h = h
known_predicate (Some d) h = tt

pub sort_stays : (E F : List Declaration) → Extends E F → (n : List ℕ) → IsSort (find E n) → IsSort (find F n)
sort_stays E F x n h = subst IsSort (sym (stays E F x n (known_sort (find E n) h))) h

mutual
  pub has_sort : (E F : List Declaration) → Extends E F → (V : List (List ℕ)) (t : Term) (s : List ℕ) → HasSort E V t s → HasSort F V t s
  has_sort E F x V (var i) s h = h
  has_sort E F x V (app f ts) s h = let e = sym (stays E F x f (known_gives (find E f) s h.0)) in
      (subst (λ o. Gives o s) e h.0, subst (λ o. HaveSorts F V ts (takes o)) e (have_sorts E F x V ts (takes (find E f)) h.1))

  pub have_sorts : (E F : List Declaration) → Extends E F → (V : List (List ℕ)) (ts : Terms) (ss : List (List ℕ)) → HaveSorts E V ts ss
      → HaveSorts F V ts ss
  have_sorts E F x V nil [] h = h
  have_sorts E F x V nil (s ∷ ss) h = h
  have_sorts E F x V (cons t ts) [] h = h
  have_sorts E F x V (cons t ts) (s ∷ ss) h = (has_sort E F x V t s h.0, have_sorts E F x V ts ss h.1)

pub well_formed : (E F : List Declaration) → Extends E F → (V : List (List ℕ)) (a : Formula) → WellFormed E V a → WellFormed F V a
well_formed E F x V truth h = h
well_formed E F x V falsity h = h
well_formed E F x V (pred p ts) h = let e = sym (stays E F x p (known_predicate (find E p) h.0)) in
    (subst IsPredicate e h.0, subst (λ o. HaveSorts F V ts (takes o)) e (have_sorts E F x V ts (takes (find E p)) h.1))
well_formed E F x V (equal s t u) h = (sort_stays E F x s h.0, has_sort E F x V t s h.1, has_sort E F x V u s h.2)
well_formed E F x V (both a b) h = (well_formed E F x V a h.0, well_formed E F x V b h.1)
well_formed E F x V (either a b) h = (well_formed E F x V a h.0, well_formed E F x V b h.1)
well_formed E F x V (implies a b) h = (well_formed E F x V a h.0, well_formed E F x V b h.1)
well_formed E F x V (all s y a) h = (sort_stays E F x s h.0, well_formed E F x (s ∷ V) a h.1)
well_formed E F x V (ex s y a) h = (sort_stays E F x s h.0, well_formed E F x (s ∷ V) a h.1)

-- a declaration with a new name
pub longer : (d : Declaration) (E : List Declaration) → find E (name_of d) ≡ None → Extends E (d ∷ E)
longer d E new n x e = go (is_name (name_of d) n) refl
  where
    go : (r : Bool) → is_name (name_of d) n ≡ r → (if r then Some d else find E n) ≡ Some x
    go true h = let k = subst (λ m. find E m ≡ None) (one_name (name_of d) n h) new in cc
    go false h = e

-- the name of a declaration finds it
pub newest : (d : Declaration) (E : List Declaration) → find (d ∷ E) (name_of d) ≡ Some d
newest d E = ap (λ r. if r then Some d else find E (name_of d)) (own_name (name_of d))

put_longer : (F G : List Declaration) → Extends F G → (d : Declaration) → Put F d → Put G d
put_longer F G x (sort n) h = h
put_longer F G x (function n ss s) h = h
put_longer F G x (predicate n ss) h = h
put_longer F G x (stated n a) h = h
put_longer F G x (term n ps s b) h = (x n (term n ps s b) h.0, has_sort F G x (bound ps) b s h.1)
put_longer F G x (formula n ps b) h = (x n (formula n ps b) h.0, well_formed F G x (bound ps) b h.1)

puts_longer : (F G : List Declaration) → Extends F G → (E : List Declaration) → Puts F E → Puts G E
puts_longer F G x [] h = h
puts_longer F G x (d ∷ E) h = (put_longer F G x d h.0, puts_longer F G x E h.1)

put_newest : (d : Declaration) (E : List Declaration) → find E (name_of d) ≡ None → Declares E d → Put (d ∷ E) d
put_newest (sort n) E new h = tt
put_newest (function n ss s) E new h = tt
put_newest (predicate n ss) E new h = tt
put_newest (stated n a) E new h = tt
put_newest (term n ps s b) E new h = let d = term n ps s b in (newest d E, has_sort E (d ∷ E) (longer d E new) (bound ps) b s h.2)
put_newest (formula n ps b) E new h = let d = formula n ps b in (newest d E, well_formed E (d ∷ E) (longer d E new) (bound ps) b h.1)

-- each definition of an environment is in its place
pub puts : (E : List Declaration) → Environment E → Puts E E
puts [] h = tt
puts (d ∷ E) h = (put_newest d E h.0 h.1, puts_longer E (d ∷ E) (longer d E h.0) E (puts E h.2))
