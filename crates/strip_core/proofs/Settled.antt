-- A normal form is its own normal form, over every environment.
use Rattle.std.proofs.Common.{◌≡◌, ℕ, Bool, true, false, List, [], ◌∷◌, refl, sym, ap, subst, ◌∙◌, if◌then◌else◌, Option, Some, None}
use Rattle.fol_theory.specs.Syntax.{Formula, is_name}
use Rattle.fol_theory.specs.Printing.{unnamed}
use Rattle.env_theory.specs.Declarations.{Declaration, sort, function, predicate, stated, term, formula, name_of, find}
use Rattle.env_theory.specs.Typing.{WellFormed, Environment, Puts, undefined}
use Rattle.env_theory.specs.Normal.{normal, Same}
use Rattle.env_theory.proofs.SameNames.{one_name}
use Rattle.env_theory.proofs.Weaker.{puts}
use Rattle.env_theory.proofs.Keeps.{normal_undefined}
use Rattle.env_theory.proofs.Skips.{formula_skips}

-- what a name finds doesn't stay where the definitions are left out
abbrev Goes : Option Declaration → Type 0
Goes None = Unit {0}
Goes (Some (term n ps s b)) = Unit {0}
Goes (Some (formula n ps b)) = Unit {0}
Goes d = ⊥

module _ (d : Declaration) (E F : List Declaration) (n : List ℕ) (older : Goes (find E n) → find F n ≡ None) where
  kept : (Goes (Some d) → ⊥) → Goes (find (d ∷ E) n) → find (d ∷ F) n ≡ None
  kept other h = go (is_name (name_of d) n) h
    where
      go : (q : Bool) → Goes (if q then Some d else find E n) → (if q then Some d else find F n) ≡ None
      go true k = absurd (other k)
      go false k = older k

  dropped : find E (name_of d) ≡ None → Goes (find (d ∷ E) n) → find F n ≡ None
  dropped new h = go (is_name (name_of d) n) refl h
    where
      go : (q : Bool) → is_name (name_of d) n ≡ q → Goes (if q then Some d else find E n) → find F n ≡ None
      go true e k = older (subst Goes (sym new ∙ ap (find E) (one_name (name_of d) n e)) tt)
      go false e k = older k

gone : (E : List Declaration) → Environment E → (n : List ℕ) → Goes (find E n) → find (undefined E) n ≡ None
gone [] x n h = refl
gone (sort m ∷ E) x n h = kept (sort m) E (undefined E) n (gone E x.2 n) (λ k. k) h
gone (function m ss s ∷ E) x n h = kept (function m ss s) E (undefined E) n (gone E x.2 n) (λ k. k) h
gone (predicate m ss ∷ E) x n h = kept (predicate m ss) E (undefined E) n (gone E x.2 n) (λ k. k) h
gone (stated m a ∷ E) x n h = kept (stated m a) E (undefined E) n (gone E x.2 n) (λ k. k) h
gone (term m ps s b ∷ E) x n h = dropped (term m ps s b) E (undefined E) n (gone E x.2 n) x.0 h
gone (formula m ps b ∷ E) x n h = dropped (formula m ps b) E (undefined E) n (gone E x.2 n) x.0 h

module _ (E : List Declaration) (x : Environment E) (V : List (List ℕ)) (a : Formula) (h : WellFormed (undefined E) V a) where
  stays : (F : List Declaration) → Puts E F → normal F a ≡ a
  stays [] p = refl
  stays (sort n ∷ F) p = stays F p.1
  stays (function n ss s ∷ F) p = stays F p.1
  stays (predicate n ss ∷ F) p = stays F p.1
  stays (stated n b ∷ F) p = stays F p.1
  stays (term n ps s b ∷ F) p =
      ap (normal F) (formula_skips (term n ps s b) (undefined E) (gone E x n (subst Goes (sym p.0.0) tt)) V a h) ∙ stays F p.1
  stays (formula n ps b ∷ F) p =
      ap (normal F) (formula_skips (formula n ps b) (undefined E) (gone E x n (subst Goes (sym p.0.0) tt)) V a h) ∙ stays F p.1

pub normal_same : (E : List Declaration) → Environment E → (V : List (List ℕ)) (a : Formula) → WellFormed E V a → Same E (normal E a) a
normal_same E x V a h = ap unnamed (stays E x V (normal E a) (normal_undefined E x V a h) E (puts E x))
