-- Declarations of an environment, found by name and as members of the list.
use Rattle.std.proofs.Common.{◌≡◌, ℕ, Bool, true, false, List, [], ◌∷◌, refl, sym, ap, subst, ◌∙◌, inl, inr, if◌then◌else◌, Some, None}
use Rattle.fol_theory.specs.Syntax.{is_name}
use Rattle.env_theory.specs.Declarations.{Declaration, name_of, find}
use Rattle.env_theory.specs.Typing.{Environment}
use Rattle.env_theory.specs.Orders.{Member}
use Rattle.env_theory.proofs.SameNames.{one_name, own_name}
use Rattle.env_theory.proofs.Keeps.{not_found}

-- what a name finds has that name
pub found_name : (E : List Declaration) (n : List ℕ) (d : Declaration) → find E n ≡ Some d → name_of d ≡ n
found_name [] n d h = absurd (impossible h)
  where
    impossible : None ≡ Some d → ⊥
    impossible h = cc
found_name (e ∷ E) n d h = go (is_name (name_of e) n) refl h (found_name E n d)
  where
    go : (q : Bool) → is_name (name_of e) n ≡ q → (if q then Some e else find E n) ≡ Some d → (find E n ≡ Some d → name_of d ≡ n)
        → name_of d ≡ n
    go true q k f = let same : e ≡ d = cc in ap name_of (sym same) ∙ one_name (name_of e) n q
    go false q k f = f k

pub found_member : (E : List Declaration) (n : List ℕ) (d : Declaration) → find E n ≡ Some d → Member d E
found_member [] n d h = absurd (impossible h)
  where
    impossible : None ≡ Some d → ⊥
    impossible h = cc
found_member (e ∷ E) n d h = go (is_name (name_of e) n) h (found_member E n d)
  where
    go : (q : Bool) → (if q then Some e else find E n) ≡ Some d → (find E n ≡ Some d → Member d E) → Member d (e ∷ E)
    go true k f = let same : e ≡ d = cc in inl (sym same)
    go false k f = inr (f k)

-- a name that isn't found is no member's
pub member_other : (E : List Declaration) (n : List ℕ) (d : Declaration) → find E n ≡ None → Member d E → name_of d ≡ n → ⊥
member_other [] n d h m e = m
member_other (c ∷ E) n d h (inl q) e = absurd (differ (own_name (name_of c)))
  where
    parts : (is_name (name_of c) n ≡ false) × (find E n ≡ None)
    parts = not_found c E n h

    other : is_name (name_of c) (name_of c) ≡ false
    other = subst (λ z. is_name (name_of c) z ≡ false) (sym (ap name_of (sym q) ∙ e)) parts.0

    differ : is_name (name_of c) (name_of c) ≡ true → ⊥
    differ t = let f : false ≡ true = sym other ∙ t in cc
member_other (c ∷ E) n d h (inr m) e = member_other E n d (not_found c E n h).1 m e

-- a member is what its name finds
pub member_found : (E : List Declaration) → Environment E → (d : Declaration) → Member d E → find E (name_of d) ≡ Some d
member_found [] x d m = absurd m
member_found (c ∷ E) x d (inl q) =
    subst (λ z. find (c ∷ E) (name_of z) ≡ Some z) (sym q) (ap (λ r. if r then Some c else find E (name_of c)) (own_name (name_of c)))
member_found (c ∷ E) x d (inr m) = go (is_name (name_of c) (name_of d)) refl (member_found E x.2 d m)
  where
    go : (q : Bool) → is_name (name_of c) (name_of d) ≡ q → find E (name_of d) ≡ Some d
        → (if q then Some c else find E (name_of d)) ≡ Some d
    go true e f = absurd (member_other E (name_of c) d x.0 m (sym (one_name (name_of c) (name_of d) e)))
    go false e f = f
