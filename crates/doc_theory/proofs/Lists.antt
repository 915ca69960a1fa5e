-- Lists: joined, chosen, and numbers in them.
use Rattle.std.proofs.Common.{◌≡◌, ◌⊎◌, inl, inr, ℕ, nat_eq, List, [], ◌∷◌, ◌++◌, Bool, true, false, if◌then◌else◌, refl, sym, subst}
use Rattle.line_theory.specs.Lists.{Every, has, chosen}
use Rattle.line_theory.proofs.Lists.{no, test_equal, has_parts}
use Rattle.doc_theory.specs.Lists.{Member}

pub test_is : (m n : ℕ) → nat_eq n m ≡ true → m ≡ n
test_is m n h = sym (test_equal n m h)

pub member_left : {A : Type 0} (x : A) (a b : List A) → Member x a → Member x (a ++ b)
member_left x [] b h = absurd h
member_left x (y ∷ a) b (inl h) = inl h
member_left x (y ∷ a) b (inr h) = inr (member_left x a b h)

pub member_right : {A : Type 0} (x : A) (a b : List A) → Member x b → Member x (a ++ b)
member_right x [] b h = h
member_right x (y ∷ a) b h = inr (member_right x a b h)

pub member_parts : {A : Type 0} (x : A) (a b : List A) → Member x (a ++ b) → Member x a ⊎ Member x b
member_parts x [] b h = inr h
member_parts x (y ∷ a) b (inl h) = inl (inl h)
member_parts x (y ∷ a) b (inr h) = go (member_parts x a b h)
  where
    go : Member x a ⊎ Member x b → Member x (y ∷ a) ⊎ Member x b
    go (inl k) = inl (inr k)
    go (inr k) = inr k

pub every_of : {A : Type 0} (P : A → Type 0) (xs : List A) → ((x : A) → Member x xs → P x) → Every P xs
every_of P [] h = tt
every_of P (x ∷ xs) h = (h x (inl refl), every_of P xs (λ y m. h y (inr m)))

pub every_at : {A : Type 0} (P : A → Type 0) (xs : List A) → Every P xs → (x : A) → Member x xs → P x
every_at P [] h x m = absurd m
every_at P (y ∷ ys) h x (inl e) = subst P (sym e) h.0
every_at P (y ∷ ys) h x (inr m) = every_at P ys h.1 x m

pub every_map : {A : Type 0} (P Q : A → Type 0) (xs : List A) → ((x : A) → P x → Q x) → Every P xs → Every Q xs
every_map P Q [] f h = tt
every_map P Q (x ∷ xs) f h = (f x h.0, every_map P Q xs f h.1)

-- what a test leaves passes it, and was there
pub chosen_member : {A : Type 0} (p : A → Bool) (xs : List A) (x : A) → Member x (chosen p xs) → Member x xs × (p x ≡ true)
chosen_member p [] x h = absurd h
chosen_member p (y ∷ ys) x h = go (p y) refl (chosen_member p ys x) h
  where
    go : (b : Bool) → p y ≡ b → (Member x (chosen p ys) → Member x ys × (p x ≡ true))
        → Member x (if b then y ∷ chosen p ys else chosen p ys) → Member x (y ∷ ys) × (p x ≡ true)
    go true e rest (inl k) = (inl k, subst (λ z. p z ≡ true) (sym k) e)
    go true e rest (inr k) = let r = rest k in (inr r.0, r.1)
    go false e rest k = let r = rest k in (inr r.0, r.1)

pub has_none : (n : ℕ) (a : List ℕ) → has n (a ++ []) ≡ true → has n a ≡ true
has_none n a h = go (has_parts n a [] h)
  where
    go : (has n a ≡ true) ⊎ (false ≡ true) → has n a ≡ true
    go (inl k) = k
    go (inr k) = no k
