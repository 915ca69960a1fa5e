-- Lists that grow, and the entries of one author.
use Rattle.std.proofs.Common.{◌≡◌, ◌≢◌, ℕ, ◌<◌, ◌≤◌, eqb, ltb, if◌then◌else◌, true, false, cond, List, [], ◌∷◌, ◌++◌, length, sym, refl}
use Rattle.std.proofs.Common.{ap, ◌∙◌, ne_eqb, eq-eqb, append_assoc, arith}
use Rattle.std.proofs.lemmas.List.Elements.{filter-append}
use Rattle.std.proofs.lemmas.List.{append-nil}
use Rattle.std.specs.Prelude.{filter}
use Rattle.base_core.specs.Lists.{Begins}
use Rattle.doc_lock.specs.Lists.{Each, longer, only, Adds}

module _ {E : Type 0} where
  pub begins_same : (xs : List E) → Begins xs xs
  begins_same xs = ([], sym (append-nil xs))

  pub begins_longer : (xs ys zs : List E) → Begins xs ys → Begins ys zs → Begins xs zs
  begins_longer xs ys zs a b = (a.0 ++ b.0, b.1 ∙ (ap (λ w. w ++ b.0) a.1 ∙ append_assoc xs a.0 b.0))

  pub longer_begins : (xs ys zs : List E) → Begins xs zs → Begins ys zs → Begins (longer xs ys) zs
  longer_begins xs ys zs a b = elim (ltb (length xs) (length ys)) as (λ c. Begins (if c then ys else xs) zs) [ true ↦ b | false ↦ a ]

module _ {X : Type 0} where
  pub each_map : (P Q : X → Type 0) → ((x : X) → P x → Q x) → (xs : List X) → Each P xs → Each Q xs
  each_map P Q f [] h = h
  each_map P Q f (x ∷ xs) h = (f x h.0, each_map P Q f xs h.1)

  pub each_append : (P : X → Type 0) (xs ys : List X) → Each P xs → Each P ys → Each P (xs ++ ys)
  each_append P [] ys a b = b
  each_append P (x ∷ xs) ys a b = (a.0, each_append P xs ys a.1 b)

module _ {E : Type 0} (author : E → ℕ) where
  pub only_nil : (n : ℕ) → only author n [] ≡ []
  unfolding only
  only_nil n = refl

  pub only_append : (n : ℕ) (xs ys : List E) → only author n (xs ++ ys) ≡ only author n xs ++ only author n ys
  unfolding only
  only_append n xs ys = filter-append (λ e. eqb (author e) n) xs ys

  -- others have no entry among those of one author
  pub only_others : (n a : ℕ) (more : List E) → Each (λ e. author e ≡ a) more → n ≢ a → only author n more ≡ []
  unfolding only
  only_others n a [] h ne = refl
  only_others n a (e ∷ es) h ne = let t : eqb (author e) n ≡ false = ne_eqb (author e) n (λ q. ne (sym q ∙ h.0)) in
      ap (λ b. cond b (e ∷ filter (λ e. eqb (author e) n) es) (filter (λ e. eqb (author e) n) es)) t ∙ only_others n a es h.1 ne

  -- a number from m on has no entry where all authors are below m
  pub only_none : (n m : ℕ) (es : List E) → Each (λ e. author e < m) es → m ≤ n → only author n es ≡ []
  unfolding only
  only_none n m [] h le = refl
  only_none n m (e ∷ es) h le = let lt = h.0 in let t : eqb (author e) n ≡ false = ne_eqb (author e) n (λ q. omega arith) in
      ap (λ b. cond b (e ∷ filter (λ e. eqb (author e) n) es) (filter (λ e. eqb (author e) n) es)) t ∙ only_none n m es h.1 le

  -- what one author adds are entries of this author
  pub only_own : (n : ℕ) (more : List E) → Each (λ e. author e ≡ n) more → only author n more ≡ more
  unfolding only
  only_own n [] h = refl
  only_own n (e ∷ es) h = ap (λ b. cond b (e ∷ filter (λ e. eqb (author e) n) es) (filter (λ e. eqb (author e) n) es))
      (eq-eqb (author e) n h.0)
      ∙ ap (λ l. e ∷ l) (only_own n es h.1)

  pub adds_others : (n a : ℕ) (xs ys : List E) → Adds author a xs ys → n ≢ a → only author n ys ≡ only author n xs
  adds_others n a xs ys h ne = ap (only author n) h.1
      ∙ (only_append n xs h.0 ∙ (ap (λ w. only author n xs ++ w) (only_others n a h.0 h.2 ne) ∙ append-nil (only author n xs)))

  -- an author's own entries grow by just what was added
  pub adds_own : (n : ℕ) (xs ys : List E) (h : Adds author n xs ys) → only author n ys ≡ only author n xs ++ h.0
  adds_own n xs ys h = ap (only author n) h.1 ∙ (only_append n xs h.0 ∙ ap (λ w. only author n xs ++ w) (only_own n h.0 h.2))
