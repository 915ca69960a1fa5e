-- Lists of numbers: what is in them, and what one change keeps.
use Rattle.std.proofs.Common.{
  ◌≡◌,
  ◌⊎◌,
  inl,
  inr,
  ℕ,
  nat_eq,
  ◌||◌,
  List,
  [],
  ◌∷◌,
  ◌++◌,
  Bool,
  true,
  false,
  not,
  if◌then◌else◌,
  refl,
  sym,
  ap,
  subst,
  ◌∙◌,
  true≢false,
  arith,
  append-nil,
}
use Rattle.std.proofs.lemmas.Bool.Decides.{nat_tests}
use Rattle.line_theory.specs.Lists.{has, Distinct, chosen, missing_in, Every, IsCut, IsGrown}

pub no : {A : Type 0} → false ≡ true → A
no h = absurd (true≢false (sym h))

pub test_same : (n : ℕ) → nat_eq n n ≡ true
test_same n = grind (arith, nat_tests)

pub test_equal : (m n : ℕ) → nat_eq m n ≡ true → m ≡ n
test_equal m n h = grind (arith, nat_tests)

pub test_back : (m n : ℕ) → nat_eq m n ≡ false → nat_eq n m ≡ false
test_back m n h = grind (arith, nat_tests)

pub either_true : (a b : Bool) → (a || b) ≡ true → (a ≡ true) ⊎ (b ≡ true)
either_true true b h = inl refl
either_true false b h = inr h

pub not_either : (a b : Bool) → (a || b) ≡ false → (a ≡ false) × (b ≡ false)
not_either true b h = no (sym h)
not_either false b h = (refl, h)

pub left_true : (a b : Bool) → a ≡ true → (a || b) ≡ true
left_true true b h = refl
left_true false b h = no h

pub right_true : (a b : Bool) → b ≡ true → (a || b) ≡ true
right_true true b h = refl
right_true false b h = h

-- ---- what is in a list

pub has_join : (n : ℕ) (a b : List ℕ) → has n (a ++ b) ≡ (has n a || has n b)
has_join n [] b = refl
has_join n (m ∷ a) b = ap (λ z. nat_eq n m || z) (has_join n a b) ∙ sym (assoc (nat_eq n m) (has n a) (has n b))
  where
    assoc : (x y z : Bool) → ((x || y) || z) ≡ (x || (y || z))
    assoc true y z = refl
    assoc false y z = refl

pub has_parts : (n : ℕ) (a b : List ℕ) → has n (a ++ b) ≡ true → (has n a ≡ true) ⊎ (has n b ≡ true)
has_parts n a b h = either_true (has n a) (has n b) (sym (has_join n a b) ∙ h)

pub has_left : (n : ℕ) (a b : List ℕ) → has n a ≡ true → has n (a ++ b) ≡ true
has_left n a b h = has_join n a b ∙ left_true (has n a) (has n b) h

pub has_right : (n : ℕ) (a b : List ℕ) → has n b ≡ true → has n (a ++ b) ≡ true
has_right n a b h = has_join n a b ∙ right_true (has n a) (has n b) h

pub absent_parts : (n : ℕ) (a b : List ℕ) → has n (a ++ b) ≡ false → (has n a ≡ false) × (has n b ≡ false)
absent_parts n a b h = not_either (has n a) (has n b) (sym (has_join n a b) ∙ h)

pub absent_join : (n : ℕ) (a b : List ℕ) → has n a ≡ false → has n b ≡ false → has n (a ++ b) ≡ false
absent_join n a b h k = has_join n a b ∙ (λ i. h i || k i)

-- ---- every

pub every_join : {A : Type 0} (P : A → Type 0) (a b : List A) → Every P a → Every P b → Every P (a ++ b)
every_join P [] b h k = k
every_join P (x ∷ a) b h k = (h.0, every_join P a b h.1 k)

pub every_parts : {A : Type 0} (P : A → Type 0) (a b : List A) → Every P (a ++ b) → Every P a × Every P b
every_parts P [] b h = (tt, h)
every_parts P (x ∷ a) b h = let r = every_parts P a b h.1 in ((h.0, r.0), r.1)

-- ---- distinct

pub distinct_back : (a b : List ℕ) → Distinct (a ++ b) → Distinct b
distinct_back [] b h = h
distinct_back (x ∷ a) b h = distinct_back a b h.1

pub distinct_less : (p g q : List ℕ) → Distinct (p ++ (g ++ q)) → Distinct (p ++ q)
distinct_less [] g q h = distinct_back g q h
distinct_less (x ∷ p) g q h = let r = absent_parts x p (g ++ q) h.0 in (
  absent_join x p q r.0 (absent_parts x g q r.1).1,
  distinct_less p g q h.1,
)

pub distinct_more : (n : ℕ) (p q : List ℕ) → has n (p ++ q) ≡ false → Distinct (p ++ q) → Distinct (p ++ (n ∷ q))
distinct_more n [] q e h = (e, h)
distinct_more n (x ∷ p) q e h =
    let r = absent_parts x p q h.0 in
    let s = not_either (nat_eq n x) (has n (p ++ q)) e in
    (absent_join x p (n ∷ q) r.0 ((λ i. test_back n x s.0 i || r.1 i)), distinct_more n p q s.1 h.1)

pub cut_distinct : (old new : List ℕ) → IsCut old new → Distinct old → Distinct new
cut_distinct old new c h = subst Distinct (sym c.is) (distinct_less c.front c.gone c.back (subst Distinct c.was h))

pub grown_distinct : (n : ℕ) (old new : List ℕ) → IsGrown n old new → has n old ≡ false → Distinct old → Distinct new
grown_distinct n old new g e h = subst Distinct (sym g.is) (distinct_more n g.front g.back (sym (ap (has n) g.was) ∙ e)
    (subst Distinct g.was h))

-- ---- what goes

chosen_join : (p : ℕ → Bool) (a b : List ℕ) → chosen p (a ++ b) ≡ chosen p a ++ chosen p b
chosen_join p [] b = refl
chosen_join p (x ∷ a) b = go (p x) (chosen_join p a b)
  where
    go : (t : Bool) → chosen p (a ++ b) ≡ chosen p a ++ chosen p b
        → (if t then x ∷ chosen p (a ++ b) else chosen p (a ++ b)) ≡ (if t then x ∷ chosen p a else chosen p a) ++ chosen p b
    go true e = ap (λ z. x ∷ z) e
    go false e = e

-- none of what is there is missing
chosen_none : (p : ℕ → Bool) (a : List ℕ) → Every (λ n. p n ≡ false) a → chosen p a ≡ []
chosen_none p [] h = refl
chosen_none p (x ∷ a) h = ap (λ t. if t then x ∷ chosen p a else chosen p a) h.0 ∙ chosen_none p a h.1

chosen_all : (p : ℕ → Bool) (a : List ℕ) → Every (λ n. p n ≡ true) a → chosen p a ≡ a
chosen_all p [] h = refl
chosen_all p (x ∷ a) h = ap (λ t. if t then x ∷ chosen p a else chosen p a) h.0 ∙ ap (λ z. x ∷ z) (chosen_all p a h.1)

there : (new a : List ℕ) → ((n : ℕ) → has n a ≡ true → has n new ≡ true) → Every (λ n. not (has n new) ≡ false) a
there new [] f = tt
there new (x ∷ a) f = (
  ap not (f x (left_true (nat_eq x x) (has x a) (test_same x))),
  there new a (λ n h. f n (right_true (nat_eq n x) (has n a) h)),
)

gone_of : (f g b : List ℕ) → Distinct (f ++ (g ++ b)) → Every (λ n. not (has n (f ++ b)) ≡ true) g
gone_of f [] b h = tt
gone_of f (x ∷ g) b h = (
  ap not (absent_join x f b (front f h) (absent_parts x g b (distinct_back f (x ∷ (g ++ b)) h).0).1),
  gone_of f g b (distinct_less f (x ∷ []) (g ++ b) h),
)
  where
    front : (f : List ℕ) → Distinct (f ++ (x ∷ (g ++ b))) → has x f ≡ false
    front [] k = refl
    front (y ∷ f) k = λ i. test_back y x (not_either (nat_eq y x) (has y (g ++ b)) (absent_parts y f (x ∷ (g ++ b)) k.0).1).0 i
        || front f k.1 i

-- where no number is twice, what isn't there any more is the piece that went
pub cut_gone : (old new : List ℕ) (c : IsCut old new) → Distinct old → missing_in new old ≡ c.gone
cut_gone old new c h =
    (λ i. missing_in (c.is i) (c.was i))
    ∙ chosen_join test c.front (c.gone ++ c.back)
    ∙ ap (λ z. z ++ chosen test (c.gone ++ c.back))
    (chosen_none test c.front (there (c.front ++ c.back) c.front (λ n k. has_left n c.front c.back k)))
    ∙ chosen_join test c.gone c.back
    ∙ (λ i. chosen_all test c.gone (gone_of c.front c.gone c.back (subst Distinct c.was h)) i ++ chosen_none test c.back
    (there (c.front ++ c.back) c.back (λ n k. has_right n c.front c.back k)) i)
    ∙ append-nil c.gone
  where
    test : ℕ → Bool
    test n = not (has n (c.front ++ c.back))
