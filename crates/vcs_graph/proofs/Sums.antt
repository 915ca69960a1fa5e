-- Sums of runs of sizes.
use Rattle.std.proofs.Common.{
  ◌≡◌,
  ◌⊎◌,
  inl,
  inr,
  ℕ,
  zero,
  suc,
  ◌+◌,
  ◌-◌,
  ◌<◌,
  ◌≤◌,
  List,
  [],
  ◌∷◌,
  ◌++◌,
  length,
  take,
  get_or,
  slice_set,
  refl,
  sym,
  ap,
  subst,
  ◌∙◌,
  arith,
  ◌^◌,
  length-append,
  length-take,
  length-set,
}
use Rattle.std.proofs.lemmas.List.{get_or-set_same, get_or-set_other, get_or-take}
use Rattle.std.proofs.Math.ListN.{get_or-append}
use Rattle.std.proofs.Math.Seq.{get_or-append_seam}
use Rattle.vcs_graph.specs.Sums.{sum_to, doubled, IsRun, IsSums, EndsRun}

-- ---- doubling

pub doubled_zero : (j : ℕ) → doubled j 0 ≡ 0
doubled_zero zero = refl
doubled_zero (suc j) = omega (arith, doubled_zero j)

pub doubled_add : (j a b : ℕ) → doubled j (a + b) ≡ doubled j a + doubled j b
doubled_add zero a b = refl
doubled_add (suc j) a b = omega (arith, doubled_add j a b)

pub doubled_one : (j : ℕ) → 1 ≤ doubled j 1
doubled_one zero = omega arith
doubled_one (suc j) = omega (arith, doubled_one j)

pub doubled_le : (j a b : ℕ) → a ≤ b → doubled j a ≤ doubled j b
doubled_le j a b h =
    let e : b ≡ a + (b - a) = omega arith in
    let f : doubled j b ≡ doubled j (a + (b - a)) = ap (doubled j) e in
    omega (arith, f, doubled_add j a (b - a))

-- one more is a run more
pub doubled_more : (j n : ℕ) → doubled j (n + 1) ≡ doubled j n + doubled j 1
doubled_more j n = doubled_add j n 1

pub doubled_twice : (j n : ℕ) → doubled (suc j) n ≡ doubled j (n + n)
doubled_twice j n = sym (doubled_add j n n)

pub doubled_up : (k l d n : ℕ) → k ≡ l + d → doubled k n ≡ doubled l (doubled d n)
doubled_up k zero d n e = let f : k ≡ d = omega arith in ap (λ y. doubled y n) f
doubled_up zero (suc l) d n e = absurd (omega arith)
doubled_up (suc k) (suc l) d n e = omega (arith, doubled_up k l d n (omega arith))

-- no number is an odd one doubled in two ways
pub one_run : (j m k n : ℕ) → doubled j (m + m + 1) ≡ doubled k (n + n + 1) → (j ≡ k) × (m ≡ n)
one_run zero m zero n e = (refl, omega arith)
one_run zero m (suc k) n e = absurd (odd (doubled k (n + n + 1)) e)
  where
    odd : (u : ℕ) → m + m + 1 ≡ u + u → ⊥
    odd u e = omega arith
one_run (suc j) m zero n e = absurd (odd (doubled j (m + m + 1)) e)
  where
    odd : (u : ℕ) → u + u ≡ n + n + 1 → ⊥
    odd u e = omega arith
one_run (suc j) m (suc k) n e =
    let r = one_run j m k n (half (doubled j (m + m + 1)) (doubled k (n + n + 1)) e) in
    (ap suc r.0, r.1)
  where
    half : (u v : ℕ) → u + u ≡ v + v → u ≡ v
    half u v e = omega arith

-- ---- sums

pub sum_to_le : (n k : ℕ) (xs : List ℕ) → n ≤ k → sum_to n xs ≤ sum_to k xs
sum_to_le zero k xs h = omega arith
sum_to_le (suc n) zero xs h = absurd (omega arith)
sum_to_le (suc n) (suc k) [] h = omega arith
sum_to_le (suc n) (suc k) (x ∷ xs) h = omega (arith, sum_to_le n k xs (omega arith))

pub sum_to_gap : (n p k : ℕ) (xs : List ℕ) → n ≤ p → p < k → sum_to n xs + get_or xs p 0 ≤ sum_to k xs
sum_to_gap n p zero xs h g = absurd (omega arith)
sum_to_gap zero p (suc k) [] h g = omega arith
sum_to_gap (suc n) p (suc k) [] h g = omega arith
sum_to_gap zero zero (suc k) (x ∷ xs) h g = omega arith
sum_to_gap zero (suc p) (suc k) (x ∷ xs) h g = omega (arith, sum_to_gap zero p k xs (omega arith) (omega arith))
sum_to_gap (suc n) zero (suc k) (x ∷ xs) h g = absurd (omega arith)
sum_to_gap (suc n) (suc p) (suc k) (x ∷ xs) h g = omega (arith, sum_to_gap n p k xs (omega arith) (omega arith))

pub set_before : (n p v : ℕ) (xs : List ℕ) → n ≤ p → sum_to n (slice_set xs p v) ≡ sum_to n xs
set_before zero p v xs h = refl
set_before (suc n) p v [] h = refl
set_before (suc n) zero v (x ∷ xs) h = absurd (omega arith)
set_before (suc n) (suc p) v (x ∷ xs) h = ap (λ y. x + y) (set_before n p v xs (omega arith))

pub set_behind : (n p v : ℕ) (xs : List ℕ) → p < n → p < length xs → sum_to n (slice_set xs p v) + get_or xs p 0 ≡ sum_to n xs + v
set_behind zero p v xs h g = absurd (omega arith)
set_behind (suc n) p v [] h g = absurd (omega arith)
set_behind (suc n) zero v (x ∷ xs) h g = omega arith
set_behind (suc n) (suc p) v (x ∷ xs) h g = omega (arith, set_behind n p v xs (omega arith) (omega arith))

pub sum_to_take : (n k : ℕ) (xs : List ℕ) → n ≤ k → sum_to n (take k xs) ≡ sum_to n xs
sum_to_take zero k xs h = refl
sum_to_take (suc n) zero xs h = absurd (omega arith)
sum_to_take (suc n) (suc k) [] h = refl
sum_to_take (suc n) (suc k) (x ∷ xs) h = ap (λ y. x + y) (sum_to_take n k xs (omega arith))

pub sum_to_append : (n : ℕ) (xs ys : List ℕ) → n ≤ length xs → sum_to n (xs ++ ys) ≡ sum_to n xs
sum_to_append zero xs ys h = refl
sum_to_append (suc n) [] ys h = absurd (omega arith)
sum_to_append (suc n) (x ∷ xs) ys h = ap (λ y. x + y) (sum_to_append n xs ys (omega arith))

pub sum_to_push : (n y : ℕ) (xs : List ℕ) → n ≡ length xs → sum_to (n + 1) (xs ++ (y ∷ [])) ≡ sum_to n xs + y
sum_to_push n y xs e =
    let f : n + 1 ≡ suc (length xs) = omega arith in
    ap (λ k. sum_to k (xs ++ (y ∷ []))) f ∙ (go xs ∙ ap (λ k. sum_to k xs + y) (sym e))
  where
    go : (xs : List ℕ) → sum_to (suc (length xs)) (xs ++ (y ∷ [])) ≡ sum_to (length xs) xs + y
    go [] = omega arith
    go (x ∷ xs) = omega (arith, go xs)

-- ---- the sum of the first ones, run by run

pub record Front (sizes : List ℕ) (count left rest run total : ℕ) : Type 0 where
  pub level : ℕ
  pub is_left : left ≡ doubled level rest
  pub is_run : run ≡ doubled level 1
  pub is_total : total + sum_to left sizes ≡ sum_to count sizes
  pub within : left ≤ length sizes

module _ {sizes : List ℕ} {count left rest run total : ℕ} (f : Front sizes count left rest run total) where
  pub front_even : (h twice : ℕ) → rest ≡ h + h → twice ≡ run + run → Front sizes count left h twice total
  front_even h twice e t = record {
    level = suc f.level;
    is_left = f.is_left ∙ (ap (doubled f.level) e ∙ sym (doubled_twice f.level h));
    is_run = omega (arith, f.is_run);
    is_total = f.is_total;
    within = f.within;
  }

  -- the run stands in what is left, and is not longer
  pub front_run : 0 < rest → (1 ≤ run) × (run ≤ left)
  front_run h = (
    omega (arith, f.is_run, doubled_one f.level),
    omega (arith, f.is_run, f.is_left, doubled_le f.level 1 rest (omega arith)),
  )

  -- what is added is within the whole
  pub front_small : {sums : List ℕ} → IsSums sums sizes → (h x : ℕ) → rest ≡ h + h + 1 → x ≡ get_or sums (left - 1) 0
      → (x + sum_to (left - run) sizes ≡ sum_to left sizes) × (left - run ≡ doubled f.level (h + h))
  front_small {sums = sums} s h x e xe =
      let l : left ≡ doubled f.level (h + h + 1) = f.is_left ∙ ap (doubled f.level) e in
      let m : left - run ≡ doubled f.level (h + h) = omega (arith, l, f.is_run, doubled_more f.level (h + h)) in
      let r = s.runs f.level h (omega (arith, l, f.within)) in
      let a : x ≡ get_or sums (doubled f.level (h + h + 1) - 1) 0 = xe ∙ ap (λ y. get_or sums (y - 1) 0) l in
      let b : sum_to (left - run) sizes ≡ sum_to (doubled f.level (h + h)) sizes = ap (λ y. sum_to y sizes) m in
      let c : sum_to left sizes ≡ sum_to (doubled f.level (h + h + 1)) sizes = ap (λ y. sum_to y sizes) l in
      (omega (arith, r, a, b, c), m)

  pub front_odd : {sums : List ℕ} → IsSums sums sizes → (h x twice : ℕ) → rest ≡ h + h + 1 → x ≡ get_or sums (left - 1) 0
      → twice ≡ run + run → Front sizes count (left - run) h twice (total + x)
  front_odd s h x twice e xe t = let q = front_small s h x e xe in record {
    level = suc f.level;
    is_left = q.1 ∙ sym (doubled_twice f.level h);
    is_run = omega (arith, f.is_run);
    is_total = omega (arith, q.0, f.is_total);
    within = omega (arith, f.within);
  }

pub front_ends : {sizes : List ℕ} {count left rest run total : ℕ} → Front sizes count left rest run total → rest ≡ 0 →
    total ≡ sum_to count sizes
front_ends {sizes = sizes} {left = left} f e =
    let l : left ≡ 0 = f.is_left ∙ (ap (doubled f.level) e ∙ doubled_zero f.level) in
    let z : sum_to left sizes ≡ 0 = ap (λ y. sum_to y sizes) l in
    omega (arith, z, f.is_total)

-- ---- a size that changes

run_before : (sums sizes : List ℕ) (p v j m : ℕ) → doubled j (m + m + 1) ≤ p → IsRun sums sizes j m → IsRun sums (slice_set sizes p v) j m
run_before sums sizes p v j m h r = omega (
  arith,
  r,
  set_before (doubled j (m + m + 1)) p v sizes h,
  set_before (doubled j (m + m)) p v sizes (omega (arith, doubled_le j (m + m) (m + m + 1) (omega arith))),
)

run_behind : (sums sizes : List ℕ) (p v j m : ℕ) → p < doubled j (m + m) → p < length sizes → IsRun sums sizes j m
    → IsRun sums (slice_set sizes p v) j m
run_behind sums sizes p v j m h g r = omega (
  arith,
  r,
  set_behind (doubled j (m + m + 1)) p v sizes (omega (arith, doubled_le j (m + m) (m + m + 1) (omega arith))) g,
  set_behind (doubled j (m + m)) p v sizes h g,
)

run_other : (sums sizes : List ℕ) (i w j m : ℕ) → (doubled j (m + m + 1) - 1 ≡ i → ⊥) → IsRun sums sizes j m
    → IsRun (slice_set sums i w) sizes j m
run_other sums sizes i w j m h r = ap (λ y. y + sum_to (doubled j (m + m)) sizes)
    (get_or-set_other sums i (doubled j (m + m + 1) - 1) w 0 h) ∙ r

run_here : (sums sizes : List ℕ) (i p v w j m : ℕ) → i ≡ doubled j (m + m + 1) - 1 → i < length sums → doubled j (m + m) ≤ p →
    p < doubled j (m + m + 1) → p < length sizes → w ≡ get_or sums i 0 - get_or sizes p 0 + v → IsRun sums sizes j m
    → IsRun (slice_set sums i w) (slice_set sizes p v) j m
run_here sums sizes i p v w j m e n h k g we r =
    let a : get_or (slice_set sums i w) (doubled j (m + m + 1) - 1) 0 ≡ w =
    ap (λ y. get_or (slice_set sums i w) y 0) (sym e) ∙ get_or-set_same sums i w 0 n in
    let b : get_or sums i 0 ≡ get_or sums (doubled j (m + m + 1) - 1) 0 = ap (λ y. get_or sums y 0) e in
    omega (
      arith,
      a,
      b,
      r,
      set_before (doubled j (m + m)) p v sizes h,
      set_behind (doubled j (m + m + 1)) p v sizes k g,
      sum_to_gap (doubled j (m + m)) p (doubled j (m + m + 1)) sizes h k,
    )

pub record Setting (sums sizes : List ℕ) (p v right rest run : ℕ) : Type 0 where
  pub level : ℕ
  pub is_right : right ≡ doubled level (rest + 1)
  pub is_run : run ≡ doubled level 1
  pub low : doubled level rest ≤ p
  pub high : p < right
  pub same : length sums ≡ length sizes
  pub done : (j m : ℕ) → j < level → doubled j (m + m + 1) ≤ length sizes → IsRun sums (slice_set sizes p v) j m
  pub left : (j m : ℕ) → level ≤ j → doubled j (m + m + 1) ≤ length sizes → IsRun sums sizes j m

below_or : (x y : ℕ) → (x < y) ⊎ (y ≤ x)
below_or x zero = inr (omega arith)
below_or zero (suc y) = inl (omega arith)
below_or (suc x) (suc y) = up (below_or x y)
  where
    up : (x < y) ⊎ (y ≤ x) → (suc x < suc y) ⊎ (suc y ≤ suc x)
    up (inl h) = inl (omega arith)
    up (inr h) = inr (omega arith)

module _ {sums sizes : List ℕ} {p v right rest run : ℕ} (f : Setting sums sizes p v right rest run) (inside : p < length sizes) where
  -- the run isn't longer than what stands up to its end
  pub setting_run : (1 ≤ run) × (run ≤ right)
  setting_run = (
    omega (arith, f.is_run, doubled_one f.level),
    omega (arith, f.is_run, f.is_right, doubled_le f.level 1 (rest + 1) (omega arith)),
  )

  -- what stands at the end of the run has the size that changes
  pub setting_holds : (h : ℕ) → rest ≡ h + h → right ≤ length sizes → get_or sizes p 0 ≤ get_or sums (right - 1) 0
  setting_holds h e within =
      let a : doubled f.level (h + h) ≤ p = subst (λ y. doubled f.level y ≤ p) e f.low in
      let b : right ≡ doubled f.level (h + h + 1) = f.is_right ∙ ap (λ y. doubled f.level (y + 1)) e in
      let r = f.left f.level h (omega arith) (omega (arith, b)) in
      let c : get_or sums (right - 1) 0 ≡ get_or sums (doubled f.level (h + h + 1) - 1) 0 = ap (λ y. get_or sums (y - 1) 0) b in
      omega (arith, r, c, sum_to_gap (doubled f.level (h + h)) p (doubled f.level (h + h + 1)) sizes a (omega (arith, b, f.high)))

  -- the sum with the new size is within the whole
  pub setting_small : (h : ℕ) → rest ≡ h + h → right ≤ length sizes → get_or sums (right - 1) 0 - get_or sizes p 0 + v ≤ sum_to
      (length sizes) (slice_set sizes p v)
  setting_small h e within =
      let b : right ≡ doubled f.level (h + h + 1) = f.is_right ∙ ap (λ y. doubled f.level (y + 1)) e in
      let r = f.left f.level h (omega arith) (omega (arith, b)) in
      let c : get_or sums (right - 1) 0 ≡ get_or sums (doubled f.level (h + h + 1) - 1) 0 = ap (λ y. get_or sums (y - 1) 0) b in
      omega (
        arith,
        r,
        c,
        setting_holds h e within,
        set_behind (doubled f.level (h + h + 1)) p v sizes (omega (arith, b, f.high)) inside,
        sum_to_le (doubled f.level (h + h + 1)) (length sizes) (slice_set sizes p v) (omega (arith, b)),
      )

  pub setting_even : (h w twice more : ℕ) → rest ≡ h + h → right ≤ length sizes → w ≡ get_or sums (right - 1) 0 - get_or sizes p 0
      + v → twice ≡ run + run → more ≡ right + run → Setting (slice_set sums (right - 1) w) sizes p v more h twice
  setting_even h w twice more e within we te me = record {
    level = suc f.level;
    is_right = omega (arith, b, f.is_run, doubled_more f.level (h + h + 1), ap (doubled f.level) shift, doubled_twice f.level (h + 1));
    is_run = omega (arith, f.is_run);
    low = omega (arith, a, doubled_twice f.level h);
    high = omega (arith, f.high);
    same = length-set sums (right - 1) w ∙ f.same;
    done = λ j m k g. done j m g (below_or j f.level) k;
    left = λ j m k g. run_other sums sizes (right - 1) w j m (apart j m (omega arith)) (f.left j m (omega arith) g);
  }
    where
      a : doubled f.level (h + h) ≤ p
      a = subst (λ y. doubled f.level y ≤ p) e f.low

      b : right ≡ doubled f.level (h + h + 1)
      b = f.is_right ∙ ap (λ y. doubled f.level (y + 1)) e

      shift : h + h + 1 + 1 ≡ h + 1 + (h + 1)
      shift = omega arith

      some : (j m : ℕ) → 1 ≤ doubled j (m + m + 1)
      some j m = omega (arith, doubled_one j, doubled_le j 1 (m + m + 1) (omega arith))

      apart : (j m : ℕ) → (j ≡ f.level → ⊥) → doubled j (m + m + 1) - 1 ≡ right - 1 → ⊥
      apart j m n q =
          let u : doubled j (m + m + 1) ≡ doubled f.level (h + h + 1) = omega (arith, q, b, some j m, some f.level h) in
          n (one_run j m f.level h u).0

      level : (m : ℕ) → doubled f.level (m + m + 1) ≤ length sizes → ((m < h) ⊎ (h ≤ m)) → ((h < m) ⊎ (m ≤ h))
          → IsRun (slice_set sums (right - 1) w) (slice_set sizes p v) f.level m
      level m g (inl x) y = run_other sums (slice_set sizes p v) (right - 1) w f.level m
          (λ q. let u : doubled f.level (m + m + 1) ≡ doubled f.level (h + h + 1) = omega (arith, q, b, some f.level m, some f.level h) in
          let z = (one_run f.level m f.level h u).1 in omega (arith, z))
          (run_before sums sizes p v f.level m
          (omega (arith, a, doubled_le f.level (m + m + 1) (h + h) (omega arith))) (f.left f.level m (omega arith) g))
      level m g (inr x) (inl y) = run_other sums (slice_set sizes p v) (right - 1) w f.level m
          (λ q. let u : doubled f.level (m + m + 1) ≡ doubled f.level (h + h + 1) = omega (arith, q, b, some f.level m, some f.level h) in
          let z = (one_run f.level m f.level h u).1 in omega (arith, z))
          (run_behind sums sizes p v f.level m
          (omega (arith, b, f.high, doubled_le f.level (h + h + 1) (m + m) (omega arith))) inside (f.left f.level m (omega arith) g))
      level m g (inr x) (inr y) =
          let z : h ≡ m = omega arith in
          subst (λ y. IsRun (slice_set sums (right - 1) w) (slice_set sizes p v) f.level y) z
          (run_here sums sizes (right - 1) p v w f.level h (ap (λ y. y - 1) b) (omega (arith, f.same, b, some f.level h)) a
          (omega (arith, b, f.high)) inside we (f.left f.level h (omega arith) (omega (arith, b))))

      done : (j m : ℕ) → doubled j (m + m + 1) ≤ length sizes → ((j < f.level) ⊎ (f.level ≤ j)) → j < suc f.level
          → IsRun (slice_set sums (right - 1) w) (slice_set sizes p v) j m
      done j m g (inl x) k = run_other sums (slice_set sizes p v) (right - 1) w j m (apart j m (λ q. omega (arith, q))) (f.done j m x g)
      done j m g (inr x) k =
          let z : f.level ≡ j = omega arith in
          subst (λ y. IsRun (slice_set sums (right - 1) w) (slice_set sizes p v) y m) z
          (level m (subst (λ y. doubled y (m + m + 1) ≤ length sizes) (sym z) g) (below_or m h) (below_or h m))

  pub setting_odd : (h twice : ℕ) → rest ≡ h + h + 1 → twice ≡ run + run → Setting sums sizes p v right h twice
  setting_odd h twice e te = record {
    level = suc f.level;
    is_right = b ∙ sym (doubled_twice f.level (h + 1));
    is_run = omega (arith, f.is_run);
    low = omega (arith, a, doubled_more f.level (h + h), doubled_twice f.level h);
    high = f.high;
    same = f.same;
    done = λ j m k g. done j m g (below_or j f.level) k;
    left = λ j m k g. f.left j m (omega arith) g;
  }
    where
      a : doubled f.level (h + h + 1) ≤ p
      a = subst (λ y. doubled f.level y ≤ p) e f.low

      shift : rest + 1 ≡ h + 1 + (h + 1)
      shift = omega arith

      b : right ≡ doubled f.level (h + 1 + (h + 1))
      b = f.is_right ∙ ap (doubled f.level) shift

      level : (m : ℕ) → doubled f.level (m + m + 1) ≤ length sizes → ((h < m) ⊎ (m ≤ h)) → IsRun sums (slice_set sizes p v) f.level m
      level m g (inl x) = run_behind sums sizes p v f.level m
          (omega (arith, b, f.high, doubled_le f.level (h + 1 + (h + 1)) (m + m) (omega arith))) inside (f.left f.level m (omega arith) g)
      level m g (inr x) = run_before sums sizes p v f.level m
          (omega (arith, a, doubled_le f.level (m + m + 1) (h + h + 1) (omega arith))) (f.left f.level m (omega arith) g)

      done : (j m : ℕ) → doubled j (m + m + 1) ≤ length sizes → ((j < f.level) ⊎ (f.level ≤ j)) → j < suc f.level
          → IsRun sums (slice_set sizes p v) j m
      done j m g (inl x) k = f.done j m x g
      done j m g (inr x) k =
          let z : f.level ≡ j = omega arith in
          subst (λ y. IsRun sums (slice_set sizes p v) y m) z
          (level m (subst (λ y. doubled y (m + m + 1) ≤ length sizes) (sym z) g) (below_or h m))

  pub setting_ends : length sizes < right → sum_to (length sizes) (slice_set sizes p v) < 2 ^ 64 → IsSums sums (slice_set sizes p v)
  setting_ends past few = record {
    same = f.same ∙ sym (length-set sizes p v);
    few = rw (length-set sizes p v) few;
    runs = λ j m g. runs j m (rw (length-set sizes p v) at g) (below_or j f.level);
  }
    where
      runs : (j m : ℕ) → doubled j (m + m + 1) ≤ length sizes → ((j < f.level) ⊎ (f.level ≤ j)) → IsRun sums (slice_set sizes p v) j m
      runs j m g (inl x) = f.done j m x g
      runs j m g (inr x) = run_before sums sizes p v j m (before (below_or rest (doubled (j - f.level) (m + m + 1)))) (f.left j m x g)
        where
          u : doubled j (m + m + 1) ≡ doubled f.level (doubled (j - f.level) (m + m + 1))
          u = doubled_up j f.level (j - f.level) (m + m + 1) (omega arith)

          before : (rest < doubled (j - f.level) (m + m + 1)) ⊎ (doubled (j - f.level) (m + m + 1) ≤ rest) → doubled j (m + m + 1) ≤ p
          before (inl y) = absurd (omega (
            arith,
            u,
            f.is_right,
            doubled_le f.level (rest + 1) (doubled (j - f.level) (m + m + 1))
                (omega arith),
          ))
          before (inr y) = omega (arith, u, f.low, doubled_le f.level (doubled (j - f.level) (m + m + 1)) rest y)

-- ---- a size more, and fewer

pub sums_push : (sums sizes : List ℕ) (size sum run : ℕ) → IsSums sums sizes → EndsRun (length sizes + 1) run
    → sum ≡ sum_to (length sizes) sizes - sum_to (length sizes + 1 - run) sizes + size → sum_to (length sizes) sizes + size < 2 ^ 64
    → IsSums (sums ++ (sum ∷ [])) (sizes ++ (size ∷ []))
sums_push sums sizes size sum run s r e small = record {
  same = omega (arith, length-append sums (sum ∷ []), length-append sizes (size ∷ []), s.same);
  few = rw long (omega (arith, sum_to_push (length sizes) size sizes refl));
  runs = λ j m h. runs j m (rw long at h) (below_or (length sizes) (doubled j (m + m + 1)));
}
  where
    long : length (sizes ++ (size ∷ [])) ≡ length sizes + 1
    long = length-append sizes (size ∷ [])

    some : (j m : ℕ) → 1 ≤ doubled j (m + m + 1)
    some j m = omega (arith, doubled_one j, doubled_le j 1 (m + m + 1) (omega arith))

    last : (j m : ℕ) → doubled j (m + m + 1) ≡ length sizes + 1 → (r.level ≡ j) × (r.half ≡ m) → IsRun (sums ++ (sum ∷ []))
        (sizes ++ (size ∷ [])) j m
    last j m h q =
        let t : run ≡ doubled j 1 = r.is_run ∙ ap (λ y. doubled y 1) q.0 in
        let lo : length sizes + 1 - run ≡ doubled j (m + m) = omega (arith, t, h, doubled_more j (m + m)) in
        let i : doubled j (m + m + 1) - 1 ≡ length sums = omega (arith, h, s.same) in
        let a : get_or (sums ++ (sum ∷ [])) (doubled j (m + m + 1) - 1) 0 ≡ sum =
        ap (λ y. get_or (sums ++ (sum ∷ [])) y 0) i ∙ get_or-append_seam sums sum [] 0 in
        let b : sum_to (doubled j (m + m)) (sizes ++ (size ∷ [])) ≡ sum_to (length sizes + 1 - run) sizes =
        sum_to_append (doubled j (m + m)) sizes (size ∷ []) (omega (arith, lo, t, doubled_one j))
        ∙ ap (λ y. sum_to y sizes) (sym lo) in
        let c : sum_to (doubled j (m + m + 1)) (sizes ++ (size ∷ [])) ≡ sum_to (length sizes) sizes + size =
        ap (λ y. sum_to y (sizes ++ (size ∷ []))) h ∙ sum_to_push (length sizes) size sizes refl in
        let d : sum_to (length sizes + 1 - run) sizes ≤ sum_to (length sizes) sizes =
        sum_to_le (length sizes + 1 - run) (length sizes) sizes (omega (arith, t, doubled_one j)) in
        omega (arith, a, b, c, d)

    runs : (j m : ℕ) → doubled j (m + m + 1) ≤ length sizes + 1 → (length sizes < doubled j (m + m + 1)) ⊎
        (doubled j (m + m + 1) ≤ length sizes) → IsRun (sums ++ (sum ∷ [])) (sizes ++ (size ∷ [])) j m
    runs j m h (inl k) =
        let u : doubled j (m + m + 1) ≡ length sizes + 1 = omega arith in
        last j m u (one_run r.level r.half j m (sym r.is_number ∙ sym u))
    runs j m h (inr k) = omega (
      arith,
      s.runs j m k,
      get_or-append sums (sum ∷ []) 0 (doubled j (m + m + 1) - 1) (omega (arith, some j m, s.same)),
      sum_to_append (doubled j (m + m + 1)) sizes (size ∷ []) k,
      sum_to_append (doubled j (m + m)) sizes (size ∷ []) (omega (arith, doubled_le j (m + m) (m + m + 1) (omega arith))),
    )

pub sums_take : (n : ℕ) (sums sizes : List ℕ) → IsSums sums sizes → IsSums (take n sums) (take n sizes)
sums_take n sums sizes s = record {
  same = omega (arith, length-take n sums, length-take n sizes, s.same);
  few = omega (
    arith,
    s.few,
    sum_to_take (length (take n sizes)) n sizes (omega (arith, length-take n sizes)),
    sum_to_le (length (take n sizes)) (length sizes) sizes (omega (arith, length-take n sizes)),
  );
  runs = λ j m h. omega (
    arith,
    s.runs j m (omega (arith, length-take n sizes)),
    get_or-take n sums (doubled j (m + m + 1) - 1) 0 (omega (arith, length-take n sizes, some j m)),
    sum_to_take (doubled j (m + m + 1)) n sizes (omega (arith, length-take n sizes)),
    sum_to_take (doubled j (m + m)) n sizes (omega (arith, length-take n sizes, doubled_le j (m + m) (m + m + 1) (omega arith))),
  );
}
  where
    some : (j m : ℕ) → 1 ≤ doubled j (m + m + 1)
    some j m = omega (arith, doubled_one j, doubled_le j 1 (m + m + 1) (omega arith))

-- ---- the run that ends at a number

pub record Doubling (number rest run : ℕ) : Type 0 where
  pub level : ℕ
  pub is_number : number ≡ doubled level rest
  pub is_run : run ≡ doubled level 1
  pub some : 0 < rest

module _ {number rest run : ℕ} (f : Doubling number rest run) where
  pub doubling_more : (h twice : ℕ) → rest ≡ h + h → twice ≡ run + run → Doubling number h twice
  doubling_more h twice e t = record {
    level = suc f.level;
    is_number = f.is_number ∙ (ap (doubled f.level) e ∙ sym (doubled_twice f.level h));
    is_run = omega (arith, f.is_run);
    some = omega (arith, f.some);
  }

  pub doubling_run : (1 ≤ run) × (run ≤ number)
  doubling_run = (
    omega (arith, f.is_run, doubled_one f.level),
    omega (arith, f.is_run, f.is_number, doubled_le f.level 1 rest f.some),
  )

  pub doubling_ends : (h : ℕ) → rest ≡ h + h + 1 → EndsRun number run
  doubling_ends h e = record {
    level = f.level;
    half = h;
    is_number = f.is_number ∙ ap (doubled f.level) e;
    is_run = f.is_run;
  }

pub run_within : {number run : ℕ} → EndsRun number run → (1 ≤ run) × (run ≤ number)
run_within r = (
  omega (arith, r.is_run, doubled_one r.level),
  omega (arith, r.is_run, r.is_number, doubled_le r.level 1 (r.half + r.half + 1) (omega arith)),
)
