-- The root of a tournament has the least number of all places.
use Rattle.std.proofs.Common.{◌≡◌, ℕ, zero, suc, ◌+◌, ◌-◌, ◌*◌, ◌/◌, ◌%◌, ◌<◌, ◌≤◌, ◌⊎◌, inl, inr, List, [], ◌∷◌, length, get_or, drop, arith, get_or-drop, length-drop, refl, sym}
use Rattle.std.proofs.lemmas.Bool.{cases_lt, cases_eq}
use Rattle.task_board.specs.Places.{nothing, least_of}
use Rattle.task_board.specs.Trees.{IsTournament}

least_of-le : (ns : List ℕ) (k : ℕ) → k < length ns → least_of ns ≤ get_or ns k 0
least_of-le [] k h = absurd (omega arith)
least_of-le (n ∷ ns) zero h = omega arith
least_of-le (n ∷ ns) (suc k) h = let on = least_of-le ns k (omega arith) in omega (arith, on)

le-least_of : (m : ℕ) (ns : List ℕ) → m ≤ nothing → ((k : ℕ) → k < length ns → m ≤ get_or ns k 0) → m ≤ least_of ns
le-least_of m [] few h = few
le-least_of m (n ∷ ns) few h = let on = le-least_of m ns few (λ k lt. h (suc k) (omega arith)) in let here : m ≤ n = h 0 (omega arith) in omega (arith, on, here)

module _ (p : ℕ) (nodes : List ℕ) (t : IsTournament p nodes) where
  below : (f j : ℕ) → j ≤ f → 1 ≤ j → j < 2 * p → get_or nodes 1 0 ≤ get_or nodes j 0
  below zero j le one lt = absurd (omega arith)
  below (suc f) j le one lt = elim (cases_lt 1 j) [
    | inl more ↦
        let i : ℕ = j / 2 in
        let up = below f i (omega arith) (omega arith) (omega arith) in
        let won = t.wins i (omega arith) (omega arith) in
        elim (cases_eq j (2 * i)) [
          | inl same ↦ rw same (omega (arith, up, won))
          | inr other ↦ let odd : j ≡ 2 * i + 1 = omega arith in rw odd (omega (arith, up, won))
        ]
    | inr least ↦ let one' : j ≡ 1 = omega arith in rw one' (omega arith)
  ]

  above : (m : ℕ) → ((k : ℕ) → p ≤ k → k < 2 * p → m ≤ get_or nodes k 0) → (f j : ℕ) → 2 * p ≤ j + f → 1 ≤ j → j < 2 * p → m ≤ get_or nodes j 0
  above m leaves zero j far one lt = absurd (omega arith)
  above m leaves (suc f) j far one lt = elim (cases_lt j p) [
    | inl inner ↦
        let won = t.wins j one inner in
        let left = above m leaves f (2 * j) (omega arith) (omega arith) (omega arith) in
        let right = above m leaves f (2 * j + 1) (omega arith) (omega arith) (omega arith) in
        omega (arith, won, left, right)
    | inr leaf ↦ leaves j leaf lt
  ]

  pub root-least : 0 < p → get_or nodes 1 0 ≤ nothing → get_or nodes 1 0 ≡ least_of (drop p nodes)
  root-least some few =
      let long = length-drop p nodes in
      let low = le-least_of (get_or nodes 1 0) (drop p nodes) few (λ k lt. rw get_or-drop (below (p + k) (p + k) (omega arith) (omega arith) (omega (arith, t.twice)))) in
      let high = above (least_of (drop p nodes)) (λ k le lt.
      let d : ℕ = k - p in let e : k ≡ p + d = omega arith in
      rw (e, ← get_or-drop p nodes d 0) (least_of-le (drop p nodes) d (omega (arith, t.twice)))) (2 * p) 1 (omega arith) (omega arith) (omega arith) in
      omega (arith, low, high)
