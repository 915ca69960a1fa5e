-- The last of the terms that are left, and variables that don't all occur.
use Rattle.std.proofs.Common.{◌≡◌, ℕ, ◌+◌, ◌-◌, ◌<◌, ◌≤◌, Bool, true, false, true≢false, List, [], ◌∷◌, ◌++◌, map, length, reverse, take, get_or, refl, sym, ap, ◌∙◌, arith}
use Rattle.std.proofs.lemmas.List.{take_more, map-append, reverse-append}
use Rattle.match_theory.specs.Places.{all_below}
use Rattle.match_theory.proofs.Occurring.{below_all}

-- the last of some elements
pub last_taken : {X Y : Type 0} (f : X → Y) (xs : List X) (n : ℕ) (x : X) → 0 < n → n ≤ length xs → x ≡ get_or xs (n - 1) x
    → reverse (map f (take n xs)) ≡ f x ∷ reverse (map f (take (n - 1) xs))
last_taken f xs n x h k e =
    let more : n ≡ n - 1 + 1 = omega (arith, h) in
    let front = take (n - 1) xs in
    ap (λ m. reverse (map f (take m xs))) more
    ∙ ap (λ ys. reverse (map f ys)) (take_more xs (n - 1) x (omega (arith, h, k)))
    ∙ ap (λ y. reverse (map f (front ++ y ∷ []))) (sym e)
    ∙ ap reverse (map-append f front (x ∷ []))
    ∙ reverse-append (map f front) (f x ∷ [])

-- one that doesn't
pub not_all : (f : ℕ → Bool) (n i : ℕ) → i < n → f i ≡ false → false ≡ all_below n f
not_all f n i h e = go (all_below n f) refl
  where
    go : (q : Bool) → all_below n f ≡ q → false ≡ q
    go false p = refl
    go true p = absurd (true≢false (sym (below_all n f p i h) ∙ e))
