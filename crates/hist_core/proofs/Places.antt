-- Places of a list whose elements stand for others.
use Rattle.std.proofs.Common.{◌≡◌, ℕ, zero, suc, ◌+◌, ◌<◌, List, [], ◌∷◌, map, drop, length, get_or, refl, sym, ap, ◌∙◌, arith}
use Rattle.std.proofs.Math.Seq.{drop-cons}

get_map : {A B : Type 0} (f : A → B) (xs : List A) (i : ℕ) (x : A) → get_or (map f xs) i (f x) ≡ f (get_or xs i x)
get_map f [] i x = refl
get_map f (y ∷ ys) zero x = refl
get_map f (y ∷ ys) (suc i) x = get_map f ys i x

-- the element at a place, and those behind it
pub placed : {A B : Type 0} (f : A → B) (xs : List A) (i : ℕ) (x : A) → x ≡ get_or xs i x → i < length (map f xs)
    → drop i (map f xs) ≡ f x ∷ drop (i + 1) (map f xs)
placed f xs i x e h =
    let next : suc i ≡ i + 1 = omega arith in
    drop-cons (map f xs) i (f x) h ∙ ap (λ z. z ∷ drop (suc i) (map f xs)) (get_map f xs i x ∙ ap f (sym e))
    ∙ ap (λ n. f x ∷ drop n (map f xs)) next
