-- The names of an open leaf.
use Rattle.std.proofs.Common.{◌≡◌, ℕ, List, ◌++◌, reverse, ap, ◌∙◌}
use Rattle.std.proofs.lemmas.List.{reverse-append, reverse-reverse}

-- those of the entries that are there, the newest last, and then of new ones, from the newest on
pub leaf_is : (ns xs ys all : List (List ℕ)) → ns ≡ reverse xs → all ≡ ns ++ ys → reverse all ≡ reverse ys ++ xs
leaf_is ns xs ys all e k = ap reverse k ∙ reverse-append ns ys ∙ ap (λ z. reverse ys ++ z) (ap reverse e ∙ reverse-reverse xs)
