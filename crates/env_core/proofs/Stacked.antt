-- Layers one after the other.
use Rattle.std.proofs.Common.{◌≡◌, ℕ, zero, suc, ◌+◌, ◌-◌, ◌<◌, ◌≤◌, Bool, true, false, List, [], ◌∷◌, ◌++◌, length, take, drop, get_or}
use Rattle.std.proofs.Common.{refl, sym, ap}
use Rattle.std.proofs.Common.{subst, ◌∙◌, inl, inr, Option, Some, None, option_map, is_some, arith}
use Rattle.std.proofs.lemmas.Grind.{common_steps}
use Rattle.std.proofs.lemmas.List.{take-append-drop, append_assoc}
use Rattle.std.specs.declared.alloc.Global.{Global}
use Rattle.std.specs.declared.sync.Arc.{Arc}
use Rattle.std.specs.Arc.{arc_value}
use Rattle.fol_theory.specs.Contexts.{IsFromLast}
use Rattle.env_core.specs.declared.entry.Entry.{Entry}
use Rattle.env_core.specs.Layers.{entry_name, found, AreApart, stacked}
use Rattle.env_core.proofs.Layered.{stacked_joint, stacked_behind, found_in_front, none_in_front, found_behind, last_behind}
use Rattle.env_core.proofs.Layered.{last_in_front}
use Rattle.env_core.proofs.Layered.{length_joint, front_apart, no_more}

first_more : {X : Type 0} (xs : List X) (i : ℕ) (x : X) → i < length xs → x ≡ get_or xs i x → take (i + 1) xs ≡ take i xs ++ (x ∷ [])
first_more xs i x h e = grind (arith, common_steps)

module _ (ls : List (Arc (List Entry) Global)) (i : ℕ) (l : Arc (List Entry) Global) (within : i < length ls) (here : l
    ≡ get_or ls i l) where
  pub one_layer_more : stacked [] (take (i + 1) ls) ≡ arc_value l ++ stacked [] (take i ls)
  one_layer_more = ap (stacked []) (first_more ls i l within here) ∙ stacked_joint [] (take i ls) (l ∷ [])

  -- the whole: the layer, what it stands on, and what stands on it
  with_layer : stacked [] ls ≡ stacked [] (drop (i + 1) ls) ++ (arc_value l ++ stacked [] (take i ls))
  with_layer =
      ap (stacked []) (sym (take-append-drop (i + 1) ls)) ∙ stacked_joint [] (take (i + 1) ls) (drop (i + 1) ls)
      ∙ stacked_behind (stacked [] (take (i + 1) ls)) (drop (i + 1) ls)
      ∙ ap (λ z. stacked [] (drop (i + 1) ls) ++ z) one_layer_more

  -- what a layer finds is found
  pub layer_answers : {X : Type 0} (f : X → Entry) (x : Option X) (n : List ℕ) → AreApart (stacked [] ls)
      → option_map f x ≡ found (arc_value l) n → is_some x ≡ true
      → option_map f x ≡ found (stacked [] ls) n
  layer_answers f None n a k s = absurd (impossible s)
    where
      impossible : false ≡ true → ⊥
      impossible h = cc
  layer_answers f (Some y) n a k s =
      sym (ap (λ es. found es n) with_layer
      ∙ found_behind (stacked [] (drop (i + 1) ls)) (arc_value l ++ stacked [] (take i ls)) (subst AreApart with_layer a) n (f y)
      (found_in_front (arc_value l) (stacked [] (take i ls)) n (f y) (sym k)))

  -- a name that it doesn't find is looked for further on
  pub layer_passed : {X : Type 0} (f : X → Entry) (x : Option X) (n : List ℕ)
      → option_map f x ≡ found (arc_value l) n → is_some x ≡ false
      → found (stacked [] (take i ls)) n ≡ None → found (stacked [] (take (i + 1) ls)) n ≡ None
  layer_passed f None n k s p =
      ap (λ es. found es n) one_layer_more ∙ none_in_front (arc_value l) (stacked [] (take i ls)) n (sym k) ∙ p
  layer_passed f (Some y) n k s p = absurd (impossible s)
    where
      impossible : true ≡ false → ⊥
      impossible h = cc

  -- an entry by its number
  pub layer_has : (left number : ℕ) → left + length (stacked [] (take i ls)) ≡ number → (x : Entry) → IsFromLast (arc_value l) left x
      → IsFromLast (stacked [] ls) number x
  layer_has left number p x f =
      subst (λ ds. IsFromLast ds number x) (sym with_layer)
      (last_behind (stacked [] (drop (i + 1) ls)) (arc_value l ++ stacked [] (take i ls)) number x
      (subst (λ m. IsFromLast (arc_value l ++ stacked [] (take i ls)) m x) p
      (last_in_front (arc_value l) (stacked [] (take i ls)) left x f)))

  pub layer_counted : (left number : ℕ) → left + length (stacked [] (take i ls)) ≡ number → length (arc_value l) ≤ left
      → (left - length (arc_value l)) + length (stacked [] (take (i + 1) ls)) ≡ number
  layer_counted left number p h =
      let q = ap length one_layer_more ∙ length_joint (arc_value l) (stacked [] (take i ls)) in omega (arith, p, q, h)

-- ---- a layer put onto another, one by one

from_last_below : {A : Type 0} (xs : List A) (i : ℕ) (x : A) → IsFromLast xs i x → i < length xs
from_last_below [] i x h = absurd h
from_last_below (y ∷ xs) i x (inl h) = omega (arith, h.0)
from_last_below (y ∷ xs) i x (inr h) = omega (arith, from_last_below xs i x h)

-- the last so many of a list
pub one_more_of : {A : Type 0} (xs : List A) (i : ℕ) (x : A) → IsFromLast xs i x
    → drop (length xs - (i + 1)) xs ≡ x ∷ drop (length xs - i) xs
one_more_of [] i x h = absurd h
one_more_of (y ∷ xs) i x (inl h) =
    let none : length (y ∷ xs) - (i + 1) ≡ zero = omega (arith, h.0) in
    let one : length (y ∷ xs) - i ≡ suc zero = omega (arith, h.0) in
    ap (λ n. drop n (y ∷ xs)) none ∙ (λ j. sym h.1 j ∷ xs) ∙ ap (λ n. x ∷ drop n (y ∷ xs)) (sym one)
one_more_of (y ∷ xs) i x (inr h) =
    let below = from_last_below xs i x h in
    let less : length (y ∷ xs) - (i + 1) ≡ suc (length xs - (i + 1)) = omega (arith, below) in
    let more : length (y ∷ xs) - i ≡ suc (length xs - i) = omega (arith, below) in
    ap (λ n. drop n (y ∷ xs)) less ∙ one_more_of xs i x h ∙ ap (λ n. x ∷ drop n (y ∷ xs)) (sym more)

pub none_of_it : {A : Type 0} (xs ys : List A) → ys ≡ drop (length xs - 0) xs ++ ys
none_of_it xs ys = sym (ap (λ z. z ++ ys) (nothing_left xs))
  where
    nothing_left : {A : Type 0} (xs : List A) → drop (length xs - 0) xs ≡ []
    nothing_left xs = grind (arith, common_steps)

pub all_of_it : {A : Type 0} (xs ys : List A) (i : ℕ) → length xs ≤ i → drop (length xs - i) xs ++ ys ≡ xs ++ ys
all_of_it xs ys i h =
    let none : length xs - i ≡ zero = omega (arith, h) in
    ap (λ n. drop n xs ++ ys) none

-- where names are apart, the next entry has a new one
pub next_is_new : (xs ys : List Entry) (i : ℕ) (x : Entry) → IsFromLast xs i x → AreApart (xs ++ ys)
    → found (drop (length xs - i) xs ++ ys) (entry_name x) ≡ None
next_is_new [] ys i x h a = absurd h
next_is_new (y ∷ xs) ys i x (inl h) a =
    let one : length (y ∷ xs) - i ≡ suc zero = omega (arith, h.0) in
    ap (λ n. found (drop n (y ∷ xs) ++ ys) (entry_name x)) one
    ∙ ap (λ z. found (xs ++ ys) (entry_name z)) h.1 ∙ a.0
next_is_new (y ∷ xs) ys i x (inr h) a =
    let more : length (y ∷ xs) - i ≡ suc (length xs - i) = omega (arith, from_last_below xs i x h) in
    ap (λ n. found (drop n (y ∷ xs) ++ ys) (entry_name x)) more ∙ next_is_new xs ys i x h a.1

-- one entry more of those that are put before others
pub next_put : (xs ys : List Entry) (i : ℕ) (x : Entry) (old new : List Entry) → IsFromLast xs i x → old ≡ drop (length xs - i) xs ++ ys
    → new ≡ x ∷ old
    → new ≡ drop (length xs - (i + 1)) xs ++ ys
next_put xs ys i x old new h e k = k ∙ ap (λ z. x ∷ z) e ∙ sym (ap (λ z. z ++ ys) (one_more_of xs i x h))

-- ---- copies of layers

pub layer_copied : (ls ms ns : List (Arc (List Entry) Global)) (i : ℕ) (l m : Arc (List Entry) Global) → ns ≡ ms ++ (m ∷ [])
    → arc_value m ≡ arc_value l
    → stacked [] ms ≡ stacked [] (take i ls) → i < length ls → l ≡ get_or ls i l → stacked [] ns ≡ stacked [] (take (i + 1) ls)
layer_copied ls ms ns i l m k v h within here =
    ap (stacked []) k ∙ stacked_joint [] ms (m ∷ []) ∙ (λ j. v j ++ h j) ∙ sym (one_layer_more ls i l within here)

-- ---- layers put together

-- the last of the layers that stay
pub last_layer : (ls : List (Arc (List Entry) Global)) (n : ℕ) (l : Arc (List Entry) Global) → 0 < n → n ≤ length ls → l
    ≡ get_or ls (n - 1) l
    → stacked [] (take n ls) ≡ arc_value l ++ stacked [] (take (n - 1) ls)
last_layer ls n l some within here =
    let e : (n - 1) + 1 ≡ n = omega (arith, some) in
    ap (λ m. stacked [] (take m ls)) (sym e) ∙ one_layer_more ls (n - 1) l (omega (arith, some, within)) here

-- it may go under the newest
pub may_go_under : (ls : List (Arc (List Entry) Global)) (n : ℕ) (l : Arc (List Entry) Global) (newest whole : List Entry) → 0 < n
    → n ≤ length ls
    → l ≡ get_or ls (n - 1) l → newest ++ stacked [] (take n ls) ≡ whole → AreApart whole
    → AreApart (newest ++ (arc_value l ++ []))
may_go_under ls n l newest whole some within here e a =
    let s = ap (λ z. newest ++ z) (last_layer ls n l some within here)
    ∙ sym (append_assoc newest (arc_value l) (stacked [] (take (n - 1) ls))) in
    subst (λ ds. AreApart (newest ++ ds)) (sym (no_more (arc_value l)))
    (front_apart (newest ++ arc_value l) (stacked [] (take (n - 1) ls))
    (subst AreApart (sym e ∙ s) a))

-- the layer alone has names apart
pub is_apart : (ls : List (Arc (List Entry) Global)) (n : ℕ) (l : Arc (List Entry) Global) (newest whole : List Entry) → 0 < n
    → n ≤ length ls
    → l ≡ get_or ls (n - 1) l → newest ++ stacked [] (take n ls) ≡ whole → AreApart whole
    → AreApart (arc_value l ++ [])
is_apart ls n l newest whole some within here e a = behind newest (arc_value l ++ [])
    (may_go_under ls n l newest whole some within here e a)
  where
    behind : (G E : List Entry) → AreApart (G ++ E) → AreApart E
    behind [] E h = h
    behind (g ∷ G) E h = behind G E h.1

-- with it the whole is as it was
pub gone_under : (ls : List (Arc (List Entry) Global)) (n : ℕ) (l : Arc (List Entry) Global) (newest first new whole : List Entry) → 0 < n
    → n ≤ length ls
    → l ≡ get_or ls (n - 1) l → newest ++ stacked [] (take n ls) ≡ whole → first ≡ arc_value l ++ [] → new ≡ newest ++ first
    → new ++ stacked [] (take (n - 1) ls) ≡ whole
gone_under ls n l newest first new whole some within here e f g =
    ap (λ z. z ++ stacked [] (take (n - 1) ls)) (g ∙ ap (λ z. newest ++ z) (f ∙ no_more (arc_value l)))
    ∙ append_assoc newest (arc_value l) (stacked [] (take (n - 1) ls)) ∙ ap (λ z. newest ++ z) (sym (last_layer ls n l some within here))
    ∙ e

-- the layers that stay, and the newest behind them
pub put_on : (ls new : List (Arc (List Entry) Global)) (n : ℕ) (a : Arc (List Entry) Global) (newest whole : List Entry)
    → new ≡ take n ls ++ (a ∷ [])
    → arc_value a ≡ newest → newest ++ stacked [] (take n ls) ≡ whole → stacked [] new ≡ whole
put_on ls new n a newest whole k v e =
    ap (stacked []) k ∙ stacked_joint [] (take n ls) (a ∷ []) ∙ ap (λ z. z ++ stacked [] (take n ls)) v ∙ e
