-- Whether an operator or a `)` is taken behind an operand depends on the frames alone.
use Rattle.std.proofs.Common.{◌≡◌, ℕ, Bool, true, false, cond, ◌&&◌, nat_le, nat_lt, List, [], ◌∷◌, length, None, Some, refl, sym, ap, ◌∙◌}
use Rattle.vern_grammar.specs.Trees.{Operator, Expression}
use Rattle.vern_grammar.specs.Levels.{op_level, left_at_most, limit}
use Rattle.vern_grammar.specs.Grammar.{Head, level, room, begin, governing}
use Rattle.vern_grammar.specs.Machine.{Frame, State, at, want, parenthesis, argument, governor, outline, link, depth, pushed, shift, place, close}
use Rattle.vern_parse.specs.Answers.{is_taken, stacked, takes_first}
use Rattle.vern_parse.specs.Meaning.{frames}
use Rattle.vern_parse.specs.declared.frames.Frame.{Frame as Kept}
use Rattle.vern_parse.proofs.Places.{not_yes, not_no, fits_both}

-- ---- operators

-- an operator is taken behind these frames
abbrev pub placeable : Operator → Bool → List Frame → Bool
placeable op fits (governor h ∷ s) = cond (fits && nat_le (op_level op) (room h)) (nat_lt (depth (governor h ∷ s)) limit)
    (placeable op (nat_le (level h) (left_at_most op)) s)
placeable op fits s = fits && nat_lt (depth s) limit

either : (fits b : Bool) (st : State) → is_taken (cond fits (cond b (Some st) None) None) ≡ (fits && b)
either true true st = refl
either true false st = refl
either false b st = refl

shifted : (op : Operator) (fits : Bool) (v : Expression) (a : ℕ) (s : List Frame)
    → is_taken (shift op fits v a s) ≡ (fits && nat_lt (depth s) limit)
shifted op fits v a s = either fits (nat_lt (depth s) limit) (at want (pushed op v a s ∷ s))

pub placed : (op : Operator) (fits : Bool) (v : Expression) (a b : ℕ) (s : List Frame)
    → is_taken (place op fits v a b s) ≡ placeable op fits s
unfolding place
placed op fits v a b [] = shifted op fits v a []
placed op fits v a b (parenthesis f ∷ s) = shifted op fits v a (parenthesis f ∷ s)
placed op fits v a b (argument x ys ∷ s) = shifted op fits v a (argument x ys ∷ s)
placed op fits v a b (outline ∷ s) = shifted op fits v a (outline ∷ s)
placed op fits v a b (link w ∷ s) = shifted op fits v a (link w ∷ s)
placed op fits v a b (governor h ∷ s) = by_first (fits && nat_le (op_level op) (room h))
    (placed op (nat_le (level h) (left_at_most op)) (governing h v b) (begin h) b s)
  where
    by_first : (c : Bool) → is_taken (place op (nat_le (level h) (left_at_most op)) (governing h v b) (begin h) b s)
        ≡ placeable op (nat_le (level h) (left_at_most op)) s
        → is_taken (cond c (shift op true v a (governor h ∷ s)) (place op (nat_le (level h) (left_at_most op)) (governing h v b) (begin h) b s))
        ≡ cond c (nat_lt (depth (governor h ∷ s)) limit) (placeable op (nat_le (level h) (left_at_most op)) s)
    by_first true e = shifted op true v a (governor h ∷ s)
    by_first false e = e

pub placeable_stops : (op : Operator) (fits : Bool) (s : List Frame) → takes_first op fits s ≡ false
    → placeable op fits s ≡ (fits && nat_lt (depth s) limit)
placeable_stops op fits [] e = refl
placeable_stops op fits (parenthesis f ∷ s) e = refl
placeable_stops op fits (argument x ys ∷ s) e = refl
placeable_stops op fits (outline ∷ s) e = refl
placeable_stops op fits (link w ∷ s) e = refl
placeable_stops op fits (governor h ∷ s) e =
    let y = not_no (fits && nat_le (op_level op) (room h)) e in
    ap (λ t. cond t (nat_lt (depth (governor h ∷ s)) limit) (placeable op (nat_le (level h) (left_at_most op)) s)) y
    ∙ ap (λ t. t && nat_lt (depth (governor h ∷ s)) limit) (sym (fits_both fits (nat_le (op_level op) (room h)) y))

pub placeable_goes : (op : Operator) (fits : Bool) (h : Head) (s : List Frame) → takes_first op fits (governor h ∷ s) ≡ true
    → placeable op fits (governor h ∷ s) ≡ placeable op (nat_le (level h) (left_at_most op)) s
placeable_goes op fits h s e = ap (λ t. cond t (nat_lt (depth (governor h ∷ s)) limit)
    (placeable op (nat_le (level h) (left_at_most op)) s)) (not_yes (fits && nat_le (op_level op) (room h)) e)

-- ---- parentheses

-- a `)` is taken behind these frames
abbrev pub closable : List Frame → Bool
closable (parenthesis from ∷ s) = true
closable (argument x ys ∷ s) = true
closable (governor h ∷ s) = closable s
closable _ = false

pub closed : (v : Expression) (to behind : ℕ) (s : List Frame) → is_taken (close v to behind s) ≡ closable s
unfolding close
closed v to behind [] = refl
closed v to behind (parenthesis f ∷ s) = refl
closed v to behind (argument x ys ∷ s) = refl
closed v to behind (outline ∷ s) = refl
closed v to behind (link w ∷ s) = refl
closed v to behind (governor h ∷ s) = closed (governing h v to) to behind s

pub none_closable : (fs : List Kept) → length fs ≡ 0 → closable (frames (stacked fs)) ≡ false
none_closable [] e = refl
none_closable (f ∷ fs) e = cc

pub ruleset operators = (placed, placeable_stops, placeable_goes)

pub ruleset closings = (closed, none_closable)
