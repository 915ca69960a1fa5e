-- An operator behind an operand, head by head.
use Rattle.std.proofs.Common.{◌≡◌, ℕ, Bool, true, false, cond, not, ◌&&◌, nat_le, List, [], ◌∷◌, refl, sym, ap, ◌∙◌}
use Rattle.vern_grammar.specs.Trees.{Operator, Expression}
use Rattle.vern_grammar.specs.Levels.{op_level, left_at_most}
use Rattle.vern_grammar.specs.Grammar.{Head, level, room, begin, governing}
use Rattle.vern_grammar.specs.Machine.{Frame, parenthesis, argument, governor, outline, link, shift, place}
use Rattle.vern_parse.specs.Answers.{takes_first}

pub not_yes : (b : Bool) → not b ≡ true → b ≡ false
not_yes true e = sym e
not_yes false e = refl

pub not_no : (b : Bool) → not b ≡ false → b ≡ true
not_no true e = refl
not_no false e = sym e

pub fits_both : (a b : Bool) → (a && b) ≡ true → a ≡ true
fits_both true b e = refl
fits_both false b e = e

pub place_stops : (op : Operator) (fits : Bool) (v : Expression) (a b : ℕ) (s : List Frame) → takes_first op fits s ≡ false
    → place op fits v a b s ≡ shift op fits v a s
unfolding place
place_stops op fits v a b [] e = refl
place_stops op fits v a b (parenthesis f ∷ s) e = refl
place_stops op fits v a b (argument x ys ∷ s) e = refl
place_stops op fits v a b (outline ∷ s) e = refl
place_stops op fits v a b (link w ∷ s) e = refl
place_stops op fits v a b (governor h ∷ s) e =
    let y = not_no (fits && nat_le (op_level op) (room h)) e in
    let z = fits_both fits (nat_le (op_level op) (room h)) y in
    ap (λ t. cond t (shift op true v a (governor h ∷ s)) (place op (nat_le (level h) (left_at_most op)) (governing h v b) (begin h) b s)) y
    ∙ ap (λ t. shift op t v a (governor h ∷ s)) (sym z)

pub place_goes : (op : Operator) (fits : Bool) (v : Expression) (a b : ℕ) (h : Head) (s : List Frame)
    → takes_first op fits (governor h ∷ s) ≡ true → place op fits v a b (governor h ∷ s)
    ≡ place op (nat_le (level h) (left_at_most op)) (governing h v b) (begin h) b s
unfolding place
place_goes op fits v a b h s e = ap (λ t. cond t (shift op true v a (governor h ∷ s))
    (place op (nat_le (level h) (left_at_most op)) (governing h v b) (begin h) b s)) (not_yes (fits && nat_le (op_level op) (room h)) e)

pub ruleset laws = (place_stops, place_goes)
