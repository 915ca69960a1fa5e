-- An expression behind a `(` ends with the `)` of that parenthesis, and no sooner.
use Rattle.std.proofs.Common.{◌≡◌, ℕ, ◌+◌, Bool, true, false, cond, ◌&&◌, nat_lt, nat_le, ◌⊎◌, inl, inr, List, [], ◌∷◌, ◌++◌, length}
use Rattle.std.proofs.Common.{Option, Some, None, refl, sym, ap, ◌∙◌, subst, append_assoc, append-nil}
use Rattle.vern_lex.specs.declared.span.Span.{Span}
use Rattle.vern_grammar.specs.Trees.{Operator, implication, equivalence, disjunction, conjunction, equation, inequation, Name, Expression}
use Rattle.vern_grammar.specs.Kinds.{Kind, Lexeme}
use Rattle.vern_grammar.specs.Kinds as kind
use Rattle.vern_grammar.specs.Levels.{op_level, left_at_most, tilde_level, limit}
use Rattle.vern_grammar.specs.Grammar.{tok, span, room, level, governing, begin, Next, last, IsOperand, constant, applied, enclosed}
use Rattle.vern_grammar.specs.Grammar.{governed, IsApplication, alone, to_name, to_expression, left, negating, names, groups, IsExpression}
use Rattle.vern_grammar.specs.Machine.{Frame, parenthesis, argument, governor, outline, link, Mode, State, at, want, applying, after, ended}
use Rattle.vern_grammar.specs.Machine.{in_names, names_sort, names_end, in_group, group_sort, group_end, in_groups, top, in_shape, depth}
use Rattle.vern_grammar.specs.Machine.{within, pushed, shift, place, close, whole, an_expression, on, step, run, ends}
use Rattle.vern_grammar.proofs.Runs.{run-None, Arrives, runs, operand_most}
use Rattle.vern_grammar.proofs.Sound.{for_expression}
use Rattle.vern_grammar.proofs.Finish.{GoesOn, goes_on}
use Rattle.vern_grammar.proofs.Laws as laws
use Rattle.vern_sentence.specs.Slots as slots
use Rattle.vern_sentence.specs.Slots.{IsPart, next_place, first_place, is_closed, operand_in}
use Rattle.vern_sentence.proofs.Signs.{some_out}
use Rattle.vern_sentence.proofs.Parts.{over, over-append, over-None, split_over, Ran, Ended}

-- ---- the frame at the bottom

IsParenthesis : Frame → Type 0
IsParenthesis (parenthesis from) = Unit {0}
IsParenthesis _ = ⊥

IsHead : Frame → Type 0
IsHead (governor h) = Unit {0}
IsHead _ = ⊥

Bottom : (Frame → Type 0) → List Frame → Type 0
Bottom P [] = ⊥
Bottom P (f ∷ []) = P f
Bottom P (f ∷ g ∷ s) = Bottom P (g ∷ s)

under : (P : Frame → Type 0) (f : Frame) (s : List Frame) → Bottom P s → Bottom P (f ∷ s)
unfolding Bottom
under P f [] h = absurd h
under P f (g ∷ s) h = h

clash : (s : List Frame) → Bottom IsParenthesis s → Bottom IsHead s → ⊥
unfolding Bottom IsParenthesis IsHead
clash [] a b = a
clash (parenthesis from ∷ []) a b = b
clash (argument x ys ∷ []) a b = b
clash (governor h ∷ []) a b = a
clash (outline ∷ []) a b = b
clash (link v ∷ []) a b = b
clash (f ∷ g ∷ s) a b = clash (g ∷ s) a b

not_closed : (P : Frame → Type 0) (s : List Frame) → Bottom P s → is_closed s ≡ false
unfolding Bottom
not_closed P [] h = absurd h
not_closed P (f ∷ s) h = refl

-- ---- one token more

test_some : (G : State → Type 0) (b : Bool) (x to : State) → G x → cond b (Some x) None ≡ Some to → G to
test_some G true x to g p = subst G (some_out x to p) g
test_some G false x to g p = cc

test_not : (G : State → Type 0) (b : Bool) (m : Option State) (to : State) → (m ≡ Some to → G to) → cond b None m ≡ Some to → G to
test_not G true m to g p = cc
test_not G false m to g p = g p

test_both : (G : State → Type 0) (b : Bool) (m : Option State) (to : State) → (m ≡ Some to → G to) → cond b m None ≡ Some to → G to
test_both G true m to g p = g p
test_both G false m to g p = cc

within_some : (G : State → Type 0) (n : ℕ) (x to : State) → G x → within n x ≡ Some to → G to
within_some G n x to g p = test_some G (nat_lt n limit) x to g p

-- What a token does to the frames: none, one more on top, an operator, or a `)`.
module _ (Q : List Frame → Type 0) (G : State → Type 0)
    (same : (m : Mode) (s : List Frame) → Q s → G (at m s))
    (push : (m : Mode) (f : Frame) (s : List Frame) → Q s → G (at m (f ∷ s)))
    (places : (op : Operator) (v : Expression) (a b : ℕ) (s : List Frame) (to : State) → Q s → place op true v a b s ≡ Some to → G to)
    (closes : (v : Expression) (a b : ℕ) (s : List Frame) (to : State) → Q s → close v a b s ≡ Some to → G to) where
  same_some : (m : Mode) (s : List Frame) (to : State) → Q s → Some (at m s) ≡ Some to → G to
  same_some m s to q p = subst G (some_out (at m s) to p) (same m s q)

  push_some : (m : Mode) (f : Frame) (s : List Frame) (to : State) → Q s → Some (at m (f ∷ s)) ≡ Some to → G to
  push_some m f s to q p = subst G (some_out (at m (f ∷ s)) to p) (push m f s q)

  on_keeps : (m : Mode) (s : List Frame) (k : Kind) (c : Span) (to : State) → Q s → on m s k c ≡ Some to → G to
  on_keeps want s (kind.name x) c to q p = same_some _ s to q p
  on_keeps want s (kind.constant b) c to q p = same_some _ s to q p
  on_keeps want s kind.opening c to q p = within_some G (depth s) _ to (push _ _ s q) p
  on_keeps want s kind.tilde c to q p = test_both G (nat_le tilde_level (top s)) _ to (λ e. within_some G (depth s) _ to (push _ _ s q) e) p
  on_keeps want s (kind.quantifier b) c to q p = within_some G (depth s) _ to (same _ s q) p
  on_keeps want s kind.set c to q p = test_some G (in_shape s) _ to (same _ s q) p
  on_keeps want s kind.prop c to q p = test_some G (in_shape s) _ to (same _ s q) p
  on_keeps want s _ c to q p = cc
  on_keeps (applying x ys b) s (kind.name y) c to q p = same_some _ s to q p
  on_keeps (applying x ys b) s kind.opening c to q p = within_some G (depth s) _ to (push _ _ s q) p
  on_keeps (applying x ys b) s (kind.sign op) c to q p = places op _ _ b s to q p
  on_keeps (applying x ys b) s kind.closing c to q p = closes _ b c.to s to q p
  on_keeps (applying x ys b) s _ c to q p = cc
  on_keeps (after v a b) s (kind.sign op) c to q p = places op v a b s to q p
  on_keeps (after v a b) s kind.closing c to q p = closes v b c.to s to q p
  on_keeps (after v a b) s _ c to q p = cc
  on_keeps (ended t) s k c to q p = cc
  on_keeps (in_names b xs) s (kind.name x) c to q p = within_some G (depth s + b.bound) _ to (same _ s q) p
  on_keeps (in_names b xs) s kind.opening c to q p =
      test_not G (nat_lt 0 (length xs)) _ to (λ e. within_some G (depth s + b.bound + 1) _ to (same _ s q) e) p
  on_keeps (in_names b xs) s kind.colon c to q p = test_some G (nat_lt 0 (length xs)) _ to (same _ s q) p
  on_keeps (in_names b xs) s _ c to q p = cc
  on_keeps (names_sort b xs) s (kind.name x) c to q p = same_some _ s to q p
  on_keeps (names_sort b xs) s _ c to q p = cc
  on_keeps (names_end b) s kind.comma c to q p = push_some _ _ s to q p
  on_keeps (names_end b) s _ c to q p = cc
  on_keeps (in_group b xs) s (kind.name x) c to q p = within_some G (depth s + b.bound + 1) _ to (same _ s q) p
  on_keeps (in_group b xs) s kind.colon c to q p = test_some G (nat_lt 0 (length xs)) _ to (same _ s q) p
  on_keeps (in_group b xs) s _ c to q p = cc
  on_keeps (group_sort b xs) s (kind.name x) c to q p = same_some _ s to q p
  on_keeps (group_sort b xs) s _ c to q p = cc
  on_keeps (group_end b) s kind.closing c to q p = same_some _ s to q p
  on_keeps (group_end b) s _ c to q p = cc
  on_keeps (in_groups b) s kind.opening c to q p = within_some G (depth s + b.bound + 1) _ to (same _ s q) p
  on_keeps (in_groups b) s kind.comma c to q p = push_some _ _ s to q p
  on_keeps (in_groups b) s _ c to q p = cc

-- ---- the parenthesis is open, or has just been closed

data Stage : State → Type 0 where
  opened : {st : State} → Bottom IsParenthesis st.stack → Stage st
  shut : (v : Expression) (a b : ℕ) → Stage (at (after v a b) [])

by_test : (A : Type 0) (b : Bool) (x y : Option State) (to : State) → (x ≡ Some to → A) → (y ≡ Some to → A) → cond b x y ≡ Some to → A
by_test A true x y to f g p = f p
by_test A false x y to f g p = g p

module _ (op : Operator) (to : State) where
  shift_under : (P : Frame → Type 0) (fits : Bool) (v : Expression) (a : ℕ) (s : List Frame) → Bottom P s → shift op fits v a s ≡ Some to
      → Bottom P to.stack
  shift_under P fits v a s h p = test_both (λ st. Bottom P st.stack) fits _ to
      (λ e. within_some (λ st. Bottom P st.stack) (depth s) _ to (under P (pushed op v a s) s h) e) p

  place_opened : (fits : Bool) (v : Expression) (a b : ℕ) (s : List Frame) → Bottom IsParenthesis s → place op fits v a b s ≡ Some to
      → Bottom IsParenthesis to.stack
  unfolding place Bottom IsParenthesis
  place_opened fits v a b [] h p = absurd h
  place_opened fits v a b (governor k ∷ []) h p = absurd h
  place_opened fits v a b (governor k ∷ g ∷ s) h p =
      by_test (Bottom IsParenthesis to.stack) (fits && nat_le (op_level op) (room k)) _ _ to
      (λ e. shift_under IsParenthesis true v a (governor k ∷ g ∷ s) h e)
      (λ e. place_opened (nat_le (level k) (left_at_most op)) (governing k v b) (begin k) b (g ∷ s) h e) p
  place_opened fits v a b (parenthesis f ∷ s) h p = shift_under IsParenthesis fits v a (parenthesis f ∷ s) h p
  place_opened fits v a b (argument x ys ∷ s) h p = shift_under IsParenthesis fits v a (argument x ys ∷ s) h p
  place_opened fits v a b (outline ∷ s) h p = shift_under IsParenthesis fits v a (outline ∷ s) h p
  place_opened fits v a b (link w ∷ s) h p = shift_under IsParenthesis fits v a (link w ∷ s) h p

staged : (x to : State) → Some x ≡ Some to → Stage x → Stage to
staged x to p h = subst Stage (some_out x to p) h

close_opened : (v : Expression) (a b : ℕ) (s : List Frame) (to : State) → Bottom IsParenthesis s → close v a b s ≡ Some to → Stage to
unfolding close Bottom IsParenthesis
close_opened v a b [] to h p = absurd h
close_opened v a b (parenthesis f ∷ []) to h p = staged _ to p (shut v f b)
close_opened v a b (parenthesis f ∷ g ∷ s) to h p = staged _ to p (opened h)
close_opened v a b (argument x ys ∷ []) to h p = absurd h
close_opened v a b (argument x ys ∷ g ∷ s) to h p = staged _ to p (opened h)
close_opened v a b (governor k ∷ []) to h p = absurd h
close_opened v a b (governor k ∷ g ∷ s) to h p = close_opened (governing k v a) a b (g ∷ s) to h p
close_opened v a b (outline ∷ s) to h p = cc
close_opened v a b (link w ∷ s) to h p = cc

step_opened : (st : State) (k : Lexeme) (to : State) → Bottom IsParenthesis st.stack → step st k ≡ Some to → Stage to
step_opened st k to h p =
    on_keeps (λ s. Bottom IsParenthesis s) Stage (λ m s q. opened q) (λ m f s q. opened (under IsParenthesis f s q))
    (λ op v a b s z q e. opened (place_opened op z true v a b s q e))
    (λ v a b s z q e. close_opened v a b s z q e) st.mode st.stack k.kind k.span to h p

-- ---- behind the `)` an operator stands at the bottom

pushed_bottom : (op : Operator) (v : Expression) (a : ℕ) → Bottom IsHead (pushed op v a [] ∷ [])
unfolding Bottom IsHead
pushed_bottom implication v a = tt
pushed_bottom equivalence v a = tt
pushed_bottom disjunction v a = tt
pushed_bottom conjunction v a = tt
pushed_bottom equation v a = tt
pushed_bottom inequation v a = tt

module _ (op : Operator) (to : State) where
  shift_bottom : (fits : Bool) (v : Expression) (a : ℕ) → shift op fits v a [] ≡ Some to → Bottom IsHead to.stack
  shift_bottom fits v a p = test_both (λ st. Bottom IsHead st.stack) fits _ to
      (λ e. within_some (λ st. Bottom IsHead st.stack) (depth []) _ to (pushed_bottom op v a) e) p

  place_passed : (fits : Bool) (v : Expression) (a b : ℕ) (s : List Frame) → Bottom IsHead s → place op fits v a b s ≡ Some to
      → Bottom IsHead to.stack
  unfolding place Bottom IsHead
  place_passed fits v a b [] h p = absurd h
  place_passed fits v a b (governor k ∷ []) h p =
      by_test (Bottom IsHead to.stack) (fits && nat_le (op_level op) (room k)) _ _ to
      (λ e. shift_under op to IsHead true v a (governor k ∷ []) h e)
      (λ e. shift_bottom (nat_le (level k) (left_at_most op)) (governing k v b) (begin k) e) p
  place_passed fits v a b (governor k ∷ g ∷ s) h p =
      by_test (Bottom IsHead to.stack) (fits && nat_le (op_level op) (room k)) _ _ to
      (λ e. shift_under op to IsHead true v a (governor k ∷ g ∷ s) h e)
      (λ e. place_passed (nat_le (level k) (left_at_most op)) (governing k v b) (begin k) b (g ∷ s) h e) p
  place_passed fits v a b (parenthesis f ∷ s) h p = shift_under op to IsHead fits v a (parenthesis f ∷ s) h p
  place_passed fits v a b (argument x ys ∷ s) h p = shift_under op to IsHead fits v a (argument x ys ∷ s) h p
  place_passed fits v a b (outline ∷ s) h p = shift_under op to IsHead fits v a (outline ∷ s) h p
  place_passed fits v a b (link w ∷ s) h p = shift_under op to IsHead fits v a (link w ∷ s) h p

bottom_moved : (x to : State) → Some x ≡ Some to → Bottom IsHead x.stack → Bottom IsHead to.stack
bottom_moved x to p h = subst (λ st. Bottom IsHead st.stack) (some_out x to p) h

close_passed : (v : Expression) (a b : ℕ) (s : List Frame) (to : State) → Bottom IsHead s → close v a b s ≡ Some to → Bottom IsHead to.stack
unfolding close Bottom IsHead
close_passed v a b [] to h p = absurd h
close_passed v a b (parenthesis f ∷ []) to h p = absurd h
close_passed v a b (parenthesis f ∷ g ∷ s) to h p = bottom_moved _ to p h
close_passed v a b (argument x ys ∷ []) to h p = absurd h
close_passed v a b (argument x ys ∷ g ∷ s) to h p = bottom_moved _ to p h
close_passed v a b (governor k ∷ []) to h p = cc
close_passed v a b (governor k ∷ g ∷ s) to h p = close_passed (governing k v a) a b (g ∷ s) to h p
close_passed v a b (outline ∷ s) to h p = cc
close_passed v a b (link w ∷ s) to h p = cc

step_passed : (st : State) (k : Lexeme) (to : State) → Bottom IsHead st.stack → step st k ≡ Some to → Bottom IsHead to.stack
step_passed st k to h p =
    on_keeps (λ s. Bottom IsHead s) (λ z. Bottom IsHead z.stack) (λ m s q. q) (λ m f s q. under IsHead f s q)
    (λ op v a b s z q e. place_passed op z true v a b s q e)
    (λ v a b s z q e. close_passed v a b s z q e) st.mode st.stack k.kind k.span to h p

after_shut : (v : Expression) (a b : ℕ) (k : Kind) (c : Span) (to : State) → on (after v a b) [] k c ≡ Some to → Bottom IsHead to.stack
unfolding place close
after_shut v a b (kind.sign op) c to p = shift_bottom op to true v a p
after_shut v a b kind.closing c to p = cc
after_shut v a b _ c to p = cc

-- ---- runs of the plain machine and of the part's

none_some : {A : Type 0} (a : A) → None ≡ Some a → ⊥
none_some a e = cc

step_or_none : (A : Type 0) (m : Option State) (us : List Lexeme) (to : State)
    → ((mid : State) → m ≡ Some mid → run (Some mid) us ≡ Some to → A) → run m us ≡ Some to → A
step_or_none A None us to f p = absurd (none_some to (sym (run-None us) ∙ p))
step_or_none A (Some mid) us to f p = f mid refl p

passed_stays : (ts : List Lexeme) (s z : State) → Bottom IsHead s.stack → run (Some s) ts ≡ Some z → Bottom IsHead z.stack
passed_stays [] s z h p = bottom_moved s z p h
passed_stays (t ∷ ts) s z h p = step_or_none (Bottom IsHead z.stack) (step s t) ts z
    (λ y q e. passed_stays ts y z (step_passed s t y h q) e) p

-- where the run ends with the parenthesis open, it was open all along
data Reached : State → Type 0 where
  open_still : {st : State} → Bottom IsParenthesis st.stack → Reached st
  just_shut : (v : Expression) (a b : ℕ) → Reached (at (after v a b) [])
  passed : {st : State} → Bottom IsHead st.stack → Reached st

reached_moved : (x to : State) → Some x ≡ Some to → Reached x → Reached to
reached_moved x to p h = subst Reached (some_out x to p) h

from_shut : (ts : List Lexeme) (v : Expression) (a b : ℕ) (z : State) → run (Some (at (after v a b) [])) ts ≡ Some z → Reached z
from_shut [] v a b z p = reached_moved _ z p (just_shut v a b)
from_shut (t ∷ ts) v a b z p = passed (step_or_none (Bottom IsHead z.stack) (step (at (after v a b) []) t) ts z
    (λ y q e. passed_stays ts y z (after_shut v a b t.kind t.span y q) e) p)

from_stage : (ts : List Lexeme) {y : State} → Stage y → (z : State) → run (Some y) ts ≡ Some z
    → ((y : State) → Bottom IsParenthesis y.stack → run (Some y) ts ≡ Some z → Reached z) → Reached z
from_stage ts (opened h) z p f = f _ h p
from_stage ts (shut v a b) z p f = from_shut ts v a b z p

from_open : (ts : List Lexeme) (s z : State) → Bottom IsParenthesis s.stack → run (Some s) ts ≡ Some z → Reached z
from_open [] s z h p = reached_moved s z p (open_still h)
from_open (t ∷ ts) s z h p = step_or_none (Reached z) (step s t) ts z
    (λ y q e. from_stage ts (step_opened s t y h q) z e (λ w g r. from_open ts w z g r)) p

-- a `)` that leaves no frame closes the parenthesis at the bottom
still_open : {z : State} → Reached z → (c : Span) (t : Expression) (b : ℕ) → step z (tok kind.closing c) ≡ Some (at (after t 0 b) [])
    → Bottom IsParenthesis z.stack
unfolding close Bottom
still_open (open_still h) c t b e = h
still_open (just_shut v a d) c t b e = cc
still_open (passed {st = st} h) c t b e = absurd (step_passed st (tok kind.closing c) (at (after t 0 b) []) h e)

shut_ends : (ts : List Lexeme) (v : Expression) (a b : ℕ) (z : State) → run (Some (at (after v a b) [])) ts ≡ Some z
    → Bottom IsParenthesis z.stack → ⊥
unfolding Bottom
shut_ends [] v a b z p h = subst (λ st. Bottom IsParenthesis st.stack) (sym (some_out (at (after v a b) []) z p)) h
shut_ends (t ∷ ts) v a b z p h = clash z.stack h (step_or_none (Bottom IsHead z.stack) (step (at (after v a b) []) t) ts z
    (λ y q e. passed_stays ts y z (after_shut v a b t.kind t.span y q) e) p)

open_step : (s : State) (t : Lexeme) → Bottom IsParenthesis s.stack → next_place slots.enclosed s t ≡ step s t
open_step s t h = ap (λ b. cond b None (step s t)) (not_closed IsParenthesis s.stack h)

by_stage : (ts : List Lexeme) {y : State} → Stage y → (z : State) → run (Some y) ts ≡ Some z → Bottom IsParenthesis z.stack →
    ((y : State) → Bottom IsParenthesis y.stack → run (Some y) ts ≡ Some z → over slots.enclosed (Some y) ts ≡ Some z)
    → over slots.enclosed (Some y) ts ≡ Some z
by_stage ts (opened h) z p g f = f _ h p
by_stage ts (shut v a b) z p g f = absurd (shut_ends ts v a b z p g)

walks : (ts : List Lexeme) (s z : State) → Bottom IsParenthesis s.stack → run (Some s) ts ≡ Some z → Bottom IsParenthesis z.stack
    → over slots.enclosed (Some s) ts ≡ Some z
walks [] s z h p g = p
walks (t ∷ ts) s z h p g =
    step_or_none (over slots.enclosed (Some s) (t ∷ ts) ≡ Some z) (step s t) ts z
    (λ y q e. ap (λ m. over slots.enclosed m ts) (open_step s t h ∙ q)
    ∙ by_stage ts (step_opened s t y h q) z e g (λ w i r. walks ts w z i r g)) p

closed_step : (s : State) (t : Lexeme) (y : State) → next_place slots.enclosed s t ≡ Some y → step s t ≡ Some y
closed_step s t y e = by (is_closed s.stack) e
  where
    by : (b : Bool) → cond b None (step s t) ≡ Some y → step s t ≡ Some y
    by true p = cc
    by false p = p

plain_run : (ts : List Lexeme) (s z : State) → over slots.enclosed (Some s) ts ≡ Some z → run (Some s) ts ≡ Some z
plain_run [] s z p = p
plain_run (t ∷ ts) s z p = split_over slots.enclosed (run (Some s) (t ∷ ts) ≡ Some z) (next_place slots.enclosed s t) ts z
    (λ y q e. ap (λ m. run m ts) (closed_step s t y q) ∙ plain_run ts y z e) p

-- nothing follows the `)`
shut_over : (ts : List Lexeme) (v : Expression) (a b : ℕ) (z : State) → over slots.enclosed (Some (at (after v a b) [])) ts ≡ Some z
    → (ts ≡ []) × (at (after v a b) [] ≡ z)
shut_over [] v a b z p = (refl, some_out (at (after v a b) []) z p)
shut_over (t ∷ ts) v a b z p = absurd (none_some z (sym (over-None slots.enclosed ts) ∙ p))

-- ---- the part

arrived : (n a b : ℕ) (us : List Lexeme) (t : Expression) (d : Span) → Arrives (parenthesis 0 ∷ []) us n last a b t →
    over slots.enclosed (Some (first_place slots.enclosed)) (us ++ (tok kind.closing d ∷ [])) ≡ Some (at (after t 0 d.to) [])
unfolding close Bottom IsParenthesis
arrived n a b us t d r =
    let g = still_open (from_open us (first_place slots.enclosed) r.state tt r.ran) d t d.to (r.settles.0 d) in
    over-append slots.enclosed (Some (first_place slots.enclosed)) us (tok kind.closing d ∷ [])
    ∙ ap (λ m. over slots.enclosed m (tok kind.closing d ∷ [])) (walks us (first_place slots.enclosed) r.state tt r.ran g)
    ∙ open_step r.state (tok kind.closing d) g ∙ r.settles.0 d

pub closes_over : {n from to : ℕ} {us : List Lexeme} {t : Expression} → IsOperand n last 1 us from to t → (d : Span) →
    over slots.enclosed (Some (first_place slots.enclosed)) (us ++ (tok kind.closing d ∷ [])) ≡ Some (at (after t 0 d.to) [])
closes_over {n = n} {from = a} {to = b} {us = us} {t = t} e d =
    arrived n a b us t d (runs e (parenthesis 0 ∷ []) refl (inl (operand_most e)))

pub enclosed_ran : (ts : List Lexeme) (t : Expression) → IsPart slots.enclosed ts t → Ran slots.enclosed ts t
enclosed_ran ts t (us, k, c, e, (n, a, b, w)) = record {
  place = at (after t 0 k.span.to) [];
  ran = ap (over slots.enclosed (Some (first_place slots.enclosed))) (e ∙ ap (λ j. us ++ (tok j k.span ∷ [])) c) ∙ closes_over w k.span;
  tree = refl;
  foreign = λ j d h. refl;
}

-- ---- an expression that begins with `(` has an operand up to some `)`

pub record Inside (o : ℕ) (us : List Lexeme) : Type 0 where
  pub inner : List Lexeme
  pub rest : List Lexeme
  pub closing : Span
  pub level : ℕ
  pub from : ℕ
  pub to : ℕ
  pub tree : Expression
  pub split : us ≡ inner ++ (tok kind.closing closing ∷ rest)
  pub is : IsOperand level last (o + 1) inner from to tree

first_kind : List Lexeme → Kind
first_kind [] = kind.tilde
first_kind (k ∷ ks) = k.kind

same_first : (a b : Kind) (c d : Span) (us vs : List Lexeme) → tok a c ∷ us ≡ tok b d ∷ vs → a ≡ b
unfolding first_kind
same_first a b c d us vs e = ap first_kind e

name_first : {o to : ℕ} {ts : List Lexeme} {x : Name} {ys : List Expression} → IsApplication o ts x ys to → (c : Span) (us vs : List Lexeme)
    → ts ++ vs ≡ tok kind.opening c ∷ us → ⊥
name_first (alone x d) c us vs e = let h = same_first _ _ _ _ _ _ e in cc
name_first (to_name {ts = ts} y d w) c us vs e = name_first w c us ((tok (kind.name y) d ∷ []) ++ vs) (sym (append_assoc ts _ vs) ∙ e)
name_first (to_expression {ts = ts} {us = ws} d f w l i) c us vs e =
    name_first w c us (((tok kind.opening d ∷ ws) ++ (tok kind.closing f ∷ [])) ++ vs) (sym (append_assoc ts _ vs) ∙ e)

inside_here : {o n a b : ℕ} {t : Expression} {x : Span} {ts us : List Lexeme} (c d : Span) (vs : List Lexeme)
    → IsOperand n last (o + 1) ts a b t
    → ((tok kind.opening c ∷ ts) ++ (tok kind.closing d ∷ [])) ++ vs ≡ tok kind.opening x ∷ us → Inside o us
inside_here {n = n} {a = a} {b = b} {t = t} {ts = ts} {us = us} c d vs e h = record {
  inner = ts;
  rest = vs;
  closing = d;
  level = n;
  from = a;
  to = b;
  tree = t;
  split = let q : us ≡ (ts ++ (tok kind.closing d ∷ [])) ++ vs = cc in q ∙ append_assoc ts (tok kind.closing d ∷ []) vs;
  is = e;
}

inside_of : {n o a b : ℕ} {g : Next} {ts : List Lexeme} {t : Expression} → IsOperand n g o ts a b t → (c : Span) (us vs : List Lexeme)
    → ts ++ vs ≡ tok kind.opening c ∷ us → Inside o us
inside_of (constant v d) c us vs e = let h = same_first _ _ _ _ _ _ e in cc
inside_of (applied w) c us vs e = absurd (name_first w c us vs e)
inside_of (enclosed d f l i) c us vs e = inside_here d f vs i e
inside_of (governed {us = ws} (left {ts = ts} d i m l) f s r) c us vs e =
    inside_of i c us (((tok _ d) ∷ ws) ++ vs) (sym (append_assoc ts _ vs) ∙ ap (λ z. z ++ vs) (sym (append_assoc ts _ ws)) ∙ e)
inside_of (governed (negating d l) f s r) c us vs e = let h = same_first _ _ _ _ _ _ e in cc
inside_of (governed (names q x y z w sort ns p) f s r) c us vs e = let h = same_first _ _ _ _ _ _ e in cc
inside_of (governed (groups q x d gs) f s r) c us vs e = let h = same_first _ _ _ _ _ _ e in cc

-- the machine behind the parenthesis goes on where it stood
rest_over : (ts : List Lexeme) (s : State) (i : Inside 0 ts) → over slots.enclosed (Some (first_place slots.enclosed)) ts ≡ Some s
    → (i.rest ≡ []) × (at (after i.tree 0 i.closing.to) [] ≡ s)
rest_over ts s i e =
    shut_over i.rest i.tree 0 i.closing.to s
    (sym (ap (λ m. over slots.enclosed m i.rest) (closes_over i.is i.closing))
    ∙ sym (over-append slots.enclosed (Some (first_place slots.enclosed)) (i.inner ++ (tok kind.closing i.closing ∷ [])) i.rest)
    ∙ ap (over slots.enclosed (Some (first_place slots.enclosed))) (append_assoc i.inner (tok kind.closing i.closing ∷ []) i.rest
    ∙ sym i.split) ∙ e)

operand_out : (m : Mode) (s : List Frame) (t : Expression) → operand_in m s ≡ Some t → ends (Some (at m s)) ≡ Some (an_expression t)
unfolding whole
operand_out (after v a b) [] t e = ap (λ x. Some (an_expression x)) (some_out v t e)
operand_out (after v a b) (f ∷ s) t e = cc
operand_out _ s t e = cc

inside_whole : (ts : List Lexeme) (s : State) (t : Expression) → run (Some (first_place slots.enclosed)) ts ≡ Some s
    → operand_in s.mode s.stack ≡ Some t → Inside 0 ts
inside_whole ts s t e q = by (laws.expression_given (tok kind.opening (span 0 0) ∷ ts) (an_expression t) (ap ends e
    ∙ operand_out s.mode s.stack t q))
  where
    by : ((u : Expression) × (an_expression t ≡ an_expression u) × IsExpression (tok kind.opening (span 0 0) ∷ ts) u) → Inside 0 ts
    by (u, h, (n, a, b, w)) = inside_of w (span 0 0) ts [] (append-nil _)

pub enclosed_whole : (ts : List Lexeme) (s : State) (t : Expression) → over slots.enclosed (Some (first_place slots.enclosed)) ts ≡ Some s
    → operand_in s.mode s.stack ≡ Some t → IsPart slots.enclosed ts t
enclosed_whole ts s t e q = by (inside_whole ts s t (plain_run ts _ s e) q)
  where
    by : Inside 0 ts → IsPart slots.enclosed ts t
    by i =
        let (r, h) = rest_over ts s i e in
        let same : i.tree ≡ t = some_out i.tree t (ap (λ z. operand_in z.mode z.stack) h ∙ q) in (
          i.inner,
          tok kind.closing i.closing,
          refl,
          i.split
              ∙ ap (λ l. i.inner ++ (tok kind.closing i.closing ∷ l)) r,
          (i.level, i.from, i.to, subst (λ x. IsOperand i.level last 1 i.inner i.from i.to x) same i.is),
        )

abbrev Parted : List Lexeme → List Lexeme → List Lexeme → List Lexeme → Type 0
Parted a b c d = ((z : List Lexeme) × (c ≡ a ++ z)) ⊎ ((k : Lexeme) × (z : List Lexeme) × (a ≡ c ++ (k ∷ z)) × (d ≡ (k ∷ z) ++ b))

parted_more : (k j : Lexeme) (a b c d : List Lexeme) → k ≡ j → Parted a b c d → Parted (k ∷ a) b (j ∷ c) d
parted_more k j a b c d p (inl (z, h)) = inl (z, ap (λ x. x ∷ c) (sym p) ∙ ap (λ l. k ∷ l) h)
parted_more k j a b c d p (inr (i, z, h, g)) = inr (i, z, ap (λ x. x ∷ a) p ∙ ap (λ l. j ∷ l) h, g)

append_split : (a b c d : List Lexeme) → a ++ b ≡ c ++ d → Parted a b c d
append_split [] b c d e = inl (c, refl)
append_split (k ∷ a) b [] d e = inr (k, a, refl, sym e)
append_split (k ∷ a) b (j ∷ c) d e = let q : a ++ b ≡ c ++ d = cc in let p : k ≡ j = cc in
    parted_more k j a b c d p (append_split a b c d q)

inside_begun : (ts : List Lexeme) → GoesOn for_expression (tok kind.opening (span 0 0) ∷ ts) → (us : List Lexeme) × Inside 0 (ts ++ us)
inside_begun ts g = by (laws.expression_given ((tok kind.opening (span 0 0) ∷ ts) ++ g.tokens) g.phrase
    (laws.found_read for_expression ((tok kind.opening (span 0 0) ∷ ts) ++ g.tokens) g.phrase g.found))
  where
    by : ((u : Expression) × (g.phrase ≡ an_expression u) × IsExpression ((tok kind.opening (span 0 0) ∷ ts) ++ g.tokens) u)
        → (us : List Lexeme) × Inside 0 (ts ++ us)
    by (u, h, (n, a, b, w)) = (g.tokens, inside_of w (span 0 0) (ts ++ g.tokens) [] (append-nil _))

ended_inside : (ts us : List Lexeme) (s : State) → over slots.enclosed (Some (first_place slots.enclosed)) ts ≡ Some s → Inside 0 (ts ++ us)
    → Ended slots.enclosed s
ended_inside ts us s e i = by (append_split ts us i.inner (tok kind.closing i.closing ∷ i.rest) i.split)
  where
    shut_already : (k : Lexeme) (z : List Lexeme) → ts ≡ i.inner ++ (k ∷ z) → tok kind.closing i.closing ∷ i.rest ≡ (k ∷ z) ++ us
        → Ended slots.enclosed s
    shut_already k z h g =
        let first : tok kind.closing i.closing ≡ k = cc in
        let j : Inside 0 ts = record {
          inner = i.inner;
          rest = z;
          closing = i.closing;
          level = i.level;
          from = i.from;
          to = i.to;
          tree =
              i.tree;
          split = h ∙ ap (λ x. i.inner ++ (x ∷ z)) (sym first);
          is = i.is;
        } in
        record {
          tokens = [];
          place = s;
          part = i.tree;
          ran = refl;
          tree =
              sym (ap (λ w. operand_in w.mode w.stack) (rest_over ts s j e).1);
        }

    by : Parted ts us i.inner (tok kind.closing i.closing ∷ i.rest) → Ended slots.enclosed s
    by (inl (z, h)) = record {
      tokens = z ++ (tok kind.closing i.closing ∷ []);
      place = at (after i.tree 0 i.closing.to) [];
      part = i.tree;
      ran = ap (λ m. over slots.enclosed m (z ++ (tok kind.closing i.closing ∷ []))) (sym e)
          ∙ sym (over-append slots.enclosed (Some (first_place slots.enclosed)) ts (z ++ (tok kind.closing i.closing ∷ [])))
          ∙ ap (over slots.enclosed (Some (first_place slots.enclosed))) (sym (append_assoc ts z (tok kind.closing i.closing ∷ []))
          ∙ ap (λ l. l ++ (tok kind.closing i.closing ∷ [])) (sym h)) ∙ closes_over i.is i.closing;
      tree = refl;
    }
    by (inr (k, z, h, g)) = shut_already k z h g

pub enclosed_ended : (ts : List Lexeme) (s : State) → over slots.enclosed (Some (first_place slots.enclosed)) ts ≡ Some s
    → Ended slots.enclosed s
enclosed_ended ts s e =
    let (us, i) = inside_begun ts (goes_on for_expression (tok kind.opening (span 0 0) ∷ ts) s
    (plain_run ts (first_place slots.enclosed) s e)) in
    ended_inside ts us s e i
