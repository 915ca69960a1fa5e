-- The machine that reads a token at a time, on a stack of what waits for its end.
use Rattle.std.specs.Prelude.{◌≡◌, ◌<◌, ◌≤◌, take, ℕ, ◌+◌, Bool, true, false, cond, ◌&&◌, nat_lt, nat_le, List, [], ◌∷◌, ◌++◌, length}
use Rattle.std.specs.Prelude.{Option, Some, None}
use Rattle.vern_lex.specs.declared.span.Span.{Span}
use Rattle.vern_grammar.specs.Trees.{Operator, Name, Expression, Shape}
use Rattle.vern_grammar.specs.Trees as made
use Rattle.vern_grammar.specs.Kinds.{Kind, Lexeme}
use Rattle.vern_grammar.specs.Kinds as kind
use Rattle.vern_grammar.specs.Levels.{op_level, left_at_most, tilde_level, bare, outer, limit}
use Rattle.vern_grammar.specs.Grammar.{named, group, application, single, Binder, binder, Head, operator, tilde, quantifier, level, room}
use Rattle.vern_grammar.specs.Grammar.{openings, begin, governing}

-- What waits for its end: a parenthesis from an offset; the argument in parentheses of a name with the arguments before it; the operand of
-- a
-- head; a whole shape; the rest of a shape behind an operand with its arrow.
pub data Frame : Type 0 where
  parenthesis : ℕ → Frame
  argument : Name → List Expression → Frame
  governor : Head → Frame
  outline : Frame
  link : Expression → Frame

-- What the tokens behind the newest frame are:
pub data Mode : Type 0 where
  -- none: an operand begins, or in a shape `Set` or `Prop` stands
  want : Mode
  -- a name with some arguments, which end at an offset
  applying : Name → List Expression → ℕ → Mode
  -- an operand, from an offset to another, that takes no argument
  after : Expression → ℕ → ℕ → Mode
  -- the last part of a shape
  ended : Shape → Mode
  -- the word of a quantifier with names; then `:`; then their sort
  in_names : Binder → List Name → Mode
  names_sort : Binder → List Name → Mode
  names_end : Binder → Mode
  -- a quantifier with whole groups and `(` with names; then `:`; then their sort; then `)`
  in_group : Binder → List Name → Mode
  group_sort : Binder → List Name → Mode
  group_end : Binder → Mode
  in_groups : Binder → Mode

-- the newest frame comes first
pub record State : Type 0 where
  pub mode : Mode
  pub stack : List Frame

-- the state of a mode and its frames
abbrev pub at : Mode → List Frame → State
at m s = record { mode = m; stack = s }

-- how many openings a frame has
abbrev pub weight : Frame → ℕ
weight (parenthesis from) = 1
weight (argument x ys) = 1
weight (governor h) = openings h
weight outline = 0
weight (link v) = 1

-- how many openings are open behind the frames
abbrev pub depth : List Frame → ℕ
depth [] = 0
depth (f ∷ s) = depth s + weight f

-- the most level of an operand behind the frames, but for a quantifier
abbrev pub top : List Frame → ℕ
top (governor h ∷ s) = room h
top (outline ∷ s) = outer
top (link v ∷ s) = outer
top _ = bare

-- a shape begins behind the frames
abbrev pub in_shape : List Frame → Bool
in_shape (outline ∷ s) = true
in_shape (link v ∷ s) = true
in_shape _ = false

-- one opening more, which n are open before
abbrev pub within : ℕ → State → Option State
within n st = cond (nat_lt n limit) (Some st) None

-- what an operator with its left operand is: an arrow is part of the shape where a shape begins
abbrev pub pushed : Operator → Expression → ℕ → List Frame → Frame
pushed op v from s = cond (nat_le (op_level op) (top s)) (governor (operator op v from)) (link v)

-- An operator comes behind an operand that no head takes; `fits` says whether it may have it on its left.
abbrev pub shift : Operator → Bool → Expression → ℕ → List Frame → Option State
shift op fits v from s = cond fits (within (depth s) (at want (pushed op v from s ∷ s))) None

-- An operator comes behind an operand. The newest head takes the operand where the operator may not have it, or may not stand behind the
-- head.
unfoldable pub place : Operator → Bool → Expression → ℕ → ℕ → List Frame → Option State
place op fits v from to (governor h ∷ s) = cond (fits && nat_le (op_level op) (room h)) (shift op true v from (governor h ∷ s))
    (place op (nat_le (level h) (left_at_most op)) (governing h v to) (begin h) to s)
place op fits v from to s = shift op fits v from s

-- A `)` that ends at `behind` comes behind an operand: all heads down to its `(` take their operands.
unfoldable pub close : Expression → ℕ → ℕ → List Frame → Option State
close v to behind (parenthesis from ∷ s) = Some (at (after v from behind) s)
close v to behind (argument x ys ∷ s) = Some (at (applying x (ys ++ (v ∷ [])) behind) s)
close v to behind (governor h ∷ s) = close (governing h v to) to behind s
close v to behind _ = None

-- what is read
pub data Phrase : Type 0 where
  an_expression : Expression → Phrase
  a_shape : Shape → Phrase

-- the shape whose last part is given
unfoldable pub chain : Shape → List Frame → Option Phrase
chain t (link v ∷ s) = chain (made.arrow v t) s
chain t (outline ∷ s) = Some (a_shape t)
chain t _ = None

-- No token is left behind an operand.
unfoldable pub whole : Expression → ℕ → List Frame → Option Phrase
whole v to [] = Some (an_expression v)
whole v to (governor h ∷ s) = whole (governing h v to) to s
whole v to s = chain (made.plain v) s

-- a token behind an operand that takes no argument
abbrev pub behind : Expression → ℕ → ℕ → List Frame → Kind → Span → Option State
behind v from to s (kind.sign op) c = place op true v from to s
behind v from to s kind.closing c = close v to c.to s
behind v from to s _ c = None

-- a quantifier that binds one name more
abbrev pub counted : Binder → Binder
counted b = binder b.all b.from b.groups (b.bound + 1)

-- a quantifier with one group more
abbrev pub with_group : Binder → List Name → Name → Binder
with_group b xs sort = binder b.all b.from (b.groups ++ (group xs sort ∷ [])) b.bound

-- the next token. A quantifier's word and the `(` of its group are refused where no name can follow.
abbrev pub on : Mode → List Frame → Kind → Span → Option State
on want s (kind.name x) c = Some (at (applying (named x c) [] c.to) s)
on want s (kind.constant b) c = Some (at (after (made.constant b c) c.from c.to) s)
on want s kind.opening c = within (depth s) (at want (parenthesis c.from ∷ s))
on want s kind.tilde c = cond (nat_le tilde_level (top s)) (within (depth s) (at want (governor (tilde c.from) ∷ s))) None
on want s (kind.quantifier q) c = within (depth s) (at (in_names (binder q c.from [] 0) []) s)
on want s kind.set c = cond (in_shape s) (Some (at (ended (made.set c)) s)) None
on want s kind.prop c = cond (in_shape s) (Some (at (ended (made.prop c)) s)) None
on want s _ c = None
on (applying x ys to) s (kind.name y) c = Some (at (applying x (ys ++ (single y c ∷ [])) c.to) s)
on (applying x ys to) s kind.opening c = within (depth s) (at want (argument x ys ∷ s))
on (applying x ys to) s k c = behind (application x ys to) x.span.from to s k c
on (after v from to) s k c = behind v from to s k c
on (ended t) s k c = None
on (in_names b xs) s (kind.name x) c = within (depth s + b.bound) (at (in_names (counted b) (xs ++ (named x c ∷ []))) s)
on (in_names b xs) s kind.opening c = cond (nat_lt 0 (length xs)) None (within (depth s + b.bound + 1) (at (in_group b []) s))
on (in_names b xs) s kind.colon c = cond (nat_lt 0 (length xs)) (Some (at (names_sort b xs) s)) None
on (in_names b xs) s _ c = None
on (names_sort b xs) s (kind.name x) c = Some (at (names_end (with_group b xs (named x c))) s)
on (names_sort b xs) s _ c = None
on (names_end b) s kind.comma c = Some (at want (governor (quantifier b) ∷ s))
on (names_end b) s _ c = None
on (in_group b xs) s (kind.name x) c = within (depth s + b.bound + 1) (at (in_group (counted b) (xs ++ (named x c ∷ []))) s)
on (in_group b xs) s kind.colon c = cond (nat_lt 0 (length xs)) (Some (at (group_sort b xs) s)) None
on (in_group b xs) s _ c = None
on (group_sort b xs) s (kind.name x) c = Some (at (group_end (with_group b xs (named x c))) s)
on (group_sort b xs) s _ c = None
on (group_end b) s kind.closing c = Some (at (in_groups b) s)
on (group_end b) s _ c = None
on (in_groups b) s kind.opening c = within (depth s + b.bound + 1) (at (in_group b []) s)
on (in_groups b) s kind.comma c = Some (at want (governor (quantifier b) ∷ s))
on (in_groups b) s _ c = None

-- the state behind one token more, or none where it is refused
abbrev pub step : State → Lexeme → Option State
step st k = on st.mode st.stack k.kind k.span

-- the same behind a state that there may be
abbrev pub next : Option State → Lexeme → Option State
next None t = None
next (Some st) t = step st t

-- the state behind all tokens
abbrev pub run : Option State → List Lexeme → Option State
run m [] = m
run m (t ∷ ts) = run (next m t) ts

-- what was read where no token is left
abbrev pub result : Mode → List Frame → Option Phrase
result (applying x ys to) s = whole (application x ys to) to s
result (after v from to) s = whole v to s
result (ended t) s = chain t s
result _ s = None

-- what was read in a state that there may be
abbrev pub ends : Option State → Option Phrase
ends None = None
ends (Some st) = result st.mode st.stack

-- behind some frames no token is read
abbrev pub start : List Frame → Option State
start s = Some (at want s)

-- An expression begins behind no frame, a shape behind one.
abbrev pub parsed : List Frame → List Lexeme → Option Phrase
parsed s ts = ends (run (start s) ts)

-- The machine stops at the token of this number, or at the end where nothing was read.
pub record Fails (s : List Frame) (ts : List Lexeme) (p : ℕ) : Type 0 where
  pub within : p ≤ length ts
  pub state : State
  pub begun : run (start s) (take p ts) ≡ Some state
  pub refused : p < length ts → run (start s) (take (p + 1) ts) ≡ None
  pub unfinished : p ≡ length ts → parsed s ts ≡ None
