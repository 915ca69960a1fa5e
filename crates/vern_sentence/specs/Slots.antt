-- The parts of sentences of which the length isn't known beforehand, and the machine that reads each.
use Rattle.std.specs.Prelude.{◌≡◌, Bool, true, false, cond, nat_lt, List, [], ◌∷◌, ◌++◌, length, map, Option, Some, None}
use Rattle.vern_grammar.specs.Trees.{Name, Group, Expression, Shape}
use Rattle.vern_grammar.specs.Kinds.{Kind, Lexeme}
use Rattle.vern_grammar.specs.Kinds as kind
use Rattle.vern_grammar.specs.Grammar.{named, group, IsExpression, IsShape}
use Rattle.vern_grammar.specs.Machine.{State, at, after, want, Frame, parenthesis, outline, Mode, Phrase, an_expression, a_shape, step}
use Rattle.vern_grammar.specs.Machine.{ends}
use Rattle.vern_sentence.specs.Evidence.{IsEvidence}
use Rattle.vern_sentence.specs.Sentences.{spelled, IsInner, AreGroups}

-- An expression; one behind a `(`, with the `)`; a shape; evidence; any number of names; any number of a definition's groups.
pub data Slot : Type 0 where
  expression enclosed shape evidence names groups : Slot

-- what each part is read as
abbrev pub Tree : Slot → Type 0
Tree expression = Expression
Tree enclosed = Expression
Tree shape = Shape
Tree evidence = Expression
Tree names = List Name
Tree groups = List Group

-- the whole tokens of a part, and its tree
abbrev pub IsPart : (i : Slot) → List Lexeme → Tree i → Type 0
IsPart expression ts t = IsExpression ts t
IsPart enclosed ts t = (us : List Lexeme) × (k : Lexeme) × (k.kind ≡ kind.closing) × (ts ≡ us ++ (k ∷ [])) × IsInner us t
IsPart shape ts t = IsShape ts t
IsPart evidence ts t = IsEvidence ts t
IsPart names ts xs = ts ≡ map spelled xs
IsPart groups ts gs = AreGroups ts gs

-- ---- groups

-- What was read: whole groups; groups, `(` and names; then `:`; then their sort.
pub data GroupPlace : Type 0 where
  between : List Group → GroupPlace
  inside : List Group → List Name → GroupPlace
  before_sort : List Group → List Name → GroupPlace
  behind_sort : List Group → List Name → Name → GroupPlace

-- the next place in groups, or none where the token isn't of them
abbrev pub on_group : GroupPlace → Lexeme → Kind → Option GroupPlace
on_group (between gs) t kind.opening = Some (inside gs [])
on_group (between gs) t _ = None
on_group (inside gs xs) t (kind.name x) = Some (inside gs (xs ++ (named x t.span ∷ [])))
on_group (inside gs xs) t kind.colon = cond (nat_lt 0 (length xs)) (Some (before_sort gs xs)) None
on_group (inside gs xs) t _ = None
on_group (before_sort gs xs) t (kind.name x) = Some (behind_sort gs xs (named x t.span))
on_group (before_sort gs xs) t _ = None
on_group (behind_sort gs xs s) t kind.closing = Some (between (gs ++ (group xs s ∷ [])))
on_group (behind_sort gs xs s) t _ = None

-- the groups, where none is begun
abbrev pub whole_groups : GroupPlace → Option (List Group)
whole_groups (between gs) = Some gs
whole_groups _ = None

-- ---- names and evidence

-- the name that a token is
abbrev pub name_in : Kind → Lexeme → Option Name
name_in (kind.name x) t = Some (named x t.span)
name_in _ t = None

-- the name that a token is
abbrev pub name_of : Lexeme → Option Name
name_of t = name_in t.kind t

-- names with one more, if it is there
abbrev pub one_more : List Name → Option Name → Option (List Name)
one_more xs None = None
one_more xs (Some x) = Some (xs ++ (x ∷ []))

-- the tokens of evidence
abbrev pub is_simple : Kind → Bool
is_simple (kind.name x) = true
is_simple kind.opening = true
is_simple kind.closing = true
is_simple _ = false

-- ---- expressions and shapes

-- the expression that was read
abbrev pub expression_in : Option Phrase → Option Expression
expression_in (Some (an_expression t)) = Some t
expression_in _ = None

-- the shape that was read
abbrev pub shape_in : Option Phrase → Option Shape
shape_in (Some (a_shape t)) = Some t
shape_in _ = None

-- no frame waits for its end
abbrev pub is_closed : List Frame → Bool
is_closed [] = true
is_closed (f ∷ s) = false

-- the operand behind no frame
abbrev pub operand_in : Mode → List Frame → Option Expression
operand_in (after v from to) [] = Some v
operand_in _ _ = None

-- ---- a part's machine

-- what each machine keeps
abbrev pub Place : Slot → Type 0
Place expression = State
Place enclosed = State
Place shape = State
Place evidence = State
Place names = List Name
Place groups = GroupPlace

-- where each machine begins
abbrev pub first_place : (i : Slot) → Place i
first_place expression = at want []
first_place enclosed = at want (parenthesis 0 ∷ [])
first_place shape = at want (outline ∷ [])
first_place evidence = at want []
first_place names = []
first_place groups = between []

-- The next place, or none where the token isn't of the part. What is behind a `(` ends with its `)`.
abbrev pub next_place : (i : Slot) → Place i → Lexeme → Option (Place i)
next_place expression s t = step s t
next_place enclosed s t = cond (is_closed s.stack) None (step s t)
next_place shape s t = step s t
next_place evidence s t = cond (is_simple t.kind) (step s t) None
next_place names s t = one_more s (name_of t)
next_place groups s t = on_group s t t.kind

-- the tree of what was read, or none where it isn't a whole part
abbrev pub tree_at : (i : Slot) → Place i → Option (Tree i)
tree_at expression s = expression_in (ends (Some s))
tree_at enclosed s = operand_in s.mode s.stack
tree_at shape s = shape_in (ends (Some s))
tree_at evidence s = expression_in (ends (Some s))
tree_at names s = Some s
tree_at groups s = whole_groups s

-- the place where the next token isn't of the part, and the tokens from there on
abbrev pub cut : (i : Slot) → Place i → List Lexeme → Place i × List Lexeme
cut i s [] = (s, [])
cut i s (t ∷ ts) = elim (next_place i s t) [ None ↦ (s, t ∷ ts) | Some z ↦ cut i z ts ]
