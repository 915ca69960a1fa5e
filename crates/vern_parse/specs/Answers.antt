-- What the functions of the parser answer, seen against the machine and the grammar.
use Rattle.std.specs.Prelude.{◌≡◌, ℕ, zero, suc, ◌+◌, ◌≤◌, Bool, true, false, not, ◌&&◌, nat_le, List, [], ◌∷◌, ◌++◌, length, Option, Some}
use Rattle.std.specs.Prelude.{None, Result, Ok, Err}
use Rattle.vern_lex.specs.declared.token.Token.{Token}
use Rattle.vern_grammar.specs.Trees as tree
use Rattle.vern_grammar.specs.Kinds.{Lexeme, lexemes}
use Rattle.vern_grammar.specs.Levels.{op_level, limit}
use Rattle.vern_grammar.specs.Grammar.{room, IsFault}
use Rattle.vern_grammar.specs.Machine.{State, at, depth, governor, Fails}
use Rattle.vern_grammar.specs.Machine as machine
use Rattle.vern_parse.specs.declared.raw.RawExpr.{RawExpr}
use Rattle.vern_parse.specs.declared.raw.Shape.{Shape}
use Rattle.vern_parse.specs.declared.frames.Frame.{Frame}
use Rattle.vern_parse.specs.declared.frames.Mode.{Mode}
use Rattle.vern_parse.specs.declared.frames.Mode.TheVariants.{InNames, NamesSort, NamesEnd, InGroup, GroupSort, GroupEnd, InGroups}
use Rattle.vern_parse.specs.declared.fault.ParseFault.{ParseFault}
use Rattle.vern_parse.specs.declared.fault.ParseFault.TheVariants as fault
use Rattle.vern_parse.specs.declared.fault.Stop.{Stop}
use Rattle.vern_parse.specs.declared.fault.Stop.TheVariants.{Refused, NoMemory}
use Rattle.vern_parse.specs.Meaning.{expression, shape, mode, frames}

-- a list from its end
abbrev pub stacked : {A : Type 0} → List A → List A
stacked [] = []
stacked (f ∷ fs) = stacked fs ++ (f ∷ [])

-- the newest frame
abbrev pub first : {A : Type 0} → List A → Option A
first [] = None
first (f ∷ fs) = Some f

-- The machine goes to this mode and these frames, or refuses the token, unless memory was wanting.
abbrev pub Steps : Result Mode Stop → List Frame → Option State → Type 0
Steps (Ok m) s to = to ≡ Some (at (mode m) (frames s))
Steps (Err Refused) s to = to ≡ None
Steps (Err NoMemory) s to = Unit {0}

-- there is a next state
abbrev pub is_taken : Option State → Bool
is_taken None = false
is_taken (Some st) = true

-- the newest frame is a head that takes the operand before the operator could have it
abbrev pub takes_first : tree.Operator → Bool → List machine.Frame → Bool
takes_first op fits (governor h ∷ s) = not (fits && nat_le (op_level op) (room h))
takes_first op fits _ = false

-- the newest frame is a head
abbrev pub is_governed : List machine.Frame → Bool
is_governed (governor h ∷ s) = true
is_governed _ = false

-- the names that a quantifier binds are within the limit
abbrev pub Bounded : Mode → List Frame → Type 0
Bounded (InNames b xs) s = depth (frames s) + b.bound ≤ limit
Bounded (NamesSort b xs) s = depth (frames s) + b.bound ≤ limit
Bounded (NamesEnd b) s = depth (frames s) + b.bound ≤ limit
Bounded (InGroup b xs) s = depth (frames s) + b.bound ≤ limit
Bounded (GroupSort b xs) s = depth (frames s) + b.bound ≤ limit
Bounded (GroupEnd b) s = depth (frames s) + b.bound ≤ limit
Bounded (InGroups b) s = depth (frames s) + b.bound ≤ limit
Bounded _ s = Unit {0}

-- The same of a token, whose offset is told where it is refused.
abbrev pub Takes : Result Mode ParseFault → List Frame → Token → Option State → Type 0
Takes (Ok m) s token to = to ≡ Some (at (mode m) (frames s))
Takes (Err (fault.At p)) s token to = (to ≡ None) × (p ≡ token.span.from)
Takes (Err fault.NoMemory) s token to = Unit {0}

-- There is this tree, or none, unless memory was wanting.
abbrev pub EndsExpression : Result RawExpr Stop → Option tree.Expression → Type 0
EndsExpression (Ok t) m = m ≡ Some (expression t)
EndsExpression (Err Refused) m = m ≡ None
EndsExpression (Err NoMemory) m = Unit {0}

-- The same of a shape.
abbrev pub EndsShape : Result Shape Stop → Option tree.Shape → Type 0
EndsShape (Ok t) m = m ≡ Some (shape t)
EndsShape (Err Refused) m = m ≡ None
EndsShape (Err NoMemory) m = Unit {0}

-- where the token of a number begins, or the sentence's length where there is no such token
abbrev pub offset : List ℕ → List Token → ℕ → ℕ
offset sentence [] i = length sentence
offset sentence (t ∷ ts) zero = t.span.from
offset sentence (t ∷ ts) (suc i) = offset sentence ts i

-- The fault is at the first token with which the tokens so far begin no tree of the grammar `R`, or at the sentence's length where all of
-- them
-- begin one and are none. Want of memory says nothing.
abbrev pub IsFaultOf : {A : Type 0} → (List Lexeme → A → Type 0) → List ℕ → List Token → ParseFault → Type 0
IsFaultOf R sentence tokens (fault.At p) = (i : ℕ) × IsFault R (lexemes sentence tokens) i × (p ≡ offset sentence tokens i)
IsFaultOf R sentence tokens fault.NoMemory = Unit {0}

-- the same of the machine that begins behind some frames
abbrev pub StopsAt : List machine.Frame → List ℕ → List Token → ParseFault → Type 0
StopsAt s sentence tokens (fault.At p) = (i : ℕ) × Fails s (lexemes sentence tokens) i × (p ≡ offset sentence tokens i)
StopsAt s sentence tokens fault.NoMemory = Unit {0}

-- The answer is this tree, or want of memory.
abbrev pub IsRead : {X Y : Type 0} → (X → Y) → Result X ParseFault → Y → Type 0
IsRead f (Ok x) t = f x ≡ t
IsRead f (Err (fault.At p)) t = ⊥
IsRead f (Err fault.NoMemory) t = Unit {0}

-- The answer is the fault at this offset, or want of memory.
abbrev pub IsRefused : {X : Type 0} → Result X ParseFault → ℕ → Type 0
IsRefused (Ok x) p = ⊥
IsRefused (Err (fault.At q)) p = q ≡ p
IsRefused (Err fault.NoMemory) p = Unit {0}
