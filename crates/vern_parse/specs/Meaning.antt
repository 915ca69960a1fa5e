-- What the Rust values stand for: the data types of the grammar.
use Rattle.std.specs.Prelude.{true, false, List, map}
use Rattle.vern_grammar.specs.Trees.{Operator, implication, equivalence, disjunction, conjunction, equation, inequation, Name, Group}
use Rattle.vern_grammar.specs.Trees.{Expression, expressions}
use Rattle.vern_grammar.specs.Trees as tree
use Rattle.vern_grammar.specs.Kinds as kinds
use Rattle.vern_grammar.specs.Grammar as grammar
use Rattle.vern_grammar.specs.Machine as machine
use Rattle.vern_parse.specs.declared.raw.RawName.{RawName}
use Rattle.vern_parse.specs.declared.raw.RawGroup.{RawGroup}
use Rattle.vern_parse.specs.declared.raw.RawOp.{RawOp}
use Rattle.vern_parse.specs.declared.raw.RawOp.TheVariants.{Imp, Iff, Or, And, Eq, Ne}
use Rattle.vern_parse.specs.declared.raw.RawExpr.{RawExpr}
use Rattle.vern_parse.specs.declared.raw.RawExpr.TheOpen.{RawExpr-F, True, False, App, Binary, Not, Quant}
use Rattle.vern_parse.specs.declared.raw.RawExpr.TheFolds.{fold-RawExpr}
use Rattle.vern_parse.specs.declared.raw.Shape.{Shape}
use Rattle.vern_parse.specs.declared.raw.Shape.TheOpen.{Shape-F, Set, Prop, Arrow, Plain}
use Rattle.vern_parse.specs.declared.raw.Shape.TheFolds.{fold-Shape}
use Rattle.vern_parse.specs.declared.frames.Binder.{Binder}
use Rattle.vern_parse.specs.declared.frames.Head.{Head}
use Rattle.vern_parse.specs.declared.frames.Head.TheVariants.{Operator as Operator', Tilde, Quantifier}
use Rattle.vern_parse.specs.declared.frames.Frame.{Frame}
use Rattle.vern_parse.specs.declared.frames.Frame.TheVariants.{Parenthesis, Argument, Governor, Outline, Link}
use Rattle.vern_parse.specs.declared.frames.Mode.{Mode}
use Rattle.vern_parse.specs.declared.frames.Mode.TheVariants.{Want, Applying, After, Ended, InNames, NamesSort, NamesEnd, InGroup}
use Rattle.vern_parse.specs.declared.frames.Mode.TheVariants.{GroupSort, GroupEnd, InGroups}
use Rattle.vern_parse.specs.declared.kind.Kind.{Kind}
use Rattle.vern_parse.specs.declared.kind.Kind.TheVariants as kinded

-- ---- trees

-- a name
abbrev pub name : RawName → Name
name x = record { text = x.text; span = x.span }

-- a group
abbrev pub group : RawGroup → Group
group g = record { names = map name g.names.items; sort = name g.sort }

-- an operator
abbrev pub operator : RawOp → Operator
operator Imp = implication
operator Iff = equivalence
operator Or = disjunction
operator And = conjunction
operator Eq = equation
operator Ne = inequation

-- an expression whose parts are known
abbrev pub expression_step : RawExpr-F Expression → Expression
expression_step (True c) = tree.constant true c
expression_step (False c) = tree.constant false c
expression_step (App x ys c) = tree.application (name x) (expressions ys.items) c
expression_step (Binary op a b c) = tree.binary (operator op) a.value b.value c
expression_step (Not a c) = tree.negation a.value c
expression_step (Quant q gs a c) = tree.quantified q (map group gs.items) a.value c

-- an expression
abbrev pub expression : RawExpr → Expression
expression = fold-RawExpr Expression expression_step

-- a shape whose rest is known
abbrev pub shape_step : Shape-F tree.Shape → tree.Shape
shape_step (Set c) = tree.set c
shape_step (Prop c) = tree.prop c
shape_step (Arrow a s) = tree.arrow (expression a) s.value
shape_step (Plain a) = tree.plain (expression a)

-- a shape
abbrev pub shape : Shape → tree.Shape
shape = fold-Shape tree.Shape shape_step

-- ---- tokens

-- a kind of token
abbrev pub kind : Kind → kinds.Kind
kind (kinded.Name x) = kinds.name x
kind (kinded.Constant b) = kinds.constant b
kind (kinded.Sign op) = kinds.sign (operator op)
kind (kinded.Quantifier q) = kinds.quantifier q
kind kinded.Tilde = kinds.tilde
kind kinded.Opening = kinds.opening
kind kinded.Closing = kinds.closing
kind kinded.Colon = kinds.colon
kind kinded.Comma = kinds.comma
kind kinded.Set = kinds.set
kind kinded.Prop = kinds.prop
kind (kinded.Other k) = kinds.other k

-- ---- the machine

-- a quantifier as far as it was read
abbrev pub binder : Binder → grammar.Binder
binder b = grammar.binder b.all b.from (map group b.groups.items) b.bound

-- what governs an operand
abbrev pub head : Head → grammar.Head
head (Operator' op a from) = grammar.operator (operator op) (expression a) from
head (Tilde from) = grammar.tilde from
head (Quantifier b) = grammar.quantifier (binder b)

-- what waits for its end
abbrev pub frame : Frame → machine.Frame
frame (Parenthesis from) = machine.parenthesis from
frame (Argument x ys) = machine.argument (name x) (map expression ys.items)
frame (Governor h) = machine.governor (head h)
frame Outline = machine.outline
frame (Link a) = machine.link (expression a)

-- what the tokens behind the newest frame are
abbrev pub mode : Mode → machine.Mode
mode Want = machine.want
mode (Applying x ys to) = machine.applying (name x) (map expression ys.items) to
mode (After a from to) = machine.after (expression a) from to
mode (Ended s) = machine.ended (shape s)
mode (InNames b xs) = machine.in_names (binder b) (map name xs.items)
mode (NamesSort b xs) = machine.names_sort (binder b) (map name xs.items)
mode (NamesEnd b) = machine.names_end (binder b)
mode (InGroup b xs) = machine.in_group (binder b) (map name xs.items)
mode (GroupSort b xs) = machine.group_sort (binder b) (map name xs.items)
mode (GroupEnd b) = machine.group_end (binder b)
mode (InGroups b) = machine.in_groups (binder b)

-- the frames of a stack, the newest first
abbrev pub frames : List Frame → List machine.Frame
frames fs = map frame fs
