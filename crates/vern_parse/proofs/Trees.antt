-- What each variant of an expression and of a shape stands for.
use Rattle.std.proofs.Common.{◌≡◌, Bool, true, false, map, ap, sym, ◌∙◌}
use Rattle.std.specs.Prelude.{Vec, Box}
use Rattle.std.specs.declared.alloc.Global.{Global}
use Rattle.vern_lex.specs.declared.span.Span.{Span}
use Rattle.vern_grammar.specs.Trees.{Expression, expressions}
use Rattle.vern_grammar.specs.Trees as tree
use Rattle.vern_parse.specs.declared.raw.RawName.{RawName}
use Rattle.vern_parse.specs.declared.raw.RawGroup.{RawGroup}
use Rattle.vern_parse.specs.declared.raw.RawOp.{RawOp}
use Rattle.vern_parse.specs.declared.raw.RawExpr.{RawExpr}
use Rattle.vern_parse.specs.declared.raw.RawExpr.TheOpen as layer
use Rattle.vern_parse.specs.declared.raw.RawExpr.TheVariants as made
use Rattle.vern_parse.specs.declared.raw.RawExpr.TheFolds.{fold-roll-RawExpr}
use Rattle.vern_parse.specs.declared.raw.Shape.{Shape}
use Rattle.vern_parse.specs.declared.raw.Shape.TheOpen as shape_layer
use Rattle.vern_parse.specs.declared.raw.Shape.TheVariants as shaped
use Rattle.vern_parse.specs.declared.raw.Shape.TheFolds.{fold-roll-Shape}
use Rattle.vern_parse.specs.Meaning.{name, group, operator, expression, expression_step, shape, shape_step}

pub expression_True : (c : Span) → expression (made.True c) ≡ tree.constant true c
expression_True c = ap expression (sym (made.rolls-True c)) ∙ fold-roll-RawExpr Expression expression_step (layer.True c)

pub expression_False : (c : Span) → expression (made.False c) ≡ tree.constant false c
expression_False c = ap expression (sym (made.rolls-False c)) ∙ fold-roll-RawExpr Expression expression_step (layer.False c)

pub expression_App : (x : RawName) (ys : Vec RawExpr Global) (c : Span)
    → expression (made.App x ys c) ≡ tree.application (name x) (expressions (map expression ys.items)) c
expression_App x ys c = ap expression (sym (made.rolls-App x ys c)) ∙ fold-roll-RawExpr Expression expression_step (layer.App x ys c)

pub expression_Binary : (op : RawOp) (a b : Box RawExpr Global) (c : Span)
    → expression (made.Binary op a b c) ≡ tree.binary (operator op) (expression a.value) (expression b.value) c
expression_Binary op a b c = ap expression (sym (made.rolls-Binary op a b c))
    ∙ fold-roll-RawExpr Expression expression_step (layer.Binary op a b c)

pub expression_Not : (a : Box RawExpr Global) (c : Span) → expression (made.Not a c) ≡ tree.negation (expression a.value) c
expression_Not a c = ap expression (sym (made.rolls-Not a c)) ∙ fold-roll-RawExpr Expression expression_step (layer.Not a c)

pub expression_Quant : (q : Bool) (gs : Vec RawGroup Global) (a : Box RawExpr Global) (c : Span)
    → expression (made.Quant q gs a c) ≡ tree.quantified q (map group gs.items) (expression a.value) c
expression_Quant q gs a c = ap expression (sym (made.rolls-Quant q gs a c))
    ∙ fold-roll-RawExpr Expression expression_step (layer.Quant q gs a c)

pub shape_Set : (c : Span) → shape (shaped.Set c) ≡ tree.set c
shape_Set c = ap shape (sym (shaped.rolls-Set c)) ∙ fold-roll-Shape tree.Shape shape_step (shape_layer.Set c)

pub shape_Prop : (c : Span) → shape (shaped.Prop c) ≡ tree.prop c
shape_Prop c = ap shape (sym (shaped.rolls-Prop c)) ∙ fold-roll-Shape tree.Shape shape_step (shape_layer.Prop c)

pub shape_Arrow : (a : RawExpr) (s : Box Shape Global) → shape (shaped.Arrow a s) ≡ tree.arrow (expression a) (shape s.value)
shape_Arrow a s = ap shape (sym (shaped.rolls-Arrow a s)) ∙ fold-roll-Shape tree.Shape shape_step (shape_layer.Arrow a s)

pub shape_Plain : (a : RawExpr) → shape (shaped.Plain a) ≡ tree.plain (expression a)
shape_Plain a = ap shape (sym (shaped.rolls-Plain a)) ∙ fold-roll-Shape tree.Shape shape_step (shape_layer.Plain a)

pub ruleset governed = (expression_Binary, expression_Not, expression_Quant)

pub ruleset constants = (expression_True, expression_False)

pub ruleset applications = (expression_App)

pub ruleset words = (shape_Set, shape_Prop)

pub ruleset chains = (shape_Arrow, shape_Plain)
