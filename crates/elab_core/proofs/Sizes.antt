-- How large each variant of an expression is.
use Rattle.std.proofs.Common.{◌≡◌, ◌+◌, Bool, max, map, ap}
use Rattle.std.specs.Prelude.{Vec, Box}
use Rattle.std.specs.declared.alloc.Global.{Global}
use Rattle.vern_lex.specs.declared.span.Span.{Span}
use Rattle.vern_grammar.specs.Trees.{expressions}
use Rattle.vern_parse.specs.declared.raw.RawName.{RawName}
use Rattle.vern_parse.specs.declared.raw.RawGroup.{RawGroup}
use Rattle.vern_parse.specs.declared.raw.RawOp.{RawOp}
use Rattle.vern_parse.specs.declared.raw.RawExpr.{RawExpr}
use Rattle.vern_parse.specs.declared.raw.RawExpr.TheVariants as made
use Rattle.vern_parse.specs.Meaning.{group, operator, expression}
use Rattle.vern_parse.proofs.Trees.{expression_True, expression_False, expression_App, expression_Binary, expression_Not, expression_Quant}
use Rattle.elab_theory.specs.Sizes.{all_height_in, all_nodes_in, height_in, names_in, nodes_in, operator_height, operator_nodes}

pub nodes_True : (c : Span) → nodes_in (expression (made.True c)) ≡ 1
nodes_True c = ap nodes_in (expression_True c)

pub nodes_False : (c : Span) → nodes_in (expression (made.False c)) ≡ 1
nodes_False c = ap nodes_in (expression_False c)

pub nodes_App : (x : RawName) (ys : Vec RawExpr Global) (c : Span) → nodes_in (expression (made.App x ys c))
    ≡ all_nodes_in (expressions (map expression ys.items)) + 1
nodes_App x ys c = ap nodes_in (expression_App x ys c)

pub nodes_Binary : (op : RawOp) (a b : Box RawExpr Global) (c : Span) → nodes_in (expression (made.Binary op a b c))
    ≡ operator_nodes (operator op) (nodes_in (expression a.value)) (nodes_in (expression b.value))
nodes_Binary op a b c = ap nodes_in (expression_Binary op a b c)

pub nodes_Not : (a : Box RawExpr Global) (c : Span) → nodes_in (expression (made.Not a c)) ≡ nodes_in (expression a.value) + 1 + 1
nodes_Not a c = ap nodes_in (expression_Not a c)

pub nodes_Quant : (q : Bool) (gs : Vec RawGroup Global) (a : Box RawExpr Global) (c : Span) → nodes_in (expression (made.Quant q gs a c))
    ≡ nodes_in (expression a.value) + names_in (map group gs.items)
nodes_Quant q gs a c = ap nodes_in (expression_Quant q gs a c)

pub height_True : (c : Span) → height_in (expression (made.True c)) ≡ 1
height_True c = ap height_in (expression_True c)

pub height_False : (c : Span) → height_in (expression (made.False c)) ≡ 1
height_False c = ap height_in (expression_False c)

pub height_App : (x : RawName) (ys : Vec RawExpr Global) (c : Span) → height_in (expression (made.App x ys c))
    ≡ all_height_in (expressions (map expression ys.items)) + 1
height_App x ys c = ap height_in (expression_App x ys c)

pub height_Binary : (op : RawOp) (a b : Box RawExpr Global) (c : Span) → height_in (expression (made.Binary op a b c))
    ≡ operator_height (operator op) (height_in (expression a.value)) (height_in (expression b.value))
height_Binary op a b c = ap height_in (expression_Binary op a b c)

pub height_Not : (a : Box RawExpr Global) (c : Span) → height_in (expression (made.Not a c)) ≡ max (height_in (expression a.value)) 1 + 1
height_Not a c = ap height_in (expression_Not a c)

pub height_Quant : (q : Bool) (gs : Vec RawGroup Global) (a : Box RawExpr Global) (c : Span)
    → height_in (expression (made.Quant q gs a c)) ≡ height_in (expression a.value) + names_in (map group gs.items)
height_Quant q gs a c = ap height_in (expression_Quant q gs a c)

pub ruleset sizes = (
  nodes_True,
  nodes_False,
  nodes_App,
  nodes_Binary,
  nodes_Not,
  nodes_Quant,
  height_True,
  height_False,
  height_App,
  height_Binary,
  height_Not,
  height_Quant,
)
