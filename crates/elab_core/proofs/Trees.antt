-- What the variants of an expression stand for, and what typing asks of each.
use Rattle.std.proofs.Common.{◌≡◌, suc, List, [], ◌∷◌, length, map, refl, sym, ap, ◌∙◌}
use Rattle.std.specs.Prelude.{Vec}
use Rattle.std.specs.declared.alloc.Global.{Global}
use Rattle.vern_lex.specs.declared.span.Span.{Span}
use Rattle.vern_grammar.specs.Trees.{expressions}
use Rattle.vern_parse.specs.declared.raw.RawName.{RawName}
use Rattle.vern_parse.specs.declared.raw.RawExpr.{RawExpr}
use Rattle.vern_parse.specs.declared.raw.RawExpr.TheVariants as made
use Rattle.vern_parse.specs.Meaning.{name, expression}
use Rattle.vern_parse.proofs.Trees.{constants, applications, governed, expression_App}
use Rattle.env_theory.specs.Declarations.{Declaration}
use Rattle.base_core.specs.Answers.{and_then}
use Rattle.elab_theory.specs.Locals.{Local, known}
use Rattle.elab_theory.specs.Expressions.{how_many}
use Rattle.elab_core.specs.Checked.{term_head, formula_head, headed, sort_of, arguments_fit, fits_formula}

pub ruleset trees = (constants, applications, governed)

pub many_arguments : (ys : List RawExpr) → how_many (expressions (map expression ys)) ≡ length ys
many_arguments [] = refl
many_arguments (y ∷ ys) = ap suc (many_arguments ys)

pub sort_App : (E : List Declaration) (c : List Local) (x : RawName) (ys : Vec RawExpr Global) (p : Span) →
    sort_of E c (expression (made.App x ys p))
    ≡ and_then (term_head (known E c x.text) (name x) (length ys.items)) (λ h. headed h (λ ss. arguments_fit E c (expressions
    (map expression ys.items)) ss))
sort_App E c x ys p = ap (sort_of E c) (expression_App x ys p)
    ∙ ap (λ n. and_then (term_head (known E c x.text) (name x) n) (λ h. headed h (λ ss. arguments_fit E c (expressions
    (map expression ys.items)) ss))) (many_arguments ys.items)

pub fits_App : (E : List Declaration) (c : List Local) (x : RawName) (ys : Vec RawExpr Global) (p : Span) →
    fits_formula E c (expression (made.App x ys p))
    ≡ and_then (formula_head (known E c x.text) (name x) (length ys.items)) (λ ss. arguments_fit E c (expressions
    (map expression ys.items)) ss)
fits_App E c x ys p = ap (fits_formula E c) (expression_App x ys p)
    ∙ ap (λ n. and_then (formula_head (known E c x.text) (name x) n) (λ ss. arguments_fit E c (expressions (map expression ys.items)) ss))
    (many_arguments ys.items)

-- the same of an expression that is known to be an application, and of its arguments as a list
pub sort_given : (E : List Declaration) (c : List Local) (a : RawExpr) (x : RawName) (ys : Vec RawExpr Global) (p : Span)
    (zs : List RawExpr) → a ≡ made.App x ys p → zs ≡ ys.items →
    and_then (term_head (known E c x.text) (name x) (length zs)) (λ h. headed h (λ ss. arguments_fit E c (expressions
    (map expression zs)) ss)) ≡ sort_of E c (expression a)
sort_given E c a x ys p zs e k = ap (λ l. and_then (term_head (known E c x.text) (name x) (length l)) (λ h. headed h
    (λ ss. arguments_fit E c (expressions (map expression l)) ss))) k ∙ sym (sort_App E c x ys p)
    ∙ ap (λ z. sort_of E c (expression z)) (sym e)

pub ruleset checked = (constants, governed, sort_App, fits_App)
