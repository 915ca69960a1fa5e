use Rattle.std.proofs.Common.{◌≡◌, ◌++◌, map, OnOk, ap, subst, ◌∙◌}
use Rattle.std.specs.Prelude.{codes}
use Rattle.term_core.specs.Formula.{meaning}
use Rattle.env_core.specs.Meaning.{declarations, parameter}
use Rattle.print_theory.specs.Spelling.{formula_text}
use Rattle.step_theory.specs.Texts.{declared_names, names_back, parameters_text}
use Rattle.step_core.proofs.Pieces.{joined_ok}
use Rattle.step_core.proofs.text.put_predicate.Goals as goal

pub returns : goal.returns
returns c =
    let taken = declared_names (declarations c.args.env.now) in
    let ps = parameters_text (map parameter c.args.params.now) in
    let body = formula_text (names_back (map parameter c.args.params.now)) taken (meaning c.args.body.now) in
    let before = codes " : Prop := " in
    let last = subst
    (λ ns. OnOk c.put_formula.result (c.put_formula.new.text.items ≡ c.put-2.new.text.items ++ formula_text ns taken (meaning c.args.body.now)))
    c.in_ok-names_back.ensures c.put_formula.ensures in
    joined_ok c.args.text.now.items c.args.name.now (ps ++ (before ++ body)) _ _ (c.in_ok-put.ensures ∙ ap (λ m. c.args.text.now.items ++ m) c.as_slice.ensures)
    (joined_ok _ ps (before ++ body) _ _ c.in_ok-put_parameters.ensures (joined_ok _ before body _ _ c.in_ok-put-2.ensures last))
