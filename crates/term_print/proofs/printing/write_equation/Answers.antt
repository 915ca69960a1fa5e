use Rattle.std.proofs.Common.{◌≡◌, ◌∷◌, ◌++◌, nat_lt, ap, ◌∙◌, subst}
use Rattle.std.specs.Prelude.{OnOk}
use Rattle.vern_grammar.specs.Trees.{equation}
use Rattle.vern_grammar.specs.Kinds.{sign}
use Rattle.print_theory.specs.Printing.{enclosed, term_tokens}
use Rattle.term_core.specs.Term.{meaning}
use Rattle.term_print.specs.Output.{all_names, put_tokens}
use Rattle.term_print.proofs.Puts.{closed_by_steps, joined_by_steps}
use Rattle.term_print.proofs.printing.write_equation.Goals as goal

pub returns : goal.returns
returns g c =
    let text = c.args.text.now in
    let ks = term_tokens (all_names c.args.scope.now) 69 (meaning c.args.left.now) in
    let ls = term_tokens (all_names c.args.scope.now) 69 (meaning c.args.right.now) in
    let left = c.in_ok-write_term.ensures ∙
    ap (λ n. put_tokens c.open.new.self (term_tokens (all_names c.args.scope.now) n (meaning c.args.left.now))) c.left.ensures in
    let right = c.in_ok-write_term-2.ensures ∙
    ap (λ n. put_tokens c.sign.new.self (term_tokens (all_names c.args.scope.now) n (meaning c.args.right.now))) c.right.ensures in
    let inner = joined_by_steps c.open.new.self c.write_term.new.text c.sign.new.self c.write_term-2.new.text ks ls
    (sign equation) left c.in_ok-sign.ensures right in
    let done = closed_by_steps text c.open.new.self c.write_term-2.new.text (ks ++ (sign equation ∷ ls))
    (nat_lt c.args.most c.level.result) c.in_ok-open.ensures inner
    ∙ ap (λ n. put_tokens text (enclosed (nat_lt c.args.most n) (ks ++ (sign equation ∷ ls)))) c.level.ensures in
    subst (λ w. OnOk c.close.result (c.close.new.self ≡ w)) done c.close.ensures
