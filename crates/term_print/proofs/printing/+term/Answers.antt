use Rattle.std.proofs.Common.{◌≡◌, ◌<◌, length, ◌∷◌, ap, ◌∙◌, arith, subst}
use Rattle.std.specs.Prelude.{OnOk}
use Rattle.vern_grammar.specs.Kinds.{name}
use Rattle.print_theory.specs.Printing.{arguments_tokens, enclosed}
use Rattle.term_core.specs.Term.{list_meaning}
use Rattle.term_print.specs.Output.{all_names, put_token, put_tokens}
use Rattle.term_print.proofs.Puts.{closed_by_steps}
use Rattle.term_print.proofs.Applications.{arguments_step}
use Rattle.term_print.proofs.printing.+term.Goals as goal

pub write_application-returns : goal.write_application-returns
write_application-returns g t c =
    let ks = name c.args.head.now ∷ arguments_tokens (all_names c.args.scope.now) (list_meaning c.args.ts.now) in
    let named = c.in_ok-name.ensures ∙ ap (λ x. put_token c.open.new.self (name x)) c.as_slice.ensures in
    let inner = c.in_ok-write_arguments.ensures ∙
    ap (λ w. put_tokens w (arguments_tokens (all_names c.args.scope.now) (list_meaning c.args.ts.now))) named in
    let done = closed_by_steps c.args.text.now c.open.new.self c.write_arguments.new.text ks c.is_enclosed-enclosed.result
    c.in_ok-open.ensures inner ∙ ap (λ b. put_tokens c.args.text.now (enclosed b ks)) c.is_enclosed-enclosed.ensures in
    subst (λ w. OnOk c.close.result (c.close.new.self ≡ w)) done c.close.ensures

pub write_arguments-loop-t-preserved : goal.write_arguments-loop-t-preserved
write_arguments-loop-t-preserved g t c =
    let within : c.loop-t.t-index < length c.args.ts.now = omega (arith, c.loop-t-test.true) in
    arguments_step (all_names c.args.scope.now) c.args.ts.now c.loop-t.t-index c.t-item.result c.args.text.now c.loop-t.text
    c.write_term.new.text
    within c.t-item.is c.loop-t.invariant c.in_ok-write_term.ensures
