use Rattle.std.proofs.Common.{◌≡◌, ◌∷◌, ◌++◌, false, nat_lt, ap, ◌∙◌, subst}
use Rattle.std.specs.Prelude.{OnOk}
use Rattle.vern_grammar.specs.Levels.{left_at_most, right_at_most}
use Rattle.vern_grammar.specs.Kinds.{sign, quantifier, name, colon, comma}
use Rattle.elab_theory.specs.Sentences.{is_among}
use Rattle.print_theory.specs.Printing.{bound_name, enclosed, formula_tokens, quantifier_level}
use Rattle.term_core.specs.Formula.{meaning}
use Rattle.term_print.specs.Output.{all_names, operator, put_token, put_tokens}
use Rattle.term_print.proofs.Puts.{closed_by_steps, joined_by_steps}
use Rattle.term_print.proofs.Scopes.{onto_push, opened, picked_new}
use Rattle.term_print.proofs.printing.+formula.Goals as goal

pub write_joined-returns-clause-text : goal.write_joined-returns-clause-text
write_joined-returns-clause-text g t c =
    let text = c.args.text.now in
    let names = all_names c.args.scope.now in
    let taken = c.args.scope.now.taken in
    let op = operator c.args.connective in
    let ks = formula_tokens names taken (left_at_most op) (meaning c.args.left.now) in
    let ls = formula_tokens names taken (right_at_most op) (meaning c.args.right.now) in
    let left = c.in_ok-write_formula.ensures.text ∙
    ap (λ n. put_tokens c.open.new.self (formula_tokens names taken n (meaning c.args.left.now))) c.left.ensures in
    let right = c.in_ok-write_formula-2.ensures.text
    ∙ (λ i. put_tokens c.sign.new.self (formula_tokens (all_names (c.in_ok-write_formula.ensures.scope i))
    (c.in_ok-write_formula.ensures.scope i).taken (c.right.ensures i) (meaning c.args.right.now))) in
    let inner = joined_by_steps c.open.new.self c.write_formula.new.text c.sign.new.self c.write_formula-2.new.text ks ls
    (sign op) left c.in_ok-sign.ensures right in
    let done = closed_by_steps text c.open.new.self c.write_formula-2.new.text (ks ++ (sign op ∷ ls))
    (nat_lt c.args.most c.level.result) c.in_ok-open.ensures inner
    ∙ ap (λ n. put_tokens text (enclosed (nat_lt c.args.most n) (ks ++ (sign op ∷ ls)))) c.level.ensures in
    subst (λ w. OnOk c.close.result (c.close.new.self ≡ w)) done c.close.ensures

pub write_bound-returns-clause-text : goal.write_bound-returns-clause-text
write_bound-returns-clause-text g t c =
    let text = c.args.text.now in
    let scope = c.args.scope.now in
    let y = bound_name (all_names scope) scope.taken c.args.name.now in
    let body = meaning c.args.body.now in
    let ks = formula_tokens (y ∷ all_names scope) scope.taken quantifier_level body in
    let entered = c.in_ok-enter.ensures ∙ ap (opened c.in_ok-picked.picked) c.in_ok-picked.ensures.scope in
    let names = ap all_names entered ∙ onto_push scope.outer scope.bound c.in_ok-picked.picked ∙
    ap (λ x. x ∷ all_names scope) c.in_ok-picked.ensures.picked in
    let taken = ap (λ s. s.taken) entered in
    let wrote = c.in_ok-write_formula.ensures.text ∙
    (λ i. put_tokens c.comma.new.self (formula_tokens (names i) (taken i) quantifier_level body)) in
    let named = c.in_ok-name.ensures ∙
    (λ i. put_token (c.in_ok-quantifier.ensures i) (name ((c.as_slice.ensures ∙ c.in_ok-picked.ensures.picked) i))) in
    let coloned = c.in_ok-colon.ensures ∙ ap (λ w. put_token w colon) named in
    let sorted = c.in_ok-name-2.ensures ∙ (λ i. put_token (coloned i) (name (c.as_slice-2.ensures i))) in
    let listed = c.in_ok-comma.ensures ∙ ap (λ w. put_token w comma) sorted in
    let inner = wrote ∙ ap (λ w. put_tokens w ks) listed in
    let all = quantifier c.args.all ∷ name y ∷ colon ∷ name c.args.sort.now ∷ comma ∷ ks in
    let done = closed_by_steps text c.open.new.self c.write_formula.new.text all (nat_lt c.args.most quantifier_level)
    c.in_ok-open.ensures inner in
    subst (λ w. OnOk c.close.result (c.close.new.self ≡ w)) done c.close.ensures

pub write_bound-enter-requires : goal.write_bound-enter-requires
write_bound-enter-requires g t c =
    let scope = c.args.scope.now in
    let y = c.in_ok-picked.picked in
    let new : is_among y c.picked.new.self.bound ≡ false = ap (λ s. is_among y s.bound) c.in_ok-picked.ensures.scope
    ∙ ap (λ y. is_among y scope.bound) c.in_ok-picked.ensures.picked ∙ picked_new c.args.name.now scope in
    record { new = new }
