use Rattle.std.proofs.Common.{◌≡◌, ap, sym, ◌∙◌, subst}
use Rattle.print_theory.specs.Printing.{formula_tokens, quantifier_level}
use Rattle.print_theory.specs.Reading.{ReadsAs}
use Rattle.print_theory.specs.Spelling.{formula_text}
use Rattle.print_theory.specs.Trees.{formula_tree}
use Rattle.print_theory.specs.Typed.{IsTypedAs}
use Rattle.print_theory.proofs.Laws.{formula_reads}
use Rattle.print_theory.proofs.Typed.{formula_is_typed}
use Rattle.term_core.specs.Formula.{meaning}
use Rattle.term_print.specs.Output.{all_names, put_tokens}
use Rattle.term_print.proofs.Puts.{put_all}
use Rattle.term_print.proofs.printing.show_with.Goals as goal

pub returns-clause-text : goal.returns-clause-text
returns-clause-text g c =
    let names = ap all_names c.new-scope.ensures ∙ c.as_slice.ensures.value in
    let taken = ap (λ s. s.taken) c.new-scope.ensures in
    let wrote = c.in_ok-write_formula.ensures.text
    ∙ (λ i. put_tokens (c.new-text.ensures i) (formula_tokens (names i) (taken i) quantifier_level (meaning c.args.formula.now))) in
    c.into_bytes.ensures ∙ ap (λ w. w.bytes) wrote
    ∙ put_all (formula_tokens c.args.names.now.items (g.T.Taken.taken c.args.taken.now) quantifier_level (meaning c.args.formula.now))

pub returns-clause-reads : goal.returns-clause-reads
returns-clause-reads g c =
    let xs = c.args.names.now.items in
    let ys = g.T.Taken.taken c.args.taken.now in
    let a = meaning c.args.formula.now in
    let e : formula_text xs ys a ≡ c.into_bytes.result = sym (returns-clause-text g c) in
    λ f p l. subst (λ text. ReadsAs text (formula_tree xs ys a)) e (formula_reads xs ys a f p l)

pub returns-clause-typed : goal.returns-clause-typed
returns-clause-typed g c =
    let xs = c.args.names.now.items in
    let ys = g.T.Taken.taken c.args.taken.now in
    let a = meaning c.args.formula.now in
    let e : formula_text xs ys a ≡ c.into_bytes.result = sym (returns-clause-text g c) in
    λ E d s p. subst (λ text. IsTypedAs E d text a) e (formula_is_typed E d xs ys a s p)
