use Rattle.std.proofs.Common.{arith, sym}
use Rattle.std.proofs.lemmas.Bool.Decides.{nat_tests}
use Rattle.sexp_core.proofs.Fronts.{looked, seen_within, finishes-empty, finishes-unfinished, finishes-last, last-of_bytes, only-more}
use Rattle.sexp_core.proofs.Fronts.{unread-of_bytes}
use Rattle.sexp_core.proofs.reader.Reader.finish.Goals as goal

pub returns-then-is_empty-clause-given : goal.returns-then-is_empty-clause-given
returns-then-is_empty-clause-given c =
    let l = looked c.self.invariant c.first_item.ensures c.self.view_is c.deref.ensures.value in
    finishes-empty l (grind (arith, nat_tests))

pub scan-requires-clause-within : goal.scan-requires-clause-within
scan-requires-clause-within c =
    seen_within (looked c.self.invariant c.first_item.ensures c.self.view_is c.deref.ensures.value)

pub unreachable-requires : goal.unreachable-requires
unreachable-requires c =
    let l = looked c.self.invariant c.first_item.ensures c.self.view_is c.deref.ensures.value in
    only-more l (grind (arith, nat_tests)) c.requires c.in_ok-scan.field-0 c.scan.new.machine c.in_ok-scan.ensures c.in_default.not-More

pub returns-then-not-is_outer_run-clause-given : goal.returns-then-not-is_outer_run-clause-given
returns-then-not-is_outer_run-clause-given c =
    let l = looked c.self.invariant c.first_item.ensures c.self.view_is c.deref.ensures.value in
    finishes-unfinished l (grind (arith, nat_tests)) c.in_ok-scan.field-0 c.scan.new.machine c.in-More.is c.in_ok-scan.ensures
    (sym c.if-not-is_outer_run.ensures)

pub returns-clause-given : goal.returns-clause-given
returns-clause-given c =
    let l = looked c.self.invariant c.first_item.ensures c.self.view_is c.deref.ensures.value in
    finishes-last l (grind (arith, nat_tests)) c.in_ok-scan.field-0 c.scan.new.machine c.in-More.is c.in_ok-scan.ensures
    c.take_atom.result c.fed-end.result (sym c.if-not-is_outer_run.ensures) c.take_atom.ensures.value c.fed-end.ensures

pub returns-clause-of_bytes : goal.returns-clause-of_bytes
returns-clause-of_bytes c =
    let l = looked c.self.invariant c.first_item.ensures c.self.view_is c.deref.ensures.value in
    last-of_bytes c.args.self _ (unread-of_bytes l) (returns-clause-given c).0
