use Rattle.std.proofs.Common.{arith}
use Rattle.std.proofs.lemmas.Bool.Decides.{nat_tests}
use Rattle.sexp_core.proofs.Fronts.{looked, seen_within, front-empty, gives-empty, front-more, gives-more, gives-whole, whole-of_bytes}
use Rattle.sexp_core.proofs.Fronts.{whole-shallow, gives-bad}
use Rattle.sexp_core.proofs.reader.Reader.take_item.Goals as goal

pub scan-requires-clause-within : goal.scan-requires-clause-within
scan-requires-clause-within c =
    seen_within (looked c.self.invariant c.first_item.ensures c.self.view_is c.deref.ensures.value)

pub invariant_of-self : goal.invariant_of-self
invariant_of-self c =
    let l = looked c.self.invariant c.first_item.ensures c.self.view_is c.deref.ensures.value in
    front-empty l c.unseen-self-inside.result c.unseen-self-inside.ensures (grind (arith, nat_tests))

pub returns-then-is_empty-clause-given : goal.returns-then-is_empty-clause-given
returns-then-is_empty-clause-given c =
    let l = looked c.self.invariant c.first_item.ensures c.self.view_is c.deref.ensures.value in
    gives-empty l c.unseen-self-inside.result c.unseen-self-inside.ensures (grind (arith, nat_tests))

pub invariant_of-self-in-Ok-More : goal.invariant_of-self-in-Ok-More
invariant_of-self-in-Ok-More c =
    let l = looked c.self.invariant c.first_item.ensures c.self.view_is c.deref.ensures.value in
    front-more l (grind (arith, nat_tests)) c.in-Ok-More.field-0 c.scan.new.machine c.in-Ok-More.field-0-is c.in-Ok-More.ensures

pub returns-in-Ok-More-clause-given : goal.returns-in-Ok-More-clause-given
returns-in-Ok-More-clause-given c =
    let l = looked c.self.invariant c.first_item.ensures c.self.view_is c.deref.ensures.value in
    gives-more l (grind (arith, nat_tests)) c.in-Ok-More.field-0 c.scan.new.machine c.in-Ok-More.field-0-is c.in-Ok-More.ensures

pub returns-in-Ok-Whole-clause-given : goal.returns-in-Ok-Whole-clause-given
returns-in-Ok-Whole-clause-given c =
    let l = looked c.self.invariant c.first_item.ensures c.self.view_is c.deref.ensures.value in
    gives-whole l (grind (arith, nat_tests)) c.in-Ok-Whole.value c.in-Ok-Whole.to c.in-Ok-Whole.field-0 c.scan.new.machine
    c.in-Ok-Whole.field-0-is c.in-Ok-Whole.ensures
    c.unseen-self-inside-in-Ok-Whole.result c.unseen-self-inside-in-Ok-Whole.ensures

pub returns-in-Ok-Whole-clause-of_bytes : goal.returns-in-Ok-Whole-clause-of_bytes
returns-in-Ok-Whole-clause-of_bytes c =
    let l = looked c.self.invariant c.first_item.ensures c.self.view_is c.deref.ensures.value in
    whole-of_bytes l (grind (arith, nat_tests)) c.in-Ok-Whole.value c.in-Ok-Whole.to c.in-Ok-Whole.field-0 c.scan.new.machine
    c.in-Ok-Whole.field-0-is c.in-Ok-Whole.ensures

pub returns-in-Ok-Whole-clause-shallow : goal.returns-in-Ok-Whole-clause-shallow
returns-in-Ok-Whole-clause-shallow c =
    let l = looked c.self.invariant c.first_item.ensures c.self.view_is c.deref.ensures.value in
    whole-shallow l (grind (arith, nat_tests)) c.in-Ok-Whole.value c.in-Ok-Whole.to c.in-Ok-Whole.field-0 c.scan.new.machine
    c.in-Ok-Whole.field-0-is c.in-Ok-Whole.ensures

pub returns-in-Ok-Bad-clause-given : goal.returns-in-Ok-Bad-clause-given
returns-in-Ok-Bad-clause-given c =
    let l = looked c.self.invariant c.first_item.ensures c.self.view_is c.deref.ensures.value in
    gives-bad l (grind (arith, nat_tests)) c.in-Ok-Bad.kind c.in-Ok-Bad.offset c.in-Ok-Bad.field-0 c.scan.new.machine
    c.in-Ok-Bad.field-0-is c.in-Ok-Bad.ensures
    _ _ c.behind_line-self-inside.result c.deref-in-Ok-Bad.ensures.value c.saturating_sub-before.ensures
    c.behind_line-self-inside.ensures.rest
