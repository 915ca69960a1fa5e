use Rattle.std.proofs.Common.{sym, subst}
use Rattle.term_core.specs.Term.{meaning}
use Rattle.env_core.specs.Meaning.{declarations}
use Rattle.conv_core.specs.Frames.{scope_of}
use Rattle.conv_core.specs.Heads.{Headed}
use Rattle.conv_core.proofs.Steps.{extended}
use Rattle.conv_core.proofs.Compares.{standing_later, headed_later, variables_split, variables_fail, heads_fail, names_fail}
use Rattle.conv_core.proofs.Compares.{sides_split, if_ok}
use Rattle.conv_core.proofs.terms.split_terms.Goals as goal

pub head_of-requires-2-clause-standing : goal.head_of-requires-2-clause-standing
head_of-requires-2-clause-standing c =
    standing_later (declarations c.args.env.now) c.args.frames.now.items c.head_of.new.frames.items c.in_ok-first.ensures.extends
    c.in_ok-first.ensures.ordered c.args.pair.now.second_scope c.args.pair.now.second_by
    (meaning c.args.pair.now.second.now) c.requires.standing.1

pub returns-then-i-j-clause-split : goal.returns-then-i-j-clause-split
returns-then-i-j-clause-split c =
    variables_split (declarations c.args.env.now)
    (scope_of c.args.frames.now.items c.args.pair.now.first_scope) c.args.pair.now.first_by (meaning c.args.pair.now.first.now)
    (scope_of c.args.frames.now.items c.args.pair.now.second_scope) c.args.pair.now.second_by
    (meaning c.args.pair.now.second.now) c.head_of-2.new.frames.items c.in-Variable.i c.in-Variable-second.j c.args.stack.now.items
    (subst (Headed (declarations c.args.env.now) c.head_of-2.new.frames.items
    (scope_of c.args.frames.now.items c.args.pair.now.first_scope) c.args.pair.now.first_by
    (meaning c.args.pair.now.first.now)) c.in-Variable.is (headed_later
    (declarations c.args.env.now) c.head_of.new.frames.items c.head_of-2.new.frames.items c.in_ok-second.ensures.extends
    c.in_ok-second.ensures.ordered (scope_of c.args.frames.now.items c.args.pair.now.first_scope) c.args.pair.now.first_by
    (meaning c.args.pair.now.first.now) c.in_ok-first.first c.in_ok-first.ensures.head)) (subst (Headed
    (declarations c.args.env.now) c.head_of-2.new.frames.items
    (scope_of c.args.frames.now.items c.args.pair.now.second_scope) c.args.pair.now.second_by
    (meaning c.args.pair.now.second.now)) c.in-Variable-second.is (subst (λ k. Headed
    (declarations c.args.env.now) c.head_of-2.new.frames.items k c.args.pair.now.second_by
    (meaning c.args.pair.now.second.now) c.in_ok-second.second)
    (extended c.args.frames.now.items c.head_of.new.frames.items c.in_ok-first.ensures.extends c.args.pair.now.second_scope
    c.requires.standing.1.1) c.in_ok-second.ensures.head)) c.if-i-j.true

pub returns-else-i-j-clause-split : goal.returns-else-i-j-clause-split
returns-else-i-j-clause-split c =
    variables_fail (declarations c.args.env.now)
    (scope_of c.args.frames.now.items c.args.pair.now.first_scope) c.args.pair.now.first_by (meaning c.args.pair.now.first.now)
    (scope_of c.args.frames.now.items c.args.pair.now.second_scope) c.args.pair.now.second_by
    (meaning c.args.pair.now.second.now) c.head_of-2.new.frames.items c.in-Variable.i c.in-Variable-second.j (subst (Headed
    (declarations c.args.env.now) c.head_of-2.new.frames.items
    (scope_of c.args.frames.now.items c.args.pair.now.first_scope) c.args.pair.now.first_by
    (meaning c.args.pair.now.first.now)) c.in-Variable.is (headed_later
    (declarations c.args.env.now) c.head_of.new.frames.items c.head_of-2.new.frames.items c.in_ok-second.ensures.extends
    c.in_ok-second.ensures.ordered (scope_of c.args.frames.now.items c.args.pair.now.first_scope) c.args.pair.now.first_by
    (meaning c.args.pair.now.first.now) c.in_ok-first.first c.in_ok-first.ensures.head)) (subst (Headed
    (declarations c.args.env.now) c.head_of-2.new.frames.items
    (scope_of c.args.frames.now.items c.args.pair.now.second_scope) c.args.pair.now.second_by
    (meaning c.args.pair.now.second.now)) c.in-Variable-second.is (subst (λ k. Headed
    (declarations c.args.env.now) c.head_of-2.new.frames.items k c.args.pair.now.second_by
    (meaning c.args.pair.now.second.now) c.in_ok-second.second)
    (extended c.args.frames.now.items c.head_of.new.frames.items c.in_ok-first.ensures.extends c.args.pair.now.second_scope
    c.requires.standing.1.1) c.in_ok-second.ensures.head)) c.if-i-j.false

pub returns-in-Function-second-clause-split : goal.returns-in-Function-second-clause-split
returns-in-Function-second-clause-split c =
    heads_fail (declarations c.args.env.now) (scope_of c.args.frames.now.items c.args.pair.now.first_scope) c.args.pair.now.first_by
    (meaning c.args.pair.now.first.now) (scope_of c.args.frames.now.items c.args.pair.now.second_scope) c.args.pair.now.second_by
    (meaning c.args.pair.now.second.now) c.head_of-2.new.frames.items c.in-Variable.i c.in-Function-second.field-0
    c.in-Function-second.field-1 c.in-Function-second.field-2 c.in-Function-second.field-3 (subst (Headed
    (declarations c.args.env.now) c.head_of-2.new.frames.items
    (scope_of c.args.frames.now.items c.args.pair.now.first_scope) c.args.pair.now.first_by
    (meaning c.args.pair.now.first.now)) c.in-Variable.is (headed_later
    (declarations c.args.env.now) c.head_of.new.frames.items c.head_of-2.new.frames.items c.in_ok-second.ensures.extends
    c.in_ok-second.ensures.ordered (scope_of c.args.frames.now.items c.args.pair.now.first_scope) c.args.pair.now.first_by
    (meaning c.args.pair.now.first.now) c.in_ok-first.first c.in_ok-first.ensures.head)) (subst (Headed
    (declarations c.args.env.now) c.head_of-2.new.frames.items
    (scope_of c.args.frames.now.items c.args.pair.now.second_scope) c.args.pair.now.second_by
    (meaning c.args.pair.now.second.now)) c.in-Function-second.is (subst (λ k. Headed
    (declarations c.args.env.now) c.head_of-2.new.frames.items k c.args.pair.now.second_by
    (meaning c.args.pair.now.second.now) c.in_ok-second.second)
    (extended c.args.frames.now.items c.head_of.new.frames.items c.in_ok-first.ensures.extends c.args.pair.now.second_scope
    c.requires.standing.1.1) c.in_ok-second.ensures.head))

pub returns-in-Variable-second-2-clause-split : goal.returns-in-Variable-second-2-clause-split
returns-in-Variable-second-2-clause-split c =
    λ a. heads_fail (declarations c.args.env.now)
    (scope_of c.args.frames.now.items c.args.pair.now.second_scope) c.args.pair.now.second_by (meaning c.args.pair.now.second.now)
    (scope_of c.args.frames.now.items c.args.pair.now.first_scope) c.args.pair.now.first_by
    (meaning c.args.pair.now.first.now) c.head_of-2.new.frames.items c.in-Variable-second-2.field-0 c.in-Function.f
    c.in-Function.ts c.in-Function.k c.in-Function.b (subst (Headed (declarations c.args.env.now) c.head_of-2.new.frames.items
    (scope_of c.args.frames.now.items c.args.pair.now.second_scope) c.args.pair.now.second_by
    (meaning c.args.pair.now.second.now)) c.in-Variable-second-2.is (subst (λ k. Headed
    (declarations c.args.env.now) c.head_of-2.new.frames.items k c.args.pair.now.second_by
    (meaning c.args.pair.now.second.now) c.in_ok-second.second)
    (extended c.args.frames.now.items c.head_of.new.frames.items c.in_ok-first.ensures.extends c.args.pair.now.second_scope
    c.requires.standing.1.1) c.in_ok-second.ensures.head)) (subst (Headed
    (declarations c.args.env.now) c.head_of-2.new.frames.items
    (scope_of c.args.frames.now.items c.args.pair.now.first_scope) c.args.pair.now.first_by
    (meaning c.args.pair.now.first.now)) c.in-Function.is (headed_later
    (declarations c.args.env.now) c.head_of.new.frames.items c.head_of-2.new.frames.items c.in_ok-second.ensures.extends
    c.in_ok-second.ensures.ordered (scope_of c.args.frames.now.items c.args.pair.now.first_scope) c.args.pair.now.first_by
    (meaning c.args.pair.now.first.now) c.in_ok-first.first c.in_ok-first.ensures.head)) (sym a)

pub returns-then-same-clause-split : goal.returns-then-same-clause-split
returns-then-same-clause-split c =
    if_ok c.push_sides.result (λ r h. sides_split (declarations c.args.env.now)
    (scope_of c.args.frames.now.items c.args.pair.now.first_scope) c.args.pair.now.first_by (meaning c.args.pair.now.first.now)
    (scope_of c.args.frames.now.items c.args.pair.now.second_scope) c.args.pair.now.second_by
    (meaning c.args.pair.now.second.now) c.head_of-2.new.frames.items c.in-Function.f c.in-Function-second-2.g c.in-Function.ts
    c.in-Function-second-2.us c.in-Function.k c.in-Function.b c.in-Function-second-2.l c.in-Function-second-2.e (subst (Headed
    (declarations c.args.env.now) c.head_of-2.new.frames.items
    (scope_of c.args.frames.now.items c.args.pair.now.first_scope) c.args.pair.now.first_by
    (meaning c.args.pair.now.first.now)) c.in-Function.is (headed_later
    (declarations c.args.env.now) c.head_of.new.frames.items c.head_of-2.new.frames.items c.in_ok-second.ensures.extends
    c.in_ok-second.ensures.ordered (scope_of c.args.frames.now.items c.args.pair.now.first_scope) c.args.pair.now.first_by
    (meaning c.args.pair.now.first.now) c.in_ok-first.first c.in_ok-first.ensures.head)) (subst (Headed
    (declarations c.args.env.now) c.head_of-2.new.frames.items
    (scope_of c.args.frames.now.items c.args.pair.now.second_scope) c.args.pair.now.second_by
    (meaning c.args.pair.now.second.now)) c.in-Function-second-2.is (subst (λ k. Headed
    (declarations c.args.env.now) c.head_of-2.new.frames.items k c.args.pair.now.second_by
    (meaning c.args.pair.now.second.now) c.in_ok-second.second)
    (extended c.args.frames.now.items c.head_of.new.frames.items c.in_ok-first.ensures.extends c.args.pair.now.second_scope
    c.requires.standing.1.1) c.in_ok-second.ensures.head))
    (c.same.ensures.0 c.if-same.true) c.args.stack.now.items c.push_sides.new.stack.items r h) c.push_sides.ensures

pub returns-else-same-clause-split : goal.returns-else-same-clause-split
returns-else-same-clause-split c =
    names_fail (declarations c.args.env.now) (scope_of c.args.frames.now.items c.args.pair.now.first_scope) c.args.pair.now.first_by
    (meaning c.args.pair.now.first.now) (scope_of c.args.frames.now.items c.args.pair.now.second_scope) c.args.pair.now.second_by
    (meaning c.args.pair.now.second.now) c.head_of-2.new.frames.items c.in-Function.f c.in-Function-second-2.g c.in-Function.ts
    c.in-Function-second-2.us c.in-Function.k c.in-Function.b c.in-Function-second-2.l c.in-Function-second-2.e (subst (Headed
    (declarations c.args.env.now) c.head_of-2.new.frames.items
    (scope_of c.args.frames.now.items c.args.pair.now.first_scope) c.args.pair.now.first_by
    (meaning c.args.pair.now.first.now)) c.in-Function.is (headed_later
    (declarations c.args.env.now) c.head_of.new.frames.items c.head_of-2.new.frames.items c.in_ok-second.ensures.extends
    c.in_ok-second.ensures.ordered (scope_of c.args.frames.now.items c.args.pair.now.first_scope) c.args.pair.now.first_by
    (meaning c.args.pair.now.first.now) c.in_ok-first.first c.in_ok-first.ensures.head)) (subst (Headed
    (declarations c.args.env.now) c.head_of-2.new.frames.items
    (scope_of c.args.frames.now.items c.args.pair.now.second_scope) c.args.pair.now.second_by
    (meaning c.args.pair.now.second.now)) c.in-Function-second-2.is (subst (λ k. Headed
    (declarations c.args.env.now) c.head_of-2.new.frames.items k c.args.pair.now.second_by
    (meaning c.args.pair.now.second.now) c.in_ok-second.second)
    (extended c.args.frames.now.items c.head_of.new.frames.items c.in_ok-first.ensures.extends c.args.pair.now.second_scope
    c.requires.standing.1.1) c.in_ok-second.ensures.head)) (λ e. let k = c.same.ensures.1 e in cc)
