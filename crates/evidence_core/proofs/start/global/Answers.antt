use Rattle.std.proofs.Common.{sym, ap, subst, ◌∙◌}
use Rattle.env_theory.specs.Declarations.{find}
use Rattle.env_theory.proofs.Members.{found_name}
use Rattle.env_core.specs.Meaning.{declaration, declarations}
use Rattle.elab_theory.specs.Locals.{declared_or_not}
use Rattle.vern_parse.specs.Meaning.{name}
use Rattle.tactic_theory.specs.Typing.{start}
use Rattle.evidence_core.specs.Answers.{Tells}
use Rattle.evidence_core.specs.Meaning.{so_far}
use Rattle.evidence_core.proofs.start.global.Goals as goal

pub returns-in-Some : goal.returns-in-Some
returns-in-Some c = λ d o.
    subst (λ z. Tells so_far (declarations c.args.env.now) d c.stated.result (start (declared_or_not z) (name c.args.x.now) o))
    c.in-Some.ensures (c.stated.ensures (declarations c.args.env.now) d o
    (ap (find (declarations c.args.env.now)) (found_name (declarations c.args.env.now) c.args.name.now (declaration c.in-Some.decl.now)
    (sym c.in-Some.ensures)) ∙ sym c.in-Some.ensures))
