use Rattle.std.proofs.Common.{ap, ◌∙◌, None}
use Rattle.logic_theory.specs.Rules.{step, known}
use Rattle.env_core.specs.Meaning.{declaration}
use Rattle.term_core.specs.Formula.{meaning}
use Rattle.vern_parse.specs.Meaning.{name}
use Rattle.evidence_core.specs.Meaning.{so_far}
use Rattle.evidence_core.proofs.Starting.{alone, stated_stands}
use Rattle.evidence_core.proofs.start.stated.Goals as goal

pub returns-in_ok-of-in-Stated : goal.returns-in_ok-of-in-Stated
returns-in_ok-of-in-Stated c = λ E d o f. stated_stands E d (name c.args.x.now) o (declaration c.args.decl.now) c.in-Stated.name
    (meaning c.in-Stated.formula) (so_far c.in_ok-of-in-Stated.field-0) (ap declaration c.in-Stated.is) f
    (c.in_ok-of-in-Stated.ensures
    ∙ (λ i. alone (c.in_ok-copy-in-Stated-2.ensures i) (step (known (c.in_ok-copy-in-Stated.ensures i))) None))
