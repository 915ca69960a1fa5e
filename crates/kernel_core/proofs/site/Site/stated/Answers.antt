use Rattle.std.proofs.Common.{Some, sym, ap, ◌∙◌}
use Rattle.term_core.specs.Formula.{meaning}
use Rattle.env_core.specs.Meaning.{declaration}
use Rattle.kernel_core.specs.Sites.{environment}
use Rattle.kernel_core.proofs.Asked.{found_stated}
use Rattle.kernel_core.proofs.site.Site.stated.Goals as goal

pub returns-in-Some-Stated : goal.returns-in-Some-Stated
returns-in-Some-Stated c = found_stated (environment c.args.self.now) c.environment.ensures c.args.name.now
    c.in-Some-Stated.field-0-0 (meaning c.in-Some-Stated.formula)
    (sym c.in-Some-Stated.ensures ∙ ap (λ d. Some (declaration d)) c.in-Some-Stated.field-0-is)
