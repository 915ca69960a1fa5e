use Rattle.std.proofs.Common.{◌≡◌, sym, ap, ◌∙◌, option_map}
use Rattle.term_core.specs.Term as term
use Rattle.env_theory.specs.Declarations.{find}
use Rattle.env_theory.specs.Machine.{term_body}
use Rattle.env_core.specs.Meaning.{declaration, declarations}
use Rattle.env_core.specs.Layers.{decl_of}
use Rattle.env_core.proofs.Kept.{found_declaration}
use Rattle.env_core.proofs.Told.{definition_told}
use Rattle.env_core.proofs.env.Env.definition.Goals as goal

pub returns-in-None-clause-body : goal.returns-in-None-clause-body
returns-in-None-clause-body c = ap term_body
    (ap (λ o. option_map (λ e. declaration (decl_of e)) (option_map (λ e. e.now) o)) (sym c.in-None.is)
    ∙ ap (option_map (λ e. declaration (decl_of e))) c.find.ensures ∙ found_declaration c.self.inside.entries c.args.name.now
    ∙ ap (λ ds. find (declarations ds) c.args.name.now) c.self.view_is)

pub returns-in-Some-clause-body : goal.returns-in-Some-clause-body
returns-in-Some-clause-body c = c.definition.ensures.body ∙ ap term_body
    (ap (λ o. option_map (λ e. declaration (decl_of e)) (option_map (λ e. e.now) o)) (sym c.in-Some.is)
    ∙ ap (option_map (λ e. declaration (decl_of e))) c.find.ensures ∙ found_declaration c.self.inside.entries c.args.name.now
    ∙ ap (λ ds. find (declarations ds) c.args.name.now) c.self.view_is)

pub returns-in-Some-clause-parameter : goal.returns-in-Some-clause-parameter
returns-in-Some-clause-parameter c =
    definition_told c.self.inside.entries c.args.self.now c.self.view_is c.self.invariant.0 c.self.invariant.1 c.args.name.now
    c.in-Some.entry.now (sym c.find.ensures ∙ ap (option_map (λ e. e.now)) c.in-Some.is) (λ d. term.meaning d.body.now) (λ d. d.projects)
    c.definition.result c.definition.ensures.parameter
