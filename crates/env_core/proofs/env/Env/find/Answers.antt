use Rattle.std.proofs.Common.{◌≡◌, sym, ap, ◌∙◌, option_map}
use Rattle.env_theory.specs.Declarations.{find}
use Rattle.env_core.specs.Meaning.{declaration, declarations}
use Rattle.env_core.specs.Layers.{decl_of}
use Rattle.env_core.proofs.Kept.{found_declaration}
use Rattle.env_core.proofs.env.Env.find.Goals as goal

pub returns-in-None : goal.returns-in-None
returns-in-None c =
    ap (λ o. option_map (λ e. declaration (decl_of e)) (option_map (λ e. e.now) o)) (sym c.in-None.is)
    ∙ ap (option_map (λ e. declaration (decl_of e))) c.find.ensures ∙ found_declaration c.self.inside.entries c.args.name.now
    ∙ ap (λ ds. find (declarations ds) c.args.name.now) c.self.view_is

pub returns-in-Some : goal.returns-in-Some
returns-in-Some c =
    ap (λ o. option_map (λ e. declaration (decl_of e)) (option_map (λ e. e.now) o)) (sym c.in-Some.is)
    ∙ ap (option_map (λ e. declaration (decl_of e))) c.find.ensures ∙ found_declaration c.self.inside.entries c.args.name.now
    ∙ ap (λ ds. find (declarations ds) c.args.name.now) c.self.view_is
