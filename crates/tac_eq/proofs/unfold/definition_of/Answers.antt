use Rattle.std.proofs.Common.{Some, None, sym, subst}
use Rattle.term_core.specs.Context.{slots, slot_meaning}
use Rattle.env_core.specs.Meaning.{declaration}
use Rattle.env_core.proofs.Results.{if_ok}
use Rattle.vern_parse.specs.Meaning.{name}
use Rattle.env_theory.specs.Typing.{Put}
use Rattle.tac_base.specs.Faults.{Gives}
use Rattle.tac_base.specs.Sites.{env_of}
use Rattle.tac_eq.proofs.Defined.{no_definition, looked_up, found_put}
use Rattle.tac_eq.proofs.unfold.definition_of.Goals as goal

pub returns-in-Some-clause-gives : goal.returns-in-Some-clause-gives
returns-in-Some-clause-gives c = no_definition (env_of c.args.site.now) (slots c.args.site.now.goal.now.context) (name c.args.x.now)
    c.in_ok-name.name c.in_ok-name.ensures (slot_meaning c.in-Some.field-0.0.now) (slots c.in-Some.field-0.1.now) c.in-Some.ensures

pub returns-in-None-find-clause-gives : goal.returns-in-None-find-clause-gives
returns-in-None-find-clause-gives c = looked_up (env_of c.args.site.now) (slots c.args.site.now.goal.now.context) (name c.args.x.now)
    c.in_ok-name.name c.in_ok-name.ensures c.in-None.ensures None c.in-None-find.ensures

pub returns-clause-gives : goal.returns-clause-gives
returns-clause-gives c =
    let d = declaration c.in-Some-find.decl.now in
    subst (Gives (λ z. declaration z.now) (λ f. f) c.defined.result)
    (sym (looked_up (env_of c.args.site.now) (slots c.args.site.now.goal.now.context) (name c.args.x.now)
    c.in_ok-name.name c.in_ok-name.ensures c.in-None.ensures (Some d) c.in-Some-find.ensures)) c.defined.ensures.gives

pub returns-clause-put : goal.returns-clause-put
returns-clause-put c =
    let E = env_of c.args.site.now in
    if_ok c.defined.result (λ z e. subst (Put E) (sym e)
    (found_put E c.requires.environment c.in_ok-name.name (declaration c.in-Some-find.decl.now) c.in-Some-find.ensures)) c.defined.ensures.same
