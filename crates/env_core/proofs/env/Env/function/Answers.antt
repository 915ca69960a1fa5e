use Rattle.std.proofs.Common.{◌≡◌, sym, ap, ◌∙◌, option_map, None}
use Rattle.env_core.specs.Summaries.{function_of}
use Rattle.env_core.proofs.Told.{function_nodes, function_height}
use Rattle.env_core.proofs.env.Env.function.Goals as goal

pub returns-in-None-clause-nodes : goal.returns-in-None-clause-nodes
returns-in-None-clause-nodes c =
    function_nodes c.self.inside.entries c.args.self.now c.self.view_is c.self.invariant.0 c.self.invariant.1 c.args.name.now None
    (ap (λ o. function_of (option_map (λ e. e.now) o)) (sym c.in-None.is) ∙ ap function_of c.find.ensures)

pub returns-in-None-clause-height : goal.returns-in-None-clause-height
returns-in-None-clause-height c =
    function_height c.self.inside.entries c.args.self.now c.self.view_is c.self.invariant.0 c.self.invariant.1 c.args.name.now None
    (ap (λ o. function_of (option_map (λ e. e.now) o)) (sym c.in-None.is) ∙ ap function_of c.find.ensures)

pub returns-in-Some-clause-nodes : goal.returns-in-Some-clause-nodes
returns-in-Some-clause-nodes c =
    function_nodes c.self.inside.entries c.args.self.now c.self.view_is c.self.invariant.0 c.self.invariant.1 c.args.name.now
    c.function.result
    (c.function.ensures ∙ ap (λ o. function_of (option_map (λ e. e.now) o)) (sym c.in-Some.is) ∙ ap function_of c.find.ensures)

pub returns-in-Some-clause-height : goal.returns-in-Some-clause-height
returns-in-Some-clause-height c =
    function_height c.self.inside.entries c.args.self.now c.self.view_is c.self.invariant.0 c.self.invariant.1 c.args.name.now
    c.function.result
    (c.function.ensures ∙ ap (λ o. function_of (option_map (λ e. e.now) o)) (sym c.in-Some.is) ∙ ap function_of c.find.ensures)
