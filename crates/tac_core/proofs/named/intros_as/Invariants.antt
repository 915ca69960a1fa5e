use Rattle.std.proofs.Common.{List, map, drop}
use Rattle.env_core.specs.Meaning.{declarations}
use Rattle.logic_theory.specs.Goals.{Goal}
use Rattle.vern_parse.specs.Meaning.{name}
use Rattle.tactic_theory.specs.States.{name_first}
use Rattle.tactic_theory.specs.Typing.{texts}
use Rattle.script_theory.specs.Sizes.{large}
use Rattle.proof_state.specs.States.{state_of, Fits}
use Rattle.tac_core.proofs.Introductions.{Going}
use Rattle.tac_core.proofs.named.intros_as.Given as goal

abbrev pub invariant-loop-given : goal.invariant-loop-given
invariant-loop-given l =
    let E = declarations l.env in
    let s = state_of l.state in
    record {
      going : (gs : List Goal) × Going E gs s.frames (name_first (large E) E s.focused s.frames (texts (map name l.names)))
          (texts (map name (drop l.given-index l.names))) (state_of l.at);
      fits : (root : Goal) → Fits E root l.state → Fits E root l.at;
    }
