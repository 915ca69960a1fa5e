use Rattle.std.proofs.Common.{sym, subst}
use Rattle.logic_theory.specs.Goals.{sequent}
use Rattle.proof_tree.specs.Meaning.{meanings}
use Rattle.proof_tree.specs.Places.{NamesEntries, IndicesFit}
use Rattle.proof_tree.proofs.Indices.{follows_named}
use Rattle.proof_state.specs.States.{FromFirst}
use Rattle.tac_base.specs.Sites.{env_of, goal_at}
use Rattle.tac_base.proofs.refine.replaced.Goals as goal

pub refine-requires : goal.refine-requires
refine-requires c =
    let E = env_of c.args.site.now in
    let g = goal_at c.args.site.now in
    let rs = meanings c.args.tree in
    record {
      names = subst (FromFirst NamesEntries rs) (sym c.requires.first.1) (follows_named E rs _ c.requires.follows);
      indices = subst (FromFirst IndicesFit rs) (sym c.requires.first.1)
          (c.in_ok-indices_fit.ensures E (sequent g) (λ i. (sequent g).goal) c.requires.ready.counted c.requires.ready.formed c.requires.follows);
    }

pub returns-clause-fits : goal.returns-clause-fits
returns-clause-fits c = λ root k. c.in_ok-next.ensures.fits (env_of c.args.site.now) root (goal_at c.args.site.now) c.requires.first.0 k
    c.requires.first.1 c.requires.follows
