-- Sites where rules are used, and what rules ask there.
use Rattle.std.specs.Prelude.{ℕ, List}
use Rattle.fol_theory.specs.Syntax.{Formula}
use Rattle.fol_theory.specs.Contexts.{Entry, variables, Sequent}
use Rattle.term_core.specs.Context.{meaning}
use Rattle.env_theory.specs.Declarations.{Declaration}
use Rattle.env_core.specs.Meaning.{declarations}
use Rattle.logic_theory.specs.Rules.{Step, Rule, leaf, step, Asks}
use Rattle.kernel_core.specs.declared.site.Site.{Site}
use Rattle.kernel_core.specs.Stacks.{IsReady}

-- the declarations
abbrev pub environment : Site → List Declaration
environment s = declarations s.env.now

-- the sequent that is to be shown
abbrev pub sequent_at : Site → Sequent
sequent_at s = meaning s.place.now

-- the entries of its context, the newest first
abbrev pub context_at : Site → List Entry
context_at s = (sequent_at s).context

-- the formula that is to be shown
abbrev pub goal_at : Site → Formula
goal_at s = (sequent_at s).goal

-- the sorts of the variables
abbrev pub sorts_at : Site → List (List ℕ)
sorts_at s = variables (context_at s)

-- the sequent is well formed, and has no more variables than the number tells
abbrev pub IsReadyAt : Site → Type 0
IsReadyAt s = IsReady (environment s) s.most (sequent_at s)

-- what a rule asks
abbrev pub AsksAt : Site → Step → Type 0
AsksAt s r = Asks (environment s) r (context_at s) (goal_at s)

-- the same of a rule of a tree at a sequent: an open leaf shows nothing
abbrev pub AsksRule : List Declaration → Rule → Sequent → Type 0
AsksRule E (leaf ns) g = ⊥
AsksRule E (step r) g = Asks E r g.context g.goal
