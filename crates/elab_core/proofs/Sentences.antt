-- What is declared and stated, behind the test that its name is new.
use Rattle.std.proofs.Common.{◌≡◌, ℕ, List, [], Result, Err, sym, subst}
use Rattle.vern_grammar.specs.Trees.{Group}
use Rattle.fol_theory.specs.Syntax.{Formula}
use Rattle.env_theory.specs.Declarations.{Declaration, Parameter}
use Rattle.env_core.specs.Meaning.{declaration}
use Rattle.elab_theory.specs.Sentences.{parameters_of}
use Rattle.elab_core.specs.Parameters.{groups_added}
use Rattle.base_core.specs.Answers.{and_then}
use Rattle.elab_theory.specs.Faults.{Fault}
use Rattle.term_core.specs.Formula.{meaning}
use Rattle.term_core.proofs.Layers.{slots_Empty}
use Rattle.elab_core.specs.declared.fault.ElabFault.{ElabFault}
use Rattle.elab_core.specs.Faults.{Faulty}
use Rattle.elab_core.specs.Answers.{Types, Declares, formula_size, declared_size}
use Rattle.elab_core.proofs.Within.{within_first}
use Rattle.elab_core.proofs.Bound.{groups_whole}

-- a fault of the name comes before those of the formula
pub stated_first : (e : ElabFault) (r : Result (List ℕ) Fault) (f : List ℕ → Result Formula Fault) → Faulty e r
    → Types (Err e) (and_then r f)
stated_first e r f h = within_first meaning formula_size e r f h

pub ruleset stating = (stated_first, slots_Empty)

-- the same of a declaration
pub declared_first : (e : ElabFault) (r : Result (List ℕ) Fault) (f : List ℕ → Result Declaration Fault) → Faulty e r
    → Declares (Err e) (and_then r f)
declared_first e r f h = within_first declaration declared_size e r f h

pub ruleset declaring = (declared_first)

-- a fault of the parameters comes before those of the body
pub bound_first : (e : ElabFault) (E : List Declaration) (gs : List Group) (f : List Parameter → Result Declaration Fault)
    → Faulty e (groups_added E [] gs) → Declares (Err e) (and_then (parameters_of E [] gs) f)
bound_first e E gs f h = within_first declaration declared_size e (parameters_of E [] gs) f (subst (Faulty e) (groups_whole E gs []) h)

pub bound_whole : (E : List Declaration) (gs : List Group) → parameters_of E [] gs ≡ groups_added E [] gs
bound_whole E gs = sym (groups_whole E gs [])

pub ruleset defining = (declared_first, bound_first, bound_whole)
