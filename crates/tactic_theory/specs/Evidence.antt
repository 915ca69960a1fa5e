-- Evidence with its names and terms found: what it shows, and which premises have to be the same.
use Rattle.fol_theory.specs.Slots.{Slot, entries}
use Rattle.env_theory.specs.Heads.{head_form}
use Rattle.env_theory.specs.Normal.{normal}
use Rattle.env_theory.specs.Typing.{HasSort}
use Rattle.std.specs.Prelude.{◌≡◌}
use Rattle.env_theory.specs.Declarations.{find, Declaration, stated}
use Rattle.std.specs.Prelude.{ℕ, Bool, true, false, ◌&&◌, if◌then◌else◌, List, Option, Some, None, Result, Ok, Err, is_some}
use Rattle.fol_theory.specs.Syntax.{Term, Formula, implies, all, is_name}
use Rattle.fol_theory.specs.Substitution.{instantiate}
use Rattle.fol_theory.specs.Contexts.{variables}
use Rattle.base_core.specs.Answers.{and_then}
use Rattle.tactic_theory.specs.Faults.{Fault, no_such_hypothesis, not_of_form}
use Rattle.tactic_theory.specs.Names.{hypothesis_at}
use Rattle.match_theory.specs.Matching.{matches}

-- two formulas are the same: the one without open variables matches the other
abbrev pub is_same : List Declaration → Formula → Formula → Bool
is_same E a b = is_some (matches 0 (normal E a) (normal E b))

-- a hypothesis by its number, a Stated declaration with its formula; applied to a term of a sort, or to evidence
pub data Evidence : Type 0 where
  assumed : ℕ → Evidence
  declared : List ℕ → Formula → Evidence
  with_term : Evidence → List ℕ → Term → Evidence
  with_proof : Evidence → Evidence → Evidence

-- the formula of a hypothesis that is there
abbrev pub known : Option Formula → Result Formula Fault
known None = Err no_such_hypothesis
known (Some a) = Ok a

-- the body of a quantifier with a term of its sort
abbrev pub put_term : List ℕ → Term → Formula → Result Formula Fault
put_term s t (all r x b) = if is_name r s then Ok (instantiate b t) else Err not_of_form
put_term s t a = Err not_of_form

-- the right side of an implication
abbrev pub conclusion : Formula → Result Formula Fault
conclusion (implies a b) = Ok b
conclusion a = Err not_of_form

-- the formula that it shows, if each premise is met
abbrev pub shows : List Declaration → List Slot → Evidence → Result Formula Fault
shows E c (assumed i) = known (hypothesis_at (entries c) i)
shows E c (declared n a) = Ok a
shows E c (with_term e s t) = and_then (shows E c e) (λ a. put_term s t (head_form E a))
shows E c (with_proof e d) = and_then (shows E c e) (λ a. and_then (shows E c d) (λ p. conclusion (head_form E a)))

-- the premise of an implication is the same as what is shown for it
abbrev pub takes : List Declaration → Formula → Formula → Bool
takes E (implies a b) p = is_same E a p
takes E a p = false

-- the same, where both are shown
abbrev pub meets : List Declaration → Result Formula Fault → Result Formula Fault → Bool
meets E (Ok a) (Ok p) = takes E (head_form E a) p
meets E r s = false

-- each premise is the same as what is given for it
abbrev pub is_met : List Declaration → List Slot → Evidence → Bool
is_met E c (assumed i) = true
is_met E c (declared n a) = true
is_met E c (with_term e s t) = is_met E c e
is_met E c (with_proof e d) = is_met E c e && (is_met E c d && meets E (shows E c e) (shows E c d))

-- its terms have their sorts, and its Stated declarations are there
abbrev pub IsTyped : List Declaration → List Slot → Evidence → Type 0
IsTyped E c (assumed i) = Unit {0}
IsTyped E c (declared n a) = find E n ≡ Some (stated n a)
IsTyped E c (with_term e s t) = IsTyped E c e × HasSort E (variables (entries c)) t s
IsTyped E c (with_proof e d) = IsTyped E c e × IsTyped E c d
