-- Head forms: definitions put in at the head of a formula alone.
use Rattle.std.specs.Prelude.{List, [], ◌∷◌, if◌then◌else◌}
use Rattle.fol_theory.specs.Syntax.{Formula, truth, falsity, pred, equal, both, either, implies, all, ex, is_name}
use Rattle.fol_theory.specs.Substitution.{replace}
use Rattle.env_theory.specs.Declarations.{Declaration, formula}
use Rattle.env_theory.specs.Normal.{argument}

-- a predicate at the head, with its definition's body for it; any other formula stays
abbrev pub expand_head : Declaration → Formula → Formula
expand_head (formula n ps b) (pred p ts) = if is_name n p then replace (argument ts) b else pred p ts
expand_head d a = a

-- The bodies of predicates put in at the head, the newest definition first. A body names older declarations alone, so no defined predicate
-- is left there.
abbrev pub head_form : List Declaration → Formula → Formula
head_form [] a = a
head_form (d ∷ E) a = head_form E (expand_head d a)

-- what isn't a predicate
abbrev pub IsNoPredicate : Formula → Type 0
IsNoPredicate truth = Unit {0}
IsNoPredicate falsity = Unit {0}
IsNoPredicate (pred p ts) = ⊥
IsNoPredicate (equal s t u) = Unit {0}
IsNoPredicate (both a b) = Unit {0}
IsNoPredicate (either a b) = Unit {0}
IsNoPredicate (implies a b) = Unit {0}
IsNoPredicate (all s x a) = Unit {0}
IsNoPredicate (ex s x a) = Unit {0}
