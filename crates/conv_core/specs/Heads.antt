-- Where the machine stands, and what it finds.
use Rattle.std.specs.Prelude.{◌≡◌, ℕ, ◌+◌, ◌<◌, ◌≤◌, ◌^◌, List, length}
use Rattle.fol_theory.specs.Syntax.{Term, var, app, Terms}
use Rattle.fol_theory.specs.Measures.{term_reach, terms_reach}
use Rattle.term_core.specs.Term.{list_meaning}
use Rattle.env_theory.specs.Declarations.{Declaration}
use Rattle.env_theory.specs.Scopes.{Scope, value, values}
use Rattle.env_theory.specs.Machine.{ReadsTerm, ReadsTerms, left, lefts, unders}
use Rattle.conv_core.specs.declared.frame.Frame.{Frame}
use Rattle.conv_core.specs.declared.head.Head.{Head}
use Rattle.conv_core.specs.declared.head.Head.TheVariants.{Variable, Function}
use Rattle.conv_core.specs.Frames.{scope_of, Ordered, Extends}

-- A term may be read in the scope with this number, under `by` quantifiers more, and each index of its value is below 2 ^ 64.
abbrev pub Standing : List Declaration → List Frame → ℕ → ℕ → Term → Type 0
Standing E fs c by t = Ordered fs × (c ≤ length fs) × ReadsTerm E (scope_of fs c) t × (by + unders (scope_of fs c) < 2 ^ 64)
    × (term_reach (value E (scope_of fs c) by t) ≤ 2 ^ 64)

-- the same of terms
abbrev pub StandingAll : List Declaration → List Frame → ℕ → ℕ → Terms → Type 0
StandingAll E fs c by ts = Ordered fs × (c ≤ length fs) × ReadsTerms E (scope_of fs c) ts × (by + unders (scope_of fs c) < 2 ^ 64)
    × (terms_reach (values E (scope_of fs c) by ts) ≤ 2 ^ 64)

-- a place in further frames, with the value that was there, no more steps left, and as many quantifiers around
abbrev pub Onward : List Declaration → List Frame → Scope → ℕ → Term → List Frame → ℕ → ℕ → Term → Type 0
Onward E fs c by t gs d b u = Extends fs gs × (value E (scope_of gs d) b u ≡ value E c by t)
    × (left E (scope_of gs d) u ≤ left E c t) × (b + unders (scope_of gs d) ≡ by + unders c)

-- the head of a term's value, and arguments with fewer steps left
abbrev pub Headed : List Declaration → List Frame → Scope → ℕ → Term → Head → Type 0
Headed E gs c by t (Variable j) = value E c by t ≡ var j
Headed E gs c by t (Function f ts d b) =
    (value E c by t ≡ app f.now (values E (scope_of gs d) b (list_meaning ts.now)))
    × (lefts E (scope_of gs d) (list_meaning ts.now) < left E c t) ×
    StandingAll E gs d b (list_meaning ts.now)
