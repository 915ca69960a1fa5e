-- What becomes of terms and formulas under binders.
use Rattle.std.specs.Prelude.{◌≡◌, ℕ, ◌-◌, nat_lt, if◌then◌else◌, map}
use Rattle.fol_theory.specs.Syntax.{Term, Terms, Formula, var, both, either, implies}
use Rattle.fol_theory.specs.Substitution.{replace_term, replace_terms, replace, first, shift_term}
use Rattle.match_theory.specs.Instances.{fill}
use Rattle.match_theory.specs.Places.{abstract_term, abstract_terms, abstracted}
use Rattle.term_core.specs.Term.{meaning}
use Rattle.match_core.specs.Moves.{lowering}
use Rattle.match_core.specs.declared.change.Change.{Change}
use Rattle.match_core.specs.declared.change.Change.TheVariants.{Lower, Fill, Exchange}
use Rattle.match_core.specs.declared.formulas.Connective.{Connective}
use Rattle.match_core.specs.declared.formulas.Connective.TheVariants.{And, Or, Imp}

-- a substitution, as it stands under b binders
abbrev pub lifted : ℕ → (ℕ → Term) → ℕ → Term
lifted b σ i = if nat_lt i b then var i else shift_term 0 b (σ (i - b))

-- a term
abbrev pub term_changed : Change → ℕ → Term → Term
term_changed (Lower by) b t = replace_term (lifted b (lowering by)) t
term_changed (Fill ts) b t = replace_term (lifted b (fill (map meaning ts.now))) t
term_changed (Exchange l r) b t = replace_term (lifted b (first (meaning r.now))) (abstract_term b (meaning l.now) t)

-- terms in order
abbrev pub terms_changed : Change → ℕ → Terms → Terms
terms_changed (Lower by) b ts = replace_terms (lifted b (lowering by)) ts
terms_changed (Fill us) b ts = replace_terms (lifted b (fill (map meaning us.now))) ts
terms_changed (Exchange l r) b ts = replace_terms (lifted b (first (meaning r.now))) (abstract_terms b (meaning l.now) ts)

-- a formula
abbrev pub formula_changed : Change → ℕ → Formula → Formula
formula_changed (Lower by) b a = replace (lifted b (lowering by)) a
formula_changed (Fill ts) b a = replace (lifted b (fill (map meaning ts.now))) a
formula_changed (Exchange l r) b a = replace (lifted b (first (meaning r.now))) (abstracted b (meaning l.now) a)

-- the term as a whole isn't what is exchanged
abbrev pub IsKept : Change → ℕ → Term → Type 0
IsKept (Lower by) b t = Unit {0}
IsKept (Fill ts) b t = Unit {0}
IsKept (Exchange l r) b t = shift_term 0 b (meaning l.now) ≡ t → ⊥

-- two formulas with a connective between them
abbrev pub connect : Connective → Formula → Formula → Formula
connect And a b = both a b
connect Or a b = either a b
connect Imp a b = implies a b
