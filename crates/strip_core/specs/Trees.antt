-- The tree of rules that leads from what is left of a formula, with terms for its variables, to the formula and its premises.
use Rattle.std.specs.Prelude.{ℕ, zero, suc, List, [], ◌∷◌, ◌++◌, map}
use Rattle.fol_theory.specs.Syntax.{Term, Formula, implies, all}
use Rattle.fol_theory.specs.Substitution.{instantiate}
use Rattle.env_theory.specs.Declarations.{Declaration}
use Rattle.env_theory.specs.Heads.{head_form}
use Rattle.logic_theory.specs.Rules.{Rule, leaf, step, hyp, known, all_e, imp_e}

-- a rule for each strip of a formula, the last strip's first; the premises, in order, and what is left, with terms for the variables
pub record Descent : Type 0 where
  pub rules : List Rule
  pub premises : List Formula
  pub rest : Formula

-- the same from its parts
abbrev pub descent : List Rule → List Formula → Formula → Descent
descent rs ps a = record { rules = rs; premises = ps; rest = a }

-- nothing is taken off yet
abbrev pub unstripped : Formula → Descent
unstripped a = descent [] [] a

-- a quantifier less, with a term for its variable
abbrev pub with_term : List ℕ → Formula → Term → Descent → Descent
with_term r b t d = descent (step (all_e r b t) ∷ d.rules) d.premises (instantiate b t)

-- a premise less
abbrev pub with_premise : Formula → Formula → Descent → Descent
with_premise p b d = descent (step (imp_e p) ∷ d.rules) (d.premises ++ p ∷ []) b

-- one strip more of a head form, and then others; a quantifier takes the first term
abbrev pub one_less : (List Term → Descent → Descent) → Formula → List Term → Descent → Descent
one_less others (all r x b) (t ∷ ts) d = others ts (with_term r b t d)
one_less others (implies p b) ts d = others ts (with_premise p b d)
one_less others a ts d = d

-- so many strips more, or as many as there are, with these terms, in order, for the variables of the quantifiers
abbrev pub descend : ℕ → List Declaration → List Term → Descent → Descent
descend zero E ts d = d
descend (suc k) E ts d = one_less (λ us e. descend k E us e) (head_form E d.rest) ts d

-- the rules of the strips, a tree of the formula itself, and an open leaf with these names for each premise
abbrev pub through : List Rule → List (List ℕ) → Descent → List Rule
through part ns d = d.rules ++ (part ++ map (λ p. leaf ns) d.premises)

-- a rule that evidence has: a hypothesis, a Stated formula, or what is applied to a term or to other evidence
abbrev pub IsOfEvidence : Rule → Type 0
IsOfEvidence (step (hyp i)) = Unit {0}
IsOfEvidence (step (known n)) = Unit {0}
IsOfEvidence (step (all_e s b t)) = Unit {0}
IsOfEvidence (step (imp_e a)) = Unit {0}
IsOfEvidence r = ⊥
