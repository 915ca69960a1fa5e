-- What a declaration puts in for a name, and how many parameters it has.
use Rattle.std.proofs.Common.{◌≡◌, ℕ, suc, ◌≤◌, true, if◌then◌else◌, List, [], ◌∷◌, length, map, vec_len, refl, sym, ap, subst, ◌∙◌, arith}
use Rattle.std.specs.Global.{Vec}
use Rattle.std.proofs.lemmas.List.{length-map}
use Rattle.fol_theory.specs.Syntax.{app, pred, is_name}
use Rattle.fol_theory.specs.Substitution.{replace, replace_term}
use Rattle.term_core.specs.Term as term
use Rattle.term_core.specs.Formula.{meaning}
use Rattle.term_core.specs.declared.term.Term.{Term}
use Rattle.term_core.specs.declared.formula.Formula.{Formula}
use Rattle.env_theory.specs.Declarations.{Declaration, Parameter as Meaning, bound}
use Rattle.env_theory.specs.Normal.{argument, unfold_terms}
use Rattle.env_theory.specs.Typing.{Put}
use Rattle.env_theory.proofs.Sorts.{length_joint}
use Rattle.env_core.specs.Meaning.{declaration, parameter}
use Rattle.env_core.specs.declared.declaration.Parameter.{Parameter}
use Rattle.env_core.specs.declared.declaration.Decl.{Decl}
use Rattle.env_core.specs.declared.declaration.Decl.TheVariants.{DefFun, DefPred}
use Rattle.tac_eq.specs.Bodies.{IsBody, IsTermBody}
use Rattle.tac_eq.specs.Over.{IsOver, IsTermOver}

bound_length : (ps : List Meaning) → length (bound ps) ≡ length ps
bound_length [] = refl
bound_length (p ∷ ps) = length_joint (bound ps) p.sort ∙ ap suc (bound_length ps)

-- as many variables as parameters
counted : (ps : Vec Parameter) (k : ℕ) → k ≡ vec_len ps → length (bound (map parameter ps.items)) ≤ k
counted ps k e = omega (arith, bound_length (map parameter ps.items), length-map ps.items parameter, e)

-- the environment has the definition
abbrev IsPut : Decl → Type 0
IsPut d = (E : List Declaration) × Put E (declaration d)

pub predicate_put : (d : Decl) (n : List ℕ) (ps : Vec Parameter) (b : Formula) (p : List ℕ) (k : ℕ) → d ≡ DefPred n ps b → is_name n p ≡ true
    → k ≡ vec_len ps → IsPut d → IsBody (declaration d) p (meaning b) × ((E : List Declaration) × IsOver E k (meaning b))
predicate_put d n ps b p k e q s =
    subst (λ z. IsPut z → IsBody (declaration z) p (meaning b) × ((E : List Declaration) × IsOver E k (meaning b))) (sym e) (λ w. (
      λ ts. ap (λ t. if t then replace (argument ts) (meaning b) else pred p ts) q,
      (w.0, (bound (map parameter ps.items), w.1.1, counted ps k s)),
    ))

pub function_put : (d : Decl) (n : List ℕ) (ps : Vec Parameter) (r : List ℕ) (b : Term) (f : List ℕ) (k : ℕ) → d ≡ DefFun n ps r b
    → is_name n f ≡ true → k ≡ vec_len ps → IsPut d
    → IsTermBody (declaration d) f (term.meaning b) × ((E : List Declaration) × IsTermOver E k (term.meaning b))
function_put d n ps r b f k e q s =
    subst (λ z. IsPut z → IsTermBody (declaration z) f (term.meaning b) × ((E : List Declaration) × IsTermOver E k (term.meaning b)))
    (sym e) (λ w. (
      λ ts. let us = unfold_terms n (term.meaning b) ts in
          ap (λ t. if t then replace_term (argument us) (term.meaning b) else app f us) q,
      (w.0, (bound (map parameter ps.items), r, w.1.1, counted ps k s)),
    ))
