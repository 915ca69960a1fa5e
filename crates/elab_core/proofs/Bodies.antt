-- The body of a definition, checked, measured and built.
use Rattle.std.proofs.Common.{◌≡◌, ℕ, ◌<◌, ◌^◌, ◌⊎◌, min, List, map, None, Some, Result, Ok, Err, refl, sym, ap, subst, ◌∙◌}
use Rattle.vern_grammar.specs.Trees.{Name, Expression}
use Rattle.fol_theory.specs.Syntax.{Term, is_name}
use Rattle.env_theory.specs.Declarations.{Declaration, term, formula}
use Rattle.base_core.specs.Answers.{and_then}
use Rattle.elab_theory.specs.Faults.{Fault, wrong_sort}
use Rattle.elab_theory.specs.Locals.{known}
use Rattle.elab_theory.specs.Expressions.{span_of, sort_at, of_sort, term_of, formula_of}
use Rattle.elab_theory.specs.Sentences.{locals_of, defined_by}
use Rattle.elab_theory.specs.Sizes.{nodes_in, height_in}
use Rattle.elab_theory.proofs.Results.{ok_is, steps, passed}
use Rattle.elab_theory.proofs.Sized.{term_of_nodes, term_of_height}
use Rattle.term_core.specs.declared.context.Context.TheVariants as context
use Rattle.term_core.specs.declared.term.Term.{Term as MadeTerm}
use Rattle.term_core.specs.declared.formula.Formula.{Formula as Made}
use Rattle.term_core.specs.Term.{meaning as term_meaning}
use Rattle.term_core.specs.Formula.{meaning}
use Rattle.env_core.specs.declared.declaration.Parameter.{Parameter as MadeParameter}
use Rattle.env_core.specs.declared.declaration.Decl.TheVariants.{DefFun, DefPred}
use Rattle.env_core.specs.Meaning.{declaration, parameter}
use Rattle.std.specs.Global.{Vec}
use Rattle.elab_core.specs.declared.fault.ElabFault.{ElabFault}
use Rattle.elab_core.specs.declared.fault.ElabFault.TheVariants.{TooLarge}
use Rattle.elab_core.specs.Faults.{Faulty}
use Rattle.elab_core.specs.Answers.{IsWithin, Types, Declares, formula_size, term_size, declared_size}
use Rattle.elab_core.specs.Checked.{sort_of, fits}
use Rattle.elab_core.specs.Built.{term_built}
use Rattle.elab_core.specs.Scopes.{locals}
use Rattle.elab_core.proofs.Forgotten.{nothing, sort_forgotten, fitted}
use Rattle.elab_core.proofs.Whole.{term_whole}
use Rattle.elab_core.proofs.Within.{IsSized, within_fault, within_large, within_built, within_first, within_part, within_made, faulty_first}
use Rattle.elab_core.proofs.Bound.{empty_locals}

-- ---- formulas

pub predicate_fault : (e : ElabFault) (E : List Declaration) (n : List ℕ) (bs : List MadeParameter) (a : Expression)
    → Types (Err e) (formula_of E (locals context.Empty bs) a) → Declares (Err e) (defined_by E n (map parameter bs) None a)
predicate_fault e E n bs a h = within_part meaning formula_size declaration declared_size (formula n (map parameter bs)) (λ y. refl) e
    (formula_of E (locals_of (map parameter bs)) a) (subst (λ c. Types (Err e) (formula_of E c a)) (empty_locals bs) h)

pub predicate_made : (E : List Declaration) (n : List ℕ) (bs : Vec MadeParameter) (ds : List MadeParameter) (a : Expression) (f : Made)
    → bs.items ≡ ds → Types (Ok f) (formula_of E (locals context.Empty ds) a)
    → Declares (Ok (DefPred n bs f)) (defined_by E n (map parameter ds) None a)
predicate_made E n bs ds a f k h = within_made meaning formula_size declaration declared_size (formula n (map parameter ds)) (λ y. refl)
    (formula_of E (locals_of (map parameter ds)) a) f (DefPred n bs f) (ap (λ l. formula n (map parameter l) (meaning f)) k)
    (subst (λ c. Types (Ok f) (formula_of E c a)) (empty_locals ds) h)

pub ruleset predicates = (predicate_fault, predicate_made)

-- ---- terms

module _ (E : List Declaration) (bs : List MadeParameter) (s : List ℕ) (a : Expression) where
  -- the term that is wanted
  abbrev pub wanted : Result Term Fault
  wanted = and_then (term_of E (locals_of (map parameter bs)) a) (of_sort s (span_of a))

  -- its sort is asked of the same expression
  pub wanted_forgotten : and_then (sort_of E (locals context.Empty bs) a) (fits s (span_of a)) ≡ nothing wanted
  wanted_forgotten =
      ap (λ c. and_then (sort_of E c a) (fits s (span_of a))) (empty_locals bs)
      ∙ ap (λ r. and_then r (fits s (span_of a))) (sort_forgotten E (locals_of (map parameter bs)) a)
      ∙ fitted s (span_of a) (term_of E (locals_of (map parameter bs)) a)

  of_sort_is : (r : Term × List ℕ) (t : Term) → of_sort s (span_of a) r ≡ Ok t → r.0 ≡ t
  of_sort_is r t e = ok_is Term r.0 t (passed (is_name r.1 s) (Ok r.0) (wrong_sort (span_of a)) t e).1

  wanted_sized : (r : List ℕ) (n h : ℕ) → sort_of E (locals context.Empty bs) a ≡ Ok r → fits s (span_of a) r ≡ Ok tt
      → n ≡ min (nodes_in a) (2 ^ 32) → h ≡ min (height_in a) (2 ^ 32) → IsSized term_size wanted (n, h)
  wanted_sized r n h f g p q = (
    sym wanted_forgotten ∙ ap (λ z. and_then z (fits s (span_of a))) f ∙ g,
    λ t e. let k = steps (term_of E (locals_of (map parameter bs)) a) (of_sort s (span_of a)) t e in (
      p ∙ ap (λ m. min m (2 ^ 32)) (sym (term_of_nodes E (locals_of (map parameter bs)) a k.0 k.1))
          ∙ ap (λ t. min (term_size t).0 (2 ^ 32)) (of_sort_is k.0 t k.2),
      q ∙ ap (λ m. min m (2 ^ 32)) (sym (term_of_height E (locals_of (map parameter bs)) a k.0 k.1))
          ∙ ap (λ t. min (term_size t).1 (2 ^ 32)) (of_sort_is k.0 t k.2),
    ),
  )

  pub term_unsorted : (e : ElabFault) → Faulty e (sort_of E (locals context.Empty bs) a) → IsWithin term_meaning term_size (Err e) wanted
  term_unsorted e h = within_fault term_meaning term_size e wanted
      (subst (Faulty e) wanted_forgotten (faulty_first e (sort_of E (locals context.Empty bs) a) (fits s (span_of a)) h))

  pub term_misfit : (e : ElabFault) (r : List ℕ) → sort_of E (locals context.Empty bs) a ≡ Ok r → Faulty e (fits s (span_of a) r)
      → IsWithin term_meaning term_size (Err e) wanted
  term_misfit e r f h = within_fault term_meaning term_size e wanted
      (subst (Faulty e) (ap (λ z. and_then z (fits s (span_of a))) (sym f) ∙ wanted_forgotten) h)

  pub term_large : (r : List ℕ) (n h : ℕ) → sort_of E (locals context.Empty bs) a ≡ Ok r → fits s (span_of a) r ≡ Ok tt
      → n ≡ min (nodes_in a) (2 ^ 32) → h ≡ min (height_in a) (2 ^ 32) → (65536 < n) ⊎ (1024 < h)
      → IsWithin term_meaning term_size (Err (TooLarge n h)) wanted
  term_large r n h f g p q w = within_large term_meaning term_size wanted n h (wanted_sized r n h f g p q) w

  pub term_made : (r : List ℕ) (n h : ℕ) (t : MadeTerm) → sort_of E (locals context.Empty bs) a ≡ Ok r → fits s (span_of a) r ≡ Ok tt
      → n ≡ min (nodes_in a) (2 ^ 32) → h ≡ min (height_in a) (2 ^ 32) → ((65536 < n) ⊎ (1024 < h) → ⊥)
      → term_meaning t ≡ term_built E (locals context.Empty bs) a → IsWithin term_meaning term_size (Ok t) wanted
  term_made r n h t f g p q w m = within_built term_meaning term_size wanted n h t (wanted_sized r n h f g p q) w
      (λ u e. let k = steps (term_of E (locals_of (map parameter bs)) a) (of_sort s (span_of a)) u e in
      m ∙ ap (λ c. term_built E c a) (empty_locals bs) ∙ (term_whole E (locals_of (map parameter bs)) a k.0 k.1).0 ∙ of_sort_is k.0 u k.2)

pub ruleset terms = (term_unsorted, term_misfit, term_large)

-- ---- functions

module _ (E : List Declaration) (n : List ℕ) (bs : List MadeParameter) (x : Name) (a : Expression) where
  pub function_unsorted : (e : ElabFault) → Faulty e (sort_at (known E (locals_of (map parameter bs)) x.text) x)
      → Declares (Err e) (defined_by E n (map parameter bs) (Some x) a)
  function_unsorted e h = within_first declaration declared_size e (sort_at (known E (locals_of (map parameter bs)) x.text) x)
      (λ s. and_then (wanted E bs s a) (λ b. Ok (term n (map parameter bs) s b))) h

  found : sort_at (known E (locals_of (map parameter bs)) x.text) x ≡ Ok x.text
      → and_then (wanted E bs x.text a) (λ b. Ok (term n (map parameter bs) x.text b)) ≡ defined_by E n (map parameter bs) (Some x) a
  found h = ap (λ r. and_then r (λ s. and_then (wanted E bs s a) (λ b. Ok (term n (map parameter bs) s b)))) (sym h)

  pub function_fault : (e : ElabFault) → sort_at (known E (locals_of (map parameter bs)) x.text) x ≡ Ok x.text
      → IsWithin term_meaning term_size (Err e) (wanted E bs x.text a) → Declares (Err e) (defined_by E n (map parameter bs) (Some x) a)
  function_fault e f h = subst (Declares (Err e)) (found f) (within_part term_meaning term_size declaration declared_size
      (term n (map parameter bs) x.text) (λ y. refl) e (wanted E bs x.text a) h)

  pub function_made : (ds : Vec MadeParameter) (r : List ℕ) (t : MadeTerm) → ds.items ≡ bs → r ≡ x.text
      → sort_at (known E (locals_of (map parameter bs)) x.text) x ≡ Ok x.text
      → IsWithin term_meaning term_size (Ok t) (wanted E bs x.text a)
      → Declares (Ok (DefFun n ds r t)) (defined_by E n (map parameter bs) (Some x) a)
  function_made ds r t k q f h = subst (Declares (Ok (DefFun n ds r t))) (found f)
      (within_made term_meaning term_size declaration declared_size
      (term n (map parameter bs) x.text) (λ y. refl) (wanted E bs x.text a) t (DefFun n ds r t)
      (ap (λ l. term n (map parameter l) r (term_meaning t)) k ∙ ap (λ s. term n (map parameter bs) s (term_meaning t)) q) h)

pub ruleset functions = (function_unsorted, function_fault, function_made)
