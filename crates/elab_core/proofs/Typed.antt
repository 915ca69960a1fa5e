-- The three passes in a row.
use Rattle.std.proofs.Common.{◌≡◌, ℕ, ◌<◌, ◌^◌, ◌⊎◌, min, List, Result, Ok, Err, refl, sym, ap, subst, ◌∙◌}
use Rattle.vern_grammar.specs.Trees.{Expression}
use Rattle.fol_theory.specs.Syntax.{Term}
use Rattle.env_theory.specs.Declarations.{Declaration}
use Rattle.elab_theory.specs.Faults.{Fault}
use Rattle.elab_theory.specs.Locals.{Local}
use Rattle.elab_theory.specs.Expressions.{term_of, formula_of}
use Rattle.elab_theory.specs.Sizes.{nodes_in, height_in}
use Rattle.elab_theory.proofs.Results.{ok_is, never}
use Rattle.elab_theory.proofs.Sized.{formula_of_nodes, formula_of_height}
use Rattle.term_core.specs.declared.formula.Formula.{Formula as Made}
use Rattle.term_core.specs.Formula.{meaning}
use Rattle.elab_core.specs.declared.fault.ElabFault.{ElabFault}
use Rattle.elab_core.specs.declared.fault.ElabFault.TheVariants.{
  UnknownName,
  WrongKind,
  WrongSort,
  WrongArity,
  AlreadyDeclared,
  NotOfForm,
  TooLarge,
  NoMemory,
}
use Rattle.elab_core.specs.Faults.{Faulty}
use Rattle.elab_core.specs.Answers.{Types, formula_size}
use Rattle.elab_core.proofs.Within.{IsSized, within_fault, within_large, within_built}
use Rattle.elab_core.specs.Checked.{sort_of, fits_formula}
use Rattle.elab_core.specs.Built.{term_built, formula_built}
use Rattle.elab_core.proofs.Forgotten.{sort_alone, sort_forgotten, formula_forgotten}
use Rattle.elab_core.proofs.Whole.{term_whole, formula_whole}

-- ---- formulas

-- the two numbers that the expression tells are those of its formula
formula_sized : (E : List Declaration) (c : List Local) (a : Expression) (n h : ℕ) → fits_formula E c a ≡ Ok tt
    → n ≡ min (nodes_in a) (2 ^ 32) → h ≡ min (height_in a) (2 ^ 32) → IsSized formula_size (formula_of E c a) (n, h)
formula_sized E c a n h f p q = (
  sym (formula_forgotten E c a) ∙ f,
  λ b e. (
    p ∙ ap (λ m. min m (2 ^ 32)) (sym (formula_of_nodes E a c b e)),
    q ∙ ap (λ m. min m (2 ^ 32)) (sym (formula_of_height E a c b e)),
  ),
)

pub types_fault : (e : ElabFault) (E : List Declaration) (c : List Local) (a : Expression) → Faulty e (fits_formula E c a)
    → Types (Err e) (formula_of E c a)
types_fault e E c a h = within_fault meaning formula_size e (formula_of E c a) (subst (Faulty e) (formula_forgotten E c a) h)

pub types_large : (E : List Declaration) (c : List Local) (a : Expression) (n h : ℕ) → fits_formula E c a ≡ Ok tt
    → n ≡ min (nodes_in a) (2 ^ 32) → h ≡ min (height_in a) (2 ^ 32) → (65536 < n) ⊎ (1024 < h)
    → Types (Err (TooLarge n h)) (formula_of E c a)
types_large E c a n h f p q w = within_large meaning formula_size (formula_of E c a) n h (formula_sized E c a n h f p q) w

pub types_built : (E : List Declaration) (c : List Local) (a : Expression) (n h : ℕ) (f : Made) → fits_formula E c a ≡ Ok tt
    → n ≡ min (nodes_in a) (2 ^ 32) → h ≡ min (height_in a) (2 ^ 32) → ((65536 < n) ⊎ (1024 < h) → ⊥)
    → meaning f ≡ formula_built E c a → Types (Ok f) (formula_of E c a)
types_built E c a n h f t p q w m =
    within_built meaning formula_size (formula_of E c a) n h f (formula_sized E c a n h t p q) w (λ b e. m ∙ formula_whole E c a b e)

-- ---- terms

sorted_of : (r : Result (Term × List ℕ) Fault) (s : List ℕ) → sort_alone r ≡ Ok s → (z : Term × List ℕ) × (r ≡ Ok z) × (z.1 ≡ s)
sorted_of (Ok z) s h = (z, refl, ok_is (List ℕ) z.1 s h)
sorted_of (Err e) s h = absurd (never (List ℕ) e s h)

pub types_term : (E : List Declaration) (c : List Local) (a : Expression) (s : List ℕ) (t : Term) → sort_of E c a ≡ Ok s → t
    ≡ term_built E c a → term_of E c a ≡ Ok (t, s)
types_term E c a s t h k =
    let z = sorted_of (term_of E c a) s (sym (sort_forgotten E c a) ∙ h) in
    z.1 ∙ ap (λ w. Ok (w, z.0.1)) (sym (term_whole E c a z.0 z.1).0 ∙ sym k) ∙ ap (λ w. Ok (t, w)) z.2

sort_kept : (r : Result (Term × List ℕ) Fault) (e : Fault) → sort_alone r ≡ Err e → r ≡ Err e
sort_kept (Ok z) e h = absurd (never (List ℕ) e z.1 (sym h))
sort_kept (Err d) e h = cc

term_faulted : (E : List Declaration) (c : List Local) (a : Expression) (e : Fault) → sort_of E c a ≡ Err e → term_of E c a ≡ Err e
term_faulted E c a e h = sort_kept (term_of E c a) e (sym (sort_forgotten E c a) ∙ h)

pub term_fault : (e : ElabFault) (E : List Declaration) (c : List Local) (a : Expression) → Faulty e (sort_of E c a)
    → Faulty e (term_of E c a)
term_fault (UnknownName p) E c a h = term_faulted E c a _ h
term_fault (WrongKind p) E c a h = term_faulted E c a _ h
term_fault (WrongSort p) E c a h = term_faulted E c a _ h
term_fault (WrongArity p) E c a h = term_faulted E c a _ h
term_fault (AlreadyDeclared p) E c a h = term_faulted E c a _ h
term_fault NotOfForm E c a h = h
term_fault (TooLarge n m) E c a h = h
term_fault NoMemory E c a h = tt

pub ruleset terms = (types_term, term_fault)

pub ruleset typing = (types_fault, types_large, types_built)
