-- What was typed is declared unless it is too large.
use Rattle.std.proofs.Common.{◌≡◌, ℕ, inl, inr, List, ◌∷◌, Option, Some, None, Result, Ok, Err, IfOk}
use Rattle.std.proofs.Common.{refl, sym, ap, subst, ◌∙◌, arith}
use Rattle.vern_grammar.specs.Trees.{Name, Group, Expression, Shape}
use Rattle.base_core.specs.Answers.{Answers, IsRefusal, and_then}
use Rattle.env_theory.specs.Declarations.{Declaration, sort, function, predicate, stated, term, formula}
use Rattle.env_theory.specs.Typing.{Declares, Environment}
use Rattle.env_core.specs.declared.declaration.Decl.{Decl}
use Rattle.env_core.specs.Meaning.{declaration}
use Rattle.elab_theory.specs.Faults.{Fault as TypingFault}
use Rattle.elab_theory.specs.Sentences.{declaration_of, definition_of}
use Rattle.elab_theory.proofs.Admitted.{declaration_admitted, definition_admitted}
use Rattle.elab_core.specs.declared.fault.ElabFault.{ElabFault}
use Rattle.elab_core.specs.declared.fault.ElabFault.TheVariants.{UnknownName, WrongKind, WrongSort, WrongArity, AlreadyDeclared, NotOfForm, TooLarge, NoMemory}
use Rattle.elab_core.specs.Answers.{Passes, IsWithin, declared_size}
use Rattle.elab_core.specs.Answers.{Declares as Types}
use Rattle.tactic_theory.specs.Faults.{too_large}
use Rattle.tactic_theory.specs.States.{StepFault, row_fault}
use Rattle.script_theory.specs.Sizes.{told, large_declaration}
use Rattle.script_theory.specs.Sentences.{sized, from_elaboration}
use Rattle.script_theory.specs.Sentences as check
use Rattle.step_core.specs.declared.refusal.Refusal.{Refusal}
use Rattle.step_core.specs.Refusals.{refused, told_as}
use Rattle.step_core.specs.Steps.{IsNew, normal_excess, within}
use Rattle.step_core.proofs.Measured.{measured_past, measured_within}

-- ---- sizes

no_size : Passes (0, 0) → ⊥
no_size (inl h) = omega (arith, h)
no_size (inr h) = omega (arith, h)

-- what passes a limit as it is written is told with its own numbers
large_past : (E : List Declaration) (d : Declaration) → Passes (declared_size d)
    → large_declaration E d ≡ Some (told (declared_size d).0, told (declared_size d).1)
large_past E (sort n) h = absurd (no_size h)
large_past E (function n ss s) h = absurd (no_size h)
large_past E (predicate n ss) h = absurd (no_size h)
large_past E (stated n a) h = measured_past _ _ _ h
large_past E (term n ps s b) h = measured_past _ _ _ h
large_past E (formula n ps b) h = measured_past _ _ _ h

-- what doesn't is measured in its normal form
large_within : (E : List Declaration) (d : Declaration) → (Passes (declared_size d) → ⊥) → large_declaration E d ≡ normal_excess E d
large_within E (sort n) h = refl
large_within E (function n ss s) h = refl
large_within E (predicate n ss) h = refl
large_within E (stated n a) h = measured_within _ _ _ h
large_within E (term n ps s b) h = measured_within _ _ _ h
large_within E (formula n ps b) h = measured_within _ _ _ h

-- ---- faults of typing

-- A fault of typing is the refusal that it is told as, whatever is made of what is wanted.
module _ {X Y Z : Type 0} (meaning : X → Y) (size : Y → ℕ × ℕ) (large : Y → Option (ℕ × ℕ)) (make : Y → Z)
    (past : (y : Y) → Passes (size y) → large y ≡ Some (told (size y).0, told (size y).1)) where
  abbrev made : Result Y TypingFault → Result Z StepFault
  made w = and_then (from_elaboration w) (λ y. sized (large y) (make y))

  pub refused_as : (e : ElabFault) (w : Result Y TypingFault) → IsWithin meaning size (Err e) w → IsRefusal (refused (told_as e)) (made w)
  refused_as (UnknownName p) w h = ap made h
  refused_as (WrongKind p) w h = ap made h
  refused_as (WrongSort p) w h = ap made h
  refused_as (WrongArity p) w h = ap made h
  refused_as (AlreadyDeclared p) w h = ap made h
  refused_as NotOfForm w h = absurd h
  refused_as (TooLarge n k) (Ok y) (p, e, f) = ap (λ o. sized o (make y)) (past y p)
      ∙ ap (λ m. Err (row_fault (too_large m (told (size y).1)))) (sym e) ∙ ap (λ m. Err (row_fault (too_large n m))) (sym f)
  refused_as (TooLarge n k) (Err g) h = absurd h
  refused_as NoMemory w h = tt

pub judged_refused : (E : List Declaration) (e : ElabFault) (r : Refusal) (w : Result Declaration TypingFault) → Types (Err e) w
    → r ≡ told_as e → Answers declaration refused (Err r) (within E w)
judged_refused E e r w h k = subst (λ z. IsRefusal (refused z) (within E w)) (sym k)
    (refused_as declaration declared_size (large_declaration E) (λ d. d) (large_past E) e w h)

-- ---- what was typed

pub judged_good : (E : List Declaration) (d : Decl) (w : Result Declaration TypingFault) → Types (Ok d) w
    → None ≡ normal_excess E (declaration d) → Answers declaration refused (Ok d) (within E w)
judged_good E d w (e, h) n = ap (within E) e
    ∙ ap (λ o. sized o (declaration d)) (large_within E (declaration d) h ∙ sym n)

pub judged_large : (E : List Declaration) (d : Decl) (w : Result Declaration TypingFault) (n h : ℕ) → Types (Ok d) w
    → Some (n, h) ≡ normal_excess E (declaration d) → within E w ≡ Err (row_fault (too_large n h))
judged_large E d w n h (e, l) k = ap (within E) e
    ∙ ap (λ o. sized o (declaration d)) (large_within E (declaration d) l ∙ sym k)

pub ruleset judging = (judged_good, judged_refused)

-- ---- what a sentence declares is new

new_of : (E : List Declaration) (d : Declaration) → Environment (d ∷ E) → IsNew E d
new_of E d e = (e.0, e.1)

module _ (E : List Declaration) (v : Environment E) (x : Name) where
  pub typed_declares : (y : Shape) (r : Result Decl ElabFault) → Types r (declaration_of E x y) → (d : Decl) → r ≡ Ok d
      → Declares E (declaration d)
  typed_declares y r t d e =
      let u = subst (λ r. Types r (declaration_of E x y)) e t in
      (declaration_admitted E v x y (declaration d) u.0).1

  pub typed_defines : (gs : List Group) (r : Option Name) (a : Expression) (t : Result Decl ElabFault)
      → Types t (definition_of E x gs r a) → (d : Decl) → t ≡ Ok d → Declares E (declaration d)
  typed_defines gs r a t u d e =
      let w = subst (λ t. Types t (definition_of E x gs r a)) e u in
      (definition_admitted E v x gs r a (declaration d) w.0).1

step_never : {A : Type 0} (e : StepFault) (x : A) → Path (Result A StepFault) (Err e) (Ok x) → ⊥
step_never {A} e x h = cc

sized_ok : (o : Option (ℕ × ℕ)) (d f : Declaration) → sized o d ≡ Ok f → d ≡ f
sized_ok None d f h = cc
sized_ok (Some z) d f h = absurd (step_never _ f h)

within_ok : (E : List Declaration) (w : Result Declaration TypingFault) (f : Declaration) → within E w ≡ Ok f → w ≡ Ok f
within_ok E (Ok d) f h = ap Ok (sized_ok (large_declaration E d) d f h)
within_ok E (Err g) f h = absurd (step_never _ f h)

pub declared_new : (E : List Declaration) → Environment E → (x : Name) (y : Shape) (r : Result Decl Refusal)
    → Answers declaration refused r (check.declaration E x y) → IfOk r (λ d. IsNew E (declaration d))
declared_new E v x y (Ok d) t = new_of E (declaration d) (declaration_admitted E v x y (declaration d)
    (within_ok E (declaration_of E x y) (declaration d) t))
declared_new E v x y (Err e) t = tt

pub defined_new : (E : List Declaration) → Environment E → (x : Name) (gs : List Group) (r : Option Name) (a : Expression)
    (t : Result Decl Refusal) → Answers declaration refused t (check.definition E x gs r a) → IfOk t (λ d. IsNew E (declaration d))
defined_new E v x gs r a (Ok d) t = new_of E (declaration d) (definition_admitted E v x gs r a (declaration d)
    (within_ok E (definition_of E x gs r a) (declaration d) t))
defined_new E v x gs r a (Err e) t = tt
