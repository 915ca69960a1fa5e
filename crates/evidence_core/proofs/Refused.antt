-- The faults of evidence and of its arguments.
use Rattle.std.proofs.Common.{◌≡◌, ℕ, List, Result, Ok, Err, refl, sym, ap, subst}
use Rattle.vern_grammar.specs.Trees.{Expression}
use Rattle.fol_theory.specs.Syntax.{Formula, truth, falsity, pred, equal, both, either, implies, all, ex}
use Rattle.fol_theory.specs.Printing.{unnamed}
use Rattle.fol_theory.specs.Slots.{Slot}
use Rattle.std.specs.declared.sync.Arc.{Arc}
use Rattle.std.specs.declared.alloc.Global.{Global}
use Rattle.term_core.specs.Formula.{meaning}
use Rattle.term_core.specs.declared.formula.Formula.{Formula as Made}
use Rattle.term_core.specs.declared.formula.Formula.TheVariants as made
use Rattle.term_core.proofs.Shapes.{kind, is_all, is_imp, made_alike}
use Rattle.base_core.specs.Answers.{and_then}
use Rattle.env_theory.specs.Declarations.{Declaration}
use Rattle.env_theory.specs.Heads.{head_form}
use Rattle.elab_theory.specs.Faults.{Fault as TypingFault}
use Rattle.elab_theory.specs.Locals.{locals_in}
use Rattle.elab_theory.specs.Expressions.{span_of, term_of, of_sort}
use Rattle.elab_core.specs.declared.fault.ElabFault.{ElabFault}
use Rattle.elab_core.specs.declared.fault.ElabFault.TheVariants.{
  UnknownName,
  WrongKind,
  WrongSort,
  WrongArity,
  AlreadyDeclared,
  NotOfForm,
  TooLarge,
  NoMemory,
}
use Rattle.elab_core.specs.Faults.{Faulty}
use Rattle.tactic_theory.specs.Faults.{Fault, not_of_form, from_typing}
use Rattle.tactic_theory.specs.Evidence.{Evidence, with_term, with_proof}
use Rattle.tactic_theory.specs.Typing.{evidence_of}
use Rattle.evidence_core.specs.Answers.{Fails}
use Rattle.evidence_core.specs.Showings.{Showing, Comes, applied}
use Rattle.evidence_core.proofs.Steps.{applied_at}

-- a fault of the first step is one of both
pub fails_first : {A B : Type 0} (f : ElabFault) (r : Result A Fault) (g : A → Result B Fault) → Fails f r → Fails f (and_then r g)
fails_first (UnknownName p) r g h = ap (λ z. and_then z g) h
fails_first (WrongKind p) r g h = ap (λ z. and_then z g) h
fails_first (WrongSort p) r g h = ap (λ z. and_then z g) h
fails_first (WrongArity p) r g h = ap (λ z. and_then z g) h
fails_first (AlreadyDeclared p) r g h = ap (λ z. and_then z g) h
fails_first NotOfForm r g h = ap (λ z. and_then z g) h
fails_first (TooLarge n m) r g h = absurd h
fails_first NoMemory r g h = tt

-- a fault of typing is one of evidence
fails_typing : {A : Type 0} (f : ElabFault) (r : Result A TypingFault) → Faulty f r → Fails f (from_typing r)
fails_typing (UnknownName p) r h = ap from_typing h
fails_typing (WrongKind p) r h = ap from_typing h
fails_typing (WrongSort p) r h = ap from_typing h
fails_typing (WrongArity p) r h = ap from_typing h
fails_typing (AlreadyDeclared p) r h = ap from_typing h
fails_typing NotOfForm r h = absurd h
fails_typing (TooLarge n m) r h = absurd h
fails_typing NoMemory r h = tt

-- neither a quantifier over all nor an implication
abbrev IsNeither : Formula → Type 0
IsNeither truth = Unit {0}
IsNeither falsity = Unit {0}
IsNeither (pred p ts) = Unit {0}
IsNeither (equal s t u) = Unit {0}
IsNeither (both a b) = Unit {0}
IsNeither (either a b) = Unit {0}
IsNeither (implies a b) = ⊥
IsNeither (all s x a) = ⊥
IsNeither (ex s x a) = Unit {0}

neither_kind : (a : Formula) → (kind (unnamed a) ≡ is_all → ⊥) → (kind (unnamed a) ≡ is_imp → ⊥) → IsNeither a
neither_kind truth h k = tt
neither_kind falsity h k = tt
neither_kind (pred p ts) h k = tt
neither_kind (equal s t u) h k = tt
neither_kind (both a b) h k = tt
neither_kind (either a b) h k = tt
neither_kind (implies a b) h k = absurd (k refl)
neither_kind (all s x a) h k = absurd (h refl)
neither_kind (ex s x a) h k = tt

-- what is made by none of the two variants
neither_made : (a : Made) → ((s x : List ℕ) (b : Arc Made Global) → a ≡ made.All s x b → ⊥)
    → ((x b : Arc Made Global) → a ≡ made.Imp x b → ⊥) → IsNeither (meaning a)
neither_made a h k = neither_kind (meaning a) (λ e. let w = made_alike is_all a a e refl in h w.0 w.1 w.2 w.3)
    (λ e. let w = made_alike is_imp a a e refl in k w.0 w.1 w.2)

module _ (E : List Declaration) (c : List Slot) (e : Evidence) (s : Showing) (k : Comes E c e s) (a : Expression) where
  pub term_refused : (r y : List ℕ) (b : Formula) → head_form E s.formula ≡ all r y b → (f : ElabFault)
      → Faulty f (and_then (term_of E (locals_in c) a) (of_sort r (span_of a))) → Fails f (applied E c e a)
  term_refused r y b h f w = subst (Fails f) (sym (applied_at E c e s k (all r y b) h a))
      (fails_first f (from_typing (and_then (term_of E (locals_in c) a) (of_sort r (span_of a)))) (λ u. Ok (with_term e r u))
      (fails_typing f (and_then (term_of E (locals_in c) a) (of_sort r (span_of a))) w))

  pub proof_refused : (y b : Formula) → head_form E s.formula ≡ implies y b → (f : ElabFault) → Fails f (evidence_of E c a)
      → Fails f (applied E c e a)
  proof_refused y b h f w = subst (Fails f) (sym (applied_at E c e s k (implies y b) h a))
      (fails_first f (evidence_of E c a) (λ q. Ok (with_proof e q)) w)

  form_refused : (h : Formula) → IsNeither h → head_form E s.formula ≡ h → applied E c e a ≡ Err not_of_form
  form_refused truth n q = applied_at E c e s k truth q a
  form_refused falsity n q = applied_at E c e s k falsity q a
  form_refused (pred p ts) n q = applied_at E c e s k (pred p ts) q a
  form_refused (equal r t u) n q = applied_at E c e s k (equal r t u) q a
  form_refused (both x y) n q = applied_at E c e s k (both x y) q a
  form_refused (either x y) n q = applied_at E c e s k (either x y) q a
  form_refused (implies x y) n q = absurd n
  form_refused (all r x y) n q = absurd n
  form_refused (ex r x y) n q = applied_at E c e s k (ex r x y) q a

  pub other_refused : (h : Made) → ((r x : List ℕ) (b : Arc Made Global) → h ≡ made.All r x b → ⊥)
      → ((x b : Arc Made Global) → h ≡ made.Imp x b → ⊥) → head_form E s.formula ≡ meaning h → applied E c e a ≡ Err not_of_form
  other_refused h n m q = form_refused (meaning h) (neither_made h n m) q
