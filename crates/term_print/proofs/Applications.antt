-- What a name with its arguments is written as.
use Rattle.std.proofs.Common.{
  ◌≡◌,
  ℕ,
  ◌+◌,
  ◌<◌,
  List,
  [],
  ◌∷◌,
  ◌++◌,
  length,
  take,
  get_or,
  map,
  false,
  nat_lt,
  refl,
  sym,
  ap,
  ◌∙◌,
  arith,
  append_assoc,
  append-nil,
}
use Rattle.std.proofs.lemmas.Bool.{le-ltb}
use Rattle.std.proofs.lemmas.List.{take_more, map-append}
use Rattle.std.specs.declared.sync.ArcSlice.{ArcSlice}
use Rattle.std.specs.Arc.{arc_slice_items}
use Rattle.std.specs.declared.alloc.Global.{Global}
use Rattle.fol_theory.specs.Syntax.{Term as TermMeaning, var, terms}
use Rattle.vern_grammar.specs.Kinds.{name}
use Rattle.print_theory.specs.Names.{name_of}
use Rattle.print_theory.specs.Printing.{application_level, argument_at_most, arguments_tokens, term_tokens}
use Rattle.term_core.specs.Term.{meaning, list_meaning, meaning_step}
use Rattle.term_core.specs.declared.term.Term.{Term}
use Rattle.term_core.specs.declared.term.Term.TheOpen as layer
use Rattle.term_core.specs.declared.term.Term.TheVariants as made
use Rattle.term_core.specs.declared.term.Term.TheFolds.{fold-roll-Term}
use Rattle.term_core.proofs.Applications.{meaning_App}
use Rattle.term_print.specs.Output.{Written, put_tokens, application_tokens}
use Rattle.term_print.proofs.Puts.{puts_append}

meaning_Var : (i : ℕ) → meaning (made.Var i) ≡ var i
meaning_Var i = ap meaning (sym (made.rolls-Var i)) ∙ fold-roll-Term TermMeaning meaning_step (layer.Var i)

pub term_Var : (names : List (List ℕ)) (most i : ℕ) → term_tokens names most (meaning (made.Var i)) ≡ name (name_of names i) ∷ []
term_Var names most i = ap (term_tokens names most) (meaning_Var i)

pub term_App : (names : List (List ℕ)) (most : ℕ) (f : List ℕ) (ts : ArcSlice Term Global) →
    term_tokens names most (meaning (made.App f ts)) ≡ application_tokens names most f (list_meaning (arc_slice_items ts))
term_App names most f ts = ap (term_tokens names most) (meaning_App f ts)

-- an argument more
pub arguments_more : (names : List (List ℕ)) (xs : List TermMeaning) (t : TermMeaning) →
    arguments_tokens names (terms (xs ++ (t ∷ []))) ≡ arguments_tokens names (terms xs) ++ term_tokens names argument_at_most t
arguments_more names [] t = append-nil (term_tokens names argument_at_most t)
arguments_more names (x ∷ xs) t = ap (λ ks. term_tokens names argument_at_most x ++ ks) (arguments_more names xs t) ∙
    sym (append_assoc (term_tokens names argument_at_most x) (arguments_tokens names (terms xs)) (term_tokens names argument_at_most t))

-- when parentheses are due
pub due_none : (most : ℕ) (ts : List Term) → length ts ≡ 0 → false ≡ nat_lt most (application_level (list_meaning ts))
due_none most [] h = sym (le-ltb most 0 (omega arith))
due_none most (t ∷ ts) h = absurd (omega (arith, h))

pub due_some : (most : ℕ) (ts : List Term) → (length ts ≡ 0 → ⊥) → nat_lt most 10 ≡ nat_lt most (application_level (list_meaning ts))
due_some most [] h = absurd (h refl)
due_some most (t ∷ ts) h = refl

pub ruleset due = (due_none, due_some)

pub ruleset term_variants = (term_Var, term_App)

-- an argument more is written
pub arguments_step : (names : List (List ℕ)) (ts : List Term) (i : ℕ) (t : Term) (w v u : Written) → i < length ts →
    t ≡ get_or ts i t → v ≡ put_tokens w (arguments_tokens names (list_meaning (take i ts))) →
    u ≡ put_tokens v (term_tokens names argument_at_most (meaning t))
    → u ≡ put_tokens w (arguments_tokens names (list_meaning (take (i + 1) ts)))
arguments_step names ts i t w v u h e f g =
    let more : list_meaning (take (i + 1) ts) ≡ terms (map meaning (take i ts) ++ (meaning t ∷ [])) =
    ap list_meaning (take_more ts i t h ∙ ap (λ t. take i ts ++ (t ∷ [])) (sym e)) ∙ ap terms (map-append meaning (take i ts) (t ∷ [])) in
    let tokens = ap (arguments_tokens names) more ∙ arguments_more names (map meaning (take i ts)) (meaning t) in
    g ∙ ap (λ v. put_tokens v (term_tokens names argument_at_most (meaning t))) f ∙
    sym (puts_append w (arguments_tokens names (list_meaning (take i ts))) (term_tokens names argument_at_most (meaning t)))
    ∙ ap (put_tokens w) (sym tokens)
