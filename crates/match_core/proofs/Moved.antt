-- What a moved term is, part by part, and lists of them place by place.
use Rattle.std.proofs.Common.{◌≡◌, ℕ, ◌+◌, ◌-◌, ◌<◌, List, [], ◌∷◌, length, map, get_or, refl, sym, ap, ◌∙◌, arith}
use Rattle.std.specs.declared.alloc.Global.{Global}
use Rattle.std.specs.declared.sync.ArcSlice.{ArcSlice}
use Rattle.std.specs.Arc.{arc_slice_items}
use Rattle.std.proofs.lemmas.List.{length-map, get_or-map}
use Rattle.fol_theory.specs.Syntax.{Term as Meaning, terms, var, app, cons}
use Rattle.fol_theory.proofs.Laws.{terms_injective}
use Rattle.fol_theory.proofs.AtIndex.{raise_large}
use Rattle.term_core.specs.Term.{meaning, list_meaning}
use Rattle.term_core.specs.declared.term.Term.{Term}
use Rattle.term_core.specs.declared.term.Term.TheVariants as made
use Rattle.term_core.proofs.Applications.{meaning_App}
use Rattle.match_core.specs.Moves.{moved, all_moved}
use Rattle.match_core.proofs.Lowered.{meaning_Var}

pub moved_Var : (k r i : ℕ) → moved k r (meaning (made.Var i)) ≡ var (i - k + r)
moved_Var k r i = ap (moved k r) (meaning_Var i) ∙ raise_large 0 r (i - k) (omega arith)

pub moved_App : (k r : ℕ) (f : List ℕ) (ts : ArcSlice Term Global)
    → moved k r (meaning (made.App f ts)) ≡ app f (all_moved k r (list_meaning (arc_slice_items ts)))
moved_App k r f ts = ap (moved k r) (meaning_App f ts)

pub ruleset moves = (meaning_Var, meaning_App, moved_Var, moved_App)

-- ---- lists, term by term

module _ (k r : ℕ) where
  abbrev pub each : Term → Meaning
  each t = moved k r (meaning t)

  pub each_moved : (ts : List Term) → terms (map each ts) ≡ all_moved k r (list_meaning ts)
  each_moved [] = refl
  each_moved (t ∷ ts) = ap (cons (each t)) (each_moved ts)

  pub moved_lists : (ts us : List Term) → all_moved k r (list_meaning ts) ≡ list_meaning us → map each ts ≡ map meaning us
  moved_lists ts us e = terms_injective (map each ts) (map meaning us) (each_moved ts ∙ e)

  pub lists_moved : (ts us : List Term) → map each ts ≡ map meaning us → all_moved k r (list_meaning ts) ≡ list_meaning us
  lists_moved ts us e = sym (each_moved ts) ∙ ap terms e

  pub moved_length : (ts us : List Term) → all_moved k r (list_meaning ts) ≡ list_meaning us → length ts ≡ length us
  moved_length ts us e = sym (length-map ts each) ∙ ap length (moved_lists ts us e) ∙ length-map us meaning

  pub moved_at : (ts us : List Term) (i : ℕ) (t u : Term) → (i < length ts) × (t ≡ get_or ts i t)
      → (i < length us) × (u ≡ get_or us i u) → all_moved k r (list_meaning ts) ≡ list_meaning us → each t ≡ meaning u
  moved_at ts us i t u p q e =
      ap each p.1 ∙ sym (get_or-map each ts i t (each t) p.0) ∙ ap (λ xs. get_or xs i (each t)) (moved_lists ts us e)
      ∙ get_or-map meaning us i u (each t) q.0 ∙ ap meaning (sym q.1)
