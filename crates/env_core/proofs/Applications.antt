-- What an application counts, over rows of which only the number up to 2 ^ 32 is known.
use Rattle.std.proofs.Common.{◌≡◌, ℕ, List, refl, sym, ap, ◌∙◌, Option, Some, None}
use Rattle.std.specs.declared.alloc.Global.{Global}
use Rattle.std.specs.declared.sync.ArcSlice.{ArcSlice}
use Rattle.std.specs.Arc.{arc_slice_items}
use Rattle.fol_theory.specs.Syntax.{Terms, nil, cons, app, pred}
use Rattle.term_core.specs.Term.{meaning, list_meaning}
use Rattle.term_core.specs.Formula as formula
use Rattle.term_core.specs.declared.term.Term.{Term}
use Rattle.term_core.specs.declared.term.Term.TheVariants as made
use Rattle.term_core.specs.declared.formula.Formula.{Formula}
use Rattle.term_core.specs.declared.formula.Formula.TheVariants as formulas
use Rattle.term_core.proofs.Applications.{meaning_App}
use Rattle.term_core.proofs.Variants.{meaning_Pred}
use Rattle.env_theory.specs.Normal.{many}
use Rattle.env_theory.specs.Count.{Scale, Row, Table, by_nodes, by_height, row, joined, headed, count_term, count_terms, count}
use Rattle.env_theory.specs.Count.{spread, upto}
use Rattle.env_theory.proofs.Caps.{Cuts}
use Rattle.env_theory.proofs.Scales.{node_by_nodes, node_by_height, joined_one, joined_turned}
use Rattle.env_core.specs.Rows.{IsRow, SameRow}

module _ (S : Scale) (C : Cuts S) where
  plus_same : (a b c d : ℕ) → upto a ≡ upto c → upto b ≡ upto d → upto (S.plus a b) ≡ upto (S.plus c d)
  plus_same a b c d e f = C.plus_cut a b ∙ (λ i. upto (S.plus (e i) (f i))) ∙ sym (C.plus_cut c d)

  times_same : (a b c d : ℕ) → upto a ≡ upto c → upto b ≡ upto d → upto (S.times a b) ≡ upto (S.times c d)
  times_same a b c d e f = C.times_cut a b ∙ (λ i. upto (S.times (e i) (f i))) ∙ sym (C.times_cut c d)

  -- arguments by uses that are equal so far
  pub spread_same : (R : List Row) (e : ℕ) (w u v : ℕ → ℕ) → ((k : ℕ) → upto (u k) ≡ upto (v k)) → (ts : Terms)
      → upto (spread S R e w u ts) ≡ upto (spread S R e w v ts)
  spread_same R e w u v h nil = refl
  spread_same R e w u v h (cons t ts) =
      plus_same (S.times (u (many ts)) (count_term S R e w t)) (spread S R e w u ts)
      (S.times (v (many ts)) (count_term S R e w t)) (spread S R e w v ts)
      (times_same (u (many ts)) (count_term S R e w t) (v (many ts)) (count_term S R e w t) (h (many ts)) refl)
      (spread_same R e w u v h ts)

  headed_same : (R : List Row) (e : ℕ) (w : ℕ → ℕ) (ts : Terms) (r q : Option Row) → SameRow r q
      → upto (headed S e r (count_terms S R e w ts) (λ u. spread S R e w u ts))
      ≡ upto (headed S e q (count_terms S R e w ts) (λ u. spread S R e w u ts))
  headed_same R e w ts None None h = refl
  headed_same R e w ts None (Some q) h = absurd h
  headed_same R e w ts (Some r) None h = absurd h
  headed_same R e w ts (Some r) (Some q) h =
      plus_same (S.times e r.own) (spread S R e w r.uses ts) (S.times e q.own) (spread S R e w q.uses ts)
      (times_same e r.own e q.own refl h.0) (spread_same R e w r.uses q.uses h.1 ts)

  -- an application with the row that is kept
  pub applied : (e : ℕ) (w : ℕ → ℕ) (R : List Row) (f : List ℕ) (ts : ArcSlice Term Global) (r : Option Row) (us : List Term) (t : Term)
      → us ≡ arc_slice_items ts → t ≡ made.App f ts → SameRow r (row R f)
      → upto (headed S e r (count_terms S R e w (list_meaning us)) (λ u. spread S R e w u (list_meaning us)))
      ≡ upto (count_term S R e w (meaning t))
  applied e w R f ts r us t i j h =
      headed_same R e w (list_meaning us) r (row R f) h ∙ ap (λ l. upto (count_term S R e w (app f (list_meaning l)))) i
      ∙ ap (λ z. upto (count_term S R e w z)) (sym (ap meaning j ∙ meaning_App f ts))

  pub applied_predicate : (e : ℕ) (w : ℕ → ℕ) (T : Table) (p : List ℕ) (ts : ArcSlice Term Global) (r : Option Row) (us : List Term)
      (a : Formula)
      → us ≡ arc_slice_items ts → a ≡ formulas.Pred p ts → SameRow r (row T.predicates p)
      → upto (headed S e r (count_terms S T.functions e w (list_meaning us)) (λ u. spread S T.functions e w u (list_meaning us)))
      ≡ upto (count S T e w (formula.meaning a))
  applied_predicate e w T p ts r us a i j h =
      headed_same T.functions e w (list_meaning us) r (row T.predicates p) h
      ∙ ap (λ l. upto (count S T e w (pred p (list_meaning l)))) i
      ∙ ap (λ z. upto (count S T e w z)) (sym (ap formula.meaning j ∙ meaning_Pred p ts))

pub joined_own : (n : ℕ) → joined 1 n ≡ n
joined_own n = joined_turned 1 n ∙ joined_one n

pub ruleset heads = (node_by_nodes, node_by_height, joined_own)
