-- Evidence whose equation rewrites a goal: the tree that it makes.
use Rattle.std.proofs.Common.{◌≡◌, ℕ, Bool, true, false, ◌&&◌, not, List, [], ◌∷◌, ◌++◌, map, length, Some, Ok, refl, sym, ap, subst, ◌∙◌}
use Rattle.fol_theory.specs.Syntax.{Term, equal}
use Rattle.fol_theory.specs.Substitution.{replace_term, replace, instantiate}
use Rattle.fol_theory.specs.Contexts.{variables}
use Rattle.fol_theory.specs.Slots.{entries, names}
use Rattle.fol_theory.specs.Printing.{unnamed}
use Rattle.match_theory.specs.Instances.{fill}
use Rattle.match_theory.specs.Places.{abstracted, all_below, find_instance, occurs_in_term}
use Rattle.env_theory.specs.Declarations.{Declaration}
use Rattle.env_theory.specs.Heads.{head_form}
use Rattle.env_theory.specs.Normal.{normal, Same}
use Rattle.env_theory.specs.Typing.{HasSort, WellFormed, Fits}
use Rattle.env_theory.proofs.Lawfuls.{head_formed}
use Rattle.env_theory.proofs.Sameness.{same_replace}
use Rattle.env_theory.proofs.Sorts.{replace_sort}
use Rattle.logic_theory.specs.Goals.{Goal}
use Rattle.tactic_theory.specs.Evidence.{Evidence, is_met}
use Rattle.tactic_theory.specs.Refinements.{Part, part, opened, if_met, premise_parts, is_open, rewrite_found}
use Rattle.tactic_theory.specs.Strips.{Strip, Stripped, all_strips, equation, strip, unstripped}
use Rattle.tactic_theory.proofs.Stripped.{strips_stripped, equation_stripped}
use Rattle.evidence_core.specs.declared.shown.Evidence.{Evidence as Shown}
use Rattle.evidence_core.specs.Meaning.{pairs, showing}
use Rattle.evidence_core.specs.Pairs.{AreSame}
use Rattle.evidence_core.proofs.Heads.{head_same}
use Rattle.strip_core.specs.Descents.{stripped}
use Rattle.strip_core.specs.Trees.{through}
use Rattle.strip_core.proofs.Fitted.{rest_formed, leads_on}
use Rattle.tac_base.specs.Given.{IsGiven}
use Rattle.tac_base.specs.Openings.{made, Opens}
use Rattle.tac_base.specs.Sites.{IsSite}
use Rattle.tac_eq.specs.Rewriting.{oriented, rewriting}
use Rattle.tac_eq.proofs.Rewritten.{rewrites}
use Rattle.tac_eq.proofs.Sorted.{found_fit}

oriented_formed : (E : List Declaration) (V : List (List ℕ)) (back : Bool) (q : List ℕ) (t u : Term)
    → WellFormed E V (oriented back q t u) → WellFormed E V (equal q t u)
oriented_formed E V false q t u w = w
oriented_formed E V true q t u w = (w.0, w.2, w.1)

oriented_filled : (ts : List Term) (back : Bool) (q : List ℕ) (t u : Term) → replace (fill ts) (oriented back q t u)
    ≡ oriented back q (replace_term (fill ts) t) (replace_term (fill ts) u)
oriented_filled ts false q t u = refl
oriented_filled ts true q t u = refl

module _ (E : List Declaration) (g : Goal) (n : ℕ) (site : IsSite E g n) (m : Shown) (e : Evidence) (k : IsGiven E g.slots e m) (s : Strip)
    (first : equation E (all_strips E (showing m).formula) ≡ Some s) (back : Bool) (q : List ℕ) (t u : Term)
    (head : head_form E s.rest ≡ oriented back q t u) (ts : List Term)
    (found : find_instance (length s.sorts) t g.shown ≡ Some ts)
    (unlike : is_open (length s.sorts) t ≡ false) (each : all_below (length s.sorts) (λ i. occurs_in_term i t) ≡ true) where
  abbrev V : List (List ℕ)
  V = variables (entries g.slots)

  comes : Stripped E (showing m).formula s
  comes = equation_stripped E (showing m).formula (all_strips E (showing m).formula)
      (strips_stripped _ E (showing m).formula (strip [] [] (showing m).formula) unstripped) s first

  left : WellFormed E (s.sorts ++ V) s.rest
  left = rest_formed E site.environment V (showing m).formula k.formed s comes

  sides : WellFormed E (s.sorts ++ V) (equal q t u)
  sides = oriented_formed E (s.sorts ++ V) back q t u
      (subst (WellFormed E (s.sorts ++ V)) head (head_formed E site.environment (s.sorts ++ V) s.rest left))

  fits : (length ts ≡ length s.sorts) × Fits E (fill ts) (s.sorts ++ V) V
  fits = found_fit E V s.sorts t q g.shown site.formed.1 sides.1 ts found unlike each

  pub from_sorted : HasSort E V (replace_term (fill ts) t) q
  from_sorted = replace_sort E (fill ts) (s.sorts ++ V) V fits.1 t q sides.1

  stands : Same E (replace (fill ts) s.rest) (oriented back q (replace_term (fill ts) t) (replace_term (fill ts) u))
  stands = sym (same_replace E (fill ts) (head_form E s.rest) s.rest (head_same E site.environment (s.sorts ++ V) s.rest left))
      ∙ ap (λ z. unnamed (normal E (replace (fill ts) z))) head ∙ ap (λ z. unnamed (normal E z)) (oriented_filled ts back q t u)

  pub rewritten_opens : AreSame E (pairs m.must.items)
      → let d = stripped E (showing m).formula s ts in
      let from = replace_term (fill ts) t in
      let to = replace_term (fill ts) u in
      (ps : List Part) × (rewrite_found g.slots (is_met E g.slots e) s t u g.shown (Some ts) ≡ Ok ps)
      × Opens E g ps (made (rewriting back q from to g.slots g.shown (through (showing m).tree (names g.slots) d))
      (instantiate (abstracted 0 from g.shown) to ∷ d.premises))
  rewritten_opens same =
      let from = replace_term (fill ts) t in
      let to = replace_term (fill ts) u in
      let new = part [] g.slots (instantiate (abstracted 0 from g.shown) to) in
      let up = leads_on E site.environment g.slots (showing m).formula k.formed (showing m).tree (head_same E site.environment V)
      (k.proved same) s comes ts fits.0 fits.1 (oriented back q from to) stands in
      let all = rewrites E g.slots q sides.0 from to from_sorted (replace_sort E (fill ts) (s.sorts ++ V) V fits.1 u q sides.2)
      (through (showing m).tree (names g.slots) (stripped E (showing m).formula s ts))
      (map opened (premise_parts g.slots ts s.premises)) back (up.follows, up.leaves) g.shown site.formed.1 in (
        new ∷ premise_parts g.slots ts s.premises,
        (λ i. if_met (k.met.1 same i && (not (unlike i) && each i)) (new ∷ premise_parts g.slots ts s.premises)),
        record {
          follows = all.0;
          leaves = all.1;
          formulas = ap (λ ls. instantiate (abstracted 0 from g.shown) to ∷ ls) up.formulas;
        },
      )
