-- How the table begins and ends.
use Rattle.std.proofs.Common.{◌≡◌, ◌≢◌, ◌⊎◌, ℕ, zero, suc, ◌<◌, true, false, true≢false, List, [], ◌∷◌, sym, refl, ap, ◌∙◌, subst, inr}
use Rattle.std.proofs.Common.{⊎_elim, arith, Option, Some, None}
use mathlib.Core.Logic.{dite}
use mathlib.Core.Option.{some, some-injective, some-ne-none}
use native.Mathlib.Decide.{ℕ_discrete}
use lib.ListN.{get_elem?}
use Rattle.atomic_table.specs.Table.{State, opening, Final, Seen}
use Rattle.doc_lock.specs.declared.view.Folded.{Folded}
use Rattle.doc_lock.specs.declared.view.View.{View}
use Rattle.base_core.specs.Lists.{Begins}
use Rattle.doc_lock.specs.Lists.{Each, only}
use Rattle.doc_lock.specs.Views.{beginning, taking}
use Rattle.doc_lock.specs.Told.{starting, given_back, Has, Covers, Ends}
use Rattle.doc_lock.specs.Kept.{IsHome, IsOut, IsBeginning, Kept}
use Rattle.doc_lock.proofs.Lists.{begins_same, each_map, only_nil}
use Rattle.doc_lock.proofs.Places.{same_view}
use Rattle.doc_lock.proofs.Fitting.{Joined, Fits, Fitting, fitting, kept}
use Rattle.doc_lock.proofs.Steps.{one_seat, counted}

module _ {E : Type 0} (author : E → ℕ) (log : List E) (made : ℕ) (owner : ℕ → ℕ) (seat number : ℕ) where
  -- a number that was joined into a seat belongs to that seat
  belongs : (n : ℕ) (ps : List (Folded E)) → Has n ps → Each (Joined author log made owner seat number) ps → owner n ≡ seat
  belongs n [] h e = absurd h
  belongs n (p ∷ ps) h e =
      ⊎_elim (λ (q : p.number ≡ n). ap owner (sym q) ∙ e.0.0) (λ (t : Has n ps). belongs n ps t e.1) h

module _ {S E O : Type 0} (list : S → List E) (author : E → ℕ) (origin : S → O) where
  abbrev D : Type 0
  D = View E O

  abbrev St : Type 0
  St = State (Option S) D

  abbrev Rule : St → Type 0
  Rule = Kept list author origin

  abbrev Fit : St → Type 0
  Fit = Fitting list author origin

  -- ---- the beginning

  first_alone : (j : ℕ) (d : D) → get_elem? (beginning ∷ []) j ≡ some d → Fits author [] 1 1 None (λ _. 0) j d
  first_alone zero d e = subst (λ (z : D). Fits author [] 1 1 None (λ _. 0) 0 z) (some-injective beginning d e)
      record {
        here = refl;
        below = omega arith;
        begins = begins_same [];
        own = only_nil author 0;
        joined = tt;
        based = refl;
        holder = λ h. absurd (true≢false (sym h));
      }
  first_alone (suc j) d e = absurd (some-ne-none d (sym e))

  pub opens : Rule (opening (1 ∷ 0 ∷ []) (None ∷ []) beginning)
  opens = kept list author origin (opening (1 ∷ 0 ∷ []) (None ∷ []) beginning) record {
    log = [];
    made = 1;
    flag = 1;
    base = None;
    owner = λ _. 0;
    words = refl;
    slot = inr (inr record {
      empty = refl;
      no_entry = refl;
      no_origin = refl;
      waits = record { seat = 0; view = beginning; at = refl; live = refl; has = refl };
    });
    first = record { seat = 0; view = beginning; at = refl; live = refl; has = (refl, refl) };
    named = tt;
    alone = λ _. (refl, refl);
    each = λ j d e live. first_alone j d e;
  }

  -- what seat 0 knows once a state without entries is home
  pub starts : (x : S) → list x ≡ [] → given_back list author origin (taking beginning) x ≡ starting origin x
  starts x none_yet = ap (λ (l : List E). let v : D = record (starting origin x) { seen = l; mine = only author 0 l } in v) none_yet
      ∙ ap (λ (l : List E). let v : D = record (starting origin x) { mine = l } in v) (only_nil author 0)

  -- ---- the end

  module _ (s : St) (r : Fit s) (id : ℕ) (v : D) where
    -- where all other seats were joined into this one, and it doesn't hold, none does
    none_holds : get_elem? s.views id ≡ some v → v.live ≡ true → v.holds ≡ false → v.number ≡ 0
        → Covers v → IsOut s → ⊥
    none_holds at live free zeroth all out = let a = out.holder in let u : D = a.view in let fit = r.each id v at live in
        let fut = r.each a.seat u a.at a.live in
        let same : a.seat ≡ id = dite (ℕ_discrete u.number 0)
        (λ z. one_seat list author origin r a.at a.live at live (z ∙ sym zeroth))
        (λ nz. let b = fut.below in let count : v.made ≡ r.made = counted list author origin s r id v at live zeroth in
        sym fut.here ∙ belongs author r.log r.made r.owner id v.number u.number v.joined
        (all u.number (omega arith) (omega arith)) fit.joined) in
        true≢false (sym a.has ∙ (ap (λ (d : D). d.holds) (same_view s.views a.seat id u v a.at at same) ∙ free))

  module _ (id : ℕ) (v : D) (ws : List ℕ) (xs : List (Option S)) where
    pub closes : v.live ≡ true → v.holds ≡ false → v.number ≡ 0 → v.origin ≢ None
        → Covers v → Final (Seen Rule id v) ws xs
        → (x : S) × (get_elem? xs 0 ≡ some (Some x)) × Ends list author origin v x
    closes live free zeroth begun all f = let s : St = f.0 in let r : Fit s = fitting list author origin s f.1.0 in
        let at : get_elem? s.views id ≡ some v = f.1.1 in let fit = r.each id v at live in
        let home : IsHome list origin s r.log r.base r.flag = ⊎_elim (λ (h : IsHome list origin s r.log r.base r.flag). h)
        (λ (t : IsOut s ⊎ IsBeginning s r.log r.base). ⊎_elim (λ (a : IsOut s). absurd (none_holds s r id v at live free zeroth all a))
        (λ (b : IsBeginning s r.log r.base). absurd (begun (fit.based ∙ b.no_origin))) t) r.slot in
        let x : S = home.state in let is : r.log ≡ list x = sym home.entries in (
          x,
          f.4 0 (Some x) (ap (λ hs. get_elem? hs 0) home.there),
          (
            record {
              begins = subst (Begins v.seen) is fit.begins;
              own = ap (only author v.number) home.entries ∙ fit.own;
              joined = each_map (Joined author r.log r.made r.owner id v.number) (λ p. Begins p.seen (list x)
                  × (only author p.number (list x) ≡ p.mine)) (λ p h. (
                    subst (Begins p.seen) is h.4,
                    ap (only author p.number) home.entries
                        ∙ h.3,
                  )) v.joined fit.joined;
              based = fit.based ∙ home.based;
            },
            subst (Each (λ e. author e < v.made)) is (each_map (λ e. author e < r.made) (λ e. author e < v.made)
                (λ e h. let count : v.made ≡ r.made = counted list author origin s r id v at live zeroth in omega arith) r.log r.named),
          ),
        )
