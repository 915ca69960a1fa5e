-- A seat is split off, and a seat is joined into another: both keep the rule.
use Rattle.std.proofs.Common.{◌≡◌, ◌≢◌, ◌⊎◌, ℕ, ◌+◌, ◌<◌, eqb, true, false, true≢false, List, [], ◌∷◌, ◌++◌, length, set, length-set}
use Rattle.std.proofs.Common.{cond, sym, refl, ap, ◌∙◌, subst, inl, inr, ⊎_elim, arith, eq-eqb, ne_eqb, Option, None}
use mathlib.Core.Option.{some}
use lib.ListN.{get_elem?}
use Rattle.atomic_table.specs.Table.{State, Splits, Joins}
use Rattle.atomic_table.proofs.Lists.{set_else, at_longer}
use Rattle.doc_lock.specs.declared.view.View.{View}
use Rattle.doc_lock.specs.Lists.{Each}
use Rattle.doc_lock.specs.Views.{splitting, split_off, joining, spent}
use Rattle.doc_lock.specs.Kept.{IsHome, IsOut, IsBeginning, Kept}
use Rattle.doc_lock.proofs.Lists.{each_map, each_append, longer_begins, only_none}
use Rattle.doc_lock.proofs.Places.{seats_stay, last_new, one_place, here_set, some_stays, some_other, some_longer}
use Rattle.doc_lock.proofs.Fitting.{Joined, Fits, Fitting, fitting, kept}
use Rattle.doc_lock.proofs.Steps.{counted}

module _ {S E O : Type 0} (list : S → List E) (author : E → ℕ) (origin : S → O) where
  abbrev D : Type 0
  D = View E O

  abbrev St : Type 0
  St = State (Option S) D

  abbrev Rule : St → Type 0
  Rule = Kept list author origin

  abbrev Fit : St → Type 0
  Fit = Fitting list author origin

  pub splits : (id : ℕ) (v : D) → v.live ≡ true → v.number ≡ 0 → v.origin ≢ None → Splits Rule id v (splitting v) (split_off v)
  splits id v live zeroth begun s k at = let r : Fit s = fitting list author origin s k in let fit = r.each id v at live in
      let n : ℕ = length s.views in let count : v.made ≡ r.made = counted list author origin s r id v at live zeroth in
      let owner : ℕ → ℕ = λ k. cond (eqb k r.made) n (r.owner k) in
      let old : (k : ℕ) → k < r.made → owner k ≡ r.owner k = λ k lt. ap (λ b. cond b n (r.owner k)) (ne_eqb k r.made (λ e. omega arith)) in
      let new : owner r.made ≡ n = ap (λ b. cond b n (r.owner r.made)) (eq-eqb r.made r.made refl) in
      let w : D = splitting v in let u : D = split_off v in let vs : List D = set s.views id w in
      let t : St = record { words = s.words; homes = s.homes; views = vs ++ u ∷ [] } in
      let joined : (j : ℕ) (d : D) → Each (Joined author r.log r.made r.owner j d.number) d.joined
      → Each (Joined author r.log (r.made + 1) owner j d.number) d.joined =
      λ j d. each_map (Joined author r.log r.made r.owner j d.number) (Joined author r.log (r.made + 1) owner j d.number)
      (λ p h. (old p.number h.1 ∙ h.0, (let lt = h.1 in omega arith), h.2, h.3, h.4)) d.joined in
      kept list author origin t record {
        log = r.log;
        made = r.made + 1;
        flag = r.flag;
        base = r.base;
        owner = owner;
        words = r.words;
        slot = ⊎_elim (λ (h : IsHome list origin s r.log r.base r.flag). inl record {
          free = h.free;
          state = h.state;
          there = h.there;
          entries = h.entries;
          based = h.based;
        })
            (λ (q : IsOut s ⊎ IsBeginning s r.log r.base). ⊎_elim
            (λ (a : IsOut s). inr (inl record {
              gone = a.gone;
              holder = some_longer (λ v. v.holds ≡ true) vs (u ∷ [])
                  (some_stays (λ v. v.holds ≡ true) s.views id v w at live (λ h. h) a.holder);
            }))
            (λ (b : IsBeginning s r.log r.base). absurd (begun (fit.based ∙ b.no_origin))) q) r.slot;
        first = record {
          seat = id;
          view = w;
          at = at_longer vs (u ∷ []) id w (here_set s.views id v w at);
          live = live;
          has = (zeroth, ap (λ (k : ℕ). k + 1) count);
        };
        named = each_map (λ e. author e < r.made) (λ e. author e < r.made + 1) (λ e h. omega arith) r.log r.named;
        alone = λ b. absurd (begun (fit.based ∙ b));
        each = λ j d there alive. ⊎_elim
            (λ (h : get_elem? vs j ≡ some d). seats_stay (λ j d. d.live ≡ true
            → Fits author r.log (r.made + 1) r.flag r.base owner j d) s.views id w
            (λ _. record {
              here = old v.number fit.below ∙ fit.here;
              below = (let b = fit.below in omega arith);
              begins = fit.begins;
              own = fit.own;
              joined = joined id v fit.joined;
              based = fit.based;
              holder = fit.holder;
            })
            (λ j d ne there alive. let f = r.each j d there alive in record {
              here = old d.number f.below ∙ f.here;
              below = (let b = f.below in omega arith);
              begins = f.begins;
              own = f.own;
              joined = joined j d f.joined;
              based = f.based;
              holder = f.holder;
            }) j d h alive)
            (λ (h : (u ≡ d) × (j ≡ length vs)). let e : j ≡ n = h.1 ∙ length-set s.views id w in
            subst (λ (x : ℕ × D). Fits author r.log (r.made + 1) r.flag r.base owner x.0 x.1) (λ i. (sym e i, h.0 i)) (record {
              here = ap owner count ∙ new;
              below = omega arith;
              begins = fit.begins;
              own = only_none author v.made r.made r.log r.named (omega arith);
              joined = tt;
              based = fit.based;
              holder = λ h. absurd (true≢false (sym h));
            }))
            (last_new vs u d j there);
      }

  module _ (id : ℕ) (v : D) (other : ℕ) (w : D) where
    pub joins : v.live ≡ true → v.holds ≡ false → w.live ≡ true → w.holds ≡ false → w.number ≢ 0
        → Joins Rule id v other w (joining v w) spent
    joins live free alive calm counts s k at apart there' = let r : Fit s = fitting list author origin s k in
        let there : get_elem? s.views other ≡ some w = sym (set_else s.views id other (joining v w) apart) ∙ there' in
        let fit = r.each id v at live in let fat = r.each other w there alive in let both : D = joining v w in
        let vs : List D = set s.views id both in
        let t : St = record { words = s.words; homes = s.homes; views = set vs other spent } in
        let owner : ℕ → ℕ = λ k. cond (eqb (r.owner k) other) id (r.owner k) in
        let kept_place : (k j : ℕ) → j ≢ other → r.owner k ≡ j
        → owner k ≡ j = λ k j ne e. ap (λ b. cond b id (r.owner k)) (ne_eqb (r.owner k) other (λ q. ne (sym e ∙ q))) ∙ e in
        let moved : (k : ℕ) → r.owner k ≡ other → owner k ≡ id = λ k e. ap (λ b. cond b id (r.owner k)) (eq-eqb (r.owner k) other e) in
        let un : id ≢ other = λ e. apart (sym e) in
        let apart_numbers : (k : ℕ) → r.owner k ≡ other → k ≢ v.number = λ k e q. un (sym fit.here ∙ (ap r.owner (sym q) ∙ e)) in
        let ours = each_map (Joined author r.log r.made r.owner id v.number) (Joined author r.log r.made owner id v.number)
        (λ p h. (kept_place p.number id un h.0, h.1, h.2, h.3, h.4)) v.joined fit.joined in
        let theirs = each_map (Joined author r.log r.made r.owner other w.number) (Joined author r.log r.made owner id v.number)
        (λ p h. (moved p.number h.0, h.1, apart_numbers p.number h.0, h.3, h.4)) w.joined fat.joined in
        kept list author origin t record {
          log = r.log;
          made = r.made;
          flag = r.flag;
          base = r.base;
          owner = owner;
          words = r.words;
          slot = ⊎_elim (λ (h : IsHome list origin s r.log r.base r.flag). inl record {
            free = h.free;
            state = h.state;
            there = h.there;
            entries = h.entries;
            based = h.based;
          })
              (λ (q : IsOut s ⊎ IsBeginning s r.log r.base). ⊎_elim
              (λ (a : IsOut s). inr (inl record {
                gone = a.gone;
                holder = some_other (λ v. v.holds ≡ true) vs other w spent there' (λ h. true≢false (sym h ∙ calm))
                    (some_stays (λ v. v.holds ≡ true) s.views id v both at live (λ h. h) a.holder);
              }))
              (λ (b : IsBeginning s r.log r.base). absurd (apart (one_place s.views other id w v (r.alone b.no_origin).0 there at))) q)
              r.slot;
          first = some_other (λ v. (v.number ≡ 0) × (v.made ≡ r.made)) vs other w spent there' (λ h. counts h.0)
              (some_stays (λ v. (v.number ≡ 0) × (v.made ≡ r.made)) s.views id v both at live (λ h. h) r.first);
          named = r.named;
          alone = λ b. absurd (apart (one_place s.views other id w v (r.alone b).0 there at));
          each = seats_stay (λ j d. d.live ≡ true → Fits author r.log r.made r.flag r.base owner j d) vs other spent
              (λ h. absurd (true≢false (sym h)))
              (λ j d ne e. seats_stay (λ j d. j ≢ other → d.live ≡ true → Fits author r.log r.made r.flag r.base owner j d) s.views id both
              (λ _ _. record {
                here = kept_place v.number id un fit.here;
                below = fit.below;
                begins = longer_begins v.seen w.seen r.log fit.begins fat.begins;
                own = fit.own;
                joined = (
                  (moved w.number fat.here, fat.below, apart_numbers w.number fat.here, fat.own, fat.begins),
                  each_append (Joined author r.log r.made owner id v.number) v.joined w.joined ours theirs,
                );
                based = fit.based;
                holder = λ h. absurd (true≢false (sym h ∙ free));
              })
              (λ j d not e' ne' lives. let f = r.each j d e' lives in record {
                here = kept_place d.number j ne' f.here;
                below = f.below;
                begins = f.begins;
                own = f.own;
                joined = each_map (Joined author r.log r.made r.owner j d.number) (Joined author r.log r.made owner j d.number)
                    (λ p h. (kept_place p.number j ne' h.0, h.1, h.2, h.3, h.4)) d.joined f.joined;
                based = f.based;
                holder = f.holder;
              }) j d e ne);
        }
