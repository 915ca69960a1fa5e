-- Each kind of step keeps the rule, whatever the other seats have done before it.
use Rattle.std.proofs.Common.{◌≡◌, ◌≢◌, ◌⊎◌, ℕ, ◌+◌, ◌<◌, eqb, true, false, true≢false, List, [], ◌∷◌, ◌++◌, length, get_or, set}
use Rattle.std.proofs.Common.{length-append, length-set, sym, refl, ap, ◌∙◌, subst, inl, inr, ⊎_elim, arith, eq-eqb, ne_eqb, Option, Some}
use Rattle.std.proofs.Common.{None}
use mathlib.Core.Logic.{dite}
use mathlib.Core.Option.{none, some}
use native.Mathlib.Decide.{ℕ_discrete}
use lib.ListN.{get_elem?}
use prog.Atomic.{either}
use Rattle.atomic_table.specs.Table.{State, Me, step, keeps, takes, gives, put_back, rest, stepped, Allows}
use Rattle.std.proofs.lemmas.List.{append-nil}
use Rattle.std.proofs.lemmas.Option.{none-some}
use Rattle.doc_lock.specs.declared.view.View.{View}
use Rattle.base_core.specs.Lists.{Begins}
use Rattle.doc_lock.specs.Lists.{Each, only, Adds}
use Rattle.doc_lock.specs.Views.{taking, taken, after_try, holding, tried, publishing, published, freeing, freed, after_look, looked}
use Rattle.doc_lock.specs.Kept.{EachLive, SomeLive, IsHome, IsOut, IsBeginning, Kept}
use Rattle.doc_lock.proofs.Lists.{begins_same, begins_longer, each_map, each_append, adds_others}
use Rattle.doc_lock.proofs.Places.{seats_stay, one_place, here_set, same_view, some_stays}
use Rattle.doc_lock.proofs.Fitting.{Joined, Fits, Slot, Fitting, fitting, kept}

module _ {S E O : Type 0} (list : S → List E) (author : E → ℕ) (origin : S → O) where
  abbrev D : Type 0
  D = View E O

  abbrev St : Type 0
  St = State (Option S) D

  abbrev M : Type 0
  M = Me (Option S) D

  abbrev Rule : St → Type 0
  Rule = Kept list author origin

  abbrev Fit : St → Type 0
  Fit = Fitting list author origin

  abbrev Place : St → List E → Option O → ℕ → Type 0
  Place = Slot list author origin

  abbrev flag_of : St → ℕ
  flag_of s = get_or s.words 0 0

  -- the state in hand
  abbrev in_hand : S → List (ℕ × Option S) → S
  in_hand d [] = d
  in_hand d (p ∷ ps) = elim p.1 [ Some x ↦ x | None ↦ d ]

  -- ---- what the rule tells

  flag_is : (s : St) (r : Fit s) → flag_of s ≡ r.flag
  flag_is s r = ap (λ ws. get_or ws 0 0) r.words

  by_slot : (P : Type 0) (s : St) (r : Fit s) → (IsHome list origin s r.log r.base r.flag → P) → (IsOut s → P)
      → (IsBeginning s r.log r.base → P) → P
  by_slot P s r home out beginning = ⊎_elim home (λ (t : IsOut s ⊎ IsBeginning s r.log r.base). ⊎_elim out beginning t) r.slot

  -- the state is at home where the flag is 0
  at_home : (s : St) (r : Fit s) → r.flag ≡ 0 → IsHome list origin s r.log r.base r.flag
  at_home s r z = by_slot (IsHome list origin s r.log r.base r.flag) s r (λ h. h)
      (λ a. let h = a.holder in absurd (omega (arith, ((r.each h.seat h.view h.at h.live).holder h.has).0)))
      (λ b. let p = (r.alone b.no_origin).1 in absurd (omega arith))

  -- two that are live and have one number are one
  pub one_seat : {s : St} (r : Fit s) {i j : ℕ} {v w : D} → get_elem? s.views i ≡ some v → v.live ≡ true → get_elem? s.views j ≡ some w
      → w.live ≡ true → v.number ≡ w.number → i ≡ j
  one_seat r {i} {j} {v} {w} a la b lb same = sym (r.each i v a la).here ∙ (ap r.owner same ∙ (r.each j w b lb).here)

  -- seat 0 tells how many numbers were made
  pub counted : (s : St) (r : Fit s) (id : ℕ) (v : D) → get_elem? s.views id ≡ some v → v.live ≡ true → v.number ≡ 0 → v.made ≡ r.made
  counted s r id v at live zeroth = let f = r.first in
      ap (λ (d : D). d.made) (same_view s.views id f.seat v f.view at f.at
      (one_seat r at live f.at f.live (zeroth ∙ sym f.has.0))) ∙ f.has.1

  -- no other seat holds beside one that does
  no_other : {s : St} (r : Fit s) {id : ℕ} {v : D} → get_elem? s.views id ≡ some v → v.live ≡ true → v.holds ≡ true → {j : ℕ} {d : D}
      → j ≢ id → get_elem? s.views j ≡ some d → d.live ≡ true → d.holds ≡ true → ⊥
  no_other r {id} {v} at live holds {j} {d} ne there alive h =
      ne (one_seat r there alive at live (let p = ((r.each j d there alive).holder h).0 in
      let q = ((r.each id v at live).holder holds).0 in omega arith))

  -- where a seat holds, the slot is out
  out_where_held : (s : St) (r : Fit s) (id : ℕ) (v : D) → get_elem? s.views id ≡ some v → v.live ≡ true → v.holds ≡ true → IsOut s
  out_where_held s r id v at live holds = by_slot (IsOut s) s r
      (λ h. let e = h.free in absurd (omega (arith, ((r.each id v at live).holder holds).0)))
      (λ a. a)
      (λ b. let q = b.waits in absurd (true≢false (sym holds
      ∙ (ap (λ (d : D). d.holds) (same_view s.views id q.seat v q.view at q.at
      (one_place s.views id q.seat v q.view (r.alone b.no_origin).0 at q.at)) ∙ q.has))))

  -- the same list, origin and numbers under another flag
  refit : {log : List E} {made flag : ℕ} (flag' : ℕ) {base : Option O} {owner : ℕ → ℕ} {seat : ℕ} {v : D}
      → Fits author log made flag base owner seat v → (v.holds ≡ true → (flag' ≡ v.number + 1) × (v.seen ≡ log))
      → Fits author log made flag' base owner seat v
  refit flag' f h =
      record { here = f.here; below = f.below; begins = f.begins; own = f.own; joined = f.joined; based = f.based; holder = h }

  -- one view changed from v to w, and list, origin and numbers are as they were
  record Moved (s : St) (r : Fit s) (t : St) (id flag : ℕ) (v w : D) : Type 0 where
    at : get_elem? s.views id ≡ some v
    live : w.live ≡ true
    number : w.number ≡ v.number
    made : w.made ≡ v.made
    words : t.words ≡ flag ∷ length r.log ∷ []
    views : t.views ≡ set s.views id w
    mine : Fits author r.log r.made flag r.base r.owner id w
    others : (j : ℕ) (d : D) → j ≢ id → get_elem? s.views j ≡ some d → d.live ≡ true → d.holds ≡ true → (flag ≡ d.number + 1)
        × (d.seen ≡ r.log)
    alone : r.base ≡ None → flag ≡ 1

  one_moved : (s : St) (r : Fit s) (t : St) (id flag : ℕ) {v : D} (w : D) → Moved s r t id flag v w → Place t r.log r.base flag → Rule t
  one_moved s r t id flag {v} w m slot = kept list author origin t record {
    log = r.log;
    made = r.made;
    flag = flag;
    base = r.base;
    owner = r.owner;
    words = m.words;
    slot = slot;
    first = subst (λ (vs : List D). SomeLive vs (λ v. (v.number ≡ 0) × (v.made ≡ r.made))) (sym m.views)
        (some_stays (λ v. (v.number ≡ 0) × (v.made ≡ r.made)) s.views id v w m.at m.live (λ h. (m.number ∙ h.0, m.made ∙ h.1)) r.first);
    named = r.named;
    alone = λ b. (ap length m.views ∙ (length-set s.views id w ∙ (r.alone b).0), m.alone b);
    each = subst (λ (vs : List D). EachLive vs (Fits author r.log r.made flag r.base r.owner)) (sym m.views)
        (seats_stay (λ j d. d.live ≡ true → Fits author r.log r.made flag r.base r.owner j d) s.views id w (λ _. m.mine)
        (λ j d ne at live. refit flag (r.each j d at live) (m.others j d ne at live)));
  }

  module _ (s t : St) (r : Fit s) (id : ℕ) (v w : D) where
    -- where a seat holds it still does, and the beginning goes on
    same_slot : get_elem? s.views id ≡ some v → w.live ≡ true
        → w.holds ≡ v.holds → t.homes ≡ s.homes → t.views ≡ set s.views id w → Place t r.log r.base r.flag
    same_slot at live on homes views = by_slot (Place t r.log r.base r.flag) s r
        (λ h. inl record { free = h.free; state = h.state; there = homes ∙ h.there; entries = h.entries; based = h.based })
        (λ a. inr (inl record {
          gone = homes ∙ a.gone;
          holder = subst (λ (vs : List D). SomeLive vs (λ v. v.holds ≡ true)) (sym views)
              (some_stays (λ v. v.holds ≡ true) s.views id v w at live (λ h. on ∙ h) a.holder);
        }))
        (λ b. inr (inr record {
          empty = homes ∙ b.empty;
          no_entry = b.no_entry;
          no_origin = b.no_origin;
          waits = subst (λ (vs : List D). SomeLive vs (λ v. v.holds ≡ false)) (sym views)
              (some_stays (λ v. v.holds ≡ false) s.views id v w at live (λ h. on ∙ h) b.waits);
        }))

  -- ---- seat 0 takes the empty slot

  pub takes_empty : (slots id : ℕ) (me : M) → me.0.live ≡ true → me.0.number ≡ 0 → me.0.seen ≡ [] → me.0.holds ≡ false → me.0.origin ≡ None
      → Allows Rule slots id me 0 (λ _. 1) (λ _. taken (step slots 0 1 0 none) me 1)
  takes_empty slots id me live zeroth unseen free none_yet s k _ at _ = let r : Fit s = fitting list author origin s k in
      let v : D = me.0 in let w : D = taking v in
      let fit = r.each id v at live in let no_base : r.base ≡ None = sym fit.based ∙ none_yet in let one = (r.alone no_base).0 in
      let t : St = stepped s 0 1 id me.1 w (takes 0 None) in
      let b : IsBeginning s r.log r.base = by_slot (IsBeginning s r.log r.base) s r
      (λ h. absurd (none-some (origin h.state) (sym no_base ∙ h.based)))
      (λ a. let h = a.holder in absurd (true≢false (sym h.has
      ∙ (ap (λ (d : D). d.holds) (same_view s.views h.seat id h.view v h.at at (one_place s.views h.seat id h.view v one h.at at))
      ∙ free))))
      (λ b. b) in (
        w,
        takes 0 None,
        ap (λ hs. get_elem? hs 0) b.empty,
        one_moved s r t id 1 w (record {
          at = at;
          live = live;
          number = refl;
          made = refl;
          words = ap (λ ws. set ws 0 1) r.words;
          views = refl;
          mine = record {
            here = fit.here;
            below = fit.below;
            begins = fit.begins;
            own = fit.own;
            joined = fit.joined;
            based = fit.based;
            holder = λ _. ((let z = zeroth in omega arith), unseen ∙ sym b.no_entry);
          };
          others = λ j d ne there alive h. absurd (ne (one_place s.views j id d v one there at));
          alone = λ _. refl;
        })
            (inr (inl record {
              gone = ap (λ hs. set hs 0 none) b.empty;
              holder = record { seat = id; view = w; at = here_set s.views id v w at; live = live; has = refl };
            })),
        refl,
      )

  -- ---- the flag is tried

  pub tries : (slots id : ℕ) (me : M) (new : ℕ) → me.0.live ≡ true → me.0.holds ≡ false → new ≡ me.0.number + 1
      → Allows Rule slots id me 0 (λ n. either (eqb n 0) new n) (tried list author origin (step slots 0 0 new none) me)
  tries slots id me new live free is s k _ at _ = let r : Fit s = fitting list author origin s k in
      let v : D = me.0 in let f : ℕ = flag_of s in let fit = r.each id v at live in
      let words : set s.words 0 (either (eqb f 0) new f) ≡ either (eqb r.flag 0) new r.flag ∷ length r.log ∷ [] =
      ap (λ ws. set ws 0 (either (eqb (get_or ws 0 0) 0) new (get_or ws 0 0))) r.words in
      dite (ℕ_discrete r.flag 0)
      (λ hit. let home = at_home s r hit in let x : S = home.state in let w : D = holding list v x f in
      let now : either (eqb r.flag 0) new r.flag ≡ new = ap (λ b. either b new r.flag) (eq-eqb r.flag 0 hit) in
      let t : St = stepped s 0 (either (eqb f 0) new f) id me.1 w (takes 0 (Some x)) in (
        w,
        takes 0 (Some x),
        ap (λ hs. get_elem? hs 0) home.there,
        one_moved s r t id new w (record {
          at = at;
          live = live;
          number = refl;
          made = refl;
          words = words ∙ ap (λ (k : ℕ). k ∷ length r.log ∷ []) now;
          views = refl;
          mine = record {
            here = fit.here;
            below = fit.below;
            begins = ([], sym home.entries ∙ sym (append-nil (list x)));
            own = fit.own;
            joined = fit.joined;
            based = fit.based;
            holder = λ _. (is, home.entries);
          };
          others = λ j d ne there alive holds. absurd (omega (arith, ((r.each j d there alive).holder holds).0));
          alone = λ b. absurd (none-some (origin x) (sym b ∙ home.based));
        })
            (inr (inl record {
              gone = ap (λ hs. set hs 0 none) home.there;
              holder = record { seat = id; view = w; at = here_set s.views id v w at; live = live; has = refl };
            })),
        (
          (λ _. (
            x,
            record {
              begins = subst (Begins v.seen) (sym home.entries) fit.begins;
              own = ap (only author v.number) home.entries ∙ fit.own;
              joined = each_map (Joined author r.log r.made r.owner id v.number) (λ p. Begins p.seen (list x)
                  × (only author p.number (list x) ≡ p.mine)) (λ p h. (
                    subst (Begins p.seen) (sym home.entries) h.4,
                    ap (only author p.number) home.entries ∙ h.3,
                  )) v.joined fit.joined;
              based = fit.based ∙ home.based;
            },
            refl,
          )),
          λ miss. absurd (miss (flag_is s r ∙ hit)),
        ),
      ))
      (λ miss. let w : D = after_try v f in
      let now : either (eqb r.flag 0) new r.flag ≡ r.flag = ap (λ b. either b new r.flag) (ne_eqb r.flag 0 miss) in
      let t : St = stepped s 0 (either (eqb f 0) new f) id me.1 w keeps in (
        w,
        keeps,
        tt,
        one_moved s r t id r.flag w (record {
          at = at;
          live = live;
          number = refl;
          made = refl;
          words = words ∙ ap (λ (k : ℕ). k ∷ length r.log ∷ []) now;
          views = refl;
          mine = record {
            here = fit.here;
            below = fit.below;
            begins = fit.begins;
            own = fit.own;
            joined = fit.joined;
            based = fit.based;
            holder = fit.holder;
          };
          others = λ j d ne there alive holds. (r.each j d there alive).holder holds;
          alone = λ b. (r.alone b).1;
        })
            (same_slot s t r id v w at live refl refl refl),
        ((λ hit. absurd (miss (sym (flag_is s r) ∙ hit))), λ _. refl),
      ))

  -- ---- the length is looked at

  pub looks : (slots id : ℕ) (me : M) → me.0.live ≡ true → Allows Rule slots id me 1 (λ n. n) (looked (step slots 1 0 0 none) me)
  looks slots id me live s k _ at _ = let r : Fit s = fitting list author origin s k in let v : D = me.0 in
      let f : ℕ = get_or s.words 1 0 in let fit = r.each id v at live in let w : D = after_look v f in
      let long : f ≡ length r.log = ap (λ ws. get_or ws 1 0) r.words in
      let t : St = stepped s 1 f id me.1 w keeps in (
        w,
        keeps,
        tt,
        one_moved s r t id r.flag w (record {
          at = at;
          live = live;
          number = refl;
          made = refl;
          words = ap (λ ws. set ws 1 (get_or ws 1 0)) r.words;
          views = refl;
          mine = record {
            here = fit.here;
            below = fit.below;
            begins = fit.begins;
            own = fit.own;
            joined = fit.joined;
            based = fit.based;
            holder = fit.holder;
          };
          others = λ j d ne there alive holds. (r.each j d there alive).holder holds;
          alone = λ b. (r.alone b).1;
        })
            (same_slot s t r id v w at live refl refl refl),
        (refl, let e = fit.begins.1 in omega (arith, length-append v.seen fit.begins.0, ap length e)),
      )

  -- ---- the length is published

  module _ (slots id : ℕ) (me : M) where
    pub publishes : (x : S) (n : ℕ) → me.0.live ≡ true → me.0.holds ≡ true → me.1 ≡ (0, Some x) ∷ []
        → Adds author me.0.number me.0.seen (list x) → n ≡ length (list x)
        → Allows Rule slots id me 1 (λ _. n) (λ _. published list author (step slots 1 n 0 none) me n)
    publishes x n live holds carried adds is s k _ at _ = let r : Fit s = fitting list author origin s k in
        let v : D = me.0 in
        let fit = r.each id v at live in let w : D = publishing list author v x in
        let a = out_where_held s r id v at live holds in let mine = fit.holder holds in let log : List E = list x in
        let more : log ≡ r.log ++ adds.0 = adds.1 ∙ ap (λ l. l ++ adds.0) mine.1 in
        let grown : Adds author v.number r.log log = (adds.0, more, adds.2) in
        let same : (k : ℕ) → k ≢ v.number → only author k log ≡ only author k r.log =
        λ k ne. adds_others author k v.number r.log log grown ne in
        let t : St = stepped s 1 n id me.1 w keeps in (
          w,
          keeps,
          tt,
          kept list author origin t record {
            log = log;
            made = r.made;
            flag = r.flag;
            base = r.base;
            owner = r.owner;
            words = ap (λ ws. set ws 1 n) r.words ∙ ap (λ (k : ℕ). r.flag ∷ k ∷ []) is;
            slot = inr (inl record { gone = a.gone; holder = some_stays (λ v. v.holds ≡ true) s.views id v w at live (λ h. h) a.holder });
            first = some_stays (λ v. (v.number ≡ 0) × (v.made ≡ r.made)) s.views id v w at live (λ h. h) r.first;
            named = subst (Each (λ e. author e < r.made)) (sym more)
                (each_append (λ e. author e < r.made) r.log adds.0 r.named
                (each_map (λ e. author e ≡ v.number) (λ e. author e < r.made) (λ e h. let b = fit.below in omega arith) adds.0 adds.2));
            alone = λ b. (length-set s.views id w ∙ (r.alone b).0, (r.alone b).1);
            each = seats_stay (λ j d. d.live ≡ true → Fits author log r.made r.flag r.base r.owner j d) s.views id w
                (λ _. record {
                  here = fit.here;
                  below = fit.below;
                  begins = begins_same log;
                  own = refl;
                  joined = each_map (Joined author r.log r.made r.owner id v.number) (Joined author log r.made r.owner id v.number)
                      (λ p h. (h.0, h.1, h.2, same p.number h.2 ∙ h.3, begins_longer p.seen r.log log h.4 (adds.0, more))) v.joined
                      fit.joined;
                  based = fit.based;
                  holder = λ _. (mine.0, refl);
                })
                (λ j d ne there alive. let f = r.each j d there alive in
                let apart : d.number ≢ v.number = λ e. ne (one_seat r there alive at live e) in record {
                  here = f.here;
                  below = f.below;
                  begins = begins_longer d.seen r.log log f.begins (adds.0, more);
                  own = same d.number apart ∙ f.own;
                  joined = each_map (Joined author r.log r.made r.owner j d.number) (Joined author log r.made r.owner j d.number)
                      (λ p h. (
                        h.0,
                        h.1,
                        h.2,
                        same p.number (λ e. ne (sym h.0 ∙ (ap r.owner e ∙ fit.here)))
                            ∙ h.3,
                        begins_longer p.seen r.log log h.4 (adds.0, more),
                      )) d.joined f.joined;
                  based = f.based;
                  holder = λ h. absurd (no_other r at live holds ne there alive h);
                });
          },
          (λ x' carried'. let e : x ≡ x' = ap (in_hand x) (sym carried ∙ carried') in
              ap (λ (y : S). let z : M = (publishing list author v y, me.1) in z) e),
        )

  -- ---- the flag is freed, and the slot goes home

  module _ (slots id : ℕ) (me : M) where
    pub frees : (x : S) → me.0.live ≡ true → me.0.holds ≡ true → me.1 ≡ (0, Some x) ∷ [] → me.0.seen ≡ list x
        → (me.0.origin ≡ Some (origin x)) ⊎ (me.0.origin ≡ None)
        → Allows Rule slots id me 0 (λ _. 0) (λ _. freed origin (step slots 0 0 0 none) me 0)
    frees x live holds carried seen from s k _ at _ = let r : Fit s = fitting list author origin s k in let v : D = me.0 in
        let fit = r.each id v at live in let w : D = freeing origin v x in
        let a = out_where_held s r id v at live holds in let mine = fit.holder holds in let base : Option O = Some (origin x) in
        let others : (j : ℕ) (d : D) → j ≢ id → get_elem? s.views j ≡ some d → r.base ≡ base = λ j d ne there.
        ⊎_elim (λ h. sym fit.based ∙ h)
        (λ h. absurd (ne (one_place s.views j id d v (r.alone (sym fit.based ∙ h)).0 there at))) from in
        let t : St = stepped s 0 0 id me.1 w gives in (
          w,
          gives,
          tt,
          kept list author origin t record {
            log = r.log;
            made = r.made;
            flag = 0;
            base = base;
            owner = r.owner;
            words = ap (λ ws. set ws 0 0) r.words;
            slot = inl record {
              free = refl;
              state = x;
              there = ap (put_back s.homes) carried ∙ ap (λ hs. set hs 0 (some (Some x))) a.gone;
              entries = sym seen ∙ mine.1;
              based = refl;
            };
            first = some_stays (λ v. (v.number ≡ 0) × (v.made ≡ r.made)) s.views id v w at live (λ h. h) r.first;
            named = r.named;
            alone = λ b. absurd (none-some (origin x) (sym b));
            each = seats_stay (λ j d. d.live ≡ true → Fits author r.log r.made 0 base r.owner j d) s.views id w
                (λ _. record {
                  here = fit.here;
                  below = fit.below;
                  begins = fit.begins;
                  own = fit.own;
                  joined = fit.joined;
                  based = refl;
                  holder = λ h. absurd (true≢false (sym h));
                })
                (λ j d ne there alive. let f = r.each j d there alive in record {
                  here = f.here;
                  below = f.below;
                  begins = f.begins;
                  own = f.own;
                  joined = f.joined;
                  based = f.based ∙ others j d ne there;
                  holder = λ h. absurd (no_other r at live holds ne there alive h);
                });
          },
          (λ x' carried'. let e : x ≡ x' = ap (in_hand x) (sym carried ∙ carried') in
              λ i. let z : M = (freeing origin v (e i), rest (carried i)) in z),
        )
