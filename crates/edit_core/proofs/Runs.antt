-- A Cancel that is under way.
use Rattle.std.proofs.Common.{◌≡◌, ℕ, zero, suc, ◌+◌, ◌<◌, ◌≤◌, nat_eq, List, [], ◌∷◌, ◌++◌, map, length, drop, true, not, if◌then◌else◌, Some, None, refl, sym, ap, ◌∙◌, arith, append_assoc, append-nil, slice_index_or}
use Rattle.line_theory.specs.Lists.{has, missing_in}
use Rattle.line_theory.specs.Lines.{Line, ids}
use Rattle.line_theory.specs.Edits.{Edited as Change, changed, zone_open, unknown, outcome, removed, lost, none_left, skipped, put_edit, cancel_step, cancelled}
use Rattle.line_theory.proofs.Lists.{left_true, right_true, test_same}
use Rattle.edit_core.specs.declared.edit.Edited.{Edited}
use Rattle.edit_core.specs.declared.removal.Removal.{Removal}
use Rattle.edit_core.specs.declared.removal.Removal.TheVariants.{Unknown, Refused, Removed}
use Rattle.edit_core.specs.Told.{told_outcome, line_after}
use Rattle.edit_core.specs.Cancels.{as_removal, end_of}

-- ---- nothing is lost

missing_none : (new a : List ℕ) → ((n : ℕ) → has n a ≡ true → has n new ≡ true) → missing_in new a ≡ []
missing_none new [] f = refl
missing_none new (x ∷ a) f =
    ap (λ t. if not t then x ∷ missing_in new a else missing_in new a) (f x (left_true (nat_eq x x) (has x a) (test_same x)))
    ∙ missing_none new a (λ n h. f n (right_true (nat_eq n x) (has n a) h))

pub lost_none : (d : Line) → lost d d ≡ []
lost_none d = missing_none (ids d) (ids d) (λ n h. h)

pub nothing_lost : (g : List ℕ) (d : Line) → g ≡ g ++ lost d d
nothing_lost g d = sym (append-nil g) ∙ ap (λ z. g ++ z) (sym (lost_none d))

-- ---- the run

-- of these ids so many were taken: what is left to do makes the whole of what was done
pub record Running (list : List ℕ) (k : ℕ) (d0 d : Line) (e0 e : List Edited) (g0 g : List ℕ) (t : ℕ) : Type 0 where
  pub line : (cancelled list d0).line ≡ (cancelled (drop k list) d).line
  pub edits : e0 ++ map told_outcome (cancelled list d0).edits ≡ e ++ map told_outcome (cancelled (drop k list) d).edits
  pub gone : g0 ++ (cancelled list d0).gone ≡ g ++ (cancelled (drop k list) d).gone
  pub treated : (cancelled list d0).treated ≡ t + (cancelled (drop k list) d).treated
  pub stopped : (cancelled list d0).stopped ≡ (cancelled (drop k list) d).stopped

dropped_next : (list : List ℕ) (k n x : ℕ) → n ≡ suc k → k < length list → x ≡ slice_index_or list k 0 → drop k list ≡ x ∷ drop n list
dropped_next [] k n x e h g = absurd (omega arith)
dropped_next (y ∷ ys) zero n x e h g = ap (λ z. z ∷ ys) (sym g) ∙ ap (λ z. x ∷ drop z (y ∷ ys)) (sym e)
dropped_next (y ∷ ys) (suc k) n x e h g = dropped_next ys k (suc k) x refl (omega arith) g ∙ ap (λ z. x ∷ drop z (y ∷ ys)) (sym e)

dropped_last : (list : List ℕ) (k : ℕ) → length list ≤ k → drop k list ≡ []
dropped_last [] zero h = refl
dropped_last [] (suc k) h = refl
dropped_last (y ∷ ys) zero h = absurd (omega arith)
dropped_last (y ∷ ys) (suc k) h = dropped_last ys k (omega arith)

unknown_change : (ch : Change) → as_removal ch ≡ Unknown → ch ≡ unknown
unknown_change unknown h = refl
unknown_change (changed d) h = absurd (cc)
unknown_change (zone_open c) h = absurd (cc)

refused_change : (ch : Change) (s : ℕ) → as_removal ch ≡ Refused s → ch ≡ zone_open s
refused_change unknown s h = absurd (cc)
refused_change (changed d) s h = absurd (cc)
refused_change (zone_open c) s h = let q : c ≡ s = cc in ap zone_open q

removed_change : (ch : Change) (d : Line) (v : Edited) → as_removal ch ≡ Removed v → (ch ≡ changed (line_after ch d)) ×
    (told_outcome (outcome (line_after ch d)) ≡ v)
removed_change unknown d v h = absurd (cc)
removed_change (zone_open c) d v h = absurd (cc)
removed_change (changed e) d v h = (refl, cc)

module _ {list : List ℕ} {k : ℕ} {d0 d : Line} {e0 e : List Edited} {g0 g : List ℕ} {t : ℕ} (r : Running list k d0 d e0 e g0 g t) where
  module _ (n x : ℕ) (u : n ≡ suc k) (h : k < length list) (a : x ≡ slice_index_or list k 0) where
    next : cancelled (drop k list) d ≡ cancel_step x d (removed x d) (cancelled (drop n list))
    next = ap (λ z. cancelled z d) (dropped_next list k n x u h a)

    -- an id that isn't there
    pub running_skip : (w : Removal) → w ≡ as_removal (removed x d) → w ≡ Unknown → (y : Line) → y ≡ line_after (removed x d) d
        → (q : List ℕ) → q ≡ g ++ lost d y → Running list n d0 y e0 e g0 q (t + 1)
    running_skip w m v y l q p =
        let c : removed x d ≡ unknown = unknown_change (removed x d) (sym m ∙ v) in
        let s : cancelled (drop k list) d ≡ skipped (cancelled (drop n list) y) = next ∙
        (ap (λ z. cancel_step x d z (cancelled (drop n list))) c ∙ ap (λ z. skipped (cancelled (drop n list) z))
        (sym (l ∙ ap (λ z. line_after z d) c))) in
        record {
          line = r.line ∙ ap (λ z. z.line) s;
          edits = r.edits ∙ ap (λ z. e ++ map told_outcome z.edits) s;
          gone = r.gone ∙ (ap (λ z. g ++ z.gone) s ∙ ap (λ z. z ++ (cancelled (drop n list) y).gone) (nothing_lost g d ∙
              (ap (λ z. g ++ lost d z) (sym (l ∙ ap (λ z. line_after z d) c)) ∙ sym p)));
          treated = r.treated ∙ (ap (λ z. t + z.treated) s ∙ more t (cancelled (drop n list) y).treated);
          stopped = r.stopped ∙ ap (λ z. z.stopped) s;
        }
      where
        more : (p q : ℕ) → p + suc q ≡ p + 1 + q
        more p q = omega arith

    -- an id that goes
    pub running_more : (w : Removal) → w ≡ as_removal (removed x d) → (v : Edited) → w ≡ Removed v → (y : Line) →
        y ≡ line_after (removed x d) d → (q : List ℕ) → q ≡ g ++ lost d y
        → (b : List Edited) → b ≡ e ++ (v ∷ []) → Running list n d0 y e0 b g0 q (t + 1)
    running_more w m v f y l q p b o =
        let c = removed_change (removed x d) d v (sym m ∙ f) in
        let ch : removed x d ≡ changed y = c.0 ∙ ap changed (sym l) in
        let tv : told_outcome (outcome y) ≡ v = ap (λ z. told_outcome (outcome z)) l ∙ c.1 in
        let s : cancelled (drop k list) d ≡ put_edit (outcome y) (lost d y) (cancelled (drop n list) y) = next ∙
        ap (λ z. cancel_step x d z (cancelled (drop n list))) ch in
        record {
          line = r.line ∙ ap (λ z. z.line) s;
          edits = r.edits ∙ (ap (λ z. e ++ map told_outcome z.edits) s ∙
              (ap (λ z. e ++ (z ∷ map told_outcome (cancelled (drop n list) y).edits)) tv
              ∙ (sym (append_assoc e (v ∷ []) (map told_outcome (cancelled (drop n list) y).edits)) ∙
              ap (λ z. z ++ map told_outcome (cancelled (drop n list) y).edits) (sym o))));
          gone = r.gone ∙ (ap (λ z. g ++ z.gone) s ∙ (sym (append_assoc g (lost d y) (cancelled (drop n list) y).gone) ∙
              ap (λ z. z ++ (cancelled (drop n list) y).gone) (sym p)));
          treated = r.treated ∙ (ap (λ z. t + z.treated) s ∙ more t (cancelled (drop n list) y).treated);
          stopped = r.stopped ∙ ap (λ z. z.stopped) s;
        }
      where
        more : (p q : ℕ) → p + suc q ≡ p + 1 + q
        more p q = omega arith

    -- an id that ends the Cancel
    pub running_stop : (w : Removal) → w ≡ as_removal (removed x d) → (c : ℕ) → w ≡ Refused c → (y : Line) →
        y ≡ line_after (removed x d) d → (q : List ℕ) → q ≡ g ++ lost d y
        → (y ≡ (cancelled list d0).line) × ((e ≡ e0 ++ map told_outcome (cancelled list d0).edits) ×
        ((q ≡ g0 ++ (cancelled list d0).gone) × (record { treated = t; stopped = Some (x, c) } ≡ end_of (cancelled list d0))))
    running_stop w m c v y l q p =
        let ch : removed x d ≡ zone_open c = refused_change (removed x d) c (sym m ∙ v) in
        let same : y ≡ d = l ∙ ap (λ z. line_after z d) ch in
        let s : cancelled (drop k list) d ≡ none_left d (Some (x, c)) = next ∙ ap (λ z. cancel_step x d z (cancelled (drop n list))) ch in
        let tr : t ≡ (cancelled list d0).treated = sym (r.treated ∙ (ap (λ z. t + z.treated) s ∙ none t)) in
        let st : Some (x, c) ≡ (cancelled list d0).stopped = sym (r.stopped ∙ ap (λ z. z.stopped) s) in (
          same ∙ sym (r.line ∙ ap (λ z. z.line) s),
          (
            sym (r.edits ∙ (ap (λ z. e ++ map told_outcome z.edits) s ∙ append-nil e)),
            (
              p ∙ (ap (λ z. g ++ lost d z) same ∙ (sym (nothing_lost g d) ∙ sym (r.gone ∙ (ap (λ z. g ++ z.gone) s ∙ append-nil g)))),
              λ i. record { treated = tr i; stopped = st i },
            ),
          ),
        )
      where
        none : (n : ℕ) → n + 0 ≡ n
        none n = omega arith

  -- all were taken
  pub running_end : length list ≤ k → (d ≡ (cancelled list d0).line) × ((e ≡ e0 ++ map told_outcome (cancelled list d0).edits) ×
      ((g ≡ g0 ++ (cancelled list d0).gone) × (record { treated = t; stopped = None } ≡ end_of (cancelled list d0))))
  running_end h =
      let s : cancelled (drop k list) d ≡ none_left d None = ap (λ z. cancelled z d) (dropped_last list k h) in
      let tr : t ≡ (cancelled list d0).treated = sym (r.treated ∙ (ap (λ z. t + z.treated) s ∙ none t)) in
      let st : None ≡ (cancelled list d0).stopped = sym (r.stopped ∙ ap (λ z. z.stopped) s) in (
        sym (r.line ∙ ap (λ z. z.line) s),
        (
          sym (r.edits ∙ (ap (λ z. e ++ map told_outcome z.edits) s ∙ append-nil e)),
          (sym (r.gone ∙ (ap (λ z. g ++ z.gone) s ∙ append-nil g)), λ i. record { treated = tr i; stopped = st i }),
        ),
      )
    where
      none : (n : ℕ) → n + 0 ≡ n
      none n = omega arith
