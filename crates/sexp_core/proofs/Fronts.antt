-- How a Reader goes on.
use Rattle.std.proofs.Common.{◌≡◌, ℕ, ◌+◌, ◌-◌, ◌<◌, ◌≤◌, ◌^◌, zero, suc, List, [], ◌∷◌, ◌++◌, length, drop, Bool, true, false, Some}
use Rattle.std.proofs.Common.{None, refl, sym, ap, ◌∙◌, subst, arith, add-zero, length-drop}
use Rattle.std.specs.Prelude.{if◌then◌else◌, Option, option_map}
use Rattle.std.specs.List.{All}
use Rattle.std.proofs.lemmas.List.{append-nil, drop_all, drop-drop}
use Rattle.sexp_theory.specs.Values.{atom, nesting, HasBytes}
use Rattle.sexp_theory.specs.Written.{IsOfBytes}
use Rattle.sexp_theory.specs.Places.{Found, nothing, last_run, unfinished, value, most_lists}
use Rattle.sexp_theory.specs.Machine.{State, start, found_from, at_end, is_outer_run}
use Rattle.sexp_theory.specs.Items.{Item, Unread, Taken, from_offset, without_gap, first_of, next_item, taken_of, behind_rest_of_line}
use Rattle.sexp_theory.specs.Items.{value_item, bad_item, end_of, end_up_to, end_of_found}
use Rattle.sexp_theory.specs.declared.input.BadKind.{BadKind}
use Rattle.sexp_theory.specs.declared.input.InputEnd.TheVariants.{Clean, Truncated}
use Rattle.sexp_core.specs.Sexp.{meaning}
use Rattle.sexp_core.specs.State.{state_of}
use Rattle.sexp_core.specs.Readers.{Reading}
use Rattle.sexp_core.specs.Progress.{unread_of, unread_from, BeginsItem, IsFrontGap, Finds, IsFront, Scans}
use Rattle.sexp_core.specs.declared.sexp.Sexp.{Sexp}
use Rattle.sexp_core.specs.declared.machine.Machine.{Machine}
use Rattle.sexp_core.specs.declared.scan.Scanned.{Scanned}
use Rattle.sexp_core.specs.declared.scan.Scanned.TheVariants as scanned
use Rattle.sexp_core.specs.declared.scan.Gap.{Gap}
use Rattle.sexp_core.specs.declared.scan.Front.{Front}
use Rattle.sexp_theory.proofs.Depths.{item_of_bytes, item_shallow}
use Rattle.sexp_core.proofs.Gaps.{at_item-same, first_of-without_gap, first_of-item}

module _ (limit : ℕ) (bytes : List ℕ) where
  -- nothing was looked at
  pub front-unseen : (begin at : ℕ) (skipping : Bool) (m : Machine) → begin ≤ length bytes
      → at + (length bytes - begin) ≤ 2 ^ 63
      → state_of m ≡ start → IsFront limit bytes (record { start = begin; at = at; skipping = skipping; seen = 0 }) m
  front-unseen begin at skipping m w r e = record {
    within = omega arith;
    room = r;
    clean = λ _. e;
    begun = λ lt. absurd (omega arith);
    read = λ rest. ap (λ s. found_from limit at 0 s (drop begin bytes ++ rest)) (sym e);
  }

-- ---- what stands first

-- where an item begins, nothing stands in front of it
gap-none : (bytes : List ℕ) (skipping : Bool) (gap : Gap) → IsFrontGap bytes skipping gap → BeginsItem skipping bytes → gap.len ≡ 0
gap-none bytes skipping gap g b =
    let e : 0 ≡ 0 + gap.len = ap (λ u. u.at) (sym (at_item-same 0 skipping bytes b) ∙ g.gone 0) in
    omega arith

-- the item behind the gap is read on in the machine's state
pub record IsReady (limit : ℕ) (bytes : List ℕ) (front : Front) (m : Machine) (gap : Gap) : Type 0 where
  pub within : front.seen ≤ length (drop gap.len (drop front.start bytes))
  pub clean : front.seen ≡ 0 → state_of m ≡ start
  pub some : 0 < front.seen → 0 < length (drop gap.len (drop front.start bytes))
  pub read : (rest : List ℕ)
      → found_from limit (front.at + gap.len) 0 start (drop gap.len (drop front.start bytes) ++ rest)
      ≡ found_from limit (front.at + gap.len) front.seen (state_of m) (drop front.seen (drop gap.len (drop front.start bytes)) ++ rest)

ready-begun : (limit : ℕ) (bytes : List ℕ) (front : Front) (m : Machine) (gap : Gap) → IsFront limit bytes front m → gap.len ≡ 0
    → IsReady limit bytes front m gap
ready-begun limit bytes front m gap f e =
    let P : ℕ → Type 0 = λ l. (rest : List ℕ) → found_from limit (front.at + l) 0 start (drop l (drop front.start bytes) ++ rest)
    ≡ found_from limit (front.at + l) front.seen (state_of m) (drop front.seen (drop l (drop front.start bytes)) ++ rest) in
    let Q : ℕ → Type 0 = λ a. (rest : List ℕ) → found_from limit a 0 start (drop front.start bytes ++ rest)
    ≡ found_from limit a front.seen (state_of m) (drop front.seen (drop front.start bytes) ++ rest) in
    let w : front.seen ≤ length (drop gap.len (drop front.start bytes)) =
    omega (arith, f.within, length-drop gap.len (drop front.start bytes), length-drop front.start bytes) in
    record { within = w; clean = f.clean; some = λ lt. omega arith; read = subst P (sym e) (subst Q (sym (add-zero front.at)) f.read) }

ready-fresh : (limit : ℕ) (bytes : List ℕ) (front : Front) (m : Machine) (gap : Gap) → IsFront limit bytes front m → front.seen ≡ 0
    → IsReady limit bytes front m gap
ready-fresh limit bytes front m gap f e =
    let item : List ℕ = drop gap.len (drop front.start bytes) in
    record {
      within = omega arith;
      clean = f.clean;
      some = λ lt. absurd (omega arith);
      read = λ rest. ap (λ s. found_from limit (front.at + gap.len) 0 s (item ++ rest)) (sym (f.clean e))
          ∙ ap (λ k. found_from limit (front.at + gap.len) k (state_of m) (drop k item ++ rest)) (sym e);
    }

module _ (limit : ℕ) (bytes : List ℕ) (front : Front) (m : Machine) (gap : Gap) where
  ready-by : (k : ℕ) → front.seen ≡ k → IsFront limit bytes front m
      → IsFrontGap (drop front.start bytes) front.skipping gap → IsReady limit bytes front m gap
  ready-by zero e f g = ready-fresh limit bytes front m gap f e
  ready-by (suc k) e f g =
      ready-begun limit bytes front m gap f (gap-none (drop front.start bytes) front.skipping gap g (f.begun (omega arith)))

pub ready : (limit : ℕ) (bytes : List ℕ) (front : Front) (m : Machine) (gap : Gap) → IsFront limit bytes front m
    → IsFrontGap (drop front.start bytes) front.skipping gap → IsReady limit bytes front m gap
ready limit bytes front m gap f g = ready-by limit bytes front m gap front.seen refl f g

-- what stands first is what the machine's state finds
pub first_of-ready : (limit : ℕ) (bytes : List ℕ) (front : Front) (m : Machine) (gap : Gap) → IsReady limit bytes front m gap
    → IsFrontGap (drop front.start bytes) front.skipping gap → 0 < length (drop gap.len (drop front.start bytes))
    → first_of limit (unread_from bytes front) ≡ found_from limit (front.at + gap.len) front.seen (state_of m)
    (drop front.seen (drop gap.len (drop front.start bytes)))
first_of-ready limit bytes front m gap r g some =
    let item : List ℕ = drop gap.len (drop front.start bytes) in
    let from : ℕ = front.at + gap.len in
    sym (first_of-without_gap limit front.at (drop front.start bytes) front.skipping) ∙ ap (first_of limit) (g.gone front.at)
    ∙ first_of-item limit from item gap.in_line some g.stops
    ∙ ap (found_from limit from 0 start) (sym (append-nil item)) ∙ r.read []
    ∙ ap (found_from limit from front.seen (state_of m)) (append-nil (drop front.seen item))

taken_of-at_end : (u : Unread) (from : ℕ) (s : State) (t : Bool) → is_outer_run s.mode s.lists ≡ t → taken_of false u (at_end from s) ≡ None
taken_of-at_end u from s true e = ap (λ t. taken_of false u (if t then last_run s.atom from else unfinished from)) e
taken_of-at_end u from s false e = ap (λ t. taken_of false u (if t then last_run s.atom from else unfinished from)) e

in_line-false : (in_line : Bool) (bytes : List ℕ) → 0 < length bytes → BeginsItem in_line bytes → in_line ≡ false
in_line-false in_line [] lt b = absurd (omega arith)
in_line-false in_line (x ∷ xs) lt b = b.0

-- ---- the end of the input

end-none : (limit most : ℕ) (u : Unread) (f : Found) → first_of limit u ≡ f → taken_of true u f ≡ None
    → end_up_to limit most u ≡ end_of_found f
end-none limit zero u f e n = ap end_of_found e
end-none limit (suc most) u f e n =
    let none : next_item limit true u ≡ None = ap (taken_of true u) e ∙ n in
    ap (λ t. elim t [ None ↦ end_of_found (first_of limit u) | Some t ↦ end_up_to limit most t.rest ]) none ∙ ap end_of_found e

end-nothing : (limit most at : ℕ) (bytes : List ℕ) → length bytes ≡ 0 → end_up_to limit most (unread_of bytes at false) ≡ Clean
end-nothing limit most at [] e = end-none limit most (unread_of [] at false) nothing refl refl
end-nothing limit most at (b ∷ bs) e = absurd (omega arith)

end-last : (limit most : ℕ) (u : Unread) (run : List ℕ) (from : ℕ) → first_of limit u ≡ last_run run from → most ≡ length u.bytes
    → 0 < most → end_up_to limit most u ≡ Clean
end-last limit zero u run from e f some = absurd (omega arith)
end-last limit (suc most) u run from e f some =
    let end : ℕ = u.at + length u.bytes in
    let left : length (drop (end - u.at) u.bytes) ≡ 0 = omega (arith, length-drop (end - u.at) u.bytes) in
    ap (λ t. elim t [ None ↦ end_of_found (first_of limit u) | Some t ↦ end_up_to limit most t.rest ]) (ap (taken_of true u) e)
    ∙ end-nothing limit most end (drop (end - u.at) u.bytes) left

at_end-unfinished : (from : ℕ) (s : State) → is_outer_run s.mode s.lists ≡ false → at_end from s ≡ unfinished from
at_end-unfinished from s e = ap (λ t. if t then last_run s.atom from else unfinished from) e

at_end-last : (from : ℕ) (s : State) → is_outer_run s.mode s.lists ≡ true → at_end from s ≡ last_run s.atom from
at_end-last from s e = ap (λ t. if t then last_run s.atom from else unfinished from) e

-- ---- what a call has looked at

-- the item behind the gap, and the state in which it is read on
pub record Looked (limit : ℕ) (bytes : List ℕ) (front : Front) (m : Machine) (gap : Gap) (item : List ℕ) (r : Reading) : Type 0 where
  pub is_view : ◌≡◌ {A = Reading} (record { unread = unread_from bytes front; limit = limit }) r
  pub is_front : IsFront limit bytes front m
  pub is_gap : IsFrontGap (drop front.start bytes) front.skipping gap
  pub is_item : drop gap.len (drop front.start bytes) ≡ item
  pub is_ready : IsReady limit bytes front m gap
  pub of_bytes : All (λ b. b < 256) (drop front.start bytes)

pub looked : {limit : ℕ} {bytes : List ℕ} {front : Front} {m : Machine} {gap : Gap} {item : List ℕ} {r : Reading} {buffer : List ℕ}
    → IsFront limit bytes front m → Finds buffer front gap item
    → ◌≡◌ {A = Reading} (record { unread = unread_from bytes front; limit = limit }) r → buffer ≡ bytes
    → Looked limit bytes front m gap item r
looked {limit = limit} {bytes = bytes} {front = front} {m = m} {gap = gap} {item = item} f found v b =
    let here : Finds bytes front gap item = subst (λ xs. Finds xs front gap item) b found in record {
      is_view = v;
      is_front = f;
      is_gap = here.is_gap;
      is_item = here.is_item;
      is_ready = ready limit bytes front m gap f here.is_gap;
      of_bytes = here.of_bytes;
    }

module _ {limit : ℕ} {bytes : List ℕ} {front : Front} {m : Machine} {gap : Gap} {item : List ℕ} {r : Reading}
    (l : Looked limit bytes front m gap item r) where
  pub seen_within : front.seen ≤ length item
  seen_within = subst (λ xs. front.seen ≤ length xs) l.is_item l.is_ready.within

  pub unread-of_bytes : All (λ b. b < 256) r.unread.bytes
  unread-of_bytes = subst (λ (r : Reading). All (λ b. b < 256) r.unread.bytes) l.is_view l.of_bytes

  pub item_length : front.start + gap.len + length item ≡ length bytes
  item_length =
      omega (
        arith,
        l.is_front.within,
        l.is_gap.within,
        length-drop gap.len (drop front.start bytes),
        length-drop front.start bytes,
        ap length l.is_item,
      )

  item_from : drop (front.start + gap.len) bytes ≡ item
  item_from = sym (drop-drop gap.len front.start bytes) ∙ l.is_item

  gone : unread_of (drop (front.start + gap.len) bytes) (front.at + gap.len) gap.in_line ≡ without_gap (unread_from bytes front)
  gone = ap (λ xs. unread_of xs (front.at + gap.len) gap.in_line) (sym (drop-drop gap.len front.start bytes)) ∙ sym (l.is_gap.gone front.at)

  -- nothing stands behind the gap
  first_of-nothing : length item ≡ 0 → first_of limit (unread_from bytes front) ≡ nothing
  first_of-nothing e =
      let none : (in_line : Bool) (xs : List ℕ) → length xs ≡ 0 → first_of limit (unread_of xs (front.at + gap.len) in_line) ≡ nothing =
      λ in_line xs. elim xs as (λ xs. length xs ≡ 0 → first_of limit (unread_of xs (front.at + gap.len) in_line) ≡ nothing) [
        | [] ↦ λ e. elim in_line as (λ t. first_of limit (unread_of [] (front.at + gap.len) t) ≡ nothing) [ true ↦ refl | false ↦ refl ]
        | b ∷ bs ↦ λ e. absurd (omega arith)
      ] in
      sym (first_of-without_gap limit front.at (drop front.start bytes) front.skipping) ∙ ap (first_of limit) (l.is_gap.gone front.at)
      ∙ none gap.in_line (drop gap.len (drop front.start bytes)) (ap length l.is_item ∙ e)

  pub front-empty : (next : Front) → next ≡ record {
    start = front.start + gap.len;
    at = front.at + gap.len;
    skipping = gap.in_line;
    seen = 0;
  }
      → length item ≡ 0 → IsFront limit bytes next m
  front-empty next is e =
      let n = item_length in
      let some : 0 < front.seen → 0 < length item = λ lt. subst (λ xs. 0 < length xs) l.is_item (l.is_ready.some lt) in
      let none : front.seen ≡ 0 = omega (arith, seen_within) in
      subst (λ f. IsFront limit bytes f m) (sym is)
      (front-unseen limit bytes (front.start + gap.len) (front.at + gap.len) gap.in_line m (omega arith)
      (omega (arith, l.is_front.room, l.is_front.within)) (l.is_ready.clean none))

  -- what stands first is the same without the gap
  first_of-left : (f : Found) → first_of limit (unread_from bytes front) ≡ f
      → first_of limit (unread_of (drop (front.start + gap.len) bytes) (front.at + gap.len) gap.in_line) ≡ f
  first_of-left f e = ap (first_of limit) gone ∙ first_of-without_gap limit front.at (drop front.start bytes) front.skipping ∙ e

  pub gives-empty : (next : Front) → next ≡ record {
    start = front.start + gap.len;
    at = front.at + gap.len;
    skipping = gap.in_line;
    seen = 0;
  } → length item ≡ 0
      → (next_item r.limit false r.unread ≡ None) × (next_item limit false (unread_from bytes next) ≡ None)
      × ◌≡◌ {A = Reading} (record { unread = unread_from bytes next; limit = limit })
      (record { unread = without_gap r.unread; limit = r.limit })
  gives-empty next is e =
      let R : Front → Reading → Type 0 = λ next r. (next_item r.limit false r.unread ≡ None)
      × (next_item limit false (unread_from bytes next) ≡ None)
      × ◌≡◌ {A = Reading} (record { unread = unread_from bytes next; limit = limit })
      (record { unread = without_gap r.unread; limit = r.limit }) in
      let here : Front = record { start = front.start + gap.len; at = front.at + gap.len; skipping = gap.in_line; seen = 0 } in
      let left : Unread = unread_from bytes here in
      subst (λ f. R f r) (sym is) (subst (R here) l.is_view (
        ap (taken_of false (unread_from bytes front)) (first_of-nothing e),
        ap (taken_of false left) (first_of-left nothing (first_of-nothing e)),
        ap (λ u. record { unread = u; limit = limit }) gone,
      ))

  pub finishes-empty : length item ≡ 0
      → ◌≡◌ {A = Option Item} None (option_map (λ t. t.item) (next_item r.limit true r.unread)) × (Clean ≡ end_of r.limit r.unread)
  finishes-empty e =
      let R : Reading → Type 0 = λ r. ◌≡◌ {A = Option Item} None (option_map (λ t. t.item) (next_item r.limit true r.unread))
      × (Clean ≡ end_of r.limit r.unread) in
      let u : Unread = unread_from bytes front in
      subst R l.is_view (
        sym (ap (λ f. option_map (λ t. t.item) (taken_of true u f)) (first_of-nothing e)),
        sym (end-none limit (length (drop front.start bytes)) u nothing (first_of-nothing e) refl),
      )

  module _ (some : 0 < length item) where
    found_is : first_of limit (unread_from bytes front)
        ≡ found_from limit (front.at + gap.len) front.seen (state_of m) (drop front.seen item)
    found_is =
        first_of-ready limit bytes front m gap l.is_ready l.is_gap (subst (λ xs. 0 < length xs) (sym l.is_item) some)
        ∙ ap (λ xs. found_from limit (front.at + gap.len) front.seen (state_of m) (drop front.seen xs)) l.is_item

    -- the item goes on
    module _ (sc : Scanned) (n : Machine) (is : sc ≡ scanned.More)
        (scans : Scans limit (front.at + gap.len) front.seen (state_of m) (drop front.seen item) sc n) where
      s : Scans limit (front.at + gap.len) front.seen (state_of m) (drop front.seen item) scanned.More n
      s = subst (λ sc. Scans limit (front.at + gap.len) front.seen (state_of m) (drop front.seen item) sc n) is scans

      all_seen : front.seen + length (drop front.seen item) ≡ length item
      all_seen = omega (arith, seen_within, length-drop front.seen item)

      pub first_of-more : first_of limit (unread_from bytes front) ≡ at_end (front.at + gap.len) (state_of n)
      first_of-more = found_is ∙ ap (found_from limit (front.at + gap.len) front.seen (state_of m))
          (sym (append-nil (drop front.seen item))) ∙ s []

      pub front-more : IsFront limit bytes (record {
        start = front.start + gap.len;
        at = front.at + gap.len;
        skipping = false;
        seen = length item;
      }) n
      front-more =
          let k = item_length in
          let from : ℕ = front.at + gap.len in
          let P : List ℕ → Type 0 = λ xs. (rest : List ℕ)
          → found_from limit from 0 start (xs ++ rest) ≡ found_from limit from (length item) (state_of n)
          (drop (length item) xs ++ rest) in
          let le : length item ≤ length item = omega arith in
          let read : P item = λ rest.
          ap (λ xs. found_from limit from 0 start (xs ++ rest)) (sym l.is_item) ∙ l.is_ready.read rest
          ∙ ap (λ xs. found_from limit from front.seen (state_of m) (drop front.seen xs ++ rest)) l.is_item ∙ s rest
          ∙ ap (λ k. found_from limit from k (state_of n) rest) all_seen
          ∙ ap (λ xs. found_from limit from (length item) (state_of n) (xs ++ rest)) (sym (drop_all (length item) item le)) in
          let in_line : gap.in_line ≡ false = in_line-false gap.in_line item some
          (subst (BeginsItem gap.in_line) l.is_item l.is_gap.stops) in
          record {
            within = omega arith;
            room = omega (arith, l.is_front.room, l.is_front.within);
            clean = λ e. absurd (omega arith);
            begun = λ lt. subst (λ t. BeginsItem t (drop (front.start + gap.len) bytes)) in_line
                (subst (BeginsItem gap.in_line) (drop-drop gap.len front.start bytes) l.is_gap.stops);
            read = subst P (sym item_from) read;
          }

      pub gives-more : (next_item r.limit false r.unread ≡ None)
          × (next_item limit false (unread_from bytes (record {
            start = front.start + gap.len;
            at = front.at + gap.len;
            skipping = false;
            seen = length item;
          })) ≡ None)
          × ◌≡◌ {A = Reading} (record {
            unread = unread_from bytes
                (record { start = front.start + gap.len; at = front.at + gap.len; skipping = false; seen = length item });
            limit = limit;
          })
          (record { unread = without_gap r.unread; limit = r.limit })
      gives-more =
          let left : Unread = unread_from bytes (record {
            start = front.start + gap.len;
            at = front.at + gap.len;
            skipping = false;
            seen = length item;
          }) in
          let R : Reading → Type 0 = λ r. (next_item r.limit false r.unread ≡ None) × (next_item limit false left ≡ None)
          × ◌≡◌ {A = Reading} (record {
            unread = unread_from bytes
                (record { start = front.start + gap.len; at = front.at + gap.len; skipping = false; seen = length item });
            limit = limit;
          })
          (record { unread = without_gap r.unread; limit = r.limit }) in
          let in_line : gap.in_line ≡ false = in_line-false gap.in_line item some
          (subst (BeginsItem gap.in_line) l.is_item l.is_gap.stops) in
          let here : taken_of false (unread_from bytes front) (first_of limit (unread_from bytes front)) ≡ None =
          ap (taken_of false (unread_from bytes front)) first_of-more
          ∙ taken_of-at_end (unread_from bytes front) (front.at + gap.len) (state_of n) _ refl in
          let there : taken_of false left (first_of limit left) ≡ None =
          ap (λ t. taken_of false left (first_of limit (unread_of (drop (front.start + gap.len) bytes) (front.at + gap.len) t)))
          (sym in_line)
          ∙ ap (taken_of false left) (first_of-left (at_end (front.at + gap.len) (state_of n)) first_of-more)
          ∙ taken_of-at_end left (front.at + gap.len) (state_of n) _ refl in
          subst R l.is_view (
            here,
            there,
            ap (λ t. record { unread = unread_of (drop (front.start + gap.len) bytes) (front.at + gap.len) t; limit = limit })
                (sym in_line) ∙ ap (λ u. record { unread = u; limit = limit }) gone,
          )

      pub finishes-unfinished : is_outer_run (state_of n).mode (state_of n).lists ≡ false
          → ◌≡◌ {A = Option Item} None (option_map (λ t. t.item) (next_item r.limit true r.unread))
          × (Truncated (front.at + gap.len) ≡ end_of r.limit r.unread)
      finishes-unfinished e =
          let R : Reading → Type 0 = λ r.
          ◌≡◌ {A = Option Item} None (option_map (λ t. t.item) (next_item r.limit true r.unread))
          × (Truncated (front.at + gap.len) ≡ end_of r.limit r.unread) in
          let u : Unread = unread_from bytes front in
          let f : first_of limit u ≡ unfinished (front.at + gap.len) = first_of-more
          ∙ at_end-unfinished (front.at + gap.len) (state_of n) e in
          subst R l.is_view (
            sym (ap (λ f. option_map (λ t. t.item) (taken_of true u f)) f),
            sym (end-none limit (length (drop front.start bytes)) u (unfinished (front.at + gap.len)) f refl),
          )

      pub finishes-last : (v : Sexp) (end : ℕ) → is_outer_run (state_of n).mode (state_of n).lists ≡ true
          → meaning v ≡ atom (state_of n).atom
          → end ≡ r.unread.at + length r.unread.bytes
          → ◌≡◌ {A = Option Item} (Some (value_item (meaning v) (front.at + gap.len) end))
          (option_map (λ t. t.item) (next_item r.limit true r.unread))
          × (Clean ≡ end_of r.limit r.unread)
      finishes-last v end e g h =
          let R : Reading → Type 0 = λ r.
          ◌≡◌ {A = Option Item} (Some (value_item (meaning v) (front.at + gap.len) end))
          (option_map (λ t. t.item) (next_item r.limit true r.unread))
          × (Clean ≡ end_of r.limit r.unread) in
          let u : Unread = unread_from bytes front in
          let f : first_of limit u ≡ last_run (state_of n).atom (front.at + gap.len) = first_of-more
          ∙ at_end-last (front.at + gap.len) (state_of n) e in
          let at_end : end ≡ front.at + length (drop front.start bytes) = h
          ∙ ap (λ (r : Reading). r.unread.at + length r.unread.bytes) (sym l.is_view) in
          let long : 0 < length (drop front.start bytes) = omega (arith, item_length, length-drop front.start bytes) in
          subst R l.is_view (
            ap (λ w. Some (value_item w (front.at + gap.len) end)) g
                ∙ ap (λ k. Some (value_item (atom (state_of n).atom) (front.at + gap.len) k)) at_end
                ∙ sym (ap (λ f. option_map (λ t. t.item) (taken_of true u f)) f),
            sym (end-last limit (length (drop front.start bytes)) u (state_of n).atom (front.at + gap.len) f refl long),
          )

    -- where no item is taken, the item goes on
    pub only-more : next_item r.limit false r.unread ≡ None → (s : Scanned) (n : Machine)
        → Scans limit (front.at + gap.len) front.seen (state_of m) (drop front.seen item) s n
        → (s ≡ scanned.More → ⊥) → ⊥
    only-more none s n scans not =
        let u : Unread = unread_from bytes front in
        let none' : taken_of false u (first_of limit u) ≡ None =
        subst (λ r. next_item r.limit false r.unread ≡ None) (sym l.is_view) none in
        elim s as (λ s. Scans limit (front.at + gap.len) front.seen (state_of m) (drop front.seen item) s n → (s ≡ scanned.More → ⊥) → ⊥) [
          | scanned.More ↦ λ scans not. not refl
          | scanned.Whole v to ↦ λ scans not. let e = ap (taken_of false u) (found_is ∙ scans.0) in cc
          | scanned.Bad kind offset ↦ λ scans not. let e = ap (taken_of false u) (found_is ∙ scans.0) in cc
        ] scans not

    -- the item ends
    module _ (v : Sexp) (to : ℕ) (sc : Scanned) (n : Machine) (is : sc ≡ scanned.Whole v to)
        (scans : Scans limit (front.at + gap.len) front.seen (state_of m) (drop front.seen item) sc n) where
      whole : first_of limit (unread_from bytes front) ≡ value (meaning v) (front.at + gap.len) to
      whole = found_is ∙ (subst (λ sc. Scans limit (front.at + gap.len) front.seen (state_of m) (drop front.seen item) sc n) is scans).0

      taken_whole : next_item r.limit false r.unread
          ≡ Some (record { item = value_item (meaning v) (front.at + gap.len) to; rest = from_offset to r.unread })
      taken_whole =
          subst (λ r. next_item r.limit false r.unread ≡ Some
          (record { item = value_item (meaning v) (front.at + gap.len) to; rest = from_offset to r.unread })) l.is_view
          (ap (taken_of false (unread_from bytes front)) whole)

      pub gives-whole : (next : Front) → next ≡ record { start = front.start + (to - front.at); at = to; skipping = false; seen = 0 }
          → (next_item r.limit false r.unread ≡ Some (record {
            item = value_item (meaning v) (front.at + gap.len) to;
            rest = unread_from bytes next;
          })) × (limit ≡ r.limit)
      gives-whole next e =
          let R : Reading → Type 0 = λ r.
          (next_item r.limit false r.unread ≡ Some (record {
            item = value_item (meaning v) (front.at + gap.len) to;
            rest = unread_from bytes next;
          })) × (limit ≡ r.limit) in
          subst R l.is_view (
            ap (taken_of false (unread_from bytes front)) whole
                ∙ ap (λ xs. Some (record { item = value_item (meaning v) (front.at + gap.len) to; rest = unread_of xs to false }))
                (drop-drop (to - front.at) front.start bytes)
                ∙ ap (λ f. Some (record { item = value_item (meaning v) (front.at + gap.len) to; rest = unread_from bytes f })) (sym e),
            refl,
          )

      pub whole-of_bytes : HasBytes (meaning v)
      whole-of_bytes = item_of_bytes r.limit false r.unread _ unread-of_bytes taken_whole

      pub whole-shallow : nesting (meaning v) ≤ most_lists
      whole-shallow = item_shallow r.limit false r.unread _ taken_whole

    -- a bad place is shown
    module _ (kind : BadKind) (offset : ℕ) (sc : Scanned) (n : Machine) (is : sc ≡ scanned.Bad kind offset)
        (scans : Scans limit (front.at + gap.len) front.seen (state_of m) (drop front.seen item) sc n) where
      pub gives-bad : (buffer : List ℕ) (before : ℕ) (next : Front) → buffer ≡ bytes → before ≡ offset - front.at
          → unread_from buffer next ≡ behind_rest_of_line offset (drop (front.start + before) buffer)
          → (next_item r.limit false r.unread ≡ Some (record { item = bad_item offset kind; rest = unread_from bytes next }))
          × (limit ≡ r.limit)
      gives-bad buffer before next b e f =
          let R : Reading → Type 0 = λ r. (next_item r.limit false r.unread
          ≡ Some (record { item = bad_item offset kind; rest = unread_from bytes next })) × (limit ≡ r.limit) in
          let shown = (subst (λ sc. Scans limit (front.at + gap.len) front.seen (state_of m) (drop front.seen item) sc n) is scans).0 in
          let here : unread_from bytes next ≡ behind_rest_of_line offset (drop (front.start + (offset - front.at)) bytes) =
          subst (λ xs. unread_from xs next ≡ behind_rest_of_line offset (drop (front.start + before) xs)) b f
          ∙ ap (λ k. behind_rest_of_line offset (drop (front.start + k) bytes)) e in
          subst R l.is_view (
            ap (taken_of false (unread_from bytes front)) (found_is ∙ shown)
                ∙ ap (λ xs. Some (record { item = bad_item offset kind; rest = behind_rest_of_line offset xs }))
                (drop-drop (offset - front.at) front.start bytes)
                ∙ ap (λ u. Some (record { item = bad_item offset kind; rest = u })) (sym here),
            refl,
          )

-- the last item of an input is of bytes
last_taken : (o : Option Taken) (i : Item) → Some i ≡ option_map (λ t. t.item) o → (t : Taken) × (o ≡ Some t) × (t.item ≡ i)
last_taken None i e = cc
last_taken (Some t) i e = (t, refl, cc)

pub last-of_bytes : (r : Reading) (i : Item) → All (λ b. b < 256) r.unread.bytes
    → Some i ≡ option_map (λ t. t.item) (next_item r.limit true r.unread) → IsOfBytes i
last-of_bytes r i h e = let t = last_taken (next_item r.limit true r.unread) i e in
    subst IsOfBytes t.2 (item_of_bytes r.limit true r.unread t.0 h t.1)
