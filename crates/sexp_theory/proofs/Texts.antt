-- The bytes of a text, and that no two values have one text.
use Rattle.std.proofs.Common.{◌≡◌, ◌≢◌, ℕ, ◌+◌, ◌-◌, ◌<◌, ◌≤◌, ◌&&◌, ◌||◌, ◌==◌, List, [], ◌∷◌, ◌++◌, length, drop, nat_le, not, Bool}
use Rattle.std.proofs.Common.{true, false, Some, append_assoc, append-nil, refl, sym, ap, ◌∙◌, subst, arith}
use Rattle.std.specs.List.{list_all, All, AllPass}
use Rattle.std.proofs.Math.Seq.{drop-append_seam}
use Rattle.std.proofs.lemmas.List.{drop_all}
use Rattle.std.proofs.lemmas.List.Sums.{AllPass-from_list_all}
use Rattle.std.proofs.lemmas.List.Folds.{list_all-append}
use Rattle.std.proofs.lemmas.Bool.{ltb-true, le-leb, leb-true, eq-eqb, and_parts, and_from, agree_below_at, false≢true, cond_both}
use Rattle.sexp_theory.specs.Values.{Value, atom, list, Values, nil, cons, nesting, HasBytes, HaveBytes}
use Rattle.sexp_theory.specs.Writing as writing
use Rattle.sexp_theory.specs.Writing.{is_bare, is_bare_atom, quoted_byte, quoted_bytes, atom_text, text, texts, texts_behind, is_of_text}
use Rattle.sexp_theory.specs.Written.{is_bare_value, sole_item, first_item, IsTextOf}
use Rattle.sexp_theory.specs.Places.{last_run, value}
use Rattle.sexp_theory.specs.Machine.{found}
use Rattle.sexp_theory.specs.Items.{value_item, Taken, Unread, fed, fresh, from_offset, whole_text, next_item, taken_of}
use Rattle.sexp_theory.proofs.AtomTexts.{is_byte, all_bytes}
use Rattle.sexp_theory.proofs.ReadAgain.{Parted, parted_behind, value_found, whole_found, bare_last, bare_text, plain_parts, bare_parts}

-- ---- only spaces, letters, digits and signs

bare_of_text : (b : ℕ) → is_bare b ≡ true → is_of_text b ≡ true
bare_of_text b e =
    let p = and_parts (nat_le 33 b) (nat_le b 126)
    (and_parts (nat_le 33 b && nat_le b 126) (not (b == 34 || b == 35 || b == 40 || b == 41 || b == 59 || b == 92 || b == 124)) e).0 in
    and_from (nat_le 32 b) (nat_le b 126) (le-leb 32 b (omega (arith, leb-true 33 b p.0))) p.1

bare_all : (bs : List ℕ) → list_all is_bare bs ≡ true → list_all is_of_text bs ≡ true
bare_all [] e = refl
bare_all (b ∷ bs) e = let p = and_parts (is_bare b) (list_all is_bare bs) e in
    and_from (is_of_text b) (list_all is_of_text bs) (bare_of_text b p.0) (bare_all bs p.1)

quoted_byte_of_text : (b : ℕ) → b < 256 → list_all is_of_text (quoted_byte b) ≡ true
quoted_byte_of_text b h = agree_below_at (λ b. list_all is_of_text (quoted_byte b)) (λ _. true) 256 b refl h

both_of_text : (xs ys : List ℕ) → list_all is_of_text xs ≡ true → list_all is_of_text ys ≡ true → list_all is_of_text (xs ++ ys) ≡ true
both_of_text xs ys p q = list_all-append is_of_text xs ys ∙ and_from (list_all is_of_text xs) (list_all is_of_text ys) p q

quoted_of_text : (bs : List ℕ) → list_all is_byte bs ≡ true → list_all is_of_text (quoted_bytes bs) ≡ true
quoted_of_text [] e = refl
quoted_of_text (b ∷ bs) e =
    let p = and_parts (is_byte b) (list_all is_byte bs) e in
    both_of_text (quoted_byte b) (quoted_bytes bs) (quoted_byte_of_text b (ltb-true b 256 p.0)) (quoted_of_text bs p.1)

bare_bytes : (bs : List ℕ) → is_bare_atom bs ≡ true → list_all is_of_text bs ≡ true
bare_bytes [] e = refl
bare_bytes (b ∷ bs) e = bare_all (b ∷ bs) e

atom_of_text : (bytes : List ℕ) → All (λ b. b < 256) bytes → list_all is_of_text (atom_text bytes) ≡ true
atom_of_text bytes h =
    cond_both (is_bare_atom bytes) bytes (34 ∷ (quoted_bytes bytes ++ 34 ∷ [])) (λ xs. list_all is_of_text xs ≡ true)
    (bare_bytes bytes)
    (λ _. both_of_text (quoted_bytes bytes) (34 ∷ []) (quoted_of_text bytes (all_bytes bytes h)) refl)

between_of_text : (v w : Value) → list_all is_of_text (writing.between v w) ≡ true
between_of_text (atom bytes) w = refl
between_of_text (list vs) (atom bytes) = refl
between_of_text (list vs) (list ws) = refl

mutual
  text_of_text : (v : Value) → HasBytes v → list_all is_of_text (text v) ≡ true
  text_of_text (atom bytes) h = atom_of_text bytes h
  text_of_text (list vs) h = both_of_text (texts vs) (41 ∷ []) (texts_of_text vs h) refl

  texts_of_text : (vs : Values) → HaveBytes vs → list_all is_of_text (texts vs) ≡ true
  texts_of_text nil h = refl
  texts_of_text (cons v vs) h = both_of_text (text v) (texts_behind v vs) (text_of_text v h.0) (behind_of_text v vs h.1)

  behind_of_text : (before : Value) (vs : Values) → HaveBytes vs → list_all is_of_text (texts_behind before vs) ≡ true
  behind_of_text before nil h = refl
  behind_of_text before (cons v vs) h =
      both_of_text (writing.between before v) (text v ++ texts_behind v vs) (between_of_text before v)
      (both_of_text (text v) (texts_behind v vs) (text_of_text v h.0) (behind_of_text v vs h.1))

pub text_bytes : (v : Value) → HasBytes v → AllPass is_of_text (text v)
text_bytes v h = AllPass-from_list_all is_of_text (text v) (text_of_text v h)

pub no_line_end : (v : Value) (before after : List ℕ) → HasBytes v → text v ≢ before ++ 10 ∷ after
no_line_end v before after h e =
    let all : (list_all is_of_text before && list_all is_of_text (10 ∷ after)) ≡ true =
    sym (list_all-append is_of_text before (10 ∷ after)) ∙ ap (list_all is_of_text) (sym e) ∙ text_of_text v h in
    false≢true (and_parts (list_all is_of_text before) (list_all is_of_text (10 ∷ after)) all).1

-- ---- the first byte

abbrev first : List ℕ → ℕ
first [] = 0
first (b ∷ bs) = b

record Starts (bytes : List ℕ) : Type 0 where
  no_opening : first bytes ≡ 40 → ⊥
  no_closing : first bytes ≡ 41 → ⊥

no_delimiter : (b k : ℕ) → (b == k) ≡ false → b ≡ k → ⊥
no_delimiter b k e p = false≢true (sym e ∙ eq-eqb b k p)

bare_starts : (bytes rest : List ℕ) → is_bare_atom bytes ≡ true → Starts (bytes ++ rest)
bare_starts [] rest e = absurd (false≢true e)
bare_starts (b ∷ bs) rest e =
    let f = plain_parts b (bare_parts b (and_parts (is_bare b) (list_all is_bare bs) e).0).0 in
    record { no_opening = no_delimiter b 40 f.opening; no_closing = no_delimiter b 41 f.closing }

atom_starts : (bytes rest : List ℕ) → Starts (atom_text bytes ++ rest)
atom_starts bytes rest =
    cond_both (is_bare_atom bytes) bytes (34 ∷ (quoted_bytes bytes ++ 34 ∷ [])) (λ xs. Starts (xs ++ rest))
    (bare_starts bytes rest)
    (λ _. record { no_opening = λ e. false≢true (eq-eqb 34 40 e); no_closing = λ e. false≢true (eq-eqb 34 41 e) })

no_closing_first : (v : Value) (rest : List ℕ) → first (text v ++ rest) ≡ 41 → ⊥
no_closing_first (atom bytes) rest e = (atom_starts bytes rest).no_closing e
no_closing_first (list vs) rest e = false≢true (eq-eqb 40 41 e)

pub some_bytes : (v : Value) → 0 < length (text v)
some_bytes (list vs) = omega arith
some_bytes (atom bytes) =
    cond_both (is_bare_atom bytes) bytes (34 ∷ (quoted_bytes bytes ++ 34 ∷ [])) (λ xs. 0 < length xs) (some bytes) (λ _. omega arith)
  where
    some : (bs : List ℕ) → is_bare_atom bs ≡ true → 0 < length bs
    some [] e = absurd (false≢true e)
    some (b ∷ bs) e = omega arith

-- ---- no two values have one text

cancel : (xs ys zs : List ℕ) → xs ++ ys ≡ xs ++ zs → ys ≡ zs
cancel [] ys zs e = e
cancel (x ∷ xs) ys zs e = let tails : xs ++ ys ≡ xs ++ zs = cc in cancel xs ys zs tails

-- the texts of two values are the same with bytes behind them that part them
record SameTexts (v w : Value) (r s : List ℕ) : Type 0 where
  of_bytes : HasBytes v
  of_bytes' : HasBytes w
  parted : Parted r
  parted' : Parted s
  same : text v ++ r ≡ text w ++ s

-- Texts with bytes behind them are the same only for the same value, with the same bytes behind it.
one_atom : (bs cs r s : List ℕ) → SameTexts (atom bs) (atom cs) r s → (atom bs ≡ atom cs) × (r ≡ s)
one_atom bs cs r s h =
    let limit = length (atom_text bs) + length (atom_text cs) in
    let found_one : found limit 0 (atom_text bs ++ r) ≡ value (atom bs) 0 (0 + length (atom_text bs)) =
    value_found limit 0 (atom bs) r h.of_bytes (omega arith) (omega arith) h.parted in
    let found_other : found limit 0 (atom_text cs ++ s) ≡ value (atom cs) 0 (0 + length (atom_text cs)) =
    value_found limit 0 (atom cs) s h.of_bytes' (omega arith) (omega arith) h.parted' in
    let equal : value (atom bs) 0 (0 + length (atom_text bs)) ≡ value (atom cs) 0 (0 + length (atom_text cs)) = sym found_one
    ∙ ap (found limit 0) h.same ∙ found_other in
    let values : bs ≡ cs = cc in
    (ap atom values, cancel (atom_text bs) r s (h.same ∙ ap (λ xs. atom_text xs ++ s) (sym values)))

no_list : (bs : List ℕ) (vs : Values) (r s : List ℕ) → atom_text bs ++ r ≡ text (list vs) ++ s → ⊥
no_list bs vs r s e = (atom_starts bs r).no_opening (ap first e)

texts_start : (v : Value) (vs : Values) (rest : List ℕ) → first (texts (cons v vs) ++ rest) ≡ 41 → ⊥
texts_start v vs rest e = no_closing_first v (texts_behind v vs ++ rest) (ap first (sym (append_assoc (text v) (texts_behind v vs) rest))
    ∙ e)

behind_starts : (before v : Value) (vs : Values) (rest : List ℕ) → first (texts_behind before (cons v vs) ++ rest) ≡ 41 → ⊥
behind_starts (atom bytes) v vs rest e = false≢true (eq-eqb 32 41 e)
behind_starts (list us) (atom bytes) vs rest e = false≢true (eq-eqb 32 41 e)
behind_starts (list us) (list ts) vs rest e = false≢true (eq-eqb 40 41 e)

regroup : (v w : Value) (vs ws : Values) (r s : List ℕ) → (text v ++ texts_behind v vs) ++ r ≡ (text w ++ texts_behind w ws) ++ s
    → text v ++ (texts_behind v vs ++ r) ≡ text w ++ (texts_behind w ws ++ s)
regroup v w vs ws r s e = sym (append_assoc (text v) (texts_behind v vs) r) ∙ e ∙ append_assoc (text w) (texts_behind w ws) s

tails : (x : ℕ) (xs ys : List ℕ) → x ∷ xs ≡ x ∷ ys → xs ≡ ys
tails x xs ys e = cc

without_space : (before v w : Value) (vs ws : Values) (r s : List ℕ)
    → texts_behind before (cons v vs) ++ r ≡ texts_behind before (cons w ws) ++ s
    → text v ++ (texts_behind v vs ++ r) ≡ text w ++ (texts_behind w ws ++ s)
without_space (atom bytes) v w vs ws r s e = regroup v w vs ws r s (tails 32 _ _ e)
without_space (list us) (atom bs) (atom cs) vs ws r s e = regroup (atom bs) (atom cs) vs ws r s (tails 32 _ _ e)
without_space (list us) (atom bs) (list cs) vs ws r s e = absurd (false≢true (eq-eqb 32 40 (ap first e)))
without_space (list us) (list bs) (atom cs) vs ws r s e = absurd (false≢true (eq-eqb 40 32 (ap first e)))
without_space (list us) (list bs) (list cs) vs ws r s e = regroup (list bs) (list cs) vs ws r s e

mutual
  one_value : (v w : Value) (r s : List ℕ) → SameTexts v w r s → (v ≡ w) × (r ≡ s)
  one_value (atom bs) (atom cs) r s h = one_atom bs cs r s h
  one_value (atom bs) (list ws) r s h = absurd (no_list bs ws r s h.same)
  one_value (list vs) (atom cs) r s h = absurd (no_list cs vs s r (sym h.same))
  one_value (list vs) (list ws) r s h =
      let inner : (texts vs ++ 41 ∷ []) ++ r ≡ (texts ws ++ 41 ∷ []) ++ s = tails 40 _ _ h.same in
      let all = one_list vs ws r s h.of_bytes h.of_bytes' (sym (append_assoc (texts vs) (41 ∷ []) r) ∙ inner
      ∙ append_assoc (texts ws) (41 ∷ []) s) in
      (ap list all.0, all.1)

  one_list : (vs ws : Values) (r s : List ℕ) → HaveBytes vs → HaveBytes ws → texts vs ++ 41 ∷ r ≡ texts ws ++ 41 ∷ s → (vs ≡ ws) × (r ≡ s)
  one_list nil nil r s h k e = (refl, tails 41 r s e)
  one_list nil (cons w ws) r s h k e = absurd (texts_start w ws (41 ∷ s) (ap first (sym e)))
  one_list (cons v vs) nil r s h k e = absurd (texts_start v vs (41 ∷ r) (ap first e))
  one_list (cons v vs) (cons w ws) r s h k e =
      let one = one_value v w (texts_behind v vs ++ 41 ∷ r) (texts_behind w ws ++ 41 ∷ s) (record {
        of_bytes = h.0;
        of_bytes' = k.0;
        parted = parted_behind v vs (41 ∷ r) refl;
        parted' = parted_behind w ws (41 ∷ s) refl;
        same = regroup v w vs ws (41 ∷ r) (41 ∷ s) e;
      }) in
      let more = one_behind v vs ws r s h.1 k.1 (one.1 ∙ ap (λ u. texts_behind u ws ++ 41 ∷ s) (sym one.0)) in
      (ap (λ u. cons u vs) one.0 ∙ ap (cons w) more.0, more.1)

  one_behind : (before : Value) (vs ws : Values) (r s : List ℕ) → HaveBytes vs → HaveBytes ws
      → texts_behind before vs ++ 41 ∷ r ≡ texts_behind before ws ++ 41 ∷ s → (vs ≡ ws) × (r ≡ s)
  one_behind before nil nil r s h k e = (refl, tails 41 r s e)
  one_behind before nil (cons w ws) r s h k e = absurd (behind_starts before w ws (41 ∷ s) (ap first (sym e)))
  one_behind before (cons v vs) nil r s h k e = absurd (behind_starts before v vs (41 ∷ r) (ap first e))
  one_behind before (cons v vs) (cons w ws) r s h k e =
      let one = one_value v w (texts_behind v vs ++ 41 ∷ r) (texts_behind w ws ++ 41 ∷ s) (record {
        of_bytes = h.0;
        of_bytes' = k.0;
        parted = parted_behind v vs (41 ∷ r) refl;
        parted' = parted_behind w ws (41 ∷ s) refl;
        same = without_space before v w vs ws (41 ∷ r) (41 ∷ s) e;
      }) in
      let more = one_behind v vs ws r s h.1 k.1 (one.1 ∙ ap (λ u. texts_behind u ws ++ 41 ∷ s) (sym one.0)) in
      (ap (λ u. cons u vs) one.0 ∙ ap (cons w) more.0, more.1)

pub one_text : (v w : Value) → HasBytes v → HasBytes w → text v ≡ text w → v ≡ w
one_text v w h k e = (one_value v w (10 ∷ []) (10 ∷ []) (record {
  of_bytes = h;
  of_bytes' = k;
  parted = refl;
  parted' = refl;
  same = ap (λ xs. xs ++ 10 ∷ []) e;
})).0

-- ---- the text alone

-- the value up to an offset, and what is unread behind it
abbrev pub up_to : Value → ℕ → List ℕ → Taken
up_to v k xs = record { item = value_item v 0 k; rest = from_offset k (whole_text xs) }

nothing_left : (v : Value) (k : ℕ) → k ≡ length (text v) → up_to v k (text v) ≡ sole_item v
nothing_left v k e =
    let none : drop (length (text v) - 0) (text v) ≡ [] = drop_all (length (text v) - 0) (text v) (omega arith) in
    let last : ℕ → List ℕ → Taken = λ n ys. record { item = value_item v 0 n; rest = record { bytes = ys; at = n; skipping = false } } in
    ap (λ n. up_to v n (text v)) e ∙ ap (last (length (text v))) none

pub sole_taken : (limit : ℕ) (v : Value) → HasBytes v → nesting v ≤ 256 → length (text v) ≤ limit
    → next_item limit true (whole_text (text v)) ≡ Some (sole_item v)
sole_taken limit v h deep fits = by v (is_bare_value v) refl h deep fits
  where
    by : (v : Value) (t : Bool) → is_bare_value v ≡ t → HasBytes v → nesting v ≤ 256 → length (text v) ≤ limit
        → next_item limit true (whole_text (text v)) ≡ Some (sole_item v)
    by v false e h deep fits =
        let there : found limit 0 (text v) ≡ value v 0 (0 + length (text v)) = ap (found limit 0) (sym (append-nil (text v)))
        ∙ whole_found limit 0 v [] h deep fits e in
        ap (taken_of true (whole_text (text v))) there ∙ ap Some (nothing_left v (0 + length (text v)) (omega arith))
    by (list vs) true e h deep fits = absurd (false≢true e)
    by (atom bytes) true e h deep fits =
        let same = bare_text bytes e in
        let there : found limit 0 (atom_text bytes) ≡ last_run bytes 0 = ap (found limit 0) same
        ∙ bare_last limit 0 bytes e (subst (λ xs. length xs ≤ limit) same fits) in
        ap (taken_of true (whole_text (atom_text bytes))) there
        ∙ ap Some (nothing_left (atom bytes) (0 + length (atom_text bytes)) (omega arith))

pub at_the_end : (limit at : ℕ) (v : Value) → HasBytes v → length (text v) ≤ limit → is_bare_value v ≡ true
    → (found limit at (text v) ≡ last_run (text v) at) × (v ≡ atom (text v))
at_the_end limit at (list vs) h fits e = absurd (false≢true e)
at_the_end limit at (atom bytes) h fits e =
    let same = bare_text bytes e in (
      ap (found limit at) same ∙ bare_last limit at bytes e (subst (λ xs. length xs ≤ limit) same fits)
          ∙ ap (λ xs. last_run xs at) (sym same),
      ap atom (sym same),
    )

-- the first item of a text with a byte 10 behind it
pub text_taken : (limit : ℕ) (bytes : List ℕ) (v : Value) → IsTextOf bytes v → length bytes ≤ limit
    → next_item limit false (fed (fed fresh bytes) (10 ∷ [])) ≡ Some (up_to v (0 + length bytes) (bytes ++ 10 ∷ []))
text_taken limit bytes v t fits =
    let P : List ℕ → Type 0 = λ xs. length xs ≤ limit
    → next_item limit false (fed (fed fresh xs) (10 ∷ [])) ≡ Some (up_to v (0 + length xs) (xs ++ 10 ∷ [])) in
    subst P t.written (λ f. ap (taken_of false (fed (fed fresh (text v)) (10 ∷ [])))
    (value_found limit 0 v (10 ∷ []) t.of_bytes t.shallow f refl)) fits

-- the same with any bytes behind the byte 10, whether they are the whole input or not
pub line_taken : (limit : ℕ) (ended : Bool) (v : Value) (rest : List ℕ) → HasBytes v → nesting v ≤ 256 → length (text v) ≤ limit
    → next_item limit ended (fed (whole_text (text v)) (10 ∷ rest)) ≡ Some (first_item v (10 ∷ rest))
line_taken limit ended v rest h deep fits =
    let n : ℕ = length (text v) in
    let u : Unread = fed (whole_text (text v)) (10 ∷ rest) in
    let whole : 0 + n ≡ n = omega arith in
    let left : drop (n - 0) (text v ++ 10 ∷ rest) ≡ 10 ∷ rest = ap (λ k. drop k (text v ++ 10 ∷ rest)) (omega arith)
    ∙ drop-append_seam (text v) (10 ∷ rest) in
    ap (taken_of ended u) (value_found limit 0 v (10 ∷ rest) h deep fits refl)
    ∙ ap (λ k. Some (record { item = value_item v 0 k; rest = from_offset k u })) whole
    ∙ ap (λ xs. Some (record { item = value_item v 0 n; rest = record { bytes = xs; at = n; skipping = false } })) left
