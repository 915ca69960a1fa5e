-- Spelled values and open lists with more at their end.
use Rattle.std.proofs.Common.{◌≡◌, ◌≢◌, inl, inr, ℕ, suc, ◌+◌, ◌<◌, ◌≤◌, max, List, [], ◌∷◌, ◌++◌, length, Bool, true, false, refl, sym}
use Rattle.std.proofs.Common.{ap, ◌∙◌, subst, append_assoc, append-nil, arith, true≢false}
use Rattle.std.specs.List.{AllPass}
use Rattle.sexp_theory.specs.Values.{Value, Values, nil, cons, values, nesting, nesting_of_all}
use Rattle.sexp_theory.specs.Signs.{is_blank, is_plain}
use Rattle.sexp_theory.specs.Spelling.{is_of_line, IsGapOf, IsGap, IsRun, IsByte, AreBytes, Ends, Spells, SpellAll}
use Rattle.sexp_theory.specs.Places.{most_lists, IsOpen}
use Rattle.sexp_theory.proofs.Lists.{last, last_append, last_push}
use Rattle.sexp_theory.proofs.Spelled.{Seam}
use Rattle.sexp_theory.proofs.Inside.{run_last}

-- ---- gaps

pub no_gap : IsGap []
no_gap = ([], refl)

pub blank_gap : (b : ℕ) → is_blank b ≡ true → IsGap (b ∷ [])
blank_gap b e = ((b ∷ []) ∷ [], ([], refl, inl (b, refl, e), refl))

pub comment_gap : (words : List ℕ) → AllPass is_of_line words → IsGap (59 ∷ (words ++ 10 ∷ []))
comment_gap words p = (
  (59 ∷ (words ++ 10 ∷ [])) ∷ [],
  ([], sym (append-nil _), inr (record { words = words; spelled = refl; one_line = p }), refl),
)

pieces_append : (bytes : List ℕ) (pieces : List (List ℕ)) (more : List ℕ) → IsGapOf bytes pieces → IsGap more → IsGap (bytes ++ more)
pieces_append bytes [] more h g = subst (λ xs. IsGap (xs ++ more)) (sym h) g
pieces_append bytes (piece ∷ pieces) more h g =
    let r = pieces_append h.0 pieces more h.3 g in
    (piece ∷ r.0, (h.0 ++ more, ap (λ xs. xs ++ more) h.1 ∙ append_assoc piece h.0 more, h.2, r.1))

pub gap_append : (gap more : List ℕ) → IsGap gap → IsGap more → IsGap (gap ++ more)
gap_append gap more h g = pieces_append gap h.0 more h.1 g

-- ---- atoms in quotes

pub bytes_append : (inner one bs : List ℕ) (b : ℕ) → AreBytes inner bs → IsByte one b → AreBytes (inner ++ one) (bs ++ b ∷ [])
bytes_append inner one [] b h k = (one, [], ap (λ xs. xs ++ one) h ∙ sym (append-nil one), k, refl)
bytes_append inner one (c ∷ bs) b h k = (
  h.0,
  h.1 ++ one,
  ap (λ xs. xs ++ one) h.2
      ∙ append_assoc h.0 h.1 one,
  h.3,
  bytes_append h.1 one bs b h.4 k,
)

-- ---- values

abbrev pub joined : Values → Values → Values
joined nil ws = ws
joined (cons v vs) ws = cons v (joined vs ws)

pub values_append : (us ws : List Value) → values (us ++ ws) ≡ joined (values us) (values ws)
values_append [] ws = refl
values_append (u ∷ us) ws = ap (cons u) (values_append us ws)

pub nesting_joined : (vs ws : Values) → nesting_of_all (joined vs ws) ≤ max (nesting_of_all vs) (nesting_of_all ws)
nesting_joined nil ws = omega arith
nesting_joined (cons v vs) ws = omega (arith, nesting_joined vs ws)

spell_gap : (ws : Values) (gap more : List ℕ) → IsGap gap → SpellAll more ws → SpellAll (gap ++ more) ws
spell_gap nil gap more g h = gap_append gap more g h
spell_gap (cons w ws) gap more g h = (
  gap ++ h.0,
  h.1,
  h.2,
  ap (λ xs. gap ++ xs) h.3
      ∙ sym (append_assoc gap h.0 (h.1 ++ h.2)),
  gap_append gap h.0 g h.4,
  h.5,
  h.6,
  h.7,
)

ends_more : (bytes gap own rest more : List ℕ) → bytes ≡ gap ++ (own ++ rest) → Seam bytes more → Ends own rest → Ends own (rest ++ more)
ends_more bytes gap own [] more e s h = λ r. s gap own (e ∙ ap (λ xs. gap ++ xs) (append-nil own)) r
ends_more bytes gap own (b ∷ rest) more e s h = λ r. h r

-- what is spelled behind values is behind them in the list of all
pub spell_append : (vs ws : Values) (bytes more : List ℕ) → SpellAll bytes vs → SpellAll more ws → Seam bytes more
    → SpellAll (bytes ++ more) (joined vs ws)
spell_append nil ws bytes more h k s = spell_gap ws bytes more h k
spell_append (cons v vs) ws bytes more h k s = (
  h.0,
  h.1,
  h.2 ++ more,
  ap (λ xs. xs ++ more) h.3 ∙ append_assoc h.0 (h.1 ++ h.2) more ∙ ap (λ xs. h.0 ++ xs) (append_assoc h.1 h.2 more),
  h.4,
  h.5,
  ends_more bytes h.0 h.1 h.2 more h.3 s h.6,
  spell_append vs ws h.2 more h.7 k
      (λ front run e r. s (h.0 ++ (h.1 ++ front)) run (h.3 ∙ ap (λ xs. h.0 ++ (h.1 ++ xs)) e
      ∙ ap (λ xs. h.0 ++ xs) (sym (append_assoc h.1 front run)) ∙ sym (append_assoc h.0 (h.1 ++ front) run)) r),
)

pub spell_one : (own : List ℕ) (v : Value) → Spells own v → SpellAll own (cons v nil)
spell_one own v h = ([], own, [], sym (append-nil own), no_gap, h, λ r. tt, no_gap)

-- ---- open lists with their values

abbrev pub Opened : List ℕ → List (List Value) → Type 0
Opened bytes [] = bytes ≡ []
Opened bytes (us ∷ ls) =
    (before inner : List ℕ) × (bytes ≡ before ++ 40 ∷ inner) × Opened before ls × SpellAll inner (values us)
    × (nesting_of_all (values us) + suc (length ls) ≤ most_lists)

pub opened_is_open : (lists : List (List Value)) (bytes : List ℕ) → Opened bytes lists → IsOpen (length lists) bytes
opened_is_open [] bytes h = h
opened_is_open (us ∷ ls) bytes h = (h.0, h.1, values us, h.2, opened_is_open ls h.0 h.3, h.4, h.5)

pub opened_most : (lists : List (List Value)) (bytes : List ℕ) → Opened bytes lists → length lists ≤ most_lists
opened_most [] bytes h = omega arith
opened_most (us ∷ ls) bytes h = omega (arith, h.5)

module _ (bytes more : List ℕ) (us : List Value) (ls : List (List Value)) (h : Opened bytes (us ∷ ls)) (s : Seam bytes more) where
  push_all : (ws : List Value) → SpellAll more (values ws) → nesting_of_all (values ws) + suc (length ls) ≤ most_lists
      → Opened (bytes ++ more) ((us ++ ws) ∷ ls)
  push_all ws k room = (
    h.0,
    h.1 ++ more,
    ap (λ xs. xs ++ more) h.2 ∙ append_assoc h.0 (40 ∷ h.1) more,
    h.3,
    subst (SpellAll (h.1 ++ more)) (sym (values_append us ws))
        (spell_append (values us) (values ws) h.1 more h.4 k
        (λ front run e r. s (h.0 ++ 40 ∷ front) run (h.2 ∙ ap (λ xs. h.0 ++ 40 ∷ xs) e ∙ sym (append_assoc h.0 (40 ∷ front) run)) r)),
    omega (arith, h.5, room, nesting_joined (values us) (values ws), ap nesting_of_all (values_append us ws)),
  )

  pub push_value : (v : Value) → Spells more v → nesting v + suc (length ls) ≤ most_lists → Opened (bytes ++ more) ((us ++ v ∷ []) ∷ ls)
  push_value v k room = push_all (v ∷ []) (spell_one more v k) (omega (arith, room))

  pub push_gap : IsGap more → Opened (bytes ++ more) (us ∷ ls)
  push_gap g = subst (λ ws. Opened (bytes ++ more) (ws ∷ ls)) (append-nil us) (push_all [] g (omega (arith, h.5)))

pub open_more : (bytes : List ℕ) (lists : List (List Value)) → Opened bytes lists → length lists < most_lists
    → Opened (bytes ++ 40 ∷ []) ([] ∷ lists)
open_more bytes lists h room = (bytes, [], refl, h, no_gap, omega (arith, room))

-- ---- how bytes end

-- no run ends with the bytes
abbrev pub EndsWhole : List ℕ → Type 0
EndsWhole bytes = is_plain (last 32 bytes) ≡ false

pub ends_whole : (bytes : List ℕ) (b : ℕ) → is_plain b ≡ false → EndsWhole (bytes ++ b ∷ [])
ends_whole bytes b p = ap is_plain (last_push 32 bytes b) ∙ p

-- a byte behind the bytes goes on with no run that they end in, and makes no `#;` with it
abbrev pub Apart : List ℕ → ℕ → Type 0
Apart bytes b = (is_plain b ≡ true → EndsWhole bytes) × (b ≡ 59 → last 32 bytes ≢ 35)

pub apart_whole : (bytes : List ℕ) (b : ℕ) → EndsWhole bytes → Apart bytes b
apart_whole bytes b h = ((λ p. h), (λ e k. true≢false (sym (ap is_plain k) ∙ h)))

ends_plain : (bytes front run : List ℕ) → bytes ≡ front ++ run → IsRun run → is_plain (last 32 bytes) ≡ true
ends_plain bytes front run e r = ap (λ xs. is_plain (last 32 xs)) e ∙ ap is_plain (last_append 32 front run)
    ∙ run_last (last 32 front) run r

pub seam_apart : (bytes : List ℕ) (b : ℕ) (more : List ℕ) → Apart bytes b → Seam bytes (b ∷ more)
seam_apart bytes b more h = λ front run e r. (
  go (is_plain b) h.0 (ends_plain bytes front run e r),
  λ before k is. h.1 is (ap (last 32) e ∙ last_append 32 front run ∙ ap (last (last 32 front)) k ∙ last_push (last 32 front) before 35),
)
  where
    go : (c : Bool) → (c ≡ true → EndsWhole bytes) → is_plain (last 32 bytes) ≡ true → c ≡ false
    go true k p = absurd (true≢false (sym p ∙ k refl))
    go false k p = refl

pub seam_whole : (bytes more : List ℕ) → EndsWhole bytes → Seam bytes more
seam_whole bytes more h = λ front run e r. absurd (true≢false (sym (ends_plain bytes front run e r) ∙ h))
