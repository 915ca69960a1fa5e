-- The closers of each end of a text.
use Rattle.std.proofs.Common.{◌≡◌, ℕ, zero, suc, ◌+◌, ◌-◌, ◌<◌, ◌≤◌, ◌⊎◌, inl, inr, ◌&&◌, ◌==◌, List, [], ◌∷◌, ◌++◌, length, drop, get_or}
use Rattle.std.proofs.Common.{Bool, true, false, Option, Some, None, MatchOption, Bor, if◌then◌else◌, refl, sym, ap, ◌∙◌}
use Rattle.std.proofs.Common.{subst, arith}
use Rattle.std.proofs.lemmas.Bool.{cases_lt}
use Rattle.std.proofs.lemmas.List.{drop-drop, get_or_append_left, get_or_push, length_push}
use Rattle.vern_lex.specs.Closers.{closers, IsTable}
use Rattle.vern_lex.specs.Comments.{opens_comment, closes_comment, behind, comment_length}

-- what closes less than is open ends none of the outermost
behind_none : (deep : ℕ) (text : List ℕ) → closers text < deep → behind deep text ≡ None
behind_none zero text h = absurd (omega (arith, h))
behind_none (suc d) [] h = refl
behind_none (suc d) (a ∷ []) h = refl
behind_none (suc d) (a ∷ b ∷ rest) h =
    by (a == 40 && b == 42) (a == 42 && b == 41) (behind_none (suc (suc d)) rest) (behind_none d rest) (behind_none (suc d) (b ∷ rest)) h
  where
    by : (s t : Bool) → (closers rest < suc (suc d) → behind (suc (suc d)) rest ≡ None) → (closers rest < d → behind d rest ≡ None)
        → (closers (b ∷ rest) < suc d → behind (suc d) (b ∷ rest) ≡ None)
        → elim s [ true ↦ closers rest - 1 | false ↦ elim t [ true ↦ closers rest + 1 | false ↦ closers (b ∷ rest) ] ] < suc d
        → ◌≡◌ {A = Option (List ℕ)} (elim s [
          | true ↦ behind (suc (suc d)) rest
          | false ↦ elim t
              [ true ↦ behind d rest | false ↦ behind (suc d) (b ∷ rest) ]
        ]) None
    by true t f g k h = f (omega (arith, h))
    by false true f g k h = g (omega (arith, h))
    by false false f g k h = k h

pub closers_step : (text : List ℕ) → closers text ≡ (if opens_comment text then closers (drop 2 text) - 1 else
    (if closes_comment text then closers (drop 2 text) + 1 else closers (drop 1 text)))
closers_step [] = refl
closers_step (a ∷ []) = refl
closers_step (a ∷ b ∷ rest) = by (a == 40 && b == 42) (a == 42 && b == 41)
  where
    by : (s t : Bool) → elim s [ true ↦ closers rest - 1 | false ↦ elim t [ true ↦ closers rest + 1 | false ↦ closers (b ∷ rest) ] ]
        ≡ (if s then closers rest - 1 else (if t then closers rest + 1 else closers (b ∷ rest)))
    by true t = refl
    by false true = refl
    by false false = refl

pub closers-within : (text : List ℕ) → closers text ≤ length text
closers-within [] = omega arith
closers-within (a ∷ []) = omega arith
closers-within (a ∷ b ∷ rest) = by (a == 40 && b == 42) (a == 42 && b == 41) (closers-within rest) (closers-within (b ∷ rest))
  where
    by : (s t : Bool) → closers rest ≤ length rest → closers (b ∷ rest) ≤ length (b ∷ rest)
        → elim s [ true ↦ closers rest - 1 | false ↦ elim t [ true ↦ closers rest + 1 | false ↦ closers (b ∷ rest) ] ] ≤ length
        (a ∷ b ∷ rest)
    by true t h k = omega (arith, h)
    by false true h k = omega (arith, h)
    by false false h k = omega (arith, k)

-- the table of the ends from a place on
pub record IsBegun (text table : List ℕ) (place next second : ℕ) : Type 0 where
  pub within : place ≤ length text
  pub is_next : next ≡ closers (drop place text)
  pub is_second : second ≡ closers (drop (place + 1) text)
  pub long : length table ≡ length text - place + 1
  pub each : (k : ℕ) → k ≤ length text - place → get_or table k 0 ≡ closers (drop (length text - k) text)

pub table_grown : {text table : List ℕ} {place next second : ℕ} (rest : List ℕ) (before here : ℕ)
    → IsBegun text table place next second → 0 < place → before ≡ place - 1 → rest ≡ drop before text
    → here ≡ (if opens_comment rest then second - 1 else (if closes_comment rest then second + 1 else next))
    → IsBegun text (table ++ here ∷ []) before here next
table_grown {text = text} {table = table} {place = place} {next = next} {second = second} rest before here i h b r e =
    let one : before + 1 ≡ place = omega (arith, h, b) in
    let two : before + 2 ≡ place + 1 = omega (arith, one) in
    let after : next ≡ closers (drop 1 rest) = i.is_next ∙ ap (λ k. closers (drop k text)) (sym one)
    ∙ sym (ap closers (ap (drop 1) r ∙ drop-drop 1 before text)) in
    let later : second ≡ closers (drop 2 rest) = i.is_second ∙ ap (λ k. closers (drop k text)) (sym two)
    ∙ sym (ap closers (ap (drop 2) r ∙ drop-drop 2 before text)) in
    let is_here : here ≡ closers rest =
    e ∙ ap (λ n. if opens_comment rest then second - 1 else (if closes_comment rest then second + 1 else n)) after
    ∙ ap (λ n. if opens_comment rest then n - 1 else (if closes_comment rest then n + 1 else closers (drop 1 rest))) later
    ∙ sym (closers_step rest) in
    record {
      within = omega (arith, i.within, b);
      is_next = is_here ∙ ap closers r;
      is_second = i.is_next ∙ ap (λ k. closers (drop k text)) (sym one);
      long = length_push table here ∙ omega (arith, i.long, i.within, h, b);
      each = λ k w. by is_here k w (cases_lt k (length table));
    }
  where
    by : here ≡ closers rest → (k : ℕ) → k ≤ length text - before → (k < length table) ⊎ (length table ≤ k)
        → get_or (table ++ here ∷ []) k 0 ≡ closers (drop (length text - k) text)
    by x k w (inl l) = get_or_append_left table (here ∷ []) 0 k l ∙ i.each k (omega (arith, l, i.long))
    by x k w (inr l) =
        let last : length table ≡ k = omega (arith, l, w, i.long, i.within, h, b) in
        let there : before ≡ length text - k = omega (arith, last, i.long, i.within, h, b) in
        get_or_push table here 0 k last ∙ x ∙ ap closers r ∙ ap (λ j. closers (drop j text)) there

all_but_two : (a b : ℕ) (rest : List ℕ) → length (a ∷ b ∷ rest) - 2 ≡ length rest
all_but_two a b rest = omega arith

two_left : (a b : ℕ) (rest : List ℕ) → drop (length (a ∷ b ∷ rest) - length rest) (a ∷ b ∷ rest) ≡ rest
two_left a b rest = let two : length (a ∷ b ∷ rest) - length rest ≡ 2 = omega arith in ap (λ j. drop j (a ∷ b ∷ rest)) two

none_closed : (a b : ℕ) (rest : List ℕ) → (a == 40 && b == 42) ≡ true → closers rest ≡ 0 → comment_length (a ∷ b ∷ rest) ≡ 0
none_closed a b rest o closed =
    let none : behind 1 rest ≡ None = behind_none 1 rest (omega (arith, closed)) in
    ap (λ t. if t then elim (behind 1 rest) [ None ↦ 0 | Some after ↦ length (a ∷ b ∷ rest) - length after ] else 0) o
    ∙ ap (λ r. elim r [ None ↦ 0 | Some after ↦ length (a ∷ b ∷ rest) - length after ]) none

-- a comment doesn't end where nothing closes it
pub table_none : (text table : List ℕ) → IsTable text table → opens_comment text ≡ true → get_or table (length text - 2) 0 ≡ 0
    → comment_length text ≡ 0
table_none [] table i o e = refl
table_none (a ∷ []) table i o e = refl
table_none (a ∷ b ∷ rest) table i o e =
    let here = i.each (length rest) (omega arith) in
    none_closed a b rest o (sym (ap closers (two_left a b rest)) ∙ sym here ∙ ap (λ k. get_or table k 0) (sym (all_but_two a b rest)) ∙ e)

pub known_table : (text : List ℕ) (o : Option (Bor (List ℕ))) (t : Bor (List ℕ)) → o ≡ Some t
    → MatchOption o (Unit {0}) (λ t. IsTable text t.now) → IsTable text t.now
known_table text o t e k = let known : MatchOption (Some t) (Unit {0}) (λ t. IsTable text t.now) =
    subst (λ o. MatchOption o (Unit {0}) (λ t. IsTable text t.now)) e k in known
