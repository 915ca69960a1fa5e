-- Bytes that come in pieces: what stands first in a text doesn't change with the bytes behind it, and lies in the text.
use Rattle.std.proofs.Common.{◌≡◌, ℕ, ◌+◌, ◌-◌, ◌&&◌, ◌==◌, List, [], ◌∷◌, ◌++◌, Bool, true, false, not, nat_le, if◌then◌else◌, refl, sym}
use Rattle.std.proofs.Common.{◌∙◌}
use Rattle.std.proofs.lemmas.Bool.{false≢true}
use Rattle.sexp_theory.specs.Signs.{is_blank}
use Rattle.sexp_theory.specs.Places.{Found, nothing, unfinished, last_run, value, bad}
use Rattle.sexp_theory.specs.Machine.{State, Step, on, whole, shown, step, start, is_outer_run, is_behind, found_from, found}
use Rattle.sexp_theory.specs.Machine.{found_behind_line}
use Rattle.sexp_theory.specs.declared.input.BadKind.TheVariants.{TooLong}

-- a value or a bad place
abbrev pub is_whole : Found → Bool
is_whole nothing = false
is_whole (unfinished from) = false
is_whole (last_run bytes from) = false
is_whole (value v from to) = true
is_whole (bad kind offset) = true

-- what a byte of an item leads to
abbrev after : ℕ → ℕ → ℕ → Bool → Step → List ℕ → Found
after limit from n behind x rest =
    elim x [
      | on t ↦ found_from limit from (n + 1) t rest
      | whole v ↦ value v from (if behind then from + n else from + n + 1)
      | shown kind back ↦ bad kind (from + n - back)
    ]

end-open : (c : Bool) (bytes : List ℕ) (from : ℕ) → is_whole (if c then last_run bytes from else unfinished from) ≡ false
end-open true bytes from = refl
end-open false bytes from = refl

pub found_from-more : (limit from n : ℕ) (s : State) (text more : List ℕ) → is_whole (found_from limit from n s text) ≡ true
    → found_from limit from n s (text ++ more) ≡ found_from limit from n s text
found_from-more limit from n s [] more h = absurd (false≢true (sym (end-open (is_outer_run s.mode s.lists) s.atom from) ∙ h))
found_from-more limit from n s (b ∷ rest) more h =
    by (not (is_behind s b) && nat_le limit n) (step s b) (λ t. found_from-more limit from (n + 1) t rest more) h
  where
    by : (c : Bool) (x : Step) → ((t : State) → is_whole (found_from limit from (n + 1) t rest) ≡ true
        → found_from limit from (n + 1) t (rest ++ more) ≡ found_from limit from (n + 1) t rest)
        → is_whole (if c then bad TooLong (from + n) else after limit from n (is_behind s b) x rest) ≡ true
        → ◌≡◌ {A = Found} (if c then bad TooLong (from + n) else after limit from n (is_behind s b) x (rest ++ more))
        (if c then bad TooLong (from + n) else after limit from n (is_behind s b) x rest)
    by true x f h = refl
    by false (on t) f h = f t h
    by false (whole v) f h = refl
    by false (shown kind back) f h = refl

mutual
  pub found-more : (limit at : ℕ) (text more : List ℕ) → is_whole (found limit at text) ≡ true
      → found limit at (text ++ more) ≡ found limit at text
  found-more limit at [] more h = absurd (false≢true h)
  found-more limit at (b ∷ rest) more h =
      by (is_blank b) (b == 59) (found-more limit (at + 1) rest more) (found_behind_line-more limit (at + 1) rest more)
      (found_from-more limit at 0 start (b ∷ rest) more) h
    where
      by : (c d : Bool) → (is_whole (found limit (at + 1) rest) ≡ true → found limit (at + 1) (rest ++ more) ≡ found limit (at + 1) rest)
          → (is_whole (found_behind_line limit (at + 1) rest) ≡ true
          → found_behind_line limit (at + 1) (rest ++ more) ≡ found_behind_line limit (at + 1) rest)
          → (is_whole (found_from limit at 0 start (b ∷ rest)) ≡ true
          → found_from limit at 0 start (b ∷ rest ++ more) ≡ found_from limit at 0 start (b ∷ rest))
          → is_whole (if c then found limit (at + 1) rest else
          (if d then found_behind_line limit (at + 1) rest else found_from limit at 0 start (b ∷ rest))) ≡ true
          → ◌≡◌ {A = Found} (if c then found limit (at + 1) (rest ++ more) else
          (if d then found_behind_line limit (at + 1) (rest ++ more) else found_from limit at 0 start (b ∷ rest ++ more)))
          (if c then found limit (at + 1) rest else (if d then found_behind_line limit (at + 1) rest else found_from limit at 0 start
          (b ∷ rest)))
      by true d f g k h = f h
      by false true f g k h = g h
      by false false f g k h = k h

  pub found_behind_line-more : (limit at : ℕ) (text more : List ℕ) → is_whole (found_behind_line limit at text) ≡ true
      → found_behind_line limit at (text ++ more) ≡ found_behind_line limit at text
  found_behind_line-more limit at [] more h = absurd (false≢true h)
  found_behind_line-more limit at (b ∷ rest) more h =
      by (b == 10) (found-more limit (at + 1) rest more) (found_behind_line-more limit (at + 1) rest more) h
    where
      by : (c : Bool) → (is_whole (found limit (at + 1) rest) ≡ true → found limit (at + 1) (rest ++ more) ≡ found limit (at + 1) rest)
          → (is_whole (found_behind_line limit (at + 1) rest) ≡ true
          → found_behind_line limit (at + 1) (rest ++ more) ≡ found_behind_line limit (at + 1) rest)
          → is_whole (if c then found limit (at + 1) rest else found_behind_line limit (at + 1) rest) ≡ true
          → ◌≡◌ {A = Found} (if c then found limit (at + 1) (rest ++ more) else found_behind_line limit (at + 1) (rest ++ more))
          (if c then found limit (at + 1) rest else found_behind_line limit (at + 1) rest)
      by true f g h = f h
      by false f g h = g h
