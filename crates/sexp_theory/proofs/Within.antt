-- What stands first in a text lies in it.
use Rattle.std.proofs.Common.{◌≡◌, ℕ, ◌+◌, ◌-◌, ◌*◌, ◌<◌, ◌≤◌, ◌&&◌, ◌||◌, ◌==◌, List, [], ◌∷◌, ◌++◌, length, Bool, true, false, not}
use Rattle.std.proofs.Common.{nat_le, nat_lt, if◌then◌else◌, refl, subst, arith}
use Rattle.std.specs.Char.{digit_value}
use Rattle.sexp_theory.specs.Values.{Value, atom, list, values}
use Rattle.sexp_theory.specs.Signs.{is_blank, is_delimiter, is_decimal, is_hexadecimal, letter_value}
use Rattle.sexp_theory.specs.Places.{most_lists, Found, nothing, unfinished, last_run, value, bad}
use Rattle.sexp_theory.specs.Machine.{Mode, between, commented, run, hash, quoted, escaped, decimal1, decimal2, hexadecimal0}
use Rattle.sexp_theory.specs.Machine.{hexadecimal1, State, Step, on, whole, shown, step, step_in, step_between, step_behind_run, step_run}
use Rattle.sexp_theory.specs.Machine.{ends_value, closes, run_mode, start, is_outer_run, is_behind, found_from, found, found_behind_line}
use Rattle.sexp_theory.specs.declared.input.BadKind.TheVariants.{TooDeep, TooLong, HashBar}

-- how many bytes of the item a mode has behind it, at the least
abbrev reach : Mode → ℕ
reach between = 0
reach commented = 0
reach run = 1
reach hash = 1
reach quoted = 0
reach escaped = 1
reach (decimal1 n) = 2
reach (decimal2 n) = 3
reach hexadecimal0 = 2
reach (hexadecimal1 n) = 3

abbrev StepWithin : ℕ → Step → Type 0
StepWithin r (on t) = reach t.mode ≤ r + 1
StepWithin r (whole v) = Unit {0}
StepWithin r (shown kind back) = back ≤ r

either : (r : ℕ) (c : Bool) (x y : Step) → StepWithin r x → StepWithin r y → StepWithin r (if c then x else y)
either r true x y h k = h
either r false x y h k = k

run_mode-within : (r b : ℕ) → reach (run_mode b) ≤ r + 1
run_mode-within r b = by (b == 35)
  where
    by : (c : Bool) → reach (if c then hash else run) ≤ r + 1
    by true = omega arith
    by false = omega arith

ends_value-within : (r : ℕ) (v : Value) (lists : List (List Value)) → StepWithin r (ends_value v lists)
ends_value-within r v [] = tt
ends_value-within r v (vs ∷ lists) = omega arith

closes-within : (r : ℕ) (lists : List (List Value)) → StepWithin r (closes lists)
closes-within r [] = omega arith
closes-within r (vs ∷ lists) = ends_value-within r (list (values vs)) lists

between-within : (r : ℕ) (lists : List (List Value)) (b : ℕ) → StepWithin r (step_between lists b)
between-within r lists b =
    either r (is_blank b) _ _ (omega arith) (either r (b == 59) _ _ (omega arith) (either r (b == 40) _ _
    (either r (nat_lt (length lists) most_lists) (on (record { mode = between; atom = []; lists = [] ∷ lists })) (shown TooDeep 0)
    (omega arith) (omega arith))
    (either r (b == 41) _ _ (closes-within r lists) (either r (b == 34) _ _ (omega arith) (run_mode-within r b)))))

behind_run-within : (r : ℕ) (bytes : List ℕ) (lists : List (List Value)) (b : ℕ) → StepWithin r (step_behind_run bytes lists b)
behind_run-within r bytes [] b = tt
behind_run-within r bytes (vs ∷ lists) b = between-within r ((vs ++ atom bytes ∷ []) ∷ lists) b

run-within : (r : ℕ) (s : State) (b : ℕ) → StepWithin r (step_run s b)
run-within r s b = either r (is_delimiter b) _ _ (behind_run-within r s.atom s.lists b) (run_mode-within r b)

comment-within : (c : Bool) → reach (if c then between else commented) ≤ 1
comment-within true = omega arith
comment-within false = omega arith

step-within : (mode : Mode) (s : State) (b : ℕ) → StepWithin (reach mode) (step_in mode s b)
step-within between s b = between-within 0 s.lists b
step-within commented s b = comment-within (b == 10)
step-within run s b = run-within 1 s b
step-within hash s b = either 1 (b == 59 || b == 124) (shown HashBar 1) (step_run s b) (omega arith) (run-within 1 s b)
step-within quoted s b =
    either 0 (b == 34) _ _ (ends_value-within 0 (atom s.atom) s.lists) (either 0 (b == 92) _ _ (omega arith) (omega arith))
step-within escaped s b =
    either 1 (nat_lt (letter_value b) 256) _ _ (omega arith)
    (either 1 (b == 120) _ _ (omega arith) (either 1 (nat_lt (digit_value b) 3) _ _ (omega arith) (omega arith)))
step-within (decimal1 n) s b = either 2 (is_decimal b && nat_lt (n * 100 + digit_value b * 10) 256) _ _ (omega arith) (omega arith)
step-within (decimal2 n) s b = either 3 (is_decimal b && nat_lt (n * 10 + digit_value b) 256) _ _ (omega arith) (omega arith)
step-within hexadecimal0 s b = either 2 (is_hexadecimal b) _ _ (omega arith) (omega arith)
step-within (hexadecimal1 n) s b = either 3 (is_hexadecimal b) _ _ (omega arith) (omega arith)

-- what was found lies in a text that begins at an offset and ends before another, and an item that begins there
abbrev pub IsWithin : ℕ → ℕ → Found → Type 0
IsWithin from end nothing = Unit {0}
IsWithin from end (unfinished first) = (from ≤ first) × (first < end)
IsWithin from end (last_run bytes first) = (from ≤ first) × (first < end)
IsWithin from end (value v first to) = (from ≤ first) × (first < to) × (to ≤ end)
IsWithin from end (bad kind offset) = (from ≤ offset) × (offset < end)

abbrev after : ℕ → ℕ → ℕ → Bool → Step → List ℕ → Found
after limit from n behind x rest =
    elim x [
      | on t ↦ found_from limit from (n + 1) t rest
      | whole v ↦ value v from (if behind then from + n else from + n + 1)
      | shown kind back ↦ bad kind (from + n - back)
    ]

behind-some : (mode : Mode) (lists : List (List Value)) (b n : ℕ) → reach mode ≤ n → is_outer_run mode lists && is_delimiter b ≡ true
    → 0 < n
behind-some run lists b n h e = omega (arith, h)
behind-some hash lists b n h e = omega (arith, h)
behind-some mode lists b n h e = absurd (cc)

pub found_from-within : (limit from n : ℕ) (s : State) (text : List ℕ) → reach s.mode ≤ n → 0 < n + length text
    → IsWithin from (from + n + length text) (found_from limit from n s text)
found_from-within limit from n s [] h some = by (is_outer_run s.mode s.lists)
  where
    by : (c : Bool) → IsWithin from (from + n + 0) (if c then last_run s.atom from else unfinished from)
    by true = (omega arith, omega (arith, some))
    by false = (omega arith, omega (arith, some))
found_from-within limit from n s (b ∷ rest) h some =
    by (not (is_behind s b) && nat_le limit n) (step s b) (step-within s.mode s b) (is_behind s b) (behind-some s.mode s.lists b n h)
    (λ t w. found_from-within limit from (n + 1) t rest w (omega arith))
  where
    by : (c : Bool) (x : Step) → StepWithin (reach s.mode) x → (d : Bool) → (d ≡ true → 0 < n)
        → ((t : State) → reach t.mode ≤ n + 1 → IsWithin from (from + (n + 1) + length rest) (found_from limit from (n + 1) t rest))
        → IsWithin from (from + n + length (b ∷ rest)) (if c then bad TooLong (from + n) else after limit from n d x rest)
    by true x w d k f = (omega arith, omega arith)
    by false (on t) w d k f = subst (λ end. IsWithin from end (found_from limit from (n + 1) t rest)) (omega arith)
        (f t (omega (arith, w, h)))
    by false (whole v) w true k f = (omega arith, omega (arith, k refl), omega arith)
    by false (whole v) w false k f = (omega arith, omega arith, omega arith)
    by false (shown kind back) w d k f = (omega (arith, w, h), omega arith)

-- from an earlier offset on
earlier : (a from end : ℕ) (f : Found) → a ≤ from → IsWithin from end f → IsWithin a end f
earlier a from end nothing h w = tt
earlier a from end (unfinished first) h w = (omega (arith, h, w.0), w.1)
earlier a from end (last_run bytes first) h w = (omega (arith, h, w.0), w.1)
earlier a from end (value v first to) h w = (omega (arith, h, w.0), w.1, w.2)
earlier a from end (bad kind offset) h w = (omega (arith, h, w.0), w.1)

one_earlier : (at : ℕ) (b : ℕ) (rest : List ℕ) (f : Found) → IsWithin (at + 1) (at + 1 + length rest) f
    → IsWithin at (at + length (b ∷ rest)) f
one_earlier at b rest f w = earlier at (at + 1) (at + length (b ∷ rest)) f (omega arith)
    (subst (λ end. IsWithin (at + 1) end f) (omega arith) w)

mutual
  pub found-within : (limit at : ℕ) (text : List ℕ) → IsWithin at (at + length text) (found limit at text)
  found-within limit at [] = tt
  found-within limit at (b ∷ rest) =
      by (is_blank b) (b == 59) (one_earlier at b rest _ (found-within limit (at + 1) rest))
      (one_earlier at b rest _ (found_behind_line-within limit (at + 1) rest))
      (subst (λ end. IsWithin at end (found_from limit at 0 start (b ∷ rest))) (omega arith)
      (found_from-within limit at 0 start (b ∷ rest) (omega arith) (omega arith)))
    where
      by : (c d : Bool) → IsWithin at (at + length (b ∷ rest)) (found limit (at + 1) rest)
          → IsWithin at (at + length (b ∷ rest)) (found_behind_line limit (at + 1) rest)
          → IsWithin at (at + length (b ∷ rest)) (found_from limit at 0 start (b ∷ rest))
          → IsWithin at (at + length (b ∷ rest)) (if c then found limit (at + 1) rest else
          (if d then found_behind_line limit (at + 1) rest else found_from limit at 0 start (b ∷ rest)))
      by true d f g k = f
      by false true f g k = g
      by false false f g k = k

  pub found_behind_line-within : (limit at : ℕ) (text : List ℕ) → IsWithin at (at + length text) (found_behind_line limit at text)
  found_behind_line-within limit at [] = tt
  found_behind_line-within limit at (b ∷ rest) =
      by (b == 10) (one_earlier at b rest _ (found-within limit (at + 1) rest))
      (one_earlier at b rest _ (found_behind_line-within limit (at + 1) rest))
    where
      by : (c : Bool) → IsWithin at (at + length (b ∷ rest)) (found limit (at + 1) rest)
          → IsWithin at (at + length (b ∷ rest)) (found_behind_line limit (at + 1) rest)
          → IsWithin at (at + length (b ∷ rest)) (if c then found limit (at + 1) rest else found_behind_line limit (at + 1) rest)
      by true f g = f
      by false f g = g
