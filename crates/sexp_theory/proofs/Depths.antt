-- The values that are found in bytes are of bytes, and at most 256 lists stand inside one another.
use Rattle.std.proofs.Common.{◌≡◌, ℕ, ◌+◌, ◌-◌, ◌*◌, max, ◌<◌, ◌≤◌, ◌&&◌, ◌||◌, ◌==◌, List, [], ◌∷◌, ◌++◌, length, nat_le, nat_lt, not}
use Rattle.std.proofs.Common.{Bool, true, false, Option, Some, None, if◌then◌else◌, refl, ◌∙◌, subst, arith}
use Rattle.std.specs.List.{list_all, All}
use Rattle.std.specs.Char.{digit_value}
use Rattle.std.proofs.lemmas.List.Folds.{list_all-append}
use Rattle.std.proofs.lemmas.Bool.{lt-ltb, ltb-true, and_parts, and_from, cond_both}
use Rattle.sexp_theory.specs.Values.{Value, atom, list, values, nesting, nesting_of_all, HasBytes, HaveBytes}
use Rattle.sexp_theory.specs.Signs.{is_blank, is_delimiter, is_decimal, is_hexadecimal, letter_value}
use Rattle.sexp_theory.proofs.AtomTexts.{is_byte, all_bytes, below_all}
use Rattle.sexp_theory.specs.Places.{Found, nothing, unfinished, last_run, value, bad}
use Rattle.sexp_theory.specs.Machine.{State, Step, on, whole, shown, Mode, between, commented, run, hash, quoted, escaped, decimal1}
use Rattle.sexp_theory.specs.Machine.{decimal2, hexadecimal0, hexadecimal1, step, step_in, step_between, step_behind_run, step_run}
use Rattle.sexp_theory.specs.Machine.{step_hash, step_quoted, step_escaped, step_decimal1, step_decimal2, step_hexadecimal0}
use Rattle.sexp_theory.specs.Machine.{step_hexadecimal1, run_mode, is_outer_run, opens, closes, ends_value, is_behind, found_from, found}
use Rattle.sexp_theory.specs.Machine.{found_behind_line, start}
use Rattle.sexp_theory.specs.Written.{IsOfBytes, IsShallow}
use Rattle.sexp_theory.specs.Items.{Taken, Unread, first_of, next_item, taken_of}

-- ---- what each state keeps, where the text is of bytes (B) or not

module _ (B : Type 0) where
  abbrev GoodLists : List (List Value) → Type 0
  GoodLists [] = Unit {0}
  GoodLists (vs ∷ lists) = (B → HaveBytes (values vs)) × (nesting_of_all (values vs) + length lists < 256) × GoodLists lists

  abbrev ModeFits : Mode → Type 0
  ModeFits (hexadecimal1 n) = n < 16
  ModeFits mode = Unit {0}

  record IsGood (s : State) : Type 0 where
    bytes : B → list_all is_byte s.atom ≡ true
    mode : ModeFits s.mode
    lists : GoodLists s.lists

  abbrev GoodStep : Step → Type 0
  GoodStep (on t) = IsGood t
  GoodStep (whole v) = (B → HasBytes v) × (nesting v ≤ 256)
  GoodStep (shown kind back) = Unit {0}

  -- ---- a value more in a list

  have_one_more : (vs : List Value) (v : Value) → HaveBytes (values vs) → HasBytes v → HaveBytes (values (vs ++ v ∷ []))
  have_one_more [] v h k = (k, tt)
  have_one_more (w ∷ vs) v h k = (h.0, have_one_more vs v h.1 k)

  nesting_one_more : (vs : List Value) (v : Value) → nesting_of_all (values (vs ++ v ∷ [])) ≡ max (nesting_of_all (values vs)) (nesting v)
  nesting_one_more [] v = omega arith
  nesting_one_more (w ∷ vs) v = omega (arith, nesting_one_more vs v)

  lists_one_more : (vs : List Value) (v : Value) (lists : List (List Value)) → (B → HasBytes v) → nesting v + length lists < 256
      → GoodLists (vs ∷ lists) → GoodLists ((vs ++ v ∷ []) ∷ lists)
  lists_one_more vs v lists h deep g = ((λ t. have_one_more vs v (g.0 t) (h t)), omega (arith, deep, g.1, nesting_one_more vs v), g.2)

  atom_bytes : (bytes : List ℕ) → (B → list_all is_byte bytes ≡ true) → B → All (λ b. b < 256) bytes
  atom_bytes bytes e t = below_all bytes (e t)

  one_byte_more : (bytes : List ℕ) (b : ℕ) → (B → list_all is_byte bytes ≡ true) → (B → b < 256) → B
      → list_all is_byte (bytes ++ b ∷ []) ≡ true
  one_byte_more bytes b e h t =
      list_all-append is_byte bytes (b ∷ []) ∙ and_from (list_all is_byte bytes) (list_all is_byte (b ∷ [])) (e t)
      (and_from (is_byte b) true (lt-ltb b 256 (h t)) refl)

  -- ---- steps

  ends_good : (v : Value) (lists : List (List Value)) → (B → HasBytes v) → nesting v + length lists ≤ 256 → GoodLists lists
      → GoodStep (ends_value v lists)
  ends_good v [] h deep g = (h, omega (arith, deep))
  ends_good v (vs ∷ lists) h deep g = record { bytes = λ _. refl; mode = tt; lists = lists_one_more vs v lists h (omega (arith, deep)) g }

  closes_good : (lists : List (List Value)) → GoodLists lists → GoodStep (closes lists)
  closes_good [] g = tt
  closes_good (vs ∷ lists) g = ends_good (list (values vs)) lists g.0 (omega (arith, g.1)) g.2

  opens_good : (lists : List (List Value)) → GoodLists lists → GoodStep (opens lists)
  opens_good lists g =
      cond_both (nat_lt (length lists) 256) _ _ GoodStep
      (λ e. record { bytes = λ _. refl; mode = tt; lists = ((λ _. tt), omega (arith, ltb-true (length lists) 256 e), g) })
      (λ e. tt)

  run_mode_fits : (b : ℕ) → ModeFits (run_mode b)
  run_mode_fits b = cond_both (b == 35) _ _ ModeFits (λ e. tt) (λ e. tt)

  between_good : (lists : List (List Value)) (b : ℕ) → (B → b < 256) → GoodLists lists → GoodStep (step_between lists b)
  between_good lists b h g =
      cond_both (is_blank b) _ _ GoodStep (λ e. record { bytes = λ _. refl; mode = tt; lists = g })
      (λ _. cond_both (b == 59) _ _ GoodStep (λ e. record { bytes = λ _. refl; mode = tt; lists = g })
      (λ _. cond_both (b == 40) _ _ GoodStep (λ e. opens_good lists g)
      (λ _. cond_both (b == 41) _ _ GoodStep (λ e. closes_good lists g)
      (λ _. cond_both (b == 34) _ _ GoodStep (λ e. record { bytes = λ _. refl; mode = tt; lists = g })
      (λ _. record { bytes = one_byte_more [] b (λ _. refl) h; mode = run_mode_fits b; lists = g })))))

  behind_run_good : (bytes : List ℕ) (lists : List (List Value)) (b : ℕ) → (B → b < 256) → (B → list_all is_byte bytes ≡ true)
      → GoodLists lists → GoodStep (step_behind_run bytes lists b)
  behind_run_good bytes [] b h e g = (atom_bytes bytes e, omega arith)
  behind_run_good bytes (vs ∷ lists) b h e g = between_good ((vs ++ atom bytes ∷ []) ∷ lists) b h
      (lists_one_more vs (atom bytes) lists (atom_bytes bytes e) (omega (arith, g.1)) g)

  run_good : (s : State) (b : ℕ) → (B → b < 256) → IsGood s → GoodStep (step_run s b)
  run_good s b h g =
      cond_both (is_delimiter b) _ _ GoodStep (λ e. behind_run_good s.atom s.lists b h g.bytes g.lists)
      (λ e. record { bytes = one_byte_more s.atom b g.bytes h; mode = run_mode_fits b; lists = g.lists })

  hash_good : (s : State) (b : ℕ) → (B → b < 256) → IsGood s → GoodStep (step_hash s b)
  hash_good s b h g = cond_both (b == 59 || b == 124) _ _ GoodStep (λ e. tt) (λ e. run_good s b h g)

  adds_good : (s : State) (b : ℕ) → (B → b < 256) → IsGood s
      → GoodStep (on (record { mode = quoted; atom = s.atom ++ b ∷ []; lists = s.lists }))
  adds_good s b h g = record { bytes = one_byte_more s.atom b g.bytes h; mode = tt; lists = g.lists }

  moves_good : (s : State) (mode : Mode) → ModeFits mode → IsGood s → GoodStep (on (record { mode = mode; atom = s.atom; lists = s.lists }))
  moves_good s mode fits g = record { bytes = g.bytes; mode = fits; lists = g.lists }

  -- the lists that are open are at most 256
  few_lists : (lists : List (List Value)) → GoodLists lists → length lists ≤ 256
  few_lists [] g = omega arith
  few_lists (vs ∷ lists) g = omega (arith, g.1)

  quoted_good : (s : State) (b : ℕ) → (B → b < 256) → IsGood s → GoodStep (step_quoted s b)
  quoted_good s b h g =
      cond_both (b == 34) _ _ GoodStep (λ e. ends_good (atom s.atom) s.lists (atom_bytes s.atom g.bytes)
      (omega (arith, few_lists s.lists g.lists)) g.lists)
      (λ _. cond_both (b == 92) _ _ GoodStep (λ e. moves_good s escaped tt g) (λ e. adds_good s b h g))

  escaped_good : (s : State) (b : ℕ) → (B → b < 256) → IsGood s → GoodStep (step_escaped s b)
  escaped_good s b h g =
      cond_both (nat_lt (letter_value b) 256) _ _ GoodStep (λ e. adds_good s (letter_value b) (λ _. ltb-true (letter_value b) 256 e) g)
      (λ _. cond_both (b == 120) _ _ GoodStep (λ e. moves_good s hexadecimal0 tt g)
      (λ _. cond_both (nat_lt (digit_value b) 3) _ _ GoodStep (λ e. moves_good s (decimal1 (digit_value b)) tt g) (λ e. tt)))

  decimal1_good : (n : ℕ) (s : State) (b : ℕ) → IsGood s → GoodStep (step_decimal1 n s b)
  decimal1_good n s b g = cond_both (is_decimal b && nat_lt (n * 100 + digit_value b * 10) 256) _ _ GoodStep
      (λ e. moves_good s (decimal2 (n * 10 + digit_value b)) tt g) (λ e. tt)

  decimal2_good : (n : ℕ) (s : State) (b : ℕ) → IsGood s → GoodStep (step_decimal2 n s b)
  decimal2_good n s b g =
      cond_both (is_decimal b && nat_lt (n * 10 + digit_value b) 256) _ _ GoodStep
      (λ e. adds_good s (n * 10 + digit_value b) (λ _.
      ltb-true (n * 10 + digit_value b) 256 (and_parts (is_decimal b) (nat_lt (n * 10 + digit_value b) 256) e).1) g) (λ e. tt)

  hexadecimal0_good : (s : State) (b : ℕ) → IsGood s → GoodStep (step_hexadecimal0 s b)
  hexadecimal0_good s b g = cond_both (is_hexadecimal b) _ _ GoodStep
      (λ e. moves_good s (hexadecimal1 (digit_value b)) (ltb-true (digit_value b) 16 e) g) (λ e. tt)

  hexadecimal1_good : (n : ℕ) (s : State) (b : ℕ) → n < 16 → IsGood s → GoodStep (step_hexadecimal1 n s b)
  hexadecimal1_good n s b fits g =
      cond_both (is_hexadecimal b) _ _ GoodStep (λ e.
      adds_good s (n * 16 + digit_value b) (λ _. omega (arith, fits, ltb-true (digit_value b) 16 e)) g) (λ e. tt)

  in_mode_good : (mode : Mode) (s : State) (b : ℕ) → (B → b < 256) → ModeFits mode → IsGood s → GoodStep (step_in mode s b)
  in_mode_good between s b h fits g = between_good s.lists b h g.lists
  in_mode_good commented s b h fits g = moves_good s (if b == 10 then between else commented)
      (cond_both (b == 10) _ _ ModeFits (λ e. tt) (λ e. tt)) g
  in_mode_good run s b h fits g = run_good s b h g
  in_mode_good hash s b h fits g = hash_good s b h g
  in_mode_good quoted s b h fits g = quoted_good s b h g
  in_mode_good escaped s b h fits g = escaped_good s b h g
  in_mode_good (decimal1 n) s b h fits g = decimal1_good n s b g
  in_mode_good (decimal2 n) s b h fits g = decimal2_good n s b g
  in_mode_good hexadecimal0 s b h fits g = hexadecimal0_good s b g
  in_mode_good (hexadecimal1 n) s b h fits g = hexadecimal1_good n s b fits g

  step_good : (s : State) (b : ℕ) → (B → b < 256) → IsGood s → GoodStep (step s b)
  step_good s b h g = in_mode_good s.mode s b h g.mode g

  -- ---- what is found

  abbrev GoodFound : Found → Type 0
  GoodFound nothing = Unit {0}
  GoodFound (unfinished from) = Unit {0}
  GoodFound (last_run bytes from) = B → list_all is_byte bytes ≡ true
  GoodFound (value v from to) = (B → HasBytes v) × (nesting v ≤ 256)
  GoodFound (bad kind offset) = Unit {0}

  from_good : (limit from n : ℕ) (s : State) (text : List ℕ) → (B → list_all is_byte text ≡ true) → IsGood s
      → GoodFound (found_from limit from n s text)
  from_good limit from n s [] h g = cond_both (is_outer_run s.mode s.lists) (last_run s.atom from) (unfinished from) GoodFound
      (λ e. g.bytes) (λ e. tt)
  from_good limit from n s (b ∷ rest) h g =
      let p : B → (is_byte b ≡ true) × (list_all is_byte rest ≡ true) = λ t. and_parts (is_byte b) (list_all is_byte rest) (h t) in
      cond_both (not (is_behind s b) && nat_le limit n) _ _ GoodFound (λ e. tt)
      (λ e. go (step s b) (step_good s b (λ t. ltb-true b 256 (p t).0) g) (λ t k. from_good limit from (n + 1) t rest (λ t. (p t).1) k))
    where
      go : (made : Step) → GoodStep made → ((t : State) → IsGood t → GoodFound (found_from limit from (n + 1) t rest))
          → GoodFound (elim made [
            | on t ↦ found_from limit from (n + 1) t rest
            | whole v
                ↦ value v from (if is_behind s b then from + n else from + n + 1)
            | shown kind back ↦ bad kind (from + n - back)
          ])
      go (on t) k more = more t k
      go (whole v) k more = k
      go (shown kind back) k more = tt

  mutual
    found_good : (limit at : ℕ) (text : List ℕ) → (B → list_all is_byte text ≡ true) → GoodFound (found limit at text)
    found_good limit at [] h = tt
    found_good limit at (b ∷ rest) h =
        cond_both (is_blank b) _ _ GoodFound (λ e. found_good limit (at + 1) rest
        (λ t. (and_parts (is_byte b) (list_all is_byte rest) (h t)).1))
        (λ _. cond_both (b == 59) _ _ GoodFound (λ e. behind_line_good limit (at + 1) rest
        (λ t. (and_parts (is_byte b) (list_all is_byte rest) (h t)).1))
        (λ _. from_good limit at 0 start (b ∷ rest) h (record { bytes = λ _. refl; mode = tt; lists = tt })))

    behind_line_good : (limit at : ℕ) (text : List ℕ) → (B → list_all is_byte text ≡ true) → GoodFound (found_behind_line limit at text)
    behind_line_good limit at [] h = tt
    behind_line_good limit at (b ∷ rest) h =
        cond_both (b == 10) _ _ GoodFound (λ e. found_good limit (at + 1) rest
        (λ t. (and_parts (is_byte b) (list_all is_byte rest) (h t)).1))
        (λ e. behind_line_good limit (at + 1) rest (λ t. (and_parts (is_byte b) (list_all is_byte rest) (h t)).1))

  abbrev GoodTaken : Option Taken → Type 0
  GoodTaken None = Unit {0}
  GoodTaken (Some t) = (B → IsOfBytes t.item) × IsShallow t.item

  taken_good : (ended : Bool) (u : Unread) (f : Found) → GoodFound f → GoodTaken (taken_of ended u f)
  taken_good ended u nothing g = tt
  taken_good ended u (unfinished from) g = tt
  taken_good true u (last_run bytes from) g = (atom_bytes bytes g, omega arith)
  taken_good false u (last_run bytes from) g = tt
  taken_good ended u (value v from to) g = g
  taken_good ended u (bad kind offset) g = ((λ _. tt), tt)

  first_good : (limit : ℕ) (u : Unread) → (B → list_all is_byte u.bytes ≡ true) → GoodFound (first_of limit u)
  first_good limit u h = cond_both u.skipping (found_behind_line limit u.at u.bytes) (found limit u.at u.bytes) GoodFound
      (λ e. behind_line_good limit u.at u.bytes h) (λ e. found_good limit u.at u.bytes h)

-- a value that is taken from bytes is of bytes
pub item_of_bytes : (limit : ℕ) (ended : Bool) (u : Unread) (t : Taken) → All (λ b. b < 256) u.bytes → next_item limit ended u ≡ Some t
    → IsOfBytes t.item
item_of_bytes limit ended u t h e =
    let good = subst (GoodTaken (Unit {0})) e (taken_good (Unit {0}) ended u (first_of limit u)
    (first_good (Unit {0}) limit u (λ _. all_bytes u.bytes h))) in
    good.0 tt

-- a value that is taken has no more lists inside one another than an item may have
pub item_shallow : (limit : ℕ) (ended : Bool) (u : Unread) (t : Taken) → next_item limit ended u ≡ Some t → IsShallow t.item
item_shallow limit ended u t e = (subst (GoodTaken ⊥) e
    (taken_good ⊥ ended u (first_of limit u) (first_good ⊥ limit u (λ none. absurd none)))).1
