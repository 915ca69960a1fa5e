-- A written value is read again.
use Rattle.std.proofs.Common.{◌≡◌, ℕ, ◌+◌, ◌<◌, ◌≤◌, ◌&&◌, ◌||◌, ◌==◌, List, [], ◌∷◌, ◌++◌, length, nat_le, nat_lt, not, Bool, true}
use Rattle.std.proofs.Common.{false, if◌then◌else◌, append_assoc, append-nil, length-append, refl, sym, ap, ◌∙◌, subst, arith}
use Rattle.std.specs.List.{list_all, All}
use Rattle.std.proofs.lemmas.Bool.{lt-ltb, leb-true, and_parts, and_right, or_parts, not-true, agree_below_at, false≢true, cond_both}
use Rattle.sexp_theory.specs.Values.{Value, atom, list, Values, nil, cons, values, nesting, nesting_of_all, HasBytes, HaveBytes}
use Rattle.sexp_theory.specs.Signs.{is_blank, is_delimiter}
use Rattle.sexp_theory.specs.Writing as writing
use Rattle.sexp_theory.specs.Writing.{is_bare, is_bare_atom, quoted_bytes, atom_text, text, texts, texts_behind}
use Rattle.sexp_theory.specs.Written.{is_bare_value}
use Rattle.sexp_theory.specs.Places.{last_run, value}
use Rattle.sexp_theory.specs.Machine.{State, on, whole, between, run, found_from, found, start}
use Rattle.sexp_theory.proofs.Goes.{Goes, stays, goes_by, goes_on, last_step}
use Rattle.sexp_theory.proofs.AtomTexts.{all_bytes, inside, bytes_go}

-- ---- atoms without quotes

bare_or_not : (b : ℕ) → b < 127 → (not (is_bare b) || (not (is_delimiter b) && not (b == 35))) ≡ true
bare_or_not b h = agree_below_at (λ b. not (is_bare b) || (not (is_delimiter b) && not (b == 35))) (λ _. true) 127 b refl h

pub bare_parts : (b : ℕ) → is_bare b ≡ true → (is_delimiter b ≡ false) × ((b == 35) ≡ false)
bare_parts b e =
    let most : b ≤ 126 = leb-true b 126 (and_parts (nat_le 33 b) (nat_le b 126)
    (and_parts (nat_le 33 b && nat_le b 126) (not (b == 34 || b == 35 || b == 40 || b == 41 || b == 59 || b == 92 || b == 124))
    e).0).1 in
    let both : (not (is_delimiter b) && not (b == 35)) ≡ true = sym (ap (λ t. not t || (not (is_delimiter b) && not (b == 35))) e)
    ∙ bare_or_not b (omega (arith, most)) in
    let p = and_parts (not (is_delimiter b)) (not (b == 35)) both in
    (not-true (is_delimiter b) p.0, not-true (b == 35) p.1)

-- a byte that is no delimiter
pub record Plain (b : ℕ) : Type 0 where
  pub blank : is_blank b ≡ false
  pub quote : (b == 34) ≡ false
  pub opening : (b == 40) ≡ false
  pub closing : (b == 41) ≡ false
  pub semicolon : (b == 59) ≡ false

pub plain_parts : (b : ℕ) → is_delimiter b ≡ false → Plain b
plain_parts b e =
    let p = or_parts (is_blank b || b == 34 || b == 40 || b == 41) (b == 59) e in
    let q = or_parts (is_blank b || b == 34 || b == 40) (b == 41) p.0 in
    let r = or_parts (is_blank b || b == 34) (b == 40) q.0 in
    let s = or_parts (is_blank b) (b == 34) r.0 in
    record { blank = s.0; quote = s.1; opening = r.1; closing = q.1; semicolon = p.1 }

-- between values of these lists, and in a run of these bytes
abbrev pub at_rest : List (List Value) → State
at_rest lists = record { mode = between; atom = []; lists = lists }

abbrev pub running : List ℕ → List (List Value) → State
running bytes lists = record { mode = run; atom = bytes; lists = lists }

first_goes : (b : ℕ) (lists : List (List Value)) → is_bare b ≡ true → Goes (at_rest lists) (b ∷ []) (running (b ∷ []) lists)
first_goes b lists e =
    let p = bare_parts b e in
    let f = plain_parts b p.0 in
    let p0 : is_blank b ≡ false = f.blank in
    let p1 : (b == 34) ≡ false = f.quote in
    let p2 : (b == 40) ≡ false = f.opening in
    let p3 : (b == 41) ≡ false = f.closing in
    let p4 : (b == 59) ≡ false = f.semicolon in
    let p5 : (b == 35) ≡ false = p.1 in
    goes_by b (at_rest lists) (running (b ∷ []) lists) refl (rw (p0, p4, p2, p3, p1, p5) refl)

next_goes : (b : ℕ) (bytes : List ℕ) (lists : List (List Value)) → is_bare b ≡ true
    → Goes (running bytes lists) (b ∷ []) (running (bytes ++ b ∷ []) lists)
next_goes b bytes lists e =
    let p = bare_parts b e in
    let p0 : is_delimiter b ≡ false = p.0 in
    let p1 : (b == 35) ≡ false = p.1 in
    goes_by b (running bytes lists) (running (bytes ++ b ∷ []) lists) (rw p0 (and_right _ false refl)) (rw (p0, p1) refl)

run_goes : (bs bytes : List ℕ) (lists : List (List Value)) → list_all is_bare bs ≡ true
    → Goes (running bytes lists) bs (running (bytes ++ bs) lists)
run_goes [] bytes lists h = subst (λ xs. Goes (running bytes lists) [] (running xs lists)) (sym (append-nil bytes))
    (stays (running bytes lists))
run_goes (b ∷ bs) bytes lists h =
    let p = and_parts (is_bare b) (list_all is_bare bs) h in
    subst (λ xs. Goes (running bytes lists) (b ∷ bs) (running xs lists)) (append_assoc bytes (b ∷ []) bs)
    (goes_on (b ∷ []) bs (running bytes lists) (running (bytes ++ b ∷ []) lists) (running ((bytes ++ b ∷ []) ++ bs) lists)
    (next_goes b bytes lists p.0)
    (run_goes bs (bytes ++ b ∷ []) lists p.1))

pub bare_goes : (bytes : List ℕ) (lists : List (List Value)) → is_bare_atom bytes ≡ true → Goes (at_rest lists) bytes (running bytes lists)
bare_goes [] lists h = absurd (false≢true h)
bare_goes (b ∷ bs) lists h =
    let p = and_parts (is_bare b) (list_all is_bare bs) h in
    goes_on (b ∷ []) bs (at_rest lists) (running (b ∷ []) lists) (running (b ∷ bs) lists) (first_goes b lists p.0)
    (run_goes bs (b ∷ []) lists p.1)

-- the bytes behind a value begin with one that ends a run
abbrev pub Parted : List ℕ → Type 0
Parted [] = ⊥
Parted (b ∷ rest) = is_delimiter b ≡ true

pub run_ends : (limit from n : ℕ) (bytes : List ℕ) (vs : List Value) (lists : List (List Value)) (rest : List ℕ) → Parted rest
    → found_from limit from n (running bytes (vs ∷ lists)) rest ≡ found_from limit from n (at_rest ((vs ++ atom bytes ∷ []) ∷ lists)) rest
run_ends limit from n bytes vs lists [] e = absurd e
run_ends limit from n bytes vs lists (b ∷ rest) e = rw e refl

pub outer_run_ends : (limit from n : ℕ) (bytes : List ℕ) (rest : List ℕ) → Parted rest
    → found_from limit from n (running bytes []) rest ≡ value (atom bytes) from (from + n)
outer_run_ends limit from n bytes [] e = absurd e
outer_run_ends limit from n bytes (b ∷ rest) e = rw (e, e) refl

-- ---- values in lists

-- over the bytes the machine comes from a state to another, where what is behind them ends a run
abbrev pub Leads : State → List ℕ → State → Type 0
Leads s bytes t = (limit from n : ℕ) (rest : List ℕ) → Parted rest → n + length bytes ≤ limit
    → found_from limit from n s (bytes ++ rest) ≡ found_from limit from (n + length bytes) t rest

leads : (s : State) (xs : List ℕ) (t : State) → Goes s xs t → Leads s xs t
leads s xs t p limit from n rest e h = p limit from n rest h

leads_on : (xs ys : List ℕ) (s t u : State) → Leads s xs t → Leads t ys u → ((rest : List ℕ) → Parted rest → Parted (ys ++ rest))
    → Leads s (xs ++ ys) u
leads_on xs ys s t u p q parted limit from n rest e h =
    let long : n + length xs + length ys ≡ n + length (xs ++ ys) = omega (arith, length-append xs ys) in
    ap (found_from limit from n s) (append_assoc xs ys rest)
    ∙ p limit from n (ys ++ rest) (parted rest e) (omega (arith, h, length-append xs ys))
    ∙ q limit from (n + length xs) rest e (omega (arith, h, length-append xs ys))
    ∙ ap (λ k. found_from limit from k u rest) long

goes_lead : (xs ys : List ℕ) (s t u : State) → Goes s xs t → Leads t ys u → Leads s (xs ++ ys) u
goes_lead xs ys s t u p q limit from n rest e h =
    let long : n + length xs + length ys ≡ n + length (xs ++ ys) = omega (arith, length-append xs ys) in
    ap (found_from limit from n s) (append_assoc xs ys rest)
    ∙ p limit from n (ys ++ rest) (omega (arith, h, length-append xs ys))
    ∙ q limit from (n + length xs) rest e (omega (arith, h, length-append xs ys))
    ∙ ap (λ k. found_from limit from k u rest) long

-- the values of a list, in order
abbrev pub listed : Values → List Value
listed nil = []
listed (cons v vs) = v ∷ listed vs

pub values_listed : (vs : Values) → values (listed vs) ≡ vs
values_listed nil = refl
values_listed (cons v vs) = ap (cons v) (values_listed vs)

pub parted_behind : (before : Value) (vs : Values) (rest : List ℕ) → Parted rest → Parted (texts_behind before vs ++ rest)
parted_behind before nil rest e = e
parted_behind (atom bytes) (cons v vs) rest e = refl
parted_behind (list ws) (cons (atom bytes) vs) rest e = refl
parted_behind (list ws) (cons (list us) vs) rest e = refl

between_goes : (before v : Value) (lists : List (List Value)) → Goes (at_rest lists) (writing.between before v) (at_rest lists)
between_goes (atom bytes) v lists = goes_by 32 (at_rest lists) (at_rest lists) refl refl
between_goes (list ws) (atom bytes) lists = goes_by 32 (at_rest lists) (at_rest lists) refl refl
between_goes (list ws) (list vs) lists = stays (at_rest lists)

atom_leads : (bytes : List ℕ) (ps : List Value) (lists : List (List Value)) → All (λ b. b < 256) bytes
    → Leads (at_rest (ps ∷ lists)) (atom_text bytes) (at_rest ((ps ++ atom bytes ∷ []) ∷ lists))
atom_leads bytes ps lists h =
    let P : List ℕ → Type 0 = λ xs. Leads (at_rest (ps ∷ lists)) xs (at_rest ((ps ++ atom bytes ∷ []) ∷ lists)) in
    cond_both (is_bare_atom bytes) bytes (34 ∷ (quoted_bytes bytes ++ 34 ∷ [])) P
    (λ e limit from n rest parted fits. bare_goes bytes (ps ∷ lists) e limit from n rest fits
    ∙ run_ends limit from (n + length bytes) bytes ps lists rest parted)
    (λ e. leads (at_rest (ps ∷ lists)) (34 ∷ (quoted_bytes bytes ++ 34 ∷ [])) (at_rest ((ps ++ atom bytes ∷ []) ∷ lists))
    (goes_on (34 ∷ []) (quoted_bytes bytes ++ 34 ∷ []) (at_rest (ps ∷ lists)) (inside [] (ps ∷ lists))
    (at_rest ((ps ++ atom bytes ∷ []) ∷ lists))
    (goes_by 34 (at_rest (ps ∷ lists)) (inside [] (ps ∷ lists)) refl refl)
    (goes_on (quoted_bytes bytes) (34 ∷ []) (inside [] (ps ∷ lists)) (inside bytes (ps ∷ lists)) (at_rest ((ps ++ atom bytes ∷ []) ∷ lists))
    (bytes_go bytes [] (ps ∷ lists) (all_bytes bytes h))
    (goes_by 34 (inside bytes (ps ∷ lists)) (at_rest ((ps ++ atom bytes ∷ []) ∷ lists)) refl refl))))

opening_goes : (lists : List (List Value)) → length lists < 256 → Goes (at_rest lists) (40 ∷ []) (at_rest ([] ∷ lists))
opening_goes lists h =
    let room : nat_lt (length lists) 256 ≡ true = lt-ltb (length lists) 256 h in
    goes_by 40 (at_rest lists) (at_rest ([] ∷ lists)) refl (rw room refl)

closing_goes : (vs : Values) (ps : List Value) (lists : List (List Value))
    → Goes (at_rest (listed vs ∷ ps ∷ lists)) (41 ∷ []) (at_rest ((ps ++ list vs ∷ []) ∷ lists))
closing_goes vs ps lists =
    goes_by 41 (at_rest (listed vs ∷ ps ∷ lists)) (at_rest ((ps ++ list vs ∷ []) ∷ lists)) refl
    (ap (λ ws. on (at_rest ((ps ++ list ws ∷ []) ∷ lists))) (values_listed vs))

mutual
  value_leads : (v : Value) (ps : List Value) (lists : List (List Value)) → HasBytes v → nesting v + length lists < 256
      → Leads (at_rest (ps ∷ lists)) (text v) (at_rest ((ps ++ v ∷ []) ∷ lists))
  value_leads (atom bytes) ps lists h deep = atom_leads bytes ps lists h
  value_leads (list vs) ps lists h deep =
      goes_lead (40 ∷ []) (texts vs ++ 41 ∷ []) (at_rest (ps ∷ lists)) (at_rest ([] ∷ ps ∷ lists)) (at_rest ((ps ++ list vs ∷ []) ∷ lists))
      (opening_goes (ps ∷ lists) (omega (arith, deep)))
      (leads_on (texts vs) (41 ∷ []) (at_rest ([] ∷ ps ∷ lists)) (at_rest (listed vs ∷ ps ∷ lists)) (at_rest ((ps ++ list vs ∷ []) ∷ lists))
      (texts_lead vs (ps ∷ lists) h (omega (arith, deep)))
      (leads (at_rest (listed vs ∷ ps ∷ lists)) (41 ∷ []) (at_rest ((ps ++ list vs ∷ []) ∷ lists)) (closing_goes vs ps lists))
      (λ rest e. refl))

  texts_lead : (vs : Values) (lists : List (List Value)) → HaveBytes vs → nesting_of_all vs + length lists < 256
      → Leads (at_rest ([] ∷ lists)) (texts vs) (at_rest (listed vs ∷ lists))
  texts_lead nil lists h deep = leads (at_rest ([] ∷ lists)) [] (at_rest ([] ∷ lists)) (stays (at_rest ([] ∷ lists)))
  texts_lead (cons v vs) lists h deep =
      leads_on (text v) (texts_behind v vs) (at_rest ([] ∷ lists)) (at_rest ((v ∷ []) ∷ lists)) (at_rest ((v ∷ listed vs) ∷ lists))
      (value_leads v [] lists h.0 (omega (arith, deep)))
      (behind_leads v vs (v ∷ []) lists h.1 (omega (arith, deep)))
      (parted_behind v vs)

  behind_leads : (before : Value) (vs : Values) (ps : List Value) (lists : List (List Value)) → HaveBytes vs
      → nesting_of_all vs + length lists < 256
      → Leads (at_rest (ps ∷ lists)) (texts_behind before vs) (at_rest ((ps ++ listed vs) ∷ lists))
  behind_leads before nil ps lists h deep =
      subst (λ xs. Leads (at_rest (ps ∷ lists)) [] (at_rest (xs ∷ lists))) (sym (append-nil ps))
      (leads (at_rest (ps ∷ lists)) [] (at_rest (ps ∷ lists)) (stays (at_rest (ps ∷ lists))))
  behind_leads before (cons v vs) ps lists h deep =
      subst (λ xs. Leads (at_rest (ps ∷ lists)) (texts_behind before (cons v vs)) (at_rest (xs ∷ lists)))
      (append_assoc ps (v ∷ []) (listed vs))
      (goes_lead (writing.between before v) (text v ++ texts_behind v vs) (at_rest (ps ∷ lists)) (at_rest (ps ∷ lists))
      (at_rest (((ps ++ v ∷ []) ++ listed vs) ∷ lists))
      (between_goes before v (ps ∷ lists))
      (leads_on (text v) (texts_behind v vs) (at_rest (ps ∷ lists)) (at_rest ((ps ++ v ∷ []) ∷ lists))
      (at_rest (((ps ++ v ∷ []) ++ listed vs) ∷ lists))
      (value_leads v ps lists h.0 (omega (arith, deep)))
      (behind_leads v vs (ps ++ v ∷ []) lists h.1 (omega (arith, deep)))
      (parted_behind v vs)))

-- ---- a value outside of lists

quoted_whole : (limit from : ℕ) (bytes rest : List ℕ) → All (λ b. b < 256) bytes → length (34 ∷ (quoted_bytes bytes ++ 34 ∷ [])) ≤ limit
    → found_from limit from 0 start ((34 ∷ (quoted_bytes bytes ++ 34 ∷ [])) ++ rest)
    ≡ value (atom bytes) from (from + length (34 ∷ (quoted_bytes bytes ++ 34 ∷ [])))
quoted_whole limit from bytes rest h fits =
    let n = length (quoted_bytes bytes) in
    let long : from + (0 + 1 + n) + 1 ≡ from + length (34 ∷ (quoted_bytes bytes ++ 34 ∷ [])) =
    omega (arith, length-append (quoted_bytes bytes) (34 ∷ [])) in
    let room : 0 + 1 + n < limit = omega (arith, fits, length-append (quoted_bytes bytes) (34 ∷ [])) in
    goes_by 34 start (inside [] []) refl refl limit from 0 ((quoted_bytes bytes ++ 34 ∷ []) ++ rest) (omega (arith, room))
    ∙ ap (found_from limit from (0 + 1) (inside [] [])) (append_assoc (quoted_bytes bytes) (34 ∷ []) rest)
    ∙ bytes_go bytes [] [] (all_bytes bytes h) limit from (0 + 1) (34 ∷ rest) (omega (arith, room))
    ∙ last_step limit from (0 + 1 + n) 34 (inside bytes []) (atom bytes) rest refl refl room
    ∙ ap (value (atom bytes) from) long

list_whole : (limit from : ℕ) (vs : Values) (rest : List ℕ) → HaveBytes vs → nesting_of_all vs < 256 → length (text (list vs)) ≤ limit
    → found_from limit from 0 start (text (list vs) ++ rest) ≡ value (list vs) from (from + length (text (list vs)))
list_whole limit from vs rest h deep fits =
    let n = length (texts vs) in
    let long : from + (0 + 1 + n) + 1 ≡ from + length (text (list vs)) = omega (arith, length-append (texts vs) (41 ∷ [])) in
    let room : 0 + 1 + n < limit = omega (arith, fits, length-append (texts vs) (41 ∷ [])) in
    goes_by 40 start (at_rest ([] ∷ [])) refl refl limit from 0 ((texts vs ++ 41 ∷ []) ++ rest) (omega (arith, room))
    ∙ ap (found_from limit from (0 + 1) (at_rest ([] ∷ []))) (append_assoc (texts vs) (41 ∷ []) rest)
    ∙ texts_lead vs [] h (omega (arith, deep)) limit from (0 + 1) (41 ∷ rest) refl (omega (arith, room))
    ∙ last_step limit from (0 + 1 + n) 41 (at_rest (listed vs ∷ [])) (list vs) rest refl (ap (λ ws. whole (list ws)) (values_listed vs))
    room
    ∙ ap (value (list vs) from) long

bare_whole : (limit from : ℕ) (bytes rest : List ℕ) → is_bare_atom bytes ≡ true → length bytes ≤ limit
    → found_from limit from 0 start (bytes ++ rest) ≡ found_from limit from (length bytes) (running bytes []) rest
bare_whole limit from bytes rest e fits =
    let same : 0 + length bytes ≡ length bytes = omega arith in
    bare_goes bytes [] e limit from 0 rest (omega (arith, fits)) ∙ ap (λ n. found_from limit from n (running bytes []) rest) same

-- a bare atom is no blank and no comment
bare_found : (limit at : ℕ) (bytes rest : List ℕ) → is_bare_atom bytes ≡ true
    → found limit at (bytes ++ rest) ≡ found_from limit at 0 start (bytes ++ rest)
bare_found limit at [] rest e = absurd (false≢true e)
bare_found limit at (b ∷ bs) rest e =
    let f = plain_parts b (bare_parts b (and_parts (is_bare b) (list_all is_bare bs) e).0).0 in
    let p0 : is_blank b ≡ false = f.blank in
    let p1 : (b == 59) ≡ false = f.semicolon in
    rw (p0, p1) refl

-- a text in quotes or parentheses is the value, whatever follows
pub whole_found : (limit at : ℕ) (v : Value) (rest : List ℕ) → HasBytes v → nesting v ≤ 256 → length (text v) ≤ limit
    → is_bare_value v ≡ false
    → found limit at (text v ++ rest) ≡ value v at (at + length (text v))
whole_found limit at (atom bytes) rest h deep fits e =
    let quotes : atom_text bytes ≡ 34 ∷ (quoted_bytes bytes ++ 34 ∷ []) =
    ap (λ t. if t then bytes else 34 ∷ (quoted_bytes bytes ++ 34 ∷ [])) e in
    let P : List ℕ → Type 0 = λ xs. length xs ≤ limit → found limit at (xs ++ rest) ≡ value (atom bytes) at (at + length xs) in
    subst P (sym quotes) (quoted_whole limit at bytes rest h) fits
whole_found limit at (list vs) rest h deep fits e = list_whole limit at vs rest h (omega (arith, deep)) fits

-- the text of a bare atom is the atom, where what follows ends a run
pub bare_parted : (limit at : ℕ) (bytes rest : List ℕ) → is_bare_atom bytes ≡ true → length bytes ≤ limit → Parted rest
    → found limit at (bytes ++ rest) ≡ value (atom bytes) at (at + length bytes)
bare_parted limit at bytes rest e fits parted = bare_found limit at bytes rest e ∙ bare_whole limit at bytes rest e fits
    ∙ outer_run_ends limit at (length bytes) bytes rest parted

pub bare_last : (limit at : ℕ) (bytes : List ℕ) → is_bare_atom bytes ≡ true → length bytes ≤ limit
    → found limit at bytes ≡ last_run bytes at
bare_last limit at bytes e fits =
    ap (found limit at) (sym (append-nil bytes)) ∙ bare_found limit at bytes [] e ∙ bare_whole limit at bytes [] e fits

pub bare_text : (bytes : List ℕ) → is_bare_atom bytes ≡ true → atom_text bytes ≡ bytes
bare_text bytes e = ap (λ t. if t then bytes else 34 ∷ (quoted_bytes bytes ++ 34 ∷ [])) e

-- a text is the value, where what follows ends a run
pub value_found : (limit at : ℕ) (v : Value) (rest : List ℕ) → HasBytes v → nesting v ≤ 256 → length (text v) ≤ limit → Parted rest
    → found limit at (text v ++ rest) ≡ value v at (at + length (text v))
value_found limit at (list vs) rest h deep fits parted = whole_found limit at (list vs) rest h deep fits refl
value_found limit at (atom bytes) rest h deep fits parted = by (is_bare_atom bytes) refl
  where
    by : (t : Bool) → is_bare_atom bytes ≡ t → found limit at (atom_text bytes ++ rest)
        ≡ value (atom bytes) at (at + length (atom_text bytes))
    by true e = subst (λ xs. length xs ≤ limit → found limit at (xs ++ rest) ≡ value (atom bytes) at (at + length xs))
        (sym (bare_text bytes e)) (λ f. bare_parted limit at bytes rest e f parted) fits
    by false e = whole_found limit at (atom bytes) rest h deep fits e
