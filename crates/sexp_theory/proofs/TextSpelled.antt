-- The text of a value spells the value.
use Rattle.std.proofs.Common.{◌≡◌, ◌≢◌, inl, inr, ℕ, ◌+◌, ◌*◌, ◌/◌, ◌%◌, ◌<◌, ◌&&◌, ◌||◌, ◌==◌, List, [], ◌∷◌, ◌++◌, nat_lt, not, true}
use Rattle.std.proofs.Common.{false, refl, sym, ap, ◌∙◌, arith}
use Rattle.std.specs.List.{list_all, All}
use Rattle.std.specs.Char.{digit_value}
use Rattle.std.proofs.lemmas.List.Sums.{AllPass-from_list_all}
use Rattle.std.proofs.lemmas.List.Folds.{list_all-append}
use Rattle.std.proofs.lemmas.Bool.{ltb-true, eqb-true, eq-eqb, and_parts, and_from, agree_below_at, cond_both, false≢true}
use Rattle.sexp_theory.specs.Values.{Value, atom, list, Values, nil, cons, HasBytes, HaveBytes}
use Rattle.sexp_theory.specs.Signs.{is_plain}
use Rattle.sexp_theory.specs.Spelling.{IsGap, IsRun, IsByte, itself, letter, decimal, AreBytes, Ends, Spells, SpellAll}
use Rattle.sexp_theory.specs.Writing as writing
use Rattle.sexp_theory.specs.Writing.{is_bare, is_bare_atom, is_itself, decimal_escape, quoted_byte, quoted_bytes, atom_text, text, texts}
use Rattle.sexp_theory.specs.Writing.{texts_behind}
use Rattle.sexp_theory.proofs.AtomTexts.{is_byte, all_bytes, itself_parts, sign_value, first_digit, second_digit, third_digit}
use Rattle.sexp_theory.proofs.ReadAgain.{bare_parts}

-- ---- atoms

plain_bare : (bs : List ℕ) → list_all is_bare bs ≡ true → list_all is_plain bs ≡ true
plain_bare [] e = refl
plain_bare (b ∷ bs) e =
    let p = and_parts (is_bare b) (list_all is_bare bs) e in
    and_from (is_plain b) (list_all is_plain bs) (ap not (bare_parts b p.0).0) (plain_bare bs p.1)

is_run : (bytes : List ℕ) → is_bare_atom bytes ≡ true → IsRun bytes
is_run [] e = absurd (false≢true e)
is_run (b ∷ bs) e = record {
  some = omega arith;
  plain = AllPass-from_list_all is_plain (b ∷ bs) (plain_bare (b ∷ bs) e);
  no_hash_bar = λ before after same.
      let all : (list_all is_bare before && list_all is_bare (35 ∷ 124 ∷ after)) ≡ true =
      sym (list_all-append is_bare before (35 ∷ 124 ∷ after)) ∙ ap (list_all is_bare) (sym same) ∙ e in
      false≢true (and_parts (list_all is_bare before) (list_all is_bare (35 ∷ 124 ∷ after)) all).1;
}

differs : (b k : ℕ) → (b == k) ≡ false → b ≢ k
differs b k e p = false≢true (sym e ∙ eq-eqb b k p)

is_decimal_byte : (b : ℕ) → b < 256 → IsByte (decimal_escape b) b
is_decimal_byte b h =
    let one = first_digit b h in
    let two = second_digit b h in
    let three = third_digit b h in
    let small : (nat_lt (digit_value (48 + b / 100)) 10 && nat_lt (digit_value (48 + b / 10 % 10)) 10 && nat_lt
    (digit_value (48 + b % 10)) 10) ≡ true =
    agree_below_at (λ b. nat_lt (digit_value (48 + b / 100)) 10 && nat_lt (digit_value (48 + b / 10 % 10)) 10 && nat_lt
    (digit_value (48 + b % 10)) 10) (λ _. true) 256 b refl h in
    let p = and_parts (nat_lt (digit_value (48 + b / 100)) 10 && nat_lt (digit_value (48 + b / 10 % 10)) 10)
    (nat_lt (digit_value (48 + b % 10)) 10) small in
    let q = and_parts (nat_lt (digit_value (48 + b / 100)) 10) (nat_lt (digit_value (48 + b / 10 % 10)) 10) p.0 in
    let sum : (digit_value (48 + b / 100) * 100 + digit_value (48 + b / 10 % 10) * 10 + digit_value (48 + b % 10) == b) ≡ true =
    agree_below_at (λ b. digit_value (48 + b / 100) * 100 + digit_value (48 + b / 10 % 10) * 10 + digit_value (48 + b % 10) == b)
    (λ _. true) 256 b refl h in
    decimal (48 + b / 100) (48 + b / 10 % 10) (48 + b % 10) refl (ltb-true _ 10 q.0) (ltb-true _ 10 q.1) (ltb-true _ 10 p.1)
    (sym (eqb-true _ b sum)) h

is_written_byte : (b : ℕ) → b < 256 → IsByte (quoted_byte b) b
is_written_byte b h =
    let P : List ℕ → Type 0 = λ bytes. IsByte bytes b in
    cond_both (is_itself b) _ _ P (λ e. itself refl (differs b 34 (itself_parts b e).0) (differs b 92 (itself_parts b e).1))
    (λ _. cond_both (b == 10) _ _ P (λ e. letter 110 refl (eqb-true b 10 e) h)
    (λ _. cond_both (b == 9) _ _ P (λ e. letter 116 refl (eqb-true b 9 e) h)
    (λ _. cond_both (b == 13) _ _ P (λ e. letter 114 refl (eqb-true b 13 e) h)
    (λ _. cond_both (b == 8) _ _ P (λ e. letter 98 refl (eqb-true b 8 e) h)
    (λ _. cond_both (b == 34 || b == 92) _ _ P (λ e. letter b refl (sym (sign_value b e)) h) (λ _. is_decimal_byte b h))))))

are_written : (bs : List ℕ) → list_all is_byte bs ≡ true → AreBytes (quoted_bytes bs) bs
are_written [] e = refl
are_written (b ∷ bs) e =
    let p = and_parts (is_byte b) (list_all is_byte bs) e in
    (quoted_byte b, quoted_bytes bs, refl, is_written_byte b (ltb-true b 256 p.0), are_written bs p.1)

spells_atom : (bytes : List ℕ) → All (λ b. b < 256) bytes → Spells (atom_text bytes) (atom bytes)
spells_atom bytes h =
    cond_both (is_bare_atom bytes) bytes (34 ∷ (quoted_bytes bytes ++ 34 ∷ [])) (λ xs. Spells xs (atom bytes))
    (λ e. inl (is_run bytes e, refl))
    (λ _. inr (quoted_bytes bytes, refl, are_written bytes (all_bytes bytes h)))

-- ---- lists

no_gap : IsGap []
no_gap = ([], refl)

one_space : IsGap (32 ∷ [])
one_space = ((32 ∷ []) ∷ [], ([], refl, inl (32, refl, refl), refl))

between_gap : (v w : Value) → IsGap (writing.between v w)
between_gap (atom bytes) w = one_space
between_gap (list vs) (atom bytes) = one_space
between_gap (list vs) (list ws) = no_gap

ends_behind : (own : List ℕ) (before : Value) (vs : Values) → Ends own (texts_behind before vs)
ends_behind own before nil r = tt
ends_behind own (atom bytes) (cons v vs) r = (refl, λ front same e. false≢true (eq-eqb 32 59 e))
ends_behind own (list us) (cons (atom bytes) vs) r = (refl, λ front same e. false≢true (eq-eqb 32 59 e))
ends_behind own (list us) (cons (list ws) vs) r = (refl, λ front same e. false≢true (eq-eqb 40 59 e))

mutual
  pub spells_text : (v : Value) → HasBytes v → Spells (text v) v
  spells_text (atom bytes) h = spells_atom bytes h
  spells_text (list vs) h = (texts vs, refl, spell_texts vs h)

  spell_texts : (vs : Values) → HaveBytes vs → SpellAll (texts vs) vs
  spell_texts nil h = no_gap
  spell_texts (cons v vs) h = (
    [],
    text v,
    texts_behind v vs,
    refl,
    no_gap,
    spells_text v h.0,
    ends_behind (text v) v vs,
    spell_behind v vs h.1,
  )

  spell_behind : (before : Value) (vs : Values) → HaveBytes vs → SpellAll (texts_behind before vs) vs
  spell_behind before nil h = no_gap
  spell_behind before (cons v vs) h = (
    writing.between before v,
    text v,
    texts_behind v vs,
    refl,
    between_gap before v,
    spells_text v h.0,
    ends_behind (text v) v vs,
    spell_behind v vs h.1,
  )
