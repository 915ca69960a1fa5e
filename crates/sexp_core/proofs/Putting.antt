-- A text that is put piece by piece.
use Rattle.std.proofs.Common.{◌≡◌, ℕ, suc, ◌+◌, ◌<◌, ◌&&◌, ◌||◌, ◌==◌, List, [], ◌∷◌, ◌++◌, length, take, drop, get_or, map, max}
use Rattle.std.proofs.Common.{drop-cons, add-one, Bool, true, false, Option, Some, None, MatchOption, if◌then◌else◌, append_assoc, refl}
use Rattle.std.proofs.Common.{sym, ap, ◌∙◌, subst, arith}
use Rattle.std.specs.Prelude.{Vec}
use Rattle.std.specs.Borrow.{Bor}
use Rattle.std.specs.declared.alloc.Global.{Global}
use Rattle.std.specs.List.{list_all, prefix_len}
use Rattle.stm_base.specs.Output.{Output, IsPut}
use Rattle.stm_base.proofs.Puts.{IsPut-both}
use Rattle.sexp_theory.specs.Values.{Value, atom, list, Values, values, nesting, nesting_of_all}
use Rattle.sexp_theory.specs.Writing.{is_bare, is_bare_atom, is_itself, decimal_escape, quoted_byte, quoted_bytes, atom_text, between}
use Rattle.sexp_theory.specs.Writing.{text, texts, texts_behind}
use Rattle.sexp_core.specs.Lists.{is_list}
use Rattle.sexp_core.specs.Sexp.{meaning, meaning_step}
use Rattle.sexp_core.specs.declared.sexp.Sexp.{Sexp}
use Rattle.sexp_core.specs.declared.sexp.Sexp.TheOpen as layer
use Rattle.sexp_core.specs.declared.sexp.Sexp.TheVariants as made
use Rattle.sexp_core.specs.declared.sexp.Sexp.TheFolds.{fold-roll-Sexp}

-- of the whole text all but the rest is put
pub record IsPutBut (old : Output) (whole rest : List ℕ) (new : Output) : Type 0 where
  pub front : List ℕ
  pub put : IsPut old front new
  pub is_whole : front ++ rest ≡ whole

pub put_more : {a b c : Output} {whole : List ℕ} (rest : List ℕ) {piece : List ℕ} (more : List ℕ) → IsPutBut a whole rest b
    → IsPut b piece c → rest ≡ piece ++ more
    → IsPutBut a whole more c
put_more {a} {b} {c} rest {piece} more p q e =
    record {
      front = p.front ++ piece;
      put = IsPut-both a b c p.front piece p.put q;
      is_whole = append_assoc p.front piece more ∙ ap (λ xs. p.front ++ xs) (sym e) ∙ p.is_whole;
    }

-- three pieces in a row
pub put_three : {a b c d : Output} {xs ys zs : List ℕ} → IsPut a xs b → IsPut b ys c → IsPut c zs d → IsPut a (xs ++ (ys ++ zs)) d
put_three {a} {b} {c} {d} {xs} {ys} {zs} p q r = IsPut-both a b d xs (ys ++ zs) p (IsPut-both b c d ys zs q r)

-- ---- atoms

pub bare_atom : (bytes : List ℕ) → 0 < length bytes → list_all is_bare bytes ≡ is_bare_atom bytes
bare_atom [] h = absurd (omega (arith, h))
bare_atom (b ∷ bs) h = refl

pub no_atom : (bytes : List ℕ) → length bytes ≡ 0 → false ≡ is_bare_atom bytes
no_atom [] h = refl
no_atom (b ∷ bs) h = absurd (omega (arith, h))

pub bare_written : (bytes : List ℕ) → true ≡ is_bare_atom bytes → atom_text bytes ≡ bytes
bare_written bytes e = ap (λ t. if t then bytes else 34 ∷ (quoted_bytes bytes ++ 34 ∷ [])) (sym e)

pub quoted_written : (bytes : List ℕ) → false ≡ is_bare_atom bytes → atom_text bytes ≡ 34 ∷ (quoted_bytes bytes ++ 34 ∷ [])
quoted_written bytes e = ap (λ t. if t then bytes else 34 ∷ (quoted_bytes bytes ++ 34 ∷ [])) (sym e)

pub itself_written : (b : ℕ) → is_itself b ≡ true → quoted_byte b ≡ b ∷ []
itself_written b e = ap (λ t. if t then b ∷ [] else
    (if b == 10 then 92 ∷ 110 ∷ [] else (if b == 9 then 92 ∷ 116 ∷ [] else
    (if b == 13 then 92 ∷ 114 ∷ [] else (if b == 8 then 92 ∷ 98 ∷ [] else
    (if b == 34 || b == 92 then 92 ∷ b ∷ [] else decimal_escape b)))))) e

-- the bytes at the front that stand for themselves
pub run_written : (bytes : List ℕ) → quoted_bytes bytes
    ≡ take (prefix_len is_itself bytes) bytes ++ quoted_bytes (drop (prefix_len is_itself bytes) bytes)
run_written [] = refl
run_written (b ∷ bs) = by (is_itself b) refl (run_written bs)
  where
    by : (t : Bool) → is_itself b ≡ t → quoted_bytes bs
        ≡ take (prefix_len is_itself bs) bs ++ quoted_bytes (drop (prefix_len is_itself bs) bs)
        → quoted_bytes (b ∷ bs) ≡ take (if t then 1 + prefix_len is_itself bs else 0) (b ∷ bs) ++ quoted_bytes
        (drop (if t then 1 + prefix_len is_itself bs else 0) (b ∷ bs))
    by false e more = refl
    by true e more =
        let one : suc (prefix_len is_itself bs) ≡ 1 + prefix_len is_itself bs = omega arith in
        ap (λ xs. xs ++ quoted_bytes bs) (itself_written b e) ∙ ap (λ xs. b ∷ xs) more
        ∙ ap (λ n. take n (b ∷ bs) ++ quoted_bytes (drop n (b ∷ bs))) one

-- a run of bytes that stand for themselves is put
pub put_run : {a b c : Output} {whole : List ℕ} (rest : List ℕ) {run behind : List ℕ} (n : ℕ)
    → IsPutBut a whole (quoted_bytes rest) b → IsPut b run c → n ≡ prefix_len is_itself rest → run ≡ take n rest → behind ≡ drop n rest
    → IsPutBut a whole (quoted_bytes behind) c
put_run rest {run} {behind} n p q e f g =
    let parts : quoted_bytes rest ≡ run ++ quoted_bytes behind =
    run_written rest ∙ ap (λ k. take k rest ++ quoted_bytes (drop k rest)) (sym e) ∙ ap (λ xs. xs ++ quoted_bytes (drop n rest)) (sym f)
    ∙ ap (λ xs. run ++ quoted_bytes xs) (sym g) in
    put_more (quoted_bytes rest) (quoted_bytes behind) p q parts

-- an escape is put
pub put_one : {a b c : Output} {whole : List ℕ} (rest behind : List ℕ) (byte : ℕ) → IsPutBut a whole (quoted_bytes rest) b
    → IsPut b (quoted_byte byte) c → rest ≡ byte ∷ behind
    → IsPutBut a whole (quoted_bytes behind) c
put_one rest behind byte p q e = put_more (quoted_bytes rest) (quoted_bytes behind) p q (ap quoted_bytes e)

pub put_in_quotes : {a b c d : Output} (bytes : List ℕ) → false ≡ is_bare_atom bytes → IsPut a (34 ∷ []) b
    → IsPut b (quoted_bytes bytes) c → IsPut c (34 ∷ []) d → IsPut a (atom_text bytes) d
put_in_quotes {a} {b} {c} {d} bytes e p q r = subst (λ xs. IsPut a xs d) (sym (quoted_written bytes e))
    (put_three p q r)

-- ---- lists

pub meaning_List : (sexps : Vec Sexp Global) → meaning (made.List sexps) ≡ list (values (map meaning sexps.items))
meaning_List sexps = ap meaning (sym (made.rolls-List sexps)) ∙ fold-roll-Sexp Value meaning_step (layer.List sexps)

pub between_two : (v w : Value) → between v w ≡ (if is_list v && is_list w then [] else 32 ∷ [])
between_two (atom bs) w = refl
between_two (list vs) (atom bs) = refl
between_two (list vs) (list ws) = refl

-- the values behind one of a list, or all where there is none before
abbrev pub texts_after : Option (Bor Sexp) → Values → List ℕ
texts_after None vs = texts vs
texts_after (Some b) vs = texts_behind (meaning b.now) vs

-- a value of a list is put, behind what stands between it and the one before
pub put_value : {a b c d : Output} {whole : List ℕ} (before : Option (Bor Sexp)) (sexp : Sexp) (rest more : List Sexp)
    → IsPutBut a whole (texts_after before (values (map meaning rest))) b
    → MatchOption before (c ≡ b) (λ p. IsPut b (between (meaning p.now) (meaning sexp)) c) → IsPut c (text (meaning sexp)) d
    → rest ≡ sexp ∷ more
    → IsPutBut a whole (texts_behind (meaning sexp) (values (map meaning more))) d
put_value {d = d} None sexp rest more p q r e =
    let here = subst (λ o. IsPut o (text (meaning sexp)) d) q r in
    put_more (texts (values (map meaning rest)))
    (texts_behind (meaning sexp) (values (map meaning more))) p here (ap (λ xs. texts (values (map meaning xs))) e)
put_value {b = b} {c = c} {d = d} (Some before) sexp rest more p q r e =
    let gap = between (meaning before.now) (meaning sexp) in
    let one = text (meaning sexp) in
    let others = texts_behind (meaning sexp) (values (map meaning more)) in
    put_more (texts_behind (meaning before.now) (values (map meaning rest))) others p
    (IsPut-both b c d gap one q r)
    (ap (λ xs. texts_behind (meaning before.now) (values (map meaning xs))) e ∙ sym (append_assoc gap one others))

-- the value at an index of a list, and those behind it
pub value_at : (xs : List Sexp) (i : ℕ) (x : Sexp) → i < length xs → x ≡ get_or xs i x → drop i xs ≡ x ∷ drop (i + 1) xs
value_at xs i x h e = drop-cons xs i x h ∙ ap (λ y. y ∷ drop (suc i) xs) (sym e) ∙ ap (λ k. x ∷ drop k xs) (sym (add-one i))

pub nesting_behind : (sexp : Sexp) (rest more : List Sexp) → rest ≡ sexp ∷ more → nesting_of_all (values (map meaning rest)) < 256
    → nesting_of_all (values (map meaning more)) < 256
nesting_behind sexp rest more e h =
    let both : nesting_of_all (values (map meaning rest)) ≡ max (nesting (meaning sexp)) (nesting_of_all (values (map meaning more))) =
    ap (λ xs. nesting_of_all (values (map meaning xs))) e in
    omega (arith, h, both)

pub put_in_parentheses : {a b c d : Output} {sexp : Sexp} (sexps : Vec Sexp Global) {xs : List Sexp} → sexp ≡ made.List sexps
    → xs ≡ sexps.items
    → IsPut a (40 ∷ []) b → IsPut b (texts (values (map meaning xs))) c → IsPut c (41 ∷ []) d → IsPut a (text (meaning sexp)) d
put_in_parentheses {a} {d = d} {sexp} sexps {xs} e f p q r =
    let whole : text (meaning sexp) ≡ (40 ∷ []) ++ (texts (values (map meaning xs)) ++ 41 ∷ []) = ap (λ s. text (meaning s)) e
    ∙ ap text (meaning_List sexps) ∙ ap (λ ys. 40 ∷ (texts (values (map meaning ys)) ++ 41 ∷ [])) (sym f) in
    subst (λ ys. IsPut a ys d) (sym whole) (put_three p q r)
