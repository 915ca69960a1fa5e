-- Bytes put as far as memory lasts and no write has failed.
use Rattle.std.proofs.Common.{◌≡◌, ◌<◌, ◌+◌, ℕ, List, [], ◌∷◌, ◌++◌, take, drop, length, map, reverse, Result, Ok, Err, true, inl, inr, refl, sym, ap, ◌∙◌, subst, append_assoc, append-nil, take-append-drop, length-append, ◌≤◌, get_or, arith}
use Rattle.std.proofs.Math.ListN.{get_or-map}
use Rattle.std.proofs.Math.Seq.{take-append_seam}
use Rattle.std.proofs.lemmas.List.{take_all, take_more, take-append-le, reverse-append, length-reverse, length-map}
use Rattle.std.proofs.KnownBytes.{Keeps-refl}
use Rattle.std.specs.Result.{IsErrAnd}
use Rattle.fol_theory.specs.Contexts.{IsFromLast}
use Rattle.stm_base.specs.Output.{Output, Grew, IsPut}
use Rattle.stm_base.proofs.Puts.{IsPut-both}
use Rattle.batch_check.specs.Puts.{Puts, PutsFront}
use Rattle.batch_check.specs.Report.{line, lines_of}

-- a put, and behind it the rest of the line
pub behind : (a b c : Output) (xs text : List ℕ) → IsPut a xs b → IsPut b (line text) c → IsPut a (line (xs ++ text)) c
behind a b c xs text p q = subst (λ bytes. IsPut a bytes c) (sym (append_assoc xs text (10 ∷ []))) (IsPut-both a b c xs (line text) p q)

-- behind a failed write any bytes count as put
pub idle : (a : Output) (xs : List ℕ) → a.failed ≡ true → IsPut a xs a
idle a xs e = record {
  grew = subst (λ f. Grew f f a.written a.written xs) (sym e) (Keeps-refl a.written);
  idle = λ _. refl;
  later = omega arith;
  passed = λ _. refl;
  first_written = refl;
  first_faults = refl;
}

-- what is put stays put, whatever is still to be put behind a failed write
pub rest_idle : (a b : Output) (xs ys : List ℕ) → IsPut a xs b → b.failed ≡ true → IsPut a (xs ++ ys) b
rest_idle a b xs ys p e = IsPut-both a b b xs ys p (idle b ys e)

-- some first bytes of the first part are some of the whole
pub short_first : (a b : Output) (xs ys : List ℕ) → PutsFront a xs b → PutsFront a (xs ++ ys) b
short_first a b xs ys (front, begins, p) = (
  front,
  (begins.0 ++ ys, ap (λ l. l ++ ys) begins.1 ∙ append_assoc front begins.0 ys),
  p,
)

-- some first bytes were put, where the answer is an error
pub err_puts : {T E : Type 0} (Q : E → Type 0) (r : Result T E) (a b : Output) (xs : List ℕ) → IsErrAnd r Q → PutsFront a xs b → Puts r a xs b
err_puts Q (Ok x) a b xs e p = absurd e
err_puts Q (Err e) a b xs d p = p

-- a whole part, and some first bytes of another behind it
pub short_behind : (a b c : Output) (xs ys : List ℕ) → IsPut a xs b → PutsFront b ys c → PutsFront a (xs ++ ys) c
short_behind a b c xs ys p (front, begins, q) = (
  xs ++ front,
  (begins.0, ap (λ l. xs ++ l) begins.1 ∙ sym (append_assoc xs front begins.0)),
  IsPut-both a b c xs front p q,
)

-- ---- a line for each element

module _ {A : Type 0} (text : A → List ℕ) where
  lines_join : (xs ys : List A) → lines_of text (xs ++ ys) ≡ lines_of text xs ++ lines_of text ys
  lines_join [] ys = refl
  lines_join (x ∷ xs) ys = ap (λ l. line (text x) ++ l) (lines_join xs ys) ∙ sym (append_assoc (line (text x)) (lines_of text xs) (lines_of text ys))

  lines_split : (n : ℕ) (xs : List A) → lines_of text xs ≡ lines_of text (take n xs) ++ lines_of text (drop n xs)
  lines_split n xs = ap (lines_of text) (sym (take-append-drop n xs)) ∙ lines_join (take n xs) (drop n xs)

  -- one line more
  pub next_line : (a b c : Output) (n : ℕ) (xs : List A) (x : A) → take (n + 1) xs ≡ take n xs ++ x ∷ []
      → IsPut a (lines_of text (take n xs)) b → IsPut b (line (text x)) c → IsPut a (lines_of text (take (n + 1) xs)) c
  next_line a b c n xs x e p q =
      subst (λ bytes. IsPut a bytes c)
      (ap (λ l. lines_of text (take n xs) ++ l) (sym (append-nil (line (text x)))) ∙ sym (lines_join (take n xs) (x ∷ [])) ∙ ap (lines_of text) (sym e))
      (IsPut-both a b c (lines_of text (take n xs)) (line (text x)) p q)

  -- behind a failed write the lines that are left count as put
  pub idle_lines : (a b : Output) (n : ℕ) (xs : List A) → IsPut a (lines_of text (take n xs)) b → b.failed ≡ true → IsPut a (lines_of text xs) b
  idle_lines a b n xs p e =
      subst (λ bytes. IsPut a bytes b) (sym (lines_split n xs)) (rest_idle a b (lines_of text (take n xs)) (lines_of text (drop n xs)) p e)

  -- where memory is wanting the first lines were put
  pub short_lines : (a b : Output) (n : ℕ) (xs : List A) → IsPut a (lines_of text (take n xs)) b → PutsFront a (lines_of text xs) b
  short_lines a b n xs p = (lines_of text (take n xs), (lines_of text (drop n xs), lines_split n xs), p)

-- ---- a declaration by its number

from_last_below : {A : Type 0} (xs : List A) (i : ℕ) (a : A) → IsFromLast xs i a → i < length xs
from_last_below [] i a h = absurd h
from_last_below (x ∷ xs) i a (inl h) = omega (arith, h.0)
from_last_below (x ∷ xs) i a (inr h) = omega (arith, from_last_below xs i a h)

-- one element more in front of a list, at its end when it is reversed
reversed : {A : Type 0} (xs : List A) (x : A) → reverse (x ∷ xs) ≡ reverse xs ++ x ∷ []
reversed xs x = reverse-append (x ∷ []) xs

-- the element with i behind it is the one that stands at i in the reversed list
from_last : {A : Type 0} (xs : List A) (i : ℕ) (a : A) → IsFromLast xs i a → take (i + 1) (reverse xs) ≡ take i (reverse xs) ++ a ∷ []
from_last [] i a h = absurd h
from_last (x ∷ xs) i a (inl h) =
    let long : length (reverse xs) ≡ i = length-reverse xs ∙ sym h.0 in
    let one : length (reverse xs ++ x ∷ []) ≤ i + 1 = omega (arith, length-append (reverse xs) (x ∷ []), long) in
    let front : take i (reverse xs ++ x ∷ []) ≡ reverse xs =
    subst (λ n. take n (reverse xs ++ x ∷ []) ≡ reverse xs) long (take-append_seam (reverse xs) (x ∷ [])) in
    ap (take (i + 1)) (reversed xs x) ∙ take_all (i + 1) (reverse xs ++ x ∷ []) one
    ∙ (λ j. sym front j ++ sym h.1 j ∷ []) ∙ ap (λ l. take i l ++ a ∷ []) (sym (reversed xs x))
from_last (x ∷ xs) i a (inr h) =
    let below : i < length (reverse xs) = omega (arith, from_last_below xs i a h, length-reverse xs) in
    ap (take (i + 1)) (reversed xs x) ∙ take-append-le (i + 1) (reverse xs) (x ∷ []) (omega (arith, below)) ∙ from_last xs i a h
    ∙ ap (λ l. l ++ a ∷ []) (sym (take-append-le i (reverse xs) (x ∷ []) (omega (arith, below))))
    ∙ ap (λ l. take i l ++ a ∷ []) (sym (reversed xs x))

mapped_from_last : {A B : Type 0} (f : A → B) (xs : List A) (i : ℕ) (a : A) → IsFromLast xs i a → IsFromLast (map f xs) i (f a)
mapped_from_last f [] i a h = absurd h
mapped_from_last f (x ∷ xs) i a (inl h) = inl (h.0 ∙ sym (length-map xs f), ap f h.1)
mapped_from_last f (x ∷ xs) i a (inr h) = inr (mapped_from_last f xs i a h)

-- the same of a list that is mapped
pub from_last_mapped : {A B : Type 0} (f : A → B) (xs : List A) (i : ℕ) (a : A) → IsFromLast xs i a
    → take (i + 1) (reverse (map f xs)) ≡ take i (reverse (map f xs)) ++ f a ∷ []
from_last_mapped f xs i a h = from_last (map f xs) i (f a) (mapped_from_last f xs i a h)

-- ---- a mapped list

-- one element more of a list that is mapped
pub next_mapped : {A B : Type 0} (f : A → B) (xs : List A) (i : ℕ) (d : A) → i < length xs
    → take (i + 1) (map f xs) ≡ take i (map f xs) ++ f (get_or xs i d) ∷ []
next_mapped f xs i d h =
    take_more (map f xs) i (f d) (omega (arith, length-map xs f, h)) ∙ ap (λ x. take i (map f xs) ++ x ∷ []) (get_or-map f xs i d)
