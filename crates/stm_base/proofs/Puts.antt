-- Bytes put one after the other.
use Rattle.std.proofs.Common.{◌≡◌, ℕ, ◌+◌, List, [], ◌∷◌, ◌++◌, Option, take, drop, length, refl, sym, ap, ◌∙◌, subst, Bool, true, false}
use Rattle.std.proofs.Common.{zero, suc, arith, take-append-drop}
use Rattle.std.proofs.Math.Seq.{take-add, take-append-add, take-append_seam}
use Rattle.std.proofs.lemmas.List.{drop-drop}
use Rattle.std.proofs.KnownBytes.{Appends-trans, Appends-nil, Appends-kept, Keeps-refl, Keeps-trans}
use Rattle.std.specs.Io.KnownBytes.{Appends}
use Rattle.stm_base.specs.Output.{Output, Grew, IsPut}

-- n bytes more of xs are written
pub Appends-more : (a b c : Option (List ℕ)) (i n : ℕ) (xs : List ℕ) → Appends a b (take i xs) → Appends b c (take n (drop i xs))
    → Appends a c (take (i + n) xs)
Appends-more a b c i n xs p q = subst (Appends a c) (sym (take-add i n xs)) (Appends-trans a b c _ _ p q)

take-front : (n : ℕ) (xs ys : List ℕ) → (m : ℕ) × (take n xs ≡ take m (xs ++ ys))
take-front zero xs ys = (0, refl)
take-front (suc n) [] ys = (0, refl)
take-front (suc n) (x ∷ xs) ys = let r = take-front n xs ys in (suc r.0, ap (λ l. x ∷ l) r.1)

module _ (a b c : Option (List ℕ)) (xs ys : List ℕ) where
  Grew-both : (f g h : Bool) → Grew f g a b xs → Grew g h b c ys → Grew f h a c (xs ++ ys)
  Grew-both false false false p q = Appends-trans a b c xs ys p q
  Grew-both false false true p q = (
    length xs + q.0,
    subst (Appends a c) (sym (take-append-add xs ys q.0)) (Appends-trans a b c xs _ p q.1),
  )
  Grew-both false true true p q =
      let m = take-front p.0 xs ys in
      (m.0, subst (Appends a c) m.1 (Appends-kept a b c _ p.1 q))
  Grew-both false true false p q = absurd q
  Grew-both true true true p q = Keeps-trans a b c p q
  Grew-both true true false p q = absurd q
  Grew-both true false h p q = absurd p

-- where the Out hasn't failed it hadn't before
Grew-clean : (f g : Bool) (a b : Option (List ℕ)) (xs : List ℕ) → Grew f g a b xs → g ≡ false → f ≡ false
Grew-clean false g a b xs w e = refl
Grew-clean true true a b xs w e = e
Grew-clean true false a b xs w e = absurd w

-- two puts in a row are one of both pieces
pub IsPut-both : (a b c : Output) (xs ys : List ℕ) → IsPut a xs b → IsPut b ys c → IsPut a (xs ++ ys) c
IsPut-both a b c xs ys p q = record {
  grew = Grew-both a.written b.written c.written xs ys a.failed b.failed c.failed p.grew q.grew;
  idle = λ e. q.idle (ap (λ (o : Output). o.failed) (p.idle e) ∙ e) ∙ p.idle e;
  later = omega arith;
  passed = λ e. q.passed e ∙ p.passed (Grew-clean b.failed c.failed b.written c.written ys q.grew e);
  first_written = q.first_written ∙ p.first_written;
  first_faults = q.first_faults ∙ p.first_faults;
}

Grew-none : (f : Bool) (a : Option (List ℕ)) → Grew f f a a []
Grew-none false a = Appends-nil a
Grew-none true a = Keeps-refl a

-- nothing is put
pub IsPut-none : (a : Output) → IsPut a [] a
IsPut-none a = record {
  grew = Grew-none a.failed a.written;
  idle = λ _. refl;
  later = omega arith;
  passed = λ _. refl;
  first_written = refl;
  first_faults = refl;
}

-- bytes that were copied to the front of a buffer
pub copied : (at n : ℕ) (xs front back : List ℕ) → length front ≡ n → front ≡ take n (drop at xs)
    → drop at xs ≡ take n (front ++ back) ++ drop (at + n) xs
copied at n xs front back e f =
    sym (take-append-drop n (drop at xs)) ∙ ap (λ l. take n (drop at xs) ++ l) (drop-drop n at xs)
    ∙ ap (λ l. l ++ drop (at + n) xs) (sym f ∙ sym (take-append_seam front back) ∙ ap (λ k. take k (front ++ back)) e)
