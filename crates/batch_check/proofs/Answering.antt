-- How a text was answered.
use Rattle.std.proofs.Common.{◌≡◌, ◌⊎◌, inl, inr, ℕ, List, ◌++◌, take, length, Bool, true, false, Option, Result, Ok, Err, refl, sym, ap, ◌∙◌, subst, arith}
use Rattle.std.specs.Io.KnownBytes.{Appends}
use Rattle.std.proofs.Math.Seq.{take-append_seam}
use Rattle.std.proofs.lemmas.List.{take_all}
use Rattle.stm_base.specs.Counts.{Rose}
use Rattle.stm_base.specs.Output.{Output, AppendsPrefix, Grew, IsPut, begun}
use Rattle.batch_check.specs.Numbers.{WRITE_FAULT}
use Rattle.batch_check.specs.Batch.{batch, is_clean}
use Rattle.batch_check.specs.Report.{owed}
use Rattle.batch_check.specs.Puts.{Puts, PutsFront}
use Rattle.batch_check.specs.Headline.{IsAnswered, IsLost}
use Rattle.batch_check.specs.Ends.{Between, between, HasNoFault, IsAnsweredSo, status_of}
use Rattle.batch_check.proofs.Putting.{rest_idle}

-- a status that isn't answered
pub not_answered : (status : ℕ) → IsLost status → IsAnswered status → ⊥
not_answered status (inl e) (inl d) = omega arith
not_answered status (inl e) (inr d) = omega arith
not_answered status (inr e) (inl d) = omega arith
not_answered status (inr e) (inr d) = omega arith

-- a write failed, or memory was wanting
pub lost : (sink : Between) (text : List ℕ) (status : ℕ) → IsLost status → AppendsPrefix sink.before sink.after (owed text)
    → (status ≡ WRITE_FAULT → Rose sink.faults_before sink.faults_after) → (status ≡ WRITE_FAULT) ⊎ HasNoFault sink
    → IsAnsweredSo sink text status
lost sink text status l prefix failed passed = record {
  known = inr l;
  clean = λ e. absurd (not_answered status l (inl e));
  faulty = λ e. absurd (not_answered status l (inr e));
  whole = λ a. absurd (not_answered status l a);
  prefix = prefix;
  failed = failed;
  passed = passed;
}

-- all was written
whole : (sink : Between) (text : List ℕ) (status : ℕ) (clean : Bool) → clean ≡ is_clean (batch text) → status ≡ status_of {T = ℕ} {E = ℕ} (Ok 0) false clean
    → Appends sink.before sink.after (owed text) → HasNoFault sink → IsAnsweredSo sink text status
whole sink text status true c e w f = record {
  known = inl (inl e);
  clean = λ _. sym c;
  faulty = λ d. absurd (omega arith);
  whole = λ _. w;
  prefix = (length (owed text), subst (Appends sink.before sink.after) (sym (take_all (length (owed text)) (owed text) (omega arith))) w);
  failed = λ d. absurd (omega arith);
  passed = inr f;
}
whole sink text status false c e w f = record {
  known = inl (inr e);
  clean = λ d. absurd (omega arith);
  faulty = λ _. sym c;
  whole = λ _. w;
  prefix = (length (owed text), subst (Appends sink.before sink.after) (sym (take_all (length (owed text)) (owed text) (omega arith))) w);
  failed = λ d. absurd (omega arith);
  passed = inr f;
}

-- ---- what was put

module _ (written : Option (List ℕ)) (faults : ℕ) (new : Output) (bytes : List ℕ) where
  put_whole : IsPut (begun written faults) bytes new → new.failed ≡ false → Appends written new.written bytes
  put_whole p e = subst (λ q. Grew false q written new.written bytes) e p.grew

  put_prefix : IsPut (begun written faults) bytes new → new.failed ≡ true → AppendsPrefix written new.written bytes
  put_prefix p e = subst (λ q. Grew false q written new.written bytes) e p.grew

-- some first bytes that were put are a prefix of all
put_front : (written : Option (List ℕ)) (faults : ℕ) (new : Output) (bytes : List ℕ) → PutsFront (begun written faults) bytes new
    → AppendsPrefix written new.written bytes
put_front written faults new bytes (front, (rest, e), p) = go new.failed refl
  where
    go : (q : Bool) → new.failed ≡ q → AppendsPrefix written new.written bytes
    go true f =
        subst (AppendsPrefix written new.written) (sym e)
        (put_prefix written faults new (front ++ rest) (rest_idle (begun written faults) new front rest p f) f)
    go false f = (
      length front,
      subst (Appends written new.written) (sym (take-append_seam front rest) ∙ ap (take (length front)) (sym e))
          (put_whole written faults new front p f),
    )

-- the Out still knows the sink as it was handed in
pub first_kept : {T E : Type 0} (r : Result T E) (old new : Output) (bytes : List ℕ) → Puts r old bytes new
    → new.first_faults ≡ old.first_faults
first_kept (Ok x) old new bytes p = p.first_faults
first_kept (Err e) old new bytes p = p.2.first_faults

-- what was put, and its status
pub answered : {T E : Type 0} (r : Result T E) (written : Option (List ℕ)) (faults : ℕ) (new : Output) (text : List ℕ) (clean : Bool) (status : ℕ)
    → Puts r (begun written faults) (owed text) new → (new.failed ≡ true → Rose faults new.faults) → clean ≡ is_clean (batch text)
    → status ≡ status_of r new.failed clean → IsAnsweredSo (between written new.written faults new.faults) text status
answered {T = T} {E = E} r written faults new text clean status puts cause c e = go r new.failed refl puts e
  where
    sink : Between
    sink = between written new.written faults new.faults

    failed : (status ≡ WRITE_FAULT) → AppendsPrefix written new.written (owed text) → new.failed ≡ true → IsAnsweredSo sink text status
    failed d prefix f = lost sink text status (inl d) prefix (λ _. cause f) (inl d)

    go : (r : Result T E) (q : Bool) → new.failed ≡ q → Puts r (begun written faults) (owed text) new → status ≡ status_of r q clean
        → IsAnsweredSo sink text status
    go (Ok x) true f p d = failed d (put_prefix written faults new (owed text) p f) f
    go (Err y) true f p d = failed d (put_front written faults new (owed text) p) f
    go (Err y) false f p d = lost sink text status (inr d) (put_front written faults new (owed text) p) (λ d'. absurd (omega arith)) (inr (p.2.passed f))
    go (Ok x) false f p d = whole sink text status clean c d (put_whole written faults new (owed text) p f) (p.passed f)
