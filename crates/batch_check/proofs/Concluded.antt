-- What stands of a call that met the end of the input: the theorem.
use Rattle.std.proofs.Common.{◌≡◌, ◌≤◌, ◌⊎◌, inl, inr, ℕ, List, [], ◌∷◌, length, take, Bool, true, false, IfSome, refl, ap, ◌∙◌, subst, arith}
use Rattle.std.proofs.lemmas.Option.{IfSome_then}
use Rattle.std.specs.Io.KnownBytes.{Appends}
use Rattle.stm_base.specs.Output.{AppendsPrefix}
use Rattle.batch_check.specs.Numbers.{CLEAN, FAULTY, BAD_WORDS, READ_FAULT, NO_MEMORY, TOO_LONG, INPUT_LIMIT}
use Rattle.batch_check.specs.Batch.{batch, is_clean}
use Rattle.batch_check.specs.Report.{owed}
use Rattle.batch_check.specs.Headline.{Call, IsOutside, IsAnswered, IsLost, IsStatus, IsClean, IsFaulty, IsTaken, IsBatch}
use Rattle.batch_check.specs.Headline.{HasCleanCause, HasFaultyCause, HasCompleteness, IsComplete}
use Rattle.batch_check.specs.Ends.{between, IsWhole, IsAnsweredSo}

-- a list without elements is no word
pub no_words : {A : Type 0} (ws : List A) → length ws ≡ 0 → IsOutside ws → ⊥
no_words [] e o = o
no_words (w ∷ ws) e o = omega arith

-- what the parts of a call did that met the end
pub record HasMet {A : Type 0} (ws : List A) (c : Call) (text : List ℕ) : Type 0 where
  pub none : IsOutside ws → ⊥
  pub at_end : c.at_end ≡ true
  pub taken : IfSome c.left_before (λ all. IsTaken all c.left_after c.taken)
  pub limit : c.taken ≤ INPUT_LIMIT
  pub no_fault : c.read_faults_after ≡ c.read_faults_before
  pub whole : IsWhole (between c.left_before c.left_after c.read_faults_before c.read_faults_after) text c.taken
  pub answered : IsAnsweredSo (between c.written_before c.written_after c.write_faults_before c.write_faults_after) text c.status

-- the status of such a call is 0, 1, 4 or 5
known : (status : ℕ) → IsAnswered status ⊎ IsLost status → IsStatus status
known status (inl (inl e)) = inl e
known status (inl (inr e)) = inr (inl e)
known status (inr (inl e)) = inr (inr (inr (inr (inl e))))
known status (inr (inr e)) = inr (inr (inr (inr (inr (inl e)))))

-- and so it is neither 2, 3 nor 7
not_those : (status : ℕ) → IsAnswered status ⊎ IsLost status → (status ≡ BAD_WORDS) ⊎ ((status ≡ READ_FAULT) ⊎ (status ≡ TOO_LONG)) → ⊥
not_those status (inl (inl e)) (inl d) = omega arith
not_those status (inl (inl e)) (inr (inl d)) = omega arith
not_those status (inl (inl e)) (inr (inr d)) = omega arith
not_those status (inl (inr e)) (inl d) = omega arith
not_those status (inl (inr e)) (inr (inl d)) = omega arith
not_those status (inl (inr e)) (inr (inr d)) = omega arith
not_those status (inr (inl e)) (inl d) = omega arith
not_those status (inr (inl e)) (inr (inl d)) = omega arith
not_those status (inr (inl e)) (inr (inr d)) = omega arith
not_those status (inr (inr e)) (inl d) = omega arith
not_those status (inr (inr e)) (inr (inl d)) = omega arith
not_those status (inr (inr e)) (inr (inr d)) = omega arith

-- a Bool that is both true and false
both : (a b : Bool) → a ≡ b → a ≡ true → b ≡ false → ⊥
both a b e t f = absurd (cc)

module _ {A : Type 0} (ws : List A) (c : Call) (text : List ℕ) (m : HasMet ws c text) where
  -- what holds of the text holds of the bytes that were taken, where they are told
  of_bytes : (P : List ℕ → Type 0) → P text → IfSome c.left_before (λ all. P (take c.taken all))
  of_bytes P p = IfSome_then c.left_before m.whole.taken_bytes (λ all s. subst P s p)

  is_clean_so : c.status ≡ CLEAN → IfSome c.left_before (λ all. IsClean c all)
  is_clean_so e =
      IfSome_then c.left_before (of_bytes (λ l. is_clean (batch l) ≡ true) (m.answered.clean e))
      (λ all s. record { at_end = m.at_end; clean = s })

  is_faulty_so : c.status ≡ FAULTY → IfSome c.left_before (λ all. IsFaulty c all)
  is_faulty_so e =
      IfSome_then c.left_before (of_bytes (λ l. is_clean (batch l) ≡ false) (m.answered.faulty e))
      (λ all s. record { at_end = m.at_end; faulty = s })

  clean_cause : HasCleanCause c
  clean_cause = record {
    only = is_clean_so;
    always = IfSome_then c.left_before m.whole.taken_bytes (λ all s h. go (ap (λ l. is_clean (batch l)) s ∙ h.clean) m.answered.known);
  }
    where
      go : is_clean (batch text) ≡ true → IsAnswered c.status ⊎ IsLost c.status → (c.status ≡ CLEAN) ⊎ IsLost c.status
      go t (inl (inl e)) = inl e
      go t (inl (inr e)) = absurd (both (is_clean (batch text)) (is_clean (batch text)) refl t (m.answered.faulty e))
      go t (inr l) = inr l

  faulty_cause : HasFaultyCause c
  faulty_cause = record {
    only = is_faulty_so;
    always = IfSome_then c.left_before m.whole.taken_bytes (λ all s h. go (ap (λ l. is_clean (batch l)) s ∙ h.faulty) m.answered.known);
  }
    where
      go : is_clean (batch text) ≡ false → IsAnswered c.status ⊎ IsLost c.status → (c.status ≡ FAULTY) ⊎ IsLost c.status
      go f (inl (inl e)) = absurd (both (is_clean (batch text)) (is_clean (batch text)) refl (m.answered.clean e) f)
      go f (inl (inr e)) = inl e
      go f (inr l) = inr l

  complete : HasCompleteness c
  complete reads writes = go m.answered.known
    where
      go : IsAnswered c.status ⊎ IsLost c.status → (c.status ≡ BAD_WORDS) ⊎ ((c.status ≡ NO_MEMORY) ⊎ IsComplete c)
      go (inl (inl e)) = inr (inr (inl (e, is_clean_so e)))
      go (inl (inr e)) = inr (inr (inr (inl (e, is_faulty_so e))))
      go (inr (inl e)) = absurd (omega (arith, m.answered.failed e, writes))
      go (inr (inr e)) = inr (inl e)

  pub met : IsBatch ws c
  met = record {
    words = record {
      refused = λ o. absurd (m.none o);
      only = λ e. absurd (not_those c.status m.answered.known (inl e));
      untouched = λ e. absurd (not_those c.status m.answered.known (inl e));
    };
    read = record {
      taken_bytes = m.taken;
      nothing_left = λ _. m.whole.nothing_left;
      ended = λ _. m.at_end;
      not_ended = λ _. m.answered.known;
      limit = m.limit;
    };
    written = record {
      whole = λ a. of_bytes (λ l. Appends c.written_before c.written_after (owed l)) (m.answered.whole a);
      prefix = of_bytes (λ l. AppendsPrefix c.written_before c.written_after (owed l)) m.answered.prefix;
      nothing = λ f. absurd (both c.at_end c.at_end refl m.at_end f);
    };
    known = known c.status m.answered.known;
    clean = clean_cause;
    faulty = faulty_cause;
    read_fault = record { only = λ e. absurd (not_those c.status m.answered.known (inr (inl e))); passed = inr m.no_fault };
    write_fault = record { only = m.answered.failed; passed = m.answered.passed };
    too_long = record {
      only = λ e. absurd (not_those c.status m.answered.known (inr (inr e)));
      always = λ t. absurd (both c.at_end c.at_end refl m.at_end t.going_on);
    };
    complete = complete;
  }
