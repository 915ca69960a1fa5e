-- What stands of a run whose session was closed and taken apart: the theorem.
use Rattle.std.proofs.Common.{◌≡◌, ℕ, ◌<◌, ◌⊎◌, inl, inr, List, [], ◌∷◌, ◌++◌, length, take, Option, None, Some, IfSome, Bool, true}
use Rattle.std.proofs.Common.{false, ◌||◌, refl, sym, ap, ◌∙◌, subst, append-nil, arith}
use Rattle.std.specs.Io.KnownBytes.{Appends}
use Rattle.std.proofs.Math.Seq.{take-append_seam}
use Rattle.std.proofs.lemmas.List.{take_all}
use Rattle.stm_base.specs.Counts.{Rose, Stood}
use Rattle.stm_base.specs.Output.{Output, AppendsPrefix, Grew, IsPut, fresh}
use Rattle.sexp_theory.specs.declared.input.InputEnd.TheVariants.{Clean, Truncated}
use Rattle.serapi_cmd.specs.declared.request.Request.{Request}
use Rattle.serapi_cmd.specs.declared.request.Request.TheVariants.{Do, Bad}
use Rattle.serapi_ans.specs.declared.line.Line.{Line}
use Rattle.base_core.specs.Lists.{Begins}
use Rattle.doc_theory.specs.Documents.{Document}
use Rattle.doc_theory.specs.Answers.{Cut, whole, after}
use Rattle.doc_theory.specs.Histories.{
  Event,
  command,
  claim,
  none_waiting,
  returned,
  lose,
  join_answered,
  join_not_yet,
  join_stopped,
  shut,
  requests,
  outcomes,
}
use Rattle.doc_core.specs.Answers.{MayBe, answer, last_lines, perform}
use Rattle.doc_core.specs.Histories.{Standing, start, step, Legal, LegalFrom, render}
use Rattle.session_run.specs.Numbers.{LIVE_LIMIT}
use Rattle.doc_core.proofs.Grown.{is_answered}
use Rattle.session_run.specs.Closing.{is_closed, rendered}
use Rattle.session_run.specs.Items.{has_quit}
use Rattle.session_run.specs.Headline.{AllWhole, Call, EndsClean, EndsInside, HasCompleteness, HasDoneCause, HasLegalHistory}
use Rattle.session_run.specs.Headline.{HasReadFaultCause, HasTooLongCause, HasTruncatedCause, HasWriteFaultCause, IsAnswered, IsClean}
use Rattle.session_run.specs.Headline.{IsOrLost, IsQuit, IsSession, IsStatus, IsTruncated, has_short, is_short}
use Rattle.session_run.specs.Headline.{requests_read}
use Rattle.session_run.specs.Serving.{Between, HasStopped, IsAll, Served, UnlessLost, between}
use Rattle.session_run.specs.Statuses.{status_of}
use Rattle.session_run.proofs.Grown.{differs}
use Rattle.session_run.proofs.Progress.{or-left, or-right}
use Rattle.session_run.specs.declared.party.Loss.TheVariants.{WriteFault, WantOfMemory}
use Rattle.session_run.specs.declared.serve.Stop.{Stop}
use Rattle.session_run.specs.declared.serve.Stop.TheVariants.{Quit, End, Fault, Limit, Lost}
use Rattle.session_run.specs.Numbers.{DONE, READ_FAULT, WRITE_FAULT, NO_MEMORY, TRUNCATED, TOO_LONG}
use Rattle.session_run.specs.Numbers.{INPUT_LIMIT}

-- ---- what a status says of its call

record Facts (c : Call) : Type 0 where
  first : IfSome c.left_before (λ all. Begins (requests c.history) (requests_read c all))
  whole : IsAnswered c.status → IsAll c.left_before c.taken c.at_end (requests c.history)
  ended : c.status ≡ DONE → has_quit (requests c.history) ≡ false → c.at_end ≡ true
  truncated_end : c.status ≡ TRUNCATED → c.at_end ≡ true
  not_ended : (c.status ≡ READ_FAULT) ⊎ (c.status ≡ TOO_LONG) → c.at_end ≡ false
  which : c.status ≡ DONE → IsQuit c ⊎ (c.at_end ≡ true)
  known : IsStatus c.status
  done : HasDoneCause c
  read_fault : HasReadFaultCause c
  write_fault : HasWriteFaultCause c
  truncated : HasTruncatedCause c
  too_long : HasTooLongCause c

-- the source of a call
abbrev source_of : Call → Between
source_of c = between c.left_before c.left_after c.read_faults_before c.read_faults_after

-- the serving stopped so in a call, and left its last request or not
abbrev Stopped : Stop → Call → Bool → Type 0
Stopped how c left = HasStopped how (source_of c) c.taken c.at_end (requests c.history) left

-- what holds of all bytes holds of those that are told
each : (before : Option (List ℕ)) (P : List ℕ → Type 0) → ((all : List ℕ) → P all) → IfSome before P
each None P f = tt
each (Some all) P f = f all

mapped : (before : Option (List ℕ)) (P Q : List ℕ → Type 0) → ((all : List ℕ) → P all → Q all) → IfSome before P → IfSome before Q
mapped None P Q f p = tt
mapped (Some all) P Q f p = f all p

begins-all : (c : Call) → IsAll c.left_before c.taken c.at_end (requests c.history)
    → IfSome c.left_before (λ all. Begins (requests c.history) (requests_read c all))
begins-all c a = mapped c.left_before _ (λ all. Begins (requests c.history) (requests_read c all))
    (λ all e. ([], sym e ∙ sym (append-nil (requests c.history)))) a

-- a write failed or memory was wanting
not-answered : (status : ℕ) → (status ≡ WRITE_FAULT) ⊎ (status ≡ NO_MEMORY) → IsAnswered status → ⊥
not-answered status (inl e) (inl d) = omega arith
not-answered status (inl e) (inr (inl d)) = omega arith
not-answered status (inl e) (inr (inr (inl d))) = omega arith
not-answered status (inl e) (inr (inr (inr d))) = omega arith
not-answered status (inr e) (inl d) = omega arith
not-answered status (inr e) (inr (inl d)) = omega arith
not-answered status (inr e) (inr (inr (inl d))) = omega arith
not-answered status (inr e) (inr (inr (inr d))) = omega arith

answered-stop : (status : ℕ) → (status ≡ READ_FAULT) ⊎ (status ≡ TOO_LONG) → IsAnswered status
answered-stop status (inl e) = inr (inl e)
answered-stop status (inr e) = inr (inr (inr e))

lost-known : (status : ℕ) → (status ≡ WRITE_FAULT) ⊎ (status ≡ NO_MEMORY) → IsStatus status
lost-known status (inl e) = inr (inr (inl e))
lost-known status (inr e) = inr (inr (inr (inl e)))

facts-lost : (c : Call) → IfSome c.left_before (λ all. Begins (requests c.history) (requests_read c all))
    → (c.status ≡ WRITE_FAULT) ⊎ (c.status ≡ NO_MEMORY) → (c.status ≡ WRITE_FAULT → Rose c.write_faults_before c.write_faults_after)
    → c.read_faults_after ≡ c.read_faults_before → Facts c
facts-lost c first other rose same =
    let not : IsAnswered c.status → ⊥ = not-answered c.status other in
    record {
      first = first;
      whole = λ e. absurd (not e);
      ended = λ e q. absurd (not (inl e));
      truncated_end = λ e. absurd (not (inr (inr (inl e))));
      not_ended = λ e. absurd (not (answered-stop c.status e));
      which = λ e. absurd (not (inl e));
      known = lost-known c.status other;
      done = record {
        only = λ e. absurd (not (inl e));
        at_quit = λ _. inr other;
        at_clean = each c.left_before (λ all. IsClean c all → IsOrLost c.status DONE) (λ all d. inr other);
      };
      read_fault = record { only = λ e. absurd (not (inr (inl e))); passed = inr same };
      write_fault = record { only = rose; passed = λ e. absurd (not (inl e)) };
      truncated = record {
        only = λ e. absurd (not (inr (inr (inl e))));
        always = each c.left_before (λ all. IsTruncated c all → IsOrLost c.status TRUNCATED) (λ all t. inr other);
      };
      too_long = record { only = λ e. absurd (not (inr (inr (inr e)))); always = λ _. inr other };
    }

stops-not : (A : Type 0) (status : ℕ) → (status ≡ DONE) ⊎ (status ≡ TRUNCATED) → (status ≡ READ_FAULT) ⊎ (status ≡ TOO_LONG) → A
stops-not A status (inl d) (inl e) = absurd (omega arith)
stops-not A status (inl d) (inr e) = absurd (omega arith)
stops-not A status (inr d) (inl e) = absurd (omega arith)
stops-not A status (inr d) (inr e) = absurd (omega arith)

facts-quit : (c : Call) (left : Bool) → c.status ≡ DONE → Stopped Quit c left → c.write_faults_after ≡ c.write_faults_before → Facts c
facts-quit c left is h stays = record {
  first = begins-all c h.0;
  whole = λ _. h.0;
  ended = λ e q. differs (has_quit (requests c.history)) (c.at_end ≡ true) h.1 q;
  truncated_end = λ e. absurd (omega arith);
  not_ended = stops-not (c.at_end ≡ false) c.status (inl is);
  which = λ _. inl h.1;
  known = inl is;
  done = record {
    only = λ _. inl h.1;
    at_quit = λ _. inl is;
    at_clean = each c.left_before (λ all. IsClean c all → IsOrLost c.status DONE) (λ all d. inl is);
  };
  read_fault = record { only = λ e. absurd (omega arith); passed = inr h.2 };
  write_fault = record { only = λ e. absurd (omega arith); passed = λ _. stays };
  truncated = record {
    only = λ e. absurd (omega arith);
    always = each c.left_before (λ all. IsTruncated c all → IsOrLost c.status TRUNCATED)
        (λ all t. differs (has_quit (requests c.history)) (IsOrLost c.status TRUNCATED) h.1 t.no_quit);
  };
  too_long = record {
    only = λ e. absurd (omega arith);
    always = λ l. differs (has_quit (requests c.history)) (IsOrLost c.status TOO_LONG) h.1 l.no_quit;
  };
}

facts-clean : (c : Call) (left : Bool) → c.status ≡ DONE → Stopped (End Clean) c left → c.write_faults_after ≡ c.write_faults_before
    → Facts c
facts-clean c left is h stays = record {
  first = begins-all c h.0;
  whole = λ _. h.0;
  ended = λ e q. h.3;
  truncated_end = λ e. absurd (omega arith);
  not_ended = stops-not (c.at_end ≡ false) c.status (inl is);
  which = λ _. inr h.3;
  known = inl is;
  done = record {
    only = λ _. inr (mapped c.left_before _ (λ all. IsClean c all)
        (λ all e. record { ended = h.3; no_quit = h.1; clean = subst EndsClean (sym e) tt }) h.4);
    at_quit = λ _. inl is;
    at_clean = each c.left_before (λ all. IsClean c all → IsOrLost c.status DONE) (λ all d. inl is);
  };
  read_fault = record { only = λ e. absurd (omega arith); passed = inr h.2 };
  write_fault = record { only = λ e. absurd (omega arith); passed = λ _. stays };
  truncated = record {
    only = λ e. absurd (omega arith);
    always = mapped c.left_before _ (λ all. IsTruncated c all → IsOrLost c.status TRUNCATED)
        (λ all e t. absurd (subst EndsInside e t.inside)) h.4;
  };
  too_long = record {
    only = λ e. absurd (omega arith);
    always = λ l. differs c.at_end (IsOrLost c.status TOO_LONG) h.3 l.going_on;
  };
}

facts-truncated : (c : Call) (left : Bool) (p : ℕ) → c.status ≡ TRUNCATED → Stopped (End (Truncated p)) c left → Facts c
facts-truncated c left p is h = record {
  first = begins-all c h.0;
  whole = λ _. h.0;
  ended = λ e q. h.3;
  truncated_end = λ _. h.3;
  not_ended = stops-not (c.at_end ≡ false) c.status (inr is);
  which = λ e. absurd (omega arith);
  known = inr (inr (inr (inr (inl is))));
  done = record {
    only = λ e. absurd (omega arith);
    at_quit = λ q. differs (has_quit (requests c.history)) (IsOrLost c.status DONE) q h.1;
    at_clean = mapped c.left_before _ (λ all. IsClean c all → IsOrLost c.status DONE)
        (λ all e d. absurd (subst EndsClean e d.clean)) h.4;
  };
  read_fault = record { only = λ e. absurd (omega arith); passed = inr h.2 };
  write_fault = record { only = λ e. absurd (omega arith); passed = λ e. absurd (omega arith) };
  truncated = record {
    only = λ _. mapped c.left_before _ (λ all. IsTruncated c all)
        (λ all e. record { ended = h.3; no_quit = h.1; inside = subst EndsInside (sym e) tt }) h.4;
    always = each c.left_before (λ all. IsTruncated c all → IsOrLost c.status TRUNCATED) (λ all t. inl is);
  };
  too_long = record {
    only = λ e. absurd (omega arith);
    always = λ l. differs c.at_end (IsOrLost c.status TOO_LONG) h.3 l.going_on;
  };
}

facts-fault : (c : Call) (left : Bool) → c.status ≡ READ_FAULT → Stopped Fault c left → Facts c
facts-fault c left is h = record {
  first = begins-all c h.0;
  whole = λ _. h.0;
  ended = λ e q. absurd (omega arith);
  truncated_end = λ e. absurd (omega arith);
  not_ended = λ _. h.3;
  which = λ e. absurd (omega arith);
  known = inr (inl is);
  done = record {
    only = λ e. absurd (omega arith);
    at_quit = λ q. differs (has_quit (requests c.history)) (IsOrLost c.status DONE) q h.1;
    at_clean = each c.left_before (λ all. IsClean c all → IsOrLost c.status DONE)
        (λ all d. differs c.at_end (IsOrLost c.status DONE) d.ended h.3);
  };
  read_fault = record { only = λ _. h.2; passed = inl is };
  write_fault = record { only = λ e. absurd (omega arith); passed = λ e. absurd (omega arith) };
  truncated = record {
    only = λ e. absurd (omega arith);
    always = each c.left_before (λ all. IsTruncated c all → IsOrLost c.status TRUNCATED)
        (λ all t. differs c.at_end (IsOrLost c.status TRUNCATED) t.ended h.3);
  };
  too_long = record {
    only = λ e. absurd (omega arith);
    always = λ l. absurd (let few : c.taken < INPUT_LIMIT = h.4 in omega (arith, l.full));
  };
}

facts-limit : (c : Call) (left : Bool) → c.status ≡ TOO_LONG → Stopped Limit c left → Facts c
facts-limit c left is h = record {
  first = begins-all c h.0;
  whole = λ _. h.0;
  ended = λ e q. absurd (omega arith);
  truncated_end = λ e. absurd (omega arith);
  not_ended = λ _. h.3;
  which = λ e. absurd (omega arith);
  known = inr (inr (inr (inr (inr is))));
  done = record {
    only = λ e. absurd (omega arith);
    at_quit = λ q. differs (has_quit (requests c.history)) (IsOrLost c.status DONE) q h.1;
    at_clean = each c.left_before (λ all. IsClean c all → IsOrLost c.status DONE)
        (λ all d. differs c.at_end (IsOrLost c.status DONE) d.ended h.3);
  };
  read_fault = record { only = λ e. absurd (omega arith); passed = inr h.2 };
  write_fault = record { only = λ e. absurd (omega arith); passed = λ e. absurd (omega arith) };
  truncated = record {
    only = λ e. absurd (omega arith);
    always = each c.left_before (λ all. IsTruncated c all → IsOrLost c.status TRUNCATED)
        (λ all t. differs c.at_end (IsOrLost c.status TRUNCATED) t.ended h.3);
  };
  too_long = record { only = λ _. record { full = h.4; going_on = h.3; no_quit = h.1 }; always = λ _. inl is };
}

facts : (c : Call) (how : Stop) (failed left : Bool) → c.status ≡ status_of how failed → Stopped how c left
    → (failed ≡ true → Rose c.write_faults_before c.write_faults_after)
    → (failed ≡ false → c.write_faults_after ≡ c.write_faults_before) → Facts c
facts c Quit false left is h rose stays = facts-quit c left is h (stays refl)
facts c Quit true left is h rose stays = facts-lost c (begins-all c h.0) (inl is) (λ _. rose refl) h.2
facts c (End Clean) false left is h rose stays = facts-clean c left is h (stays refl)
facts c (End Clean) true left is h rose stays = facts-lost c (begins-all c h.0) (inl is) (λ _. rose refl) h.2
facts c (End (Truncated p)) failed left is h rose stays = facts-truncated c left p is h
facts c Fault failed left is h rose stays = facts-fault c left is h
facts c Limit failed left is h rose stays = facts-limit c left is h
facts c (Lost WriteFault) true left is h rose stays = facts-lost c h.0 (inl is) (λ _. rose refl) h.1
facts c (Lost WriteFault) false left is h rose stays = facts-lost c h.0 (inr is) (λ e. absurd (omega arith)) h.1
facts c (Lost WantOfMemory) failed left is h rose stays = facts-lost c h.0 (inr is) (λ e. absurd (omega arith)) h.1

-- ---- the bytes that were written

written-prefix : (g : Bool) (a b : Option (List ℕ)) (xs : List ℕ) → Grew false g a b xs → AppendsPrefix a b xs
written-prefix false a b xs w = (length xs, subst (Appends a b) (sym (take_all (length xs) xs (omega arith))) w)
written-prefix true a b xs w = w

-- where no write failed, all that the history renders was written
pub whole-put : (o : Output) (h : List Event) → IsPut (fresh o) (rendered h) o → o.failed ≡ false
    → Appends o.first_written o.written (rendered h)
whole-put o h put e = subst (λ g. Grew false g o.first_written o.written (rendered h)) e put.grew

not-failed : (failed : Bool) (f g : ℕ) → Stood f g → (failed ≡ true → Rose f g) → failed ≡ false
not-failed false f g h r = refl
not-failed true f g h r = let rose : Rose f g = r refl in absurd (omega arith)

done-clean : (how : Stop) (failed : Bool) (status : ℕ) → status ≡ status_of how failed → status ≡ DONE → failed ≡ false
done-clean how false status is e = refl
done-clean Quit true status is e = absurd (omega arith)
done-clean (End Clean) true status is e = absurd (omega arith)
done-clean (End (Truncated p)) true status is e = absurd (omega arith)
done-clean Fault true status is e = absurd (omega arith)
done-clean Limit true status is e = absurd (omega arith)
done-clean (Lost WriteFault) true status is e = absurd (omega arith)
done-clean (Lost WantOfMemory) true status is e = absurd (omega arith)

clean-from : (c : Call) (how : Stop) (failed : Bool) → c.status ≡ status_of how failed
    → (failed ≡ true → Rose c.write_faults_before c.write_faults_after)
    → Stood c.write_faults_before c.write_faults_after ⊎ (c.status ≡ DONE) → failed ≡ false
clean-from c how failed is rose (inl stood) = not-failed failed c.write_faults_before c.write_faults_after stood rose
clean-from c how failed is rose (inr e) = done-clean how failed c.status is e

-- a status behind which all was answered tells that no write failed, where the loop knew it
pub answered-clean : (how : Stop) (failed : Bool) (status : ℕ) → status ≡ status_of how failed → IsAnswered status
    → UnlessLost how (failed ≡ false) → failed ≡ false
answered-clean Quit failed status is a u = u
answered-clean (End end) failed status is a u = u
answered-clean Fault failed status is a u = u
answered-clean Limit failed status is a u = u
answered-clean (Lost WriteFault) true status is a u = absurd (not-answered status (inl is) a)
answered-clean (Lost WriteFault) false status is a u = refl
answered-clean (Lost WantOfMemory) failed status is a u = absurd (not-answered status (inr is) a)

-- there is no other status
pub stop-known : (how : Stop) (failed : Bool) (status : ℕ) → status ≡ status_of how failed → IsStatus status
stop-known Quit true status is = inr (inr (inl is))
stop-known Quit false status is = inl is
stop-known (End Clean) true status is = inr (inr (inl is))
stop-known (End Clean) false status is = inl is
stop-known (End (Truncated p)) failed status is = inr (inr (inr (inr (inl is))))
stop-known Fault failed status is = inr (inl is)
stop-known Limit failed status is = inr (inr (inr (inr (inr is))))
stop-known (Lost WriteFault) true status is = inr (inr (inl is))
stop-known (Lost WriteFault) false status is = inr (inr (inr (inl is)))
stop-known (Lost WantOfMemory) failed status is = inr (inr (inr (inl is)))

-- ---- answers without want of memory are whole

has_short-append : (xs ys : List Line) → has_short (xs ++ ys) ≡ (has_short xs || has_short ys)
has_short-append [] ys = refl
has_short-append (x ∷ xs) ys = ap (λ b. is_short x || b) (has_short-append xs ys) ∙ grouped (is_short x) (has_short xs) (has_short ys)
  where
    grouped : (a b c : Bool) → (a || (b || c)) ≡ ((a || b) || c)
    grouped true b c = refl
    grouped false b c = refl

short-both : (xs ys : List Line) → has_short (xs ++ ys) ≡ false → (has_short xs ≡ false) × (has_short ys ≡ false)
short-both xs ys e =
    let both : (has_short xs || has_short ys) ≡ false = sym (has_short-append xs ys) ∙ e in
    (or-left (has_short xs) (has_short ys) both, or-right (has_short xs) (has_short ys) both)

-- a request that was cut has a line that says so
whole-cut : (d : Document) (q : Request) (cut : Cut) → MayBe d q cut → has_short (answer d q cut).lines ≡ false → cut ≡ whole
whole-cut d q whole may e = refl
whole-cut d (Bad b) (after n) may e = absurd may
whole-cut d (Do t) (after n) may e =
    let xs = (perform d t.tag t.command (after n)).lines in
    let short : has_short (last_lines t.tag (after n)) ≡ false = (short-both xs (last_lines t.tag (after n)) e).1 in
    differs true (after n ≡ whole) refl short

all_whole : (p : Standing) (h : List Event) → LegalFrom p h → has_short (render h) ≡ false → AllWhole (outcomes h)
all_whole p [] l e = tt
all_whole p (command n q cut ls ∷ es) l e = (
  whole-cut p.document q cut l.0.may (ap has_short (sym l.0.lines) ∙ (short-both ls (render es) e).0),
  all_whole (step p (command n q cut ls)) es l.1 (short-both ls (render es) e).1,
)
all_whole p (shut ∷ es) l e = all_whole (step p shut) es l.1 e
all_whole p (claim s n ∷ es) l e = absurd l.0
all_whole p (none_waiting s ∷ es) l e = absurd l.0
all_whole p (returned s n kept ∷ es) l e = absurd l.0
all_whole p (lose s n ∷ es) l e = absurd l.0
all_whole p (join_answered ∷ es) l e = absurd l.0
all_whole p (join_not_yet n s ∷ es) l e = absurd l.0
all_whole p (join_stopped ∷ es) l e = absurd l.0

-- ---- the theorem

-- a closed history isn't empty
pub closed-some : (h : List Event) (A : Type 0) → is_closed h ≡ true → h ≡ [] → A
closed-some h A c e = differs (is_closed h) A c (ap is_closed e)

legal-closed : (c : Call) (h : List Event) → Legal LIVE_LIMIT h → is_closed h ≡ true → HasLegalHistory c h
legal-closed c [] l e = let d : false ≡ true = e in absurd (cc)
legal-closed c (x ∷ xs) l e = (l, e)

first-of : (c : Call) → IfSome c.left_before (λ all. Begins (requests c.history) (requests_read c all))
    → IfSome c.left_before (λ all. take (length (requests c.history)) (requests_read c all) ≡ requests c.history)
first-of c b = mapped c.left_before _ (λ all. take (length (requests c.history)) (requests_read c all) ≡ requests c.history)
    (λ all f. ap (take (length (requests c.history))) f.1 ∙ take-append_seam (requests c.history) f.0) b

completed : (c : Call) → Facts c → (has_short (render c.history) ≡ false → AllWhole (outcomes c.history)) → IsStatus c.status →
    HasCompleteness c
completed c f all_done (inl e) sr sw = inr (inr (record { all = f.whole (inl e); whole = all_done; which = inl (e, f.which e) }))
completed c f all_done (inr (inl e)) sr sw =
    absurd (let rose : Rose c.read_faults_before c.read_faults_after = f.read_fault.only e in omega arith)
completed c f all_done (inr (inr (inl e))) sr sw =
    absurd (let rose : Rose c.write_faults_before c.write_faults_after = f.write_fault.only e in omega arith)
completed c f all_done (inr (inr (inr (inl e)))) sr sw = inr (inl e)
completed c f all_done (inr (inr (inr (inr (inl e))))) sr sw =
    inr (inr (record { all = f.whole (inr (inr (inl e))); whole = all_done; which = inr (inl (e, f.truncated_end e)) }))
completed c f all_done (inr (inr (inr (inr (inr e))))) sr sw =
    inr (inr (record { all = f.whole (inr (inr (inr e))); whole = all_done; which = inr (inr (e, f.too_long.only e)) }))

-- what the parts of a closed session are, in the words of its call
pub record IsParted (c : Call) (o : Output) : Type 0 where
  pub legal : Legal LIVE_LIMIT c.history
  pub closed : is_closed c.history ≡ true
  pub put : IsPut (fresh o) (rendered c.history) o
  pub cause : o.failed ≡ true → Rose o.first_faults o.faults
  pub first_written : c.written_before ≡ o.first_written
  pub written : c.written_after ≡ o.written
  pub first_faults : c.write_faults_before ≡ o.first_faults
  pub faults : c.write_faults_after ≡ o.faults

pub concludes : (c : Call) (how : Stop) (left : Bool) (o : Output)
    → Served (source_of c) (record { stop = how; taken = c.taken; at_end = c.at_end }) (requests c.history) left
    → c.status ≡ status_of how o.failed → IsParted c o → IsSession c
concludes c how left o served is p =
    let rose : o.failed ≡ true → Rose c.write_faults_before c.write_faults_after =
    λ e. subst (λ (z : ℕ × ℕ). Rose z.0 z.1) (λ i. (sym p.first_faults i, sym p.faults i)) (p.cause e) in
    let stays : o.failed ≡ false → c.write_faults_after ≡ c.write_faults_before = λ e. p.faults ∙ (p.put.passed e ∙ sym p.first_faults) in
    let f : Facts c = facts c how o.failed left is served.stopped rose stays in
    let bytes : (P : Option (List ℕ) → Option (List ℕ) → Type 0) → P o.first_written o.written → P c.written_before c.written_after =
    λ P q. subst (λ (z : Option (List ℕ) × Option (List ℕ)). P z.0 z.1) (λ i. (sym p.first_written i, sym p.written i)) q in
    record {
      legal = legal-closed c c.history p.legal p.closed;
      read = record {
        taken_bytes = served.taken_bytes;
        first = first-of c f.first;
        whole = f.whole;
        nothing_left = served.nothing_left;
        ended = f.ended;
        truncated_end = f.truncated_end;
        not_ended = f.not_ended;
        limit = served.limit;
      };
      written = record {
        whole = λ w. bytes (λ a b. Appends a b (rendered c.history)) (whole-put o c.history p.put (clean-from c how o.failed is rose w));
        prefix = bytes (λ a b. AppendsPrefix a b (rendered c.history))
            (written-prefix o.failed o.first_written o.written (rendered c.history) p.put.grew);
      };
      one_thread = is_answered LIVE_LIMIT c.history p.legal;
      known = inr f.known;
      done = f.done;
      read_fault = f.read_fault;
      write_fault = f.write_fault;
      truncated = f.truncated;
      too_long = f.too_long;
      complete = completed c f (all_whole (start LIVE_LIMIT) c.history p.legal) f.known;
    }
