-- What is found where a sentence is checked, refused, or none is left.
use Rattle.std.proofs.Common.{◌≡◌, ℕ, ◌+◌, List, ◌∷◌, ◌++◌, Bool, true, false, Option, Some, None, Result, Ok, Err, refl, sym, ap, ◌∙◌}
use Rattle.std.specs.Prelude.{is_some}
use Rattle.vern_sentence.specs.Trees.{Sentence, declare, define, begin, proof_word, refinement, bullet, brace_in, brace_out, close}
use Rattle.vern_sentence.specs.Trees as sentence
use Rattle.vern_step.specs.Parsed.{kind_of}
use Rattle.env_theory.specs.Declarations.{Declaration}
use Rattle.tactic_theory.specs.States.{State, StepFault, Inner}
use Rattle.fol_theory.specs.Syntax.{Formula}
use Rattle.script_theory.specs.Sentences.{Verdict, Open, Script, one, one_at, state_behind, verdicts, declared, begun, stepped, inner_at, lemma, declaration, definition}
use Rattle.step_core.specs.Standing.{is_open, is_within}
use Rattle.batch_check.specs.Numbers.{FIRST_ID}
use Rattle.batch_check.specs.Batch.{Piece, piece, bad_ones, batch_from, with_verdict, taken_with, opens, refusal_at, refusal_of}
use Rattle.batch_check.specs.Run.{Findings, Progress, found, found_with}

-- ---- where a sentence may stand

-- what isn't refused is within a proof exactly where one is open
pub placed : (o w : Bool) (count : ℕ) → refusal_at o w count ≡ None → o ≡ w
placed true true count e = refl
placed false false count e = refl
placed true false count e = absurd (cc)
placed false true count e = absurd (cc)

declared_closed : (E : List Declaration) (r : Result Declaration StepFault) → is_open (declared E r).0 ≡ false
declared_closed E (Ok d) = refl
declared_closed E (Err e) = refl

begun_open : (id : ℕ) (E : List Declaration) (r : Result (List ℕ × Formula) StepFault) → is_open (begun id E r).0 ≡ true
begun_open id E (Ok w) = refl
begun_open id E (Err e) = refl

stepped_open : (id : ℕ) (E : List Declaration) (o : Open) (r : Result State StepFault) → is_open (stepped id E o r).0 ≡ true
stepped_open id E o (Ok s) = refl
stepped_open id E o (Err e) = refl

inner_open : (id : ℕ) (E : List Declaration) (o : Open) (f : Option ℕ) (x : Inner sentence.Refinement) → is_open (inner_at id E o f x).0 ≡ true
inner_open id E o (Some f) x = refl
inner_open id E o None x = stepped_open id E o _

-- a sentence that stands where it may leaves a proof open by its kind
pub left_open : (s : Script) (id : ℕ) (x : Sentence) → is_open s ≡ is_within (kind_of x) → is_open (one s id x).0 ≡ opens (kind_of x)
left_open s id x h = go s.proof x h
  where
    go : (p : Option Open) (x : Sentence) → is_some p ≡ is_within (kind_of x) → is_open (one_at id s.env p x).0 ≡ opens (kind_of x)
    go None (declare y z) e = declared_closed s.env (declaration s.env y z)
    go None (define y gs r a) e = declared_closed s.env (definition s.env y gs r a)
    go None (begin y a) e = begun_open id s.env (lemma s.env y a)
    go None proof_word e = absurd (cc)
    go None (refinement r) e = absurd (cc)
    go None (bullet b k) e = absurd (cc)
    go None brace_in e = absurd (cc)
    go None brace_out e = absurd (cc)
    go None (close k) e = absurd (cc)
    go (Some o) (declare y z) e = absurd (cc)
    go (Some o) (define y gs r a) e = absurd (cc)
    go (Some o) (begin y a) e = absurd (cc)
    go (Some o) proof_word e = inner_open id s.env o o.fault _
    go (Some o) (refinement r) e = inner_open id s.env o o.fault _
    go (Some o) (bullet b k) e = inner_open id s.env o o.fault _
    go (Some o) brace_in e = inner_open id s.env o o.fault _
    go (Some o) brace_out e = inner_open id s.env o o.fault _
    go (Some o) (close k) e = refl

-- ---- what is found

-- where a sentence is checked, checking goes on
pub checked : (r : Progress) (p : ℕ) (x : Sentence) (ps : List Piece) (s : Script) (v : Verdict) (faults : List (ℕ × Verdict))
    → refusal_of (is_open r.state) (kind_of x) r.count ≡ None → one r.state (FIRST_ID + r.count) x ≡ (s, v)
    → ((vs : List (ℕ × Verdict)) → faults ++ vs ≡ r.faults ++ with_verdict (FIRST_ID + r.count) v vs)
    → found r (piece p x ∷ ps) ≡ found (record { state = s; faults = faults; count = r.count + 1 }) ps
checked r p x ps s v faults e f g =
    let id = FIRST_ID + r.count in
    let still : is_open s ≡ opens (kind_of x) =
    ap (λ (w : Script × Verdict). is_open w.0) (sym f)
    ∙ left_open r.state id x (placed (is_open r.state) (is_within (kind_of x)) r.count e) in
    let b = batch_from (r.count + 1) (opens (kind_of x)) ps in
    let after : Script × Verdict → Findings = λ w. record {
      state = state_behind b.sentences w.0;
      faults = r.faults ++ with_verdict id w.1 (bad_ones (verdicts b.sentences w.0));
      stop = b.stop;
    } in
    let more : List (ℕ × Verdict) → Findings = λ fs. record { state = state_behind b.sentences s; faults = fs; stop = b.stop } in
    ap (λ q. found_with r (taken_with q p id x b)) e ∙ ap after f ∙ ap more (sym (g (bad_ones (verdicts b.sentences s))))
    ∙ ap (λ o. found_with (record { state = s; faults = faults; count = r.count + 1 }) (batch_from (r.count + 1) o ps)) (sym still)
