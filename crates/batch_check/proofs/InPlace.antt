-- No sentence of a batch is out of place.
use Rattle.std.proofs.Common.{◌≡◌, ℕ, List, [], ◌∷◌, Bool, false, Option, Some, None, is_some, Result, Ok, Err, refl, ◌∙◌}
use Rattle.fol_theory.specs.Syntax.{Formula}
use Rattle.vern_sentence.specs.Trees.{Closer, qed, defined, admitted, abort, Sentence, declare, define, begin, proof_word, refinement, bullet, brace_in, brace_out, close}
use Rattle.vern_sentence.specs.Trees as sentence
use Rattle.vern_step.specs.Parsed.{kind_of}
use Rattle.env_theory.specs.Declarations.{Declaration}
use Rattle.tactic_theory.specs.States.{State, StepFault, Inner}
use Rattle.tactic_theory.specs.States as states
use Rattle.script_theory.specs.Sentences.{Verdict, good, faulty, blocked, misplaced, Open, Script, one, one_at, verdicts, declared, begun, stepped, inner_at, lemma, declaration, definition, qed_verdict, closing_verdict, empty}
use Rattle.step_core.specs.Standing.{is_open, is_within}
use Rattle.batch_check.specs.Batch.{opens, batch, with_verdict, bad_ones, faults_of}
use Rattle.batch_check.specs.Derived.{AreInPlace}
use Rattle.batch_check.proofs.Taking.{left_open}
use Rattle.batch_check.proofs.Standing.{Stands, stands}

abbrev pub IsInPlace : Verdict → Type 0
IsInPlace v = v ≡ misplaced → ⊥

declared_told : (E : List Declaration) (r : Result Declaration StepFault) → IsInPlace (declared E r).1
declared_told E (Ok d) e = absurd cc
declared_told E (Err f) e = absurd cc

begun_told : (id : ℕ) (E : List Declaration) (r : Result (List ℕ × Formula) StepFault) → IsInPlace (begun id E r).1
begun_told id E (Ok w) e = absurd cc
begun_told id E (Err f) e = absurd cc

stepped_told : (id : ℕ) (E : List Declaration) (o : Open) (r : Result State StepFault) → IsInPlace (stepped id E o r).1
stepped_told id E o (Ok s) e = absurd cc
stepped_told id E o (Err f) e = absurd cc

inner_told : (id : ℕ) (E : List Declaration) (o : Open) (f : Option ℕ) (x : Inner sentence.Refinement) → IsInPlace (inner_at id E o f x).1
inner_told id E o (Some f) x e = absurd cc
inner_told id E o None x e = stepped_told id E o _ e

qed_told : (r : Result State StepFault) → IsInPlace (qed_verdict r)
qed_told (Ok s) e = absurd cc
qed_told (Err f) e = absurd cc

closer_told : (k : Closer) (s : State) (f : Option ℕ) → IsInPlace (closing_verdict k s f)
closer_told k s (Some f) e = absurd cc
closer_told qed s None e = qed_told (states.qed s) e
closer_told defined s None e = qed_told (states.qed s) e
closer_told admitted s None e = absurd cc
closer_told abort s None e = absurd cc

-- a sentence that stands where it may isn't told to be out of place
told : (s : Script) (id : ℕ) (x : Sentence) → is_open s ≡ is_within (kind_of x) → IsInPlace (one s id x).1
told s id x h = go s.proof x h
  where
    go : (p : Option Open) (x : Sentence) → is_some p ≡ is_within (kind_of x) → IsInPlace (one_at id s.env p x).1
    go None (declare y z) h = declared_told s.env (declaration s.env y z)
    go None (define y gs r a) h = declared_told s.env (definition s.env y gs r a)
    go None (begin y a) h = begun_told id s.env (lemma s.env y a)
    go None proof_word h = absurd cc
    go None (refinement r) h = absurd cc
    go None (bullet b k) h = absurd cc
    go None brace_in h = absurd cc
    go None brace_out h = absurd cc
    go None (close k) h = absurd cc
    go (Some o) (declare y z) h = absurd cc
    go (Some o) (define y gs r a) h = absurd cc
    go (Some o) (begin y a) h = absurd cc
    go (Some o) proof_word h = inner_told id s.env o o.fault _
    go (Some o) (refinement r) h = inner_told id s.env o o.fault _
    go (Some o) (bullet b k) h = inner_told id s.env o o.fault _
    go (Some o) brace_in h = inner_told id s.env o o.fault _
    go (Some o) brace_out h = inner_told id s.env o o.fault _
    go (Some o) (close k) h = closer_told k o.goals o.fault

one_more : (id : ℕ) (v : Verdict) (vs : List (ℕ × Verdict)) → IsInPlace v → AreInPlace vs → AreInPlace (with_verdict id v vs)
one_more id good vs n h = h
one_more id (faulty e) vs n h = (n, h)
one_more id (blocked f) vs n h = (n, h)
one_more id misplaced vs n h = (n, h)

all_told : (ws : List (ℕ × Sentence)) (b : Bool) (s : Script) → Stands b ws → is_open s ≡ b → AreInPlace (bad_ones (verdicts ws s))
all_told [] b s h e = tt
all_told (w ∷ ws) b s h e =
    let here : is_open s ≡ is_within (kind_of w.1) = e ∙ h.1 in
    let next = (one s w.0 w.1).0 in
    one_more w.0 (one s w.0 w.1).1 (bad_ones (verdicts ws next)) (told s w.0 w.1 here)
    (all_told ws (opens (kind_of w.1)) next h.2 (left_open s w.0 w.1 here))

pub in_place : (text : List ℕ) → AreInPlace (faults_of (batch text))
in_place text = all_told (batch text).sentences false empty (stands text) refl
