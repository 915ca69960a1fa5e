-- What follows a proof depends on its statement and its closer, and not on what stands within it.
use Rattle.std.proofs.Common.{◌≡◌, ℕ, List, Option, Some, None, Result, Ok, Err, refl}
use Rattle.vern_sentence.specs.Trees.{Closer, qed, defined, admitted, abort, Sentence, declare, define, begin, proof_word, refinement, bullet, brace_in, brace_out, close}
use Rattle.vern_sentence.specs.Trees as sentence
use Rattle.env_theory.specs.Declarations.{Declaration}
use Rattle.tactic_theory.specs.Typing.{typed}
use Rattle.tactic_theory.specs.States.{State, StepFault, Inner, proof, open_brace, close_brace, by_bullet, inner_of, run_one}
use Rattle.script_theory.specs.Sizes.{large}
use Rattle.script_theory.specs.Sentences.{Open, Script, bytes_of, stepped, inner_at, one_at, one, skipped, skip}
use Rattle.script_theory.specs.Kept.{IsInner, Delegates}

-- ---- inner sentences

stepped_skips : (id : ℕ) (E : List Declaration) (p : Open) (r : Result State StepFault) (k : Closer) →
    skip (stepped id E p r).0 k ≡ skipped k E (Some p)
stepped_skips id E p (Ok u) k = refl
stepped_skips id E p (Err e) k = refl

inner_skips : (id : ℕ) (E : List Declaration) (p : Open) (f : Option ℕ) (x : Inner sentence.Refinement) (k : Closer) →
    skip (inner_at id E p f x).0 k ≡ skipped k E (Some p)
inner_skips id E p (Some f) x k = refl
inner_skips id E p None x k = stepped_skips id E p (run_one (large E) (typed E) E x p.goals) k

at_skips : (id : ℕ) (E : List Declaration) (p : Option Open) (x : Sentence) → IsInner x → (k : Closer) →
    skip (one_at id E p x).0 k ≡ skipped k E p
at_skips id E (Some p) proof_word i k = inner_skips id E p p.fault proof k
at_skips id E (Some p) (refinement r) i k = inner_skips id E p p.fault (inner_of r) k
at_skips id E (Some p) (bullet b m) i k = inner_skips id E p p.fault (by_bullet (bytes_of m b)) k
at_skips id E (Some p) brace_in i k = inner_skips id E p p.fault open_brace k
at_skips id E (Some p) brace_out i k = inner_skips id E p p.fault close_brace k
at_skips id E None proof_word i k = refl
at_skips id E None (refinement r) i k = refl
at_skips id E None (bullet b m) i k = refl
at_skips id E None brace_in i k = refl
at_skips id E None brace_out i k = refl
at_skips id E p (declare x y) i k = absurd i
at_skips id E p (define x gs r b) i k = absurd i
at_skips id E p (begin x b) i k = absurd i
at_skips id E p (close c) i k = absurd i

-- an inner sentence changes nothing of what a closer leaves where it skips the proof
pub inner_leaves : (s : Script) (id : ℕ) (x : Sentence) → IsInner x → (k : Closer) → skip (one s id x).0 k ≡ skip s k
inner_leaves s id x i k = at_skips id s.env s.proof x i k

-- ---- closers

closed_skips : (id : ℕ) (E : List Declaration) (p : Option Open) (k : Closer) → Delegates k → (one_at id E p (close k)).0 ≡ skipped k E p
closed_skips id E None qed d = refl
closed_skips id E None admitted d = refl
closed_skips id E None abort d = refl
closed_skips id E None defined d = absurd d
closed_skips id E (Some p) qed d = refl
closed_skips id E (Some p) admitted d = refl
closed_skips id E (Some p) abort d = refl
closed_skips id E (Some p) defined d = absurd d

-- a closer that delegates leaves what it leaves where it skips the proof
pub closer_leaves : (s : Script) (id : ℕ) (k : Closer) → Delegates k → (one s id (close k)).0 ≡ skip s k
closer_leaves s id k d = closed_skips id s.env s.proof k d

both_leave : (E : List Declaration) (p : Option Open) → skipped qed E p ≡ skipped admitted E p
both_leave E None = refl
both_leave E (Some p) = refl

-- Qed and Admitted leave the same
pub qed_as_admitted : (s : Script) → skip s qed ≡ skip s admitted
qed_as_admitted s = both_leave s.env s.proof
