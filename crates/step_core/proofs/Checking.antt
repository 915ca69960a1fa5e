-- One sentence, by where it stands.
use Rattle.std.proofs.Common.{◌≡◌, ℕ, Bool, true, false, List, ◌∷◌, Option, Some, None, is_some, option_map, Result, Ok, Err, refl, sym, ap, subst, ◌∙◌}
use Rattle.base_core.specs.Answers.{Answers}
use Rattle.vern_sentence.specs.Trees.{Closer, qed, defined, admitted, abort, Sentence, declare, define, begin, proof_word, refinement, bullet, brace_in, brace_out, close}
use Rattle.vern_parse.specs.declared.raw.Closer.{Closer as Closed}
use Rattle.vern_parse.specs.Sentences as parse
use Rattle.vern_step.specs.declared.kind.Kind.{Kind}
use Rattle.vern_step.specs.declared.kind.Kind.TheVariants as kind
use Rattle.vern_step.specs.Parsed.{kind_of, closing}
use Rattle.env_theory.specs.Declarations.{Declaration}
use Rattle.env_core.specs.declared.declaration.Decl.{Decl}
use Rattle.env_core.specs.Meaning.{declaration}
use Rattle.tactic_theory.specs.States.{State, StepFault}
use Rattle.tactic_theory.specs.States as states
use Rattle.script_theory.specs.Sentences.{Verdict, good, faulty, blocked, misplaced, Open, opened, Script, script, one_at, one, declared, begun, inner_at, closed_env, skip, skipped}
use Rattle.script_theory.specs.Sentences as check
use Rattle.script_theory.specs.Kept.{Delegates}
use Rattle.proof_state.specs.declared.state.State.{State as Goals}
use Rattle.proof_state.specs.States as part
use Rattle.step_core.specs.declared.proof.Lemma.{Lemma}
use Rattle.step_core.specs.declared.proof.OpenProof.TheVariants as proof
use Rattle.step_core.specs.declared.verdict.Fault.{Fault}
use Rattle.step_core.specs.declared.verdict.Verdict.{Verdict as Told}
use Rattle.step_core.specs.declared.verdict.Verdict.TheVariants as verdict
use Rattle.step_core.specs.declared.refusal.Refusal.TheVariants as refusal
use Rattle.step_core.specs.Proofs.{statement_of, open_of}
use Rattle.step_core.specs.Refusals.{refused}
use Rattle.step_core.specs.Standing.{is_open, fault_in, first_fault}
use Rattle.step_core.specs.Steps.{declared_by, stated_by, step_of, next, with_goals, with_fault, closing_in, adds, ended}
use Rattle.step_core.specs.Verdicts.{verdict_of, fault_of}

-- ---- kinds

begin_not_plain : Path Kind kind.Begin kind.Plain → ⊥
begin_not_plain e = cc

inner_not_plain : Path Kind kind.Inner kind.Plain → ⊥
inner_not_plain e = cc

close_not_plain : (k : Closed) → Path Kind (kind.Close k) kind.Plain → ⊥
close_not_plain k e = cc

plain_not_begin : Path Kind kind.Plain kind.Begin → ⊥
plain_not_begin e = cc

inner_not_begin : Path Kind kind.Inner kind.Begin → ⊥
inner_not_begin e = cc

close_not_begin : (k : Closed) → Path Kind (kind.Close k) kind.Begin → ⊥
close_not_begin k e = cc

plain_not_inner : Path Kind kind.Plain kind.Inner → ⊥
plain_not_inner e = cc

begin_not_inner : Path Kind kind.Begin kind.Inner → ⊥
begin_not_inner e = cc

close_not_inner : (k : Closed) → Path Kind (kind.Close k) kind.Inner → ⊥
close_not_inner k e = cc

plain_not_close : (k : Closed) → Path Kind kind.Plain (kind.Close k) → ⊥
plain_not_close k e = cc

begin_not_close : (k : Closed) → Path Kind kind.Begin (kind.Close k) → ⊥
begin_not_close k e = cc

inner_not_close : (k : Closed) → Path Kind kind.Inner (kind.Close k) → ⊥
inner_not_close k e = cc

same_close : (j k : Closed) → Path Kind (kind.Close j) (kind.Close k) → j ≡ k
same_close j k e = cc

-- ---- outside of proofs

declares_at : (id : ℕ) (E : List Declaration) (p : Option Open) (t : Sentence) → is_some p ≡ false → kind_of t ≡ kind.Plain
    → one_at id E p t ≡ declared E (declared_by E t)
declares_at id E (Some o) t c h = absurd cc
declares_at id E None (declare x y) c h = refl
declares_at id E None (define x gs r a) c h = refl
declares_at id E None (begin x a) c h = absurd (begin_not_plain h)
declares_at id E None proof_word c h = absurd (inner_not_plain h)
declares_at id E None (refinement r) c h = absurd (inner_not_plain h)
declares_at id E None (bullet b k) c h = absurd (inner_not_plain h)
declares_at id E None brace_in c h = absurd (inner_not_plain h)
declares_at id E None brace_out c h = absurd (inner_not_plain h)
declares_at id E None (close k) c h = absurd (close_not_plain (closing k) h)

begins_at : (id : ℕ) (E : List Declaration) (p : Option Open) (t : Sentence) → is_some p ≡ false → kind_of t ≡ kind.Begin
    → one_at id E p t ≡ begun id E (stated_by E t)
begins_at id E (Some o) t c h = absurd cc
begins_at id E None (begin x a) c h = refl
begins_at id E None (declare x y) c h = absurd (plain_not_begin h)
begins_at id E None (define x gs r a) c h = absurd (plain_not_begin h)
begins_at id E None proof_word c h = absurd (inner_not_begin h)
begins_at id E None (refinement r) c h = absurd (inner_not_begin h)
begins_at id E None (bullet b k) c h = absurd (inner_not_begin h)
begins_at id E None brace_in c h = absurd (inner_not_begin h)
begins_at id E None brace_out c h = absurd (inner_not_begin h)
begins_at id E None (close k) c h = absurd (close_not_begin (closing k) h)

-- a state without an open proof is its environment
closed_is : (s : Script) → is_open s ≡ false → script s.env None ≡ s
closed_is s c = go s.proof c
  where
    go : (p : Option Open) → is_some p ≡ false → script s.env None ≡ script s.env p
    go None c = refl
    go (Some o) c = absurd cc

module _ (s : Script) (id : ℕ) (t : Sentence) (E : List Declaration) (c : is_open s ≡ false) (e : E ≡ s.env) where
  pub declared_good : (u : Script) (d : Decl) → kind_of t ≡ kind.Plain → Answers declaration refused (Ok d) (declared_by E t)
      → u ≡ script (declaration d ∷ s.env) None → one s id t ≡ (u, verdict_of verdict.Good)
  declared_good u d h a k = declares_at id s.env s.proof t c h
      ∙ ap (declared s.env) (subst (λ F. declared_by F t ≡ Ok (declaration d)) e a)
      ∙ ap (λ u. (u, good)) (sym k)

  pub declared_fault : (f : Fault) → kind_of t ≡ kind.Plain → Answers declaration refused (Err (refusal.Fault f)) (declared_by E t)
      → one s id t ≡ (s, verdict_of (verdict.Fault f))
  declared_fault f h a = declares_at id s.env s.proof t c h
      ∙ ap (declared s.env) (subst (λ F. declared_by F t ≡ Err (fault_of f)) e a)
      ∙ ap (λ u. (u, faulty (fault_of f))) (closed_is s c)

  pub begun_good : (u : Script) (l : Lemma) → kind_of t ≡ kind.Begin → Answers statement_of refused (Ok l) (stated_by E t)
      → part.state_of l.state ≡ states.begin (statement_of l).1 → l.fault ≡ None → u ≡ script s.env (Some (open_of (proof.Of l)))
      → one s id t ≡ (u, verdict_of verdict.Good)
  begun_good u l h a g n k = begins_at id s.env s.proof t c h
      ∙ ap (begun id s.env) (subst (λ F. stated_by F t ≡ Ok (statement_of l)) e a)
      ∙ ap (λ (o : Open). (script s.env (Some o), good)) (λ i. opened (Some (statement_of l)) (sym g i) (sym n i))
      ∙ ap (λ u. (u, good)) (sym k)

  pub begun_fault : (u : Script) (f : Fault) → kind_of t ≡ kind.Begin
      → Answers statement_of refused (Err (refusal.Fault f)) (stated_by E t) → u ≡ script s.env (Some (open_of (proof.Failed id)))
      → one s id t ≡ (u, verdict_of (verdict.Fault f))
  begun_fault u f h a k = begins_at id s.env s.proof t c h
      ∙ ap (begun id s.env) (subst (λ F. stated_by F t ≡ Err (fault_of f)) e a)
      ∙ ap (λ u. (u, faulty (fault_of f))) (sym k)

pub ruleset declaring = (declared_good, declared_fault)

pub ruleset beginning = (begun_good, begun_fault)

-- ---- within a proof

inner_of_open : (id : ℕ) (E : List Declaration) (o : Open) (t : Sentence) → kind_of t ≡ kind.Inner
    → one_at id E (Some o) t ≡ inner_at id E o o.fault (step_of t)
inner_of_open id E o proof_word h = refl
inner_of_open id E o (refinement r) h = refl
inner_of_open id E o (bullet b k) h = refl
inner_of_open id E o brace_in h = refl
inner_of_open id E o brace_out h = refl
inner_of_open id E o (declare x y) h = absurd (plain_not_inner h)
inner_of_open id E o (define x gs r a) h = absurd (plain_not_inner h)
inner_of_open id E o (begin x a) h = absurd (begin_not_inner h)
inner_of_open id E o (close k) h = absurd (close_not_inner (closing k) h)

pub blocked_by : (s : Script) (id : ℕ) (t : Sentence) (f : ℕ) → kind_of t ≡ kind.Inner → Some f ≡ first_fault s
    → one s id t ≡ (s, verdict_of (verdict.Blocked f))
blocked_by s id t f h e = go s.proof e
  where
    go : (p : Option Open) → Some f ≡ fault_in p → one_at id s.env p t ≡ (script s.env p, blocked f)
    go None e = absurd cc
    go (Some o) e = inner_of_open id s.env o t h ∙ ap (λ r. inner_at id s.env o r (step_of t)) (sym e)

module _ (s : Script) (id : ℕ) (t : Sentence) (h : kind_of t ≡ kind.Inner) (c : is_open s ≡ true) (w : first_fault s ≡ None) where
  steps_by : (p : Option Open) (r : Result State StepFault) → is_some p ≡ true → fault_in p ≡ None → next (script s.env p) t ≡ r
      → (o : Open) × (p ≡ Some o) × (o.fault ≡ None) × (one_at id s.env p t ≡ check.stepped id s.env o r)
  steps_by None r c w a = absurd cc
  steps_by (Some o) r c w a = (
    o,
    refl,
    w,
    inner_of_open id s.env o t h ∙ ap (λ f. inner_at id s.env o f (step_of t)) w
        ∙ ap (check.stepped id s.env o) a,
  )

  pub stepped_good : (u : Script) (g : Goals) → Answers part.state_of refused (Ok g) (next s t) → u ≡ with_goals (part.state_of g) s
      → one s id t ≡ (u, verdict_of verdict.Good)
  stepped_good u g a k =
      let (o, p, n, is) = steps_by s.proof (Ok (part.state_of g)) c w a in
      is ∙ ap (λ (z : Option ℕ). (script s.env (Some (opened o.statement (part.state_of g) z)), good)) (sym n)
      ∙ ap (λ z. (script s.env (option_map (λ o. opened o.statement (part.state_of g) o.fault) z), good)) (sym p)
      ∙ ap (λ u. (u, good)) (sym k)

  pub stepped_fault : (u : Script) (f : Fault) → Answers part.state_of refused (Err (refusal.Fault f)) (next s t) → u ≡ with_fault id s
      → one s id t ≡ (u, verdict_of (verdict.Fault f))
  stepped_fault u f a k =
      let (o, p, n, is) = steps_by s.proof (Err (fault_of f)) c w a in
      is ∙ ap (λ z. (script s.env (option_map (λ o. opened o.statement o.goals (Some id)) z), faulty (fault_of f))) (sym p)
      ∙ ap (λ u. (u, faulty (fault_of f))) (sym k)

pub ruleset blocking = (blocked_by)

pub ruleset stepping = (stepped_good, stepped_fault)

-- ---- closers

-- the sentence of a closer's kind is that closer
pub closer_is : (t : Sentence) (k : Closed) → kind.Close k ≡ kind_of t → t ≡ close (parse.closing k)
closer_is (close c) k h = ap close (own c ∙ ap parse.closing (sym (same_close k (closing c) h)))
  where
    own : (c : Closer) → c ≡ parse.closing (closing c)
    own qed = refl
    own defined = refl
    own admitted = refl
    own abort = refl
closer_is (declare x y) k h = absurd (plain_not_close k (sym h))
closer_is (define x gs r a) k h = absurd (plain_not_close k (sym h))
closer_is (begin x a) k h = absurd (begin_not_close k (sym h))
closer_is proof_word k h = absurd (inner_not_close k (sym h))
closer_is (refinement r) k h = absurd (inner_not_close k (sym h))
closer_is (bullet b n) k h = absurd (inner_not_close k (sym h))
closer_is brace_in k h = absurd (inner_not_close k (sym h))
closer_is brace_out k h = absurd (inner_not_close k (sym h))

pub closed_by : (s u : Script) (id : ℕ) (t : Sentence) (k : Closed) (v : Told) → kind.Close k ≡ kind_of t
    → ((id : ℕ) → one s id (close (parse.closing k)) ≡ (u, verdict_of v)) → one s id t ≡ (u, verdict_of v)
closed_by s u id t k v h a = ap (one s id) (closer_is t k h) ∙ a id

pub ruleset closers = (closed_by)

-- the environment that a closer leaves
env_is : (k : Closer) (E : List Declaration) (o : Open) (v : Verdict)
    → script (closed_env k E o.statement v) None ≡ ended (adds k v) (script E (Some o))
env_is qed E o v = refl
env_is defined E o good = refl
env_is defined E o (faulty e) = refl
env_is defined E o (blocked f) = refl
env_is defined E o misplaced = refl
env_is admitted E o v = refl
env_is abort E o v = refl

pub closed_good : (s u : Script) (k : Closer) (v : Told) (b : Bool) → is_open s ≡ true → verdict_of v ≡ closing_in k s.proof
    → b ≡ adds k (verdict_of v) → u ≡ ended b s → (id : ℕ) → one s id (close k) ≡ (u, verdict_of v)
closed_good s u k v b c h a e id = go s.proof c h ∙ ap (λ z. (ended z s, verdict_of v)) (sym a) ∙ ap (λ z. (z, verdict_of v)) (sym e)
  where
    go : (p : Option Open) → is_some p ≡ true → verdict_of v ≡ closing_in k p
        → one_at id s.env p (close k) ≡ (ended (adds k (verdict_of v)) (script s.env p), verdict_of v)
    go None c h = absurd cc
    go (Some o) c h = (λ i. (script (closed_env k s.env o.statement (sym h i)) None, sym h i))
        ∙ ap (λ z. (z, verdict_of v)) (env_is k s.env o (verdict_of v))

pub ruleset closing_rules = (closed_good)

pub skipped_is : (s u : Script) (k : Closer) (b : Bool) → Delegates k → b ≡ adds k good → u ≡ ended b s → u ≡ skip s k
skipped_is s u k b d a e = e ∙ ap (λ z. ended z s) a ∙ go k d s.proof
  where
    go : (k : Closer) → Delegates k → (p : Option Open) → ended (adds k good) (script s.env p) ≡ skipped k s.env p
    go qed d None = refl
    go qed d (Some o) = refl
    go admitted d None = refl
    go admitted d (Some o) = refl
    go abort d None = refl
    go abort d (Some o) = refl
    go defined d p = absurd d

pub ruleset skipping = (skipped_is)
