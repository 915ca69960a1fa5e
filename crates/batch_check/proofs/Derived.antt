-- A good closer of a batch ends a lemma that has a derivation.
use Rattle.std.proofs.Common.{◌≡◌, ◌⊎◌, inl, inr, ℕ, List, [], ◌∷◌, ◌++◌, Bool, true, false, Option, Some, None, is_some, refl, sym, ap, ◌∙◌, subst}
use Rattle.vern_grammar.specs.Trees.{Name, Expression}
use Rattle.vern_sentence.specs.Trees.{Closer, qed, defined, Sentence, declare, define, begin, proof_word, refinement, bullet, brace_in, brace_out, close}
use Rattle.vern_step.specs.Parsed.{kind_of}
use Rattle.script_theory.specs.Sentences.{Verdict, good, faulty, blocked, misplaced, Script, one, state_behind, verdicts, empty}
use Rattle.script_theory.specs.Kept.{AreInner}
use Rattle.step_theory.specs.Laws.{AreParsed}
use Rattle.step_theory.proofs.Derived.{behind_joined, block_shown}
use Rattle.step_core.specs.Standing.{is_open, is_within}
use Rattle.batch_check.specs.Batch.{opens, batch, with_verdict, bad_ones, faults_of}
use Rattle.batch_check.specs.Derived.{HasFault, HasDerivation}
use Rattle.batch_check.proofs.Taking.{left_open}
use Rattle.batch_check.proofs.Standing.{Stands, stands}

-- ---- what stands behind sentences

-- whether a proof is open behind them
abbrev pub open_behind : Bool → List (ℕ × Sentence) → Bool
open_behind b [] = b
open_behind b (w ∷ ws) = open_behind (opens (kind_of w.1)) ws

stands_parts : (ws vs : List (ℕ × Sentence)) (b : Bool) → Stands b (ws ++ vs) → Stands b ws × Stands (open_behind b ws) vs
stands_parts [] vs b h = (tt, h)
stands_parts (w ∷ ws) vs b h =
    let r = stands_parts ws vs (opens (kind_of w.1)) h.2 in
    ((h.0, h.1, r.0), r.1)

all_parsed : (ws : List (ℕ × Sentence)) (b : Bool) → Stands b ws → AreParsed ws
all_parsed [] b h = tt
all_parsed (w ∷ ws) b h = (h.0, all_parsed ws (opens (kind_of w.1)) h.2)

-- the state behind them has an open proof as their kinds say
open_is : (ws : List (ℕ × Sentence)) (b : Bool) (s : Script) → Stands b ws → is_open s ≡ b → is_open (state_behind ws s) ≡ open_behind b ws
open_is [] b s h e = e
open_is (w ∷ ws) b s h e = open_is ws (opens (kind_of w.1)) (one s w.0 w.1).0 h.2 (left_open s w.0 w.1 (e ∙ h.1))

-- ---- the lemma of a block

-- sentences that end in a lemma and inner ones, before which no proof is open
record Begun (b : Bool) (ws : List (ℕ × Sentence)) : Type 0 where
  before : List (ℕ × Sentence)
  id : ℕ
  name : Name
  statement : Expression
  inside : List (ℕ × Sentence)
  parts : ws ≡ before ++ ((id, begin name statement) ∷ inside)
  stays : AreInner inside
  outside : open_behind b before ≡ false

find_lemma : (ws : List (ℕ × Sentence)) (b : Bool) → Stands b ws → open_behind b ws ≡ true → ((b ≡ true) × AreInner ws) ⊎ Begun b ws
find_lemma [] b h e = inl (e, tt)
find_lemma (w ∷ ws) b h e = go (find_lemma ws (opens (kind_of w.1)) h.2 e)
  where
    here : (x : Sentence) → b ≡ is_within (kind_of x) → opens (kind_of x) ≡ true → AreInner ws
        → ((b ≡ true) × AreInner ((w.0, x) ∷ ws)) ⊎ Begun b ((w.0, x) ∷ ws)
    here (begin x a) q o s = inr (record { before = []; id = w.0; name = x; statement = a; inside = ws; parts = refl; stays = s; outside = q })
    here proof_word q o s = inl (q, (tt, s))
    here (refinement r) q o s = inl (q, (tt, s))
    here (bullet c k) q o s = inl (q, (tt, s))
    here brace_in q o s = inl (q, (tt, s))
    here brace_out q o s = inl (q, (tt, s))
    here (declare x y) q o s = absurd cc
    here (define x gs r a) q o s = absurd cc
    here (close k) q o s = absurd cc

    go : ((opens (kind_of w.1) ≡ true) × AreInner ws) ⊎ Begun (opens (kind_of w.1)) ws → ((b ≡ true) × AreInner (w ∷ ws)) ⊎ Begun b (w ∷ ws)
    go (inl r) = here w.1 h.1 r.0 r.1
    go (inr r) = inr (record {
      before = w ∷ r.before;
      id = r.id;
      name = r.name;
      statement = r.statement;
      inside = r.inside;
      parts = ap (λ z. w ∷ z) r.parts;
      stays = r.stays;
      outside = r.outside;
    })

-- ---- the verdict of a sentence

-- a sentence that has no fault is good
is_faultless : (id : ℕ) (v : Verdict) (vs : List (ℕ × Verdict)) → (HasFault (with_verdict id v vs) id → ⊥) → v ≡ good
is_faultless id good vs n = refl
is_faultless id (faulty e) vs n = absurd (n (inl refl))
is_faultless id (blocked f) vs n = absurd (n (inl refl))
is_faultless id misplaced vs n = absurd (n (inl refl))

later_fault : (k : ℕ) (v : Verdict) (vs : List (ℕ × Verdict)) (id : ℕ) → HasFault vs id → HasFault (with_verdict k v vs) id
later_fault k good vs id h = h
later_fault k (faulty e) vs id h = inr h
later_fault k (blocked f) vs id h = inr h
later_fault k misplaced vs id h = inr h

verdict_good : (ws vs : List (ℕ × Sentence)) (id : ℕ) (x : Sentence) (s : Script)
    → (HasFault (bad_ones (verdicts (ws ++ ((id, x) ∷ vs)) s)) id → ⊥) → (one (state_behind ws s) id x).1 ≡ good
verdict_good [] vs id x s n = is_faultless id (one s id x).1 (bad_ones (verdicts vs (one s id x).0)) n
verdict_good (w ∷ ws) vs id x s n =
    let next = (one s w.0 w.1).0 in
    verdict_good ws vs id x next (λ h. n (later_fault w.0 (one s w.0 w.1).1 (bad_ones (verdicts (ws ++ ((id, x) ∷ vs)) next)) id h))

-- ---- good closers

none_open : (s : Script) → is_open s ≡ false → s.proof ≡ None
none_open s e = go s.proof e
  where
    go : {A : Type 0} (p : Option A) → is_some p ≡ false → p ≡ None
    go None e = refl
    go (Some o) e = absurd cc

module _ (before after : List (ℕ × Sentence)) (id : ℕ) (c : Closer) (h : Stands false (before ++ ((id, close c) ∷ after)))
    (finishes : (c ≡ qed) ⊎ (c ≡ defined)) (v : (one (state_behind before empty) id (close c)).1 ≡ good) where
  front : Stands false before × Stands (open_behind false before) ((id, close c) ∷ after)
  front = stands_parts before ((id, close c) ∷ after) false h

  from_lemma : Begun false before → HasDerivation before
  from_lemma b = record {
    before = b.before;
    id = b.id;
    name = b.name;
    statement = b.statement;
    inside = b.inside;
    parts = b.parts;
    stays = b.stays;
    proved = block_shown b.before (all_parsed b.before false parts.0) b.id b.name b.statement parts.1.0 b.inside b.stays id c finishes
        (none_open (state_behind b.before empty) (open_is b.before false empty parts.0 refl ∙ b.outside))
        (ap (λ s. (one s id (close c)).1) (sym state_inside) ∙ v);
  }
    where
      lemma_on : List (ℕ × Sentence)
      lemma_on = (b.id, begin b.name b.statement) ∷ b.inside

      parts : Stands false b.before × Stands (open_behind false b.before) lemma_on
      parts = stands_parts b.before lemma_on false (subst (Stands false) b.parts front.0)

      state_inside : state_behind before empty ≡ state_behind lemma_on (state_behind b.before empty)
      state_inside = ap (λ ws. state_behind ws empty) b.parts ∙ behind_joined b.before lemma_on empty

  ends_in_proof : HasDerivation before
  ends_in_proof = go (find_lemma before false front.0 front.1.1)
    where
      go : ((false ≡ true) × AreInner before) ⊎ Begun false before → HasDerivation before
      go (inl w) = absurd cc
      go (inr b) = from_lemma b

pub good_closer : (text : List ℕ) (before after : List (ℕ × Sentence)) (id : ℕ) (c : Closer)
    → (batch text).sentences ≡ before ++ ((id, close c) ∷ after) → (c ≡ qed) ⊎ (c ≡ defined)
    → (HasFault (faults_of (batch text)) id → ⊥) → HasDerivation before
good_closer text before after id c e f n =
    ends_in_proof before after id c (subst (Stands false) e (stands text)) f
    (verdict_good before after id (close c) empty
    (λ h. n (subst (λ ws. HasFault (bad_ones (verdicts ws empty)) id) (sym e) h)))
