-- A good closer of sentences that parsing gives has a derivation.
use Rattle.std.proofs.Common.{◌≡◌, ◌⊎◌, ℕ, List, [], ◌∷◌, ◌++◌, length, Option, Some, None, Result, Ok, Err, refl, ap, subst, ◌∙◌, arith}
use Rattle.std.specs.List.{All}
use Rattle.std.proofs.lemmas.List.Elements.{All-head}
use Rattle.fol_theory.specs.Syntax.{Formula}
use Rattle.vern_grammar.specs.Trees.{Name, Expression}
use Rattle.vern_sentence.specs.Trees.{Closer, qed, defined, Sentence, declare, define, begin, proof_word, refinement, bullet, brace_in, brace_out, close}
use Rattle.vern_sentence.specs.Names.{IsFreeName, names_of_sentence}
use Rattle.vern_sentence.proofs.Named.{free_names}
use Rattle.vern_step.proofs.Trees.{tree}
use Rattle.env_theory.specs.Declarations.{Declaration}
use Rattle.tactic_theory.specs.States.{StepFault}
use Rattle.script_theory.specs.Sentences.{good, Open, Script, lemma, begun, one_at, one, state_behind, empty}
use Rattle.script_theory.specs.Kept.{IsNamed, AreNamed, IsInner, AreInner, StatementProved, IsProved, StatementIs, IsInProof}
use Rattle.script_theory.proofs.Kept.{good_is_proved, inners_stay, block_is_proved}
use Rattle.step_theory.specs.Laws.{IsParsed, AreParsed, StatesWhatHolds}

some_name : (x : List ℕ) → IsFreeName x → x ≡ [] → ⊥
some_name x h e =
    let no : length x ≡ 0 = ap length e in
    omega (arith, h.0)

-- what a parsed sentence declares has a name
pub named : (t : Sentence) → IsParsed t → IsNamed t
named t w = go t (free_names w.0 t (tree w.0 t w.1))
  where
    go : (t : Sentence) → All (λ (x : Name). IsFreeName x.text) (names_of_sentence t) → IsNamed t
    go (declare x y) h = some_name x.text (All-head (λ (x : Name). IsFreeName x.text) x _ h)
    go (define x gs r a) h = some_name x.text (All-head (λ (x : Name). IsFreeName x.text) x _ h)
    go (begin x a) h = some_name x.text (All-head (λ (x : Name). IsFreeName x.text) x _ h)
    go proof_word h = tt
    go (refinement r) h = tt
    go (bullet b k) h = tt
    go brace_in h = tt
    go brace_out h = tt
    go (close c) h = tt

pub all_named : (ws : List (ℕ × Sentence)) → AreParsed ws → AreNamed ws
all_named [] h = tt
all_named (w ∷ ws) h = (named w.1 h.0, all_named ws h.1)

pub closer_shown : (ws : List (ℕ × Sentence)) → AreParsed ws → (id : ℕ) (c : Closer) → (c ≡ qed) ⊎ (c ≡ defined)
    → (one (state_behind ws empty) id (close c)).1 ≡ good → IsProved (state_behind ws empty).env (state_behind ws empty).proof
closer_shown ws h = good_is_proved ws (all_named ws h)

-- ---- a block

joined_named : (ws vs : List (ℕ × Sentence)) → AreNamed ws → AreNamed vs → AreNamed (ws ++ vs)
joined_named [] vs h k = k
joined_named (w ∷ ws) vs h k = (h.0, joined_named ws vs h.1 k)

inner_named : (ws : List (ℕ × Sentence)) → AreInner ws → AreNamed ws
inner_named [] h = tt
inner_named (w ∷ ws) h = (go w.1 h.0, inner_named ws h.1)
  where
    go : (t : Sentence) → IsInner t → IsNamed t
    go proof_word i = tt
    go (refinement r) i = tt
    go (bullet b k) i = tt
    go brace_in i = tt
    go brace_out i = tt
    go (declare x y) i = absurd i
    go (define x gs r a) i = absurd i
    go (begin x a) i = absurd i
    go (close c) i = absurd i

pub behind_joined : (ws vs : List (ℕ × Sentence)) (s : Script) → state_behind (ws ++ vs) s ≡ state_behind vs (state_behind ws s)
behind_joined [] vs s = refl
behind_joined (w ∷ ws) vs s = behind_joined ws vs (one s w.0 w.1).0

-- behind a lemma that failed the proof has no statement
nothing_stated : (id : ℕ) (E : List Declaration) (p : Option Open) (x : Name) (a : Expression) (f : StepFault) → p ≡ None
    → lemma E x a ≡ Err f → IsInProof E None (one_at id E p (begin x a)).0
nothing_stated id E (Some o) x a f n e = absurd cc
nothing_stated id E None x a f n e = go (lemma E x a) e
  where
    go : (r : Result (List ℕ × Formula) StepFault) → r ≡ Err f → IsInProof E None (begun id E r).0
    go (Ok w) e = absurd cc
    go (Err g) e = (refl, refl)

none_proved : (F : List Declaration) (p : Option Open) → StatementIs None p → IsProved F p → ⊥
none_proved F None h k = k
none_proved F (Some o) h k = subst (StatementProved F) h k

module _ (before : List (ℕ × Sentence)) (p : AreParsed before) (id : ℕ) (x : Name) (a : Expression) (q : IsParsed (begin x a)) where
  pub block_shown : (inner : List (ℕ × Sentence)) → AreInner inner → (closer_id : ℕ) (c : Closer) → (c ≡ qed) ⊎ (c ≡ defined)
      → (state_behind before empty).proof ≡ None
      → (one (state_behind inner (one (state_behind before empty) id (begin x a)).0) closer_id (close c)).1 ≡ good
      → StatesWhatHolds (state_behind before empty).env x a
  block_shown inner i closer_id c h n v = go (lemma s.env x a) refl
    where
      s : Script
      s = state_behind before empty

      opened_at : Script
      opened_at = (one s id (begin x a)).0

      go : (r : Result (List ℕ × Formula) StepFault) → lemma s.env x a ≡ r → StatesWhatHolds s.env x a
      go (Ok w) e = (w, e, block_is_proved before (all_named before p) id x (named (begin x a) q) a w inner i closer_id c h n e v)
      go (Err f) e =
          let all = before ++ ((id, begin x a) ∷ inner) in
          let same : state_behind all empty ≡ state_behind inner opened_at = behind_joined before ((id, begin x a) ∷ inner) empty in
          let names = joined_named before ((id, begin x a) ∷ inner) (all_named before p) (named (begin x a) q, inner_named inner i) in
          let proved = good_is_proved all names closer_id c h (ap (λ u. (one u closer_id (close c)).1) same ∙ v) in
          let stated = inners_stay inner i s.env None opened_at (nothing_stated id s.env s.proof x a f n e) in
          absurd (none_proved _ _ stated.1 (subst (λ u. IsProved u.env u.proof) same proved))
