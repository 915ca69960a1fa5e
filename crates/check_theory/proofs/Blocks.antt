-- Each good Qed or Defined of a document has a lemma, and what that states has a derivation.
use Rattle.std.proofs.Common.{◌≡◌, ◌⊎◌, inl, inr, List, [], ◌∷◌, ◌++◌, Bool, true, false, Option, Some, None, Ok, refl, sym, ap, subst, ◌∙◌}
use Rattle.line_theory.specs.Lists.{Every}
use Rattle.line_theory.specs.Flat.{closes}
use Rattle.line_theory.proofs.Lists.{no, every_parts}
use Rattle.vern_grammar.specs.Trees.{Name, Expression}
use Rattle.vern_sentence.specs.Trees as made
use Rattle.vern_step.specs.Parsed.{parsed, kind_of}
use Rattle.script_theory.specs.Sentences.{Script, state_behind}
use Rattle.script_theory.specs.Sentences as script
use Rattle.script_theory.specs.Kept.{IsInner, AreInner, IsProved}
use Rattle.doc_theory.specs.Documents.{Kind, plain, begin, inner, close, Document, Mark, marks}
use Rattle.doc_theory.specs.Flat.{role_of}
use Rattle.doc_theory.specs.Checks.{good, Checked, Judged, judged_from, judged}
use Rattle.check_theory.specs.Pieces.{place_in_proofs}
use Rattle.check_theory.specs.Language.{tree_of, told, language}
use Rattle.check_theory.specs.Read.{IsRead, AreRead, DocumentRead, with_tree, trees}
use Rattle.step_theory.specs.Laws.{AreParsed}
use Rattle.check_theory.specs.Proved.{Finishes, state_from, state_at, IsProvedLemma, EndsInProof}
use Rattle.check_theory.proofs.Trees.{kind_is, tree_is}
use Rattle.check_theory.proofs.Verdicts.{one_is}
use Rattle.check_theory.proofs.Placed.{Allows, opens, Placed, marks_placed, placed_read}
use Rattle.check_theory.proofs.Opened.{Stands, none_open, open_behind, open_stands}
use Rattle.check_theory.proofs.Judged.{judge, Cut, cut_at, judged_join, state_is}
use Rattle.step_theory.proofs.Derived.{behind_joined, closer_shown, block_shown}

-- ---- what a kind says of a tree

-- a tree that ends a proof
abbrev Closes : made.Sentence → Type 0
Closes t = (c : made.Closer) × (t ≡ made.close c) × ((c ≡ made.qed) ⊎ (c ≡ made.defined))

finishing : (t : made.Sentence) → Finishes (place_in_proofs (kind_of t)) → Closes t
finishing (made.close made.qed) h = (made.qed, refl, inl refl)
finishing (made.close made.defined) h = (made.defined, refl, inr refl)
finishing t (inl e) = absurd cc
finishing t (inr e) = absurd cc

beginning : (t : made.Sentence) → place_in_proofs (kind_of t) ≡ begin → (x : Name) × (a : Expression) × (t ≡ made.begin x a)
beginning (made.begin x a) e = (x, a, refl)
beginning t e = absurd cc

standing_inside : (t : made.Sentence) → place_in_proofs (kind_of t) ≡ inner → IsInner t
standing_inside made.proof_word e = tt
standing_inside (made.refinement r) e = tt
standing_inside (made.bullet b n) e = tt
standing_inside made.brace_in e = tt
standing_inside made.brace_out e = tt
standing_inside t e = absurd cc

finishes_role : (k : Kind) → Finishes k → role_of k ≡ closes
finishes_role k (inl e) = ap role_of e
finishes_role k (inr e) = ap role_of e

-- ---- the trees of sentences that were read

trees_parsed : (ms : List Mark) → AreRead ms → AreParsed (trees ms)
trees_parsed [] h = tt
trees_parsed (m ∷ ms) h =
    subst (λ o. AreParsed (with_tree m.id o (trees ms))) (sym (tree_is m.sentence h.0))
    ((m.sentence.text, h.0.0.1), trees_parsed ms h.1)

trees_inner : (ms : List Mark) → AreRead ms → Every (λ m. m.sentence.kind ≡ inner) ms → AreInner (trees ms)
trees_inner [] h k = tt
trees_inner (m ∷ ms) h k =
    subst (λ o. AreInner (with_tree m.id o (trees ms))) (sym (tree_is m.sentence h.0))
    (standing_inside h.0.0.0 (sym (kind_is m.sentence h.0) ∙ k.0), trees_inner ms h.1 k.1)

trees_join : (a b : List Mark) → trees (a ++ b) ≡ trees a ++ trees b
trees_join [] b = refl
trees_join (m ∷ a) b = ap (with_tree m.id (tree_of m.sentence)) (trees_join a b) ∙ go (tree_of m.sentence)
  where
    go : (o : Option made.Sentence) → with_tree m.id o (trees a ++ trees b) ≡ with_tree m.id o (trees a) ++ trees b
    go (Some t) = refl
    go None = refl

every_judged : (P : Mark → Type 0) (ms : List Mark) (s : Script) → Every P ms → Every (λ j. P j.mark) (judged_from language s ms)
every_judged P [] s h = tt
every_judged P (m ∷ ms) s h = (h.0, every_judged P ms (judge s m).state h.1)

-- ---- the lemma of a block

-- sentences that end in a lemma and inner ones, before which no proof is open
record Begun (b : Bool) (ms : List Mark) : Type 0 where
  before : List Mark
  first : Mark
  inside : List Mark
  parts : ms ≡ before ++ (first ∷ inside)
  begins : first.sentence.kind ≡ begin
  stays : Every (λ m. m.sentence.kind ≡ inner) inside
  placed : Placed b before
  outside : open_behind b before ≡ false

find_lemma : (ms : List Mark) (b : Bool) → Placed b ms → open_behind b ms ≡ true
    → ((b ≡ true) × Every (λ m. m.sentence.kind ≡ inner) ms) ⊎ Begun b ms
find_lemma [] b h e = inl (e, tt)
find_lemma (m ∷ ms) b h e = go (find_lemma ms (opens (role_of m.sentence.kind)) h.2 e)
  where
    here : (k : Kind) (c : Bool) → m.sentence.kind ≡ k → b ≡ c → Allows c (role_of k) → opens (role_of k) ≡ true
        → Every (λ m. m.sentence.kind ≡ inner) ms → ((b ≡ true) × Every (λ m. m.sentence.kind ≡ inner) (m ∷ ms)) ⊎ Begun b (m ∷ ms)
    here begin false k q a o s =
        inr (record { before = []; first = m; inside = ms; parts = refl; begins = k; stays = s; placed = tt; outside = q })
    here inner true k q a o s = inl (q, (k, s))
    here begin true k q a o s = absurd a
    here inner false k q a o s = absurd a
    here plain c k q a o s = no o
    here (close w) c k q a o s = no o

    go : ((opens (role_of m.sentence.kind) ≡ true) × Every (λ m. m.sentence.kind ≡ inner) ms) ⊎ Begun (opens (role_of m.sentence.kind)) ms
        → ((b ≡ true) × Every (λ m. m.sentence.kind ≡ inner) (m ∷ ms)) ⊎ Begun b (m ∷ ms)
    go (inl w) = here m.sentence.kind b refl refl h.1 w.0 w.1
    go (inr w) = inr (record {
      before = m ∷ w.before;
      first = w.first;
      inside = w.inside;
      parts = ap (λ z. m ∷ z) w.parts;
      begins = w.begins;
      stays = w.stays;
      placed = (h.0, h.1, w.placed);
      outside = w.outside;
    })

placed_parts : (ms ns : List Mark) (b : Bool) → Placed b (ms ++ ns) → Placed b ms × Placed (open_behind b ms) ns
placed_parts [] ns b h = (tt, h)
placed_parts (m ∷ ms) ns b h =
    let r = placed_parts ms ns (opens (role_of m.sentence.kind)) h.2 in
    ((h.0, h.1, r.0), r.1)

closes_open : (b : Bool) → Allows b closes → b ≡ true
closes_open true a = refl
closes_open false a = absurd a

-- ---- good closers

verdict_good : (v : script.Verdict) → told v ≡ good → v ≡ script.good
verdict_good script.good e = refl
verdict_good v e = absurd cc

-- a good Qed or Defined behind sentences that were read
record Closing (ms : List Mark) (js : List (Judged Script)) (j : Judged Script) : Type 0 where
  cut : Cut script.empty ms js j
  front : AreRead cut.front
  state : state_at js ≡ state_behind (trees cut.front) script.empty
  closer : made.Closer
  is : (closer ≡ made.qed) ⊎ (closer ≡ made.defined)
  verdict : (script.one (state_behind (trees cut.front) script.empty) j.mark.id (made.close closer)).1 ≡ script.good

closing : (ms : List Mark) (js ks : List (Judged Script)) (j : Judged Script) → AreRead ms → judged_from language script.empty ms ≡ js ++ (j ∷ ks)
    → Finishes j.mark.sentence.kind → j.verdict ≡ good → Closing ms js j
closing ms js ks j h e f v =
    let c = cut_at js ks j script.empty ms e in
    let r = every_parts (λ m. IsRead m.sentence) c.front (j.mark ∷ c.back) (subst AreRead c.parts h) in
    let t = finishing r.1.0.0.0 (subst Finishes (kind_is j.mark.sentence r.1.0) f) in
    let s : state_at js ≡ state_behind (trees c.front) script.empty = ap (state_from script.empty) c.judged
    ∙ state_is script.empty c.front r.0 in
    let w = verdict_good (script.one (state_at js) j.mark.id r.1.0.0.0).1
    (ap (λ (z : Checked Script). z.verdict) (sym (one_is (state_at js) j.mark.id j.mark.sentence r.1.0))
    ∙ ap (λ (z : Judged Script). z.verdict) (sym c.last) ∙ v) in
    record {
      cut = c;
      front = r.0;
      state = s;
      closer = t.0;
      is = t.2;
      verdict = (λ i. (script.one (sym s i) j.mark.id (sym t.1 i)).1) ∙ w;
    }

pub closer_proved : (d : Document) → AreRead (marks d) → (js ks : List (Judged Script)) (j : Judged Script)
    → judged language d ≡ js ++ (j ∷ ks) → Finishes j.mark.sentence.kind → j.verdict ≡ good
    → IsProved (state_at js).env (state_at js).proof
closer_proved d h js ks j e f v =
    let c = closing (marks d) js ks j h e f v in
    subst (λ s. IsProved s.env s.proof) (sym c.state)
    (closer_shown (trees c.cut.front) (trees_parsed c.cut.front c.front) j.mark.id c.closer c.is c.verdict)

module _ (js : List (Judged Script)) (j : Judged Script) (ms : List Mark) (c : Closing ms js j) (b : Begun false c.cut.front) where
  parts : AreRead b.before × AreRead (b.first ∷ b.inside)
  parts = every_parts (λ m. IsRead m.sentence) b.before (b.first ∷ b.inside) (subst AreRead b.parts c.front)

  lemma_tree : (x : Name) × (a : Expression) × (parts.1.0.0.0 ≡ made.begin x a)
  lemma_tree = beginning parts.1.0.0.0 (sym (kind_is b.first.sentence parts.1.0) ∙ b.begins)

  lemma_parsed : parsed b.first.sentence.text ≡ Ok (made.begin lemma_tree.0 lemma_tree.1)
  lemma_parsed = parts.1.0.0.1 ∙ ap (λ t. Ok t) lemma_tree.2

  -- the state behind the lemma and what stands inside
  state_inside : state_behind (trees c.cut.front) script.empty ≡ state_behind (trees b.inside)
      (script.one (state_behind (trees b.before) script.empty) b.first.id (made.begin lemma_tree.0 lemma_tree.1)).0
  state_inside =
      ap (λ z. state_behind (trees z) script.empty) b.parts
      ∙ ap (λ z. state_behind z script.empty) (trees_join b.before (b.first ∷ b.inside))
      ∙ behind_joined (trees b.before) (trees (b.first ∷ b.inside)) script.empty
      ∙ ap (λ o. state_behind (with_tree b.first.id o (trees b.inside)) (state_behind (trees b.before) script.empty))
      (tree_is b.first.sentence parts.1.0 ∙ ap (λ t. Some t) lemma_tree.2)

  proved_lemma : IsProvedLemma (state_behind (trees b.before) script.empty).env b.first.sentence.text
  proved_lemma = (
    lemma_tree.0,
    lemma_tree.1,
    lemma_parsed,
    block_shown (trees b.before) (trees_parsed b.before parts.0) b.first.id lemma_tree.0 lemma_tree.1
        (b.first.sentence.text, lemma_parsed) (trees b.inside) (trees_inner b.inside parts.1.1 b.stays) j.mark.id c.closer c.is
        (none_open _ (subst (λ q. Stands q (state_behind (trees b.before) script.empty).proof) b.outside
        (open_stands b.before false script.empty b.placed tt)))
        (ap (λ s. (script.one s j.mark.id (made.close c.closer)).1) (sym state_inside) ∙ c.verdict),
  )

  ends_in_proof : EndsInProof js
  ends_in_proof = record {
    before = judged_from language script.empty b.before;
    first = judge (state_at (judged_from language script.empty b.before)) b.first;
    inside = judged_from language (judge (state_at (judged_from language script.empty b.before)) b.first).state b.inside;
    parts = c.cut.judged ∙ ap (judged_from language script.empty) b.parts ∙ judged_join script.empty b.before (b.first ∷ b.inside);
    begins = b.begins;
    stays = every_judged (λ m. m.sentence.kind ≡ inner) b.inside _ b.stays;
    proved = subst (λ s. IsProvedLemma s.env b.first.sentence.text) (sym (state_is script.empty b.before parts.0)) proved_lemma;
  }

pub block_proved : (d : Document) → DocumentRead d → (js ks : List (Judged Script)) (j : Judged Script)
    → judged language d ≡ js ++ (j ∷ ks) → Finishes j.mark.sentence.kind → j.verdict ≡ good → EndsInProof js
block_proved d h js ks j e f v = go (find_lemma c.cut.front false placed.0 is_open)
  where
    all : Placed false (marks d)
    all = marks_placed d h

    c : Closing (marks d) js j
    c = closing (marks d) js ks j (placed_read false (marks d) all) e f v

    placed : Placed false c.cut.front × Placed (open_behind false c.cut.front) (j.mark ∷ c.cut.back)
    placed = placed_parts c.cut.front (j.mark ∷ c.cut.back) false (subst (Placed false) c.cut.parts all)

    is_open : open_behind false c.cut.front ≡ true
    is_open = closes_open (open_behind false c.cut.front)
        (subst (Allows (open_behind false c.cut.front)) (finishes_role j.mark.sentence.kind f) placed.1.1)

    go : ((false ≡ true) × Every (λ m. m.sentence.kind ≡ inner) c.cut.front) ⊎ Begun false c.cut.front → EndsInProof js
    go (inl w) = no w.0
    go (inr b) = ends_in_proof js j (marks d) c b
