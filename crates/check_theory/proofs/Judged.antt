-- The verdicts of a document's live sentences, before and behind one of them.
use Rattle.std.proofs.Common.{◌≡◌, List, [], ◌∷◌, ◌++◌, refl, sym, ap, ◌∙◌}
use Rattle.script_theory.specs.Sentences.{Script, state_behind}
use Rattle.doc_theory.specs.Documents.{Mark}
use Rattle.doc_theory.specs.Checks.{Judged, judged_from, leaves, verdict}
use Rattle.check_theory.specs.Language.{language}
use Rattle.check_theory.specs.Read.{AreRead, with_tree, trees}
use Rattle.check_theory.specs.Proved.{state_from}
use Rattle.check_theory.proofs.Trees.{tree_is}
use Rattle.check_theory.proofs.Verdicts.{one_is}

-- a live sentence with its verdict in a state
abbrev pub judge : Script → Mark → Judged Script
judge s m = record { mark = m; verdict = verdict language s m.id m.sentence; state = leaves language s m.id m.sentence }

-- the live sentences before one that was judged, and behind it
pub record Cut (s : Script) (ms : List Mark) (js : List (Judged Script)) (j : Judged Script) : Type 0 where
  pub front : List Mark
  pub back : List Mark
  pub parts : ms ≡ front ++ (j.mark ∷ back)
  pub judged : js ≡ judged_from language s front
  pub last : j ≡ judge (state_from s js) j.mark

-- with one more before
cut_behind : (x j : Judged Script) (js : List (Judged Script)) (s : Script) (m : Mark) (ms : List Mark) → judge s m ≡ x
    → Cut (judge s m).state ms js j → Cut s (m ∷ ms) (x ∷ js) j
cut_behind x j js s m ms h c = record {
  front = m ∷ c.front;
  back = c.back;
  parts = ap (λ z. m ∷ z) c.parts;
  judged = (λ i. sym h i ∷ c.judged i);
  last = c.last ∙ ap (λ (z : Judged Script). judge (state_from z.state js) j.mark) h;
}

cut_here : (j : Judged Script) (s : Script) (m : Mark) (ms : List Mark) → judge s m ≡ j → Cut s (m ∷ ms) [] j
cut_here j s m ms h =
    let k : m ≡ j.mark = ap (λ (z : Judged Script). z.mark) h in
    record { front = []; back = ms; parts = ap (λ z. z ∷ ms) k; judged = refl; last = sym h ∙ ap (judge s) k }

pub cut_at : (js ks : List (Judged Script)) (j : Judged Script) (s : Script) (ms : List Mark) → judged_from language s ms ≡ js ++ (j ∷ ks)
    → Cut s ms js j
cut_at [] ks j s [] e = absurd cc
cut_at (x ∷ js) ks j s [] e = absurd cc
cut_at [] ks j s (m ∷ ms) e = cut_here j s m ms (cc)
cut_at (x ∷ js) ks j s (m ∷ ms) e = cut_behind x j js s m ms (cc) (cut_at js ks j (judge s m).state ms (cc))

-- judging goes on where it stopped
pub judged_join : (s : Script) (a b : List Mark)
    → judged_from language s (a ++ b) ≡ judged_from language s a ++ judged_from language (state_from s (judged_from language s a)) b
judged_join s [] b = refl
judged_join s (m ∷ a) b = ap (λ z. judge s m ∷ z) (judged_join (judge s m).state a b)

-- the state behind sentences that were read is that behind their trees
pub state_is : (s : Script) (ms : List Mark) → AreRead ms → state_from s (judged_from language s ms) ≡ state_behind (trees ms) s
state_is s [] h = refl
state_is s (m ∷ ms) h =
    state_is (judge s m).state ms h.1
    ∙ ap (λ (r : _). state_behind (trees ms) r.state) (one_is s m.id m.sentence h.0)
    ∙ ap (λ o. state_behind (with_tree m.id o (trees ms)) s) (sym (tree_is m.sentence h.0))
