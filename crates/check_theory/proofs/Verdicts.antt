-- The verdicts of sentences that were read are those of their trees.
use Rattle.std.proofs.Common.{◌≡◌, ℕ, List, [], ◌∷◌, map, Ok, refl, sym, ap, ◌∙◌}
use Rattle.vern_sentence.specs.Trees as made
use Rattle.vern_step.specs.Parsed.{parsed, kind_of}
use Rattle.script_theory.specs.Sentences.{Script, verdicts}
use Rattle.script_theory.specs.Sentences as script
use Rattle.doc_theory.specs.Documents.{Sentence, Mark}
use Rattle.doc_theory.specs.Checks.{Verdict, judged_from}
use Rattle.check_theory.specs.Pieces.{place_in_proofs}
use Rattle.check_theory.specs.Language.{told, checked, one_by, one, language}
use Rattle.check_theory.specs.Read.{IsRead, AreRead, with_tree, trees}
use Rattle.check_theory.proofs.Trees.{tree_found, tree_is}

-- a sentence is checked by its tree
pub one_found : (s : Script) (id : ℕ) (x : Sentence) (t : made.Sentence) → parsed x.text ≡ Ok t → x.kind ≡ place_in_proofs (kind_of t)
    → one s id x ≡ checked (script.one s id t)
one_found s id x t e k = ap (one_by s id x.kind) (tree_found x t e k)

pub one_is : (s : Script) (id : ℕ) (x : Sentence) (h : IsRead x) → one s id x ≡ checked (script.one s id h.0.0)
one_is s id x h = ap (one_by s id x.kind) (tree_is x h)

-- the verdicts, from a state
pub verdicts_are : (s : Script) (ms : List Mark) → AreRead ms
    → map {B = ℕ × Verdict} (λ j. (j.mark.id, j.verdict)) (judged_from language s ms) ≡ map (λ v. (v.0, told v.1)) (verdicts (trees ms) s)
verdicts_are s [] h = refl
verdicts_are s (m ∷ ms) h =
    (λ i. (m.id, (one_is s m.id m.sentence h.0 i).verdict)
    ∷ map {B = ℕ × Verdict} (λ j. (j.mark.id, j.verdict)) (judged_from language (one_is s m.id m.sentence h.0 i).state ms))
    ∙ ap (λ z. (m.id, told (script.one s m.id h.0.0.0).1) ∷ z) (verdicts_are (script.one s m.id h.0.0.0).0 ms h.1)
    ∙ ap (λ o. map (λ v. (v.0, told v.1)) (verdicts (with_tree m.id o (trees ms)) s)) (sym (tree_is m.sentence h.0))
