-- A small text with the real check, computed.
use Rattle.std.proofs.Common.{◌≡◌, ℕ, List, [], ◌∷◌, ◌++◌, map, codes, Option, Some, None, refl}
use Rattle.serapi_cmd.specs.declared.command.QueryKind.TheVariants.{Goals, Env, Definition}
use Rattle.std.specs.Fmt.{digits}
use Rattle.vern_grammar.specs.Machine.{chain, place, whole}
use Rattle.script_theory.specs.Sentences.{Script}
use Rattle.doc_theory.specs.Documents.{Document, empty}
use Rattle.doc_theory.specs.Checks.{text_of, texts, unknown_name, judged}
use Rattle.doc_theory.specs.Answers.{add_all}
use Rattle.check_theory.specs.Language.{ask, language}
use Rattle.check_theory.specs.Proved.{state_at}

abbrev document_of : List ℕ → Document
document_of text = (add_all [] (language.pieces text) (empty 1048576)).document

-- the ids of a text's sentences, each with the text of its verdict
abbrev told_of : List ℕ → List (ℕ × Option (List ℕ))
told_of text = map (λ j. (j.mark.id, text_of j.verdict)) (judged language (document_of text))

abbrev state_behind : List ℕ → Script
state_behind text = state_at (judged language (document_of text))

abbrev opening : List ℕ
opening = codes "Parameter A : Prop. (* c *) Lemma c : A -> A. intro h."

proved : told_of (opening ++ codes " exact h. Qed.") ≡ (2, None) ∷ (3, None) ∷ (4, None) ∷ (5, None) ∷ (6, None) ∷ []
unfolding chain place whole
proved = refl

failed : told_of (opening ++ codes " split. Qed.")
    ≡ (2, None) ∷ (3, None) ∷ (4, None) ∷ (5, Some (codes "not of this form")) ∷ (6, Some (codes "blocked by 5")) ∷ []
unfolding chain place whole digits
failed = refl

goals : ask (state_behind opening) Goals ≡ texts ((codes "h : A" ++ (10 ∷ (codes "====" ++ (10 ∷ codes "A")))) ∷ [])
unfolding chain place whole
goals = refl

-- a bound name isn't printed as one of the context
abbrev splitting : List ℕ
splitting = codes "Parameter T : Set. Parameter P : T -> Prop. Lemma c : forall x : T, P x -> P x /"
    ++ (92 ∷ codes " exists y : T, P y. intros x y. split.")

two_goals : ask (state_behind splitting) Goals ≡ texts ((codes "x : T" ++ (10 ∷ (codes "y : P x" ++ (10 ∷ (codes "====" ++ (10 ∷ (codes "P x"
    ++ (10 ∷ 10 ∷ (codes "x : T" ++ (10 ∷ (codes "y : P x" ++ (10 ∷ (codes "====" ++ (10 ∷ codes "exists y0 : T, P y0")))))))))))))) ∷ [])
unfolding chain place whole digits
two_goals = refl

no_goals : ask (state_behind (opening ++ codes " exact h.")) Goals ≡ texts ([] ∷ [])
unfolding chain place whole
no_goals = refl

no_proof : ask (state_behind (opening ++ codes " Qed.")) Goals ≡ texts []
unfolding chain place whole
no_proof = refl

env : ask (state_behind (opening ++ codes " Qed.")) Env ≡ texts (codes "A : Prop" ∷ codes "c : A -> A" ∷ [])
unfolding chain place whole
env = refl

unknown : ask (state_behind (opening ++ codes " Abort.")) (Definition (codes "c")) ≡ unknown_name (codes "c")
unfolding chain place whole
unknown = refl
