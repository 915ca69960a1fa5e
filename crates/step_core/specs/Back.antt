-- What the text of a Stated declaration is read and typed as.
use Rattle.std.specs.Prelude.{◌≡◌, ℕ, List, ◌++◌, codes, Ok}
use Rattle.fol_theory.specs.Syntax.{Formula}
use Rattle.fol_theory.specs.Printing.{Alike}
use Rattle.vern_grammar.specs.Trees.{Name, Expression, Shape}
use Rattle.vern_sentence.specs.Trees.{begin, declare}
use Rattle.vern_step.specs.Parsed.{parsed}
use Rattle.env_theory.specs.Declarations.{Declaration, stated}
use Rattle.elab_theory.specs.Sentences.{statement_of, declaration_of}
use Rattle.step_theory.specs.Texts.{declaration_text}

-- `WORD TEXT.`
abbrev pub sentence_text : List ℕ → List ℕ → List ℕ
sentence_text word text = word ++ (codes " " ++ (text ++ codes "."))

-- behind `Lemma` the text of what is stated begins a proof of this formula, printing names aside
abbrev pub ReadsAsLemma : List Declaration → List (List ℕ) → List ℕ → Formula → Type 0
ReadsAsLemma E taken n a = (x : Name) × (t : Expression) × (b : Formula)
    × (parsed (sentence_text (codes "Lemma") (declaration_text taken (stated n a))) ≡ Ok (begin x t))
    × (x.text ≡ n) × (statement_of E x t ≡ Ok b) × Alike b a

-- behind `Axiom` it declares that this formula is stated, printing names aside
abbrev pub ReadsAsAxiom : List Declaration → List (List ℕ) → List ℕ → Formula → Type 0
ReadsAsAxiom E taken n a = (x : Name) × (s : Shape) × (b : Formula)
    × (parsed (sentence_text (codes "Axiom") (declaration_text taken (stated n a))) ≡ Ok (declare x s))
    × (declaration_of E x s ≡ Ok (stated n b)) × Alike b a
