-- Evidence: names with arguments, in parentheses or not.
use Rattle.std.specs.Prelude.{ℕ, ◌+◌, ◌<◌, List, [], ◌∷◌, ◌++◌}
use Rattle.vern_lex.specs.declared.span.Span.{Span}
use Rattle.vern_grammar.specs.Trees.{Name, Expression}
use Rattle.vern_grammar.specs.Kinds.{Lexeme}
use Rattle.vern_grammar.specs.Kinds as kind
use Rattle.vern_grammar.specs.Levels.{limit}
use Rattle.vern_grammar.specs.Grammar.{tok, named, application, single}

-- IsEvidenceBehind o tokens tree: the tokens are evidence with this tree, where o openings are open before it. Parentheses round the whole
-- of it
-- leave no trace in the tree.
mutual
  pub data IsEvidenceBehind : ℕ → List Lexeme → Expression → Type 0 where
    -- name arg*
    applied : {o to : ℕ} {ts : List Lexeme} {x : Name} {ys : List Expression} →
        IsEvidenceApplication o ts x ys to → IsEvidenceBehind o ts (application x ys to)
    -- "(" evidence ")"
    enclosed : {o : ℕ} {ts : List Lexeme} {t : Expression} (c d : Span) →
        o < limit → IsEvidenceBehind (o + 1) ts t → IsEvidenceBehind o ((tok kind.opening c ∷ ts) ++ (tok kind.closing d ∷ [])) t

  -- name arg*, with the arguments and where the last of them ends
  pub data IsEvidenceApplication : ℕ → List Lexeme → Name → List Expression → ℕ → Type 0 where
    alone : {o : ℕ} (x : List ℕ) (c : Span) → IsEvidenceApplication o (tok (kind.name x) c ∷ []) (named x c) [] c.to
    to_name : {o to : ℕ} {ts : List Lexeme} {x : Name} {ys : List Expression} (y : List ℕ) (c : Span) →
        IsEvidenceApplication o ts x ys to → IsEvidenceApplication o (ts ++ (tok (kind.name y) c ∷ [])) x (ys ++ (single y c ∷ [])) c.to
    to_evidence : {o to : ℕ} {ts us : List Lexeme} {x : Name} {ys : List Expression} {t : Expression} (c d : Span) →
        IsEvidenceApplication o ts x ys to → o < limit → IsEvidenceBehind (o + 1) us t →
        IsEvidenceApplication o (ts ++ ((tok kind.opening c ∷ us) ++ (tok kind.closing d ∷ []))) x (ys ++ (t ∷ [])) d.to

-- The tokens are evidence with this tree.
abbrev pub IsEvidence : List Lexeme → Expression → Type 0
IsEvidence ts t = IsEvidenceBehind 0 ts t
