-- Rows worked by the machine.
use Rattle.std.proofs.Common.{◌≡◌, List, [], ◌∷◌, Some, None, true, refl}
use Rattle.vern_grammar.specs.Trees.{Operator, implication, equivalence, conjunction, equation, Expression}
use Rattle.vern_grammar.specs.Trees as made
use Rattle.vern_grammar.specs.Kinds.{Kind, Lexeme}
use Rattle.vern_grammar.specs.Kinds as kind
use Rattle.vern_grammar.specs.Grammar.{tok, span, single, named, group, binder, governing, operator, tilde, quantifier}
use Rattle.vern_grammar.specs.Machine.{an_expression, a_shape, outline, parsed, place, whole, chain}

-- all tokens at the byte 0
abbrev tokens : List Kind → List Lexeme
tokens [] = []
tokens (k ∷ ks) = tok k (span 0 0) ∷ tokens ks

abbrev a : Kind
a = kind.name (97 ∷ [])

abbrev name : Expression
name = single (97 ∷ []) (span 0 0)

abbrev joined : Operator → Expression → Expression → Expression
joined op t u = governing (operator op t 0) u 0

abbrev negated : Expression → Expression
negated t = governing (tilde 0) t 0

abbrev quantified : Expression → Expression
quantified t = governing (quantifier (binder true 0 (group (named (97 ∷ []) (span 0 0) ∷ []) (named (97 ∷ []) (span 0 0)) ∷ []) 1)) t 0

-- ~ forall a : a, a <-> a <-> a
row_equivalence : parsed [] (tokens (kind.tilde ∷ kind.quantifier true ∷ a ∷ kind.colon ∷ a ∷ kind.comma ∷ a ∷ kind.sign equivalence ∷ a ∷
    kind.sign equivalence ∷ a ∷ []))
    ≡ Some (an_expression (joined equivalence (negated (quantified (joined equivalence name name))) name))
unfolding place whole
row_equivalence = refl

-- ~ forall a : a, a /\ a
row_conjunction : parsed [] (tokens (kind.tilde ∷ kind.quantifier true ∷ a ∷ kind.colon ∷ a ∷ kind.comma ∷ a ∷ kind.sign conjunction ∷ a ∷
    []))
    ≡ Some (an_expression (negated (quantified (joined conjunction name name))))
unfolding place whole
row_conjunction = refl

-- a <-> a <-> a
row_chain : parsed [] (tokens (a ∷ kind.sign equivalence ∷ a ∷ kind.sign equivalence ∷ a ∷ [])) ≡ None
unfolding place whole
row_chain = refl

-- a = ~ a
row_equation : parsed [] (tokens (a ∷ kind.sign equation ∷ kind.tilde ∷ a ∷ [])) ≡ None
unfolding place whole
row_equation = refl

-- the shape a -> a <-> a -> Set
row_shape : parsed (outline ∷ []) (tokens (a ∷ kind.sign implication ∷ a ∷ kind.sign equivalence ∷ a ∷ kind.sign implication ∷ kind.set ∷
    []))
    ≡ Some (a_shape (made.arrow name (made.arrow (joined equivalence name name) (made.set (span 0 0)))))
unfolding place whole chain
row_shape = refl

-- the shape forall a : a, a -> a
row_plain : parsed (outline ∷ []) (tokens (kind.quantifier true ∷ a ∷ kind.colon ∷ a ∷ kind.comma ∷ a ∷ kind.sign implication ∷ a ∷ []))
    ≡ Some (a_shape (made.plain (quantified (joined implication name name))))
unfolding place whole chain
row_plain = refl

-- Set is no expression
row_set : parsed [] (tokens (kind.set ∷ [])) ≡ None
row_set = refl
