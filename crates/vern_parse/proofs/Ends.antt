-- What is read where no token is left and no head waits for its operand.
use Rattle.std.proofs.Common.{◌≡◌, ℕ, false, List, [], ◌∷◌, Option, Some, None, Result, refl, sym, ap, subst, ◌∙◌}
use Rattle.vern_grammar.specs.Trees.{Expression, Shape, plain}
use Rattle.vern_grammar.specs.Trees as tree
use Rattle.vern_grammar.specs.Machine.{Frame, parenthesis, argument, governor, outline, link, Phrase, whole, chain}
use Rattle.vern_parse.specs.declared.raw.RawExpr.{RawExpr}
use Rattle.vern_parse.specs.declared.raw.Shape.{Shape as Shaped}
use Rattle.vern_parse.specs.declared.raw.Shape.TheVariants as made
use Rattle.vern_parse.specs.declared.fault.Stop.{Stop}
use Rattle.vern_parse.specs.Meaning.{expression, shape}
use Rattle.vern_parse.specs.Answers.{is_governed, EndsShape}
use Rattle.vern_sentence.specs.Slots.{expression_in, shape_in}
use Rattle.vern_parse.proofs.Trees.{shape_Plain}

pub chain_none : (t : Shape) (s : List Frame) → expression_in (chain t s) ≡ None
unfolding chain
chain_none t [] = refl
chain_none t (parenthesis f ∷ s) = refl
chain_none t (argument x ys ∷ s) = refl
chain_none t (governor h ∷ s) = refl
chain_none t (outline ∷ s) = refl
chain_none t (link v ∷ s) = chain_none (tree.arrow v t) s

pub whole_none : (v : Expression) (b : ℕ) (f : Frame) (s : List Frame) → is_governed (f ∷ s) ≡ false
    → expression_in (whole v b (f ∷ s)) ≡ None
unfolding whole
whole_none v b (parenthesis f) s h = chain_none (plain v) (parenthesis f ∷ s)
whole_none v b (argument x ys) s h = chain_none (plain v) (argument x ys ∷ s)
whole_none v b (governor g) s h = cc
whole_none v b outline s h = chain_none (plain v) (outline ∷ s)
whole_none v b (link w) s h = chain_none (plain v) (link w ∷ s)

pub whole_last : (v : Expression) (b : ℕ) → expression_in (whole v b []) ≡ Some v
unfolding whole
whole_last v b = refl

pub whole_shape : (v : Expression) (b : ℕ) (s : List Frame) → is_governed s ≡ false → shape_in (whole v b s) ≡ shape_in (chain (plain v) s)
unfolding whole chain
whole_shape v b [] h = refl
whole_shape v b (parenthesis f ∷ s) h = refl
whole_shape v b (argument x ys ∷ s) h = refl
whole_shape v b (governor g ∷ s) h = cc
whole_shape v b (outline ∷ s) h = refl
whole_shape v b (link w ∷ s) h = refl

pub ruleset expressions = (whole_none, whole_last)

pub ruleset no_expression = (chain_none)

pub ends_shape : (r : Result Shaped Stop) (p : Option Phrase) (v : RawExpr) (to : ℕ) (s : List Frame) → p ≡ whole (expression v) to s
    → is_governed s ≡ false →
    EndsShape r (shape_in (chain (shape (made.Plain v)) s)) → EndsShape r (shape_in p)
ends_shape r p v to s h g q =
    let e : shape_in p ≡ shape_in (chain (shape (made.Plain v)) s) = ap shape_in h ∙ whole_shape (expression v) to s g
    ∙ ap (λ t. shape_in (chain t s)) (sym (shape_Plain v)) in
    subst (EndsShape r) (sym e) q
