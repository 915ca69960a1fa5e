-- The tokens of a printed formula are a shape too, whose arrows at the outer level are the shape's.
use Rattle.std.proofs.Common.{◌≡◌, ℕ, zero, suc, ◌+◌, ◌≤◌, inl, inr, List, ◌∷◌, ◌++◌, max, Bool, true, false, refl, sym, ap, subst, arith}
use Rattle.vern_lex.specs.declared.span.Span.{Span}
use Rattle.vern_grammar.specs.Trees.{implication, Expression, Shape}
use Rattle.vern_grammar.specs.Trees as made
use Rattle.vern_grammar.specs.Kinds.{Kind, Lexeme}
use Rattle.vern_grammar.specs.Kinds as kind
use Rattle.vern_grammar.specs.Levels.{outer, limit}
use Rattle.vern_grammar.specs.Grammar.{tok, last, before, IsShapeBehind, arrow, plain}
use Rattle.fol_theory.specs.Syntax.{nil, cons, Formula, truth, falsity, pred, equal, both, either, implies, all, ex}
use Rattle.print_theory.specs.Printing.{bound_name, quantifier_level, formula_tokens, formula_openings}
use Rattle.print_theory.specs.Trees.{spanless_shape, bound_tree, formula_shape}
use Rattle.print_theory.proofs.Operands.{laid, past, laid_append, left_low, Everywhere, bare_read, formula_read}

-- the tokens are a shape behind so many openings, but for its spans
pub record ReadsShape (o : ℕ) (ts : List Lexeme) (q : Shape) : Type 0 where
  pub shape : Shape
  pub read : IsShapeBehind o ts shape
  pub is : spanless_shape shape ≡ q

-- so it is with any spans, and behind any openings that leave room for n
pub record EachShape (n : ℕ) (ks : List Kind) (q : Shape) : Type 0 where
  pub read : (o : ℕ) (σ : ℕ → Span) → o + n ≤ limit → ReadsShape o (laid σ ks) q

whole_shape : {n : ℕ} {ks : List Kind} {r : Expression} → Everywhere outer n ks r → EachShape n ks (made.plain r)
whole_shape a = record {
  read = λ o σ h.
      let i = a.read last o σ tt h in
      record { shape = made.plain i.tree; read = plain i.operand (inl i.fits); is = ap made.plain i.is };
}

arrow_shape : {n m : ℕ} {ks ls : List Kind} {r : Expression} {q : Shape} → Everywhere outer n ks r → EachShape m ls q
    → EachShape (0 + max n (m + 1)) (ks ++ (kind.sign implication ∷ ls)) (made.arrow r q)
arrow_shape {n} {m} {ks} {ls} {r} {q} a b = record { read = read }
  where
    read : (o : ℕ) (σ : ℕ → Span) → o + (0 + max n (m + 1)) ≤ limit
        → ReadsShape o (laid σ (ks ++ (kind.sign implication ∷ ls))) (made.arrow r q)
    read o σ h =
        let i = a.read (before implication) o σ (left_low implication) (omega (arith, h)) in
        let j = b.read (o + 1) (λ i. past ks σ (suc i)) (omega (arith, h)) in
        let whole : IsShapeBehind o (laid σ ks ++ (tok (kind.sign implication) (past ks σ zero) ∷ laid (λ i. past ks σ (suc i)) ls))
        (made.arrow i.tree j.shape) =
        arrow (past ks σ zero) i.operand i.fits (omega (arith, h)) j.read in
        record {
          shape = made.arrow i.tree j.shape;
          read = subst (λ ts. IsShapeBehind o ts (made.arrow i.tree j.shape)) (sym (laid_append σ ks (kind.sign implication ∷ ls))) whole;
          is = λ t. made.arrow (i.is t) (j.is t);
        }

bare_shape : (q : Bool) (x s : List ℕ) {n : ℕ} {ks : List Kind} {r : Expression} → Everywhere quantifier_level n ks r
    → EachShape (0 + (n + 1)) (kind.quantifier q ∷ kind.name x ∷ kind.colon ∷ kind.name s ∷ kind.comma ∷ ks)
    (made.plain (bound_tree q x s r))
bare_shape q x s a = record {
  read = λ o σ h.
      let i = (bare_read q x s a).read last o σ tt (omega (arith, h)) in
      record { shape = made.plain i.tree; read = plain i.operand (inr refl); is = ap made.plain i.is };
}

-- Behind an arrow the level 99 is allowed, in a shape's operand 98: of the operators only the arrow makes a difference.
behind_arrow : (names taken : List (List ℕ)) (a : Formula)
    → EachShape (formula_openings 99 a) (formula_tokens names taken 99 a) (formula_shape names taken a)
behind_arrow names taken truth = whole_shape (formula_read names taken outer truth)
behind_arrow names taken falsity = whole_shape (formula_read names taken outer falsity)
behind_arrow names taken (pred p nil) = whole_shape (formula_read names taken outer (pred p nil))
behind_arrow names taken (pred p (cons t ts)) = whole_shape (formula_read names taken outer (pred p (cons t ts)))
behind_arrow names taken (equal s t u) = whole_shape (formula_read names taken outer (equal s t u))
behind_arrow names taken (both a b) = whole_shape (formula_read names taken outer (both a b))
behind_arrow names taken (either a b) = whole_shape (formula_read names taken outer (either a b))
behind_arrow names taken (implies a b) = arrow_shape (formula_read names taken outer a) (behind_arrow names taken b)
behind_arrow names taken (all s x a) = whole_shape (formula_read names taken outer (all s x a))
behind_arrow names taken (ex s x a) = whole_shape (formula_read names taken outer (ex s x a))

pub shape_read : (names taken : List (List ℕ)) (a : Formula)
    → EachShape (formula_openings quantifier_level a) (formula_tokens names taken quantifier_level a) (formula_shape names taken a)
shape_read names taken truth = whole_shape (formula_read names taken outer truth)
shape_read names taken falsity = whole_shape (formula_read names taken outer falsity)
shape_read names taken (pred p nil) = whole_shape (formula_read names taken outer (pred p nil))
shape_read names taken (pred p (cons t ts)) = whole_shape (formula_read names taken outer (pred p (cons t ts)))
shape_read names taken (equal s t u) = whole_shape (formula_read names taken outer (equal s t u))
shape_read names taken (both a b) = whole_shape (formula_read names taken outer (both a b))
shape_read names taken (either a b) = whole_shape (formula_read names taken outer (either a b))
shape_read names taken (implies a b) = arrow_shape (formula_read names taken outer a) (behind_arrow names taken b)
shape_read names taken (all s x a) =
    bare_shape true (bound_name names taken x) s (formula_read (bound_name names taken x ∷ names) taken quantifier_level a)
shape_read names taken (ex s x a) =
    bare_shape false (bound_name names taken x) s (formula_read (bound_name names taken x ∷ names) taken quantifier_level a)
