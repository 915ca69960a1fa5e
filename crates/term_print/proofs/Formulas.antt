-- What each variant of a formula is written as.
use Rattle.std.proofs.Common.{◌≡◌, ℕ, List, [], ◌∷◌, true, false, ap}
use Rattle.std.specs.declared.sync.Arc.{Arc}
use Rattle.std.specs.declared.sync.ArcSlice.{ArcSlice}
use Rattle.std.specs.Arc.{arc_slice_items, arc_value}
use Rattle.std.specs.declared.alloc.Global.{Global}
use Rattle.vern_grammar.specs.Trees.{implication, disjunction, conjunction, equation}
use Rattle.vern_grammar.specs.Kinds.{constant}
use Rattle.vern_grammar.specs.Levels.{left_at_most, right_at_most}
use Rattle.print_theory.specs.Printing.{bound_name, bound_tokens, formula_tokens, joined_tokens, quantifier_level, term_tokens}
use Rattle.term_core.specs.Term as term
use Rattle.term_core.specs.Formula.{meaning}
use Rattle.term_core.specs.declared.term.Term.{Term}
use Rattle.term_core.specs.declared.formula.Formula.{Formula}
use Rattle.term_core.specs.declared.formula.Formula.TheVariants as made
use Rattle.term_core.proofs.Variants.{
  meaning_True,
  meaning_False,
  meaning_Pred,
  meaning_Eq,
  meaning_And,
  meaning_Or,
  meaning_Imp,
  meaning_All,
  meaning_Ex,
  nodes_And,
  nodes_Or,
  nodes_Imp,
  nodes_All,
  nodes_Ex,
}
use Rattle.term_print.specs.Output.{application_tokens}

pub tokens_True : (names taken : List (List ℕ)) (most : ℕ) → formula_tokens names taken most (meaning made.True) ≡ constant true ∷ []
tokens_True names taken most = ap (formula_tokens names taken most) meaning_True

pub tokens_False : (names taken : List (List ℕ)) (most : ℕ) → formula_tokens names taken most (meaning made.False) ≡ constant false ∷ []
tokens_False names taken most = ap (formula_tokens names taken most) meaning_False

pub tokens_Pred : (names taken : List (List ℕ)) (most : ℕ) (p : List ℕ) (ts : ArcSlice Term Global)
    → formula_tokens names taken most (meaning (made.Pred p ts)) ≡ application_tokens names most p (term.list_meaning (arc_slice_items ts))
tokens_Pred names taken most p ts = ap (formula_tokens names taken most) (meaning_Pred p ts)

pub tokens_Eq : (names taken : List (List ℕ)) (most : ℕ) (s : List ℕ) (a b : Term)
    → formula_tokens names taken most (meaning (made.Eq s a b))
    ≡ joined_tokens most equation (term_tokens names (left_at_most equation) (term.meaning a))
    (term_tokens names (right_at_most equation) (term.meaning b))
tokens_Eq names taken most s a b = ap (formula_tokens names taken most) (meaning_Eq s a b)

pub tokens_And : (names taken : List (List ℕ)) (most : ℕ) (a b : Arc Formula Global)
    → formula_tokens names taken most (meaning (made.And a b))
    ≡ joined_tokens most conjunction (formula_tokens names taken (left_at_most conjunction) (meaning (arc_value a)))
    (formula_tokens names taken (right_at_most conjunction) (meaning (arc_value b)))
tokens_And names taken most a b = ap (formula_tokens names taken most) (meaning_And a b)

pub tokens_Or : (names taken : List (List ℕ)) (most : ℕ) (a b : Arc Formula Global)
    → formula_tokens names taken most (meaning (made.Or a b))
    ≡ joined_tokens most disjunction (formula_tokens names taken (left_at_most disjunction) (meaning (arc_value a)))
    (formula_tokens names taken (right_at_most disjunction) (meaning (arc_value b)))
tokens_Or names taken most a b = ap (formula_tokens names taken most) (meaning_Or a b)

pub tokens_Imp : (names taken : List (List ℕ)) (most : ℕ) (a b : Arc Formula Global)
    → formula_tokens names taken most (meaning (made.Imp a b))
    ≡ joined_tokens most implication (formula_tokens names taken (left_at_most implication) (meaning (arc_value a)))
    (formula_tokens names taken (right_at_most implication) (meaning (arc_value b)))
tokens_Imp names taken most a b = ap (formula_tokens names taken most) (meaning_Imp a b)

pub tokens_All : (names taken : List (List ℕ)) (most : ℕ) (s x : List ℕ) (a : Arc Formula Global)
    → formula_tokens names taken most (meaning (made.All s x a))
    ≡ bound_tokens most true (bound_name names taken x) s (formula_tokens (bound_name names taken x ∷ names) taken
    quantifier_level (meaning (arc_value a)))
tokens_All names taken most s x a = ap (formula_tokens names taken most) (meaning_All s x a)

pub tokens_Ex : (names taken : List (List ℕ)) (most : ℕ) (s x : List ℕ) (a : Arc Formula Global)
    → formula_tokens names taken most (meaning (made.Ex s x a))
    ≡ bound_tokens most false (bound_name names taken x) s (formula_tokens (bound_name names taken x ∷ names) taken
    quantifier_level (meaning (arc_value a)))
tokens_Ex names taken most s x a = ap (formula_tokens names taken most) (meaning_Ex s x a)

pub ruleset variants = (
  tokens_True,
  tokens_False,
  tokens_Pred,
  tokens_Eq,
  tokens_And,
  tokens_Or,
  tokens_Imp,
  tokens_All,
  tokens_Ex,
  nodes_And,
  nodes_Or,
  nodes_Imp,
  nodes_All,
  nodes_Ex,
)
