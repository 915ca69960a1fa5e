-- Evidence and terms as they are written, and refinements whose arguments are typed.
use Rattle.std.specs.Prelude.{ℕ, List, [], ◌∷◌, Option, Some, None, Result, Ok, Err, true, false, if◌then◌else◌}
use Rattle.vern_lex.specs.declared.span.Span.{Span}
use Rattle.vern_grammar.specs.Trees.{Name, Expression, constant, application, binary, negation, quantified, Expressions}
use Rattle.vern_grammar.specs.Trees as tree
use Rattle.vern_sentence.specs.Trees as sentence
use Rattle.fol_theory.specs.Syntax.{Term, Formula, implies, all}
use Rattle.fol_theory.specs.Slots.{Slot}
use Rattle.env_theory.specs.Declarations.{Declaration, sort, function, predicate, stated, term, formula}
use Rattle.env_theory.specs.Heads.{head_form}
use Rattle.base_core.specs.Answers.{and_then}
use Rattle.elab_theory.specs.Faults.{Fault as TypingFault, unknown_name, wrong_kind}
use Rattle.elab_theory.specs.Locals.{
  locals_in,
  Known,
  bound,
  assumed as known_assumed,
  declared as known_declared,
  unknown,
  known,
}
use Rattle.elab_theory.specs.Expressions.{span_of, of_sort, term_of, formula_of}
use Rattle.logic_theory.specs.Goals.{Goal}
use Rattle.tactic_theory.specs.Names.{hypothesis_named}
use Rattle.tactic_theory.specs.Faults.{Fault, of_typing, not_of_form, from_typing}
use Rattle.tactic_theory.specs.Evidence.{Evidence, assumed, declared, with_term, with_proof, shows}
use Rattle.tactic_theory.specs.Refinements as refinement

-- ---- names

-- what a name stands for in a context
abbrev pub meaning : List Declaration → List Slot → List ℕ → Known
meaning E c n = known E (locals_in c) n

-- ---- evidence

-- evidence begins with a hypothesis or a Stated declaration
abbrev pub start : Known → Name → Option ℕ → Result Evidence Fault
start (bound i s) x o = Err (of_typing (wrong_kind x.span))
start known_assumed x (Some i) = Ok (assumed i)
start known_assumed x None = Err (of_typing (wrong_kind x.span))
start (known_declared (sort n)) x o = Err (of_typing (wrong_kind x.span))
start (known_declared (function n ss s)) x o = Err (of_typing (wrong_kind x.span))
start (known_declared (predicate n ss)) x o = Err (of_typing (wrong_kind x.span))
start (known_declared (stated n a)) x o = Ok (declared n a)
start (known_declared (term n ps s b)) x o = Err (of_typing (wrong_kind x.span))
start (known_declared (formula n ps b)) x o = Err (of_typing (wrong_kind x.span))
start unknown x o = Err (of_typing (unknown_name x.span))

-- an argument, by the head form of what was shown before it: at a quantifier a term of its sort, at an implication evidence
abbrev pub with_argument : Formula → Evidence → Span → Result (Term × List ℕ) TypingFault → Result Evidence Fault → Result Evidence Fault
with_argument (all r x b) e p t d = and_then (from_typing (and_then t (of_sort r p))) (λ u. Ok (with_term e r u))
with_argument (implies a b) e p t d = and_then d (λ q. Ok (with_proof e q))
with_argument a e p t d = Err not_of_form

-- evidence with its names found; its arguments one after another
abbrev mutual
  pub evidence_of : List Declaration → List Slot → Expression → Result Evidence Fault
  evidence_of E c (constant b p) = Err (of_typing (wrong_kind p))
  evidence_of E c (application x ys p) = and_then (start (meaning E c x.text) x (hypothesis_named c x.text)) (λ e. with_arguments E c ys e)
  evidence_of E c (binary op a b p) = Err (of_typing (wrong_kind p))
  evidence_of E c (negation a p) = Err (of_typing (wrong_kind p))
  evidence_of E c (quantified q gs a p) = Err (of_typing (wrong_kind p))

  -- evidence applied to further arguments
  pub with_arguments : List Declaration → List Slot → Expressions → Evidence → Result Evidence Fault
  with_arguments E c tree.nil e = Ok e
  with_arguments E c (tree.cons a es) e =
      and_then (and_then (shows E c e) (λ f. with_argument (head_form E f) e (span_of a) (term_of E (locals_in c) a) (evidence_of E c a)))
      (λ d. with_arguments E c es d)

-- ---- refinements

-- a definition by its name
abbrev pub definition_at : Known → Name → Result Declaration Fault
definition_at (bound i s) x = Err (of_typing (wrong_kind x.span))
definition_at known_assumed x = Err (of_typing (wrong_kind x.span))
definition_at (known_declared (sort n)) x = Err (of_typing (wrong_kind x.span))
definition_at (known_declared (function n ss s)) x = Err (of_typing (wrong_kind x.span))
definition_at (known_declared (predicate n ss)) x = Err (of_typing (wrong_kind x.span))
definition_at (known_declared (stated n a)) x = Err (of_typing (wrong_kind x.span))
definition_at (known_declared (term n ps s b)) x = Ok (term n ps s b)
definition_at (known_declared (formula n ps b)) x = Ok (formula n ps b)
definition_at unknown x = Err (of_typing (unknown_name x.span))

-- the text of a name, where there is one
abbrev pub text_in : Option Name → Option (List ℕ)
text_in None = None
text_in (Some x) = Some x.text

-- the texts of names
abbrev pub texts : List Name → List (List ℕ)
texts [] = []
texts (x ∷ xs) = x.text ∷ texts xs

-- unfolding a definition in the goal or in a hypothesis
abbrev pub unfolding_of : Option Name → Declaration → refinement.Refinement
unfolding_of None d = refinement.unfold_goal d
unfolding_of (Some h) d = refinement.unfold_in d h.text

-- a refinement with its arguments typed at a goal, or the first fault of an argument; `intros` here has no names
abbrev pub typed : List Declaration → Goal → sentence.Refinement → Result refinement.Refinement Fault
typed E g (sentence.intro x) = Ok (refinement.intro (text_in x))
typed E g (sentence.intros xs) = Ok refinement.intros
typed E g (sentence.exact a) = and_then (evidence_of E g.slots a) (λ e. Ok (refinement.exact e))
typed E g sentence.by_hypothesis = Ok refinement.by_hypothesis
typed E g (sentence.apply a) = and_then (evidence_of E g.slots a) (λ e. Ok (refinement.apply e))
typed E g sentence.split = Ok refinement.split
typed E g sentence.left = Ok refinement.left
typed E g sentence.right = Ok refinement.right
typed E g (sentence.exists a) = and_then (from_typing (term_of E (locals_in g.slots) a)) (λ w. Ok (refinement.witness w.1 w.0 (span_of a)))
typed E g (sentence.destruct_both a x y) = and_then (evidence_of E g.slots a) (λ e. Ok (refinement.destruct_pair e x.text y.text))
typed E g (sentence.destruct_either a x y) = and_then (evidence_of E g.slots a) (λ e. Ok (refinement.destruct_cases e x.text y.text))
typed E g (sentence.destruct_none a) = and_then (evidence_of E g.slots a) (λ e. Ok (refinement.destruct_falsity e))
typed E g sentence.exfalso = Ok refinement.exfalso
typed E g (sentence.assert x a) = and_then (from_typing (formula_of E (locals_in g.slots) a)) (λ b. Ok (refinement.assert x.text b))
typed E g (sentence.clear x) = Ok (refinement.clear x.text)
typed E g sentence.reflexivity = Ok refinement.reflexivity
typed E g sentence.symmetry = Ok refinement.symmetry
typed E g (sentence.rewrite a back) = and_then (evidence_of E g.slots a) (λ e. Ok (refinement.rewrite (if back then false else true) e))
typed E g (sentence.unfold_in d h) = and_then (definition_at (meaning E g.slots d.text) d) (λ f. Ok (unfolding_of h f))
