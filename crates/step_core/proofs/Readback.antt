-- The text of a formula that is stated reads back as a sentence that states it.
use Rattle.std.proofs.Common.{◌≡◌, ℕ, List, [], ◌∷◌, ◌++◌, Option, Some, None, Result, Ok, Err, refl, sym, ap, subst, ◌∙◌, append_assoc}
use Rattle.std.specs.Prelude.{codes}
use Rattle.vern_lex.specs.Tokens.{tokens_of}
use Rattle.vern_grammar.specs.Trees.{Expression, Shape}
use Rattle.vern_grammar.specs.Trees as made
use Rattle.vern_grammar.specs.Kinds.{lexemes}
use Rattle.vern_grammar.specs.Grammar.{named}
use Rattle.vern_grammar.proofs.Laws.{one_expression}
use Rattle.vern_sentence.specs.Names.{IsFreeName}
use Rattle.vern_sentence.specs.Trees.{begin, declare}
use Rattle.vern_step.specs.Parsed.{parsed}
use Rattle.vern_step.proofs.Trees.{read}
use Rattle.fol_theory.specs.Syntax.{Terms, nil, cons, Formula, truth, falsity, pred, equal, both, either, implies, all, ex}
use Rattle.fol_theory.specs.Printing.{Alike}
use Rattle.env_theory.specs.Declarations.{Declaration, sort, function, predicate, stated, term, formula, find}
use Rattle.env_theory.specs.Typing.{WellFormed, IsPredicate}
use Rattle.base_core.specs.Answers.{and_then}
use Rattle.elab_theory.specs.Faults.{Fault}
use Rattle.elab_theory.specs.Locals.{known, declared_or_not}
use Rattle.elab_theory.specs.Expressions.{sort_at, formula_of}
use Rattle.elab_theory.specs.Sentences.{new_name, sort_part, sorts_before, chain_of, Last, a_predicate, a_function, a_formula, sort_or_not, last_of, shape_by, shape_of}
use Rattle.print_theory.specs.Spelling.{formula_text}
use Rattle.print_theory.specs.Trees.{spanless, spanless_shape, formula_tree, formula_shape, word}
use Rattle.print_theory.specs.Reading.{IsShown, sentence_of}
use Rattle.print_theory.specs.Typed.{AreDeclaredApart, IsPlaced}
use Rattle.print_theory.proofs.Laws.{formula_reads, lemma_begins, axiom_declares}
use Rattle.print_theory.proofs.Spans.{value, same_ok, then_same, sort_at_same, formula_spanless}
use Rattle.print_theory.proofs.Typed.{formula_is_typed, formula_stands_apart}
use Rattle.step_core.specs.Back.{sentence_text, ReadsAsLemma, ReadsAsAxiom}

-- ---- shapes: typing sees no spans but in its faults

sort_part_same : (E : List Declaration) (a : Expression) → value (sort_part E (spanless a)) ≡ value (sort_part E a)
sort_part_same E (made.constant b p) = refl
sort_part_same E (made.application x made.nil p) = sort_at_same (known E [] x.text) x
sort_part_same E (made.application x (made.cons y ys) p) = refl
sort_part_same E (made.binary op a b p) = refl
sort_part_same E (made.negation a p) = refl
sort_part_same E (made.quantified q gs a p) = refl

-- only the value counts
abbrev sort_or_not_value : Option (List ℕ) → Last
sort_or_not_value (Some s) = a_function s
sort_or_not_value None = a_formula

sort_or_not_is : (r : Result (List ℕ) Fault) → sort_or_not r ≡ sort_or_not_value (value r)
sort_or_not_is (Ok s) = refl
sort_or_not_is (Err e) = refl

last_same : (E : List Declaration) (s : Shape) → last_of E (spanless_shape s) ≡ last_of E s
last_same E (made.set p) = refl
last_same E (made.prop p) = refl
last_same E (made.arrow a s) = last_same E s
last_same E (made.plain a) = sort_or_not_is (sort_part E (spanless a)) ∙ ap sort_or_not_value (sort_part_same E a)
    ∙ sym (sort_or_not_is (sort_part E a))

sorts_same : (E : List Declaration) (s : Shape) → value (sorts_before E (spanless_shape s)) ≡ value (sorts_before E s)
sorts_same E (made.set p) = refl
sorts_same E (made.prop p) = refl
sorts_same E (made.arrow a s) =
    then_same (sort_part E (spanless a)) (sort_part E a) (λ t. and_then (sorts_before E (spanless_shape s)) (λ ts. Ok (t ∷ ts)))
    (λ t. and_then (sorts_before E s) (λ ts. Ok (t ∷ ts))) (sort_part_same E a)
    (λ t. then_same (sorts_before E (spanless_shape s)) (sorts_before E s) (λ ts. Ok (t ∷ ts)) (λ ts. Ok (t ∷ ts))
    (sorts_same E s) (λ ts. refl))
sorts_same E (made.plain a) = refl

chain_same : (E : List Declaration) (s : Shape) → value (chain_of E (spanless_shape s)) ≡ value (chain_of E s)
chain_same E (made.set p) = refl
chain_same E (made.prop p) = refl
chain_same E (made.arrow a s) =
    then_same (formula_of E [] (spanless a)) (formula_of E [] a) (λ u. and_then (chain_of E (spanless_shape s)) (λ v. Ok (implies u v)))
    (λ u. and_then (chain_of E s) (λ v. Ok (implies u v))) (formula_spanless E a [])
    (λ u. then_same (chain_of E (spanless_shape s)) (chain_of E s) (λ v. Ok (implies u v)) (λ v. Ok (implies u v))
    (chain_same E s) (λ v. refl))
chain_same E (made.plain a) = formula_spanless E a []

by_same : (E : List Declaration) (n : List ℕ) (s : Shape) (l : Last)
    → value (shape_by E n (spanless_shape s) l) ≡ value (shape_by E n s l)
by_same E n s a_predicate = then_same (sorts_before E (spanless_shape s)) (sorts_before E s) (λ ss. Ok (predicate n ss))
    (λ ss. Ok (predicate n ss)) (sorts_same E s) (λ ss. refl)
by_same E n s (a_function t) = then_same (sorts_before E (spanless_shape s)) (sorts_before E s) (λ ss. Ok (function n ss t))
    (λ ss. Ok (function n ss t)) (sorts_same E s) (λ ss. refl)
by_same E n s a_formula = then_same (chain_of E (spanless_shape s)) (chain_of E s) (λ a. Ok (stated n a)) (λ a. Ok (stated n a))
    (chain_same E s) (λ a. refl)

shape_same : (E : List Declaration) (n : List ℕ) (s : Shape) → value (shape_of E n (spanless_shape s)) ≡ value (shape_of E n s)
shape_same E n (made.set p) = refl
shape_same E n (made.prop p) = refl
shape_same E n (made.arrow a s) =
    ap (λ l. value (shape_by E n (spanless_shape (made.arrow a s)) l)) (last_same E s) ∙ by_same E n (made.arrow a s) (last_of E s)
shape_same E n (made.plain a) =
    ap (λ l. value (shape_by E n (spanless_shape (made.plain a)) l)) (last_same E (made.plain a))
    ∙ by_same E n (made.plain a) (last_of E (made.plain a))

-- ---- the shape of a formula's text is typed as the formula

module _ (E : List Declaration) (names taken : List (List ℕ)) where
  chain_is : (a : Formula) → chain_of E (formula_shape names taken a) ≡ formula_of E [] (formula_tree names taken a)
  chain_is truth = refl
  chain_is falsity = refl
  chain_is (pred p ts) = refl
  chain_is (equal s t u) = refl
  chain_is (both a b) = refl
  chain_is (either a b) = refl
  chain_is (implies a b) =
      ap (λ r. and_then (formula_of E [] (formula_tree names taken a)) (λ u. and_then r (λ v. Ok (implies u v)))) (chain_is b)
  chain_is (all s x a) = refl
  chain_is (ex s x a) = refl

  predicate_last : (p : List ℕ) (o : Option Declaration) → IsPredicate o → sort_or_not (sort_at (declared_or_not o) (word p)) ≡ a_formula
  predicate_last p None h = absurd h
  predicate_last p (Some (sort n)) h = absurd h
  predicate_last p (Some (function n ss s)) h = absurd h
  predicate_last p (Some (predicate n ss)) h = refl
  predicate_last p (Some (stated n a)) h = absurd h
  predicate_last p (Some (term n ps s b)) h = absurd h
  predicate_last p (Some (formula n ps b)) h = refl

  name_last : (p : List ℕ) (ts : Terms) → IsPredicate (find E p) → last_of E (formula_shape names taken (pred p ts)) ≡ a_formula
  name_last p nil h = predicate_last p (find E p) h
  name_last p (cons t ts) h = refl

  last_is : (a : Formula) (V : List (List ℕ)) → WellFormed E V a → last_of E (formula_shape names taken a) ≡ a_formula
  last_is truth V w = refl
  last_is falsity V w = refl
  last_is (pred p ts) V w = name_last p ts w.0
  last_is (equal s t u) V w = refl
  last_is (both a b) V w = refl
  last_is (either a b) V w = refl
  last_is (implies a b) V w = last_is b V w.1
  last_is (all s x a) V w = refl
  last_is (ex s x a) V w = refl

  shape_is : (n : List ℕ) (a : Formula)
      → shape_of E n (formula_shape names taken a) ≡ shape_by E n (formula_shape names taken a) (last_of E (formula_shape names taken a))
  shape_is n truth = refl
  shape_is n falsity = refl
  shape_is n (pred p ts) = refl
  shape_is n (equal s t u) = refl
  shape_is n (both a b) = refl
  shape_is n (either a b) = refl
  shape_is n (implies a b) = refl
  shape_is n (all s x a) = refl
  shape_is n (ex s x a) = refl

  shape_stated : (n : List ℕ) (a b : Formula) (V : List (List ℕ)) → WellFormed E V a
      → formula_of E [] (formula_tree names taken a) ≡ Ok b → shape_of E n (formula_shape names taken a) ≡ Ok (stated n b)
  shape_stated n a b V w h =
      shape_is n a ∙ ap (shape_by E n (formula_shape names taken a)) (last_is a V w)
      ∙ ap (λ r. and_then r (λ c. Ok (stated n c))) (chain_is a ∙ h)

-- ---- texts

text_same : (w n f : List ℕ) → sentence_of w n f ≡ sentence_text w (n ++ (codes " : " ++ f))
text_same w n f = ap (λ r. w ++ (codes " " ++ r)) (sym (append_assoc n (codes " : " ++ f) (codes ".")))

module _ (E : List Declaration) (taken : List (List ℕ)) (n : List ℕ) (a : Formula) (free : IsFreeName n) (new : find E n ≡ None)
    (apart : AreDeclaredApart E [] taken) (formed : WellFormed E [] a) (shown : IsShown [] a) where
  placed : IsPlaced E [] [] taken a
  placed = record { named = refl; seen = tt; apart = formula_stands_apart E [] taken apart a [] formed; formed = formed }

  -- the formula's tree is typed as the formula, printing names aside
  tree_typed : (b : Formula) × (formula_of E [] (formula_tree [] taken a) ≡ Ok b) × Alike b a
  tree_typed =
      let (t, b, e, i, k) = formula_is_typed E [] [] taken a shown placed in
      let (u, f, is) = formula_reads [] taken a (IsShown.free shown) (IsShown.printable shown) (IsShown.openings shown) in
      let text = formula_text [] taken a in
      let same : t ≡ u = one_expression (lexemes text (tokens_of text)) t u e f in
      let spans : formula_of E [] (spanless u) ≡ Ok b =
      same_ok (formula_of E [] u) (formula_of E [] (spanless u)) b (sym (formula_spanless E u [])) (ap (formula_of E []) (sym same) ∙ i) in
      (b, ap (formula_of E []) (sym is) ∙ spans, k)

  pub lemma_read : ReadsAsLemma E taken n a
  lemma_read =
      let (t, c, s, is) = lemma_begins [] taken n a free shown in
      let (b, h, k) = tree_typed in
      let typed : formula_of E [] t ≡ Ok b =
      same_ok (formula_of E [] (spanless t)) (formula_of E [] t) b (formula_spanless E t []) (ap (formula_of E []) is ∙ h) in (
        named n c,
        t,
        b,
        subst (λ text. parsed text ≡ Ok (begin (named n c) t)) (text_same (codes "Lemma") n (formula_text [] taken a))
            (read (sentence_of (codes "Lemma") n (formula_text [] taken a)) (begin (named n c) t) s),
        refl,
        ap (λ o. and_then (new_name o (named n c)) (λ m. formula_of E [] t)) new ∙ typed,
        k,
      )

  pub axiom_read : ReadsAsAxiom E taken n a
  axiom_read =
      let (s, c, i, is) = axiom_declares [] taken n a free shown in
      let (b, h, k) = tree_typed in
      let typed : shape_of E n s ≡ Ok (stated n b) =
      same_ok (shape_of E n (spanless_shape s)) (shape_of E n s) (stated n b) (shape_same E n s)
      (ap (shape_of E n) is ∙ shape_stated E [] taken n a b [] formed h) in (
        named n c,
        s,
        b,
        subst (λ text. parsed text ≡ Ok (declare (named n c) s)) (text_same (codes "Axiom") n (formula_text [] taken a))
            (read (sentence_of (codes "Axiom") n (formula_text [] taken a)) (declare (named n c) s) i),
        ap (λ o. and_then (new_name o (named n c)) (λ m. shape_of E m s)) new ∙ typed,
        k,
      )
