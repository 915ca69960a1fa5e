-- Chains of arrows: their sorts, or the three passes in a row.
use Rattle.std.proofs.Common.{◌≡◌, ℕ, ◌<◌, ◌^◌, ◌⊎◌, inl, inr, min, List, [], ◌∷◌, ◌++◌, map, Result, Ok, Err, refl, sym, ap, subst, ◌∙◌, arith}
use Rattle.std.proofs.lemmas.List.{append_assoc}
use Rattle.vern_lex.specs.declared.span.Span.{Span}
use Rattle.vern_grammar.specs.Trees.{Name, Shape, set, prop, arrow, plain, application, expressions}
use Rattle.vern_parse.specs.declared.raw.RawExpr.{RawExpr}
use Rattle.vern_parse.specs.Meaning.{expression}
use Rattle.vern_parse.proofs.Trees.{shape_Set, shape_Prop, shape_Arrow, shape_Plain}
use Rattle.fol_theory.specs.Syntax.{Formula, implies}
use Rattle.fol_theory.specs.Measures.{nodes, height}
use Rattle.env_theory.specs.Declarations.{Declaration, function, predicate, stated}
use Rattle.base_core.specs.Answers.{and_then}
use Rattle.elab_theory.specs.Faults.{Fault, wrong_kind}
use Rattle.elab_theory.specs.Locals.{known}
use Rattle.elab_theory.specs.Expressions.{sort_at, formula_of}
use Rattle.elab_theory.specs.Sentences.{Last, a_predicate, a_function, a_formula, sort_part, sorts_before, chain_of, shape_by}
use Rattle.elab_theory.proofs.Results.{ok_is, never, steps}
use Rattle.elab_theory.proofs.Sized.{formula_of_nodes, formula_of_height}
use Rattle.term_core.specs.declared.formula.Formula.{Formula as Made}
use Rattle.term_core.specs.Formula.{meaning}
use Rattle.term_core.proofs.Layers.{slots_Empty}
use Rattle.term_core.proofs.Variants.{meaning_True}
use Rattle.env_core.specs.declared.declaration.Decl.TheVariants.{Fun, Pred, Stated}
use Rattle.env_core.specs.Meaning.{declaration}
use Rattle.std.specs.Global.{Vec}
use Rattle.elab_core.specs.declared.fault.ElabFault.{ElabFault}
use Rattle.elab_core.specs.declared.fault.ElabFault.TheVariants.{TooLarge}
use Rattle.elab_core.specs.Faults.{Faulty}
use Rattle.elab_core.specs.Answers.{Types, Declares, formula_size, declared_size}
use Rattle.elab_core.specs.Chains.{sorts_added, fits_chain, chain_nodes, chain_height, chain_built}
use Rattle.elab_core.proofs.Forgotten.{nothing, formula_forgotten, two_forgotten}
use Rattle.elab_core.proofs.Whole.{formula_whole, two_whole}
use Rattle.elab_core.proofs.Within.{IsSized, within_fault, within_large, within_built, within_first, within_part, within_made}

-- ---- parts

pub part_bare : (E : List Declaration) (x : Name) (ys : List RawExpr) (p : Span) → ys ≡ []
    → sort_part E (application x (expressions (map expression ys)) p) ≡ sort_at (known E [] x.text) x
part_bare E x [] p h = refl
part_bare E x (y ∷ ys) p h = cc

pub part_applied : (E : List Declaration) (x : Name) (ys : List RawExpr) (p : Span) → (ys ≡ [] → ⊥)
    → sort_part E (application x (expressions (map expression ys)) p) ≡ Err (wrong_kind p)
part_applied E x [] p h = absurd (h refl)
part_applied E x (y ∷ ys) p h = refl

pub ruleset parts = (part_bare, part_applied, slots_Empty)

pub ruleset shapes = (shape_Set, shape_Prop, shape_Arrow, shape_Plain, slots_Empty, meaning_True)

-- ---- sorts

added_more : (s : List ℕ) (ss : List (List ℕ)) (r : Result (List (List ℕ)) Fault)
    → and_then r (λ us. Ok ((ss ++ (s ∷ [])) ++ us)) ≡ and_then (and_then r (λ us. Ok (s ∷ us))) (λ us. Ok (ss ++ us))
added_more s ss (Ok us) = ap (λ l. Ok l) (append_assoc ss (s ∷ []) us)
added_more s ss (Err e) = refl

nothing_behind : (ss : List (List ℕ)) → Path (Result (List (List ℕ)) Fault) (Ok ss) (Ok (ss ++ []))
nothing_behind ss = ap (λ l. Ok l) (go ss)
  where
    go : (ss : List (List ℕ)) → ss ≡ ss ++ []
    go [] = refl
    go (s ∷ ss) = ap (λ l. s ∷ l) (go ss)

sort_and_more : (ss : List (List ℕ)) (r : Result (List ℕ) Fault) (f : List (List ℕ) → Result (List (List ℕ)) Fault)
    (t : Result (List (List ℕ)) Fault) → ((us : List (List ℕ)) → f us ≡ and_then t (λ vs. Ok (us ++ vs)))
    → and_then r (λ s. f (ss ++ (s ∷ []))) ≡ and_then (and_then r (λ s. and_then t (λ us. Ok (s ∷ us)))) (λ us. Ok (ss ++ us))
sort_and_more ss (Ok s) f t h = h (ss ++ (s ∷ [])) ∙ added_more s ss t
sort_and_more ss (Err e) f t h = refl

pub sorts_behind : (E : List Declaration) (x : Shape) (ss : List (List ℕ))
    → sorts_added E ss x ≡ and_then (sorts_before E x) (λ us. Ok (ss ++ us))
sorts_behind E (set p) ss = nothing_behind ss
sorts_behind E (prop p) ss = nothing_behind ss
sorts_behind E (arrow a x) ss = sort_and_more ss (sort_part E a) (λ us. sorts_added E us x) (sorts_before E x)
    (λ us. sorts_behind E x us)
sorts_behind E (plain a) ss = nothing_behind ss

it_is : (r : Result (List (List ℕ)) Fault) → and_then r (λ us. Ok ([] ++ us)) ≡ r
it_is (Ok us) = refl
it_is (Err e) = refl

pub sorts_whole : (E : List Declaration) (x : Shape) → sorts_added E [] x ≡ sorts_before E x
sorts_whole E x = sorts_behind E x [] ∙ it_is (sorts_before E x)

-- ---- the three passes

pub chain_forgotten : (E : List Declaration) (x : Shape) → fits_chain E x ≡ nothing (chain_of E x)
chain_forgotten E (set p) = refl
chain_forgotten E (prop p) = refl
chain_forgotten E (arrow a x) = two_forgotten _ _ (formula_of E [] a) (chain_of E x) (formula_forgotten E [] a) (chain_forgotten E x)
    (λ u v. implies u v)
chain_forgotten E (plain a) = formula_forgotten E [] a

pub chain_whole : (E : List Declaration) (x : Shape) (b : Formula) → chain_of E x ≡ Ok b → chain_built E x ≡ b
chain_whole E (set p) b e = absurd (never Formula (wrong_kind p) b e)
chain_whole E (prop p) b e = absurd (never Formula (wrong_kind p) b e)
chain_whole E (arrow a x) b e = two_whole (formula_of E [] a) (chain_of E x) _ _ (λ u v. implies u v) b
    (λ d h. formula_whole E [] a d h) (λ d h. chain_whole E x d h) e
chain_whole E (plain a) b e = formula_whole E [] a b e

pub chain_of_nodes : (E : List Declaration) (x : Shape) (b : Formula) → chain_of E x ≡ Ok b → nodes b ≡ chain_nodes x
chain_of_nodes E (set p) b e = absurd (never Formula (wrong_kind p) b e)
chain_of_nodes E (prop p) b e = absurd (never Formula (wrong_kind p) b e)
chain_of_nodes E (arrow a x) b e =
    let j = steps (formula_of E [] a) (λ u. and_then (chain_of E x) (λ v. Ok (implies u v))) b e in
    let k = steps (chain_of E x) (λ v. Ok (implies j.0 v)) b j.2 in
    ap nodes (sym (ok_is Formula _ _ k.2)) ∙ omega (arith, formula_of_nodes E a [] j.0 j.1, chain_of_nodes E x k.0 k.1)
chain_of_nodes E (plain a) b e = formula_of_nodes E a [] b e

pub chain_of_height : (E : List Declaration) (x : Shape) (b : Formula) → chain_of E x ≡ Ok b → height b ≡ chain_height x
chain_of_height E (set p) b e = absurd (never Formula (wrong_kind p) b e)
chain_of_height E (prop p) b e = absurd (never Formula (wrong_kind p) b e)
chain_of_height E (arrow a x) b e =
    let j = steps (formula_of E [] a) (λ u. and_then (chain_of E x) (λ v. Ok (implies u v))) b e in
    let k = steps (chain_of E x) (λ v. Ok (implies j.0 v)) b j.2 in
    ap height (sym (ok_is Formula _ _ k.2)) ∙ omega (arith, formula_of_height E a [] j.0 j.1, chain_of_height E x k.0 k.1)
chain_of_height E (plain a) b e = formula_of_height E a [] b e

chain_sized : (E : List Declaration) (x : Shape) (n h : ℕ) → fits_chain E x ≡ Ok tt → n ≡ min (chain_nodes x) (2 ^ 32)
    → h ≡ min (chain_height x) (2 ^ 32) → IsSized formula_size (chain_of E x) (n, h)
chain_sized E x n h f p q = (
  sym (chain_forgotten E x) ∙ f,
  λ b e. (
    p ∙ ap (λ m. min m (2 ^ 32)) (sym (chain_of_nodes E x b e)),
    q ∙ ap (λ m. min m (2 ^ 32)) (sym (chain_of_height E x b e)),
  ),
)

pub chain_fault : (e : ElabFault) (E : List Declaration) (x : Shape) → Faulty e (fits_chain E x) → Types (Err e) (chain_of E x)
chain_fault e E x h = within_fault meaning formula_size e (chain_of E x) (subst (Faulty e) (chain_forgotten E x) h)

pub chain_large : (E : List Declaration) (x : Shape) (n h : ℕ) → fits_chain E x ≡ Ok tt → n ≡ min (chain_nodes x) (2 ^ 32)
    → h ≡ min (chain_height x) (2 ^ 32) → (65536 < n) ⊎ (1024 < h) → Types (Err (TooLarge n h)) (chain_of E x)
chain_large E x n h f p q w = within_large meaning formula_size (chain_of E x) n h (chain_sized E x n h f p q) w

pub chain_made : (E : List Declaration) (x : Shape) (n h : ℕ) (f : Made) → fits_chain E x ≡ Ok tt → n ≡ min (chain_nodes x) (2 ^ 32)
    → h ≡ min (chain_height x) (2 ^ 32) → ((65536 < n) ⊎ (1024 < h) → ⊥) → meaning f ≡ chain_built E x
    → Types (Ok f) (chain_of E x)
chain_made E x n h f t p q w m =
    within_built meaning formula_size (chain_of E x) n h f (chain_sized E x n h t p q) w (λ b e. m ∙ chain_whole E x b e)

pub ruleset typing = (chain_fault, chain_large)

-- ---- what is declared

-- what has no formula in it passes no limit
small : (65536 < 0) ⊎ (1024 < 0) → ⊥
small (inl h) = omega (arith, h)
small (inr h) = omega (arith, h)

module _ (E : List Declaration) (n : List ℕ) (x : Shape) (l : Last) where
  pub sorts_fault : (e : ElabFault) → Faulty e (sorts_added E [] x) → Faulty e (sorts_before E x)
  sorts_fault e h = subst (Faulty e) (sorts_whole E x) h

  pub predicate_fault : (e : ElabFault) → a_predicate ≡ l → Faulty e (sorts_added E [] x) → Declares (Err e) (shape_by E n x l)
  predicate_fault e k h = subst (λ l. Declares (Err e) (shape_by E n x l)) k
      (within_first declaration declared_size e (sorts_before E x) _ (sorts_fault e h))

  pub predicate_made : (ss : Vec (List ℕ)) → a_predicate ≡ l → sorts_added E [] x ≡ Ok ss.items
      → Declares (Ok (Pred n ss)) (shape_by E n x l)
  predicate_made ss k h = subst (λ l. Declares (Ok (Pred n ss)) (shape_by E n x l)) k
      (ap (λ r. and_then r (λ us. Ok (predicate n us))) (sym (sorts_whole E x) ∙ h), λ p. small p)

  pub function_fault : (e : ElabFault) (s : List ℕ) → a_function s ≡ l → Faulty e (sorts_added E [] x) → Declares (Err e) (shape_by E n x l)
  function_fault e s k h = subst (λ l. Declares (Err e) (shape_by E n x l)) k
      (within_first declaration declared_size e (sorts_before E x) _ (sorts_fault e h))

  pub function_made : (s : List ℕ) (ss : Vec (List ℕ)) → a_function s ≡ l → sorts_added E [] x ≡ Ok ss.items
      → Declares (Ok (Fun n ss s)) (shape_by E n x l)
  function_made s ss k h = subst (λ l. Declares (Ok (Fun n ss s)) (shape_by E n x l)) k
      (ap (λ r. and_then r (λ us. Ok (function n us s))) (sym (sorts_whole E x) ∙ h), λ p. small p)

  pub stated_fault : (e : ElabFault) → a_formula ≡ l → Types (Err e) (chain_of E x) → Declares (Err e) (shape_by E n x l)
  stated_fault e k h = subst (λ l. Declares (Err e) (shape_by E n x l)) k
      (within_part meaning formula_size declaration declared_size (stated n) (λ y. refl) e (chain_of E x) h)

  pub stated_made : (f : Made) → a_formula ≡ l → Types (Ok f) (chain_of E x) → Declares (Ok (Stated n f)) (shape_by E n x l)
  stated_made f k h = subst (λ l. Declares (Ok (Stated n f)) (shape_by E n x l)) k
      (within_made meaning formula_size declaration declared_size (stated n) (λ y. refl) (chain_of E x) f (Stated n f) refl h)

pub ruleset declaring = (predicate_fault, predicate_made, function_fault, function_made, stated_fault, stated_made)

-- the same of a function, with what its parts make written out
pub sorts_faulty : (E : List Declaration) (n s : List ℕ) (x : Shape) (e : ElabFault) → Faulty e (sorts_added E [] x)
    → Declares (Err e) (and_then (sorts_before E x) (λ ss. Ok (function n ss s)))
sorts_faulty E n s x e h = function_fault E n x (a_function s) e s refl h

pub sorts_made : (E : List Declaration) (n s : List ℕ) (x : Shape) (ss : Vec (List ℕ)) → sorts_added E [] x ≡ Ok ss.items
    → Declares (Ok (Fun n ss s)) (and_then (sorts_before E x) (λ ss. Ok (function n ss s)))
sorts_made E n s x ss h = function_made E n x (a_function s) s ss refl h

pub ruleset functions = (sorts_faulty, sorts_made)
