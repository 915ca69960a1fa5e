-- A declaration that a sentence makes may be added to the environment.
use Rattle.std.proofs.Common.{◌≡◌, ℕ, List, [], ◌∷◌, ◌++◌, refl, sym, ap, subst, ◌∙◌, Option, Some, None, Result, Ok, Err}
use Rattle.vern_grammar.specs.Trees.{
  Name,
  Group,
  Expression,
  constant,
  application,
  binary,
  negation,
  quantified,
  Expressions,
  Shape,
  set,
  prop,
  arrow,
  plain,
}
use Rattle.vern_grammar.specs.Trees as tree
use Rattle.fol_theory.specs.Syntax.{Formula, implies}
use Rattle.env_theory.specs.Declarations.{
  Parameter,
  Declaration,
  function,
  predicate,
  stated,
  term,
  formula,
  name_of,
  find,
  sorts_of,
  bound,
}
use Rattle.env_theory.specs.Typing.{HasSort, WellFormed, IsSort, AreSorts, Declares, Environment}
use Rattle.base_core.specs.Answers.{and_then}
use Rattle.elab_theory.specs.Faults.{Fault}
use Rattle.elab_theory.specs.Locals.{Local, variable, hypothesis, sorts_in, known}
use Rattle.elab_theory.specs.Expressions.{span_of, sort_at, of_sort, term_of, formula_of}
use Rattle.elab_theory.specs.Sentences.{
  new_name,
  sort_part,
  sorts_before,
  chain_of,
  Last,
  a_predicate,
  a_function,
  a_formula,
  sort_or_not,
  last_of,
  shape_by,
  shape_of,
  new_names,
  names_of,
  with_sort,
  locals_of,
  parameters_of,
  defined_by,
  declaration_of,
  definition_of,
  statement_of,
}
use Rattle.elab_theory.proofs.Results.{ok_is, never, steps}
use Rattle.elab_theory.proofs.Formed.{sort_formed, of_sort_formed, term_formed, formula_formed}

pub new_name_is : (o : Option Declaration) (x : Name) (n : List ℕ) → new_name o x ≡ Ok n → (o ≡ None) × (x.text ≡ n)
new_name_is None x n e = (refl, ok_is (List ℕ) _ _ e)
new_name_is (Some d) x n e = absurd (never _ _ _ e)

-- ---- shapes

module _ (E : List Declaration) (x : Environment E) where
  sort_part_formed : (a : Expression) (s : List ℕ) → sort_part E a ≡ Ok s → IsSort (find E s)
  sort_part_formed (constant b p) s e = absurd (never _ _ _ e)
  sort_part_formed (application y tree.nil p) s e = sort_formed E [] y s e
  sort_part_formed (application y (tree.cons z zs) p) s e = absurd (never _ _ _ e)
  sort_part_formed (binary op a b p) s e = absurd (never _ _ _ e)
  sort_part_formed (negation a p) s e = absurd (never _ _ _ e)
  sort_part_formed (quantified q gs a p) s e = absurd (never _ _ _ e)

  sorts_before_formed : (y : Shape) (ss : List (List ℕ)) → sorts_before E y ≡ Ok ss → AreSorts E ss
  sorts_before_formed (set p) ss e = subst (AreSorts E) (ok_is (List (List ℕ)) _ _ e) tt
  sorts_before_formed (prop p) ss e = subst (AreSorts E) (ok_is (List (List ℕ)) _ _ e) tt
  sorts_before_formed (arrow a y) ss e = let j = steps (sort_part E a) (λ s. and_then (sorts_before E y) (λ rs. Ok (s ∷ rs))) ss
      e in let k = steps (sorts_before E y) (λ rs. Ok (j.0 ∷ rs)) ss j.2 in
      subst (AreSorts E) (ok_is (List (List ℕ)) _ _ k.2) (sort_part_formed a j.0 j.1, sorts_before_formed y k.0 k.1)
  sorts_before_formed (plain a) ss e = subst (AreSorts E) (ok_is (List (List ℕ)) _ _ e) tt

  chain_formed : (y : Shape) (b : Formula) → chain_of E y ≡ Ok b → WellFormed E [] b
  chain_formed (set p) b e = absurd (never _ _ _ e)
  chain_formed (prop p) b e = absurd (never _ _ _ e)
  chain_formed (arrow a y) b e = let j = steps (formula_of E [] a) (λ u. and_then (chain_of E y) (λ v. Ok (implies u v))) b e in
      let k = steps (chain_of E y) (λ v. Ok (implies j.0 v)) b j.2 in
      subst (WellFormed E []) (ok_is Formula _ _ k.2) (formula_formed E x a [] tt j.0 j.1, chain_formed y k.0 k.1)
  chain_formed (plain a) b e = formula_formed E x a [] tt b e

  -- the last part, where it is a sort
  abbrev IsLast : Last → Type 0
  IsLast a_predicate = Unit {0}
  IsLast (a_function s) = IsSort (find E s)
  IsLast a_formula = Unit {0}

  sort_or_not_is : (r : Result (List ℕ) Fault) → ((s : List ℕ) → r ≡ Ok s → IsSort (find E s)) → IsLast (sort_or_not r)
  sort_or_not_is (Ok s) f = f s refl
  sort_or_not_is (Err g) f = tt

  last_is : (y : Shape) → IsLast (last_of E y)
  last_is (set p) = tt
  last_is (prop p) = tt
  last_is (arrow a y) = last_is y
  last_is (plain a) = sort_or_not_is (sort_part E a) (λ s e. sort_part_formed a s e)

  abbrev Adds : List ℕ → Declaration → Type 0
  Adds n d = (name_of d ≡ n) × Declares E d

  shape_by_formed : (n : List ℕ) (y : Shape) (l : Last) → IsLast l → (d : Declaration) → shape_by E n y l ≡ Ok d → Adds n d
  shape_by_formed n y a_predicate i d e = let j = steps (sorts_before E y) (λ ss. Ok (predicate n ss)) d e in
      subst (Adds n) (ok_is Declaration _ _ j.2) (refl, sorts_before_formed y j.0 j.1)
  shape_by_formed n y (a_function s) i d e = let j = steps (sorts_before E y) (λ ss. Ok (function n ss s)) d e in
      subst (Adds n) (ok_is Declaration _ _ j.2) (refl, (sorts_before_formed y j.0 j.1, i))
  shape_by_formed n y a_formula i d e = let j = steps (chain_of E y) (λ a. Ok (stated n a)) d e in
      subst (Adds n) (ok_is Declaration _ _ j.2) (refl, chain_formed y j.0 j.1)

  shape_formed : (n : List ℕ) (y : Shape) (d : Declaration) → shape_of E n y ≡ Ok d → Adds n d
  shape_formed n (set p) d e = subst (Adds n) (ok_is Declaration _ _ e) (refl, tt)
  shape_formed n (prop p) d e = shape_by_formed n (prop p) a_predicate tt d e
  shape_formed n (arrow a y) d e = shape_by_formed n (arrow a y) (last_of E y) (last_is y) d e
  shape_formed n (plain a) d e = shape_by_formed n (plain a) (last_of E (plain a)) (last_is (plain a)) d e

  -- ---- definitions

  sorts_joint : (ss rs : List (List ℕ)) → AreSorts E ss → AreSorts E rs → AreSorts E (ss ++ rs)
  sorts_joint [] rs h k = k
  sorts_joint (s ∷ ss) rs h k = (h.0, sorts_joint ss rs h.1 k)

  parameters_joint : (ps qs : List Parameter) → sorts_of (ps ++ qs) ≡ sorts_of ps ++ sorts_of qs
  parameters_joint [] qs = refl
  parameters_joint (p ∷ ps) qs = ap (λ z. p.sort ∷ z) (parameters_joint ps qs)

  one_sort : (ns : List (List ℕ)) (s : List ℕ) → IsSort (find E s) → AreSorts E (sorts_of (with_sort ns s))
  one_sort [] s h = tt
  one_sort (n ∷ ns) s h = (h, one_sort ns s h)

  parameters_formed : (gs : List Group) (ps qs : List Parameter) → AreSorts E (sorts_of ps) → parameters_of E ps gs ≡ Ok qs →
      AreSorts E (sorts_of qs)
  parameters_formed [] ps qs h e = subst (λ z. AreSorts E (sorts_of z)) (ok_is (List Parameter) _ _ e) h
  parameters_formed (g ∷ gs) ps qs h e =
      let j = steps (new_names (names_of ps) g.names) (λ ns. and_then (sort_at (known E (locals_of ps) g.sort.text) g.sort)
      (λ s. parameters_of E (ps ++ with_sort ns s) gs)) qs e in
      let k = steps (sort_at (known E (locals_of ps) g.sort.text) g.sort) (λ s. parameters_of E (ps ++ with_sort j.0 s) gs) qs j.2 in
      parameters_formed gs (ps ++ with_sort j.0 k.0) qs
      (subst (AreSorts E) (sym (parameters_joint ps (with_sort j.0 k.0)))
      (sorts_joint (sorts_of ps) (sorts_of (with_sort j.0 k.0)) h (one_sort j.0 k.0 (sort_formed E (locals_of ps) g.sort k.0 k.1)))) k.2

  locals_joint : (c : List Local) (y s : List ℕ) → sorts_in (c ++ (variable y s ∷ [])) ≡ sorts_in c ++ (s ∷ [])
  locals_joint [] y s = refl
  locals_joint (variable z r ∷ c) y s = ap (λ w. r ∷ w) (locals_joint c y s)
  locals_joint (hypothesis z ∷ c) y s = locals_joint c y s

  locals_bound : (ps : List Parameter) → sorts_in (locals_of ps) ≡ bound ps
  locals_bound [] = refl
  locals_bound (p ∷ ps) = locals_joint (locals_of ps) p.name p.sort ∙ ap (λ z. z ++ (p.sort ∷ [])) (locals_bound ps)

  bound_sorts : (ps : List Parameter) → AreSorts E (sorts_of ps) → AreSorts E (bound ps)
  bound_sorts [] h = tt
  bound_sorts (p ∷ ps) h = sorts_joint (bound ps) (p.sort ∷ []) (bound_sorts ps h.1) (h.0, tt)

  defined_formed : (n : List ℕ) (ps : List Parameter) → AreSorts E (sorts_of ps) → (r : Option Name) (a : Expression)
      (d : Declaration) → defined_by E n ps r a ≡ Ok d → Adds n d
  defined_formed n ps h None a d e = let j = steps (formula_of E (locals_of ps) a) (λ b. Ok (formula n ps b)) d e in
      subst (Adds n) (ok_is Declaration _ _ j.2) (
        refl,
        (
          h,
          subst (λ V. WellFormed E V j.0) (locals_bound ps) (formula_formed E x a (locals_of ps)
              (subst (AreSorts E) (sym (locals_bound ps)) (bound_sorts ps h)) j.0 j.1),
        ),
      )
  defined_formed n ps h (Some r) a d e =
      let j = steps (sort_at (known E (locals_of ps) r.text) r)
      (λ s. and_then (and_then (term_of E (locals_of ps) a) (of_sort s (span_of a))) (λ b. Ok (term n ps s b))) d e in
      let k = steps (and_then (term_of E (locals_of ps) a) (of_sort j.0 (span_of a))) (λ b. Ok (term n ps j.0 b)) d j.2 in
      let l = steps (term_of E (locals_of ps) a) (of_sort j.0 (span_of a)) k.0 k.1 in
      subst (Adds n) (ok_is Declaration _ _ k.2) (
        refl,
        (
          h,
          sort_formed E (locals_of ps) r j.0 j.1,
          subst (λ V. HasSort E V k.0 j.0) (locals_bound ps)
              (of_sort_formed E (sorts_in (locals_of ps)) j.0 (span_of a) l.0 k.0 (term_formed E (locals_of ps) a l.0 l.1) l.2),
        ),
      )

  -- ---- the laws

  added : (o : Option Declaration) (y : Name) (n : List ℕ) (d : Declaration) → find E y.text ≡ o → new_name o y ≡ Ok n →
      Adds n d → Environment (d ∷ E)
  added o y n d f e h = let k = new_name_is o y n e in (ap (find E) (h.0 ∙ sym k.1) ∙ f ∙ k.0, h.1, x)

  pub declaration_admitted : (y : Name) (z : Shape) (d : Declaration) → declaration_of E y z ≡ Ok d → Environment (d ∷ E)
  declaration_admitted y z d e = let j = steps (new_name (find E y.text) y) (λ n. shape_of E n z) d e in
      added (find E y.text) y j.0 d refl j.1 (shape_formed j.0 z d j.2)

  pub definition_admitted : (y : Name) (gs : List Group) (r : Option Name) (a : Expression) (d : Declaration) →
      definition_of E y gs r a ≡ Ok d → Environment (d ∷ E)
  definition_admitted y gs r a d e = let j = steps (new_name (find E y.text) y) (λ n. and_then (parameters_of E [] gs)
      (λ ps. defined_by E n ps r a)) d e in
      let k = steps (parameters_of E [] gs) (λ ps. defined_by E j.0 ps r a) d j.2 in
      added (find E y.text) y j.0 d refl j.1 (defined_formed j.0 k.0 (parameters_formed gs [] k.0 tt k.1) r a d k.2)

  pub statement_admitted : (y : Name) (a : Expression) (b : Formula) → statement_of E y a ≡ Ok b → Environment (stated y.text b ∷ E)
  statement_admitted y a b e = let j = steps (new_name (find E y.text) y) (λ n. formula_of E [] a) b e in
      added (find E y.text) y j.0 (stated y.text b) refl j.1 ((new_name_is (find E y.text) y j.0 j.1).1, formula_formed E x a [] tt b j.2)
