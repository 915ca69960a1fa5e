-- Each step on formulas leaves fewer steps.
use Rattle.std.proofs.Common.{◌≡◌, ℕ, zero, suc, ◌+◌, ◌<◌, Bool, true, false, List, [], ◌∷◌, refl, sym, ap, subst, ◌∙◌, if◌then◌else◌}
use Rattle.std.proofs.Common.{Option, Some, None, arith}
use Rattle.std.proofs.Math.Path.{fun_ext}
use Rattle.fol_theory.specs.Syntax.{Terms, Formula, truth, falsity, pred, equal, both, either, implies, all, ex, is_name}
use Rattle.env_theory.specs.Declarations.{Parameter, Declaration, sort, function, predicate, stated, term, formula, name_of, find, bound}
use Rattle.env_theory.specs.Typing.{WellFormed, takes, IsPredicate, Declares, Environment}
use Rattle.env_theory.specs.Scopes.{Scope, body, under, CostRow, cost_row, cost, costs, cost_argument, cost_table, scope_cost}
use Rattle.env_theory.specs.Machine.{lefts, bind_steps, cost_applied, formula_cost, formula_table, formula_left}
use Rattle.env_theory.proofs.SameNames.{one_name}
use Rattle.env_theory.proofs.Declared.{declares_found}
use Rattle.env_theory.proofs.Keeps.{not_found}
use Rattle.env_theory.proofs.Skips.{differs}
use Rattle.env_theory.proofs.Costs.{cost_skips, costs_skips, arguments_skips}

-- ---- connectives and quantifiers

bind_under : (R : List CostRow) (c : Scope) → scope_cost R (under c) ≡ bind_steps (scope_cost R c)
bind_under R c = fun_ext at
  where
    at : (i : ℕ) → scope_cost R (under c) i ≡ bind_steps (scope_cost R c) i
    at zero = refl
    at (suc i) = refl

pub under_step : (E : List Declaration) (c : Scope) (a : Formula)
    → formula_left E (under c) a ≡ formula_cost (cost_table E) (formula_table E) (bind_steps (scope_cost (cost_table E) c)) a
under_step E c a = ap (λ w. formula_cost (cost_table E) (formula_table E) w a) (bind_under (cost_table E) c)

pub all_step : (E : List Declaration) (c : Scope) (s x : List ℕ) (a : Formula) → formula_left E (under c) a < formula_left E c (all s x a)
all_step E c s x a = omega (arith, under_step E c a)

pub ex_step : (E : List Declaration) (c : Scope) (s x : List ℕ) (a : Formula) → formula_left E (under c) a < formula_left E c (ex s x a)
ex_step E c s x a = omega (arith, under_step E c a)

-- ---- a newer row changes nothing in a formula over what is older

module _ (E : List Declaration) (n : List ℕ) (new : find E n ≡ None) (r : CostRow) (own : r.name ≡ n) where
  terms_row_skips : (R Q : List CostRow) (w : ℕ → ℕ) (V : List (List ℕ)) (a : Formula) → WellFormed E V a
      → formula_cost (r ∷ R) Q w a ≡ formula_cost R Q w a
  terms_row_skips R Q w V truth h = refl
  terms_row_skips R Q w V falsity h = refl
  terms_row_skips R Q w V (pred p ts) h =
      λ i. cost_applied (cost_row Q p) (costs_skips E n new r own R w V ts (takes (find E p)) h.1 i)
      (fun_ext (arguments_skips E n new r own R w V ts (takes (find E p)) h.1) i)
  terms_row_skips R Q w V (equal s t u) h = λ i. suc (cost_skips E n new r own R w V t s h.1 i + cost_skips E n new r own R w V u s h.2 i)
  terms_row_skips R Q w V (both a b) h = λ i. suc (terms_row_skips R Q w V a h.0 i + terms_row_skips R Q w V b h.1 i)
  terms_row_skips R Q w V (either a b) h = λ i. suc (terms_row_skips R Q w V a h.0 i + terms_row_skips R Q w V b h.1 i)
  terms_row_skips R Q w V (implies a b) h = λ i. suc (terms_row_skips R Q w V a h.0 i + terms_row_skips R Q w V b h.1 i)
  terms_row_skips R Q w V (all s x a) h = ap suc (terms_row_skips R Q (bind_steps w) (s ∷ V) a h.1)
  terms_row_skips R Q w V (ex s x a) h = ap suc (terms_row_skips R Q (bind_steps w) (s ∷ V) a h.1)

  formulas_row_skips : (R Q : List CostRow) (w : ℕ → ℕ) (V : List (List ℕ)) (a : Formula) → WellFormed E V a
      → formula_cost R (r ∷ Q) w a ≡ formula_cost R Q w a
  formulas_row_skips R Q w V truth h = refl
  formulas_row_skips R Q w V falsity h = refl
  formulas_row_skips R Q w V (pred p ts) h =
      ap (λ q. cost_applied (if q then Some r else cost_row Q p) (costs R w ts) (cost_argument R w ts))
      (ap (λ m. is_name m p) own ∙ differs E n p new IsPredicate (λ k. k) h.0)
  formulas_row_skips R Q w V (equal s t u) h = refl
  formulas_row_skips R Q w V (both a b) h = λ i. suc (formulas_row_skips R Q w V a h.0 i + formulas_row_skips R Q w V b h.1 i)
  formulas_row_skips R Q w V (either a b) h = λ i. suc (formulas_row_skips R Q w V a h.0 i + formulas_row_skips R Q w V b h.1 i)
  formulas_row_skips R Q w V (implies a b) h = λ i. suc (formulas_row_skips R Q w V a h.0 i + formulas_row_skips R Q w V b h.1 i)
  formulas_row_skips R Q w V (all s x a) h = ap suc (formulas_row_skips R Q (bind_steps w) (s ∷ V) a h.1)
  formulas_row_skips R Q w V (ex s x a) h = ap suc (formulas_row_skips R Q (bind_steps w) (s ∷ V) a h.1)

formulas_skip : (d : Declaration) (E : List Declaration) → find E (name_of d) ≡ None → (w : ℕ → ℕ) (V : List (List ℕ)) (a : Formula)
    → WellFormed E V a →
    formula_cost (cost_table (d ∷ E)) (formula_table (d ∷ E)) w a ≡ formula_cost (cost_table E) (formula_table E) w a
formulas_skip (sort n) E new w V a h = refl
formulas_skip (function n ss r) E new w V a h = refl
formulas_skip (predicate n ss) E new w V a h = refl
formulas_skip (stated n b) E new w V a h = refl
formulas_skip (term n ps r b) E new w V a h =
    terms_row_skips E n new (record { name = n; steps = λ v. cost (cost_table E) v b }) refl (cost_table E) (formula_table E) w V a h
formulas_skip (formula n ps b) E new w V a h =
    formulas_row_skips E n new (record { name = n; steps = λ v. formula_cost (cost_table E) (formula_table E) v b }) refl (cost_table E)
    (formula_table E) w V a h

-- a declaration with another name
formula_other : (d : Declaration) (E : List Declaration) (p : List ℕ) → is_name (name_of d) p ≡ false
    → cost_row (formula_table (d ∷ E)) p ≡ cost_row (formula_table E) p
formula_other (sort m) E p q = refl
formula_other (function m ss s) E p q = refl
formula_other (predicate m ss) E p q = refl
formula_other (stated m a) E p q = refl
formula_other (term m qs s a) E p q = refl
formula_other (formula m qs a) E p q =
    ap (λ z. if z then Some (record { name = m; steps = λ w. formula_cost (cost_table E) (formula_table E) w a }) else cost_row
    (formula_table E) p) q

formula_unknown : (E : List Declaration) (p : List ℕ) → find E p ≡ None → cost_row (formula_table E) p ≡ None
formula_unknown [] p h = refl
formula_unknown (d ∷ E) p h = let parts = not_found d E p h in formula_other d E p parts.0 ∙ formula_unknown E p parts.1

-- ---- a definition: its body, with the arguments

abbrev TakesFormula : List Declaration → Option CostRow → Formula → Type 0
TakesFormula E None b = ⊥
TakesFormula E (Some r) b = (w : ℕ → ℕ) → r.steps w ≡ formula_cost (cost_table E) (formula_table E) w b

formula_moved : (E F : List Declaration) (o : Option CostRow) (b : Formula)
    → ((w : ℕ → ℕ) → formula_cost (cost_table E) (formula_table E) w b ≡ formula_cost (cost_table F) (formula_table F) w b)
    → TakesFormula E o b → TakesFormula F o b
formula_moved E F None b f h = h
formula_moved E F (Some r) b f h = λ w. h w ∙ f w

row_takes_formula : (E : List Declaration) → Environment E → (p n : List ℕ) (ps : List Parameter) (b : Formula)
    → find E p ≡ Some (formula n ps b) → TakesFormula E (cost_row (formula_table E) p) b
row_takes_formula [] x p n ps b h = absurd (impossible h)
  where
    impossible : None ≡ Some (formula n ps b) → ⊥
    impossible h = cc
row_takes_formula (d ∷ E) x p n ps b h = go (is_name (name_of d) p) refl h (λ k. row_takes_formula E x.2 p n ps b k)
  where
    own : (d : Declaration) → d ≡ formula n ps b → is_name (name_of d) p ≡ true → find E (name_of d) ≡ None → Declares E d
        → TakesFormula (d ∷ E) (cost_row (formula_table (d ∷ E)) p) b
    own d e = subst (λ d. is_name (name_of d) p ≡ true → find E (name_of d) ≡ None → Declares E d
        → TakesFormula (d ∷ E) (cost_row (formula_table (d ∷ E)) p) b) (sym e) put
      where
        row : CostRow
        row = record { name = n; steps = λ w. formula_cost (cost_table E) (formula_table E) w b }

        put : is_name n p ≡ true → find E n ≡ None → Declares E (formula n ps b)
            → TakesFormula (formula n ps b ∷ E) (if is_name n p then Some row else cost_row (formula_table E) p) b
        put q new k = subst (λ z. TakesFormula (formula n ps b ∷ E) (if z then Some row else cost_row (formula_table E) p) b) (sym q)
            (λ w. sym (formulas_skip (formula n ps b) E new w (bound ps) b k.1))

    go : (q : Bool) → is_name (name_of d) p ≡ q → (if q then Some d else find E p) ≡ Some (formula n ps b)
        → (find E p ≡ Some (formula n ps b) → TakesFormula E (cost_row (formula_table E) p) b)
        → TakesFormula (d ∷ E) (cost_row (formula_table (d ∷ E)) p) b
    go true q k g = let e : d ≡ formula n ps b = cc in own d e q x.0 x.1
    go false q k g = subst (λ o. TakesFormula (d ∷ E) o b) (sym (formula_other d E p q))
        (formula_moved E (d ∷ E) (cost_row (formula_table E) p) b
        (λ w. sym (formulas_skip d E x.0 w (bound ps) b ((declares_found E x.2 p (formula n ps b) k).1))) (g k))

module _ (E : List Declaration) (x : Environment E) (p n : List ℕ) (ps : List Parameter) (b : Formula)
    (e : find E p ≡ Some (formula n ps b)) where
  pub defined_formula_step : (c : Scope) (ts : Terms) → formula_left E (body ts c) b < formula_left E c (pred p ts)
  defined_formula_step c ts = go (cost_row (formula_table E) p) (row_takes_formula E x p n ps b e)
    where
      go : (o : Option CostRow) → TakesFormula E o b
          → formula_cost (cost_table E) (formula_table E) (scope_cost (cost_table E) (body ts c)) b < cost_applied o
          (costs (cost_table E) (scope_cost (cost_table E) c) ts) (cost_argument (cost_table E) (scope_cost (cost_table E) c) ts)
      go None h = absurd h
      go (Some q) h = omega (arith, h (cost_argument (cost_table E) (scope_cost (cost_table E) c) ts))

-- an argument of a predicate without a definition
no_formula_row : (E : List Declaration) → Environment E → (p n : List ℕ) (ss : List (List ℕ)) → find E p ≡ Some (predicate n ss)
    → cost_row (formula_table E) p ≡ None
no_formula_row [] x p n ss h = refl
no_formula_row (d ∷ E) x p n ss h = go (is_name (name_of d) p) refl h (λ k. no_formula_row E x.2 p n ss k)
  where
    go : (q : Bool) → is_name (name_of d) p ≡ q → (if q then Some d else find E p) ≡ Some (predicate n ss)
        → (find E p ≡ Some (predicate n ss) → cost_row (formula_table E) p ≡ None) → cost_row (formula_table (d ∷ E)) p ≡ None
    go true q k g = let e : d ≡ predicate n ss = cc in
        ap (λ z. cost_row (formula_table (z ∷ E)) p) e ∙ formula_unknown E p (ap (find E) (sym (one_name (name_of d) p q)) ∙ x.0)
    go false q k g = formula_other d E p q ∙ g k

pub predicate_step : (E : List Declaration) → Environment E → (p n : List ℕ) (ss : List (List ℕ)) → find E p ≡ Some (predicate n ss)
    → (c : Scope) (ts : Terms) → lefts E c ts < formula_left E c (pred p ts)
predicate_step E x p n ss e c ts =
    let k = ap (λ o. cost_applied o (costs (cost_table E) (scope_cost (cost_table E) c) ts)
    (cost_argument (cost_table E) (scope_cost (cost_table E) c) ts)) (no_formula_row E x p n ss e) in omega (arith, k)
