-- Each step leaves fewer steps.
use Rattle.std.proofs.Common.{◌≡◌, ℕ, zero, suc, ◌+◌, ◌<◌, Bool, true, false, List, [], ◌∷◌, refl, sym, ap, subst, ◌∙◌, if◌then◌else◌, ◌==◌}
use Rattle.std.proofs.Common.{Option, Some, None, arith}
use Rattle.std.proofs.lemmas.Bool.Decides.{nat_tests}
use Rattle.std.proofs.Math.Path.{fun_ext}
use Rattle.fol_theory.specs.Syntax.{Term, var, app, Terms, nil, cons, is_name}
use Rattle.env_theory.specs.Declarations.{Parameter, Declaration, sort, function, predicate, stated, term, formula, name_of, find, bound}
use Rattle.env_theory.specs.Typing.{HasSort, HaveSorts, takes, Gives, Declares, Environment}
use Rattle.env_theory.specs.Normal.{many, argument}
use Rattle.env_theory.specs.Scopes.{Scope, body, under, CostRow, cost_row, cost_headed, cost, costs, cost_argument, cost_table, scope_cost}
use Rattle.env_theory.specs.Machine.{left}
use Rattle.env_theory.proofs.SameNames.{one_name}
use Rattle.env_theory.proofs.Declared.{declares_found}
use Rattle.env_theory.proofs.Keeps.{not_found}
use Rattle.env_theory.proofs.Skips.{differs}

-- an argument takes what the variable that stands for it takes
pub argument_cost : (R : List CostRow) (w : ℕ → ℕ) (ts : Terms) (i : ℕ) → i < many ts → cost R w (argument ts i) ≡ cost_argument R w ts i
argument_cost R w nil i h = absurd (none h)
  where
    none : i < zero → ⊥
    none h = omega (arith, h)
argument_cost R w (cons t ts) i h = go (i == many ts) refl (λ l. argument_cost R w ts i l)
  where
    below : (i k : ℕ) → i < suc k → (i == k) ≡ false → i < k
    below i k h e = grind (arith, nat_tests)

    go : (q : Bool) → (i == many ts) ≡ q → (i < many ts → cost R w (argument ts i) ≡ cost_argument R w ts i) →
        cost R w (if q then t else argument ts i) ≡ (if q then cost R w t else cost_argument R w ts i)
    go true e f = refl
    go false e f = f (below i (many ts) h e)

-- ---- the steps

pub parameter_step : (E : List Declaration) (ts : Terms) (c : Scope) (i : ℕ) → i < many ts
    → left E c (argument ts i) < left E (body ts c) (var i)
parameter_step E ts c i h = omega (arith, argument_cost (cost_table E) (scope_cost (cost_table E) c) ts i h)

pub outside_step : (E : List Declaration) (c : Scope) (i : ℕ) → left E c (var i) < left E (under c) (var (suc i))
outside_step E c i = omega arith

-- a newer row changes nothing in a term over what is older
module _ (E : List Declaration) (n : List ℕ) (new : find E n ≡ None) (r : CostRow) (own : r.name ≡ n) where
  mutual
    pub cost_skips : (R : List CostRow) (w : ℕ → ℕ) (V : List (List ℕ)) (t : Term) (s : List ℕ) → HasSort E V t s
        → cost (r ∷ R) w t ≡ cost R w t
    cost_skips R w V (var i) s h = refl
    cost_skips R w V (app f ts) s h =
        ap (λ q. cost_headed (if q then Some r else cost_row R f) (costs (r ∷ R) w ts) (cost_argument (r ∷ R) w ts))
        (ap (λ m. is_name m f) own ∙ differs E n f new (λ o. Gives o s) (λ k. k) h.0) ∙
        (λ i. cost_headed (cost_row R f) (costs_skips R w V ts (takes (find E f)) h.1 i)
        (fun_ext (arguments_skips R w V ts (takes (find E f)) h.1) i))

    pub costs_skips : (R : List CostRow) (w : ℕ → ℕ) (V : List (List ℕ)) (ts : Terms) (ss : List (List ℕ)) → HaveSorts E V ts ss
        → costs (r ∷ R) w ts ≡ costs R w ts
    costs_skips R w V nil ss h = refl
    costs_skips R w V (cons t ts) [] h = absurd h
    costs_skips R w V (cons t ts) (s ∷ ss) h = λ i. cost_skips R w V t s h.0 i + costs_skips R w V ts ss h.1 i

    pub arguments_skips : (R : List CostRow) (w : ℕ → ℕ) (V : List (List ℕ)) (ts : Terms) (ss : List (List ℕ)) → HaveSorts E V ts ss
        → (i : ℕ) → cost_argument (r ∷ R) w ts i ≡ cost_argument R w ts i
    arguments_skips R w V nil ss h i = refl
    arguments_skips R w V (cons t ts) [] h i = absurd h
    arguments_skips R w V (cons t ts) (s ∷ ss) h i =
        λ j. if i == many ts then cost_skips R w V t s h.0 j else arguments_skips R w V ts ss h.1 i j

pub table_skips : (d : Declaration) (E : List Declaration) → find E (name_of d) ≡ None
    → (w : ℕ → ℕ) (V : List (List ℕ)) (t : Term) (s : List ℕ) → HasSort E V t s → cost (cost_table (d ∷ E)) w t ≡ cost (cost_table E) w t
table_skips (sort n) E new w V t s h = refl
table_skips (function n ss r) E new w V t s h = refl
table_skips (predicate n ss) E new w V t s h = refl
table_skips (stated n a) E new w V t s h = refl
table_skips (term n ps r b) E new w V t s h =
    cost_skips E n new (record { name = n; steps = λ v. cost (cost_table E) v b }) refl (cost_table E) w V t s h
table_skips (formula n ps b) E new w V t s h = refl

-- a declaration with another name
pub cost_other : (d : Declaration) (E : List Declaration) (f : List ℕ) → is_name (name_of d) f ≡ false
    → cost_row (cost_table (d ∷ E)) f ≡ cost_row (cost_table E) f
cost_other (sort m) E f q = refl
cost_other (function m ss s) E f q = refl
cost_other (predicate m ss) E f q = refl
cost_other (stated m a) E f q = refl
cost_other (term m qs s a) E f q =
    ap (λ z. if z then Some (record { name = m; steps = λ w. cost (cost_table E) w a }) else cost_row (cost_table E) f) q
cost_other (formula m qs a) E f q = refl

pub cost_unknown : (E : List Declaration) (f : List ℕ) → find E f ≡ None → cost_row (cost_table E) f ≡ None
cost_unknown [] f h = refl
cost_unknown (d ∷ E) f h = let parts = not_found d E f h in cost_other d E f parts.0 ∙ cost_unknown E f parts.1

-- what is known of the row that a definition's name finds
abbrev Takes : List Declaration → Option CostRow → Term → Type 0
Takes E None b = ⊥
Takes E (Some r) b = (w : ℕ → ℕ) → r.steps w ≡ cost (cost_table E) w b

takes_moved : (E F : List Declaration) (o : Option CostRow) (b : Term) → ((w : ℕ → ℕ) → cost (cost_table E) w b ≡ cost (cost_table F) w b)
    → Takes E o b → Takes F o b
takes_moved E F None b f h = h
takes_moved E F (Some r) b f h = λ w. h w ∙ f w

row_takes : (E : List Declaration) → Environment E → (f n : List ℕ) (ps : List Parameter) (r : List ℕ) (b : Term)
    → find E f ≡ Some (term n ps r b) → Takes E (cost_row (cost_table E) f) b
row_takes [] x f n ps r b h = absurd (impossible h)
  where
    impossible : None ≡ Some (term n ps r b) → ⊥
    impossible h = cc
row_takes (d ∷ E) x f n ps r b h = go (is_name (name_of d) f) refl h (λ k. row_takes E x.2 f n ps r b k)
  where
    own : (d : Declaration) → d ≡ term n ps r b → is_name (name_of d) f ≡ true → find E (name_of d) ≡ None → Declares E d
        → Takes (d ∷ E) (cost_row (cost_table (d ∷ E)) f) b
    own d e = subst (λ d. is_name (name_of d) f ≡ true → find E (name_of d) ≡ None → Declares E d
        → Takes (d ∷ E) (cost_row (cost_table (d ∷ E)) f) b) (sym e) put
      where
        row : CostRow
        row = record { name = n; steps = λ w. cost (cost_table E) w b }

        put : is_name n f ≡ true → find E n ≡ None → Declares E (term n ps r b)
            → Takes (term n ps r b ∷ E) (if is_name n f then Some row else cost_row (cost_table E) f) b
        put q new k = subst (λ z. Takes (term n ps r b ∷ E) (if z then Some row else cost_row (cost_table E) f) b) (sym q)
            (λ w. sym (table_skips (term n ps r b) E new w (bound ps) b r k.2))

    go : (q : Bool) → is_name (name_of d) f ≡ q → (if q then Some d else find E f) ≡ Some (term n ps r b)
        → (find E f ≡ Some (term n ps r b) → Takes E (cost_row (cost_table E) f) b) → Takes (d ∷ E) (cost_row (cost_table (d ∷ E)) f) b
    go true q k g = let e : d ≡ term n ps r b = cc in own d e q x.0 x.1
    go false q k g = subst (λ o. Takes (d ∷ E) o b) (sym (cost_other d E f q))
        (takes_moved E (d ∷ E) (cost_row (cost_table E) f) b
        (λ w. sym (table_skips d E x.0 w (bound ps) b r ((declares_found E x.2 f (term n ps r b) k).2))) (g k))

module _ (E : List Declaration) (x : Environment E) (f n : List ℕ) (ps : List Parameter) (r : List ℕ) (b : Term)
    (e : find E f ≡ Some (term n ps r b)) where
  -- a definition: its body, with the arguments
  pub defined_step : (c : Scope) (ts : Terms) → left E (body ts c) b < left E c (app f ts)
  defined_step c ts = go (cost_row (cost_table E) f) (row_takes E x f n ps r b e)
    where
      R : List CostRow
      R = cost_table E

      w : ℕ → ℕ
      w = scope_cost (cost_table E) c

      go : (o : Option CostRow) → Takes E o b
          → cost (cost_table E) (scope_cost (cost_table E) (body ts c)) b < cost_headed o
          (costs (cost_table E) (scope_cost (cost_table E) c) ts) (cost_argument (cost_table E) (scope_cost (cost_table E) c) ts)
      go None h = absurd h
      go (Some q) h = omega (arith, h (cost_argument (cost_table E) (scope_cost (cost_table E) c) ts))

-- an argument of a function without a definition
pub no_row : (E : List Declaration) → Environment E → (f n : List ℕ) (ss : List (List ℕ)) (r : List ℕ)
    → (find E f ≡ Some (function n ss r)) → cost_row (cost_table E) f ≡ None
no_row [] x f n ss r h = refl
no_row (d ∷ E) x f n ss r h = go (is_name (name_of d) f) refl h (λ k. no_row E x.2 f n ss r k)
  where
    go : (q : Bool) → is_name (name_of d) f ≡ q → (if q then Some d else find E f) ≡ Some (function n ss r)
        → (find E f ≡ Some (function n ss r) → cost_row (cost_table E) f ≡ None) → cost_row (cost_table (d ∷ E)) f ≡ None
    go true q k g = let e : d ≡ function n ss r = cc in
        ap (λ z. cost_row (cost_table (z ∷ E)) f) e ∙ cost_unknown E f (ap (find E) (sym (one_name (name_of d) f q)) ∙ x.0)
    go false q k g = cost_other d E f q ∙ g k

module _ (E : List Declaration) (x : Environment E) (f n : List ℕ) (ss : List (List ℕ)) (r : List ℕ)
    (e : find E f ≡ Some (function n ss r)) where
  -- the arguments of a function without a definition, together
  pub arguments_step : (c : Scope) (ts : Terms) → costs (cost_table E) (scope_cost (cost_table E) c) ts < left E c (app f ts)
  arguments_step c ts =
      let k = ap (λ o. cost_headed o (costs (cost_table E) (scope_cost (cost_table E) c) ts)
      (cost_argument (cost_table E) (scope_cost (cost_table E) c) ts)) (no_row E x f n ss r e) in omega (arith, k)
