-- What is counted of a definition makes its summary.
use Rattle.std.proofs.Common.{◌≡◌, ℕ, zero, suc, ◌+◌, ◌*◌, ◌<◌, ◌≤◌, ◌^◌, min, max, List, [], ◌∷◌, ◌++◌, length, map, refl, sym, ap}
use Rattle.std.proofs.Common.{subst, ◌∙◌, ◌⊎◌, inl, inr, Option, Some, None, arith}
use Rattle.std.specs.Prelude.{MatchOption}
use Rattle.std.proofs.lemmas.List.{get_or_past}
use Rattle.std.proofs.lemmas.Bool.Decides.{nat_tests}
use Rattle.fol_theory.specs.Syntax.{Term, Formula, var}
use Rattle.env_theory.specs.Declarations.{Declaration, Parameter, bound}
use Rattle.env_theory.specs.Typing.{HasSort, WellFormed, Declares, Environment}
use Rattle.env_theory.specs.Normal.{normal_term}
use Rattle.env_theory.specs.Count.{Scale, Table, by_nodes, count_term, count, nothing, only, table, upto}
use Rattle.env_theory.proofs.Scales.{Laws}
use Rattle.env_theory.proofs.Linear.{sum, sum_below, formula_linear}
use Rattle.env_theory.proofs.Summaries.{own_nothing, own_variable, variable_uses}
use Rattle.env_core.specs.declared.tally.Tally.{Tally}
use Rattle.std.specs.Prelude.{Vec}
use Rattle.std.specs.declared.alloc.Global.{Global}
use Rattle.term_core.specs.Term as terms
use Rattle.term_core.specs.Formula as formulas
use Rattle.term_core.specs.declared.term.Term.{Term as TermTree}
use Rattle.term_core.specs.declared.formula.Formula.{Formula as FormulaTree}
use Rattle.env_core.specs.declared.declaration.Parameter.{Parameter as CodeParameter}
use Rattle.env_core.specs.declared.declaration.Decl.{Decl}
use Rattle.env_core.specs.declared.declaration.Decl.TheVariants.{Sort, Fun, Pred, Stated, DefFun, DefPred}
use Rattle.env_core.specs.declared.summary.Summary.{Summary}
use Rattle.env_core.specs.Meaning.{parameter, declaration}
use Rattle.env_core.specs.Rows.{nodes_at, height_at}
use Rattle.env_core.specs.Summaries.{Projects, SummaryOf}

side : (k n : ℕ) → (k < n) ⊎ (n ≤ k)
side k n = grind arith

-- uses of the first variables are all uses, where no other stands there
pub all_nodes : (us : List Tally) (n : ℕ) → length us ≡ n → (c : ℕ → ℕ) → ((k : ℕ) → n ≤ k → c k ≡ 0)
    → ((k : ℕ) → k < n → upto (nodes_at us k) ≡ upto (c k)) → (k : ℕ) → upto (nodes_at us k) ≡ upto (c k)
all_nodes us n m c beyond within k = go (side k n)
  where
    go : (k < n) ⊎ (n ≤ k) → upto (nodes_at us k) ≡ upto (c k)
    go (inl l) = within k l
    go (inr l) = ap (λ u. upto (Tally.nodes u)) (get_or_past us k (record { nodes = 0; height = 0 }) (subst (λ z. z ≤ k) (sym m) l))
        ∙ ap upto (sym (beyond k l))

pub all_height : (us : List Tally) (n : ℕ) → length us ≡ n → (c : ℕ → ℕ) → ((k : ℕ) → n ≤ k → c k ≡ 0)
    → ((k : ℕ) → k < n → upto (height_at us k) ≡ upto (c k)) → (k : ℕ) → upto (height_at us k) ≡ upto (c k)
all_height us n m c beyond within k = go (side k n)
  where
    go : (k < n) ⊎ (n ≤ k) → upto (height_at us k) ≡ upto (c k)
    go (inl l) = within k l
    go (inr l) = ap (λ u. upto (Tally.height u)) (get_or_past us k (record { nodes = 0; height = 0 }) (subst (λ z. z ≤ k) (sym m) l))
        ∙ ap upto (sym (beyond k l))

other : (k i : ℕ) → i < k → only k i ≡ 0
other k i h = grind (arith, nat_tests)

-- a variable beyond those of a formula isn't used
module _ (S : Scale) (L : Laws S) where
  sum_none : (n : ℕ) (u : ℕ → ℕ) → sum S n u nothing ≡ 0
  sum_none zero u = refl
  sum_none (suc n) u = (λ i. S.plus (L.times_zero (u n) i) (sum_none n u i)) ∙ L.plus_zero 0

  pub formula_beyond : (T : Table) (E : List Declaration) (V : List (List ℕ)) (a : Formula) → WellFormed E V a → (k : ℕ) → length V ≤ k
      → count S T 0 (only k) a ≡ 0
  formula_beyond T E V a w k l =
      formula_linear S L T E V a w 0 (only k)
      ∙ (λ i. S.plus ((L.times_turned 0 (count S T 1 nothing a) ∙ L.times_zero (count S T 1 nothing a)) i)
      ((sum_below S L (length V) (λ j. count S T 0 (only j) a) (only k) nothing (λ j m. other k j (omega (arith, l, m)))
      ∙ sum_none (length V) (λ j. count S T 0 (only j) a)) i)) ∙ L.plus_zero 0

own_once : (i : ℕ) → only i i ≡ 1
own_once i = grind (arith, nat_tests)

used : (i k : ℕ) → 0 < only k i → i ≡ k
used i k h = grind (arith, nat_tests)

nothing_of : (n m : ℕ) → upto n ≡ upto m → m ≡ 0 → n ≡ 0
nothing_of n m e z = omega (arith, e, z)

contradicted : (n m : ℕ) → upto n ≡ upto m → n ≡ 0 → m ≡ 1 → ⊥
contradicted n m e z o = omega (arith, e, z, o)

some_of : (n m : ℕ) → upto n ≡ upto m → 0 < n → 0 < m
some_of n m e h = omega (arith, e, h)

-- the variable that is used where nothing else counts is what the term projects to
module _ (E : List Declaration) (x : Environment E) (V : List (List ℕ)) (t : Term) (s : List ℕ) (w : HasSort E V t s) (own : ℕ)
    (us : List Tally)
    (o : upto own ≡ upto (count_term by_nodes (Table.functions (table by_nodes E)) 1 nothing t))
    (u : (k : ℕ) → upto (nodes_at us k) ≡ upto (count_term by_nodes (Table.functions (table by_nodes E)) 0 (only k) t)) where
  pub projects_known : (p : Option ℕ)
      → MatchOption p (own ≡ 0 → (k : ℕ) → nodes_at us k ≡ 0) (λ i. (own ≡ 0) × (0 < nodes_at us i)) → Projects E t p
  projects_known None h = λ i e.
      contradicted (nodes_at us i) (count_term by_nodes (Table.functions (table by_nodes E)) 0 (only i) t) (u i)
      (h (nothing_of own (count_term by_nodes (Table.functions (table by_nodes E)) 1 nothing t) o (own_nothing E x V t s w i e)) i)
      (variable_uses E x V t s w i e i ∙ own_once i)
  projects_known (Some i) h =
      let j = own_variable E x V t s w
      (nothing_of (count_term by_nodes (Table.functions (table by_nodes E)) 1 nothing t) own (sym o) h.0) in
      j.1 ∙ ap var (used j.0 i (subst (λ z. 0 < z) (variable_uses E x V t s w j.0 j.1 i)
      (some_of (nodes_at us i) (count_term by_nodes (Table.functions (table by_nodes E)) 0 (only i) t) (u i) h.1)))

-- parameters have as many variables
pub many_bound : (ps : List Parameter) → length (bound ps) ≡ length ps
many_bound [] = refl
many_bound (p ∷ ps) = more (bound ps) p.sort ∙ ap suc (many_bound ps)
  where
    more : (V : List (List ℕ)) (s : List ℕ) → length (V ++ (s ∷ [])) ≡ suc (length V)
    more [] s = refl
    more (r ∷ V) s = ap suc (more V s)

-- ---- what a declaration says of its body

mapped : (ps : List CodeParameter) → length (map parameter ps) ≡ length ps
mapped [] = refl
mapped (p ∷ ps) = ap suc (mapped ps)

pub term_declared : (E : List Declaration) (d : Decl) (n : List ℕ) (ps : Vec CodeParameter Global) (r : List ℕ) (b : TermTree)
    → d ≡ DefFun n ps r b → Declares E (declaration d)
    → (V : List (List ℕ)) × (s : List ℕ) × HasSort E V (terms.meaning b) s × (length V ≡ length ps.items)
term_declared E d n ps r b e w = let h = subst (λ z. Declares E (declaration z)) e w in
    (bound (map parameter ps.items), r, h.2, many_bound (map parameter ps.items) ∙ mapped ps.items)

pub formula_declared : (E : List Declaration) (d : Decl) (n : List ℕ) (ps : Vec CodeParameter Global) (b : FormulaTree)
    → d ≡ DefPred n ps b → Declares E (declaration d)
    → (V : List (List ℕ)) × WellFormed E V (formulas.meaning b) × (length V ≡ length ps.items)
formula_declared E d n ps b e w = let h = subst (λ z. Declares E (declaration z)) e w in
    (bound (map parameter ps.items), h.1, many_bound (map parameter ps.items) ∙ mapped ps.items)

pub other_summary : (E : List Declaration) (d : Decl) (y : Summary)
    → ((n : List ℕ) (ps : Vec CodeParameter Global) (r : List ℕ) (b : TermTree) → d ≡ DefFun n ps r b → ⊥)
    → ((n : List ℕ) (ps : Vec CodeParameter Global) (b : FormulaTree) → d ≡ DefPred n ps b → ⊥) → SummaryOf E (declaration d) y
other_summary E (Sort n) y f g = (tt, tt, tt)
other_summary E (Fun n ss s) y f g = (tt, tt, tt)
other_summary E (Pred n ss) y f g = (tt, tt, tt)
other_summary E (Stated n a) y f g = (tt, tt, tt)
other_summary E (DefFun n ps s b) y f g = absurd (f n ps s b refl)
other_summary E (DefPred n ps b) y f g = absurd (g n ps b refl)
