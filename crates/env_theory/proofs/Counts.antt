-- The count of a normal form is the count over the table of its environment.
use Rattle.std.proofs.Common.{◌≡◌, ℕ, zero, suc, ◌+◌, ◌≤◌, max, Bool, true, false, List, [], ◌∷◌, length, refl, sym, ap, subst, ◌∙◌}
use Rattle.std.proofs.Common.{if◌then◌else◌, Some}
use Rattle.std.proofs.Math.Path.{fun_ext}
use Rattle.fol_theory.specs.Syntax.{Term, var, app, Terms, nil, cons, Formula, truth, falsity, pred, equal, both, either, implies, all, ex}
use Rattle.fol_theory.specs.Syntax.{is_name}
use Rattle.fol_theory.specs.Substitution.{replace_term, replace_terms, replace, next, lift}
use Rattle.fol_theory.specs.Measures.{term_reach, term_nodes, terms_nodes, nodes, term_height, terms_height, height}
use Rattle.env_theory.specs.Declarations.{Parameter, Declaration, sort, function, predicate, stated, term, formula, find, bound}
use Rattle.env_theory.specs.Typing.{HasSort, HaveSorts, WellFormed, takes, Environment, Put, Puts}
use Rattle.env_theory.specs.Normal.{many, argument, unfold_term, unfold_terms, unfold_function, unfold_predicate, expand_term, expand}
use Rattle.env_theory.specs.Normal.{normal_term, normal}
use Rattle.env_theory.specs.Count.{Scale, by_nodes, by_height, Row, Table, no_rows, row, node, bind, headed, count_term, count_terms}
use Rattle.env_theory.specs.Count.{spread, count, nothing, only, each, term_row, formula_row, add_row, table}
use Rattle.env_theory.proofs.SameNames.{one_name}
use Rattle.env_theory.proofs.Normals.{many_replace, many_unfold}
use Rattle.env_theory.proofs.Sorts.{sort_reach, many_sorts}
use Rattle.env_theory.proofs.Weaker.{puts}
use Rattle.env_theory.proofs.Keeps.{expand_sort, expand_formed}
use Rattle.env_theory.proofs.Scales.{Laws, nodes_laws, height_laws, node_by_nodes, node_by_height}
use Rattle.env_theory.proofs.Linear.{sum, term_linear, formula_linear, sum_arguments}

module _ (S : Scale) where
  -- ---- counting under a substitution

  mutual
    pub term_substituted : (R : List Row) (e : ℕ) (w : ℕ → ℕ) (σ : ℕ → Term) (t : Term)
        → count_term S R e w (replace_term σ t) ≡ count_term S R e (λ i. count_term S R e w (σ i)) t
    term_substituted R e w σ (var i) = refl
    term_substituted R e w σ (app f ts) =
        λ i. headed S e (row R f) (terms_substituted R e w σ ts i) (λ u. spread_substituted R e w σ u ts i)

    pub terms_substituted : (R : List Row) (e : ℕ) (w : ℕ → ℕ) (σ : ℕ → Term) (ts : Terms)
        → count_terms S R e w (replace_terms σ ts) ≡ count_terms S R e (λ i. count_term S R e w (σ i)) ts
    terms_substituted R e w σ nil = refl
    terms_substituted R e w σ (cons t ts) = λ i. S.plus (term_substituted R e w σ t i) (terms_substituted R e w σ ts i)

    pub spread_substituted : (R : List Row) (e : ℕ) (w : ℕ → ℕ) (σ : ℕ → Term) (u : ℕ → ℕ) (ts : Terms)
        → spread S R e w u (replace_terms σ ts) ≡ spread S R e (λ i. count_term S R e w (σ i)) u ts
    spread_substituted R e w σ u nil = refl
    spread_substituted R e w σ u (cons t ts) =
        λ i. S.plus (S.times (u (many_replace σ ts i)) (term_substituted R e w σ t i)) (spread_substituted R e w σ u ts i)

  bound_at : (R : List Row) (e : ℕ) (w : ℕ → ℕ) (σ : ℕ → Term) (i : ℕ)
      → count_term S R e (bind e w) (lift σ i) ≡ bind e (λ j. count_term S R e w (σ j)) i
  bound_at R e w σ zero = refl
  bound_at R e w σ (suc i) = term_substituted R e (bind e w) next (σ i)

  pub substituted : (T : Table) (e : ℕ) (w : ℕ → ℕ) (σ : ℕ → Term) (a : Formula)
      → count S T e w (replace σ a) ≡ count S T e (λ i. count_term S T.functions e w (σ i)) a
  substituted T e w σ truth = refl
  substituted T e w σ falsity = refl
  substituted T e w σ (pred p ts) =
      λ i. headed S e (row T.predicates p) (terms_substituted T.functions e w σ ts i) (λ u. spread_substituted T.functions e w σ u ts i)
  substituted T e w σ (equal s t u) =
      λ i. node S e (S.plus (term_substituted T.functions e w σ t i) (term_substituted T.functions e w σ u i))
  substituted T e w σ (both a b) = λ i. node S e (S.plus (substituted T e w σ a i) (substituted T e w σ b i))
  substituted T e w σ (either a b) = λ i. node S e (S.plus (substituted T e w σ a i) (substituted T e w σ b i))
  substituted T e w σ (implies a b) = λ i. node S e (S.plus (substituted T e w σ a i) (substituted T e w σ b i))
  substituted T e w σ (all s x a) =
      ap (node S e) (substituted T e (bind e w) (lift σ) a ∙ ap (λ v. count S T e v a) (fun_ext (bound_at T.functions e w σ)))
  substituted T e w σ (ex s x a) =
      ap (node S e) (substituted T e (bind e w) (lift σ) a ∙ ap (λ v. count S T e v a) (fun_ext (bound_at T.functions e w σ)))

  module _ (L : Laws S) where
    -- ---- a function's row stands for its body put in

    -- an application of a definition, from the arguments
    put_term : (R : List Row) (b : Term) (us : Terms) → term_reach b ≤ many us → (e : ℕ) (w : ℕ → ℕ) →
        S.plus (S.times e (count_term S R 1 nothing b)) (spread S R e w (λ k. count_term S R 0 (only k) b) us)
        ≡ count_term S R e w (replace_term (argument us) b)
    put_term R b us h e w =
        ap (S.plus (S.times e (count_term S R 1 nothing b))) (sym (sum_arguments S L (λ k. count_term S R 0 (only k) b) R e w us)) ∙
        sym (term_linear S L R (many us) b h e (λ i. count_term S R e w (argument us i))) ∙ sym (term_substituted R e w (argument us) b)

    module _ (F : List Declaration) (n : List ℕ) (ps : List Parameter) (r : List ℕ) (b : Term) (d : Put F (term n ps r b))
        (R : List Row) where
      abbrev own_row : Row
      own_row = term_row S R n b

      mutual
        function_term : (e : ℕ) (w : ℕ → ℕ) (V : List (List ℕ)) (t : Term) (s : List ℕ) → HasSort F V t s
            → count_term S (own_row ∷ R) e w t ≡ count_term S R e w (unfold_term n b t)
        function_term e w V (var i) s h = refl
        function_term e w V (app f ts) s h =
            go (is_name n f) refl (function_terms e w V ts (takes (find F f)) h.1) (λ u. function_spread e w V u ts (takes (find F f)) h.1)
          where
            us : Terms
            us = unfold_terms n b ts

            go : (q : Bool) → is_name n f ≡ q → count_terms S (own_row ∷ R) e w ts ≡ count_terms S R e w us
                → ((u : ℕ → ℕ) → spread S (own_row ∷ R) e w u ts ≡ spread S R e w u us) →
                headed S e (if q then Some own_row else row R f) (count_terms S (own_row ∷ R) e w ts)
                (λ u. spread S (own_row ∷ R) e w u ts) ≡ count_term S R e w (if q then replace_term (argument us) b else app f us)
            go true q k m = let found : find F f ≡ Some (term n ps r b) = ap (find F) (sym (one_name n f q)) ∙ d.0 in
                let size : length (bound ps) ≡ many us =
                sym (many_unfold n b ts ∙ many_sorts F V ts ps (subst (λ o. HaveSorts F V ts (takes o)) found h.1)) in
                ap (S.plus (S.times e own_row.own)) (m own_row.uses)
                ∙ put_term R b us (subst (λ z. term_reach b ≤ z) size (sort_reach F (bound ps) b r d.1)) e w
            go false q k m = λ i. headed S e (row R f) (k i) (λ u. m u i)

        function_terms : (e : ℕ) (w : ℕ → ℕ) (V : List (List ℕ)) (ts : Terms) (ss : List (List ℕ)) → HaveSorts F V ts ss
            → count_terms S (own_row ∷ R) e w ts ≡ count_terms S R e w (unfold_terms n b ts)
        function_terms e w V nil ss h = refl
        function_terms e w V (cons t ts) [] h = absurd h
        function_terms e w V (cons t ts) (s ∷ ss) h = λ i. S.plus (function_term e w V t s h.0 i) (function_terms e w V ts ss h.1 i)

        function_spread : (e : ℕ) (w : ℕ → ℕ) (V : List (List ℕ)) (u : ℕ → ℕ) (ts : Terms) (ss : List (List ℕ)) → HaveSorts F V ts ss
            → spread S (own_row ∷ R) e w u ts ≡ spread S R e w u (unfold_terms n b ts)
        function_spread e w V u nil ss h = refl
        function_spread e w V u (cons t ts) [] h = absurd h
        function_spread e w V u (cons t ts) (s ∷ ss) h =
            λ i. S.plus (S.times (u (sym (many_unfold n b ts) i)) (function_term e w V t s h.0 i)) (function_spread e w V u ts ss h.1 i)

      function_formula : (P : List Row) (e : ℕ) (w : ℕ → ℕ) (V : List (List ℕ)) (a : Formula) → WellFormed F V a →
          count S (record { functions = own_row ∷ R; predicates = P }) e w a
          ≡ count S (record { functions = R; predicates = P }) e w (unfold_function n b a)
      function_formula P e w V truth h = refl
      function_formula P e w V falsity h = refl
      function_formula P e w V (pred p ts) h =
          λ i. headed S e (row P p) (function_terms e w V ts (takes (find F p)) h.1 i)
          (λ u. function_spread e w V u ts (takes (find F p)) h.1 i)
      function_formula P e w V (equal s t u) h = λ i. node S e (S.plus (function_term e w V t s h.1 i) (function_term e w V u s h.2 i))
      function_formula P e w V (both a c) h = λ i. node S e (S.plus (function_formula P e w V a h.0 i) (function_formula P e w V c h.1 i))
      function_formula P e w V (either a c) h = λ i. node S e (S.plus (function_formula P e w V a h.0 i) (function_formula P e w V c h.1 i))
      function_formula P e w V (implies a c) h =
          λ i. node S e (S.plus (function_formula P e w V a h.0 i) (function_formula P e w V c h.1 i))
      function_formula P e w V (all s x a) h = ap (node S e) (function_formula P e (bind e w) (s ∷ V) a h.1)
      function_formula P e w V (ex s x a) h = ap (node S e) (function_formula P e (bind e w) (s ∷ V) a h.1)

    -- ---- a predicate's row stands for its body put in

    module _ (F : List Declaration) (V : List (List ℕ)) (b : Formula) (h : WellFormed F V b) where
      put_formula : (T : Table) (ts : Terms) → length V ≡ many ts → (e : ℕ) (w : ℕ → ℕ) →
          S.plus (S.times e (count S T 1 nothing b)) (spread S T.functions e w (λ k. count S T 0 (only k) b) ts)
          ≡ count S T e w (replace (argument ts) b)
      put_formula T ts l e w =
          ap (S.plus (S.times e (count S T 1 nothing b))) (sym (sum_arguments S L (λ k. count S T 0 (only k) b) T.functions e w ts)) ∙
          ap (λ z. S.plus (S.times e (count S T 1 nothing b))
          (sum S z (λ k. count S T 0 (only k) b) (λ i. count_term S T.functions e w (argument ts i)))) (sym l) ∙
          sym (formula_linear S L T F V b h e (λ i. count_term S T.functions e w (argument ts i))) ∙ sym (substituted T e w (argument ts) b)

    module _ (F : List Declaration) (n : List ℕ) (ps : List Parameter) (b : Formula) (d : Put F (formula n ps b)) (T : Table) where
      abbrev with_row : Table
      with_row = record { functions = T.functions; predicates = formula_row S T n b ∷ T.predicates }

      predicate_formula : (e : ℕ) (w : ℕ → ℕ) (V : List (List ℕ)) (a : Formula) → WellFormed F V a
          → count S with_row e w a ≡ count S T e w (unfold_predicate n b a)
      predicate_formula e w V truth h = refl
      predicate_formula e w V falsity h = refl
      predicate_formula e w V (pred p ts) h = go (is_name n p) refl
        where
          go : (q : Bool) → is_name n p ≡ q →
              headed S e (if q then Some (formula_row S T n b) else row T.predicates p) (count_terms S T.functions e w ts)
              (λ u. spread S T.functions e w u ts) ≡ count S T e w (if q then replace (argument ts) b else pred p ts)
          go true q = let found : find F p ≡ Some (formula n ps b) = ap (find F) (sym (one_name n p q)) ∙ d.0 in
              put_formula F (bound ps) b d.1 T ts (sym (many_sorts F V ts ps (subst (λ o. HaveSorts F V ts (takes o)) found h.1))) e w
          go false q = refl
      predicate_formula e w V (equal s t u) h = refl
      predicate_formula e w V (both a c) h = λ i. node S e (S.plus (predicate_formula e w V a h.0 i) (predicate_formula e w V c h.1 i))
      predicate_formula e w V (either a c) h = λ i. node S e (S.plus (predicate_formula e w V a h.0 i) (predicate_formula e w V c h.1 i))
      predicate_formula e w V (implies a c) h = λ i. node S e (S.plus (predicate_formula e w V a h.0 i) (predicate_formula e w V c h.1 i))
      predicate_formula e w V (all s x a) h = ap (node S e) (predicate_formula e (bind e w) (s ∷ V) a h.1)
      predicate_formula e w V (ex s x a) h = ap (node S e) (predicate_formula e (bind e w) (s ∷ V) a h.1)

    -- ---- one declaration, then all

    module _ (F : List Declaration) where
      module _ (e : ℕ) (w : ℕ → ℕ) (V : List (List ℕ)) where
        row_term : (d : Declaration) → Put F d → (T : Table) (t : Term) (s : List ℕ) → HasSort F V t s →
            count_term S (Table.functions (add_row S d T)) e w t ≡ count_term S T.functions e w (expand_term d t)
        row_term (sort n) p T t s h = refl
        row_term (function n ss r) p T t s h = refl
        row_term (predicate n ss) p T t s h = refl
        row_term (stated n a) p T t s h = refl
        row_term (term n ps r b) p T t s h = function_term F n ps r b p T.functions e w V t s h
        row_term (formula n ps b) p T t s h = refl

        row_formula : (d : Declaration) → Put F d → (T : Table) (a : Formula) → WellFormed F V a →
            count S (add_row S d T) e w a ≡ count S T e w (expand d a)
        row_formula (sort n) p T a h = refl
        row_formula (function n ss r) p T a h = refl
        row_formula (predicate n ss) p T a h = refl
        row_formula (stated n b) p T a h = refl
        row_formula (term n ps r b) p T a h = function_formula F n ps r b p T.functions T.predicates e w V a h
        row_formula (formula n ps b) p T a h = predicate_formula F n ps b p T e w V a h

      pub rows_term : (E : List Declaration) → Puts F E → (e : ℕ) (w : ℕ → ℕ) (V : List (List ℕ)) (t : Term) (s : List ℕ)
          → HasSort F V t s → count_term S (Table.functions (table S E)) e w t ≡ count_term S [] e w (normal_term E t)
      rows_term [] p e w V t s h = refl
      rows_term (d ∷ E) p e w V t s h =
          row_term e w V d p.0 (table S E) t s h ∙ rows_term E p.1 e w V (expand_term d t) s (expand_sort F d p.0 V t s h)

      rows_formula : (E : List Declaration) → Puts F E → (e : ℕ) (w : ℕ → ℕ) (V : List (List ℕ)) (a : Formula) → WellFormed F V a →
          count S (table S E) e w a ≡ count S no_rows e w (normal E a)
      rows_formula [] p e w V a h = refl
      rows_formula (d ∷ E) p e w V a h =
          row_formula e w V d p.0 (table S E) a h ∙ rows_formula E p.1 e w V (expand d a) (expand_formed F d p.0 V a h)

-- ---- without rows the counts are the nodes and the height

mutual
  plain_term_nodes : (t : Term) → count_term by_nodes [] 1 each t ≡ term_nodes t
  plain_term_nodes (var i) = refl
  plain_term_nodes (app f ts) = node_by_nodes (count_terms by_nodes [] 1 each ts) ∙ ap (λ n. n + 1) (plain_terms_nodes ts)

  plain_terms_nodes : (ts : Terms) → count_terms by_nodes [] 1 each ts ≡ terms_nodes ts
  plain_terms_nodes nil = refl
  plain_terms_nodes (cons t ts) = λ i. plain_term_nodes t i + plain_terms_nodes ts i

mutual
  plain_term_height : (t : Term) → count_term by_height [] 1 each t ≡ term_height t
  plain_term_height (var i) = refl
  plain_term_height (app f ts) = node_by_height (count_terms by_height [] 1 each ts) ∙ ap (λ n. n + 1) (plain_terms_height ts)

  plain_terms_height : (ts : Terms) → count_terms by_height [] 1 each ts ≡ terms_height ts
  plain_terms_height nil = refl
  plain_terms_height (cons t ts) = λ i. max (plain_term_height t i) (plain_terms_height ts i)

bind_each_at : (i : ℕ) → bind 1 each i ≡ each i
bind_each_at zero = refl
bind_each_at (suc i) = refl

pub bind_each : bind 1 each ≡ each
bind_each = fun_ext bind_each_at

plain_nodes : (a : Formula) → count by_nodes no_rows 1 each a ≡ nodes a
plain_nodes truth = refl
plain_nodes falsity = refl
plain_nodes (pred p ts) = node_by_nodes (count_terms by_nodes [] 1 each ts) ∙ ap (λ n. n + 1) (plain_terms_nodes ts)
plain_nodes (equal s t u) =
    node_by_nodes (count_term by_nodes [] 1 each t + count_term by_nodes [] 1 each u)
    ∙ (λ i. plain_term_nodes t i + plain_term_nodes u i + 1)
plain_nodes (both a b) =
    node_by_nodes (count by_nodes no_rows 1 each a + count by_nodes no_rows 1 each b) ∙ (λ i. plain_nodes a i + plain_nodes b i + 1)
plain_nodes (either a b) =
    node_by_nodes (count by_nodes no_rows 1 each a + count by_nodes no_rows 1 each b) ∙ (λ i. plain_nodes a i + plain_nodes b i + 1)
plain_nodes (implies a b) =
    node_by_nodes (count by_nodes no_rows 1 each a + count by_nodes no_rows 1 each b) ∙ (λ i. plain_nodes a i + plain_nodes b i + 1)
plain_nodes (all s x a) =
    node_by_nodes (count by_nodes no_rows 1 (bind 1 each) a)
    ∙ ap (λ n. n + 1) (ap (λ w. count by_nodes no_rows 1 w a) bind_each ∙ plain_nodes a)
plain_nodes (ex s x a) =
    node_by_nodes (count by_nodes no_rows 1 (bind 1 each) a)
    ∙ ap (λ n. n + 1) (ap (λ w. count by_nodes no_rows 1 w a) bind_each ∙ plain_nodes a)

plain_height : (a : Formula) → count by_height no_rows 1 each a ≡ height a
plain_height truth = node_by_height 0
plain_height falsity = node_by_height 0
plain_height (pred p ts) = node_by_height (count_terms by_height [] 1 each ts) ∙ ap (λ n. n + 1) (plain_terms_height ts)
plain_height (equal s t u) =
    node_by_height (max (count_term by_height [] 1 each t) (count_term by_height [] 1 each u))
    ∙ (λ i. max (plain_term_height t i) (plain_term_height u i) + 1)
plain_height (both a b) =
    node_by_height (max (count by_height no_rows 1 each a) (count by_height no_rows 1 each b))
    ∙ (λ i. max (plain_height a i) (plain_height b i) + 1)
plain_height (either a b) =
    node_by_height (max (count by_height no_rows 1 each a) (count by_height no_rows 1 each b))
    ∙ (λ i. max (plain_height a i) (plain_height b i) + 1)
plain_height (implies a b) =
    node_by_height (max (count by_height no_rows 1 each a) (count by_height no_rows 1 each b))
    ∙ (λ i. max (plain_height a i) (plain_height b i) + 1)
plain_height (all s x a) =
    node_by_height (count by_height no_rows 1 (bind 1 each) a)
    ∙ ap (λ n. n + 1) (ap (λ w. count by_height no_rows 1 w a) bind_each ∙ plain_height a)
plain_height (ex s x a) =
    node_by_height (count by_height no_rows 1 (bind 1 each) a)
    ∙ ap (λ n. n + 1) (ap (λ w. count by_height no_rows 1 w a) bind_each ∙ plain_height a)

-- ---- the laws

pub term_nodes_counted : (E : List Declaration) → Environment E → (V : List (List ℕ)) (t : Term) (s : List ℕ) → HasSort E V t s
    → count_term by_nodes (Table.functions (table by_nodes E)) 1 each t ≡ term_nodes (normal_term E t)
term_nodes_counted E x V t s h = rows_term by_nodes nodes_laws E E (puts E x) 1 each V t s h ∙ plain_term_nodes (normal_term E t)

pub term_height_counted : (E : List Declaration) → Environment E → (V : List (List ℕ)) (t : Term) (s : List ℕ) → HasSort E V t s
    → count_term by_height (Table.functions (table by_height E)) 1 each t ≡ term_height (normal_term E t)
term_height_counted E x V t s h = rows_term by_height height_laws E E (puts E x) 1 each V t s h ∙ plain_term_height (normal_term E t)

pub nodes_counted : (E : List Declaration) → Environment E → (V : List (List ℕ)) (a : Formula) → WellFormed E V a
    → count by_nodes (table by_nodes E) 1 each a ≡ nodes (normal E a)
nodes_counted E x V a h = rows_formula by_nodes nodes_laws E E (puts E x) 1 each V a h ∙ plain_nodes (normal E a)

pub height_counted : (E : List Declaration) → Environment E → (V : List (List ℕ)) (a : Formula) → WellFormed E V a
    → count by_height (table by_height E) 1 each a ≡ height (normal E a)
height_counted E x V a h = rows_formula by_height height_laws E E (puts E x) 1 each V a h ∙ plain_height (normal E a)
