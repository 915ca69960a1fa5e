-- What the summary that is found tells.
use Rattle.std.proofs.Common.{◌≡◌, ℕ, Bool, true, false, List, [], ◌∷◌, refl, sym, ap, subst, ◌∙◌, if◌then◌else◌, Option, Some, None}
use Rattle.std.proofs.Common.{option_map, Bor}
use Rattle.std.specs.Prelude.{MatchOption}
use Rattle.fol_theory.specs.Syntax.{is_name, Term, var}
use Rattle.env_theory.specs.Declarations.{Declaration, sort, function, predicate, stated, term, formula, name_of, find, bound}
use Rattle.term_core.specs.Term as terms
use Rattle.term_core.specs.Formula as formulas
use Rattle.env_theory.specs.Typing.{HasSort, Declares, Environment}
use Rattle.env_theory.specs.Normal.{normal_term}
use Rattle.env_theory.specs.Count.{Scale, Row, Table, by_nodes, by_height, row, table, term_row, formula_row}
use Rattle.env_theory.proofs.Keeps.{not_found}
use Rattle.env_theory.proofs.SameNames.{one_name}
use Rattle.env_theory.proofs.Declared.{declares_found}
use Rattle.env_theory.proofs.Skips.{normal_term_grown}
use Rattle.env_core.specs.declared.declaration.Decl.{Decl}
use Rattle.env_core.specs.declared.declaration.Decl.TheVariants.{Sort, Fun, Pred, Stated, DefFun, DefPred}
use Rattle.env_core.specs.declared.entry.Entry.{Entry}
use Rattle.env_core.specs.declared.summary.Summary.{Summary}
use Rattle.env_core.specs.Meaning.{declaration, declarations}
use Rattle.env_core.specs.Layers.{decls, decl_of, entry_name, found}
use Rattle.env_core.specs.Rows.{SameRow, nodes_row, height_row}
use Rattle.env_core.specs.Summaries.{Projects, TellsRow, TellsParameter, AreSummed, function_in, predicate_in, function_of, predicate_of}
use Rattle.env_core.proofs.Kept.{found_new, found_declaration}

module _ (S : Scale) where
  -- a name that finds nothing has no row
  no_function : (E : List Declaration) (n : List ℕ) → find E n ≡ None → row (Table.functions (table S E)) n ≡ None
  no_function [] n h = refl
  no_function (sort m ∷ E) n h = no_function E n (not_found (sort m) E n h).1
  no_function (function m ss s ∷ E) n h = no_function E n (not_found (function m ss s) E n h).1
  no_function (predicate m ss ∷ E) n h = no_function E n (not_found (predicate m ss) E n h).1
  no_function (stated m a ∷ E) n h = no_function E n (not_found (stated m a) E n h).1
  no_function (term m ps s b ∷ E) n h =
      let parts = not_found (term m ps s b) E n h in
      ap (λ q. if q then Some (term_row S (Table.functions (table S E)) m b) else row (Table.functions (table S E)) n) parts.0
      ∙ no_function E n parts.1
  no_function (formula m ps b ∷ E) n h = no_function E n (not_found (formula m ps b) E n h).1

  no_predicate : (E : List Declaration) (n : List ℕ) → find E n ≡ None → row (Table.predicates (table S E)) n ≡ None
  no_predicate [] n h = refl
  no_predicate (sort m ∷ E) n h = no_predicate E n (not_found (sort m) E n h).1
  no_predicate (function m ss s ∷ E) n h = no_predicate E n (not_found (function m ss s) E n h).1
  no_predicate (predicate m ss ∷ E) n h = no_predicate E n (not_found (predicate m ss) E n h).1
  no_predicate (stated m a ∷ E) n h = no_predicate E n (not_found (stated m a) E n h).1
  no_predicate (term m ps s b ∷ E) n h = no_predicate E n (not_found (term m ps s b) E n h).1
  no_predicate (formula m ps b ∷ E) n h =
      let parts = not_found (formula m ps b) E n h in
      ap (λ q. if q then Some (formula_row S (table S E) m b) else row (Table.predicates (table S E)) n) parts.0 ∙ no_predicate E n parts.1

-- each entry tells its row by one scale
abbrev AllTell : Scale → (Summary → Row) → List Entry → Type 0
AllTell S f [] = Unit {0}
AllTell S f (e ∷ es) = TellsRow S f (declarations (decls es)) (declaration e.decl) e.summary × AllTell S f es

by_both : (es : List Entry) → AreSummed es → AllTell by_nodes nodes_row es × AllTell by_height height_row es
by_both [] h = (tt, tt)
by_both (e ∷ es) h = let more = by_both es h.1 in ((h.0.0, more.0), (h.0.1, more.1))

-- ---- the function of a name

abbrev function_found : List Entry → List ℕ → Option Summary
function_found [] n = None
function_found (e ∷ es) n = if is_name (entry_name e) n then function_in e.decl e.summary else function_found es n

function_is : (es : List Entry) (n : List ℕ) → function_of (found es n) ≡ function_found es n
function_is [] n = refl
function_is (e ∷ es) n = go (is_name (entry_name e) n) (function_is es n)
  where
    go : (q : Bool) → function_of (found es n) ≡ function_found es n
        → function_of (if q then Some e else found es n) ≡ (if q then function_in e.decl e.summary else function_found es n)
    go true h = refl
    go false h = h

module _ (S : Scale) (f : Summary → Row) (E : List Declaration) (n : List ℕ) (o : Option Summary)
    (older : SameRow (option_map f o) (row (Table.functions (table S E)) n)) where
  function_other : (m : List ℕ) → find E m ≡ None → (x : Option Summary) → x ≡ None
      → SameRow (option_map f (if is_name m n then x else o)) (row (Table.functions (table S E)) n)
  function_other m new x none = go (is_name m n) refl
    where
      go : (q : Bool) → is_name m n ≡ q → SameRow (option_map f (if q then x else o)) (row (Table.functions (table S E)) n)
      go true t = subst (λ z. SameRow (option_map f z) (row (Table.functions (table S E)) n)) (sym none)
          (subst (λ z. SameRow None z) (sym (no_function S E n (subst (λ k. find E k ≡ None) (one_name m n t) new))) tt)
      go false t = older

  function_more : (d : Decl) (y : Summary) → find E (name_of (declaration d)) ≡ None → TellsRow S f E (declaration d) y
      → SameRow (option_map f (if is_name (name_of (declaration d)) n then function_in d y else o))
      (row (Table.functions (table S (declaration d ∷ E))) n)
  function_more (Sort m) y new h = function_other m new None refl
  function_more (Fun m ss s) y new h = function_other m new None refl
  function_more (Pred m ss) y new h = function_other m new None refl
  function_more (Stated m a) y new h = function_other m new None refl
  function_more (DefPred m ps b) y new h = function_other m new None refl
  function_more (DefFun m ps s b) y new h = go (is_name m n)
    where
      go : (q : Bool) → SameRow (option_map f (if q then Some y else o))
          (if q then Some (term_row S (Table.functions (table S E)) m (terms.meaning b)) else row (Table.functions (table S E)) n)
      go true = h
      go false = older

pub function_told : (S : Scale) (f : Summary → Row) (es : List Entry) → Environment (declarations (decls es)) → AllTell S f es
    → (n : List ℕ)
    → SameRow (option_map f (function_found es n)) (row (Table.functions (table S (declarations (decls es)))) n)
function_told S f [] x h n = tt
function_told S f (e ∷ es) x h n =
    function_more S f (declarations (decls es)) n (function_found es n) (function_told S f es x.2 h.1 n) e.decl e.summary x.0 h.0

-- ---- the predicate of a name

abbrev predicate_found : List Entry → List ℕ → Option Summary
predicate_found [] n = None
predicate_found (e ∷ es) n = if is_name (entry_name e) n then predicate_in e.decl e.summary else predicate_found es n

predicate_is : (es : List Entry) (n : List ℕ) → predicate_of (found es n) ≡ predicate_found es n
predicate_is [] n = refl
predicate_is (e ∷ es) n = go (is_name (entry_name e) n) (predicate_is es n)
  where
    go : (q : Bool) → predicate_of (found es n) ≡ predicate_found es n
        → predicate_of (if q then Some e else found es n) ≡ (if q then predicate_in e.decl e.summary else predicate_found es n)
    go true h = refl
    go false h = h

module _ (S : Scale) (f : Summary → Row) (E : List Declaration) (n : List ℕ) (o : Option Summary)
    (older : SameRow (option_map f o) (row (Table.predicates (table S E)) n)) where
  predicate_other : (m : List ℕ) → find E m ≡ None → (x : Option Summary) → x ≡ None
      → SameRow (option_map f (if is_name m n then x else o)) (row (Table.predicates (table S E)) n)
  predicate_other m new x none = go (is_name m n) refl
    where
      go : (q : Bool) → is_name m n ≡ q → SameRow (option_map f (if q then x else o)) (row (Table.predicates (table S E)) n)
      go true t = subst (λ z. SameRow (option_map f z) (row (Table.predicates (table S E)) n)) (sym none)
          (subst (λ z. SameRow None z) (sym (no_predicate S E n (subst (λ k. find E k ≡ None) (one_name m n t) new))) tt)
      go false t = older

  predicate_more : (d : Decl) (y : Summary) → find E (name_of (declaration d)) ≡ None → TellsRow S f E (declaration d) y
      → SameRow (option_map f (if is_name (name_of (declaration d)) n then predicate_in d y else o))
      (row (Table.predicates (table S (declaration d ∷ E))) n)
  predicate_more (Sort m) y new h = predicate_other m new None refl
  predicate_more (Fun m ss s) y new h = predicate_other m new None refl
  predicate_more (Pred m ss) y new h = predicate_other m new None refl
  predicate_more (Stated m a) y new h = predicate_other m new None refl
  predicate_more (DefFun m ps s b) y new h = predicate_other m new None refl
  predicate_more (DefPred m ps b) y new h = go (is_name m n)
    where
      go : (q : Bool) → SameRow (option_map f (if q then Some y else o))
          (if q then Some (formula_row S (table S E) m (formulas.meaning b)) else row (Table.predicates (table S E)) n)
      go true = h
      go false = older

pub predicate_told : (S : Scale) (f : Summary → Row) (es : List Entry) → Environment (declarations (decls es)) → AllTell S f es
    → (n : List ℕ)
    → SameRow (option_map f (predicate_found es n)) (row (Table.predicates (table S (declarations (decls es)))) n)
predicate_told S f [] x h n = tt
predicate_told S f (e ∷ es) x h n =
    predicate_more S f (declarations (decls es)) n (predicate_found es n) (predicate_told S f es x.2 h.1 n) e.decl e.summary x.0 h.0

-- ---- as the code has it

through : {A B C : Type 0} (f : A → B) (g : B → C) (o : Option A) → option_map g (option_map f o) ≡ option_map (λ x. g (f x)) o
through f g None = refl
through f g (Some x) = refl

module _ (es : List Entry) (E : List Decl) (known : decls es ≡ E) (x : Environment (declarations (decls es))) (h : AreSummed es)
    (n : List ℕ)
    (r : Option (Bor Summary)) where
  told_by : (S : Scale) (f : Summary → Row) (o : Option Summary) (R : Table → List Row) → option_map (λ s. s.now) r ≡ o
      → SameRow (option_map f o) (row (R (table S (declarations (decls es)))) n)
      → SameRow (option_map (λ s. f s.now) r) (row (R (table S (declarations E))) n)
  told_by S f o R e k = subst (λ z. SameRow z (row (R (table S (declarations E))) n)) (ap (option_map f) (sym e) ∙ through (λ s. s.now) f r)
      (subst (λ ds. SameRow (option_map f o) (row (R (table S (declarations ds))) n)) known k)

  pub function_nodes : option_map (λ s. s.now) r ≡ function_of (found es n)
      → SameRow (option_map (λ s. nodes_row s.now) r) (row (Table.functions (table by_nodes (declarations E))) n)
  function_nodes e = told_by by_nodes nodes_row (function_found es n) Table.functions (e ∙ function_is es n)
      (function_told by_nodes nodes_row es x (by_both es h).0 n)

  pub function_height : option_map (λ s. s.now) r ≡ function_of (found es n)
      → SameRow (option_map (λ s. height_row s.now) r) (row (Table.functions (table by_height (declarations E))) n)
  function_height e = told_by by_height height_row (function_found es n) Table.functions (e ∙ function_is es n)
      (function_told by_height height_row es x (by_both es h).1 n)

  pub predicate_nodes : option_map (λ s. s.now) r ≡ predicate_of (found es n)
      → SameRow (option_map (λ s. nodes_row s.now) r) (row (Table.predicates (table by_nodes (declarations E))) n)
  predicate_nodes e = told_by by_nodes nodes_row (predicate_found es n) Table.predicates (e ∙ predicate_is es n)
      (predicate_told by_nodes nodes_row es x (by_both es h).0 n)

  pub predicate_height : option_map (λ s. s.now) r ≡ predicate_of (found es n)
      → SameRow (option_map (λ s. height_row s.now) r) (row (Table.predicates (table by_height (declarations E))) n)
  predicate_height e = told_by by_height height_row (predicate_found es n) Table.predicates (e ∙ predicate_is es n)
      (predicate_told by_height height_row es x (by_both es h).1 n)

-- ---- which parameter a definition projects to

projects_more : (e : Declaration) (E : List Declaration) → Environment (e ∷ E) → (d : Declaration) (y : Summary) → Declares E d
    → TellsParameter E d y → TellsParameter (e ∷ E) d y
projects_more e E x (sort m) y w h = tt
projects_more e E x (function m ss s) y w h = tt
projects_more e E x (predicate m ss) y w h = tt
projects_more e E x (stated m a) y w h = tt
projects_more e E x (term m ps s b) y w h =
    let same : normal_term (e ∷ E) b ≡ normal_term E b = normal_term_grown (e ∷ []) E x (bound ps) b s w.2 in
    subst (λ z. MatchOption y.projects ((i : ℕ) → z ≡ var i → ⊥) (λ i. z ≡ var i)) (sym same) h
projects_more e E x (formula m ps b) y w h = tt

pub parameter_found : (es : List Entry) → Environment (declarations (decls es)) → AreSummed es → (n : List ℕ) (e : Entry)
    → found es n ≡ Some e
    → TellsParameter (declarations (decls es)) (declaration e.decl) e.summary
parameter_found [] x h n e k = absurd (impossible k)
  where
    impossible : None ≡ Some e → ⊥
    impossible k = cc
parameter_found (a ∷ es) x h n e k = go (is_name (entry_name a) n) k (parameter_found es x.2 h.1 n e)
  where
    E : List Declaration
    E = declarations (decls es)

    go : (q : Bool) → (if q then Some a else found es n) ≡ Some e
        → (found es n ≡ Some e → TellsParameter E (declaration e.decl) e.summary)
        → TellsParameter (declaration a.decl ∷ E) (declaration e.decl) e.summary
    go true q older = let same : a ≡ e = cc in
        subst (λ z. TellsParameter (declaration a.decl ∷ E) (declaration z.decl) z.summary) same
        (projects_more (declaration a.decl) E x (declaration a.decl) a.summary x.1 h.0.2)
    go false q older = projects_more (declaration a.decl) E x (declaration e.decl) e.summary
        (declares_found E x.2 n (declaration e.decl) (sym (found_declaration es n)
        ∙ ap (option_map (λ z. declaration (decl_of z))) q)) (older q)

-- the definition that is found
pub definition_told : {X : Type 0} (es : List Entry) (E : List Decl) → decls es ≡ E → Environment (declarations (decls es)) → AreSummed es
    → (n : List ℕ) (e : Entry) → found es n ≡ Some e → (f : X → Term) (g : X → Option ℕ) (r : Option X)
    → MatchOption r (Unit {0}) (λ d. (F : List Declaration) → TellsParameter F (declaration e.decl) e.summary → Projects F (f d) (g d))
    → MatchOption r (Unit {0}) (λ d. Projects (declarations E) (f d) (g d))
definition_told es E known x h n e k f g None m = tt
definition_told es E known x h n e k f g (Some d) m =
    subst (λ ds. Projects (declarations ds) (f d) (g d)) known (m (declarations (decls es)) (parameter_found es x h n e k))
