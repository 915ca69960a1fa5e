-- What a sentence declares or begins, or the first fault.
use Rattle.std.specs.Prelude.{ℕ, Bool, List, [], ◌∷◌, ◌++◌, if◌then◌else◌, Option, Some, None, Result, Ok, Err}
use Rattle.std.specs.List.{list_any}
use Rattle.vern_grammar.specs.Trees.{
  Name,
  Group,
  Expression,
  constant,
  application,
  binary,
  negation,
  quantified,
  Expressions,
  Shape,
  set,
  prop,
  arrow,
  plain,
}
use Rattle.vern_grammar.specs.Trees as tree
use Rattle.fol_theory.specs.Syntax.{Formula, implies, is_name}
use Rattle.env_theory.specs.Declarations.{Parameter, Declaration, sort, function, predicate, stated, term, formula, find}
use Rattle.base_core.specs.Answers.{and_then}
use Rattle.elab_theory.specs.Faults.{Fault, wrong_kind, already_declared}
use Rattle.elab_theory.specs.Locals.{Local, variable, known}
use Rattle.elab_theory.specs.Expressions.{span_of, sort_at, of_sort, term_of, formula_of}

-- a name that isn't declared yet
abbrev pub new_name : Option Declaration → Name → Result (List ℕ) Fault
new_name None x = Ok x.text
new_name (Some d) x = Err (already_declared x.span)

-- ---- shapes

-- a bare name of a sort, where a sort has to stand
abbrev pub sort_part : List Declaration → Expression → Result (List ℕ) Fault
sort_part E (constant b p) = Err (wrong_kind p)
sort_part E (application x tree.nil p) = sort_at (known E [] x.text) x
sort_part E (application x (tree.cons y ys) p) = Err (wrong_kind p)
sort_part E (binary op a b p) = Err (wrong_kind p)
sort_part E (negation a p) = Err (wrong_kind p)
sort_part E (quantified q gs a p) = Err (wrong_kind p)

-- the parts of a chain before its last, each a sort
abbrev pub sorts_before : List Declaration → Shape → Result (List (List ℕ)) Fault
sorts_before E (set p) = Ok []
sorts_before E (prop p) = Ok []
sorts_before E (arrow a x) = and_then (sort_part E a) (λ s. and_then (sorts_before E x) (λ ss. Ok (s ∷ ss)))
sorts_before E (plain a) = Ok []

-- the whole chain as a formula
abbrev pub chain_of : List Declaration → Shape → Result Formula Fault
chain_of E (set p) = Err (wrong_kind p)
chain_of E (prop p) = Err (wrong_kind p)
chain_of E (arrow a x) = and_then (formula_of E [] a) (λ u. and_then (chain_of E x) (λ v. Ok (implies u v)))
chain_of E (plain a) = formula_of E [] a

-- what the last part of a chain makes of it
pub data Last : Type 0 where
  a_predicate : Last
  a_function : List ℕ → Last
  a_formula : Last

-- a sort makes a function, anything else a formula
abbrev pub sort_or_not : Result (List ℕ) Fault → Last
sort_or_not (Ok s) = a_function s
sort_or_not (Err e) = a_formula

-- what the last part of a chain is
abbrev pub last_of : List Declaration → Shape → Last
last_of E (set p) = a_formula
last_of E (prop p) = a_predicate
last_of E (arrow a x) = last_of E x
last_of E (plain a) = sort_or_not (sort_part E a)

-- a declaration by what its last part is
abbrev pub shape_by : List Declaration → List ℕ → Shape → Last → Result Declaration Fault
shape_by E n x a_predicate = and_then (sorts_before E x) (λ ss. Ok (predicate n ss))
shape_by E n x (a_function s) = and_then (sorts_before E x) (λ ss. Ok (function n ss s))
shape_by E n x a_formula = and_then (chain_of E x) (λ a. Ok (stated n a))

-- the declaration of a name with a shape
abbrev pub shape_of : List Declaration → List ℕ → Shape → Result Declaration Fault
shape_of E n (set p) = Ok (sort n)
shape_of E n (prop p) = shape_by E n (prop p) a_predicate
shape_of E n (arrow a x) = shape_by E n (arrow a x) (last_of E x)
shape_of E n (plain a) = shape_by E n (plain a) (last_of E (plain a))

-- ---- definitions

-- whether a name is among others
abbrev pub is_among : List ℕ → List (List ℕ) → Bool
is_among n ms = list_any (is_name n) ms

-- the names of a group, each new among those before it
abbrev pub new_names : List (List ℕ) → List Name → Result (List (List ℕ)) Fault
new_names ms [] = Ok []
new_names ms (x ∷ xs) = if is_among x.text ms then Err (already_declared x.span) else and_then (new_names (x.text ∷ ms) xs)
    (λ ns. Ok (x.text ∷ ns))

-- the names of parameters
abbrev pub names_of : List Parameter → List (List ℕ)
names_of [] = []
names_of (p ∷ ps) = p.name ∷ names_of ps

-- parameters of one sort
abbrev pub with_sort : List (List ℕ) → List ℕ → List Parameter
with_sort [] s = []
with_sort (n ∷ ns) s = record { name = n; sort = s } ∷ with_sort ns s

-- parameters as locals, the newest first
abbrev pub locals_of : List Parameter → List Local
locals_of [] = []
locals_of (p ∷ ps) = locals_of ps ++ (variable p.name p.sort ∷ [])

-- the parameters that groups add to others
abbrev pub parameters_of : List Declaration → List Parameter → List Group → Result (List Parameter) Fault
parameters_of E ps [] = Ok ps
parameters_of E ps (g ∷ gs) = and_then (new_names (names_of ps) g.names)
    (λ ns. and_then (sort_at (known E (locals_of ps) g.sort.text) g.sort) (λ s. parameters_of E (ps ++ with_sort ns s) gs))

-- the body, of the sort that is written or a formula
abbrev pub defined_by : List Declaration → List ℕ → List Parameter → Option Name → Expression → Result Declaration Fault
defined_by E n ps None a = and_then (formula_of E (locals_of ps) a) (λ b. Ok (formula n ps b))
defined_by E n ps (Some r) a = and_then (sort_at (known E (locals_of ps) r.text) r)
    (λ s. and_then (and_then (term_of E (locals_of ps) a) (of_sort s (span_of a))) (λ b. Ok (term n ps s b)))

-- ---- sentences

-- the declaration of a sentence Parameter or Axiom
abbrev pub declaration_of : List Declaration → Name → Shape → Result Declaration Fault
declaration_of E x y = and_then (new_name (find E x.text) x) (λ n. shape_of E n y)

-- the declaration of a definition
abbrev pub definition_of : List Declaration → Name → List Group → Option Name → Expression → Result Declaration Fault
definition_of E x gs r a = and_then (new_name (find E x.text) x) (λ n. and_then (parameters_of E [] gs) (λ ps. defined_by E n ps r a))

-- the statement of a lemma
abbrev pub statement_of : List Declaration → Name → Expression → Result Formula Fault
statement_of E x a = and_then (new_name (find E x.text) x) (λ n. formula_of E [] a)
