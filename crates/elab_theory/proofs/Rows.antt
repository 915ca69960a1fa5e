-- Sentences over a small environment, computed.
use Rattle.std.proofs.Common.{◌≡◌, ℕ, true, List, [], ◌∷◌, refl, None, Ok, Err}
use Rattle.std.specs.Prelude.{codes}
use Rattle.vern_lex.specs.declared.span.Span.{Span}
use Rattle.vern_grammar.specs.Trees.{
  Operator,
  implication,
  equation,
  Name,
  Group,
  Expression,
  constant,
  application,
  binary,
  negation,
  quantified,
  Expressions,
  Shape,
  arrow,
  plain,
  set,
  prop,
}
use Rattle.vern_grammar.specs.Trees as tree
use Rattle.fol_theory.specs.Syntax.{var, app, nil, cons, Formula, pred, equal, implies, all}
use Rattle.env_theory.specs.Declarations.{Declaration, sort, function, predicate, stated, formula}
use Rattle.env_theory.specs.Normal.{normal}
use Rattle.env_theory.specs.Count.{by_nodes, by_height, counts}
use Rattle.elab_theory.specs.Faults.{unknown_name, wrong_kind, wrong_arity, already_declared}
use Rattle.elab_theory.specs.Sentences.{declaration_of, definition_of}

abbrev T : List ℕ
T = codes "T"

abbrev f : List ℕ
f = codes "f"

abbrev A : List ℕ
A = codes "A"

abbrev d : List ℕ
d = codes "d"

abbrev q : List ℕ
q = codes "q"

abbrev at : ℕ → ℕ → Span
at m n = record { from = m; to = n }

abbrev name : List ℕ → ℕ → ℕ → Name
name x m n = record { text = x; span = at m n }

abbrev alone : List ℕ → ℕ → ℕ → Expression
alone x m n = application (name x m n) tree.nil (at m n)

abbrev applied : List ℕ → Expression → ℕ → ℕ → ℕ → Expression
applied x a m n p = application (name x m n) (tree.cons a tree.nil) (at m p)

-- Parameter T : Set. Parameter f : T -> T. Parameter A : Prop.
abbrev three : List Declaration
three = predicate A [] ∷ function f (T ∷ []) T ∷ sort T ∷ []

made_three : (declaration_of (function f (T ∷ []) T ∷ sort T ∷ []) (name A 10 11) (prop (at 14 18)) ≡ Ok (predicate A [])) ×
    (declaration_of (sort T ∷ []) (name f 10 11) (arrow (alone T 14 15) (plain (alone T 19 20))) ≡ Ok (function f (T ∷ []) T))
made_three = (refl, refl)

-- Definition d (x : T) : Prop := f x = x.
abbrev x : List ℕ
x = codes "x"

abbrev four : List Declaration
four = formula d (record { name = x; sort = T } ∷ []) (equal T (app f (cons (var 0) nil)) (var 0)) ∷ three

made_four : definition_of three (name d 11 12) (record { names = name x 14 15 ∷ []; sort = name T 18 19 } ∷ []) None
    (binary equation (applied f (alone x 33 34) 31 32 34) (alone x 37 38) (at 31 38))
    ≡ Ok (formula d (record { name = x; sort = T } ∷ []) (equal T (app f (cons (var 0) nil)) (var 0)))
made_four = refl

-- Axiom q : forall x : T, d x -> A.
abbrev written : Formula
written = all T x (implies (pred d (cons (var 0) nil)) (pred A nil))

good : declaration_of four (name q 6 7) (plain (quantified true (record { names = name x 17 18 ∷ []; sort = name T 21 22 } ∷ [])
    (binary implication (applied d (alone x 26 27) 24 25 27) (alone A 31 32) (at 24 32)) (at 10 32))) ≡ Ok (stated q written)
good = refl

its_normal_form : normal four written ≡ all T x (implies (equal T (app f (cons (var 0) nil)) (var 0)) (pred A nil))
its_normal_form = refl

counted : (counts by_nodes four written ≡ 7) × (counts by_height four written ≡ 5)
counted = (refl, refl)

-- Axiom r : forall x : T, d A -> A.
wrong_kind_at : declaration_of four (name (codes "r") 6 7)
    (plain (quantified true (record { names = name x 17 18 ∷ []; sort = name T 21 22 } ∷ [])
    (binary implication (applied d (alone A 26 27) 24 25 27) (alone A 31 32) (at 24 32)) (at 10 32))) ≡ Err (wrong_kind (at 26 27))
wrong_kind_at = refl

-- Axiom s : f = f.
wrong_arity_at : declaration_of four (name (codes "s") 6 7) (plain (binary equation (alone f 10 11) (alone f 14 15) (at 10 15)))
    ≡ Err (wrong_arity (at 10 11))
wrong_arity_at = refl

-- Axiom f : A.
already_declared_at : declaration_of four (name f 6 7) (plain (alone A 10 11)) ≡ Err (already_declared (at 6 7))
already_declared_at = refl

-- Axiom g : T -> Set. The part before is asked as a formula first.
set_behind_arrow : declaration_of four (name (codes "g") 6 7) (arrow (alone T 10 11) (set (at 15 18))) ≡ Err (wrong_kind (at 10 11))
set_behind_arrow = refl

-- Axiom g : zz -> T.
unknown_part : declaration_of four (name (codes "g") 6 7) (arrow (alone (codes "zz") 10 12) (plain (alone T 16 17)))
    ≡ Err (unknown_name (at 10 12))
unknown_part = refl
