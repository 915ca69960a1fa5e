-- What a sentence declares has the sentence's name, and parameters with names of their own.
use Rattle.std.proofs.Common.{
  ◌≡◌,
  ℕ,
  Bool,
  true,
  false,
  List,
  [],
  ◌∷◌,
  ◌++◌,
  refl,
  sym,
  ap,
  subst,
  ◌∙◌,
  ◌||◌,
  Option,
  Some,
  None,
  Ok,
  true≢false,
}
use Rattle.vern_grammar.specs.Trees.{Name, Group, Expression, Shape, set, prop, arrow, plain}
use Rattle.fol_theory.specs.Syntax.{Formula, is_name}
use Rattle.env_theory.specs.Declarations.{Parameter, Declaration, function, predicate, stated, term, formula, name_of, find}
use Rattle.env_theory.specs.Typing.{Environment}
use Rattle.env_theory.specs.Orders.{IsNoParameter, AreDistinct, parameters, InOrder}
use Rattle.env_theory.proofs.SameNames.{own_name}
use Rattle.base_core.specs.Answers.{and_then}
use Rattle.elab_theory.specs.Faults.{already_declared}
use Rattle.elab_theory.specs.Locals.{known}
use Rattle.elab_theory.specs.Expressions.{span_of, sort_at, of_sort, term_of, formula_of}
use Rattle.elab_theory.specs.Sentences.{
  new_name,
  sorts_before,
  chain_of,
  Last,
  a_predicate,
  a_function,
  a_formula,
  last_of,
  shape_by,
  shape_of,
  is_among,
  new_names,
  names_of,
  with_sort,
  locals_of,
  parameters_of,
  defined_by,
  declaration_of,
  definition_of,
  statement_of,
}
use Rattle.elab_theory.proofs.Results.{ok_is, steps, failed}
use Rattle.elab_theory.proofs.Admitted.{new_name_is, declaration_admitted, definition_admitted, statement_admitted}

-- ---- names that are new, one after the other

-- each is none of those before it
abbrev Fresh : List (List ℕ) → List (List ℕ) → Type 0
Fresh ms [] = Unit {0}
Fresh ms (n ∷ ns) = (is_among n ms ≡ false) × Fresh (n ∷ ms) ns

new_fresh : (ms : List (List ℕ)) (xs : List Name) (ns : List (List ℕ)) → new_names ms xs ≡ Ok ns → Fresh ms ns
new_fresh ms [] ns e = subst (Fresh ms) (ok_is (List (List ℕ)) _ _ e) tt
new_fresh ms (x ∷ xs) ns e =
    let f = failed (is_among x.text ms) (and_then (new_names (x.text ∷ ms) xs) (λ rs. Ok (x.text ∷ rs))) (already_declared x.span) ns e in
    let j = steps (new_names (x.text ∷ ms) xs) (λ rs. Ok (x.text ∷ rs)) ns f.1 in
    subst (Fresh ms) (ok_is (List (List ℕ)) _ _ j.2) (f.0, new_fresh (x.text ∷ ms) xs j.0 j.1)

-- what is none of one list is none of another
abbrev Fewer : List (List ℕ) → List (List ℕ) → Type 0
Fewer ms ks = (n : List ℕ) → is_among n ms ≡ false → is_among n ks ≡ false

fewer_more : (m : List ℕ) (ms ks : List (List ℕ)) → Fewer ms ks → Fewer (m ∷ ms) (m ∷ ks)
fewer_more m ms ks f n = go (is_name n m)
  where
    go : (q : Bool) → (q || is_among n ms) ≡ false → (q || is_among n ks) ≡ false
    go true e = e
    go false e = f n e

fewer_one : (m : List ℕ) (ms : List (List ℕ)) → Fewer (m ∷ ms) ms
fewer_one m ms n = go (is_name n m)
  where
    go : (q : Bool) → (q || is_among n ms) ≡ false → is_among n ms ≡ false
    go true e = absurd (true≢false e)
    go false e = e

fresh_fewer : (ms ks ns : List (List ℕ)) → Fewer ms ks → Fresh ms ns → Fresh ks ns
fresh_fewer ms ks [] f h = tt
fresh_fewer ms ks (n ∷ ns) f h = (f n h.0, fresh_fewer (n ∷ ms) (n ∷ ks) ns (fewer_more n ms ks f) h.1)

among_here : (n : List ℕ) (ms : List (List ℕ)) → is_among n (n ∷ ms) ≡ true
among_here n ms = ap (λ q. q || is_among n ms) (own_name n)

among_more : (m n : List ℕ) (ms : List (List ℕ)) → is_among n ms ≡ true → is_among n (m ∷ ms) ≡ true
among_more m n ms h = go (is_name n m)
  where
    go : (q : Bool) → (q || is_among n ms) ≡ true
    go true = refl
    go false = h

-- ---- parameters

-- a name that was there before is none of the new ones
none_of : (s n : List ℕ) (ms ns : List (List ℕ)) → is_among n ms ≡ true → Fresh ms ns → IsNoParameter n (with_sort ns s)
none_of s n ms [] a f = tt
none_of s n ms (m ∷ ns) a f =
    (λ e. true≢false (sym a ∙ sym (ap (λ n. is_among n ms) e) ∙ f.0), none_of s n (m ∷ ms) ns (among_more m n ms a) f.1)

fresh_distinct : (s : List ℕ) (ms ns : List (List ℕ)) → Fresh ms ns → AreDistinct (with_sort ns s)
fresh_distinct s ms [] f = tt
fresh_distinct s ms (n ∷ ns) f = (none_of s n (n ∷ ms) ns (among_here n ms) f.1, fresh_distinct s (n ∷ ms) ns f.1)

none_joint : (n : List ℕ) (ps qs : List Parameter) → IsNoParameter n ps → IsNoParameter n qs → IsNoParameter n (ps ++ qs)
none_joint n [] qs h k = k
none_joint n (p ∷ ps) qs h k = (h.0, none_joint n ps qs h.1 k)

distinct_joint : (s : List ℕ) (ps : List Parameter) (ns : List (List ℕ)) → AreDistinct ps → Fresh (names_of ps) ns →
    AreDistinct (ps ++ with_sort ns s)
distinct_joint s [] ns h f = fresh_distinct s [] ns f
distinct_joint s (p ∷ ps) ns h f = (
  none_joint p.name ps (with_sort ns s) h.0 (none_of s p.name (p.name ∷ names_of ps) ns (among_here p.name (names_of ps)) f),
  distinct_joint s ps ns h.1 (fresh_fewer (p.name ∷ names_of ps) (names_of ps) ns (fewer_one p.name (names_of ps)) f),
)

parameters_distinct : (E : List Declaration) (gs : List Group) (ps qs : List Parameter) → AreDistinct ps → parameters_of E ps gs ≡ Ok qs →
    AreDistinct qs
parameters_distinct E [] ps qs h e = subst AreDistinct (ok_is (List Parameter) _ _ e) h
parameters_distinct E (g ∷ gs) ps qs h e =
    let j = steps (new_names (names_of ps) g.names) (λ ns. and_then (sort_at (known E (locals_of ps) g.sort.text) g.sort)
    (λ s. parameters_of E (ps ++ with_sort ns s) gs)) qs e in
    let k = steps (sort_at (known E (locals_of ps) g.sort.text) g.sort) (λ s. parameters_of E (ps ++ with_sort j.0 s) gs) qs j.2 in
    parameters_distinct E gs (ps ++ with_sort j.0 k.0) qs (distinct_joint k.0 ps j.0 h (new_fresh (names_of ps) g.names j.0 j.1)) k.2

-- ---- what is declared

-- it has the name, and its parameters have names of their own
abbrev IsOf : List ℕ → Declaration → Type 0
IsOf n d = (name_of d ≡ n) × AreDistinct (parameters d)

shape_by_of : (E : List Declaration) (n : List ℕ) (y : Shape) (l : Last) (d : Declaration) → shape_by E n y l ≡ Ok d → IsOf n d
shape_by_of E n y a_predicate d e = let j = steps (sorts_before E y) (λ ss. Ok (predicate n ss)) d e in
    subst (IsOf n) (ok_is Declaration _ _ j.2) (refl, tt)
shape_by_of E n y (a_function s) d e = let j = steps (sorts_before E y) (λ ss. Ok (function n ss s)) d e in
    subst (IsOf n) (ok_is Declaration _ _ j.2) (refl, tt)
shape_by_of E n y a_formula d e = let j = steps (chain_of E y) (λ a. Ok (stated n a)) d e in
    subst (IsOf n) (ok_is Declaration _ _ j.2) (refl, tt)

shape_is_of : (E : List Declaration) (n : List ℕ) (y : Shape) (d : Declaration) → shape_of E n y ≡ Ok d → IsOf n d
shape_is_of E n (set p) d e = subst (IsOf n) (ok_is Declaration _ _ e) (refl, tt)
shape_is_of E n (prop p) d e = shape_by_of E n (prop p) a_predicate d e
shape_is_of E n (arrow a y) d e = shape_by_of E n (arrow a y) (last_of E y) d e
shape_is_of E n (plain a) d e = shape_by_of E n (plain a) (last_of E (plain a)) d e

defined_is_of : (E : List Declaration) (n : List ℕ) (ps : List Parameter) → AreDistinct ps → (r : Option Name) (a : Expression)
    (d : Declaration) → defined_by E n ps r a ≡ Ok d → IsOf n d
defined_is_of E n ps h None a d e = let j = steps (formula_of E (locals_of ps) a) (λ b. Ok (formula n ps b)) d e in
    subst (IsOf n) (ok_is Declaration _ _ j.2) (refl, h)
defined_is_of E n ps h (Some r) a d e =
    let j = steps (sort_at (known E (locals_of ps) r.text) r)
    (λ s. and_then (and_then (term_of E (locals_of ps) a) (of_sort s (span_of a))) (λ b. Ok (term n ps s b))) d e in
    let k = steps (and_then (term_of E (locals_of ps) a) (of_sort j.0 (span_of a))) (λ b. Ok (term n ps j.0 b)) d j.2 in
    subst (IsOf n) (ok_is Declaration _ _ k.2) (refl, h)

pub declaration_is_of : (E : List Declaration) (x : Name) (y : Shape) (d : Declaration) → declaration_of E x y ≡ Ok d → IsOf x.text d
declaration_is_of E x y d e = let j = steps (new_name (find E x.text) x) (λ n. shape_of E n y) d e in
    subst (λ n. IsOf n d) (sym (new_name_is (find E x.text) x j.0 j.1).1) (shape_is_of E j.0 y d j.2)

pub definition_is_of : (E : List Declaration) (x : Name) (gs : List Group) (r : Option Name) (a : Expression) (d : Declaration) →
    definition_of E x gs r a ≡ Ok d → IsOf x.text d
definition_is_of E x gs r a d e = let j = steps (new_name (find E x.text) x) (λ n. and_then (parameters_of E [] gs)
    (λ ps. defined_by E n ps r a)) d e in
    let k = steps (parameters_of E [] gs) (λ ps. defined_by E j.0 ps r a) d j.2 in
    subst (λ n. IsOf n d) (sym (new_name_is (find E x.text) x j.0 j.1).1)
    (defined_is_of E j.0 k.0 (parameters_distinct E gs [] k.0 tt k.1) r a d k.2)

-- ---- environments in order

module _ (E : List Declaration) (o : InOrder E) (x : Name) (named : x.text ≡ [] → ⊥) where
  ordered : (d : Declaration) → IsOf x.text d → Environment (d ∷ E) → InOrder (d ∷ E)
  ordered d h k = (k, (λ e. named (sym h.0 ∙ e), h.1, o.1))

  pub declaration_ordered : (y : Shape) (d : Declaration) → declaration_of E x y ≡ Ok d → InOrder (d ∷ E)
  declaration_ordered y d e = ordered d (declaration_is_of E x y d e) (declaration_admitted E o.0 x y d e)

  pub definition_ordered : (gs : List Group) (r : Option Name) (a : Expression) (d : Declaration) → definition_of E x gs r a ≡ Ok d →
      InOrder (d ∷ E)
  definition_ordered gs r a d e = ordered d (definition_is_of E x gs r a d e) (definition_admitted E o.0 x gs r a d e)

  pub statement_ordered : (a : Expression) (b : Formula) → statement_of E x a ≡ Ok b → InOrder (stated x.text b ∷ E)
  statement_ordered a b e = ordered (stated x.text b) (refl, tt) (statement_admitted E o.0 x a b e)
