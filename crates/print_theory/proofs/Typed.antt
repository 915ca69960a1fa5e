-- The tree of a printed formula is typed as the formula, printing names aside.
use Rattle.std.proofs.Common.{
  ◌≡◌,
  ℕ,
  zero,
  suc,
  ◌<◌,
  ◌||◌,
  List,
  [],
  ◌∷◌,
  ◌++◌,
  length,
  Bool,
  true,
  false,
  Option,
  Some,
  None,
  Result,
  Ok,
  Err,
  if◌then◌else◌,
  ◌==◌,
  refl,
  sym,
  ap,
  ◌∙◌,
  arith,
}
use Rattle.std.proofs.lemmas.Bool.{false≢true}
use Rattle.std.proofs.lemmas.Bool.Decides.{nat_tests}
use Rattle.vern_lex.specs.Tokens.{tokens_of}
use Rattle.vern_grammar.specs.Trees.{Expression}
use Rattle.vern_grammar.specs.Trees as made
use Rattle.vern_grammar.specs.Kinds.{lexemes}
use Rattle.vern_grammar.specs.Grammar.{group}
use Rattle.vern_grammar.proofs.Laws.{one_expression}
use Rattle.fol_theory.specs.Syntax.{
  Term,
  var,
  app,
  Terms,
  nil,
  cons,
  Formula,
  truth,
  falsity,
  pred,
  equal,
  both,
  either,
  implies,
  all,
  ex,
  is_name,
}
use Rattle.fol_theory.specs.Printing.{unnamed, Alike}
use Rattle.env_theory.specs.Declarations.{Declaration, sort, function, predicate, stated, term, formula, find, sorts_of}
use Rattle.env_theory.specs.Typing.{At, IsSort, Gives, IsPredicate, takes, HasSort, HaveSorts, WellFormed}
use Rattle.base_core.specs.Answers.{and_then}
use Rattle.elab_theory.specs.Faults.{Fault, wrong_sort, wrong_arity}
use Rattle.elab_theory.specs.Locals.{
  Local,
  variable,
  hypothesis,
  sorts_in,
  bound,
  assumed,
  known,
  declared_or_not,
  farther,
}
use Rattle.elab_theory.specs.Expressions.{
  span_of,
  how_many,
  sort_at,
  arguments_at,
  term_at,
  formula_at,
  of_sort,
  term_of,
  terms_of,
  equation_of,
  quantifier,
  under_names,
  over_groups,
  formula_of,
}
use Rattle.elab_theory.specs.Sentences.{is_among}
use Rattle.print_theory.specs.Names.{name_of}
use Rattle.print_theory.specs.Printing.{bound_name}
use Rattle.print_theory.specs.Spelling.{formula_text, term_text}
use Rattle.print_theory.specs.Reading.{IsShown, IsShownTerm}
use Rattle.print_theory.specs.Trees.{nowhere, word, spanless, term_tree, terms_tree, bound_tree, formula_tree}
use Rattle.print_theory.specs.Apart.{IsApart, IsApartTerm, AreApart, IsApartFormula}
use Rattle.print_theory.specs.Typed.{variables_in, local_names, AreSeen, IsPlaced, IsPlacedTerm, AreDeclaredApart, IsTypedAs, IsTermTypedAs}
use Rattle.print_theory.proofs.Picks.{same_name, other_name, or_left, not_in_first, picked_unused}
use Rattle.print_theory.proofs.Apart.{found, picked_free, formula_apart_more}
use Rattle.print_theory.proofs.Laws.{formula_reads, term_reads}
use Rattle.print_theory.proofs.Spans.{same_ok, term_spanless, formula_spanless}

-- ---- what names stand for

at_within : (c : List Local) (i : ℕ) (s : List ℕ) → At (sorts_in c) i s → i < length (variables_in c)
at_within [] i s h = absurd h
at_within (variable x r ∷ c) zero s h = omega arith
at_within (variable x r ∷ c) (suc i) s h = omega (arith, at_within c i s h)
at_within (hypothesis x ∷ c) i s h = at_within c i s h

-- a name that isn't among the names differs from one of them
unlike : (x : List ℕ) (xs : List (List ℕ)) (n : List ℕ) → is_among x xs ≡ false → is_among n xs ≡ true → is_name x n ≡ false
unlike x xs n h there = other_name x n (λ e. false≢true (sym h ∙ ap (λ y. is_among y xs) e ∙ there))

-- where no variable is hidden, each is found by its name
known_variable : (E : List Declaration) (c : List Local) (i : ℕ) (s : List ℕ) → AreSeen c → At (sorts_in c) i s
    → known E c (name_of (variables_in c) i) ≡ bound i s
known_variable E [] i s h w = absurd w
known_variable E (variable x r ∷ c) zero s h w =
    ap (λ q. if q then bound 0 r else farther (known E c x)) (same_name x) ∙ ap (bound 0) w
known_variable E (variable x r ∷ c) (suc i) s h w =
    let n = name_of (variables_in c) i in
    ap (λ q. if q then bound 0 r else farther (known E c n))
    (unlike x (variables_in c) n h.0 (found (variables_in c) i (at_within c i s w)))
    ∙ ap farther (known_variable E c i s h.1 w)
known_variable E (hypothesis x ∷ c) i s h w =
    let n = name_of (variables_in c) i in
    ap (λ q. if q then assumed else known E c n) (unlike x (variables_in c) n h.0 (found (variables_in c) i (at_within c i s w)))
    ∙ known_variable E c i s h.1 w

farther_declared : (o : Option Declaration) → farther (declared_or_not o) ≡ declared_or_not o
farther_declared None = refl
farther_declared (Some d) = refl

not_this : (n x : List ℕ) (q : Bool) → (is_name n x || q) ≡ false → is_name x n ≡ false
not_this n x q h = other_name x n (λ e. false≢true (sym (or_left (is_name n x) q h) ∙ ap (is_name n) e ∙ same_name n))

not_others : (t q : Bool) → (t || q) ≡ false → q ≡ false
not_others true q e = absurd (false≢true (sym e))
not_others false q e = e

-- a name that no local has is what is declared
known_declared : (E : List Declaration) (c : List Local) (n : List ℕ) → is_among n (local_names c) ≡ false
    → known E c n ≡ declared_or_not (find E n)
known_declared E [] n h = refl
known_declared E (variable x s ∷ c) n h =
    ap (λ q. if q then bound 0 s else farther (known E c n)) (not_this n x (is_among n (local_names c)) h)
    ∙ ap farther (known_declared E c n (not_others (is_name n x) (is_among n (local_names c)) h)) ∙ farther_declared (find E n)
known_declared E (hypothesis x ∷ c) n h =
    ap (λ q. if q then assumed else known E c n) (not_this n x (is_among n (local_names c)) h)
    ∙ known_declared E c n (not_others (is_name n x) (is_among n (local_names c)) h)

-- ---- applications

even : (n : ℕ) → (n == n) ≡ true
even n = grind (arith, nat_tests)

-- an application: its name, how many arguments, what is looked at with sorts for them, and what comes of it
module _ (f : List ℕ) (n : ℕ) (ts : List (List ℕ) → Result Terms Fault) (us : Terms) where
  -- with as many arguments as there are sorts, they are what is looked at
  arguments_go : (ss : List (List ℕ)) → n ≡ length ss → ts ss ≡ Ok us → arguments_at n ss (word f) ts ≡ Ok us
  arguments_go ss e h =
      ap (λ m. if m == length ss then ts ss else Err (wrong_arity nowhere)) e
      ∙ ap (λ q. if q then ts ss else Err (wrong_arity nowhere)) (even (length ss)) ∙ h

  term_goes : (o : Option Declaration) (s : List ℕ) → Gives o s → n ≡ length (takes o) → ts (takes o) ≡ Ok us
      → term_at (declared_or_not o) (word f) n ts ≡ Ok (app f us, s)
  term_goes None s g e h = absurd g
  term_goes (Some (sort m)) s g e h = absurd g
  term_goes (Some (function m ss r)) s g e h =
      ap (λ a. and_then a (λ us. Ok (app f us, r))) (arguments_go ss e h) ∙ ap (λ r. Ok (app f us, r)) g
  term_goes (Some (predicate m ss)) s g e h = absurd g
  term_goes (Some (stated m a)) s g e h = absurd g
  term_goes (Some (term m ps r b)) s g e h =
      ap (λ a. and_then a (λ us. Ok (app f us, r))) (arguments_go (sorts_of ps) e h) ∙ ap (λ r. Ok (app f us, r)) g
  term_goes (Some (formula m ps b)) s g e h = absurd g

  formula_goes : (o : Option Declaration) → IsPredicate o → n ≡ length (takes o) → ts (takes o) ≡ Ok us
      → formula_at (declared_or_not o) (word f) n ts ≡ Ok (pred f us)
  formula_goes None g e h = absurd g
  formula_goes (Some (sort m)) g e h = absurd g
  formula_goes (Some (function m ss r)) g e h = absurd g
  formula_goes (Some (predicate m ss)) g e h = ap (λ a. and_then a (λ us. Ok (pred f us))) (arguments_go ss e h)
  formula_goes (Some (stated m a)) g e h = absurd g
  formula_goes (Some (term m ps r b)) g e h = absurd g
  formula_goes (Some (formula m ps b)) g e h =
      ap (λ a. and_then a (λ us. Ok (pred f us))) (arguments_go (sorts_of ps) e h)

sort_goes : (o : Option Declaration) (s : List ℕ) → IsSort o → sort_at (declared_or_not o) (word s) ≡ Ok s
sort_goes None s g = absurd g
sort_goes (Some (sort m)) s g = refl
sort_goes (Some (function m ss r)) s g = absurd g
sort_goes (Some (predicate m ss)) s g = absurd g
sort_goes (Some (stated m a)) s g = absurd g
sort_goes (Some (term m ps r b)) s g = absurd g
sort_goes (Some (formula m ps b)) s g = absurd g

-- ---- terms

as_many : (E : List Declaration) (V xs : List (List ℕ)) (ts : Terms) (ss : List (List ℕ)) → HaveSorts E V ts ss
    → how_many (terms_tree xs ts) ≡ length ss
as_many E V xs nil [] w = refl
as_many E V xs nil (s ∷ ss) w = absurd w
as_many E V xs (cons t ts) [] w = absurd w
as_many E V xs (cons t ts) (s ∷ ss) w = ap suc (as_many E V xs ts ss w.1)

module _ (E : List Declaration) (c : List Local) (taken : List (List ℕ)) (d : AreSeen c) where
  mutual
    term_typed : (t : Term) (s : List ℕ)
        → IsApartTerm (local_names c) taken t → HasSort E (sorts_in c) t s → term_of E c (term_tree (variables_in c) t) ≡ Ok (t, s)
    term_typed (var i) s h w =
        ap (λ k. term_at k (word (name_of (variables_in c) i)) 0 (λ ss. terms_of E c made.nil ss)) (known_variable E c i s d w)
    term_typed (app f ts) s h w =
        ap (λ k. term_at k (word f) (how_many (terms_tree (variables_in c) ts)) (λ ss. terms_of E c (terms_tree (variables_in c) ts) ss))
        (known_declared E c f h.0.0)
        ∙ term_goes f (how_many (terms_tree (variables_in c) ts)) (λ ss. terms_of E c (terms_tree (variables_in c) ts) ss) ts
        (find E f) s w.0 (as_many E (sorts_in c) (variables_in c) ts (takes (find E f)) w.1)
        (terms_typed ts (takes (find E f)) h.1 w.1)

    terms_typed : (ts : Terms) (ss : List (List ℕ))
        → AreApart (local_names c) taken ts → HaveSorts E (sorts_in c) ts ss → terms_of E c (terms_tree (variables_in c) ts) ss ≡ Ok ts
    terms_typed nil ss h w = refl
    terms_typed (cons t ts) [] h w = absurd w
    terms_typed (cons t ts) (s ∷ ss) h w =
        let p = span_of (term_tree (variables_in c) t) in
        let rest = terms_of E c (terms_tree (variables_in c) ts) ss in
        ap (λ r. and_then (and_then r (of_sort s p)) (λ t. and_then rest (λ ts. Ok (cons t ts)))) (term_typed t s h.0 w.0)
        ∙ ap (λ q. and_then (if q then Ok t else Err (wrong_sort p)) (λ t. and_then rest (λ ts. Ok (cons t ts)))) (same_name s)
        ∙ ap (λ r. and_then r (λ ts. Ok (cons t ts))) (terms_typed ts ss h.1 w.1)

  equation_typed : (s : List ℕ) (t u : Term)
      → IsApartTerm (local_names c) taken t → IsApartTerm (local_names c) taken u → HasSort E (sorts_in c) t s → HasSort E (sorts_in c) u s
      → and_then (term_of E c (term_tree (variables_in c) t)) (λ v. and_then (term_of E c (term_tree (variables_in c) u))
      (λ w. equation_of (span_of (term_tree (variables_in c) u)) v w)) ≡ Ok (equal s t u)
  equation_typed s t u h k v w =
      let p = span_of (term_tree (variables_in c) u) in
      let right = term_of E c (term_tree (variables_in c) u) in
      ap (λ r. and_then r (λ v. and_then right (λ w. equation_of p v w))) (term_typed t s h v)
      ∙ ap (λ r. and_then r (λ w. equation_of p (t, s) w)) (term_typed u s k w)
      ∙ ap (λ q. and_then (if q then Ok u else Err (wrong_sort p)) (λ v. Ok (equal s t v))) (same_name s)

-- ---- formulas

-- a formula that is this one but for printing names
record Back (r : Result Formula Fault) (a : Formula) : Type 0 where
  pub formula : Formula
  pub is : r ≡ Ok formula
  pub alike : Alike formula a

back : (r : Result Formula Fault) (a b : Formula) → r ≡ Ok b → Alike b a → Back r a
back r a b e k = record { formula = b; is = e; alike = k }

joined_back : (f : Formula → Formula → Formula) (r q : Result Formula Fault) (a b : Formula)
    → ((c d : Formula) → Alike c a → Alike d b → Alike (f c d) (f a b)) → Back r a → Back q b
    → Back (and_then r (λ x. and_then q (λ y. Ok (f x y)))) (f a b)
joined_back f r q a b h i j =
    back (and_then r (λ x. and_then q (λ y. Ok (f x y)))) (f a b) (f (Back.formula i) (Back.formula j))
    (ap (λ r. and_then r (λ x. and_then q (λ y. Ok (f x y)))) (Back.is i)
    ∙ ap (λ q. and_then q (λ y. Ok (f (Back.formula i) y))) (Back.is j))
    (h (Back.formula i) (Back.formula j) (Back.alike i) (Back.alike j))

-- a sort that no local hides
module _ (E : List Declaration) (c : List Local) (s : List ℕ) (h : is_among s (local_names c) ≡ false) (w : IsSort (find E s)) where
  bound_back : (q : Bool) (x y : List ℕ) (r : Expression) (a : Formula)
      → ((b : Formula) → Alike b a → Alike (quantifier q s y b) (quantifier q s x a)) → Back (formula_of E (variable y s ∷ c) r) a
      → Back (formula_of E c (bound_tree q y s r)) (quantifier q s x a)
  bound_back q x y r a k i =
      let gs = group (word y ∷ []) (word s) ∷ [] in
      let b = Back.formula i in
      back (formula_of E c (bound_tree q y s r)) (quantifier q s x a) (quantifier q s y b)
      (ap (λ k. and_then (and_then (sort_at k (word s)) (λ s. Ok (under_names s (word y ∷ []) c)))
      (λ d. and_then (formula_of E d r) (λ b. Ok (over_groups q gs b)))) (known_declared E c s h)
      ∙ ap (λ z. and_then (and_then z (λ s. Ok (under_names s (word y ∷ []) c)))
      (λ d. and_then (formula_of E d r) (λ b. Ok (over_groups q gs b)))) (sort_goes (find E s) s w)
      ∙ ap (λ z. and_then z (λ b. Ok (over_groups q gs b))) (Back.is i))
      (k b (Back.alike i))

-- under a binder no variable is hidden
seen_under : (c : List Local) (taken : List (List ℕ)) (x s : List ℕ) → AreSeen c
    → AreSeen (variable (bound_name (variables_in c) taken x) s ∷ c)
seen_under c taken x s d =
    (not_in_first (bound_name (variables_in c) taken x) (variables_in c) taken (picked_unused x (variables_in c ++ taken)), d)

formula_typed : (E : List Declaration) (taken : List (List ℕ)) (a : Formula) (c : List Local) → AreSeen c
    → IsApartFormula (local_names c) taken a → WellFormed E (sorts_in c) a → Back (formula_of E c (formula_tree (variables_in c) taken a)) a
formula_typed E taken truth c d h w = back (Ok truth) truth truth refl refl
formula_typed E taken falsity c d h w = back (Ok falsity) falsity falsity refl refl
formula_typed E taken (pred p ts) c d h w =
    let ys = terms_tree (variables_in c) ts in
    back (formula_of E c (formula_tree (variables_in c) taken (pred p ts))) (pred p ts) (pred p ts)
    (ap (λ k. formula_at k (word p) (how_many ys) (λ ss. terms_of E c ys ss)) (known_declared E c p h.0.0)
    ∙ formula_goes p (how_many ys) (λ ss. terms_of E c ys ss) ts (find E p) w.0
    (as_many E (sorts_in c) (variables_in c) ts (takes (find E p)) w.1) (terms_typed E c taken d ts (takes (find E p)) h.1 w.1))
    refl
formula_typed E taken (equal s t u) c d h w =
    back (formula_of E c (formula_tree (variables_in c) taken (equal s t u))) (equal s t u) (equal s t u)
    (equation_typed E c taken d s t u h.0 h.1 w.1 w.2) refl
formula_typed E taken (both a b) c d h w =
    joined_back both (formula_of E c (formula_tree (variables_in c) taken a)) (formula_of E c (formula_tree (variables_in c) taken b)) a b
    (λ e f i j t. both (i t) (j t)) (formula_typed E taken a c d h.0 w.0) (formula_typed E taken b c d h.1 w.1)
formula_typed E taken (either a b) c d h w =
    joined_back either (formula_of E c (formula_tree (variables_in c) taken a)) (formula_of E c (formula_tree (variables_in c) taken b)) a b
    (λ e f i j t. either (i t) (j t)) (formula_typed E taken a c d h.0 w.0) (formula_typed E taken b c d h.1 w.1)
formula_typed E taken (implies a b) c d h w =
    joined_back implies (formula_of E c (formula_tree (variables_in c) taken a))
    (formula_of E c (formula_tree (variables_in c) taken b)) a b
    (λ e f i j t. implies (i t) (j t)) (formula_typed E taken a c d h.0 w.0) (formula_typed E taken b c d h.1 w.1)
formula_typed E taken (all s x a) c d h w =
    let y = bound_name (variables_in c) taken x in
    bound_back E c s h.0.0 w.0 true x y (formula_tree (y ∷ variables_in c) taken a) a (λ b i t. all s [] (i t))
    (formula_typed E taken a (variable y s ∷ c) (seen_under c taken x s d)
    (formula_apart_more (local_names c) taken y a (picked_free (variables_in c) taken x) h.1) w.1)
formula_typed E taken (ex s x a) c d h w =
    let y = bound_name (variables_in c) taken x in
    bound_back E c s h.0.0 w.0 false x y (formula_tree (y ∷ variables_in c) taken a) a (λ b i t. ex s [] (i t))
    (formula_typed E taken a (variable y s ∷ c) (seen_under c taken x s d)
    (formula_apart_more (local_names c) taken y a (picked_free (variables_in c) taken x) h.1) w.1)

-- ---- texts

pub formula_is_typed : (E : List Declaration) (c : List Local) (names taken : List (List ℕ)) (a : Formula) → IsShown names a
    → IsPlaced E c names taken a → IsTypedAs E c (formula_text names taken a) a
formula_is_typed E c names taken a s p =
    let (t, e, is) = formula_reads names taken a (IsShown.free s) (IsShown.printable s) (IsShown.openings s) in
    let b = formula_typed E taken a c (IsPlaced.seen p) (IsPlaced.apart p) (IsPlaced.formed p) in
    let r : formula_of E c (spanless t) ≡ Ok (Back.formula b) =
    ap (formula_of E c) is ∙ ap (λ xs. formula_of E c (formula_tree xs taken a)) (sym (IsPlaced.named p)) ∙ Back.is b in
    let same = same_ok (formula_of E c (spanless t)) (formula_of E c t) (Back.formula b) (formula_spanless E t c) r in
    (t, Back.formula b, e, same, Back.alike b)

pub term_is_typed : (E : List Declaration) (c : List Local) (names taken : List (List ℕ)) (u : Term) (s : List ℕ) → IsShownTerm names u
    → IsPlacedTerm E c names taken u s → IsTermTypedAs E c (term_text names u) u s
term_is_typed E c names taken u s h p =
    let (t, e, is) = term_reads names u (IsShownTerm.free h) (IsShownTerm.printable h) (IsShownTerm.openings h) in
    let r : term_of E c (spanless t) ≡ Ok (u, s) =
    ap (term_of E c) is ∙ ap (λ xs. term_of E c (term_tree xs u)) (sym (IsPlacedTerm.named p))
    ∙ term_typed E c taken (IsPlacedTerm.seen p) u s (IsPlacedTerm.apart p) (IsPlacedTerm.formed p) in
    (t, e, same_ok (term_of E c (spanless t)) (term_of E c t) (u, s) (term_spanless E c t) r)

-- ---- one text of two formulas

ok_one : (x y : Formula) → Path (Result Formula Fault) (Ok x) (Ok y) → x ≡ y
ok_one x y e = cc

pub typed_once : (E : List Declaration) (c : List Local) (text : List ℕ) (a b : Formula) → IsTypedAs E c text a → IsTypedAs E c text b
    → Alike a b
typed_once E c text a b (t, x, e, i, k) (u, y, f, j, m) =
    let same : t ≡ u = one_expression (lexemes text (tokens_of text)) t u e f in
    let one : x ≡ y = ok_one x y (sym i ∙ ap (formula_of E c) same ∙ j) in
    sym k ∙ ap unnamed one ∙ m

-- ---- where each declared name stands apart, each name of a well formed formula does

module _ (E : List Declaration) (c : List Local) (taken : List (List ℕ)) (h : AreDeclaredApart E c taken) where
  gives_some : (f s : List ℕ) (o : Option Declaration) → find E f ≡ o → Gives o s → IsApart (local_names c) taken f
  gives_some f s None e g = absurd g
  gives_some f s (Some d) e g = h f d e

  predicate_some : (f : List ℕ) (o : Option Declaration) → find E f ≡ o → IsPredicate o → IsApart (local_names c) taken f
  predicate_some f None e g = absurd g
  predicate_some f (Some d) e g = h f d e

  sort_some : (f : List ℕ) (o : Option Declaration) → find E f ≡ o → IsSort o → IsApart (local_names c) taken f
  sort_some f None e g = absurd g
  sort_some f (Some d) e g = h f d e

  mutual
    pub term_stands_apart : (t : Term) (V : List (List ℕ)) (s : List ℕ) → HasSort E V t s → IsApartTerm (local_names c) taken t
    term_stands_apart (var i) V s w = tt
    term_stands_apart (app f ts) V s w =
        (gives_some f s (find E f) refl w.0, terms_stand_apart ts V (takes (find E f)) w.1)

    terms_stand_apart : (ts : Terms) (V ss : List (List ℕ)) → HaveSorts E V ts ss → AreApart (local_names c) taken ts
    terms_stand_apart nil V ss w = tt
    terms_stand_apart (cons t ts) V [] w = absurd w
    terms_stand_apart (cons t ts) V (s ∷ ss) w = (term_stands_apart t V s w.0, terms_stand_apart ts V ss w.1)

  pub formula_stands_apart : (a : Formula) (V : List (List ℕ)) → WellFormed E V a → IsApartFormula (local_names c) taken a
  formula_stands_apart truth V w = tt
  formula_stands_apart falsity V w = tt
  formula_stands_apart (pred p ts) V w = (predicate_some p (find E p) refl w.0, terms_stand_apart ts V (takes (find E p)) w.1)
  formula_stands_apart (equal s t u) V w = (term_stands_apart t V s w.1, term_stands_apart u V s w.2)
  formula_stands_apart (both a b) V w = (formula_stands_apart a V w.0, formula_stands_apart b V w.1)
  formula_stands_apart (either a b) V w = (formula_stands_apart a V w.0, formula_stands_apart b V w.1)
  formula_stands_apart (implies a b) V w = (formula_stands_apart a V w.0, formula_stands_apart b V w.1)
  formula_stands_apart (all s x a) V w = (sort_some s (find E s) refl w.0, formula_stands_apart a (s ∷ V) w.1)
  formula_stands_apart (ex s x a) V w = (sort_some s (find E s) refl w.0, formula_stands_apart a (s ∷ V) w.1)
