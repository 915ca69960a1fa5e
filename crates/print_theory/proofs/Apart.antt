-- Names of variables tell the variables, and the picked name of a binder keeps what stands apart apart.
use Rattle.std.proofs.Common.{
  ◌≡◌,
  ℕ,
  zero,
  suc,
  ◌<◌,
  ◌||◌,
  List,
  [],
  ◌∷◌,
  ◌++◌,
  length,
  Bool,
  true,
  false,
  Option,
  Some,
  None,
  if◌then◌else◌,
  refl,
  sym,
  ap,
  ◌∙◌,
  arith,
}
use Rattle.std.specs.Prelude.{nat_eq}
use Rattle.std.specs.Cmp.Lexicographic.{pointwise}
use Rattle.std.proofs.lemmas.Bool.{false≢true}
use Rattle.fol_theory.specs.Syntax.{Term, var, app, Terms, nil, cons, Formula, truth, falsity, pred, equal, both, either, implies, all, ex}
use Rattle.elab_theory.specs.Sentences.{is_among}
use Rattle.print_theory.specs.Names.{name_of, position, IsDistinct}
use Rattle.print_theory.specs.Printing.{bound_name}
use Rattle.print_theory.specs.Apart.{IsApart, IsApartTerm, AreApart, IsApartFormula}
use Rattle.print_theory.proofs.Picks.{same_name, other_name, not_in_first, not_in_second, picked_unused}

-- a name in its list is found
pub found : (xs : List (List ℕ)) (i : ℕ) → i < length xs → is_among (name_of xs i) xs ≡ true
found [] i l = absurd (omega (arith, l))
found (x ∷ xs) zero l = ap (λ t. t || is_among x xs) (same_name x)
found (x ∷ xs) (suc i) l = by (pointwise nat_eq (name_of xs i) x) (found xs i (omega (arith, l)))
  where
    by : (t : Bool) → is_among (name_of xs i) xs ≡ true → (t || is_among (name_of xs i) xs) ≡ true
    by true e = refl
    by false e = e

-- names that differ tell their variables
pub position_of : (xs : List (List ℕ)) (i : ℕ) → IsDistinct xs → i < length xs → position (name_of xs i) xs ≡ Some i
position_of [] i d l = absurd (omega (arith, l))
position_of (x ∷ xs) zero d l = ap (λ t. if t then Some 0 else elim (position x xs) [ None ↦ None | Some i ↦ Some (suc i) ]) (same_name x)
position_of (x ∷ xs) (suc i) d l =
    let there = found xs i (omega (arith, l)) in
    let off : pointwise nat_eq (name_of xs i) x ≡ false =
    other_name (name_of xs i) x (λ e. false≢true (sym d.0 ∙ ap (λ y. is_among y xs) (sym e) ∙ there)) in
    ap (λ t. if t then Some 0 else elim (position (name_of xs i) xs) [ None ↦ None | Some i ↦ Some (suc i) ]) off
    ∙ ap (λ o. elim o as (λ o. Option ℕ) [ None ↦ None | Some i ↦ Some (suc i) ]) (position_of xs i d.1 (omega (arith, l)))

-- and a name that is none of them tells none
pub no_position : (c : List ℕ) (xs : List (List ℕ)) → is_among c xs ≡ false → position c xs ≡ None
no_position c [] h = refl
no_position c (x ∷ xs) h = by (pointwise nat_eq c x) h (no_position c xs)
  where
    by : (t : Bool) → (t || is_among c xs) ≡ false → (is_among c xs ≡ false → position c xs ≡ None)
        → (if t then Some 0 else elim (position c xs) [ None ↦ None | Some i ↦ Some (suc i) ]) ≡ None
    by true e r = absurd (false≢true (sym e))
    by false e r = ap (λ o. elim o as (λ o. Option ℕ) [ None ↦ None | Some i ↦ Some (suc i) ]) (r e)

-- ---- under a binder

pub distinct_under : (names taken : List (List ℕ)) (x : List ℕ) → IsDistinct names → IsDistinct (bound_name names taken x ∷ names)
distinct_under names taken x d = (not_in_first (bound_name names taken x) names taken (picked_unused x (names ++ taken)), d)

-- A name that isn't taken may be one of the names more.
pub apart_more : (names taken : List (List ℕ)) (y c : List ℕ) → is_among y taken ≡ false → IsApart names taken c
    → IsApart (y ∷ names) taken c
apart_more names taken y c n h =
    let off : pointwise nat_eq c y ≡ false = other_name c y (λ e. false≢true (sym n ∙ ap (λ y. is_among y taken) (sym e) ∙ h.1)) in
    (ap (λ t. t || is_among c names) off ∙ h.0, h.1)

mutual
  pub term_apart_more : (names taken : List (List ℕ)) (y : List ℕ) (t : Term) → is_among y taken ≡ false → IsApartTerm names taken t
      → IsApartTerm (y ∷ names) taken t
  term_apart_more names taken y (var i) n h = tt
  term_apart_more names taken y (app f ts) n h = (apart_more names taken y f n h.0, terms_apart_more names taken y ts n h.1)

  pub terms_apart_more : (names taken : List (List ℕ)) (y : List ℕ) (ts : Terms) → is_among y taken ≡ false → AreApart names taken ts
      → AreApart (y ∷ names) taken ts
  terms_apart_more names taken y nil n h = tt
  terms_apart_more names taken y (cons t ts) n h = (term_apart_more names taken y t n h.0, terms_apart_more names taken y ts n h.1)

pub formula_apart_more : (names taken : List (List ℕ)) (y : List ℕ) (a : Formula) → is_among y taken ≡ false → IsApartFormula names taken a
    → IsApartFormula (y ∷ names) taken a
formula_apart_more names taken y truth n h = tt
formula_apart_more names taken y falsity n h = tt
formula_apart_more names taken y (pred p ts) n h = (apart_more names taken y p n h.0, terms_apart_more names taken y ts n h.1)
formula_apart_more names taken y (equal s t u) n h = (term_apart_more names taken y t n h.0, term_apart_more names taken y u n h.1)
formula_apart_more names taken y (both a b) n h = (formula_apart_more names taken y a n h.0, formula_apart_more names taken y b n h.1)
formula_apart_more names taken y (either a b) n h = (formula_apart_more names taken y a n h.0, formula_apart_more names taken y b n h.1)
formula_apart_more names taken y (implies a b) n h = (formula_apart_more names taken y a n h.0, formula_apart_more names taken y b n h.1)
formula_apart_more names taken y (all s x a) n h = (apart_more names taken y s n h.0, formula_apart_more names taken y a n h.1)
formula_apart_more names taken y (ex s x a) n h = (apart_more names taken y s n h.0, formula_apart_more names taken y a n h.1)

-- the picked name isn't taken
pub picked_free : (names taken : List (List ℕ)) (x : List ℕ) → is_among (bound_name names taken x) taken ≡ false
picked_free names taken x = not_in_second (bound_name names taken x) names taken (picked_unused x (names ++ taken))

pub apart_under : (names taken : List (List ℕ)) (x c : List ℕ) → IsApart names taken c → IsApart (bound_name names taken x ∷ names) taken c
apart_under names taken x c h = apart_more names taken (bound_name names taken x) c (picked_free names taken x) h

pub formula_apart_under : (names taken : List (List ℕ)) (x : List ℕ) (a : Formula) → IsApartFormula names taken a
    → IsApartFormula (bound_name names taken x ∷ names) taken a
formula_apart_under names taken x a h = formula_apart_more names taken (bound_name names taken x) a (picked_free names taken x) h
