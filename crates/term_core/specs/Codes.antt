-- How the logic stores slots: each has a code of its own.
use Rattle.std.specs.Prelude.{◌≡◌, ℕ, List, refl}
use Rattle.std.specs.Coded.{Coded, coded_ℕ, coded_list}
use Rattle.std.proofs.Common.{ap}
use base.Stored.{Gv, gnil, gnum, gcons}
use Rattle.fol_theory.specs.Syntax.{
  Term,
  Terms,
  var,
  app,
  nil,
  cons,
  Formula,
  truth,
  falsity,
  pred,
  equal,
  both,
  either,
  implies,
  all,
  ex,
}
use Rattle.fol_theory.specs.Contexts.{Entry, variable, hypothesis}
use Rattle.fol_theory.specs.Slots.{Slot}

abbrev head : Gv → Gv
head gnil = gnil
head (gnum n) = gnil
head (gcons a b) = a

abbrev tail : Gv → Gv
tail gnil = gnil
tail (gnum n) = gnil
tail (gcons a b) = b

abbrev name : Coded (List ℕ)
name = coded_list coded_ℕ

abbrev mutual
  term_code : Term → Gv
  term_code (var j) = gcons (gnum 0) (gnum j)
  term_code (app f ts) = gcons (gnum 1) (gcons (name.code f) (terms_code ts))

  terms_code : Terms → Gv
  terms_code nil = gnil
  terms_code (cons t ts) = gcons (term_code t) (terms_code ts)

mutual
  term_inj : (x y : Term) → term_code x ≡ term_code y → x ≡ y
  term_inj (var i) (var j) p = cc
  term_inj (app f xs) (app g ys) p =
      λ i. app (name.inj f g (ap (λ v. head (tail v)) p) i) (terms_inj xs ys (ap (λ v. tail (tail v)) p) i)
  term_inj x y p = cc

  terms_inj : (x y : Terms) → terms_code x ≡ terms_code y → x ≡ y
  terms_inj nil nil p = refl
  terms_inj (cons x xs) (cons y ys) p = λ i. cons (term_inj x y (ap head p) i) (terms_inj xs ys (ap tail p) i)
  terms_inj x y p = cc

abbrev formula_code : Formula → Gv
formula_code truth = gnum 0
formula_code falsity = gnum 1
formula_code (pred p ts) = gcons (gnum 2) (gcons (name.code p) (terms_code ts))
formula_code (equal s a b) = gcons (gnum 3) (gcons (name.code s) (gcons (term_code a) (term_code b)))
formula_code (both a b) = gcons (gnum 4) (gcons (formula_code a) (formula_code b))
formula_code (either a b) = gcons (gnum 5) (gcons (formula_code a) (formula_code b))
formula_code (implies a b) = gcons (gnum 6) (gcons (formula_code a) (formula_code b))
formula_code (all s x a) = gcons (gnum 7) (gcons (name.code s) (gcons (name.code x) (formula_code a)))
formula_code (ex s x a) = gcons (gnum 8) (gcons (name.code s) (gcons (name.code x) (formula_code a)))

formula_inj : (x y : Formula) → formula_code x ≡ formula_code y → x ≡ y
formula_inj truth truth p = refl
formula_inj falsity falsity p = refl
formula_inj (pred f xs) (pred g ys) p =
    λ i. pred (name.inj f g (ap (λ v. head (tail v)) p) i) (terms_inj xs ys (ap (λ v. tail (tail v)) p) i)
formula_inj (equal s a b) (equal z c d) p = λ i. equal (name.inj s z (ap (λ v. head (tail v)) p) i)
    (term_inj a c (ap (λ v. head (tail (tail v))) p) i) (term_inj b d (ap (λ v. tail (tail (tail v))) p) i)
formula_inj (both a b) (both c d) p =
    λ i. both (formula_inj a c (ap (λ v. head (tail v)) p) i) (formula_inj b d (ap (λ v. tail (tail v)) p) i)
formula_inj (either a b) (either c d) p =
    λ i. either (formula_inj a c (ap (λ v. head (tail v)) p) i) (formula_inj b d (ap (λ v. tail (tail v)) p) i)
formula_inj (implies a b) (implies c d) p =
    λ i. implies (formula_inj a c (ap (λ v. head (tail v)) p) i) (formula_inj b d (ap (λ v. tail (tail v)) p) i)
formula_inj (all s x a) (all z y b) p = λ i. all (name.inj s z (ap (λ v. head (tail v)) p) i)
    (name.inj x y (ap (λ v. head (tail (tail v))) p) i) (formula_inj a b (ap (λ v. tail (tail (tail v))) p) i)
formula_inj (ex s x a) (ex z y b) p = λ i. ex (name.inj s z (ap (λ v. head (tail v)) p) i)
    (name.inj x y (ap (λ v. head (tail (tail v))) p) i) (formula_inj a b (ap (λ v. tail (tail (tail v))) p) i)
formula_inj x y p = cc

abbrev entry_code : Entry → Gv
entry_code (variable s) = gcons (gnum 0) (name.code s)
entry_code (hypothesis a) = gcons (gnum 1) (formula_code a)

entry_inj : (x y : Entry) → entry_code x ≡ entry_code y → x ≡ y
entry_inj (variable s) (variable z) p = λ i. variable (name.inj s z (ap tail p) i)
entry_inj (hypothesis a) (hypothesis b) p = λ i. hypothesis (formula_inj a b (ap tail p) i)
entry_inj x y p = cc

abbrev slot_code : Slot → Gv
slot_code x = gcons (name.code x.name) (entry_code x.entry)

pub slot_inj : (x y : Slot) → slot_code x ≡ slot_code y → x ≡ y
slot_inj x y p = λ i. record { name = name.inj x.name y.name (ap head p) i; entry = entry_inj x.entry y.entry (ap tail p) i }

abbrev pub coded_slots : Coded (List Slot)
coded_slots = coded_list (record { code = slot_code; inj = slot_inj })
