-- What matching computes: the substitutions that extend what is known before and make the pattern the target are
-- those that extend what is known after.
use Rattle.std.proofs.Common.{
  ◌≡◌,
  ◌↔◌,
  ◌<◌,
  ◌≤◌,
  ℕ,
  zero,
  suc,
  ◌+◌,
  ◌-◌,
  Bool,
  true,
  false,
  if◌then◌else◌,
  nat_lt,
  List,
  [],
  ◌∷◌,
  length,
  Option,
  Some,
  None,
  Decides,
  refl,
  sym,
  ap,
  ◌∙◌,
  arith,
  true≢false,
}
use Rattle.std.specs.Cmp.Lexicographic.{bytes_decides}
use Rattle.std.proofs.lemmas.Bool.Decides.{nat_tests}
use Rattle.fol_theory.specs.Syntax.{
  Term,
  var,
  app,
  Terms,
  nil,
  cons,
  Formula,
  truth,
  falsity,
  pred,
  equal,
  both,
  either,
  implies,
  all,
  ex,
  is_name,
}
use Rattle.fol_theory.specs.Substitution.{replace_term, replace_terms, replace, next, lift, shift_term}
use Rattle.fol_theory.specs.Printing.{unnamed}
use Rattle.fol_theory.proofs.AtIndex.{raise_large, next_raise, shift_none_term, shift_once_more}
use Rattle.match_theory.specs.Matching.{and_then, same_term, lower, give, match_var, match_term, match_terms, match_formula}
use Rattle.match_theory.proofs.Equal.{term_decides, lower_is, lower_shifted}

-- ---- a substitution under b binders

abbrev pub lifts : ℕ → (ℕ → Term) → ℕ → Term
lifts zero σ = σ
lifts (suc b) σ = lift (lifts b σ)

pub lifts_small : (b : ℕ) (σ : ℕ → Term) (i : ℕ) → i < b → lifts b σ i ≡ var i
lifts_small zero σ i h = absurd (omega (arith, h))
lifts_small (suc b) σ zero h = refl
lifts_small (suc b) σ (suc i) h = ap (replace_term next) (lifts_small b σ i (omega (arith, h)))

pub lifts_large : (b : ℕ) (σ : ℕ → Term) (i : ℕ) → b ≤ i → lifts b σ i ≡ shift_term 0 b (σ (i - b))
lifts_large zero σ i h = ap σ (omega arith) ∙ sym (shift_none_term 0 (σ (i - 0)))
lifts_large (suc b) σ zero h = absurd (omega (arith, h))
lifts_large (suc b) σ (suc i) h =
    ap (replace_term next) (lifts_large b σ i (omega (arith, h)))
    ∙ ap (λ ρ. replace_term ρ (shift_term 0 b (σ (i - b)))) next_raise
    ∙ shift_once_more b (σ (i - b))
    ∙ (λ k. shift_term 0 (one b k) (σ (less i b k)))
  where
    one : (b : ℕ) → b + 1 ≡ suc b
    one b = omega arith

    less : (i b : ℕ) → i - b ≡ suc i - suc b
    less i b = omega arith

-- ---- substitutions and what is known of them

-- beyond the n open variables it lowers
abbrev pub Lowers : ℕ → (ℕ → Term) → Type 0
Lowers n σ = (i : ℕ) → n ≤ i → σ i ≡ var (i - n)

-- the term that is known, if any, is this
abbrev pub Has : Option Term → Term → Type 0
Has None t = Unit {0}
Has (Some u) t = u ≡ t

abbrev pub Agrees : List (Option Term) → (ℕ → Term) → Type 0
Agrees [] σ = Unit {0}
Agrees (x ∷ m) σ = Has x (σ zero) × Agrees m (λ i. σ (suc i))

-- what is known of n variables is true of the substitution
abbrev pub Fits : ℕ → List (Option Term) → (ℕ → Term) → Type 0
Fits n m σ = (length m ≡ n) × Agrees m σ

-- it is known that there is none, or what is known is true of it
abbrev pub Solves : ℕ → Option (List (Option Term)) → (ℕ → Term) → Type 0
Solves n None σ = ⊥
Solves n (Some m) σ = Fits n m σ

-- one step behind another
pub chain : {X Y : Type 0} (n : ℕ) (σ : ℕ → Term) (o : Option (List (Option Term))) (k : List (Option Term) →
    Option (List (Option Term))) → (X ↔ Solves n o σ) → ((m : List (Option Term)) → (Fits n m σ × Y) ↔ Solves n (k m) σ) →
    (X × Y) ↔ Solves n (and_then o k) σ
chain n σ None k f g = (λ h. absurd (f.0 h.0), λ h. absurd h)
chain n σ (Some m) k f g = (λ h. (g m).0 (f.0 h.0, h.1), λ h. let r = (g m).1 h in (f.1 r.0, r.1))

-- a test that decides what is left
pub tested : {P : Type 0} (n : ℕ) (σ : ℕ → Term) (m : List (Option Term)) (r : Bool) → Decides r P → (Fits n m σ × P) ↔
    Solves n (if r then Some m else None) σ
tested n σ m true d = (λ h. h.0, λ h. (h, d.0 refl))
tested n σ m false d = (λ h. absurd (true≢false (sym (d.1 h.1))), λ h. absurd h)

-- a test, and then a step
pub tested_then : {X Y P : Type 0} (n : ℕ) (σ : ℕ → Term) (o : Option (List (Option Term))) (r : Bool) → Decides r P →
    ((X × Y) ↔ Solves n o σ) → (X × (P × Y)) ↔ Solves n (if r then o else None) σ
tested_then n σ o true d f = (λ h. f.0 (h.0, h.1.1), λ h. let r = f.1 h in (r.0, (d.0 refl, r.1)))
tested_then n σ o false d f = (λ h. absurd (true≢false (sym (d.1 h.1.0))), λ h. absurd h)

-- the same, said in another way
pub said : {X Y Z S : Type 0} → (Y → Z) → (Z → Y) → (X × Z) ↔ S → (X × Y) ↔ S
said f g h = (λ p. h.0 (p.0, f p.1), λ s. let r = h.1 s in (r.0, g r.1))

-- nothing is the one side, and nothing the other
pub never : {X Y : Type 0} (n : ℕ) (σ : ℕ → Term) → (Y → ⊥) → (X × Y) ↔ Solves n None σ
never n σ f = (λ h. f h.1, λ h. absurd h)

-- ---- giving a term to an open variable

given_here : (n : ℕ) (t : Term) (x : Option Term) (m : List (Option Term)) (σ : ℕ → Term) → (Fits n (x ∷ m) σ × (σ zero ≡ t)) ↔
    Solves n (give zero t (x ∷ m)) σ
given_here n t None m σ = (λ h. (h.0.0, (sym h.1, h.0.1.1)), λ h. ((h.0, (tt, h.1.1)), sym h.1.0))
given_here n t (Some u) m σ = go (same_term u t) (term_decides u t)
  where
    go : (r : Bool) → Decides r (u ≡ t) → (Fits n (Some u ∷ m) σ × (σ zero ≡ t)) ↔ Solves n (if r then Some (Some u ∷ m) else None) σ
    go true d = (λ h. h.0, λ h. (h, sym h.1.0 ∙ d.0 refl))
    go false d = (λ h. absurd (true≢false (sym (d.1 (h.0.1.0 ∙ h.1)))), λ h. absurd h)

given_later : (n : ℕ) (x : Option Term) (m : List (Option Term)) (σ : ℕ → Term) (o : Option (List (Option Term))) {Y : Type 0} →
    ((Fits n m (λ i. σ (suc i)) × Y) ↔ Solves n o (λ i. σ (suc i))) → (Fits (suc n) (x ∷ m) σ × Y) ↔
    Solves (suc n) (and_then o (λ k. Some (x ∷ k))) σ
given_later n x m σ None f = (λ h. f.0 ((omega (arith, h.0.0), h.0.1.1), h.1), λ h. absurd h)
given_later n x m σ (Some k) f = (
  λ h. let r = f.0 ((omega (arith, h.0.0), h.0.1.1), h.1) in
      (omega (arith, r.0), (h.0.1.0, r.1)),
  λ h. let r = f.1 (omega (arith, h.0), h.1.1) in ((omega (arith, r.0.0), (h.1.0, r.0.1)), r.1),
)

pub given : (n j : ℕ) (t : Term) (m : List (Option Term)) (σ : ℕ → Term) → j < n → (Fits n m σ × (σ j ≡ t)) ↔ Solves n (give j t m) σ
given n j t [] σ h = (λ p. absurd (omega (arith, h, p.0.0)), λ p. absurd p)
given n zero t (x ∷ m) σ h = given_here n t x m σ
given zero (suc j) t (x ∷ m) σ h = absurd (omega (arith, h))
given (suc n) (suc j) t (x ∷ m) σ h = given_later n x m σ (give j t m) (given n j t m (λ i. σ (suc i)) (omega (arith, h)))

-- ---- variables

lowered : (b : ℕ) (u t : Term) → (lower b u ≡ Some t) ↔ (shift_term 0 b t ≡ u)
lowered b u t = (lower_is b u t, λ e. ap (lower b) (sym e) ∙ lower_shifted b t)

module _ (n b : ℕ) where
  open_var : (j : ℕ) (u : Term) (o : Option Term) (m : List (Option Term)) (σ : ℕ → Term) → j < n →
      ((t : Term) → (o ≡ Some t) ↔ (shift_term 0 b t ≡ u)) → (Fits n m σ × (shift_term 0 b (σ j) ≡ u)) ↔
      Solves n (and_then o (λ t. give j t m)) σ
  open_var j u None m σ h d = never n σ (λ e. absurd (none_some (σ j) ((d (σ j)).1 e)))
    where
      none_some : (t : Term) → None ≡ Some t → ⊥
      none_some t e = cc
  open_var j u (Some t) m σ h d = said (λ e. some_is (σ j) t ((d (σ j)).1 e)) (λ e. ap (shift_term 0 b) e ∙ (d t).0 refl)
      (given n j t m σ h)
    where
      some_is : (s t : Term) → Some t ≡ Some s → s ≡ t
      some_is s t e = cc

  pub solved_var : (i : ℕ) (u : Term) (m : List (Option Term)) (σ : ℕ → Term) → Lowers n σ → (Fits n m σ × (lifts b σ i ≡ u))
      ↔ Solves n (match_var n b i u m) σ
  solved_var i u m σ l = go (nat_lt i b) (nat_lt (i - b) n) refl refl
    where
      go : (r s : Bool) → nat_lt i b ≡ r → nat_lt (i - b) n ≡ s → (Fits n m σ × (lifts b σ i ≡ u)) ↔
          Solves n (if r then (if same_term (var i) u then Some m else None)
          else (if s then and_then (lower b u) (λ t. give (i - b) t m) else (if same_term (var (i - n)) u then Some m else None))) σ
      go true s p q = said (λ e. sym (lifts_small b σ i (grind (arith, nat_tests))) ∙ e)
          (λ e. lifts_small b σ i (grind (arith, nat_tests)) ∙ e) (tested n σ m (same_term (var i) u) (term_decides (var i) u))
      go false true p q = said (λ e. sym (lifts_large b σ i (grind (arith, nat_tests))) ∙ e)
          (λ e. lifts_large b σ i (grind (arith, nat_tests)) ∙ e) (open_var (i - b) u (lower b u) m σ
          (grind (arith, nat_tests)) (lowered b u))
      go false false p q = said (λ e. sym (outer (grind (arith, nat_tests)) (grind (arith, nat_tests))) ∙ e)
          (λ e. outer (grind (arith, nat_tests)) (grind (arith, nat_tests)) ∙ e) (tested n σ m (same_term (var (i - n)) u)
          (term_decides (var (i - n)) u))
        where
          outer : b ≤ i → n ≤ i - b → lifts b σ i ≡ var (i - n)
          outer h k = lifts_large b σ i h ∙ ap (shift_term 0 b) (l (i - b) k) ∙ raise_large 0 b (i - b - n) (omega arith) ∙
              ap var (omega (arith, h, k))

-- ---- terms

pub app_parts : (f g : List ℕ) (ts us : Terms) → app f ts ≡ app g us → (f ≡ g) × (ts ≡ us)
app_parts f g ts us e = (cc, cc)

pub cons_parts : (t u : Term) (ts us : Terms) → cons t ts ≡ cons u us → (t ≡ u) × (ts ≡ us)
cons_parts t u ts us e = (cc, cc)

-- two equations one after the other
pub in_turn : {X P Q R S : Type 0} → (R → P × Q) → (P × Q → R) → ((X × P) × Q) ↔ S → (X × R) ↔ S
in_turn f g h = (λ p. let r = f p.1 in h.0 ((p.0, r.0), r.1), λ s. let r = h.1 s in (r.0.0, g (r.0.1, r.1)))

mutual
  pub solved_term : (n b : ℕ) (t u : Term) (m : List (Option Term)) (σ : ℕ → Term) → Lowers n σ →
      (Fits n m σ × (replace_term (lifts b σ) t ≡ u)) ↔ Solves n (match_term n b t u m) σ
  solved_term n b (var i) u m σ l = solved_var n b i u m σ l
  solved_term n b (app f ts) (app g us) m σ l = said (λ e. app_parts f g (replace_terms (lifts b σ) ts) us e)
      (λ e. (λ i. app (e.0 i) (e.1 i))) (tested_then n σ (match_terms n b ts us m) (is_name f g) (bytes_decides f g)
      (solved_terms n b ts us m σ l))
  solved_term n b (app f ts) u m σ l = never n σ (λ e. absurd cc)

  pub solved_terms : (n b : ℕ) (ts us : Terms) (m : List (Option Term)) (σ : ℕ → Term) → Lowers n σ →
      (Fits n m σ × (replace_terms (lifts b σ) ts ≡ us)) ↔ Solves n (match_terms n b ts us m) σ
  solved_terms n b nil nil m σ l = (λ h. h.0, λ h. (h, refl))
  solved_terms n b (cons t ts) (cons u us) m σ l =
      in_turn (λ e. cons_parts (replace_term (lifts b σ) t) u (replace_terms (lifts b σ) ts) us e)
      (λ e. (λ i. cons (e.0 i) (e.1 i))) (chain n σ (match_term n b t u m) (λ k. match_terms n b ts us k)
      (solved_term n b t u m σ l) (λ k. solved_terms n b ts us k σ l))
  solved_terms n b ts us m σ l = never n σ (λ e. absurd cc)

-- ---- formulas, printing names aside

pub pred_parts : (p q : List ℕ) (ts us : Terms) → pred p ts ≡ pred q us → (p ≡ q) × (ts ≡ us)
pred_parts p q ts us e = (cc, cc)

pub equal_parts : (s r : List ℕ) (t u v w : Term) → equal s t u ≡ equal r v w → (s ≡ r) × ((t ≡ v) × (u ≡ w))
equal_parts s r t u v w e = (cc, (cc, cc))

pub both_parts : (a c x y : Formula) → both a c ≡ both x y → (a ≡ x) × (c ≡ y)
both_parts a c x y e = (cc, cc)

pub either_parts : (a c x y : Formula) → either a c ≡ either x y → (a ≡ x) × (c ≡ y)
either_parts a c x y e = (cc, cc)

pub implies_parts : (a c x y : Formula) → implies a c ≡ implies x y → (a ≡ x) × (c ≡ y)
implies_parts a c x y e = (cc, cc)

pub all_parts : (s r : List ℕ) (a c : Formula) → all s [] a ≡ all r [] c → (s ≡ r) × (a ≡ c)
all_parts s r a c e = (cc, cc)

pub ex_parts : (s r : List ℕ) (a c : Formula) → ex s [] a ≡ ex r [] c → (s ≡ r) × (a ≡ c)
ex_parts s r a c e = (cc, cc)

pub solved : (n b : ℕ) (a c : Formula) (m : List (Option Term)) (σ : ℕ → Term) → Lowers n σ →
    (Fits n m σ × (unnamed (replace (lifts b σ) a) ≡ unnamed c)) ↔ Solves n (match_formula n b a c m) σ
solved n b truth truth m σ l = (λ h. h.0, λ h. (h, refl))
solved n b falsity falsity m σ l = (λ h. h.0, λ h. (h, refl))
solved n b (pred p ts) (pred q us) m σ l = said (λ e. pred_parts p q (replace_terms (lifts b σ) ts) us e)
    (λ e. (λ i. pred (e.0 i) (e.1 i))) (tested_then n σ (match_terms n b ts us m) (is_name p q) (bytes_decides p q)
    (solved_terms n b ts us m σ l))
solved n b (equal s t u) (equal r v w) m σ l =
    said (λ e. equal_parts s r (replace_term (lifts b σ) t) (replace_term (lifts b σ) u) v w e)
    (λ e. (λ i. equal (e.0 i) (e.1.0 i) (e.1.1 i)))
    (tested_then n σ (and_then (match_term n b t v m) (λ k. match_term n b u w k)) (is_name s r) (bytes_decides s r)
    (in_turn (λ e. e) (λ e. e) (chain n σ (match_term n b t v m) (λ k. match_term n b u w k) (solved_term n b t v m σ l)
    (λ k. solved_term n b u w k σ l))))
solved n b (both a c) (both x y) m σ l =
    in_turn (λ e. both_parts (unnamed (replace (lifts b σ) a)) (unnamed (replace (lifts b σ) c)) (unnamed x) (unnamed y) e)
    (λ e. (λ i. both (e.0 i) (e.1 i))) (chain n σ (match_formula n b a x m) (λ k. match_formula n b c y k)
    (solved n b a x m σ l) (λ k. solved n b c y k σ l))
solved n b (either a c) (either x y) m σ l =
    in_turn (λ e. either_parts (unnamed (replace (lifts b σ) a)) (unnamed (replace (lifts b σ) c)) (unnamed x) (unnamed y) e)
    (λ e. (λ i. either (e.0 i) (e.1 i))) (chain n σ (match_formula n b a x m) (λ k. match_formula n b c y k)
    (solved n b a x m σ l) (λ k. solved n b c y k σ l))
solved n b (implies a c) (implies x y) m σ l =
    in_turn (λ e. implies_parts (unnamed (replace (lifts b σ) a)) (unnamed (replace (lifts b σ) c)) (unnamed x) (unnamed y) e)
    (λ e. (λ i. implies (e.0 i) (e.1 i))) (chain n σ (match_formula n b a x m) (λ k. match_formula n b c y k)
    (solved n b a x m σ l) (λ k. solved n b c y k σ l))
solved n b (all s x a) (all r y c) m σ l = said (λ e. all_parts s r (unnamed (replace (lifts (suc b) σ) a)) (unnamed c) e)
    (λ e. (λ i. all (e.0 i) [] (e.1 i))) (tested_then n σ (match_formula n (suc b) a c m) (is_name s r) (bytes_decides s r)
    (solved n (suc b) a c m σ l))
solved n b (ex s x a) (ex r y c) m σ l = said (λ e. ex_parts s r (unnamed (replace (lifts (suc b) σ) a)) (unnamed c) e)
    (λ e. (λ i. ex (e.0 i) [] (e.1 i))) (tested_then n σ (match_formula n (suc b) a c m) (is_name s r) (bytes_decides s r)
    (solved n (suc b) a c m σ l))
solved n b a c m σ l = never n σ (λ e. absurd cc)
