-- Derivations: terms put in for variables, more hypotheses, and derivable formulas put in for hypotheses.
use Rattle.std.proofs.Common.{◌≡◌, ℕ, List, [], ◌∷◌, map, refl, sym, ap, subst, ◌∙◌, inl, inr}
use Rattle.fol_theory.specs.Syntax.{Term, var, Formula, ex}
use Rattle.fol_theory.specs.Substitution.{replace_term, next, lift, replace, first, under}
use Rattle.env_theory.specs.Declarations.{Declaration}
use Rattle.env_theory.specs.Typing.{Fits, WellFormed}
use Rattle.logic_theory.specs.Derivations.{
  Among,
  Derives,
  given,
  declared,
  truth_in,
  falsity_out,
  both_in,
  both_left,
  both_right,
  either_left,
  either_right,
  either_out,
  implies_in,
  implies_out,
  all_in,
  all_out,
  ex_in,
  ex_out,
  equal_in,
  equal_out,
  convert,
}
use Rattle.fol_theory.proofs.Laws.{replace_identity, replace_under, replace_instantiate}
use Rattle.env_theory.proofs.Sorts.{replace_sort, fits_next, fits_var, fits_lift, fits_first, replace_formed}
use Rattle.env_theory.proofs.Skips.{closed}
use Rattle.env_theory.proofs.Sameness.{same_replace}

-- ---- formulas among others

pub among_under : (a : Formula) (G : List Formula) → Among a G → Among (under a) (map under G)
among_under a [] h = absurd h
among_under a (b ∷ G) (inl e) = inl (ap under e)
among_under a (b ∷ G) (inr h) = inr (among_under a G h)

pub among_of_under : (b : Formula) (G : List Formula) → Among b (map under G) → (a : Formula) × Among a G × (b ≡ under a)
among_of_under b [] h = absurd h
among_of_under b (a ∷ G) (inl e) = (a, inl refl, e)
among_of_under b (a ∷ G) (inr h) = let r = among_of_under b G h in (r.0, inr r.1, r.2)

-- ---- moving

-- each member of G is, replaced, a member of H
abbrev pub Goes : (ℕ → Term) → List Formula → List Formula → Type 0
Goes σ G H = (B : Formula) → Among B G → Among (replace σ B) H

pub goes_more : (σ : ℕ → Term) (G H : List Formula) (A : Formula) → Goes σ G H → Goes σ (A ∷ G) (replace σ A ∷ H)
goes_more σ G H A g B (inl e) = inl (ap (replace σ) e)
goes_more σ G H A g B (inr m) = inr (g B m)

pub goes_up : (σ : ℕ → Term) (G H : List Formula) → Goes σ G H → Goes (lift σ) (map under G) (map under H)
goes_up σ G H g B m = go (among_of_under B G m)
  where
    go : (C : Formula) × Among C G × (B ≡ under C) → Among (replace (lift σ) B) (map under H)
    go r = subst (λ z. Among z (map under H)) (sym (ap (replace (lift σ)) r.2 ∙ replace_under σ r.0))
        (among_under (replace σ r.0) H (g r.0 r.1))

-- terms for variables, and more hypotheses
pub move : {E : List Declaration} {V : List (List ℕ)} {G : List Formula} {A : Formula} → Derives E V G A →
    (σ : ℕ → Term) (W : List (List ℕ)) (H : List Formula) → Fits E σ V W → Goes σ G H → Derives E W H (replace σ A)
move {E} (given {V = V} {A = A} m w) σ W H f g = given (g A m) (replace_formed E σ V W f A w)
move {E} (declared {A = A} n m w) σ W H f g = subst (Derives E W H) (sym (closed E σ A w)) (declared n m w)
move (truth_in) σ W H f g = truth_in
move {E} (falsity_out {V = V} {A = A} w d) σ W H f g = falsity_out (replace_formed E σ V W f A w) (move d σ W H f g)
move (both_in d e) σ W H f g = both_in (move d σ W H f g) (move e σ W H f g)
move (both_left d) σ W H f g = both_left (move d σ W H f g)
move (both_right d) σ W H f g = both_right (move d σ W H f g)
move {E} (either_left {V = V} {B = B} w d) σ W H f g = either_left (replace_formed E σ V W f B w) (move d σ W H f g)
move {E} (either_right {V = V} {A = A} w d) σ W H f g = either_right (replace_formed E σ V W f A w) (move d σ W H f g)
move (either_out {G = G} {A = A} {B = B} d a b) σ W H f g =
    either_out (move d σ W H f g) (move a σ W (replace σ A ∷ H) f (goes_more σ G H A g))
    (move b σ W (replace σ B ∷ H) f (goes_more σ G H B g))
move {E} (implies_in {V = V} {G = G} {A = A} w d) σ W H f g = implies_in (replace_formed E σ V W f A w)
    (move d σ W (replace σ A ∷ H) f (goes_more σ G H A g))
move (implies_out d a) σ W H f g = implies_out (move d σ W H f g) (move a σ W H f g)
move {E} (all_in {V = V} {G = G} {s = s} m d) σ W H f g =
    all_in m (move d (lift σ) (s ∷ W) (map under H) (fits_lift E σ V W s f) (goes_up σ G H g))
move {E} (all_out {V = V} {s = s} {B = B} t d w) σ W H f g = subst (Derives E W H) (sym (replace_instantiate σ B t))
    (all_out (replace_term σ t) (move d σ W H f g) (replace_sort E σ V W f t s w))
move {E} (ex_in {V = V} {s = s} {x = x} {B = B} t w p d) σ W H f g =
    ex_in (replace_term σ t) (replace_formed E σ V W f (ex s x B) w) (replace_sort E σ V W f t s p)
    (subst (Derives E W H) (replace_instantiate σ B t) (move d σ W H f g))
move {E} (ex_out {V = V} {G = G} {s = s} {B = B} {C = C} w d c) σ W H f g = ex_out (replace_formed E σ V W f C w)
    (move d σ W H f g) (subst (Derives E (s ∷ W) (replace (lift σ) B ∷ map under H)) (replace_under σ C)
    (move c (lift σ) (s ∷ W) (replace (lift σ) B ∷ map under H) (fits_lift E σ V W s f) (goes_more (lift σ) (map under G)
    (map under H) B (goes_up σ G H g))))
move {E} (equal_in {V = V} {s = s} {t = t} m w) σ W H f g = equal_in m (replace_sort E σ V W f t s w)
move {E} (equal_out {V = V} {s = s} t u B m w p q d e) σ W H f g = subst (Derives E W H) (sym (replace_instantiate σ B t))
    (equal_out (replace_term σ t) (replace_term σ u) (replace (lift σ) B) m (replace_formed E (lift σ) (s ∷ V) (s ∷ W)
    (fits_lift E σ V W s f) B w) (replace_sort E σ V W f t s p) (replace_sort E σ V W f u s q) (move d σ W H f g)
    (subst (Derives E W H) (replace_instantiate σ B u) (move e σ W H f g)))
move {E} (convert {V = V} {A = A} {B = B} r w d) σ W H f g = convert (same_replace E σ A B r) (replace_formed E σ V W f B w)
    (move d σ W H f g)

-- more hypotheses, and a further variable
pub weaken : {E : List Declaration} {V : List (List ℕ)} {G : List Formula} {A : Formula} → Derives E V G A → (H : List Formula)
    → ((B : Formula) → Among B G → Among B H) → Derives E V H A
weaken {E} {V} {G} {A} d H g = subst (Derives E V H) (replace_identity A)
    (move d var V H (fits_var E V) (λ B m. subst (λ z. Among z H) (sym (replace_identity B)) (g B m)))

pub widen : {E : List Declaration} {V : List (List ℕ)} {G : List Formula} {A : Formula} → Derives E V G A → (s : List ℕ) →
    Derives E (s ∷ V) (map under G) (under A)
widen {E} {V} {G} {A} d s = move d next (s ∷ V) (map under G) (fits_next E s V) (λ B m. among_under B G m)

-- hypotheses that are derivable
abbrev pub Derived : List Declaration → List (List ℕ) → List Formula → List Formula → Type 0
Derived E V G H = (B : Formula) → Among B G → Derives E V H B

pub derived_more : {E : List Declaration} {V : List (List ℕ)} (G H : List Formula) (A : Formula) → WellFormed E V A →
    Derived E V G H → Derived E V (A ∷ G) (A ∷ H)
derived_more {E} {V} G H A w g B (inl e) = subst (Derives E V (A ∷ H)) (sym e) (given (inl refl) w)
derived_more {E} {V} G H A w g B (inr m) = weaken (g B m) (A ∷ H) (λ C k. inr k)

pub derived_up : {E : List Declaration} {V : List (List ℕ)} (s : List ℕ) (G H : List Formula) → Derived E V G H →
    Derived E (s ∷ V) (map under G) (map under H)
derived_up {E} {V} s G H g B m = let r = among_of_under B G m in subst (Derives E (s ∷ V) (map under H)) (sym r.2) (widen (g r.0 r.1) s)

-- what is derivable is well formed
pub formed : {E : List Declaration} {V : List (List ℕ)} {G : List Formula} {A : Formula} → Derives E V G A → WellFormed E V A
formed (given m w) = w
formed {E} {V} (declared {A = A} n m w) = subst (WellFormed E V) (closed E next A w) (replace_formed E next [] V (λ i s h. absurd h) A w)
formed (truth_in) = tt
formed (falsity_out w d) = w
formed (both_in d e) = (formed d, formed e)
formed (both_left d) = (formed d).0
formed (both_right d) = (formed d).1
formed (either_left w d) = (formed d, w)
formed (either_right w d) = (w, formed d)
formed (either_out d a b) = formed a
formed (implies_in w d) = (w, formed d)
formed (implies_out d a) = (formed d).1
formed (all_in m d) = (m, formed d)
formed {E} (all_out {V = V} {s = s} {B = B} t d w) = replace_formed E (first t) (s ∷ V) V (fits_first E V t s w) B (formed d).1
formed (ex_in t w p d) = w
formed (ex_out w d c) = w
formed (equal_in m w) = (m, w, w)
formed {E} (equal_out {V = V} {s = s} t u B m w p q d e) = replace_formed E (first t) (s ∷ V) V (fits_first E V t s p) B w
formed (convert r w d) = w

pub cut : {E : List Declaration} {V : List (List ℕ)} {G : List Formula} {A : Formula} → Derives E V G A → (H : List Formula) →
    Derived E V G H → Derives E V H A
cut (given {A = A} m w) H g = g A m
cut (declared n m w) H g = declared n m w
cut (truth_in) H g = truth_in
cut (falsity_out w d) H g = falsity_out w (cut d H g)
cut (both_in d e) H g = both_in (cut d H g) (cut e H g)
cut (both_left d) H g = both_left (cut d H g)
cut (both_right d) H g = both_right (cut d H g)
cut (either_left w d) H g = either_left w (cut d H g)
cut (either_right w d) H g = either_right w (cut d H g)
cut (either_out {G = G} {A = A} {B = B} d a b) H g = let w = formed d in
    either_out (cut d H g) (cut a (A ∷ H) (derived_more G H A w.0 g)) (cut b (B ∷ H) (derived_more G H B w.1 g))
cut (implies_in {G = G} {A = A} w d) H g = implies_in w (cut d (A ∷ H) (derived_more G H A w g))
cut (implies_out d a) H g = implies_out (cut d H g) (cut a H g)
cut (all_in {G = G} {s = s} m d) H g = all_in m (cut d (map under H) (derived_up s G H g))
cut (all_out t d w) H g = all_out t (cut d H g) w
cut (ex_in t w p d) H g = ex_in t w p (cut d H g)
cut (ex_out {G = G} {s = s} {B = B} w d c) H g =
    ex_out w (cut d H g) (cut c (B ∷ map under H) (derived_more (map under G) (map under H) B (formed d).1 (derived_up s G H g)))
cut (equal_in m w) H g = equal_in m w
cut (equal_out t u B m w p q d e) H g = equal_out t u B m w p q (cut d H g) (cut e H g)
cut (convert r w d) H g = convert r w (cut d H g)
