-- The first place, part by part.
use Rattle.std.proofs.Common.{◌≡◌, ℕ, suc, ◌+◌, ◌-◌, ◌<◌, ◌≤◌, Bool, true, false, if◌then◌else◌, List, [], ◌∷◌, ◌++◌, length, get_or, drop, Option, Some, None, refl, sym, ap, ◌∙◌, arith, ◌⊎◌, inl, inr, Decides, nat_lt, zero-add}
use Rattle.std.specs.declared.alloc.Global.{Global}
use Rattle.std.specs.declared.sync.Arc.{Arc}
use Rattle.std.specs.declared.sync.ArcSlice.{ArcSlice}
use Rattle.std.specs.Arc.{arc_slice_items, arc_value}
use Rattle.std.proofs.lemmas.Bool.Decides.{same_from_decides}
use Rattle.std.proofs.lemmas.List.{at_drop_more}
use Rattle.fol_theory.specs.Syntax.{Term as TermMeaning, Terms, var, app, nil, cons, is_name}
use Rattle.fol_theory.specs.Substitution.{replace_terms, raise, shift_term}
use Rattle.fol_theory.proofs.Pairs.{shift_injective_term}
use Rattle.fol_theory.proofs.AtIndex.{side, raise_large}
use Rattle.match_theory.specs.Matching.{and_then, same_term, lower, lower_terms, give, match_var, match_term, match_terms, blank, chosen}
use Rattle.match_theory.specs.Places.{place_matches, first_instance, or_else, places, term_places, terms_places}
use Rattle.match_theory.proofs.Equal.{term_decides, lower_is, lower_shifted}
use Rattle.term_core.specs.Term as term
use Rattle.term_core.specs.Formula.{meaning}
use Rattle.term_core.specs.declared.term.Term.{Term}
use Rattle.term_core.specs.declared.term.Term.TheVariants as terms_made
use Rattle.term_core.specs.declared.formula.Formula.{Formula}
use Rattle.term_core.specs.declared.formula.Formula.TheVariants as made
use Rattle.term_core.proofs.Applications.{meaning_App}
use Rattle.term_core.proofs.Variants.{meaning_True, meaning_False, meaning_Pred, meaning_Eq, meaning_And, meaning_Or, meaning_Imp, meaning_All, meaning_Ex}
use Rattle.match_core.specs.declared.found.Found.{Found}
use Rattle.match_core.specs.Tables.{told, picked}
use Rattle.match_core.proofs.Lowered.{meaning_Var, lower_none}
use Rattle.match_core.proofs.Patterns.{at_open, at_free}

-- ---- one step behind another

then_each : {A B : Type 0} (o : Option A) (f g : A → Option B) → ((x : A) → f x ≡ g x) → and_then o f ≡ and_then o g
then_each None f g h = refl
then_each (Some x) f g h = h x

then_none : {A B : Type 0} (o : Option A) → None ≡ and_then {A = A} {B = B} o (λ x. None)
then_none None = refl
then_none (Some x) = refl

then_twice : {A B C : Type 0} (o : Option A) (f : A → Option B) (g : B → Option C)
    → and_then (and_then o f) g ≡ and_then o (λ x. and_then (f x) g)
then_twice None f g = refl
then_twice (Some x) f g = refl

-- two steps that don't look at one another, in either order
then_turned : {A B C : Type 0} (o : Option A) (p : Option B) (f : A → B → Option C)
    → and_then o (λ x. and_then p (λ y. f x y)) ≡ and_then p (λ y. and_then o (λ x. f x y))
then_turned None p f = then_none p
then_turned (Some x) None f = refl
then_turned (Some x) (Some y) f = refl

-- ---- a pattern under no binder against a term under some is the pattern shifted past them against the term as it is

-- a variable of the context
context_variable : (b j : ℕ) (u : TermMeaning) (m : List (Option TermMeaning)) → (if same_term (var (j + b)) u then Some m else None)
    ≡ and_then (lower b u) (λ v. if same_term (var j) v then Some m else None)
context_variable b j u m = go (lower b u) refl
  where
    shifted : shift_term 0 b (var j) ≡ var (j + b)
    shifted = raise_large 0 b j (omega arith)

    none_some : (t : TermMeaning) → ◌≡◌ {A = Option TermMeaning} None (Some t) → ⊥
    none_some t e = cc

    nowhere : (q : Bool) → lower b u ≡ None → Decides q (var (j + b) ≡ u) → (if q then Some m else None) ≡ None
    nowhere true e d = absurd (none_some (var j) (sym e ∙ ap (lower b) (sym (shifted ∙ d.0 refl)) ∙ lower_shifted b (var j)))
    nowhere false e d = refl

    same : (v : TermMeaning) → lower b u ≡ Some v → same_term (var (j + b)) u ≡ same_term (var j) v
    same v e =
        let back = lower_is b u v e in
        let d = term_decides (var (j + b)) u in
        same_from_decides (same_term (var (j + b)) u) (same_term (var j) v)
        (λ q. shift_injective_term 0 b (var j) v (shifted ∙ d.0 q ∙ sym back), λ q. d.1 (sym shifted ∙ ap (shift_term 0 b) q ∙ back))
        (term_decides (var j) v)

    go : (o : Option TermMeaning) → lower b u ≡ o → (if same_term (var (j + b)) u then Some m else None)
        ≡ and_then o (λ v. if same_term (var j) v then Some m else None)
    go None e = nowhere (same_term (var (j + b)) u) e (term_decides (var (j + b)) u)
    go (Some v) e = ap (λ q. if q then Some m else None) (same v e)

placed_variable : (n b i : ℕ) (u : TermMeaning) (m : List (Option TermMeaning))
    → match_term n b (shift_term 0 b (var i)) u m ≡ and_then (lower b u) (λ v. match_term n 0 (var i) v m)
placed_variable n b i u m = ap (λ t. match_term n b t u m) (raise_large 0 b i (omega arith)) ∙ go (side i n)
  where
    go : (i < n) ⊎ (n ≤ i) → match_var n b (i + b) u m ≡ and_then (lower b u) (λ v. match_var n 0 i v m)
    go (inl h) =
        at_open n b u m (i + b) (omega arith) (omega (arith, h))
        ∙ ap (λ j. and_then (lower b u) (λ t. give j t m)) (omega arith)
        ∙ then_each (lower b u) (λ t. give i t m) (λ v. match_var n 0 i v m) (λ v. sym (here v))
      where
        here : (v : TermMeaning) → match_var n 0 i v m ≡ give i v m
        here v =
            at_open n 0 v m i (omega arith) (omega (arith, h)) ∙ ap (λ o. and_then o (λ t. give (i - 0) t m)) (lower_none v)
            ∙ ap (λ j. give j v m) (omega arith)
    go (inr h) =
        at_free n b u m (i + b) (omega arith) (omega (arith, h))
        ∙ ap (λ j. if same_term (var j) u then Some m else None) (further h)
        ∙ context_variable b (i - n) u m
        ∙ then_each (lower b u) (λ v. if same_term (var (i - n)) v then Some m else None) (λ v. match_var n 0 i v m)
        (λ v. sym (at_free n 0 v m i (omega arith) (omega (arith, h))))
      where
        further : n ≤ i → i + b - n ≡ i - n + b
        further h = omega (arith, h)

-- names are compared before the arguments
placed_names : (r : Bool) {A B : Type 0} (o : Option A) (f : A → Option B) → (if r then and_then o f else None)
    ≡ and_then o (λ x. if r then f x else None)
placed_names true o f = refl
placed_names false o f = then_none o

mutual
  pub placed : (n b : ℕ) (p u : TermMeaning) (m : List (Option TermMeaning))
      → match_term n b (shift_term 0 b p) u m ≡ and_then (lower b u) (λ v. match_term n 0 p v m)
  placed n b (var i) u m = placed_variable n b i u m
  placed n b (app f ts) (var j) m = beside (nat_lt j b)
    where
      beside : (r : Bool) → None ≡ and_then (if r then None else Some (var (j - b))) (λ v. match_term n 0 (app f ts) v m)
      beside true = refl
      beside false = refl
  placed n b (app f ts) (app g us) m =
      ap (λ o. if is_name f g then o else None) (all_placed n b ts us m)
      ∙ placed_names (is_name f g) (lower_terms b us) (λ ws. match_terms n 0 ts ws m)
      ∙ sym (then_twice (lower_terms b us) (λ ws. Some (app g ws)) (λ v. match_term n 0 (app f ts) v m))

  pub all_placed : (n b : ℕ) (ts us : Terms) (m : List (Option TermMeaning))
      → match_terms n b (replace_terms (raise 0 b) ts) us m ≡ and_then (lower_terms b us) (λ ws. match_terms n 0 ts ws m)
  all_placed n b nil nil m = refl
  all_placed n b nil (cons u us) m = nothing (lower b u) (lower_terms b us)
    where
      nothing : (o : Option TermMeaning) (p : Option Terms)
          → None ≡ and_then (and_then o (λ v. and_then p (λ vs. Some (cons v vs)))) (λ ws. match_terms n 0 nil ws m)
      nothing None p = refl
      nothing (Some v) None = refl
      nothing (Some v) (Some vs) = refl
  all_placed n b (cons t ts) nil m = refl
  all_placed n b (cons t ts) (cons u us) m =
      ap (λ o. and_then o (λ k. match_terms n b (replace_terms (raise 0 b) ts) us k)) (placed n b t u m)
      ∙ then_each (and_then (lower b u) (λ v. match_term n 0 t v m)) (λ k. match_terms n b (replace_terms (raise 0 b) ts) us k)
      (λ k. and_then (lower_terms b us) (λ ws. match_terms n 0 ts ws k)) (λ k. all_placed n b ts us k)
      ∙ then_turned (and_then (lower b u) (λ v. match_term n 0 t v m)) (lower_terms b us) (λ k ws. match_terms n 0 ts ws k)
      ∙ regrouped (lower b u) (lower_terms b us)
    where
      regrouped : (o : Option TermMeaning) (p : Option Terms)
          → and_then p (λ ws. and_then (and_then o (λ v. match_term n 0 t v m)) (λ k. match_terms n 0 ts ws k))
          ≡ and_then (and_then o (λ v. and_then p (λ vs. Some (cons v vs)))) (λ ws. match_terms n 0 (cons t ts) ws m)
      regrouped None p = sym (then_none p)
      regrouped (Some v) None = refl
      regrouped (Some v) (Some vs) = refl

-- ---- one place

picked_told : (r : Bool) (xs : List (Option Found)) → picked r xs ≡ and_then (told r xs) (λ m. Some (chosen m))
picked_told true xs = refl
picked_told false xs = refl

-- what a match at a place finds
module _ (n b : ℕ) (p u : TermMeaning) where
  pub place_told : (r : Bool) (new : List (Option Found)) (m : List (Option TermMeaning)) → m ≡ blank n
      → told r new ≡ match_term n (0 + b) (shift_term 0 b p) u m → picked r new ≡ place_matches n p (b, u)
  place_told r new m e h =
      picked_told r new
      ∙ ap (λ o. and_then o (λ k. Some (chosen k)))
      (h ∙ (λ i. match_term n (zero-add b i) (shift_term 0 b p) u (e i)) ∙ placed n b p u (blank n))
      ∙ then_twice (lower b u) (λ v. match_term n 0 p v (blank n)) (λ k. Some (chosen k))

-- ---- the first of several

-- a place that was found is the first, whatever comes behind
pub found_first : (xs : List (Option Found)) (o y : Option (List TermMeaning)) → picked true xs ≡ o → picked true xs ≡ or_else o y
found_first xs o y e = ap (λ p. or_else p y) e

-- where there was none, the first is behind
pub found_later : (xs : List (Option Found)) (o y : Option (List TermMeaning)) → picked false xs ≡ o → y ≡ or_else o y
found_later xs o y e = ap (λ p. or_else p y) e

module _ (n : ℕ) (p : TermMeaning) where
  or_else_twice : (o x y : Option (List TermMeaning)) → or_else o (or_else x y) ≡ or_else (or_else o x) y
  or_else_twice None x y = refl
  or_else_twice (Some z) x y = refl

  pub first_joined : (ws vs : List (ℕ × TermMeaning)) → first_instance n p (ws ++ vs) ≡ or_else (first_instance n p ws) (first_instance n p vs)
  first_joined [] vs = refl
  first_joined (w ∷ ws) vs =
      ap (or_else (place_matches n p w)) (first_joined ws vs)
      ∙ or_else_twice (place_matches n p w) (first_instance n p ws) (first_instance n p vs)

  module _ (b : ℕ) where
    or_none : (o : Option (List TermMeaning)) → or_else o None ≡ o
    or_none None = refl
    or_none (Some x) = refl

    pub first_Var : (i : ℕ) → first_instance n p (term_places b (term.meaning (terms_made.Var i)))
        ≡ place_matches n p (b, term.meaning (terms_made.Var i))
    first_Var i =
        ap (λ t. first_instance n p (term_places b t)) (meaning_Var i) ∙ or_none (place_matches n p (b, var i))
        ∙ ap (λ t. place_matches n p (b, t)) (sym (meaning_Var i))

    pub first_App : (f : List ℕ) (ts : ArcSlice Term Global) → first_instance n p (term_places b (term.meaning (terms_made.App f ts)))
        ≡ or_else (place_matches n p (b, term.meaning (terms_made.App f ts)))
        (first_instance n p (terms_places b (term.list_meaning (arc_slice_items ts))))
    first_App f ts =
        ap (λ t. first_instance n p (term_places b t)) (meaning_App f ts)
        ∙ ap (λ t. or_else (place_matches n p (b, t)) (first_instance n p (terms_places b (term.list_meaning (arc_slice_items ts)))))
        (sym (meaning_App f ts))

    -- the next of a list, and those behind it
    pub first_more : (ts : List Term) (i : ℕ) (t : Term) → i < length ts → t ≡ get_or ts i t
        → first_instance n p (terms_places b (term.list_meaning (drop i ts)))
        ≡ or_else (first_instance n p (term_places b (term.meaning t))) (first_instance n p (terms_places b (term.list_meaning (drop (i + 1) ts))))
    first_more ts i t h e =
        at_drop_more (λ us. first_instance n p (terms_places b (term.list_meaning us))) ts i t h
        ∙ ap (λ u. first_instance n p (terms_places b (term.list_meaning (u ∷ drop (i + 1) ts)))) (sym e)
        ∙ first_joined (term_places b (term.meaning t)) (terms_places b (term.list_meaning (drop (i + 1) ts)))

    pub first_True : first_instance n p (places b (meaning made.True)) ≡ None
    first_True = ap (λ a. first_instance n p (places b a)) meaning_True

    pub first_False : first_instance n p (places b (meaning made.False)) ≡ None
    first_False = ap (λ a. first_instance n p (places b a)) meaning_False

    pub first_Pred : (q : List ℕ) (ts : ArcSlice Term Global) → first_instance n p (places b (meaning (made.Pred q ts)))
        ≡ first_instance n p (terms_places b (term.list_meaning (arc_slice_items ts)))
    first_Pred q ts = ap (λ a. first_instance n p (places b a)) (meaning_Pred q ts)

    pub first_Eq : (s : List ℕ) (t u : Term) → first_instance n p (places b (meaning (made.Eq s t u)))
        ≡ or_else (first_instance n p (term_places b (term.meaning t))) (first_instance n p (term_places b (term.meaning u)))
    first_Eq s t u =
        ap (λ a. first_instance n p (places b a)) (meaning_Eq s t u)
        ∙ first_joined (term_places b (term.meaning t)) (term_places b (term.meaning u))

    pub first_And : (x y : Arc Formula Global) → first_instance n p (places b (meaning (made.And x y)))
        ≡ or_else (first_instance n p (places b (meaning (arc_value x)))) (first_instance n p (places b (meaning (arc_value y))))
    first_And x y =
        ap (λ a. first_instance n p (places b a)) (meaning_And x y)
        ∙ first_joined (places b (meaning (arc_value x))) (places b (meaning (arc_value y)))

    pub first_Or : (x y : Arc Formula Global) → first_instance n p (places b (meaning (made.Or x y)))
        ≡ or_else (first_instance n p (places b (meaning (arc_value x)))) (first_instance n p (places b (meaning (arc_value y))))
    first_Or x y =
        ap (λ a. first_instance n p (places b a)) (meaning_Or x y)
        ∙ first_joined (places b (meaning (arc_value x))) (places b (meaning (arc_value y)))

    pub first_Imp : (x y : Arc Formula Global) → first_instance n p (places b (meaning (made.Imp x y)))
        ≡ or_else (first_instance n p (places b (meaning (arc_value x)))) (first_instance n p (places b (meaning (arc_value y))))
    first_Imp x y =
        ap (λ a. first_instance n p (places b a)) (meaning_Imp x y)
        ∙ first_joined (places b (meaning (arc_value x))) (places b (meaning (arc_value y)))

    pub first_All : (s z : List ℕ) (x : Arc Formula Global) → first_instance n p (places b (meaning (made.All s z x)))
        ≡ first_instance n p (places (suc b) (meaning (arc_value x)))
    first_All s z x = ap (λ a. first_instance n p (places b a)) (meaning_All s z x)

    pub first_Ex : (s z : List ℕ) (x : Arc Formula Global) → first_instance n p (places b (meaning (made.Ex s z x)))
        ≡ first_instance n p (places (suc b) (meaning (arc_value x)))
    first_Ex s z x = ap (λ a. first_instance n p (places b a)) (meaning_Ex s z x)

pub ruleset terms = (found_first, found_later, first_Var, first_App, first_more)

pub ruleset formulas = (
  found_first,
  found_later,
  first_True,
  first_False,
  first_Pred,
  first_Eq,
  first_And,
  first_Or,
  first_Imp,
  first_All,
  first_Ex,
)
