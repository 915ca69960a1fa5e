-- The newest frame stands last in memory.
use Rattle.std.proofs.Common.{◌≡◌, suc, ◌-◌, List, [], ◌∷◌, ◌++◌, length, refl, sym, ap, ◌∙◌, arith, slice_get}
use Rattle.vern_parse.specs.Answers.{stacked, first}

pub stacked-append : {A : Type 0} (fs : List A) (f : A) → stacked (fs ++ (f ∷ [])) ≡ f ∷ stacked fs
stacked-append [] f = refl
stacked-append (g ∷ fs) f = ap (λ s. s ++ (g ∷ [])) (stacked-append fs f)

first_again : {A : Type 0} (s : List A) (g f : A) → first ((s ++ (g ∷ [])) ++ (f ∷ [])) ≡ first (s ++ (g ∷ []))
first_again [] g f = refl
first_again (h ∷ s) g f = refl

pub last_stacked : {A : Type 0} (fs : List A) → slice_get fs (length fs - 1) ≡ first (stacked fs)
last_stacked [] = refl
last_stacked (f ∷ []) = refl
last_stacked (f ∷ g ∷ fs) =
    let e : suc (suc (length fs)) - 1 ≡ suc (suc (length fs) - 1) = omega arith in
    ap (slice_get (f ∷ g ∷ fs)) e ∙ last_stacked (g ∷ fs) ∙ sym (first_again (stacked fs) g f)

pub ruleset laws = (stacked-append, last_stacked)
