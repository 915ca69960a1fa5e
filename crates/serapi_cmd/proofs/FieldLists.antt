-- Lists of fields that are too short or too long.
use Rattle.std.proofs.Common.{◌≡◌, ◌≢◌, ◌==◌, List, [], ◌∷◌, length, None, Bool, ◌∙◌, refl, arith}
use Rattle.std.proofs.lemmas.Bool.{ne_eqb}
use Rattle.sexp_core.specs.declared.sexp.Sexp.{Sexp}
use Rattle.serapi_cmd.specs.Fields.{one, two}
use Rattle.serapi_cmd.specs.Meanings.{meanings}
use Rattle.serapi_cmd.specs.Options.{is_printing}
use Rattle.sexp_theory.specs.Values.{list}

pub one_of_other : (fields : List Sexp) → length fields ≢ 1 → None ≡ one (meanings fields)
one_of_other [] other = refl
one_of_other (v ∷ []) other = absurd (other (omega arith))
one_of_other (v ∷ w ∷ vs) other = refl

pub two_of_other : (fields : List Sexp) → length fields ≢ 2 → None ≡ two (meanings fields)
two_of_other [] other = refl
two_of_other (v ∷ []) other = refl
two_of_other (v ∷ w ∷ []) other = absurd (other (omega arith))
two_of_other (v ∷ w ∷ x ∷ vs) other = refl

pub printing_of_other : (fields : List Sexp) (empty : Bool) → empty ≡ (length fields == 0) → None ≡ one (meanings fields)
    → empty ≡ is_printing (list (meanings fields))
printing_of_other [] empty is other = is
printing_of_other (v ∷ []) empty is other = absurd cc
printing_of_other (v ∷ w ∷ vs) empty is other = is ∙ ne_eqb (length (v ∷ w ∷ vs)) 0 (λ e. omega (arith, e))
