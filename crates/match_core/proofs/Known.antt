-- Tables of open variables: nothing known, and a term chosen for each.
use Rattle.std.proofs.Common.{◌≡◌, ℕ, zero, suc, ◌+◌, ◌<◌, List, [], ◌∷◌, ◌++◌, length, get_or, set, take, Option, Some, None, refl, sym, ap, ◌∙◌, add-one}
use Rattle.std.specs.Prelude.{option_map}
use Rattle.std.proofs.lemmas.List.{map_push, take_more, take_more_set}
use Rattle.fol_theory.specs.Syntax.{Term as Meaning, var}
use Rattle.fol_theory.specs.Substitution.{replace_term}
use Rattle.fol_theory.proofs.Laws.{term_identity}
use Rattle.match_theory.specs.Matching.{blank, chosen}
use Rattle.term_core.specs.Term.{meaning}
use Rattle.match_core.specs.declared.found.Found.{Found}
use Rattle.match_core.specs.Changes.{term_changed}
use Rattle.match_core.specs.declared.change.Change.TheVariants.{Lower}
use Rattle.match_core.specs.Moves.{lowering}
use Rattle.match_core.specs.Tables.{choice, found_term, table}
use Rattle.match_core.proofs.Lifted.{lifted_none, lowering_none}

blank_push : (n : ℕ) → blank n ++ None ∷ [] ≡ blank (suc n)
blank_push zero = refl
blank_push (suc n) = ap (λ m. None ∷ m) (blank_push n)

-- one variable more of which nothing is known
pub blank_more : (xs : List (Option Found)) (n : ℕ) → table xs ≡ blank n → table (xs ++ None ∷ []) ≡ blank (n + 1)
blank_more xs n e =
    map_push (option_map found_term) xs None ∙ ap (λ m. m ++ None ∷ []) e ∙ blank_push n ∙ ap blank (sym (add-one n))

pub clear_more : (xs : List (Option Found)) (i : ℕ) → i < length xs → table (take i xs) ≡ blank i
    → table (take (i + 1) (set xs i None)) ≡ blank (i + 1)
clear_more xs i h e = ap table (take_more_set xs i None h) ∙ blank_more (take i xs) i e

-- ---- terms chosen

chosen_push : (m : List (Option Meaning)) (x : Option Meaning) → chosen (m ++ x ∷ []) ≡ chosen m ++ chosen (x ∷ [])
chosen_push [] x = refl
chosen_push (None ∷ m) x = ap (λ l. var 0 ∷ l) (chosen_push m x)
chosen_push (Some t ∷ m) x = ap (λ l. t ∷ l) (chosen_push m x)

chosen_choice : (x : Option Found) → chosen (option_map found_term x ∷ []) ≡ choice x ∷ []
chosen_choice None = refl
chosen_choice (Some f) = refl

-- the term of the next variable
pub chosen_more : (xs : List (Option Found)) (i : ℕ) (x : Option Found) → i < length xs → x ≡ get_or xs i x
    → chosen (table (take (i + 1) xs)) ≡ chosen (table (take i xs)) ++ choice x ∷ []
chosen_more xs i x h e =
    ap (λ l. chosen (table l)) (take_more xs i x h)
    ∙ ap chosen (map_push (option_map found_term) (take i xs) (get_or xs i x))
    ∙ chosen_push (table (take i xs)) (option_map found_term (get_or xs i x))
    ∙ ap (λ y. chosen (table (take i xs)) ++ chosen (option_map found_term y ∷ [])) (sym e)
    ∙ ap (λ l. chosen (table (take i xs)) ++ l) (chosen_choice x)

-- ---- the term that was found

pub found_lowered : (f : Found) → term_changed (Lower f.binders) 0 (meaning f.term.now) ≡ found_term f
found_lowered f = ap (λ ρ. replace_term ρ (meaning f.term.now)) (lifted_none (lowering f.binders))

pub found_whole : (f : Found) → f.binders ≡ 0 → meaning f.term.now ≡ found_term f
found_whole f e =
    sym (term_identity (meaning f.term.now))
    ∙ sym (ap (λ ρ. replace_term ρ (meaning f.term.now)) (ap lowering e ∙ lowering_none))

pub ruleset blanks = (blank_more, clear_more)
