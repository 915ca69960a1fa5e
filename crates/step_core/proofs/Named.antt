-- Names that are declared.
use Rattle.std.proofs.Common.{◌≡◌, ℕ, List, [], ◌∷◌, Bool, true, false, ◌||◌, if◌then◌else◌, Option, Some, None, is_some, option_map}
use Rattle.std.proofs.Common.{refl, sym, ap, ◌∙◌}
use Rattle.std.specs.List.{list_any}
use Rattle.std.proofs.lemmas.List.Folds.{list_any-append}
use Rattle.fol_theory.specs.Syntax.{is_name}
use Rattle.env_theory.specs.Declarations.{Declaration, find, name_of}
use Rattle.env_theory.proofs.SameNames.{one_name, own_name}
use Rattle.fol_theory.specs.Slots.{Slot, names}
use Rattle.tactic_theory.specs.Names.{is_among, is_taken}
use Rattle.step_theory.specs.Texts.{declared_names, taken_in}

-- whether two names are one, either way round
turned_by : (m n : List ℕ) (p q : Bool) → is_name m n ≡ p → is_name n m ≡ q → p ≡ q
turned_by m n true true e f = refl
turned_by m n false false e f = refl
turned_by m n true false e f = sym (own_name n) ∙ ap (is_name n) (sym (one_name m n e)) ∙ f
turned_by m n false true e f = sym e ∙ ap (is_name m) (one_name n m f) ∙ own_name m

turned : (m n : List ℕ) → is_name m n ≡ is_name n m
turned m n = turned_by m n (is_name m n) (is_name n m) refl refl

found_by : (p : Bool) (d : Declaration) (o : Option Declaration) (q : Bool) → is_some o ≡ q → is_some (if p then Some d else o) ≡ (p || q)
found_by true d o q h = refl
found_by false d o q h = h

pub is_declared : (E : List Declaration) (n : List ℕ) → is_some (find E n) ≡ list_any (is_name n) (declared_names E)
is_declared [] n = refl
is_declared (d ∷ E) n =
    found_by (is_name (name_of d) n) d (find E n) (list_any (is_name n) (declared_names E)) (is_declared E n)
    ∙ ap (λ p. p || list_any (is_name n) (declared_names E)) (turned (name_of d) n)

some_of : {X Y : Type 0} (f : X → Y) (r : Option X) → is_some r ≡ is_some (option_map f r)
some_of f (Some x) = refl
some_of f None = refl

pub found_declared : {X : Type 0} (f : X → Declaration) (r : Option X) (E : List Declaration) (n : List ℕ)
    → option_map f r ≡ find E n → is_some r ≡ list_any (is_name n) (declared_names E)
found_declared f r E n h = some_of f r ∙ ap is_some h ∙ is_declared E n

pub ruleset finding = (found_declared)

-- ---- the names of a context too

among_is : (n : List ℕ) (ms : List (List ℕ)) → is_among n ms ≡ list_any (is_name n) ms
among_is n [] = refl
among_is n (m ∷ ms) = ap (λ q. is_name n m || q) (among_is n ms)

pub taken_among : (E : List Declaration) (c : List Slot) (n : List ℕ) (q : Bool) → q ≡ is_taken E c n
    → q ≡ list_any (is_name n) (taken_in E c)
taken_among E c n q h = h ∙ (λ i. among_is n (names c) i || among_is n (declared_names E) i)
    ∙ sym (list_any-append (is_name n) (names c) (declared_names E))

pub ruleset taking = (taken_among)
