-- What is made of a goal is what the table wants, limits with it.
use Rattle.std.proofs.Common.{◌≡◌, ℕ, List, [], ◌∷◌, ◌++◌, map, flat_map, reverse, Option, Some, None, Ok, Err, refl, sym, ap, subst, ◌∙◌}
use Rattle.std.proofs.lemmas.List.{reverse-append}
use Rattle.fol_theory.specs.Contexts.{Entry, variable, hypothesis, variables}
use Rattle.fol_theory.specs.Slots.{Slot, entries}
use Rattle.env_theory.specs.Declarations.{Declaration}
use Rattle.logic_theory.specs.Rules.{Every, FormedContext, Formed}
use Rattle.logic_theory.specs.Goals.{Goal, sequent, goals}
use Rattle.logic_theory.proofs.Trees.{every_join}
use Rattle.logic_theory.proofs.Grafting.{opens_formed}
use Rattle.tactic_theory.specs.Faults.{too_large}
use Rattle.tactic_theory.specs.Refinements.{Part, opened, formula_of, formulas_of, put_in, first_large, limited}
use Rattle.tactic_theory.specs.States.{State, Frame, row_fault, state, refined}
use Rattle.script_theory.specs.Sizes.{large}
use Rattle.proof_state.specs.States as part
use Rattle.tac_base.specs.Openings.{Made, Opens, IsFormula, unless_large, left_by, measured}

-- ---- what is put in is well formed

-- the formula of an entry, if it has one, is over some variables
abbrev HasFormula : List Declaration → Entry → Type 0
HasFormula E (variable s) = Unit {0}
HasFormula E (hypothesis a) = IsFormula E a

-- the same of each slot
abbrev HaveFormulas : List Declaration → List Slot → Type 0
HaveFormulas E = Every (λ x. HasFormula E x.entry)

more_formed : (E : List Declaration) (more kept : List Slot) → FormedContext E (entries (more ++ kept)) → HaveFormulas E more
more_formed E [] kept f = tt
more_formed E (x ∷ more) kept f = go x.entry f (more_formed E more kept)
  where
    go : (e : Entry) → FormedContext E (e ∷ entries (more ++ kept)) → (FormedContext E (entries (more ++ kept)) → HaveFormulas E more)
        → HasFormula E e × HaveFormulas E more
    go (variable s) h k = (tt, k h.1)
    go (hypothesis a) h k = ((variables (entries (more ++ kept)), h.0), k h.1)

every_reverse : {A : Type 0} (P : A → Type 0) (xs : List A) → Every P xs → Every P (reverse xs)
every_reverse P [] h = tt
every_reverse P (x ∷ xs) h = subst (Every P) (sym (reverse-append (x ∷ []) xs))
    (every_join P (reverse xs) (x ∷ []) (every_reverse P xs h.1) (h.0, tt))

formulas_formed : (E : List Declaration) (c : List Slot) → HaveFormulas E c → Every (IsFormula E) (formulas_of c)
formulas_formed E [] h = tt
formulas_formed E (x ∷ c) h = go x.entry h.0 (formulas_formed E c h.1)
  where
    go : (e : Entry) → HasFormula E e → Every (IsFormula E) (formulas_of c) → Every (IsFormula E) (formula_of e (formulas_of c))
    go (variable s) k l = l
    go (hypothesis a) k l = (k, l)

part_formed : (E : List Declaration) (p : Part) → Formed E (sequent (opened p)) → Every (IsFormula E) (put_in p)
part_formed E p f = every_join (IsFormula E) (formulas_of (reverse p.more)) (p.shown ∷ [])
    (formulas_formed E (reverse p.more) (every_reverse (λ x. HasFormula E x.entry) p.more (more_formed E p.more p.kept f.0)))
    ((variables (entries (p.more ++ p.kept)), f.1), tt)

parts_formed : (E : List Declaration) (ps : List Part) → Every (Formed E) (map sequent (map opened ps)) → Every (IsFormula E) (flat_map put_in ps)
parts_formed E [] h = tt
parts_formed E (p ∷ ps) h = every_join (IsFormula E) (put_in p) (flat_map put_in ps) (part_formed E p h.0) (parts_formed E ps h.1)

pub put_in_formed : (E : List Declaration) (g : Goal) (ps : List Part) (m : Made) → Formed E (sequent g) → Opens E g ps m
    → Every (IsFormula E) m.formulas
put_in_formed E g ps m f o = subst (Every (IsFormula E)) (sym o.formulas) (parts_formed E ps (opens_formed E g (map opened ps) (record {
  tree = m.rules;
  follows = o.follows;
  leaves = o.leaves;
}) f))

-- ---- limits

unless_limited : (o : Option (ℕ × ℕ)) (ps : List Part) → unless_large o (map opened ps) ≡ limited o ps
unless_limited None ps = refl
unless_limited (Some w) ps = refl

-- the goals that are left open are those that are wanted
pub left_wanted : (E : List Declaration) (g : Goal) (ps : List Part) (m : Made) → Opens E g ps m → left_by E g m ≡ measured E (Ok ps)
left_wanted E g ps m o = ap (unless_large (first_large (large E) m.formulas)) o.leaves
    ∙ unless_limited (first_large (large E) m.formulas) ps
    ∙ ap (λ ls. limited (first_large (large E) ls) ps) o.formulas

-- a formula that is too large
pub refused : (gs : List Goal) (fs : List Frame) (o : Option (ℕ × ℕ)) (n h : ℕ) (hs : List Goal) → Some (n, h) ≡ o
    → refined gs fs (unless_large o hs) ≡ Err (row_fault (too_large n h))
refused gs fs o n h hs e = ap (λ z. refined gs fs (unless_large z hs)) (sym e)

-- none is
pub replaced_is : (E : List Declaration) (g : Goal) (m : Made) (all gs : List Goal) (fs : List Frame) (s : State) → all ≡ g ∷ gs
    → None ≡ first_large (large E) m.formulas → s ≡ state (part.refined m.rules all) fs → refined gs fs (left_by E g m) ≡ Ok s
replaced_is E g m all gs fs s e k is =
    let hs = goals m.rules (sequent g ∷ []) in
    ap (λ z. refined gs fs (unless_large z hs)) (sym k) ∙ ap Ok (ap (λ z. state (part.refined m.rules z) fs) (sym e) ∙ sym is)
