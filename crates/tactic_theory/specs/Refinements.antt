-- The refinement sentences: the goals that take the place of one goal, or the first fault.
use Rattle.logic_theory.specs.Goals.{Goal, goal}
use Rattle.fol_theory.specs.Slots.{Slot, slot, entries, names, slots_without}
use Rattle.env_theory.specs.Heads.{head_form}
use Rattle.env_theory.specs.Normal.{normal_term, expand, normal}
use Rattle.env_theory.specs.Typing.{HasSort, WellFormed}
use Rattle.env_theory.specs.Declarations.{Declaration, name_of, find}
use Rattle.std.specs.Prelude.{
  ◌≡◌,
  ℕ,
  Bool,
  true,
  false,
  ◌&&◌,
  ◌||◌,
  if◌then◌else◌,
  codes,
  List,
  [],
  ◌∷◌,
  ◌++◌,
  map,
  reverse,
  flat_map,
  length,
  not,
  nat_lt,
  Option,
  Some,
  None,
  Result,
  Ok,
  Err,
}
use Rattle.fol_theory.specs.Syntax.{
  Term,
  var,
  app,
  Terms,
  nil,
  cons,
  Formula,
  truth,
  falsity,
  pred,
  equal,
  both,
  either,
  implies,
  all,
  ex,
  is_name,
}
use Rattle.fol_theory.specs.Substitution.{under, instantiate}
use Rattle.fol_theory.specs.Contexts.{Entry, variable, hypothesis, variables, hypotheses}
use Rattle.fol_theory.specs.Substitution.{replace_term, replace}
use Rattle.match_theory.specs.Instances.{fill}
use Rattle.match_theory.specs.Matching.{same_term}
use Rattle.match_theory.specs.Places.{find_instance, abstracted, occurs_in_term, occurs, all_below, or_else}
use Rattle.tactic_theory.specs.Strips.{Strip, all_strips, fitting, equation}
use Rattle.tactic_theory.specs.Names.{AreApart, is_taken, fresh, hypothesis_named, hypothesis_at}
use Rattle.base_core.specs.Answers.{and_then}
use Rattle.vern_lex.specs.declared.span.Span.{Span}
use Rattle.elab_theory.specs.Faults.{wrong_sort}
use Rattle.tactic_theory.specs.Faults.{Fault, of_typing, not_of_form, no_such_hypothesis, cannot_match, name_taken, no_goal, too_large}
use Rattle.tactic_theory.specs.Evidence.{is_same, Evidence, assumed, declared, with_term, with_proof, shows, is_met, IsTyped}

-- a new goal: what is new in its context, the newest first; what was there before; what is to be shown
pub record Part : Type 0 where
  pub more : List Slot
  pub kept : List Slot
  pub shown : Formula

-- a new goal from its parts
abbrev pub part : List Slot → List Slot → Formula → Part
part more kept a = record { more = more; kept = kept; shown = a }

-- the new goal
abbrev pub opened : Part → Goal
opened p = goal (p.more ++ p.kept) p.shown

-- a refinement whose terms, formulas and evidence are typed
pub data Refinement : Type 0 where
  intro : Option (List ℕ) → Refinement
  intros : Refinement
  exact apply destruct_falsity : Evidence → Refinement
  -- with the right side in the place of the left one, or the other way round
  rewrite : Bool → Evidence → Refinement
  by_hypothesis split left right exfalso reflexivity symmetry : Refinement
  -- a term with its sort, and where it is written
  witness : List ℕ → Term → Span → Refinement
  destruct_pair destruct_cases : Evidence → List ℕ → List ℕ → Refinement
  assert : List ℕ → Formula → Refinement
  clear : List ℕ → Refinement
  unfold_goal : Declaration → Refinement
  unfold_in : Declaration → List ℕ → Refinement

-- ---- introductions

-- the name that is given, if it is free, or a fresh one
abbrev pub named : List Declaration → List Slot → Option (List ℕ) → List ℕ → Result (List ℕ) Fault
named E c None x = Ok (fresh E c x)
named E c (Some n) x = if is_taken E c n then Err name_taken else Ok n

-- intro at a head form
abbrev pub intro_one : List Declaration → List Slot → Option (List ℕ) → Formula → Result Part Fault
intro_one E c n (all s x b) = and_then (named E c n x) (λ m. Ok (part (slot m (variable s) ∷ []) c b))
intro_one E c n (implies a b) = and_then (named E c n (codes "H")) (λ m. Ok (part (slot m (hypothesis a) ∷ []) c b))
intro_one E c n a = Err not_of_form

-- as long as the goal as written begins with a quantifier or an implication
abbrev pub intro_all : List Declaration → List Slot → List Slot → Formula → Part
intro_all E more kept (all s x b) = intro_all E (slot (fresh E (more ++ kept) x) (variable s) ∷ more) kept b
intro_all E more kept (implies a b) = intro_all E (slot (fresh E (more ++ kept) (codes "H")) (hypothesis a) ∷ more) kept b
intro_all E more kept a = part more kept a

-- ---- the goal's form

-- split at a head form
abbrev pub split_form : List Slot → Formula → Result (List Part) Fault
split_form c (both a b) = Ok (part [] c a ∷ part [] c b ∷ [])
split_form c truth = Ok []
split_form c a = Err not_of_form

-- left at a head form
abbrev pub left_form : List Slot → Formula → Result (List Part) Fault
left_form c (either a b) = Ok (part [] c a ∷ [])
left_form c a = Err not_of_form

-- right at a head form
abbrev pub right_form : List Slot → Formula → Result (List Part) Fault
right_form c (either a b) = Ok (part [] c b ∷ [])
right_form c a = Err not_of_form

-- exists at a head form, with a term and its sort
abbrev pub witness_form : List Slot → List ℕ → Term → Span → Formula → Result (List Part) Fault
witness_form c s t p (ex r x b) = if is_name r s then Ok (part [] c (instantiate b t) ∷ []) else Err (of_typing (wrong_sort p))
witness_form c s t p a = Err not_of_form

-- reflexivity at a head form
abbrev pub reflexivity_form : List Declaration → Formula → Result (List Part) Fault
reflexivity_form E (equal s t u) = if same_term (normal_term E t) (normal_term E u) then Ok [] else Err cannot_match
reflexivity_form E a = Err not_of_form

-- symmetry at a head form
abbrev pub symmetry_form : List Slot → Formula → Result (List Part) Fault
symmetry_form c (equal s t u) = Ok (part [] c (equal s u t) ∷ [])
symmetry_form c a = Err not_of_form

-- ---- evidence

-- a hypothesis that is taken apart goes, other evidence stays
abbrev pub kept_of : List Slot → Evidence → List Slot
kept_of c (assumed i) = slots_without c i
kept_of c (declared n a) = c
kept_of c (with_term e s t) = c
kept_of c (with_proof e d) = c

-- the match: where it fails, nothing else does
abbrev pub if_met : {A : Type 0} → Bool → A → Result A Fault
if_met b x = if b then Ok x else Err cannot_match

-- a pair or a witness taken apart: the form, the names, the match
abbrev pub pair_form : List Declaration → List Slot → Bool → List ℕ → List ℕ → Formula → Formula → Result (List Part) Fault
pair_form E k met m n g (both a b) = if is_taken E k m then Err name_taken else (if is_taken E (slot m (hypothesis a) ∷ k) n
    then Err name_taken else if_met met (part (slot n (hypothesis b) ∷ slot m (hypothesis a) ∷ []) k g ∷ []))
pair_form E k met m n g (ex s x b) = if is_taken E k m then Err name_taken else (if is_taken E (slot m (variable s) ∷ k) n
    then Err name_taken else if_met met (part (slot n (hypothesis b) ∷ slot m (variable s) ∷ []) k (under g) ∷ []))
pair_form E k met m n g a = Err not_of_form

-- two cases: the form, the names, the match
abbrev pub cases_form : List Declaration → List Slot → Bool → List ℕ → List ℕ → Formula → Formula → Result (List Part) Fault
cases_form E k met m n g (either a b) = if is_taken E k m then Err name_taken else (if is_taken E k n then Err name_taken
    else if_met met (part (slot m (hypothesis a) ∷ []) k g ∷ part (slot n (hypothesis b) ∷ []) k g ∷ []))
cases_form E k met m n g a = Err not_of_form

-- a falsity: the form, the match
abbrev pub falsity_form : Bool → Formula → Result (List Part) Fault
falsity_form met falsity = if_met met []
falsity_form met a = Err not_of_form

-- some hypothesis, each as it stands under all variables, is the same
abbrev pub has_same : List Declaration → List Formula → Formula → Bool
has_same E [] g = false
has_same E (a ∷ ls) g = is_same E a g || has_same E ls g

-- ---- definitions put in

-- the name stands in a term
abbrev mutual
  pub term_mentions : List ℕ → Term → Bool
  term_mentions n (var i) = false
  term_mentions n (app f ts) = is_name f n || terms_mention n ts

  pub terms_mention : List ℕ → Terms → Bool
  terms_mention n nil = false
  terms_mention n (cons t ts) = term_mentions n t || terms_mention n ts

-- the name stands in a formula
abbrev pub mentions : List ℕ → Formula → Bool
mentions n truth = false
mentions n falsity = false
mentions n (pred p ts) = is_name p n || terms_mention n ts
mentions n (equal s t u) = term_mentions n t || term_mentions n u
mentions n (both a b) = mentions n a || mentions n b
mentions n (either a b) = mentions n a || mentions n b
mentions n (implies a b) = mentions n a || mentions n b
mentions n (all s x a) = mentions n a
mentions n (ex s x a) = mentions n a

-- a definition put in, in a hypothesis, which goes to the end; where it has nothing to put in, nothing changes
abbrev pub unfolded_in : Declaration → List Slot → List ℕ → ℕ → Option Formula → Formula → Result (List Part) Fault
unfolded_in d c h i None g = Err no_such_hypothesis
unfolded_in d c h i (Some a) g = if mentions (name_of d) a then Ok (part (slot h (hypothesis (expand d a)) ∷ [])
    (slots_without c i) g ∷ []) else Ok (part [] c g ∷ [])

-- ---- apply and rewrite

-- a goal for each stripped premise with the terms put in
abbrev pub premise_parts : List Slot → List Term → List Formula → List Part
premise_parts c ts ps = map (λ p. part [] c (replace (fill ts) p)) ps

-- each open variable occurs in the normal form of what is left
abbrev pub apply_found : List Declaration → List Slot → Bool → Option (Strip × List Term) → Result (List Part) Fault
apply_found E c met None = Err cannot_match
apply_found E c met (Some (s, ts)) = if_met (met && all_below (length s.sorts) (λ i. occurs i (normal E s.rest)))
    (premise_parts c ts s.premises)

-- the term is an open variable alone
abbrev pub is_open : ℕ → Term → Bool
is_open n (var i) = nat_lt i n
is_open n (app f ts) = false

-- l is rewritten to r, both over the open variables
abbrev pub rewrite_found : List Slot → Bool → Strip → Term → Term → Formula → Option (List Term) → Result (List Part) Fault
rewrite_found c met s l r g None = Err cannot_match
rewrite_found c met s l r g (Some ts) =
    if_met (met && (not (is_open (length s.sorts) l) && all_below (length s.sorts) (λ i. occurs_in_term i l)))
    (part [] c (instantiate (abstracted 0 (replace_term (fill ts) l) g) (replace_term (fill ts) r)) ∷ premise_parts c ts s.premises)

-- rewriting by an equation, to the right or to the left
abbrev pub rewrite_form : List Slot → Bool → Bool → Strip → Formula → Formula → Result (List Part) Fault
rewrite_form c met true s g (equal q l r) = rewrite_found c met s l r g (find_instance (length s.sorts) l g)
rewrite_form c met false s g (equal q l r) = rewrite_found c met s r l g (find_instance (length s.sorts) r g)
rewrite_form c met way s g a = Err not_of_form

-- rewriting by what is left after some strips
abbrev pub rewrite_strip : List Declaration → List Slot → Bool → Bool → Formula → Option Strip → Result (List Part) Fault
rewrite_strip E c met way g None = Err not_of_form
rewrite_strip E c met way g (Some s) = rewrite_form c met way s g (head_form E s.rest)

-- ---- the table

-- a hypothesis less
abbrev pub clear_row : List Slot → Option ℕ → Formula → Result (List Part) Fault
clear_row c None g = Err no_such_hypothesis
clear_row c (Some i) g = Ok (part [] (slots_without c i) g ∷ [])

-- unfolding in a hypothesis that is there
abbrev pub unfold_row : Declaration → List Slot → List ℕ → Option ℕ → Formula → Result (List Part) Fault
unfold_row d c h None g = Err no_such_hypothesis
unfold_row d c h (Some i) g = unfolded_in d c h i (hypothesis_at (entries c) i) g

-- the new goals of a refinement, or its first fault, limits aside
abbrev pub row : List Declaration → List Slot → Formula → Refinement → Result (List Part) Fault
row E c g (intro n) = and_then (intro_one E c n (head_form E g)) (λ p. Ok (p ∷ []))
row E c g intros = Ok (intro_all E [] c g ∷ [])
row E c g (exact e) = and_then (shows E c e) (λ a. if_met (is_met E c e && is_same E a g) [])
row E c g (apply e) = and_then (shows E c e) (λ a. apply_found E c (is_met E c e) (fitting E g (all_strips E a)))
row E c g (rewrite way e) = and_then (shows E c e) (λ a. rewrite_strip E c (is_met E c e) way g (equation E (all_strips E a)))
row E c g by_hypothesis = if_met (has_same E (hypotheses (entries c)) g) []
row E c g split = split_form c (head_form E g)
row E c g left = left_form c (head_form E g)
row E c g right = right_form c (head_form E g)
row E c g exfalso = Ok (part [] c falsity ∷ [])
row E c g (witness s t p) = witness_form c s t p (head_form E g)
row E c g (destruct_pair e m n) = and_then (shows E c e) (λ a. pair_form E (kept_of c e) (is_met E c e) m n g (head_form E a))
row E c g (destruct_cases e m n) = and_then (shows E c e) (λ a. cases_form E (kept_of c e) (is_met E c e) m n g (head_form E a))
row E c g (destruct_falsity e) = and_then (shows E c e) (λ a. falsity_form (is_met E c e) (head_form E a))
row E c g (assert n a) = if is_taken E c n then Err name_taken else Ok (part [] c a ∷ part (slot n (hypothesis a) ∷ []) c g ∷ [])
row E c g (clear h) = clear_row c (hypothesis_named c h) g
row E c g reflexivity = reflexivity_form E (head_form E g)
row E c g symmetry = symmetry_form c (head_form E g)
row E c g (unfold_goal d) = Ok (part [] c (expand d g) ∷ [])
row E c g (unfold_in d h) = unfold_row d c h (hypothesis_named c h) g

-- its arguments are typed
abbrev pub IsTypedRow : List Declaration → List Slot → Refinement → Type 0
IsTypedRow E c (exact e) = IsTyped E c e
IsTypedRow E c (apply e) = IsTyped E c e
IsTypedRow E c (rewrite way e) = IsTyped E c e
IsTypedRow E c (destruct_pair e m n) = IsTyped E c e
IsTypedRow E c (destruct_cases e m n) = IsTyped E c e
IsTypedRow E c (destruct_falsity e) = IsTyped E c e
IsTypedRow E c (witness s t p) = HasSort E (variables (entries c)) t s
IsTypedRow E c (assert n a) = WellFormed E (variables (entries c)) a
IsTypedRow E c (unfold_goal d) = find E (name_of d) ≡ Some d
IsTypedRow E c (unfold_in d h) = find E (name_of d) ≡ Some d
IsTypedRow E c r = Unit {0}

-- the names of a new goal are distinct
abbrev pub Apart : Part → Type 0
Apart p = AreApart (names (p.more ++ p.kept))

-- ---- limits

-- the formula of an entry before others
abbrev pub formula_of : Entry → List Formula → List Formula
formula_of (variable s) ls = ls
formula_of (hypothesis a) ls = a ∷ ls

-- the formulas of the slots
abbrev pub formulas_of : List Slot → List Formula
formulas_of [] = []
formulas_of (x ∷ c) = formula_of x.entry (formulas_of c)

-- the first formula that passes a limit, by the measure that tells nodes and height of those that do
abbrev pub first_large : (Formula → Option (ℕ × ℕ)) → List Formula → Option (ℕ × ℕ)
first_large large [] = None
first_large large (a ∷ ls) = or_else (large a) (first_large large ls)

-- new goal by new goal: its new entries in order, then what is to be shown
abbrev pub put_in : Part → List Formula
put_in p = formulas_of (reverse p.more) ++ p.shown ∷ []

-- the new goals, or the fault of the first that is too large
abbrev pub limited : Option (ℕ × ℕ) → List Part → Result (List Goal) Fault
limited (Some w) ps = Err (too_large w.0 w.1)
limited None ps = Ok (map opened ps)

-- the table: the new goals, or the first fault
abbrev pub refine : (Formula → Option (ℕ × ℕ)) → List Declaration → Goal → Refinement → Result (List Goal) Fault
refine large E g r = and_then (row E g.slots g.shown r) (λ ps. limited (first_large large (flat_map put_in ps)) ps)

-- intro for each name, each in its own order
abbrev pub intros_as : (Formula → Option (ℕ × ℕ)) → List Declaration → List (List ℕ) → List Goal → Result (List Goal) Fault
intros_as large E [] gs = Ok gs
intros_as large E (n ∷ ns) [] = Err no_goal
intros_as large E (n ∷ ns) (g ∷ gs) = and_then (refine large E g (intro (Some n))) (λ hs. intros_as large E ns (hs ++ gs))
