-- The texts of verdicts, of declarations and of goals.
use Rattle.std.specs.Prelude.{ℕ, List, [], ◌∷◌, ◌++◌, map, reverse, codes, Option, Some, None, option_map}
use Rattle.std.specs.Fmt.{decimal}
use Rattle.vern_lex.specs.declared.span.Span.{Span}
use Rattle.fol_theory.specs.Contexts.{Entry, variable, hypothesis}
use Rattle.fol_theory.specs.Slots.{Slot, names}
use Rattle.logic_theory.specs.Goals.{Goal}
use Rattle.env_theory.specs.Declarations.{Parameter, Declaration, sort, function, predicate, stated, term, formula, name_of}
use Rattle.elab_theory.specs.Faults as typing
use Rattle.tactic_theory.specs.Faults as row
use Rattle.tactic_theory.specs.States.{StepFault, row_fault, bad_bullet, unfinished}
use Rattle.script_theory.specs.Sentences.{Verdict, good, faulty, blocked, misplaced, Open, Script}
use Rattle.print_theory.specs.Spelling.{formula_text, term_text}

-- ---- verdicts

-- what is wrong, and the offsets where it stands
abbrev pub at_span : List ℕ → Span → List ℕ
at_span what p = what ++ (codes " at " ++ (decimal p.from ++ (codes "-" ++ decimal p.to)))

-- the two numbers of what is too large
abbrev pub size_text : ℕ → ℕ → List ℕ
size_text n h = codes "too large: " ++ (decimal n ++ (codes " nodes, height " ++ decimal h))

abbrev pub typing_text : typing.Fault → List ℕ
typing_text (typing.unknown_name p) = at_span (codes "unknown name") p
typing_text (typing.wrong_kind p) = at_span (codes "wrong kind") p
typing_text (typing.wrong_sort p) = at_span (codes "wrong sort") p
typing_text (typing.wrong_arity p) = at_span (codes "wrong arity") p
typing_text (typing.already_declared p) = at_span (codes "already declared") p

abbrev pub row_text : row.Fault → List ℕ
row_text (row.of_typing e) = typing_text e
row_text row.no_goal = codes "no goal"
row_text row.no_such_hypothesis = codes "no such hypothesis"
row_text row.not_of_form = codes "not of this form"
row_text row.cannot_match = codes "cannot match"
row_text row.name_taken = codes "name taken"
row_text (row.too_large n h) = size_text n h

abbrev pub fault_text : StepFault → List ℕ
fault_text (row_fault e) = row_text e
fault_text bad_bullet = codes "wrong bullet"
fault_text (unfinished n) = decimal n ++ codes " goals left"

-- a good sentence has no text, and one out of place, which no document tells, neither
abbrev pub verdict_text : Verdict → List ℕ
verdict_text good = []
verdict_text (faulty e) = fault_text e
verdict_text (blocked id) = codes "blocked by " ++ decimal id
verdict_text misplaced = []

-- ---- declarations

-- `T -> U -> `
abbrev pub arrows : List (List ℕ) → List ℕ
arrows [] = []
arrows (s ∷ ss) = s ++ (codes " -> " ++ arrows ss)

-- ` (x : T) (y : U)`
abbrev pub parameters_text : List Parameter → List ℕ
parameters_text [] = []
parameters_text (p ∷ ps) = codes " (" ++ (p.name ++ (codes " : " ++ (p.sort ++ (codes ")" ++ parameters_text ps))))

-- the names of parameters, the newest first
abbrev pub names_back : List Parameter → List (List ℕ)
names_back ps = reverse (map (λ p. p.name) ps)

-- the declared names
abbrev pub declared_names : List Declaration → List (List ℕ)
declared_names E = map name_of E

-- The text of a declaration, where so many names are taken. In a body the parameters have their own names, also where those are declared.
abbrev pub declaration_text : List (List ℕ) → Declaration → List ℕ
declaration_text taken (sort n) = n ++ codes " : Set"
declaration_text taken (function n ss s) = n ++ (codes " : " ++ (arrows ss ++ s))
declaration_text taken (predicate n ss) = n ++ (codes " : " ++ (arrows ss ++ codes "Prop"))
declaration_text taken (stated n a) = n ++ (codes " : " ++ formula_text [] taken a)
declaration_text taken (term n ps s b) =
    n ++ (parameters_text ps ++ (codes " : " ++ (s ++ (codes " := " ++ term_text (names_back ps) b))))
declaration_text taken (formula n ps b) =
    n ++ (parameters_text ps ++ (codes " : Prop := " ++ formula_text (names_back ps) taken b))

-- ---- goals

-- a line end
abbrev pub line_end : List ℕ
line_end = 10 ∷ []

-- the names of older variables, with that of an entry if it is one
abbrev pub with_variable : List ℕ → Entry → List (List ℕ) → List (List ℕ)
with_variable n (variable s) ns = n ∷ ns
with_variable n (hypothesis a) ns = ns

-- the names of the variables, the newest first
abbrev pub variable_names : List Slot → List (List ℕ)
variable_names [] = []
variable_names (x ∷ c) = with_variable x.name x.entry (variable_names c)

-- `x : T` or `h : FORMULA`, where the older variables have these names
abbrev pub entry_text : List (List ℕ) → List (List ℕ) → List ℕ → Entry → List ℕ
entry_text taken ns n (variable s) = n ++ (codes " : " ++ s)
entry_text taken ns n (hypothesis a) = n ++ (codes " : " ++ formula_text ns taken a)

-- the entries from the oldest on, each with a line end behind it
abbrev pub context_text : List (List ℕ) → List Slot → List ℕ
context_text taken [] = []
context_text taken (x ∷ c) = context_text taken c ++ (entry_text taken (variable_names c) x.name x.entry ++ line_end)

-- the names that no bound name is printed as in a goal: those of its whole context, and the declared ones
abbrev pub taken_in : List Declaration → List Slot → List (List ℕ)
taken_in E c = names c ++ declared_names E

-- a goal: its context, the line `====`, and what is to be shown
abbrev pub goal_text : List Declaration → Goal → List ℕ
goal_text E g = context_text (taken_in E g.slots) g.slots
    ++ (codes "====" ++ (line_end ++ formula_text (variable_names g.slots) (taken_in E g.slots) g.shown))

-- goals, each behind an empty line
abbrev pub further_text : List Declaration → List Goal → List ℕ
further_text E [] = []
further_text E (g ∷ gs) = line_end ++ (line_end ++ (goal_text E g ++ further_text E gs))

-- goals, with an empty line between two of them
abbrev pub focused_text : List Declaration → List Goal → List ℕ
focused_text E [] = []
focused_text E (g ∷ gs) = goal_text E g ++ further_text E gs

-- the focused goals of an open proof that has a statement
abbrev pub goals_text_in : List Declaration → Option Open → Option (List ℕ)
goals_text_in E None = None
goals_text_in E (Some o) = option_map (λ w. focused_text E o.goals.focused) o.statement

-- the same of a state
abbrev pub goals_text : Script → Option (List ℕ)
goals_text s = goals_text_in s.env s.proof
