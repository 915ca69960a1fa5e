-- The parameters of a definition as they are bound one after another; proofs/Bound joins these to elab_theory's.
use Rattle.std.specs.Prelude.{ℕ, List, [], ◌∷◌, ◌++◌, if◌then◌else◌, Result, Ok, Err}
use Rattle.vern_grammar.specs.Trees.{Name, Group}
use Rattle.env_theory.specs.Declarations.{Parameter, Declaration}
use Rattle.base_core.specs.Answers.{and_then}
use Rattle.elab_theory.specs.Faults.{Fault, already_declared}
use Rattle.elab_theory.specs.Locals.{known}
use Rattle.elab_theory.specs.Expressions.{sort_at}
use Rattle.elab_theory.specs.Sentences.{is_among, names_of, locals_of}

-- parameters and one more, which has this name and this sort
abbrev pub with_parameter : List Parameter → List ℕ → List ℕ → List Parameter
with_parameter ps n s = ps ++ (record { name = n; sort = s } ∷ [])

-- parameters and those of these names, each new among those before it, with this sort
abbrev pub names_added : List Parameter → List ℕ → List Name → Result (List Parameter) Fault
names_added ps s [] = Ok ps
names_added ps s (x ∷ xs) =
    if is_among x.text (names_of ps) then Err (already_declared x.span) else names_added (with_parameter ps x.text s) s xs

-- parameters and those of a group, whose names are looked at before its sort; the sort is looked up under the parameters before
abbrev pub group_added : List Declaration → List Parameter → Group → Result (List Parameter) Fault
group_added E ps g = and_then (names_added ps g.sort.text g.names)
    (λ qs. and_then (sort_at (known E (locals_of ps) g.sort.text) g.sort) (λ _. Ok qs))

-- parameters and those of groups, in order
abbrev pub groups_added : List Declaration → List Parameter → List Group → Result (List Parameter) Fault
groups_added E ps [] = Ok ps
groups_added E ps (g ∷ gs) = and_then (group_added E ps g) (λ qs. groups_added E qs gs)
