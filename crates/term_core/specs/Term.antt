-- The term of the theory that a term stands for, and the list of terms that a list stands for.
use Rattle.std.specs.Prelude.{List, map, Option, Vec}
use Rattle.std.specs.declared.alloc.Global.{Global}
use Rattle.std.specs.Option.{option_map_or}
use Rattle.std.specs.Arc.{arc_slice_items}
use Rattle.std.specs.declared.sync.ArcSlice.{ArcSlice}
use Rattle.term_core.specs.declared.term.Term.{Term}
use Rattle.term_core.specs.declared.term.Term.TheOpen.{Term-F, Var, App}
use Rattle.term_core.specs.declared.term.Term.TheFolds.{fold-Term}
use Rattle.fol_theory.specs.Syntax.{Term as Meaning, Terms as ListMeaning, var, app, terms}

-- what a term stands for, from what its arguments stand for
abbrev pub meaning_step : Term-F Meaning → Meaning
meaning_step (Var i) = var i
meaning_step (App f ts) = app f (terms (arc_slice_items ts))

-- what a term stands for
abbrev pub meaning : Term → Meaning
meaning = fold-Term Meaning meaning_step

-- what a list of terms stands for
abbrev pub list_meaning : List Term → ListMeaning
list_meaning ts = terms (map meaning ts)

-- ---- what a walk leaves is told by None: the new value, or the old one where there is none

-- what a term has become
abbrev pub outcome : Option Term → Term → Meaning
outcome new t = option_map_or meaning new (meaning t)

-- what a list of terms has become
abbrev pub list_outcome : Option (ArcSlice Term Global) → List Term → ListMeaning
list_outcome new ts = option_map_or (λ us. list_meaning (arc_slice_items us)) new (list_meaning ts)

-- what the first terms of a list have become, term by term
abbrev pub each_outcome : Option (Vec Term Global) → List Term → List Meaning
each_outcome new ts = option_map_or (λ us. map meaning us.items) new (map meaning ts)
