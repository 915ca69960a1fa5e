-- The verdicts of what is told outside of the bodies of delegated blocks.
use Rattle.std.specs.Prelude.{List, map, Bool, not, ◌&&◌}
use Rattle.line_theory.specs.Lists.{chosen}
use Rattle.doc_theory.specs.Lists.{Member}
use Rattle.doc_theory.specs.Documents.{Document, Mark, is_body, marks}
use Rattle.doc_theory.specs.Checks.{Check, Judged, judged_from, Told}

-- marks that pass a test, with their verdicts
abbrev pub noted_of : {State : Type 0} → Judged State → Told
noted_of j = record { id = j.mark.id; verdict = j.verdict }

abbrev pub picked : {State : Type 0} → Check State → (Mark → Bool) → State → List Mark → List Told
picked L p s ms = map noted_of (chosen (λ j. p j.mark) (judged_from L s ms))

-- told, outside of the bodies of delegated blocks
abbrev pub is_noted : Mark → Bool
is_noted m = not (is_body m.home) && not m.due

abbrev pub noted : {State : Type 0} → Check State → Document → List Told
noted L d = picked L is_noted L.start (marks d)

-- what is told in the second document was told in the first, with the verdict that it has now
abbrev pub Steady : {State : Type 0} → Check State → Document → Document → Type 0
Steady L d e = (t : Told) → Member t (noted L e) → Member t (noted L d)
