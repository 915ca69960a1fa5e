-- A result changes nothing that a command tells: neither what is due, nor what was told outside of delegated blocks.
use Rattle.std.proofs.Common.{◌≡◌, ℕ, sym, ap, ◌∙◌}
use Rattle.line_theory.specs.Lists.{chosen}
use Rattle.doc_theory.specs.Documents.{Document, marks, report}
use Rattle.doc_theory.specs.Checks.{Check, judged_from, before}
use Rattle.doc_theory.specs.Answers.{due}
use Rattle.doc_theory.specs.Notes.{picked, is_noted, noted}
use Rattle.doc_theory.proofs.Forgotten.{marks_forget, report_forget}

marks_report : (n : ℕ) (d : Document) → marks (report n d) ≡ marks d
marks_report n d = sym (marks_forget (report n d)) ∙ ap marks (report_forget n d) ∙ marks_forget d

pub due_report : {State : Type 0} (L : Check State) (n i : ℕ) (d : Document) → due L (report n d) i ≡ due L d i
due_report L n i d = ap (λ ms. chosen (λ j. j.mark.due) (before i (judged_from L L.start ms))) (marks_report n d)

pub noted_report : {State : Type 0} (L : Check State) (n : ℕ) (d : Document) → noted L (report n d) ≡ noted L d
noted_report L n d = ap (picked L is_noted L.start) (marks_report n d)
