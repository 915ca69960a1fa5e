-- The parts in which the line of a Join's end is put.
use Rattle.std.specs.Prelude.{ℕ, List, [], ◌∷◌, ◌++◌, codes}
use Rattle.sexp_theory.specs.Writing.{text, atom_text}
use Rattle.serapi_ans.specs.Lines.{number, pair, fault_value}

-- what stands before the faults
abbrev pub joined_head : List ℕ → ℕ → List ℕ
joined_head tag sentences =
    codes "(Answer " ++ (atom_text tag ++ (codes " (Joined " ++ (text (pair (codes "sentences") (number sentences)) ++ codes "(faults (")))

-- the faults, one behind the other: nothing stands between two lists
abbrev pub fault_texts : List (ℕ × List ℕ) → List ℕ
fault_texts [] = []
fault_texts (fault ∷ faults) = text (fault_value fault) ++ fault_texts faults

-- what stands behind the faults
abbrev pub joined_end : List ℕ
joined_end = codes "))))" ++ 10 ∷ []
