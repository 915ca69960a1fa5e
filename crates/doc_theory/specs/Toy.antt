-- A small check that counts goals, with texts of its own.
use Rattle.std.specs.Prelude.{ℕ, suc, ◌-◌, List, [], ◌∷◌, ◌++◌, nat_eq, nat_lt, if◌then◌else◌, codes}
use Rattle.serapi_cmd.specs.declared.command.QueryKind.{QueryKind}
use Rattle.serapi_cmd.specs.declared.command.QueryKind.TheVariants.{Definition}
use Rattle.doc_theory.specs.Documents.{Closer, qed, admitted, defined, abort, Kind, plain, begin, inner, close, Sentence}
use Rattle.doc_theory.specs.Checks.{Piece, piece, unread, Verdict, good, wrong, Found, texts, unknown_name, Check}

-- how many statements there are, how many goals are left of the open proof, and the id of its first fault, or 0
pub record State : Type 0 where
  pub known : ℕ
  pub left : ℕ
  pub fault : ℕ

-- ---- texts: four numbers a sentence, its offsets, its kind and what it says

abbrev pub kind_of : ℕ → Kind
kind_of k =
    if nat_eq k 0 then plain
    else (if nat_eq k 1 then begin
    else (if nat_eq k 2 then inner
    else (if nat_eq k 3 then close qed
    else (if nat_eq k 4 then close admitted
    else (if nat_eq k 5 then close defined else close abort)))))

abbrev pub sentence_of : ℕ → ℕ → Sentence
sentence_of k t = record { text = t ∷ []; kind = kind_of k }

-- a kind above 6 is one that can't be read
abbrev pub cut_text : List ℕ → List Piece
cut_text (p ∷ q ∷ k ∷ t ∷ ns) = if nat_lt k 7 then piece p q (sentence_of k t) ∷ cut_text ns else unread p ∷ []
cut_text other = []

-- ---- what a sentence is given

-- inside of a proof the text 1 splits a goal, 2 closes one, 3 doesn't match, 4 closes one by a statement, and any other changes nothing
abbrev pub first_of : List ℕ → ℕ
first_of [] = 0
first_of (n ∷ ns) = n

abbrev pub blocked : ℕ → Verdict
blocked f = wrong (codes "blocked by " ++ f ∷ [])

abbrev pub or_blocked : State → Verdict → Verdict
or_blocked s v = if nat_eq 0 s.fault then v else blocked s.fault

abbrev pub unfinished : ℕ → Verdict
unfinished n = if nat_eq 0 n then good else wrong (n ∷ codes " goals left")

abbrev pub said_inside : State → ℕ → Verdict
said_inside s t =
    if nat_eq 3 t then wrong (codes "cannot match")
    else (if nat_eq 4 t then (if nat_eq 0 s.known then wrong (codes "unknown name") else good) else good)

abbrev pub toy_verdict : State → Kind → List ℕ → Verdict
toy_verdict s inner t = or_blocked s (said_inside s (first_of t))
toy_verdict s (close qed) t = or_blocked s (unfinished s.left)
toy_verdict s (close defined) t = or_blocked s (unfinished s.left)
toy_verdict s (close other) t = or_blocked s good
toy_verdict s other t = good

-- ---- what it leaves

abbrev pub faulty : State → ℕ → State
faulty s i = record { known = s.known; left = s.left; fault = i }

abbrev pub with_left : State → ℕ → State
with_left s n = record { known = s.known; left = n; fault = 0 }

abbrev pub refined : State → ℕ → ℕ → State
refined s i t =
    if nat_eq 1 t then with_left s (suc s.left)
    else (if nat_eq 2 t then with_left s (s.left - 1)
    else (if nat_eq 3 t then faulty s i
    else (if nat_eq 4 t then (if nat_eq 0 s.known then faulty s i else with_left s (s.left - 1)) else s)))

abbrev pub toy_skip : State → Closer → State
toy_skip s abort = record { known = s.known; left = 0; fault = 0 }
toy_skip s other = record { known = suc s.known; left = 0; fault = 0 }

-- Defined adds its statement only where the proof is whole
abbrev pub finished : State → State
finished s = if nat_eq 0 s.fault then (if nat_eq 0 s.left then toy_skip s defined else toy_skip s abort) else toy_skip s abort

abbrev pub toy_leaves : State → ℕ → Kind → List ℕ → State
toy_leaves s i plain t = s
toy_leaves s i begin t = record { known = s.known; left = 1; fault = 0 }
toy_leaves s i inner t = if nat_eq 0 s.fault then refined s i (first_of t) else s
toy_leaves s i (close defined) t = finished s
toy_leaves s i (close c) t = toy_skip s c

-- a state tells how many goals are left, and knows no name
abbrev pub told_by : State → QueryKind → Found
told_by s (Definition name) = unknown_name name
told_by s other = texts ((s.left ∷ []) ∷ [])

abbrev pub toy : Check State
toy = record {
  pieces = cut_text;
  start = record { known = 0; left = 0; fault = 0 };
  one = λ s i x. record { verdict = toy_verdict s x.kind x.text; state = toy_leaves s i x.kind x.text };
  skip = toy_skip;
  ask = told_by;
}
