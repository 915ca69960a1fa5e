-- Answers that are the one that is wanted, or want of memory.
use Rattle.std.specs.Prelude.{◌≡◌, Option, Some, None, Result, Ok, Err}

-- what is read first, and then what is read with it; the first fault stands
abbrev pub and_then : {X Y F : Type 0} → Result X F → (X → Result Y F) → Result Y F
and_then (Ok x) f = f x
and_then (Err fault) f = Err fault

-- this fault is wanted; want of memory, which is none of the faults, says nothing of what is wanted
abbrev pub IsRefusal : {Y F : Type 0} → Option F → Result Y F → Type 0
IsRefusal None wanted = Unit {0}
IsRefusal (Some fault) wanted = wanted ≡ Err fault

-- The answer is the wanted one, or want of memory. A value stands for `meaning` of it, and an error for the fault
-- that `fault_of` gives, which is None for want of memory alone.
abbrev pub Answers : {X Y E F : Type 0} → (X → Y) → (E → Option F) → Result X E → Result Y F → Type 0
Answers meaning fault_of (Ok x) wanted = wanted ≡ Ok (meaning x)
Answers meaning fault_of (Err e) wanted = IsRefusal (fault_of e) wanted

-- the same of an answer that is there exactly where one is wanted
abbrev pub AnswersWhere : {X Y E F : Type 0} → (X → Y) → (E → Option F) → Option (Result X E) → Option (Result Y F) → Type 0
AnswersWhere meaning fault_of (Some answer) (Some wanted) = Answers meaning fault_of answer wanted
AnswersWhere meaning fault_of None None = Unit {0}
AnswersWhere meaning fault_of answer wanted = ⊥
