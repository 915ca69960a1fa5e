-- The numbers that the theorem speaks of. The code's constants are these: a change of one of them is no proof of it.
use Rattle.std.specs.Prelude.{ℕ}

-- ---- statuses of the program

-- no fault, and checking didn't stop before the text's end
abbrev pub CLEAN : ℕ
CLEAN = 0

-- a fault, or checking stopped
abbrev pub FAULTY : ℕ
FAULTY = 1

-- there were words
abbrev pub BAD_WORDS : ℕ
BAD_WORDS = 2

-- a read failed
abbrev pub READ_FAULT : ℕ
READ_FAULT = 3

-- a write failed
abbrev pub WRITE_FAULT : ℕ
WRITE_FAULT = 4

-- memory was wanting
abbrev pub NO_MEMORY : ℕ
NO_MEMORY = 5

-- the input is longer than its limit
abbrev pub TOO_LONG : ℕ
TOO_LONG = 7

-- ---- limits

-- the most bytes of an input
abbrev pub INPUT_LIMIT : ℕ
INPUT_LIMIT = 4294967296

-- the most sentences that are checked
abbrev pub SENTENCE_LIMIT : ℕ
SENTENCE_LIMIT = 1048576

-- the id of the first sentence
abbrev pub FIRST_ID : ℕ
FIRST_ID = 2
