-- The numbers that the theorem speaks of. The code's constants are these: a change of one of them is no proof of this page.
use Rattle.std.specs.Prelude.{ℕ}

-- ---- statuses of the program

-- the input ended, or Quit was read
abbrev pub DONE : ℕ
DONE = 0

-- there were words
abbrev pub BAD_WORDS : ℕ
BAD_WORDS = 2

-- a read failed
abbrev pub READ_FAULT : ℕ
READ_FAULT = 3

-- a write failed
abbrev pub WRITE_FAULT : ℕ
WRITE_FAULT = 4

-- memory was wanting where a command wasn't begun yet
abbrev pub NO_MEMORY : ℕ
NO_MEMORY = 5

-- the input ended inside of an item
abbrev pub TRUNCATED : ℕ
TRUNCATED = 6

-- the input is longer than its limit
abbrev pub TOO_LONG : ℕ
TOO_LONG = 7

-- ---- limits

-- the most bytes of an input
abbrev pub INPUT_LIMIT : ℕ
INPUT_LIMIT = 4294967296

-- the most sentences that live in a document
abbrev pub LIVE_LIMIT : ℕ
LIVE_LIMIT = 1048576
