-- What is kept by its id: a sentence, whether it was told, and the text of its verdict.
use Rattle.std.specs.Prelude.{ℕ, List, [], Bool, true, false, nat_eq, if◌then◌else◌, Option, Some, None, get_or}
use Rattle.line_theory.specs.Lists.{has}
use Rattle.doc_theory.specs.Documents.{plain, Sentence, Entry}
use Rattle.check_theory.specs.Pieces.{sentence_of}
use Rattle.doc_store.specs.declared.slots.Slot.{Slot}

-- no sentence, which stands for one that went
abbrev pub blank : Sentence
blank = record { text = []; kind = plain }

-- the sentence that is kept, and whether it was told
abbrev pub sentence_in : Option Slot → Sentence
sentence_in None = blank
sentence_in (Some s) = sentence_of s.sentence

abbrev pub is_told : Option Slot → Bool
is_told None = false
is_told (Some s) = s.told

-- what is kept with an id, as an entry of a document
abbrev pub entry_of : ℕ → Option Slot → Entry
entry_of i s = record { id = i; sentence = sentence_in s; told = is_told s }

-- the text of a verdict that was told; none where it is good
abbrev pub text_of : Option Slot → Option (List ℕ)
text_of None = None
text_of (Some s) = s.text

-- what is kept with an id, which is its number in the list
abbrev pub slot_at : List (Option Slot) → ℕ → Option Slot
slot_at slots i = get_or slots i None

abbrev pub entry_at : List (Option Slot) → ℕ → Entry
entry_at slots i = entry_of i (slot_at slots i)

abbrev pub text_at : List (Option Slot) → ℕ → Option (List ℕ)
text_at slots i = text_of (slot_at slots i)

-- a sentence that isn't told
abbrev pub fresh_slot : List ℕ → Slot
fresh_slot bytes = record { sentence = bytes; told = false; text = None }

-- the same sentence, not told any more
abbrev pub lowered : Slot → Slot
lowered s = record { sentence = s.sentence; told = false; text = s.text }

-- the same sentence, told with the text of its verdict
abbrev pub told_with : Option (List ℕ) → Slot → Slot
told_with text s = record { sentence = s.sentence; told = true; text = text }

-- what is kept with an id, where it changes with one id
abbrev pub at_one : ℕ → (Option Slot → Option Slot) → List (Option Slot) → ℕ → Option Slot
at_one id change slots i = if nat_eq i id then change (slot_at slots i) else slot_at slots i

-- the same with each of these ids
abbrev pub at_all : List ℕ → (Option Slot → Option Slot) → List (Option Slot) → ℕ → Option Slot
at_all ids change slots i = if has i ids then change (slot_at slots i) else slot_at slots i
