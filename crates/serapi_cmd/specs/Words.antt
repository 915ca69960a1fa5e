-- The words that commands begin with.
use Rattle.std.specs.Prelude.{ℕ, List, Option, Some, None, if◌then◌else◌, codes}
use Rattle.serapi_cmd.specs.Fields.{is_word}

-- the six words
pub data Word : Type 0 where
  add_word cancel_word exec_word query_word join_word quit_word : Word

-- the word that bytes are, if they are one
abbrev pub word_of : List ℕ → Option Word
word_of bytes =
    if is_word bytes (codes "Add") then Some add_word
    else (if is_word bytes (codes "Cancel") then Some cancel_word
    else (if is_word bytes (codes "Exec") then Some exec_word
    else (if is_word bytes (codes "Query") then Some query_word
    else (if is_word bytes (codes "Join") then Some join_word
    else (if is_word bytes (codes "Quit") then Some quit_word
    else None)))))
