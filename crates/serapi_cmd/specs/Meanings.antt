-- What the values of the code stand for: words of private contracts alone.
use Rattle.std.specs.Prelude.{ℕ, List, map}
use Rattle.std.specs.Borrow.{Bor}
use Rattle.sexp_theory.specs.Values.{Value, Values, values}
use Rattle.sexp_core.specs.declared.sexp.Sexp.{Sexp}
use Rattle.sexp_core.specs.Sexp.{meaning}
use Rattle.serapi_cmd.specs.Words as words
use Rattle.serapi_cmd.specs.Words.{add_word, cancel_word, exec_word, query_word, join_word, quit_word}
use Rattle.serapi_cmd.specs.declared.read.Word.{Word}
use Rattle.serapi_cmd.specs.declared.read.Word.TheVariants.{Add, Cancel, Exec, Query, Join, Quit}

-- the values that a list of the code's stands for
abbrev pub meanings : List Sexp → Values
meanings fields = values (map meaning fields)

-- the value of one field
abbrev pub of_one : Bor Sexp → Value
of_one field = meaning field.now

-- the values of two fields
abbrev pub of_two : Bor Sexp × Bor Sexp → Value × Value
of_two fields = (meaning fields.0.now, meaning fields.1.now)

-- the bytes of an atom and the value of a field
abbrev pub of_pair : Bor (List ℕ) × Bor Sexp → List ℕ × Value
of_pair fields = (fields.0.now, meaning fields.1.now)

-- a command word
abbrev pub word_meaning : Word → words.Word
word_meaning Add = add_word
word_meaning Cancel = cancel_word
word_meaning Exec = exec_word
word_meaning Query = query_word
word_meaning Join = join_word
word_meaning Quit = quit_word
