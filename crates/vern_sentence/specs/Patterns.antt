-- What may follow in a sentence, step by step, and what reading it gives.
use Rattle.std.specs.Prelude.{Bool, false, List, [], ◌∷◌, drop, Option, Some, None, Result, Ok, Err, if◌then◌else◌}
use Rattle.base_core.specs.Answers.{and_then}
use Rattle.vern_grammar.specs.Trees.{Name}
use Rattle.vern_grammar.specs.Kinds.{Lexeme}
use Rattle.vern_sentence.specs.Trees.{Sentence}
use Rattle.vern_sentence.specs.Words.{Sign, is_sign}
use Rattle.vern_sentence.specs.Slots.{Slot, Tree, name_of, first_place, tree_at, cut}

-- ---- the front of some tokens: what it is, with the tokens behind it, or the tokens from the one on that can't stand there

-- a sign
abbrev pub sign_front : Sign → List Lexeme → Result (List Lexeme) (List Lexeme)
sign_front s [] = Err []
sign_front s (k ∷ ks) = if is_sign s k.kind then Ok ks else Err (k ∷ ks)

-- the name that the first token is, if it is one
abbrev pub name_at : Lexeme → List Lexeme → Option Name → Result (Name × List Lexeme) (List Lexeme)
name_at k ks None = Err (k ∷ ks)
name_at k ks (Some x) = Ok (x, ks)

-- a name
abbrev pub name_front : List Lexeme → Result (Name × List Lexeme) (List Lexeme)
name_front [] = Err []
name_front (k ∷ ks) = name_at k ks (name_of k)

-- the tree of a part, if there is one, and the tokens behind it
abbrev pub part_at : (i : Slot) → List Lexeme → Option (Tree i) → Result (Tree i × List Lexeme) (List Lexeme)
part_at i rest None = Err rest
part_at i rest (Some t) = Ok (t, rest)

-- a part of any length: as far as its machine takes tokens, where that is a whole part
abbrev pub part_front : (i : Slot) → List Lexeme → Result (Tree i × List Lexeme) (List Lexeme)
part_front i ts = part_at i (cut i (first_place i) ts).1 (tree_at i (cut i (first_place i) ts).0)

-- whether a sign stands first
abbrev pub is_next : Sign → List Lexeme → Bool
is_next s [] = false
is_next s (k ∷ ks) = is_sign s k.kind

-- no token more
abbrev pub all_read : Sentence → List Lexeme → Result Sentence (List Lexeme)
all_read t [] = Ok t
all_read t (k ∷ ks) = Err (k ∷ ks)

-- ---- patterns

-- No token more; a sign, and then what follows; a name; a part of any length; what follows a sign, or, where it isn't next, something else.
pub data Pattern : Type 0 where
  done : Sentence → Pattern
  fixed : Sign → Pattern → Pattern
  name : (Name → Pattern) → Pattern
  slot : (i : Slot) → (Tree i → Pattern) → Pattern
  option : Sign → Pattern → Pattern → Pattern

-- The tree of the tokens, or the tokens from the one on that can't follow. The tokens are gone through once, from the front.
abbrev pub reading : Pattern → List Lexeme → Result Sentence (List Lexeme)
reading (done t) ts = all_read t ts
reading (fixed s p) ts = and_then (sign_front s ts) (λ us. reading p us)
reading (name f) ts = and_then (name_front ts) (λ w. reading (f w.0) w.1)
reading (slot i f) ts = and_then (part_front i ts) (λ w. reading (f w.0) w.1)
reading (option s p q) ts = if is_next s ts then reading p (drop 1 ts) else reading q ts
