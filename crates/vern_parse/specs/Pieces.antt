-- Small pieces of a sentence: what stands at the front of some tokens, with the tokens behind it, or the tokens from the one on that can't
-- stand there.
use Rattle.std.specs.Prelude.{◌≡◌, ℕ, Bool, true, false, cond, nat_lt, List, [], ◌∷◌, ◌++◌, length, Option, Result, Ok, Err}
use Rattle.vern_grammar.specs.Trees.{Name, Group}
use Rattle.vern_grammar.specs.Kinds.{Kind, Lexeme}
use Rattle.vern_grammar.specs.Kinds as kind
use Rattle.vern_grammar.specs.Grammar.{group}
use Rattle.vern_grammar.specs.Machine.{State, at}
use Rattle.vern_sentence.specs.Words.{colon}
use Rattle.vern_sentence.specs.Slots.{names, cut, next_place}
use Rattle.vern_sentence.specs.Slots as slots
use Rattle.vern_sentence.specs.Patterns.{sign_front, name_front}
use Rattle.base_core.specs.Answers.{and_then}
use Rattle.vern_parse.specs.Meaning.{frames, mode}
use Rattle.vern_parse.specs.declared.frames.Frame.{Frame as Kept}
use Rattle.vern_parse.specs.declared.frames.Mode.{Mode}
use Rattle.vern_parse.specs.declared.slot.Part.{Part}
use Rattle.vern_parse.specs.declared.slot.Part.TheVariants as part
use Rattle.vern_parse.specs.declared.fault.ParseFault.{ParseFault}
use Rattle.vern_parse.specs.declared.fault.ParseFault.TheVariants as fault
use Rattle.vern_parse.specs.Sources.{Tokenized, Wanted, rest}

-- a `)`
abbrev pub is_closing : Kind → Bool
is_closing kind.closing = true
is_closing _ = false

-- what stands behind a `)`
abbrev pub closes : List Lexeme → Wanted (List Lexeme)
closes [] = Err []
closes (k ∷ ks) = cond (is_closing k.kind) (Ok ks) (Err (k ∷ ks))

-- a name or more
abbrev pub some_names : List Lexeme → Wanted (List Name × List Lexeme)
some_names ks = cond (nat_lt 0 (length (cut names [] ks).0)) (Ok (cut names [] ks)) (Err (cut names [] ks).1)

-- one group more, behind its `(`
abbrev pub a_group : List Group → List Lexeme → Wanted (List Group × List Lexeme)
a_group gs ks = and_then (some_names ks) (λ xs. and_then (sign_front colon xs.1)
    (λ us. and_then (name_front us) (λ s. and_then (closes s.1) (λ vs. Ok (gs ++ (group xs.0 s.0 ∷ []), vs)))))

-- the next state in a part, or none where the token isn't of the part
abbrev pub next_in : Part → State → Lexeme → Option State
next_in part.Expression s k = next_place slots.expression s k
next_in part.Enclosed s k = next_place slots.enclosed s k
next_in part.Shape s k = next_place slots.shape s k
next_in part.Evidence s k = next_place slots.evidence s k

-- the state where the next token isn't of the part, and the tokens from there on
abbrev pub cut_in : Part → State → List Lexeme → State × List Lexeme
cut_in part.Expression s ks = cut slots.expression s ks
cut_in part.Enclosed s ks = cut slots.enclosed s ks
cut_in part.Shape s ks = cut slots.shape s ks
cut_in part.Evidence s ks = cut slots.evidence s ks

-- The parser's state, with the number of the token at which it stands, is this one before these tokens; or memory was wanting.
abbrev pub Stands : Tokenized → Result (Mode × ℕ) ParseFault → List Kept → State × List Lexeme → Type 0
Stands t (Ok (m, n)) s place = place ≡ (at (mode m) (frames s), rest t n)
Stands t (Err (fault.At p)) s place = ⊥
Stands t (Err fault.NoMemory) s place = Unit {0}
