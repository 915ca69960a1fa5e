-- Tokens that are those of a text are slices of it.
use Rattle.std.proofs.Common.{◌≡◌, ℕ, List, Result, Ok, Err, IfOk, subst, sym}
use Rattle.std.specs.Prelude.{All}
use Rattle.vern_lex.specs.Tokens.{IsTokenOf, tokens_of}
use Rattle.vern_lex.specs.declared.token.Token.{Token}

pub sliced : {E : Type 0} (r : Result (List Token) E) (text : List ℕ) → IfOk r (λ found. found ≡ tokens_of text)
    → All (IsTokenOf text) (tokens_of text) → IfOk r (λ found. All (IsTokenOf text) found)
sliced (Ok found) text e each = subst (All (IsTokenOf text)) (sym e) each
sliced (Err _) text e each = tt
