-- Tokens that are put one after the other are spelled.
use Rattle.std.proofs.Common.{◌≡◌, ℕ, List, [], ◌∷◌, ◌++◌, Bool, true, false, refl, sym, ap, ◌∙◌, append_assoc, append-nil}
use Rattle.vern_grammar.specs.Kinds.{Kind, opening, closing, comma, other}
use Rattle.print_theory.specs.Spelling.{spelling, between, spell_behind, spell}
use Rattle.print_theory.specs.Printing.{enclosed}
use Rattle.term_print.specs.Output.{Written, written, blank, gap, is_opening, put_token, put_tokens, opened_by, closed_by}

pub puts_append : (w : Written) (ks ls : List Kind) → put_tokens w (ks ++ ls) ≡ put_tokens (put_tokens w ks) ls
puts_append w [] ls = refl
puts_append w (k ∷ ks) ls = puts_append (put_token w k) ks ls

gap_is : (k l : Kind) → gap (is_opening k) l ≡ between k l
gap_is opening closing = refl
gap_is opening comma = refl
gap_is opening (other t) = refl
gap_is opening l = refl
gap_is k closing = refl
gap_is k comma = refl
gap_is k (other t) = refl
gap_is k l = refl

behind_put : (bytes : List ℕ) (k : Kind) (ks : List Kind) → (put_tokens (written bytes (is_opening k)) ks).bytes ≡ bytes
    ++ spell_behind k ks
behind_put bytes k [] = sym (append-nil bytes)
behind_put bytes k (l ∷ ks) =
    behind_put (bytes ++ (gap (is_opening k) l ++ spelling l)) l ks ∙ append_assoc bytes (gap (is_opening k) l ++ spelling l)
    (spell_behind l ks)
    ∙ ap (λ r. bytes ++ r) (append_assoc (gap (is_opening k) l) (spelling l) (spell_behind l ks)) ∙
    ap (λ g. bytes ++ (g ++ (spelling l ++ spell_behind l ks))) (gap_is k l)

-- at the front of a text
pub put_all : (ks : List Kind) → (put_tokens blank ks).bytes ≡ spell ks
put_all [] = refl
put_all (k ∷ ks) = behind_put [] opening (k ∷ ks)

pub enclosed_is : (b : Bool) (ks : List Kind) → enclosed b ks ≡ opened_by b ++ (ks ++ closed_by b)
enclosed_is true ks = refl
enclosed_is false ks = sym (append-nil ks)

closed_put : (w : Written) (ks : List Kind) (due : Bool) → put_tokens (put_tokens (put_tokens w (opened_by due)) ks)
    (closed_by due) ≡ put_tokens w (enclosed due ks)
closed_put w ks due =
    sym (puts_append (put_tokens w (opened_by due)) ks (closed_by due)) ∙
    sym (puts_append w (opened_by due) (ks ++ closed_by due)) ∙ ap (put_tokens w) (sym (enclosed_is due ks))

-- what is put between parentheses, where they are due
pub closed_by_steps : (w a b : Written) (ks : List Kind) (due : Bool) → a ≡ put_tokens w (opened_by due) → b ≡ put_tokens a ks →
    put_tokens b (closed_by due) ≡ put_tokens w (enclosed due ks)
closed_by_steps w a b ks due e f = ap (λ b. put_tokens b (closed_by due)) (f ∙ ap (λ a. put_tokens a ks) e) ∙ closed_put w ks due

-- two operands with a sign
pub joined_by_steps : (a b c d : Written) (ks ls : List Kind) (k : Kind) → b ≡ put_tokens a ks → c ≡ put_token b k →
    d ≡ put_tokens c ls → d ≡ put_tokens a (ks ++ (k ∷ ls))
joined_by_steps a b c d ks ls k e f g = g ∙ ap (λ c. put_tokens c ls) (f ∙ ap (λ b. put_token b k) e) ∙ sym (puts_append a ks (k ∷ ls))
