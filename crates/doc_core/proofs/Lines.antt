-- Lines that are put one by one.
use Rattle.std.proofs.Common.{◌≡◌, ℕ, ◌+◌, ◌<◌, List, [], ◌∷◌, ◌++◌, length, take, get_or}
use Rattle.std.proofs.Common.{refl, sym, ap, ◌∙◌, subst, append_assoc, append-nil}
use Rattle.std.proofs.lemmas.List.{take_more}
use Rattle.stm_base.specs.Output.{Output, IsPut}
use Rattle.stm_base.proofs.Puts.{IsPut-both}
use Rattle.serapi_ans.specs.Lines.{line_text, lines_text}
use Rattle.serapi_ans.specs.declared.line.Line.{Line}

pub lines_text-append : (ks ls : List Line) → lines_text (ks ++ ls) ≡ lines_text ks ++ lines_text ls
lines_text-append [] ls = refl
lines_text-append (k ∷ ks) ls = ap (λ t. line_text k ++ t) (lines_text-append ks ls)
    ∙ sym (append_assoc (line_text k) (lines_text ks) (lines_text ls))

-- one line more is put
pub put_line : {o p r : Output} (ls : List Line) (i : ℕ) (l : Line) → i < length ls
    → IsPut o (lines_text (take i ls)) p → IsPut p (line_text (get_or ls i l)) r → IsPut o (lines_text (take (i + 1) ls)) r
put_line {o} {p} {r} ls i l h a b =
    let more : lines_text (take (i + 1) ls) ≡ lines_text (take i ls) ++ line_text (get_or ls i l) =
    ap lines_text (take_more ls i l h) ∙ lines_text-append (take i ls) (get_or ls i l ∷ [])
    ∙ ap (λ t. lines_text (take i ls) ++ t) (append-nil (line_text (get_or ls i l))) in
    subst (λ t. IsPut o t r) (sym more) (IsPut-both o p r (lines_text (take i ls)) (line_text (get_or ls i l)) a b)
