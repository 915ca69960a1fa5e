-- An input that is read piece after piece.
use Rattle.std.proofs.Common.{◌≡◌, ℕ, ◌+◌, List, ◌++◌, take, drop, length, Option, Some, None, IfSome, sym, ap, ◌∙◌, arith, length-drop, length-append}
use Rattle.std.proofs.Math.Seq.{take-add, take-append_seam, drop-append_seam}
use Rattle.std.proofs.lemmas.List.{drop-drop}
use Rattle.std.specs.Io.KnownBytes.{Consumes}
use Rattle.batch_check.specs.Headline.{IsTaken}

-- the text is the bytes that were taken, the first that the source had left
abbrev pub IsSoFar : Option (List ℕ) → Option (List ℕ) → List ℕ → ℕ → Type 0
IsSoFar before now text taken = IfSome before (λ all. IsTaken all now taken × (text ≡ take taken all))

-- a piece more
pub so_far_more : (before now new : Option (List ℕ)) (text piece : List ℕ) (taken : ℕ) → IsSoFar before now text taken
    → Consumes now new piece → IsSoFar before new (text ++ piece) (taken + length piece)
so_far_more None now new text piece taken h k = tt
so_far_more (Some all) None new text piece taken (t, e) k = absurd (cc)
so_far_more (Some all) (Some xs) None text piece taken h k = absurd k
so_far_more (Some all) (Some xs) (Some ys) text piece taken (t, e) k =
    let d : drop taken all ≡ piece ++ ys = cc in (
      record {
        within = omega (arith, t.within, ap length d, length-drop taken all, length-append piece ys);
        rest = ap Some (sym (drop-append_seam piece ys) ∙ ap (drop (length piece)) (sym d) ∙ drop-drop (length piece) taken all);
      },
      ap (λ l. l ++ piece) e ∙ ap (λ l. take taken all ++ l) (sym (take-append_seam piece ys) ∙ ap (take (length piece)) (sym d))
          ∙ sym (take-add taken (length piece) all),
    )

-- so many bytes were taken
pub taken_so_far : (before now : Option (List ℕ)) (text : List ℕ) (taken : ℕ) → IsSoFar before now text taken
    → IfSome before (λ all. IsTaken all now taken)
taken_so_far None now text taken h = tt
taken_so_far (Some all) now text taken h = h.0
