-- The lines of a context's entries, from the oldest on.
use Rattle.std.proofs.Common.{◌≡◌, ℕ, List, [], ◌++◌, sym, ap, ◌∙◌}
use Rattle.fol_theory.specs.Slots.{Slot}
use Rattle.step_theory.specs.Texts.{variable_names, context_text}

-- Of the context the newer slots are left. The names are those of the variables of the others, whose lines stand behind the first text.
pub record IsPut (taken : List (List ℕ)) (c newer : List Slot) (ns : List (List ℕ)) (first text : List ℕ) : Type 0 where
  pub older : List Slot
  pub split : newer ++ older ≡ c
  pub names : ns ≡ variable_names older
  pub lines : text ≡ first ++ context_text taken older

-- all are
pub all_put : (taken : List (List ℕ)) (c newer : List Slot) (ns : List (List ℕ)) (first text : List ℕ) → IsPut taken c newer ns first text
    → newer ≡ [] → (ns ≡ variable_names c) × (text ≡ first ++ context_text taken c)
all_put taken c newer ns first text p e =
    let whole : IsPut.older p ≡ c = ap (λ l. l ++ IsPut.older p) (sym e) ∙ IsPut.split p in (
      IsPut.names p ∙ ap variable_names whole,
      IsPut.lines p ∙ ap (λ l. first ++ context_text taken l) whole,
    )
