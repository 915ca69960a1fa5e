-- The machine over an atom without quotes.
use Rattle.std.proofs.Common.{◌≡◌, ◌≢◌, ℕ, List, [], ◌∷◌, ◌++◌, true, sym, ap, ◌∙◌, subst, append_assoc, append-nil, arith}
use Rattle.std.proofs.lemmas.List.Elements.{All-head, All-tail}
use Rattle.std.specs.List.{AllPass}
use Rattle.sexp_theory.specs.Values.{Value}
use Rattle.sexp_theory.specs.Signs.{is_plain}
use Rattle.sexp_theory.specs.Spelling.{IsRun, HasNoHashBar}
use Rattle.sexp_theory.specs.Machine.{on, step, run_mode}
use Rattle.sexp_theory.proofs.Lists.{last, last_push, split_last}
use Rattle.sexp_theory.proofs.Walks.{through, through_step}
use Rattle.sexp_theory.proofs.Steps.{standing, running, stands_plain, runs_on}

-- a run with a byte more
pub run_more : (bytes : List ℕ) (lists : List (List Value)) (b : ℕ) → is_plain b ≡ true → (last 32 bytes ≡ 35 → b ≢ 124)
    → step (running bytes lists) b ≡ on (running (bytes ++ b ∷ []) lists)
run_more bytes lists b p h = runs_on bytes lists b p h
    ∙ ap (λ l. on (record { mode = run_mode l; atom = bytes ++ b ∷ []; lists = lists })) (sym (last_push 32 bytes b))

-- the last byte of bytes that aren't empty stands at their end
pub ends_with : (bytes : List ℕ) (b : ℕ) → last 32 bytes ≡ b → b ≢ 32 → (front : List ℕ) × (bytes ≡ front ++ b ∷ [])
ends_with [] b e h = absurd (h (sym e))
ends_with (c ∷ bytes) b e h = let r = split_last c bytes in (r.0, r.1 ∙ ap (λ l. r.0 ++ l ∷ []) e)

no_bar_behind : (front more : List ℕ) (b : ℕ) → HasNoHashBar (front ++ b ∷ more) → last 32 front ≡ 35 → b ≢ 124
no_bar_behind front more b h e is =
    let r = ends_with front 35 e (λ k. absurd (omega (arith, k))) in
    h r.0 more (ap (λ xs. xs ++ b ∷ more) r.1 ∙ append_assoc r.0 (35 ∷ []) (b ∷ more) ∙ ap (λ c. r.0 ++ 35 ∷ c ∷ more) is)

runs_through : (front bytes : List ℕ) (lists : List (List Value)) → AllPass is_plain bytes → HasNoHashBar (front ++ bytes)
    → through (running front lists) bytes ≡ on (running (front ++ bytes) lists)
runs_through front [] lists p h = ap (λ xs. on (running xs lists)) (sym (append-nil front))
runs_through front (b ∷ bytes) lists p h =
    through_step (running front lists) (running (front ++ b ∷ []) lists) b bytes
    (run_more front lists b (All-head (λ c. is_plain c ≡ true) b bytes p) (no_bar_behind front bytes b h))
    ∙ runs_through (front ++ b ∷ []) bytes lists (All-tail (λ c. is_plain c ≡ true) b bytes p)
    (subst HasNoHashBar (sym (append_assoc front (b ∷ []) bytes)) h)
    ∙ ap (λ xs. on (running xs lists)) (append_assoc front (b ∷ []) bytes)

pub run_through : (bytes : List ℕ) (lists : List (List Value)) → IsRun bytes → through (standing lists) bytes ≡ on (running bytes lists)
run_through [] lists r = absurd (omega (arith, r.some))
run_through (b ∷ bytes) lists r =
    through_step (standing lists) (running (b ∷ []) lists) b bytes
    (stands_plain lists b (All-head (λ c. is_plain c ≡ true) b bytes r.plain))
    ∙ runs_through (b ∷ []) bytes lists (All-tail (λ c. is_plain c ≡ true) b bytes r.plain) r.no_hash_bar
