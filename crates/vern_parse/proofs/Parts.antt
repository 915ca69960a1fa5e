-- How a part of a sentence goes on, token by token.
use Rattle.std.proofs.Common.{◌≡◌, Bool, true, false, cond, ◌&&◌, List, [], ◌∷◌, Option, None, Some, refl, ap}
use Rattle.vern_grammar.specs.Kinds.{Lexeme}
use Rattle.vern_grammar.specs.Machine.{State, step}
use Rattle.vern_sentence.specs.Slots.{is_closed, is_simple, cut}
use Rattle.vern_sentence.specs.Slots as slots
use Rattle.vern_parse.specs.declared.slot.Part.{Part}
use Rattle.vern_parse.specs.declared.slot.Part.TheVariants as part
use Rattle.vern_parse.specs.Answers.{is_taken}
use Rattle.vern_parse.specs.Pieces.{next_in, cut_in}

abbrev Stop : Type 0
Stop = State × List Lexeme

pub part_ends : (i : Part) (s : State) → ◌≡◌ {A = Stop} (cut_in i s []) (s, [])
part_ends part.Expression s = refl
part_ends part.Enclosed s = refl
part_ends part.Shape s = refl
part_ends part.Evidence s = refl

pub part_stops : (i : Part) (s : State) (k : Lexeme) (ks : List Lexeme) → is_taken (next_in i s k) ≡ false
    → ◌≡◌ {A = Stop} (cut_in i s (k ∷ ks)) (s, k ∷ ks)
part_stops i s k ks e = by_part i (next_in i s k) refl e
  where
    by_part : (j : Part) (m : Option State) → next_in j s k ≡ m → is_taken m ≡ false → ◌≡◌ {A = Stop} (cut_in j s (k ∷ ks)) (s, k ∷ ks)
    by_part j (Some z) q h = cc
    by_part part.Expression None q h = ap (λ m. elim m [ None ↦ (s, k ∷ ks) | Some z ↦ cut slots.expression z ks ]) q
    by_part part.Enclosed None q h = ap (λ m. elim m [ None ↦ (s, k ∷ ks) | Some z ↦ cut slots.enclosed z ks ]) q
    by_part part.Shape None q h = ap (λ m. elim m [ None ↦ (s, k ∷ ks) | Some z ↦ cut slots.shape z ks ]) q
    by_part part.Evidence None q h = ap (λ m. elim m [ None ↦ (s, k ∷ ks) | Some z ↦ cut slots.evidence z ks ]) q

pub part_goes : (i : Part) (s z : State) (k : Lexeme) (ks : List Lexeme) → is_taken (next_in i s k) ≡ true → step s k ≡ Some z
    → ◌≡◌ {A = Stop} (cut_in i s (k ∷ ks)) (cut_in i z ks)
part_goes part.Expression s z k ks t e = ap (λ m. elim m [ None ↦ (s, k ∷ ks) | Some y ↦ cut slots.expression y ks ]) e
part_goes part.Shape s z k ks t e = ap (λ m. elim m [ None ↦ (s, k ∷ ks) | Some y ↦ cut slots.shape y ks ]) e
part_goes part.Enclosed s z k ks t e = by_closed (is_closed s.stack) (step s k) e t
  where
    by_closed : (b : Bool) (m : Option State) → m ≡ Some z → is_taken (cond b None m) ≡ true
        → ◌≡◌ {A = Stop} (elim (cond b None m) [ None ↦ (s, k ∷ ks) | Some y ↦ cut slots.enclosed y ks ]) (cut slots.enclosed z ks)
    by_closed true m q h = cc
    by_closed false m q h = ap (λ n. elim n [ None ↦ (s, k ∷ ks) | Some y ↦ cut slots.enclosed y ks ]) q
part_goes part.Evidence s z k ks t e = by_simple (is_simple k.kind) (step s k) e t
  where
    by_simple : (b : Bool) (m : Option State) → m ≡ Some z → is_taken (cond b m None) ≡ true
        → ◌≡◌ {A = Stop} (elim (cond b m None) [ None ↦ (s, k ∷ ks) | Some y ↦ cut slots.evidence y ks ]) (cut slots.evidence z ks)
    by_simple false m q h = cc
    by_simple true m q h = ap (λ n. elim n [ None ↦ (s, k ∷ ks) | Some y ↦ cut slots.evidence y ks ]) q

pub refused_is_not_taken : (i : Part) (s : State) (k : Lexeme) → is_taken (next_in i s k) ≡ true → step s k ≡ None → ⊥
refused_is_not_taken part.Expression s k t e = by_none (step s k) e t
  where
    by_none : (m : Option State) → m ≡ None → is_taken m ≡ true → ⊥
    by_none None q h = cc
    by_none (Some z) q h = cc
refused_is_not_taken part.Shape s k t e = by_none (step s k) e t
  where
    by_none : (m : Option State) → m ≡ None → is_taken m ≡ true → ⊥
    by_none None q h = cc
    by_none (Some z) q h = cc
refused_is_not_taken part.Enclosed s k t e = by_closed (is_closed s.stack) (step s k) e t
  where
    by_closed : (b : Bool) (m : Option State) → m ≡ None → is_taken (cond b None m) ≡ true → ⊥
    by_closed true m q h = cc
    by_closed false None q h = cc
    by_closed false (Some z) q h = cc
refused_is_not_taken part.Evidence s k t e = by_simple (is_simple k.kind) (step s k) e t
  where
    by_simple : (b : Bool) (m : Option State) → m ≡ None → is_taken (cond b m None) ≡ true → ⊥
    by_simple false m q h = cc
    by_simple true None q h = cc
    by_simple true (Some z) q h = cc

pub ruleset laws = (part_ends, part_stops, part_goes, refused_is_not_taken)
