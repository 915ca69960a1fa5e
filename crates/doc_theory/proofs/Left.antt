-- A Join that nothing ended is the last request: behind it no command is legal until it is ended, and none behind the end of all.
use Rattle.std.proofs.Common.{◌≡◌, ℕ, List, [], ◌∷◌, ◌++◌, Bool, true, false, refl, ap, subst}
use Rattle.serapi_cmd.specs.declared.command.Command.TheVariants as cmd
use Rattle.serapi_cmd.specs.declared.request.Request.TheVariants.{Do}
use Rattle.serapi_ans.specs.declared.line.Line.{Line}
use Rattle.doc_theory.specs.Checks.{Check}
use Rattle.doc_theory.specs.Answers.{whole, Fate, ended, halted, left}
use Rattle.doc_theory.specs.Histories.{
  Event,
  command,
  claim,
  none_waiting,
  returned,
  lose,
  join_answered,
  join_not_yet,
  join_stopped,
  shut,
  Mode,
  idle,
  joining,
  over,
  Standing,
  start,
  standing,
  step,
  IsIdle,
  IsJoining,
  IsGoing,
  LegalFrom,
  Legal,
  requests,
  fate,
}
use Rattle.line_theory.proofs.Lists.{no}
use Rattle.doc_theory.proofs.Posted.{legal_parts}

not_both : (m : Mode) → IsIdle m → IsJoining m → ⊥
not_both idle i j = j
not_both (joining tag) i j = i
not_both over i j = i

abbrev is_left : Fate → Bool
is_left ended = false
is_left halted = false
is_left left = true

module _ {State : Type 0} (L : Check State) where
  -- behind the end of all nothing is legal
  none_over : (p : Standing State) (k : List Event) → p.mode ≡ over → LegalFrom L p k → requests k ≡ []
  none_over p [] e l = refl
  none_over p (command n q cut ls ∷ es) e l = absurd (subst IsIdle e l.0.idle)
  none_over p (claim s n ∷ es) e l = absurd (subst IsGoing e l.0.0)
  none_over p (none_waiting s ∷ es) e l = absurd (subst IsGoing e l.0.0)
  none_over p (returned s n kept ∷ es) e l = absurd (subst IsGoing e l.0.0)
  none_over p (lose s n ∷ es) e l = absurd (subst IsGoing e l.0.0)
  none_over p (join_answered ∷ es) e l = absurd (subst IsJoining e l.0.0)
  none_over p (join_not_yet n s ∷ es) e l = absurd (subst IsJoining e l.0.0)
  none_over p (join_stopped ∷ es) e l = absurd (subst IsJoining e l.0)
  none_over p (shut ∷ es) e l = absurd (subst IsGoing e l.0)

  none_left : (p : Standing State) (k : List Event) → IsJoining p.mode → LegalFrom L p k
      → fate k ≡ left → requests k ≡ []
  none_left p [] j l f = refl
  none_left p (command n q cut ls ∷ es) j l f = absurd (not_both p.mode l.0.idle j)
  none_left p (claim s n ∷ es) j l f = none_left (step L p (claim s n)) es j l.1 f
  none_left p (none_waiting s ∷ es) j l f = none_left p es j l.1 f
  none_left p (returned s n true ∷ es) j l f = none_left (step L p (returned s n true)) es j l.1 f
  none_left p (returned s n false ∷ es) j l f = none_left (step L p (returned s n false)) es j l.1 f
  none_left p (lose s n ∷ es) j l f = none_left (step L p (lose s n)) es j l.1 f
  none_left p (join_answered ∷ es) j l f = no (ap is_left f)
  none_left p (join_not_yet n s ∷ es) j l f = none_left p es j l.1 f
  none_left p (join_stopped ∷ es) j l f = no (ap is_left f)
  none_left p (shut ∷ es) j l f = none_over (step L p shut) es refl l.1

  pub left_is_last : (limit : ℕ) (h k : List Event) (n : ℕ) (tag : List ℕ) (ls : List Line)
      → Legal L limit (h ++ (command n (Do (record { tag = tag; command = cmd.Join })) whole ls ∷ k)) → fate k ≡ left → requests k ≡ []
  left_is_last limit h k n tag ls l f =
      let q = Do (record { tag = tag; command = cmd.Join }) in
      none_left (step L (standing L limit h) (command n q whole ls)) k tt
      (legal_parts L (start limit) h (command n q whole ls ∷ k) l).1.1 f
