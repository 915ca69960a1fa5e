-- What becomes of a sentence, by its kind and by where the cursor stands.
use Rattle.std.specs.Prelude.{ℕ, List, [], ◌∷◌, ◌++◌, Bool, true, false, nat_eq, if◌then◌else◌, Option, Some, None, option_map}
use Rattle.line_theory.specs.Lists.{has}
use Rattle.line_theory.specs.Shapes.{Focus, closed, proof, last, zone}
use Rattle.line_theory.specs.Lines.{Closing}
use Rattle.serapi_ans.specs.declared.line.Exn.{Exn}
use Rattle.serapi_ans.specs.declared.line.Exn.TheVariants as exn
use Rattle.vern_parse.specs.declared.raw.Closer.{Closer}
use Rattle.vern_parse.specs.declared.raw.Closer.TheVariants.{Qed, Defined, Admitted, Abort}
use Rattle.vern_step.specs.declared.kind.Kind.{Kind}
use Rattle.vern_step.specs.declared.kind.Kind.TheVariants.{Plain, Begin, Inner, Close}
use Rattle.vcs_graph.specs.Blocks.{inside_in}
use Rattle.edit_core.specs.declared.add.Step.{Step}
use Rattle.edit_core.specs.declared.add.Step.TheVariants as step
use Rattle.edit_core.specs.Steps.{stop_in}
use Rattle.doc_theory.specs.Documents as theory
use Rattle.check_theory.specs.Pieces.{closer_of}
use Rattle.doc_store.specs.declared.slots.Slot.{Slot}
use Rattle.doc_store.specs.Slots.{at_all, fresh_slot, lowered}

-- ---- refusals

-- no further sentence gets an id
abbrev pub too_many : Bool → ℕ → Option Exn
too_many true p = Some (exn.TooMany p)
too_many false p = None

-- Defined and Abort don't close a zone
abbrev pub bad_closer : Closer → ℕ → ℕ → Option Exn
bad_closer Qed p c = None
bad_closer Admitted p c = None
bad_closer Defined p c = Some (exn.BadCloser p c)
bad_closer Abort p c = Some (exn.BadCloser p c)

-- why a sentence of a kind isn't added
abbrev pub refusal_by : Kind → Focus ℕ Closing → Bool → ℕ → Option Exn
refusal_by Plain (last closed) full p = too_many full p
refusal_by Plain (last (proof l b)) full p = Some (exn.ProofOpen p l)
refusal_by Plain (zone l b c t o) full p = Some (exn.ProofOpen p l)
refusal_by Begin (last closed) full p = too_many full p
refusal_by Begin (last (proof l b)) full p = Some (exn.ProofOpen p l)
refusal_by Begin (zone l b c t o) full p = Some (exn.ProofOpen p l)
refusal_by Inner (last closed) full p = Some (exn.NoOpenProof p)
refusal_by Inner (last (proof l b)) full p = too_many full p
refusal_by Inner (zone l b c t o) full p = too_many full p
refusal_by (Close k) (last closed) full p = Some (exn.NoOpenProof p)
refusal_by (Close k) (last (proof l b)) full p = too_many full p
refusal_by (Close k) (zone l b c t o) full p = bad_closer k p c.id

-- ---- what changes

-- the kept closer, where a closer comes in a zone
abbrev pub closes : Kind → Option (ℕ × ℕ) → Option ℕ
closes (Close k) (Some z) = Some z.1
closes (Close k) None = None
closes Plain z = None
closes Begin z = None
closes Inner z = None

-- what a sentence of a kind is to the line
abbrev pub step_of : Kind → Step
step_of Plain = step.Plain
step_of Begin = step.Begin
step_of Inner = step.Plain
step_of (Close k) = step.Close (theory.reopens (theory.close (closer_of k)))

-- the sentences that aren't told any more when one comes in: the inside of a block that is now checked apart, or a kept closer
abbrev pub inside_if : Bool → List ℕ → List ℕ
inside_if true b = b
inside_if false b = []

abbrev pub fallen : Kind → Focus ℕ Closing → List ℕ
fallen (Close k) (last (proof l b)) = inside_if (theory.delegates (theory.close (closer_of k))) b
fallen (Close k) (last closed) = []
fallen (Close k) (zone l b c t o) = []
fallen Inner (zone l b c t o) = c.id ∷ []
fallen Inner (last o) = []
fallen Plain f = []
fallen Begin f = []

-- what is kept with an id behind a sentence that got the next one
abbrev pub grown_at : Kind → Focus ℕ Closing → List ℕ → List (Option Slot) → ℕ → Option Slot
grown_at k f bytes slots i = at_all (fallen k f) (option_map lowered) (slots ++ Some (fresh_slot bytes) ∷ []) i

-- the same behind a closer that closed a zone
abbrev pub refolded_at : Focus ℕ Closing → List ℕ → List (Option Slot) → ℕ → Option Slot
refolded_at f bytes slots i =
    if nat_eq i (stop_in f) then Some (fresh_slot bytes) else at_all (inside_in f) (option_map lowered) slots i

-- the kept closer of a zone
abbrev pub stops_in : Focus ℕ Closing → List ℕ
stops_in (last o) = []
stops_in (zone l b c t o) = c.id ∷ []

-- the same behind a removal
abbrev pub lower_if : Bool → Option Slot → Option Slot
lower_if true s = option_map lowered s
lower_if false s = s

abbrev pub left_at : List ℕ → Focus ℕ Closing → List (Option Slot) → ℕ → Option Slot
left_at gone f slots i = lower_if (has i (stops_in f)) (at_all gone (λ s. None) slots i)
