-- What checking keeps: an environment in order, and an open proof whose goals are those of a tree for its statement.
use Rattle.std.specs.Prelude.{◌≡◌, ℕ, List, [], ◌∷◌, Option, Some, None}
use Rattle.fol_theory.specs.Syntax.{Formula}
use Rattle.vern_sentence.specs.Trees.{Closer, qed, defined, admitted, abort, Sentence, declare, define, begin, proof_word, refinement, bullet, brace_in, brace_out, close}
use Rattle.env_theory.specs.Declarations.{Declaration, stated}
use Rattle.env_theory.specs.Orders.{InOrder}
use Rattle.logic_theory.specs.Derivations.{Derives}
use Rattle.logic_theory.specs.Goals.{goal}
use Rattle.tactic_theory.specs.States.{State, FitsState}
use Rattle.script_theory.specs.Sentences.{Open, Script}

-- what a sentence declares has a name, as names of the language have
abbrev pub IsNamed : Sentence → Type 0
IsNamed (declare x y) = x.text ≡ [] → ⊥
IsNamed (define x gs r a) = x.text ≡ [] → ⊥
IsNamed (begin x a) = x.text ≡ [] → ⊥
IsNamed s = Unit {0}

-- the same of each sentence of a list
abbrev pub AreNamed : List (ℕ × Sentence) → Type 0
AreNamed [] = Unit {0}
AreNamed (w ∷ ws) = IsNamed w.1 × AreNamed ws

-- a sentence that stands within a proof
abbrev pub IsInner : Sentence → Type 0
IsInner proof_word = Unit {0}
IsInner (refinement r) = Unit {0}
IsInner (bullet b k) = Unit {0}
IsInner brace_in = Unit {0}
IsInner brace_out = Unit {0}
IsInner (declare x y) = ⊥
IsInner (define x gs r a) = ⊥
IsInner (begin x a) = ⊥
IsInner (close k) = ⊥

-- the same of each sentence of a list
abbrev pub AreInner : List (ℕ × Sentence) → Type 0
AreInner [] = Unit {0}
AreInner (w ∷ ws) = IsInner w.1 × AreInner ws

-- a closer that leaves a proof to be checked apart
abbrev pub Delegates : Closer → Type 0
Delegates qed = Unit {0}
Delegates defined = ⊥
Delegates admitted = Unit {0}
Delegates abort = Unit {0}

-- an open proof whose lemma was good: its statement may be added, and its goals are those of a tree for the statement
abbrev pub OpenKept : List Declaration → Option (List ℕ × Formula) → State → Type 0
OpenKept E None s = Unit {0}
OpenKept E (Some w) s = InOrder (stated w.0 w.1 ∷ E) × FitsState E (goal [] w.1) s

-- without a statement it has a fault
abbrev pub HasFault : Option (List ℕ × Formula) → Option ℕ → Type 0
HasFault (Some w) f = Unit {0}
HasFault None (Some f) = Unit {0}
HasFault None None = ⊥

-- an open proof is kept so
abbrev pub ProofKept : List Declaration → Option Open → Type 0
ProofKept E None = Unit {0}
ProofKept E (Some o) = OpenKept E o.statement o.goals × HasFault o.statement o.fault

-- the environment is in order, and the open proof kept
abbrev pub IsKept : Script → Type 0
IsKept s = InOrder s.env × ProofKept s.env s.proof

-- there is a statement, and it has a derivation
abbrev pub StatementProved : List Declaration → Option (List ℕ × Formula) → Type 0
StatementProved E None = ⊥
StatementProved E (Some w) = Derives E [] [] w.1

-- the open proof's statement has a derivation over the environment, which is the one before its lemma
abbrev pub IsProved : List Declaration → Option Open → Type 0
IsProved E None = ⊥
IsProved E (Some o) = StatementProved E o.statement

-- a proof of this statement is open
abbrev pub StatementIs : Option (List ℕ × Formula) → Option Open → Type 0
StatementIs a None = ⊥
StatementIs a (Some o) = o.statement ≡ a

-- the same of a state, over this environment
abbrev pub IsInProof : List Declaration → Option (List ℕ × Formula) → Script → Type 0
IsInProof E a s = (s.env ≡ E) × StatementIs a s.proof
