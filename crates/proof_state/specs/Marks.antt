-- The marks of the theory that bullets and braces stand for.
use Rattle.std.specs.Prelude.{ℕ, List, replicate}
use Rattle.tactic_theory.specs.States as theory
use Rattle.proof_state.specs.declared.bullet.Bullet.{Bullet}
use Rattle.proof_state.specs.declared.frames.Mark.{Mark}
use Rattle.proof_state.specs.declared.frames.Mark.TheVariants as mark

-- the bytes of a bullet
abbrev pub bytes : Bullet → List ℕ
bytes b = replicate b.length b.byte

-- the mark that one stands for
abbrev pub mark_of : Mark → theory.Mark
mark_of (mark.Bullet b) = theory.bullet (bytes b)
mark_of mark.Brace = theory.brace
