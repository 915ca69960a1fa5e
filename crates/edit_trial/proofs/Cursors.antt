-- What the zone and the open block say of where the cursor stands.
use Rattle.std.proofs.Common.{◌≡◌, ℕ, Some, None, sym}
use Rattle.std.proofs.lemmas.Option.{none-some}
use Rattle.line_theory.specs.Shapes.{closed, proof, Focus, last, zone}
use Rattle.line_theory.specs.Lines.{Closing, AtEnd, InProof, InZone, zone_in}
use Rattle.vcs_graph.specs.Blocks.{open_in}

pub at_end : (f : Focus ℕ Closing) → open_in f ≡ None → AtEnd f
at_end (last closed) none = tt
at_end (last (proof l b)) none = absurd (none-some l (sym none))
at_end (zone l b c t o) none = absurd (none-some l (sym none))

pub in_proof : (f : Focus ℕ Closing) (l : ℕ) → zone_in f ≡ None → open_in f ≡ Some l → InProof f
in_proof (last closed) l none some = absurd (none-some l some)
in_proof (last (proof m b)) l none some = tt
in_proof (zone m b c t o) l none some = absurd (none-some (m, c.id) (sym none))

pub in_zone : (f : Focus ℕ Closing) (z : ℕ × ℕ) → zone_in f ≡ Some z → InZone f
in_zone (last o) z some = absurd (none-some z some)
in_zone (zone l b c t o) z some = tt
