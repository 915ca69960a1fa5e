-- What an Out shows, and an Out with bytes put.
use Rattle.std.specs.Prelude.{◌≡◌, ℕ, ◌≤◌, List, take, Bool, true, false, Option}
use Rattle.std.specs.Io.KnownBytes.{Appends, Keeps}

-- an Out: the bytes and the count of its sink, whether it has failed, and the bytes and the count of its sink as `new` got it
pub record Output : Type 0 where
  pub written : Option (List ℕ)
  pub faults : ℕ
  pub failed : Bool
  pub first_written : Option (List ℕ)
  pub first_faults : ℕ

-- the Out that `new` makes of a sink with these bytes and this count
abbrev pub begun : Option (List ℕ) → ℕ → Output
begun written faults = record { written = written; faults = faults; failed = false; first_written = written; first_faults = faults }

-- the Out as `new` made it
abbrev pub fresh : Output → Output
fresh o = begun o.first_written o.first_faults

-- known bytes grow by a prefix of these
abbrev pub AppendsPrefix : Option (List ℕ) → Option (List ℕ) → List ℕ → Type 0
AppendsPrefix old new bytes = (n : ℕ) × Appends old new (take n bytes)

-- what becomes of the sink's bytes, by whether the Out had failed before and has failed now: with no failure they grow by all
-- the bytes, at a failure by a prefix of them, and after it they stay
abbrev pub Grew : Bool → Bool → Option (List ℕ) → Option (List ℕ) → List ℕ → Type 0
Grew false false old new bytes = Appends old new bytes
Grew false true old new bytes = AppendsPrefix old new bytes
Grew true true old new bytes = Keeps old new
Grew true false old new bytes = ⊥

-- `new` is `old` with the bytes put
pub record IsPut (old : Output) (bytes : List ℕ) (new : Output) : Type 0 where
  pub grew : Grew old.failed new.failed old.written new.written bytes
  pub idle : old.failed ≡ true → new ≡ old
  pub later : old.faults ≤ new.faults
  pub passed : new.failed ≡ false → new.faults ≡ old.faults
  pub first_written : new.first_written ≡ old.first_written
  pub first_faults : new.first_faults ≡ old.first_faults
