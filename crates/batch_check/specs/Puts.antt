-- What a call that puts bytes as far as memory lasts did.
use Rattle.std.specs.Prelude.{ℕ, List, Result, Ok, Err}
use Rattle.base_core.specs.Lists.{Begins}
use Rattle.stm_base.specs.Output.{Output, IsPut}

-- some first bytes of these were put
abbrev pub PutsFront : Output → List ℕ → Output → Type 0
PutsFront old bytes new = (front : List ℕ) × Begins front bytes × IsPut old front new

-- all the bytes were put, or, where memory was wanting, some first ones
abbrev pub Puts : {T E : Type 0} → Result T E → Output → List ℕ → Output → Type 0
Puts (Ok x) old bytes new = IsPut old bytes new
Puts (Err e) old bytes new = PutsFront old bytes new
