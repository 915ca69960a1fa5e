-- What contracts see of a lock, of a seat at it and of a holding, and what always stands of a lock and of a seat.
use Rattle.std.specs.Prelude.{◌≡◌, ◌≢◌, ℕ, ◌<◌, true, false, [], ◌∷◌, Option, None}
use Rattle.atomic_table.specs.Seated.{TableId}
use Rattle.atomic_table.specs.Table.{Me}
use Rattle.doc_lock.specs.declared.view.View.{View}

-- a lock: which one it is, and how many seats it may have in all
pub record Lock : Type 0 where
  pub id : TableId
  pub seats : ℕ

-- a seat: the lock that it is of, and what it knows
pub record Sitting (E O : Type 0) : Type 0 where
  pub lock : TableId
  pub view : View E O

-- a holding: the lock that it is of, and the state that is out of it
pub record Holding (S : Type 0) : Type 0 where
  pub lock : TableId
  pub state : S

-- the table of a lock has two words and one slot, and its seats are counted in 32 bits
pub record IsLock (id : TableId) (seats : ℕ) : Type 0 where
  pub words : id.words ≡ 2
  pub slots : id.slots ≡ 1
  pub counted : seats < 4294967296

module _ {S E O : Type 0} where
  -- a seat keeps its number and how many were made as its view has them, it is live and has an origin, and it carries the empty slot
  -- exactly while it holds
  pub record IsSeat (number made : ℕ) (me : Me (Option S) (View E O)) : Type 0 where
    pub numbered : me.0.number ≡ number
    pub counted : me.0.made ≡ made
    pub live : me.0.live ≡ true
    pub begun : me.0.origin ≢ None
    pub free : me.0.holds ≡ false → me.1 ≡ []
    pub holding : me.0.holds ≡ true → me.1 ≡ (0, None) ∷ []
