-- The rule of the lock's table: what stands between any two steps, in whatever order the seats take them.
-- The table has two words and one slot. Word 0 is the flag: 0, or one more than the number of the seat that has the lock. Word 1 is the
-- length of the list. The slot is for the state.
use Rattle.std.specs.Prelude.{◌≡◌, ◌≢◌, ◌⊎◌, ℕ, ◌+◌, ◌<◌, true, false, List, [], ◌∷◌, length, Option, Some, None}
use mathlib.Core.Option.{none, some}
use lib.ListN.{get_elem?}
use Rattle.atomic_table.specs.Table.{State}
use Rattle.doc_lock.specs.declared.view.View.{View}
use Rattle.base_core.specs.Lists.{Begins}
use Rattle.doc_lock.specs.Lists.{Each, only}

module _ {E O : Type 0} where
  -- P of each seat that isn't spent, at its place among the views
  abbrev pub EachLive : List (View E O) → (ℕ → View E O → Type 0) → Type 0
  EachLive vs P = (seat : ℕ) (v : View E O) → get_elem? vs seat ≡ some v → v.live ≡ true → P seat v

  -- there is a seat that isn't spent, of which P holds
  pub record SomeLive (vs : List (View E O)) (P : View E O → Type 0) : Type 0 where
    pub seat : ℕ
    pub view : View E O
    pub at : get_elem? vs seat ≡ some view
    pub live : view.live ≡ true
    pub has : P view

module _ {S E O : Type 0} (list : S → List E) (origin : S → O) where
  -- the flag is 0, and the state is at home: its list is the list, and its origin the one origin
  pub record IsHome (s : State (Option S) (View E O)) (log : List E) (base : Option O) (flag : ℕ) : Type 0 where
    pub free : flag ≡ 0
    pub state : S
    pub there : s.homes ≡ some (Some state) ∷ []
    pub entries : list state ≡ log
    pub based : base ≡ Some (origin state)

module _ {S E O : Type 0} where
  -- the slot is with a seat that holds
  pub record IsOut (s : State (Option S) (View E O)) : Type 0 where
    pub gone : s.homes ≡ none ∷ []
    pub holder : SomeLive s.views (λ v. v.holds ≡ true)

module _ {S E O : Type 0} where
  -- at the beginning the slot is at home and empty, there is neither an entry nor an origin, and no seat holds
  pub record IsBeginning (s : State (Option S) (View E O)) (log : List E) (base : Option O) : Type 0 where
    pub empty : s.homes ≡ some None ∷ []
    pub no_entry : log ≡ []
    pub no_origin : base ≡ None
    pub waits : SomeLive s.views (λ v. v.holds ≡ false)

module _ {S E O : Type 0} (list : S → List E) (author : E → ℕ) (origin : S → O) where
  -- what stands between any two steps
  pub record Kept (s : State (Option S) (View E O)) : Type 0 where
    -- the list of all entries, how many numbers were made, the flag, the origin (none at the beginning), and of each number the place
    -- among the views of the seat to which it belongs
    pub log : List E
    pub made : ℕ
    pub flag : ℕ
    pub base : Option O
    pub owner : ℕ → ℕ
    -- the words are the flag and the length of the list
    pub words : s.words ≡ flag ∷ length log ∷ []
    -- the state is at home and the flag is 0, or a seat holds, or the slot is empty yet
    pub slot : IsHome list origin s log base flag ⊎ (IsOut s ⊎ IsBeginning s log base)
    -- a seat that holds has the number that the flag tells, and has seen the whole list
    pub holder : EachLive s.views (λ _ v. v.holds ≡ true → (flag ≡ v.number + 1) × (v.seen ≡ log))
    -- one seat has the number 0, and tells how many numbers were made
    pub first : SomeLive s.views (λ v. (v.number ≡ 0) × (v.made ≡ made))
    -- each entry names a number that was made,
    pub named : Each (λ e. author e < made) log
    -- each seat has one,
    pub numbered : EachLive s.views (λ _ v. v.number < made)
    -- and each number joined into a seat is one
    pub joined : EachLive s.views (λ _ v. Each (λ p. p.number < made) v.joined)
    -- all seats have one origin
    pub based : EachLive s.views (λ _ v. v.origin ≡ base)
    -- while there is none, seat 0 is the only seat, and the flag is its
    pub alone : base ≡ None → (length s.views ≡ 1) × (flag ≡ 1)
    -- a seat's number belongs to it, and so does each number joined into it: so different seats have different numbers, of their own
    -- and joined
    pub owned : EachLive s.views (λ seat v. (owner v.number ≡ seat) × Each (λ p. owner p.number ≡ seat) v.joined)
    -- a seat's own number isn't among those joined into it
    pub apart : EachLive s.views (λ _ v. Each (λ p. p.number ≢ v.number) v.joined)
    -- the list begins with what a seat has seen, and with what each seat joined into it had seen
    pub seen : EachLive s.views (λ _ v. Begins v.seen log × Each (λ p. Begins p.seen log) v.joined)
    -- the list has of a seat's number just its own entries, and of each number joined into it just those of that seat
    pub own : EachLive s.views (λ _ v. (only author v.number log ≡ v.mine) × Each (λ p. only author p.number log ≡ p.mine) v.joined)
