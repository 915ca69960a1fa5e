-- What each kind of step does to the view of the seat that takes it, and what it tells that seat.
-- Beside these the state is taken out of the slot and put into it: that is plain memory of the seat that carries the slot, no step, and
-- changes no view.
use Rattle.std.specs.Prelude.{◌≡◌, ◌≢◌, ℕ, ◌+◌, ◌≤◌, true, false, List, [], ◌∷◌, ◌++◌, length, Option, Some, None}
use Rattle.atomic_table.specs.Table.{Me, Step}
use Rattle.doc_lock.specs.declared.view.Folded.{Folded}
use Rattle.doc_lock.specs.declared.view.View.{View}
use Rattle.base_core.specs.Lists.{Begins}
use Rattle.doc_lock.specs.Lists.{Each, longer, only}

-- ---- the beginning: seat 0 takes the empty slot

module _ {E O : Type 0} where
  -- seat 0 as the table is made: the flag is its, it doesn't have the slot yet, and it knows no origin
  abbrev pub beginning : View E O
  beginning = record {
    number = 0;
    live = true;
    holds = false;
    origin = None;
    seen = [];
    mine = [];
    joined = [];
    tries = 0;
    found = 0;
    looks = 0;
    told = 0;
    made = 1;
  }

  -- the seat has the slot
  abbrev pub taking : View E O → View E O
  taking v = record v { holds = true }

module _ {S E O : Type 0} where
  -- seat 0 takes the empty slot, and nothing else changes
  abbrev pub taken : Step (Option S) → Me (Option S) (View E O) → ℕ → Me (Option S) (View E O) → Type 0
  taken st m r m' = m' ≡ (taking m.0, (0, None) ∷ m.1)

-- ---- a seat is split off

module _ {E O : Type 0} where
  -- the seat that splits has made one number more,
  abbrev pub splitting : View E O → View E O
  splitting v = record v { made = v.made + 1 }

  -- and the new seat has that number, and has seen as much
  abbrev pub split_off : View E O → View E O
  split_off v = record {
    number = v.made;
    live = true;
    holds = false;
    origin = v.origin;
    seen = v.seen;
    mine = [];
    joined = [];
    tries = 0;
    found = 0;
    looks = 0;
    told = 0;
    made = 0;
  }

  -- ---- a seat is joined into another

  -- what is kept of it
  abbrev pub folded : View E O → Folded E
  folded w = record { number = w.number; seen = w.seen; mine = w.mine }

  -- the seat that takes another in has seen the longer of the two lists
  abbrev pub joining : View E O → View E O → View E O
  joining v w = record v { seen = longer v.seen w.seen; joined = folded w ∷ (v.joined ++ w.joined) }

  -- what stays of it among the views
  abbrev pub spent : View E O
  spent = record {
    number = 0;
    live = false;
    holds = false;
    origin = None;
    seen = [];
    mine = [];
    joined = [];
    tries = 0;
    found = 0;
    looks = 0;
    told = 0;
    made = 0;
  }

  -- ---- the flag is tried

  -- one try more, which read r
  abbrev pub after_try : View E O → ℕ → View E O
  after_try v r = record v { tries = v.tries + 1; found = r }

module _ {S E O : Type 0} (list : S → List E) where
  -- one try more, which read r and got the state x
  abbrev pub holding : View E O → S → ℕ → View E O
  holding v x r = record v { tries = v.tries + 1; found = r; holds = true; seen = list x }

module _ {S E O : Type 0} (list : S → List E) (author : E → ℕ) (origin : S → O) where
  -- What a seat learns of the state when it gets it
  pub record Shows (v : View E O) (x : S) : Type 0 where
    -- the list begins with all that the seat had seen,
    pub begins : Begins v.seen (list x)
    -- has of the seat's number just its own entries, each as often as it was made,
    pub own : only author v.number (list x) ≡ v.mine
    -- begins with all that each seat joined into it had seen, and has of each such number just that seat's entries,
    pub joined : Each (λ p. Begins p.seen (list x) × (only author p.number (list x) ≡ p.mine)) v.joined
    -- and the state has the origin
    pub based : v.origin ≡ Some (origin x)

  -- where the try read 0 the seat gets the state, else nothing but the word
  abbrev pub tried : Step (Option S) → Me (Option S) (View E O) → ℕ → Me (Option S) (View E O) → Type 0
  tried st m r m' = (r ≡ 0 → (x : S) × Shows m.0 x × (m' ≡ (holding list m.0 x r, (0, Some x) ∷ m.1)))
      × (r ≢ 0 → m' ≡ (after_try m.0 r, m.1))

-- ---- the length is published

module _ {S E O : Type 0} (list : S → List E) (author : E → ℕ) where
  -- the seat has seen the list of x, and knows its own entries there
  abbrev pub publishing : View E O → S → View E O
  publishing v x = record v { seen = list x; mine = only author v.number (list x) }

  -- the length of the list is told, and nothing else changes
  abbrev pub published : Step (Option S) → Me (Option S) (View E O) → ℕ → Me (Option S) (View E O) → Type 0
  published st m r m' = (x : S) → m.1 ≡ (0, Some x) ∷ [] → m' ≡ (publishing m.0 x, m.1)

-- ---- the flag is freed, and the slot goes home

module _ {S E O : Type 0} (origin : S → O) where
  -- the seat has the state's origin, if it had none
  abbrev pub freeing : View E O → S → View E O
  freeing v x = record v { holds = false; origin = Some (origin x) }

  -- the state goes home, and nothing else changes
  abbrev pub freed : Step (Option S) → Me (Option S) (View E O) → ℕ → Me (Option S) (View E O) → Type 0
  freed st m r m' = (x : S) → m.1 ≡ (0, Some x) ∷ [] → m' ≡ (freeing m.0 x, [])

-- ---- the length is looked at

module _ {E O : Type 0} where
  -- one look more, which read r
  abbrev pub after_look : View E O → ℕ → View E O
  after_look v r = record v { looks = v.looks + 1; told = r }

module _ {S E O : Type 0} where
  -- the length is read, which is no less than that of the list seen
  abbrev pub looked : Step (Option S) → Me (Option S) (View E O) → ℕ → Me (Option S) (View E O) → Type 0
  looked st m r m' = (m' ≡ (after_look m.0 r, m.1)) × (length m.0.seen ≤ r)
