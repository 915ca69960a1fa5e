-- What the clauses of the lock's calls say: what a seat knows, which lock it is of, and what a call tells.
use Rattle.std.specs.Prelude.{◌≡◌, ◌≢◌, ◌⊎◌, ℕ, ◌+◌, ◌<◌, ◌≤◌, true, false, List, [], ◌∷◌, length, Some}
use Rattle.doc_lock.specs.declared.view.Folded.{Folded}
use Rattle.doc_lock.specs.declared.view.View.{View}
use Rattle.doc_lock.specs.declared.lock.Tried.{Tried}
use Rattle.doc_lock.specs.declared.lock.Tried.TheVariants.{Held as Won, Busy}
use Rattle.doc_lock.specs.Parties.{Lock, Sitting, Holding}
use Rattle.doc_lock.specs.Lists.{Each}
use Rattle.doc_lock.specs.Views.{Shows, holding, freeing, publishing}

-- ---- seats, locks and holdings

module _ {E O : Type 0} where
  -- the seat is one of this lock
  abbrev pub IsOf : Lock → Sitting E O → Type 0
  IsOf l s = s.lock ≡ l.id

  -- two seats of one lock
  abbrev pub IsBeside : Sitting E O → Sitting E O → Type 0
  IsBeside s t = t.lock ≡ s.lock

module _ {S : Type 0} where
  -- the holding is one of this lock
  abbrev pub IsHeldOf : Lock → Holding S → Type 0
  IsHeldOf l h = h.lock ≡ l.id

  -- the holding with another state
  abbrev pub with_state : Holding S → S → Holding S
  with_state h x = record { lock = h.lock; state = x }

module _ {S E O : Type 0} where
  -- the seat is one of the lock that is held
  abbrev pub IsWith : Holding S → Sitting E O → Type 0
  IsWith h s = s.lock ≡ h.lock

  -- P of the holding where the try won, and else Q
  abbrev pub MatchTried : Tried S E O → (Holding S → Type 0) → Type 0 → Type 0
  MatchTried (Won h) P Q = P h
  MatchTried Busy P Q = Q

-- ---- the first seat

module _ {S E O : Type 0} (origin : S → O) where
  -- of a lock over x
  abbrev pub starting : S → View E O
  starting x = record {
    number = 0;
    live = true;
    holds = false;
    origin = Some (origin x);
    seen = [];
    mine = [];
    joined = [];
    tries = 0;
    found = 0;
    looks = 0;
    told = 0;
    made = 1;
  }

-- ---- tries

module _ {S E O : Type 0} (list : S → List E) (author : E → ℕ) (origin : S → O) where
  -- one try, which read 0: the seat holds, and sees the list of x
  abbrev pub Gets : View E O → View E O → S → Type 0
  Gets v w x = Shows list author origin v x × (w ≡ holding list v x 0)

  -- at least one try, of which the last read 0
  abbrev pub GetsAtLast : View E O → View E O → S → Type 0
  GetsAtLast v w x = Shows list author origin v x × (v.tries < w.tries)
      × (let u : View E O = record v { tries = w.tries; found = 0; holds = true; seen = list x } in w ≡ u)

module _ {E O : Type 0} where
  -- one try, which read another word than 0: nothing else changed
  abbrev pub Misses : View E O → View E O → Type 0
  Misses v w = (w.found ≢ 0) × (let u : View E O = record v { tries = v.tries + 1; found = w.found } in w ≡ u)

-- ---- what is given back

module _ {S E O : Type 0} (list : S → List E) (author : E → ℕ) (origin : S → O) where
  -- the seat holds nothing, has seen the list of x, and its own entries are those of its number there
  abbrev pub given_back : View E O → S → View E O
  given_back v x = freeing origin (publishing list author v x) x

-- ---- looks

module _ {E O : Type 0} where
  -- at least one look, of which the last read r, which isn't the length given nor less than that of the list seen; nothing else changed
  abbrev pub Rests : View E O → ℕ → View E O → ℕ → Type 0
  Rests v old w r = (r ≢ old) × (length v.seen ≤ r) × (v.looks < w.looks)
      × (let u : View E O = record v { looks = w.looks; told = r } in w ≡ u)

-- ---- the end

module _ {E : Type 0} where
  -- one of the seats that were joined had this number
  abbrev pub Has : ℕ → List (Folded E) → Type 0
  Has n [] = ⊥
  Has n (p ∷ ps) = (p.number ≡ n) ⊎ Has n ps

module _ {E O : Type 0} where
  -- each number that was made, but 0, was joined into the seat
  abbrev pub Covers : View E O → Type 0
  Covers v = (n : ℕ) → 0 < n → n < v.made → Has n v.joined

module _ {S E O : Type 0} (list : S → List E) (author : E → ℕ) (origin : S → O) where
  -- the last state: it shows what a holding would, and each entry names a number that was made
  abbrev pub Ends : View E O → S → Type 0
  Ends v x = Shows list author origin v x × Each (λ e. author e < v.made) (list x)
