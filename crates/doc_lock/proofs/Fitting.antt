-- The rule seat by seat, which is the form that the steps are proved in.
use Rattle.std.proofs.Common.{◌≡◌, ◌≢◌, ◌⊎◌, ℕ, ◌+◌, ◌<◌, true, List, [], ◌∷◌, length, Option, None}
use Rattle.atomic_table.specs.Table.{State}
use Rattle.doc_lock.specs.declared.view.Folded.{Folded}
use Rattle.doc_lock.specs.declared.view.View.{View}
use Rattle.base_core.specs.Lists.{Begins}
use Rattle.doc_lock.specs.Lists.{Each, only}
use Rattle.doc_lock.specs.Kept.{EachLive, SomeLive, IsHome, IsOut, IsBeginning, Kept}
use Rattle.doc_lock.proofs.Lists.{each_map}

module _ {E : Type 0} (author : E → ℕ) where
  -- a seat that was joined into this one
  abbrev pub Joined : List E → ℕ → (ℕ → ℕ) → ℕ → ℕ → Folded E → Type 0
  Joined log made owner seat number p = (owner p.number ≡ seat) × (p.number < made) × (p.number ≢ number)
      × (only author p.number log ≡ p.mine) × Begins p.seen log

module _ {E : Type 0} (author : E → ℕ) (log : List E) (made : ℕ) (owner : ℕ → ℕ) (seat number : ℕ) where
  -- it is what the rule says of it, sentence by sentence
  together : (ps : List (Folded E)) → Each (λ p. owner p.number ≡ seat) ps → Each (λ p. p.number < made) ps
      → Each (λ p. p.number ≢ number) ps → Each (λ p. only author p.number log ≡ p.mine) ps → Each (λ p. Begins p.seen log) ps
      → Each (Joined author log made owner seat number) ps
  together [] a b c d e = tt
  together (p ∷ ps) a b c d e = ((a.0, b.0, c.0, d.0, e.0), together ps a.1 b.1 c.1 d.1 e.1)

module _ {E O : Type 0} (author : E → ℕ) where
  -- what the rule says of one seat
  pub record Fits (log : List E) (made flag : ℕ) (base : Option O) (owner : ℕ → ℕ) (seat : ℕ) (v : View E O) : Type 0 where
    pub here : owner v.number ≡ seat
    pub below : v.number < made
    pub begins : Begins v.seen log
    pub own : only author v.number log ≡ v.mine
    pub joined : Each (Joined author log made owner seat v.number) v.joined
    pub based : v.origin ≡ base
    pub holder : v.holds ≡ true → (flag ≡ v.number + 1) × (v.seen ≡ log)

module _ {S E O : Type 0} (list : S → List E) (author : E → ℕ) (origin : S → O) where
  abbrev pub Slot : State (Option S) (View E O) → List E → Option O → ℕ → Type 0
  Slot s log base flag = IsHome list origin s log base flag ⊎ (IsOut s ⊎ IsBeginning s log base)

  pub record Fitting (s : State (Option S) (View E O)) : Type 0 where
    pub log : List E
    pub made : ℕ
    pub flag : ℕ
    pub base : Option O
    pub owner : ℕ → ℕ
    pub words : s.words ≡ flag ∷ length log ∷ []
    pub slot : Slot s log base flag
    pub first : SomeLive s.views (λ v. (v.number ≡ 0) × (v.made ≡ made))
    pub named : Each (λ e. author e < made) log
    pub alone : base ≡ None → (length s.views ≡ 1) × (flag ≡ 1)
    pub each : EachLive s.views (Fits author log made flag base owner)

  -- the rule gives it,
  pub fitting : (s : State (Option S) (View E O)) → Kept list author origin s → Fitting s
  fitting s r = record {
    log = r.log;
    made = r.made;
    flag = r.flag;
    base = r.base;
    owner = r.owner;
    words = r.words;
    slot = r.slot;
    first = r.first;
    named = r.named;
    alone = r.alone;
    each = λ j d at live. record {
      here = (r.owned j d at live).0;
      below = r.numbered j d at live;
      begins = (r.seen j d at live).0;
      own = (r.own j d at live).0;
      joined = together author r.log r.made r.owner j d.number d.joined (r.owned j d at live).1 (r.joined j d at live)
          (r.apart j d at live) (r.own j d at live).1 (r.seen j d at live).1;
      based = r.based j d at live;
      holder = r.holder j d at live;
    };
  }

  -- and it gives the rule
  pub kept : (s : State (Option S) (View E O)) → Fitting s → Kept list author origin s
  kept s f = record {
    log = f.log;
    made = f.made;
    flag = f.flag;
    base = f.base;
    owner = f.owner;
    words = f.words;
    slot = f.slot;
    holder = λ j d at live. (f.each j d at live).holder;
    first = f.first;
    named = f.named;
    numbered = λ j d at live. (f.each j d at live).below;
    joined = λ j d at live. each_map (Joined author f.log f.made f.owner j d.number) (λ p. p.number < f.made) (λ p h. h.1) d.joined
        (f.each j d at live).joined;
    based = λ j d at live. (f.each j d at live).based;
    alone = f.alone;
    owned = λ j d at live. (
      (f.each j d at live).here,
      each_map (Joined author f.log f.made f.owner j d.number) (λ p. f.owner p.number ≡ j) (λ p h. h.0) d.joined
          (f.each j d at live).joined,
    );
    apart = λ j d at live. each_map (Joined author f.log f.made f.owner j d.number) (λ p. p.number ≢ d.number) (λ p h. h.2) d.joined
        (f.each j d at live).joined;
    seen = λ j d at live. (
      (f.each j d at live).begins,
      each_map (Joined author f.log f.made f.owner j d.number) (λ p. Begins p.seen f.log) (λ p h. h.4) d.joined
          (f.each j d at live).joined,
    );
    own = λ j d at live. (
      (f.each j d at live).own,
      each_map (Joined author f.log f.made f.owner j d.number) (λ p. only author p.number f.log ≡ p.mine) (λ p h. h.3) d.joined
          (f.each j d at live).joined,
    );
  }
