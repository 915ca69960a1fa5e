-- Bullets and braces, by what is seen of the frame that they look for.
use Rattle.std.proofs.Common.{◌≡◌, ◌↔◌, ℕ, Bool, true, false, if◌then◌else◌, IsTrue, List, [], ◌∷◌, Option, Some, None, Ok, Err, refl, sym, ap, ◌∙◌}
use Rattle.std.specs.Prelude.{IsSome, is_some, option_map}
use Rattle.logic_theory.specs.Goals.{Goal}
use Rattle.tactic_theory.specs.States as theory
use Rattle.tactic_theory.specs.States.{Frame, Found, state, focus, none_behind, find_bullet, find_brace, bullet_at, put_bullet, brace_at, brace_out}
use Rattle.proof_state.specs.declared.frames.Found.{Found as Told}
use Rattle.proof_state.specs.Frames.{Seen, sight, seen, told, next_seen, seen_goals}

some_is : {A : Type 0} (x y : A) → Some x ≡ Some y → x ≡ y
some_is x y e = cc

next_same : (b : List ℕ) (gs : List Goal) (above : List Frame) (hs : List Goal) (below : List Frame)
    → theory.next_bullet b gs above hs below ≡ next_seen b gs (sight (none_behind above) hs below)
next_same b (g ∷ gs) above hs below = refl
next_same b [] above [] below = go (none_behind above)
  where
    go : (t : Bool) → Err theory.bad_bullet ≡ next_seen b [] (sight t [] below)
    go true = refl
    go false = refl
next_same b [] above (h ∷ hs) below = go (none_behind above)
  where
    go : (t : Bool) → (if t then Ok (state (h ∷ []) (theory.frame (theory.bullet b) hs ∷ below)) else Err theory.bad_bullet)
        ≡ next_seen b [] (sight t (h ∷ hs) below)
    go true = refl
    go false = refl

goals_same : (gs : List Goal) (w : Found) → brace_at gs (Some w) ≡ seen_goals gs (sight (none_behind w.above) w.behind w.below)
goals_same (g ∷ gs) w = refl
goals_same [] w = go (none_behind w.above)
  where
    go : (t : Bool) → (if t then Ok (state w.behind w.below) else Err theory.bad_bullet) ≡ seen_goals [] (sight t w.behind w.below)
    go true = refl
    go false = refl

-- a bullet that doesn't stand yet
pub bullet_new : (b : List ℕ) (gs : List Goal) (fs : List Frame) → None ≡ seen true (find_bullet b fs)
    → put_bullet b (state gs fs) ≡ focus (theory.bullet b) gs fs
bullet_new b gs fs h = go (find_bullet b fs) h
  where
    go : (o : Option Found) → None ≡ seen true o → bullet_at b (state gs fs) o ≡ focus (theory.bullet b) gs fs
    go None k = refl
    go (Some w) k = absurd cc

-- one that stands already
pub bullet_again : (b : List ℕ) (gs : List Goal) (fs : List Frame) (w : Seen) → Some w ≡ seen true (find_bullet b fs)
    → put_bullet b (state gs fs) ≡ next_seen b gs w
bullet_again b gs fs w h = go (find_bullet b fs) h
  where
    go : (o : Option Found) → Some w ≡ seen true o → bullet_at b (state gs fs) o ≡ next_seen b gs w
    go None k = absurd cc
    go (Some v) k = next_same b gs v.above v.behind v.below ∙ ap (next_seen b gs) (sym (some_is w (sight (none_behind v.above) v.behind v.below) k))

-- no brace is open
pub brace_none : (gs : List Goal) (fs : List Frame) → None ≡ seen true (find_brace fs) → brace_out (state gs fs) ≡ Err theory.bad_bullet
brace_none gs fs h = go gs (find_brace fs) h
  where
    go : (hs : List Goal) (o : Option Found) → None ≡ seen true o → brace_at hs o ≡ Err theory.bad_bullet
    go hs None k = refl
    go hs (Some w) k = absurd cc

-- one is open
pub brace_open : (gs : List Goal) (fs : List Frame) (w : Seen) → Some w ≡ seen true (find_brace fs)
    → brace_out (state gs fs) ≡ seen_goals gs w
brace_open gs fs w h = go (find_brace fs) h
  where
    go : (o : Option Found) → Some w ≡ seen true o → brace_at gs o ≡ seen_goals gs w
    go None k = absurd cc
    go (Some v) k = goals_same gs v ∙ ap (seen_goals gs) (sym (some_is w (sight (none_behind v.above) v.behind v.below) k))

pub ruleset steps = (bullet_new, bullet_again, brace_none, brace_open)

-- whether one is open
pub is_open : (r : Option Told) (o : Option Found) → option_map told r ≡ seen true o → IsTrue (is_some r) ↔ IsSome o
is_open None None h = (λ t. cc, λ t. cc)
is_open None (Some w) h = absurd cc
is_open (Some v) None h = absurd cc
is_open (Some v) (Some w) h = (λ t. refl, λ t. refl)

pub ruleset found = (is_open)
