-- What each variant of a stack of frames stands for, and a frame that is looked for on it.
use Rattle.std.proofs.Common.{◌≡◌, ℕ, Bool, true, false, ◌&&◌, if◌then◌else◌, List, [], ◌∷◌, Option, Some, None, refl, ap, sym, ◌∙◌}
use Rattle.std.proofs.Math.Bool.{and-true, and_assoc}
use Rattle.std.specs.Arc.{arc_value}
use Rattle.std.specs.declared.sync.Arc.{Arc}
use Rattle.std.specs.declared.alloc.Global.{Global}
use Rattle.fol_theory.specs.Syntax.{is_name}
use Rattle.logic_theory.specs.Goals.{Goal}
use Rattle.tactic_theory.specs.States as theory
use Rattle.tactic_theory.specs.States.{frame, is_empty, none_behind, one_above, find_bullet, find_brace}
use Rattle.proof_state.specs.Marks.{mark_of}
use Rattle.proof_state.specs.Sequents.{goals_in}
use Rattle.proof_state.specs.Frames.{frames_in, frames_step, sight, seen}
use Rattle.proof_state.specs.declared.frames.Frame.{Frame}
use Rattle.proof_state.specs.declared.frames.Frames.{Frames}
use Rattle.proof_state.specs.declared.frames.Frames.TheOpen as layer
use Rattle.proof_state.specs.declared.frames.Frames.TheVariants as made
use Rattle.proof_state.specs.declared.frames.Frames.TheFolds.{fold-roll-Frames}

pub frames_Bottom : frames_in made.Bottom ≡ []
frames_Bottom = ap frames_in (sym made.rolls-Bottom) ∙ fold-roll-Frames (List theory.Frame) frames_step layer.Bottom

pub frames_Over : (f : Arc (Frame Frames) Global) → frames_in (made.Over f)
    ≡ frame (mark_of (arc_value f).mark) (goals_in (arc_value f).behind) ∷ frames_in (arc_value f).below
frames_Over f = ap frames_in (sym (made.rolls-Over f)) ∙ fold-roll-Frames (List theory.Frame) frames_step (layer.Over f)

pub ruleset framed = (frames_Bottom, frames_Over)

-- ---- one frame more above what is found

above_more : (v : Bool) (f : theory.Frame) (o : Option theory.Found) → seen v (one_above f o) ≡ seen (v && is_empty f.behind) o
above_more v f None = refl
above_more v f (Some w) = ap (λ b. Some (sight b w.behind w.below)) (sym (and_assoc v (is_empty f.behind) (none_behind w.above)))

by_test : {A : Type 0} (t u : Bool) (x y : A) → t ≡ u → (if t then x else y) ≡ (if u then x else y)
by_test t u x y h = ap (λ b. if b then x else y) h

-- the bullet stands here
pub bullet_here : {n : List ℕ} {gs : List Goal} {fs all : List theory.Frame} (b : List ℕ) (v : Bool) → all ≡ frame (theory.bullet n) gs ∷ fs
    → is_name n b ≡ true → seen v (find_bullet b all) ≡ Some (sight v gs fs)
bullet_here {n} {gs} {fs} b v e h =
    ap (λ z. seen v (find_bullet b z)) e
    ∙ ap (seen v) (by_test (is_name n b) true (Some (theory.found [] gs fs)) (one_above (frame (theory.bullet n) gs) (find_bullet b fs)) h)
    ∙ ap (λ t. Some (sight t gs fs)) (and-true v)

-- it is looked for below another bullet
pub bullet_past : {n : List ℕ} {gs : List Goal} {fs all : List theory.Frame} {w : Bool} (b : List ℕ) (v : Bool)
    → all ≡ frame (theory.bullet n) gs ∷ fs → is_name n b ≡ false → w ≡ (v && is_empty gs)
    → seen v (find_bullet b all) ≡ seen w (find_bullet b fs)
bullet_past {n} {gs} {fs} b v e h k =
    ap (λ z. seen v (find_bullet b z)) e
    ∙ ap (seen v) (by_test (is_name n b) false (Some (theory.found [] gs fs)) (one_above (frame (theory.bullet n) gs) (find_bullet b fs)) h)
    ∙ above_more v (frame (theory.bullet n) gs) (find_bullet b fs) ∙ ap (λ t. seen t (find_bullet b fs)) (sym k)

-- and not below a brace
pub bullet_stops : {gs : List Goal} {fs all : List theory.Frame} (b : List ℕ) (v : Bool) → all ≡ frame theory.brace gs ∷ fs
    → seen v (find_bullet b all) ≡ None
bullet_stops b v e = ap (λ z. seen v (find_bullet b z)) e

pub bullet_ends : {all : List theory.Frame} (b : List ℕ) (v : Bool) → all ≡ [] → seen v (find_bullet b all) ≡ None
bullet_ends b v e = ap (λ z. seen v (find_bullet b z)) e

-- the brace stands here
pub brace_here : {gs : List Goal} {fs all : List theory.Frame} (v : Bool) → all ≡ frame theory.brace gs ∷ fs
    → seen v (find_brace all) ≡ Some (sight v gs fs)
brace_here {gs} {fs} v e = ap (λ z. seen v (find_brace z)) e ∙ ap (λ t. Some (sight t gs fs)) (and-true v)

-- it is looked for below a bullet
pub brace_past : {n : List ℕ} {gs : List Goal} {fs all : List theory.Frame} {w : Bool} (v : Bool) → all ≡ frame (theory.bullet n) gs ∷ fs
    → w ≡ (v && is_empty gs) → seen v (find_brace all) ≡ seen w (find_brace fs)
brace_past {n} {gs} {fs} v e k =
    ap (λ z. seen v (find_brace z)) e ∙ above_more v (frame (theory.bullet n) gs) (find_brace fs) ∙ ap (λ t. seen t (find_brace fs)) (sym k)

pub brace_ends : {all : List theory.Frame} (v : Bool) → all ≡ [] → seen v (find_brace all) ≡ None
brace_ends v e = ap (λ z. seen v (find_brace z)) e

pub ruleset bullets = (frames_Bottom, frames_Over, bullet_here, bullet_past, bullet_stops, bullet_ends)

pub ruleset braces = (frames_Bottom, frames_Over, brace_here, brace_past, brace_ends)
