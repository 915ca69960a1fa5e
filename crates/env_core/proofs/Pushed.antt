-- An entry more.
use Rattle.std.proofs.Common.{◌≡◌, ℕ, Bool, true, false, List, [], ◌∷◌, ◌++◌, refl, sym, ap, subst, ◌∙◌, if◌then◌else◌, Option, Some, None}
use Rattle.std.proofs.Common.{option_map}
use Rattle.std.specs.declared.alloc.Global.{Global}
use Rattle.std.specs.declared.sync.Arc.{Arc}
use Rattle.std.specs.Arc.{arc_value}
use Rattle.std.specs.Map.{lookup}
use Rattle.indexmap.specs.IndexMap.{insert_entry}
use Rattle.fol_theory.specs.Syntax.{is_name}
use Rattle.env_core.specs.declared.entry.Entry.{Entry}
use Rattle.env_core.specs.Layers.{entry_name, found, onto, AreKeyed, AreApart}
use Rattle.env_core.proofs.Layered.{onto_joint, keyed_joint, looked_up}

none_of : (o : Option (Arc Entry Global)) → option_map (λ a. arc_value a) o ≡ None → o ≡ None
none_of None h = refl
none_of (Some a) h = absurd (impossible h)
  where
    impossible : Some (arc_value a) ≡ None → ⊥
    impossible h = cc

-- a key that isn't there goes last
last_entry : (ps : List (List ℕ × Arc Entry Global)) (k : List ℕ) (v : Arc Entry Global) → lookup (is_name k) ps ≡ None
    → insert_entry is_name ps k v ≡ ps ++ ((k, v) ∷ [])
last_entry [] k v h = refl
last_entry (p ∷ ps) k v h = go (is_name k p.0) h (λ z. last_entry ps k v z)
  where
    impossible : Some p.1 ≡ None → ⊥
    impossible h = cc

    go : (r : Bool) → (if r then Some p.1 else lookup (is_name k) ps) ≡ None
        → (lookup (is_name k) ps ≡ None → insert_entry is_name ps k v ≡ ps ++ ((k, v) ∷ []))
        → (if r then (p.0, v) ∷ ps else p ∷ insert_entry is_name ps k v) ≡ p ∷ (ps ++ ((k, v) ∷ []))
    go true e f = absurd (impossible e)
    go false e f = ap (λ z. p ∷ z) (f e)

module _ (ps new : List (List ℕ × Arc Entry Global)) (k : List ℕ) (v : Arc Entry Global) (d : Entry)
    (inserted : new ≡ insert_entry is_name ps k v)
    (keyed : AreKeyed ps) (apart : AreApart (onto [] ps)) (named : k ≡ entry_name d) (shared : arc_value v ≡ d)
    (free : found (onto [] ps) (entry_name d) ≡ None) where
  entries_are : new ≡ ps ++ ((k, v) ∷ [])
  entries_are =
      inserted ∙ last_entry ps k v
      (none_of (lookup (is_name k) ps) (looked_up [] ps k keyed apart refl ∙ ap (found (onto [] ps)) named ∙ free))

  pub pushed_view : onto [] new ≡ d ∷ onto [] ps
  pushed_view = ap (onto []) entries_are ∙ onto_joint [] ps ((k, v) ∷ []) ∙ ap (λ z. z ∷ onto [] ps) shared

  pub pushed_keyed : AreKeyed new
  pushed_keyed = subst AreKeyed (sym entries_are)
      (keyed_joint ps ((k, v) ∷ []) keyed (named ∙ ap entry_name (sym shared), tt))

  pub pushed_apart : AreApart (onto [] new)
  pushed_apart = subst AreApart (sym pushed_view) (free, apart)
