-- Entries put onto others, and layers onto layers.
use Rattle.std.proofs.Common.{◌≡◌, ℕ, zero, suc, ◌+◌, ◌-◌, ◌<◌, ◌≤◌, Bool, true, false, List, [], ◌∷◌, ◌++◌, length, map, refl, sym, ap}
use Rattle.std.proofs.Common.{subst, ◌∙◌, ◌⊎◌, inl, inr}
use Rattle.std.proofs.Common.{if◌then◌else◌, Option, Some, None, option_map, slice_get, arith}
use Rattle.std.proofs.lemmas.List.{append_assoc}
use Rattle.std.specs.declared.alloc.Global.{Global}
use Rattle.std.specs.declared.sync.Arc.{Arc}
use Rattle.std.specs.Arc.{arc_value}
use Rattle.std.specs.Map.{lookup}
use Rattle.fol_theory.specs.Syntax.{is_name}
use Rattle.fol_theory.specs.Contexts.{IsFromLast}
use Rattle.env_core.specs.declared.entry.Entry.{Entry}
use Rattle.env_theory.proofs.SameNames.{one_name, own_name}
use Rattle.env_core.specs.Layers.{entry_name, found, onto, AreKeyed, AreApart, stacked}

-- ---- entries

pub onto_joint : (ds : List Entry) (ps qs : List (List ℕ × Arc Entry Global)) → onto ds (ps ++ qs) ≡ onto (onto ds ps) qs
onto_joint ds [] qs = refl
onto_joint ds (p ∷ ps) qs = onto_joint (arc_value p.1 ∷ ds) ps qs

pub keyed_joint : (ps qs : List (List ℕ × Arc Entry Global)) → AreKeyed ps → AreKeyed qs → AreKeyed (ps ++ qs)
keyed_joint [] qs h k = k
keyed_joint (p ∷ ps) qs h k = (h.0, keyed_joint ps qs h.1 k)

-- what entries are put onto stands behind them
pub onto_behind : (ds : List Entry) (ps : List (List ℕ × Arc Entry Global)) → onto ds ps ≡ onto [] ps ++ ds
onto_behind ds [] = refl
onto_behind ds (p ∷ ps) =
    let d = arc_value p.1 in
    onto_behind (d ∷ ds) ps ∙ sym (append_assoc (onto [] ps) (d ∷ []) ds) ∙ ap (λ z. z ++ ds) (sym (onto_behind (d ∷ []) ps))

pub apart_behind : (ds : List Entry) (ps : List (List ℕ × Arc Entry Global)) → AreApart (onto ds ps)
    → AreApart ds
apart_behind ds [] h = h
apart_behind ds (p ∷ ps) h = (apart_behind (arc_value p.1 ∷ ds) ps h).1

-- ---- names

not_found : (g : Entry) (G : List Entry) (n : List ℕ) → found (g ∷ G) n ≡ None → (is_name (entry_name g) n ≡ false) × (found G n ≡ None)
not_found g G n = go (is_name (entry_name g) n) refl
  where
    go : (q : Bool) → is_name (entry_name g) n ≡ q → (if q then Some g else found G n) ≡ None
        → (is_name (entry_name g) n ≡ false) × (found G n ≡ None)
    go true e k = (cc, cc)
    go false e k = (e, k)

longer : (d : Entry) (E : List Entry) → found E (entry_name d) ≡ None → (n : List ℕ) (x : Entry) → found E n ≡ Some x
    → found (d ∷ E) n ≡ Some x
longer d E new n x e = go (is_name (entry_name d) n) refl
  where
    go : (r : Bool) → is_name (entry_name d) n ≡ r → (if r then Some d else found E n) ≡ Some x
    go true h = let k = subst (λ m. found E m ≡ None) (one_name (entry_name d) n h) new in cc
    go false h = e

newest : (d : Entry) (E : List Entry) → found (d ∷ E) (entry_name d) ≡ Some d
newest d E = ap (λ q. if q then Some d else found E (entry_name d)) (own_name (entry_name d))

-- what is found is found behind more entries
stays : (ds : List Entry) (ps : List (List ℕ × Arc Entry Global)) → AreApart (onto ds ps) → (n : List ℕ) (d : Entry)
    → found ds n ≡ Some d → found (onto ds ps) n ≡ Some d
stays ds [] a n d h = h
stays ds (p ∷ ps) a n d h =
    let e = arc_value p.1 in
    stays (e ∷ ds) ps a n d (longer e ds (apart_behind (e ∷ ds) ps a).0 n d h)

-- a name that isn't a key is found where it was
other_key : (d : Entry) (E : List Entry) (k n : List ℕ) → k ≡ entry_name d → is_name n k ≡ false → found E n ≡ None
    → found (d ∷ E) n ≡ None
other_key d E k n e q h = go (is_name (entry_name d) n) refl
  where
    differ : true ≡ false → ⊥
    differ h = cc

    go : (r : Bool) → is_name (entry_name d) n ≡ r → (if r then Some d else found E n) ≡ None
    go true t = absurd (differ (sym (own_name n) ∙ ap (is_name n) (sym (e ∙ one_name (entry_name d) n t)) ∙ q))
    go false t = h

pub looked_up : (ds : List Entry) (ps : List (List ℕ × Arc Entry Global)) (n : List ℕ) → AreKeyed ps → AreApart (onto ds ps)
    → found ds n ≡ None
    → option_map (λ a. arc_value a) (lookup (is_name n) ps) ≡ found (onto ds ps) n
looked_up ds [] n k a h = sym h
looked_up ds (p ∷ ps) n k a h = go (is_name n p.0) refl (λ z. looked_up (arc_value p.1 ∷ ds) ps n k.1 a z)
  where
    d : Entry
    d = arc_value p.1

    go : (r : Bool) → is_name n p.0 ≡ r
        → (found (d ∷ ds) n ≡ None
        → option_map (λ a. arc_value a) (lookup (is_name n) ps) ≡ found (onto (d ∷ ds) ps) n)
        → option_map (λ a. arc_value a) (if r then Some p.1 else lookup (is_name n) ps)
        ≡ found (onto (d ∷ ds) ps) n
    go true q f =
        let e : entry_name d ≡ n = sym (one_name n p.0 q ∙ k.0) in
        sym (stays (d ∷ ds) ps a n d
        (subst (λ m. found (d ∷ ds) m ≡ Some d) e (newest d ds)))
    go false q f = f (other_key d ds p.0 n k.0 q h)

pub length_onto : (ds : List Entry) (ps : List (List ℕ × Arc Entry Global)) → length (onto ds ps) ≡ length ds + length ps
length_onto ds [] = omega arith
length_onto ds (p ∷ ps) = let e = length_onto (arc_value p.1 ∷ ds) ps in omega (arith, e)

-- a layer has as many entries as its map
pub as_many : (ps : List (List ℕ × Arc Entry Global)) → length (onto [] ps) ≡ length ps
as_many ps = let e = length_onto [] ps in omega (arith, e)

-- an entry that others are put onto keeps its number
kept_place : (ds : List Entry) (ps : List (List ℕ × Arc Entry Global)) (i : ℕ) (x : Entry) → IsFromLast ds i x → IsFromLast (onto ds ps) i x
kept_place ds [] i x h = h
kept_place ds (p ∷ ps) i x h = kept_place (arc_value p.1 ∷ ds) ps i x (inr h)

placed : (ds : List Entry) (ps : List (List ℕ × Arc Entry Global)) (i : ℕ) (p : List ℕ × Arc Entry Global) → slice_get ps i ≡ Some p
    → IsFromLast (onto ds ps) (length ds + i) (arc_value p.1)
placed ds [] i p h = absurd (impossible h)
  where
    impossible : None ≡ Some p → ⊥
    impossible h = cc
placed ds (q ∷ ps) zero p h =
    let e : q ≡ p = cc in
    kept_place (arc_value q.1 ∷ ds) ps (length ds + 0) (arc_value p.1) (inl (omega arith, ap (λ z. arc_value z.1) (sym e)))
placed ds (q ∷ ps) (suc i) p h =
    let n : length (arc_value q.1 ∷ ds) + i ≡ length ds + suc i = omega arith in
    subst (λ m. IsFromLast (onto (arc_value q.1 ∷ ds) ps) m (arc_value p.1)) n (placed (arc_value q.1 ∷ ds) ps i p h)

pub entry_placed : (ps : List (List ℕ × Arc Entry Global)) (i : ℕ) (k : List ℕ) (a : Arc Entry Global) → Some (k, a) ≡ slice_get ps i
    → IsFromLast (onto [] ps) i (arc_value a)
entry_placed ps i k a h =
    let n : length {A = Entry} [] + i ≡ i = omega arith in
    subst (λ m. IsFromLast (onto [] ps) m (arc_value a)) n (placed [] ps i (k, a) (sym h))

-- ---- lists of entries

front_none : (G E : List Entry) (n : List ℕ) → found (G ++ E) n ≡ None → found G n ≡ None
front_none [] E n h = refl
front_none (g ∷ G) E n h =
    let parts = not_found g (G ++ E) n h in ap (λ q. if q then Some g else found G n) parts.0 ∙ front_none G E n parts.1

-- a part in front has names apart too
pub front_apart : (G E : List Entry) → AreApart (G ++ E) → AreApart G
front_apart [] E a = tt
front_apart (g ∷ G) E a = (front_none G E (entry_name g) a.0, front_apart G E a.1)

-- what the front finds is found, and what it doesn't find is looked for behind it
pub found_in_front : (G E : List Entry) (n : List ℕ) (d : Entry) → found G n ≡ Some d → found (G ++ E) n ≡ Some d
found_in_front [] E n d h = absurd (impossible h)
  where
    impossible : None ≡ Some d → ⊥
    impossible h = cc
found_in_front (g ∷ G) E n d h = go (is_name (entry_name g) n) h (λ k. found_in_front G E n d k)
  where
    go : (q : Bool) → (if q then Some g else found G n) ≡ Some d → (found G n ≡ Some d → found (G ++ E) n ≡ Some d)
        → (if q then Some g else found (G ++ E) n) ≡ Some d
    go true k f = k
    go false k f = f k

pub none_in_front : (G E : List Entry) (n : List ℕ) → found G n ≡ None → found (G ++ E) n ≡ found E n
none_in_front [] E n h = refl
none_in_front (g ∷ G) E n h =
    let parts = not_found g G n h in ap (λ q. if q then Some g else found (G ++ E) n) parts.0 ∙ none_in_front G E n parts.1

-- entries of other names hide none
pub found_behind : (G E : List Entry) → AreApart (G ++ E) → (n : List ℕ) (d : Entry) → found E n ≡ Some d → found (G ++ E) n ≡ Some d
found_behind [] E a n d h = h
found_behind (g ∷ G) E a n d h = longer g (G ++ E) a.0 n d (found_behind G E a.1 n d h)

-- the element with so many behind it stands in the part behind, or in front of it
pub last_behind : {A : Type 0} (xs ys : List A) (i : ℕ) (x : A) → IsFromLast ys i x → IsFromLast (xs ++ ys) i x
last_behind [] ys i x h = h
last_behind (z ∷ xs) ys i x h = inr (last_behind xs ys i x h)

pub length_joint : {A : Type 0} (xs ys : List A) → length (xs ++ ys) ≡ length xs + length ys
length_joint [] ys = omega arith
length_joint (x ∷ xs) ys = let e = length_joint xs ys in omega (arith, e)

pub last_in_front : {A : Type 0} (xs ys : List A) (i : ℕ) (x : A) → IsFromLast xs i x → IsFromLast (xs ++ ys) (i + length ys) x
last_in_front [] ys i x h = absurd h
last_in_front (z ∷ xs) ys i x (inl h) = inl (ap (λ n. n + length ys) h.0 ∙ sym (length_joint xs ys), h.1)
last_in_front (z ∷ xs) ys i x (inr h) = inr (last_in_front xs ys i x h)

-- ---- layers

pub stacked_joint : (ds : List Entry) (ls ms : List (Arc (List Entry) Global)) → stacked ds (ls ++ ms) ≡ stacked (stacked ds ls) ms
stacked_joint ds [] ms = refl
stacked_joint ds (l ∷ ls) ms = stacked_joint (arc_value l ++ ds) ls ms

pub no_more : (ds : List Entry) → ds ++ [] ≡ ds
no_more [] = refl
no_more (d ∷ ds) = ap (λ z. d ∷ z) (no_more ds)

pub stacked_behind : (ds : List Entry) (ls : List (Arc (List Entry) Global)) → stacked ds ls ≡ stacked [] ls ++ ds
stacked_behind ds [] = refl
stacked_behind ds (l ∷ ls) =
    stacked_behind (arc_value l ++ ds) ls ∙ sym (append_assoc (stacked [] ls) (arc_value l) ds)
    ∙ ap (λ z. z ++ ds) (sym (stacked_behind (arc_value l) ls) ∙ ap (λ z. stacked z ls) (sym (no_more (arc_value l))))
