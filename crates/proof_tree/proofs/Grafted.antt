-- A part put in between the rules before the first leaf and those behind it.
use Rattle.std.proofs.Common.{◌≡◌, List, [], ◌∷◌, ◌++◌, map, reverse, ap, sym, subst, ◌∙◌, refl}
use Rattle.std.proofs.lemmas.Grind.{reverse_onto}
use Rattle.std.proofs.lemmas.List.{append_assoc, reverse-append}
use Rattle.logic_theory.specs.Rules as theory
use Rattle.logic_theory.specs.Grafts.{graft}
use Rattle.proof_tree.specs.Meaning.{meaning, meanings, IsLeaf, IsStep, HasLeaf}
use Rattle.proof_tree.specs.Chains.{onto, AreSteps, BeginsOpen}
use Rattle.proof_tree.specs.declared.rule.Rule.{Rule}

map_append : (xs ys : List Rule) → meanings (xs ++ ys) ≡ meanings xs ++ meanings ys
map_append [] ys = refl
map_append (x ∷ xs) ys = ap (λ z. meaning x ∷ z) (map_append xs ys)

-- rules of two chains, the last of them first
pub onto_append : (cs ds rs : List Rule) → onto (cs ++ ds) rs ≡ onto ds (onto cs rs)
onto_append [] ds rs = refl
onto_append (c ∷ cs) ds rs = onto_append cs ds (c ∷ rs)

append_onto : (cs rs ss : List Rule) → onto cs (rs ++ ss) ≡ onto cs rs ++ ss
append_onto [] rs ss = refl
append_onto (c ∷ cs) rs ss = append_onto cs (c ∷ rs) ss

graft_at : (ps : List theory.Rule) (r : theory.Rule) (rs : List theory.Rule) → IsLeaf r → graft ps (r ∷ rs) ≡ ps ++ rs
graft_at ps (theory.leaf ns) rs h = refl
graft_at ps (theory.step r) rs h = absurd h

graft_past : (ps : List theory.Rule) (r : theory.Rule) (rs : List theory.Rule) → IsStep r → graft ps (r ∷ rs) ≡ r ∷ graft ps rs
graft_past ps (theory.leaf ns) rs h = absurd h
graft_past ps (theory.step r) rs h = refl

-- a leaf among rules is one behind those that are none
leaf_behind : (cs rs : List Rule) → AreSteps cs → HasLeaf (meanings (onto cs rs)) → HasLeaf (meanings rs)
leaf_behind [] rs s h = h
leaf_behind (c ∷ cs) rs s h = go (meaning c) (meanings rs) s.0 (leaf_behind cs (c ∷ rs) s.1 h)
  where
    go : (r : theory.Rule) (ts : List theory.Rule) → IsStep r → HasLeaf (r ∷ ts) → HasLeaf ts
    go (theory.leaf ns) ts k l = absurd k
    go (theory.step r) ts k l = l

leaf_before : (cs rs : List Rule) → AreSteps cs → HasLeaf (meanings rs) → HasLeaf (meanings (onto cs rs))
leaf_before [] rs s h = h
leaf_before (c ∷ cs) rs s h = leaf_before cs (c ∷ rs) s.1 (go (meaning c) (meanings rs) s.0 h)
  where
    go : (r : theory.Rule) (ts : List theory.Rule) → IsStep r → HasLeaf ts → HasLeaf (r ∷ ts)
    go (theory.leaf ns) ts k l = absurd k
    go (theory.step r) ts k l = l

-- a tree whose open part has no rule has no leaf
pub leaf_none : (cs rs : List Rule) → AreSteps cs → rs ≡ [] → HasLeaf (meanings (onto cs rs)) → ⊥
leaf_none cs rs s e h = leaf_behind cs [] s (subst (λ z. HasLeaf (meanings (onto cs z))) e h)

-- and one whose open part has a rule has one
pub leaf_some : (cs rs ts : List Rule) (r : Rule) → AreSteps cs × BeginsOpen rs → rs ≡ r ∷ ts → HasLeaf (meanings (onto cs rs))
leaf_some cs rs ts r s e =
    leaf_before cs rs s.0 (subst (λ z. HasLeaf (meanings z)) (sym e) (go (meaning r) (meanings ts) (subst BeginsOpen e s.1)))
  where
    go : (r : theory.Rule) (ts : List theory.Rule) → IsLeaf r → HasLeaf (r ∷ ts)
    go (theory.leaf ns) ts k = tt
    go (theory.step r) ts k = absurd k

pub steps_append : (cs ds : List Rule) → AreSteps cs → AreSteps ds → AreSteps (cs ++ ds)
steps_append [] ds s t = t
steps_append (c ∷ cs) ds s t = (s.0, steps_append cs ds s.1 t)

-- a graft passes the rules that are no leaf
graft_onto : (ps : List theory.Rule) (cs zs ys : List Rule) → AreSteps cs → meanings zs ≡ graft ps (meanings ys)
    → meanings (onto cs zs) ≡ graft ps (meanings (onto cs ys))
graft_onto ps [] zs ys s e = e
graft_onto ps (c ∷ cs) zs ys s e =
    graft_onto ps cs (c ∷ zs) (c ∷ ys) s.1 (ap (λ z. meaning c ∷ z) e ∙ sym (graft_past ps (meaning c) (meanings ys) s.0))

-- the chains of a tree with a part put in at its first leaf, from those of both
pub grafted : (pc po sc so rest : List Rule) → AreSteps sc × BeginsOpen so → HasLeaf (meanings (onto sc so))
    → ((r : Rule) (rs : List Rule) → so ≡ r ∷ rs → rest ≡ rs)
    → meanings (onto (pc ++ sc) (po ++ rest)) ≡ graft (meanings (onto pc po)) (meanings (onto sc so))
grafted pc po sc [] rest s h k = absurd (leaf_behind sc [] s.0 h)
grafted pc po sc (r ∷ rs) rest s h k =
    let whole = ap meanings (onto_append pc sc (po ++ rest) ∙ ap (onto sc) (append_onto pc po rest)) in
    let here = map_append (onto pc po) rest ∙ ap (λ z. meanings (onto pc po) ++ meanings z) (k r rs refl)
    ∙ sym (graft_at (meanings (onto pc po)) (meaning r) (meanings rs) s.1) in
    whole ∙ graft_onto (meanings (onto pc po)) sc (onto pc po ++ rest) (r ∷ rs) s.0 here

-- rules that are put before others one by one stand in the other order
pub onto_reverse : (cs rs : List Rule) → onto cs rs ≡ reverse cs ++ rs
onto_reverse [] rs = refl
onto_reverse (c ∷ cs) rs = onto_reverse cs (c ∷ rs) ∙ sym (ap (λ z. z ++ rs) (reverse_onto cs c []) ∙ append_assoc (reverse cs) (c ∷ []) rs)

spread : {A B : Type 0} (f : A → B) (xs ys : List A) → map f (xs ++ ys) ≡ map f xs ++ map f ys
spread f [] ys = refl
spread f (x ∷ xs) ys = ap (λ z. f x ∷ z) (spread f xs ys)

pub turned : {A B : Type 0} (f : A → B) (xs : List A) → map f (reverse xs) ≡ reverse (map f xs)
turned f [] = refl
turned f (x ∷ xs) =
    ap (map f) (reverse-append (x ∷ []) xs) ∙ spread f (reverse xs) (x ∷ []) ∙ ap (λ z. z ++ f x ∷ []) (turned f xs)
    ∙ sym (reverse-append (f x ∷ []) (map f xs))
