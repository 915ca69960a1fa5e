-- Ids stay distinct and below the next one.
use Rattle.std.proofs.Common.{◌≡◌, ℕ, suc, ◌<◌, ◌≤◌, ◌||◌, List, [], ◌∷◌, ◌++◌, Bool, true, false, if◌then◌else◌, Some, None, refl, sym, subst, arith}
use Rattle.line_theory.specs.Lists.{has, Distinct, Every, IsCut, IsGrown}
use Rattle.line_theory.specs.Shapes.{last, zone}
use Rattle.line_theory.proofs.Lists.{test_back, every_join, every_parts, cut_distinct, grown_distinct}
use Rattle.doc_theory.proofs.Lists.{every_map}
use Rattle.doc_theory.specs.Documents.{Sentence, Entry, reopens, Item, Focus, Document}
use Rattle.doc_theory.specs.Editing.{
  Seat,
  among,
  open_lemma,
  open_inner,
  behind,
  nowhere,
  at_lone,
  at_lemma,
  at_inner,
  at_closer,
  missing,
  seat,
  unclose,
  reopen,
  reenter,
  Edited,
  unknown,
  refused_by,
  changed,
  remove_at,
  remove,
  Tried,
  refused,
  added,
  attempt,
}
use Rattle.doc_theory.specs.Invariants.{IfAdded, IfChanged}
use Rattle.doc_theory.specs.Line.{line, IsAddedTo, HasNext, HasIds}
use Rattle.doc_theory.proofs.Places.{attempt_line, remove_cut}
use Rattle.doc_theory.proofs.Ids.{attempt_at_next, other_back}

-- each number is from 2 on and below this one
abbrev pub Below : ℕ → ℕ → Type 0
Below n m = (2 ≤ m) × (m < n)

bounded_more : (n : ℕ) (xs : List ℕ) → Every (Below n) xs → Every (Below (suc n)) xs
bounded_more n xs h = every_map (Below n) (Below (suc n)) xs (λ m k. (k.0, omega (arith, k.1))) h

-- a number that is greater than all isn't there
pub absent_above : (n : ℕ) (xs : List ℕ) → Every (Below n) xs → has n xs ≡ false
absent_above n [] h = refl
absent_above n (m ∷ xs) h = λ i. test_back m n (other_back m n h.0.1) i || absent_above n xs h.1 i

ids_cut : (d e : Document) → e.next ≡ d.next → IsCut (line d) (line e) → HasIds d → HasIds e
ids_cut d e n c h =
    let all : Every (Below d.next) (c.front ++ (c.gone ++ c.back)) = subst (Every (Below d.next)) c.was h.bounds in
    let two : Every (Below d.next) c.front × Every (Below d.next) (c.gone ++ c.back) =
    every_parts (Below d.next) c.front (c.gone ++ c.back) all in
    let kept : Every (Below d.next) (line e) = subst (Every (Below d.next)) (sym c.is)
    (every_join (Below d.next) c.front c.back two.0 (every_parts (Below d.next) c.gone c.back two.1).1) in
    record {
      distinct = cut_distinct (line d) (line e) c h.distinct;
      bounds = subst (λ z. Every (Below z) (line e)) (sym n) kept;
      next = subst (λ z. 2 ≤ z) (sym n) h.next;
    }

ids_grown : (d e : Document) → e.next ≡ suc d.next → IsGrown d.next (line d) (line e) → HasIds d → HasIds e
ids_grown d e n c h =
    let all : Every (Below (suc d.next)) (c.front ++ c.back) =
    bounded_more d.next (c.front ++ c.back) (subst (Every (Below d.next)) c.was h.bounds) in
    let two : Every (Below (suc d.next)) c.front × Every (Below (suc d.next)) c.back =
    every_parts (Below (suc d.next)) c.front c.back all in
    let low : 2 ≤ d.next = h.next in
    let more : Every (Below (suc d.next)) (line e) = subst (Every (Below (suc d.next))) (sym c.is)
    (every_join (Below (suc d.next)) c.front (d.next ∷ c.back) two.0 ((low, omega arith), two.1)) in
    record {
      distinct = grown_distinct d.next (line d) (line e) c (absent_above d.next (line d) h.bounds) h.distinct;
      bounds = subst (λ z. Every (Below z) (line e)) (sym n) more;
      next = subst (λ z. 2 ≤ z) (sym n) (omega (arith, low));
    }

pub ids_same : (d e : Document) → e.next ≡ d.next → line e ≡ line d → HasIds d → HasIds e
ids_same d e n l h = record {
  distinct = subst Distinct (sym l) h.distinct;
  bounds = subst (λ z. Every (Below z) (line e)) (sym n) (subst (Every (Below d.next)) (sym l) h.bounds);
  next = subst (λ z. 2 ≤ z) (sym n) h.next;
}

added_ids : (d : Document) (x : Tried) → HasNext d x → IsAddedTo d x → HasIds d → IfAdded HasIds x
added_ids d (refused r) n l h = tt
added_ids d (added e i None) n l h = ids_grown d e n (subst (λ z. IsGrown z (line d) (line e)) l.1 l.0) h
added_ids d (added e i (Some t)) n l h = ids_same d e n l h

pub attempt_ids : (d : Document) (p : ℕ) (x : Sentence) → HasIds d → IfAdded HasIds (attempt d p x)
attempt_ids d p x h = added_ids d (attempt d p x) (attempt_at_next d p x x.kind d.focus) (attempt_line d p x) h

-- a removal gives no id, and leaves the limit
abbrev pub SameNumbers : Document → Document → Type 0
SameNumbers d e = (e.next ≡ d.next) × (e.limit ≡ d.limit)

reentered : (d : Document) (g : Focus) (a : List Item) (l : Entry) (f : List Entry) (c : Entry) (t : List Item)
    → SameNumbers d (reenter g a l f c t d)
reentered d (last o) a l f c t = go (reopens c.sentence.kind)
  where
    go : (b : Bool) → SameNumbers d (if b then reopen a l f c t o d else unclose a l f c d)
    go true = (refl, refl)
    go false = (refl, refl)
reentered d (zone m y x u o) a l f c t = (refl, refl)

removed_at : (d : Document) (x : Seat) → IfChanged (SameNumbers d) (remove_at x d)
removed_at d (among (at_lone a e t)) = (refl, refl)
removed_at d (among (at_lemma a l b c t)) = (refl, refl)
removed_at d (among (at_inner a l f e k c t)) = reentered d d.focus a l f c t
removed_at d (among (at_closer a l b c t)) = (refl, refl)
removed_at d (among missing) = tt
removed_at d (open_lemma l b) = (refl, refl)
removed_at d (open_inner l f e k) = (refl, refl)
removed_at d (behind c) = tt
removed_at d nowhere = tt

pub remove_numbers : (d : Document) (i : ℕ) → IfChanged (SameNumbers d) (remove d i)
remove_numbers d i = removed_at d (seat i d)

changed_ids : (d : Document) (x : Edited) → IfChanged (SameNumbers d) x → IfChanged (λ e. IsCut (line d) (line e)) x → HasIds d
    → IfChanged HasIds x
changed_ids d unknown n c h = tt
changed_ids d (refused_by k) n c h = tt
changed_ids d (changed e) n c h = ids_cut d e n.0 c h

pub remove_ids : (d : Document) (i : ℕ) → HasIds d → IfChanged HasIds (remove d i)
remove_ids d i h = changed_ids d (remove d i) (remove_numbers d i) (remove_cut d i) h
