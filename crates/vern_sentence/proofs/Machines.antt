-- The machine of each part, and where it stops.
use Rattle.std.proofs.Common.{◌≡◌, List, [], ◌∷◌, ◌++◌, Option, Some, None, refl, ap, ◌∙◌}
use Rattle.vern_grammar.specs.Kinds.{Lexeme}
use Rattle.vern_sentence.specs.Slots.{Slot, expression, enclosed, shape, evidence, names, groups, Tree, IsPart, Place, first_place}
use Rattle.vern_sentence.specs.Slots.{next_place, tree_at, cut}
use Rattle.vern_sentence.proofs.Signs.{some_out}
use Rattle.vern_sentence.proofs.Parts.{over, split_over, Ran, Ended, expression_ran, expression_whole, expression_ended, shape_ran}
use Rattle.vern_sentence.proofs.Parts.{shape_whole, shape_ended}
use Rattle.vern_sentence.proofs.Lists.{names_ran, names_whole, names_ended, groups_ran, groups_whole, groups_ended}
use Rattle.vern_sentence.proofs.Evidences.{evidence_ran, evidence_whole, evidence_ended}
use Rattle.vern_sentence.proofs.Inner.{enclosed_ran, enclosed_whole, enclosed_ended}

pub part_ran : (i : Slot) (ts : List Lexeme) (t : Tree i) → IsPart i ts t → Ran i ts t
part_ran expression ts t w = expression_ran ts t w
part_ran enclosed ts t w = enclosed_ran ts t w
part_ran shape ts t w = shape_ran ts t w
part_ran evidence ts t w = evidence_ran ts t w
part_ran names ts t w = names_ran ts t w
part_ran groups ts t w = groups_ran ts t w

pub part_whole : (i : Slot) (ts : List Lexeme) (s : Place i) (t : Tree i) → over i (Some (first_place i)) ts ≡ Some s → tree_at i s ≡ Some t
    → IsPart i ts t
part_whole expression ts s t e q = expression_whole ts s t e q
part_whole enclosed ts s t e q = enclosed_whole ts s t e q
part_whole shape ts s t e q = shape_whole ts s t e q
part_whole evidence ts s t e q = evidence_whole ts s t e q
part_whole names ts s t e q = names_whole ts s t e q
part_whole groups ts s t e q = groups_whole ts s t e q

pub part_ended : (i : Slot) (ts : List Lexeme) (s : Place i) → over i (Some (first_place i)) ts ≡ Some s → Ended i s
part_ended expression ts s e = expression_ended ts s e
part_ended enclosed ts s e = enclosed_ended ts s e
part_ended shape ts s e = shape_ended ts s e
part_ended evidence ts s e = evidence_ended ts s e
part_ended names ts s e = names_ended s
part_ended groups ts s e = groups_ended s

-- ---- where the machine stops

-- what a token leads to, or the end before it
abbrev pub passing : (i : Slot) → Place i → Lexeme → List Lexeme → Option (Place i) → Place i × List Lexeme
passing i s k ks m = elim m [ None ↦ (s, k ∷ ks) | Some z ↦ cut i z ks ]

cut_here : (i : Slot) (s z : Place i) (k : Lexeme) (ks : List Lexeme) → Some s ≡ Some z → next_place i z k ≡ None
    → cut i s (k ∷ ks) ≡ (z, k ∷ ks)
cut_here i s z k ks p e = ap (λ y. cut i y (k ∷ ks)) (some_out s z p) ∙ ap (passing i z k ks) e

pub cut_over : (i : Slot) (us : List Lexeme) (s z : Place i) (k : Lexeme) (ks : List Lexeme) → over i (Some s) us ≡ Some z
    → next_place i z k ≡ None → cut i s (us ++ (k ∷ ks)) ≡ (z, k ∷ ks)
cut_over i [] s z k ks p e = cut_here i s z k ks p e
cut_over i (u ∷ us) s z k ks p e =
    split_over i (cut i s ((u ∷ us) ++ (k ∷ ks)) ≡ (z, k ∷ ks)) (next_place i s u) us z (λ y q r. ap (passing i s u (us ++ (k ∷ ks))) q
    ∙ cut_over i us y z k ks r e) p

-- the tokens before the cut are gone over, and the one behind it is refused
pub record CutAt (i : Slot) (s : Place i) (ts : List Lexeme) (to : Place i × List Lexeme) : Type 0 where
  pub front : List Lexeme
  pub split : ts ≡ front ++ to.1
  pub ran : over i (Some s) front ≡ Some to.0
  pub refused : (k : Lexeme) (ks : List Lexeme) → to.1 ≡ k ∷ ks → next_place i to.0 k ≡ None

cut_none : (i : Slot) (s : Place i) (k : Lexeme) (ks : List Lexeme) → next_place i s k ≡ None → CutAt i s (k ∷ ks) (s, k ∷ ks)
cut_none i s k ks e = record { front = []; split = refl; ran = refl; refused = λ j js p. ap (next_place i s) (let q : j ≡ k = cc in q) ∙ e }

cut_some : (i : Slot) (s z : Place i) (k : Lexeme) (ks : List Lexeme) → next_place i s k ≡ Some z → CutAt i z ks (cut i z ks)
    → CutAt i s (k ∷ ks) (cut i z ks)
cut_some i s z k ks e c = record {
  front = k ∷ c.front;
  split = ap (λ l. k ∷ l) c.split;
  ran = ap (λ m. over i m c.front) e
      ∙ c.ran;
  refused = c.refused;
}

cut_by : (i : Slot) (s : Place i) (k : Lexeme) (ks : List Lexeme) (m : Option (Place i)) → next_place i s k ≡ m
    → ((z : Place i) → CutAt i z ks (cut i z ks)) → CutAt i s (k ∷ ks) (passing i s k ks m)
cut_by i s k ks None e f = cut_none i s k ks e
cut_by i s k ks (Some z) e f = cut_some i s z k ks e (f z)

pub cut_is : (i : Slot) (ts : List Lexeme) (s : Place i) → CutAt i s ts (cut i s ts)
cut_is i [] s = record { front = []; split = refl; ran = refl; refused = λ k ks e. cc }
cut_is i (k ∷ ks) s = cut_by i s k ks (next_place i s k) refl (λ z. cut_is i ks z)
