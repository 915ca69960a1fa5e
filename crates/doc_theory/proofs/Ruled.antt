-- At each standing of a history the document is that of its flat list and cursor.
use Rattle.std.proofs.Common.{◌≡◌, ℕ, List, [], ◌∷◌, map, Bool, refl}
use Rattle.line_theory.specs.Lists.{Every}
use Rattle.line_theory.specs.Shapes.{lone, block, closed, proof, last, zone}
use Rattle.doc_theory.specs.Documents.{
  delegates,
  Entry,
  Item,
  End,
  Focus,
  Document,
  Home,
  outside,
  home,
  flag,
  flag_item,
  flag_end,
  flag_focus,
  flagged,
  telling,
  reporting,
}
use Rattle.doc_theory.specs.Checks.{Check}
use Rattle.doc_theory.specs.Histories.{Event, start, standing}
use Rattle.line_theory.specs.Flat.{within, Has, Ruled, RuledEnd, RuledFocus}
use Rattle.doc_theory.specs.Flat.{reading, IsRuled, from_lists, front, back}
use Rattle.doc_theory.proofs.Flat.{read_back, attempt_ruled, remove_ruled}
use Rattle.doc_theory.proofs.Ids.{IsStable, standing_stable}

inner_flag : (rule : Home → ℕ → Bool → Bool) (h : Home) (b : List Entry) → Every (Has reading within) b
    → Every (Has reading within) (map (flag rule h) b)
inner_flag rule h [] k = tt
inner_flag rule h (e ∷ b) k = (k.0, inner_flag rule h b k.1)

ruled_items : (rule : Home → ℕ → Bool → Bool) (xs : List Item) → Every (Ruled reading) xs → Every (Ruled reading) (map (flag_item rule) xs)
ruled_items rule [] k = tt
ruled_items rule (lone e ∷ xs) k = (k.0, ruled_items rule xs k.1)
ruled_items rule (block l b c ∷ xs) k = (
  (k.0.0, (inner_flag rule (home (delegates c.sentence.kind) l.id) b k.0.1.0, (k.0.1.1.0, refl))),
  ruled_items rule xs k.1,
)

ruled_end : (rule : Home → ℕ → Bool → Bool) (o : End) → RuledEnd reading o → RuledEnd reading (flag_end rule o)
ruled_end rule closed k = tt
ruled_end rule (proof l b) k = (k.0, inner_flag rule outside b k.1)

ruled_focus : (rule : Home → ℕ → Bool → Bool) (f : Focus) → RuledFocus reading f → RuledFocus reading (flag_focus rule f)
ruled_focus rule (last o) k = ruled_end rule o k
ruled_focus rule (zone l b c t o) k = (
  (k.0.0, (inner_flag rule outside b k.0.1.0, (k.0.1.1.0, refl))),
  (ruled_items rule t k.1.0, ruled_end rule o k.1.1),
)

ruled_flagged : (rule : Home → ℕ → Bool → Bool) (d : Document) → IsRuled d → IsRuled (flagged rule d)
ruled_flagged rule d k = (ruled_items rule d.items k.0, ruled_focus rule d.focus k.1)

ruled_stable : IsStable IsRuled
ruled_stable = record {
  adding = attempt_ruled;
  removing = remove_ruled;
  telling = λ d ns k. ruled_flagged (telling ns) d k;
  reporting = λ d n k. ruled_flagged (reporting n) d k;
}

pub standing_read_back : {State : Type 0} (L : Check State) (limit : ℕ) (h : List Event)
    → from_lists (front (standing L limit h).document) (back (standing L limit h).document) (standing L limit h).document.next
    (standing L limit h).document.limit ≡ (standing L limit h).document
standing_read_back L limit h = read_back (standing L limit h).document (standing_stable IsRuled ruled_stable L (start limit) h (tt, tt))
