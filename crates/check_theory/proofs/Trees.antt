-- A sentence that was read has the tree of its bytes.
use Rattle.std.proofs.Common.{◌≡◌, Bool, true, if◌then◌else◌, Some, None, Ok, refl, ap, ◌∙◌}
use Rattle.vern_sentence.specs.Trees as made
use Rattle.vern_step.specs.Parsed.{parsed, kind_of, kind_read}
use Rattle.doc_theory.specs.Documents.{Closer, qed, admitted, defined, abort, Kind, plain, begin, inner, close, Sentence}
use Rattle.check_theory.specs.Pieces.{place_in_proofs}
use Rattle.check_theory.specs.Language.{is_closer, is_kind, tree_as, tree_of}
use Rattle.check_theory.specs.Read.{IsRead}

same_closer : (c : Closer) → is_closer c c ≡ true
same_closer qed = refl
same_closer admitted = refl
same_closer defined = refl
same_closer abort = refl

same_kind : (k : Kind) → is_kind k k ≡ true
same_kind plain = refl
same_kind begin = refl
same_kind inner = refl
same_kind (close c) = same_closer c

-- bytes of this tree, with its kind, have it
pub tree_found : (x : Sentence) (t : made.Sentence) → parsed x.text ≡ Ok t → x.kind ≡ place_in_proofs (kind_of t) → tree_of x ≡ Some t
tree_found x t e k =
    ap (tree_as x.kind) e ∙ ap (λ j. if is_kind j (place_in_proofs (kind_of t)) then Some t else None) k
    ∙ ap (λ (b : Bool). if b then Some t else None) (same_kind (place_in_proofs (kind_of t)))

-- the kind of a sentence that was read is that of its tree
pub kind_is : (x : Sentence) (h : IsRead x) → x.kind ≡ place_in_proofs (kind_of h.0.0)
kind_is x h = h.1 ∙ ap (λ r. place_in_proofs (kind_read r)) h.0.1

pub tree_is : (x : Sentence) (h : IsRead x) → tree_of x ≡ Some h.0.0
tree_is x h = tree_found x h.0.0 h.0.1 (kind_is x h)
