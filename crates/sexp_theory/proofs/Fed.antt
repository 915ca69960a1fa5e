-- What is fed never changes the items before it.
use Rattle.std.proofs.Common.{◌≡◌, ℕ, zero, suc, List, [], ◌∷◌, ◌++◌, Bool, false, Option, Some, None, refl, sym, ap, ◌∙◌}
use Rattle.sexp_theory.specs.Items.{Item, Unread, Taken, next_item, items_up_to, items_of, end_of, fed}
use Rattle.sexp_theory.specs.ItemWords.{IsRead}
use Rattle.sexp_theory.proofs.Taking.{item_is}
use Rattle.sexp_theory.proofs.Streams.{items-taken, end-taken}

-- behind items that were read, the items of the whole are the items of what is left, with all that is fed
pub pieces : (items : List Item) (limit : ℕ) (ended : Bool) (u rest : Unread) (piece : List ℕ) → IsRead limit u items rest
    → items_of limit ended (fed u piece) ≡ items ++ items_of limit ended (fed rest piece)
pieces [] limit ended u rest piece h = ap (λ r. items_of limit ended (fed r piece)) (sym h)
pieces (item ∷ items) limit ended u rest piece h =
    let t : Taken = record { item = item; rest = h.0 } in
    items-taken limit ended u t piece (item_is limit false u item h.0 h.1)
    ∙ ap (λ is. item ∷ is) (pieces items limit ended h.0 rest piece h.2)

pub pieces_end : (items : List Item) (limit : ℕ) (u rest : Unread) (piece : List ℕ) → IsRead limit u items rest
    → end_of limit (fed u piece) ≡ end_of limit (fed rest piece)
pieces_end [] limit u rest piece h = ap (λ r. end_of limit (fed r piece)) (sym h)
pieces_end (item ∷ items) limit u rest piece h =
    let t : Taken = record { item = item; rest = h.0 } in
    end-taken limit u t piece (item_is limit false u item h.0 h.1) ∙ pieces_end items limit h.0 rest piece h.2

-- the items of a text with a piece more begin with these
abbrev Keeps : ℕ → Bool → List ℕ → Unread → List Item → Type 0
Keeps limit ended piece u items = (later : List Item) × (items_of limit ended (fed u piece) ≡ items ++ later)

keeps_first : (limit most : ℕ) (ended : Bool) (u : Unread) (piece : List ℕ) (first : Option Taken) → next_item limit false u ≡ first
    → ((next : Unread) → Keeps limit ended piece next (items_up_to limit most false next))
    → Keeps limit ended piece u (elim first [ None ↦ [] | Some t ↦ t.item ∷ items_up_to limit most false t.rest ])
keeps_first limit most ended u piece None e behind = (items_of limit ended (fed u piece), refl)
keeps_first limit most ended u piece (Some t) e behind =
    let more = behind t.rest in
    (more.0, items-taken limit ended u t piece e ∙ ap (λ is. t.item ∷ is) more.1)

pub fed_keeps : (limit most : ℕ) (ended : Bool) (u : Unread) (piece : List ℕ) → Keeps limit ended piece u (items_up_to limit most false u)
fed_keeps limit zero ended u piece = (items_of limit ended (fed u piece), refl)
fed_keeps limit (suc most) ended u piece = keeps_first limit most ended u piece (next_item limit false u) refl
    (λ next. fed_keeps limit most ended next piece)
