-- What a Reader stands for, and what its calls answer.
use Rattle.std.specs.Prelude.{◌≡◌, ℕ, Option, Some, None, option_map, true, false}
use Rattle.sexp_theory.specs.Items.{Unread, value_item, bad_item, next_item, without_gap, end_of}
use Rattle.sexp_theory.specs.Items as theory
use Rattle.sexp_core.specs.Sexp.{meaning}
use Rattle.sexp_core.specs.declared.item.Item.{Item}
use Rattle.sexp_core.specs.declared.item.Item.TheVariants.{Value, Bad}
use Rattle.sexp_core.specs.declared.item.Finish.{Finish}

-- the bytes that were fed and are in no item yet, and the most bytes of an item
pub record Reading : Type 0 where
  pub unread : Unread
  pub limit : ℕ

-- the item of the theory that an Item stands for
abbrev pub item_meaning : Item → theory.Item
item_meaning (Value v from to) = value_item (meaning v) from to
item_meaning (Bad offset kind) = bad_item offset kind

-- The next item is given, and what is unread behind it is left; or there is none yet, whatever may follow, and the blanks, comments and
-- passed over lines at the front are gone.
abbrev pub Gives : Reading → Option Item → Reading → Type 0
Gives old None new =
    (next_item old.limit false old.unread ≡ None) × (next_item new.limit false new.unread ≡ None)
    × (new ≡ record { unread = without_gap old.unread; limit = old.limit })
Gives old (Some item) new = (next_item old.limit false old.unread ≡ Some (record { item = item_meaning item; rest = new.unread }))
    × (new.limit ≡ old.limit)

-- the last item of an input that ends here, and how it ends
abbrev pub Finishes : Reading → Finish → Type 0
Finishes r f = (option_map item_meaning f.last ≡ option_map (λ t. t.item) (next_item r.limit true r.unread))
    × (f.ended ≡ end_of r.limit r.unread)
