-- A text with a byte 10 behind it has one value as its first item.
use Rattle.std.proofs.Common.{◌≡◌, ◌-◌, option_map, ℕ, ◌+◌, ◌<◌, ◌^◌, List, [], ◌∷◌, length, false, Option, Some, None, sym, ap, ◌∙◌}
use Rattle.std.proofs.Common.{subst, arith}
use Rattle.std.specs.Option.{IfSome}
use Rattle.sexp_theory.specs.Values.{Value}
use Rattle.sexp_theory.specs.Written.{IsTextOf, IsOfBytes, IsShallow}
use Rattle.sexp_theory.specs.Items as theory
use Rattle.sexp_theory.specs.Items.{Unread, Taken, value_item, bad_item, fed, fresh, next_item}
use Rattle.sexp_theory.proofs.Texts.{text_taken}
use Rattle.sexp_core.specs.Readers.{Reading, Gives, item_meaning}
use Rattle.sexp_core.specs.Sexp.{meaning}
use Rattle.sexp_core.specs.Candidates.{IsCandidate}
use Rattle.sexp_core.specs.declared.item.Item.{Item}
use Rattle.sexp_core.specs.declared.item.Item.TheVariants.{Value as ValueItem, Bad}

-- a reader that was fed the bytes and a byte 10
abbrev pub lined : List ℕ → Reading
lined bytes = record { unread = fed (fed fresh bytes) (10 ∷ []); limit = 2 ^ 64 - 1 }

item_in : Option Taken → Option theory.Item
item_in next_item = option_map (λ (t : Taken). t.item) next_item

-- the only first item that a text of the value may have
only_item : (bytes : List ℕ) (r : Reading) (v : Value) (first : Option Taken) → r ≡ lined bytes → length bytes < 2 ^ 64 → IsTextOf bytes v
    → next_item r.limit false r.unread ≡ first
    → item_in first ≡ Some (value_item v 0 (0 + length bytes))
unfolding item_in
only_item bytes r v first e h t is =
    ap item_in (sym is ∙ ap (λ (q : Reading). next_item q.limit false q.unread) e ∙ text_taken (2 ^ 64 - 1) bytes v t (omega (arith, h)))

lined_is : (bytes : List ℕ) (r0 r1 r2 : Reading) → r0 ≡ record { unread = fresh; limit = 2 ^ 64 - 1 }
    → r1 ≡ record { unread = fed r0.unread bytes; limit = r0.limit }
    → r2 ≡ record { unread = fed r1.unread (10 ∷ []); limit = r1.limit } → r2 ≡ lined bytes
lined_is bytes r0 r1 r2 p q r =
    let feed : List ℕ → Reading → Reading = λ xs u. record { unread = fed u.unread xs; limit = u.limit } in
    r ∙ ap (feed (10 ∷ [])) (q ∙ ap (feed bytes) p)

-- what a reader's first item says of the values whose text the bytes are
abbrev pub Decides : List ℕ → Option Item → Type 0
Decides bytes None = (v : Value) → IsTextOf bytes v → ⊥
Decides bytes (Some (Bad offset kind)) = (v : Value) → IsTextOf bytes v → ⊥
Decides bytes (Some (ValueItem sexp from to)) = IsCandidate bytes (meaning sexp)

module _ (bytes : List ℕ) (r new : Reading) where
  decides : (o : Option Item) → r ≡ lined bytes → length bytes < 2 ^ 64 → Gives r o new
      → IfSome o (λ i. IsOfBytes (item_meaning i))
      → IfSome o (λ i. IsShallow (item_meaning i)) → Decides bytes o
  unfolding item_in
  decides None e h g b s = λ v t. let same = only_item bytes r v None e h t g.0 in cc
  decides (Some (Bad offset kind)) e h g b s = λ v t.
      let same : Some (bad_item offset kind) ≡ Some (value_item v 0 (0 + length bytes)) =
      only_item bytes r v (Some (record { item = bad_item offset kind; rest = new.unread })) e h t g.0 in
      cc
  decides (Some (ValueItem sexp from to)) e h g b s =
      let first : Taken = record { item = value_item (meaning sexp) from to; rest = new.unread } in
      record {
        of_bytes = b;
        shallow = s;
        only = λ v t. let same : Some (value_item (meaning sexp) from to) ≡ Some (value_item v 0 (0 + length bytes)) =
            only_item bytes r v (Some first) e h t g.0 in cc;
      }

-- a new reader, one that was fed the bytes, and one that was fed a byte 10 behind them
pub record AreFed (bytes : List ℕ) (r0 r1 r2 : Reading) : Type 0 where
  pub new : r0 ≡ record { unread = fresh; limit = 2 ^ 64 - 1 }
  pub fed_bytes : r1 ≡ record { unread = fed r0.unread bytes; limit = r0.limit }
  pub fed_line : r2 ≡ record { unread = fed r1.unread (10 ∷ []); limit = r1.limit }
  pub short : length bytes < 2 ^ 64

-- the last of them gives an item first, or none
pub decided : {bytes : List ℕ} {r0 r1 r2 : Reading} (new : Reading) {o p : Option Item} → AreFed bytes r0 r1 r2 → Gives r2 o new
    → IfSome o (λ i. IsOfBytes (item_meaning i)) → IfSome o (λ i. IsShallow (item_meaning i)) → o ≡ p → Decides bytes p
decided {bytes} {r0} {r1} {r2} new {o} f given b s is =
    subst (Decides bytes) is (decides bytes r2 new o (lined_is bytes r0 r1 r2 f.new f.fed_bytes f.fed_line) f.short given b s)
