-- A line as two flat lists, what stands before its cursor and what stands behind it, over any type of entry and of closer; and how the
-- blocks are read off again, by what each entry does.
use Rattle.std.specs.Prelude.{◌≡◌, List, [], ◌∷◌, ◌++◌}
use Rattle.line_theory.specs.Lists.{Every}
use Rattle.line_theory.specs.Shapes.{Item, lone, block, End, closed, proof, Focus, last, zone}

-- what an entry does: it stands outside of proofs, begins one, stands inside of one, or closes one
pub data Role : Type 0 where
  alone begins within closes : Role

-- what is read off entries: what each does, the closer that it is, and the entry that a closer is
pub record Reading (E C : Type 0) : Type 0 where
  pub role : E → Role
  pub closer : E → C
  pub entry : C → E

-- ---- the flat lists

abbrev pub item_entries : {E C : Type 0} → Reading E C → Item E C → List E
item_entries R (lone e) = e ∷ []
item_entries R (block l b c) = l ∷ (b ++ (R.entry c ∷ []))

abbrev pub items_entries : {E C : Type 0} → Reading E C → List (Item E C) → List E
items_entries R [] = []
items_entries R (x ∷ xs) = item_entries R x ++ items_entries R xs

abbrev pub end_entries : {E : Type 0} → End E → List E
end_entries closed = []
end_entries (proof l b) = l ∷ b

abbrev pub front_entries : {E C : Type 0} → Focus E C → List E
front_entries (last o) = end_entries o
front_entries (zone l b c t o) = l ∷ b

abbrev pub back_entries : {E C : Type 0} → Reading E C → Focus E C → List E
back_entries R (last o) = []
back_entries R (zone l b c t o) = R.entry c ∷ (items_entries R t ++ end_entries o)

-- ---- reading them

-- items, and what is open behind them
pub record Text (E C : Type 0) : Type 0 where
  pub items : List (Item E C)
  pub end : End E

abbrev pub blank : {E C : Type 0} → Text E C
blank = record { items = []; end = closed }

-- an entry more: what it does says what it makes
abbrev pub push_as : {E C : Type 0} → (E → C) → Role → List (Item E C) → End E → E → Text E C
push_as closer alone a closed e = record { items = a ++ (lone e ∷ []); end = closed }
push_as closer begins a closed e = record { items = a; end = proof e [] }
push_as closer within a (proof l b) e = record { items = a; end = proof l (b ++ (e ∷ [])) }
push_as closer closes a (proof l b) e = record { items = a ++ (block l b (closer e) ∷ []); end = closed }
push_as closer other a o e = record { items = a; end = o }

abbrev pub push : {E C : Type 0} → Reading E C → Text E C → E → Text E C
push R t e = push_as R.closer (R.role e) t.items t.end e

-- the blocks of a flat list
abbrev pub read : {E C : Type 0} → Reading E C → Text E C → List E → Text E C
read R t [] = t
read R t (e ∷ es) = read R (push R t e) es

-- a zone is where something stands behind the cursor: the kept closer, and the tail
abbrev pub focus_from : {E C : Type 0} → Reading E C → End E → List E → Focus E C
focus_from R o [] = last o
focus_from R closed (c ∷ es) = last closed
focus_from R (proof l b) (c ∷ es) = zone l b (R.closer c) (read R blank es).items (read R blank es).end

-- ---- each entry stands where it belongs

abbrev pub Has : {E C : Type 0} → Reading E C → Role → E → Type 0
Has R k e = R.role e ≡ k

-- a closer closes, and its entry is it again
abbrev pub Closes : {E C : Type 0} → Reading E C → C → Type 0
Closes R c = Has R closes (R.entry c) × (R.closer (R.entry c) ≡ c)

abbrev pub Ruled : {E C : Type 0} → Reading E C → Item E C → Type 0
Ruled R (lone e) = Has R alone e
Ruled R (block l b c) = Has R begins l × (Every (Has R within) b × Closes R c)

abbrev pub RuledEnd : {E C : Type 0} → Reading E C → End E → Type 0
RuledEnd R closed = Unit {0}
RuledEnd R (proof l b) = Has R begins l × Every (Has R within) b

abbrev pub RuledFocus : {E C : Type 0} → Reading E C → Focus E C → Type 0
RuledFocus R (last o) = RuledEnd R o
RuledFocus R (zone l b c t o) = (Has R begins l × (Every (Has R within) b × Closes R c)) × (Every (Ruled R) t × RuledEnd R o)
