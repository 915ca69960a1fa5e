-- Values: an atom is its list of bytes, a list has values in order.
use Rattle.std.specs.Prelude.{ℕ, ◌+◌, ◌<◌, max, List, [], ◌∷◌}
use Rattle.std.specs.List.{All}

mutual
  -- an atom of bytes, or a list of values
  pub data Value : Type 0 where
    atom : List ℕ → Value
    list : Values → Value

  -- values in order
  pub data Values : Type 0 where
    nil : Values
    cons : Value → Values → Values

-- the values of a list, in order
abbrev pub values : List Value → Values
values [] = nil
values (v ∷ vs) = cons v (values vs)

-- how many lists stand inside one another, at the most
abbrev mutual
  -- of a value: 0 for an atom
  pub nesting : Value → ℕ
  nesting (atom bytes) = 0
  nesting (list vs) = nesting_of_all vs + 1

  -- of values: the most of any of them
  pub nesting_of_all : Values → ℕ
  nesting_of_all nil = 0
  nesting_of_all (cons v vs) = max (nesting v) (nesting_of_all vs)

-- what the atoms hold are bytes
abbrev mutual
  -- each atom in the value holds bytes
  pub HasBytes : Value → Type 0
  HasBytes (atom bytes) = All (λ b. b < 256) bytes
  HasBytes (list vs) = HaveBytes vs

  -- each atom in the values holds bytes
  pub HaveBytes : Values → Type 0
  HaveBytes nil = Unit {0}
  HaveBytes (cons v vs) = HasBytes v × HaveBytes vs
