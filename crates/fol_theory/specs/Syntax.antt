-- Terms and formulas of first-order logic over many sorts, in de Bruijn's indices. A name is its list of bytes.
use Rattle.std.specs.Prelude.{ℕ, List, [], ◌∷◌, Bool, nat_eq}
use Rattle.std.specs.Cmp.Lexicographic.{pointwise}

mutual
  -- a variable counts the binders between it and its own, then the variables of the context from the newest on
  pub data Term : Type 0 where
    var : ℕ → Term
    app : List ℕ → Terms → Term

  -- the arguments of a function or a predicate, in order
  pub data Terms : Type 0 where
    nil : Terms
    cons : Term → Terms → Terms

-- an equation has the sort of its sides; a quantifier has a sort, the name that is printed for its variable, and its body
pub data Formula : Type 0 where
  truth falsity : Formula
  pred : List ℕ → Terms → Formula
  equal : List ℕ → Term → Term → Formula
  both either implies : Formula → Formula → Formula
  all ex : List ℕ → List ℕ → Formula → Formula

-- the terms of a list, in order
abbrev pub terms : List Term → Terms
terms [] = nil
terms (t ∷ ts) = cons t (terms ts)

-- two names are equal, byte by byte
abbrev pub is_name : List ℕ → List ℕ → Bool
is_name m n = pointwise nat_eq m n
