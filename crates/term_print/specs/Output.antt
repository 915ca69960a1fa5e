-- Tokens that are written one after the other, and names of variables, as the code keeps them.
use Rattle.std.specs.Prelude.{◌≡◌, ◌<◌, ℕ, List, [], ◌∷◌, ◌++◌, Bool, true, false, nat_eq, Some}
use Rattle.std.specs.Cmp.Lexicographic.{pointwise}
use Rattle.indexmap.specs.IndexMap.{IndexMap, get}
use Rattle.elab_theory.specs.Sentences.{is_among}
use Rattle.print_theory.specs.Names.{numbered}
use Rattle.vern_grammar.specs.Trees as tree
use Rattle.vern_grammar.specs.Kinds.{Kind, closing, comma, name, opening, other}
use Rattle.fol_theory.specs.Syntax.{Terms}
use Rattle.print_theory.specs.Printing.{application_level, arguments_tokens, enclosed_above}
use Rattle.print_theory.specs.Spelling.{spelling}
use Rattle.term_print.specs.declared.operators.Connective.{Connective}
use Rattle.term_print.specs.declared.operators.Connective.TheVariants.{Implies, Or, And, Equals}

-- the grammar's operator
abbrev pub operator : Connective → tree.Operator
operator Implies = tree.implication
operator Or = tree.disjunction
operator And = tree.conjunction
operator Equals = tree.equation

-- the bytes so far, and whether nothing or a `(` stands last
pub record Written : Type 0 where
  pub bytes : List ℕ
  pub opened : Bool

abbrev pub written : List ℕ → Bool → Written
written bytes opened = record { bytes = bytes; opened = opened }

abbrev pub blank : Written
blank = written [] true

-- a space, but for none behind `(`
abbrev pub space : Bool → List ℕ
space true = []
space false = 32 ∷ []

-- and none before `)`, `,` and the full stop
abbrev pub gap : Bool → Kind → List ℕ
gap opened closing = []
gap opened comma = []
gap opened (other t) = []
gap opened k = space opened

abbrev pub is_opening : Kind → Bool
is_opening opening = true
is_opening k = false

-- a token more
abbrev pub put_token : Written → Kind → Written
put_token w k = written (w.bytes ++ (gap w.opened k ++ spelling k)) (is_opening k)

-- tokens more
abbrev pub put_tokens : Written → List Kind → Written
put_tokens w [] = w
put_tokens w (k ∷ ks) = put_tokens (put_token w k) ks

-- parentheses, where they are due
abbrev pub opened_by : Bool → List Kind
opened_by true = opening ∷ []
opened_by false = []

abbrev pub closed_by : Bool → List Kind
closed_by true = closing ∷ []
closed_by false = []

-- ---- names of variables: those of binders, the oldest first, those outside, the newest first, and names that are taken
pub record Names : Type 0 where
  pub bound : List (List ℕ)
  pub outer : List (List ℕ)
  pub taken : List (List ℕ)

-- the first of some names are the oldest
abbrev pub names_onto : List (List ℕ) → List (List ℕ) → List (List ℕ)
names_onto xs [] = xs
names_onto xs (y ∷ ys) = names_onto (y ∷ xs) ys

-- all names of variables, the newest first
abbrev pub all_names : Names → List (List ℕ)
all_names s = names_onto s.outer s.bound

-- the names that no binder gets
abbrev pub used_names : Names → List (List ℕ)
used_names s = all_names s ++ s.taken

-- those of them that no binder has
abbrev pub names_outside : Names → List (List ℕ)
names_outside s = s.outer ++ s.taken

-- a name with each of the first so many numbers is one of some names
abbrev pub AreUsed : List ℕ → ℕ → List (List ℕ) → Type 0
AreUsed x n used = (j : ℕ) → j < n → is_among (numbered x j) used ≡ true

-- each name of a map is so used with as many numbers as stand there
abbrev pub ArePassed : {S : Type 0} → IndexMap (List ℕ) ℕ S → List (List ℕ) → Type 0
ArePassed m used = (x : List ℕ) (n : ℕ) → get (pointwise nat_eq) m x ≡ Some n → AreUsed x n used

-- a name with its arguments
abbrev pub application_tokens : List (List ℕ) → ℕ → List ℕ → Terms → List Kind
application_tokens names most f ts = enclosed_above most (application_level ts) (name f ∷ arguments_tokens names ts)
