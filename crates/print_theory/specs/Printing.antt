-- Terms and formulas as lists of the grammar's tokens.
use Rattle.std.specs.Prelude.{ℕ, suc, ◌+◌, ◌<◌, List, [], ◌∷◌, ◌++◌, max, Bool, true, false, nat_lt, if◌then◌else◌}
use Rattle.vern_grammar.specs.Trees.{Operator, implication, disjunction, conjunction, equation}
use Rattle.vern_grammar.specs.Kinds.{Kind, name, constant, sign, quantifier, opening, closing, colon, comma}
use Rattle.vern_grammar.specs.Levels.{op_level, left_at_most, right_at_most}
use Rattle.vern_sentence.specs.Names.{IsFreeName}
use Rattle.fol_theory.specs.Syntax.{Term, var, app, Terms, nil, cons, Formula, truth, falsity, pred, equal, both, either, implies, all, ex}
use Rattle.print_theory.specs.Names.{picked, name_of}

-- ---- levels: those of operators are the grammar's

-- a name alone has level 0, a name with arguments level 10
abbrev pub application_level : Terms → ℕ
application_level nil = 0
application_level (cons t ts) = 10

-- the most level of an argument without parentheses
abbrev pub argument_at_most : ℕ
argument_at_most = 9

-- A quantifier's level is above each operand's, so that it stands without parentheses only as a whole text or as a quantifier's body.
abbrev pub quantifier_level : ℕ
quantifier_level = 200

-- tokens in parentheses, or as they are
abbrev pub enclosed : Bool → List Kind → List Kind
enclosed true ks = opening ∷ (ks ++ (closing ∷ []))
enclosed false ks = ks

-- the tokens of an operand of a level, in parentheses exactly where the level is greater than the most that is allowed where it stands
abbrev pub enclosed_above : ℕ → ℕ → List Kind → List Kind
enclosed_above most level ks = enclosed (nat_lt most level) ks

-- ---- tokens, where the level `most` is allowed; `names` are those of the variables, the newest first

abbrev mutual
  -- a variable's name; or a function's name with its arguments
  pub term_tokens : List (List ℕ) → ℕ → Term → List Kind
  term_tokens names most (var i) = name (name_of names i) ∷ []
  term_tokens names most (app f ts) = enclosed_above most (application_level ts) (name f ∷ arguments_tokens names ts)

  -- arguments, one behind the other
  pub arguments_tokens : List (List ℕ) → Terms → List Kind
  arguments_tokens names nil = []
  arguments_tokens names (cons t ts) = term_tokens names argument_at_most t ++ arguments_tokens names ts

-- a left operand, an operator and a right operand
abbrev pub joined_tokens : ℕ → Operator → List Kind → List Kind → List Kind
joined_tokens most op ks ls = enclosed_above most (op_level op) (ks ++ (sign op ∷ ls))

-- `forall x : T, A` or `exists x : T, A`
abbrev pub bound_tokens : ℕ → Bool → List ℕ → List ℕ → List Kind → List Kind
bound_tokens most q x s ks = enclosed_above most quantifier_level (quantifier q ∷ name x ∷ colon ∷ name s ∷ comma ∷ ks)

-- The name that a quantifier's variable is printed with: it is no variable's, as that is printed, and isn't taken.
abbrev pub bound_name : List (List ℕ) → List (List ℕ) → List ℕ → List ℕ
bound_name names taken x = picked x (names ++ taken)

abbrev pub formula_tokens : List (List ℕ) → List (List ℕ) → ℕ → Formula → List Kind
formula_tokens names taken most truth = constant true ∷ []
formula_tokens names taken most falsity = constant false ∷ []
formula_tokens names taken most (pred p ts) = enclosed_above most (application_level ts) (name p ∷ arguments_tokens names ts)
formula_tokens names taken most (equal s t u) =
    joined_tokens most equation (term_tokens names (left_at_most equation) t) (term_tokens names (right_at_most equation) u)
formula_tokens names taken most (both a b) =
    joined_tokens most conjunction (formula_tokens names taken (left_at_most conjunction) a)
    (formula_tokens names taken (right_at_most conjunction) b)
formula_tokens names taken most (either a b) =
    joined_tokens most disjunction (formula_tokens names taken (left_at_most disjunction) a)
    (formula_tokens names taken (right_at_most disjunction) b)
formula_tokens names taken most (implies a b) =
    joined_tokens most implication (formula_tokens names taken (left_at_most implication) a)
    (formula_tokens names taken (right_at_most implication) b)
formula_tokens names taken most (all s x a) =
    bound_tokens most true (bound_name names taken x) s (formula_tokens (bound_name names taken x ∷ names) taken quantifier_level a)
formula_tokens names taken most (ex s x a) =
    bound_tokens most false (bound_name names taken x) s (formula_tokens (bound_name names taken x ∷ names) taken quantifier_level a)

-- ---- the most openings that are open at one token: parentheses, operators from their sign on, names of quantifiers

-- one where an operand of a level is in parentheses
abbrev pub parentheses : ℕ → ℕ → ℕ
parentheses most level = if nat_lt most level then 1 else 0

abbrev mutual
  pub term_openings : ℕ → Term → ℕ
  term_openings most (var i) = 0
  term_openings most (app f ts) = parentheses most (application_level ts) + arguments_openings ts

  pub arguments_openings : Terms → ℕ
  arguments_openings nil = 0
  arguments_openings (cons t ts) = max (term_openings argument_at_most t) (arguments_openings ts)

-- an operator is open in its right operand
abbrev pub joined_openings : ℕ → Operator → ℕ → ℕ → ℕ
joined_openings most op n m = parentheses most (op_level op) + max n (m + 1)

abbrev pub formula_openings : ℕ → Formula → ℕ
formula_openings most truth = 0
formula_openings most falsity = 0
formula_openings most (pred p ts) = parentheses most (application_level ts) + arguments_openings ts
formula_openings most (equal s t u) =
    joined_openings most equation (term_openings (left_at_most equation) t) (term_openings (right_at_most equation) u)
formula_openings most (both a b) =
    joined_openings most conjunction (formula_openings (left_at_most conjunction) a) (formula_openings (right_at_most conjunction) b)
formula_openings most (either a b) =
    joined_openings most disjunction (formula_openings (left_at_most disjunction) a) (formula_openings (right_at_most disjunction) b)
formula_openings most (implies a b) =
    joined_openings most implication (formula_openings (left_at_most implication) a) (formula_openings (right_at_most implication) b)
formula_openings most (all s x a) = parentheses most quantifier_level + (formula_openings quantifier_level a + 1)
formula_openings most (ex s x a) = parentheses most quantifier_level + (formula_openings quantifier_level a + 1)

-- ---- what can be printed, with so many names of variables: each name that is printed is free, and each variable is bound or has a name

abbrev mutual
  pub IsPrintableTerm : ℕ → Term → Type 0
  IsPrintableTerm n (var i) = i < n
  IsPrintableTerm n (app f ts) = IsFreeName f × ArePrintable n ts

  pub ArePrintable : ℕ → Terms → Type 0
  ArePrintable n nil = Unit {0}
  ArePrintable n (cons t ts) = IsPrintableTerm n t × ArePrintable n ts

abbrev pub IsPrintable : ℕ → Formula → Type 0
IsPrintable n truth = Unit {0}
IsPrintable n falsity = Unit {0}
IsPrintable n (pred p ts) = IsFreeName p × ArePrintable n ts
IsPrintable n (equal s t u) = IsPrintableTerm n t × IsPrintableTerm n u
IsPrintable n (both a b) = IsPrintable n a × IsPrintable n b
IsPrintable n (either a b) = IsPrintable n a × IsPrintable n b
IsPrintable n (implies a b) = IsPrintable n a × IsPrintable n b
IsPrintable n (all s x a) = IsFreeName s × IsFreeName x × IsPrintable (suc n) a
IsPrintable n (ex s x a) = IsFreeName s × IsFreeName x × IsPrintable (suc n) a
