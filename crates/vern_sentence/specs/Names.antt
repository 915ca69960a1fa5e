-- The names that stand in trees, in the order of the tokens.
use Rattle.std.specs.Prelude.{◌≡◌, ℕ, ◌<◌, List, [], ◌∷◌, ◌++◌, length, Option, Some, None}
use Rattle.std.specs.List.{Contains}
use Rattle.vern_lex.specs.declared.token.Token.{Token}
use Rattle.vern_lex.specs.declared.token.TokenKind.TheVariants as token
use Rattle.vern_grammar.specs.Kinds.{slice}
use Rattle.vern_lex.specs.Tokens.{first_name, word_kind}
use Rattle.vern_grammar.specs.Trees.{Name, Group, Expression, constant, application, binary, negation, quantified, Expressions, nil, cons}
use Rattle.vern_grammar.specs.Trees.{Shape, set, prop, arrow, plain}
use Rattle.vern_sentence.specs.Trees.{Refinement, Sentence}
use Rattle.vern_sentence.specs.Trees as made

-- the names in groups, their sorts among them
abbrev pub names_of_groups : List Group → List Name
names_of_groups [] = []
names_of_groups (g ∷ gs) = g.names ++ (g.sort ∷ names_of_groups gs)

-- the names in an expression, and in arguments
abbrev mutual
  pub names_of_expression : Expression → List Name
  names_of_expression (constant b c) = []
  names_of_expression (application x ys c) = x ∷ names_of_expressions ys
  names_of_expression (binary op a b c) = names_of_expression a ++ names_of_expression b
  names_of_expression (negation a c) = names_of_expression a
  names_of_expression (quantified q gs a c) = names_of_groups gs ++ names_of_expression a

  pub names_of_expressions : Expressions → List Name
  names_of_expressions nil = []
  names_of_expressions (cons t ts) = names_of_expression t ++ names_of_expressions ts

-- the names in a shape
abbrev pub names_of_shape : Shape → List Name
names_of_shape (set c) = []
names_of_shape (prop c) = []
names_of_shape (arrow t s) = names_of_expression t ++ names_of_shape s
names_of_shape (plain t) = names_of_expression t

-- the name that there may be
abbrev pub names_of_option : Option Name → List Name
names_of_option None = []
names_of_option (Some x) = x ∷ []

-- the names in a refinement
abbrev pub names_of_refinement : Refinement → List Name
names_of_refinement (made.intro x) = names_of_option x
names_of_refinement (made.intros xs) = xs
names_of_refinement (made.exact t) = names_of_expression t
names_of_refinement (made.apply t) = names_of_expression t
names_of_refinement (made.exists t) = names_of_expression t
names_of_refinement (made.destruct_both t x y) = names_of_expression t ++ (x ∷ y ∷ [])
names_of_refinement (made.destruct_either t x y) = names_of_expression t ++ (x ∷ y ∷ [])
names_of_refinement (made.destruct_none t) = names_of_expression t
names_of_refinement (made.assert x t) = x ∷ names_of_expression t
names_of_refinement (made.clear x) = x ∷ []
names_of_refinement (made.rewrite t back) = names_of_expression t
names_of_refinement (made.unfold_in x y) = x ∷ names_of_option y
names_of_refinement _ = []

-- the names in a sentence
abbrev pub names_of_sentence : Sentence → List Name
names_of_sentence (made.declare x s) = x ∷ names_of_shape s
names_of_sentence (made.define x gs sort t) = x ∷ (names_of_groups gs ++ (names_of_option sort ++ names_of_expression t))
names_of_sentence (made.begin x t) = x ∷ names_of_expression t
names_of_sentence (made.refinement r) = names_of_refinement r
names_of_sentence _ = []

-- the name is a token of the kind Name, with its bytes and its span
abbrev pub IsNameOf : List ℕ → List Token → Name → Type 0
IsNameOf text tokens x = Contains tokens (record { kind = token.Name; span = x.span }) × (x.text ≡ slice text x.span)

-- the bytes are one whole name, and no reserved word
abbrev pub IsFreeName : List ℕ → Type 0
IsFreeName x = (0 < length x) × (first_name x ≡ x) × (word_kind x ≡ token.Name)
