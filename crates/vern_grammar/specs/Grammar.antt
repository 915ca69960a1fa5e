-- The grammar of expressions and shapes, as relations on whole lists of tokens.
use Rattle.std.specs.Prelude.{◌≡◌, ℕ, ◌+◌, ◌<◌, ◌≤◌, ◌⊎◌, List, [], ◌∷◌, ◌++◌, length, take, Bool}
use Rattle.vern_lex.specs.declared.span.Span.{Span}
use Rattle.vern_grammar.specs.Trees.{Operator, implication, Name, Group, Expression, expressions, Shape}
use Rattle.vern_grammar.specs.Trees as made
use Rattle.vern_grammar.specs.Kinds.{Kind, Lexeme}
use Rattle.vern_grammar.specs.Kinds as kind
use Rattle.vern_grammar.specs.Levels.{op_level, left_at_most, right_at_most, tilde_level, bare, outer, limit}

-- a token of a kind with its span
abbrev pub tok : Kind → Span → Lexeme
tok k c = record { kind = k; span = c }

-- the span from one offset on and before another
abbrev pub span : ℕ → ℕ → Span
span from to = record { from = from; to = to }

-- a name with its text and its span
abbrev pub named : List ℕ → Span → Name
named x c = record { text = x; span = c }

-- names of one sort, and that sort
abbrev pub group : List Name → Name → Group
group xs sort = record { names = xs; sort = sort }

-- the trees of a name with its arguments, which end at `to`, and of a name alone
abbrev pub application : Name → List Expression → ℕ → Expression
application x ys to = made.application x (expressions ys) (span x.span.from to)

-- the tree of a name alone
abbrev pub single : List ℕ → Span → Expression
single x c = made.application (named x c) made.nil c

-- ---- what governs an operand

-- a quantifier with its groups: where its word begins, and how many names it binds
pub record Binder : Type 0 where
  pub all : Bool
  pub from : ℕ
  pub groups : List Group
  pub bound : ℕ

-- a quantifier with its offset, its groups and how many names it binds
abbrev pub binder : Bool → ℕ → List Group → ℕ → Binder
binder q from gs k = record { all = q; from = from; groups = gs; bound = k }

-- What stands before an operand and governs it: a left operand, which begins at an offset, with its operator; a `~` at an offset; a
-- quantifier.
pub data Head : Type 0 where
  operator : Operator → Expression → ℕ → Head
  tilde : ℕ → Head
  quantifier : Binder → Head

-- the level of a head with its operand
abbrev pub level : Head → ℕ
level (operator op a from) = op_level op
level (tilde from) = tilde_level
level (quantifier b) = bare

-- the most level of its operand, but for a quantifier
abbrev pub room : Head → ℕ
room (operator op a from) = right_at_most op
room (tilde from) = tilde_level
room (quantifier b) = bare

-- how many openings it has, which are open to the end of its operand
abbrev pub openings : Head → ℕ
openings (operator op a from) = 1
openings (tilde from) = 1
openings (quantifier b) = b.bound

-- where it begins
abbrev pub begin : Head → ℕ
begin (operator op a from) = from
begin (tilde from) = from
begin (quantifier b) = b.from

-- the tree of a head with its operand, which ends at `to`
abbrev pub governing : Head → Expression → ℕ → Expression
governing (operator op a from) t to = made.binary op a t (span from to)
governing (tilde from) t to = made.negation t (span from to)
governing (quantifier b) t to = made.quantified b.all b.groups t (span b.from to)

-- ---- where an operand may stand

-- An operand stands last in its expression or its parentheses, or before an operator that has it, or something that it ends, on its left.
pub data Next : Type 0 where
  last : Next
  before : Operator → Next

-- an operand of level n may stand where at most `most` is asked, and a quantifier may anywhere
abbrev pub Fits : ℕ → ℕ → Type 0
Fits n most = (n ≤ most) ⊎ (n ≡ bare)

-- It reaches as far to the right as it can: the operator that comes next may not stand where at most `most` is asked, or it can't have an
-- operand of level n on its left.
abbrev pub Ends : Next → ℕ → ℕ → Type 0
Ends last n most = Unit {0}
Ends (before op) n most = (most < op_level op) ⊎ (left_at_most op < n)

-- ---- names and groups of a quantifier; `o` openings are open before them, and each name is one more

-- name*: so many names
pub data IsNames : ℕ → ℕ → List Lexeme → List Name → Type 0 where
  none : {o : ℕ} → IsNames o 0 [] []
  more : {o k : ℕ} {ts : List Lexeme} {xs : List Name} (x : List ℕ) (c : Span) →
      IsNames o k ts xs → o + k < limit → IsNames o (k + 1) (ts ++ (tok (kind.name x) c ∷ [])) (xs ++ (named x c ∷ []))

-- "(" name+ ":" name ")"
pub data IsGroup : ℕ → ℕ → List Lexeme → Group → Type 0 where
  grouped : {o k : ℕ} {ts : List Lexeme} {xs : List Name} (a b c d : Span) (sort : List ℕ) →
      IsNames (o + 1) k ts xs → 0 < length xs →
      IsGroup o k ((tok kind.opening a ∷ ts) ++ (tok kind.colon b ∷ tok (kind.name sort) c ∷ tok kind.closing d ∷ []))
      (group xs (named sort c))

-- group+
pub data IsGroups : ℕ → ℕ → List Lexeme → List Group → Type 0 where
  one : {o k : ℕ} {ts : List Lexeme} {g : Group} → IsGroup o k ts g → IsGroups o k ts (g ∷ [])
  then : {o k j : ℕ} {ts us : List Lexeme} {gs : List Group} {g : Group} →
      IsGroups o k ts gs → IsGroup (o + k) j us g → IsGroups o (k + j) (ts ++ us) (gs ++ (g ∷ []))

-- ---- expressions

-- IsOperand n next o tokens from to tree: the tokens, from their first byte to behind their last, are an operand of level n with this tree,
-- where
-- o openings are open before it and `next` comes behind it.
mutual
  pub data IsOperand : ℕ → Next → ℕ → List Lexeme → ℕ → ℕ → Expression → Type 0 where
    -- "True" | "False"
    constant : {g : Next} {o : ℕ} (b : Bool) (c : Span) → IsOperand 0 g o (tok (kind.constant b) c ∷ []) c.from c.to (made.constant b c)
    -- name arg*
    applied : {g : Next} {o to : ℕ} {ts : List Lexeme} {x : Name} {ys : List Expression} →
        IsApplication o ts x ys to → IsOperand 0 g o ts x.span.from to (application x ys to)
    -- "(" expr ")"
    enclosed : {g : Next} {n o from to : ℕ} {ts : List Lexeme} {t : Expression} (c d : Span) →
        o < limit → IsOperand n last (o + 1) ts from to t →
        IsOperand 0 g o ((tok kind.opening c ∷ ts) ++ (tok kind.closing d ∷ [])) c.from d.to t
    -- operand operator operand | "~" operand | quantifier "," expr
    governed : {g : Next} {n o from to : ℕ} {ts us : List Lexeme} {h : Head} {t : Expression} →
        IsHead h o ts → Fits n (room h) → Ends g n (room h) → IsOperand n g (o + openings h) us from to t →
        IsOperand (level h) g o (ts ++ us) (begin h) to (governing h t to)

  -- name arg*, with the arguments and where the last of them ends
  pub data IsApplication : ℕ → List Lexeme → Name → List Expression → ℕ → Type 0 where
    alone : {o : ℕ} (x : List ℕ) (c : Span) → IsApplication o (tok (kind.name x) c ∷ []) (named x c) [] c.to
    to_name : {o to : ℕ} {ts : List Lexeme} {x : Name} {ys : List Expression} (y : List ℕ) (c : Span) →
        IsApplication o ts x ys to → IsApplication o (ts ++ (tok (kind.name y) c ∷ [])) x (ys ++ (single y c ∷ [])) c.to
    to_expression : {n o to from end : ℕ} {ts us : List Lexeme} {x : Name} {ys : List Expression} {t : Expression} (c d : Span) →
        IsApplication o ts x ys to → o < limit → IsOperand n last (o + 1) us from end t →
        IsApplication o (ts ++ ((tok kind.opening c ∷ us) ++ (tok kind.closing d ∷ []))) x (ys ++ (t ∷ [])) d.to

  -- IsHead head o tokens: the tokens are a head, with all that it takes but its right operand, where o openings are open before them
  pub data IsHead : Head → ℕ → List Lexeme → Type 0 where
    -- operand operator
    left : {n o from to : ℕ} {ts : List Lexeme} {t : Expression} {op : Operator} (c : Span) →
        IsOperand n (before op) o ts from to t → n ≤ left_at_most op → o < limit →
        IsHead (operator op t from) o (ts ++ (tok (kind.sign op) c ∷ []))
    -- "~"
    negating : {o : ℕ} (c : Span) → o < limit → IsHead (tilde c.from) o (tok kind.tilde c ∷ [])
    -- ("forall" | "exists") name+ ":" name ","
    names : {o k : ℕ} {ts : List Lexeme} {xs : List Name} (q : Bool) (a b c d : Span) (sort : List ℕ) →
        IsNames o k ts xs → 0 < length xs →
        IsHead (quantifier (binder q a.from (group xs (named sort c) ∷ []) k)) o
        ((tok (kind.quantifier q) a ∷ ts) ++ (tok kind.colon b ∷ tok (kind.name sort) c ∷ tok kind.comma d ∷ []))
    -- ("forall" | "exists") group+ ","
    groups : {o k : ℕ} {ts : List Lexeme} {gs : List Group} (q : Bool) (a d : Span) →
        IsGroups o k ts gs →
        IsHead (quantifier (binder q a.from gs k)) o ((tok (kind.quantifier q) a ∷ ts) ++ (tok kind.comma d ∷ []))

-- the tokens are an expression with this tree
abbrev pub IsExpression : List Lexeme → Expression → Type 0
IsExpression ts t = (n : ℕ) × (from : ℕ) × (to : ℕ) × IsOperand n last 0 ts from to t

-- ---- operands that end in a quantifier without parentheses

-- EndsBare n next o tokens from to tree: the same of an operand that ends in such a quantifier
pub data EndsBare : ℕ → Next → ℕ → List Lexeme → ℕ → ℕ → Expression → Type 0 where
  here : {g : Next} {n o from to : ℕ} {ts us : List Lexeme} {b : Binder} {t : Expression} →
      IsHead (quantifier b) o ts → Ends g n bare → IsOperand n g (o + b.bound) us from to t →
      EndsBare bare g o (ts ++ us) b.from to (governing (quantifier b) t to)
  further : {g : Next} {n o from to : ℕ} {ts us : List Lexeme} {h : Head} {t : Expression} →
      IsHead h o ts → Fits n (room h) → Ends g n (room h) → EndsBare n g (o + openings h) us from to t →
      EndsBare (level h) g o (ts ++ us) (begin h) to (governing h t to)

-- an operator that may be the right operand of itself: `->`, `\/` and `/\`
abbrev pub TakesItself : Operator → Type 0
TakesItself op = right_at_most op ≡ op_level op

-- ---- shapes

-- the tokens are a shape with this tree, where o openings are open before it
pub data IsShapeBehind : ℕ → List Lexeme → Shape → Type 0 where
  set : {o : ℕ} (c : Span) → IsShapeBehind o (tok kind.set c ∷ []) (made.set c)
  prop : {o : ℕ} (c : Span) → IsShapeBehind o (tok kind.prop c ∷ []) (made.prop c)
  -- operand "->" shape
  arrow : {n o from to : ℕ} {ts us : List Lexeme} {t : Expression} {s : Shape} (c : Span) →
      IsOperand n (before implication) o ts from to t → n ≤ outer → o < limit → IsShapeBehind (o + 1) us s →
      IsShapeBehind o (ts ++ (tok (kind.sign implication) c ∷ us)) (made.arrow t s)
  -- an expression with no arrow at its outer level
  plain : {n o from to : ℕ} {ts : List Lexeme} {t : Expression} →
      IsOperand n last o ts from to t → Fits n outer → IsShapeBehind o ts (made.plain t)

-- The tokens are a shape with this tree.
abbrev pub IsShape : List Lexeme → Shape → Type 0
IsShape ts t = IsShapeBehind 0 ts t

-- ---- where tokens stand

-- the first byte of the tokens, and where their last byte ends; 0 where there is none
abbrev pub first_byte : List Lexeme → ℕ
first_byte [] = 0
first_byte (t ∷ ts) = t.span.from

-- the offset behind the last of some tokens, or 0
abbrev pub last_end : List Lexeme → ℕ
last_end [] = 0
last_end (t ∷ []) = t.span.to
last_end (t ∷ u ∷ ts) = last_end (u ∷ ts)

-- the span of a tree
abbrev pub span_of : Expression → Span
span_of (made.constant b c) = c
span_of (made.application x ys c) = c
span_of (made.binary op a b c) = c
span_of (made.negation a c) = c
span_of (made.quantified q gs a c) = c

-- the tokens are `(` and `)` round an operand of this tree
abbrev pub IsEnclosed : ℕ → List Lexeme → Expression → Type 0
IsEnclosed o ts t =
    (us : List Lexeme) × (c : Span) × (d : Span) × (n : ℕ) × (from : ℕ) × (to : ℕ) ×
    (ts ≡ (tok kind.opening c ∷ us) ++ (tok kind.closing d ∷ [])) × IsOperand n last (o + 1) us from to t

-- ---- faults, of any grammar `R` with trees of a type

-- some tokens more make a tree of them
abbrev pub Begins : {A : Type 0} → (List Lexeme → A → Type 0) → List Lexeme → Type 0
Begins {A} R ts = (us : List Lexeme) × (t : A) × R (ts ++ us) t

-- The first token with which the tokens so far begin no tree, counted from 0; or the end, where all of them begin one and are none.
pub record IsFault {A : Type 0} (R : List Lexeme → A → Type 0) (ts : List Lexeme) (p : ℕ) : Type 0 where
  pub within : p ≤ length ts
  pub begun : Begins R (take p ts)
  pub refused : p < length ts → Begins R (take (p + 1) ts) → ⊥
  pub unfinished : p ≡ length ts → (t : A) → R ts t → ⊥
