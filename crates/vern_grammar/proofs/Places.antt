-- Where operands stand.
use Rattle.std.proofs.Common.{◌≡◌, ℕ, ◌<◌, List, [], ◌∷◌, ◌++◌, ◌⊎◌, inl, inr, length, refl, sym, ap, ◌∙◌, arith, length-append}
use Rattle.vern_lex.specs.declared.span.Span.{Span}
use Rattle.vern_grammar.specs.Trees.{Name, Group, Expression}
use Rattle.vern_grammar.specs.Kinds.{Lexeme}
use Rattle.vern_grammar.specs.Kinds as kind
use Rattle.vern_grammar.specs.Grammar.{tok, Head, operator, tilde, quantifier, begin, governing, span, Next, IsOperand, constant, applied}
use Rattle.vern_grammar.specs.Grammar.{enclosed, governed, IsApplication, alone, to_name, to_expression, IsHead, left, negating, names}
use Rattle.vern_grammar.specs.Grammar.{groups, first_byte, last_end, span_of, IsEnclosed}

-- ---- the first byte

some_first : (ts us : List Lexeme) → 0 < length ts → first_byte (ts ++ us) ≡ first_byte ts
some_first [] us h = omega arith
some_first (t ∷ ts) us h = refl

long_append : (ts us : List Lexeme) → 0 < length ts → 0 < length (ts ++ us)
long_append ts us h = omega (arith, length-append ts us)

mutual
  pub operand_long : {n : ℕ} {g : Next} {o : ℕ} {ts : List Lexeme} {a b : ℕ} {t : Expression} → IsOperand n g o ts a b t → 0 < length ts
  operand_long (constant v c) = omega arith
  operand_long (applied p) = application_long p
  operand_long (enclosed {ts = ts} c d l e) = long_append (tok kind.opening c ∷ ts) (tok kind.closing d ∷ []) (omega arith)
  operand_long (governed {ts = ts} {us = us} p f e r) = long_append ts us (head_long p)

  application_long : {o : ℕ} {ts : List Lexeme} {x : Name} {ys : List Expression} {to : ℕ} → IsApplication o ts x ys to → 0 < length ts
  application_long (alone x c) = omega arith
  application_long (to_name {ts = ts} y c p) = long_append ts (tok (kind.name y) c ∷ []) (application_long p)
  application_long (to_expression {ts = ts} {us = us} c d p l e) =
      long_append ts ((tok kind.opening c ∷ us) ++ (tok kind.closing d ∷ [])) (application_long p)

  head_long : {h : Head} {o : ℕ} {ts : List Lexeme} → IsHead h o ts → 0 < length ts
  head_long (left {ts = ts} {op = op} c e m l) = long_append ts (tok (kind.sign op) c ∷ []) (operand_long e)
  head_long (negating c l) = omega arith
  head_long (names {ts = ts} q a b c d sort ns p) =
      long_append (tok (kind.quantifier q) a ∷ ts) (tok kind.colon b ∷ tok (kind.name sort) c ∷ tok kind.comma d ∷ []) (omega arith)
  head_long (groups {ts = ts} q a d gs) = long_append (tok (kind.quantifier q) a ∷ ts) (tok kind.comma d ∷ []) (omega arith)

mutual
  pub operand_first : {n : ℕ} {g : Next} {o : ℕ} {ts : List Lexeme} {a b : ℕ} {t : Expression} → IsOperand n g o ts a b t
      → first_byte ts ≡ a
  operand_first (constant v c) = refl
  operand_first (applied p) = application_first p
  operand_first (enclosed c d l e) = refl
  operand_first (governed {ts = ts} {us = us} p f e r) = some_first ts us (head_long p) ∙ head_first p

  application_first : {o : ℕ} {ts : List Lexeme} {x : Name} {ys : List Expression} {to : ℕ} → IsApplication o ts x ys to
      → first_byte ts ≡ x.span.from
  application_first (alone x c) = refl
  application_first (to_name {ts = ts} y c p) = some_first ts _ (application_long p) ∙ application_first p
  application_first (to_expression {ts = ts} c d p l e) = some_first ts _ (application_long p) ∙ application_first p

  head_first : {h : Head} {o : ℕ} {ts : List Lexeme} → IsHead h o ts → first_byte ts ≡ begin h
  head_first (left {ts = ts} c e m l) = some_first ts _ (operand_long e) ∙ operand_first e
  head_first (negating c l) = refl
  head_first (names q a b c d sort ns p) = refl
  head_first (groups q a d gs) = refl

-- ---- the end

some_last : (ts us : List Lexeme) → 0 < length us → last_end (ts ++ us) ≡ last_end us
some_last [] us h = refl
some_last (t ∷ []) [] h = omega arith
some_last (t ∷ []) (u ∷ us) h = refl
some_last (t ∷ v ∷ ts) us h = some_last (v ∷ ts) us h

application_last : {o : ℕ} {ts : List Lexeme} {x : Name} {ys : List Expression} {to : ℕ} → IsApplication o ts x ys to → last_end ts ≡ to
application_last (alone x c) = refl
application_last (to_name {ts = ts} y c p) = some_last ts (tok (kind.name y) c ∷ []) (omega arith)
application_last (to_expression {ts = ts} {us = us} c d p l e) =
    some_last ts ((tok kind.opening c ∷ us) ++ (tok kind.closing d ∷ []))
    (long_append (tok kind.opening c ∷ us) (tok kind.closing d ∷ []) (omega arith))
    ∙ some_last (tok kind.opening c ∷ us) (tok kind.closing d ∷ []) (omega arith)

pub operand_last : {n : ℕ} {g : Next} {o : ℕ} {ts : List Lexeme} {a b : ℕ} {t : Expression} → IsOperand n g o ts a b t → last_end ts ≡ b
operand_last (constant v c) = refl
operand_last (applied p) = application_last p
operand_last (enclosed {ts = ts} c d l e) = some_last (tok kind.opening c ∷ ts) (tok kind.closing d ∷ []) (omega arith)
operand_last (governed {ts = ts} {us = us} p f e r) = some_last ts us (operand_long r) ∙ operand_last r

-- ---- the span of the tree, where it isn't in parentheses

governing_span : (h : Head) (t : Expression) (to : ℕ) → span_of (governing h t to) ≡ span (begin h) to
governing_span (operator op a f) t to = refl
governing_span (tilde f) t to = refl
governing_span (quantifier b) t to = refl

pub operand_span : {n : ℕ} {g : Next} {o : ℕ} {ts : List Lexeme} {a b : ℕ} {t : Expression} → IsOperand n g o ts a b t
    → (span_of t ≡ span a b) ⊎ IsEnclosed o ts t
operand_span (constant v c) = inl refl
operand_span (applied p) = inl refl
operand_span (enclosed {n = n} {from = a} {to = b} {ts = ts} c d l e) = inr (ts, c, d, n, a, b, refl, e)
operand_span (governed {to = b} {h = h} {t = t} p f e r) = inl (governing_span h t b)
