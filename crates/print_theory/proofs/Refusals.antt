-- A printed formula at a token of which too many openings are open is no expression: the grammar's machine refuses its tokens.
use Rattle.std.proofs.Common.{
  ◌≡◌,
  ℕ,
  zero,
  suc,
  ◌+◌,
  ◌<◌,
  ◌≤◌,
  ◌⊎◌,
  inl,
  inr,
  List,
  [],
  ◌∷◌,
  ◌++◌,
  max,
  Bool,
  true,
  false,
  cond,
  nat_lt,
  nat_le,
  if◌then◌else◌,
  Some,
  None,
  refl,
  sym,
  ap,
  ◌∙◌,
  arith,
  append_assoc,
  le-leb,
}
use Rattle.std.proofs.lemmas.Bool.{cases_lt, le-ltb, ltb-false}
use Rattle.vern_lex.specs.declared.span.Span.{Span}
use Rattle.vern_grammar.specs.Trees.{Operator, conjunction, disjunction, equation, implication, Name, Expression}
use Rattle.vern_grammar.specs.Kinds.{Kind, Lexeme}
use Rattle.vern_grammar.specs.Kinds as kind
use Rattle.vern_grammar.specs.Levels.{op_level, left_at_most, right_at_most, bare, limit}
use Rattle.vern_grammar.specs.Grammar.{
  tok,
  named,
  group,
  single,
  binder,
  Binder,
  operator,
  quantifier,
  level,
  room,
  begin,
  governing,
  Next,
  last,
  before,
  Fits,
  IsOperand,
  IsApplication,
  alone,
  IsHead,
  left,
  none,
  more,
  IsExpression,
}
use Rattle.vern_grammar.specs.Grammar as grammar
use Rattle.vern_grammar.specs.Machine.{
  Frame,
  parenthesis,
  argument,
  governor,
  outline,
  link,
  State,
  at,
  depth,
  top,
  within,
  shift,
  place,
  an_expression,
  run,
  ends,
  start,
  parsed,
}
use Rattle.vern_grammar.specs.Machine as mode
use Rattle.vern_grammar.proofs.Runs.{run-append, run-None, within_yes, op_below, operand_most, runs, runs_application, runs_head}
use Rattle.vern_grammar.proofs.Laws.{expression_read}
use Rattle.fol_theory.specs.Syntax.{Term, var, app, Terms, nil, cons, Formula, truth, falsity, pred, equal, both, either, implies, all, ex}
use Rattle.print_theory.specs.Names.{name_of}
use Rattle.print_theory.specs.Printing as print
use Rattle.print_theory.specs.Printing.{
  application_level,
  argument_at_most,
  quantifier_level,
  enclosed_above,
  parentheses,
  term_tokens,
  arguments_tokens,
  joined_tokens,
  bound_tokens,
  bound_name,
  formula_tokens,
  term_openings,
  arguments_openings,
  joined_openings,
  formula_openings,
}
use Rattle.print_theory.proofs.Operands.{laid, past, laid_append, Everywhere, left_low, Argument, argument_read, term_read, formula_read}

-- ---- the machine, where no opening more may be

within_no : (n : ℕ) (st : State) → limit ≤ n → within n st ≡ None
within_no n st h = ap (λ b. cond b (Some st) None) (le-ltb n limit h)

shift_no : (op : Operator) (v : Expression) (a : ℕ) (s : List Frame) → limit ≤ depth s → shift op true v a s ≡ None
shift_no op v a s h = within_no (depth s) (at mode.want (mode.pushed op v a s ∷ s)) h

place_no : (op : Operator) (v : Expression) (a b : ℕ) (s : List Frame) → op_level op ≤ top s → limit ≤ depth s
    → place op true v a b s ≡ None
unfolding place
place_no op v a b (governor k ∷ s) h d =
    ap (λ t. cond t (shift op true v a (governor k ∷ s)) (place op (nat_le (level k) (left_at_most op)) (governing k v b) (begin k) b s))
    (le-leb (op_level op) (room k) h) ∙ shift_no op v a (governor k ∷ s) d
place_no op v a b [] h d = shift_no op v a [] d
place_no op v a b (parenthesis f ∷ s) h d = shift_no op v a (parenthesis f ∷ s) d
place_no op v a b (argument x ys ∷ s) h d = shift_no op v a (argument x ys ∷ s) d
place_no op v a b (outline ∷ s) h d = shift_no op v a (outline ∷ s) d
place_no op v a b (link w ∷ s) h d = shift_no op v a (link w ∷ s) d

refused_front : (s : List Frame) (ts us : List Lexeme) → run (start s) ts ≡ None → run (start s) (ts ++ us) ≡ None
refused_front s ts us h = run-append (start s) ts us ∙ ap (λ m. run m us) h ∙ run-None us

-- ---- what is allowed where operands stand

-- an operand of such a level may stand behind the frames
abbrev Roomy : List Frame → ℕ → Type 0
Roomy s most = (most ≤ top s) ⊎ (top s ≡ bare)

roomy_lower : (s : List Frame) (most lvl : ℕ) → lvl ≤ most → Roomy s most → Roomy s lvl
roomy_lower s most lvl l (inl h) = inl (omega (arith, l, h))
roomy_lower s most lvl l (inr e) = inr e

roomy_op : (s : List Frame) (op : Operator) → Roomy s (op_level op) → op_level op ≤ top s
roomy_op s op (inl h) = h
roomy_op s op (inr e) = omega (arith, e, op_below op)

roomy_left : (s : List Frame) (op : Operator) → Roomy s (op_level op) → Roomy s (left_at_most op)
roomy_left s op y = roomy_lower s (op_level op) (left_at_most op) (omega (arith, left_low op)) y

roomy_fits : (s : List Frame) (most n : ℕ) → Roomy s most → n ≤ most → n ≤ bare → Fits n (top s)
roomy_fits s most n (inl h) l m = inl (omega (arith, h, l))
roomy_fits s most n (inr e) l m = inl (omega (arith, e, m))

-- behind any frames that leave no room for n openings, and with any spans, the machine refuses one of the tokens
record Refused (most n : ℕ) (ks : List Kind) : Type 0 where
  pub at : (s : List Frame) (σ : ℕ → Span) → Roomy s most → depth s ≤ limit → limit < depth s + n → run (start s) (laid σ ks) ≡ None

refused_lower : {most lvl n : ℕ} {ks : List Kind} → lvl ≤ most → Refused lvl n ks → Refused most (0 + n) ks
refused_lower {most} {lvl} small inside = record { at = λ s σ y d h. inside.at s σ (roomy_lower s most lvl small y) d (omega (arith, h)) }

refused_in_parentheses : {most lvl n : ℕ} {ks : List Kind} → Refused lvl n ks
    → Refused most (1 + n) (kind.opening ∷ (ks ++ (kind.closing ∷ [])))
refused_in_parentheses {most} {lvl} {n} {ks} inside = record { at = λ s σ y d h. by s σ d h (cases_lt (depth s) limit) }
  where
    by : (s : List Frame) (σ : ℕ → Span) → depth s ≤ limit → limit < depth s + (1 + n) → (depth s < limit)
        ⊎ (limit ≤ depth s) → run (start s) (laid σ (kind.opening ∷ (ks ++ (kind.closing ∷ [])))) ≡ None
    by s σ d h (inl l) =
        let τ : ℕ → Span = λ i. σ (suc i) in
        let deeper : List Frame = parenthesis (σ zero).from ∷ s in
        ap (λ m. run m (laid τ (ks ++ (kind.closing ∷ [])))) (within_yes (depth s) (at mode.want deeper) l)
        ∙ ap (run (start deeper)) (laid_append τ ks (kind.closing ∷ []))
        ∙ refused_front deeper (laid τ ks) (laid (past ks τ) (kind.closing ∷ []))
        (inside.at deeper τ (inr refl) (omega (arith, l)) (omega (arith, h)))
    by s σ d h (inr l) = ap (λ m. run m (laid (λ i. σ (suc i)) (ks ++ (kind.closing ∷ []))))
        (within_no (depth s) (at mode.want (parenthesis (σ zero).from ∷ s)) l)
        ∙ run-None (laid (λ i. σ (suc i)) (ks ++ (kind.closing ∷ [])))

enclosed_by : (b : Bool) {most lvl n : ℕ} {ks : List Kind} → nat_lt most lvl ≡ b → Refused lvl n ks
    → Refused most ((if b then 1 else 0) + n) (print.enclosed b ks)
enclosed_by true e inside = refused_in_parentheses inside
enclosed_by false {most} {lvl} e inside = refused_lower (ltb-false most lvl e) inside

enclosed_refused : (most lvl : ℕ) {n : ℕ} {ks : List Kind} → Refused lvl n ks
    → Refused most (parentheses most lvl + n) (enclosed_above most lvl ks)
enclosed_refused most lvl inside = enclosed_by (nat_lt most lvl) refl inside

-- ---- operators

joined_inside : (op : Operator) {n m : ℕ} {ks ls : List Kind} {r : Expression} → Everywhere (left_at_most op) n ks r
    → Refused (left_at_most op) n ks → Refused (right_at_most op) m ls
    → Refused (op_level op) (max n (m + 1)) (ks ++ (kind.sign op ∷ ls))
joined_inside op {n} {m} {ks} {ls} {r} left_reads a b =
    record { at = λ s σ y d h. by s σ y d h (cases_lt limit (depth s + n)) (cases_lt (depth s) limit) }
  where
    whole : (σ : ℕ → Span)
        → laid σ (ks ++ (kind.sign op ∷ ls)) ≡ laid σ ks ++ (tok (kind.sign op) (past ks σ zero) ∷ laid (λ i. past ks σ (suc i)) ls)
    whole σ = laid_append σ ks (kind.sign op ∷ ls)

    by : (s : List Frame) (σ : ℕ → Span) → Roomy s (op_level op) → depth s ≤ limit → limit < depth s + max n (m + 1) → (limit < depth s + n)
        ⊎ (depth s + n ≤ limit) → (depth s < limit) ⊎ (limit ≤ depth s)
        → run (start s) (laid σ (ks ++ (kind.sign op ∷ ls))) ≡ None
    by s σ y d h (inl l) g =
        ap (run (start s)) (whole σ)
        ∙ refused_front s (laid σ ks) (tok (kind.sign op) (past ks σ zero) ∷ laid (λ i. past ks σ (suc i)) ls)
        (a.at s σ (roomy_left s op y) d l)
    by s σ y d h (inr l) (inl g) =
        let sign = tok (kind.sign op) (past ks σ zero) in
        let rest = laid (λ i. past ks σ (suc i)) ls in
        let i = left_reads.read (before op) (depth s) σ (left_low op) l in
        let head : IsHead (operator op i.tree i.from) (depth s) (laid σ ks ++ (sign ∷ [])) = left (past ks σ zero) i.operand i.fits g in
        let deeper : List Frame = governor (operator op i.tree i.from) ∷ s in
        let ran = runs_head head s refl (inl (roomy_op s op y)) in
        ap (run (start s)) (whole σ ∙ sym (append_assoc (laid σ ks) (sign ∷ []) rest))
        ∙ run-append (start s) (laid σ ks ++ (sign ∷ [])) rest
        ∙ ap (λ m. run m rest) ran ∙ b.at deeper (λ i. past ks σ (suc i)) (inl (omega arith)) (omega (arith, g)) (omega (arith, h, l))
    by s σ y d h (inr l) (inr g) =
        let sign = tok (kind.sign op) (past ks σ zero) in
        let rest = laid (λ i. past ks σ (suc i)) ls in
        let i = left_reads.read (before op) (depth s) σ (left_low op) l in
        let arrives = runs i.operand s refl (roomy_fits s (left_at_most op) i.level (roomy_left s op y) i.fits (operand_most i.operand)) in
        let stopped = arrives.settles (past ks σ zero) ∙ ap (λ t. place op t i.tree i.from i.to s) (le-leb i.level (left_at_most op) i.fits)
        ∙ place_no op i.tree i.from i.to s (roomy_op s op y) g in
        ap (run (start s)) (whole σ) ∙ run-append (start s) (laid σ ks) (sign ∷ rest) ∙ ap (λ m. run m (sign ∷ rest)) arrives.ran
        ∙ ap (λ m. run m rest) stopped ∙ run-None rest

joined : (most : ℕ) (op : Operator) {n m : ℕ} {ks ls : List Kind} {r : Expression} → Everywhere (left_at_most op) n ks r
    → Refused (left_at_most op) n ks → Refused (right_at_most op) m ls
    → Refused most (joined_openings most op n m) (joined_tokens most op ks ls)
joined most op left_reads a b = enclosed_refused most (op_level op) (joined_inside op left_reads a b)

-- ---- quantifiers

bound_inside : (q : Bool) (x t : List ℕ) {n : ℕ} {ks : List Kind} → Refused quantifier_level n ks
    → Refused quantifier_level (n + 1) (kind.quantifier q ∷ kind.name x ∷ kind.colon ∷ kind.name t ∷ kind.comma ∷ ks)
bound_inside q x t {n} {ks} inside = record { at = λ s σ y d h. by s σ d h (cases_lt (depth s) limit) }
  where
    by : (s : List Frame) (σ : ℕ → Span) → depth s ≤ limit → limit < depth s + (n + 1) → (depth s < limit) ⊎ (limit ≤ depth s)
        → run (start s) (laid σ (kind.quantifier q ∷ kind.name x ∷ kind.colon ∷ kind.name t ∷ kind.comma ∷ ks)) ≡ None
    by s σ d h (inl l) =
        let τ : ℕ → Span = λ i. σ (suc (suc (suc (suc (suc i))))) in
        let b : Binder = binder q (σ 0).from (group (named x (σ 1) ∷ []) (named t (σ 3)) ∷ []) 1 in
        let front : List Lexeme =
        tok (kind.quantifier q) (σ 0) ∷ tok (kind.name x) (σ 1) ∷ tok kind.colon (σ 2) ∷ tok (kind.name t) (σ 3) ∷ tok kind.comma (σ 4)
        ∷ [] in
        let head : IsHead (quantifier b) (depth s) front =
        grammar.names q (σ 0) (σ 2) (σ 3) (σ 4) t (more x (σ 1) none (omega (arith, l))) (omega arith) in
        run-append (start s) front (laid τ ks) ∙ ap (λ m. run m (laid τ ks)) (runs_head head s refl (inr refl))
        ∙ inside.at (governor (quantifier b) ∷ s) τ (inr refl) (omega (arith, l)) (omega (arith, h))
    by s σ d h (inr l) =
        let rest : List Lexeme = laid (λ i. σ (suc i)) (kind.name x ∷ kind.colon ∷ kind.name t ∷ kind.comma ∷ ks) in
        ap (λ m. run m rest) (within_no (depth s) (at (mode.in_names (binder q (σ 0).from [] 0) []) s) l) ∙ run-None rest

bound : (most : ℕ) (q : Bool) (x t : List ℕ) {n : ℕ} {ks : List Kind} → Refused quantifier_level n ks
    → Refused most (parentheses most quantifier_level + (n + 1)) (bound_tokens most q x t ks)
bound most q x t inside = enclosed_refused most quantifier_level (bound_inside q x t inside)

-- ---- applications

-- so it is behind a name with some arguments
record Stopped (n : ℕ) (ks : List Kind) : Type 0 where
  pub at : (s : List Frame) {to : ℕ} {ts : List Lexeme} {x : Name} {ys : List Expression} (σ : ℕ → Span)
      → IsApplication (depth s) ts x ys to → depth s ≤ limit → limit < depth s + n → run (start s) (ts ++ laid σ ks) ≡ None

whole_application : (lvl : ℕ) (f : List ℕ) {n : ℕ} {ks : List Kind} → Stopped n ks → Refused lvl n (kind.name f ∷ ks)
whole_application lvl f a = record { at = λ s σ y d h. a.at s (λ i. σ (suc i)) (alone f (σ zero)) d h }

nothing_stopped : (ks : List Kind) → Stopped 0 ks
nothing_stopped ks = record { at = λ s σ b d h. absurd (omega (arith, d, h)) }

more_stopped : {n m : ℕ} {ks ls : List Kind} {r : Expression} → Argument n ks r → Stopped n ks → Stopped m ls → Stopped (max n m) (ks ++ ls)
more_stopped {n} {m} {ks} {ls} {r} first a b = record { at = λ s σ base d h. by s σ base d h (cases_lt limit (depth s + n)) }
  where
    tokens : (ts : List Lexeme) (σ : ℕ → Span) → ts ++ laid σ (ks ++ ls) ≡ (ts ++ laid σ ks) ++ laid (past ks σ) ls
    tokens ts σ = ap (λ us. ts ++ us) (laid_append σ ks ls) ∙ sym (append_assoc ts (laid σ ks) (laid (past ks σ) ls))

    by : (s : List Frame) {to : ℕ} {ts : List Lexeme} {x : Name} {ys : List Expression} (σ : ℕ → Span) → IsApplication (depth s) ts x ys to
        → depth s ≤ limit → limit < depth s + max n m
        → (limit < depth s + n) ⊎ (depth s + n ≤ limit) → run (start s) (ts ++ laid σ (ks ++ ls)) ≡ None
    by s {to} {ts} σ base d h (inl l) = ap (run (start s)) (tokens ts σ)
        ∙ refused_front s (ts ++ laid σ ks) (laid (past ks σ) ls) (a.at s σ base d l)
    by s {to} {ts} σ base d h (inr l) =
        let i = first.apply σ base l in
        ap (run (start s)) (tokens ts σ) ∙ b.at s (past ks σ) i.applied d (omega (arith, h, l))

enclosed_stopped : {n : ℕ} {ks : List Kind} → Refused 10 n ks → Stopped (1 + n) (kind.opening ∷ (ks ++ (kind.closing ∷ [])))
enclosed_stopped {n} {ks} a = record { at = λ s σ base d h. by s σ base d h (cases_lt (depth s) limit) }
  where
    behind : (s : List Frame) {to : ℕ} {ts : List Lexeme} {x : Name} {ys : List Expression} (σ : ℕ → Span)
        → IsApplication (depth s) ts x ys to
        → run (start s) (ts ++ laid σ (kind.opening ∷ (ks ++ (kind.closing ∷ [])))) ≡ run
        (within (depth s) (at mode.want (argument x ys ∷ s))) (laid (λ i. σ (suc i)) (ks ++ (kind.closing ∷ [])))
    behind s {to} {ts} σ base =
        run-append (start s) ts (laid σ (kind.opening ∷ (ks ++ (kind.closing ∷ []))))
        ∙ ap (λ m. run m (laid σ (kind.opening ∷ (ks ++ (kind.closing ∷ []))))) (runs_application base s refl)

    by : (s : List Frame) {to : ℕ} {ts : List Lexeme} {x : Name} {ys : List Expression} (σ : ℕ → Span) → IsApplication (depth s) ts x ys to
        → depth s ≤ limit → limit < depth s + (1 + n)
        → (depth s < limit) ⊎ (limit ≤ depth s) → run (start s) (ts ++ laid σ (kind.opening ∷ (ks ++ (kind.closing ∷ [])))) ≡ None
    by s {to} {ts} {x} {ys} σ base d h (inl l) =
        let τ : ℕ → Span = λ i. σ (suc i) in
        let deeper : List Frame = argument x ys ∷ s in
        behind s σ base ∙ ap (λ m. run m (laid τ (ks ++ (kind.closing ∷ [])))) (within_yes (depth s) (at mode.want deeper) l)
        ∙ ap (run (start deeper)) (laid_append τ ks (kind.closing ∷ []))
        ∙ refused_front deeper (laid τ ks) (laid (past ks τ) (kind.closing ∷ []))
        (a.at deeper τ (inr refl) (omega (arith, l)) (omega (arith, h)))
    by s {to} {ts} {x} {ys} σ base d h (inr l) =
        let rest : List Lexeme = laid (λ i. σ (suc i)) (ks ++ (kind.closing ∷ [])) in
        behind s σ base ∙ ap (λ m. run m rest) (within_no (depth s) (at mode.want (argument x ys ∷ s)) l) ∙ run-None rest

argument_by : (names : List (List ℕ)) (f : List ℕ) (ts : Terms) → Stopped (arguments_openings ts) (arguments_tokens names ts)
    → Stopped (term_openings argument_at_most (app f ts)) (term_tokens names argument_at_most (app f ts))
argument_by names f nil a = nothing_stopped (kind.name f ∷ [])
argument_by names f (cons t ts) a = enclosed_stopped (whole_application 10 f a)

mutual
  argument_stopped : (names : List (List ℕ)) (t : Term) → Stopped (term_openings argument_at_most t) (term_tokens names argument_at_most t)
  argument_stopped names (var i) = nothing_stopped (kind.name (name_of names i) ∷ [])
  argument_stopped names (app f ts) = argument_by names f ts (arguments_stopped names ts)

  arguments_stopped : (names : List (List ℕ)) (ts : Terms) → Stopped (arguments_openings ts) (arguments_tokens names ts)
  arguments_stopped names nil = nothing_stopped []
  arguments_stopped names (cons t ts) = more_stopped (argument_read names t) (argument_stopped names t) (arguments_stopped names ts)

application_refused : (most : ℕ) (names : List (List ℕ)) (f : List ℕ) (ts : Terms)
    → Refused most (parentheses most (application_level ts) + arguments_openings ts)
    (enclosed_above most (application_level ts) (kind.name f ∷ arguments_tokens names ts))
application_refused most names f ts =
    enclosed_refused most (application_level ts) (whole_application (application_level ts) f (arguments_stopped names ts))

-- ---- terms and formulas

term_refused : (names : List (List ℕ)) (most : ℕ) (t : Term) → Refused most (term_openings most t) (term_tokens names most t)
term_refused names most (var i) = whole_application most (name_of names i) (nothing_stopped [])
term_refused names most (app f ts) = application_refused most names f ts

constant_refused : (most : ℕ) (b : Bool) → Refused most 0 (kind.constant b ∷ [])
constant_refused most b = record { at = λ s σ y d h. absurd (omega (arith, d, h)) }

formula_refused : (names taken : List (List ℕ)) (most : ℕ) (a : Formula)
    → Refused most (formula_openings most a) (formula_tokens names taken most a)
formula_refused names taken most truth = constant_refused most true
formula_refused names taken most falsity = constant_refused most false
formula_refused names taken most (pred p ts) = application_refused most names p ts
formula_refused names taken most (equal s t u) =
    joined most equation (term_read names (left_at_most equation) t) (term_refused names (left_at_most equation) t)
    (term_refused names (right_at_most equation) u)
formula_refused names taken most (both a b) =
    joined most conjunction (formula_read names taken (left_at_most conjunction) a)
    (formula_refused names taken (left_at_most conjunction) a) (formula_refused names taken (right_at_most conjunction) b)
formula_refused names taken most (either a b) =
    joined most disjunction (formula_read names taken (left_at_most disjunction) a)
    (formula_refused names taken (left_at_most disjunction) a) (formula_refused names taken (right_at_most disjunction) b)
formula_refused names taken most (implies a b) =
    joined most implication (formula_read names taken (left_at_most implication) a)
    (formula_refused names taken (left_at_most implication) a) (formula_refused names taken (right_at_most implication) b)
formula_refused names taken most (all s x a) =
    bound most true (bound_name names taken x) s (formula_refused (bound_name names taken x ∷ names) taken quantifier_level a)
formula_refused names taken most (ex s x a) =
    bound most false (bound_name names taken x) s (formula_refused (bound_name names taken x ∷ names) taken quantifier_level a)

-- ---- no expression

no_phrase : (p : mode.Phrase) → None ≡ Some p → ⊥
no_phrase p e = cc

within_limit : {n : ℕ} {ks : List Kind} (σ : ℕ → Span) (t : Expression) → Refused quantifier_level n ks → IsExpression (laid σ ks) t
    → n ≤ limit
within_limit {n} {ks} σ t r e = by (cases_lt limit n)
  where
    by : (limit < n) ⊎ (n ≤ limit) → n ≤ limit
    by (inl l) = absurd (no_phrase (an_expression t)
        (sym (ap ends (r.at [] σ (inr refl) (omega arith) (omega (arith, l)))) ∙ expression_read (laid σ ks) t e))
    by (inr l) = l

pub formula_within : (names taken : List (List ℕ)) (a : Formula) (σ : ℕ → Span) (t : Expression)
    → IsExpression (laid σ (formula_tokens names taken quantifier_level a)) t → formula_openings quantifier_level a ≤ limit
formula_within names taken a σ t e = within_limit σ t (formula_refused names taken quantifier_level a) e

pub term_within : (names : List (List ℕ)) (a : Term) (σ : ℕ → Span) (t : Expression)
    → IsExpression (laid σ (term_tokens names quantifier_level a)) t → term_openings quantifier_level a ≤ limit
term_within names a σ t e = within_limit σ t (term_refused names quantifier_level a) e
