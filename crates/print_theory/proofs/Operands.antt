-- The tokens of a printed term or formula are an operand, whatever their spans, and its tree is that of the term or formula.
use Rattle.std.proofs.Common.{
  ◌≡◌,
  ℕ,
  zero,
  suc,
  ◌+◌,
  ◌<◌,
  ◌≤◌,
  inl,
  List,
  [],
  ◌∷◌,
  ◌++◌,
  max,
  Bool,
  true,
  false,
  nat_lt,
  if◌then◌else◌,
  refl,
  sym,
  ap,
  subst,
  ◌∙◌,
  arith,
  append_assoc,
  append-nil,
}
use Rattle.std.proofs.lemmas.Bool.{ltb-false}
use Rattle.vern_lex.specs.declared.span.Span.{Span}
use Rattle.vern_grammar.specs.Trees.{
  Operator,
  implication,
  equivalence,
  disjunction,
  conjunction,
  equation,
  inequation,
  Name,
  Expression,
  Expressions,
  expressions,
}
use Rattle.vern_grammar.specs.Trees as made
use Rattle.vern_grammar.specs.Kinds.{Kind, Lexeme}
use Rattle.vern_grammar.specs.Kinds as kind
use Rattle.vern_grammar.specs.Levels.{op_level, left_at_most, right_at_most, bare, limit}
use Rattle.vern_grammar.specs.Grammar.{
  tok,
  span,
  named,
  group,
  application,
  single,
  Binder,
  binder,
  Head,
  operator,
  quantifier,
  level,
  room,
  openings,
  begin,
  governing,
  Next,
  last,
  before,
  Fits,
  Ends,
  IsNames,
  none,
  more,
  IsOperand,
  constant,
  applied,
  enclosed,
  governed,
  IsApplication,
  alone,
  to_name,
  to_expression,
  IsHead,
  left,
}
use Rattle.vern_grammar.specs.Grammar as grammar
use Rattle.vern_grammar.proofs.Runs.{op_below, operand_most}
use Rattle.fol_theory.specs.Syntax.{Term, var, app, Terms, nil, cons, Formula, truth, falsity, pred, equal, both, either, implies, all, ex}
use Rattle.print_theory.specs.Names.{name_of}
use Rattle.print_theory.specs.Printing as print
use Rattle.print_theory.specs.Printing.{
  application_level,
  argument_at_most,
  quantifier_level,
  enclosed_above,
  parentheses,
  term_tokens,
  arguments_tokens,
  joined_tokens,
  bound_tokens,
  bound_name,
  formula_tokens,
  term_openings,
  arguments_openings,
  joined_openings,
  formula_openings,
}
use Rattle.print_theory.specs.Trees.{
  nowhere,
  spanless,
  spanless_list,
  applied_tree,
  term_tree,
  terms_tree,
  joined_tree,
  bound_tree,
  formula_tree,
}

-- ---- tokens with any spans

-- the tokens of a list, with the spans that are given for them
abbrev pub laid : (ℕ → Span) → List Kind → List Lexeme
laid σ [] = []
laid σ (k ∷ ks) = tok k (σ zero) ∷ laid (λ i. σ (suc i)) ks

-- the spans behind those of a list
abbrev pub past : List Kind → (ℕ → Span) → ℕ → Span
past [] σ = σ
past (k ∷ ks) σ = past ks (λ i. σ (suc i))

pub laid_append : (σ : ℕ → Span) (ks ls : List Kind) → laid σ (ks ++ ls) ≡ laid σ ks ++ laid (past ks σ) ls
laid_append σ [] ls = refl
laid_append σ (k ∷ ks) ls = ap (λ ts. tok k (σ zero) ∷ ts) (laid_append (λ i. σ (suc i)) ks ls)

abbrev pub kinds : List Lexeme → List Kind
kinds [] = []
kinds (t ∷ ts) = t.kind ∷ kinds ts

abbrev pub spans : List Lexeme → ℕ → Span
spans [] i = nowhere
spans (t ∷ ts) zero = t.span
spans (t ∷ ts) (suc i) = spans ts i

pub laid_again : (ts : List Lexeme) → laid (spans ts) (kinds ts) ≡ ts
laid_again [] = refl
laid_again (t ∷ ts) = ap (λ us. t ∷ us) (laid_again ts)

-- ---- what is read

-- the operator that comes next may not stand where so much is allowed
abbrev pub Leaves : Next → ℕ → Type 0
Leaves last most = Unit {0}
Leaves (before op) most = most < op_level op

-- the tokens are an operand of a level that is allowed, with this tree but for its spans
pub record Reads (g : Next) (o most : ℕ) (ts : List Lexeme) (r : Expression) : Type 0 where
  pub level : ℕ
  pub from : ℕ
  pub to : ℕ
  pub tree : Expression
  pub operand : IsOperand level g o ts from to tree
  pub fits : level ≤ most
  pub is : spanless tree ≡ r

lower : (g : Next) (most level : ℕ) → level ≤ most → Leaves g most → Leaves g level
lower last most level h l = tt
lower (before op) most level h l = omega (arith, h, l)

-- So it is with any spans, before any operator that leaves it alone, and behind any openings that leave room for its n.
pub record Everywhere (most n : ℕ) (ks : List Kind) (r : Expression) : Type 0 where
  pub read : (g : Next) (o : ℕ) (σ : ℕ → Span) → Leaves g most → o + n ≤ limit → Reads g o most (laid σ ks) r

-- ---- parentheses where they are due

in_parentheses : {most lvl n : ℕ} {ks : List Kind} {r : Expression} → Everywhere lvl n ks r
    → Everywhere most (1 + n) (kind.opening ∷ (ks ++ (kind.closing ∷ []))) r
in_parentheses {most} {lvl} {n} {ks} {r} inside = record { read = read }
  where
    read : (g : Next) (o : ℕ) (σ : ℕ → Span) → Leaves g most → o + (1 + n) ≤ limit
        → Reads g o most (laid σ (kind.opening ∷ (ks ++ (kind.closing ∷ [])))) r
    read g o σ l h =
        let τ : ℕ → Span = λ i. σ (suc i) in
        let d = past ks τ zero in
        let i = inside.read last (o + 1) τ tt (omega (arith, h)) in
        let whole : IsOperand 0 g o ((tok kind.opening (σ zero) ∷ laid τ ks) ++ (tok kind.closing d ∷ [])) (σ zero).from d.to i.tree =
        enclosed (σ zero) d (omega (arith, h)) i.operand in
        record {
          level = 0;
          from = (σ zero).from;
          to = d.to;
          tree = i.tree;
          operand = subst (λ ts. IsOperand 0 g o (tok kind.opening (σ zero) ∷ ts) (σ zero).from d.to i.tree)
              (sym (laid_append τ ks (kind.closing ∷ []))) whole;
          fits = omega arith;
          is = i.is;
        }

-- what is read where less is allowed is read where more is
raised : {most lvl n : ℕ} {ks : List Kind} {r : Expression} → lvl ≤ most → Everywhere lvl n ks r → Everywhere most (0 + n) ks r
raised {most} {lvl} {n} {ks} {r} small inside = record { read = read }
  where
    read : (g : Next) (o : ℕ) (σ : ℕ → Span) → Leaves g most → o + (0 + n) ≤ limit → Reads g o most (laid σ ks) r
    read g o σ l h =
        let i = inside.read g o σ (lower g most lvl small l) (omega (arith, h)) in
        let f = i.fits in
        record { level = i.level; from = i.from; to = i.to; tree = i.tree; operand = i.operand; fits = omega (arith, small, f); is = i.is }

enclosed_by : (b : Bool) {most lvl n : ℕ} {ks : List Kind} {r : Expression} → nat_lt most lvl ≡ b → Everywhere lvl n ks r
    → Everywhere most ((if b then 1 else 0) + n) (print.enclosed b ks) r
enclosed_by true e inside = in_parentheses inside
enclosed_by false {most} {lvl} e inside = raised (ltb-false most lvl e) inside

enclosed_read : (most lvl : ℕ) {n : ℕ} {ks : List Kind} {r : Expression} → Everywhere lvl n ks r
    → Everywhere most (parentheses most lvl + n) (enclosed_above most lvl ks) r
enclosed_read most lvl inside = enclosed_by (nat_lt most lvl) refl inside

-- ---- operators

pub left_low : (op : Operator) → left_at_most op < op_level op
left_low implication = omega arith
left_low equivalence = omega arith
left_low disjunction = omega arith
left_low conjunction = omega arith
left_low equation = omega arith
left_low inequation = omega arith

pub right_low : (op : Operator) → right_at_most op ≤ op_level op
right_low implication = omega arith
right_low equivalence = omega arith
right_low disjunction = omega arith
right_low conjunction = omega arith
right_low equation = omega arith
right_low inequation = omega arith

ends_by : (g : Next) (n most : ℕ) → Leaves g most → Ends g n most
ends_by last n most l = tt
ends_by (before op) n most l = inl l

max_left : (n m k : ℕ) → k + max n m ≤ limit → k + n ≤ limit
max_left n m k h = omega (arith, h)

max_right : (n m k : ℕ) → k + max n m ≤ limit → k + m ≤ limit
max_right n m k h = omega (arith, h)

joined_inside : (op : Operator) {n m : ℕ} {ks ls : List Kind} {r q : Expression} → Everywhere (left_at_most op) n ks r
    → Everywhere (right_at_most op) m ls q
    → Everywhere (op_level op) (max n (m + 1)) (ks ++ (kind.sign op ∷ ls)) (joined_tree op r q)
joined_inside op {n} {m} {ks} {ls} {r} {q} a b = record { read = read }
  where
    read : (g : Next) (o : ℕ) (σ : ℕ → Span) → Leaves g (op_level op) → o + max n (m + 1) ≤ limit
        → Reads g o (op_level op) (laid σ (ks ++ (kind.sign op ∷ ls))) (joined_tree op r q)
    read g o σ l h =
        let c = past ks σ zero in
        let τ : ℕ → Span = λ i. past ks σ (suc i) in
        let open_right = max_right n (m + 1) o h in
        let rest = lower g (op_level op) (right_at_most op) (right_low op) l in
        let i = a.read (before op) o σ (left_low op) (max_left n (m + 1) o h) in
        let j = b.read g (o + 1) τ rest (omega (arith, open_right)) in
        let front = laid σ ks ++ (tok (kind.sign op) c ∷ []) in
        let head : IsHead (operator op i.tree i.from) o front = left c i.operand i.fits (omega (arith, open_right)) in
        let tree = made.binary op i.tree j.tree (span i.from j.to) in
        let whole : IsOperand (op_level op) g o (front ++ laid τ ls) i.from j.to tree =
        governed head (inl j.fits) (ends_by g j.level (right_at_most op) rest) j.operand in
        let regrouped : front ++ laid τ ls ≡ laid σ (ks ++ (kind.sign op ∷ ls)) =
        append_assoc (laid σ ks) (tok (kind.sign op) c ∷ []) (laid τ ls) ∙ sym (laid_append σ ks (kind.sign op ∷ ls)) in
        record {
          level = op_level op;
          from = i.from;
          to = j.to;
          tree = tree;
          operand = subst (λ ts. IsOperand (op_level op) g o ts i.from j.to tree) regrouped whole;
          fits = omega arith;
          is = λ t. joined_tree op (i.is t) (j.is t);
        }

joined : (most : ℕ) (op : Operator) {n m : ℕ} {ks ls : List Kind} {r q : Expression} → Everywhere (left_at_most op) n ks r
    → Everywhere (right_at_most op) m ls q
    → Everywhere most (joined_openings most op n m) (joined_tokens most op ks ls) (joined_tree op r q)
joined most op a b = enclosed_read most (op_level op) (joined_inside op a b)

-- ---- quantifiers

ends_last : (g : Next) (n : ℕ) → Leaves g quantifier_level → Ends g n bare
ends_last last n l = tt
ends_last (before op) n l = absurd (omega (arith, l, op_below op))

-- the tokens are a quantifier without parentheses, and so it is with any spans where no operator follows
pub record ReadsBare (g : Next) (o : ℕ) (ts : List Lexeme) (r : Expression) : Type 0 where
  pub from : ℕ
  pub to : ℕ
  pub tree : Expression
  pub operand : IsOperand bare g o ts from to tree
  pub is : spanless tree ≡ r

pub record EachBare (n : ℕ) (ks : List Kind) (r : Expression) : Type 0 where
  pub read : (g : Next) (o : ℕ) (σ : ℕ → Span) → Leaves g quantifier_level → o + n ≤ limit → ReadsBare g o (laid σ ks) r

pub bare_read : (q : Bool) (x s : List ℕ) {n : ℕ} {ks : List Kind} {r : Expression} → Everywhere quantifier_level n ks r
    → EachBare (n + 1) (kind.quantifier q ∷ kind.name x ∷ kind.colon ∷ kind.name s ∷ kind.comma ∷ ks) (bound_tree q x s r)
bare_read q x s {n} {ks} {r} a = record { read = read }
  where
    read : (g : Next) (o : ℕ) (σ : ℕ → Span) → Leaves g quantifier_level → o + (n + 1) ≤ limit
        → ReadsBare g o (laid σ (kind.quantifier q ∷ kind.name x ∷ kind.colon ∷ kind.name s ∷ kind.comma ∷ ks)) (bound_tree q x s r)
    read g o σ l h =
        let τ : ℕ → Span = λ i. σ (suc (suc (suc (suc (suc i))))) in
        let j = a.read g (o + 1) τ l (omega (arith, h)) in
        let b : Binder = binder q (σ 0).from (group (named x (σ 1) ∷ []) (named s (σ 3)) ∷ []) 1 in
        let word = tok (kind.quantifier q) (σ 0) ∷ tok (kind.name x) (σ 1) ∷ tok kind.colon (σ 2) ∷ [] in
        let front : List Lexeme = word ++ (tok (kind.name s) (σ 3) ∷ tok kind.comma (σ 4) ∷ []) in
        let head : IsHead (quantifier b) o front =
        grammar.names q (σ 0) (σ 2) (σ 3) (σ 4) s (more x (σ 1) none (omega (arith, h))) (omega arith) in
        let tree = made.quantified q b.groups j.tree (span (σ 0).from j.to) in
        let whole : IsOperand bare g o (front ++ laid τ ks) (σ 0).from j.to tree =
        governed head (inl (operand_most j.operand)) (ends_last g j.level l) j.operand in
        record { from = (σ 0).from; to = j.to; tree = tree; operand = whole; is = λ t. bound_tree q x s (j.is t) }

bare_everywhere : {n : ℕ} {ks : List Kind} {r : Expression} → EachBare n ks r → Everywhere quantifier_level n ks r
bare_everywhere a = record {
  read = λ g o σ l h.
      let i = a.read g o σ l h in
      record { level = bare; from = i.from; to = i.to; tree = i.tree; operand = i.operand; fits = omega arith; is = i.is };
}

bound : (most : ℕ) (q : Bool) (x s : List ℕ) {n : ℕ} {ks : List Kind} {r : Expression} → Everywhere quantifier_level n ks r
    → Everywhere most (parentheses most quantifier_level + (n + 1)) (bound_tokens most q x s ks) (bound_tree q x s r)
bound most q x s a = enclosed_read most quantifier_level (bare_everywhere (bare_read q x s a))

-- ---- applications

-- arguments more of a name that has some
pub record Applies (o : ℕ) (ts : List Lexeme) (x : Name) (ys : List Expression) (rs : Expressions) : Type 0 where
  pub to : ℕ
  pub arguments : List Expression
  pub applied : IsApplication o ts x (ys ++ arguments) to
  pub are : spanless_list (expressions arguments) ≡ rs

-- one argument more
pub record AppliesOne (o : ℕ) (ts : List Lexeme) (x : Name) (ys : List Expression) (r : Expression) : Type 0 where
  pub to : ℕ
  pub argument : Expression
  pub applied : IsApplication o ts x (ys ++ (argument ∷ [])) to
  pub is : spanless argument ≡ r

-- So it is behind any application, with any spans, and behind any openings that leave room.
pub record Arguments (n : ℕ) (ks : List Kind) (rs : Expressions) : Type 0 where
  pub apply : {o to : ℕ} {ts : List Lexeme} {x : Name} {ys : List Expression} (σ : ℕ → Span) → IsApplication o ts x ys to → o + n ≤ limit
      → Applies o (ts ++ laid σ ks) x ys rs

pub record Argument (n : ℕ) (ks : List Kind) (r : Expression) : Type 0 where
  pub apply : {o to : ℕ} {ts : List Lexeme} {x : Name} {ys : List Expression} (σ : ℕ → Span) → IsApplication o ts x ys to → o + n ≤ limit
      → AppliesOne o (ts ++ laid σ ks) x ys r

-- a name with its arguments
whole_application : (lvl : ℕ) (f : List ℕ) {n : ℕ} {ks : List Kind} {rs : Expressions} → Arguments n ks rs
    → Everywhere lvl n (kind.name f ∷ ks) (applied_tree f rs)
whole_application lvl f a = record {
  read = λ g o σ l h.
      let i = a.apply (λ i. σ (suc i)) (alone f (σ zero)) h in
      record {
        level = 0;
        from = (σ zero).from;
        to = i.to;
        tree = application (named f (σ zero)) i.arguments i.to;
        operand = applied i.applied;
        fits = omega arith;
        is = λ t. applied_tree f (i.are t);
      };
}

no_arguments : Arguments 0 [] made.nil
no_arguments = record {
  apply = λ {o} {to} {ts} {x} {ys} σ b h. record {
    to = to;
    arguments = [];
    applied = subst (λ us. IsApplication o us x (ys ++ []) to) (sym (append-nil ts))
        (subst (λ zs. IsApplication o ts x zs to) (sym (append-nil ys)) b);
    are = refl;
  };
}

more_arguments : {n m : ℕ} {ks ls : List Kind} {r : Expression} {rs : Expressions} → Argument n ks r → Arguments m ls rs
    → Arguments (max n m) (ks ++ ls) (made.cons r rs)
more_arguments {n} {m} {ks} {ls} {r} {rs} a b = record { apply = apply }
  where
    apply : {o to : ℕ} {ts : List Lexeme} {x : Name} {ys : List Expression} (σ : ℕ → Span) → IsApplication o ts x ys to
        → o + max n m ≤ limit → Applies o (ts ++ laid σ (ks ++ ls)) x ys (made.cons r rs)
    apply {o} {to} {ts} {x} {ys} σ base h =
        let i = a.apply σ base (max_left n m o h) in
        let j = b.apply (past ks σ) i.applied (max_right n m o h) in
        let tokens : (ts ++ laid σ ks) ++ laid (past ks σ) ls ≡ ts ++ laid σ (ks ++ ls) = append_assoc ts (laid σ ks) (laid (past ks σ) ls)
        ∙ ap (λ us. ts ++ us) (sym (laid_append σ ks ls)) in
        record {
          to = j.to;
          arguments = i.argument ∷ j.arguments;
          applied = subst (λ us. IsApplication o us x (ys ++ (i.argument ∷ j.arguments)) j.to) tokens
              (subst (λ zs. IsApplication o ((ts ++ laid σ ks) ++ laid (past ks σ) ls) x zs j.to)
              (append_assoc ys (i.argument ∷ []) j.arguments) j.applied);
          are = λ t. made.cons (i.is t) (j.are t);
        }

name_argument : (f : List ℕ) → Argument 0 (kind.name f ∷ []) (applied_tree f made.nil)
name_argument f = record
    { apply = λ σ b h. record { to = (σ zero).to; argument = single f (σ zero); applied = to_name f (σ zero) b; is = refl } }

enclosed_argument : {n : ℕ} {ks : List Kind} {r : Expression} → Everywhere 10 n ks r
    → Argument (1 + n) (kind.opening ∷ (ks ++ (kind.closing ∷ []))) r
enclosed_argument {n} {ks} {r} a = record { apply = apply }
  where
    apply : {o to : ℕ} {ts : List Lexeme} {x : Name} {ys : List Expression} (σ : ℕ → Span) → IsApplication o ts x ys to
        → o + (1 + n) ≤ limit
        → AppliesOne o (ts ++ laid σ (kind.opening ∷ (ks ++ (kind.closing ∷ [])))) x ys r
    apply {o} {to} {ts} {x} {ys} σ b h =
        let τ : ℕ → Span = λ i. σ (suc i) in
        let i = a.read last (o + 1) τ tt (omega (arith, h)) in
        let d = past ks τ zero in
        let tokens : tok kind.opening (σ zero) ∷ (laid τ ks ++ (tok kind.closing d ∷ [])) ≡ tok kind.opening (σ zero) ∷ laid τ
        (ks ++ (kind.closing ∷ [])) =
        ap (λ us. tok kind.opening (σ zero) ∷ us) (sym (laid_append τ ks (kind.closing ∷ []))) in
        record {
          to = d.to;
          argument = i.tree;
          applied = subst (λ us. IsApplication o (ts ++ us) x (ys ++ (i.tree ∷ [])) d.to) tokens
              (to_expression (σ zero) d b (omega (arith, h)) i.operand);
          is = i.is;
        }

argument_of : (names : List (List ℕ)) (f : List ℕ) (ts : Terms)
    → Arguments (arguments_openings ts) (arguments_tokens names ts) (terms_tree names ts)
    → Argument (term_openings argument_at_most (app f ts)) (term_tokens names argument_at_most (app f ts)) (term_tree names (app f ts))
argument_of names f nil a = name_argument f
argument_of names f (cons t ts) a = enclosed_argument (whole_application 10 f a)

mutual
  pub argument_read : (names : List (List ℕ)) (t : Term)
      → Argument (term_openings argument_at_most t) (term_tokens names argument_at_most t) (term_tree names t)
  argument_read names (var i) = name_argument (name_of names i)
  argument_read names (app f ts) = argument_of names f ts (arguments_read names ts)

  pub arguments_read : (names : List (List ℕ)) (ts : Terms)
      → Arguments (arguments_openings ts) (arguments_tokens names ts) (terms_tree names ts)
  arguments_read names nil = no_arguments
  arguments_read names (cons t ts) = more_arguments (argument_read names t) (arguments_read names ts)

application_read : (most : ℕ) (names : List (List ℕ)) (f : List ℕ) (ts : Terms)
    → Everywhere most (parentheses most (application_level ts) + arguments_openings ts)
    (enclosed_above most (application_level ts) (kind.name f ∷ arguments_tokens names ts)) (applied_tree f (terms_tree names ts))
application_read most names f ts =
    enclosed_read most (application_level ts) (whole_application (application_level ts) f (arguments_read names ts))

-- ---- terms and formulas

pub term_read : (names : List (List ℕ)) (most : ℕ) (t : Term)
    → Everywhere most (term_openings most t) (term_tokens names most t) (term_tree names t)
term_read names most (var i) = whole_application most (name_of names i) no_arguments
term_read names most (app f ts) = application_read most names f ts

constant_read : (most : ℕ) (b : Bool) → Everywhere most 0 (kind.constant b ∷ []) (made.constant b nowhere)
constant_read most b = record {
  read = λ g o σ l h. record {
    level = 0;
    from = (σ zero).from;
    to = (σ zero).to;
    tree = made.constant b (σ zero);
    operand = constant b (σ zero);
    fits = omega arith;
    is = refl;
  };
}

pub formula_read : (names taken : List (List ℕ)) (most : ℕ) (a : Formula)
    → Everywhere most (formula_openings most a) (formula_tokens names taken most a) (formula_tree names taken a)
formula_read names taken most truth = constant_read most true
formula_read names taken most falsity = constant_read most false
formula_read names taken most (pred p ts) = application_read most names p ts
formula_read names taken most (equal s t u) =
    joined most equation (term_read names (left_at_most equation) t) (term_read names (right_at_most equation) u)
formula_read names taken most (both a b) =
    joined most conjunction (formula_read names taken (left_at_most conjunction) a) (formula_read names taken (right_at_most conjunction) b)
formula_read names taken most (either a b) =
    joined most disjunction (formula_read names taken (left_at_most disjunction) a) (formula_read names taken (right_at_most disjunction) b)
formula_read names taken most (implies a b) =
    joined most implication (formula_read names taken (left_at_most implication) a) (formula_read names taken (right_at_most implication) b)
formula_read names taken most (all s x a) =
    bound most true (bound_name names taken x) s (formula_read (bound_name names taken x ∷ names) taken quantifier_level a)
formula_read names taken most (ex s x a) =
    bound most false (bound_name names taken x) s (formula_read (bound_name names taken x ∷ names) taken quantifier_level a)
