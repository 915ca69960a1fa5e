-- Each name in a tree is a name among the tokens.
use Rattle.std.proofs.Common.{ℕ, List, [], ◌∷◌, ◌++◌, map, refl}
use Rattle.std.specs.List.{All, Contains}
use Rattle.std.proofs.lemmas.List.Elements.{All-nil, All-cons, All-head, All-tail, All-contains_itself}
use Rattle.vern_lex.specs.declared.span.Span.{Span}
use Rattle.vern_lex.specs.declared.token.Token.{Token}
use Rattle.vern_lex.specs.declared.token.TokenKind.{TokenKind}
use Rattle.vern_lex.specs.declared.token.TokenKind.TheVariants as token
use Rattle.vern_lex.specs.Tokens.{tokens_of}
use Rattle.vern_grammar.specs.Trees.{Name, Group, Expression, expressions, Shape}
use Rattle.vern_grammar.specs.Kinds.{Kind, Lexeme, kind_of, slice, lexeme, lexemes}
use Rattle.vern_grammar.specs.Kinds as kind
use Rattle.vern_grammar.specs.Grammar.{tok, named, group, Head, operator, tilde, quantifier, governing, Next, IsOperand, constant, applied}
use Rattle.vern_grammar.specs.Grammar.{enclosed, governed, IsApplication, alone, to_name, to_expression, IsHead, left, negating, names}
use Rattle.vern_grammar.specs.Grammar.{groups, IsNames, IsGroup, grouped, IsGroups, one, then, IsExpression, IsShapeBehind, set, prop}
use Rattle.vern_grammar.specs.Grammar.{arrow, plain}
use Rattle.vern_grammar.specs.Grammar as grammar
use Rattle.vern_sentence.specs.Trees.{Sentence}
use Rattle.vern_sentence.specs.Evidence.{IsEvidence}
use Rattle.vern_sentence.specs.Sentences.{spelled, IsInner, AreGroups, none, more, IsSentence}
use Rattle.vern_sentence.specs.Sentences as row
use Rattle.vern_sentence.specs.Names.{names_of_groups, names_of_expression, names_of_expressions, names_of_shape, names_of_sentence}
use Rattle.vern_sentence.specs.Names.{IsNameOf, IsFreeName}
use Rattle.vern_sentence.proofs.Evidences.{evidence_expression}
use Rattle.vern_sentence.proofs.Owned.{IsOwned, tokens_owned}

-- `All` as pairs
abbrev Each : {X : Type 0} → (X → Type 0) → List X → Type 0
Each P [] = Unit {0}
Each P (x ∷ xs) = P x × Each P xs

each_of : {X : Type 0} (P Q : X → Type 0) → ((x : X) → P x → Q x) → (xs : List X) → All P xs → Each Q xs
each_of P Q f [] h = tt
each_of P Q f (x ∷ xs) h = (f x (All-head P x xs h), each_of P Q f xs (All-tail P x xs h))

all_of : {X : Type 0} (P : X → Type 0) (xs : List X) → Each P xs → All P xs
all_of P [] h = All-nil P
all_of P (x ∷ xs) h = All-cons P x xs h.0 (all_of P xs h.1)

each_both : {X : Type 0} (P : X → Type 0) (xs ys : List X) → Each P xs → Each P ys → Each P (xs ++ ys)
each_both P [] ys h w = w
each_both P (x ∷ xs) ys h w = (h.0, each_both P xs ys h.1 w)

each_front : {X : Type 0} (P : X → Type 0) (xs ys : List X) → Each P (xs ++ ys) → Each P xs
each_front P [] ys h = tt
each_front P (x ∷ xs) ys h = (h.0, each_front P xs ys h.1)

each_back : {X : Type 0} (P : X → Type 0) (xs ys : List X) → Each P (xs ++ ys) → Each P ys
each_back P [] ys h = h
each_back P (x ∷ xs) ys h = each_back P xs ys h.1

-- P holds of the name that a token is, if it is one
abbrev AtName : (Name → Type 0) → Kind → Span → Type 0
AtName P (kind.name x) c = P (named x c)
AtName P _ c = Unit {0}

abbrev AtNames : (Name → Type 0) → Lexeme → Type 0
AtNames P t = AtName P t.kind t.span

module _ (P : Name → Type 0) where
  all_groups : (gs : List Group) (g : Group) → Each P (names_of_groups gs) → Each P (g.names ++ (g.sort ∷ []))
      → Each P (names_of_groups (gs ++ (g ∷ [])))
  all_groups [] g h w = w
  all_groups (f ∷ gs) g h w =
      each_both P f.names _ (each_front P f.names _ h) ((each_back P f.names _ h).0, all_groups gs g (each_back P f.names _ h).1 w)

  all_arguments : (ys : List Expression) (t : Expression) → Each P (names_of_expressions (expressions ys)) → Each P (names_of_expression t)
      → Each P (names_of_expressions (expressions (ys ++ (t ∷ []))))
  all_arguments [] t h w = each_both P (names_of_expression t) [] w tt
  all_arguments (y ∷ ys) t h w = each_both P (names_of_expression y) _ (each_front P (names_of_expression y) _ h)
      (all_arguments ys t (each_back P (names_of_expression y) _ h) w)

  names_named : {o k : ℕ} {ts : List Lexeme} {xs : List Name} → IsNames o k ts xs → Each (AtNames P) ts → Each P xs
  names_named grammar.none h = tt
  names_named (grammar.more {ts = ts} {xs = xs} x c w l) h =
      each_both P xs _ (names_named w (each_front (AtNames P) ts _ h)) ((each_back (AtNames P) ts _ h).0, tt)

  group_named : {o k : ℕ} {ts : List Lexeme} {g : Group} → IsGroup o k ts g → Each (AtNames P) ts → Each P (g.names ++ (g.sort ∷ []))
  group_named (grouped {ts = ts} {xs = xs} a b c d sort w l) h =
      each_both P xs _ (names_named w (each_front (AtNames P) ts _ h.1)) ((each_back (AtNames P) ts _ h.1).1.0, tt)

  groups_named : {o k : ℕ} {ts : List Lexeme} {gs : List Group} → IsGroups o k ts gs → Each (AtNames P) ts → Each P (names_of_groups gs)
  groups_named (one {g = g} w) h = group_named w h
  groups_named (then {ts = ts} {us = us} {gs = gs} {g = g} v w) h =
      all_groups gs g (groups_named v (each_front (AtNames P) ts us h)) (group_named w (each_back (AtNames P) ts us h))

  mutual
    operand_named : {n o a b : ℕ} {g : Next} {ts : List Lexeme} {t : Expression} → IsOperand n g o ts a b t → Each (AtNames P) ts
        → Each P (names_of_expression t)
    operand_named (constant b c) h = tt
    operand_named (applied w) h = application_named w h
    operand_named (enclosed {ts = ts} c d l e) h = operand_named e (each_front (AtNames P) ts _ h.1)
    operand_named (governed {to = to} {ts = ts} {us = us} {t = t} w f s r) h =
        head_named w (each_front (AtNames P) ts us h) t to (operand_named r (each_back (AtNames P) ts us h))

    application_named : {o to : ℕ} {ts : List Lexeme} {x : Name} {ys : List Expression} → IsApplication o ts x ys to → Each (AtNames P) ts
        → Each P (x ∷ names_of_expressions (expressions ys))
    application_named (alone x c) h = (h.0, tt)
    application_named (to_name {ts = ts} {ys = ys} y c w) h =
        let r = application_named w (each_front (AtNames P) ts _ h) in
        (r.0, all_arguments ys _ r.1 ((each_back (AtNames P) ts _ h).0, tt))
    application_named (to_expression {ts = ts} {us = us} {ys = ys} {t = t} c d w l e) h =
        let r = application_named w (each_front (AtNames P) ts _ h) in
        (r.0, all_arguments ys t r.1 (operand_named e (each_front (AtNames P) us _ (each_back (AtNames P) ts _ h).1)))

    head_named : {k : Head} {o : ℕ} {ts : List Lexeme} → IsHead k o ts → Each (AtNames P) ts → (t : Expression) (to : ℕ)
        → Each P (names_of_expression t) → Each P (names_of_expression (governing k t to))
    head_named (left {ts = ts} {t = u} c e m l) h t to w =
        each_both P (names_of_expression u) _ (operand_named e (each_front (AtNames P) ts _ h)) w
    head_named (negating c l) h t to w = w
    head_named (names {ts = ts} {xs = xs} q a b c d sort v l) h t to w =
        each_both P (xs ++ (named sort c ∷ [])) _ (each_both P xs _ (names_named v (each_front (AtNames P) ts _ h.1))
        ((each_back (AtNames P) ts _ h.1).1.0, tt)) w
    head_named (groups {ts = ts} {gs = gs} q a d v) h t to w =
        each_both P (names_of_groups gs) _ (groups_named v (each_front (AtNames P) ts _ h.1)) w

  shape_named : {o : ℕ} {ts : List Lexeme} {s : Shape} → IsShapeBehind o ts s → Each (AtNames P) ts → Each P (names_of_shape s)
  shape_named (set c) h = tt
  shape_named (prop c) h = tt
  shape_named (arrow {ts = ts} {t = t} c e m l r) h =
      each_both P (names_of_expression t) _ (operand_named e (each_front (AtNames P) ts _ h))
      (shape_named r (each_back (AtNames P) ts _ h).1)
  shape_named (plain e f) h = operand_named e h

  expression_named : (ts : List Lexeme) (t : Expression) → IsExpression ts t → Each (AtNames P) ts → Each P (names_of_expression t)
  expression_named ts t (n, a, b, e) h = operand_named e h

  inner_named : (ts : List Lexeme) (t : Expression) → IsInner ts t → Each (AtNames P) ts → Each P (names_of_expression t)
  inner_named ts t (n, a, b, e) h = operand_named e h

  evidence_named : (ts : List Lexeme) (t : Expression) → IsEvidence ts t → Each (AtNames P) ts → Each P (names_of_expression t)
  evidence_named ts t e h = expression_named ts t (evidence_expression ts t e) h

  spelled_named : (xs : List Name) → Each (AtNames P) (map spelled xs) → Each P xs
  spelled_named [] h = tt
  spelled_named (x ∷ xs) h = (h.0, spelled_named xs h.1)

  parameters_named : {ts : List Lexeme} {gs : List Group} → AreGroups ts gs → Each (AtNames P) ts → Each P (names_of_groups gs)
  parameters_named none h = tt
  parameters_named (more {ts = ts} {gs = gs} x xs sort a b c w) h =
      let k = (each_back (AtNames P) ts _ h).1 in
      all_groups gs (group (x ∷ xs) sort) (parameters_named w (each_front (AtNames P) ts _ h))
      (each_both P (x ∷ xs) _ (spelled_named (x ∷ xs) (each_front (AtNames P) (map spelled (x ∷ xs)) _ k))
      ((each_back (AtNames P) (map spelled (x ∷ xs)) _ k).1.0, tt))

  sentence_named : {text : List ℕ} {ts : List Lexeme} {t : Sentence} → IsSentence text ts t → Each (AtNames P) ts
      → Each P (names_of_sentence t)
  sentence_named (row.parameter {ts = ts} x a b c w) h = (h.1.0, shape_named w (each_front (AtNames P) ts _ h.1.1.1))
  sentence_named (row.axiom_sentence {ts = ts} x a b c w) h = (h.1.0, shape_named w (each_front (AtNames P) ts _ h.1.1.1))
  sentence_named (row.function {us = us} {ts = ts} {gs = gs} {t = t} x sort a b c d v w) h =
      let k = each_back (AtNames P) us _ h.1.1 in (
        h.1.0,
        each_both P (names_of_groups gs) _ (parameters_named v (each_front (AtNames P) us _ h.1.1)) (
          k.1.0,
          expression_named ts t w (each_front (AtNames P) ts _ k.1.1.1),
        ),
      )
  sentence_named (row.predicate {us = us} {ts = ts} {gs = gs} {t = t} x a b c d e v w) h =
      let k = each_back (AtNames P) us _ h.1.1 in (
        h.1.0,
        each_both P (names_of_groups gs) _ (parameters_named v (each_front (AtNames P) us _ h.1.1))
            (expression_named ts t w (each_front (AtNames P) ts _ k.1.1.1)),
      )
  sentence_named (row.lemma {ts = ts} {t = t} x a b c w) h = (h.1.0, expression_named ts t w (each_front (AtNames P) ts _ h.1.1.1))
  sentence_named (row.theorem {ts = ts} {t = t} x a b c w) h = (h.1.0, expression_named ts t w (each_front (AtNames P) ts _ h.1.1.1))
  sentence_named (row.proof a b) h = tt
  sentence_named (row.qed a b) h = tt
  sentence_named (row.defined a b) h = tt
  sentence_named (row.admitted a b) h = tt
  sentence_named (row.abort a b) h = tt
  sentence_named (row.intro a b) h = tt
  sentence_named (row.intro_name x a b) h = (h.1.0, tt)
  sentence_named (row.intros xs a b) h = spelled_named xs (each_front (AtNames P) (map spelled xs) _ h.1)
  sentence_named (row.exact {ts = ts} {t = t} a b w) h = evidence_named ts t w (each_front (AtNames P) ts _ h.1)
  sentence_named (row.by_hypothesis a b) h = tt
  sentence_named (row.apply {ts = ts} {t = t} a b w) h = evidence_named ts t w (each_front (AtNames P) ts _ h.1)
  sentence_named (row.split a b) h = tt
  sentence_named (row.left a b) h = tt
  sentence_named (row.right a b) h = tt
  sentence_named (row.exists {ts = ts} {t = t} a b w) h = expression_named ts t w (each_front (AtNames P) ts _ h.1)
  sentence_named (row.destruct_both {ts = ts} {t = t} x y a b c d e w) h =
      let k = each_back (AtNames P) ts _ h.1 in
      each_both P (names_of_expression t) _ (evidence_named ts t w (each_front (AtNames P) ts _ h.1)) (k.1.1.0, (k.1.1.1.0, tt))
  sentence_named (row.destruct_either {ts = ts} {t = t} x y a b c d e f w) h =
      let k = each_back (AtNames P) ts _ h.1 in
      each_both P (names_of_expression t) _ (evidence_named ts t w (each_front (AtNames P) ts _ h.1)) (k.1.1.0, (k.1.1.1.1.0, tt))
  sentence_named (row.destruct_none {ts = ts} {t = t} a b w) h = evidence_named ts t w (each_front (AtNames P) ts _ h.1)
  sentence_named (row.exfalso a b) h = tt
  sentence_named (row.assert {ts = ts} {t = t} x a b c d e w) h = (h.1.1.0, inner_named ts t w (each_front (AtNames P) ts _ h.1.1.1.1))
  sentence_named (row.clear x a b) h = (h.1.0, tt)
  sentence_named (row.reflexivity a b) h = tt
  sentence_named (row.symmetry a b) h = tt
  sentence_named (row.rewrite_plain {ts = ts} {t = t} a b w) h = evidence_named ts t w (each_front (AtNames P) ts _ h.1)
  sentence_named (row.rewrite_forward {ts = ts} {t = t} a b c w) h = evidence_named ts t w (each_front (AtNames P) ts _ h.1.1)
  sentence_named (row.rewrite_backward {ts = ts} {t = t} a b c w) h = evidence_named ts t w (each_front (AtNames P) ts _ h.1.1)
  sentence_named (row.unfold_goal x a b) h = (h.1.0, tt)
  sentence_named (row.unfold_hypothesis x y a b c) h = (h.1.0, (h.1.1.1.0, tt))
  sentence_named (row.bullet a) h = tt
  sentence_named (row.brace_in a) h = tt
  sentence_named (row.brace_out a) h = tt

contained : (ts : List Lexeme) (k : Kind) (c : Span) → Contains ts (tok k c) → AtName (λ x. Contains ts (spelled x)) k c
contained ts (kind.name x) c h = h
contained ts _ c h = tt

pub sentence_names : (text : List ℕ) (ts : List Lexeme) (t : Sentence) → IsSentence text ts t
    → All (λ x. Contains ts (spelled x)) (names_of_sentence t)
sentence_names text ts t w =
    let h = each_of (Contains ts) (AtNames (λ x. Contains ts (spelled x))) (λ k h. contained ts k.kind k.span h) ts
    (All-contains_itself ts) in
    all_of (λ x. Contains ts (spelled x)) (names_of_sentence t) (sentence_named (λ x. Contains ts (spelled x)) w h)

each_map : {X Y : Type 0} (P : Y → Type 0) (f : X → Y) (xs : List X) → Each (λ x. P (f x)) xs → Each P (map f xs)
each_map P f [] h = tt
each_map P f (x ∷ xs) h = (h.0, each_map P f xs h.1)

token_named : (text : List ℕ) (tokens : List Token) (k : TokenKind) (c : Span) → Contains tokens (record { kind = k; span = c })
    → AtName (IsNameOf text tokens) (kind_of k (slice text c)) c
token_named text tokens token.Name c h = (h, refl)
token_named text tokens _ c h = tt

pub token_names : (text : List ℕ) (tokens : List Token) (t : Sentence) → IsSentence text (lexemes text tokens) t
    → All (λ x. IsNameOf text tokens x) (names_of_sentence t)
token_names text tokens t w =
    let h = each_of (Contains tokens) (λ k. AtNames (IsNameOf text tokens) (lexeme text k))
    (λ k h. token_named text tokens k.kind k.span h) tokens (All-contains_itself tokens) in
    all_of (IsNameOf text tokens) (names_of_sentence t)
    (sentence_named (IsNameOf text tokens) w (each_map (AtNames (IsNameOf text tokens)) (lexeme text) tokens h))

token_free : (text : List ℕ) (k : TokenKind) (c : Span) → IsOwned text (record { kind = k; span = c })
    → AtName (λ x. IsFreeName x.text) (kind_of k (slice text c)) c
token_free text token.Name c h = h refl
token_free text _ c h = tt

pub free_names : (text : List ℕ) (t : Sentence) → IsSentence text (lexemes text (tokens_of text)) t
    → All (λ x. IsFreeName x.text) (names_of_sentence t)
free_names text t w =
    let h = each_of (IsOwned text) (λ k. AtNames (λ x. IsFreeName x.text) (lexeme text k)) (λ k h. token_free text k.kind k.span h)
    (tokens_of text) (tokens_owned text) in
    all_of (λ x. IsFreeName x.text) (names_of_sentence t)
    (sentence_named (λ x. IsFreeName x.text) w (each_map (AtNames (λ x. IsFreeName x.text)) (lexeme text) (tokens_of text) h))
