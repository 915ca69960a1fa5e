-- The loop over the tokens, and what its end says of the grammar.
use Rattle.std.proofs.Common.{◌≡◌, ℕ, zero, suc, ◌+◌, ◌<◌, List, [], ◌∷◌, ◌++◌, length, take, Option, Some, None, Err, refl, sym, ap, subst}
use Rattle.std.proofs.Common.{◌∙◌, arith, add-one, slice_index_or, take_all}
use Rattle.std.proofs.Math.Seq.{take-suc}
use Rattle.std.proofs.lemmas.List.{take-map, length-map, map-append}
use Rattle.vern_lex.specs.declared.token.Token.{Token}
use Rattle.vern_grammar.specs.Trees as tree
use Rattle.vern_grammar.specs.Kinds.{Lexeme, lexeme, lexemes}
use Rattle.vern_grammar.specs.Grammar.{IsExpression, IsShape}
use Rattle.vern_grammar.specs.Machine.{Frame, outline, State, Phrase, an_expression, a_shape, run, next, step, start, ends, parsed, Fails}
use Rattle.vern_grammar.proofs.Runs.{run-append}
use Rattle.vern_grammar.proofs.Laws.{expression_given, shape_given, expression_fault, shape_fault}
use Rattle.vern_parse.specs.declared.frames.Frame.{Frame as Kept}
use Rattle.vern_parse.specs.declared.fault.ParseFault.{ParseFault}
use Rattle.vern_parse.specs.declared.fault.ParseFault.TheVariants as fault
use Rattle.vern_parse.specs.Answers.{Takes, StopsAt, IsFaultOf, offset}
use Rattle.vern_sentence.specs.Slots.{expression_in, shape_in}

-- ---- one token

last_lexeme : (w : List ℕ) (ts : List Token) (i : ℕ) (d : Token) → i < length ts
    → lexemes w (take (i + 1) ts) ≡ lexemes w (take i ts) ++ (lexeme w (slice_index_or ts i d) ∷ [])
last_lexeme w ts i d h = rw (add-one, take-suc ts i d h) (map-append (lexeme w) (take i ts) (slice_index_or ts i d ∷ []))

offset_at : (w : List ℕ) (ts : List Token) (i : ℕ) (d : Token) → i < length ts → offset w ts i ≡ (slice_index_or ts i d).span.from
offset_at w [] i d h = omega arith
offset_at w (t ∷ ts) zero d h = refl
offset_at w (t ∷ ts) (suc i) d h = offset_at w ts i d (omega arith)

offset_end : (w : List ℕ) (ts : List Token) → offset w ts (length ts) ≡ length w
offset_end w [] = refl
offset_end w (t ∷ ts) = offset_end w ts

module _ (w : List ℕ) (ts : List Token) (i : ℕ) (d : Token) (s : List Frame) (st : State) (h : i < length ts)
    (e : run (start s) (lexemes w (take i ts)) ≡ Some st) where
  pub loop_next : run (start s) (lexemes w (take (i + 1) ts)) ≡ step st (lexeme w (slice_index_or ts i d))
  loop_next =
      ap (run (start s)) (last_lexeme w ts i d h) ∙ run-append (start s) (lexemes w (take i ts)) (lexeme w (slice_index_or ts i d) ∷ [])
      ∙ ap (λ m. next m (lexeme w (slice_index_or ts i d))) e

  fails_at : step st (lexeme w (slice_index_or ts i d)) ≡ None → Fails s (lexemes w ts) i
  fails_at n = record {
    within = omega (arith, h, length-map ts (lexeme w));
    state = st;
    begun = ap (run (start s)) (take-map (lexeme w) i ts) ∙ e;
    refused = λ l. ap (run (start s)) (take-map (lexeme w) (i + 1) ts) ∙ loop_next ∙ n;
    unfinished = λ q. absurd (omega (arith, h, q, length-map ts (lexeme w)));
  }

  pub stops : (f : ParseFault) (fs : List Kept)
      → Takes (Err f) fs (slice_index_or ts i d) (step st (lexeme w (slice_index_or ts i d))) → StopsAt s w ts f
  stops (fault.At p) fs (n, q) = (i, fails_at n, q ∙ sym (offset_at w ts i d h))
  stops fault.NoMemory fs t = tt

-- ---- the end

fails_last : (w : List ℕ) (ts : List Token) (s : List Frame) (st : State) → run (start s) (lexemes w ts) ≡ Some st
    → parsed s (lexemes w ts) ≡ None → Fails s (lexemes w ts) (length ts)
fails_last w ts s st e n = record {
  within = omega (arith, length-map ts (lexeme w));
  state = st;
  begun = ap (run (start s)) (take_all (length ts) (lexemes w ts) (omega (arith, length-map ts (lexeme w)))) ∙ e;
  refused = λ l. absurd (omega (arith, length-map ts (lexeme w)));
  unfinished = λ q. n;
}

-- ---- expressions

in_expression : (m : Option Phrase) (t : tree.Expression) → expression_in m ≡ Some t → m ≡ Some (an_expression t)
in_expression (Some (an_expression u)) t e = ap (λ x. some_expression x) e
  where
    some_expression : Option tree.Expression → Option Phrase
    some_expression (Some x) = Some (an_expression x)
    some_expression None = None
in_expression (Some (a_shape u)) t e = cc
in_expression None t e = cc

no_expression : (m : Option Phrase) → ((p : Phrase) → m ≡ Some p → (t : tree.Expression) × (p ≡ an_expression t)) → expression_in m ≡ None
    → m ≡ None
no_expression (Some p) f e = let (t, q) = f p refl in let r : expression_in (Some p) ≡ Some t = ap (λ x. expression_in (Some x)) q in cc
no_expression None f e = refl

same_tree : (ls : List Lexeme) (t u : tree.Expression) → an_expression t ≡ an_expression u → IsExpression ls u → IsExpression ls t
same_tree ls t u e x = let q : u ≡ t = cc in subst (IsExpression ls) q x

pub gives_expression : (w : List ℕ) (ts : List Token) (s : List Frame) (st : State) (t : tree.Expression) → s ≡ []
    → run (start s) (lexemes w ts) ≡ Some st → expression_in (ends (Some st)) ≡ Some t → IsExpression (lexemes w ts) t
gives_expression w ts s st t z e f =
    let r : run (start ([])) (lexemes w ts) ≡ Some st = ap (λ x. run (start x) (lexemes w ts)) (sym z) ∙ e in
    let (u, q, x) = expression_given (lexemes w ts) (an_expression t)
    (in_expression (parsed ([]) (lexemes w ts)) t (ap (λ m. expression_in (ends m)) r ∙ f)) in
    same_tree (lexemes w ts) t u q x

pub lacks_expression : (w : List ℕ) (ts : List Token) (s : List Frame) (st : State) → s ≡ [] → run (start s) (lexemes w ts) ≡ Some st
    → expression_in (ends (Some st)) ≡ None → IsFaultOf IsExpression w ts (fault.At (length w))
lacks_expression w ts s st z e f =
    let r : run (start ([])) (lexemes w ts) ≡ Some st = ap (λ x. run (start x) (lexemes w ts)) (sym z) ∙ e in
    let n : parsed ([]) (lexemes w ts) ≡ None = no_expression (parsed ([]) (lexemes w ts)) (λ p q. let (t, i, x) =
    expression_given (lexemes w ts) p q in (t, i)) (ap (λ m. expression_in (ends m)) r ∙ f) in
    (length ts, expression_fault (lexemes w ts) (length ts) (fails_last w ts ([]) st r n), sym (offset_end w ts))

pub stops_expression : (e : ParseFault) (w : List ℕ) (ts : List Token) (s : List Frame) → s ≡ [] → StopsAt s w ts e
    → IsFaultOf IsExpression w ts e
stops_expression (fault.At p) w ts s z f = let (i, g, q) = subst (λ x. StopsAt x w ts (fault.At p)) z f in
    (i, expression_fault (lexemes w ts) i g, q)
stops_expression fault.NoMemory w ts s z f = tt

-- ---- shapes

in_shape : (m : Option Phrase) (t : tree.Shape) → shape_in m ≡ Some t → m ≡ Some (a_shape t)
in_shape (Some (a_shape u)) t e = ap (λ x. some_shape x) e
  where
    some_shape : Option tree.Shape → Option Phrase
    some_shape (Some x) = Some (a_shape x)
    some_shape None = None
in_shape (Some (an_expression u)) t e = cc
in_shape None t e = cc

no_shape : (m : Option Phrase) → ((p : Phrase) → m ≡ Some p → (t : tree.Shape) × (p ≡ a_shape t)) → shape_in m ≡ None → m ≡ None
no_shape (Some p) f e = let (t, q) = f p refl in let r : shape_in (Some p) ≡ Some t = ap (λ x. shape_in (Some x)) q in cc
no_shape None f e = refl

same_shape : (ls : List Lexeme) (t u : tree.Shape) → a_shape t ≡ a_shape u → IsShape ls u → IsShape ls t
same_shape ls t u e x = let q : u ≡ t = cc in subst (IsShape ls) q x

pub gives_shape : (w : List ℕ) (ts : List Token) (s : List Frame) (st : State) (t : tree.Shape) → s ≡ outline ∷ []
    → run (start s) (lexemes w ts) ≡ Some st → shape_in (ends (Some st)) ≡ Some t → IsShape (lexemes w ts) t
gives_shape w ts s st t z e f =
    let r : run (start (outline ∷ [])) (lexemes w ts) ≡ Some st = ap (λ x. run (start x) (lexemes w ts)) (sym z) ∙ e in
    let (u, q, x) = shape_given (lexemes w ts) (a_shape t)
    (in_shape (parsed (outline ∷ []) (lexemes w ts)) t (ap (λ m. shape_in (ends m)) r ∙ f)) in
    same_shape (lexemes w ts) t u q x

pub lacks_shape : (w : List ℕ) (ts : List Token) (s : List Frame) (st : State) → s ≡ outline ∷ [] → run (start s) (lexemes w ts) ≡ Some st
    → shape_in (ends (Some st)) ≡ None → IsFaultOf IsShape w ts (fault.At (length w))
lacks_shape w ts s st z e f =
    let r : run (start (outline ∷ [])) (lexemes w ts) ≡ Some st = ap (λ x. run (start x) (lexemes w ts)) (sym z) ∙ e in
    let n : parsed (outline ∷ []) (lexemes w ts) ≡ None =
    no_shape (parsed (outline ∷ []) (lexemes w ts)) (λ p q. let (t, i, x) = shape_given (lexemes w ts) p q in
    (t, i)) (ap (λ m. shape_in (ends m)) r ∙ f) in
    (length ts, shape_fault (lexemes w ts) (length ts) (fails_last w ts (outline ∷ []) st r n), sym (offset_end w ts))

pub stops_shape : (e : ParseFault) (w : List ℕ) (ts : List Token) (s : List Frame) → s ≡ outline ∷ [] → StopsAt s w ts e
    → IsFaultOf IsShape w ts e
stops_shape (fault.At p) w ts s z f = let (i, g, q) = subst (λ x. StopsAt x w ts (fault.At p)) z f in (i, shape_fault (lexemes w ts) i g, q)
stops_shape fault.NoMemory w ts s z f = tt
