-- The machines of the parts read what the grammar gives.
use Rattle.std.proofs.Common.{◌≡◌, true, List, [], ◌∷◌, ◌++◌, Option, Some, None, refl, sym, ap, ◌∙◌, subst}
use Rattle.vern_lex.specs.declared.span.Span.{Span}
use Rattle.vern_grammar.specs.Trees.{Expression, Shape}
use Rattle.vern_grammar.specs.Kinds.{Kind, Lexeme}
use Rattle.vern_grammar.specs.Grammar.{tok, IsExpression, IsShape}
use Rattle.vern_grammar.specs.Machine.{State, outline, Phrase, an_expression, a_shape, step, run, ends, start}
use Rattle.vern_grammar.proofs.Runs.{run-append, is_foreign}
use Rattle.vern_grammar.proofs.Sound.{for_expression, for_shape}
use Rattle.vern_grammar.proofs.Finish.{GoesOn, goes_on}
use Rattle.vern_grammar.proofs.Laws as laws
use Rattle.vern_sentence.specs.Slots.{Slot, expression, shape, Tree, Place, first_place, next_place, tree_at, expression_in, shape_in}

-- the place behind some tokens of a part
abbrev pub onward : (i : Slot) → Option (Place i) → Lexeme → Option (Place i)
onward i None t = None
onward i (Some s) t = next_place i s t

abbrev pub over : (i : Slot) → Option (Place i) → List Lexeme → Option (Place i)
over i m [] = m
over i m (t ∷ ts) = over i (onward i m t) ts

pub over-append : (i : Slot) (m : Option (Place i)) (ts us : List Lexeme) → over i m (ts ++ us) ≡ over i (over i m ts) us
over-append i m [] us = refl
over-append i m (t ∷ ts) us = over-append i (onward i m t) ts us

pub over-None : (i : Slot) (us : List Lexeme) → over i None us ≡ None
over-None i [] = refl
over-None i (u ∷ us) = over-None i us

none_some : {A : Type 0} (a : A) → None ≡ Some a → ⊥
none_some a e = cc

-- a place that is reached from a place, or from none
pub split_over : (i : Slot) (A : Type 0) (m : Option (Place i)) (us : List Lexeme) (to : Place i)
    → ((mid : Place i) → m ≡ Some mid → over i (Some mid) us ≡ Some to → A) → over i m us ≡ Some to → A
split_over i A None us to f p = absurd (none_some to (sym (over-None i us) ∙ p))
split_over i A (Some mid) us to f p = f mid refl p

-- The machine of a part goes over its tokens, has its tree, and goes over no token that no part goes on with.
pub record Ran (i : Slot) (ts : List Lexeme) (t : Tree i) : Type 0 where
  pub place : Place i
  pub ran : over i (Some (first_place i)) ts ≡ Some place
  pub tree : tree_at i place ≡ Some t
  pub foreign : (k : Kind) (c : Span) → is_foreign k ≡ true → next_place i place (tok k c) ≡ None

-- some tokens more end it
pub record Ended (i : Slot) (s : Place i) : Type 0 where
  pub tokens : List Lexeme
  pub place : Place i
  pub part : Tree i
  pub ran : over i (Some s) tokens ≡ Some place
  pub tree : tree_at i place ≡ Some part

pub ended_by : (i : Slot) (s to : Place i) (t : Lexeme) → next_place i s t ≡ Some to → Ended i to → Ended i s
ended_by i s to t e f = record {
  tokens = t ∷ f.tokens;
  place = f.place;
  part = f.part;
  ran = ap (λ m. over i m f.tokens) e ∙ f.ran;
  tree =
      f.tree;
}

-- ---- expressions and shapes

pub over_run : (m : Option State) (ts : List Lexeme) → over expression m ts ≡ run m ts
over_run None [] = refl
over_run (Some s) [] = refl
over_run None (t ∷ ts) = over_run None ts
over_run (Some s) (t ∷ ts) = over_run (step s t) ts

over_shape_run : (m : Option State) (ts : List Lexeme) → over shape m ts ≡ run m ts
over_shape_run None [] = refl
over_shape_run (Some s) [] = refl
over_shape_run None (t ∷ ts) = over_shape_run None ts
over_shape_run (Some s) (t ∷ ts) = over_shape_run (step s t) ts

pub expression_ran : (ts : List Lexeme) (t : Expression) → IsExpression ts t → Ran expression ts t
expression_ran ts t e = by (laws.expression_stands ts t e)
  where
    by : laws.Stands [] ts (an_expression t) → Ran expression ts t
    by r = record { place = r.state; ran = over_run _ ts ∙ r.ran; tree = ap expression_in r.finished; foreign = r.foreign }

pub shape_ran : (ts : List Lexeme) (t : Shape) → IsShape ts t → Ran shape ts t
shape_ran ts t e = by (laws.shape_stands ts t e)
  where
    by : laws.Stands (outline ∷ []) ts (a_shape t) → Ran shape ts t
    by r = record { place = r.state; ran = over_shape_run _ ts ∙ r.ran; tree = ap shape_in r.finished; foreign = r.foreign }

expression_out : (m : Option Phrase) (t : Expression) → expression_in m ≡ Some t → m ≡ Some (an_expression t)
expression_out (Some (an_expression u)) t e = cc
expression_out (Some (a_shape u)) t e = cc
expression_out None t e = cc

shape_out : (m : Option Phrase) (t : Shape) → shape_in m ≡ Some t → m ≡ Some (a_shape t)
shape_out (Some (a_shape u)) t e = cc
shape_out (Some (an_expression u)) t e = cc
shape_out None t e = cc

phrase_of : (ts : List Lexeme) (t : Expression) (p : Phrase) → Some p ≡ Some (an_expression t)
    → ((u : Expression) × (p ≡ an_expression u) × IsExpression ts u) → IsExpression ts t
phrase_of ts t p e (u, h, w) = let q : u ≡ t = cc in subst (λ x. IsExpression ts x) q w

shape_phrase_of : (ts : List Lexeme) (t : Shape) (p : Phrase) → Some p ≡ Some (a_shape t) → ((u : Shape) × (p ≡ a_shape u) × IsShape ts u)
    → IsShape ts t
shape_phrase_of ts t p e (u, h, w) = let q : u ≡ t = cc in subst (λ x. IsShape ts x) q w

pub expression_whole : (ts : List Lexeme) (s : State) (t : Expression) → over expression (Some (first_place expression)) ts ≡ Some s
    → expression_in (ends (Some s)) ≡ Some t → IsExpression ts t
expression_whole ts s t e q = phrase_of ts t (an_expression t) refl
    (laws.expression_given ts (an_expression t) (ap ends (sym (over_run _ ts) ∙ e) ∙ expression_out (ends (Some s)) t q))

pub shape_whole : (ts : List Lexeme) (s : State) (t : Shape) → over shape (Some (first_place shape)) ts ≡ Some s
    → shape_in (ends (Some s)) ≡ Some t → IsShape ts t
shape_whole ts s t e q = shape_phrase_of ts t (a_shape t) refl
    (laws.shape_given ts (a_shape t) (ap ends (sym (over_shape_run _ ts) ∙ e) ∙ shape_out (ends (Some s)) t q))

ends_expression : (s : State) (ls : List Lexeme) (t : Expression) (m : Option State) → run (Some s) ls ≡ m → ends m ≡ Some (an_expression t)
    → Ended expression s
ends_expression s ls t (Some z) e p = record { tokens = ls; place = z; part = t; ran = over_run _ ls ∙ e; tree = ap expression_in p }
ends_expression s ls t None e p = cc

ends_shape : (s : State) (ls : List Lexeme) (t : Shape) (m : Option State) → run (Some s) ls ≡ m → ends m ≡ Some (a_shape t) → Ended shape s
ends_shape s ls t (Some z) e p = record { tokens = ls; place = z; part = t; ran = over_shape_run _ ls ∙ e; tree = ap shape_in p }
ends_shape s ls t None e p = cc

pub expression_ended : (ts : List Lexeme) (s : State) → over expression (Some (first_place expression)) ts ≡ Some s → Ended expression s
expression_ended ts s e = by (sym (over_run _ ts) ∙ e)
  where
    by_found : run (start []) ts ≡ Some s → GoesOn for_expression ts → Ended expression s
    by_found p g =
        let (t, h, w) = laws.expression_given (ts ++ g.tokens) g.phrase
        (laws.found_read for_expression (ts ++ g.tokens) g.phrase g.found) in
        ends_expression s g.tokens t (run (Some s) g.tokens) refl (ap (λ m. ends (run m g.tokens)) (sym p)
        ∙ ap ends (sym (run-append (start []) ts g.tokens)) ∙ laws.expression_read (ts ++ g.tokens) t w)

    by : run (start []) ts ≡ Some s → Ended expression s
    by p = by_found p (goes_on for_expression ts s p)

pub shape_ended : (ts : List Lexeme) (s : State) → over shape (Some (first_place shape)) ts ≡ Some s → Ended shape s
shape_ended ts s e = by (sym (over_shape_run _ ts) ∙ e)
  where
    by_found : run (start (outline ∷ [])) ts ≡ Some s → GoesOn for_shape ts → Ended shape s
    by_found p g =
        let (t, h, w) = laws.shape_given (ts ++ g.tokens) g.phrase (laws.found_read for_shape (ts ++ g.tokens) g.phrase g.found) in
        ends_shape s g.tokens t (run (Some s) g.tokens) refl (ap (λ m. ends (run m g.tokens)) (sym p)
        ∙ ap ends (sym (run-append (start (outline ∷ [])) ts g.tokens)) ∙ laws.shape_read (ts ++ g.tokens) t w)

    by : run (start (outline ∷ [])) ts ≡ Some s → Ended shape s
    by p = by_found p (goes_on for_shape ts s p)
