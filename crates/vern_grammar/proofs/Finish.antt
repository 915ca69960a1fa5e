-- While the machine has not failed, some tokens more make something of those that it has read.
use Rattle.std.proofs.Common.{◌≡◌, ℕ, zero, suc, ◌+◌, ◌<◌, true, cond, ◌⊎◌, inl, inr, List, [], ◌∷◌, ◌++◌, length, Some, None}
use Rattle.std.proofs.Common.{refl, ap, ◌∙◌, arith, lt-ltb, length-append}
use Rattle.vern_lex.specs.declared.span.Span.{Span}
use Rattle.vern_grammar.specs.Trees.{Name, Expression, Shape}
use Rattle.vern_grammar.specs.Trees as made
use Rattle.vern_grammar.specs.Kinds.{Lexeme}
use Rattle.vern_grammar.specs.Kinds as kind
use Rattle.vern_grammar.specs.Levels.{limit}
use Rattle.vern_grammar.specs.Grammar.{tok, span, named, binder, Binder, application, quantifier, begin, governing, last, IsNames, none}
use Rattle.vern_grammar.specs.Grammar.{more}
use Rattle.vern_grammar.specs.Machine.{Frame, parenthesis, argument, governor, outline, link, State, at, depth, in_shape, Phrase}
use Rattle.vern_grammar.specs.Machine.{an_expression, a_shape, close, chain, whole, step, run, ends, start}
use Rattle.vern_grammar.specs.Machine as mode
use Rattle.vern_grammar.proofs.Runs.{run-append, within_yes, Settles, settles_after, settles_applying}
use Rattle.vern_grammar.proofs.Sound.{Aim, Reads, bottom, outlined, linked, opened, argued, headed, Has, wants, applies, stands, shaped}
use Rattle.vern_grammar.proofs.Sound.{with_names, with_colon, with_sort, group_names, group_colon, group_sorted, with_groups, ground}
use Rattle.vern_grammar.proofs.Sound.{reached, Found, sound}

-- the tokens that finish what was read have no place
nowhere : Span
nowhere = span 0 0

any_text : List ℕ
any_text = 120 ∷ []

-- links stand on the beginning of a shape, or on one another
Grounded : List Frame → Type 0
Grounded [] = Unit {0}
Grounded (outline ∷ s) = Unit {0}
Grounded (link v ∷ s) = (in_shape s ≡ true) × Grounded s
Grounded (f ∷ s) = Grounded s

grounded : {aim : Aim} {s : List Frame} {ts : List Lexeme} → Reads aim s ts → Grounded s
unfolding Grounded
grounded bottom = tt
grounded outlined = tt
grounded (linked c i l m e r) = (i, grounded r)
grounded (opened c l r) = grounded r
grounded (argued c l w r) = grounded r
grounded (headed b f r) = grounded r

-- ---- behind an operand: so many `)`

parentheses : List Frame → ℕ
parentheses (parenthesis f ∷ s) = suc (parentheses s)
parentheses (argument x ys ∷ s) = suc (parentheses s)
parentheses (governor h ∷ s) = parentheses s
parentheses _ = 0

closings : ℕ → List Lexeme
closings zero = []
closings (suc n) = tok kind.closing nowhere ∷ closings n

chained : (s : List Frame) → Grounded s → in_shape s ≡ true → (t : Shape) → (p : Phrase) × (chain t s ≡ Some p)
unfolding chain Grounded
chained (outline ∷ s) g h t = (a_shape t, refl)
chained (link v ∷ s) g h t = chained s g.1 g.0 (made.arrow v t)
chained _ g h t = cc

closes : (s : List Frame) → Grounded s → (v : Expression) (a b : ℕ) (st : State) → Settles last 0 v a b s st
    → (p : Phrase) × (ends (run (Some st) (closings (parentheses s))) ≡ Some p)
unfolding closings parentheses whole close Grounded
closes [] g v a b st p = (an_expression v, p.1)
closes (outline ∷ s) g v a b st p = let (t, e) = chained (outline ∷ s) tt refl (made.plain v) in (t, p.1 ∙ e)
closes (link w ∷ s) g v a b st p = let (t, e) = chained (link w ∷ s) g refl (made.plain v) in (t, p.1 ∙ e)
closes (parenthesis f ∷ s) g v a b st p =
    let (t, e) = closes s g v f nowhere.to (at (mode.after v f nowhere.to) s) (settles_after last v f nowhere.to s) in
    (t, ap (λ m. ends (run m (closings (parentheses s)))) (p.0 nowhere) ∙ e)
closes (argument x ys ∷ s) g v a b st p =
    let (t, e) = closes s g (application x (ys ++ (v ∷ [])) nowhere.to) x.span.from nowhere.to
    (at (mode.applying x (ys ++ (v ∷ [])) nowhere.to) s) (settles_applying last x (ys ++ (v ∷ [])) nowhere.to s) in
    (t, ap (λ m. ends (run m (closings (parentheses s)))) (p.0 nowhere) ∙ e)
closes (governor h ∷ s) g v a b st p = closes s g (governing h v b) (begin h) b st p

pub record Finish (st : State) : Type 0 where
  pub tokens : List Lexeme
  pub phrase : Phrase
  pub works : ends (run (Some st) tokens) ≡ Some phrase

by_step : (st to : State) (k : Lexeme) → step st k ≡ Some to → Finish to → Finish st
by_step st to k e f = record { tokens = k ∷ f.tokens; phrase = f.phrase; works = ap (λ m. ends (run m f.tokens)) e ∙ f.works }

finish_operand : (s : List Frame) → Grounded s → (v : Expression) (a b : ℕ) (st : State) → Settles last 0 v a b s st → Finish st
finish_operand s g v a b st p = let (t, e) = closes s g v a b st p in record { tokens = closings (parentheses s); phrase = t; works = e }

finish_shape : (s : List Frame) → Grounded s → in_shape s ≡ true → (t : Shape) → Finish (at (mode.ended t) s)
finish_shape s g h t = let (p, e) = chained s g h t in record { tokens = []; phrase = p; works = e }

-- ---- elsewhere: the missing name, sign or sort, and then an operand

finish_want : (s : List Frame) → Grounded s → Finish (at mode.want s)
finish_want s g = by_step _ _ (tok (kind.name any_text) nowhere) refl
    (finish_operand s g (application (named any_text nowhere) [] nowhere.to) nowhere.from nowhere.to _
    (settles_applying last (named any_text nowhere) [] nowhere.to s))

finish_body : (b : Binder) (s : List Frame) → Grounded s → Finish (at mode.want (governor (quantifier b) ∷ s))
unfolding Grounded
finish_body b s g = finish_want (governor (quantifier b) ∷ s) g

finish_names_end : (b : Binder) (s : List Frame) → Grounded s → Finish (at (mode.names_end b) s)
finish_names_end b s g = by_step _ _ (tok kind.comma nowhere) refl (finish_body b s g)

finish_in_groups : (b : Binder) (s : List Frame) → Grounded s → Finish (at (mode.in_groups b) s)
finish_in_groups b s g = by_step _ _ (tok kind.comma nowhere) refl (finish_body b s g)

finish_names_sort : (b : Binder) (xs : List Name) (s : List Frame) → Grounded s → Finish (at (mode.names_sort b xs) s)
finish_names_sort b xs s g = by_step _ _ (tok (kind.name any_text) nowhere) refl (finish_names_end _ s g)

finish_group_end : (b : Binder) (s : List Frame) → Grounded s → Finish (at (mode.group_end b) s)
finish_group_end b s g = by_step _ _ (tok kind.closing nowhere) refl (finish_in_groups b s g)

finish_group_sort : (b : Binder) (xs : List Name) (s : List Frame) → Grounded s → Finish (at (mode.group_sort b xs) s)
finish_group_sort b xs s g = by_step _ _ (tok (kind.name any_text) nowhere) refl (finish_group_end _ s g)

finish_in_names : (b : Binder) (xs : List Name) (s : List Frame) → Grounded s → depth s + b.bound < limit ⊎ 0 < length xs
    → Finish (at (mode.in_names b xs) s)
finish_in_names b [] s g (inl l) = by_step _ _ (tok (kind.name any_text) nowhere) (within_yes (depth s + b.bound) _ l)
    (by_step _ _ (tok kind.colon nowhere) refl (finish_names_sort _ _ s g))
finish_in_names b [] s g (inr l) = absurd (omega arith)
finish_in_names b (x ∷ xs) s g l = by_step _ _ (tok kind.colon nowhere)
    (ap (λ y. cond y (Some (at (mode.names_sort b (x ∷ xs)) s)) None) (lt-ltb 0 (length (x ∷ xs)) (omega arith)))
    (finish_names_sort b (x ∷ xs) s g)

finish_in_group : (b : Binder) (xs : List Name) (s : List Frame) → Grounded s → depth s + b.bound + 1 < limit ⊎ 0 < length xs
    → Finish (at (mode.in_group b xs) s)
finish_in_group b [] s g (inl l) = by_step _ _ (tok (kind.name any_text) nowhere) (within_yes (depth s + b.bound + 1) _ l)
    (by_step _ _ (tok kind.colon nowhere) refl (finish_group_sort _ _ s g))
finish_in_group b [] s g (inr l) = absurd (omega arith)
finish_in_group b (x ∷ xs) s g l = by_step _ _ (tok kind.colon nowhere)
    (ap (λ y. cond y (Some (at (mode.group_sort b (x ∷ xs)) s)) None) (lt-ltb 0 (length (x ∷ xs)) (omega arith)))
    (finish_group_sort b (x ∷ xs) s g)

names_or : {o k : ℕ} {ts : List Lexeme} {xs : List Name} → IsNames o k ts xs → (k ≡ 0) ⊎ (0 < length xs)
names_or none = inl refl
names_or (more {xs = xs} x c ns l) = inr (omega (arith, length-append xs (named x c ∷ [])))

names_room : (d k n : ℕ) → d < limit → (k ≡ 0) ⊎ (0 < n) → d + k < limit ⊎ 0 < n
names_room d k n l (inl e) = inl (omega arith)
names_room d k n l (inr h) = inr h

group_room : (d m k n : ℕ) → d + m + 1 < limit → (k ≡ 0) ⊎ (0 < n) → d + (m + k) + 1 < limit ⊎ 0 < n
group_room d m k n l (inl e) = inl (omega arith)
group_room d m k n l (inr h) = inr h

finishes : {aim : Aim} {st : State} {ts : List Lexeme} → Has aim st ts → Finish st
finishes (wants {s = s} r) = finish_want s (grounded r)
finishes (applies {s = s} {x = x} {ys = ys} {to = to} r w) =
    finish_operand s (grounded r) (application x ys to) x.span.from to _ (settles_applying last x ys to s)
finishes (stands {s = s} {a = a} {b = b} {v = v} r e) = finish_operand s (grounded r) v a b _ (settles_after last v a b s)
finishes (shaped {s = s} {t = t} r i e) = finish_shape s (grounded r) i t
finishes (with_names {s = s} {k = k} {xs = xs} q c r l ns) =
    finish_in_names (binder q c.from [] k) xs s (grounded r) (names_room (depth s) k (length xs) l (names_or ns))
finishes (with_colon {s = s} {xs = xs} q c d r ns h) = finish_names_sort _ xs s (grounded r)
finishes (with_sort {s = s} q c d e sort r ns h) = finish_names_end _ s (grounded r)
finishes (group_names {s = s} {m = m} {k = k} {gs = gs} {xs = xs} q c a r g l ns) =
    finish_in_group (binder q c.from gs (m + k)) xs s (grounded r) (group_room (depth s) m k (length xs) l (names_or ns))
finishes (group_colon {s = s} {xs = xs} q c a d r g) = finish_group_sort _ xs s (grounded r)
finishes (group_sorted {s = s} q c a d e sort r g) = finish_group_end _ s (grounded r)
finishes (with_groups {s = s} q c r g) = finish_in_groups _ s (grounded r)

pub record GoesOn (aim : Aim) (ts : List Lexeme) : Type 0 where
  pub tokens : List Lexeme
  pub phrase : Phrase
  pub found : Found aim (ts ++ tokens) phrase

goes_on_by : (aim : Aim) (ts : List Lexeme) (st : State) → run (start (ground aim)) ts ≡ Some st → Finish st → GoesOn aim ts
goes_on_by aim ts st p f = record {
  tokens = f.tokens;
  phrase = f.phrase;
  found = sound aim (ts ++ f.tokens) f.phrase (ap ends (run-append (start (ground aim)) ts f.tokens ∙ ap (λ m. run m f.tokens) p)
      ∙ f.works);
}

-- While the machine has not failed, the tokens so far begin something.
pub goes_on : (aim : Aim) (ts : List Lexeme) (st : State) → run (start (ground aim)) ts ≡ Some st → GoesOn aim ts
goes_on aim ts st p = goes_on_by aim ts st p (finishes (reached aim ts st p))
