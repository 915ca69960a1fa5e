-- What the machine has read, the grammar gives.
use Rattle.std.proofs.Common.{◌≡◌, ℕ, ◌+◌, ◌<◌, ◌≤◌, Bool, true, false, cond, ◌&&◌, nat_lt, nat_le, ◌⊎◌, inl, inr, List, [], ◌∷◌, ◌++◌}
use Rattle.std.proofs.Common.{length, Option, Some, None, refl, sym, ap, subst, ◌∙◌, arith, le-leb, leb-true, leb-false, ltb-true}
use Rattle.std.proofs.Common.{ltb-false, append_assoc, append-nil, add_assoc, add-zero, zero-add, length-append}
use Rattle.vern_lex.specs.declared.span.Span.{Span}
use Rattle.vern_grammar.specs.Trees.{Operator, implication, equivalence, disjunction, conjunction, equation, inequation, Name, Group}
use Rattle.vern_grammar.specs.Trees.{Expression, Shape}
use Rattle.vern_grammar.specs.Trees as made
use Rattle.vern_grammar.specs.Kinds.{Kind, Lexeme}
use Rattle.vern_grammar.specs.Kinds as kind
use Rattle.vern_grammar.specs.Levels.{op_level, left_at_most, tilde_level, bare, outer, limit}
use Rattle.vern_grammar.specs.Grammar.{tok, named, group, binder, Head, operator, tilde, quantifier, level, room}
use Rattle.vern_grammar.specs.Grammar.{Next, last, before, Fits, Ends, IsNames, none, more, IsGroup, grouped, IsGroups, one}
use Rattle.vern_grammar.specs.Grammar.{then, IsOperand, constant, applied, enclosed, governed, IsApplication, alone, to_name, to_expression}
use Rattle.vern_grammar.specs.Grammar.{IsHead, left, negating, names, groups, IsShapeBehind, set, prop, arrow, plain}
use Rattle.vern_grammar.specs.Machine.{Frame, parenthesis, argument, governor, outline, link, State, at, depth, top, in_shape, within}
use Rattle.vern_grammar.specs.Machine.{pushed, shift, place, close, Phrase, an_expression, a_shape, chain, whole, behind, on, step}
use Rattle.vern_grammar.specs.Machine.{run, result, ends, start, parsed}
use Rattle.vern_grammar.specs.Machine as mode
use Rattle.vern_grammar.proofs.Runs.{op_below, run-None, top_outer}

-- what is being read
pub data Aim : Type 0 where
  for_expression for_shape : Aim

-- the tokens that the frames have read
pub data Reads : Aim → List Frame → List Lexeme → Type 0 where
  bottom : Reads for_expression [] []
  outlined : Reads for_shape (outline ∷ []) []
  linked : {aim : Aim} {s : List Frame} {ts us : List Lexeme} {n a b : ℕ} {v : Expression} (c : Span) →
      in_shape s ≡ true → depth s < limit → n ≤ outer → IsOperand n (before implication) (depth s) us a b v → Reads aim s ts →
      Reads aim (link v ∷ s) (ts ++ (us ++ (tok (kind.sign implication) c ∷ [])))
  opened : {aim : Aim} {s : List Frame} {ts : List Lexeme} (c : Span) → depth s < limit → Reads aim s ts
      → Reads aim (parenthesis c.from ∷ s) (ts ++ (tok kind.opening c ∷ []))
  argued : {aim : Aim} {s : List Frame} {ts us : List Lexeme} {x : Name} {ys : List Expression} {to : ℕ} (c : Span) →
      depth s < limit → IsApplication (depth s) us x ys to → Reads aim s ts
      → Reads aim (argument x ys ∷ s) (ts ++ (us ++ (tok kind.opening c ∷ [])))
  headed : {aim : Aim} {s : List Frame} {ts us : List Lexeme} {h : Head} → IsHead h (depth s) us → Fits (level h) (top s) → Reads aim s ts
      → Reads aim (governor h ∷ s) (ts ++ us)

-- some groups, or none yet
pub data Begun : ℕ → ℕ → List Lexeme → List Group → Type 0 where
  no_group : {o : ℕ} → Begun o 0 [] []
  some_groups : {o k : ℕ} {ts : List Lexeme} {gs : List Group} → IsGroups o k ts gs → Begun o k ts gs

-- a group that has its names: the groups before it, and the names
pub record HasNames (o m k : ℕ) (us ws : List Lexeme) (gs : List Group) (xs : List Name) : Type 0 where
  pub groups : Begun o m us gs
  pub names : IsNames (o + m + 1) k ws xs
  pub some : 0 < length xs

-- the tokens that a state has read
pub data Has : Aim → State → List Lexeme → Type 0 where
  wants : {aim : Aim} {s : List Frame} {ts : List Lexeme} → Reads aim s ts → Has aim (at mode.want s) ts
  applies : {aim : Aim} {s : List Frame} {ts us : List Lexeme} {x : Name} {ys : List Expression} {to : ℕ} → Reads aim s ts
      → IsApplication (depth s) us x ys to → Has aim (at (mode.applying x ys to) s) (ts ++ us)
  stands : {aim : Aim} {s : List Frame} {ts us : List Lexeme} {a b : ℕ} {v : Expression} → Reads aim s ts
      → ((g : Next) → IsOperand 0 g (depth s) us a b v) → Has aim (at (mode.after v a b) s) (ts ++ us)
  shaped : {aim : Aim} {s : List Frame} {ts us : List Lexeme} {t : Shape} → Reads aim s ts → in_shape s ≡ true
      → IsShapeBehind (depth s) us t → Has aim (at (mode.ended t) s) (ts ++ us)
  with_names : {aim : Aim} {s : List Frame} {ts us : List Lexeme} {k : ℕ} {xs : List Name} (q : Bool) (c : Span) →
      Reads aim s ts → depth s < limit → IsNames (depth s) k us xs →
      Has aim (at (mode.in_names (binder q c.from [] k) xs) s) (ts ++ (tok (kind.quantifier q) c ∷ us))
  with_colon : {aim : Aim} {s : List Frame} {ts us : List Lexeme} {k : ℕ} {xs : List Name} (q : Bool) (c d : Span) →
      Reads aim s ts → IsNames (depth s) k us xs → 0 < length xs →
      Has aim (at (mode.names_sort (binder q c.from [] k) xs) s) (ts ++ ((tok (kind.quantifier q) c ∷ us) ++ (tok kind.colon d ∷ [])))
  with_sort : {aim : Aim} {s : List Frame} {ts us : List Lexeme} {k : ℕ} {xs : List Name} (q : Bool) (c d e : Span) (sort : List ℕ) →
      Reads aim s ts → IsNames (depth s) k us xs → 0 < length xs →
      Has aim (at (mode.names_end (binder q c.from (group xs (named sort e) ∷ []) k)) s)
      (ts ++ ((tok (kind.quantifier q) c ∷ us) ++ (tok kind.colon d ∷ tok (kind.name sort) e ∷ [])))
  group_names : {aim : Aim} {s : List Frame} {ts us ws : List Lexeme} {m k : ℕ} {gs : List Group} {xs : List Name} (q : Bool) (c a : Span) →
      Reads aim s ts → Begun (depth s) m us gs → depth s + m + 1 < limit → IsNames (depth s + m + 1) k ws xs →
      Has aim (at (mode.in_group (binder q c.from gs (m + k)) xs) s) (ts ++ ((tok (kind.quantifier q) c ∷ us) ++ (tok kind.opening a ∷ ws)))
  group_colon : {aim : Aim} {s : List Frame} {ts us ws : List Lexeme} {m k : ℕ} {gs : List Group} {xs : List Name} (q : Bool)
      (c a d : Span) →
      Reads aim s ts → HasNames (depth s) m k us ws gs xs →
      Has aim (at (mode.group_sort (binder q c.from gs (m + k)) xs) s)
      (ts ++ ((tok (kind.quantifier q) c ∷ us) ++ ((tok kind.opening a ∷ ws) ++ (tok kind.colon d ∷ []))))
  group_sorted : {aim : Aim} {s : List Frame} {ts us ws : List Lexeme} {m k : ℕ} {gs : List Group} {xs : List Name} (q : Bool)
      (c a d e : Span) (sort : List ℕ) →
      Reads aim s ts → HasNames (depth s) m k us ws gs xs →
      Has aim (at (mode.group_end (binder q c.from (gs ++ (group xs (named sort e) ∷ [])) (m + k))) s)
      (ts ++ ((tok (kind.quantifier q) c ∷ us) ++ ((tok kind.opening a ∷ ws) ++ (tok kind.colon d ∷ tok (kind.name sort) e ∷ []))))
  with_groups : {aim : Aim} {s : List Frame} {ts us : List Lexeme} {k : ℕ} {gs : List Group} (q : Bool) (c : Span) →
      Reads aim s ts → IsGroups (depth s) k us gs → Has aim (at (mode.in_groups (binder q c.from gs k)) s)
      (ts ++ (tok (kind.quantifier q) c ∷ us))

some_out : {A : Type 0} (x y : A) → Some x ≡ Some y → x ≡ y
some_out x y e = cc

moved : {aim : Aim} {x to : State} {ts : List Lexeme} → x ≡ to → Has aim x ts → Has aim to ts
moved {aim = aim} {ts = ts} e h = subst (λ y. Has aim y ts) e h

test_some : (b : Bool) (x to : State) → cond b (Some x) None ≡ Some to → (b ≡ true) × (x ≡ to)
test_some true x to p = (refl, some_out x to p)
test_some false x to p = cc

within_some : (n : ℕ) (x to : State) → within n x ≡ Some to → (n < limit) × (x ≡ to)
within_some n x to e = let (b, q) = test_some (nat_lt n limit) x to e in (ltb-true n limit b, q)

-- ---- an operator

pushed_head : (op : Operator) (v : Expression) (a : ℕ) (s : List Frame) → op_level op ≤ top s → pushed op v a s ≡ governor (operator op v a)
pushed_head op v a s m = ap (λ b. cond b (governor (operator op v a)) (link v)) (le-leb (op_level op) (top s) m)

pushed_link : (v : Expression) (a : ℕ) (s : List Frame) → in_shape s ≡ true → pushed implication v a s ≡ link v
pushed_link v a (outline ∷ s) h = refl
pushed_link v a (link w ∷ s) h = refl
pushed_link v a _ h = cc

op_most : (op : Operator) → op_level op ≤ bare
op_most op = let h = op_below op in omega arith

and_yes : (a b : Bool) → (a && b) ≡ true → (a ≡ true) × (b ≡ true)
and_yes true true e = (refl, refl)
and_yes true false e = cc
and_yes false b e = cc

and_no : (a b : Bool) → (a && b) ≡ false → (a ≡ false) ⊎ (b ≡ false)
and_no true true e = cc
and_no true false e = inr refl
and_no false b e = inl refl

place_cases : {A : Type 0} {b c : Bool} {x y : Option State} {to : State} (op : Operator) (n : ℕ) (h : Head)
    → nat_le n (left_at_most op) ≡ b →
    ((b ≡ true) → op_level op ≤ room h → x ≡ Some to → A) → (Ends (before op) n (room h) → y ≡ Some to → A) →
    (b && nat_le (op_level op) (room h)) ≡ c → cond c x y ≡ Some to → A
place_cases {b = b} {c = true} op n h e f g i p = let (t, u) = and_yes b (nat_le (op_level op) (room h)) i in
    f t (leb-true (op_level op) (room h) u) p
place_cases {b = b} {c = false} op n h e f g i p =
    let k : (b ≡ false) ⊎ (nat_le (op_level op) (room h) ≡ false) → Ends (before op) n (room h) =
    elim [ inl t ↦ inr (leb-false n (left_at_most op) (e ∙ t)) | inr u ↦ inl (leb-false (op_level op) (room h) u) ] in
    g (k (and_no b (nat_le (op_level op) (room h)) i)) p

-- what the operator at c makes of an operand that stands behind the frames
module _ (c : Span) (to : State) where
  shift_sound : {aim : Aim} {s : List Frame} {ts us : List Lexeme} {n a b : ℕ} {v : Expression} (op : Operator) → Reads aim s ts
      → op_level op ≤ top s → IsOperand n (before op) (depth s) us a b v → (y : Bool) → nat_le n (left_at_most op) ≡ y
      → shift op y v a s ≡ Some to →
      Has aim to ((ts ++ us) ++ (tok (kind.sign op) c ∷ []))
  shift_sound op r m e false h p = cc
  shift_sound {s = s} {n = n} {a = a} {v = v} op r m e true h p =
      let (l, q) = within_some (depth s) (at mode.want (pushed op v a s ∷ s)) to p in
      rw append_assoc (moved (ap (λ f. at mode.want (f ∷ s)) (sym (pushed_head op v a s m))
      ∙ q) (wants (headed (left c e (leb-true n (left_at_most op) h) l) (inl m) r)))

  link_sound : {aim : Aim} {s : List Frame} {ts us : List Lexeme} {n a b : ℕ} {v : Expression} → Reads aim s ts → in_shape s ≡ true
      → IsOperand n (before implication) (depth s) us a b v → (y : Bool) → nat_le n outer ≡ y → shift implication y v a s ≡ Some to →
      Has aim to ((ts ++ us) ++ (tok (kind.sign implication) c ∷ []))
  link_sound r i e false h p = cc
  link_sound {s = s} {n = n} {a = a} {v = v} r i e true h p =
      let (l, q) = within_some (depth s) (at mode.want (pushed implication v a s ∷ s)) to p in
      rw append_assoc (moved (ap (λ f. at mode.want (f ∷ s)) (sym (pushed_link v a s i))
      ∙ q) (wants (linked c i l (leb-true n outer h) e r)))

  outer_sound : {aim : Aim} {s : List Frame} {ts us : List Lexeme} {n a b : ℕ} {v : Expression} (op : Operator) → Reads aim s ts
      → in_shape s ≡ true → IsOperand n (before op) (depth s) us a b v → (y : Bool) → nat_le n (left_at_most op) ≡ y
      → shift op y v a s ≡ Some to →
      Has aim to ((ts ++ us) ++ (tok (kind.sign op) c ∷ []))
  outer_sound implication r i e y h p = link_sound r i e y h p
  outer_sound {s = s} equivalence r i e y h p = let t = top_outer s i in shift_sound equivalence r (omega arith) e y h p
  outer_sound {s = s} disjunction r i e y h p = let t = top_outer s i in shift_sound disjunction r (omega arith) e y h p
  outer_sound {s = s} conjunction r i e y h p = let t = top_outer s i in shift_sound conjunction r (omega arith) e y h p
  outer_sound {s = s} equation r i e y h p = let t = top_outer s i in shift_sound equation r (omega arith) e y h p
  outer_sound {s = s} inequation r i e y h p = let t = top_outer s i in shift_sound inequation r (omega arith) e y h p

  place_sound : {aim : Aim} {s : List Frame} {ts us : List Lexeme} {n a b : ℕ} {v : Expression} (op : Operator) → Reads aim s ts
      → IsOperand n (before op) (depth s) us a b v → Fits n (top s) → (y : Bool) → nat_le n (left_at_most op) ≡ y
      → place op y v a b s ≡ Some to →
      Has aim to ((ts ++ us) ++ (tok (kind.sign op) c ∷ []))
  unfolding place
  place_sound op bottom e f y h p = shift_sound op bottom (op_most op) e y h p
  place_sound op outlined e f y h p = outer_sound op outlined refl e y h p
  place_sound op (linked d i l m w r) e f y h p = outer_sound op (linked d i l m w r) refl e y h p
  place_sound op (opened d l r) e f y h p = shift_sound op (opened d l r) (op_most op) e y h p
  place_sound op (argued d l w r) e f y h p = shift_sound op (argued d l w r) (op_most op) e y h p
  place_sound {us = us} {n = n} op (headed {ts = ts} {us = ws} {h = k} begins fit r) e f y h p =
      place_cases op n k h
      (λ t m q. shift_sound op (headed begins fit r) m e true (h ∙ t) q)
      (λ i q. rw (append_assoc ts ws us) (place_sound op r (governed begins f i e) fit (nat_le (level k) (left_at_most op)) refl q))
      refl p

-- ---- a closing parenthesis

close_sound : {aim : Aim} {s : List Frame} {ts us : List Lexeme} {n a b : ℕ} {v : Expression} (d : Span) (to : State) → Reads aim s ts
    → IsOperand n last (depth s) us a b v → Fits n (top s) → close v b d.to s ≡ Some to
    → Has aim to ((ts ++ us) ++ (tok kind.closing d ∷ []))
unfolding close
close_sound d to bottom e f p = cc
close_sound d to outlined e f p = cc
close_sound d to (linked c i l m w r) e f p = cc
close_sound {us = us} {v = v} d to (opened {s = s} {ts = ts} c l r) e f p =
    rw (append_assoc ts (tok kind.opening c ∷ []) us, append_assoc ts (tok kind.opening c ∷ us) (tok kind.closing d ∷ []))
    (moved {ts = ts ++ ((tok kind.opening c ∷ us) ++ (tok kind.closing d ∷ []))} (some_out (at (mode.after v c.from d.to) s) to p)
    (stands r (λ g. enclosed c d l e)))
close_sound {us = us} {v = v} d to (argued {s = s} {ts = ts} {us = ws} {x = x} {ys = ys} c l w r) e f p =
    rw (
      append_assoc ts (ws ++ (tok kind.opening c ∷ [])) us,
      append_assoc ts ((ws ++ (tok kind.opening c ∷ [])) ++ us) (tok kind.closing d ∷ []),
      append_assoc ws (tok kind.opening c ∷ []) us,
      append_assoc ws (tok kind.opening c ∷ us) (tok kind.closing d ∷ []),
    )
    (moved {ts = ts ++ (ws ++ ((tok kind.opening c ∷ us) ++ (tok kind.closing d ∷ [])))}
    (some_out (at (mode.applying x (ys ++ (v ∷ [])) d.to) s) to p) (applies r (to_expression c d w l e)))
close_sound {us = us} d to (headed {ts = ts} {us = ws} begins fit r) e f p =
    rw (append_assoc ts ws us) (close_sound d to r (governed begins f tt e) fit p)

-- ---- each token

tilde_step : {aim : Aim} {s : List Frame} {ts : List Lexeme} (c : Span) (to : State) → Reads aim s ts → (b : Bool)
    → nat_le tilde_level (top s) ≡ b →
    cond b (within (depth s) (at mode.want (governor (tilde c.from) ∷ s))) None ≡ Some to → Has aim to (ts ++ (tok kind.tilde c ∷ []))
tilde_step {s = s} c to r true e p = let (l, q) = within_some (depth s) _ to p in
    moved q (wants (headed (negating c l) (inl (leb-true tilde_level (top s) e)) r))
tilde_step c to r false e p = cc

behind_sound : {aim : Aim} {s : List Frame} {ts us : List Lexeme} {a b : ℕ} {v : Expression} → Reads aim s ts
    → ((g : Next) → IsOperand 0 g (depth s) us a b v) →
    (k : Kind) (c : Span) (to : State) → behind v a b s k c ≡ Some to → Has aim to ((ts ++ us) ++ (tok k c ∷ []))
behind_sound r e (kind.sign op) c to p =
    place_sound c to op r (e (before op)) (inl (omega arith)) true (le-leb 0 (left_at_most op) (omega arith)) p
behind_sound r e kind.closing c to p = close_sound c to r (e last) (inl (omega arith)) p
behind_sound r e _ c to p = cc

test_none : (b : Bool) (m : Option State) (to : State) → cond b None m ≡ Some to → b ≡ false
test_none true m to p = cc
test_none false m to p = refl

names_open : {aim : Aim} {s : List Frame} {ts us : List Lexeme} {k : ℕ} {xs : List Name} (q : Bool) (c a : Span) (to : State)
    → Reads aim s ts → IsNames (depth s) k us xs →
    cond (nat_lt 0 (length xs)) None (within (depth s + k + 1) (at (mode.in_group (binder q c.from [] k) []) s)) ≡ Some to →
    Has aim to ((ts ++ (tok (kind.quantifier q) c ∷ us)) ++ (tok kind.opening a ∷ []))
names_open {s = s} {ts = ts} q c a to r none p = let (l, e) = within_some (depth s + 0 + 1) _ to p in
    rw (append_assoc ts (tok (kind.quantifier q) c ∷ []) (tok kind.opening a ∷ []))
    (moved {ts = ts ++ (tok (kind.quantifier q) c ∷ tok kind.opening a ∷ [])} e (group_names q c a r no_group l none))
names_open q c a to r (more {xs = xs} x d ns l) p =
    let h = ltb-false 0 (length (xs ++ (named x d ∷ []))) (test_none (nat_lt 0 (length (xs ++ (named x d ∷ [])))) _ to p) in
    absurd (omega (arith, length-append xs (named x d ∷ [])))

close_group : {o m k : ℕ} {us ws : List Lexeme} {gs : List Group} {g : Group} → Begun o m us gs → IsGroup (o + m) k ws g
    → IsGroups o (m + k) (us ++ ws) (gs ++ (g ∷ []))
close_group {o = o} {k = k} {ws = ws} {g = g} no_group r = rw zero-add (one (rw add-zero at r))
close_group (some_groups gs) g = then gs g

step_sound : {aim : Aim} {st : State} {ts : List Lexeme} → Has aim st ts → (k : Kind) (c : Span) (to : State)
    → on st.mode st.stack k c ≡ Some to → Has aim to (ts ++ (tok k c ∷ []))
step_sound (wants r) (kind.name x) c to p = moved (some_out _ to p) (applies r (alone x c))
step_sound (wants r) (kind.constant b) c to p = moved (some_out _ to p) (stands r (λ g. constant b c))
step_sound (wants {s = s} r) kind.opening c to p = let (l, q) = within_some (depth s) _ to p in moved q (wants (opened c l r))
step_sound (wants {s = s} r) kind.tilde c to p = tilde_step c to r (nat_le tilde_level (top s)) refl p
step_sound (wants {s = s} r) (kind.quantifier b) c to p = let (l, q) = within_some (depth s) _ to p in moved q (with_names b c r l none)
step_sound (wants {s = s} r) kind.set c to p = let (i, q) = test_some (in_shape s) _ to p in moved q (shaped r i (set c))
step_sound (wants {s = s} r) kind.prop c to p = let (i, q) = test_some (in_shape s) _ to p in moved q (shaped r i (prop c))
step_sound (wants r) _ c to p = cc
step_sound (applies r w) (kind.name y) c to p = simp append_assoc (moved (some_out _ to p) (applies r (to_name y c w)))
step_sound (applies {s = s} {ts = ts} {us = us} r w) kind.opening c to p = let (l, q) = within_some (depth s) _ to p in
    simp append_assoc (moved q (wants (argued c l w r)))
step_sound (applies r w) k c to p = behind_sound r (λ g. applied w) k c to p
step_sound (stands r e) k c to p = behind_sound r e k c to p
step_sound (shaped r i e) k c to p = cc
step_sound (with_names {s = s} {k = k} q a r l ns) (kind.name x) c to p = let (h, e) = within_some (depth s + k) _ to p in
    simp append_assoc (moved e (with_names q a r l (more x c ns h)))
step_sound (with_names q a r l ns) kind.opening c to p = names_open q a c to r ns p
step_sound (with_names {xs = xs} q a r l ns) kind.colon c to p = let (h, e) = test_some (nat_lt 0 (length xs)) _ to p in
    simp append_assoc (moved e (with_colon q a c r ns (ltb-true 0 (length xs) h)))
step_sound (with_names q a r l ns) _ c to p = cc
step_sound (with_colon q a d r ns h) (kind.name x) c to p = simp append_assoc (moved (some_out _ to p) (with_sort q a d c x r ns h))
step_sound (with_colon q a d r ns h) _ c to p = cc
step_sound (with_sort q a d e sort r ns h) kind.comma c to p =
    simp append_assoc (moved (some_out _ to p) (wants (headed (names q a d e c sort ns h) (inr refl) r)))
step_sound (with_sort q a d e sort r ns h) _ c to p = cc
step_sound (group_names {s = s} {m = m} {k = k} {gs = gs} {xs = xs} q a b r g l ns) (kind.name x) c to p =
    let (h, e) = within_some (depth s + (m + k) + 1) _ to p in
    simp append_assoc (moved (ap (λ j. at (mode.in_group (binder q a.from gs j) (xs ++ (named x c ∷ []))) s) (sym (add_assoc m k 1))
    ∙ e) (group_names q a b r g l (more x c ns (omega arith))))
step_sound (group_names {xs = xs} q a b r gs l ns) kind.colon c to p = let (h, e) = test_some (nat_lt 0 (length xs)) _ to p in
    simp append_assoc (moved e (group_colon q a b c r (record { groups = gs; names = ns; some = ltb-true 0 (length xs) h })))
step_sound (group_names q a b r gs l ns) _ c to p = cc
step_sound (group_colon q a b d r g) (kind.name x) c to p = simp append_assoc (moved (some_out _ to p) (group_sorted q a b d c x r g))
step_sound (group_colon q a b d r g) _ c to p = cc
step_sound (group_sorted q a b d e sort r g) kind.closing c to p =
    simp append_assoc (moved (some_out _ to p) (with_groups q a r (close_group g.groups (grouped b d e c sort g.names g.some))))
step_sound (group_sorted q a b d e sort r g) _ c to p = cc
step_sound (with_groups {s = s} {k = k} {gs = gs} q a r g) kind.opening c to p =
    let (h, e) = within_some (depth s + k + 1) _ to p in
    simp append_assoc (moved (ap (λ j. at (mode.in_group (binder q a.from gs j) []) s) (add-zero k)
    ∙ e) (group_names q a c r (some_groups g) h none))
step_sound (with_groups q a r g) kind.comma c to p =
    simp append_assoc (moved (some_out _ to p) (wants (headed (groups q a c g) (inr refl) r)))
step_sound (with_groups q a r g) _ c to p = cc

-- ---- all tokens

none_some : (us : List Lexeme) (to : State) → run None us ≡ Some to → ⊥
none_some us to e = let n = run-None us in cc

step_or_none : (A : Type 0) (m : Option State) (us : List Lexeme) (to : State)
    → ((mid : State) → m ≡ Some mid → run (Some mid) us ≡ Some to → A) → run m us ≡ Some to → A
step_or_none A None us to f p = absurd (none_some us to p)
step_or_none A (Some mid) us to f p = f mid refl p

run_sound : (us : List Lexeme) {aim : Aim} {st : State} {ts : List Lexeme} → Has aim st ts → (to : State) → run (Some st) us ≡ Some to
    → Has aim to (ts ++ us)
run_sound [] {st = st} h to p = rw append-nil (moved (some_out st to p) h)
run_sound (u ∷ us) {aim = aim} {st = st} {ts = ts} h to p =
    step_or_none (Has aim to (ts ++ (u ∷ us))) (step st u) us to
    (λ mid e q. rw append_assoc at (run_sound us (step_sound h u.kind u.span mid e) to q)) p

-- the frames that reading begins behind
abbrev pub ground : Aim → List Frame
ground for_expression = []
ground for_shape = outline ∷ []

-- the state behind the tokens has read them
pub reached : (aim : Aim) (ts : List Lexeme) (st : State) → run (start (ground aim)) ts ≡ Some st → Has aim st ts
reached for_expression ts st p = run_sound ts (wants bottom) st p
reached for_shape ts st p = run_sound ts (wants outlined) st p

pub data Found : Aim → List Lexeme → Phrase → Type 0 where
  expression_found : {n a b : ℕ} {ts : List Lexeme} {t : Expression} → IsOperand n last 0 ts a b t
      → Found for_expression ts (an_expression t)
  shape_found : {ts : List Lexeme} {t : Shape} → IsShapeBehind 0 ts t → Found for_shape ts (a_shape t)

found_moved : {aim : Aim} {ts : List Lexeme} {x to : Phrase} → Some x ≡ Some to → Found aim ts x → Found aim ts to
found_moved {aim = aim} {ts = ts} {x = x} {to = to} p f = subst (λ y. Found aim ts y) (some_out x to p) f

chain_sound : {aim : Aim} {s : List Frame} {ts : List Lexeme} → Reads aim s ts → (us : List Lexeme) (t : Shape) (to : Phrase)
    → IsShapeBehind (depth s) us t → chain t s ≡ Some to → Found aim (ts ++ us) to
unfolding chain
chain_sound outlined us t to e p = found_moved p (shape_found e)
chain_sound (linked {ts = ts} {us = ws} {v = v} c i l m w r) us t to e p =
    rw (append_assoc ts (ws ++ (tok (kind.sign implication) c ∷ [])) us, append_assoc ws (tok (kind.sign implication) c ∷ []) us)
    (chain_sound r (ws ++ (tok (kind.sign implication) c ∷ us)) (made.arrow v t) to (arrow c w m l e) p)
chain_sound bottom us t to e p = cc
chain_sound (opened c l r) us t to e p = cc
chain_sound (argued c l w r) us t to e p = cc
chain_sound (headed begins fit r) us t to e p = cc

whole_sound : {aim : Aim} {s : List Frame} {ts us : List Lexeme} {n a b : ℕ} {v : Expression} (to : Phrase) → Reads aim s ts
    → IsOperand n last (depth s) us a b v → Fits n (top s) → whole v b s ≡ Some to → Found aim (ts ++ us) to
unfolding whole chain
whole_sound to bottom e f p = found_moved p (expression_found e)
whole_sound {us = us} {v = v} to outlined e f p = chain_sound outlined us (made.plain v) to (plain e f) p
whole_sound {us = us} {v = v} to (linked c i l m w r) e f p = chain_sound (linked c i l m w r) us (made.plain v) to (plain e f) p
whole_sound to (opened c l r) e f p = cc
whole_sound to (argued c l w r) e f p = cc
whole_sound {us = us} to (headed {ts = ts} {us = ws} begins fit r) e f p =
    rw (append_assoc ts ws us) (whole_sound to r (governed begins f tt e) fit p)

result_sound : {aim : Aim} {st : State} {ts : List Lexeme} → Has aim st ts → (to : Phrase) → result st.mode st.stack ≡ Some to
    → Found aim ts to
result_sound (applies r w) t p = whole_sound t r (applied w) (inl (omega arith)) p
result_sound (stands r e) t p = whole_sound t r (e last) (inl (omega arith)) p
result_sound (shaped {us = us} {t = t} r i e) to p = chain_sound r us t to e p
result_sound _ t p = cc

sound_at : (aim : Aim) (ts : List Lexeme) (to : Phrase) (m : Option State) → run (start (ground aim)) ts ≡ m → ends m ≡ Some to
    → Found aim ts to
sound_at aim ts to (Some st) e p = result_sound (reached aim ts st e) to p
sound_at aim ts to None e p = cc

-- What the machine gives, the grammar gives.
pub sound : (aim : Aim) (ts : List Lexeme) (to : Phrase) → parsed (ground aim) ts ≡ Some to → Found aim ts to
sound aim ts to p = sound_at aim ts to (run (start (ground aim)) ts) refl p
