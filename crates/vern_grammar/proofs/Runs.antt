-- The machine reads what the grammar gives.
use Rattle.std.proofs.Common.{◌≡◌, ℕ, ◌+◌, ◌<◌, ◌≤◌, Bool, true, false, cond, ◌&&◌, nat_lt, nat_le, ◌⊎◌, inl, inr, List, [], ◌∷◌, ◌++◌}
use Rattle.std.proofs.Common.{length, Option, Some, None, refl, sym, ap, ◌∙◌, arith, le-leb, lt-ltb, add_assoc, add-zero, zero-add}
use Rattle.std.proofs.lemmas.Bool.{lt-leb}
use Rattle.vern_lex.specs.declared.span.Span.{Span}
use Rattle.vern_grammar.specs.Trees.{Operator, implication, equivalence, disjunction, conjunction, equation, inequation, Name, Group}
use Rattle.vern_grammar.specs.Trees.{Expression, Shape}
use Rattle.vern_grammar.specs.Trees as made
use Rattle.vern_grammar.specs.Kinds.{Kind, Lexeme}
use Rattle.vern_grammar.specs.Kinds as kind
use Rattle.vern_grammar.specs.Levels.{op_level, left_at_most, tilde_level, bare, outer, limit}
use Rattle.vern_grammar.specs.Grammar.{tok, named, group, application, binder, Head, operator, tilde, quantifier, level, room}
use Rattle.vern_grammar.specs.Grammar.{openings, begin, governing, Next, last, before, Fits, Ends, IsNames, none, more, IsGroup, grouped}
use Rattle.vern_grammar.specs.Grammar.{IsGroups, one, then, IsOperand, constant, applied, enclosed, governed, IsApplication, alone, to_name}
use Rattle.vern_grammar.specs.Grammar.{to_expression, IsHead, left, negating, names, groups, IsShapeBehind, set, prop, arrow, plain}
use Rattle.vern_grammar.specs.Machine.{Frame, parenthesis, argument, governor, outline, link, State, at, depth, top, in_shape, within}
use Rattle.vern_grammar.specs.Machine.{shift, place, close, chain, whole, step, next, run, ends, start}
use Rattle.vern_grammar.specs.Machine as mode

pub run-append : (m : Option State) (ts us : List Lexeme) → run m (ts ++ us) ≡ run (run m ts) us
run-append m [] us = refl
run-append m (t ∷ ts) us = run-append (next m t) ts us

pub run-None : (us : List Lexeme) → run None us ≡ None
run-None [] = refl
run-None (u ∷ us) = run-None us

-- the tokens that no expression goes on with
abbrev pub is_foreign : Kind → Bool
is_foreign kind.colon = true
is_foreign kind.comma = true
is_foreign kind.set = true
is_foreign kind.prop = true
is_foreign (kind.other k) = true
is_foreign _ = false

after_foreign : (t : Expression) (a b : ℕ) (s : List Frame) (k : Kind) (c : Span) → is_foreign k ≡ true
    → step (at (mode.after t a b) s) (tok k c) ≡ None
after_foreign t a b s kind.colon c h = refl
after_foreign t a b s kind.comma c h = refl
after_foreign t a b s kind.set c h = refl
after_foreign t a b s kind.prop c h = refl
after_foreign t a b s (kind.other k) c h = refl
after_foreign t a b s _ c h = cc

applying_foreign : (x : Name) (ys : List Expression) (b : ℕ) (s : List Frame) (k : Kind) (c : Span) → is_foreign k ≡ true
    → step (at (mode.applying x ys b) s) (tok k c) ≡ None
applying_foreign x ys b s kind.colon c h = refl
applying_foreign x ys b s kind.comma c h = refl
applying_foreign x ys b s kind.set c h = refl
applying_foreign x ys b s kind.prop c h = refl
applying_foreign x ys b s (kind.other k) c h = refl
applying_foreign x ys b s _ c h = cc

-- What comes behind the tokens of an operand finds it where they stood.
abbrev pub Settles : Next → ℕ → Expression → ℕ → ℕ → List Frame → State → Type 0
Settles last n v a b s st = ((c : Span) → step st (tok kind.closing c) ≡ close v b c.to s) × (ends (Some st) ≡ whole v b s)
    × ((k : Kind) (c : Span) → is_foreign k ≡ true → step st (tok k c) ≡ None)
Settles (before op) n v a b s st = (c : Span) → step st (tok (kind.sign op) c) ≡ place op (nat_le n (left_at_most op)) v a b s

pub record Arrives (s : List Frame) (ts : List Lexeme) (n : ℕ) (g : Next) (a b : ℕ) (t : Expression) : Type 0 where
  pub state : State
  pub ran : run (start s) ts ≡ Some state
  pub settles : Settles g n t a b s state

left_below : (op : Operator) → left_at_most op < op_level op
left_below implication = omega arith
left_below equivalence = omega arith
left_below disjunction = omega arith
left_below conjunction = omega arith
left_below equation = omega arith
left_below inequation = omega arith

pub op_below : (op : Operator) → op_level op < 100
op_below implication = omega arith
op_below equivalence = omega arith
op_below disjunction = omega arith
op_below conjunction = omega arith
op_below equation = omega arith
op_below inequation = omega arith

pub within_yes : (n : ℕ) (st : State) → n < limit → within n st ≡ Some st
within_yes n st h = let e : nat_lt n limit ≡ true = lt-ltb n limit h in ap (λ b. cond b (Some st) None) e

shift_yes : (op : Operator) (v : Expression) (a : ℕ) (s : List Frame) → op_level op ≤ top s → depth s < limit
    → shift op true v a s ≡ Some (at mode.want (governor (operator op v a) ∷ s))
shift_yes op v a s h d = ap (λ y. within (depth s) (at mode.want (cond y (governor (operator op v a)) (link v) ∷ s)))
    (le-leb (op_level op) (top s) h) ∙ within_yes (depth s) _ d

place_yes : (op : Operator) (v : Expression) (a b : ℕ) (s : List Frame) → op_level op ≤ top s → depth s < limit
    → place op true v a b s ≡ Some (at mode.want (governor (operator op v a) ∷ s))
unfolding place
place_yes op v a b (governor k ∷ s) h d = ap (λ t. cond t (shift op true v a (governor k ∷ s))
    (place op (nat_le (level k) (left_at_most op)) (governing k v b) (begin k) b s)) (le-leb (op_level op) (room k) h)
    ∙ shift_yes op v a (governor k ∷ s) h d
place_yes op v a b [] h d = shift_yes op v a [] h d
place_yes op v a b (parenthesis f ∷ s) h d = shift_yes op v a (parenthesis f ∷ s) h d
place_yes op v a b (argument x ys ∷ s) h d = shift_yes op v a (argument x ys ∷ s) h d
place_yes op v a b (outline ∷ s) h d = shift_yes op v a (outline ∷ s) h d
place_yes op v a b (link w ∷ s) h d = shift_yes op v a (link w ∷ s) h d

-- where a shape begins, an arrow goes to the next part of it
place_link : (v : Expression) (a b : ℕ) (s : List Frame) → in_shape s ≡ true → depth s < limit
    → place implication true v a b s ≡ Some (at mode.want (link v ∷ s))
unfolding place
place_link v a b (outline ∷ s) h d = within_yes (depth (outline ∷ s)) _ d
place_link v a b (link w ∷ s) h d = within_yes (depth (link w ∷ s)) _ d
place_link v a b _ h d = cc

cond_no : {A : Type 0} (a b : Bool) (x y : A) → (a ≡ false) ⊎ (b ≡ false) → cond (a && b) x y ≡ y
cond_no false b x y e = refl
cond_no true false x y e = refl
cond_no true true x y (inl e) = cc
cond_no true true x y (inr e) = cc

module _ (n : ℕ) (h : Head) (t : Expression) (a b : ℕ) (s : List Frame) where
  -- the head takes what ends before the next operator
  reduces : (op : Operator) → Ends (before op) n (room h) →
      place op (nat_le n (left_at_most op)) t a b (governor h ∷ s)
      ≡ place op (nat_le (level h) (left_at_most op)) (governing h t b) (begin h) b s
  unfolding place
  reduces op (inl small) = cond_no _ _ _ _ (inr (lt-leb (op_level op) (room h) small))
  reduces op (inr high) = cond_no _ _ _ _ (inl (lt-leb n (left_at_most op) high))

  settles_head : (g : Next) (st : State) → Ends g n (room h) → Settles g n t a b (governor h ∷ s) st
      → Settles g (level h) (governing h t b) (begin h) b s st
  unfolding close whole
  settles_head last st e p = p
  settles_head (before op) st e p = λ c. p c ∙ reduces op e

fits_zero : (op : Operator) (t : Expression) (a b : ℕ) (s : List Frame)
    → place op true t a b s ≡ place op (nat_le 0 (left_at_most op)) t a b s
fits_zero op t a b s = ap (λ y. place op y t a b s) (sym (le-leb 0 (left_at_most op) (omega arith)))

pub settles_after : (g : Next) (t : Expression) (a b : ℕ) (s : List Frame) → Settles g 0 t a b s (at (mode.after t a b) s)
settles_after last t a b s = (λ c. refl, refl, after_foreign t a b s)
settles_after (before op) t a b s = λ c. fits_zero op t a b s

pub settles_applying : (g : Next) (x : Name) (ys : List Expression) (b : ℕ) (s : List Frame)
    → Settles g 0 (application x ys b) x.span.from b s (at (mode.applying x ys b) s)
settles_applying last x ys b s = (λ c. refl, refl, applying_foreign x ys b s)
settles_applying (before op) x ys b s = λ c. fits_zero op (application x ys b) x.span.from b s

level_most : (h : Head) → level h ≤ bare
level_most (operator op a f) = let h = op_below op in omega arith
level_most (tilde f) = omega arith
level_most (quantifier b) = omega arith

pub operand_most : {n : ℕ} {g : Next} {o : ℕ} {ts : List Lexeme} {a b : ℕ} {t : Expression} → IsOperand n g o ts a b t → n ≤ bare
operand_most (constant v c) = omega arith
operand_most (applied p) = omega arith
operand_most (enclosed c d l e) = omega arith
operand_most (governed {h = h} p f e r) = level_most h

fits_level : (op : Operator) (m : ℕ) → Fits (op_level op) m → op_level op ≤ m
fits_level op m (inl p) = p
fits_level op m (inr q) = let h = op_below op in omega arith

fits_tilde : (m : ℕ) → Fits tilde_level m → tilde_level ≤ m
fits_tilde m (inl p) = p
fits_tilde m (inr q) = omega arith

below_top : (n : ℕ) (op : Operator) (m : ℕ) → n ≤ left_at_most op → op_level op ≤ m → n ≤ m
below_top n op m p q = let h = left_below op in omega arith

-- ---- names and groups

names_below : {o k : ℕ} {ts : List Lexeme} {xs : List Name} → IsNames o k ts xs → 0 < length xs → o < limit
names_below none h = omega arith
names_below (more x c r l) h = omega arith

-- A quantifier's names or groups, behind its first token at f, over the frames s.
module _ (q : Bool) (f : ℕ) (s : List Frame) where
  runs_names : {o k : ℕ} {ts : List Lexeme} {xs : List Name} → IsNames o k ts xs → depth s ≡ o →
      run (Some (at (mode.in_names (binder q f [] 0) []) s)) ts ≡ Some (at (mode.in_names (binder q f [] k) xs) s)
  runs_names none d = refl
  runs_names (more {k = k} {ts = ts} {xs = xs} x c r l) d =
      run-append _ ts (tok (kind.name x) c ∷ []) ∙ ap (λ m. next m (tok (kind.name x) c)) (runs_names r d)
      ∙ within_yes (depth s + k) _ (rw d l)

  runs_group_names : {o k : ℕ} {ts : List Lexeme} {xs : List Name} → IsNames o k ts xs → (gs : List Group) (m : ℕ) → depth s + m + 1 ≡ o →
      run (Some (at (mode.in_group (binder q f gs m) []) s)) ts ≡ Some (at (mode.in_group (binder q f gs (m + k)) xs) s)
  runs_group_names none gs m d = ap (λ j. Some (at (mode.in_group (binder q f gs j) []) s)) (sym (add-zero m))
  runs_group_names (more {k = k} {ts = ts} {xs = xs} x c r l) gs m d =
      run-append _ ts (tok (kind.name x) c ∷ []) ∙ ap (λ w. next w (tok (kind.name x) c)) (runs_group_names r gs m d)
      ∙ within_yes (depth s + (m + k) + 1) _ (omega arith)
      ∙ ap (λ j. Some (at (mode.in_group (binder q f gs j) (xs ++ (named x c ∷ []))) s)) (add_assoc m k 1)

  runs_group_sort : (gs : List Group) (m : ℕ) (xs : List Name) (b c d : Span) (sort : List ℕ) → 0 < length xs →
      run (Some (at (mode.in_group (binder q f gs m) xs) s)) (tok kind.colon b ∷ tok (kind.name sort) c ∷ tok kind.closing d ∷ [])
      ≡ Some (at (mode.in_groups (binder q f (gs ++ (group xs (named sort c) ∷ [])) m)) s)
  runs_group_sort gs m xs b c d sort h = ap (λ y. run (cond y (Some (at (mode.group_sort (binder q f gs m) xs) s)) None)
      (tok (kind.name sort) c ∷ tok kind.closing d ∷ [])) (lt-ltb 0 (length xs) h)

  runs_names_sort : (m : ℕ) (xs : List Name) (b c d : Span) (sort : List ℕ) → 0 < length xs →
      run (Some (at (mode.in_names (binder q f [] m) xs) s)) (tok kind.colon b ∷ tok (kind.name sort) c ∷ tok kind.comma d ∷ [])
      ≡ start (governor (quantifier (binder q f (group xs (named sort c) ∷ []) m)) ∷ s)
  runs_names_sort m xs b c d sort h = ap (λ y. run (cond y (Some (at (mode.names_sort (binder q f [] m) xs) s)) None)
      (tok (kind.name sort) c ∷ tok kind.comma d ∷ [])) (lt-ltb 0 (length xs) h)

  runs_group : {o k : ℕ} {ts : List Lexeme} {g : Group} → IsGroup o k ts g → (gs : List Group) (m : ℕ) (st : State) → depth s + m ≡ o →
      ((c : Span) → step st (tok kind.opening c) ≡ within (depth s + m + 1) (at (mode.in_group (binder q f gs m) []) s)) →
      run (Some st) ts ≡ Some (at (mode.in_groups (binder q f (gs ++ (g ∷ [])) (m + k))) s)
  runs_group (grouped {k = k} {ts = ts} {xs = xs} a b c d sort ns p) gs m st e i =
      let low = names_below ns p in
      ap (λ w. run w (ts ++ (tok kind.colon b ∷ tok (kind.name sort) c ∷ tok kind.closing d ∷ []))) (i a
      ∙ within_yes (depth s + m + 1) _ (omega arith))
      ∙ run-append _ ts _ ∙ ap (λ w. run w (tok kind.colon b ∷ tok (kind.name sort) c ∷ tok kind.closing d ∷ []))
      (runs_group_names ns gs m (ap (λ w. w + 1) e))
      ∙ runs_group_sort gs (m + k) xs b c d sort p

  runs_groups : {o k : ℕ} {ts : List Lexeme} {gs : List Group} → IsGroups o k ts gs → depth s ≡ o →
      run (Some (at (mode.in_names (binder q f [] 0) []) s)) ts ≡ Some (at (mode.in_groups (binder q f gs k)) s)
  runs_groups (one {k = k} {g = g} r) d = runs_group r [] 0 (at (mode.in_names (binder q f [] 0) []) s) (add-zero (depth s)
      ∙ d) (λ c. refl) ∙ ap (λ j. Some (at (mode.in_groups (binder q f (g ∷ []) j)) s)) (zero-add k)
  runs_groups (then {k = k} {ts = ts} {us = us} {gs = gs} rs r) d =
      run-append _ ts us ∙ ap (λ w. run w us) (runs_groups rs d)
      ∙ runs_group r gs k (at (mode.in_groups (binder q f gs k)) s) (ap (λ w. w + k) d) (λ c. refl)

groups_below : {o k : ℕ} {ts : List Lexeme} {gs : List Group} → IsGroups o k ts gs → o < limit
groups_below (one (grouped a b c d sort ns p)) = let h = names_below ns p in omega arith
groups_below (then rs r) = groups_below rs

-- ---- expressions

runs_enclosed : {g : Next} {n a b : ℕ} {ts : List Lexeme} {t : Expression} {s : List Frame} (c d : Span) → depth s < limit
    → Arrives (parenthesis c.from ∷ s) ts n last a b t
    → Arrives s ((tok kind.opening c ∷ ts) ++ (tok kind.closing d ∷ [])) 0 g c.from d.to t
unfolding close
runs_enclosed {g = g} {ts = ts} {t = t} {s = s} c d l r = record {
  state = at (mode.after t c.from d.to) s;
  ran = ap (λ m. run m (ts ++ (tok kind.closing d ∷ []))) (within_yes (depth s) _ l) ∙ run-append _ ts _
      ∙ ap (λ m. next m (tok kind.closing d)) r.ran ∙ r.settles.0 d;
  settles = settles_after g t c.from d.to s;
}

runs_governed : {g : Next} {n a b : ℕ} {h : Head} {us : List Lexeme} {t : Expression} {s : List Frame} (ts : List Lexeme)
    → Ends g n (room h) → run (start s) ts ≡ start (governor h ∷ s) → Arrives (governor h ∷ s) us n g a b t
    → Arrives s (ts ++ us) (level h) g (begin h) b (governing h t b)
runs_governed {g = g} {n = n} {a = a} {b = b} {h = h} {us = us} {t = t} {s = s} ts e p r = record {
  state = r.state;
  ran = run-append _ ts us ∙ ap (λ m. run m us) p ∙ r.ran;
  settles = settles_head n h t a b s g r.state e r.settles;
}

runs_left : {n a b : ℕ} {op : Operator} {ts : List Lexeme} {t : Expression} {s : List Frame} (c : Span) → n ≤ left_at_most op
    → op_level op ≤ top s → depth s < limit → Arrives s ts n (before op) a b t
    → run (start s) (ts ++ (tok (kind.sign op) c ∷ [])) ≡ start (governor (operator op t a) ∷ s)
runs_left {n = n} {a = a} {b = b} {op = op} {ts = ts} {t = t} {s = s} c m h l r =
    run-append _ ts _ ∙ ap (λ w. next w (tok (kind.sign op) c)) r.ran ∙ r.settles c
    ∙ ap (λ y. place op y t a b s) (le-leb n (left_at_most op) m) ∙ place_yes op t a b s h l

runs_argument : {n to a b : ℕ} {us : List Lexeme} {x : Name} {ys : List Expression} {t : Expression} {s : List Frame}
    (ts : List Lexeme) (c d : Span) → depth s < limit → run (start s) ts ≡ Some (at (mode.applying x ys to) s)
    → Arrives (argument x ys ∷ s) us n last a b t
    → run (start s) (ts ++ ((tok kind.opening c ∷ us) ++ (tok kind.closing d ∷ []))) ≡ Some (at (mode.applying x (ys ++ (t ∷ [])) d.to) s)
unfolding close
runs_argument {us = us} {s = s} ts c d l p r =
    run-append _ ts _ ∙ ap (λ m. run m ((tok kind.opening c ∷ us) ++ (tok kind.closing d ∷ []))) p
    ∙ ap (λ m. run m (us ++ (tok kind.closing d ∷ []))) (within_yes (depth s) _ l) ∙ run-append _ us _
    ∙ ap (λ m. next m (tok kind.closing d)) r.ran ∙ r.settles.0 d

mutual
  pub runs : {n : ℕ} {g : Next} {o : ℕ} {ts : List Lexeme} {a b : ℕ} {t : Expression} → IsOperand n g o ts a b t → (s : List Frame)
      → depth s ≡ o → Fits n (top s) → Arrives s ts n g a b t
  runs (constant {g = g} v c) s d f = record {
    state = at (mode.after (made.constant v c) c.from c.to) s;
    ran = refl;
    settles =
        settles_after g (made.constant v c) c.from c.to s;
  }
  runs (applied {g = g} {to = to} {x = x} {ys = ys} p) s d f =
      record { state = at (mode.applying x ys to) s; ran = runs_application p s d; settles = settles_applying g x ys to s }
  runs (enclosed c d l e) s h f =
      runs_enclosed c d (rw h l) (runs e (parenthesis c.from ∷ s) (ap (λ k. k + 1) h) (inl (operand_most e)))
  runs (governed {ts = ts} {h = h} p f' e r) s d f =
      runs_governed ts e (runs_head p s d f) (runs r (governor h ∷ s) (ap (λ k. k + openings h) d) f')

  pub runs_application : {o : ℕ} {ts : List Lexeme} {x : Name} {ys : List Expression} {to : ℕ} → IsApplication o ts x ys to
      → (s : List Frame) → depth s ≡ o → run (start s) ts ≡ Some (at (mode.applying x ys to) s)
  runs_application (alone x c) s d = refl
  runs_application (to_name {ts = ts} y c p) s d = run-append _ ts _ ∙ ap (λ m. next m (tok (kind.name y) c)) (runs_application p s d)
  runs_application (to_expression {ts = ts} {x = x} {ys = ys} c d p l e) s h =
      runs_argument ts c d (rw h l) (runs_application p s h)
      (runs e (argument x ys ∷ s) (ap (λ k. k + 1) h) (inl (operand_most e)))

  pub runs_head : {h : Head} {o : ℕ} {ts : List Lexeme} → IsHead h o ts → (s : List Frame) → depth s ≡ o → Fits (level h) (top s)
      → run (start s) ts ≡ start (governor h ∷ s)
  runs_head (left {n = n} {op = op} c e m l) s d f =
      runs_left c m (fits_level op (top s) f) (rw d l)
      (runs e s d (inl (below_top n op (top s) m (fits_level op (top s) f))))
  runs_head (negating c l) s d f = ap (λ y. cond y (within (depth s) (at mode.want (governor (tilde c.from) ∷ s))) None)
      (le-leb tilde_level (top s) (fits_tilde (top s) f)) ∙ within_yes (depth s) _ (rw d l)
  runs_head (names {k = k} {ts = ts} {xs = xs} q a b c d sort ns p) s h f =
      ap (λ m. run m (ts ++ (tok kind.colon b ∷ tok (kind.name sort) c ∷ tok kind.comma d ∷ [])))
      (within_yes (depth s) _ (rw h (names_below ns p)))
      ∙ run-append _ ts _ ∙ ap (λ m. run m (tok kind.colon b ∷ tok (kind.name sort) c ∷ tok kind.comma d ∷ [])) (runs_names q a.from s ns h)
      ∙ runs_names_sort q a.from s k xs b c d sort p
  runs_head (groups {ts = ts} q a d gs) s h f =
      ap (λ m. run m (ts ++ (tok kind.comma d ∷ []))) (within_yes (depth s) _ (rw h (groups_below gs)))
      ∙ run-append _ ts _ ∙ ap (λ m. next m (tok kind.comma d)) (runs_groups q a.from s gs h)

-- ---- shapes

pub record Chains (s : List Frame) (ts : List Lexeme) (t : Shape) : Type 0 where
  pub state : State
  pub ran : run (start s) ts ≡ Some state
  pub finished : ends (Some state) ≡ chain t s
  pub closed : (c : Span) → step state (tok kind.closing c) ≡ None
  pub foreign : (k : Kind) (c : Span) → is_foreign k ≡ true → step state (tok k c) ≡ None

-- no parenthesis is open where a shape begins
close_none : (v : Expression) (b e : ℕ) (s : List Frame) → in_shape s ≡ true → close v b e s ≡ None
unfolding close
close_none v b e (outline ∷ s) h = refl
close_none v b e (link w ∷ s) h = refl
close_none v b e _ h = cc

whole_chain : (v : Expression) (b : ℕ) (s : List Frame) → in_shape s ≡ true → whole v b s ≡ chain (made.plain v) s
unfolding whole
whole_chain v b (outline ∷ s) h = refl
whole_chain v b (link w ∷ s) h = refl
whole_chain v b _ h = cc

pub top_outer : (s : List Frame) → in_shape s ≡ true → top s ≡ outer
top_outer (outline ∷ s) h = refl
top_outer (link w ∷ s) h = refl
top_outer _ h = cc

chains_word : (s : List Frame) (k : Kind) (c : Span) (t : Shape) → in_shape s ≡ true
    → step (at mode.want s) (tok k c) ≡ cond (in_shape s) (Some (at (mode.ended t) s)) None → Chains s (tok k c ∷ []) t
chains_word s k c t h e = record {
  state = at (mode.ended t) s;
  ran = e ∙ ap (λ y. cond y (Some (at (mode.ended t) s)) None) h;
  finished =
      refl;
  closed = λ c. refl;
  foreign = λ k c h. refl;
}

chains_arrow : {n a b : ℕ} {ts us : List Lexeme} {v : Expression} {t : Shape} {s : List Frame} (c : Span) → n ≤ outer → in_shape s ≡ true
    → depth s < limit → Arrives s ts n (before implication) a b v → Chains (link v ∷ s) us t
    → Chains s (ts ++ (tok (kind.sign implication) c ∷ us)) (made.arrow v t)
unfolding chain
chains_arrow {n = n} {a = a} {b = b} {ts = ts} {us = us} {v = v} {s = s} c m h l r q = record {
  state = q.state;
  ran = run-append _ ts _ ∙ ap (λ w. run w (tok (kind.sign implication) c ∷ us)) r.ran
      ∙ ap (λ w. run w us) (r.settles c ∙ ap (λ y. place implication y v a b s) (le-leb n outer m) ∙ place_link v a b s h l) ∙ q.ran;
  finished = q.finished;
  closed = q.closed;
  foreign = q.foreign;
}

chains_plain : (n a b : ℕ) (ts : List Lexeme) (v : Expression) (s : List Frame) → in_shape s ≡ true → Arrives s ts n last a b v
    → Chains s ts (made.plain v)
chains_plain n a b ts v s h r = record {
  state = r.state;
  ran = r.ran;
  finished = r.settles.1 ∙ whole_chain v b s h;
  closed =
      λ c. r.settles.0 c ∙ close_none v b c.to s h;
  foreign = r.settles.2;
}

pub chains : {o : ℕ} {ts : List Lexeme} {t : Shape} → IsShapeBehind o ts t → (s : List Frame) → in_shape s ≡ true → depth s ≡ o
    → Chains s ts t
chains (set c) s h d = chains_word s kind.set c (made.set c) h refl
chains (prop c) s h d = chains_word s kind.prop c (made.prop c) h refl
chains (arrow {t = v} c e m l r) s h d =
    chains_arrow c m h (rw d l) (runs e s d (inl (rw (top_outer s h) m))) (chains r (link v ∷ s) refl (ap (λ k. k + 1) d))
chains (plain {n = n} {from = a} {to = b} {ts = ts} {t = v} e f) s h d = chains_plain n a b ts v s h (runs e s d (rw (top_outer s h) f))
