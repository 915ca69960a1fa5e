-- The machines of names and of groups.
use Rattle.std.proofs.Common.{◌≡◌, true, cond, nat_lt, List, [], ◌∷◌, ◌++◌, map, length, Option, Some, None, refl, sym, ap, ◌∙◌, subst}
use Rattle.std.proofs.Common.{arith, append_assoc, append-nil, lt-ltb, length-append}
use Rattle.std.proofs.lemmas.List.{map-append}
use Rattle.vern_lex.specs.declared.span.Span.{Span}
use Rattle.vern_grammar.specs.Trees.{Name, Group}
use Rattle.vern_grammar.specs.Kinds.{Kind, Lexeme}
use Rattle.vern_grammar.specs.Kinds as kind
use Rattle.vern_grammar.specs.Grammar.{tok, span, named, group}
use Rattle.vern_grammar.proofs.Runs.{is_foreign}
use Rattle.vern_sentence.specs.Sentences.{spelled, AreGroups, none, more}
use Rattle.vern_sentence.specs.Slots.{names, groups, GroupPlace, between, inside, before_sort, behind_sort, on_group, whole_groups, name_in}
use Rattle.vern_sentence.specs.Slots.{name_of, one_more}
use Rattle.vern_sentence.proofs.Signs.{some_out, name_is}
use Rattle.vern_sentence.proofs.Parts.{over, over-append, over-None, split_over, Ran, Ended}

-- ---- names

names_over : (xs ys : List Name) → over names (Some ys) (map spelled xs) ≡ Some (ys ++ xs)
names_over [] ys = ap Some (sym (append-nil ys))
names_over (x ∷ xs) ys = names_over xs (ys ++ (x ∷ [])) ∙ ap Some (append_assoc ys (x ∷ []) xs)

names_foreign : (xs : List Name) (k : Kind) (c : Span) → is_foreign k ≡ true → one_more xs (name_in k (tok k c)) ≡ None
names_foreign xs (kind.name x) c e = cc
names_foreign xs _ c e = refl

pub names_ran : (ts : List Lexeme) (xs : List Name) → ts ≡ map spelled xs → Ran names ts xs
names_ran ts xs e = record { place = xs; ran = ap (over names (Some [])) e ∙ names_over xs []; tree = refl; foreign = names_foreign xs }

none_some : {A : Type 0} (a : A) → None ≡ Some a → ⊥
none_some a e = cc

names_read : (ts : List Lexeme) (ys s : List Name) → over names (Some ys) ts ≡ Some s
    → (zs : List Name) × (s ≡ ys ++ zs) × (ts ≡ map spelled zs)
names_read [] ys s e = ([], sym (some_out ys s e) ∙ sym (append-nil ys), refl)
names_read (t ∷ ts) ys s e = by_name (name_of t) refl e (λ x p. names_read ts (ys ++ (x ∷ [])) s p)
  where
    by_name : (m : Option Name) → name_of t ≡ m → over names (one_more ys m) ts ≡ Some s →
        ((x : Name) → over names (Some (ys ++ (x ∷ []))) ts ≡ Some s
        → (zs : List Name) × (s ≡ (ys ++ (x ∷ [])) ++ zs) × (ts ≡ map spelled zs)) →
        (zs : List Name) × (s ≡ ys ++ zs) × (t ∷ ts ≡ map spelled zs)
    by_name None h p f = absurd (none_some s (sym (over-None names ts) ∙ p))
    by_name (Some x) h p f =
        let (zs, a, b) = f x p in
        (x ∷ zs, a ∙ append_assoc ys (x ∷ []) zs, ap (λ k. k ∷ ts) (name_is t x h) ∙ ap (λ l. spelled x ∷ l) b)

pub names_whole : (ts : List Lexeme) (s xs : List Name) → over names (Some []) ts ≡ Some s → Some s ≡ Some xs → ts ≡ map spelled xs
names_whole ts s xs e q = let (zs, a, b) = names_read ts [] s e in b ∙ ap (map spelled) (sym a ∙ some_out s xs q)

pub names_ended : (s : List Name) → Ended names s
names_ended s = record { tokens = []; place = s; part = s; ran = refl; tree = refl }

-- ---- groups

inside_over : (gs : List Group) (xs ys : List Name) → over groups (Some (inside gs ys)) (map spelled xs) ≡ Some (inside gs (ys ++ xs))
inside_over gs [] ys = ap (λ l. Some (inside gs l)) (sym (append-nil ys))
inside_over gs (x ∷ xs) ys = inside_over gs xs (ys ++ (x ∷ [])) ∙ ap (λ l. Some (inside gs l)) (append_assoc ys (x ∷ []) xs)

-- behind a name at least, `:`, the sort and `)`
sort_over : (gs : List Group) (x : Name) (xs : List Name) (sort : Name) (b c : Span) →
    over groups (Some (inside gs (x ∷ xs))) (tok kind.colon b ∷ spelled sort ∷ tok kind.closing c ∷ [])
    ≡ Some (between (gs ++ (group (x ∷ xs) sort ∷ [])))
sort_over gs x xs sort b c = ap (λ y. over groups (cond y (Some (before_sort gs (x ∷ xs))) None) (spelled sort ∷ tok kind.closing c ∷ []))
    (lt-ltb 0 (length (x ∷ xs)) (omega arith))

groups_over : {ts : List Lexeme} {gs : List Group} → AreGroups ts gs → over groups (Some (between [])) ts ≡ Some (between gs)
groups_over none = refl
groups_over (more {ts = ts} {gs = gs} x xs sort a b c w) =
    over-append groups _ ts _ ∙ ap (λ m. over groups m
    (tok kind.opening a ∷ (map spelled (x ∷ xs) ++ (tok kind.colon b ∷ spelled sort ∷ tok kind.closing c ∷ [])))) (groups_over w)
    ∙ over-append groups (Some (inside gs [])) (map spelled (x ∷ xs)) _
    ∙ ap (λ m. over groups m (tok kind.colon b ∷ spelled sort ∷ tok kind.closing c ∷ [])) (inside_over gs (x ∷ xs) [])
    ∙ sort_over gs x xs sort b c

groups_foreign : (gs : List Group) (k : Kind) (c : Span) → is_foreign k ≡ true → on_group (between gs) (tok k c) k ≡ None
groups_foreign gs kind.opening c e = cc
groups_foreign gs _ c e = refl

pub groups_ran : (ts : List Lexeme) (gs : List Group) → AreGroups ts gs → Ran groups ts gs
groups_ran ts gs w = record { place = between gs; ran = groups_over w; tree = refl; foreign = groups_foreign gs }

-- what a place has read
data HasRead : GroupPlace → List Lexeme → Type 0 where
  read_between : {ts : List Lexeme} {gs : List Group} → AreGroups ts gs → HasRead (between gs) ts
  read_names : {ts : List Lexeme} {gs : List Group} (xs : List Name) (a : Span) → AreGroups ts gs
      → HasRead (inside gs xs) (ts ++ (tok kind.opening a ∷ map spelled xs))
  read_colon : {ts : List Lexeme} {gs : List Group} (x : Name) (xs : List Name) (a b : Span) → AreGroups ts gs →
      HasRead (before_sort gs (x ∷ xs)) (ts ++ (tok kind.opening a ∷ (map spelled (x ∷ xs) ++ (tok kind.colon b ∷ []))))
  read_sort : {ts : List Lexeme} {gs : List Group} (x : Name) (xs : List Name) (sort : Name) (a b : Span) → AreGroups ts gs →
      HasRead (behind_sort gs (x ∷ xs) sort) (ts ++ (tok kind.opening a ∷ (map spelled (x ∷ xs) ++ (tok kind.colon b ∷ spelled sort ∷ []))))

moved : {x to : GroupPlace} {ts : List Lexeme} → Some x ≡ Some to → HasRead x ts → HasRead to ts
moved {x = x} {to = to} {ts = ts} e h = subst (λ y. HasRead y ts) (some_out x to e) h

regrouped : {to : GroupPlace} {ts us : List Lexeme} → ts ≡ us → HasRead to ts → HasRead to us
regrouped {to = to} e h = subst (λ l. HasRead to l) e h

-- what stands behind the `(` at a, after whole groups
module _ {ts : List Lexeme} {gs : List Group} (a : Span) (to : GroupPlace) (w : AreGroups ts gs) where
  one_name : (xs : List Name) (x : Name) → Some (inside gs (xs ++ (x ∷ []))) ≡ Some to →
      HasRead to ((ts ++ (tok kind.opening a ∷ map spelled xs)) ++ (spelled x ∷ []))
  one_name xs x e =
      regrouped (ap (λ l. ts ++ (tok kind.opening a ∷ l)) (map-append spelled xs (x ∷ []))
      ∙ sym (append_assoc ts (tok kind.opening a ∷ map spelled xs) (spelled x ∷ []))) (moved e (read_names (xs ++ (x ∷ [])) a w))

  one_colon : (xs : List Name) (b : Span) → cond (nat_lt 0 (length xs)) (Some (before_sort gs xs)) None ≡ Some to →
      HasRead to ((ts ++ (tok kind.opening a ∷ map spelled xs)) ++ (tok kind.colon b ∷ []))
  one_colon [] b e = cc
  one_colon (x ∷ xs) b e =
      regrouped (sym (append_assoc ts (tok kind.opening a ∷ map spelled (x ∷ xs)) (tok kind.colon b ∷ [])))
      (moved (ap (λ y. cond y (Some (before_sort gs (x ∷ xs))) None) (sym (lt-ltb 0 (length (x ∷ xs)) (omega arith)))
      ∙ e) (read_colon x xs a b w))

  one_sort : (x : Name) (xs : List Name) (b : Span) (sort : Name) → Some (behind_sort gs (x ∷ xs) sort) ≡ Some to →
      HasRead to ((ts ++ (tok kind.opening a ∷ (map spelled (x ∷ xs) ++ (tok kind.colon b ∷ [])))) ++ (spelled sort ∷ []))
  one_sort x xs b sort e =
      regrouped (ap (λ l. ts ++ (tok kind.opening a ∷ l))
      (sym (append_assoc (map spelled (x ∷ xs)) (tok kind.colon b ∷ []) (spelled sort ∷ [])))
      ∙ sym (append_assoc ts (tok kind.opening a ∷ (map spelled (x ∷ xs) ++ (tok kind.colon b ∷ []))) (spelled sort ∷ [])))
      (moved e (read_sort x xs sort a b w))

  one_group : (x : Name) (xs : List Name) (b : Span) (sort : Name) (c : Span)
      → Some (between (gs ++ (group (x ∷ xs) sort ∷ []))) ≡ Some to →
      HasRead to ((ts ++ (tok kind.opening a ∷ (map spelled (x ∷ xs) ++ (tok kind.colon b ∷ spelled sort ∷ [])))) ++
      (tok kind.closing c ∷ []))
  one_group x xs b sort c e =
      regrouped (ap (λ l. ts ++ (tok kind.opening a ∷ l))
      (sym (append_assoc (map spelled (x ∷ xs)) (tok kind.colon b ∷ spelled sort ∷ []) (tok kind.closing c ∷ [])))
      ∙ sym (append_assoc ts (tok kind.opening a ∷ (map spelled (x ∷ xs) ++ (tok kind.colon b ∷ spelled sort ∷ [])))
      (tok kind.closing c ∷ [])))
      (moved e (read_between (more x xs sort a b c w)))

group_step : {s : GroupPlace} {ts : List Lexeme} → HasRead s ts → (k : Kind) (c : Span) (to : GroupPlace) → on_group s (tok k c) k ≡ Some to
    → HasRead to (ts ++ (tok k c ∷ []))
group_step (read_between w) kind.opening c to e = moved e (read_names [] c w)
group_step (read_between w) _ c to e = cc
group_step (read_names xs a w) (kind.name x) c to e = one_name a to w xs (named x c) e
group_step (read_names xs a w) kind.colon c to e = one_colon a to w xs c e
group_step (read_names xs a w) _ c to e = cc
group_step (read_colon x xs a b w) (kind.name y) c to e = one_sort a to w x xs b (named y c) e
group_step (read_colon x xs a b w) _ c to e = cc
group_step (read_sort x xs sort a b w) kind.closing c to e = one_group a to w x xs b sort c e
group_step (read_sort x xs sort a b w) _ c to e = cc

group_reads : (us : List Lexeme) {s : GroupPlace} {ts : List Lexeme} → HasRead s ts → (to : GroupPlace) → over groups (Some s) us ≡ Some to
    → HasRead to (ts ++ us)
group_reads [] {s = s} {ts = ts} h to p = regrouped (sym (append-nil ts)) (moved p h)
group_reads (u ∷ us) {s = s} {ts = ts} h to p =
    split_over groups (HasRead to (ts ++ (u ∷ us))) (on_group s u u.kind) us to
    (λ mid e q. regrouped (append_assoc ts (u ∷ []) us) (group_reads us (group_step h u.kind u.span mid e) to q)) p

groups_of : {s : GroupPlace} {ts : List Lexeme} → HasRead s ts → (gs : List Group) → whole_groups s ≡ Some gs → AreGroups ts gs
groups_of {ts = ts} (read_between {gs = hs} w) gs e = subst (λ l. AreGroups ts l) (some_out hs gs e) w
groups_of _ gs e = cc

pub groups_whole : (ts : List Lexeme) (s : GroupPlace) (gs : List Group) → over groups (Some (between [])) ts ≡ Some s
    → whole_groups s ≡ Some gs → AreGroups ts gs
groups_whole ts s gs e q = groups_of (group_reads ts (read_between none) s e) gs q

-- the tokens that finish a group have no place
any_name : Name
any_name = named (120 ∷ []) (span 0 0)

not_empty : (xs : List Name) (x : Name) → nat_lt 0 (length (xs ++ (x ∷ []))) ≡ true
not_empty xs x = lt-ltb 0 (length (xs ++ (x ∷ []))) (omega (arith, length-append xs (x ∷ [])))

pub groups_ended : (s : GroupPlace) → Ended groups s
groups_ended (between gs) = record { tokens = []; place = between gs; part = gs; ran = refl; tree = refl }
groups_ended (inside gs xs) = record {
  tokens = spelled any_name ∷ tok kind.colon (span 0 0) ∷ spelled any_name ∷ tok kind.closing (span 0 0) ∷ [];
  place = between (gs ++ (group (xs ++ (any_name ∷ [])) any_name ∷ []));
  part = gs ++ (group (xs ++ (any_name ∷ [])) any_name ∷ []);
  ran = ap (λ y. over groups (cond y (Some (before_sort gs (xs ++ (any_name ∷ [])))) None)
      (spelled any_name ∷ tok kind.closing (span 0 0) ∷ [])) (not_empty xs any_name);
  tree = refl;
}
groups_ended (before_sort gs xs) = record {
  tokens = spelled any_name ∷ tok kind.closing (span 0 0) ∷ [];
  place =
      between (gs ++ (group xs any_name ∷ []));
  part = gs ++ (group xs any_name ∷ []);
  ran = refl;
  tree = refl;
}
groups_ended (behind_sort gs xs sort) = record {
  tokens = tok kind.closing (span 0 0) ∷ [];
  place =
      between (gs ++ (group xs sort ∷ []));
  part = gs ++ (group xs sort ∷ []);
  ran = refl;
  tree = refl;
}
