-- How a definition's groups go on, piece by piece.
use Rattle.std.proofs.Common.{◌≡◌, Bool, true, false, cond, nat_lt, List, [], ◌∷◌, ◌++◌, length, Some, None, Ok, Err, refl, sym, ap, ◌∙◌}
use Rattle.vern_lex.specs.declared.span.Span.{Span}
use Rattle.vern_grammar.specs.Trees.{Name, Group}
use Rattle.vern_grammar.specs.Kinds.{Kind, Lexeme}
use Rattle.vern_grammar.specs.Kinds as kind
use Rattle.vern_grammar.specs.Grammar.{tok, group, named as named_at}
use Rattle.vern_sentence.specs.Words.{opening, colon}
use Rattle.vern_sentence.specs.Slots.{names, groups, GroupPlace, between, inside, before_sort, behind_sort, whole_groups, cut}
use Rattle.base_core.specs.Answers.{and_then}
use Rattle.vern_sentence.specs.Patterns.{sign_front, name_front, part_at}
use Rattle.vern_parse.specs.Pieces.{closes, some_names, a_group}
use Rattle.vern_parse.specs.Sources.{Wanted}

abbrev Left : Type 0
Left = Wanted (List Group × List Lexeme)

-- the groups that were read, with the tokens that are left, or these where a group isn't whole
abbrev pub grouped : GroupPlace × List Lexeme → Left
grouped (p, ks) = part_at groups ks (whole_groups p)

-- ---- between groups

pub groups_end : (gs : List Group) (ks : List Lexeme) → sign_front opening ks ≡ Err ks
    → ◌≡◌ {A = Left} (grouped (cut groups (between gs) ks)) (Ok (gs, ks))
groups_end gs [] e = refl
groups_end gs (k ∷ ks) e = by_kind k.kind k.span e
  where
    by_kind : (x : Kind) (c : Span) → sign_front opening (tok x c ∷ ks) ≡ Err (tok x c ∷ ks)
        → ◌≡◌ {A = Left} (grouped (cut groups (between gs) (tok x c ∷ ks))) (Ok (gs, tok x c ∷ ks))
    by_kind kind.opening c h = cc
    by_kind (kind.name x) c h = refl
    by_kind (kind.constant b) c h = refl
    by_kind (kind.sign op) c h = refl
    by_kind (kind.quantifier q) c h = refl
    by_kind kind.tilde c h = refl
    by_kind kind.closing c h = refl
    by_kind kind.colon c h = refl
    by_kind kind.comma c h = refl
    by_kind kind.set c h = refl
    by_kind kind.prop c h = refl
    by_kind (kind.other t) c h = refl

pub groups_open : (gs : List Group) (ks us : List Lexeme) → sign_front opening ks ≡ Ok us
    → ◌≡◌ {A = Left} (grouped (cut groups (between gs) ks)) (grouped (cut groups (inside gs []) us))
groups_open gs [] us e = cc
groups_open gs (k ∷ ks) us e = by_kind k.kind k.span e
  where
    by_kind : (x : Kind) (c : Span) → sign_front opening (tok x c ∷ ks) ≡ Ok us
        → ◌≡◌ {A = Left} (grouped (cut groups (between gs) (tok x c ∷ ks))) (grouped (cut groups (inside gs []) us))
    by_kind kind.opening c h = let q : ks ≡ us = cc in ap (λ vs. grouped (cut groups (inside gs []) vs)) q
    by_kind (kind.name x) c h = cc
    by_kind (kind.constant b) c h = cc
    by_kind (kind.sign op) c h = cc
    by_kind (kind.quantifier q) c h = cc
    by_kind kind.tilde c h = cc
    by_kind kind.closing c h = cc
    by_kind kind.colon c h = cc
    by_kind kind.comma c h = cc
    by_kind kind.set c h = cc
    by_kind kind.prop c h = cc
    by_kind (kind.other t) c h = cc

-- ---- in a group

-- the first token is no name
abbrev NoName : List Lexeme → Type 0
NoName ks = name_front ks ≡ Err ks

abbrev names_of : List Name → List Lexeme → List Name × List Lexeme
names_of xs ks = cut names xs ks

abbrev Named : List Name → List Lexeme → Type 0
Named xs ks = NoName (names_of xs ks).1

names_stop : (xs : List Name) (ks : List Lexeme) → Named xs ks
names_stop xs [] = refl
names_stop xs (k ∷ ks) = by_kind k.kind k.span (λ ys. names_stop ys ks)
  where
    by_kind : (x : Kind) (c : Span) → ((ys : List Name) → Named ys ks) → Named xs (tok x c ∷ ks)
    by_kind (kind.name x) c f = f (xs ++ (named_at x c ∷ []))
    by_kind kind.opening c f = refl
    by_kind (kind.constant b) c f = refl
    by_kind (kind.sign op) c f = refl
    by_kind (kind.quantifier q) c f = refl
    by_kind kind.tilde c f = refl
    by_kind kind.closing c f = refl
    by_kind kind.colon c f = refl
    by_kind kind.comma c f = refl
    by_kind kind.set c f = refl
    by_kind kind.prop c f = refl
    by_kind (kind.other t) c f = refl

abbrev Inside : List Group → List Name → List Lexeme → Type 0
Inside gs xs ks = ◌≡◌ {A = Left} (grouped (cut groups (inside gs xs) ks))
    (grouped (cut groups (inside gs (names_of xs ks).0) (names_of xs ks).1))

names_inside : (gs : List Group) (xs : List Name) (ks : List Lexeme) → Inside gs xs ks
names_inside gs xs [] = refl
names_inside gs xs (k ∷ ks) = by_kind k.kind k.span (λ ys. names_inside gs ys ks)
  where
    by_kind : (x : Kind) (c : Span) → ((ys : List Name) → Inside gs ys ks) → Inside gs xs (tok x c ∷ ks)
    by_kind (kind.name x) c f = f (xs ++ (named_at x c ∷ []))
    by_kind kind.opening c f = refl
    by_kind (kind.constant b) c f = refl
    by_kind (kind.sign op) c f = refl
    by_kind (kind.quantifier q) c f = refl
    by_kind kind.tilde c f = refl
    by_kind kind.closing c f = refl
    by_kind kind.colon c f = refl
    by_kind kind.comma c f = refl
    by_kind kind.set c f = refl
    by_kind kind.prop c f = refl
    by_kind (kind.other t) c f = refl

-- behind the names
abbrev some : List Name → List Lexeme → Wanted (List Name × List Lexeme)
some xs ks = cond (nat_lt 0 (length xs)) (Ok (xs, ks)) (Err ks)

abbrev behind_names : List Group → Wanted (List Name × List Lexeme) → Left
behind_names gs m = and_then m (λ r. and_then (sign_front colon r.1) (λ us. grouped (cut groups (before_sort gs r.0) us)))

inside_goes : (gs : List Group) (xs : List Name) (ks : List Lexeme) → NoName ks
    → ◌≡◌ {A = Left} (grouped (cut groups (inside gs xs) ks)) (behind_names gs (some xs ks))
inside_goes gs xs [] n = by_some (nat_lt 0 (length xs))
  where
    by_some : (b : Bool) → ◌≡◌ {A = Left} (Err []) (behind_names gs (cond b (Ok (xs, [])) (Err [])))
    by_some true = refl
    by_some false = refl
inside_goes gs xs (k ∷ ks) n = by_kind k.kind k.span n
  where
    at_colon : (c : Span) (b : Bool) →
        ◌≡◌ {A = Left} (grouped (elim (cond b (Some (before_sort gs xs)) None)
        [ None ↦ (inside gs xs, tok kind.colon c ∷ ks) | Some z ↦ cut groups z ks ]))
        (behind_names gs (cond b (Ok (xs, tok kind.colon c ∷ ks)) (Err (tok kind.colon c ∷ ks))))
    at_colon c true = refl
    at_colon c false = refl

    elsewhere : (us : List Lexeme) (b : Bool) → sign_front colon us ≡ Err us
        → ◌≡◌ {A = Left} (Err us) (behind_names gs (cond b (Ok (xs, us)) (Err us)))
    elsewhere us true e = sym (ap (λ m. and_then m (λ vs. grouped (cut groups (before_sort gs xs) vs))) e)
    elsewhere us false e = refl

    by_kind : (x : Kind) (c : Span) → NoName (tok x c ∷ ks)
        → ◌≡◌ {A = Left} (grouped (cut groups (inside gs xs) (tok x c ∷ ks))) (behind_names gs (some xs (tok x c ∷ ks)))
    by_kind (kind.name x) c h = cc
    by_kind kind.colon c h = at_colon c (nat_lt 0 (length xs))
    by_kind kind.opening c h = elsewhere (tok kind.opening c ∷ ks) (nat_lt 0 (length xs)) refl
    by_kind (kind.constant v) c h = elsewhere (tok (kind.constant v) c ∷ ks) (nat_lt 0 (length xs)) refl
    by_kind (kind.sign op) c h = elsewhere (tok (kind.sign op) c ∷ ks) (nat_lt 0 (length xs)) refl
    by_kind (kind.quantifier q) c h = elsewhere (tok (kind.quantifier q) c ∷ ks) (nat_lt 0 (length xs)) refl
    by_kind kind.tilde c h = elsewhere (tok kind.tilde c ∷ ks) (nat_lt 0 (length xs)) refl
    by_kind kind.closing c h = elsewhere (tok kind.closing c ∷ ks) (nat_lt 0 (length xs)) refl
    by_kind kind.comma c h = elsewhere (tok kind.comma c ∷ ks) (nat_lt 0 (length xs)) refl
    by_kind kind.set c h = elsewhere (tok kind.set c ∷ ks) (nat_lt 0 (length xs)) refl
    by_kind kind.prop c h = elsewhere (tok kind.prop c ∷ ks) (nat_lt 0 (length xs)) refl
    by_kind (kind.other t) c h = elsewhere (tok (kind.other t) c ∷ ks) (nat_lt 0 (length xs)) refl

sort_goes : (gs : List Group) (xs : List Name) (ks : List Lexeme)
    → ◌≡◌ {A = Left} (grouped (cut groups (before_sort gs xs) ks))
    (and_then (name_front ks) (λ s. grouped (cut groups (behind_sort gs xs s.0) s.1)))
sort_goes gs xs [] = refl
sort_goes gs xs (k ∷ ks) = by_kind k.kind k.span
  where
    by_kind : (x : Kind) (c : Span) → ◌≡◌ {A = Left} (grouped (cut groups (before_sort gs xs) (tok x c ∷ ks)))
        (and_then (name_front (tok x c ∷ ks)) (λ s. grouped (cut groups (behind_sort gs xs s.0) s.1)))
    by_kind (kind.name x) c = refl
    by_kind kind.opening c = refl
    by_kind (kind.constant b) c = refl
    by_kind (kind.sign op) c = refl
    by_kind (kind.quantifier q) c = refl
    by_kind kind.tilde c = refl
    by_kind kind.closing c = refl
    by_kind kind.colon c = refl
    by_kind kind.comma c = refl
    by_kind kind.set c = refl
    by_kind kind.prop c = refl
    by_kind (kind.other t) c = refl

close_goes : (gs : List Group) (xs : List Name) (s : Name) (ks : List Lexeme)
    → ◌≡◌ {A = Left} (grouped (cut groups (behind_sort gs xs s) ks))
    (and_then (closes ks) (λ us. grouped (cut groups (between (gs ++ (group xs s ∷ []))) us)))
close_goes gs xs s [] = refl
close_goes gs xs s (k ∷ ks) = by_kind k.kind k.span
  where
    by_kind : (x : Kind) (c : Span) → ◌≡◌ {A = Left} (grouped (cut groups (behind_sort gs xs s) (tok x c ∷ ks)))
        (and_then (closes (tok x c ∷ ks)) (λ us. grouped (cut groups (between (gs ++ (group xs s ∷ []))) us)))
    by_kind (kind.name x) c = refl
    by_kind kind.opening c = refl
    by_kind (kind.constant b) c = refl
    by_kind (kind.sign op) c = refl
    by_kind (kind.quantifier q) c = refl
    by_kind kind.tilde c = refl
    by_kind kind.closing c = refl
    by_kind kind.colon c = refl
    by_kind kind.comma c = refl
    by_kind kind.set c = refl
    by_kind kind.prop c = refl
    by_kind (kind.other t) c = refl

-- ---- a whole group

abbrev on_from : List Group × List Lexeme → Left
on_from r = grouped (cut groups (between r.0) r.1)

module _ (gs : List Group) where
  by_close : (xs : List Name) (s : Name) (m : Wanted (List Lexeme)) →
      ◌≡◌ {A = Left} (and_then m (λ us. grouped (cut groups (between (gs ++ (group xs s ∷ []))) us)))
      (and_then (and_then {Y = List Group × List Lexeme} m (λ vs. Ok (gs ++ (group xs s ∷ []), vs))) on_from)
  by_close xs s (Ok us) = refl
  by_close xs s (Err us) = refl

  by_sort : (xs : List Name) (m : Wanted (Name × List Lexeme)) →
      ◌≡◌ {A = Left} (and_then m (λ s. grouped (cut groups (behind_sort gs xs s.0) s.1)))
      (and_then (and_then {Y = List Group × List Lexeme} m
      (λ s. and_then (closes s.1) (λ vs. Ok (gs ++ (group xs s.0 ∷ []), vs)))) on_from)
  by_sort xs (Ok (s, us)) = close_goes gs xs s us ∙ by_close xs s (closes us)
  by_sort xs (Err us) = refl

  by_colon : (xs : List Name) (m : Wanted (List Lexeme)) →
      ◌≡◌ {A = Left} (and_then m (λ us. grouped (cut groups (before_sort gs xs) us)))
      (and_then (and_then {Y = List Group × List Lexeme} m
      (λ us. and_then (name_front us) (λ s. and_then (closes s.1) (λ vs. Ok (gs ++ (group xs s.0 ∷ []), vs))))) on_from)
  by_colon xs (Ok us) = sort_goes gs xs us ∙ by_sort xs (name_front us)
  by_colon xs (Err us) = refl

  by_names : (m : Wanted (List Name × List Lexeme)) →
      ◌≡◌ {A = Left} (behind_names gs m)
      (and_then (and_then {Y = List Group × List Lexeme} m
      (λ r. and_then (sign_front colon r.1) (λ us. and_then (name_front us)
      (λ s. and_then (closes s.1) (λ vs. Ok (gs ++ (group r.0 s.0 ∷ []), vs)))))) on_from)
  by_names (Ok (xs, us)) = by_colon xs (sign_front colon us)
  by_names (Err us) = refl

pub group_goes : (gs : List Group) (ks : List Lexeme)
    → ◌≡◌ {A = Left} (grouped (cut groups (inside gs []) ks)) (and_then (a_group gs ks) on_from)
group_goes gs ks = names_inside gs [] ks ∙ inside_goes gs (names_of [] ks).0 (names_of [] ks).1 (names_stop [] ks)
    ∙ by_names gs (some_names ks)

pub ruleset laws = (groups_end, groups_open, group_goes)
