-- What a pattern reads, and where it stops.
use Rattle.std.proofs.Common.{◌≡◌, Bool, true, false, List, [], ◌∷◌, ◌++◌, Option, Some, None, refl, sym, ap, ◌∙◌, subst, append_assoc}
use Rattle.std.proofs.Common.{Result, Ok, Err, if◌then◌else◌}
use Rattle.vern_lex.specs.declared.span.Span.{Span}
use Rattle.vern_grammar.specs.Trees.{Name}
use Rattle.vern_grammar.specs.Kinds.{Lexeme}
use Rattle.vern_grammar.specs.Grammar.{tok, span, named}
use Rattle.vern_grammar.proofs.Runs.{is_foreign}
use Rattle.vern_sentence.specs.Trees.{Sentence}
use Rattle.vern_sentence.specs.Sentences.{spelled}
use Rattle.vern_sentence.specs.Words.{Sign, sign_kind, is_sign}
use Rattle.vern_sentence.specs.Slots.{Slot, Tree, IsPart, Place, first_place, tree_at, cut, name_of}
use Rattle.base_core.specs.Answers.{and_then}
use Rattle.vern_sentence.specs.Patterns.{Pattern, done, fixed, name, slot, option, name_at, part_at, reading}
use Rattle.vern_sentence.proofs.Signs.{sign_is, name_is}
use Rattle.vern_sentence.proofs.Parts.{over, over-append, Ran, Ended}
use Rattle.vern_sentence.proofs.Machines.{part_ran, part_whole, part_ended, cut_over, CutAt, cut_is}

pub data Reads : Pattern → List Lexeme → Sentence → Type 0 where
  done_reads : {t : Sentence} → Reads (done t) [] t
  sign_reads : {s : Sign} {p : Pattern} {ks : List Lexeme} {t : Sentence} (c : Span) → Reads p ks t
      → Reads (fixed s p) (tok (sign_kind s) c ∷ ks) t
  name_reads : {f : Name → Pattern} {ks : List Lexeme} {t : Sentence} (x : Name) → Reads (f x) ks t → Reads (name f) (spelled x ∷ ks) t
  part_reads : {i : Slot} {f : Tree i → Pattern} {ks : List Lexeme} {t : Sentence} (us : List Lexeme) (x : Tree i) → IsPart i us x
      → Reads (f x) ks t → Reads (slot i f) (us ++ ks) t
  takes : {s : Sign} {p q : Pattern} {ks : List Lexeme} {t : Sentence} (c : Span) → Reads p ks t
      → Reads (option s p q) (tok (sign_kind s) c ∷ ks) t
  passes : {s : Sign} {p q : Pattern} {ks : List Lexeme} {t : Sentence} → Reads q ks t → Reads (option s p q) ks t

-- ---- a part that stands before a token that it can't have

-- what a cut gives
abbrev pub at_cut : (i : Slot) → (Tree i → Pattern) → Place i × List Lexeme → Result Sentence (List Lexeme)
at_cut i f w = and_then (part_at i w.1 (tree_at i w.0)) (λ z. reading (f z.0) z.1)

-- and what its tree does
abbrev pub at_tree : (i : Slot) → (Tree i → Pattern) → List Lexeme → Option (Tree i) → Result Sentence (List Lexeme)
at_tree i f rest m = and_then (part_at i rest m) (λ z. reading (f z.0) z.1)

ran_over : (i : Slot) (f : Tree i → Pattern) (us ks : List Lexeme) (k : Lexeme) (x : Tree i) → Ran i us x → is_foreign k.kind ≡ true
    → reading (slot i f) (us ++ (k ∷ ks)) ≡ reading (f x) (k ∷ ks)
ran_over i f us ks k x r h =
    ap (at_cut i f) (cut_over i us (first_place i) r.place k ks r.ran (r.foreign k.kind k.span h)) ∙ ap (at_tree i f (k ∷ ks)) r.tree

pub part_over : (i : Slot) (f : Tree i → Pattern) (us ks : List Lexeme) (k : Lexeme) (x : Tree i) → IsPart i us x → is_foreign k.kind ≡ true
    → reading (slot i f) (us ++ (k ∷ ks)) ≡ reading (f x) (k ∷ ks)
part_over i f us ks k x w h = ran_over i f us ks k x (part_ran i us x w) h

-- ---- what is read is of the pattern

-- a tree, and the tokens that are left
abbrev pub got : Sentence → Result Sentence (List Lexeme)
got t = Ok t

abbrev pub left_with : List Lexeme → Result Sentence (List Lexeme)
left_with rest = Err rest

read_out : (t u : Sentence) → got t ≡ got u → t ≡ u
read_out t u e = cc

-- what a test makes of the first token
abbrev pub at_sign : Pattern → Lexeme → List Lexeme → Bool → Result Sentence (List Lexeme)
at_sign p k ks b = and_then (if b then Ok ks else Err (k ∷ ks)) (λ us. reading p us)

abbrev pub at_choice : Pattern → Pattern → Lexeme → List Lexeme → Bool → Result Sentence (List Lexeme)
at_choice p q k ks b = if b then reading p ks else reading q (k ∷ ks)

abbrev pub at_name : (Name → Pattern) → Lexeme → List Lexeme → Option Name → Result Sentence (List Lexeme)
at_name f k ks m = and_then (name_at k ks m) (λ w. reading (f w.0) w.1)

module _ (k : Lexeme) (ks : List Lexeme) (t : Sentence) where
  sign_sound : (s : Sign) (p : Pattern) (b : Bool) → is_sign s k.kind ≡ b → (reading p ks ≡ Ok t → Reads p ks t) → at_sign p k ks b ≡ Ok t
      → Reads (fixed s p) (k ∷ ks) t
  sign_sound s p true h f e = subst (λ j. Reads (fixed s p) (j ∷ ks) t) (sym (sign_is s k h)) (sign_reads k.span (f e))
  sign_sound s p false h f e = cc

  choice_sound : (s : Sign) (p q : Pattern) (b : Bool) →
      is_sign s k.kind ≡ b → (reading p ks ≡ Ok t → Reads p ks t) → (reading q (k ∷ ks) ≡ Ok t → Reads q (k ∷ ks) t)
      → at_choice p q k ks b ≡ Ok t → Reads (option s p q) (k ∷ ks) t
  choice_sound s p q true h f g e = subst (λ j. Reads (option s p q) (j ∷ ks) t) (sym (sign_is s k h)) (takes k.span (f e))
  choice_sound s p q false h f g e = passes (g e)

  name_sound : (f : Name → Pattern) (m : Option Name) → name_of k ≡ m → ((x : Name) → reading (f x) ks ≡ Ok t → Reads (f x) ks t)
      → at_name f k ks m ≡ Ok t → Reads (name f) (k ∷ ks) t
  name_sound f None h g e = cc
  name_sound f (Some x) h g e = subst (λ j. Reads (name f) (j ∷ ks) t) (sym (name_is k x h)) (name_reads x (g x e))

part_sound : (i : Slot) {ts : List Lexeme} {w : Place i × List Lexeme} (f : Tree i → Pattern) (m : Option (Tree i)) (t : Sentence)
    → CutAt i (first_place i) ts w →
    tree_at i w.0 ≡ m → ((x : Tree i) → reading (f x) w.1 ≡ Ok t → Reads (f x) w.1 t) → at_tree i f w.1 m ≡ Ok t → Reads (slot i f) ts t
part_sound i f None t c h g e = cc
part_sound i {w = w} f (Some x) t c h g e = subst (λ l. Reads (slot i f) l t) (sym c.split)
    (part_reads c.front x (part_whole i c.front w.0 x c.ran h) (g x e))

pub sound : (p : Pattern) (ts : List Lexeme) (t : Sentence) → reading p ts ≡ Ok t → Reads p ts t
sound (done u) [] t e = subst (λ x. Reads (done u) [] x) (read_out u t e) done_reads
sound (done u) (k ∷ ks) t e = cc
sound (fixed s p) [] t e = cc
sound (fixed s p) (k ∷ ks) t e = sign_sound k ks t s p (is_sign s k.kind) refl (λ h. sound p ks t h) e
sound (name f) [] t e = cc
sound (name f) (k ∷ ks) t e = name_sound k ks t f (name_of k) refl (λ x h. sound (f x) ks t h) e
sound (slot i f) ts t e = part_sound i f (tree_at i (cut i (first_place i) ts).0) t
    (cut_is i ts (first_place i)) refl (λ x h. sound (f x) (cut i (first_place i) ts).1 t h) e
sound (option s p q) [] t e = passes (sound q [] t e)
sound (option s p q) (k ∷ ks) t e = choice_sound k ks t s p q (is_sign s k.kind) refl (λ h. sound p ks t h) (λ h. sound q (k ∷ ks) t h) e

-- ---- each pattern reads something

pub record Example (p : Pattern) : Type 0 where
  pub tokens : List Lexeme
  pub tree : Sentence
  pub reads : Reads p tokens tree

nowhere : Span
nowhere = span 0 0

any_name : Name
any_name = named (120 ∷ []) nowhere

pub part_example : (i : Slot) (f : Tree i → Pattern) → ((x : Tree i) → Example (f x)) → (us : List Lexeme) (s : Place i)
    → over i (Some (first_place i)) us ≡ Some s → Ended i s → (ls : List Lexeme) × (t : Sentence) × Reads (slot i f) (us ++ ls) t
part_example i f g us s e d =
    let x = g d.part in
    let w : IsPart i (us ++ d.tokens) d.part = part_whole i (us ++ d.tokens) d.place d.part
    (over-append i (Some (first_place i)) us d.tokens ∙ ap (λ m. over i m d.tokens) e ∙ d.ran) d.tree in (
      d.tokens ++ x.tokens,
      x.tree,
      subst (λ l. Reads (slot i f) l x.tree) (append_assoc us d.tokens x.tokens)
          (part_reads (us ++ d.tokens) d.part w x.reads),
    )

pub example : (p : Pattern) → Example p
example (done t) = record { tokens = []; tree = t; reads = done_reads }
example (fixed s p) = let x = example p in record {
  tokens = tok (sign_kind s) nowhere ∷ x.tokens;
  tree = x.tree;
  reads =
      sign_reads nowhere x.reads;
}
example (name f) = let x = example (f any_name) in
    record { tokens = spelled any_name ∷ x.tokens; tree = x.tree; reads = name_reads any_name x.reads }
example (slot i f) = let (ls, t, r) = part_example i f (λ x. example (f x)) [] (first_place i) refl
    (part_ended i [] (first_place i) refl) in record { tokens = ls; tree = t; reads = r }
example (option s p q) = let x = example q in record { tokens = x.tokens; tree = x.tree; reads = passes x.reads }
