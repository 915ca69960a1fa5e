-- Where a pattern stops, the tokens before begin something of it, and the next one is refused whatever follows.
use Rattle.std.proofs.Common.{◌≡◌, Bool, true, false, List, [], ◌∷◌, ◌++◌, Option, Some, None, refl, sym, ap, ◌∙◌, subst, append_assoc, Err}
use Rattle.vern_grammar.specs.Trees.{Name}
use Rattle.vern_grammar.specs.Kinds.{Lexeme}
use Rattle.vern_sentence.specs.Trees.{Sentence}
use Rattle.vern_sentence.specs.Words.{Sign, is_sign}
use Rattle.vern_sentence.specs.Slots.{Slot, Tree, Place, first_place, tree_at, cut, name_of}
use Rattle.vern_sentence.specs.Patterns.{Pattern, done, fixed, name, slot, option, reading}
use Rattle.vern_sentence.proofs.Signs.{sign_is, name_is}
use Rattle.vern_sentence.proofs.Machines.{part_whole, part_ended, cut_over, CutAt, cut_is}
use Rattle.vern_sentence.proofs.Readings.{Reads, sign_reads, name_reads, part_reads, takes, passes, left_with, at_cut, at_tree, at_sign}
use Rattle.vern_sentence.proofs.Readings.{at_choice, at_name, example, part_example}

pub record Stuck (p : Pattern) (ts rest : List Lexeme) : Type 0 where
  pub front : List Lexeme
  pub split : ts ≡ front ++ rest
  pub words : List Lexeme
  pub tree : Sentence
  pub begun : Reads p (front ++ words) tree
  pub stays : (k : Lexeme) (ks ls : List Lexeme) → rest ≡ k ∷ ks → reading p (front ++ (k ∷ ls)) ≡ Err (k ∷ ls)

stuck_out : (a b : List Lexeme) → left_with a ≡ Err b → a ≡ b
stuck_out a b e = cc

same_head : (k j : Lexeme) (ks js : List Lexeme) → k ∷ ks ≡ j ∷ js → k ≡ j
same_head k j ks js e = cc

no_token : {A : Type 0} (front : List Lexeme) (k : Lexeme) (ks : List Lexeme) → [] ≡ front ++ (k ∷ ks) → A
no_token [] k ks e = cc
no_token (f ∷ front) k ks e = cc

-- ---- at the first token

here : (p : Pattern) (ts rest : List Lexeme) → left_with ts ≡ Err rest
    → ((k : Lexeme) (ks ls : List Lexeme) → ts ≡ k ∷ ks → reading p (k ∷ ls) ≡ Err (k ∷ ls)) → Stuck p ts rest
here p ts rest e f =
    let x = example p in
    let q = stuck_out ts rest e in
    record { front = []; split = q; words = x.tokens; tree = x.tree; begun = x.reads; stays = λ k ks ls h. f k ks ls (q ∙ h) }

same_test : (s : Sign) (k j : Lexeme) (ks js : List Lexeme) → is_sign s k.kind ≡ false → k ∷ ks ≡ j ∷ js → is_sign s j.kind ≡ false
same_test s k j ks js h e = subst (λ i. is_sign s i.kind ≡ false) (same_head k j ks js e) h

same_name : (k j : Lexeme) (ks js : List Lexeme) → name_of k ≡ None → k ∷ ks ≡ j ∷ js → name_of j ≡ None
same_name k j ks js h e = subst (λ i. name_of i ≡ None) (same_head k j ks js e) h

-- ---- further behind

sign_more : (s : Sign) (p : Pattern) (k : Lexeme) (ks rest : List Lexeme) → is_sign s k.kind ≡ true → Stuck p ks rest
    → Stuck (fixed s p) (k ∷ ks) rest
sign_more s p k ks rest h x = record {
  front = k ∷ x.front;
  split = ap (λ l. k ∷ l) x.split;
  words = x.words;
  tree = x.tree;
  begun = subst (λ j. Reads (fixed s p) (j ∷ (x.front ++ x.words)) x.tree) (sym (sign_is s k h)) (sign_reads k.span x.begun);
  stays = λ j js ls e. ap (at_sign p k (x.front ++ (j ∷ ls))) h ∙ x.stays j js ls e;
}

name_more : (f : Name → Pattern) (k : Lexeme) (ks rest : List Lexeme) (x : Name) → name_of k ≡ Some x → Stuck (f x) ks rest
    → Stuck (name f) (k ∷ ks) rest
name_more f k ks rest x h y = record {
  front = k ∷ y.front;
  split = ap (λ l. k ∷ l) y.split;
  words = y.words;
  tree = y.tree;
  begun = subst (λ j. Reads (name f) (j ∷ (y.front ++ y.words)) y.tree) (sym (name_is k x h)) (name_reads x y.begun);
  stays = λ j js ls e. ap (at_name f k (y.front ++ (j ∷ ls))) h ∙ y.stays j js ls e;
}

module _ (s : Sign) (p q : Pattern) (k : Lexeme) (ks : List Lexeme) where
  takes_more : (rest : List Lexeme) → is_sign s k.kind ≡ true → Stuck p ks rest → Stuck (option s p q) (k ∷ ks) rest
  takes_more rest h x = record {
    front = k ∷ x.front;
    split = ap (λ l. k ∷ l) x.split;
    words = x.words;
    tree = x.tree;
    begun = subst (λ j. Reads (option s p q) (j ∷ (x.front ++ x.words)) x.tree) (sym (sign_is s k h)) (takes k.span x.begun);
    stays = λ j js ls e. ap (at_choice p q k (x.front ++ (j ∷ ls))) h ∙ x.stays j js ls e;
  }

  passes_first : (front : List Lexeme) (j : Lexeme) (js ls : List Lexeme) → is_sign s k.kind ≡ false → k ∷ ks ≡ front ++ (j ∷ js) →
      reading (option s p q) (front ++ (j ∷ ls)) ≡ reading q (front ++ (j ∷ ls))
  passes_first [] j js ls h e = ap (at_choice p q j ls) (same_test s k j ks js h e)
  passes_first (i ∷ front) j js ls h e = ap (at_choice p q i (front ++ (j ∷ ls))) (same_test s k i ks (front ++ (j ∷ js)) h e)

  passes_more : (rest : List Lexeme) → is_sign s k.kind ≡ false → Stuck q (k ∷ ks) rest → Stuck (option s p q) (k ∷ ks) rest
  passes_more rest h x = record {
    front = x.front;
    split = x.split;
    words = x.words;
    tree = x.tree;
    begun = passes x.begun;
    stays = λ j js ls e. passes_first x.front j js ls h (x.split ∙ ap (λ l. x.front ++ l) e) ∙ x.stays j js ls e;
  }

passes_end : (s : Sign) (p q : Pattern) (rest : List Lexeme) → Stuck q [] rest → Stuck (option s p q) [] rest
passes_end s p q rest x = record {
  front = x.front;
  split = x.split;
  words = x.words;
  tree = x.tree;
  begun = passes x.begun;
  stays = λ j js ls e. no_token x.front j js (x.split ∙ ap (λ l. x.front ++ l) e);
}

-- ---- in a part, and behind it

module _ (i : Slot) (f : Tree i → Pattern) (ts rest : List Lexeme) {w : Place i × List Lexeme} (c : CutAt i (first_place i) ts w) where
  in_part : tree_at i w.0 ≡ None → left_with w.1 ≡ Err rest → Stuck (slot i f) ts rest
  in_part n e =
      let q = stuck_out w.1 rest e in
      let (ls, t, r) = part_example i f (λ x. example (f x)) c.front w.0 c.ran (part_ended i c.front w.0 c.ran) in
      record {
        front = c.front;
        split = c.split ∙ ap (λ l. c.front ++ l) q;
        words = ls;
        tree = t;
        begun = r;
        stays = λ k ks us h. ap (at_cut i f) (cut_over i c.front (first_place i) w.0 k us c.ran (c.refused k ks (q ∙ h)))
            ∙ ap (at_tree i f (k ∷ us)) n;
      }

  -- the token behind the part is refused there
  behind_cut : (x : Tree i) (front : List Lexeme) (k : Lexeme) (ks ls : List Lexeme) →
      tree_at i w.0 ≡ Some x → w.1 ≡ front ++ rest → rest ≡ k ∷ ks
      → reading (slot i f) (c.front ++ (front ++ (k ∷ ls))) ≡ reading (f x) (front ++ (k ∷ ls))
  behind_cut x [] k ks ls t e h =
      ap (at_cut i f) (cut_over i c.front (first_place i) w.0 k ls c.ran (c.refused k ks (e ∙ h))) ∙ ap (at_tree i f (k ∷ ls)) t
  behind_cut x (j ∷ front) k ks ls t e h =
      ap (at_cut i f) (cut_over i c.front (first_place i) w.0 j (front ++ (k ∷ ls)) c.ran (c.refused j (front ++ rest) e))
      ∙ ap (at_tree i f (j ∷ (front ++ (k ∷ ls)))) t

  behind_part : (x : Tree i) → tree_at i w.0 ≡ Some x → Stuck (f x) w.1 rest → Stuck (slot i f) ts rest
  behind_part x t y = record {
    front = c.front ++ y.front;
    split = c.split ∙ ap (λ l. c.front ++ l) y.split ∙ sym (append_assoc c.front y.front rest);
    words = y.words;
    tree = y.tree;
    begun = subst (λ l. Reads (slot i f) l y.tree) (sym (append_assoc c.front y.front y.words))
        (part_reads c.front x (part_whole i c.front w.0 x c.ran t) y.begun);
    stays = λ k ks ls h. ap (reading (slot i f)) (append_assoc c.front y.front (k ∷ ls))
        ∙ behind_cut x y.front k ks ls t y.split h ∙ y.stays k ks ls h;
  }

-- ---- all patterns

module _ (rest : List Lexeme) (A : Type 0) where
  by_tree : (i : Slot) (f : Tree i → Pattern) (left : List Lexeme) {n : Option (Tree i)} (m : Option (Tree i)) → n ≡ m
      → ((x : Tree i) → n ≡ Some x → reading (f x) left ≡ Err rest → A) → (n ≡ None → left_with left ≡ Err rest → A)
      → at_tree i f left m ≡ Err rest → A
  by_tree i f left (Some x) h a b e = a x h e
  by_tree i f left None h a b e = b h e

  module _ (k : Lexeme) (ks : List Lexeme) where
    by_sign : (p : Pattern) {m : Bool} (b : Bool) → m ≡ b → (m ≡ true → reading p ks ≡ Err rest → A)
        → (m ≡ false → left_with (k ∷ ks) ≡ Err rest → A) → at_sign p k ks b ≡ Err rest → A
    by_sign p true h f g e = f h e
    by_sign p false h f g e = g h e

    by_choice : (p q : Pattern) {m : Bool} (b : Bool) → m ≡ b
        → (m ≡ true → reading p ks ≡ Err rest → A) → (m ≡ false → reading q (k ∷ ks) ≡ Err rest → A) → at_choice p q k ks b ≡ Err rest → A
    by_choice p q true h f g e = f h e
    by_choice p q false h f g e = g h e

    by_name : (f : Name → Pattern) {n : Option Name} (m : Option Name) → n ≡ m
        → ((x : Name) → n ≡ Some x → reading (f x) ks ≡ Err rest → A) → (n ≡ None → left_with (k ∷ ks) ≡ Err rest → A)
        → at_name f k ks m ≡ Err rest → A
    by_name f (Some x) h a b e = a x h e
    by_name f None h a b e = b h e

pub stops : (p : Pattern) (ts rest : List Lexeme) → reading p ts ≡ Err rest → Stuck p ts rest
stops (done t) [] rest e = cc
stops (done t) (k ∷ ks) rest e = here (done t) (k ∷ ks) rest e (λ j js ls h. refl)
stops (fixed s p) [] rest e = here (fixed s p) [] rest e (λ j js ls h. cc)
stops (fixed s p) (k ∷ ks) rest e =
    by_sign rest (Stuck (fixed s p) (k ∷ ks) rest) k ks p (is_sign s k.kind) refl
    (λ h q. sign_more s p k ks rest h (stops p ks rest q))
    (λ h q. here (fixed s p) (k ∷ ks) rest q (λ j js ls g. ap (at_sign p j ls) (same_test s k j ks js h g))) e
stops (name f) [] rest e = here (name f) [] rest e (λ j js ls h. cc)
stops (name f) (k ∷ ks) rest e =
    by_name rest (Stuck (name f) (k ∷ ks) rest) k ks f (name_of k) refl
    (λ x h q. name_more f k ks rest x h (stops (f x) ks rest q))
    (λ h q. here (name f) (k ∷ ks) rest q (λ j js ls g. ap (at_name f j ls) (same_name k j ks js h g))) e
stops (slot i f) ts rest e =
    by_tree rest (Stuck (slot i f) ts rest) i f (cut i (first_place i) ts).1 (tree_at i (cut i (first_place i) ts).0) refl
    (λ x h q. behind_part i f ts rest (cut_is i ts (first_place i)) x h (stops (f x) (cut i (first_place i) ts).1 rest q))
    (λ h q. in_part i f ts rest (cut_is i ts (first_place i)) h q) e
stops (option s p q) [] rest e = passes_end s p q rest (stops q [] rest e)
stops (option s p q) (k ∷ ks) rest e =
    by_choice rest (Stuck (option s p q) (k ∷ ks) rest) k ks p q (is_sign s k.kind) refl
    (λ h g. takes_more s p q k ks rest h (stops p ks rest g))
    (λ h g. passes_more s p q k ks rest h (stops q (k ∷ ks) rest g)) e
