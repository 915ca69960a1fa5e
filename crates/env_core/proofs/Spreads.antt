-- One argument more.
use Rattle.std.proofs.Common.{◌≡◌, ℕ, suc, ◌+◌, ◌*◌, ◌-◌, ◌<◌, ◌≤◌, ◌^◌, min, max, List, [], ◌∷◌, length, drop, get_or, refl, sym, ap}
use Rattle.std.proofs.Common.{◌∙◌, arith}
use Rattle.std.proofs.Math.Seq.{drop-cons}
use Rattle.std.proofs.lemmas.List.{length-drop}
use Rattle.term_core.specs.Term.{meaning, list_meaning}
use Rattle.term_core.specs.declared.term.Term.{Term}
use Rattle.env_theory.specs.Count.{Scale, Row, by_nodes, by_height, joined, count_term, count_terms, spread, only, upto}
use Rattle.env_theory.specs.Normal.{many}
use Rattle.env_theory.proofs.Scales.{Laws}
use Rattle.env_theory.proofs.Caps.{Cuts, upto_twice}
use Rattle.env_theory.proofs.Added.{part_added, factor_added}

-- the element at an index and those behind it
element_at : {X : Type 0} (xs : List X) (i : ℕ) (x : X) → i < length xs → x ≡ get_or xs i x → drop i xs ≡ x ∷ drop (i + 1) xs
element_at xs i x h e = let more : suc i ≡ i + 1 = omega arith in
    drop-cons xs i x h ∙ ap (λ y. y ∷ drop (suc i) xs) (sym e) ∙ ap (λ k. x ∷ drop k xs) more

many_list : (ts : List Term) → many (list_meaning ts) ≡ length ts
many_list [] = refl
many_list (t ∷ ts) = ap suc (many_list ts)

-- the variable of the argument at i, where `left` are left with it
variable_of : (ts : List Term) (i left : ℕ) → left + i ≡ length ts → i < length ts → many (list_meaning (drop (i + 1) ts)) ≡ left - 1
variable_of ts i left e h = many_list (drop (i + 1) ts) ∙ length-drop (i + 1) ts ∙ omega (arith, e, h)

module _ (S : Scale) (e : ℕ) (w : ℕ → ℕ) (R : List Row) (ts : List Term) (i : ℕ) (t : Term) (within : i < length ts) (here : t
    ≡ get_or ts i t) where
  pub terms_split : count_terms S R e w (list_meaning (drop i ts))
      ≡ S.plus (count_term S R e w (meaning t)) (count_terms S R e w (list_meaning (drop (i + 1) ts)))
  terms_split = ap (λ l. count_terms S R e w (list_meaning l)) (element_at ts i t within here)

  pub spread_split : (u : ℕ → ℕ) (left : ℕ) → left + i ≡ length ts
      → spread S R e w u (list_meaning (drop i ts))
      ≡ S.plus (S.times (u (left - 1)) (count_term S R e w (meaning t))) (spread S R e w u (list_meaning (drop (i + 1) ts)))
  spread_split u left q =
      ap (λ l. spread S R e w u (list_meaning l)) (element_at ts i t within here)
      ∙ ap (λ k. S.plus (S.times (u k) (count_term S R e w (meaning t))) (spread S R e w u (list_meaning (drop (i + 1) ts))))
      (variable_of ts i left q within)

-- numbers that stop, one step of a loop
pub nodes_more : (acc p b y rest part all : ℕ) → p ≡ min y (2 ^ 32) → b ≡ min (acc + p) (2 ^ 32) → part ≡ y + rest
    → min (acc + part) (2 ^ 32) ≡ min all (2 ^ 32) → min (b + rest) (2 ^ 32) ≡ min all (2 ^ 32)
nodes_more acc p b y rest part all e f g h = omega (arith, e, f, g, h)

pub height_more : (acc p b y rest part all : ℕ) → p ≡ min y (2 ^ 32) → b ≡ min (max acc p) (2 ^ 32) → part ≡ max y rest
    → min (max acc part) (2 ^ 32) ≡ min all (2 ^ 32) → min (max b rest) (2 ^ 32) ≡ min all (2 ^ 32)
height_more acc p b y rest part all e f g h = omega (arith, e, f, g, h)

pub capped_result : (n m : ℕ) → n ≡ min m (2 ^ 32) → n ≤ 2 ^ 32
capped_result n m e = omega (arith, e)

module _ (S : Scale) (L : Laws S) (C : Cuts S) (R : List Row) (k : ℕ) (ts : List Term) (i : ℕ) (t : Term) (within : i < length ts)
    (here : t ≡ get_or ts i t) where
  -- one argument added
  pub all_step : (n m n' all : ℕ) → upto n' ≡ upto (S.plus n (S.times m (count_term S R 0 (only k) (meaning t))))
      → upto (S.plus n (S.times m (count_terms S R 0 (only k) (list_meaning (drop i ts))))) ≡ all
      → upto (S.plus n' (S.times m (count_terms S R 0 (only k) (list_meaning (drop (i + 1) ts))))) ≡ all
  all_step n m n' all e f =
      part_added S L C n m (count_term S R 0 (only k) (meaning t)) (count_terms S R 0 (only k) (list_meaning (drop (i + 1) ts))) n' e
      ∙ ap (λ z. upto (S.plus n (S.times m z))) (sym (terms_split S 0 (only k) R ts i t within here)) ∙ f

  -- one argument of a definition added
  pub spread_step : (u : ℕ → ℕ) (left : ℕ) (n m v m' n' all : ℕ) → left + i ≡ length ts → v ≡ u (left - 1) → m' ≡ upto (S.times m v)
      → upto n' ≡ upto (S.plus n (S.times m' (count_term S R 0 (only k) (meaning t))))
      → upto (S.plus n (S.times m (spread S R 0 (only k) u (list_meaning (drop i ts))))) ≡ all
      → upto (S.plus n' (S.times m (spread S R 0 (only k) u (list_meaning (drop (i + 1) ts))))) ≡ all
  spread_step u left n m v m' n' all q h c e f =
      part_added S L C n m (S.times (u (left - 1)) (count_term S R 0 (only k) (meaning t)))
      (spread S R 0 (only k) u (list_meaning (drop (i + 1) ts))) n'
      (factor_added S L C n m (u (left - 1)) (count_term S R 0 (only k) (meaning t)) m' n'
      (ap upto c ∙ upto_twice (S.times m v) ∙ ap (λ z. upto (S.times m z)) h) e)
      ∙ ap (λ z. upto (S.plus n (S.times m z))) (sym (spread_split S 0 (only k) R ts i t within here u left q)) ∙ f
