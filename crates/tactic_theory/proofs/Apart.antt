-- Each row keeps the names of a context distinct.
use Rattle.fol_theory.specs.Slots.{Slot, slot, entries, names, unless, slots_without}
use Rattle.env_theory.specs.Heads.{head_form}
use Rattle.env_theory.specs.Normal.{normal_term, expand}
use Rattle.env_theory.specs.Declarations.{Declaration, name_of}
use Rattle.std.proofs.Common.{
  ◌≡◌,
  ℕ,
  ◌+◌,
  ◌<◌,
  ◌^◌,
  Bool,
  true,
  false,
  ◌||◌,
  if◌then◌else◌,
  ◌==◌,
  List,
  [],
  ◌∷◌,
  ◌++◌,
  map,
  length,
  codes,
  Option,
  Some,
  None,
  Result,
  Ok,
  Err,
  Decides,
  refl,
  sym,
  ap,
  subst,
  ◌∙◌,
  arith,
  true≢false,
}
use Rattle.std.specs.Cmp.Lexicographic.{bytes_decides}
use Rattle.std.proofs.lemmas.Bool.Decides.{Decides-eqb}
use Rattle.fol_theory.specs.Syntax.{Term, Formula, truth, falsity, equal, both, either, implies, all, ex, is_name}
use Rattle.fol_theory.specs.Substitution.{under, instantiate}
use Rattle.fol_theory.specs.Measures.{nodes}
use Rattle.fol_theory.specs.Contexts.{Entry, variable, hypothesis, count, hypotheses}
use Rattle.logic_theory.specs.Rules.{Every}
use Rattle.match_theory.specs.Matching.{same_term}
use Rattle.match_theory.specs.Places.{find_instance}
use Rattle.tactic_theory.specs.Names.{is_among, is_taken, fresh, number_of, hypothesis_named, hypothesis_at, AreApart}
use Rattle.base_core.specs.Answers.{and_then}
use Rattle.vern_lex.specs.declared.span.Span.{Span}
use Rattle.elab_theory.specs.Faults.{wrong_sort}
use Rattle.tactic_theory.specs.Faults.{of_typing, Fault, cannot_match, name_taken}
use Rattle.tactic_theory.specs.Evidence.{Evidence, assumed, declared, with_term, with_proof, shows, is_met}
use Rattle.tactic_theory.specs.Strips.{Strip, all_strips, fitting, equation}
use Rattle.tactic_theory.specs.Refinements.{
  Part,
  part,
  Refinement,
  intro,
  intros,
  exact,
  apply,
  rewrite,
  destruct_falsity,
  by_hypothesis,
  split,
  left,
  right,
  exfalso,
  reflexivity,
  symmetry,
  witness,
  destruct_pair,
  destruct_cases,
  assert,
  clear,
  unfold_goal,
  unfold_in,
  named,
  intro_one,
  intro_all,
  split_form,
  left_form,
  right_form,
  witness_form,
  reflexivity_form,
  symmetry_form,
  kept_of,
  if_met,
  pair_form,
  cases_form,
  falsity_form,
  has_same,
  mentions,
  unfolded_in,
  clear_row,
  unfold_row,
  premise_parts,
  apply_found,
  rewrite_found,
  rewrite_form,
  rewrite_strip,
  row,
  Apart,
}
use Rattle.tactic_theory.proofs.Found.{named_below}
use Rattle.tactic_theory.proofs.Shown.{ok_injective}
use Rattle.tactic_theory.proofs.Fresh.{fresh_free, without_apart}

or_false : (a b : Bool) → (a || b) ≡ false → a ≡ false
or_false true b e = e
or_false false b e = refl

free_among : (E : List Declaration) (c : List Slot) (n : List ℕ) → is_taken E c n ≡ false → is_among n (names c) ≡ false
free_among E c n e = or_false (is_among n (names c)) (is_among n (map name_of E)) e

-- the name of a hypothesis goes with it
removed : (c : List Slot) (h : List ℕ) (i : ℕ) → AreApart (names c) → hypothesis_named c h ≡ Some i →
    is_among h (names (slots_without c i)) ≡ false
removed [] h i a e = absurd cc
removed (x ∷ c) h i a e = go x.entry (is_name h x.name) (bytes_decides h x.name) refl (removed c h i a.1) e
  where
    some_is : (j : ℕ) → Some j ≡ Some i → j ≡ i
    some_is j q = cc

    go : (d : Entry) (r : Bool) → Decides r (h ≡ x.name) → is_name h x.name ≡ r → (hypothesis_named c h ≡ Some i →
        is_among h (names (slots_without c i)) ≡ false) → (if r then number_of d c else hypothesis_named c h) ≡ Some i →
        is_among h (names (unless i d x c (slots_without c i))) ≡ false
    go (variable s) true d p ih q = absurd cc
    go (variable s) false d p ih q = ap (λ v. v || is_among h (names (slots_without c i))) p ∙ ih q
    go (hypothesis b) true d p ih q = test (i == count (entries c)) (Decides-eqb i (count (entries c)))
      where
        test : (v : Bool) → Decides v (i ≡ count (entries c)) → is_among h (names (if v then c else x ∷ slots_without c i)) ≡ false
        test true k = ap (λ n. is_among n (names c)) (d.0 refl) ∙ a.0
        test false k = absurd (true≢false (sym (k.1 (sym (some_is (count (entries c)) q)))))
    go (hypothesis b) false d p ih q = test (i == count (entries c)) (Decides-eqb i (count (entries c)))
      where
        test : (v : Bool) → Decides v (i ≡ count (entries c)) → is_among h (names (if v then c else x ∷ slots_without c i)) ≡ false
        test true k = absurd (omega (arith, k.0 refl, named_below c h i q))
        test false k = ap (λ v. v || is_among h (names (slots_without c i))) p ∙ ih q

kept_apart : (c : List Slot) (e : Evidence) → AreApart (names c) → AreApart (names (kept_of c e))
kept_apart c (assumed i) a = without_apart c i a
kept_apart c (declared n b) a = a
kept_apart c (with_term e s t) a = a
kept_apart c (with_proof e d) a = a

-- a list that goes well, from the list itself
well : (qs ps : List Part) → ◌≡◌ {A = Result (List Part) Fault} (Ok qs) (Ok ps) → Every Apart qs → Every Apart ps
well qs ps e h = subst (Every Apart) (ok_injective qs ps e) h

met_well : (v : Bool) (qs ps : List Part) → if_met v qs ≡ Ok ps → Every Apart qs → Every Apart ps
met_well true qs ps e h = well qs ps e h
met_well false qs ps e h = absurd cc

premises_apart : (c : List Slot) (ts : List Term) (qs : List Formula) → AreApart (names c) → Every Apart (premise_parts c ts qs)
premises_apart c ts [] a = tt
premises_apart c ts (p ∷ ps) a = (a, premises_apart c ts ps a)

-- through the evidence
shown_well : (r : Result Formula Fault) (f : Formula → Result (List Part) Fault) (ps : List Part) →
    ((a : Formula) → f a ≡ Ok ps → Every Apart ps) → and_then r f ≡ Ok ps → Every Apart ps
shown_well (Ok a) f ps h e = h a e
shown_well (Err z) f ps h e = absurd cc

module _ (E : List Declaration) (c : List Slot) (g : Formula) (a : AreApart (names c)) where
  named_free : (n : Option (List ℕ)) (x m : List ℕ) → length c + length E < 2 ^ 64 → named E c n x ≡ Ok m → is_taken E c m ≡ false
  named_free None x m b e = subst (λ z. is_taken E c z ≡ false) (name_is (fresh E c x) m e) (fresh_free E c x b)
    where
      name_is : (u v : List ℕ) → ◌≡◌ {A = Result (List ℕ) Fault} (Ok u) (Ok v) → u ≡ v
      name_is u v q = cc
  named_free (Some n) x m b e = go (is_taken E c n) refl e
    where
      name_is : (u v : List ℕ) → ◌≡◌ {A = Result (List ℕ) Fault} (Ok u) (Ok v) → u ≡ v
      name_is u v q = cc

      go : (r : Bool) → is_taken E c n ≡ r → (if r then Err name_taken else Ok n) ≡ Ok m → is_taken E c m ≡ false
      go true q d = absurd cc
      go false q d = subst (λ z. is_taken E c z ≡ false) (name_is n m d) q

  intro_apart : (n : Option (List ℕ)) (h : Formula) (ps : List Part) → length c + length E < 2 ^ 64 →
      and_then (intro_one E c n h) (λ p. Ok (p ∷ [])) ≡ Ok ps → Every Apart ps
  intro_apart n (all s x b) ps l e = go (named E c n x) refl e
    where
      go : (r : Result (List ℕ) Fault) → named E c n x ≡ r →
          and_then (and_then r (λ m. Ok (part (slot m (variable s) ∷ []) c b))) (λ p. Ok (p ∷ [])) ≡ Ok ps → Every Apart ps
      go (Ok m) q d = well (part (slot m (variable s) ∷ []) c b ∷ []) ps d ((free_among E c m (named_free n x m l q), a), tt)
      go (Err z) q d = absurd cc
  intro_apart n (implies x b) ps l e = go (named E c n (codes "H")) refl e
    where
      go : (r : Result (List ℕ) Fault) → named E c n (codes "H") ≡ r →
          and_then (and_then r (λ m. Ok (part (slot m (hypothesis x) ∷ []) c b))) (λ p. Ok (p ∷ [])) ≡ Ok ps → Every Apart ps
      go (Ok m) q d = well (part (slot m (hypothesis x) ∷ []) c b ∷ []) ps d ((free_among E c m (named_free n (codes "H") m l q), a), tt)
      go (Err z) q d = absurd cc
  intro_apart n h ps l e = absurd cc

  split_apart : (h : Formula) (ps : List Part) → split_form c h ≡ Ok ps → Every Apart ps
  split_apart (both x y) ps e = well (part [] c x ∷ part [] c y ∷ []) ps e (a, (a, tt))
  split_apart truth ps e = well [] ps e tt
  split_apart h ps e = absurd cc

  left_apart : (h : Formula) (ps : List Part) → left_form c h ≡ Ok ps → Every Apart ps
  left_apart (either x y) ps e = well (part [] c x ∷ []) ps e (a, tt)
  left_apart h ps e = absurd cc

  right_apart : (h : Formula) (ps : List Part) → right_form c h ≡ Ok ps → Every Apart ps
  right_apart (either x y) ps e = well (part [] c y ∷ []) ps e (a, tt)
  right_apart h ps e = absurd cc

  witness_apart : (s : List ℕ) (t : Term) (p : Span) (h : Formula) (ps : List Part) → witness_form c s t p h ≡ Ok ps → Every Apart ps
  witness_apart s t p (ex r x b) ps e = go (is_name r s) e
    where
      go : (v : Bool) → (if v then Ok (part [] c (instantiate b t) ∷ []) else Err (of_typing (wrong_sort p))) ≡ Ok ps → Every Apart ps
      go true d = well (part [] c (instantiate b t) ∷ []) ps d (a, tt)
      go false d = absurd cc
  witness_apart s t p h ps e = absurd cc

  reflexivity_apart : (h : Formula) (ps : List Part) → reflexivity_form E h ≡ Ok ps → Every Apart ps
  reflexivity_apart (equal s t u) ps e = go (same_term (normal_term E t) (normal_term E u)) e
    where
      go : (v : Bool) → (if v then Ok [] else Err cannot_match) ≡ Ok ps → Every Apart ps
      go true d = well [] ps d tt
      go false d = absurd cc
  reflexivity_apart h ps e = absurd cc

  symmetry_apart : (h : Formula) (ps : List Part) → symmetry_form c h ≡ Ok ps → Every Apart ps
  symmetry_apart (equal s t u) ps e = well (part [] c (equal s u t) ∷ []) ps e (a, tt)
  symmetry_apart h ps e = absurd cc

  pair_apart : (k : List Slot) → AreApart (names k) → (met : Bool) (m n : List ℕ) (h : Formula) (ps : List Part) →
      pair_form E k met m n g h ≡ Ok ps → Every Apart ps
  pair_apart k b met m n (both x y) ps e = go (is_taken E k m) (is_taken E (slot m (hypothesis x) ∷ k) n) refl refl e
    where
      go : (t u : Bool) → is_taken E k m ≡ t → is_taken E (slot m (hypothesis x) ∷ k) n ≡ u →
          (if t then Err name_taken
          else (if u then Err name_taken else if_met met (part (slot n (hypothesis y) ∷ slot m (hypothesis x) ∷ []) k g ∷ [])))
          ≡ Ok ps → Every Apart ps
      go true u p q d = absurd cc
      go false true p q d = absurd cc
      go false false p q d = met_well met (part (slot n (hypothesis y) ∷ slot m (hypothesis x) ∷ []) k g ∷ []) ps d
          ((free_among E (slot m (hypothesis x) ∷ k) n q, (free_among E k m p, b)), tt)
  pair_apart k b met m n (ex s v x) ps e = go (is_taken E k m) (is_taken E (slot m (variable s) ∷ k) n) refl refl e
    where
      go : (t u : Bool) → is_taken E k m ≡ t → is_taken E (slot m (variable s) ∷ k) n ≡ u →
          (if t then Err name_taken
          else (if u then Err name_taken else if_met met (part (slot n (hypothesis x) ∷ slot m (variable s) ∷ []) k (under g)
          ∷ []))) ≡ Ok ps → Every Apart ps
      go true u p q d = absurd cc
      go false true p q d = absurd cc
      go false false p q d = met_well met (part (slot n (hypothesis x) ∷ slot m (variable s) ∷ []) k (under g) ∷ []) ps d
          ((free_among E (slot m (variable s) ∷ k) n q, (free_among E k m p, b)), tt)
  pair_apart k b met m n h ps e = absurd cc

  cases_apart : (k : List Slot) → AreApart (names k) → (met : Bool) (m n : List ℕ) (h : Formula) (ps : List Part) →
      cases_form E k met m n g h ≡ Ok ps → Every Apart ps
  cases_apart k b met m n (either x y) ps e = go (is_taken E k m) (is_taken E k n) refl refl e
    where
      go : (t u : Bool) → is_taken E k m ≡ t → is_taken E k n ≡ u →
          (if t then Err name_taken else (if u then Err name_taken else if_met met (part (slot m (hypothesis x) ∷ []) k g
          ∷ part (slot n (hypothesis y) ∷ []) k g ∷ []))) ≡ Ok ps → Every Apart ps
      go true u p q d = absurd cc
      go false true p q d = absurd cc
      go false false p q d = met_well met (part (slot m (hypothesis x) ∷ []) k g ∷ part (slot n (hypothesis y) ∷ []) k g ∷ [])
          ps d ((free_among E k m p, b), ((free_among E k n q, b), tt))
  cases_apart k b met m n h ps e = absurd cc

  falsity_apart : (met : Bool) (h : Formula) (ps : List Part) → falsity_form met h ≡ Ok ps → Every Apart ps
  falsity_apart met falsity ps e = met_well met [] ps e tt
  falsity_apart met h ps e = absurd cc

  apply_apart : (met : Bool) (o : Option (Strip × List Term)) (ps : List Part) → apply_found E c met o ≡ Ok ps → Every Apart ps
  apply_apart met None ps e = absurd cc
  apply_apart met (Some (s, ts)) ps e = met_well _ (premise_parts c ts s.premises) ps e (premises_apart c ts s.premises a)

  rewrite_apart : (met : Bool) (s : Strip) (l r : Term) (o : Option (List Term)) (ps : List Part) →
      rewrite_found c met s l r g o ≡ Ok ps → Every Apart ps
  rewrite_apart met s l r None ps e = absurd cc
  rewrite_apart met s l r (Some ts) ps e = met_well _ _ ps e (a, premises_apart c ts s.premises a)

  rewrite_form_apart : (met way : Bool) (s : Strip) (h : Formula) (ps : List Part) → rewrite_form c met way s g h ≡ Ok ps → Every Apart ps
  rewrite_form_apart met true s (equal q l r) ps e = rewrite_apart met s l r (find_instance (length s.sorts) l g) ps e
  rewrite_form_apart met false s (equal q l r) ps e = rewrite_apart met s r l (find_instance (length s.sorts) r g) ps e
  rewrite_form_apart met way s h ps e = absurd cc

  rewrite_strip_apart : (met way : Bool) (o : Option Strip) (ps : List Part) → rewrite_strip E c met way g o ≡ Ok ps → Every Apart ps
  rewrite_strip_apart met way None ps e = absurd cc
  rewrite_strip_apart met way (Some s) ps e = rewrite_form_apart met way s (head_form E s.rest) ps e

  assert_apart : (n : List ℕ) (x : Formula) (r : Bool) → is_taken E c n ≡ r → (ps : List Part) →
      (if r then Err name_taken else Ok (part [] c x ∷ part (slot n (hypothesis x) ∷ []) c g ∷ [])) ≡ Ok ps → Every Apart ps
  assert_apart n x true q ps e = absurd cc
  assert_apart n x false q ps e = well (part [] c x ∷ part (slot n (hypothesis x) ∷ []) c g ∷ []) ps e (a, ((free_among E c n q, a), tt))

  clear_apart : (o : Option ℕ) (ps : List Part) → clear_row c o g ≡ Ok ps → Every Apart ps
  clear_apart None ps e = absurd cc
  clear_apart (Some i) ps e = well (part [] (slots_without c i) g ∷ []) ps e (without_apart c i a, tt)

  unfold_apart : (d : Declaration) (h : List ℕ) (o : Option ℕ) → hypothesis_named c h ≡ o → (ps : List Part) →
      unfold_row d c h o g ≡ Ok ps → Every Apart ps
  unfold_apart d h None q ps e = absurd cc
  unfold_apart d h (Some i) q ps e = go (hypothesis_at (entries c) i) e
    where
      go : (o : Option Formula) → unfolded_in d c h i o g ≡ Ok ps → Every Apart ps
      go None w = absurd cc
      go (Some x) w = test (mentions (name_of d) x) w
        where
          test : (v : Bool) → ◌≡◌ {A = Result (List Part) Fault}
              (if v then Ok (part (slot h (hypothesis (expand d x)) ∷ []) (slots_without c i) g ∷ [])
              else Ok (part [] c g ∷ [])) (Ok ps) → Every Apart ps
          test true w = well (part (slot h (hypothesis (expand d x)) ∷ []) (slots_without c i) g ∷ []) ps w
              ((removed c h i a q, without_apart c i a), tt)
          test false w = well (part [] c g ∷ []) ps w (a, tt)

intro_all_apart : (E : List Declaration) (more kept : List Slot) (b : Formula) → length (more ++ kept) + nodes b + length E < 2
    ^ 64 → AreApart (names (more ++ kept)) → Apart (intro_all E more kept b)
intro_all_apart E more kept (all s x b) l a = let n = fresh E (more ++ kept) x in intro_all_apart E (slot n (variable s) ∷ more)
    kept b (omega (arith, l)) (free_among E (more ++ kept) n (fresh_free E (more ++ kept) x (omega (arith, l))), a)
intro_all_apart E more kept (implies x b) l a = let n = fresh E (more ++ kept) (codes "H") in
    intro_all_apart E (slot n (hypothesis x) ∷ more) kept b (omega (arith, l))
    (free_among E (more ++ kept) n (fresh_free E (more ++ kept) (codes "H") (omega (arith, l))), a)
intro_all_apart E more kept b l a = a

-- the names of each new goal are distinct
pub row_apart : (E : List Declaration) (c : List Slot) (g : Formula) → AreApart (names c) → length c + nodes g + length E < 2 ^
    64 → (r : Refinement) (ps : List Part) → row E c g r ≡ Ok ps → Every Apart ps
row_apart E c g a l (intro n) ps e = intro_apart E c g a n (head_form E g) ps (omega (arith, l)) e
row_apart E c g a l intros ps e = well (intro_all E [] c g ∷ []) ps e (intro_all_apart E [] c g l a, tt)
row_apart E c g a l (exact d) ps e = shown_well (shows E c d) _ ps (λ b q. met_well _ [] ps q tt) e
row_apart E c g a l (apply d) ps e = shown_well (shows E c d) _ ps (λ b q. apply_apart E c g a (is_met E c d)
    (fitting E g (all_strips E b)) ps q) e
row_apart E c g a l (rewrite way d) ps e = shown_well (shows E c d) _ ps (λ b q. rewrite_strip_apart E c g a (is_met E c d) way
    (equation E (all_strips E b)) ps q) e
row_apart E c g a l by_hypothesis ps e = met_well (has_same E (hypotheses (entries c)) g) [] ps e tt
row_apart E c g a l split ps e = split_apart E c g a (head_form E g) ps e
row_apart E c g a l left ps e = left_apart E c g a (head_form E g) ps e
row_apart E c g a l right ps e = right_apart E c g a (head_form E g) ps e
row_apart E c g a l exfalso ps e = well (part [] c falsity ∷ []) ps e (a, tt)
row_apart E c g a l (witness s t p) ps e = witness_apart E c g a s t p (head_form E g) ps e
row_apart E c g a l (destruct_pair d m n) ps e = shown_well (shows E c d) _ ps (λ b q. pair_apart E c g a (kept_of c d)
    (kept_apart c d a) (is_met E c d) m n (head_form E b) ps q) e
row_apart E c g a l (destruct_cases d m n) ps e = shown_well (shows E c d) _ ps (λ b q. cases_apart E c g a (kept_of c d)
    (kept_apart c d a) (is_met E c d) m n (head_form E b) ps q) e
row_apart E c g a l (destruct_falsity d) ps e = shown_well (shows E c d) _ ps (λ b q. falsity_apart E c g a (is_met E c d)
    (head_form E b) ps q) e
row_apart E c g a l (assert n x) ps e = assert_apart E c g a n x (is_taken E c n) refl ps e
row_apart E c g a l (clear h) ps e = clear_apart E c g a (hypothesis_named c h) ps e
row_apart E c g a l reflexivity ps e = reflexivity_apart E c g a (head_form E g) ps e
row_apart E c g a l symmetry ps e = symmetry_apart E c g a (head_form E g) ps e
row_apart E c g a l (unfold_goal d) ps e = well (part [] c (expand d g) ∷ []) ps e (a, tt)
row_apart E c g a l (unfold_in d h) ps e = unfold_apart E c g a d h (hypothesis_named c h) refl ps e
