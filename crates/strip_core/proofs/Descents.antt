-- A formula with quantifiers and premises taken off: the tree that leads there, and the strip that it comes to.
use Rattle.std.proofs.Common.{
  ◌≡◌,
  ℕ,
  zero,
  suc,
  ◌+◌,
  List,
  [],
  ◌∷◌,
  ◌++◌,
  map,
  length,
  reverse,
  refl,
  sym,
  ap,
  subst,
  ◌∙◌,
  append_assoc,
  append-nil,
  arith,
}
use Rattle.std.proofs.lemmas.List.{map-append, length-append, length-map, reverse-append}
use Rattle.std.proofs.Math.Path.{fun_ext}
use Rattle.fol_theory.specs.Syntax.{Term, Formula, implies, all}
use Rattle.fol_theory.specs.Substitution.{replace_term, replace, next, lift, first, under, instantiate}
use Rattle.fol_theory.specs.Contexts.{Sequent, variables}
use Rattle.fol_theory.specs.Slots.{Slot, entries, names}
use Rattle.fol_theory.specs.Printing.{unnamed}
use Rattle.fol_theory.proofs.Laws.{replace_twice, term_undo, replace_identity}
use Rattle.match_theory.specs.Instances.{fill}
use Rattle.env_theory.specs.Declarations.{Declaration}
use Rattle.env_theory.specs.Typing.{HasSort, WellFormed, Environment, Fits}
use Rattle.env_theory.specs.Heads.{head_form}
use Rattle.env_theory.specs.Normal.{normal, Same}
use Rattle.env_theory.proofs.HeadLaws.{head_replace}
use Rattle.env_theory.proofs.Lawfuls.{head_formed}
use Rattle.env_theory.proofs.Sameness.{same_implies}
use Rattle.env_theory.proofs.Sorts.{replace_formed, fits_first}
use Rattle.logic_theory.specs.Goals.{Goal, goal, sequent, goals}
use Rattle.logic_theory.specs.Proofs.{IsProof}
use Rattle.logic_theory.specs.Rules.{Rule, leaf, step, plain, seq, imp_e, Follows}
use Rattle.logic_theory.proofs.Grafting.{label_names, names_entries, follows_append, goals_append, goals_leaves}
use Rattle.tactic_theory.specs.Strips.{Strip, Stripped, unstripped as none, quantifier, premise}
use Rattle.tactic_theory.proofs.Named.{same_all_named}
use Rattle.strip_core.specs.Trees.{Descent, unstripped, with_term, with_premise, one_less, descend, through}

-- ---- trees

-- a proof leaves no goal
none_left : (gs : List Goal) → map sequent gs ≡ [] → gs ≡ []
none_left [] e = refl
none_left (g ∷ gs) e = absurd cc

closed_goals : (E : List Declaration) (part : List Rule) (g : Sequent) → IsProof E part g → goals part (g ∷ []) ≡ []
closed_goals E part g p = none_left (goals part (g ∷ [])) (goals_leaves E part (g ∷ []) p.0 ∙ p.1)

-- an open leaf more
leaf_more : (part : List Rule) (ns : List (List ℕ)) (p b : Formula) (d : Descent)
    → through part ns (with_premise p b d) ≡ step (imp_e p) ∷ (through part ns d ++ leaf ns ∷ [])
leaf_more part ns p b d =
    let open_leaf : Formula → Rule = λ q. leaf ns in
    ap (λ rs. step (imp_e p) ∷ (d.rules ++ (part ++ rs))) (map-append open_leaf d.premises (p ∷ []))
    ∙ ap (λ rs. step (imp_e p) ∷ (d.rules ++ rs)) (sym (append_assoc part (map open_leaf d.premises) (leaf ns ∷ [])))
    ∙ ap (λ rs. step (imp_e p) ∷ rs) (sym (append_assoc d.rules (part ++ map open_leaf d.premises) (leaf ns ∷ [])))

-- ---- substitutions

-- a term for the newest variable, and the others at once
one_first_at : (t : Term) (σ : ℕ → Term) (ts : List Term) (i : ℕ) → replace_term (first t) (lift (fill ts) i) ≡ fill (t ∷ ts) i
one_first_at t σ ts zero = refl
one_first_at t σ ts (suc i) = term_undo (first t) next (λ j. refl) (fill ts i)

one_first : (t : Term) (ts : List Term) (b : Formula) → instantiate (replace (lift (fill ts)) b) t ≡ replace (fill (t ∷ ts)) b
one_first t ts b = replace_twice (first t) (lift (fill ts)) b ∙ ap (λ ρ. replace ρ b) (fun_ext (one_first_at t (fill ts) ts))

filled_under : (t : Term) (ts : List Term) (ps : List Formula) → map (replace (fill ts)) ps ≡ map (replace (fill (t ∷ ts))) (map under ps)
filled_under t ts [] = refl
filled_under t ts (p ∷ ps) = λ i. sym (replace_twice (fill (t ∷ ts)) next p) i ∷ filled_under t ts ps i

none_filled : (a : Formula) → replace (fill []) a ≡ a
none_filled a = replace_identity a

turned_more : (t : Term) (ts us : List Term) → reverse (t ∷ ts) ++ us ≡ reverse ts ++ t ∷ us
turned_more t ts us = ap (λ l. l ++ us) (reverse-append (t ∷ []) ts) ∙ append_assoc (reverse ts) (t ∷ []) us

-- ---- along the strips

module _ (E : List Declaration) (x : Environment E) (c : List Slot) (a : Formula) (part : List Rule)
    (heads : (b : Formula) → WellFormed E (variables (entries c)) b → Same E (head_form E b) b)
    (lead : (z : Formula) → Same E a z → IsProof E part (seq (entries c) z)) where
  -- the tree leads from each formula that is the same as what is left to the premises
  abbrev pub IsLed : Descent → Type 0
  IsLed d = (z : Formula) → Same E d.rest z → Follows E (through part (names c) d) (seq (entries c) z ∷ [])
      × (goals (through part (names c) d) (seq (entries c) z ∷ []) ≡ map (goal c) d.premises)

  none_led : IsLed (unstripped a)
  none_led z e =
      let p = lead z e in
      let whole : through part (names c) (unstripped a) ≡ part = append-nil part in (
        subst (λ rs. Follows E rs (seq (entries c) z ∷ [])) (sym whole) p.0,
        ap (λ rs. goals rs (seq (entries c) z ∷ [])) whole ∙ closed_goals E part (seq (entries c) z) p,
      )

  module _ (d : Descent) (led : IsLed d) (w : WellFormed E (variables (entries c)) d.rest) where
    term_led : (r y : List ℕ) (b : Formula) (t : Term) → head_form E d.rest ≡ all r y b → HasSort E (variables (entries c)) t r
        → IsLed (with_term r b t d)
    term_led r y b t h s z e =
        let is : Same E d.rest (all r plain b) = sym (heads d.rest w) ∙ ap (λ q. unnamed (normal E q)) h ∙ same_all_named E r y plain b in
        let up = led (all r plain b) is in
        (((subst (WellFormed E (variables (entries c))) h (head_formed E x (variables (entries c)) d.rest w), s, e), up.0), up.1)

    premise_led : (p b : Formula) → head_form E d.rest ≡ implies p b → IsLed (with_premise p b d)
    premise_led p b h z e =
        let is : Same E d.rest (implies p z) = sym (heads d.rest w) ∙ ap (λ q. unnamed (normal E q)) h ∙ same_implies E p b p z refl e in
        let up = led (implies p z) is in
        let open_leaf = leaf (names c) ∷ [] in
        let first = seq (entries c) (implies p z) ∷ [] in
        let second = seq (entries c) p ∷ [] in
        let all = step (imp_e p) ∷ (through part (names c) d ++ open_leaf) in
        let formed = subst (WellFormed E (variables (entries c))) h (head_formed E x (variables (entries c)) d.rest w) in
        let follows : Follows E all (seq (entries c) z ∷ []) =
        (formed.0, follows_append E (through part (names c) d) open_leaf first second up.0 (names_entries c, tt)) in
        let left : goals all (seq (entries c) z ∷ []) ≡ map (goal c) (d.premises ++ p ∷ []) =
        goals_append E (through part (names c) d) open_leaf first second up.0
        ∙ (λ i. up.1 i ++ goal (label_names c i) p ∷ [])
        ∙ sym (map-append (goal c) d.premises (p ∷ [])) in (
          subst (λ rs. Follows E rs (seq (entries c) z ∷ [])) (sym (leaf_more part (names c) p b d)) follows,
          ap (λ rs. goals rs (seq (entries c) z ∷ [])) (leaf_more part (names c) p b d) ∙ left,
        )

  -- what comes of a formula with these terms for the variables of a strip
  pub record Along (s : Strip) (ts : List Term) (d : Descent) : Type 0 where
    pub rest : d.rest ≡ replace (fill ts) s.rest
    pub premises : d.premises ≡ map (replace (fill ts)) s.premises
    pub formed : WellFormed E (variables (entries c)) d.rest
    pub led : IsLed d

  module _ (s : Strip) (ts : List Term) (d : Descent) (l : Along s ts d) where
    head_along : head_form E d.rest ≡ replace (fill ts) (head_form E s.rest)
    head_along = ap (head_form E) l.rest ∙ head_replace E (fill ts) s.rest

    with_term_along : (r y : List ℕ) (b : Formula) (t : Term) → head_form E s.rest ≡ all r y b → HasSort E (variables (entries c)) t r
        → Along (record { sorts = r ∷ s.sorts; premises = map under s.premises; rest = b }) (t ∷ ts)
        (with_term r (replace (lift (fill ts)) b) t d)
    with_term_along r y b t q sorted =
        let V : List (List ℕ) = variables (entries c) in
        let h : head_form E d.rest ≡ all r y (replace (lift (fill ts)) b) = head_along ∙ ap (replace (fill ts)) q in
        let f = subst (WellFormed E V) h (head_formed E x V d.rest l.formed) in
        record {
          rest = one_first t ts b;
          premises = l.premises ∙ filled_under t ts s.premises;
          formed = replace_formed E (first t) (r ∷ V) V (fits_first E V t r sorted) (replace (lift (fill ts)) b) f.1;
          led = term_led d l.led l.formed r y (replace (lift (fill ts)) b) t h sorted;
        }

    with_premise_along : (p b : Formula) → head_form E s.rest ≡ implies p b
        → Along (record { sorts = s.sorts; premises = s.premises ++ p ∷ []; rest = b }) ts
        (with_premise (replace (fill ts) p) (replace (fill ts) b) d)
    with_premise_along p b q =
        let V : List (List ℕ) = variables (entries c) in
        let h : head_form E d.rest ≡ implies (replace (fill ts) p) (replace (fill ts) b) = head_along ∙ ap (replace (fill ts)) q in
        let f = subst (WellFormed E V) h (head_formed E x V d.rest l.formed) in
        record {
          rest = refl;
          premises = ap (λ ls. ls ++ replace (fill ts) p ∷ []) l.premises ∙ sym (map-append (replace (fill ts)) s.premises (p ∷ []));
          formed = f.1;
          led = premise_led d l.led l.formed (replace (fill ts) p) (replace (fill ts) b) h;
        }

  -- it is what the descent of so many strips comes to, whatever comes behind
  pub record Reached (s : Strip) (ts : List Term) (n : ℕ) : Type 0 where
    pub to : Descent
    pub is : Along s ts to
    pub by : (k : ℕ) (us : List Term) → descend (n + k) E (reverse ts ++ us) (unstripped a) ≡ descend k E us to

  same_count : (n m k : ℕ) → n ≡ m → descend (n + k) E ≡ descend (m + k) E
  same_count n m k e = ap (λ j. descend (j + k) E) e

  module _ (w : WellFormed E (variables (entries c)) a) where
    pub reached : (s : Strip) → Stripped E a s → (ts : List Term) → length ts ≡ length s.sorts
        → Fits E (fill ts) (s.sorts ++ variables (entries c)) (variables (entries c))
        → Reached s ts (length s.sorts + length s.premises)
    reached s none [] e f = record {
      to = unstripped a;
      is = record { rest = sym (none_filled a); premises = refl; formed = w; led = none_led };
      by = λ k us. ap (λ j. descend j E us (unstripped a)) (no_more k);
    }
      where
        no_more : (k : ℕ) → 0 + 0 + k ≡ k
        no_more k = omega arith
    reached s none (t ∷ ts) e f = absurd (omega (arith, e))
    reached s (quantifier u r y b k q) [] e f = absurd (omega (arith, e))
    reached s (quantifier u r y b k q) (t ∷ ts) e f =
        let m = reached u k ts (omega (arith, e)) (λ i z p. f (suc i) z p) in
        let h : head_form E m.to.rest ≡ all r y (replace (lift (fill ts)) b) = head_along u ts m.to m.is ∙ ap (replace (fill ts)) q in
        record {
          to = with_term r (replace (lift (fill ts)) b) t m.to;
          is = with_term_along u ts m.to m.is r y b t q (f zero r refl);
          by = λ j us. (λ i. descend (counted (length u.sorts) (length (map under u.premises)) (length u.premises) j (length-map u.premises under) i)
              E (turned_more t ts us i) (unstripped a))
              ∙ m.by (suc j) (t ∷ us)
              ∙ ap (λ q. one_less (λ vs d. descend j E vs d) q (t ∷ us) m.to) h;
        }
      where
        counted : (n i k j : ℕ) → i ≡ k → suc n + i + j ≡ n + k + suc j
        counted n i k j e = omega (arith, e)
    reached s (premise u p b k q) ts e f =
        let m = reached u k ts e f in
        let h : head_form E m.to.rest ≡ implies (replace (fill ts) p) (replace (fill ts) b) =
        head_along u ts m.to m.is ∙ ap (replace (fill ts)) q in
        record {
          to = with_premise (replace (fill ts) p) (replace (fill ts) b) m.to;
          is = with_premise_along u ts m.to m.is p b q;
          by = λ j us. ap (λ i. descend i E (reverse ts ++ us) (unstripped a)) (counted (length u.sorts) (length (u.premises ++ p ∷ []))
              (length u.premises) j (length-append u.premises (p ∷ [])))
              ∙ m.by (suc j) us
              ∙ ap (λ q. one_less (λ vs d. descend j E vs d) q us m.to) h;
        }
      where
        counted : (n i k j : ℕ) → i ≡ k + 1 → n + i + j ≡ n + k + suc j
        counted n i k j e = omega (arith, e)
