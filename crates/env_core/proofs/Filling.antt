-- The arguments of definitions put in, step by step.
use Rattle.std.proofs.Common.{◌≡◌, ℕ, zero, suc, ◌+◌, ◌-◌, ◌<◌, ◌≤◌, List, [], ◌∷◌, ◌++◌, length, get_or, take, map, refl, sym, ap, subst}
use Rattle.std.proofs.Common.{◌∙◌, Option, Some, None, Bool, true, false, if◌then◌else◌, ◌==◌, arith}
use Rattle.std.specs.declared.alloc.Global.{Global}
use Rattle.std.specs.declared.sync.Arc.{Arc}
use Rattle.std.specs.declared.sync.ArcSlice.{ArcSlice}
use Rattle.std.specs.Arc.{arc_slice_items, arc_value}
use Rattle.std.proofs.lemmas.Bool.Decides.{nat_tests}
use Rattle.std.proofs.lemmas.List.{nil_from_length}
use Rattle.std.proofs.Math.Path.{fun_ext}
use Rattle.fol_theory.specs.Syntax.{Term, var, app, Terms, nil, cons, Formula, truth, falsity, pred, equal, both, either, implies, all, ex}
use Rattle.fol_theory.specs.Syntax.{terms}
use Rattle.fol_theory.specs.Printing.{unnamed}
use Rattle.fol_theory.specs.Substitution.{replace_terms, replace, raise}
use Rattle.fol_theory.specs.Measures.{term_nodes, terms_nodes}
use Rattle.fol_theory.proofs.Laws.{replace_twice, replace_identity, terms_identity}
use Rattle.term_core.specs.Term.{meaning, list_meaning, meaning_step}
use Rattle.term_core.specs.Formula as formulas
use Rattle.term_core.specs.declared.term.Term.{Term as Tree}
use Rattle.term_core.specs.declared.term.Term.TheOpen as layer
use Rattle.term_core.specs.declared.term.Term.TheVariants as trees
use Rattle.term_core.specs.declared.term.Term.TheFolds.{fold-roll-Term}
use Rattle.term_core.specs.declared.formula.Formula.{Formula as FormulaTree}
use Rattle.term_core.specs.declared.formula.Formula.TheVariants as made
use Rattle.term_core.proofs.Shapes.{kind, is_pred, made_alike}
use Rattle.term_core.proofs.Variants.{meaning_Pred, meaning_Eq, meaning_All, meaning_Ex}
use Rattle.env_theory.specs.Declarations.{Parameter, Declaration, sort, function, predicate, stated, term, formula, find}
use Rattle.env_theory.specs.Typing.{Environment}
use Rattle.env_theory.specs.Normal.{many, argument}
use Rattle.env_theory.specs.Scopes.{Scope, whole, body, held}
use Rattle.env_theory.specs.Machine.{formula_body, formula_left}
use Rattle.env_theory.specs.Heads.{head_form, IsNoPredicate}
use Rattle.env_theory.proofs.Values.{value_whole, value_parameter, value_bound, value_outside, formula_equal, formula_all, formula_ex}
use Rattle.env_theory.proofs.HeadLaws.{head_defined, head_rigid, head_stays}
use Rattle.env_theory.proofs.FormulaCosts.{defined_formula_step}
use Rattle.env_core.specs.declared.head.Frame.{Frame}
use Rattle.env_core.specs.Filled.{within, scope_of, beneath, filled, all_filled, formula_filled}

-- ---- frames

pub pushed : (c : Scope) (fs : List Frame) (f : Frame) → within c (fs ++ (f ∷ [])) ≡ body (list_meaning f.arguments.now) (within c fs)
pushed c [] f = refl
pushed c (g ∷ fs) f = pushed (body (list_meaning g.arguments.now) c) fs f

-- the first so many and one more
one_more : (c : Scope) (fs : List Frame) (n : ℕ) (d : Frame) → n < length fs
    → within c (take (suc n) fs) ≡ body (list_meaning (get_or fs n d).arguments.now) (within c (take n fs))
one_more c [] n d h = absurd (none n h)
  where
    none : (n : ℕ) → n < 0 → ⊥
    none n h = omega (arith, h)
one_more c (g ∷ fs) zero d h = refl
one_more c (g ∷ fs) (suc n) d h = one_more (body (list_meaning g.arguments.now) c) fs n d (omega (arith, h))

-- ---- a definition at the head

defined_body : (o : Option Declaration) (b : Formula) → formula_body o ≡ Some b
    → (n : List ℕ) × (ps : List Parameter) × (o ≡ Some (formula n ps b))
defined_body None b h = cc
defined_body (Some (sort n)) b h = cc
defined_body (Some (function n ss s)) b h = cc
defined_body (Some (predicate n ss)) b h = cc
defined_body (Some (stated n a)) b h = cc
defined_body (Some (term n ps s c)) b h = cc
defined_body (Some (formula n ps c)) b h = (n, ps, ap (λ o. of o) h)
  where
    of : Option Formula → Option Declaration
    of None = None
    of (Some d) = Some (formula n ps d)

-- the arguments put into a formula are read in a body
pub arguments_read : (c : Scope) (ts : Terms) (a : Formula) → formula_filled c 0 (replace (argument ts) a) ≡ formula_filled (body ts c) 0 a
arguments_read c ts a = replace_twice (held [] c) (argument ts) a ∙ ap (λ ρ. replace ρ a) (fun_ext (λ i. refl))

pub head_step : (E : List Declaration) → Environment E → (fs gs : List Frame) (f : Frame) (a : Formula) (p : List ℕ) (ts : Terms)
    (b : Formula) → a ≡ pred p ts → formula_body (find E p) ≡ Some b → gs ≡ fs ++ (f ∷ []) → list_meaning f.arguments.now ≡ ts
    → (formula_filled (scope_of gs) 0 (head_form E b) ≡ formula_filled (scope_of fs) 0 (head_form E a))
    × (formula_left E (scope_of gs) b < formula_left E (scope_of fs) a)
head_step E x fs gs f a p ts b e h g k =
    let d = defined_body (find E p) b h in
    let s : scope_of gs ≡ body ts (scope_of fs) =
    ap (λ hs. scope_of hs) g ∙ pushed whole fs f ∙ ap (λ us. body us (scope_of fs)) k in (
      ap (λ c. formula_filled c 0 (head_form E b)) s ∙ sym (arguments_read (scope_of fs) ts (head_form E b))
          ∙ ap (formula_filled (scope_of fs) 0) (sym (ap (head_form E) e ∙ head_defined E x p d.0 d.1 b d.2 ts)),
      subst (λ c. formula_left E c b < formula_left E (scope_of fs) a) (sym s)
          (subst (λ z. formula_left E (body ts (scope_of fs)) b < formula_left E (scope_of fs) z) (sym e)
          (defined_formula_step E x p d.0 d.1 b d.2 (scope_of fs) ts)),
    )

-- ---- variables

pub filled_bound : (c : Scope) (n by i : ℕ) → i < n → filled c n by (var i) ≡ var (i + by)
filled_bound c zero by i h = absurd (none i h)
  where
    none : (i : ℕ) → i < 0 → ⊥
    none i h = omega (arith, h)
filled_bound c (suc n) by zero h = value_bound [] (beneath c n) by ∙ ap var (omega arith)
filled_bound c (suc n) by (suc i) h = value_outside [] (beneath c n) by i ∙ filled_bound c n (by + 1) i (omega (arith, h)) ∙ ap var (omega arith)

pub filled_older : (c : Scope) (n by i : ℕ) → n ≤ i → filled c n by (var i) ≡ filled c 0 (by + n) (var (i - n))
filled_older c zero by i h = λ k. filled c 0 (more by k) (var (fewer i k))
  where
    more : (by : ℕ) → by ≡ by + 0
    more by = omega arith

    fewer : (i : ℕ) → i ≡ i - 0
    fewer i = omega arith
filled_older c (suc n) by zero h = absurd (none n h)
  where
    none : (n : ℕ) → suc n ≤ 0 → ⊥
    none n h = omega (arith, h)
filled_older c (suc n) by (suc i) h = value_outside [] (beneath c n) by i ∙ filled_older c n (by + 1) i (omega (arith, h))
    ∙ (λ k. filled c 0 (more by n k) (var (fewer i n k)))
  where
    more : (by n : ℕ) → by + 1 + n ≡ by + suc n
    more by n = omega arith

    fewer : (i n : ℕ) → i - n ≡ suc i - suc n
    fewer i n = omega arith

-- ---- terms

none_at : (i : ℕ) → raise 0 0 i ≡ var i
none_at i = grind (arith, nat_tests)

-- the terms of a formula are behind no further quantifier
pub all_here : (c : Scope) (n : ℕ) (ts : Terms) → all_filled c n 0 ts ≡ replace_terms (held [] (beneath c n)) ts
all_here c n ts = ap (λ ρ. replace_terms ρ (replace_terms (held [] (beneath c n)) ts)) (fun_ext none_at)
    ∙ terms_identity (replace_terms (held [] (beneath c n)) ts)

pub each_filled : (c : Scope) (n by : ℕ) (ts : List Tree)
    → all_filled c n by (list_meaning ts) ≡ terms (map (filled c n by) (map meaning ts))
each_filled c n by [] = refl
each_filled c n by (t ∷ ts) = ap (cons (filled c n by (meaning t))) (each_filled c n by ts)

pub all_made : (c : Scope) (n by : ℕ) (ts part us : List Tree) → part ≡ ts → map meaning us ≡ map (filled c n by) (map meaning part)
    → list_meaning us ≡ all_filled c n by (list_meaning ts)
all_made c n by ts part us e h =
    ap terms h ∙ ap (λ l. terms (map (filled c n by) (map meaning l))) e ∙ sym (each_filled c n by ts)

-- one of them has no more nodes than all
pub element_nodes : (c : Scope) (n by : ℕ) (ts : List Tree) (i : ℕ) (t : Tree) → i < length ts → t ≡ get_or ts i t
    → term_nodes (filled c n by (meaning t)) ≤ terms_nodes (all_filled c n by (list_meaning ts))
element_nodes c n by [] i t h e = absurd (none i h)
  where
    none : (i : ℕ) → i < 0 → ⊥
    none i h = omega (arith, h)
element_nodes c n by (u ∷ us) zero t h e =
    subst (λ z. term_nodes (filled c n by (meaning z)) ≤ terms_nodes (all_filled c n by (list_meaning (u ∷ us)))) (sym e) (omega arith)
element_nodes c n by (u ∷ us) (suc i) t h e = omega (arith, element_nodes c n by us i t (omega (arith, h)) e)

pub none_from_length : (fs : List Frame) (n : ℕ) → n ≡ length fs → (n == 0) ≡ true → fs ≡ []
none_from_length fs n e h = nil_from_length fs (sym e ∙ zero_from n h)
  where
    zero_from : (n : ℕ) → (n == 0) ≡ true → n ≡ 0
    zero_from n h = grind (arith, nat_tests)

-- with no frames a formula stays
pub unfilled : (fs : List Frame) (a : Formula) → fs ≡ [] → formula_filled (scope_of fs) 0 a ≡ a
unfilled fs a e = ap (λ gs. formula_filled (scope_of gs) 0 a) e ∙ replace_identity a

-- what stands at the last frame is read before it
variable_step : (fs : List Frame) (left by i : ℕ) (d : Frame) → 0 < left → left ≤ length fs
    → filled (scope_of (take left fs)) 0 by (var i)
    ≡ filled (scope_of (take (left - 1) fs)) 0 by (argument (list_meaning (get_or fs (left - 1) d).arguments.now) i)
variable_step fs zero by i d p h = absurd (none p)
  where
    none : 0 < 0 → ⊥
    none p = omega (arith, p)
variable_step fs (suc n) by i d p h =
    let m : n ≡ suc n - 1 = omega arith in
    ap (λ c. filled c 0 by (var i)) (one_more whole fs n d (omega (arith, h)))
    ∙ value_parameter [] (list_meaning (get_or fs n d).arguments.now) (scope_of (take n fs)) by i
    ∙ ap (λ k. filled (scope_of (take k fs)) 0 by (argument (list_meaning (get_or fs k d).arguments.now) i)) m

pub argument_step : (fs : List Frame) (left by i : ℕ) (d : Frame) (t : Term) → 0 < left → left ≤ length fs
    → t ≡ argument (list_meaning (get_or fs (left - 1) d).arguments.now) i
    → filled (scope_of (take left fs)) 0 by (var i) ≡ filled (scope_of (take (left - 1) fs)) 0 by t
argument_step fs left by i d t p h e = variable_step fs left by i d p h ∙ ap (filled (scope_of (take (left - 1) fs)) 0 by) (sym e)

-- with no frame before it a variable stays
pub last_variable : (fs : List Frame) (left by i : ℕ) → left ≤ 0 → filled (scope_of (take left fs)) 0 by (var i) ≡ var (i + by)
last_variable fs left by i h = ap (λ k. filled (scope_of (take k fs)) 0 by (var i)) (nothing left h) ∙ from fs
  where
    nothing : (k : ℕ) → k ≤ 0 → k ≡ 0
    nothing k h = omega (arith, h)

    from : (fs : List Frame) → filled (scope_of (take 0 fs)) 0 by (var i) ≡ var (i + by)
    from [] = value_whole [] by i
    from (f ∷ fs) = value_whole [] by i

-- ---- arguments

pub many_terms : (ts : List Tree) → many (list_meaning ts) ≡ length ts
many_terms [] = refl
many_terms (t ∷ ts) = ap suc (many_terms ts)

-- the argument for a variable stands as far from the end
pub argument_at : (ts : List Tree) (i : ℕ) (t : Tree) → i < length ts → t ≡ get_or ts (length ts - 1 - i) t
    → argument (list_meaning ts) i ≡ meaning t
argument_at [] i t h e = absurd (none h)
  where
    none : i < 0 → ⊥
    none h = omega (arith, h)
argument_at (u ∷ us) i t h e = go (i == many (list_meaning us)) refl (λ l k. argument_at us i t l k)
  where
    size : many (list_meaning us) ≡ length us
    size = many_terms us

    front : (i m n : ℕ) → m ≡ n → (i == m) ≡ true → suc n - 1 - i ≡ 0
    front i m n e q = grind (arith, nat_tests)

    inner : (i m n : ℕ) → m ≡ n → i < suc n → (i == m) ≡ false → i < n
    inner i m n e h q = grind (arith, nat_tests)

    further : (i n : ℕ) → i < n → suc n - 1 - i ≡ suc (n - 1 - i)
    further i n h = omega (arith, h)

    go : (q : Bool) → (i == many (list_meaning us)) ≡ q → (i < length us → t ≡ get_or us (length us - 1 - i) t
        → argument (list_meaning us) i ≡ meaning t) →
        (if q then meaning u else argument (list_meaning us) i) ≡ meaning t
    go true q f = ap meaning (sym (e ∙ ap (λ k. get_or (u ∷ us) k t) (front i (many (list_meaning us)) (length us) size q)))
    go false q f = let l = inner i (many (list_meaning us)) (length us) size h q in f l (e
        ∙ ap (λ k. get_or (u ∷ us) k t) (further i (length us) l))

-- beyond them there is none
pub argument_beyond : (ts : List Tree) (i : ℕ) → length ts ≤ i → argument (list_meaning ts) i ≡ app [] nil
argument_beyond [] i h = refl
argument_beyond (u ∷ us) i h = ap (λ q. if q then meaning u else argument (list_meaning us) i)
    (other i (many (list_meaning us)) (length us) (many_terms us) h) ∙ argument_beyond us i (omega (arith, h))
  where
    other : (i m n : ℕ) → m ≡ n → suc n ≤ i → (i == m) ≡ false
    other i m n e h = grind (arith, nat_tests)

-- ---- which formulas are their own head forms

no_predicate : (a : Formula) → (kind (unnamed a) ≡ is_pred → ⊥) → IsNoPredicate a
no_predicate truth h = tt
no_predicate falsity h = tt
no_predicate (pred p ts) h = h refl
no_predicate (equal s t u) h = tt
no_predicate (both a b) h = tt
no_predicate (either a b) h = tt
no_predicate (implies a b) h = tt
no_predicate (all s x a) h = tt
no_predicate (ex s x a) h = tt

pub other_head : (E : List Declaration) (a : FormulaTree) → ((p : List ℕ) (ts : ArcSlice Tree Global) → a ≡ made.Pred p ts → ⊥)
    → head_form E (formulas.meaning a) ≡ formulas.meaning a
other_head E a h = head_stays E (formulas.meaning a)
    (no_predicate (formulas.meaning a) (λ e. let w = made_alike is_pred a a e refl in h w.0 w.1 w.2))

pub undefined_head : (E : List Declaration) → Environment E → (a : Formula) (p : List ℕ) (ts : Terms) → a ≡ pred p ts
    → formula_body (find E p) ≡ None → head_form E a ≡ a
undefined_head E x a p ts e h = ap (head_form E) e ∙ head_rigid E x p ts h ∙ sym e

pub meaning_Var : (i : ℕ) → meaning (trees.Var i) ≡ var i
meaning_Var i = ap meaning (sym (trees.rolls-Var i)) ∙ fold-roll-Term Term meaning_step (layer.Var i)

pub older_filled : (fs : List Frame) (n by i around : ℕ) (t : Tree) → t ≡ trees.Var i → n ≤ i → around ≡ by + n
    → filled (scope_of fs) n by (meaning t) ≡ filled (scope_of fs) 0 around (var (i - n))
older_filled fs n by i around t e h k =
    ap (filled (scope_of fs) n by) (ap meaning e ∙ meaning_Var i) ∙ filled_older (scope_of fs) n by i h
    ∙ ap (λ m. filled (scope_of fs) 0 m (var (i - n))) (sym k)

-- ---- what becomes of each variant

one_further : (n : ℕ) → suc n ≡ n + 1
one_further n = omega arith

pub filled_Pred : (c : Scope) (n : ℕ) (a : FormulaTree) (p : List ℕ) (ts : ArcSlice Tree Global) (us : List Tree)
    → a ≡ made.Pred p ts → us ≡ arc_slice_items ts
    → formula_filled c n (formulas.meaning a) ≡ pred p (all_filled c n 0 (list_meaning us))
filled_Pred c n a p ts us e h =
    ap (formula_filled c n) (ap formulas.meaning e ∙ meaning_Pred p ts)
    ∙ ap (pred p) (sym (all_here c n (list_meaning (arc_slice_items ts))))
    ∙ ap (λ l. pred p (all_filled c n 0 (list_meaning l))) (sym h)

pub filled_Eq : (c : Scope) (n : ℕ) (a : FormulaTree) (s : List ℕ) (t u : Tree) → a ≡ made.Eq s t u
    → formula_filled c n (formulas.meaning a) ≡ equal s (filled c n 0 (meaning t)) (filled c n 0 (meaning u))
filled_Eq c n a s t u e =
    ap (formula_filled c n) (ap formulas.meaning e ∙ meaning_Eq s t u) ∙ formula_equal [] (beneath c n) s (meaning t) (meaning u)

pub filled_All : (c : Scope) (n : ℕ) (a : FormulaTree) (s x : List ℕ) (b : Arc FormulaTree Global) → a ≡ made.All s x b
    → formula_filled c n (formulas.meaning a) ≡ all s x (formula_filled c (n + 1) (formulas.meaning (arc_value b)))
filled_All c n a s x b e =
    ap (formula_filled c n) (ap formulas.meaning e ∙ meaning_All s x b)
    ∙ formula_all [] (beneath c n) s x (formulas.meaning (arc_value b))
    ∙ ap (λ m. all s x (formula_filled c m (formulas.meaning (arc_value b)))) (one_further n)

pub filled_Ex : (c : Scope) (n : ℕ) (a : FormulaTree) (s x : List ℕ) (b : Arc FormulaTree Global) → a ≡ made.Ex s x b
    → formula_filled c n (formulas.meaning a) ≡ ex s x (formula_filled c (n + 1) (formulas.meaning (arc_value b)))
filled_Ex c n a s x b e =
    ap (formula_filled c n) (ap formulas.meaning e ∙ meaning_Ex s x b)
    ∙ formula_ex [] (beneath c n) s x (formulas.meaning (arc_value b))
    ∙ ap (λ m. ex s x (formula_filled c m (formulas.meaning (arc_value b)))) (one_further n)
