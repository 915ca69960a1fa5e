-- Looking names up.
use Rattle.std.proofs.Common.{◌≡◌, ℕ, suc, ◌+◌, ◌-◌, ◌<◌, ◌≤◌, true, false, List, [], ◌∷◌, ◌++◌, length, take, drop, get_or, map, refl, sym, ap, ◌∙◌, subst, if◌then◌else◌, arith}
use Rattle.std.proofs.Math.Seq.{take-suc, drop-cons}
use Rattle.vern_parse.specs.declared.raw.RawName.{RawName}
use Rattle.vern_parse.specs.Meaning.{name}
use Rattle.elab_theory.specs.Expressions.{under_names}
use Rattle.std.proofs.lemmas.List.{take-append-le, length-append}
use Rattle.fol_theory.specs.Syntax.{is_name}
use Rattle.env_theory.specs.Declarations.{Declaration}
use Rattle.env_core.specs.declared.declaration.Parameter.{Parameter}
use Rattle.elab_theory.specs.Locals.{Local, variable, hypothesis, Known, bound, assumed, declared, unknown, known, farther}
use Rattle.elab_core.specs.Scopes.{binder_local, binders_onto, past}

-- ---- the front of a list and its last

pub take_last : {X : Type 0} (xs : List X) (j : ℕ) (d : X) → 0 < j → j ≤ length xs → take j xs
    ≡ take (j - 1) xs ++ (get_or xs (j - 1) d ∷ [])
take_last xs j d p h = let more : suc (j - 1) ≡ j = omega (arith, p) in subst (λ k. take k xs
    ≡ take (j - 1) xs ++ (get_or xs (j - 1) d ∷ [])) more (take-suc xs (j - 1) d (omega (arith, p, h)))

pub binders_more : (c : List Local) (bs : List Parameter) (b : Parameter) → binders_onto c (bs ++ (b ∷ [])) ≡ binder_local b ∷
    binders_onto c bs
binders_more c [] b = refl
binders_more c (d ∷ bs) b = binders_more (binder_local d ∷ c) bs b

pub last_binder : (c : List Local) (bs : List Parameter) (j : ℕ) (d : Parameter) → 0 < j → j ≤ length bs → binders_onto c (take j bs)
    ≡ binder_local (get_or bs (j - 1) d) ∷ binders_onto c (take (j - 1) bs)
last_binder c bs j d p h = ap (binders_onto c) (take_last bs j d p h) ∙ binders_more c (take (j - 1) bs) (get_or bs (j - 1) d)

-- what stands before what is pushed
pub front_kept : {X : Type 0} (n : ℕ) (xs : List X) (x : X) → n ≤ length xs → take n (xs ++ (x ∷ [])) ≡ take n xs
front_kept n xs x h = take-append-le n xs (x ∷ []) h

pub longer : {X : Type 0} (n : ℕ) (xs ys : List X) (x : X) → n ≤ length xs → ys ≡ xs ++ (x ∷ []) → n ≤ length ys
longer n xs ys x h e = let more : length ys ≡ length xs + 1 = ap length e ∙ length-append xs (x ∷ []) in omega (arith, h, more)

-- the element at an index and those behind it
pub element_at : {X : Type 0} (xs : List X) (i : ℕ) (x : X) → i < length xs → x ≡ get_or xs i x → drop i xs ≡ x ∷ drop (i + 1) xs
element_at xs i x h e = let more : suc i ≡ i + 1 = omega arith in drop-cons xs i x h ∙ ap (λ y. y ∷ drop (suc i) xs) (sym e)
    ∙ ap (λ k. x ∷ drop k xs) more

-- ---- past variables

pub past_farther : (v : ℕ) (k : Known) → past v (farther k) ≡ past (v + 1) k
past_farther v (bound i s) = ap (λ j. bound j s) (omega arith)
past_farther v assumed = refl
past_farther v (declared d) = refl
past_farther v unknown = refl

-- a local of this name is what the name stands for, another is passed
pub here : (E : List Declaration) (n s m : List ℕ) (c : List Local) (v : ℕ) → is_name n m ≡ true → past v (known E (variable n s ∷ c) m)
    ≡ bound v s
here E n s m c v h = ap (λ q. past v (if q then bound 0 s else farther (known E c m))) h ∙ ap (λ j. bound j s) (omega arith)

pub there : (E : List Declaration) (n s m : List ℕ) (c : List Local) (v : ℕ) → is_name n m ≡ false → past v (known E (variable n s ∷ c) m)
    ≡ past (v + 1) (known E c m)
there E n s m c v h = ap (λ q. past v (if q then bound 0 s else farther (known E c m))) h ∙ past_farther v (known E c m)

pub assumed_here : (E : List Declaration) (n m : List ℕ) (c : List Local) (v : ℕ) → is_name n m ≡ true
    → past v (known E (hypothesis n ∷ c) m) ≡ assumed
assumed_here E n m c v h = ap (λ q. past v (if q then assumed else known E c m)) h

pub assumed_there : (E : List Declaration) (n m : List ℕ) (c : List Local) (v : ℕ) → is_name n m ≡ false
    → past v (known E (hypothesis n ∷ c) m) ≡ past v (known E c m)
assumed_there E n m c v h = ap (λ q. past v (if q then assumed else known E c m)) h

-- ---- the last binder

pub binder_here : (E : List Declaration) (c : List Local) (bs : List Parameter) (j : ℕ) (d : Parameter) (m : List ℕ) (v : ℕ) → 0 < j
    → j ≤ length bs → is_name (get_or bs (j - 1) d).name m ≡ true → past v (known E (binders_onto c (take j bs)) m)
    ≡ bound v (get_or bs (j - 1) d).sort
binder_here E c bs j d m v p h q = ap (λ l. past v (known E l m)) (last_binder c bs j d p h)
    ∙ here E (get_or bs (j - 1) d).name (get_or bs (j - 1) d).sort m (binders_onto c (take (j - 1) bs)) v q

pub binder_there : (E : List Declaration) (c : List Local) (bs : List Parameter) (j : ℕ) (d : Parameter) (m : List ℕ) (v : ℕ) → 0 < j
    → j ≤ length bs → is_name (get_or bs (j - 1) d).name m ≡ false → past v (known E (binders_onto c (take j bs)) m)
    ≡ past (v + 1) (known E (binders_onto c (take (j - 1) bs)) m)
binder_there E c bs j d m v p h q = ap (λ l. past v (known E l m)) (last_binder c bs j d p h)
    ∙ there E (get_or bs (j - 1) d).name (get_or bs (j - 1) d).sort m (binders_onto c (take (j - 1) bs)) v q

-- ---- a name more is bound

pub names_step : (r : List ℕ) (c : List Local) (xs : List RawName) (i : ℕ) (x : RawName) (bs : List Parameter) (b : Parameter) →
    i < length xs → x ≡ get_or xs i x → b.name ≡ x.text → b.sort ≡ r →
    under_names r (map name (drop i xs)) (binders_onto c bs) ≡ under_names r (map name (drop (i + 1) xs)) (binders_onto c (bs ++ (b ∷ [])))
names_step r c xs i x bs b h e n s =
    ap (λ l. under_names r (map name l) (binders_onto c bs)) (element_at xs i x h e)
    ∙ ap (λ l. under_names r (map name (drop (i + 1) xs)) l) (sym (binders_more c bs b ∙ ap (λ y. variable y b.sort ∷ binders_onto c bs) n
    ∙ ap (λ y. variable x.text y ∷ binders_onto c bs) s))

pub ruleset looking = (here, there, assumed_here, assumed_there)
