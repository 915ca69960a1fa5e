-- Parameters that are bound one after another are those of elab_theory.
use Rattle.std.proofs.Common.{◌≡◌, ℕ, Bool, true, false, ◌||◌, List, [], ◌∷◌, ◌++◌, map, if◌then◌else◌, Result, Ok, Err, refl, sym, ap, ◌∙◌}
use Rattle.std.proofs.lemmas.List.{append_assoc}
use Rattle.std.proofs.lemmas.List.Folds.{list_any-append}
use Rattle.vern_grammar.specs.Trees.{Name, Group}
use Rattle.fol_theory.specs.Syntax.{is_name}
use Rattle.env_theory.specs.Declarations.{Parameter, Declaration}
use Rattle.base_core.specs.Answers.{and_then}
use Rattle.elab_theory.specs.Faults.{Fault, already_declared}
use Rattle.elab_theory.specs.Locals.{Local, locals_in, known}
use Rattle.elab_theory.specs.Expressions.{sort_at}
use Rattle.elab_theory.specs.Sentences.{is_among, new_names, names_of, with_sort, locals_of, parameters_of}
use Rattle.elab_theory.proofs.Formed.{sort_text}
use Rattle.env_core.specs.declared.declaration.Parameter.{Parameter as Made}
use Rattle.env_core.specs.Meaning.{parameter}
use Rattle.term_core.specs.declared.context.Context.TheVariants as context
use Rattle.term_core.proofs.Layers.{slots_Empty}
use Rattle.elab_core.specs.Scopes.{binder_local, binders_onto, locals}
use Rattle.elab_core.specs.Parameters.{with_parameter, names_added, groups_added}

-- ---- what parameters are to names

onto_locals : (bs : List Made) (c : List Local) → binders_onto c bs ≡ locals_of (map parameter bs) ++ c
onto_locals [] c = refl
onto_locals (b ∷ bs) c = onto_locals bs (binder_local b ∷ c) ∙ sym (append_assoc (locals_of (map parameter bs)) (binder_local b ∷ []) c)

nothing_behind : {X : Type 0} (xs : List X) → xs ++ [] ≡ xs
nothing_behind [] = refl
nothing_behind (x ∷ xs) = ap (λ l. x ∷ l) (nothing_behind xs)

pub binders_alone : (bs : List Made) → binders_onto [] bs ≡ locals_of (map parameter bs)
binders_alone bs = onto_locals bs [] ∙ nothing_behind (locals_of (map parameter bs))

pub empty_locals : (bs : List Made) → locals context.Empty bs ≡ locals_of (map parameter bs)
empty_locals bs = ap (λ c. binders_onto (locals_in c) bs) slots_Empty ∙ binders_alone bs

pub ruleset looking = (slots_Empty, binders_alone)

-- ---- one parameter more

names_more : (ps : List Parameter) (n s : List ℕ) → names_of (with_parameter ps n s) ≡ names_of ps ++ (n ∷ [])
names_more [] n s = refl
names_more (p ∷ ps) n s = ap (λ l. p.name ∷ l) (names_more ps n s)

either_way : (p q : Bool) → (p || (q || false)) ≡ (q || p)
either_way true true = refl
either_way true false = refl
either_way false true = refl
either_way false false = refl

-- a name is among names and one more, wherever that stands
among_more : (ps : List Parameter) (n s m : List ℕ) → is_among m (names_of (with_parameter ps n s)) ≡ is_among m (n ∷ names_of ps)
among_more ps n s m =
    ap (is_among m) (names_more ps n s)
    ∙ list_any-append (is_name m) (names_of ps) (n ∷ [])
    ∙ either_way (is_among m (names_of ps)) (is_name m n)

-- what is new depends on which names there are, and not on their order
same_new : (xs : List Name) (ms ns : List (List ℕ)) → ((m : List ℕ) → is_among m ms ≡ is_among m ns) → new_names ms xs ≡ new_names ns xs
same_new [] ms ns h = refl
same_new (x ∷ xs) ms ns h =
    ap (λ q. if q then Err (already_declared x.span) else and_then (new_names (x.text ∷ ms) xs) (λ l. Ok (x.text ∷ l))) (h x.text)
    ∙ ap (λ r. if is_among x.text ns then Err (already_declared x.span) else and_then r (λ l. Ok (x.text ∷ l)))
    (same_new xs (x.text ∷ ms) (x.text ∷ ns) (λ m. ap (λ q. is_name m x.text || q) (h m)))

behind_one : (ps : List Parameter) (n s : List ℕ) (r : Result (List (List ℕ)) Fault)
    → and_then r (λ ns. Ok (with_parameter ps n s ++ with_sort ns s))
    ≡ and_then (and_then r (λ l. Ok (n ∷ l))) (λ ns. Ok (ps ++ with_sort ns s))
behind_one ps n s (Ok ns) = ap (λ l. Ok l) (append_assoc ps (record { name = n; sort = s } ∷ []) (with_sort ns s))
behind_one ps n s (Err e) = refl

pub names_whole : (xs : List Name) (ps : List Parameter) (s : List ℕ)
    → names_added ps s xs ≡ and_then (new_names (names_of ps) xs) (λ ns. Ok (ps ++ with_sort ns s))
names_whole [] ps s = ap (λ l. Ok l) (sym (nothing_behind ps))
names_whole (x ∷ xs) ps s = go (is_among x.text (names_of ps))
    (names_whole xs (with_parameter ps x.text s) s
    ∙ ap (λ r. and_then r (λ ns. Ok (with_parameter ps x.text s ++ with_sort ns s)))
    (same_new xs (names_of (with_parameter ps x.text s)) (x.text ∷ names_of ps) (λ m. among_more ps x.text s m))
    ∙ behind_one ps x.text s (new_names (x.text ∷ names_of ps) xs))
  where
    go : (q : Bool) → names_added (with_parameter ps x.text s) s xs
        ≡ and_then (and_then (new_names (x.text ∷ names_of ps) xs) (λ l. Ok (x.text ∷ l))) (λ ns. Ok (ps ++ with_sort ns s))
        → (if q then Err (already_declared x.span) else names_added (with_parameter ps x.text s) s xs)
        ≡ and_then (if q then Err (already_declared x.span) else and_then (new_names (x.text ∷ names_of ps) xs)
        (λ l. Ok (x.text ∷ l))) (λ ns. Ok (ps ++ with_sort ns s))
    go true h = refl
    go false h = h

-- ---- groups

group_and_more : (n : List ℕ) (ps : List Parameter) (f : List Parameter → Result (List Parameter) Fault)
    (g : List Parameter → Result (List Parameter) Fault) → ((qs : List Parameter) → f qs ≡ g qs) → (r : Result (List (List ℕ)) Fault)
    (t : Result (List ℕ) Fault) → ((s : List ℕ) → t ≡ Ok s → s ≡ n)
    → and_then (and_then (and_then r (λ ns. Ok (ps ++ with_sort ns n))) (λ qs. and_then t (λ _. Ok qs))) f
    ≡ and_then r (λ ns. and_then t (λ s. g (ps ++ with_sort ns s)))
group_and_more n ps f g e (Ok ns) (Ok s) h = e (ps ++ with_sort ns n) ∙ ap (λ s. g (ps ++ with_sort ns s)) (sym (h s refl))
group_and_more n ps f g e (Ok ns) (Err d) h = refl
group_and_more n ps f g e (Err d) t h = refl

pub groups_whole : (E : List Declaration) (gs : List Group) (ps : List Parameter) → groups_added E ps gs ≡ parameters_of E ps gs
groups_whole E [] ps = refl
groups_whole E (g ∷ gs) ps =
    let t = sort_at (known E (locals_of ps) g.sort.text) g.sort in
    ap (λ r. and_then (and_then r (λ qs. and_then t (λ _. Ok qs))) (λ qs. groups_added E qs gs)) (names_whole g.names ps g.sort.text)
    ∙ group_and_more g.sort.text ps (λ qs. groups_added E qs gs) (λ qs. parameters_of E qs gs) (λ qs. groups_whole E gs qs)
    (new_names (names_of ps) g.names) t (λ s e. sort_text (known E (locals_of ps) g.sort.text) g.sort s e)
