-- What is built of each variant.
use Rattle.std.proofs.Common.{◌≡◌, ℕ, ◌-◌, ◌<◌, ◌≤◌, Bool, List, [], ◌∷◌, ◌++◌, length, take, get_or, map, refl, sym, ap, ◌∙◌}
use Rattle.vern_grammar.specs.Trees.{Name, Group}
use Rattle.fol_theory.specs.Syntax.{cons, terms as terms_in, Formula}
use Rattle.vern_parse.specs.declared.raw.RawName.{RawName}
use Rattle.vern_parse.specs.declared.raw.RawGroup.{RawGroup}
use Rattle.vern_grammar.specs.Trees.{expressions}
use Rattle.env_theory.specs.Declarations.{Declaration}
use Rattle.elab_theory.specs.Locals.{Local}
use Rattle.vern_parse.specs.declared.raw.RawExpr.{RawExpr}
use Rattle.vern_parse.specs.Meaning.{name, group, expression}
use Rattle.vern_parse.proofs.Trees as trees
use Rattle.term_core.specs.declared.term.Term.{Term}
use Rattle.term_core.specs.Term.{meaning, list_meaning}
use Rattle.term_core.proofs.Applications as application
use Rattle.term_core.proofs.Variants as variant
use Rattle.elab_core.specs.Built.{term_built, terms_built}
use Rattle.elab_theory.specs.Expressions.{quantifier, over_groups, over_names}
use Rattle.elab_core.proofs.Scoped.{take_last}

pub ruleset terms = (trees.constants, trees.governed, trees.applications, application.applications)

-- arguments one by one
pub terms_each : (E : List Declaration) (c : List Local) (ys : List RawExpr) → terms_built E c (expressions (map expression ys))
    ≡ terms_in (map (λ y. term_built E c (expression y)) ys)
terms_each E c [] = refl
terms_each E c (y ∷ ys) = ap (λ ts. cons (term_built E c (expression y)) ts) (terms_each E c ys)

pub list_built : (E : List Declaration) (c : List Local) (ys part : List RawExpr) (us : List Term) → part ≡ ys → map meaning us
    ≡ map (λ y. term_built E c (expression y)) part → list_meaning us ≡ terms_built E c (expressions (map expression ys))
list_built E c ys part us e h = ap terms_in (h ∙ ap (map (λ y. term_built E c (expression y))) e) ∙ sym (terms_each E c ys)

pub ruleset applied = (application.applications)

pub ruleset constants = (variant.meaning_False, variant.meaning_True)

pub ruleset formulas = (trees.constants, trees.governed, trees.applications, constants)

map_append : {X Y : Type 0} (f : X → Y) (xs ys : List X) → map f (xs ++ ys) ≡ map f xs ++ map f ys
map_append f [] ys = refl
map_append f (x ∷ xs) ys = ap (λ l. f x ∷ l) (map_append f xs ys)

each_more : (q : Bool) (s : List ℕ) (xs : List Name) (x : Name) (a : Formula) → over_names q s (xs ++ (x ∷ [])) a
    ≡ over_names q s xs (quantifier q s x.text a)
each_more q s [] x a = refl
each_more q s (y ∷ xs) x a = ap (quantifier q s y.text) (each_more q s xs x a)

all_more : (q : Bool) (gs : List Group) (g : Group) (a : Formula) → over_groups q (gs ++ (g ∷ [])) a
    ≡ over_groups q gs (over_names q g.sort.text g.names a)
all_more q [] g a = refl
all_more q (h ∷ gs) g a = ap (over_names q h.sort.text h.names) (all_more q gs g a)

pub each_last : (q : Bool) (s : List ℕ) (xs : List RawName) (j : ℕ) (d : RawName) (a : Formula) → 0 < j → j ≤ length xs →
    over_names q s (map name (take j xs)) a ≡ over_names q s (map name (take (j - 1) xs)) (quantifier q s (get_or xs (j - 1) d).text a)
each_last q s xs j d a p h =
    ap (λ l. over_names q s (map name l) a) (take_last xs j d p h)
    ∙ ap (λ l. over_names q s l a) (map_append name (take (j - 1) xs) (get_or xs (j - 1) d ∷ []))
    ∙ each_more q s (map name (take (j - 1) xs)) (name (get_or xs (j - 1) d)) a

pub all_last : (q : Bool) (gs : List RawGroup) (j : ℕ) (d : RawGroup) (a : Formula) → 0 < j → j ≤ length gs →
    over_groups q (map group (take j gs)) a
    ≡ over_groups q (map group (take (j - 1) gs)) (over_names q (get_or gs (j - 1) d).sort.text (map name (get_or gs
    (j - 1) d).names.items) a)
all_last q gs j d a p h =
    ap (λ l. over_groups q (map group l) a) (take_last gs j d p h)
    ∙ ap (λ l. over_groups q l a) (map_append group (take (j - 1) gs) (get_or gs (j - 1) d ∷ []))
    ∙ all_more q (map group (take (j - 1) gs)) (group (get_or gs (j - 1) d)) a
