-- Entries and their declarations.
use Rattle.std.proofs.Common.{◌≡◌, ℕ, ◌∷◌, List, [], length, refl, sym, ap, ◌∙◌, Bool, true, false, inl, inr, if◌then◌else◌, Option}
use Rattle.std.proofs.Common.{Some, None, option_map, arith}
use Rattle.fol_theory.specs.Syntax.{is_name}
use Rattle.fol_theory.specs.Contexts.{IsFromLast}
use Rattle.env_theory.specs.Declarations.{find, name_of}
use Rattle.env_core.specs.declared.declaration.Decl.{Decl}
use Rattle.env_core.specs.declared.entry.Entry.{Entry}
use Rattle.env_core.specs.Meaning.{declaration, declarations}
use Rattle.env_core.specs.Layers.{decls, decl_of, found, entry_name}

-- as many of each
pub as_many_kept : (es : List Entry) → length es ≡ length (decls es)
as_many_kept [] = refl
as_many_kept (e ∷ es) = let k = as_many_kept es in omega (arith, k)

-- the declaration of the entry that is found is the one that is found
pub found_declaration : (es : List Entry) (n : List ℕ) → option_map (λ e. declaration (decl_of e)) (found es n)
    ≡ find (declarations (decls es)) n
found_declaration [] n = refl
found_declaration (e ∷ es) n = go (is_name (entry_name e) n) (found_declaration es n)
  where
    go : (q : Bool) → option_map (λ x. declaration (decl_of x)) (found es n) ≡ find (declarations (decls es)) n
        → option_map (λ x. declaration (decl_of x)) (if q then Some e else found es n)
        ≡ (if q then Some (declaration e.decl) else find (declarations (decls es)) n)
    go true k = refl
    go false k = k

pub found_new : (es : List Entry) (n : List ℕ) → find (declarations (decls es)) n ≡ None → found es n ≡ None
found_new es n h = go (found es n) (found_declaration es n ∙ h)
  where
    go : (o : Option Entry) → option_map (λ e. declaration (decl_of e)) o ≡ None → o ≡ None
    go None k = refl
    go (Some e) k = absurd (impossible k)
      where
        impossible : Some (declaration (decl_of e)) ≡ None → ⊥
        impossible k = cc

pub numbered : (es : List Entry) (i : ℕ) (e : Entry) → IsFromLast es i e → IsFromLast (decls es) i e.decl
numbered [] i e h = h
numbered (x ∷ es) i e (inl h) = inl (h.0 ∙ as_many_kept es, ap decl_of h.1)
numbered (x ∷ es) i e (inr h) = inr (numbered es i e h)

pub ruleset keeping = (as_many_kept, found_declaration, found_new, numbered)
