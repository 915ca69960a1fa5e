-- Entries in layers, and found by name.
use Rattle.std.specs.Prelude.{◌≡◌, ℕ, List, [], ◌∷◌, ◌++◌, map, if◌then◌else◌, Option, Some, None}
use Rattle.std.specs.declared.alloc.Global.{Global}
use Rattle.std.specs.declared.sync.Arc.{Arc}
use Rattle.std.specs.Arc.{arc_value}
use Rattle.fol_theory.specs.Syntax.{is_name}
use Rattle.env_theory.specs.Declarations.{name_of}
use Rattle.env_core.specs.declared.declaration.Decl.{Decl}
use Rattle.env_core.specs.declared.entry.Entry.{Entry}
use Rattle.env_core.specs.Meaning.{declaration}

-- the declaration of an entry
abbrev pub decl_of : Entry → Decl
decl_of e = e.decl

-- the declarations of entries, in the same order
abbrev pub decls : List Entry → List Decl
decls es = map decl_of es

-- the name that an entry's declaration declares
abbrev pub entry_name : Entry → List ℕ
entry_name e = name_of (declaration e.decl)

-- the newest entry of a name
abbrev pub found : List Entry → List ℕ → Option Entry
found [] n = None
found (e ∷ es) n = if is_name (entry_name e) n then Some e else found es n

-- the entries of a map, the oldest first, put onto older ones
abbrev pub onto : List Entry → List (List ℕ × Arc Entry Global) → List Entry
onto ds [] = ds
onto ds (p ∷ ps) = onto (arc_value p.1 ∷ ds) ps

-- each entry is found by the name that it declares
abbrev pub AreKeyed : List (List ℕ × Arc Entry Global) → Type 0
AreKeyed [] = Unit {0}
AreKeyed (p ∷ ps) = (p.0 ≡ entry_name (arc_value p.1)) × AreKeyed ps

-- no two entries have one name
abbrev pub AreApart : List Entry → Type 0
AreApart [] = Unit {0}
AreApart (e ∷ es) = (found es (entry_name e) ≡ None) × AreApart es

-- layers, the oldest first, put onto older entries
abbrev pub stacked : List Entry → List (Arc (List Entry) Global) → List Entry
stacked ds [] = ds
stacked ds (l ∷ ls) = stacked (arc_value l ++ ds) ls
