-- The declarations of the theory that declarations stand for.
use Rattle.std.specs.Prelude.{List, map}
use Rattle.term_core.specs.Term as term
use Rattle.term_core.specs.Formula as formula
use Rattle.env_theory.specs.Declarations as theory
use Rattle.env_core.specs.declared.declaration.Parameter.{Parameter}
use Rattle.env_core.specs.declared.declaration.Decl.{Decl}
use Rattle.env_core.specs.declared.declaration.Decl.TheVariants.{Sort, Fun, Pred, Stated, DefFun, DefPred}

-- the parameter that one stands for
abbrev pub parameter : Parameter → theory.Parameter
parameter p = record { name = p.name; sort = p.sort }

-- the declaration that one stands for
abbrev pub declaration : Decl → theory.Declaration
declaration (Sort n) = theory.sort n
declaration (Fun n ss s) = theory.function n ss.items s
declaration (Pred n ss) = theory.predicate n ss.items
declaration (Stated n a) = theory.stated n (formula.meaning a)
declaration (DefFun n ps s b) = theory.term n (map parameter ps.items) s (term.meaning b)
declaration (DefPred n ps b) = theory.formula n (map parameter ps.items) (formula.meaning b)

-- the declarations of a list, in the same order
abbrev pub declarations : List Decl → List theory.Declaration
declarations ds = map declaration ds
