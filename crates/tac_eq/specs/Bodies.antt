-- What a declaration puts in for a name.
use Rattle.std.specs.Prelude.{◌≡◌, ℕ, List}
use Rattle.fol_theory.specs.Syntax.{Term, Terms, Formula, app, pred}
use Rattle.fol_theory.specs.Substitution.{replace, replace_term}
use Rattle.env_theory.specs.Declarations.{Declaration}
use Rattle.env_theory.specs.Normal.{argument, expand, expand_term, expand_terms}

-- nothing is put in for a predicate of this name
abbrev pub IsOther : Declaration → List ℕ → Type 0
IsOther d p = (ts : Terms) → expand d (pred p ts) ≡ pred p (expand_terms d ts)

-- this is put in for it
abbrev pub IsBody : Declaration → List ℕ → Formula → Type 0
IsBody d p b = (ts : Terms) → expand d (pred p ts) ≡ replace (argument ts) b

-- nothing is put in for a function of this name
abbrev pub IsOtherTerm : Declaration → List ℕ → Type 0
IsOtherTerm d f = (ts : Terms) → expand_term d (app f ts) ≡ app f (expand_terms d ts)

-- this is put in for it
abbrev pub IsTermBody : Declaration → List ℕ → Term → Type 0
IsTermBody d f b = (ts : Terms) → expand_term d (app f ts) ≡ replace_term (argument (expand_terms d ts)) b
