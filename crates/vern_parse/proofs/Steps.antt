-- How the names of a sentence go on, token by token.
use Rattle.std.proofs.Common.{◌≡◌, List, [], ◌∷◌, ◌++◌, Option, Some, None, Ok, Err, refl, ap}
use Rattle.vern_grammar.specs.Trees.{Name}
use Rattle.vern_grammar.specs.Kinds.{Lexeme}
use Rattle.vern_sentence.specs.Slots.{names, name_of, one_more, cut}
use Rattle.vern_sentence.specs.Patterns.{name_at, name_front}

abbrev Names : Type 0
Names = List Name × List Lexeme

pub names_more : (xs : List Name) (ks us : List Lexeme) (x : Name) → name_front ks ≡ Ok (x, us)
    → ◌≡◌ {A = Names} (cut names xs ks) (cut names (xs ++ (x ∷ [])) us)
names_more xs [] us x e = cc
names_more xs (k ∷ ks) us x e = by_name (name_of k) e
  where
    by_name : (m : Option Name) → name_at k ks m ≡ Ok (x, us)
        → ◌≡◌ {A = Names} (elim (one_more xs m) [ None ↦ (xs, k ∷ ks) | Some z ↦ cut names z ks ]) (cut names (xs ++ (x ∷ [])) us)
    by_name None h = cc
    by_name (Some y) h = let q : (y, ks) ≡ (x, us) = cc in ap (λ (r : Name × List Lexeme). cut names (xs ++ (r.0 ∷ [])) r.1) q

pub names_end : (xs : List Name) (ks : List Lexeme) → name_front ks ≡ Err ks → ◌≡◌ {A = Names} (cut names xs ks) (xs, ks)
names_end xs [] e = refl
names_end xs (k ∷ ks) e = by_name (name_of k) e
  where
    by_name : (m : Option Name) → name_at k ks m ≡ Err (k ∷ ks)
        → ◌≡◌ {A = Names} (elim (one_more xs m) [ None ↦ (xs, k ∷ ks) | Some z ↦ cut names z ks ]) (xs, k ∷ ks)
    by_name None h = refl
    by_name (Some y) h = cc

pub ruleset names_laws = (names_more, names_end)
