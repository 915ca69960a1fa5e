-- What printing names don't change.
use Rattle.std.proofs.Common.{◌≡◌, ℕ, ◌+◌, max, [], refl, sym, ap, ◌∙◌}
use Rattle.fol_theory.specs.Syntax.{Term, Formula, truth, falsity, pred, equal, both, either, implies, all, ex}
use Rattle.fol_theory.specs.Substitution.{replace, lift}
use Rattle.fol_theory.specs.Measures.{nodes, height, reach, depth}
use Rattle.fol_theory.specs.Printing.{unnamed, Alike}

pub unnamed_replace : (σ : ℕ → Term) (a : Formula) → unnamed (replace σ a) ≡ replace σ (unnamed a)
unnamed_replace σ truth = refl
unnamed_replace σ falsity = refl
unnamed_replace σ (pred p ts) = refl
unnamed_replace σ (equal s t u) = refl
unnamed_replace σ (both a b) = λ i. both (unnamed_replace σ a i) (unnamed_replace σ b i)
unnamed_replace σ (either a b) = λ i. either (unnamed_replace σ a i) (unnamed_replace σ b i)
unnamed_replace σ (implies a b) = λ i. implies (unnamed_replace σ a i) (unnamed_replace σ b i)
unnamed_replace σ (all s x a) = ap (all s []) (unnamed_replace (lift σ) a)
unnamed_replace σ (ex s x a) = ap (ex s []) (unnamed_replace (lift σ) a)

pub alike_replace : (σ : ℕ → Term) (a b : Formula) → Alike a b → Alike (replace σ a) (replace σ b)
alike_replace σ a b h = unnamed_replace σ a ∙ ap (replace σ) h ∙ sym (unnamed_replace σ b)

pub unnamed_twice : (a : Formula) → unnamed (unnamed a) ≡ unnamed a
unnamed_twice truth = refl
unnamed_twice falsity = refl
unnamed_twice (pred p ts) = refl
unnamed_twice (equal s t u) = refl
unnamed_twice (both a b) = λ i. both (unnamed_twice a i) (unnamed_twice b i)
unnamed_twice (either a b) = λ i. either (unnamed_twice a i) (unnamed_twice b i)
unnamed_twice (implies a b) = λ i. implies (unnamed_twice a i) (unnamed_twice b i)
unnamed_twice (all s x a) = ap (all s []) (unnamed_twice a)
unnamed_twice (ex s x a) = ap (ex s []) (unnamed_twice a)

pub nodes_unnamed : (a : Formula) → nodes (unnamed a) ≡ nodes a
nodes_unnamed truth = refl
nodes_unnamed falsity = refl
nodes_unnamed (pred p ts) = refl
nodes_unnamed (equal s t u) = refl
nodes_unnamed (both a b) = λ i. nodes_unnamed a i + nodes_unnamed b i + 1
nodes_unnamed (either a b) = λ i. nodes_unnamed a i + nodes_unnamed b i + 1
nodes_unnamed (implies a b) = λ i. nodes_unnamed a i + nodes_unnamed b i + 1
nodes_unnamed (all s x a) = λ i. nodes_unnamed a i + 1
nodes_unnamed (ex s x a) = λ i. nodes_unnamed a i + 1

pub height_unnamed : (a : Formula) → height (unnamed a) ≡ height a
height_unnamed truth = refl
height_unnamed falsity = refl
height_unnamed (pred p ts) = refl
height_unnamed (equal s t u) = refl
height_unnamed (both a b) = λ i. max (height_unnamed a i) (height_unnamed b i) + 1
height_unnamed (either a b) = λ i. max (height_unnamed a i) (height_unnamed b i) + 1
height_unnamed (implies a b) = λ i. max (height_unnamed a i) (height_unnamed b i) + 1
height_unnamed (all s x a) = λ i. height_unnamed a i + 1
height_unnamed (ex s x a) = λ i. height_unnamed a i + 1

pub reach_unnamed : (a : Formula) → reach (unnamed a) ≡ reach a
reach_unnamed truth = refl
reach_unnamed falsity = refl
reach_unnamed (pred p ts) = refl
reach_unnamed (equal s t u) = refl
reach_unnamed (both a b) = λ i. max (reach_unnamed a i) (reach_unnamed b i)
reach_unnamed (either a b) = λ i. max (reach_unnamed a i) (reach_unnamed b i)
reach_unnamed (implies a b) = λ i. max (reach_unnamed a i) (reach_unnamed b i)
reach_unnamed (all s x a) = reach_unnamed a
reach_unnamed (ex s x a) = reach_unnamed a

pub depth_unnamed : (a : Formula) → depth (unnamed a) ≡ depth a
depth_unnamed truth = refl
depth_unnamed falsity = refl
depth_unnamed (pred p ts) = refl
depth_unnamed (equal s t u) = refl
depth_unnamed (both a b) = λ i. max (depth_unnamed a i) (depth_unnamed b i)
depth_unnamed (either a b) = λ i. max (depth_unnamed a i) (depth_unnamed b i)
depth_unnamed (implies a b) = λ i. max (depth_unnamed a i) (depth_unnamed b i)
depth_unnamed (all s x a) = λ i. depth_unnamed a i + 1
depth_unnamed (ex s x a) = λ i. depth_unnamed a i + 1

pub alike_nodes : (a b : Formula) → Alike a b → nodes a ≡ nodes b
alike_nodes a b h = sym (nodes_unnamed a) ∙ ap nodes h ∙ nodes_unnamed b

pub alike_height : (a b : Formula) → Alike a b → height a ≡ height b
alike_height a b h = sym (height_unnamed a) ∙ ap height h ∙ height_unnamed b

pub alike_reach : (a b : Formula) → Alike a b → reach a ≡ reach b
alike_reach a b h = sym (reach_unnamed a) ∙ ap reach h ∙ reach_unnamed b

pub alike_depth : (a b : Formula) → Alike a b → depth a ≡ depth b
alike_depth a b h = sym (depth_unnamed a) ∙ ap depth h ∙ depth_unnamed b
