-- What the crates above use of an environment holds of each that is in order.
use Rattle.std.proofs.Common.{ℕ, List, [], ◌∷◌, ap}
use Rattle.fol_theory.specs.Syntax.{Formula, pred}
use Rattle.fol_theory.specs.Printing.{unnamed}
use Rattle.env_theory.specs.Declarations.{Declaration, stated, formula}
use Rattle.env_theory.specs.Typing.{WellFormed, Environment, Put, Puts}
use Rattle.env_theory.specs.Heads.{expand_head, head_form}
use Rattle.env_theory.specs.Orders.{InOrder, Lawful}
use Rattle.env_theory.proofs.Weaker.{puts}
use Rattle.env_theory.proofs.Keeps.{expand_formed, normal_formed}
use Rattle.env_theory.proofs.Evaluates.{put_found}
use Rattle.env_theory.proofs.Declared.{sort_declared, declares_found}
use Rattle.env_theory.proofs.Members.{found_member}
use Rattle.env_theory.proofs.Again.{normal_expand, within_normal, within_head}

-- a definition put in at the head keeps a formula well formed, for there it is put in whole
pub expand_head_formed : (F : List Declaration) (d : Declaration) → Put F d → (V : List (List ℕ)) (a : Formula) → WellFormed F V a
    → WellFormed F V (expand_head d a)
expand_head_formed F (formula n ps b) p V (pred q ts) h = expand_formed F (formula n ps b) p V (pred q ts) h
expand_head_formed F d p V a h = h

heads_formed : (F E : List Declaration) → Puts F E → (V : List (List ℕ)) (a : Formula) → WellFormed F V a → WellFormed F V (head_form E a)
heads_formed F [] p V a h = h
heads_formed F (d ∷ E) p V a h = heads_formed F E p.1 V (expand_head d a) (expand_head_formed F d p.0 V a h)

pub head_formed : (E : List Declaration) → Environment E → (V : List (List ℕ)) (a : Formula) → WellFormed E V a
    → WellFormed E V (head_form E a)
head_formed E x V a h = heads_formed E E (puts E x) V a h

pub lawful : (E : List Declaration) → InOrder E → Lawful E
lawful E o = record {
  head_same = λ a. ap unnamed (within_head E o E (λ d m. m) a);
  head_formed = head_formed E o.0;
  unfold_same = λ n d e a. ap unnamed (normal_expand E o d (found_member E n d e) a);
  unfold_formed = λ n d e V a h. expand_formed E d (put_found E E (puts E o.0) n d e) V a h;
  normal_same = λ a. ap unnamed (within_normal E o E (λ d m. m) a);
  normal_formed = normal_formed E o.0;
  sort_declared = sort_declared E o.0;
  stated_formed = λ n m a e. declares_found E o.0 n (stated m a) e;
}
