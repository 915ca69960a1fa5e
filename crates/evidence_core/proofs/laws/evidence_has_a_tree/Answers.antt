use Rattle.evidence_core.proofs.Proved.{proved}
use Rattle.evidence_core.proofs.Premises.{met_decides}
use Rattle.evidence_core.proofs.Answered.{evidence_shown, of_evidence}
use Rattle.evidence_core.proofs.laws.evidence_has_a_tree.Goals as goal

pub returns : goal.returns
returns c = record {
  shows = λ E c a e w. evidence_shown E c a e w;
  faults = λ E c a f w. of_evidence E c a f w;
  met = λ E c e a q. met_decides E c e a q;
  proved = λ E x c f e t m a q g s. proved E x c f e t m a q g s;
}
