use Rattle.std.proofs.Common.{◌≡◌, false, true, subst, sym}
use Rattle.doc_core.specs.Kept.{Held, IsKept, at}
use Rattle.doc_core.proofs.Grown.{kept_closed}
use Rattle.doc_core.proofs.document.Document.close.Goals as goal

pub invariant_of-self : goal.invariant_of-self
invariant_of-self c =
    subst (λ h. IsKept h c.push_reserved.new.self.spare c.self.inside.script true) (sym c.push_reserved.ensures.items)
    (kept_closed c.self.invariant (subst (λ (d : Held). (at d).closed ≡ false) (sym c.self.view_is) c.requires))
