-- Results and options under a weaker claim.
use Rattle.std.proofs.Common.{Ok, Err, Result, IfOk, OnOk}

pub if_ok : {A Z : Type 0} {P Q : A → Type 0} (r : Result A Z) → ((x : A) → P x → Q x) → IfOk r P → IfOk r Q
if_ok (Ok x) f h = f x h
if_ok (Err e) f h = tt

pub on_ok : {A Z : Type 0} {P Q : Type 0} (r : Result A Z) → (P → Q) → OnOk r P → OnOk r Q
on_ok (Ok x) f h = f h
on_ok (Err e) f h = tt
