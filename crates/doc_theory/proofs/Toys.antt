-- The small check meets what is asked of a check.
use Rattle.std.proofs.Common.{◌≡◌, ℕ, suc, nat_eq, List, Bool, true, false, if◌then◌else◌, refl, ap, ◌∙◌}
use Rattle.doc_theory.specs.Documents.{Closer, qed, admitted, defined, abort, inner, close, delegates}
use Rattle.doc_theory.specs.Checks.{Laws}
use Rattle.doc_theory.specs.Toy.{State, toy, first_of, faulty, refined, toy_skip, toy_leaves}
use Rattle.line_theory.proofs.Lists.{no}

known_if : (b : Bool) (x y : State) (n : ℕ) → x.known ≡ n → y.known ≡ n → (if b then x else y).known ≡ n
known_if true x y n h k = h
known_if false x y n h k = k

known_refined : (s : State) (i t : ℕ) → (refined s i t).known ≡ s.known
known_refined s i t = known_if (nat_eq 1 t) _ _ s.known refl (known_if (nat_eq 2 t) _ _ s.known refl (known_if (nat_eq 3 t) _ _ s.known refl
    (known_if (nat_eq 4 t) _ s s.known (known_if (nat_eq 0 s.known) (faulty s i) _ s.known refl refl) refl)))

skip_known : (s t : State) (c : Closer) → s.known ≡ t.known → toy_skip s c ≡ toy_skip t c
skip_known s t qed e = ap (λ n. record { known = suc n; left = 0; fault = 0 }) e
skip_known s t admitted e = ap (λ n. record { known = suc n; left = 0; fault = 0 }) e
skip_known s t defined e = ap (λ n. record { known = suc n; left = 0; fault = 0 }) e
skip_known s t abort e = ap (λ n. record { known = n; left = 0; fault = 0 }) e

leaves_closer : (s : State) (i : ℕ) (t : List ℕ) (c : Closer) → delegates (close c) ≡ true → toy_leaves s i (close c) t ≡ toy_skip s c
leaves_closer s i t qed d = refl
leaves_closer s i t admitted d = refl
leaves_closer s i t abort d = refl
leaves_closer s i t defined d = no d

pub toy_laws : Laws toy
toy_laws = record {
  inside = λ s i x c e. ap (λ k. toy_skip (toy_leaves s i k x.text) c) e
      ∙ skip_known (toy_leaves s i inner x.text) s c (known_if (nat_eq 0 s.fault) (refined s i (first_of x.text)) s s.known
      (known_refined s i (first_of x.text)) refl);
  closing = λ s i x c e d. ap (λ k. toy_leaves s i k x.text) e ∙ leaves_closer s i x.text c d;
  alike = λ s. refl;
}
