-- The language meets the laws that a document asks of a check.
use Rattle.std.proofs.Common.{◌≡◌, ℕ, true, Result, Ok, Err, refl, sym, ap, ◌∙◌}
use Rattle.line_theory.proofs.Lists.{no}
use Rattle.vern_sentence.specs.Trees as made
use Rattle.vern_step.specs.Parsed.{parsed}
use Rattle.script_theory.specs.Sentences.{Script}
use Rattle.script_theory.proofs.Closed.{inner_leaves, closer_leaves, qed_as_admitted}
use Rattle.doc_theory.specs.Documents.{Closer, qed, admitted, defined, abort, inner, close, delegates}
use Rattle.doc_theory.specs.Checks.{Laws}
use Rattle.check_theory.specs.Language.{tree_as, closer_read, skip, one_by, language}

-- what a sentence of the kind inner leaves, whatever its bytes are
inner_skips : (s : Script) (i : ℕ) (c : Closer) (r : Result made.Sentence ℕ) → skip (one_by s i inner (tree_as inner r)).state c ≡ skip s c
inner_skips s i c (Err p) = refl
inner_skips s i c (Ok made.proof_word) = inner_leaves s i made.proof_word tt (closer_read c)
inner_skips s i c (Ok (made.refinement r)) = inner_leaves s i (made.refinement r) tt (closer_read c)
inner_skips s i c (Ok (made.bullet b n)) = inner_leaves s i (made.bullet b n) tt (closer_read c)
inner_skips s i c (Ok made.brace_in) = inner_leaves s i made.brace_in tt (closer_read c)
inner_skips s i c (Ok made.brace_out) = inner_leaves s i made.brace_out tt (closer_read c)
inner_skips s i c (Ok (made.declare x y)) = refl
inner_skips s i c (Ok (made.define x gs y a)) = refl
inner_skips s i c (Ok (made.begin x a)) = refl
inner_skips s i c (Ok (made.close k)) = refl

-- the same of a closer
closer_skips : (s : Script) (i : ℕ) (c : Closer) (r : Result made.Sentence ℕ) → delegates (close c) ≡ true
    → (one_by s i (close c) (tree_as (close c) r)).state ≡ skip s c
closer_skips s i defined r d = no d
closer_skips s i c (Err p) d = refl
closer_skips s i qed (Ok (made.close made.qed)) d = closer_leaves s i made.qed tt
closer_skips s i admitted (Ok (made.close made.admitted)) d = closer_leaves s i made.admitted tt
closer_skips s i abort (Ok (made.close made.abort)) d = closer_leaves s i made.abort tt
closer_skips s i c (Ok t) d = refl

pub language_lawful : Laws language
language_lawful = record {
  inside = λ s i x c e. ap (λ k. skip (one_by s i k (tree_as k (parsed x.text))).state c) e ∙ inner_skips s i c (parsed x.text);
  closing = λ s i x c e d. ap (λ k. (one_by s i k (tree_as k (parsed x.text))).state) e ∙ closer_skips s i c (parsed x.text) d;
  alike = λ s. sym (qed_as_admitted s);
}
