-- Pieces that are added one after the other.
use Rattle.std.proofs.Common.{◌≡◌, ◌≤◌, ℕ, suc, ◌+◌, List, [], ◌∷◌, ◌++◌, map, drop, length, take, Option, Some, None, Ok, Err}
use Rattle.std.proofs.Common.{refl, sym, ap, ◌∙◌, subst, append_assoc, append-nil, length-append, arith}
use Rattle.std.proofs.Common.{◌<◌, get_or}
use Rattle.std.proofs.Math.Seq.{drop-cons, take-append_seam}
use Rattle.std.proofs.lemmas.List.{drop_all}
use Rattle.vern_lex.specs.declared.span.Span.{Span}
use Rattle.vern_lex.specs.declared.sentences.CutFault.{CutFault}
use Rattle.base_core.specs.declared.no_memory.NoMemory.{NoMemory}
use Rattle.serapi_ans.specs.declared.line.Line.{Line}
use Rattle.serapi_ans.specs.declared.line.Line.TheVariants.{Added}
use Rattle.serapi_ans.specs.declared.line.Exn.{Exn}
use Rattle.doc_theory.specs.Documents.{Document}
use Rattle.doc_theory.specs.Editing.{Tried, refused, added}
use Rattle.doc_theory.specs.Checks.{Piece}
use Rattle.doc_theory.specs.Answers.{Ran, add_step, put_line, stopped}
use Rattle.doc_core.specs.Pieces.{begin_of, end_of, piece_of, unread_from}
use Rattle.doc_core.specs.Answers.{tried, add_all}
use Rattle.doc_core.specs.Kept.{Adds, AddsOne, ran, refusal_of}

-- lines before those of a run
abbrev put_lines : List Line → Ran → Ran
put_lines ls r = record { document = r.document; lines = ls ++ r.lines; stop = r.stop }

-- ---- runs of joined pieces

joined_by : (tag : List ℕ) (p q : ℕ) (d : Document) (cs ds : List Piece) (r : Tried) → (add_step tag p q d r (add_all tag cs)).stop ≡ None
    → ((f : Document) → (add_all tag cs f).stop ≡ None
    → add_all tag (cs ++ ds) f ≡ put_lines (add_all tag cs f).lines (add_all tag ds (add_all tag cs f).document))
    → add_step tag p q d r (add_all tag (cs ++ ds))
    ≡ put_lines (add_step tag p q d r (add_all tag cs)).lines (add_all tag ds (add_step tag p q d r (add_all tag cs)).document)
joined_by tag p q d cs ds (refused x) h more = cc
joined_by tag p q d cs ds (added f i t) h more = ap (put_line (Added tag i p q t)) (more f h)

joined : (tag : List ℕ) (cs ds : List Piece) (d : Document) → (add_all tag cs d).stop ≡ None
    → add_all tag (cs ++ ds) d ≡ put_lines (add_all tag cs d).lines (add_all tag ds (add_all tag cs d).document)
joined tag [] ds d h = refl
joined tag (c ∷ cs) ds d h = joined_by tag (begin_of c) (end_of c) d cs ds (tried d c) h (λ f. joined tag cs ds f)

-- a run that wasn't stopped has a line for each piece
counted_by : (tag : List ℕ) (p q : ℕ) (d : Document) (cs : List Piece) (r : Tried) → (add_step tag p q d r (add_all tag cs)).stop ≡ None
    → ((f : Document) → (add_all tag cs f).stop ≡ None → length (add_all tag cs f).lines ≡ length cs)
    → length (add_step tag p q d r (add_all tag cs)).lines ≡ suc (length cs)
counted_by tag p q d cs (refused x) h more = cc
counted_by tag p q d cs (added f i t) h more = ap suc (more f h)

counted : (tag : List ℕ) (cs : List Piece) (d : Document) → (add_all tag cs d).stop ≡ None → length (add_all tag cs d).lines ≡ length cs
counted tag [] d h = refl
counted tag (c ∷ cs) d h = counted_by tag (begin_of c) (end_of c) d cs (tried d c) h (λ f. counted tag cs f)

-- a run has as many lines whatever the tag
alike_by : (tag : List ℕ) (p q : ℕ) (d : Document) (cs : List Piece) (r : Tried)
    → ((f : Document) → length (add_all tag cs f).lines ≡ length (add_all [] cs f).lines)
    → length (add_step tag p q d r (add_all tag cs)).lines ≡ length (add_step [] p q d r (add_all [] cs)).lines
alike_by tag p q d cs (refused x) more = refl
alike_by tag p q d cs (added f i t) more = ap suc (more f)

pub alike : (tag : List ℕ) (cs : List Piece) (d : Document) → length (add_all tag cs d).lines ≡ length (add_all [] cs d).lines
alike tag [] d = refl
alike tag (c ∷ cs) d = alike_by tag (begin_of c) (end_of c) d cs (tried d c) (λ f. alike tag cs f)

-- ---- the pieces so far

-- of all pieces the first ones are added, and these are left
pub record Begun (tag : List ℕ) (all : List Piece) (d : Document) (ls : List Line) (rest : List Piece) (e : Document) (ms : List Line)
    : Type 0 where
  pub done : List Piece
  pub split : all ≡ done ++ rest
  pub going : (add_all tag done d).stop ≡ None
  pub document : e ≡ (add_all tag done d).document
  pub lines : ms ≡ ls ++ (add_all tag done d).lines

pub begun : (tag : List ℕ) (all : List Piece) (d : Document) (ls : List Line) → Begun tag all d ls all d ls
begun tag all d ls = record { done = []; split = refl; going = refl; document = refl; lines = sym (append-nil ls) }

-- what one piece more comes to behind them
one : (tag : List ℕ) (done : List Piece) (c : Piece) (cs : List Piece) (d e : Document) → (add_all tag done d).stop ≡ None
    → e ≡ (add_all tag done d).document
    → add_all tag (done ++ c ∷ cs) d
    ≡ put_lines (add_all tag done d).lines (add_step tag (begin_of c) (end_of c) e (tried e c) (add_all tag cs))
one tag done c cs d e going same = joined tag done (c ∷ cs) d going
    ∙ ap (λ z. put_lines (add_all tag done d).lines (add_all tag (c ∷ cs) z)) (sym same)

begun_added : {tag : List ℕ} {all : List Piece} {d : Document} {ls : List Line} {c : Piece} {rest : List Piece} {e f : Document}
    {ms ns : List Line} {i : ℕ} {t : Option ℕ} → Begun tag all d ls (c ∷ rest) e ms → tried e c ≡ added f i t
    → ns ≡ ms ++ Added tag i (begin_of c) (end_of c) t ∷ [] → Begun tag all d ls rest f ns
begun_added {tag} {all} {d} {ls} {c} {rest} {e} {f} {ms} {ns} {i} {t} b h lines =
    let l : Line = Added tag i (begin_of c) (end_of c) t in
    let run : add_all tag (b.done ++ c ∷ []) d ≡ ran f ((add_all tag b.done d).lines ++ l ∷ []) None =
    one tag b.done c [] d e b.going b.document
    ∙ ap (λ r. put_lines (add_all tag b.done d).lines (add_step tag (begin_of c) (end_of c) e r (add_all tag []))) h in
    record {
      done = b.done ++ c ∷ [];
      split = b.split ∙ sym (append_assoc b.done (c ∷ []) rest);
      going = ap (λ (r : Ran). r.stop) run;
      document = sym (ap (λ (r : Ran). r.document) run);
      lines = lines ∙ ap (λ z. z ++ l ∷ []) b.lines ∙ append_assoc ls (add_all tag b.done d).lines (l ∷ [])
          ∙ sym (ap (λ (r : Ran). ls ++ r.lines) run);
    }

-- ---- how it ends

adds_refused : {tag : List ℕ} {all : List Piece} {d : Document} {ls : List Line} {c : Piece} {rest : List Piece} {e : Document}
    {ms : List Line} {x : Exn} → Begun tag all d ls (c ∷ rest) e ms → tried e c ≡ refused x → Adds (Ok (Some x)) tag all d ls e ms
adds_refused {tag} {all} {d} {ls} {c} {rest} {e} {ms} {x} b h =
    let run : add_all tag (b.done ++ c ∷ rest) d ≡ ran e ((add_all tag b.done d).lines ++ []) (Some x) =
    one tag b.done c rest d e b.going b.document
    ∙ ap (λ r. put_lines (add_all tag b.done d).lines (add_step tag (begin_of c) (end_of c) e r (add_all tag rest))) h in (
      (add_all tag b.done d).lines,
      b.lines,
      ap (λ z. add_all tag z d) b.split ∙ run
          ∙ ap (λ z. ran e z (Some x)) (append-nil (add_all tag b.done d).lines),
    )

adds_all : {tag : List ℕ} {all : List Piece} {d : Document} {ls : List Line} {e : Document} {ms : List Line}
    → Begun tag all d ls [] e ms → Adds (Ok None) tag all d ls e ms
adds_all {tag} {all} {d} {ls} {e} {ms} b =
    let run : add_all tag (b.done ++ []) d ≡ ran e ((add_all tag b.done d).lines ++ []) None =
    joined tag b.done [] d b.going ∙ ap (λ z. put_lines (add_all tag b.done d).lines (stopped z None)) (sym b.document) in (
      (add_all tag b.done d).lines,
      b.lines,
      ap (λ z. add_all tag z d) b.split ∙ run
          ∙ ap (λ z. ran e z None) (append-nil (add_all tag b.done d).lines),
    )

ran_as : (r : Ran) (e : Document) → r.stop ≡ None → e ≡ r.document → r ≡ ran e r.lines None
ran_as r e stop same = ap (λ z. ran r.document r.lines z) stop ∙ ap (λ z. ran z r.lines None) (sym same)

adds_short : {tag : List ℕ} {all : List Piece} {d : Document} {ls : List Line} {rest : List Piece} {e : Document} {ms : List Line}
    {short : NoMemory} → Begun tag all d ls rest e ms → Adds (Err short) tag all d ls e ms
adds_short {tag} {all} {d} {ls} {rest} {e} {ms} b =
    let r : Ran = add_all tag b.done d in
    let count : length r.lines ≡ length b.done = counted tag b.done d b.going in
    let front : take (length r.lines) all ≡ b.done =
    ap (λ n. take n all) count ∙ ap (λ z. take (length b.done) z) b.split ∙ take-append_seam b.done rest in
    let within : length r.lines ≤ length (add_all tag all d).lines =
    let whole : length (add_all tag all d).lines ≡ length r.lines + length (add_all tag rest r.document).lines =
    ap (λ z. length (add_all tag z d).lines) b.split ∙ ap (λ (z : Ran). length z.lines) (joined tag b.done rest d b.going)
    ∙ length-append r.lines (add_all tag rest r.document).lines in omega (arith, whole) in
    (r.lines, b.lines, ap (λ z. add_all tag z d) front ∙ ran_as r e b.going b.document, within)

-- what isn't added leaves all as it is
begun_kept : {tag : List ℕ} {all : List Piece} {d : Document} {ls : List Line} {rest : List Piece} {e f : Document} {ms ns : List Line}
    → Begun tag all d ls rest e ms → f ≡ e → ns ≡ ms → Begun tag all d ls rest f ns
begun_kept b same as_before = record {
  done = b.done;
  split = b.split;
  going = b.going;
  document = same ∙ b.document;
  lines = as_before ∙ b.lines;
}

-- what one piece more comes to: it is added, it is refused, or memory was wanting
pub one_more : {tag : List ℕ} {all : List Piece} {d : Document} {ls : List Line} {c : Piece} {rest : List Piece} {e f : Document}
    {ms ns : List Line} → Begun tag all d ls (c ∷ rest) e ms → AddsOne (Ok None) tag e c ms f ns → Begun tag all d ls rest f ns
one_more b (i, t, h, lines) = begun_added b h lines

pub one_refused : {tag : List ℕ} {all : List Piece} {d : Document} {ls : List Line} {c : Piece} {rest : List Piece} {e f : Document}
    {ms ns : List Line} {x : Exn} → Begun tag all d ls (c ∷ rest) e ms → AddsOne (Ok (Some x)) tag e c ms f ns
    → Adds (Ok (Some x)) tag all d ls f ns
one_refused {c = c} b (h, same, as_before) = adds_refused (begun_kept b same as_before) (ap (λ z. tried z c) same ∙ h)

pub one_short : {tag : List ℕ} {all : List Piece} {d : Document} {ls : List Line} {rest : List Piece} {e f : Document} {ms ns : List Line}
    (short : NoMemory) → Begun tag all d ls rest e ms → (f ≡ e) × (ns ≡ ms) → Adds (Err short) tag all d ls f ns
one_short short b (same, as_before) = adds_short (begun_kept b same as_before)

-- ---- the spans of a text

-- what is left is the piece of a span, and the rest
rest_is : (text : List ℕ) (spans : List Span) (i : ℕ) (x : Span) (last : List Piece) → i < length spans
    → map (piece_of text) (drop i spans) ++ last ≡ piece_of text (get_or spans i x) ∷ (map (piece_of text) (drop (i + 1) spans) ++ last)
rest_is text spans i x last h =
    let next : suc i ≡ i + 1 = omega arith in
    ap (λ z. map (piece_of text) z ++ last) (drop-cons spans i x h)
    ∙ ap (λ n. piece_of text (get_or spans i x) ∷ (map (piece_of text) (drop n spans) ++ last)) next

pub begun_at : {tag : List ℕ} {all : List Piece} {d : Document} {ls : List Line} {e : Document} {ms : List Line} (text : List ℕ)
    (spans : List Span) (i : ℕ) (x : Span) (last : List Piece) → i < length spans
    → Begun tag all d ls (map (piece_of text) (drop i spans) ++ last) e ms
    → Begun tag all d ls (piece_of text (get_or spans i x) ∷ (map (piece_of text) (drop (i + 1) spans) ++ last)) e ms
begun_at {tag} {all} {d} {ls} {e} {ms} text spans i x last h b =
    subst (λ (z : List Piece). Begun tag all d ls z e ms) (rest_is text spans i x last h) b

-- all spans are done, and the text can't be cut further
pub adds_end : {tag : List ℕ} {all : List Piece} {d : Document} {ls : List Line} {e : Document} {ms : List Line} (text : List ℕ)
    (spans : List Span) (i : ℕ) (fault : Option CutFault) → length spans ≤ i
    → Begun tag all d ls (map (piece_of text) (drop i spans) ++ unread_from fault) e ms → Adds (Ok (refusal_of fault)) tag all d ls e ms
adds_end {tag} {all} {d} {ls} {e} {ms} text spans i None h b =
    adds_all (subst (λ (z : List Span). Begun tag all d ls (map (piece_of text) z ++ []) e ms) (drop_all i spans h) b)
adds_end {tag} {all} {d} {ls} {e} {ms} text spans i (Some fault) h b =
    adds_refused (subst (λ (z : List Span). Begun tag all d ls (map (piece_of text) z ++ unread_from (Some fault)) e ms) (drop_all i spans h) b) refl
