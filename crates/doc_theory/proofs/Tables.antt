-- The table of tasks: the work of each row is that of its live block, whatever comes.
use Rattle.std.proofs.Common.{
  ◌≡◌,
  ◌⊎◌,
  inl,
  inr,
  ℕ,
  suc,
  ◌≤◌,
  ◌<◌,
  nat_eq,
  List,
  [],
  ◌∷◌,
  ◌++◌,
  map,
  Bool,
  true,
  false,
  not,
  if◌then◌else◌,
  refl,
  sym,
  ap,
  subst,
  ◌∙◌,
  arith,
}
use Rattle.serapi_cmd.specs.declared.command.Command.TheVariants as cmd
use Rattle.serapi_cmd.specs.declared.command.Command.{Command}
use Rattle.serapi_cmd.specs.declared.request.Request.{Request}
use Rattle.serapi_cmd.specs.declared.request.Request.TheVariants.{Do, Bad}
use Rattle.line_theory.specs.Lists.{Every, has, chosen}
use Rattle.doc_theory.specs.Lists.{Member}
use Rattle.doc_theory.specs.Documents.{Document, is_state, bodies, report, reporting}
use Rattle.doc_theory.specs.Checks.{Check, Laws, Work, works, judged, before}
use Rattle.doc_theory.specs.Answers.{Cut, whole, after, answer}
use Rattle.doc_theory.specs.Histories.{
  Progress,
  waiting,
  held,
  done,
  Row,
  Pair,
  Table,
  withdraw,
  blocks,
  new_row,
  post_one,
  post,
  up_to_closers,
  asked_for,
  asks,
  with_progress,
  is_pair,
  taken,
  Standing,
  start,
  Event,
  command,
  claim,
  none_waiting,
  returned,
  lose,
  join_answered,
  join_not_yet,
  join_stopped,
  shut,
  given_back,
  step,
  is_held,
  block_of,
  standing_from,
}
use Rattle.doc_theory.specs.Tasks.{IsLive, Numbered, IsClaim, Kept}
use Rattle.line_theory.proofs.Lists.{no, test_same, every_join}
use Rattle.doc_theory.proofs.Lists.{member_parts, every_of, every_at, every_map, chosen_member, test_is}
use Rattle.doc_theory.proofs.Flags.{works_flagged, sound_flagged}
use Rattle.doc_theory.proofs.Onward.{Onward, answer_onward}

-- ---- numbers

numbered_lower : {State : Type 0} (lo m hi : ℕ) (rs : List (Row State)) → lo ≤ m → Numbered m rs hi → Numbered lo rs hi
numbered_lower lo m hi [] e h = omega (arith, e, h)
numbered_lower lo m hi (r ∷ rs) e h = (omega (arith, e, h.0), h.1)

numbered_chosen : {State : Type 0} (p : Row State → Bool) (lo hi : ℕ) (rs : List (Row State)) → Numbered lo rs hi
    → Numbered lo (chosen p rs) hi
numbered_chosen p lo hi [] h = h
numbered_chosen p lo hi (r ∷ rs) h = go (p r) (numbered_chosen p (suc r.number) hi rs h.1)
  where
    go : (b : Bool) → Numbered (suc r.number) (chosen p rs) hi → Numbered lo (if b then r ∷ chosen p rs else chosen p rs) hi
    go true k = (h.0, k)
    go false k = numbered_lower lo (suc r.number) hi (chosen p rs) (omega (arith, h.0)) k

numbered_more : {State : Type 0} (lo hi : ℕ) (rs : List (Row State)) (r : Row State) → r.number ≡ hi → Numbered lo rs hi
    → Numbered lo (rs ++ (r ∷ [])) (suc hi)
numbered_more lo hi [] r e h = (omega (arith, e, h), omega (arith, e))
numbered_more lo hi (q ∷ rs) r e h = (h.0, numbered_more (suc q.number) hi rs r e h.1)

numbered_le : {State : Type 0} (lo hi : ℕ) (rs : List (Row State)) → Numbered lo rs hi → lo ≤ hi
numbered_le lo hi [] h = h
numbered_le lo hi (r ∷ rs) h = let k = numbered_le (suc r.number) hi rs h.1 in omega (arith, h.0, k)

numbered_within : {State : Type 0} (lo hi : ℕ) (rs : List (Row State)) (r : Row State) → Numbered lo rs hi → Member r rs
    → (lo ≤ r.number) × (r.number < hi)
numbered_within lo hi [] r h m = absurd m
numbered_within lo hi (q ∷ rs) r h (inl e) = let n : r.number ≡ q.number = ap (λ z. z.number) e in
    (omega (arith, n, h.0), let k = numbered_le (suc q.number) hi rs h.1 in omega (arith, n, k))
numbered_within lo hi (q ∷ rs) r h (inr m) = let k = numbered_within (suc q.number) hi rs r h.1 m in (omega (arith, h.0, k.0), k.1)

numbered_stand : {State : Type 0} (n : ℕ) (s : Progress) (lo hi : ℕ) (rs : List (Row State)) → Numbered lo rs hi
    → Numbered lo (with_progress n s rs) hi
numbered_stand n s lo hi [] h = h
numbered_stand n s lo hi (r ∷ rs) h = (h.0, numbered_stand n s (suc r.number) hi rs h.1)

-- ---- a row that stands otherwise is the row that it was

pub record Was {State : Type 0} (rows : List (Row State)) (r : Row State) : Type 0 where
  pub row : Row State
  pub there : Member row rows
  pub number : r.number ≡ row.number
  pub work : r.work ≡ row.work
  pub block : r.block ≡ row.block

pub stand_was : {State : Type 0} (n : ℕ) (s : Progress) (rs : List (Row State)) (r : Row State) → Member r (with_progress n s rs)
    → Was rs r
stand_was n s [] r m = absurd m
stand_was n s (q ∷ rs) r (inl e) = record {
  row = q;
  there = inl refl;
  number = ap (λ z. z.number) e;
  work = ap (λ z. z.work) e;
  block = ap (λ z. z.block) e;
}
stand_was n s (q ∷ rs) r (inr m) = let w = stand_was n s rs r m in record {
  row = w.row;
  there = inr w.there;
  number = w.number;
  work = w.work;
  block = w.block;
}

live_stand : {State : Type 0} (L : Check State) (d : Document) (n : ℕ) (s : Progress) (rs : List (Row State)) → Every (IsLive L d) rs
    → Every (IsLive L d) (with_progress n s rs)
live_stand L d n s [] h = tt
live_stand L d n s (r ∷ rs) h = (h.0, live_stand L d n s rs h.1)

-- fewer rows, or rows that with_progress otherwise, leave a claim what it is
claim_fewer : {State : Type 0} (rows more : List (Row State)) (next : ℕ) (q : Pair State) → ((r : Row State) → Member r more → Was rows r)
    → IsClaim rows next q → IsClaim more next q
claim_fewer rows more next q f h = (h.0, λ r m e. let w = f r m in w.work ∙ h.1 w.row w.there (sym w.number ∙ e))

claims_fewer : {State : Type 0} (rows more : List (Row State)) (next : ℕ) (out : List (Pair State))
    → ((r : Row State) → Member r more → Was rows r) → Every (IsClaim rows next) out → Every (IsClaim more next) out
claims_fewer rows more next out f h = every_map (IsClaim rows next) (IsClaim more next) out (λ q. claim_fewer rows more next q f) h

was_itself : {State : Type 0} (rows : List (Row State)) (r : Row State) → Member r rows → Was rows r
was_itself rows r m = record { row = r; there = m; number = refl; work = refl; block = refl }

pub every_chosen : {A : Type 0} (P : A → Type 0) (p : A → Bool) (xs : List A) → Every P xs → Every P (chosen p xs)
every_chosen P p xs h = every_of P (chosen p xs) (λ x m. every_at P xs h x (chosen_member p xs x m).0)

-- ---- the table with a document

record Holds {State : Type 0} (L : Check State) (d : Document) (t : Table State) : Type 0 where
  pub rows : Every (IsLive L d) t.rows
  pub numbers : Numbered 0 t.rows t.next
  pub out : Every (IsClaim t.rows t.next) t.out

withdraw_holds : {State : Type 0} (L : Check State) (d e : Document) (t : Table State) → Onward L d e → Holds L d t
    → Holds L e (withdraw e t)
withdraw_holds L d e t o h = record {
  rows = every_of (IsLive L e) _ (λ r m. let k = chosen_member (λ r. has r.block (bodies e)) t.rows r m in let live =
      every_at (IsLive L d) t.rows h.rows r k.0 in
      (o.works r.work live.0 (subst (λ n. has n (bodies e) ≡ true) live.1 k.1), live.1));
  numbers = numbered_chosen (λ r. has r.block (bodies e)) 0 t.next t.rows h.numbers;
  out = claims_fewer t.rows _ t.next t.out (λ r m. was_itself t.rows r (chosen_member (λ r. has r.block (bodies e)) t.rows r m).0) h.out;
}

claim_more : {State : Type 0} (rows : List (Row State)) (next : ℕ) (r : Row State) (q : Pair State) → r.number ≡ next
    → IsClaim rows next q → IsClaim (rows ++ (r ∷ [])) (suc next) q
claim_more {State} rows next r q e h = (omega (arith, h.0), λ x m n. go x n (member_parts x rows (r ∷ []) m))
  where
    go : (x : Row State) → x.number ≡ q.number → Member x rows ⊎ Member x (r ∷ []) → x.work ≡ q.work
    go x n (inl m) = h.1 x m n
    go x n (inr (inl z)) = let y : x.number ≡ r.number = ap (λ v. v.number) z in absurd (omega (arith, h.0, e, n, y))
    go x n (inr (inr z)) = absurd z

post_one_holds : {State : Type 0} (L : Check State) (d : Document) (b : Bool) (w : Work State) (t : Table State) → Member w (works L d)
    → Holds L d t → Holds L d (post_one b w t)
post_one_holds L d true w t m h = h
post_one_holds L d false w t m h = record {
  rows = every_join (IsLive L d) t.rows (new_row t w ∷ []) h.rows ((m, refl), tt);
  numbers = numbered_more 0 t.next t.rows (new_row t w) refl h.numbers;
  out = every_map (IsClaim t.rows t.next) (IsClaim (t.rows ++ (new_row t w ∷ [])) (suc t.next)) t.out
      (λ q. claim_more t.rows t.next (new_row t w) q refl) h.out;
}

post_holds : {State : Type 0} (L : Check State) (d : Document) (ws : List (Work State)) (t : Table State)
    → Every (λ w. Member w (works L d)) ws → Holds L d t → Holds L d (post ws t)
post_holds L d [] t m h = h
post_holds L d (w ∷ ws) t m h = post_holds L d ws (post_one (has w.lemma (blocks t.rows)) w t) m.1
    (post_one_holds L d (has w.lemma (blocks t.rows)) w t m.0 h)

every_works : {State : Type 0} (L : Check State) (d : Document) → Every (λ w. Member w (works L d)) (works L d)
every_works L d = every_of (λ w. Member w (works L d)) (works L d) (λ w m. m)

asked_live : {State : Type 0} (L : Check State) (d : Document) (c : Command) (cut : Cut)
    → Every (λ w. Member w (works L d)) (asked_for L d c cut)
asked_live L d (cmd.Add opts text) cut = tt
asked_live L d (cmd.Cancel is) cut = tt
asked_live L d (cmd.Exec i) whole = go (is_state i d)
  where
    go : (b : Bool) → Every (λ w. Member w (works L d)) (if b then up_to_closers L d i else [])
    go true = every_chosen (λ w. Member w (works L d)) (λ w. has w.closer.id (map (λ j. j.mark.id) (before i (judged L d))))
        (works L d) (every_works L d)
    go false = tt
asked_live L d (cmd.Exec i) (after n) = tt
asked_live L d (cmd.Query opts q) cut = tt
asked_live L d cmd.Join whole = every_works L d
asked_live L d cmd.Join (after n) = tt
asked_live L d cmd.Quit cut = tt

asks_live : {State : Type 0} (L : Check State) (d : Document) (q : Request) (cut : Cut)
    → Every (λ w. Member w (works L d)) (asks L d q cut)
asks_live L d (Do t) cut = asked_live L d t.command cut
asks_live L d (Bad b) cut = tt

-- ---- a claim

taken_number : {State : Type 0} (s n : ℕ) (rs : List (Row State)) (q : Pair State) → Member q (taken s n rs) → q.number ≡ n
taken_number s n [] q m = absurd m
taken_number s n (r ∷ rs) q m = go (nat_eq n r.number) (taken_number s n rs q) m
  where
    go : (b : Bool) → (Member q (taken s n rs) → q.number ≡ n)
        → Member q (if b then record { seat = s; number = n; work = r.work } ∷ [] else taken s n rs) → q.number ≡ n
    go true more (inl e) = ap (λ z. z.number) e
    go true more (inr e) = absurd e
    go false more e = more e

-- of a number there is one row
one_row : {State : Type 0} (lo hi : ℕ) (r : Row State) (rs : List (Row State)) (x : Row State) → Numbered lo (r ∷ rs) hi
    → Member x (r ∷ rs) → x.number ≡ r.number → x.work ≡ r.work
one_row lo hi r rs x h (inl z) y = ap (λ v. v.work) z
one_row lo hi r rs x h (inr z) y = let k = numbered_within (suc r.number) hi rs x h.1 z in absurd (omega (arith, y, k.0))

-- a row of another number changes nothing of a claim
other_row : {State : Type 0} (hi : ℕ) (r : Row State) (rs : List (Row State)) (q : Pair State) → (r.number ≡ q.number → ⊥)
    → IsClaim rs hi q → IsClaim (r ∷ rs) hi q
other_row {State} hi r rs q f k = (k.0, at)
  where
    at : (x : Row State) → Member x (r ∷ rs) → x.number ≡ q.number → x.work ≡ q.work
    at x (inl v) z = absurd (f (ap (λ u. u.number) (sym v) ∙ z))
    at x (inr v) z = k.1 x v z

taken_is : {State : Type 0} (s n lo hi : ℕ) (rs : List (Row State)) → Numbered lo rs hi → Every (IsClaim rs hi) (taken s n rs)
taken_is s n lo hi [] h = tt
taken_is s n lo hi (r ∷ rs) h = go (nat_eq n r.number) refl (taken_is s n (suc r.number) hi rs h.1)
  where
    go : (b : Bool) → (nat_eq n r.number) ≡ b → Every (IsClaim rs hi) (taken s n rs)
        → Every (IsClaim (r ∷ rs) hi) (if b then record { seat = s; number = n; work = r.work } ∷ [] else taken s n rs)
    go true e k = let a = test_is r.number n e in
        ((subst (λ m. m < hi) a (numbered_within lo hi (r ∷ rs) r h (inl refl)).1, λ x m y. one_row lo hi r rs x h m (y ∙ sym a)), tt)
    go false e k = every_of (IsClaim (r ∷ rs) hi) (taken s n rs) (λ q m. other_row hi r rs q
        (λ a. no (sym e ∙ ap (λ u. nat_eq n u) (a ∙ taken_number s n rs q m) ∙ test_same n))
        (every_at (IsClaim rs hi) (taken s n rs) k q m))

-- ---- each event

given_was : {State : Type 0} (b : Bool) (n : ℕ) (rs : List (Row State)) (r : Row State) → Member r (given_back b n rs) → Was rs r
given_was true n rs r m = stand_was n waiting rs r m
given_was false n rs r m = was_itself rs r m

given_live : {State : Type 0} (L : Check State) (d : Document) (b : Bool) (n : ℕ) (rs : List (Row State)) → Every (IsLive L d) rs
    → Every (IsLive L d) (given_back b n rs)
given_live L d true n rs h = live_stand L d n waiting rs h
given_live L d false n rs h = h

given_numbered : {State : Type 0} (b : Bool) (n lo hi : ℕ) (rs : List (Row State)) → Numbered lo rs hi
    → Numbered lo (given_back b n rs) hi
given_numbered true n lo hi rs h = numbered_stand n waiting lo hi rs h
given_numbered false n lo hi rs h = h

report_live : {State : Type 0} (L : Check State) (d : Document) (n : ℕ) (rs : List (Row State)) → Every (IsLive L d) rs
    → Every (IsLive L (report n d)) rs
report_live L d n rs h = every_map (IsLive L d) (IsLive L (report n d)) rs
    (λ r k. (subst (Member r.work) (sym (works_flagged L (reporting n) d)) k.0, k.1)) h

pub step_kept : {State : Type 0} (L : Check State) → Laws L → (p : Standing State) (e : Event) → Kept L p → Kept L (step L p e)
step_kept L laws p (command n q cut ls) k =
    let o = answer_onward L laws p.document q cut k.sound in
    let h = post_holds L (answer L p.document q cut).document (asks L (answer L p.document q cut).document q cut)
    (withdraw (answer L p.document q cut).document p.table)
    (asks_live L (answer L p.document q cut).document q cut)
    (withdraw_holds L p.document (answer L p.document q cut).document p.table o (record {
      rows = k.rows;
      numbers = k.numbers;
      out = k.out;
    })) in
    record { sound = o.sound; rows = h.rows; numbers = h.numbers; out = h.out }
step_kept L laws p (claim s n) k = record {
  sound = k.sound;
  rows = live_stand L p.document n (held s) p.table.rows k.rows;
  numbers = numbered_stand n (held s) 0 p.table.next p.table.rows k.numbers;
  out = claims_fewer p.table.rows (with_progress n (held s) p.table.rows) p.table.next (p.table.out ++ taken s n p.table.rows)
      (stand_was n (held s) p.table.rows)
      (every_join (IsClaim p.table.rows p.table.next) p.table.out (taken s n p.table.rows) k.out
      (taken_is s n 0 p.table.next p.table.rows k.numbers));
}
step_kept L laws p (none_waiting s) k = k
step_kept L laws p (returned s n true) k = record {
  sound = sound_flagged (reporting (block_of n p.table.rows)) p.document k.sound;
  rows = report_live L p.document (block_of n p.table.rows) (with_progress n done p.table.rows)
      (live_stand L p.document n done p.table.rows k.rows);
  numbers = numbered_stand n done 0 p.table.next p.table.rows k.numbers;
  out = every_chosen (IsClaim (with_progress n done p.table.rows) p.table.next) (λ q. not (is_pair s n q)) p.table.out
      (claims_fewer p.table.rows (with_progress n done p.table.rows) p.table.next p.table.out (stand_was n done p.table.rows) k.out);
}
step_kept L laws p (returned s n false) k = record {
  sound = k.sound;
  rows = k.rows;
  numbers = k.numbers;
  out = every_chosen (IsClaim p.table.rows p.table.next) (λ q. not (is_pair s n q)) p.table.out k.out;
}
step_kept L laws p (lose s n) k = record {
  sound = k.sound;
  rows = given_live L p.document (is_held s n p.table.rows) n p.table.rows k.rows;
  numbers = given_numbered (is_held s n p.table.rows) n 0 p.table.next p.table.rows k.numbers;
  out = every_chosen (IsClaim (given_back (is_held s n p.table.rows) n p.table.rows) p.table.next) (λ q. not (is_pair s n q)) p.table.out
      (claims_fewer p.table.rows _ p.table.next p.table.out (given_was (is_held s n p.table.rows) n p.table.rows) k.out);
}
step_kept L laws p join_answered k = record { sound = k.sound; rows = k.rows; numbers = k.numbers; out = k.out }
step_kept L laws p (join_not_yet n s) k = k
step_kept L laws p join_stopped k = record { sound = k.sound; rows = k.rows; numbers = k.numbers; out = k.out }
step_kept L laws p shut k = record {
  sound = k.sound;
  rows = tt;
  numbers = numbered_le 0 p.table.next p.table.rows k.numbers;
  out = claims_fewer p.table.rows [] p.table.next p.table.out (λ r m. absurd m) k.out;
}

pub standing_kept : {State : Type 0} (L : Check State) → Laws L → (p : Standing State) (h : List Event) → Kept L p
    → Kept L (standing_from L p h)
standing_kept L laws p [] k = k
standing_kept L laws p (e ∷ es) k = standing_kept L laws (step L p e) es (step_kept L laws p e k)

pub start_kept : {State : Type 0} (L : Check State) (limit : ℕ) → Kept L (start limit)
start_kept L limit = record {
  sound = record { items = tt; focus = tt; middle = 0; rises = omega arith; ends = omega arith };
  rows = tt;
  numbers = omega arith;
  out = tt;
}
