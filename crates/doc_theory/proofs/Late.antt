-- Results that come late: a kept one gives what the check of the claimed task gives, which is what the live document gives there.
use Rattle.std.proofs.Common.{
  ◌≡◌,
  ◌⊎◌,
  inl,
  inr,
  ℕ,
  nat_eq,
  ◌&&◌,
  ◌||◌,
  List,
  [],
  ◌∷◌,
  ◌++◌,
  Some,
  Bool,
  true,
  false,
  if◌then◌else◌,
  refl,
  sym,
  ap,
  ◌∙◌,
}
use Rattle.doc_theory.specs.Lists.{Member}
use Rattle.doc_theory.specs.Checks.{Check, Laws, Work, works}
use Rattle.doc_theory.specs.Histories.{
  Progress,
  is_by,
  waiting,
  done,
  Row,
  Pair,
  is_pair,
  is_out,
  is_held,
  block_of,
  taken,
  held,
  least_waiting,
  first_of,
  Event,
  claim,
  returned,
  Standing,
  start,
  standing,
  standing_from,
  step,
  Asks,
  LegalFrom,
  Legal,
  result_lines,
  written,
}
use Rattle.doc_theory.specs.Tasks.{task_lines, IsLive, IsClaim, Kept}
use Rattle.line_theory.proofs.Lists.{no, test_same, either_true}
use Rattle.doc_theory.proofs.Lists.{member_right, every_at, test_is}
use Rattle.doc_theory.proofs.Tables.{standing_kept, start_kept}
use Rattle.doc_theory.proofs.Reports.{live_lines}

pub history_kept : {State : Type 0} (L : Check State) → Laws L → (limit : ℕ) (h : List Event) → Kept L (standing L limit h)
history_kept L laws limit h = standing_kept L laws (start limit) h (start_kept L limit)

-- what the standing before the last event asked of it
pub last_asks : {State : Type 0} (L : Check State) (p : Standing State) (h : List Event) (e : Event) → LegalFrom L p (h ++ (e ∷ []))
    → Asks L (standing_from L p h) e
last_asks L p [] e l = l.0
last_asks L p (x ∷ h) e l = last_asks L (step L p x) h e l.1

both_left : (a b : Bool) → (a && b) ≡ true → a ≡ true
both_left true b h = refl
both_left false b h = no h

both_right : (a b : Bool) → (a && b) ≡ true → b ≡ true
both_right true b h = h
both_right false b h = no h

-- a pair of this seat and number is out
out_pair : {State : Type 0} (s n : ℕ) (out : List (Pair State)) → is_out s n out ≡ true
    → (w : Work State) × Member (record { seat = s; number = n; work = w }) out
out_pair s n [] h = no h
out_pair {State} s n (q ∷ qs) h = go (either_true (is_pair s n q) (is_out s n qs) h) (out_pair s n qs)
  where
    go : (is_pair s n q ≡ true) ⊎ (is_out s n qs ≡ true)
        → (is_out s n qs ≡ true → (w : Work State) × Member (record { seat = s; number = n; work = w }) qs)
        → (w : Work State) × Member (record { seat = s; number = n; work = w }) (q ∷ qs)
    go (inl k) more = let a = test_is q.seat s (both_left (nat_eq s q.seat) (nat_eq n q.number) k) in let b =
        test_is q.number n (both_right (nat_eq s q.seat) (nat_eq n q.number) k) in
        (q.work, inl (λ i. record { seat = sym a i; number = sym b i; work = q.work }))
    go (inr k) more = let r = more k in (r.0, inr r.1)

-- a held row is there, and its block is the block of its number
held_row : {State : Type 0} (s n : ℕ) (rs : List (Row State)) → is_held s n rs ≡ true
    → (r : Row State) × (Member r rs × ((r.number ≡ n) × (block_of n rs ≡ r.block)))
held_row s n [] h = no h
held_row {State} s n (r ∷ rs) h = go (nat_eq n r.number) refl h (held_row s n rs)
  where
    go : (b : Bool) → (nat_eq n r.number) ≡ b → ((b && is_by s r.progress) || is_held s n rs) ≡ true
        → (is_held s n rs ≡ true → (x : Row State) × (Member x rs × ((x.number ≡ n) × (block_of n rs ≡ x.block))))
        → (x : Row State) × (Member x (r ∷ rs) × ((x.number ≡ n) × ((if nat_eq n r.number then r.block else block_of n rs) ≡ x.block)))
    go true e k more = (r, (inl refl, (test_is r.number n e, ap (λ b. if b then r.block else block_of n rs) e)))
    go false e k more = let x = more k in (x.0, (inr x.1.0, (x.1.1.0, ap (λ b. if b then r.block else block_of n rs) e ∙ x.1.1.1)))

-- a kept result's lines are those of the check of the task that its seat claimed
pub kept_result : {State : Type 0} (L : Check State) → Laws L → (limit : ℕ) (h : List Event) (s n : ℕ)
    → Legal L limit (h ++ (returned s n true ∷ []))
    → (w : Work State) × (Member (record { seat = s; number = n; work = w }) (standing L limit h).table.out ×
    (written L (standing L limit h) (returned s n true) ≡ task_lines L w))
kept_result L laws limit h s n l =
    let k = history_kept L laws limit h in
    let a = last_asks L (start limit) h (returned s n true) l in
    let q = out_pair s n (standing L limit h).table.out a.1.0 in
    let r = held_row s n (standing L limit h).table.rows (sym a.1.1) in
    let live = every_at (IsLive L (standing L limit h).document) (standing L limit h).table.rows k.rows r.0 r.1.0 in
    let same = (every_at (IsClaim (standing L limit h).table.rows (standing L limit h).table.next)
    (standing L limit h).table.out k.out (record { seat = s; number = n; work = q.0 }) q.1).1 r.0 r.1.0 r.1.1.0 in (
      q.0,
      (
        q.1,
        ap (result_lines L (standing L limit h).document) (r.1.1.1 ∙ live.1) ∙
            live_lines L (standing L limit h).document r.0.work k.sound live.0 ∙ ap (task_lines L) same,
      ),
    )

-- the least row that waits is there
waiting_row : {State : Type 0} (n : ℕ) (rs : List (Row State)) → least_waiting rs ≡ Some n
    → (r : Row State) × (Member r rs × (r.number ≡ n))
waiting_row n [] h = cc
waiting_row {State} n (r ∷ rs) h = go r.progress h (waiting_row n rs)
  where
    go : (t : Progress) → first_of t r.number (least_waiting rs) ≡ Some n
        → (least_waiting rs ≡ Some n → (x : Row State) × (Member x rs × (x.number ≡ n)))
        → (x : Row State) × (Member x (r ∷ rs) × (x.number ≡ n))
    go waiting e k = (r, (inl refl, cc))
    go (held s) e k = let x = k e in (x.0, (inr x.1.0, x.1.1))
    go done e k = let x = k e in (x.0, (inr x.1.0, x.1.1))

-- and a claim is given its work
taken_there : {State : Type 0} (s n : ℕ) (rs : List (Row State)) (r : Row State) → Member r rs → r.number ≡ n
    → (x : Row State) × (Member x rs × Member (record { seat = s; number = n; work = x.work }) (taken s n rs))
taken_there s n [] r m e = absurd m
taken_there {State} s n (q ∷ rs) r m e = go (nat_eq n q.number) refl m (taken_there s n rs r)
  where
    go : (b : Bool) → (nat_eq n q.number) ≡ b → Member r (q ∷ rs)
        → (Member r rs → r.number ≡ n → (x : Row State) × (Member x rs × Member (record { seat = s; number = n; work = x.work })
        (taken s n rs)))
        → (x : Row State) × (Member x (q ∷ rs) × Member (record { seat = s; number = n; work = x.work })
        (if b then record { seat = s; number = n; work = q.work } ∷ [] else taken s n rs))
    go true f k more = (q, (inl refl, inl refl))
    go false f (inl k) more = no (sym f ∙ ap (λ z. nat_eq n z) (ap (λ z. z.number) (sym k) ∙ e) ∙ test_same n)
    go false f (inr k) more = let x = more k e in (x.0, (inr x.1.0, x.1.1))

-- a claimed task has the work of a block of the live document
pub claimed_task : {State : Type 0} (L : Check State) → Laws L → (limit : ℕ) (h : List Event) (s n : ℕ)
    → Legal L limit (h ++ (claim s n ∷ []))
    → (w : Work State) × (Member (record { seat = s; number = n; work = w }) (step L (standing L limit h) (claim s n)).table.out
    × Member w (works L (standing L limit h).document))
claimed_task L laws limit h s n l =
    let k = history_kept L laws limit h in
    let a = last_asks L (start limit) h (claim s n) l in
    let r = waiting_row n (standing L limit h).table.rows a.1 in
    let t = taken_there s n (standing L limit h).table.rows r.0 r.1.0 r.1.1 in (
      t.0.work,
      (
        member_right _ (standing L limit h).table.out _ t.1.1,
        (every_at (IsLive L (standing L limit h).document) (standing L limit h).table.rows k.rows t.0 t.1.0).0,
      ),
    )

-- a number that no row has any more is held by nobody
pub gone_result : {State : Type 0} (L : Check State) (limit : ℕ) (h : List Event) (s n : ℕ) (kept : Bool)
    → Legal L limit (h ++ (returned s n kept ∷ []))
    → ((r : Row State) → Member r (standing L limit h).table.rows → r.number ≡ n → ⊥) → kept ≡ false
gone_result {State} L limit h s n kept l none = (last_asks L (start limit) h (returned s n kept) l).1.1
    ∙ go (is_held s n (standing L limit h).table.rows) refl
  where
    go : (b : Bool) → is_held s n (standing L limit h).table.rows ≡ b → b ≡ false
    go true e = let r = held_row s n (standing L limit h).table.rows e in absurd (none r.0 r.1.0 r.1.1.0)
    go false e = refl
