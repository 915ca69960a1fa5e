-- How the requests that were answered and the unread bytes go on together.
use Rattle.std.proofs.Common.{◌≡◌, ℕ, ◌+◌, ◌<◌, ◌≤◌, ◌⊎◌, inl, inr, List, [], ◌∷◌, ◌++◌, length, take, drop, Option, None, Some, IfSome}
use Rattle.std.proofs.Common.{Bool, true, false, ◌||◌, refl, sym, ap, ◌∙◌, subst, append_assoc, append-nil}
use Rattle.std.proofs.Common.{length-append, length-drop, arith}
use Rattle.std.specs.Prelude.{if◌then◌else◌, option_map}
use Rattle.std.specs.Io.KnownBytes.{Consumes, Keeps, IsAtEnd}
use Rattle.std.proofs.Math.Seq.{take-add, take-append_seam, drop-append_seam}
use Rattle.std.proofs.lemmas.List.{drop-drop, length_push}
use Rattle.base_core.specs.Lists.{Begins}
use Rattle.stm_base.specs.Counts.{Rose}
use Rattle.sexp_theory.specs.Items.{Item, Unread, Taken, next_item, items_of, end_of, fed, without_gap, most_bytes, last_items}
use Rattle.sexp_theory.specs.declared.input.InputEnd.{InputEnd}
use Rattle.sexp_theory.proofs.Streams.{items-taken, end-taken, items-without_gap, end-without_gap, items-none, items-last, fed-both}
use Rattle.sexp_theory.proofs.Streams.{fed-nothing}
use Rattle.serapi_cmd.specs.Requests.{input_end, request_of, requests_from, is_quit}
use Rattle.serapi_cmd.specs.declared.request.Request.{Request}
use Rattle.session_run.specs.Items.{requests_in, has_quit}
use Rattle.session_run.specs.Headline.{IsTaken}
use Rattle.session_run.specs.Serving.{Between, EndsAlike, Finishes, HasStopped, IsAll, IsReading, Leads, Midway, Passes, ReadingOf}
use Rattle.session_run.specs.Serving.{Served, Takes, Unless, UnlessLost, Went, behind, last_requests, midway, stop_after}
use Rattle.session_run.specs.declared.party.Answered.{Answered}
use Rattle.session_run.specs.declared.party.Answered.TheVariants.{More, Quit, Lost}
use Rattle.session_run.specs.declared.party.Loss.{Loss}
use Rattle.session_run.specs.declared.serve.Stop.{Stop}
use Rattle.session_run.specs.declared.serve.Stop.TheVariants as stop
use Rattle.session_run.specs.Numbers.{INPUT_LIMIT}

-- ---- Quit

or-none : (a : Bool) → (a || false) ≡ a
or-none true = refl
or-none false = refl

pub or-left : (a b : Bool) → (a || b) ≡ false → a ≡ false
or-left false b e = refl
or-left true b e = e

pub or-right : (a b : Bool) → (a || b) ≡ false → b ≡ false
or-right false b e = e
or-right true b e = absurd (cc)

-- one request more is Quit or none is
quit-push : (h : List Request) (q : Request) → has_quit h ≡ false → has_quit (h ++ q ∷ []) ≡ is_quit q
quit-push [] q e = or-none (is_quit q)
quit-push (x ∷ xs) q e = ap (λ b. b || has_quit (xs ++ q ∷ [])) (or-left (is_quit x) (has_quit xs) e)
    ∙ quit-push xs q (or-right (is_quit x) (has_quit xs) e)

quit-grown : (h k : List Request) (q : Request) → has_quit h ≡ false → k ≡ h ++ q ∷ [] → has_quit k ≡ is_quit q
quit-grown h k q g e = ap has_quit e ∙ quit-push h q g

-- ---- an item that is taken

-- the item that was taken is this request
abbrev request_at : Midway → Taken → Request
request_at m t = request_of (length m.asked) t.item

-- the request of an item is the first of those that are left
behind-taken : (m : Midway) (t : Taken) (more : List ℕ) (ended : Bool) → has_quit m.asked ≡ false
    → next_item most_bytes false m.unread ≡ Some t
    → behind m more ended
    ≡ request_at m t ∷ (if is_quit (request_at m t) then [] else requests_from (length m.asked + 1) (items_of most_bytes ended
    (fed t.rest more)))
behind-taken m t more ended g e =
    ap (λ (z : Bool). if z then [] else requests_from (length m.asked) (items_of most_bytes ended (fed m.unread more))) g
    ∙ ap (requests_from (length m.asked)) (items-taken most_bytes ended m.unread t more e)

went-taken : (m : Midway) (k : List Request) (t : Taken) → has_quit m.asked ≡ false → next_item most_bytes false m.unread ≡ Some t
    → k ≡ m.asked ++ request_at m t ∷ [] → Went m (midway k t.rest)
went-taken m k t g e i more ended =
    let h = m.asked in
    let q = request_at m t in
    let X = λ (n : ℕ). requests_from n (items_of most_bytes ended (fed t.rest more)) in
    let left = behind-taken m t more ended g e in
    let count : length k ≡ length h + 1 = ap length i ∙ length_push h q in
    let right : behind (midway k t.rest) more ended ≡ (if is_quit q then [] else X (length h + 1)) =
    ap (λ (z : Bool). if z then [] else X (length k)) (quit-grown h k q g i) ∙ ap (λ n. if is_quit q then [] else X n) count in
    ap (λ z. h ++ z) left ∙ sym (append_assoc h (q ∷ []) (if is_quit q then [] else X (length h + 1)))
    ∙ sym (ap (λ z. z ++ behind (midway k t.rest) more ended) i ∙ ap (λ z. (h ++ q ∷ []) ++ z) right)

went-gap : (m : Midway) → Went m (midway m.asked (without_gap m.unread))
went-gap m more ended = ap (λ t. m.asked ++ (if has_quit m.asked then [] else requests_from (length m.asked) t))
    (sym (items-without_gap most_bytes ended m.unread more))

went-both : (m k l : Midway) → Went m k → Went k l → Went m l
went-both m k l a b more ended = a more ended ∙ b more ended

leads-after : (m k : Midway) (l : List Request) → Went m k → Leads k l → Leads m l
leads-after m k l w r = (r.0, λ more ended. w more ended ∙ r.1 more ended)

-- one request more, or memory was wanting
leads-one : (m : Midway) (k : List Request) (t : Taken) → has_quit m.asked ≡ false → next_item most_bytes false m.unread ≡ Some t
    → (k ≡ m.asked) ⊎ (k ≡ m.asked ++ request_at m t ∷ []) → Leads m k
leads-one m k t g e (inl same) = (behind m, λ more ended. ap (λ z. z ++ behind m more ended) (sym same))
leads-one m k t g e (inr i) = (behind (midway k t.rest), went-taken m k t g e i)

ends-taken : (u : Unread) (t : Taken) → next_item most_bytes false u ≡ Some t → EndsAlike u t.rest
ends-taken u t e more = end-taken most_bytes u t more e

ends-gap : (u : Unread) → EndsAlike u (without_gap u)
ends-gap u more = sym (end-without_gap most_bytes u more)

ends-both : (u v w : Unread) → EndsAlike u v → EndsAlike v w → EndsAlike u w
ends-both u v w a b more = a more ∙ b more

-- ---- the items of a piece

-- the items before were answered, and there is another
pub record IsNext (m k : Midway) (t : Taken) : Type 0 where
  pub went : Went m k
  pub going : has_quit k.asked ≡ false
  pub found : next_item most_bytes false k.unread ≡ Some t

pub passes-none : (m k : Midway) (left : Bool) → Went m k → EndsAlike m.unread k.unread → has_quit k.asked ≡ false → left ≡ false
    → Passes More m (midway k.asked (without_gap k.unread)) left
passes-none m k left w e g whole = (
  went-both m k (midway k.asked (without_gap k.unread)) w (went-gap k),
  ends-both m.unread k.unread (without_gap k.unread) e
      (ends-gap k.unread),
  g,
  whole,
)

pub went-next : (m k : Midway) (l : List Request) (t : Taken) → IsNext m k t → l ≡ k.asked ++ request_of (length k.asked) t.item ∷ []
    → Went m (midway l t.rest)
went-next m k l t n e = went-both m k (midway l t.rest) n.went (went-taken k l t n.going n.found e)

pub ends-next : (m k : Midway) (t : Taken) → IsNext m k t → EndsAlike m.unread k.unread → EndsAlike m.unread t.rest
ends-next m k t n e = ends-both m.unread k.unread t.rest e (ends-taken k.unread t n.found)

pub going-next : (m k : Midway) (l : List Request) (t : Taken) → IsNext m k t → l ≡ k.asked ++ request_of (length k.asked) t.item ∷ []
    → has_quit l ≡ is_quit (request_of (length k.asked) t.item)
going-next m k l t n e = quit-grown k.asked l (request_at k t) n.going e

pub passes-quit : (m k : Midway) (l : List Request) (t : Taken) (left : Bool) → IsNext m k t
    → Takes Quit k.asked (request_of (length k.asked) t.item) l left → Passes Quit m (midway l t.rest) left
passes-quit m k l t left n i = (went-next m k l t n i.0, going-next m k l t n i.0 ∙ i.1, i.2)

pub passes-lost : (m k : Midway) (l : List Request) (t : Taken) → IsNext m k t
    → (l ≡ k.asked) ⊎ (l ≡ k.asked ++ request_of (length k.asked) t.item ∷ []) → Leads m l
passes-lost m k l t n i = leads-after m k l n.went (leads-one k l t n.going n.found i)

pub passes-memory : (m k : Midway) → Went m k → Leads m k.asked
passes-memory m k w = (behind k, w)

-- a turn of the loop has an item less before it
pub items-fewer : (u : Unread) (t : Taken) → next_item most_bytes false u ≡ Some t
    → length (items_of most_bytes false t.rest) < length (items_of most_bytes false u)
items-fewer u t e =
    let eq : items_of most_bytes false u ≡ t.item ∷ items_of most_bytes false t.rest =
    ap (items_of most_bytes false) (sym (fed-nothing u)) ∙ items-taken most_bytes false u t [] e
    ∙ ap (λ w. t.item ∷ items_of most_bytes false w) (fed-nothing t.rest) in
    omega (arith, ap length eq)

-- ---- the end of the input

-- the requests that the end of the input has
last-one : (m : Midway) (k : List Request) (t : Taken) → next_item most_bytes false m.unread ≡ None
    → next_item most_bytes true m.unread ≡ Some t → k ≡ m.asked ++ request_at m t ∷ [] → m.asked ++ last_requests m ≡ k
last-one m k t n e i =
    let q = request_at m t in
    ap (λ is. m.asked ++ requests_from (length m.asked) is) (items-last most_bytes m.unread n ∙ ap last_items e)
    ∙ ap (λ z. m.asked ++ q ∷ z) (by (is_quit q)) ∙ sym i
  where
    by : (c : Bool) → ◌≡◌ {A = List Request} (if c then [] else []) []
    by true = refl
    by false = refl

lost-one : (m : Midway) (k : List Request) (t : Taken) → next_item most_bytes false m.unread ≡ None
    → next_item most_bytes true m.unread ≡ Some t → (k ≡ m.asked) ⊎ (k ≡ m.asked ++ request_at m t ∷ [])
    → Begins k (m.asked ++ last_requests m)
lost-one m k t n e (inl same) = (last_requests m, ap (λ z. z ++ last_requests m) (sym same))
lost-one m k t n e (inr i) = ([], last-one m k t n e i ∙ sym (append-nil k))

-- the end of the input is met with a last item, or without
record IsLast (m : Midway) (t : Taken) (end : InputEnd) : Type 0 where
  none : next_item most_bytes false m.unread ≡ None
  found : next_item most_bytes true m.unread ≡ Some t
  going : has_quit m.asked ≡ false
  ends : end ≡ end_of most_bytes m.unread

finishes-item : (a : Answered) (m : Midway) (k : List Request) (t : Taken) (end : InputEnd) (left : Bool) → IsLast m t end
    → Takes a m.asked (request_at m t) k left → Finishes (stop_after a end) m k left
finishes-item More m k t end left l i =
    (last-one m k t l.none l.found i.0, quit-grown m.asked k (request_at m t) l.going i.0 ∙ i.1, l.ends, i.2)
finishes-item Quit m k t end left l i =
    (last-one m k t l.none l.found i.0, quit-grown m.asked k (request_at m t) l.going i.0 ∙ i.1, i.2)
finishes-item (Lost loss) m k t end left l i = lost-one m k t l.none l.found i

last-some : (x : Option Taken) (i : Item) → Some i ≡ option_map (λ t. t.item) x → (t : Taken) × (x ≡ Some t) × (t.item ≡ i)
last-some None i e = absurd (cc)
last-some (Some t) i e = (t, refl, sym (ap (λ o. elim o [ None ↦ i | Some x ↦ x ]) e))

-- the reader's last item, as `finish` tells it
pub record IsFinished (m : Midway) (limit : ℕ) (i : Item) (end : InputEnd) : Type 0 where
  pub limited : limit ≡ most_bytes
  pub none : next_item most_bytes false m.unread ≡ None
  pub found : Some i ≡ option_map (λ t. t.item) (next_item limit true m.unread)
  pub going : has_quit m.asked ≡ false
  pub ends : end ≡ end_of limit m.unread

pub finished-some : {m : Midway} {limit : ℕ} {i : Item} {end : InputEnd} (a : Answered) (k : List Request) (left : Bool)
    → IsFinished m limit i end → Takes a m.asked (request_of (length m.asked) i) k left → Finishes (stop_after a end) m k left
finished-some {m} {limit} {i} {end} a k left d takes =
    let f = last-some (next_item limit true m.unread) i d.found in
    let l : IsLast m f.0 end = record {
      none = d.none;
      found = ap (λ n. next_item n true m.unread) (sym d.limited) ∙ f.1;
      going = d.going;
      ends = d.ends ∙ ap (λ n. end_of n m.unread) d.limited;
    } in
    finishes-item a m k f.0 end left l
    (subst (λ x. Takes a m.asked (request_of (length m.asked) x) k left) (sym f.2) takes)

pub finishes-memory : (m : Midway) → Begins m.asked (m.asked ++ last_requests m)
finishes-memory m = (last_requests m, refl)

-- what stands unless a request was lost stands unless the serving stopped so
pub unless-stopped : (a : Answered) (end : InputEnd) (A : Type 0) → Unless a A → UnlessLost (stop_after a end) A
unless-stopped More end A u = u
unless-stopped Quit end A u = u
unless-stopped (Lost loss) end A u = u

-- ---- the bytes that were taken

-- a piece that was taken and fed
fed-some : (all : List ℕ) (o b : Option (List ℕ)) (n : ℕ) (m : Midway) (piece : List ℕ) → ReadingOf all o n m
    → Consumes (Some (drop n all)) b piece → ReadingOf all b (n + length piece) (midway m.asked (fed m.unread piece))
fed-some all o None n m piece r c = absurd c
fed-some all o (Some ys) n m piece r c =
    let h = m.asked in
    let u = m.unread in
    let front : take (n + length piece) all ≡ take n all ++ piece =
    take-add n (length piece) all ∙ ap (λ t. take n all ++ take (length piece) t) c
    ∙ ap (λ t. take n all ++ t) (take-append_seam piece ys) in
    let joined : (more : List ℕ) → take (n + length piece) all ++ more ≡ take n all ++ (piece ++ more) =
    λ more. ap (λ t. t ++ more) front ∙ append_assoc (take n all) piece more in
    record {
      within = omega (arith, r.within, length-drop n all, length-append piece ys, ap length c);
      rest = ap Some (sym (sym (drop-drop (length piece) n all) ∙ ap (drop (length piece)) c ∙ drop-append_seam piece ys));
      reads = λ more ended.
          ap (λ t. requests_in t ended) (joined more) ∙ r.reads (piece ++ more) ended
          ∙ ap (λ t. h ++ (if has_quit h then [] else requests_from (length h) (items_of most_bytes ended t)))
          (sym (fed-both u piece more));
      ends = λ more. ap input_end (joined more) ∙ r.ends (piece ++ more) ∙ ap (end_of most_bytes) (sym (fed-both u piece more));
    }

pub reading-fed : (o a b : Option (List ℕ)) (n : ℕ) (m : Midway) (piece : List ℕ) → IsReading o a n m
    → Consumes a b piece → IsReading o b (n + length piece) (midway m.asked (fed m.unread piece))
reading-fed None a b n m piece r c = tt
reading-fed (Some all) a b n m piece r c = fed-some all a b n m piece r (subst (λ z. Consumes z b piece) r.rest c)

pub reading-went : (o a : Option (List ℕ)) (n : ℕ) (m l : Midway) → IsReading o a n m → Went m l → EndsAlike m.unread l.unread
    → IsReading o a n l
reading-went None a n m l r w e = tt
reading-went (Some all) a n m l r w e = record {
  within = r.within;
  rest = r.rest;
  reads = λ more ended. r.reads more ended ∙ w more ended;
  ends = λ more. r.ends more ∙ e more;
}

kept-some : (xs : List ℕ) (a b : Option (List ℕ)) → a ≡ Some xs → Keeps a b → b ≡ Some xs
kept-some xs (Some x) None e k = absurd k
kept-some xs (Some x) (Some y) e k = ap Some k ∙ e
kept-some xs None b e k = absurd (cc)

pub reading-kept : (o a b : Option (List ℕ)) (n : ℕ) (m : Midway) → IsReading o a n m → Keeps a b → IsReading o b n m
reading-kept None a b n m r k = tt
reading-kept (Some all) a b n m r k = record {
  within = r.within;
  rest = kept-some (drop n all) a b r.rest k;
  reads = r.reads;
  ends = r.ends;
}

consumes-none : (a b : Option (List ℕ)) → Consumes a b [] → Keeps a b
consumes-none None b c = tt
consumes-none (Some x) None c = absurd c
consumes-none (Some x) (Some y) c = sym c

pub reading-none : (o a b : Option (List ℕ)) (n : ℕ) (m : Midway) → IsReading o a n m → Consumes a b [] → IsReading o b n m
reading-none o a b n m r c = reading-kept o a b n m r (consumes-none a b c)

-- ---- each way to stop

taken-of : (o a : Option (List ℕ)) (n : ℕ) (m : Midway) → IsReading o a n m → IfSome o (λ all. IsTaken all a n)
taken-of None a n m r = tt
taken-of (Some all) a n m r = record { within = r.within; rest = r.rest }

-- the requests in the bytes taken are those that were answered and those in what is unread
at-hand : (all : List ℕ) (a : Option (List ℕ)) (n : ℕ) (m : Midway) (ended : Bool) → ReadingOf all a n m
    → requests_in (take n all) ended ≡ m.asked ++ behind m [] ended
at-hand all a n m ended r = ap (λ t. requests_in t ended) (sym (append-nil (take n all))) ∙ r.reads [] ended

all-of : (o a : Option (List ℕ)) (n : ℕ) (m : Midway) (k : List Request) (ended : Bool) → IsReading o a n m
    → m.asked ++ behind m [] ended ≡ k → IsAll o n ended k
all-of None a n m k ended r l = tt
all-of (Some all) a n m k ended r l = sym (at-hand all a n m ended r ∙ l)

begins-of : (o a : Option (List ℕ)) (n : ℕ) (m : Midway) (k : List Request) (ended : Bool) → IsReading o a n m
    → Begins k (m.asked ++ behind m [] ended) → IfSome o (λ all. Begins k (requests_in (take n all) ended))
begins-of None a n m k ended r l = tt
begins-of (Some all) a n m k ended r l = (l.0, at-hand all a n m ended r ∙ l.1)

-- nothing more is whole
nothing-behind : (m : Midway) → has_quit m.asked ≡ false → next_item most_bytes false m.unread ≡ None
    → m.asked ++ behind m [] false ≡ m.asked
nothing-behind m g i =
    let h = m.asked in
    ap (λ (z : Bool). h ++ (if z then [] else requests_from (length h) (items_of most_bytes false (fed m.unread [])))) g
    ∙ ap (λ t. h ++ requests_from (length h) (items_of most_bytes false t)) (fed-nothing m.unread)
    ∙ ap (λ is. h ++ requests_from (length h) is) (items-none most_bytes m.unread i) ∙ append-nil h

-- nothing is behind Quit
nothing-then : (m : Midway) (ended : Bool) → has_quit m.asked ≡ true → m.asked ++ behind m [] ended ≡ m.asked
nothing-then m ended g =
    let h = m.asked in
    ap (λ (z : Bool). h ++ (if z then [] else requests_from (length h) (items_of most_bytes ended (fed m.unread [])))) g
    ∙ append-nil h

-- what is behind at the end of the input
at_end-behind : (m : Midway) → has_quit m.asked ≡ false → m.asked ++ behind m [] true ≡ m.asked ++ last_requests m
at_end-behind m g =
    let h = m.asked in
    ap (λ (z : Bool). h ++ (if z then [] else requests_from (length h) (items_of most_bytes true (fed m.unread [])))) g
    ∙ ap (λ t. h ++ requests_from (length h) (items_of most_bytes true t)) (fed-nothing m.unread)

-- where the loop stands between two pieces: n bytes were taken, and all whole items in them were answered
pub record IsPaused (s : Between) (n : ℕ) (m : Midway) (left : Bool) : Type 0 where
  pub reading : IsReading s.left_before s.left_after n m
  pub none : next_item most_bytes false m.unread ≡ None
  pub going : has_quit m.asked ≡ false
  pub whole : left ≡ false

pub served-fault : {s : Between} {n : ℕ} {m : Midway} {left : Bool} → IsPaused s n m left → n < INPUT_LIMIT
    → Rose s.faults_before s.faults_after → Served s (record { stop = stop.Fault; taken = n; at_end = false }) m.asked left
served-fault {s} {n} {m} {left} p limit rose = record {
  taken_bytes = taken-of s.left_before s.left_after n m p.reading;
  limit = omega (arith, limit);
  nothing_left = λ e. absurd (cc);
  stopped = (
    all-of s.left_before s.left_after n m m.asked false p.reading (nothing-behind m p.going p.none),
    p.going,
    rose,
    refl,
    limit,
    p.whole,
  );
}

pub served-limit : {s : Between} {n : ℕ} {m : Midway} {left : Bool} → IsPaused s n m left → n ≡ INPUT_LIMIT
    → s.faults_after ≡ s.faults_before → Served s (record { stop = stop.Limit; taken = n; at_end = false }) m.asked left
served-limit {s} {n} {m} {left} p full same = record {
  taken_bytes = taken-of s.left_before s.left_after n m p.reading;
  limit = omega (arith, full);
  nothing_left = λ e. absurd (cc);
  stopped = (
    all-of s.left_before s.left_after n m m.asked false p.reading (nothing-behind m p.going p.none),
    p.going,
    same,
    refl,
    full,
    p.whole,
  );
}

-- n bytes were taken without a fault, and the unread bytes among them are still to be answered
pub record HasTaken (s : Between) (n : ℕ) (m : Midway) : Type 0 where
  pub reading : IsReading s.left_before s.left_after n m
  pub limit : n ≤ INPUT_LIMIT
  pub same : s.faults_after ≡ s.faults_before

-- a Quit in a piece
pub served-quit : {s : Between} {n : ℕ} {m : Midway} (l : Midway) (left : Bool) → HasTaken s n m → Passes Quit m l left
    → Served s (record { stop = stop.Quit; taken = n; at_end = false }) l.asked left
served-quit {s} {n} {m} l left r p = record {
  taken_bytes = taken-of s.left_before s.left_after n m r.reading;
  limit = r.limit;
  nothing_left = λ e. absurd (cc);
  stopped = (
    all-of s.left_before s.left_after n m l.asked false r.reading (p.0 [] false ∙ nothing-then l false p.1),
    p.1,
    r.same,
    p.2,
  );
}

-- no more could be answered in a piece
pub served-lost : {s : Between} {n : ℕ} {m : Midway} (k : List Request) (loss : Loss) (left : Bool) → HasTaken s n m → Leads m k
    → Served s (record { stop = stop.Lost loss; taken = n; at_end = false }) k left
served-lost {s} {n} {m} k loss left r p = record {
  taken_bytes = taken-of s.left_before s.left_after n m r.reading;
  limit = r.limit;
  nothing_left = λ e. absurd (cc);
  stopped = (begins-of s.left_before s.left_after n m k false r.reading (p.0 [] false, p.1 [] false), r.same);
}

ended-alike : (o a : Option (List ℕ)) (n : ℕ) (m : Midway) (end : InputEnd) → IsReading o a n m
    → end ≡ end_of most_bytes m.unread → IfSome o (λ all. input_end (take n all) ≡ end)
ended-alike None a n m end r e = tt
ended-alike (Some all) a n m end r e =
    ap input_end (sym (append-nil (take n all))) ∙ r.ends [] ∙ ap (end_of most_bytes) (fed-nothing m.unread) ∙ sym e

stopped-end : {s : Between} {n : ℕ} {m : Midway} (k : List Request) (left : Bool) (how : Stop) → HasTaken s n m
    → has_quit m.asked ≡ false → Finishes how m k left → HasStopped how s n true k left
stopped-end {s} {n} {m} k left stop.Quit r g f =
    (all-of s.left_before s.left_after n m k true r.reading (at_end-behind m g ∙ f.0), f.1, r.same, f.2)
stopped-end {s} {n} {m} k left (stop.End end) r g f = (
  all-of s.left_before s.left_after n m k true r.reading (at_end-behind m g ∙ f.0),
  f.1,
  r.same,
  refl,
  ended-alike s.left_before s.left_after n m end r.reading f.2,
  f.3,
)
stopped-end {s} {n} {m} k left stop.Fault r g f = absurd f
stopped-end {s} {n} {m} k left stop.Limit r g f = absurd f
stopped-end {s} {n} {m} k left (stop.Lost loss) r g f =
    (begins-of s.left_before s.left_after n m k true r.reading (f.0, at_end-behind m g ∙ f.1), r.same)

-- the end of the input
pub served-end : {s : Between} {n : ℕ} {m : Midway} (k : List Request) (left : Bool) (how : Stop) → HasTaken s n m → IsAtEnd s.left_after
    → has_quit m.asked ≡ false → Finishes how m k left → Served s (record { stop = how; taken = n; at_end = true }) k left
served-end {s} {n} {m} k left how r end g f = record {
  taken_bytes = taken-of s.left_before s.left_after n m r.reading;
  limit = r.limit;
  nothing_left = λ _. end;
  stopped = stopped-end k left how r g f;
}
