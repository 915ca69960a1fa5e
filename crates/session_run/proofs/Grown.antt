-- Histories with one more event at their end, and what a session keeps of them.
use Rattle.std.proofs.Common.{◌≡◌, ℕ, suc, ◌+◌, ◌≤◌, ◌<◌, ◌^◌, List, [], ◌∷◌, ◌++◌, length, Bool, true, false, refl, sym, ap, ◌∙◌}
use Rattle.std.proofs.Common.{subst, append-nil, arith}
use Rattle.std.proofs.lemmas.List.{length_push}
use Rattle.stm_base.specs.Output.{Output, IsPut, begun, fresh}
use Rattle.stm_base.proofs.Puts.{IsPut-both}
use Rattle.serapi_cmd.specs.Requests.{is_quit}
use Rattle.serapi_cmd.specs.declared.request.Request.{Request}
use Rattle.serapi_ans.specs.Lines.{lines_text}
use Rattle.serapi_ans.specs.declared.line.Line.{Line}
use Rattle.doc_theory.specs.Answers.{Cut}
use Rattle.doc_theory.specs.Histories.{
  Event,
  command,
  claim,
  none_waiting,
  returned,
  lose,
  join_answered,
  join_not_yet,
  join_stopped,
  shut,
  IsNumbered,
  requests,
}
use Rattle.doc_core.specs.Answers.{answer}
use Rattle.doc_core.specs.Histories.{Standing, start, step, standing, standing_from, render, asked}
use Rattle.doc_core.specs.Kept.{Held, at, Takes}
use Rattle.doc_core.proofs.Grown.{standing-grown, render-grown}
use Rattle.doc_core.proofs.Lines.{lines_text-append}
use Rattle.session_run.specs.Items.{has_quit}
use Rattle.session_run.specs.Closing.{closed_from, is_closed, is_end, rendered}
use Rattle.session_run.specs.Kept.{IsKept}
use Rattle.session_run.proofs.Progress.{or-left, or-right}

-- ---- one event more

requests-grown : (es : List Event) (n : ℕ) (q : Request) (cut : Cut) (ls : List Line)
    → requests (es ++ command n q cut ls ∷ []) ≡ requests es ++ q ∷ []
requests-grown [] n q cut ls = refl
requests-grown (command m r c ks ∷ es) n q cut ls = ap (λ t. r ∷ t) (requests-grown es n q cut ls)
requests-grown (claim s m ∷ es) n q cut ls = requests-grown es n q cut ls
requests-grown (none_waiting s ∷ es) n q cut ls = requests-grown es n q cut ls
requests-grown (returned s m kept ∷ es) n q cut ls = requests-grown es n q cut ls
requests-grown (lose s m ∷ es) n q cut ls = requests-grown es n q cut ls
requests-grown (join_answered ∷ es) n q cut ls = requests-grown es n q cut ls
requests-grown (join_not_yet m s ∷ es) n q cut ls = requests-grown es n q cut ls
requests-grown (join_stopped ∷ es) n q cut ls = requests-grown es n q cut ls
requests-grown (shut ∷ es) n q cut ls = requests-grown es n q cut ls

requests-ended : (es : List Event) → requests (es ++ shut ∷ []) ≡ requests es
requests-ended [] = refl
requests-ended (command m r c ks ∷ es) = ap (λ t. r ∷ t) (requests-ended es)
requests-ended (claim s m ∷ es) = requests-ended es
requests-ended (none_waiting s ∷ es) = requests-ended es
requests-ended (returned s m kept ∷ es) = requests-ended es
requests-ended (lose s m ∷ es) = requests-ended es
requests-ended (join_answered ∷ es) = requests-ended es
requests-ended (join_not_yet m s ∷ es) = requests-ended es
requests-ended (join_stopped ∷ es) = requests-ended es
requests-ended (shut ∷ es) = requests-ended es

-- no more requests than events
requests-within : (es : List Event) → length (requests es) ≤ length es
requests-within [] = omega arith
requests-within (command m r c ks ∷ es) = omega (arith, requests-within es)
requests-within (claim s m ∷ es) = omega (arith, requests-within es)
requests-within (none_waiting s ∷ es) = omega (arith, requests-within es)
requests-within (returned s m kept ∷ es) = omega (arith, requests-within es)
requests-within (lose s m ∷ es) = omega (arith, requests-within es)
requests-within (join_answered ∷ es) = omega (arith, requests-within es)
requests-within (join_not_yet m s ∷ es) = omega (arith, requests-within es)
requests-within (join_stopped ∷ es) = omega (arith, requests-within es)
requests-within (shut ∷ es) = omega (arith, requests-within es)

-- the last event alone says whether the history is closed
closed-grown : (b : Bool) (es : List Event) (e : Event) → closed_from b (es ++ e ∷ []) ≡ is_end e
closed-grown b [] e = refl
closed-grown b (x ∷ es) e = closed-grown (is_end x) es e

-- ---- the standing against the list

quit-of : (p : Standing) (es : List Event) → p.quit ≡ false → has_quit (requests es) ≡ false → (standing_from p es).quit ≡ false
quit-of p [] q h = q
quit-of p (command n r cut ls ∷ es) q h =
    quit-of (step p (command n r cut ls)) es (or-left (is_quit r) (has_quit (requests es)) h)
    (or-right (is_quit r) (has_quit (requests es)) h)
quit-of p (claim s m ∷ es) q h = quit-of p es q h
quit-of p (none_waiting s ∷ es) q h = quit-of p es q h
quit-of p (returned s m kept ∷ es) q h = quit-of p es q h
quit-of p (lose s m ∷ es) q h = quit-of p es q h
quit-of p (join_answered ∷ es) q h = quit-of p es q h
quit-of p (join_not_yet m s ∷ es) q h = quit-of p es q h
quit-of p (join_stopped ∷ es) q h = quit-of p es q h
quit-of p (shut ∷ es) q h = quit-of (step p shut) es q h

commands-of : (p : Standing) (es : List Event) → (standing_from p es).commands ≡ p.commands + length (requests es)
commands-of p [] = omega arith
commands-of p (command n q cut ls ∷ es) = omega (arith, commands-of (step p (command n q cut ls)) es)
commands-of p (claim s m ∷ es) = commands-of p es
commands-of p (none_waiting s ∷ es) = commands-of p es
commands-of p (returned s m kept ∷ es) = commands-of p es
commands-of p (lose s m ∷ es) = commands-of p es
commands-of p (join_answered ∷ es) = commands-of p es
commands-of p (join_not_yet m s ∷ es) = commands-of p es
commands-of p (join_stopped ∷ es) = commands-of p es
commands-of p (shut ∷ es) = commands-of (step p shut) es

-- ---- a session that may be asked

-- what a document is asked of before it answers a request
pub record MayAsk (d : Held) (count : ℕ) (q : Request) : Type 0 where
  pub going : (at d).closed ≡ false
  pub no_quit : (at d).quit ≡ false
  pub number : count ≡ (at d).commands
  pub numbered : IsNumbered count q

pub may-ask : {d : Held} {count : ℕ} {o : Output} {q : Request} → IsKept d count o → is_closed d.history ≡ false
    → has_quit (requests d.history) ≡ false → IsNumbered (length (requests d.history)) q → MayAsk d count q
may-ask {d} {count} {o} {q} k ready going numbered =
    let all : (at d).commands ≡ length (requests d.history) = omega (arith, commands-of (start d.limit) d.history) in
    record {
      going = k.closed ∙ ready;
      no_quit = quit-of (start d.limit) d.history refl going;
      number = k.counted ∙ sym all;
      numbered = subst (λ n. IsNumbered n q) (sym k.counted) numbered;
    }

-- ---- what a session keeps

same-start : (o p : Output) → p.first_written ≡ o.first_written → p.first_faults ≡ o.first_faults → fresh o ≡ fresh p
same-start o p w f = sym (ap (λ v. begun v p.first_faults) w ∙ ap (begun o.first_written) f)

at-grown : (d e : Held) (x : Event) → e.history ≡ d.history ++ x ∷ [] → e.limit ≡ d.limit → at e ≡ step (at d) x
at-grown d e x history limit =
    ap (λ l. standing l e.history) limit ∙ ap (standing d.limit) history ∙ standing-grown (start d.limit) d.history x

-- a document with the same history and limit
pub kept-same : {d e : Held} {count : ℕ} {o : Output} → IsKept d count o → e.history ≡ d.history → e.limit ≡ d.limit → IsKept e count o
kept-same {d} {e} {count} {o} k history limit = record {
  limit = limit ∙ k.limit;
  closed = ap (λ l. (standing l e.history).closed) limit ∙ ap (λ h. (standing d.limit h).closed) history ∙ k.closed
      ∙ sym (ap is_closed history);
  counted = k.counted ∙ sym (ap (λ h. length (requests h)) history);
  put = subst (λ h. IsPut (fresh o) (rendered h) o) (sym history) k.put;
}

-- the same document may be asked by what is known of the history
pub may-answer : {d e : Held} {count : ℕ} {o : Output} {h : List Event} {q : Request} → IsKept d count o → e.history ≡ d.history
    → e.limit ≡ d.limit → d.history ≡ h → is_closed h ≡ false → has_quit (requests h) ≡ false → IsNumbered (length (requests h)) q
    → MayAsk e count q
may-answer {d} {e} {count} {o} {h} {q} k history limit same ready going numbered =
    let all : e.history ≡ h = history ∙ same in
    may-ask (kept-same k history limit) (ap is_closed all ∙ ready) (ap (λ z. has_quit (requests z)) all ∙ going)
    (subst (λ z. IsNumbered (length (requests z)) q) (sym all) numbered)

-- a request is answered
pub kept-command : {d e : Held} {count : ℕ} {o p : Output} {q : Request} → IsKept d count o → is_closed d.history ≡ false
    → Takes d e q o p → e.limit ≡ d.limit → IsKept e (count + 1) p
kept-command {d} {e} {count} {o} {p} {q} k ready t limit =
    let x : Event = asked (at d) q t.cut in
    let ls : List Line = (answer (at d).document q t.cut).lines in
    let all : rendered e.history ≡ rendered d.history ++ lines_text ls =
    ap rendered t.history ∙ ap lines_text (render-grown d.history x) ∙ lines_text-append (render d.history) ls in
    record {
      limit = limit ∙ k.limit;
      closed = ap (λ (s : Standing). s.closed) (at-grown d e x t.history limit) ∙ k.closed ∙ ready
          ∙ sym (ap is_closed t.history ∙ closed-grown false d.history x);
      counted = ap (λ n. n + 1) k.counted ∙ sym (length_push (requests d.history) q)
          ∙ sym (ap length (ap requests t.history ∙ requests-grown d.history (at d).commands q t.cut ls));
      put = subst (λ bytes. IsPut (fresh p) bytes p) (sym all)
          (subst (λ s. IsPut s (rendered d.history ++ lines_text ls) p) (same-start o p t.put.first_written t.put.first_faults)
          (IsPut-both _ o p _ _ k.put t.put));
    }

-- the history is ended
pub kept-close : {d e : Held} {count : ℕ} {o : Output} → IsKept d count o → e.history ≡ d.history ++ shut ∷ [] → e.limit ≡ d.limit
    → IsKept e count o
kept-close {d} {e} {count} {o} k history limit =
    let all : rendered e.history ≡ rendered d.history =
    ap rendered history ∙ ap lines_text (render-grown d.history shut) ∙ ap lines_text (append-nil (render d.history)) in
    record {
      limit = limit ∙ k.limit;
      closed = ap (λ (s : Standing). s.closed) (at-grown d e shut history limit)
          ∙ sym (ap is_closed history ∙ closed-grown false d.history shut);
      counted = k.counted ∙ sym (ap length (ap requests history ∙ requests-ended d.history));
      put = subst (λ bytes. IsPut (fresh o) bytes o) (sym all) k.put;
    }

-- ---- what one event makes of the requests and of the end

pub command_asks : {d e : Held} {o p : Output} {q : Request} → Takes d e q o p → requests e.history ≡ requests d.history ++ q ∷ []
command_asks {d} {e} {o} {p} {q} t =
    ap requests t.history ∙ requests-grown d.history (at d).commands q t.cut (answer (at d).document q t.cut).lines

pub command_open : {d e : Held} {o p : Output} {q : Request} → Takes d e q o p → is_closed e.history ≡ false
command_open {d} {e} {o} {p} {q} t = ap is_closed t.history ∙ closed-grown false d.history (asked (at d) q t.cut)

-- one more than the requests before has a number
pub command_numbered : {d e : Held} {count : ℕ} {o p : Output} {q : Request} → IsKept d count o → Takes d e q o p
    → length e.history < 2 ^ 64 → count + 1 < 2 ^ 64
command_numbered {d} {e} {count} {o} {p} {q} k t few =
    let one_more : length (requests e.history) ≡ length (requests d.history) + 1 =
    ap length (command_asks t) ∙ length_push (requests d.history) q in
    omega (arith, few, one_more, k.counted, requests-within e.history)

pub close_asks : (h k : List Event) → k ≡ h ++ shut ∷ [] → requests k ≡ requests h
close_asks h k e = ap requests e ∙ requests-ended h

pub close_ends : (h k : List Event) → k ≡ h ++ shut ∷ [] → is_closed k ≡ true
close_ends h k e = ap is_closed e ∙ closed-grown false h shut

-- a test has one answer
pub differs : (b : Bool) (A : Type 0) → b ≡ true → b ≡ false → A
differs b A t f = let d : true ≡ false = sym t ∙ f in absurd (cc)
