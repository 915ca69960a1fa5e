-- The machine over spelled values, and over lists that are open.
use Rattle.std.proofs.Common.{◌≡◌, ◌≢◌, ◌⊎◌, inl, inr, ℕ, zero, suc, ◌+◌, ◌<◌, ◌≤◌, List, [], ◌∷◌, ◌++◌, length, false, refl, sym, ap}
use Rattle.std.proofs.Common.{◌∙◌, subst, append_assoc, append-nil, length-append, arith}
use Rattle.sexp_theory.specs.Values.{Value, atom, list, Values, nil, cons, values, nesting, nesting_of_all}
use Rattle.sexp_theory.specs.Signs.{is_plain}
use Rattle.sexp_theory.specs.Spelling.{IsGap, IsRun, Parts, Ends, Spells, SpellAll}
use Rattle.sexp_theory.specs.Places.{most_lists, IsOpen}
use Rattle.sexp_theory.specs.Machine.{State, on, step, step_between, start}
use Rattle.sexp_theory.proofs.Lists.{last}
use Rattle.sexp_theory.proofs.Walks.{through, through_step, through_append, proceed}
use Rattle.sexp_theory.proofs.Steps.{standing, running, quoting, opens_list, run_ends}
use Rattle.sexp_theory.proofs.Runs.{run_through, ends_with}
use Rattle.sexp_theory.proofs.Quotes.{bytes_through}
use Rattle.sexp_theory.proofs.Gaps.{gap_through}

-- ---- values in order

abbrev pub listed : Values → List Value
listed nil = []
listed (cons v vs) = v ∷ listed vs

pub values_listed : (vs : Values) → values (listed vs) ≡ vs
values_listed nil = refl
values_listed (cons v vs) = ap (cons v) (values_listed vs)

pub spells_some : (own : List ℕ) (v : Value) → Spells own v → 0 < length own
spells_some own (atom of) (inl h) = h.0.some
spells_some own (atom of) (inr h) = omega (arith, ap length h.1)
spells_some own (list vs) h = omega (arith, ap length h.1)

pub spell_nothing : (vs : Values) → SpellAll [] vs → vs ≡ nil
spell_nothing nil h = refl
spell_nothing (cons v vs) h = absurd (omega (
  arith,
  ap length h.3,
  length-append h.0 (h.1 ++ h.2),
  length-append h.1 h.2,
  spells_some h.1 v h.5,
))

-- ---- what is behind bytes

-- a run that the bytes end in is parted from what is behind them
abbrev pub Seam : List ℕ → List ℕ → Type 0
Seam bytes more = (front run : List ℕ) → bytes ≡ front ++ run → IsRun run → Parts run more

pub seam_delimiter : (bytes : List ℕ) (b : ℕ) (more : List ℕ) → is_plain b ≡ false → b ≢ 59 → Seam bytes (b ∷ more)
seam_delimiter bytes b more p n = λ front run e r. (p, λ before k. n)

pub no_semicolon : (run : List ℕ) (b : ℕ) (more : List ℕ) → Parts run (b ∷ more) → last 32 run ≡ 35 → b ≢ 59
no_semicolon run b more h e = let r = ends_with run 35 e (λ k. absurd (omega (arith, k))) in h.1 r.0 r.1

pub parted_step : (run : List ℕ) (us : List Value) (ls : List (List Value)) (b : ℕ) (more : List ℕ) → Parts run (b ∷ more)
    → step (running run (us ∷ ls)) b ≡ step_between ((us ++ atom run ∷ []) ∷ ls) b
parted_step run us ls b more h = run_ends run (us ∷ ls) b h.0 (no_semicolon run b more h)

-- the state stands between values with these lists open, or in a run that the bytes end in, with whose value they are these
abbrev pub Settled : List ℕ → State → List (List Value) → Type 0
Settled bytes t lists =
    (t ≡ standing lists)
    ⊎ ((front run : List ℕ) × (us : List Value) × (ls : List (List Value)) × (bytes ≡ front ++ run) × IsRun run
    × (t ≡ running run (us ∷ ls)) × (lists ≡ (us ++ atom run ∷ []) ∷ ls))

pub settled_step : (bytes : List ℕ) (t : State) (lists : List (List Value)) (b : ℕ) (more : List ℕ) → Settled bytes t lists
    → Seam bytes (b ∷ more) → step t b ≡ step_between lists b
settled_step bytes t lists b more (inl e) s = ap (λ u. step u b) e
settled_step bytes t lists b more (inr h) s =
    ap (λ u. step u b) h.6 ∙ parted_step h.1 h.2 h.3 b more (s h.0 h.1 h.4 h.5) ∙ ap (λ ls. step_between ls b) (sym h.7)

pub settled_behind : (bytes front own : List ℕ) (t : State) (lists : List (List Value)) → bytes ≡ front ++ own → Settled own t lists
    → Settled bytes t lists
settled_behind bytes front own t lists e (inl h) = inl h
settled_behind bytes front own t lists e (inr h) =
    inr (front ++ h.0, h.1, h.2, h.3, e ∙ ap (λ xs. front ++ xs) h.4 ∙ sym (append_assoc front h.0 h.1), h.5, h.6, h.7)

settled_lists : (bytes : List ℕ) (t : State) (us ws : List Value) (ls : List (List Value)) → us ≡ ws → Settled bytes t (us ∷ ls)
    → Settled bytes t (ws ∷ ls)
settled_lists bytes t us ws ls e h = subst (λ xs. Settled bytes t (xs ∷ ls)) e h

-- ---- values

-- behind a value its list has it, or it is a run
abbrev ValueEnds : Value → List ℕ → List Value → List (List Value) → Type 0
ValueEnds v own us ls = (through (standing (us ∷ ls)) own ≡ on (standing ((us ++ v ∷ []) ∷ ls))) ⊎ (IsRun own × (v ≡ atom own))

abbrev AllStand : Values → List ℕ → List Value → List (List Value) → Type 0
AllStand vs bytes us ls = (t : State) × (through (standing (us ∷ ls)) bytes ≡ on t) × Settled bytes t ((us ++ listed vs) ∷ ls)

atom_ends : (of own : List ℕ) (us : List Value) (ls : List (List Value)) → Spells own (atom of) → ValueEnds (atom of) own us ls
atom_ends of own us ls (inl h) = inr (h.0, ap atom (sym h.1))
atom_ends of own us ls (inr h) = inl (
    ap (through (standing (us ∷ ls))) h.1
    ∙ through_append (quoting [] (us ∷ ls)) (quoting of (us ∷ ls)) h.0 (34 ∷ []) (bytes_through h.0 of [] (us ∷ ls) h.2))

list_ends : (vs : Values) (own : List ℕ) (us : List Value) (ls : List (List Value)) (inner : List ℕ) → own ≡ 40 ∷ (inner ++ 41 ∷ [])
    → length (us ∷ ls) < most_lists
    → AllStand vs inner [] (us ∷ ls) → through (standing (us ∷ ls)) own ≡ on (standing ((us ++ list vs ∷ []) ∷ ls))
list_ends vs own us ls inner e room r =
    ap (through (standing (us ∷ ls))) e
    ∙ through_step (standing (us ∷ ls)) (standing ([] ∷ us ∷ ls)) 40 (inner ++ 41 ∷ []) (opens_list (us ∷ ls) room)
    ∙ through_append (standing ([] ∷ us ∷ ls)) r.0 inner (41 ∷ []) r.1
    ∙ through_step r.0 (standing ((us ++ list (values (listed vs)) ∷ []) ∷ ls)) 41 []
    (settled_step inner r.0 (listed vs ∷ us ∷ ls) 41 [] r.2 (seam_delimiter inner 41 [] refl (λ k. absurd (omega (arith, k)))))
    ∙ ap (λ ws. on (standing ((us ++ list ws ∷ []) ∷ ls))) (values_listed vs)

module _ (v : Value) (vs : Values) (bytes gap own : List ℕ) (us : List Value) (ls : List (List Value)) (g : IsGap gap) where
  run_is_last : bytes ≡ gap ++ (own ++ []) → IsRun own → v ≡ atom own → vs ≡ nil → AllStand (cons v vs) bytes us ls
  run_is_last e r is none =
      let e' : bytes ≡ gap ++ own = e ∙ ap (λ xs. gap ++ xs) (append-nil own) in (
        running own (us ∷ ls),
        ap (through (standing (us ∷ ls))) e' ∙ through_append (standing (us ∷ ls)) (standing (us ∷ ls)) gap own
            (gap_through gap (us ∷ ls) g) ∙ run_through own (us ∷ ls) r,
        inr (gap, own, us, ls, e', r, refl, ap (λ ws. (us ++ v ∷ listed ws) ∷ ls) none ∙ ap (λ w. (us ++ w ∷ []) ∷ ls) is),
      )

  value_is_next : (rest : List ℕ) → bytes ≡ gap ++ (own ++ rest)
      → through (standing (us ∷ ls)) (own ++ rest) ≡ through (standing ((us ++ v ∷ []) ∷ ls)) rest
      → AllStand vs rest (us ++ v ∷ []) ls → AllStand (cons v vs) bytes us ls
  value_is_next rest e h ih = (
    ih.0,
    ap (through (standing (us ∷ ls))) e ∙ through_append (standing (us ∷ ls)) (standing (us ∷ ls)) gap (own ++ rest)
        (gap_through gap (us ∷ ls) g) ∙ h ∙ ih.1,
    settled_behind bytes (gap ++ own) rest ih.0 ((us ++ v ∷ listed vs) ∷ ls) (e ∙ sym (append_assoc gap own rest))
        (settled_lists rest ih.0 ((us ++ v ∷ []) ++ listed vs) (us ++ v ∷ listed vs) ls (append_assoc us (v ∷ []) (listed vs)) ih.2),
  )

  all_behind : (rest : List ℕ) → bytes ≡ gap ++ (own ++ rest) → Ends own rest → SpellAll rest vs → ValueEnds v own us ls
      → AllStand vs rest (us ++ v ∷ []) ls → AllStand (cons v vs) bytes us ls
  all_behind rest e ends s (inl h) ih =
      value_is_next rest e (through_append (standing (us ∷ ls)) (standing ((us ++ v ∷ []) ∷ ls)) own rest h) ih
  all_behind [] e ends s (inr h) ih = run_is_last e h.0 h.1 (spell_nothing vs s)
  all_behind (b ∷ more) e ends s (inr h) ih =
      value_is_next (b ∷ more) e
      (through_append (standing (us ∷ ls)) (running own (us ∷ ls)) own (b ∷ more) (run_through own (us ∷ ls) h.0)
      ∙ ap (λ z. proceed z (λ u. through u more)) (parted_step own us ls b more (ends h.0)
      ∙ ap (λ w. step_between ((us ++ w ∷ []) ∷ ls) b) (sym h.1)))
      ih

mutual
  pub value_ends : (v : Value) (own : List ℕ) (us : List Value) (ls : List (List Value)) → Spells own v
      → nesting v + suc (length ls) ≤ most_lists → ValueEnds v own us ls
  value_ends (atom of) own us ls h room = atom_ends of own us ls h
  value_ends (list vs) own us ls h room = inl (list_ends vs own us ls h.0 h.1 (omega (arith, room))
      (all_stand vs h.0 [] (us ∷ ls) h.2 (omega (arith, room))))

  pub all_stand : (vs : Values) (bytes : List ℕ) (us : List Value) (ls : List (List Value)) → SpellAll bytes vs
      → nesting_of_all vs + suc (length ls) ≤ most_lists → AllStand vs bytes us ls
  all_stand nil bytes us ls h room = (
    standing (us ∷ ls),
    gap_through bytes (us ∷ ls) h,
    inl (ap (λ xs. standing (xs ∷ ls)) (sym (append-nil us))),
  )
  all_stand (cons v vs) bytes us ls h room =
      all_behind v vs bytes h.0 h.1 us ls h.4 h.2 h.3 h.6 h.7 (value_ends v h.1 us ls h.5 (omega (arith, room)))
      (all_stand vs h.2 (us ++ v ∷ []) ls h.7 (omega (arith, room)))

-- ---- open lists

pub open_through : (n : ℕ) (bytes : List ℕ) → IsOpen n bytes → (t : State) × (lists : List (List Value)) × (through start bytes ≡ on t)
    × Settled bytes t lists × (length lists ≡ n)
open_through zero bytes h = (start, [], ap (through start) h, inl refl, refl)
open_through (suc n) bytes h =
    let r = open_through n h.0 h.4 in
    let s = all_stand h.2 h.1 [] r.1 h.5 (omega (arith, h.6, r.4)) in (
      s.0,
      listed h.2 ∷ r.1,
      ap (through start) h.3 ∙ through_append start r.0 h.0 (40 ∷ h.1) r.2
          ∙ through_step r.0 (standing ([] ∷ r.1)) 40 h.1
          (settled_step h.0 r.0 r.1 40 [] r.3 (seam_delimiter h.0 40 [] refl (λ k. absurd (omega (arith, k))))
          ∙ opens_list r.1 (omega (arith, h.6, r.4)))
          ∙ s.1,
      settled_behind bytes (h.0 ++ 40 ∷ []) h.1 s.0 (listed h.2 ∷ r.1) (h.3 ∙ sym (append_assoc h.0 (40 ∷ []) h.1)) s.2,
      ap suc r.4,
    )
