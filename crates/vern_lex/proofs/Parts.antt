-- Comments of a part of a text.
use Rattle.std.proofs.Common.{◌≡◌, ℕ, zero, suc, ◌+◌, ◌-◌, ◌<◌, ◌≤◌, ◌⊎◌, inl, inr, ◌&&◌, ◌==◌, List, [], ◌∷◌, ◌++◌, length, take, drop}
use Rattle.std.proofs.Common.{replicate, get_or, Bool, true, false, Option, Some, None, if◌then◌else◌, append_assoc, refl, sym, ap, ◌∙◌}
use Rattle.std.proofs.Common.{arith}
use Rattle.std.proofs.lemmas.Bool.{cases_lt}
use Rattle.std.proofs.lemmas.List.{length-append, take-append-drop, get_or_append_left, length-replicate, get_or-replicate}
use Rattle.std.proofs.Math.Seq.{take-append-add}
use Rattle.vern_lex.specs.Comments.{behind, comment_length, outside_from, outside}
use Rattle.vern_lex.proofs.Outsides.{outside-comment}

-- what ends the comments that are open ends them whatever follows
pub behind-append : (d : ℕ) (xs ys zs : List ℕ) → behind d xs ≡ Some ys → behind d (xs ++ zs) ≡ Some (ys ++ zs)
behind-append zero xs ys zs e = let is : xs ≡ ys = cc in ap (λ l. Some (l ++ zs)) is
behind-append (suc d) [] ys zs e = absurd (cc)
behind-append (suc d) (a ∷ []) ys zs e = absurd (cc)
behind-append (suc d) (a ∷ b ∷ rest) ys zs e =
    by (a == 40 && b == 42) (a == 42 && b == 41) (behind-append (suc (suc d)) rest ys zs) (behind-append d rest ys zs)
    (behind-append (suc d) (b ∷ rest) ys zs) e
  where
    by : (s t : Bool) → (behind (suc (suc d)) rest ≡ Some ys → behind (suc (suc d)) (rest ++ zs) ≡ Some (ys ++ zs))
        → (behind d rest ≡ Some ys → behind d (rest ++ zs) ≡ Some (ys ++ zs))
        → (behind (suc d) (b ∷ rest) ≡ Some ys → behind (suc d) (b ∷ (rest ++ zs)) ≡ Some (ys ++ zs))
        → elim s [ true ↦ behind (suc (suc d)) rest | false ↦ elim t [ true ↦ behind d rest | false ↦ behind (suc d) (b ∷ rest) ] ]
        ≡ Some ys
        → elim s [
          | true ↦ behind (suc (suc d)) (rest ++ zs)
          | false ↦ elim t
              [ true ↦ behind d (rest ++ zs) | false ↦ behind (suc d) (b ∷ (rest ++ zs)) ]
        ] ≡ Some (ys ++ zs)
    by true t f g h e = f e
    by false true f g h e = g e
    by false false f g h e = h e

-- the front of a text that ends so many open comments, and nothing more
pub record HasFront (d : ℕ) (xs after : List ℕ) : Type 0 where
  pub front : List ℕ
  pub is : xs ≡ front ++ after
  pub ends : behind d front ≡ Some []

pub front_of : (d : ℕ) (xs after : List ℕ) → behind d xs ≡ Some after → HasFront d xs after
front_of zero xs after e = record { front = []; is = cc; ends = refl }
front_of (suc d) [] after e = absurd (cc)
front_of (suc d) (a ∷ []) after e = absurd (cc)
front_of (suc d) (a ∷ b ∷ rest) after e =
    by (a == 40 && b == 42) refl (a == 42 && b == 41) refl (front_of (suc (suc d)) rest after) (front_of d rest after)
    (front_of (suc d) (b ∷ rest) after) e
  where
    longer : (a == 40 && b == 42) ≡ false → (a == 42 && b == 41) ≡ false → (front : List ℕ) → b ∷ rest ≡ front ++ after
        → behind (suc d) front ≡ Some [] → HasFront (suc d) (a ∷ b ∷ rest) after
    longer s t [] is ends = absurd (cc)
    longer s t (c ∷ front) is ends =
        let same : b ≡ c = cc in
        record {
          front = a ∷ c ∷ front;
          is = ap (λ l. a ∷ l) is;
          ends = ap (λ x. elim x [
            | true ↦ behind (suc (suc d)) front
            | false ↦ elim (a == 42 && c == 41)
                [ true ↦ behind d front | false ↦ behind (suc d) (c ∷ front) ]
          ]) (ap (λ x. a == 40 && x == 42) (sym same) ∙ s)
              ∙ ap (λ x. elim x [ true ↦ behind d front | false ↦ behind (suc d) (c ∷ front) ]) (ap (λ x. a == 42 && x == 41) (sym same)
              ∙ t) ∙ ends;
        }

    by : (s : Bool) → (a == 40 && b == 42) ≡ s → (t : Bool) → (a == 42 && b == 41) ≡ t
        → (behind (suc (suc d)) rest ≡ Some after → HasFront (suc (suc d)) rest after)
        → (behind d rest ≡ Some after → HasFront d rest after)
        → (behind (suc d) (b ∷ rest) ≡ Some after → HasFront (suc d) (b ∷ rest) after)
        → elim s [ true ↦ behind (suc (suc d)) rest | false ↦ elim t [ true ↦ behind d rest | false ↦ behind (suc d) (b ∷ rest) ] ]
        ≡ Some after → HasFront (suc d) (a ∷ b ∷ rest) after
    by true s t u f g h e =
        let i = f e in
        record {
          front = a ∷ b ∷ i.front;
          is = ap (λ l. a ∷ b ∷ l) i.is;
          ends = ap (λ x. elim x [
            | true ↦ behind (suc (suc d)) i.front
            | false ↦ elim (a == 42 && b == 41)
                [ true ↦ behind d i.front | false ↦ behind (suc d) (b ∷ i.front) ]
          ]) s ∙ i.ends;
        }
    by false s true u f g h e =
        let i = g e in
        record {
          front = a ∷ b ∷ i.front;
          is = ap (λ l. a ∷ b ∷ l) i.is;
          ends = ap (λ x. elim x [
            | true ↦ behind (suc (suc d)) i.front
            | false ↦ elim (a == 42 && b == 41)
                [ true ↦ behind d i.front | false ↦ behind (suc d) (b ∷ i.front) ]
          ]) s
              ∙ ap (λ x. elim x [ true ↦ behind d i.front | false ↦ behind (suc d) (b ∷ i.front) ]) u ∙ i.ends;
        }
    by false s false u f g h e = let i = h e in longer s u i.front i.is i.ends

comment-value : (a b : ℕ) (rest after : List ℕ) → (a == 40 && b == 42) ≡ true → behind 1 rest ≡ Some after
    → comment_length (a ∷ b ∷ rest) ≡ length (a ∷ b ∷ rest) - length after
comment-value a b rest after s e =
    ap (λ t. if t then elim (behind 1 rest) [ None ↦ 0 | Some after ↦ length (a ∷ b ∷ rest) - length after ] else 0) s
    ∙ ap (λ o. elim o [ None ↦ 0 | Some after ↦ length (a ∷ b ∷ rest) - length after ]) e

-- a text begins with a comment that is the same whatever follows
pub record HasComment (xs : List ℕ) : Type 0 where
  pub front : List ℕ
  pub after : List ℕ
  pub is : xs ≡ front ++ after
  pub long : length front ≡ comment_length xs
  pub always : (zs : List ℕ) → comment_length (front ++ zs) ≡ length front

pub comment_of : (xs : List ℕ) → 0 < comment_length xs → HasComment xs
comment_of [] h = absurd (omega (arith, h))
comment_of (a ∷ []) h = absurd (omega (arith, h))
comment_of (a ∷ b ∷ rest) h = by (a == 40 && b == 42) refl (behind 1 rest) refl h
  where
    by : (s : Bool) → (a == 40 && b == 42) ≡ s → (o : Option (List ℕ)) → behind 1 rest ≡ o
        → 0 < (if s then elim o [ None ↦ 0 | Some after ↦ length (a ∷ b ∷ rest) - length after ] else 0) → HasComment (a ∷ b ∷ rest)
    by false s o e h = absurd (omega (arith, h))
    by true s None e h = absurd (omega (arith, h))
    by true s (Some after) e h =
        let i = front_of 1 rest after e in
        let count : length rest ≡ length i.front + length after = ap length i.is ∙ length-append i.front after in
        record {
          front = a ∷ b ∷ i.front;
          after = after;
          is = ap (λ l. a ∷ b ∷ l) i.is;
          long = omega (arith, comment-value a b rest after s e, count);
          always = λ zs. let value = comment-value a b (i.front ++ zs) zs s (behind-append 1 i.front [] zs i.ends) in
              omega (arith, value, length-append i.front zs);
        }

take_front : (n : ℕ) (front after : List ℕ) → length front ≤ n → take n (front ++ after) ≡ front ++ take (n - length front) after
take_front n front after h =
    let whole : n ≡ length front + (n - length front) = omega (arith, h) in
    ap (λ k. take k (front ++ after)) whole ∙ take-append-add front after (n - length front)

-- a text that is cut off behind its first comment has the same first comment, and cutting off makes none
pub comment-take : (n : ℕ) (xs : List ℕ) → comment_length xs ≤ n → comment_length (take n xs) ≡ comment_length xs
comment-take n xs h = by (comment_length xs) refl (comment_length (take n xs)) refl
  where
    by : (c : ℕ) → comment_length xs ≡ c → (k : ℕ) → comment_length (take n xs) ≡ k → comment_length (take n xs) ≡ comment_length xs
    by zero c zero k = k ∙ sym c
    by zero c (suc m) k =
        let i = comment_of (take n xs) (omega (arith, k)) in
        let is : xs ≡ i.front ++ (i.after ++ drop n xs) = sym (take-append-drop n xs) ∙ ap (λ l. l ++ drop n xs) i.is
        ∙ append_assoc i.front i.after (drop n xs) in
        let same : comment_length xs ≡ length i.front = ap comment_length is ∙ i.always (i.after ++ drop n xs) in
        absurd (omega (arith, same, i.long, k, c))
    by (suc m) c k e =
        let i = comment_of xs (omega (arith, c)) in
        ap (λ l. comment_length (take n l)) i.is ∙ ap comment_length (take_front n i.front i.after (omega (arith, i.long, h)))
        ∙ i.always (take (n - length i.front) i.after) ∙ i.long

-- a comment that goes beyond a place covers the byte before it
fits : (n : ℕ) (xs : List ℕ) → (get_or (outside xs) n 0 ≡ 256 → ⊥) → comment_length xs ≤ suc n
fits n xs never = by (cases_lt (suc n) (comment_length xs))
  where
    by : (suc n < comment_length xs) ⊎ (comment_length xs ≤ suc n) → comment_length xs ≤ suc n
    by (inr h) = h
    by (inl h) =
        let below : n < comment_length xs = omega (arith, h) in
        let covered : get_or (outside xs) n 0 ≡ 256 =
        ap (λ l. get_or l n 0) (outside-comment xs (omega (arith, h)))
        ∙ get_or_append_left (replicate (comment_length xs) 256) (outside (drop (comment_length xs) xs)) 0 n
        (omega (arith, below, length-replicate {A = ℕ} (comment_length xs) 256))
        ∙ get_or-replicate (comment_length xs) n 256 0 below in
        absurd (never covered)

-- a text that is cut off where no comment is open has the same bytes outside of comments
pub outside_from-take : (k n : ℕ) (xs : List ℕ) → n ≤ length xs → ((i : ℕ) → suc i ≡ n → get_or (outside_from k xs) i 0 ≡ 256 → ⊥)
    → outside_from k (take n xs) ≡ take n (outside_from k xs)
outside_from-take k zero xs h never = refl
outside_from-take k (suc n) [] h never = absurd (omega (arith, h))
outside_from-take zero (suc n) (b ∷ rest) h never =
    let same : comment_length (b ∷ take n rest) ≡ comment_length (b ∷ rest) =
    comment-take (suc n) (b ∷ rest) (fits n (b ∷ rest) (never n refl)) in
    let more = outside_from-take (comment_length (b ∷ rest) - 1) n rest (omega (arith, h)) (λ i e. never (suc i) (ap suc e)) in
    ap (λ c. (if c == 0 then b else 256) ∷ outside_from (c - 1) (take n rest)) same
    ∙ ap (λ l. (if comment_length (b ∷ rest) == 0 then b else 256) ∷ l) more
outside_from-take (suc k) (suc n) (b ∷ rest) h never =
    ap (λ l. 256 ∷ l) (outside_from-take k n rest (omega (arith, h)) (λ i e. never (suc i) (ap suc e)))
