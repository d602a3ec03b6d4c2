-- The messages in transit from one process to another, row by row.
use Rattle.std.proofs.Common.{◌≡◌, ◌∙◌, ◌+◌, ◌<◌, ◌≤◌, ℕ, zero, suc, Bool, true, false, List, [], ◌∷◌, ◌++◌, length, take, refl, sym, ap, arith}
use Rattle.std.specs.Prelude.{cond, filter, if◌then◌else◌}
use Rattle.std.specs.List.{range_with_len}
use Rattle.std.proofs.lemmas.List.{length-append, take-append-le}
use Rattle.std.proofs.lemmas.List.Elements.{filter-append}
use Rattle.kt_spacetime.specs.declared.event.Event.{Event}
use Rattle.kt_meaning.specs.Past.{past}
use Rattle.kt_meaning.specs.Legal.{is_undelivered}
use Rattle.kt_histories.specs.declared.waiting.Waiting.{Waiting}
use Rattle.kt_histories.specs.Breaches.{ShowsWaiting}
use Rattle.kt_histories.proofs.FoundRows.{range_more}

-- those of the messages of the first so many rows
abbrev pub transit_to : List Event → ℕ → ℕ → ℕ → List ℕ
transit_to rows from to n = filter (is_undelivered (past rows) to from) (range_with_len 1 n)

one_passed : (test : ℕ → Bool) (x : ℕ) → test x ≡ true → filter test (x ∷ []) ≡ x ∷ []
one_passed test x e = ap (λ (b : Bool). cond b (x ∷ []) []) e

one_failed : (test : ℕ → Bool) (x : ℕ) → test x ≡ false → filter test (x ∷ []) ≡ []
one_failed test x e = ap (λ (b : Bool). cond b (x ∷ []) []) e

more : (rows : List Event) (from to n : ℕ) → transit_to rows from to (n + 1) ≡ transit_to rows from to n ++ filter (is_undelivered (past rows) to from) ((n + 1) ∷ [])
more rows from to n =
    let on : n + 1 ≡ suc n = omega arith in
    let test : ℕ → Bool = is_undelivered (past rows) to from in
    ap (λ (m : ℕ). filter test (range_with_len 1 m)) on ∙ (ap (filter test) (range_more 1 n (n + 1) (omega arith)) ∙ filter-append test (range_with_len 1 n) ((n + 1) ∷ []))

-- one more row, of which the message is in transit
pub transit_more : (rows : List Event) (from to n : ℕ) → is_undelivered (past rows) to from (n + 1) ≡ true → transit_to rows from to (n + 1) ≡ transit_to rows from to n ++ (n + 1) ∷ []
transit_more rows from to n e = more rows from to n ∙ ap (λ (l : List ℕ). transit_to rows from to n ++ l) (one_passed (is_undelivered (past rows) to from) (n + 1) e)

append_nil : (xs : List ℕ) → xs ++ [] ≡ xs
append_nil [] = refl
append_nil (x ∷ xs) = ap (λ (l : List ℕ). x ∷ l) (append_nil xs)

-- or is not
pub transit_same : (rows : List Event) (from to n : ℕ) → is_undelivered (past rows) to from (n + 1) ≡ false → transit_to rows from to (n + 1) ≡ transit_to rows from to n
transit_same rows from to n e =
    more rows from to n ∙ (ap (λ (l : List ℕ). transit_to rows from to n ++ l) (one_failed (is_undelivered (past rows) to from) (n + 1) e) ∙ append_nil (transit_to rows from to n))

-- so one more row
pub transit_next : (rows : List Event) (from to n msg : ℕ) (is_waiting : Bool) → msg ≡ n + 1 → is_waiting ≡ is_undelivered (past rows) to from msg
    → transit_to rows from to (n + 1) ≡ (if is_waiting then transit_to rows from to n ++ msg ∷ [] else transit_to rows from to n)
transit_next rows from to n msg true at is =
    transit_more rows from to n (sym (is ∙ ap (is_undelivered (past rows) to from) at)) ∙ ap (λ (m : ℕ). transit_to rows from to n ++ m ∷ []) (sym at)
transit_next rows from to n msg false at is = transit_same rows from to n (sym (is ∙ ap (is_undelivered (past rows) to from) at))

-- what is noted after so many rows; who sends and receives stays, and what was received last
pub record IsWaitingTo (rows : List Event) (from to : ℕ) (initial : Waiting) (n : ℕ) (w : Waiting) : Type 0 where
  pub notes : ShowsWaiting w (transit_to rows from to n)
  pub few : w.count ≤ n
  pub of_sender : w.from ≡ initial.from
  pub to_process : w.to ≡ initial.to
  pub received : w.received ≡ initial.received

take_all : (n : ℕ) (xs : List ℕ) → length xs ≤ n → take n xs ≡ xs
take_all zero [] e = refl
take_all zero (x ∷ xs) e = absurd (omega (arith, e))
take_all (suc n) [] e = refl
take_all (suc n) (x ∷ xs) e = ap (λ (l : List ℕ). x ∷ l) (take_all n xs (omega (arith, e)))

-- one more of few is among the least
pub note_more : (old new : Waiting) (msg : ℕ) (list : List ℕ) → new.count ≡ old.count + 1 → new.least.items ≡ old.least.items ++ msg ∷ [] → old.count < 8 → ShowsWaiting old list → ShowsWaiting new (list ++ msg ∷ [])
note_more old new msg list count least low h = record {
  count = omega (arith, count, h.count, length-append list (msg ∷ []));
  least = least ∙ (ap (λ (l : List ℕ). l ++ msg ∷ []) (h.least ∙ take_all 8 list (omega (arith, low, h.count)))
      ∙ sym (take_all 8 (list ++ msg ∷ []) (omega (arith, low, h.count, length-append list (msg ∷ [])))));
}

-- one more of many is not
pub note_same : (old new : Waiting) (msg : ℕ) (list : List ℕ) → new.count ≡ old.count + 1 → new.least.items ≡ old.least.items → 8 ≤ old.count → ShowsWaiting old list → ShowsWaiting new (list ++ msg ∷ [])
note_same old new msg list count least high h = record {
  count = omega (arith, count, h.count, length-append list (msg ∷ []));
  least = least ∙ (h.least ∙ sym (take-append-le 8 list (msg ∷ []) (omega (arith, high, h.count))));
}

-- the same where it is told whether it is in transit
pub noted_more : (b : Bool) (old new : Waiting) (msg : ℕ) (list : List ℕ) → b ≡ true → new.count ≡ old.count + 1 → new.least.items ≡ old.least.items ++ msg ∷ [] → old.count < 8 → ShowsWaiting old list
    → ShowsWaiting new (if b then list ++ msg ∷ [] else list)
noted_more true old new msg list is count least low h = note_more old new msg list count least low h
noted_more false old new msg list is count least low h = absurd (cc)

pub noted_same : (b : Bool) (old new : Waiting) (msg : ℕ) (list : List ℕ) → b ≡ true → new.count ≡ old.count + 1 → new.least.items ≡ old.least.items → 8 ≤ old.count → ShowsWaiting old list
    → ShowsWaiting new (if b then list ++ msg ∷ [] else list)
noted_same true old new msg list is count least high h = note_same old new msg list count least high h
noted_same false old new msg list is count least high h = absurd (cc)

pub not_noted : (b : Bool) (w : Waiting) (msg : ℕ) (list : List ℕ) → b ≡ false → ShowsWaiting w list → ShowsWaiting w (if b then list ++ msg ∷ [] else list)
not_noted true w msg list is h = absurd (cc)
not_noted false w msg list is h = h
