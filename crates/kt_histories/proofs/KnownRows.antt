-- What is known after rows has its row, and what a row makes known stays so.
use Rattle.std.proofs.Common.{◌≡◌, ◌⊎◌, ℕ, zero, suc, ◌-◌, Bool, true, false, Some, List, [], ◌∷◌, ◌++◌, length, refl, sym, ap, ◌∙◌, subst, inl, inr, arith}
use Rattle.std.specs.Prelude.{◌&&◌, fold, not, is_some}
use Rattle.std.specs.List.{slice_get}
use Rattle.std.proofs.lemmas.Bool.{cases_eq}
use Rattle.std.proofs.lemmas.Bool.Decides.{nat_tests}
use Rattle.kt_spacetime.specs.declared.event.Event.{Event}
use Rattle.kt_spacetime.specs.declared.event.Event.TheVariants.{Sent, Received, Dropped, Began, Took, Ready, Unwilling, Decided, Closed, Failed, Refused}
use Rattle.kt_meaning.specs.Past.{Past, start, past, after, is_member, is_rollback, is_committed}
use Rattle.kt_meaning.specs.Legal.{is_in, is_join, has_deed}
use Rattle.kt_spacetime.specs.declared.deeds.Deed.TheVariants as deed
use Rattle.kt_meaning.proofs.DeedFacts.{place_of_deed}
use Rattle.kt_rules.proofs.DeedFacts.{has_at}
use Rattle.kt_meaning.proofs.Lists.{get_push}
use Rattle.kt_meaning.proofs.Items.{some_same}
use Rattle.kt_histories.specs.Finding.{HasNoRow, decides_inst, drops, fails}

-- a fact that no row makes is not so
no_row_from : (fact : Past → Bool) (test : Event → Bool) → ((s : Past) (row : Event) → fact (after s row) ≡ true → (fact s ≡ true) ⊎ (test row ≡ true))
    → (s : Past) (rows : List Event) → fact s ≡ false → HasNoRow test rows → fact (fold after s rows) ≡ false
no_row_from fact test step s [] e none = e
no_row_from fact test step s (row ∷ rows) e none = no_row_from fact test step (after s row) rows (at (fact (after s row)) refl) (λ n other there. none (suc n) other there)
  where
    at : (b : Bool) → fact (after s row) ≡ b → fact (after s row) ≡ false
    at false is = is
    at true is = elim (step s row is) [
      | inl was ↦ absurd (cc (was, e))
      | inr now ↦ absurd (none 0 row refl now)
    ]

-- a fact that a row makes is so from then on
kept_from : (fact : Past → Bool) → ((s : Past) (row : Event) → fact s ≡ true → fact (after s row) ≡ true) → (s : Past) (rows : List Event) → fact s ≡ true → fact (fold after s rows) ≡ true
kept_from fact keep s [] e = e
kept_from fact keep s (row ∷ rows) e = kept_from fact keep (after s row) rows (keep s row e)

made_from : (fact : Past → Bool) (test : Event → Bool) → ((s : Past) (row : Event) → test row ≡ true → fact (after s row) ≡ true)
    → ((s : Past) (row : Event) → fact s ≡ true → fact (after s row) ≡ true)
    → (s : Past) (rows : List Event) (n : ℕ) (row : Event) → slice_get rows n ≡ Some row → test row ≡ true → fact (fold after s rows) ≡ true
made_from fact test make keep s [] n row there e = absurd (cc)
made_from fact test make keep s (x ∷ rows) zero row there e =
    let same : x ≡ row = some_same there in
    kept_from fact keep (after s x) rows (make s x (ap test same ∙ e))
made_from fact test make keep s (x ∷ rows) (suc n) row there e = made_from fact test make keep (after s x) rows n row there e

-- a process that is down failed
down_by : (p : ℕ) (s : Past) (row : Event) → not ((after s row).up p) ≡ true → (not (s.up p) ≡ true) ⊎ (fails p row ≡ true)
down_by p s (Failed q) e = elim (cases_eq p q) [
  | inl same ↦ inr (grind (arith, nat_tests, same))
  | inr other ↦ inl (grind (arith, nat_tests, other, e))
]
down_by p s (Closed q k) e = inl (closed p q k s e)
  where
    closed : (p q k : ℕ) (s : Past) → not ((after s (Closed q k)).up p) ≡ true → not (s.up p) ≡ true
    closed p q k s e = elim (cases_eq p q) [
      | inl same ↦ grind (arith, nat_tests, same, e)
      | inr other ↦ grind (arith, nat_tests, other, e)
    ]
down_by p s (Sent q to body) e = inl e
down_by p s (Received q from msg) e = inl e
down_by p s (Dropped q from msg) e = inl e
down_by p s (Began q k kind) e = inl e
down_by p s (Took q k) e = inl e
down_by p s (Ready q k) e = inl e
down_by p s (Unwilling q k cause) e = inl e
down_by p s (Decided q k commit) e = inl e
down_by p s (Refused q verb cause) e = inl e

pub unfailed : (p : ℕ) (rows : List Event) → HasNoRow (fails p) rows → (past rows).up p ≡ true
unfailed p rows none = up ((past rows).up p) (no_row_from (λ s. not (s.up p)) (fails p) (down_by p) start rows refl none)
  where
    up : (b : Bool) → not b ≡ false → b ≡ true
    up true e = refl
    up false e = absurd (cc)

-- a process that is in an open instance joined it
in_by : (p k : ℕ) (s : Past) (row : Event) → is_in (after s row) p k ≡ true → (is_in s p k ≡ true) ⊎ (is_join p k row ≡ true)
in_by p k s (Took q j) e = elim (cases_eq p q) [
  | inl same ↦ inr (grind (arith, nat_tests, same, e))
  | inr other ↦ inl (grind (arith, nat_tests, other, e))
]
in_by p k s (Ready q j) e = elim (cases_eq p q) [
  | inl same ↦ inr (grind (arith, nat_tests, same, e))
  | inr other ↦ inl (grind (arith, nat_tests, other, e))
]
in_by p k s (Closed q j) e = elim (cases_eq p q) [
  | inl same ↦ inl (grind (arith, nat_tests, same, e))
  | inr other ↦ inl (grind (arith, nat_tests, other, e))
]
in_by p k s (Sent q to body) e = inl e
in_by p k s (Received q from msg) e = inl e
in_by p k s (Dropped q from msg) e = inl e
in_by p k s (Began q j kind) e = inl e
in_by p k s (Unwilling q j cause) e = inl e
in_by p k s (Decided q j commit) e = inl e
in_by p k s (Failed q) e = inl e
in_by p k s (Refused q verb cause) e = inl e

pub unjoined : (p k : ℕ) (rows : List Event) → HasNoRow (is_join p k) rows → is_in (past rows) p k ≡ false
unjoined p k rows none = no_row_from (λ s. is_in s p k) (is_join p k) (in_by p k) start rows refl none

-- a member joined
member_by : (p k : ℕ) (s : Past) (row : Event) → is_member (after s row) k p ≡ true → (is_member s k p ≡ true) ⊎ (is_join p k row ≡ true)
member_by p k s (Took q j) e = elim (cases_eq p q) [
  | inl same ↦ elim (cases_eq k j) [
    | inl also ↦ inr (grind (arith, nat_tests, same, also))
    | inr other ↦ inl (grind (arith, nat_tests, other, e))
  ]
  | inr other ↦ inl (grind (arith, nat_tests, other, e))
]
member_by p k s (Ready q j) e = elim (cases_eq p q) [
  | inl same ↦ elim (cases_eq k j) [
    | inl also ↦ inr (grind (arith, nat_tests, same, also))
    | inr other ↦ inl (grind (arith, nat_tests, other, e))
  ]
  | inr other ↦ inl (grind (arith, nat_tests, other, e))
]
member_by p k s (Sent q to body) e = inl e
member_by p k s (Received q from msg) e = inl e
member_by p k s (Dropped q from msg) e = inl e
member_by p k s (Began q j kind) e = inl e
member_by p k s (Unwilling q j cause) e = inl e
member_by p k s (Decided q j commit) e = inl e
member_by p k s (Closed q j) e = inl e
member_by p k s (Failed q) e = inl e
member_by p k s (Refused q verb cause) e = inl e

pub no_member : (p k : ℕ) (rows : List Event) → HasNoRow (is_join p k) rows → is_member (past rows) k p ≡ false
no_member p k rows none = no_row_from (λ s. is_member s k p) (is_join p k) (member_by p k) start rows refl none

join_makes : (p k : ℕ) (s : Past) (row : Event) → is_join p k row ≡ true → is_member (after s row) k p ≡ true
join_makes p k s (Took q j) e = grind (arith, nat_tests, e)
join_makes p k s (Ready q j) e = grind (arith, nat_tests, e)
join_makes p k s (Sent q to body) e = absurd (cc)
join_makes p k s (Received q from msg) e = absurd (cc)
join_makes p k s (Dropped q from msg) e = absurd (cc)
join_makes p k s (Began q j kind) e = absurd (cc)
join_makes p k s (Unwilling q j cause) e = absurd (cc)
join_makes p k s (Decided q j commit) e = absurd (cc)
join_makes p k s (Closed q j) e = absurd (cc)
join_makes p k s (Failed q) e = absurd (cc)
join_makes p k s (Refused q verb cause) e = absurd (cc)

member_stays : (p k : ℕ) (s : Past) (row : Event) → is_member s k p ≡ true → is_member (after s row) k p ≡ true
member_stays p k s (Took q j) e = grind (arith, nat_tests, e)
member_stays p k s (Ready q j) e = grind (arith, nat_tests, e)
member_stays p k s (Sent q to body) e = e
member_stays p k s (Received q from msg) e = e
member_stays p k s (Dropped q from msg) e = e
member_stays p k s (Began q j kind) e = e
member_stays p k s (Unwilling q j cause) e = e
member_stays p k s (Decided q j commit) e = e
member_stays p k s (Closed q j) e = e
member_stays p k s (Failed q) e = e
member_stays p k s (Refused q verb cause) e = e

pub member_by_row : (p k : ℕ) (rows : List Event) (n : ℕ) (row : Event) → slice_get rows n ≡ Some row → is_join p k row ≡ true → is_member (past rows) k p ≡ true
member_by_row p k rows n row there e = made_from (λ s. is_member s k p) (is_join p k) (join_makes p k) (member_stays p k) start rows n row there e

-- an instance that is decided has its row
decided_by : (k : ℕ) (s : Past) (row : Event) → is_some ((after s row).decision k) ≡ true → (is_some (s.decision k) ≡ true) ⊎ (decides_inst k row ≡ true)
decided_by k s (Decided q j commit) e = elim (cases_eq k j) [
  | inl same ↦ inr (grind (arith, nat_tests, same))
  | inr other ↦ inl (grind (arith, nat_tests, other, e))
]
decided_by k s (Sent q to body) e = inl e
decided_by k s (Received q from msg) e = inl e
decided_by k s (Dropped q from msg) e = inl e
decided_by k s (Began q j kind) e = inl e
decided_by k s (Took q j) e = inl e
decided_by k s (Ready q j) e = inl e
decided_by k s (Unwilling q j cause) e = inl e
decided_by k s (Closed q j) e = inl e
decided_by k s (Failed q) e = inl e
decided_by k s (Refused q verb cause) e = inl e

pub undecided : (k : ℕ) (rows : List Event) → HasNoRow (decides_inst k) rows → is_some ((past rows).decision k) ≡ false
undecided k rows none = no_row_from (λ s. is_some (s.decision k)) (decides_inst k) (decided_by k) start rows refl none

decision_makes : (k : ℕ) (s : Past) (row : Event) → decides_inst k row ≡ true → is_some ((after s row).decision k) ≡ true
decision_makes k s (Decided q j commit) e = grind (arith, nat_tests, e)
decision_makes k s (Sent q to body) e = absurd (cc)
decision_makes k s (Received q from msg) e = absurd (cc)
decision_makes k s (Dropped q from msg) e = absurd (cc)
decision_makes k s (Began q j kind) e = absurd (cc)
decision_makes k s (Took q j) e = absurd (cc)
decision_makes k s (Ready q j) e = absurd (cc)
decision_makes k s (Unwilling q j cause) e = absurd (cc)
decision_makes k s (Closed q j) e = absurd (cc)
decision_makes k s (Failed q) e = absurd (cc)
decision_makes k s (Refused q verb cause) e = absurd (cc)

decision_stays : (k : ℕ) (s : Past) (row : Event) → is_some (s.decision k) ≡ true → is_some ((after s row).decision k) ≡ true
decision_stays k s (Decided q j commit) e = grind (arith, nat_tests, e)
decision_stays k s (Sent q to body) e = e
decision_stays k s (Received q from msg) e = e
decision_stays k s (Dropped q from msg) e = e
decision_stays k s (Began q j kind) e = e
decision_stays k s (Took q j) e = e
decision_stays k s (Ready q j) e = e
decision_stays k s (Unwilling q j cause) e = e
decision_stays k s (Closed q j) e = e
decision_stays k s (Failed q) e = e
decision_stays k s (Refused q verb cause) e = e

pub decided_by_row : (k : ℕ) (rows : List Event) (n : ℕ) (row : Event) → slice_get rows n ≡ Some row → decides_inst k row ≡ true → is_some ((past rows).decision k) ≡ true
decided_by_row k rows n row there e = made_from (λ s. is_some (s.decision k)) (decides_inst k) (decision_makes k) (decision_stays k) start rows n row there e

-- a message that was dropped has its row
dropped_by : (m : ℕ) (s : Past) (row : Event) → (after s row).dropped m ≡ true → (s.dropped m ≡ true) ⊎ (drops m row ≡ true)
dropped_by m s (Dropped q from msg) e = elim (cases_eq m msg) [
  | inl same ↦ inr (grind (arith, nat_tests, same))
  | inr other ↦ inl (grind (arith, nat_tests, other, e))
]
dropped_by m s (Sent q to body) e = inl e
dropped_by m s (Received q from msg) e = inl e
dropped_by m s (Began q j kind) e = inl e
dropped_by m s (Took q j) e = inl e
dropped_by m s (Ready q j) e = inl e
dropped_by m s (Unwilling q j cause) e = inl e
dropped_by m s (Decided q j commit) e = inl e
dropped_by m s (Closed q j) e = inl e
dropped_by m s (Failed q) e = inl e
dropped_by m s (Refused q verb cause) e = inl e

pub undropped : (m : ℕ) (rows : List Event) → HasNoRow (drops m) rows → (past rows).dropped m ≡ false
undropped m rows none = no_row_from (λ s. s.dropped m) (drops m) (dropped_by m) start rows refl none

drop_makes : (m : ℕ) (s : Past) (row : Event) → drops m row ≡ true → (after s row).dropped m ≡ true
drop_makes m s (Dropped q from msg) e = grind (arith, nat_tests, e)
drop_makes m s (Sent q to body) e = absurd (cc)
drop_makes m s (Received q from msg) e = absurd (cc)
drop_makes m s (Began q j kind) e = absurd (cc)
drop_makes m s (Took q j) e = absurd (cc)
drop_makes m s (Ready q j) e = absurd (cc)
drop_makes m s (Unwilling q j cause) e = absurd (cc)
drop_makes m s (Decided q j commit) e = absurd (cc)
drop_makes m s (Closed q j) e = absurd (cc)
drop_makes m s (Failed q) e = absurd (cc)
drop_makes m s (Refused q verb cause) e = absurd (cc)

drop_stays : (m : ℕ) (s : Past) (row : Event) → s.dropped m ≡ true → (after s row).dropped m ≡ true
drop_stays m s (Dropped q from msg) e = grind (arith, nat_tests, e)
drop_stays m s (Sent q to body) e = e
drop_stays m s (Received q from msg) e = e
drop_stays m s (Began q j kind) e = e
drop_stays m s (Took q j) e = e
drop_stays m s (Ready q j) e = e
drop_stays m s (Unwilling q j cause) e = e
drop_stays m s (Decided q j commit) e = e
drop_stays m s (Closed q j) e = e
drop_stays m s (Failed q) e = e
drop_stays m s (Refused q verb cause) e = e

pub dropped_by_row : (m : ℕ) (rows : List Event) (n : ℕ) (row : Event) → slice_get rows n ≡ Some row → drops m row ≡ true → (past rows).dropped m ≡ true
dropped_by_row m rows n row there e = made_from (λ s. s.dropped m) (drops m) (drop_makes m) (drop_stays m) start rows n row there e

message_same : {a b c d : ℕ} → deed.Received a b ≡ deed.Received c d → a ≡ c
message_same e = cc

-- what a process dropped since it is down has its row
dropped_since_by : (p from m : ℕ) (s : Past) (row : Event) → has_deed (deed.Received m from) ((after s row).dropped_since p) ≡ true
    → (has_deed (deed.Received m from) (s.dropped_since p) ≡ true) ⊎ (drops m row ≡ true)
dropped_since_by p from m s (Dropped q sender msg) e = elim (cases_eq p q) [
  | inl same ↦
      let has : has_deed (deed.Received m from) (s.dropped_since q ++ deed.Received msg sender ∷ []) ≡ true = grind (arith, nat_tests, same, e) in
      pushed (place_of_deed (deed.Received m from) (s.dropped_since q ++ deed.Received msg sender ∷ []) has) same
  | inr other ↦ inl (grind (arith, nat_tests, other, e))
]
  where
    pushed : (i : ℕ) × (slice_get (s.dropped_since q ++ deed.Received msg sender ∷ []) i ≡ Some (deed.Received m from)) → p ≡ q
        → (has_deed (deed.Received m from) (s.dropped_since p) ≡ true) ⊎ (drops m (Dropped q sender msg) ≡ true)
    pushed at same = elim (get_push (s.dropped_since q) (deed.Received msg sender) at.0 (deed.Received m from) at.1) [
      | inl old ↦ inl (subst (λ (r : ℕ). has_deed (deed.Received m from) (s.dropped_since r) ≡ true) (sym same) (has_at (deed.Received m from) (s.dropped_since q) at.0 old))
      | inr new ↦
          let number : msg ≡ m = message_same new.1 in
          inr (grind (arith, nat_tests, number))
    ]
dropped_since_by p from m s (Closed q k) e = inl (closed (is_rollback s k && is_committed s k) refl)
  where
    itself : (b : Bool) → (is_rollback s k && is_committed s k) ≡ b → p ≡ q → has_deed (deed.Received m from) (s.dropped_since p) ≡ true
    itself true is same = absurd (grind (arith, nat_tests, is, same, e))
    itself false is same = grind (arith, nat_tests, is, same, e)

    closed : (b : Bool) → (is_rollback s k && is_committed s k) ≡ b → has_deed (deed.Received m from) (s.dropped_since p) ≡ true
    closed b is = elim (cases_eq p q) [
      | inl same ↦ itself b is same
      | inr other ↦ grind (arith, nat_tests, other, e)
    ]
dropped_since_by p from m s (Sent q to body) e = inl e
dropped_since_by p from m s (Received q sender n) e = inl e
dropped_since_by p from m s (Began q k kind) e = inl e
dropped_since_by p from m s (Took q k) e = inl e
dropped_since_by p from m s (Ready q k) e = inl e
dropped_since_by p from m s (Unwilling q k cause) e = inl e
dropped_since_by p from m s (Decided q k commit) e = inl e
dropped_since_by p from m s (Failed q) e = inl e
dropped_since_by p from m s (Refused q verb cause) e = inl e

pub none_dropped : (p from m : ℕ) (rows : List Event) → HasNoRow (drops m) rows → has_deed (deed.Received m from) ((past rows).dropped_since p) ≡ false
none_dropped p from m rows none = no_row_from (λ s. has_deed (deed.Received m from) (s.dropped_since p)) (drops m) (dropped_since_by p from m) start rows refl none

-- the last row is known as such
last_from : (s : Past) (row : Event) (rows : List Event) → (fold after s (row ∷ rows)).last ≡ slice_get (row ∷ rows) (length rows)
last_from s row [] = refl
last_from s row (x ∷ rows) = last_from (after s row) x rows

pub last_known : (rows : List Event) (row : Event) → slice_get rows (length rows - 1) ≡ Some row → (past rows).last ≡ Some row
last_known [] row e = absurd (cc)
last_known (x ∷ rows) row e =
    let place : length (x ∷ rows) - 1 ≡ length rows = omega (arith) in
    last_from start x rows ∙ (ap (slice_get (x ∷ rows)) (sym place) ∙ e)
