-- What is against the receive of a message: by its trace, and by what was received and dropped before.
use Rattle.std.proofs.Common.{◌≡◌, ◌≢◌, ℕ, zero, suc, ◌+◌, ◌-◌, ◌<◌, ◌≤◌, nat_lt, Bool, true, false, Option, Some, None, List, [], ◌∷◌, ◌++◌, length, refl, sym, ap, ◌∙◌, subst, inl, inr, arith}
use Rattle.std.specs.Prelude.{◌&&◌, is_some, if◌then◌else◌, IfSome, IfNone}
use Rattle.std.specs.List.{list_all}
use Rattle.std.proofs.lemmas.Bool.{cases_eq}
use Rattle.std.proofs.lemmas.Bool.Decides.{nat_tests}
use Rattle.std.proofs.lemmas.Option.{slice_get_within}
use Rattle.kt_spacetime.specs.declared.event.Event.{Event}
use Rattle.kt_spacetime.specs.declared.event.Event.TheVariants.{Sent, Received, Dropped, Began, Took, Ready, Unwilling, Decided, Closed, Failed, Refused}
use Rattle.kt_spacetime.specs.declared.deeds.Deed.{Deed}
use Rattle.kt_spacetime.specs.declared.deeds.Deed.TheVariants as deed
use Rattle.kt_rules.specs.declared.traces.Trace.{Trace}
use Rattle.kt_meaning.specs.Past.{Past, past, after, is_rollback, is_committed}
use Rattle.kt_meaning.specs.Legal.{IsLegal, broken_rule, has_deed, is_later}
use Rattle.kt_rules.specs.Lists.{last_of, received_in, NumbersRise}
use Rattle.kt_meaning.specs.Messages.{IsMessage}
use Rattle.kt_rules.specs.Tests.{is_after}
use Rattle.kt_rules.specs.Traces.{trace_of}
use Rattle.kt_rules.proofs.SortedFacts.{received_at, received_else}
use Rattle.kt_meaning.proofs.DeedFacts.{place_of_deed}
use Rattle.kt_rules.proofs.DeedFacts.{has_at, later_than, last_push, received_source}
use Rattle.kt_rules.proofs.LatestFacts.{all_later, later_is_after}
use Rattle.kt_meaning.proofs.LegalLogs.{kept}
use Rattle.kt_meaning.proofs.Places.{one_message}
use Rattle.kt_meaning.proofs.RowRules.{both, not_true}
use Rattle.kt_rules.proofs.Traced.{trace_parts}
use Rattle.kt_histories.specs.declared.breach.Breach.TheVariants as breach
use Rattle.kt_histories.specs.Demands.{has_sent, has_received}
use Rattle.kt_histories.specs.Breaches.{IsJudged, IsLatestFrom, IsLastDropped}
use Rattle.kt_histories.proofs.TracedMessages.{is_false, traced_message, untraced, unplaced, placed_deed, sent_message, received_message}

module _ (rows : List Event) (l : IsLegal rows) where
  -- a message that was not sent
  pub unsent_told : (p from m : ℕ) → trace_of rows m ≡ None → IsJudged rows (λ s. has_sent s from p m) (Some (breach.NotSent m))
  unsent_told p from m none = record {
    so = untraced rows m none;
    against = λ log legal so. is_false (has_sent (past log) from p m) (λ has. so from p (sent_message log legal from p m has));
  }

  -- one that was sent by another process, or to another one
  pub elsewhere_told : (p from m : ℕ) (t : Trace) → trace_of rows m ≡ Some t → (t.from ≡ from → t.to ≡ p → ⊥) → IsJudged rows (λ s. has_sent s from p m) (Some (breach.SentBetween m t.from t.to))
  elsewhere_told p from m t e other = record {
    so = traced_message rows m t e;
    against = λ log legal so. is_false (has_sent (past log) from p m) (λ has.
        let one = one_message log m t.from from t.to p so (sent_message log legal from p m has) in
        other one.0 one.1);
  }

  -- one whose send was undone
  pub undone_told : (p from m : ℕ) (t : Trace) → trace_of rows m ≡ Some t → t.from ≡ from → t.to ≡ p → t.sent ≡ None → IsJudged rows (λ s. has_sent s from p m) (Some (breach.Undone m from p))
  undone_told p from m t e at to none =
      let gone = unplaced rows l t.from (deed.Sent m t.to) (sym (trace_parts rows m t e).0 ∙ none) in
      let wrote = traced_message rows m t e in
      record {
        so = (
          subst (λ (f : ℕ). IsMessage rows m f p) at (subst (λ (q : ℕ). IsMessage rows m t.from q) to wrote),
          subst (λ (f : ℕ). has_sent (past rows) f p m ≡ false) at (subst (λ (q : ℕ). has_sent (past rows) t.from q m ≡ false) to gone),
        );
        against = λ log legal so. so.1;
      }

  -- one that was sent
  pub sent_told : (p from m n : ℕ) (t : Trace) → trace_of rows m ≡ Some t → t.from ≡ from → t.to ≡ p → t.sent ≡ Some n → has_sent (past rows) from p m ≡ true
  sent_told p from m n t e at to there =
      let has = placed_deed rows l t.from n (deed.Sent m t.to) (sym (trace_parts rows m t e).0 ∙ there) in
      subst (λ (f : ℕ). has_sent (past rows) f p m ≡ true) at (subst (λ (q : ℕ). has_sent (past rows) t.from q m ≡ true) to has)

  -- whether one was received
  traced_receive : (m : ℕ) (t : Trace) → trace_of rows m ≡ Some t → is_some t.received ≡ has_received (past rows) t.to t.from m
  traced_receive m t e = at t.received refl
    where
      at : (o : Option ℕ) → t.received ≡ o → is_some t.received ≡ has_received (past rows) t.to t.from m
      at None is = ap is_some is ∙ sym (unplaced rows l t.to (deed.Received m t.from) (sym (trace_parts rows m t e).1 ∙ is))
      at (Some n) is = ap is_some is ∙ sym (placed_deed rows l t.to n (deed.Received m t.from) (sym (trace_parts rows m t e).1 ∙ is))

  pub received_as_traced : (p from m : ℕ) (t : Trace) → trace_of rows m ≡ Some t → t.from ≡ from → t.to ≡ p → is_some t.received ≡ has_received (past rows) p from m
  received_as_traced p from m t e at to =
      traced_receive m t e ∙ (ap (λ (q : ℕ). has_received (past rows) q t.from m) to ∙ ap (λ (f : ℕ). has_received (past rows) p f m) at)

  pub received_elsewhere : (p from m : ℕ) (t : Trace) → trace_of rows m ≡ Some t → (t.from ≡ from → t.to ≡ p → ⊥) → has_received (past rows) p from m ≡ false
  received_elsewhere p from m t e other = is_false (has_received (past rows) p from m) (λ has.
      let one = one_message rows m t.from from t.to p (traced_message rows m t e) (received_message rows l from p m has) in
      other one.0 one.1)

  pub unsent_unreceived : (p from m : ℕ) → trace_of rows m ≡ None → has_received (past rows) p from m ≡ false
  unsent_unreceived p from m none = is_false (has_received (past rows) p from m) (λ has. untraced rows m none from p (received_message rows l from p m has))

  -- the latest message up to a number that was received
  abbrev pub IsLatestUpTo : ℕ → ℕ → ℕ → Option ℕ → Type 0
  IsLatestUpTo p from count None = (m : ℕ) → m ≤ count → has_received (past rows) p from m ≡ true → ⊥
  IsLatestUpTo p from count (Some n) = (has_received (past rows) p from n ≡ true) × ((m : ℕ) → m ≤ count → has_received (past rows) p from m ≡ true → m ≤ n)

  received_in_rows : (p from m : ℕ) → has_received (past rows) p from m ≡ true → (0 < m) × (m ≤ length rows)
  received_in_rows p from m has = within m (received_message rows l from p m has)
    where
      within : (m : ℕ) → IsMessage rows m from p → (0 < m) × (m ≤ length rows)
      within zero h = absurd (cc (h.1))
      within (suc k) h =
          let low = slice_get_within rows k (Sent from p h.0) h.1 in
          (omega arith, omega (arith, low))

  pub latest_first : (p from : ℕ) → IsLatestUpTo p from 0 None
  latest_first p from = λ m low has. absurd (omega (arith, low, (received_in_rows p from m has).0))

  pub latest_next : (p from count : ℕ) (latest : Option ℕ) → IsLatestUpTo p from count latest
      → IsLatestUpTo p from (count + 1) (if has_received (past rows) p from (count + 1) then Some (count + 1) else latest)
  latest_next p from count latest h = at (has_received (past rows) p from (count + 1)) refl latest h
    where
      at : (b : Bool) → has_received (past rows) p from (count + 1) ≡ b → (latest : Option ℕ) → IsLatestUpTo p from count latest → IsLatestUpTo p from (count + 1) (if b then Some (count + 1) else latest)
      at true is latest h = (is, λ m low has. low)
      at false is None h = λ m low has. elim (cases_eq m (count + 1)) [
        | inl same ↦ cc (sym is ∙ (ap (has_received (past rows) p from) (sym same) ∙ has))
        | inr other ↦ h m (omega (arith, low, other)) has
      ]
      at false is (Some n) h = (
        h.0,
        λ m low has. elim (cases_eq m (count + 1)) [
          | inl same ↦ absurd (cc (sym is ∙ (ap (has_received (past rows) p from) (sym same) ∙ has)))
          | inr other ↦ h.1 m (omega (arith, low, other)) has
        ],
      )

  pub latest_last : (p from n count : ℕ) → length rows ≤ count → IsLatestUpTo p from count (Some n) → IsLatestFrom from ((past rows).live p) n
  latest_last p from n count all h = record { there = h.0; greatest = λ m has. h.1 m (omega (arith, all, (received_in_rows p from m has).1)) has }

  pub latest_none : (p from count : ℕ) → length rows ≤ count → IsLatestUpTo p from count None → (m : ℕ) → has_received (past rows) p from m ≡ true → ⊥
  latest_none p from count all h m has = h m (omega (arith, all, (received_in_rows p from m has).1)) has

  pub latest_found : (p from count : ℕ) (latest : Option ℕ) → length rows ≤ count → IsLatestUpTo p from count latest → IfSome latest (IsLatestFrom from ((past rows).live p))
  latest_found p from count None all h = tt
  latest_found p from count (Some n) all h = latest_last p from n count all h

  pub none_found : (p from count : ℕ) (latest : Option ℕ) → length rows ≤ count → IsLatestUpTo p from count latest → IfNone latest ((m : ℕ) → has_received (past rows) p from m ≡ true → ⊥)
  none_found p from count None all h = latest_none p from count all h
  none_found p from count (Some n) all h = tt

-- what is later than the latest is later than all
pub later_than_latest : (from m n : ℕ) (deeds : List Deed) → IsLatestFrom from deeds n → n < m → list_all (is_later from m) deeds ≡ true
later_than_latest from m n deeds h low = all_later from m deeds (λ i x e. omega (arith, low, h.greatest x (has_at (deed.Received x from) deeds i e)))

pub later_than_none : (from m : ℕ) (deeds : List Deed) → ((x : ℕ) → has_deed (deed.Received x from) deeds ≡ true → ⊥) → list_all (is_later from m) deeds ≡ true
later_than_none from m deeds none = all_later from m deeds (λ i x e. absurd (none x (has_at (deed.Received x from) deeds i e)))

-- what is not later than the latest is not later than all
pub not_later : (from m n : ℕ) (deeds : List Deed) → IsLatestFrom from deeds n → m ≤ n → list_all (is_later from m) deeds ≡ false
not_later from m n deeds h high = is_false (list_all (is_later from m) deeds) (λ all.
    let there = place_of_deed (deed.Received n from) deeds h.there in
    absurd (omega (arith, high, later_than from m deeds all there.0 n there.1)))

pub after_some : (m n : ℕ) → is_after m (Some n) ≡ true → n < m
after_some m n e = grind (arith, nat_tests, e)

pub not_after_some : (m n : ℕ) → is_after m (Some n) ≡ false → m ≤ n
not_after_some m n e = grind (arith, nat_tests, e)

-- the last message from a sender, where they rise, is the latest
pub latest_by_last : (from n : ℕ) (deeds : List Deed) → NumbersRise (received_in from deeds) → last_of (received_in from deeds) ≡ Some n → IsLatestFrom from deeds n
latest_by_last from n deeds rises last =
    let at = received_source from deeds (length (received_in from deeds) - 1) n last in
    record {
      there = has_at (deed.Received n from) deeds at.0 at.1;
      greatest = λ m has.
          let place = place_of_deed (deed.Received m from) deeds has in
          let all : list_all (is_later from (n + 1)) deeds ≡ true = later_is_after from (n + 1) deeds rises ∙ (ap (is_after (n + 1)) last ∙ next n) in
          omega (arith, later_than from (n + 1) deeds all place.0 m place.1);
    }
  where
    next : (n : ℕ) → nat_lt n (n + 1) ≡ true
    next n = grind (arith, nat_tests)

-- the last message that a process dropped since it failed, after one more row
pub failed_itself : (s : Past) (p from : ℕ) (last : Option ℕ) → broken_rule s (Failed p) ≡ None → IsLastDropped s p from last → IsLastDropped (after s (Failed p)) p from None
failed_itself s p from last unbroken h =
    let none : s.dropped_since p ≡ [] = h.up (kept s (Failed p) unbroken).causes in
    record {
      up = λ e. none;
      down = λ e. sym (ap (λ (deeds : List Deed). last_of (received_in from deeds)) none);
    }

pub failed_other : (s : Past) (p q from : ℕ) (last : Option ℕ) → q ≢ p → IsLastDropped s p from last → IsLastDropped (after s (Failed q)) p from last
failed_other s p q from last other h =
    let same : (after s (Failed q)).up p ≡ s.up p = grind (arith, nat_tests, other) in
    record { up = λ e. h.up (sym same ∙ e); down = λ e. h.down (sym same ∙ e) }

drop_down : (s : Past) (p sender m : ℕ) → broken_rule s (Dropped p sender m) ≡ None → s.up p ≡ false
drop_down s p sender m unbroken = not_true (s.up p) (both _ _ (kept s (Dropped p sender m) unbroken).receiving).1

pub dropped_itself : (s : Past) (p from m : ℕ) (last : Option ℕ) → broken_rule s (Dropped p from m) ≡ None → IsLastDropped s p from last → IsLastDropped (after s (Dropped p from m)) p from (Some m)
dropped_itself s p from m last unbroken h =
    let more : (after s (Dropped p from m)).dropped_since p ≡ s.dropped_since p ++ deed.Received m from ∷ [] = grind (arith, nat_tests) in
    record {
      up = λ e. absurd (cc (e, drop_down s p from m unbroken));
      down = λ e. sym (ap (λ (deeds : List Deed). last_of (received_in from deeds)) more
          ∙ (ap last_of (received_at (s.dropped_since p) m from) ∙ last_push (received_in from (s.dropped_since p)) m));
    }

pub dropped_from_other : (s : Past) (p from sender m : ℕ) (last : Option ℕ) → from ≢ sender → broken_rule s (Dropped p sender m) ≡ None → IsLastDropped s p from last → IsLastDropped (after s (Dropped p sender m)) p from last
dropped_from_other s p from sender m last other unbroken h =
    let more : (after s (Dropped p sender m)).dropped_since p ≡ s.dropped_since p ++ deed.Received m sender ∷ [] = grind (arith, nat_tests) in
    let down = drop_down s p sender m unbroken in
    record {
      up = λ e. absurd (cc (e, down));
      down = λ e. h.down down ∙ sym (ap (λ (deeds : List Deed). last_of (received_in from deeds)) more ∙ ap last_of (received_else (s.dropped_since p) m sender from other));
    }

pub dropped_by_other : (s : Past) (p q from sender m : ℕ) (last : Option ℕ) → q ≢ p → IsLastDropped s p from last → IsLastDropped (after s (Dropped q sender m)) p from last
dropped_by_other s p q from sender m last other h =
    let same : (after s (Dropped q sender m)).dropped_since p ≡ s.dropped_since p = grind (arith, nat_tests, other) in
    record { up = λ e. same ∙ h.up e; down = λ e. h.down e ∙ sym (ap (λ (deeds : List Deed). last_of (received_in from deeds)) same) }

closed_itself : (s : Past) (p k from : ℕ) (last : Option ℕ) (b : Bool) → (is_rollback s k && is_committed s k) ≡ b → IsLastDropped s p from last → IsLastDropped (after s (Closed p k)) p from last
closed_itself s p k from last true is h =
    let up : (after s (Closed p k)).up p ≡ true = grind (arith, nat_tests, is) in
    let dropped : (after s (Closed p k)).dropped_since p ≡ [] = grind (arith, nat_tests, is) in
    record { up = λ e. dropped; down = λ e. absurd (cc (up, e)) }
closed_itself s p k from last false is h =
    let up : (after s (Closed p k)).up p ≡ s.up p = grind (arith, nat_tests, is) in
    let dropped : (after s (Closed p k)).dropped_since p ≡ s.dropped_since p = grind (arith, nat_tests, is) in
    record { up = λ e. dropped ∙ h.up (sym up ∙ e); down = λ e. h.down (sym up ∙ e) ∙ sym (ap (λ (deeds : List Deed). last_of (received_in from deeds)) dropped) }

closed_by : (s : Past) (p q k from : ℕ) (last : Option ℕ) → IsLastDropped s p from last → IsLastDropped (after s (Closed q k)) p from last
closed_by s p q k from last h = elim (cases_eq p q) [
  | inl same ↦ subst (λ (r : ℕ). IsLastDropped (after s (Closed r k)) p from last) same (closed_itself s p k from last (is_rollback s k && is_committed s k) refl h)
  | inr other ↦
      let up : (after s (Closed q k)).up p ≡ s.up p = grind (arith, nat_tests, other) in
      let dropped : (after s (Closed q k)).dropped_since p ≡ s.dropped_since p = grind (arith, nat_tests, other) in
      record { up = λ e. dropped ∙ h.up (sym up ∙ e); down = λ e. h.down (sym up ∙ e) ∙ sym (ap (λ (deeds : List Deed). last_of (received_in from deeds)) dropped) }
]

pub no_drop : (s : Past) (row : Event) (p from : ℕ) (last : Option ℕ) → ((q : ℕ) → row ≡ Failed q → ⊥) → ((q sender m : ℕ) → row ≡ Dropped q sender m → ⊥) → IsLastDropped s p from last → IsLastDropped (after s row) p from last
no_drop s (Closed q k) p from last failed dropped h = closed_by s p q k from last h
no_drop s (Failed q) p from last failed dropped h = absurd (failed q refl)
no_drop s (Dropped q sender m) p from last failed dropped h = absurd (dropped q sender m refl)
no_drop s (Sent q to body) p from last failed dropped h = record { up = h.up; down = h.down }
no_drop s (Received q sender m) p from last failed dropped h = record { up = h.up; down = h.down }
no_drop s (Began q k kind) p from last failed dropped h = record { up = h.up; down = h.down }
no_drop s (Took q k) p from last failed dropped h = record { up = h.up; down = h.down }
no_drop s (Ready q k) p from last failed dropped h = record { up = h.up; down = h.down }
no_drop s (Unwilling q k cause) p from last failed dropped h = record { up = h.up; down = h.down }
no_drop s (Decided q k commit) p from last failed dropped h = record { up = h.up; down = h.down }
no_drop s (Refused q verb cause) p from last failed dropped h = record { up = h.up; down = h.down }
