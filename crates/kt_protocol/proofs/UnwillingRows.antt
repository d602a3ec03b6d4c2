-- Who takes an ask in another instance, or can't save, may be unwilling.
use Rattle.std.proofs.Common.{◌≡◌, ℕ, ◌+◌, ◌≤◌, ◌<◌, Bool, true, false, List, ◌∷◌, refl, arith, sym, subst}
use Rattle.std.specs.Prelude.{◌==◌, ◌&&◌, if◌then◌else◌}
use Rattle.kt_base.specs.declared.words.Cause.TheVariants.{Busy}
use Rattle.kt_protocol.proofs.Replying.{ask_facts, ask_label_facts}
use Rattle.kt_protocol.proofs.Invariant.{Invariant, is_ask, is_ask_with, one}
use Rattle.kt_protocol.proofs.Updates.{is_same}
use Rattle.kt_protocol.proofs.TablesSince.{TablesSince}
use Rattle.kt_protocol.proofs.StepFacts.{joining}
use Rattle.kt_protocol.proofs.Choices.{differ}
use Rattle.kt_protocol.proofs.Weights.{weigh, weigh_cons}
use Rattle.kt_protocol.specs.Refusals.{HasCause, HasReceived, HasSent, IsFree, MayBeUnwilling}
use Rattle.kt_protocol.specs.Parcels.{Ask, Parcel}
use Rattle.kt_protocol.specs.States.{State}
use Rattle.kt_protocol.specs.Replies.{unable_cause}
use Rattle.kt_protocol.specs.Joining.{must_take}

module _ (s : State) (p q k l : ℕ) (able : Bool) (rest : List Parcel) (e : s.channel q p ≡ Ask k l ∷ rest) (g : Invariant s) (a : TablesSince s) where
  in_front : 0 < weigh (is_ask_with k l) (s.channel q p)
  in_front =
      let x : weigh (is_ask_with k l) (s.channel q p) ≡ one (k == k && l == l) + weigh (is_ask_with k l) rest = subst (λ (y : List Parcel). weigh (is_ask_with k l) y ≡ one (k == k && l == l) + weigh (is_ask_with k l) rest) (sym e) (weigh_cons (is_ask_with k l) (Ask k l) rest) in
      rw x (rw (is_same k, is_same l) (omega arith))

  ask_in_front : 0 < weigh (is_ask k) (s.channel q p)
  ask_in_front =
      let x : weigh (is_ask k) (s.channel q p) ≡ one (k == k) + weigh (is_ask k) rest = subst (λ (y : List Parcel). weigh (is_ask k) y ≡ one (k == k) + weigh (is_ask k) rest) (sym e) (weigh_cons (is_ask k) (Ask k l) rest) in
      rw x (rw (is_same k) (omega arith))

  asker_open : s.so_far.open_in q ≡ k
  asker_open = let f = ask_facts s q p k l rest e g in g.positions.member_open k q f.1 f.2

  heard : s.so_far.is_rollback k ≡ false → HasReceived s.so_far q p k
  heard r =
      let f = ask_facts s q p k l rest e g in
      let b = (ask_label_facts s q p k l rest e g).0 r in
      let i = a.ask_kept k l q p r in_front in
      let low = (g.messages.sent_low l (g.messages.received_low l b.0).0).0 in
      let c = a.kept_since k q p f.3 asker_open r (rw i at low) in
      let d = undecided (s.so_far.is_decided k) (s.so_far.is_committed k) (s.saved_at q) (s.own_permanent q) f.2 in
      let o = g.positions.open_permanent k q f.3 asker_open r in
      let c' : s.own_permanent q ≤ s.so_far.received_at l = rw i c in
      record {
        msg = l;
        place = s.so_far.received_at l;
        received = rw (b.1, b.2) at (g.histories.received_there l b.0);
        past_permanent = rw (o, d) c';
        within = b.3;
      }
    where
      undecided : (x y : Bool) (m n : ℕ) → x ≡ false → (if x && y then m else n) ≡ n
      undecided true y m n e = absurd (cc (e))
      undecided false y m n e = refl

  wrote : s.so_far.is_rollback k ≡ true → HasSent s.so_far q p
  wrote r =
      let f = ask_facts s q p k l rest e g in
      let b = g.tables.first_sent_is q p (a.ask_first k q p r ask_in_front) in
      let o = (g.positions.rollback_permanent k q f.3 asker_open r).0 in
      record {
        msg = s.first_sent q p;
        place = s.so_far.sent_at (s.first_sent q p);
        sent = rw (b.1, b.2) at (g.histories.sent_there (s.first_sent q p) b.0);
        past_permanent = rw o at b.3;
      }

  pub busy : (s.so_far.open_in p == k) ≡ false → 0 < s.so_far.open_in p → MayBeUnwilling s p q k able (Busy (s.so_far.open_in p))
  busy n o = let f = ask_facts s q p k l rest e g in record {
    member = f.1;
    undecided = f.2;
    cause = record { positive = o; open_in = refl; other = differ (s.so_far.open_in p) k n; received = heard; sent = wrote };
  }

  has_to : s.so_far.open_in p ≡ 0 → s.so_far.is_rollback k ≡ false → must_take s p q l ≡ true → IsFree s p q k
  has_to o r m = let b = (joining s p q k l rest e g o r m).1.label refl in record {
    checkpoint = r;
    closed = o;
    has_to = record {
      msg = l;
      out = s.so_far.sent_at l;
      sent = rw (b.1, b.2) at (g.histories.sent_there l (g.messages.received_low l b.0).0);
      past_permanent = b.3;
      place = s.so_far.received_at l;
      received = rw (b.1, b.2) at (g.histories.received_there l b.0);
      within = b.4;
    };
  }

  pub free : s.so_far.open_in p ≡ 0 → s.so_far.is_rollback k ≡ false → must_take s p q l ≡ true → (able && s.up p) ≡ false → MayBeUnwilling s p q k able (unable_cause (s.up p))
  free o r m n = let f = ask_facts s q p k l rest e g in record { member = f.1; undecided = f.2; cause = at_test (s.up p) refl n }
    where
      off : (b : Bool) → (b && true) ≡ false → b ≡ false
      off true e = absurd (cc (e))
      off false e = refl

      at_test : (u : Bool) → s.up p ≡ u → (able && u) ≡ false → HasCause s p q k able (unable_cause u)
      at_test true e n = (has_to o r m, e, off able n)
      at_test false e n = (has_to o r m, e)
