use Rattle.std.proofs.Common.{◌≡◌, ◌∙◌, ℕ, true, Option, length, sym, subst, refl, arith, rules}
use Rattle.std.specs.Prelude.{IfNone, IfSome}
use Rattle.kt_meaning.specs.Past.{past}
use Rattle.kt_histories.specs.Breaches.{IsLatestFrom, ShowsWaiting}
use Rattle.kt_histories.specs.Demands.{has_received}
use Rattle.kt_histories.proofs.InTransit.{transit_next, transit_to}
use Rattle.kt_histories.proofs.breach.before.Before.waiting.Goals as goal

pub loop-place-init : goal.loop-place-init
loop-place-init c = record {
  notes = record { count = refl; least = search rules };
  few = omega arith;
  of_sender = refl;
  to_process = refl;
  received = refl;
}

pub loop-place-preserved : goal.loop-place-preserved
loop-place-preserved c =
    let rows = c.args.self.now.rows.now in
    let i = c.loop-place.place in
    let inv = c.loop-place.invariant in
    let next = transit_next rows c.args.from c.args.p i c.after-msg.result c.is_undelivered-is_waiting.result c.after-msg.ensures (c.is_undelivered-is_waiting.ensures rows c.requires.before.histories) in
    record {
      notes = subst (ShowsWaiting c.note.new.self) (sym next) (c.in_ok-note.ensures.noted (transit_to rows c.args.from c.args.p i) inv.notes);
      few = omega (arith, c.in_ok-note.ensures.count, inv.few);
      of_sender = c.in_ok-note.ensures.from ∙ inv.of_sender;
      to_process = c.in_ok-note.ensures.to ∙ inv.to_process;
      received = c.in_ok-note.ensures.received ∙ inv.received;
    }

pub returns : goal.returns
returns c =
    let rows = c.args.self.now.rows.now in
    let inv = c.loop-place.invariant in
    let from = c.args.from in
    let p = c.args.p in
    let all : c.loop-place.place ≡ length rows = omega (arith, c.loop-place-test.false) in
    record {
      of_sender = inv.of_sender;
      to_process = inv.to_process;
      notes = subst (λ (n : ℕ). ShowsWaiting c.loop-place.waiting (transit_to rows from p n)) all inv.notes;
      latest = subst (λ (o : Option ℕ). IfSome o (IsLatestFrom from ((past rows).live p))) (sym inv.received) c.latest_received.ensures.latest;
      none = subst (λ (o : Option ℕ). IfNone o ((m : ℕ) → has_received (past rows) p from m ≡ true → ⊥)) (sym inv.received) c.latest_received.ensures.none;
    }
