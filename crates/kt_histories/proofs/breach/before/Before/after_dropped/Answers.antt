use Rattle.std.proofs.Common.{◌≡◌, ◌∙◌, Option, Some, None, refl, sym, ap}
use Rattle.std.specs.List.{list_all}
use Rattle.kt_meaning.specs.Past.{past, Past}
use Rattle.kt_meaning.specs.Legal.{is_later}
use Rattle.kt_rules.specs.Tests.{is_after}
use Rattle.kt_rules.proofs.LatestFacts.{later_is_after}
use Rattle.kt_histories.proofs.Delivered.{not_after_some, latest_by_last, not_later}
use Rattle.kt_histories.proofs.KnownRows.{none_dropped}
use Rattle.kt_histories.proofs.Demands.{met}
use Rattle.kt_histories.proofs.breach.before.Before.after_dropped.Goals as goal

none_of : {X : Type 0} (o : Option X) → ((x : X) → o ≡ Some x → ⊥) → o ≡ None
none_of None never = refl
none_of (Some x) never = absurd (never x refl)

pub returns-then-is_up : goal.returns-then-is_up
returns-then-is_up c =
    let rows = c.args.self.now.rows.now in
    ap (list_all (is_later c.args.from c.args.msg)) (c.last_dropped-dropped.ensures.up (sym (c.is_up.ensures rows c.requires.before.histories) ∙ c.if-is_up.true))

pub returns-in_err-last : goal.returns-in_err-last
returns-in_err-last c =
    let rows = c.args.self.now.rows.now in
    let deeds = (past rows).dropped_since c.args.p in
    let last = c.last_dropped-dropped.ensures.down (sym (c.is_up.ensures rows c.requires.before.histories) ∙ c.if-is_up.false) in
    met rows (λ (s : Past). list_all (is_later c.args.from c.args.msg) (s.dropped_since c.args.p)) c.from_residual.result c.from_residual.ensures
    (later_is_after c.args.from c.args.msg deeds (c.requires.before.histories.shows.in_order.dropped c.args.p c.args.from)
    ∙ ap (is_after c.args.msg) (sym last ∙ c.in_err-last.was))

pub returns-then-is_after : goal.returns-then-is_after
returns-then-is_after c =
    let rows = c.args.self.now.rows.now in
    let deeds = (past rows).dropped_since c.args.p in
    let last = c.last_dropped-dropped.ensures.down (sym (c.is_up.ensures rows c.requires.before.histories) ∙ c.if-is_up.false) in
    later_is_after c.args.from c.args.msg deeds (c.requires.before.histories.shows.in_order.dropped c.args.p c.args.from)
    ∙ (ap (is_after c.args.msg) (sym last ∙ c.in_ok-last.was) ∙ (sym c.is_after.ensures ∙ c.if-is_after.true))

pub returns : goal.returns
returns c =
    let rows = c.args.self.now.rows.now in
    let deeds = (past rows).dropped_since c.args.p in
    let last = c.last_dropped-dropped.ensures.down (sym (c.is_up.ensures rows c.requires.before.histories) ∙ c.if-is_up.false) in
    let latest = latest_by_last c.args.from c.in_ok-last.last deeds (c.requires.before.histories.shows.in_order.dropped c.args.p c.args.from) (sym last ∙ c.in_ok-last.was) in
    record {
      so = (latest, c.in_ok-row.ensures);
      against = λ log legal so. not_later c.args.from c.args.msg c.in_ok-last.last ((past log).dropped_since c.args.p) so.0
          (not_after_some c.args.msg c.in_ok-last.last (sym c.is_after.ensures ∙ c.if-is_after.false));
    }

pub returns-in_err-row : goal.returns-in_err-row
returns-in_err-row c =
    let rows = c.args.self.now.rows.now in
    let deeds = (past rows).dropped_since c.args.p in
    let last = c.last_dropped-dropped.ensures.down (sym (c.is_up.ensures rows c.requires.before.histories) ∙ c.if-is_up.false) in
    let latest = latest_by_last c.args.from c.in_ok-last.last deeds (c.requires.before.histories.shows.in_order.dropped c.args.p c.args.from) (sym last ∙ c.in_ok-last.was) in
    absurd (cc (sym (none_dropped c.args.p c.args.from c.in_ok-last.last rows c.in_err-row.ensures) ∙ latest.there))
