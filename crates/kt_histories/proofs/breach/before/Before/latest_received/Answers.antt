use Rattle.std.proofs.Common.{◌≡◌, ◌∙◌, ℕ, ◌+◌, Bool, Option, Some, refl, sym, ap, subst, arith}
use Rattle.std.specs.Prelude.{if◌then◌else◌}
use Rattle.kt_meaning.specs.Past.{past}
use Rattle.kt_histories.specs.Demands.{has_received}
use Rattle.kt_histories.proofs.Delivered.{IsLatestUpTo, latest_first, latest_next, latest_found, none_found}
use Rattle.kt_histories.proofs.breach.before.Before.latest_received.Goals as goal
use Rattle.kt_histories.proofs.breach.before.Before.latest_received.Goals.{then-has_received, else-has_received}

pub loop-place-init : goal.loop-place-init
loop-place-init c = λ before. latest_first c.args.self.now.rows.now before.legal c.args.p c.args.from

pub loop-place-preserved : goal.loop-place-preserved
loop-place-preserved c = λ before.
    let rows = c.args.self.now.rows.now in
    let i = c.loop-place.place in
    let next = latest_next rows before.legal c.args.p c.args.from i c.loop-place.latest (c.loop-place.invariant before) in
    let found = λ (b : Bool). ((o : Option ℕ) → (if b then Some (i + 1) else c.loop-place.latest) ≡ o → IsLatestUpTo rows before.legal c.args.p c.args.from (i + 1) o) in
    let at : found (has_received (past rows) c.args.p c.args.from (i + 1)) =
    λ o e. subst (λ (l : Option ℕ). IsLatestUpTo rows before.legal c.args.p c.args.from (i + 1) l) e next
    in
    let now : found c.has_received.result =
    subst found (sym (c.has_received.ensures ∙ ap (λ (m : ℕ). has_received (past rows) c.args.p c.args.from m) c.after-msg.ensures)) at
    in
    elim c.if-has_received.branch [
      | then-has_received w ↦ rw w.latest-is (subst found w.if-has_received.true now (Some c.after-msg.result) (ap (λ (m : ℕ). Some m) (sym c.after-msg.ensures)))
      | else-has_received w ↦ rw w.latest-is (subst found w.if-has_received.false now c.loop-place.latest refl)
    ]

pub returns-clause-latest : goal.returns-clause-latest
returns-clause-latest c =
    latest_found c.args.self.now.rows.now c.requires.before.legal c.args.p c.args.from c.loop-place.place c.loop-place.latest (omega (arith, c.loop-place-test.false)) (c.loop-place.invariant c.requires.before)

pub returns-clause-none : goal.returns-clause-none
returns-clause-none c =
    none_found c.args.self.now.rows.now c.requires.before.legal c.args.p c.args.from c.loop-place.place c.loop-place.latest (omega (arith, c.loop-place-test.false)) (c.loop-place.invariant c.requires.before)
