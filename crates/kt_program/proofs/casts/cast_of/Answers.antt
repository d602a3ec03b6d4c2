use Rattle.std.proofs.Common.{rules, arith, ◌≡◌, ◌+◌, ◌<◌, ℕ, List, All, length, subst, ap}
use Rattle.std.specs.Prelude.{Ok, slice_index}
use Rattle.kt_plan.specs.Failures.{failures_of}
use Rattle.kt_plan.specs.Limits.{Planned, IsPlan}
use Rattle.kt_program.proofs.Casting.{begun_pushed, begun_all}
use Rattle.kt_program.proofs.casts.cast_of.Goals as goal

few_processes : (plan : Planned) (kinds : List ℕ) (number : ℕ) → IsPlan plan → kinds ≡ plan.kinds → number < length kinds → number < 64
few_processes plan kinds number is same l = omega (arith, l, ap (λ (list : List ℕ). length list) same, is.one_kind_each, is.names.few)

pub loop-number-preserved : goal.loop-number-preserved
loop-number-preserved g c =
    let number = c.loop-number.number in
    let row = c.in_ok-row.row.items in
    let same : c.as_slice-kinds.result.now ≡ c.args.plan.now.kinds = search rules in
    let few : number < 64 = few_processes c.args.plan.now _ number c.size-processes.ensures.plan same c.loop-number-test.true in
    let counted = c.failures-spares.ensures.counts number few in
    let long : length row ≡ failures_of c.args.plan.now.commands number + 1 = search rules in
    let made = subst (λ (kinds : List ℕ). All (λ object. (before after : _) × goal.F-step g before (slice_index kinds number) (Ok object) after) row) same c.in_ok-row.ensures.made in
    begun_pushed _ _ _ c.loop-number.cast.items c.push.new.self.items c.in_ok-row.row (λ row. row.items) number c.in_ok-push.ensures.items c.loop-number.invariant long made

pub returns : goal.returns
returns g c = begun_all _ _ _ c.loop-number.number _ (search rules) c.loop-number.invariant
