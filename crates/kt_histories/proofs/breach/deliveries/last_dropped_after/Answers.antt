use Rattle.std.proofs.Common.{◌≡◌, ◌∙◌, Some, None, sym, subst, arith}
use Rattle.std.proofs.lemmas.Bool.Decides.{nat_tests}
use Rattle.kt_spacetime.specs.declared.event.Event.{Event}
use Rattle.kt_spacetime.specs.declared.event.Event.TheVariants as event
use Rattle.kt_meaning.specs.Past.{after}
use Rattle.kt_meaning.specs.Legal.{broken_rule}
use Rattle.kt_histories.specs.Breaches.{IsLastDropped}
use Rattle.kt_histories.proofs.Delivered.{dropped_itself, dropped_from_other, dropped_by_other}
use Rattle.kt_histories.proofs.breach.deliveries.last_dropped_after.Goals as goal
use Rattle.kt_histories.proofs.breach.deliveries.last_dropped_after.Goals.{else-eq-2-via-then-eq-2+else-eq-3, else-eq-2-via-else-eq-2}

pub returns-then-eq-3 : goal.returns-then-eq-3
returns-then-eq-3 c = λ s unbroken h.
    let q : c.in-Dropped.q ≡ c.args.p = grind (arith, nat_tests) in
    let sender : c.in-Dropped.sender ≡ c.args.from = grind (arith, nat_tests) in
    let row : c.args.row.now ≡ event.Dropped c.args.p c.args.from c.in-Dropped.msg = c.in-Dropped.is ∙ (λ i. event.Dropped (q i) (sender i) c.in-Dropped.msg) in
    subst (λ (r : Event). IsLastDropped (after s r) c.args.p c.args.from (Some c.in-Dropped.msg)) (sym row)
    (dropped_itself s c.args.p c.args.from c.in-Dropped.msg c.args.last (subst (λ (r : Event). broken_rule s r ≡ None) row unbroken) h)

pub returns-else-eq-2 : goal.returns-else-eq-2
returns-else-eq-2 c = λ s unbroken h.
    elim c.else-eq-2.branch [
      | else-eq-2-via-then-eq-2+else-eq-3 w ↦
          let q : c.in-Dropped.q ≡ c.args.p = grind (arith, nat_tests) in
          let row : c.args.row.now ≡ event.Dropped c.args.p c.in-Dropped.sender c.in-Dropped.msg = c.in-Dropped.is ∙ (λ i. event.Dropped (q i) c.in-Dropped.sender c.in-Dropped.msg) in
          subst (λ (r : Event). IsLastDropped (after s r) c.args.p c.args.from c.args.last) (sym row)
          (dropped_from_other s c.args.p c.args.from c.in-Dropped.sender c.in-Dropped.msg c.args.last (λ same. grind (arith, nat_tests, same)) (subst (λ (r : Event). broken_rule s r ≡ None) row unbroken) h)
      | else-eq-2-via-else-eq-2 w ↦
          subst (λ (r : Event). IsLastDropped (after s r) c.args.p c.args.from c.args.last) (sym c.in-Dropped.is)
          (dropped_by_other s c.args.p c.in-Dropped.q c.args.from c.in-Dropped.sender c.in-Dropped.msg c.args.last (λ same. grind (arith, nat_tests, same)) h)
    ]
