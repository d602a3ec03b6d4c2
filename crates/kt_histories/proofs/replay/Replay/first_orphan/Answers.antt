use Rattle.std.proofs.Common.{◌≡◌, ℕ, ◌<◌, true, inl, inr, arith, sym, subst, ◌∙◌}
use Rattle.std.specs.List.{slice_index}
use Rattle.std.proofs.lemmas.Bool.{cases_eq}
use Rattle.kt_spacetime.specs.declared.deeds.Deed.TheVariants as deed
use Rattle.kt_meaning.specs.Legal.{has_deed}
use Rattle.kt_rules.specs.Orphans.{IsOrphanBetween}
use Rattle.kt_histories.proofs.InstanceSteps.{below}
use Rattle.kt_rules.proofs.OrphanFacts.{some_earlier, some_weaker, at_most_first, at_most_second, received_of}
use Rattle.kt_histories.proofs.OrphanFacts.{IsOrphanShown, IsOrphanShownOf, least_of_all}
use Rattle.kt_histories.proofs.replay.Replay.first_orphan.Goals as goal

pub loop-number-preserved : goal.loop-number-preserved
loop-number-preserved c = rw c.earlier-least.ensures (record {
  orphan = some_earlier (IsOrphanShown c.args.self.now (slice_index c.args.cut.now)) _ _ c.loop-number.invariant.orphan (some_weaker (IsOrphanShownOf c.args.self.now (slice_index c.args.cut.now) c.nth.result) (IsOrphanShown c.args.self.now (slice_index c.args.cut.now)) _ (λ m f s h. let o = f s h in (c.nth.result, o.0, o.1)) c.first_of_receiver.ensures.orphan);
  dead = λ s p q msg h x o. at_most_first _ _ msg (c.loop-number.invariant.dead s p q msg h x o);
  live = λ s p q msg l h o e. elim (cases_eq p c.loop-number.number) [
    | inl same ↦
        let receiver : p ≡ c.nth.result = same ∙ sym c.nth.ensures in
        let here : IsOrphanBetween s (slice_index c.args.cut.now) c.nth.result q msg = subst (λ (x : ℕ). IsOrphanBetween s (slice_index c.args.cut.now) x q msg) receiver o in
        let sent : has_deed (deed.Sent msg c.nth.result) (s.live q) ≡ true = subst (λ (x : ℕ). has_deed (deed.Sent msg x) (s.live q) ≡ true) receiver e in
        at_most_second _ _ msg (c.first_of_receiver.ensures.least s q msg h here sent)
    | inr other ↦ at_most_first _ _ msg (c.loop-number.invariant.live s p q msg (omega (arith, l, other)) h o e)
  ];
})

pub returns-clause-least : goal.returns-clause-least
returns-clause-least c = λ s p q msg h o.
    let at = received_of s (slice_index c.args.cut.now) p q msg o in
    let low : p < 64 = below s.live h.of_processes.no_more p o.place (deed.Received msg q) at.0 in
    least_of_all s (slice_index c.args.cut.now) p q msg c.loop-number.least c.args.self.now.dead o (λ i a n. h.dead_known p i msg q a n)
    (λ x. c.loop-number.invariant.dead s p q msg h x o) (λ e. c.loop-number.invariant.live s p q msg (omega (arith, low, c.loop-number-test.false)) h o e)
