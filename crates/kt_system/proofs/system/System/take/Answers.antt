use Rattle.std.proofs.Common.{ap, subst, sym, ◌∙◌}
use Rattle.std.specs.Prelude.{None, OnOk, slice_get, if◌then◌else◌}
use Rattle.kt_tables.specs.Calls.{Speaks}
use Rattle.kt_machine.specs.Seen.{Seen, SeenLists}
use Rattle.kt_process.specs.ProcessStates.{is_ready}
use Rattle.kt_system.specs.Systems.{state_of}
use Rattle.kt_system.specs.Shown.{ShowsState}
use Rattle.kt_system.proofs.Replying.{ready_seen}
use Rattle.kt_system.proofs.Taking.{takes_front}
use Rattle.kt_system.proofs.system.System.take.Goals as goal

pub returns-in-None-clause-shows : goal.returns-in-None-clause-shows
returns-in-None-clause-shows c = λ v h speaks.
    let at = c.args.at in
    let from = c.args.from in
    let seen = h.states at c.requires.can.process in
    let b = is_ready (state_of c.args.self.now at).side in
    let none = ap (λ (f : SeenLists). if b then None else slice_get (f from at) 0) (sym h.held) ∙ (sym c.held_parcel.ensures.parcel ∙ c.in-None.is) in
    let same = takes_front v at from c.args.able b (sym (ready_seen _ v at seen c.held_parcel.ensures.numbered)) none in
    subst (λ (z : Seen). OnOk c.take_front.result (ShowsState c.take_front.new.self z)) same (c.take_front.ensures.shows v h (subst (λ (z : Seen). Speaks ((z.states at).calls)) (sym same) speaks))
