use Rattle.std.specs.Prelude.{◌==◌, Some, slice_get}
use Rattle.std.proofs.Common.{◌≡◌, ℕ, List, [], ◌++◌, false, drop, refl, arith, ap, subst, sym, ◌∙◌}
use Rattle.kt_base.specs.declared.words.Kind.{Kind}
use Rattle.kt_fifo.specs.Channels.{channel}
use Rattle.kt_fifo.specs.declared.parcels.Parcel.{Parcel}
use Rattle.kt_process.specs.declared.actions.Action.{Action}
use Rattle.kt_process.specs.ProcessStates.{part_of_side}
use Rattle.kt_process.specs.Shown.{counted_as}
use Rattle.kt_machine.specs.Seen.{Seen}
use Rattle.kt_machine.specs.SeenMessages.{seen_without_front}
use Rattle.kt_spacetime.specs.declared.event.Event.{Event}
use Rattle.kt_system.specs.Reads.{awaited_of}
use Rattle.kt_system.specs.Shown.{ShowsState, turned_to, gone_on, after_reply_taken}
use Rattle.kt_system.specs.Systems.{Whole, state_of, LogGrows}
use Rattle.kt_system.specs.Tallies.{TalliesPut, front}
use Rattle.kt_system.proofs.Quieting.{sent_leads, sent_acts, sent_off, sent_saves, none_replied, nothing_follows, same_rows, not_one}
use Rattle.kt_system.proofs.Replying.{decides_not, replies_as}
use Rattle.kt_system.proofs.Showing.{shows_turned}
use Rattle.kt_system.proofs.Tallying.{tallies_then, tallies_turned}
use Rattle.kt_system.proofs.system.System.take_quietly.Goals as goal

pub returns-in_ok-take_ask_to_save-in-Checkpoint-clause-tallies : goal.returns-in_ok-take_ask_to_save-in-Checkpoint-clause-tallies
returns-in_ok-take_ask_to_save-in-Checkpoint-clause-tallies c = λ e.
    let off = sent_off c.args.self.now c.args.at c.args.from (c.takes_held.ensures.none c.if-takes_held.false c.args.from) in
    subst (λ (t : List Parcel). TalliesPut t c.args.self.now c.take_ask_to_save.new.self) off c.in_ok-take_ask_to_save-in-Checkpoint.ensures.keeps.tallies

pub returns-in_ok-take_ask_to_save-in-Checkpoint-clause-shows : goal.returns-in_ok-take_ask_to_save-in-Checkpoint-clause-shows
returns-in_ok-take_ask_to_save-in-Checkpoint-clause-shows c = λ e v h.
    let got = subst (λ (w : Whole). slice_get (channel w.channels c.args.from c.args.at) 0 ≡ Some c.in-Some.parcel) c.self.view_is (sym c.front.ensures ∙ (sym c.copied.ensures ∙ c.in-Some.is)) in
    let asked = got ∙ ap Some (c.in-Ask.is ∙ ap (λ (k : Kind). Rattle.kt_fifo.specs.declared.parcels.Parcel.TheVariants.Ask c.in-Ask.inst k c.in-Ask.label) c.in-Checkpoint.is) in
    subst (λ (z : Seen). ShowsState c.take_ask_to_save.new.self z)
    (sent_leads c.args.self.now v c.args.at c.args.from h c.requires.can.process c.takes_held.ensures.numbered (c.takes_held.ensures.none c.if-takes_held.false c.args.from) _ asked)
    (c.in_ok-take_ask_to_save-in-Checkpoint.ensures.shows v h)

pub returns-else-awaited-eq1-clause-grows : goal.returns-else-awaited-eq1-clause-grows
returns-else-awaited-eq1-clause-grows c = same_rows c.args.self.now c.hear_reply-action.new.self (ap (λ (log : _). log.rows) (c.hear_reply-action.ensures.turned.rows ∙ c.pop.ensures.rows))

pub returns-else-awaited-eq1-clause-plain : goal.returns-else-awaited-eq1-clause-plain
returns-else-awaited-eq1-clause-plain c = λ e.
    let got = subst (λ (w : Whole). slice_get (channel w.channels c.args.from c.args.at) 0 ≡ Some c.in-Some.parcel) c.self.view_is (sym c.front.ensures ∙ (sym c.copied.ensures ∙ c.in-Some.is)) in
    sent_saves c.args.self.now c.args.at c.args.from _ (c.takes_held.ensures.none c.if-takes_held.false c.args.from) (got ∙ ap Some c.in-Reply.is)

pub returns-else-awaited-eq1-clause-acts : goal.returns-else-awaited-eq1-clause-acts
returns-else-awaited-eq1-clause-acts c = λ e v h.
    let at = c.args.at in
    let got = subst (λ (w : Whole). slice_get (channel w.channels c.args.from c.args.at) 0 ≡ Some c.in-Some.parcel) c.self.view_is (sym c.front.ensures ∙ (sym c.copied.ensures ∙ c.in-Some.is)) in
    let more = subst (λ (n : ℕ). (n == 1) ≡ false) c.awaited.ensures (not_one c.awaited.result c.if-awaited-eq1.false) in
    sym (sent_acts c.args.self.now v at c.args.from h c.requires.can.process c.takes_held.ensures.numbered (c.takes_held.ensures.none c.if-takes_held.false c.args.from) _ (got ∙ ap Some c.in-Reply.is))
    ∙ none_replied (state_of c.args.self.now at) v at c.in-Reply.willing (h.states at c.requires.can.process) more

pub returns-else-awaited-eq1-clause-tallies : goal.returns-else-awaited-eq1-clause-tallies
returns-else-awaited-eq1-clause-tallies c = λ e.
    let off = sent_off c.args.self.now c.args.at c.args.from (c.takes_held.ensures.none c.if-takes_held.false c.args.from) in
    subst (λ (t : List Parcel). TalliesPut t c.args.self.now c.hear_reply-action.new.self) off
    (tallies_then (front c.args.self.now c.args.at c.args.from) _ _ _ c.pop.ensures.tallies (tallies_turned _ _ c.args.at c.hear_reply-action.ensures.turned))

pub returns-else-awaited-eq1-clause-shows : goal.returns-else-awaited-eq1-clause-shows
returns-else-awaited-eq1-clause-shows c = λ e v h.
    let at = c.args.at in
    let from = c.args.from in
    let inst = c.in-Reply.inst in
    let willing = c.in-Reply.willing in
    let got = subst (λ (w : Whole). slice_get (channel w.channels from at) 0 ≡ Some c.in-Some.parcel) c.self.view_is (sym c.front.ensures ∙ (sym c.copied.ensures ∙ c.in-Some.is)) in
    let rest = drop 1 (v.channel from at) in
    let state = seen_without_front v at from rest in
    let popped = c.pop.ensures.shows v h in
    let heard = shows_turned _ _ state at (counted_as willing (v.states at)) c.hear_reply-action.ensures.turned (c.hear_reply-action.ensures.shows state popped) popped in
    let seen = popped.states at (let b = c.pop.ensures.gives.size in let d = c.requires.can.process in omega (arith, b, d)) in
    let more = subst (λ (n : ℕ). (n == 1) ≡ false) c.awaited.ensures (not_one c.awaited.result c.if-awaited-eq1.false) in
    let after = subst (λ (x : _). (awaited_of (part_of_side x.side) == 1) ≡ false) (sym (c.pop.ensures.gives.state_of at)) more in
    let nothing = nothing_follows (state_of c.pop.new.self at).side willing after in
    let leads = subst (λ (a : Action). gone_on (turned_to state at (counted_as willing (v.states at))) at inst a ≡ after_reply_taken v at from inst willing rest) nothing
    (replies_as (state_of c.pop.new.self at) v at from inst willing rest seen) in
    subst (λ (z : Seen). ShowsState c.hear_reply-action.new.self z)
    (leads ∙ sent_leads c.args.self.now v at from h c.requires.can.process c.takes_held.ensures.numbered (c.takes_held.ensures.none c.if-takes_held.false from) _ (got ∙ ap Some c.in-Reply.is)) heard

pub returns-else-is_in-clause-plain : goal.returns-else-is_in-clause-plain
returns-else-is_in-clause-plain c = λ e.
    let got = subst (λ (w : Whole). slice_get (channel w.channels c.args.from c.args.at) 0 ≡ Some c.in-Some.parcel) c.self.view_is (sym c.front.ensures ∙ (sym c.copied.ensures ∙ c.in-Some.is)) in
    sent_saves c.args.self.now c.args.at c.args.from _ (c.takes_held.ensures.none c.if-takes_held.false c.args.from) (got ∙ ap Some c.in-Decide.is)

pub returns-else-is_in-clause-tallies : goal.returns-else-is_in-clause-tallies
returns-else-is_in-clause-tallies c = λ e.
    let off = sent_off c.args.self.now c.args.at c.args.from (c.takes_held.ensures.none c.if-takes_held.false c.args.from) in
    subst (λ (t : List Parcel). TalliesPut t c.args.self.now c.pop-in-Decide.new.self) off c.pop-in-Decide.ensures.tallies

pub returns-else-is_in-clause-shows : goal.returns-else-is_in-clause-shows
returns-else-is_in-clause-shows c = λ e v h.
    let at = c.args.at in
    let from = c.args.from in
    let got = subst (λ (w : Whole). slice_get (channel w.channels from at) 0 ≡ Some c.in-Some.parcel) c.self.view_is (sym c.front.ensures ∙ (sym c.copied.ensures ∙ c.in-Some.is)) in
    let outside = sym (c.is_in.ensures.shows v h) ∙ c.if-is_in.false in
    subst (λ (z : Seen). ShowsState c.pop-in-Decide.new.self z)
    (decides_not v at from c.in-Decide.inst c.in-Decide.commit (drop 1 (v.channel from at)) outside
    ∙ sent_leads c.args.self.now v at from h c.requires.can.process c.takes_held.ensures.numbered (c.takes_held.ensures.none c.if-takes_held.false from) _ (got ∙ ap Some c.in-Decide.is)) (c.pop-in-Decide.ensures.shows v h)
