use Rattle.std.proofs.Common.{[], rules}
use Rattle.kt_system.proofs.Tallying.{tallies_then}
use Rattle.kt_process.specs.ProcessStates.{ProcessState, inst_of}
use Rattle.std.proofs.Common.{Bool, ap, subst, sym, ◌∙◌}
use Rattle.kt_fifo.specs.declared.parcels.Parcel.TheVariants as parcel
use Rattle.kt_spacetime.specs.declared.event.Event.{Event}
use Rattle.kt_machine.specs.Seen.{Seen}
use Rattle.kt_machine.specs.ListChanges.{with_parcel, with_asks_where}
use Rattle.kt_system.specs.Shown.{ShowsState, with_row, joined_row}
use Rattle.kt_system.proofs.Closing.{settles_wait, settles_answer, settles_commit}
use Rattle.std.proofs.Common.{arith}
use Rattle.kt_system.proofs.Growing.{grows_by, grows_then}
use Rattle.kt_system.proofs.system.System.join.Goals as goal

pub reply-requires-clause-to : goal.reply-requires-clause-to
reply-requires-clause-to c =
    let there = (c.requires.room.answers c.in-Answer.to c.in-Answer.is).0 in
    let asked = c.ask.ensures.uses.size in
    let written = c.write.ensures.keeps.size in
    omega (arith, there, asked, written)

pub returns-in-Wait-clause-shows : goal.returns-in-Wait-clause-shows
returns-in-Wait-clause-shows c = λ v test label h cohort goes willing there.
    let one = c.write.ensures.shows _ (c.ask.ensures.shows v test label h cohort) in
    let joined = record v { channel = with_asks_where v.channel c.args.p c.args.inst c.args.kind test label } in
    let state = with_row joined (joined_row c.args.kind c.args.p c.args.inst) in
    let two = subst (λ (row : Event). ShowsState c.write.new.self (with_row joined row)) c.joining_row.ensures one in
    subst (λ (z : Seen). ShowsState c.write.new.self z) (settles_wait state c.args.p c.args.inst (sym c.in-Wait.is ∙ goes)) two

pub returns-in-Answer-clause-shows : goal.returns-in-Answer-clause-shows
returns-in-Answer-clause-shows c = λ v test label h cohort goes willing there.
    let one = c.write.ensures.shows _ (c.ask.ensures.shows v test label h cohort) in
    let joined = record v { channel = with_asks_where v.channel c.args.p c.args.inst c.args.kind test label } in
    let state = with_row joined (joined_row c.args.kind c.args.p c.args.inst) in
    let two = subst (λ (row : Event). ShowsState c.write.new.self (with_row joined row)) c.joining_row.ensures one in
    let to = c.in-Answer.to in
    let three = subst (λ (b : Bool). ShowsState c.reply.new.self (record state { channel = with_parcel state.channel c.args.p to (parcel.Reply c.args.inst b) })) (sym willing) (c.reply.ensures.shows state two) in
    subst (λ (z : Seen). ShowsState c.reply.new.self z) (settles_answer state c.args.p c.args.inst to (sym c.in-Answer.is ∙ goes)) three

pub returns-in-Commit-clause-shows : goal.returns-in-Commit-clause-shows
returns-in-Commit-clause-shows c = λ v test label h cohort goes willing there.
    let one = c.write.ensures.shows _ (c.ask.ensures.shows v test label h cohort) in
    let joined = record v { channel = with_asks_where v.channel c.args.p c.args.inst c.args.kind test label } in
    let state = with_row joined (joined_row c.args.kind c.args.p c.args.inst) in
    let two = subst (λ (row : Event). ShowsState c.write.new.self (with_row joined row)) c.joining_row.ensures one in
    subst (λ (z : Seen). ShowsState c.decide-second.new.self z) (settles_commit state c.args.p c.args.inst (sym c.in-Commit.is ∙ goes) willing) (c.decide-second.ensures.shows state two
    (λ e. there (sym (ap (λ (x : ProcessState). inst_of x.side) (c.write.ensures.keeps.state_of c.args.p ∙ c.ask.ensures.uses.state_of c.args.p)) ∙ e)))

pub returns-in-Wait-clause-keeps : goal.returns-in-Wait-clause-keeps
returns-in-Wait-clause-keeps c = record {
  size = search rules;
  grows = search rules;
  tallies = tallies_then [] _ _ _ c.ask.ensures.tallies c.write.ensures.tallies;
}

pub returns-in-Answer-clause-keeps : goal.returns-in-Answer-clause-keeps
returns-in-Answer-clause-keeps c = record {
  size = search rules;
  grows = search rules;
  tallies = tallies_then [] _ _ _ (tallies_then [] _ _ _ c.ask.ensures.tallies c.write.ensures.tallies) c.reply.ensures.tallies;
}

pub returns-in-Commit-clause-keeps : goal.returns-in-Commit-clause-keeps
returns-in-Commit-clause-keeps c = record {
  size = search rules;
  grows = grows_then 1 2 c.args.self.now c.write.new.self _ (grows_by _ _ c.joining_row.result (search rules)) c.decide-second.ensures.keeps.grows;
  tallies = tallies_then [] _ _ _ (tallies_then [] _ _ _ c.ask.ensures.tallies c.write.ensures.tallies) c.decide-second.ensures.keeps.tallies;
}
