use Rattle.std.proofs.Common.{◌≡◌, ◌∙◌, ◌<◌, true, false, List, ◌++◌, ap, sym, refl, arith, inl, inr, rules, length}
use Rattle.std.proofs.lemmas.Bool.{cases_eq}
use Rattle.kt_base.specs.Sets.{has}
use Rattle.kt_fifo.specs.declared.parcels.Parcel.{Parcel}
use Rattle.kt_fifo.specs.Channels.{channel, spare_of}
use Rattle.kt_process.specs.Turns.{noted_by}
use Rattle.kt_machine.specs.Seen.{SeenLists}
use Rattle.kt_machine.specs.ListChanges.{low}
use Rattle.kt_system.specs.Kept.{lowered}
use Rattle.kt_system.proofs.Rest.{fewer}
use Rattle.kt_system.proofs.Ranges.{low_nil, no_parcel, changed_none, unchanged, changed_all, in_front, nothing_left, front_of_lowered, back_all, gone_all, room_fits, held_step, kept_step, room_elsewhere}
use Rattle.kt_system.proofs.kept.restore.Goals as goal

pub loop-from-init : goal.loop-from-init
loop-from-init c =
    let p = c.args.p in
    let K = channel c.args.kept.now in
    let noted = noted_by c.args.process.now.side in
    let L = lowered p noted (channel c.args.held.now) in
    record {
      processes = c.cut_all.ensures.processes;
      kept_processes = refl;
      held =
          c.cut_all.ensures.lists
          ∙ changed_none (has c.senders-rest.result) p (in_front p noted K) L
          (λ q none. let z = no_parcel (K q p) (sym (c.senders-rest.ensures q) ∙ none) in ap (λ (l : List Parcel). l ++ L q p) (ap (low (noted q)) z ∙ low_nil (noted q)));
      kept = changed_none (has c.senders-rest.result) p nothing_left K (λ q none. sym (no_parcel (K q p) (sym (c.senders-rest.ensures q) ∙ none)));
      senders = λ q h. sym (c.senders-rest.ensures q) ∙ h;
      room = λ q h. let below : q < c.args.held.now.processes = search rules in let a = c.requires.room q below in let b = c.cut_all.ensures.grows q p in omega arith;
    }

pub loop-from-smaller : goal.loop-from-smaller
loop-from-smaller c =
    let few : c.in-Some.from < 64 = search rules in
    fewer c.loop-from.rest c.without-rest.result c.in-Some.from few c.in-Some.ensures.member c.without-rest.ensures.removed c.without-rest.ensures.others

pub put_before-requires-clause-room : goal.put_before-requires-clause-room
put_before-requires-clause-room c =
    let i = c.loop-from.invariant in
    let from = c.in-Some.from in
    let p = c.args.p in
    let K = channel c.args.kept.now in
    let same : channel c.loop-from.kept from p ≡ K from p = ap (λ (f : SeenLists). f from p) i.kept ∙ unchanged (has c.loop-from.rest) p from nothing_left K c.in-Some.ensures.member in
    let long = ap (λ (l : List Parcel). length l) same in
    let room = i.room from c.in-Some.ensures.member in
    room_fits (channel c.loop-from.kept) (channel c.cut.new.channels) (spare_of c.loop-from.held) (spare_of c.loop-from.held) from p from _ refl c.cut.ensures.lists (λ u v. omega arith) (omega (arith, long, room))

pub loop-from-preserved : goal.loop-from-preserved
loop-from-preserved c =
    let i = c.loop-from.invariant in
    let from = c.in-Some.from in
    let p = c.args.p in
    let w = c.without-rest.ensures in
    let noted = noted_by c.args.process.now.side in
    let K = channel c.args.kept.now in
    let L = lowered p noted (channel c.args.held.now) in
    record {
      processes = c.put_before.ensures.processes ∙ i.processes;
      kept_processes = c.put_before.ensures.other_processes ∙ (c.cut.ensures.processes ∙ i.kept_processes);
      held = held_step (has c.loop-from.rest) (has c.without-rest.result) p from _ noted K L (channel c.loop-from.kept) (channel c.cut.new.channels) (channel c.loop-from.held) (channel c.put_before.new.self) c.noted.ensures i.kept c.cut.ensures.lists i.held c.put_before.ensures.lists
          c.in-Some.ensures.member w.removed w.others;
      kept = kept_step (has c.loop-from.rest) (has c.without-rest.result) p from _ K (channel c.loop-from.kept) (channel c.cut.new.channels) (channel c.put_before.new.other) i.kept c.cut.ensures.lists c.put_before.ensures.other_lists c.in-Some.ensures.member w.removed w.others;
      senders = λ q h. elim (cases_eq q from) [
        | inl same ↦ rw (same) (i.senders from c.in-Some.ensures.member)
        | inr other ↦ i.senders q (sym (w.others q other) ∙ h)
      ];
      room = λ q h. elim (cases_eq q from) [
        | inl same ↦ let clash : true ≡ false = sym h ∙ (rw (same) w.removed) in absurd (cc clash)
        | inr other ↦ room_elsewhere K (spare_of c.loop-from.held) (spare_of c.put_before.new.self) from p q _ c.put_before.ensures.spare other (i.room q (sym (w.others q other) ∙ h))
      ];
    }

pub returns-clause-held : goal.returns-clause-held
returns-clause-held c =
    let p = c.args.p in
    let noted = noted_by c.args.process.now.side in
    let K = channel c.args.kept.now in
    let H = channel c.args.held.now in
    let n = c.args.held.now.processes in
    c.loop-from.invariant.held
    ∙ (changed_all (has c.loop-from.rest) p (in_front p noted K) (lowered p noted H) (search rules)
    ∙ (front_of_lowered p noted K H ∙ sym (back_all n p noted c.args.kept.now c.args.held.now (omega (arith, c.requires.same)) (omega arith))))

pub returns-clause-kept : goal.returns-clause-kept
returns-clause-kept c =
    c.loop-from.invariant.kept
    ∙ (changed_all (has c.loop-from.rest) c.args.p nothing_left (channel c.args.kept.now) (search rules) ∙ sym (gone_all c.args.held.now.processes c.args.p c.args.kept.now (omega (arith, c.requires.same))))
