use Rattle.std.proofs.Common.{◌∙◌, ◌<◌, ap, sym, refl, arith, inl, inr, rules}
use Rattle.std.proofs.lemmas.Bool.{cases_eq}
use Rattle.kt_base.specs.Sets.{has}
use Rattle.kt_fifo.specs.Channels.{channel, at_pair}
use Rattle.kt_process.specs.Turns.{noted_by}
use Rattle.kt_machine.specs.Seen.{SeenLists}
use Rattle.kt_machine.specs.ListChanges.{low}
use Rattle.kt_system.specs.Kept.{lowered}
use Rattle.kt_system.proofs.Rest.{fewer}
use Rattle.kt_system.proofs.Ranges.{low_nil, still, changed_none, changed_one, changed_all}
use Rattle.kt_system.proofs.kept.cut_all.Goals as goal

pub loop-from-init : goal.loop-from-init
loop-from-init c =
    let f = channel c.args.channels.now in
    let noted = noted_by c.args.process.now.side in
    record {
      processes = refl;
      lists = changed_none (has c.senders-rest.result) c.args.p (λ q l. low (noted q) l) f (λ q none. still (low (noted q)) (f q c.args.p) (low_nil (noted q)) (sym (c.senders-rest.ensures q) ∙ none));
      senders = λ q h. sym (c.senders-rest.ensures q) ∙ h;
      grows = λ u v. omega arith;
    }

pub loop-from-smaller : goal.loop-from-smaller
loop-from-smaller c =
    let few : c.in-Some.from < 64 = search rules in
    fewer c.loop-from.rest c.without-rest.result c.in-Some.from few c.in-Some.ensures.member c.without-rest.ensures.removed c.without-rest.ensures.others

pub loop-from-preserved : goal.loop-from-preserved
loop-from-preserved c =
    let i = c.loop-from.invariant in
    let from = c.in-Some.from in
    let p = c.args.p in
    let w = c.without-rest.ensures in
    let noted = noted_by c.args.process.now.side in
    let f = channel c.args.channels.now in
    record {
      processes = c.cut.ensures.processes ∙ i.processes;
      lists =
          c.cut.ensures.lists
          ∙ (ap (λ note. at_pair from p (low note (channel c.loop-from.channels from p)) (channel c.loop-from.channels)) c.noted.ensures
          ∙ (ap (λ (g : SeenLists). at_pair from p (low (noted from) (g from p)) g) i.lists
          ∙ changed_one (has c.loop-from.rest) (has c.without-rest.result) p from (λ q l. low (noted q) l) f c.in-Some.ensures.member w.removed w.others));
      senders = λ q h. elim (cases_eq q from) [
        | inl same ↦ rw (same) (i.senders from c.in-Some.ensures.member)
        | inr other ↦ i.senders q (sym (w.others q other) ∙ h)
      ];
      grows = λ u v. let a = i.grows u v in let b = c.cut.ensures.grows u v in omega arith;
    }

pub returns-clause-lists : goal.returns-clause-lists
unfolding lowered
returns-clause-lists c =
    c.loop-from.invariant.lists
    ∙ changed_all (has c.loop-from.rest) c.args.p (λ q l. low (noted_by c.args.process.now.side q) l) (channel c.args.channels.now) (search rules)
