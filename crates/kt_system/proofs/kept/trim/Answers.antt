use Rattle.std.proofs.Common.{◌∙◌, ◌<◌, ℕ, List, [], ap, sym, refl, inl, inr, rules, drop}
use Rattle.std.proofs.lemmas.Bool.{cases_eq}
use Rattle.kt_base.specs.Sets.{has}
use Rattle.kt_fifo.specs.declared.parcels.Parcel.{Parcel}
use Rattle.kt_fifo.specs.Channels.{channel, at_pair}
use Rattle.kt_machine.specs.Seen.{SeenLists}
use Rattle.kt_process.specs.Shown.{mark_of}
use Rattle.kt_system.proofs.Rest.{fewer}
use Rattle.kt_system.proofs.Ranges.{drop_nil, still, changed_none, changed_one, changed_all}
use Rattle.kt_system.proofs.kept.trim.Goals as goal

pub loop-from-init : goal.loop-from-init
loop-from-init c =
    let f = channel c.args.channels.now in
    let marks = mark_of c.args.marks.now in
    record {
      processes = refl;
      lists = changed_none (has c.senders-rest.result) c.args.p (λ q l. drop (marks q) l) f (λ q none. still (λ (l : List Parcel). drop (marks q) l) (f q c.args.p) (drop_nil (marks q) [] refl) (sym (c.senders-rest.ensures q) ∙ none));
      senders = λ q h. sym (c.senders-rest.ensures q) ∙ h;
    }

pub loop-from-smaller : goal.loop-from-smaller
loop-from-smaller c =
    let few : c.in-Some.from < 64 = search rules in
    fewer c.loop-from.rest c.without-rest.result c.in-Some.from few c.in-Some.ensures.member c.without-rest.ensures.removed c.without-rest.ensures.others

pub loop-from-preserved : goal.loop-from-preserved
loop-from-preserved c =
    let i = c.loop-from.invariant in
    let from = c.in-Some.from in
    let p = c.args.p in
    let w = c.without-rest.ensures in
    let marks = mark_of c.args.marks.now in
    let f = channel c.args.channels.now in
    record {
      processes = c.drop_first.ensures.processes ∙ i.processes;
      lists =
          c.drop_first.ensures.lists
          ∙ (ap (λ (k : ℕ). at_pair from p (drop (marks k) (channel c.loop-from.channels from p)) (channel c.loop-from.channels)) c.index.ensures.value
          ∙ (ap (λ (g : SeenLists). at_pair from p (drop (marks from) (g from p)) g) i.lists
          ∙ changed_one (has c.loop-from.rest) (has c.without-rest.result) p from (λ q l. drop (marks q) l) f c.in-Some.ensures.member w.removed w.others));
      senders = λ q h. elim (cases_eq q from) [
        | inl same ↦ rw (same) (i.senders from c.in-Some.ensures.member)
        | inr other ↦ i.senders q (sym (w.others q other) ∙ h)
      ];
    }

pub returns-clause-lists : goal.returns-clause-lists
returns-clause-lists c =
    c.loop-from.invariant.lists
    ∙ changed_all (has c.loop-from.rest) c.args.p (λ q l. drop (mark_of c.args.marks.now q) l) (channel c.args.channels.now) (search rules)
