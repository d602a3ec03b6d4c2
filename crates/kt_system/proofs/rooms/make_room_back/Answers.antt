use Rattle.std.proofs.Common.{◌∙◌, ◌<◌, sym, arith, inl, inr, rules}
use Rattle.std.proofs.lemmas.Bool.{cases_eq}
use Rattle.kt_system.proofs.Rest.{fewer}
use Rattle.kt_system.proofs.rooms.make_room_back.Goals as goal

pub loop-from-smaller : goal.loop-from-smaller
loop-from-smaller c =
    let few : c.in-Some.from < 64 = search rules in
    fewer c.loop-from.rest c.without-rest.result c.in-Some.from few c.in-Some.ensures.member c.without-rest.ensures.removed c.without-rest.ensures.others

pub loop-from-preserved : goal.loop-from-preserved
loop-from-preserved c =
    let i = c.loop-from.invariant in
    let e = c.make_room_to.ensures in
    let p = c.args.p in
    record {
      processes = e.processes ∙ i.processes;
      lists = e.lists ∙ i.lists;
      rest = λ q h. elim (cases_eq q c.in-Some.from) [
        | inl same ↦ rw (same) (i.rest c.in-Some.from c.in-Some.ensures.member)
        | inr other ↦ i.rest q (sym (c.without-rest.ensures.others q other) ∙ h)
      ];
      room = λ q gone. elim (cases_eq q c.in-Some.from) [
        | inl same ↦ rw (same) (let o = c.in_ok-make_room_to.ensures.ok in omega (arith, c.len.ensures))
        | inr other ↦ let a = i.room q (sym (c.without-rest.ensures.others q other) ∙ gone) in let g = e.grows q p in omega arith
      ];
    }
