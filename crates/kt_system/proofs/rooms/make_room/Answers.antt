use Rattle.std.proofs.Common.{◌∙◌, ◌<◌, sym, arith, inl, inr, rules}
use Rattle.std.proofs.lemmas.Bool.{cases_eq}
use Rattle.kt_system.proofs.Rest.{fewer}
use Rattle.kt_system.proofs.rooms.make_room.Goals as goal

pub loop-to-smaller : goal.loop-to-smaller
loop-to-smaller c =
    let few : c.in-Some.to < 64 = search rules in
    fewer c.loop-to.rest c.without-rest.result c.in-Some.to few c.in-Some.ensures.member c.without-rest.ensures.removed c.without-rest.ensures.others

pub loop-to-preserved : goal.loop-to-preserved
loop-to-preserved c =
    let i = c.loop-to.invariant in
    let e = c.make_room_to.ensures in
    let p = c.args.p in
    record {
      processes = e.processes ∙ i.processes;
      lists = e.lists ∙ i.lists;
      grows = λ u v. let a = i.grows u v in let b = e.grows u v in omega arith;
      rest = λ q h. elim (cases_eq q c.in-Some.to) [
        | inl same ↦ rw (same) (i.rest c.in-Some.to c.in-Some.ensures.member)
        | inr other ↦ i.rest q (sym (c.without-rest.ensures.others q other) ∙ h)
      ];
      room = λ q h gone. elim (cases_eq q c.in-Some.to) [
        | inl same ↦ rw (same) c.in_ok-make_room_to.ensures.ok
        | inr other ↦ let a = i.room q h (sym (c.without-rest.ensures.others q other) ∙ gone) in let g = e.grows p q in omega arith
      ];
    }
