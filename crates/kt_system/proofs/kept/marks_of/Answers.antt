use Rattle.std.proofs.Common.{◌≡◌, ◌<◌, ◌∙◌, ℕ, length, replicate, sym, ap, inl, inr, rules}
use Rattle.std.proofs.lemmas.Bool.{cases_eq}
use Rattle.std.proofs.lemmas.List.{length-set, length-replicate, get_or-set_same, get_or-set_other}
use Rattle.kt_system.proofs.Marks.{marks_of_none, marks_all}
use Rattle.kt_system.proofs.Rest.{fewer}
use Rattle.kt_system.proofs.kept.marks_of.Goals as goal

pub loop-from-init : goal.loop-from-init
loop-from-init c =
    let is : c.in_ok-marks.marks.items ≡ replicate c.processes.result 0 = search rules in
    record {
      size = ap length is ∙ (length-replicate {A = ℕ} c.processes.result 0 ∙ c.processes.ensures.processes);
      rest = λ q h. sym (c.senders-rest.ensures q) ∙ h;
      marks = λ q h. marks_of_none c.args.kept.now c.args.p c.processes.result q c.in_ok-marks.marks.items is (sym (c.senders-rest.ensures q) ∙ h);
    }

pub loop-from-smaller : goal.loop-from-smaller
loop-from-smaller c =
    let few : c.in-Some.from < 64 = search rules in
    fewer c.loop-from.rest c.without-rest.result c.in-Some.from few c.in-Some.ensures.member c.without-rest.ensures.removed c.without-rest.ensures.others

pub loop-from-preserved : goal.loop-from-preserved
loop-from-preserved c =
    let i = c.loop-from.invariant in
    let from = c.in-Some.from in
    let w = c.without-rest.ensures in
    let here = c.index.ensures.value in
    record {
      size = length-set c.loop-from.marks.items c.index.result c.len.result ∙ i.size;
      rest = λ q h. elim (cases_eq q from) [
        | inl same ↦ rw (same) (i.rest from c.in-Some.ensures.member)
        | inr other ↦ i.rest q (sym (w.others q other) ∙ h)
      ];
      marks = λ q h. elim (cases_eq q from) [
        | inl same ↦ rw (same) (rw here (get_or-set_same c.loop-from.marks.items from c.len.result 0 (search rules) ∙ c.len.ensures))
        | inr other ↦ rw here (get_or-set_other c.loop-from.marks.items from q c.len.result 0 other ∙ i.marks q (sym (w.others q other) ∙ h))
      ];
    }

pub returns-clause-marks : goal.returns-clause-marks
returns-clause-marks c = marks_all c.args.kept.now c.args.p c.loop-from.marks.items (λ q. c.loop-from.invariant.marks q (c.in_default.ensures.none q))
