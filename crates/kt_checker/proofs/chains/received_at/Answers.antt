use Rattle.std.proofs.Common.{◌≡◌, Some, refl, arith, ap, sym, ◌∙◌}
use Rattle.kt_base.specs.declared.words.Kind.TheVariants.{Rollback}
use Rattle.kt_rules.specs.declared.traces.Trace.{Trace}
use Rattle.kt_meaning.specs.Past.{past}
use Rattle.kt_meaning.proofs.Items.{some_same}
use Rattle.kt_walk.specs.Keeping.{kept_trace}
use Rattle.kt_walk.proofs.WalkLinks.{kept_traced}
use Rattle.kt_checker.proofs.Links.{step_of, kept_places, received_place}
use Rattle.kt_checker.proofs.chains.received_at.Goals as goal

pub returns-clause-found : goal.returns-clause-found
returns-clause-found c = λ rows h.
    let t : Trace = record { from = c.args.from; to = c.args.to; sent = Some c.in-Some.sent; received = Some c.in-Some.received } in
    let kept : kept_trace rows c.args.msg ≡ Some t = c.in-Some.ensures.found rows h in
    received_place rows c.args.to c.args.from c.args.msg c.in-Some.sent c.in-Some.received c.permanent.result t (kept_traced rows c.args.msg t kept) refl refl refl refl (c.permanent.ensures rows h) c.if-sent-permanent.false

pub returns-in_default-clause-none : goal.returns-in_default-clause-none
returns-in_default-clause-none c = λ rows h link.
    let step = step_of rows 0 Rollback c.args.from c.args.msg c.args.to h.control.legal (c.args.to, link, refl) in
    c.in_default.ensures.none rows step.sent step.received h (kept_places rows c.args.from c.args.msg c.args.to h.control.legal step)

pub returns-then-sent-permanent-clause-none : goal.returns-then-sent-permanent-clause-none
returns-then-sent-permanent-clause-none c = λ rows h link.
    let step = step_of rows 0 Rollback c.args.from c.args.msg c.args.to h.control.legal (c.args.to, link, refl) in
    let same = some_same (sym (c.in-Some.ensures.found rows h) ∙ kept_places rows c.args.from c.args.msg c.args.to h.control.legal step) in
    let at = some_same (ap (λ (t : Trace). t.sent) same) in
    let from = c.permanent.ensures rows h in
    let low = ap (past rows).permanent step.leads.0 in
    absurd (omega (arith, c.if-sent-permanent.true, at, from, low, step.late))
