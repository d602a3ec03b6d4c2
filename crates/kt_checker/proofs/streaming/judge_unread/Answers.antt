use Rattle.std.proofs.Common.{◌∙◌, Option, sym, subst}
use Rattle.std.proofs.lemmas.Result.{err_from_is_err_and}
use Rattle.kt_log_text.proofs.GatherFacts.{gathered_to_fault, at_end}
use Rattle.kt_spacetime.specs.declared.verdict.Verdict.{Verdict}
use Rattle.kt_checker.proofs.FirstPlaces.{none_of, some_of}
use Rattle.kt_checker.proofs.RowByRow.{HasSeen, seen_none, seen_few, seen_fed, seen_on, bad_answer, legal_answer}
use Rattle.kt_checker.proofs.streaming.judge_unread.Goals as goal

pub loop-row-init : goal.loop-row-init
loop-row-init g c = λ source e. seen_none source c.args.rows.now c.args.judge.now c.args.certificates.now e c.requires.none_seen

pub returns-in_err-row-clause-fault : goal.returns-in_err-row-clause-fault
returns-in_err-row-clause-fault g c = λ source e.
    let p = err_from_is_err_and c.from_residual.result c.from_residual.ensures.1 in
    let seen = c.loop-row.invariant source e in
    rw (p.1, p.2)
    (gathered_to_fault source c.loop-row.rows c.next.new.self seen.seen c.in_err-row.field-0.0 seen.gathers c.in_err-row.ensures.steps)

pub feed_row-requires : goal.feed_row-requires
feed_row-requires g c =
    let none = none_of c.loop-row.broken c.if-is_none.ensures in
    let source = c.requires.unread.0 in
    let seen = subst (λ (o : Option Verdict). HasSeen source c.loop-row.rows c.loop-row.judge c.args.certificates.now o) none (c.loop-row.invariant source c.requires.unread.1) in
    record { few = seen_few c.loop-row.rows c.next.new.self c.loop-row.judge c.in-Some.row seen (rw c.in-Some.is at c.in_ok-row.ensures.steps) }

pub loop-row-preserved-in-Some-2 : goal.loop-row-preserved-in-Some-2
loop-row-preserved-in-Some-2 g c = λ source e.
    let none = none_of c.loop-row.broken c.if-is_none.ensures in
    let seen = subst (λ (o : Option Verdict). HasSeen source c.loop-row.rows c.loop-row.judge c.args.certificates.now o) none (c.loop-row.invariant source e) in
    subst (λ (o : Option Verdict). HasSeen source c.next.new.self c.feed_row.new.judge c.args.certificates.now o) c.in-Some-2.is
    (seen_fed c.loop-row.rows c.next.new.self c.loop-row.judge c.feed_row.new.judge c.args.certificates.now c.in_ok-answer.field-0 c.in-Some.row seen (rw c.in-Some.is at c.in_ok-row.ensures.steps) c.in_ok-answer.ensures.fed c.in_ok-answer.ensures.bad)

pub loop-row-preserved-in_default-2 : goal.loop-row-preserved-in_default-2
loop-row-preserved-in_default-2 g c = λ source e.
    let none = none_of c.loop-row.broken c.if-is_none.ensures in
    let seen = subst (λ (o : Option Verdict). HasSeen source c.loop-row.rows c.loop-row.judge c.args.certificates.now o) none (c.loop-row.invariant source e) in
    subst (λ (o : Option Verdict). HasSeen source c.next.new.self c.feed_row.new.judge c.args.certificates.now o) (c.in_default-2.is ∙ sym none)
    (seen_fed c.loop-row.rows c.next.new.self c.loop-row.judge c.feed_row.new.judge c.args.certificates.now c.in_ok-answer.field-0 c.in-Some.row seen (rw c.in-Some.is at c.in_ok-row.ensures.steps) c.in_ok-answer.ensures.fed c.in_ok-answer.ensures.bad)

pub loop-row-preserved : goal.loop-row-preserved
loop-row-preserved g c = λ source e.
    seen_on c.loop-row.rows c.next.new.self c.loop-row.judge c.args.certificates.now c.loop-row.broken c.in-Some.row (c.loop-row.invariant source e) (rw c.in-Some.is at c.in_ok-row.ensures.steps)
    (λ none. some_of c.loop-row.broken c.if-is_none.ensures none)

pub returns-in-Some-broken-clause-answer : goal.returns-in-Some-broken-clause-answer
returns-in-Some-broken-clause-answer g c = λ source e.
    let seen = subst (λ (o : Option Verdict). HasSeen source c.loop-row.rows c.loop-row.judge c.args.certificates.now o) c.in-Some-broken.is (c.loop-row.invariant source e) in
    bad_answer c.loop-row.rows c.next.new.self c.loop-row.judge c.args.certificates.now _ seen (at_end c.in_ok-row.field-0 c.in_default.not-Some c.in_ok-row.ensures.steps)

pub returns-in_ok-verdict-in-None-clause-answer : goal.returns-in_ok-verdict-in-None-clause-answer
returns-in_ok-verdict-in-None-clause-answer g c = λ source e.
    let seen = subst (λ (o : Option Verdict). HasSeen source c.loop-row.rows c.loop-row.judge c.args.certificates.now o) c.in-None.is (c.loop-row.invariant source e) in
    legal_answer c.loop-row.rows c.next.new.self c.loop-row.judge c.args.certificates.now _ seen (at_end c.in_ok-row.field-0 c.in_default.not-Some c.in_ok-row.ensures.steps)
    (λ rows h. c.in_ok-verdict-in-None.ensures rows h.walk.control.legal h.gathered)

pub returns-in_err-row-clause-met : goal.returns-in_err-row-clause-met
returns-in_err-row-clause-met g c =
    let p = err_from_is_err_and c.from_residual.result c.from_residual.ensures.1 in
    rw (p.1, p.2) (λ other. c.in_err-row.ensures.steps.kept)
