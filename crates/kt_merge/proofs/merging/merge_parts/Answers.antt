use Rattle.std.proofs.Common.{rules}
use Rattle.std.proofs.lemmas.Result.{err_from_is_err_and}
use Rattle.kt_merge.specs.declared.fault.MergeFault.TheVariants as merge
use Rattle.kt_merge.proofs.MergingFacts.{stops_before, stops_merge}
use Rattle.kt_merge.proofs.merging.merge_parts.Goals as goal

pub returns-in_err-numbers-clause-stopped : goal.returns-in_err-numbers-clause-stopped
returns-in_err-numbers-clause-stopped g c =
    let p = err_from_is_err_and c.from_residual.result c.from_residual.ensures.1 in
    rw (p.1, p.2) (stops_before c.args.parts.now (g.W.Write.contents c.args.writer.now) merge.Memory c.requires.unread tt).0

pub returns-in_err-numbers-clause-unread : goal.returns-in_err-numbers-clause-unread
returns-in_err-numbers-clause-unread g c =
    let p = err_from_is_err_and c.from_residual.result c.from_residual.ensures.1 in
    rw (p.1, p.2) (stops_before c.args.parts.now (g.W.Write.contents c.args.writer.now) merge.Memory c.requires.unread tt)

pub returns-in_err-text-clause-stopped : goal.returns-in_err-text-clause-stopped
returns-in_err-text-clause-stopped g c =
    let p = err_from_is_err_and c.from_residual-in_err-text.result c.from_residual-in_err-text.ensures.1 in
    rw (p.1, p.2) (stops_before c.args.parts.now (g.W.Write.contents c.args.writer.now) merge.Memory c.requires.unread tt).0

pub returns-in_err-text-clause-unread : goal.returns-in_err-text-clause-unread
returns-in_err-text-clause-unread g c =
    let p = err_from_is_err_and c.from_residual-in_err-text.result c.from_residual-in_err-text.ensures.1 in
    rw (p.1, p.2) (stops_before c.args.parts.now (g.W.Write.contents c.args.writer.now) merge.Memory c.requires.unread tt)

pub returns-in_err-push_header-clause-stopped : goal.returns-in_err-push_header-clause-stopped
returns-in_err-push_header-clause-stopped g c =
    let p = err_from_is_err_and c.from_residual-in_err-push_header.result c.from_residual-in_err-push_header.ensures.1 in
    rw (p.1, p.2) (stops_before c.args.parts.now (g.W.Write.contents c.args.writer.now) merge.Memory c.requires.unread tt).0

pub returns-in_err-push_header-clause-unread : goal.returns-in_err-push_header-clause-unread
returns-in_err-push_header-clause-unread g c =
    let p = err_from_is_err_and c.from_residual-in_err-push_header.result c.from_residual-in_err-push_header.ensures.1 in
    rw (p.1, p.2) (stops_before c.args.parts.now (g.W.Write.contents c.args.writer.now) merge.Memory c.requires.unread tt)

pub returns-clause-stopped : goal.returns-clause-stopped
returns-clause-stopped g c = search (rules, stops_merge)

pub returns-in_err-numbers-clause-met : goal.returns-in_err-numbers-clause-met
returns-in_err-numbers-clause-met g c =
    let p = err_from_is_err_and c.from_residual.result c.from_residual.ensures.1 in
    rw (p.1, p.2) tt

pub returns-in_err-text-clause-met : goal.returns-in_err-text-clause-met
returns-in_err-text-clause-met g c =
    let p = err_from_is_err_and c.from_residual-in_err-text.result c.from_residual-in_err-text.ensures.1 in
    rw (p.1, p.2) tt

pub returns-in_err-push_header-clause-met : goal.returns-in_err-push_header-clause-met
returns-in_err-push_header-clause-met g c =
    let p = err_from_is_err_and c.from_residual-in_err-push_header.result c.from_residual-in_err-push_header.ensures.1 in
    rw (p.1, p.2) tt
