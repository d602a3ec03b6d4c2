use Rattle.std.proofs.Common.{◌∙◌, ℕ, Option, None, unwrap_or, length, refl, sym, ap, arith}
use Rattle.kt_base.specs.declared.words.Kind.{Kind}
use Rattle.kt_meaning.specs.Past.{past}
use Rattle.kt_meaning.specs.Linking.{least_link}
use Rattle.kt_certify.proofs.Walked.{by_checkpoint, by_rollback}
use Rattle.kt_certify.proofs.chains.link.Goals as goal

pub returns-else-not-may_link : goal.returns-else-not-may_link
returns-else-not-may_link c = λ rows h.
    by_checkpoint c.args.walk.now rows c.args.inst c.args.p c.args.q c.permanent.result c.unwrap_or-bound.result c.link.result h (omega (arith, c.get-p.ensures.value, c.get-p.ensures.in_range)) (omega (arith, c.get-q.ensures.value, c.get-q.ensures.in_range)) (c.permanent.ensures rows h)
    (c.unwrap_or-bound.ensures ∙ ap (λ (o : Option ℕ). unwrap_or o 0) (c.position.ensures rows h)) (c.link.ensures rows h)
    ∙ ap (λ (x : Kind). least_link (past rows) c.args.inst x c.args.p c.args.q) (sym c.in-Checkpoint.is)

pub returns-else-not-may_link-2 : goal.returns-else-not-may_link-2
returns-else-not-may_link-2 c = λ rows h.
    by_rollback c.args.walk.now rows c.args.inst c.args.p c.args.q c.permanent-in-Rollback.result c.length.result c.link-in-Rollback.result h (omega (arith, c.get-p.ensures.value, c.get-p.ensures.in_range)) (omega (arith, c.get-q.ensures.value, c.get-q.ensures.in_range)) (c.permanent-in-Rollback.ensures rows h)
    (c.length.ensures rows h) (c.link-in-Rollback.ensures rows h)
    ∙ ap (λ (x : Kind). least_link (past rows) c.args.inst x c.args.p c.args.q) (sym c.in-Rollback.is)

pub returns-then-not-may_link : goal.returns-then-not-may_link
returns-then-not-may_link c = λ rows h.
    let sent = (past rows).permanent c.args.p in
    let bound = unwrap_or ((past rows).new c.args.inst c.args.q) 0 in
    by_checkpoint c.args.walk.now rows c.args.inst c.args.p c.args.q sent bound None h (omega (arith, c.get-p.ensures.value, c.get-p.ensures.in_range)) (omega (arith, c.get-q.ensures.value, c.get-q.ensures.in_range)) refl refl
    (c.may_link.ensures c.if-not-may_link.true sent bound)
    ∙ ap (λ (x : Kind). least_link (past rows) c.args.inst x c.args.p c.args.q) (sym c.in-Checkpoint.is)

pub returns-then-not-may_link-2 : goal.returns-then-not-may_link-2
returns-then-not-may_link-2 c = λ rows h.
    let sent = (past rows).permanent c.args.q in
    let bound = length ((past rows).live c.args.p) in
    by_rollback c.args.walk.now rows c.args.inst c.args.p c.args.q sent bound None h (omega (arith, c.get-p.ensures.value, c.get-p.ensures.in_range)) (omega (arith, c.get-q.ensures.value, c.get-q.ensures.in_range)) refl refl
    (c.may_link-in-Rollback.ensures c.if-not-may_link-2.true sent bound)
    ∙ ap (λ (x : Kind). least_link (past rows) c.args.inst x c.args.p c.args.q) (sym c.in-Rollback.is)
