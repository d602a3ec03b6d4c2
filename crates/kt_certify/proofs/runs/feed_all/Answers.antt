use Rattle.std.proofs.Common.{◌+◌, take, refl, subst, arith, length-take}
use Rattle.std.proofs.lemmas.List.{take_all}
use Rattle.kt_meaning.specs.Legal.{IsLegal}
use Rattle.kt_meaning.proofs.Items.{take_item}
use Rattle.kt_meaning.proofs.LegalLogs.{legal_take}
use Rattle.kt_rules.proofs.Replayed.{row_read}
use Rattle.kt_certify.specs.Instances.{AreInstancesOf}
use Rattle.kt_certify.proofs.runs.feed_all.Goals as goal

pub feed_legal-requires : goal.feed_legal-requires
feed_legal-requires c =
    let rows = c.args.rows.now in
    let i = c.loop-row.row-index in
    omega (arith, c.loop-row.invariant.walk.control.number, length-take i rows, c.loop-row-test.true, c.requires.few)

pub loop-row-preserved : goal.loop-row-preserved
loop-row-preserved c =
    let rows = c.args.rows.now in
    let i = c.loop-row.row-index in
    let at = row_read rows i c.row-item.result c.loop-row-test.true c.row-item.is in
    let more = take_item rows i (i + 1) c.row-item.result refl at in
    let legal = subst IsLegal more (legal_take (i + 1) rows c.requires.legal) in
    let before = c.loop-row.invariant in
    record {
      walk = rw more (c.in_ok-feed_legal.ensures.walk (take i rows) legal before.walk);
      instances = rw more (c.in_ok-feed_legal.ensures.instances (take i rows) legal before.walk before.instances);
    }

pub returns : goal.returns
returns c =
    let all = take_all c.loop-row.row-index c.args.rows.now c.loop-row-test.false in
    subst (λ rows. AreInstancesOf rows c.loop-row.pass.instances.items) all c.loop-row.invariant.instances
