use Rattle.std.proofs.Common.{◌≡◌, ℕ, List, length, take, refl, sym, ap, subst, arith}
use Rattle.std.proofs.lemmas.List.{take_all}
use Rattle.kt_spacetime.specs.declared.event.Event.{Event}
use Rattle.kt_histories.specs.declared.histories.Histories.{Histories}
use Rattle.kt_histories.specs.HistoriesOf.{HistoriesOf}
use Rattle.kt_spacetime.specs.declared.certificate.Certificate.{Certificate}
use Rattle.kt_explain.specs.declared.judged.Judged.{Judged}
use Rattle.kt_explain.specs.Judged.{IsJudgedSo}
use Rattle.kt_explain.proofs.judged.at_end.Goals as goal

-- the histories of all rows
all_rows : (rows log : List Event) (n : ℕ) (h : Histories) → rows ≡ log → n ≡ length rows → HistoriesOf h (take n log) → HistoriesOf h rows
all_rows rows log n h same count known =
    subst (HistoriesOf h) (sym same) (subst (HistoriesOf h) (take_all n log (omega (arith, count, ap length same))) known)

-- what is told of the rows is told of the log that has them
of_log : (rows log : List Event) (certificates : List Certificate) (j : Judged) → rows ≡ log → IsJudgedSo rows certificates j → IsJudgedSo log certificates j
of_log rows log certificates j same h = subst (λ (list : List Event). IsJudgedSo list certificates j) same h

pub open_instances-requires : goal.open_instances-requires
open_instances-requires c = record { histories = all_rows c.rows-rows.result.now c.args.log.now.rows _ c.in_ok-histories.histories c.rows-rows.ensures.rows refl c.in_ok-histories.ensures }

pub in_transit-transit-requires-clause-histories : goal.in_transit-transit-requires-clause-histories
in_transit-transit-requires-clause-histories c = all_rows c.rows-rows.result.now c.args.log.now.rows _ c.in_ok-histories.histories c.rows-rows.ensures.rows refl c.in_ok-histories.ensures

pub returns : goal.returns
returns c =
    let rows = c.rows-rows.result.now in
    let h = all_rows rows c.args.log.now.rows _ c.in_ok-histories.histories c.rows-rows.ensures.rows refl c.in_ok-histories.ensures in
    of_log rows c.args.log.now.rows c.args.certificates.now _ c.rows-rows.ensures.rows (record {
      rows_are = refl;
      instances_are = c.begun_in.ensures.begun;
      checkpoints = c.decided_by.ensures;
      rollbacks = c.decided_by-2.ensures;
      left = record {
        instances = c.in_ok-open.ensures;
        in_transit = c.in_transit-transit.ensures.count;
        receivers = c.in_transit-transit.ensures.receivers;
        down = λ p low. c.down.ensures rows p h low;
        dropped = c.dropped.ensures;
      };
    })
