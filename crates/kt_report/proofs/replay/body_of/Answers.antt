use Rattle.std.proofs.Common.{rules, ◌∙◌, sym, refl, length}
use Rattle.std.specs.Prelude.{FitsSigned}
use Rattle.std.specs.Int.{w64}
use Rattle.std.proofs.lemmas.Int.{to_z-of_z}
use Rattle.std.proofs.lemmas.Option.{slice_get_read, slice_get_past}
use Rattle.kt_meaning.proofs.Items.{some_same}
use Rattle.kt_report.proofs.MessageFacts.{sent_before}
use Rattle.kt_report.proofs.replay.body_of.Goals as goal

pub returns-in-Some : goal.returns-in-Some
returns-in-Some c = λ p from legal.
    let rows = c.args.rows.now in
    let i = c.index.result in
    let there = slice_get_read rows (length rows) i c.in-Some.row.now refl c.in-Some.ensures.lookup.3.0 c.in-Some.ensures.lookup.1 in
    let sent = sent_before rows p from c.args.msg i c.index.ensures.value legal in
    let body : FitsSigned w64 c.body_in.result = search rules in
    to_z-of_z w64 c.body_in.result body ∙ c.body_in.ensures from p sent.0 (some_same (sym there ∙ sent.1)) ∙ sym sent.2

pub returns-in-None : goal.returns-in-None
returns-in-None c = λ p from legal.
    let rows = c.args.rows.now in
    let i = c.index.result in
    let sent = sent_before rows p from c.args.msg i c.index.ensures.value legal in
    absurd (cc (sent.1, slice_get_past rows i c.in-None.ensures.lookup.3))
