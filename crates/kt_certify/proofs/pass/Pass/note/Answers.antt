use Rattle.std.proofs.Common.{◌≡◌, true}
use Rattle.kt_meaning.specs.Decisions.{is_commit}
use Rattle.kt_certify.proofs.Rows.{entered_more}
use Rattle.kt_certify.proofs.pass.Pass.note.Goals as goal

pub returns-in-Ok : goal.returns-in-Ok
returns-in-Ok c = λ rows none legal h.
    let row = c.args.row.now in
    let never = λ (e : is_commit row ≡ true). absurd (cc) in
    entered_more rows row c.args.self.now.instances.items c.enter.new.instances.items legal (c.in-Ok.ensures.entered rows never) h
