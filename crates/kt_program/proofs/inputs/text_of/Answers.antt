use Rattle.std.proofs.Common.{rules, List, ℕ, sym, subst}
use Rattle.std.specs.Io.KnownBytes.{Consumes}
use Rattle.std.proofs.KnownBytes.{Consumes-trans}
use Rattle.kt_program.proofs.Reading.{read_whole, read_long}
use Rattle.kt_program.proofs.inputs.text_of.Goals as goal
use Rattle.kt_program.proofs.inputs.text_of.Goals.{then-branch-via-then-branch, then-branch-via-else-branch+then-len-most}

pub returns-then-branch-clause-text : goal.returns-then-branch-clause-text
returns-then-branch-clause-text g c =
    let remaining = g.R.Read.remaining in
    let old = remaining c.args.input.now.source in
    let new = remaining c.read_piece.new.input.source in
    let text = c.read_piece.new.text.items in
    let piece = c.in_ok-read_piece.ensures.piece in
    let all = subst (λ (t : List ℕ). Consumes old new t) (sym {A = List ℕ} piece.1) (Consumes-trans old (remaining c.loop-read.input.source) new c.loop-read.text.items piece.0 c.loop-read.invariant piece.2) in
    elim c.then-branch.branch [
      | then-branch-via-then-branch w ↦ read_whole c.args.most old new text all (c.in_ok-read_piece.ensures.end (search rules))
      | then-branch-via-else-branch+then-len-most w ↦ read_long c.args.most old new text all (search rules)
    ]
