use Rattle.std.proofs.Common.{sym}
use Rattle.kt_certify.proofs.Fit.{broken_still}
use Rattle.kt_certify.proofs.pass.Pass.feed.Goals as goal

pub returns-then-is_broken : goal.returns-then-is_broken
returns-then-is_broken c = λ rows h. broken_still c.args.self.now rows c.args.row.now h (sym c.if-is_broken.ensures)
