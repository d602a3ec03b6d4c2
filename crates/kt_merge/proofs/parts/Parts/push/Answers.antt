use Rattle.std.proofs.Common.{arith, ◌≡◌, ◌∙◌, length, ap, subst, sym}
use Rattle.kt_merge.specs.Reading.{part_unread}
use Rattle.kt_merge.specs.Merging.{ArePartsUnread}
use Rattle.kt_merge.proofs.PartFacts.{unread_push}
use Rattle.kt_merge.proofs.parts.Parts.push.Goals as goal

pub returns-clause-unread : goal.returns-clause-unread
returns-clause-unread g c = λ all.
    let parts = c.self.inside.readers.items in
    let process : c.nth-process.result ≡ length parts = omega (arith, c.nth-process.ensures, c.len.ensures) in
    let unread : c.in_ok-part.part ≡ part_unread (length parts) (g.R.Read.remaining c.args.reader) = c.in_ok-part.ensures ∙ ap (λ q. part_unread q (g.R.Read.remaining c.args.reader)) process in
    rw c.in_ok-push.ensures.items (unread_push parts c.in_ok-part.part (g.R.Read.remaining c.args.reader) (subst ArePartsUnread (sym c.self.view_is) all) unread)
