use Rattle.std.proofs.Common.{rules, ◌≡◌, Option, Some, subst}
use Rattle.kt_picture.specs.declared.entry.Message.{Message}
use Rattle.kt_picture.specs.Followed.{IsFollowedAs}
use Rattle.kt_picture.proofs.FollowedFacts.{followed_more}
use Rattle.kt_picture.proofs.entry.followed.Goals as goal

pub returns : goal.returns
returns c = λ rows wanted h f.
    let m = c.in_ok-message.message in
    let is : c.args.message ≡ Some m = search rules in
    followed_more rows c.args.row.now wanted m c.trace_after-trace.result h.control.legal (subst (λ (o : Option Message). IsFollowedAs rows wanted o) is f) (c.trace_after-trace.ensures _ h)
