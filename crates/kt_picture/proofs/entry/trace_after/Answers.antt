use Rattle.std.proofs.Common.{◌≡◌, ◌∙◌, ℕ, Bool, Some, ap, cond, sym}
use Rattle.kt_picture.specs.Fates.{receives}
use Rattle.kt_picture.specs.Followed.{if_within}
use Rattle.kt_picture.proofs.entry.trace_after.Goals.{then-receives, else-receives}
use Rattle.kt_picture.proofs.entry.trace_after.Goals as goal

pub returns : goal.returns
returns c = λ rows h.
    let t = c.args.trace in
    let n = c.length-length.result in
    let test = receives c.args.msg c.args.row.now in
    let sent = c.if_within.ensures ∙ ap (if_within t.sent) (c.length.ensures rows h) in
    let found : c.if-receives.received ≡ cond test (Some n) (if_within t.received n) = elim c.if-receives.branch [
      | then-receives w ↦ w.received-is ∙ ap (λ (b : Bool). cond b (Some n) (if_within t.received n)) (sym w.if-receives.true ∙ c.receives.ensures)
      | else-receives w ↦ w.received-is ∙ w.if_within-received.ensures ∙ ap (λ (b : Bool). cond b (Some n) (if_within t.received n)) (sym w.if-receives.false ∙ c.receives.ensures)
    ] in
    let received = found ∙ ap (λ (k : ℕ). cond test (Some k) (if_within t.received k)) (c.length-length.ensures rows h) in
    λ j. record { from = t.from; to = t.to; sent = sent j; received = received j }
