use Rattle.std.proofs.Common.{◌∙◌, Some, ap, sym, inl, inr}
use Rattle.std.specs.Option.{option_map}
use Rattle.kt_picture.specs.Followed.{message_taken}
use Rattle.kt_picture.proofs.FollowedFacts.{taken_in}
use Rattle.kt_picture.proofs.entry.taken_by.Goals.{in-Received, in-Received-2}
use Rattle.kt_picture.proofs.entry.taken_by.Goals as goal

pub returns-in_err-trace-in-Received : goal.returns-in_err-trace-in-Received
returns-in_err-trace-in-Received c = λ rows h unbroken.
    let none = c.from_residual.ensures ∙ ap (option_map (λ t. record { msg = _; trace = t })) (c.in_err-trace-in-Received.ensures rows h) in
    elim c.in-Received-1.branch [
      | in-Received w ↦ taken_in rows c.args.row.now _ _ h.control.legal unbroken (elim w.in-Received.is [ inl e ↦ ap message_taken e.2 | inr e ↦ ap message_taken e.2 ] ∙ ap Some (sym w.msg-is)) none
      | in-Received-2 w ↦ taken_in rows c.args.row.now _ _ h.control.legal unbroken (elim w.in-Received.is [ inl e ↦ ap message_taken e.2 | inr e ↦ ap message_taken e.2 ] ∙ ap Some (sym w.msg-is)) none
    ]

pub returns-in_ok-trace-in-Received : goal.returns-in_ok-trace-in-Received
returns-in_ok-trace-in-Received c = λ rows h unbroken.
    let kept = ap (option_map (λ t. record { msg = _; trace = t })) (c.in_ok-trace-in-Received.ensures rows h) in
    elim c.in-Received-1.branch [
      | in-Received w ↦ taken_in rows c.args.row.now _ _ h.control.legal unbroken (elim w.in-Received.is [ inl e ↦ ap message_taken e.2 | inr e ↦ ap message_taken e.2 ] ∙ ap Some (sym w.msg-is)) kept
      | in-Received-2 w ↦ taken_in rows c.args.row.now _ _ h.control.legal unbroken (elim w.in-Received.is [ inl e ↦ ap message_taken e.2 | inr e ↦ ap message_taken e.2 ] ∙ ap Some (sym w.msg-is)) kept
    ]
