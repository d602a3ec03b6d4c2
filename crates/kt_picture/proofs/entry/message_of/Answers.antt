use Rattle.std.proofs.Common.{◌++◌, ◌∷◌, [], ℕ, Option, Some, None, refl, sym, subst}
use Rattle.kt_meaning.proofs.LegalLogs.{legal_last}
use Rattle.kt_picture.specs.Followed.{IsFollowedAs, message_taken}
use Rattle.kt_picture.proofs.FollowedFacts.{sent_as, unsent_in}
use Rattle.kt_picture.proofs.entry.message_of.Goals as goal

pub returns-in-Sent : goal.returns-in-Sent
returns-in-Sent c = λ rows h next taken.
    let row = c.args.row.now in
    let p = c.in-Sent.from in
    let to = c.in-Sent.to in
    sent_as rows row p to c.args.number c.in-Sent.body _ (legal_last rows row h.control.legal).0 c.in-Sent.is next refl
    (λ j. record { from = p; to = to; sent = Some (c.length.ensures (rows ++ row ∷ []) h j); received = None })

pub returns-in_default : goal.returns-in_default
returns-in_default c = λ rows h next taken.
    let row = c.args.row.now in
    subst (λ (o : Option ℕ). IsFollowedAs (rows ++ row ∷ []) o c.followed.result) (sym (unsent_in c.args.number row c.in_default.not-Sent)) (c.followed.ensures rows (message_taken row) h taken)
