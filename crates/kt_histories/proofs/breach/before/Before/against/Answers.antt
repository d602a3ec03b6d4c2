use Rattle.std.proofs.Common.{◌≡◌, ◌∙◌, Bool, false, Option, Some, None, refl, sym, ap, subst, arith}
use Rattle.std.specs.Prelude.{not, is_some}
use Rattle.kt_histories.specs.declared.breach.Breach.TheVariants as breach
use Rattle.kt_histories.specs.declared.breach.demands.Demand.TheVariants.{OtherPeer, OtherCause, Down, Decided}
use Rattle.kt_histories.specs.declared.breach.demands.Demand.{Demand}
use Rattle.kt_histories.specs.Breaches.{IsJudged, IsJudgedOf}
use Rattle.kt_histories.specs.Demands.{IsBetween, IsBusyFor, IsDemandOn, asks}
use Rattle.kt_histories.proofs.Demands.{judged_by, judged_on, on_row}
use Rattle.kt_histories.proofs.breach.before.Before.against.Goals as goal

none_of : (o : Option Bool) → is_some o ≡ false → o ≡ None
none_of None e = refl
none_of (Some x) e = absurd (cc)

pub returns-in-Never : goal.returns-in-Never
returns-in-Never c = λ row on.
    let never = subst (IsDemandOn row) c.in-Never.is on in
    subst (λ (d : Demand). IsJudgedOf c.args.self.now.rows.now row (asks d) (Some breach.NoCause)) (sym c.in-Never.is)
    (record { so = never; against = λ log legal so. refl })

pub returns-in-OtherPeer : goal.returns-in-OtherPeer
returns-in-OtherPeer c = λ row on.
    let rows = c.args.self.now.rows.now in
    let p = c.in-OtherPeer.p in
    let peer = c.in-OtherPeer.peer in
    let between = subst (IsDemandOn row) c.in-OtherPeer.is on in
    subst (λ (d : Demand). IsJudgedOf rows row (asks d) c.then_some.result) (sym c.in-OtherPeer.is)
    (judged_on rows row (asks (OtherPeer p peer)) (breach.OwnPeer p) c.eq.result c.then_some.result c.then_some.ensures
    (λ e. let same : peer ≡ p = grind (arith, sym c.eq.ensures ∙ e) in
    record { so = subst (IsBetween row p) same between; against = λ log legal so. ap not (sym c.eq.ensures ∙ e) })
    (λ e. ap not (sym c.eq.ensures ∙ e)))

pub returns-in-OtherCause : goal.returns-in-OtherCause
returns-in-OtherCause c = λ row on.
    let rows = c.args.self.now.rows.now in
    let k = c.in-OtherCause.inst in
    let cause = c.in-OtherCause.cause in
    let busy = subst (IsDemandOn row) c.in-OtherCause.is on in
    let is_same = c.eq-in-OtherCause.ensures in
    subst (λ (d : Demand). IsJudgedOf rows row (asks d) c.then_some-in-OtherCause.result) (sym c.in-OtherCause.is)
    (judged_on rows row (asks (OtherCause k cause)) (breach.OwnCause k) c.eq-in-OtherCause.result c.then_some-in-OtherCause.result c.then_some-in-OtherCause.ensures
    (λ e. let same : cause ≡ k = grind (arith, sym is_same ∙ e) in
    record { so = subst (IsBusyFor row k) same busy; against = λ log legal so. ap not (sym is_same ∙ e) })
    (λ e. ap not (sym is_same ∙ e)))

pub returns-in-Next : goal.returns-in-Next
returns-in-Next c = λ row on. on_row c.args.self.now.rows.now row (asks c.args.demand.now) c.next.result
    (subst (λ (d : Demand). IsJudged c.args.self.now.rows.now (asks d) c.next.result) (sym c.in-Next.is) c.next.ensures)

pub returns-in-Begun : goal.returns-in-Begun
returns-in-Begun c = λ row on. on_row c.args.self.now.rows.now row (asks c.args.demand.now) c.begun.result
    (subst (λ (d : Demand). IsJudged c.args.self.now.rows.now (asks d) c.begun.result) (sym c.in-Begun.is) c.begun.ensures)

pub returns-in-Sent : goal.returns-in-Sent
returns-in-Sent c = λ row on. on_row c.args.self.now.rows.now row (asks c.args.demand.now) c.sent.result
    (subst (λ (d : Demand). IsJudged c.args.self.now.rows.now (asks d) c.sent.result) (sym c.in-Sent.is) c.sent.ensures)

pub returns-in-NotReceived : goal.returns-in-NotReceived
returns-in-NotReceived c = λ row on. on_row c.args.self.now.rows.now row (asks c.args.demand.now) c.not_received.result
    (subst (λ (d : Demand). IsJudged c.args.self.now.rows.now (asks d) c.not_received.result) (sym c.in-NotReceived.is) c.not_received.ensures)

pub returns-in-NotDropped : goal.returns-in-NotDropped
returns-in-NotDropped c = λ row on. on_row c.args.self.now.rows.now row (asks c.args.demand.now) c.not_dropped.result
    (subst (λ (d : Demand). IsJudged c.args.self.now.rows.now (asks d) c.not_dropped.result) (sym c.in-NotDropped.is) c.not_dropped.ensures)

pub returns-in-AfterReceived : goal.returns-in-AfterReceived
returns-in-AfterReceived c = λ row on. on_row c.args.self.now.rows.now row (asks c.args.demand.now) c.after_received.result
    (subst (λ (d : Demand). IsJudged c.args.self.now.rows.now (asks d) c.after_received.result) (sym c.in-AfterReceived.is) c.after_received.ensures)

pub returns-in-AfterDropped : goal.returns-in-AfterDropped
returns-in-AfterDropped c = λ row on. on_row c.args.self.now.rows.now row (asks c.args.demand.now) c.after_dropped.result
    (subst (λ (d : Demand). IsJudged c.args.self.now.rows.now (asks d) c.after_dropped.result) (sym c.in-AfterDropped.is) c.after_dropped.ensures)

pub returns-in-Up : goal.returns-in-Up
returns-in-Up c = λ row on. on_row c.args.self.now.rows.now row (asks c.args.demand.now) c.up.result
    (subst (λ (d : Demand). IsJudged c.args.self.now.rows.now (asks d) c.up.result) (sym c.in-Up.is) c.up.ensures)

pub returns-in-Down : goal.returns-in-Down
returns-in-Down c = λ row on.
    let rows = c.args.self.now.rows.now in
    let up = c.is_up.ensures rows c.requires.before.histories in
    on_row rows row (asks c.args.demand.now) c.then_some-in-Down.result
    (subst (λ (d : Demand). IsJudged rows (asks d) c.then_some-in-Down.result) (sym c.in-Down.is)
    (judged_by rows (asks (Down c.in-Down.p)) (breach.Up c.in-Down.p) c.is_up.result c.then_some-in-Down.result c.then_some-in-Down.ensures
    (λ e. record { so = sym up ∙ e; against = λ log legal so. ap not so })
    (λ e. ap not (sym up ∙ e))))

pub returns-in-Idle : goal.returns-in-Idle
returns-in-Idle c = λ row on. on_row c.args.self.now.rows.now row (asks c.args.demand.now) c.idle.result
    (subst (λ (d : Demand). IsJudged c.args.self.now.rows.now (asks d) c.idle.result) (sym c.in-Idle.is) c.idle.ensures)

pub returns-in-NotRolling : goal.returns-in-NotRolling
returns-in-NotRolling c = λ row on. on_row c.args.self.now.rows.now row (asks c.args.demand.now) c.not_rolling.result
    (subst (λ (d : Demand). IsJudged c.args.self.now.rows.now (asks d) c.not_rolling.result) (sym c.in-NotRolling.is) c.not_rolling.ensures)

pub returns-in-Inside : goal.returns-in-Inside
returns-in-Inside c = λ row on. on_row c.args.self.now.rows.now row (asks c.args.demand.now) c.inside.result
    (subst (λ (d : Demand). IsJudged c.args.self.now.rows.now (asks d) c.inside.result) (sym c.in-Inside.is) c.inside.ensures)

pub returns-in-NotInside : goal.returns-in-NotInside
returns-in-NotInside c = λ row on. on_row c.args.self.now.rows.now row (asks c.args.demand.now) c.not_member.result
    (subst (λ (d : Demand). IsJudged c.args.self.now.rows.now (asks d) c.not_member.result) (sym c.in-NotInside.is) c.not_member.ensures)

pub returns-in-NotJoined : goal.returns-in-NotJoined
returns-in-NotJoined c = λ row on. on_row c.args.self.now.rows.now row (asks c.args.demand.now) c.not_joined.result
    (subst (λ (d : Demand). IsJudged c.args.self.now.rows.now (asks d) c.not_joined.result) (sym c.in-NotJoined.is) c.not_joined.ensures)

pub returns-in-Follows : goal.returns-in-Follows
returns-in-Follows c = λ row on. on_row c.args.self.now.rows.now row (asks c.args.demand.now) c.follows.result
    (subst (λ (d : Demand). IsJudged c.args.self.now.rows.now (asks d) c.follows.result) (sym c.in-Follows.is) c.follows.ensures)

pub returns-in-OfKind : goal.returns-in-OfKind
returns-in-OfKind c = λ row on. on_row c.args.self.now.rows.now row (asks c.args.demand.now) c.of_kind.result
    (subst (λ (d : Demand). IsJudged c.args.self.now.rows.now (asks d) c.of_kind.result) (sym c.in-OfKind.is) c.of_kind.ensures)

pub returns-in-Initiator : goal.returns-in-Initiator
returns-in-Initiator c = λ row on. on_row c.args.self.now.rows.now row (asks c.args.demand.now) c.initiator.result
    (subst (λ (d : Demand). IsJudged c.args.self.now.rows.now (asks d) c.initiator.result) (sym c.in-Initiator.is) c.initiator.ensures)

pub returns-in-Undecided : goal.returns-in-Undecided
returns-in-Undecided c = λ row on. on_row c.args.self.now.rows.now row (asks c.args.demand.now) c.undecided.result
    (subst (λ (d : Demand). IsJudged c.args.self.now.rows.now (asks d) c.undecided.result) (sym c.in-Undecided.is) c.undecided.ensures)

pub returns-in-Decided : goal.returns-in-Decided
returns-in-Decided c = λ row on.
    let rows = c.args.self.now.rows.now in
    let decision = c.decision.ensures rows c.requires.before.histories in
    on_row rows row (asks c.args.demand.now) c.then_some-in-Decided.result
    (subst (λ (d : Demand). IsJudged rows (asks d) c.then_some-in-Decided.result) (sym c.in-Decided.is)
    (judged_by rows (asks (Decided c.in-Decided.inst)) (breach.Undecided c.in-Decided.inst) c.is_none.result c.then_some-in-Decided.result c.then_some-in-Decided.ensures
    (λ e. record { so = sym decision ∙ none_of c.decision.result (c.is_none.ensures ∙ ap not e); against = λ log legal so. ap is_some so })
    (λ e. ap is_some (sym decision) ∙ (c.is_none.ensures ∙ ap not e))))
