use Rattle.std.specs.Prelude.{Option}
use Rattle.std.proofs.Common.{◌≡◌, ℕ, true, sym, subst}
use Rattle.kt_system.specs.Reads.{can_take}
use Rattle.kt_system.specs.Takes.{is_sent, is_held, IsFirstNumber}
use Rattle.kt_system.proofs.Takes.{first_sender, first_sent, first_of_set}
use Rattle.kt_system.proofs.system.System.sender.Goals as goal

pub returns-then-not-takes_held-clause-first : goal.returns-then-not-takes_held-clause-first
returns-then-not-takes_held-clause-first c =
    let sent = first_of_set (is_sent c.args.self.now c.args.at) _ _ c.senders.ensures.sent c.first-sent.ensures.member c.first-sent.ensures.least c.first-sent.ensures.none in
    first_sent c.args.self.now c.args.at _ (c.takes_held.ensures.none c.if-not-takes_held.true) sent

pub returns-clause-first : goal.returns-clause-first
returns-clause-first c =
    let sent = first_of_set (is_sent c.args.self.now c.args.at) _ _ c.senders.ensures.sent c.first-sent.ensures.member c.first-sent.ensures.least c.first-sent.ensures.none in
    let held = first_of_set (is_held c.args.self.now c.args.at) _ _ c.held_senders.ensures.held c.first.ensures.member c.first.ensures.least c.first.ensures.none in
    subst (λ (o : Option ℕ). IsFirstNumber (λ from. can_take c.args.self.now c.args.at from ≡ true) o) (sym c.least.ensures) (first_sender c.args.self.now c.args.at _ _ sent held)
