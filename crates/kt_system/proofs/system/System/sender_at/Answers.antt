use Rattle.std.proofs.Common.{◌≤◌, arith}
use Rattle.kt_system.proofs.Places.{sender_takes, sender_within, sender_before, sender_none}
use Rattle.kt_system.proofs.system.System.sender_at.Goals as goal

pub returns-clause-takes : goal.returns-clause-takes
returns-clause-takes c = sender_takes c.args.self.now c.args.at c.all_senders.result c.all_senders.ensures.takes c.member_at.result c.member_at.ensures.member

pub returns-clause-within : goal.returns-clause-within
returns-clause-within c = sender_within c.args.self.now c.args.at c.all_senders.result c.all_senders.ensures.takes c.member_at.result c.all_senders.ensures.within c.member_at.ensures.member

pub returns-clause-before : goal.returns-clause-before
returns-clause-before c = sender_before c.args.self.now c.args.at c.all_senders.result c.all_senders.ensures.takes c.member_at.result c.args.place c.member_at.ensures.before

pub returns-clause-none : goal.returns-clause-none
returns-clause-none c =
    let few : c.args.self.now.size ≤ 64 = let count = c.processes-count.ensures.processes in let most = c.processes-count.ensures.few in omega (arith, count, most) in
    sender_none c.args.self.now c.args.at c.all_senders.result c.all_senders.ensures.takes c.member_at.result c.args.place few c.all_senders.ensures.within c.member_at.ensures.none
