use Rattle.kt_manager.proofs.InTurn.{none_kept, none_held}
use Rattle.kt_manager.proofs.inbox.Inbox.new.Goals as goal

pub returns-clause-kept : goal.returns-clause-kept
returns-clause-kept c = none_kept c.loop-number.lists.items c.loop-number.invariant.bare

pub returns-clause-held : goal.returns-clause-held
returns-clause-held c = none_held c.loop-number.lists.items c.loop-number.invariant.bare
