use Rattle.std.specs.Prelude.{map}
use Rattle.std.proofs.Common.{◌≡◌, rules}
use Rattle.kt_manager.proofs.InTurn.{kept_length, counted}
use Rattle.kt_manager.proofs.inbox.Inbox.marks.Goals as goal

pub returns-clause-marks : goal.returns-clause-marks
returns-clause-marks c =
    let are : c.in_ok-collect.field-0.items ≡ map kept_length c.self.inside.lists.items = search rules in
    rw (← c.self.view_is, are) (counted c.self.inside.lists.items)
