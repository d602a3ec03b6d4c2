use Rattle.std.proofs.Common.{◌∙◌, rules, sym, ap}
use Rattle.std.specs.Int.{w64}
use Rattle.std.proofs.lemmas.Int.{to_z-of_z}
use Rattle.kt_manager.specs.Messages.{has_some}
use Rattle.kt_manager.specs.Inboxes.{held_of}
use Rattle.kt_manager.specs.Managers.{ManagerState}
use Rattle.kt_manager.proofs.Messages.{first_named, none_named}
use Rattle.kt_manager.proofs.manager.Manager.first_held.Goals as goal

pub returns-in-Some-clause-held : goal.returns-in-Some-clause-held
returns-in-Some-clause-held c = ap (λ (m : ManagerState). has_some (held_of m.inbox c.args.from)) (sym c.self.view_is) ∙ ap has_some c.in-Some.ensures.some

pub returns-in-Some-clause-some : goal.returns-in-Some-clause-some
returns-in-Some-clause-some c = λ y h. rw (to_z-of_z w64 c.in-Some.item.now.body (search rules)) (first_named _ _ y c.args.from c.in-Some.item.now c.self.view_is h c.in-Some.ensures.some)

pub returns-in-None-clause-none : goal.returns-in-None-clause-none
returns-in-None-clause-none c = λ y h. none_named _ _ y c.args.from c.self.view_is h c.in-None.ensures.none
