use Rattle.std.proofs.Common.{Bool, sym, ap, ◌∙◌}
use Rattle.std.specs.Prelude.{◌||◌}
use Rattle.std.proofs.lemmas.Bool.{or_left}
use Rattle.kt_system.specs.Takes.{is_held}
use Rattle.kt_system.proofs.Takes.{can_take_either}
use Rattle.kt_system.proofs.system.System.can_take.Goals as goal

pub returns-then-has : goal.returns-then-has
returns-then-has c =
    let sent = c.has.ensures ∙ c.senders.ensures.sent c.args.from in
    c.if-has.true ∙ sym (can_take_either c.args.self.now c.args.at c.args.from ∙ or_left _ _ (sym sent ∙ c.if-has.true))

pub returns-else-has : goal.returns-else-has
returns-else-has c =
    let sent = c.has.ensures ∙ c.senders.ensures.sent c.args.from in
    let held = c.has-else-has.ensures ∙ c.held_senders.ensures.held c.args.from in
    held ∙ sym (can_take_either c.args.self.now c.args.at c.args.from ∙ ap (λ (b : Bool). b || is_held c.args.self.now c.args.at c.args.from) (sym sent ∙ c.if-has.false))
