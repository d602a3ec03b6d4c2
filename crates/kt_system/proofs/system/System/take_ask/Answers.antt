use Rattle.std.proofs.Common.{◌≡◌, subst, sym}
use Rattle.std.specs.Prelude.{Some, OnOk, drop}
use Rattle.kt_base.specs.declared.words.Kind.{Kind}
use Rattle.kt_meaning.specs.Past.{is_rollback_kind}
use Rattle.kt_machine.specs.Transition.{seen_ask}
use Rattle.kt_system.specs.Shown.{ShowsState}
use Rattle.kt_machine.specs.SeenActs.{seen_acts_asked}
use Rattle.kt_manager.specs.ShownActs.{acts_shown}
use Rattle.kt_system.proofs.system.System.take_ask.Goals as goal

pub returns-in-Rollback-clause-shows : goal.returns-in-Rollback-clause-shows
returns-in-Rollback-clause-shows c = λ v h.
    subst (λ (k : Kind). OnOk c.take_ask_to_roll.result (ShowsState c.take_ask_to_roll.new.self (seen_ask v c.args.at c.args.from c.args.able c.args.inst (is_rollback_kind (Some k)) c.args.label (drop 1 (v.channel c.args.from c.args.at))))) (sym c.in-Rollback.is)
    (c.take_ask_to_roll.ensures.shows v c.args.able h)

pub returns-in-Checkpoint-clause-acts : goal.returns-in-Checkpoint-clause-acts
returns-in-Checkpoint-clause-acts c = λ v h.
    subst (λ (k : Kind). OnOk c.take_ask_to_save.result (acts_shown c.take_ask_to_save.new.acts ≡ seen_acts_asked v c.args.at c.args.from c.args.able c.args.inst (is_rollback_kind (Some k)) c.args.label)) (sym c.in-Checkpoint.is)
    (c.take_ask_to_save.ensures.acts v h)

pub returns-in-Rollback-clause-acts : goal.returns-in-Rollback-clause-acts
returns-in-Rollback-clause-acts c = λ v h.
    subst (λ (k : Kind). OnOk c.take_ask_to_roll.result (acts_shown c.take_ask_to_roll.new.acts ≡ seen_acts_asked v c.args.at c.args.from c.args.able c.args.inst (is_rollback_kind (Some k)) c.args.label)) (sym c.in-Rollback.is)
    (c.take_ask_to_roll.ensures.acts v c.args.able h)
