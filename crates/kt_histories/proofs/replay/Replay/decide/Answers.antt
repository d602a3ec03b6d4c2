use Rattle.std.proofs.Common.{◌≡◌, sym, ap, ◌∙◌, length}
use Rattle.kt_meaning.proofs.Items.{written}
use Rattle.kt_histories.proofs.InstanceSteps.{decides_abort, decides_checkpoint, decides_rollback}
use Rattle.kt_histories.proofs.replay.Replay.decide.Goals as goal

pub returns-then-not-commit-clause-shows : goal.returns-then-not-commit-clause-shows
returns-then-not-commit-clause-shows c = λ s p h allowed.
    let was = c.deref_mut.ensures.value in
    let long : length c.decide.new.instances ≡ c.args.self.now.instances.len = c.decide.auto.instances ∙ (ap length was ∙ sym c.args.self.now.instances.ok.0) in
    let whole = written c.args.self.now.instances.len c.decide.new.instances c.args.self.now.instances.items long in
    rw (c.in_ok-count_row.ensures.processes, c.in_ok-count_row.ensures.messages, c.in_ok-count_row.ensures.instances, whole, c.in_ok-count_row.ensures.dead, c.in_ok-count_row.ensures.beginning)
    (decides_abort _ _ _ _ _ _ s p c.args.inst c.args.commit h allowed c.if-not-commit.true (rw was at c.decide.ensures.decided))

pub returns-in_ok-count_row-in-Checkpoint-clause-shows : goal.returns-in_ok-count_row-in-Checkpoint-clause-shows
returns-in_ok-count_row-in-Checkpoint-clause-shows c = λ s p h allowed.
    let was = c.deref_mut.ensures.value in
    let long : length c.decide.new.instances ≡ c.args.self.now.instances.len = c.decide.auto.instances ∙ (ap length was ∙ sym c.args.self.now.instances.ok.0) in
    let whole = written c.args.self.now.instances.len c.decide.new.instances c.args.self.now.instances.items long in
    let were = c.deref_mut-in-Checkpoint.ensures.value in
    let long_processes : length c.make_permanent.new.processes ≡ c.args.self.now.processes.len = c.make_permanent.auto.processes ∙ (ap length were ∙ sym c.args.self.now.processes.ok.0) in
    let whole_processes = written c.args.self.now.processes.len c.make_permanent.new.processes c.args.self.now.processes.items long_processes in
    rw (c.in_ok-count_row-in-Checkpoint.ensures.processes, whole_processes, c.in_ok-count_row-in-Checkpoint.ensures.messages, c.in_ok-count_row-in-Checkpoint.ensures.instances, whole, c.in_ok-count_row-in-Checkpoint.ensures.dead, c.in_ok-count_row-in-Checkpoint.ensures.beginning)
    (decides_checkpoint _ _ _ _ _ _ _ s p c.args.inst c.args.commit c.in-Some.instance h allowed c.if-not-commit.false (rw was at c.decide.ensures.decided) (rw was at c.in-Some.ensures.instance) c.in-Checkpoint.is
    c.make_permanent.ensures.all (rw were at c.make_permanent.ensures.each))

pub returns-in_ok-count_row-in-Rollback-clause-shows : goal.returns-in_ok-count_row-in-Rollback-clause-shows
returns-in_ok-count_row-in-Rollback-clause-shows c = λ s p h allowed.
    let was = c.deref_mut.ensures.value in
    let long : length c.decide.new.instances ≡ c.args.self.now.instances.len = c.decide.auto.instances ∙ (ap length was ∙ sym c.args.self.now.instances.ok.0) in
    let whole = written c.args.self.now.instances.len c.decide.new.instances c.args.self.now.instances.items long in
    let were = c.deref_mut-in-Rollback.ensures.value in
    let rolled = c.in_ok-roll_back-in-Rollback.ensures in
    let long_processes : length c.roll_back.new.processes ≡ c.args.self.now.processes.len = c.roll_back.auto.processes ∙ (ap length were ∙ sym c.args.self.now.processes.ok.0) in
    let whole_processes = written c.args.self.now.processes.len c.roll_back.new.processes c.args.self.now.processes.items long_processes in
    rw (c.in_ok-count_row-in-Rollback.ensures.processes, whole_processes, c.in_ok-count_row-in-Rollback.ensures.messages, c.in_ok-count_row-in-Rollback.ensures.instances, whole, c.in_ok-count_row-in-Rollback.ensures.dead, c.in_ok-count_row-in-Rollback.ensures.beginning)
    (decides_rollback _ _ _ _ _ _ _ c.roll_back.new.undone _ s p c.args.inst c.args.commit c.in-Some.instance h allowed c.if-not-commit.false (rw was at c.decide.ensures.decided) (rw was at c.in-Some.ensures.instance) c.in-Rollback.is
    rolled.all (rw were at rolled.each) (rw were at rolled.undone) c.in_ok-add_undone_received-in-Rollback.ensures.kept
    (rw (c.deref.ensures.value, c.deref-in-Rollback.ensures.value, whole_processes) at c.in_ok-add_undone_received-in-Rollback.ensures.buried))
