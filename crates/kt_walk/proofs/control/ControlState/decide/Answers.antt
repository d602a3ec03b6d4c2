use Rattle.std.proofs.Common.{◌≡◌, Option, Some, None, sym, ap, ◌∙◌, length}
use Rattle.kt_spacetime.specs.declared.event.Event.TheVariants as event
use Rattle.kt_rules.specs.declared.instances.Instance.{Instance}
use Rattle.kt_meaning.proofs.Items.{written}
use Rattle.kt_walk.proofs.WalkMessages.{same_messages, abort_leaves, permanent_messages, rolled_back_messages}
use Rattle.kt_walk.proofs.WalkDecides.{decided_instance, aborted_row, checkpoint_row, rollback_row}
use Rattle.kt_walk.proofs.control.ControlState.decide.Goals as goal

nothing : (o : Option Instance) (v : Instance) → o ≡ Some v → o ≡ None → ⊥
nothing o v e f = cc

pub returns-in_default-clause-fed : goal.returns-in_default-clause-fed
returns-in_default-clause-fed c = λ rows p h unbroken shown.
    let there = decided_instance _ rows p c.args.inst c.args.commit h unbroken in
    let none = (rw c.deref_mut.ensures.value at c.in_default.ensures.none) in
    absurd (nothing _ _ there.1 none)

pub returns-in_default-clause-messages : goal.returns-in_default-clause-messages
returns-in_default-clause-messages c = λ rows p h unbroken shown.
    let there = decided_instance _ rows p c.args.inst c.args.commit h unbroken in
    let none = (rw c.deref_mut.ensures.value at c.in_default.ensures.none) in
    absurd (nothing _ _ there.1 none)

pub returns-then-not-commit-clause-fed : goal.returns-then-not-commit-clause-fed
returns-then-not-commit-clause-fed c = λ rows p h unbroken shown.
    let was = c.deref_mut.ensures.value in
    let long : length c.decide.new.instances ≡ c.args.self.now.instances.len = c.decide.auto.instances ∙ (ap length was ∙ sym c.args.self.now.instances.ok.0) in
    let whole = written c.args.self.now.instances.len c.decide.new.instances c.args.self.now.instances.items long in
    rw (c.count_row-then-not-commit.ensures, whole) (aborted_row _ rows p c.args.inst c.args.commit _ h unbroken c.if-not-commit.true (rw was at c.decide.ensures.decided))

pub returns-then-not-commit-clause-messages : goal.returns-then-not-commit-clause-messages
returns-then-not-commit-clause-messages c = λ rows p h unbroken shown.
    same_messages c.args.pairs.now rows (event.Decided p c.args.inst c.args.commit) (abort_leaves p c.args.inst c.args.commit c.if-not-commit.true) shown

pub returns-in-Checkpoint-clause-fed : goal.returns-in-Checkpoint-clause-fed
returns-in-Checkpoint-clause-fed c = λ rows p h unbroken shown.
    let was = c.deref_mut.ensures.value in
    let long : length c.decide.new.instances ≡ c.args.self.now.instances.len = c.decide.auto.instances ∙ (ap length was ∙ sym c.args.self.now.instances.ok.0) in
    let whole = written c.args.self.now.instances.len c.decide.new.instances c.args.self.now.instances.items long in
    let rest = c.make_members_permanent.ensures.rest in
    rw (c.count_row-in-Checkpoint.ensures, rest.rows, rest.instances, rest.drops, whole) (checkpoint_row _ rows p c.args.inst c.args.commit _ c.in-Some.instance _ h unbroken c.if-not-commit.false (rw was at c.decide.ensures.decided) (rw was at c.in-Some.ensures.instance) c.in-Checkpoint.is
    (λ s a w. c.make_members_permanent.ensures.last_permanent s a w))

pub returns-in-Checkpoint-clause-messages : goal.returns-in-Checkpoint-clause-messages
returns-in-Checkpoint-clause-messages c = λ rows p h unbroken shown.
    let was = c.deref_mut.ensures.value in
    let long : length c.decide.new.instances ≡ c.args.self.now.instances.len = c.decide.auto.instances ∙ (ap length was ∙ sym c.args.self.now.instances.ok.0) in
    let whole = written c.args.self.now.instances.len c.decide.new.instances c.args.self.now.instances.items long in
    let rest = c.make_members_permanent.ensures.rest in
    let there = decided_instance _ rows p c.args.inst c.args.commit h unbroken in
    let decided = rw was at (c.decide.ensures.decided there.0 (rw was there.1)) in
    let same = c.in-Some.ensures.instance there.0 (rw was there.1) in
    permanent_messages _ rows p c.args.inst c.args.commit c.in-Some.instance c.permanent_lengths-permanent.result c.args.pairs.now c.commit_checkpoint.new.self (returns-in-Checkpoint-clause-fed c rows p h unbroken shown) c.if-not-commit.false
    (rw (c.count_row-in-Checkpoint.ensures, rest.instances, whole) (decided.now ∙ sym same)) c.in-Checkpoint.is
    (rw c.count_row-in-Checkpoint.ensures c.permanent_lengths-permanent.ensures) c.commit_checkpoint.ensures shown

pub returns-in-Rollback-clause-fed : goal.returns-in-Rollback-clause-fed
returns-in-Rollback-clause-fed c = λ rows p h unbroken shown.
    let was = c.deref_mut.ensures.value in
    let long : length c.decide.new.instances ≡ c.args.self.now.instances.len = c.decide.auto.instances ∙ (ap length was ∙ sym c.args.self.now.instances.ok.0) in
    let whole = written c.args.self.now.instances.len c.decide.new.instances c.args.self.now.instances.items long in
    let rest = c.roll_back_members.ensures.rest in
    rw (c.count_row-in-Rollback.ensures, rest.rows, rest.instances, rest.drops, whole) (rollback_row _ rows p c.args.inst c.args.commit _ c.in-Some.instance _ h unbroken c.if-not-commit.false (rw was at c.decide.ensures.decided) (rw was at c.in-Some.ensures.instance) c.in-Rollback.is
    (λ s a w. c.roll_back_members.ensures.undone s a w))

pub returns-in-Rollback-clause-messages : goal.returns-in-Rollback-clause-messages
returns-in-Rollback-clause-messages c = λ rows p h unbroken shown.
    let was = c.deref_mut.ensures.value in
    let long : length c.decide.new.instances ≡ c.args.self.now.instances.len = c.decide.auto.instances ∙ (ap length was ∙ sym c.args.self.now.instances.ok.0) in
    let whole = written c.args.self.now.instances.len c.decide.new.instances c.args.self.now.instances.items long in
    let rest = c.roll_back_members.ensures.rest in
    let there = decided_instance _ rows p c.args.inst c.args.commit h unbroken in
    let decided = rw was at (c.decide.ensures.decided there.0 (rw was there.1)) in
    let same = c.in-Some.ensures.instance there.0 (rw was there.1) in
    rolled_back_messages _ rows p c.args.inst c.args.commit c.in-Some.instance c.permanent_lengths-permanent-in-Rollback.result c.args.pairs.now c.roll_back.new.self (returns-in-Rollback-clause-fed c rows p h unbroken shown) c.if-not-commit.false
    (rw (c.count_row-in-Rollback.ensures, rest.instances, whole) (decided.now ∙ sym same)) c.in-Rollback.is
    (rw c.count_row-in-Rollback.ensures c.permanent_lengths-permanent-in-Rollback.ensures) c.roll_back.ensures shown
