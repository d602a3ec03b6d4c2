use Rattle.std.proofs.Common.{Option, sym, subst}
use Rattle.std.specs.List.{Any}
use Rattle.kt_object.specs.Refusals.{held_objects}
use Rattle.kt_object.proofs.Rejected.{any_present, any_spare}
use Rattle.kt_object.proofs.held.Held.do_fitting.Goals as goal
use Rattle.kt_object.proofs.held.Held.do_fitting.Goals.{in-Some+in-Some-1, in-Some+in-None-1, in_default}

pub returns-after-take-clause-rejects : goal.returns-after-take-clause-rejects
returns-after-take-clause-rejects g c = λ bytes. elim c.match-take.branch [
  | in-Some+in-Some-1 w ↦ subst (λ h. Any (λ b. (goal.Recoverable-dyn g (b.vtable, b.value)).may_reject b.value bytes) (held_objects h.present h.spares.items) → Any (λ b. (goal.Recoverable-dyn g (b.vtable, b.value)).may_reject b.value bytes) (held_objects c.args.self.now.present c.args.self.now.spares.items)) (sym w.self-is)
      (any_present (λ b. (goal.Recoverable-dyn g (b.vtable, b.value)).may_reject b.value bytes) c.args.self.now.present w.in-Some.object w.applied.result c.args.self.now.spares.items (sym w.in-Some.ensures.value) (w.applied.ensures.rejects bytes))
  | in-Some+in-None-1 w ↦ subst (λ h. Any (λ b. (goal.Recoverable-dyn g (b.vtable, b.value)).may_reject b.value bytes) (held_objects h.present h.spares.items) → Any (λ b. (goal.Recoverable-dyn g (b.vtable, b.value)).may_reject b.value bytes) (held_objects c.args.self.now.present c.args.self.now.spares.items)) (sym w.self-is)
      (any_present (λ b. (goal.Recoverable-dyn g (b.vtable, b.value)).may_reject b.value bytes) c.args.self.now.present w.in-Some.object w.applied.result c.args.self.now.spares.items (sym w.in-Some.ensures.value) (w.applied.ensures.rejects bytes))
  | in_default w ↦ subst (λ h. Any (λ b. (goal.Recoverable-dyn g (b.vtable, b.value)).may_reject b.value bytes) (held_objects h.present h.spares.items) → Any (λ b. (goal.Recoverable-dyn g (b.vtable, b.value)).may_reject b.value bytes) (held_objects c.args.self.now.present c.args.self.now.spares.items)) (sym w.self-is)
      (λ any. any_spare (λ b. (goal.Recoverable-dyn g (b.vtable, b.value)).may_reject b.value bytes) c.args.self.now.present c.args.self.now.spares.items (subst (λ (o : Option _). Any (λ b. (goal.Recoverable-dyn g (b.vtable, b.value)).may_reject b.value bytes) (held_objects o c.args.self.now.spares.items)) c.take.ensures.after any))
]

pub returns-in-Drop-clause-rejects : goal.returns-in-Drop-clause-rejects
returns-in-Drop-clause-rejects g c = λ bytes.
    any_spare (λ b. (goal.Recoverable-dyn g (b.vtable, b.value)).may_reject b.value bytes) c.args.self.now.present c.args.self.now.spares.items
