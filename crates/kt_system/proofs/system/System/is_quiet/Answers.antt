use Rattle.std.proofs.Common.{sym, ◌∙◌}
use Rattle.kt_system.proofs.Quiet.{quiet_from, quiet_channels, quiet_held, quiet_outside}
use Rattle.kt_system.proofs.system.System.is_quiet.Goals as goal
use Rattle.kt_system.proofs.system.System.is_quiet.Goals.{then-is_empty, else-is_empty}

pub returns-then-is_empty-2 : goal.returns-then-is_empty-2
returns-then-is_empty-2 c = elim c.if-is_empty.branch [
  | then-is_empty w ↦
      let channels = c.is_empty.ensures.0 w.if-is_empty.true in
      let held = w.is_empty-then-is_empty.ensures.0 (sym w.value-is ∙ c.if-is_empty-2.true) in (
        λ e. quiet_from _ _ c.self.view_is c.self.invariant channels held (sym c.all_outside.ensures ∙ e),
        λ h. c.all_outside.ensures ∙ quiet_outside _ _ c.self.view_is c.self.invariant h,
      )
  | else-is_empty w ↦ absurd (cc (w.value-is, c.if-is_empty-2.true))
]

pub returns-else-is_empty-2 : goal.returns-else-is_empty-2
returns-else-is_empty-2 c = (
  λ e. absurd (cc (e, c.if-is_empty-2.false)),
  λ h. elim c.if-is_empty.branch [
    | then-is_empty w ↦ w.value-is ∙ w.is_empty-then-is_empty.ensures.1 (quiet_held _ _ c.self.view_is c.self.invariant h)
    | else-is_empty w ↦ absurd (let e = c.is_empty.ensures.1 (quiet_channels _ _ c.self.view_is c.self.invariant h) in cc (e, w.if-is_empty.false))
  ],
)
