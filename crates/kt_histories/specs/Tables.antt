-- What rows do to tables.
use Rattle.std.specs.Prelude.{ℕ, if◌then◌else◌, true, Option, Some, None, take, slice_index_or}
use Rattle.kt_base.specs.Sets.{has}
use Rattle.kt_histories.specs.declared.process.Process.{Process}
use Rattle.kt_rules.specs.declared.instances.Instance.{Instance}
use Rattle.kt_histories.specs.declared.tables.Message.{Message}

-- a member's new position is its permanent one
abbrev pub promoted : Instance → ℕ → Process → Process
promoted instance p v = if has instance.joined p then record v { permanent = slice_index_or instance.positions p 0 } else v

-- a member's history is cut back
abbrev pub rolled : Instance → ℕ → Process → Process
rolled instance p v = if has instance.joined p then record v { history = take v.permanent v.history } else v

-- a message that was received at this place
abbrev pub with_received : ℕ → Option Message → Option Message
with_received place None = None
with_received place (Some v) = Some (record v { received = Some place })

-- a message that was dropped
abbrev pub with_dropped : Option Message → Option Message
with_dropped None = None
with_dropped (Some v) = Some (record v { dropped = true })
