-- What each process itself has done: a committed instance changes its history and its permanent position at its own
-- closed row, and not at the decided row.
use Rattle.std.specs.Prelude.{ℕ, ℤ, pos, ◌+◌, ◌&&◌, if◌then◌else◌, List, [], ◌∷◌, ◌++◌, take, fold, unwrap_or}
use Rattle.kt_spacetime.specs.declared.event.Event.{Event}
use Rattle.kt_spacetime.specs.declared.event.Event.TheVariants.{Sent, Received, Closed}
use Rattle.kt_spacetime.specs.declared.deeds.Deed.{Deed}
use Rattle.kt_spacetime.specs.declared.deeds.Deed.TheVariants as deed
use Rattle.kt_meaning.specs.Past.{Past, start, after, at_one, is_rollback, is_committed}

-- what is known after some rows
pub record Done : Type 0 where
  -- what the rows mean
  pub past : Past
  -- a process's own history
  pub own : ℕ → List Deed
  -- the length of the part of it that is permanent
  pub permanent : ℕ → ℕ
  -- a message's body
  pub body : ℕ → ℤ

-- own histories after one more row: a committed rollback cuts its process's own history back at its closed row
abbrev pub own_after : Done → Event → ℕ → List Deed
own_after d (Sent p to body) = at_one p (d.own p ++ deed.Sent (d.past.rows + 1) to ∷ []) d.own
own_after d (Received p from msg) = at_one p (d.own p ++ deed.Received msg from ∷ []) d.own
own_after d (Closed p k) = at_one p (if is_rollback d.past k && is_committed d.past k then take (d.permanent p) (d.own p) else d.own p) d.own
own_after d _ = d.own

-- own permanent positions: a committed checkpoint moves its process's own one to the new one at its closed row
abbrev pub permanent_after : Done → Event → ℕ → ℕ
permanent_after d (Closed p k) = at_one p (if is_committed d.past k then unwrap_or (d.past.new k p) (d.permanent p) else d.permanent p) d.permanent
permanent_after d _ = d.permanent

-- bodies: the number of a message is that of its row, counted from 1
abbrev pub body_after : Done → Event → ℕ → ℤ
body_after d (Sent p to body) = at_one (d.past.rows + 1) body d.body
body_after d _ = d.body

-- one more row
abbrev pub done_after : Done → Event → Done
done_after d row = record { past = after d.past row; own = own_after d row; permanent = permanent_after d row; body = body_after d row }

-- nothing has happened
abbrev pub done_start : Done
done_start = record { past = start; own = λ p. []; permanent = λ p. 0; body = λ m. pos 0 }

-- what is known after a log
abbrev pub done : List Event → Done
done log = fold done_after done_start log
