-- What each process itself has done: a committed rollback cuts its history back at the process's own closed row.
use Rattle.std.specs.Prelude.{ℕ, ◌+◌, ◌&&◌, if◌then◌else◌, List, [], ◌∷◌, ◌++◌, take, fold}
use Rattle.kt_spacetime.specs.declared.event.Event.{Event}
use Rattle.kt_spacetime.specs.declared.event.Event.TheVariants.{Sent, Received, Closed}
use Rattle.kt_spacetime.specs.declared.deeds.Deed.{Deed}
use Rattle.kt_spacetime.specs.declared.deeds.Deed.TheVariants as deed
use Rattle.kt_meaning.specs.Past.{at_one}
use Rattle.kt_protocol.specs.Summary.{Summary, summary_start, summary_after}
use Rattle.kt_protocol.specs.OnceClosed.{has_to_restore}

-- each process's own history after one more row
abbrev pub own_after : Summary → (ℕ → List Deed) → Event → ℕ → List Deed
own_after h own (Sent p q body) = at_one p (own p ++ deed.Sent (h.rows + 1) q ∷ []) own
own_after h own (Received p q m) = at_one p (own p ++ deed.Received m q ∷ []) own
own_after h own (Closed p k) = at_one p (if h.is_committed k && h.is_rollback k then take (h.permanent p) (own p) else own p) own
own_after h own _ = own

-- what is known after some rows, and each process's own history
pub record OwnHistories : Type 0 where
  pub so_far : Summary
  pub own : ℕ → List Deed

abbrev pub own_histories_after : OwnHistories → Event → OwnHistories
own_histories_after o row = record { so_far = summary_after o.so_far row; own = own_after o.so_far o.own row }

-- those after a log
abbrev pub own_histories : List Event → OwnHistories
own_histories log = fold own_histories_after (record { so_far = summary_start; own = λ p. [] }) log

-- p's own history, cut back at its permanent position where it has a committed rollback to close
abbrev pub live_once_closed : Summary → (ℕ → List Deed) → ℕ → List Deed
live_once_closed h own p = if has_to_restore h p then take (h.permanent p) (own p) else own p
