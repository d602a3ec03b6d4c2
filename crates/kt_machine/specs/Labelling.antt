-- What a log says of the labels and bodies of messages, and of the calls on each process's tables. Each process counts the
-- messages that it sends: the count is the message's label.
use Rattle.std.specs.Prelude.{ℕ, ℤ, pos, ◌+◌, Bool, true, false, List, [], ◌∷◌, ◌++◌, fold}
use Rattle.kt_spacetime.specs.declared.event.Event.{Event}
use Rattle.kt_spacetime.specs.declared.event.Event.TheVariants.{Sent, Received, Dropped, Began, Took, Ready, Unwilling, Decided, Closed, Failed, Refused}
use Rattle.kt_meaning.specs.Past.{at_one}
use Rattle.kt_tables.specs.Calls.{Call, sent, received, on_tentative, on_commit, on_abort, on_rollback}
use Rattle.kt_protocol.specs.Summary.{Summary, summary_start, summary_after}

-- what is known of labels, bodies and calls after some rows
pub record Labelling : Type 0 where
  -- the last label that a process gave to a message, or the one that its counter began after
  pub used : ℕ → ℕ
  -- of a message by its number: its label, 0 for none, and its body
  pub label : ℕ → ℕ
  pub body : ℕ → ℤ
  -- the calls on a process's tables
  pub calls : ℕ → List Call

-- before any row, where each process's counter begins after this label
abbrev pub labelling_start : ℕ → Labelling
labelling_start first = record { used = λ p. first; label = λ m. 0; body = λ m. pos 0; calls = λ p. [] }

-- the calls of a process that closes an instance: a rollback or not, committed or not
abbrev pub calls_of_closing : Bool → Bool → List Call
calls_of_closing true true = on_rollback ∷ []
calls_of_closing true false = []
calls_of_closing false true = on_commit ∷ []
calls_of_closing false false = on_abort ∷ []

-- one more row, where h is known of the rows before it: a sent row gives the next label of its sender
abbrev pub labelling_after : Summary → Labelling → Event → Labelling
labelling_after h t (Sent p q body) = record t {
  used = at_one p (t.used p + 1) t.used;
  label = at_one (h.rows + 1) (t.used p + 1) t.label;
  body = at_one (h.rows + 1) body t.body;
  calls = at_one p (t.calls p ++ sent q (t.used p + 1) ∷ []) t.calls;
}
labelling_after h t (Received p q m) = record t { calls = at_one p (t.calls p ++ received q (t.label m) ∷ []) t.calls }
labelling_after h t (Took p k) = record t { calls = at_one p (t.calls p ++ on_tentative ∷ []) t.calls }
labelling_after h t (Closed p k) = record t { calls = at_one p (t.calls p ++ calls_of_closing (h.is_rollback k) (h.is_committed k)) t.calls }
labelling_after h t (Dropped p q m) = t
labelling_after h t (Began p k kind) = t
labelling_after h t (Ready p k) = t
labelling_after h t (Unwilling p k cause) = t
labelling_after h t (Decided p k c) = t
labelling_after h t (Failed p) = t
labelling_after h t (Refused p verb cause) = t

-- a log in numbers, with the labels of its messages
pub record LabelledLog : Type 0 where
  pub so_far : Summary
  pub labels : Labelling

-- one more row
abbrev pub labelled_after : LabelledLog → Event → LabelledLog
labelled_after r row = record { so_far = summary_after r.so_far row; labels = labelling_after r.so_far r.labels row }

-- no row
abbrev pub labelled_start : ℕ → LabelledLog
labelled_start first = record { so_far = summary_start; labels = labelling_start first }

-- what is known after a log
abbrev pub labelled_log : ℕ → List Event → LabelledLog
labelled_log first log = fold labelled_after (labelled_start first) log

-- what is known of labels after a log
abbrev pub labelling : ℕ → List Event → Labelling
labelling first log = (labelled_log first log).labels
