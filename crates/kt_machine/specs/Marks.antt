-- How many messages of each sender a process kept when it last took a tentative checkpoint.
use Rattle.std.specs.Prelude.{ℕ, List, length, drop, fold}
use Rattle.kt_spacetime.specs.declared.event.Event.{Event}
use Rattle.kt_spacetime.specs.declared.event.Event.TheVariants.{Took}
use Rattle.kt_meaning.specs.Past.{at_one}
use Rattle.kt_machine.specs.Done.{Done, done_after, done_start}
use Rattle.kt_protocol.specs.InTransit.{received_of}

-- what is known after some rows, and of a process and a sender that count
pub record Marked : Type 0 where
  pub known : Done
  pub mark : ℕ → ℕ → ℕ

-- the counts after one more row: a process that takes a checkpoint counts what it received past its own permanent position
abbrev pub mark_after : Marked → Event → ℕ → ℕ → ℕ
mark_after m (Took p k) = at_one p (λ q. length (received_of q (drop (m.known.permanent p) (m.known.own p)))) m.mark
mark_after m _ = m.mark

-- one more row
abbrev pub marked_after : Marked → Event → Marked
marked_after m row = record { known = done_after m.known row; mark = mark_after m row }

-- what is known after a log, and the counts
abbrev pub marks : List Event → Marked
marks log = fold marked_after (record { known = done_start; mark = λ p q. 0 }) log
