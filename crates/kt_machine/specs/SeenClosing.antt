-- The transitions of deciding and closing an instance.
use Rattle.std.specs.Prelude.{ℕ, ◌==◌, if◌then◌else◌, Bool, true, false, Option, Some, None, [], ◌∷◌, ◌++◌}
use Rattle.kt_spacetime.specs.declared.event.Event.TheVariants.{Decided, Closed}
use Rattle.kt_meaning.specs.Past.{at_one}
use Rattle.kt_tables.specs.Calls.{on_rollback}
use Rattle.kt_machine.specs.Seen.{no_part, Seen}
use Rattle.kt_machine.specs.ListChanges.{with_decisions, trims, low}
use Rattle.kt_machine.specs.CallTests.{call_of_decision}
use Rattle.kt_machine.specs.SeenReplies.{seen_answering}

-- p closes checkpoint k and tells the decision to all that it asked: a commit forgets what was received before it
abbrev pub seen_closing_checkpoint : Seen → ℕ → ℕ → Bool → Seen
seen_closing_checkpoint v p k c = record v {
  states = at_one p (record (v.states p) { calls = (v.states p).calls ++ call_of_decision c ∷ []; inst = 0; part = no_part }) v.states;
  channel = with_decisions v.channel p k c (v.states p).part.asked;
  kept = trims c p (v.states p).part.marks v.kept;
  log = v.log ++ Closed p k ∷ [];
}

-- p closes rollback k, so too: after a commit p is up, and it puts back what is not above the labels that it noted, kept
-- before held
abbrev pub seen_closing_rollback : Seen → ℕ → ℕ → Bool → Seen
seen_closing_rollback v p k true = record v {
  states = at_one p (record (v.states p) { calls = (v.states p).calls ++ on_rollback ∷ []; inst = 0; part = no_part; up = true }) v.states;
  channel = with_decisions v.channel p k true (v.states p).part.asked;
  kept = λ q u. if u == p then [] else v.kept q u;
  held = λ q u. if u == p then low ((v.states p).part.noted q) (v.kept q u) ++ low ((v.states p).part.noted q) (v.held q u) else v.held q u;
  log = v.log ++ Closed p k ∷ [];
}
seen_closing_rollback v p k false = record v {
  states = at_one p (record (v.states p) { inst = 0; part = no_part }) v.states;
  channel = with_decisions v.channel p k false (v.states p).part.asked;
  log = v.log ++ Closed p k ∷ [];
}

abbrev pub seen_closing : Seen → ℕ → ℕ → Bool → Seen
seen_closing v p k c = if (v.states p).part.is_rollback then seen_closing_rollback v p k c else seen_closing_checkpoint v p k c

-- p decides k: the row is written
abbrev pub seen_deciding : Seen → ℕ → ℕ → Bool → Seen
seen_deciding v p k c = record v { log = v.log ++ Decided p k c ∷ [] }

-- p answers its parent; an initiator decides, a commit where all replies were willing, and closes
abbrev pub seen_ending : Seen → ℕ → ℕ → Option ℕ → Seen
seen_ending v p k (Some to) = seen_answering v p k to
seen_ending v p k None = seen_closing (seen_deciding v p k (v.states p).part.willing) p k (v.states p).part.willing

-- so it does once it awaits nobody
abbrev pub seen_settling : Seen → ℕ → ℕ → Seen
seen_settling v p k = if (v.states p).part.awaited == 0 then seen_ending v p k (v.states p).part.parent else v
