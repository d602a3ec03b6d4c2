-- Rows replayed one after another.
use Rattle.std.proofs.Common.{◌≡◌, ℕ, ◌+◌, ◌<◌, ◌∷◌, [], ◌++◌, List, None, take, length, arith, ap, sym, ◌∙◌, length-take}
use Rattle.std.proofs.lemmas.List.{map-append}
use Rattle.kt_spacetime.specs.declared.event.Event.{Event}
use Rattle.kt_histories.specs.declared.replay.Replay.{Replay}
use Rattle.kt_meaning.specs.Past.{past, after}
use Rattle.kt_meaning.specs.Legal.{broken_rule}
use Rattle.kt_rules.specs.Standing.{IsAllowed, parties_of_row}
use Rattle.kt_histories.specs.Standing.{ReplayStandsFor, ShowsPast, parties_shown}
use Rattle.kt_meaning.proofs.LegalLogs.{past_push, rows_length}

-- the rows before one more are as many as the messages kept
pub next_number : (r : Replay) (rows : List Event) (i : ℕ) → i < length rows → ReplayStandsFor r (take i rows) → length r.messages.items + 1 ≡ i + 1
next_number r rows i l h = ap (λ (n : ℕ). n + 1) (h.shows.rows ∙ (rows_length (take i rows) ∙ omega (arith, length-take i rows, l)))

-- a row that is added to what stands for rows
pub replayed : (r t : Replay) (rows : List Event) (row : Event) → ReplayStandsFor r rows → broken_rule (past rows) row ≡ None
    → (ShowsPast r (past rows) → IsAllowed (past rows) row → ShowsPast t (after (past rows) row)) → parties_shown t ≡ parties_shown r ++ parties_of_row row ∷ [] → ReplayStandsFor t (rows ++ row ∷ [])
replayed r t rows row h unbroken shows parties = record {
  shows = rw (past_push rows row) (shows h.shows (record { unbroken = unbroken }));
  messages = parties ∙ (ap (λ (l : _). l ++ parties_of_row row ∷ []) h.messages ∙ sym (map-append parties_of_row rows (row ∷ [])));
}
