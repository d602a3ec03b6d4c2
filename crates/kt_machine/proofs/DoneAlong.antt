-- Induction over what is done along a log.
use Rattle.std.proofs.Common.{◌≡◌, None, List, [], ◌∷◌, ◌++◌, refl}
use Rattle.std.specs.Prelude.{fold}
use Rattle.std.proofs.lemmas.Grind.{fold-append}
use Rattle.kt_spacetime.specs.declared.event.Event.{Event}
use Rattle.kt_meaning.specs.Past.{after, past}
use Rattle.kt_meaning.specs.Legal.{IsLegalAfter, broken_rule}
use Rattle.kt_machine.specs.Done.{Done, done_after, done_start, done}

-- what each row that breaks no rule keeps holds after a legal log
pub done_induction : (P : Done → Type 0) → ((d : Done) (row : Event) → broken_rule d.past row ≡ None → P d → P (done_after d row)) → (d : Done) (log : List Event) → IsLegalAfter d.past log → P d → P (fold done_after d log)
done_induction P keep d [] l h = h
done_induction P keep d (row ∷ rows) l h = done_induction P keep (done_after d row) rows l.1 (keep d row l.0 h)

past_from : (d : Done) (log : List Event) → (fold done_after d log).past ≡ fold after d.past log
past_from d [] = refl
past_from d (row ∷ rows) = past_from (done_after d row) rows

pub done_past : (log : List Event) → (done log).past ≡ past log
done_past log = past_from done_start log

pub done_more : (log more : List Event) → done (log ++ more) ≡ fold done_after (done log) more
done_more log more = fold-append done_after done_start log more
