-- A log judged while its rows are read.
use Rattle.std.proofs.Common.{◌≡◌, ◌++◌, ◌∷◌, [], ℕ, List, Option, Some, None, IfSome, refl, sym, subst, arith, inl, inr}
use Rattle.kt_spacetime.specs.declared.event.Event.{Event}
use Rattle.kt_log_text.specs.Reading.{RowsRead, GivesRow, MeetsEnd, rows_unread}
use Rattle.kt_log_text.specs.Progress.{GathersRows}
use Rattle.kt_log_text.proofs.GatherFacts.{gathers_more, gathers_none, gathered_all, most_rows_le}
use Rattle.kt_spacetime.specs.declared.certificate.Certificate.{Certificate}
use Rattle.kt_checker.specs.declared.judge.Judge.{Judge}
use Rattle.kt_spacetime.specs.declared.verdict.Verdict.{Verdict}
use Rattle.kt_spacetime.specs.declared.verdict.Verdict.TheVariants.{Yes}
use Rattle.kt_meaning.specs.Answers.{IsCheckerAnswer, IsBadLog}
use Rattle.kt_meaning.specs.Soundness.{IsSound}
use Rattle.kt_checker.specs.Streamed.{IsAnswerOf}
use Rattle.kt_checker.specs.Judged.{JudgeOf, IsFew}
use Rattle.kt_checker.proofs.Judging.{bad_more}
use Rattle.kt_meaning.proofs.Answering.{passed_of}
use Rattle.kt_meaning.proofs.Sound.{checkpoints_least, rollbacks_least, aborts}
use Rattle.kt_checker.proofs.Sound.{permanent_consistent, present_consistent}
use Rattle.std.proofs.lemmas.Option.{slice_get_within}

-- what is known while rows are read: these were, and the judge has seen them, or one of them breaks a rule
pub record HasSeen (source : Option (List ℕ)) (reader : RowsRead) (judge : Judge) (certificates : List Certificate) (broken : Option Verdict) : Type 0 where
  pub seen : List Event
  pub gathers : GathersRows source reader seen
  pub judged : broken ≡ None → JudgeOf judge certificates seen
  pub bad : IfSome broken (IsBadLog seen)

pub seen_none : (source : Option (List ℕ)) (reader : RowsRead) (judge : Judge) (certificates : List Certificate) → reader ≡ rows_unread source → JudgeOf judge certificates [] → HasSeen source reader judge certificates None
seen_none source reader judge certificates e h = record {
  seen = [];
  gathers = subst (λ (r : RowsRead). GathersRows source r []) (sym e) (gathers_none source);
  judged = λ none. h;
  bad = tt;
}

-- there is room for one more row
pub seen_few : {source : Option (List ℕ)} {certificates : List Certificate} (old new : RowsRead) (judge : Judge) (row : Event) → HasSeen source old judge certificates None → GivesRow old new row → IsFew judge
seen_few old new judge row h s = omega (arith, (h.judged refl).walk.control.number, h.gathers.count, s.few, most_rows_le s.format)

bad_now : (broken : Option Verdict) (judge : Judge) (certificates : List Certificate) (rows : List Event) (row : Event) → IfSome broken (λ v. (rows : List Event) → JudgeOf judge certificates rows → IsBadLog (rows ++ row ∷ []) v)
    → JudgeOf judge certificates rows → IfSome broken (IsBadLog (rows ++ row ∷ []))
bad_now None judge certificates rows row bad h = tt
bad_now (Some v) judge certificates rows row bad h = bad rows h

-- one more row, which the judge is fed
pub seen_fed : {source : Option (List ℕ)} (old new : RowsRead) (was now : Judge) (certificates : List Certificate) (broken : Option Verdict) (row : Event) → HasSeen source old was certificates None → GivesRow old new row
    → (broken ≡ None → (rows : List Event) → JudgeOf was certificates rows → JudgeOf now certificates (rows ++ row ∷ []))
    → IfSome broken (λ v. (rows : List Event) → JudgeOf was certificates rows → IsBadLog (rows ++ row ∷ []) v) → HasSeen source new now certificates broken
seen_fed {source} old new was now certificates broken row h s fed bad = record {
  seen = h.seen ++ row ∷ [];
  gathers = gathers_more source old new h.seen row h.gathers s;
  judged = λ none. fed none h.seen (h.judged refl);
  bad = bad_now broken was certificates h.seen row bad (h.judged refl);
}

-- one more row after one that breaks a rule
pub seen_on : {source : Option (List ℕ)} (old new : RowsRead) (judge : Judge) (certificates : List Certificate) (broken : Option Verdict) (row : Event) → HasSeen source old judge certificates broken → GivesRow old new row
    → (broken ≡ None → ⊥) → HasSeen source new judge certificates broken
seen_on {source} old new judge certificates broken row h s some = record {
  seen = h.seen ++ row ∷ [];
  gathers = gathers_more source old new h.seen row h.gathers s;
  judged = λ none. absurd (some none);
  bad = bad_still broken h.bad;
}
  where
    bad_still : (o : Option Verdict) → IfSome o (IsBadLog h.seen) → IfSome o (IsBadLog (h.seen ++ row ∷ []))
    bad_still None bad = tt
    bad_still (Some v) bad = bad_more h.seen (row ∷ []) v bad

-- a yes is sound
pub sound_of : (rows : List Event) (certificates : List Certificate) (v : Verdict) → IsCheckerAnswer rows certificates v → v ≡ Yes → IsSound rows certificates
sound_of rows certificates v answer e =
    let passed = passed_of rows certificates v answer e in
    record {
      legal = passed.legal;
      passes = λ i certificate at. (passed.pass i certificate (slice_get_within certificates i certificate at) at).0;
      complete = passed.complete;
      checkpoints = checkpoints_least rows certificates passed;
      rollbacks = rollbacks_least rows certificates passed;
      aborts = aborts rows certificates passed;
      permanent = permanent_consistent rows certificates passed;
      present = present_consistent rows certificates passed;
    }

answer_at : {source : Option (List ℕ)} (old new : RowsRead) (certificates : List Certificate) (v : Verdict) (rows : List Event) → GathersRows source old rows → MeetsEnd old new → IsCheckerAnswer rows certificates v → IsAnswerOf source certificates v
answer_at {source} old new certificates v rows g s answer = record {
  rows = rows;
  says = gathered_all source old new rows g s;
  answer = answer;
  sound = sound_of rows certificates v answer;
}

-- the answer where a row broke a rule
pub bad_answer : {source : Option (List ℕ)} (old new : RowsRead) (judge : Judge) (certificates : List Certificate) (v : Verdict) → HasSeen source old judge certificates (Some v) → MeetsEnd old new → IsAnswerOf source certificates v
bad_answer old new judge certificates v h s = answer_at old new certificates v h.seen h.gathers s (inr (inl h.bad))

-- the answer to a legal log
pub legal_answer : {source : Option (List ℕ)} (old new : RowsRead) (judge : Judge) (certificates : List Certificate) (v : Verdict) → HasSeen source old judge certificates None → MeetsEnd old new
    → ((rows : List Event) → JudgeOf judge certificates rows → IsCheckerAnswer rows certificates v) → IsAnswerOf source certificates v
legal_answer old new judge certificates v h s answer = answer_at old new certificates v h.seen h.gathers s (answer h.seen (h.judged refl))
