-- Steps that ask nothing of any object.
use Rattle.std.proofs.Common.{◌≡◌, ◌∙◌, ℕ, Bool, true, false, List, [], ◌∷◌, ◌++◌, append_assoc, append-nil, sym, ap}
use Rattle.std.proofs.lemmas.List.Elements.{All-append, All-cons, All-nil}
use Rattle.kt_promises.specs.Steps.{process_of_step}
use Rattle.kt_plan.specs.declared.steps.Step.{Step}
use Rattle.kt_threads.specs.Errands.{errand_of, is_no_errand}
use Rattle.kt_threads.specs.Histories.{WorldHistory}
use Rattle.kt_threads.specs.Turns.{GoesOnQuietly, IsMadeQuietly}
use Rattle.kt_threads.specs.declared.state.Made.{Made}

abbrev is_idle : Made → Type 0
is_idle made = is_no_errand (errand_of made) ≡ true

-- none was made
pub quiet_first : (old new : WorldHistory) → new.steps ≡ old.steps → GoesOnQuietly old new
quiet_first old new same = record { more = []; steps = same ∙ sym (append-nil old.steps); idle = All-nil is_idle }

-- one after another
pub quiet_then : (first now new : WorldHistory) → GoesOnQuietly first now → GoesOnQuietly now new → GoesOnQuietly first new
quiet_then first now new before after = record {
  more = before.more ++ after.more;
  steps = after.steps ∙ (ap (λ (l : List Made). l ++ after.more) before.steps ∙ append_assoc first.steps before.more after.more);
  idle = All-append is_idle before.more after.more before.idle after.idle;
}

-- one more was made
pub quiet_next : (first now new : WorldHistory) (p : ℕ) (made : Bool) → GoesOnQuietly first now → made ≡ true
    → (made ≡ true → (step : Step) × (process_of_step step ≡ p) × IsMadeQuietly now new step) → GoesOnQuietly first new
quiet_next first now new p made before so one = let next = (one so).2 in
    quiet_then first now new before (record { more = next.made ∷ []; steps = next.steps; idle = All-cons is_idle next.made [] next.idle (All-nil is_idle) })

-- or none
pub quiet_stays : (first now new : WorldHistory) (made : Bool) → GoesOnQuietly first now → made ≡ false
    → (made ≡ false → new.steps ≡ now.steps) → GoesOnQuietly first new
quiet_stays first now new made before so none = quiet_then first now new before (quiet_first now new (none so))
