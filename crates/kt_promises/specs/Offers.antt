-- Sends of what objects offer.
use Rattle.std.specs.Prelude.{◌≡◌, ℕ, ℤ, Some, None, List, [], ◌∷◌, take, slice_get}
use Rattle.kt_spacetime.specs.declared.event.Event.{Event}
use Rattle.kt_spacetime.specs.declared.event.Event.TheVariants.{Sent}
use Rattle.kt_machine.specs.Values.{Rules}
use Rattle.kt_machine.specs.Offers.{offer}
use Rattle.kt_plan.specs.Limits.{Planned}
use Rattle.kt_plan.specs.declared.steps.Look.TheVariants.{NeedsBody}
use Rattle.kt_promises.specs.Looks.{look}
use Rattle.kt_promises.specs.Runs.{Move}
use Rattle.kt_plan.specs.declared.steps.Step.{Step}
use Rattle.kt_plan.specs.declared.steps.Give.{Give}
use Rattle.kt_promises.specs.Steps.{process_of_step, progress_after}
use Rattle.kt_promises.specs.Progress.{Progress}
use Rattle.kt_meaning.specs.Follows.{command_answered}
use Rattle.kt_plan.specs.declared.commands.Command.{Command}
use Rattle.kt_plan.specs.declared.commands.Job.TheVariants.{Send}

-- where a step asks for the body that the object offers, what is given is what the value due to its process offers; each
-- process's object has rules of its own
abbrev pub GivesOffer : {V : Type 0} → (ℕ → Rules V) → Planned → Progress → Step → Give → Type 0
GivesOffer rules plan w x give = look plan w x ≡ NeedsBody →
    offer (rules (process_of_step x)) w.now.log (process_of_step x) ≡ Some give.body

-- so it is at each of some moves
abbrev pub GivesOffers : {V : Type 0} → (ℕ → Rules V) → Planned → Progress → List Move → Type 0
GivesOffers rules plan w [] = Unit {0}
GivesOffers rules plan w (x ∷ xs) =
    GivesOffer rules plan w x.step x.give × GivesOffers rules plan (progress_after plan w x.step x.give) xs

-- each send that answers a command without a body of its own has the body that its sender's object offers just before it
abbrev pub SendsWhatIsOffered : {V : Type 0} → (ℕ → Rules V) → Planned → List Event → Type 0
SendsWhatIsOffered rules plan log = (n p q : ℕ) (body : ℤ) (c : Command) → slice_get log n ≡ Some (Sent p q body)
    → command_answered plan (take n log) (Sent p q body) ≡ Some c → c.job ≡ Send q None
    → offer (rules p) (take n log) p ≡ Some body
