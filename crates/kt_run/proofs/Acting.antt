-- A step of a run: its process's object is asked, and its acts are done.
use Rattle.std.proofs.Common.{◌≡◌, ◌≢◌, ◌∙◌, ℕ, ℤ, true, List, [], drop, map, set, sym, ap, subst, Option, Some, None, IfSome}
use Rattle.std.specs.Prelude.{is_some, slice_get, slice_index_or, option_map}
use Rattle.std.proofs.lemmas.Option.{slice_get-map}
use Rattle.kt_plan.specs.Limits.{IsPlan, Planned}
use Rattle.kt_object.specs.Value.{offered}
use Rattle.std.specs.declared.alloc.Global.{Global}
use Rattle.std.specs.declared.dyn_box.DynBox.{DynBox}
use Rattle.kt_object.specs.Fits.{spares_of_all}
use Rattle.kt_object.specs.Holdings.{Content, content, Holding, Holds, does_all}
use Rattle.kt_object.specs.declared.held.Held.{Held}
use Rattle.kt_plan.specs.declared.steps.Step.{Step}
use Rattle.kt_plan.specs.declared.steps.Give.{Give}
use Rattle.kt_plan.specs.declared.steps.Act.{Act}
use Rattle.kt_plan.specs.declared.steps.Told.{Told}
use Rattle.kt_plan.specs.declared.steps.Look.{Look}
use Rattle.kt_plan.specs.declared.steps.Look.TheVariants as look
use Rattle.kt_promises.specs.Looks.{look}
use Rattle.kt_promises.specs.Offers.{GivesOffer}
use Rattle.kt_promises.specs.Runs.{RunReaches}
use Rattle.kt_promises.specs.StepActs.{acts_of_step}
use Rattle.kt_promises.specs.Steps.{enabled, progress_after, process_of_step}
use Rattle.kt_promises.specs.Progress.{Progress}
use Rattle.kt_manager.specs.ShownActs.{acts_shown}
use Rattle.kt_machine.specs.Done.{done}
use Rattle.kt_machine.specs.Values as values
use Rattle.kt_machine.specs.Values.{Rules, Due, due, first_due, acts_along}
use Rattle.kt_core.specs.Shown.{Mirrors}
use Rattle.kt_core.specs.Worlds.{World}
use Rattle.kt_run.specs.Objects.{Belongings, belongings_of, first_of, rules_by, HoldDue, IsDone}
use Rattle.kt_run.specs.RunLaws.{RunLaws}
use Rattle.kt_run.specs.Runs.{told_and_held, Tells, StepsTo}
use Rattle.kt_run.proofs.Holding.{AreAlong, hold_next, done_by}

-- the acts of a step in a run
module _ (laws : RunLaws) (plan : Planned) (first : ℕ) (v : Progress) (x : Step) (give : Give) (limits : IsPlan plan) (reached : RunReaches plan first v)
    (on : enabled plan v x ≡ true) where
  along : (rules : Rules (List ℤ)) (p : ℕ) → AreAlong rules p (acts_of_step plan v x give p) v.now.log (progress_after plan v x give).now.log
  along rules p = record { lead = laws.lead rules plan first v x give p limits reached on; spares = laws.taken rules plan first v x give p limits reached on }

  pub acts_along_step : (rules : Rules (List ℤ)) (acts : List values.Act) → acts ≡ acts_of_step plan v x give (process_of_step x)
      → AreAlong rules (process_of_step x) acts v.now.log (progress_after plan v x give).now.log
  acts_along_step rules acts e = subst (λ (a : List values.Act). AreAlong rules (process_of_step x) a v.now.log (progress_after plan v x give).now.log) (sym e) (along rules (process_of_step x))

  pub others_along : (rules : Rules (List ℤ)) (p : ℕ) → p ≢ process_of_step x → AreAlong rules p [] v.now.log (progress_after plan v x give).now.log
  others_along rules p n = subst (λ (a : List values.Act). AreAlong rules p a v.now.log (progress_after plan v x give).now.log) (laws.others plan first v x give p limits reached on n) (along rules p)

pub of_content : {A : Type 0} (g : A → Content) (o : Option A) (P : Content → Type 0) → IfSome o (λ b. P (g b)) → IfSome (option_map g o) P
of_content g None P h = h
of_content g (Some b) P h = h

-- what an object that is there offers
pub given_offer : (first : Content) (object : Option (List ℤ)) (present : Option Content) (body : ℤ) → is_some object ≡ true → present ≡ option_map (content first.kind) object
    → IfSome present (λ c. body ≡ offered c.kind c.value) → option_map (offered first.kind) object ≡ Some body
given_offer first None present body up is asked = absurd (cc (up))
given_offer first (Some value) present body up is asked = ap Some (sym (subst (λ (o : Option Content). IfSome o (λ c. body ≡ offered c.kind c.value)) is asked))

module _ {X : Type 0} (laws : RunLaws) (f : X → Belongings) (xs : List X) (i : ℕ) (x y : X) (at : slice_get xs i ≡ Some x)
    (old new : World) (before after : List (List Told)) (step : Step) (place : i ≡ process_of_step step) (give : Give) (acts : List Act) (l : Look)
    (looks : (first : ℕ) (v : Progress) → Mirrors old.agenda old.system first v → l ≡ look old.agenda.plan v step)
    (asked : l ≡ look.NeedsBody → IfSome (f x).present (λ c. give.body ≡ offered c.kind c.value))
    (did : IsDone acts (f x) (f y)) (tells : Tells old before step give new after acts) where
  whose : i ≡ process_of_step step
  whose = place

  module _ (first : ℕ) (v : Progress) (r : Mirrors old.agenda old.system first v) (cast : List (List Content)) (h : HoldDue cast v.now.log (map f xs)) where
    limits : IsPlan old.agenda.plan
    limits = r.limits

    offers : GivesOffer (rules_by cast) old.agenda.plan v step give
    offers n = subst (λ (p : ℕ). option_map (rules_by cast p).offered (due (rules_by cast p) (done v.now.log) p).object ≡ Some give.body) whose
        (given_offer (first_of (slice_index_or cast i [])) (due (rules_by cast i) (done v.now.log) i).object (f x).present give.body
        (laws.objects (rules_by cast i) old.agenda.plan first v i limits r.reached ∙ subst (λ (p : ℕ). (v.now.states p).up ≡ true) (sym whose) (laws.up old.agenda.plan v step n))
        (h.each i (f x) (slice_get-map f xs i ∙ ap (option_map f) at)).holds.object
        (asked (looks first v r ∙ n)))

    holds : HoldDue cast (progress_after old.agenda.plan v step give).now.log (map f (set xs i y))
    holds =
        let t = tells.5 first v r in
        hold_next f xs cast i x y acts v.now.log (progress_after old.agenda.plan v step give).now.log at did
        (subst (λ (p : ℕ). AreAlong (rules_by cast i) p (acts_shown acts) v.now.log (progress_after old.agenda.plan v step give).now.log) (sym whose)
        (acts_along_step laws old.agenda.plan first v step give limits r.reached t.0 (rules_by cast i) (acts_shown acts) (ap acts_shown tells.2 ∙ t.2.acts)))
        (λ p n. others_along laws old.agenda.plan first v step give limits r.reached t.0 (rules_by cast p) p (λ e. n (e ∙ sym whose)))
        h

  pub steps_to : StepsTo old (record { told = before; has = map f xs }) step new (record { told = after; has = map f (set xs i y) })
  steps_to = (
    tells.0,
    give,
    tells.1,
    tells.3,
    tells.4,
    λ first v r. let t = tells.5 first v r in (t.0, t.1, t.2, t.3, λ cast h. (offers first v r cast h, holds first v r cast h)),
  )

-- so it is with what is held itself
pub held_to : {X : Type 0} {D : X → Type 0} → RunLaws → (helds : List (Held X D)) (content_of : DynBox X Global D → Content) (i : ℕ) (x y : Held X D) → slice_get helds i ≡ Some x
    → (old new : World) (before after : List (List Told)) (step : Step) → i ≡ process_of_step step → (give : Give) (acts : List Act) (l : Look)
    → ((first : ℕ) (v : Progress) → Mirrors old.agenda old.system first v → l ≡ look old.agenda.plan v step)
    → (l ≡ look.NeedsBody → IfSome x.present (λ b. give.body ≡ offered (content_of b).kind (content_of b).value))
    → ((h : Holding) → Holds h (option_map content_of x.present) x.depot → Holds (does_all h acts) (option_map content_of y.present) y.depot)
    → y.spares.items ≡ drop (spares_of_all (is_some x.present) acts) x.spares.items
    → Tells old before step give new after acts → StepsTo old (told_and_held before helds content_of) step new (told_and_held after (set helds i y) content_of)
held_to laws helds content_of i x y at old new before after step place give acts l looks asked does spares tells =
    steps_to laws (belongings_of content_of) helds i x y at old new before after step place give acts l looks
    (λ e. of_content content_of x.present (λ c. give.body ≡ offered c.kind c.value) (asked e))
    (done_by content_of acts x.present y.present x.spares.items y.spares.items x.depot y.depot does spares) tells
