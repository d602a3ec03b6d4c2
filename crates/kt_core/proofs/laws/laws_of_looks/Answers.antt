use Rattle.std.specs.Prelude.{◌&&◌, ◌↔◌}
use Rattle.std.proofs.Common.{◌≡◌, ◌∙◌, ℕ, Bool, true, false, [], ◌∷◌, refl, sym, ap}
use Rattle.kt_spacetime.specs.declared.event.Event.TheVariants.{Sent}
use Rattle.kt_plan.specs.Limits.{Planned}
use Rattle.kt_plan.specs.declared.steps.Give.{Give}
use Rattle.kt_plan.specs.declared.steps.Look.{Look}
use Rattle.kt_plan.specs.declared.steps.Look.TheVariants.{Idle, NeedsSave, NeedsBody, Plain}
use Rattle.kt_plan.specs.declared.steps.Step.{Step}
use Rattle.kt_plan.specs.declared.steps.Step.TheVariants.{Do, Take}
use Rattle.kt_promises.specs.Looks.{look, uses_able, uses_body}
use Rattle.kt_promises.specs.Progress.{Progress}
use Rattle.kt_promises.specs.Rows.{has_sent_row, is_offer_step}
use Rattle.kt_promises.specs.StepActs.{rows_added}
use Rattle.kt_promises.specs.Steps.{enabled, process_of_step}
use Rattle.kt_core.proofs.laws.laws_of_looks.Goals as goal

-- it counts whether the object is able, only where a save is needed
needs_save : (found : Look) → uses_able found ≡ true → found ≡ NeedsSave
needs_save Idle e = absurd (cc (e))
needs_save NeedsSave e = refl
needs_save NeedsBody e = absurd (cc (e))
needs_save Plain e = absurd (cc (e))

-- and what it offers, only where a body is needed
needs_body : (found : Look) → uses_body found ≡ true → found ≡ NeedsBody
needs_body Idle e = absurd (cc (e))
needs_body NeedsSave e = absurd (cc (e))
needs_body NeedsBody e = refl
needs_body Plain e = absurd (cc (e))

both : (a b : Bool) → (a && b) ≡ true → (a ≡ true) × (b ≡ true)
both true true e = (refl, refl)
both true false e = absurd (cc (e))
both false b e = absurd (cc (e))

join : (a b : Bool) → a ≡ true → b ≡ true → (a && b) ≡ true
join a b e f = rw (e, f) refl

-- a save is made where it is needed, and the object is able
saves_where : (found : Look) (able took : Bool) → took ≡ (uses_able found && able)
    → (took ≡ true) ↔ ((found ≡ NeedsSave) × (able ≡ true))
saves_where found able took e = (
  (λ t. let h = both (uses_able found) able (sym e ∙ t) in (needs_save found h.0, h.1)),
  (λ t. e ∙ join (uses_able found) able (ap uses_able t.0) t.1),
)

-- what is offered is sent where a body is needed
sends_where : (found : Look) (offer sent : Bool) → (offer && sent) ≡ uses_body found
    → ((offer ≡ true) × (sent ≡ true)) ↔ (found ≡ NeedsBody)
sends_where found offer sent e = (
  (λ t. needs_body found (sym e ∙ join offer sent t.0 t.1)),
  (λ t. both offer sent (e ∙ ap uses_body t)),
)

-- a step that needs a body can be made
can_if_asked : (found : Look) (can : Bool) → (found ≡ Idle) ↔ (can ≡ false) → found ≡ NeedsBody → can ≡ true
can_if_asked found true h e = refl
can_if_asked found false h e = absurd (let i = h.1 refl in cc (i, e))

-- a step that needs a body sends what is offered: a take needs none
offers : (plan : Planned) (v : Progress) (step : Step) (give : Give)
    → ((p : ℕ) → look plan v (Do p) ≡ NeedsBody → (q : ℕ) × (rows_added plan v (Do p) give ≡ Sent p q give.body ∷ []))
    → (is_offer_step plan v step && has_sent_row (rows_added plan v step give)) ≡ uses_body (look plan v step)
    → look plan v step ≡ NeedsBody → (q : ℕ) × (rows_added plan v step give ≡ Sent (process_of_step step) q give.body ∷ [])
offers plan v (Do p) give h e t = h p t
offers plan v (Take p q) give h e t = absurd (let b = ap uses_body t in cc (e, b))

pub returns : goal.returns
returns c = λ plan first v step limits reached.
    let found = look plan v step in
    let steps = c.steps_of_runs.ensures in
    let rows = c.rows_of_runs.ensures in
    record {
      idle = steps.idle plan v step;
      saves = λ give can. saves_where found give.able _ (rows.saves plan first v step give limits reached can);
      sends = λ give can. sends_where found (is_offer_step plan v step) _ (rows.sends plan first v step give limits reached can);
      offered = λ give e. offers plan v step give (λ p t. rows.offered plan first v p give limits reached t)
          (rows.sends plan first v step give limits reached (can_if_asked found (enabled plan v step) (steps.idle plan v step) e)) e;
      up = steps.up plan v step;
      counts = λ a b can able body. steps.gives plan first v step a b limits reached can
          (λ t. able (needs_save found t)) (λ t. body (needs_body found t));
      waits = λ moves later can others leads. steps.waits_looks plan first v later step moves limits reached can others leads;
    }
