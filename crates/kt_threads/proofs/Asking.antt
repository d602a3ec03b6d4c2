-- What a step asked of its process's object, as what the step needed and told.
use Rattle.std.proofs.Common.{◌≡◌, ◌+◌, ℕ, ℤ, Bool, true, false, List, [], ◌∷◌, ◌++◌, drop, refl, sym, ap, subst, IfSome}
use Rattle.std.specs.Prelude.{◌&&◌, is_some, is_none, if◌then◌else◌}
use Rattle.kt_object.specs.Value.{offered}
use Rattle.kt_object.specs.Fits.{spares_of_all}
use Rattle.kt_object.specs.Holdings.{Holding, Holds, does_all}
use Rattle.kt_plan.specs.declared.steps.Act.{Act}
use Rattle.kt_plan.specs.declared.steps.Act.TheVariants.{Nothing, Apply, Keep, Promote, Discard, Restore, Drop}
use Rattle.kt_plan.specs.declared.steps.Look.{Look}
use Rattle.kt_plan.specs.declared.steps.Look.TheVariants as look
use Rattle.kt_run.specs.Objects.{Belongings}
use Rattle.kt_threads.specs.Errands.{are_no_acts, body_for, errand_of, errands_at, is_no_errand}
use Rattle.kt_threads.specs.Workers.{IsServed, AreServed}
use Rattle.kt_threads.specs.declared.asked.Errand.{Errand}
use Rattle.kt_threads.specs.declared.state.Made.{Made}

-- the acts that a step told were done to what its process had; and where the step asked for a body, it was given what the
-- object, if it was up, offered before that
pub record IsMadeServed (old : Belongings) (made : Made) (new : Belongings) : Type 0 where
  pub does : (h : Holding) → Holds h old.present old.depot → Holds (does_all h made.told.acts) new.present new.depot
  pub spares : new.spares ≡ drop (spares_of_all (is_some old.present) made.told.acts) old.spares
  pub offers : made.look ≡ look.NeedsBody → IfSome old.present (λ c. made.give.body ≡ offered c.kind c.value)

and_left : (a b : Bool) → (a && b) ≡ true → a ≡ true
and_left true b e = refl
and_left false b e = absurd (cc (e))

and_right : (a b : Bool) → (a && b) ≡ true → b ≡ true
and_right true b e = e
and_right false b e = absurd (cc (e))

-- where acts are nothing, nothing is done
nothing_done : (acts : List Act) (h : Holding) → are_no_acts acts ≡ true → does_all h acts ≡ h
nothing_done [] h e = refl
nothing_done (Nothing ∷ acts) h e = nothing_done acts h e
nothing_done (Apply from body ∷ acts) h e = absurd (cc (e))
nothing_done (Keep ∷ acts) h e = absurd (cc (e))
nothing_done (Promote ∷ acts) h e = absurd (cc (e))
nothing_done (Discard ∷ acts) h e = absurd (cc (e))
nothing_done (Restore ∷ acts) h e = absurd (cc (e))
nothing_done (Drop ∷ acts) h e = absurd (cc (e))

-- and no spare is taken
none_taken : (acts : List Act) (up : Bool) → are_no_acts acts ≡ true → spares_of_all up acts ≡ 0
none_taken [] up e = refl
none_taken (Nothing ∷ acts) up e = ap (λ (n : ℕ). 0 + n) (none_taken acts up e)
none_taken (Apply from body ∷ acts) up e = absurd (cc (e))
none_taken (Keep ∷ acts) up e = absurd (cc (e))
none_taken (Promote ∷ acts) up e = absurd (cc (e))
none_taken (Discard ∷ acts) up e = absurd (cc (e))
none_taken (Restore ∷ acts) up e = absurd (cc (e))
none_taken (Drop ∷ acts) up e = absurd (cc (e))

-- the body that is noted is the one that was asked for
asked_body : (l : Look) (body : ℤ) (P : ℤ → Type 0) → IfSome (body_for l body) P → l ≡ look.NeedsBody → P body
asked_body look.Idle body P h e = absurd (cc (e))
asked_body look.NeedsSave body P h e = absurd (cc (e))
asked_body look.NeedsBody body P h e = h
asked_body look.Plain body P h e = absurd (cc (e))

pub noted_body : (l : Look) (body : ℤ) (P : ℤ → Type 0) → (l ≡ look.NeedsBody → P body) → IfSome (body_for l body) P
noted_body look.Idle body P h = tt
noted_body look.NeedsSave body P h = tt
noted_body look.NeedsBody body P h = h refl
noted_body look.Plain body P h = tt

none_asked : (l : Look) (body : ℤ) → is_none (body_for l body) ≡ true → l ≡ look.NeedsBody → ⊥
none_asked look.Idle body h e = absurd (cc (e))
none_asked look.NeedsSave body h e = absurd (cc (e))
none_asked look.NeedsBody body h e = absurd (cc (h))
none_asked look.Plain body h e = absurd (cc (e))

-- a step that asked nothing is served where nothing is done
served_idle : (made : Made) (b : Belongings) → is_no_errand (errand_of made) ≡ true → IsMadeServed b made b
served_idle made b e =
    let l = and_left (is_none (body_for made.look made.give.body)) (are_no_acts made.told.acts) e in
    let r = and_right (is_none (body_for made.look made.give.body)) (are_no_acts made.told.acts) e in
    record {
      does = λ h s. subst (λ (x : Holding). Holds x b.present b.depot) (sym (nothing_done made.told.acts h r)) s;
      spares = sym (ap (λ (n : ℕ). drop n b.spares) (none_taken made.told.acts (is_some b.present) r));
      offers = λ n. absurd (none_asked made.look made.give.body l n);
    }

served_errand : (made : Made) (b c : Belongings) → IsServed b (errand_of made) c → IsMadeServed b made c
served_errand made b c s = record {
  does = s.does;
  spares = s.spares;
  offers = asked_body made.look made.give.body (λ (body : ℤ). IfSome b.present (λ c. body ≡ offered c.kind c.value)) s.offers;
}

-- the first of some steps, and those after it
pub first_served : (made : Made) (rest : List Errand) (b now : Belongings) → AreServed b (errands_at made ++ rest) now
    → (c : Belongings) × IsMadeServed b made c × AreServed c rest now
first_served made rest b now s = go (is_no_errand (errand_of made)) refl s
  where
    go : (t : Bool) → is_no_errand (errand_of made) ≡ t → AreServed b ((if t then [] else errand_of made ∷ []) ++ rest) now
        → (c : Belongings) × IsMadeServed b made c × AreServed c rest now
    go true e s = (b, served_idle made b e, s)
    go false e s = (s.0, served_errand made b s.0 s.1, s.2)
