-- A step that is served keeps what its process has what is due to it.
use Rattle.std.proofs.Common.{length, ◌≡◌, ◌≢◌, ◌∙◌, ◌==◌, ◌<◌, arith, ℕ, ℤ, Bool, true, false, List, [], ◌∷◌, map, refl, sym, subst, Option, Some, None}
use Rattle.std.specs.Prelude.{◌&&◌, nat_lt, if◌then◌else◌}
use Rattle.std.proofs.lemmas.Bool.Decides.{nat_tests}
use Rattle.kt_plan.specs.declared.steps.Step.{Step}
use Rattle.kt_plan.specs.declared.steps.Give.{Give}
use Rattle.kt_plan.specs.declared.steps.Step.TheVariants.{Do, Take}
use Rattle.kt_core.specs.Shown.{Mirrors}
use Rattle.kt_core.specs.Worlds.{World}
use Rattle.kt_promises.specs.Steps.{process_of_step, enabled, progress_after}
use Rattle.kt_object.specs.Holdings.{Content}
use Rattle.kt_promises.specs.Runs.{Move, after_moves}
use Rattle.kt_plan.specs.Limits.{Planned}
use Rattle.kt_promises.specs.Offers.{GivesOffer, GivesOffers}
use Rattle.kt_promises.specs.Progress.{Progress}
use Rattle.kt_run.specs.Objects.{Belongings, rules_of, first_of, HoldsDue}
use Rattle.kt_machine.specs.Values.{Rules}
use Rattle.kt_threads.specs.Errands.{errands_of}
use Rattle.kt_threads.specs.Histories.{IsMade, made_by}
use Rattle.kt_threads.specs.Moves.{move_of}
use Rattle.kt_threads.specs.Workers.{AreServed}
use Rattle.kt_threads.specs.WorldLaws.{WorldLaws}
use Rattle.kt_threads.specs.declared.state.Made.{Made}
use Rattle.kt_threads.proofs.Asking.{IsMadeServed, first_served}
use Rattle.kt_threads.proofs.Telling.{equal_of, kept, left}

-- at a process's own moves, what is given is what its object offers, if it is asked for
abbrev pub GivesOf : Rules (List ℤ) → ℕ → Planned → Progress → List Move → Type 0
GivesOf rules p plan w [] = Unit {0}
GivesOf rules p plan w (x ∷ xs) = (p ≡ process_of_step x.step → GivesOffer (λ (_ : ℕ). rules) plan w x.step x.give) × GivesOf rules p plan (progress_after plan w x.step x.give) xs

-- from one world of a run to another: a process that had what was due to it, and made its steps, has it again
abbrev pub KeepsDue : Planned → List Content → ℕ → Progress → List Made → Progress → Type 0
KeepsDue plan objects p v steps end = (b now : Belongings) → HoldsDue objects v.now.log p b → AreServed b (errands_of (made_by p steps)) now
    → HoldsDue objects end.now.log p now × GivesOf (rules_of (first_of objects)) p plan v (map move_of steps)

-- one step, from a world that a run led to
module _ (laws : WorldLaws) (plan : Planned) (made : Made) (before after : World) (first : ℕ) (v : Progress) (plans : before.agenda.plan ≡ plan)
    (r : Mirrors before.agenda before.system first v) (step : IsMade before made after) where
  abbrev x : Step
  x = made.told.step

  abbrev give : Give
  give = made.give

  abbrev w : Progress
  w = progress_after plan v x give

  its : (objects : List Content) (b c : Belongings) → IsMadeServed b made c → HoldsDue objects v.now.log (process_of_step x) b
      → HoldsDue objects w.now.log (process_of_step x) c
  its objects b c s h =
      subst (λ (z : Planned). HoldsDue objects (progress_after z v x give).now.log (process_of_step x) c) plans
      (laws.its before after x give made.told.acts first v objects b c step.makes r (record { does = s.does; spares = s.spares }) h)

  others : (objects : List Content) (p : ℕ) (b : Belongings) → p ≢ process_of_step x → HoldsDue objects v.now.log p b → HoldsDue objects w.now.log p b
  others objects p b n h =
      subst (λ (z : Planned). HoldsDue objects (progress_after z v x give).now.log p b) plans
      (laws.others before after x give made.told.acts first v objects p b step.makes r n h)

  gives : (objects : List Content) (b c : Belongings) → IsMadeServed b made c → HoldsDue objects v.now.log (process_of_step x) b
      → GivesOffer (λ (_ : ℕ). rules_of (first_of objects)) plan v x give
  gives objects b c s h =
      subst (λ (z : Planned). GivesOffer (λ (_ : ℕ). rules_of (first_of objects)) z v x give) plans
      (laws.gives before x give first v objects b r h (λ n. s.offers (step.look first v r ∙ n)))

  of_first : (p : ℕ) → (process_of_step made.told.step == p) ≡ true → p ≡ process_of_step x
  of_first p e = sym (equal_of (process_of_step made.told.step) p e)

  of_other : (p : ℕ) → (process_of_step made.told.step == p) ≡ false → p ≢ process_of_step x
  of_other p e = λ q. differs (process_of_step made.told.step) p e q
    where
      differs : (a b : ℕ) → (a == b) ≡ false → b ≡ a → ⊥
      differs a b e s = let f : (a == b) ≡ true = grind (arith, nat_tests, s) in absurd (cc (e, f))

  pub served_more : (objects : List Content) (p : ℕ) (steps : List Made) (end : Progress) → KeepsDue plan objects p w steps end
      → KeepsDue plan objects p v (made ∷ steps) end
  served_more objects p steps end rest = λ b now h s. go b now h s (process_of_step made.told.step == p) refl
    where
      go : (b now : Belongings) → HoldsDue objects v.now.log p b → AreServed b (errands_of (made_by p (made ∷ steps))) now → (t : Bool) → (process_of_step made.told.step == p) ≡ t
          → HoldsDue objects end.now.log p now × GivesOf (rules_of (first_of objects)) p plan v (map move_of (made ∷ steps))
      go b now h s true e =
          let q = of_first p e in
          let here : HoldsDue objects v.now.log (process_of_step x) b = subst (λ (i : ℕ). HoldsDue objects v.now.log i b) q h in
          let l : AreServed b (errands_of (made ∷ made_by p steps)) now = subst (λ (l : List Made). AreServed b (errands_of l) now) (kept (λ (m : Made). process_of_step m.told.step == p) made steps e) s in
          let a = first_served made (errands_of (made_by p steps)) b now l in
          let t = rest a.0 now (subst (λ (i : ℕ). HoldsDue objects w.now.log i a.0) (sym q) (its objects b a.0 a.1 here)) a.2 in
          (t.0, (λ _. gives objects b a.0 a.1 here, t.1))
      go b now h s false e =
          let n = of_other p e in
          let a : AreServed b (errands_of (made_by p steps)) now = subst (λ (l : List Made). AreServed b (errands_of l) now) (left (λ (m : Made). process_of_step m.told.step == p) made steps e) s in
          let t = rest b now (others objects p b n h) a in
          (t.0, (λ q. absurd (n q), t.1))

-- what is given at the moves of each process is what is given at all

and_left : (a b : Bool) → (a && b) ≡ true → a ≡ true
and_left true b e = refl
and_left false b e = absurd (cc (e))

inside : (plan : Planned) (w : Progress) (x : Step) → enabled plan w x ≡ true → process_of_step x < (length plan.names)
inside plan w (Do p) e = let l = and_left (nat_lt p (length plan.names)) _ e in grind (arith, nat_tests, l)
inside plan w (Take p q) e = let l = and_left (nat_lt p (length plan.names)) (nat_lt q (length plan.names)) (and_left _ _ e) in grind (arith, nat_tests, l)

on_first : (b : Bool) (there : Option Progress) (end : Progress) → (if b then there else None) ≡ Some end → (b ≡ true) × (there ≡ Some end)
on_first true there end e = (refl, e)
on_first false there end e = absurd (cc (e))

pub gives_all : (rules : ℕ → Rules (List ℤ)) (plan : Planned) (xs : List Move) (v end : Progress) → after_moves plan v xs ≡ Some end
    → ((p : ℕ) → p < (length plan.names) → GivesOf (rules p) p plan v xs) → GivesOffers rules plan v xs
gives_all rules plan [] v end e g = tt
gives_all rules plan (x ∷ xs) v end e g =
    let t = on_first (enabled plan v x.step) (after_moves plan (progress_after plan v x.step x.give) xs) end e in
    ((g (process_of_step x.step) (inside plan v x.step t.0)).0 refl, gives_all rules plan xs (progress_after plan v x.step x.give) end t.1 (λ p l. (g p l).1))
