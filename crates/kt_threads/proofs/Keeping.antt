-- What processes have at the end of a run in threads is what is due to them.
use Rattle.std.proofs.Common.{◌≡◌, ◌∙◌, ◌<◌, arith, ℕ, zero, suc, List, [], ◌∷◌, length, map, refl, ap, subst, Option, Some, None}
use Rattle.std.specs.Prelude.{option_map, slice_get, slice_index_or}
use Rattle.kt_object.specs.Holdings.{Content, content, AreSaved}
use Rattle.kt_plan.specs.Limits.{Planned}
use Rattle.kt_promises.specs.Progress.{progress_at_start}
use Rattle.kt_run.specs.Objects.{Belongings, rules_of, first_of, rules_by, HoldsDue, HoldDue}
use Rattle.kt_run.specs.Runs.{IsRun}
use Rattle.kt_spacetime.specs.declared.event.Event.{Event}
use Rattle.kt_threads.specs.Histories as histories
use Rattle.kt_threads.specs.Histories.{AreTheirs}
use Rattle.kt_threads.specs.Moves.{move_of}
use Rattle.kt_threads.specs.Workers.{AreServed, AllServed}
use Rattle.kt_threads.specs.declared.asked.Errand.{Errand}
use Rattle.kt_threads.specs.declared.state.Made.{Made}
use Rattle.kt_threads.specs.WorldLaws.{WorldLaws}
use Rattle.kt_threads.proofs.Moving.{run_of, served_of, nothing_tentative}
use Rattle.kt_threads.proofs.Serving.{GivesOf}

at_each : (olds : List Belongings) (lists : List (List Errand)) (news : List Belongings) → AllServed olds lists news → (p : ℕ) (c : Belongings)
    → slice_get news p ≡ Some c → (b : Belongings) × (slice_get olds p ≡ Some b) × AreServed b (slice_index_or lists p []) c
at_each [] [] [] s p c e = absurd (cc (e))
at_each (old ∷ olds) (steps ∷ lists) (new ∷ news) s zero c e = let f : new ≡ c = cc (e) in (old, refl, subst (λ (x : Belongings). AreServed old steps x) f s.0)
at_each (old ∷ olds) (steps ∷ lists) (new ∷ news) s (suc p) c e = at_each olds lists news s.1 p c e
at_each [] [] (new ∷ news) s p c e = absurd s
at_each [] (steps ∷ lists) news s p c e = absurd s
at_each (old ∷ olds) [] news s p c e = absurd s
at_each (old ∷ olds) (steps ∷ lists) [] s p c e = absurd s

as_many : (olds : List Belongings) (lists : List (List Errand)) (news : List Belongings) → AllServed olds lists news
    → (length news ≡ length olds) × (length lists ≡ length news)
as_many [] [] [] s = (refl, refl)
as_many (old ∷ olds) (steps ∷ lists) (new ∷ news) s = let t = as_many olds lists news s.1 in (ap suc t.0, ap suc t.1)
as_many [] [] (new ∷ news) s = absurd s
as_many [] (steps ∷ lists) news s = absurd s
as_many (old ∷ olds) [] news s = absurd s
as_many (old ∷ olds) (steps ∷ lists) [] s = absurd s

within : (xs : List Belongings) (p : ℕ) (c : Belongings) → slice_get xs p ≡ Some c → p < length xs
within [] p c e = absurd (cc (e))
within (x ∷ xs) zero c e = omega arith
within (x ∷ xs) (suc p) c e = let l = within xs p c e in omega (arith, l)

got : (xs : List Belongings) (p : ℕ) → p < length xs → (c : Belongings) × (slice_get xs p ≡ Some c)
got [] p l = absurd (omega (arith, l))
got (x ∷ xs) zero l = (x, refl)
got (x ∷ xs) (suc p) l = got xs p (omega (arith, l))

none_saved : (o : Option Content) (t : Option (List ℕ)) → o ≡ None → AreSaved o t → t ≡ None
none_saved None None e h = refl
none_saved None (Some saved) e h = absurd h
none_saved (Some c) t e h = absurd (cc (e))

-- all have what is due to them
module _ (laws : WorldLaws) (plan : Planned) (steps : List Made) (rows : List Event) (lived : histories.IsWholeHistory plan steps rows) (lists : List (List Errand))
    (theirs : AreTheirs (length plan.names) steps lists) (olds news : List Belongings) (served : AllServed olds lists news)
    (cast : List (List Content)) (due : HoldDue cast [] olds) where
  abbrev objects : ℕ → List Content
  objects p = slice_index_or cast p []

  each : (p : ℕ) (c : Belongings) → slice_get news p ≡ Some c → HoldsDue (objects p) rows p c
      × GivesOf (rules_by cast p) p plan (progress_at_start plan 0) (map move_of steps)
  each p c e =
      let t = at_each olds lists news served p c e in
      let l = within news p c e in
      let n = (as_many olds lists news served).1 in
      let m = theirs.count in
      served_of laws plan steps rows lived (objects p) p t.0 c (due.each p t.0 t.1)
      (subst (λ (l : List Errand). AreServed t.0 l c) (theirs.each p (omega (arith, l, n, m))) t.2)

  pub due_then : HoldDue cast rows news
  due_then = record { count = (as_many olds lists news served).0 ∙ due.count; each = λ p c e. (each p c e).0 }

  gives : (p : ℕ) → p < length plan.names → GivesOf (rules_by cast p) p plan (progress_at_start plan 0) (map move_of steps)
  gives p l =
      let n = (as_many olds lists news served).1 in
      let m = theirs.count in
      let g = got news p (omega (arith, l, n, m)) in
      (each p g.0 g.1).1

  pub run_then : IsRun plan cast (map move_of steps) rows
  run_then = run_of laws plan steps rows lived cast gives

  pub settled_then : (p : ℕ) (c : Belongings) → slice_get news p ≡ Some c → c.depot.tentative ≡ None
  settled_then p c e =
      let first = first_of (objects p) in
      none_saved _ c.depot.tentative (ap (option_map (content first.kind)) (nothing_tentative laws plan steps rows lived (rules_of first) p))
      (each p c e).0.holds.tentative
