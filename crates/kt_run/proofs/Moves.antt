-- Moves of a run, one after another.
use Rattle.std.specs.Prelude.{Option, unwrap_or, if◌then◌else◌}
use Rattle.std.proofs.Common.{◌≡◌, Bool, true, false, Some, None, List, [], ◌∷◌, ◌++◌, refl, sym, ap, subst}
use Rattle.kt_plan.specs.Limits.{Planned}
use Rattle.kt_promises.specs.Progress.{Progress, progress_at_start}
use Rattle.kt_promises.specs.Runs.{Move, GoesOn, after_moves}
use Rattle.kt_promises.specs.Steps.{enabled, progress_after}

-- the first one is enabled, and the others lead on
pub first_move : (plan : Planned) (u w : Progress) (x : Move) (xs : List Move) → after_moves plan u (x ∷ xs) ≡ Some w → (enabled plan u x.step ≡ true) × (after_moves plan (progress_after plan u x.step x.give) xs ≡ Some w)
first_move plan u w x xs e = go (enabled plan u x.step) refl e
  where
    go : (b : Bool) → enabled plan u x.step ≡ b → (if b then after_moves plan (progress_after plan u x.step x.give) xs else None) ≡ Some w → (enabled plan u x.step ≡ true) × (after_moves plan (progress_after plan u x.step x.give) xs ≡ Some w)
    go true on f = (on, f)
    go false on f = absurd (cc (f))

-- one list after another
pub play_append : (plan : Planned) (xs ys : List Move) (u v w : Progress) → after_moves plan u xs ≡ Some v → after_moves plan v ys ≡ Some w → after_moves plan u (xs ++ ys) ≡ Some w
play_append plan [] ys u v w e f = subst (λ (z : Progress). after_moves plan z ys ≡ Some w) (sym (ap (λ (o : Option Progress). unwrap_or o u) e)) f
play_append plan (x ∷ xs) ys u v w e f = let m = first_move plan u v x xs e in let on = m.0 in rw on (play_append plan xs ys (progress_after plan u x.step x.give) v w m.1 f)

-- a run by given moves, with no default step yet
pub goes_first : (plan : Planned) (given : List Move) (w : Progress) → after_moves plan (progress_at_start plan 0) given ≡ Some w → GoesOn plan 0 given [] w
goes_first plan given w e = record { begun = w; begins = e; default = tt; leads = refl }
