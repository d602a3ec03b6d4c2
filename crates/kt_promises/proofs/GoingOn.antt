-- Runs that go on by default steps.
use Rattle.std.proofs.Common.{◌≡◌, ℕ, ◌+◌, ◌≤◌, ◌<◌, true, List, [], ◌∷◌, ◌++◌, length, refl, arith, ap, inl, inr, Some, None, subst, sym}
use Rattle.std.specs.Prelude.{◌⊎◌, Option, unwrap_or, if◌then◌else◌}
use Rattle.kt_protocol.proofs.Choices.{at_if}
use Rattle.kt_plan.specs.Limits.{Planned, IsPlan}
use Rattle.kt_plan.specs.declared.steps.Step.{Step}
use Rattle.kt_plan.specs.declared.steps.Give.{Give}
use Rattle.kt_promises.specs.Runs.{Move, after_moves, RunReaches, AreDefaultMoves, GoesOn, after_gives, next_default}
use Rattle.kt_promises.specs.Work.{most_steps_of_run}
use Rattle.kt_promises.proofs.RunsEnd.{limits}
use Rattle.kt_promises.specs.Progress.{Progress, progress_at_start}
use Rattle.kt_promises.specs.Steps.{enabled, progress_after, is_at_rest}
use Rattle.kt_promises.specs.Defaults.{default_step}
use Rattle.kt_promises.proofs.RunSteps.{few_steps_seen, rest_seen}
use Rattle.kt_promises.proofs.DefaultSteps.{nothing_default, default_on}
use Rattle.kt_promises.specs.Order.{IsFirstEnabled}
use Rattle.kt_promises.proofs.DefaultOrder.{some_is}

-- one list of moves after another
pub play_append : (plan : Planned) (xs ys : List Move) (u v w : Progress) → after_moves plan u xs ≡ Some v → after_moves plan v ys ≡ Some w → after_moves plan u (xs ++ ys) ≡ Some w
play_append plan [] ys u v w e f = let i : u ≡ v = ap (λ (o : Option Progress). unwrap_or o u) e in rw i f
play_append plan (x ∷ xs) ys u v w e f = at_if (λ (o : Option Progress). o ≡ Some v → (if enabled plan u x.step then after_moves plan (progress_after plan u x.step x.give) (xs ++ ys) else None) ≡ Some w) (enabled plan u x.step) (after_moves plan (progress_after plan u x.step x.give) xs) None
    (λ b z. rw b (play_append plan xs ys (progress_after plan u x.step x.give) v w z f))
    (λ b z. absurd (cc (z))) e

pub goes_run : (plan : Planned) (first : ℕ) (given more : List Move) (w : Progress) → GoesOn plan first given more w → after_moves plan (progress_at_start plan first) (given ++ more) ≡ Some w
goes_run plan first given more w g = play_append plan given more (progress_at_start plan first) g.begun w g.begins g.leads

pub goes_reached : (plan : Planned) (first : ℕ) (given more : List Move) (w : Progress) → GoesOn plan first given more w → RunReaches plan first w
goes_reached plan first given more w g = record { moves = given ++ more; leads = goes_run plan first given more w g }

-- with no default step yet
pub goes_first : (plan : Planned) (first : ℕ) (given : List Move) (w : Progress) → after_moves plan (progress_at_start plan first) given ≡ Some w → GoesOn plan first given [] w
goes_first plan first given w e = record { begun = w; begins = e; default = tt; leads = refl }

-- one default step more
default_more : (plan : Planned) (xs : List Move) (u v : Progress) (x : Step) (give : Give) → AreDefaultMoves plan u xs → after_moves plan u xs ≡ Some v → IsFirstEnabled plan v x → AreDefaultMoves plan u (xs ++ record { step = x; give = give } ∷ [])
default_more plan [] u v x give a e d = let i : u ≡ v = ap (λ (o : Option Progress). unwrap_or o u) e in (subst (λ (z : Progress). IsFirstEnabled plan z x) (sym i) d, tt)
default_more plan (m ∷ xs) u v x give a e d = (
  a.0,
  at_if (λ (o : Option Progress). o ≡ Some v → AreDefaultMoves plan (progress_after plan u m.step m.give) (xs ++ record { step = x; give = give } ∷ [])) (enabled plan u m.step) (after_moves plan (progress_after plan u m.step m.give) xs) None
      (λ b z. default_more plan xs (progress_after plan u m.step m.give) v x give a.1 z d)
      (λ b z. absurd (cc (z))) e,
)

pub goes_next : (plan : Planned) (first : ℕ) (given more : List Move) (w : Progress) (x : Step) (give : Give) → IsPlan plan → GoesOn plan first given more w → default_step plan w ≡ Some x →
    GoesOn plan first given (more ++ record { step = x; give = give } ∷ []) (progress_after plan w x give)
goes_next plan first given more w x give i g d = record {
  begun = g.begun;
  begins = g.begins;
  default = default_more plan more g.begun w x give g.default g.leads (some_is plan w x d);
  leads = play_append plan more (record { step = x; give = give } ∷ []) g.begun w (progress_after plan w x give) g.leads (rw (default_on plan first w x i (goes_reached plan first given more w g) d) refl);
}

length_both : {X : Type 0} (l m : List X) → length (l ++ m) ≡ length l + length m
length_both [] m = omega arith
length_both (x ∷ l) m = let e = length_both l m in omega (arith, e)

pub goes_few : (plan : Planned) (first : ℕ) (given more : List Move) (w : Progress) → IsPlan plan → GoesOn plan first given more w → length given + length more ≤ most_steps_of_run plan (length w.now.log)
goes_few plan first given more w i g = let a = few_steps_seen plan first (given ++ more) w i (goes_run plan first given more w g) in let b = length_both given more in omega (arith, a, b)

most_rises : (plan : Planned) (m n : ℕ) → m ≤ n → most_steps_of_run plan m ≤ most_steps_of_run plan n
most_rises plan m n l = omega (arith, l)

pub goes_below : (plan : Planned) (first : ℕ) (given more : List Move) (w : Progress) → IsPlan plan → (length plan.names) ≤ 64 → length plan.commands ≤ 4096 → length w.now.log ≤ 16777216 → GoesOn plan first given more w → length given + length more < 67108864
goes_below plan first given more w i a b l g = let x = goes_few plan first given more w i g in let y = limits plan (length w.now.log) a b l in omega (arith, x, y)

pub goes_rest : (plan : Planned) (first : ℕ) (given more : List Move) (w : Progress) → IsPlan plan → GoesOn plan first given more w → default_step plan w ≡ None → is_at_rest plan w ≡ true
goes_rest plan first given more w i g d = let r = goes_reached plan first given more w g in rest_seen plan first w i r (nothing_default plan first w i r d)

-- what the gives lead to, from where a run is
pub record Given (plan : Planned) (first : ℕ) (given : List Move) (before n : ℕ) (w : Progress) : Type 0 where
  pub more : List Move
  pub goes : GoesOn plan first given more w
  pub ends : (default_step plan w ≡ None) ⊎ (length more ≡ before + n)

pub given_on : (plan : Planned) (first : ℕ) (given more : List Move) (w : Progress) (gives : List Give) → IsPlan plan → GoesOn plan first given more w → Given plan first given (length more) (length gives) (after_gives plan w gives)
given_on plan first given more w [] i g = record { more = more; goes = g; ends = inr (omega arith) }
given_on plan first given more w (x ∷ xs) i g = go (λ s d. given_on plan first given (more ++ record { step = s; give = x } ∷ []) (progress_after plan w s x) xs i (goes_next plan first given more w s x i g d)) (default_step plan w) refl
  where
    go : ((s : Step) → default_step plan w ≡ Some s → Given plan first given (length (more ++ record { step = s; give = x } ∷ [])) (length xs) (after_gives plan (progress_after plan w s x) xs)) → (o : Option Step) → default_step plan w ≡ o → Given plan first given (length more) (length (x ∷ xs)) (next_default (λ s. after_gives plan (progress_after plan w s x) xs) w o)
    go f None d = record { more = more; goes = g; ends = inl d }
    go f (Some s) d = let a = f s d in record {
      more = a.more;
      goes = a.goes;
      ends = elim a.ends [
        | inl e ↦ inl e
        | inr e ↦ inr (let b = length_both more (record { step = s; give = x } ∷ []) in omega (arith, e, b))
      ];
    }

-- more gives than a run can have steps lead to rest
pub given_rest : (plan : Planned) (first rows : ℕ) (given : List Move) (w : Progress) (gives : List Give) → IsPlan plan → after_moves plan (progress_at_start plan first) given ≡ Some w → length (after_gives plan w gives).now.log ≤ rows → most_steps_of_run plan rows < length given + length gives →
    is_at_rest plan (after_gives plan w gives) ≡ true
given_rest plan first rows given w gives i e l h = let a = given_on plan first given [] w gives i (goes_first plan first given w e) in elim a.ends [
  | inl d ↦ goes_rest plan first given a.more (after_gives plan w gives) i a.goes d
  | inr d ↦ absurd (let x = goes_few plan first given a.more (after_gives plan w gives) i a.goes in let y = most_rises plan (length (after_gives plan w gives).now.log) rows l in omega (arith, x, y, h, d))
]
