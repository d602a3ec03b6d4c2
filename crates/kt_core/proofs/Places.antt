-- The places of next commands, as the laws of plans have them.
use Rattle.std.specs.Prelude.{◌==◌, if◌then◌else◌, slice_get}
use Rattle.std.proofs.Common.{◌≡◌, ◌≢◌, ◌<◌, ◌≤◌, ◌+◌, ℕ, zero, suc, Bool, true, false, Some, List, [], ◌∷◌, length, refl, sym, arith, ap, subst, ◌∙◌, inl, inr}
use Rattle.std.proofs.lemmas.Bool.{cases_lt, cases_eq}
use Rattle.std.proofs.lemmas.Bool.Decides.{nat_tests}
use Rattle.kt_meaning.specs.Past.{at_one}
use Rattle.kt_plan.specs.declared.commands.Command.{Command}
use Rattle.kt_promises.specs.Order.{place_of_command, next_place}
use Rattle.kt_promises.specs.Progress as run_world
use Rattle.kt_core.specs.PlanLaws.{PlanLaws}
use Rattle.kt_core.specs.Agendas.{Agenda, agenda_place, agenda_command, IsNextOf, by_at}

-- one command more in front
later : (d : Command) (cs : List Command) (p i j : ℕ) → IsNextOf cs p i j → IsNextOf (d ∷ cs) p (suc i) (suc j)
later d cs p i j n = record {
  from = (let f = n.from in omega arith);
  within = (let w = n.within in omega arith);
  none_before = before;
  own = λ l. n.own (omega (arith, l));
}
  where
    before : (m : ℕ) → suc i ≤ m → m < suc j → by_at (d ∷ cs) m ≢ p
    before zero h k = absurd (omega (arith, h))
    before (suc m) h k = n.none_before m (omega (arith, h)) (omega (arith, k))

-- one of another process in front of all
passed : (d : Command) (cs : List Command) (p j : ℕ) → d.by ≢ p → IsNextOf cs p 0 j → IsNextOf (d ∷ cs) p 0 (suc j)
passed d cs p j other n = record {
  from = omega arith;
  within = (let w = n.within in omega arith);
  none_before = before;
  own = λ l. n.own (omega (arith, l));
}
  where
    before : (m : ℕ) → 0 ≤ m → m < suc j → by_at (d ∷ cs) m ≢ p
    before zero h k = other
    before (suc m) h k = n.none_before m (omega arith) (omega (arith, k))

unlike : (a b : ℕ) → (a == b) ≡ false → a ≢ b
unlike a b e f = grind (arith, nat_tests, e, f)

pub alike : (a b : ℕ) → (a == b) ≡ true → a ≡ b
alike a b e = grind (arith, nat_tests, e)

-- the first command
pub first_place : (p : ℕ) (cs : List Command) → IsNextOf cs p 0 (place_of_command 0 p cs)
first_place p [] = record { from = omega arith; within = omega arith; none_before = λ m h k. absurd (omega (arith, k)); own = λ l. absurd (omega (arith, l)) }
first_place p (d ∷ cs) = go (first_place p cs) (d.by == p) refl
  where
    go : IsNextOf cs p 0 (place_of_command 0 p cs) → (b : Bool) → (d.by == p) ≡ b → IsNextOf (d ∷ cs) p 0 (if b then 0 else suc (place_of_command 0 p cs))
    go r true e = record { from = omega arith; within = omega arith; none_before = λ m h k. absurd (omega (arith, k)); own = λ l. alike d.by p e }
    go r false e = passed d cs p _ (unlike d.by p e) r

-- the command after one
pub following_place : (k p : ℕ) (cs : List Command) → place_of_command k p cs < length cs →
    IsNextOf cs p (suc (place_of_command k p cs)) (place_of_command (suc k) p cs)
following_place zero p [] l = absurd (omega (arith, l))
following_place (suc k) p [] l = absurd (omega (arith, l))
following_place zero p (d ∷ cs) l = go (following_place zero p cs) (d.by == p) l
  where
    go : (place_of_command 0 p cs < length cs → IsNextOf cs p (suc (place_of_command 0 p cs)) (place_of_command 1 p cs)) → (b : Bool) →
        (if b then 0 else suc (place_of_command 0 p cs)) < suc (length cs) →
        IsNextOf (d ∷ cs) p (suc (if b then 0 else suc (place_of_command 0 p cs))) (if b then suc (place_of_command 0 p cs) else suc (place_of_command 1 p cs))
    go r true l = later d cs p 0 _ (first_place p cs)
    go r false l = later d cs p _ _ (r (omega (arith, l)))
following_place (suc k) p (d ∷ cs) l = go (following_place k p cs) (following_place (suc k) p cs) (d.by == p) l
  where
    go : (place_of_command k p cs < length cs → IsNextOf cs p (suc (place_of_command k p cs)) (place_of_command (suc k) p cs)) →
        (place_of_command (suc k) p cs < length cs → IsNextOf cs p (suc (place_of_command (suc k) p cs)) (place_of_command (suc (suc k)) p cs)) → (b : Bool) →
        (if b then suc (place_of_command k p cs) else suc (place_of_command (suc k) p cs)) < suc (length cs) →
        IsNextOf (d ∷ cs) p (suc (if b then suc (place_of_command k p cs) else suc (place_of_command (suc k) p cs)))
        (if b then suc (place_of_command (suc k) p cs) else suc (place_of_command (suc (suc k)) p cs))
    go r t true l = later d cs p _ _ (r (omega (arith, l)))
    go r t false l = later d cs p _ _ (t (omega (arith, l)))

-- there is one such place
pub only_place : (cs : List Command) (p i j k : ℕ) → IsNextOf cs p i j → IsNextOf cs p i k → j ≡ k
only_place cs p i j k a b = elim (cases_lt j k) [
  | inl l ↦ absurd (b.none_before j a.from l (a.own (let w = b.within in omega (arith, l, w))))
  | inr h ↦ elim (cases_lt k j) [
    | inl l ↦ absurd (a.none_before k b.from l (b.own (let w = a.within in omega (arith, l, w))))
    | inr g ↦ omega (arith, h, g)
  ]
]

-- the places of an agenda are those of a world
abbrev pub HasPlaces : Agenda → run_world.Progress → Type 0
HasPlaces a v = (p : ℕ) → p < 64 → agenda_place a p ≡ next_place a.plan v p

pub next_is : PlanLaws → (a : Agenda) (v : run_world.Progress) (p : ℕ) → HasPlaces a v → p < 64 → agenda_command a p ≡ run_world.next_command a.plan v p
next_is laws a v p h low = ap (λ (i : ℕ). slice_get a.plan.commands i) (h p low) ∙ laws.place a.plan v p

-- the next command of a process, where the laws have one
pub next_shown : PlanLaws → (a : Agenda) (v : run_world.Progress) (p : ℕ) (c : Command) → HasPlaces a v → p < 64 → agenda_command a p ≡ Some c → run_world.next_command a.plan v p ≡ Some c
next_shown laws a v p c h low e = sym (next_is laws a v p h low) ∙ e

-- at the start
pub places_at_start : (a : Agenda) (v : run_world.Progress) → ((p : ℕ) → p < 64 → IsNextOf a.plan.commands p 0 (agenda_place a p)) → v.done ≡ (λ p. 0) → HasPlaces a v
places_at_start a v n e p low = only_place a.plan.commands p 0 _ _ (n p low) (subst (λ (d : ℕ → ℕ). IsNextOf a.plan.commands p 0 (place_of_command (d p) p a.plan.commands)) (sym e) (first_place p a.plan.commands))

-- one command of p is done
pub places_after : (a b : Agenda) (v w : run_world.Progress) (p : ℕ) → HasPlaces a v → p < 64 → b.plan ≡ a.plan → agenda_place a p < length a.plan.commands → IsNextOf a.plan.commands p (agenda_place a p + 1) (agenda_place b p) →
    ((q : ℕ) → q ≢ p → agenda_place b q ≡ agenda_place a q) → w.done ≡ at_one p (v.done p + 1) v.done → HasPlaces b w
places_after a b v w p h low same l n others e q under = elim (cases_eq q p) [
  | inl i ↦ subst (λ (z : ℕ). agenda_place b z ≡ next_place b.plan w z) (sym i) here
  | inr d ↦ others q d ∙ (h q under ∙ there d)
]
  where
    commands : b.plan.commands ≡ a.plan.commands
    commands = cc (same)

    done_here : w.done p ≡ suc (v.done p)
    done_here = ap (λ (f : ℕ → ℕ). f p) e ∙ grind (arith, nat_tests)

    done_there : q ≢ p → w.done q ≡ v.done q
    done_there d = ap (λ (f : ℕ → ℕ). f q) e ∙ grind (arith, nat_tests, d)

    at_place : IsNextOf a.plan.commands p (suc (agenda_place a p)) (place_of_command (suc (v.done p)) p a.plan.commands)
    at_place = subst (λ (i : ℕ). IsNextOf a.plan.commands p (suc i) (place_of_command (suc (v.done p)) p a.plan.commands)) (sym (h p low))
        (following_place (v.done p) p a.plan.commands (subst (λ (i : ℕ). i < length a.plan.commands) (h p low) l))

    one : (i : ℕ) → i + 1 ≡ suc i
    one i = omega arith

    here : agenda_place b p ≡ place_of_command (w.done p) p b.plan.commands
    here = only_place a.plan.commands p (suc (agenda_place a p)) _ _ (subst (λ (i : ℕ). IsNextOf a.plan.commands p i (agenda_place b p)) (one (agenda_place a p)) n) at_place
        ∙ (ap (λ (k : ℕ). place_of_command k p a.plan.commands) (sym done_here) ∙ ap (λ (cs : List Command). place_of_command (w.done p) p cs) (sym commands))

    there : q ≢ p → place_of_command (v.done q) q a.plan.commands ≡ place_of_command (w.done q) q b.plan.commands
    there d = ap (λ (k : ℕ). place_of_command k q a.plan.commands) (sym (done_there d)) ∙ ap (λ (cs : List Command). place_of_command (w.done q) q cs) (sym commands)

-- none is done
pub places_same : (a b : Agenda) (v w : run_world.Progress) → HasPlaces a v → b.plan ≡ a.plan → b.next ≡ a.next → w.done ≡ v.done → HasPlaces b w
places_same a b v w h same next e p low =
    cc (next) ∙ (h p low ∙ (ap (λ (f : ℕ → ℕ). place_of_command (f p) p a.plan.commands) (sym e)
    ∙ ap (λ (cs : List Command). place_of_command (w.done p) p cs) (sym (let k : b.plan.commands ≡ a.plan.commands = cc (same) in k))))
