-- Decisions, process by process.
use Rattle.std.proofs.Common.{◌≡◌, ◌≢◌, ℕ, ◌+◌, ◌≤◌, ◌&&◌, nat_lt, if◌then◌else◌, Bool, true, false, List, length, take, refl, sym, ap, subst, ◌∙◌, arith, inl, inr, length-take}
use Rattle.std.specs.Prelude.{slice_index_or}
use Rattle.std.proofs.lemmas.Bool.{cases_eq}
use Rattle.std.proofs.lemmas.Bool.Decides.{nat_tests}
use Rattle.kt_base.specs.Sets.{has}
use Rattle.kt_spacetime.specs.declared.deeds.Deed.{Deed}
use Rattle.kt_rules.specs.declared.instances.Instance.{Instance}
use Rattle.kt_walk.specs.declared.control.ControlState.{ControlState}
use Rattle.kt_walk.specs.declared.process_state.ProcessState.{ProcessState}
use Rattle.kt_meaning.specs.Past.{Past, at_one}
use Rattle.kt_walk.specs.Stages.{with_permanent, with_live, permanent_below, permanent_at, undone_below, undone_at, IsWithin}
use Rattle.kt_walk.specs.ControlOf.{KeepsRest}
use Rattle.kt_walk.specs.PartsOf.{ShowsProcessStates}
use Rattle.kt_meaning.proofs.Shown.{at_same, at_other}

pub keeps_rest : (t : ControlState) → KeepsRest t t
keeps_rest t = record { rows = refl; instances = refl; beginning = refl; drops = refl }

pub keeps_rest_twice : (t u v : ControlState) → KeepsRest t u → KeepsRest u v → KeepsRest t v
keeps_rest_twice t u v a b = record { rows = b.rows ∙ a.rows; instances = b.instances ∙ a.instances; beginning = b.beginning ∙ a.beginning; drops = b.drops ∙ a.drops }

-- the same positions, and the same histories
pub same_permanent : (ws : List ProcessState) (s : Past) (f g : ℕ → ℕ) → ((q : ℕ) → f q ≡ g q) → ShowsProcessStates ws (with_permanent s f) → ShowsProcessStates ws (with_permanent s g)
same_permanent ws s f g e h = subst (λ (x : ℕ → ℕ). ShowsProcessStates ws (with_permanent s x)) (λ i q. e q i) h

pub same_live : (ws : List ProcessState) (s : Past) (f g : ℕ → List Deed) → ((q : ℕ) → f q ≡ g q) → ShowsProcessStates ws (with_live s f) → ShowsProcessStates ws (with_live s g)
same_live ws s f g e h = subst (λ (x : ℕ → List Deed). ShowsProcessStates ws (with_live s x)) (λ i q. e q i) h

-- no permanent position lies past the end where histories are cut back to them
pub within_below : (n : ℕ) (v : Instance) (s : Past) → ((q : ℕ) → s.permanent q ≤ length (s.live q)) → (q : ℕ) → s.permanent q ≤ length (undone_below n v s.permanent s.live q)
within_below n v s within q = at_test (nat_lt q n && has v.joined q)
  where
    at_test : (b : Bool) → s.permanent q ≤ length (if b then take (s.permanent q) (s.live q) else s.live q)
    at_test true = omega (arith, within q, length-take (s.permanent q) (s.live q))
    at_test false = within q

-- a process more
pub permanent_none : (v : Instance) (permanent : ℕ → ℕ) (q : ℕ) → permanent q ≡ permanent_below 0 v permanent q
permanent_none v permanent q = grind (arith, nat_tests)

pub permanent_next : (n m : ℕ) (v : Instance) (permanent : ℕ → ℕ) → m ≡ n + 1 → (q : ℕ) → permanent_at n v (permanent_below n v permanent) q ≡ permanent_below m v permanent q
permanent_next n m v permanent e q = elim (cases_eq q n) [
  | inl same ↦ subst (λ (x : ℕ). permanent_at n v (permanent_below n v permanent) x ≡ permanent_below m v permanent x) (sym same) (here (has v.joined n) refl)
  | inr other ↦ there other (has v.joined n)
]
  where
    here : (b : Bool) → has v.joined n ≡ b → (if b then at_one n (slice_index_or v.positions n 0) (permanent_below n v permanent) else permanent_below n v permanent) n ≡ permanent_below m v permanent n
    here true is = at_same n (slice_index_or v.positions n 0) (permanent_below n v permanent) ∙ grind (arith, nat_tests, is, e)
    here false is = grind (arith, nat_tests, is, e)

    there : q ≢ n → (b : Bool) → (if b then at_one n (slice_index_or v.positions n 0) (permanent_below n v permanent) else permanent_below n v permanent) q ≡ permanent_below m v permanent q
    there other true = at_other n q (slice_index_or v.positions n 0) (permanent_below n v permanent) other ∙ grind (arith, nat_tests, e, other)
    there other false = grind (arith, nat_tests, e, other)

pub within_next : (n : ℕ) (v : Instance) (s : Past) → IsWithin v s → IsWithin v (with_permanent s (permanent_below n v s.permanent))
within_next n v s w q j =
    let h = w q j in
    (at_test (nat_lt q n && has v.joined q) h.0, h.1)
  where
    at_test : (b : Bool) → s.permanent q ≤ slice_index_or v.positions q 0 → (if b then slice_index_or v.positions q 0 else s.permanent q) ≤ slice_index_or v.positions q 0
    at_test true l = omega arith
    at_test false l = l

pub undone_none : (v : Instance) (permanent : ℕ → ℕ) (live : ℕ → List Deed) (q : ℕ) → live q ≡ undone_below 0 v permanent live q
undone_none v permanent live q = grind (arith, nat_tests)

pub undone_next : (n m : ℕ) (v : Instance) (permanent : ℕ → ℕ) (live : ℕ → List Deed) → m ≡ n + 1 → (q : ℕ) → undone_at n v permanent (undone_below n v permanent live) q ≡ undone_below m v permanent live q
undone_next n m v permanent live e q = elim (cases_eq q n) [
  | inl same ↦ subst (λ (x : ℕ). undone_at n v permanent (undone_below n v permanent live) x ≡ undone_below m v permanent live x) (sym same) (here (has v.joined n) refl)
  | inr other ↦ there other (has v.joined n)
]
  where
    below : undone_below n v permanent live n ≡ live n
    below = grind (arith, nat_tests)

    here : (b : Bool) → has v.joined n ≡ b → (if b then at_one n (take (permanent n) (undone_below n v permanent live n)) (undone_below n v permanent live) else undone_below n v permanent live) n ≡ undone_below m v permanent live n
    here true is = at_same n (take (permanent n) (undone_below n v permanent live n)) (undone_below n v permanent live) ∙ (ap (take (permanent n)) below ∙ grind (arith, nat_tests, is, e))
    here false is = grind (arith, nat_tests, is, e)

    there : q ≢ n → (b : Bool) → (if b then at_one n (take (permanent n) (undone_below n v permanent live n)) (undone_below n v permanent live) else undone_below n v permanent live) q ≡ undone_below m v permanent live q
    there other true = at_other n q (take (permanent n) (undone_below n v permanent live n)) (undone_below n v permanent live) other ∙ grind (arith, nat_tests, e, other)
    there other false = grind (arith, nat_tests, e, other)
