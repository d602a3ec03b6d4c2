-- The transitions in one piece, and the lists as kt_fifo has them.
use Rattle.std.proofs.Common.{◌≡◌, ◌≢◌, ℕ, Bool, true, false, List, [], ◌∷◌, ◌++◌, refl, arith, sym, ap, ap₂, ◌∙◌, Option, Some, None, inl, inr, ◌⊎◌}
use Rattle.std.specs.Prelude.{◌==◌, ◌&&◌, if◌then◌else◌, drop}
use Rattle.std.proofs.Math.Path.{fun_ext}
use Rattle.std.proofs.lemmas.Bool.{cases_eq}
use Rattle.std.proofs.lemmas.Bool.Decides.{nat_tests}
use Rattle.kt_fifo.specs.declared.parcels.Parcel.{Parcel}
use Rattle.kt_fifo.specs.declared.parcels.Parcel.TheVariants.{Reply}
use Rattle.kt_fifo.specs.Channels.{at_pair}
use Rattle.kt_spacetime.specs.declared.event.Event.{Event}
use Rattle.kt_spacetime.specs.declared.event.Event.TheVariants.{Closed}
use Rattle.kt_meaning.specs.Past.{at_one}
use Rattle.kt_protocol.proofs.Updates.{at_one_here, at_one_other}
use Rattle.kt_machine.specs.Seen.{SeenProcess, SeenLists, Seen}
use Rattle.kt_machine.specs.ListChanges as changes
use Rattle.kt_machine.specs.SeenClosing.{seen_closing_rollback, seen_closing, seen_closing_checkpoint, seen_deciding, seen_ending, seen_settling}
use Rattle.kt_machine.specs.InOnePiece.{with_process, process_after_checkpoint, process_after_rollback, held_after_rollback, kept_after_rollback, log_closed, ended, settled}

-- a process set twice
pub set_twice : {X : Type 0} (p : ℕ) (x y : X) (f : ℕ → X) → at_one p x (at_one p y f) ≡ at_one p x f
set_twice {X} p x y f = fun_ext (λ u. go (u == p) u)
  where
    go : (b : Bool) (u : ℕ) → (if b then x else if b then y else f u) ≡ (if b then x else f u)
    go true u = refl
    go false u = refl

pub set_same : {X : Type 0} (p : ℕ) (f : ℕ → X) → at_one p (f p) f ≡ f
set_same {X} p f = fun_ext (λ u. go u (cases_eq u p))
  where
    go : (u : ℕ) → (u ≡ p) ⊎ (u ≢ p) → at_one p (f p) f u ≡ f u
    go u c = elim c [
      | inl e ↦ ap (at_one p (f p) f) e ∙ (at_one_here p (f p) f ∙ ap f (sym e))
      | inr n ↦ at_one_other p u (f p) f n
    ]

-- with the process at hand
abbrev closes_with : Seen → ℕ → ℕ → SeenProcess → Bool → Seen
closes_with v p k z c = if z.part.is_rollback then with_process v p (process_after_rollback z c) (changes.with_decisions v.channel p k c z.part.asked) (held_after_rollback c p z.part.noted v.kept v.held) (kept_after_rollback c p v.kept) (v.log ++ Closed p k ∷ [])
    else with_process v p (process_after_checkpoint z c) (changes.with_decisions v.channel p k c z.part.asked) v.held (changes.trims c p z.part.marks v.kept) (v.log ++ Closed p k ∷ [])

restores_as : (v : Seen) (p k : ℕ) (c : Bool) → seen_closing_rollback v p k c ≡ with_process v p (process_after_rollback (v.states p) c) (changes.with_decisions v.channel p k c (v.states p).part.asked) (held_after_rollback c p (v.states p).part.noted v.kept v.held) (kept_after_rollback c p v.kept) (v.log ++ Closed p k ∷ [])
restores_as v p k true = refl
restores_as v p k false = refl

pub closes_as : (v : Seen) (p k : ℕ) (c : Bool) → seen_closing v p k c ≡ closes_with v p k (v.states p) c
closes_as v p k c = ap (λ (x : Seen). if (v.states p).part.is_rollback then x else seen_closing_checkpoint v p k c) (restores_as v p k c)

abbrev ends_with : Seen → ℕ → ℕ → SeenProcess → Option ℕ → Seen
ends_with v p k z (Some to) = record v { channel = changes.with_parcel v.channel p to (Reply k z.part.willing) }
ends_with v p k z None = closes_with (seen_deciding v p k z.part.willing) p k z z.part.willing

ends_as : (v : Seen) (p k : ℕ) (o : Option ℕ) → seen_ending v p k o ≡ ends_with v p k (v.states p) o
ends_as v p k (Some to) = refl
ends_as v p k None = closes_as (seen_deciding v p k (v.states p).part.willing) p k (v.states p).part.willing

abbrev settles_with : Seen → ℕ → ℕ → SeenProcess → Seen
settles_with v p k z = if z.part.awaited == 0 then ends_with v p k z z.part.parent else v

settles_as : (v : Seen) (p k : ℕ) → seen_settling v p k ≡ settles_with v p k (v.states p)
settles_as v p k = ap (λ (x : Seen). if (v.states p).part.awaited == 0 then x else v) (ends_as v p k (v.states p).part.parent)

-- p has become y
module _ (v : Seen) (p k : ℕ) (y : SeenProcess) where
  closed_twice : (roll c : Bool) (log : List Event) → (if roll then with_process (record v { states = at_one p y v.states; log = log }) p (process_after_rollback y c) (changes.with_decisions v.channel p k c y.part.asked) (held_after_rollback c p y.part.noted v.kept v.held) (kept_after_rollback c p v.kept) (log ++ Closed p k ∷ [])
      else with_process (record v { states = at_one p y v.states; log = log }) p (process_after_checkpoint y c) (changes.with_decisions v.channel p k c y.part.asked) v.held (changes.trims c p y.part.marks v.kept) (log ++ Closed p k ∷ []))
      ≡ (if roll then with_process v p (process_after_rollback y c) (changes.with_decisions v.channel p k c y.part.asked) (held_after_rollback c p y.part.noted v.kept v.held) (kept_after_rollback c p v.kept) (log ++ Closed p k ∷ [])
      else with_process v p (process_after_checkpoint y c) (changes.with_decisions v.channel p k c y.part.asked) v.held (changes.trims c p y.part.marks v.kept) (log ++ Closed p k ∷ []))
  closed_twice true c log = ap (λ (f : ℕ → SeenProcess). record v { states = f; channel = changes.with_decisions v.channel p k c y.part.asked; held = held_after_rollback c p y.part.noted v.kept v.held; kept = kept_after_rollback c p v.kept; log = log ++ Closed p k ∷ [] }) (set_twice p (process_after_rollback y c) y v.states)
  closed_twice false c log = ap (λ (f : ℕ → SeenProcess). record v { states = f; channel = changes.with_decisions v.channel p k c y.part.asked; kept = changes.trims c p y.part.marks v.kept; log = log ++ Closed p k ∷ [] }) (set_twice p (process_after_checkpoint y c) y v.states)

  ended_as : (roll : Bool) (o : Option ℕ) → y.part.is_rollback ≡ roll → ends_with (record v { states = at_one p y v.states }) p k y o ≡ ended v p k y roll o
  ended_as roll (Some to) e = refl
  ended_as true None e = closed_twice y.part.is_rollback y.part.willing _ ∙ ap (λ (b : Bool). if b then with_process v p (process_after_rollback y y.part.willing) (changes.with_decisions v.channel p k y.part.willing y.part.asked) (held_after_rollback y.part.willing p y.part.noted v.kept v.held) (kept_after_rollback y.part.willing p v.kept) (log_closed v.log p k y.part.willing) else with_process v p (process_after_checkpoint y y.part.willing) (changes.with_decisions v.channel p k y.part.willing y.part.asked) v.held (changes.trims y.part.willing p y.part.marks v.kept) (log_closed v.log p k y.part.willing)) e
  ended_as false None e = closed_twice y.part.is_rollback y.part.willing _ ∙ ap (λ (b : Bool). if b then with_process v p (process_after_rollback y y.part.willing) (changes.with_decisions v.channel p k y.part.willing y.part.asked) (held_after_rollback y.part.willing p y.part.noted v.kept v.held) (kept_after_rollback y.part.willing p v.kept) (log_closed v.log p k y.part.willing) else with_process v p (process_after_checkpoint y y.part.willing) (changes.with_decisions v.channel p k y.part.willing y.part.asked) v.held (changes.trims y.part.willing p y.part.marks v.kept) (log_closed v.log p k y.part.willing)) e

  pub settles_in_one : seen_settling (record v { states = at_one p y v.states }) p k ≡ settled v p k y
  settles_in_one = settles_as (record v { states = at_one p y v.states }) p k ∙ (ap (settles_with (record v { states = at_one p y v.states }) p k) (at_one_here p y v.states)
      ∙ ap (λ (x : Seen). if y.part.awaited == 0 then x else record v { states = at_one p y v.states }) (ended_as y.part.is_rollback y.part.parent refl))

-- the lists as kt_fifo's clauses have them
pub with_parcel_is : (channel : SeenLists) (p q : ℕ) (x : Parcel) → changes.with_parcel channel p q x ≡ at_pair p q (channel p q ++ x ∷ []) channel
unfolding changes.with_parcel
with_parcel_is channel p q x = fun_ext (λ u. fun_ext (λ v. go u v (u == p && v == q) refl))
  where
    both : (a b : Bool) → (a && b) ≡ true → (a ≡ true) × (b ≡ true)
    both true b e = (refl, e)
    both false b e = absurd (cc)

    same : (a b : ℕ) → (a == b) ≡ true → a ≡ b
    same a b e = grind (arith, nat_tests)

    go : (u v : ℕ) (b : Bool) → (u == p && v == q) ≡ b → (if b then channel u v ++ x ∷ [] else channel u v) ≡ (if b then channel p q ++ x ∷ [] else channel u v)
    go u v true e = let w = both (u == p) (v == q) e in ap₂ (λ (a b : ℕ). channel a b ++ x ∷ []) (same u p w.0) (same v q w.1)
    go u v false e = refl

pub with_rest_is : (channel : SeenLists) (q p : ℕ) (x : Parcel) (rest : List Parcel) → channel q p ≡ x ∷ rest → changes.with_rest channel q p rest ≡ at_pair q p (drop 1 (channel q p)) channel
unfolding changes.with_rest
with_rest_is channel q p x rest e = fun_ext (λ u. fun_ext (λ v. ap (λ (l : List Parcel). if u == q && v == p then l else channel u v) (sym (ap (drop 1) e))))
