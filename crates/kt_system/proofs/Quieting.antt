-- Takes that need nothing of their process's object, and ask nothing of it.
use Rattle.std.specs.Prelude.{◌==◌, ◌&&◌, not, if◌then◌else◌, Option, Some, None, is_some, slice_get}
use Rattle.std.specs.Option.{option_map_or}
use Rattle.std.proofs.Common.{append-nil, ◌≡◌, ◌<◌, ◌-◌, ℕ, zero, suc, Bool, true, false, List, [], ◌∷◌, ◌++◌, drop, refl, arith, ap, subst, sym, ◌∙◌}
use Rattle.std.proofs.lemmas.Bool.Decides.{nat_tests}
use Rattle.kt_fifo.specs.Channels.{channel}
use Rattle.kt_fifo.specs.declared.parcels.Parcel.{Parcel}
use Rattle.kt_process.specs.Parts.{Part}
use Rattle.kt_process.specs.declared.actions.Action.TheVariants as what
use Rattle.kt_process.specs.ProcessStates.{ProcessState, part_of_side, is_ready, IsNumbered}
use Rattle.kt_process.specs.Turns.{reply_of}
use Rattle.kt_process.specs.declared.side.Side.{Side}
use Rattle.kt_process.specs.declared.side.Side.TheVariants as side
use Rattle.kt_process.specs.Shown.{IsSeenAs, part_shown}
use Rattle.kt_protocol.specs.States.{Take}
use Rattle.kt_machine.specs.CallTests.{must_take}
use Rattle.kt_machine.specs.Seen.{SeenPart, SeenLists, Seen}
use Rattle.kt_machine.specs.SeenReplies.{part_after_reply}
use Rattle.kt_machine.specs.Transition.{transition, seen_front, is_seen_ready}
use Rattle.kt_machine.specs.Values.{Act, Keep}
use Rattle.kt_machine.specs.SeenActs.{seen_acts, seen_acts_taking, seen_acts_taking_held, seen_acts_asked, seen_acts_replied, seen_acts_decided, seen_acts_settling}
use Rattle.kt_system.specs.Reads.{awaited_of, held_parcel, next_parcel, saves_by, would_save}
use Rattle.kt_system.specs.Shown.{ShowsState}
use Rattle.kt_system.specs.Systems.{Whole, state_of, LogGrows}
use Rattle.kt_system.specs.Takes.{is_held}
use Rattle.kt_system.specs.Tallies.{front, taken_off}
use Rattle.kt_system.proofs.Replying.{ready_seen}
use Rattle.kt_system.proofs.Saving.{held_unheld, next_unheld}
use Rattle.kt_system.proofs.Taking.{no_front, takes_front, front_is}

acts_front : (v : Seen) (p q : ℕ) (able b : Bool) → is_seen_ready v p ≡ b → (if b then None else slice_get (v.held q p) 0) ≡ None → seen_acts_taking v p q able (v.channel q p) ≡ seen_acts v (Take p q able)
acts_front v p q able true e f = rw e refl
acts_front v p q able false e f =
    let g : seen_acts_taking v p q able (v.channel q p) ≡ seen_acts_taking_held v p q able (v.held q p) = ap (λ (l : List Parcel). seen_acts_taking_held v p q able l) (sym (no_front (v.held q p) f)) in
    rw e g

-- where nothing is held that a process takes, it takes what is sent
module _ (w : Whole) (v : Seen) (at from : ℕ) (h : ShowsState w v) (there : at < w.size) (num : IsNumbered (part_of_side (state_of w at).side)) (none : is_held w at from ≡ false) where
  ready : is_seen_ready v at ≡ is_ready (state_of w at).side
  ready = sym (ready_seen (state_of w at) v at (h.states at there) num)

  unheld : (if is_ready (state_of w at).side then None else slice_get (v.held from at) 0) ≡ None
  unheld = ap (λ (f : SeenLists). if is_ready (state_of w at).side then None else slice_get (f from at) 0) (sym h.held) ∙ held_unheld w at from none

  module _ (y : Parcel) (got : slice_get (channel w.channels from at) 0 ≡ Some y) where
    list : v.channel from at ≡ y ∷ drop 1 (v.channel from at)
    list = front_is (v.channel from at) y (ap (λ (f : SeenLists). slice_get (f from at) 0) (sym h.channels) ∙ got)

    pub sent_leads : seen_front v at from false (y ∷ drop 1 (v.channel from at)) ≡ transition v (Take at from false)
    sent_leads = ap (λ (l : List Parcel). seen_front v at from false l) (sym list) ∙ takes_front v at from false (is_ready (state_of w at).side) ready unheld

    pub sent_acts : seen_acts_taking v at from false (y ∷ drop 1 (v.channel from at)) ≡ seen_acts v (Take at from false)
    sent_acts = ap (λ (l : List Parcel). seen_acts_taking v at from false l) (sym list) ∙ acts_front v at from false (is_ready (state_of w at).side) ready unheld

-- and that goes off the channel
pub sent_off : (w : Whole) (at from : ℕ) → is_held w at from ≡ false → front w at from ≡ taken_off w at from
sent_off w at from none = ap (λ (o : Option Parcel). if is_some o then [] else front w at from) (sym (held_unheld w at from none))

-- whether it makes the process take its tentative checkpoint
pub sent_saves : (w : Whole) (at from : ℕ) (y : Parcel) → is_held w at from ≡ false → slice_get (channel w.channels from at) 0 ≡ Some y → would_save w at from ≡ saves_by (state_of w at) from y
sent_saves w at from y none got = ap (λ (o : Option Parcel). option_map_or (saves_by (state_of w at) from) o false) (next_unheld w at from none ∙ got)

-- an ask to a process whose object can't be saved asks nothing of it
pub none_asked : (v : Seen) (p q k label : ℕ) → seen_acts_asked v p q false k false label ≡ []
none_asked v p q k label = at_tests ((v.states p).inst == k) ((v.states p).inst == 0) (must_take (v.states p).calls q label)
  where
    at_tests : (a z m : Bool) → ◌≡◌ {A = List Act} (if a then [] else if not z then [] else if not m then [] else []) []
    at_tests true z m = refl
    at_tests false true true = refl
    at_tests false true false = refl
    at_tests false false m = refl

-- nor does a decision of an instance that the process is not in
pub none_decided : (v : Seen) (p k : ℕ) (c : Bool) → ((v.states p).inst == k) ≡ false → seen_acts_decided v p k c ≡ []
none_decided v p k c e = rw e refl

-- nor a reply that is not the last one, from which nothing follows
pub nothing_follows : (s : Option Side) (w : Bool) → (awaited_of (part_of_side s) == 1) ≡ false → reply_of (part_of_side s) w ≡ what.Nothing
nothing_follows None w e = refl
nothing_follows (Some (side.Checkpoint s)) w e = rw e refl
nothing_follows (Some (side.Rollback s)) w e = rw e refl

pub none_replied : (x : ProcessState) (v : Seen) (p : ℕ) (w : Bool) → IsSeenAs x (v.states p) → (awaited_of (part_of_side x.side) == 1) ≡ false → seen_acts_replied v p w ≡ []
none_replied x v p w h e = by_count (awaited_of (part_of_side x.side)) (awaits x.side (v.states p).part h.part) e
  where
    awaits : (s : Option Side) (r : SeenPart) → part_shown s ≡ r → r.awaited ≡ awaited_of (part_of_side s)
    awaits None r e = ap (λ (r : SeenPart). r.awaited) (sym e)
    awaits (Some (side.Checkpoint s)) r e = ap (λ (r : SeenPart). r.awaited) (sym e)
    awaits (Some (side.Rollback s)) r e = ap (λ (r : SeenPart). r.awaited) (sym e)

    above : (n : ℕ) → (suc n == 0) ≡ false
    above n = grind (arith, nat_tests)

    more : (n : ℕ) → (suc (suc n) - 1 == 0) ≡ false
    more n = grind (arith, nat_tests)

    by_count : (a : ℕ) → (v.states p).part.awaited ≡ a → (a == 1) ≡ false → seen_acts_replied v p w ≡ []
    by_count zero e f = let z : ((v.states p).part.awaited == 0) ≡ true = ap (λ (n : ℕ). n == 0) e in rw z refl
    by_count (suc zero) e f = absurd (cc (f))
    by_count (suc (suc n)) e f =
        let z : ((v.states p).part.awaited == 0) ≡ false = ap (λ (m : ℕ). m == 0) e ∙ above (suc n) in
        let o : ((v.states p).part.awaited - 1 == 0) ≡ false = ap (λ (m : ℕ). m - 1 == 0) e ∙ more n in
        rw (z, o) refl

-- where no row comes, the log grows by none
pub same_rows : (a b : Whole) → b.rows.rows ≡ a.rows.rows → LogGrows 4 a b
same_rows a b e = record { more = []; rows = e ∙ sym (append-nil a.rows.rows); few = omega arith }

-- another number than 1
pub not_one : (n : ℕ) → (n ≡ 1 → ⊥) → (n == 1) ≡ false
not_one n e = grind (arith, nat_tests, e)
