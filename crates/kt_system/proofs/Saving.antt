-- Which parcel comes next, and which make a process take its tentative checkpoint.
use Rattle.std.specs.Prelude.{◌&&◌, not, Option, Some, None, if◌then◌else◌, is_none, slice_get}
use Rattle.std.specs.Option.{option_or, option_map_or}
use Rattle.std.proofs.Common.{◌≡◌, ℕ, Bool, true, false, List, [], ◌∷◌, refl, ap, ◌∙◌}
use Rattle.kt_base.specs.declared.words.Kind.TheVariants as kind
use Rattle.kt_fifo.specs.Channels.{channel}
use Rattle.kt_fifo.specs.Queues.{has_parcel}
use Rattle.kt_fifo.specs.declared.parcels.Parcel.{Parcel}
use Rattle.kt_fifo.specs.declared.parcels.Parcel.TheVariants.{App, Ask, Reply, Decide}
use Rattle.kt_process.specs.ProcessStates.{ProcessState, is_ready, inst_of}
use Rattle.kt_system.specs.Systems.{Whole, state_of}
use Rattle.kt_system.specs.Takes.{is_held}
use Rattle.kt_system.specs.Reads.{held_parcel, next_parcel, saves_by, would_save}

none_off : (b : Bool) → (not b && false) ≡ false
none_off true = refl
none_off false = refl

-- where nothing is held for any process, none takes what is held for it
pub none_held : (w : Whole) (at from : ℕ) → channel w.held from at ≡ [] → is_held w at from ≡ false
none_held w at from e = ap (λ (l : List Parcel). not (is_ready (state_of w at).side) && has_parcel l) e ∙ none_off (is_ready (state_of w at).side)

-- nor does a process in a rollback
pub ready_held : (w : Whole) (at from : ℕ) → is_ready (state_of w at).side ≡ true → is_held w at from ≡ false
ready_held w at from e = ap (λ (b : Bool). not b && has_parcel (channel w.held from at)) e

no_front : (b : Bool) (l : List Parcel) → (not b && has_parcel l) ≡ false → (if b then None else slice_get l 0) ≡ None
no_front true l e = refl
no_front false [] e = refl
no_front false (x ∷ xs) e = absurd (cc (e))

-- who does not has no first parcel that is held
pub held_unheld : (w : Whole) (at from : ℕ) → is_held w at from ≡ false → held_parcel w at from ≡ None
held_unheld w at from e = no_front (is_ready (state_of w at).side) (channel w.held from at) e

-- and takes what is sent
pub next_unheld : (w : Whole) (at from : ℕ) → is_held w at from ≡ false → next_parcel w at from ≡ slice_get (channel w.channels from at) 0
unfolding next_parcel
next_unheld w at from e = ap (λ (o : Option Parcel). option_or o (slice_get (channel w.channels from at) 0)) (held_unheld w at from e)

-- else what is held for it
pub next_held : (w : Whole) (at from : ℕ) (y : Parcel) → is_ready (state_of w at).side ≡ false → slice_get (channel w.held from at) 0 ≡ Some y → next_parcel w at from ≡ Some y
unfolding next_parcel
next_held w at from y e h =
    ap (λ (b : Bool). option_or (if b then None else slice_get (channel w.held from at) 0) (slice_get (channel w.channels from at) 0)) e
    ∙ ap (λ (o : Option Parcel). option_or o (slice_get (channel w.channels from at) 0)) h

-- and then what is sent
pub next_sent : (w : Whole) (at from : ℕ) → is_ready (state_of w at).side ≡ false → slice_get (channel w.held from at) 0 ≡ None → next_parcel w at from ≡ slice_get (channel w.channels from at) 0
unfolding next_parcel
next_sent w at from e h =
    ap (λ (b : Bool). option_or (if b then None else slice_get (channel w.held from at) 0) (slice_get (channel w.channels from at) 0)) e
    ∙ ap (λ (o : Option Parcel). option_or o (slice_get (channel w.channels from at) 0)) h

no_test : (n u m : Bool) → (u && n) ≡ false → (n && (u && (true && m))) ≡ false
no_test true true m e = absurd (cc (e))
no_test true false m e = refl
no_test false u m e = refl

-- where its object is down, or it is in an instance, none does
saves_not : (x : ProcessState) (from : ℕ) (y : Parcel) → (x.up && is_none (inst_of x.side)) ≡ false → saves_by x from y ≡ false
saves_not x from (App l m body) e = refl
saves_not x from (Ask k kind.Checkpoint l) e = no_test (is_none (inst_of x.side)) x.up _ e
saves_not x from (Ask k kind.Rollback l) e = refl
saves_not x from (Reply k w) e = refl
saves_not x from (Decide k c) e = refl

none_saves : (f : Parcel → Bool) (o : Option Parcel) → ((y : Parcel) → f y ≡ false) → option_map_or f o false ≡ false
none_saves f None h = refl
none_saves f (Some y) h = h y

-- so the next one doesn't
pub no_save : (w : Whole) (at from : ℕ) → ((state_of w at).up && is_none (inst_of (state_of w at).side)) ≡ false → would_save w at from ≡ false
no_save w at from e = none_saves (saves_by (state_of w at) from) (next_parcel w at from) (λ y. saves_not (state_of w at) from y e)
