-- A process that takes its next parcel, as the machine has it.
use Rattle.std.specs.Prelude.{ℤ, if◌then◌else◌, Some, None, slice_get}
use Rattle.std.proofs.Common.{◌≡◌, ℕ, Bool, true, false, List, [], ◌∷◌, ◌++◌, drop, refl, ap, subst, sym}
use Rattle.kt_fifo.specs.declared.parcels.Parcel.{Parcel}
use Rattle.kt_fifo.specs.declared.parcels.Parcel.TheVariants.{App}
use Rattle.kt_protocol.specs.States.{Take}
use Rattle.kt_tables.specs.Calls.{Call, received, Speaks}
use Rattle.kt_machine.specs.Seen.{SeenProcess, SeenLists, Seen}
use Rattle.kt_machine.specs.SeenMessages.{seen_arrival, seen_holding}
use Rattle.kt_machine.specs.Transition.{transition, seen_front, seen_take, is_seen_ready}
use Rattle.kt_system.proofs.Messages.{at_same, arrives_up}

-- the first of a list, and the rest
pub front_is : {X : Type 0} (xs : List X) (x : X) → slice_get xs 0 ≡ Some x → xs ≡ x ∷ drop 1 xs
front_is [] x e = absurd (cc)
front_is (y ∷ xs) x e = let k : y ≡ x = cc in ap (λ (z : _). z ∷ xs) k

pub no_front : {X : Type 0} (xs : List X) → slice_get xs 0 ≡ None → xs ≡ []
no_front [] e = refl
no_front (y ∷ xs) e = absurd (cc)

-- the calls of who receives
pub speaks_arrival : (v : Seen) (channels held : SeenLists) (p q l m : ℕ) (body : ℤ) → Speaks (((seen_arrival v channels held p q l m body).states p).calls) → (v.states p).up ≡ true → Speaks ((v.states p).calls ++ received q l ∷ [])
speaks_arrival v channels held p q l m body h u =
    let y = record (v.states p) { calls = (v.states p).calls ++ received q l ∷ [] } in
    subst (λ (z : List Call). Speaks z) (ap (λ (z : SeenProcess). z.calls) (at_same p y v.states))
    (subst (λ (z : Seen). Speaks ((z.states p).calls)) (sym (arrives_up v channels held p q l m body u)) h)

pub speaks_front : (v : Seen) (p q : ℕ) (able : Bool) (l m : ℕ) (body : ℤ) (rest : List Parcel) → Speaks (((seen_front v p q able (App l m body ∷ rest)).states p).calls) → is_seen_ready v p ≡ false → (v.states p).up ≡ true →
    Speaks ((v.states p).calls ++ received q l ∷ [])
speaks_front v p q able l m body rest h free u =
    speaks_arrival v (Rattle.kt_machine.specs.ListChanges.with_rest v.channel q p rest) v.held p q l m body
    (subst (λ (b : Bool). Speaks (((if b then seen_holding v p q (App l m body) rest else seen_arrival v (Rattle.kt_machine.specs.ListChanges.with_rest v.channel q p rest) v.held p q l m body).states p).calls)) free h) u

-- who is ready takes from the channel; who is not, takes what is held first
pub takes_ready : (v : Seen) (p q : ℕ) (able : Bool) → is_seen_ready v p ≡ true → seen_front v p q able (v.channel q p) ≡ transition v (Take p q able)
takes_ready v p q able e = rw e refl

pub takes_none : (v : Seen) (p q : ℕ) (able : Bool) → is_seen_ready v p ≡ false → v.held q p ≡ [] → seen_front v p q able (v.channel q p) ≡ transition v (Take p q able)
takes_none v p q able e f = let g : seen_front v p q able (v.channel q p) ≡ seen_take v p q able (v.held q p) = ap (λ (l : List Parcel). seen_take v p q able l) (sym f) in rw e g

pub takes_held : (v : Seen) (p q : ℕ) (able : Bool) → is_seen_ready v p ≡ false → seen_take v p q able (v.held q p) ≡ transition v (Take p q able)
takes_held v p q able e = rw e refl

pub takes_front : (v : Seen) (p q : ℕ) (able : Bool) (b : Bool) → is_seen_ready v p ≡ b → (if b then None else slice_get (v.held q p) 0) ≡ None → seen_front v p q able (v.channel q p) ≡ transition v (Take p q able)
takes_front v p q able true e f = takes_ready v p q able e
takes_front v p q able false e f = takes_none v p q able e (no_front (v.held q p) f)
