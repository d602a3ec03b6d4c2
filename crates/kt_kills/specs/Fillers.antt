-- Sends by which who comes back knows what was taken of it: one way to find them, for code. Since it is away until then, its memory
-- is its disk's.
use Rattle.std.specs.Prelude.{ℕ, ℤ, zero, suc, pos, ◌+◌, ◌-◌, ◌==◌, ◌||◌, nat_lt, if◌then◌else◌, Bool, false, Option, Some, None, unwrap_or, List, [], ◌∷◌, max, length, drop}
use Rattle.kt_manager.specs.declared.parcels.NodeParcel.{NodeParcel}
use Rattle.kt_manager.specs.declared.parcels.NodeParcel.TheVariants.{App}
use Rattle.kt_kills.specs.KilledNets.{KilledNet}
use Rattle.kt_kills.specs.Starts.{parcels}

-- what q tells p that it took of it and p does not know: beyond the numbers that p's disk has
abbrev pub told : KilledNet → ℕ → ℕ → List NodeParcel
told w p q = drop (length ((w.memory p).put q)) (parcels ((w.memory q).took p))

-- the body of the message with this label; whether there is one with a greater label; the greatest label
abbrev pub body_at : ℕ → List NodeParcel → Option ℤ
body_at label [] = None
body_at label (App l body ∷ xs) = if l == label then Some body else body_at label xs
body_at label (_ ∷ xs) = body_at label xs

abbrev pub has_above : ℕ → List NodeParcel → Bool
has_above label [] = false
has_above label (App l body ∷ xs) = nat_lt label l || has_above label xs
has_above label (_ ∷ xs) = has_above label xs

abbrev pub last_label : List NodeParcel → ℕ
last_label [] = 0
last_label (App l body ∷ xs) = max l (last_label xs)
last_label (_ ∷ xs) = last_label xs

-- of the first n processes: the greatest label that one told; who took the message with this label, and its body; another
-- one than p who took none with a greater label, or 0 where there is none
abbrev pub last_told : ℕ → (ℕ → List NodeParcel) → ℕ
last_told zero lists = 0
last_told (suc q) lists = max (last_label (lists q)) (last_told q lists)

abbrev pub or_else : ℕ → Option ℤ → Option (ℕ × ℤ) → Option (ℕ × ℤ)
or_else q None other = other
or_else q (Some body) other = Some (q, body)

abbrev pub taker_of : ℕ → ℕ → (ℕ → List NodeParcel) → Option (ℕ × ℤ)
taker_of zero label lists = None
taker_of (suc q) label lists = or_else q (body_at label (lists q)) (taker_of q label lists)

abbrev pub filled_by : ℕ → ℕ → ℕ → (ℕ → List NodeParcel) → ℕ
filled_by zero p label lists = 0
filled_by (suc q) p label lists = if q == p || has_above label (lists q) then filled_by q p label lists else q

-- so many sends after the label `used`: each message to who took it, and for a label that nobody took a message that says nothing.
-- Its body is 0; that no object hears of it is left to the host. What was sent with such a label is gone.
abbrev pub sends_after : ℕ → ℕ → ℕ → ℕ → (ℕ → List NodeParcel) → List (ℕ × ℤ)
sends_after zero n p used lists = []
sends_after (suc count) n p used lists =
    unwrap_or (taker_of n (used + 1) lists) (filled_by n p (used + 1) lists, pos 0) ∷ sends_after count n p (used + 1) lists

abbrev pub sends_to_make : KilledNet → ℕ → List (ℕ × ℤ)
sends_to_make w p = let y = (w.memory p).node in
    sends_after (last_told y.processes (told w p) - y.used) y.processes p y.used (told w p)
