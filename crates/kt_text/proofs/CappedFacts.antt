-- What a capped reader takes in and gives.
use Rattle.std.proofs.Common.{Bool, true, false, if◌then◌else◌, inl, inr, set, ◌≡◌, ◌∙◌, ◌<◌, ◌≤◌, ◌+◌, ℕ, zero, suc, List, [], ◌∷◌, ◌++◌, length, take, drop, get_or, Option, Some, None, option_map, arith, refl, sym, ap, append_assoc, add-one, drop-cons, take-take, length-take-le}
use Rattle.std.proofs.lemmas.Bool.{cases_lt}
use Rattle.std.proofs.lemmas.List.{take_more}
use Rattle.std.specs.Io.KnownBytes.{Consumes, IsAtEnd}
use Rattle.kt_text.specs.declared.capped.Spot.{Spot}
use Rattle.kt_text.specs.declared.capped.Capped.{Capped}
use Rattle.kt_text.specs.Capped.{capped_left, front, spot_after, room_after}

-- once no comma may come, the line ends
pub front_over : (width : ℕ) (spot : Spot) (room : ℕ) (bytes : List ℕ) → room ≡ 0 → front width spot room bytes ≡ 10 ∷ []
unfolding front
front_over width spot zero bytes e = refl
front_over width spot (suc room) bytes e = absurd (omega (arith, e))

pub front_ended : (width : ℕ) (spot : Spot) (room : ℕ) → 0 < room → front width spot room [] ≡ []
unfolding front
front_ended width spot zero some = absurd (omega (arith, some))
front_ended width spot (suc room) some = refl

front_byte : (width : ℕ) (spot : Spot) (room byte : ℕ) (rest : List ℕ) → 0 < room → front width spot room (byte ∷ rest) ≡ byte ∷ front width (spot_after spot byte) (room_after width spot room byte) rest
unfolding front
front_byte width spot zero byte rest some = absurd (omega (arith, some))
front_byte width spot (suc room) byte rest some = refl

-- one byte more is taken in
pub front_more : (width : ℕ) (spot : Spot) (room i : ℕ) (bytes rest : List ℕ) → 0 < room → i < length bytes
    → take i bytes ++ front width spot room (drop i bytes ++ rest)
    ≡ take (i + 1) bytes ++ front width (spot_after spot (get_or bytes i 0)) (room_after width spot room (get_or bytes i 0)) (drop (i + 1) bytes ++ rest)
front_more width spot room i bytes rest some within =
    let byte = get_or bytes i 0 in
    let left : drop i bytes ++ rest ≡ byte ∷ (drop (i + 1) bytes ++ rest) = rw add-one (ap (λ (t : List ℕ). t ++ rest) (drop-cons bytes i 0 within)) in
    let later = front width (spot_after spot byte) (room_after width spot room byte) (drop (i + 1) bytes ++ rest) in
    ap (λ (t : List ℕ). take i bytes ++ front width spot room t) left ∙ ap (λ (t : List ℕ). take i bytes ++ t) (front_byte width spot room byte (drop (i + 1) bytes ++ rest) some)
    ∙ sym (append_assoc (take i bytes) (byte ∷ []) later) ∙ sym (ap (λ (t : List ℕ). t ++ later) (take_more bytes i 0 within))

-- a byte that is put at the front
pub put_first : (buf : List ℕ) (byte : ℕ) → 0 < length buf → take 1 (set buf 0 byte) ≡ byte ∷ []
put_first [] byte some = absurd (omega (arith, some))
put_first (first ∷ rest) byte some = refl

-- the line ends
pub ends_line_of : (width : ℕ) (spot : Spot) (room : ℕ) (known : Option (List ℕ)) (over : Bool) → over ≡ false → room ≡ 0
    → Consumes (if over then Some [] else option_map (λ bytes. front width spot room bytes) known) (Some []) (10 ∷ [])
ends_line_of width spot room None false going e = tt
ends_line_of width spot room (Some bytes) false going e = front_over width spot room bytes e
ends_line_of width spot room known true going e = cc going

-- nothing is given to no room, nor when all was
pub gives_nothing : (known : Option (List ℕ)) → Consumes known known []
gives_nothing None = tt
gives_nothing (Some bytes) = refl

-- the end of the line is given, or nothing where there is no room
pub gives_end : {R : Type 0} (remaining : R → Option (List ℕ)) (old new : Capped R) (buf before : List ℕ) (n : ℕ) → old.room ≡ 0 → old.is_over ≡ false → length buf ≡ length before
    → (n ≡ 0 → (new ≡ old) × (length before ≡ 0)) → (0 < n → (take n buf ≡ 10 ∷ []) × (new.is_over ≡ true))
    → Consumes (capped_left remaining old) (capped_left remaining new) (take n buf) × (n ≡ 0 → 0 < length buf → IsAtEnd (capped_left remaining new))
gives_end remaining old new buf before n over going kept none line =
    let given : Consumes (capped_left remaining old) (capped_left remaining new) (take n buf) = elim (cases_lt 0 n) [
      | inl more ↦ rw ((line more).0, (line more).1) (ends_line_of old.width old.spot old.room (remaining old.source) old.is_over going over)
      | inr less ↦ let zero : n ≡ 0 = omega (arith, less) in rw (zero, (none zero).0) (gives_nothing (capped_left remaining old))
    ] in
    (given, λ zero some. absurd (omega (arith, some, kept, (none zero).1)))

-- of what the reader underneath gave, the bytes that were taken in are given
pub gives : (width : ℕ) (spot next : Spot) (room left : ℕ) (old new : Option (List ℕ)) (buf : List ℕ) (n k : ℕ) → 0 < room → n ≤ length buf
    → Consumes old new (take n buf) → (n ≡ 0 → 0 < length buf → IsAtEnd new) → k ≤ length (take n buf)
    → ((rest : List ℕ) → front width spot room (take n buf ++ rest) ≡ take k (take n buf) ++ front width next left rest) → (0 < length (take n buf) → 0 < k) → (k ≡ 0 → left ≡ room)
    → Consumes (option_map (λ bytes. front width spot room bytes) old) (option_map (λ bytes. front width next left bytes) new) (take k buf)
    × (k ≡ 0 → 0 < length buf → IsAtEnd (option_map (λ bytes. front width next left bytes) new))
gives width spot next room left old new buf n k may within read ends few is some still =
    (consumed old new read, λ none full. at_end new (omega (arith, still none, may)) (ends (nothing none) full))
  where
    kept : length (take n buf) ≡ n
    kept = length-take-le n buf within

    same : take k (take n buf) ≡ take k buf
    same = take-take k n buf (omega (arith, few, kept))

    nothing : k ≡ 0 → n ≡ 0
    nothing none = elim (cases_lt 0 n) [
      | inl more ↦ absurd (omega (arith, none, some (omega (arith, more, kept))))
      | inr less ↦ omega (arith, less)
    ]

    at_end : (o : Option (List ℕ)) → 0 < left → IsAtEnd o → IsAtEnd (option_map (λ bytes. front width next left bytes) o)
    at_end None may e = tt
    at_end (Some bytes) may e = ap (front width next left) e ∙ front_ended width next left may

    consumed : (a b : Option (List ℕ)) → Consumes a b (take n buf) → Consumes (option_map (λ bytes. front width spot room bytes) a) (option_map (λ bytes. front width next left bytes) b) (take k buf)
    consumed None b h = tt
    consumed (Some xs) None h = absurd h
    consumed (Some xs) (Some ys) h = ap (front width spot room) h ∙ is ys ∙ ap (λ (t : List ℕ). t ++ front width next left ys) same
