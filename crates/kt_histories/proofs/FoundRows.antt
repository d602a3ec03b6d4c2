-- What a row says that was sought.
use Rattle.std.proofs.Common.{◌≡◌, ℕ, Bool, ◌==◌, ◌&&◌, true, false, refl, ap, arith, ◌+◌, zero, suc, List, [], ◌∷◌, ◌++◌}
use Rattle.std.proofs.lemmas.Bool.Decides.{nat_tests}
use Rattle.kt_base.specs.declared.words.Cause.{Cause}
use Rattle.kt_base.specs.declared.words.Kind.{Kind}
use Rattle.kt_spacetime.specs.declared.event.Event.{Event}
use Rattle.kt_spacetime.specs.declared.event.Event.TheVariants.{Sent, Received, Dropped, Began, Took, Ready, Unwilling, Decided, Closed, Failed, Refused}
use Rattle.kt_spacetime.specs.Events.{process_of}
use Rattle.kt_meaning.specs.Unwilling.{is_unwilling}
use Rattle.kt_histories.specs.Finding.{receives, begins_inst}
use Rattle.std.specs.List.{range_with_len}

same_number : (a b : ℕ) → (a == b) ≡ true → a ≡ b
same_number a b e = grind (arith, nat_tests, e)

-- a row by which a process was unwilling to join an instance
pub unwilling_row : (k : ℕ) (row : Event) → is_unwilling k row ≡ true → (cause : Cause) × (row ≡ Unwilling (process_of row) k cause)
unwilling_row k (Unwilling p j cause) e = (cause, ap (λ (n : ℕ). Unwilling p n cause) (same_number j k e))
unwilling_row k (Sent p to body) e = absurd (cc)
unwilling_row k (Received p from msg) e = absurd (cc)
unwilling_row k (Dropped p from msg) e = absurd (cc)
unwilling_row k (Began p j kind) e = absurd (cc)
unwilling_row k (Took p j) e = absurd (cc)
unwilling_row k (Ready p j) e = absurd (cc)
unwilling_row k (Decided p j commit) e = absurd (cc)
unwilling_row k (Closed p j) e = absurd (cc)
unwilling_row k (Failed p) e = absurd (cc)
unwilling_row k (Refused p verb cause) e = absurd (cc)

both : (a b : Bool) → (a && b) ≡ true → (a ≡ true) × (b ≡ true)
both true true e = (refl, refl)
both true false e = absurd (cc)
both false b e = absurd (cc)

-- a row by which a process receives a message from another one
pub received_row : (p from msg : ℕ) (row : Event) → receives p from msg row ≡ true → row ≡ Received p from msg
received_row p from msg (Received q sender n) e =
    let last = both ((q == p) && (sender == from)) (n == msg) e in
    let first = both (q == p) (sender == from) last.0 in
    (λ i. Received (same_number q p first.0 i) (same_number sender from first.1 i) (same_number n msg last.1 i))
received_row p from msg (Sent q to body) e = absurd (cc)
received_row p from msg (Dropped q sender n) e = absurd (cc)
received_row p from msg (Began q j kind) e = absurd (cc)
received_row p from msg (Took q j) e = absurd (cc)
received_row p from msg (Ready q j) e = absurd (cc)
received_row p from msg (Unwilling q j cause) e = absurd (cc)
received_row p from msg (Decided q j commit) e = absurd (cc)
received_row p from msg (Closed q j) e = absurd (cc)
received_row p from msg (Failed q) e = absurd (cc)
received_row p from msg (Refused q verb cause) e = absurd (cc)

-- a row that begins an instance
pub begin_row : (k : ℕ) (row : Event) → begins_inst k row ≡ true → (p : ℕ) × (kind : Kind) × (row ≡ Began p k kind)
begin_row k (Began p j kind) e = (p, kind, ap (λ (n : ℕ). Began p n kind) (same_number j k e))
begin_row k (Sent p to body) e = absurd (cc)
begin_row k (Received p from msg) e = absurd (cc)
begin_row k (Dropped p from msg) e = absurd (cc)
begin_row k (Took p j) e = absurd (cc)
begin_row k (Ready p j) e = absurd (cc)
begin_row k (Unwilling p j cause) e = absurd (cc)
begin_row k (Decided p j commit) e = absurd (cc)
begin_row k (Closed p j) e = absurd (cc)
begin_row k (Failed p) e = absurd (cc)
begin_row k (Refused p verb cause) e = absurd (cc)

pub range_more : (a n j : ℕ) → a + n ≡ j → range_with_len a (suc n) ≡ range_with_len a n ++ j ∷ []
range_more a zero j e = let same : a ≡ j = omega (arith, e) in ap (λ (k : ℕ). k ∷ []) same
range_more a (suc n) j e = ap (λ (l : List ℕ). a ∷ l) (range_more (a + 1) n j (omega (arith, e)))
