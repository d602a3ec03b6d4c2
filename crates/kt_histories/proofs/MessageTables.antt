-- Marks in the table of messages, members and decisions in the table of instances.
use Rattle.std.proofs.Common.{◌≡◌, ◌≢◌, ℕ, zero, suc, ◌+◌, ◌-◌, ◌<◌, ◌≤◌, Option, Some, None, List, [], ◌∷◌, ◌++◌, ◌⊎◌, map, length, take, subst, get_or, set, refl, sym, ap, ◌∙◌, arith}
use Rattle.std.specs.List.{Contains}
use Rattle.std.specs.Option.{option_flatten}
use Rattle.std.proofs.lemmas.Option.{slice_get_read, slice_get_past}
use Rattle.kt_histories.specs.declared.tables.Message.{Message}
use Rattle.kt_histories.specs.Tables.{with_received, with_dropped}
use Rattle.std.proofs.lemmas.List.Elements.{Contains-push_cases}
use Rattle.kt_histories.specs.Standing.{message_at, parties}
use Rattle.kt_meaning.proofs.Items.{set_mapped, take_item}

pub marked_parties : (ms : List (Option Message)) (i : ℕ) (x y : Option Message) → i < length ms → x ≡ get_or ms i x → parties y ≡ parties x → map parties (set ms i y) ≡ map parties ms
marked_parties ms i x y l e s = set_mapped parties ms i x y (slice_get_read ms (length ms) i x refl l e) s

pub received_parties : (place : ℕ) (o : Option Message) → parties (with_received place o) ≡ parties o
received_parties place None = refl
received_parties place (Some v) = refl

pub dropped_parties : (o : Option Message) → parties (with_dropped o) ≡ parties o
dropped_parties None = refl
dropped_parties (Some v) = refl

past_end : (ms : List (Option Message)) (m : ℕ) → length ms ≤ m - 1 → message_at ms m ≡ None
past_end ms zero l = refl
past_end ms (suc m) l = ap option_flatten (slice_get_past ms m (omega (arith, l)))

pub received_past : (place : ℕ) (ms : List (Option Message)) (m : ℕ) → length ms ≤ m - 1 → message_at ms m ≡ with_received place (message_at ms m)
received_past place ms m l = past_end ms m l ∙ ap (with_received place) (sym (past_end ms m l))

pub dropped_past : (ms : List (Option Message)) (m : ℕ) → length ms ≤ m - 1 → message_at ms m ≡ with_dropped (message_at ms m)
dropped_past ms m l = past_end ms m l ∙ ap with_dropped (sym (past_end ms m l))

-- what the first items and one more have
pub contains_more : (xs : List ℕ) (i x m : ℕ) → i < length xs → x ≡ get_or xs i x → Contains (take (i + 1) xs) m → Contains (take i xs) m ⊎ (x ≡ m)
contains_more xs i x m l e h =
    let more : take (i + 1) xs ≡ take i xs ++ x ∷ [] = take_item xs i (i + 1) x refl (slice_get_read xs (length xs) i x refl l e) in
    Contains-push_cases (take i xs) x m (subst (λ (t : List ℕ). Contains t m) more h)
