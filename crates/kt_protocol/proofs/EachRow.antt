-- What holds before each row of a log with one more.
use Rattle.std.proofs.Common.{◌≡◌, ℕ, zero, suc, ◌<◌, true, List, [], ◌∷◌, ◌++◌, length, take, refl, arith, sym, ap, subst, inl, inr, ◌⊎◌, Some}
use Rattle.std.specs.Prelude.{slice_get}
use Rattle.std.proofs.lemmas.List.{take-append-le, take_at}
use Rattle.std.proofs.lemmas.Option.{slice_get_within}
use Rattle.kt_spacetime.specs.declared.event.Event.{Event}
use Rattle.kt_spacetime.specs.declared.deeds.Deed.TheVariants as deed
use Rattle.kt_protocol.proofs.Invariant.{Invariant}
use Rattle.kt_protocol.proofs.RowFacts.{EachRow, HasNoOrphan, HoldsBefore}
use Rattle.kt_protocol.specs.States.{State}
use Rattle.kt_protocol.specs.Summary.{Summary, summary}

pub get-push : {X : Type 0} (xs : List X) (x : X) (i : ℕ) (y : X) → slice_get (xs ++ x ∷ []) i ≡ Some y → (slice_get xs i ≡ Some y) ⊎ ((i ≡ length xs) × (x ≡ y))
get-push [] x zero y h = inr (refl, cc (h))
get-push [] x (suc i) y h = absurd (cc)
get-push (z ∷ xs) x zero y h = inl h
get-push (z ∷ xs) x (suc i) y h = elim (get-push xs x i y h) [ inl a ↦ inl a | inr b ↦ inr (ap suc b.0, b.1) ]

pub get-push_old : {X : Type 0} (xs : List X) (x : X) (i : ℕ) (y : X) → slice_get xs i ≡ Some y → slice_get (xs ++ x ∷ []) i ≡ Some y
get-push_old [] x i y h = absurd (cc)
get-push_old (z ∷ xs) x zero y h = h
get-push_old (z ∷ xs) x (suc i) y h = get-push_old xs x i y h

pub get-push_new : {X : Type 0} (xs : List X) (x : X) → slice_get (xs ++ x ∷ []) (length xs) ≡ Some x
get-push_new [] x = refl
get-push_new (z ∷ xs) x = get-push_new xs x

pub each_row_push : (P : Summary → Event → Type 0) (log : List Event) (row : Event) → EachRow P log → P (summary log) row → EachRow P (log ++ row ∷ [])
each_row_push P log row h p = λ t e g. elim (get-push log row t e g) [
  | inl a ↦ rw (take-append-le t log (row ∷ []) (let l : t < length log = slice_get_within log t e a in omega arith)) (h t e a)
  | inr b ↦ subst (λ (r : Event). P (summary (take t (log ++ row ∷ []))) r) b.1 (rw (take_at log (row ∷ []) t (sym b.0)) p)
]

pub cut_no_orphan : (s : State) (cut : ℕ → ℕ) → Invariant s → ((m : ℕ) → s.so_far.is_received m ≡ true → s.so_far.received_at m < cut (s.so_far.to m) → s.so_far.sent_at m < cut (s.so_far.from m)) → HasNoOrphan s.so_far cut
cut_no_orphan s cut g f m x y i e l =
    let a = g.histories.received_is y i m x e in
    let b = f m a.0 (subst (λ (u : ℕ). s.so_far.received_at m < cut u) (sym a.1) (omega (arith, a.2))) in
    let c = g.histories.sent_there m (g.messages.received_low m a.0).0 in
    let d : slice_get (s.so_far.live x) (s.so_far.sent_at m) ≡ Some (deed.Sent m y) = rw (a.3, a.1) at c in
    (s.so_far.sent_at m, d, subst (λ (u : ℕ). s.so_far.sent_at m < cut u) a.3 b)

pub permanent_has_no_orphan : (s : State) → Invariant s → HasNoOrphan s.so_far s.so_far.permanent
permanent_has_no_orphan s g = cut_no_orphan s s.so_far.permanent g g.consistent.sent_permanently

pub present_has_no_orphan : (s : State) → Invariant s → HasNoOrphan s.so_far s.so_far.size
present_has_no_orphan s g = cut_no_orphan s s.so_far.size g (λ m a b. g.messages.received_sent m a)

pub rows_hold_push : (s : State) (row : Event) → Invariant s → HoldsBefore s.so_far row → EachRow HoldsBefore (s.log ++ row ∷ [])
rows_hold_push s row g f = each_row_push HoldsBefore s.log row g.consistent.rows_hold (subst (λ (h : Summary). HoldsBefore h row) g.histories.of_log f)
