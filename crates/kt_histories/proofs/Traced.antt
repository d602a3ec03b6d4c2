-- The places of a message, as the tables have them.
use Rattle.std.proofs.Common.{◌≡◌, ℕ, zero, suc, ◌+◌, if◌then◌else◌, Bool, true, false, Option, Some, None, option_map, List, [], ◌∷◌, map, refl, sym, ap, ◌∙◌}
use Rattle.std.specs.List.{slice_get}
use Rattle.std.specs.Option.{option_flatten}
use Rattle.std.proofs.lemmas.Option.{slice_get-map}
use Rattle.kt_spacetime.specs.declared.event.Event.{Event}
use Rattle.kt_spacetime.specs.declared.deeds.Deed.{Deed}
use Rattle.kt_spacetime.specs.declared.deeds.Deed.TheVariants as deed
use Rattle.kt_histories.specs.declared.process.Process.{Process}
use Rattle.kt_histories.specs.declared.tables.Message.{Message}
use Rattle.kt_meaning.specs.Past.{Past, past}
use Rattle.kt_meaning.specs.Legal.{has_deed}
use Rattle.kt_meaning.specs.Messages.{row_at}
use Rattle.kt_rules.specs.Traces.{place_of, trace_between, trace_of}
use Rattle.kt_rules.specs.Standing.{parties_of_row}
use Rattle.kt_histories.specs.Standing.{ShowsProcess, ShowsMessages, message_at, sending, receiving, parties}
use Rattle.kt_meaning.proofs.Items.{some_same}
use Rattle.kt_rules.proofs.DeedFacts.{has_at}
use Rattle.kt_histories.proofs.LatestFacts.{live_there, receive_there}
use Rattle.kt_rules.proofs.Traced.{place_at, place_none}

absent : (d : Deed) (l : List Deed) → has_deed d l ≡ false → (i : ℕ) → slice_get l i ≡ Some d → ⊥
absent d l never i e =
    let there : has_deed d l ≡ true = has_at d l i e in
    cc

pub sent_placed : (ms : List (Option Message)) (s : Past) (m : ℕ) (v : Message) (w : Process) (r : Option ℕ) → ShowsMessages ms s → ShowsProcess w s v.from → message_at ms m ≡ Some v
    → (slice_get w.history v.sent ≡ Some (deed.Sent m v.to) → r ≡ Some (v.sent + 1)) → ((slice_get w.history v.sent ≡ Some (deed.Sent m v.to) → ⊥) → r ≡ None)
    → r ≡ place_of (deed.Sent m v.to) (s.live v.from)
sent_placed ms s m v w r h g at there none = at_test (has_deed (deed.Sent m v.to) (s.live v.from)) refl
  where
    one : (j : ℕ) → slice_get (s.live v.from) j ≡ Some (deed.Sent m v.to) → j ≡ v.sent
    one j e =
        let held : Some (v.from, v.to, v.sent) ≡ Some (v.from, v.to, j) = ap sending (sym at) ∙ h.sent v.from j m v.to e in
        sym (ap (λ (t : ℕ × ℕ × ℕ). t.2) (some_same held))

    at_test : (b : Bool) → has_deed (deed.Sent m v.to) (s.live v.from) ≡ b → r ≡ place_of (deed.Sent m v.to) (s.live v.from)
    at_test true has =
        let here = live_there ms s m v h at has in
        there (ap (λ (l : List Deed). slice_get l v.sent) g.live ∙ here) ∙ sym (place_at (deed.Sent m v.to) (s.live v.from) v.sent here one)
    at_test false has =
        let never = absent (deed.Sent m v.to) (s.live v.from) has in
        none (λ e. never v.sent (ap (λ (l : List Deed). slice_get l v.sent) (sym g.live) ∙ e)) ∙ sym (place_none (deed.Sent m v.to) (s.live v.from) never)

pub received_placed : (ms : List (Option Message)) (s : Past) (m i : ℕ) (v : Message) (w : Process) (r : Option ℕ) → ShowsMessages ms s → ShowsProcess w s v.to → message_at ms m ≡ Some v → v.received ≡ Some i
    → (slice_get w.history i ≡ Some (deed.Received m v.from) → r ≡ Some (i + 1)) → ((slice_get w.history i ≡ Some (deed.Received m v.from) → ⊥) → r ≡ None)
    → r ≡ place_of (deed.Received m v.from) (s.live v.to)
received_placed ms s m i v w r h g at is there none = at_test (has_deed (deed.Received m v.from) (s.live v.to)) refl
  where
    one : (j : ℕ) → slice_get (s.live v.to) j ≡ Some (deed.Received m v.from) → j ≡ i
    one j e =
        let held : Some (v.to, v.from, v.received) ≡ Some (v.to, v.from, Some j) = ap receiving (sym at) ∙ h.received v.to j m v.from e in
        some_same (sym (ap (λ (t : ℕ × ℕ × Option ℕ). t.2) (some_same held)) ∙ is)

    at_test : (b : Bool) → has_deed (deed.Received m v.from) (s.live v.to) ≡ b → r ≡ place_of (deed.Received m v.from) (s.live v.to)
    at_test true has =
        let found = receive_there ms s m v h at has in
        let same : found.0 ≡ i = some_same (sym found.1 ∙ is) in
        let here : slice_get (s.live v.to) i ≡ Some (deed.Received m v.from) = ap (slice_get (s.live v.to)) (sym same) ∙ found.2 in
        there (ap (λ (l : List Deed). slice_get l i) g.live ∙ here) ∙ sym (place_at (deed.Received m v.from) (s.live v.to) i here one)
    at_test false has =
        let never = absent (deed.Received m v.from) (s.live v.to) has in
        none (λ e. never i (ap (λ (l : List Deed). slice_get l i) (sym g.live) ∙ e)) ∙ sym (place_none (deed.Received m v.from) (s.live v.to) never)

pub received_nowhere : (ms : List (Option Message)) (s : Past) (m : ℕ) (v : Message) → ShowsMessages ms s → message_at ms m ≡ Some v → v.received ≡ None → None ≡ place_of (deed.Received m v.from) (s.live v.to)
received_nowhere ms s m v h at is = sym (place_none (deed.Received m v.from) (s.live v.to) (λ j e.
    let held : Some (v.to, v.from, v.received) ≡ Some (v.to, v.from, Some j) = ap receiving (sym at) ∙ h.received v.to j m v.from e in
    cc (sym is ∙ ap (λ (t : ℕ × ℕ × Option ℕ). t.2) (some_same held))))

-- the parties of a message, by its row and by the tables
pub parties_known : (ms : List (Option Message)) (rows : List Event) (m : ℕ) → map parties ms ≡ map parties_of_row rows → option_flatten (option_map parties_of_row (row_at rows m)) ≡ parties (message_at ms m)
parties_known ms rows zero h = refl
parties_known ms rows (suc n) h =
    ap option_flatten (sym (slice_get-map parties_of_row rows n) ∙ (ap (λ (l : List (Option (ℕ × ℕ))). slice_get l n) (sym h) ∙ slice_get-map parties ms n)) ∙ flat (slice_get ms n)
  where
    flat : (o : Option (Option Message)) → option_flatten (option_map parties o) ≡ parties (option_flatten o)
    flat None = refl
    flat (Some x) = refl

pub trace_none : (ms : List (Option Message)) (rows : List Event) (m : ℕ) → map parties ms ≡ map parties_of_row rows → message_at ms m ≡ None → None ≡ trace_of rows m
trace_none ms rows m h none = sym (ap (trace_between (past rows) m) (parties_known ms rows m h ∙ ap parties none))

pub trace_some : (ms : List (Option Message)) (rows : List Event) (m : ℕ) (v : Message) (a b : Option ℕ) → map parties ms ≡ map parties_of_row rows → message_at ms m ≡ Some v
    → a ≡ place_of (deed.Sent m v.to) ((past rows).live v.from) → b ≡ place_of (deed.Received m v.from) ((past rows).live v.to)
    → Some (record { from = v.from; to = v.to; sent = a; received = b }) ≡ trace_of rows m
trace_some ms rows m v a b h at sent received =
    let whole : trace_of rows m ≡ trace_between (past rows) m (Some (v.from, v.to)) = ap (trace_between (past rows) m) (parties_known ms rows m h ∙ ap parties at) in
    (λ i. Some (record { from = v.from; to = v.to; sent = sent i; received = received i })) ∙ sym whole
