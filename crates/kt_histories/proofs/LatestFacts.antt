-- What is later than the last is later than all.
use Rattle.std.proofs.Common.{◌≡◌, ℕ, ◌-◌, ◌<◌, ◌≤◌, ◌==◌, ◌&&◌, Bool, true, false, Option, Some, None, List, [], ◌∷◌, refl, sym, ap, ◌∙◌, arith}
use Rattle.std.specs.Prelude.{IsTrue, ◌↔◌}
use Rattle.std.specs.List.{slice_get, list_all}
use Rattle.std.proofs.lemmas.Bool.Decides.{nat_tests}
use Rattle.kt_spacetime.specs.declared.deeds.Deed.{Deed}
use Rattle.kt_spacetime.specs.declared.deeds.Deed.TheVariants as deed
use Rattle.kt_histories.specs.declared.process.Process.{Process}
use Rattle.kt_histories.specs.declared.tables.Message.{Message}
use Rattle.kt_meaning.specs.Past.{Past}
use Rattle.kt_meaning.specs.Legal.{has_deed, is_later, is_latest, is_undelivered}
use Rattle.kt_rules.specs.Lists.{received_in, last_of, NumbersRise}
use Rattle.kt_rules.specs.Tests.{is_after}
use Rattle.kt_histories.specs.Standing.{ShowsProcess, ShowsMessages, message_at, sending, receiving}
use Rattle.kt_meaning.proofs.Items.{some_same}
use Rattle.kt_meaning.proofs.DeedFacts.{place_of_deed}
use Rattle.kt_rules.proofs.DeedFacts.{has_at}
use Rattle.kt_rules.proofs.LatestFacts.{later_is_after}

pub latest_known : (v : Process) (s : Past) (p q m : ℕ) (d : Option ℕ) → ShowsProcess v s p → NumbersRise (received_in q (s.live p)) → NumbersRise (received_in q (s.dropped_since p)) → q < 64 → slice_get v.last_dropped q ≡ Some d
    → is_latest s p q m ≡ (is_after m (last_of (received_in q v.history)) && is_after m d)
latest_known v s p q m d g received dropped low e =
    let one : list_all (is_later q m) (s.live p) ≡ is_after m (last_of (received_in q v.history)) = later_is_after q m (s.live p) received ∙ ap (λ (l : List Deed). is_after m (last_of (received_in q l))) (sym g.live) in
    let two : list_all (is_later q m) (s.dropped_since p) ≡ is_after m d = later_is_after q m (s.dropped_since p) dropped ∙ ap (is_after m) (some_same (sym (g.dropped q low) ∙ e)) in
    λ i. one i && two i

-- whether a message's send is live, and its receive there
pub live_there : (ms : List (Option Message)) (s : Past) (m : ℕ) (v : Message) → ShowsMessages ms s → message_at ms m ≡ Some v → has_deed (deed.Sent m v.to) (s.live v.from) ≡ true → slice_get (s.live v.from) v.sent ≡ Some (deed.Sent m v.to)
live_there ms s m v h at has =
    let there = place_of_deed (deed.Sent m v.to) (s.live v.from) has in
    let known = h.sent v.from there.0 m v.to there.1 in
    let held : Some (v.from, v.to, v.sent) ≡ Some (v.from, v.to, there.0) = ap sending (sym at) ∙ known in
    ap (slice_get (s.live v.from)) (ap (λ (t : ℕ × ℕ × ℕ). t.2) (some_same held)) ∙ there.1

pub receive_there : (ms : List (Option Message)) (s : Past) (m : ℕ) (v : Message) → ShowsMessages ms s → message_at ms m ≡ Some v → has_deed (deed.Received m v.from) (s.live v.to) ≡ true
    → (i : ℕ) × (v.received ≡ Some i) × (slice_get (s.live v.to) i ≡ Some (deed.Received m v.from))
receive_there ms s m v h at has =
    let there = place_of_deed (deed.Received m v.from) (s.live v.to) has in
    let known = h.received v.to there.0 m v.from there.1 in
    let held : Some (v.to, v.from, v.received) ≡ Some (v.to, v.from, Some there.0) = ap receiving (sym at) ∙ known in
    (there.0, ap (λ (t : ℕ × ℕ × Option ℕ). t.2) (some_same held), there.1)

pub same_bool : (a b : Bool) → (a ≡ true → b ≡ true) → (b ≡ true → a ≡ true) → a ≡ b
same_bool true b f g = sym (f refl)
same_bool false true f g = g refl
same_bool false false f g = refl

-- a test of a place that tells whether a deed is live
pub live_test : (ms : List (Option Message)) (s : Past) (m : ℕ) (v : Message) (w : Process) (b : Bool) → ShowsMessages ms s → ShowsProcess w s v.from → message_at ms m ≡ Some v
    → (IsTrue b ↔ (slice_get w.history v.sent ≡ Some (deed.Sent m v.to))) → b ≡ has_deed (deed.Sent m v.to) (s.live v.from)
live_test ms s m v w b h g at test =
    same_bool b (has_deed (deed.Sent m v.to) (s.live v.from)) (λ e. has_at (deed.Sent m v.to) (s.live v.from) v.sent (ap (λ (l : List Deed). slice_get l v.sent) (sym g.live) ∙ test.0 e))
    (λ e. test.1 (ap (λ (l : List Deed). slice_get l v.sent) g.live ∙ live_there ms s m v h at e))

pub received_test : (ms : List (Option Message)) (s : Past) (m i : ℕ) (v : Message) (w : Process) (b : Bool) → ShowsMessages ms s → ShowsProcess w s v.to → message_at ms m ≡ Some v → v.received ≡ Some i
    → (IsTrue b ↔ (slice_get w.history i ≡ Some (deed.Received m v.from))) → b ≡ has_deed (deed.Received m v.from) (s.live v.to)
received_test ms s m i v w b h g at is test =
    same_bool b (has_deed (deed.Received m v.from) (s.live v.to)) (λ e. has_at (deed.Received m v.from) (s.live v.to) i (ap (λ (l : List Deed). slice_get l i) (sym g.live) ∙ test.0 e))
    (λ e.
    let there = receive_there ms s m v h at e in
    let same : i ≡ there.0 = some_same (sym is ∙ there.1) in
    test.1 (ap (λ (l : List Deed). slice_get l i) g.live ∙ (ap (slice_get (s.live v.to)) same ∙ there.2)))

pub never_received : (ms : List (Option Message)) (s : Past) (m : ℕ) (v : Message) → ShowsMessages ms s → message_at ms m ≡ Some v → v.received ≡ None → false ≡ has_deed (deed.Received m v.from) (s.live v.to)
never_received ms s m v h at none =
    same_bool false (has_deed (deed.Received m v.from) (s.live v.to)) (λ e. absurd (cc)) (λ e.
    let there = receive_there ms s m v h at e in
    absurd (cc (sym none ∙ there.1)))

both_equal : (a b c d : ℕ) → a ≡ b → c ≡ d → (a == b && c == d) ≡ false → ⊥
both_equal a b c d e f g =
    let no : true ≡ false = sym (equal_tests a b c d e f) ∙ g in
    cc
  where
    equal_tests : (a b c d : ℕ) → a ≡ b → c ≡ d → (a == b && c == d) ≡ true
    equal_tests a b c d e f = grind (arith, nat_tests, e, f)

not_sent : (b c : Bool) → (b ≡ true → ⊥) → false ≡ (b && c)
not_sent true c f = absurd (f refl)
not_sent false c f = refl

also_not : (b c : Bool) → false ≡ b → false ≡ (b && c)
also_not true c e = absurd (cc)
also_not false c e = refl

pub undelivered_none : (ms : List (Option Message)) (s : Past) (p f m : ℕ) → ShowsMessages ms s → message_at ms m ≡ None → false ≡ is_undelivered s p f m
undelivered_none ms s p f m h none = also_not _ _ (not_sent (has_deed (deed.Sent m p) (s.live f)) _ (λ e.
    let there = place_of_deed (deed.Sent m p) (s.live f) e in
    cc (sym (h.sent f there.0 m p there.1) ∙ ap sending none)))

pub undelivered_else : (ms : List (Option Message)) (s : Past) (p f m : ℕ) (v : Message) → ShowsMessages ms s → message_at ms m ≡ Some v → (v.from == f && v.to == p) ≡ false → false ≡ is_undelivered s p f m
undelivered_else ms s p f m v h at other = also_not _ _ (not_sent (has_deed (deed.Sent m p) (s.live f)) _ (λ e.
    let there = place_of_deed (deed.Sent m p) (s.live f) e in
    let held : Some (v.from, v.to, v.sent) ≡ Some (f, p, there.0) = ap sending (sym at) ∙ h.sent f there.0 m p there.1 in
    let from : v.from ≡ f = ap (λ (t : ℕ × ℕ × ℕ). t.0) (some_same held) in
    let to : v.to ≡ p = ap (λ (t : ℕ × ℕ × ℕ). t.1) (some_same held) in
    both_equal v.from f v.to p from to other))

pub and_then : (a b r : Bool) → a ≡ true → r ≡ b → r ≡ (a && b)
and_then true b r e h = h
and_then false b r e h = absurd (cc)

pub and_else : (a b r : Bool) → r ≡ a → a ≡ false → r ≡ (a && b)
and_else true b r h e = absurd (cc)
and_else false b r h e = h
