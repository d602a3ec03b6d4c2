-- The label that a member noted tells which messages its commit undoes.
use Rattle.std.proofs.Common.{◌≡◌, ℕ, ◌≤◌, ◌<◌, true, false, arith}
use Rattle.std.specs.Prelude.{nat_lt, nat_le}
use Rattle.std.proofs.lemmas.Bool.Decides.{nat_tests}
use Rattle.kt_protocol.proofs.Invariant.{Invariant}
use Rattle.kt_protocol.specs.States.{State}
use Rattle.kt_protocol.specs.Summary.{is_undone}

-- what a noted sender undoes is what has a label above the noted one
pub by_label : (s : State) (k p y m : ℕ) → Invariant s → s.noted k p y ≡ true → s.so_far.is_decided k ≡ false → s.so_far.is_rollback k ≡ true → s.so_far.is_sent m ≡ true → s.so_far.from m ≡ y → s.so_far.to m ≡ p → is_undone s.so_far k m ≡ nat_lt (s.noted_label k p y) m
by_label s k p y m g n d r a f t =
    let x = g.asks.noted_is k p y n in
    let x0 = x.0 in
    let x1 = x.1 d r in
    let z = g.tables.separates m a in
    let z0 : s.so_far.sent_at m < s.so_far.permanent y → m ≤ s.last_sent y p = rw (f, t) at z.0 in
    let z1 : s.so_far.permanent y ≤ s.so_far.sent_at m → s.last_sent y p < m = rw (f, t) at z.1 in
    rw (f, x0, x1) (tests (s.so_far.permanent y) (s.so_far.sent_at m) (s.last_sent y p) m z0 z1)
  where
    tests : (p o l m : ℕ) → (o < p → m ≤ l) → (p ≤ o → l < m) → nat_le p o ≡ nat_lt l m
    tests p o l m a b = grind (arith, nat_tests, a, b)
