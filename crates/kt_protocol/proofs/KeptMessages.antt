-- What is kept for a process is what it received past its permanent position.
use Rattle.std.proofs.Common.{◌≡◌, ℕ, ◌+◌, ◌-◌, ◌≤◌, Bool, true, false, arith, refl, ◌∙◌}
use Rattle.std.specs.Prelude.{◌==◌, ◌&&◌, nat_le, if◌then◌else◌, drop}
use Rattle.std.proofs.lemmas.Bool.Decides.{nat_tests}
use Rattle.kt_spacetime.specs.declared.deeds.Deed.TheVariants as deed
use Rattle.kt_meaning.specs.Past.{past}
use Rattle.kt_meaning.specs.Legal.{has_deed}
use Rattle.kt_meaning.proofs.Lists.{get_drop, has_from_place, deed_place}
use Rattle.kt_meaning.proofs.Items.{get_from_drop}
use Rattle.kt_protocol.specs.States.{State}
use Rattle.kt_protocol.specs.SummaryMeaning.{AgreesWith}
use Rattle.kt_protocol.specs.InTransit.{IsKeptOfPast}
use Rattle.kt_protocol.proofs.Choices.{both, same}
use Rattle.kt_protocol.proofs.Invariant.{Invariant, one}
use Rattle.kt_protocol.proofs.Lines.{times_apps}
use Rattle.kt_protocol.proofs.LogMeaning.{placed_in}
use Rattle.kt_protocol.proofs.Updates.{is_same}

pub kept_past_permanent : (s : State) → Invariant s → AgreesWith s.so_far (past s.log) → IsKeptOfPast (past s.log) s.kept
kept_past_permanent s g t m q p = times_apps m (s.kept q p) ∙ g.messages.kept_is m p q ∙ by_deed (has_deed (deed.Received m q) (drop ((past s.log).permanent p) ((past s.log).live p))) refl
  where
    late : (n i : ℕ) → nat_le n (n + i) ≡ true
    late n i = grind (arith, nat_tests)

    low : (n i : ℕ) → nat_le n i ≡ true → n ≤ i
    low n i e = grind (arith, nat_tests, e)

    -- a message that counts is there
    there : (s.so_far.is_received m && s.so_far.from m == q && s.so_far.to m == p && nat_le (s.so_far.permanent p) (s.so_far.received_at m)) ≡ true → has_deed (deed.Received m q) (drop ((past s.log).permanent p) ((past s.log).live p)) ≡ true
    there e =
        let a = both (s.so_far.is_received m && s.so_far.from m == q && s.so_far.to m == p) (nat_le (s.so_far.permanent p) (s.so_far.received_at m)) e in
        let b = both (s.so_far.is_received m && s.so_far.from m == q) (s.so_far.to m == p) a.0 in
        let c = both (s.so_far.is_received m) (s.so_far.from m == q) b.0 in
        let w = ((placed_in s g t).received m p q (s.so_far.received_at m)).1 (c.0, same (s.so_far.to m) p b.1, same (s.so_far.from m) q c.1, refl) in
        let l : (past s.log).permanent p ≤ s.so_far.received_at m = (let x = low (s.so_far.permanent p) (s.so_far.received_at m) a.1 in let y = t.permanent p in omega (arith, x, y)) in
        has_from_place (deed.Received m q) (drop ((past s.log).permanent p) ((past s.log).live p)) (s.so_far.received_at m - (past s.log).permanent p)
        (get_from_drop ((past s.log).permanent p) ((past s.log).live p) (s.so_far.received_at m) (deed.Received m q) w l)

    by_deed : (x : Bool) → has_deed (deed.Received m q) (drop ((past s.log).permanent p) ((past s.log).live p)) ≡ x →
        one (s.so_far.is_received m && s.so_far.from m == q && s.so_far.to m == p && nat_le (s.so_far.permanent p) (s.so_far.received_at m)) ≡ (if has_deed (deed.Received m q) (drop ((past s.log).permanent p) ((past s.log).live p)) then 1 else 0)
    by_deed true e =
        let place = deed_place (deed.Received m q) (drop ((past s.log).permanent p) ((past s.log).live p)) e in
        let w = ((placed_in s g t).received m p q ((past s.log).permanent p + place.0)).0 (get_drop ((past s.log).permanent p) ((past s.log).live p) place.0 (deed.Received m q) place.1) in
        rw (e, w.0, w.2, w.1, w.3, is_same q, is_same p, t.permanent p, late ((past s.log).permanent p) place.0) refl
    by_deed false e = rw e (counts_not _ refl)
      where
        counts_not : (y : Bool) → (s.so_far.is_received m && s.so_far.from m == q && s.so_far.to m == p && nat_le (s.so_far.permanent p) (s.so_far.received_at m)) ≡ y → one (s.so_far.is_received m && s.so_far.from m == q && s.so_far.to m == p && nat_le (s.so_far.permanent p) (s.so_far.received_at m)) ≡ 0
        counts_not false f = rw f refl
        counts_not true f = let z = there f in absurd (cc (z, e))
