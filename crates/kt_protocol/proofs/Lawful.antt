-- What the machine keeps beside its invariant, so that each row that it writes is legal.
use Rattle.std.proofs.Common.{◌≡◌, ◌≢◌, ℕ, suc, ◌≤◌, ◌<◌, Bool, true, false, not, Option, Some, None, List, [], ◌∷◌, ◌++◌, length, refl, arith, sym, subst, inl, inr, ◌⊎◌, ◌∙◌}
use Rattle.std.specs.Prelude.{◌==◌, ◌&&◌, nat_le, slice_get, find}
use Rattle.std.specs.List.{list_all}
use Rattle.std.proofs.lemmas.Bool.{cases_eq, cases_lt}
use Rattle.std.proofs.lemmas.Bool.Decides.{nat_tests}
use Rattle.kt_spacetime.specs.declared.event.Event.{Event}
use Rattle.kt_spacetime.specs.declared.event.Event.TheVariants.{Sent, Received, Dropped, Began, Took, Ready, Unwilling, Decided, Closed, Failed, Refused}
use Rattle.kt_spacetime.specs.declared.deeds.Deed.{Deed}
use Rattle.kt_spacetime.specs.declared.deeds.Deed.TheVariants as deed
use Rattle.kt_spacetime.specs.declared.rules.Rule.{Rule}
use Rattle.kt_spacetime.specs.declared.rules.Rule.TheVariants.{Numbers, Message, Order, Sending, Receiving, Joining, Deciding, Closing, Causes}
use Rattle.kt_meaning.specs.Past.{Past, past, is_rollback, is_checkpoint, is_member, initiator_of}
use Rattle.kt_meaning.specs.Legal.{IsLegal, keeps, broken_rule, is_later, has_begun, is_undecided, is_in_none, is_in, is_rolling, follows}
use Rattle.kt_meaning.proofs.LegalLogs.{Kept}
use Rattle.kt_protocol.proofs.Invariant.{Invariant, is_message}
use Rattle.kt_protocol.proofs.Lines.{Over, Rising, over_has, over_right, rising_split, times_apps}
use Rattle.kt_protocol.specs.Parcels.{messages, Lists}
use Rattle.kt_protocol.specs.InTransit.{times}
use Rattle.kt_protocol.proofs.Updates.{is_same}
use Rattle.kt_protocol.proofs.SummaryTies.{tied}
use Rattle.kt_protocol.proofs.Weights.{weigh}
use Rattle.kt_protocol.specs.States.{State, is_ready}
use Rattle.kt_protocol.specs.SummaryMeaning.{AgreesWith}
use Rattle.kt_protocol.specs.Summary.{Summary}

-- the messages in transit from u to v, in order; what v received past its permanent position stands before them
abbrev pub way : Lists → Lists → ℕ → ℕ → List ℕ
way channel held u v = messages (held u v) ++ messages (channel u v)

abbrev pub line : Lists → Lists → Lists → ℕ → ℕ → List ℕ
line channel held kept u v = messages (kept u v) ++ way channel held u v

-- p is in a committed rollback, which it has not closed
abbrev pub is_undoing : Summary → ℕ → Bool
is_undoing h p = not (h.open_in p == 0) && (h.is_rollback (h.open_in p) && (h.is_decided (h.open_in p) && h.is_committed (h.open_in p)))

-- the last row begins no instance
abbrev pub is_quiet : Option Event → Bool
is_quiet (Some (Began p k kind)) = false
is_quiet _ = true

pub record Lawful (quiet : Bool) (log : List Event) (s : Past) (h : Summary) (channel held kept : Lists) (up : ℕ → Bool) (instances : ℕ) (initiator : ℕ → ℕ) : Type 0 where
  pub legal : IsLegal log
  pub last : quiet ≡ true → is_quiet s.last ≡ true
  pub is_up : (p : ℕ) → up p ≡ s.up p
  pub count : instances ≡ length s.begun
  pub first : (k : ℕ) → 0 < k → k ≤ instances → initiator_of s k ≡ Some (initiator k)
  pub apart : (m : ℕ) → h.is_sent m ≡ true → h.from m ≢ h.to m
  pub in_order : (u v : ℕ) → Rising (line channel held kept u v)
  pub permanent_first : (n : ℕ) → h.is_received n ≡ true → h.received_at n < h.permanent (h.to n) → Over n (line channel held kept (h.from n) (h.to n))
  pub drops_first : (p q i n : ℕ) → is_undoing h p ≡ false → slice_get (s.dropped_since p) i ≡ Some (deed.Received n q) → Over n (way channel held q p)
  pub drops_low : (p q i n : ℕ) → slice_get (s.dropped_since p) i ≡ Some (deed.Received n q) → n ≤ h.rows

abbrev pub Law : Bool → State → Type 0
Law quiet s = Lawful quiet s.log (past s.log) s.so_far s.channel s.held s.kept s.up s.instances s.initiator

-- a row that keeps each rule
kept_next : {X : Type 0} (test : X → Bool) (x : X) (xs : List X) → test x ≡ true → find (λ y. not (test y)) xs ≡ None → find (λ y. not (test y)) (x ∷ xs) ≡ None
kept_next test x xs t e = rw t e

pub unbroken : (s : Past) (row : Event) → Kept s row → broken_rule s row ≡ None
unbroken s row k =
    let test : Rule → Bool = λ rule. keeps rule s row in
    kept_next test Numbers (Message ∷ Order ∷ Sending ∷ Receiving ∷ Joining ∷ Deciding ∷ Closing ∷ Causes ∷ []) k.numbers
    (kept_next test Message (Order ∷ Sending ∷ Receiving ∷ Joining ∷ Deciding ∷ Closing ∷ Causes ∷ []) k.message
    (kept_next test Order (Sending ∷ Receiving ∷ Joining ∷ Deciding ∷ Closing ∷ Causes ∷ []) k.order
    (kept_next test Sending (Receiving ∷ Joining ∷ Deciding ∷ Closing ∷ Causes ∷ []) k.sending
    (kept_next test Receiving (Joining ∷ Deciding ∷ Closing ∷ Causes ∷ []) k.receiving
    (kept_next test Joining (Deciding ∷ Closing ∷ Causes ∷ []) k.joining
    (kept_next test Deciding (Closing ∷ Causes ∷ []) k.deciding
    (kept_next test Closing (Causes ∷ []) k.closing
    (kept_next test Causes [] k.causes refl))))))))

pub follows_quiet : (o : Option Event) (row : Event) → is_quiet o ≡ true → follows o row ≡ true
follows_quiet None row e = refl
follows_quiet (Some (Began p k kind)) row e = absurd (cc)
follows_quiet (Some (Sent p q body)) row e = refl
follows_quiet (Some (Received p q m)) row e = refl
follows_quiet (Some (Dropped p q m)) row e = refl
follows_quiet (Some (Took p k)) row e = refl
follows_quiet (Some (Ready p k)) row e = refl
follows_quiet (Some (Unwilling p k cause)) row e = refl
follows_quiet (Some (Decided p k c)) row e = refl
follows_quiet (Some (Closed p k)) row e = refl
follows_quiet (Some (Failed p)) row e = refl
follows_quiet (Some (Refused p v cause)) row e = refl

later_one : (q m n from : ℕ) (l : List Deed) → (Some (deed.Received n from) ≡ Some (deed.Received n q) → n < m) → list_all (is_later q m) l ≡ true → (from ≡ q) ⊎ (from ≢ q) → list_all (is_later q m) (deed.Received n from ∷ l) ≡ true
later_one q m n from l h rest (inl e) = let a = h (rw e refl) in grind (arith, nat_tests, a, rest)
later_one q m n from l h rest (inr d) = grind (arith, nat_tests, d, rest)

-- a list of deeds has nothing of q from m on
pub later_from : (q m : ℕ) (l : List Deed) → ((i n : ℕ) → slice_get l i ≡ Some (deed.Received n q) → n < m) → list_all (is_later q m) l ≡ true
later_from q m [] h = refl
later_from q m (deed.Sent n to ∷ l) h = later_from q m l (λ i x e. h (suc i) x e)
later_from q m (deed.Received n from ∷ l) h = later_one q m n from l (h 0 n) (later_from q m l (λ i x e. h (suc i) x e)) (cases_eq from q)

-- the row of a state that is as good as lawful
module _ (quiet : Bool) (s : State) (g : Invariant s) (l : Law quiet s) where
  pub tie : AgreesWith s.so_far (past s.log)
  tie = subst (λ (h : Summary). AgreesWith h (past s.log)) (sym g.histories.of_log) (tied s.log l.legal)

  pub begun_of : (k : ℕ) → 0 < k → k ≤ s.instances → has_begun (past s.log) k ≡ true
  begun_of k a b = let c = l.count in grind (arith, nat_tests, a, b, c)

  pub none_in : (p : ℕ) → s.so_far.open_in p ≡ 0 → is_in_none (past s.log) p ≡ true
  none_in p o = rw (tie.open_in p, o) refl

  pub in_it : (p k : ℕ) → 0 < k → s.so_far.open_in p ≡ k → is_in (past s.log) p k ≡ true
  in_it p k pos o = let e : (k == 0) ≡ false = grind (arith, nat_tests, pos) in rw (tie.open_in p, o, e) (is_same k)

  pub undecided_of : (k : ℕ) → 0 < k → k ≤ s.instances → s.so_far.is_decided k ≡ false → is_undecided (past s.log) k ≡ true
  undecided_of k a b d = rw (begun_of k a b, tie.decision k, d) refl

  pub roll_of : (k : ℕ) → 0 < k → k ≤ s.instances → is_rollback (past s.log) k ≡ s.so_far.is_rollback k
  roll_of k a b = tie.rollback k (begun_of k a b)

  pub save_of : (k : ℕ) → 0 < k → k ≤ s.instances → is_checkpoint (past s.log) k ≡ not (s.so_far.is_rollback k)
  save_of k a b = tie.checkpoint k (begun_of k a b)

  pub not_member : (k p : ℕ) → s.so_far.joined k p ≡ false → is_member (past s.log) k p ≡ false
  not_member k p j = rw (tie.new k p, tie.ready k p, j) refl

  pub not_rolling : (p : ℕ) → is_ready s p ≡ false → is_rolling (past s.log) p ≡ false
  not_rolling p r = elim (cases_eq (s.so_far.open_in p) 0) [
    | inl e ↦ rw (tie.open_in p, e) refl
    | inr n ↦ (
        let pos : 0 < s.so_far.open_in p = omega (arith, n) in
        let j = g.positions.joined_instance (s.so_far.open_in p) p (g.positions.open_joined (s.so_far.open_in p) p pos refl) in
        let e : (s.so_far.open_in p == 0) ≡ false = grind (arith, nat_tests, n) in
        let c : s.so_far.is_rollback (s.so_far.open_in p) ≡ false = grind (arith, nat_tests, r, e) in
        rw (tie.open_in p, e) (roll_of (s.so_far.open_in p) j.0 j.1 ∙ c))
  ]

  -- what p received of q before m
  pub before_it : (p q m : ℕ) → 0 < times m (way s.channel s.held q p) → (i n : ℕ) → slice_get ((past s.log).live p) i ≡ Some (deed.Received n q) → n < m
  before_it p q m w i n e =
      let a = g.histories.received_is p i n q (rw (tie.live p) e) in
      at_place a.0 a.1 a.3
    where
      at_place : s.so_far.is_received n ≡ true → s.so_far.to n ≡ p → s.so_far.from n ≡ q → n < m
      at_place got to from = elim (cases_lt (s.so_far.received_at n) (s.so_far.permanent p)) [
        | inl x ↦ (let o : Over n (line s.channel s.held s.kept q p) = rw (to, from) at (l.permanent_first n got (rw to x)) in
            over_has n m (way s.channel s.held q p) (over_right n (messages (s.kept q p)) (way s.channel s.held q p) o) w)
        | inr x ↦ (
            let k = g.messages.kept_is n p q in
            let y : (nat_le (s.so_far.permanent p) (s.so_far.received_at n)) ≡ true = grind (arith, nat_tests, x) in
            let z : weigh (is_message n) (s.kept q p) ≡ 1 = grind (arith, nat_tests, k, got, to, from, y, is_same q, is_same p) in
            let t = times_apps n (s.kept q p) in
            rising_split n m (messages (s.kept q p)) (way s.channel s.held q p) (l.in_order q p) (omega (arith, z, t)) w)
      ]
