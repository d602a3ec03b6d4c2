-- Parcels that a node takes, by names.
use Rattle.std.proofs.Common.{◌≡◌, ◌∙◌, ℕ, ℤ, ◌≤◌, Bool, true, false, not, Option, Some, None, [], ◌∷◌, ◌++◌, length, refl, sym, ap, ap₂, subst, arith}
use Rattle.std.specs.Prelude.{◌==◌, ◌&&◌, if◌then◌else◌, is_some}
use Rattle.std.proofs.lemmas.Bool.Decides.{nat_tests}
use Rattle.kt_base.specs.declared.words.Cause.TheVariants.{Busy}
use Rattle.kt_fifo.specs.declared.parcels.Parcel.TheVariants as in_code
use Rattle.kt_spacetime.specs.declared.event.Event.TheVariants as row
use Rattle.kt_meaning.specs.Messages.{row_at}
use Rattle.kt_meaning.specs.Past.{at_one}
use Rattle.kt_protocol.specs.Replies.{unable_cause}
use Rattle.kt_machine.specs.Messages.{label_by_rows}
use Rattle.kt_machine.specs.Seen.{Seen}
use Rattle.kt_machine.specs.ListChanges as changes
use Rattle.kt_machine.specs.CallTests.{must_take, must_roll}
use Rattle.kt_machine.specs.SeenMessages.{seen_arrival}
use Rattle.kt_machine.specs.SeenJoining.{no_note, seen_member_ask, seen_joining_checkpoint, seen_joining_rollback}
use Rattle.kt_machine.specs.SeenReplies.{part_after_reply}
use Rattle.kt_machine.specs.SeenClosing.{seen_closing, seen_settling}
use Rattle.kt_machine.specs.Transition.{is_seen_ready}
use Rattle.kt_spacetime.specs.declared.names.InstName.{InstName}
use Rattle.kt_spacetime.specs.declared.named_rows.NamedCause.TheVariants as own_cause
use Rattle.kt_meaning.specs.Names.{numbered_cause}
use Rattle.kt_manager.specs.declared.parcels.NodeParcel.TheVariants as put
use Rattle.kt_manager.specs.Nodes.{NodeState, Doing, nothing, is_in_rollback}
use Rattle.kt_manager.specs.NodeMessages.{unable}
use Rattle.kt_manager.specs.NodeJoining.{replying, unwilling, noting}
use Rattle.kt_manager.specs.NodeSteps.{is_one, is_in, asked_outside, asked, counting}
use Rattle.kt_node.specs.NodeSteps.{awaits, heeds, taking}
use Rattle.kt_node.specs.Nets.{Net}
use Rattle.kt_node.proofs.Naming.{one_test}
use Rattle.kt_node.proofs.Told.{given}
use Rattle.kt_node.proofs.Done.{IsDone, done_heard}
use Rattle.kt_node.proofs.MessageRules.{done_arriving, done_holding, done_replying, done_unwilling, choose, cause_unable, cause_busy}
use Rattle.kt_node.proofs.JoiningRules.{done_part, done_noting, done_joining_checkpoint, done_joining_rollback}
use Rattle.kt_node.proofs.ClosingRules.{done_closing, done_settling}

some : (k : ℕ) → (k == 0) ≡ false → 1 ≤ k
some k e = grind (arith, nat_tests, e)

none : (k : ℕ) → 1 ≤ k → (0 == k) ≡ false
none k low = grind (arith, nat_tests, low)

is_zero : (k : ℕ) → (k == 0) ≡ true → k ≡ 0
is_zero k e = grind (arith, nat_tests, e)

-- q asked p last to join k, in which p is only where another process began it and all have replied
abbrev pub MayHeed : (ℕ → InstName) → ℕ → NodeState → Seen → ℕ → ℕ → Type 0
MayHeed name p y v q k = (is_in (y.asks q) (name k) ≡ true) × ((v.states p).inst ≡ k → (((name k).initiator == p) ≡ false) × (((v.states p).part.awaited == 0) ≡ true))

module _ (name : ℕ → InstName) (first : ℕ) (w : Net) (p : ℕ) (count : ℕ → ℕ) (y : NodeState) (v : Seen) (h : IsDone name first w p count (nothing y) v) (within : (v.states p).inst ≤ v.begun) where
  -- p's instance is k exactly where it has k's name
  pub in_test : (k : ℕ) → 1 ≤ k → k ≤ v.begun → is_in y.inst (name k) ≡ ((v.states p).inst == k)
  in_test k low high = ap (λ (x : NodeState). is_in x.inst (name k)) h.state ∙ at_zero ((v.states p).inst == 0) refl
    where
      at_zero : (b : Bool) → ((v.states p).inst == 0) ≡ b → is_in (if b then None else Some (name (v.states p).inst)) (name k) ≡ ((v.states p).inst == k)
      at_zero true e = sym (ap (λ (x : ℕ). x == k) (is_zero (v.states p).inst e) ∙ none k low)
      at_zero false e = one_test name (given v.log) (v.states p).inst k h.told.naming (some (v.states p).inst e) (in_given within) low (in_given high)
        where
          in_given : {j : ℕ} → j ≤ v.begun → j ≤ length (given v.log).initiators
          in_given {j} l = subst (λ (n : ℕ). j ≤ n) (sym h.told.begun_is) l

  -- an ask of q to join k, where p is in no instance
  outside_roll : (q : ℕ) (able : Bool) (k label : ℕ) → 1 ≤ k → k ≤ v.begun → IsDone name first w p count (asked_outside y q able (name k) true label)
      (if must_roll (v.states p).calls q label then seen_settling (seen_joining_rollback v v.channel p k (Some q) (at_one q (Some label) no_note)) p k else record v { channel = changes.with_parcel v.channel p q (in_code.Reply k true) })
  outside_roll q able k label low high = choose name first w p count y v h (must_roll y.calls q label) (must_roll (v.states p).calls q label) _ _ _ _ (ap (λ (x : NodeState). must_roll x.calls q label) h.state)
      (done_settling name first w p count _ _ k low high (done_joining_rollback name first w p count (nothing y) v k (Some q) (at_one q (Some label) no_note) low high h))
      (done_replying name first w p count y v h q k true)

  outside_take : (q : ℕ) (able : Bool) (k label : ℕ) → 1 ≤ k → k ≤ v.begun → IsDone name first w p count (asked_outside y q able (name k) false label)
      (if not (must_take (v.states p).calls q label) then record v { channel = changes.with_parcel v.channel p q (in_code.Reply k true) }
      else if not (able && (v.states p).up) then record v { channel = changes.with_parcel v.channel p q (in_code.Reply k false); log = v.log ++ row.Unwilling p k (unable_cause (v.states p).up) ∷ [] }
      else seen_settling (seen_joining_checkpoint v v.channel p k (Some q)) p k)
  outside_take q able k label low high = choose name first w p count y v h (not (must_take y.calls q label)) (not (must_take (v.states p).calls q label)) _ _ _ _ (ap (λ (x : NodeState). not (must_take x.calls q label)) h.state)
      (done_replying name first w p count y v h q k true)
      (choose name first w p count y v h (not (able && y.up)) (not (able && (v.states p).up)) _ _ _ _ (ap (λ (x : NodeState). not (able && x.up)) h.state)
      (done_unwilling name first w p count y v h q k (unable y.up) (unable_cause (v.states p).up) low high (ap (λ (x : NodeState). numbered_cause (given v.log) (unable x.up)) h.state ∙ cause_unable name first w p count y v h (v.states p).up))
      (done_settling name first w p count _ _ k low high (done_joining_checkpoint name first w p count (nothing y) v k (Some q) low high h)))

  outside : (q : ℕ) (able : Bool) (k : ℕ) (roll : Bool) (label : ℕ) → 1 ≤ k → k ≤ v.begun → IsDone name first w p count (asked_outside y q able (name k) roll label)
      (if roll then (if must_roll (v.states p).calls q label then seen_settling (seen_joining_rollback v v.channel p k (Some q) (at_one q (Some label) no_note)) p k else record v { channel = changes.with_parcel v.channel p q (in_code.Reply k true) })
      else if not (must_take (v.states p).calls q label) then record v { channel = changes.with_parcel v.channel p q (in_code.Reply k true) }
      else if not (able && (v.states p).up) then record v { channel = changes.with_parcel v.channel p q (in_code.Reply k false); log = v.log ++ row.Unwilling p k (unable_cause (v.states p).up) ∷ [] }
      else seen_settling (seen_joining_checkpoint v v.channel p k (Some q)) p k)
  outside q able k true label low high = outside_roll q able k label low high
  outside q able k false label low high = outside_take q able k label low high

  -- an ask of q
  member : (q : ℕ) (k : ℕ) (roll : Bool) (label : ℕ) → IsDone name first w p count (replying (noting y roll q label) q (name k) true) (record (seen_member_ask v roll p q label) { channel = changes.with_parcel v.channel p q (in_code.Reply k true) })
  member q k roll label = done_replying name first w p count (noting y roll q label) (seen_member_ask v roll p q label) (done_noting name first w p count y v roll q label h) q k true

  third : (d : Doing) (a b : Bool) (x y z : Seen) → a ≡ false → b ≡ false → IsDone name first w p count d z → IsDone name first w p count d (if a then x else if b then y else z)
  third d true b x y z e f g = absurd (cc)
  third d false true x y z e f g = absurd (cc)
  third d false false x y z e f g = g

  second : (d : Doing) (b : Bool) (y z : Seen) → b ≡ true → IsDone name first w p count d y → IsDone name first w p count d (if b then y else z)
  second d true y z e g = g
  second d false y z e g = absurd (cc)

  abbrev answers_ask : ℕ → Bool → ℕ → Bool → ℕ → Seen
  answers_ask q able k roll label =
      if (v.states p).inst == k then record (seen_member_ask v roll p q label) { channel = changes.with_parcel v.channel p q (in_code.Reply k true) }
      else if not ((v.states p).inst == 0) then record v { channel = changes.with_parcel v.channel p q (in_code.Reply k false); log = v.log ++ row.Unwilling p k (Busy (v.states p).inst) ∷ [] }
      else if roll then (if must_roll (v.states p).calls q label then seen_settling (seen_joining_rollback v v.channel p k (Some q) (at_one q (Some label) no_note)) p k else record v { channel = changes.with_parcel v.channel p q (in_code.Reply k true) })
      else if not (must_take (v.states p).calls q label) then record v { channel = changes.with_parcel v.channel p q (in_code.Reply k true) }
      else if not (able && (v.states p).up) then record v { channel = changes.with_parcel v.channel p q (in_code.Reply k false); log = v.log ++ row.Unwilling p k (unable_cause (v.states p).up) ∷ [] }
      else seen_settling (seen_joining_checkpoint v v.channel p k (Some q)) p k

  pub done_ask : (q : ℕ) (able : Bool) (k : ℕ) (roll : Bool) (label : ℕ) → 1 ≤ k → k ≤ v.begun → IsDone name first w p count (asked y.inst y q able (name k) roll label) (answers_ask q able k roll label)
  done_ask q able k roll label low high = subst (λ (o : Option InstName). IsDone name first w p count (asked o y q able (name k) roll label) (answers_ask q able k roll label)) (sym (ap (λ (x : NodeState). x.inst) h.state)) (at_zero ((v.states p).inst == 0) refl)
    where
      at_zero : (b : Bool) → ((v.states p).inst == 0) ≡ b → IsDone name first w p count (asked (if b then None else Some (name (v.states p).inst)) y q able (name k) roll label) (answers_ask q able k roll label)
      at_zero true e = third (asked_outside y q able (name k) roll label) ((v.states p).inst == k) (not ((v.states p).inst == 0)) _ _ _
          (ap (λ (x : ℕ). x == k) (is_zero (v.states p).inst e) ∙ none k low) (ap not e) (outside q able k roll label low high)
      at_zero false e = choose name first w p count y v h (is_one (name (v.states p).inst) (name k)) ((v.states p).inst == k) _ _ _ _ same
          (member q k roll label)
          (second (unwilling y q (name k) (own_cause.Busy (name (v.states p).inst))) (not ((v.states p).inst == 0)) _ _ (ap not e)
          (done_unwilling name first w p count y v h q k (own_cause.Busy (name (v.states p).inst)) (Busy (v.states p).inst) low high (cause_busy name first w p count y v h (v.states p).inst (some (v.states p).inst e) within)))
        where
          same : is_one (name (v.states p).inst) (name k) ≡ ((v.states p).inst == k)
          same = ap (λ (b : Bool). is_in (if b then None else Some (name (v.states p).inst)) (name k)) (sym e) ∙ (sym (ap (λ (x : NodeState). is_in x.inst (name k)) h.state) ∙ in_test k low high)

  -- a decision of who asked p to join k
  pub heed_test : (q k : ℕ) → 1 ≤ k → k ≤ v.begun → MayHeed name p y v q k → heeds y q (name k) ≡ ((v.states p).inst == k)
  heed_test q k low high a =
      ap₂ (λ (i : Bool) (x : NodeState). (i && is_in (y.asks q) (name k)) && (not ((name k).initiator == x.me) && x.part.awaited == 0)) (in_test k low high) h.state
      ∙ heeded ((v.states p).inst == k) (is_in (y.asks q) (name k)) ((name k).initiator == p) ((v.states p).part.awaited == 0) a.0 (λ i. a.1 (inside (v.states p).inst k i))
    where
      inside : (n m : ℕ) → (n == m) ≡ true → n ≡ m
      inside n m e = grind (arith, nat_tests, e)

      heeded : (i t n z : Bool) → t ≡ true → (i ≡ true → (n ≡ false) × (z ≡ true)) → ((i && t) && (not n && z)) ≡ i
      heeded false t n z e f = refl
      heeded true true n z e f = rw ((f refl).0, (f refl).1) refl
      heeded true false n z e f = absurd (cc (e))

  pub done_decision : (q : ℕ) (able : Bool) (k : ℕ) (c : Bool) → 1 ≤ k → k ≤ v.begun → MayHeed name p y v q k → IsDone name first w p count (taking y q able (put.Decide (name k) c)) (if (v.states p).inst == k then seen_closing v p k c else v)
  done_decision q able k c low high a = choose name first w p count y v h (heeds y q (name k)) ((v.states p).inst == k) _ _ _ _ (heed_test q k low high a) (done_closing name first w p count (nothing y) v k low high h c) h

  -- a reply of who was asked and has not replied, which is one that p's instance awaits where p awaits any
  pub await_test : (q k : ℕ) → 1 ≤ k → (v.states p).inst ≡ k → (v.states p).part.asked q ≡ true → y.answered q ≡ false → awaits y q (name k) ≡ not ((v.states p).part.awaited == 0)
  await_test q k low o asked fresh =
      ap (λ (x : Bool). (x && not (y.part.awaited == 0)) && (y.part.asked q && not (y.answered q))) (in_test k low (subst (λ (x : ℕ). x ≤ v.begun) o within) ∙ same_number (v.states p).inst k o)
      ∙ (ap (λ (x : NodeState). (true && not (x.part.awaited == 0)) && (x.part.asked q && not (y.answered q))) h.state
      ∙ (ap₂ (λ (a b : Bool). not ((v.states p).part.awaited == 0) && (a && not b)) asked fresh ∙ and_true (not ((v.states p).part.awaited == 0))))
    where
      same_number : (n m : ℕ) → n ≡ m → (n == m) ≡ true
      same_number n m e = grind (arith, nat_tests, e)

      and_true : (b : Bool) → (b && true) ≡ b
      and_true true = refl
      and_true false = refl

  pub done_reply : (q : ℕ) (able : Bool) (k : ℕ) (b : Bool) → 1 ≤ k → (v.states p).inst ≡ k → (v.states p).part.asked q ≡ true → y.answered q ≡ false → IsDone name first w p count (taking y q able (put.Reply (name k) b))
      (if (v.states p).part.awaited == 0 then v else seen_settling (record v { states = at_one p (record (v.states p) { part = part_after_reply (v.states p).part b }) v.states }) p k)
  done_reply q able k b low o asked fresh = swap (awaits y q (name k)) ((v.states p).part.awaited == 0) (await_test q k low o asked fresh)
      (done_settling name first w p count _ _ k low high replied) h
    where
      high : k ≤ v.begun
      high = subst (λ (x : ℕ). x ≤ v.begun) o within

      replied : IsDone name first w p count (nothing (counting y q b)) (record v { states = at_one p (record (v.states p) { part = part_after_reply (v.states p).part b }) v.states })
      replied = done_heard name first w p count (record y { part = part_after_reply y.part b }) (record v { states = at_one p (record (v.states p) { part = part_after_reply (v.states p).part b }) v.states }) y.asks (at_one q true y.answered)
          (subst (λ (x : NodeState). IsDone name first w p count (nothing (record y { part = part_after_reply x.part b })) (record v { states = at_one p (record (v.states p) { part = part_after_reply (v.states p).part b }) v.states })) (sym h.state)
          (done_part name first w p count y v (part_after_reply (v.states p).part b) h))

      swap : (a c : Bool) {d e : Doing} {x z : Seen} → a ≡ not c → IsDone name first w p count d x → IsDone name first w p count e z → IsDone name first w p count (if a then d else e) (if c then z else x)
      swap true false r f g = f
      swap false true r f g = g
      swap true true r f g = absurd (cc)
      swap false false r f g = absurd (cc)

  -- p is in a rollback where it is said to be
  pub ready_test : is_in_rollback y ≡ is_seen_ready v p
  ready_test = ap is_in_rollback h.state ∙ ap (λ (b : Bool). b && (v.states p).part.is_rollback) (some_is ((v.states p).inst == 0))
    where
      some_is : (b : Bool) → is_some (if b then None else Some (name (v.states p).inst)) ≡ not b
      some_is true = refl
      some_is false = refl

  -- a message
  pub done_message : (q : ℕ) (able : Bool) (m label to : ℕ) (body : ℤ) → row_at v.log m ≡ Some (row.Sent q to body) → label ≡ label_by_rows first v.log q m
      → IsDone name first w p count (taking y q able (put.App label body)) (if is_seen_ready v p then record v { held = changes.with_parcel v.held q p (in_code.App label m body) } else seen_arrival v v.channel v.held p q label m body)
  done_message q able m label to body e f = choose name first w p count y v h (is_in_rollback y) (is_seen_ready v p) _ _ _ _ ready_test
      (done_holding name first w p count y v h q m label body) (done_arriving name first w p count y v h q m label to body e f)
