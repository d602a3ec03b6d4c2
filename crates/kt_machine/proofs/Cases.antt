-- Each case of a transition, in one piece: what a step leads to, by the tests that are made.
use Rattle.std.proofs.Common.{◌≡◌, ◌≢◌, ℕ, ℤ, ◌+◌, ◌<◌, Bool, true, false, not, List, [], ◌∷◌, ◌++◌, length, refl, arith, ap, ◌∙◌, Some, None, inl, inr, ◌⊎◌, Option}
use Rattle.std.specs.Prelude.{◌==◌, ◌&&◌, nat_lt, if◌then◌else◌}
use Rattle.std.proofs.lemmas.Bool.Decides.{nat_tests}
use Rattle.kt_base.specs.declared.words.Kind.{Kind}
use Rattle.kt_base.specs.declared.words.Kind.TheVariants.{Checkpoint, Rollback}
use Rattle.kt_base.specs.declared.words.Cause.TheVariants.{Busy, Down}
use Rattle.kt_base.specs.declared.words.Verb.TheVariants as verb
use Rattle.kt_fifo.specs.declared.parcels.Parcel.{Parcel}
use Rattle.kt_fifo.specs.declared.parcels.Parcel.TheVariants.{App, Ask, Reply, Decide}
use Rattle.kt_spacetime.specs.declared.event.Event.TheVariants.{Began, Took, Ready, Closed}
use Rattle.kt_meaning.specs.Past.{at_one, is_rollback_kind}
use Rattle.kt_tables.specs.Calls.{on_tentative}
use Rattle.kt_protocol.specs.Replies.{unable_cause}
use Rattle.kt_protocol.specs.States.{Send, Begin, Take}
use Rattle.kt_protocol.specs.Steps.{verb_for}
use Rattle.kt_machine.specs.Seen.{SeenProcess, Seen}
use Rattle.kt_machine.specs.ListChanges as changes
use Rattle.kt_machine.specs.CallTests as tests
use Rattle.kt_machine.specs.SeenMessages.{seen_sending, seen_refusal, seen_arrival, seen_without_front}
use Rattle.kt_machine.specs.SeenJoining.{no_note, part_after_ask, seen_joining_rollback, seen_joining_checkpoint, new_part}
use Rattle.kt_machine.specs.SeenReplies.{seen_unwilling, seen_replying, part_after_reply}
use Rattle.kt_machine.specs.SeenClosing.{seen_settling, seen_closing_rollback}
use Rattle.kt_machine.specs.Transition.{is_seen_ready, transition, seen_take, seen_front}
use Rattle.kt_machine.specs.InOnePiece.{with_process, process_after_checkpoint, process_after_rollback, held_after_rollback, kept_after_rollback, settled}
use Rattle.kt_machine.proofs.OnePiece.{settles_in_one}

-- what a process becomes when it joins a checkpoint, and a rollback
abbrev pub process_in_checkpoint : SeenProcess → ℕ → ℕ → Option ℕ → (ℕ → ℕ) → SeenProcess
process_in_checkpoint y processes k parent marks = record y { calls = y.calls ++ on_tentative ∷ []; inst = k; part = new_part processes false parent (tests.is_asked_in_checkpoint y.calls) no_note marks }

abbrev pub process_in_rollback : SeenProcess → ℕ → ℕ → Option ℕ → (ℕ → Option ℕ) → SeenProcess
process_in_rollback y processes k parent noted = record y { inst = k; part = new_part processes true parent (tests.is_asked_in_rollback y.calls) noted (λ q. 0) }

yes : (x y : Seen) (b : Bool) → b ≡ true → (if b then x else y) ≡ x
yes x y true e = refl
yes x y false e = absurd (cc (e))

no_ : (x y : Seen) (b : Bool) → b ≡ false → (if b then x else y) ≡ y
no_ x y true e = absurd (cc (e))
no_ x y false e = refl

none_in : (n k : ℕ) → n ≡ 0 → 0 < k → (n == k) ≡ false
none_in n k e l = grind (arith, nat_tests, e, l)

closed_in : (n : ℕ) → n ≡ 0 → (n == 0) ≡ true
closed_in n e = grind (arith, nat_tests, e)

is_it : (n k : ℕ) → n ≡ k → (n == k) ≡ true
is_it n k e = grind (arith, nat_tests, e)

another : (n k : ℕ) → n ≢ k → (n == k) ≡ false
another n k e = grind (arith, nat_tests, e)

module _ (v : Seen) (p : ℕ) where
  abbrev y : SeenProcess
  y = v.states p

  -- who is in no instance isn't ready
  idle : (v.states p).inst ≡ 0 → is_seen_ready v p ≡ false
  idle o = ap (λ (b : Bool). not b && (v.states p).part.is_rollback) (closed_in (v.states p).inst o)

  -- commands
  pub sends_one : (q : ℕ) (body : ℤ) → p < v.processes → q < v.processes → (v.states p).inst ≡ 0 → q ≢ p → (v.states p).up ≡ true → transition v (Send p q body) ≡ seen_sending v p q body
  sends_one q body a b o n u = yes _ _ ((nat_lt p v.processes && nat_lt q v.processes) && ((v.states p).inst == 0 && not (q == p))) (four a b o n) ∙ yes _ _ (v.states p).up u
    where
      four : p < v.processes → q < v.processes → (v.states p).inst ≡ 0 → q ≢ p → ((nat_lt p v.processes && nat_lt q v.processes) && ((v.states p).inst == 0 && not (q == p))) ≡ true
      four a b o n = grind (arith, nat_tests, a, b, o, n)

  pub sends_none : (q : ℕ) (body : ℤ) → p < v.processes → q < v.processes → (v.states p).inst ≡ 0 → q ≢ p → (v.states p).up ≡ false → transition v (Send p q body) ≡ seen_refusal v p verb.Send Down
  sends_none q body a b o n u = yes _ _ ((nat_lt p v.processes && nat_lt q v.processes) && ((v.states p).inst == 0 && not (q == p))) (four a b o n) ∙ no_ _ _ (v.states p).up u
    where
      four : p < v.processes → q < v.processes → (v.states p).inst ≡ 0 → q ≢ p → ((nat_lt p v.processes && nat_lt q v.processes) && ((v.states p).inst == 0 && not (q == p))) ≡ true
      four a b o n = grind (arith, nat_tests, a, b, o, n)

  pub begins_busy : (roll able : Bool) → (v.states p).inst ≢ 0 → transition v (Begin p roll able) ≡ seen_refusal v p (verb_for roll) (Busy (v.states p).inst)
  begins_busy roll able n = no_ _ _ ((v.states p).inst == 0) (another (v.states p).inst 0 n)

  pub begins_not : (able : Bool) → (v.states p).inst ≡ 0 → (able && (v.states p).up) ≡ false → transition v (Begin p false able) ≡ seen_refusal v p verb.Checkpoint (unable_cause (v.states p).up)
  begins_not able o e = yes _ _ ((v.states p).inst == 0) (closed_in (v.states p).inst o) ∙ no_ _ _ (able && (v.states p).up) e

  pub begins_save : (able : Bool) → (v.states p).inst ≡ 0 → (able && (v.states p).up) ≡ true → transition v (Begin p false able)
      ≡ settled (record v { channel = changes.with_asks_where v.channel p (v.begun + 1) Checkpoint (tests.is_asked_in_checkpoint (v.states p).calls) (tests.checkpoint_label (v.states p).calls); log = (v.log ++ Began p (v.begun + 1) Checkpoint ∷ []) ++ Took p (v.begun + 1) ∷ []; begun = v.begun + 1 }) p (v.begun + 1)
      (process_in_checkpoint (v.states p) v.processes (v.begun + 1) None (λ q. length (v.kept q p)))
  begins_save able o e = yes _ _ ((v.states p).inst == 0) (closed_in (v.states p).inst o) ∙ (yes _ _ (able && (v.states p).up) e
      ∙ settles_in_one (record v { channel = changes.with_asks_where v.channel p (v.begun + 1) Checkpoint (tests.is_asked_in_checkpoint (v.states p).calls) (tests.checkpoint_label (v.states p).calls); log = (v.log ++ Began p (v.begun + 1) Checkpoint ∷ []) ++ Took p (v.begun + 1) ∷ []; begun = v.begun + 1 }) p (v.begun + 1)
      (process_in_checkpoint (v.states p) v.processes (v.begun + 1) None (λ q. length (v.kept q p))))

  pub begins_roll : (able : Bool) → (v.states p).inst ≡ 0 → transition v (Begin p true able)
      ≡ settled (record v { channel = changes.with_asks_where v.channel p (v.begun + 1) Rollback (tests.is_asked_in_rollback (v.states p).calls) (tests.rollback_label (v.states p).calls); log = (v.log ++ Began p (v.begun + 1) Rollback ∷ []) ++ Ready p (v.begun + 1) ∷ []; begun = v.begun + 1 }) p (v.begun + 1)
      (process_in_rollback (v.states p) v.processes (v.begun + 1) None no_note)
  begins_roll able o = yes _ _ ((v.states p).inst == 0) (closed_in (v.states p).inst o)
      ∙ settles_in_one (record v { channel = changes.with_asks_where v.channel p (v.begun + 1) Rollback (tests.is_asked_in_rollback (v.states p).calls) (tests.rollback_label (v.states p).calls); log = (v.log ++ Began p (v.begun + 1) Rollback ∷ []) ++ Ready p (v.begun + 1) ∷ []; begun = v.begun + 1 }) p (v.begun + 1)
      (process_in_rollback (v.states p) v.processes (v.begun + 1) None no_note)

  module _ (q : ℕ) (able : Bool) where
    -- from the held list
    pub takes_held : (l m : ℕ) (body : ℤ) (rest : List Parcel) → is_seen_ready v p ≡ false → v.held q p ≡ App l m body ∷ rest → transition v (Take p q able) ≡ seen_arrival v v.channel (changes.with_rest v.held q p rest) p q l m body
    takes_held l m body rest r e = no_ _ _ (is_seen_ready v p) r ∙ ap (seen_take v p q able) e

    -- from the channel: p is ready, or nothing of q is held
    pub takes_front : (x : Parcel) (rest : List Parcel) → v.channel q p ≡ x ∷ rest → (is_seen_ready v p ≡ true) ⊎ ((is_seen_ready v p ≡ false) × (v.held q p ≡ [])) → transition v (Take p q able) ≡ seen_front v p q able (x ∷ rest)
    takes_front x rest e h = elim h [
      | inl r ↦ yes _ _ (is_seen_ready v p) r ∙ ap (seen_front v p q able) e
      | inr s ↦ no_ _ _ (is_seen_ready v p) s.0 ∙ (ap (seen_take v p q able) s.1 ∙ ap (seen_front v p q able) e)
    ]

    module _ (k l : ℕ) (rest : List Parcel) where
      -- an ask
      pub asked_again : (kind : Kind) → (v.states p).inst ≡ k → seen_front v p q able (Ask k kind l ∷ rest) ≡ with_process v p (record (v.states p) { part = if is_rollback_kind (Some kind) then part_after_ask (v.states p).part q l else (v.states p).part }) (changes.with_parcel (changes.with_rest v.channel q p rest) p q (Reply k true)) v.held v.kept v.log
      asked_again kind e = yes _ _ ((v.states p).inst == k) (is_it (v.states p).inst k e)

      pub asked_busy : (kind : Kind) → (v.states p).inst ≢ k → (v.states p).inst ≢ 0 → seen_front v p q able (Ask k kind l ∷ rest) ≡ seen_unwilling v p q k (Busy (v.states p).inst) rest
      asked_busy kind n o = no_ _ _ ((v.states p).inst == k) (another (v.states p).inst k n) ∙ yes _ _ (not ((v.states p).inst == 0)) (ap not (another (v.states p).inst 0 o))

      module _ (pos : 0 < k) (o : (v.states p).inst ≡ 0) where
        into : (kind : Kind) (x : Seen) → (if is_rollback_kind (Some kind) then (if tests.must_roll (v.states p).calls q l then seen_settling (seen_joining_rollback v (changes.with_rest v.channel q p rest) p k (Some q) (at_one q (Some l) no_note)) p k else seen_replying v p q k true rest)
            else if not (tests.must_take (v.states p).calls q l) then seen_replying v p q k true rest
            else if not (able && (v.states p).up) then seen_unwilling v p q k (unable_cause (v.states p).up) rest
            else seen_settling (seen_joining_checkpoint v (changes.with_rest v.channel q p rest) p k (Some q)) p k) ≡ x → seen_front v p q able (Ask k kind l ∷ rest) ≡ x
        into kind x e = no_ _ _ ((v.states p).inst == k) (none_in (v.states p).inst k o pos) ∙ (no_ _ _ (not ((v.states p).inst == 0)) (ap not (closed_in (v.states p).inst o)) ∙ e)

        pub asked_stays_save : tests.must_take (v.states p).calls q l ≡ false → seen_front v p q able (Ask k Checkpoint l ∷ rest) ≡ seen_replying v p q k true rest
        asked_stays_save m = into Checkpoint _ (yes _ _ (not (tests.must_take (v.states p).calls q l)) (ap not m))

        pub asked_stays_roll : tests.must_roll (v.states p).calls q l ≡ false → seen_front v p q able (Ask k Rollback l ∷ rest) ≡ seen_replying v p q k true rest
        asked_stays_roll m = into Rollback _ (no_ _ _ (tests.must_roll (v.states p).calls q l) m)

        pub asked_not : tests.must_take (v.states p).calls q l ≡ true → (able && (v.states p).up) ≡ false → seen_front v p q able (Ask k Checkpoint l ∷ rest) ≡ seen_unwilling v p q k (unable_cause (v.states p).up) rest
        asked_not m e = into Checkpoint _ (no_ _ _ (not (tests.must_take (v.states p).calls q l)) (ap not m) ∙ yes _ _ (not (able && (v.states p).up)) (ap not e))

        pub asked_save : tests.must_take (v.states p).calls q l ≡ true → (able && (v.states p).up) ≡ true → seen_front v p q able (Ask k Checkpoint l ∷ rest)
            ≡ settled (record v { channel = changes.with_asks_where (changes.with_rest v.channel q p rest) p k Checkpoint (tests.is_asked_in_checkpoint (v.states p).calls) (tests.checkpoint_label (v.states p).calls); log = v.log ++ Took p k ∷ [] }) p k (process_in_checkpoint (v.states p) v.processes k (Some q) (λ q. length (v.kept q p)))
        asked_save m e = into Checkpoint _ (no_ _ _ (not (tests.must_take (v.states p).calls q l)) (ap not m) ∙ (no_ _ _ (not (able && (v.states p).up)) (ap not e)
            ∙ settles_in_one (record v { channel = changes.with_asks_where (changes.with_rest v.channel q p rest) p k Checkpoint (tests.is_asked_in_checkpoint (v.states p).calls) (tests.checkpoint_label (v.states p).calls); log = v.log ++ Took p k ∷ [] }) p k (process_in_checkpoint (v.states p) v.processes k (Some q) (λ q. length (v.kept q p)))))

        pub asked_roll : tests.must_roll (v.states p).calls q l ≡ true → seen_front v p q able (Ask k Rollback l ∷ rest)
            ≡ settled (record v { channel = changes.with_asks_where (changes.with_rest v.channel q p rest) p k Rollback (tests.is_asked_in_rollback (v.states p).calls) (tests.rollback_label (v.states p).calls); log = v.log ++ Ready p k ∷ [] }) p k (process_in_rollback (v.states p) v.processes k (Some q) (at_one q (Some l) no_note))
        asked_roll m = into Rollback _ (yes _ _ (tests.must_roll (v.states p).calls q l) m
            ∙ settles_in_one (record v { channel = changes.with_asks_where (changes.with_rest v.channel q p rest) p k Rollback (tests.is_asked_in_rollback (v.states p).calls) (tests.rollback_label (v.states p).calls); log = v.log ++ Ready p k ∷ [] }) p k (process_in_rollback (v.states p) v.processes k (Some q) (at_one q (Some l) no_note)))

    -- a reply
    pub reply_none : (k : ℕ) (w : Bool) (rest : List Parcel) → (v.states p).part.awaited ≡ 0 → seen_front v p q able (Reply k w ∷ rest) ≡ seen_without_front v p q rest
    reply_none k w rest e = yes _ _ ((v.states p).part.awaited == 0) (closed_in (v.states p).part.awaited e)

    pub reply_one : (k : ℕ) (w : Bool) (rest : List Parcel) → (v.states p).part.awaited ≢ 0 → seen_front v p q able (Reply k w ∷ rest)
        ≡ settled (record v { channel = changes.with_rest v.channel q p rest }) p k (record (v.states p) { part = part_after_reply (v.states p).part w })
    reply_one k w rest e = no_ _ _ ((v.states p).part.awaited == 0) (another (v.states p).part.awaited 0 e) ∙ settles_in_one (record v { channel = changes.with_rest v.channel q p rest }) p k (record (v.states p) { part = part_after_reply (v.states p).part w })

    -- a decision
    pub decide_other : (k : ℕ) (c : Bool) (rest : List Parcel) → (v.states p).inst ≢ k → seen_front v p q able (Decide k c ∷ rest) ≡ seen_without_front v p q rest
    decide_other k c rest e = no_ _ _ ((v.states p).inst == k) (another (v.states p).inst k e)

    pub decide_save : (k : ℕ) (c : Bool) (rest : List Parcel) → (v.states p).inst ≡ k → (v.states p).part.is_rollback ≡ false → seen_front v p q able (Decide k c ∷ rest)
        ≡ with_process v p (process_after_checkpoint (v.states p) c) (changes.with_decisions (changes.with_rest v.channel q p rest) p k c (v.states p).part.asked) v.held (changes.trims c p (v.states p).part.marks v.kept) (v.log ++ Closed p k ∷ [])
    decide_save k c rest e r = yes _ _ ((v.states p).inst == k) (is_it (v.states p).inst k e) ∙ no_ _ _ (v.states p).part.is_rollback r

    pub decide_roll : (k : ℕ) (c : Bool) (rest : List Parcel) → (v.states p).inst ≡ k → (v.states p).part.is_rollback ≡ true → seen_front v p q able (Decide k c ∷ rest)
        ≡ with_process v p (process_after_rollback (v.states p) c) (changes.with_decisions (changes.with_rest v.channel q p rest) p k c (v.states p).part.asked) (held_after_rollback c p (v.states p).part.noted v.kept v.held) (kept_after_rollback c p v.kept) (v.log ++ Closed p k ∷ [])
    decide_roll k c rest e r = yes _ _ ((v.states p).inst == k) (is_it (v.states p).inst k e) ∙ (yes _ _ (v.states p).part.is_rollback r ∙ at_last c)
      where
        at_last : (c : Bool) → seen_closing_rollback (seen_without_front v p q rest) p k c ≡ with_process v p (process_after_rollback (v.states p) c) (changes.with_decisions (changes.with_rest v.channel q p rest) p k c (v.states p).part.asked) (held_after_rollback c p (v.states p).part.noted v.kept v.held) (kept_after_rollback c p v.kept) (v.log ++ Closed p k ∷ [])
        at_last true = refl
        at_last false = refl
