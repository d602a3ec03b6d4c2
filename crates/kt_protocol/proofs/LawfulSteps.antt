-- Every step keeps the lawful_after_run.
use Rattle.std.proofs.Common.{◌≡◌, ◌≢◌, ℕ, ◌+◌, ◌<◌, Bool, true, false, List, [], ◌∷◌, ◌++◌, refl, arith, sym, inl, inr, ◌∙◌}
use Rattle.std.specs.Prelude.{◌==◌, ◌||◌}
use Rattle.std.proofs.lemmas.Bool.{cases_eq}
use Rattle.kt_base.specs.declared.words.Kind.{Kind}
use Rattle.kt_base.specs.declared.words.Kind.TheVariants.{Checkpoint, Rollback}
use Rattle.kt_base.specs.declared.words.Cause.{Cause}
use Rattle.kt_base.specs.declared.words.Cause.TheVariants.{Busy, Down, NoSave}
use Rattle.kt_base.specs.declared.words.Verb.TheVariants as verb
use Rattle.kt_spacetime.specs.declared.event.Event.TheVariants.{Began, Took, Ready}
use Rattle.kt_meaning.specs.Past.{Past, past, at_one, is_checkpoint}
use Rattle.kt_meaning.specs.Legal.{is_in_none, is_in, follows, names_begun, excuses, refuses}
use Rattle.kt_meaning.proofs.LegalLogs.{past_push}
use Rattle.kt_protocol.proofs.Replying.{ask_facts}
use Rattle.kt_protocol.proofs.Invariant.{Invariant}
use Rattle.kt_protocol.proofs.LawfulInstances.{law_aborting, law_closed, law_began, law_unwilling, law_committing_rollback, law_joining_rollback, law_committing_checkpoint, law_joining_checkpoint}
use Rattle.kt_protocol.proofs.Lawful.{Law, begun_of, follows_quiet, in_it, none_in, save_of}
use Rattle.kt_protocol.specs.Parcels.{messages, App, Ask, Decide, Parcel, Reply, Lists, with_rest, with_parcel, with_decisions}
use Rattle.kt_protocol.proofs.Lines.{apps_with_rest, apps_with_parcel, apps_decisions}
use Rattle.kt_protocol.proofs.LawfulMessages.{law_refusal, law_failing, law_dropping, law_receiving, law_sending}
use Rattle.kt_protocol.proofs.Updates.{at_one_here, at_one_other, is_same}
use Rattle.kt_protocol.proofs.Receiving.{Taking}
use Rattle.kt_protocol.proofs.Transitions.{invariant_began, invariant_opening}
use Rattle.kt_protocol.proofs.StepFacts.{from_channel, from_held, new_undecided, noted_invariant}
use Rattle.kt_protocol.proofs.Choices.{at_if}
use Rattle.kt_protocol.proofs.LawfulLists.{Front, front_of_channel, front_of_held, law_channels, law_holding}
use Rattle.kt_protocol.proofs.Weights.{any_app}
use Rattle.kt_protocol.specs.States.{State, ProtocolStep, is_ready, opening}
use Rattle.kt_protocol.specs.Replies.{after_answering, after_noting, after_unwilling, after_replying, unable_cause}
use Rattle.kt_protocol.specs.Messages.{after_arrival, after_refusal}
use Rattle.kt_protocol.specs.Steps.{run, verb_for}
use Rattle.kt_protocol.specs.Deciding.{after_closing, after_deciding_as, after_closing_checkpoint}
use Rattle.kt_protocol.specs.Joining.{after_began, after_joining_rollback, after_joining_checkpoint}
use Rattle.kt_protocol.proofs.Walk.{Moves, walk_step, kept}
use Rattle.kt_protocol.specs.Refusals.{MayRefuse}
use Rattle.kt_base.specs.declared.words.Verb.{Verb}
use Rattle.std.proofs.Common.{ap, subst}

law_deciding_as : (s : State) (p k : ℕ) (c roll : Bool) → s.so_far.is_rollback k ≡ roll → s.so_far.joined k p ≡ true → p ≡ s.initiator k → s.so_far.is_decided k ≡ false → Invariant s → Law true s → Law true (after_deciding_as c roll s p k)
law_deciding_as s p k false roll r j i d g l = law_aborting s p k j i d g l
law_deciding_as s p k true false r j i d g l = law_committing_checkpoint s p k r j i d g l
law_deciding_as s p k true true r j i d g l = law_committing_rollback s p k r j i d g l

up_same : (up : ℕ → Bool) (p : ℕ) (u : ℕ) → up u ≡ at_one p (up p || false) up u
up_same up p u = elim (cases_eq u p) [
  | inl e ↦ rw (e, at_one_here p (up p || false) up) (or_false (up p))
  | inr n ↦ sym (at_one_other p u (up p || false) up n)
]
  where
    or_false : (b : Bool) → b ≡ (b || false)
    or_false true = refl
    or_false false = refl

law_closing_checkpoint : (s : State) (p k : ℕ) (c : Bool) → 0 < k → s.so_far.open_in p ≡ k → s.so_far.is_decided k ≡ true → s.so_far.is_committed k ≡ c → s.so_far.is_rollback k ≡ false → Invariant s → Law true s → Law true (after_closing_checkpoint s p k c)
law_closing_checkpoint s p k true pos o d i r g l = law_closed s (with_decisions s.channel s.asked p k true) s.up p k false true (apps_decisions s.channel s.asked p k true) (up_same s.up p) pos o d r i g l
law_closing_checkpoint s p k false pos o d i r g l = law_closed s (with_decisions s.channel s.asked p k false) s.up p k false false (apps_decisions s.channel s.asked p k false) (up_same s.up p) pos o d r i g l

law_closing : (s : State) (p k : ℕ) (c : Bool) → 0 < k → s.so_far.open_in p ≡ k → s.so_far.is_decided k ≡ true → s.so_far.is_committed k ≡ c → Invariant s → Law true s → Law true (after_closing s p k c)
law_closing s p k c pos o d i g l = at_if (Law true) (s.so_far.is_rollback k) _ _
    (λ r. law_closed s (with_decisions s.channel s.asked p k c) (at_one p (s.up p || c) s.up) p k true c (apps_decisions s.channel s.asked p k c) (λ u. refl) pos o d r i g l)
    (λ r. law_closing_checkpoint s p k c pos o d i r g l)

law_answering : (s : State) (p k : ℕ) → Law true s → Law true (after_answering s p k)
law_answering s p k l = law_channels true s (with_parcel s.channel p (s.parent k p) (Reply k (s.all_willing k p))) (apps_with_parcel s.channel p (s.parent k p) (Reply k (s.all_willing k p)) refl) l

swapped : (s : State) (p q : ℕ) (x y : Parcel) (rest : List Parcel) → s.channel q p ≡ x ∷ rest → messages (x ∷ []) ≡ [] → messages (y ∷ []) ≡ [] → (u v : ℕ) → messages (with_parcel (with_rest s.channel q p rest) p q y u v) ≡ messages (s.channel u v)
swapped s p q x y rest e a b u v = apps_with_parcel (with_rest s.channel q p rest) p q y (none y b) u v ∙ apps_with_rest s.channel q p x rest e (none x a) u v
  where
    none : (z : Parcel) → messages (z ∷ []) ≡ [] → any_app z ≡ 0
    none (App m) e = absurd (cc)
    none (Ask k l) e = refl
    none (Reply k w) e = refl
    none (Decide k c) e = refl

unable_names : (s : Past) (u : Bool) → names_begun s (unable_cause u) ≡ true
unable_names s true = refl
unable_names s false = refl

unable_excuses : (s : Past) (p k : ℕ) (u : Bool) → s.up p ≡ u → is_checkpoint s k ≡ true → is_in_none s p ≡ true → excuses s p k (unable_cause u) ≡ true
unable_excuses s p k true e c o = rw (c, o, e) refl
unable_excuses s p k false e c o = rw (c, o, e) refl

unable_refuses : (s : Past) (p : ℕ) (u : Bool) → s.up p ≡ u → is_in_none s p ≡ true → refuses s p verb.Checkpoint (unable_cause u) ≡ true
unable_refuses s p true e o = rw (o, e) refl
unable_refuses s p false e o = rw (o, e) refl

module _ (s : State) (p q k l : ℕ) (rest : List Parcel) (e : s.channel q p ≡ Ask k l ∷ rest) (g : Invariant s) (w : Law true s) where
  law_replied : Law true (after_replying s p q k true rest)
  law_replied = law_channels true s (with_parcel (with_rest s.channel q p rest) p q (Reply k true)) (swapped s p q (Ask k l) (Reply k true) rest e refl refl) w

  law_unwilling_ask : (cause : Cause) → names_begun (past s.log) cause ≡ true → excuses (past s.log) p k cause ≡ true → Law true (after_unwilling s p q k cause rest)
  law_unwilling_ask cause a b =
      let f = ask_facts s q p k l rest e g in
      law_unwilling s (with_parcel (with_rest s.channel q p rest) p q (Reply k false)) p k cause (swapped s p q (Ask k l) (Reply k false) rest e refl refl) f.3 f.4 f.2 a b g w

  busy : (s.so_far.open_in p == k) ≡ false → 0 < s.so_far.open_in p → Law true (after_unwilling s p q k (Busy (s.so_far.open_in p)) rest)
  busy a pos =
      let j = g.positions.joined_instance (s.so_far.open_in p) p (g.positions.open_joined (s.so_far.open_in p) p pos refl) in
      let x = begun_of true s g w (s.so_far.open_in p) j.0 j.1 in
      let y = in_it true s g w p (s.so_far.open_in p) pos refl in
      law_unwilling_ask (Busy (s.so_far.open_in p)) x (rw (y, a) refl)

  unsaved : s.so_far.open_in p ≡ 0 → s.so_far.is_rollback k ≡ false → Law true (after_unwilling s p q k (unable_cause (s.up p)) rest)
  unsaved o r =
      let f = ask_facts s q p k l rest e g in
      let c : is_checkpoint (past s.log) k ≡ true = save_of true s g w k f.3 f.4 ∙ rw r refl in
      law_unwilling_ask (unable_cause (s.up p)) (unable_names (past s.log) (s.up p)) (unable_excuses (past s.log) p k (s.up p) (sym (w.is_up p)) c (none_in true s g w p o))

  joins : s.so_far.open_in p ≡ 0 → s.so_far.is_rollback k ≡ false → s.up p ≡ true → Law true (after_joining_checkpoint s (with_rest s.channel q p rest) p k false q l)
  joins o r u =
      let f = ask_facts s q p k l rest e g in
      law_joining_checkpoint true s (with_rest s.channel q p rest) p k false q l (λ x y. apps_with_rest s.channel q p (Ask k l) rest e refl x y) o f.3 f.4 f.2 r u (follows_quiet (past s.log).last (Took p k) (w.last refl)) g w

  rolls : s.so_far.open_in p ≡ 0 → s.so_far.is_rollback k ≡ true → Law true (after_joining_rollback (after_noting s p q k l) (with_rest s.channel q p rest) p k false q (s.last_received p q))
  rolls o r =
      let f = ask_facts s q p k l rest e g in
      law_joining_rollback true (after_noting s p q k l) (with_rest s.channel q p rest) p k false q (s.last_received p q) (λ x y. apps_with_rest s.channel q p (Ask k l) rest e refl x y) o f.3 f.4 f.2 r (follows_quiet (past s.log).last (Ready p k) (w.last refl)) (noted_invariant s p q k l rest e g) w

-- a new instance
follows_took : (s : State) (p k : ℕ) (kind : Kind) → follows (past (s.log ++ Began p k kind ∷ [])).last (Took p k) ≡ true
follows_took s p k kind = rw (past_push s.log (Began p k kind), is_same p, is_same k) refl

follows_ready : (s : State) (p k : ℕ) (kind : Kind) → follows (past (s.log ++ Began p k kind ∷ [])).last (Ready p k) ≡ true
follows_ready s p k kind = rw (past_push s.log (Began p k kind), is_same p, is_same k) refl

law_arrival : (s : State) (channel held : Lists) (p q m : ℕ) → is_ready s p ≡ false → Taking s channel held p q m → Front s channel held p q m → Invariant s → Law true s → Law true (after_arrival s channel held p q m)
law_arrival s channel held p q m y t f g l = at_if (Law true) (s.up p) _ _ (λ u. law_receiving s channel held p q m y u t f g l) (λ u. law_dropping s channel held p q m y u t f g l)

law_busy : (s : State) (p : ℕ) (roll : Bool) → s.so_far.open_in p ≢ 0 → Invariant s → Law true s → Law true (after_refusal s p (verb_for roll) (Busy (s.so_far.open_in p)))
law_busy s p roll n g l =
    let pos : 0 < s.so_far.open_in p = omega (arith, n) in
    let j = g.positions.joined_instance (s.so_far.open_in p) p (g.positions.open_joined (s.so_far.open_in p) p pos refl) in
    law_refusal s p (verb_for roll) (Busy (s.so_far.open_in p)) (begun_of true s g l (s.so_far.open_in p) j.0 j.1) (by_verb roll (in_it true s g l p (s.so_far.open_in p) pos refl)) g l
  where
    by_verb : (roll : Bool) → is_in (past s.log) p (s.so_far.open_in p) ≡ true → refuses (past s.log) p (verb_for roll) (Busy (s.so_far.open_in p)) ≡ true
    by_verb true e = e
    by_verb false e = e

positive : (n j : ℕ) → 0 < j → n ≡ j → n ≢ 0
positive n j a b c = omega (arith, a, b, c)

-- a command that is refused
law_refuses : (s : State) (p : ℕ) (v : Verb) (c : Cause) (x : ProtocolStep) → MayRefuse s p v c x → Invariant s → Law true s → Law true (after_refusal s p v c)
law_refuses s p verb.Send c x may g l = subst (λ (z : Cause). Law true (after_refusal s p verb.Send z)) (sym may.3)
    (law_refusal s p verb.Send Down refl (let v : (past s.log).up p ≡ false = sym (l.is_up p) ∙ may.5 in let o = none_in true s g l p may.4 in rw (o, v) refl) g l)
law_refuses s p verb.Fail c x may g l = subst (λ (z : Cause). Law true (after_refusal s p verb.Fail z)) (sym may.1)
    (law_refusal s p verb.Fail Down refl (let v : (past s.log).up p ≡ false = sym (l.is_up p) ∙ may.2 in rw v refl) g l)
law_refuses s p verb.Rollback c x may g l = subst (λ (z : Cause). Law true (after_refusal s p verb.Rollback z)) (ap Busy may.4.1 ∙ sym may.3) (law_busy s p true (positive (s.so_far.open_in p) may.1 may.4.0 may.4.1) g l)
law_refuses s p verb.Checkpoint (Busy j) x may g l = subst (λ (z : ℕ). Law true (after_refusal s p verb.Checkpoint (Busy z))) may.2.1 (law_busy s p false (positive (s.so_far.open_in p) j may.2.0 may.2.1) g l)
law_refuses s p verb.Checkpoint Down x may g l =
    law_refusal s p verb.Checkpoint Down (unable_names (past s.log) false) (unable_refuses (past s.log) p false (sym (l.is_up p) ∙ may.2.1) (none_in true s g l p may.2.0)) g l
law_refuses s p verb.Checkpoint NoSave x may g l =
    law_refusal s p verb.Checkpoint NoSave (unable_names (past s.log) true) (unable_refuses (past s.log) p true (sym (l.is_up p) ∙ may.2.1) (none_in true s g l p may.2.0)) g l

law_moves : (x : ProtocolStep) → Moves x (Law true) (Law true) (λ s k p. Law true s) (λ s k p. Law true s)
law_moves x = record {
  stays = λ s g l. l;
  sends = λ s p q body n o u g l. law_sending s p q body n o u g l;
  refuses = λ s p v c may g l. law_refuses s p v c x may g l;
  fails = λ s p u g l. law_failing s p u g l;
  begins_checkpoint = λ s p o u g l. law_joining_checkpoint false (after_began s p false) s.channel p (s.instances + 1) true p 0 (λ x y. refl) o (omega arith) (omega arith) (new_undecided s g) (at_one_here (s.instances + 1) false s.so_far.is_rollback) u (follows_took s p (s.instances + 1) Checkpoint) (invariant_began s p false g) (law_began s p false o (λ _. u) g l);
  begins_rollback = λ s p o g l. law_joining_rollback false (after_began s p true) s.channel p (s.instances + 1) true p 0 (λ x y. refl) o (omega arith) (omega arith) (new_undecided s g) (at_one_here (s.instances + 1) true s.so_far.is_rollback) (follows_ready s p (s.instances + 1) Rollback) (invariant_began s p true g) (law_began s p true o (λ z. absurd (cc (z))) g l);
  takes_channel = λ s p q m rest y e n g l. law_arrival s (with_rest s.channel q p rest) s.held p q m y (from_channel s p q m rest e g) (front_of_channel s p q m rest e n) g l;
  takes_held = λ s p q m rest y e g l. law_arrival s s.channel (with_rest s.held q p rest) p q m y (from_held s p q m rest e g) (front_of_held s p q m rest e) g l;
  holds = λ s p q m rest y e g l. law_holding s p q m rest e l;
  joins_checkpoint = λ s p q k l rest e o r t u g w. joins s p q k l rest e g w o r u;
  joins_rollback = λ s p q k l rest e o r t g w. rolls s p q k l rest e g w o r;
  notes = λ s p q k l rest e o g w. law_replied s p q k l rest e g w;
  replies = λ s p q k l rest e g w. law_replied s p q k l rest e g w;
  is_busy = λ s p q k l able rest is e n pos g w. busy s p q k l rest e g w n pos;
  is_unable = λ s p q k l able rest is e o r t u g w. unsaved s p q k l rest e g w o r;
  counts = λ s p q k r rest e g w. law_channels true s (with_rest s.channel q p rest) (apps_with_rest s.channel q p (Reply k r) rest e refl) w;
  hears = λ s p q k c rest e o g w. law_channels true s (with_rest s.channel q p rest) (apps_with_rest s.channel q p (Decide k c) rest e refl) w;
  ignores = λ s p q k c rest e o g w. law_channels true s (with_rest s.channel q p rest) (apps_with_rest s.channel q p (Decide k c) rest e refl) w;
  waits = λ s k p j d n g w. w;
  answers = λ s k p j d n a g w. law_answering s p k w;
  decides = λ s k p j d i q g w. law_deciding_as s p k (s.all_willing k p) (s.so_far.is_rollback k) refl j i d g w;
  closes = λ s k p c pos o d i g w. law_closing s p k c pos o d i g w;
}

pub law_opening : (n : ℕ) → Law true (opening n)
law_opening n = record {
  legal = tt;
  last = λ _. refl;
  is_up = λ p. refl;
  count = refl;
  first = λ k a b. absurd (omega (arith, a, b));
  apart = λ m h. absurd (cc);
  in_order = λ u v. tt;
  permanent_first = λ m a b. absurd (cc);
  drops_first = λ p q i n w e. absurd (cc);
  drops_low = λ p q i n e. absurd (cc);
}

pub lawful_after_run : (n : ℕ) (steps : List ProtocolStep) → Law true (run (opening n) steps)
lawful_after_run n steps = kept (Law true) (λ s x g l. (walk_step x (Law true) (Law true) (λ s k p. Law true s) (λ s k p. Law true s) (law_moves x) s g l).claim) (opening n) steps (invariant_opening n) (law_opening n)
