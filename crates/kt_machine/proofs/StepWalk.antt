-- The parts of a step, gone through once for any pair of claims: I of a state and the acts so
-- far, E of what the step leaves.
use Rattle.std.proofs.Common.{◌≡◌, ℕ, ℤ, ◌+◌, Bool, true, false, not, List, [], ◌∷◌, ◌++◌, refl, arith, sym, subst, ◌∙◌, append-nil}
use Rattle.std.specs.Prelude.{◌==◌, ◌&&◌, nat_lt, if◌then◌else◌}
use Rattle.std.proofs.lemmas.Bool.Decides.{nat_tests}
use Rattle.kt_base.specs.declared.words.Cause.{Cause}
use Rattle.kt_base.specs.declared.words.Cause.TheVariants.{Busy, Down}
use Rattle.kt_base.specs.declared.words.Verb.{Verb}
use Rattle.kt_base.specs.declared.words.Verb.TheVariants as verb
use Rattle.kt_spacetime.specs.declared.event.Event.TheVariants.{Unwilling}
use Rattle.kt_meaning.specs.Past.{at_one, at_pair}
use Rattle.kt_protocol.specs.Summary.{summary_after}
use Rattle.kt_protocol.specs.Parcels.{Parcel, App, Ask, Reply, Decide, with_parcel, with_rest}
use Rattle.kt_protocol.specs.States.{State, ProtocolStep, Send, Begin, Fail, Take, is_ready}
use Rattle.kt_protocol.specs.Messages.{after_sending, after_receiving, after_dropping, after_holding, after_failing, after_refusal}
use Rattle.kt_protocol.specs.Joining.{after_began, after_joining_checkpoint, after_joining_rollback, must_take, must_roll}
use Rattle.kt_protocol.specs.Replies.{after_noting, after_replying, after_unwilling, after_answering, unable_cause}
use Rattle.kt_protocol.specs.Deciding.{after_decision, none_of}
use Rattle.kt_protocol.specs.Steps.{verb_for}
use Rattle.kt_protocol.proofs.Updates.{at_one_here, at_pair_here}
use Rattle.kt_protocol.proofs.Invariant.{Invariant}
use Rattle.kt_protocol.proofs.Answering.{reply_facts}
use Rattle.kt_protocol.proofs.Beginning.{decide_facts}
use Rattle.kt_protocol.proofs.Choices.{same, closed_of}
use Rattle.kt_protocol.specs.LateClosing.{late_deciding_as, late_deciding, late_closing}
use Rattle.kt_protocol.specs.LateSteps.{late_settling, late_ask, late_front, late_take, late_beginning, late_begin_command, late_step}
use Rattle.kt_protocol.specs.OnceClosed.{once_closed}
use Rattle.kt_machine.specs.Done.{done}
use Rattle.kt_machine.specs.Values.{Act, Apply, Keep, Drop, closing}
use Rattle.kt_machine.specs.Acts.{acts_settling, acts_asked, acts_taking, acts_taking_held, acts_beginning, acts_starting, acts, stepper}

abbrev pub counted : State → ℕ → ℕ → ℕ → Bool → State
counted s p q k w = record s {
  awaits = λ k' u v. if k' == k && u == p && v == q then false else s.awaits k' u v;
  all_willing = at_pair k p (s.all_willing k p && w) s.all_willing;
}

abbrev pub replies_now : State → ℕ → ℕ → ℕ → Bool → State
replies_now s p q k w = record s {
  channel = with_parcel s.channel p q (Reply k w);
  replies = at_one k (s.replies k + 1) s.replies;
  has_reply = λ i u v. if i == k && u == q && v == p then true else s.has_reply i u v;
}

abbrev pub refuses_now : State → ℕ → ℕ → ℕ → Cause → State
refuses_now s p q k cause = record s {
  log = s.log ++ Unwilling p k cause ∷ [];
  so_far = summary_after s.so_far (Unwilling p k cause);
  channel = with_parcel s.channel p q (Reply k false);
  replies = at_one k (s.replies k + 1) s.replies;
  has_reply = λ i u v. if i == k && u == q && v == p then true else s.has_reply i u v;
}

abbrev pub is_message : Parcel → Bool
is_message (App m) = true
is_message (Ask k l) = false
is_message (Reply k w) = false
is_message (Decide k c) = false

-- what each part of step x, which is p's, keeps; a part after which no other comes leads to E
pub record Moves (x : ProtocolStep) (p : ℕ) (I E : State → List Act → Type 0) : Type 0 where
  pub ends : (s : State) (a : List Act) → I s a → E s a
  pub sends : (s : State) (q : ℕ) (body : ℤ) (a : List Act) → x ≡ Send p q body → s.so_far.open_in p ≡ 0 → s.up p ≡ true → I s a → E (after_sending s p q body) a
  pub declines : (s : State) (v : Verb) (cause : Cause) (a : List Act) → I s a → E (after_refusal s p v cause) a
  pub fails : (s : State) (a : List Act) → x ≡ Fail p → s.up p ≡ true → I s a → E (after_failing s p) (a ++ Drop ∷ [])
  pub opens : (s : State) (roll : Bool) (a : List Act) → s.so_far.open_in p ≡ 0 → I s a → I (after_began s p roll) a
  pub takes : (s : State) (k : ℕ) (is_first : Bool) (par lnk : ℕ) (a : List Act) → s.so_far.open_in p ≡ 0 → s.up p ≡ true → I s a → I (after_joining_checkpoint s s.channel p k is_first par lnk) (a ++ Keep ∷ [])
  pub rolls : (s : State) (k : ℕ) (is_first : Bool) (par lnk : ℕ) (a : List Act) → s.so_far.open_in p ≡ 0 → I s a → I (after_joining_rollback s s.channel p k is_first par lnk) a
  pub notes : (s : State) (q k l : ℕ) (a : List Act) → I s a → I (after_noting s p q k l) a
  pub receives : (s : State) (q m : ℕ) (rest : List Parcel) (a : List Act) → is_ready s p ≡ false → s.up p ≡ true → s.channel q p ≡ App m ∷ rest → s.held q p ≡ [] → I s a → E (after_receiving s (with_rest s.channel q p rest) s.held p q m) (a ++ Apply q ((done s.log).body m) ∷ [])
  pub receives_held : (s : State) (q m : ℕ) (rest : List Parcel) (a : List Act) → is_ready s p ≡ false → s.up p ≡ true → s.held q p ≡ App m ∷ rest → I s a → E (after_receiving s s.channel (with_rest s.held q p rest) p q m) (a ++ Apply q ((done s.log).body m) ∷ [])
  pub loses : (s : State) (q m : ℕ) (rest : List Parcel) (a : List Act) → is_ready s p ≡ false → s.up p ≡ false → s.channel q p ≡ App m ∷ rest → s.held q p ≡ [] → I s a → E (after_dropping s (with_rest s.channel q p rest) s.held p q m) a
  pub loses_held : (s : State) (q m : ℕ) (rest : List Parcel) (a : List Act) → is_ready s p ≡ false → s.up p ≡ false → s.held q p ≡ App m ∷ rest → I s a → E (after_dropping s s.channel (with_rest s.held q p rest) p q m) a
  pub holds : (s : State) (q m : ℕ) (rest : List Parcel) (a : List Act) → is_ready s p ≡ true → s.channel q p ≡ App m ∷ rest → I s a → E (after_holding s p q m rest) a
  pub drops : (s : State) (q : ℕ) (x : Parcel) (rest : List Parcel) (a : List Act) → s.channel q p ≡ x ∷ rest → is_message x ≡ false → I s a → I (after_decision s p q rest) a
  pub replies : (s : State) (q k : ℕ) (w : Bool) (a : List Act) → I s a → E (replies_now s p q k w) a
  pub refuses : (s : State) (q k : ℕ) (cause : Cause) (a : List Act) → I s a → E (refuses_now s p q k cause) a
  pub counts : (s : State) (q k : ℕ) (w : Bool) (a : List Act) → I s a → I (counted s p q k w) a
  pub answers : (s : State) (k : ℕ) (a : List Act) → I s a → E (after_answering s p k) a
  pub decides : (s : State) (k : ℕ) (a : List Act) → s.so_far.open_in p ≡ k → (p == s.initiator k) ≡ true → none_of s.processes (s.awaits k p) ≡ true → I s a → I (late_deciding s p k) a
  -- with an abort there are no acts before
  pub closes : (s : State) (k : ℕ) (c : Bool) (a : List Act) → s.so_far.open_in p ≡ k → s.so_far.is_decided k ≡ true → s.so_far.is_committed k ≡ c → (c ≡ false → a ≡ []) → I s a → E (late_closing s p k c) (a ++ closing (s.so_far.is_rollback k) c)

pub decided_same : (s : State) (p k : ℕ) (w roll : Bool) → ((late_deciding_as w roll s p k).so_far.open_in p ≡ s.so_far.open_in p) × ((late_deciding_as w roll s p k).so_far.is_decided k ≡ true) × ((late_deciding_as w roll s p k).so_far.is_committed k ≡ w) × ((late_deciding_as w roll s p k).so_far.is_rollback k ≡ s.so_far.is_rollback k)
decided_same s p k false roll = (refl, at_one_here k true s.so_far.is_decided, at_one_here k false s.so_far.is_committed, refl)
decided_same s p k true false = (refl, at_one_here k true s.so_far.is_decided, at_one_here k true s.so_far.is_committed, refl)
decided_same s p k true true = (refl, at_one_here k true s.so_far.is_decided, at_one_here k true s.so_far.is_committed, refl)

at_both : (E : State → List Act → Type 0) (b : Bool) (x y : State) (a a' : List Act) → (b ≡ true → E x a) → (b ≡ false → E y a') → E (if b then x else y) (if b then a else a')
at_both E true x y a a' f g = f refl
at_both E false x y a a' f g = g refl

at_more : (E : State → List Act → Type 0) (b : Bool) (x y : State) (a t t' : List Act) → (b ≡ true → E x (a ++ t)) → (b ≡ false → E y (a ++ t')) → E (if b then x else y) (a ++ (if b then t else t'))
at_more E true x y a t t' f g = f refl
at_more E false x y a t t' f g = g refl

-- the acts are the same on both sides
at_one_side : (E : State → List Act → Type 0) (b : Bool) (x y : State) (a : List Act) → (b ≡ true → E x a) → (b ≡ false → E y a) → E (if b then x else y) a
at_one_side E true x y a f g = f refl
at_one_side E false x y a f g = g refl

it : (E : State → List Act → Type 0) (s : State) (a : List Act) → E s a → E s a
it E s a e = e

not_false : (b : Bool) → not b ≡ false → b ≡ true
not_false true e = refl
not_false false e = absurd (cc (e))

both_right : (a b : Bool) → (a && b) ≡ true → b ≡ true
both_right true b e = e
both_right false b e = absurd (cc (e))

module _ (x : ProtocolStep) (p : ℕ) (I E : State → List Act → Type 0) (m : Moves x p I E) where
  last : (s : State) (a : List Act) → I s a → E s (a ++ [])
  last s a i = subst (E s) (sym (append-nil a)) (m.ends s a i)

  walk_settles : (s : State) (k : ℕ) (a : List Act) → s.so_far.open_in p ≡ k → (s.all_willing k p ≡ false → a ≡ []) → I s a → E (late_settling s p k) (a ++ acts_settling s p k)
  walk_settles s k a o w i = at_more E (none_of s.processes (s.awaits k p)) _ _ _ _ _
      (λ b. at_more E (p == s.initiator k) _ _ _ _ _
      (λ e. let f = decided_same s p k (s.all_willing k p) (s.so_far.is_rollback k) in
      subst (λ (t : Bool). E (late_closing (late_deciding s p k) p k (s.all_willing k p)) (a ++ closing t (s.all_willing k p))) f.3
      (m.closes (late_deciding s p k) k (s.all_willing k p) a (f.0 ∙ o) f.1 f.2 w (m.decides s k a o e b i)))
      (λ _. subst (E (after_answering s p k)) (sym (append-nil a)) (m.answers s k a i)))
      (λ _. last s a i)

  module _ (s : State) (q k l : ℕ) (rest : List Parcel) (e : s.channel q p ≡ Ask k l ∷ rest) (i : I s []) where
    dropped : I (after_decision s p q rest) []
    dropped = m.drops s q (Ask k l) rest [] e refl i

    walk_ask : (able : Bool) → E (late_ask s p q able k l rest) (acts_asked s p q able k l rest)
    walk_ask able = at_both E (s.so_far.open_in p == k) _ _ _ _
        (λ _. it E (after_replying (after_noting s p q k l) p q k true rest) [] (m.replies (after_noting (after_decision s p q rest) p q k l) q k true [] (m.notes (after_decision s p q rest) q k l [] dropped)))
        (λ _. at_both E (not (s.so_far.open_in p == 0)) _ _ _ _
        (λ _. it E (after_unwilling s p q k (Busy (s.so_far.open_in p)) rest) [] (m.refuses (after_decision s p q rest) q k (Busy (s.so_far.open_in p)) [] dropped))
        (λ z. let o = closed_of (s.so_far.open_in p) z in at_both E (s.so_far.is_rollback k) _ _ _ _
        (λ r. at_both E (must_roll s p q l) _ _ _ _
        (λ _. walk_settles (after_joining_rollback (after_noting (after_decision s p q rest) p q k l) (after_decision s p q rest).channel p k false q (s.last_received p q)) k [] (at_one_here p k s.so_far.open_in) (λ _. refl)
        (m.rolls (after_noting (after_decision s p q rest) p q k l) k false q (s.last_received p q) [] o (m.notes (after_decision s p q rest) q k l [] dropped)))
        (λ _. it E (after_replying s p q k true rest) [] (m.replies (after_decision s p q rest) q k true [] dropped)))
        (λ r. at_both E (not (must_take s p q l)) _ _ _ _
        (λ _. it E (after_replying s p q k true rest) [] (m.replies (after_decision s p q rest) q k true [] dropped))
        (λ _. at_both E (not (able && s.up p)) _ _ _ _
        (λ _. it E (after_unwilling s p q k (unable_cause (s.up p)) rest) [] (m.refuses (after_decision s p q rest) q k (unable_cause (s.up p)) [] dropped))
        (λ u. walk_settles (after_joining_checkpoint (after_decision s p q rest) (after_decision s p q rest).channel p k false q l) k (Keep ∷ []) (at_one_here p k s.so_far.open_in) (λ w. absurd (cc (w, at_pair_here k p true s.all_willing)))
        (m.takes (after_decision s p q rest) k false q l [] o (both_right able (s.up p) (not_false (able && s.up p) u)) dropped))))))

  walk_taken : (s : State) (q : ℕ) (able : Bool) (l : List Parcel) → (is_ready s p ≡ false → s.held q p ≡ []) → s.channel q p ≡ l → Invariant (once_closed s) → I s [] → E (late_front s p q able l) (acts_taking s p q able l)
  walk_taken s q able [] n e g i = m.ends s [] i
  walk_taken s q able (App t ∷ rest) n e g i = at_both E (is_ready s p) _ _ _ _
      (λ y. it E (after_holding s p q t rest) [] (m.holds s q t rest [] y e i))
      (λ y. at_both E (s.up p) _ _ _ _
      (λ u. it E (after_receiving s (with_rest s.channel q p rest) s.held p q t) (Apply q ((done s.log).body t) ∷ []) (m.receives s q t rest [] y u e (n y) i))
      (λ u. it E (after_dropping s (with_rest s.channel q p rest) s.held p q t) [] (m.loses s q t rest [] y u e (n y) i)))
  walk_taken s q able (Ask k l ∷ rest) n e g i = walk_ask s q k l rest e i able
  walk_taken s q able (Reply k w ∷ rest) n e g i =
      let f = reply_facts (once_closed s) q p k w rest e g in
      walk_settles (counted (after_decision s p q rest) p q k w) k [] (g.positions.member_open k p f.1 f.2) (λ _. refl) (m.counts (after_decision s p q rest) q k w [] (m.drops s q (Reply k w) rest [] e refl i))
  walk_taken s q able (Decide k c ∷ rest) n e g i = at_both E (s.so_far.open_in p == k) _ _ _ _
      (λ o. let f = decide_facts (once_closed s) q p k c rest e g in
      m.closes (after_decision s p q rest) k c [] (same (s.so_far.open_in p) k o) f.0 f.1 (λ _. refl) (m.drops s q (Decide k c) rest [] e refl i))
      (λ _. m.ends (after_decision s p q rest) [] (m.drops s q (Decide k c) rest [] e refl i))

  walk_takes : (s : State) (q : ℕ) (able : Bool) (l : List Parcel) → is_ready s p ≡ false → s.held q p ≡ l → Invariant (once_closed s) → I s [] → E (late_take s p q able l) (acts_taking_held s p q able l)
  walk_takes s q able [] y e g i = walk_taken s q able (s.channel q p) (λ _. e) refl g i
  walk_takes s q able (App n ∷ rest) y e g i = at_both E (s.up p) _ _ _ _
      (λ u. it E (after_receiving s s.channel (with_rest s.held q p rest) p q n) (Apply q ((done s.log).body n) ∷ []) (m.receives_held s q n rest [] y u e i))
      (λ u. it E (after_dropping s s.channel (with_rest s.held q p rest) p q n) [] (m.loses_held s q n rest [] y u e i))
  walk_takes s q able (Ask k l ∷ rest) y e g i = m.ends s [] i
  walk_takes s q able (Reply k w ∷ rest) y e g i = m.ends s [] i
  walk_takes s q able (Decide k c ∷ rest) y e g i = m.ends s [] i

  walk_begins : (s : State) (roll : Bool) → s.so_far.open_in p ≡ 0 → (roll ≡ false → s.up p ≡ true) → I s [] → E (late_beginning s p roll) (acts_beginning s p roll)
  walk_begins s false o u i =
      walk_settles (after_joining_checkpoint (after_began s p false) s.channel p (s.instances + 1) true p 0) (s.instances + 1) (Keep ∷ []) (at_one_here p (s.instances + 1) s.so_far.open_in) (λ w. absurd (cc (w, at_pair_here (s.instances + 1) p true s.all_willing)))
      (m.takes (after_began s p false) (s.instances + 1) true p 0 [] o (u refl) (m.opens s false [] o i))
  walk_begins s true o u i =
      walk_settles (after_joining_rollback (after_began s p true) s.channel p (s.instances + 1) true p 0) (s.instances + 1) [] (at_one_here p (s.instances + 1) s.so_far.open_in) (λ _. refl)
      (m.rolls (after_began s p true) (s.instances + 1) true p 0 [] o (m.opens s true [] o i))

  walk_starts : (s : State) (roll able : Bool) → s.so_far.open_in p ≡ 0 → I s [] → E (late_begin_command s p roll able) (acts_starting s p roll able)
  walk_starts s true able o i = walk_begins s true o (λ e. absurd (cc (e))) i
  walk_starts s false able o i = at_both E (able && s.up p) _ _ _ _
      (λ u. walk_begins s false o (λ _. both_right able (s.up p) u) i)
      (λ _. it E (after_refusal s p verb.Checkpoint (unable_cause (s.up p))) [] (m.declines s verb.Checkpoint (unable_cause (s.up p)) [] i))

send_ok : (p q n o : ℕ) → ((nat_lt p n && nat_lt q n) && (o == 0 && not (q == p))) ≡ true → o ≡ 0
send_ok p q n o e = grind (arith, nat_tests, e)

-- every step
pub walk : (x : ProtocolStep) (I E : State → List Act → Type 0) → Moves x (stepper x) I E → (s : State) → Invariant (once_closed s) → I s [] → E (late_step s x) (acts s x)
walk (Send p q body) I E m s g i = at_one_side E ((nat_lt p s.processes && nat_lt q s.processes) && (s.so_far.open_in p == 0 && not (q == p))) _ _ _
    (λ b. at_one_side E (s.up p) _ _ _
    (λ u. it E (after_sending s p q body) [] (m.sends s q body [] refl (send_ok p q s.processes (s.so_far.open_in p) b) u i))
    (λ _. it E (after_refusal s p verb.Send Down) [] (m.declines s verb.Send Down [] i)))
    (λ _. m.ends s [] i)
walk (Begin p roll able) I E m s g i = at_both E (s.so_far.open_in p == 0) _ _ _ _
    (λ o. walk_starts (Begin p roll able) p I E m s roll able (same (s.so_far.open_in p) 0 o) i)
    (λ _. it E (after_refusal s p (verb_for roll) (Busy (s.so_far.open_in p))) [] (m.declines s (verb_for roll) (Busy (s.so_far.open_in p)) [] i))
walk (Fail p) I E m s g i = at_both E (s.up p) _ _ _ _
    (λ u. it E (after_failing s p) (Drop ∷ []) (m.fails s [] refl u i))
    (λ _. it E (after_refusal s p verb.Fail Down) [] (m.declines s verb.Fail Down [] i))
walk (Take p q able) I E m s g i = at_both E (is_ready s p) _ _ _ _
    (λ y. walk_taken (Take p q able) p I E m s q able (s.channel q p) (λ z. absurd (cc (y, z))) refl g i)
    (λ y. walk_takes (Take p q able) p I E m s q able (s.held q p) y refl g i)
