-- Positions after a legal log: who is in which open instance, and where permanent and new positions stand.
use Rattle.std.proofs.Common.{◌≡◌, ℕ, zero, suc, ◌+◌, ◌≤◌, Bool, true, false, Option, Some, None, List, [], ◌∷◌, ◌++◌, length, refl, arith, sym, subst, ◌∙◌, length-append, length-take, append-nil}
use Rattle.std.specs.Prelude.{is_some, ◌==◌, ◌||◌}
use Rattle.std.proofs.lemmas.Bool.Decides.{nat_tests}
use Rattle.kt_base.specs.declared.words.Kind.{Kind}
use Rattle.kt_base.specs.declared.words.Kind.TheVariants.{Checkpoint, Rollback}
use Rattle.kt_spacetime.specs.declared.event.Event.{Event}
use Rattle.kt_spacetime.specs.declared.event.Event.TheVariants.{Sent, Received, Dropped, Began, Took, Ready, Unwilling, Decided, Closed, Failed, Refused}
use Rattle.kt_spacetime.specs.declared.deeds.Deed.{Deed}
use Rattle.kt_spacetime.specs.declared.deeds.Deed.TheVariants as deed
use Rattle.kt_meaning.specs.InCheckpoint.{IsInCheckpoint, decides}
use Rattle.kt_meaning.proofs.Lists.{get_kept}
use Rattle.kt_meaning.proofs.Updates.{at_one_all}
use Rattle.kt_meaning.specs.Past.{Past, Beginning, start, after, past, at_one, beginning_of, kind_of, is_checkpoint_kind, is_rollback_kind, is_checkpoint, is_rollback, is_member}
use Rattle.kt_meaning.specs.Legal.{IsLegal, broken_rule}
use Rattle.kt_meaning.proofs.LegalLogs.{legal_induction}
use Rattle.kt_meaning.proofs.RowRules.{MayTake, may_take, MayGetReady, may_get_ready, may_decide, MayClose, may_close}

-- how an instance began stays known
pub begun_kept : (s : Past) (row : Event) (k : ℕ) (b : Beginning) → beginning_of s k ≡ Some b → beginning_of (after s row) k ≡ Some b
begun_kept s row zero b e = absurd (cc)
begun_kept s (Began p j kind) (suc k) b e = get_kept s.begun (record { initiator = p; kind = kind }) k b e
begun_kept s (Sent p to body) (suc k) b e = e
begun_kept s (Received p from msg) (suc k) b e = e
begun_kept s (Dropped p from msg) (suc k) b e = e
begun_kept s (Took p j) (suc k) b e = e
begun_kept s (Ready p j) (suc k) b e = e
begun_kept s (Unwilling p j cause) (suc k) b e = e
begun_kept s (Decided p j commit) (suc k) b e = e
begun_kept s (Closed p j) (suc k) b e = e
begun_kept s (Failed p) (suc k) b e = e
begun_kept s (Refused p verb cause) (suc k) b e = e

-- so does its kind
pub checkpoint_kept : (s : Past) (row : Event) (k : ℕ) → is_checkpoint s k ≡ true → is_checkpoint (after s row) k ≡ true
checkpoint_kept s row k e = at_beginning (beginning_of s k) refl
  where
    at_beginning : (o : Option Beginning) → beginning_of s k ≡ o → is_checkpoint (after s row) k ≡ true
    at_beginning None h = absurd (let f = rw h at e in cc)
    at_beginning (Some b) h = rw (begun_kept s row k b h) (rw h at e)

pub rollback_kept : (s : Past) (row : Event) (k : ℕ) → is_rollback s k ≡ true → is_rollback (after s row) k ≡ true
rollback_kept s row k e = at_beginning (beginning_of s k) refl
  where
    at_beginning : (o : Option Beginning) → beginning_of s k ≡ o → is_rollback (after s row) k ≡ true
    at_beginning None h = absurd (let f = rw h at e in cc)
    at_beginning (Some b) h = rw (begun_kept s row k b h) (rw h at e)

pub one_kind : (s : Past) (k : ℕ) → is_checkpoint s k ≡ true → is_rollback s k ≡ true → ⊥
one_kind s k c r = at_kind (kind_of s k) c r
  where
    at_kind : (o : Option Kind) → is_checkpoint_kind o ≡ true → is_rollback_kind o ≡ true → ⊥
    at_kind None c r = absurd (cc)
    at_kind (Some Checkpoint) c r = absurd (cc)
    at_kind (Some Rollback) c r = absurd (cc)

-- what is so of positions after a legal log
pub record Positions (s : Past) : Type 0 where
  pub took_inside : (q k n : ℕ) → s.decision k ≡ None → s.new k q ≡ Some n → s.open_in q ≡ Some k
  pub ready_inside : (q k : ℕ) → s.decision k ≡ None → s.ready k q ≡ true → s.open_in q ≡ Some k
  pub took_kind : (q k n : ℕ) → s.new k q ≡ Some n → is_checkpoint s k ≡ true
  pub ready_kind : (q k : ℕ) → s.ready k q ≡ true → is_rollback s k ≡ true
  pub inside_member : (q k : ℕ) → s.open_in q ≡ Some k → is_member s k q ≡ true
  pub within : (q k n : ℕ) → s.decision k ≡ None → s.new k q ≡ Some n → (s.permanent q ≤ n) × (n ≤ length (s.live q))
  pub permanent_within : (q : ℕ) → s.permanent q ≤ length (s.live q)

positions_start : Positions start
positions_start = record {
  took_inside = λ q k n v t. absurd (cc);
  ready_inside = λ q k v r. absurd (cc);
  took_kind = λ q k n t. absurd (cc);
  ready_kind = λ q k r. absurd (cc);
  inside_member = λ q k o. absurd (cc);
  within = λ q k n v t. absurd (cc);
  permanent_within = λ q. omega arith;
}

-- no process has both taken a checkpoint and got ready in one instance
not_both : (s : Past) → Positions s → (q k n : ℕ) → s.new k q ≡ Some n → s.ready k q ≡ true → ⊥
not_both s g q k n t r = one_kind s k (g.took_kind q k n t) (g.ready_kind q k r)

keeps_sent : (s : Past) (p to : ℕ) (body : _) → Positions s → Positions (after s (Sent p to body))
keeps_sent s p to body g = record {
  took_inside = g.took_inside;
  ready_inside = g.ready_inside;
  took_kind = λ q k n t. checkpoint_kept s (Sent p to body) k (g.took_kind q k n t);
  ready_kind = λ q k r. rollback_kept s (Sent p to body) k (g.ready_kind q k r);
  inside_member = g.inside_member;
  within = λ q k n v t. grind (arith, nat_tests, length-append, g.within q k n v t);
  permanent_within = λ q. grind (arith, nat_tests, length-append, g.permanent_within q);
}

keeps_received : (s : Past) (p from msg : ℕ) → Positions s → Positions (after s (Received p from msg))
keeps_received s p from msg g = record {
  took_inside = g.took_inside;
  ready_inside = g.ready_inside;
  took_kind = λ q k n t. checkpoint_kept s (Received p from msg) k (g.took_kind q k n t);
  ready_kind = λ q k r. rollback_kept s (Received p from msg) k (g.ready_kind q k r);
  inside_member = g.inside_member;
  within = λ q k n v t. grind (arith, nat_tests, length-append, g.within q k n v t);
  permanent_within = λ q. grind (arith, nat_tests, length-append, g.permanent_within q);
}

keeps_took : (s : Past) (p k : ℕ) → MayTake s p k → Positions s → Positions (after s (Took p k))
keeps_took s p k m g = record {
  took_inside = λ q j n v t. grind (arith, nat_tests, m.idle, g.took_inside q j);
  ready_inside = λ q j v r. grind (arith, nat_tests, m.idle, g.ready_inside q j v r);
  took_kind = λ q j n t. checkpoint_kept s (Took p k) j (grind (arith, nat_tests, m.is_kind, g.took_kind q j n));
  ready_kind = λ q j r. rollback_kept s (Took p k) j (g.ready_kind q j r);
  inside_member = λ q j o. grind (arith, nat_tests, g.inside_member q j);
  within = λ q j n v t. grind (arith, nat_tests, g.within q j n v, g.permanent_within q);
  permanent_within = g.permanent_within;
}

keeps_ready : (s : Past) (p k : ℕ) → MayGetReady s p k → Positions s → Positions (after s (Ready p k))
keeps_ready s p k m g = record {
  took_inside = λ q j n v t. grind (arith, nat_tests, m.idle, g.took_inside q j n v t);
  ready_inside = λ q j v r. grind (arith, nat_tests, m.idle, g.ready_inside q j);
  took_kind = λ q j n t. checkpoint_kept s (Ready p k) j (g.took_kind q j n t);
  ready_kind = λ q j r. rollback_kept s (Ready p k) j (grind (arith, nat_tests, m.is_kind, g.ready_kind q j));
  inside_member = λ q j o. grind (arith, nat_tests, g.inside_member q j);
  within = g.within;
  permanent_within = g.permanent_within;
}

keeps_closed : (s : Past) (p k : ℕ) → MayClose s p k → Positions s → Positions (after s (Closed p k))
keeps_closed s p k m g = record {
  took_inside = λ q j n v t. grind (arith, nat_tests, m.inside, m.decided, g.took_inside q j n v t);
  ready_inside = λ q j v r. grind (arith, nat_tests, m.inside, m.decided, g.ready_inside q j v r);
  took_kind = λ q j n t. checkpoint_kept s (Closed p k) j (g.took_kind q j n t);
  ready_kind = λ q j r. rollback_kept s (Closed p k) j (g.ready_kind q j r);
  inside_member = λ q j o. grind (arith, nat_tests, g.inside_member q j);
  within = g.within;
  permanent_within = g.permanent_within;
}

keeps_abort : (s : Past) (p k : ℕ) → Positions s → Positions (after s (Decided p k false))
keeps_abort s p k g = record {
  took_inside = λ q j n v t. grind (arith, nat_tests, g.took_inside q j n);
  ready_inside = λ q j v r. grind (arith, nat_tests, g.ready_inside q j);
  took_kind = λ q j n t. checkpoint_kept s (Decided p k false) j (g.took_kind q j n t);
  ready_kind = λ q j r. rollback_kept s (Decided p k false) j (g.ready_kind q j r);
  inside_member = g.inside_member;
  within = λ q j n v t. grind (arith, nat_tests, g.within q j n);
  permanent_within = g.permanent_within;
}

keeps_commit : (s : Past) (p k : ℕ) → s.decision k ≡ None → Positions s → Positions (after s (Decided p k true))
keeps_commit s p k d g = record {
  took_inside = λ q j n v t. grind (arith, nat_tests, g.took_inside q j n);
  ready_inside = λ q j v r. grind (arith, nat_tests, g.ready_inside q j);
  took_kind = λ q j n t. checkpoint_kept s (Decided p k true) j (g.took_kind q j n t);
  ready_kind = λ q j r. rollback_kept s (Decided p k true) j (g.ready_kind q j r);
  inside_member = g.inside_member;
  within = λ q j n v t. grind (arith, nat_tests, length-take, g.within q j n, g.within q k, g.took_inside q j n, g.took_inside q k, g.ready_inside q k d);
  permanent_within = λ q. grind (arith, nat_tests, length-take, g.permanent_within q, g.within q k, not_both s g q k);
}

keeps : (s : Past) (row : Event) → broken_rule s row ≡ None → Positions s → Positions (after s row)
keeps s (Sent p to body) e g = keeps_sent s p to body g
keeps s (Received p from msg) e g = keeps_received s p from msg g
keeps s (Took p k) e g = keeps_took s p k (may_take s p k e) g
keeps s (Ready p k) e g = keeps_ready s p k (may_get_ready s p k e) g
keeps s (Closed p k) e g = keeps_closed s p k (may_close s p k e) g
keeps s (Decided p k false) e g = keeps_abort s p k g
keeps s (Decided p k true) e g = keeps_commit s p k (let m = may_decide s p k true e in m.undecided) g
keeps s (Dropped p from msg) e g = record {
  took_inside = g.took_inside;
  ready_inside = g.ready_inside;
  took_kind = λ q j n t. checkpoint_kept s (Dropped p from msg) j (g.took_kind q j n t);
  ready_kind = λ q j r. rollback_kept s (Dropped p from msg) j (g.ready_kind q j r);
  inside_member = g.inside_member;
  within = g.within;
  permanent_within = g.permanent_within;
}
keeps s (Began p k kind) e g = record {
  took_inside = g.took_inside;
  ready_inside = g.ready_inside;
  took_kind = λ q j n t. checkpoint_kept s (Began p k kind) j (g.took_kind q j n t);
  ready_kind = λ q j r. rollback_kept s (Began p k kind) j (g.ready_kind q j r);
  inside_member = g.inside_member;
  within = g.within;
  permanent_within = g.permanent_within;
}
keeps s (Unwilling p k cause) e g = record {
  took_inside = g.took_inside;
  ready_inside = g.ready_inside;
  took_kind = λ q j n t. checkpoint_kept s (Unwilling p k cause) j (g.took_kind q j n t);
  ready_kind = λ q j r. rollback_kept s (Unwilling p k cause) j (g.ready_kind q j r);
  inside_member = g.inside_member;
  within = g.within;
  permanent_within = g.permanent_within;
}
keeps s (Failed p) e g = record {
  took_inside = g.took_inside;
  ready_inside = g.ready_inside;
  took_kind = λ q j n t. checkpoint_kept s (Failed p) j (g.took_kind q j n t);
  ready_kind = λ q j r. rollback_kept s (Failed p) j (g.ready_kind q j r);
  inside_member = g.inside_member;
  within = g.within;
  permanent_within = g.permanent_within;
}
keeps s (Refused p verb cause) e g = record {
  took_inside = g.took_inside;
  ready_inside = g.ready_inside;
  took_kind = λ q j n t. checkpoint_kept s (Refused p verb cause) j (g.took_kind q j n t);
  ready_kind = λ q j r. rollback_kept s (Refused p verb cause) j (g.ready_kind q j r);
  inside_member = g.inside_member;
  within = g.within;
  permanent_within = g.permanent_within;
}

pub positions : (log : List Event) → IsLegal log → Positions (past log)
positions log l = legal_induction Positions keeps start log l positions_start

-- a member of an undecided instance is in it
pub member_inside : (s : Past) → Positions s → (k p : ℕ) → s.decision k ≡ None → is_member s k p ≡ true → s.open_in p ≡ Some k
member_inside s g k p v m = at_new (s.new k p) refl m
  where
    at_new : (o : Option ℕ) → s.new k p ≡ o → (is_some o || s.ready k p) ≡ true → s.open_in p ≡ Some k
    at_new None e m = g.ready_inside p k v m
    at_new (Some n) e m = g.took_inside p k n v e

-- who is in an undecided checkpoint has taken it
pub new_inside : (s : Past) → Positions s → (k p : ℕ) → IsInCheckpoint s k p → (n : ℕ) × (s.new k p ≡ Some n) × (s.permanent p ≤ n) × (n ≤ length (s.live p))
new_inside s g k p h = at_new (s.new k p) refl (g.inside_member p k h.inside)
  where
    at_new : (o : Option ℕ) → s.new k p ≡ o → (is_some o || s.ready k p) ≡ true → (n : ℕ) × (s.new k p ≡ Some n) × (s.permanent p ≤ n) × (n ≤ length (s.live p))
    at_new None e m = absurd (one_kind s k h.is_kind (g.ready_kind p k m))
    at_new (Some n) e m = let w = g.within p k n h.undecided e in (n, e, w.0, w.1)

-- while a process is in an undecided checkpoint, its history grows
Grows : List Deed → List Deed → Type 0
Grows old new = (more : List Deed) × (new ≡ old ++ more)

stays : (l : List Deed) → Grows l l
unfolding Grows
stays l = ([], sym (append-nil l))

one_more_grows : (s : Past) (q p : ℕ) (d : Deed) → Grows (s.live p) (at_one q (s.live q ++ d ∷ []) s.live p)
unfolding Grows
one_more_grows s q p d = at_one_all (λ r l. Grows (s.live r) l) q (s.live q ++ d ∷ []) s.live (d ∷ [], refl) (λ r. stays (s.live r)) p

-- no rollback that is decided cuts it
not_cut : (s : Past) → Positions s → (k p j : ℕ) → IsInCheckpoint s k p → s.decision j ≡ None → s.ready j p ≡ false
not_cut s g k p j h v = at_test (s.ready j p) refl
  where
    at_test : (b : Bool) → s.ready j p ≡ b → s.ready j p ≡ false
    at_test false e = e
    at_test true e =
        let same : Some j ≡ Some k = sym (g.ready_inside p j v e) ∙ h.inside in
        let number : j ≡ k = cc in
        absurd (one_kind s k h.is_kind (subst (λ (i : ℕ). is_rollback s i ≡ true) number (g.ready_kind p j e)))

pub live_grows : (s : Past) (row : Event) → Positions s → broken_rule s row ≡ None → (k p : ℕ) → IsInCheckpoint s k p → (more : List Deed) × ((after s row).live p ≡ s.live p ++ more)
unfolding Grows
live_grows s (Sent q to body) g e k p h = one_more_grows s q p (deed.Sent (s.rows + 1) to)
live_grows s (Received q from msg) g e k p h = one_more_grows s q p (deed.Received msg from)
live_grows s (Decided q j true) g e k p h = let m = may_decide s q j true e in rw (not_cut s g k p j h m.undecided) (stays (s.live p))
live_grows s (Decided q j false) g e k p h = stays (s.live p)
live_grows s (Dropped q from msg) g e k p h = stays (s.live p)
live_grows s (Began q j kind) g e k p h = stays (s.live p)
live_grows s (Took q j) g e k p h = stays (s.live p)
live_grows s (Ready q j) g e k p h = stays (s.live p)
live_grows s (Unwilling q j cause) g e k p h = stays (s.live p)
live_grows s (Closed q j) g e k p h = stays (s.live p)
live_grows s (Failed q) g e k p h = stays (s.live p)
live_grows s (Refused q verb cause) g e k p h = stays (s.live p)

-- its permanent position moves by that instance's decision alone
no_other_new : (s : Past) → Positions s → (k p j : ℕ) → IsInCheckpoint s k p → s.decision j ≡ None → (j == k) ≡ false → s.new j p ≡ None
no_other_new s g k p j h v d = at_new (s.new j p) refl
  where
    at_new : (o : Option ℕ) → s.new j p ≡ o → s.new j p ≡ None
    at_new None e = e
    at_new (Some n) e =
        let same : Some j ≡ Some k = sym (g.took_inside p j n v e) ∙ h.inside in
        let number : j ≡ k = cc in
        absurd (grind (arith, nat_tests))

pub permanent_stays : (s : Past) (row : Event) → Positions s → broken_rule s row ≡ None → (k p : ℕ) → IsInCheckpoint s k p → decides row k ≡ false → (after s row).permanent p ≡ s.permanent p
permanent_stays s (Decided q j true) g e k p h d = let m = may_decide s q j true e in rw (no_other_new s g k p j h m.undecided d) refl
permanent_stays s (Decided q j false) g e k p h d = refl
permanent_stays s (Sent q to body) g e k p h d = refl
permanent_stays s (Received q from msg) g e k p h d = refl
permanent_stays s (Dropped q from msg) g e k p h d = refl
permanent_stays s (Began q j kind) g e k p h d = refl
permanent_stays s (Took q j) g e k p h d = refl
permanent_stays s (Ready q j) g e k p h d = refl
permanent_stays s (Unwilling q j cause) g e k p h d = refl
permanent_stays s (Closed q j) g e k p h d = refl
permanent_stays s (Failed q) g e k p h d = refl
permanent_stays s (Refused q verb cause) g e k p h d = refl
