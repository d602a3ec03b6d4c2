-- Rows of instances and failures: tables go on showing what is known.
use Rattle.std.proofs.Common.{◌≡◌, ◌≢◌, ℕ, zero, suc, ◌+◌, ◌<◌, ◌≤◌, ◌&&◌, ◌||◌, if◌then◌else◌, Bool, true, false, Option, Some, None, unwrap_or, List, [], ◌∷◌, ◌++◌, length, get_or, set, take, replicate, refl, sym, ap, ◌∙◌, subst, arith, inl, inr, length-append}
use Rattle.std.specs.List.{slice_get, Contains}
use Rattle.std.proofs.lemmas.Bool.{cases_lt, and_parts}
use Rattle.std.proofs.lemmas.List.{length-replicate, get_or-replicate}
use Rattle.std.proofs.lemmas.Option.{slice_get_within, slice_get-get_or}
use Rattle.kt_base.specs.Sets.{has}
use Rattle.kt_base.specs.declared.words.Kind.{Kind}
use Rattle.kt_base.specs.declared.words.Kind.TheVariants.{Checkpoint, Rollback}
use Rattle.kt_base.specs.declared.words.Cause.{Cause}
use Rattle.kt_base.specs.declared.words.Verb.{Verb}
use Rattle.kt_spacetime.specs.declared.event.Event.TheVariants as event
use Rattle.kt_spacetime.specs.declared.deeds.Deed.{Deed}
use Rattle.kt_spacetime.specs.declared.deeds.Deed.TheVariants as deed
use Rattle.kt_histories.specs.declared.process.Process.{Process}
use Rattle.kt_histories.specs.declared.tables.Message.{Message}
use Rattle.kt_rules.specs.declared.instances.Instance.{Instance}
use Rattle.kt_meaning.specs.Past.{Past, after, at_one, is_checkpoint, is_rollback, is_committed}
use Rattle.kt_meaning.specs.Legal.{has_deed}
use Rattle.kt_rules.specs.Lists.{NumbersRise, last_of, sent_in, received_in}
use Rattle.kt_histories.specs.Tables.{promoted, rolled}
use Rattle.kt_rules.specs.Changes.{HasOneMore, IsDecided}
use Rattle.kt_rules.specs.Standing.{ShowsInstances, IsAllowed, at_number, beginning_of_row, new_shown, ready_shown, rolled_back_shown}
use Rattle.kt_histories.specs.Standing.{Shows, ShowsProcess, ShowsProcesses, message_at, receiving}
use Rattle.kt_meaning.proofs.Items.{get_take, get_in_take, item_there, some_same}
use Rattle.kt_meaning.proofs.DeedFacts.{place_of_deed}
use Rattle.kt_rules.proofs.DeedFacts.{has_at, sent_rises_take, received_rises_take}
use Rattle.kt_meaning.proofs.LegalLogs.{kept}
use Rattle.kt_meaning.proofs.Shown.{at_same, at_other}
use Rattle.kt_histories.proofs.Shown.{processes_set, processes_same, messages_quiet}
use Rattle.kt_rules.proofs.InstanceSteps.{began_instances, begun_there, closed_rises, decided_instances, if_front, new_member, new_of_rollback, not_new, not_ready, ready_instances, ready_member, ready_of_checkpoint, rolled_known, same_instances, took_instances}

-- a row that leaves the histories and the messages as they are
pub shows_same : (ps qs : List Process) (ms : List (Option Message)) (js is : List Instance) (d : List ℕ) (b c : Option (ℕ × ℕ)) (s t : Past)
    → Shows ps ms js d b s → ShowsProcesses qs t → ShowsInstances is t
    → ((q : ℕ) → t.live q ≡ s.live q) → ((m : ℕ) → t.dropped m ≡ s.dropped m) → ((p q : ℕ) → NumbersRise (received_in q (t.dropped_since p)))
    → c ≡ beginning_of_row t.last → t.rows ≡ s.rows + 1 → Shows qs (ms ++ None ∷ []) is d c t
shows_same ps qs ms js is d b c s t h processes instances live dropped since last rows = record {
  of_processes = processes;
  of_messages = messages_quiet ms s t h.of_messages (λ p i x e. ap (λ (l : List Deed). slice_get l i) (sym (live p)) ∙ e) dropped;
  of_instances = instances;
  in_order = record {
    sent = λ p. subst (λ (l : List Deed). NumbersRise (sent_in l)) (sym (live p)) (h.in_order.sent p);
    received = λ p q. subst (λ (l : List Deed). NumbersRise (received_in q l)) (sym (live p)) (h.in_order.received p q);
    dropped = since;
  };
  dead_known = λ p i m q e n. h.dead_known p i m q (ap (λ (l : List Deed). slice_get l i) (sym (live p)) ∙ e) (ap (has_deed (deed.Sent m p)) (sym (live q)) ∙ n);
  of_beginning = last;
  rows = length-append ms (None ∷ []) ∙ (ap (λ (n : ℕ). n + 1) h.rows ∙ sym rows);
}

pub shows_unwilling : (ps : List Process) (ms : List (Option Message)) (js : List Instance) (d : List ℕ) (b : Option (ℕ × ℕ)) (s : Past) (p k : ℕ) (cause : Cause)
    → Shows ps ms js d b s → Shows ps (ms ++ None ∷ []) js d None (after s (event.Unwilling p k cause))
shows_unwilling ps ms js d b s p k cause h =
    let t : Past = after s (event.Unwilling p k cause) in
    shows_same ps ps ms js js d b None s t h (processes_same ps s t h.of_processes (λ q w g. record { live = g.live; permanent = g.permanent; open_in = g.open_in; up = g.up; dropped = g.dropped }) h.of_processes.no_more)
    (same_instances js s t h.of_instances refl refl refl refl) (λ q. refl) (λ m. refl) h.in_order.dropped refl refl

pub shows_refused : (ps : List Process) (ms : List (Option Message)) (js : List Instance) (d : List ℕ) (b : Option (ℕ × ℕ)) (s : Past) (p : ℕ) (verb : Verb) (cause : Cause)
    → Shows ps ms js d b s → Shows ps (ms ++ None ∷ []) js d None (after s (event.Refused p verb cause))
shows_refused ps ms js d b s p verb cause h =
    let t : Past = after s (event.Refused p verb cause) in
    shows_same ps ps ms js js d b None s t h (processes_same ps s t h.of_processes (λ q w g. record { live = g.live; permanent = g.permanent; open_in = g.open_in; up = g.up; dropped = g.dropped }) h.of_processes.no_more)
    (same_instances js s t h.of_instances refl refl refl refl) (λ q. refl) (λ m. refl) h.in_order.dropped refl refl

pub shows_failed : (ps : List Process) (ms : List (Option Message)) (js : List Instance) (d : List ℕ) (b : Option (ℕ × ℕ)) (s : Past) (p : ℕ) (v : Process)
    → Shows ps ms js d b s → p < 64 → slice_get ps p ≡ Some v → Shows (set ps p (record v { up = false })) (ms ++ None ∷ []) js d None (after s (event.Failed p))
shows_failed ps ms js d b s p v h low at =
    let t : Past = after s (event.Failed p) in
    let old = h.of_processes.each p v at in
    shows_same ps _ ms js js d b None s t h (processes_set ps s t p (record v { up = false }) h.of_processes low
    (record { live = old.live; permanent = old.permanent; open_in = old.open_in; up = sym (at_same p false s.up); dropped = old.dropped })
    (λ q w n g. record { live = g.live; permanent = g.permanent; open_in = g.open_in; up = g.up ∙ sym (at_other p q false s.up n); dropped = g.dropped }) h.of_processes.no_more)
    (same_instances js s t h.of_instances refl refl refl refl) (λ q. refl) (λ m. refl) h.in_order.dropped refl refl

pub shows_began : (ps : List Process) (ms : List (Option Message)) (js : List Instance) (d : List ℕ) (b : Option (ℕ × ℕ)) (s : Past) (p k : ℕ) (kind : Kind) (v : Instance)
    → Shows ps ms js d b s → v.initiator ≡ p → v.kind ≡ kind → v.decision ≡ None → ((q : ℕ) → has v.joined q ≡ false) → length v.positions ≡ 64
    → Shows ps (ms ++ None ∷ []) (js ++ v ∷ []) d (Some (p, k)) (after s (event.Began p k kind))
shows_began ps ms js d b s p k kind v h initiator of_kind undecided empty positions =
    let t : Past = after s (event.Began p k kind) in
    shows_same ps ps ms js (js ++ v ∷ []) d b (Some (p, k)) s t h (processes_same ps s t h.of_processes (λ q w g. record { live = g.live; permanent = g.permanent; open_in = g.open_in; up = g.up; dropped = g.dropped }) h.of_processes.no_more)
    (began_instances js s p k kind v h.of_instances initiator of_kind undecided empty positions) (λ q. refl) (λ m. refl) h.in_order.dropped refl refl

pub took_there : (ps : List Process) (ms : List (Option Message)) (js : List Instance) (d : List ℕ) (b : Option (ℕ × ℕ)) (s : Past) (p k : ℕ) → Shows ps ms js d b s → IsAllowed s (event.Took p k)
    → (v : Instance) × (at_number js k ≡ Some v)
took_there ps ms js d b s p k h allowed = begun_there js s k h.of_instances (kept s (event.Took p k) allowed.unbroken).numbers

pub ready_there : (ps : List Process) (ms : List (Option Message)) (js : List Instance) (d : List ℕ) (b : Option (ℕ × ℕ)) (s : Past) (p k : ℕ) → Shows ps ms js d b s → IsAllowed s (event.Ready p k)
    → (v : Instance) × (at_number js k ≡ Some v)
ready_there ps ms js d b s p k h allowed = begun_there js s k h.of_instances (kept s (event.Ready p k) allowed.unbroken).numbers

pub decided_there : (ps : List Process) (ms : List (Option Message)) (js : List Instance) (d : List ℕ) (b : Option (ℕ × ℕ)) (s : Past) (p k : ℕ) (commit : Bool) → Shows ps ms js d b s → IsAllowed s (event.Decided p k commit)
    → (v : Instance) × (at_number js k ≡ Some v)
decided_there ps ms js d b s p k commit h allowed = begun_there js s k h.of_instances (kept s (event.Decided p k commit) allowed.unbroken).numbers

pub shows_took : (ps : List Process) (ms : List (Option Message)) (js is : List Instance) (d : List ℕ) (b : Option (ℕ × ℕ)) (s : Past) (p k : ℕ) (v : Process) (u w : Instance)
    → Shows ps ms js d b s → IsAllowed s (event.Took p k) → p < 64 → slice_get ps p ≡ Some v → HasOneMore js is k p (length v.history) u w
    → Shows (set ps p (record v { open_in = Some k })) (ms ++ None ∷ []) is d None (after s (event.Took p k))
shows_took ps ms js is d b s p k v u w h allowed low at x =
    let t : Past = after s (event.Took p k) in
    let old = h.of_processes.each p v at in
    let rules = kept s (event.Took p k) allowed.unbroken in
    let up = and_parts _ _ (and_parts _ _ rules.joining).0 in
    let checkpoint : is_checkpoint s k ≡ true = (and_parts _ (is_checkpoint s k) up.0).1 in
    shows_same ps _ ms js is d b None s t h (processes_set ps s t p (record v { open_in = Some k }) h.of_processes low
    (record { live = old.live; permanent = old.permanent; open_in = sym (at_same p (Some k) s.open_in); up = old.up; dropped = old.dropped })
    (λ q y n g. record { live = g.live; permanent = g.permanent; open_in = g.open_in ∙ sym (at_other p q (Some k) s.open_in n); up = g.up; dropped = g.dropped }) h.of_processes.no_more)
    (took_instances js is s p k (length v.history) u w h.of_instances checkpoint low (ap length old.live) x) (λ q. refl) (λ m. refl) h.in_order.dropped refl refl

pub shows_ready : (ps : List Process) (ms : List (Option Message)) (js is : List Instance) (d : List ℕ) (b : Option (ℕ × ℕ)) (s : Past) (p k : ℕ) (v : Process) (u w : Instance)
    → Shows ps ms js d b s → IsAllowed s (event.Ready p k) → p < 64 → slice_get ps p ≡ Some v → HasOneMore js is k p (length v.history) u w
    → Shows (set ps p (record v { open_in = Some k })) (ms ++ None ∷ []) is d None (after s (event.Ready p k))
shows_ready ps ms js is d b s p k v u w h allowed low at x =
    let t : Past = after s (event.Ready p k) in
    let old = h.of_processes.each p v at in
    let rules = kept s (event.Ready p k) allowed.unbroken in
    let may = (and_parts _ _ rules.joining).0 in
    let rollback : is_rollback s k ≡ true = (and_parts _ (is_rollback s k) may).1 in
    shows_same ps _ ms js is d b None s t h (processes_set ps s t p (record v { open_in = Some k }) h.of_processes low
    (record { live = old.live; permanent = old.permanent; open_in = sym (at_same p (Some k) s.open_in); up = old.up; dropped = old.dropped })
    (λ q y n g. record { live = g.live; permanent = g.permanent; open_in = g.open_in ∙ sym (at_other p q (Some k) s.open_in n); up = g.up; dropped = g.dropped }) h.of_processes.no_more)
    (ready_instances js is s p k (length v.history) u w h.of_instances rollback low x) (λ q. refl) (λ m. refl) h.in_order.dropped refl refl

pub shows_aborted : (ps : List Process) (ms : List (Option Message)) (js is : List Instance) (d : List ℕ) (b : Option (ℕ × ℕ)) (s : Past) (p k : ℕ) (v : Instance)
    → Shows ps ms js d b s → IsDecided js is k false v → Shows ps (ms ++ None ∷ []) is d None (after s (event.Decided p k false))
shows_aborted ps ms js is d b s p k v h x =
    let t : Past = after s (event.Decided p k false) in
    shows_same ps ps ms js is d b None s t h (processes_same ps s t h.of_processes (λ q w g. record { live = g.live; permanent = g.permanent; open_in = g.open_in; up = g.up; dropped = g.dropped }) h.of_processes.no_more)
    (decided_instances js is s p k false v h.of_instances x) (λ q. refl) (λ m. refl) h.in_order.dropped refl refl

-- each process is there
pub process_there : (ps : List Process) (s : Past) (q : ℕ) → ShowsProcesses ps s → q < 64 → (v : Process) × (slice_get ps q ≡ Some v)
process_there ps s q h l = item_there ps q (omega (arith, l, h.all))

-- a promoted process shows what is known then
promoted_shown : (v : Instance) (q : ℕ) (u : Process) (s t : Past) → ShowsProcess u s q → v.kind ≡ Checkpoint → t.live q ≡ s.live q → t.permanent q ≡ unwrap_or (new_shown (Some v) q) (s.permanent q)
    → ((y : ℕ) → t.open_in y ≡ s.open_in y) → t.up q ≡ s.up q → ((y : ℕ) → t.dropped_since y ≡ s.dropped_since y) → ShowsProcess (promoted v q u) t q
promoted_shown v q u s t g of_kind live permanent opened up since = go (has v.joined q) refl
  where
    go : (y : Bool) → has v.joined q ≡ y → ShowsProcess (promoted v q u) t q
    go true e =
        let is : promoted v q u ≡ record u { permanent = get_or v.positions q 0 } = ap (λ (z : Bool). if z then record u { permanent = get_or v.positions q 0 } else u) e in
        subst (λ (w : Process). ShowsProcess w t q) (sym is) (record {
          live = g.live ∙ sym live;
          permanent = sym (permanent ∙ ap (λ (o : Option ℕ). unwrap_or o (s.permanent q)) (new_member v q of_kind e));
          open_in = g.open_in ∙ sym (opened q);
          up = g.up ∙ sym up;
          dropped = λ x l. g.dropped x l ∙ ap (λ (z : List Deed). Some (last_of (received_in x z))) (sym (since q));
        })
    go false e =
        let is : promoted v q u ≡ u = ap (λ (z : Bool). if z then record u { permanent = get_or v.positions q 0 } else u) e in
        subst (λ (w : Process). ShowsProcess w t q) (sym is) (record {
          live = g.live ∙ sym live;
          permanent = g.permanent ∙ sym (permanent ∙ ap (λ (o : Option ℕ). unwrap_or o (s.permanent q)) (not_new v q e));
          open_in = g.open_in ∙ sym (opened q);
          up = g.up ∙ sym up;
          dropped = λ x l. g.dropped x l ∙ ap (λ (z : List Deed). Some (last_of (received_in x z))) (sym (since q));
        })

-- each process changed
each_changed : (ps qs : List Process) (s t : Past) (f : ℕ → Process → Process) → ShowsProcesses ps s → length qs ≡ 64
    → ((q : ℕ) (v : Process) → slice_get ps q ≡ Some v → slice_get qs q ≡ Some (f q v)) → ((q : ℕ) (v : Process) → ShowsProcess v s q → ShowsProcess (f q v) t q)
    → ((q : ℕ) → 64 ≤ q → t.live q ≡ []) → ShowsProcesses qs t
each_changed ps qs s t f h all changed shown none = record {
  each = λ q w e.
      let low = slice_get_within qs q w e in
      let there = process_there ps s q h (omega (arith, low, all)) in
      let same : f q there.0 ≡ w = some_same (sym (changed q there.0 there.1) ∙ e) in
      subst (λ (x : Process). ShowsProcess x t q) same (shown q there.0 (h.each q there.0 there.1));
  all = all;
  no_more = none;
}

pub shows_committed_checkpoint : (ps qs : List Process) (ms : List (Option Message)) (js is : List Instance) (d : List ℕ) (b : Option (ℕ × ℕ)) (s : Past) (p k : ℕ) (v : Instance)
    → Shows ps ms js d b s → IsDecided js is k true v → v.kind ≡ Checkpoint → length qs ≡ 64
    → ((q : ℕ) (u : Process) → slice_get ps q ≡ Some u → slice_get qs q ≡ Some (promoted v q u))
    → Shows qs (ms ++ None ∷ []) is d None (after s (event.Decided p k true))
shows_committed_checkpoint ps qs ms js is d b s p k v h x of_kind all changed =
    let t : Past = after s (event.Decided p k true) in
    let not_ready : (q : ℕ) → s.ready k q ≡ false = λ q. sym (h.of_instances.ready k q) ∙ (ap (λ (o : Option Instance). ready_shown o q) x.was ∙ ready_of_checkpoint v q of_kind) in
    let live : (q : ℕ) → t.live q ≡ s.live q = λ q. ap (λ (y : Bool). if y then take (s.permanent q) (s.live q) else s.live q) (not_ready q) in
    let new : (q : ℕ) → s.new k q ≡ new_shown (Some v) q = λ q. sym (h.of_instances.new k q) ∙ ap (λ (o : Option Instance). new_shown o q) x.was in
    shows_same ps qs ms js is d b None s t h (each_changed ps qs s t (promoted v) h.of_processes all changed
    (λ q u g. promoted_shown v q u s t g of_kind (live q) (ap (λ (o : Option ℕ). unwrap_or o (s.permanent q)) (new q)) (λ y. refl) refl (λ y. refl)) (λ q g. live q ∙ h.of_processes.no_more q g))
    (decided_instances js is s p k true v h.of_instances x) live (λ m. refl) h.in_order.dropped refl refl

-- a rolled back process shows what is known then
rolled_shown : (v : Instance) (q : ℕ) (u : Process) (s t : Past) → ShowsProcess u s q → v.kind ≡ Rollback
    → t.live q ≡ (if ready_shown (Some v) q then take (s.permanent q) (s.live q) else s.live q) → t.permanent q ≡ s.permanent q
    → ((y : ℕ) → t.open_in y ≡ s.open_in y) → t.up q ≡ s.up q → ((y : ℕ) → t.dropped_since y ≡ s.dropped_since y) → ShowsProcess (rolled v q u) t q
rolled_shown v q u s t g of_kind live permanent opened up since = go (has v.joined q) refl
  where
    go : (y : Bool) → has v.joined q ≡ y → ShowsProcess (rolled v q u) t q
    go true e =
        let is : rolled v q u ≡ record u { history = take u.permanent u.history } = ap (λ (z : Bool). if z then record u { history = take u.permanent u.history } else u) e in
        let cut : t.live q ≡ take (s.permanent q) (s.live q) = live ∙ ap (λ (z : Bool). if z then take (s.permanent q) (s.live q) else s.live q) (ready_member v q of_kind ∙ e) in
        subst (λ (w : Process). ShowsProcess w t q) (sym is) (record {
          live = (λ i. take (g.permanent i) (g.live i)) ∙ sym cut;
          permanent = g.permanent ∙ sym permanent;
          open_in = g.open_in ∙ sym (opened q);
          up = g.up ∙ sym up;
          dropped = λ x l. g.dropped x l ∙ ap (λ (z : List Deed). Some (last_of (received_in x z))) (sym (since q));
        })
    go false e =
        let is : rolled v q u ≡ u = ap (λ (z : Bool). if z then record u { history = take u.permanent u.history } else u) e in
        let kept : t.live q ≡ s.live q = live ∙ ap (λ (z : Bool). if z then take (s.permanent q) (s.live q) else s.live q) (ready_member v q of_kind ∙ e) in
        subst (λ (w : Process). ShowsProcess w t q) (sym is) (record {
          live = g.live ∙ sym kept;
          permanent = g.permanent ∙ sym permanent;
          open_in = g.open_in ∙ sym (opened q);
          up = g.up ∙ sym up;
          dropped = λ x l. g.dropped x l ∙ ap (λ (z : List Deed). Some (last_of (received_in x z))) (sym (since q));
        })

nothing_there : (i : ℕ) (d : Deed) → slice_get (let l : List Deed = [] in l) i ≡ Some d → ⊥
nothing_there i d e = cc

-- what was dropped is forgotten, or kept
pub closed_dropped : (was : Bool) (ls : List (Option ℕ)) (l : List Deed) (q : ℕ) → q < 64 → slice_get ls q ≡ Some (last_of (received_in q l))
    → slice_get (if was then replicate 64 None else ls) q ≡ Some (last_of (received_in q (if was then [] else l)))
closed_dropped true ls l q low e = slice_get-get_or (replicate 64 None) q None (omega (arith, low, length-replicate {A = Option ℕ} 64 None)) ∙ ap Some (get_or-replicate 64 q None None low)
closed_dropped false ls l q low e = e

take_nil : (n : ℕ) → take n (let l : List Deed = [] in l) ≡ []
take_nil zero = refl
take_nil (suc n) = refl

front_get : (b : Bool) (n : ℕ) (l : List Deed) (i : ℕ) (d : Deed) → slice_get (if b then take n l else l) i ≡ Some d → slice_get l i ≡ Some d
front_get true n l i d e = get_take n l i d e
front_get false n l i d e = e

-- a deed of a history that its front lacks stands past it
past_front : (b : Bool) (n : ℕ) (l : List Deed) (i : ℕ) (d : Deed) → slice_get l i ≡ Some d → has_deed d (if b then take n l else l) ≡ false → (b ≡ true) × (n ≤ i)
past_front false n l i d e h =
    let yes : has_deed d l ≡ true = has_at d l i e in
    absurd (cc)
past_front true n l i d e h = elim (cases_lt i n) [
  | inl low ↦
      let yes : has_deed d (take n l) ≡ true = has_at d (take n l) i (get_in_take n l i low ∙ e) in
      absurd (cc)
  | inr high ↦ (refl, high)
]

-- a process with a deed is one of the 64
pub below : (live : ℕ → List Deed) → ((q : ℕ) → 64 ≤ q → live q ≡ []) → (q i : ℕ) (d : Deed) → slice_get (live q) i ≡ Some d → q < 64
below live none q i d e = elim (cases_lt q 64) [
  | inl l ↦ l
  | inr g ↦
      let empty : slice_get (let l : List Deed = [] in l) i ≡ Some d = ap (λ (l : List Deed). slice_get l i) (sym (none q g)) ∙ e in
      absurd (nothing_there i d empty)
]

pub shows_committed_rollback : (ps qs : List Process) (ms : List (Option Message)) (js is : List Instance) (d c undone : List ℕ) (b : Option (ℕ × ℕ)) (s : Past) (p k : ℕ) (v : Instance)
    → Shows ps ms js d b s → IsDecided js is k true v → v.kind ≡ Rollback → length qs ≡ 64
    → ((q : ℕ) (u : Process) → slice_get ps q ≡ Some u → slice_get qs q ≡ Some (rolled v q u))
    → ((q i m to : ℕ) (u : Process) → slice_get ps q ≡ Some u → has v.joined q ≡ true → slice_get u.history i ≡ Some (deed.Sent m to) → u.permanent ≤ i → Contains undone m)
    → ((m : ℕ) → Contains d m → Contains c m)
    → ((q i m f : ℕ) (u : Process) → Contains undone m → receiving (message_at ms m) ≡ Some (q, f, Some i) → slice_get qs q ≡ Some u → slice_get u.history i ≡ Some (deed.Received m f) → Contains c m)
    → Shows qs (ms ++ None ∷ []) is c None (after s (event.Decided p k true))
shows_committed_rollback ps qs ms js is d c undone b s p k v h x of_kind all changed undid kept buried =
    let t : Past = after s (event.Decided p k true) in
    let ready : (q : ℕ) → s.ready k q ≡ ready_shown (Some v) q = λ q. sym (h.of_instances.ready k q) ∙ ap (λ (o : Option Instance). ready_shown o q) x.was in
    let not_new : (q : ℕ) → s.new k q ≡ None = λ q. sym (h.of_instances.new k q) ∙ (ap (λ (o : Option Instance). new_shown o q) x.was ∙ new_of_rollback v q of_kind) in
    let live : (q : ℕ) → t.live q ≡ (if ready_shown (Some v) q then take (s.permanent q) (s.live q) else s.live q) = λ q. ap (λ (y : Bool). if y then take (s.permanent q) (s.live q) else s.live q) (ready q) in
    let processes = each_changed ps qs s t (rolled v) h.of_processes all changed
    (λ q u g. rolled_shown v q u s t g of_kind (live q) (ap (λ (o : Option ℕ). unwrap_or o (s.permanent q)) (not_new q)) (λ y. refl) refl (λ y. refl))
    (λ q g. if_front (λ l. l ≡ []) (s.ready k q) (s.permanent q) (s.live q) (h.of_processes.no_more q g) (ap (take (s.permanent q)) (h.of_processes.no_more q g) ∙ take_nil (s.permanent q))) in
    record {
      of_processes = processes;
      of_messages = messages_quiet ms s t h.of_messages (λ q i y e. front_get (s.ready k q) (s.permanent q) (s.live q) i y e) (λ m. refl);
      of_instances = decided_instances js is s p k true v h.of_instances x;
      in_order = record {
        sent = λ q. if_front (λ l. NumbersRise (sent_in l)) (s.ready k q) (s.permanent q) (s.live q) (h.in_order.sent q) (sent_rises_take (s.permanent q) (s.live q) (h.in_order.sent q));
        received = λ q f. if_front (λ l. NumbersRise (received_in f l)) (s.ready k q) (s.permanent q) (s.live q) (h.in_order.received q f) (received_rises_take f (s.permanent q) (s.live q) (h.in_order.received q f));
        dropped = h.in_order.dropped;
      };
      dead_known = λ q i m f e n. dead_after processes q i m f e n (has_deed (deed.Sent m q) (s.live f)) refl;
      of_beginning = refl;
      rows = length-append ms (None ∷ []) ∙ ap (λ (n : ℕ). n + 1) h.rows;
    }
  where
    dead_after : ShowsProcesses qs (after s (event.Decided p k true)) → (q i m f : ℕ) → slice_get ((after s (event.Decided p k true)).live q) i ≡ Some (deed.Received m f) → has_deed (deed.Sent m q) ((after s (event.Decided p k true)).live f) ≡ false
        → (y : Bool) → has_deed (deed.Sent m q) (s.live f) ≡ y → Contains c m
    dead_after shown q i m f e n false was_dead = kept m (h.dead_known q i m f (front_get (s.ready k q) (s.permanent q) (s.live q) i (deed.Received m f) e) was_dead)
    dead_after shown q i m f e n true was_live =
        let there = place_of_deed (deed.Sent m q) (s.live f) was_live in
        let past_it = past_front (s.ready k f) (s.permanent f) (s.live f) there.0 (deed.Sent m q) there.1 n in
        let sender = process_there ps s f h.of_processes (below s.live h.of_processes.no_more f there.0 (deed.Sent m q) there.1) in
        let g = h.of_processes.each f sender.0 sender.1 in
        let joined : has v.joined f ≡ true = sym (ready_member v f of_kind) ∙ (sym (ap (λ (o : Option Instance). ready_shown o f) x.was) ∙ (h.of_instances.ready k f ∙ past_it.0)) in
        let sent : slice_get sender.0.history there.0 ≡ Some (deed.Sent m q) = ap (λ (l : List Deed). slice_get l there.0) g.live ∙ there.1 in
        let gone = undid f there.0 m q sender.0 sender.1 joined sent (subst (λ (n : ℕ). n ≤ there.0) (sym g.permanent) past_it.1) in
        let receiver = process_there qs (after s (event.Decided p k true)) q shown (below ((after s (event.Decided p k true)).live) shown.no_more q i (deed.Received m f) e) in
        let now = shown.each q receiver.0 receiver.1 in
        buried q i m f receiver.0 gone (h.of_messages.received q i m f (front_get (s.ready k q) (s.permanent q) (s.live q) i (deed.Received m f) e)) receiver.1 (ap (λ (l : List Deed). slice_get l i) now.live ∙ e)

pub shows_closed : (ps : List Process) (ms : List (Option Message)) (js : List Instance) (d : List ℕ) (b : Option (ℕ × ℕ)) (s : Past) (p k : ℕ) (v : Process) (was : Bool)
    → Shows ps ms js d b s → p < 64 → slice_get ps p ≡ Some v → was ≡ rolled_back_shown (at_number js k)
    → Shows (set ps p (record v { open_in = None; up = v.up || was; last_dropped = (if was then replicate 64 None else v.last_dropped) })) (ms ++ None ∷ []) js d None (after s (event.Closed p k))
shows_closed ps ms js d b s p k v was h low at is =
    let t : Past = after s (event.Closed p k) in
    let old = h.of_processes.each p v at in
    let back : was ≡ (is_rollback s k && is_committed s k) = is ∙ rolled_known js s k h.of_instances in
    let since : (q : ℕ) → t.dropped_since q ≡ at_one p (if was then [] else s.dropped_since p) s.dropped_since q = λ q. ap (λ (y : Bool). at_one p (if y then [] else s.dropped_since p) s.dropped_since q) (sym back) in
    let up : (q : ℕ) → t.up q ≡ at_one p (s.up p || was) s.up q = λ q. ap (λ (y : Bool). at_one p (s.up p || y) s.up q) (sym back) in
    let here : t.dropped_since p ≡ (if was then [] else s.dropped_since p) = since p ∙ at_same p (if was then [] else s.dropped_since p) s.dropped_since in
    shows_same ps _ ms js js d b None s t h (processes_set ps s t p _ h.of_processes low
    (record {
      live = old.live;
      permanent = old.permanent;
      open_in = sym (at_same p None s.open_in);
      up = ap (λ (y : Bool). y || was) old.up ∙ sym (up p ∙ at_same p (s.up p || was) s.up);
      dropped = λ q l. closed_dropped was v.last_dropped (s.dropped_since p) q l (old.dropped q l) ∙ ap (λ (z : List Deed). Some (last_of (received_in q z))) (sym here);
    })
    (λ q y n g. record {
      live = g.live;
      permanent = g.permanent;
      open_in = g.open_in ∙ sym (at_other p q None s.open_in n);
      up = g.up ∙ sym (up q ∙ at_other p q (s.up p || was) s.up n);
      dropped = λ x l. g.dropped x l ∙ ap (λ (z : List Deed). Some (last_of (received_in x z))) (sym (since q ∙ at_other p q (if was then [] else s.dropped_since p) s.dropped_since n));
    }) h.of_processes.no_more)
    (same_instances js s t h.of_instances refl refl refl refl) (λ q. refl) (λ m. refl)
    (λ q f. subst (λ (l : List Deed). NumbersRise (received_in f l)) (sym (since q)) (closed_rises was p s.dropped_since q f h.in_order.dropped)) refl refl

-- a decision, by what the call that makes it knows
pub decides_abort : (ps : List Process) (ms : List (Option Message)) (js is : List Instance) (d : List ℕ) (b : Option (ℕ × ℕ)) (s : Past) (p k : ℕ) (commit : Bool)
    → Shows ps ms js d b s → IsAllowed s (event.Decided p k commit) → commit ≡ false → ((v : Instance) → at_number js k ≡ Some v → IsDecided js is k commit v)
    → Shows ps (ms ++ None ∷ []) is d None (after s (event.Decided p k commit))
decides_abort ps ms js is d b s p k true h allowed no_commit decided = absurd (cc)
decides_abort ps ms js is d b s p k false h allowed no_commit decided =
    let there = decided_there ps ms js d b s p k false h allowed in
    shows_aborted ps ms js is d b s p k there.0 h (decided there.0 there.1)

pub decides_checkpoint : (ps qs : List Process) (ms : List (Option Message)) (js is : List Instance) (d : List ℕ) (b : Option (ℕ × ℕ)) (s : Past) (p k : ℕ) (commit : Bool) (w : Instance)
    → Shows ps ms js d b s → IsAllowed s (event.Decided p k commit) → commit ≡ true → ((v : Instance) → at_number js k ≡ Some v → IsDecided js is k commit v)
    → ((v : Instance) → at_number js k ≡ Some v → Some w ≡ Some (record v { decision = Some commit })) → w.kind ≡ Checkpoint → length qs ≡ 64
    → ((q : ℕ) (u : Process) → slice_get ps q ≡ Some u → slice_get qs q ≡ Some (promoted w q u))
    → Shows qs (ms ++ None ∷ []) is d None (after s (event.Decided p k commit))
decides_checkpoint ps qs ms js is d b s p k false w h allowed yes_commit decided same of_kind all changed = absurd (cc)
decides_checkpoint ps qs ms js is d b s p k true w h allowed yes_commit decided same of_kind all changed =
    let there = decided_there ps ms js d b s p k true h allowed in
    let v : Instance = there.0 in
    let e : w ≡ record v { decision = Some true } = some_same (same v there.1) in
    shows_committed_checkpoint ps qs ms js is d b s p k v h (decided v there.1) (ap (λ (x : Instance). x.kind) (sym e) ∙ of_kind) all
    (λ q u a. changed q u a ∙ ap (λ (x : Instance). Some (promoted x q u)) e)

pub decides_rollback : (ps qs : List Process) (ms : List (Option Message)) (js is : List Instance) (d c undone : List ℕ) (b : Option (ℕ × ℕ)) (s : Past) (p k : ℕ) (commit : Bool) (w : Instance)
    → Shows ps ms js d b s → IsAllowed s (event.Decided p k commit) → commit ≡ true → ((v : Instance) → at_number js k ≡ Some v → IsDecided js is k commit v)
    → ((v : Instance) → at_number js k ≡ Some v → Some w ≡ Some (record v { decision = Some commit })) → w.kind ≡ Rollback → length qs ≡ 64
    → ((q : ℕ) (u : Process) → slice_get ps q ≡ Some u → slice_get qs q ≡ Some (rolled w q u))
    → ((q i m to : ℕ) (u : Process) → slice_get ps q ≡ Some u → has w.joined q ≡ true → slice_get u.history i ≡ Some (deed.Sent m to) → u.permanent ≤ i → Contains undone m)
    → ((m : ℕ) → Contains d m → Contains c m)
    → ((q i m f : ℕ) (u : Process) → Contains undone m → receiving (message_at ms m) ≡ Some (q, f, Some i) → slice_get qs q ≡ Some u → slice_get u.history i ≡ Some (deed.Received m f) → Contains c m)
    → Shows qs (ms ++ None ∷ []) is c None (after s (event.Decided p k commit))
decides_rollback ps qs ms js is d c undone b s p k false w h allowed yes_commit decided same of_kind all changed undid kept buried = absurd (cc)
decides_rollback ps qs ms js is d c undone b s p k true w h allowed yes_commit decided same of_kind all changed undid kept buried =
    let there = decided_there ps ms js d b s p k true h allowed in
    let v : Instance = there.0 in
    let e : w ≡ record v { decision = Some true } = some_same (same v there.1) in
    shows_committed_rollback ps qs ms js is d c undone b s p k v h (decided v there.1) (ap (λ (x : Instance). x.kind) (sym e) ∙ of_kind) all
    (λ q u a. changed q u a ∙ ap (λ (x : Instance). Some (rolled x q u)) e)
    (λ q i m to u a j sent low. undid q i m to u a (ap (λ (x : Instance). has x.joined q) e ∙ j) sent low) kept buried
