-- Sends, receives and drops: tables go on showing what is known.
use Rattle.std.proofs.Common.{◌≡◌, ◌≢◌, ℕ, ◌+◌, ◌<◌, not, ◌⊎◌, Bool, true, false, Option, Some, None, List, [], ◌∷◌, ◌++◌, length, set, refl, sym, ap, ◌∙◌, subst, arith, inl, inr, length-append}
use Rattle.std.specs.List.{slice_get, list_all}
use Rattle.std.proofs.lemmas.Bool.{cases_eq, and_parts}
use Rattle.std.proofs.lemmas.List.{append-nil}
use Rattle.std.proofs.lemmas.Option.{slice_get_within}
use Rattle.kt_spacetime.specs.declared.event.Event.TheVariants as event
use Rattle.kt_spacetime.specs.declared.deeds.Deed.{Deed}
use Rattle.kt_spacetime.specs.declared.deeds.Deed.TheVariants as deed
use Rattle.kt_histories.specs.declared.process.Process.{Process}
use Rattle.kt_histories.specs.declared.tables.Message.{Message}
use Rattle.kt_rules.specs.declared.instances.Instance.{Instance}
use Rattle.kt_meaning.specs.Past.{Past, after, at_one}
use Rattle.kt_meaning.specs.Legal.{has_deed, is_later, is_undelivered}
use Rattle.kt_rules.specs.Lists.{NumbersRise, last_of, sent_in, received_in}
use Rattle.kt_histories.specs.Tables.{with_received, with_dropped}
use Rattle.kt_rules.specs.Standing.{IsAllowed}
use Rattle.kt_histories.specs.Standing.{Shows, ShowsMessages, message_at, sending, receiving, is_dropped}
use Rattle.kt_meaning.proofs.Items.{get_push, get_set_same, get_set_other, some_same}
use Rattle.kt_rules.proofs.SortedFacts.{sent_more, received_at, received_else, received_unsent}
use Rattle.kt_meaning.proofs.DeedFacts.{place_of_deed}
use Rattle.kt_rules.proofs.DeedFacts.{has_at, has_front, received_source, rises_push, later_than, last_push}
use Rattle.kt_meaning.proofs.LegalLogs.{kept}
use Rattle.kt_meaning.proofs.Shown.{at_same, at_other}
use Rattle.kt_histories.proofs.Shown.{processes_set, old_message, new_message, no_message, quiet_message, kept_sending, kept_receiving, sent_before}
use Rattle.kt_rules.proofs.Steps.{each_history}

-- the deeds of a history with one more
more_or_same : (p q i : ℕ) (l : List Deed) (f : ℕ → List Deed) (d x : Deed) → l ≡ f p → slice_get (at_one p (l ++ x ∷ []) f q) i ≡ Some d
    → (slice_get (f q) i ≡ Some d) ⊎ ((q ≡ p) × (i ≡ length l) × (d ≡ x))
more_or_same p q i l f d x e h = elim (cases_eq q p) [
  | inl same ↦
      let at : slice_get (l ++ x ∷ []) i ≡ Some d = ap (λ (t : List Deed). slice_get t i) (sym (at_same p (l ++ x ∷ []) f)) ∙ subst (λ (y : ℕ). slice_get (at_one p (l ++ x ∷ []) f y) i ≡ Some d) same h in
      elim (get_push l x i d at) [
        | inl old ↦ inl (ap (λ (t : List Deed). slice_get t i) (ap f same ∙ sym e) ∙ old)
        | inr new ↦ inr (same, new.0, new.1)
      ]
  | inr n ↦ inl (ap (λ (t : List Deed). slice_get t i) (sym (at_other p q (l ++ x ∷ []) f n)) ∙ h)
]

front_kept : (p q : ℕ) (f : ℕ → List Deed) (d x : Deed) → has_deed d (at_one p (f p ++ x ∷ []) f q) ≡ false → has_deed d (f q) ≡ false
front_kept p q f d x h = elim (cases_eq q p) [
  | inl same ↦
      let at : has_deed d (f p ++ x ∷ []) ≡ false = ap (has_deed d) (sym (at_same p (f p ++ x ∷ []) f)) ∙ subst (λ (y : ℕ). has_deed d (at_one p (f p ++ x ∷ []) f y) ≡ false) same h in
      ap (λ (y : ℕ). has_deed d (f y)) same ∙ has_front d (f p) (x ∷ []) at
  | inr n ↦ ap (has_deed d) (sym (at_other p q (f p ++ x ∷ []) f n)) ∙ h
]

pub triple : {X : Type 0} (t u : ℕ × ℕ × X) → t.0 ≡ u.0 → t.1 ≡ u.1 → t.2 ≡ u.2 → Some t ≡ Some u
triple t u e f g = λ i. Some (e i, f i, g i)

pub first_of : {X : Type 0} (x y : ℕ × ℕ × X) → Some x ≡ Some y → x.0 ≡ y.0
first_of x y e = ap (λ (t : _). t.0) (some_same e)

pub second_of : {X : Type 0} (x y : ℕ × ℕ × X) → Some x ≡ Some y → x.1 ≡ y.1
second_of x y e = ap (λ (t : _). t.1) (some_same e)

number_of_send : (m to n q : ℕ) → deed.Sent m to ≡ deed.Sent n q → m ≡ n
number_of_send m to n q e = cc

peer_of_send : (m to n q : ℕ) → deed.Sent m to ≡ deed.Sent n q → to ≡ q
peer_of_send m to n q e = cc

-- a send
pub shows_sent : (ps : List Process) (ms : List (Option Message)) (js : List Instance) (d : List ℕ) (b : Option (ℕ × ℕ)) (s : Past) (p to : ℕ) (body : _) (v : Process) (m : ℕ)
    → Shows ps ms js d b s → p < 64 → slice_get ps p ≡ Some v → m ≡ length ms + 1
    → Shows (set ps p (record v { history = v.history ++ deed.Sent m to ∷ [] })) (ms ++ Some (record { from = p; to = to; sent = length v.history; received = None; dropped = false }) ∷ []) js d None (after s (event.Sent p to body))
shows_sent ps ms js d b s p to body v m h low at number =
    let old = h.of_processes.each p v at in
    let row : m ≡ s.rows + 1 = omega (arith, number, h.rows) in
    let t : Past = after s (event.Sent p to body) in
    let new : Deed = deed.Sent m to in
    let live : (q : ℕ) → t.live q ≡ at_one p (s.live p ++ new ∷ []) s.live q = λ q. ap (λ (n : ℕ). at_one p (s.live p ++ deed.Sent n to ∷ []) s.live q) (sym row) in
    record {
      of_processes = processes_set ps s t p (record v { history = v.history ++ new ∷ [] }) h.of_processes low (record {
        live = ap (λ (l : List Deed). l ++ new ∷ []) old.live ∙ sym (live p ∙ at_same p (s.live p ++ new ∷ []) s.live);
        permanent = old.permanent;
        open_in = old.open_in;
        up = old.up;
        dropped = old.dropped;
      }) (λ q w n g. record {
        live = g.live ∙ sym (live q ∙ at_other p q (s.live p ++ new ∷ []) s.live n);
        permanent = g.permanent;
        open_in = g.open_in;
        up = g.up;
        dropped = g.dropped;
      }) (λ q g. live q ∙ (at_other p q (s.live p ++ new ∷ []) s.live (λ e. absurd (omega (arith, g, low, e))) ∙ h.of_processes.no_more q g));
      of_messages = record {
        sent = λ q i m' t' e. elim (more_or_same p q i (s.live p) s.live (deed.Sent m' t') new refl (ap (λ (l : List Deed). slice_get l i) (sym (live q)) ∙ e)) [
          | inl o ↦ kept_sending ms _ m' _ (h.of_messages.sent q i m' t' o)
          | inr n ↦
              let number' : m' ≡ length ms + 1 = number_of_send m' t' m to n.2 ∙ number in
              let there : ℕ × ℕ × ℕ = (p, to, length v.history) in
              let here : ℕ × ℕ × ℕ = (q, t', i) in
              ap sending (new_message ms _ m' number') ∙ triple there here (sym n.0) (sym (peer_of_send m' t' m to n.2)) (ap length old.live ∙ sym n.1)
        ];
        received = λ q i m' f e. elim (more_or_same p q i (s.live p) s.live (deed.Received m' f) new refl (ap (λ (l : List Deed). slice_get l i) (sym (live q)) ∙ e)) [
          | inl o ↦ kept_receiving ms _ m' _ (h.of_messages.received q i m' f o)
          | inr n ↦ absurd (cc (n.2))
        ];
        dropped = λ m'. elim (cases_eq m' (length ms + 1)) [
          | inl e ↦
              ap is_dropped (new_message ms _ m' e) ∙ (sym (ap is_dropped (no_message ms m' (omega (arith, e)))) ∙ h.of_messages.dropped m')
          | inr n ↦ ap is_dropped (old_message ms _ m' n) ∙ h.of_messages.dropped m'
        ];
      };
      of_instances = record {
        begun = h.of_instances.begun;
        decision = h.of_instances.decision;
        new = h.of_instances.new;
        ready = h.of_instances.ready;
        positions = h.of_instances.positions;
      };
      in_order = record {
        sent = λ q. subst (λ (l : List Deed). NumbersRise (sent_in l)) (sym (live q)) (each_history (λ l. NumbersRise (sent_in l)) p q (s.live p ++ new ∷ []) s.live
            (subst NumbersRise (sym (sent_more (s.live p) (new ∷ []))) (rises_push (sent_in (s.live p)) m (h.in_order.sent p) (λ k x e. omega (arith, number, sent_before ms s p k x h.of_messages e)))) h.in_order.sent);
        received = λ q f. subst (λ (l : List Deed). NumbersRise (received_in f l)) (sym (live q)) (each_history (λ l. NumbersRise (received_in f l)) p q (s.live p ++ new ∷ []) s.live
            (subst NumbersRise (sym (received_unsent (s.live p) m to f)) (h.in_order.received p f)) (λ r. h.in_order.received r f));
        dropped = h.in_order.dropped;
      };
      dead_known = λ q i m' f e n. elim (more_or_same p q i (s.live p) s.live (deed.Received m' f) new refl (ap (λ (l : List Deed). slice_get l i) (sym (live q)) ∙ e)) [
        | inl o ↦ h.dead_known q i m' f o (front_kept p f s.live (deed.Sent m' q) new (ap (has_deed (deed.Sent m' q)) (sym (live f)) ∙ n))
        | inr x ↦ absurd (cc (x.2))
      ];
      of_beginning = refl;
      rows = omega (arith, h.rows, length-append ms (Some (record { from = p; to = to; sent = length v.history; received = None; dropped = false }) ∷ []));
    }

message_sending : (o : Option Message) (f p i : ℕ) → sending o ≡ Some (f, p, i) → (w : Message) × (o ≡ Some w) × (w.from ≡ f) × (w.to ≡ p)
message_sending None f p i e = absurd (cc)
message_sending (Some w) f p i e = (w, refl, first_of _ _ e, second_of _ _ e)

not_true : (b : Bool) → not b ≡ true → b ≡ false
not_true true e = absurd (cc)
not_true false e = refl

-- the deeds and the message of a message that is undelivered
undelivered : (ms : List (Option Message)) (s : Past) (p f m : ℕ) → ShowsMessages ms s → is_undelivered s p f m ≡ true
    → (w : Message) × (message_at ms m ≡ Some w) × (w.from ≡ f) × (w.to ≡ p) × (has_deed (deed.Sent m p) (s.live f) ≡ true) × (has_deed (deed.Received m f) (s.live p) ≡ false)
undelivered ms s p f m h u =
    let parts = and_parts _ _ u in
    let inner = and_parts _ _ parts.0 in
    let there = place_of_deed (deed.Sent m p) (s.live f) inner.0 in
    let known = message_sending (message_at ms m) f p there.0 (h.sent f there.0 m p there.1) in
    (known.0, known.1, known.2, known.3, inner.0, not_true (has_deed (deed.Received m f) (s.live p)) inner.1)

-- the messages with one that is changed and the next row, which sends none
changed : (ms os : List (Option Message)) (m k : ℕ) → ((j : ℕ) → j ≢ m → message_at os j ≡ message_at ms j) → k ≢ m → message_at (os ++ None ∷ []) k ≡ message_at ms k
changed ms os m k others n = quiet_message os k ∙ others k n

number_of_receive : (m to n q : ℕ) → deed.Received m to ≡ deed.Received n q → m ≡ n
number_of_receive m to n q e = cc

peer_of_receive : (m to n q : ℕ) → deed.Received m to ≡ deed.Received n q → to ≡ q
peer_of_receive m to n q e = cc

each_history_sent : (p : ℕ) (f : ℕ → List Deed) (m g : ℕ) → ((r : ℕ) → NumbersRise (sent_in (f r))) → (q : ℕ) → NumbersRise (sent_in (at_one p (f p ++ deed.Received m g ∷ []) f q))
each_history_sent p f m g all q =
    each_history (λ l. NumbersRise (sent_in l)) p q (f p ++ deed.Received m g ∷ []) f (subst NumbersRise (sym (sent_more (f p) (deed.Received m g ∷ []) ∙ append-nil (sent_in (f p)))) (all p)) all

-- a receive
pub shows_received : (ps : List Process) (ms os : List (Option Message)) (js : List Instance) (d : List ℕ) (b : Option (ℕ × ℕ)) (s : Past) (p f m : ℕ) (v : Process)
    → Shows ps ms js d b s → IsAllowed s (event.Received p f m) → p < 64 → slice_get ps p ≡ Some v
    → message_at os m ≡ with_received (length v.history) (message_at ms m) → ((j : ℕ) → j ≢ m → message_at os j ≡ message_at ms j) → length os ≡ length ms
    → Shows (set ps p (record v { history = v.history ++ deed.Received m f ∷ [] })) (os ++ None ∷ []) js d None (after s (event.Received p f m))
shows_received ps ms os js d b s p f m v h allowed low at marked others same =
    let old = h.of_processes.each p v at in
    let t : Past = after s (event.Received p f m) in
    let new : Deed = deed.Received m f in
    let live : (q : ℕ) → t.live q ≡ at_one p (s.live p ++ new ∷ []) s.live q = λ q. refl in
    let rules = kept s (event.Received p f m) allowed.unbroken in
    let known = undelivered ms s p f m h.of_messages rules.message in
    let order = and_parts (list_all (is_later f m) (s.live p)) _ rules.order in
    let now : message_at (os ++ None ∷ []) m ≡ Some (record (known.0) { received = Some (length v.history) }) =
    quiet_message os m ∙ (marked ∙ ap (with_received (length v.history)) known.1) in
    record {
      of_processes = processes_set ps s t p (record v { history = v.history ++ new ∷ [] }) h.of_processes low (record {
        live = ap (λ (l : List Deed). l ++ new ∷ []) old.live ∙ sym (live p ∙ at_same p (s.live p ++ new ∷ []) s.live);
        permanent = old.permanent;
        open_in = old.open_in;
        up = old.up;
        dropped = old.dropped;
      }) (λ q w n g. record {
        live = g.live ∙ sym (live q ∙ at_other p q (s.live p ++ new ∷ []) s.live n);
        permanent = g.permanent;
        open_in = g.open_in;
        up = g.up;
        dropped = g.dropped;
      }) (λ q g. live q ∙ (at_other p q (s.live p ++ new ∷ []) s.live (λ e. absurd (omega (arith, g, low, e))) ∙ h.of_processes.no_more q g));
      of_messages = record {
        sent = λ q i m' t' e. elim (more_or_same p q i (s.live p) s.live (deed.Sent m' t') new refl e) [
          | inl o ↦ elim (cases_eq m' m) [
            | inl is ↦
                let was : sending (message_at ms m) ≡ Some (q, t', i) = subst (λ (x : ℕ). sending (message_at ms x) ≡ Some (q, t', i)) is (h.of_messages.sent q i m' t' o) in
                subst (λ (x : ℕ). sending (message_at (os ++ None ∷ []) x) ≡ Some (q, t', i)) (sym is) (ap sending now ∙ (ap sending (sym known.1) ∙ was))
            | inr n ↦ ap sending (changed ms os m m' others n) ∙ h.of_messages.sent q i m' t' o
          ]
          | inr n ↦ absurd (cc (n.2))
        ];
        received = λ q i m' f' e. elim (more_or_same p q i (s.live p) s.live (deed.Received m' f') new refl e) [
          | inl o ↦ elim (cases_eq m' m) [
            | inl is ↦
                let was : receiving (message_at ms m) ≡ Some (q, f', Some i) = subst (λ (x : ℕ). receiving (message_at ms x) ≡ Some (q, f', Some i)) is (h.of_messages.received q i m' f' o) in
                let held : Some (known.0.to, known.0.from, known.0.received) ≡ Some (q, f', Some i) = ap receiving (sym known.1) ∙ was in
                let at_p : q ≡ p = sym (first_of _ _ held) ∙ known.3 in
                let from_f : f' ≡ f = sym (second_of _ _ held) ∙ known.2 in
                let there : slice_get (s.live p) i ≡ Some (deed.Received m f) = ap (λ (x : ℕ). slice_get (s.live x) i) (sym at_p) ∙ (o ∙ (λ j. Some (deed.Received (is j) (from_f j)))) in
                let has : has_deed (deed.Received m f) (s.live p) ≡ true = has_at (deed.Received m f) (s.live p) i there in
                let has_not : has_deed (deed.Received m f) (s.live p) ≡ false = known.5 in
                absurd (cc)
            | inr n ↦ ap receiving (changed ms os m m' others n) ∙ h.of_messages.received q i m' f' o
          ]
          | inr n ↦
              let is : m' ≡ m = number_of_receive m' f' m f n.2 in
              let there : ℕ × ℕ × Option ℕ = (known.0.to, known.0.from, Some (length v.history)) in
              let here : ℕ × ℕ × Option ℕ = (q, f', Some i) in
              subst (λ (x : ℕ). receiving (message_at (os ++ None ∷ []) x) ≡ Some (q, f', Some i)) (sym is) (ap receiving now
              ∙ triple there here (known.3 ∙ sym n.0) (known.2 ∙ sym (peer_of_receive m' f' m f n.2)) (ap Some (ap length old.live ∙ sym n.1)))
        ];
        dropped = λ m'. elim (cases_eq m' m) [
          | inl is ↦
              ap (λ (x : ℕ). is_dropped (message_at (os ++ None ∷ []) x)) is ∙ (ap is_dropped now ∙ (ap is_dropped (sym known.1) ∙ (h.of_messages.dropped m ∙ ap s.dropped (sym is))))
          | inr n ↦ ap is_dropped (changed ms os m m' others n) ∙ h.of_messages.dropped m'
        ];
      };
      of_instances = record {
        begun = h.of_instances.begun;
        decision = h.of_instances.decision;
        new = h.of_instances.new;
        ready = h.of_instances.ready;
        positions = h.of_instances.positions;
      };
      in_order = record {
        sent = each_history_sent p s.live m f h.in_order.sent;
        received = λ q g. elim (cases_eq g f) [
          | inl is ↦
              each_history (λ l. NumbersRise (received_in g l)) p q (s.live p ++ new ∷ []) s.live
              (subst (λ (x : ℕ). NumbersRise (received_in x (s.live p ++ new ∷ []))) (sym is) (subst NumbersRise (sym (received_at (s.live p) m f)) (rises_push (received_in f (s.live p)) m (h.in_order.received p f) (λ k x e.
              let there = received_source f (s.live p) k x e in
              later_than f m (s.live p) order.0 there.0 x there.1)))) (λ r. h.in_order.received r g)
          | inr n ↦
              each_history (λ l. NumbersRise (received_in g l)) p q (s.live p ++ new ∷ []) s.live (subst NumbersRise (sym (received_else (s.live p) m f g n)) (h.in_order.received p g)) (λ r. h.in_order.received r g)
        ];
        dropped = h.in_order.dropped;
      };
      dead_known = λ q i m' g e n. elim (more_or_same p q i (s.live p) s.live (deed.Received m' g) new refl e) [
        | inl o ↦ h.dead_known q i m' g o (front_kept p g s.live (deed.Sent m' q) new n)
        | inr x ↦
            let is : m ≡ m' = sym (number_of_receive m' g m f x.2) in
            let from : f ≡ g = sym (peer_of_receive m' g m f x.2) in
            let at_q : p ≡ q = sym x.0 in
            let no : has_deed (deed.Sent m p) (s.live f) ≡ false = (λ j. has_deed (deed.Sent (is j) (at_q j)) (s.live (from j))) ∙ front_kept p g s.live (deed.Sent m' q) new n in
            let yes : has_deed (deed.Sent m p) (s.live f) ≡ true = known.4 in
            absurd (cc)
      ];
      of_beginning = refl;
      rows = omega (arith, h.rows, same, length-append os (None ∷ []));
    }

-- a drop
pub shows_dropped : (ps : List Process) (ms os : List (Option Message)) (js : List Instance) (d : List ℕ) (b : Option (ℕ × ℕ)) (s : Past) (p f m : ℕ) (v : Process)
    → Shows ps ms js d b s → IsAllowed s (event.Dropped p f m) → p < 64 → f < 64 → slice_get ps p ≡ Some v
    → message_at os m ≡ with_dropped (message_at ms m) → ((j : ℕ) → j ≢ m → message_at os j ≡ message_at ms j) → length os ≡ length ms
    → Shows (set ps p (record v { last_dropped = set v.last_dropped f (Some m) })) (os ++ None ∷ []) js d None (after s (event.Dropped p f m))
shows_dropped ps ms os js d b s p f m v h allowed low low_f at marked others same =
    let old = h.of_processes.each p v at in
    let t : Past = after s (event.Dropped p f m) in
    let new : Deed = deed.Received m f in
    let rules = kept s (event.Dropped p f m) allowed.unbroken in
    let known = undelivered ms s p f m h.of_messages rules.message in
    let order = and_parts (list_all (is_later f m) (s.live p)) _ rules.order in
    let now : message_at (os ++ None ∷ []) m ≡ Some (record (known.0) { dropped = true }) = quiet_message os m ∙ (marked ∙ ap with_dropped known.1) in
    record {
      of_processes = processes_set ps s t p (record v { last_dropped = set v.last_dropped f (Some m) }) h.of_processes low (record {
        live = old.live;
        permanent = old.permanent;
        open_in = old.open_in;
        up = old.up;
        dropped = λ q l. elim (cases_eq q f) [
          | inl is ↦
              let here : received_in q (s.dropped_since p ++ new ∷ []) ≡ received_in f (s.dropped_since p) ++ m ∷ [] = ap (λ (x : ℕ). received_in x (s.dropped_since p ++ new ∷ [])) is ∙ received_at (s.dropped_since p) m f in
              let whole : received_in q (t.dropped_since p) ≡ received_in f (s.dropped_since p) ++ m ∷ [] = ap (received_in q) (at_same p (s.dropped_since p ++ new ∷ []) s.dropped_since) ∙ here in
              ap (slice_get (set v.last_dropped f (Some m))) is ∙ (get_set_same v.last_dropped f (Some m) (slice_get_within v.last_dropped f _ (old.dropped f low_f))
              ∙ ap Some (sym (last_push (received_in f (s.dropped_since p)) m) ∙ ap last_of (sym whole)))
          | inr n ↦
              let whole : received_in q (t.dropped_since p) ≡ received_in q (s.dropped_since p) = ap (received_in q) (at_same p (s.dropped_since p ++ new ∷ []) s.dropped_since) ∙ received_else (s.dropped_since p) m f q n in
              get_set_other v.last_dropped f q (Some m) n ∙ (old.dropped q l ∙ ap (λ (x : List ℕ). Some (last_of x)) (sym whole))
        ];
      }) (λ q w n g. record {
        live = g.live;
        permanent = g.permanent;
        open_in = g.open_in;
        up = g.up;
        dropped = λ x l. g.dropped x l ∙ ap (λ (t : List Deed). Some (last_of (received_in x t))) (sym (at_other p q (s.dropped_since p ++ new ∷ []) s.dropped_since n));
      }) h.of_processes.no_more;
      of_messages = record {
        sent = λ q i m' t' o. elim (cases_eq m' m) [
          | inl is ↦
              let was : sending (message_at ms m) ≡ Some (q, t', i) = subst (λ (x : ℕ). sending (message_at ms x) ≡ Some (q, t', i)) is (h.of_messages.sent q i m' t' o) in
              subst (λ (x : ℕ). sending (message_at (os ++ None ∷ []) x) ≡ Some (q, t', i)) (sym is) (ap sending now ∙ (ap sending (sym known.1) ∙ was))
          | inr n ↦ ap sending (changed ms os m m' others n) ∙ h.of_messages.sent q i m' t' o
        ];
        received = λ q i m' f' o. elim (cases_eq m' m) [
          | inl is ↦
              let was : receiving (message_at ms m) ≡ Some (q, f', Some i) = subst (λ (x : ℕ). receiving (message_at ms x) ≡ Some (q, f', Some i)) is (h.of_messages.received q i m' f' o) in
              subst (λ (x : ℕ). receiving (message_at (os ++ None ∷ []) x) ≡ Some (q, f', Some i)) (sym is) (ap receiving now ∙ (ap receiving (sym known.1) ∙ was))
          | inr n ↦ ap receiving (changed ms os m m' others n) ∙ h.of_messages.received q i m' f' o
        ];
        dropped = λ m'. elim (cases_eq m' m) [
          | inl is ↦
              ap (λ (x : ℕ). is_dropped (message_at (os ++ None ∷ []) x)) is ∙ (ap is_dropped now ∙ (sym (at_same m true s.dropped) ∙ ap (at_one m true s.dropped) (sym is)))
          | inr n ↦ ap is_dropped (changed ms os m m' others n) ∙ (h.of_messages.dropped m' ∙ sym (at_other m m' true s.dropped n))
        ];
      };
      of_instances = record {
        begun = h.of_instances.begun;
        decision = h.of_instances.decision;
        new = h.of_instances.new;
        ready = h.of_instances.ready;
        positions = h.of_instances.positions;
      };
      in_order = record {
        sent = h.in_order.sent;
        received = h.in_order.received;
        dropped = λ q g. elim (cases_eq g f) [
          | inl is ↦
              each_history (λ l. NumbersRise (received_in g l)) p q (s.dropped_since p ++ new ∷ []) s.dropped_since
              (subst (λ (x : ℕ). NumbersRise (received_in x (s.dropped_since p ++ new ∷ []))) (sym is) (subst NumbersRise (sym (received_at (s.dropped_since p) m f)) (rises_push (received_in f (s.dropped_since p)) m (h.in_order.dropped p f) (λ k x e.
              let there = received_source f (s.dropped_since p) k x e in
              later_than f m (s.dropped_since p) order.1 there.0 x there.1)))) (λ r. h.in_order.dropped r g)
          | inr n ↦
              each_history (λ l. NumbersRise (received_in g l)) p q (s.dropped_since p ++ new ∷ []) s.dropped_since (subst NumbersRise (sym (received_else (s.dropped_since p) m f g n)) (h.in_order.dropped p g)) (λ r. h.in_order.dropped r g)
        ];
      };
      dead_known = h.dead_known;
      of_beginning = refl;
      rows = omega (arith, h.rows, same, length-append os (None ∷ []));
    }
