-- Consistent cuts, and that the permanent and the present cut stay consistent along a log.
use Rattle.std.proofs.Common.{◌≡◌, ℕ, zero, suc, ◌+◌, ◌≤◌, ◌<◌, Bool, true, false, Option, Some, None, List, [], ◌∷◌, ◌++◌, length, take, refl, arith, sym, ap, subst, ◌∙◌, inl, inr}
use Rattle.std.specs.Prelude.{slice_get, filter, cond, not, ◌⊎◌, if◌then◌else◌}
use Rattle.std.proofs.lemmas.List.{take-append-le, take_at, take-take}
use Rattle.std.proofs.lemmas.Option.{slice_get_within, get_or_from_slice_get}
use Rattle.kt_base.specs.declared.words.Kind.{Kind}
use Rattle.kt_base.specs.declared.words.Kind.TheVariants.{Checkpoint, Rollback}
use Rattle.kt_spacetime.specs.declared.event.Event.{Event}
use Rattle.kt_spacetime.specs.declared.event.Event.TheVariants.{Sent, Received, Dropped, Began, Took, Ready, Unwilling, Decided, Closed, Failed, Refused}
use Rattle.kt_spacetime.specs.declared.deeds.Deed.{Deed}
use Rattle.kt_spacetime.specs.declared.deeds.Deed.TheVariants as deed
use Rattle.kt_meaning.specs.Past.{Past, Beginning, start, after, past, at_one, beginning_of, initiator_of, is_checkpoint, is_rollback}
use Rattle.kt_meaning.specs.Legal.{IsLegal, broken_rule, has_deed}
use Rattle.kt_meaning.specs.Cuts.{part, is_unsent, unsent_receives, IsOrphan, IsConsistent, permanent_cut, present_cut, checkpoint_cut, rollback_cut}
use Rattle.kt_meaning.specs.Throughout.{LeavesConsistent, HasConsistentDecisions}
use Rattle.kt_meaning.proofs.LegalLogs.{past_push, legal_log_induction}
use Rattle.kt_meaning.proofs.RowRules.{may_receive, may_decide}
use Rattle.kt_meaning.proofs.Updates.{at_one_all}
use Rattle.kt_meaning.proofs.Lists.{get_kept, get_last, get_take, get_in_take, deed_place, has_from_place, filtered_out}
use Rattle.kt_meaning.proofs.Positions.{Positions, positions, one_kind}
use Rattle.kt_meaning.proofs.Places.{Comes, old, sent, received, comes}
use Rattle.kt_meaning.proofs.Leastness.{received_sent}

-- a filter keeps nothing where no element passes, and keeps each that passes
filter_none : {X : Type 0} (test : X → Bool) (xs : List X) → ((i : ℕ) (x : X) → slice_get xs i ≡ Some x → test x ≡ false) → filter test xs ≡ []
filter_none test [] h = refl
filter_none test (x ∷ xs) h = rw (h 0 x refl) (filter_none test xs (λ i y e. h (suc i) y e))

pub filter_keeps : {X : Type 0} (test : X → Bool) (xs : List X) (i : ℕ) (x : X) → slice_get xs i ≡ Some x → test x ≡ true → (j : ℕ) × (slice_get (filter test xs) j ≡ Some x)
filter_keeps test [] i x e t = absurd (cc)
filter_keeps test (y ∷ ys) zero x e t = let same : y ≡ x = cc in let passes : test y ≡ true = subst (λ z. test z ≡ true) (sym same) t in (0, rw passes e)
filter_keeps {X} test (y ∷ ys) (suc i) x e t = let r = filter_keeps test ys i x e t in at_test (test y) r.0 r.1
  where
    at_test : (b : Bool) (j : ℕ) → slice_get (filter test ys) j ≡ Some x → (j : ℕ) × (slice_get (cond b (y ∷ filter test ys) (filter test ys)) j ≡ Some x)
    at_test true j e = (suc j, e)
    at_test false j e = (j, e)

-- a cut is consistent where what is received in a part is sent in the sender's
pub consistent_from : (s : Past) (cut : ℕ → ℕ) → ((p q i msg : ℕ) → slice_get (part s cut p) i ≡ Some (deed.Received msg q) → has_deed (deed.Sent msg p) (part s cut q) ≡ true) → IsConsistent s cut
consistent_from s cut h p = filter_none (is_unsent s cut p) (part s cut p) (λ i d e. at_deed i d e)
  where
    at_deed : (i : ℕ) (d : Deed) → slice_get (part s cut p) i ≡ Some d → is_unsent s cut p d ≡ false
    at_deed i (deed.Sent msg to) e = refl
    at_deed i (deed.Received msg from) e = rw (h p from i msg e) refl

pub consistent_sent : (s : Past) (cut : ℕ → ℕ) → IsConsistent s cut → (p q i msg : ℕ) → slice_get (part s cut p) i ≡ Some (deed.Received msg q) → has_deed (deed.Sent msg p) (part s cut q) ≡ true
consistent_sent s cut consistent p q i msg e = was_sent (has_deed (deed.Sent msg p) (part s cut q)) (filtered_out (is_unsent s cut p) (part s cut p) i (deed.Received msg q) (consistent p) e)
  where
    was_sent : (b : Bool) → not b ≡ false → b ≡ true
    was_sent true e = refl
    was_sent false e = absurd (cc)

-- a consistent cut has no orphan, and a cut with none is consistent
pub no_orphan : (s : Past) (cut : ℕ → ℕ) → IsConsistent s cut → (msg : ℕ) → IsOrphan s cut msg → ⊥
no_orphan s cut consistent msg (p, q, (k, l, e)) = let none = ap length (consistent p) in absurd (omega arith)

pub consistent_without : (s : Past) (cut : ℕ → ℕ) → ((msg : ℕ) → IsOrphan s cut msg → ⊥) → IsConsistent s cut
consistent_without s cut none = consistent_from s cut (λ p q i msg e. at_test p q i msg e (has_deed (deed.Sent msg p) (part s cut q)) refl)
  where
    at_test : (p q i msg : ℕ) → slice_get (part s cut p) i ≡ Some (deed.Received msg q) → (b : Bool) → has_deed (deed.Sent msg p) (part s cut q) ≡ b → has_deed (deed.Sent msg p) (part s cut q) ≡ true
    at_test p q i msg e true t = t
    at_test p q i msg e false t =
        let unsent : is_unsent s cut p (deed.Received msg q) ≡ true = rw t refl in
        let place = filter_keeps (is_unsent s cut p) (part s cut p) i (deed.Received msg q) e unsent in
        absurd (none msg (p, q, (place.0, slice_get_within (unsent_receives s cut p) place.0 (deed.Received msg q) place.1, get_or_from_slice_get (unsent_receives s cut p) place.0 (deed.Received msg q) (deed.Received msg q) place.1)))

-- the same by places
pub record Complete (s : Past) (cut : ℕ → ℕ) : Type 0 where
  pub each : (p q i msg : ℕ) → slice_get (s.live p) i ≡ Some (deed.Received msg q) → i < cut p → (j : ℕ) × (slice_get (s.live q) j ≡ Some (deed.Sent msg p)) × (j < cut q)

pub complete : (s : Past) (cut : ℕ → ℕ) → IsConsistent s cut → Complete s cut
complete s cut consistent = record { each = λ p q i msg e l. received_sent s cut consistent p q i msg e l }

pub consistent : (s : Past) (cut : ℕ → ℕ) → Complete s cut → IsConsistent s cut
consistent s cut h = consistent_from s cut (λ p q i msg e.
    let here = get_take (cut p) (s.live p) i (deed.Received msg q) e in
    let sent = h.each p q i msg here.0 here.1 in
    has_from_place (deed.Sent msg p) (part s cut q) sent.0 (get_in_take (cut q) (s.live q) sent.0 (deed.Sent msg p) sent.1 sent.2))

-- the cuts that stay consistent
pub record Sound (s : Past) : Type 0 where
  pub permanent : Complete s (permanent_cut s)
  pub present : Complete s (present_cut s)

sound_start : Sound start
sound_start = record { permanent = record { each = λ p q i msg e l. absurd (cc) }; present = record { each = λ p q i msg e l. absurd (cc) } }

-- a row that cuts no history and moves no position
sound_grows : (s : Past) (row : Event) → Positions s → broken_rule s row ≡ None → ((q j : ℕ) (d : Deed) → slice_get (s.live q) j ≡ Some d → slice_get ((after s row).live q) j ≡ Some d) → ((q : ℕ) → (after s row).permanent q ≡ s.permanent q) → Sound s → Sound (after s row)
sound_grows s row g unbroken stays same h = record {
  permanent = record { each = λ p q i msg e l. old_part p q i msg (comes s row p i (deed.Received msg q) e) (omega (arith, same p)) };
  present = record { each = λ p q i msg e l. whole p q i msg (comes s row p i (deed.Received msg q) e) };
}
  where
    old_part : (p q i msg : ℕ) → Comes s row p i (deed.Received msg q) → i < s.permanent p → (j : ℕ) × (slice_get ((after s row).live q) j ≡ Some (deed.Sent msg p)) × (j < (after s row).permanent q)
    old_part p q i msg (old e) l = let sent = h.permanent.each p q i msg e l in (sent.0, stays q sent.0 (deed.Sent msg p) sent.1, omega (arith, same q, sent.2))
    old_part p q i msg (received from m r d n) l = absurd (omega (arith, g.permanent_within p))
    old_part p q i msg (sent to body r d n) l = absurd (cc)

    whole : (p q i msg : ℕ) → Comes s row p i (deed.Received msg q) → (j : ℕ) × (slice_get ((after s row).live q) j ≡ Some (deed.Sent msg p)) × (j < length ((after s row).live q))
    whole p q i msg (old e) =
        let sent = h.present.each p q i msg e (slice_get_within (s.live p) i (deed.Received msg q) e) in
        let there = stays q sent.0 (deed.Sent msg p) sent.1 in
        (sent.0, there, slice_get_within ((after s row).live q) sent.0 (deed.Sent msg p) there)
    whole p q i msg (received from m r d n) =
        let same_from : from ≡ q = cc in
        let same_msg : m ≡ msg = cc in
        let row_is : row ≡ Received p q msg = cc in
        let may = may_receive s p q msg (subst (λ (x : Event). broken_rule s x ≡ None) row_is unbroken) in
        let place = deed_place (deed.Sent msg p) (s.live q) may.sent in
        let there = stays q place.0 (deed.Sent msg p) place.1 in
        (place.0, there, slice_get_within ((after s row).live q) place.0 (deed.Sent msg p) there)
    whole p q i msg (sent to body r d n) = absurd (cc)

-- a committed checkpoint
sound_checkpoint : (s : Past) (p k : ℕ) → Positions s → is_checkpoint s k ≡ true → Complete s (checkpoint_cut s k) → Sound s → Sound (after s (Decided p k true))
sound_checkpoint s p k g kind c h = record {
  permanent = record { each = λ a b i msg e l. new_part a b i msg (rw (uncut a) at e) l };
  present = record { each = λ a b i msg e l. whole a b i msg (rw (uncut a) at e) };
}
  where
    uncut : (q : ℕ) → s.ready k q ≡ false
    uncut q = at_test (s.ready k q) refl
      where
        at_test : (b : Bool) → s.ready k q ≡ b → s.ready k q ≡ false
        at_test false e = e
        at_test true e = absurd (one_kind s k kind (g.ready_kind q k e))

    new_part : (a b i msg : ℕ) → slice_get (s.live a) i ≡ Some (deed.Received msg b) → i < checkpoint_cut s k a → (j : ℕ) × (slice_get ((after s (Decided p k true)).live b) j ≡ Some (deed.Sent msg a)) × (j < checkpoint_cut s k b)
    new_part a b i msg e l = rw (uncut b) (c.each a b i msg e l)

    whole : (a b i msg : ℕ) → slice_get (s.live a) i ≡ Some (deed.Received msg b) → (j : ℕ) × (slice_get ((after s (Decided p k true)).live b) j ≡ Some (deed.Sent msg a)) × (j < length ((after s (Decided p k true)).live b))
    whole a b i msg e = rw (uncut b) (h.present.each a b i msg e (slice_get_within (s.live a) i (deed.Received msg b) e))

-- a committed rollback
sound_rollback : (s : Past) (p k : ℕ) → Positions s → is_rollback s k ≡ true → Complete s (rollback_cut s k) → Sound s → Sound (after s (Decided p k true))
sound_rollback s p k g kind c h = record {
  permanent = record { each = λ a b i msg e l. old_part a b i msg (was a i (deed.Received msg b) (s.ready k a) e) (rw (unmoved a) at l) };
  present = record { each = λ a b i msg e l. whole a b i msg (was a i (deed.Received msg b) (s.ready k a) e) };
}
  where
    unmoved : (q : ℕ) → s.new k q ≡ None
    unmoved q = at_new (s.new k q) refl
      where
        at_new : (o : Option ℕ) → s.new k q ≡ o → s.new k q ≡ None
        at_new None e = e
        at_new (Some n) e = absurd (one_kind s k (g.took_kind q k n e) kind)

    was : (a i : ℕ) (d : Deed) (t : Bool) → slice_get (if t then take (s.permanent a) (s.live a) else s.live a) i ≡ Some d → (slice_get (s.live a) i ≡ Some d) × (i < (if t then s.permanent a else length (s.live a)))
    was a i d true e = get_take (s.permanent a) (s.live a) i d e
    was a i d false e = (e, slice_get_within (s.live a) i d e)

    left : (b j : ℕ) (d : Deed) (t : Bool) → slice_get (s.live b) j ≡ Some d → j < (if t then s.permanent b else length (s.live b)) → slice_get (if t then take (s.permanent b) (s.live b) else s.live b) j ≡ Some d
    left b j d true e l = get_in_take (s.permanent b) (s.live b) j d e l
    left b j d false e l = e

    kept : (b j : ℕ) (d : Deed) (t : Bool) → slice_get (s.live b) j ≡ Some d → j < s.permanent b → slice_get (if t then take (s.permanent b) (s.live b) else s.live b) j ≡ Some d
    kept b j d true e l = get_in_take (s.permanent b) (s.live b) j d e l
    kept b j d false e l = e

    old_part : (a b i msg : ℕ) → (slice_get (s.live a) i ≡ Some (deed.Received msg b)) × (i < (if s.ready k a then s.permanent a else length (s.live a))) → i < s.permanent a → (j : ℕ) × (slice_get ((after s (Decided p k true)).live b) j ≡ Some (deed.Sent msg a)) × (j < (after s (Decided p k true)).permanent b)
    old_part a b i msg e l = let sent = h.permanent.each a b i msg e.0 l in (sent.0, kept b sent.0 (deed.Sent msg a) (s.ready k b) sent.1 sent.2, rw (unmoved b) sent.2)

    whole : (a b i msg : ℕ) → (slice_get (s.live a) i ≡ Some (deed.Received msg b)) × (i < (if s.ready k a then s.permanent a else length (s.live a))) → (j : ℕ) × (slice_get ((after s (Decided p k true)).live b) j ≡ Some (deed.Sent msg a)) × (j < length ((after s (Decided p k true)).live b))
    whole a b i msg e =
        let sent = c.each a b i msg e.0 e.1 in
        let there = left b sent.0 (deed.Sent msg a) (s.ready k b) sent.1 sent.2 in
        (sent.0, there, slice_get_within ((after s (Decided p k true)).live b) sent.0 (deed.Sent msg a) there)

-- an instance that began is of one kind or the other
known_kind : (s : Past) (p k : ℕ) → initiator_of s k ≡ Some p → (is_checkpoint s k ≡ true) ⊎ (is_rollback s k ≡ true)
known_kind s p k e = at_beginning (beginning_of s k) refl
  where
    at_kind : (b : Beginning) (kind : Kind) → b.kind ≡ kind → beginning_of s k ≡ Some b → (is_checkpoint s k ≡ true) ⊎ (is_rollback s k ≡ true)
    at_kind b Checkpoint same h = inl (rw (h, same) refl)
    at_kind b Rollback same h = inr (rw (h, same) refl)

    at_beginning : (o : Option Beginning) → beginning_of s k ≡ o → (is_checkpoint s k ≡ true) ⊎ (is_rollback s k ≡ true)
    at_beginning None h = absurd (let f = rw h at e in cc)
    at_beginning (Some b) h = at_kind b b.kind refl h

-- what a history has stays at its place where one more deed comes
pushed : (s : Past) (p : ℕ) (d : Deed) (q j : ℕ) (x : Deed) → slice_get (s.live q) j ≡ Some x → slice_get (at_one p (s.live p ++ d ∷ []) s.live q) j ≡ Some x
pushed s p d q j x e =
    at_one_all (λ r l. (j : ℕ) (x : Deed) → slice_get (s.live r) j ≡ Some x → slice_get l j ≡ Some x) p (s.live p ++ d ∷ []) s.live
    (λ j x e. get_kept (s.live p) d j x e) (λ r j x e. e) q j x e

sound_keep : (s : Past) (row : Event) → Positions s → broken_rule s row ≡ None → ((p k : ℕ) → row ≡ Decided p k true → LeavesConsistent s k) → Sound s → Sound (after s row)
sound_keep s (Sent p to body) g e c h = sound_grows s (Sent p to body) g e (λ q j d f. pushed s p (deed.Sent (s.rows + 1) to) q j d f) (λ q. refl) h
sound_keep s (Received p from msg) g e c h = sound_grows s (Received p from msg) g e (λ q j d f. pushed s p (deed.Received msg from) q j d f) (λ q. refl) h
sound_keep s (Decided p k true) g e c h =
    let may = may_decide s p k true e in
    let leaves = c p k refl in
    elim (known_kind s p k may.is_initiator) [
      | inl kind ↦ sound_checkpoint s p k g kind (complete s (checkpoint_cut s k) (leaves.checkpoint kind)) h
      | inr kind ↦ sound_rollback s p k g kind (complete s (rollback_cut s k) (leaves.rollback kind)) h
    ]
sound_keep s (Decided p k false) g e c h = sound_grows s (Decided p k false) g e (λ q j d f. f) (λ q. refl) h
sound_keep s (Dropped p from msg) g e c h = sound_grows s (Dropped p from msg) g e (λ q j d f. f) (λ q. refl) h
sound_keep s (Began p k kind) g e c h = sound_grows s (Began p k kind) g e (λ q j d f. f) (λ q. refl) h
sound_keep s (Took p k) g e c h = sound_grows s (Took p k) g e (λ q j d f. f) (λ q. refl) h
sound_keep s (Ready p k) g e c h = sound_grows s (Ready p k) g e (λ q j d f. f) (λ q. refl) h
sound_keep s (Unwilling p k cause) g e c h = sound_grows s (Unwilling p k cause) g e (λ q j d f. f) (λ q. refl) h
sound_keep s (Closed p k) g e c h = sound_grows s (Closed p k) g e (λ q j d f. f) (λ q. refl) h
sound_keep s (Failed p) g e c h = sound_grows s (Failed p) g e (λ q j d f. f) (λ q. refl) h
sound_keep s (Refused p verb cause) g e c h = sound_grows s (Refused p verb cause) g e (λ q j d f. f) (λ q. refl) h

-- where every committed decision leaves a consistent cut, both cuts are consistent at the end
pub record SoundLog (log : List Event) : Type 0 where
  pub sound : HasConsistentDecisions log → Sound (past log)

sound_log_keep : (log : List Event) (row : Event) → IsLegal log → broken_rule (past log) row ≡ None → SoundLog log → SoundLog (log ++ row ∷ [])
sound_log_keep log row l unbroken h = record {
  sound = λ d. rw (past_push log row) (sound_keep (past log) row (positions log l) unbroken
      (λ p k e. subst (λ (x : List Event). LeavesConsistent (past x) k) (take_at log (row ∷ []) (length log) refl) (d (length log) p k (last p k e)))
      (h.sound (λ n p k e. subst (λ (x : List Event). LeavesConsistent (past x) k) (take-append-le n log (row ∷ []) (early n p k e)) (d n p k (get_kept log row n (Decided p k true) e)))));
}
  where
    last : (p k : ℕ) → row ≡ Decided p k true → slice_get (log ++ row ∷ []) (length log) ≡ Some (Decided p k true)
    last p k e = get_last log row ∙ ap (λ (x : Event). Some x) e

    early : (n p k : ℕ) → slice_get log n ≡ Some (Decided p k true) → n ≤ length log
    early n p k e = omega (arith, slice_get_within log n (Decided p k true) e)

pub sound_log : (log : List Event) → IsLegal log → HasConsistentDecisions log → Sound (past log)
sound_log log l d = let h = legal_log_induction SoundLog (record { sound = λ e. sound_start }) sound_log_keep log l in h.sound d

-- so it is for each front of the log
pub decisions_take : (n : ℕ) (log : List Event) → HasConsistentDecisions log → HasConsistentDecisions (take n log)
decisions_take n log d m p k e =
    let here = get_take n log m (Decided p k true) e in
    subst (λ (x : List Event). LeavesConsistent (past x) k) (sym (take-take m n log (omega (arith, here.1)))) (d m p k here.0)
