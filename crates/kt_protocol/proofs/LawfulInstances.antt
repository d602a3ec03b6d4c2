-- Each row of an instance that a step writes keeps every rule.
use Rattle.std.proofs.Common.{◌≡◌, ◌≢◌, ℕ, zero, suc, ◌+◌, ◌≤◌, ◌<◌, Bool, true, false, not, Some, None, List, [], ◌∷◌, ◌++◌, length, refl, arith, sym, ap, subst, inl, inr, ◌∙◌, length-append}
use Rattle.std.specs.Prelude.{◌==◌, ◌&&◌, ◌||◌, nat_le, if◌then◌else◌, slice_get}
use Rattle.std.proofs.lemmas.Bool.{cases_eq, cases_lt}
use Rattle.std.proofs.lemmas.Bool.Decides.{nat_tests}
use Rattle.kt_base.specs.declared.words.Cause.{Cause}
use Rattle.kt_spacetime.specs.declared.event.Event.TheVariants.{Began, Took, Ready, Unwilling, Decided, Closed}
use Rattle.kt_spacetime.specs.declared.deeds.Deed.{Deed}
use Rattle.kt_spacetime.specs.declared.deeds.Deed.TheVariants as deed
use Rattle.kt_meaning.specs.Past.{Past, Beginning, after, past, at_one, is_rollback, is_checkpoint, is_committed, initiator_of}
use Rattle.kt_meaning.specs.Legal.{broken_rule, is_in_none, follows, names_begun, excuses, may_join}
use Rattle.kt_meaning.proofs.LegalLogs.{past_push, legal_push}
use Rattle.kt_meaning.proofs.Lists.{get_last}
use Rattle.kt_meaning.proofs.Places.{received_places}
use Rattle.kt_protocol.proofs.Invariant.{Invariant, is_message, one}
use Rattle.kt_protocol.proofs.Lawful.{Law, Lawful, begun_of, follows_quiet, in_it, is_undoing, line, none_in, not_member, roll_of, save_of, tie, unbroken, undecided_of, way}
use Rattle.kt_protocol.proofs.Lines.{Over, Thin, apps_checkpoint_asks, apps_rollback_asks, over_from, over_join, over_thin, restored_other, rising_split, rising_thin, thin_all, thin_append, thin_put_back, thin_kept_where, times_apps}
use Rattle.kt_protocol.specs.Parcels.{messages, Parcel, Lists, with_checkpoint_asks, emptied, put_back, with_rollback_asks, kept_where}
use Rattle.kt_protocol.proofs.Updates.{at_one_here, at_one_other, is_same}
use Rattle.kt_protocol.proofs.SummaryTies.{at_one_same}
use Rattle.kt_protocol.proofs.LawfulLists.{by_row, law_ways, same_way}
use Rattle.kt_protocol.proofs.Weights.{weigh, weigh_kept_where}
use Rattle.kt_protocol.specs.States.{State}
use Rattle.kt_protocol.specs.Deciding.{after_deciding_as}
use Rattle.kt_protocol.specs.Joining.{kind_for, after_began, after_joining_rollback, after_joining_checkpoint}
use Rattle.kt_protocol.specs.Summary.{Summary, summary_began, summary_committed, is_undone, is_unreceived, summary_after}

-- an instance begins
get_old : (xs : List Beginning) (b : Beginning) (j : ℕ) → j < length xs → slice_get (xs ++ b ∷ []) j ≡ slice_get xs j
get_old [] b j l = absurd (omega arith)
get_old (x ∷ xs) b zero l = refl
get_old (x ∷ xs) b (suc j) l = get_old xs b j (omega (arith, l))

guard_opened : (s : State) (p : ℕ) (roll : Bool) → Invariant s → (u : ℕ) → is_undoing (summary_began s.so_far (s.instances + 1) roll) u ≡ is_undoing s.so_far u
guard_opened s p roll g u = elim (cases_eq (s.so_far.open_in u) 0) [
  | inl e ↦ rw e refl
  | inr n ↦ (
      let j = g.positions.joined_instance (s.so_far.open_in u) u (g.positions.open_joined (s.so_far.open_in u) u (omega (arith, n)) refl) in
      let d : s.so_far.open_in u ≢ s.instances + 1 = λ e. omega (arith, j.1, e) in
      rw (at_one_other (s.instances + 1) (s.so_far.open_in u) roll s.so_far.is_rollback d) refl)
]

may_begin_it : (s : Past) (p k : ℕ) (roll : Bool) → is_in_none s p ≡ true → (roll ≡ false → s.up p ≡ true) → may_join s (Began p k (kind_for roll)) ≡ true
may_begin_it s p k true o u = o
may_begin_it s p k false o u = rw (o, u refl) refl

first_opened : (s : State) (p : ℕ) (roll : Bool) → Law true s → (k : ℕ) → 0 < k → k ≤ s.instances + 1 → initiator_of (after (past s.log) (Began p (s.instances + 1) (kind_for roll))) k ≡ Some (at_one (s.instances + 1) p s.initiator k)
first_opened s p roll l zero a b = absurd (omega (arith, a))
first_opened s p roll l (suc j) a b = elim (cases_eq j s.instances) [
  | inl e ↦ (
      let n : j ≡ length (past s.log).begun = e ∙ l.count in
      let at : at_one (s.instances + 1) p s.initiator (suc j) ≡ p = (let x : suc j ≡ s.instances + 1 = omega (arith, e) in rw x (at_one_here (s.instances + 1) p s.initiator)) in
      rw (n, get_last (past s.log).begun (record { initiator = p; kind = kind_for roll }), ← n, at) refl)
  | inr d ↦ (
      let c = l.count in
      let low : j < length (past s.log).begun = omega (arith, d, b, c) in
      let ne : suc j ≢ s.instances + 1 = λ x. omega (arith, x, d) in
      let old = l.first (suc j) a (omega (arith, d, b)) in
      rw (get_old (past s.log).begun (record { initiator = p; kind = kind_for roll }) j low, at_one_other (s.instances + 1) (suc j) p s.initiator ne) old)
]

pub law_began : (s : State) (p : ℕ) (roll : Bool) → s.so_far.open_in p ≡ 0 → (roll ≡ false → s.up p ≡ true) → Invariant s → Law true s → Law false (after_began s p roll)
law_began s p roll o u g l =
    let e : broken_rule (past s.log) (Began p (s.instances + 1) (kind_for roll)) ≡ None = unbroken (past s.log) (Began p (s.instances + 1) (kind_for roll)) (record {
      numbers = rw l.count (is_same (length (past s.log).begun + 1));
      message = refl;
      order = refl;
      sending = refl;
      receiving = refl;
      joining = rw (may_begin_it (past s.log) p (s.instances + 1) roll (none_in true s g l p o) (λ r. sym (l.is_up p) ∙ u r)) (follows_quiet (past s.log).last (Began p (s.instances + 1) (kind_for roll)) (l.last refl));
      deciding = refl;
      closing = refl;
      causes = refl;
    }) in
    by_row false (after_began s p roll) s.log (Began p (s.instances + 1) (kind_for roll)) refl (record {
      legal = legal_push s.log (Began p (s.instances + 1) (kind_for roll)) l.legal e;
      last = λ z. absurd (cc (z));
      is_up = l.is_up;
      count = (let c = l.count in let n = length-append (past s.log).begun (record { initiator = p; kind = kind_for roll } ∷ []) in omega (arith, c, n));
      first = first_opened s p roll l;
      apart = l.apart;
      in_order = l.in_order;
      permanent_first = l.permanent_first;
      drops_first = λ x y i n w z. l.drops_first x y i n (sym (guard_opened s p roll g x) ∙ w) z;
      drops_low = λ x y i n z. let low = l.drops_low x y i n z in omega (arith, low);
    })

-- a process joins
guard_closed : (s : State) (p : ℕ) → s.so_far.open_in p ≡ 0 → is_undoing s.so_far p ≡ false
guard_closed s p o = rw o refl

fresh_member : (s : State) (k p : ℕ) → s.so_far.open_in p ≡ 0 → 0 < k → s.so_far.is_decided k ≡ false → Invariant s → s.so_far.joined k p ≡ false
fresh_member s k p o pos d g = at_test (s.so_far.joined k p) refl
  where
    at_test : (b : Bool) → s.so_far.joined k p ≡ b → s.so_far.joined k p ≡ false
    at_test false e = e
    at_test true e = let x = g.positions.member_open k p e d in absurd (omega (arith, x, o, pos))

pub law_joining_checkpoint : (quiet : Bool) (s : State) (channel : Lists) (p k : ℕ) (is_first : Bool) (par lnk : ℕ) → ((u v : ℕ) → messages (channel u v) ≡ messages (s.channel u v)) → s.so_far.open_in p ≡ 0 → 0 < k → k ≤ s.instances → s.so_far.is_decided k ≡ false → s.so_far.is_rollback k ≡ false → s.up p ≡ true → follows (past s.log).last (Took p k) ≡ true → Invariant s → Law quiet s → Law true (after_joining_checkpoint s channel p k is_first par lnk)
law_joining_checkpoint quiet s channel p k is_first par lnk c o pos low d r u f g l =
    let up : (past s.log).up p ≡ true = sym (l.is_up p) ∙ u in
    let save : is_checkpoint (past s.log) k ≡ true = save_of quiet s g l k pos low ∙ rw r refl in
    let e : broken_rule (past s.log) (Took p k) ≡ None = unbroken (past s.log) (Took p k) (record {
      numbers = begun_of quiet s g l k pos low;
      message = refl;
      order = refl;
      sending = refl;
      receiving = refl;
      joining = rw (none_in quiet s g l p o, not_member quiet s g l k p (fresh_member s k p o pos d g), undecided_of quiet s g l k pos low d, save, up) f;
      deciding = refl;
      closing = refl;
      causes = refl;
    }) in
    by_row true (after_joining_checkpoint s channel p k is_first par lnk) s.log (Took p k) refl
    (law_ways true (s.log ++ Took p k ∷ []) (after (past s.log) (Took p k)) (summary_after s.so_far (Took p k)) s.channel s.held s.kept s.up s.instances s.initiator (with_checkpoint_asks channel s.last_received p k) s.held
    (same_way s.channel s.held (with_checkpoint_asks channel s.last_received p k) (λ x y. apps_checkpoint_asks channel s.last_received p k x y ∙ c x y)) (record {
      legal = legal_push s.log (Took p k) l.legal e;
      last = λ _. refl;
      is_up = l.is_up;
      count = l.count;
      first = l.first;
      apart = l.apart;
      in_order = l.in_order;
      permanent_first = l.permanent_first;
      drops_first = λ x y i n w z. l.drops_first x y i n (elim (cases_eq x p) [
        | inl a ↦ rw a (guard_closed s p o)
        | inr a ↦ rw (at_one_other p x k s.so_far.open_in a) at w
      ]) z;
      drops_low = λ x y i n z. let b = l.drops_low x y i n z in omega (arith, b);
    }))

pub law_joining_rollback : (quiet : Bool) (s : State) (channel : Lists) (p k : ℕ) (is_first : Bool) (par lnk : ℕ) → ((u v : ℕ) → messages (channel u v) ≡ messages (s.channel u v)) → s.so_far.open_in p ≡ 0 → 0 < k → k ≤ s.instances → s.so_far.is_decided k ≡ false → s.so_far.is_rollback k ≡ true → follows (past s.log).last (Ready p k) ≡ true → Invariant s → Law quiet s → Law true (after_joining_rollback s channel p k is_first par lnk)
law_joining_rollback quiet s channel p k is_first par lnk c o pos low d r f g l =
    let roll : is_rollback (past s.log) k ≡ true = roll_of quiet s g l k pos low ∙ r in
    let e : broken_rule (past s.log) (Ready p k) ≡ None = unbroken (past s.log) (Ready p k) (record {
      numbers = begun_of quiet s g l k pos low;
      message = refl;
      order = refl;
      sending = refl;
      receiving = refl;
      joining = rw (none_in quiet s g l p o, not_member quiet s g l k p (fresh_member s k p o pos d g), undecided_of quiet s g l k pos low d, roll) f;
      deciding = refl;
      closing = refl;
      causes = refl;
    }) in
    by_row true (after_joining_rollback s channel p k is_first par lnk) s.log (Ready p k) refl
    (law_ways true (s.log ++ Ready p k ∷ []) (after (past s.log) (Ready p k)) (summary_after s.so_far (Ready p k)) s.channel s.held s.kept s.up s.instances s.initiator (with_rollback_asks channel s.first_sent s.last_sent p k) s.held
    (same_way s.channel s.held (with_rollback_asks channel s.first_sent s.last_sent p k) (λ x y. apps_rollback_asks channel s.first_sent s.last_sent p k x y ∙ c x y)) (record {
      legal = legal_push s.log (Ready p k) l.legal e;
      last = λ _. refl;
      is_up = l.is_up;
      count = l.count;
      first = l.first;
      apart = l.apart;
      in_order = l.in_order;
      permanent_first = l.permanent_first;
      drops_first = λ x y i n w z. l.drops_first x y i n (elim (cases_eq x p) [
        | inl a ↦ rw a (guard_closed s p o)
        | inr a ↦ rw (at_one_other p x k s.so_far.open_in a) at w
      ]) z;
      drops_low = λ x y i n z. let b = l.drops_low x y i n z in omega (arith, b);
    }))

-- a process is unwilling
pub law_unwilling : (s : State) (channel : Lists) (p k : ℕ) (cause : Cause) → ((u v : ℕ) → messages (channel u v) ≡ messages (s.channel u v)) → 0 < k → k ≤ s.instances → s.so_far.is_decided k ≡ false → names_begun (past s.log) cause ≡ true → excuses (past s.log) p k cause ≡ true → Invariant s → Law true s → Lawful true (s.log ++ Unwilling p k cause ∷ []) (past (s.log ++ Unwilling p k cause ∷ [])) (summary_after s.so_far (Unwilling p k cause)) channel s.held s.kept s.up s.instances s.initiator
law_unwilling s channel p k cause c pos low d b x g l =
    let e : broken_rule (past s.log) (Unwilling p k cause) ≡ None = unbroken (past s.log) (Unwilling p k cause) (record {
      numbers = rw (begun_of true s g l k pos low, b) refl;
      message = refl;
      order = refl;
      sending = refl;
      receiving = refl;
      joining = follows_quiet (past s.log).last (Unwilling p k cause) (l.last refl);
      deciding = refl;
      closing = refl;
      causes = rw (undecided_of true s g l k pos low d, x) refl;
    }) in
    subst (λ (y : Past). Lawful true (s.log ++ Unwilling p k cause ∷ []) y (summary_after s.so_far (Unwilling p k cause)) channel s.held s.kept s.up s.instances s.initiator) (sym (past_push s.log (Unwilling p k cause)))
    (law_ways true (s.log ++ Unwilling p k cause ∷ []) (after (past s.log) (Unwilling p k cause)) (summary_after s.so_far (Unwilling p k cause)) s.channel s.held s.kept s.up s.instances s.initiator channel s.held
    (same_way s.channel s.held channel c) (record {
      legal = legal_push s.log (Unwilling p k cause) l.legal e;
      last = λ _. refl;
      is_up = l.is_up;
      count = l.count;
      first = l.first;
      apart = l.apart;
      in_order = l.in_order;
      permanent_first = l.permanent_first;
      drops_first = l.drops_first;
      drops_low = λ x y i n z. let b = l.drops_low x y i n z in omega (arith, b);
    }))

-- a decision
guard_decided : (h : Summary) (k u : ℕ) (c : Bool) → h.is_decided k ≡ false → (not (h.open_in u == 0) && (h.is_rollback (h.open_in u) && (at_one k true h.is_decided (h.open_in u) && at_one k c h.is_committed (h.open_in u)))) ≡ false → is_undoing h u ≡ false
guard_decided h k u c d w = elim (cases_eq (h.open_in u) k) [
  | inl e ↦ (let x : h.is_decided (h.open_in u) ≡ false = rw e d in rw x (off (not (h.open_in u == 0)) (h.is_rollback (h.open_in u))))
  | inr n ↦ rw (at_one_other k (h.open_in u) true h.is_decided n, at_one_other k (h.open_in u) c h.is_committed n) at w
]
  where
    off : (a b : Bool) → (a && (b && false)) ≡ false
    off true true = refl
    off true false = refl
    off false b = refl

decision_unbroken : (s : State) (p k : ℕ) (c : Bool) → s.so_far.joined k p ≡ true → p ≡ s.initiator k → s.so_far.is_decided k ≡ false → Invariant s → Law true s → broken_rule (past s.log) (Decided p k c) ≡ None
decision_unbroken s p k c j i d g l =
    let n = g.positions.joined_instance k p j in
    let initiator : initiator_of (past s.log) k ≡ Some p = l.first k n.0 n.1 ∙ ap (λ (x : ℕ). Some x) (sym i) in
    unbroken (past s.log) (Decided p k c) (record {
      numbers = begun_of true s g l k n.0 n.1;
      message = refl;
      order = refl;
      sending = refl;
      receiving = refl;
      joining = follows_quiet (past s.log).last (Decided p k c) (l.last refl);
      deciding = rw (initiator, is_same p, in_it true s g l p k n.0 (g.positions.member_open k p j d), undecided_of true s g l k n.0 n.1 d) refl;
      closing = refl;
      causes = refl;
    })

pub law_aborting : (s : State) (p k : ℕ) → s.so_far.joined k p ≡ true → p ≡ s.initiator k → s.so_far.is_decided k ≡ false → Invariant s → Law true s → Law true (record s { log = s.log ++ Decided p k false ∷ []; so_far = summary_after s.so_far (Decided p k false) })
law_aborting s p k j i d g l = by_row true (record s { log = s.log ++ Decided p k false ∷ []; so_far = summary_after s.so_far (Decided p k false) }) s.log (Decided p k false) refl (record {
  legal = legal_push s.log (Decided p k false) l.legal (decision_unbroken s p k false j i d g l);
  last = λ _. refl;
  is_up = l.is_up;
  count = l.count;
  first = l.first;
  apart = l.apart;
  in_order = l.in_order;
  permanent_first = l.permanent_first;
  drops_first = λ x y i n w z. l.drops_first x y i n (guard_decided s.so_far k x false d w) z;
  drops_low = λ x y i n z. let b = l.drops_low x y i n z in omega (arith, b);
})

-- of one sender, what came later was sent later
got_rise : (s : State) (m n : ℕ) → s.so_far.is_received n ≡ true → s.so_far.is_received m ≡ true → s.so_far.from n ≡ s.so_far.from m → s.so_far.to n ≡ s.so_far.to m → s.so_far.received_at n < s.so_far.received_at m → Invariant s → Law true s → n < m
got_rise s m n a b from to low g l =
    let t = tie true s g l in
    let x : slice_get ((past s.log).live (s.so_far.to m)) (s.so_far.received_at n) ≡ Some (deed.Received n (s.so_far.from m)) = rw (to, from, t.live (s.so_far.to m)) at (g.histories.received_there n a) in
    let y : slice_get ((past s.log).live (s.so_far.to m)) (s.so_far.received_at m) ≡ Some (deed.Received m (s.so_far.from m)) = rw (t.live (s.so_far.to m)) at (g.histories.received_there m b) in
    (received_places s.log l.legal).rises (s.so_far.to m) (s.so_far.from m) (s.so_far.received_at n) (s.so_far.received_at m) n m low x y

pub law_committing_checkpoint : (s : State) (p k : ℕ) → s.so_far.is_rollback k ≡ false → s.so_far.joined k p ≡ true → p ≡ s.initiator k → s.so_far.is_decided k ≡ false → Invariant s → Law true s → Law true (after_deciding_as true false s p k)
law_committing_checkpoint s p k r j i d g l = by_row true (after_deciding_as true false s p k) s.log (Decided p k true) refl (record {
  legal = legal_push s.log (Decided p k true) l.legal (decision_unbroken s p k true j i d g l);
  last = λ _. refl;
  is_up = l.is_up;
  count = l.count;
  first = l.first;
  apart = l.apart;
  in_order = λ x y. rising_thin (line s.channel s.held kept x y) (line s.channel s.held s.kept x y) (less x y) (l.in_order x y);
  permanent_first = λ n a b. at_joined n a (s.so_far.joined k (s.so_far.to n)) refl b;
  drops_first = λ x y i n w z. l.drops_first x y i n (guard_decided s.so_far k x true d w) z;
  drops_low = λ x y i n z. let b = l.drops_low x y i n z in omega (arith, b);
})
  where
    passes : ℕ → Bool
    passes m = nat_le (s.so_far.new k (s.so_far.to m)) (s.so_far.received_at m)

    kept : Lists
    kept = kept_where (λ m. nat_le (s.so_far.new k (s.so_far.to m)) (s.so_far.received_at m)) (s.so_far.joined k) s.kept

    less : (x y : ℕ) → Thin (line s.channel s.held kept x y) (line s.channel s.held s.kept x y)
    less x y = thin_append (messages (kept x y)) (messages (s.kept x y)) (way s.channel s.held x y) (way s.channel s.held x y) (thin_kept_where (λ m. nat_le (s.so_far.new k (s.so_far.to m)) (s.so_far.received_at m)) (s.so_far.joined k) s.kept x y) (thin_all (way s.channel s.held x y))

    old : (n : ℕ) → s.so_far.is_received n ≡ true → s.so_far.received_at n < s.so_far.permanent (s.so_far.to n) → Over n (line s.channel s.held kept (s.so_far.from n) (s.so_far.to n))
    old n a b = over_thin n (line s.channel s.held kept (s.so_far.from n) (s.so_far.to n)) (line s.channel s.held s.kept (s.so_far.from n) (s.so_far.to n)) (less (s.so_far.from n) (s.so_far.to n)) (l.permanent_first n a b)

    in_kept : (m x y : ℕ) → s.so_far.joined k y ≡ true → 0 < weigh (is_message m) (kept x y) → (s.so_far.is_received m ≡ true) × (s.so_far.from m ≡ x) × (s.so_far.to m ≡ y) × (s.so_far.new k (s.so_far.to m) ≤ s.so_far.received_at m)
    in_kept m x y e h =
        let a = weigh_kept_where m (λ m. nat_le (s.so_far.new k (s.so_far.to m)) (s.so_far.received_at m)) (s.so_far.joined k) s.kept x y in
        let b = g.messages.kept_is m y x in
        facts (nat_le (s.so_far.new k (s.so_far.to m)) (s.so_far.received_at m)) refl (rw e at a) b
      where
        facts : (t : Bool) → nat_le (s.so_far.new k (s.so_far.to m)) (s.so_far.received_at m) ≡ t → weigh (is_message m) (kept x y) ≡ (if t then weigh (is_message m) (s.kept x y) else 0) → weigh (is_message m) (s.kept x y) ≡ one (s.so_far.is_received m && s.so_far.from m == x && s.so_far.to m == y && nat_le (s.so_far.permanent y) (s.so_far.received_at m)) → (s.so_far.is_received m ≡ true) × (s.so_far.from m ≡ x) × (s.so_far.to m ≡ y) × (s.so_far.new k (s.so_far.to m) ≤ s.so_far.received_at m)
        facts false t a b = absurd (omega (arith, h, a))
        facts true t a b = grind (arith, nat_tests, t, a, b, h)

    at_joined : (n : ℕ) → s.so_far.is_received n ≡ true → (x : Bool) → s.so_far.joined k (s.so_far.to n) ≡ x → s.so_far.received_at n < (if x then s.so_far.new k (s.so_far.to n) else s.so_far.permanent (s.so_far.to n)) → Over n (line s.channel s.held kept (s.so_far.from n) (s.so_far.to n))
    at_joined n a false e b = old n a b
    at_joined n a true e b = elim (cases_lt (s.so_far.received_at n) (s.so_far.permanent (s.so_far.to n))) [
      | inl x ↦ old n a x
      | inr x ↦ (
          let t = times_apps n (s.kept (s.so_far.from n) (s.so_far.to n)) in
          let w = g.messages.kept_is n (s.so_far.to n) (s.so_far.from n) in
          let v : nat_le (s.so_far.permanent (s.so_far.to n)) (s.so_far.received_at n) ≡ true = grind (arith, nat_tests, x) in
          let z : weigh (is_message n) (s.kept (s.so_far.from n) (s.so_far.to n)) ≡ 1 = grind (arith, nat_tests, w, a, v, is_same (s.so_far.from n), is_same (s.so_far.to n)) in
          over_join n (messages (kept (s.so_far.from n) (s.so_far.to n))) (way s.channel s.held (s.so_far.from n) (s.so_far.to n))
          (over_from n (messages (kept (s.so_far.from n) (s.so_far.to n))) (λ m h. later n m a b e (in_kept m (s.so_far.from n) (s.so_far.to n) e (let c = times_apps m (kept (s.so_far.from n) (s.so_far.to n)) in omega (arith, c, h)))))
          (over_from n (way s.channel s.held (s.so_far.from n) (s.so_far.to n)) (λ m h. rising_split n m (messages (s.kept (s.so_far.from n) (s.so_far.to n))) (way s.channel s.held (s.so_far.from n) (s.so_far.to n)) (l.in_order (s.so_far.from n) (s.so_far.to n)) (omega (arith, t, z)) h)))
    ]
      where
        later : (n m : ℕ) → s.so_far.is_received n ≡ true → s.so_far.received_at n < s.so_far.new k (s.so_far.to n) → s.so_far.joined k (s.so_far.to n) ≡ true → (s.so_far.is_received m ≡ true) × (s.so_far.from m ≡ s.so_far.from n) × (s.so_far.to m ≡ s.so_far.to n) × (s.so_far.new k (s.so_far.to m) ≤ s.so_far.received_at m) → n < m
        later n m a b e f = let c = f.3 in let c' : s.so_far.new k (s.so_far.to n) ≤ s.so_far.received_at m = rw f.2 at c in got_rise s m n a f.0 (sym f.1) (sym f.2) (omega (arith, b, c')) g l

pub law_committing_rollback : (s : State) (p k : ℕ) → s.so_far.is_rollback k ≡ true → s.so_far.joined k p ≡ true → p ≡ s.initiator k → s.so_far.is_decided k ≡ false → Invariant s → Law true s → Law true (after_deciding_as true true s p k)
law_committing_rollback s p k r j i d g l = by_row true (after_deciding_as true true s p k) s.log (Decided p k true) refl (record {
  legal = legal_push s.log (Decided p k true) l.legal (decision_unbroken s p k true j i d g l);
  last = λ _. refl;
  is_up = l.is_up;
  count = l.count;
  first = l.first;
  apart = λ m h. l.apart m (front (s.so_far.is_sent m) (not (is_undone s.so_far k m)) h);
  in_order = λ x y. rising_thin (line s.channel held kept x y) (line s.channel s.held s.kept x y) (less x y) (l.in_order x y);
  permanent_first = λ n a b. over_thin n (line s.channel held kept (s.so_far.from n) (s.so_far.to n)) (line s.channel s.held s.kept (s.so_far.from n) (s.so_far.to n)) (less (s.so_far.from n) (s.so_far.to n)) (l.permanent_first n (front (s.so_far.is_received n) (not (is_unreceived s.so_far k n)) a) b);
  drops_first = λ x y i n w z. at_joined x y i n w z (s.so_far.joined k x) refl;
  drops_low = λ x y i n z. let b = l.drops_low x y i n z in omega (arith, b);
})
  where
    kept : Lists
    kept = emptied (s.so_far.joined k) s.kept

    held : Lists
    held = put_back (λ m. not (is_undone s.so_far k m)) (s.so_far.joined k) s.kept s.held

    front : (a b : Bool) → (a && b) ≡ true → a ≡ true
    front true b e = refl
    front false b e = absurd (cc)

    less : (x y : ℕ) → Thin (line s.channel held kept x y) (line s.channel s.held s.kept x y)
    less x y = thin_put_back (λ m. not (is_undone s.so_far k m)) (s.so_far.joined k) s.kept s.held x y (messages (s.channel x y))

    at_joined : (x y i n : ℕ) → is_undoing (summary_committed true s.so_far k) x ≡ false → slice_get ((past s.log).dropped_since x) i ≡ Some (deed.Received n y) → (b : Bool) → s.so_far.joined k x ≡ b → Over n (way s.channel held y x)
    at_joined x y i n w z true e =
        let o = g.positions.member_open k x e d in
        let pos : (k == 0) ≡ false = (let c = (g.positions.joined_instance k x e).0 in grind (arith, nat_tests, c)) in
        absurd (let v : (not (k == 0) && (s.so_far.is_rollback k && (at_one k true s.so_far.is_decided k && at_one k true s.so_far.is_committed k))) ≡ false = rw o at w in
        let u : true ≡ false = rw (pos, r, at_one_here k true s.so_far.is_decided, at_one_here k true s.so_far.is_committed) at v in cc (u))
    at_joined x y i n w z false e =
        subst (λ (q : List Parcel). Over n (messages q ++ messages (s.channel y x))) (sym (restored_other (λ m. not (is_undone s.so_far k m)) (s.so_far.joined k) s.kept s.held y x e))
        (l.drops_first x y i n (guard_decided s.so_far k x true d w) z)

-- a process closes
pub law_closed : (s : State) (channel : Lists) (up : ℕ → Bool) (p k : ℕ) (roll c : Bool) → ((u v : ℕ) → messages (channel u v) ≡ messages (s.channel u v)) → ((u : ℕ) → up u ≡ at_one p (s.up p || (roll && c)) s.up u) → 0 < k → s.so_far.open_in p ≡ k → s.so_far.is_decided k ≡ true → s.so_far.is_rollback k ≡ roll → s.so_far.is_committed k ≡ c → Invariant s → Law true s → Lawful true (s.log ++ Closed p k ∷ []) (past (s.log ++ Closed p k ∷ [])) (summary_after s.so_far (Closed p k)) channel s.held s.kept up s.instances s.initiator
law_closed s channel up p k roll c same ups pos o d r i g l =
    let low = (g.positions.joined_instance k p (g.positions.open_joined k p pos o)).1 in
    let t = tie true s g l in
    let decision : (past s.log).decision k ≡ Some c = t.decision k ∙ rw (d, i) refl in
    let kind : is_rollback (past s.log) k ≡ roll = roll_of true s g l k pos low ∙ r in
    let e : broken_rule (past s.log) (Closed p k) ≡ None = unbroken (past s.log) (Closed p k) (record {
      numbers = begun_of true s g l k pos low;
      message = refl;
      order = refl;
      sending = refl;
      receiving = refl;
      joining = follows_quiet (past s.log).last (Closed p k) (l.last refl);
      deciding = refl;
      closing = rw (in_it true s g l p k pos o, decision) refl;
      causes = refl;
    }) in
    subst (λ (y : Past). Lawful true (s.log ++ Closed p k ∷ []) y (summary_after s.so_far (Closed p k)) channel s.held s.kept up s.instances s.initiator) (sym (past_push s.log (Closed p k)))
    (law_ways true (s.log ++ Closed p k ∷ []) (after (past s.log) (Closed p k)) (summary_after s.so_far (Closed p k)) s.channel s.held s.kept up s.instances s.initiator channel s.held
    (same_way s.channel s.held channel same) (record {
      legal = legal_push s.log (Closed p k) l.legal e;
      last = λ _. refl;
      is_up = λ u. ups u ∙ at_one_same p (s.up p || (roll && c)) ((past s.log).up p || (is_rollback (past s.log) k && is_committed (past s.log) k)) s.up (past s.log).up (rw (kind, decision, l.is_up p) refl) l.is_up u;
      count = l.count;
      first = l.first;
      apart = l.apart;
      in_order = l.in_order;
      permanent_first = l.permanent_first;
      drops_first = λ x y j n w z. drops x y j n w kind decision z;
      drops_low = λ x y j n z. lows x y j n z;
    }))
  where
    since : Bool → ℕ → List Deed
    since b x = if b then [] else (past s.log).dropped_since x

    lows : (x y j n : ℕ) → slice_get (at_one p (since (is_rollback (past s.log) k && is_committed (past s.log) k) p) (past s.log).dropped_since x) j ≡ Some (deed.Received n y) → n ≤ s.so_far.rows + 1
    lows x y j n z = at_test (x == p) refl (is_rollback (past s.log) k && is_committed (past s.log) k) z
      where
        at_test : (b : Bool) → (x == p) ≡ b → (a : Bool) → slice_get (if b then since a p else (past s.log).dropped_since x) j ≡ Some (deed.Received n y) → n ≤ s.so_far.rows + 1
        at_test false e a z = let b = l.drops_low x y j n z in omega (arith, b)
        at_test true e true z = absurd (cc)
        at_test true e false z = let b = l.drops_low p y j n z in omega (arith, b)

    drops : (x y j n : ℕ) → is_undoing (summary_after s.so_far (Closed p k)) x ≡ false → is_rollback (past s.log) k ≡ roll → (past s.log).decision k ≡ Some c → slice_get (at_one p (since (is_rollback (past s.log) k && is_committed (past s.log) k) p) (past s.log).dropped_since x) j ≡ Some (deed.Received n y) → Over n (way s.channel s.held y x)
    drops x y j n w kind decision z = elim (cases_eq x p) [
      | inl a ↦ at_kind roll c r i kind decision a (let b : slice_get (since (is_rollback (past s.log) k && is_committed (past s.log) k) p) j ≡ Some (deed.Received n y) = rw (a, at_one_here p (since (is_rollback (past s.log) k && is_committed (past s.log) k) p) (past s.log).dropped_since) at z in b)
      | inr a ↦ l.drops_first x y j n (rw (at_one_other p x 0 s.so_far.open_in a) at w) (rw (at_one_other p x (since (is_rollback (past s.log) k && is_committed (past s.log) k) p) (past s.log).dropped_since a) at z)
    ]
      where
        guard : (a b : Bool) → (a && b) ≡ false → s.so_far.is_rollback k ≡ a → s.so_far.is_committed k ≡ b → is_undoing s.so_far p ≡ false
        guard a b f e h = rw (o, e, h, d) (off (not (k == 0)) a b f)
          where
            off : (x a b : Bool) → (a && b) ≡ false → (x && (a && b)) ≡ false
            off true a b f = f
            off false a b f = refl

        at_kind : (a b : Bool) → s.so_far.is_rollback k ≡ a → s.so_far.is_committed k ≡ b → is_rollback (past s.log) k ≡ a → (past s.log).decision k ≡ Some b → x ≡ p → slice_get (since (is_rollback (past s.log) k && is_committed (past s.log) k) p) j ≡ Some (deed.Received n y) → Over n (way s.channel s.held y x)
        at_kind true true e h kd v q z = absurd (let u : slice_get (since true p) j ≡ Some (deed.Received n y) = rw (kd, v) at z in cc (u))
        at_kind true false e h kd v q z = rw q (l.drops_first p y j n (guard true false refl e h) (rw (kd, v) at z))
        at_kind false b e h kd v q z = rw q (l.drops_first p y j n (guard false b refl e h) (rw kd at z))
