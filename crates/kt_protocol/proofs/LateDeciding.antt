-- The decided row: what it does to a late state c, once closed.
use Rattle.std.proofs.Common.{◌≡◌, ◌≢◌, ℕ, ◌+◌, ◌<◌, Bool, true, false, not, List, [], ◌++◌, refl, arith, sym, ap, ap₂, subst, inl, inr, ◌∙◌}
use Rattle.std.specs.Prelude.{◌==◌, ◌&&◌, nat_lt, nat_le, if◌then◌else◌}
use Rattle.std.proofs.lemmas.Bool.Decides.{nat_tests}
use Rattle.kt_spacetime.specs.declared.event.Event.TheVariants.{Decided}
use Rattle.kt_protocol.proofs.Choices.{same}
use Rattle.kt_protocol.proofs.Deciding.{received_by_members}
use Rattle.kt_protocol.proofs.Invariant.{Invariant, one}
use Rattle.kt_protocol.proofs.LabelsNoted.{by_label}
use Rattle.kt_protocol.proofs.Updates.{is_same, is_other}
use Rattle.kt_protocol.proofs.Weights.{weigh, one_app}
use Rattle.kt_protocol.specs.Deciding.{after_deciding_as}
use Rattle.kt_protocol.specs.Parcels.{Parcel, messages_where, kept_where, put_back, emptied}
use Rattle.kt_protocol.specs.States.{State}
use Rattle.kt_protocol.specs.Summary.{summary_after, is_undone}
use Rattle.kt_protocol.specs.LateClosing.{is_within_label, is_newer, late_deciding_as}
use Rattle.kt_protocol.specs.OnceClosed.{has_to_close, has_to_save, has_to_restore, kept_once_closed, held_once_closed, once_closed}
use Rattle.kt_protocol.proofs.MessageLists.{where_same}
use Rattle.kt_protocol.proofs.SameStates.{same_fields}

module _ (c : State) (p k : ℕ) (g : Invariant (once_closed c)) (pos : 0 < k) (d : c.so_far.is_decided k ≡ false) where
  pub member : (u : ℕ) → c.so_far.joined k u ≡ true → c.so_far.open_in u ≡ k
  member u j = g.positions.member_open k u j d

  pub outside : (u : ℕ) → c.so_far.joined k u ≡ false → c.so_far.open_in u ≢ k
  outside u j e = let x = g.positions.open_joined k u pos e in absurd (cc (x, j))

  -- an abort asks nothing of anybody
  pub due_abort : (u : ℕ) → has_to_close (summary_after c.so_far (Decided p k false)) u ≡ has_to_close c.so_far u
  due_abort u = go (c.so_far.open_in u) (c.so_far.open_in u == k) refl
    where
      flat : (a x b : Bool) → x ≡ false → (a && false) ≡ (a && (x && b))
      flat true x b e = rw e refl
      flat false x b e = refl

      go : (o : ℕ) (b : Bool) → (o == k) ≡ b → (not (o == 0) && ((if b then true else c.so_far.is_decided o) && (if b then false else c.so_far.is_committed o))) ≡ (not (o == 0) && (c.so_far.is_decided o && c.so_far.is_committed o))
      go o false e = refl
      go o true e = flat (not (o == 0)) (c.so_far.is_decided o) (c.so_far.is_committed o) (ap c.so_far.is_decided (same o k e) ∙ d)

  pub once_closed_aborting : (roll : Bool) → once_closed (late_deciding_as false roll c p k) ≡ after_deciding_as false roll (once_closed c) p k
  once_closed_aborting roll = same_fields (late_deciding_as false roll c p k)
      (λ u v. ap (λ (r : Bool). if r && c.so_far.is_rollback (c.so_far.open_in u) then 0 else c.first_sent u v) (due_abort u))
      (λ u v. ap (λ (r : Bool). if r && c.so_far.is_rollback (c.so_far.open_in u) then 0 else c.last_received u v) (due_abort u))
      (λ u v. ap (λ (r : Bool). if r && not (c.so_far.is_rollback (c.so_far.open_in u)) then c.latest_sent u v else c.last_sent u v) (due_abort u))
      (λ a u. ap (λ (r : Bool). kept_once_closed (r && not (c.so_far.is_rollback (c.so_far.open_in u))) (r && c.so_far.is_rollback (c.so_far.open_in u)) (is_newer c u) (c.kept a u)) (due_abort u))
      (λ a u. ap (λ (r : Bool). held_once_closed (r && c.so_far.is_rollback (c.so_far.open_in u)) (is_within_label c (c.so_far.open_in u) u a) (c.kept a u) (c.held a u)) (due_abort u))

  -- a commit: who has to close an instance then
  unfoldable pub then_due : ℕ → Bool
  then_due u = not (c.so_far.open_in u == 0) && ((if c.so_far.open_in u == k then true else c.so_far.is_decided (c.so_far.open_in u)) && (if c.so_far.open_in u == k then true else c.so_far.is_committed (c.so_far.open_in u)))

  pub chosen : (u : ℕ) → c.so_far.joined k u ≡ true → then_due u ≡ true
  unfolding then_due
  chosen u j = rw (member u j, is_same k) (grind (arith, nat_tests, pos))

  pub before : (u : ℕ) → c.so_far.joined k u ≡ true → has_to_close c.so_far u ≡ false
  before u j = rw (member u j, d) (grind (arith, nat_tests, pos))

  pub others : (u : ℕ) → c.so_far.joined k u ≡ false → then_due u ≡ has_to_close c.so_far u
  unfolding then_due
  others u j = rw (is_other (c.so_far.open_in u) k (outside u j)) refl

  pub saving_is : (u : ℕ) (x b roll : Bool) → x ≡ b → c.so_far.open_in u ≡ k → c.so_far.is_rollback k ≡ roll → (x && not (c.so_far.is_rollback (c.so_far.open_in u))) ≡ (b && not roll)
  saving_is u x b roll e o r = rw (e, o, r) refl

  restoring_is : (u : ℕ) (x b roll : Bool) → x ≡ b → c.so_far.open_in u ≡ k → c.so_far.is_rollback k ≡ roll → (x && c.so_far.is_rollback (c.so_far.open_in u)) ≡ (b && roll)
  restoring_is u x b roll e o r = rw (e, o, r) refl

  unfoldable pub saving_then : ℕ → Bool
  saving_then u = then_due u && not (c.so_far.is_rollback (c.so_far.open_in u))

  restoring_then : ℕ → Bool
  restoring_then u = then_due u && c.so_far.is_rollback (c.so_far.open_in u)

  pub not_saving : (u : ℕ) → c.so_far.joined k u ≡ true → has_to_save c.so_far u ≡ false
  not_saving u j = ap (λ (r : Bool). r && not (c.so_far.is_rollback (c.so_far.open_in u))) (before u j)

  not_restoring : (u : ℕ) → c.so_far.joined k u ≡ true → has_to_restore c.so_far u ≡ false
  not_restoring u j = ap (λ (r : Bool). r && c.so_far.is_rollback (c.so_far.open_in u)) (before u j)

  pub saving_other : (u : ℕ) → c.so_far.joined k u ≡ false → saving_then u ≡ has_to_save c.so_far u
  unfolding saving_then
  saving_other u j = ap (λ (r : Bool). r && not (c.so_far.is_rollback (c.so_far.open_in u))) (others u j)

  restoring_other : (u : ℕ) → c.so_far.joined k u ≡ false → restoring_then u ≡ has_to_restore c.so_far u
  unfolding restoring_then
  restoring_other u j = ap (λ (r : Bool). r && c.so_far.is_rollback (c.so_far.open_in u)) (others u j)

  kept_here : (u a : ℕ) → c.so_far.joined k u ≡ true → (once_closed c).kept a u ≡ c.kept a u
  kept_here u a j = ap₂ (λ (s r : Bool). kept_once_closed s r (is_newer c u) (c.kept a u)) (not_saving u j) (not_restoring u j)

  held_here : (u a : ℕ) → c.so_far.joined k u ≡ true → (once_closed c).held a u ≡ c.held a u
  held_here u a j = ap (λ (r : Bool). held_once_closed r (is_within_label c (c.so_far.open_in u) u a) (c.kept a u) (c.held a u)) (not_restoring u j)

  pub kept_facts : (u a m : ℕ) → c.so_far.joined k u ≡ true → 0 < weigh (one_app m) (c.kept a u) → (c.so_far.is_received m ≡ true) × (c.so_far.from m ≡ a) × (c.so_far.to m ≡ u)
  kept_facts u a m j w = let x : 0 < weigh (one_app m) ((once_closed c).kept a u) = subst (λ (l : List Parcel). 0 < weigh (one_app m) l) (sym (kept_here u a j)) w in
      facts (weigh (one_app m) ((once_closed c).kept a u)) (c.so_far.is_received m) (c.so_far.from m) (c.so_far.to m) (nat_le (c.so_far.permanent u) (c.so_far.received_at m)) (g.messages.kept_is m u a) x
    where
      facts : (n : ℕ) (b : Bool) (f t : ℕ) (l : Bool) → n ≡ one (b && f == a && t == u && l) → 0 < n → (b ≡ true) × (f ≡ a) × (t ≡ u)
      facts n b f t l e w = grind (arith, nat_tests, e, w)

  -- of a checkpoint
  module _ (r : c.so_far.is_rollback k ≡ false) where
    -- what is newer is so by the new position
    newer_is : (u a m : ℕ) → c.so_far.joined k u ≡ true → 0 < weigh (one_app m) (c.kept a u) → is_newer c u m ≡ nat_le (c.so_far.new k (c.so_far.to m)) (c.so_far.received_at m)
    newer_is u a m j w = rw ((kept_facts u a m j w).2, g.positions.open_saved k u pos (member u j) r) refl

    pub once_closed_committing_checkpoint : once_closed (late_deciding_as true false c p k) ≡ after_deciding_as true false (once_closed c) p k
    unfolding kept_where saving_then restoring_then then_due
    once_closed_committing_checkpoint = same_fields (late_deciding_as true false c p k)
        (λ u v. ap (λ (b : Bool). if b then 0 else c.first_sent u v) (restoring u))
        (λ u v. ap (λ (b : Bool). if b then 0 else c.last_received u v) (restoring u))
        (λ u v. label u v (c.so_far.joined k u) refl)
        (λ a u. kept a u (c.so_far.joined k u) refl)
        (λ a u. ap (λ (b : Bool). held_once_closed b (is_within_label c (c.so_far.open_in u) u a) (c.kept a u) (c.held a u)) (restoring u))
      where
        restoring : (u : ℕ) → restoring_then u ≡ has_to_restore c.so_far u
        restoring u = go (c.so_far.joined k u) refl
          where
            go : (b : Bool) → c.so_far.joined k u ≡ b → restoring_then u ≡ has_to_restore c.so_far u
            go true j = restoring_is u (then_due u) true false (chosen u j) (member u j) r ∙ sym (not_restoring u j)
            go false j = restoring_other u j

        saving : (u : ℕ) → c.so_far.joined k u ≡ true → saving_then u ≡ true
        saving u j = saving_is u (then_due u) true false (chosen u j) (member u j) r

        label : (u v : ℕ) (b : Bool) → c.so_far.joined k u ≡ b → (if saving_then u then c.latest_sent u v else c.last_sent u v) ≡ (if b then c.latest_sent u v else if has_to_save c.so_far u then c.latest_sent u v else c.last_sent u v)
        label u v true j = ap (λ (s : Bool). if s then c.latest_sent u v else c.last_sent u v) (saving u j)
        label u v false j = ap (λ (s : Bool). if s then c.latest_sent u v else c.last_sent u v) (saving_other u j)

        kept : (a u : ℕ) (b : Bool) → c.so_far.joined k u ≡ b → kept_once_closed (saving_then u) (restoring_then u) (is_newer c u) (c.kept a u) ≡ (if b then messages_where (λ m. nat_le (c.so_far.new k (c.so_far.to m)) (c.so_far.received_at m)) ((once_closed c).kept a u) else (once_closed c).kept a u)
        kept a u true j = ap (λ (s : Bool). kept_once_closed s (restoring_then u) (is_newer c u) (c.kept a u)) (saving u j) ∙
            (where_same (is_newer c u) (λ m. nat_le (c.so_far.new k (c.so_far.to m)) (c.so_far.received_at m)) (c.kept a u) (λ m w. newer_is u a m j w) ∙
            ap (λ (l : List Parcel). messages_where (λ m. nat_le (c.so_far.new k (c.so_far.to m)) (c.so_far.received_at m)) l) (sym (kept_here u a j)))
        kept a u false j = ap₂ (λ (s b : Bool). kept_once_closed s b (is_newer c u) (c.kept a u)) (saving_other u j) (restoring_other u j)

  -- of a rollback
  module _ (r : c.so_far.is_rollback k ≡ true) (w : c.so_far.has_unwilling k ≡ false) (none_awaited : (u v : ℕ) → c.awaits k u v ≡ false) where
    -- the label that u noted tells what is undone, of what u received or holds
    within_is : (u a m : ℕ) → c.so_far.is_sent m ≡ true → c.so_far.from m ≡ a → c.so_far.to m ≡ u → (c.so_far.is_received m ≡ false → weigh (one_app m) ((once_closed c).held a u) ≡ 0 → ⊥) → is_within_label c k u a m ≡ not (is_undone c.so_far k m)
    within_is u a m s f t away = go (c.noted k u a) refl
      where
        unnoted : (b : Bool) → is_undone c.so_far k m ≡ b → c.noted k u a ≡ false → b ≡ false
        unnoted false e n = refl
        unnoted true e n = let x = (received_by_members (once_closed c) k g d r w none_awaited m s e).1 in elim x [
          | inl y ↦ (let z : c.noted k u a ≡ true = rw (t, f) at y.1 in absurd (cc (z, n)))
          | inr y ↦ (let z : weigh (one_app m) ((once_closed c).held a u) ≡ 0 = rw (f, t) at y.1 in absurd (away y.0 z))
        ]

        go : (b : Bool) → c.noted k u a ≡ b → not (b && nat_lt (c.noted_label k u a) m) ≡ not (is_undone c.so_far k m)
        go true n = ap not (sym (by_label (once_closed c) k u a m g n d r s f t))
        go false n = ap not (sym (unnoted (is_undone c.so_far k m) refl n))

    kept_within : (u a : ℕ) → c.so_far.joined k u ≡ true → messages_where (is_within_label c (c.so_far.open_in u) u a) (c.kept a u) ≡ messages_where (λ m. not (is_undone c.so_far k m)) (c.kept a u)
    kept_within u a j = ap (λ (i : ℕ). messages_where (is_within_label c i u a) (c.kept a u)) (member u j) ∙ where_same (is_within_label c k u a) (λ m. not (is_undone c.so_far k m)) (c.kept a u)
        (λ m x. let f = kept_facts u a m j x in within_is u a m (g.messages.received_low m f.0).0 f.1 f.2 (λ n _. absurd (cc (f.0, n))))

    held_facts : (u a m : ℕ) → 0 < weigh (one_app m) ((once_closed c).held a u) → (c.so_far.is_sent m ≡ true) × (c.so_far.from m ≡ a) × (c.so_far.to m ≡ u)
    held_facts u a m x = facts (weigh (one_app m) (c.channel a u)) (weigh (one_app m) ((once_closed c).held a u)) (c.so_far.is_sent m) (not (c.so_far.is_received m)) (not (c.so_far.dropped m)) (c.so_far.from m) (c.so_far.to m) (g.messages.flying m a u) x
      where
        facts : (n l : ℕ) (b e i : Bool) (f t : ℕ) → n + l ≡ one (b && e && i && f == a && t == u) → 0 < l → (b ≡ true) × (f ≡ a) × (t ≡ u)
        facts n l b e i f t z w = grind (arith, nat_tests, z, w)

    held_within : (u a : ℕ) → c.so_far.joined k u ≡ true → messages_where (is_within_label c (c.so_far.open_in u) u a) (c.held a u) ≡ messages_where (λ m. not (is_undone c.so_far k m)) (c.held a u)
    held_within u a j = ap (λ (i : ℕ). messages_where (is_within_label c i u a) (c.held a u)) (member u j) ∙ where_same (is_within_label c k u a) (λ m. not (is_undone c.so_far k m)) (c.held a u)
        (λ m x. let y : 0 < weigh (one_app m) ((once_closed c).held a u) = subst (λ (l : List Parcel). 0 < weigh (one_app m) l) (sym (held_here u a j)) x in
        let f = held_facts u a m y in within_is u a m f.0 f.1 f.2 (λ _ z. absurd (omega (arith, y, z))))

    pub once_closed_committing_rollback : once_closed (late_deciding_as true true c p k) ≡ after_deciding_as true true (once_closed c) p k
    unfolding put_back emptied saving_then restoring_then then_due
    once_closed_committing_rollback = same_fields (late_deciding_as true true c p k)
        (λ u v. zero_at u (c.first_sent u v) (c.so_far.joined k u) refl)
        (λ u v. zero_at u (c.last_received u v) (c.so_far.joined k u) refl)
        (λ u v. ap (λ (s : Bool). if s then c.latest_sent u v else c.last_sent u v) (saving u))
        (λ a u. kept a u (c.so_far.joined k u) refl)
        (λ a u. held a u (c.so_far.joined k u) refl)
      where
        saving : (u : ℕ) → saving_then u ≡ has_to_save c.so_far u
        saving u = go (c.so_far.joined k u) refl
          where
            go : (b : Bool) → c.so_far.joined k u ≡ b → saving_then u ≡ has_to_save c.so_far u
            go true j = saving_is u (then_due u) true true (chosen u j) (member u j) r ∙ sym (not_saving u j)
            go false j = saving_other u j

        restoring : (u : ℕ) → c.so_far.joined k u ≡ true → restoring_then u ≡ true
        restoring u j = restoring_is u (then_due u) true true (chosen u j) (member u j) r

        zero_at : (u x : ℕ) (b : Bool) → c.so_far.joined k u ≡ b → (if restoring_then u then 0 else x) ≡ (if b then 0 else if has_to_restore c.so_far u then 0 else x)
        zero_at u x true j = ap (λ (s : Bool). if s then 0 else x) (restoring u j)
        zero_at u x false j = ap (λ (s : Bool). if s then 0 else x) (restoring_other u j)

        kept : (a u : ℕ) (b : Bool) → c.so_far.joined k u ≡ b → kept_once_closed (saving_then u) (restoring_then u) (is_newer c u) (c.kept a u) ≡ (if b then [] else (once_closed c).kept a u)
        kept a u true j = ap₂ (λ (s b : Bool). kept_once_closed s b (is_newer c u) (c.kept a u)) (saving u ∙ not_saving u j) (restoring u j)
        kept a u false j = ap₂ (λ (s b : Bool). kept_once_closed s b (is_newer c u) (c.kept a u)) (saving u) (restoring_other u j)

        held : (a u : ℕ) (b : Bool) → c.so_far.joined k u ≡ b → held_once_closed (restoring_then u) (is_within_label c (c.so_far.open_in u) u a) (c.kept a u) (c.held a u) ≡ (if b then messages_where (λ m. not (is_undone c.so_far k m)) ((once_closed c).kept a u) ++ messages_where (λ m. not (is_undone c.so_far k m)) ((once_closed c).held a u) else (once_closed c).held a u)
        held a u true j = ap (λ (s : Bool). held_once_closed s (is_within_label c (c.so_far.open_in u) u a) (c.kept a u) (c.held a u)) (restoring u j) ∙
            ap₂ (λ (x y : List Parcel). x ++ y) (kept_within u a j ∙ ap (λ (l : List Parcel). messages_where (λ m. not (is_undone c.so_far k m)) l) (sym (kept_here u a j)))
            (held_within u a j ∙ ap (λ (l : List Parcel). messages_where (λ m. not (is_undone c.so_far k m)) l) (sym (held_here u a j)))
        held a u false j = ap (λ (s : Bool). held_once_closed s (is_within_label c (c.so_far.open_in u) u a) (c.kept a u) (c.held a u)) (restoring_other u j)
