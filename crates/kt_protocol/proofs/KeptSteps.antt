-- What is known of the lists of a late state c: kept by each transition.
use Rattle.std.proofs.Common.{◌≡◌, ◌≢◌, ℕ, ℤ, ◌+◌, ◌<◌, Bool, true, false, not, List, [], ◌∷◌, ◌++◌, refl, arith, sym, ap, ap₂, subst, inl, inr, ◌⊎◌, ◌∙◌}
use Rattle.std.specs.Prelude.{◌==◌, ◌&&◌, nat_le, if◌then◌else◌}
use Rattle.std.proofs.lemmas.Bool.{cases_eq}
use Rattle.std.proofs.lemmas.Bool.Decides.{nat_tests}
use Rattle.kt_protocol.proofs.Choices.{same, both}
use Rattle.kt_protocol.proofs.Invariant.{Invariant, one}
use Rattle.kt_protocol.proofs.Updates.{is_same, is_other}
use Rattle.kt_protocol.proofs.Weights.{weigh, one_app, weigh_with_parcel}
use Rattle.kt_protocol.specs.Joining.{after_began, after_joining_checkpoint, after_joining_rollback}
use Rattle.kt_protocol.specs.Messages.{after_sending, after_receiving, after_dropping, after_arrival}
use Rattle.kt_protocol.specs.Parcels.{Parcel, App, Lists, messages_where, with_parcel}
use Rattle.kt_protocol.specs.States.{State}
use Rattle.kt_protocol.specs.Summary.{summary_began, is_unreceived}
use Rattle.kt_protocol.specs.LateClosing.{is_newer, is_within_label, late_deciding_as, late_closing_checkpoint, late_closing_rollback, late_closing}
use Rattle.kt_protocol.specs.OnceClosed.{has_to_close, has_to_save, has_to_restore, kept_once_closed, once_closed}
use Rattle.kt_protocol.specs.KeptInOrder.{is_in_checkpoint, IsParted, has_only_messages}
use Rattle.kt_protocol.proofs.MessageLists.{parted_push, parted_same, parted_older, only_with_parcel, only_where, only_append}
use Rattle.kt_protocol.proofs.SameStates.{closed_no_save, closed_no_restore}
use Rattle.kt_protocol.proofs.KeptLists.{KeptLists}
use Rattle.kt_protocol.proofs.LateJoining.{save_began, joining_due}
use Rattle.kt_protocol.proofs.LateDeciding.{due_abort, member, saving_other, kept_facts, saving_then, saving_is, chosen, then_due}
use Rattle.kt_protocol.proofs.LateClosing.{then_saving, then_open, saving_here, saving_there}

pub kept_sending : (c : State) (p q : ℕ) (body : ℤ) → Invariant (once_closed c) → KeptLists c → KeptLists (after_sending c p q body)
kept_sending c p q body g d = record { received = λ u a m s w. let x = d.received u a m s w in (x.0, rw (is_other m (c.so_far.rows + 1) (low m x.0)) x.1); parted = d.parted; kept_messages = d.kept_messages; held_messages = d.held_messages }
  where
    low : (m : ℕ) → c.so_far.is_received m ≡ true → m ≢ c.so_far.rows + 1
    low m a e = let x = (g.messages.sent_low m (g.messages.received_low m a).0).1 in absurd (omega (arith, x, e))

-- who is in a checkpoint received what is kept for it
pub kept_received : (c : State) (u a i : ℕ) → Invariant (once_closed c) → KeptLists c → is_in_checkpoint c.so_far u ≡ true → 0 < weigh (one_app i) (c.kept a u) → c.so_far.is_received i ≡ true
kept_received c u a i g d s w = go (has_to_save c.so_far u) refl
  where
    no_roll : (o r x : Bool) → (o && not r) ≡ true → (x && r) ≡ false
    no_roll o true x e = absurd (never o e)
      where
        never : (o : Bool) → (o && false) ≡ true → ⊥
        never true e = absurd (cc)
        never false e = absurd (cc)
    no_roll o false true e = refl
    no_roll o false false e = refl

    front : (b x : Bool) (n : ℕ) → n ≡ one (b && x) → 0 < n → b ≡ true
    front true x n e w = refl
    front false x n e w = absurd (omega (arith, e, w))

    go : (b : Bool) → has_to_save c.so_far u ≡ b → c.so_far.is_received i ≡ true
    go true e = (d.received u a i e w).0
    go false e =
        let z : (once_closed c).kept a u ≡ c.kept a u = ap₂ (λ (x y : Bool). kept_once_closed x y (is_newer c u) (c.kept a u)) e (no_roll (not (c.so_far.open_in u == 0)) (c.so_far.is_rollback (c.so_far.open_in u)) (has_to_close c.so_far u) s) in
        let w' : 0 < weigh (one_app i) ((once_closed c).kept a u) = subst (λ (l : List Parcel). 0 < weigh (one_app i) l) (sym z) w in
        facts (weigh (one_app i) ((once_closed c).kept a u)) (c.so_far.is_received i) (c.so_far.from i == a) (c.so_far.to i == u) (nat_le (c.so_far.permanent u) (c.so_far.received_at i)) (g.messages.kept_is i u a) w'
      where
        facts : (n : ℕ) (b x y z : Bool) → n ≡ one (b && x && y && z) → 0 < n → b ≡ true
        facts n true x y z e w = refl
        facts n false x y z e w = absurd (omega (arith, e, w))

pub kept_arrival : (c : State) (channel hc : Lists) (p q m : ℕ) → c.so_far.to m ≡ p → c.so_far.is_received m ≡ false → ((a u : ℕ) → has_only_messages (hc a u) ≡ true) → Invariant (once_closed c) → KeptLists c → KeptLists (after_arrival c channel hc p q m)
unfolding with_parcel
kept_arrival c channel hc p q m t new only g d = at_test (c.up p)
  where
    split : (n a u : ℕ) (b : Bool) → (a == q && u == p) ≡ b → 0 < weigh (one_app n) (c.kept a u) + (if b then (if m == n then 1 else 0) else 0) → (0 < weigh (one_app n) (c.kept a u)) ⊎ ((u ≡ p) × (n ≡ m))
    split n a u true e w = elim (cases_eq n m) [ inl f ↦ inr (same u p (both (a == q) (u == p) e).1, f) | inr f ↦ inl (more f) ]
      where
        more : n ≢ m → 0 < weigh (one_app n) (c.kept a u)
        more f = let x : 0 < weigh (one_app n) (c.kept a u) + (if m == n then 1 else 0) = w in plain (weigh (one_app n) (c.kept a u)) x
          where
            plain : (l : ℕ) → 0 < l + (if m == n then 1 else 0) → 0 < l
            plain l x = grind (arith, nat_tests, x, f)
    split n a u false e w = inl (omega (arith, w))

    now : (n : ℕ) → c.so_far.is_received n ≡ true → (if n == m then true else c.so_far.is_received n) ≡ true
    now n e = go (n == m)
      where
        go : (b : Bool) → (if b then true else c.so_far.is_received n) ≡ true
        go true = refl
        go false = e

    newer : ℕ → ℕ → Bool
    newer u i = nat_le (c.saved_at u) (if i == m then c.so_far.size p else c.so_far.received_at i)

    agree : (u a i : ℕ) → is_in_checkpoint c.so_far u ≡ true → 0 < weigh (one_app i) (c.kept a u) → is_newer c u i ≡ newer u i
    agree u a i s w = elim (cases_eq i m) [
      | inl f ↦ (let z : c.so_far.is_received m ≡ true = rw f at (kept_received c u a i g d s w) in absurd (cc (z, new)))
      | inr f ↦ rw (is_other i m f) refl
    ]

    low : (u : ℕ) → u ≡ p → newer u m ≡ true
    low u x = let z = (g.positions.saved_low p).1 in rw (x, is_same m) (grind (arith, nat_tests, z))

    parted_now : (u a : ℕ) → is_in_checkpoint c.so_far u ≡ true → IsParted (newer u) (with_parcel c.kept q p (App m) a u)
    parted_now u a s = go (a == q && u == p) refl
      where
        old : IsParted (newer u) (c.kept a u)
        old = parted_same (is_newer c u) (newer u) (c.kept a u) (λ i w. agree u a i s w) (d.parted u a s)

        go : (b : Bool) → (a == q && u == p) ≡ b → IsParted (newer u) (if b then c.kept a u ++ App m ∷ [] else c.kept a u)
        go true f = parted_push (newer u) (c.kept a u) m (low u (same u p (both (a == q) (u == p) f).1)) old
        go false f = old

    at_test : (b : Bool) → KeptLists (if b then after_receiving c channel hc p q m else after_dropping c channel hc p q m)
    at_test false = record { received = d.received; parted = d.parted; kept_messages = d.kept_messages; held_messages = only }
    at_test true = record {
      received = λ u a n s w. let w' : 0 < weigh (one_app n) (c.kept a u) + (if a == q && u == p then (if m == n then 1 else 0) else 0) = subst (λ (x : ℕ). 0 < x) (weigh_with_parcel (one_app n) c.kept q p (App m) a u) w in
          elim (split n a u (a == q && u == p) refl w') [
            | inl x ↦ (let f = d.received u a n s x in (now n f.0, f.1))
            | inr x ↦ (rw (x.1, is_same m) refl, rw (x.1, x.0) t)
          ];
      parted = λ u a s. parted_now u a s;
      kept_messages = only_with_parcel c.kept q p m d.kept_messages;
      held_messages = only;
    }

in_checkpoint_began : (c : State) (roll : Bool) (u : ℕ) → Invariant (once_closed c) → is_in_checkpoint (summary_began c.so_far (c.instances + 1) roll) u ≡ is_in_checkpoint c.so_far u
in_checkpoint_began c roll u g = rw (is_other (c.so_far.open_in u) (c.instances + 1) far) refl
  where
    far : c.so_far.open_in u ≢ c.instances + 1
    far e = let j = g.positions.open_joined (c.instances + 1) u (omega arith) e in let l = (g.positions.joined_instance (c.instances + 1) u j).1 in absurd (omega (arith, l))

pub kept_began : (c : State) (p : ℕ) (roll : Bool) → Invariant (once_closed c) → KeptLists c → KeptLists (after_began c p roll)
kept_began c p roll g d = record { received = λ u a m s w. d.received u a m (sym (save_began c roll u g) ∙ s) w; parted = λ u a s. d.parted u a (sym (in_checkpoint_began c roll u g) ∙ s); kept_messages = d.kept_messages; held_messages = d.held_messages }

pub kept_joining_checkpoint : (c : State) (p k : ℕ) (channel : Lists) (is_first : Bool) (par lnk : ℕ) → c.so_far.open_in p ≡ 0 → c.so_far.is_decided k ≡ false → Invariant (once_closed c) → KeptLists c → KeptLists (after_joining_checkpoint c channel p k is_first par lnk)
kept_joining_checkpoint c p k channel is_first par lnk o n g d = record { received = λ u a m s w. d.received u a m (sym (joining_due c.so_far p k o n u).0 ∙ s) w; parted = λ u a s. go u a (u == p) refl s; kept_messages = d.kept_messages; held_messages = d.held_messages }
  where
    facts : (n : ℕ) (b : Bool) (f a t u : ℕ) (l : Bool) → n ≡ one (b && f == a && t == u && l) → 0 < n → (b ≡ true) × (t ≡ u)
    facts n b f a t u l e w = grind (arith, nat_tests, e, w)

    older : (u a m : ℕ) → u ≡ p → 0 < weigh (one_app m) (c.kept a u) → nat_le (c.so_far.size p) (c.so_far.received_at m) ≡ false
    older u a m x w =
        let z : (once_closed c).kept a u ≡ c.kept a u = ap₂ (λ (x y : Bool). kept_once_closed x y (is_newer c u) (c.kept a u)) (ap (has_to_save c.so_far) x ∙ closed_no_save c.so_far p o) (ap (has_to_restore c.so_far) x ∙ closed_no_restore c.so_far p o) in
        let w' : 0 < weigh (one_app m) ((once_closed c).kept a u) = subst (λ (l : List Parcel). 0 < weigh (one_app m) l) (sym z) w in
        let f = facts (weigh (one_app m) ((once_closed c).kept a u)) (c.so_far.is_received m) (c.so_far.from m) a (c.so_far.to m) u (nat_le (c.so_far.permanent u) (c.so_far.received_at m)) (g.messages.kept_is m u a) w' in
        let b : c.so_far.received_at m < c.so_far.size p = rw (f.1, x) at (g.messages.received_low m f.0).1 in plain (c.so_far.size p) (c.so_far.received_at m) b
      where
        plain : (x y : ℕ) → y < x → nat_le x y ≡ false
        plain x y b = grind (arith, nat_tests, b)

    go : (u a : ℕ) (b : Bool) → (u == p) ≡ b → (not ((if b then k else c.so_far.open_in u) == 0) && not (c.so_far.is_rollback (if b then k else c.so_far.open_in u))) ≡ true → IsParted (λ m. nat_le (if b then c.so_far.size p else c.saved_at u) (c.so_far.received_at m)) (c.kept a u)
    go u a true e s = parted_older (λ m. nat_le (c.so_far.size p) (c.so_far.received_at m)) (c.kept a u) (d.kept_messages a u) (λ m w. older u a m (same u p e) w)
    go u a false e s = d.parted u a s

pub kept_joining_rollback : (c : State) (p k : ℕ) (channel : Lists) (is_first : Bool) (par lnk : ℕ) → c.so_far.open_in p ≡ 0 → c.so_far.is_decided k ≡ false → c.so_far.is_rollback k ≡ true → KeptLists c → KeptLists (after_joining_rollback c channel p k is_first par lnk)
kept_joining_rollback c p k channel is_first par lnk o n r d = record { received = λ u a m s w. d.received u a m (sym (joining_due c.so_far p k o n u).0 ∙ s) w; parted = λ u a s. go u a (u == p) s; kept_messages = d.kept_messages; held_messages = d.held_messages }
  where
    none : (x y : Bool) → y ≡ true → (x && not y) ≡ true → ⊥
    none true true e s = absurd (cc)
    none false true e s = absurd (cc)
    none x false e s = absurd (cc (e))

    go : (u a : ℕ) (b : Bool) → (not ((if b then k else c.so_far.open_in u) == 0) && not (c.so_far.is_rollback (if b then k else c.so_far.open_in u))) ≡ true → IsParted (is_newer c u) (c.kept a u)
    go u a true s = absurd (none (not (k == 0)) (c.so_far.is_rollback k) r s)
    go u a false s = d.parted u a s

pub kept_deciding : (c : State) (p k : ℕ) (w roll : Bool) → Invariant (once_closed c) → 0 < k → c.so_far.is_decided k ≡ false → c.so_far.is_rollback k ≡ roll → KeptLists c → KeptLists (late_deciding_as w roll c p k)
unfolding saving_then then_due
kept_deciding c p k false roll g pos n r d = record { received = λ u a m s w. d.received u a m (ap (λ (b : Bool). b && not (c.so_far.is_rollback (c.so_far.open_in u))) (sym (due_abort c p k g pos n u)) ∙ s) w; parted = d.parted; kept_messages = d.kept_messages; held_messages = d.held_messages }
kept_deciding c p k true false g pos n r d = record { received = λ u a m s w. go u a m s w (c.so_far.joined k u) refl; parted = d.parted; kept_messages = d.kept_messages; held_messages = d.held_messages }
  where
    go : (u a m : ℕ) → saving_then c p k g pos n u ≡ true → 0 < weigh (one_app m) (c.kept a u) → (b : Bool) → c.so_far.joined k u ≡ b → (c.so_far.is_received m ≡ true) × (c.so_far.to m ≡ u)
    go u a m s w true j = let x = kept_facts c p k g pos n u a m j w in (x.0, x.2)
    go u a m s w false j = d.received u a m (sym (saving_other c p k g pos n u j) ∙ s) w
kept_deciding c p k true true g pos n r d = record { received = λ u a m s w. go u a m s w (c.so_far.joined k u) refl; parted = d.parted; kept_messages = d.kept_messages; held_messages = d.held_messages }
  where
    alive : (u m : ℕ) → c.so_far.joined k u ≡ false → c.so_far.is_received m ≡ true → c.so_far.to m ≡ u → (c.so_far.is_received m && not (is_unreceived c.so_far k m)) ≡ true
    alive u m j a t = rw (a, t, j) refl

    go : (u a m : ℕ) → saving_then c p k g pos n u ≡ true → 0 < weigh (one_app m) (c.kept a u) → (b : Bool) → c.so_far.joined k u ≡ b → ((c.so_far.is_received m && not (is_unreceived c.so_far k m)) ≡ true) × (c.so_far.to m ≡ u)
    go u a m s w true j = let x = saving_is c p k g pos n u (then_due c p k g pos n u) true true (chosen c p k g pos n u j) (member c p k g pos n u j) r in absurd (cc (x, s))
    go u a m s w false j = let x = d.received u a m (sym (saving_other c p k g pos n u j) ∙ s) w in (alive u m j x.0 x.1, x.1)

pub kept_closing : (c : State) (p k : ℕ) (w : Bool) → 0 < k → c.so_far.open_in p ≡ k → c.so_far.is_decided k ≡ true → KeptLists c → KeptLists (late_closing c p k w)
unfolding then_saving then_open
kept_closing c p k w pos o n d = go w (c.so_far.is_rollback k)
  where
    kept_at : (u a m : ℕ) (b : Bool) (l : List Parcel) → (u == p) ≡ b → then_saving c p k pos o n u ≡ true → 0 < weigh (one_app m) (if b then l else c.kept a u) → (c.so_far.is_received m ≡ true) × (c.so_far.to m ≡ u)
    kept_at u a m true l e s w = let x = saving_here c p k pos o n u e in absurd (cc (x, s))
    kept_at u a m false l e s w = d.received u a m (sym (saving_there c p k pos o n u e) ∙ s) w

    parted_at : (u a : ℕ) (b : Bool) (l : List Parcel) → (not ((if b then 0 else c.so_far.open_in u) == 0) && not (c.so_far.is_rollback (if b then 0 else c.so_far.open_in u))) ≡ true → IsParted (is_newer c u) (if b then l else c.kept a u)
    parted_at u a true l s = absurd (cc (s))
    parted_at u a false l s = d.parted u a s

    parted_kept : (u a : ℕ) (b : Bool) → (not ((if b then 0 else c.so_far.open_in u) == 0) && not (c.so_far.is_rollback (if b then 0 else c.so_far.open_in u))) ≡ true → IsParted (is_newer c u) (c.kept a u)
    parted_kept u a true s = absurd (cc (s))
    parted_kept u a false s = d.parted u a s

    parted_undone : (u a : ℕ) (b : Bool) → (not ((if b then 0 else c.so_far.open_in u) == 0) && not (c.so_far.is_rollback (if b then 0 else c.so_far.open_in u))) ≡ true → IsParted (λ m. nat_le (if b then c.own_permanent p else c.saved_at u) (c.so_far.received_at m)) (c.kept a u)
    parted_undone u a true s = absurd (cc (s))
    parted_undone u a false s = d.parted u a s

    messages_at : (a u : ℕ) (b : Bool) (l : List Parcel) → has_only_messages l ≡ true → has_only_messages (if b then l else c.kept a u) ≡ true
    messages_at a u true l h = h
    messages_at a u false l h = d.kept_messages a u

    held_at : (a u : ℕ) (b : Bool) → has_only_messages (if b then messages_where (is_within_label c k u a) (c.kept a u) ++ messages_where (is_within_label c k u a) (c.held a u) else c.held a u) ≡ true
    held_at a u true = only_append (messages_where (is_within_label c k u a) (c.kept a u)) (messages_where (is_within_label c k u a) (c.held a u)) (only_where (is_within_label c k u a) (c.kept a u)) (only_where (is_within_label c k u a) (c.held a u))
    held_at a u false = d.held_messages a u

    same_list : (b : Bool) (l : List Parcel) (m : ℕ) → 0 < weigh (one_app m) l → 0 < weigh (one_app m) (if b then l else l)
    same_list true l m w = w
    same_list false l m w = w

    go : (w r : Bool) → KeptLists (if r then late_closing_rollback c p k w else late_closing_checkpoint c p k w)
    go true true = record { received = λ u a m s w. kept_at u a m (u == p) [] refl s w; parted = λ u a s. parted_at u a (u == p) [] s; kept_messages = λ a u. messages_at a u (u == p) [] refl; held_messages = λ a u. held_at a u (u == p) }
    go true false = record { received = λ u a m s w. kept_at u a m (u == p) (messages_where (is_newer c u) (c.kept a u)) refl s w; parted = λ u a s. parted_at u a (u == p) (messages_where (is_newer c u) (c.kept a u)) s; kept_messages = λ a u. messages_at a u (u == p) (messages_where (is_newer c u) (c.kept a u)) (only_where (is_newer c u) (c.kept a u)); held_messages = d.held_messages }
    go false true = record { received = λ u a m s w. kept_at u a m (u == p) (c.kept a u) refl s (same_list (u == p) (c.kept a u) m w); parted = λ u a s. parted_kept u a (u == p) s; kept_messages = d.kept_messages; held_messages = d.held_messages }
    go false false = record { received = λ u a m s w. kept_at u a m (u == p) (c.kept a u) refl s (same_list (u == p) (c.kept a u) m w); parted = λ u a s. parted_undone u a (u == p) s; kept_messages = d.kept_messages; held_messages = d.held_messages }
