-- Tallies are the same by what code has.
use Rattle.std.proofs.Common.{◌≡◌, ℕ, ℤ, ◌+◌, ◌-◌, Bool, true, false, List, [], ◌∷◌, refl, arith, sym, ap, ap₂, ◌∙◌}
use Rattle.std.specs.Prelude.{◌==◌, ◌&&◌, not, if◌then◌else◌}
use Rattle.kt_fifo.specs.declared.parcels.Parcel.{Parcel as CodeParcel}
use Rattle.kt_protocol.specs.Parcels.{Parcel, App, Ask, Reply, Decide}
use Rattle.kt_protocol.specs.States.{State}
use Rattle.kt_protocol.specs.States as machine
use Rattle.kt_protocol.specs.Parcels as protocol_parcels
use Rattle.kt_machine.specs.Labelling.{labelling}
use Rattle.kt_machine.specs.Seen.{seen_parcel, seen_parcels, no_part, part_of, seen}
use Rattle.kt_machine.specs.Transition as seen_transition
use Rattle.kt_plan.specs.declared.steps.Step.{Step}
use Rattle.kt_plan.specs.declared.steps.Step.TheVariants.{Do, Take}
use Rattle.kt_promises.specs.Tallies.{total_below, Tallies, is_ask_of, is_reply_of, is_decision_of, count_where, count_in_channels, count_in_front, taken_off, raised, raised_tally, IsRaised}
use Rattle.kt_fifo.specs.Queues.{has_parcel}
use Rattle.kt_promises.proofs.MachineTallies.{IsTallied, machine_count_in_channels, machine_count_in_front, machine_count_where, machine_is_ask_of, machine_is_decision_of, machine_is_reply_of, machine_taken_off}

abbrev Same : (CodeParcel → Bool) → (Parcel → Bool) → State → ℕ → Type 0
Same t' t s first = (x : Parcel) → t' (seen_parcel (labelling first s.log).label (labelling first s.log).body s.so_far.is_rollback x) ≡ t x

any_same : (label : ℕ → ℕ) (body : ℕ → ℤ) (roll : ℕ → Bool) (l : List Parcel) → has_parcel (seen_parcels label body roll l) ≡ protocol_parcels.has_parcel l
unfolding seen_parcels
any_same label body roll [] = refl
any_same label body roll (x ∷ xs) = refl

pub ready_same : (first : ℕ) (s : State) (p : ℕ) → seen_transition.is_seen_ready (seen first s) p ≡ machine.is_ready s p
ready_same first s p = go (s.so_far.open_in p == 0)
  where
    go : (b : Bool) → (not b && (if b then no_part else part_of (labelling first s.log) s p (s.so_far.open_in p)).is_rollback) ≡ (not b && s.so_far.is_rollback (s.so_far.open_in p))
    go true = refl
    go false = refl

pub channel_any : (first : ℕ) (s : State) (q p : ℕ) → has_parcel ((seen first s).channel q p) ≡ protocol_parcels.has_parcel (s.channel q p)
channel_any first s q p = let t = labelling first s.log in any_same t.label t.body s.so_far.is_rollback (s.channel q p)

pub held_any : (first : ℕ) (s : State) (q p : ℕ) → has_parcel ((seen first s).held q p) ≡ protocol_parcels.has_parcel (s.held q p)
held_any first s q p = let t = labelling first s.log in any_same t.label t.body s.so_far.is_rollback (s.held q p)

count_same : (label : ℕ → ℕ) (body : ℕ → ℤ) (roll : ℕ → Bool) (t' : CodeParcel → Bool) (t : Parcel → Bool) → ((x : Parcel) → t' (seen_parcel label body roll x) ≡ t x) → (l : List Parcel) → count_where t' (seen_parcels label body roll l) ≡ machine_count_where t l
unfolding seen_parcels count_where machine_count_where
count_same label body roll t' t h [] = refl
count_same label body roll t' t h (x ∷ xs) = ap₂ (λ (b : Bool) (n : ℕ). (if b then 1 else 0) + n) (h x) (count_same label body roll t' t h xs)

front_same : (label : ℕ → ℕ) (body : ℕ → ℤ) (roll : ℕ → Bool) (t' : CodeParcel → Bool) (t : Parcel → Bool) → ((x : Parcel) → t' (seen_parcel label body roll x) ≡ t x) → (l : List Parcel) → count_in_front t' (seen_parcels label body roll l) ≡ machine_count_in_front t l
unfolding seen_parcels
front_same label body roll t' t h [] = refl
front_same label body roll t' t h (x ∷ xs) = ap {B = ℕ} (λ (b : Bool). if b then 1 else 0) (h x)

module _ (first : ℕ) (s : State) (t' : CodeParcel → Bool) (t : Parcel → Bool) (h : Same t' t s first) where
  channels_same : (n : ℕ) → count_in_channels n t' (seen first s).channel ≡ machine_count_in_channels n t s.channel
  channels_same n = λ i. total_below n (λ u. total_below n (λ v. count_same (labelling first s.log).label (labelling first s.log).body s.so_far.is_rollback t' t h (s.channel u v) i))

  off_same : (x : Step) → taken_off (seen first s) x t' ≡ machine_taken_off s x t
  off_same (Do p) = refl
  off_same (Take p q) = λ i. if not (ready_same first s p i) && held_any first s q p i then 0 else front_same (labelling first s.log).label (labelling first s.log).body s.so_far.is_rollback t' t h (s.channel q p) i

less : (a b c : ℕ) → a ≡ b + c → c ≡ a - b
less a b c e = omega (arith, e)

ask_is : (first k : ℕ) (s : State) → Same (is_ask_of k) (machine_is_ask_of k) s first
ask_is first k s (App m) = refl
ask_is first k s (Ask j l) = refl
ask_is first k s (Reply j w) = refl
ask_is first k s (Decide j c) = refl

reply_is : (first k : ℕ) (s : State) → Same (is_reply_of k) (machine_is_reply_of k) s first
reply_is first k s (App m) = refl
reply_is first k s (Ask j l) = refl
reply_is first k s (Reply j w) = refl
reply_is first k s (Decide j c) = refl

decision_is : (first k : ℕ) (s : State) → Same (is_decision_of k) (machine_is_decision_of k) s first
decision_is first k s (App m) = refl
decision_is first k s (Ask j l) = refl
decision_is first k s (Reply j w) = refl
decision_is first k s (Decide j c) = refl

one_same : (n first : ℕ) (s s' : State) (x : Step) (t' : ℕ → CodeParcel → Bool) (t : ℕ → Parcel → Bool) → ((k : ℕ) (z : State) → Same (t' k) (t k) z first) → (old new : ℕ → ℕ) →
    ((k : ℕ) → machine_count_in_channels n (t k) s'.channel + machine_taken_off s x (t k) + old k ≡ machine_count_in_channels n (t k) s.channel + new k) → (k : ℕ) → new k ≡ raised n t' (seen first s) x (seen first s') old k
one_same n first s s' x t' t h old new e k = less _ _ _ (e k)
    ∙ sym (λ i. channels_same first s' (t' k) (t k) (h k s') n i + off_same first s (t' k) (t k) (h k s) x i + old k - channels_same first s (t' k) (t k) (h k s) n i)

-- what the machine's instances have put
abbrev pub tallies_of : State → Tallies
tallies_of s = record { asks = s.asks; replies = s.replies; decisions = s.decisions }

pub raised_same : (n first : ℕ) (s s' : State) (x : Step) → IsTallied n (machine_taken_off s x) s s' → tallies_of s' ≡ raised_tally n (seen first s) x (seen first s') (tallies_of s)
raised_same n first s s' x a = λ i. record {
  asks = λ k. one_same n first s s' x is_ask_of machine_is_ask_of (λ k z. ask_is first k z) s.asks s'.asks a.asks k i;
  replies = λ k. one_same n first s s' x is_reply_of machine_is_reply_of (λ k z. reply_is first k z) s.replies s'.replies a.replies k i;
  decisions = λ k. one_same n first s s' x is_decision_of machine_is_decision_of (λ k z. decision_is first k z) s.decisions s'.decisions a.decisions k i;
}

one_raised : (n first : ℕ) (s s' : State) (x : Step) (t' : ℕ → CodeParcel → Bool) (t : ℕ → Parcel → Bool) → ((k : ℕ) (z : State) → Same (t' k) (t k) z first) → (old new : ℕ → ℕ) →
    ((k : ℕ) → machine_count_in_channels n (t k) s'.channel + machine_taken_off s x (t k) + old k ≡ machine_count_in_channels n (t k) s.channel + new k) → (k : ℕ) →
    count_in_channels n (t' k) (seen first s').channel + taken_off (seen first s) x (t' k) + old k ≡ count_in_channels n (t' k) (seen first s).channel + new k
one_raised n first s s' x t' t h old new e k = (λ i. channels_same first s' (t' k) (t k) (h k s') n i + off_same first s (t' k) (t k) (h k s) x i + old k)
    ∙ (e k ∙ sym (λ i. channels_same first s (t' k) (t k) (h k s) n i + new k))

pub raised_is : (n first : ℕ) (s s' : State) (x : Step) → IsTallied n (machine_taken_off s x) s s' → IsRaised n (seen first s) x (seen first s') (tallies_of s) (tallies_of s')
raised_is n first s s' x a = record {
  asks = one_raised n first s s' x is_ask_of machine_is_ask_of (λ k z. ask_is first k z) s.asks s'.asks a.asks;
  replies = one_raised n first s s' x is_reply_of machine_is_reply_of (λ k z. reply_is first k z) s.replies s'.replies a.replies;
  decisions = one_raised n first s s' x is_decision_of machine_is_decision_of (λ k z. decision_is first k z) s.decisions s'.decisions a.decisions;
}
