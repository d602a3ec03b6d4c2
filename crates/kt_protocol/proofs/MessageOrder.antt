-- Messages are received in the order of their numbers.
use Rattle.std.proofs.Common.{◌≡◌, ℕ, suc, ◌+◌, ◌<◌, Bool, true, false, List, [], ◌∷◌, ◌++◌, refl, arith, sym, Some, ◌∙◌}
use Rattle.std.specs.Prelude.{◌==◌, if◌then◌else◌, slice_get}
use Rattle.kt_spacetime.specs.declared.deeds.Deed.{Deed}
use Rattle.kt_spacetime.specs.declared.deeds.Deed.TheVariants as deed
use Rattle.kt_protocol.proofs.RisingLists.{falls, falls_from, one_le, weigh_here, weigh_there}
use Rattle.kt_protocol.proofs.Invariant.{Invariant, is_message}
use Rattle.kt_protocol.proofs.Ordered.{Ordered}
use Rattle.kt_protocol.proofs.Weights.{weigh}
use Rattle.kt_protocol.proofs.WholeSteps.{in_transit_facts}
use Rattle.kt_protocol.specs.InTransit.{NumbersRiseAbove, received_of, in_transit}
use Rattle.kt_protocol.specs.Parcels.{messages, App, Ask, Decide, Parcel, Reply}
use Rattle.kt_protocol.specs.States.{State}
use Rattle.kt_protocol.proofs.Choices.{same}

pub apps_rise : (b : ℕ) (l : List Parcel) → falls b l ≡ 0 → NumbersRiseAbove b (messages l)
unfolding falls
apps_rise b [] h = tt
apps_rise b (App m ∷ xs) h = let a = one_le m b (falls m xs) h in (a.0, apps_rise m xs a.1)
apps_rise b (Ask k l ∷ xs) h = apps_rise b xs h
apps_rise b (Reply k l ∷ xs) h = apps_rise b xs h
apps_rise b (Decide k l ∷ xs) h = apps_rise b xs h

apps_then : (b : ℕ) (l : List Parcel) (c : List ℕ) → falls b l ≡ 0 → ((n : ℕ) → 0 < weigh (is_message n) l → NumbersRiseAbove n c) → NumbersRiseAbove b c → NumbersRiseAbove b (messages l ++ c)
unfolding falls
apps_then b [] c h f r = r
apps_then b (App m ∷ xs) c h f r = let a = one_le m b (falls m xs) h in (a.0, apps_then m xs c a.1 (λ n w. f n (weigh_there (is_message n) (App m) xs w)) (f m (weigh_here m xs)))
apps_then b (Ask k l ∷ xs) c h f r = apps_then b xs c h (λ n w. f n (weigh_there (is_message n) (Ask k l) xs w)) r
apps_then b (Reply k l ∷ xs) c h f r = apps_then b xs c h (λ n w. f n (weigh_there (is_message n) (Reply k l) xs w)) r
apps_then b (Decide k l ∷ xs) c h f r = apps_then b xs c h (λ n w. f n (weigh_there (is_message n) (Decide k l) xs w)) r

received_then : (q b : ℕ) (xs : List Deed) (c : List ℕ) →
    ((i j m n : ℕ) → slice_get xs i ≡ Some (deed.Received m q) → slice_get xs j ≡ Some (deed.Received n q) → i < j → m < n) →
    ((i m : ℕ) → slice_get xs i ≡ Some (deed.Received m q) → b < m) →
    ((i m : ℕ) → slice_get xs i ≡ Some (deed.Received m q) → NumbersRiseAbove m c) →
    NumbersRiseAbove b c → NumbersRiseAbove b (received_of q xs ++ c)
received_then q b [] c o l f r = r
received_then q b (deed.Sent x a ∷ xs) c o l f r = received_then q b xs c (λ i j m n u v w. o (suc i) (suc j) m n u v (omega (arith, w))) (λ i m u. l (suc i) m u) (λ i m u. f (suc i) m u) r
received_then q b (deed.Received x a ∷ xs) c o l f r = go (received_then q b xs c) (received_then q x xs c) (a == q) refl
  where
    Rest : ℕ → Type 0
    Rest d = ((i j m n : ℕ) → slice_get xs i ≡ Some (deed.Received m q) → slice_get xs j ≡ Some (deed.Received n q) → i < j → m < n) → ((i m : ℕ) → slice_get xs i ≡ Some (deed.Received m q) → d < m) → ((i m : ℕ) → slice_get xs i ≡ Some (deed.Received m q) → NumbersRiseAbove m c) → NumbersRiseAbove d c → NumbersRiseAbove d (received_of q xs ++ c)

    later : (i j m n : ℕ) → slice_get xs i ≡ Some (deed.Received m q) → slice_get xs j ≡ Some (deed.Received n q) → i < j → m < n
    later i j m n u v w = o (suc i) (suc j) m n u v (omega (arith, w))

    here : a ≡ q → slice_get (deed.Received x a ∷ xs) 0 ≡ Some (deed.Received x q)
    here e = rw e refl

    go : Rest b → Rest x → (t : Bool) → (a == q) ≡ t → NumbersRiseAbove b ((if t then x ∷ received_of q xs else received_of q xs) ++ c)
    go i j true e = let z = here (same a q e) in (l 0 x z, j later (λ i m u. o 0 (suc i) x m z u (omega arith)) (λ i m u. f (suc i) m u) (f 0 x z))
    go i j false e = i later (λ i m u. l (suc i) m u) (λ i m u. f (suc i) m u) r

module _ (s : State) (g : Invariant s) (t : Ordered s) (q p : ℕ) where
  -- what is in transit rises from what is below
  then_rises : (b : ℕ) → ((n : ℕ) → 0 < weigh (is_message n) (s.channel q p) + weigh (is_message n) (s.held q p) → b < n) → NumbersRiseAbove b (in_transit s q p)
  then_rises b f = apps_then b (s.held q p) (messages (s.channel q p))
      (falls_from 0 b (s.held q p) (t.held_rises q p) (λ n w. f n (omega (arith, w))))
      (λ m w. apps_rise m (s.channel q p) (falls_from 0 m (s.channel q p) (t.channel_rises q p) (λ n v. t.held_first q p m n w v)))
      (apps_rise b (s.channel q p) (falls_from 0 b (s.channel q p) (t.channel_rises q p) (λ n w. f n (omega (arith, w)))))

  positive : (n : ℕ) → 0 < weigh (is_message n) (s.channel q p) + weigh (is_message n) (s.held q p) → 0 < n
  positive n w = (g.messages.sent_low n (in_transit_facts s g q p n w).0.0).0

  pub live_rises : NumbersRiseAbove 0 (received_of q (s.so_far.live p) ++ in_transit s q p)
  live_rises = received_then q 0 (s.so_far.live p) (in_transit s q p)
      (λ i j m n a b l. (let u = g.histories.received_is p i m q a in let v = g.histories.received_is p j n q b in t.received_order m n u.0 v.0 (u.3 ∙ sym v.3) (u.1 ∙ sym v.1) (rw (u.2, v.2) l)))
      (λ i m a. (let u = g.histories.received_is p i m q a in (g.messages.sent_low m (g.messages.received_low m u.0).0).0))
      (λ i m a. (let u = g.histories.received_is p i m q a in then_rises m (λ n w. (let v = in_transit_facts s g q p n w in t.received_first m n u.0 v.0 (u.3 ∙ sym v.1) (u.1 ∙ sym v.2)))))
      (then_rises 0 positive)

  pub arrived_since_rises : NumbersRiseAbove 0 (messages (s.arrived_since q p) ++ in_transit s q p)
  arrived_since_rises = apps_then 0 (s.arrived_since q p) (in_transit s q p) (t.arrived_since_rises q p) (λ m w. then_rises m (λ n v. t.arrived_since_first q p m n w v)) (then_rises 0 positive)
