-- What is put into channels is counted, step by step.
use Rattle.std.specs.Prelude.{◌==◌, ◌-◌, if◌then◌else◌, take, drop, slice_index_or}
use Rattle.std.proofs.Common.{◌≡◌, ◌<◌, ◌≤◌, ◌+◌, ℕ, ℤ, Bool, true, false, List, [], length, refl, arith, ap, subst, sym, ◌∙◌}
use Rattle.kt_fifo.specs.Channels.{channel, at_pair}
use Rattle.kt_fifo.specs.declared.parcels.Parcel.{Parcel}
use Rattle.kt_fifo.specs.declared.parcels.Parcel.TheVariants.{App, Ask, Reply, Decide}
use Rattle.kt_base.specs.Sets.{has, count_of}
use Rattle.kt_base.specs.declared.words.Kind.{Kind}
use Rattle.kt_machine.specs.ListChanges.{with_parcel, with_decisions}
use Rattle.kt_machine.specs.InOnePiece.{with_asks}
use Rattle.kt_system.specs.declared.system.Tally.{Tally}
use Rattle.kt_system.specs.Systems.{Whole, IsSameSystem}
use Rattle.kt_system.specs.Shown.{IsTurned}
use Rattle.kt_system.specs.Reads.{no_tally}
use Rattle.kt_system.specs.Tallies.{is_ask_of, is_reply_of, is_decision_of, count_in_lists, count_in_channels, RisesBy, CountsPut, TalliesPut, front, counted_of, AreCounted}
use Rattle.kt_system.proofs.Counting.{bit, count_pushed, count_popped, count_told, count_asked}

-- nothing is put
none_put : (t : Parcel → Bool) (a b : Whole) (m n : ℕ) → b.size ≡ a.size → channel b.channels ≡ channel a.channels → n ≡ m → CountsPut t [] a b m n
none_put t a b m n s w e = record {
  put = 0;
  channels = λ i. count_in_lists (s i) t (w i) + 0;
  count = λ h. omega (arith, e);
}

kept_tallies : (a b : Whole) → b.size ≡ a.size → channel b.channels ≡ channel a.channels → b.put ≡ a.put → TalliesPut [] a b
kept_tallies a b s w p = record {
  instances = ap (λ (l : List Tally). length l) p;
  asks = λ k l m. none_put (is_ask_of k) a b _ _ s w (ap (λ (l : List Tally). (slice_index_or l (k - 1) no_tally).asks) p);
  replies = λ k l m. none_put (is_reply_of k) a b _ _ s w (ap (λ (l : List Tally). (slice_index_or l (k - 1) no_tally).replies) p);
  decisions = λ k l m. none_put (is_decision_of k) a b _ _ s w (ap (λ (l : List Tally). (slice_index_or l (k - 1) no_tally).decisions) p);
}

pub tallies_kept : (a b seen : Whole) → a ≡ seen → b.size ≡ a.size → channel b.channels ≡ channel a.channels → b.put ≡ a.put → TalliesPut [] seen b
tallies_kept a b seen e s w p = subst (λ (z : Whole). TalliesPut [] z b) e (kept_tallies a b s w p)

pub tallies_same : (a b : Whole) → IsSameSystem b a → TalliesPut [] a b
tallies_same a b s = kept_tallies a b s.size s.channels s.put

pub tallies_turned : (a b : Whole) (p : ℕ) → IsTurned a b p → TalliesPut [] a b
tallies_turned a b p t = kept_tallies a b t.size (ap channel t.channels) t.put

-- one after another
counts_then : (t : Parcel → Bool) (xs : List Parcel) (a b d : Whole) (m n o : ℕ) → CountsPut t xs a b m n → CountsPut t [] b d n o → CountsPut t xs a d m o
counts_then t xs a b d m n o x y = record {
  put = x.put + y.put;
  channels = (let i = x.channels in let j = y.channels in omega (arith, i, j));
  count = λ h. (let i = x.count (omega (arith, h)) in let j = y.count (omega (arith, h, i)) in omega (arith, i, j));
}

pub tallies_then : (xs : List Parcel) (a b d : Whole) → TalliesPut xs a b → TalliesPut [] b d → TalliesPut xs a d
tallies_then xs a b d x y = record {
  instances = y.instances ∙ x.instances;
  asks = λ k l m. counts_then (is_ask_of k) xs a b d _ _ _ (x.asks k l m) (y.asks k l (let z = x.instances in omega (arith, m, z)));
  replies = λ k l m. counts_then (is_reply_of k) xs a b d _ _ _ (x.replies k l m) (y.replies k l (let z = x.instances in omega (arith, m, z)));
  decisions = λ k l m. counts_then (is_decision_of k) xs a b d _ _ _ (x.decisions k l m) (y.decisions k l (let z = x.instances in omega (arith, m, z)));
}

counts_after : (t : Parcel → Bool) (ys : List Parcel) (a b d : Whole) (m n o : ℕ) → CountsPut t [] a b m n → CountsPut t ys b d n o → CountsPut t ys a d m o
counts_after t ys a b d m n o x y = record {
  put = x.put + y.put;
  channels = (let i = x.channels in let j = y.channels in omega (arith, i, j));
  count = λ h. (let i = x.count (omega (arith, h)) in let j = y.count (omega (arith, h, i)) in omega (arith, i, j));
}

pub tallies_after : (ys : List Parcel) (a b d : Whole) → TalliesPut [] a b → TalliesPut ys b d → TalliesPut ys a d
tallies_after ys a b d x y = record {
  instances = y.instances ∙ x.instances;
  asks = λ k l m. counts_after (is_ask_of k) ys a b d _ _ _ (x.asks k l m) (y.asks k l (let z = x.instances in omega (arith, m, z)));
  replies = λ k l m. counts_after (is_reply_of k) ys a b d _ _ _ (x.replies k l m) (y.replies k l (let z = x.instances in omega (arith, m, z)));
  decisions = λ k l m. counts_after (is_decision_of k) ys a b d _ _ _ (x.decisions k l m) (y.decisions k l (let z = x.instances in omega (arith, m, z)));
}

-- what is in front of the same channels
pub front_same : (a b : Whole) (at from : ℕ) → channel b.channels ≡ channel a.channels → front b at from ≡ front a at from
front_same a b at from e = λ i. take 1 (e i from at)

-- a parcel is taken off
popped : (t : Parcel → Bool) (a b : Whole) (at from m n : ℕ) → from < a.size → at < a.size → b.size ≡ a.size → channel b.channels ≡ at_pair from at (drop 1 (channel a.channels from at)) (channel a.channels) → n ≡ m → CountsPut t (front a at from) a b m n
popped t a b at from m n l h s w e = record {
  put = 0;
  channels = (let z : count_in_channels t b ≡ count_in_lists a.size t (at_pair from at (drop 1 (channel a.channels from at)) (channel a.channels)) = λ i. count_in_lists (s i) t (w i) in let o = count_popped a.size t (channel a.channels) from at l h in omega (arith, z, o));
  count = λ h. omega (arith, e);
}

pub tallies_popped : (a b seen : Whole) (at from : ℕ) → a ≡ seen → from < seen.size → at < seen.size → b.size ≡ a.size → channel b.channels ≡ at_pair from at (drop 1 (channel a.channels from at)) (channel a.channels) → b.put ≡ a.put → TalliesPut (front seen at from) seen b
tallies_popped a b seen at from e l h s w p = subst (λ (z : Whole). TalliesPut (front z at from) z b) e (record {
  instances = ap (λ (l : List Tally). length l) p;
  asks = λ k x y. popped (is_ask_of k) a b at from _ _ low high s w (ap (λ (l : List Tally). (slice_index_or l (k - 1) no_tally).asks) p);
  replies = λ k x y. popped (is_reply_of k) a b at from _ _ low high s w (ap (λ (l : List Tally). (slice_index_or l (k - 1) no_tally).replies) p);
  decisions = λ k x y. popped (is_decision_of k) a b at from _ _ low high s w (ap (λ (l : List Tally). (slice_index_or l (k - 1) no_tally).decisions) p);
})
  where
    low : from < a.size
    low = subst (λ (z : Whole). from < z.size) (sym e) l

    high : at < a.size
    high = subst (λ (z : Whole). at < z.size) (sym e) h

-- and is in front of the same channel before
pub tallies_front : (a b d : Whole) (at from : ℕ) → TalliesPut [] a b → channel b.channels ≡ channel a.channels → TalliesPut (front b at from) b d → TalliesPut (front a at from) a d
tallies_front a b d at from x e y = subst (λ (xs : List Parcel). TalliesPut xs a d) (front_same a b at from e) (tallies_after (front b at from) a b d x y)

pub tallies_removed : (a b d : Whole) (at from : ℕ) (held : Bool) → TalliesPut [] a b → channel b.channels ≡ channel a.channels → TalliesPut (if held then [] else front b at from) b d → TalliesPut (if held then [] else front a at from) a d
tallies_removed a b d at from held x e y =
    subst (λ (xs : List Parcel). TalliesPut (if held then [] else xs) a d) (front_same a b at from e) (tallies_after (if held then [] else front b at from) a b d x y)

-- parcels are put, and counted
pub nothing_of : (k j : ℕ) → counted_of k 0 j ≡ 0
nothing_of k j = go (k == j)
  where
    go : (b : Bool) → ◌≡◌ {A = ℕ} (if b then 0 else 0) 0
    go true = refl
    go false = refl

counts : (t : Parcel → Bool) (more : ℕ) (a b d : Whole) (m m' n : ℕ) → b.size ≡ a.size → d.size ≡ b.size → d.channels ≡ b.channels → m' ≡ m → count_in_lists a.size t (channel b.channels) ≡ count_in_lists a.size t (channel a.channels) + more → RisesBy more m' n → CountsPut t [] a d m n
counts t more a b d m m' n s u w e c r = record {
  put = more;
  channels = (let z : count_in_channels t d ≡ count_in_lists a.size t (channel b.channels) = λ i. count_in_lists ((u ∙ s) i) t (channel (w i)) in omega (arith, z, c));
  count = λ h. (let i = r (omega (arith, h, e)) in omega (arith, i, e));
}

tallies_counted : (a b d : Whole) (k x y z : ℕ) → b.size ≡ a.size → b.put ≡ a.put → AreCounted k x y z b d →
    ((j : ℕ) → count_in_lists a.size (is_ask_of j) (channel b.channels) ≡ count_in_lists a.size (is_ask_of j) (channel a.channels) + counted_of k x j) →
    ((j : ℕ) → count_in_lists a.size (is_reply_of j) (channel b.channels) ≡ count_in_lists a.size (is_reply_of j) (channel a.channels) + counted_of k y j) →
    ((j : ℕ) → count_in_lists a.size (is_decision_of j) (channel b.channels) ≡ count_in_lists a.size (is_decision_of j) (channel a.channels) + counted_of k z j) →
    TalliesPut [] a d
tallies_counted a b d k x y z s p c asks replies decisions = record {
  instances = c.instances ∙ ap (λ (l : List Tally). length l) p;
  asks = λ j l m. counts (is_ask_of j) (counted_of k x j) a b d _ _ _ s c.size c.channels (ap (λ (l : List Tally). (slice_index_or l (j - 1) no_tally).asks) p) (asks j) (c.asks j l (here j m));
  replies = λ j l m. counts (is_reply_of j) (counted_of k y j) a b d _ _ _ s c.size c.channels (ap (λ (l : List Tally). (slice_index_or l (j - 1) no_tally).replies) p) (replies j) (c.replies j l (here j m));
  decisions = λ j l m. counts (is_decision_of j) (counted_of k z j) a b d _ _ _ s c.size c.channels (ap (λ (l : List Tally). (slice_index_or l (j - 1) no_tally).decisions) p) (decisions j) (c.decisions j l (here j m));
}
  where
    here : (j : ℕ) → j ≤ length a.put → j ≤ length b.put
    here j m = subst (λ (l : List Tally). j ≤ length l) (sym p) m

-- a reply, decisions, or asks
pub tallies_replied : (a b d : Whole) (p to k : ℕ) (w : Bool) → p < a.size → to < a.size → b.size ≡ a.size → channel b.channels ≡ with_parcel (channel a.channels) p to (Reply k w) → b.put ≡ a.put → AreCounted k 0 1 0 b d → TalliesPut [] a d
tallies_replied a b d p to k w l m s e put c = tallies_counted a b d k 0 1 0 s put c
    (λ j. pushed (is_ask_of j) ∙ ap (λ (n : ℕ). count_in_lists a.size (is_ask_of j) (channel a.channels) + n) (sym (nothing_of k j)))
    (λ j. pushed (is_reply_of j))
    (λ j. pushed (is_decision_of j) ∙ ap (λ (n : ℕ). count_in_lists a.size (is_decision_of j) (channel a.channels) + n) (sym (nothing_of k j)))
  where
    pushed : (t : Parcel → Bool) → count_in_lists a.size t (channel b.channels) ≡ count_in_lists a.size t (channel a.channels) + bit (t (Reply k w))
    pushed t = ap (count_in_lists a.size t) e ∙ count_pushed a.size t (channel a.channels) p to (Reply k w) l m

pub tallies_told : (a b d seen : Whole) (p k : ℕ) (commit : Bool) (set count : ℕ) → a ≡ seen → a.size ≤ 64 → p < seen.size → ((q : ℕ) → has set q ≡ true → q < seen.size) → count ≡ count_of set →
    b.size ≡ a.size → channel b.channels ≡ with_decisions (channel a.channels) p k commit (has set) → b.put ≡ a.put → AreCounted k 0 0 count b d → TalliesPut [] seen d
tallies_told a b d seen p k commit set count i few l within same s e put c = subst (λ (z : Whole). TalliesPut [] z d) i (tallies_counted a b d k 0 0 count s put c
    (λ j. told (is_ask_of j) false refl ∙ ap (λ (n : ℕ). count_in_lists a.size (is_ask_of j) (channel a.channels) + n) (sym (nothing_of k j)))
    (λ j. told (is_reply_of j) false refl ∙ ap (λ (n : ℕ). count_in_lists a.size (is_reply_of j) (channel a.channels) + n) (sym (nothing_of k j)))
    (λ j. told (is_decision_of j) (k == j) refl ∙ ap (λ (n : ℕ). count_in_lists a.size (is_decision_of j) (channel a.channels) + counted_of k n j) (sym same)))
  where
    told : (t : Parcel → Bool) (x : Bool) → t (Decide k commit) ≡ x → count_in_lists a.size t (channel b.channels) ≡ count_in_lists a.size t (channel a.channels) + (if x then count_of set else 0)
    told t x f = ap (count_in_lists a.size t) e ∙ count_told a.size t x (channel a.channels) p k commit set (subst (λ (z : Whole). p < z.size) (sym i) l) few (subst (λ (z : Whole). (q : ℕ) → has set q ≡ true → q < z.size) (sym i) within) f

pub tallies_asked : (a b d seen : Whole) (p k : ℕ) (kind : Kind) (asks : List (ℕ × ℕ)) (count : ℕ) → a ≡ seen → p < seen.size → ((j : ℕ) → j < length asks → (slice_index_or asks j (0, 0)).0 < seen.size) → count ≡ length asks →
    b.size ≡ a.size → channel b.channels ≡ with_asks (channel a.channels) p k kind asks → b.put ≡ a.put → AreCounted k count 0 0 b d → TalliesPut [] seen d
tallies_asked a b d seen p k kind asks count i l within same s e put c = subst (λ (z : Whole). TalliesPut [] z d) i (tallies_counted a b d k count 0 0 s put c
    (λ j. asked (is_ask_of j) (k == j) (λ l. refl) ∙ ap (λ (n : ℕ). count_in_lists a.size (is_ask_of j) (channel a.channels) + counted_of k n j) (sym same))
    (λ j. asked (is_reply_of j) false (λ l. refl) ∙ ap (λ (n : ℕ). count_in_lists a.size (is_reply_of j) (channel a.channels) + n) (sym (nothing_of k j)))
    (λ j. asked (is_decision_of j) false (λ l. refl) ∙ ap (λ (n : ℕ). count_in_lists a.size (is_decision_of j) (channel a.channels) + n) (sym (nothing_of k j))))
  where
    asked : (t : Parcel → Bool) (x : Bool) → ((l : ℕ) → t (Ask k kind l) ≡ x) → count_in_lists a.size t (channel b.channels) ≡ count_in_lists a.size t (channel a.channels) + (if x then length asks else 0)
    asked t x f = ap (count_in_lists a.size t) e ∙ count_asked a.size t x (channel a.channels) p k kind asks (subst (λ (z : Whole). p < z.size) (sym i) l) (subst (λ (z : Whole). (j : ℕ) → j < length asks → (slice_index_or asks j (0, 0)).0 < z.size) (sym i) within) f

-- a message is counted nowhere
pub tallies_sent : (a b : Whole) (p to l m : ℕ) (body : ℤ) → p < a.size → to < a.size → b.size ≡ a.size → channel b.channels ≡ with_parcel (channel a.channels) p to (App l m body) → b.put ≡ a.put → TalliesPut [] a b
tallies_sent a b p to l m body x y s e put = record {
  instances = ap (λ (l : List Tally). length l) put;
  asks = λ k u v. one (is_ask_of k) _ _ refl (ap (λ (l : List Tally). (slice_index_or l (k - 1) no_tally).asks) put);
  replies = λ k u v. one (is_reply_of k) _ _ refl (ap (λ (l : List Tally). (slice_index_or l (k - 1) no_tally).replies) put);
  decisions = λ k u v. one (is_decision_of k) _ _ refl (ap (λ (l : List Tally). (slice_index_or l (k - 1) no_tally).decisions) put);
}
  where
    one : (t : Parcel → Bool) (before after : ℕ) → t (App l m body) ≡ false → after ≡ before → CountsPut t [] a b before after
    one t before after f g = record {
      put = 0;
      channels = (let z : count_in_channels t b ≡ count_in_lists a.size t (with_parcel (channel a.channels) p to (App l m body)) = λ i. count_in_lists (s i) t (e i) in
          let o = count_pushed a.size t (channel a.channels) p to (App l m body) x y in
          let n : bit (t (App l m body)) ≡ 0 = ap bit f in
          omega (arith, z, o, n));
      count = λ h. omega (arith, g);
    }
