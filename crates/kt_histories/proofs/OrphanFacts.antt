-- Orphans by lists of messages that rise.
use Rattle.std.proofs.Common.{◌≡◌, ℕ, zero, suc, ◌+◌, ◌-◌, ◌<◌, ◌≤◌, ◌&&◌, ◌||◌, not, nat_le, cond, if◌then◌else◌, Bool, true, false, Option, Some, None, IfSome, IfNone, option_map, List, [], ◌∷◌, ◌++◌, length, take, drop, refl, sym, ap, ◌∙◌, subst, arith, inl, inr, length-append}
use Rattle.std.specs.Prelude.{IsTrue, ◌↔◌}
use Rattle.std.specs.List.{slice_get, find, Contains}
use Rattle.std.proofs.lemmas.Bool.{cases_lt}
use Rattle.std.proofs.lemmas.Bool.Decides.{nat_tests}
use Rattle.std.proofs.lemmas.List.{take-append-drop, get_or-append-add}
use Rattle.std.proofs.lemmas.Option.{slice_get_within, get_or_from_slice_get}
use Rattle.kt_spacetime.specs.declared.deeds.Deed.{Deed}
use Rattle.kt_spacetime.specs.declared.deeds.Deed.TheVariants as deed
use Rattle.kt_histories.specs.declared.tables.Message.{Message}
use Rattle.kt_spacetime.specs.declared.event.Event.{Event}
use Rattle.kt_histories.specs.declared.replay.Replay.{Replay}
use Rattle.kt_histories.specs.declared.histories.Histories.{Histories}
use Rattle.kt_histories.specs.HistoriesOf.{HistoriesOf}
use Rattle.kt_meaning.specs.Past.{Past, past}
use Rattle.kt_meaning.specs.Legal.{is_deed, has_deed}
use Rattle.kt_meaning.specs.Cuts.{part, IsOrphan}
use Rattle.kt_rules.specs.Lists.{sent_in, received_in, NumbersRise}
use Rattle.kt_rules.specs.Traces.{place_of}
use Rattle.kt_rules.specs.Orphans.{IsOrphanBetween, IsAtMost, is_within}
use Rattle.kt_histories.specs.Standing.{ShowsMessages, ShowsPast, message_at, receiving}
use Rattle.kt_meaning.proofs.Items.{get_in_take, some_same, get_from_drop}
use Rattle.kt_rules.proofs.SortedFacts.{sent_more, received_more}
use Rattle.kt_meaning.proofs.DeedFacts.{place_of_deed}
use Rattle.kt_rules.proofs.DeedFacts.{has_at, received_source}
use Rattle.kt_rules.proofs.LatestFacts.{received_place}
use Rattle.kt_rules.proofs.OrphanFacts.{between_of, orphan_of, received_of, rises_across, sent_place}

pub rises_back : (xs ys : List ℕ) → NumbersRise (xs ++ ys) → NumbersRise ys
rises_back xs ys r i j d low l =
    let one = get_or-append-add xs ys i d in
    let two = get_or-append-add xs ys j d in
    rw (← one, ← two) (r (length xs + i) (length xs + j) d (omega (arith, low)) (omega (arith, l, length-append xs ys)))

pub first_least : (ys : List ℕ) (k u m : ℕ) → NumbersRise ys → slice_get ys 0 ≡ Some u → slice_get ys k ≡ Some m → u ≤ m
first_least ys zero u m r e f =
    let same : u ≡ m = some_same (sym e ∙ f) in
    omega (arith, same)
first_least ys (suc k) u m r e f =
    let one = get_or_from_slice_get ys 0 u 0 e in
    let two = get_or_from_slice_get ys (suc k) m 0 f in
    omega (arith, one, two, r 0 (suc k) 0 (omega arith) (slice_get_within ys (suc k) m f))

-- the first of rising numbers that is not below a bound
pub find_none_all : (u : ℕ) (xs : List ℕ) → find (nat_le u) xs ≡ None → (k x : ℕ) → slice_get xs k ≡ Some x → x < u
find_none_all u [] e k x f = absurd (cc)
find_none_all u (y ∷ xs) e k x f = at_test (nat_le u y) refl e k f (λ g j h. find_none_all u xs g j x h)
  where
    at_test : (b : Bool) → nat_le u y ≡ b → cond b (Some y) (find (nat_le u) xs) ≡ None → (k : ℕ) → slice_get (y ∷ xs) k ≡ Some x → (find (nat_le u) xs ≡ None → (k : ℕ) → slice_get xs k ≡ Some x → x < u) → x < u
    at_test true t e k f rest = absurd (cc)
    at_test false t e zero f rest =
        let same : y ≡ x = some_same f in
        grind (arith, nat_tests, t, same)
    at_test false t e (suc k) f rest = rest e k f

pub find_there : (u : ℕ) (xs : List ℕ) (r : ℕ) → find (nat_le u) xs ≡ Some r → (k : ℕ) × (slice_get xs k ≡ Some r) × (u ≤ r)
find_there u [] r e = absurd (cc)
find_there u (y ∷ xs) r e = at_test (nat_le u y) refl e (find_there u xs r)
  where
    at_test : (b : Bool) → nat_le u y ≡ b → cond b (Some y) (find (nat_le u) xs) ≡ Some r → (find (nat_le u) xs ≡ Some r → (k : ℕ) × (slice_get xs k ≡ Some r) × (u ≤ r)) → (k : ℕ) × (slice_get (y ∷ xs) k ≡ Some r) × (u ≤ r)
    at_test true t e rest =
        let same : y ≡ r = some_same e in
        (0, e, grind (arith, nat_tests, t, same))
    at_test false t e rest =
        let there = rest e in
        (suc there.0, there.1, there.2)

pub find_least : (u : ℕ) (xs : List ℕ) (r k x : ℕ) → NumbersRise xs → find (nat_le u) xs ≡ Some r → slice_get xs k ≡ Some x → u ≤ x → r ≤ x
find_least u [] r k x rises e f l = absurd (cc)
find_least u (y ∷ xs) r k x rises e f l = at_test (nat_le u y) refl e k f (λ g j h. find_least u xs r j x (rises_back (y ∷ []) xs rises) g h l)
  where
    at_test : (b : Bool) → nat_le u y ≡ b → cond b (Some y) (find (nat_le u) xs) ≡ Some r → (k : ℕ) → slice_get (y ∷ xs) k ≡ Some x → (find (nat_le u) xs ≡ Some r → (k : ℕ) → slice_get xs k ≡ Some x → r ≤ x) → r ≤ x
    at_test true t e k f rest =
        let same : y ≡ r = some_same e in
        first_least (y ∷ xs) k r x rises (ap Some same) f
    at_test false t e zero f rest =
        let same : y ≡ x = some_same f in
        let above : y < u = grind (arith, nat_tests, t) in
        absurd (omega (arith, above, l, same))
    at_test false t e (suc k) f rest = rest e k f

sends_split : (n : ℕ) (l : List Deed) → NumbersRise (sent_in l) → NumbersRise (sent_in (take n l) ++ sent_in (drop n l))
sends_split n l r = subst NumbersRise (ap sent_in (sym (take-append-drop n l)) ∙ sent_more (take n l) (drop n l)) r

receives_split : (q n : ℕ) (l : List Deed) → NumbersRise (received_in q l) → NumbersRise (received_in q (take n l) ++ received_in q (drop n l))
receives_split q n l r = subst NumbersRise (ap (received_in q) (sym (take-append-drop n l)) ∙ received_more q (take n l) (drop n l)) r

-- a live send that a part lacks stands past it
past_part : (n : ℕ) (l : List Deed) (d : Deed) → has_deed d l ≡ true → has_deed d (take n l) ≡ false → (j : ℕ) × (slice_get (drop n l) j ≡ Some d)
past_part n l d live lacks =
    let there = place_of_deed d l live in
    elim (cases_lt there.0 n) [
      | inl low ↦
          let has : has_deed d (take n l) ≡ true = has_at d (take n l) there.0 (get_in_take n l there.0 low ∙ there.1) in
          absurd (cc)
      | inr high ↦ (there.0 - n, get_from_drop n l there.0 d there.1 high)
    ]

pub nothing_past : (n : ℕ) (l : List Deed) (m to : ℕ) → slice_get (sent_in (drop n l)) 0 ≡ None → has_deed (deed.Sent m to) l ≡ true → has_deed (deed.Sent m to) (take n l) ≡ false → ⊥
nothing_past n l m to none live lacks =
    let there = past_part n l (deed.Sent m to) live lacks in
    let sent = sent_place (drop n l) there.0 m to there.1 in
    nothing_first (sent_in (drop n l)) sent.0 m none sent.1
  where
    nothing_first : (xs : List ℕ) (k m : ℕ) → slice_get xs 0 ≡ None → slice_get xs k ≡ Some m → ⊥
    nothing_first [] k m e f = cc
    nothing_first (x ∷ xs) k m e f = cc

pub not_before : (n : ℕ) (l : List Deed) (m to u : ℕ) → NumbersRise (sent_in l) → slice_get (sent_in (drop n l)) 0 ≡ Some u → has_deed (deed.Sent m to) l ≡ true → has_deed (deed.Sent m to) (take n l) ≡ false → u ≤ m
not_before n l m to u r e live lacks =
    let there = past_part n l (deed.Sent m to) live lacks in
    let sent = sent_place (drop n l) there.0 m to there.1 in
    first_least (sent_in (drop n l)) sent.0 u m (rises_back (sent_in (take n l)) (sent_in (drop n l)) (sends_split n l r)) e sent.1

pub lacks_later : (n : ℕ) (l : List Deed) (m to u : ℕ) → NumbersRise (sent_in l) → slice_get (sent_in (drop n l)) 0 ≡ Some u → u ≤ m → has_deed (deed.Sent m to) (take n l) ≡ false
lacks_later n l m to u r e low = at_test (has_deed (deed.Sent m to) (take n l)) refl
  where
    at_test : (b : Bool) → has_deed (deed.Sent m to) (take n l) ≡ b → has_deed (deed.Sent m to) (take n l) ≡ false
    at_test false is = is
    at_test true is =
        let there = place_of_deed (deed.Sent m to) (take n l) is in
        let sent = sent_place (take n l) there.0 m to there.1 in
        absurd (omega (arith, low, rises_across (sent_in (take n l)) (sent_in (drop n l)) sent.0 0 m u (sends_split n l r) sent.1 e))

-- receives from one sender rise with their places
pub receives_rise : (q : ℕ) (l : List Deed) (i j a b : ℕ) → NumbersRise (received_in q l) → i < j → slice_get l i ≡ Some (deed.Received a q) → slice_get l j ≡ Some (deed.Received b q) → a < b
receives_rise q l i j a b r low e f =
    let one = received_place q (take j l) i a (get_in_take j l i low ∙ e) in
    let two = received_place q (drop j l) (j - j) b (get_from_drop j l j (deed.Received b q) f (omega arith)) in
    rises_across (received_in q (take j l)) (received_in q (drop j l)) one.0 two.0 a b (receives_split q j l r) one.1 two.1

pub none_received : (s : Past) (cut : ℕ → ℕ) (p q m u : ℕ) → IsOrphanBetween s cut p q m → has_deed (deed.Sent m p) (s.live q) ≡ true → NumbersRise (sent_in (s.live q))
    → slice_get (sent_in (drop (cut q) (s.live q))) 0 ≡ Some u → find (nat_le u) (received_in q (s.live p)) ≡ None → ⊥
none_received s cut p q m u o live r e none =
    let at = received_of s cut p q m o in
    let there = received_place q (s.live p) o.place m at.0 in
    let below = find_none_all u (received_in q (s.live p)) none there.0 m there.1 in
    let above = not_before (cut q) (s.live q) m p u r e live o.unsent in
    absurd (omega (arith, below, above))

pub found_place : (s : Past) (p q u r : ℕ) → find (nat_le u) (received_in q (s.live p)) ≡ Some r → (i : ℕ) × (slice_get (s.live p) i ≡ Some (deed.Received r q))
found_place s p q u r found =
    let there = find_there u (received_in q (s.live p)) r found in
    received_source q (s.live p) there.0 r there.1

pub found_orphan : (s : Past) (cut : ℕ → ℕ) (p q u r i : ℕ) → NumbersRise (sent_in (s.live q)) → slice_get (sent_in (drop (cut q) (s.live q))) 0 ≡ Some u → find (nat_le u) (received_in q (s.live p)) ≡ Some r
    → slice_get (s.live p) i ≡ Some (deed.Received r q) → i < cut p → IsOrphanBetween s cut p q r
found_orphan s cut p q u r i rises e found at within = record {
  place = i;
  received = get_in_take (cut p) (s.live p) i within ∙ at;
  unsent = lacks_later (cut q) (s.live q) r p u rises e (find_there u (received_in q (s.live p)) r found).2;
}

pub found_least : (s : Past) (cut : ℕ → ℕ) (p q m u r : ℕ) → IsOrphanBetween s cut p q m → has_deed (deed.Sent m p) (s.live q) ≡ true → NumbersRise (sent_in (s.live q)) → NumbersRise (received_in q (s.live p))
    → slice_get (sent_in (drop (cut q) (s.live q))) 0 ≡ Some u → find (nat_le u) (received_in q (s.live p)) ≡ Some r → r ≤ m
found_least s cut p q m u r o live sends receives e found =
    let at = received_of s cut p q m o in
    let there = received_place q (s.live p) o.place m at.0 in
    find_least u (received_in q (s.live p)) r there.0 m receives found there.1 (not_before (cut q) (s.live q) m p u sends e live o.unsent)

pub found_past : (s : Past) (cut : ℕ → ℕ) (p q m u r i : ℕ) → IsOrphanBetween s cut p q m → has_deed (deed.Sent m p) (s.live q) ≡ true → NumbersRise (sent_in (s.live q)) → NumbersRise (received_in q (s.live p))
    → slice_get (sent_in (drop (cut q) (s.live q))) 0 ≡ Some u → find (nat_le u) (received_in q (s.live p)) ≡ Some r → slice_get (s.live p) i ≡ Some (deed.Received r q) → cut p ≤ i → ⊥
found_past s cut p q m u r i o live sends receives e found at past_it =
    let here = received_of s cut p q m o in
    let least = found_least s cut p q m u r o live sends receives e found in
    let rise = receives_rise q (s.live p) o.place i m r receives (omega (arith, here.1, past_it)) here.0 at in
    absurd (omega (arith, least, rise))

-- a test that tells a bound
pub test_below : (b : Bool) (i n : ℕ) → (IsTrue b ↔ (i < n)) → b ≡ false → n ≤ i
test_below b i n test e = elim (cases_lt i n) [
  | inl low ↦
      let yes_it : b ≡ true = test.1 low in
      absurd (cc)
  | inr high ↦ high
]

-- a place that is within a part tells whether the part has the deed
pub within_part : (d : Deed) (l : List Deed) (n : ℕ) → is_within (place_of d l) n ≡ has_deed d (take n l)
within_part d [] zero = refl
within_part d [] (suc n) = refl
within_part d (x ∷ l) zero = at_test (is_deed d x)
  where
    never : (o : Option ℕ) → is_within (option_map suc o) zero ≡ false
    never None = refl
    never (Some k) = grind (arith, nat_tests)

    at_test : (b : Bool) → is_within (if b then Some 1 else option_map suc (place_of d l)) zero ≡ false
    at_test true = refl
    at_test false = never (place_of d l)
within_part d (x ∷ l) (suc n) = at_test (is_deed d x) (within_part d l n)
  where
    one_less : (o : Option ℕ) → is_within (option_map suc o) (suc n) ≡ is_within o n
    one_less None = refl
    one_less (Some k) = grind (arith, nat_tests)

    at_test : (b : Bool) → is_within (place_of d l) n ≡ has_deed d (take n l) → is_within (if b then Some 1 else option_map suc (place_of d l)) (suc n) ≡ (b || has_deed d (take n l))
    at_test true e = grind (arith, nat_tests)
    at_test false e = one_less (place_of d l) ∙ e

-- a message that is received and not sent is an orphan
pub orphan_is : (s : Past) (cut : ℕ → ℕ) (m : ℕ) (v : Message) → has_deed (deed.Received m v.from) (part s cut v.to) ≡ true → has_deed (deed.Sent m v.to) (part s cut v.from) ≡ false
    → (p : ℕ) × (q : ℕ) × IsOrphanBetween s cut p q m
orphan_is s cut m v received unsent =
    let there = place_of_deed (deed.Received m v.from) (part s cut v.to) received in
    (v.to, v.from, record { place = there.0; received = there.1; unsent = unsent })

pub is_orphan_of : (ms : List (Option Message)) (s : Past) (cut : ℕ → ℕ) (m p q : ℕ) (v : Message) → ShowsMessages ms s → message_at ms m ≡ Some v → IsOrphanBetween s cut p q m
    → (has_deed (deed.Received m v.from) (part s cut v.to) ≡ true) × (has_deed (deed.Sent m v.to) (part s cut v.from) ≡ false)
is_orphan_of ms s cut m p q v h at o =
    let here = received_of s cut p q m o in
    let held : Some (v.to, v.from, v.received) ≡ Some (p, q, Some o.place) = ap receiving (sym at) ∙ h.received p o.place m q here.0 in
    let to : p ≡ v.to = sym (ap (λ (t : ℕ × ℕ × Option ℕ). t.0) (some_same held)) in
    let from : q ≡ v.from = sym (ap (λ (t : ℕ × ℕ × Option ℕ). t.1) (some_same held)) in
    let got : has_deed (deed.Received m q) (part s cut p) ≡ true = has_at (deed.Received m q) (part s cut p) o.place o.received in
    ((λ i. has_deed (deed.Received m (sym from i)) (part s cut (sym to i))) ∙ got, (λ i. has_deed (deed.Sent m (sym to i)) (part s cut (sym from i))) ∙ o.unsent)

pub orphan_test : (ms : List (Option Message)) (s : Past) (cut : ℕ → ℕ) (m : ℕ) (v : Message) (r t b : Bool) → ShowsMessages ms s → message_at ms m ≡ Some v
    → r ≡ has_deed (deed.Received m v.from) (part s cut v.to) → t ≡ has_deed (deed.Sent m v.to) (part s cut v.from) → b ≡ (r && not t)
    → (IsTrue b ↔ ((p : ℕ) × (q : ℕ) × IsOrphanBetween s cut p q m))
orphan_test ms s cut m v r t b h at received sent is = (
  λ e. found r t received sent (sym is ∙ e),
  λ o.
      let known = is_orphan_of ms s cut m o.0 o.1 v h at o.2 in
      is ∙ (λ i. (received ∙ known.0) i && not ((sent ∙ known.1) i)),
)
  where
    found : (r t : Bool) → r ≡ has_deed (deed.Received m v.from) (part s cut v.to) → t ≡ has_deed (deed.Sent m v.to) (part s cut v.from) → (r && not t) ≡ true → (p : ℕ) × (q : ℕ) × IsOrphanBetween s cut p q m
    found true false a c e = orphan_is s cut m v (sym a) (sym c)
    found true true a c e = absurd (cc)
    found false t a c e = absurd (cc)

pub some_if : (P : ℕ → Type 0) (b : Bool) (m : ℕ) → (b ≡ true → P m) → IfSome (if b then Some m else None) P
some_if P true m h = h refl
some_if P false m h = tt

pub at_most_if : (b : Bool) (m : ℕ) → b ≡ true → IsAtMost (if b then Some m else None) m
at_most_if true m e = omega arith
at_most_if false m e = absurd (cc)

pub none_at_most : (P : ℕ → Type 0) (o : Option ℕ) → ((m : ℕ) → P m → IsAtMost o m) → IfNone o ((m : ℕ) → P m → ⊥)
none_at_most P None h = h
none_at_most P (Some n) h = tt

-- the least of the live ones and the dead ones
pub least_of_all : (s : Past) (cut : ℕ → ℕ) (p q m : ℕ) (o : Option ℕ) (dead : List ℕ) → IsOrphanBetween s cut p q m
    → ((i : ℕ) → slice_get (s.live p) i ≡ Some (deed.Received m q) → has_deed (deed.Sent m p) (s.live q) ≡ false → Contains dead m)
    → (Contains dead m → IsAtMost o m) → (has_deed (deed.Sent m p) (s.live q) ≡ true → IsAtMost o m) → IsAtMost o m
least_of_all s cut p q m o dead between known is_dead is_live = at_test (has_deed (deed.Sent m p) (s.live q)) refl
  where
    at_test : (b : Bool) → has_deed (deed.Sent m p) (s.live q) ≡ b → IsAtMost o m
    at_test true e = is_live e
    at_test false e = is_dead (known between.place (received_of s cut p q m between).0 e)

-- a message is an orphan of each past that the tables show
abbrev pub IsOrphanShown : Replay → (ℕ → ℕ) → ℕ → Type 0
IsOrphanShown r cut m = (s : Past) → ShowsPast r s → (p : ℕ) × (q : ℕ) × IsOrphanBetween s cut p q m

abbrev pub IsOrphanShownOf : Replay → (ℕ → ℕ) → ℕ → ℕ → Type 0
IsOrphanShownOf r cut p m = (s : Past) → ShowsPast r s → (q : ℕ) × IsOrphanBetween s cut p q m

pub orphans_none : (r : Replay) (o : Option ℕ) (h : Histories) (cut : ℕ → ℕ) → h.replay ≡ r → ((s : Past) (p q m : ℕ) → ShowsPast r s → IsOrphanBetween s cut p q m → IsAtMost o m)
    → IfNone o ((rows : List Event) (m : ℕ) → HistoriesOf h rows → IsOrphan (past rows) cut m → ⊥)
orphans_none r (Some n) h cut same least = tt
orphans_none r None h cut same least = λ rows m stands orphan.
    let o = between_of (past rows) cut m orphan in
    least (past rows) o.0 o.1 m (subst (λ (x : Replay). ShowsPast x (past rows)) same stands.shows) o.2

pub orphans_some : (r : Replay) (o : Option ℕ) (h : Histories) (cut : ℕ → ℕ) → h.replay ≡ r → IfSome o (IsOrphanShown r cut)
    → IfSome o (λ m. (rows : List Event) → HistoriesOf h rows → IsOrphan (past rows) cut m)
orphans_some r None h cut same known = tt
orphans_some r (Some n) h cut same known = λ rows stands.
    let o = known (past rows) (subst (λ (x : Replay). ShowsPast x (past rows)) same stands.shows) in
    orphan_of (past rows) cut o.0 o.1 n o.2

pub orphans_least : (r : Replay) (o : Option ℕ) (h : Histories) (cut : ℕ → ℕ) → h.replay ≡ r → ((s : Past) (p q m : ℕ) → ShowsPast r s → IsOrphanBetween s cut p q m → IsAtMost o m)
    → IfSome o (λ m. (rows : List Event) (other : ℕ) → HistoriesOf h rows → IsOrphan (past rows) cut other → m ≤ other)
orphans_least r None h cut same least = tt
orphans_least r (Some n) h cut same least = λ rows other stands orphan.
    let o = between_of (past rows) cut other orphan in
    least (past rows) o.0 o.1 other (subst (λ (x : Replay). ShowsPast x (past rows)) same stands.shows) o.2
