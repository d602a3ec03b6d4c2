-- Each row that a step writes keeps every rule.
use Rattle.std.proofs.Common.{◌≡◌, ◌≢◌, ℕ, ℤ, ◌+◌, ◌<◌, Bool, true, false, not, Some, None, List, [], ◌∷◌, ◌++◌, refl, arith, sym, subst, inl, inr, ◌⊎◌, ◌∙◌}
use Rattle.std.specs.Prelude.{◌==◌, ◌&&◌, if◌then◌else◌, slice_get}
use Rattle.std.proofs.lemmas.Bool.{cases_eq}
use Rattle.std.proofs.lemmas.Bool.Decides.{nat_tests}
use Rattle.kt_base.specs.declared.words.Cause.{Cause}
use Rattle.kt_base.specs.declared.words.Verb.{Verb}
use Rattle.kt_spacetime.specs.declared.event.Event.TheVariants.{Sent, Received, Dropped, Failed, Refused}
use Rattle.kt_spacetime.specs.declared.deeds.Deed.{Deed}
use Rattle.kt_spacetime.specs.declared.deeds.Deed.TheVariants as deed
use Rattle.kt_meaning.specs.Past.{past, at_one}
use Rattle.kt_meaning.specs.Legal.{broken_rule, has_deed, names_begun, refuses, is_undelivered, is_latest}
use Rattle.kt_meaning.proofs.LegalLogs.{legal_push}
use Rattle.kt_meaning.proofs.Lists.{deed_place, has_from_place, get_push}
use Rattle.kt_protocol.proofs.Askers.{permanent_low}
use Rattle.kt_protocol.proofs.Invariant.{Invariant}
use Rattle.kt_protocol.proofs.Lawful.{Law, before_it, follows_quiet, is_undoing, later_from, line, none_in, not_rolling, tie, unbroken, way}
use Rattle.kt_protocol.proofs.Lines.{Over, Rising, Thin, over_has, over_join, over_thin, rising_push, rising_right, rising_thin, thin_all, thin_append}
use Rattle.kt_protocol.specs.Parcels.{messages, Lists}
use Rattle.kt_protocol.specs.InTransit.{times}
use Rattle.kt_protocol.proofs.Updates.{at_one_here, at_one_other, is_other, is_same}
use Rattle.kt_protocol.proofs.Receiving.{Taking, message_facts}
use Rattle.kt_protocol.proofs.SummaryTies.{at_one_same}
use Rattle.kt_protocol.proofs.LawfulLists.{Front, by_row, line_low, line_moved, line_pushed, way_less, way_pushed}
use Rattle.kt_protocol.specs.States.{State, is_ready}
use Rattle.kt_protocol.specs.Messages.{after_refusal, after_failing, after_dropping, after_receiving, after_sending}

pub law_sending : (s : State) (p q : ℕ) (body : ℤ) → q ≢ p → s.so_far.open_in p ≡ 0 → s.up p ≡ true → Invariant s → Law true s → Law true (after_sending s p q body)
law_sending s p q body d o u g l =
    let up : (past s.log).up p ≡ true = sym (l.is_up p) ∙ u in
    let e : broken_rule (past s.log) (Sent p q body) ≡ None = unbroken (past s.log) (Sent p q body) (record {
      numbers = rw (is_other q p d) refl;
      message = refl;
      order = refl;
      sending = rw (up, none_in true s g l p o) refl;
      receiving = refl;
      joining = follows_quiet (past s.log).last (Sent p q body) (l.last refl);
      deciding = refl;
      closing = refl;
      causes = refl;
    }) in
    by_row true (after_sending s p q body) s.log (Sent p q body) refl (record {
      legal = legal_push s.log (Sent p q body) l.legal e;
      last = λ _. refl;
      is_up = l.is_up;
      count = l.count;
      first = l.first;
      apart = λ m h. elim (cases_eq m (s.so_far.rows + 1)) [
        | inl f ↦ rw (f, at_one_here (s.so_far.rows + 1) p s.so_far.from, at_one_here (s.so_far.rows + 1) q s.so_far.to) (λ x. d (sym x))
        | inr n ↦ rw (at_one_other (s.so_far.rows + 1) m p s.so_far.from n, at_one_other (s.so_far.rows + 1) m q s.so_far.to n) (l.apart m (sym (at_one_other (s.so_far.rows + 1) m true s.so_far.is_sent n) ∙ h))
      ];
      in_order = λ x y. line_pushed s p q Rising x y (l.in_order x y) (rising_push (line s.channel s.held s.kept x y) (s.so_far.rows + 1) (l.in_order x y) (λ m h. line_low s m x y g h));
      permanent_first = λ n a b.
          let low = g.messages.sent_low n (g.messages.received_low n a).0 in
          let ne : n ≢ s.so_far.rows + 1 = λ f. omega (arith, low.1, f) in
          let to = at_one_other (s.so_far.rows + 1) n q s.so_far.to ne in
          let x = l.permanent_first n a (rw to at b) in
          rw (at_one_other (s.so_far.rows + 1) n p s.so_far.from ne, to) (line_pushed s p q (Over n) (s.so_far.from n) (s.so_far.to n) x (over_join n (line s.channel s.held s.kept (s.so_far.from n) (s.so_far.to n)) ((s.so_far.rows + 1) ∷ []) x (omega (arith, low.1), tt)));
      drops_first = λ x y i n w f. let z = l.drops_first x y i n w f in let low = l.drops_low x y i n f in way_pushed s p q (Over n) y x z (over_join n (way s.channel s.held y x) ((s.so_far.rows + 1) ∷ []) z (omega (arith, low), tt));
      drops_low = λ x y i n f. let low = l.drops_low x y i n f in omega (arith, low);
    })

first_times : (m : ℕ) (l : List ℕ) → 0 < times m (m ∷ l)
first_times m l = let e = is_same m in grind (arith, nat_tests, e)

front_times : (s : State) (channel held : Lists) (p q m : ℕ) → Front s channel held p q m → 0 < times m (way s.channel s.held q p)
front_times s channel held p q m f = subst (λ (l : List ℕ). 0 < times m l) (sym f.here) (first_times m (way channel held q p))

ready_guard : (s : State) (p : ℕ) → is_ready s p ≡ false → is_undoing s.so_far p ≡ false
ready_guard s p r = at_test (not (s.so_far.open_in p == 0)) (s.so_far.is_rollback (s.so_far.open_in p)) (s.so_far.is_decided (s.so_far.open_in p) && s.so_far.is_committed (s.so_far.open_in p)) r
  where
    at_test : (a b c : Bool) → (a && b) ≡ false → (a && (b && c)) ≡ false
    at_test true true c e = absurd (cc)
    at_test true false c e = refl
    at_test false b c e = refl

undelivered : (s : State) (p q m : ℕ) → s.so_far.is_sent m ≡ true → s.so_far.is_received m ≡ false → s.so_far.dropped m ≡ false → s.so_far.from m ≡ q → s.so_far.to m ≡ p → Invariant s → Law true s → is_undelivered (past s.log) p q m ≡ true
undelivered s p q m a b c from to g l =
    let t = tie true s g l in
    let there : slice_get (s.so_far.live q) (s.so_far.sent_at m) ≡ Some (deed.Sent m p) = rw (from, to) at (g.histories.sent_there m a) in
    let has = has_from_place (deed.Sent m p) ((past s.log).live q) (s.so_far.sent_at m) (rw (← t.live q) there) in
    let hasnt = not_got (has_deed (deed.Received m q) ((past s.log).live p)) refl in
    let dropped = t.dropped m ∙ c in
    rw (has, hasnt, dropped) refl
  where
    not_got : (x : Bool) → has_deed (deed.Received m q) ((past s.log).live p) ≡ x → has_deed (deed.Received m q) ((past s.log).live p) ≡ false
    not_got false e = e
    not_got true e =
        let t = tie true s g l in
        let place = deed_place (deed.Received m q) ((past s.log).live p) e in
        let x = g.histories.received_is p place.0 m q (rw (t.live p) place.1) in
        let y = x.0 in absurd (cc (y, b))

latest : (s : State) (channel held : Lists) (p q m : ℕ) → is_ready s p ≡ false → Front s channel held p q m → Invariant s → Law true s → is_latest (past s.log) p q m ≡ true
latest s channel held p q m r f g l =
    let w = front_times s channel held p q m f in
    let a = later_from q m ((past s.log).live p) (before_it true s g l p q m w) in
    let b = later_from q m ((past s.log).dropped_since p) (λ i n e. over_has n m (way s.channel s.held q p) (l.drops_first p q i n (ready_guard s p r) e) w) in
    rw (a, b) refl

pub law_receiving : (s : State) (channel held : Lists) (p q m : ℕ) → is_ready s p ≡ false → s.up p ≡ true → Taking s channel held p q m → Front s channel held p q m → Invariant s → Law true s → Law true (after_receiving s channel held p q m)
law_receiving s channel held p q m r u t f g l =
    let a = message_facts s channel held p q m t g in
    let up : (past s.log).up p ≡ true = sym (l.is_up p) ∙ u in
    let d : q ≢ p = λ x. l.apart m a.0 (a.3 ∙ (x ∙ sym a.4)) in
    let e : broken_rule (past s.log) (Received p q m) ≡ None = unbroken (past s.log) (Received p q m) (record {
      numbers = rw (is_other q p d) refl;
      message = undelivered s p q m a.0 a.1 a.2 a.3 a.4 g l;
      order = latest s channel held p q m r f g l;
      sending = refl;
      receiving = rw (not_rolling true s g l p r, up) refl;
      joining = follows_quiet (past s.log).last (Received p q m) (l.last refl);
      deciding = refl;
      closing = refl;
      causes = refl;
    }) in
    by_row true (after_receiving s channel held p q m) s.log (Received p q m) refl (record {
      legal = legal_push s.log (Received p q m) l.legal e;
      last = λ _. refl;
      is_up = l.is_up;
      count = l.count;
      first = l.first;
      apart = l.apart;
      in_order = λ x y. subst Rising (sym (line_moved s channel held p q m f x y)) (l.in_order x y);
      permanent_first = λ n b c. subst (Over n) (sym (line_moved s channel held p q m f (s.so_far.from n) (s.so_far.to n))) (elim (cases_eq n m) [
        | inl i ↦ (let here : s.so_far.size p < s.so_far.permanent p = rw (i, a.4, at_one_here m (s.so_far.size p) s.so_far.received_at) at c in let low = permanent_low s p g in absurd (omega (arith, here, low)))
        | inr i ↦ l.permanent_first n (sym (at_one_other m n true s.so_far.is_received i) ∙ b) (rw (at_one_other m n (s.so_far.size p) s.so_far.received_at i) at c)
      ]);
      drops_first = λ x y i n w z. over_thin n (way channel held y x) (way s.channel s.held y x) (way_less s channel held p q m f y x) (l.drops_first x y i n w z);
      drops_low = λ x y i n z. let low = l.drops_low x y i n z in omega (arith, low);
    })

pub law_dropping : (s : State) (channel held : Lists) (p q m : ℕ) → is_ready s p ≡ false → s.up p ≡ false → Taking s channel held p q m → Front s channel held p q m → Invariant s → Law true s → Law true (after_dropping s channel held p q m)
law_dropping s channel held p q m r u t f g l =
    let a = message_facts s channel held p q m t g in
    let up : (past s.log).up p ≡ false = sym (l.is_up p) ∙ u in
    let d : q ≢ p = λ x. l.apart m a.0 (a.3 ∙ (x ∙ sym a.4)) in
    let low = g.messages.sent_low m a.0 in
    let e : broken_rule (past s.log) (Dropped p q m) ≡ None = unbroken (past s.log) (Dropped p q m) (record {
      numbers = rw (is_other q p d) refl;
      message = undelivered s p q m a.0 a.1 a.2 a.3 a.4 g l;
      order = latest s channel held p q m r f g l;
      sending = refl;
      receiving = rw (not_rolling true s g l p r, up) refl;
      joining = follows_quiet (past s.log).last (Dropped p q m) (l.last refl);
      deciding = refl;
      closing = refl;
      causes = refl;
    }) in
    by_row true (after_dropping s channel held p q m) s.log (Dropped p q m) refl (record {
      legal = legal_push s.log (Dropped p q m) l.legal e;
      last = λ _. refl;
      is_up = l.is_up;
      count = l.count;
      first = l.first;
      apart = l.apart;
      in_order = λ x y. rising_thin (line channel held s.kept x y) (line s.channel s.held s.kept x y) (less x y) (l.in_order x y);
      permanent_first = λ n b c. over_thin n (line channel held s.kept (s.so_far.from n) (s.so_far.to n)) (line s.channel s.held s.kept (s.so_far.from n) (s.so_far.to n)) (less (s.so_far.from n) (s.so_far.to n)) (l.permanent_first n b c);
      drops_first = λ x y i n w z. elim (drop_cases x i (deed.Received n y) z) [
        | inl b ↦ over_thin n (way channel held y x) (way s.channel s.held y x) (way_less s channel held p q m f y x) (l.drops_first x y i n w b)
        | inr b ↦ (let c : m ≡ n = cc (b.1) in let k : q ≡ y = cc (b.1) in rw (← c, ← k, b.0) front_over)
      ];
      drops_low = λ x y i n z. elim (drop_cases x i (deed.Received n y) z) [
        | inl b ↦ (let v = l.drops_low x y i n b in omega (arith, v))
        | inr b ↦ (let c : m ≡ n = cc (b.1) in omega (arith, c, low.1))
      ];
    })
  where
    less : (x y : ℕ) → Thin (line channel held s.kept x y) (line s.channel s.held s.kept x y)
    less x y = thin_append (messages (s.kept x y)) (messages (s.kept x y)) (way channel held x y) (way s.channel s.held x y) (thin_all (messages (s.kept x y))) (way_less s channel held p q m f x y)

    front_over : Over m (way channel held q p)
    front_over = let x : Rising (m ∷ way channel held q p) = subst Rising f.here (rising_right (messages (s.kept q p)) (way s.channel s.held q p) (l.in_order q p)) in x.0

    drop_cases : (x i : ℕ) (z : Deed) → slice_get (at_one p ((past s.log).dropped_since p ++ deed.Received m q ∷ []) (past s.log).dropped_since x) i ≡ Some z → (slice_get ((past s.log).dropped_since x) i ≡ Some z) ⊎ ((x ≡ p) × (deed.Received m q ≡ z))
    drop_cases x i z h = at_test (x == p) refl h
      where
        at_test : (b : Bool) → (x == p) ≡ b → slice_get (if b then (past s.log).dropped_since p ++ deed.Received m q ∷ [] else (past s.log).dropped_since x) i ≡ Some z → (slice_get ((past s.log).dropped_since x) i ≡ Some z) ⊎ ((x ≡ p) × (deed.Received m q ≡ z))
        at_test false e h = inl h
        at_test true e h =
            let k : x ≡ p = grind (arith, nat_tests, e) in
            elim (get_push ((past s.log).dropped_since p) (deed.Received m q) i z h) [ inl c ↦ inl (rw k c) | inr c ↦ inr (k, c.1) ]

pub law_failing : (s : State) (p : ℕ) → s.up p ≡ true → Invariant s → Law true s → Law true (after_failing s p)
law_failing s p u g l =
    let e : broken_rule (past s.log) (Failed p) ≡ None = unbroken (past s.log) (Failed p) (record {
      numbers = refl;
      message = refl;
      order = refl;
      sending = refl;
      receiving = refl;
      joining = follows_quiet (past s.log).last (Failed p) (l.last refl);
      deciding = refl;
      closing = refl;
      causes = sym (l.is_up p) ∙ u;
    }) in
    by_row true (after_failing s p) s.log (Failed p) refl (record {
      legal = legal_push s.log (Failed p) l.legal e;
      last = λ _. refl;
      is_up = at_one_same p false false s.up (past s.log).up refl l.is_up;
      count = l.count;
      first = l.first;
      apart = l.apart;
      in_order = l.in_order;
      permanent_first = l.permanent_first;
      drops_first = l.drops_first;
      drops_low = λ x y i n z. let low = l.drops_low x y i n z in omega (arith, low);
    })

pub law_refusal : (s : State) (p : ℕ) (v : Verb) (cause : Cause) → names_begun (past s.log) cause ≡ true → refuses (past s.log) p v cause ≡ true → Invariant s → Law true s → Law true (after_refusal s p v cause)
law_refusal s p v cause b c g l =
    let e : broken_rule (past s.log) (Refused p v cause) ≡ None = unbroken (past s.log) (Refused p v cause) (record {
      numbers = b;
      message = refl;
      order = refl;
      sending = refl;
      receiving = refl;
      joining = follows_quiet (past s.log).last (Refused p v cause) (l.last refl);
      deciding = refl;
      closing = refl;
      causes = c;
    }) in
    by_row true (after_refusal s p v cause) s.log (Refused p v cause) refl (record {
      legal = legal_push s.log (Refused p v cause) l.legal e;
      last = λ _. refl;
      is_up = l.is_up;
      count = l.count;
      first = l.first;
      apart = l.apart;
      in_order = l.in_order;
      permanent_first = l.permanent_first;
      drops_first = l.drops_first;
      drops_low = λ x y i n z. let low = l.drops_low x y i n z in omega (arith, low);
    })
