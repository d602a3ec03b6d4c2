-- Each message in a channel, a held list or a kept list is the message of a sent row of that sender to that receiver.
use Rattle.std.proofs.Common.{◌≡◌, ℕ, ℤ, zero, suc, ◌+◌, ◌≤◌, Bool, true, false, Some, List, [], ◌∷◌, ◌++◌, length, refl, arith, sym, ap, subst, ◌∙◌}
use Rattle.std.specs.Prelude.{◌==◌, ◌&&◌, nat_lt, if◌then◌else◌, slice_get, fold}
use Rattle.std.proofs.lemmas.Bool.Decides.{nat_tests}
use Rattle.kt_spacetime.specs.declared.event.Event.{Event}
use Rattle.kt_spacetime.specs.declared.event.Event.TheVariants.{Sent, Received, Dropped, Began, Took, Ready, Unwilling, Decided, Closed, Failed, Refused}
use Rattle.kt_meaning.proofs.Lists.{get_kept, get_last}
use Rattle.kt_protocol.specs.Summary.{Summary, summary, summary_start, summary_after, summary_committed}
use Rattle.kt_protocol.specs.Parcels.{Parcel, App, Ask, Reply, Decide, Lists, with_parcel, with_rest, messages_where, with_checkpoint_asks, with_rollback_asks, with_decisions}
use Rattle.kt_protocol.specs.States.{State, ProtocolStep, opening}
use Rattle.kt_protocol.specs.Joining.{kind_for, after_began, after_joining_checkpoint, after_joining_rollback}
use Rattle.kt_protocol.specs.Messages.{after_sending, after_receiving, after_dropping, after_failing, after_refusal}
use Rattle.kt_protocol.proofs.Invariant.{Invariant, summary_push}
use Rattle.kt_protocol.specs.LateClosing.{late_deciding_as, late_deciding, late_closing, late_closing_checkpoint, late_closing_rollback, is_newer, is_within_label}
use Rattle.kt_protocol.specs.LateSteps.{late_step, late_run}
use Rattle.kt_protocol.specs.OnceClosed.{once_closed}
use Rattle.kt_machine.specs.Done.{Done, done, done_after, done_start}
use Rattle.kt_machine.specs.Values.{Act}
use Rattle.kt_machine.specs.Acts.{stepper}
use Rattle.kt_machine.specs.States.{IsSent}
use Rattle.kt_machine.proofs.AddedRows.{decided_log, closed_log, began_known}
use Rattle.kt_machine.proofs.StepWalk.{Moves, walk, refuses_now, is_message}

-- the rows of the twins are those of the log
pub twins_rows : (log : List Event) → (summary log).rows ≡ length log
twins_rows log = omega (arith, from summary_start log)
  where
    one : (h : Summary) (x : Event) → (summary_after h x).rows ≡ h.rows + 1
    one h (Sent p q body) = refl
    one h (Received p q m) = refl
    one h (Dropped p q m) = refl
    one h (Began p k kind) = refl
    one h (Took p k) = refl
    one h (Ready p k) = refl
    one h (Unwilling p k cause) = refl
    one h (Closed p k) = refl
    one h (Failed p) = refl
    one h (Refused p v cause) = refl
    one h (Decided p k false) = refl
    one h (Decided p k true) = commit (h.is_rollback k)
      where
        commit : (b : Bool) → (summary_committed b h k).rows ≡ h.rows + 1
        commit true = refl
        commit false = refl

    from : (h : Summary) (log : List Event) → (fold summary_after h log).rows ≡ h.rows + length log
    from h [] = omega arith
    from h (x ∷ xs) = let a = from (summary_after h x) xs in let b = one h x in omega (arith, a, b)

-- bodies are those of the sent rows
pub body_is : (log : List Event) (i p q : ℕ) (b : ℤ) → slice_get log i ≡ Some (Sent p q b) → (done log).body (i + 1) ≡ b
body_is log i p q b e = let n : i + 1 ≡ 0 + i + 1 = omega arith in ap (done log).body n ∙ from done_start log i e
  where
    stays : (d : Done) (x : Event) (m : ℕ) → m ≤ d.past.rows → (done_after d x).body m ≡ d.body m
    stays d (Sent p q body) m l = let e : (m == d.past.rows + 1) ≡ false = grind (arith, nat_tests, l) in rw e refl
    stays d (Received p q m') m l = refl
    stays d (Dropped p q m') m l = refl
    stays d (Began p k kind) m l = refl
    stays d (Took p k) m l = refl
    stays d (Ready p k) m l = refl
    stays d (Unwilling p k cause) m l = refl
    stays d (Closed p k) m l = refl
    stays d (Failed p) m l = refl
    stays d (Refused p v cause) m l = refl
    stays d (Decided p k c) m l = refl

    old : (d : Done) (log : List Event) (m : ℕ) → m ≤ d.past.rows → (fold done_after d log).body m ≡ d.body m
    old d [] m l = refl
    old d (x ∷ xs) m l = old (done_after d x) xs m (omega (arith, l)) ∙ stays d x m l

    here : (d : Done) (x : Event) → x ≡ Sent p q b → (done_after d x).body (d.past.rows + 1) ≡ b
    here d x e = ap (λ (y : Event). (done_after d y).body (d.past.rows + 1)) e ∙ (let s : (d.past.rows + 1 == d.past.rows + 1) ≡ true = grind (arith, nat_tests) in rw s refl)

    from : (d : Done) (log : List Event) (i : ℕ) → slice_get log i ≡ Some (Sent p q b) → (fold done_after d log).body (d.past.rows + i + 1) ≡ b
    from d [] i e = absurd (cc (e))
    from d (x ∷ xs) zero e =
        let s : x ≡ Sent p q b = cc (e) in
        let n : d.past.rows + 0 + 1 ≡ d.past.rows + 1 = omega arith in
        ap (fold done_after d (x ∷ xs)).body n ∙ (old (done_after d x) xs (d.past.rows + 1) (omega arith) ∙ here d x s)
    from d (x ∷ xs) (suc i) e =
        let n : d.past.rows + suc i + 1 ≡ (d.past.rows + 1) + i + 1 = omega arith in
        ap (fold done_after d (x ∷ xs)).body n ∙ from (done_after d x) xs i e

pub record IsRow (log : List Event) (m from to : ℕ) : Type 0 where
  pub row : ℕ
  pub number : m ≡ row + 1
  pub body : ℤ
  pub sent : slice_get log row ≡ Some (Sent from to body)

pub is_sent : (log : List Event) (m from to : ℕ) → IsRow log m from to → IsSent log m from to
is_sent log m from to x = record { row = x.row; number = x.number; sent = x.sent ∙ ap (λ (b : ℤ). Some (Sent from to b)) (sym (ap (done log).body x.number ∙ body_is log x.row from to x.body x.sent)) }

unfoldable pub AllRows : List Event → ℕ → ℕ → List Parcel → Type 0
AllRows log u v [] = Unit {0}
AllRows log u v (App m ∷ xs) = IsRow log m u v × AllRows log u v xs
AllRows log u v (Ask k l ∷ xs) = AllRows log u v xs
AllRows log u v (Reply k w ∷ xs) = AllRows log u v xs
AllRows log u v (Decide k c ∷ xs) = AllRows log u v xs

row_more : (log : List Event) (x : Event) (m u v : ℕ) → IsRow log m u v → IsRow (log ++ x ∷ []) m u v
row_more log x m u v r = record { row = r.row; number = r.number; body = r.body; sent = get_kept log x r.row (Sent u v r.body) r.sent }

all_more : (log : List Event) (x : Event) (u v : ℕ) (l : List Parcel) → AllRows log u v l → AllRows (log ++ x ∷ []) u v l
unfolding AllRows
all_more log x u v [] a = tt
all_more log x u v (App m ∷ l) a = (row_more log x m u v a.0, all_more log x u v l a.1)
all_more log x u v (Ask k n ∷ l) a = all_more log x u v l a
all_more log x u v (Reply k w ∷ l) a = all_more log x u v l a
all_more log x u v (Decide k c ∷ l) a = all_more log x u v l a

all_append : (log : List Event) (u v : ℕ) (l t : List Parcel) → AllRows log u v l → AllRows log u v t → AllRows log u v (l ++ t)
unfolding AllRows
all_append log u v [] t a b = b
all_append log u v (App m ∷ l) t a b = (a.0, all_append log u v l t a.1 b)
all_append log u v (Ask k n ∷ l) t a b = all_append log u v l t a b
all_append log u v (Reply k w ∷ l) t a b = all_append log u v l t a b
all_append log u v (Decide k c ∷ l) t a b = all_append log u v l t a b

all_none : (log : List Event) (u v : ℕ) → AllRows log u v []
unfolding AllRows
all_none log u v = tt

all_one : (log : List Event) (u v m : ℕ) → IsRow log m u v → AllRows log u v (App m ∷ [])
unfolding AllRows
all_one log u v m r = (r, tt)

all_ask : (log : List Event) (u v k l : ℕ) → AllRows log u v (Ask k l ∷ [])
unfolding AllRows
all_ask log u v k l = tt

all_reply : (log : List Event) (u v k : ℕ) (w : Bool) → AllRows log u v (Reply k w ∷ [])
unfolding AllRows
all_reply log u v k w = tt

all_decide : (log : List Event) (u v k : ℕ) (c : Bool) → AllRows log u v (Decide k c ∷ [])
unfolding AllRows
all_decide log u v k c = tt

-- a front that is taken
all_front : (log : List Event) (u v m : ℕ) (rest l : List Parcel) → l ≡ App m ∷ rest → AllRows log u v l → IsRow log m u v × AllRows log u v rest
unfolding AllRows
all_front log u v m rest l e a = subst (AllRows log u v) e a

all_rest : (log : List Event) (u v : ℕ) (x : Parcel) (rest l : List Parcel) → l ≡ x ∷ rest → is_message x ≡ false → AllRows log u v l → AllRows log u v rest
unfolding AllRows
all_rest log u v (App m) rest l e n a = absurd (cc (n))
all_rest log u v (Ask k t) rest l e n a = subst (AllRows log u v) e a
all_rest log u v (Reply k w) rest l e n a = subst (AllRows log u v) e a
all_rest log u v (Decide k c) rest l e n a = subst (AllRows log u v) e a

all_sieve : (log : List Event) (u v : ℕ) (t : ℕ → Bool) (l : List Parcel) → AllRows log u v l → AllRows log u v (messages_where t l)
unfolding AllRows messages_where
all_sieve log u v t [] a = tt
all_sieve log u v t (App m ∷ l) a = go (t m) (all_sieve log u v t l a.1)
  where
    go : (b : Bool) → AllRows log u v (messages_where t l) → AllRows log u v (if b then App m ∷ messages_where t l else messages_where t l)
    go true r = (a.0, r)
    go false r = r
all_sieve log u v t (Ask k n ∷ l) a = all_sieve log u v t l a
all_sieve log u v t (Reply k w ∷ l) a = all_sieve log u v t l a
all_sieve log u v t (Decide k c ∷ l) a = all_sieve log u v t l a

pub all_at : (log : List Event) (u v m i : ℕ) (l : List Parcel) → AllRows log u v l → slice_get l i ≡ Some (App m) → IsRow log m u v
unfolding AllRows
all_at log u v m i [] a e = absurd (cc (e))
all_at log u v m zero (App n ∷ l) a e = let s : n ≡ m = cc (e) in subst (λ (x : ℕ). IsRow log x u v) s a.0
all_at log u v m (suc i) (App n ∷ l) a e = all_at log u v m i l a.1 e
all_at log u v m zero (Ask k n ∷ l) a e = absurd (cc (e))
all_at log u v m (suc i) (Ask k n ∷ l) a e = all_at log u v m i l a e
all_at log u v m zero (Reply k w ∷ l) a e = absurd (cc (e))
all_at log u v m (suc i) (Reply k w ∷ l) a e = all_at log u v m i l a e
all_at log u v m zero (Decide k c ∷ l) a e = absurd (cc (e))
all_at log u v m (suc i) (Decide k c ∷ l) a e = all_at log u v m i l a e

-- whole tables of lists
abbrev pub AllLists : List Event → Lists → Type 0
AllLists log channel = (u v : ℕ) → AllRows log u v (channel u v)

both : (a b c d : ℕ) → (a == b && c == d) ≡ true → (a ≡ b) × (c ≡ d)
both a b c d e = (grind (arith, nat_tests, e), grind (arith, nat_tests, e))

push : (log : List Event) (channel : Lists) (p q : ℕ) (x : Parcel) → AllLists log channel → AllRows log p q (x ∷ []) → AllLists log (with_parcel channel p q x)
unfolding with_parcel
push log channel p q x a b u v = go (u == p && v == q) refl
  where
    go : (t : Bool) → (u == p && v == q) ≡ t → AllRows log u v (if t then channel u v ++ x ∷ [] else channel u v)
    go false e = a u v
    go true e = let s = both u p v q e in all_append log u v (channel u v) (x ∷ []) (a u v) (subst (λ (y : ℕ). AllRows log y v (x ∷ [])) (sym s.0) (subst (λ (y : ℕ). AllRows log p y (x ∷ [])) (sym s.1) b))

pop : (log : List Event) (channel : Lists) (q p : ℕ) (rest : List Parcel) → AllLists log channel → AllRows log q p rest → AllLists log (with_rest channel q p rest)
unfolding with_rest
pop log channel q p rest a b u v = go (u == q && v == p) refl
  where
    go : (t : Bool) → (u == q && v == p) ≡ t → AllRows log u v (if t then rest else channel u v)
    go false e = a u v
    go true e = let s = both u q v p e in subst (λ (y : ℕ). AllRows log y v rest) (sym s.0) (subst (λ (y : ℕ). AllRows log q y rest) (sym s.1) b)

ask : (log : List Event) (channel : Lists) (last : ℕ → ℕ → ℕ) (p k : ℕ) → AllLists log channel → AllLists log (with_checkpoint_asks channel last p k)
unfolding with_checkpoint_asks
ask log channel last p k a u v = go (u == p && nat_lt 0 (last p v))
  where
    go : (t : Bool) → AllRows log u v (if t then channel u v ++ Ask k (last p v) ∷ [] else channel u v)
    go false = a u v
    go true = all_append log u v (channel u v) (Ask k (last p v) ∷ []) (a u v) (all_ask log u v k (last p v))

ask_back : (log : List Event) (channel : Lists) (first last_sent : ℕ → ℕ → ℕ) (p k : ℕ) → AllLists log channel → AllLists log (with_rollback_asks channel first last_sent p k)
unfolding with_rollback_asks
ask_back log channel first last_sent p k a u v = go (u == p && nat_lt 0 (first p v))
  where
    go : (t : Bool) → AllRows log u v (if t then channel u v ++ Ask k (last_sent p v) ∷ [] else channel u v)
    go false = a u v
    go true = all_append log u v (channel u v) (Ask k (last_sent p v) ∷ []) (a u v) (all_ask log u v k (last_sent p v))

tell : (log : List Event) (channel : Lists) (asked : ℕ → ℕ → ℕ → Bool) (p k : ℕ) (c : Bool) → AllLists log channel → AllLists log (with_decisions channel asked p k c)
unfolding with_decisions
tell log channel asked p k c a u v = go (u == p && asked k p v)
  where
    go : (t : Bool) → AllRows log u v (if t then channel u v ++ Decide k c ∷ [] else channel u v)
    go false = a u v
    go true = all_append log u v (channel u v) (Decide k c ∷ []) (a u v) (all_decide log u v k c)

pub record Carried (s : State) (a : List Act) : Type 0 where
  pub known : s.so_far ≡ summary s.log
  pub channel : AllLists s.log s.channel
  pub held : AllLists s.log s.held
  pub kept : AllLists s.log s.kept

record AllThree (log : List Event) (x y z : Lists) : Type 0 where
  channel : AllLists log x
  held : AllLists log y
  kept : AllLists log z

row : (s s' : State) (x : Event) (a a' : List Act) → s'.log ≡ s.log ++ x ∷ [] → s'.so_far ≡ summary_after s.so_far x → (AllThree (s.log ++ x ∷ []) s.channel s.held s.kept → AllThree (s.log ++ x ∷ []) s'.channel s'.held s'.kept) → Carried s a → Carried s' a'
row s s' x a a' e h f i =
    let g = f (record { channel = λ u v. all_more s.log x u v (s.channel u v) (i.channel u v); held = λ u v. all_more s.log x u v (s.held u v) (i.held u v); kept = λ u v. all_more s.log x u v (s.kept u v) (i.kept u v) }) in
    record {
      known = h ∙ (summary_push s.so_far s.log x i.known ∙ ap summary (sym e));
      channel = subst (λ (l : List Event). AllLists l s'.channel) (sym e) g.channel;
      held = subst (λ (l : List Event). AllLists l s'.held) (sym e) g.held;
      kept = subst (λ (l : List Event). AllLists l s'.kept) (sym e) g.kept;
    }

-- a row that leaves the lists
still : (s s' : State) (x : Event) (a a' : List Act) → s'.log ≡ s.log ++ x ∷ [] → s'.so_far ≡ summary_after s.so_far x → s'.channel ≡ s.channel → s'.held ≡ s.held → s'.kept ≡ s.kept → Carried s a → Carried s' a'
still s s' x a a' e h c d k i = row s s' x a a' e h (λ g. record { channel = subst (AllLists (s.log ++ x ∷ [])) (sym c) g.channel; held = subst (AllLists (s.log ++ x ∷ [])) (sym d) g.held; kept = subst (AllLists (s.log ++ x ∷ [])) (sym k) g.kept }) i

sent_row : (s : State) (p q : ℕ) (body : ℤ) → s.so_far ≡ summary s.log → IsRow (s.log ++ Sent p q body ∷ []) (s.so_far.rows + 1) p q
sent_row s p q body n = record { row = length s.log; number = ap (λ (h : Summary). h.rows + 1) n ∙ ap (λ (x : ℕ). x + 1) (twins_rows s.log); body = body; sent = get_last s.log (Sent p q body) }

closed : (s : State) (log : List Event) (p k : ℕ) (w : Bool) → AllThree log s.channel s.held s.kept → AllThree log (late_closing s p k w).channel (late_closing s p k w).held (late_closing s p k w).kept
closed s log p k w i = at_if (s.so_far.is_rollback k) (late_closing_rollback s p k w) (late_closing_checkpoint s p k w) (rolled w) (saved w)
  where
    at_if : (b : Bool) (x y : State) → AllThree log x.channel x.held x.kept → AllThree log y.channel y.held y.kept → AllThree log (if b then x else y).channel (if b then x else y).held (if b then x else y).kept
    at_if true x y a b = a
    at_if false x y a b = b

    chosen : (u v : ℕ) (b : Bool) (l t : List Parcel) → AllRows log u v l → AllRows log u v t → AllRows log u v (if b then l else t)
    chosen u v true l t a b = a
    chosen u v false l t a b = b

    rolled : (w : Bool) → AllThree log (late_closing_rollback s p k w).channel (late_closing_rollback s p k w).held (late_closing_rollback s p k w).kept
    rolled true = record {
      channel = tell log s.channel s.asked p k true i.channel;
      held = λ q u. chosen q u (u == p) (messages_where (is_within_label s k u q) (s.kept q u) ++ messages_where (is_within_label s k u q) (s.held q u)) (s.held q u)
          (all_append log q u (messages_where (is_within_label s k u q) (s.kept q u)) (messages_where (is_within_label s k u q) (s.held q u)) (all_sieve log q u (is_within_label s k u q) (s.kept q u) (i.kept q u)) (all_sieve log q u (is_within_label s k u q) (s.held q u) (i.held q u)))
          (i.held q u);
      kept = λ q u. chosen q u (u == p) [] (s.kept q u) (all_none log q u) (i.kept q u);
    }
    rolled false = record { channel = tell log s.channel s.asked p k false i.channel; held = i.held; kept = i.kept }

    saved : (w : Bool) → AllThree log (late_closing_checkpoint s p k w).channel (late_closing_checkpoint s p k w).held (late_closing_checkpoint s p k w).kept
    saved true = record {
      channel = tell log s.channel s.asked p k true i.channel;
      held = i.held;
      kept = λ q u. chosen q u (u == p) (messages_where (is_newer s u) (s.kept q u)) (s.kept q u) (all_sieve log q u (is_newer s u) (s.kept q u) (i.kept q u)) (i.kept q u);
    }
    saved false = record { channel = tell log s.channel s.asked p k false i.channel; held = i.held; kept = i.kept }

decided_lists : (s : State) (p k : ℕ) (w roll : Bool) → ((late_deciding_as w roll s p k).channel ≡ s.channel) × ((late_deciding_as w roll s p k).held ≡ s.held) × ((late_deciding_as w roll s p k).kept ≡ s.kept)
decided_lists s p k false roll = (refl, refl, refl)
decided_lists s p k true false = (refl, refl, refl)
decided_lists s p k true true = (refl, refl, refl)

-- a message goes from a front to a list
moved : (log : List Event) (front back : Lists) (q p m : ℕ) (rest : List Parcel) → front q p ≡ App m ∷ rest → AllLists log front → AllLists log back → AllLists log (with_rest front q p rest) × AllLists log (with_parcel back q p (App m))
moved log front back q p m rest e a b = let f = all_front log q p m rest (front q p) e (a q p) in (pop log front q p rest a f.1, push log back q p (App m) b (all_one log q p m f.0))

pub carried : (x : ProtocolStep) (p : ℕ) → Moves x p Carried Carried
carried z p = record {
  ends = λ s a i. i;
  sends = λ s q body a t o u i. row s (after_sending s p q body) (Sent p q body) a a refl refl (λ g. record { channel = push (s.log ++ Sent p q body ∷ []) s.channel p q (App (s.so_far.rows + 1)) g.channel (all_one (s.log ++ Sent p q body ∷ []) p q (s.so_far.rows + 1) (sent_row s p q body i.known)); held = g.held; kept = g.kept }) i;
  declines = λ s v cause a i. still s (after_refusal s p v cause) (Refused p v cause) a a refl refl refl refl refl i;
  fails = λ s a t' u i. still s (after_failing s p) (Failed p) a _ refl refl refl refl refl i;
  opens = λ s roll a o i. still s (after_began s p roll) (Began p (s.instances + 1) (kind_for roll)) a a refl (began_known p s s roll) refl refl refl i;
  takes = λ s k f x y a o u i. row s (after_joining_checkpoint s s.channel p k f x y) (Took p k) a _ refl refl (λ g. record { channel = ask (s.log ++ Took p k ∷ []) s.channel s.last_received p k g.channel; held = g.held; kept = g.kept }) i;
  rolls = λ s k f x y a o i. row s (after_joining_rollback s s.channel p k f x y) (Ready p k) a a refl refl (λ g. record { channel = ask_back (s.log ++ Ready p k ∷ []) s.channel s.first_sent s.last_sent p k g.channel; held = g.held; kept = g.kept }) i;
  notes = λ s q k l a i. record { known = i.known; channel = i.channel; held = i.held; kept = i.kept };
  receives = λ s q m rest a y u e n i. row s (after_receiving s (with_rest s.channel q p rest) s.held p q m) (Received p q m) a _ refl refl (λ g. let f = moved (s.log ++ Received p q m ∷ []) s.channel s.kept q p m rest e g.channel g.kept in record { channel = f.0; held = g.held; kept = f.1 }) i;
  receives_held = λ s q m rest a y u e i. row s (after_receiving s s.channel (with_rest s.held q p rest) p q m) (Received p q m) a _ refl refl (λ g. let f = moved (s.log ++ Received p q m ∷ []) s.held s.kept q p m rest e g.held g.kept in record { channel = g.channel; held = f.0; kept = f.1 }) i;
  loses = λ s q m rest a y u e n i. row s (after_dropping s (with_rest s.channel q p rest) s.held p q m) (Dropped p q m) a a refl refl (λ g. let f = moved (s.log ++ Dropped p q m ∷ []) s.channel s.kept q p m rest e g.channel g.kept in record { channel = f.0; held = g.held; kept = g.kept }) i;
  loses_held = λ s q m rest a y u e i. row s (after_dropping s s.channel (with_rest s.held q p rest) p q m) (Dropped p q m) a a refl refl (λ g. let f = moved (s.log ++ Dropped p q m ∷ []) s.held s.kept q p m rest e g.held g.kept in record { channel = g.channel; held = f.0; kept = g.kept }) i;
  holds = λ s q m rest a y e i. let f = moved s.log s.channel s.held q p m rest e i.channel i.held in record { known = i.known; channel = f.0; held = f.1; kept = i.kept };
  drops = λ s q x rest a e f i. record { known = i.known; channel = pop s.log s.channel q p rest i.channel (all_rest s.log q p x rest (s.channel q p) e f (i.channel q p)); held = i.held; kept = i.kept };
  replies = λ s q k w a i. record { known = i.known; channel = push s.log s.channel p q (Reply k w) i.channel (all_reply s.log p q k w); held = i.held; kept = i.kept };
  refuses = λ s q k cause a i. row s (refuses_now s p q k cause) (Unwilling p k cause) a a refl refl (λ g. record { channel = push (s.log ++ Unwilling p k cause ∷ []) s.channel p q (Reply k false) g.channel (all_reply (s.log ++ Unwilling p k cause ∷ []) p q k false); held = g.held; kept = g.kept }) i;
  counts = λ s q k w a i. record { known = i.known; channel = i.channel; held = i.held; kept = i.kept };
  answers = λ s k a i. record { known = i.known; channel = push s.log s.channel p (s.parent k p) (Reply k (s.all_willing k p)) i.channel (all_reply s.log p (s.parent k p) k (s.all_willing k p)); held = i.held; kept = i.kept };
  decides = λ s k a o e b i. let f = decided_log p s s k (s.all_willing k p) (s.so_far.is_rollback k) refl in let g = decided_lists s p k (s.all_willing k p) (s.so_far.is_rollback k) in still s (late_deciding s p k) (Decided p k (s.all_willing k p)) a a f.0 f.1 g.0 g.1 g.2 i;
  closes = λ s k w a o d v h i. let f = closed_log p s s k w in row s (late_closing s p k w) (Closed p k) a _ f.0 f.1 (λ g. closed s (s.log ++ Closed p k ∷ []) p k w g) i;
}

carried_run : (c : State) (steps : List ProtocolStep) → ((xs : List ProtocolStep) → Invariant (once_closed (late_run c xs))) → Carried c [] → Carried (late_run c steps) []
carried_run c [] g i = i
carried_run c (x ∷ xs) g i =
    let y = walk x Carried Carried (carried x (stepper x)) c (g []) i in
    carried_run (late_step c x) xs (λ ys. g (x ∷ ys)) (record { known = y.known; channel = y.channel; held = y.held; kept = y.kept })

pub carried_of : (n : ℕ) (steps : List ProtocolStep) → ((xs : List ProtocolStep) → Invariant (once_closed (late_run (opening n) xs))) → Carried (late_run (opening n) steps) []
carried_of n steps g = carried_run (opening n) steps g (record { known = refl; channel = λ u v. all_none [] u v; held = λ u v. all_none [] u v; kept = λ u v. all_none [] u v })

pub in_list : (log : List Event) (u v m i : ℕ) (channel : Lists) → AllLists log channel → slice_get (channel u v) i ≡ Some (App m) → IsSent log m u v
in_list log u v m i channel a e = is_sent log m u v (all_at log u v m i (channel u v) (a u v) e)
