-- Each live message that isn't dropped stands once in the line from its sender to its receiver.
use Rattle.std.proofs.Common.{◌≡◌, ℕ, ℤ, ◌+◌, ◌<◌, Bool, true, false, None, List, [], ◌∷◌, ◌++◌, length, take, refl, arith, sym, ap, ap₂, subst, ◌∙◌, append-nil}
use Rattle.std.specs.Prelude.{◌==◌, ◌&&◌, ◌||◌, if◌then◌else◌}
use Rattle.std.proofs.lemmas.Bool.Decides.{nat_tests}
use Rattle.std.proofs.lemmas.Option.{slice_get_within}
use Rattle.kt_spacetime.specs.declared.event.Event.{Event}
use Rattle.kt_spacetime.specs.declared.event.Event.TheVariants.{Sent, Received, Dropped, Began, Took, Ready, Unwilling, Decided, Closed, Failed, Refused}
use Rattle.kt_spacetime.specs.declared.deeds.Deed.{Deed}
use Rattle.kt_spacetime.specs.declared.deeds.Deed.TheVariants as deed
use Rattle.kt_meaning.specs.Past.{Past, past, at_one}
use Rattle.kt_meaning.specs.Legal.{IsLegal, broken_rule, is_deed, has_deed}
use Rattle.kt_meaning.proofs.LegalLogs.{legal_last, rows_length}
use Rattle.kt_meaning.proofs.Lists.{get_take, deed_place, has_from_place}
use Rattle.kt_protocol.specs.Parcels.{messages, Parcel, App, Ask, Reply, Decide, Lists, with_parcel, with_rest}
use Rattle.kt_protocol.specs.InTransit.{times, received_of}
use Rattle.kt_protocol.specs.Summary.{Summary, summary_after}
use Rattle.kt_protocol.specs.States.{State, ProtocolStep}
use Rattle.kt_protocol.specs.Joining.{kind_for, after_began, after_joining_checkpoint, after_joining_rollback}
use Rattle.kt_protocol.specs.Messages.{after_sending, after_receiving, after_dropping, after_holding, after_failing, after_refusal}
use Rattle.kt_protocol.specs.Replies.{after_noting, after_answering}
use Rattle.kt_protocol.specs.Deciding.{after_decision}
use Rattle.kt_protocol.proofs.Weights.{any_app}
use Rattle.kt_protocol.proofs.Lines.{times_append, apps_with_parcel, apps_with_rest, apps_checkpoint_asks, apps_rollback_asks, apps_decisions, apps_sending}
use Rattle.kt_protocol.specs.LateClosing.{late_deciding_as, late_deciding, late_closing, late_closing_checkpoint, late_closing_rollback}
use Rattle.kt_protocol.specs.OnceClosed.{has_to_restore}
use Rattle.kt_machine.specs.Done.{Done, done, done_after}
use Rattle.kt_machine.specs.Values.{Act}
use Rattle.kt_machine.specs.States.{messages_between}
use Rattle.kt_machine.proofs.DoneAlong.{done_more, done_past}
use Rattle.kt_machine.proofs.LegalFacts.{sound}
use Rattle.kt_machine.proofs.AddedRows.{decided_log, closed_log}
use Rattle.kt_machine.proofs.StepWalk.{Moves, counted, replies_now, refuses_now, is_message}
use Rattle.kt_machine.proofs.ReceivedMessages.{got_append, got_known}
use Rattle.kt_machine.proofs.Lines.{line_received, line_received_held, line_held, times_line, times_popped}
use Rattle.kt_machine.proofs.ListedMessages.{AllRows, Carried, carried, twins_rows}

pub record Once (d : Done) (x y : Lists) : Type 0 where
  pub each : (m p q : ℕ) → has_deed (deed.Sent m q) (d.past.live p) ≡ true → d.past.dropped m ≡ false → times m (messages_between d.own x y p q) ≡ 1

-- of who has a committed rollback to close
pub record Later (h : Summary) (d : Done) (x y : Lists) : Type 0 where
  pub each : (m p q : ℕ) → has_to_restore h q ≡ true → has_deed (deed.Sent m q) (d.past.live p) ≡ true → d.past.dropped m ≡ false → times m (messages_between d.own x y p q) ≡ 1

pub record Here (s : State) (a : List Act) : Type 0 where
  pub carried : Carried s a
  pub once : IsLegal s.log → Once (done s.log) s.channel s.held

pub record Gone (s : State) (a : List Act) : Type 0 where
  pub carried : Carried s a
  pub once : IsLegal s.log → Later s.so_far (done s.log) s.channel s.held

gone : {s : State} {a : List Act} → Here s a → Gone s a
gone i = record { carried = i.carried; once = λ l. record { each = λ m p q r e f. (i.once l).each m p q e f } }

pub no_app : (x : Parcel) → is_message x ≡ false → any_app x ≡ 0
no_app (App m) e = absurd (cc (e))
no_app (Ask k l) e = refl
no_app (Reply k w) e = refl
no_app (Decide k c) e = refl

-- deeds of longer and shorter histories
has_push : (d e : Deed) (l : List Deed) → has_deed d (l ++ e ∷ []) ≡ (has_deed d l || is_deed d e)
has_push d e [] = flat (is_deed d e)
  where
    flat : (b : Bool) → (b || false) ≡ b
    flat true = refl
    flat false = refl
has_push d e (x ∷ l) = go (is_deed d x) (has_push d e l)
  where
    go : (b : Bool) → has_deed d (l ++ e ∷ []) ≡ (has_deed d l || is_deed d e) → (b || has_deed d (l ++ e ∷ [])) ≡ ((b || has_deed d l) || is_deed d e)
    go true r = refl
    go false r = r

has_take : (d : Deed) (n : ℕ) (l : List Deed) → has_deed d (take n l) ≡ true → has_deed d l ≡ true
has_take d n l e = let p = deed_place d (take n l) e in has_from_place d l p.0 (get_take n l p.0 d p.1).0

-- lists that differ at most in parcels that are no messages
pub line_same : (own : ℕ → List Deed) (x y x' y' : Lists) → ((u v : ℕ) → messages (x' u v) ≡ messages (x u v)) → ((u v : ℕ) → messages (y' u v) ≡ messages (y u v)) → (u v : ℕ) → messages_between own x' y' u v ≡ messages_between own x y u v
line_same own x y x' y' e f u v = ap₂ (λ (a b : List ℕ). received_of u (own v) ++ (a ++ b)) (f u v) (e u v)

-- a message with a greater number than rows stands in no list
pub times_rows : (log : List Event) (u v m : ℕ) (l : List Parcel) → AllRows log u v l → length log < m → times m (messages l) ≡ 0
unfolding AllRows
times_rows log u v m [] a h = refl
times_rows log u v m (App n ∷ l) a h =
    let w = slice_get_within log a.0.row (Sent u v a.0.body) a.0.sent in
    let k = a.0.number in
    let d : (n == m) ≡ false = grind (arith, nat_tests, h, w, k) in
    let r = times_rows log u v m l a.1 h in
    rw d (omega (arith, r))
times_rows log u v m (Ask k n ∷ l) a h = times_rows log u v m l a h
times_rows log u v m (Reply k w ∷ l) a h = times_rows log u v m l a h
times_rows log u v m (Decide k c ∷ l) a h = times_rows log u v m l a h

-- one more row
row : (s s' : State) (x : Event) (a a' : List Act) → s'.log ≡ s.log ++ x ∷ [] → Carried s' a' → (IsLegal s.log → broken_rule (past s.log) x ≡ None → Once (done s.log) s.channel s.held → Once (done_after (done s.log) x) s'.channel s'.held) → Here s a → Here s' a'
row s s' x a a' e w f i = record {
  carried = w;
  once = λ l. let g = legal_last s.log x (subst IsLegal e l) in subst (λ (d : Done). Once d s'.channel s'.held) (sym (ap done e ∙ done_more s.log (x ∷ []))) (f g.0 g.1 (i.once g.0));
}

none : (s s' : State) (a a' : List Act) → s'.log ≡ s.log → Carried s' a' → (Once (done s.log) s.channel s.held → Once (done s.log) s'.channel s'.held) → Here s a → Here s' a'
none s s' a a' e w f i = record { carried = w; once = λ l. subst (λ (t : List Event). Once (done t) s'.channel s'.held) (sym e) (f (i.once (subst IsLegal e l))) }

-- where nothing but parcels that are no messages comes and goes
same_lists : (d d' : Done) (x y x' y' : Lists) → d'.own ≡ d.own → ((p : ℕ) → d'.past.live p ≡ d.past.live p) → ((m : ℕ) → d'.past.dropped m ≡ d.past.dropped m) → ((u v : ℕ) → messages (x' u v) ≡ messages (x u v)) → ((u v : ℕ) → messages (y' u v) ≡ messages (y u v)) → Once d x y → Once d' x' y'
same_lists d d' x y x' y' o l r e f i = record {
  each = λ m p q h n. ap (λ (own : ℕ → List Deed). times m (messages_between own x' y' p q)) o ∙ (ap (times m) (line_same d.own x y x' y' e f p q) ∙ i.each m p q (ap (has_deed (deed.Sent m q)) (sym (l p)) ∙ h) (sym (r m) ∙ n));
}

-- a send
module _ (s : State) (p q : ℕ) (body : ℤ) (l : IsLegal s.log) (w : Carried s []) where
  pub rows_are : s.so_far.rows ≡ (done s.log).past.rows
  rows_are = ap (λ (h : Summary). h.rows) w.known ∙ (twins_rows s.log ∙ sym (ap (λ (x : Past). x.rows) (done_past s.log) ∙ rows_length s.log))

  pub length_is : s.so_far.rows ≡ length s.log
  length_is = ap (λ (h : Summary). h.rows) w.known ∙ twins_rows s.log

  -- the new message stands nowhere
  fresh : (u v : ℕ) → times (s.so_far.rows + 1) (messages_between (done s.log).own s.channel s.held u v) ≡ 0
  fresh u v =
      let a = got_known (done s.log).past.rows u (s.so_far.rows + 1) ((done s.log).own v) ((sound s.log l).bounds.known v) (let r = rows_are in omega (arith, r)) in
      let b = times_rows s.log u v (s.so_far.rows + 1) (s.held u v) (w.held u v) (let r = length_is in omega (arith, r)) in
      let c = times_rows s.log u v (s.so_far.rows + 1) (s.channel u v) (w.channel u v) (let r = length_is in omega (arith, r)) in
      let t = times_line (s.so_far.rows + 1) (done s.log).own s.channel s.held u v in
      omega (arith, a, b, c, t)

  pub got_same : (u v : ℕ) → received_of u (at_one p ((done s.log).own p ++ deed.Sent ((done s.log).past.rows + 1) q ∷ []) (done s.log).own v) ≡ received_of u ((done s.log).own v)
  got_same u v = go (v == p) refl
    where
      go : (b : Bool) → (v == p) ≡ b → received_of u (if b then (done s.log).own p ++ deed.Sent ((done s.log).past.rows + 1) q ∷ [] else (done s.log).own v) ≡ received_of u ((done s.log).own v)
      go false e = refl
      go true e = let x : v ≡ p = grind (arith, nat_tests) in got_append u ((done s.log).own p) (deed.Sent ((done s.log).past.rows + 1) q ∷ []) ∙ (append-nil (received_of u ((done s.log).own p)) ∙ ap (λ (z : ℕ). received_of u ((done s.log).own z)) (sym x))

  -- the line grows where the message goes
  times_sent : (m u v : ℕ) → times m (messages_between (at_one p ((done s.log).own p ++ deed.Sent ((done s.log).past.rows + 1) q ∷ []) (done s.log).own) (with_parcel s.channel p q (App (s.so_far.rows + 1))) s.held u v) ≡ times m (messages_between (done s.log).own s.channel s.held u v) + (if u == p && v == q then (if s.so_far.rows + 1 == m then 1 else 0) else 0)
  times_sent m u v =
      let a = times_line m (at_one p ((done s.log).own p ++ deed.Sent ((done s.log).past.rows + 1) q ∷ []) (done s.log).own) (with_parcel s.channel p q (App (s.so_far.rows + 1))) s.held u v in
      let b = times_line m (done s.log).own s.channel s.held u v in
      let g = ap (times m) (got_same u v) in
      let c = ap (times m) (apps_sending s.channel p q (s.so_far.rows + 1) u v) ∙ more (u == p && v == q) in
      omega (arith, a, b, g, c)
    where
      more : (b : Bool) → times m (if b then messages (s.channel u v) ++ (s.so_far.rows + 1) ∷ [] else messages (s.channel u v)) ≡ times m (messages (s.channel u v)) + (if b then (if s.so_far.rows + 1 == m then 1 else 0) else 0)
      more false = omega arith
      more true = let t = times_append m (messages (s.channel u v)) ((s.so_far.rows + 1) ∷ []) in omega (arith, t)

  once_sent : Once (done s.log) s.channel s.held → Once (done_after (done s.log) (Sent p q body)) (with_parcel s.channel p q (App (s.so_far.rows + 1))) s.held
  once_sent i = record { each = λ m u v h n. times_sent m u v ∙ go m u v (u == p) refl h n }
    where
      now : (m v : ℕ) (b : Bool) → (has_deed (deed.Sent m v) ((done s.log).past.live p) || b) ≡ true → b ≡ ((m == (done s.log).past.rows + 1) && (v == q)) → (done s.log).past.dropped m ≡ false → times m (messages_between (done s.log).own s.channel s.held p v) + (if v == q then (if s.so_far.rows + 1 == m then 1 else 0) else 0) ≡ 1
      now m v true h e n =
          let r = rows_are in
          let x : m ≡ s.so_far.rows + 1 = grind (arith, nat_tests, e, r) in
          let y : (v == q) ≡ true = grind (arith, nat_tests, e) in
          let z : (s.so_far.rows + 1 == m) ≡ true = grind (arith, nat_tests, x) in
          let f : times m (messages_between (done s.log).own s.channel s.held p v) ≡ 0 = ap (λ (k : ℕ). times k (messages_between (done s.log).own s.channel s.held p v)) x ∙ fresh p v in
          rw (y, z) (omega (arith, f))
      now m v false h e n =
          let f = i.each m p v (old (has_deed (deed.Sent m v) ((done s.log).past.live p)) h) n in
          zero_more (v == q) (s.so_far.rows + 1 == m) (let r = rows_are in apart (v == q) refl r) f
        where
          old : (b : Bool) → (b || false) ≡ true → b ≡ true
          old true h = refl
          old false h = absurd (cc (h))

          apart : (b : Bool) → (v == q) ≡ b → s.so_far.rows ≡ (done s.log).past.rows → b ≡ true → (s.so_far.rows + 1 == m) ≡ false
          apart b y r x = grind (arith, nat_tests, e, y, r, x)

          zero_more : (b c : Bool) → (b ≡ true → c ≡ false) → times m (messages_between (done s.log).own s.channel s.held p v) ≡ 1 → times m (messages_between (done s.log).own s.channel s.held p v) + (if b then (if c then 1 else 0) else 0) ≡ 1
          zero_more false c g f = omega (arith, f)
          zero_more true false g f = omega (arith, f)
          zero_more true true g f = absurd (cc (g refl))

      go : (m u v : ℕ) (b : Bool) → (u == p) ≡ b → has_deed (deed.Sent m v) (if b then (done s.log).past.live p ++ deed.Sent ((done s.log).past.rows + 1) q ∷ [] else (done s.log).past.live u) ≡ true → (done s.log).past.dropped m ≡ false → times m (messages_between (done s.log).own s.channel s.held u v) + (if b && v == q then (if s.so_far.rows + 1 == m then 1 else 0) else 0) ≡ 1
      go m u v false e h n = let f = i.each m u v h n in omega (arith, f)
      go m u v true e h n =
          let x : u ≡ p = grind (arith, nat_tests) in
          subst (λ (z : ℕ). times m (messages_between (done s.log).own s.channel s.held z v) + (if v == q then (if s.so_far.rows + 1 == m then 1 else 0) else 0) ≡ 1) (sym x)
          (now m v ((m == (done s.log).past.rows + 1) && (v == q)) (sym (has_push (deed.Sent m v) (deed.Sent ((done s.log).past.rows + 1) q) ((done s.log).past.live p)) ∙ h) refl n)

-- a receipt: the line is the same, and so are the sends of live histories
once_received : (d : Done) (x y x' y' : Lists) (p q n : ℕ) → ((u v : ℕ) → messages_between (at_one p (d.own p ++ deed.Received n q ∷ []) d.own) x' y' u v ≡ messages_between d.own x y u v) → Once d x y → Once (done_after d (Received p q n)) x' y'
once_received d x y x' y' p q n e i = record { each = λ m u v h f. ap (times m) (e u v) ∙ i.each m u v (go u (u == p) refl m v h) f }
  where
    go : (u : ℕ) (b : Bool) → (u == p) ≡ b → (m v : ℕ) → has_deed (deed.Sent m v) (if b then d.past.live p ++ deed.Received n q ∷ [] else d.past.live u) ≡ true → has_deed (deed.Sent m v) (d.past.live u) ≡ true
    go u false z m v h = h
    go u true z m v h =
        let t : u ≡ p = grind (arith, nat_tests) in
        ap (λ (k : ℕ). has_deed (deed.Sent m v) (d.past.live k)) t ∙ (flat (has_deed (deed.Sent m v) (d.past.live p)) ∙ (sym (has_push (deed.Sent m v) (deed.Received n q) (d.past.live p)) ∙ h))
      where
        flat : (b : Bool) → b ≡ (b || false)
        flat true = refl
        flat false = refl

-- a loss: another message is where it was
once_lost : (d : Done) (x y x' y' : Lists) (p q n : ℕ) → ((m u v : ℕ) → (n == m) ≡ false → times m (messages_between d.own x' y' u v) ≡ times m (messages_between d.own x y u v)) → Once d x y → Once (done_after d (Dropped p q n)) x' y'
once_lost d x y x' y' p q n e i = record { each = λ m u v h f. go m u v h (m == n) refl f }
  where
    go : (m u v : ℕ) → has_deed (deed.Sent m v) (d.past.live u) ≡ true → (b : Bool) → (m == n) ≡ b → (if b then true else d.past.dropped m) ≡ false → times m (messages_between d.own x' y' u v) ≡ 1
    go m u v h true z f = absurd (cc (f))
    go m u v h false z f = e m u v (grind (arith, nat_tests, z)) ∙ i.each m u v h f

once_decided : (s : State) (p k : ℕ) (w : Bool) → Once (done s.log) s.channel s.held → Once (done_after (done s.log) (Decided p k w)) s.channel s.held
once_decided s p k false i = record { each = i.each }
once_decided s p k true i = record { each = λ m u v h f. i.each m u v (go m v ((done s.log).past.ready k u) ((done s.log).past.permanent u) ((done s.log).past.live u) h) f }
  where
    go : (m v : ℕ) (b : Bool) (n : ℕ) (l : List Deed) → has_deed (deed.Sent m v) (if b then take n l else l) ≡ true → has_deed (deed.Sent m v) l ≡ true
    go m v true n l h = has_take (deed.Sent m v) n l h
    go m v false n l h = h

-- closing leaves the lines to others
module _ (s : State) (p k : ℕ) where
  pub closed_chan : (w : Bool) (u v : ℕ) → messages ((late_closing s p k w).channel u v) ≡ messages (s.channel u v)
  closed_chan w u v = at_if (s.so_far.is_rollback k) (late_closing_rollback s p k w) (late_closing_checkpoint s p k w) (rolled w) (saved w)
    where
      at_if : (b : Bool) (x y : State) → messages (x.channel u v) ≡ messages (s.channel u v) → messages (y.channel u v) ≡ messages (s.channel u v) → messages ((if b then x else y).channel u v) ≡ messages (s.channel u v)
      at_if true x y e f = e
      at_if false x y e f = f

      rolled : (w : Bool) → messages ((late_closing_rollback s p k w).channel u v) ≡ messages (s.channel u v)
      rolled true = apps_decisions s.channel s.asked p k true u v
      rolled false = apps_decisions s.channel s.asked p k false u v

      saved : (w : Bool) → messages ((late_closing_checkpoint s p k w).channel u v) ≡ messages (s.channel u v)
      saved true = apps_decisions s.channel s.asked p k true u v
      saved false = apps_decisions s.channel s.asked p k false u v

  pub closed_held : (w : Bool) (u v : ℕ) → (v == p) ≡ false → (late_closing s p k w).held u v ≡ s.held u v
  closed_held w u v z = at_if (s.so_far.is_rollback k) (late_closing_rollback s p k w) (late_closing_checkpoint s p k w) (rolled w) (saved w)
    where
      at_if : (b : Bool) (x y : State) → x.held u v ≡ s.held u v → y.held u v ≡ s.held u v → (if b then x else y).held u v ≡ s.held u v
      at_if true x y e f = e
      at_if false x y e f = f

      rolled : (w : Bool) → (late_closing_rollback s p k w).held u v ≡ s.held u v
      rolled true = rw z refl
      rolled false = refl

      saved : (w : Bool) → (late_closing_checkpoint s p k w).held u v ≡ s.held u v
      saved true = refl
      saved false = refl

  once_closed : (w : Bool) (h : Summary) → h ≡ summary_after s.so_far (Closed p k) → Once (done s.log) s.channel s.held → Later h (done_after (done s.log) (Closed p k)) (late_closing s p k w).channel (late_closing s p k w).held
  once_closed w h e i = record { each = λ m u v r a n. go m u v (v == p) refl r a n }
    where
      go : (m u v : ℕ) (b : Bool) → (v == p) ≡ b → has_to_restore h v ≡ true → has_deed (deed.Sent m v) ((done s.log).past.live u) ≡ true → (done s.log).past.dropped m ≡ false → times m (messages_between (done_after (done s.log) (Closed p k)).own (late_closing s p k w).channel (late_closing s p k w).held u v) ≡ 1
      go m u v true z r a n =
          let o : h.open_in v ≡ 0 = ap (λ (x : Summary). x.open_in v) e ∙ rw z refl in
          let t : has_to_restore h v ≡ false = rw o refl in
          absurd (cc (r, t))
      go m u v false z r a n =
          let g : (done_after (done s.log) (Closed p k)).own v ≡ (done s.log).own v = rw z refl in
          ap (times m) (ap₂ (λ (x y : List ℕ). x ++ y) (ap (received_of u) g) (ap₂ (λ (x y : List ℕ). x ++ y) (ap messages (closed_held w u v z)) (closed_chan w u v))) ∙ i.each m u v a n

lost_line : (d : Done) (x y x' y' : Lists) (n : ℕ) → ((m u v : ℕ) → (n == m) ≡ false → times m (messages (x' u v)) ≡ times m (messages (x u v))) → ((m u v : ℕ) → (n == m) ≡ false → times m (messages (y' u v)) ≡ times m (messages (y u v))) → (m u v : ℕ) → (n == m) ≡ false → times m (messages_between d.own x' y' u v) ≡ times m (messages_between d.own x y u v)
lost_line d x y x' y' n e f m u v z =
    let a = times_line m d.own x' y' u v in
    let b = times_line m d.own x y u v in
    let c = e m u v z in
    let g = f m u v z in
    omega (arith, a, b, c, g)

decided_lists : (s : State) (p k : ℕ) (w roll : Bool) → ((late_deciding_as w roll s p k).channel ≡ s.channel) × ((late_deciding_as w roll s p k).held ≡ s.held)
decided_lists s p k false roll = (refl, refl)
decided_lists s p k true false = (refl, refl)
decided_lists s p k true true = (refl, refl)

pub onces : (x : ProtocolStep) (p : ℕ) → Moves x p Here Gone
onces z p = let c = carried z p in record {
  ends = λ s a i. gone i;
  sends = λ s q body a t o u i. gone (row s (after_sending s p q body) (Sent p q body) a a refl (c.sends s q body a t o u i.carried) (λ l e g. once_sent s p q body l (record { known = i.carried.known; channel = i.carried.channel; held = i.carried.held; kept = i.carried.kept }) g) i);
  declines = λ s v cause a i. gone (row s (after_refusal s p v cause) (Refused p v cause) a a refl (c.declines s v cause a i.carried) (λ l e g. record { each = g.each }) i);
  fails = λ s a t u i. gone (row s (after_failing s p) (Failed p) a _ refl (c.fails s a t u i.carried) (λ l e g. record { each = g.each }) i);
  opens = λ s roll a o i. row s (after_began s p roll) (Began p (s.instances + 1) (kind_for roll)) a a refl (c.opens s roll a o i.carried) (λ l e g. record { each = g.each }) i;
  takes = λ s k f v w a o u i. row s (after_joining_checkpoint s s.channel p k f v w) (Took p k) a _ refl (c.takes s k f v w a o u i.carried) (λ l e g. same_lists (done s.log) (done_after (done s.log) (Took p k)) s.channel s.held (after_joining_checkpoint s s.channel p k f v w).channel s.held refl (λ u. refl) (λ m. refl) (apps_checkpoint_asks s.channel s.last_received p k) (λ u v. refl) g) i;
  rolls = λ s k f v w a o i. row s (after_joining_rollback s s.channel p k f v w) (Ready p k) a a refl (c.rolls s k f v w a o i.carried) (λ l e g. same_lists (done s.log) (done_after (done s.log) (Ready p k)) s.channel s.held (after_joining_rollback s s.channel p k f v w).channel s.held refl (λ u. refl) (λ m. refl) (apps_rollback_asks s.channel s.first_sent s.last_sent p k) (λ u v. refl) g) i;
  notes = λ s q k l a i. none s (after_noting s p q k l) a a refl (c.notes s q k l a i.carried) (λ g. g) i;
  receives = λ s q m rest a y u e n i. gone (row s (after_receiving s (with_rest s.channel q p rest) s.held p q m) (Received p q m) a _ refl (c.receives s q m rest a y u e n i.carried) (λ l b g. once_received (done s.log) s.channel s.held (with_rest s.channel q p rest) s.held p q m (line_received (done s.log).own s.channel s.held p q m rest e n) g) i);
  receives_held = λ s q m rest a y u e i. gone (row s (after_receiving s s.channel (with_rest s.held q p rest) p q m) (Received p q m) a _ refl (c.receives_held s q m rest a y u e i.carried) (λ l b g. once_received (done s.log) s.channel s.held s.channel (with_rest s.held q p rest) p q m (line_received_held (done s.log).own s.channel s.held p q m rest e) g) i);
  loses = λ s q m rest a y u e n i. gone (row s (after_dropping s (with_rest s.channel q p rest) s.held p q m) (Dropped p q m) a a refl (c.loses s q m rest a y u e n i.carried) (λ l b g. once_lost (done s.log) s.channel s.held (with_rest s.channel q p rest) s.held p q m (lost_line (done s.log) s.channel s.held (with_rest s.channel q p rest) s.held m (λ j u v d. times_popped j s.channel q p m rest e d u v) (λ j u v d. refl)) g) i);
  loses_held = λ s q m rest a y u e i. gone (row s (after_dropping s s.channel (with_rest s.held q p rest) p q m) (Dropped p q m) a a refl (c.loses_held s q m rest a y u e i.carried) (λ l b g. once_lost (done s.log) s.channel s.held s.channel (with_rest s.held q p rest) p q m (lost_line (done s.log) s.channel s.held s.channel (with_rest s.held q p rest) m (λ j u v d. refl) (λ j u v d. times_popped j s.held q p m rest e d u v)) g) i);
  holds = λ s q m rest a y e i. gone (none s (after_holding s p q m rest) a a refl (c.holds s q m rest a y e i.carried) (λ g. record { each = λ j u v h f. ap (times j) (line_held (done s.log).own s.channel s.held p q m rest e u v) ∙ g.each j u v h f }) i);
  drops = λ s q x rest a e f i. none s (after_decision s p q rest) a a refl (c.drops s q x rest a e f i.carried) (λ g. same_lists (done s.log) (done s.log) s.channel s.held (with_rest s.channel q p rest) s.held refl (λ u. refl) (λ m. refl) (apps_with_rest s.channel q p x rest e (no_app x f)) (λ u v. refl) g) i;
  replies = λ s q k w a i. gone (none s (replies_now s p q k w) a a refl (c.replies s q k w a i.carried) (λ g. same_lists (done s.log) (done s.log) s.channel s.held (with_parcel s.channel p q (Reply k w)) s.held refl (λ u. refl) (λ m. refl) (apps_with_parcel s.channel p q (Reply k w) refl) (λ u v. refl) g) i);
  refuses = λ s q k cause a i. gone (row s (refuses_now s p q k cause) (Unwilling p k cause) a a refl (c.refuses s q k cause a i.carried) (λ l e g. same_lists (done s.log) (done_after (done s.log) (Unwilling p k cause)) s.channel s.held (with_parcel s.channel p q (Reply k false)) s.held refl (λ u. refl) (λ m. refl) (apps_with_parcel s.channel p q (Reply k false) refl) (λ u v. refl) g) i);
  counts = λ s q k w a i. none s (counted s p q k w) a a refl (c.counts s q k w a i.carried) (λ g. g) i;
  answers = λ s k a i. gone (none s (after_answering s p k) a a refl (c.answers s k a i.carried) (λ g. same_lists (done s.log) (done s.log) s.channel s.held (with_parcel s.channel p (s.parent k p) (Reply k (s.all_willing k p))) s.held refl (λ u. refl) (λ m. refl) (apps_with_parcel s.channel p (s.parent k p) (Reply k (s.all_willing k p)) refl) (λ u v. refl) g) i);
  decides = λ s k a o e b i. let f = decided_log p s s k (s.all_willing k p) (s.so_far.is_rollback k) refl in let t = decided_lists s p k (s.all_willing k p) (s.so_far.is_rollback k) in row s (late_deciding s p k) (Decided p k (s.all_willing k p)) a a f.0 (c.decides s k a o e b i.carried) (λ l j g. same_lists (done_after (done s.log) (Decided p k (s.all_willing k p))) (done_after (done s.log) (Decided p k (s.all_willing k p))) s.channel s.held (late_deciding s p k).channel (late_deciding s p k).held refl (λ u. refl) (λ m. refl) (λ u v. ap (λ (y : Lists). messages (y u v)) t.0) (λ u v. ap (λ (y : Lists). messages (y u v)) t.1) (once_decided s p k (s.all_willing k p) g)) i;
  closes = λ s k w a o d v h i. let f = closed_log p s s k w in record {
    carried = c.closes s k w a o d v h i.carried;
    once = λ l. let g = legal_last s.log (Closed p k) (subst IsLegal f.0 l) in subst (λ (y : Done). Later (late_closing s p k w).so_far y (late_closing s p k w).channel (late_closing s p k w).held) (sym (ap done f.0 ∙ done_more s.log (Closed p k ∷ []))) (once_closed s p k w (late_closing s p k w).so_far f.1 (i.once g.0));
  };
}
