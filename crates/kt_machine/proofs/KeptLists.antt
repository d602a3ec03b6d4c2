-- Kept lists are what their receivers have received past their own permanent positions; lines rise.
use Rattle.std.proofs.Common.{◌≡◌, ℕ, ℤ, zero, suc, ◌+◌, ◌-◌, ◌≤◌, Bool, true, false, Option, Some, None, List, [], ◌∷◌, ◌++◌, length, take, drop, refl, arith, sym, ap, subst, ◌∙◌, append-nil}
use Rattle.std.specs.Prelude.{◌==◌, ◌&&◌, ◌||◌, nat_le, if◌then◌else◌, slice_get, unwrap_or, is_some}
use Rattle.std.proofs.lemmas.Bool.Decides.{nat_tests}
use Rattle.std.proofs.lemmas.List.{drop-append-le, drop-drop, drop_all, length-take}
use Rattle.kt_spacetime.specs.declared.event.Event.{Event}
use Rattle.kt_spacetime.specs.declared.event.Event.TheVariants.{Sent, Received, Dropped, Began, Took, Ready, Unwilling, Decided, Closed, Failed, Refused}
use Rattle.kt_spacetime.specs.declared.deeds.Deed.{Deed}
use Rattle.kt_spacetime.specs.declared.deeds.Deed.TheVariants as deed
use Rattle.kt_meaning.specs.Past.{Past, past, at_one, is_rollback, is_committed}
use Rattle.kt_meaning.specs.Legal.{IsLegal, broken_rule}
use Rattle.kt_meaning.proofs.LegalLogs.{legal_last}
use Rattle.kt_meaning.proofs.RowRules.{may_close}
use Rattle.kt_meaning.proofs.Lists.{get_take, get_drop}
use Rattle.kt_protocol.specs.Parcels.{messages, Parcel, App, Ask, Reply, Decide, Lists, with_parcel, with_rest, messages_where}
use Rattle.kt_protocol.specs.Summary.{Summary, summary}
use Rattle.kt_protocol.specs.States.{State, ProtocolStep, opening}
use Rattle.kt_protocol.specs.Joining.{kind_for, after_began, after_joining_checkpoint, after_joining_rollback}
use Rattle.kt_protocol.specs.Messages.{after_sending, after_receiving, after_dropping, after_failing, after_refusal}
use Rattle.kt_protocol.proofs.Invariant.{Invariant}
use Rattle.kt_protocol.proofs.Lines.{apps_sending}
use Rattle.kt_protocol.specs.LateClosing.{is_newer, late_deciding_as, late_deciding, late_closing, late_closing_checkpoint, late_closing_rollback}
use Rattle.kt_protocol.specs.LateSteps.{late_step, late_run}
use Rattle.kt_protocol.specs.OnceClosed.{once_closed}
use Rattle.kt_machine.specs.Done.{Done, done, done_after}
use Rattle.kt_machine.specs.Values.{Act, taken_in}
use Rattle.kt_machine.specs.Acts.{stepper}
use Rattle.kt_protocol.specs.InTransit.{received_of}
use Rattle.kt_machine.proofs.DoneAlong.{done_more, done_past}
use Rattle.kt_machine.proofs.OwnAndLive.{cut_in, moved_in}
use Rattle.kt_machine.proofs.LegalFacts.{sound}
use Rattle.kt_machine.proofs.OwnHistories.{no_new, tied_done, closed_kind}
use Rattle.kt_machine.proofs.AddedRows.{decided_log, closed_log}
use Rattle.kt_machine.proofs.ReceivedMessages.{got_append}
use Rattle.kt_machine.proofs.OwnPositions.{Fits, Places, places}
use Rattle.kt_machine.proofs.StepWalk.{Moves, walk, refuses_now}

-- the numbers that pass
unfoldable pub pick : (ℕ → Bool) → List ℕ → List ℕ
pick t [] = []
pick t (x ∷ xs) = if t x then x ∷ pick t xs else pick t xs

pub apps_sieve : (t : ℕ → Bool) (l : List Parcel) → messages (messages_where t l) ≡ pick t (messages l)
unfolding messages_where pick
apps_sieve t [] = refl
apps_sieve t (App m ∷ l) = go (t m) (apps_sieve t l)
  where
    go : (b : Bool) → messages (messages_where t l) ≡ pick t (messages l) → messages (if b then App m ∷ messages_where t l else messages_where t l) ≡ (if b then m ∷ pick t (messages l) else pick t (messages l))
    go true e = ap (λ (x : List ℕ). m ∷ x) e
    go false e = e
apps_sieve t (Ask k n ∷ l) = apps_sieve t l
apps_sieve t (Reply k w ∷ l) = apps_sieve t l
apps_sieve t (Decide k c ∷ l) = apps_sieve t l

-- where those pass that stand at or past a place, what is past it is left
pub pick_got : (t : ℕ → Bool) (q k : ℕ) (l : List Deed) → ((i m from : ℕ) → slice_get l i ≡ Some (deed.Received m from) → t m ≡ nat_le k i) → pick t (received_of q l) ≡ received_of q (drop k l)
unfolding pick
pick_got t q zero [] f = refl
pick_got t q (suc k) [] f = refl
pick_got t q zero (deed.Sent m to ∷ l) f = pick_got t q zero l (λ i n from e. f (suc i) n from e ∙ (let x : nat_le 0 (suc i) ≡ nat_le 0 i = grind (arith, nat_tests) in x))
pick_got t q zero (deed.Received m from ∷ l) f = go (from == q) (pick_got t q zero l (λ i n g e. f (suc i) n g e ∙ (let x : nat_le 0 (suc i) ≡ nat_le 0 i = grind (arith, nat_tests) in x)))
  where
    go : (b : Bool) → pick t (received_of q l) ≡ received_of q l → pick t (if b then m ∷ received_of q l else received_of q l) ≡ (if b then m ∷ received_of q l else received_of q l)
    go false e = e
    go true e = rw (f 0 m from refl) (ap (λ (x : List ℕ). m ∷ x) e)
pick_got t q (suc k) (deed.Sent m to ∷ l) f = pick_got t q k l (λ i n from e. f (suc i) n from e ∙ (let x : nat_le (suc k) (suc i) ≡ nat_le k i = grind (arith, nat_tests) in x))
pick_got t q (suc k) (deed.Received m from ∷ l) f = go (from == q) (pick_got t q k l (λ i n g e. f (suc i) n g e ∙ (let x : nat_le (suc k) (suc i) ≡ nat_le k i = grind (arith, nat_tests) in x)))
  where
    go : (b : Bool) → pick t (received_of q l) ≡ received_of q (drop k l) → pick t (if b then m ∷ received_of q l else received_of q l) ≡ received_of q (drop k l)
    go false e = e
    go true e =
        let z : nat_le (suc k) 0 ≡ false = grind (arith, nat_tests) in
        rw (f 0 m from refl ∙ z) e

pub record Keeps (d : Done) (y : Lists) : Type 0 where
  pub each : (p q : ℕ) → messages (y q p) ≡ received_of q (drop (d.permanent p) (d.own p))

-- a deed of p
kept_pushed : (d : Done) (g : (u : ℕ) → d.permanent u ≤ length (d.own u)) (y y' : Lists) (p : ℕ) (x : Deed) → ((u v : ℕ) → messages (y' v u) ≡ (if u == p then messages (y v u) ++ received_of v (x ∷ []) else messages (y v u))) → Keeps d y → (u v : ℕ) → messages (y' v u) ≡ received_of v (drop (d.permanent u) (at_one p (d.own p ++ x ∷ []) d.own u))
kept_pushed d g y y' p x e k u v = e u v ∙ go (u == p) refl
  where
    go : (b : Bool) → (u == p) ≡ b → (if b then messages (y v u) ++ received_of v (x ∷ []) else messages (y v u)) ≡ received_of v (drop (d.permanent u) (if b then d.own p ++ x ∷ [] else d.own u))
    go false z = k.each u v
    go true z =
        let s : u ≡ p = grind (arith, nat_tests) in
        ap (λ (l : List ℕ). l ++ received_of v (x ∷ [])) (k.each u v)
        ∙ (sym (got_append v (drop (d.permanent u) (d.own u)) (x ∷ []))
        ∙ (ap (received_of v) (sym (drop-append-le (d.permanent u) (d.own u) (x ∷ []) (g u)))
        ∙ ap (λ (w : ℕ). received_of v (drop (d.permanent u) (d.own w ++ x ∷ []))) s))

abbrev pub Placed : State → ℕ → Type 0
Placed s p = (i m t : ℕ) → slice_get (s.so_far.live p) i ≡ Some (deed.Received m t) → s.so_far.received_at m ≡ i

-- closing
module _ (s : State) (p k : ℕ) (n : s.so_far ≡ summary s.log) (l : IsLegal s.log) (e : broken_rule (past s.log) (Closed p k) ≡ None) (a : Placed s p) (b : Fits (done s.log) s.own_permanent s.saved_at) (i : Keeps (done s.log) s.kept) where
  inside : (done s.log).past.open_in p ≡ Some k
  inside = (may_close (done s.log).past p k (ap (λ (x : Past). broken_rule x (Closed p k)) (done_past s.log) ∙ e)).inside

  after_closed : (y : Lists) → ((v : ℕ) → messages (y v p) ≡ received_of v (drop (moved_in (done s.log).past k p ((done s.log).permanent p)) (cut_in (done s.log).past k ((done s.log).permanent p) ((done s.log).own p)))) → ((u v : ℕ) → (u == p) ≡ false → y v u ≡ s.kept v u) → Keeps (done_after (done s.log) (Closed p k)) y
  after_closed y f g = record { each = λ u v. go u v (u == p) refl }
    where
      go : (u v : ℕ) (t : Bool) → (u == p) ≡ t → messages (y v u) ≡ received_of v (drop (if t then moved_in (done s.log).past k p ((done s.log).permanent p) else (done s.log).permanent u) (if t then cut_in (done s.log).past k ((done s.log).permanent p) ((done s.log).own p) else (done s.log).own u))
      go u v true z = let x : u ≡ p = grind (arith, nat_tests) in ap (λ (w : ℕ). messages (y v w)) x ∙ f v
      go u v false z = ap messages (g u v z) ∙ i.each u v

  -- nothing is cut or moved
  stays : is_committed (done s.log).past k ≡ false → (v : ℕ) → messages (s.kept v p) ≡ received_of v (drop (moved_in (done s.log).past k p ((done s.log).permanent p)) (cut_in (done s.log).past k ((done s.log).permanent p) ((done s.log).own p)))
  stays w v = i.each p v ∙ go (is_rollback (done s.log).past k) (is_committed (done s.log).past k) w
    where
      go : (r c : Bool) → c ≡ false → received_of v (drop ((done s.log).permanent p) ((done s.log).own p)) ≡ received_of v (drop (if c then unwrap_or ((done s.log).past.new k p) ((done s.log).permanent p) else (done s.log).permanent p) (if r && c then take ((done s.log).permanent p) ((done s.log).own p) else (done s.log).own p))
      go true true w = absurd (cc (w))
      go false true w = absurd (cc (w))
      go true false w = refl
      go false false w = refl

  -- all is cut that was kept
  goes : is_rollback (done s.log).past k ≡ true → is_committed (done s.log).past k ≡ true → (v : ℕ) → [] ≡ received_of v (drop (moved_in (done s.log).past k p ((done s.log).permanent p)) (cut_in (done s.log).past k ((done s.log).permanent p) ((done s.log).own p)))
  goes r w v = sym (rw (r, w, no_new (done s.log).past (sound s.log l).positions k p r) (ap (received_of v) (drop_all ((done s.log).permanent p) (take ((done s.log).permanent p) ((done s.log).own p)) (let x = length-take ((done s.log).permanent p) ((done s.log).own p) in grind (arith, x)))))

  own_live : is_rollback (done s.log).past k ≡ false → (done s.log).own p ≡ s.so_far.live p
  own_live r = sym (ap (λ (h : Summary). h.live p) n ∙ ((tied_done s.log l).live p ∙ ((sound s.log l).owns.live_in p k inside ∙ rw r refl)))

  -- what was received before the tentative checkpoint goes
  newer_goes : is_rollback (done s.log).past k ≡ false → is_committed (done s.log).past k ≡ true → (v : ℕ) → messages (messages_where (is_newer s p) (s.kept v p)) ≡ received_of v (drop (moved_in (done s.log).past k p ((done s.log).permanent p)) (cut_in (done s.log).past k ((done s.log).permanent p) ((done s.log).own p)))
  newer_goes r w v = go ((done s.log).past.new k p) refl ((sound s.log l).positions.inside_member p k inside)
    where
      at : (m : ℕ) → (done s.log).past.new k p ≡ Some m → messages (messages_where (is_newer s p) (s.kept v p)) ≡ received_of v (drop m ((done s.log).own p))
      at m f =
          let t : s.saved_at p ≡ m = b.saved_at p m (ap (taken_in (done s.log).past p) inside ∙ f) in
          let o = (sound s.log l).bounds.over p k m inside f in
          let j : (done s.log).permanent p + (m - (done s.log).permanent p) ≡ m = omega (arith, o) in
          apps_sieve (is_newer s p) (s.kept v p) ∙ (ap (pick (is_newer s p)) (i.each p v)
          ∙ (pick_got (is_newer s p) v (m - (done s.log).permanent p) (drop ((done s.log).permanent p) ((done s.log).own p)) (λ x y from g.
          let h = a ((done s.log).permanent p + x) y from (ap (λ (z : List Deed). slice_get z ((done s.log).permanent p + x)) (sym (own_live r)) ∙ get_drop ((done s.log).permanent p) ((done s.log).own p) x (deed.Received y from) g) in
          same_test (s.saved_at p) (s.so_far.received_at y) m ((done s.log).permanent p) x (m - (done s.log).permanent p) t h j)
          ∙ ap (received_of v) (drop-drop (m - (done s.log).permanent p) ((done s.log).permanent p) ((done s.log).own p) ∙ ap (λ (z : ℕ). drop z ((done s.log).own p)) j)))
        where
          same_test : (base place m perm x j : ℕ) → base ≡ m → place ≡ perm + x → perm + j ≡ m → nat_le base place ≡ nat_le j x
          same_test base place m perm x j e f g = grind (arith, nat_tests, e, f, g)

      go : (o : Option ℕ) → (done s.log).past.new k p ≡ o → (is_some o || (done s.log).past.ready k p) ≡ true → messages (messages_where (is_newer s p) (s.kept v p)) ≡ received_of v (drop (moved_in (done s.log).past k p ((done s.log).permanent p)) (cut_in (done s.log).past k ((done s.log).permanent p) ((done s.log).own p)))
      go (Some m) f g = at m f ∙ sym (rw (r, w, f) refl)
      go None f g = absurd (let y = (sound s.log l).positions.ready_kind p k g in cc (y, r))

  kept_closed : (w : Bool) → s.so_far.is_committed k ≡ w → Keeps (done_after (done s.log) (Closed p k)) (late_closing s p k w).kept
  kept_closed w v = at_if (s.so_far.is_rollback k) refl (late_closing_rollback s p k w) (late_closing_checkpoint s p k w) (rolled w) (saved w) v
    where
      kinds : (is_rollback (done s.log).past k ≡ s.so_far.is_rollback k) × (is_committed (done s.log).past k ≡ s.so_far.is_committed k)
      kinds = let x = closed_kind s.log p k l e in (x.0 ∙ ap (λ (h : Summary). h.is_rollback k) (sym n), x.1 ∙ ap (λ (h : Summary). h.is_committed k) (sym n))

      at_if : (b : Bool) → s.so_far.is_rollback k ≡ b → (x y : State) → (s.so_far.is_rollback k ≡ true → s.so_far.is_committed k ≡ w → Keeps (done_after (done s.log) (Closed p k)) x.kept) → (s.so_far.is_rollback k ≡ false → s.so_far.is_committed k ≡ w → Keeps (done_after (done s.log) (Closed p k)) y.kept) → s.so_far.is_committed k ≡ w → Keeps (done_after (done s.log) (Closed p k)) (if b then x else y).kept
      at_if true r x y f g v = f r v
      at_if false r x y f g v = g r v

      rolled : (w : Bool) → s.so_far.is_rollback k ≡ true → s.so_far.is_committed k ≡ w → Keeps (done_after (done s.log) (Closed p k)) (late_closing_rollback s p k w).kept
      rolled true r v = after_closed (late_closing_rollback s p k true).kept (λ q. ap messages (here q) ∙ goes (kinds.0 ∙ r) (kinds.1 ∙ v) q) (λ u q z. rw z refl)
        where
          here : (q : ℕ) → (if p == p then [] else s.kept q p) ≡ []
          here q = let z : (p == p) ≡ true = grind (arith, nat_tests) in rw z refl
      rolled false r v = after_closed s.kept (stays (kinds.1 ∙ v)) (λ u q z. refl)

      saved : (w : Bool) → s.so_far.is_rollback k ≡ false → s.so_far.is_committed k ≡ w → Keeps (done_after (done s.log) (Closed p k)) (late_closing_checkpoint s p k w).kept
      saved true r v = after_closed (late_closing_checkpoint s p k true).kept (λ q. ap messages (here q) ∙ newer_goes (kinds.0 ∙ r) (kinds.1 ∙ v) q) (λ u q z. rw z refl)
        where
          here : (q : ℕ) → (if p == p then messages_where (is_newer s p) (s.kept q p) else s.kept q p) ≡ messages_where (is_newer s p) (s.kept q p)
          here q = let z : (p == p) ≡ true = grind (arith, nat_tests) in rw z refl
      saved false r v = after_closed s.kept (stays (kinds.1 ∙ v)) (λ u q z. refl)

pub record Here (p : ℕ) (s : State) (a : List Act) : Type 0 where
  pub places : Places s a
  pub placed : Placed s p
  pub kept : IsLegal s.log → Keeps (done s.log) s.kept

pub record Gone (s : State) (a : List Act) : Type 0 where
  pub places : Places s a
  pub kept : IsLegal s.log → Keeps (done s.log) s.kept

gone : {p : ℕ} {s : State} {a : List Act} → Here p s a → Gone s a
gone i = record { places = i.places; kept = i.kept }

-- one more row
row : (p : ℕ) (s s' : State) (x : Event) (a a' : List Act) → s'.log ≡ s.log ++ x ∷ [] → Places s' a' → (IsLegal s.log → broken_rule (past s.log) x ≡ None → Keeps (done s.log) s.kept → Keeps (done_after (done s.log) x) s'.kept) → Here p s a → Gone s' a'
row p s s' x a a' e w f i = record {
  places = w;
  kept = λ l. let g = legal_last s.log x (subst IsLegal e l) in subst (λ (d : Done). Keeps d s'.kept) (sym (ap done e ∙ done_more s.log (x ∷ []))) (f g.0 g.1 (i.kept g.0));
}

here : (p : ℕ) (s s' : State) (x : Event) (a a' : List Act) → s'.log ≡ s.log ++ x ∷ [] → Places s' a' → Placed s' p → (IsLegal s.log → broken_rule (past s.log) x ≡ None → Keeps (done s.log) s.kept → Keeps (done_after (done s.log) x) s'.kept) → Here p s a → Here p s' a'
here p s s' x a a' e w t f i = let g = row p s s' x a a' e w f i in record { places = g.places; placed = t; kept = g.kept }

decided_placed : (s : State) (p k u : ℕ) (w roll : Bool) → Placed s p → Placed (late_deciding_as w roll s u k) p
decided_placed s p k u false roll t = t
decided_placed s p k u true false t = t
decided_placed s p k u true true t = λ i m f e. t i m f (go (s.so_far.joined k p) (s.so_far.permanent p) i m f e)
  where
    go : (b : Bool) (n i m f : ℕ) → slice_get (if b then take n (s.so_far.live p) else s.so_far.live p) i ≡ Some (deed.Received m f) → slice_get (s.so_far.live p) i ≡ Some (deed.Received m f)
    go true n i m f e = (get_take n (s.so_far.live p) i (deed.Received m f) e).0
    go false n i m f e = e

decided_kept : (s : State) (p k : ℕ) (w roll : Bool) → (late_deciding_as w roll s p k).kept ≡ s.kept
decided_kept s p k false roll = refl
decided_kept s p k true false = refl
decided_kept s p k true true = refl

-- a send leaves what is received
kept_sent : (s : State) (p q : ℕ) (body : ℤ) → IsLegal s.log → Keeps (done s.log) s.kept → Keeps (done_after (done s.log) (Sent p q body)) s.kept
kept_sent s p q body l i = record { each = kept_pushed (done s.log) (sound s.log l).bounds.own_low s.kept s.kept p (deed.Sent ((done s.log).past.rows + 1) q) (λ u v. flat (u == p) (messages (s.kept v u))) i }
  where
    flat : (b : Bool) (x : List ℕ) → x ≡ (if b then x ++ [] else x)
    flat true x = sym (append-nil x)
    flat false x = refl

kept_received : (s : State) (p q m : ℕ) → IsLegal s.log → Keeps (done s.log) s.kept → Keeps (done_after (done s.log) (Received p q m)) (with_parcel s.kept q p (App m))
kept_received s p q m l i = record { each = kept_pushed (done s.log) (sound s.log l).bounds.own_low s.kept (with_parcel s.kept q p (App m)) p (deed.Received m q) (λ u v. apps_sending s.kept q p m v u ∙ go u v (u == p) (v == q) (q == v) (turn q v)) i }
  where
    turn : (a b : ℕ) → (a == b) ≡ (b == a)
    turn a b = grind (arith, nat_tests)

    go : (u v : ℕ) (b c d : Bool) → d ≡ c → (if c && b then messages (s.kept v u) ++ m ∷ [] else messages (s.kept v u)) ≡ (if b then messages (s.kept v u) ++ (if d then m ∷ [] else []) else messages (s.kept v u))
    go u v true true true e = refl
    go u v true false false e = sym (append-nil (messages (s.kept v u)))
    go u v false true d e = refl
    go u v false false d e = refl
    go u v true true false e = absurd (cc (e))
    go u v true false true e = absurd (cc (e))

pub keeps_moves : (z : ProtocolStep) (p : ℕ) → Moves z p (Here p) Gone
keeps_moves z p = let c = places z p in record {
  ends = λ s a i. gone i;
  sends = λ s q body a t o u i. row p s (after_sending s p q body) (Sent p q body) a a refl (c.sends s q body a t o u i.places) (λ l e g. kept_sent s p q body l g) i;
  declines = λ s v cause a i. row p s (after_refusal s p v cause) (Refused p v cause) a a refl (c.declines s v cause a i.places) (λ l e g. record { each = g.each }) i;
  fails = λ s a t u i. row p s (after_failing s p) (Failed p) a _ refl (c.fails s a t u i.places) (λ l e g. record { each = g.each }) i;
  opens = λ s roll a o i. here p s (after_began s p roll) (Began p (s.instances + 1) (kind_for roll)) a a refl (c.opens s roll a o i.places) (opened_placed s roll i.placed) (λ l e g. record { each = g.each }) i;
  takes = λ s k f v w a o u i. here p s (after_joining_checkpoint s s.channel p k f v w) (Took p k) a _ refl (c.takes s k f v w a o u i.places) i.placed (λ l e g. record { each = g.each }) i;
  rolls = λ s k f v w a o i. here p s (after_joining_rollback s s.channel p k f v w) (Ready p k) a a refl (c.rolls s k f v w a o i.places) i.placed (λ l e g. record { each = g.each }) i;
  notes = λ s q k l a i. record { places = c.notes s q k l a i.places; placed = i.placed; kept = i.kept };
  receives = λ s q m rest a y u e n i. row p s (after_receiving s (with_rest s.channel q p rest) s.held p q m) (Received p q m) a _ refl (c.receives s q m rest a y u e n i.places) (λ l b g. kept_received s p q m l g) i;
  receives_held = λ s q m rest a y u e i. row p s (after_receiving s s.channel (with_rest s.held q p rest) p q m) (Received p q m) a _ refl (c.receives_held s q m rest a y u e i.places) (λ l b g. kept_received s p q m l g) i;
  loses = λ s q m rest a y u e n i. row p s (after_dropping s (with_rest s.channel q p rest) s.held p q m) (Dropped p q m) a a refl (c.loses s q m rest a y u e n i.places) (λ l b g. record { each = g.each }) i;
  loses_held = λ s q m rest a y u e i. row p s (after_dropping s s.channel (with_rest s.held q p rest) p q m) (Dropped p q m) a a refl (c.loses_held s q m rest a y u e i.places) (λ l b g. record { each = g.each }) i;
  holds = λ s q m rest a y e i. record { places = c.holds s q m rest a y e i.places; kept = i.kept };
  drops = λ s q x rest a e f i. record { places = c.drops s q x rest a e f i.places; placed = i.placed; kept = i.kept };
  replies = λ s q k w a i. record { places = c.replies s q k w a i.places; kept = i.kept };
  refuses = λ s q k cause a i. row p s (refuses_now s p q k cause) (Unwilling p k cause) a a refl (c.refuses s q k cause a i.places) (λ l e g. record { each = g.each }) i;
  counts = λ s q k w a i. record { places = c.counts s q k w a i.places; placed = i.placed; kept = i.kept };
  answers = λ s k a i. record { places = c.answers s k a i.places; kept = i.kept };
  decides = λ s k a o e b i. let f = decided_log p s s k (s.all_willing k p) (s.so_far.is_rollback k) refl in here p s (late_deciding s p k) (Decided p k (s.all_willing k p)) a a f.0 (c.decides s k a o e b i.places) (decided_placed s p k p (s.all_willing k p) (s.so_far.is_rollback k) i.placed)
      (λ l j g. record { each = λ u v. ap (λ (y : Lists). messages (y v u)) (decided_kept s p k (s.all_willing k p) (s.so_far.is_rollback k)) ∙ (g.each u v ∙ decided_own s k (s.all_willing k p) u v) }) i;
  closes = λ s k w a o d v h i. let f = closed_log p s s k w in row p s (late_closing s p k w) (Closed p k) a _ f.0 (c.closes s k w a o d v h i.places) (λ l e g. kept_closed s p k i.places.known l e i.placed (i.places.fits l) g w v) i;
}
  where
    opened_placed : (s : State) (roll : Bool) → Placed s p → Placed (after_began s p roll) p
    opened_placed s roll t = t

    decided_own : (s : State) (k : ℕ) (w : Bool) (u v : ℕ) → received_of v (drop ((done s.log).permanent u) ((done s.log).own u)) ≡ received_of v (drop ((done_after (done s.log) (Decided p k w)).permanent u) ((done_after (done s.log) (Decided p k w)).own u))
    decided_own s k true u v = refl
    decided_own s k false u v = refl

kept_run : (c : State) (steps : List ProtocolStep) → ((xs : List ProtocolStep) → Invariant (once_closed (late_run c xs))) → Gone c [] → Gone (late_run c steps) []
kept_run c [] g i = i
kept_run c (x ∷ xs) g i =
    let y = walk x (Here (stepper x)) Gone (keeps_moves x (stepper x)) c (g []) (record { places = i.places; placed = λ j m t e. ((g []).histories.received_is (stepper x) j m t e).2; kept = i.kept }) in
    kept_run (late_step c x) xs (λ ys. g (x ∷ ys)) (record { places = record { known = y.places.known; fits = y.places.fits }; kept = y.kept })

pub kept_of : (n : ℕ) (steps : List ProtocolStep) → ((xs : List ProtocolStep) → Invariant (once_closed (late_run (opening n) xs))) → Gone (late_run (opening n) steps) []
kept_of n steps g = kept_run (opening n) steps g (record { places = record { known = refl; fits = λ l. record { own = λ u. refl; saved_at = λ u m t. absurd (cc (t)) } }; kept = λ l. record { each = λ p q. refl } })
