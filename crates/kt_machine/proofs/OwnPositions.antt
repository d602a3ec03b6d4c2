-- The state's own permanent positions and the places of its tentative checkpoints are those of its log.
use Rattle.std.proofs.Common.{◌≡◌, ℕ, ◌+◌, Bool, true, false, Option, Some, None, List, [], ◌∷◌, ◌++◌, length, refl, arith, sym, ap, subst, ◌∙◌}
use Rattle.std.specs.Prelude.{◌==◌, ◌&&◌, ◌||◌, if◌then◌else◌, unwrap_or, is_some}
use Rattle.std.proofs.lemmas.Bool.Decides.{nat_tests}
use Rattle.kt_spacetime.specs.declared.event.Event.{Event}
use Rattle.kt_spacetime.specs.declared.event.Event.TheVariants.{Sent, Received, Dropped, Began, Took, Ready, Unwilling, Decided, Closed, Failed, Refused}
use Rattle.kt_meaning.specs.Past.{Past, past, at_one, at_pair, is_rollback, is_committed}
use Rattle.kt_meaning.specs.Legal.{IsLegal, broken_rule}
use Rattle.kt_meaning.proofs.LegalLogs.{legal_last}
use Rattle.kt_meaning.proofs.RowRules.{may_get_ready, may_close}
use Rattle.kt_protocol.specs.Summary.{Summary, summary, summary_after}
use Rattle.kt_protocol.specs.States.{State, ProtocolStep, opening}
use Rattle.kt_protocol.specs.Joining.{kind_for, after_began, after_joining_checkpoint, after_joining_rollback}
use Rattle.kt_protocol.specs.Messages.{after_sending, after_receiving, after_dropping, after_holding, after_failing, after_refusal}
use Rattle.kt_protocol.specs.Replies.{after_noting, after_answering}
use Rattle.kt_protocol.specs.Deciding.{after_decision}
use Rattle.kt_protocol.specs.Parcels.{with_rest}
use Rattle.kt_protocol.proofs.Invariant.{Invariant, summary_push}
use Rattle.kt_protocol.specs.LateClosing.{late_deciding_as, late_deciding, late_closing, late_closing_checkpoint, late_closing_rollback}
use Rattle.kt_protocol.specs.LateSteps.{late_step, late_run}
use Rattle.kt_protocol.specs.OnceClosed.{once_closed}
use Rattle.kt_machine.specs.Done.{Done, done, done_after}
use Rattle.kt_machine.specs.Values.{Act, taken_in, taken_at}
use Rattle.kt_machine.specs.Acts.{stepper}
use Rattle.kt_machine.proofs.DoneAlong.{done_past, done_more}
use Rattle.kt_machine.proofs.LegalFacts.{sound}
use Rattle.kt_machine.proofs.OwnHistories.{no_new, tied_done, closed_kind}
use Rattle.kt_machine.proofs.AddedRows.{decided_log, closed_log, began_known}
use Rattle.kt_machine.proofs.StepWalk.{Moves, walk, counted, replies_now, refuses_now}

same : (a b : ℕ) → (a == b) ≡ true → a ≡ b
same a b e = grind (arith, nat_tests)

-- of a log, and positions
pub record Fits (d : Done) (x y : ℕ → ℕ) : Type 0 where
  pub own : (u : ℕ) → x u ≡ d.permanent u
  pub saved_at : (u n : ℕ) → taken_at d.past u ≡ Some n → y u ≡ n

pub record Places (s : State) (a : List Act) : Type 0 where
  pub known : s.so_far ≡ summary s.log
  pub fits : IsLegal s.log → Fits (done s.log) s.own_permanent s.saved_at

-- one more row
row : (s s' : State) (x : Event) (a a' : List Act) → s'.log ≡ s.log ++ x ∷ [] → s'.so_far ≡ summary_after s.so_far x → (IsLegal s.log → broken_rule (past s.log) x ≡ None → Fits (done s.log) s.own_permanent s.saved_at → Fits (done_after (done s.log) x) s'.own_permanent s'.saved_at) → Places s a → Places s' a'
row s s' x a a' e h f i = record {
  known = h ∙ (summary_push s.so_far s.log x i.known ∙ ap summary (sym e));
  fits = λ l. let g = legal_last s.log x (subst IsLegal e l) in subst (λ (d : Done). Fits d s'.own_permanent s'.saved_at) (sym (ap done e ∙ done_more s.log (x ∷ []))) (f g.0 g.1 (i.fits g.0));
}

none : (s s' : State) (a : List Act) → s'.log ≡ s.log → s'.so_far ≡ s.so_far → s'.own_permanent ≡ s.own_permanent → s'.saved_at ≡ s.saved_at → Places s a → Places s' a
none s s' a e h o b i = record {
  known = h ∙ (i.known ∙ ap summary (sym e));
  fits = λ l. let f = i.fits (subst IsLegal e l) in record {
    own = λ u. ap (λ (x : ℕ → ℕ). x u) o ∙ (f.own u ∙ ap (λ (x : List Event). (done x).permanent u) (sym e));
    saved_at = λ u n t. ap (λ (x : ℕ → ℕ). x u) b ∙ f.saved_at u n (ap (λ (x : List Event). taken_at (done x).past u) (sym e) ∙ t);
  };
}

-- a row that moves nothing
plain : (log : List Event) (x : Event) (own base : ℕ → ℕ) → (done_after (done log) x).permanent ≡ (done log).permanent → ((u : ℕ) → taken_at (done_after (done log) x).past u ≡ taken_at (done log).past u) → Fits (done log) own base → Fits (done_after (done log) x) own base
plain log x own base e t f = record { own = λ u. f.own u ∙ ap (λ (g : ℕ → ℕ). g u) (sym e); saved_at = λ u n h. f.saved_at u n (sym (t u) ∙ h) }

took : (s : State) (p k : ℕ) → s.so_far ≡ summary s.log → IsLegal s.log → broken_rule (past s.log) (Took p k) ≡ None → Fits (done s.log) s.own_permanent s.saved_at → Fits (done_after (done s.log) (Took p k)) s.own_permanent (at_one p (s.so_far.size p) s.saved_at)
took s p k n l e f = record { own = f.own; saved_at = λ u m t. go u m (u == p) refl ((done s.log).past.open_in u) refl t }
  where
    size : s.so_far.size p ≡ length ((done s.log).past.live p)
    size = ap (λ (h : Summary). h.size p) n ∙ (tied_done s.log l).size p

    other : (u m j : ℕ) → (if (j == k) && false then Some (length ((done s.log).past.live p)) else (done s.log).past.new j u) ≡ Some m → (done s.log).past.new j u ≡ Some m
    other u m j t = flat (j == k) t
      where
        flat : (b : Bool) → (if b && false then Some (length ((done s.log).past.live p)) else (done s.log).past.new j u) ≡ Some m → (done s.log).past.new j u ≡ Some m
        flat true t = t
        flat false t = t

    go : (u m : ℕ) (b : Bool) → (u == p) ≡ b → (o : Option ℕ) → (done s.log).past.open_in u ≡ o → taken_in (record (done s.log).past { new = at_pair k p (Some (length ((done s.log).past.live p))) (done s.log).past.new }) u (if b then Some k else (done s.log).past.open_in u) ≡ Some m → (if b then s.so_far.size p else s.saved_at u) ≡ m
    go u m true e o i t =
        let a : (k == k) ≡ true = grind (arith, nat_tests) in
        let t' : Some (length ((done s.log).past.live p)) ≡ Some m = rw (a, e) at t in
        size ∙ (cc (t'))
    go u m false e None i t = absurd (let x = rw i at t in cc (x))
    go u m false e (Some j) i t = f.saved_at u m (ap (taken_in (done s.log).past u) i ∙ other u m j (rw (i, e) at t))

ready : (log : List Event) (p k : ℕ) (own base : ℕ → ℕ) → broken_rule (past log) (Ready p k) ≡ None → Fits (done log) own base → Fits (done_after (done log) (Ready p k)) own base
ready log p k own base e f = record { own = f.own; saved_at = λ u m t. go u m (u == p) refl t }
  where
    go : (u m : ℕ) (b : Bool) → (u == p) ≡ b → taken_in (done log).past u (if b then Some k else (done log).past.open_in u) ≡ Some m → base u ≡ m
    go u m true e' t =
        let h = may_get_ready (done log).past p k (ap (λ (s : Past). broken_rule s (Ready p k)) (done_past log) ∙ e) in
        let n : (done log).past.new k u ≡ None = ap ((done log).past.new k) (same u p e') ∙ h.not_new in
        absurd (cc (n, t))
    go u m false e' t = f.saved_at u m t

-- a closed row
module _ (log : List Event) (p k : ℕ) (l : IsLegal log) (e : broken_rule (past log) (Closed p k) ≡ None) (own base : ℕ → ℕ) (f : Fits (done log) own base) where
  inside : (done log).past.open_in p ≡ Some k
  inside = (may_close (done log).past p k (ap (λ (s : Past). broken_rule s (Closed p k)) (done_past log) ∙ e)).inside

  base_after : (new : ℕ) (u n : ℕ) → taken_at (done_after (done log) (Closed p k)).past u ≡ Some n → at_one p new base u ≡ n
  base_after new u n t = go (u == p) t
    where
      go : (b : Bool) → taken_in (done log).past u (if b then None else (done log).past.open_in u) ≡ Some n → (if b then new else base u) ≡ n
      go true t = absurd (cc (t))
      go false t = f.saved_at u n t

  base_still : (u n : ℕ) → taken_at (done_after (done log) (Closed p k)).past u ≡ Some n → base u ≡ n
  base_still u n t = go (u == p) t
    where
      go : (b : Bool) → taken_in (done log).past u (if b then None else (done log).past.open_in u) ≡ Some n → base u ≡ n
      go true t = absurd (cc (t))
      go false t = f.saved_at u n t

  -- where the permanent position stays
  own_still : (if is_committed (done log).past k then unwrap_or ((done log).past.new k p) ((done log).permanent p) else (done log).permanent p) ≡ (done log).permanent p → (u : ℕ) → own u ≡ (done_after (done log) (Closed p k)).permanent u
  own_still h u = go (u == p) refl
    where
      go : (b : Bool) → (u == p) ≡ b → own u ≡ (if b then (if is_committed (done log).past k then unwrap_or ((done log).past.new k p) ((done log).permanent p) else (done log).permanent p) else (done log).permanent u)
      go true x = f.own u ∙ (ap (done log).permanent (same u p x) ∙ sym h)
      go false x = f.own u

  -- where it moves
  own_moved : is_committed (done log).past k ≡ true → is_rollback (done log).past k ≡ false → (u : ℕ) → at_one p (base p) own u ≡ (done_after (done log) (Closed p k)).permanent u
  own_moved w r u = go (u == p)
    where
      moved : (o : Option ℕ) → (done log).past.new k p ≡ o → (is_some o || (done log).past.ready k p) ≡ true → base p ≡ unwrap_or o ((done log).permanent p)
      moved (Some n) x m = f.saved_at p n (ap (taken_in (done log).past p) inside ∙ x)
      moved None x m = absurd (let y = (sound log l).positions.ready_kind p k m in cc (y, r))

      go : (b : Bool) → (if b then base p else own u) ≡ (if b then (if is_committed (done log).past k then unwrap_or ((done log).past.new k p) ((done log).permanent p) else (done log).permanent p) else (done log).permanent u)
      go true = rw w (moved ((done log).past.new k p) refl ((sound log l).positions.inside_member p k inside))
      go false = f.own u

  stays_aborted : is_committed (done log).past k ≡ false → (if is_committed (done log).past k then unwrap_or ((done log).past.new k p) ((done log).permanent p) else (done log).permanent p) ≡ (done log).permanent p
  stays_aborted w = rw w refl

  stays_rolled : is_rollback (done log).past k ≡ true → (if is_committed (done log).past k then unwrap_or ((done log).past.new k p) ((done log).permanent p) else (done log).permanent p) ≡ (done log).permanent p
  stays_rolled r = rw (no_new (done log).past (sound log l).positions k p r) (flat (is_committed (done log).past k))
    where
      flat : (b : Bool) → (if b then (done log).permanent p else (done log).permanent p) ≡ (done log).permanent p
      flat true = refl
      flat false = refl

closes : (s : State) (p k : ℕ) (w : Bool) → s.so_far ≡ summary s.log → s.so_far.is_committed k ≡ w → IsLegal s.log → broken_rule (past s.log) (Closed p k) ≡ None → Fits (done s.log) s.own_permanent s.saved_at → Fits (done_after (done s.log) (Closed p k)) (late_closing s p k w).own_permanent (late_closing s p k w).saved_at
closes s p k w n v l e f = at_kind (s.so_far.is_rollback k) refl
  where
    kinds : (is_rollback (done s.log).past k ≡ s.so_far.is_rollback k) × (is_committed (done s.log).past k ≡ w)
    kinds = let x = closed_kind s.log p k l e in (x.0 ∙ ap (λ (h : Summary). h.is_rollback k) (sym n), x.1 ∙ (ap (λ (h : Summary). h.is_committed k) (sym n) ∙ v))

    rolled : (c : Bool) → s.so_far.is_rollback k ≡ true → Fits (done_after (done s.log) (Closed p k)) (late_closing_rollback s p k c).own_permanent (late_closing_rollback s p k c).saved_at
    rolled true r = record { own = own_still s.log p k l e s.own_permanent s.saved_at f (stays_rolled s.log p k l e s.own_permanent s.saved_at f (kinds.0 ∙ r)); saved_at = base_still s.log p k l e s.own_permanent s.saved_at f }
    rolled false r = record { own = own_still s.log p k l e s.own_permanent s.saved_at f (stays_rolled s.log p k l e s.own_permanent s.saved_at f (kinds.0 ∙ r)); saved_at = base_still s.log p k l e s.own_permanent s.saved_at f }

    saved : (c : Bool) → w ≡ c → s.so_far.is_rollback k ≡ false → Fits (done_after (done s.log) (Closed p k)) (late_closing_checkpoint s p k c).own_permanent (late_closing_checkpoint s p k c).saved_at
    saved true x r = record { own = own_moved s.log p k l e s.own_permanent s.saved_at f (kinds.1 ∙ x) (kinds.0 ∙ r); saved_at = base_still s.log p k l e s.own_permanent s.saved_at f }
    saved false x r = record { own = own_still s.log p k l e s.own_permanent s.saved_at f (stays_aborted s.log p k l e s.own_permanent s.saved_at f (kinds.1 ∙ x)); saved_at = base_after s.log p k l e s.own_permanent s.saved_at f (s.own_permanent p) }

    at_kind : (b : Bool) → s.so_far.is_rollback k ≡ b → Fits (done_after (done s.log) (Closed p k)) (if b then late_closing_rollback s p k w else late_closing_checkpoint s p k w).own_permanent (if b then late_closing_rollback s p k w else late_closing_checkpoint s p k w).saved_at
    at_kind true r = rolled w r
    at_kind false r = saved w refl r

decided_places : (s : State) (p k : ℕ) (w roll : Bool) → ((late_deciding_as w roll s p k).own_permanent ≡ s.own_permanent) × ((late_deciding_as w roll s p k).saved_at ≡ s.saved_at)
decided_places s p k false roll = (refl, refl)
decided_places s p k true false = (refl, refl)
decided_places s p k true true = (refl, refl)

decides : (s : State) (p k : ℕ) (w roll : Bool) → Fits (done s.log) s.own_permanent s.saved_at → Fits (done_after (done s.log) (Decided p k w)) (late_deciding_as w roll s p k).own_permanent (late_deciding_as w roll s p k).saved_at
decides s p k false roll f = plain s.log (Decided p k false) s.own_permanent s.saved_at refl (λ u. refl) f
decides s p k true false f = plain s.log (Decided p k true) s.own_permanent s.saved_at refl (λ u. refl) f
decides s p k true true f = plain s.log (Decided p k true) s.own_permanent s.saved_at refl (λ u. refl) f

pub places : (x : ProtocolStep) (p : ℕ) → Moves x p Places Places
places z p = record {
  ends = λ s a i. i;
  sends = λ s q body a t o u i. row s (after_sending s p q body) (Sent p q body) a a refl refl (λ l e f. plain s.log (Sent p q body) s.own_permanent s.saved_at refl (λ u. refl) f) i;
  declines = λ s v cause a i. row s (after_refusal s p v cause) (Refused p v cause) a a refl refl (λ l e f. plain s.log (Refused p v cause) s.own_permanent s.saved_at refl (λ u. refl) f) i;
  fails = λ s a t' u i. row s (after_failing s p) (Failed p) a _ refl refl (λ l e f. plain s.log (Failed p) s.own_permanent s.saved_at refl (λ u. refl) f) i;
  opens = λ s roll a o i. row s (after_began s p roll) (Began p (s.instances + 1) (kind_for roll)) a a refl (began_known p s s roll) (λ l e f. plain s.log (Began p (s.instances + 1) (kind_for roll)) s.own_permanent s.saved_at refl (λ u. refl) f) i;
  takes = λ s k fi x y a o u i. row s (after_joining_checkpoint s s.channel p k fi x y) (Took p k) a _ refl refl (λ l e f. took s p k i.known l e f) i;
  rolls = λ s k fi x y a o i. row s (after_joining_rollback s s.channel p k fi x y) (Ready p k) a a refl refl (λ l e f. ready s.log p k s.own_permanent s.saved_at e f) i;
  notes = λ s q k l a i. none s (after_noting s p q k l) a refl refl refl refl i;
  receives = λ s q m rest a y u e n i. row s (after_receiving s (with_rest s.channel q p rest) s.held p q m) (Received p q m) a _ refl refl (λ l e f. plain s.log (Received p q m) s.own_permanent s.saved_at refl (λ u. refl) f) i;
  receives_held = λ s q m rest a y u e i. row s (after_receiving s s.channel (with_rest s.held q p rest) p q m) (Received p q m) a _ refl refl (λ l e f. plain s.log (Received p q m) s.own_permanent s.saved_at refl (λ u. refl) f) i;
  loses = λ s q m rest a y u e n i. row s (after_dropping s (with_rest s.channel q p rest) s.held p q m) (Dropped p q m) a a refl refl (λ l e f. plain s.log (Dropped p q m) s.own_permanent s.saved_at refl (λ u. refl) f) i;
  loses_held = λ s q m rest a y u e i. row s (after_dropping s s.channel (with_rest s.held q p rest) p q m) (Dropped p q m) a a refl refl (λ l e f. plain s.log (Dropped p q m) s.own_permanent s.saved_at refl (λ u. refl) f) i;
  holds = λ s q m rest a y e i. none s (after_holding s p q m rest) a refl refl refl refl i;
  drops = λ s q x rest a e f i. none s (after_decision s p q rest) a refl refl refl refl i;
  replies = λ s q k w a i. none s (replies_now s p q k w) a refl refl refl refl i;
  refuses = λ s q k cause a i. row s (refuses_now s p q k cause) (Unwilling p k cause) a a refl refl (λ l e f. plain s.log (Unwilling p k cause) s.own_permanent s.saved_at refl (λ u. refl) f) i;
  counts = λ s q k w a i. none s (counted s p q k w) a refl refl refl refl i;
  answers = λ s k a i. none s (after_answering s p k) a refl refl refl refl i;
  decides = λ s k a o e b i. let f = decided_log p s s k (s.all_willing k p) (s.so_far.is_rollback k) refl in row s (late_deciding s p k) (Decided p k (s.all_willing k p)) a a f.0 f.1 (λ l e g. decides s p k (s.all_willing k p) (s.so_far.is_rollback k) g) i;
  closes = λ s k w a o d v h i. let f = closed_log p s s k w in row s (late_closing s p k w) (Closed p k) a _ f.0 f.1 (λ l e g. closes s p k w i.known v l e g) i;
}

places_run : (n : ℕ) (c : State) (steps : List ProtocolStep) → ((xs : List ProtocolStep) → Invariant (once_closed (late_run c xs))) → Places c [] → Places (late_run c steps) []
places_run n c [] g i = i
places_run n c (x ∷ xs) g i =
    let y = walk x Places Places (places x (stepper x)) c (g []) i in
    places_run n (late_step c x) xs (λ ys. g (x ∷ ys)) (record { known = y.known; fits = y.fits })

pub places_of : (n : ℕ) (steps : List ProtocolStep) → ((xs : List ProtocolStep) → Invariant (once_closed (late_run (opening n) xs))) → Places (late_run (opening n) steps) []
places_of n steps g = places_run n (opening n) steps g (record { known = refl; fits = λ l. record { own = λ u. refl; saved_at = λ u m t. absurd (cc (t)) } })
