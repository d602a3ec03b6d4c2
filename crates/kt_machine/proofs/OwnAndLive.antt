-- After every legal log: a process's own history and permanent position, its live ones, and their bounds.
use Rattle.std.proofs.Common.{◌≡◌, ℕ, ℤ, ◌+◌, Bool, true, false, Option, Some, None, List, [], ◌∷◌, ◌++◌, length, take, refl, arith, sym, ap, ap₂, subst, ◌∙◌}
use Rattle.std.specs.Prelude.{is_some, unwrap_or, ◌==◌, ◌&&◌, ◌||◌, if◌then◌else◌}
use Rattle.std.proofs.lemmas.Bool.Decides.{nat_tests}
use Rattle.kt_spacetime.specs.declared.event.Event.{Event}
use Rattle.kt_spacetime.specs.declared.event.Event.TheVariants.{Sent, Received, Dropped, Began, Took, Ready, Unwilling, Decided, Closed, Failed, Refused}
use Rattle.kt_spacetime.specs.declared.deeds.Deed.{Deed}
use Rattle.kt_spacetime.specs.declared.deeds.Deed.TheVariants as deed
use Rattle.kt_meaning.specs.Past.{Past, after, at_one, is_rollback, is_checkpoint, is_committed}
use Rattle.kt_meaning.specs.Legal.{is_in_none, is_open_rollback, broken_rule}
use Rattle.kt_meaning.proofs.LegalLogs.{kept}
use Rattle.kt_meaning.proofs.RowRules.{both, none_from, MayReceive, may_receive, MayTake, may_take, MayGetReady, may_get_ready, may_decide, MayClose, may_close}
use Rattle.kt_meaning.proofs.Positions.{Positions, one_kind, checkpoint_kept, rollback_kept}
use Rattle.kt_machine.specs.Done.{Done, done_after}

-- a process that sends is in no open instance
may_send : (s : Past) (p to : ℕ) (body : ℤ) → broken_rule s (Sent p to body) ≡ None → s.open_in p ≡ None
may_send s p to body e = none_from (s.open_in p) (both (s.up p) (is_in_none s p) (kept s (Sent p to body) e).sending).1

-- a history cut back where its process is in a committed rollback
abbrev pub cut_in : Past → ℕ → ℕ → List Deed → List Deed
cut_in s k n own = if is_rollback s k && is_committed s k then take n own else own

abbrev pub moved_in : Past → ℕ → ℕ → ℕ → ℕ
moved_in s k p n = if is_committed s k then unwrap_or (s.new k p) n else n

pub record Owns (d : Done) : Type 0 where
  pub live_idle : (p : ℕ) → d.past.open_in p ≡ None → d.past.live p ≡ d.own p
  pub live_in : (p k : ℕ) → d.past.open_in p ≡ Some k → d.past.live p ≡ cut_in d.past k (d.permanent p) (d.own p)
  pub place_idle : (p : ℕ) → d.past.open_in p ≡ None → d.past.permanent p ≡ d.permanent p
  pub place_in : (p k : ℕ) → d.past.open_in p ≡ Some k → d.past.permanent p ≡ moved_in d.past k p (d.permanent p)

same : (a b : ℕ) → (a == b) ≡ true → a ≡ b
same a b e = grind (arith, nat_tests)

no_some : {X : Type 0} {A : Type 0} (x : X) (o : Option X) → o ≡ None → o ≡ Some x → A
no_some x None e f = absurd (cc (f))
no_some x (Some y) e f = absurd (cc (e))

same_some : (a b : ℕ) (o : Option ℕ) → o ≡ Some a → o ≡ Some b → a ≡ b
same_some a b None e f = absurd (cc (e))
same_some a b (Some x) e f = cc (e, f)

-- a process in an instance with another one at it: not the one
not_here : {X : Type 0} (f : ℕ → Option X) (u p : ℕ) (x : X) → f p ≡ None → f u ≡ Some x → (u == p) ≡ false
not_here f u p x n e = go (u == p) refl
  where
    go : (b : Bool) → (u == p) ≡ b → (u == p) ≡ false
    go true h = no_some x (f p) n (ap f (sym (same u p h)) ∙ e)
    go false h = h

-- one more deed on both sides
both_push : (b : Bool) (x y f g : List Deed) (d : Deed) → (b ≡ true → x ≡ y) → f ≡ g → (if b then x ++ d ∷ [] else f) ≡ (if b then y ++ d ∷ [] else g)
both_push true x y f g d e h = ap (λ (l : List Deed). l ++ d ∷ []) (e refl)
both_push false x y f g d e h = h

-- the instance that a process is in has a kind, which stays
kind_of_open : (s : Past) → Positions s → (p k : ℕ) → s.open_in p ≡ Some k → (row : Event) → is_rollback (after s row) k ≡ is_rollback s k
kind_of_open s g p k o row = go (s.new k p) refl (g.inside_member p k o)
  where
    off : (t : Past) → is_checkpoint t k ≡ true → is_rollback t k ≡ false
    off t c = at (is_rollback t k) refl
      where
        at : (b : Bool) → is_rollback t k ≡ b → is_rollback t k ≡ false
        at true e = absurd (one_kind t k c e)
        at false e = e

    go : (o : Option ℕ) → s.new k p ≡ o → (is_some o || s.ready k p) ≡ true → is_rollback (after s row) k ≡ is_rollback s k
    go None e m = rollback_kept s row k (g.ready_kind p k m) ∙ sym (g.ready_kind p k m)
    go (Some n) e m = let c = g.took_kind p k n e in off (after s row) (checkpoint_kept s row k c) ∙ sym (off s c)

module _ (d : Done) (g : Positions d.past) (o : Owns d) where
  cut_as : (p k : ℕ) (row : Event) → d.past.open_in p ≡ Some k → is_committed (after d.past row) k ≡ is_committed d.past k → cut_in d.past k (d.permanent p) (d.own p) ≡ cut_in (after d.past row) k (d.permanent p) (d.own p)
  cut_as p k row i c = sym (ap₂ (λ (x y : Bool). if x && y then take (d.permanent p) (d.own p) else d.own p) (kind_of_open d.past g p k i row) c)

  owns_sent : (p to : ℕ) (body : ℤ) → d.past.open_in p ≡ None → Owns (done_after d (Sent p to body))
  owns_sent p to body idle = record {
    live_idle = λ u i. both_push (u == p) (d.past.live p) (d.own p) (d.past.live u) (d.own u) (deed.Sent (d.past.rows + 1) to) (λ _. o.live_idle p idle) (o.live_idle u i);
    live_in = λ u k i. rw (not_here d.past.open_in u p k idle i) (o.live_in u k i);
    place_idle = o.place_idle;
    place_in = o.place_in;
  }

  owns_received : (p from msg : ℕ) → MayReceive d.past p from msg → Owns (done_after d (Received p from msg))
  owns_received p from msg m = record {
    live_idle = λ u i. both_push (u == p) (d.past.live p) (d.own p) (d.past.live u) (d.own u) (deed.Received msg from) (λ e. o.live_idle p (ap d.past.open_in (sym (same u p e)) ∙ i)) (o.live_idle u i);
    live_in = λ u k i. go u k i (u == p) refl;
    place_idle = o.place_idle;
    place_in = o.place_in;
  }
    where
      not_roll : (k : ℕ) → d.past.open_in p ≡ Some k → is_rollback d.past k ≡ false
      not_roll k i = sym (ap (is_open_rollback d.past) i) ∙ m.not_rolling

      go : (u k : ℕ) → d.past.open_in u ≡ Some k → (b : Bool) → (u == p) ≡ b → (if b then d.past.live p ++ deed.Received msg from ∷ [] else d.past.live u) ≡ cut_in d.past k (d.permanent u) (if b then d.own p ++ deed.Received msg from ∷ [] else d.own u)
      go u k i false e = o.live_in u k i
      go u k i true e =
          let j : d.past.open_in p ≡ Some k = ap d.past.open_in (sym (same u p e)) ∙ i in
          let n = not_roll k j in
          rw n (ap (λ (l : List Deed). l ++ deed.Received msg from ∷ []) (rw n at (o.live_in p k j)))

  owns_took : (p k : ℕ) → MayTake d.past p k → Owns (done_after d (Took p k))
  owns_took p k m = record {
    live_idle = λ u i. idle u i (u == p) refl o.live_idle;
    live_in = λ u j i. at_live u j (u == p) refl i;
    place_idle = λ u i. idle u i (u == p) refl o.place_idle;
    place_in = λ u j i. at_place u j (u == p) refl i;
  }
    where
      idle : {P : ℕ → Type 0} (u : ℕ) → at_one p (Some k) d.past.open_in u ≡ None → (b : Bool) → (u == p) ≡ b → ((v : ℕ) → d.past.open_in v ≡ None → P v) → P u
      idle u i true e f = f u (ap d.past.open_in (same u p e) ∙ m.idle)
      idle u i false e f = f u (rw e at i)

      open_same : (j : ℕ) → Some k ≡ Some j → k ≡ j
      open_same j i = cc (i)

      undecided : (j : ℕ) → k ≡ j → is_committed d.past j ≡ false
      undecided j e = subst (λ (x : ℕ). is_committed d.past x ≡ false) e (rw m.undecided refl)

      at_live : (u j : ℕ) (b : Bool) → (u == p) ≡ b → (if b then Some k else d.past.open_in u) ≡ Some j → d.past.live u ≡ cut_in d.past j (d.permanent u) (d.own u)
      at_live u j false e i = o.live_in u j i
      at_live u j true e i = o.live_idle u (ap d.past.open_in (same u p e) ∙ m.idle) ∙ plain (is_rollback d.past j) (is_committed d.past j) (undecided j (open_same j i))
        where
          plain : (r c : Bool) → c ≡ false → d.own u ≡ (if r && c then take (d.permanent u) (d.own u) else d.own u)
          plain true true e = absurd (cc (e))
          plain true false e = refl
          plain false c e = refl

      at_place : (u j : ℕ) (b : Bool) → (u == p) ≡ b → (if b then Some k else d.past.open_in u) ≡ Some j → d.past.permanent u ≡ (if is_committed d.past j then unwrap_or (if (j == k) && b then Some (length (d.past.live p)) else d.past.new j u) (d.permanent u) else d.permanent u)
      at_place u j false e i = go (j == k)
        where
          go : (t : Bool) → d.past.permanent u ≡ (if is_committed d.past j then unwrap_or (if t && false then Some (length (d.past.live p)) else d.past.new j u) (d.permanent u) else d.permanent u)
          go true = o.place_in u j i
          go false = o.place_in u j i
      at_place u j true e i = o.place_idle u (ap d.past.open_in (same u p e) ∙ m.idle) ∙ sym (rw (undecided j (open_same j i)) refl)

  owns_ready : (p k : ℕ) → MayGetReady d.past p k → Owns (done_after d (Ready p k))
  owns_ready p k m = record {
    live_idle = λ u i. idle u i (u == p) refl o.live_idle;
    live_in = λ u j i. at_live u j (u == p) refl i;
    place_idle = λ u i. idle u i (u == p) refl o.place_idle;
    place_in = λ u j i. at_place u j (u == p) refl i;
  }
    where
      idle : {P : ℕ → Type 0} (u : ℕ) → at_one p (Some k) d.past.open_in u ≡ None → (b : Bool) → (u == p) ≡ b → ((v : ℕ) → d.past.open_in v ≡ None → P v) → P u
      idle u i true e f = f u (ap d.past.open_in (same u p e) ∙ m.idle)
      idle u i false e f = f u (rw e at i)

      undecided : (j : ℕ) → Some k ≡ Some j → is_committed d.past j ≡ false
      undecided j i = let e : k ≡ j = cc (i) in subst (λ (x : ℕ). is_committed d.past x ≡ false) e (rw m.undecided refl)

      at_live : (u j : ℕ) (b : Bool) → (u == p) ≡ b → (if b then Some k else d.past.open_in u) ≡ Some j → d.past.live u ≡ cut_in d.past j (d.permanent u) (d.own u)
      at_live u j false e i = o.live_in u j i
      at_live u j true e i = o.live_idle u (ap d.past.open_in (same u p e) ∙ m.idle) ∙ plain (is_rollback d.past j) (is_committed d.past j) (undecided j i)
        where
          plain : (r c : Bool) → c ≡ false → d.own u ≡ (if r && c then take (d.permanent u) (d.own u) else d.own u)
          plain true true e = absurd (cc (e))
          plain true false e = refl
          plain false c e = refl

      at_place : (u j : ℕ) (b : Bool) → (u == p) ≡ b → (if b then Some k else d.past.open_in u) ≡ Some j → d.past.permanent u ≡ moved_in d.past j u (d.permanent u)
      at_place u j false e i = o.place_in u j i
      at_place u j true e i = o.place_idle u (ap d.past.open_in (same u p e) ∙ m.idle) ∙ sym (rw (undecided j i) refl)

  -- a decision
  abort_same : (k j : ℕ) → d.past.decision k ≡ None → unwrap_or (at_one k (Some false) d.past.decision j) false ≡ is_committed d.past j
  abort_same k j v = go (j == k) refl
    where
      go : (b : Bool) → (j == k) ≡ b → unwrap_or (if b then Some false else d.past.decision j) false ≡ unwrap_or (d.past.decision j) false
      go true e = sym (ap (λ (x : Option Bool). unwrap_or x false) (ap d.past.decision (same j k e) ∙ v))
      go false e = refl

  owns_abort : (p k : ℕ) → d.past.decision k ≡ None → Owns (done_after d (Decided p k false))
  owns_abort p k v = record {
    live_idle = o.live_idle;
    live_in = λ u j i. o.live_in u j i ∙ sym (ap (λ (c : Bool). if is_rollback d.past j && c then take (d.permanent u) (d.own u) else d.own u) (abort_same k j v));
    place_idle = o.place_idle;
    place_in = λ u j i. o.place_in u j i ∙ sym (ap (λ (c : Bool). if c then unwrap_or (d.past.new j u) (d.permanent u) else d.permanent u) (abort_same k j v));
  }

  -- who isn't in an undecided instance has no row of it
  not_ready : (k u : ℕ) → d.past.decision k ≡ None → (d.past.open_in u ≡ Some k → ⊥) → d.past.ready k u ≡ false
  not_ready k u v f = go (d.past.ready k u) refl
    where
      go : (b : Bool) → d.past.ready k u ≡ b → d.past.ready k u ≡ false
      go true e = absurd (f (g.ready_inside u k v e))
      go false e = e

  not_new : (k u : ℕ) → d.past.decision k ≡ None → (d.past.open_in u ≡ Some k → ⊥) → d.past.new k u ≡ None
  not_new k u v f = go (d.past.new k u) refl
    where
      go : (b : Option ℕ) → d.past.new k u ≡ b → d.past.new k u ≡ None
      go (Some n) e = absurd (f (g.took_inside u k n v e))
      go None e = e

  -- who is in it is ready where it is a rollback
  ready_is : (k u : ℕ) → d.past.open_in u ≡ Some k → d.past.ready k u ≡ is_rollback d.past k
  ready_is k u i = go (d.past.new k u) refl (d.past.ready k u) refl (is_rollback d.past k) refl (g.inside_member u k i)
    where
      go : (a : Option ℕ) → d.past.new k u ≡ a → (b : Bool) → d.past.ready k u ≡ b → (c : Bool) → is_rollback d.past k ≡ c → (is_some a || b) ≡ true → b ≡ c
      go a e true f true h m = refl
      go a e true f false h m = absurd (let x = g.ready_kind u k f in cc (x, h))
      go a e false f false h m = refl
      go None e false f true h m = absurd (cc (m))
      go (Some n) e false f true h m = absurd (one_kind d.past k (g.took_kind u k n e) h)

  owns_commit : (p k : ℕ) → d.past.decision k ≡ None → Owns (done_after d (Decided p k true))
  owns_commit p k v = record {
    live_idle = λ u i. rw (not_ready k u v (λ x. no_some k (d.past.open_in u) i x)) (o.live_idle u i);
    live_in = λ u j i. at_live u j i (j == k) refl;
    place_idle = λ u i. rw (not_new k u v (λ x. no_some k (d.past.open_in u) i x)) (o.place_idle u i);
    place_in = λ u j i. at_place u j i (j == k) refl;
  }
    where
      -- before the decision
      plain_live : (u : ℕ) → d.past.open_in u ≡ Some k → d.past.live u ≡ d.own u
      plain_live u i = o.live_in u k i ∙ plain (is_rollback d.past k) (is_committed d.past k) (rw v refl)
        where
          plain : (r c : Bool) → c ≡ false → (if r && c then take (d.permanent u) (d.own u) else d.own u) ≡ d.own u
          plain true true e = absurd (cc (e))
          plain true false e = refl
          plain false c e = refl

      plain_place : (u : ℕ) → d.past.open_in u ≡ Some k → d.past.permanent u ≡ d.permanent u
      plain_place u i = o.place_in u k i ∙ rw v refl

      apart : (u j : ℕ) → d.past.open_in u ≡ Some j → (j == k) ≡ false → d.past.open_in u ≡ Some k → ⊥
      apart u j i e x = let s = same_some j k (d.past.open_in u) i x in absurd (grind (arith, nat_tests, s, e))

      at_live : (u j : ℕ) → d.past.open_in u ≡ Some j → (b : Bool) → (j == k) ≡ b → (if d.past.ready k u then take (d.past.permanent u) (d.past.live u) else d.past.live u) ≡ (if is_rollback d.past j && unwrap_or (if b then Some true else d.past.decision j) false then take (d.permanent u) (d.own u) else d.own u)
      at_live u j i false e = rw (not_ready k u v (apart u j i e)) (o.live_in u j i)
      at_live u j i true e =
          let s = same j k e in
          let i' : d.past.open_in u ≡ Some k = i ∙ ap (λ (x : ℕ). Some x) s in
          (ap₂ (λ (n : ℕ) (l : List Deed). if d.past.ready k u then take n l else l) (plain_place u i') (plain_live u i'))
          ∙ ap (λ (b : Bool). if b then take (d.permanent u) (d.own u) else d.own u) (ready_is k u i' ∙ (ap (is_rollback d.past) (sym s) ∙ anded (is_rollback d.past j)))
        where
          anded : (b : Bool) → b ≡ (b && true)
          anded true = refl
          anded false = refl

      at_place : (u j : ℕ) → d.past.open_in u ≡ Some j → (b : Bool) → (j == k) ≡ b → unwrap_or (d.past.new k u) (d.past.permanent u) ≡ (if unwrap_or (if b then Some true else d.past.decision j) false then unwrap_or (d.past.new j u) (d.permanent u) else d.permanent u)
      at_place u j i false e = rw (not_new k u v (apart u j i e)) (o.place_in u j i)
      at_place u j i true e =
          let s = same j k e in
          let i' : d.past.open_in u ≡ Some k = i ∙ ap (λ (x : ℕ). Some x) s in
          ap₂ (λ (x : Option ℕ) (n : ℕ). unwrap_or x n) (ap (λ (x : ℕ). d.past.new x u) (sym s)) (plain_place u i')

  owns_closed : (p k : ℕ) → MayClose d.past p k → Owns (done_after d (Closed p k))
  owns_closed p k m = record {
    live_idle = λ u i. idle_live u (u == p) refl i;
    live_in = λ u j i. in_live u j (u == p) refl i;
    place_idle = λ u i. idle_place u (u == p) refl i;
    place_in = λ u j i. in_place u j (u == p) refl i;
  }
    where
      idle_live : (u : ℕ) (b : Bool) → (u == p) ≡ b → (if b then None else d.past.open_in u) ≡ None → d.past.live u ≡ (if b then cut_in d.past k (d.permanent p) (d.own p) else d.own u)
      idle_live u true e i = ap d.past.live (same u p e) ∙ o.live_in p k m.inside
      idle_live u false e i = o.live_idle u i

      in_live : (u j : ℕ) (b : Bool) → (u == p) ≡ b → (if b then None else d.past.open_in u) ≡ Some j → d.past.live u ≡ cut_in d.past j (if b then moved_in d.past k p (d.permanent p) else d.permanent u) (if b then cut_in d.past k (d.permanent p) (d.own p) else d.own u)
      in_live u j true e i = absurd (cc (i))
      in_live u j false e i = o.live_in u j i

      idle_place : (u : ℕ) (b : Bool) → (u == p) ≡ b → (if b then None else d.past.open_in u) ≡ None → d.past.permanent u ≡ (if b then moved_in d.past k p (d.permanent p) else d.permanent u)
      idle_place u true e i = ap d.past.permanent (same u p e) ∙ o.place_in p k m.inside
      idle_place u false e i = o.place_idle u i

      in_place : (u j : ℕ) (b : Bool) → (u == p) ≡ b → (if b then None else d.past.open_in u) ≡ Some j → d.past.permanent u ≡ moved_in d.past j u (if b then moved_in d.past k p (d.permanent p) else d.permanent u)
      in_place u j true e i = absurd (cc (i))
      in_place u j false e i = o.place_in u j i

  -- every row that breaks no rule
  pub owns_row : (row : Event) → broken_rule d.past row ≡ None → Owns (done_after d row)
  owns_row (Sent p to body) e = owns_sent p to body (may_send d.past p to body e)
  owns_row (Received p from msg) e = owns_received p from msg (may_receive d.past p from msg e)
  owns_row (Took p k) e = owns_took p k (may_take d.past p k e)
  owns_row (Ready p k) e = owns_ready p k (may_get_ready d.past p k e)
  owns_row (Decided p k true) e = owns_commit p k (let m = may_decide d.past p k true e in m.undecided)
  owns_row (Decided p k false) e = owns_abort p k (let m = may_decide d.past p k false e in m.undecided)
  owns_row (Closed p k) e = owns_closed p k (may_close d.past p k e)
  owns_row (Began p k kind) e = record { live_idle = o.live_idle; live_in = λ u j i. o.live_in u j i ∙ cut_as u j (Began p k kind) i refl; place_idle = o.place_idle; place_in = o.place_in }
  owns_row (Dropped p from msg) e = record { live_idle = o.live_idle; live_in = o.live_in; place_idle = o.place_idle; place_in = o.place_in }
  owns_row (Unwilling p k cause) e = record { live_idle = o.live_idle; live_in = o.live_in; place_idle = o.place_idle; place_in = o.place_in }
  owns_row (Failed p) e = record { live_idle = o.live_idle; live_in = o.live_in; place_idle = o.place_idle; place_in = o.place_in }
  owns_row (Refused p verb cause) e = record { live_idle = o.live_idle; live_in = o.live_in; place_idle = o.place_idle; place_in = o.place_in }
