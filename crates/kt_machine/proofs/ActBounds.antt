-- After every legal log: own permanent and taken positions lie within own histories, and messages there have numbers of rows.
use Rattle.std.proofs.Common.{◌≡◌, ℕ, ◌+◌, ◌≤◌, Bool, true, false, Option, Some, None, List, [], ◌∷◌, ◌++◌, length, take, refl, arith, sym, ap, ap₂, subst, ◌∙◌, length-append, length-take}
use Rattle.std.specs.Prelude.{unwrap_or, ◌==◌, ◌&&◌, if◌then◌else◌}
use Rattle.std.proofs.lemmas.Bool.Decides.{nat_tests}
use Rattle.kt_spacetime.specs.declared.event.Event.{Event}
use Rattle.kt_spacetime.specs.declared.event.Event.TheVariants.{Sent, Received, Dropped, Began, Took, Ready, Unwilling, Decided, Closed, Failed, Refused}
use Rattle.kt_spacetime.specs.declared.deeds.Deed.{Deed}
use Rattle.kt_spacetime.specs.declared.deeds.Deed.TheVariants as deed
use Rattle.kt_meaning.specs.Past.{at_one, is_rollback, is_committed}
use Rattle.kt_meaning.specs.Legal.{broken_rule}
use Rattle.kt_meaning.proofs.RowRules.{may_receive, MayTake, may_take, may_get_ready, MayClose, may_close}
use Rattle.kt_meaning.proofs.Positions.{Positions, one_kind}
use Rattle.kt_machine.specs.Done.{Done, done_after}
use Rattle.kt_machine.proofs.KnownDeeds.{number, IsKnown, known_more, known_push, known_take, known_has}
use Rattle.kt_machine.proofs.OwnAndLive.{Owns, cut_in}

pub record Bounds (d : Done) : Type 0 where
  pub own_low : (p : ℕ) → d.permanent p ≤ length (d.own p)
  pub taken_low : (p k n : ℕ) → d.past.open_in p ≡ Some k → d.past.new k p ≡ Some n → n ≤ length (d.own p)
  pub known : (p : ℕ) → IsKnown d.past.rows (d.own p)
  pub over : (p k n : ℕ) → d.past.open_in p ≡ Some k → d.past.new k p ≡ Some n → d.permanent p ≤ n

module _ (d : Done) (g : Positions d.past) (o : Owns d) (b : Bounds d) where
  known_next : (p : ℕ) → IsKnown (d.past.rows + 1) (d.own p)
  known_next p = known_more d.past.rows (d.past.rows + 1) (d.own p) (omega arith) (b.known p)

  live_known : (p : ℕ) → IsKnown d.past.rows (d.past.live p)
  live_known p = go (d.past.open_in p) refl
    where
      cut : (t : Bool) (n : ℕ) → IsKnown d.past.rows (if t then take n (d.own p) else d.own p)
      cut true n = known_take d.past.rows n (d.own p) (b.known p)
      cut false n = b.known p

      go : (x : Option ℕ) → d.past.open_in p ≡ x → IsKnown d.past.rows (d.past.live p)
      go None e = subst (IsKnown d.past.rows) (sym (o.live_idle p e)) (b.known p)
      go (Some k) e = subst (IsKnown d.past.rows) (sym (o.live_in p k e)) (cut (is_rollback d.past k && is_committed d.past k) (d.permanent p))

  pushed_low : (u p n : ℕ) (x : Deed) → n ≤ length (d.own u) → n ≤ length (at_one p (d.own p ++ x ∷ []) d.own u)
  pushed_low u p n x l = go (u == p) refl
    where
      go : (t : Bool) → (u == p) ≡ t → n ≤ length (if t then d.own p ++ x ∷ [] else d.own u)
      go true e = let s : u ≡ p = grind (arith, nat_tests) in let m = subst (λ (v : ℕ). n ≤ length (d.own v)) s l in omega (arith, m, length-append (d.own p) (x ∷ []))
      go false e = l

  pushed_known : (u p : ℕ) (x : Deed) → number x ≤ d.past.rows + 1 → IsKnown (d.past.rows + 1) (at_one p (d.own p ++ x ∷ []) d.own u)
  pushed_known u p x l = go (u == p)
    where
      go : (t : Bool) → IsKnown (d.past.rows + 1) (if t then d.own p ++ x ∷ [] else d.own u)
      go true = known_push (d.past.rows + 1) (d.own p) x (known_next p) l
      go false = known_next u

  bounds_took : (p k : ℕ) → MayTake d.past p k → Bounds (done_after d (Took p k))
  bounds_took p k m = record {
    own_low = b.own_low;
    taken_low = λ u j n i t. go u j n (u == p) refl i t;
    known = known_next;
    over = λ u j n i t. over u j n (u == p) refl i t;
  }
    where
      over : (u j n : ℕ) (t : Bool) → (u == p) ≡ t → (if t then Some k else d.past.open_in u) ≡ Some j → (if (j == k) && t then Some (length (d.past.live p)) else d.past.new j u) ≡ Some n → d.permanent u ≤ n
      over u j n false e i f = b.over u j n i (flat (j == k) f)
        where
          flat : (x : Bool) → (if x && false then Some (length (d.past.live p)) else d.past.new j u) ≡ Some n → d.past.new j u ≡ Some n
          flat true f = f
          flat false f = f
      over u j n true e i f =
          let s : u ≡ p = grind (arith, nat_tests) in
          let h : k ≡ j = cc (i) in
          let h' : (j == k) ≡ true = grind (arith, nat_tests) in
          let f' : Some (length (d.past.live p)) ≡ Some n = rw h' at f in
          let l : length (d.past.live p) ≡ n = cc (f') in
          let w : length (d.own u) ≡ length (d.past.live p) = ap (λ (v : ℕ). length (d.own v)) s ∙ ap length (sym (o.live_idle p m.idle)) in
          let z = b.own_low u in
          omega (arith, l, w, z)

      go : (u j n : ℕ) (t : Bool) → (u == p) ≡ t → (if t then Some k else d.past.open_in u) ≡ Some j → (if (j == k) && t then Some (length (d.past.live p)) else d.past.new j u) ≡ Some n → n ≤ length (d.own u)
      go u j n false e i f = b.taken_low u j n i (flat (j == k) f)
        where
          flat : (x : Bool) → (if x && false then Some (length (d.past.live p)) else d.past.new j u) ≡ Some n → d.past.new j u ≡ Some n
          flat true f = f
          flat false f = f
      go u j n true e i f =
          let s : u ≡ p = grind (arith, nat_tests) in
          let h : k ≡ j = cc (i) in
          let h' : (j == k) ≡ true = grind (arith, nat_tests) in
          let f' : Some (length (d.past.live p)) ≡ Some n = rw h' at f in
          let l : length (d.past.live p) ≡ n = cc (f') in
          let w : length (d.own u) ≡ length (d.past.live p) = ap (λ (v : ℕ). length (d.own v)) s ∙ ap length (sym (o.live_idle p m.idle)) in
          omega (arith, l, w)

  bounds_closed : (p k : ℕ) → MayClose d.past p k → Bounds (done_after d (Closed p k))
  bounds_closed p k m = record {
    own_low = λ u. low u (u == p) refl;
    taken_low = λ u j n i t. taken u j n (u == p) i t;
    known = λ u. know u (u == p);
    over = λ u j n i t. over u j n (u == p) i t;
  }
    where
      within : (r c : Bool) → is_rollback d.past k ≡ r → (t : Option ℕ) → d.past.new k p ≡ t → (if c then unwrap_or t (d.permanent p) else d.permanent p) ≤ length (if r && c then take (d.permanent p) (d.own p) else d.own p)
      within true true r (Some n) t = absurd (one_kind d.past k (g.took_kind p k n t) r)
      within true true r None t = let l = b.own_low p in let x = length-take (d.permanent p) (d.own p) in grind (arith, x, l)
      within true false r t e = b.own_low p
      within false true r (Some n) t = b.taken_low p k n m.inside t
      within false true r None t = b.own_low p
      within false false r t e = b.own_low p

      low : (u : ℕ) (t : Bool) → (u == p) ≡ t → (if t then (if is_committed d.past k then unwrap_or (d.past.new k p) (d.permanent p) else d.permanent p) else d.permanent u) ≤ length (if t then cut_in d.past k (d.permanent p) (d.own p) else d.own u)
      low u true e = within (is_rollback d.past k) (is_committed d.past k) refl (d.past.new k p) refl
      low u false e = b.own_low u

      taken : (u j n : ℕ) (t : Bool) → (if t then None else d.past.open_in u) ≡ Some j → d.past.new j u ≡ Some n → n ≤ length (if t then cut_in d.past k (d.permanent p) (d.own p) else d.own u)
      taken u j n true i f = absurd (cc (i))
      taken u j n false i f = b.taken_low u j n i f

      over : (u j n : ℕ) (t : Bool) → (if t then None else d.past.open_in u) ≡ Some j → d.past.new j u ≡ Some n → (if t then (if is_committed d.past k then unwrap_or (d.past.new k p) (d.permanent p) else d.permanent p) else d.permanent u) ≤ n
      over u j n true i f = absurd (cc (i))
      over u j n false i f = b.over u j n i f

      know : (u : ℕ) (t : Bool) → IsKnown (d.past.rows + 1) (if t then cut_in d.past k (d.permanent p) (d.own p) else d.own u)
      know u true = cut (is_rollback d.past k && is_committed d.past k)
        where
          cut : (t : Bool) → IsKnown (d.past.rows + 1) (if t then take (d.permanent p) (d.own p) else d.own p)
          cut true = known_take (d.past.rows + 1) (d.permanent p) (d.own p) (known_next p)
          cut false = known_next p
      know u false = known_next u

  same_bounds : (row : Event) → (done_after d row).own ≡ d.own → (done_after d row).permanent ≡ d.permanent → ((p k n : ℕ) → (done_after d row).past.open_in p ≡ Some k → (done_after d row).past.new k p ≡ Some n → (n ≤ length (d.own p)) × (d.permanent p ≤ n)) → Bounds (done_after d row)
  same_bounds row e f t = record {
    own_low = λ p. subst (λ (x : ℕ). x ≤ length ((done_after d row).own p)) (sym (ap (λ (h : ℕ → ℕ). h p) f)) (subst (λ (l : List Deed). d.permanent p ≤ length l) (sym (ap (λ (h : ℕ → List Deed). h p) e)) (b.own_low p));
    taken_low = λ p k n i h. subst (λ (l : List Deed). n ≤ length l) (sym (ap (λ (h : ℕ → List Deed). h p) e)) (t p k n i h).0;
    over = λ p k n i h. subst (λ (x : ℕ). x ≤ n) (sym (ap (λ (h : ℕ → ℕ). h p) f)) (t p k n i h).1;
    known = λ p. subst (IsKnown (d.past.rows + 1)) (sym (ap (λ (h : ℕ → List Deed). h p) e)) (known_next p);
  }

  ready_low : (p k : ℕ) → d.past.new k p ≡ None → (u j n : ℕ) → at_one p (Some k) d.past.open_in u ≡ Some j → d.past.new j u ≡ Some n → (n ≤ length (d.own u)) × (d.permanent u ≤ n)
  ready_low p k e u j n i f = go (u == p) refl i
    where
      go : (t : Bool) → (u == p) ≡ t → (if t then Some k else d.past.open_in u) ≡ Some j → (n ≤ length (d.own u)) × (d.permanent u ≤ n)
      go false h i = (b.taken_low u j n i f, b.over u j n i f)
      go true h i =
          let s : u ≡ p = grind (arith, nat_tests) in
          let x : k ≡ j = cc (i) in
          let y : d.past.new k p ≡ Some n = ap₂ d.past.new x (sym s) ∙ f in
          absurd (cc (y, e))

  pub bounds_row : (row : Event) → broken_rule d.past row ≡ None → Bounds (done_after d row)
  bounds_row (Sent p to body) e = record {
    own_low = λ u. pushed_low u p (d.permanent u) (deed.Sent (d.past.rows + 1) to) (b.own_low u);
    taken_low = λ u k n i t. pushed_low u p n (deed.Sent (d.past.rows + 1) to) (b.taken_low u k n i t);
    known = λ u. pushed_known u p (deed.Sent (d.past.rows + 1) to) (omega arith);
    over = b.over;
  }
  bounds_row (Received p from msg) e = let m = may_receive d.past p from msg e in record {
    own_low = λ u. pushed_low u p (d.permanent u) (deed.Received msg from) (b.own_low u);
    taken_low = λ u k n i t. pushed_low u p n (deed.Received msg from) (b.taken_low u k n i t);
    known = λ u. pushed_known u p (deed.Received msg from) (let x = known_has d.past.rows (deed.Sent msg p) (d.past.live from) (live_known from) m.sent in omega (arith, x));
    over = b.over;
  }
  bounds_row (Took p k) e = bounds_took p k (may_take d.past p k e)
  bounds_row (Ready p k) e = same_bounds (Ready p k) refl refl (ready_low p k (let m = may_get_ready d.past p k e in m.not_new))
  bounds_row (Closed p k) e = bounds_closed p k (may_close d.past p k e)
  bounds_row (Decided p k true) e = same_bounds (Decided p k true) refl refl (λ p k n i t. (b.taken_low p k n i t, b.over p k n i t))
  bounds_row (Decided p k false) e = same_bounds (Decided p k false) refl refl (λ p k n i t. (b.taken_low p k n i t, b.over p k n i t))
  bounds_row (Began p k kind) e = same_bounds (Began p k kind) refl refl (λ p k n i t. (b.taken_low p k n i t, b.over p k n i t))
  bounds_row (Dropped p from msg) e = same_bounds (Dropped p from msg) refl refl (λ p k n i t. (b.taken_low p k n i t, b.over p k n i t))
  bounds_row (Unwilling p k cause) e = same_bounds (Unwilling p k cause) refl refl (λ p k n i t. (b.taken_low p k n i t, b.over p k n i t))
  bounds_row (Failed p) e = same_bounds (Failed p) refl refl (λ p k n i t. (b.taken_low p k n i t, b.over p k n i t))
  bounds_row (Refused p verb cause) e = same_bounds (Refused p verb cause) refl refl (λ p k n i t. (b.taken_low p k n i t, b.over p k n i t))
