-- The acts of a row lead from what is due before it to what is due after it.
use Rattle.std.proofs.Common.{◌≡◌, ℕ, ℤ, ◌+◌, ◌≤◌, Bool, true, false, Option, Some, None, List, [], ◌∷◌, ◌++◌, length, take, refl, arith, sym, ap, ◌∙◌}
use Rattle.std.specs.Prelude.{option_map, unwrap_or, ◌==◌, ◌&&◌, ◌||◌, if◌then◌else◌}
use Rattle.std.proofs.lemmas.Bool.Decides.{nat_tests}
use Rattle.std.proofs.lemmas.Grind.{fold-append}
use Rattle.std.proofs.lemmas.List.{take-append-le, take-take, take_all}
use Rattle.kt_spacetime.specs.declared.event.Event.{Event}
use Rattle.kt_spacetime.specs.declared.event.Event.TheVariants.{Sent, Received, Dropped, Began, Took, Ready, Unwilling, Decided, Closed, Failed, Refused}
use Rattle.kt_spacetime.specs.declared.deeds.Deed.{Deed}
use Rattle.kt_spacetime.specs.declared.deeds.Deed.TheVariants as deed
use Rattle.kt_meaning.specs.Past.{at_one, at_pair, is_rollback, is_committed}
use Rattle.kt_meaning.specs.Legal.{broken_rule}
use Rattle.kt_meaning.proofs.RowRules.{may_take, may_get_ready, may_close, MayTake, MayGetReady, MayClose}
use Rattle.kt_meaning.proofs.Positions.{one_kind}
use Rattle.kt_machine.specs.Done.{Done, done_after}
use Rattle.kt_machine.specs.Values.{Rules, Due, Apply, Keep, Drop, after_deed, value, taken_in, taken_at, due, does_all, closing, acts_at}
use Rattle.kt_machine.proofs.KnownDeeds.{known_take, value_same}
use Rattle.kt_machine.proofs.OwnAndLive.{cut_in, moved_in}
use Rattle.kt_machine.proofs.LegalFacts.{Sound}

same : (a b : ℕ) → (a == b) ≡ true → a ≡ b
same a b e = grind (arith, nat_tests)

pub due_same : {V : Type 0} {a a' c c' : Option V} {b b' : V} → a ≡ a' → b ≡ b' → c ≡ c' → ◌≡◌ {A = Due V} (record { object = a; permanent = b; tentative = c }) (record { object = a'; permanent = b'; tentative = c' })
due_same x y z = λ i. record { object = x i; permanent = y i; tentative = z i }

module _ {V : Type 0} (r : Rules V) (d : Done) (s : Sound d) where
  no_acts : (u : ℕ) (b : Bool) (x : Due V) → does_all r x (if b then [] else []) ≡ x
  no_acts u true x = refl
  no_acts u false x = refl

  taken_low : (u n : ℕ) → taken_at d.past u ≡ Some n → n ≤ length (d.own u)
  taken_low u n e = go (d.past.open_in u) refl e
    where
      go : (o : Option ℕ) → d.past.open_in u ≡ o → taken_in d.past u o ≡ Some n → n ≤ length (d.own u)
      go None i e = absurd (cc (e))
      go (Some k) i e = s.bounds.taken_low u k n i e

  at_taken : (u : ℕ) (f g : ℕ → V) → ((n : ℕ) → n ≤ length (d.own u) → f n ≡ g n) → option_map f (taken_at d.past u) ≡ option_map g (taken_at d.past u)
  at_taken u f g h = go (taken_at d.past u) refl
    where
      go : (o : Option ℕ) → taken_at d.past u ≡ o → option_map f o ≡ option_map g o
      go None e = refl
      go (Some n) e = ap Some (h n (taken_low u n e))

  -- a send leaves each value, though it makes a body known
  module _ (p to : ℕ) (body : ℤ) where
    new_body : ℕ → ℤ
    new_body = at_one (d.past.rows + 1) body d.body

    old_body : (m : ℕ) → m ≤ d.past.rows → d.body m ≡ at_one (d.past.rows + 1) body d.body m
    old_body m l = let e : (m == d.past.rows + 1) ≡ false = grind (arith, nat_tests, l) in sym (rw e refl)

    sent_part : (u n : ℕ) → n ≤ length (d.own u) → value r d.body (take n (d.own u)) ≡ value r (at_one (d.past.rows + 1) body d.body) (take n (at_one p (d.own p ++ deed.Sent (d.past.rows + 1) to ∷ []) d.own u))
    sent_part u n l = value_same r d.body (at_one (d.past.rows + 1) body d.body) d.past.rows (take n (d.own u)) (known_take d.past.rows n (d.own u) (s.bounds.known u)) old_body r.opening ∙ ap (value r (at_one (d.past.rows + 1) body d.body)) (go (u == p) refl)
      where
        go : (b : Bool) → (u == p) ≡ b → take n (d.own u) ≡ take n (if b then d.own p ++ deed.Sent (d.past.rows + 1) to ∷ [] else d.own u)
        go false e = refl
        go true e = sym (ap (λ (v : ℕ). take n (d.own v ++ deed.Sent (d.past.rows + 1) to ∷ [])) (sym (same u p e)) ∙ take-append-le n (d.own u) (deed.Sent (d.past.rows + 1) to ∷ []) l)

    sent_whole : (u : ℕ) → value r d.body (d.own u) ≡ value r (at_one (d.past.rows + 1) body d.body) (at_one p (d.own p ++ deed.Sent (d.past.rows + 1) to ∷ []) d.own u)
    sent_whole u = value_same r d.body (at_one (d.past.rows + 1) body d.body) d.past.rows (d.own u) (s.bounds.known u) old_body r.opening ∙ go (u == p) refl
      where
        go : (b : Bool) → (u == p) ≡ b → value r (at_one (d.past.rows + 1) body d.body) (d.own u) ≡ value r (at_one (d.past.rows + 1) body d.body) (if b then d.own p ++ deed.Sent (d.past.rows + 1) to ∷ [] else d.own u)
        go false e = refl
        go true e = ap (λ (v : ℕ). value r (at_one (d.past.rows + 1) body d.body) (d.own v)) (same u p e) ∙ sym (fold-append (after_deed r (at_one (d.past.rows + 1) body d.body)) r.opening (d.own p) (deed.Sent (d.past.rows + 1) to ∷ []))

    row_sent : (u : ℕ) → does_all r (due r d u) (acts_at u d (Sent p to body)) ≡ due r (done_after d (Sent p to body)) u
    row_sent u = no_acts u (u == p) (due r d u) ∙ due_same
        (ap (λ (v : V). if d.past.up u then Some v else None) (sent_whole u))
        (sent_part u (d.permanent u) (s.bounds.own_low u))
        (at_taken u _ _ (λ n l. sent_part u n l))

  row_received : (p from msg u : ℕ) → does_all r (due r d u) (acts_at u d (Received p from msg)) ≡ due r (done_after d (Received p from msg)) u
  row_received p from msg u = go (u == p) refl
    where
      pushed : (b : Bool) → (u == p) ≡ b → (n : ℕ) → n ≤ length (d.own u) → value r d.body (take n (d.own u)) ≡ value r d.body (take n (if b then d.own p ++ deed.Received msg from ∷ [] else d.own u))
      pushed false e n l = refl
      pushed true e n l = ap (value r d.body) (sym (ap (λ (v : ℕ). take n (d.own v ++ deed.Received msg from ∷ [])) (sym (same u p e)) ∙ take-append-le n (d.own u) (deed.Received msg from ∷ []) l))

      applied : (u == p) ≡ true → (up : Bool) → option_map (λ v. r.after v from (d.body msg)) (if up then Some (value r d.body (d.own u)) else None) ≡ (if up then Some (value r d.body (d.own p ++ deed.Received msg from ∷ [])) else None)
      applied e false = refl
      applied e true = ap Some (ap (λ (v : ℕ). r.after (value r d.body (d.own v)) from (d.body msg)) (same u p e) ∙ sym (fold-append (after_deed r d.body) r.opening (d.own p) (deed.Received msg from ∷ [])))

      go : (b : Bool) → (u == p) ≡ b → does_all r (due r d u) (if b then Apply from (d.body msg) ∷ [] else []) ≡ record { object = if d.past.up u then Some (value r d.body (if b then d.own p ++ deed.Received msg from ∷ [] else d.own u)) else None; permanent = value r d.body (take (d.permanent u) (if b then d.own p ++ deed.Received msg from ∷ [] else d.own u)); tentative = option_map (λ n. value r d.body (take n (if b then d.own p ++ deed.Received msg from ∷ [] else d.own u))) (taken_at d.past u) }
      go false e = refl
      go true e = due_same (applied e (d.past.up u)) (pushed true e (d.permanent u) (s.bounds.own_low u)) (at_taken u _ _ (λ n l. pushed true e n l))

  row_took : (p k u : ℕ) → MayTake d.past p k → does_all r (due r d u) (acts_at u d (Took p k)) ≡ due r (done_after d (Took p k)) u
  row_took p k u m = go (u == p) refl
    where
      elsewhere : (o : Option ℕ) → (u == p) ≡ false → taken_in d.past u o ≡ taken_in (record d.past { new = at_pair k p (Some (length (d.past.live p))) d.past.new }) u o
      elsewhere None e = refl
      elsewhere (Some j) e = rw e (flat (j == k))
        where
          flat : (b : Bool) → d.past.new j u ≡ (if b && false then Some (length (d.past.live p)) else d.past.new j u)
          flat true = refl
          flat false = refl

      here : (u == p) ≡ true → (if d.past.up u then Some (value r d.body (d.own u)) else None) ≡ option_map (λ n. value r d.body (take n (d.own u))) (if (k == k) && (u == p) then Some (length (d.past.live p)) else d.past.new k u)
      here e =
          let x = same u p e in
          let a : (k == k) ≡ true = grind (arith, nat_tests) in
          let up : d.past.up u ≡ true = ap d.past.up x ∙ m.up in
          let w : d.own u ≡ take (length (d.past.live p)) (d.own u) = sym (take_all (length (d.past.live p)) (d.own u) (let l : length (d.own u) ≡ length (d.past.live p) = ap (λ (v : ℕ). length (d.own v)) x ∙ ap length (sym (s.owns.live_idle p m.idle)) in omega (arith, l))) in
          rw (up, a, e) (ap (λ (l : List Deed). Some (value r d.body l)) w)

      go : (b : Bool) → (u == p) ≡ b → does_all r (due r d u) (if b then Keep ∷ [] else []) ≡ record { object = if d.past.up u then Some (value r d.body (d.own u)) else None; permanent = value r d.body (take (d.permanent u) (d.own u)); tentative = option_map (λ n. value r d.body (take n (d.own u))) (taken_in (record d.past { new = at_pair k p (Some (length (d.past.live p))) d.past.new }) u (if b then Some k else d.past.open_in u)) }
      go false e = due_same refl refl (ap (option_map (λ n. value r d.body (take n (d.own u)))) (elsewhere (d.past.open_in u) e))
      go true e = due_same refl refl (here e)

  row_ready : (p k u : ℕ) → MayGetReady d.past p k → does_all r (due r d u) (acts_at u d (Ready p k)) ≡ due r (done_after d (Ready p k)) u
  row_ready p k u m = no_acts u (u == p) (due r d u) ∙ due_same refl refl (ap (option_map (λ n. value r d.body (take n (d.own u)))) (go (u == p) refl))
    where
      go : (b : Bool) → (u == p) ≡ b → taken_at d.past u ≡ taken_in d.past u (if b then Some k else d.past.open_in u)
      go false e = refl
      go true e = ap (taken_in d.past u) (ap d.past.open_in (same u p e) ∙ m.idle) ∙ sym (ap (d.past.new k) (same u p e) ∙ m.not_new)

  row_closed : (p k u : ℕ) → MayClose d.past p k → does_all r (due r d u) (acts_at u d (Closed p k)) ≡ due r (done_after d (Closed p k)) u
  row_closed p k u m = go (u == p) refl
    where
      -- of who closes
      at_kind : (roll commit : Bool) → is_rollback d.past k ≡ roll → (t : Option ℕ) → d.past.new k p ≡ t → does_all r (record { object = if d.past.up p then Some (value r d.body (d.own p)) else None; permanent = value r d.body (take (d.permanent p) (d.own p)); tentative = option_map (λ n. value r d.body (take n (d.own p))) t }) (closing roll commit)
          ≡ record { object = if d.past.up p || (roll && commit) then Some (value r d.body (if roll && commit then take (d.permanent p) (d.own p) else d.own p)) else None; permanent = value r d.body (take (if commit then unwrap_or t (d.permanent p) else d.permanent p) (if roll && commit then take (d.permanent p) (d.own p) else d.own p)); tentative = None }
      at_kind true commit e (Some n) t = absurd (one_kind d.past k (s.positions.took_kind p k n t) e)
      at_kind true true e None t = due_same (up (d.past.up p)) (sym (ap (value r d.body) (take-take (d.permanent p) (d.permanent p) (d.own p) (omega arith)))) refl
        where
          up : (b : Bool) → Some (value r d.body (take (d.permanent p) (d.own p))) ≡ (if b || true then Some (value r d.body (take (d.permanent p) (d.own p))) else None)
          up true = refl
          up false = refl
      at_kind true false e None t = due_same (up (d.past.up p)) refl refl
        where
          up : (b : Bool) → (if b then Some (value r d.body (d.own p)) else None) ≡ (if b || false then Some (value r d.body (d.own p)) else None)
          up true = refl
          up false = refl
      at_kind false true e None t = due_same (up (d.past.up p)) refl refl
        where
          up : (b : Bool) → (if b then Some (value r d.body (d.own p)) else None) ≡ (if b || false then Some (value r d.body (d.own p)) else None)
          up true = refl
          up false = refl
      at_kind false true e (Some n) t = due_same (up (d.past.up p)) refl refl
        where
          up : (b : Bool) → (if b then Some (value r d.body (d.own p)) else None) ≡ (if b || false then Some (value r d.body (d.own p)) else None)
          up true = refl
          up false = refl
      at_kind false false e t f = due_same (up (d.past.up p)) refl refl
        where
          up : (b : Bool) → (if b then Some (value r d.body (d.own p)) else None) ≡ (if b || false then Some (value r d.body (d.own p)) else None)
          up true = refl
          up false = refl

      there : does_all r (due r d p) (closing (is_rollback d.past k) (is_committed d.past k)) ≡ record { object = if d.past.up p || (is_rollback d.past k && is_committed d.past k) then Some (value r d.body (cut_in d.past k (d.permanent p) (d.own p))) else None; permanent = value r d.body (take (moved_in d.past k p (d.permanent p)) (cut_in d.past k (d.permanent p) (d.own p))); tentative = None }
      there = ap (λ (o : Option ℕ). does_all r (record { object = if d.past.up p then Some (value r d.body (d.own p)) else None; permanent = value r d.body (take (d.permanent p) (d.own p)); tentative = option_map (λ n. value r d.body (take n (d.own p))) (taken_in d.past p o) }) (closing (is_rollback d.past k) (is_committed d.past k))) m.inside
          ∙ at_kind (is_rollback d.past k) (is_committed d.past k) refl (d.past.new k p) refl

      go : (b : Bool) → (u == p) ≡ b → does_all r (due r d u) (if b then closing (is_rollback d.past k) (is_committed d.past k) else []) ≡ record { object = if (if b then d.past.up p || (is_rollback d.past k && is_committed d.past k) else d.past.up u) then Some (value r d.body (if b then cut_in d.past k (d.permanent p) (d.own p) else d.own u)) else None; permanent = value r d.body (take (if b then moved_in d.past k p (d.permanent p) else d.permanent u) (if b then cut_in d.past k (d.permanent p) (d.own p) else d.own u)); tentative = option_map (λ n. value r d.body (take n (if b then cut_in d.past k (d.permanent p) (d.own p) else d.own u))) (taken_in d.past u (if b then None else d.past.open_in u)) }
      go false e = refl
      go true e = ap (λ (v : ℕ). does_all r (due r d v) (closing (is_rollback d.past k) (is_committed d.past k))) (same u p e) ∙ there

  row_failed : (p u : ℕ) → does_all r (due r d u) (acts_at u d (Failed p)) ≡ due r (done_after d (Failed p)) u
  row_failed p u = go (u == p)
    where
      go : (b : Bool) → does_all r (due r d u) (if b then Drop ∷ [] else []) ≡ record { object = if (if b then false else d.past.up u) then Some (value r d.body (d.own u)) else None; permanent = value r d.body (take (d.permanent u) (d.own u)); tentative = option_map (λ n. value r d.body (take n (d.own u))) (taken_at d.past u) }
      go false = refl
      go true = refl

  -- every row that breaks no rule
  pub row_law : (row : Event) (u : ℕ) → broken_rule d.past row ≡ None → does_all r (due r d u) (acts_at u d row) ≡ due r (done_after d row) u
  row_law (Sent p to body) u e = row_sent p to body u
  row_law (Received p from msg) u e = row_received p from msg u
  row_law (Took p k) u e = row_took p k u (may_take d.past p k e)
  row_law (Ready p k) u e = row_ready p k u (may_get_ready d.past p k e)
  row_law (Closed p k) u e = row_closed p k u (may_close d.past p k e)
  row_law (Failed p) u e = row_failed p u
  row_law (Decided p k true) u e = no_acts u (u == p) (due r d u)
  row_law (Decided p k false) u e = no_acts u (u == p) (due r d u)
  row_law (Began p k kind) u e = no_acts u (u == p) (due r d u)
  row_law (Dropped p from msg) u e = no_acts u (u == p) (due r d u)
  row_law (Unwilling p k cause) u e = no_acts u (u == p) (due r d u)
  row_law (Refused p verb cause) u e = no_acts u (u == p) (due r d u)
