-- Each act can be done when it is told.
use Rattle.std.proofs.Common.{◌≡◌, ℕ, Bool, true, false, Option, Some, None, List, [], ◌∷◌, ◌++◌, take, refl, arith, sym, ap, subst, ◌∙◌, append_assoc}
use Rattle.std.specs.Prelude.{is_some, is_none, option_map, ◌==◌, ◌&&◌, ◌||◌, if◌then◌else◌}
use Rattle.std.proofs.lemmas.Bool.Decides.{nat_tests}
use Rattle.kt_spacetime.specs.declared.event.Event.{Event}
use Rattle.kt_spacetime.specs.declared.event.Event.TheVariants.{Sent, Received, Dropped, Began, Took, Ready, Unwilling, Decided, Closed, Failed, Refused}
use Rattle.kt_meaning.specs.Past.{Past, is_rollback, is_committed}
use Rattle.kt_meaning.specs.Legal.{IsLegal, broken_rule}
use Rattle.kt_meaning.proofs.LegalLogs.{kept, legal_front, legal_last}
use Rattle.kt_meaning.proofs.RowRules.{may_take, may_close, may_receive}
use Rattle.kt_machine.specs.Done.{Done, done, done_after}
use Rattle.kt_machine.specs.Values.{Rules, Due, Act, Apply, Keep, Drop, value, due, does, does_all, can, can_all, closing, acts_at, acts_along, taken_in, taken_at}
use Rattle.kt_machine.proofs.DoneAlong.{done_more, done_past}
use Rattle.kt_machine.proofs.LegalFacts.{Sound, sound}
use Rattle.kt_machine.proofs.RowActs.{row_law}

same : (a b : ℕ) → (a == b) ≡ true → a ≡ b
same a b e = grind (arith, nat_tests)

pub can_more : {V : Type 0} (r : Rules V) (x : Due V) (a b : List Act) → can_all r x a ≡ true → can_all r (does_all r x a) b ≡ true → can_all r x (a ++ b) ≡ true
can_more r x [] b e f = f
can_more r x (t ∷ a) b e f = go (can x t) e (λ h. can_more r (does r x t) a b h f)
  where
    go : (c : Bool) → (c && can_all r (does r x t) a) ≡ true → (can_all r (does r x t) a ≡ true → can_all r (does r x t) (a ++ b) ≡ true) → (c && can_all r (does r x t) (a ++ b)) ≡ true
    go true e h = h e
    go false e h = absurd (cc (e))

module _ {V : Type 0} (r : Rules V) (d : Done) (s : Sound d) where
  no_acts : (b : Bool) (x : Due V) → can_all r x (if b then [] else []) ≡ true
  no_acts true x = refl
  no_acts false x = refl

  object : (u : ℕ) → d.past.up u ≡ true → is_some (due r d u).object ≡ true
  object u e = rw e refl

  one : (b : Bool) (x : Due V) (a : Act) → (b ≡ true → can x a ≡ true) → can_all r x (if b then a ∷ [] else []) ≡ true
  one false x a f = refl
  one true x a f = rw (f refl) refl

  both : (a b : Bool) → a ≡ true → b ≡ true → (a && b) ≡ true
  both true b e f = f
  both false b e f = absurd (cc (e))

  closed : (p k u : ℕ) → d.past.open_in p ≡ Some k → can_all r (due r d u) (acts_at u d (Closed p k)) ≡ true
  closed p k u i = go (u == p) refl
    where
      tentative : (u == p) ≡ true → is_rollback d.past k ≡ false → is_some (due r d u).tentative ≡ true
      tentative e n =
          let w : taken_at d.past u ≡ d.past.new k p = ap (taken_at d.past) (same u p e) ∙ ap (taken_in d.past p) i in
          at (d.past.new k p) refl (s.positions.inside_member p k i) w
        where
          at : (o : Option ℕ) → d.past.new k p ≡ o → (is_some o || d.past.ready k p) ≡ true → taken_at d.past u ≡ d.past.new k p → is_some (due r d u).tentative ≡ true
          at (Some m) f g w = ap (λ (o : Option ℕ). is_some (option_map (λ n. value r d.body (take n (d.own u))) o)) (w ∙ f)
          at None f g w = absurd (let x = s.positions.ready_kind p k g in cc (x, n))

      at_kind : (u == p) ≡ true → (roll commit : Bool) → is_rollback d.past k ≡ roll → can_all r (due r d u) (closing roll commit) ≡ true
      at_kind e true true n = refl
      at_kind e true false n = refl
      at_kind e false true n = rw (tentative e n) refl
      at_kind e false false n = rw (tentative e n) refl

      go : (b : Bool) → (u == p) ≡ b → can_all r (due r d u) (if b then closing (is_rollback d.past k) (is_committed d.past k) else []) ≡ true
      go false e = refl
      go true e = at_kind e (is_rollback d.past k) (is_committed d.past k) refl

  pub row_can : (row : Event) (u : ℕ) → broken_rule d.past row ≡ None → can_all r (due r d u) (acts_at u d row) ≡ true
  row_can (Received p from msg) u e = one (u == p) (due r d u) (Apply from (d.body msg)) (λ h. object u (ap d.past.up (same u p h) ∙ (may_receive d.past p from msg e).up))
  row_can (Took p k) u e = let m = may_take d.past p k e in one (u == p) (due r d u) Keep (λ h. both (is_some (due r d u).object) (is_none (due r d u).tentative) (object u (ap d.past.up (same u p h) ∙ m.up)) (ap (λ (o : Option ℕ). is_none (option_map (λ n. value r d.body (take n (d.own u))) (taken_in d.past u o))) (ap d.past.open_in (same u p h) ∙ m.idle)))
  row_can (Closed p k) u e = closed p k u (may_close d.past p k e).inside
  row_can (Failed p) u e = one (u == p) (due r d u) Drop (λ h. object u (ap d.past.up (same u p h) ∙ (kept d.past (Failed p) e).causes))
  row_can (Sent p to body) u e = no_acts (u == p) (due r d u)
  row_can (Ready p k) u e = no_acts (u == p) (due r d u)
  row_can (Decided p k c) u e = no_acts (u == p) (due r d u)
  row_can (Began p k kind) u e = no_acts (u == p) (due r d u)
  row_can (Dropped p from msg) u e = no_acts (u == p) (due r d u)
  row_can (Unwilling p k cause) u e = no_acts (u == p) (due r d u)
  row_can (Refused p verb cause) u e = no_acts (u == p) (due r d u)

pub along_can : {V : Type 0} (r : Rules V) (log rows : List Event) (u : ℕ) → IsLegal (log ++ rows) → can_all r (due r (done log) u) (acts_along u (done log) rows) ≡ true
along_can r log [] u l = refl
along_can {V} r log (row ∷ rows) u l =
    let l' : IsLegal ((log ++ row ∷ []) ++ rows) = subst IsLegal (sym (append_assoc log (row ∷ []) rows)) l in
    let h = legal_last log row (legal_front (log ++ row ∷ []) rows l') in
    let e : broken_rule (done log).past row ≡ None = ap (λ (s : Past). broken_rule s row) (done_past log) ∙ h.1 in
    can_more r (due r (done log) u) (acts_at u (done log) row) (acts_along u (done_after (done log) row) rows)
    (row_can r (done log) (sound log h.0) row u e)
    (ap (λ (x : Due V). can_all r x (acts_along u (done_after (done log) row) rows)) (row_law r (done log) (sound log h.0) row u e)
    ∙ (ap (λ (d : Done). can_all r (due r d u) (acts_along u d rows)) (sym (done_more log (row ∷ [])))
    ∙ along_can r (log ++ row ∷ []) rows u l'))
