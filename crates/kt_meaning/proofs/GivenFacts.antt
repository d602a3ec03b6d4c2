-- What rows gave, row by row.
use Rattle.std.proofs.Common.{◌≡◌, ◌∙◌, ℕ, ◌+◌, ◌≤◌, Some, List, [], ◌∷◌, ◌++◌, length, sym, ap, subst, arith, inl, inr}
use Rattle.kt_spacetime.specs.declared.event.Event.{Event}
use Rattle.kt_spacetime.specs.declared.event.Event.TheVariants.{Sent, Received, Dropped, Began, Took, Ready, Unwilling, Decided, Closed, Failed, Refused}
use Rattle.kt_meaning.specs.Past.{at_one}
use Rattle.kt_meaning.proofs.Shown.{at_same}
use Rattle.kt_meaning.proofs.Updates.{at_one_all}
use Rattle.kt_meaning.specs.Names.{Given, nothing_given, given_after, at_place}
use Rattle.kt_meaning.proofs.PlaceFacts.{StandsOnce, once_none, once_push, at_within, at_kept, at_last, at_push}

-- each message and each instance was given once, and by one process
pub record AreGiven (g : Given) : Type 0 where
  pub sent_once : (p : ℕ) → StandsOnce (g.sent p)
  pub sent_within : (p c m : ℕ) → at_place (g.sent p) c ≡ Some m → m ≤ g.rows
  pub begun_once : (p : ℕ) → StandsOnce (g.begun p)
  pub begun_by : (p c k : ℕ) → at_place (g.begun p) c ≡ Some k → at_place g.initiators k ≡ Some p
  pub begun_all : (k p : ℕ) → at_place g.initiators k ≡ Some p → (c : ℕ) × (at_place (g.begun p) c ≡ Some k)

nowhere : (c n : ℕ) → at_place [] c ≡ Some n → ⊥
nowhere c n e = let h = at_within [] c n e in omega (arith, h.0, h.1)

pub none_given : AreGiven nothing_given
none_given = record {
  sent_once = λ p. once_none;
  sent_within = λ p c m e. absurd (nowhere c m e);
  begun_once = λ p. once_none;
  begun_by = λ p c k e. absurd (nowhere c k e);
  begun_all = λ k p e. absurd (nowhere k p e);
}

-- a row that gives nothing
still : (g : Given) → AreGiven g → AreGiven (record g { rows = g.rows + 1 })
still g h = record {
  sent_once = h.sent_once;
  sent_within = λ p c m e. omega (arith, h.sent_within p c m e);
  begun_once = h.begun_once;
  begun_by = h.begun_by;
  begun_all = h.begun_all;
}

sends : (g : Given) (p : ℕ) → AreGiven g → AreGiven (record g { rows = g.rows + 1; sent = at_one p (g.sent p ++ (g.rows + 1) ∷ []) g.sent })
sends g p h = record {
  sent_once = at_one_all (λ q xs. StandsOnce xs) p _ g.sent (once_push (g.sent p) (g.rows + 1) (h.sent_once p) (λ c e. new c e)) h.sent_once;
  sent_within = at_one_all (λ q (xs : List ℕ). (c m : ℕ) → at_place xs c ≡ Some m → m ≤ g.rows + 1) p _ g.sent last (λ q c m e. omega (arith, h.sent_within q c m e));
  begun_once = h.begun_once;
  begun_by = h.begun_by;
  begun_all = h.begun_all;
}
  where
    new : (c : ℕ) → at_place (g.sent p) c ≡ Some (g.rows + 1) → ⊥
    new c e = let within = h.sent_within p c (g.rows + 1) e in omega (arith, within)

    last : (c m : ℕ) → at_place (g.sent p ++ (g.rows + 1) ∷ []) c ≡ Some m → m ≤ g.rows + 1
    last c m e = elim (at_push (g.sent p) (g.rows + 1) c m e) [
      | inl there ↦ omega (arith, h.sent_within p c m there)
      | inr there ↦ omega (arith, there.1)
    ]

begins : (g : Given) (p : ℕ) → AreGiven g
    → AreGiven (record g { rows = g.rows + 1; initiators = g.initiators ++ p ∷ []; begun = at_one p (g.begun p ++ (length g.initiators + 1) ∷ []) g.begun })
begins g p h = record {
  sent_once = h.sent_once;
  sent_within = λ q c m e. omega (arith, h.sent_within q c m e);
  begun_once = at_one_all (λ q xs. StandsOnce xs) p _ g.begun (once_push (g.begun p) (length g.initiators + 1) (h.begun_once p) (λ c e. new c e)) h.begun_once;
  begun_by = at_one_all (λ q (xs : List ℕ). (c k : ℕ) → at_place xs c ≡ Some k → at_place (g.initiators ++ p ∷ []) k ≡ Some q) p _ g.begun by_last
      (λ q c k e. at_kept g.initiators (p ∷ []) k q (h.begun_by q c k e));
  begun_all = λ k q e. all k q e;
}
  where
    new : (c : ℕ) → at_place (g.begun p) c ≡ Some (length g.initiators + 1) → ⊥
    new c e =
        let within = at_within g.initiators (length g.initiators + 1) p (h.begun_by p c (length g.initiators + 1) e) in
        omega (arith, within.1)

    by_last : (c k : ℕ) → at_place (g.begun p ++ (length g.initiators + 1) ∷ []) c ≡ Some k → at_place (g.initiators ++ p ∷ []) k ≡ Some p
    by_last c k e = elim (at_push (g.begun p) (length g.initiators + 1) c k e) [
      | inl there ↦ at_kept g.initiators (p ∷ []) k p (h.begun_by p c k there)
      | inr there ↦ subst (λ (n : ℕ). at_place (g.initiators ++ p ∷ []) n ≡ Some p) (sym there.1) (at_last g.initiators p)
    ]

    all : (k q : ℕ) → at_place (g.initiators ++ p ∷ []) k ≡ Some q
        → (c : ℕ) × (at_place (at_one p (g.begun p ++ (length g.initiators + 1) ∷ []) g.begun q) c ≡ Some k)
    all k q e = elim (at_push g.initiators p k q e) [
      | inl there ↦
          at_one_all (λ r (xs : List ℕ). at_place g.initiators k ≡ Some r → (c : ℕ) × (at_place xs c ≡ Some k)) p _ g.begun
          (λ f. let old = h.begun_all k p f in (old.0, at_kept (g.begun p) ((length g.initiators + 1) ∷ []) old.0 k old.1)) (λ r f. h.begun_all k r f) q there
      | inr there ↦
          let here : at_place (at_one p (g.begun p ++ (length g.initiators + 1) ∷ []) g.begun p) (length (g.begun p) + 1) ≡ Some (length g.initiators + 1)
          = ap (λ (xs : List ℕ). at_place xs (length (g.begun p) + 1)) (at_same p (g.begun p ++ (length g.initiators + 1) ∷ []) g.begun) ∙ at_last (g.begun p) (length g.initiators + 1) in
          subst (λ (r : ℕ). (c : ℕ) × (at_place (at_one p (g.begun p ++ (length g.initiators + 1) ∷ []) g.begun r) c ≡ Some k)) (sym there.1)
          (length (g.begun p) + 1, here ∙ ap Some (sym there.0))
    ]

pub given_more : (g : Given) (row : Event) → AreGiven g → AreGiven (given_after g row)
given_more g (Sent p to body) h = sends g p h
given_more g (Received p from msg) h = still g h
given_more g (Dropped p from msg) h = still g h
given_more g (Began p inst kind) h = begins g p h
given_more g (Took p inst) h = still g h
given_more g (Ready p inst) h = still g h
given_more g (Unwilling p inst c) h = still g h
given_more g (Decided p inst commit) h = still g h
given_more g (Closed p inst) h = still g h
given_more g (Failed p) h = still g h
given_more g (Refused p verb c) h = still g h
