-- The first member of an instance is its initiator.
use Rattle.std.proofs.Common.{◌≡◌, ℕ, zero, suc, true, Option, Some, None, List, [], ◌∷◌, ◌++◌, refl, arith, sym, ap, subst, ◌∙◌, inl, inr}
use Rattle.std.specs.List.{cons_option}
use Rattle.std.specs.Prelude.{slice_get, option_map, ◌⊎◌}
use Rattle.std.proofs.lemmas.Bool.Decides.{nat_tests}
use Rattle.kt_spacetime.specs.declared.event.Event.{Event}
use Rattle.kt_spacetime.specs.declared.event.Event.TheVariants.{Sent, Received, Dropped, Began, Took, Ready, Unwilling, Decided, Closed, Failed, Refused}
use Rattle.kt_meaning.specs.Past.{Past, Beginning, start, after, past, beginning_of, initiator_of, is_checkpoint, is_rollback}
use Rattle.kt_meaning.specs.Legal.{IsLegal, broken_rule, follows, is_join}
use Rattle.kt_meaning.specs.Chains.{joins, members}
use Rattle.kt_meaning.proofs.LegalLogs.{kept, past_push, legal_log_induction}
use Rattle.kt_meaning.proofs.RowRules.{both, may_begin, may_take, may_get_ready}
use Rattle.kt_meaning.proofs.Lists.{get_push}
use Rattle.kt_meaning.proofs.Positions.{begun_kept}
use Rattle.kt_meaning.proofs.Members.{members_push}

-- the row that a beginning asks for next
follows_last : (s : Past) (row : Event) → broken_rule s row ≡ None → follows s.last row ≡ true
follows_last s row e = let h = kept s row e in let a = both _ _ h.joining in a.1

is_join_joins : (q k : ℕ) (row : Event) → is_join q k row ≡ true → joins k row ≡ Some q
is_join_joins q k (Took p j) e = grind (arith, nat_tests)
is_join_joins q k (Ready p j) e = grind (arith, nat_tests)
is_join_joins q k (Sent p to body) e = absurd (cc)
is_join_joins q k (Received p from msg) e = absurd (cc)
is_join_joins q k (Dropped p from msg) e = absurd (cc)
is_join_joins q k (Began p j kind) e = absurd (cc)
is_join_joins q k (Unwilling p j cause) e = absurd (cc)
is_join_joins q k (Decided p j commit) e = absurd (cc)
is_join_joins q k (Closed p j) e = absurd (cc)
is_join_joins q k (Failed p) e = absurd (cc)
is_join_joins q k (Refused p verb cause) e = absurd (cc)

-- how an instance began is known where it has a kind
known_checkpoint : (s : Past) (k : ℕ) → is_checkpoint s k ≡ true → (b : Beginning) × (beginning_of s k ≡ Some b)
known_checkpoint s k e = at_beginning (beginning_of s k) refl
  where
    at_beginning : (o : Option Beginning) → beginning_of s k ≡ o → (b : Beginning) × (beginning_of s k ≡ Some b)
    at_beginning None h = absurd (let f = rw h at e in cc)
    at_beginning (Some b) h = (b, h)

known_rollback : (s : Past) (k : ℕ) → is_rollback s k ≡ true → (b : Beginning) × (beginning_of s k ≡ Some b)
known_rollback s k e = at_beginning (beginning_of s k) refl
  where
    at_beginning : (o : Option Beginning) → beginning_of s k ≡ o → (b : Beginning) × (beginning_of s k ≡ Some b)
    at_beginning None h = absurd (let f = rw h at e in cc)
    at_beginning (Some b) h = (b, h)

-- who joins an instance has its beginning known
joins_known : (s : Past) (row : Event) (k p : ℕ) → broken_rule s row ≡ None → joins k row ≡ Some p → (b : Beginning) × (beginning_of s k ≡ Some b)
joins_known s (Took q j) k p e h = let may = may_take s q j e in let same : j ≡ k = grind (arith, nat_tests) in known_checkpoint s k (subst (λ (x : ℕ). is_checkpoint s x ≡ true) same may.is_kind)
joins_known s (Ready q j) k p e h = let may = may_get_ready s q j e in let same : j ≡ k = grind (arith, nat_tests) in known_rollback s k (subst (λ (x : ℕ). is_rollback s x ≡ true) same may.is_kind)
joins_known s (Sent q to body) k p e h = absurd (cc)
joins_known s (Received q from msg) k p e h = absurd (cc)
joins_known s (Dropped q from msg) k p e h = absurd (cc)
joins_known s (Began q j kind) k p e h = absurd (cc)
joins_known s (Unwilling q j cause) k p e h = absurd (cc)
joins_known s (Decided q j commit) k p e h = absurd (cc)
joins_known s (Closed q j) k p e h = absurd (cc)
joins_known s (Failed q) k p e h = absurd (cc)
joins_known s (Refused q verb cause) k p e h = absurd (cc)

-- a beginning that is known after a row was known, or is the row's own
new_beginning : (s : Past) (row : Event) (k : ℕ) (b : Beginning) → broken_rule s row ≡ None → beginning_of (after s row) k ≡ Some b → (beginning_of s k ≡ Some b) ⊎ (row ≡ Began b.initiator k b.kind)
new_beginning s row zero b u e = absurd (cc)
new_beginning s (Began p j kind) (suc k) b u e =
    let number = may_begin s p j kind u in
    elim (get_push s.begun (record { initiator = p; kind = kind }) k b e) [
      | inl a ↦ inl a
      | inr a ↦ let who : p ≡ b.initiator = ap (λ (x : Beginning). x.initiator) a.1 in
          let what : kind ≡ b.kind = ap (λ (x : Beginning). x.kind) a.1 in
          let which : j ≡ suc k = omega arith in
          inr (cc)
    ]
new_beginning s (Sent p to body) (suc k) b u e = inl e
new_beginning s (Received p from msg) (suc k) b u e = inl e
new_beginning s (Dropped p from msg) (suc k) b u e = inl e
new_beginning s (Took p j) (suc k) b u e = inl e
new_beginning s (Ready p j) (suc k) b u e = inl e
new_beginning s (Unwilling p j cause) (suc k) b u e = inl e
new_beginning s (Decided p j commit) (suc k) b u e = inl e
new_beginning s (Closed p j) (suc k) b u e = inl e
new_beginning s (Failed p) (suc k) b u e = inl e
new_beginning s (Refused p verb cause) (suc k) b u e = inl e

initiator_kept : (s : Past) (row : Event) (k p : ℕ) → initiator_of s k ≡ Some p → initiator_of (after s row) k ≡ Some p
initiator_kept s row k p e = at_beginning (beginning_of s k) refl
  where
    at_beginning : (o : Option Beginning) → beginning_of s k ≡ o → initiator_of (after s row) k ≡ Some p
    at_beginning None h = absurd (let f = rw h at e in cc)
    at_beginning (Some b) h = rw (begun_kept s row k b h) (rw h at e)

-- the first member is the initiator; an instance with no member yet is what the last row began
pub record FirstMembers (log : List Event) : Type 0 where
  pub first : (k p : ℕ) → slice_get (members log k) 0 ≡ Some p → initiator_of (past log) k ≡ Some p
  pub awaited : (k : ℕ) (b : Beginning) → beginning_of (past log) k ≡ Some b → members log k ≡ [] → (past log).last ≡ Some (Began b.initiator k b.kind)

first_members_start : FirstMembers []
first_members_start = record { first = λ k p e. absurd (cc); awaited = λ k b e m. absurd (none k b e) }
  where
    none : (k : ℕ) (b : Beginning) → beginning_of start k ≡ Some b → ⊥
    none zero b e = absurd (cc)
    none (suc k) b e = absurd (cc)

first_members_keep : (log : List Event) (row : Event) → IsLegal log → broken_rule (past log) row ≡ None → FirstMembers log → FirstMembers (log ++ row ∷ [])
first_members_keep log row l unbroken g = record {
  first = λ k p e. subst (λ (s : Past). initiator_of s k ≡ Some p) (sym (past_push log row)) (first_after k p (members log k) refl (rw (members_push log row k) at e));
  awaited = λ k b e m. subst (λ (s : Past). s.last ≡ Some (Began b.initiator k b.kind)) (sym (past_push log row))
      (last_after k b (rw (past_push log row) at e) (members log k) refl (joins k row) refl (rw (members_push log row k) at m));
}
  where
    follower : (k : ℕ) (b : Beginning) → beginning_of (past log) k ≡ Some b → members log k ≡ [] → joins k row ≡ Some b.initiator
    follower k b h m =
        let f = follows_last (past log) row unbroken in
        let j : is_join b.initiator k row ≡ true = subst (λ (o : Option Event). follows o row ≡ true) (g.awaited k b h m) f in
        is_join_joins b.initiator k row j

    alone : (o : Option ℕ) (p : ℕ) → slice_get (cons_option o []) 0 ≡ Some p → o ≡ Some p
    alone None p e = absurd (cc)
    alone (Some q) p e = e

    first_after : (k p : ℕ) (xs : List ℕ) → members log k ≡ xs → slice_get (xs ++ cons_option (joins k row) []) 0 ≡ Some p → initiator_of (after (past log) row) k ≡ Some p
    first_after k p [] m e =
        let j = alone (joins k row) p e in
        let b = joins_known (past log) row k p unbroken j in
        let same : Some b.0.initiator ≡ Some p = sym (follower k b.0 b.1 m) ∙ j in
        initiator_kept (past log) row k p (ap (option_map (λ (x : Beginning). x.initiator)) b.1 ∙ same)
    first_after k p (x ∷ xs) m e = initiator_kept (past log) row k p (g.first k p (ap (λ (ys : List ℕ). slice_get ys 0) m ∙ e))

    last_after : (k : ℕ) (b : Beginning) → beginning_of (after (past log) row) k ≡ Some b → (xs : List ℕ) → members log k ≡ xs → (o : Option ℕ) → joins k row ≡ o → xs ++ cons_option o [] ≡ [] → Some row ≡ Some (Began b.initiator k b.kind)
    last_after k b e (x ∷ xs) m o j n = absurd (cc)
    last_after k b e [] m (Some q) j n = absurd (cc)
    last_after k b e [] m None j n = elim (new_beginning (past log) row k b unbroken e) [
      | inl h ↦ let f = follower k b h m in absurd (cc)
      | inr h ↦ ap (λ (x : Event). Some x) h
    ]

pub first_members : (log : List Event) → IsLegal log → FirstMembers log
first_members log l = legal_log_induction FirstMembers first_members_start first_members_keep log l
