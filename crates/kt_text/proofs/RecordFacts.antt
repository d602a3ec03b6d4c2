-- The records of a text, one after another.
use Rattle.std.proofs.Common.{◌≡◌, ◌⊎◌, ◌∙◌, ◌<◌, ◌+◌, ℕ, zero, suc, List, [], ◌∷◌, length, Option, Some, None, Bool, true, false, arith, refl, sym, ap, inl, inr, add-one}
use Rattle.csv.specs.Machine.{Read, next_record, step, is_end, ends_at_end, fields_after, field_after}
use Rattle.csv.specs.Reading.{records_from, records_next}
use Rattle.csv.specs.declared.parser.Config.{Config}
use Rattle.csv.specs.declared.parser.State.{State}
use Rattle.csv.specs.declared.parser.State.TheVariants as st
use Rattle.kt_text.specs.Records.{records_left}

-- a read leaves fewer bytes, or none at the start of a record
pub consumes : (cfg : Config) (s : State) (f : List (List ℕ)) (p xs : List ℕ) (r : Read) → next_record cfg s f p xs ≡ Some r
    → (length r.2 < length xs) ⊎ ((r.1 ≡ st.StartRecord) × (r.2 ≡ []))
unfolding next_record
consumes cfg s f p [] r e = at_end (ends_at_end s) refl e
  where
    at_end : (b : Bool) → ends_at_end s ≡ b → next_record cfg s f p [] ≡ Some r → (length r.2 < 0) ⊎ ((r.1 ≡ st.StartRecord) × (r.2 ≡ []))
    at_end true is e = let read = rw is at e in inr (cc read, cc read)
    at_end false is e = let read = rw is at e in cc read
consumes cfg s f p (c ∷ rest) r e =
    by_step (is_end (step cfg s c).1) refl e (λ q. consumes cfg (step cfg s c).0 (fields_after (step cfg s c).1 f p) (field_after (step cfg s c).1 c p) rest r q)
  where
    by_step : (b : Bool) → is_end (step cfg s c).1 ≡ b → next_record cfg s f p (c ∷ rest) ≡ Some r
        → (next_record cfg (step cfg s c).0 (fields_after (step cfg s c).1 f p) (field_after (step cfg s c).1 c p) rest ≡ Some r → (length r.2 < length rest) ⊎ ((r.1 ≡ st.StartRecord) × (r.2 ≡ [])))
        → (length r.2 < length (c ∷ rest)) ⊎ ((r.1 ≡ st.StartRecord) × (r.2 ≡ []))
    by_step true is e again = let read = rw is at e in let left : r.2 ≡ rest = cc read in inl (rw left (omega arith))
    by_step false is e again = elim (again (rw is at e)) [
      | inl less ↦ inl (omega (arith, less))
      | inr ended ↦ inr ended
    ]

none_at_end : (cfg : Config) (k : ℕ) → records_from cfg k st.StartRecord [] ≡ []
unfolding records_from next_record
none_at_end cfg zero = refl
none_at_end cfg (suc k) = refl

-- enough turns are enough
pub fuel : (cfg : Config) (n m : ℕ) (s : State) (xs : List ℕ) → length xs < n → length xs < m → records_from cfg n s xs ≡ records_from cfg m s xs
unfolding records_from
fuel cfg zero m s xs a b = absurd (omega (arith, a))
fuel cfg (suc n) zero s xs a b = absurd (omega (arith, b))
fuel cfg (suc n) (suc m) s xs a b = by_next (next_record cfg s [] [] xs) refl (λ q. fuel cfg n m q.1 q.2)
  where
    by_next : (o : Option Read) → next_record cfg s [] [] xs ≡ o
        → ((q : Read) → length q.2 < n → length q.2 < m → records_from cfg n q.1 q.2 ≡ records_from cfg m q.1 q.2)
        → records_next (records_from cfg n) o ≡ records_next (records_from cfg m) o
    by_next None e again = refl
    by_next (Some p) e again = elim (consumes cfg s [] [] xs p e) [
      | inl less ↦ ap (λ (t : List (List (List ℕ))). p.0 ∷ t) (again p (omega (arith, less, a)) (omega (arith, less, b)))
      | inr ended ↦ rw (ended.0, ended.1) (ap (λ (t : List (List (List ℕ))). p.0 ∷ t) (none_at_end cfg n ∙ sym (none_at_end cfg m)))
    ]

pub left-none : (cfg : Config) (s : State) (xs : List ℕ) → next_record cfg s [] [] xs ≡ None → records_left cfg s xs ≡ []
unfolding records_from
left-none cfg s xs e = rw (add-one (length xs), e) refl

pub left-some : (cfg : Config) (s : State) (xs : List ℕ) (p : Read) → next_record cfg s [] [] xs ≡ Some p → records_left cfg s xs ≡ p.0 ∷ records_left cfg p.1 p.2
unfolding records_from
left-some cfg s xs p e = elim (consumes cfg s [] [] xs p e) [
  | inl less ↦ rw (add-one (length xs), e) (ap (λ (t : List (List (List ℕ))). p.0 ∷ t) (fuel cfg (length xs) (length p.2 + 1) p.1 p.2 less (omega arith)))
  | inr ended ↦ rw (add-one (length xs), e, ended.0, ended.1) (ap (λ (t : List (List (List ℕ))). p.0 ∷ t) (none_at_end cfg (length xs) ∙ sym (none_at_end cfg 1)))
]
