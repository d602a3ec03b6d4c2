-- The row that decides an instance, and the certificate that it makes.
use Rattle.std.proofs.Common.{◌≡◌, ℕ, suc, ◌==◌, if◌then◌else◌, Bool, true, false, Option, Some, None, option_map, List, [], ◌∷◌, take, refl, ap, subst, arith}
use Rattle.std.specs.Prelude.{option_and_then}
use Rattle.std.specs.Option.{option_or}
use Rattle.std.specs.List.{slice_get}
use Rattle.std.proofs.lemmas.Bool.Decides.{nat_tests}
use Rattle.kt_spacetime.specs.declared.event.Event.{Event}
use Rattle.kt_spacetime.specs.declared.event.Event.TheVariants.{Sent, Received, Dropped, Began, Took, Ready, Unwilling, Decided, Closed, Failed, Refused}
use Rattle.kt_meaning.specs.Past.{Beginning, past, beginning_of}
use Rattle.kt_meaning.specs.Chains.{members}
use Rattle.kt_meaning.proofs.Items.{some_same}
use Rattle.kt_spacetime.specs.declared.certificate.Certificate.{Certificate}
use Rattle.kt_meaning.specs.Certificates.{certified, certified_after, decision_by, decision_in, certificate_of}

-- a decision by the first row, or one by a later row, with how many rows come before it
abbrev pub first_decision : Option Bool → Option (ℕ × Bool) → Option (ℕ × Bool)
first_decision v later = option_or (option_map (λ commit. (0, commit)) v) (option_map (λ d. (suc d.0, d.1)) later)

-- the certificate by such a decision
abbrev pub certified_by : List Event → ℕ → Option (ℕ × Bool) → Option Certificate
certified_by log k o = option_and_then (λ d. certified_after (take d.0 log) k d.1) o

pub deciding_row : (k : ℕ) (row : Event) (commit : Bool) → decision_by k row ≡ Some commit → (p : ℕ) × (row ≡ Decided p k commit)
deciding_row k (Decided p j c) commit e = at_test (j == k) refl e
  where
    at_test : (b : Bool) → (j == k) ≡ b → (if b then Some c else None) ≡ Some commit → (q : ℕ) × (Decided p j c ≡ Decided q k commit)
    at_test true t f =
        let same : j ≡ k = grind (arith, nat_tests, t) in
        (p, (λ i. Decided p (same i) (some_same f i)))
    at_test false t f = absurd (cc)
deciding_row k (Sent p to body) commit e = absurd (cc)
deciding_row k (Received p from msg) commit e = absurd (cc)
deciding_row k (Dropped p from msg) commit e = absurd (cc)
deciding_row k (Began p j kind) commit e = absurd (cc)
deciding_row k (Took p j) commit e = absurd (cc)
deciding_row k (Ready p j) commit e = absurd (cc)
deciding_row k (Unwilling p j cause) commit e = absurd (cc)
deciding_row k (Closed p j) commit e = absurd (cc)
deciding_row k (Failed p) commit e = absurd (cc)
deciding_row k (Refused p verb cause) commit e = absurd (cc)

pub decision_of_row : (p k : ℕ) (commit : Bool) → decision_by k (Decided p k commit) ≡ Some commit
decision_of_row p k commit =
    let same : (k == k) ≡ true = grind (arith, nat_tests) in
    ap (λ (b : Bool). if b then Some commit else None) same

-- what is found is a row that decides the instance
pub decision_is : (k : ℕ) (log : List Event) (d : ℕ × Bool) → decision_in k log ≡ Some d → (p : ℕ) × (slice_get log d.0 ≡ Some (Decided p k d.1))
decision_is k [] d e = absurd (cc)
decision_is k (row ∷ rows) d e = from (decision_by k row) refl (decision_in k rows) refl e (λ c f. decision_is k rows c f)
  where
    later : (c : ℕ × Bool) → Some (suc c.0, c.1) ≡ Some d → (p : ℕ) × (slice_get rows c.0 ≡ Some (Decided p k c.1)) → (p : ℕ) × (slice_get (row ∷ rows) d.0 ≡ Some (Decided p k d.1))
    later c f h = (h.0, subst (λ (x : ℕ × Bool). slice_get (row ∷ rows) x.0 ≡ Some (Decided h.0 k x.1)) (some_same f) h.1)

    now : (c : Bool) → decision_by k row ≡ Some c → (let x : ℕ × Bool = (0, c) in Some x) ≡ Some d → (p : ℕ) × (slice_get (row ∷ rows) d.0 ≡ Some (Decided p k d.1))
    now c v f =
        let here = deciding_row k row c v in
        (here.0, subst (λ (x : ℕ × Bool). slice_get (row ∷ rows) x.0 ≡ Some (Decided here.0 k x.1)) (some_same f) (ap Some here.1))

    from : (v : Option Bool) → decision_by k row ≡ v → (o : Option (ℕ × Bool)) → decision_in k rows ≡ o → first_decision v o ≡ Some d
        → ((c : ℕ × Bool) → decision_in k rows ≡ Some c → (p : ℕ) × (slice_get rows c.0 ≡ Some (Decided p k c.1))) → (p : ℕ) × (slice_get (row ∷ rows) d.0 ≡ Some (Decided p k d.1))
    from (Some c) v o f e rest = now c v e
    from None v None f e rest = absurd (cc)
    from None v (Some c) f e rest = later c e (rest c f)

-- a certificate of an instance: the row that decides it, and what is known just before
pub record IsCertificate (log : List Event) (k : ℕ) (c : Certificate) : Type 0 where
  pub row : ℕ
  pub decider : ℕ
  pub commit : Bool
  pub decided : slice_get log row ≡ Some (Decided decider k commit)
  pub beginning : Beginning
  pub began : beginning_of (past (take row log)) k ≡ Some beginning
  pub made : certified (past (take row log)) (members (take row log) k) k commit beginning ≡ c

pub certificate_is : (log : List Event) (k : ℕ) (c : Certificate) → certificate_of log k ≡ Some c → IsCertificate log k c
certificate_is log k c e = from (decision_in k log) refl e
  where
    at_beginning : (d : ℕ × Bool) → decision_in k log ≡ Some d → (o : Option Beginning) → beginning_of (past (take d.0 log)) k ≡ o
        → option_map (certified (past (take d.0 log)) (members (take d.0 log) k) k d.1) o ≡ Some c → IsCertificate log k c
    at_beginning d f None b e = absurd (cc)
    at_beginning d f (Some beginning) b e =
        let row = decision_is k log d f in
        record { row = d.0; decider = row.0; commit = d.1; decided = row.1; beginning = beginning; began = b; made = some_same e }

    from : (o : Option (ℕ × Bool)) → decision_in k log ≡ o → certified_by log k o ≡ Some c → IsCertificate log k c
    from None f e = absurd (cc)
    from (Some d) f e = at_beginning d f (beginning_of (past (take d.0 log)) k) refl e
