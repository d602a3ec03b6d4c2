-- What an answer's reason says of a log and its certificates.
use Rattle.std.specs.Prelude.{Bool, true, false, fold, find, cond, not}
use Rattle.std.proofs.Common.{◌≡◌, ℕ, suc, ◌+◌, ◌-◌, ◌<◌, ◌≤◌, Option, Some, None, List, [], ◌∷◌, length, take, refl, sym, ap, ◌∙◌, subst, inl, inr, arith}
use Rattle.std.specs.List.{slice_get}
use Rattle.kt_base.specs.declared.words.Kind.{Kind}
use Rattle.kt_spacetime.specs.declared.event.Event.{Event}
use Rattle.kt_spacetime.specs.declared.event.Event.TheVariants.{Decided}
use Rattle.kt_spacetime.specs.declared.rules.Rule.{Rule}
use Rattle.kt_meaning.specs.Past.{Past, start, past, after, kind_of}
use Rattle.kt_spacetime.specs.Rules.{all_rules}
use Rattle.kt_meaning.specs.Legal.{IsLegal, IsLegalAfter, keeps, broken_rule, or_later, first_broken_after, first_broken}
use Rattle.kt_meaning.specs.Cuts.{IsConsistent}
use Rattle.kt_meaning.specs.Chains.{members}
use Rattle.kt_meaning.proofs.LegalLogs.{legal_unbroken}
use Rattle.kt_meaning.proofs.RowRules.{not_true}
use Rattle.kt_meaning.proofs.Items.{some_same}
use Rattle.kt_spacetime.specs.declared.certificate.Certificate.{Certificate}
use Rattle.kt_spacetime.specs.declared.verdict.Verdict.{Verdict}
use Rattle.kt_spacetime.specs.declared.verdict.Verdict.TheVariants.{Yes, No}
use Rattle.kt_spacetime.specs.declared.verdict.Why.{Why}
use Rattle.kt_spacetime.specs.declared.verdict.Why.TheVariants as why
use Rattle.kt_meaning.specs.Unwilling.{has_unwilling}
use Rattle.kt_meaning.specs.Passing.{HasCertificate, IsAsInLog, IsSecond, decided_cut}
use Rattle.kt_meaning.specs.Answers.{IsCheckerAnswer, IsBadLog, IsFirstWhy}
use Rattle.kt_explain.specs.Told.{IsItsFirst}
use Rattle.std.proofs.lemmas.Bool.{cases_order}
use Rattle.kt_checker.proofs.Sound.{within}

abbrev instance_told : Verdict → Option ℕ
instance_told Yes = None
instance_told (No inst row reason) = inst

abbrev row_told : Verdict → Option ℕ
row_told Yes = None
row_told (No inst row reason) = row

abbrev reason_told : Verdict → Option Why
reason_told Yes = None
reason_told (No inst row reason) = Some reason

pub none_some : {X : Type 0} (x : X) → None ≡ Some x → ⊥
none_some x e = cc

-- the first row that breaks a rule is a row of the log
pub broken_within : (s : Past) (log : List Event) (n : ℕ) (rule : Rule) → first_broken_after s log ≡ Some (n, rule) → (s.rows < n) × (n ≤ s.rows + length log)
broken_within s [] n rule e = absurd (none_some (n, rule) e)
broken_within s (row ∷ rows) n rule e = either (broken_rule s row) refl (broken_within (after s row) rows n rule)
  where
    either : (o : Option Rule) → broken_rule s row ≡ o → (first_broken_after (after s row) rows ≡ Some (n, rule) → (s.rows + 1 < n) × (n ≤ s.rows + 1 + length rows)) → (s.rows < n) × (n ≤ s.rows + length (row ∷ rows))
    either (Some other) is later =
        let found : Some (s.rows + 1, other) ≡ Some (n, rule) = sym (ap (λ (o : Option Rule). or_later o (s.rows + 1) (first_broken_after (after s row) rows)) is) ∙ e in
        let number : s.rows + 1 ≡ n = ap (λ (x : ℕ × Rule). x.0) (some_same found) in
        (omega (arith, number), omega (arith, number))
    either None is later =
        let h = later (sym (ap (λ (o : Option Rule). or_later o (s.rows + 1) (first_broken_after (after s row) rows)) is) ∙ e) in
        (omega (arith, h.0), omega (arith, h.1))

-- the first row that breaks a rule: the rows before it are legal, and it does not keep the rule
pub record BrokenRow (s : Past) (log : List Event) (n : ℕ) (rule : Rule) : Type 0 where
  pub place : ℕ
  pub number_is : n ≡ s.rows + (place + 1)
  pub row : Event
  pub there : slice_get log place ≡ Some row
  pub legal : IsLegalAfter s (take place log)
  pub broken : broken_rule (fold after s (take place log)) row ≡ Some rule

pub broken_row : (s : Past) (log : List Event) (n : ℕ) (rule : Rule) → first_broken_after s log ≡ Some (n, rule) → BrokenRow s log n rule
broken_row s [] n rule e = absurd (none_some (n, rule) e)
broken_row s (row ∷ rows) n rule e = either (broken_rule s row) refl (broken_row (after s row) rows n rule)
  where
    either : (o : Option Rule) → broken_rule s row ≡ o → (first_broken_after (after s row) rows ≡ Some (n, rule) → BrokenRow (after s row) rows n rule) → BrokenRow s (row ∷ rows) n rule
    either (Some other) is later =
        let found : Some (s.rows + 1, other) ≡ Some (n, rule) = sym (ap (λ (o : Option Rule). or_later o (s.rows + 1) (first_broken_after (after s row) rows)) is) ∙ e in
        let number : s.rows + 1 ≡ n = ap (λ (x : ℕ × Rule). x.0) (some_same found) in
        let same : other ≡ rule = ap (λ (x : ℕ × Rule). x.1) (some_same found) in
        record { place = 0; number_is = omega (arith, number); row = row; there = refl; legal = tt; broken = is ∙ ap (λ (r : Rule). Some r) same }
    either None is later =
        let h = later (sym (ap (λ (o : Option Rule). or_later o (s.rows + 1) (first_broken_after (after s row) rows)) is) ∙ e) in
        record { place = suc h.place; number_is = omega (arith, h.number_is); row = h.row; there = h.there; legal = (is, h.legal); broken = h.broken }

-- a rule that a row breaks is not kept
found_passes : {X : Type 0} (test : X → Bool) (xs : List X) (x : X) → find test xs ≡ Some x → test x ≡ true
found_passes test [] x e = absurd (none_some x e)
found_passes test (y ∷ ys) x e = at (test y) refl e (found_passes test ys x)
  where
    at : (b : Bool) → test y ≡ b → cond b (Some y) (find test ys) ≡ Some x → (find test ys ≡ Some x → test x ≡ true) → test x ≡ true
    at true is e later = subst (λ (z : _). test z ≡ true) (some_same e) is
    at false is e later = later e

pub not_kept : (s : Past) (row : Event) (rule : Rule) → broken_rule s row ≡ Some rule → keeps rule s row ≡ false
not_kept s row rule e = not_true (keeps rule s row) (found_passes (λ r. not (keeps r s row)) all_rules rule e)

-- the rows before the first one that breaks a rule are legal, and it does not keep the rule
pub legal_before : (rows : List Event) (n m : ℕ) (rule : Rule) → first_broken rows ≡ Some (n, rule) → m ≡ n - 1 → IsLegal (take m rows) × (n ≡ m + 1)
legal_before rows n m rule e at =
    let h = broken_row start rows n rule e in
    let number : n ≡ 0 + (h.place + 1) = h.number_is in
    let same : h.place ≡ m = omega (arith, number, at) in
    (subst (λ (k : ℕ). IsLegal (take k rows)) same h.legal, omega (arith, number, same))

pub breaks_there : (rows : List Event) (n m : ℕ) (rule : Rule) (row : Event) → first_broken rows ≡ Some (n, rule) → m ≡ n - 1 → slice_get rows m ≡ Some row → keeps rule (past (take m rows)) row ≡ false
breaks_there rows n m rule row e at there =
    let h = broken_row start rows n rule e in
    let number : n ≡ 0 + (h.place + 1) = h.number_is in
    let same : h.place ≡ m = omega (arith, number, at) in
    let row_same : h.row ≡ row = some_same (sym h.there ∙ (ap (slice_get rows) same ∙ there)) in
    sym (λ i. keeps rule (past (take (same i) rows)) (row_same i)) ∙ not_kept (past (take h.place rows)) h.row rule h.broken

-- what a no without an instance says of the log
pub record LogFault (rows : List Event) (row : Option ℕ) (reason : Why) : Type 0 where
  pub number : ℕ
  pub rule : Rule
  pub row_is : row ≡ Some number
  pub reason_is : reason ≡ why.BadLog rule
  pub positive : 0 < number
  pub within : number ≤ length rows

pub log_fault : (rows : List Event) (row : Option ℕ) (reason : Why) → IsBadLog rows (No None row reason) → LogFault rows row reason
log_fault rows row reason bad =
    let h = broken_within start rows bad.0 bad.1 bad.3 in
    record {
      number = bad.0;
      rule = bad.1;
      row_is = ap row_told bad.2;
      reason_is = some_same (ap reason_told bad.2);
      positive = h.0;
      within = omega (arith, h.1);
    }

pub first_of_no : (rows : List Event) (row : ℕ) (rule : Rule) → IsBadLog rows (No None (Some row) (why.BadLog rule)) → first_broken rows ≡ Some (row, rule)
first_of_no rows row rule bad =
    let number : row ≡ bad.0 = some_same (ap row_told bad.2) in
    let same : rule ≡ bad.1 = rule_same (some_same (ap reason_told bad.2)) in
    bad.3 ∙ (λ i. Some (sym number i, sym same i))
  where
    rule_same : {a b : Rule} → why.BadLog a ≡ why.BadLog b → a ≡ b
    rule_same e = cc

-- a no without an instance is one to the log
pub bad_without_instance : (rows : List Event) (certificates : List Certificate) (row : Option ℕ) (reason : Why) → IsCheckerAnswer rows certificates (No None row reason) → IsBadLog rows (No None row reason)
bad_without_instance rows certificates row reason a = elim a [
  | inl passed ↦ absurd (none_some reason (sym (ap reason_told passed.0)))
  | inr fault ↦ elim fault [
    | inl bad ↦ bad
    | inr legal ↦ elim legal.1 [
      | inl refused ↦ elim refused.4 [
        | inl unknown ↦ absurd (none_some refused.1.inst (ap instance_told unknown.0))
        | inr wrong ↦ absurd (none_some refused.1.inst (ap instance_told wrong.2))
      ]
      | inr missing ↦ absurd (none_some missing.3 (ap instance_told missing.5))
    ]
  ]
]

-- what a no to the first certificate of a decided instance says of this
pub record CertificateFault (rows : List Event) (certificates : List Certificate) (k : ℕ) (row : Option ℕ) (reason : Why) : Type 0 where
  pub legal : IsLegal rows
  pub place : ℕ
  pub row_is : row ≡ Some (place + 1)
  pub certificate : Certificate
  pub first : IsItsFirst certificates k certificate
  pub of_instance : k ≡ certificate.inst
  pub in_log : IsAsInLog rows certificate place
  pub wrong : IsFirstWhy (past (take place rows)) (members rows certificate.inst) (has_unwilling rows certificate.inst) certificate reason

pub certificate_fault : (rows : List Event) (certificates : List Certificate) (k : ℕ) (row : Option ℕ) (reason : Why) → (reason ≡ why.Unknown → ⊥) → (reason ≡ why.Missing → ⊥) → IsCheckerAnswer rows certificates (No (Some k) row reason) → CertificateFault rows certificates k row reason
certificate_fault rows certificates k row reason known certified a = elim a [
  | inl passed ↦ absurd (none_some reason (sym (ap reason_told passed.0)))
  | inr fault ↦ elim fault [
    | inl bad ↦ absurd (none_some k (sym (ap instance_told bad.2)))
    | inr legal ↦ elim legal.1 [
      | inl refused ↦ elim refused.4 [
        | inl unknown ↦ absurd (known (some_same (ap reason_told unknown.0)))
        | inr wrong ↦
            let inst : k ≡ refused.1.inst = some_same (ap instance_told wrong.2) in
            record {
              legal = legal.0;
              place = wrong.0;
              row_is = ap row_told wrong.2;
              certificate = refused.1;
              first = (refused.0, refused.2, sym inst, wrong.4);
              of_instance = inst;
              in_log = wrong.3;
              wrong = subst (IsFirstWhy (past (take wrong.0 rows)) (members rows refused.1.inst) (has_unwilling rows refused.1.inst) refused.1) (sym (some_same (ap reason_told wrong.2))) wrong.5;
            }
      ]
      | inr missing ↦ absurd (certified (some_same (ap reason_told missing.5)))
    ]
  ]
]

-- no answer to an instance is that the log is not legal
pub log_not_instance : (rows : List Event) (certificates : List Certificate) (k : ℕ) (row : Option ℕ) (rule : Rule) → IsCheckerAnswer rows certificates (No (Some k) row (why.BadLog rule)) → ⊥
log_not_instance rows certificates k row rule a = (certificate_fault rows certificates k row (why.BadLog rule) (λ e. cc) (λ e. cc) a).wrong

-- an instance has one first certificate
pub one_first : (certificates : List Certificate) (k : ℕ) (a b : Certificate) → IsItsFirst certificates k a → IsItsFirst certificates k b → a ≡ b
one_first certificates k a b g h = elim (cases_order g.0 h.0) [
  | inl same ↦ some_same (sym g.1 ∙ (ap (slice_get certificates) same ∙ h.1))
  | inr other ↦ elim other [
    | inl low ↦ absurd (h.3 (g.0, a, low, g.1, g.2 ∙ sym h.2))
    | inr low ↦ absurd (g.3 (h.0, b, low, h.1, h.2 ∙ sym g.2))
  ]
]

-- what is known just before the decision of an instance of which the first certificate is answered by an orphan
pub record Before (rows : List Event) (c : Certificate) (k r : ℕ) : Type 0 where
  pub legal : IsLegal rows
  pub place : ℕ
  pub row_is : r ≡ place + 1
  pub upto : place ≤ length rows
  pub kind : kind_of (past (take place rows)) k ≡ Some c.kind

pub before : (rows : List Event) (certificates : List Certificate) (k r : ℕ) (c : Certificate) → IsCheckerAnswer rows certificates (No (Some k) (Some r) why.Orphan) → IsItsFirst certificates k c → Before rows c k r
before rows certificates k r c answer first =
    let h = certificate_fault rows certificates k (Some r) why.Orphan (λ e. cc) (λ e. cc) answer in
    let same : h.certificate ≡ c = one_first certificates k h.certificate c h.first first in
    record {
      legal = h.legal;
      place = h.place;
      row_is = some_same h.row_is;
      upto = within rows h.place _ h.in_log.decided;
      kind = ap (kind_of (past (take h.place rows))) h.of_instance ∙ (h.in_log.kind ∙ ap (λ (x : Certificate). Some x.kind) same);
    }

-- that there is an orphan comes with a row
pub orphan_row : (rows : List Event) (certificates : List Certificate) (k : ℕ) → IsCheckerAnswer rows certificates (No (Some k) None why.Orphan) → ⊥
orphan_row rows certificates k a =
    let h = certificate_fault rows certificates k None why.Orphan (λ e. cc) (λ e. cc) a in
    none_some (h.place + 1) h.row_is

-- the first certificate of an instance that is answered by an orphan, and the cut that is not consistent
pub record OrphanFault (rows : List Event) (certificates : List Certificate) (k r : ℕ) : Type 0 where
  pub place : ℕ
  pub row_is : r ≡ place + 1
  pub certificate : Certificate
  pub first : IsItsFirst certificates k certificate
  pub orphaned : IsConsistent (past (take place rows)) (decided_cut (past (take place rows)) k certificate.kind) → ⊥

pub orphan_fault : (rows : List Event) (certificates : List Certificate) (k r : ℕ) → IsCheckerAnswer rows certificates (No (Some k) (Some r) why.Orphan) → OrphanFault rows certificates k r
orphan_fault rows certificates k r a =
    let h = certificate_fault rows certificates k (Some r) why.Orphan (λ e. cc) (λ e. cc) a in
    record {
      place = h.place;
      row_is = some_same h.row_is;
      certificate = h.certificate;
      first = h.first;
      orphaned = λ consistent. h.wrong.4 (subst (λ (j : ℕ). IsConsistent (past (take h.place rows)) (decided_cut (past (take h.place rows)) j h.certificate.kind)) h.of_instance consistent);
    }

-- the first certificate of an instance that is answered by an orphan has not a kind of which the cut is consistent
pub not_consistent : (rows : List Event) (certificates : List Certificate) (k r n : ℕ) (kind : Kind) → IsCheckerAnswer rows certificates (No (Some k) (Some r) why.Orphan) → r ≡ n + 1 → (c : Certificate) × IsItsFirst certificates k c × (c.kind ≡ kind) → IsConsistent (past (take n rows)) (decided_cut (past (take n rows)) k kind) → ⊥
not_consistent rows certificates k r n kind a number first consistent =
    let h = orphan_fault rows certificates k r a in
    let same : n ≡ h.place = omega (arith, number, h.row_is) in
    let of_kind : kind ≡ h.certificate.kind = sym first.2 ∙ ap (λ (c : Certificate). c.kind) (one_first certificates k first.0 h.certificate first.1 h.first) in
    h.orphaned (subst (λ (x : Kind). IsConsistent (past (take h.place rows)) (decided_cut (past (take h.place rows)) k x)) of_kind
    (subst (λ (m : ℕ). IsConsistent (past (take m rows)) (decided_cut (past (take m rows)) k kind)) same consistent))

-- the certificate that is unknown
pub unknown_fault : (rows : List Event) (certificates : List Certificate) (k : ℕ) (row : Option ℕ) → IsCheckerAnswer rows certificates (No (Some k) row why.Unknown)
    → IsLegal rows × (i : ℕ) × (c : Certificate) × (slice_get certificates i ≡ Some c) × (c.inst ≡ k) × ((n : ℕ) → IsAsInLog rows c n → (IsSecond certificates i c → ⊥) → ⊥)
unknown_fault rows certificates k row a = elim a [
  | inl passed ↦ absurd (none_some why.Unknown (sym (ap reason_told passed.0)))
  | inr fault ↦ elim fault [
    | inl bad ↦ absurd (none_some k (sym (ap instance_told bad.2)))
    | inr legal ↦ elim legal.1 [
      | inl refused ↦ elim refused.4 [
        | inl unknown ↦ (legal.0, refused.0, refused.1, refused.2, sym (some_same (ap instance_told unknown.0)), unknown.1)
        | inr wrong ↦ absurd (subst (IsFirstWhy (past (take wrong.0 rows)) (members rows refused.1.inst) (has_unwilling rows refused.1.inst) refused.1) (sym (some_same (ap reason_told wrong.2))) wrong.5)
      ]
      | inr missing ↦
          let e : why.Unknown ≡ why.Missing = some_same (ap reason_told missing.5) in
          absurd (cc)
    ]
  ]
]

-- the row that decides an instance of which a certificate is missing
pub missing_fault : (rows : List Event) (certificates : List Certificate) (k : ℕ) (row : Option ℕ) → IsCheckerAnswer rows certificates (No (Some k) row why.Missing)
    → IsLegal rows × (n : ℕ) × (p : ℕ) × (commit : Bool) × (slice_get rows n ≡ Some (Decided p k commit)) × (HasCertificate certificates k → ⊥)
missing_fault rows certificates k row a = elim a [
  | inl passed ↦ absurd (none_some why.Missing (sym (ap reason_told passed.0)))
  | inr fault ↦ elim fault [
    | inl bad ↦ absurd (none_some k (sym (ap instance_told bad.2)))
    | inr legal ↦ elim legal.1 [
      | inl refused ↦ elim refused.4 [
        | inl unknown ↦
            let e : why.Missing ≡ why.Unknown = some_same (ap reason_told unknown.0) in
            absurd (cc)
        | inr wrong ↦ absurd (subst (IsFirstWhy (past (take wrong.0 rows)) (members rows refused.1.inst) (has_unwilling rows refused.1.inst) refused.1) (sym (some_same (ap reason_told wrong.2))) wrong.5)
      ]
      | inr missing ↦
          let inst : missing.3 ≡ k = sym (some_same (ap instance_told missing.5)) in
          (legal.0, missing.1, missing.2, missing.4, missing.6 ∙ ap (λ (j : ℕ). Some (Decided missing.2 j missing.4)) inst, subst (λ (j : ℕ). HasCertificate certificates j → ⊥) inst missing.7)
    ]
  ]
]

-- a no to a certificate, or for the want of one, is of a legal log
pub certificate_legal : (rows : List Event) (certificates : List Certificate) (k : ℕ) (row : Option ℕ) (reason : Why) → IsCheckerAnswer rows certificates (No (Some k) row reason) → IsLegal rows
certificate_legal rows certificates k row reason a = elim a [
  | inl passed ↦ absurd (none_some reason (sym (ap reason_told passed.0)))
  | inr fault ↦ elim fault [
    | inl bad ↦ absurd (none_some k (sym (ap instance_told bad.2)))
    | inr legal ↦ legal.0
  ]
]

-- of a legal log no row breaks a rule
pub not_broken : (rows : List Event) (n : ℕ) (rule : Rule) → IsLegal rows → first_broken rows ≡ Some (n, rule) → ⊥
not_broken rows n rule legal broken = none_some (n, rule) (sym (legal_unbroken start rows legal) ∙ broken)
