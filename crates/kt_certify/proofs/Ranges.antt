-- The certificates of a legal log in range are in range, and few enough for a text: so their text says them.
use Rattle.std.proofs.Common.{◌≡◌, ℕ, suc, ◌*◌, ◌^◌, ◌<◌, ◌≤◌, if◌then◌else◌, Bool, true, false, Some, List, [], ◌∷◌, length, length-append, length-take, map, take, refl, sym, ap, subst, ◌∙◌, arith, inl, inr}
use Rattle.std.specs.Prelude.{slice_index_or}
use Rattle.std.specs.List.{slice_get, All}
use Rattle.std.proofs.lemmas.List.{length-map}
use Rattle.std.proofs.lemmas.List.Elements.{All-take}
use Rattle.std.proofs.lemmas.Bool.{cases_lt}
use Rattle.std.proofs.lemmas.Option.{slice_get_within, get_or_from_slice_get, slice_get-get_or}
use Rattle.kt_base.specs.declared.words.Kind.{Kind}
use Rattle.kt_spacetime.specs.Events as events
use Rattle.kt_spacetime.specs.declared.event.Event.{Event}
use Rattle.kt_spacetime.specs.declared.event.Event.TheVariants.{Decided}
use Rattle.kt_meaning.specs.Past.{past}
use Rattle.kt_meaning.specs.Legal.{IsLegal}
use Rattle.kt_meaning.specs.Chains.{members}
use Rattle.kt_meaning.proofs.LegalLogs.{rows_length, legal_take, next_unbroken}
use Rattle.kt_meaning.proofs.RowRules.{may_decide}
use Rattle.kt_meaning.proofs.Items.{some_same}
use Rattle.kt_walk.proofs.ItemPlaces.{get_mapped, mapped_get}
use Rattle.kt_spacetime.specs.declared.certificate.Certificate.{Certificate}
use Rattle.kt_chain.specs.Spelling.{IsCertificateWithin, IsMemberInRange, certificate_records, member_record, records_of}
use Rattle.kt_chain.specs.Texts.{IsCertText}
use Rattle.kt_meaning.specs.Linking.{chained}
use Rattle.kt_meaning.specs.Certificates.{certificate_of, certificates}
use Rattle.kt_meaning.proofs.Chained.{process, processes_are}
use Rattle.kt_meaning.proofs.Certified.{rising}
use Rattle.kt_meaning.proofs.Decisions.{certificate_is}
use Rattle.kt_meaning.proofs.FewMembers.{few, member_low, few_members}
use Rattle.kt_meaning.proofs.Listed.{item_is}
use Rattle.kt_certify.proofs.Numbered.{numbered}
use Rattle.kt_meaning.proofs.Short.{short}
use Rattle.kt_meaning.proofs.Unlinked.{initiator_known}

-- a row of a log in range
row_in_range : (log : List Event) (n : ℕ) (row : Event) → All events.IsRowInRange log → slice_get log n ≡ Some row → events.IsRowInRange row
row_in_range log n row all e = subst events.IsRowInRange (get_or_from_slice_get log n row row e) (all n row (slice_get_within log n row e))

-- the members of an instance, each with its chain
module _ (log : List Event) (k n : ℕ) (kind : Kind) (initiator : ℕ) (legal : IsLegal log) (all : All events.IsRowInRange log) (size : length log ≤ 2 ^ 24) where
  members_many : length (chained (past (take n log)) k kind initiator (members (take n log) k)) ≤ 64
  members_many =
      let count = few_members (take n log) k (legal_take n log legal) (All-take events.IsRowInRange n log all) in
      let same = ap length (processes_are (past (take n log)) k kind initiator (members (take n log) k)) in
      omega (arith, count, same, length-map (chained (past (take n log)) k kind initiator (members (take n log) k)) process)

  member_in_range : (j : ℕ) (m : ℕ × List ℕ) → slice_get (chained (past (take n log)) k kind initiator (members (take n log) k)) j ≡ Some m → IsMemberInRange m
  member_in_range j m at =
      let done : List (ℕ × List ℕ) = chained (past (take n log)) k kind initiator (members (take n log) k) in
      let listed : slice_get (members (take n log) k) j ≡ Some m.0 =
      sym (ap (λ (l : List ℕ). slice_get l j) (processes_are (past (take n log)) k kind initiator (members (take n log) k))) ∙ mapped_get process done j m at in
      record {
        process = member_low (take n log) k j m.0 (All-take events.IsRowInRange n log all) listed;
        messages = λ x y within.
            let h = ((numbered (take n log) k kind initiator (members (take n log) k)).each j m.0 m.1 at).each x (slice_index_or m.1 x y) (slice_get-get_or m.1 x y within) in
            (h.0, omega (arith, h.1, rows_length (take n log), length-take n log, size));
        few = omega (arith, (short (past (take n log)) k kind initiator (members (take n log) k)).each j m.0 m.1 at, slice_get_within done j m at, members_many);
      }

  members_in_range : (commit : Bool) → All IsMemberInRange (if commit then chained (past (take n log)) k kind initiator (members (take n log) k) else [])
  members_in_range true j d low = member_in_range j (slice_index_or (chained (past (take n log)) k kind initiator (members (take n log) k)) j d) (slice_get-get_or (chained (past (take n log)) k kind initiator (members (take n log) k)) j d low)
  members_in_range false j d low = absurd (omega (arith, low))

  members_few : (commit : Bool) → length (if commit then chained (past (take n log)) k kind initiator (members (take n log) k) else []) ≤ 64
  members_few true = members_many
  members_few false = omega arith

-- a certificate
of_instance : (log : List Event) (k : ℕ) (c : Certificate) → IsLegal log → All events.IsRowInRange log → length log ≤ 2 ^ 24 → certificate_of log k ≡ Some c → IsCertificateWithin c
of_instance log k c l all size e =
    let is = certificate_is log k c e in
    let row = row_in_range log is.row (Decided is.decider k is.commit) all is.decided in
    let may = may_decide (past (take is.row log)) is.decider k is.commit (next_unbroken log is.row (Decided is.decider k is.commit) l is.decided) in
    let first : is.decider ≡ is.beginning.initiator = some_same (sym may.is_initiator ∙ initiator_known (past (take is.row log)) k is.beginning is.began) in
    subst IsCertificateWithin is.made (record {
      inst = row.1;
      initiator = omega (arith, row.0, first);
      members = members_in_range log k is.row is.beginning.kind is.beginning.initiator l all size is.commit;
    })

many_of_instance : (log : List Event) (k : ℕ) (c : Certificate) → IsLegal log → All events.IsRowInRange log → length log ≤ 2 ^ 24 → certificate_of log k ≡ Some c → length c.members ≤ 64
many_of_instance log k c l all size e =
    let is = certificate_is log k c e in
    subst (λ (x : Certificate). length x.members ≤ 64) is.made (members_few log k is.row is.beginning.kind is.beginning.initiator l all size is.commit)

-- all certificates
pub all_in_range : (log : List Event) → IsLegal log → All events.IsRowInRange log → length log ≤ 2 ^ 24 → All IsCertificateWithin (certificates log)
all_in_range log l all size i d low =
    let at = slice_get-get_or (certificates log) i d low in
    let number = item_is (certificate_of log) (length (past log).begun) i (slice_index_or (certificates log) i d) at in
    of_instance log number.0 (slice_index_or (certificates log) i d) l all size number.3

once : (log : List Event) (i j x : ℕ) → slice_get (map (λ (c : Certificate). c.inst) (certificates log)) i ≡ Some x → slice_get (map (λ (c : Certificate). c.inst) (certificates log)) j ≡ Some x → i ≡ j
once log i j x e f =
    let c = get_mapped (λ (c : Certificate). c.inst) (certificates log) i x e in
    let d = get_mapped (λ (c : Certificate). c.inst) (certificates log) j x f in
    elim (cases_lt i j) [
      | inl low ↦ absurd (omega (arith, rising log i j c.0 d.0 low c.1 d.1, c.2, d.2))
      | inr high ↦ elim (cases_lt j i) [
        | inl low ↦ absurd (omega (arith, rising log j i d.0 c.0 low d.1 c.1, c.2, d.2))
        | inr more ↦ omega (arith, high, more)
      ]
    ]

few_certificates : (log : List Event) → All IsCertificateWithin (certificates log) → length (certificates log) ≤ 4097
few_certificates log all =
    let count = few (map (λ (c : Certificate). c.inst) (certificates log)) 4097 (once log) (λ i x e. low i x (get_mapped (λ (c : Certificate). c.inst) (certificates log) i x e)) in
    omega (arith, count, length-map (certificates log) (λ (c : Certificate). c.inst))
  where
    low : (i x : ℕ) → (c : Certificate) × (slice_get (certificates log) i ≡ Some c) × (x ≡ c.inst) → x < 4097
    low i x h =
        let c : IsCertificateWithin h.0 = subst IsCertificateWithin (get_or_from_slice_get (certificates log) i h.0 h.0 h.1) (all i h.0 (slice_get_within (certificates log) i h.0 h.1)) in
        omega (arith, h.2, c.inst.1)

-- how many records they have
counted : (cs : List Certificate) → ((i : ℕ) (c : Certificate) → slice_get cs i ≡ Some c → length c.members ≤ 64) → length (records_of cs) ≤ 65 * length cs
counted [] each = omega arith
counted (c ∷ cs) each =
    let here = each 0 c refl in
    let rest = counted cs (λ i d e. each (suc i) d e) in
    let own = length-map c.members (member_record c.inst) in
    omega (arith, here, rest, own, length-append (certificate_records c) (records_of cs))

pub text_says : (log : List Event) → IsLegal log → All events.IsRowInRange log → length log ≤ 2 ^ 24 → IsCertText (records_of (certificates log)) (certificates log)
text_says log l all size =
    let range = all_in_range log l all size in
    record {
      spelled = refl;
      in_range = range;
      few = omega (arith, counted (certificates log) (λ i c e. many_of_instance log (number i c e).0 c l all size (number i c e).3), few_certificates log range);
    }
  where
    number : (i : ℕ) (c : Certificate) → slice_get (certificates log) i ≡ Some c → (k : ℕ) × (1 ≤ k) × (k ≤ length (past log).begun) × (certificate_of log k ≡ Some c)
    number i c e = item_is (certificate_of log) (length (past log).begun) i c e
