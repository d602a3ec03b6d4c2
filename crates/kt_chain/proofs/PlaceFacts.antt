-- What the records of certificates say once one more record is taken.
use Rattle.std.proofs.Common.{◌≡◌, ◌≢◌, ◌∙◌, ℕ, List, [], ◌∷◌, ◌++◌, map, sym, ap, append_assoc, arith}
use Rattle.std.specs.Prelude.{All}
use Rattle.std.proofs.lemmas.List.{map-append, append-nil}
use Rattle.std.proofs.lemmas.List.Elements.{All-push, All-cons, All-tail, All-head, All-nil}
use Rattle.std.proofs.lemmas.List.Concat.{flat_map-append}
use Rattle.kt_spacetime.specs.declared.certificate.Certificate.{Certificate}
use Rattle.kt_chain.specs.Spelling.{Member, instance_record, member_record, certificate_records, records_of, IsMemberInRange, IsCertificateWithin}
use Rattle.kt_chain.specs.Texts.{IsOtherInstance}
use Rattle.kt_chain.specs.Reading.{CertificateTaken}
use Rattle.kt_base.specs.Numbers.{IsInstNo}
use Rattle.std.specs.Fmt.{decimal}
use Rattle.std.proofs.lemmas.Fmt.{decimal_injective}

-- a certificate with one more member
abbrev pub joined_by : Certificate → Member → Certificate
joined_by c member = record { inst = c.inst; kind = c.kind; initiator = c.initiator; commit = c.commit; members = c.members ++ member ∷ [] }

-- the records with one more certificate
records_more : (before : List Certificate) (c : Certificate) → records_of (before ++ c ∷ []) ≡ records_of before ++ certificate_records c
records_more before c = flat_map-append certificate_records before (c ∷ []) ∙ ap (λ (x : List (List (List ℕ))). records_of before ++ x) (append-nil (certificate_records c))

-- the records of a certificate with one more member
one_more : (c : Certificate) (member : Member) → certificate_records (joined_by c member) ≡ certificate_records c ++ member_record c.inst member ∷ []
one_more c member = ap (λ (x : List (List (List ℕ))). instance_record c ∷ x) (map-append (member_record c.inst) c.members (member ∷ []))

-- the last of some certificates is in range where all are
last_in_range : (before : List Certificate) (c : Certificate) → All IsCertificateWithin (before ++ c ∷ []) → IsCertificateWithin c
last_in_range [] c all = All-head IsCertificateWithin c [] all
last_in_range (x ∷ before) c all = last_in_range before c (All-tail IsCertificateWithin x (before ++ c ∷ []) all)

others_in_range : (before : List Certificate) (c : Certificate) → All IsCertificateWithin (before ++ c ∷ []) → All IsCertificateWithin before
others_in_range [] c all = All-nil IsCertificateWithin
others_in_range (x ∷ before) c all =
    All-cons IsCertificateWithin x before (All-head IsCertificateWithin x (before ++ c ∷ []) all) (others_in_range before c (All-tail IsCertificateWithin x (before ++ c ∷ []) all))

-- a member is added to the last certificate
pub takes_member : (before : List Certificate) (c : Certificate) (member : Member) → IsMemberInRange member → CertificateTaken (before ++ c ∷ []) (before ++ joined_by c member ∷ []) (member_record c.inst member)
takes_member before c member is = record {
  spelled = records_more before (joined_by c member) ∙ ap (λ (x : List (List (List ℕ))). records_of before ++ x) (one_more c member)
      ∙ sym (append_assoc (records_of before) (certificate_records c) (member_record c.inst member ∷ []))
      ∙ ap (λ (x : List (List (List ℕ))). x ++ member_record c.inst member ∷ []) (sym (records_more before c));
  in_range = λ all.
      let last = last_in_range before c all in
      All-push IsCertificateWithin before (joined_by c member) (others_in_range before c all) (record { inst = last.inst; initiator = last.initiator; members = All-push IsMemberInRange c.members member last.members is });
}

-- a certificate with no member is added
pub takes_instance : (before : List Certificate) (c : Certificate) → c.members ≡ [] → IsCertificateWithin c → CertificateTaken before (before ++ c ∷ []) (instance_record c)
takes_instance before c none is = record {
  spelled = records_more before c ∙ ap (λ (x : List Member). records_of before ++ (instance_record c ∷ map (member_record c.inst) x)) none;
  in_range = λ all. All-push IsCertificateWithin before c all is;
}

pub takes_placed : (old new before : List Certificate) (last joined : Certificate) (inst : ℕ) (member : Member) → old ≡ before ++ last ∷ [] → new ≡ before ++ joined ∷ [] → joined ≡ joined_by last member
    → last.inst ≡ inst → IsMemberInRange member → CertificateTaken old new (member_record inst member)
takes_placed old new before last joined inst member was now by same is =
    rw (was, now, by, ← same) (takes_member before last member is)

-- the last certificate is of another instance
pub is_other : (all before : List Certificate) (last : Certificate) (inst : ℕ) → IsInstNo last.inst → IsInstNo inst → all ≡ before ++ last ∷ [] → last.inst ≢ inst → IsOtherInstance all (decimal inst)
is_other all before last inst p q e other = (before, last, e, λ same. other (decimal_injective last.inst inst (omega (arith, p.1)) (omega (arith, q.1)) (sym same)))
