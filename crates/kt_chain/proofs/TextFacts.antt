-- A text says one list of certificates, or has a first fault.
use Rattle.std.proofs.Common.{◌≡◌, ◌≢◌, ◌∙◌, ℕ, List, [], ◌∷◌, ◌++◌, length, map, refl, sym, ap, subst, arith, inl, inr, append_assoc, length-append}
use Rattle.std.specs.Prelude.{All, ◌⊎◌}
use Rattle.std.specs.Fmt.{decimal}
use Rattle.std.proofs.lemmas.List.Elements.{All-head, All-tail}
use Rattle.kt_text.proofs.FieldFacts.{Records, first_and_rest, field_1, field_2, field_3, field_4}
use Rattle.kt_spacetime.specs.declared.certificate.Certificate.{Certificate}
use Rattle.kt_chain.specs.declared.fault.CertTextFault.{CertTextFault}
use Rattle.kt_chain.specs.declared.fault.CertTextFault.TheVariants.{Read, TooLong, Fields, Word, Number, Place, Memory}
use Rattle.kt_chain.specs.declared.records.RecordFault.{RecordFault}
use Rattle.kt_chain.specs.declared.records.RecordFault.TheVariants as fault
use Rattle.kt_chain.specs.Spelling.{Member, instance_record, member_record, records_of, IsMemberInRange, IsCertificateWithin}
use Rattle.kt_chain.specs.Texts.{Slot, FitsCertificateSlot, IsFirstCertificateMisfit, IsCertificateFieldFault, IsRecordFault, IsWrongAt, IsCertificateFaultAfter, IsCertText, IsFirstCertificateFault, IsOfCertificates, record_count, max_records, fault_at}
use Rattle.kt_chain.specs.Texts as slot
use Rattle.kt_chain.proofs.SpellingFacts.{field_5, two_words, no_instance, one_inst, no_member, one_chain, one_list}

-- a record is that of one more certificate
abbrev pub SaysInstance : List (List ℕ) → Type 0
SaysInstance fields = (c : Certificate) × IsCertificateWithin c × (fields ≡ instance_record c)

-- a record is that of one more member of the last certificate
abbrev pub SaysMember : List Certificate → List (List ℕ) → Type 0
SaysMember before fields =
    (others : List Certificate) × (last : Certificate) × (member : Member) × (before ≡ others ++ last ∷ []) × IsMemberInRange member × (fields ≡ member_record last.inst member)

-- a record is right after some certificates
abbrev pub IsRight : List Certificate → List (List ℕ) → Type 0
IsRight before fields = SaysInstance fields ⊎ SaysMember before fields

-- the same with a certificate before them
right_later : (c : Certificate) (before : List Certificate) (fields : List (List ℕ)) → IsRight before fields → IsRight (c ∷ before) fields
right_later c before fields (inl h) = inl h
right_later c before fields (inr h) = inr (c ∷ h.0, h.1, h.2, ap (λ (x : List Certificate). c ∷ x) h.3, h.4, h.5)

-- after some members the records of a list go on with a right one
right_member : (b : Certificate) (ms ns : List Member) (bs cs : List Certificate) (fields : List (List ℕ)) (rest : Records) → All IsMemberInRange ns → (records_of bs ++ (fields ∷ rest) ≡ records_of cs → IsRight bs fields)
    → map (member_record b.inst) ms ++ (records_of bs ++ (fields ∷ rest)) ≡ map (member_record b.inst) ns ++ records_of cs → IsRight (b ∷ bs) fields
right_member b [] [] bs cs fields rest s again e = right_later b bs fields (again e)
right_member b [] (n ∷ ns) [] cs fields rest s again e =
    inr ([], b, n, refl, All-head IsMemberInRange n ns s, (first_and_rest fields (member_record b.inst n) rest (map (member_record b.inst) ns ++ records_of cs) e).0)
right_member b [] (n ∷ ns) (x ∷ bs) cs fields rest s again e =
    absurd (no_instance x b.inst n (first_and_rest (instance_record x) (member_record b.inst n) ((map (member_record x.inst) x.members ++ records_of bs) ++ (fields ∷ rest)) (map (member_record b.inst) ns ++ records_of cs) e).0)
right_member b (m ∷ ms) [] bs cs fields rest s again e = absurd (no_member cs b.inst m (map (member_record b.inst) ms ++ (records_of bs ++ (fields ∷ rest))) (sym e))
right_member b (m ∷ ms) (n ∷ ns) bs cs fields rest s again e =
    right_member b ms ns bs cs fields rest (All-tail IsMemberInRange n ns s) again
    (first_and_rest (member_record b.inst m) (member_record b.inst n) (map (member_record b.inst) ms ++ (records_of bs ++ (fields ∷ rest))) (map (member_record b.inst) ns ++ records_of cs) e).1

-- where the records of a list begin with those of another, the next one is right
pub right_next : (before certificates : List Certificate) (fields : List (List ℕ)) (rest : Records) → All IsCertificateWithin before → All IsCertificateWithin certificates
    → records_of before ++ (fields ∷ rest) ≡ records_of certificates → IsRight before fields
right_next [] [] fields rest r s e = cc e
right_next [] (c ∷ cs) fields rest r s e = inl (c, All-head IsCertificateWithin c cs s, (first_and_rest fields (instance_record c) rest (map (member_record c.inst) c.members ++ records_of cs) e).0)
right_next (b ∷ bs) [] fields rest r s e = cc e
right_next (b ∷ bs) (c ∷ cs) fields rest r s e =
    let p = All-head IsCertificateWithin b bs r in
    let q = All-head IsCertificateWithin c cs s in
    let split = first_and_rest (instance_record b) (instance_record c) ((map (member_record b.inst) b.members ++ records_of bs) ++ (fields ∷ rest)) (map (member_record c.inst) c.members ++ records_of cs) e in
    let inst = one_inst b c p q split.0 in
    let at_inst = subst (λ (k : ℕ). (map (member_record b.inst) b.members ++ records_of bs) ++ (fields ∷ rest) ≡ map (member_record k) c.members ++ records_of cs) (sym inst) split.1 in
    right_member b b.members c.members bs cs fields rest q.members (right_next bs cs fields rest (All-tail IsCertificateWithin b bs r) (All-tail IsCertificateWithin c cs s))
    (sym (append_assoc (map (member_record b.inst) b.members) (records_of bs) (fields ∷ rest)) ∙ at_inst)

-- four texts that fit have no first one that does not
pub none_wrong : (w x y z : Slot) (a b c d : List ℕ) (f : RecordFault) → FitsCertificateSlot w a → FitsCertificateSlot x b → FitsCertificateSlot y c → FitsCertificateSlot z d → IsFirstCertificateMisfit w x y z a b c d f → ⊥
none_wrong w x y z a b c d f p q r s (inl h) = h.1 p
none_wrong w x y z a b c d f p q r s (inr (inl h)) = h.1.1 q
none_wrong w x y z a b c d f p q r s (inr (inr (inl h))) = h.2.1 r
none_wrong w x y z a b c d f p q r s (inr (inr (inr h))) = h.3.1 s

-- the record of an instance is not wrong
right_instance : (before : List Certificate) (c : Certificate) (w x y z u : List ℕ) (f : RecordFault) → IsCertificateWithin c → w ∷ x ∷ y ∷ z ∷ u ∷ [] ≡ instance_record c → IsCertificateFieldFault before w x y z u f → ⊥
right_instance before c w x y z u f is e (inl h) = h.1 (ap field_1 e)
right_instance before c w x y z u f is e (inr (inl h)) =
    none_wrong slot.instance slot.kind slot.process slot.decision x y z u f (c.inst, is.inst, ap field_2 e) (c.kind, ap field_3 e) (c.initiator, is.initiator, ap field_4 e) (c.commit, ap field_5 e) h.1
right_instance before c w x y z u f is e (inr (inr h)) = two_words (sym (ap field_1 e) ∙ h.0)

-- some certificates have one last one
no_last : (others : List Certificate) (last : Certificate) → others ++ last ∷ [] ≡ [] → ⊥
no_last [] last e = cc e
no_last (x ∷ others) last e = cc e

one_last : (others rest : List Certificate) (last end : Certificate) → others ++ last ∷ [] ≡ rest ++ end ∷ [] → last ≡ end
one_last [] [] last end e = cc e
one_last [] (y ∷ rest) last end e = let none : rest ++ end ∷ [] ≡ [] = cc e in absurd (no_last rest end none)
one_last (x ∷ others) [] last end e = let none : others ++ last ∷ [] ≡ [] = cc e in absurd (no_last others last none)
one_last (x ∷ others) (y ∷ rest) last end e = let after : others ++ last ∷ [] ≡ rest ++ end ∷ [] = cc e in one_last others rest last end after

-- a member's record after its instance is not wrong
right_in_place : (before others : List Certificate) (last : Certificate) (member : Member) (w x y z u : List ℕ) (f : RecordFault) → before ≡ others ++ last ∷ [] → IsCertificateWithin last → IsMemberInRange member
    → w ∷ x ∷ y ∷ z ∷ u ∷ [] ≡ member_record last.inst member → IsCertificateFieldFault before w x y z u f → ⊥
right_in_place before others last member w x y z u f at range is e (inl h) = h.2 (ap field_1 e)
right_in_place before others last member w x y z u f at range is e (inr (inl h)) = two_words (sym h.0 ∙ ap field_1 e)
right_in_place before others last member w x y z u f at range is e (inr (inr (word, inl h))) =
    none_wrong slot.instance slot.process slot.count slot.chain x y z u f (last.inst, range.inst, ap field_2 e) (member.0, is.process, ap field_3 e) (length member.1, is.few, ap field_4 e)
    (member.1, is.messages, ap field_5 e) h
right_in_place before others last member w x y z u f at range is e (inr (inr (word, inr (p, fit, inl other)))) =
    let same = one_chain member.1 other.0 is.messages other.1 (sym (ap field_5 e) ∙ other.2) in
    other.3 (ap field_4 e ∙ ap (λ (messages : List ℕ). decimal (length messages)) same)
right_in_place before others last member w x y z u f at range is e (inr (inr (word, inr (p, fit, inr (inl none))))) = no_last others last (sym at ∙ none)
right_in_place before others last member w x y z u f at range is e (inr (inr (word, inr (p, fit, inr (inr other))))) =
    let same = one_last others other.0 last other.1 (sym at ∙ other.2) in
    other.3 (ap field_2 e ∙ ap (λ (c : Certificate). decimal c.inst) same)

last_in_range : (before others : List Certificate) (last : Certificate) → before ≡ others ++ last ∷ [] → All IsCertificateWithin before → IsCertificateWithin last
last_in_range before [] last e all = All-head IsCertificateWithin last [] (subst (All IsCertificateWithin) e all)
last_in_range before (x ∷ others) last e all = last_in_range (others ++ last ∷ []) others last refl (All-tail IsCertificateWithin x (others ++ last ∷ []) (subst (All IsCertificateWithin) e all))

-- what a record fault is: of the number of fields, or in the fields
abbrev pub InFields : List Certificate → List (List ℕ) → RecordFault → Type 0
InFields before fields f = (w x y z u : List ℕ) × (fields ≡ w ∷ x ∷ y ∷ z ∷ u ∷ []) × IsCertificateFieldFault before w x y z u f

pub record_kinds : (before : List Certificate) (fields : List (List ℕ)) (f : RecordFault) → f ≢ fault.Memory → IsRecordFault before fields f → ((f ≡ fault.Fields) × (length fields ≢ 5)) ⊎ InFields before fields f
record_kinds before fields fault.Fields o h = inl (refl, h)
record_kinds before fields fault.Word o h = inr h
record_kinds before fields fault.Number o h = inr h
record_kinds before fields fault.Place o h = inr h
record_kinds before fields fault.Memory o h = absurd (o refl)

-- a right record is not wrong
pub none_wrong_in : (before : List Certificate) (fields : List (List ℕ)) (f : RecordFault) → f ≢ fault.Memory → All IsCertificateWithin before → IsRight before fields → IsRecordFault before fields f → ⊥
none_wrong_in before fields f o all right wrong = go right (record_kinds before fields f o wrong)
  where
    go : IsRight before fields → ((f ≡ fault.Fields) × (length fields ≢ 5)) ⊎ InFields before fields f → ⊥
    go (inl (c, is, e)) (inl h) = h.1 (ap length e)
    go (inl (c, is, e)) (inr (w, x, y, z, u, at, h)) = right_instance before c w x y z u f is (sym at ∙ e) h
    go (inr (others, last, member, at, is, e)) (inl h) = h.1 (ap length e)
    go (inr (others, last, member, at, is, e)) (inr (w, x, y, z, u, as_fields, h)) =
        right_in_place before others last member w x y z u f at (last_in_range before others last at all) is (sym as_fields ∙ e) h

-- a fault of the text itself is that there are too many records, or that one is wrong
abbrev pub HasTooMany : List Certificate → Records → CertTextFault → Type 0
HasTooMany before left fault = (fault ≡ TooLong) × (record_count before ≡ max_records) × (fields : List (List ℕ)) × (rest : Records) × (left ≡ fields ∷ rest)

abbrev pub HasWrong : List Certificate → Records → CertTextFault → Type 0
HasWrong before left found = (n : ℕ) × (f : RecordFault) × (found ≡ fault_at f n) × (f ≢ fault.Memory) × IsWrongAt before left n f

pub kinds : (before : List Certificate) (left : Records) (fault : CertTextFault) → IsOfCertificates fault → IsCertificateFaultAfter before left fault → HasTooMany before left fault ⊎ HasWrong before left fault
kinds before left Read o h = absurd (o.0 refl)
kinds before left Memory o h = absurd (o.1 refl)
kinds before left TooLong o h = inl (refl, h.0, h.1, h.2, h.3)
kinds before left (Fields n) o h = inr (n, fault.Fields, refl, (λ e. cc e), h)
kinds before left (Word n) o h = inr (n, fault.Word, refl, (λ e. cc e), h)
kinds before left (Number n) o h = inr (n, fault.Number, refl, (λ e. cc e), h)
kinds before left (Place n) o h = inr (n, fault.Place, refl, (λ e. cc e), h)

pub one_text : (text : Records) (certificates others : List Certificate) → IsCertText text certificates → IsCertText text others → certificates ≡ others
one_text text certificates others p q = one_list certificates others p.in_range q.in_range (sym p.spelled ∙ q.spelled)

-- a text with a first fault is the text of no list
pub no_list : (text : Records) (certificates : List Certificate) (fault : CertTextFault) → IsOfCertificates fault → IsFirstCertificateFault text fault → IsCertText text certificates → ⊥
no_list text certificates fault o first whole = elim (kinds first.before first.left fault o first.wrong) [
  | inl (e, count, fields, rest, at) ↦
      let all : records_of certificates ≡ records_of first.before ++ (fields ∷ rest) = sym whole.spelled ∙ first.after.spelled ∙ ap (λ (x : Records). records_of first.before ++ x) at in
      omega (arith, ap length all, length-append (records_of first.before) (fields ∷ rest), count, whole.few)
  | inr (n, f, e, kept, (number, few, fields, rest, at, wrong)) ↦
      let all : records_of first.before ++ (fields ∷ rest) ≡ records_of certificates = ap (λ (x : Records). records_of first.before ++ x) (sym at) ∙ sym first.after.spelled ∙ whole.spelled in
      none_wrong_in first.before fields f kept first.after.in_range (right_next first.before certificates fields rest first.after.in_range whole.in_range all) wrong
]
