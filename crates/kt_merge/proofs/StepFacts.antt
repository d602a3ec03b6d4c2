-- What the reads of records say of a part's text.
use Rattle.std.proofs.Common.{◌≡◌, ◌<◌, ◌+◌, ℕ, List, [], ◌∷◌, Option, Some, None, IfSome, refl, sym, ap, subst}
use Rattle.kt_text.specs.Records.{FieldsTaken}
use Rattle.kt_merge.specs.declared.part_fault.PartFault.{PartFault}
use Rattle.kt_merge.specs.declared.part_rows.FieldFault.{FieldFault}
use Rattle.kt_merge.specs.declared.part_rows.FieldFault.TheVariants as field
use Rattle.kt_merge.specs.Spelling.{IsFieldFault}
use Rattle.kt_merge.specs.Texts.{max_records, fault_at_record, HasWrongField, IsPartFaultFrom}

abbrev Known : Type 0
Known = Option (List (List (List ℕ)))

wrong_record : (p count clock : ℕ) (f : FieldFault) (left : List (List (List ℕ))) → count < max_records → HasWrongField left f → IsPartFaultFrom p count clock left (fault_at_record f (count + 1))
wrong_record p count clock field.Word left few h = ((refl, few), h)
wrong_record p count clock field.Number left few h = ((refl, few), h)

-- a wrong field of the next record is what is first wrong
pub wrong_at : (p count clock : ℕ) (f : FieldFault) (fields : List (List ℕ)) (time word first second third last : List ℕ) (rest : List (List (List ℕ))) → count < max_records
    → fields ≡ time ∷ word ∷ first ∷ second ∷ third ∷ last ∷ [] → IsFieldFault time word first second third last f → IsPartFaultFrom p count clock (fields ∷ rest) (fault_at_record f (count + 1))
wrong_at p count clock f fields time word first second third last rest few is wrong =
    wrong_record p count clock f (fields ∷ rest) few
    (record { time = time; word = word; first = first; second = second; third = third; last = last; rest = rest; is = ap (λ (x : List (List ℕ)). x ∷ rest) is; wrong = wrong })

-- what is wrong in the next record is what is first wrong in those that are left
pub part_faults : (p count clock : ℕ) (old new : Known) (fields : List (List ℕ)) (fault : PartFault) → FieldsTaken old new fields
    → ((rest : List (List (List ℕ))) → IsPartFaultFrom p count clock (fields ∷ rest) fault) → IfSome old (λ left. IsPartFaultFrom p count clock left fault)
part_faults p count clock None new fields fault t h = tt
part_faults p count clock (Some left) None fields fault t h = absurd t
part_faults p count clock (Some left) (Some rest) fields fault t h = subst (λ (x : List (List (List ℕ))). IsPartFaultFrom p count clock x fault) (sym t) (h rest)
