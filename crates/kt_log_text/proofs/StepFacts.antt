-- What the reads of records say of the text.
use Rattle.std.proofs.Common.{◌≡◌, ℕ, List, [], ◌∷◌, Option, Some, None, IfSome, refl, sym, subst, inl, inr}
use Rattle.kt_log_text.specs.declared.fault.LogFault.{LogFault}
use Rattle.kt_log_text.specs.declared.fault.LogFault.TheVariants.{Read, TooLong, Version, Fields, Word, Number, Memory}
use Rattle.kt_log_text.specs.declared.rows.Format.{Format}
use Rattle.kt_log_text.specs.declared.rows.Format.TheVariants.{One, Two}
use Rattle.kt_log_text.specs.Texts.{header, IsUnmarked, BeginsUnmarked, IsTextFrom, IsOtherVersion, IsRowFault, IsFaultFrom, IsEndedFrom}
use Rattle.kt_text.specs.Records.{FieldsTaken}
use Rattle.kt_log_text.specs.Progress.{TakesFields, IsHeadFault}

-- known records
abbrev Known : Type 0
Known = Option (List (List (List ℕ)))

pub first_in_one : (old new : Known) (fields : List (List ℕ)) → FieldsTaken old new fields → IsUnmarked fields → TakesFields None One old new fields
first_in_one None new fields t u = tt
first_in_one (Some left) None fields t u = t
first_in_one (Some left) (Some rest) fields t u = (t, subst BeginsUnmarked (sym t) u)

pub first_in_two : (old middle new : Known) (head fields : List (List ℕ)) → FieldsTaken old middle head → head ≡ header → FieldsTaken middle new fields → TakesFields None Two old new fields
first_in_two None middle new head fields t e u = tt
first_in_two (Some left) None new head fields t e u = absurd t
first_in_two (Some left) (Some rest) None head fields t e u = u
first_in_two (Some left) (Some rest) (Some last) head fields t e u = rw (t, e, u) refl

pub later : (format : Format) (old new : Known) (fields : List (List ℕ)) → FieldsTaken old new fields → TakesFields (Some format) format old new fields
later format None new fields t = tt
later format (Some left) None fields t = t
later format (Some left) (Some rest) fields t = (refl, t)

pub ends_at_once : (old : Known) → IfSome old (λ left. left ≡ []) → IfSome old (IsEndedFrom None)
ends_at_once None e = tt
ends_at_once (Some left) e = (One, (e, subst BeginsUnmarked (sym e) tt))

pub ends_after_header : (old middle : Known) (head : List (List ℕ)) → FieldsTaken old middle head → head ≡ header → IfSome middle (λ left. left ≡ []) → IfSome old (IsEndedFrom None)
ends_after_header None middle head t e n = tt
ends_after_header (Some left) None head t e n = absurd t
ends_after_header (Some left) (Some rest) head t e n = (Two, rw (t, e, n) refl)

pub ends_later : (format : Format) (old : Known) → IfSome old (λ left. left ≡ []) → IfSome old (IsEndedFrom (Some format))
ends_later format None e = tt
ends_later format (Some left) e = (format, (refl, e))

pub other_version : (old new : Known) (fields : List (List ℕ)) (fault : LogFault) → FieldsTaken old new fields → (fault ≡ Version) × IsOtherVersion fields → IfSome old (λ left. IsHeadFault left fault)
other_version None new fields fault t o = tt
other_version (Some left) None fields fault t o = absurd t
other_version (Some left) (Some rest) fields fault t o = inr (inr (o.0, (fields, rest, t, o.1)))

-- what goes wrong before a row is what is first wrong
pub head_fault : (count : ℕ) (left : List (List (List ℕ))) (fault : LogFault) → IsHeadFault left fault → IsFaultFrom None count left fault
head_fault count left fault (inl e) = subst (λ (f : LogFault). IsFaultFrom None count left f) (sym e) tt
head_fault count left fault (inr (inl e)) = subst (λ (f : LogFault). IsFaultFrom None count left f) (sym e) tt
head_fault count left fault (inr (inr (e, b))) = subst (λ (f : LogFault). IsFaultFrom None count left f) (sym e) (refl, b.0, b.1, b.2, b.3)

pub head_faults : (count : ℕ) (old : Known) (fault : LogFault) → IfSome old (λ left. IsHeadFault left fault) → IfSome old (λ left. IsFaultFrom None count left fault)
head_faults count None fault h = tt
head_faults count (Some left) fault h = head_fault count left fault h

-- what is wrong in a row is what is first wrong
pub row_fault : (known : Option Format) (format : Format) (count : ℕ) (left fields : List (List (List ℕ))) (fault : LogFault) → IsTextFrom known format fields left → IsRowFault format count fields fault → IsFaultFrom known count left fault
row_fault known format count left fields Read t h = tt
row_fault known format count left fields Memory t h = tt
row_fault known format count left fields Version t h = absurd h
row_fault known format count left fields TooLong t h = (format, fields, t, h)
row_fault known format count left fields (Fields n) t h = (format, fields, t, h)
row_fault known format count left fields (Word n) t h = (format, fields, t, h)
row_fault known format count left fields (Number n) t h = (format, fields, t, h)

pub row_faults : (known : Option Format) (format : Format) (count : ℕ) (old new : Known) (fields : List (List ℕ)) (fault : LogFault) → TakesFields known format old new fields
    → ((rest : List (List (List ℕ))) → IsRowFault format count (fields ∷ rest) fault) → IfSome old (λ left. IsFaultFrom known count left fault)
row_faults known format count None new fields fault t h = tt
row_faults known format count (Some left) None fields fault t h = absurd t
row_faults known format count (Some left) (Some rest) fields fault t h = row_fault known format count left (fields ∷ rest) fault t (h rest)
