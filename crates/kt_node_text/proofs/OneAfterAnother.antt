-- What is read one after another.
use Rattle.std.specs.Prelude.{ℤ, pos, negsuc, ◌-ℤ◌, FitsSigned, Option, Some, None, Result, Ok, Err, IsErrAnd, IfSome, IfNone, IfOk, is_some}
use Rattle.std.specs.Int.{w64}
use Rattle.std.specs.Option.{ok_or}
use Rattle.std.proofs.lemmas.Int.{ints, to_z_pos}
use Rattle.std.proofs.Common.{◌≡◌, ◌∙◌, ◌+◌, ◌-◌, ◌^◌, ◌<◌, ◌≤◌, ℕ, List, [], ◌∷◌, ◌++◌, Bool, true, false, refl, sym, ap, subst, arith}
use mir.Val.{to_z, of_z}
use Rattle.kt_spacetime.specs.declared.names.InstName.{InstName}
use Rattle.kt_node_text.specs.declared.fault.LoadFault.{LoadFault}
use Rattle.kt_node_text.specs.declared.fault.LoadFault.TheVariants.{Form, Memory}
use Rattle.kt_node_text.specs.Form.{of_flag, of_body, of_name}
use Rattle.kt_node_text.specs.Ranges.{IsName}
use Rattle.kt_node_text.specs.Reading.{IsMemory, IsReadAs}

-- a fault that is handed on
pub stops : {Y : Type 0} (Q : Y → Type 0) (after left : List ℕ) (e : LoadFault) (r : Result Y LoadFault) →
    IsErrAnd r (λ f. f ≡ e) → IsMemory e → IsReadAs Q after r left
stops Q after left e (Ok y) h m = absurd h
stops Q after left e (Err f) h m = subst IsMemory (sym h) m

pub same_fault : {Y : Type 0} (e : LoadFault) (r : Result Y LoadFault) → IsErrAnd r (λ f. f ≡ e) → r ≡ Err Form → e ≡ Form
same_fault e (Ok y) h is = absurd h
same_fault e (Err f) h is = cc

pub not_form : {Y : Type 0} (e : LoadFault) (r : Result Y LoadFault) → IsErrAnd r (λ f. f ≡ e) → IsMemory e → r ≡ Err Form → ⊥
not_form e r h m is = subst IsMemory (same_fault e r h is) m

-- what is read is of its kind, and it is no fault of form
pub is_read : {X : Type 0} (P : X → Type 0) (after left : List ℕ) (r : Result X LoadFault) → IsReadAs P after r left → IfOk r P × (r ≡ Err Form → ⊥)
is_read P after left (Ok y) h = (h.0, λ e. cc)
is_read P after left (Err Memory) h = (tt, λ e. cc)
is_read P after left (Err Form) h = absurd h

-- what is made of what was read
pub is_made : {X : Type 0} (P : X → Type 0) (F : Type 0) (z : X) (after left : List ℕ) (o : Option X) (r : Result X LoadFault) →
    r ≡ ok_or o Form → IfSome o (λ y. y ≡ z) → IfNone o (F → ⊥) → F → P z → left ≡ after → IsReadAs P after r left
is_made P F z after left None r e some none fits is rest = absurd (none fits)
is_made {X} P F z after left (Some y) r e some none fits is rest =
    subst (λ (q : Result X LoadFault). IsReadAs P after q left) (sym e) (subst P (sym some) is, rest)

-- a name after whether there is one
abbrev pub name_parts : Option InstName → List ℕ
name_parts None = []
name_parts (Some k) = k.initiator ∷ k.count ∷ []

pub name_begins : (o : Option InstName) (after : List ℕ) → of_name o ++ after ≡ of_flag (is_some o) ∷ (name_parts o ++ after)
name_begins None after = refl
name_begins (Some k) after = refl

pub no_name : (o : Option InstName) (after left : List ℕ) → is_some o ≡ false → left ≡ name_parts o ++ after → (None ≡ o) × (left ≡ after)
no_name None after left h e = (refl, e)
no_name (Some k) after left h e = absurd cc

pub a_name : (o : Option InstName) (after left : List ℕ) → is_some o ≡ true → IfSome o IsName → left ≡ name_parts o ++ after →
    (k : InstName) × (Some k ≡ o) × IsName k × (left ≡ k.initiator ∷ k.count ∷ after)
a_name None after left h range e = absurd cc
a_name (Some k) after left h range e = (k, refl, range, e)

-- a body after whether it is negative
abbrev pub is_negative : ℤ → Bool
is_negative (pos n) = false
is_negative (negsuc n) = true

abbrev pub body_size : ℤ → ℕ
body_size (pos n) = n
body_size (negsuc n) = n + 1

pub body_begins : (b : ℤ) (after : List ℕ) → of_body b ++ after ≡ of_flag (is_negative b) ∷ body_size b ∷ after
body_begins (pos n) after = refl
body_begins (negsuc n) after = refl

pub body_fits : (b : ℤ) → FitsSigned w64 b → body_size b ≤ 2 ^ 63
body_fits (pos n) h = omega (arith, h.sfits)
body_fits (negsuc n) h = omega (arith, h.sfits)

pub from_zero : (b : ℤ) (size : ℕ) → is_negative b ≡ false → size ≡ body_size b → size < 2 ^ 63 → to_z w64 size ≡ b
from_zero (pos n) size h e f = to_z_pos w64 size f ∙ ap pos e
from_zero (negsuc n) size h e f = absurd cc

pub below_zero : (b : ℤ) (size : ℕ) → FitsSigned w64 b → is_negative b ≡ true → size ≡ body_size b →
    to_z w64 (of_z w64 (negsuc 0 -ℤ to_z w64 (size - 1))) ≡ b
below_zero (pos n) size fits h e = absurd cc
below_zero (negsuc n) size fits h e = omega (arith, ints, fits.sfits)

pub a_body : (b : ℤ) (size : ℕ) → FitsSigned w64 b → size ≡ body_size b → (is_negative b ≡ false → size < 2 ^ 63) × (is_negative b ≡ true → 1 ≤ size)
a_body (pos n) size fits e = (λ h. omega (arith, fits.sfits), λ h. absurd cc)
a_body (negsuc n) size fits e = (λ h. absurd cc, λ h. omega arith)
