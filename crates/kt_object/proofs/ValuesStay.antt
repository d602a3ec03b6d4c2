-- Values of a kind stay values of the kind.
use Rattle.std.proofs.Common.{ℕ, ◌-◌, suc, zero, List, [], ◌∷◌, ◌++◌, length, refl, arith, length-append, length-drop, get_or}
use Rattle.std.specs.Prelude.{ℤ, pos, negsuc, ◌+ℤ◌, FitsSigned, All}
use Rattle.std.specs.Int.{w64, saturate_signed}
use Rattle.std.proofs.lemmas.List.Elements.{All-push, All-drop}
use Rattle.kt_object.specs.Value.{opening_value, after, offered, first, IsKind, IsValue}

zero_fits : FitsSigned w64 (pos 0)
zero_fits = record { sfits = omega arith }

saturated_fits : (number : ℤ) → FitsSigned w64 (saturate_signed w64 number)
saturated_fits (pos n) = record { sfits = omega arith }
saturated_fits (negsuc n) = record { sfits = omega arith }

-- a list of one number that fits
one_fits : (number : ℤ) → FitsSigned w64 number → All (λ number. FitsSigned w64 number) (number ∷ [])
one_fits number fits zero d low = fits
one_fits number fits (suc k) d low = absurd (omega arith)

-- the opening value is a value of the kind
pub opening-IsValue : (kind : ℕ) → IsKind kind → IsValue kind (opening_value kind)
opening-IsValue zero known = record { is_kind = known; count = refl; numbers = one_fits (pos 0) zero_fits }
opening-IsValue (suc zero) known = record { is_kind = known; count = refl; numbers = one_fits (pos 0) zero_fits }
opening-IsValue (suc (suc kind)) known = record { is_kind = known; count = omega arith; numbers = λ k d low. absurd (omega arith) }

-- a message leaves a value of the kind
pub after-IsValue : (kind from : ℕ) (value : List ℤ) (body : ℤ) → IsValue kind value → FitsSigned w64 body
    → IsValue kind (after kind value from body)
after-IsValue zero from value body is fits =
    record { is_kind = is.is_kind; count = refl; numbers = one_fits _ (saturated_fits (first value +ℤ body)) }
after-IsValue (suc zero) from value body is fits = record { is_kind = is.is_kind; count = refl; numbers = one_fits body fits }
after-IsValue (suc (suc kind)) from value body is fits =
    record {
      is_kind = is.is_kind;
      count = omega (arith, length-drop (length (value ++ body ∷ []) - 8) (value ++ body ∷ []), length-append value (body ∷ []));
      numbers = All-drop (λ number. FitsSigned w64 number) (length (value ++ body ∷ []) - 8) (value ++ body ∷ [])
          (All-push (λ number. FitsSigned w64 number) value body is.numbers fits);
    }

-- a number of the value, or 0
number_fits : (value : List ℤ) (k : ℕ) → All (λ number. FitsSigned w64 number) value → FitsSigned w64 (get_or value k (pos 0))
number_fits [] k all = zero_fits
number_fits (number ∷ rest) zero all = all zero (pos 0) (omega arith)
number_fits (number ∷ rest) (suc k) all = number_fits rest k (λ i d low. all (suc i) d (omega arith))

-- what is offered is within i64
pub offered-fits : (kind : ℕ) (value : List ℤ) → IsValue kind value → FitsSigned w64 (offered kind value)
offered-fits zero value is = number_fits value 0 is.numbers
offered-fits (suc zero) value is = number_fits value 0 is.numbers
offered-fits (suc (suc kind)) value is = number_fits value (length value - 1) is.numbers
