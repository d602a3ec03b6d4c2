-- An object that refuses never, and rejects only what is no saved state of its kind.
use Rattle.std.proofs.Common.{ℕ, ℤ, List}
use Rattle.kt_object.specs.Bytes.{IsSavedState}
use Rattle.kt_object.specs.Reliable.{IsReliable}

pub reliable : (kind : ℕ) → IsReliable kind ⊥ (λ saved. (value : List ℤ) → ¬ IsSavedState kind value saved)
reliable kind = record {
  saves = λ h. h;
  takes = λ value saved is rejected. rejected value is;
}
