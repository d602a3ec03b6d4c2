-- What becomes of a buffer that a caller lends for a text.
use Rattle.std.specs.Prelude.{◌≡◌, ◌≤◌, ◌<◌, ◌++◌, ℕ, List, length, drop}
use Rattle.koo_toueg_c.specs.declared.fault.KtFault.{KtFault}
use Rattle.koo_toueg_c.specs.Numbers.{no_fault}

-- numbers stand at the front of a buffer, which is as it was behind them
pub record Holds (numbers old new : List ℕ) : Type 0 where
  pub fit : length numbers ≤ length old
  pub stand : new ≡ numbers ++ drop (length numbers) old

-- bytes were put at the front of a buffer, and their length is told
pub record IsPut (bytes old new : List ℕ) (len : ℕ) : Type 0 where
  pub holds : Holds bytes old new
  pub told : len ≡ length bytes

-- bytes are more than a buffer has room for, which is as it was, and their length is told
pub record IsLeft (bytes old new : List ℕ) (len : ℕ) : Type 0 where
  pub longer : length old < length bytes
  pub same : new ≡ old
  pub told : len ≡ length bytes

-- a text was put at the front of a buffer; its length is told, and no fault
pub record IsGiven (text old new : List ℕ) (len : ℕ) (fault : KtFault) : Type 0 where
  pub holds : Holds text old new
  pub told : len ≡ length text
  pub well : fault ≡ no_fault

-- a text is longer than a buffer, which is as it was; its length is told, and no fault
pub record IsTooLong (text old new : List ℕ) (len : ℕ) (fault : KtFault) : Type 0 where
  pub longer : length old < length text
  pub same : new ≡ old
  pub told : len ≡ length text
  pub well : fault ≡ no_fault
