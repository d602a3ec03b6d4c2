-- Rows that are sought in a log.
use Rattle.std.specs.Prelude.{◌≡◌, ◌<◌, ◌+◌, ◌==◌, ◌&&◌, ℕ, Bool, true, false, Option, Some, None, List, slice_get}
use Rattle.kt_spacetime.specs.declared.event.Event.{Event}
use Rattle.kt_spacetime.specs.declared.event.Event.TheVariants as event
use Rattle.kt_meaning.specs.Legal.{is_join}
use Rattle.kt_meaning.specs.Unwilling.{is_unwilling}
use Rattle.kt_histories.specs.declared.finding.Sought.{Sought}
use Rattle.kt_histories.specs.declared.finding.Sought.TheVariants.{Unwilling, Began, Decided, Received, Failed, Dropped, Joined, Closed}
use Rattle.kt_histories.specs.declared.finding.Found.{Found}

-- whether a row begins an instance
abbrev pub begins_inst : ℕ → Event → Bool
begins_inst k (event.Began p j kind) = j == k
begins_inst k _ = false

-- whether a row decides an instance
abbrev pub decides_inst : ℕ → Event → Bool
decides_inst k (event.Decided p j commit) = j == k
decides_inst k _ = false

-- whether by a row this process receives from that one this message
abbrev pub receives : ℕ → ℕ → ℕ → Event → Bool
receives p from msg (event.Received q sender n) = (q == p) && (sender == from) && (n == msg)
receives p from msg _ = false

-- whether this process fails by a row
abbrev pub fails : ℕ → Event → Bool
fails p (event.Failed q) = q == p
fails p _ = false

-- whether this message is dropped by a row
abbrev pub drops : ℕ → Event → Bool
drops msg (event.Dropped p from n) = n == msg
drops msg _ = false

-- whether this process closes this instance by a row
abbrev pub closes : ℕ → ℕ → Event → Bool
closes p k (event.Closed q j) = (q == p) && (j == k)
closes p k _ = false

-- whether a row says what is sought
abbrev pub is_sought : Sought → Event → Bool
is_sought (Unwilling k) row = is_unwilling k row
is_sought (Began k) row = begins_inst k row
is_sought (Decided k) row = decides_inst k row
is_sought (Received p from msg) row = receives p from msg row
is_sought (Failed p) row = fails p row
is_sought (Dropped msg) row = drops msg row
is_sought (Joined p k) row = is_join p k row
is_sought (Closed p k) row = closes p k row

-- no row passes a test
abbrev pub HasNoRow : (Event → Bool) → List Event → Type 0
HasNoRow test rows = (n : ℕ) (row : Event) → slice_get rows n ≡ Some row → test row ≡ true → ⊥

-- the row of this number passes a test, and none before it does
pub record IsFirstRow (test : Event → Bool) (rows : List Event) (number : ℕ) (row : Event) : Type 0 where
  pub place : ℕ
  pub number_is : number ≡ place + 1
  pub row_is : slice_get rows place ≡ Some row
  pub passes : test row ≡ true
  pub first : (n : ℕ) (other : Event) → n < place → slice_get rows n ≡ Some other → test other ≡ true → ⊥

-- the first row that passes a test, or that there is none
abbrev pub IsFirstFound : (Event → Bool) → List Event → Option Found → Type 0
IsFirstFound test rows None = HasNoRow test rows
IsFirstFound test rows (Some found) = IsFirstRow test rows found.number found.row

-- the number of the first row that passes a test, or that there is none
abbrev pub IsFirstNumber : (Event → Bool) → List Event → Option ℕ → Type 0
IsFirstNumber test rows None = HasNoRow test rows
IsFirstNumber test rows (Some number) = (row : Event) × IsFirstRow test rows number row

-- the row of this number passes a test, and none after it does
pub record IsLastRow (test : Event → Bool) (rows : List Event) (number : ℕ) (row : Event) : Type 0 where
  pub place : ℕ
  pub number_is : number ≡ place + 1
  pub row_is : slice_get rows place ≡ Some row
  pub passes : test row ≡ true
  pub last : (n : ℕ) (other : Event) → place < n → slice_get rows n ≡ Some other → test other ≡ true → ⊥

-- the number of the last row that passes a test, or that there is none
abbrev pub IsLastNumber : (Event → Bool) → List Event → Option ℕ → Type 0
IsLastNumber test rows None = HasNoRow test rows
IsLastNumber test rows (Some number) = (row : Event) × IsLastRow test rows number row
