-- Whose errands stand in a history.
use Rattle.std.specs.Prelude.{◌≡◌, ◌<◌, ◌==◌, ℕ, List, [], ◌∷◌, ◌++◌, filter, length, map, slice_index_or}
use Rattle.kt_threads.specs.declared.asked.Entry.{Entry}
use Rattle.kt_threads.specs.declared.asked.Errand.{Errand}

-- the errands of one process, in order
abbrev pub errands_by : ℕ → List Entry → List Errand
errands_by p entries = map (λ (e : Entry). e.errand) (filter (λ (e : Entry). e.by == p) entries)

-- an errand of a process
abbrev pub entry : ℕ → Errand → Entry
entry p errand = record { by = p; errand = errand }

-- of each process so many errands stand in the history
pub record AreCounted (counts : List ℕ) (entries : List Entry) : Type 0 where
  pub count : length counts ≡ 64
  pub each : (p : ℕ) → p < 64 → slice_index_or counts p 0 ≡ length (errands_by p entries)

-- an entry is the last one, and so many of its process stand in the history
pub record IsLast (entries : List Entry) (last : Entry) (count : ℕ) : Type 0 where
  pub before : List Entry
  pub ends : entries ≡ before ++ last ∷ []
  pub counted : count ≡ length (errands_by last.by entries)

-- what one process did
pub record DoneBy : Type 0 where
  pub by : ℕ
  pub errands : List Errand
