-- What callers see of a log.
use Rattle.std.specs.Prelude.{ℕ, ◌+◌, ◌≤◌, ◌^◌, List, Vec, All, length, vec_len, vec_capacity}
use Rattle.std.specs.declared.alloc.Global.{Global}
use Rattle.kt_spacetime.specs.declared.event.Event.{Event}
use Rattle.kt_spacetime.specs.Events.{IsRowInRange}

-- the rows so far, and for how many more there is room
pub record Log : Type 0 where
  pub rows : List Event
  pub spare : ℕ

-- what a log keeps: the room that it tells is there, each row's numbers are in range, the rows are few enough
pub record IsLogKept (rows : Vec Event Global) (spare : ℕ) : Type 0 where
  pub room : vec_len rows + spare ≤ vec_capacity rows
  pub in_range : All IsRowInRange rows.items
  pub few : length rows.items ≤ 2 ^ 24
