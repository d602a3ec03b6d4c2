-- What a process does with an ask.
use Rattle.std.specs.Prelude.{Bool, Option}
use Rattle.kt_base.specs.declared.words.Cause.{Cause}

-- it replies, with the cause if it is unwilling, or it joins
pub data Answer : Type 0 where
  replies : Bool → Option Cause → Answer
  joins : Answer
