use Rattle.std.proofs.Common.{◌≡◌, ◌++◌, take}
use Rattle.std.specs.String.{string_bytes}
use Rattle.kt_picture.specs.Legend.{legend_from}
use Rattle.kt_picture.proofs.legend.push_legend.Given as goal

abbrev pub invariant-loop-place : goal.invariant-loop-place
invariant-loop-place l = string_bytes l.text ≡ string_bytes l.fn.text ++ legend_from l.top 0 (take l.place l.signs)
