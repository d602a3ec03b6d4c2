use Rattle.std.proofs.Common.{◌≡◌, ◌++◌, take}
use Rattle.std.specs.List.{flat_map}
use Rattle.std.specs.String.{string_bytes}
use Rattle.kt_picture.specs.Evidence.{chain_word}
use Rattle.kt_picture.proofs.words.push_reason.Given as goal

abbrev pub invariant-loop-msg : goal.invariant-loop-msg
invariant-loop-msg l = string_bytes l.text ≡ string_bytes l.initial.text ++ flat_map (chain_word l.page.names.now l.page.rows.now) (take l.msg-index l.chain)
