-- How the marks of the legend look, and what it says of them.
use Rattle.std.specs.Prelude.{ℕ, false, Some, None, List, codes}
use Rattle.kt_picture.specs.declared.looks.Path.{Path}
use Rattle.kt_picture.specs.declared.looks.Place.{Place}
use Rattle.kt_picture.specs.declared.legend.Sign.{Sign}
use Rattle.kt_picture.specs.declared.legend.Sign.TheVariants as sign
use Rattle.kt_picture.specs.declared.looks.Look.TheVariants as look
use Rattle.kt_picture.specs.declared.looks.Outline.TheVariants as outline
use Rattle.kt_picture.specs.Looks.{path_at}

-- where a mark stands in its line
abbrev pub sign_place : Place
sign_place = record { x = 24; y = 0 }

abbrev pub sign_path : Sign → Path
sign_path sign.Message = path_at sign_place look.Message None outline.Line
sign_path sign.Undone = path_at sign_place look.Unsent None outline.Line
sign_path sign.Chain = path_at sign_place look.Linked (Some 1) outline.Line
sign_path sign.Transit = path_at sign_place look.Way None outline.Line
sign_path sign.Dropped = path_at sign_place look.Dropped None outline.Cross
sign_path sign.Instance = path_at sign_place look.Bar (Some 1) outline.Line
sign_path sign.Checkpoint = path_at sign_place look.Full (Some 1) (outline.Square false)
sign_path sign.Rollback = path_at sign_place look.Full (Some 1) (outline.Triangle false)
sign_path sign.Decision = path_at sign_place look.Full (Some 1) (outline.Diamond false)
sign_path sign.Cut = path_at sign_place look.Cut (Some 1) outline.Line
sign_path sign.Failure = path_at sign_place look.Failed None outline.Bolt
sign_path sign.Refusal = path_at sign_place look.Refused None outline.Ban
sign_path sign.Wrong = path_at sign_place look.Orphan None outline.Line

abbrev pub sign_words : Sign → List ℕ
sign_words sign.Message = codes "message, sent and received"
sign_words sign.Undone = codes "its send or its receive is undone"
sign_words sign.Chain = codes "message by which a process joined"
sign_words sign.Transit = codes "message in transit"
sign_words sign.Dropped = codes "message dropped"
sign_words sign.Instance = codes "in an instance, begun at C or R"
sign_words sign.Checkpoint = codes "checkpoint: full if committed"
sign_words sign.Rollback = codes "rollback: full if committed"
sign_words sign.Decision = codes "decision: full for commit"
sign_words sign.Cut = codes "permanent cut after a commit"
sign_words sign.Failure = codes "failure; dashed while down"
sign_words sign.Refusal = codes "unwilling or refused, and why"
sign_words sign.Wrong = codes "what breaks a rule, or the orphan"
