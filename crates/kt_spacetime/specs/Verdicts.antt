-- How an answer is written.
use Rattle.std.specs.Prelude.{ℕ, Option, Some, None, List, [], ◌++◌, codes}
use Rattle.std.specs.Fmt.{decimal}
use Rattle.kt_spacetime.specs.Rules.{number_of}
use Rattle.kt_spacetime.specs.declared.verdict.Verdict.{Verdict}
use Rattle.kt_spacetime.specs.declared.verdict.Verdict.TheVariants.{Yes, No}
use Rattle.kt_spacetime.specs.declared.verdict.Why.{Why}
use Rattle.kt_spacetime.specs.declared.verdict.Why.TheVariants as why

-- why the checker says no; a rule by its number
abbrev pub why_words : Why → List ℕ
why_words (why.BadLog rule) = codes "BadLog " ++ decimal (number_of rule)
why_words why.Unknown = codes "Unknown"
why_words why.Cause = codes "Cause"
why_words why.Members = codes "Members"
why_words why.Chain = codes "Chain"
why_words why.Orphan = codes "Orphan"
why_words why.Missing = codes "Missing"

-- a number after its name, where there is one
abbrev pub numbered : List ℕ → Option ℕ → List ℕ
numbered name None = []
numbered name (Some n) = name ++ decimal n

-- an answer: yes, or no with the instance, the row and the reason
abbrev pub verdict_words : Verdict → List ℕ
verdict_words Yes = codes "yes"
verdict_words (No inst row why) = codes "no" ++ numbered (codes " instance ") inst ++ numbered (codes " row ") row ++ codes " " ++ why_words why
