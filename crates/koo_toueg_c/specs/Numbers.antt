-- What calls tell in numbers.
use Rattle.std.specs.Prelude.{◌≡◌, ℕ, ◌+◌, if◌then◌else◌, Bool, Option, Some, None, List, [], ◌∷◌}
use Rattle.kt_spacetime.specs.declared.unfit.Unfit.{Unfit}
use Rattle.kt_spacetime.specs.declared.unfit.Unfit.TheVariants as unfit
use Rattle.kt_chain.specs.declared.fault.CertTextFault.{CertTextFault}
use Rattle.kt_chain.specs.declared.fault.CertTextFault.TheVariants as cert
use Rattle.kt_spacetime.specs.declared.verdict.Verdict.{Verdict}
use Rattle.kt_spacetime.specs.declared.verdict.Verdict.TheVariants.{Yes, No}
use Rattle.kt_spacetime.specs.declared.verdict.Why.{Why}
use Rattle.kt_spacetime.specs.declared.verdict.Why.TheVariants as why
use Rattle.kt_spacetime.specs.Rules.{number_of}
use Rattle.kt_draw.specs.declared.span.DrawFault.{DrawFault}
use Rattle.kt_draw.specs.declared.span.DrawFault.TheVariants as draw
use Rattle.kt_draw.specs.declared.span.PictureFault.TheVariants as picture
use Rattle.kt_explain.specs.Answers.{passes}
use Rattle.kt_explain.specs.declared.answer.Answer.{Answer}
use Rattle.kt_explain.specs.declared.answer.Answer.TheVariants.{Checked, Unlinked, Open}
use Rattle.kt_merge.specs.declared.fault.MergeFault.{MergeFault}
use Rattle.kt_merge.specs.declared.fault.MergeFault.TheVariants as merge
use Rattle.kt_merge.specs.declared.fault.RowFault.TheVariants as row
use Rattle.kt_merge.specs.declared.part_fault.PartFault.TheVariants as part
use Rattle.kt_log_text.specs.declared.fault.LogFault.{LogFault}
use Rattle.kt_log_text.specs.declared.fault.LogFault.TheVariants as log
use Rattle.koo_toueg_c.specs.declared.answer.KtAnswer.{KtAnswer}
use Rattle.koo_toueg_c.specs.declared.fault.Fault.{Fault}
use Rattle.koo_toueg_c.specs.declared.fault.Fault.TheVariants.{Log, Certificates, Picture, Memory}
use Rattle.koo_toueg_c.specs.declared.fault.KtFault.{KtFault}

-- the sizes, in bytes, of an answer, a fault and a length, and of a node's parcel, input, row, act and output
abbrev pub struct_sizes : List ℕ
struct_sizes = 20 ∷ 24 ∷ 8 ∷ 64 ∷ 88 ∷ 64 ∷ 16 ∷ 4432 ∷ []

-- 0 for a number that is not named
abbrev pub or_zero : Option ℕ → ℕ
or_zero None = 0
or_zero (Some n) = n

-- why an answer is a no
abbrev pub why_number : Why → ℕ
why_number (why.BadLog rule) = 1
why_number why.Unknown = 2
why_number why.Cause = 3
why_number why.Members = 4
why_number why.Chain = 5
why_number why.Orphan = 6
why_number why.Missing = 7

-- the rule that a row breaks, where that is why
abbrev pub rule_named : Why → ℕ
rule_named (why.BadLog rule) = number_of rule
rule_named _ = 0

-- what a yes names, and what is told where there is no answer
abbrev pub no_answer : KtAnswer
no_answer = record { why = 0; rule = 0; inst = 0; row = 0; process = 0 }

-- what an answer of the checker names
abbrev pub verdict_numbers : Verdict → KtAnswer
verdict_numbers Yes = no_answer
verdict_numbers (No inst row w) =
    record { why = why_number w; rule = rule_named w; inst = or_zero inst; row = or_zero row; process = 0 }

-- what is named of a log that means no certificates
abbrev pub unlinked_numbers : Unfit → KtAnswer
unlinked_numbers (unfit.BadLog row rule) = record { why = 1; rule = number_of rule; inst = 0; row = row; process = 0 }
unlinked_numbers (unfit.NoChain inst row p) = record { why = 8; rule = 0; inst = inst; row = row; process = p }

-- what an answer names
abbrev pub answer_numbers : Answer → KtAnswer
answer_numbers (Checked verdict) = verdict_numbers verdict
answer_numbers (Unlinked w) = unlinked_numbers w
answer_numbers Open = record { why = 9; rule = 0; inst = 0; row = 0; process = 0 }

-- 0 for a yes, 1 for a no
abbrev pub answer_status : Bool → ℕ
answer_status passed = if passed then 0 else 1

-- a fault that names a text and a place in it at most
abbrev pub text_fault : ℕ → ℕ → ℕ → KtFault
text_fault text what place = record { text = text; what = what; place = place; rule = 0; inst = 0; process = 0 }

abbrev pub no_fault : KtFault
no_fault = text_fault 0 0 0

-- a fault of a log: what is wrong, and in which row
abbrev pub log_numbers : LogFault → KtFault
log_numbers log.Read = text_fault 1 1 0
log_numbers log.TooLong = text_fault 1 2 0
log_numbers log.Version = text_fault 1 3 0
log_numbers (log.Fields row) = text_fault 1 4 row
log_numbers (log.Word row) = text_fault 1 5 row
log_numbers (log.Number row) = text_fault 1 6 row
log_numbers log.Memory = text_fault 0 8 0

-- a fault of certificates: what is wrong, and in which record
abbrev pub cert_numbers : CertTextFault → KtFault
cert_numbers cert.Read = text_fault 2 1 0
cert_numbers cert.TooLong = text_fault 2 2 0
cert_numbers (cert.Fields n) = text_fault 2 4 n
cert_numbers (cert.Word n) = text_fault 2 5 n
cert_numbers (cert.Number n) = text_fault 2 6 n
cert_numbers (cert.Place n) = text_fault 2 7 n
cert_numbers cert.Memory = text_fault 0 8 0

-- a fault of stored texts
abbrev pub fault_numbers : Fault → KtFault
fault_numbers (Log fault) = log_numbers fault
fault_numbers (Certificates fault) = cert_numbers fault
fault_numbers (Picture picture.NoRows) = text_fault 1 11 0
fault_numbers (Picture picture.TooLong) = text_fault 1 12 0
fault_numbers Memory = text_fault 0 8 0

-- a fault of parts: of which one, by its process, what is wrong, and in which record
abbrev pub merge_numbers : MergeFault → KtFault
merge_numbers merge.Write = text_fault 0 8 0
merge_numbers merge.Memory = text_fault 0 8 0
merge_numbers (merge.Part p part.Memory) = text_fault 0 8 0
merge_numbers (merge.Part p part.Read) = text_fault (p + 1) 1 0
merge_numbers (merge.Part p part.TooLong) = text_fault (p + 1) 2 0
merge_numbers (merge.Part p (part.Fields n)) = text_fault (p + 1) 4 n
merge_numbers (merge.Part p (part.Word n)) = text_fault (p + 1) 5 n
merge_numbers (merge.Part p (part.Number n)) = text_fault (p + 1) 6 n
merge_numbers (merge.Part p (part.Clock n)) = text_fault (p + 1) 13 n
merge_numbers (merge.Part p (part.Process n)) = text_fault (p + 1) 14 n
merge_numbers (merge.Row p n row.Name) = text_fault (p + 1) 15 n
merge_numbers (merge.Row p n row.NotSent) = text_fault (p + 1) 16 n
merge_numbers (merge.Row p n row.NotBegun) = text_fault (p + 1) 17 n
merge_numbers (merge.Row p n row.TooManyRows) = text_fault (p + 1) 18 n
merge_numbers (merge.Row p n row.TooManyInstances) = text_fault (p + 1) 19 n

-- there is a part behind the 64th one
abbrev pub too_many_parts : KtFault
too_many_parts = text_fault 65 20 0

-- why a log has no certificates: the row that breaks a rule, or that commits an instance with a member without a chain
abbrev pub unfit_numbers : Unfit → KtFault
unfit_numbers (unfit.BadLog row rule) = record { text = 1; what = 9; place = row; rule = number_of rule; inst = 0; process = 0 }
unfit_numbers (unfit.NoChain inst row p) = record { text = 1; what = 10; place = row; rule = 0; inst = inst; process = p }

-- 2 refused input, 3 a text that could not be read, 4 want of memory
abbrev pub fault_status : Fault → ℕ
fault_status (Log log.Read) = 3
fault_status (Log log.Memory) = 4
fault_status (Log _) = 2
fault_status (Certificates cert.Read) = 3
fault_status (Certificates cert.Memory) = 4
fault_status (Certificates _) = 2
fault_status (Picture _) = 2
fault_status Memory = 4

abbrev pub merge_status : MergeFault → ℕ
merge_status merge.Write = 4
merge_status merge.Memory = 4
merge_status (merge.Part p part.Memory) = 4
merge_status (merge.Part p part.Read) = 3
merge_status (merge.Part p fault) = 2
merge_status (merge.Row p n fault) = 2

-- a fault of a log, of certificates or of a picture; want of memory is no fault of a text
abbrev pub of_log : LogFault → Fault
of_log log.Memory = Memory
of_log fault = Log fault

abbrev pub of_cert : CertTextFault → Fault
of_cert cert.Memory = Memory
of_cert fault = Certificates fault

abbrev pub of_draw : DrawFault → Fault
of_draw (draw.Log fault) = of_log fault
of_draw (draw.Picture w) = Picture w

-- an answer is told, with its status, and no fault
pub record TellsAnswer (found : Answer) (status : ℕ) (answer : KtAnswer) (fault : KtFault) : Type 0 where
  pub names : answer ≡ answer_numbers found
  pub ends : status ≡ answer_status (passes found)
  pub well : fault ≡ no_fault

-- a fault is told, with its status
pub record TellsFault (why : Fault) (status : ℕ) (fault : KtFault) : Type 0 where
  pub names : fault ≡ fault_numbers why
  pub ends : status ≡ fault_status why
