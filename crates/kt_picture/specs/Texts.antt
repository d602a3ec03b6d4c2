-- The texts of marks.
use Rattle.std.specs.Prelude.{ℕ, nat_lt, slice_get, unsigned_abs, if◌then◌else◌, Option, Some, None, List, [], ◌∷◌, ◌++◌, codes}
use Rattle.std.specs.List.{concat}
use Rattle.std.specs.Fmt.{decimal, signed_decimal}
use Rattle.kt_base.specs.declared.words.Kind.TheVariants.{Checkpoint, Rollback}
use Rattle.kt_log_text.specs.Spelling.{cause_word}
use Rattle.kt_spacetime.specs.declared.rules.Rule.{Rule}
use Rattle.kt_spacetime.specs.declared.rules.Rule.TheVariants as rule
use Rattle.kt_spacetime.specs.Rules.{number_of}
use Rattle.kt_picture.specs.declared.legend.Sign.{Sign}
use Rattle.kt_picture.specs.declared.words.Saying.{Saying}
use Rattle.kt_picture.specs.declared.words.Saying.TheVariants as say
use Rattle.kt_picture.specs.declared.words.Word.{Word}
use Rattle.kt_picture.specs.Escaping.{escaped}
use Rattle.kt_picture.specs.Signs.{sign_path, sign_words}
use Rattle.kt_picture.specs.Looks.{path_text}

-- the name of a process, or its number where it has none, in which nothing is read as a mark
abbrev pub name_or : Option (List ℕ) → ℕ → List ℕ
name_or None p = decimal p
name_or (Some name) p = escaped name

abbrev pub name_text : List (List ℕ) → ℕ → List ℕ
name_text names p = name_or (slice_get names p) p

-- a rule by number and name
abbrev pub rule_name : Rule → List ℕ
rule_name rule.Numbers = codes "numbers"
rule_name rule.Message = codes "message"
rule_name rule.Order = codes "order"
rule_name rule.Sending = codes "sending"
rule_name rule.Receiving = codes "receiving"
rule_name rule.Joining = codes "joining"
rule_name rule.Deciding = codes "deciding"
rule_name rule.Closing = codes "closing"
rule_name rule.Causes = codes "causes"

abbrev pub rule_label : Rule → List ℕ
rule_label rule = concat (codes "rule " ∷ decimal (number_of rule) ∷ codes ", " ∷ rule_name rule ∷ [])

-- what a word says: the number of a row, a rule, the name of an instance, a cause, or a message with its body where that is
-- known
abbrev pub say_text : Saying → List ℕ
say_text (say.Column row) = decimal row
say_text (say.Rule rule) = rule_label rule
say_text (say.Instance Checkpoint inst) = codes "C" ++ decimal inst
say_text (say.Instance Rollback inst) = codes "R" ++ decimal inst
say_text (say.Row row) = decimal row
say_text (say.Why cause) = cause_word cause
say_text (say.Message msg None) = decimal msg
say_text (say.Message msg (Some body)) = concat (decimal msg ∷ codes ": " ∷ signed_decimal body ∷ [])

-- its class, as the style sheet names it
abbrev pub say_class : Saying → List ℕ
say_class (say.Column row) = codes "top"
say_class (say.Rule rule) = codes "rule"
say_class (say.Instance kind inst) = codes "inst"
say_class (say.Row row) = codes "num"
say_class (say.Why cause) = codes "bad"
say_class (say.Message msg body) = codes "say"

-- where it begins beside its place; one with a long body is set narrower, so that it is no wider than four columns
abbrev pub say_shift : Saying → List ℕ
say_shift (say.Column row) = []
say_shift (say.Rule rule) = []
say_shift (say.Message msg (Some body)) =
    if nat_lt 9999999 (unsigned_abs body) then codes " dx='4' textLength='96' lengthAdjust='spacingAndGlyphs'" else codes " dx='4'"
say_shift _ = codes " dx='4'"

-- a word
abbrev pub word_text : Word → List ℕ
word_text word = concat (
    codes "<text class='" ∷ say_class word.saying ∷ codes "' x='" ∷ decimal word.x ∷ codes "' y='" ∷ decimal word.y ∷ codes "'" ∷ say_shift word.saying
    ∷ codes ">" ∷ say_text word.saying ∷ codes "</text>\n" ∷ [])

-- the same of a word that may not be there
abbrev pub drawn : Option Word → List ℕ
drawn None = []
drawn (Some word) = word_text word

-- a line of the legend, which begins there: how a mark looks, and what is said of it
abbrev pub line_text : Sign → ℕ → ℕ → List ℕ
line_text sign x y = concat (
    codes "<g transform='translate(" ∷ decimal x ∷ codes " " ∷ decimal y ∷ codes ")'>" ∷ path_text (sign_path sign) ∷ codes "<text x='44' y='4'>" ∷ sign_words sign
    ∷ codes "</text></g>\n" ∷ [])
