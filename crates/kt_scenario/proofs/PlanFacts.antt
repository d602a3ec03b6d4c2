-- Every plan that is said keeps to the limits.
use Rattle.std.proofs.Common.{◌≡◌, ◌<◌, ◌≤◌, ◌+◌, ◌-◌, ℕ, List, [], ◌∷◌, ◌++◌, Bool, true, false, length, refl, sym, arith, subst}
use Rattle.std.specs.Prelude.{Option, Some, None, All, MatchBool, if◌then◌else◌}
use Rattle.std.specs.Str.{bytes_eq}
use Rattle.std.proofs.lemmas.List.{length-append}
use Rattle.std.proofs.lemmas.List.Elements.{All-push, All-weaker}
use Rattle.std.proofs.lemmas.List.Quantifiers.{position-Some}
use Rattle.std.proofs.lemmas.List.Sorted.{IsNonDecreasingBy-push}
use Rattle.kt_plan.specs.declared.commands.Command.{Command}
use Rattle.kt_plan.specs.declared.commands.Job.{Job}
use Rattle.kt_plan.specs.declared.commands.Job.TheVariants as job
use Rattle.kt_plan.specs.Names.{number_in}
use Rattle.kt_plan.specs.Limits.{IsPlan, IsKindOfObject, IsJobOf, IsCommandOf}
use Rattle.kt_plan.proofs.NameFacts.{one_more}
use Rattle.kt_scenario.specs.declared.draft.Word.{Word}
use Rattle.kt_scenario.specs.declared.draft.Word.TheVariants.{Object, Send, Checkpoint, Rollback, Fail, Settle}
use Rattle.kt_scenario.specs.Lines.{words_of, is_silent, Reads}
use Rattle.kt_scenario.specs.Said.{Said, nothing_said, plan_of, with_command, word_in, kind_in}
use Rattle.kt_scenario.specs.Scenario.{IsObject, IsSend, IsOrder, SaysAfter, Says}

-- what every scenario keeps to while it is read
pub record IsSaid (said : Said) : Type 0 where
  pub plan : IsPlan (plan_of said)
  pub phases : All (λ (command : Command). command.phase ≤ said.phase) said.commands

pub nothing : IsSaid nothing_said
nothing = record {
  plan = record {
    names = record { few = omega arith; proper = λ k d l. absurd (omega arith); distinct = λ i j d a b. absurd (omega arith) };
    one_kind_each = refl;
    kinds = λ k d l. absurd (omega arith);
    few = omega arith;
    commands = λ k d l. absurd (omega arith);
    phases = λ i j d a b. absurd (omega arith);
  };
  phases = λ k d l. absurd (omega arith);
}

known_kind : (word : List ℕ) (kind : ℕ) → kind_in word ≡ Some kind → IsKindOfObject kind
known_kind word kind = by (bytes_eq word _) (bytes_eq word _) (bytes_eq word _)
  where
    by : (a b c : Bool) → (if a then Some 0 else if b then Some 1 else if c then Some 2 else None) ≡ Some kind → IsKindOfObject kind
    by true b c e = let same : 0 ≡ kind = cc e in omega arith
    by false true c e = let same : 1 ≡ kind = cc e in omega arith
    by false false true e = let same : 2 ≡ kind = cc e in omega arith
    by false false false e = cc e

wider_job : (n by : ℕ) (one : Job) → IsJobOf n by one → IsJobOf (n + 1) by one
wider_job n by (job.Send to body) h = (omega (arith, h.0), h.1)
wider_job n by job.Checkpoint h = tt
wider_job n by job.Rollback h = tt
wider_job n by job.Fail h = tt

object : (old new : Said) (name kind : List ℕ) → IsSaid old → IsObject old name kind new → IsSaid new
object old new name kind said o =
    let long = length-append old.names (name ∷ []) in
    let n : length (old.names ++ name ∷ []) ≡ length old.names + 1 = omega (arith, long) in
    subst IsSaid (sym o.said) (record {
      plan = record {
        names = one_more old.names name said.plan.names o.proper o.unknown o.room;
        one_kind_each = omega (arith, long, length-append old.kinds (o.number ∷ []), said.plan.one_kind_each);
        kinds = All-push IsKindOfObject old.kinds o.number said.plan.kinds (known_kind kind o.number o.known_kind);
        few = said.plan.few;
        commands = subst (λ (m : ℕ). All (IsCommandOf m) old.commands) (sym n)
            (All-weaker (IsCommandOf (length old.names)) (IsCommandOf (length old.names + 1)) (λ c h. (omega (arith, h.0), wider_job _ _ _ h.1)) old.commands said.plan.commands);
        phases = said.plan.phases;
      };
      phases = said.phases;
    })

command : (old new : Said) (by : ℕ) (one : Job) → IsSaid old → by < length old.names → IsJobOf (length old.names) by one → length old.commands < 4096 → new ≡ with_command old by one → IsSaid new
command old new by one said there fits room is =
    let added : Command = record { by = by; phase = old.phase; job = one } in
    subst IsSaid (sym is) (record {
      plan = record {
        names = said.plan.names;
        one_kind_each = said.plan.one_kind_each;
        kinds = said.plan.kinds;
        few = omega (arith, length-append old.commands (added ∷ []));
        commands = All-push (IsCommandOf (length old.names)) old.commands added said.plan.commands (there, fits);
        phases = IsNonDecreasingBy-push (λ (c : Command). c.phase) old.commands added said.plan.phases (λ d some. said.phases (length old.commands - 1) d (omega arith));
      };
      phases = All-push (λ (c : Command). c.phase ≤ old.phase) old.commands added said.phases (omega arith);
    })

there : (names : List (List ℕ)) (name : List ℕ) (by : ℕ) → number_in names name ≡ Some by → by < length names
there names name by e = (position-Some (bytes_eq name) names by [] e).0

order : (old new : Said) (name : List ℕ) (one : Job) → IsSaid old → ((by : ℕ) → IsJobOf (length old.names) by one) → IsOrder old one name new → IsSaid new
order old new name one said fits o = command old new o.by one said (there old.names name o.by o.known) (fits o.by) o.room o.said

send : (old new : Said) (from to body : List ℕ) → IsSaid old → IsSend old from to body new → IsSaid new
send old new from to body said o =
    command old new o.by (job.Send o.at o.value) said (there old.names from o.by o.sender) (there old.names to o.at o.receiver, λ same. o.another (sym same)) o.room o.said

after : (word : Option Word) (old new : Said) (words : List (List ℕ)) → IsSaid old → SaysAfter word old words new → IsSaid new
after None old new words said says = absurd says
after (Some Object) old new words said says = object old new says.0 says.1 said says.3
after (Some Send) old new words said says = send old new says.0 says.1 says.2 said says.4
after (Some Checkpoint) old new words said says = order old new says.0 job.Checkpoint said (λ by. tt) says.2
after (Some Rollback) old new words said says = order old new says.0 job.Rollback said (λ by. tt) says.2
after (Some Fail) old new words said says = order old new says.0 job.Fail said (λ by. tt) says.2
after (Some Settle) old new words said says = subst IsSaid (sym says.1) (record {
  plan = said.plan;
  phases = All-weaker (λ (c : Command). c.phase ≤ old.phase) (λ (c : Command). c.phase ≤ old.phase + 1) (λ c h. omega arith) old.commands said.phases;
})

says_words : (old new : Said) (words : List (List ℕ)) → IsSaid old → Says old words new → IsSaid new
says_words old new [] said says = absurd says
says_words old new (word ∷ words) said says = after (word_in word) old new words said says

by_silence : (silent : Bool) (old new : Said) (words : List (List ℕ)) → IsSaid old → MatchBool silent (new ≡ old) (Says old words new) → IsSaid new
by_silence true old new words said same = subst IsSaid (sym same) said
by_silence false old new words said says = says_words old new words said says

-- after any lines the limits are kept
pub kept : (old new : Said) (lines : List (List ℕ)) → IsSaid old → Reads Says old lines new → IsSaid new
kept old new [] said same = subst IsSaid (sym same) said
kept old new (line ∷ lines) said read = kept read.0 new lines (by_silence (is_silent (words_of line)) old read.0 (words_of line) said read.1) read.2
