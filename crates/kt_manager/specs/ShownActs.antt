-- The acts that a system answers, as acts of values, and those of what a process does at once.
use Rattle.std.specs.Prelude.{Bool, true, List, [], ◌∷◌, ◌++◌}
use Rattle.kt_base.specs.declared.words.Kind.{Kind}
use Rattle.kt_base.specs.declared.words.Kind.TheVariants.{Checkpoint, Rollback}
use Rattle.kt_process.specs.declared.actions.Action.{Action}
use Rattle.kt_process.specs.declared.actions.Action.TheVariants.{Nothing, Refuse, Join, Reply, Settle}
use Rattle.kt_process.specs.declared.actions.Then.{Then}
use Rattle.kt_process.specs.declared.actions.Then.TheVariants.{Wait, Answer, Commit}
use Rattle.kt_plan.specs.declared.steps.Act.{Act as AnsweredAct}
use Rattle.kt_plan.specs.declared.steps.Act.TheVariants as answered
use Rattle.kt_machine.specs.Values.{Act, Apply, Keep, Promote, Discard, Restore, Drop, closing}

-- an act, where there is one
abbrev pub act_shown : AnsweredAct → List Act
act_shown answered.Nothing = []
act_shown (answered.Apply from body) = Apply from body ∷ []
act_shown answered.Keep = Keep ∷ []
act_shown answered.Promote = Promote ∷ []
act_shown answered.Discard = Discard ∷ []
act_shown answered.Restore = Restore ∷ []
act_shown answered.Drop = Drop ∷ []

-- some acts, in order
abbrev pub acts_shown : List AnsweredAct → List Act
acts_shown [] = []
acts_shown (act ∷ acts) = act_shown act ++ acts_shown acts

-- who joins a checkpoint keeps its object's state
abbrev pub acts_joining : Kind → List Act
acts_joining Checkpoint = Keep ∷ []
acts_joining Rollback = []

-- who has joined, a rollback or not, and commits at once closes its instance
abbrev pub acts_going_on : Bool → Then → List Act
acts_going_on roll Commit = closing roll true
acts_going_on roll Wait = []
acts_going_on roll (Answer to) = []

-- what follows from a command to begin an instance of a kind, or from an ask to take part in one
abbrev pub acts_carried_out : Kind → Bool → Action → List Act
acts_carried_out kind roll (Join asks goes) = acts_joining kind ++ acts_going_on roll goes
acts_carried_out kind roll Nothing = []
acts_carried_out kind roll (Refuse cause) = []
acts_carried_out kind roll (Reply to willing cause) = []
acts_carried_out kind roll (Settle commit tell) = []

-- what follows from a reply
abbrev pub acts_gone_on : Bool → Action → List Act
acts_gone_on roll (Settle commit tell) = closing roll commit
acts_gone_on roll Nothing = []
acts_gone_on roll (Refuse cause) = []
acts_gone_on roll (Join asks goes) = []
acts_gone_on roll (Reply to willing cause) = []
