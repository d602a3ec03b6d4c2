-- A node that is bytes: the states that they say, and how an input leads from one to the next one.
use Rattle.std.specs.Prelude.{◌≡◌, ◌<◌, ◌≤◌, ◌+◌, ◌-◌, ◌^◌, ◌⊎◌, ℕ, max, Bool, true, false, Option, Some, None, is_some, option_map, Result, Ok, Err, List, [], ◌∷◌, length, slice_get, slice_index}
use Rattle.kt_meaning.specs.Past.{at_one}
use Rattle.kt_checksum.specs.Checksums.{sealed}
use Rattle.kt_text.specs.Writing.{text_of}
use Rattle.kt_manager.specs.Nodes.{NodeState, Doing, is_in_rollback}
use Rattle.kt_node.specs.NodeSteps.{node_after}
use Rattle.kt_node.specs.Nets.{opening_net, has_some}
use Rattle.kt_manager.specs.declared.parcels.NodeParcel.{NodeParcel}
use Rattle.kt_manager.specs.ShownActs.{acts_shown}
use Rattle.kt_merge.specs.Spelling.{part_spelling}
use Rattle.kt_spacetime.specs.declared.named_rows.ClockedRow.{ClockedRow}
use Rattle.kt_node.specs.Managers.{ShowsNode}
use Rattle.kt_manager.specs.Effects.{put_to}
use Rattle.kt_node.specs.Faults.{fault_at, wants_memory}
use Rattle.kt_node.specs.Links.{NodeLinks, ShowsLinks, IsGiven, IsParcelRefusedAs}
use Rattle.kt_node.specs.Looks.{clock_of, input_of, meeting_at, node_look}
use Rattle.kt_node.specs.declared.faults.ManagerFault.TheVariants as manager
use Rattle.kt_node.specs.declared.inputs.Input.{Input}
use Rattle.kt_node.specs.declared.inputs.Input.TheVariants.{Send, Begin, Fail, Redeliver, Deliver}
use Rattle.kt_node.specs.declared.node.Envelope.{Envelope}
use Rattle.kt_node.specs.declared.node.NodeFault.{NodeFault}
use Rattle.kt_node.specs.declared.node.NodeFault.TheVariants as fault
use Rattle.kt_node.specs.declared.node.Output.{Output}
use Rattle.kt_node.specs.declared.node.Taken.{Taken}
use Rattle.kt_node.specs.declared.node.Taken.TheVariants.{Step, Again}
use Rattle.kt_node_text.specs.Form.{text_of as node_text}
use Rattle.kt_node_text.specs.Sameness.{IsOwn, IsSound}
use Rattle.koo_toueg_c.specs.NodeNumbers.{act_told, input_meant, look_status, of_truth, parcel_numbers, part_row_meant, row_numbers, truth_meant}
use Rattle.koo_toueg_c.specs.declared.node.input.KtInput.{KtInput}
use Rattle.koo_toueg_c.specs.declared.node.output.KtOutput.{KtOutput}
use Rattle.koo_toueg_c.specs.declared.node.refusal.Refusal.{Refusal}
use Rattle.koo_toueg_c.specs.declared.node.refusal.Refusal.TheVariants as refusal
use Rattle.koo_toueg_c.specs.declared.node.row.KtRow.{KtRow}
use Rattle.koo_toueg_c.specs.declared.node.stepping.Step.{Step as StepMade}

-- bytes are those of a node
pub record SaysNode (bytes : List ℕ) (w : NodeLinks) : Type 0 where
  pub own : IsOwn w
  pub said : bytes ≡ node_text w

-- and bytes are what is saved of a node
pub record SavesNode (bytes : List ℕ) (w : NodeLinks) : Type 0 where
  pub sound : IsSound w
  pub said : bytes ≡ node_text w

-- and so they say whatever state that node is
pub record SaysState (bytes : List ℕ) (y : NodeState) : Type 0 where
  pub node : NodeLinks
  pub says : SaysNode bytes node
  pub shows : ShowsLinks node y

-- bytes say the node of a process among so many that has done nothing
pub record SaysNewNode (me processes : ℕ) (bytes : List ℕ) : Type 0 where
  pub there : (me < processes) × (processes ≤ 64)
  pub state : SaysState bytes ((opening_net processes 0).nodes me)

-- why there is no such node
abbrev pub IsNoNewNode : ℕ → ℕ → Refusal → Type 0
IsNoNewNode me processes refusal.Input = (me < processes) × (processes ≤ 64) → ⊥
IsNoNewNode me processes refusal.Memory = (me < processes) × (processes ≤ 64)
IsNoNewNode me processes refusal.State = ⊥
IsNoNewNode me processes (refusal.Node f) = ⊥

-- what was taken of each process after a step: the next parcel of one, where it takes a parcel
abbrev pub TakesOne : NodeLinks → NodeLinks → Input → Type 0
TakesOne old new (Deliver from e) = (e.number ≡ slice_index old.taken from + 1)
    × ((q : ℕ) → slice_index new.taken q ≡ at_one from e.number (slice_index old.taken) q)
TakesOne old new (Send to body) = new.taken ≡ old.taken
TakesOne old new (Begin kind) = new.taken ≡ old.taken
TakesOne old new Fail = new.taken ≡ old.taken
TakesOne old new (Redeliver from) = new.taken ≡ old.taken

-- an input makes a step, in order, or came before
abbrev pub TakesInOrder : NodeLinks → NodeLinks → Input → Taken → Type 0
TakesInOrder old new x Step = TakesOne old new x
TakesInOrder old new x Again = Unit {0}

-- what the rule does at an input, where its object can be saved or not
abbrev pub rule_at : NodeState → Bool → Input → Doing
rule_at y able x = node_after y (input_of able x)

-- what a step puts out is what the rule does
pub record PutsOut (out : Output) (d : Doing) : Type 0 where
  pub rows : out.effects.rows ≡ d.rows
  pub acts : acts_shown out.effects.acts ≡ d.acts
  pub parcels : (q : ℕ) → put_to out.effects.parcels q ≡ d.puts q

-- the next clock, and the next numbers of what is put and taken
pub record IsNextOf (old new : NodeLinks) (x : Input) (d : Doing) (out : Output) : Type 0 where
  pub clock : new.clock ≡ max old.clock (clock_of x) + 1
  pub told : out.clock ≡ new.clock
  pub sender : out.from ≡ new.manager.me
  pub sent : (q : ℕ) → q < 64 → slice_index new.sent q ≡ slice_index old.sent q + length (d.puts q)
  pub numbers : out.numbers ≡ new.sent
  pub taken : TakesOne old new x

-- bytes say what the rule makes of a state that bytes said, and that is put out
pub record IsMadeOf (before : List ℕ) (x : Input) (d : Doing) (after : List ℕ) (out : Output) : Type 0 where
  pub state : SaysState after d.state
  pub puts : PutsOut out d
  pub links : (w : NodeLinks) → SaysNode before w → (v : NodeLinks) × SaysNode after v × IsNextOf w v x d out

-- so it is of whatever state they said, which does not refuse the input
pub record IsRuleOf (before : List ℕ) (able : Bool) (x : Input) (after : List ℕ) (out : Output) : Type 0 where
  pub rule : (y : NodeState) → SaysState before y → IsMadeOf before x (rule_at y able x) after out
  pub taken : (y : NodeState) → SaysState before y → fault_at y (input_of able x) ≡ None

-- bytes are those of a node, and numbers mean an input, which it meets so
pub record MeetsAs (before : List ℕ) (numbers : KtInput) (x : Input) (met : Result Bool NodeFault) : Type 0 where
  pub meant : input_meant numbers ≡ Some x
  pub node : NodeLinks
  pub says : SaysNode before node
  pub meets : (w : NodeLinks) → SaysNode before w → meeting_at w x ≡ met

-- the step of a node that bytes say, at the input that numbers mean
pub record IsStepOf (before : List ℕ) (numbers : KtInput) (after : List ℕ) (out : Output) : Type 0 where
  pub x : Input
  pub met : MeetsAs before numbers x (Ok true)
  pub rule : IsRuleOf before (truth_meant numbers.able) x after out

-- what a node holds that it could take now: something of this process, or nothing
abbrev pub HoldsOf : NodeLinks → ℕ → Type 0
HoldsOf w q = (y : NodeState) → ShowsNode w.manager y →
    (is_in_rollback y ≡ false) × (has_some (y.held q) ≡ true)

abbrev pub HoldsNone : NodeLinks → Type 0
HoldsNone w = (y : NodeState) (q : ℕ) → ShowsNode w.manager y →
    is_in_rollback y ≡ false → has_some (y.held q) ≡ false

-- the parcel for a process, as it travels
abbrev pub envelope_for : Output → ℕ → NodeParcel → Envelope
envelope_for out q parcel =
    record { from = out.from; to = q; number = slice_index out.numbers q; clock = out.clock; parcel = parcel }

abbrev pub parcel_for : Output → ℕ → Option Envelope
parcel_for out q = option_map (envelope_for out q) (slice_get (put_to out.effects.parcels q) 0)

-- what a step puts out, and how its node stands by then, in numbers
pub record TellsOutput (w : NodeLinks) (out : Output) (told : KtOutput) : Type 0 where
  pub well : (told.fault ≡ 0) × (told.expected ≡ 0) × (told.needed ≡ 0)
  pub clock : told.clock ≡ out.clock
  pub process : told.process ≡ w.manager.me
  pub processes : told.processes ≡ w.manager.size
  pub few_rows : length out.effects.rows ≤ 4
  pub rows : (i : ℕ) → i < 4 → slice_get told.rows i ≡ Some (row_numbers (slice_get out.effects.rows i))
  pub few_acts : length out.effects.acts ≤ 2
  pub acts : (i : ℕ) → i < 2 → slice_get told.acts i ≡ Some (act_told (slice_get out.effects.acts i))
  pub parcels : (q : ℕ) → q < 64 → slice_get told.parcels q ≡ Some (parcel_numbers (parcel_for out q))
  pub busy : told.busy ≡ of_truth (is_some w.manager.inst)
  pub up : told.up ≡ of_truth w.manager.process.up
  pub held : (q : ℕ) → told.held ≡ q + 1 → HoldsOf w q
  pub holds_none : told.held ≡ 0 → HoldsNone w

-- a step was made, and is told
pub record TellsStep (before : List ℕ) (numbers : KtInput) (after : List ℕ) (told : KtOutput) : Type 0 where
  pub out : Output
  pub step : IsStepOf before numbers after out
  pub node : NodeLinks
  pub saves : SavesNode after node
  pub tells : TellsOutput node out told

-- a parcel came before
pub record IsAgainOf (before : List ℕ) (numbers : KtInput) : Type 0 where
  pub x : Input
  pub met : MeetsAs before numbers x (Ok false)

-- a step that was made, and its bytes; or a parcel that came before
abbrev pub IsTaken : List ℕ → KtInput → Output → Option StepMade → Type 0
IsTaken before numbers out None = IsAgainOf before numbers
IsTaken before numbers out (Some step) =
    IsStepOf before numbers step.bytes.items out × SavesNode step.bytes.items step.node

-- a node that bytes say refuses an input that is given to its manager
pub record RefusesGiven (before : List ℕ) (x : Input) (able : Bool) (f : NodeFault) : Type 0 where
  pub given : IsGiven {X = Taken} (Err f)
  pub rule : (y : NodeState) → SaysState before y →
      IsParcelRefusedAs (fault_at y (input_of able x)) (Err f)
  pub spent : f ≡ fault.ClockSpent → (w : NodeLinks) → SaysNode before w →
      2 ^ 64 - 2 ≤ max w.clock (clock_of x)
  pub memory : f ≡ fault.Manager manager.Memory → (y : NodeState) → SaysState before y →
      wants_memory y (input_of able x) ≡ true

-- it refuses an input: it does not meet it, or it is given to its manager
abbrev pub RefusesFor : List ℕ → KtInput → Input → NodeFault → Type 0
RefusesFor before numbers x f = MeetsAs before numbers x (Err f)
    ⊎ (MeetsAs before numbers x (Ok true) × RefusesGiven before x (truth_meant numbers.able) f)

-- bytes have their checksum behind them
abbrev pub IsSealed : List ℕ → Type 0
IsSealed bytes = (text : List ℕ) × (bytes ≡ sealed text)

-- why there is no step; memory is asked for only where the bytes have their checksum behind them
abbrev pub IsNoStep : List ℕ → KtInput → Refusal → Type 0
IsNoStep before numbers refusal.State = (w : NodeLinks) → SaysNode before w → ⊥
IsNoStep before numbers refusal.Input = input_meant numbers ≡ None
IsNoStep before numbers (refusal.Node f) = (x : Input) × RefusesFor before numbers x f
IsNoStep before numbers refusal.Memory = IsSealed before

-- what an input needs of the object of a node that bytes say, as a status
abbrev pub IsLookOf : List ℕ → Input → ℕ → Type 0
IsLookOf bytes x status = (w : NodeLinks) (y : NodeState) → SaysNode bytes w → ShowsLinks w y →
    status ≡ look_status (node_look w y x)

-- a text is the line of a row of a process, with its clock
abbrev pub IsRowText : KtRow → ℕ → ℕ → List ℕ → Type 0
IsRowText numbers clock process text = (row : ClockedRow)
    × (part_row_meant numbers clock process ≡ Some row) × (text ≡ text_of (part_spelling row ∷ []))
