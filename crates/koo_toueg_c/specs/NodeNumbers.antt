-- What a node takes and puts out, in numbers.
use Rattle.std.specs.Prelude.{ℕ, ◌+◌, ◌^◌, ◌==◌, ◌&&◌, not, nat_lt, if◌then◌else◌, pos, Bool, Option, Some, None, option_map, replicate}
use Rattle.std.specs.Option.{option_and_then}
use Rattle.kt_base.specs.declared.words.Kind.{Kind}
use Rattle.kt_base.specs.declared.words.Kind.TheVariants.{Checkpoint, Rollback}
use Rattle.kt_base.specs.declared.words.Verb.{Verb}
use Rattle.kt_base.specs.declared.words.Verb.TheVariants as verb
use Rattle.kt_plan.specs.declared.steps.Act.{Act}
use Rattle.kt_plan.specs.declared.steps.Act.TheVariants as act
use Rattle.kt_plan.specs.declared.steps.Look.{Look}
use Rattle.kt_plan.specs.declared.steps.Look.TheVariants as look
use Rattle.kt_spacetime.specs.declared.names.InstName.{InstName}
use Rattle.kt_spacetime.specs.declared.named_rows.NamedCause.{NamedCause}
use Rattle.kt_spacetime.specs.declared.named_rows.NamedCause.TheVariants.{Busy, Down, NoSave}
use Rattle.kt_spacetime.specs.declared.named_rows.NamedEvent.{NamedEvent}
use Rattle.kt_spacetime.specs.declared.named_rows.NamedEvent.TheVariants as row
use Rattle.kt_manager.specs.declared.parcels.NodeParcel.{NodeParcel}
use Rattle.kt_manager.specs.declared.parcels.NodeParcel.TheVariants.{App, Ask, Reply, Decide}
use Rattle.kt_spacetime.specs.declared.named_rows.ClockedRow.{ClockedRow}
use Rattle.kt_node.specs.declared.faults.ManagerFault.{ManagerFault}
use Rattle.kt_node.specs.declared.faults.ManagerFault.TheVariants as manager
use Rattle.kt_node.specs.declared.inputs.Input.{Input}
use Rattle.kt_node.specs.declared.inputs.Input.TheVariants as input
use Rattle.kt_node.specs.declared.node.Envelope.{Envelope}
use Rattle.kt_node.specs.declared.node.NodeFault.TheVariants as fault
use Rattle.kt_node_text.specs.declared.fault.LoadFault.{LoadFault}
use Rattle.kt_node_text.specs.declared.fault.LoadFault.TheVariants as load
use Rattle.koo_toueg_c.specs.declared.node.input.KtInput.{KtInput}
use Rattle.koo_toueg_c.specs.declared.node.output.KtAct.{KtAct}
use Rattle.koo_toueg_c.specs.declared.node.output.KtOutput.{KtOutput}
use Rattle.koo_toueg_c.specs.declared.node.parcel.KtParcel.{KtParcel}
use Rattle.koo_toueg_c.specs.declared.node.refusal.Refusal.{Refusal}
use Rattle.koo_toueg_c.specs.declared.node.refusal.Refusal.TheVariants as refusal
use Rattle.koo_toueg_c.specs.declared.node.row.KtRow.{KtRow}

-- 0 is no
abbrev pub truth_meant : ℕ → Bool
truth_meant n = not (n == 0)

abbrev pub of_truth : Bool → ℕ
of_truth b = if b then 1 else 0

abbrev pub kind_meant : ℕ → Kind
kind_meant n = if n == 0 then Checkpoint else Rollback

abbrev pub of_kind : Kind → ℕ
of_kind Checkpoint = 0
of_kind Rollback = 1

-- a process; one of those that a process named, from 1; a label, which may be 0
abbrev pub process_meant : ℕ → Option ℕ
process_meant n = if nat_lt n 64 then Some n else None

abbrev pub count_meant : ℕ → Option ℕ
count_meant n = if not (n == 0) && nat_lt n (2 ^ 48) then Some n else None

abbrev pub label_meant : ℕ → Option ℕ
label_meant n = if nat_lt n (2 ^ 48) then Some n else None

-- an instance, by its initiator
abbrev pub inst_of : ℕ → ℕ → InstName
inst_of p n = record { initiator = p; count = n }

abbrev pub inst_meant : ℕ → ℕ → Option InstName
inst_meant p n = option_and_then (λ q. option_map (inst_of q) (count_meant n)) (process_meant p)

-- what a parcel says
abbrev pub ask_meant : KtParcel → InstName → Option NodeParcel
ask_meant x k = option_map (Ask k (kind_meant x.rollback)) (label_meant x.label)

abbrev pub parcel_meant : KtParcel → Option NodeParcel
parcel_meant x =
    if x.kind == 1 then option_map (λ label. App label x.body) (count_meant x.label)
    else if x.kind == 2 then option_and_then (ask_meant x) (inst_meant x.initiator x.count)
    else if x.kind == 3 then option_map (λ k. Reply k (truth_meant x.yes)) (inst_meant x.initiator x.count)
    else if x.kind == 4 then option_map (λ k. Decide k (truth_meant x.yes)) (inst_meant x.initiator x.count)
    else None

abbrev pub envelope_between : KtParcel → ℕ → ℕ → NodeParcel → Envelope
envelope_between x from to p =
    record { from = from; to = to; number = x.number; clock = x.clock; parcel = p }

abbrev pub envelope_from : KtParcel → ℕ → Option Envelope
envelope_from x from =
    option_and_then (λ to. option_map (envelope_between x from to) (parcel_meant x)) (process_meant x.to)

abbrev pub envelope_meant : KtParcel → Option Envelope
envelope_meant x = option_and_then (envelope_from x) (process_meant x.from)

abbrev pub no_parcel : KtParcel
no_parcel = record {
  kind = 0;
  from = 0;
  to = 0;
  initiator = 0;
  rollback = 0;
  yes = 0;
  number = 0;
  clock = 0;
  count = 0;
  label = 0;
  body = pos 0;
}

-- a parcel of an instance
abbrev pub inst_parcel : ℕ → InstName → KtParcel
inst_parcel kind k = record no_parcel { kind = kind; initiator = k.initiator; count = k.count }

abbrev pub parcel_told : NodeParcel → KtParcel
parcel_told (App label body) = record no_parcel { kind = 1; label = label; body = body }
parcel_told (Ask k kind label) = record (inst_parcel 2 k) { rollback = of_kind kind; label = label }
parcel_told (Reply k w) = record (inst_parcel 3 k) { yes = of_truth w }
parcel_told (Decide k c) = record (inst_parcel 4 k) { yes = of_truth c }

abbrev pub parcel_numbers : Option Envelope → KtParcel
parcel_numbers None = no_parcel
parcel_numbers (Some e) =
    record (parcel_told e.parcel) { from = e.from; to = e.to; number = e.number; clock = e.clock }

-- what comes to a node
abbrev pub coming_of : KtInput → ℕ → Option Input
coming_of x from = option_map (input.Deliver from) (envelope_meant x.parcel)

abbrev pub input_meant : KtInput → Option Input
input_meant x =
    if x.kind == 1 then option_map (λ to. input.Send to x.body) (process_meant x.peer)
    else if x.kind == 2 then Some (input.Begin (kind_meant x.rollback))
    else if x.kind == 3 then Some input.Fail
    else if x.kind == 4 then option_map input.Redeliver (process_meant x.peer)
    else if x.kind == 5 then option_and_then (coming_of x) (process_meant x.peer)
    else None

-- a command
abbrev pub verb_number : Verb → ℕ
verb_number verb.Send = 1
verb_number verb.Checkpoint = 2
verb_number verb.Rollback = 3
verb_number verb.Fail = 4

abbrev pub verb_meant : ℕ → Option Verb
verb_meant n =
    if n == 1 then Some verb.Send
    else if n == 2 then Some verb.Checkpoint
    else if n == 3 then Some verb.Rollback
    else if n == 4 then Some verb.Fail
    else None

-- a row
abbrev pub no_row : KtRow
no_row = record {
  kind = 0;
  peer = 0;
  initiator = 0;
  rollback = 0;
  commit = 0;
  verb = 0;
  cause = 0;
  busy_initiator = 0;
  count = 0;
  busy_count = 0;
  label = 0;
  body = pos 0;
}

abbrev pub message_row : ℕ → ℕ → ℕ → KtRow
message_row kind peer label = record no_row { kind = kind; peer = peer; label = label }

abbrev pub inst_row : ℕ → InstName → KtRow
inst_row kind k = record no_row { kind = kind; initiator = k.initiator; count = k.count }

abbrev pub by_cause : NamedCause → KtRow → KtRow
by_cause (Busy k) x = record x { cause = 1; busy_initiator = k.initiator; busy_count = k.count }
by_cause Down x = record x { cause = 2 }
by_cause NoSave x = record x { cause = 3 }

abbrev pub event_numbers : NamedEvent → KtRow
event_numbers (row.Sent to body label) = record (message_row 1 to label) { body = body }
event_numbers (row.Received from label) = message_row 2 from label
event_numbers (row.Dropped from label) = message_row 3 from label
event_numbers (row.Began k kind) = record (inst_row 4 k) { rollback = of_kind kind }
event_numbers (row.Took k) = inst_row 5 k
event_numbers (row.Ready k) = inst_row 6 k
event_numbers (row.Unwilling k cause) = by_cause cause (inst_row 7 k)
event_numbers (row.Decided k c) = record (inst_row 8 k) { commit = of_truth c }
event_numbers (row.Closed k) = inst_row 9 k
event_numbers row.Failed = record no_row { kind = 10 }
event_numbers (row.Refused v cause) = by_cause cause (record no_row { kind = 11; verb = verb_number v })

abbrev pub row_numbers : Option NamedEvent → KtRow
row_numbers None = no_row
row_numbers (Some event) = event_numbers event

abbrev pub cause_meant : KtRow → Option NamedCause
cause_meant x =
    if x.cause == 1 then option_map Busy (inst_meant x.busy_initiator x.busy_count)
    else if x.cause == 2 then Some Down
    else if x.cause == 3 then Some NoSave
    else None

abbrev pub inst_row_meant : KtRow → InstName → Option NamedEvent
inst_row_meant x k =
    if x.kind == 4 then Some (row.Began k (kind_meant x.rollback))
    else if x.kind == 5 then Some (row.Took k)
    else if x.kind == 6 then Some (row.Ready k)
    else if x.kind == 7 then option_map (row.Unwilling k) (cause_meant x)
    else if x.kind == 8 then Some (row.Decided k (truth_meant x.commit))
    else if x.kind == 9 then Some (row.Closed k)
    else None

abbrev pub refused_meant : KtRow → Verb → Option NamedEvent
refused_meant x v = option_map (row.Refused v) (cause_meant x)

abbrev pub message_meant : (ℕ → ℕ → NamedEvent) → KtRow → Option NamedEvent
message_meant event x =
    option_and_then (λ q. option_map (event q) (count_meant x.label)) (process_meant x.peer)

abbrev pub row_meant : KtRow → Option NamedEvent
row_meant x =
    if x.kind == 1 then message_meant (λ to label. row.Sent to x.body label) x
    else if x.kind == 2 then message_meant row.Received x
    else if x.kind == 3 then message_meant row.Dropped x
    else if x.kind == 10 then Some row.Failed
    else if x.kind == 11 then option_and_then (refused_meant x) (verb_meant x.verb)
    else option_and_then (inst_row_meant x) (inst_meant x.initiator x.count)

-- a row of a process with its clock
abbrev pub part_row : ℕ → ℕ → NamedEvent → ClockedRow
part_row clock p event = record { clock = clock; row = record { p = p; event = event } }

abbrev pub part_row_meant : KtRow → ℕ → ℕ → Option ClockedRow
part_row_meant x clock process =
    option_and_then (λ p. option_map (part_row clock p) (row_meant x)) (process_meant process)

-- an act
abbrev pub no_act : KtAct
no_act = record { kind = 0; from = 0; body = pos 0 }

abbrev pub act_numbers : Act → KtAct
act_numbers act.Nothing = no_act
act_numbers (act.Apply from body) = record { kind = 1; from = from; body = body }
act_numbers act.Keep = record no_act { kind = 2 }
act_numbers act.Promote = record no_act { kind = 3 }
act_numbers act.Discard = record no_act { kind = 4 }
act_numbers act.Restore = record no_act { kind = 5 }
act_numbers act.Drop = record no_act { kind = 6 }

abbrev pub act_told : Option Act → KtAct
act_told None = no_act
act_told (Some a) = act_numbers a

-- what became of an input: nothing; a refusal; a state that does not fit
abbrev pub no_output : KtOutput
no_output = record {
  fault = 0;
  process = 0;
  processes = 0;
  held = 0;
  busy = 0;
  up = 0;
  expected = 0;
  needed = 0;
  clock = 0;
  rows = replicate 4 no_row;
  acts = replicate 2 no_act;
  parcels = replicate 64 no_parcel;
}

-- why there is no node
abbrev pub of_load : LoadFault → Refusal
of_load load.Form = refusal.State
of_load load.Memory = refusal.Memory

-- why a manager refuses
abbrev pub manager_number : ManagerFault → ℕ
manager_number manager.Unknown = 3
manager_number manager.Itself = 4
manager_number manager.Waits = 5
manager_number manager.HeldFirst = 6
manager_number manager.HoldsNone = 7
manager_number manager.LabelsSpent = 8
manager_number manager.CountsSpent = 9
manager_number manager.Memory = 12
manager_number manager.NotBegun = 16

abbrev pub refusal_number : Refusal → ℕ
refusal_number refusal.State = 1
refusal_number refusal.Input = 2
refusal_number (refusal.Node (fault.Manager f)) = manager_number f
refusal_number (refusal.Node fault.ClockSpent) = 10
refusal_number (refusal.Node (fault.Gap n)) = 11
refusal_number refusal.Memory = 12
refusal_number (refusal.Node fault.Astray) = 13
refusal_number (refusal.Node fault.Leap) = 14
refusal_number (refusal.Node fault.Stale) = 15

abbrev pub expected_number : Refusal → ℕ
expected_number (refusal.Node (fault.Gap n)) = n
expected_number _ = 0

-- 2 refused input, 4 want of memory
abbrev pub refusal_status : Refusal → ℕ
refusal_status w = if refusal_number w == 12 then 4 else 2

abbrev pub output_of_refusal : Refusal → KtOutput
output_of_refusal w = record no_output { fault = refusal_number w; expected = expected_number w }

abbrev pub output_too_long : ℕ → KtOutput
output_too_long needed = record no_output { needed = needed }

-- 0 the object has to be saved, 1 it need not be, 2 there is no step
abbrev pub look_status : Look → ℕ
look_status look.NeedsSave = 0
look_status look.NeedsBody = 1
look_status look.Plain = 1
look_status look.Idle = 2

-- one more than a process, 0 for none
abbrev pub or_one_more : Option ℕ → ℕ
or_one_more None = 0
or_one_more (Some p) = p + 1
