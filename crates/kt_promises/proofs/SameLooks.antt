-- What a step asks of its process's object is the same by what code has.
use Rattle.std.proofs.Common.{length, ◌≡◌, ℕ, Bool, true, false, List, [], ◌∷◌, refl, sym, ap, subst, Some, None}
use Rattle.std.specs.Prelude.{◌==◌, ◌&&◌, not, if◌then◌else◌, Option}
use Rattle.kt_meaning.specs.Past.{is_rollback_kind}
use Rattle.kt_protocol.specs.Parcels.{Parcel, App, Ask, Reply, Decide}
use Rattle.kt_protocol.specs.States.{State, opening}
use Rattle.kt_protocol.specs.Joining.{kind_for}
use Rattle.kt_protocol.specs.States as machine
use Rattle.kt_protocol.specs.Joining as protocol_joining
use Rattle.kt_protocol.specs.LateSteps.{late_run}
use Rattle.kt_machine.specs.Labelling.{Labelling, labelled_log}
use Rattle.kt_machine.specs.Seen.{seen_parcels, view as view_of, seen}
use Rattle.kt_machine.specs.CallTests as call_tests
use Rattle.kt_machine.specs.Transition as seen_transition
use Rattle.kt_machine.proofs.SameSeen.{read}
use Rattle.kt_machine.proofs.Named.{Tells}
use Rattle.kt_machine.proofs.LabelNumbers.{Of}
use Rattle.kt_machine.proofs.Parcels.{NamesMessages, front_ask}
use Rattle.kt_machine.proofs.Asking.{must_take_is}
use Rattle.kt_machine.proofs.Runs.{sees_runs, labelling_is}
use Rattle.kt_plan.specs.declared.commands.Command.{Command}
use Rattle.kt_plan.specs.Limits.{Planned}
use Rattle.kt_promises.proofs.MachineProgress.{MachineProgress, machine_next_command, world_of}
use Rattle.kt_plan.specs.declared.steps.Step.{Step}
use Rattle.kt_plan.specs.declared.steps.Step.TheVariants.{Do, Take}
use Rattle.kt_plan.specs.declared.steps.Look.TheVariants.{Idle, NeedsSave, Plain}
use Rattle.kt_promises.proofs.MachineLooks.{machine_look, machine_look_of_command, machine_look_of_front, machine_look_of_step}
use Rattle.kt_promises.proofs.RunFacts.{RunFacts}
use Rattle.kt_promises.specs.Looks.{look_of_command, look_of_front, look_of_step, look}
use Rattle.kt_promises.proofs.SameTallies.{ready_same, held_any}
use Rattle.kt_promises.proofs.SameSteps.{enabled_same}

module _ (first : ℕ) (c : State) (t : Labelling) (known : read c.so_far t ≡ labelled_log first c.log) (d : Tells t c) where
  ask_same : (p q k l : ℕ) (rest : List Parcel) → c.channel q p ≡ Ask k l ∷ rest → (r : Bool) → c.so_far.is_rollback k ≡ r →
      (if (c.so_far.open_in p == 0 && not (is_rollback_kind (Some (kind_for r)))) && (call_tests.must_take (t.calls p) q (t.label l) && c.up p) then NeedsSave else Plain) ≡ (if (c.so_far.open_in p == 0 && not r) && (protocol_joining.must_take c p q l && c.up p) then NeedsSave else Plain)
  ask_same p q k l rest e true r = two (c.so_far.open_in p == 0) _ _
    where
      two : (o x y : Bool) → (if (o && false) && x then NeedsSave else Plain) ≡ (if (o && false) && y then NeedsSave else Plain)
      two true x y = refl
      two false x y = refl
  ask_same p q k l rest e false r = ap (λ (b : Bool). if (c.so_far.open_in p == 0 && true) && (b && c.up p) then NeedsSave else Plain) (sym (must_take_is first c t known d p q l of))
    where
      of : Of t.label c.so_far.from p l
      of = subst (λ (b : Bool). Of t.label c.so_far.from (if b then q else p) l) r
          (front_ask t.label c.so_far.from c.so_far.is_rollback c.instances q p k l rest (subst (λ (x : List Parcel). NamesMessages t.label c.so_far.from c.so_far.is_rollback c.instances q p x) e (d.flows.channel_names q p))).2

  pub front_same : (p q : ℕ) (l : List Parcel) → c.channel q p ≡ l → look_of_front (view_of t c) p q (seen_parcels t.label t.body c.so_far.is_rollback l) ≡ machine_look_of_front c p q l
  unfolding seen_parcels
  front_same p q [] e = refl
  front_same p q (App m ∷ rest) e = refl
  front_same p q (Ask k l ∷ rest) e = ask_same p q k l rest e (c.so_far.is_rollback k) refl
  front_same p q (Reply k w ∷ rest) e = refl
  front_same p q (Decide k w ∷ rest) e = refl

front_run : (n first : ℕ) (steps : List machine.ProtocolStep) (p q : ℕ) → look_of_front (seen first (late_run (opening n) steps)) p q ((seen first (late_run (opening n) steps)).channel q p) ≡ machine_look_of_front (late_run (opening n) steps) p q ((late_run (opening n) steps).channel q p)
front_run n first steps p q =
    let x = sees_runs n first steps in
    subst (λ (t : Labelling). look_of_front (view_of t (late_run (opening n) steps)) p q ((view_of t (late_run (opening n) steps)).channel q p) ≡ machine_look_of_front (late_run (opening n) steps) p q ((late_run (opening n) steps).channel q p))
    (labelling_is first (late_run (opening n) steps) (seen_transition.run_seen (seen_transition.opening_seen n first) steps) x)
    (front_same first (late_run (opening n) steps) x.labels x.known x.tells p q ((late_run (opening n) steps).channel q p) refl)

look_of_same : (plan : Planned) (first : ℕ) (g : MachineProgress) (x : Step) → RunFacts plan g → look_of_step plan (world_of first g) x ≡ machine_look_of_step plan g x
look_of_same plan first g (Do p) k = go (machine_next_command plan g p)
  where
    go : (o : Option Command) → look_of_command (world_of first g) p o ≡ machine_look_of_command g p o
    go None = refl
    go (Some c) = refl
look_of_same plan first g (Take p q) k = λ i. if not (ready_same first g.state p i) && held_any first g.state q p i then Plain else front i
  where
    front : look_of_front (seen first g.state) p q ((seen first g.state).channel q p) ≡ machine_look_of_front g.state p q (g.state.channel q p)
    front = subst (λ (s : State). look_of_front (seen first s) p q ((seen first s).channel q p) ≡ machine_look_of_front s p q (s.channel q p)) (sym k.state_is) (front_run (length plan.names) first k.steps p q)

pub look_same : (plan : Planned) (first : ℕ) (g : MachineProgress) (x : Step) → RunFacts plan g → look plan (world_of first g) x ≡ machine_look plan g x
look_same plan first g x k = λ i. if enabled_same plan first g x i then look_of_same plan first g x k i else Idle
