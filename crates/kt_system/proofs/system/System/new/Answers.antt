use Rattle.std.proofs.Common.{◌≡◌, refl, [], ℕ, List, arith, ap, sym, subst}
use Rattle.std.specs.Prelude.{true, Option, None}
use Rattle.std.proofs.lemmas.List.Elements.{All-weaker}
use Rattle.kt_fifo.specs.declared.parcels.Parcel.{Parcel}
use Rattle.kt_process.specs.ProcessStates.{ProcessState, part_of_side, IsNumbered}
use Rattle.kt_process.specs.declared.side.Side.{Side}
use Rattle.kt_process.specs.Turns.{IsFresh}
use Rattle.kt_process.specs.Shown.{IsSeenAs, inst_shown, part_shown}
use Rattle.kt_machine.specs.Seen.{no_part}
use Rattle.kt_system.proofs.Turns.{each_state}
use Rattle.kt_system.proofs.system.System.new.Goals as goal

in_none : (s : Option Side) → s ≡ None → IsNumbered (part_of_side s)
in_none s e = subst (λ (x : Option Side). IsNumbered (part_of_side x)) (sym e) tt

pub invariant_of-result : goal.invariant_of-result
invariant_of-result c =
    let fresh : ProcessState → Type 0 = IsFresh c.args.processes c.args.used in
    let states = c.in_ok-fresh_processes.ensures.fresh in
    record {
      few = c.requires;
      states = c.in_ok-fresh_processes.ensures.length;
      channels = c.in_ok-new.ensures.processes;
      held = c.in_ok-new-2.ensures.processes;
      kept = c.in_ok-new-3.ensures.processes;
      begun = omega arith;
      tables = All-weaker fresh (λ (x : ProcessState). x.tables.processes ≡ c.args.processes) (λ x f. f.processes) _ states;
      numbered = All-weaker fresh (λ (x : ProcessState). IsNumbered (part_of_side x.side)) (λ x f. in_none x.side f.side) _ states;
    }

pub returns-clause-states : goal.returns-clause-states
returns-clause-states c = λ p b. each_state (IsFresh c.args.processes c.args.used) _ c.in_ok-fresh_processes.ensures.fresh p
    (let size = c.in_ok-fresh_processes.ensures.length in omega arith)

pub returns-clause-channels : goal.returns-clause-channels
returns-clause-channels c = λ p q. ap (λ (f : ℕ → ℕ → List Parcel). f p q) c.in_ok-new.ensures.lists

pub returns-clause-held : goal.returns-clause-held
returns-clause-held c = λ p q. ap (λ (f : ℕ → ℕ → List Parcel). f p q) c.in_ok-new-2.ensures.lists

pub returns-clause-kept : goal.returns-clause-kept
returns-clause-kept c = λ p q. ap (λ (f : ℕ → ℕ → List Parcel). f p q) c.in_ok-new-3.ensures.lists

fresh_seen : (n first : ℕ) (x : ProcessState) → IsFresh n first x → IsSeenAs x (record { calls = []; used = first; inst = 0; part = no_part; up = true })
fresh_seen n first x f = record { stands = f.stands; inst = ap inst_shown f.side; part = ap part_shown f.side; up = f.up; used = f.used }

pub returns-clause-shows : goal.returns-clause-shows
returns-clause-shows c = record {
  processes = refl;
  states = λ p b. fresh_seen c.args.processes c.args.used _ (returns-clause-states c p b);
  channels = c.in_ok-new.ensures.lists;
  held = c.in_ok-new-2.ensures.lists;
  kept = c.in_ok-new-3.ensures.lists;
  log = c.new-4.ensures.rows;
  begun = refl;
}
