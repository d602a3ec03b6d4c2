-- The phase that is open.
use Rattle.std.specs.Prelude.{is_some, nat_le}
use Rattle.std.proofs.Common.{◌≡◌, ◌<◌, ◌≤◌, ℕ, Bool, true, false, refl, sym, ap, ◌∙◌, arith}
use Rattle.std.proofs.lemmas.Bool.Decides.{nat_tests}
use Rattle.kt_core.specs.Agendas.{Agenda, agenda_command, open_command, IsDone, IsLeastPhase}
use Rattle.kt_system.specs.Systems.{Whole}
use Rattle.kt_system.specs.Reads.{IsQuietSystem}
use Rattle.kt_core.specs.Worlds.{SettlesIn}
use Rattle.kt_core.proofs.Opens.{none_open}

-- the next commands are told by the plan and the places
same_next : (a b : Agenda) (p : ℕ) → b.plan ≡ a.plan → b.next ≡ a.next → agenda_command b p ≡ agenda_command a p
same_next a b p f g = cc

pub least_stays : (a b : Agenda) (phase : ℕ) → b.plan ≡ a.plan → b.next ≡ a.next → IsLeastPhase b phase → IsLeastPhase a phase
least_stays a b phase f g l = record {
  least = λ p command low e. l.least p command low (same_next a b p f g ∙ e);
  process = l.process;
  command = l.command;
  there = l.there;
  is = sym (same_next a b l.process f g) ∙ l.is;
  attained = l.attained;
}

pub done_stays : (a b : Agenda) → b.plan ≡ a.plan → b.next ≡ a.next → IsDone b → IsDone a
done_stays a b f g d = record { none = λ p low. sym (same_next a b p f g) ∙ d.none p low }

-- what settles after a step settles for the step
pub settles_from : (system : Whole) (old mid new : Agenda) → mid.phase ≡ old.phase → SettlesIn system mid new → SettlesIn system old new
settles_from system old mid new e s = record {
  busy = λ q. s.busy q ∙ e;
  done = λ d. s.done d ∙ e;
  stays = λ least l below. s.stays least l (let x = e in omega arith) ∙ e;
  opens = λ least q l below. s.opens least q l (let x = e in omega arith);
}

-- the open phase stays, while it has a command that is not done
pub settles_open : (system : Whole) (a : Agenda) (p : ℕ) → p < 64 → is_some (open_command a p) ≡ true → SettlesIn system a a
settles_open system a p low some = record {
  busy = λ q. refl;
  done = λ d. refl;
  stays = λ least l below. refl;
  opens = λ least q l below. go least l below (nat_le least a.phase) refl;
}
  where
    go : (least : ℕ) → IsLeastPhase a least → a.phase ≤ least → (b : Bool) → nat_le least a.phase ≡ b → a.phase ≡ least
    go least l below true e = grind (arith, nat_tests, e, below)
    go least l below false e = absurd (let none = ap is_some (none_open a least l e p low) in let no : false ≡ true = sym none ∙ some in cc)

-- the next phase is open, where all is quiet
pub settles_quiet : (system : Whole) (old new : Agenda) → IsQuietSystem system → new.plan ≡ old.plan → new.next ≡ old.next
    → (IsDone old → new.phase ≡ old.phase)
    → ((least : ℕ) → IsLeastPhase old least → least ≤ old.phase → new.phase ≡ old.phase)
    → ((least : ℕ) → IsLeastPhase old least → old.phase ≤ least → new.phase ≡ least) → SettlesIn system old new
settles_quiet system old new quiet f g done stays opens = record {
  busy = λ busy. absurd (busy quiet);
  done = λ d. done (done_stays old new f g d);
  stays = λ least l below. stays least (least_stays old new least f g l) below;
  opens = λ least q l below. opens least (least_stays old new least f g l) below;
}
