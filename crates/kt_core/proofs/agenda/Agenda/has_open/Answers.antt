use Rattle.std.specs.Prelude.{nat_le}
use Rattle.std.proofs.Common.{◌≡◌, true, false, ap}
use Rattle.kt_core.specs.Agendas.{Agenda}
use Rattle.kt_core.proofs.Opens.{some_open, none_open, done_closed}
use Rattle.kt_core.proofs.agenda.Agenda.has_open.Goals as goal

pub returns-in-Some-clause-some : goal.returns-in-Some-clause-some
returns-in-Some-clause-some c = λ e.
    let phase : c.self.inside.phase ≡ c.args.self.now.phase = ap (λ (a : Agenda). a.phase) c.self.view_is in
    let test : nat_le c.in-Some.phase c.args.self.now.phase ≡ true = cc (phase, e) in
    some_open c.args.self.now c.in-Some.phase c.in-Some.ensures.least test

pub returns-in-Some-clause-none : goal.returns-in-Some-clause-none
returns-in-Some-clause-none c = λ e.
    let phase : c.self.inside.phase ≡ c.args.self.now.phase = ap (λ (a : Agenda). a.phase) c.self.view_is in
    let test : nat_le c.in-Some.phase c.args.self.now.phase ≡ false = cc (phase, e) in
    none_open c.args.self.now c.in-Some.phase c.in-Some.ensures.least test

pub returns-in-None-clause-none : goal.returns-in-None-clause-none
returns-in-None-clause-none c = λ e. done_closed c.args.self.now c.in-None.ensures.none
