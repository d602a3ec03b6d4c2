use Rattle.std.proofs.Common.{◌∷◌, ◌++◌, [], List, Result, Ok, Err}
use Rattle.std.specs.Result.{OnOk}
use Rattle.kt_spacetime.specs.declared.event.Event.{Event}
use Rattle.kt_meaning.proofs.LegalLogs.{legal_last}
use Rattle.kt_meaning.specs.Past.{past}
use Rattle.kt_histories.proofs.Replayed.{replayed}
use Rattle.kt_histories.proofs.histories.Histories.add.Goals as goal

on_ok_both : {T E A B C : Type 0} (r : Result T E) → OnOk r A → OnOk r B → (A → B → C) → OnOk r C
on_ok_both (Ok x) a b f = f a b
on_ok_both (Err e) a b f = tt

pub returns : goal.returns
returns c =
    on_ok_both c.add.result c.add.ensures.shows c.add.ensures.parties
    (λ shows parties rows h legal. replayed c.args.self.now.replay c.add.new.self rows c.args.row.now h (legal_last rows c.args.row.now legal).1 (shows (past rows)) parties)
