use Rattle.std.proofs.Common.{refl, ap}
use Rattle.kt_process.specs.Shown.{inst_shown, part_shown}
use Rattle.kt_manager.specs.Managers.{as_parcels}
use Rattle.kt_manager.proofs.manager.Manager.new.Goals as goal

pub returns : goal.returns
returns c =
    let f = c.in_ok-new.ensures in
    record {
      shows = record {
        holds = record { processes = f.processes; me = refl; held = ap as_parcels c.in_ok-new-2.ensures.held; kept = ap as_parcels c.in_ok-new-2.ensures.kept };
        process = record { stands = f.stands; inst = ap inst_shown f.side; part = ap part_shown f.side; up = f.up; used = f.used };
        inst = refl;
      };
    }
