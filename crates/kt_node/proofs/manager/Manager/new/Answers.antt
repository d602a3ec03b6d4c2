use Rattle.std.proofs.Common.{refl}
use Rattle.kt_node.proofs.Guards.{none_each}
use Rattle.kt_node.proofs.manager.Manager.new.Goals as goal

pub returns : goal.returns
returns c =
    let h = c.in_ok-core.ensures.shows in
    record {
      shows = record {
        holds = record { processes = h.holds.processes; me = h.holds.me; begun = refl; held = h.holds.held; kept = h.holds.kept; asks = λ q. none_each 64 q };
        process = h.process;
        inst = h.inst;
        answered = λ q. c.empty.ensures q;
      };
    }
