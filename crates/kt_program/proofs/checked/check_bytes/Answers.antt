use Rattle.std.proofs.Common.{Bool, subst, sym}
use Rattle.kt_program.specs.Stored.{IsExact}
use Rattle.kt_program.proofs.Exactly.{judged_exactly}
use Rattle.kt_program.proofs.checked.check_bytes.Goals as goal

pub returns-in_ok-write_text-in-Ok-clause-yes : goal.returns-in_ok-write_text-in-Ok-clause-yes
returns-in_ok-write_text-in-Ok-clause-yes g c =
    let log = g.L.Read.remaining c.args.log_reader in
    let cert = g.C.Read.remaining c.args.cert_reader in
    subst (λ (p : Bool). IsExact log cert p) (sym c.passes.ensures) (judged_exactly log cert c.in-Ok.verdict (rw (c.new-log.ensures, c.new-cert.ensures) at c.in-Ok.ensures.answer))
