use Rattle.std.proofs.Common.{rules, ℤ, subst, w64}
use Rattle.std.proofs.lemmas.Int.{to_z-of_z}
use Rattle.kt_node.specs.Inputs.{Send}
use Rattle.kt_node.specs.Links.{IsStep}
use Rattle.koo_toueg_c.proofs.node.stepping.take.Goals as goal

pub returns-in_ok-send-in-Send-clause-done : goal.returns-in_ok-send-in-Send-clause-done
returns-in_ok-send-in-Send-clause-done c = rw c.in-Send.is (λ y shows.
    subst (λ (b : ℤ). IsStep c.args.node.now c.send.new.self 0 y (Send c.in-Send.to b) c.send.new.out)
    (to_z-of_z w64 c.in-Send.body (search rules))
    (c.in_ok-send-in-Send.ensures.done y shows.manager))
