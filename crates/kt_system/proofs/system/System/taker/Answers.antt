use Rattle.std.proofs.Common.{ℕ, sym, subst}
use Rattle.std.specs.Prelude.{Option, IfSome, ◌<◌}
use Rattle.kt_system.specs.Reads.{can_take}
use Rattle.kt_system.specs.Takes.{WithSome, IsFirstNumber}
use Rattle.kt_system.proofs.Takes.{first_taker, lesser_within}
use Rattle.kt_system.proofs.system.System.taker.Goals as goal

pub returns-clause-within : goal.returns-clause-within
returns-clause-within c = subst (λ (o : Option ℕ). IfSome o (λ at. at < c.args.self.now.size)) (sym c.least.ensures) (lesser_within _ _ _ c.channel_taker.ensures.within c.held_taker.ensures.within)

pub returns-clause-first : goal.returns-clause-first
returns-clause-first c = subst (λ (o : Option ℕ). IsFirstNumber (WithSome (can_take c.args.self.now)) o) (sym c.least.ensures) (first_taker c.args.self.now _ _ c.channel_taker.ensures.first c.held_taker.ensures.first)
