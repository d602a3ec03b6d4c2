-- What the rules say of a row of each sort.
use Rattle.std.proofs.Common.{◌≡◌, ℕ, ◌+◌, true, None}
use Rattle.std.specs.Prelude.{◌&&◌, ◌||◌}
use Rattle.kt_spacetime.specs.declared.event.Event.TheVariants.{Sent}
use Rattle.kt_meaning.specs.Past.{Past}
use Rattle.kt_meaning.specs.Legal.{is_in_none, broken_rule}
use Rattle.kt_meaning.proofs.LegalLogs.{kept}
use Rattle.kt_meaning.proofs.RowRules.{both, none_from}

-- a process that sends is up, and in no open instance
pub record MaySend (s : Past) (p : ℕ) : Type 0 where
  pub up : s.up p ≡ true
  pub idle : s.open_in p ≡ None

pub may_send : (s : Past) (p to : ℕ) (body : _) → broken_rule s (Sent p to body) ≡ None → MaySend s p
may_send s p to body e =
    let k = kept s (Sent p to body) e in
    let a = both (s.up p) (is_in_none s p) k.sending in
    record { up = a.0; idle = none_from (s.open_in p) a.1 }
