-- Tests that several rules share.
use Rattle.std.specs.Prelude.{ℕ, ◌&&◌, not, nat_lt, Bool, true, Option, Some, None}
use Rattle.kt_base.specs.declared.words.Kind.{Kind}
use Rattle.kt_base.specs.declared.words.Kind.TheVariants.{Checkpoint, Rollback}
use Rattle.kt_meaning.specs.Past.{Past, is_member, is_checkpoint, is_rollback}
use Rattle.kt_meaning.specs.Legal.{is_in_none, is_undecided}

abbrev pub is_of : Past → ℕ → Kind → Bool
is_of s k Checkpoint = is_checkpoint s k
is_of s k Rollback = is_rollback s k

-- whether a process may still join an instance, of this kind
abbrev pub is_open_to : Past → ℕ → ℕ → Kind → Bool
is_open_to s p k kind = is_in_none s p && not (is_member s k p) && is_undecided s k && is_of s k kind

-- whether a message comes after what was last
abbrev pub is_after : ℕ → Option ℕ → Bool
is_after msg None = true
is_after msg (Some last) = nat_lt last msg
