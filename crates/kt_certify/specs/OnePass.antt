-- The certificates of a log by one pass over its rows.
use Rattle.std.specs.Prelude.{◌≡◌, List, [], fold}
use Rattle.std.specs.List.{filter_map}
use Rattle.kt_spacetime.specs.declared.event.Event.{Event}
use Rattle.kt_meaning.specs.Past.{Past, start, past, after}
use Rattle.kt_spacetime.specs.declared.certificate.Certificate.{Certificate}
use Rattle.kt_certify.specs.Instances.{InstanceParts, AreInstancesOf, instances_after}

-- what a pass keeps: what is known after the rows so far, and the instances by their numbers
pub record PassState : Type 0 where
  pub known : Past
  pub instances : List InstanceParts

-- what it keeps after one more row; a decision is certified by what is known just before it
abbrev pub pass_after : PassState → Event → PassState
pass_after pass row = record { known = after pass.known row; instances = instances_after pass.known row pass.instances }

-- what it keeps before the first row
abbrev pub opening_pass : PassState
opening_pass = record { known = start; instances = [] }

-- what it keeps after all rows of a log
abbrev pub pass_over : List Event → PassState
pass_over log = fold pass_after opening_pass log

-- the certificates that it has found: those of the instances that are decided
abbrev pub found : PassState → List Certificate
found pass = filter_map (λ v. v.certificate) pass.instances

-- a pass has seen these rows: what it keeps is what is known after them, and their instances
pub record HasSeen (pass : PassState) (log : List Event) : Type 0 where
  pub known : pass.known ≡ past log
  pub instances : AreInstancesOf log pass.instances
