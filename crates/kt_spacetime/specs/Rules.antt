-- The rules by number.
use Rattle.std.specs.Prelude.{ℕ, List, [], ◌∷◌}
use Rattle.kt_spacetime.specs.declared.rules.Rule.{Rule}
use Rattle.kt_spacetime.specs.declared.rules.Rule.TheVariants.{Numbers, Message, Order, Sending, Receiving, Joining, Deciding, Closing, Causes}

abbrev pub number_of : Rule → ℕ
number_of Numbers = 1
number_of Message = 2
number_of Order = 3
number_of Sending = 4
number_of Receiving = 5
number_of Joining = 6
number_of Deciding = 7
number_of Closing = 8
number_of Causes = 9

-- the rules in the order of their numbers
abbrev pub all_rules : List Rule
all_rules = Numbers ∷ Message ∷ Order ∷ Sending ∷ Receiving ∷ Joining ∷ Deciding ∷ Closing ∷ Causes ∷ []
