-- Systems where nothing is in transit.
use Rattle.std.specs.Prelude.{Option, Some, None, is_none}
use Rattle.std.specs.List.{list_all}
use Rattle.std.proofs.Common.{◌≡◌, ◌<◌, ℕ, suc, Bool, true, List, [], ◌∷◌, length, get_or, refl, arith, ap, subst}
use Rattle.std.proofs.lemmas.Bool.{and_from, true_from_ne_false}
use Rattle.std.proofs.lemmas.List.Folds.{list_all_at}
use Rattle.kt_process.specs.ProcessStates.{ProcessState, inst_of}
use Rattle.kt_fifo.specs.Channels.{channel}
use Rattle.kt_system.specs.Systems.{Whole, state_of, no_process, IsSoundSystem}
use Rattle.kt_system.specs.Reads.{IsQuietSystem}
use Rattle.kt_system.proofs.Takes.{empty_everywhere}

abbrev pub is_outside : ProcessState → Bool
is_outside x = is_none (inst_of x.side)

none_from : (o : Option ℕ) → is_none o ≡ true → o ≡ None
none_from None e = refl
none_from (Some x) e = absurd (cc)

all_from : (test : ProcessState → Bool) (xs : List ProcessState) (d : ProcessState) → ((i : ℕ) → i < length xs → test (get_or xs i d) ≡ true) → list_all test xs ≡ true
all_from test [] d h = refl
all_from test (x ∷ xs) d h = and_from _ _ (h 0 (omega arith)) (all_from test xs d (λ i l. h (suc i) (omega arith)))

-- no process is in an instance
outside_from : (w : Whole) → length w.states ≡ w.size → list_all is_outside w.states ≡ true → (p : ℕ) → p < w.size → inst_of (state_of w p).side ≡ None
unfolding state_of
outside_from w n e p b = none_from _ (true_from_ne_false _ (λ f. let k = list_all_at is_outside w.states p no_process (omega arith) f in cc))

outside_to : (w : Whole) → length w.states ≡ w.size → ((p : ℕ) → p < w.size → inst_of (state_of w p).side ≡ None) → list_all is_outside w.states ≡ true
unfolding state_of
outside_to w n h = all_from is_outside w.states no_process (λ i l. ap is_none (h i (omega arith)))

-- what makes a system quiet, and what a quiet one has
pub quiet_from : (a seen : Whole) → a ≡ seen → IsSoundSystem a → ((p q : ℕ) → channel a.channels p q ≡ []) → ((p q : ℕ) → channel a.held p q ≡ []) → list_all is_outside seen.states ≡ true → IsQuietSystem seen
quiet_from a seen v s channels held = subst (λ (w : Whole). list_all is_outside w.states ≡ true → IsQuietSystem w) v (λ e. record {
  channels = λ p q _ _. channels p q;
  held = λ p q _ _. held p q;
  outside = outside_from a s.states e;
})

pub quiet_channels : (a seen : Whole) → a ≡ seen → IsSoundSystem a → IsQuietSystem seen → (p q : ℕ) → channel a.channels p q ≡ []
quiet_channels a seen v s = subst (λ (w : Whole). IsQuietSystem w → (p q : ℕ) → channel a.channels p q ≡ []) v
    (λ h. empty_everywhere a.channels (λ p q b d. let n = s.channels in h.channels p q (omega arith) (omega arith)))

pub quiet_held : (a seen : Whole) → a ≡ seen → IsSoundSystem a → IsQuietSystem seen → (p q : ℕ) → channel a.held p q ≡ []
quiet_held a seen v s = subst (λ (w : Whole). IsQuietSystem w → (p q : ℕ) → channel a.held p q ≡ []) v
    (λ h. empty_everywhere a.held (λ p q b d. let n = s.held in h.held p q (omega arith) (omega arith)))

pub quiet_outside : (a seen : Whole) → a ≡ seen → IsSoundSystem a → IsQuietSystem seen → list_all is_outside seen.states ≡ true
quiet_outside a seen v s = subst (λ (w : Whole). IsQuietSystem w → list_all is_outside w.states ≡ true) v (λ h. outside_to a s.states h.outside)
