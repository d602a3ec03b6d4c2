-- What comes to a node, where more is on its way.
use Rattle.std.proofs.Common.{◌≡◌, ◌∙◌, ℕ, ◌+◌, ◌≤◌, Bool, true, false, not, Option, Some, None, List, [], ◌∷◌, ◌++◌, ◌⊎◌, refl, sym, ap, subst, arith, inl, inr}
use Rattle.std.specs.Prelude.{◌&&◌, max, if◌then◌else◌}
use Rattle.kt_protocol.specs.States.{ProtocolStep, Send, Begin, Fail, Take}
use Rattle.kt_manager.specs.Nodes.{NodeState, is_in_rollback}
use Rattle.kt_node.specs.Inputs.{Input}
use Rattle.kt_node.specs.Inputs as input
use Rattle.kt_node.specs.NodeSteps.{is_step}
use Rattle.kt_node.specs.Nets.{has_some}
use Rattle.kt_node.specs.Clocks.{Envelope, front_input, input_at, clock_after, left_after}

-- with more behind it, the same comes
pub record GoesOn (y : NodeState) (x : ProtocolStep) (es more : List Envelope) (i : Input) : Type 0 where
  pub comes : input_at y x (es ++ more) ≡ Some i
  pub clock : (own : ℕ) → clock_after own i (es ++ more) ≡ clock_after own i es
  pub left : left_after i (es ++ more) ≡ left_after i es ++ more

-- an input that is no parcel
pub record IsOwn (i : Input) : Type 0 where
  pub clock : (own : ℕ) (es fs : List Envelope) → clock_after own i es ≡ clock_after own i fs
  pub left : (es : List Envelope) → left_after i es ≡ es

goes_own : (y : NodeState) (x : ProtocolStep) (es more : List Envelope) (i : Input) → input_at y x (es ++ more) ≡ Some i → IsOwn i → GoesOn y x es more i
goes_own y x es more i e o = record { comes = e; clock = λ own. o.clock own (es ++ more) es; left = o.left (es ++ more) ∙ ap (λ (l : List Envelope). l ++ more) (sym (o.left es)) }

sent_is : (b : Bool) (i j : Input) → (if b then Some i else None) ≡ Some j → i ≡ j
sent_is true i j e = cc
sent_is false i j e = absurd (cc)

own_as : (i j : Input) → i ≡ j → IsOwn i → IsOwn j
own_as i j e o = subst IsOwn e o

some_is : (i j : Input) → Some i ≡ Some j → i ≡ j
some_is i j e = cc

-- what is held comes first
held_or : (b : Bool) (q : ℕ) (o : Option Input) (i : Input) → (if b then Some (input.Held q) else o) ≡ Some i → ((b ≡ true) × (input.Held q ≡ i)) ⊎ ((b ≡ false) × (o ≡ Some i))
held_or true q o i e = inl (refl, some_is (input.Held q) i e)
held_or false q o i e = inr (refl, e)

at_true : (b : Bool) (x y : Option Input) → b ≡ true → (if b then x else y) ≡ x
at_true true x y e = refl
at_true false x y e = absurd (cc)

at_false : (b : Bool) (x y : Option Input) → b ≡ false → (if b then x else y) ≡ y
at_false true x y e = absurd (cc)
at_false false x y e = refl

own_held : (q : ℕ) → IsOwn (input.Held q)
own_held q = record { clock = λ own es fs. refl; left = λ es. refl }

taken_on : (y : NodeState) (p q : ℕ) (able : Bool) (es more : List Envelope) (i : Input) → (not (is_in_rollback y) && has_some (y.held q)) ≡ false → front_input q able es ≡ Some i → GoesOn y (Take p q able) es more i
taken_on y p q able [] more i b e = absurd (cc)
taken_on y p q able (x ∷ es) more i b e =
    let same : input.Comes q able x.parcel ≡ i = some_is (input.Comes q able x.parcel) i e in
    record {
      comes = at_false (not (is_in_rollback y) && has_some (y.held q)) (Some (input.Held q)) (front_input q able ((x ∷ es) ++ more)) b ∙ e;
      clock = λ own. subst (λ (j : Input). clock_after own j ((x ∷ es) ++ more) ≡ clock_after own j (x ∷ es)) same refl;
      left = subst (λ (j : Input). left_after j ((x ∷ es) ++ more) ≡ left_after j (x ∷ es) ++ more) same refl;
    }

pub goes_on : (y : NodeState) (x : ProtocolStep) (es more : List Envelope) (i : Input) → input_at y x es ≡ Some i → GoesOn y x es more i
goes_on y (Send p q body) es more i e = goes_own y (Send p q body) es more i e (own_as (input.Send q body) i (sent_is (is_step y (input.Send q body)) (input.Send q body) i e) (record { clock = λ own es fs. refl; left = λ es. refl }))
goes_on y (Begin p roll able) es more i e = goes_own y (Begin p roll able) es more i e (own_as (input.Begin roll able) i (some_is (input.Begin roll able) i e) (record { clock = λ own es fs. refl; left = λ es. refl }))
goes_on y (Fail p) es more i e = goes_own y (Fail p) es more i e (own_as input.Fail i (some_is input.Fail i e) (record { clock = λ own es fs. refl; left = λ es. refl }))
goes_on y (Take p q able) es more i e = elim (held_or (not (is_in_rollback y) && has_some (y.held q)) q (front_input q able es) i e) [
  | inl h ↦ goes_own y (Take p q able) es more i (at_true (not (is_in_rollback y) && has_some (y.held q)) (Some (input.Held q)) (front_input q able (es ++ more)) h.0 ∙ ap Some h.1) (own_as (input.Held q) i h.1 (own_held q))
  | inr h ↦ taken_on y p q able es more i h.0 h.1
]

-- where it comes with more behind, it comes without, or is the first of what is behind
pub record IsBehind (es more : List Envelope) (i : Input) : Type 0 where
  pub first : Envelope
  pub rest : List Envelope
  pub nothing : es ≡ []
  pub is : more ≡ first ∷ rest
  pub clock : (own : ℕ) → clock_after own i (es ++ more) ≡ max own first.clock + 1

taken_back : (y : NodeState) (p q : ℕ) (able : Bool) (es more : List Envelope) (i : Input) → (not (is_in_rollback y) && has_some (y.held q)) ≡ false → front_input q able (es ++ more) ≡ Some i → (input_at y (Take p q able) es ≡ Some i) ⊎ IsBehind es more i
taken_back y p q able [] [] i b e = absurd (cc)
taken_back y p q able [] (x ∷ more) i b e =
    let same : input.Comes q able x.parcel ≡ i = some_is (input.Comes q able x.parcel) i e in
    inr (record { first = x; rest = more; nothing = refl; is = refl; clock = λ own. subst (λ (j : Input). clock_after own j (x ∷ more) ≡ max own x.clock + 1) same refl })
taken_back y p q able (x ∷ es) more i b e = inl (at_false (not (is_in_rollback y) && has_some (y.held q)) (Some (input.Held q)) (front_input q able (x ∷ es)) b ∙ e)

pub comes_back : (y : NodeState) (x : ProtocolStep) (es more : List Envelope) (i : Input) → input_at y x (es ++ more) ≡ Some i → (input_at y x es ≡ Some i) ⊎ IsBehind es more i
comes_back y (Send p q body) es more i e = inl e
comes_back y (Begin p roll able) es more i e = inl e
comes_back y (Fail p) es more i e = inl e
comes_back y (Take p q able) es more i e = elim (held_or (not (is_in_rollback y) && has_some (y.held q)) q (front_input q able (es ++ more)) i e) [
  | inl h ↦ inl (at_true (not (is_in_rollback y) && has_some (y.held q)) (Some (input.Held q)) (front_input q able es) h.0 ∙ ap Some h.1)
  | inr h ↦ taken_back y p q able es more i h.0 h.1
]

-- clocks rise
pub clock_rises : (own : ℕ) (i : Input) (es : List Envelope) → own + 1 ≤ clock_after own i es
clock_rises own (input.Send q body) es = omega arith
clock_rises own (input.Begin roll able) es = omega arith
clock_rises own input.Fail es = omega arith
clock_rises own (input.Held q) es = omega arith
clock_rises own (input.Comes q able x) [] = omega arith
clock_rises own (input.Comes q able x) (e ∷ es) = omega arith
