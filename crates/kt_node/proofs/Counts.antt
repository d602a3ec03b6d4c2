-- Counts for each process, and steps with clocks.
use Rattle.std.proofs.Common.{◌≡◌, ◌≢◌, ◌∙◌, ℕ, zero, suc, ◌+◌, ◌<◌, ◌≤◌, true, false, List, length, refl, arith, sym, ap, ap₂, subst, ◌++◌, inl, inr}
use Rattle.std.specs.Prelude.{max, replicate, slice_index, slice_set, Option, Some, None, is_some}
use Rattle.std.specs.Option.{option_to_list}
use Rattle.kt_manager.specs.declared.parcels.NodeParcel.{NodeParcel}
use Rattle.std.proofs.lemmas.Bool.{cases_eq}
use Rattle.std.proofs.lemmas.List.{get_or-set_same, get_or-set_other, length-set}
use Rattle.kt_meaning.specs.Past.{at_one}
use Rattle.kt_protocol.proofs.Updates.{at_one_here, at_one_other}
use Rattle.kt_tables.specs.Calls.{Call}
use Rattle.kt_manager.specs.Nodes.{NodeState}
use Rattle.kt_node.specs.Inputs.{Input}
use Rattle.kt_node.specs.NodeSteps.{node_after}
use Rattle.kt_node.specs.NodeHistories.{calls_told}
use Rattle.kt_node.proofs.NodeCalls.{step_tells}
use Rattle.kt_manager.specs.Told.{Told}
use Rattle.kt_node.specs.declared.node.Output.{Output}
use Rattle.kt_node.specs.declared.reach.Reaches.{Reaches}
use Rattle.kt_node.specs.Effects.{IsDone, calls_of}
use Rattle.kt_manager.specs.Effects.{put_to}
use Rattle.kt_node.specs.Reaches.{HasReaches}
use Rattle.kt_node.specs.Links.{NodeLinks, IsStep}
use Rattle.kt_node.specs.Managers.{ManagerState}

pub zero_each : (n q : ℕ) → slice_index (replicate n 0) q ≡ 0
zero_each zero q = refl
zero_each (suc n) zero = refl
zero_each (suc n) (suc q) = zero_each n q

pub set_size : (xs : List ℕ) (i v : ℕ) → length (slice_set xs i v) ≡ length xs
set_size xs i v = simp length-set

-- one of them is another one
pub set_each : (xs : List ℕ) (i v q : ℕ) → i < length xs → slice_index (slice_set xs i v) q ≡ at_one i v (slice_index xs) q
set_each xs i v q b = elim (cases_eq q i) [
  | inl e ↦ subst (λ (u : ℕ). slice_index (slice_set xs i v) u ≡ at_one i v (slice_index xs) u) (sym e) (get_or-set_same xs i v 0 b ∙ sym (at_one_here i v (slice_index xs)))
  | inr n ↦ get_or-set_other xs i q v 0 n ∙ sym (at_one_other i q v (slice_index xs) n)
]

pub set_within : (xs : List ℕ) (i v c : ℕ) → i < length xs → v ≤ c → ((q : ℕ) → slice_index xs q ≤ c) → (q : ℕ) → slice_index (slice_set xs i v) q ≤ c
set_within xs i v c b l h q = elim (cases_eq q i) [
  | inl e ↦ subst (λ (u : ℕ). slice_index (slice_set xs i v) u ≤ c) (sym e) (subst (λ (n : ℕ). n ≤ c) (sym (get_or-set_same xs i v 0 b)) l)
  | inr n ↦ subst (λ (m : ℕ). m ≤ c) (sym (get_or-set_other xs i q v 0 n)) (h q)
]

-- a step: its manager did this, its parcels were counted, and its messages followed
pub step_of : (old new : NodeLinks) (m : ManagerState) (before : List ℕ) (came clock : ℕ) (y : NodeState) (x : Input) (e : Told) (out : Output) → IsDone m e (node_after y x) → clock ≡ max old.clock came + 1 → new.manager ≡ m → new.clock ≡ clock → before ≡ old.sent
    → ((q : ℕ) → q < 64 → slice_index new.sent q ≡ slice_index before q + length (put_to e.parcels q)) → out.effects ≡ e → out.from ≡ new.manager.me → out.clock ≡ clock → out.numbers ≡ new.sent
    → (HasReaches old.reaches y.calls → HasReaches new.reaches (y.calls ++ calls_of e)) → IsStep old new came y x out
step_of old new m before came clock y x e out done ticks manager is same sent effects sender told numbers reaches = record {
  done = subst (λ (w : ManagerState). IsDone w out.effects (node_after y x)) (sym manager) (subst (λ (z : Told). IsDone m z (node_after y x)) (sym effects) done);
  sender = sender;
  clock = is ∙ ticks;
  told = told ∙ sym is;
  sent = λ q b. sent q b ∙ ap₂ (λ (x y : ℕ). x + y) (ap (λ (l : List ℕ). slice_index l q) same) (ap length (done.puts q));
  numbers = numbers;
  reaches = λ h. subst (λ (calls : List Call). HasReaches new.reaches calls) (ap₂ (λ rows acts. y.calls ++ calls_told rows acts) done.rows done.acts ∙ sym (step_tells y x)) (reaches h);
}

pub inside_reaches : (w : NodeLinks) (r : Reaches) (calls : List Call) → r ≡ w.reaches → HasReaches w.reaches calls → HasReaches r calls
inside_reaches w r calls e h = subst (λ (x : Reaches). HasReaches x calls) (sym e) h

-- so far each has one more for what is put for it
abbrev pub Counted : ℕ → List ℕ → List ℕ → (ℕ → List NodeParcel) → Type 0
Counted n counts before puts = (q : ℕ) → q < n → slice_index counts q ≡ slice_index before q + length (puts q)

abbrev pub Others : ℕ → List ℕ → List ℕ → Type 0
Others n counts before = (q : ℕ) → n ≤ q → slice_index counts q ≡ slice_index before q

pub one_put : (o : Option NodeParcel) (l : List NodeParcel) → option_to_list o ≡ l → is_some o ≡ true → length l ≡ 1
one_put None l e s = absurd (cc (s))
one_put (Some x) l e s = sym (ap length e)

pub none_put : (o : Option NodeParcel) (l : List NodeParcel) → option_to_list o ≡ l → is_some o ≡ false → length l ≡ 0
none_put None l e s = sym (ap length e)
none_put (Some x) l e s = absurd (cc (s))

pub count_more : (counts new before : List ℕ) (puts : ℕ → List NodeParcel) (n i : ℕ) → i ≡ n → n < length counts → new ≡ slice_set counts i (slice_index counts i + 1) → length (puts n) ≡ 1
    → Counted n counts before puts → Others n counts before → Counted (n + 1) new before puts × Others (n + 1) new before
count_more counts new before puts n i e b is one h o =
    let set : new ≡ slice_set counts n (slice_index counts n + 1) = is ∙ ap (λ (j : ℕ). slice_set counts j (slice_index counts j + 1)) e in (
      λ q l. elim (cases_eq q n) [
        | inl s ↦ subst (λ (u : ℕ). slice_index new u ≡ slice_index before u + length (puts u)) (sym s)
            (ap (λ (l : List ℕ). slice_index l n) set ∙ (get_or-set_same counts n (slice_index counts n + 1) 0 b ∙ (let k = o n (omega arith) in omega (arith, k, one))))
        | inr s ↦ ap (λ (l : List ℕ). slice_index l q) set ∙ (get_or-set_other counts n q (slice_index counts n + 1) 0 s ∙ h q (omega (arith, l, s)))
      ],
      λ q l. let s : q ≢ n = omega (arith, l) in ap (λ (l : List ℕ). slice_index l q) set ∙ (get_or-set_other counts n q (slice_index counts n + 1) 0 s ∙ o q (omega (arith, l))),
    )

pub count_same : (counts new before : List ℕ) (puts : ℕ → List NodeParcel) (n : ℕ) → new ≡ counts → length (puts n) ≡ 0 → Counted n counts before puts → Others n counts before → Counted (n + 1) new before puts × Others (n + 1) new before
count_same counts new before puts n is none h o = (
  λ q l. elim (cases_eq q n) [
    | inl s ↦ subst (λ (u : ℕ). slice_index new u ≡ slice_index before u + length (puts u)) (sym s) (ap (λ (l : List ℕ). slice_index l n) is ∙ (let k = o n (omega arith) in omega (arith, k, none)))
    | inr s ↦ ap (λ (l : List ℕ). slice_index l q) is ∙ h q (omega (arith, l, s))
  ],
  λ q l. ap (λ (l : List ℕ). slice_index l q) is ∙ o q (omega (arith, l)),
)
