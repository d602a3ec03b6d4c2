-- The places of next commands, made from the last command to the first.
use Rattle.std.proofs.Common.{◌≡◌, ◌≢◌, ◌<◌, ◌+◌, ◌-◌, ℕ, List, length, get_or, set, replicate, refl, sym, arith, ap, subst, ◌∙◌, inl, inr}
use Rattle.std.proofs.lemmas.Bool.Decides.{eqb_tells}
use Rattle.std.proofs.lemmas.List.{get_or-set_same, get_or-set_other, get_or-replicate, get_or_default, length-set}
use Rattle.kt_plan.specs.declared.commands.Command.{Command}
use Rattle.kt_core.specs.Agendas.{IsNextOf, ArePlaces, by_at, no_command}

-- at the end no process has a command
pub nothing_built : (commands : List Command) (following : List ℕ) (count i : ℕ) → count ≡ length commands → length following ≡ count → i + 0 ≡ count
    → ArePlaces commands (replicate 64 count) following i
nothing_built commands following count i e long is = record {
  processes = refl;
  commands_each = long ∙ e;
  nexts = λ p l. let at = get_or-replicate 64 p count 0 l in record {
    from = omega (arith, at, is);
    within = omega (arith, at, e);
    none_before = λ m h k. absurd (omega (arith, at, is, h, k));
    own = λ l. absurd (omega (arith, at, e, l));
  };
  follows = λ m h k. absurd (omega (arith, e, is, h, k));
}

-- a command that is not the process's own changes nothing for it
passed : (commands : List Command) (p i j : ℕ) → by_at commands i ≢ p → IsNextOf commands p (i + 1) j → IsNextOf commands p i j
passed commands p i j other next = record {
  from = let f = next.from in omega arith;
  within = next.within;
  none_before = λ m h k. elim (eqb_tells m i) [
    | (inl same) ↦ subst (λ n. by_at commands n ≢ p) (sym same.1) other
    | (inr before) ↦ next.none_before m (let b = before.1 in omega arith) k
  ];
  own = next.own;
}

-- one place before
pub one_more : (commands : List Command) (next following : List ℕ) (i by : ℕ) → i < length commands → by ≡ by_at commands i → by < 64
    → ArePlaces commands next following (i + 1) → ArePlaces commands (set next by i) (set following i (get_or next by 0)) i
one_more commands next following i by l is few b = record {
  processes = length-set next by i ∙ b.processes;
  commands_each = length-set following i (get_or next by 0) ∙ b.commands_each;
  nexts = λ p low. elim (eqb_tells p by) [
    | (inl same) ↦
        let at = ap (λ q. get_or (set next by i) q 0) same.1 ∙ get_or-set_same next by i 0 (let n = b.processes in omega arith) in
        record {
          from = omega (arith, at);
          within = omega (arith, at, l);
          none_before = λ m h k. absurd (omega (arith, at, h, k));
          own = λ h. ap (by_at commands) at ∙ (sym is ∙ sym same.1);
        }
    | (inr other) ↦
        subst (IsNextOf commands p i) (sym (get_or-set_other next by p i 0 other.1))
        (passed commands p i (get_or next p 0) (λ e. other.1 (sym (is ∙ e))) (b.nexts p low))
  ];
  follows = λ m h k. elim (eqb_tells m i) [
    | (inl same) ↦
        subst (λ n. IsNextOf commands (by_at commands n) (n + 1) (get_or (set following i (get_or next by 0)) n 0)) (sym same.1)
        (subst (IsNextOf commands (by_at commands i) (i + 1)) (sym (get_or-set_same following i (get_or next by 0) 0 (let c = b.commands_each in omega arith)))
        (subst (λ q. IsNextOf commands (by_at commands i) (i + 1) (get_or next q 0)) (sym is) (b.nexts (by_at commands i) (subst (λ q. q < 64) is few))))
    | (inr other) ↦
        subst (IsNextOf commands (by_at commands m) (m + 1)) (sym (get_or-set_other following i m (get_or next by 0) 0 other.1))
        (b.follows m (let o = other.1 in omega arith) k)
  ];
}

-- the same, where the place is counted from the end
pub one_more_from_end : (commands : List Command) (next following : List ℕ) (count back i by : ℕ) (at : Command) → count ≡ length commands → i + (back + 1) ≡ count
    → by ≡ (get_or commands (count - 1 - back) at).by → by < 64 → ((j : ℕ) → j + back ≡ count → ArePlaces commands next following j)
    → ArePlaces commands (set next by (count - 1 - back)) (set following (count - 1 - back) (get_or next by 0)) i
one_more_from_end commands next following count back i by at e is own few built =
    let place : count - 1 - back ≡ i = omega (arith, is) in
    let inside : i < length commands = omega (arith, is, e) in
    subst (λ j. ArePlaces commands (set next by j) (set following j (get_or next by 0)) i) (sym place)
    (one_more commands next following i by inside
    (own ∙ ap (λ (c : Command). c.by) (ap (λ j. get_or commands j at) place ∙ get_or_default commands i at no_command inside))
    few (built (i + 1) (omega (arith, is))))
