-- The first command that is not done.
use Rattle.std.proofs.Common.{◌≡◌, ◌≢◌, ◌<◌, ◌≤◌, ◌+◌, ℕ, List, Some, None, length, get_or, set, refl, sym, arith, ap, subst, ◌∙◌, inl, inr}
use Rattle.std.specs.Prelude.{slice_get}
use Rattle.std.proofs.lemmas.Bool.{cases_lt}
use Rattle.std.proofs.lemmas.Bool.Decides.{eqb_tells}
use Rattle.std.proofs.lemmas.List.{get_or-set_same, get_or-set_other}
use Rattle.std.proofs.lemmas.Option.{slice_get_past, slice_get_within, get_or_from_slice_get, slice_get-get_or}
use Rattle.kt_plan.specs.Limits.{IsPlan}
use Rattle.kt_plan.specs.declared.commands.Command.{Command}
use Rattle.kt_core.specs.Agendas.{Agenda, IsNextOf, IsDone, IsLeastPhase, AreOwn, AreDoneBefore, IsFirstLeft, by_at, no_command, agenda_place, agenda_command}

-- at the start it is the first one of all
pub first_at_start : (commands : List Command) (next : List ℕ) → (0 < length commands → by_at commands 0 < 64) → ((p : ℕ) → p < 64 → IsNextOf commands p 0 (get_or next p 0)) → IsFirstLeft commands next 0
first_at_start commands next there nexts = record {
  done = λ i l. absurd (omega (arith, l));
  within = omega arith;
  left = λ l. elim (cases_lt 0 (get_or next (by_at commands 0) 0)) [
    | inl more ↦ absurd ((nexts (by_at commands 0) (there l)).none_before 0 (omega arith) more refl)
    | inr most ↦ omega (arith, most)
  ];
}

-- no process's next command comes before it
pub none_before_first : (commands : List Command) (next : List ℕ) (place p : ℕ) → AreOwn commands next → AreDoneBefore commands next place → place ≤ length commands → p < 64 → place ≤ get_or next p 0
none_before_first commands next place p own done within low = elim (cases_lt (get_or next p 0) place) [
  | inl l ↦
      let mine = own p low (omega (arith, l, within)) in
      let later = done (get_or next p 0) l in
      let same = ap (λ q. get_or next q 0) mine in
      absurd (omega (arith, later, same))
  | inr h ↦ omega (arith, h)
]

-- one more is done
pub one_more_done : (commands : List Command) (next : List ℕ) (place : ℕ) → AreOwn commands next → AreDoneBefore commands next place → place < length commands → by_at commands place < 64
    → get_or next (by_at commands place) 0 ≢ place → AreDoneBefore commands next (place + 1)
one_more_done commands next place own done l low other i h = elim (eqb_tells i place) [
  | (inl same) ↦
      subst (λ n. n < get_or next (by_at commands n) 0) (sym same.1)
      (let least = none_before_first commands next place (by_at commands place) own done (omega (arith, l)) low in
      elim (cases_lt place (get_or next (by_at commands place) 0)) [
        | inl more ↦ more
        | inr most ↦ absurd (other (omega (arith, least, most)))
      ])
  | (inr before) ↦ done i (let b = before.1 in omega (arith, b, h))
]

-- a process goes on with its following command
pub own_after : (commands : List Command) (next : List ℕ) (p j : ℕ) → length next ≡ 64 → p < 64 → AreOwn commands next → get_or next p 0 < length commands
    → IsNextOf commands (by_at commands (get_or next p 0)) (get_or next p 0 + 1) j → AreOwn commands (set next p j)
own_after commands next p j size low own l follows q few h = elim (eqb_tells q p) [
  | (inl same) ↦
      let at = ap (λ n. get_or (set next p j) n 0) same.1 ∙ get_or-set_same next p j 0 (omega (arith, size, low)) in
      ap (by_at commands) at ∙ (follows.own (omega (arith, at, h)) ∙ (own p low l ∙ sym same.1))
  | (inr other) ↦
      let at = get_or-set_other next p q j 0 other.1 in
      ap (by_at commands) at ∙ own q few (omega (arith, at, h))
]

pub done_after : (commands : List Command) (next : List ℕ) (p j place : ℕ) → length next ≡ 64 → p < 64 → AreDoneBefore commands next place
    → IsNextOf commands (by_at commands (get_or next p 0)) (get_or next p 0 + 1) j → AreDoneBefore commands (set next p j) place
done_after commands next p j place size low done follows i l = elim (eqb_tells (by_at commands i) p) [
  | (inl same) ↦
      let at = ap (λ n. get_or (set next p j) n 0) same.1 ∙ get_or-set_same next p j 0 (omega (arith, size, low)) in
      let was = ap (λ n. get_or next n 0) same.1 in
      let later = follows.from in
      let before = done i l in
      omega (arith, at, was, later, before)
  | (inr other) ↦
      let at = get_or-set_other next p (by_at commands i) j 0 other.1 in
      let before = done i l in
      omega (arith, at, before)
]

-- where there is none, all is done
pub all_done : (a : Agenda) (place : ℕ) → AreOwn a.plan.commands a.next → IsFirstLeft a.plan.commands a.next place → slice_get a.plan.commands place ≡ None → IsDone a
all_done a place own first none = record { none = λ p low. slice_get_past a.plan.commands (agenda_place a p) (at_end p low) }
  where
    at_end : (p : ℕ) → p < 64 → length a.plan.commands ≤ agenda_place a p
    at_end p low = elim (cases_lt place (length a.plan.commands)) [
      | inl l ↦ absurd (let e = sym none ∙ slice_get-get_or a.plan.commands place no_command l in cc (e))
      | inr h ↦ let least = none_before_first a.plan.commands a.next place p own first.done first.within low in omega (arith, h, least)
    ]

-- a command that comes before all other next ones has the least phase
pub first_has_least_phase : (a : Agenda) (command : Command) → IsPlan a.plan → command.by < length a.plan.names → agenda_command a command.by ≡ Some command
    → ((q : ℕ) → q < 64 → agenda_place a command.by ≤ agenda_place a q) → IsLeastPhase a command.phase
first_has_least_phase a command plan there is first = record {
  least = λ p other few next.
      let inside = slice_get_within a.plan.commands (agenda_place a p) other next in
      let rises = plan.phases (agenda_place a command.by) (agenda_place a p) no_command (first p few) inside in
      let mine = ap (λ (c : Command). c.phase) (get_or_from_slice_get a.plan.commands (agenda_place a command.by) command no_command is) in
      let its = ap (λ (c : Command). c.phase) (get_or_from_slice_get a.plan.commands (agenda_place a p) other no_command next) in
      omega (arith, rises, mine, its);
  process = command.by;
  command = command;
  there = (let few = plan.names.few in omega (arith, there, few));
  is = is;
  attained = refl;
}
