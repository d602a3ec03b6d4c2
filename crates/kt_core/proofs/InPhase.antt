-- The processes whose next commands are of the open phase, as the commands are looked at.
use Rattle.std.specs.Prelude.{◌||◌, ◌==◌, Some, None, is_some, nat_lt, nat_le, slice_get, Option, if◌then◌else◌}
use Rattle.std.proofs.Common.{◌≡◌, ◌≢◌, ◌<◌, ◌≤◌, ◌+◌, ℕ, Bool, true, false, List, length, get_or, set, sym, arith, ap, subst, ◌∙◌, inl, inr}
use Rattle.std.proofs.lemmas.Bool.{cases_lt, cases_eq}
use Rattle.std.proofs.lemmas.Bool.Decides.{nat_tests}
use Rattle.std.proofs.lemmas.List.{get_or-set_same, get_or-set_other, get_or_default, length-set}
use Rattle.std.proofs.lemmas.Option.{slice_get_past, slice_get-get_or}
use Rattle.kt_base.specs.Sets.{has}
use Rattle.kt_plan.specs.Limits.{Planned, IsInPhases}
use Rattle.kt_plan.specs.declared.commands.Command.{Command}
use Rattle.kt_core.specs.Agendas.{AreOwn, AreDoneBefore, AreInPhase, IsAgenda, IsFirstLeft, IsNextOf, by_at, no_command, if_open}
use Rattle.kt_core.proofs.Firsts.{none_before_first, own_after}

-- the commands up to a place are looked at, and all of them are of an open phase
pub record IsInPhaseUpTo (commands : List Command) (next : List ℕ) (first phase place chosen : ℕ) : Type 0 where
  pub members : (p : ℕ) → p < 64 → has chosen p ≡ nat_lt (get_or next p 0) place
  pub early : (i : ℕ) → first ≤ i → i < place → (get_or commands i no_command).phase ≤ phase

not_below : (a b : ℕ) → b ≤ a → nat_lt a b ≡ false
not_below a b h = grind (arith, nat_tests, h)

-- none is looked at
pub none_looked : (commands : List Command) (next : List ℕ) (first phase chosen : ℕ) → AreOwn commands next → AreDoneBefore commands next first → first ≤ length commands
    → ((q : ℕ) → has chosen q ≡ false) → IsInPhaseUpTo commands next first phase first chosen
none_looked commands next first phase chosen own done within empty = record {
  members = λ p low. empty p ∙ sym (not_below (get_or next p 0) first (none_before_first commands next first p own done within low));
  early = λ i from below. absurd (omega (arith, from, below));
}

one_further : (a b : ℕ) → (nat_lt a b || (a == b)) ≡ nat_lt a (b + 1)
one_further a b = grind (arith, nat_tests)

not_further : (a b : ℕ) → a ≢ b → nat_lt a b ≡ nat_lt a (b + 1)
not_further a b n = grind (arith, nat_tests, n)

-- one command more
pub one_looked : (commands : List Command) (next : List ℕ) (first phase place chosen more : ℕ) → AreOwn commands next → IsInPhaseUpTo commands next first phase place chosen → place < length commands
    → (get_or commands place no_command).phase ≤ phase
    → has more (by_at commands place) ≡ (has chosen (by_at commands place) || (get_or next (by_at commands place) 0 == place))
    → ((q : ℕ) → q ≢ by_at commands place → has more q ≡ has chosen q) → IsInPhaseUpTo commands next first phase (place + 1) more
one_looked commands next first phase place chosen more own t within early here others = record {
  members = members;
  early = λ i from below. elim (cases_eq i place) [
    | inl e ↦ subst (λ (n : ℕ). (get_or commands n no_command).phase ≤ phase) (sym e) early
    | inr n ↦ t.early i from (omega (arith, below, n))
  ];
}
  where
    members : (p : ℕ) → p < 64 → has more p ≡ nat_lt (get_or next p 0) (place + 1)
    members p low = elim (cases_eq p (by_at commands place)) [
      | inl e ↦
          let mine : has more p ≡ (has chosen p || (get_or next p 0 == place)) = subst (λ (n : ℕ). has more n ≡ (has chosen n || (get_or next n 0 == place))) (sym e) here in
          mine ∙ (ap (λ (b : Bool). b || (get_or next p 0 == place)) (t.members p low) ∙ one_further (get_or next p 0) place)
      | inr n ↦
          others p n ∙ (t.members p low ∙ not_further (get_or next p 0) place
          (λ (at : get_or next p 0 ≡ place). n (sym (own p low (omega (arith, at, within))) ∙ ap (by_at commands) at)))
    ]

opens : (c : Command) (phase : ℕ) → c.phase ≤ phase → is_some (if_open phase (Some c)) ≡ true
opens c phase h =
    let test : nat_le c.phase phase ≡ true = grind (arith, nat_tests, h) in
    ap (λ (b : Bool). is_some (if b then Some c else None)) test

shuts : (c : Command) (phase : ℕ) → phase < c.phase → is_some (if_open phase (Some c)) ≡ false
shuts c phase h =
    let test : nat_le c.phase phase ≡ false = grind (arith, nat_tests, h) in
    ap (λ (b : Bool). is_some (if b then Some c else None)) test

is_below : (a b : ℕ) → a < b → nat_lt a b ≡ true
is_below a b h = grind (arith, nat_tests, h)

-- what was not looked at is of a later phase
pub all_looked : (commands : List Command) (next : List ℕ) (first phase place chosen : ℕ) → AreOwn commands next → AreDoneBefore commands next first → first ≤ length commands → place ≤ length commands
    → IsInPhaseUpTo commands next first phase place chosen → ((i : ℕ) → place ≤ i → i < length commands → phase < (get_or commands i no_command).phase) → AreInPhase commands next phase chosen
all_looked commands next first phase place chosen own done within end t late p low = t.members p low ∙ sym (elim (cases_lt (get_or next p 0) place) [
  | inl before ↦
      let early = t.early (get_or next p 0) (none_before_first commands next first p own done within low) before in
      at_next (omega (arith, before, end)) ∙ (opens (get_or commands (get_or next p 0) no_command) phase early ∙ sym (is_below (get_or next p 0) place before))
  | inr after ↦ elim (cases_lt (get_or next p 0) (length commands)) [
    | inl inside ↦ at_next inside ∙ (shuts (get_or commands (get_or next p 0) no_command) phase (late (get_or next p 0) after inside) ∙ sym (not_below (get_or next p 0) place after))
    | inr past ↦ ap (λ (o : Option Command). is_some (if_open phase o)) (slice_get_past commands (get_or next p 0) past) ∙ sym (not_below (get_or next p 0) place after)
  ]
])
  where
    at_next : get_or next p 0 < length commands → is_some (if_open phase (slice_get commands (get_or next p 0))) ≡ is_some (if_open phase (Some (get_or commands (get_or next p 0) no_command)))
    at_next l = ap (λ (o : Option Command). is_some (if_open phase o)) (slice_get-get_or commands (get_or next p 0) no_command l)

-- nor is what comes after one of a later phase
pub late_after : (commands : List Command) (phase place : ℕ) → IsInPhases commands → phase < (get_or commands place no_command).phase
    → (i : ℕ) → place ≤ i → i < length commands → phase < (get_or commands i no_command).phase
late_after commands phase place phases late i after inside = let rises = phases place i no_command after inside in omega (arith, late, rises)

-- the command at a place
pub is_at : (commands : List Command) (place : ℕ) (c : Command) → c ≡ get_or commands place c → place < length commands → c ≡ get_or commands place no_command
is_at commands place c e within = e ∙ get_or_default commands place c no_command within

-- one command more, by what the code has of it
pub command_looked : (commands : List Command) (next : List ℕ) (first phase place chosen more at : ℕ) (c : Command) → AreOwn commands next → IsInPhaseUpTo commands next first phase place chosen → place < length commands
    → c ≡ get_or commands place c → c.phase ≤ phase → at ≡ get_or next c.by 0 → has more c.by ≡ (has chosen c.by || (at == place)) → ((q : ℕ) → q ≢ c.by → has more q ≡ has chosen q)
    → IsInPhaseUpTo commands next first phase (place + 1) more
command_looked commands next first phase place chosen more at c own t within is early there here others =
    let same = is_at commands place c is within in
    one_looked commands next first phase place chosen more own t within (subst (λ (x : Command). x.phase ≤ phase) same early)
    (subst (λ (x : Command). has more x.by ≡ (has chosen x.by || (get_or next x.by 0 == place))) same (here ∙ ap (λ (n : ℕ). has chosen c.by || (n == place)) there))
    (subst (λ (x : Command). (q : ℕ) → q ≢ x.by → has more q ≡ has chosen q) same others)

-- once a process's next command is done, the following one is its next
module _ (plan : Planned) (next following : List ℕ) (first phase chosen p place at j : ℕ) (a : IsAgenda plan next following first phase chosen) (is : at ≡ p) (low : at < 64)
    (here : place ≡ get_or next p 0) (within : place < length following) (read : j ≡ get_or following place j) where
  at_place : get_or next p 0 < length plan.commands
  at_place = let n = a.commands in omega (arith, here, within, n)

  there : p < 64
  there = omega (arith, is, low)

  following_is : get_or following (get_or next p 0) 0 ≡ j
  following_is = ap (λ (n : ℕ). get_or following n 0) (sym here) ∙ (get_or_default following place 0 j within ∙ sym read)

  follows : IsNextOf plan.commands (by_at plan.commands (get_or next p 0)) (get_or next p 0 + 1) j
  follows = subst (λ (n : ℕ). IsNextOf plan.commands (by_at plan.commands (get_or next p 0)) (get_or next p 0 + 1) n) following_is (a.follows (get_or next p 0) at_place)

  set_is : get_or (set next at j) p 0 ≡ j
  set_is = ap (λ (n : ℕ). get_or (set next n j) p 0) is ∙ (let n = a.processes in get_or-set_same next p j 0 (omega (arith, n, there)))

  pub next_after : IsNextOf plan.commands p (get_or next p 0 + 1) (get_or (set next at j) p 0)
  next_after = subst (λ (n : ℕ). IsNextOf plan.commands p (get_or next p 0 + 1) n) (sym set_is)
      (subst (λ (q : ℕ). IsNextOf plan.commands q (get_or next p 0 + 1) j) (a.own p there at_place) follows)

  pub agenda_after : (later more : ℕ) → IsFirstLeft plan.commands (set next at j) later → has more p ≡ is_some (if_open phase (slice_get plan.commands j))
      → ((q : ℕ) → q ≢ p → has more q ≡ has chosen q) → IsAgenda plan (set next at j) following later phase more
  agenda_after later more left mine others = record {
    limits = a.limits;
    processes = length-set next at j ∙ a.processes;
    commands = a.commands;
    own = subst (λ (n : ℕ). AreOwn plan.commands (set next n j)) (sym is) (own_after plan.commands next p j a.processes there a.own at_place follows);
    follows = a.follows;
    left = left;
    in_phase = λ q under. elim (cases_eq q p) [
      | inl e ↦
          subst (λ (m : ℕ). has more m ≡ is_some (if_open phase (slice_get plan.commands (get_or (set next at j) m 0)))) (sym e)
          (mine ∙ ap (λ (n : ℕ). is_some (if_open phase (slice_get plan.commands n))) (sym set_is))
      | inr n ↦
          others q n ∙ (a.in_phase q under ∙ ap (λ (i : ℕ). is_some (if_open phase (slice_get plan.commands i)))
          (sym (ap (λ (m : ℕ). get_or (set next m j) q 0) is ∙ get_or-set_other next p q j 0 n)))
    ];
  }
