-- Next commands of the open phase.
use Rattle.std.specs.Prelude.{◌||◌, ◌&&◌, not, Option, Some, None, is_some, slice_get, nat_le, if◌then◌else◌}
use Rattle.std.proofs.Common.{◌≡◌, ◌≢◌, ◌<◌, ◌≤◌, ◌+◌, ℕ, Bool, true, false, List, length, get_or, refl, sym, arith, ap, subst, ◌∙◌, inl, inr}
use Rattle.std.proofs.Math.Bool.{or-false}
use Rattle.std.proofs.lemmas.Bool.{cases_eq, cases_lt, or_right}
use Rattle.std.proofs.lemmas.Bool.Decides.{nat_tests}
use Rattle.std.proofs.lemmas.List.Elements.{All-get_or}
use Rattle.std.proofs.lemmas.Option.{slice_get_within}
use Rattle.kt_base.specs.Sets.{has}
use Rattle.kt_plan.specs.Limits.{Planned, IsCommandOf}
use Rattle.kt_plan.specs.declared.commands.Command.{Command}
use Rattle.kt_core.specs.Agendas.{Agenda, agenda_command, if_open, open_command, IsAgenda, IsDone, IsLeastPhase, no_command}

-- one is open where the least phase is
pub some_open : (a : Agenda) (phase : ℕ) → IsLeastPhase a phase → nat_le phase a.phase ≡ true → (p : ℕ) × ((p < 64) × (is_some (open_command a p) ≡ true))
some_open a phase least e =
    let attained = least.attained in
    let test : nat_le least.command.phase a.phase ≡ true = grind (arith, nat_tests, e, attained) in
    (least.process, (least.there, ap (λ (o : Option Command). is_some (if_open a.phase o)) least.is ∙ ap (λ (b : Bool). is_some (if b then Some least.command else None)) test))

-- none is where the least phase is a later one
pub none_open : (a : Agenda) (phase : ℕ) → IsLeastPhase a phase → nat_le phase a.phase ≡ false → (p : ℕ) → p < 64 → open_command a p ≡ None
none_open a phase least e p low = go (agenda_command a p) refl
  where
    go : (o : Option Command) → agenda_command a p ≡ o → if_open a.phase o ≡ None
    go None f = refl
    go (Some c) f =
        let later = least.least p c low f in
        let test : nat_le c.phase a.phase ≡ false = grind (arith, nat_tests, e, later) in
        ap (λ (b : Bool). if b then Some c else None) test

-- nor where all are done
pub done_closed : (a : Agenda) → IsDone a → (p : ℕ) → p < 64 → open_command a p ≡ None
done_closed a done p low = ap (if_open a.phase) (done.none p low)

-- a process joins a set, or it does not
pub joins : (set more p : ℕ) (b : Bool) → has more p ≡ true → b ≡ true → has more p ≡ (has set p || b)
joins set more p b e f = e ∙ sym (or_right (has set p) b f)

pub stays : (set p : ℕ) (b : Bool) → b ≡ false → has set p ≡ (has set p || b)
stays set p b e = sym (ap (λ (b : Bool). has set p || b) e ∙ or-false (has set p))

-- a process with an open command is there
pub open_is_there : (plan : Planned) (next following : List ℕ) (first phase chosen p : ℕ) → IsAgenda plan next following first phase chosen → p < 64 → length plan.names ≤ p → has chosen p ≡ false
open_is_there plan next following first phase chosen p a low beyond = go (slice_get plan.commands (get_or next p 0)) refl
  where
    its : get_or next p 0 < length plan.commands → p < length plan.names
    its l = let named = (All-get_or (IsCommandOf (length plan.names)) plan.commands (get_or next p 0) no_command l a.limits.commands).0 in let own = a.own p low l in omega (arith, named, own)

    go : (o : Option Command) → slice_get plan.commands (get_or next p 0) ≡ o → has chosen p ≡ false
    go None e = a.in_phase p low ∙ ap (λ (o : Option Command). is_some (if_open phase o)) e
    go (Some c) e = absurd (let l = its (slice_get_within plan.commands (get_or next p 0) c e) in omega (arith, l, beyond))

-- those of a set that are left no more have joined another one; of the first so many processes none is left
pub record IsJoined (chosen joining all left count : ℕ) : Type 0 where
  pub low : (q : ℕ) → q < 64 → has all q ≡ (has chosen q || (has joining q && not (has left q)))
  pub high : (q : ℕ) → 64 ≤ q → has all q ≡ has chosen q
  pub inside : (q : ℕ) → has left q ≡ true → has joining q ≡ true
  pub gone : (q : ℕ) → q < count → has left q ≡ false

none_yet : (a b : Bool) → a ≡ (a || (b && not b))
none_yet true true = refl
none_yet true false = refl
none_yet false true = refl
none_yet false false = refl

pub joins_none : (chosen joining : ℕ) → IsJoined chosen joining chosen joining 0
joins_none chosen joining = record {
  low = λ q l. none_yet (has chosen q) (has joining q);
  high = λ q l. refl;
  inside = λ q e. e;
  gone = λ q l. absurd (omega (arith, l));
}

joined : (a b l : Bool) → b ≡ true → l ≡ false → true ≡ (a || (b && not l))
joined true true false e f = refl
joined false true false e f = refl
joined a false l e f = absurd (cc (e))
joined a true true e f = absurd (cc (f))

module _ (chosen joining all more left less count p : ℕ) (t : IsJoined chosen joining all left count) (low : p < 64) (member : has left p ≡ true) (least : (q : ℕ) → q < p → has left q ≡ false)
    (added : has more p ≡ true) (kept : (q : ℕ) → q ≢ p → has more q ≡ has all q) (removed : has less p ≡ false) (others : (q : ℕ) → q ≢ p → has less q ≡ has left q) where
  pub joins_next : IsJoined chosen joining more less (count + 1)
  joins_next = record {
    low = λ q l. elim (cases_eq q p) [
      | inl e ↦ subst (λ (n : ℕ). has more n ≡ (has chosen n || (has joining n && not (has less n)))) (sym e) (added ∙ joined (has chosen p) (has joining p) (has less p) (t.inside p member) removed)
      | inr n ↦ kept q n ∙ (t.low q l ∙ ap (λ (b : Bool). has chosen q || (has joining q && not b)) (sym (others q n)))
    ];
    high = λ q l. let n : q ≢ p = omega (arith, l, low) in kept q n ∙ t.high q l;
    inside = λ q e. elim (cases_eq q p) [
      | inl s ↦ subst (λ (n : ℕ). has joining n ≡ true) (sym s) (t.inside p member)
      | inr n ↦ t.inside q (sym (others q n) ∙ e)
    ];
    gone = λ q l. elim (cases_eq q p) [
      | inl s ↦ subst (λ (n : ℕ). has less n ≡ false) (sym s) removed
      | inr n ↦ others q n ∙ elim (cases_lt q count) [
        | inl early ↦ t.gone q early
        | inr late ↦ least q (elim (cases_lt p count) [
          | inl before ↦ absurd (let e = sym (t.gone p before) ∙ member in cc (e))
          | inr after ↦ omega (arith, l, late, after, n)
        ])
      ]
    ];
  }

-- who is left no more has joined
pub joined_low : (chosen joining all left count q : ℕ) (b : Bool) → IsJoined chosen joining all left count → q < 64 → has left q ≡ false → has joining q ≡ b → has all q ≡ (has chosen q || b)
joined_low chosen joining all left count q b t l none is =
    t.low q l ∙ (ap (λ (d : Bool). has chosen q || (has joining q && not d)) none ∙ (ap (λ (d : Bool). has chosen q || (d && true)) is ∙ ap (λ (d : Bool). has chosen q || d) (with_true b)))
  where
    with_true : (d : Bool) → (d && true) ≡ d
    with_true true = refl
    with_true false = refl

-- nobody else has
pub joined_other : (chosen joining all left count q : ℕ) → IsJoined chosen joining all left count → (q < 64 → has joining q ≡ false) → has all q ≡ has chosen q
joined_other chosen joining all left count q t none = elim (cases_lt q 64) [
  | inl l ↦ t.low q l ∙ (ap (λ (d : Bool). has chosen q || (d && not (has left q))) (none l) ∙ or-false (has chosen q))
  | inr h ↦ t.high q h
]
