use Rattle.std.proofs.Common.{rules, arith, ◌≡◌, ◌+◌, length, ap, refl, inl, inr}
use Rattle.std.proofs.lemmas.Bool.{cases_lt}
use Rattle.kt_spacetime.specs.declared.event.Event.TheVariants.{Began}
use Rattle.kt_merge.proofs.NumberingFacts.{began_numbers}
use Rattle.kt_merge.proofs.tables.Numbers.began_of.Goals as goal

pub returns-then-self-ge-MAX_ROWS-clause-fault : goal.returns-then-self-ge-MAX_ROWS-clause-fault
returns-then-self-ge-MAX_ROWS-clause-fault c = λ g s.
    let is_own : c.args.inst.initiator ≡ c.args.p = search rules in
    let shows = c.gave.ensures g s in
    let next : c.args.inst.count ≡ length (g.begun c.args.p) + 1 = omega (arith, ap length shows.begun, c.index.ensures.value, c.len.ensures, c.if-index-len.false) in
    (omega (arith, s.rows, s.few.0, c.if-self-ge-MAX_ROWS.true), Began c.args.p (length g.initiators + 1) c.args.kind, began_numbers g c.args.p c.args.inst c.args.kind is_own next)

pub returns-in_default-clause-fault : goal.returns-in_default-clause-fault
returns-in_default-clause-fault c = λ g s.
    let is_own : c.args.inst.initiator ≡ c.args.p = search rules in
    let shows = c.gave.ensures g s in
    let next : c.args.inst.count ≡ length (g.begun c.args.p) + 1 = omega (arith, ap length shows.begun, c.index.ensures.value, c.len.ensures, c.if-index-len.false) in
    let all : length g.initiators ≡ 4096 = elim (cases_lt c.args.self.now.begun 4096) [
      | inl less ↦ absurd (cc (c.in_default.ensures.valid.1 (omega arith, omega (arith, less))))
      | inr more ↦ omega (arith, more, s.begun, s.few.1)
    ] in
    (omega (arith, s.rows, c.if-self-ge-MAX_ROWS.false), all, (c.args.inst, c.args.kind, refl), Began c.args.p (length g.initiators + 1) c.args.kind, began_numbers g c.args.p c.args.inst c.args.kind is_own next)
