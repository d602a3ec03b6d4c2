use Rattle.std.proofs.Common.{◌≡◌, ◌≢◌, ◌≤◌, ◌∷◌, [], ◌++◌, arith, refl, sym, ap, subst, ◌∙◌}
use Rattle.kt_tables.specs.Peers.{find_label, IsTable}
use Rattle.kt_tables.proofs.Pairs.{Pairs, table_before, find_before, find_at_last, find_none, no_pairs}
use Rattle.kt_tables.proofs.peers.label_from_back.Goals as goal

pub loop-pair-init : goal.loop-pair-init
loop-pair-init c n h = (h, refl)

pub returns-then-get : goal.returns-then-get
returns-then-get c n h =
    let inv = c.loop-pair.invariant n h in
    let e : c.loop-pair.rest.now ≡ c.in-Some.before.now ++ c.in-Some.pair.now ∷ [] = c.in-Some.ensures.cases.0 in
    let here = c.get.ensures.value in
    let there = c.get-in-Some.ensures.value in
    let test = c.if-get.true in
    let least : c.in-Some.pair.now.0 ≤ c.args.peer = omega (arith, here, there, test) in
    c.label_in.ensures
    ∙ (sym (find_at_last 0 n c.in-Some.before.now c.in-Some.pair.now c.args.peer (subst (λ (ps : Pairs). IsTable 0 n ps) e inv.0) least)
    ∙ (ap (λ (ps : Pairs). find_label ps c.args.peer) (sym e) ∙ inv.1))

pub loop-pair-smaller : goal.loop-pair-smaller
loop-pair-smaller c = let l = c.in-Some.ensures.cases.1 in omega (arith, l)

pub loop-pair-preserved : goal.loop-pair-preserved
loop-pair-preserved c n h =
    let inv = c.loop-pair.invariant n h in
    let e : c.loop-pair.rest.now ≡ c.in-Some.before.now ++ c.in-Some.pair.now ∷ [] = c.in-Some.ensures.cases.0 in
    let here = c.get.ensures.value in
    let there = c.get-in-Some.ensures.value in
    let test = c.if-get.false in
    let other : c.in-Some.pair.now.0 ≢ c.args.peer = omega (arith, here, there, test) in (
      table_before 0 n c.in-Some.before.now c.in-Some.pair.now (subst (λ (ps : Pairs). IsTable 0 n ps) e inv.0),
      sym (find_before c.in-Some.before.now c.in-Some.pair.now c.args.peer other)
          ∙ (ap (λ (ps : Pairs). find_label ps c.args.peer) (sym e) ∙ inv.1),
    )

pub returns : goal.returns
returns c n h =
    let inv = c.loop-pair.invariant n h in
    c.none.ensures ∙ (sym (ap (λ (ps : Pairs). find_label ps c.args.peer) (no_pairs c.loop-pair.rest.now c.in_default.ensures.cases) ∙ find_none c.args.peer) ∙ inv.1)
