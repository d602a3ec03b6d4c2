use Rattle.std.proofs.Common.{◌≡◌, ◌+◌, ◌∷◌, ◌++◌, [], ℕ, length, sym, subst, arith}
use Rattle.kt_meaning.specs.Past.{past}
use Rattle.kt_checker.proofs.FirstPlaces.{none_of, some_of}
use Rattle.kt_meaning.specs.Fitness.{IsFirstWithout}
use Rattle.kt_certify.specs.Stops.{StopsOn}
use Rattle.kt_certify.specs.declared.fault.Stop.{Stop}
use Rattle.kt_certify.proofs.Fit.{fit_so_far, still_without}
use Rattle.kt_certify.proofs.Rows.{entered_more, chained_more, stops_on}
use Rattle.kt_certify.proofs.pass.Pass.enter.Goals as goal

pub returns-then-is_some-clause-entered : goal.returns-then-is_some-clause-entered
returns-then-is_some-clause-entered c = λ rows h walk legal. still_without c.args.self.now rows c.args.row.now h walk.control.legal (some_of c.args.self.now.unfit (sym c.if-is_some.ensures))

pub returns-in_default-clause-entered : goal.returns-in_default-clause-entered
returns-in_default-clause-entered c = λ rows h walk legal.
    let row = c.args.row.now in
    let es = c.args.self.now.instances.items in
    let fit = fit_so_far c.args.self.now rows h (none_of c.args.self.now.unfit (sym c.if-is_some.ensures)) in (
      entered_more rows row es c.enter.new.instances.items legal (c.in_default.ensures.entered rows (λ _. walk)) fit.instances,
      chained_more rows row es fit.instances (λ p k e is at. c.in_default.ensures.chained rows p k e walk is at) fit.chained,
    )

pub returns-clause-entered : goal.returns-clause-entered
returns-clause-entered c = λ rows h walk legal.
    let row = c.args.row.now in
    let es = c.args.self.now.instances.items in
    let fit = fit_so_far c.args.self.now rows h (none_of c.args.self.now.unfit (sym c.if-is_some.ensures)) in
    let stops = subst (λ (s : Stop). StopsOn c.args.row.now (past rows) c.args.self.now.instances.items s) c.in-NoChain.is (c.in-Err.ensures.fault rows walk) in
    let number : c.after-number.result ≡ length rows + 1 = omega (arith, c.after-number.ensures, c.rows.ensures.count rows walk) in
    subst (λ (n : ℕ). IsFirstWithout (rows ++ c.args.row.now ∷ []) c.in-NoChain.inst n c.in-NoChain.process) (sym number) (stops_on rows row es c.in-NoChain.inst c.in-NoChain.process fit.instances fit.chained stops)
