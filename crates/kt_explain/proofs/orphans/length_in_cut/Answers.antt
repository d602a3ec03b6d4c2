use Rattle.std.proofs.Common.{◌≡◌, Some, List, ℕ, sym, ap, ◌∙◌, subst}
use Rattle.std.specs.Prelude.{Contains}
use Rattle.kt_base.specs.declared.words.Kind.{Kind}
use Rattle.kt_base.specs.declared.words.Kind.TheVariants.{Rollback}
use Rattle.kt_meaning.specs.Past.{past}
use Rattle.kt_meaning.specs.Passing.{decided_cut}
use Rattle.kt_rules.proofs.Traced.{never}
use Rattle.kt_explain.proofs.Orphaned.{inside_cut, outside_cut}
use Rattle.kt_explain.proofs.orphans.length_in_cut.Goals as goal

pub returns-then-is_among : goal.returns-then-is_among
returns-then-is_among c = λ rows h legal kind joined.
    let is : c.args.kind ≡ Rollback = c.in-Rollback.is in
    let there = subst (λ (l : List ℕ). Contains l c.args.p) joined (c.is_among.ensures.0 c.if-is_among.true) in
    c.permanent-then-is_among.ensures rows h
    ∙ (inside_cut rows c.args.inst c.args.p legal (kind ∙ ap Some is) there ∙ ap (λ (x : Kind). decided_cut (past rows) c.args.inst x c.args.p) (sym is))

pub returns-else-is_among : goal.returns-else-is_among
returns-else-is_among c = λ rows h legal kind joined.
    let is : c.args.kind ≡ Rollback = c.in-Rollback.is in
    c.length.ensures rows h
    ∙ (outside_cut rows c.args.inst c.args.p legal (kind ∙ ap Some is)
    (λ there. never (sym c.if-is_among.false ∙ c.is_among.ensures.1 (subst (λ (l : List ℕ). Contains l c.args.p) (sym joined) there)))
    ∙ ap (λ (x : Kind). decided_cut (past rows) c.args.inst x c.args.p) (sym is))
