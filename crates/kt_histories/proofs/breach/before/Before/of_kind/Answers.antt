use Rattle.std.proofs.Common.{◌≡◌, ◌∙◌, ℕ, Bool, false, Option, Some, None, refl, sym, ap}
use Rattle.std.specs.Prelude.{option_map}
use denote.Enum.Bare.{sameb}
use Rattle.kt_base.specs.contracts.words.Kind.{the_type}
use Rattle.kt_base.specs.declared.words.Kind.{Kind}
use Rattle.kt_base.specs.declared.words.Kind.TheVariants.{Checkpoint, Rollback}
use Rattle.kt_meaning.specs.Past.{Past, Beginning, past, kind_of, is_checkpoint_kind, is_rollback_kind}
use Rattle.kt_histories.specs.declared.breach.demands.Demand.TheVariants.{OfKind}
use Rattle.kt_histories.specs.Demands.{asks}
use Rattle.kt_histories.proofs.Begun.{not_known}
use Rattle.kt_histories.proofs.Demands.{from_not, from_not_false, judged_by}
use Rattle.kt_histories.proofs.breach.before.Before.of_kind.Goals as goal

has_kind : Kind → Option Kind → Bool
has_kind Checkpoint o = is_checkpoint_kind o
has_kind Rollback o = is_rollback_kind o

asks_kind : (s : Past) (k : ℕ) (kind : Kind) (o : Option Kind) → kind_of s k ≡ o → asks (OfKind k kind) s ≡ has_kind kind o
unfolding has_kind
asks_kind s k Checkpoint o e = ap is_checkpoint_kind e
asks_kind s k Rollback o e = ap is_rollback_kind e

none_has : (kind : Kind) → has_kind kind None ≡ false
unfolding has_kind
none_has Checkpoint = refl
none_has Rollback = refl

same_kind : (found kind : Kind) → has_kind kind (Some found) ≡ sameb the_type found kind
unfolding has_kind
same_kind Checkpoint Checkpoint = refl
same_kind Checkpoint Rollback = refl
same_kind Rollback Checkpoint = refl
same_kind Rollback Rollback = refl

pub returns-in_default : goal.returns-in_default
returns-in_default c = record {
  so = c.in_default.ensures.none;
  against = λ log legal so. asks_kind (past log) c.args.inst c.args.kind None (ap (λ (o : Option Beginning). option_map (λ b. b.kind) o) (not_known (past log) c.args.inst so)) ∙ none_has c.args.kind;
}

pub returns : goal.returns
returns c =
    let k = c.args.inst in
    let kind = c.args.kind in
    let found = c.in-Some.begun.kind in
    let known = ap (λ (o : Option Beginning). option_map (λ b. b.kind) o) c.in-Some.ensures.known in
    judged_by c.args.self.now.rows.now (asks (OfKind k kind)) _ c.ne.result c.then_some.result c.then_some.ensures
    (λ e. record {
      so = (known, _, c.in-Some.ensures.row);
      against = λ log legal so. asks_kind (past log) k kind (Some found) so.0 ∙ (same_kind found kind ∙ from_not _ (sym c.ne.ensures ∙ e));
    })
    (λ e. asks_kind (past c.args.self.now.rows.now) k kind (Some found) known ∙ (same_kind found kind ∙ from_not_false _ (sym c.ne.ensures ∙ e)))
