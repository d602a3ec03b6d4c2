-- Which parcels are told.
use Rattle.std.specs.Prelude.{if◌then◌else◌, slice_get, option_map}
use Rattle.std.proofs.Common.{◌≡◌, ◌≢◌, ◌∙◌, ◌<◌, ℕ, Some, List, [], ◌∷◌, replicate, set, inl, inr, refl, sym, ap, subst}
use Rattle.std.proofs.lemmas.Bool.{ne_eqb}
use Rattle.std.proofs.lemmas.Bool.Decides.{eqb_tells}
use Rattle.std.proofs.lemmas.List.{get_or-replicate}
use Rattle.std.proofs.lemmas.Option.{slice_get_read}
use Rattle.kt_meaning.proofs.Items.{get_set_same, get_set_other}
use Rattle.kt_manager.specs.Effects.{put_to}
use Rattle.kt_manager.specs.declared.effects.Parcels.{Parcels}
use Rattle.kt_manager.specs.declared.effects.Parcels.TheVariants as puts
use Rattle.kt_manager.specs.declared.parcels.NodeParcel.{NodeParcel}
use Rattle.kt_node.specs.declared.node.Output.{Output}
use Rattle.koo_toueg_c.specs.NodeNumbers.{no_parcel, parcel_numbers}
use Rattle.koo_toueg_c.specs.Nodes.{envelope_for, parcel_for}
use Rattle.koo_toueg_c.specs.declared.node.parcel.KtParcel.{KtParcel}

-- what is told for a process
abbrev told_for : Output → ℕ → KtParcel
told_for out q = parcel_numbers (parcel_for out q)

-- and what would be told for it of these parcels
abbrev told_of : Output → ℕ → Parcels → KtParcel
told_of out q parcels = parcel_numbers (option_map (envelope_for out q) (slice_get (put_to parcels q) 0))

abbrev none : List KtParcel
none = replicate 64 no_parcel

none_at : (q : ℕ) → q < 64 → slice_get none q ≡ Some no_parcel
none_at q b = slice_get_read none 64 q no_parcel refl b (sym (get_or-replicate 64 q no_parcel no_parcel b))

pub nothing_told : (out : Output) (old : List KtParcel) (q : ℕ) → out.effects.parcels ≡ puts.Nothing → old ≡ none → q < 64 → slice_get old q ≡ Some (told_for out q)
nothing_told out old q e was b = ap (λ (l : List KtParcel). slice_get l q) was ∙ (none_at q b ∙ sym (ap (λ (p : Parcels). Some (told_of out q p)) e))

-- none is told for another process than the one for which there is one
beside : (out : Output) (to : ℕ) (x : NodeParcel) (q : ℕ) → out.effects.parcels ≡ puts.One to x → q ≢ to → told_for out q ≡ no_parcel
beside out to x q e other = ap (told_of out q) e
    ∙ ap (λ b. parcel_numbers (option_map (envelope_for out q) (slice_get (if b then x ∷ [] else []) 0))) (ne_eqb q to other)

one_in : (out : Output) (to : ℕ) (x : NodeParcel) (q : ℕ) → out.effects.parcels ≡ puts.One to x → q < 64 → to < 64 → slice_get (set none to (told_for out to)) q ≡ Some (told_for out q)
one_in out to x q e b within = elim (eqb_tells q to) [
  | inl same ↦ subst (λ (r : ℕ). slice_get (set none to (told_for out to)) r ≡ Some (told_for out r)) (sym same.1) (get_set_same none to (told_for out to) within)
  | inr other ↦ get_set_other none to q (told_for out to) other.1 ∙ (none_at q b ∙ sym (ap (λ (k : KtParcel). Some k) (beside out to x q e other.1)))
]

pub one_told : (out : Output) (old : List KtParcel) (to : ℕ) (x : NodeParcel) (at q : ℕ) (k : KtParcel) → out.effects.parcels ≡ puts.One to x → old ≡ none → at ≡ to → at < 64 → k ≡ told_for out to → q < 64 → slice_get (set old at k) q ≡ Some (told_for out q)
one_told out old to x at q k e was here within is b =
    (λ i. slice_get (set (was i) (here i) (is i)) q) ∙ one_in out to x q e b (subst (λ (n : ℕ). n < 64) here within)
