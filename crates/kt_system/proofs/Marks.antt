-- How many are kept, sender by sender.
use Rattle.std.proofs.Common.{◌≡◌, ℕ, List, [], ◌∷◌, false, length, replicate, arith, refl, sym, ap, ◌∙◌, inl, inr}
use Rattle.std.proofs.Math.Path.{fun_ext}
use Rattle.std.proofs.lemmas.Bool.{cases_lt}
use Rattle.std.proofs.lemmas.List.{get_or-replicate, get_or_past, length-replicate}
use Rattle.kt_fifo.specs.Channels.{ChannelLists, channel}
use Rattle.kt_fifo.specs.Queues.{has_parcel}
use Rattle.kt_fifo.specs.declared.parcels.Parcel.{Parcel}
use Rattle.kt_process.specs.Shown.{mark_of}
use Rattle.kt_system.specs.Kept.{kept_of}

none_marked : (n q : ℕ) → mark_of (replicate n 0) q ≡ 0
none_marked n q = elim (cases_lt q n) [
  | inl l ↦ get_or-replicate n q 0 0 l
  | inr g ↦ get_or_past (replicate n 0) q 0 (omega (arith, length-replicate {A = ℕ} n 0))
]

none_kept : (parcels : List Parcel) → has_parcel parcels ≡ false → length parcels ≡ 0
none_kept [] e = refl
none_kept (x ∷ xs) e = cc

-- at first there is a mark of nothing, as of each process of which nothing is kept
pub marks_of_none : (kept : ChannelLists) (p n q : ℕ) (marks : List ℕ) → marks ≡ replicate n 0 → has_parcel (channel kept q p) ≡ false → mark_of marks q ≡ length (channel kept q p)
marks_of_none kept p n q marks is none = ap (λ (l : List ℕ). mark_of l q) is ∙ (none_marked n q ∙ sym (none_kept (channel kept q p) none))

pub marks_all : (kept : ChannelLists) (p : ℕ) (marks : List ℕ) → ((q : ℕ) → mark_of marks q ≡ length (channel kept q p)) → mark_of marks ≡ kept_of (channel kept) p
marks_all kept p marks h = fun_ext h
