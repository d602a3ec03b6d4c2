-- Steps along pairs that stand by rising peer.
use Rattle.std.specs.Prelude.{ℕ, suc, ◌==◌, ◌&&◌, length, slice_index_or, Bool, nat_lt, nat_le, if◌then◌else◌, List, [], ◌∷◌, Option, Some, None}

-- where the pair of a peer stands, or would stand
abbrev pub place_of : List (ℕ × ℕ) → ℕ → ℕ
place_of [] q = 0
place_of (pair ∷ pairs) q = if nat_lt pair.0 q then suc (place_of pairs q) else 0

-- the label at the head, where that is the pair of a peer
abbrev pub head_label : List (ℕ × ℕ) → ℕ → ℕ
head_label [] q = 0
head_label (pair ∷ pairs) q = if pair.0 == q then pair.1 else 0

-- the pairs without the head, where that is the pair of a peer
abbrev pub after_peer : List (ℕ × ℕ) → ℕ → List (ℕ × ℕ)
after_peer [] q = []
after_peer (pair ∷ pairs) q = if pair.0 == q then pairs else pair ∷ pairs

-- the smaller peer at two heads
abbrev pub smaller_head : List (ℕ × ℕ) → List (ℕ × ℕ) → Option ℕ
smaller_head [] [] = None
smaller_head [] (there ∷ second) = Some there.0
smaller_head (here ∷ first) [] = Some here.0
smaller_head (here ∷ first) (there ∷ second) = Some (if nat_le here.0 there.0 then here.0 else there.0)

-- whether the pair of a peer stands at a place
abbrev pub stands_at : List (ℕ × ℕ) → ℕ → ℕ → Bool
stands_at pairs k q = nat_lt k (length pairs) && ((slice_index_or pairs k (0, 0)).0 == q)
