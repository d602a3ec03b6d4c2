-- One more input of one process, in what processes have and in a net.
use Rattle.std.proofs.Common.{◌≡◌, ◌∙◌, ℕ, Bool, true, false, List, [], ◌∷◌, ◌++◌, map, refl, sym, ap, ap₂, subst, append_assoc}
use Rattle.std.specs.Prelude.{◌==◌, if◌then◌else◌}
use Rattle.std.proofs.lemmas.List.{append-nil, map-append}
use Rattle.std.proofs.lemmas.List.Elements.{filter-append}
use Rattle.kt_meaning.specs.Past.{at_one}
use Rattle.kt_meaning.specs.Names.{row_of}
use Rattle.kt_spacetime.specs.declared.named_rows.NamedEvent.{NamedEvent}
use Rattle.kt_spacetime.specs.declared.named_rows.NamedRow.{NamedRow}
use Rattle.kt_spacetime.specs.declared.named_rows.ClockedRow.{ClockedRow}
use Rattle.kt_spacetime.specs.ClockedRows.{without_clocks}
use Rattle.kt_manager.specs.declared.parcels.NodeParcel.{NodeParcel}
use Rattle.kt_node.specs.Inputs.{Input}
use Rattle.kt_node.specs.NodeSteps.{node_after}
use Rattle.kt_node.specs.Nets.{Net, with_doing}
use Rattle.kt_node.specs.Clocks.{Envelope, envelope, clocked_row, clock_after}
use Rattle.kt_kills.specs.KilledNets.{Holdings, came_of, having_done}
use Rattle.kt_kills.specs.Starts.{parcels}
use Rattle.kt_kills.specs.Standing.{IsNet, rows_by}
use Rattle.kt_kills.proofs.Basics.{same, is_same, turned}

bare : (clock : ℕ) (xs : List NodeParcel) → parcels (map (envelope clock) xs) ≡ xs
bare clock [] = refl
bare clock (x ∷ xs) = ap (λ (l : List NodeParcel). x ∷ l) (bare clock xs)

pub bare_rows : (p clock : ℕ) (xs : List NamedEvent) → without_clocks (map (clocked_row p clock) xs) ≡ map (row_of p) xs
bare_rows p clock [] = refl
bare_rows p clock (x ∷ xs) = ap (λ (l : List NamedRow). row_of p x ∷ l) (bare_rows p clock xs)

-- what was put after an input
pub put_done : (p : ℕ) (h : Holdings) (es : List Envelope) (i : Input) (v : ℕ) → parcels ((having_done p h es i).put v) ≡ parcels (h.put v) ++ (node_after h.node i).puts v
put_done p h es i v = map-append (λ (e : Envelope). e.parcel) (h.put v) (map (envelope (clock_after h.clock i es)) ((node_after h.node i).puts v))
    ∙ ap (λ (l : List NodeParcel). parcels (h.put v) ++ l) (bare (clock_after h.clock i es) ((node_after h.node i).puts v))

-- the new rows are p's
own_rows : (p : ℕ) (xs : List NamedEvent) → rows_by p (map (row_of p) xs) ≡ map (row_of p) xs
own_rows p [] = refl
own_rows p (x ∷ xs) = rw (is_same p) (ap (λ (l : List NamedRow). row_of p x ∷ l) (own_rows p xs))

others_rows : (v p : ℕ) (xs : List NamedEvent) → (p == v) ≡ false → rows_by v (map (row_of p) xs) ≡ []
others_rows v p [] e = refl
others_rows v p (x ∷ xs) e = rw e (others_rows v p xs e)

module _ (have : ℕ → Holdings) (net : Net) (p : ℕ) (es : List Envelope) (i : Input) (left : ℕ → ℕ → List NodeParcel) (k : IsNet have net)
    (leaves : (u v : ℕ) → net.channel u v ≡ (if v == p then parcels (came_of i u es) else []) ++ left u v) where
  abbrev pub h : Holdings
  h = having_done p (have p) es i

  nodes_go : (u : ℕ) → (at_one p h have u).node ≡ at_one p (node_after (have p).node i).state net.nodes u
  nodes_go u = go (u == p)
    where
      go : (a : Bool) → (if a then h else have u).node ≡ (if a then (node_after (have p).node i).state else net.nodes u)
      go true = refl
      go false = k.nodes u

  rows_go : (u : ℕ) → without_clocks (at_one p h have u).rows ≡ rows_by u (net.rows ++ map (row_of p) (node_after (have p).node i).rows)
  rows_go u = go (u == p) refl
    where
      go : (a : Bool) → (u == p) ≡ a → without_clocks (if a then h else have u).rows ≡ rows_by u (net.rows ++ map (row_of p) (node_after (have p).node i).rows)
      go true e = subst (λ (v : ℕ). without_clocks h.rows ≡ rows_by v (net.rows ++ map (row_of p) (node_after (have p).node i).rows)) (sym (same u p e))
          (map-append (λ (r : ClockedRow). r.row) (have p).rows (map (clocked_row p (clock_after (have p).clock i es)) (node_after (have p).node i).rows)
          ∙ ap₂ (λ (a b : List NamedRow). a ++ b) (k.rows p) (bare_rows p (clock_after (have p).clock i es) (node_after (have p).node i).rows ∙ sym (own_rows p (node_after (have p).node i).rows))
          ∙ sym (filter-append (λ (r : NamedRow). r.p == p) net.rows (map (row_of p) (node_after (have p).node i).rows)))
      go false e = k.rows u ∙ sym (filter-append (λ (r : NamedRow). r.p == u) net.rows (map (row_of p) (node_after (have p).node i).rows)
          ∙ ap (λ (l : List NamedRow). rows_by u net.rows ++ l) (others_rows u p (node_after (have p).node i).rows (turned p u ∙ e)) ∙ append-nil (rows_by u net.rows))

  abbrev pub put_by : ℕ → ℕ → List NodeParcel
  put_by u v = parcels ((have u).put v)

  abbrev pub took_of : ℕ → ℕ → List NodeParcel
  took_of v u = parcels ((have v).took u)

  abbrev pub came : ℕ → List NodeParcel
  came u = parcels (came_of i u es)

  abbrev pub new : ℕ → List NodeParcel
  new v = (node_after (have p).node i).puts v

  base_here : (u : ℕ) → put_by u p ≡ (took_of p u ++ came u) ++ left u p
  base_here u = k.channels u p ∙ ap (λ (l : List NodeParcel). took_of p u ++ l) (leaves u p ∙ rw (is_same p) refl) ∙ sym (append_assoc (took_of p u) (came u) (left u p))

  base_other : (u v : ℕ) → (v == p) ≡ false → put_by u v ≡ took_of v u ++ left u v
  base_other u v e = k.channels u v ∙ ap (λ (l : List NodeParcel). took_of v u ++ l) (leaves u v ∙ rw e refl)

  put_new : (v : ℕ) → parcels (h.put v) ≡ put_by p v ++ new v
  put_new v = put_done p (have p) es i v

  took_new : (u : ℕ) → parcels (h.took u) ≡ took_of p u ++ came u
  took_new u = map-append (λ (e : Envelope). e.parcel) ((have p).took u) (came_of i u es)

  own_channel : (v : ℕ) (b : Bool) → (v == p) ≡ b → parcels (h.put v) ≡ parcels ((if b then h else have v).took p) ++ (left p v ++ new v)
  own_channel v true e = subst (λ (w : ℕ). parcels (h.put w) ≡ parcels (h.took p) ++ (left p w ++ new w)) (sym (same v p e))
      (put_new p ∙ ap (λ (l : List NodeParcel). l ++ new p) (base_here p) ∙ append_assoc (took_of p p ++ came p) (left p p) (new p) ∙ ap (λ (l : List NodeParcel). l ++ (left p p ++ new p)) (sym (took_new p)))
  own_channel v false e = put_new v ∙ ap (λ (l : List NodeParcel). l ++ new v) (base_other p v e) ∙ append_assoc (took_of v p) (left p v) (new v)

  others_channel : (u v : ℕ) (b : Bool) → (v == p) ≡ b → parcels ((have u).put v) ≡ parcels ((if b then h else have v).took u) ++ left u v
  others_channel u v true e = subst (λ (w : ℕ). parcels ((have u).put w) ≡ parcels (h.took u) ++ left u w) (sym (same v p e))
      (base_here u ∙ ap (λ (l : List NodeParcel). l ++ left u p) (sym (took_new u)))
  others_channel u v false e = base_other u v e

  channels_go : (u v : ℕ) → parcels ((at_one p h have u).put v) ≡ parcels ((at_one p h have v).took u) ++ (if u == p then left u v ++ new v else left u v)
  channels_go u v = go (u == p) refl
    where
      go : (a : Bool) → (u == p) ≡ a → parcels ((if a then h else have u).put v) ≡ parcels ((if v == p then h else have v).took u) ++ (if a then left u v ++ new v else left u v)
      go true e = subst (λ (w : ℕ). parcels (h.put v) ≡ parcels ((if v == p then h else have v).took w) ++ (left w v ++ new v)) (sym (same u p e)) (own_channel v (v == p) refl)
      go false e = others_channel u v (v == p) refl

  pub net_goes : IsNet (at_one p h have) (with_doing (record net { channel = left }) p (node_after (have p).node i))
  net_goes = record { nodes = nodes_go; rows = rows_go; channels = channels_go }
