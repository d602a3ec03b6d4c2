-- The rows of a killed net, sorted by clock, are those of a net.
use Rattle.std.proofs.Common.{◌≡◌, ◌∙◌, ◌<◌, ◌≤◌, ℕ, suc, Bool, true, false, List, [], ◌∷◌, refl, arith, sym, ap, subst, nat_lt}
use Rattle.std.specs.Prelude.{if◌then◌else◌, max}
use Rattle.std.proofs.lemmas.Bool.Decides.{nat_tests}
use Rattle.kt_protocol.specs.States.{ProtocolStep}
use Rattle.kt_spacetime.specs.declared.named_rows.ClockedRow.{ClockedRow}
use Rattle.kt_spacetime.specs.ClockedRows.{rows_of, without_clocks}
use Rattle.kt_node.specs.Nets.{net_run, opening_net}
use Rattle.kt_node.specs.Clocks.{Envelope, AreByClock}
use Rattle.kt_node.proofs.Merged.{one_order}
use Rattle.kt_kills.specs.KilledNets.{Holdings, KilledNet, KillEvent, happens, killed_run, opening_killed}
use Rattle.kt_kills.specs.Starts.{AreRight}
use Rattle.kt_kills.specs.Standing.{killed_after, AreAllBack}
use Rattle.kt_kills.proofs.Invariant.{IsHeld}
use Rattle.kt_kills.proofs.Law.{held_event}
use Rattle.kt_kills.proofs.OpeningHeld.{opening_held}
use Rattle.kt_kills.proofs.Lost.{HasLost, lost_event, opening_lost}
use Rattle.kt_kills.proofs.Later.{IsLater, AreTimed, AreLater, goes_event, opening_timed}
use Rattle.kt_kills.proofs.Deeds.{Deed, made, AreDone, AreMade, IsIdleFrom, whose, made_event, opening_made, idle_event, opening_idle}
use Rattle.kt_kills.proofs.InOrder.{IsSorted, have_of, Story, total, alike_sorted, in_order}

-- all that holds after every list of events
pub record Holds (n first : ℕ) (w : KilledNet) : Type 0 where
  pub held : IsHeld n first w
  pub lost : HasLost n w
  pub timed : AreTimed w
  pub later : AreLater w
  pub deeds : AreMade n first w
  pub most : ℕ
  pub idle : IsIdleFrom n first w most

opening_holds : (n first : ℕ) → Holds n first (opening_killed n first)
opening_holds n first = record {
  held = opening_held n first;
  lost = opening_lost n first;
  timed = (opening_timed n first).0;
  later = (opening_timed n first).1;
  deeds = opening_made n first;
  most = 0;
  idle = opening_idle n first;
}

holds_run : (n first : ℕ) (w : KilledNet) (es : List KillEvent) → AreRight w es → Holds n first w → Holds n first (killed_run w es)
holds_run n first w [] right h = h
holds_run n first w (e ∷ es) right h = let goes = goes_event n first w h.held h.lost h.timed h.later e right.0 in holds_run n first (happens w e) es right.1 (record {
  held = held_event n first w h.held e right.0;
  lost = lost_event n first w h.held h.lost e right.0;
  timed = goes.0;
  later = goes.1;
  deeds = made_event n first w h.held h.deeds e;
  most = max h.most (suc (whose e));
  idle = idle_event n first w e h.most h.idle;
})

module _ (n first : ℕ) (w : KilledNet) (h : Holds n first w) (back : AreAllBack w) where
  -- what each did; those who did nothing have none
  abbrev pub deeds_of : ℕ → List Deed
  deeds_of p = if nat_lt p h.most then (h.deeds p).0.0 else []

  has : (p : ℕ) → made n first p (deeds_of p) ≡ w.memory p
  has p = go (nat_lt p h.most) refl
    where
      go : (b : Bool) → nat_lt p h.most ≡ b → made n first p (if b then (h.deeds p).0.0 else []) ≡ w.memory p
      go true e = (h.deeds p).0.2
      go false e = sym (h.idle.memory p e)

  story : Story n first h.most deeds_of
  story = record {
    done = λ p. go_done p (nat_lt p h.most);
    idle = λ p l. rw (beyond p h.most l) refl;
    later = λ p q. subst (λ (g : Holdings). IsLater (g.took p) ((made n first p (deeds_of p)).put q)) (sym (has q))
        (subst (λ (g : Holdings). IsLater ((w.memory q).took p) (g.put q)) (sym (has p))
        (subst (λ (l : List Envelope). IsLater ((w.memory q).took p) l) (h.held.sent p (back p) q) (h.later p q)));
  }
    where
      go_done : (p : ℕ) (b : Bool) → AreDone n first p (if b then (h.deeds p).0.0 else [])
      go_done p true = (h.deeds p).0.1
      go_done p false = tt

      beyond : (p m : ℕ) → m < p → nat_lt p m ≡ false
      beyond p m l = grind (arith, nat_tests)

  sorted : IsSorted n first w.memory
  sorted = alike_sorted n first (have_of n first h.most deeds_of) w.memory has (in_order n first h.most (total n first h.most h.most deeds_of) deeds_of (self_most (total n first h.most h.most deeds_of)) story)
    where
      self_most : (k : ℕ) → k ≤ k
      self_most k = grind arith

  pub by_clock : (rows : List ClockedRow) → AreByClock 0 0 rows → ((p : ℕ) → rows_of p rows ≡ (w.memory p).rows) → (steps : List ProtocolStep) × (without_clocks rows ≡ (net_run (opening_net n first) steps).rows)
  by_clock rows order parts = (sorted.steps, ap without_clocks (one_order rows sorted.rows 0 0 order sorted.sorted (λ p. parts p ∙ sym (sorted.parts p))) ∙ sorted.same_rows)

pub rows_by_clock : (n first : ℕ) (es : List KillEvent) (rows : List ClockedRow) → AreRight (opening_killed n first) es → AreAllBack (killed_after n first es) →
    AreByClock 0 0 rows → ((p : ℕ) → rows_of p rows ≡ ((killed_after n first es).memory p).rows) → (steps : List ProtocolStep) × (without_clocks rows ≡ (net_run (opening_net n first) steps).rows)
rows_by_clock n first es rows right back = by_clock n first (killed_after n first es) (holds_run n first (opening_killed n first) es right (opening_holds n first)) back rows
