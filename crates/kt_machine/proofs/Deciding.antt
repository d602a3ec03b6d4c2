-- An instance is decided.
use Rattle.std.proofs.Common.{◌≡◌, ℕ, ◌+◌, ◌<◌, Bool, true, false, not, refl, sym, ap, ◌∙◌, inl, inr}
use Rattle.std.specs.Prelude.{◌&&◌, nat_le}
use Rattle.kt_spacetime.specs.declared.event.Event.TheVariants.{Decided}
use Rattle.kt_protocol.proofs.Invariant.{Invariant}
use Rattle.kt_protocol.specs.States.{State}
use Rattle.kt_protocol.specs.Summary.{summary_after, summary_committed}
use Rattle.kt_protocol.proofs.LateDeciding.{member, due_abort, then_due, chosen, before, others}
use Rattle.kt_protocol.specs.LateClosing.{late_deciding_as}
use Rattle.kt_protocol.specs.OnceClosed.{has_to_restore, once_closed}
use Rattle.kt_machine.specs.Labelling.{Labelling, labelled_log}
use Rattle.kt_machine.specs.Seen.{view}
use Rattle.kt_machine.specs.SeenClosing.{seen_deciding}
use Rattle.kt_machine.proofs.LabelNumbers.{row_more}
use Rattle.kt_machine.proofs.Tables.{heard}
use Rattle.kt_machine.proofs.SameSeen.{read, known_row, length_push}
use Rattle.kt_machine.proofs.Named.{Heard, Tells, Sees}

module _ (first : ℕ) (c : State) (t : Labelling) (known : read c.so_far t ≡ labelled_log first c.log) (d : Tells t c) (p k : ℕ) (g : Invariant (once_closed c)) (pos : 0 < k) (n : c.so_far.is_decided k ≡ false) where
  abort_was : (u : ℕ) → has_to_restore (summary_after c.so_far (Decided p k false)) u ≡ false → has_to_restore c.so_far u ≡ false
  abort_was u r = sym (ap (λ (b : Bool). b && c.so_far.is_rollback (c.so_far.open_in u)) (due_abort c p k g pos n u)) ∙ r

  commit_was : (roll : Bool) (u : ℕ) → (then_due c p k g pos n u && c.so_far.is_rollback (c.so_far.open_in u)) ≡ false → has_to_restore c.so_far u ≡ false
  commit_was roll u r = go (c.so_far.joined k u) refl
    where
      go : (b : Bool) → c.so_far.joined k u ≡ b → has_to_restore c.so_far u ≡ false
      go true j = ap (λ (b : Bool). b && c.so_far.is_rollback (c.so_far.open_in u)) (before c p k g pos n u j)
      go false j = sym (ap (λ (b : Bool). b && c.so_far.is_rollback (c.so_far.open_in u)) (others c p k g pos n u j)) ∙ r

  -- who isn't restoring then is no member of the rollback
  no_member : (u : ℕ) → c.so_far.is_rollback k ≡ true → (then_due c p k g pos n u && c.so_far.is_rollback (c.so_far.open_in u)) ≡ false → c.so_far.joined k u ≡ false
  no_member u e r = go (c.so_far.joined k u) refl
    where
      go : (b : Bool) → c.so_far.joined k u ≡ b → b ≡ false
      go false j = refl
      go true j =
          let x : c.so_far.is_rollback (c.so_far.open_in u) ≡ true = ap c.so_far.is_rollback (member c p k g pos n u j) ∙ e in
          let y = chosen c p k g pos n u j in absurd (cc (x, y, r))

  still_received : (u v l : ℕ) → c.so_far.joined k u ≡ false → Heard t.label c.so_far.is_received c.so_far.from c.so_far.to u v l → Heard t.label (λ m. c.so_far.is_received m && not (c.so_far.joined k (c.so_far.to m) && nat_le (c.so_far.permanent (c.so_far.to m)) (c.so_far.received_at m))) c.so_far.from c.so_far.to u v l
  still_received u v l j a = elim a.2 [
    | inl e ↦ (a.0, a.1, inl e)
    | inr r ↦ (let x = r.0 in let y : c.so_far.joined k (c.so_far.to a.0) ≡ false = ap (c.so_far.joined k) r.2 ∙ j in (a.0, a.1, inr (rw (x, y) refl, r.1, r.2, r.3)))
  ]

  pub sees_deciding : (w roll : Bool) → c.so_far.is_rollback k ≡ roll → Sees first (late_deciding_as w roll c p k) (seen_deciding (view t c) p k w)
  unfolding then_due
  sees_deciding false roll e = record {
    labels = t;
    known = known_row first c.log c.so_far t (Decided p k false) known;
    same = refl;
    tells = record {
      numbers = row_more t.label t.used c.so_far.from c.so_far.rows d.numbers;
      rows = ap (λ (x : ℕ). x + 1) d.rows ∙ sym (length_push c.log (Decided p k false));
      named = d.named;
      flows = d.flows;
      noting = d.noting;
      open_low = d.open_low;
      joined_low = d.joined_low;
      asked_near = d.asked_near;
      parent_near = d.parent_near;
      tables = d.tables;
      speaks = d.speaks;
      hears = λ u v r. d.hears u v (abort_was u r);
    };
  }
  sees_deciding true false e = record {
    labels = t;
    known = ap (λ (b : Bool). read (summary_committed b c.so_far k) t) (sym e) ∙ known_row first c.log c.so_far t (Decided p k true) known;
    same = refl;
    tells = record {
      numbers = row_more t.label t.used c.so_far.from c.so_far.rows d.numbers;
      rows = ap (λ (x : ℕ). x + 1) d.rows ∙ sym (length_push c.log (Decided p k true));
      named = d.named;
      flows = d.flows;
      noting = d.noting;
      open_low = d.open_low;
      joined_low = d.joined_low;
      asked_near = d.asked_near;
      parent_near = d.parent_near;
      tables = d.tables;
      speaks = d.speaks;
      hears = λ u v r. d.hears u v (commit_was false u r);
    };
  }
  sees_deciding true true e = record {
    labels = t;
    known = ap (λ (b : Bool). read (summary_committed b c.so_far k) t) (sym e) ∙ known_row first c.log c.so_far t (Decided p k true) known;
    same = refl;
    tells = record {
      numbers = row_more t.label t.used c.so_far.from c.so_far.rows d.numbers;
      rows = ap (λ (x : ℕ). x + 1) d.rows ∙ sym (length_push c.log (Decided p k true));
      named = d.named;
      flows = d.flows;
      noting = d.noting;
      open_low = d.open_low;
      joined_low = d.joined_low;
      asked_near = d.asked_near;
      parent_near = d.parent_near;
      tables = d.tables;
      speaks = d.speaks;
      hears = λ u v r. still_received u v (heard (t.calls u) v) (no_member u e r) (d.hears u v (commit_was true u r));
    };
  }
