-- In a run: what a commit keeps is what stands past the mark.
use Rattle.std.proofs.Common.{◌≡◌, ℕ, ◌+◌, ◌-◌, Bool, true, false, not, Option, Some, None, List, ◌++◌, length, take, drop, refl, arith, sym, ap, ap₂, ◌∙◌, length-take}
use Rattle.std.specs.Prelude.{◌==◌, ◌&&◌, nat_le, option_map, slice_get}
use Rattle.std.proofs.lemmas.Bool.Decides.{nat_tests}
use Rattle.std.proofs.lemmas.List.{take-append-drop, drop-append-le, drop-drop, drop_at}
use Rattle.kt_spacetime.specs.declared.deeds.Deed.{Deed}
use Rattle.kt_spacetime.specs.declared.deeds.Deed.TheVariants as deed
use Rattle.kt_meaning.proofs.Lists.{get_drop}
use Rattle.kt_protocol.specs.Parcels.{messages, messages_where}
use Rattle.kt_protocol.specs.Summary.{Summary}
use Rattle.kt_protocol.specs.States.{ProtocolStep, opening}
use Rattle.kt_protocol.specs.LateClosing.{is_newer}
use Rattle.kt_protocol.specs.LateSteps.{late_run}
use Rattle.kt_protocol.specs.KeptInOrder.{is_in_checkpoint}
use Rattle.kt_protocol.specs.OnceClosed.{has_to_restore}
use Rattle.kt_machine.specs.Done.{done}
use Rattle.kt_machine.specs.Values.{taken_in, taken_at}
use Rattle.kt_protocol.specs.InTransit.{received_of}
use Rattle.kt_machine.specs.Marks.{marks}
use Rattle.kt_machine.proofs.LegalFacts.{sound}
use Rattle.kt_machine.proofs.RunActs.{invariant_late, legal_late}
use Rattle.kt_machine.proofs.StateValues.{taken_late}
use Rattle.kt_machine.proofs.StandsOnce.{own_live}
use Rattle.kt_machine.proofs.ReceivedMessages.{got_append}
use Rattle.kt_machine.proofs.KeptLists.{pick, apps_sieve, pick_got}
use Rattle.kt_machine.proofs.RisingLines.{kept_is}
use Rattle.kt_machine.proofs.MarksAlong.{marks_are}

-- who is in a checkpoint isn't restoring
not_restoring : (h : Summary) (p : ℕ) → is_in_checkpoint h p ≡ true → has_to_restore h p ≡ false
not_restoring h p e = go (h.open_in p == 0) (h.is_rollback (h.open_in p)) (h.is_decided (h.open_in p) && h.is_committed (h.open_in p)) e
  where
    go : (a r c : Bool) → (not a && not r) ≡ true → ((not a && c) && r) ≡ false
    go true r c e = absurd (cc (e))
    go false true c e = absurd (cc (e))
    go false false true e = refl
    go false false false e = refl

module _ (n : ℕ) (steps : List ProtocolStep) (p : ℕ) (e : is_in_checkpoint (late_run (opening n) steps).so_far p ≡ true) where
  taken : taken_at (done (late_run (opening n) steps).log).past p ≡ Some ((late_run (opening n) steps).saved_at p)
  taken = same (taken_at (done (late_run (opening n) steps).log).past p) (sym (taken_late n steps (λ m. m) p) ∙ rw e refl)
    where
      same : (o : Option ℕ) → option_map (λ m. m) o ≡ Some ((late_run (opening n) steps).saved_at p) → o ≡ Some ((late_run (opening n) steps).saved_at p)
      same None f = absurd (cc (f))
      same (Some m) f = f

  opened : (k : ℕ) × ((done (late_run (opening n) steps).log).past.open_in p ≡ Some k) × ((done (late_run (opening n) steps).log).past.new k p ≡ Some ((late_run (opening n) steps).saved_at p))
  opened = go ((done (late_run (opening n) steps).log).past.open_in p) refl taken
    where
      go : (o : Option ℕ) → (done (late_run (opening n) steps).log).past.open_in p ≡ o → taken_in (done (late_run (opening n) steps).log).past p o ≡ Some ((late_run (opening n) steps).saved_at p) → (k : ℕ) × ((done (late_run (opening n) steps).log).past.open_in p ≡ Some k) × ((done (late_run (opening n) steps).log).past.new k p ≡ Some ((late_run (opening n) steps).saved_at p))
      go None i f = absurd (cc (f))
      go (Some k) i f = (k, i, f)

  pub newer_are : (q : ℕ) → messages (messages_where (is_newer (late_run (opening n) steps) p) ((late_run (opening n) steps).kept q p)) ≡ drop ((marks (late_run (opening n) steps).log).mark p q) (messages ((late_run (opening n) steps).kept q p))
  newer_are q =
      let c = late_run (opening n) steps in
      let d = done c.log in
      let s = sound c.log (legal_late n steps) in
      let k = kept_is n steps (invariant_late n) (legal_late n steps) p q in
      let low = s.bounds.taken_low p opened.0 (c.saved_at p) opened.1 opened.2 in
      let over = s.bounds.over p opened.0 (c.saved_at p) opened.1 opened.2 in
      let j : d.permanent p + (c.saved_at p - d.permanent p) ≡ c.saved_at p = omega (arith, over) in
      let left = apps_sieve (is_newer c p) (c.kept q p) ∙ (ap (pick (is_newer c p)) k ∙ (pick_got (is_newer c p) q (c.saved_at p - d.permanent p) (drop (d.permanent p) (d.own p)) (λ x m from g.
      let h = ((invariant_late n steps).histories.received_is p (d.permanent p + x) m from (ap (λ (z : List Deed). slice_get z (d.permanent p + x)) (own_live n steps p (not_restoring c.so_far p e)) ∙ get_drop (d.permanent p) (d.own p) x (deed.Received m from) g)).2 in
      same_test (c.saved_at p) (c.so_far.received_at m) (d.permanent p) x (c.saved_at p - d.permanent p) h j) ∙ ap (received_of q) (drop-drop (c.saved_at p - d.permanent p) (d.permanent p) (d.own p) ∙ ap (λ (z : ℕ). drop z (d.own p)) j))) in
      let two : drop (d.permanent p) (d.own p) ≡ drop (d.permanent p) (take (c.saved_at p) (d.own p)) ++ drop (c.saved_at p) (d.own p) = ap (drop (d.permanent p)) (sym (take-append-drop (c.saved_at p) (d.own p))) ∙ drop-append-le (d.permanent p) (take (c.saved_at p) (d.own p)) (drop (c.saved_at p) (d.own p)) (let t = length-take (c.saved_at p) (d.own p) in grind (arith, t, low, over)) in
      let parts : messages (c.kept q p) ≡ received_of q (drop (d.permanent p) (take (c.saved_at p) (d.own p))) ++ received_of q (drop (c.saved_at p) (d.own p)) = k ∙ (ap (received_of q) two ∙ got_append q (drop (d.permanent p) (take (c.saved_at p) (d.own p))) (drop (c.saved_at p) (d.own p))) in
      let m = (marks_are c.log (legal_late n steps)).each p q opened.0 (c.saved_at p) opened.1 opened.2 in
      left ∙ sym (ap₂ (λ (x : ℕ) (l : List ℕ). drop x l) m parts ∙ drop_at (received_of q (drop (d.permanent p) (take (c.saved_at p) (d.own p)))) (received_of q (drop (c.saved_at p) (d.own p))) (length (received_of q (drop (d.permanent p) (take (c.saved_at p) (d.own p))))) refl)
    where
      same_test : (base place perm x j : ℕ) → place ≡ perm + x → perm + j ≡ base → nat_le base place ≡ nat_le j x
      same_test base place perm x j f g = grind (arith, nat_tests, f, g)
