-- What the protocol's state says of a process that may be unwilling, its log says.
use Rattle.std.proofs.Common.{◌≡◌, ℕ, ◌<◌, ◌≤◌, ◌-◌, Bool, true, false, arith, refl, sym, ap, ◌∙◌, Some, None}
use Rattle.std.specs.Prelude.{◌==◌, ◌&&◌, ◌||◌, not, if◌then◌else◌, is_some, take, drop, slice_get}
use Rattle.kt_base.specs.declared.words.Cause.{Cause}
use Rattle.kt_base.specs.declared.words.Cause.TheVariants.{Busy, Down, NoSave}
use Rattle.kt_spacetime.specs.declared.deeds.Deed.TheVariants as deed
use Rattle.kt_meaning.specs.Chains.{LinksCheckpoint, is_sent_past}
use Rattle.kt_meaning.specs.Legal.{has_begun}
use Rattle.kt_meaning.specs.Past.{Past, past, is_checkpoint, is_rollback, is_member}
use Rattle.std.proofs.lemmas.Bool.Decides.{nat_tests}
use Rattle.kt_meaning.proofs.Lists.{get_in_take, has_from_place}
use Rattle.kt_meaning.proofs.Items.{get_from_drop}
use Rattle.kt_protocol.specs.Refusals as state
use Rattle.kt_protocol.specs.States.{State}
use Rattle.kt_protocol.specs.Summary.{Summary}
use Rattle.kt_protocol.specs.SummaryMeaning.{AgreesWith}
use Rattle.kt_promises.specs.Unwilling.{HasCauseToRefuse, HasReceived, HasSent, IsFreeToJoin, MayRefuseToJoin}

flip : (b : Bool) → not b ≡ true → b ≡ false
flip true e = absurd (cc)
flip false e = refl

one_of : (r : Bool) (n : ℕ) → (is_some (if true && not r then Some n else None) || (true && r)) ≡ true
one_of true n = refl
one_of false n = refl

module _ (h : Summary) (s : Past) (t : AgreesWith h s) (p q k : ℕ) (joined : h.joined k q ≡ true) where
  begun : has_begun s k ≡ true
  begun = t.begun k q joined

  saves : is_checkpoint s k ≡ true → h.is_rollback k ≡ false
  saves kind = flip (h.is_rollback k) (sym (t.checkpoint k begun) ∙ kind)

  rolls : is_rollback s k ≡ true → h.is_rollback k ≡ true
  rolls kind = sym (t.rollback k begun) ∙ kind

  new_of : h.is_rollback k ≡ false → s.new k q ≡ Some (h.new k q)
  new_of r = t.new k q ∙ rw (joined, r) refl

  member : is_member s k q ≡ true
  member = rw (t.new k q, t.ready k q, joined) (one_of (h.is_rollback k) (h.new k q))

  within : (m i : ℕ) → slice_get (h.live q) i ≡ Some (deed.Received m p) → i < h.new k q
      → slice_get (take (h.new k q) (s.live q)) i ≡ Some (deed.Received m p)
  within m i e l = get_in_take (h.new k q) (s.live q) i (deed.Received m p) (rw (← t.live q) e) l

  sent_past : (u v m i : ℕ) → slice_get (h.live u) i ≡ Some (deed.Sent m v) → h.permanent u ≤ i → is_sent_past s u v m ≡ true
  sent_past u v m i e l =
      let there : slice_get (s.live u) i ≡ Some (deed.Sent m v) = rw (← t.live u) e in
      let low : s.permanent u ≤ i = (let y = t.permanent u in omega (arith, y, l)) in
      has_from_place (deed.Sent m v) (drop (s.permanent u) (s.live u)) (i - s.permanent u) (get_from_drop (s.permanent u) (s.live u) i (deed.Sent m v) there low)

  received : h.is_rollback k ≡ false → state.HasReceived h q p k → HasReceived s q p k
  received r x =
      let low : s.permanent q ≤ x.place = (let y = t.permanent q in let z = x.past_permanent in omega (arith, y, z)) in (
        x.msg,
        rw (new_of r) (has_from_place (deed.Received x.msg p) (drop (s.permanent q) (take (h.new k q) (s.live q))) (x.place - s.permanent q)
            (get_from_drop (s.permanent q) (take (h.new k q) (s.live q)) x.place (deed.Received x.msg p) (within x.msg x.place x.received x.within) low)),
      )

  sent : state.HasSent h q p → HasSent s q p
  sent x = (x.msg, sent_past q p x.msg x.place x.sent x.past_permanent)

  links : h.is_rollback k ≡ false → (x : state.HasToJoin h p q k) → LinksCheckpoint s k p q x.msg
  links r x = record {
    sent = sent_past p q x.msg x.out x.sent x.past_permanent;
    member = rw (new_of r) refl;
    received = rw (new_of r) (has_from_place (deed.Received x.msg p) (take (h.new k q) (s.live q)) x.place (within x.msg x.place x.received x.within));
  }

free_by_log : (s : State) (p q k : ℕ) → AgreesWith s.so_far (past s.log) → s.so_far.joined k q ≡ true → state.IsFree s p q k → IsFreeToJoin (past s.log) p q k
free_by_log s p q k t j f = record {
  checkpoint = t.checkpoint k (begun s.so_far (past s.log) t p q k j) ∙ ap not f.checkpoint;
  closed = rw (t.open_in p, f.closed) refl;
  msg = f.has_to.msg;
  links = links s.so_far (past s.log) t p q k j f.checkpoint f.has_to;
}

cause_by_log : (s : State) (p q k : ℕ) (able : Bool) (c : Cause) → AgreesWith s.so_far (past s.log) → s.up p ≡ (past s.log).up p → s.so_far.joined k q ≡ true
    → state.HasCause s p q k able c → HasCauseToRefuse (past s.log) p q k able c
cause_by_log s p q k able (Busy j) t u m b = record {
  open_in = (let pos = b.positive in let e : (j == 0) ≡ false = grind (arith, nat_tests, pos) in rw (t.open_in p, b.open_in, e) refl);
  other = b.other;
  received = λ kind. let r = saves s.so_far (past s.log) t p q k m kind in received s.so_far (past s.log) t p q k m r (b.received r);
  sent = λ kind. sent s.so_far (past s.log) t p q k m (b.sent (rolls s.so_far (past s.log) t p q k m kind));
}
cause_by_log s p q k able Down t u m f = (free_by_log s p q k t m f.0, sym u ∙ f.1)
cause_by_log s p q k able NoSave t u m f = (free_by_log s p q k t m f.0, sym u ∙ f.1, f.2)

-- a process that may be unwilling by the state may be so by the log
pub refuses_by_log : (s : State) (p q k : ℕ) (able : Bool) (c : Cause) → AgreesWith s.so_far (past s.log) → s.up p ≡ (past s.log).up p
    → state.MayBeUnwilling s p q k able c → MayRefuseToJoin (past s.log) p q k able c
refuses_by_log s p q k able c t u m = record {
  member = member s.so_far (past s.log) t p q k m.member;
  undecided = rw (t.decision k, m.undecided) refl;
  cause = cause_by_log s p q k able c t u m.member m.cause;
}
