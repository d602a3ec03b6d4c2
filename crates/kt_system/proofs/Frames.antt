-- What stays of a system, part by part.
use Rattle.std.specs.Prelude.{true, slice_index_or}
use Rattle.std.proofs.Common.{◌≡◌, ◌<◌, ◌≤◌, ◌+◌, ℕ, List, ap, subst, sym, ◌∙◌, arith, length}
use Rattle.kt_base.specs.Sets.{has}
use Rattle.kt_fifo.specs.Channels.{ChannelLists, channel, spare_of}
use Rattle.kt_process.specs.declared.actions.Then.{Then}
use Rattle.kt_process.specs.ProcessStates.{ProcessState, asked_of, is_ready}
use Rattle.kt_system.specs.Systems.{Whole, state_of, room_to, HasBack, KeepsParcels, KeepsStates, KeepsRoom, GivesRoom, UsesRoom, CanJoin, CanClose}
use Rattle.kt_system.specs.Shown.{IsTurned}

state_same : (a b : Whole) → b.states ≡ a.states → (p : ℕ) → state_of b p ≡ state_of a p
unfolding state_of
state_same a b e p = ap (λ (states : List ProcessState). state_of (record a { states = states }) p) e

pub room_same : (a b : Whole) → b.channels ≡ a.channels → (p q : ℕ) → room_to b p q ≡ room_to a p q
unfolding room_to
room_same a b e p q = ap (λ (channels : ChannelLists). spare_of channels p q) e

pub back_same : (a b : Whole) → b.size ≡ a.size → b.held ≡ a.held → b.kept ≡ a.kept → (p : ℕ) → HasBack a p → HasBack b p
back_same a b s e f p h = record {
  back = subst (λ (n : ℕ). (q : ℕ) → q < n → length (channel b.kept q p) ≤ spare_of b.held q p) (sym s)
      (subst (λ (held : ChannelLists). (q : ℕ) → q < a.size → length (channel b.kept q p) ≤ spare_of held q p) (sym e)
      (subst (λ (kept : ChannelLists). (q : ℕ) → q < a.size → length (channel kept q p) ≤ spare_of a.held q p) (sym f) h.back));
}

-- the turn of a process leaves all room
pub room_turned : (a b : Whole) (p : ℕ) → IsTurned a b p → (u v : ℕ) → room_to b u v ≡ room_to a u v
room_turned a b p t = room_same a b t.channels

pub back_turned : (a b : Whole) (p : ℕ) → IsTurned a b p → (q : ℕ) → HasBack a q → HasBack b q
back_turned a b p t = back_same a b t.size t.held t.kept

-- only the log or the tallies change
pub keeps_parcels : (a b seen : Whole) → a ≡ seen → b.size ≡ a.size → b.states ≡ a.states → b.channels ≡ a.channels → b.held ≡ a.held → b.kept ≡ a.kept → KeepsParcels seen b
keeps_parcels a b seen v s e f g k = subst (λ (w : Whole). KeepsParcels w b) v (record {
  size = s;
  state_of = state_same a b e;
  room = room_same a b f;
  back = back_same a b s g k;
})

pub keeps_states : (a b seen : Whole) → a ≡ seen → b.size ≡ a.size → b.states ≡ a.states → KeepsStates seen b
keeps_states a b seen v s e = subst (λ (w : Whole). KeepsStates w b) v (record { size = s; state_of = state_same a b e })

pub keeps_room : (a b seen : Whole) → a ≡ seen → b.size ≡ a.size → b.states ≡ a.states → b.channels ≡ a.channels → KeepsRoom seen b
keeps_room a b seen v s e f = subst (λ (w : Whole). KeepsRoom w b) v (record { size = s; state_of = state_same a b e; room = room_same a b f })

pub gives_room : (a b seen : Whole) → a ≡ seen → b.size ≡ a.size → b.states ≡ a.states → ((p q : ℕ) → spare_of a.channels p q ≤ spare_of b.channels p q) → b.held ≡ a.held → b.kept ≡ a.kept → GivesRoom seen b
unfolding room_to
gives_room a b seen v s e f g k = subst (λ (w : Whole). GivesRoom w b) v (record {
  size = s;
  state_of = state_same a b e;
  room = f;
  back = back_same a b s g k;
})

pub uses_room : (a b seen : Whole) (p : ℕ) → a ≡ seen → b.size ≡ a.size → b.states ≡ a.states → ((q : ℕ) → spare_of a.channels p q ≤ spare_of b.channels p q + 1) → b.held ≡ a.held → b.kept ≡ a.kept → UsesRoom seen b p
unfolding room_to
uses_room a b seen p v s e f g k = subst (λ (w : Whole). UsesRoom w b p) v (record {
  size = s;
  state_of = state_same a b e;
  room = f;
  back = back_same a b s g k;
})

pub uses_then_keeps : (a b d : Whole) (p : ℕ) → UsesRoom a b p → KeepsParcels b d → UsesRoom a d p
uses_then_keeps a b d p u k = record {
  size = k.size ∙ u.size;
  state_of = λ q. k.state_of q ∙ u.state_of q;
  room = λ q. let x = u.room q in let y = k.room p q in omega arith;
  back = λ q h. k.back q (u.back q h);
}

pub can_join_kept : (a b : Whole) (p : ℕ) (asks : List (ℕ × ℕ)) (goes : Then) → KeepsParcels a b → CanJoin a p asks goes → CanJoin b p asks goes
can_join_kept a b p asks goes k h = record {
  within = λ j l. let x = h.within j l in let y = k.size in omega arith;
  rising = h.rising;
  asks_fit = λ j l. let x = h.asks_fit j l in let y = k.room p (slice_index_or asks j (0, 0)).0 in omega arith;
  parcels = λ q e. let x = h.parcels q (sym (ap (λ (z : ProcessState). asked_of z.side q) (k.state_of p)) ∙ e) in let y = k.room p q in omega arith;
  answers = λ to e. let x = h.answers to e in let y = k.room p to in let z = k.size in (omega (arith, x.0), omega (arith, x.1));
  back = λ e r. k.back p (h.back e (sym (ap (λ (z : ProcessState). is_ready z.side) (k.state_of p)) ∙ r));
}

pub can_tell : (a b d : Whole) (p set : ℕ) → CanClose a p → KeepsRoom a b → IsTurned b d p → ((q : ℕ) → has set q ≡ asked_of (state_of b p).side q) → (q : ℕ) → has set q ≡ true → 1 ≤ room_to d p q
can_tell a b d p set h k t tell q e =
    let asked : asked_of (state_of a p).side q ≡ true = ap (λ (z : ProcessState). asked_of z.side q) (sym (k.state_of p)) ∙ (sym (tell q) ∙ e) in
    let x = h.parcels q asked in let y = k.room p q in let z = room_turned b d p t p q in omega (arith, x, y, z)
