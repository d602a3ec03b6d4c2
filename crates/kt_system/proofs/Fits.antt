-- What follows from a command to begin an instance, from an ask, and from a reply, has room.
use Rattle.std.specs.Prelude.{◌==◌, ◌&&◌, ◌-◌, if◌then◌else◌, Option, Some, None, option_map}
use Rattle.std.proofs.Common.{◌≡◌, ◌<◌, ◌≤◌, ℕ, Bool, true, false, List, get_or, refl, arith, sym, ap, subst, ◌∙◌}
use Rattle.std.proofs.lemmas.Bool.Decides.{nat_tests}
use Rattle.std.proofs.lemmas.List.Elements.{All-get_or}
use Rattle.std.proofs.lemmas.List.Folds.{list_any_at}
use Rattle.kt_base.specs.Sets.{has}
use Rattle.kt_base.specs.declared.words.Kind.{Kind}
use Rattle.kt_process.specs.Replies.{IsReplyTo}
use Rattle.kt_process.specs.PartRules.{way_alone, last_action, after_reply}
use Rattle.kt_process.specs.Parts.{Part}
use Rattle.kt_process.specs.declared.actions.Action.{Action}
use Rattle.kt_process.specs.declared.actions.Action.TheVariants.{Nothing, Refuse, Join, Reply, Settle}
use Rattle.kt_process.specs.declared.actions.Then.{Then}
use Rattle.kt_process.specs.declared.actions.Then.TheVariants.{Wait, Answer, Commit}
use Rattle.kt_process.specs.ProcessStates.{ProcessState, part_of_side, is_saving, is_ready, asked_of, asked_of_part}
use Rattle.kt_process.specs.Turns.{peers_of, joins_by, reply_of, is_of, IsIn, HasPartners, HasJoined, IsBegin, IsHeard}
use Rattle.kt_process.specs.declared.side.Side.{Side}
use Rattle.kt_process.specs.declared.side.Side.TheVariants.{Checkpoint, Rollback}
use Rattle.kt_system.specs.Systems.{Whole, state_of, room_to, HasBack, HasRoomFor, KeepsStates, GivesRoom, KeepsRoom, CanJoin, CanCarryOut, CanGoOn}
use Rattle.kt_system.specs.Shown.{IsTurned}
use Rattle.kt_system.proofs.Frames.{room_turned, back_turned}

-- who goes on by a reply has a parent, and who commits has none
answer_parent : (b : Bool) (parent : Option ℕ) (to : ℕ) → (if b then way_alone parent else Wait) ≡ Answer to → parent ≡ Some to
answer_parent true (Some x) to e = cc
answer_parent true None to e = absurd (cc)
answer_parent false parent to e = absurd (cc)

commit_parent : (b : Bool) (parent : Option ℕ) → (if b then way_alone parent else Wait) ≡ Commit → parent ≡ None
commit_parent true (Some x) e = absurd (cc)
commit_parent true None e = refl
commit_parent false parent e = absurd (cc)

same_test : (a : ℕ) → (a == a) ≡ true
same_test a = grind (arith, nat_tests)

-- a process that has joined may send its asks and go on
joined_fits : (kd : Kind) (parent : Option ℕ) (k p set : ℕ) (m a b : Whole) (asks : List (ℕ × ℕ)) (goes : Then) → HasRoomFor m p set → ((to : ℕ) → parent ≡ Some to → (to < m.size) × (has set to ≡ true)) → (state_of m p).tables.processes ≡ m.size →
    ((q : ℕ) → peers_of (state_of m p).tables kd q ≡ true → has set q ≡ true) → (parent ≡ None → is_of kd (state_of a p).side ≡ true → is_ready (state_of a p).side ≡ true → HasBack m p) → IsTurned m a p → GivesRoom a b →
    HasJoined kd k parent (state_of m p) (state_of a p) (Join asks goes) → CanJoin b p asks goes
joined_fits kd parent k p set m a b asks goes fits asker size sets has_back turn gives j =
    let join = j.joins.0 in
    let part = j.part in
    let bsize : b.size ≡ m.size = gives.size ∙ turn.size in
    let room_at : (q : ℕ) → 2 ≤ room_to m p q → 2 ≤ room_to b p q = λ q h. let x = room_turned m a p turn p q in let y = gives.room p q in omega arith in
    let room : (q : ℕ) → has part.asked q ≡ true → 2 ≤ room_to b p q = λ q e. room_at q (fits.room q (let x = join.below q e in omega arith) (sets q (j.asked q e))) in
    record {
      within = λ i l. let x = All-get_or (λ ask. ask.0 < (state_of m p).tables.processes) asks i (0, 0) l join.within in omega arith;
      rising = join.rising;
      asks_fit = λ i l. let q = (get_or asks i (0, 0)).0 in room q (join.part.asked q ∙ list_any_at (λ ask. ask.0 == q) asks i (0, 0) l (same_test q));
      parcels = λ q e. room q (ap (λ (s : Option Part). asked_of_part s q) (sym j.is) ∙ (ap (λ (x : ProcessState). asked_of x.side q) (sym (gives.state_of p)) ∙ e));
      answers = λ to e.
          let there = asker to (sym join.part.parent ∙ answer_parent (part.awaited == 0) part.parent to (sym j.joins.1 ∙ e)) in
          let below = there.0 in
          (omega (arith, below, bsize), room_at to (fits.room to below there.1));
      back = λ e r.
          let alone = sym join.part.parent ∙ commit_parent (part.awaited == 0) part.parent (sym j.joins.1 ∙ e) in
          gives.back p (back_turned m a p turn p (has_back alone j.of_kind (ap (λ (x : ProcessState). is_ready x.side) (sym (gives.state_of p)) ∙ r)));
    }

-- a command to begin an instance
pub begins_fit : (kd : Kind) (k p set : ℕ) (now m a : Whole) (action : Action) → HasRoomFor m p set → KeepsStates now m → (state_of now p).tables.processes ≡ now.size → ((q : ℕ) → has set q ≡ peers_of (state_of now p).tables kd q) →
    (is_of kd (state_of a p).side ≡ true → is_ready (state_of a p).side ≡ true → HasBack m p) → IsTurned m a p → IsBegin kd k (state_of m p) (state_of a p) action → CanCarryOut a p action
begins_fit kd k p set now m a Nothing fits keeps size peers back turn h = tt
begins_fit kd k p set now m a (Refuse cause) fits keeps size peers back turn h = tt
begins_fit kd k p set now m a (Reply to willing cause) fits keeps size peers back turn h = tt
begins_fit kd k p set now m a (Settle commit tell) fits keeps size peers back turn h = tt
begins_fit kd k p set now m a (Join asks goes) fits keeps size peers back turn h =
    let was : state_of m p ≡ state_of now p = keeps.state_of p in
    let tables : (state_of m p).tables.processes ≡ m.size = ap (λ (x : ProcessState). x.tables.processes) was ∙ (size ∙ sym keeps.size) in
    let same : GivesRoom a a = record { size = refl; state_of = λ q. refl; room = λ u v. omega arith; back = λ q b. b } in
    joined_fits kd None k p set m a a asks goes fits (λ to e. absurd (cc (e))) tables (λ q e. peers q ∙ (ap (λ (x : ProcessState). peers_of x.tables kd q) (sym was) ∙ e)) (λ e. back) turn same h

pub saving_free : (s : Option Side) → is_saving s ≡ true → is_ready s ≡ true → ⊥
saving_free None e f = cc (e)
saving_free (Some (Checkpoint side)) e f = cc (f)
saving_free (Some (Rollback side)) e f = cc (e)

pub hears_fit : (kd : Kind) (able : Bool) (from k label p set : ℕ) (now m a b : Whole) (joins : Bool) (action : Action) → HasRoomFor m p set → has set from ≡ true → from < now.size → (state_of now p).tables.processes ≡ now.size →
    joins ≡ joins_by (state_of now p) kd able from label → (joins ≡ true → (q : ℕ) → peers_of (state_of now p).tables kd q ≡ true → has set q ≡ true) → GivesRoom now m → IsTurned m a p → IsHeard kd able from k label (state_of m p) (state_of a p) action → GivesRoom a b → CanCarryOut b p action
hears_fit kd able from k label p set now m a b joins Nothing fits hf below size test sets g turn h gives = tt
hears_fit kd able from k label p set now m a b joins (Refuse cause) fits hf below size test sets g turn h gives = tt
hears_fit kd able from k label p set now m a b joins (Reply to willing cause) fits hf below size test sets g turn h gives = tt
hears_fit kd able from k label p set now m a b joins (Settle commit tell) fits hf below size test sets g turn h gives = tt
hears_fit kd able from k label p set now m a b joins (Join asks goes) fits hf below size test sets g turn h gives =
    let was : state_of m p ≡ state_of now p = g.state_of p in
    let tables : (state_of m p).tables.processes ≡ m.size = ap (λ (x : ProcessState). x.tables.processes) was ∙ (size ∙ sym g.size) in
    let joined : joins ≡ true = test ∙ (ap (λ (x : ProcessState). joins_by x kd able from label) (sym was) ∙ h.0) in
    let asker : (to : ℕ) → Some from ≡ Some to → (to < m.size) × (has set to ≡ true) = λ to e.
    let same : from ≡ to = cc (e) in
    subst (λ (q : ℕ). (q < m.size) × (has set q ≡ true)) same (let z = g.size in omega (arith, below, z), hf) in
    joined_fits kd (Some from) k p set m a b asks goes fits asker tables (λ q e. sets joined q (ap (λ (x : ProcessState). peers_of x.tables kd q) (sym was) ∙ e)) (λ e. absurd (cc (e))) turn gives h.1

-- room for a reply to the asker stays
pub asker_room : (p from set : ℕ) (now m a b : Whole) → HasRoomFor m p set → has set from ≡ true → from < now.size → GivesRoom now m → IsTurned m a p → GivesRoom a b → 2 ≤ room_to b p from
asker_room p from set now m a b fits hf below g turn gives =
    let there : from < m.size = (let z = g.size in omega (arith, below, z)) in
    let made = fits.room from there hf in let same = room_turned m a p turn p from in let left = gives.room p from in omega (arith, made, same, left)

-- what follows from a reply has room
pub replies_fit : (p set : ℕ) (w : Bool) (now m r a b : Whole) (action : Action) → HasPartners (part_of_side (state_of now p).side) set → ((q : ℕ) → has set q ≡ true → q < now.size) → HasRoomFor m p set → GivesRoom now m → KeepsRoom m r →
    (is_ready (state_of m p).side ≡ true → HasBack r p) → GivesRoom r a → IsTurned a b p → action ≡ reply_of (part_of_side (state_of a p).side) w →
    part_of_side (state_of b p).side ≡ option_map (λ part. after_reply part w) (part_of_side (state_of a p).side) → is_ready (state_of b p).side ≡ is_ready (state_of a p).side → CanGoOn b p action
replies_fit p set w now m r a b action partners within fits g k back h turn follows part ready_same =
    subst (λ (z : Action). CanGoOn b p z) (sym follows) (at_part (part_of_side (state_of a p).side) refl)
  where
    was : state_of a p ≡ state_of now p
    was = h.state_of p ∙ (k.state_of p ∙ g.state_of p)

    size : b.size ≡ now.size
    size = turn.size ∙ (h.size ∙ (k.size ∙ g.size))

    room : (q : ℕ) → has set q ≡ true → 1 ≤ room_to b p q
    room q e = let l = within q e in let f = fits.room q (let z = g.size in omega (arith, l, z)) e in let x = k.room p q in let y = h.room p q in let z = room_turned a b p turn p q in omega (arith, f, x, y, z)

    ready : is_ready (state_of b p).side ≡ is_ready (state_of m p).side
    ready = ready_same ∙ ap (λ (x : ProcessState). is_ready x.side) (h.state_of p ∙ k.state_of p)

    has_partners : (o : Option Part) → part_of_side (state_of a p).side ≡ o → HasPartners o set
    has_partners o e = subst (λ (z : Option Part). HasPartners z set) (ap (λ (x : ProcessState). part_of_side x.side) (sym was) ∙ e) partners

    asked_after : (s : Part) → part_of_side (state_of a p).side ≡ Some s → (q : ℕ) → asked_of (state_of b p).side q ≡ has s.asked q
    asked_after s e q =
        ap (λ (o : Option Part). asked_of_part o q) (part ∙ ap (λ (o : Option Part). option_map (λ part. after_reply part w) o) e) ∙ at_count (s.awaited == 0)
      where
        at_count : (t : Bool) → has (if t then s else record s { awaited = s.awaited - 1; willing = s.willing && w }).asked q ≡ has s.asked q
        at_count true = refl
        at_count false = refl

    one_left : (n : ℕ) → (n == 1) ≡ true → n ≡ 1
    one_left n e = grind (arith, nat_tests)

    at_part : (o : Option Part) → part_of_side (state_of a p).side ≡ o → CanGoOn b p (reply_of o w)
    at_part None e = tt
    at_part (Some s) e = at_test (s.awaited == 1) refl
      where
        at_parent : (o : Option ℕ) → s.parent ≡ o → s.awaited ≡ 1 → CanGoOn b p (last_action o (s.willing && w) s.asked)
        at_parent (Some to) i one =
            let told : has set to ≡ true = subst (λ (z : Option ℕ). IsIn set z) i (has_partners (Some s) e one).1 in
            (let l = within to told in omega (arith, l, size), room to told)
        at_parent None i one = record {
          parcels = λ q d. room q ((has_partners (Some s) e one).0 q (sym (asked_after s e q) ∙ d));
          back = λ d. back_turned a b p turn p (h.back p (back (sym ready ∙ d)));
        }

        at_test : (t : Bool) → (s.awaited == 1) ≡ t → CanGoOn b p (if t then last_action s.parent (s.willing && w) s.asked else Nothing)
        at_test true f = at_parent s.parent refl (one_left s.awaited f)
        at_test false f = tt

-- a reply needs no more room
pub reply_fits : (b : Whole) (p from : ℕ) (action : Action) → IsReplyTo from action → CanCarryOut b p action
reply_fits b p from Nothing h = absurd h
reply_fits b p from (Refuse cause) h = absurd h
reply_fits b p from (Reply to willing cause) h = tt
reply_fits b p from (Settle commit tell) h = absurd h
reply_fits b p from (Join asks goes) h = absurd h
