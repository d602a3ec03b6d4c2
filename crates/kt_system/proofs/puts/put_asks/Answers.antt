use Rattle.std.specs.Prelude.{slice_index_or, if◌then◌else◌}
use Rattle.std.proofs.Common.{◌≡◌, ◌∙◌, ◌≤◌, ◌+◌, ap, sym, subst, ℕ, List, ◌++◌, ◌∷◌, [], refl, take, arith}
use Rattle.std.proofs.lemmas.List.{take_more, get_or_default}
use Rattle.kt_fifo.specs.declared.parcels.Parcel.TheVariants.{Ask}
use Rattle.kt_fifo.specs.Channels.{channel, spare_of}
use Rattle.kt_machine.specs.Seen.{SeenLists}
use Rattle.kt_machine.specs.InOnePiece.{with_asks}
use Rattle.kt_process.specs.Asks.{is_asked_in}
use Rattle.kt_system.proofs.Telling.{put}
use Rattle.kt_system.proofs.Named.{fresh}
use Rattle.kt_system.proofs.Asking.{with_none, with_more, place_taken, most_one, has_place}
use Rattle.kt_system.proofs.puts.put_asks.Goals as goal

pub loop-ask-init : goal.loop-ask-init
loop-ask-init c = record {
  processes = refl;
  lists = with_none (channel c.args.channels.now) c.args.p c.args.inst c.args.kind;
  room = λ q. omega arith;
}

pub push_reserved-requires-clause-room : goal.push_reserved-requires-clause-room
push_reserved-requires-clause-room c =
    let asks = c.args.asks.now in
    let i = c.loop-ask.ask-index in
    let x = c.ask-item.result in
    let k : x.0 ≡ (slice_index_or asks i (0, 0)).0 = ap (λ (y : ℕ × ℕ). y.0) (c.ask-item.is ∙ get_or_default asks i _ (0, 0) c.loop-ask-test.true) in
    let room = subst (λ (q : ℕ). 1 ≤ spare_of c.args.channels.now c.args.p q) (sym k) (c.requires.room i c.loop-ask-test.true) in
    has_place (spare_of c.args.channels.now c.args.p x.0) (spare_of c.loop-ask.channels c.args.p x.0) (is_asked_in (take i asks) x.0) (fresh asks i x c.requires.rising c.loop-ask-test.true c.ask-item.is) (c.loop-ask.invariant.room x.0) room

pub loop-ask-preserved : goal.loop-ask-preserved
loop-ask-preserved c =
    let asks = c.args.asks.now in
    let i = c.loop-ask.ask-index in
    let x = c.ask-item.result in
    let done = take i asks in
    let e : take (i + 1) asks ≡ done ++ x ∷ [] = take_more asks i x c.loop-ask-test.true ∙ ap (λ (y : ℕ × ℕ). done ++ y ∷ []) (sym c.ask-item.is) in
    record {
      processes = c.push_reserved.ensures.processes ∙ c.loop-ask.invariant.processes;
      lists =
          c.push_reserved.ensures.lists
          ∙ (ap (λ (f : SeenLists). put f c.args.p x.0 (Ask c.args.inst c.args.kind x.1)) c.loop-ask.invariant.lists
          ∙ (with_more (channel c.args.channels.now) c.args.p c.args.inst c.args.kind done x ∙ ap (λ (l : List (ℕ × ℕ)). with_asks (channel c.args.channels.now) c.args.p c.args.inst c.args.kind l) (sym e)));
      room = λ q. subst (λ (l : List (ℕ × ℕ)). spare_of c.args.channels.now c.args.p q ≤ spare_of c.push_reserved.new.self c.args.p q + (if is_asked_in l q then 1 else 0)) (sym e)
          (place_taken (spare_of c.loop-ask.channels) (spare_of c.args.channels.now) (spare_of c.push_reserved.new.self) c.args.p asks i x c.requires.rising c.loop-ask-test.true c.ask-item.is c.push_reserved.ensures.spare c.loop-ask.invariant.room q);
    }

pub returns-clause-room : goal.returns-clause-room
returns-clause-room c = λ q. most_one (spare_of c.args.channels.now c.args.p q) (spare_of c.loop-ask.channels c.args.p q) (is_asked_in (take c.loop-ask.ask-index c.args.asks.now) q) (c.loop-ask.invariant.room q)
