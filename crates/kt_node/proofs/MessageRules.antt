-- The rules of messages, failures, refused commands and replies, by names.
use Rattle.std.proofs.Common.{◌≡◌, ◌≢◌, ◌∙◌, ℕ, ℤ, ◌+◌, ◌≤◌, Bool, true, false, Some, List, [], ◌∷◌, ◌++◌, map, option_map, refl, sym, ap, subst}
use Rattle.std.specs.Prelude.{◌==◌, if◌then◌else◌}
use Rattle.kt_base.specs.declared.words.Cause.{Cause}
use Rattle.kt_base.specs.declared.words.Cause.TheVariants as cause
use Rattle.kt_base.specs.declared.words.Verb.{Verb}
use Rattle.kt_fifo.specs.declared.parcels.Parcel.{Parcel}
use Rattle.kt_fifo.specs.declared.parcels.Parcel.TheVariants as in_code
use Rattle.kt_spacetime.specs.declared.event.Event.{Event}
use Rattle.kt_spacetime.specs.declared.event.Event.TheVariants as row
use Rattle.kt_meaning.specs.Messages.{row_at}
use Rattle.kt_tables.specs.Calls.{received}
use Rattle.kt_protocol.specs.Replies.{unable_cause}
use Rattle.kt_machine.specs.Messages.{sends_of, label_by_rows}
use Rattle.kt_machine.specs.Seen.{SeenProcess, SeenLists, Seen}
use Rattle.kt_machine.specs.ListChanges as changes
use Rattle.kt_machine.specs.SeenMessages.{seen_sending, seen_arrival, seen_receiving, seen_dropping, seen_failing, seen_refusal}
use Rattle.kt_machine.proofs.OnePiece.{set_same}
use Rattle.kt_spacetime.specs.declared.names.InstName.{InstName}
use Rattle.kt_spacetime.specs.declared.named_rows.NamedCause.{NamedCause}
use Rattle.kt_spacetime.specs.declared.named_rows.NamedCause.TheVariants as own_cause
use Rattle.kt_spacetime.specs.declared.named_rows.NamedEvent.{NamedEvent}
use Rattle.kt_spacetime.specs.declared.named_rows.NamedEvent.TheVariants as own
use Rattle.kt_spacetime.specs.declared.named_rows.NamedRow.{NamedRow}
use Rattle.kt_meaning.specs.Names.{row_of, numbered_cause}
use Rattle.kt_manager.specs.declared.parcels.NodeParcel.TheVariants as put
use Rattle.kt_manager.specs.Nodes.{NodeLists, NodeState, Doing, nothing, with_one}
use Rattle.kt_manager.specs.NodeMessages.{sending, receiving, arriving, holding, failing, refusing, unable}
use Rattle.kt_manager.specs.NodeJoining.{replying, unwilling}
use Rattle.kt_node.specs.Nets.{Net}
use Rattle.kt_node.specs.Erasing.{erased_parcel, erased_parcels, erased_process}
use Rattle.kt_node.proofs.Told.{Told, given, told_sent, told_received, told_dropped, told_failed, told_unwilling, told_refused, number_is}
use Rattle.kt_node.proofs.Done.{node_of, IsDone, rows_push, done_as}
use Rattle.kt_node.proofs.Columns.{adding_one, adding_other, adding_own, one_for, one_other}

module _ (name : ℕ → InstName) (first : ℕ) (w : Net) (p : ℕ) (count : ℕ → ℕ) where
  -- lists and the log change alone
  pub done_lists : (d e : Doing) (v : Seen) (channel held kept : SeenLists) (log : List Event) → IsDone name first w p count d v
      → e.state ≡ erased_process name v.processes p (count p) (v.states p) (λ q. held q p) (λ q. kept q p) e.state.asks e.state.answered
      → ((q u : ℕ) → u ≢ p → v.held q u ≡ held q u) → ((q u : ℕ) → u ≢ p → v.kept q u ≡ kept q u)
      → ((t : ℕ) → w.channel p t ++ e.puts t ≡ erased_parcels name (channel p t)) → ((u t : ℕ) → u ≢ p → v.channel u t ≡ channel u t)
      → Told name first count (w.rows ++ map (row_of p) e.rows) log v.begun → IsDone name first w p count e (record v { channel = channel; held = held; kept = kept; log = log })
  done_lists d e v channel held kept log h s ho ko ps cs t =
      subst (λ (f : ℕ → SeenProcess). IsDone name first w p count e (record v { states = f; channel = channel; held = held; kept = kept; log = log })) (set_same p v.states)
      (done_as name first w p count d e v (v.states p) channel held kept log h s ho ko ps cs t)

  -- one more row
  pub rows_one : (rows : List NamedEvent) (event : NamedEvent) (log : List Event) (begun : ℕ) → Told name first count ((w.rows ++ map (row_of p) rows) ++ row_of p event ∷ []) log begun
      → Told name first count (w.rows ++ map (row_of p) (rows ++ event ∷ [])) log begun
  rows_one rows event log begun t = subst (λ (l : List NamedRow). Told name first count l log begun) (sym (rows_push name first w p rows event)) t

  -- one more parcel of p
  pub puts_one : (channel : SeenLists) (puts : NodeLists) (q : ℕ) (x : Parcel) → ((t : ℕ) → w.channel p t ++ puts t ≡ erased_parcels name (channel p t))
      → (t : ℕ) → w.channel p t ++ with_one q (erased_parcel name x) puts t ≡ erased_parcels name (changes.with_parcel channel p q x p t)
  puts_one channel puts q x e t = adding_own name channel (w.channel p) puts p (λ u. u == q) (λ u. x) e t ∙ ap (λ (l : SeenLists). erased_parcels name (l p t)) (sym (adding_one channel p q x))

  pub puts_other : (channel : SeenLists) (q : ℕ) (x : Parcel) (u t : ℕ) → u ≢ p → channel u t ≡ changes.with_parcel channel p q x u t
  puts_other channel q x u t n = adding_other channel p (λ v. v == q) (λ v. x) u t n ∙ ap (λ (l : SeenLists). l u t) (sym (adding_one channel p q x))

  module _ (y : NodeState) (v : Seen) (h : IsDone name first w p count (nothing y) v) where
    pub done_sending : (q : ℕ) (body : ℤ) → (v.states p).used ≡ first + sends_of p v.log → IsDone name first w p count (sending y q body) (seen_sending v p q body)
    done_sending q body u = subst (λ (x : NodeState). IsDone name first w p count (sending x q body) (seen_sending v p q body)) (sym h.state)
        (done_as name first w p count (nothing y) (sending (node_of name first count v p y) q body) v _ _ v.held v.kept _ h refl (λ q u n. refl) (λ q u n. refl)
        (puts_one v.channel (λ t. []) q (in_code.App ((v.states p).used + 1) _ body) h.puts) (puts_other v.channel q _)
        (rows_one [] _ _ v.begun (told_sent name first _ v.log v.begun p count q (v.states p).used body u h.told)))

    pub done_refusing : (verb : Verb) (c : NamedCause) (d : Cause) → numbered_cause (given v.log) c ≡ Some d → IsDone name first w p count (refusing y verb c) (seen_refusal v p verb d)
    done_refusing verb c d e = done_lists (nothing y) (refusing y verb c) v v.channel v.held v.kept _ h h.state (λ q u n. refl) (λ q u n. refl) h.puts (λ u t n. refl)
        (rows_one [] _ _ v.begun (told_refused name first _ v.log v.begun p count verb c d h.told e))

    pub done_failing : IsDone name first w p count (failing y) (seen_failing v p)
    done_failing = subst (λ (x : NodeState). IsDone name first w p count (failing x) (seen_failing v p)) (sym h.state)
        (done_as name first w p count (nothing y) (failing (node_of name first count v p y)) v _ v.channel v.held v.kept _ h refl (λ q u n. refl) (λ q u n. refl) h.puts (λ u t n. refl)
        (rows_one [] _ _ v.begun (told_failed name first _ v.log v.begun p count h.told)))

    pub done_receiving : (q m label to : ℕ) (body : ℤ) → row_at v.log m ≡ Some (row.Sent q to body) → label ≡ label_by_rows first v.log q m
        → IsDone name first w p count (receiving y q label body) (seen_receiving v v.channel v.held p q label m body)
    done_receiving q m label to body e f = subst (λ (x : NodeState). IsDone name first w p count (receiving x q label body) (seen_receiving v v.channel v.held p q label m body)) (sym h.state)
        (done_as name first w p count (nothing y) (receiving (node_of name first count v p y) q label body) v _ v.channel v.held _ _ h
        (λ i. record (node_of name first count v p y) { calls = (v.states p).calls ++ received q label ∷ []; kept = λ u. one_for name v.kept q p (in_code.App label m body) u i })
        (λ q u n. refl) (λ t u n. one_other v.kept q p _ t u n) h.puts (λ u t n. refl)
        (rows_one [] _ _ v.begun (told_received name first _ v.log v.begun p count q m label to body e f h.told)))

    pub done_dropping : (q m label to : ℕ) (body : ℤ) → row_at v.log m ≡ Some (row.Sent q to body) → label ≡ label_by_rows first v.log q m
        → IsDone name first w p count (record (nothing y) { rows = own.Dropped q label ∷ [] }) (seen_dropping v v.channel v.held p q m)
    done_dropping q m label to body e f = done_lists (nothing y) (record (nothing y) { rows = own.Dropped q label ∷ [] }) v v.channel v.held v.kept _ h h.state (λ q u n. refl) (λ q u n. refl) h.puts (λ u t n. refl)
        (rows_one [] _ _ v.begun (told_dropped name first _ v.log v.begun p count q m label to body e f h.told))

    pub choose : (b c : Bool) (d e : Doing) (x z : Seen) → b ≡ c → IsDone name first w p count d x → IsDone name first w p count e z → IsDone name first w p count (if b then d else e) (if c then x else z)
    choose true true d e x z r f g = f
    choose false false d e x z r f g = g
    choose true false d e x z r f g = absurd (cc)
    choose false true d e x z r f g = absurd (cc)

    pub done_arriving : (q m label to : ℕ) (body : ℤ) → row_at v.log m ≡ Some (row.Sent q to body) → label ≡ label_by_rows first v.log q m
        → IsDone name first w p count (arriving y q label body) (seen_arrival v v.channel v.held p q label m body)
    done_arriving q m label to body e f = choose y.up (v.states p).up _ _ _ _ (ap (λ (x : NodeState). x.up) h.state) (done_receiving q m label to body e f) (done_dropping q m label to body e f)

    pub done_holding : (q m label : ℕ) (body : ℤ) → IsDone name first w p count (holding y q (put.App label body)) (record v { held = changes.with_parcel v.held q p (in_code.App label m body) })
    done_holding q m label body = subst (λ (x : NodeState). IsDone name first w p count (holding x q (put.App label body)) (record v { held = changes.with_parcel v.held q p (in_code.App label m body) })) (sym h.state)
        (done_lists (nothing y) (holding (node_of name first count v p y) q (put.App label body)) v v.channel _ v.kept v.log h
        (λ i. record (node_of name first count v p y) { held = λ u. one_for name v.held q p (in_code.App label m body) u i })
        (λ t u n. one_other v.held q p _ t u n) (λ q u n. refl) h.puts (λ u t n. refl) h.told)

    -- replies
    pub done_replying : (q k : ℕ) (b : Bool) → IsDone name first w p count (replying y q (name k) b) (record v { channel = changes.with_parcel v.channel p q (in_code.Reply k b) })
    done_replying q k b = done_lists (nothing y) (replying y q (name k) b) v _ v.held v.kept v.log h h.state (λ q u n. refl) (λ q u n. refl)
        (puts_one v.channel (λ t. []) q (in_code.Reply k b) h.puts) (puts_other v.channel q _) h.told

    pub done_unwilling : (q k : ℕ) (c : NamedCause) (d : Cause) → 1 ≤ k → k ≤ v.begun → numbered_cause (given v.log) c ≡ Some d
        → IsDone name first w p count (unwilling y q (name k) c) (record v { channel = changes.with_parcel v.channel p q (in_code.Reply k false); log = v.log ++ row.Unwilling p k d ∷ [] })
    done_unwilling q k c d low high e = done_lists (nothing y) (unwilling y q (name k) c) v _ v.held v.kept _ h h.state (λ q u n. refl) (λ q u n. refl)
        (puts_one v.channel (λ t. []) q (in_code.Reply k false) h.puts) (puts_other v.channel q _)
        (rows_one [] _ _ v.begun (told_unwilling name first _ v.log v.begun p count k c d low high h.told e))

    -- causes
    pub cause_unable : (b : Bool) → numbered_cause (given v.log) (unable b) ≡ Some (unable_cause b)
    cause_unable true = refl
    cause_unable false = refl

    pub cause_busy : (k : ℕ) → 1 ≤ k → k ≤ v.begun → numbered_cause (given v.log) (own_cause.Busy (name k)) ≡ Some (cause.Busy k)
    cause_busy k low high = ap (option_map cause.Busy) (number_is name first _ v.log v.begun p count h.told k low high)
