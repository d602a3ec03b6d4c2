use Rattle.std.proofs.Common.{◌≡◌, ◌∙◌, ◌∷◌, ◌++◌, [], ℕ, List, sym, ap, subst, append_assoc}
use Rattle.kt_manager.specs.declared.received.Item.{Item}
use Rattle.kt_manager.specs.Inboxes.{kept_of, held_of}
use Rattle.kt_node.specs.Managers.{ManagerState}
use Rattle.kt_node_text.specs.Form.{of_name, of_process, of_lists, of_manager, counted}
use Rattle.kt_node_text.specs.Ranges.{AreLists}
use Rattle.kt_node_text.proofs.OneAfterAnother.{stops, is_made}
use Rattle.kt_node_text.proofs.MadeAgain.{IsReadManager, sound_again, own_again, manager_again}
use Rattle.kt_node_text.proofs.reading.manager.Goals as goal

-- the numbers of a manager from its name on, from its process on, and from what it holds on
abbrev from_asks : ManagerState → List ℕ
from_asks w = counted of_name w.asks ++ w.answered ∷ []

abbrev lists_of : ManagerState → List ℕ
lists_of w = of_lists w.size (held_of w.inbox) ++ (of_lists w.size (kept_of w.inbox) ++ from_asks w)

abbrev from_name : ManagerState → List ℕ → List ℕ
from_name w after = (of_name w.inst ++ (of_process w.process ++ lists_of w)) ++ after

abbrev from_process : ManagerState → List ℕ → List ℕ
from_process w after = of_process w.process ++ (lists_of w ++ after)

abbrev behind_kept : ManagerState → List ℕ → List ℕ
behind_kept w after = counted of_name w.asks ++ (w.answered ∷ after)

abbrev from_held : ManagerState → List ℕ → List ℕ
from_held w after = of_lists w.size (held_of w.inbox) ++ (of_lists w.size (kept_of w.inbox) ++ behind_kept w after)

at_process : (w : ManagerState) (after : List ℕ) → from_name w after ≡ of_name w.inst ++ from_process w after
at_process w after =
    append_assoc (of_name w.inst) (of_process w.process ++ lists_of w) after ∙ ap (λ (l : List ℕ). of_name w.inst ++ l) (append_assoc (of_process w.process) (lists_of w) after)

at_held : (w : ManagerState) (after : List ℕ) → lists_of w ++ after ≡ from_held w after
at_held w after =
    let held = of_lists w.size (held_of w.inbox) in
    let kept = of_lists w.size (kept_of w.inbox) in
    append_assoc held (kept ++ from_asks w) after
    ∙ ap (λ (l : List ℕ). held ++ l) (append_assoc kept (from_asks w) after ∙ ap (λ (l : List ℕ). kept ++ l) (append_assoc (counted of_name w.asks) (w.answered ∷ []) after))

-- the same messages of as many processes
moved : (w : ManagerState) (n : ℕ) (left after : List ℕ) → w.size ≡ n → left ≡ from_held w after → left ≡ of_lists n (held_of w.inbox) ++ (of_lists n (kept_of w.inbox) ++ behind_kept w after)
moved w n left after e h = h ∙ (λ i. of_lists (e i) (held_of w.inbox) ++ (of_lists (e i) (kept_of w.inbox) ++ behind_kept w after))

ranged : (lists : ℕ → List Item) (m n : ℕ) → m ≡ n → AreLists m lists → AreLists n lists
ranged lists m n e h = subst (λ (k : ℕ). AreLists k lists) e h

pub returns-in_err-inst-clause-read : goal.returns-in_err-inst-clause-read
returns-in_err-inst-clause-read c = λ w after sound own fits range e.
    let place = c.in_ok-size.ensures.read w.size w.me (w.begun ∷ from_name w after) sound.few sound.me e in
    let begun = c.in_ok-begun.ensures.read w.begun (from_name w after) place.1 in
    stops _ _ _ _ _ c.from_residual-in_err-inst.ensures.1 (c.in_err-inst.ensures.read w.inst (from_process w after) range.inst (begun.1 ∙ at_process w after))

pub returns-in_err-process-clause-read : goal.returns-in_err-process-clause-read
returns-in_err-process-clause-read c = λ w after sound own fits range e.
    let place = c.in_ok-size.ensures.read w.size w.me (w.begun ∷ from_name w after) sound.few sound.me e in
    let begun = c.in_ok-begun.ensures.read w.begun (from_name w after) place.1 in
    let inst = c.in_ok-inst.ensures.read w.inst (from_process w after) range.inst (begun.1 ∙ at_process w after) in
    let size : w.size ≡ c.in_ok-size.size = sym (ap (λ (x : ℕ × ℕ). x.0) place.0) in
    stops _ _ _ _ _ c.from_residual-in_err-process.ensures.1
    (c.in_err-process.ensures.read w.process (lists_of w ++ after) fits range.process (sound.tables ∙ size) inst.1)

pub returns-in_err-inbox-clause-read : goal.returns-in_err-inbox-clause-read
returns-in_err-inbox-clause-read c = λ w after sound own fits range e.
    let place = c.in_ok-size.ensures.read w.size w.me (w.begun ∷ from_name w after) sound.few sound.me e in
    let begun = c.in_ok-begun.ensures.read w.begun (from_name w after) place.1 in
    let inst = c.in_ok-inst.ensures.read w.inst (from_process w after) range.inst (begun.1 ∙ at_process w after) in
    let size : w.size ≡ c.in_ok-size.size = sym (ap (λ (x : ℕ × ℕ). x.0) place.0) in
    let process = c.in_ok-process.ensures.read w.process (lists_of w ++ after) fits range.process (sound.tables ∙ size) inst.1 in
    stops _ _ _ _ _ c.from_residual-in_err-inbox.ensures.1
    (c.in_err-inbox.ensures.read (held_of w.inbox) (kept_of w.inbox) (behind_kept w after) (ranged (held_of w.inbox) _ _ size range.held) (ranged (kept_of w.inbox) _ _ size range.kept) (moved w _ _ after size (process.1 ∙ at_held w after)))

pub returns-in_err-asks-clause-read : goal.returns-in_err-asks-clause-read
returns-in_err-asks-clause-read c = λ w after sound own fits range e.
    let place = c.in_ok-size.ensures.read w.size w.me (w.begun ∷ from_name w after) sound.few sound.me e in
    let begun = c.in_ok-begun.ensures.read w.begun (from_name w after) place.1 in
    let inst = c.in_ok-inst.ensures.read w.inst (from_process w after) range.inst (begun.1 ∙ at_process w after) in
    let size : w.size ≡ c.in_ok-size.size = sym (ap (λ (x : ℕ × ℕ). x.0) place.0) in
    let process = c.in_ok-process.ensures.read w.process (lists_of w ++ after) fits range.process (sound.tables ∙ size) inst.1 in
    let inbox = c.in_ok-inbox.ensures.read (held_of w.inbox) (kept_of w.inbox) (behind_kept w after) (ranged (held_of w.inbox) _ _ size range.held) (ranged (kept_of w.inbox) _ _ size range.kept) (moved w _ _ after size (process.1 ∙ at_held w after)) in
    stops _ _ _ _ _ c.from_residual-in_err-asks.ensures.1 (c.in_err-asks.ensures.read w.asks (w.answered ∷ after) range.many range.asks inbox.1)

pub returns-in_err-next-clause-read : goal.returns-in_err-next-clause-read
returns-in_err-next-clause-read c = λ w after sound own fits range e.
    let place = c.in_ok-size.ensures.read w.size w.me (w.begun ∷ from_name w after) sound.few sound.me e in
    let begun = c.in_ok-begun.ensures.read w.begun (from_name w after) place.1 in
    let inst = c.in_ok-inst.ensures.read w.inst (from_process w after) range.inst (begun.1 ∙ at_process w after) in
    let size : w.size ≡ c.in_ok-size.size = sym (ap (λ (x : ℕ × ℕ). x.0) place.0) in
    let process = c.in_ok-process.ensures.read w.process (lists_of w ++ after) fits range.process (sound.tables ∙ size) inst.1 in
    let inbox = c.in_ok-inbox.ensures.read (held_of w.inbox) (kept_of w.inbox) (behind_kept w after) (ranged (held_of w.inbox) _ _ size range.held) (ranged (kept_of w.inbox) _ _ size range.kept) (moved w _ _ after size (process.1 ∙ at_held w after)) in
    let asks = c.in_ok-asks.ensures.read w.asks (w.answered ∷ after) range.many range.asks inbox.1 in
    stops _ _ _ _ _ c.from_residual-in_err-next.ensures.1 (c.in_err-next.ensures.read w.answered after asks.1)

pub returns-clause-read : goal.returns-clause-read
returns-clause-read c = λ w after sound own fits range e.
    let place = c.in_ok-size.ensures.read w.size w.me (w.begun ∷ from_name w after) sound.few sound.me e in
    let begun = c.in_ok-begun.ensures.read w.begun (from_name w after) place.1 in
    let inst = c.in_ok-inst.ensures.read w.inst (from_process w after) range.inst (begun.1 ∙ at_process w after) in
    let size : w.size ≡ c.in_ok-size.size = sym (ap (λ (x : ℕ × ℕ). x.0) place.0) in
    let process = c.in_ok-process.ensures.read w.process (lists_of w ++ after) fits range.process (sound.tables ∙ size) inst.1 in
    let inbox = c.in_ok-inbox.ensures.read (held_of w.inbox) (kept_of w.inbox) (behind_kept w after) (ranged (held_of w.inbox) _ _ size range.held) (ranged (kept_of w.inbox) _ _ size range.kept) (moved w _ _ after size (process.1 ∙ at_held w after)) in
    let asks = c.in_ok-asks.ensures.read w.asks (w.answered ∷ after) range.many range.asks inbox.1 in
    let next = c.in_ok-next.ensures.read w.answered after asks.1 in
    let is : IsReadManager w c.in_ok-size.size c.in_ok-size.me c.in_ok-process.process c.in_ok-inst.inst c.in_ok-begun.begun c.in_ok-inbox.inbox c.in_ok-asks.asks c.set_of-answered.result = record {
      is_size = sym size;
      is_me = ap (λ (x : ℕ × ℕ). x.1) place.0;
      tables = c.in_ok-process.ensures.size;
      form = process.0;
      name = inst.0;
      count = begun.0;
      senders = c.in_ok-inbox.ensures.processes;
      lists = λ q b. inbox.0 q b;
      named = asks.0;
      replied = c.set_of-answered.ensures ∙ next.0;
    } in
    is_made (λ (v : ManagerState). of_manager v ≡ of_manager w) _ _ after _ _ _ c.ok_or.ensures.value c.of.ensures.some c.of.ensures.none
    (sound_again w _ _ _ _ _ _ _ _ sound is, own_again w _ _ _ _ _ _ _ _ sound own is) (manager_again w _ _ _ _ _ _ _ _ is) next.1
