-- The lists of a manager, once one of them has changed.
use Rattle.std.proofs.Common.{◌≡◌, ◌∙◌, ℕ, Bool, true, false, Option, List, [], ◌∷◌, ◌++◌, take, drop, refl, sym, ap, ap₂, subst, inl, inr}
use Rattle.std.specs.Prelude.{if◌then◌else◌, nat_le, Some, None, map, filter}
use Rattle.std.proofs.Math.Path.{fun_ext}
use Rattle.std.proofs.lemmas.Bool.{cases_eq}
use Rattle.std.proofs.lemmas.List.{map-append, drop-map}
use Rattle.kt_meaning.specs.Past.{at_one}
use Rattle.kt_protocol.proofs.Updates.{is_same, is_other}
use Rattle.kt_process.specs.ProcessStates.{ProcessState}
use Rattle.kt_process.specs.Shown.{IsSeenAs}
use Rattle.kt_spacetime.specs.declared.names.InstName.{InstName}
use Rattle.kt_manager.specs.declared.parcels.NodeParcel.{NodeParcel}
use Rattle.kt_manager.specs.declared.received.Item.{Item}
use Rattle.kt_manager.specs.Messages.{is_within as is_item_within, within as items_within}
use Rattle.kt_manager.specs.Inboxes.{InboxLists, kept_of, held_of, nothing, puts_back, forgets as items_forgotten}
use Rattle.kt_manager.specs.Nodes.{NodeLists, NodeState, with_one}
use Rattle.kt_manager.specs.NodeClosing.{forgets, is_within, within, after_checkpoint, after_rollback}
use Rattle.kt_manager.specs.Managers.{ManagerState, size_of, as_parcel, as_parcels, HoldsFor, ShowsManager, IsSameManager, IsTurned, process_of, after_closing}

-- the messages of each sender
abbrev pub Lists : Type 0
Lists = ℕ → List Item

-- one more of q
pub pushed : (f g : Lists) (q : ℕ) (x : Item) → g ≡ at_one q (f q ++ x ∷ []) f → as_parcels g ≡ with_one q (as_parcel x) (as_parcels f)
pushed f g q x e = ap as_parcels e ∙ fun_ext (λ u. elim (cases_eq u q) [
  | inl a ↦ subst (λ (u : ℕ). as_parcels (at_one q (f q ++ x ∷ []) f) u ≡ with_one q (as_parcel x) (as_parcels f) u) (sym a) (rw (is_same q) (map-append as_parcel (f q) (x ∷ [])))
  | inr n ↦ rw (is_other u q n) refl
])

-- the first one less
pub popped : (f g : Lists) (q : ℕ) → g ≡ at_one q (drop 1 (f q)) f → as_parcels g ≡ at_one q (drop 1 (as_parcels f q)) (as_parcels f)
popped f g q e = ap as_parcels e ∙ fun_ext (λ u. elim (cases_eq u q) [
  | inl a ↦ subst (λ (u : ℕ). as_parcels (at_one q (drop 1 (f q)) f) u ≡ at_one q (drop 1 (as_parcels f q)) (as_parcels f) u) (sym a) (rw (is_same q) (sym (drop-map as_parcel 1 (f q))))
  | inr n ↦ rw (is_other u q n) refl
])

-- the first one of those that are held
pub moved : (f g h : Lists) (q : ℕ) (x : NodeParcel) (rest : List NodeParcel) → g ≡ at_one q (f q ++ take 1 (h q)) f → as_parcels h q ≡ x ∷ rest → as_parcels g ≡ with_one q x (as_parcels f)
moved f g h q x rest e first = ap as_parcels e ∙ fun_ext (λ u. elim (cases_eq u q) [
  | inl a ↦ subst (λ (u : ℕ). as_parcels (at_one q (f q ++ take 1 (h q)) f) u ≡ with_one q x (as_parcels f) u) (sym a)
      (rw (is_same q) (map-append as_parcel (f q) (take 1 (h q)) ∙ ap (λ (l : List NodeParcel). map as_parcel (f q) ++ l) (one (h q) first)))
  | inr n ↦ rw (is_other u q n) refl
])
  where
    one : (l : List Item) → map as_parcel l ≡ x ∷ rest → map as_parcel (take 1 l) ≡ x ∷ []
    one [] e = absurd (cc (e))
    one (z ∷ l) e = let i : as_parcel z ≡ x = cc (e) in ap (λ (v : NodeParcel). v ∷ []) i

-- the first ones of each sender less
trimmed : (f g : Lists) (marks : ℕ → ℕ) → g ≡ items_forgotten marks f → as_parcels g ≡ forgets true marks (as_parcels f)
trimmed f g marks e = ap as_parcels e ∙ fun_ext (λ u. sym (drop-map as_parcel (marks u) (f u)))

-- what is not above a label, by names
kept_within : (most : ℕ) (xs : List Item) → map as_parcel (filter (is_item_within most) xs) ≡ filter (is_within most) (map as_parcel xs)
kept_within most [] = refl
kept_within most (x ∷ xs) = at_test (nat_le x.label most) (kept_within most xs)
  where
    at_test : (b : Bool) → map as_parcel (filter (is_item_within most) xs) ≡ filter (is_within most) (map as_parcel xs) → map as_parcel (if b then x ∷ filter (is_item_within most) xs else filter (is_item_within most) xs) ≡ (if b then as_parcel x ∷ filter (is_within most) (map as_parcel xs) else filter (is_within most) (map as_parcel xs))
    at_test true e = ap (λ (l : List NodeParcel). as_parcel x ∷ l) e
    at_test false e = e

within_is : (o : Option ℕ) (xs : List Item) → map as_parcel (items_within o xs) ≡ within o (map as_parcel xs)
within_is None xs = refl
within_is (Some most) xs = kept_within most xs

-- what is not above the noted labels, kept before held
restored : (f h g : Lists) (noted : ℕ → Option ℕ) → g ≡ puts_back noted f h → as_parcels g ≡ (λ u. within (noted u) (as_parcels f u) ++ within (noted u) (as_parcels h u))
restored f h g noted e = ap as_parcels e ∙ fun_ext (λ u.
    map-append as_parcel (items_within (noted u) (f u)) (items_within (noted u) (h u))
    ∙ ap₂ (λ (x y : List NodeParcel). x ++ y) (within_is (noted u) (f u)) (within_is (noted u) (h u)))

-- another process and instance
pub holds_as : (w : ManagerState) (x : ProcessState) (o : Option InstName) (y : NodeState) → x.tables.processes ≡ size_of w → HoldsFor w y → HoldsFor (record w { process = x; inst = o }) y
holds_as w x o y e h = record { processes = e ∙ h.processes; me = h.me; held = h.held; kept = h.kept }

pub shows_in : (w : ManagerState) (o : Option InstName) (y : NodeState) → HoldsFor w y → IsSeenAs w.process (process_of y) → o ≡ y.inst → ShowsManager (record w { inst = o }) y
shows_in w o y h s e = record { holds = record { processes = h.processes; me = h.me; held = h.held; kept = h.kept }; process = s; inst = e }

pub holds_turned : (v w : ManagerState) (y : NodeState) → IsTurned v w → HoldsFor w y → HoldsFor v y
holds_turned v w y s h = record {
  processes = s.size ∙ h.processes;
  me = s.me ∙ h.me;
  held = ap (λ (b : InboxLists). as_parcels (held_of b)) s.inbox ∙ h.held;
  kept = ap (λ (b : InboxLists). as_parcels (kept_of b)) s.inbox ∙ h.kept;
}

-- but for spare room it is as it was
pub shows_same : (v w : ManagerState) (y : NodeState) → IsSameManager v w → ShowsManager w y → ShowsManager v y
shows_same v w y s h = record {
  holds = record {
    processes = ap (λ (x : ProcessState). x.tables.processes) s.process ∙ h.holds.processes;
    me = s.me ∙ h.holds.me;
    held = ap as_parcels s.held ∙ h.holds.held;
    kept = ap as_parcels s.kept ∙ h.holds.kept;
  };
  process = subst (λ (x : ProcessState). IsSeenAs x (process_of y)) (sym s.process) h.process;
  inst = s.inst ∙ h.inst;
}

-- its instance is closed: a rollback, a checkpoint
holds_restored : (w : ManagerState) (b : InboxLists) (y : NodeState) → HoldsFor w y → held_of b ≡ puts_back y.part.noted (kept_of w.inbox) (held_of w.inbox) → kept_of b ≡ nothing → HoldsFor (record w { inbox = b }) (after_rollback true y)
holds_restored w b y h e f = record {
  processes = h.processes;
  me = h.me;
  held = restored (kept_of w.inbox) (held_of w.inbox) (held_of b) y.part.noted e ∙ ap₂ (λ (k l : NodeLists). (λ u. within (y.part.noted u) (k u) ++ within (y.part.noted u) (l u))) h.kept h.held;
  kept = ap as_parcels f;
}

holds_trimmed : (w : ManagerState) (b : InboxLists) (y : NodeState) → HoldsFor w y → kept_of b ≡ items_forgotten y.part.marks (kept_of w.inbox) → held_of b ≡ held_of w.inbox → HoldsFor (record w { inbox = b }) (after_checkpoint true y)
holds_trimmed w b y h e f = record {
  processes = h.processes;
  me = h.me;
  held = ap as_parcels f ∙ h.held;
  kept = trimmed (kept_of w.inbox) (kept_of b) y.part.marks e ∙ ap (λ (k : NodeLists). forgets true y.part.marks k) h.kept;
}

pub holds_aborted : (w : ManagerState) (y : NodeState) → HoldsFor w y → HoldsFor w (after_closing false y)
holds_aborted w y h = at_test y.part.is_rollback
  where
    at_test : (b : Bool) → HoldsFor w (if b then after_rollback false y else after_checkpoint false y)
    at_test true = record { processes = h.processes; me = h.me; held = h.held; kept = h.kept }
    at_test false = record { processes = h.processes; me = h.me; held = h.held; kept = h.kept }

pub closing_rollback : (w : ManagerState) (b : InboxLists) (y : NodeState) (c : Bool) → c ≡ true → y.part.is_rollback ≡ true → HoldsFor w y → held_of b ≡ puts_back y.part.noted (kept_of w.inbox) (held_of w.inbox) → kept_of b ≡ nothing → HoldsFor (record w { inbox = b }) (after_closing c y)
closing_rollback w b y c i e h f g = rw (i, e) (holds_restored w b y h f g)

pub closing_checkpoint : (w : ManagerState) (b : InboxLists) (y : NodeState) (c : Bool) → c ≡ true → y.part.is_rollback ≡ false → HoldsFor w y → kept_of b ≡ items_forgotten y.part.marks (kept_of w.inbox) → held_of b ≡ held_of w.inbox → HoldsFor (record w { inbox = b }) (after_closing c y)
closing_checkpoint w b y c i e h f g = rw (i, e) (holds_trimmed w b y h f g)
