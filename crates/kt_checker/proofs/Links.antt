-- Links of chains over a legal log: each message leads to one process.
use Rattle.std.proofs.Common.{◌≡◌, ◌≢◌, ℕ, zero, suc, ◌+◌, ◌<◌, ◌≤◌, ◌==◌, leb, not, unwrap_or, is_some, true, false, Option, Some, None, option_map, List, [], ◌∷◌, ◌++◌, take, drop, refl, sym, ap, ◌∙◌, subst, arith, inl, inr}
use Rattle.std.specs.List.{slice_get}
use Rattle.std.specs.Option.{option_flatten}
use Rattle.std.proofs.lemmas.Bool.Decides.{nat_tests}
use Rattle.std.proofs.lemmas.Bool.{cases_eq, cases_lt}
use Rattle.kt_base.specs.declared.words.Kind.{Kind}
use Rattle.kt_base.specs.declared.words.Kind.TheVariants.{Checkpoint, Rollback}
use Rattle.kt_spacetime.specs.declared.event.Event.{Event}
use Rattle.kt_spacetime.specs.declared.deeds.Deed.{Deed}
use Rattle.kt_spacetime.specs.declared.deeds.Deed.TheVariants as deed
use Rattle.kt_rules.specs.declared.traces.Trace.{Trace}
use Rattle.kt_meaning.specs.Past.{Past, past}
use Rattle.kt_meaning.specs.Legal.{IsLegal, has_deed}
use Rattle.kt_meaning.specs.Chains.{LinksCheckpoint, LinksRollback}
use Rattle.kt_rules.specs.Standing.{parties_of_row}
use Rattle.kt_rules.specs.Traces.{place_of, trace_between, trace_of}
use Rattle.kt_walk.specs.Keeping.{kept_trace}
use Rattle.kt_walk.proofs.WalkLinks.{pair_state_kept}
use Rattle.kt_meaning.proofs.Items.{get_take, in_take, some_same}
use Rattle.kt_meaning.proofs.DeedFacts.{place_of_deed}
use Rattle.kt_rules.proofs.DeedFacts.{has_at}
use Rattle.kt_meaning.proofs.Places.{sent_places, received_places, deed_once, rowed}
use Rattle.kt_rules.proofs.Traced.{place_at, trace_parts}
use Rattle.kt_meaning.specs.Passing.{IsChain, IsListOf}
use Rattle.kt_checker.proofs.Chaining.{received_within, rollback_step}

-- what a trace says of a message that leads from a process of an instance to the next one
abbrev pub Leads : Past → ℕ → Kind → ℕ → ℕ → Trace → ℕ → Type 0
Leads s k Checkpoint at next t received = (t.to ≡ at) × (t.from ≡ next) × (position : ℕ) × (s.new k at ≡ Some position) × (received ≤ position)
Leads s k Rollback at next t received = (t.from ≡ at) × (t.to ≡ next)

-- a message that leads from a process to the next one, by its trace
pub record Linked (rows : List Event) (k : ℕ) (kind : Kind) (at m next : ℕ) : Type 0 where
  pub trace : Trace
  pub traced : trace_of rows m ≡ Some trace
  pub sent : ℕ
  pub is_sent : trace.sent ≡ Some sent
  pub late : (past rows).permanent trace.from < sent
  pub received : ℕ
  pub is_received : trace.received ≡ Some received
  pub leads : Leads (past rows) k kind at next trace received

get_after_drop : {X : Type 0} (n : ℕ) (l : List X) (i : ℕ) (x : X) → slice_get (drop n l) i ≡ Some x → slice_get l (n + i) ≡ Some x
get_after_drop zero l i x e =
    let same : 0 + i ≡ i = omega arith in
    ap (slice_get l) same ∙ e
get_after_drop (suc n) [] i x e = absurd (cc)
get_after_drop (suc n) (y ∷ l) i x e =
    let same : suc n + i ≡ suc (n + i) = omega arith in
    ap (slice_get (y ∷ l)) same ∙ get_after_drop n l i x e

placed : (rows : List Event) → IsLegal rows → (p i : ℕ) (d : Deed) → slice_get ((past rows).live p) i ≡ Some d → place_of d ((past rows).live p) ≡ Some (i + 1)
placed rows l p i d e = place_at d ((past rows).live p) i e (λ j f. deed_once (past rows) (sent_places rows) (received_places rows l) p j i d f e)

-- the trace of a message that is sent and received
traced_at : (rows : List Event) → IsLegal rows → (p q m i j : ℕ) → slice_get ((past rows).live p) i ≡ Some (deed.Sent m q) → slice_get ((past rows).live q) j ≡ Some (deed.Received m p)
    → trace_of rows m ≡ Some (record { from = p; to = q; sent = Some (i + 1); received = Some (j + 1) })
traced_at rows l p q m i j e f =
    let row = (rowed rows l).sent p i m q e in
    let a = placed rows l p i (deed.Sent m q) e in
    let b = placed rows l q j (deed.Received m p) f in
    ap (λ (o : Option Event). trace_between (past rows) m (option_flatten (option_map parties_of_row o))) row.1 ∙ (λ x. Some (record { from = p; to = q; sent = a x; received = b x }))

checkpoint_linked : (rows : List Event) (k at m next : ℕ) → IsLegal rows → LinksCheckpoint (past rows) k next at m → Linked rows k Checkpoint at m next
checkpoint_linked rows k at m next l h =
    let s = past rows in
    let a = place_of_deed (deed.Sent m at) (drop (s.permanent next) (s.live next)) h.sent in
    let sent = get_after_drop (s.permanent next) (s.live next) a.0 (deed.Sent m at) a.1 in
    let new = is_new (s.new k at) h.member in
    let b = place_of_deed (deed.Received m next) (take (unwrap_or (s.new k at) 0) (s.live at)) h.received in
    let received = get_take (unwrap_or (s.new k at) 0) (s.live at) b.0 (deed.Received m next) b.1 in
    let within = in_take (unwrap_or (s.new k at) 0) (s.live at) b.0 (deed.Received m next) b.1 in
    record {
      trace = record { from = next; to = at; sent = Some (s.permanent next + a.0 + 1); received = Some (b.0 + 1) };
      traced = traced_at rows l next at m (s.permanent next + a.0) b.0 sent received;
      sent = s.permanent next + a.0 + 1;
      is_sent = refl;
      late = omega arith;
      received = b.0 + 1;
      is_received = refl;
      leads = (refl, refl, new.0, new.1, omega (arith, within, ap (λ (o : Option ℕ). unwrap_or o 0) new.1));
    }
  where
    is_new : (o : Option ℕ) → is_some o ≡ true → (n : ℕ) × (o ≡ Some n)
    is_new None e = absurd (cc)
    is_new (Some n) e = (n, refl)

rollback_linked : (rows : List Event) (k at m next : ℕ) → IsLegal rows → LinksRollback (past rows) next at m → Linked rows k Rollback at m next
rollback_linked rows k at m next l h =
    let s = past rows in
    let a = place_of_deed (deed.Sent m next) (drop (s.permanent at) (s.live at)) h.sent in
    let sent = get_after_drop (s.permanent at) (s.live at) a.0 (deed.Sent m next) a.1 in
    let b = place_of_deed (deed.Received m at) (s.live next) h.received in
    record {
      trace = record { from = at; to = next; sent = Some (s.permanent at + a.0 + 1); received = Some (b.0 + 1) };
      traced = traced_at rows l at next m (s.permanent at + a.0) b.0 sent b.1;
      sent = s.permanent at + a.0 + 1;
      is_sent = refl;
      late = omega arith;
      received = b.0 + 1;
      is_received = refl;
      leads = (refl, refl);
    }

-- a link of a chain, by its trace
pub step_of : (rows : List Event) (k : ℕ) (kind : Kind) (at m next : ℕ) → IsLegal rows → IsChain (past rows) k kind at (m ∷ []) next → Linked rows k kind at m next
step_of rows k Checkpoint at m next l h = subst (Linked rows k Checkpoint at m) h.2 (checkpoint_linked rows k at m h.0 l h.1)
step_of rows k Rollback at m next l h = subst (Linked rows k Rollback at m) h.2 (rollback_linked rows k at m h.0 l h.1)

-- a message that leads on is kept
pub kept_link : (rows : List Event) (k : ℕ) (kind : Kind) (at m next : ℕ) → IsLegal rows → (h : Linked rows k kind at m next) → kept_trace rows m ≡ Some h.trace
kept_link rows k kind at m next l h = pair_state_kept rows l m h.trace h.sent h.received h.traced h.is_sent h.is_received h.late

-- with the places of its send and its receive
pub kept_places : (rows : List Event) (at m next : ℕ) → IsLegal rows → (h : Linked rows 0 Rollback at m next) → kept_trace rows m ≡ Some (record { from = at; to = next; sent = Some h.sent; received = Some h.received })
kept_places rows at m next l h = kept_link rows 0 Rollback at m next l h ∙ (λ i. Some (record { from = h.leads.0 i; to = h.leads.1 i; sent = h.is_sent i; received = h.is_received i }))

-- what is kept of a message that one process sent past its permanent position and another one received
pub received_place : (rows : List Event) (p q m sent received permanent : ℕ) (t : Trace) → trace_of rows m ≡ Some t → t.from ≡ q → t.to ≡ p → t.sent ≡ Some sent → t.received ≡ Some received
    → permanent ≡ (past rows).permanent q → permanent < sent → LinksRollback (past rows) p q m × (place_of (deed.Received m q) ((past rows).live p) ≡ Some received)
received_place rows p q m sent received permanent t e from to a b low late =
    let step = rollback_step rows q m sent received permanent t e a b (low ∙ ap (past rows).permanent (sym from)) late from in (
      subst (λ (x : ℕ). LinksRollback (past rows) x q m) (step.2 ∙ to) step.1,
      (λ i. place_of (deed.Received m (sym from i)) ((past rows).live (sym to i))) ∙ (sym (trace_parts rows m t e).1 ∙ b),
    )

-- it leads on in a checkpoint where it was received within the new position
pub within_new : (s : Past) (k at m next place position : ℕ) → LinksRollback s at next m → place_of (deed.Received m next) (s.live at) ≡ Some place → s.new k at ≡ Some position → place ≤ position → IsChain s k Checkpoint at (m ∷ []) next
within_new s k at m next place position link is new low = (
  next,
  record {
    sent = link.sent;
    member = ap (λ (o : Option ℕ). is_some o) new;
    received = ap (λ (o : Option ℕ). has_deed (deed.Received m next) (take (unwrap_or o 0) (s.live at))) new ∙ received_within (deed.Received m next) (s.live at) position place is low;
  },
  refl,
)

-- what leads on in a checkpoint was received
pub received_link : (s : Past) (k at m next : ℕ) → IsChain s k Checkpoint at (m ∷ []) next → LinksRollback s at next m
received_link s k at m next h =
    let new = unwrap_or (s.new k at) 0 in
    let there = place_of_deed (deed.Received m h.0) (take new (s.live at)) h.1.received in
    let got = has_at (deed.Received m h.0) (s.live at) there.0 (get_take new (s.live at) there.0 (deed.Received m h.0) there.1) in
    subst (λ (x : ℕ). LinksRollback s at x m) h.2 (record { sent = h.1.sent; received = got })

-- within the new position
pub new_beyond : (rows : List Event) (k at m next place : ℕ) → IsLegal rows → IsChain (past rows) k Checkpoint at (m ∷ []) next → place_of (deed.Received m next) ((past rows).live at) ≡ Some place
    → (position : ℕ) × ((past rows).new k at ≡ Some position) × (place ≤ position)
new_beyond rows k at m next place l h is =
    let step = step_of rows k Checkpoint at m next l h in
    let leads = step.leads in
    let there : place_of (deed.Received m step.trace.from) ((past rows).live step.trace.to) ≡ place_of (deed.Received m next) ((past rows).live at) = λ i. place_of (deed.Received m (leads.1 i)) ((past rows).live (leads.0 i)) in
    let same : step.received ≡ place = some_same (sym step.is_received ∙ ((trace_parts rows m step.trace step.traced).1 ∙ (there ∙ is))) in
    (leads.2, leads.3, omega (arith, same, leads.4))

-- what leads on leads to one of the processes
pub leads_low : (s : Past) (k : ℕ) (kind : Kind) (at m next : ℕ) → ((p : ℕ) → 64 ≤ p → s.live p ≡ []) → IsChain s k kind at (m ∷ []) next → next < 64
leads_low s k kind at m next none h = elim (cases_lt next 64) [
  | inl low ↦ low
  | inr high ↦ absurd (alive kind h (none next high))
]
  where
    nothing : (l : List Deed) (i : ℕ) (d : Deed) → l ≡ [] → slice_get l i ≡ Some d → ⊥
    nothing l i d empty e = absurd (cc (sym (ap (λ (x : List Deed). slice_get x i) empty) ∙ e))

    alive : (kind : Kind) → IsChain s k kind at (m ∷ []) next → s.live next ≡ [] → ⊥
    alive Checkpoint h empty =
        let gone = (λ i. s.live (h.2 i)) ∙ empty in
        let there = place_of_deed (deed.Sent m at) (drop (s.permanent h.0) (s.live h.0)) h.1.sent in
        nothing (s.live h.0) (s.permanent h.0 + there.0) (deed.Sent m at) gone (get_after_drop (s.permanent h.0) (s.live h.0) there.0 (deed.Sent m at) there.1)
    alive Rollback h empty =
        let gone = (λ i. s.live (h.2 i)) ∙ empty in
        let there = place_of_deed (deed.Received m at) (s.live h.0) h.1.received in
        nothing (s.live h.0) there.0 (deed.Received m at) gone there.1

-- a chain ends with its last message
pub ending : (s : Past) (k : ℕ) (kind : Kind) (q : ℕ) (xs : List ℕ) (m p : ℕ) → IsChain s k kind q (xs ++ m ∷ []) p → (a : ℕ) × IsChain s k kind q xs a × IsChain s k kind a (m ∷ []) p
ending s k Checkpoint q [] m p h = (q, refl, h)
ending s k Checkpoint q (x ∷ xs) m p h =
    let rest = ending s k Checkpoint h.0 xs m p h.2 in
    (rest.0, (h.0, h.1, rest.1), rest.2)
ending s k Rollback q [] m p h = (q, refl, h)
ending s k Rollback q (x ∷ xs) m p h =
    let rest = ending s k Rollback h.0 xs m p h.2 in
    (rest.0, (h.0, h.1, rest.1), rest.2)

-- a message leads from a process to one process
one_step : (rows : List Event) (k : ℕ) (kind : Kind) (at m x y : ℕ) → IsLegal rows → IsChain (past rows) k kind at (m ∷ []) x → IsChain (past rows) k kind at (m ∷ []) y → x ≡ y
one_step rows k kind at m x y l g h = same kind (step_of rows k kind at m x l g) (step_of rows k kind at m y l h)
  where
    same : (kind : Kind) → Linked rows k kind at m x → Linked rows k kind at m y → x ≡ y
    same Checkpoint a b = sym a.leads.1 ∙ (ap (λ (t : Trace). t.from) (some_same (sym a.traced ∙ b.traced)) ∙ b.leads.1)
    same Rollback a b = sym a.leads.1 ∙ (ap (λ (t : Trace). t.to) (some_same (sym a.traced ∙ b.traced)) ∙ b.leads.1)

-- a chain with a message in its midst
pub midst : (s : Past) (k : ℕ) (kind : Kind) (q : ℕ) (xs : List ℕ) (m : ℕ) (ys : List ℕ) (p : ℕ) → IsChain s k kind q (xs ++ m ∷ ys) p → (a : ℕ) × (b : ℕ) × IsChain s k kind q xs a × IsChain s k kind a (m ∷ []) b
midst s k Checkpoint q [] m ys p h = (q, h.0, refl, (h.0, h.1, refl))
midst s k Checkpoint q (x ∷ xs) m ys p h =
    let rest = midst s k Checkpoint h.0 xs m ys p h.2 in
    (rest.0, rest.1, (h.0, h.1, rest.2), rest.3)
midst s k Rollback q [] m ys p h = (q, h.0, refl, (h.0, h.1, refl))
midst s k Rollback q (x ∷ xs) m ys p h =
    let rest = midst s k Rollback h.0 xs m ys p h.2 in
    (rest.0, rest.1, (h.0, h.1, rest.2), rest.3)

-- the messages of a chain lead to one process
pub one_end : (rows : List Event) (k : ℕ) (kind : Kind) (q : ℕ) (xs : List ℕ) (a b : ℕ) → IsLegal rows → IsChain (past rows) k kind q xs a → IsChain (past rows) k kind q xs b → a ≡ b
one_end rows k Checkpoint q [] a b l g h = sym g ∙ h
one_end rows k Checkpoint q (m ∷ xs) a b l g h =
    let same = one_step rows k Checkpoint q m g.0 h.0 l (g.0, g.1, refl) (h.0, h.1, refl) in
    one_end rows k Checkpoint h.0 xs a b l (subst (λ (x : ℕ). IsChain (past rows) k Checkpoint x xs a) same g.2) h.2
one_end rows k Rollback q [] a b l g h = sym g ∙ h
one_end rows k Rollback q (m ∷ xs) a b l g h =
    let same = one_step rows k Rollback q m g.0 h.0 l (g.0, g.1, refl) (h.0, h.1, refl) in
    one_end rows k Rollback h.0 xs a b l (subst (λ (x : ℕ). IsChain (past rows) k Rollback x xs a) same g.2) h.2

-- where a chain comes to a message that leads nowhere, it is none
pub no_way : (rows : List Event) (k : ℕ) (kind : Kind) (q : ℕ) (xs : List ℕ) (m : ℕ) (ys : List ℕ) (at p : ℕ) → IsLegal rows → IsChain (past rows) k kind q xs at → ((next : ℕ) → IsChain (past rows) k kind at (m ∷ []) next → ⊥)
    → IsChain (past rows) k kind q (xs ++ m ∷ ys) p → ⊥
no_way rows k kind q xs m ys at p l to never whole =
    let split = midst (past rows) k kind q xs m ys p whole in
    let same = one_end rows k kind q xs split.0 at l split.2 to in
    never split.1 (subst (λ (x : ℕ). IsChain (past rows) k kind x (m ∷ []) split.1) same split.3)

-- numbers that are not told apart are the same
pub same_from : (a b : ℕ) → false ≡ not (a == b) → a ≡ b
same_from a b e = elim (cases_eq a b) [
  | inl same ↦ same
  | inr other ↦ absurd (clash (e ∙ ap not (told_apart other)))
]
  where
    clash : false ≡ true → ⊥
    clash x = cc

    told_apart : a ≢ b → (a == b) ≡ false
    told_apart n = grind (arith, nat_tests, n)

-- a list is a chain for another than the initiator where it leads there
pub list_of_other : (s : Past) (k : ℕ) (kind : Kind) (initiator p : ℕ) (chain : List ℕ) → p ≢ initiator → IsChain s k kind initiator chain p → IsListOf s k kind initiator p chain
list_of_other s k kind initiator p chain other h = record { none = λ same. absurd (other same); leads = λ again. h }

-- a list around one of its items
pub around : (xs : List ℕ) (i x : ℕ) → slice_get xs i ≡ Some x → xs ≡ take i xs ++ x ∷ drop (i + 1) xs
around [] i x e = absurd (cc)
around (y ∷ xs) zero x e =
    let same : y ≡ x = some_same e in
    ap (λ (z : ℕ). z ∷ xs) same
around (y ∷ xs) (suc i) x e =
    let next : suc i + 1 ≡ suc (i + 1) = omega arith in
    ap (λ (l : List ℕ). y ∷ l) (around xs i x e) ∙ ap (λ (n : ℕ). y ∷ take i xs ++ x ∷ drop n (y ∷ xs)) (sym next)

pub at_most_from : (a b : ℕ) → leb a b ≡ true → a ≤ b
at_most_from a b e = grind (arith, nat_tests, e)

pub is_at_most : (a b : ℕ) → a ≤ b → leb a b ≡ true
is_at_most a b e = grind (arith, nat_tests, e)
