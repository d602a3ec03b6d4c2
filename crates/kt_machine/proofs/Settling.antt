-- One step after another; and what follows once the replies awaited are counted.
use Rattle.std.proofs.Common.{◌≡◌, ℕ, ◌<◌, Bool, true, false, refl, sym, ap, subst, ◌∙◌, Option, Some, None}
use Rattle.std.specs.Prelude.{◌==◌, if◌then◌else◌}
use Rattle.kt_protocol.proofs.Invariant.{Invariant}
use Rattle.kt_protocol.proofs.Updates.{at_one_here}
use Rattle.kt_protocol.specs.Deciding.{none_of}
use Rattle.kt_protocol.specs.Replies.{after_answering}
use Rattle.kt_protocol.specs.States.{State}
use Rattle.kt_protocol.proofs.KeptLists.{KeptLists}
use Rattle.kt_protocol.proofs.KeptSteps.{kept_deciding}
use Rattle.kt_protocol.specs.LateClosing.{late_deciding_as, late_deciding, late_closing}
use Rattle.kt_protocol.specs.LateSteps.{late_settling}
use Rattle.kt_protocol.specs.OnceClosed.{once_closed}
use Rattle.kt_machine.specs.Labelling.{Labelling, labelled_log}
use Rattle.kt_machine.specs.Seen.{SeenPart, Seen, process_seen, view}
use Rattle.kt_machine.specs.SeenClosing.{seen_closing, seen_deciding, seen_ending, seen_settling}
use Rattle.kt_machine.proofs.SameSeen.{read, count_none}
use Rattle.kt_machine.proofs.Named.{Tells, Sees}
use Rattle.kt_machine.proofs.SmallSteps.{part_in, sees_same, sees_answering}
use Rattle.kt_machine.proofs.Deciding.{sees_deciding}
use Rattle.kt_machine.proofs.Closing.{sees_closing}

-- a step after another
pub sees_then : (first : ℕ) (m n : State) (v : Seen) (f : Seen → Seen) → Sees first m v → ((t : Labelling) → read m.so_far t ≡ labelled_log first m.log → Tells t m → Sees first n (f (view t m))) → Sees first n (f v)
sees_then first m n v f x s = let y = s x.labels x.known x.tells in record { labels = y.labels; known = y.known; same = y.same ∙ ap f x.same; tells = y.tells }

-- where the labels are known
pub sees_with : (first : ℕ) (m n : State) (v : Seen) (f : Seen → Seen) (t : Labelling) (x : Sees first m v) → x.labels ≡ t → (read m.so_far t ≡ labelled_log first m.log → Tells t m → Sees first n (f (view t m))) → Sees first n (f v)
sees_with first m n v f t x e s =
    let y = s (subst (λ (u : Labelling). read m.so_far u ≡ labelled_log first m.log) e x.known) (subst (λ (u : Labelling). Tells u m) e x.tells) in
    record { labels = y.labels; known = y.known; same = y.same ∙ ap f (ap (λ (u : Labelling). view u m) (sym e) ∙ x.same); tells = y.tells }

pub sees_as : (first : ℕ) (c : State) (v w : Seen) → Sees first c v → v ≡ w → Sees first c w
sees_as first c v w x e = subst (λ (u : Seen). Sees first c u) e x

pub at_both : (first : ℕ) (b e : Bool) {x y : State} {x' y' : Seen} → b ≡ e → (b ≡ true → Sees first x x') → (b ≡ false → Sees first y y') → Sees first (if b then x else y) (if e then x' else y')
at_both first true true h f g = f refl
at_both first false false h f g = g refl
at_both first true false h f g = absurd (cc (h))
at_both first false true h f g = absurd (cc (h))

-- what the decided row leaves
decided_facts : (c : State) (p k u : ℕ) (w roll : Bool) → ((late_deciding_as w roll c p k).so_far.open_in u ≡ c.so_far.open_in u) × ((late_deciding_as w roll c p k).so_far.is_decided k ≡ true) × ((late_deciding_as w roll c p k).so_far.is_committed k ≡ w)
decided_facts c p k u false roll = (refl, at_one_here k true c.so_far.is_decided, at_one_here k false c.so_far.is_committed)
decided_facts c p k u true false = (refl, at_one_here k true c.so_far.is_decided, at_one_here k true c.so_far.is_committed)
decided_facts c p k u true true = (refl, at_one_here k true c.so_far.is_decided, at_one_here k true c.so_far.is_committed)

module _ (first : ℕ) (c : State) (t : Labelling) (known : read c.so_far t ≡ labelled_log first c.log) (d : Tells t c) (p k : ℕ) (g : Invariant (once_closed c)) (lists : KeptLists c) (j : c.so_far.joined k p ≡ true) (n : c.so_far.is_decided k ≡ false) where
  pos : 0 < k
  pos = (g.positions.joined_instance k p j).0

  o : c.so_far.open_in p ≡ k
  o = g.positions.member_open k p j n

  ends_decided : Sees first (late_closing (late_deciding c p k) p k (c.all_willing k p)) (seen_closing (seen_deciding (view t c) p k (c.all_willing k p)) p k (c.all_willing k p))
  ends_decided = let f = decided_facts c p k p (c.all_willing k p) (c.so_far.is_rollback k) in
      sees_then first (late_deciding c p k) (late_closing (late_deciding c p k) p k (c.all_willing k p)) (seen_deciding (view t c) p k (c.all_willing k p)) (λ v. seen_closing v p k (c.all_willing k p))
      (sees_deciding first c t known d p k g pos n (c.all_willing k p) (c.so_far.is_rollback k) refl)
      (λ t' known' d'. sees_closing first (late_deciding c p k) t' known' d' p k pos (f.0 ∙ o) (c.all_willing k p) f.2 (kept_deciding c p k (c.all_willing k p) (c.so_far.is_rollback k) g pos n refl lists))

  ends_as : (b : Bool) → Sees first (if b then late_closing (late_deciding c p k) p k (c.all_willing k p) else after_answering c p k) (seen_ending (view t c) p k (if b then None else Some (c.parent k p)))
  ends_as true = sees_as first (late_closing (late_deciding c p k) p k (c.all_willing k p)) _ _ ends_decided (ap (λ (w : Bool). seen_closing (seen_deciding (view t c) p k w) p k w) (sym (ap (λ (r : SeenPart). r.willing) (part_in t c p k pos o))))
  ends_as false = sees_answering first c t known d p k pos o

  pub sees_settling : Sees first (late_settling c p k) (seen_settling (view t c) p k)
  sees_settling = at_both first (none_of c.processes (c.awaits k p)) ((process_seen t c p).part.awaited == 0)
      (sym (ap (λ (r : SeenPart). r.awaited == 0) (part_in t c p k pos o) ∙ count_none c.processes (c.awaits k p)))
      (λ _. sees_as first (if p == c.initiator k then late_closing (late_deciding c p k) p k (c.all_willing k p) else after_answering c p k) _ _ (ends_as (p == c.initiator k)) (ap (λ (x : Option ℕ). seen_ending (view t c) p k x) (sym (ap (λ (r : SeenPart). r.parent) (part_in t c p k pos o)))))
      (λ _. sees_same first c t known d)
