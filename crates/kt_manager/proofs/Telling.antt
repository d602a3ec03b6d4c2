-- What is told of a step, as the node's rules have it.
use Rattle.std.proofs.Common.{◌≡◌, ◌∙◌, ℕ, Bool, true, false, List, [], ◌∷◌, ◌++◌, append_assoc, refl, sym, ap}
use Rattle.std.specs.Prelude.{◌==◌, if◌then◌else◌}
use Rattle.std.proofs.lemmas.List.{append-nil}
use Rattle.kt_base.specs.Sets.{has}
use Rattle.kt_plan.specs.declared.steps.Act.{Act as AnsweredAct}
use Rattle.kt_machine.specs.Values.{Act, closing as acts_of_closing}
use Rattle.kt_spacetime.specs.declared.names.InstName.{InstName}
use Rattle.kt_spacetime.specs.declared.named_rows.NamedEvent.{NamedEvent}
use Rattle.kt_spacetime.specs.declared.named_rows.NamedEvent.TheVariants.{Decided, Closed}
use Rattle.kt_manager.specs.declared.parcels.NodeParcel.{NodeParcel}
use Rattle.kt_manager.specs.declared.parcels.NodeParcel.TheVariants as put
use Rattle.kt_manager.specs.declared.effects.Parcels.{Parcels}
use Rattle.kt_manager.specs.declared.effects.Parcels.TheVariants as puts
use Rattle.kt_manager.specs.Nodes.{NodeState, Doing, nothing}
use Rattle.kt_manager.specs.NodeClosing.{closing}
use Rattle.kt_manager.specs.ShownActs.{act_shown, acts_shown}
use Rattle.kt_manager.specs.Told.{Told, nothing_told}
use Rattle.kt_manager.specs.Managers.{ManagerState, ShowsManager, after_closing}
use Rattle.kt_manager.specs.Effects.{put_to, IsDone}
use Rattle.kt_manager.specs.Turns.{deciding}

acts_more : (xs ys : List AnsweredAct) → acts_shown (xs ++ ys) ≡ acts_shown xs ++ acts_shown ys
acts_more [] ys = refl
acts_more (x ∷ xs) ys = ap (λ (l : List Act). act_shown x ++ l) (acts_more xs ys) ∙ sym (append_assoc (act_shown x) (acts_shown xs) (acts_shown ys))

-- one act more
pub act_more : (xs : List AnsweredAct) (x : AnsweredAct) → acts_shown (xs ++ x ∷ []) ≡ acts_shown xs ++ act_shown x
act_more xs x = acts_more xs (x ∷ []) ∙ ap (λ (l : List Act). acts_shown xs ++ l) (append-nil (act_shown x))

-- nothing is told
pub done_nothing : (w : ManagerState) (e : Told) (y : NodeState) → e ≡ nothing_told → ShowsManager w y → IsDone w e (nothing y)
done_nothing w e y i h = record {
  state = h;
  puts = λ q. ap (λ (t : Told). put_to t.parcels q) i;
  rows = ap (λ (t : Told). t.rows) i;
  acts = ap (λ (t : Told). acts_shown t.acts) i;
}

-- one row alone
pub done_row : (w : ManagerState) (e : Told) (y : NodeState) (row : NamedEvent) → e.rows ≡ row ∷ [] → e.acts ≡ [] → e.parcels ≡ puts.Nothing → ShowsManager w y → IsDone w e (record (nothing y) { rows = row ∷ [] })
done_row w e y row a b p h = record { state = h; puts = λ q. ap (λ (t : Parcels). put_to t q) p; rows = a; acts = ap acts_shown b }

-- one row alone, and one act
pub done_act : (w : ManagerState) (e : Told) (y : NodeState) (row : NamedEvent) (act : AnsweredAct) → e.rows ≡ row ∷ [] → e.acts ≡ act ∷ [] → e.parcels ≡ puts.Nothing → ShowsManager w y
    → IsDone w e (record (nothing y) { rows = row ∷ []; acts = act_shown act })
done_act w e y row act a b p h = record { state = h; puts = λ q. ap (λ (t : Parcels). put_to t q) p; rows = a; acts = ap acts_shown b ∙ append-nil (act_shown act) }

-- one parcel alone
pub done_put : (w : ManagerState) (e : Told) (y : NodeState) (to : ℕ) (parcel : NodeParcel) → e.rows ≡ [] → e.acts ≡ [] → e.parcels ≡ puts.One to parcel → ShowsManager w y
    → IsDone w e (record (nothing y) { puts = λ q. if q == to then parcel ∷ [] else [] })
done_put w e y to parcel a b p h = record { state = h; puts = λ q. ap (λ (t : Parcels). put_to t q) p; rows = a; acts = ap acts_shown b }

-- a row more
pub done_decided : (w : ManagerState) (e f : Told) (d : Doing) (k : InstName) (c : Bool) (row : NamedEvent) → row ≡ Decided k c → f.rows ≡ e.rows ++ row ∷ [] → f.acts ≡ e.acts → f.parcels ≡ e.parcels → IsDone w e d → IsDone w f (deciding k c d)
done_decided w e f d k c row i a b p h = record {
  state = h.state;
  puts = λ q. ap (λ (t : Parcels). put_to t q) p ∙ h.puts q;
  rows = a ∙ (ap (λ (l : List NamedEvent). l ++ row ∷ []) h.rows ∙ ap (λ (r : NamedEvent). d.rows ++ r ∷ []) i);
  acts = ap acts_shown b ∙ h.acts;
}

-- its instance is closed
pub done_closed : (old new : ManagerState) (e f : Told) (d : Doing) (k : InstName) (c roll : Bool) (to : ℕ) → roll ≡ d.state.part.is_rollback → ShowsManager new (after_closing c d.state) → ((q : ℕ) → has to q ≡ d.state.part.asked q)
    → e.parcels ≡ puts.Nothing → f.rows ≡ e.rows ++ Closed k ∷ [] → acts_shown f.acts ≡ acts_shown e.acts ++ acts_of_closing roll c → ((q : ℕ) → put_to f.parcels q ≡ (if has to q then put.Decide k c ∷ [] else []))
    → IsDone old e d → IsDone new f (closing k c d)
done_closed old new e f d k c roll to i s asked p a b g h = record {
  state = s;
  puts = λ q. g q ∙ (ap (λ (t : Bool). if t then put.Decide k c ∷ [] else []) (asked q) ∙ alone q (d.state.part.asked q) (d.puts q) (sym (h.puts q) ∙ ap (λ (t : Parcels). put_to t q) p));
  rows = a ∙ ap (λ (l : List NamedEvent). l ++ Closed k ∷ []) h.rows;
  acts = b ∙ (ap (λ (l : List Act). l ++ acts_of_closing roll c) h.acts ∙ ap (λ (t : Bool). d.acts ++ acts_of_closing t c) i);
}
  where
    alone : (q : ℕ) (t : Bool) (l : List NodeParcel) → l ≡ [] → (if t then put.Decide k c ∷ [] else []) ≡ (if t then l ++ put.Decide k c ∷ [] else l)
    alone q true l e = ap (λ (x : List NodeParcel). x ++ put.Decide k c ∷ []) (sym e)
    alone q false l e = sym e
