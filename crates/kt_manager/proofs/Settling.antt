-- A node that has joined an instance goes on.
use Rattle.std.proofs.Common.{◌≡◌, ◌∙◌, ℕ, Bool, true, false, Option, Some, None, List, [], ◌∷◌, ◌++◌, refl, sym, ap, subst}
use Rattle.std.specs.Prelude.{◌==◌, if◌then◌else◌}
use Rattle.kt_base.specs.declared.words.Kind.{Kind}
use Rattle.kt_process.specs.PartRules.{way_alone}
use Rattle.kt_process.specs.declared.actions.Then.TheVariants.{Wait, Answer, Commit}
use Rattle.kt_tables.specs.Peers.{IsCohort}
use Rattle.kt_process.specs.Shown.{goes_on}
use Rattle.kt_spacetime.specs.declared.names.InstName.{InstName}
use Rattle.kt_spacetime.specs.declared.named_rows.NamedEvent.{NamedEvent}
use Rattle.kt_spacetime.specs.declared.named_rows.NamedEvent.TheVariants.{Decided}
use Rattle.kt_manager.specs.declared.parcels.NodeParcel.TheVariants as put
use Rattle.kt_manager.specs.Nodes.{NodeState, Doing, with_one}
use Rattle.kt_manager.specs.NodeClosing.{closing, ending, settling}
use Rattle.kt_manager.specs.ShownActs.{acts_shown, acts_joining}
use Rattle.kt_manager.specs.declared.effects.Parcels.{Parcels}
use Rattle.kt_manager.specs.declared.effects.Parcels.TheVariants as puts
use Rattle.kt_manager.specs.Managers.{ManagerState, ShowsManager}
use Rattle.kt_manager.specs.Told.{Told}
use Rattle.kt_manager.specs.Effects.{put_to, IsDone}
use Rattle.kt_manager.specs.Turns.{joined_row, joined_in, deciding}
use Rattle.kt_manager.proofs.Asks.{asks_put, none_asked}

settles_wait : (k : InstName) (d : Doing) → Wait ≡ goes_on d.state.part → d ≡ settling k d
settles_wait k d e = at_test (d.state.part.awaited == 0) d.state.part.parent e
  where
    at_test : (b : Bool) (parent : Option ℕ) → Wait ≡ (if b then way_alone parent else Wait) → d ≡ (if b then ending k parent d else d)
    at_test true None e = absurd (cc (e))
    at_test true (Some to) e = absurd (cc (e))
    at_test false parent e = refl

settles_answer : (k : InstName) (d : Doing) (to : ℕ) → Answer to ≡ goes_on d.state.part → record d { puts = with_one to (put.Reply k d.state.part.willing) d.puts } ≡ settling k d
settles_answer k d to e = at_test (d.state.part.awaited == 0) d.state.part.parent e
  where
    at_test : (b : Bool) (parent : Option ℕ) → Answer to ≡ (if b then way_alone parent else Wait) → record d { puts = with_one to (put.Reply k d.state.part.willing) d.puts } ≡ (if b then ending k parent d else d)
    at_test true None e = absurd (cc (e))
    at_test true (Some other) e = let i : to ≡ other = cc in ap (λ (n : ℕ). record d { puts = with_one n (put.Reply k d.state.part.willing) d.puts }) i
    at_test false parent e = absurd (cc (e))

settles_commit : (k : InstName) (d : Doing) → Commit ≡ goes_on d.state.part → closing k d.state.part.willing (record d { rows = d.rows ++ Decided k d.state.part.willing ∷ [] }) ≡ settling k d
settles_commit k d e = at_test (d.state.part.awaited == 0) d.state.part.parent e
  where
    at_test : (b : Bool) (parent : Option ℕ) → Commit ≡ (if b then way_alone parent else Wait) → closing k d.state.part.willing (record d { rows = d.rows ++ Decided k d.state.part.willing ∷ [] }) ≡ (if b then ending k parent d else d)
    at_test true None e = refl
    at_test true (Some other) e = absurd (cc (e))
    at_test false parent e = absurd (cc (e))

-- a node that has joined k, and asks or has nobody to ask
joined_done : (w : ManagerState) (k : InstName) (kind : Kind) (label : ℕ → ℕ) (rows : List NamedEvent) (y : NodeState) (e : Told) → ShowsManager w y → ((q : ℕ) → put_to e.parcels q ≡ (if y.part.asked q then put.Ask k kind (label q) ∷ [] else []))
    → e.rows ≡ rows ++ joined_row k kind ∷ [] → acts_shown e.acts ≡ acts_joining kind → IsDone w e (joined_in k kind label rows y)
joined_done w k kind label rows y e s p a b = record { state = s; puts = p; rows = a; acts = b }

module _ (w : ManagerState) (k : InstName) (kind : Kind) (asks : List (ℕ × ℕ)) (label : ℕ → ℕ) (rows : List NamedEvent) (y : NodeState) (e : Told) (c : IsCohort asks y.part.asked label) (told : e.rows ≡ rows ++ joined_row k kind ∷ []) (acts : acts_shown e.acts ≡ acts_joining kind) where
  abbrev d : Doing
  d = joined_in k kind label rows y

  pub waits : e.parcels ≡ puts.Asks k kind asks → ShowsManager w y → Wait ≡ goes_on y.part → IsDone w e (settling k d)
  waits p s way =
      subst (λ (z : Doing). IsDone w e z) (settles_wait k d way)
      (joined_done w k kind label rows y e s (λ q. ap (λ (t : Parcels). put_to t q) p ∙ asks_put k kind asks y.part.asked label c q) told acts)

  pub answers : (to : ℕ) → e.parcels ≡ puts.One to (put.Reply k true) → ShowsManager w y → Answer to ≡ goes_on y.part → y.part.willing ≡ true → asks ≡ [] → IsDone w e (settling k d)
  answers to p s way willing none =
      subst (λ (z : Doing). IsDone w e z) (settles_answer k d to way)
      (record {
        state = s;
        puts = λ q. ap (λ (t : Parcels). put_to t q) p ∙ put_alone (q == to) (y.part.asked q) y.part.willing q (none_asked asks y.part.asked label c none q) willing;
        rows = told;
        acts = acts;
      })
    where
      put_alone : (a b v : Bool) (q : ℕ) → b ≡ false → v ≡ true → (if a then put.Reply k true ∷ [] else [])
          ≡ (if a then (if b then put.Ask k kind (label q) ∷ [] else []) ++ put.Reply k v ∷ [] else (if b then put.Ask k kind (label q) ∷ [] else []))
      put_alone true false v q e f = ap (λ (v : Bool). put.Reply k v ∷ []) (sym f)
      put_alone false false v q e f = refl
      put_alone a true v q e f = absurd (cc (e))

  pub asks_nobody : e.parcels ≡ puts.Nothing → ShowsManager w y → asks ≡ [] → IsDone w e d
  asks_nobody p s none = joined_done w k kind label rows y e s (λ q. ap (λ (t : Parcels). put_to t q) p ∙ put_none (y.part.asked q) q (none_asked asks y.part.asked label c none q)) told acts
    where
      put_none : (b : Bool) (q : ℕ) → b ≡ false → [] ≡ (if b then put.Ask k kind (label q) ∷ [] else [])
      put_none false q e = refl
      put_none true q e = absurd (cc (e))

-- it has decided at once, willing as all are
pub commits : (w : ManagerState) (e : Told) (k : InstName) (d : Doing) → Commit ≡ goes_on d.state.part → d.state.part.willing ≡ true → IsDone w e (closing k true (deciding k true d)) → IsDone w e (settling k d)
commits w e k d way willing done =
    subst (λ (z : Doing). IsDone w e z) (settles_commit k d way)
    (subst (λ (v : Bool). IsDone w e (closing k v (deciding k v d))) (sym willing) done)
