-- Processes and their tables.
use Rattle.std.proofs.Common.{◌≡◌, ℕ, ◌+◌, ◌<◌, ◌≤◌, true, Option, Some, None, List, [], ◌∷◌, ◌++◌, length, replicate, take, refl, sym, ap, ◌∙◌, arith, inl, inr, length-append}
use Rattle.std.specs.List.{slice_get, Contains}
use Rattle.std.proofs.lemmas.Bool.{cases_eq}
use Rattle.std.proofs.lemmas.List.{take-append-le, take_all, get_or-replicate, length-replicate}
use Rattle.std.proofs.lemmas.Option.{slice_get_within, slice_get-get_or}
use Rattle.kt_spacetime.specs.declared.deeds.Deed.{Deed}
use Rattle.kt_spacetime.specs.declared.deeds.Deed.TheVariants as deed
use Rattle.kt_histories.specs.declared.process.Process.{Process}
use Rattle.kt_meaning.specs.Past.{start}
use Rattle.kt_histories.specs.Standing.{ShowsProcess}
use Rattle.kt_meaning.proofs.Items.{get_left, get_seam, some_same}

-- a process before the first row
pub shows_start : (v : Process) (p : ℕ) → v.history ≡ [] → v.permanent ≡ 0 → v.open_in ≡ None → v.up ≡ true → v.last_dropped ≡ replicate 64 None → ShowsProcess v start p
shows_start v p h n o u d = record {
  live = h;
  permanent = n;
  open_in = o;
  up = u;
  dropped = λ q l. rw d (slice_get-get_or (replicate 64 None) q None (omega (arith, l, length-replicate {A = Option ℕ} 64 None)) ∙ ap Some (get_or-replicate 64 q None None l));
}

-- what a cut back has done so far
pub record IsCutting (first now : Process) (undone_before undone : List ℕ) : Type 0 where
  pub others : now ≡ record first { history = now.history }
  pub shorter : length now.history ≤ length first.history
  pub part : take first.permanent now.history ≡ take first.permanent first.history
  pub front : (i : ℕ) → i < length now.history → slice_get now.history i ≡ slice_get first.history i
  pub undone_known : (i m to : ℕ) → slice_get first.history i ≡ Some (deed.Sent m to) → length now.history ≤ i → Contains undone m
  pub kept : (m : ℕ) → Contains undone_before m → Contains undone m

pub cutting_none : (v : Process) (u : List ℕ) → IsCutting v v u u
cutting_none v u = record {
  others = refl;
  shorter = omega arith;
  part = refl;
  front = λ i l. refl;
  undone_known = λ i m to e l. absurd (omega (arith, l, slice_get_within v.history i _ e));
  kept = λ m c. c;
}

-- a cut back of one more deed, with a list that has its message if it is a send
pub cutting_more : (first now : Process) (deeds : List Deed) (u0 u w : List ℕ) (d : Deed) → IsCutting first now u0 u → now.history ≡ deeds ++ d ∷ []
    → first.permanent < length now.history
    → ((m : ℕ) → Contains u m → Contains w m) → ((m to : ℕ) → d ≡ deed.Sent m to → Contains w m) → IsCutting first (record now { history = deeds }) u0 w
cutting_more first now deeds u0 u w d c e l k s =
    let long : length now.history ≡ length deeds + 1 = ap length e ∙ length-append deeds (d ∷ []) in
    record {
      others = ap (λ (v : Process). record v { history = deeds }) c.others;
      shorter = omega (arith, long, c.shorter);
      part = sym (take-append-le first.permanent deeds (d ∷ []) (omega (arith, long, l))) ∙ (ap (take first.permanent) (sym e) ∙ c.part);
      front = λ i below. sym (get_left deeds (d ∷ []) i below) ∙ (ap (λ (t : List Deed). slice_get t i) (sym e) ∙ c.front i (omega (arith, long, below)));
      undone_known = λ i m to at low. elim (cases_eq i (length deeds)) [
        | inl here ↦
            let last : slice_get (deeds ++ d ∷ []) i ≡ Some (deed.Sent m to) = ap (λ (t : List Deed). slice_get t i) (sym e) ∙ (c.front i (omega (arith, long, here)) ∙ at) in
            let seam : slice_get (deeds ++ d ∷ []) i ≡ Some d = ap (slice_get (deeds ++ d ∷ [])) here ∙ get_seam deeds d [] in
            s m to (some_same (sym seam ∙ last))
        | inr more ↦ k m (c.undone_known i m to at (omega (arith, long, low, more)))
      ];
      kept = λ m h. k m (c.kept m h);
    }

-- a cut back that has come to the permanent position
pub cut_whole : (first now : Process) (u0 u : List ℕ) → IsCutting first now u0 u → length now.history ≤ first.permanent
    → now ≡ record first { history = take first.permanent first.history }
cut_whole first now u0 u c l =
    c.others ∙ ap (λ (t : List Deed). record first { history = t }) (sym (take_all first.permanent now.history l) ∙ c.part)
