-- What an act leads to is what it makes of a holding.
use Rattle.std.proofs.Common.{◌≡◌, ℕ, ℤ, ◌+◌, ◌-◌, Bool, true, false, Option, Some, None, List, [], ◌∷◌, length, take, get_or, refl, sym, ap, subst, ◌∙◌, arith}
use Rattle.std.specs.Prelude.{option_map, unwrap_or, is_some, ◌&&◌}
use Rattle.kt_object.specs.SavedStates.{SavedStates}
use Rattle.kt_object.specs.Bytes.{IsSavedState}
use Rattle.kt_object.proofs.SavedOnce.{kind_once, value_once}
use Rattle.kt_plan.specs.declared.steps.Act.{Act}
use Rattle.kt_plan.specs.declared.steps.Act.TheVariants.{Nothing, Apply, Keep, Promote, Discard, Restore, Drop}
use Rattle.kt_object.specs.Holdings.{Content, content, Holding, applied, does, does_all, AreSaved, Holds}
use Rattle.kt_object.specs.Fits.{Outline, ActLeads, fits, fits_all, is_up_after, has_tentative_after, is_saved_after, spares_of, spares_of_all}

-- these bytes are a saved state of this content
abbrev IsSaved : Content → List ℕ → Type 0
IsSaved c saved = IsSavedState c.kind c.value saved

-- a saved state has one content
content_once : (c d : Content) (saved : List ℕ) → IsSaved c saved → IsSaved d saved → c ≡ d
content_once c d saved one two =
    ap (λ (k : ℕ). content k c.value) (kind_once c.kind d.kind c.value d.value saved one two)
    ∙ ap (λ (v : List ℤ). content d.kind v) (value_once c.kind d.kind c.value d.value saved one two)

kept : (c : Content) (saved : List ℕ) (o : Option Content) (t : Option (List ℕ)) → o ≡ Some c → t ≡ Some saved → IsSaved c saved → AreSaved o t
kept c saved o t e f is =
    subst (λ (o : Option Content). AreSaved o t) (sym e) (subst (λ (t : Option (List ℕ)). AreSaved (Some c) t) (sym f) is)

promoted_of : (o : Option Content) (c : Content) (saved : List ℕ) → AreSaved o (Some saved) → IsSaved (unwrap_or o c) saved
promoted_of None c saved are = absurd are
promoted_of (Some d) c saved are = are

promoted : (o : Option Content) (c : Content) (t : Option (List ℕ)) (saved : List ℕ) → AreSaved o t → t ≡ Some saved → IsSaved (unwrap_or o c) saved
promoted o c t saved are e = promoted_of o c saved (subst (AreSaved o) e are)

gone : (t : Option (List ℕ)) → t ≡ None → AreSaved None t
gone t e = subst (AreSaved None) (sym e) tt

-- the same saved states
same_permanent : (c : Content) (d e : SavedStates) → e ≡ d → IsSaved c d.permanent → IsSaved c e.permanent
same_permanent c d e same is = subst (λ (s : SavedStates). IsSaved c s.permanent) (sym same) is

same_tentative : (o : Option Content) (d e : SavedStates) → e ≡ d → AreSaved o d.tentative → AreSaved o e.tentative
same_tentative o d e same are = subst (λ (s : SavedStates). AreSaved o s.tentative) (sym same) are

pub acted : (act : Act) (h : Holding) (v : Option Content) (d : SavedStates) (w : Option Content) (e : SavedStates)
    → ActLeads act v d w e → Holds h v d → Holds (does h act) w e
acted Nothing h v d w e l held = record {
  object = l.0 ∙ held.object;
  permanent = same_permanent h.permanent d e l.1 held.permanent;
  tentative = same_tentative h.tentative d e l.1 held.tentative;
}
acted (Apply from body) h v d w e l held = record {
  object = l.0 ∙ ap (option_map (applied from body)) held.object;
  permanent = same_permanent h.permanent d e l.1 held.permanent;
  tentative = same_tentative h.tentative d e l.1 held.tentative;
}
acted Keep h v d w e l held = let k = l.2 in record {
  object = l.0 ∙ held.object;
  permanent = subst (IsSaved h.permanent) (sym l.1) held.permanent;
  tentative = kept k.0 k.1 h.object e.tentative (sym held.object ∙ k.2) k.3 k.4;
}
acted Promote h v d w e l held = record {
  object = l.0 ∙ held.object;
  permanent = promoted h.tentative h.permanent d.tentative e.permanent held.tentative l.1;
  tentative = gone e.tentative l.2;
}
acted Discard h v d w e l held = record {
  object = l.0 ∙ held.object;
  permanent = same_permanent h.permanent (record d { tentative = None }) e l.1 held.permanent;
  tentative = gone e.tentative (ap (λ (s : SavedStates). s.tentative) l.1);
}
acted Restore h v d w e l held = let k = l.1 in record {
  object = k.1 ∙ ap Some (content_once k.0 h.permanent d.permanent k.2 held.permanent);
  permanent = same_permanent h.permanent d e l.0 held.permanent;
  tentative = same_tentative h.tentative d e l.0 held.tentative;
}
acted Drop h v d w e l held = record {
  object = l.0;
  permanent = same_permanent h.permanent d e l.1 held.permanent;
  tentative = same_tentative h.tentative d e l.1 held.tentative;
}

-- two acts, one after the other
pub both_done : (acts : List Act) (a b : Act) (h : Holding) (v w z : Option Content) (d e f : SavedStates) → acts ≡ a ∷ b ∷ []
    → ActLeads a v d w e → ActLeads b w e z f → Holds h v d → Holds (does_all h acts) z f
both_done acts a b h v w z d e f is one two held =
    subst (λ (acts : List Act). Holds (does_all h acts) z f) (sym is) (acted b (does h a) w e z f two (acted a h v d w e one held))

-- the first of two, and no more
pub one_done : (acts : List Act) (a b : Act) (h : Holding) (v w z : Option Content) (d e f : SavedStates) → acts ≡ a ∷ b ∷ []
    → ActLeads a v d w e → z ≡ w → f ≡ e → Holds h v d → Holds (does_all h (take 1 acts)) z f
one_done acts a b h v w z d e f is one same_object same_states held =
    subst (λ (acts : List Act). Holds (does_all h (take 1 acts)) z f) (sym is)
    (subst (λ (z : Option Content). Holds (does h a) z f) (sym same_object)
    (subst (λ (f : SavedStates). Holds (does h a) w f) (sym same_states) (acted a h v d w e one held)))

-- neither of them
pub none_done : (acts : List Act) (h : Holding) (v w : Option Content) (d e : SavedStates) → w ≡ v → e ≡ d → Holds h v d
    → Holds (does_all h (take 0 acts)) w e
none_done acts h v w d e object states held =
    subst (λ (w : Option Content). Holds h w e) (sym object) (subst (λ (e : SavedStates). Holds h v e) (sym states) held)

pub is_some-map : {A B : Type 0} (f : A → B) (o : Option A) → is_some (option_map f o) ≡ is_some o
is_some-map f None = refl
is_some-map f (Some x) = refl

-- whether the object is there, and a tentative state, after an act
pub leads_up : (a : Act) (v w : Option Content) (d e : SavedStates) → ActLeads a v d w e → is_some w ≡ is_up_after (is_some v) a
leads_up Nothing v w d e l = ap is_some l.0
leads_up (Apply from body) v w d e l = ap is_some l.0 ∙ is_some-map (applied from body) v
leads_up Keep v w d e l = ap is_some l.0
leads_up Promote v w d e l = ap is_some l.0
leads_up Discard v w d e l = ap is_some l.0
leads_up Restore v w d e l = ap is_some l.1.1
leads_up Drop v w d e l = ap is_some l.0

pub leads_tentative : (a : Act) (v w : Option Content) (d e : SavedStates) → ActLeads a v d w e
    → is_some e.tentative ≡ has_tentative_after (is_some d.tentative) a
leads_tentative Nothing v w d e l = ap (λ (s : SavedStates). is_some s.tentative) l.1
leads_tentative (Apply from body) v w d e l = ap (λ (s : SavedStates). is_some s.tentative) l.1
leads_tentative Keep v w d e l = ap is_some l.2.3
leads_tentative Promote v w d e l = ap is_some l.2
leads_tentative Discard v w d e l = ap (λ (s : SavedStates). is_some s.tentative) l.1
leads_tentative Restore v w d e l = ap (λ (s : SavedStates). is_some s.tentative) l.0
leads_tentative Drop v w d e l = ap (λ (s : SavedStates). is_some s.tentative) l.1

-- what was saved is used up by what is done first
pub used_up : (saved : Bool) (a : Act) → (a ≡ Nothing → ⊥) → is_saved_after saved a ≡ false
used_up saved Nothing n = absurd (n refl)
used_up saved (Apply from body) n = refl
used_up saved Keep n = refl
used_up saved Promote n = refl
used_up saved Discard n = refl
used_up saved Restore n = refl
used_up saved Drop n = refl

both : (x y : Bool) → x ≡ true → y ≡ true → (x && y) ≡ true
both true y e f = f
both false y e f = absurd (cc e)

-- two acts fit
pub both_fit : (acts : List Act) (a b : Act) (up tentative saved up' tentative' : Bool) (spares left : ℕ) → acts ≡ a ∷ b ∷ [] → (a ≡ Nothing → ⊥)
    → fits (record { up = up; tentative = tentative; saved = saved; spares = spares }) a ≡ true
    → fits (record { up = up'; tentative = tentative'; saved = false; spares = left }) b ≡ true
    → up' ≡ is_up_after up a → tentative' ≡ has_tentative_after tentative a → left ≡ spares - spares_of up a
    → fits_all (record { up = up; tentative = tentative; saved = saved; spares = spares }) acts ≡ true
both_fit acts a b up tentative saved up' tentative' spares left is n one two same_up same_tentative same_left =
    subst (λ (acts : List Act). fits_all (record { up = up; tentative = tentative; saved = saved; spares = spares }) acts ≡ true) (sym is)
    (both _ _ one (both _ _
    (subst (λ (m : ℕ). fits (record { up = is_up_after up a; tentative = has_tentative_after tentative a; saved = is_saved_after saved a; spares = m }) b ≡ true) same_left
    (subst (λ (t : Bool). fits (record { up = is_up_after up a; tentative = t; saved = is_saved_after saved a; spares = left }) b ≡ true) same_tentative
    (subst (λ (u : Bool). fits (record { up = u; tentative = tentative'; saved = is_saved_after saved a; spares = left }) b ≡ true) same_up
    (subst (λ (k : Bool). fits (record { up = up'; tentative = tentative'; saved = k; spares = left }) b ≡ true) (sym (used_up saved a n)) two)))) refl))

-- nothing leads nowhere, and fits always
pub idle_leads : (a : Act) (v : Option Content) (d : SavedStates) → a ≡ Nothing → ActLeads a v d v d
idle_leads a v d e = subst (λ (a : Act). ActLeads a v d v d) (sym e) (refl, refl)

pub idle_fits : (a : Act) (o : Outline) → a ≡ Nothing → fits o a ≡ true
idle_fits a o e = ap (fits o) e

-- where the first is nothing, the second alone
module _ (acts : List Act) (a b : Act) (is : acts ≡ a ∷ b ∷ []) (nothing : a ≡ Nothing) where
  alone : acts ≡ Nothing ∷ b ∷ []
  alone = is ∙ ap (λ (x : Act). x ∷ b ∷ []) nothing

  pub second_done : (h : Holding) (v w : Option Content) (d e : SavedStates) → ActLeads b v d w e → Holds h v d → Holds (does_all h acts) w e
  second_done h v w d e leads held = subst (λ (acts : List Act). Holds (does_all h acts) w e) (sym alone) (acted b h v d w e leads held)

  pub second_not : (h : Holding) (v w : Option Content) (d e : SavedStates) → w ≡ v → e ≡ d → Holds h v d → Holds (does_all h (take 1 acts)) w e
  second_not h v w d e same_object same_states held =
      subst (λ (acts : List Act). Holds (does_all h (take 1 acts)) w e) (sym alone)
      (subst (λ (w : Option Content). Holds h w e) (sym same_object) (subst (λ (e : SavedStates). Holds h v e) (sym same_states) held))

  and_true : (x : Bool) → (x && true) ≡ x
  and_true true = refl
  and_true false = refl

  pub second_fits : (up tentative saved : Bool) (spares : ℕ) →
      fits_all (record { up = up; tentative = tentative; saved = saved; spares = spares }) acts ≡ fits (record { up = up; tentative = tentative; saved = saved; spares = spares }) b
  second_fits up tentative saved spares =
      ap (fits_all (record { up = up; tentative = tentative; saved = saved; spares = spares })) alone
      ∙ (and_true (fits (record { up = up; tentative = tentative; saved = saved; spares = spares - 0 }) b)
      ∙ ap (λ (n : ℕ). fits (record { up = up; tentative = tentative; saved = saved; spares = n }) b) (let z : spares - 0 ≡ spares = omega arith in z))

  pub second_takes : (up : Bool) → spares_of_all up acts ≡ spares_of up b
  second_takes up = ap (spares_of_all up) alone ∙ (let z : 0 + (spares_of up b + 0) ≡ spares_of up b = omega arith in z)

-- a list of two
pub two_of : {A : Type 0} (xs : List A) (a b : A) → length xs ≡ 2 → xs ≡ get_or xs 0 a ∷ get_or xs 1 b ∷ []
two_of [] a b l = absurd (omega (arith, l))
two_of (x ∷ []) a b l = absurd (omega (arith, l))
two_of (x ∷ y ∷ []) a b l = refl
two_of (x ∷ y ∷ z ∷ xs) a b l = absurd (omega (arith, l))
