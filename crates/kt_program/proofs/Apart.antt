-- Outputs that are apart, as far as a list of them was looked through.
use Rattle.std.proofs.Common.{◌<◌, ◌+◌, ℕ, List, [], length, sym, subst, arith, All, slice_index_or, take}
use Rattle.std.specs.Prelude.{Some, None}
use Rattle.std.proofs.lemmas.List.{get_or_default, get_or-take, length-take}
use borrow.Author.Count.{below_more}
use Rattle.kt_program.specs.Names.{Apart, IsDevice, IsEachApart, Name, ReadOnce}
use Rattle.kt_program.specs.Files.{AreTwo, OpenedFile}

pub names_sym : (one other : Name) → Apart one other → Apart other one
names_sym (Some one) (Some other) apart = λ e. subst IsDevice e (apart (sym e))
names_sym (Some one) None apart = tt
names_sym None (Some other) apart = tt
names_sym None None apart = tt

pub files_sym : (one other : OpenedFile) → AreTwo one other → AreTwo other one
files_sym (Some one) (Some other) two = λ e. two (sym e)
files_sym (Some one) None two = tt
files_sym None (Some other) two = tt
files_sym None None two = tt

pub reads_sym : (one other : Name) → ReadOnce one other → ReadOnce other one
reads_sym (Some one) (Some other) once = λ e f. once f e
reads_sym (Some one) None once = tt
reads_sym None (Some other) once = tt
reads_sym None None once = tt

-- what holds of each item of an empty list
pub all_none : {X : Type 0} (P : X → Type 0) → All P []
all_none P k d l = absurd (omega arith)

-- the first so many outputs are apart
pub record IsApartTo {X : Type 0} (Apart : X → X → Type 0) (inputs outputs : List X) (count : ℕ) : Type 0 where
  pub from_inputs : (k : ℕ) (d : X) → k < count → All (Apart (slice_index_or outputs k d)) inputs
  pub from_each_other : (i j : ℕ) (d : X) → i < j → j < count → Apart (slice_index_or outputs i d) (slice_index_or outputs j d)

module _ {X : Type 0} (Apart : X → X → Type 0) (apart_sym : (one other : X) → Apart one other → Apart other one) (none : X)
    (inputs outputs : List X) (place : ℕ) (within : place < length outputs) where
  -- one more output is apart
  pub apart_more : IsApartTo Apart inputs outputs place → All (Apart (slice_index_or outputs place none)) inputs → All (Apart (slice_index_or outputs place none)) (take place outputs)
      → IsApartTo Apart inputs outputs (place + 1)
  apart_more before here among = record {
    from_inputs = λ k d l. below_more (λ (n : ℕ). (e : X) → All (Apart (slice_index_or outputs n e)) inputs) place (λ n m e. before.from_inputs n e m)
        (λ e. subst (λ (output : X). All (Apart output) inputs) (get_or_default outputs place none e within) here) k l d;
    from_each_other = λ i j d m l. below_more (λ (n : ℕ). (h : ℕ) (e : X) → h < n → Apart (slice_index_or outputs h e) (slice_index_or outputs n e)) place
        (λ n b h e a. before.from_each_other h n e a b) later j l i d m;
  }
    where
      later : (h : ℕ) (e : X) → h < place → Apart (slice_index_or outputs h e) (slice_index_or outputs place e)
      later h e a =
          let f = among h e (let s = length-take place outputs in omega (arith, a, s, within)) in
          let g = subst (λ (output : X). Apart output (slice_index_or (take place outputs) h e)) (get_or_default outputs place none e within) f in
          apart_sym (slice_index_or outputs place e) (slice_index_or outputs h e) (subst (Apart (slice_index_or outputs place e)) (get_or-take place outputs h e a) g)

  -- an output that is not apart from an input, or from an output before it
  pub not_apart : (¬ All (Apart (slice_index_or outputs place none)) inputs) → ¬ IsEachApart Apart inputs outputs
  not_apart named are = named (are.from_inputs place none within)

  pub not_apart_before : (¬ All (Apart (slice_index_or outputs place none)) (take place outputs)) → ¬ IsEachApart Apart inputs outputs
  not_apart_before named are = named (λ h e l. let a : h < place = (let s = length-take place outputs in omega (arith, l, s)) in
      let f = apart_sym (slice_index_or outputs h e) (slice_index_or outputs place e) (are.from_each_other h place e a within) in
      let g = subst (λ (output : X). Apart output (slice_index_or outputs h e)) (get_or_default outputs place e none within) f in
      subst (Apart (slice_index_or outputs place none)) (sym (get_or-take place outputs h e a)) g)
