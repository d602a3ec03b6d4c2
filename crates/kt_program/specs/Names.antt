-- Names of files, and which of them may be given together.
use Rattle.std.specs.Prelude.{◌≡◌, ◌≢◌, ◌⊎◌, ◌++◌, ◌≤◌, ℕ, List, [], ◌∷◌, Option, Some, None, All, AllPairs, codes}
use Rattle.std.specs.Borrow.{Bor}
use Rattle.clap.specs.Words.{Text}
use Rattle.kt_program.specs.declared.line.Asked.{Asked}
use Rattle.kt_program.specs.declared.line.Asked.TheVariants.{Certify, Check, Draw, Judge, Live, Merge, Play, Run}

-- the name of a descriptor: `/dev/fd/` and its digits
abbrev pub IsDescriptor : Text → Type 0
IsDescriptor name = (digits : List ℕ) × (name ≡ codes "/dev/fd/" ++ digits) × (digits ≢ []) × All (λ digit. (48 ≤ digit) × (digit ≤ 57)) digits

-- a name that may be given again: what it names has nothing to lose, or is a stream or a terminal
abbrev pub IsDevice : Text → Type 0
IsDevice name = (name ≡ codes "-") ⊎ ((name ≡ codes "/dev/null") ⊎ ((name ≡ codes "/dev/stdin") ⊎ ((name ≡ codes "/dev/stdout")
    ⊎ ((name ≡ codes "/dev/stderr") ⊎ ((name ≡ codes "/dev/tty") ⊎ IsDescriptor name)))))

-- a name that may be given, where a clause reads it
abbrev pub Name : Type 0
Name = Option (Bor Text)

-- standard output is written: no file is named, or that is, by `-`
abbrev pub IsStandard : Name → Type 0
IsStandard None = Unit {0}
IsStandard (Some name) = name.now ≡ codes "-"

-- two names that may be given together: they differ, or are a device's
abbrev pub Apart : Name → Name → Type 0
Apart (Some one) (Some other) = one.now ≡ other.now → IsDevice other.now
Apart (Some one) None = Unit {0}
Apart None other = Unit {0}

-- each output is apart from all inputs, and from each other output
pub record IsEachApart {X : Type 0} (Apart : X → X → Type 0) (inputs outputs : List X) : Type 0 where
  pub from_inputs : All (λ output. All (Apart output) inputs) outputs
  pub from_each_other : AllPairs Apart outputs

-- no output has the name of an input or of another output, but for devices
abbrev pub AreApart : List Name → List Name → Type 0
AreApart inputs outputs = IsEachApart Apart inputs outputs

-- two names that are not both standard input's
abbrev pub ReadOnce : Name → Name → Type 0
ReadOnce (Some one) (Some other) = one.now ≡ codes "-" → other.now ≢ codes "-"
ReadOnce (Some one) None = Unit {0}
ReadOnce None other = Unit {0}

-- standard input is read once at most
abbrev pub AreReadOnce : List Name → Type 0
AreReadOnce inputs = AllPairs ReadOnce inputs

-- the names of the files that are read, and of those that are written
abbrev pub inputs_of : Asked → List Name
inputs_of (Play scenario steps log cert) = Some scenario ∷ steps ∷ None ∷ []
inputs_of (Run run) = Some run.scenario ∷ run.steps ∷ None ∷ []
inputs_of (Live scenario log cert) = Some scenario ∷ None ∷ None ∷ []
inputs_of (Check log cert) = Some log ∷ Some cert ∷ None ∷ []
inputs_of (Judge asked) = Some asked.log ∷ asked.cert ∷ None ∷ []
inputs_of (Certify log cert) = Some log ∷ None ∷ None ∷ []
inputs_of (Draw asked) = Some asked.log ∷ asked.names ∷ asked.cert ∷ []
inputs_of (Merge asked) = asked.parts.items

abbrev pub outputs_of : Asked → List Name
outputs_of (Play scenario steps log cert) = log ∷ cert ∷ None ∷ []
outputs_of (Run run) = run.log ∷ run.cert ∷ run.kept ∷ []
outputs_of (Live scenario log cert) = log ∷ cert ∷ None ∷ []
outputs_of (Check log cert) = None ∷ None ∷ None ∷ []
outputs_of (Judge asked) = None ∷ None ∷ None ∷ []
outputs_of (Certify log cert) = cert ∷ None ∷ None ∷ []
outputs_of (Draw asked) = asked.svg ∷ None ∷ None ∷ []
outputs_of (Merge asked) = asked.log ∷ None ∷ None ∷ []

-- a name is given
abbrev pub IsNamed : Name → Type 0
IsNamed (Some name) = Unit {0}
IsNamed None = ⊥

-- parts are asked for
abbrev pub IsOfParts : Asked → Type 0
IsOfParts (Merge asked) = Unit {0}
IsOfParts _ = ⊥

-- names by which nothing is lost
abbrev pub AreNamedApart : List Name → List Name → Type 0
AreNamedApart inputs outputs = AreApart inputs outputs × AreReadOnce inputs

-- what is asked for loses nothing by its names
abbrev pub IsApart : Asked → Type 0
IsApart asked = AreNamedApart (inputs_of asked) (outputs_of asked)
