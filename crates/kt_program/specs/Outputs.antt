-- What an output tells, and where texts go.
use Rattle.std.specs.Prelude.{◌≡◌, ◌⊎◌, ℕ, List, [], ◌∷◌, None}
use Rattle.std.specs.Io.KnownBytes.{Appends}
use Rattle.kt_run.specs.declared.recorded.Keep.{Keep}
use Rattle.kt_run.specs.declared.recorded.Keep.TheVariants.{Log, Steps}
use Rattle.kt_program.specs.declared.fault.AppFault.TheVariants as app
use Rattle.kt_program.specs.declared.fault.ProgramFault.{ProgramFault}
use Rattle.kt_program.specs.declared.fault.ProgramFault.TheVariants as program
use Rattle.kt_program.specs.declared.outputs.Output.{Output}
use Rattle.kt_program.specs.declared.outputs.Outputs.{Outputs}
use Rattle.kt_program.specs.declared.outputs.Output.TheVariants.{File, Nowhere}
use Rattle.kt_program.specs.Files.{OpenedFile}
use Rattle.kt_program.specs.Names.{IsStandard, Name}
use Rattle.kt_program.specs.Stored.{BytesTold}

-- what the file of an output tells; nothing where none is asked for
abbrev pub contents_of : {W : Type 0} → (W → BytesTold) → Output W → BytesTold
contents_of told (File file) = told file.file
contents_of told (Nowhere sink) = None

-- which regular file an output is, where that is told
abbrev pub number_of : {W : Type 0} → Output W → OpenedFile
number_of (File file) = file.number
number_of (Nowhere sink) = None

-- what of a run is kept for an output that takes its steps
abbrev pub keep_for : {W : Type 0} → Output W → Keep
keep_for (File file) = Steps
keep_for (Nowhere sink) = Log

-- which files a command's outputs are, standard output too where it is written
abbrev pub files_of : {W : Type 0} → Outputs W → List OpenedFile
files_of outputs = number_of outputs.log ∷ number_of outputs.cert ∷ number_of outputs.kept ∷ outputs.printed ∷ []

-- a text goes to standard output where no file is named for it
abbrev pub TextGoesTo : Name → List ℕ → BytesTold → BytesTold → Type 0
TextGoesTo name text old new = (IsStandard name × Appends old new text) ⊎ ((¬ IsStandard name) × (new ≡ old))

-- a fault of a file that appears whole: it is one that was read, it can't be written, or there is no memory for its names
abbrev pub IsOfWhole : ProgramFault → Type 0
IsOfWhole fault = (fault ≡ program.SameFile) ⊎ ((fault ≡ program.App app.Write) ⊎ (fault ≡ program.App app.Memory))
