-- Folders and sinks as contracts see them: what is read of them, and what was written.
use Rattle.std.specs.Prelude.{◌≡◌, ◌⊎◌, ℕ, ◌+◌, Bool, true, false, List, [], ◌∷◌, ◌++◌, map, Option, Some, None, Vec}
use Rattle.std.specs.Prelude.{unwrap_or, Result, Ok, Err, if◌then◌else◌, ◌<◌, length, option_map}
use Rattle.std.specs.List.{AllByRecursion}
use Rattle.std.specs.declared.alloc.Global.{Global}
use Rattle.mon_value.specs.Same.{same_text}
use Rattle.mon_run.specs.declared.outside.folder.Asked.{Asked}
use Rattle.mon_run.specs.declared.outside.folder.FolderFault.{FolderFault}
use Rattle.mon_run.specs.declared.outside.folder.FolderFault.TheVariants as fault
use Rattle.mon_run.specs.declared.outside.memory_folder.MemoryFile.{MemoryFile}

-- Folders as contracts see them, and what is read of them.

-- ---- files

-- names with contents
abbrev pub Files : Type 0
Files = List (List ℕ × List ℕ)

-- the content of the first file with a name
abbrev pub content_in : Files → List ℕ → Option (List ℕ)
content_in [] name = None
content_in (file ∷ files) name = if same_text name file.0 then Some file.1 else content_in files name

-- the content under a name; a name that isn't there has none, which is the empty content
abbrev pub content_of : Files → List ℕ → List ℕ
content_of files name = unwrap_or (content_in files name) []

-- a file in memory, and the files of a folder in memory
abbrev pub file_of : MemoryFile → List ℕ × List ℕ
file_of file = (file.name, file.content.items)

abbrev pub files_of : List MemoryFile → Files
files_of = map file_of

-- ---- folders

-- A folder: its files, where it tells them beforehand; the reads that it was asked for; what its reads gave, each with
-- the name of its file; the count of its faults; the name of the last read that failed
pub record FolderState : Type 0 where
  pub files : Option Files
  pub asked : List Asked
  pub gave : Files
  pub faults : ℕ
  pub last : List ℕ

-- what holds of the files that a folder tells
abbrev pub Told : FolderState → (Files → Type 0) → Type 0
Told folder claim = (files : Files) → folder.files ≡ Some files → claim files

-- what was read is what these files hold
abbrev pub AreOf : Files → Files → Type 0
AreOf files reads = AllByRecursion (λ read. read.1 ≡ content_of files read.0) reads

-- a read of a name, and whether it failed
abbrev pub asking : List ℕ → Bool → Asked
asking name failed = record { name = name; failed = failed }

-- whether a read failed
abbrev pub is_failed : {T : Type 0} → Result T FolderFault → Bool
is_failed (Ok content) = false
is_failed (Err fault.Failed) = true
is_failed (Err fault.TooLong) = false
is_failed (Err fault.OutOfMemory) = false

-- a read is added to those that were asked for, with whether it failed; where memory ran out it may be missing
abbrev pub Asks : {T : Type 0} → Result T FolderFault → List ℕ → List Asked → List Asked → Type 0
Asks (Ok content) name before after = after ≡ before ++ asking name false ∷ []
Asks (Err fault.Failed) name before after = after ≡ before ++ asking name true ∷ []
Asks (Err fault.TooLong) name before after = after ≡ before ++ asking name false ∷ []
Asks (Err fault.OutOfMemory) name before after = (after ≡ before) ⊎ (after ≡ before ++ asking name false ∷ [])

-- a read gave more than was asked for: a whole file, where the folder tells its files, or so much of it that this shows
pub record GaveTooMuch (most : ℕ) (name : List ℕ) (before after : FolderState) : Type 0 where
  pub content : List ℕ
  pub gave : after.gave ≡ before.gave ++ (name, content) ∷ []
  pub long : most < length content
  pub so : Told before (λ files. content ≡ content_of files name)

-- what reads gave that were logged
abbrev pub given_by : List (List ℕ × Vec ℕ Global) → Files
given_by = map (λ read. (read.0, read.1.items))

-- how many of the reads failed
abbrev pub failed_reads : List Asked → ℕ
failed_reads [] = 0
failed_reads (read ∷ reads) = if read.failed then failed_reads reads + 1 else failed_reads reads

-- the name of the last read that failed, behind the one before
abbrev pub last_failed : List ℕ → List Asked → List ℕ
last_failed name [] = name
last_failed name (read ∷ reads) = last_failed (if read.failed then read.name else name) reads

-- a folder whose faults are the reads that failed
abbrev pub folder_state : Option Files → List Asked → Files → FolderState
folder_state files asked gave =
    record { files = files; asked = asked; gave = gave; faults = failed_reads asked; last = last_failed [] asked }

-- a folder without faults
abbrev pub calm_folder_state : Files → List Asked → Files → FolderState
calm_folder_state files asked gave =
    record { files = Some files; asked = asked; gave = gave; faults = 0; last = [] }

-- Sinks as contracts see them, and what was written.

-- a sink: the bytes that were written, where it tells them; the count of its faults
pub record SinkState : Type 0 where
  pub written : Option (List ℕ)
  pub faults : ℕ

abbrev pub sink_state : Option (List ℕ) → ℕ → SinkState
sink_state written faults = record { written = written; faults = faults }

-- what was written, and a text behind it
abbrev pub written_then : List ℕ → Option (List ℕ) → Option (List ℕ)
written_then text written = option_map (λ bytes. bytes ++ text) written

-- a sink took a text
abbrev pub Takes : List ℕ → SinkState → SinkState → Type 0
Takes text before after = after.written ≡ written_then text before.written

-- a sink took the front of a text, and not all of it
pub record TakesFront (text : List ℕ) (before after : SinkState) : Type 0 where
  pub front : List ℕ
  pub rest : List ℕ
  pub split : text ≡ front ++ rest
  pub some : 0 < length rest
  pub takes : Takes front before after
