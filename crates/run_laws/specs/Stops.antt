-- What a run says that ended before its last line: a file that could not be read, or one that is too long.
use Rattle.std.specs.Prelude.{◌≡◌, ℕ, true, List, [], ◌∷◌, ◌++◌, Option}
use Rattle.mon_value.specs.declared.histories.Histories.{Histories}
use Rattle.mon_run.specs.Endings.{Progress, Runs}
use Rattle.mon_run.specs.Outside.{Files, asking, written_then}
use Rattle.mon_run.specs.Steps.{is_too_long, read_text, too_long_text}
use Rattle.mon_run.specs.declared.outside.folder.Asked.{Asked}

-- a file could not be read: its name was asked for last, and the text says so at its end
pub record CouldNotRead (before after : Progress) : Type 0 where
  pub name : List ℕ
  pub last : after.folder.last ≡ name
  pub earlier : List Asked
  pub asked : after.folder.asked ≡ earlier ++ asking name true ∷ []
  pub text : List ℕ
  pub wrote : after.sink.written ≡ written_then (text ++ read_text name) before.sink.written

-- a file was too long: its read was the last that gave something, and the text says so at its end
pub record WasTooLong (before after : Progress) : Type 0 where
  pub name : List ℕ
  pub content : List ℕ
  pub long : is_too_long content ≡ true
  pub earlier : Files
  pub gave : after.folder.gave ≡ earlier ++ (name, content) ∷ []
  pub text : List ℕ
  pub wrote : after.sink.written ≡ written_then (text ++ too_long_text name) before.sink.written

-- the status is 4
abbrev pub ReadsFailed : Type 0
ReadsFailed = (words : List (List ℕ)) (ended : Option Histories) (before after : Progress)
    → Runs words 4 ended before after → CouldNotRead before after

-- the status is 8
abbrev pub FilesTooLong : Type 0
FilesTooLong = (words : List (List ℕ)) (ended : Option Histories) (before after : Progress)
    → Runs words 8 ended before after → WasTooLong before after
