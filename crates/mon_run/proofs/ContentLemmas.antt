-- The content under a name, as a search through the files finds it.
use Rattle.std.proofs.Common.{◌≡◌, ◌∙◌, ap, ℕ, Bool, true, false, cond, List, ◌∷◌, Some}
use Rattle.mon_value.specs.Same.{same_text}
use Rattle.mon_run.specs.Outside.{content_in, files_of}
use Rattle.mon_run.specs.declared.outside.memory_folder.MemoryFile.{MemoryFile}

-- the file in front has the name
pub content-here : (files rest : List MemoryFile) (file : MemoryFile) (name : List ℕ) → files ≡ file ∷ rest
    → same_text name file.name ≡ true →
    content_in (files_of files) name ≡ Some file.content.items
content-here files rest file name front same =
    ap (λ (l : List MemoryFile). content_in (files_of l) name) front
    ∙ ap (λ (b : Bool). cond b (Some file.content.items) (content_in (files_of rest) name)) same

-- it has another
pub content-later : (files rest : List MemoryFile) (file : MemoryFile) (name : List ℕ) → files ≡ file ∷ rest
    → same_text name file.name ≡ false →
    content_in (files_of files) name ≡ content_in (files_of rest) name
content-later files rest file name front other =
    ap (λ (l : List MemoryFile). content_in (files_of l) name) front
    ∙ ap (λ (b : Bool). cond b (Some file.content.items) (content_in (files_of rest) name)) other
