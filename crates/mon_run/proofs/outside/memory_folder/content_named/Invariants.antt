-- the files so far have other names, so it is the content in what is left
use Rattle.std.proofs.Common.{◌≡◌, drop}
use Rattle.mon_run.specs.Outside.{content_in, files_of}
use Rattle.mon_run.proofs.outside.memory_folder.content_named.Given as goal

abbrev pub invariant-loop-file : goal.invariant-loop-file
invariant-loop-file l = content_in (files_of l.files) l.name ≡ content_in (files_of (drop l.file-index l.files)) l.name
