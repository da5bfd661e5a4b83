use Rattle.std.proofs.Common.{refl, true}
use Rattle.mon_run.proofs.ReadLemmas.{counts_noted, failed_noted}
use Rattle.mon_run.specs.Outside.{asking}
use Rattle.mon_run.proofs.outside.file_folder.FileFolderFolder.read.Goals as goal

pub returns-in-Ok-Some-clause-counts : goal.returns-in-Ok-Some-clause-counts
returns-in-Ok-Some-clause-counts g c = counts_noted _ _ _ _ c.reserve_one.ensures.asked c.gave.ensures.asked

pub returns-in-Ok-None-clause-counts : goal.returns-in-Ok-None-clause-counts
returns-in-Ok-None-clause-counts g c =
    counts_noted _ _ _ _ c.reserve_one.ensures.asked c.gave_nothing.ensures.asked

pub returns-in-Ok-None-clause-failed : goal.returns-in-Ok-None-clause-failed
returns-in-Ok-None-clause-failed g c = λ failed.
    failed_noted c.args.self.now.reads.asked.items c.reserve_one.new.self.asked.items
    c.gave_nothing.new.self.asked.items (asking c.in_ok-kept.kept true) c.args.name.now
    c.reserve_one.ensures.asked c.gave_nothing.ensures.asked refl c.in_ok-kept.ensures.bytes

pub returns-in-Err-clause-counts : goal.returns-in-Err-clause-counts
returns-in-Err-clause-counts g c =
    counts_noted _ _ _ _ c.reserve_one.ensures.asked c.gave_nothing-in-Err.ensures.asked
