use Rattle.std.proofs.Common.{refl, true}
use Rattle.mon_run.proofs.ReadLemmas.{counts_noted, failed_noted}
use Rattle.mon_run.specs.Outside.{asking}
use Rattle.mon_run.proofs.outside.memory_folder.MemoryFolderFolder.read.Goals as goal

pub returns-in-Err-OutOfMemory-clause-counts : goal.returns-in-Err-OutOfMemory-clause-counts
returns-in-Err-OutOfMemory-clause-counts c =
    counts_noted _ _ _ _ c.reserve_one.ensures.asked c.gave_nothing.ensures.asked

pub returns-in_default-clause-counts : goal.returns-in_default-clause-counts
returns-in_default-clause-counts c = counts_noted _ _ _ _ c.reserve_one.ensures.asked c.gave.ensures.asked

pub returns-in-None-clause-counts : goal.returns-in-None-clause-counts
returns-in-None-clause-counts c =
    counts_noted _ _ _ _ c.reserve_one.ensures.asked c.gave_nothing-in-None.ensures.asked

pub returns-in-None-clause-failed : goal.returns-in-None-clause-failed
returns-in-None-clause-failed c = λ failed.
    failed_noted c.args.self.now.reads.asked.items c.reserve_one.new.self.asked.items
    c.gave_nothing-in-None.new.self.asked.items (asking c.in_ok-kept.kept true) c.args.name.now
    c.reserve_one.ensures.asked c.gave_nothing-in-None.ensures.asked refl c.in_ok-kept.ensures.bytes
