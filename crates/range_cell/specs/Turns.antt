-- What a write tells its machine of a leaf.
use Rattle.std.specs.Prelude.{[]}
use Rattle.know.specs.declared.answers.Found.{Found}
use Rattle.know.specs.declared.answers.Found.TheVariants as found
use Rattle.write_core.specs.Program.{Stage, after}
use Rattle.write_core.specs.declared.asks.WriteTold.{WriteTold}
use Rattle.write_core.specs.declared.asks.WriteTold.TheVariants as told

abbrev pub told_of : Found → WriteTold
told_of found.Up = told.Up []
told_of (found.Down cut) = told.Down cut

-- what the machine is told of a put: that it was let in, and then that it is done
abbrev pub after_put : Stage → Found → Stage
after_put stage found.Up = after (after stage (told.Up [])) told.Done
after_put stage (found.Down cut) = after stage (told.Down cut)
