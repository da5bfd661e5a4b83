use Rattle.run_traces.proofs.Kept.{lines_kept}
use Rattle.run_traces.proofs.laws.parts_keep_the_lines.Goals as goal

pub returns : goal.returns
returns c = record { kept = lines_kept }
