-- Why a line of a schedule is refused, as it is printed.
use Rattle.std.specs.Prelude.{ℕ, List, ◌++◌, codes}
use Rattle.std.specs.Fmt.{decimal}
use Rattle.schedule_lines.specs.declared.calls.ScheduleFault.{ScheduleFault}
use Rattle.schedule_lines.specs.declared.calls.WeaveFault.{WeaveFault}
use Rattle.schedule_lines.specs.declared.calls.WeaveFault.TheVariants as fault

-- why a line is refused
abbrev pub weave_fault_text : WeaveFault → List ℕ
weave_fault_text fault.NoActor = codes "NoActor"
weave_fault_text fault.Finished = codes "Finished"
weave_fault_text fault.BadLine = codes "BadLine"

-- the line that is refused, and why
abbrev pub schedule_fault_text : ScheduleFault → List ℕ
schedule_fault_text refused =
    codes "line " ++ (decimal refused.line ++ (codes ": " ++ weave_fault_text refused.fault))
