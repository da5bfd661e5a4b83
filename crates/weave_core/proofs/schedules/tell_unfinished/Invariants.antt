-- the lines of the actors so far
use Rattle.std.proofs.Common.{◌≡◌, ◌++◌, string_bytes}
use Rattle.std.specs.List.{flat_map, range_with_len}
use Rattle.mon_config.specs.declared.config.Config.{Config}
use Rattle.weave_core.specs.ActorAgreements.{Agrees}
use Rattle.weave_core.specs.Schedules.{unfinished_line}
use Rattle.weave_core.specs.States.{State}
use Rattle.core_store.specs.Agreements.{store_of}
use Rattle.weave_core.proofs.schedules.tell_unfinished.Given as goal

abbrev pub invariant-loop-number : goal.invariant-loop-number
invariant-loop-number l =
    (config : Config) (state : State (store_of config)) → Agrees config l.weave state
    → string_bytes l.out
    ≡ string_bytes l.fn.out ++ flat_map (unfinished_line (store_of config) state) (range_with_len 1 l.number)
