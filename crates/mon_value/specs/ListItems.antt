-- The items of a list one after another.
use Rattle.std.specs.Prelude.{◌≡◌, ◌^◌, ◌<◌, List, length}
use Rattle.std.specs.Iterator.Runs.{EveryRun, ItemsAre, ItemsMapTo}
use Rattle.std.specs.Slice.Iter.{iter_rest, iter_steps}
use Rattle.std.specs.Vec.Iter.{into_iter_items, into_iter_len, into_iter_steps}
use Rattle.std.specs.declared.alloc.Global.{Global}
use Rattle.std.specs.declared.slice.Iter.{Iter}
use Rattle.std.specs.declared.vec.IntoIter.{IntoIter}

-- an iterator that lends the items in their order
abbrev pub LendsInOrder : {T : Type 0} → List T → Iter T → Type 0
LendsInOrder {T} list items =
    (iter_rest items ≡ list) × (length (iter_rest items) < 2 ^ 64)
    × EveryRun (iter_steps {A = T}) (λ run. ItemsMapTo run (λ item. item.now) (iter_rest run.from))

-- an iterator that gives the items in their order
abbrev pub GivesInOrder : {T : Type 0} → List T → IntoIter T Global → Type 0
GivesInOrder {T} list items =
    (into_iter_items items ≡ list) × (into_iter_len items ≡ length list) × (into_iter_len items < 2 ^ 64)
    × EveryRun (into_iter_steps {X = T} {Z = Global}) (λ run. ItemsAre run (into_iter_items run.from))
