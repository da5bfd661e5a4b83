-- Lists whose items are lent to be written.
use Rattle.std.proofs.Common.{◌≡◌, List, length, drop}
use Rattle.std.proofs.lemmas.List.{take_at}
use Rattle.mon_value.specs.ListLends.{items_written}

-- where as many items are written as there were, they are all
pub items_written-all : {T : Type 0} (items written : List T) → length written ≡ length items → items_written items
    written ≡ written
items_written-all items written alike = take_at written (drop (length written) items) (length items) alike
