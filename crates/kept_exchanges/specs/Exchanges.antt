-- Rows that come to a table, in the place of others or beside them.
use Rattle.std.specs.Prelude.{List, ◌∷◌, ◌++◌, map, IsPermutation}
use Rattle.std.specs.Option.{option_to_list}
use Rattle.std.specs.List.{filter_map}
use Rattle.mon_value.specs.declared.tables.TimedRow.{TimedRow}
use Rattle.kept_exchanges.specs.declared.exchanges.Exchange.{Exchange}

-- the rows that go
abbrev pub gones : List Exchange → List TimedRow
gones exchanges = filter_map (λ exchange. exchange.gone) exchanges

-- the rows that come
abbrev pub comes : List Exchange → List TimedRow
comes exchanges = map (λ exchange. exchange.come) exchanges

-- whatever others there are, rows have what comes in the place of what goes
abbrev pub IsOneExchanged : Exchange → List TimedRow → List TimedRow → Type 0
IsOneExchanged exchange before after =
    (rest : List TimedRow) → IsPermutation (option_to_list exchange.gone ++ rest) before
    → IsPermutation (exchange.come ∷ rest) after

abbrev pub IsExchanged : List Exchange → List TimedRow → List TimedRow → Type 0
IsExchanged exchanges before after =
    (rest : List TimedRow) → IsPermutation (gones exchanges ++ rest) before
    → IsPermutation (comes exchanges ++ rest) after
