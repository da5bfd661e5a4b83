-- the text so far is that of the first count, and then those that the loop has taken
use Rattle.std.proofs.Common.{◌≡◌, ◌++◌, ◌∷◌, take, string_bytes}
use Rattle.std.specs.Fmt.{decimal}
use Rattle.std.specs.List.{flat_map}
use Rattle.mon_value.specs.Values.{semicolon}
use Rattle.mon_value.proofs.values.counts_text.Given as goal

abbrev pub invariant-loop-count : goal.invariant-loop-count
invariant-loop-count l = string_bytes l.text ≡ string_bytes l.initial.text ++ flat_map (λ n. semicolon ∷ decimal n)
    (take l.count-index l.rest)
