-- the counts so far and what is left are the largest total
use Rattle.std.proofs.Common.{◌≡◌, ◌+◌, take, sum}
use Rattle.mon_schema.proofs.rows.is_total_small.Given as goal

abbrev pub invariant-loop-count : goal.invariant-loop-count
invariant-loop-count l = l.left + sum (take l.count-index l.counts) ≡ 9223372036854775807
