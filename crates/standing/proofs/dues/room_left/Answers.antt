use Rattle.std.proofs.Common.{rules, ◌≡◌, ◌<◌, ◌≤◌, ◌+◌, [], ℕ, ℤ, List, length, take, drop, to_z, of_z, w64}
use Rattle.std.proofs.Common.{subst, ap, sym, arith}
use Rattle.std.specs.List.{AllByRecursion}
use Rattle.standing.specs.DueLists.{HasPeriod, due_count}
use Rattle.standing.specs.QuietMoments.{AreQuiet}
use Rattle.standing.specs.declared.queries.StandingQuery.{StandingQuery}
use Rattle.standing.proofs.BlockLemmas.{all_dropped, all_taken, count_split, none_left, of_next}
use Rattle.standing.proofs.dues.room_left.Goals as goal

pub room_behind-requires-clause-lawful : goal.room_behind-requires-clause-lawful
room_behind-requires-clause-lawful c =
    subst (AllByRecursion HasPeriod) (sym c.split_block.ensures.block)
    (all_taken HasPeriod 64 c.loop-next.rest.now c.loop-next.invariant.lawful)

pub returns-in_err-room : goal.returns-in_err-room
returns-in_err-room c =
    let queries : List StandingQuery = c.args.queries.now in
    let rest : List StandingQuery = c.loop-next.rest.now in
    let moment : ℤ = to_z w64 (of_z w64 c.args.moment) in
    let same : moment ≡ c.args.moment = search rules in
    let count : List StandingQuery → ℕ = due_count c.args.last moment in
    let here : count c.split_block.result.0.now ≡ count (take 64 rest) = ap count c.split_block.ensures.block in
    let more : c.loop-next.room < count c.split_block.result.0.now = c.in_err-room.ensures.left in
    let split : count (take 64 rest) + count (drop 64 rest) ≡ count rest = count_split c.args.last moment rest in
    let so_far : c.loop-next.room + count queries ≡ 1000 + count rest = c.loop-next.invariant.room in
    let many : 1000 < count queries = omega (arith, here, more, split, so_far) in
    let all : 1000 < due_count c.args.last c.args.moment queries =
    subst (λ (z : ℤ). 1000 < due_count c.args.last z queries) same many in
    search rules

pub loop-next-preserved : goal.loop-next-preserved
loop-next-preserved c =
    let queries : List StandingQuery = c.args.queries.now in
    let rest : List StandingQuery = c.loop-next.rest.now in
    let nexts : List ℕ = c.args.nexts.now in
    let i : ℕ = c.loop-next.next-index in
    let moment : ℤ = to_z w64 (of_z w64 c.args.moment) in
    let count : List StandingQuery → ℕ = due_count c.args.last moment in
    let there : i < length nexts = search rules in
    let back : drop 64 rest ≡ c.split_block.result.1.now = sym c.split_block.ensures.behind in
    let here : count c.split_block.result.0.now ≡ count (take 64 rest) = ap count c.split_block.ensures.block in
    let behind : count c.split_block.result.1.now ≡ count (drop 64 rest) = ap count c.split_block.ensures.behind in
    let left : c.in_ok-room.room + count c.split_block.result.0.now ≡ c.loop-next.room = c.in_ok-room.ensures.left in
    let split : count (take 64 rest) + count (drop 64 rest) ≡ count rest = count_split c.args.last moment rest in
    let so_far : c.loop-next.room + count queries ≡ 1000 + count rest = c.loop-next.invariant.room in
    record {
      lawful = subst (AllByRecursion HasPeriod) back (all_dropped HasPeriod 64 rest c.loop-next.invariant.lawful);
      quiet = subst (AreQuiet c.args.last (drop (i + 1) nexts)) back
          (of_next c.args.last nexts i 0 rest there c.loop-next.invariant.quiet).1;
      room = omega (arith, here, behind, left, split, so_far);
    }

pub returns : goal.returns
returns c =
    let queries : List StandingQuery = c.args.queries.now in
    let rest : List StandingQuery = c.loop-next.rest.now in
    let moment : ℤ = to_z w64 (of_z w64 c.args.moment) in
    let same : moment ≡ c.args.moment = search rules in
    let all : length c.args.nexts.now ≤ c.loop-next.next-index = search rules in
    let none : rest ≡ [] = none_left c.args.last c.args.nexts.now c.loop-next.next-index rest all
    c.loop-next.invariant.quiet in
    let nothing : due_count c.args.last moment rest ≡ 0 = ap (due_count c.args.last moment) none in
    let so_far : c.loop-next.room + due_count c.args.last moment queries ≡ 1000 + due_count c.args.last moment rest =
    c.loop-next.invariant.room in
    let left : c.loop-next.room + due_count c.args.last moment queries ≡ 1000 = omega (arith, nothing, so_far) in
    record {
      left = subst (λ (z : ℤ). c.loop-next.room + due_count c.args.last z queries ≡ 1000) same left;
    }
