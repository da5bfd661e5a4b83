use Rattle.std.proofs.Common.{rules, ◌≡◌, ◌<◌, ◌≤◌, ◌+◌, ℕ, ℤ, List, Some, length, take, drop, set}
use Rattle.std.proofs.Common.{to_z, of_z, w64, subst, sym}
use Rattle.std.specs.List.{AllByRecursion}
use Rattle.standing.specs.DueLists.{HasPeriod}
use Rattle.standing.specs.QuietMoments.{AreQuiet, IsQuietUntil}
use Rattle.standing.specs.declared.queries.StandingQuery.{StandingQuery}
use Rattle.standing.proofs.BlockLemmas.{Settled, all_dropped, all_taken, left_more, none_left}
use Rattle.standing.proofs.BlockLemmas.{settled_all, settled_more}
use Rattle.standing.proofs.blocks.settle.Goals as goal

pub next_behind-next-requires-clause-lawful : goal.next_behind-next-requires-clause-lawful
next_behind-next-requires-clause-lawful c =
    subst (AllByRecursion HasPeriod) (sym c.split_block.ensures.block)
    (all_taken HasPeriod 64 c.loop-i.rest.now c.loop-i.invariant.lawful)

pub loop-i-preserved : goal.loop-i-preserved
loop-i-preserved c =
    let nexts : List ℕ = c.loop-i.nexts in
    let i : ℕ = c.loop-i.i in
    let next : ℕ = c.next_behind-next.result in
    let rest : List StandingQuery = c.loop-i.rest.now in
    let queries : List StandingQuery = c.args.queries.now in
    let moment : ℤ = to_z w64 (of_z w64 c.args.moment) in
    let inside : i < length nexts = search rules in
    let put : set nexts i next ≡ c.put_next.new.nexts = sym c.put_next.ensures.put in
    let after : List ℕ = c.put_next.new.nexts in
    let behind : drop 64 rest ≡ c.split_block.result.1.now = sym c.split_block.ensures.behind in
    let here : AllByRecursion (IsQuietUntil (Some moment) next) (take 64 rest) =
    subst (AllByRecursion (IsQuietUntil (Some moment) next)) c.split_block.ensures.block
    c.next_behind-next.ensures.quiet in
    record {
      number = search rules;
      lawful = subst (AllByRecursion HasPeriod) behind (all_dropped HasPeriod 64 rest c.loop-i.invariant.lawful);
      left = subst (λ (qs : List StandingQuery). AreQuiet c.args.last (drop (i + 1) c.put_next.new.nexts) qs) behind
          (subst (λ (ns : List ℕ). AreQuiet c.args.last (drop (i + 1) ns) (drop 64 rest)) put
          (left_more c.args.last nexts i next rest inside c.loop-i.invariant.left));
      settled = subst (λ (qs : List StandingQuery). Settled (Some moment) (take (i + 1) after) qs queries)
          behind (subst (λ (ns : List ℕ). Settled (Some moment) (take (i + 1) ns) (drop 64 rest) queries) put
          (settled_more (Some moment) nexts i next rest queries inside here c.loop-i.invariant.settled));
    }

pub returns : goal.returns
returns c =
    let nexts : List ℕ = c.loop-i.nexts in
    let i : ℕ = c.loop-i.i in
    let queries : List StandingQuery = c.args.queries.now in
    let moment : ℤ = to_z w64 (of_z w64 c.args.moment) in
    let same : moment ≡ c.args.moment = search rules in
    let all : length nexts ≤ i = search rules in
    record {
      quiet = subst (λ (z : ℤ). AreQuiet (Some z) nexts queries) same
          (settled_all (Some moment) nexts i c.loop-i.rest.now queries all
          (none_left c.args.last nexts i c.loop-i.rest.now all c.loop-i.invariant.left) c.loop-i.invariant.settled);
    }
