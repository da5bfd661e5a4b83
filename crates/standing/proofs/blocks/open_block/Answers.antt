use Rattle.std.proofs.Common.{◌≡◌, ◌∙◌, ◌+◌, ℕ, List, length, subst, sym, ap, arith}
use Rattle.std.proofs.lemmas.List.{length_push}
use Rattle.standing.specs.QuietMoments.{AreQuiet}
use Rattle.standing.proofs.BlockLemmas.{covered, opened}
use Rattle.standing.proofs.blocks.open_block.Goals as goal

pub returns-then-len-queries-clause-quiet : goal.returns-then-len-queries-clause-quiet
returns-then-len-queries-clause-quiet c =
    subst (λ (nexts : List ℕ). AreQuiet c.args.last nexts c.args.queries.now) (sym c.push_reserved.ensures.items)
    (opened c.args.last c.args.nexts.now.items _ c.args.queries.now c.requires.quiet)

pub returns-then-len-queries-clause-room : goal.returns-then-len-queries-clause-room
returns-then-len-queries-clause-room c =
    let nexts : List ℕ = c.args.nexts.now.items in
    let more : length c.push_reserved.new.self.items ≡ length nexts + 1 =
    ap length c.push_reserved.ensures.items ∙ length_push nexts _ in
    omega (arith, more, covered c.args.last nexts c.args.queries.now c.requires.quiet)
