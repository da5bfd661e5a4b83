use Rattle.std.proofs.Common.{◌≡◌, ◌∙◌, ◌<◌, ◌≤◌, ◌/◌, ◌*◌, ◌+◌, ◌++◌, ◌∷◌, [], ℕ, List, length, take, drop, set}
use Rattle.std.proofs.Common.{min, get_or, subst, sym, ap, arith}
use Rattle.std.proofs.lemmas.List.{length-set, take_at}
use Rattle.std.proofs.Math.Nat.{min-le_left, min-le_right}
use Rattle.standing.specs.QuietMoments.{AreQuiet, IsQuietUntil}
use Rattle.standing.specs.declared.queries.StandingQuery.{StandingQuery}
use Rattle.standing.proofs.BlockLemmas.{noted}
use Rattle.standing.proofs.QuietLemmas.{lower}
use Rattle.standing.proofs.blocks.note.Goals as goal

pub returns : goal.returns
returns c =
    let queries : List StandingQuery = c.args.queries.now in
    let query : StandingQuery = c.args.query.now in
    let nexts : List ℕ = c.open_block.new.nexts.items in
    let block : ℕ = length queries / 64 in
    let next : ℕ = c.next_of.result in
    let least : ℕ = min (get_or nexts block 0) next in
    let seen : c.as_mut_slice.result.now ≡ nexts = c.as_mut_slice.ensures.value in
    let lowered : c.lower.new.nexts ≡ set nexts block least = c.lower.ensures.lowered
    ∙ ap (λ (ns : List ℕ). set ns block (min (get_or ns block 0) next)) seen in
    let number : length c.lower.new.nexts ≡ c.open_block.new.nexts.len =
    ap length lowered ∙ length-set nexts block least ∙ sym (ap length seen) ∙ c.as_mut_slice.ensures.len in
    let written : take c.open_block.new.nexts.len (c.lower.new.nexts ++ drop (length c.lower.new.nexts) nexts)
    ≡ set nexts block least =
    take_at c.lower.new.nexts (drop (length c.lower.new.nexts) nexts) c.open_block.new.nexts.len number ∙ lowered in
    let room : length queries < 64 * length nexts = c.open_block.ensures.room in
    let there : block < length nexts = omega (arith, room) in
    let from : 64 * block ≤ length queries = omega arith in
    let below : length queries < 64 * (block + 1) = omega arith in
    let quiet : IsQuietUntil c.args.last least query =
    lower c.args.last next least query (min-le_right (get_or nexts block 0) next) c.next_of.ensures.quiet in
    record {
      quiet = subst (λ (ns : List ℕ). AreQuiet c.args.last ns (queries ++ query ∷ [])) (sym written)
          (noted c.args.last nexts block least queries query there from below (min-le_left (get_or nexts block 0) next)
          quiet c.open_block.ensures.quiet);
    }
