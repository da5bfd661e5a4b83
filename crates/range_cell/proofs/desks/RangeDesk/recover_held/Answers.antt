use Rattle.std.proofs.Common.{◌≡◌, ◌<◌, ℕ, List, length, sym, subst, ◌∙◌}
use Rattle.std.specs.List.{AllByRecursion}
use Rattle.history_book.specs.Seats.{times_range}
use Rattle.mon_topo.specs.RangeHistories.{left_rows, serving}
use Rattle.mon_topo.specs.Zones.{leaves_in}
use Rattle.mon_value.specs.Histories.{leaf_history}
use Rattle.mon_value.specs.LeafHistories.{kept_rows}
use Rattle.mon_value.specs.declared.positions.Range.{Range}
use Rattle.mon_value.specs.declared.positions.SlotLeaf.{SlotLeaf}
use Rattle.owners.specs.Puts.{pass_of}
use Rattle.range_cell.proofs.HoldingLemmas.{ended_short, ended_there, looked_so}
use Rattle.range_cell.proofs.LookingLemmas.{holds_on, same_pass}
use Rattle.range_cell.specs.Calls.{HasGivenBack}
use Rattle.range_cell.specs.Recoveries.{HasEndedThere, after_copying}
use Rattle.range_cell.specs.Rest.{HaveJust}
use Rattle.range_cell.proofs.desks.RangeDesk.recover_held.Goals as goal

pub copied-requires : goal.copied-requires
copied-requires g c =
    let serve : c.as_slice.result.now ≡ serving c.args.self.now.replay.history =
    c.as_slice.ensures.items ∙ c.requires.serve in
    record {
      serve = serve;
      there = subst (AllByRecursion (λ (x : SlotLeaf). x.leaf.0 < length (leaves_in g.N.Names.setting.zones)))
          (sym serve) c.requires.holding.there;
      held = c.requires.holding.held;
      kept = subst (AllByRecursion (λ (x : SlotLeaf). kept_rows c.args.range x.slot
          (leaf_history c.args.know.now.seen x.leaf) ≡ left_rows c.args.self.now.replay.history)) (sym serve)
          c.requires.holding.kept;
    }

pub open_there-requires : goal.open_there-requires
open_there-requires g c =
    let history = c.args.self.now.replay.history in
    let serve : c.as_slice.result.now ≡ serving history = c.as_slice.ensures.items ∙ c.requires.serve in
    record {
      held = c.requires.held;
      range = c.requires.range;
      room = c.requires.room;
      rows = c.in-Ok.ensures.rows;
      some = subst (λ (xs : List SlotLeaf). 0 < length xs) serve c.in-Ok.ensures.some;
      holding = holds_on g.N.Names.setting c.args.range c.args.leaf history (after_copying history c.args.know.now)
          c.args.know.now c.copied.new.know c.requires.holding c.in-Ok.ensures.copied;
    }

pub returns-in-Ok-clause-ended : goal.returns-in-Ok-clause-ended
returns-in-Ok-clause-ended g c =
    let leaves = g.N.BookName.book.leaves in
    let know = c.args.know.now in
    let mid = c.copied.new.know in
    let history = c.args.self.now.replay.history in
    ended_there leaves c.args.range c.args.leaf history (pass_of know) know mid c.open_there.new.know
    c.open_there.result c.in-Ok.ensures.source c.in-Ok.ensures.copied
    (subst (λ (n : ℕ). HasEndedThere leaves c.args.range c.args.leaf history n mid c.open_there.new.know
    c.open_there.result)
    (same_pass g.N.Names.setting c.args.range c.args.leaf history (after_copying history know) know mid
    c.requires.holding c.in-Ok.ensures.copied) c.open_there.ensures.ended)

pub give_back-requires : goal.give_back-requires
give_back-requires g c =
    let know = c.args.know.now in
    let mid = c.copied.new.know in
    let history = c.args.self.now.replay.history in
    let looked = looked_so c.args.range history know mid c.in-Err.fault c.in-Err.ensures.refused in
    let holding = holds_on g.N.Names.setting c.args.range c.args.leaf history looked.0 know mid c.requires.holding
    looked.1 in
    record {
      held = c.requires.held;
      holds = subst (λ (r : Range). 0 < times_range r mid.purse.holds) c.requires.range holding.held;
      turns = subst (λ (r : Range). HaveJust mid.seen r history) c.requires.range holding.just;
    }

pub returns-clause-ended : goal.returns-clause-ended
returns-clause-ended g c =
    let leaves = g.N.BookName.book.leaves in
    let know = c.args.know.now in
    let mid = c.copied.new.know in
    let history = c.args.self.now.replay.history in
    ended_short leaves c.args.range c.args.leaf history (pass_of know) know mid c.give_back.new.know c.in-Err.fault
    c.in-Err.ensures.refused
    (subst (λ (r : Range). HasGivenBack leaves r history mid c.give_back.new.know) (sym c.requires.range)
    (record { met = c.give_back.ensures.met; whole = c.give_back.ensures.whole }))
