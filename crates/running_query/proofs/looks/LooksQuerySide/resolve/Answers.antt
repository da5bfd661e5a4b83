use Rattle.std.proofs.Common.{List, subst, length}
use Rattle.mon_topo.specs.Zones.{leaves_in}
use Rattle.mon_value.specs.declared.positions.Leaf.{Leaf}
use Rattle.running_query.proofs.AnswerLemmas.{free_now, range_answered, range_there}
use Rattle.running_query.specs.Telling.{FindsSo}
use Rattle.running_query.proofs.looks.LooksQuerySide.resolve.Goals as goal

pub find-requires : goal.find-requires
find-requires g c =
    let s = c.requires.asked.somewhere in
    let setting = c.args.machine.now.setting in
    record {
      there = range_there g.N.Names.setting g.N.RaiseName.raise setting c.args._moment s.entry c.args.caller.now
          c.args.machine.now s.under_way c.args.range c.requires.asked.asks;
      none = free_now g.N.Names.setting g.N.RaiseName.raise setting c.args._moment s.entry c.args.caller.now
          c.args.machine.now s.under_way;
    }

pub returns-clause-told : goal.returns-clause-told
returns-clause-told g c =
    let s = c.requires.asked.somewhere in
    range_answered g.N.Names.setting g.N.RaiseName.raise c.args.machine.now.setting c.args._moment s.entry
    c.args.caller.now c.args.machine.now s.under_way c.find.new.know c.find.ensures.goes c.find.result c.args.range
    (subst (λ (avoid : List Leaf). FindsSo (length (leaves_in g.N.Names.setting.zones)) c.args.caller.now
    c.find.new.know avoid c.args.range c.find.result) c.avoided.ensures.avoided c.find.ensures.finds)
