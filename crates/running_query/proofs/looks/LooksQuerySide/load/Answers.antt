use Rattle.running_query.proofs.AnswerLemmas.{few_seen, word_answered, word_there}
use Rattle.running_query.proofs.looks.LooksQuerySide.load.Goals as goal
use Rattle.mon_value.proofs.PlainLemmas.{if_ok_on}

pub load-requires : goal.load-requires
load-requires g c =
    let s = c.requires.asked.somewhere in
    let setting = c.args._machine.now.setting in
    record {
      there = word_there g.N.Names.setting g.N.RaiseName.raise setting c.args._moment s.entry c.args.caller.now
          c.args._machine.now s.under_way c.args.place c.args.bucket c.requires.asked.asks;
      few = few_seen g.N.Names.setting g.N.RaiseName.raise setting c.args._moment s.entry c.args.caller.now
          c.args._machine.now s.under_way;
    }

pub returns-clause-told : goal.returns-clause-told
returns-clause-told g c =
    let s = c.requires.asked.somewhere in
    if_ok_on _ _ (λ told is.
    word_answered g.N.Names.setting g.N.RaiseName.raise c.args._machine.now.setting c.args._moment s.entry
    c.args.caller.now c.args._machine.now s.under_way c.load.new.know c.load.ensures.goes told c.args.place
    c.args.bucket is) c.load.result c.load.ensures.told
