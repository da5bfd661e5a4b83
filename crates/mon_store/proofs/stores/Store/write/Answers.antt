use Rattle.std.proofs.Common.{◌≡◌, rules, subst, Some}
use Rattle.std.specs.Prelude.{IfErr, IfOk, OnErr}
use Rattle.know.specs.Knowledge.{Knowledge}
use Rattle.mon_config.specs.Configs.{range_of_key}
use Rattle.mon_config.specs.declared.config.Config.{Config}
use Rattle.mon_store.proofs.EndedLemmas.{ended_pass, ended_refused, ended_unwritten, ended_written}
use Rattle.mon_store.proofs.stores.Store.write.Goals as goal
use Rattle.mon_store.specs.Writes.{IsRefused, IsUnwritten, IsWritten}

pub invariant_of-p : goal.invariant_of-p
invariant_of-p g c =
    let in_range : range_of_key c.self.inside.config c.args.row.now.key ≡ Some c.in-Some.range = search rules in
    ended_pass g.N.Names.setting g.N.RaiseName.raise g.N.BookName.book c.self.inside.config c.in-Some.range
    c.args.row.now c.p.inside.know c.write_in.new.know c.self.invariant.0 c.self.inside.tables.sized c.p.invariant
    c.write_in.ensures.borne_out c.write_in.ensures.sound c.in-Some.ensures.there in_range c.write_in.result
    c.write_in.ensures.written

pub returns-in-Some-clause-written : goal.returns-in-Some-clause-written
returns-in-Some-clause-written g c =
    let in_range : range_of_key c.self.inside.config c.args.row.now.key ≡ Some c.in-Some.range = search rules in
    subst (λ (before : Knowledge).
    IfOk c.write_in.result (IsWritten c.args.self.now c.args.row.now before c.write_in.new.know)) c.p.view_is
    (subst (λ (config : Config).
    IfOk c.write_in.result (IsWritten config c.args.row.now c.p.inside.know c.write_in.new.know)) c.self.view_is
    (ended_written g.N.Names.setting g.N.RaiseName.raise g.N.BookName.book c.self.inside.config c.in-Some.range
    c.args.row.now c.p.inside.know c.write_in.new.know c.self.invariant.0 c.self.inside.tables.sized c.p.invariant
    c.write_in.ensures.borne_out c.write_in.ensures.sound c.in-Some.ensures.there in_range c.write_in.result
    c.write_in.ensures.written))

pub returns-in-Some-clause-refused : goal.returns-in-Some-clause-refused
returns-in-Some-clause-refused g c =
    let in_range : range_of_key c.self.inside.config c.args.row.now.key ≡ Some c.in-Some.range = search rules in
    subst (λ (before : Knowledge).
    IfErr c.write_in.result (IsRefused c.args.self.now c.args.row.now before c.write_in.new.know)) c.p.view_is
    (subst (λ (config : Config).
    IfErr c.write_in.result (IsRefused config c.args.row.now c.p.inside.know c.write_in.new.know)) c.self.view_is
    (ended_refused g.N.Names.setting g.N.RaiseName.raise g.N.BookName.book c.self.inside.config c.in-Some.range
    c.args.row.now c.p.inside.know c.write_in.new.know c.self.invariant.0 c.self.inside.tables.sized c.p.invariant
    c.write_in.ensures.borne_out c.write_in.ensures.sound c.in-Some.ensures.there in_range c.write_in.result
    c.write_in.ensures.written))

pub returns-in-Some-clause-nothing : goal.returns-in-Some-clause-nothing
returns-in-Some-clause-nothing g c =
    let in_range : range_of_key c.self.inside.config c.args.row.now.key ≡ Some c.in-Some.range = search rules in
    subst (λ (before : Knowledge). OnErr c.write_in.result (IsUnwritten before c.write_in.new.know)) c.p.view_is
    (ended_unwritten g.N.Names.setting g.N.RaiseName.raise g.N.BookName.book c.self.inside.config c.in-Some.range
    c.args.row.now c.p.inside.know c.write_in.new.know c.self.invariant.0 c.self.inside.tables.sized c.p.invariant
    c.write_in.ensures.borne_out c.write_in.ensures.sound c.in-Some.ensures.there in_range c.write_in.result
    c.write_in.ensures.written)
