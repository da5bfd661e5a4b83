use Rattle.std.proofs.Common.{ap, ◌∙◌}
use Rattle.query_traces.specs.SeenSights.{seen_of}
use Rattle.running_query.proofs.GoingLemmas.{load_goes, load_told, same_goes}
use Rattle.running_query.proofs.looks.load.Goals as goal

pub returns-in_err-seen-clause-goes : goal.returns-in_err-seen-clause-goes
returns-in_err-seen-clause-goes g c = same_goes g.N.Names.setting c.args.know.now c.sight.ensures.sound

pub returns-clause-goes : goal.returns-clause-goes
returns-clause-goes g c =
    load_goes g.N.Names.setting c.args.place c.args.bucket c.load.result c.args.know.now c.load.new.self
    c.load.ensures.noted c.load.ensures.kept c.load.ensures.sound

pub returns-clause-told : goal.returns-clause-told
returns-clause-told g c =
    load_told g.N.Names.setting c.args.place c.args.bucket c.load.result c.args.know.now c.load.new.self
    c.load.ensures.noted c.in_ok-seen.seen
    (c.in_ok-seen.ensures.seen ∙ ap seen_of c.sight.ensures.sight) c.load.ensures.known
