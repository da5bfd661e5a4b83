use Rattle.std.proofs.Common.{◌≡◌, ℕ, [], Option, map, string_bytes, subst}
use Rattle.mon_run.specs.Endings.{progress, seen_by}
use Rattle.mon_run.specs.Trials.{IsRunBy}
use Rattle.mon_run.proofs.TrialLemmas.{is_none_of}
use Rattle.mon_run.proofs.entry.run.Goals as goal

pub returns-in-Some-clause-ran : goal.returns-in-Some-clause-ran
returns-in-Some-clause-ran g c =
    let outcome = c.run_made.result in
    let folder = g.F.Folder.state c.args.folder.now in
    subst (λ (number : Option ℕ). IsRunBy number (map string_bytes c.args.words.now) outcome.status
    (seen_by outcome.ended) (progress folder (g.O.Sink.state c.args.out.now) [])
    (progress folder (g.O.Sink.state c.run_made.new.out) outcome.lines)) c.in-Some.ensures.number
    (c.run_made.ensures.tries folder)

pub returns-in-Some-clause-cannot_read : goal.returns-in-Some-clause-cannot_read
returns-in-Some-clause-cannot_read g c = λ four. absurd (is_none_of c.run_made.result.status four c.run_made.ensures.read)

pub returns-in-None-clause-ran : goal.returns-in-None-clause-ran
returns-in-None-clause-ran g c =
    let outcome = c.run.result in
    subst (λ (number : Option ℕ). IsRunBy number (map string_bytes c.args.words.now) outcome.status
    (seen_by outcome.ended) (progress (g.F.Folder.state c.args.folder.now) (g.O.Sink.state c.args.out.now) [])
    (progress (g.F.Folder.state c.run.new.folder) (g.O.Sink.state c.run.new.out) outcome.lines))
    c.in-None.ensures.number c.run.ensures.ran
