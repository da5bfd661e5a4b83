use Rattle.std.proofs.Common.{◌∙◌, [], Some, None, ap, append-nil, refl, sym}
use Rattle.std.specs.Bool.{⊤}
use Rattle.mon_run.specs.Endings.{Progress}
use Rattle.mon_run.specs.Plans.{schedule_plan}
use Rattle.mon_run.specs.declared.stop.Stop.TheVariants as stop
use Rattle.mon_run.specs.within.Stops.{HaltsBy, noted, printed_by, seen}
use Rattle.weave_core.specs.Schedules.{IsPrinted, Printed}
use Rattle.std.proofs.lemmas.Result.{err_from_is_err_and}
use Rattle.mon_run.proofs.RunLemmas.{ends_stopped, none_noted, none_told, schedule_cut, schedule_done, schedule_refused}
use Rattle.mon_run.proofs.RunLemmas.{weaves_stopped}
use Rattle.mon_run.proofs.StepLemmas.{did_none, gave_nothing}
use Rattle.mon_run.proofs.runs.Run.schedule.Goals as goal

pub returns-in_err-woven-clause-ended : goal.returns-in_err-woven-clause-ended
returns-in_err-woven-clause-ended g c =
    let before : Progress = seen g.F.Folder.state g.O.Sink.state c.args.self.now in
    let fact : HaltsBy (λ reads. schedule_plan None) stop.OutOfMemory before before = record {
      reads = [];
      gave = sym (append-nil before.folder.gave);
      halts = record {
        stops = record { done = []; left = []; split = refl; whole = tt; did = did_none before };
        causes = tt;
      };
    } in
    weaves_stopped (λ of reads. schedule_plan of.woven) (λ reads. IsPrinted c.args.config c.args.text.now)
    (λ early reads histories traces. ⊤) (noted c.args.self.now) c.from_residual.result stop.OutOfMemory before
    (none_noted c.args.self.now c.requires.none_noted)
    (err_from_is_err_and c.from_residual.result c.from_residual.ensures.1)
    fact

pub returns-in_err-write-clause-ended : goal.returns-in_err-write-clause-ended
returns-in_err-write-clause-ended g c =
    let woven : Printed = printed_by c.in_ok-woven.woven in
    record {
      reads = [];
      gave = gave_nothing (ap (λ f. f.gave) c.write.ensures.folder);
      woven = Some woven;
      printed = c.in_ok-woven.ensures.printed;
      told = none_told (noted c.write.new.self) (λ histories. ⊤) (none_noted c.write.new.self
          (ap (λ log. log.ended) c.write.ensures.log ∙ c.requires.none_noted));
      ends = ends_stopped (schedule_plan (Some woven)) c.from_residual-in_err-write.result
          c.in_err-write.field-0.0 (err_from_is_err_and c.from_residual-in_err-write.result
          c.from_residual-in_err-write.ensures.1)
          (schedule_cut woven c.as_bytes.result.now c.in_err-write.field-0.0 c.as_bytes.ensures.bytes
          c.in_err-write.ensures.stops);
    }

pub returns-in-Some-clause-ended : goal.returns-in-Some-clause-ended
returns-in-Some-clause-ended g c =
    let woven : Printed = printed_by c.in_ok-woven.woven in
    record {
      reads = [];
      gave = gave_nothing (ap (λ f. f.gave) c.write.ensures.folder);
      woven = Some woven;
      printed = c.in_ok-woven.ensures.printed;
      told = none_told (noted c.write.new.self) (λ histories. ⊤) (none_noted c.write.new.self
          (ap (λ log. log.ended) c.write.ensures.log ∙ c.requires.none_noted));
      ends = record {
        completes = tt;
        halts = schedule_refused woven c.as_bytes.result.now c.in-Some.fault
            c.as_bytes.ensures.bytes c.in-Some.is c.in_ok-write.ensures.wrote;
      };
    }

pub returns-clause-ended : goal.returns-clause-ended
returns-clause-ended g c =
    let woven : Printed = printed_by c.in_ok-woven.woven in
    record {
      reads = [];
      gave = gave_nothing (ap (λ f. f.gave) c.write.ensures.folder);
      woven = Some woven;
      printed = c.in_ok-woven.ensures.printed;
      told = none_told (noted c.write.new.self) (λ histories. ⊤) (none_noted c.write.new.self
          (ap (λ log. log.ended) c.write.ensures.log ∙ c.requires.none_noted));
      ends = record {
        completes = schedule_done woven c.as_bytes.result.now c.as_bytes.ensures.bytes c.in-None.is
            c.in_ok-write.ensures.wrote;
        halts = tt;
      };
    }
