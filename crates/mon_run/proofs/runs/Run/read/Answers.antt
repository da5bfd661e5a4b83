use Rattle.std.proofs.Common.{◌≡◌, append-nil, inl, inr, ◌∷◌, [], List, ℕ, Err, refl, sym, subst, rules}
use Rattle.mon_run.specs.Endings.{Did, Progress, progress}
use Rattle.mon_run.specs.Steps.{Ask, Miss}
use Rattle.mon_run.specs.declared.stop.Stop.{Stop}
use Rattle.mon_run.specs.declared.stop.Stop.TheVariants as stop
use Rattle.std.proofs.lemmas.Result.{err_from_is_err_and}
use Rattle.mon_run.specs.declared.outside.folder.FolderFault.TheVariants as fault
use Rattle.mon_run.specs.within.Stops.{ReadStops, seen}
use Rattle.mon_run.proofs.ReadLemmas.{asks_failed, asks_starved, asks_too_long, long_by}
use Rattle.mon_run.proofs.EndLemmas.{last_read_failed}
use Rattle.mon_run.proofs.RunLemmas.{handed_on, read_starved, unread}
use Rattle.mon_run.proofs.StepLemmas.{did_none, gave_nothing, read_alone, stops_at_miss, stops_too_long}
use Rattle.mon_run.proofs.runs.Run.read.Goals as goal

pub returns-in_err-kept-clause-stops : goal.returns-in_err-kept-clause-stops
returns-in_err-kept-clause-stops g c =
    let before : Progress = seen g.F.Folder.state g.O.Sink.state c.args.self.now in
    let name = c.args.name.now in
    let fact : ReadStops name stop.OutOfMemory before before = λ rest. record {
      reads = [];
      gave = sym (append-nil before.folder.gave);
      halts = record { stops = read_starved name rest {before = before} {after = before} (inl (did_none before)); causes = tt };
    } in
    handed_on c.from_residual.result (λ (s : Stop). ReadStops name s before before) stop.OutOfMemory
    (err_from_is_err_and c.from_residual.result c.from_residual.ensures.1) fact

pub returns-in-Ok-clause-asked : goal.returns-in-Ok-clause-asked
returns-in-Ok-clause-asked g c =
    read_alone refl refl c.read.ensures.files (search rules) c.in-Ok.ensures.gave
    (λ files told. (c.in-Ok.ensures.whole files told, tt)) refl refl

pub returns-in-Err-Failed-clause-stops : goal.returns-in-Err-Failed-clause-stops
returns-in-Err-Failed-clause-stops g c =
    let before : Progress = seen g.F.Folder.state g.O.Sink.state c.args.self.now in
    let after : Progress = progress (g.F.Folder.state c.read.new.self) (g.O.Sink.state c.args.self.now.out.now)
    c.args.self.now.log.now.traces.items in
    let name = c.args.name.now in
    let failed : c.read.result ≡ Err fault.Failed = cc in
    let asked = asks_failed c.read.result name before.folder.asked after.folder.asked failed c.read.ensures.asked in
    let gave = gave_nothing (c.read.ensures.nothing failed) in
    let did : Did (Miss name ∷ []) before after =
    read_alone refl refl c.read.ensures.files asked gave (λ files told. tt) refl refl in
    let cause = c.read.ensures.failed failed in
    let fact : ReadStops name (stop.CannotRead name) before after = λ rest. record {
      reads = [];
      gave = gave;
      halts = record {
        stops = stops_at_miss name rest did;
        causes = (cause.1, last_read_failed name asked cause.0 cause.1);
      };
    } in
    subst (λ (n : List ℕ). ReadStops name (stop.CannotRead n) before after) (sym c.in_ok-kept.ensures.bytes) fact

pub returns-in-Err-TooLong-clause-stops : goal.returns-in-Err-TooLong-clause-stops
returns-in-Err-TooLong-clause-stops g c =
    let before : Progress = seen g.F.Folder.state g.O.Sink.state c.args.self.now in
    let after : Progress = progress (g.F.Folder.state c.read.new.self) (g.O.Sink.state c.args.self.now.out.now)
    c.args.self.now.log.now.traces.items in
    let name = c.args.name.now in
    let failed : c.read.result ≡ Err fault.TooLong = cc in
    let asked = asks_too_long c.read.result name before.folder.asked after.folder.asked failed c.read.ensures.asked in
    let much = c.read.ensures.too_long failed in
    let did : Did (Ask name much.content ∷ []) before after =
    read_alone refl refl c.read.ensures.files asked much.gave (λ files told. (much.so files told, tt)) refl refl in
    let fact : ReadStops name (stop.TooLong name) before after = λ rest. record {
      reads = (name, much.content) ∷ [];
      gave = much.gave;
      halts = record {
        stops = stops_too_long name much.content (rest much.content []) (long_by _ much.long) did;
        causes = tt;
      };
    } in
    subst (λ (n : List ℕ). ReadStops name (stop.TooLong n) before after) (sym c.in_ok-kept.ensures.bytes) fact

pub returns-in-Err-OutOfMemory-clause-stops : goal.returns-in-Err-OutOfMemory-clause-stops
returns-in-Err-OutOfMemory-clause-stops g c =
    let before : Progress = seen g.F.Folder.state g.O.Sink.state c.args.self.now in
    let after : Progress = progress (g.F.Folder.state c.read.new.self) (g.O.Sink.state c.args.self.now.out.now)
    c.args.self.now.log.now.traces.items in
    let name = c.args.name.now in
    let failed : c.read.result ≡ Err fault.OutOfMemory = cc in
    let same = c.read.ensures.starved failed in
    λ rest. record {
      reads = [];
      gave = gave_nothing same;
      halts = record {
        stops = read_starved name rest {before = before} {after = after}
            (elim (asks_starved c.read.result name before.folder.asked after.folder.asked failed c.read.ensures.asked) [
              | inl none ↦ inl (unread c.read.ensures.files none same refl refl)
              | inr more ↦ inr (read_alone refl refl c.read.ensures.files more (gave_nothing same) (λ files told. tt)
                  refl refl)
            ]);
        causes = tt;
      };
    }
