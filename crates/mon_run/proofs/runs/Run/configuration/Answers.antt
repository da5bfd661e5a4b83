use Rattle.std.proofs.Common.{◌≡◌, ◌∷◌, [], List, ℕ, false, sym, subst}
use Rattle.mon_run.specs.Endings.{Did, Progress}
use Rattle.mon_run.specs.Plans.{command, config_plan}
use Rattle.mon_run.specs.Steps.{Ask, is_too_long}
use Rattle.mon_run.specs.declared.stop.Stop.{Stop}
use Rattle.mon_run.specs.within.Stops.{ConfigStops, config_stop, seen}
use Rattle.std.proofs.lemmas.Result.{err_from_is_err_and}
use Rattle.mon_config.specs.Configs.{config_in}
use Rattle.mon_run.proofs.ReadLemmas.{short_by}
use Rattle.mon_run.proofs.RunLemmas.{config_refused, handed_on}
use Rattle.mon_run.proofs.runs.Run.configuration.Goals as goal

pub returns-in_err-text-clause-stops : goal.returns-in_err-text-clause-stops
returns-in_err-text-clause-stops g c =
    let before : Progress = seen g.F.Folder.state g.O.Sink.state c.args.self.now in
    let after : Progress = seen g.F.Folder.state g.O.Sink.state c.read.new.self in
    let name : List ℕ = c.args.name.now in
    let fact : ConfigStops name c.in_err-text.field-0.0 before after =
    λ verb file of.
    c.in_err-text.ensures.stops (λ content. config_plan of (command verb name file) (config_in content)) in
    handed_on c.from_residual.result (λ (s : Stop). ConfigStops name s before after) c.in_err-text.field-0.0
    (err_from_is_err_and c.from_residual.result c.from_residual.ensures.1) fact

pub returns-in_err-config-clause-stops : goal.returns-in_err-config-clause-stops
returns-in_err-config-clause-stops g c =
    let before : Progress = seen g.F.Folder.state g.O.Sink.state c.args.self.now in
    let after : Progress = seen g.F.Folder.state g.O.Sink.state c.read.new.self in
    let name : List ℕ = c.args.name.now in
    let text : List ℕ = c.as_slice.result.now in
    handed_on c.from_residual-in_err-config.result (λ (s : Stop). ConfigStops name s before after)
    (config_stop c.in_err-config.field-0.0)
    (err_from_is_err_and c.from_residual-in_err-config.result c.from_residual-in_err-config.ensures.1)
    (config_refused name text c.in_err-config.field-0.0
    (subst (λ (t : List ℕ). is_too_long t ≡ false) (sym c.as_slice.ensures.value) (short_by _ c.in_ok-text.ensures.bounded))
    c.in_err-config.ensures.exact
    (subst (λ (t : List ℕ). Did (Ask name t ∷ []) before after) (sym c.as_slice.ensures.value)
    c.in_ok-text.ensures.asked))

pub returns-clause-config : goal.returns-clause-config
returns-clause-config g c =
    let before : Progress = seen g.F.Folder.state g.O.Sink.state c.args.self.now in
    let after : Progress = seen g.F.Folder.state g.O.Sink.state c.read.new.self in
    record {
      content = c.as_slice.result.now;
      short = subst (λ (t : List ℕ). is_too_long t ≡ false) (sym c.as_slice.ensures.value)
          (short_by _ c.in_ok-text.ensures.bounded);
      is = c.in_ok-config.ensures.exact;
      did = subst (λ (t : List ℕ). Did (Ask c.args.name.now t ∷ []) before after) (sym c.as_slice.ensures.value)
          c.in_ok-text.ensures.asked;
    }
