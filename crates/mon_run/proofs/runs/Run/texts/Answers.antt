use Rattle.std.proofs.Common.{rules, ◌≡◌, ◌∙◌, ◌+◌, ◌∷◌, [], List, ℕ, drop, length-drop, ap, refl, sym, arith}
use Rattle.std.proofs.lemmas.List.{drop_more, nil_from_length}
use Rattle.std.proofs.lemmas.Result.{err_from_is_err_and}
use Rattle.mon_run.specs.Endings.{Progress}
use Rattle.mon_run.specs.declared.stop.Stop.{Stop}
use Rattle.mon_run.specs.within.Lines.{TextsStop}
use Rattle.mon_run.specs.within.Stops.{seen}
use Rattle.mon_run.proofs.EndLemmas.{continues_then}
use Rattle.mon_run.proofs.ReadingLemmas.{texts_stop, wrote_all, wrote_more, wrote_none}
use Rattle.mon_run.proofs.RunLemmas.{handed_on}
use Rattle.mon_run.proofs.runs.Run.texts.Goals as goal

pub loop-text-init : goal.loop-text-init
loop-text-init g c = record {
  continues = search rules;
  folder = refl;
  log = refl;
  wrote = wrote_none c.args.texts.now (seen g.F.Folder.state g.O.Sink.state c.args.self.now);
}

pub loop-text-preserved : goal.loop-text-preserved
loop-text-preserved g c =
    let i = c.loop-text.invariant in
    let text : List ℕ = c.text-item.result in
    let texts = c.args.texts.now in
    let rest = drop (c.loop-text.text-index + 1) texts in
    let next : drop c.loop-text.text-index texts ≡ text ∷ rest = drop_more texts c.loop-text.text-index text
    (omega (arith, c.loop-text-test.true)) ∙ ap (λ (l : List ℕ). l ∷ rest) (sym c.text-item.is) in
    let after : Progress = seen g.F.Folder.state g.O.Sink.state c.write.new.self in
    record {
      continues = continues_then i.continues c.write.ensures.continues;
      folder = c.write.ensures.folder ∙ i.folder;
      log = c.write.ensures.log ∙ i.log;
      wrote = wrote_more text c.as_bytes.result.now after next c.as_bytes.ensures.bytes i.wrote
          c.in_ok-write.ensures.wrote;
    }

pub returns-clause-wrote : goal.returns-clause-wrote
returns-clause-wrote g c =
    let count = length-drop c.loop-text.text-index c.args.texts.now in
    let none : drop c.loop-text.text-index c.args.texts.now ≡ [] = nil_from_length
    (drop c.loop-text.text-index c.args.texts.now) (omega (arith, c.loop-text-test.false)) in
    wrote_all none c.loop-text.invariant.wrote

pub returns-in_err-write-clause-stops : goal.returns-in_err-write-clause-stops
returns-in_err-write-clause-stops g c =
    let i = c.loop-text.invariant in
    let text : List ℕ = c.text-item.result in
    let texts = c.args.texts.now in
    let rest = drop (c.loop-text.text-index + 1) texts in
    let next : drop c.loop-text.text-index texts ≡ text ∷ rest = drop_more texts c.loop-text.text-index text
    (omega (arith, c.loop-text-test.true)) ∙ ap (λ (l : List ℕ). l ∷ rest) (sym c.text-item.is) in
    let before : Progress = seen g.F.Folder.state g.O.Sink.state c.args.self.now in
    let after : Progress = seen g.F.Folder.state g.O.Sink.state c.write.new.self in
    handed_on c.from_residual.result (λ (s : Stop). TextsStop texts s before after) c.in_err-write.field-0.0
    (err_from_is_err_and c.from_residual.result c.from_residual.ensures.1)
    (texts_stop text c.as_bytes.result.now after c.in_err-write.field-0.0 i.continues.counts next
    c.as_bytes.ensures.bytes i.wrote c.in_err-write.ensures.stops)
