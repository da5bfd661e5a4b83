use Rattle.std.proofs.Common.{rules, ◌≡◌, ◌∙◌, ◌∷◌, refl, [], List, ℕ, suc, length, ap, sym, arith}
use Rattle.std.proofs.lemmas.Result.{err_from_is_err_and}
use Rattle.mon_run.specs.Endings.{Progress}
use Rattle.mon_run.specs.Plans.{made_plan}
use Rattle.mon_run.specs.declared.stop.Stop.TheVariants as stop
use Rattle.mon_run.specs.within.Stops.{seen}
use Rattle.mon_run.proofs.EndLemmas.{continues_then}
use Rattle.mon_run.proofs.MadeLemmas.{writes, written_all, written_cut, written_more, written_starved}
use Rattle.mon_run.proofs.RunLemmas.{ends_stopped}
use Rattle.mon_run.proofs.StepLemmas.{did_none}
use Rattle.mon_run.proofs.runs.Run.made.Goals as goal

pub loop-piece-init : goal.loop-piece-init
loop-piece-init g c = record {
  continues = search rules;
  folder = refl;
  left = refl;
  written = record {
    steps = [];
    split = ap writes (sym c.new-input.ensures.whole);
    did = did_none (seen g.F.Folder.state g.O.Sink.state c.args.self.now);
  };
}

pub loop-piece-preserved : goal.loop-piece-preserved
loop-piece-preserved g c =
    let cut : c.loop-piece.input ≡ c.in-Some.piece ∷ c.next.new.self =
    rw c.in-Some.is at c.in_ok-piece.ensures.piece in
    record {
      continues = continues_then c.loop-piece.invariant.continues c.in_ok-write.ensures.continues;
      folder = c.in_ok-write.ensures.folder ∙ c.loop-piece.invariant.folder;
      left = ap (λ log. log.ended) c.in_ok-write.ensures.log ∙ c.loop-piece.invariant.left;
      written = written_more c.in-Some.piece c.as_bytes.result.now c.next.new.self c.loop-piece.invariant.written cut
          c.as_bytes.ensures.bytes c.in_ok-write.ensures.wrote;
    }

pub loop-piece-smaller : goal.loop-piece-smaller
loop-piece-smaller g c =
    let cut : c.loop-piece.input ≡ c.in-Some.piece ∷ c.next.new.self =
    rw c.in-Some.is at c.in_ok-piece.ensures.piece in
    let many : length c.loop-piece.input ≡ suc (length c.next.new.self) = ap (λ (xs : List (List ℕ)). length xs) cut in
    omega (arith, many)

pub returns-clause-ended : goal.returns-clause-ended
returns-clause-ended g c =
    let none = rw c.in_default.is at c.in_ok-piece.ensures.piece in
    record { completes = written_all c.loop-piece.invariant.written none.0; halts = tt }

pub returns-in_err-piece-clause-ended : goal.returns-in_err-piece-clause-ended
returns-in_err-piece-clause-ended g c =
    ends_stopped (made_plan c.args.number) c.from_residual.result stop.OutOfMemory
    (err_from_is_err_and c.from_residual.result c.from_residual.ensures.1)
    (written_starved c.loop-piece.invariant.written)

pub returns-in_err-write-clause-ended : goal.returns-in_err-write-clause-ended
returns-in_err-write-clause-ended g c =
    let cut : c.loop-piece.input ≡ c.in-Some.piece ∷ c.next.new.self =
    rw c.in-Some.is at c.in_ok-piece.ensures.piece in
    let after : Progress = seen g.F.Folder.state g.O.Sink.state c.write.new.self in
    ends_stopped (made_plan c.args.number) c.from_residual-in_err-write.result c.in_err-write.field-0.0
    (err_from_is_err_and c.from_residual-in_err-write.result c.from_residual-in_err-write.ensures.1)
    (written_cut c.in-Some.piece c.as_bytes.result.now c.next.new.self c.in_err-write.field-0.0 after
    c.loop-piece.invariant.written cut c.as_bytes.ensures.bytes c.loop-piece.invariant.continues.counts
    c.in_err-write.ensures.stops)
