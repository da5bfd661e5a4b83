use Rattle.std.proofs.Common.{◌≡◌, ◌∙◌, ◌+◌, ◌-◌, ◌<◌, List, length, take, sym, ap, subst, arith}
use Rattle.std.specs.List.{flat_map}
use Rattle.std.proofs.Math.Seq.{take-length}
use Rattle.leaf_store.specs.declared.runs.Run.{Run}
use Rattle.leaf_store.specs.declared.runs.Run.TheVariants.{Puts}
use Rattle.leaf_store.specs.within.FromBehind.{Standing, behind_turns, none_standing, replica_steps}
use Rattle.leaf_store.specs.within.KeptEntries.{run_entries}
use Rattle.leaf_store.specs.within.Replicas.{AllHaveRows, shown_entries}
use Rattle.leaf_store.proofs.KeptStepLemmas.{kept_from_behind}
use Rattle.leaf_store.proofs.RunLemmas.{gathered_last, gathered_run, none_gathered, runs_front, runs_left}
use Rattle.leaf_store.proofs.StepLemmas.{formed_early}
use Rattle.leaf_store.proofs.replays.rows_kept.Goals as goal

pub gather_run-requires : goal.gather_run-requires
gather_run-requires c =
    let replicas = c.args.replicas.now.entries in
    record {
      there = (runs_left replicas c.runs-last.result.0.now c.runs-last.result.1
          (subst (AllHaveRows replicas) c.runs-last.ensures.runs c.requires.there)).1;
    }

pub loop-place-init : goal.loop-place-init
loop-place-init c =
    let replicas = c.args.replicas.now.entries in
    let range = c.args.replica.range in
    let slot = c.args.replica.slot in
    let runs = c.runs-last.result.0.now in
    let last = c.runs-last.result.1 in
    let items = c.args.kept.now.items in
    let ran = c.in_ok-behind.ensures in
    record {
      within = omega arith;
      there = subst (λ (rs : List Run). AllHaveRows replicas (flat_map run_entries rs)) (sym (take-length runs))
          (runs_left replicas runs last (subst (AllHaveRows replicas) c.runs-last.ensures.runs c.requires.there)).0;
      gathered = gathered_last range slot replicas runs last items c.args.cut c.len.result c.in_ok-behind.behind
          c.new-found.result c.gather_run.new.found c.runs-last.ensures.runs c.requires.within c.len.ensures.count
          ran.gathered ran.left
          ∙ ap (behind_turns (replica_steps range slot (shown_entries replicas (take c.args.cut items))))
          c.new-found.ensures.none;
    }

pub gather_run-requires-in-loop-place : goal.gather_run-requires-in-loop-place
gather_run-requires-in-loop-place c =
    let runs = c.runs-last.result.0.now in
    let l = c.loop-place in
    let n = l.place - 1 in
    let next : l.place ≡ n + 1 = omega (arith, c.loop-place-test.true) in
    let below : n < length runs = omega (arith, next, l.invariant.within) in
    record {
      there = (runs_front c.args.replicas.now.entries runs l.place n (Puts 0 0 0 0) next below l.invariant.there).1;
    }

pub loop-place-preserved : goal.loop-place-preserved
loop-place-preserved c =
    let replicas = c.args.replicas.now.entries in
    let range = c.args.replica.range in
    let slot = c.args.replica.slot in
    let runs = c.runs-last.result.0.now in
    let l = c.loop-place in
    let n = l.place - 1 in
    let next : l.place ≡ n + 1 = omega (arith, c.loop-place-test.true) in
    let below : n < length runs = omega (arith, next, l.invariant.within) in
    let ran = c.in_ok-behind-2.ensures in
    record {
      within = omega (arith, l.invariant.within);
      there = (runs_front replicas runs l.place n (Puts 0 0 0 0) next below l.invariant.there).0;
      gathered = gathered_run range slot replicas runs l.place n l.behind c.in_ok-behind-2.behind (Puts 0 0 0 0) l.found
          c.gather_run-in-loop-place.new.found
          (behind_turns (replica_steps range slot (shown_entries replicas (take c.args.cut c.args.kept.now.items)))
          none_standing) next below ran.gathered ran.left l.invariant.gathered;
    }

pub returns : goal.returns
returns c =
    let replicas = c.args.replicas.now.entries in
    let range = c.args.replica.range in
    let slot = c.args.replica.slot in
    let runs = c.runs-last.result.0.now in
    let l = c.loop-place in
    let items = c.args.kept.now.items in
    let none : l.place ≡ 0 = omega (arith, c.loop-place-test.false) in
    let all = sym (none_gathered range slot replicas runs l.place l.behind l.found none) ∙ l.invariant.gathered in
    record {
      rows = c.into_rows.ensures.rows ∙ ap (λ (s : Standing). s.rows) all
          ∙ kept_from_behind range slot (shown_entries replicas (take c.args.cut items))
          (formed_early replicas items c.args.cut c.requires.there c.requires.formed);
    }
