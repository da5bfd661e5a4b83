use Rattle.std.proofs.Common.{rules, ◌≡◌, sym, subst}
use Rattle.ingest_queue.specs.Pours.{AreTakenBy}
use Rattle.mon_config.specs.declared.config.Config.{Config}
use Rattle.mon_points.specs.Records.{reads_of}
use Rattle.mon_schema.specs.Fits.{fits}
use Rattle.line_runs.proofs.Offered.{answered_at, fronts_at, reads_taken}
use Rattle.line_runs.proofs.pours.poured.Goals as goal

pub pour_files-requires-clause-first : goal.pour_files-requires-clause-first
pour_files-requires-clause-first g c κs within =
    subst (λ (held : Config). AreTakenBy (fits c.args.store.now.schemas) (reads_of held.schemas c.as_slice.result.now))
    (sym c.config.ensures.config) (reads_taken c.args.store.now.schemas c.as_slice.result.now)

pub pour_files-requires-clause-second : goal.pour_files-requires-clause-second
pour_files-requires-clause-second g c κs within =
    subst (λ (held : Config). AreTakenBy (fits c.args.store.now.schemas) (reads_of held.schemas c.as_slice-2.result.now))
    (sym c.config.ensures.config) (reads_taken c.args.store.now.schemas c.as_slice-2.result.now)

pub returns-clause-poured : goal.returns-clause-poured
returns-clause-poured g c =
    let told = c.pour_files.ensures.begun.told in
    let name : c.pour_files.new.writer.pass.ghost_name ≡ c.writer-1.given = told.pass in
    let last : c.p-1.given.0 ≡ c.pour_files.new.writer.pass.now = search rules in
    answered_at c.args.store.now c.pour_files.new.writer.store.now c.writer-1.given
    c.pour_files.new.writer.pass.ghost_name c.args.p.now c.pour_files.new.writer.pass.now c.p-1.given.0 last
    c.config.result.now c.args.content.now.first c.as_slice.result.now c.args.content.now.second
    c.as_slice-2.result.now _ _ c.pour_files.result c.config.ensures.config c.as_slice.ensures.items
    c.as_slice-2.ensures.items c.pour_files.ensures.poured

pub returns-clause-fronts : goal.returns-clause-fronts
returns-clause-fronts g c =
    let told = c.pour_files.ensures.begun.told in
    let name : c.pour_files.new.writer.pass.ghost_name ≡ c.writer-1.given = told.pass in
    let last : c.p-1.given.0 ≡ c.pour_files.new.writer.pass.now = search rules in
    fronts_at c.args.store.now c.pour_files.new.writer.store.now c.writer-1.given
    c.pour_files.new.writer.pass.ghost_name c.args.p.now c.pour_files.new.writer.pass.now c.p-1.given.0 last
    c.pour_files.ensures.begun.made told
