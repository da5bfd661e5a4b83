use Rattle.std.proofs.Common.{◌∙◌, [], true, false, subst, sym}
use Rattle.ingest_queue.proofs.EndLemmas.{of_its_file}
use Rattle.ingest_queue.proofs.PourLemmas.{begun, nothing_came, offered_none}
use Rattle.ingest_queue.specs.Coming.{offered}
use Rattle.ingest_queue.specs.Feeding.{IsOf}
use Rattle.ingest_queue.proofs.pouring.pour_in.Goals as goal

pub returns-in_err-queue-clause-popped : goal.returns-in_err-queue-clause-popped
returns-in_err-queue-clause-popped g c = nothing_came _ _ c.requires.none

pub returns-in-Ok-clause-offered : goal.returns-in-Ok-clause-offered
returns-in-Ok-clause-offered g c = c.pour_all-done.ensures.written.goes_on _ (offered_none _ _ c.requires.none)

pub returns-clause-offered : goal.returns-clause-offered
returns-clause-offered g c = c.pour_all-done.ensures.written.goes_on _ (offered_none _ _ c.requires.none)

pub returns-in_err-queue-clause-told : goal.returns-in_err-queue-clause-told
returns-in_err-queue-clause-told g c = subst (λ came. g.W.RowWriter.told c.args.writer.now (offered came) c.args.writer.now) (sym c.requires.none) c.requires.begun

pub returns-in-Ok-clause-told : goal.returns-in-Ok-clause-told
returns-in-Ok-clause-told g c =
    c.pour_all-done.ensures.written.told _ [] (subst (λ came. g.W.RowWriter.told c.args.writer.now (offered came) c.args.writer.now) (sym c.requires.none) c.requires.begun)

pub returns-clause-told : goal.returns-clause-told
returns-clause-told g c =
    c.pour_all-done.ensures.written.told _ [] (subst (λ came. g.W.RowWriter.told c.args.writer.now (offered came) c.args.writer.now) (sym c.requires.none) c.requires.begun)

pub pour_all-done-requires-clause-way : goal.pour_all-done-requires-clause-way
pour_all-done-requires-clause-way g c κs within =
    begun _ _ _ _ _ c.in_ok-queue.ensures.pass.1 (c.new-one.ensures.left ∙ c.requires.first) (c.new-other.ensures.left ∙ c.requires.second)
    (subst (IsOf false) c.requires.first (of_its_file false 1 _)) (subst (IsOf true) c.requires.second (of_its_file true 1 _))
