use Rattle.std.proofs.Common.{◌≡◌, ◌∙◌, true, false, sym, subst}
use Rattle.mon_value.specs.Same.{same_row}
use Rattle.mon_value.specs.declared.tables.TimedRow.{TimedRow}
use Rattle.kept_exchanges.proofs.WriteLemmas.{found_at, none_left, none_passed}
use Rattle.kept_exchanges.proofs.writing.place_of.Goals as goal

pub returns-then-is_row-clause-place : goal.returns-then-is_row-clause-place
returns-then-is_row-clause-place c =
    found_at c.args.rows.now c.loop-place.place c.index-rows-place.result c.args.one.now c.loop-place-test.true
    (subst (λ (row : TimedRow). same_row c.args.one.now row ≡ true) c.index-rows-place.is
    (sym c.is_row.ensures ∙ c.if-is_row.true))

pub loop-place-preserved : goal.loop-place-preserved
loop-place-preserved c rest =
    c.loop-place.invariant
    (none_passed (λ (row : TimedRow). same_row c.args.one.now row ≡ false) c.args.rows.now c.loop-place.place
    c.index-rows-place.result c.loop-place-test.true
    (subst (λ (row : TimedRow). same_row c.args.one.now row ≡ false) c.index-rows-place.is
    (sym c.is_row.ensures ∙ c.if-is_row.false)) rest)

pub returns-clause-none : goal.returns-clause-none
returns-clause-none c none =
    c.loop-place.invariant
    (none_left (λ (row : TimedRow). same_row c.args.one.now row ≡ false) c.args.rows.now c.loop-place.place
    c.loop-place-test.false)
