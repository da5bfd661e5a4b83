use Rattle.std.proofs.Common.{◌≡◌, ◌∙◌, ◌++◌, ◌∷◌, [], List, append_assoc, reverse, sym, ap, subst}
use Rattle.std.proofs.lemmas.List.{reverse-append}
use Rattle.mon_value.specs.LeafHistories.{IsSource}
use Rattle.mon_value.specs.declared.rows.Row.{Row}
use Rattle.mon_series.proofs.SourceEnds.{source_front, source_later}
use Rattle.standing_incr.proofs.needs.rows_of_backwards.Goals as goal

pub push-requires : goal.push-requires
push-requires c =
    let rows = c.loop-row.rows in
    let row = c.in-Some.row in
    let rest = c.pop.new.self.items in
    let items : reverse c.loop-row.rest.items ≡ row ∷ reverse rest =
    ap reverse c.in-Some.ensures.items ∙ reverse-append rest (row ∷ []) in
    let whole : (rows ++ row ∷ []) ++ reverse rest ≡ reverse c.args.backwards.items =
    append_assoc rows (row ∷ []) (reverse rest) ∙ ap (λ (more : List Row). rows ++ more) (sym items)
    ∙ c.loop-row.invariant in
    record {
      later = source_later rows row
          (source_front (rows ++ row ∷ []) (reverse rest) (subst IsSource (sym whole) c.requires.source));
    }
