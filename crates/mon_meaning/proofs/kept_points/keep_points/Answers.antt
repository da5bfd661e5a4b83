use Rattle.std.proofs.Common.{◌≡◌, ◌∙◌, ◌++◌, ◌∷◌, [], ◌<ℤ◌, List, IfSome, cond, sym, ap, subst}
use Rattle.mon_value.specs.LeafHistories.{last_end}
use Rattle.mon_value.specs.declared.rows.Point.{Point}
use Rattle.mon_value.specs.declared.values.Value.{Value}
use Rattle.mon_meaning.specs.within.FetchViews.{all_filters_hold, keeps}
use Rattle.mon_meaning.proofs.KeptLemmas.{kept_more}
use Rattle.mon_meaning.proofs.WindowLemmas.{rises_on}
use Rattle.mon_meaning.proofs.kept_points.keep_points.Goals as goal

pub add_point-requires : goal.add_point-requires
add_point-requires c =
    let p : Point = c.point-item.result in
    let fetch = c.args.fetch.now in
    let key = c.args.key.now in
    record {
      rises = subst (λ (points : List Point). IfSome (last_end points) (λ last. last <ℤ p.end))
          (λ i. (sym c.loop-point.invariant.hidden) i ++ (sym c.loop-point.invariant.kept) i)
          (rises_on (λ point. keeps fetch key point.value) c.args.reached.now c.loop-point.point-index p
          c.requires.rises c.point-item.is c.loop-point-test.true);
    }

pub loop-point-preserved : goal.loop-point-preserved
loop-point-preserved c =
    let p : Point = c.point-item.result in
    let fetch = c.args.fetch.now in
    let key = c.args.key.now in
    let i = c.loop-point.point-index in
    let decided : c.in_ok-keeps.keeps ≡ keeps fetch key p.value =
    c.in_ok-keeps.ensures.kept
    ∙ ap (λ (v : Value). all_filters_hold fetch.of_points (c.loop-point.cells ++ v ∷ [])) c.in_ok-value.ensures.value
    ∙ ap (λ (cells : List Value). all_filters_hold fetch.of_points (cells ++ p.value ∷ []))
    c.loop-point.invariant.cells in
    record {
      kept = c.in_ok-add_point.ensures.added
          ∙ ap (λ (points : List Point). points ++ cond c.in_ok-keeps.keeps (p ∷ []) []) c.loop-point.invariant.kept
          ∙ sym (kept_more fetch key c.args.reached.now i p c.point-item.is c.loop-point-test.true c.in_ok-keeps.keeps
          decided);
      hidden = c.in_ok-add_point.ensures.hidden ∙ c.loop-point.invariant.hidden;
      cells = c.in_ok-keeps.ensures.cells ∙ c.loop-point.invariant.cells;
    }
