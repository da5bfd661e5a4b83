use Rattle.std.proofs.Common.{List, sym, subst}
use Rattle.line_runs.specs.Following.{IsFollowedBy}
use Rattle.line_runs.specs.Questions.{CanBeChecked}
use Rattle.mon_config.specs.Configs.{IsLimited}
use Rattle.mon_config.specs.declared.config.Config.{Config}
use Rattle.mon_script.specs.Follows.{all_moments}
use Rattle.mon_value.specs.declared.rows.Row.{Row}
use Rattle.line_runs.proofs.follows.gathered_tables.Goals as goal

pub text_tables-tables-requires-clause-limited : goal.text_tables-tables-requires-clause-limited
text_tables-tables-requires-clause-limited g c =
    subst IsLimited (sym c.config.ensures.config) c.is_set_up.ensures.limited

pub text_tables-tables-requires-clause-can : goal.text_tables-tables-requires-clause-can
text_tables-tables-requires-clause-can g c =
    subst (λ (config : Config). CanBeChecked config c.args.text.now c.args.moments.first c.in-Ok.rows)
    (sym c.config.ensures.config)
    (subst (CanBeChecked c.args.store.now c.args.text.now c.args.moments.first) (sym c.in-Ok.ensures.rows)
    c.requires.can)

pub returns-in-Ok-clause-followed : goal.returns-in-Ok-clause-followed
returns-in-Ok-clause-followed g c =
    let all = all_moments c.args.moments in
    subst (λ (rows : List Row). IsFollowedBy c.args.store.now c.args.text.now rows all c.text_tables-tables.result)
    c.in-Ok.ensures.rows
    (subst (λ (config : Config). IsFollowedBy config c.args.text.now c.in-Ok.rows all c.text_tables-tables.result)
    c.config.ensures.config c.text_tables-tables.ensures.followed)

pub returns-in-Err-clause-followed : goal.returns-in-Err-clause-followed
returns-in-Err-clause-followed g c = record {
  typed = c.requires.can.typed;
  type_is = c.requires.can.type_is;
  followed = tt;
}
