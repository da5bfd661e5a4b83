use Rattle.std.proofs.Common.{string_bytes, codes, rules}
use Rattle.std.proofs.lemmas.Result.{on_ok_weaker}
use Rattle.mql_ast.specs.Printed.{share_text}
use Rattle.mql_ast.proofs.Chains.{three}
use Rattle.mql_ast.proofs.printing.sums.print_percentile.Goals as goal

pub returns : goal.returns
returns c = record {
  text = on_ok_weaker c.print_share.result (three (codes "percentile(") c.args.column.now.text (share_text c.args.p)
      (string_bytes c.args.out.now) (string_bytes c.push_str.new.self) (string_bytes c.push_str-2.new.self)
      (string_bytes c.print_share.new.out) c.in_ok-push_str.ensures.bytes (search rules))
      c.print_share.ensures.text;
}
