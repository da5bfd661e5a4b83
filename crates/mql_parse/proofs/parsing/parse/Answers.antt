-- What a text spells is what it is read as.
use Rattle.mql_parse.proofs.TextSound.{spelled_by}
use Rattle.mql_parse.proofs.TextComplete.{given_tree, one_tree}
use Rattle.mql_parse.proofs.TextSteady.{fault_place, long_fault}
use Rattle.mql_parse.proofs.TextKinds.{fault_kind, fault_number}
use Rattle.mql_parse.proofs.TextDepth.{fault_depth}
use Rattle.mql_parse.proofs.FirstTexts.{fault_expected, fault_first}
use Rattle.mql_parse.proofs.parsing.parse.Goals as goal

pub returns : goal.returns
returns c =
    let text = c.args.text.now in
    let e = c.read.ensures.exact in
    record {
      exact = e;
      spelled = spelled_by text c.read.result e;
      complete = given_tree text c.read.result e;
      place = fault_place text c.read.result e;
      kind = fault_kind text c.read.result e;
      number = fault_number text c.read.result e;
      expected = fault_expected text c.read.result e;
      first = fault_first text c.read.result e;
      depth = fault_depth text c.read.result e;
      too_long = long_fault text c.read.result e;
      unique = one_tree text;
    }
