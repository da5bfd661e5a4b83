use Rattle.std.proofs.Common.{◌≡◌, ◌++◌, OnOk, sym, subst}
use Rattle.mon_hints.specs.Formulas.{FormulaTree, named_buckets}
use Rattle.mon_hints.proofs.FormulaLemmas.{and_seen, or_seen}
use Rattle.mon_hints.proofs.formulas.+naming.Goals as goal

pub push_named-returns-in-And : goal.push_named-returns-in-And
push_named-returns-in-And t c =
    let w = c.in-And in
    let call = c.push_all_named in
    record {
      added = subst (λ (tree : FormulaTree). OnOk call.result (call.new.named.items ≡ c.args.named.now.items
          ++ named_buckets tree))
          (sym (and_seen c.args.formula.now w.all c.as_slice.result.now w.is c.as_slice.ensures.value))
          call.ensures.added;
    }

pub push_named-returns-in-Or : goal.push_named-returns-in-Or
push_named-returns-in-Or t c =
    let w = c.in-Or in
    let call = c.push_all_named-in-Or in
    record {
      added = subst (λ (tree : FormulaTree). OnOk call.result (call.new.named.items ≡ c.args.named.now.items
          ++ named_buckets tree))
          (sym (or_seen c.args.formula.now w.any c.as_slice-in-Or.result.now w.is c.as_slice-in-Or.ensures.value))
          call.ensures.added;
    }
