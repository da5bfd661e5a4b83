use Rattle.std.proofs.Common.{◌≡◌, ◌∙◌, ◌++◌, ◌∷◌, [], List, IsPermutation, ap, append-nil, append_assoc, length, subst, sym, rules, arith}
use Rattle.std.proofs.lemmas.List.{nil_from_length}
use Rattle.std.specs.Vec.Iter.{into_iter_items}
use Rattle.kept_exchanges.specs.Exchanges.{comes, gones}
use Rattle.kept_exchanges.proofs.WriteLemmas.{one_more}
use Rattle.kept_exchanges.proofs.writing.write_exchanges.Goals as goal

pub loop-exchange-preserved : goal.loop-exchange-preserved
loop-exchange-preserved c =
    let exchange = c.in-Some.exchange in
    let left = into_iter_items c.next.new.self in
    let so_far = c.loop-exchange.invariant.so_far in
    let done = so_far.0 in
    let next : into_iter_items c.loop-exchange.exchange-iterator ≡ exchange ∷ left = c.in-Some.ensures.steps.0 in
    let is = so_far.1 ∙ ap (λ l. done ++ l) next in
    let before = c.loop-exchange.rows.items in
    let after = c.write_exchange.new.rows.items in
    record {
      room = omega (
        arith,
        c.loop-exchange.invariant.room,
        ap (λ l. length l) next,
        c.write_exchange.ensures.few,
        c.write_exchange.ensures.room,
      );
      counted = search rules;
      so_far = (
        done ++ exchange ∷ [],
        is ∙ sym (append_assoc done (exchange ∷ []) left),
        λ rest same.
            one_more done left exchange before after rest c.write_exchange.ensures.exchanged
            (subst (λ l. IsPermutation (gones l ++ (comes done ++ rest)) before) next (so_far.2 rest same)),
      );
    }

pub returns : goal.returns
returns c =
    let left = into_iter_items c.loop-exchange.exchange-iterator in
    let ended : left ≡ [] = nil_from_length left (sym c.loop-exchange.invariant.counted ∙ c.in-None.ensures.steps.0) in
    let so_far = c.loop-exchange.invariant.so_far in
    let done = so_far.0 in
    let all : done ≡ c.args.exchanges.items =
    sym (append-nil done) ∙ ap (λ l. done ++ l) (sym ended) ∙ sym so_far.1 in
    let rows = c.loop-exchange.rows.items in record {
      exchanged = λ rest same.
          subst (λ l. IsPermutation (comes l ++ rest) rows) all
          (subst (λ l. IsPermutation (gones l ++ (comes done ++ rest)) rows) ended (so_far.2 rest same));
    }
