use Rattle.std.proofs.Common.{rules, ◌<◌, ◌≤◌, ◌^◌, ◌*◌, ◌%◌, sym, ap, ◌∙◌, subst, arith}
use Rattle.raise_table.specs.Places.{bit_of, word_count}
use Rattle.raise_table.specs.Seats.{MayRaise, after_raise}
use Rattle.raise_table.proofs.WordLemmas.{bit_is_low, may_has_place, shifted_one, word_within}
use Rattle.raise_table.proofs.KnowsLemmas.{raise_keeps, raise_learns}
use Rattle.raise_table.proofs.StepLemmas.{keeps_fetch_or, owner_of, raised_view}
use Rattle.raise_table.proofs.tables.RaiseTable.raise.Goals as goal

pub overflow_shl-bits : goal.overflow_shl-bits
overflow_shl-bits g c =
    let low = bit_is_low _ c.seat.inside.leaf c.args.place c.args.self.now.shaped.few c.seat.invariant.3 in
    subst (λ n. n < 64) (sym c.bit_of.ensures.bit) low

pub fetch_or-requires : goal.fetch_or-requires
fetch_or-requires g c =
    let raise = g.N.RaiseName.raise in
    let table = c.args.self.now in
    let leaf = c.seat.inside.leaf in
    let place = c.args.place in
    let bucket = c.args.bucket in
    let may = subst (λ o. MayRaise o.leaf o.raised place bucket) (sym c.seat.view_is) c.requires.allowed in
    let low : bucket < 4096 = let b : bucket < raise.buckets = c.requires.exists in let most : raise.buckets ≤ 4096 =
    table.shaped.buckets in omega arith in
    let within = word_within raise.zones place bucket (may_has_place raise.zones leaf c.seat.inside.seat.me.0.raised
    place bucket table.shaped.few c.seat.invariant.3 may) low in
    let number = c.word_number-word.ensures.number in
    let below = subst (λ n. n < word_count raise.zones) (sym number) within in
    let count = ap (λ z. z.words) table.named.0 ∙ table.shaped.words in
    let bit_low = bit_is_low _ leaf place table.shaped.few c.seat.invariant.3 in
    let power = ap (λ n. 1 * 2 ^ n % 2 ^ 64) c.bit_of.ensures.bit ∙ shifted_one (bit_of leaf place) bit_low in (
      search rules,
      subst (λ n. c.word_number-word.result < n) (sym count) below,
      keeps_fetch_or _ _ _ _ leaf place bucket _ _ c.seat.invariant.2 may low number
          (subst (λ zones. c.word_number-word.result < word_count zones) (sym table.named.1) below) power,
    )

pub returns : goal.returns
returns g c =
    let leaf = c.seat.inside.leaf in
    let place = c.args.place in
    let low : c.args.bucket < 4096 = let b : c.args.bucket < g.N.RaiseName.raise.buckets = c.requires.exists in
    let most : g.N.RaiseName.raise.buckets ≤ 4096 = c.args.self.now.shaped.buckets in omega arith in
    let bit_low = bit_is_low _ leaf place c.args.self.now.shaped.few c.seat.invariant.3 in
    let power = ap (λ n. 1 * 2 ^ n % 2 ^ 64) c.bit_of.ensures.bit ∙ shifted_one (bit_of leaf place) bit_low in
    let raised = raised_view leaf c.seat.inside.seat.me c.fetch_or.new.seat.me place c.args.bucket _ _ low
    c.word_number-word.ensures.number power c.fetch_or.ensures.2
    ∙ ap (after_raise place c.args.bucket) c.seat.view_is in
    let after = owner_of leaf c.fetch_or.new.seat.me.0 in
    record {
      raised = raised;
      learned = raise_learns place c.args.bucket c.args.seat.now after raised;
      kept = raise_keeps place c.args.bucket c.args.seat.now after raised;
    }
