use Rattle.std.proofs.Common.{◌≡◌, ◌∷◌, List, ℕ, IfOk, take, take_all, ap, subst, arith, string_bytes}
use Rattle.mon_value.specs.Values.{counts_joined}
use Rattle.mon_value.proofs.ValueTextLemmas.{counts_joined-cons}
use Rattle.mon_value.proofs.values.counts_text.Goals as goal

-- the loop has taken all counts after the first
pub returns : goal.returns
returns c =
    let first = c.in-Some.first.now in
    let rest = c.in-Some.rest.now in
    let whole : counts_joined c.args.counts.now ≡ counts_joined (first ∷ rest) = ap counts_joined
    c.in-Some.ensures.cases.0 in
    let all : take c.loop-count.count-index rest ≡ rest = take_all c.loop-count.count-index rest (omega arith) in
    let joined = counts_joined-cons first rest in
    let i = c.loop-count.invariant in
    let e = c.in_ok-text.ensures.ok in
    let made : string_bytes c.loop-count.text ≡ counts_joined c.args.counts.now = rw (whole, joined, i, all, e) in
    record {
      text = subst (λ (bytes : List ℕ). IfOk c.from_string-2.result (λ text. text ≡ bytes)) made
          c.from_string-2.ensures.bytes;
    }
