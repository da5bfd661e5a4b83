use Rattle.std.proofs.Common.{rules, ◌≡◌, ◌∙◌, ◌++◌, ◌∷◌, [], ℕ, List, None, length, slice_get, sym, ap, subst}
use Rattle.std.specs.Map.{lookup}
use Rattle.indexmap.proofs.CallerLemmas.{insert_entry-new}
use Rattle.mon_value.specs.Same.{same_text}
use Rattle.mon_series.specs.within.Metrics.{Index, IsPlace}
use Rattle.mon_series.proofs.MetricLemmas.{place_new}
use Rattle.mon_series.proofs.metrics.add_metric.Goals as goal

pub returns-clause-room : goal.returns-clause-room
returns-clause-room c =
    let index = c.args.index.now.entries in
    let metric = c.args.metric.now in
    let key = c.in_ok-copy.field-0 in
    let numbers = c.reserve_one.new.self in
    let new = c.insert.new.self.entries in
    let same : key ≡ metric = c.in_ok-copy.ensures.equal in
    let none : lookup (same_text key) index ≡ None = ap (λ (k : List ℕ). lookup (same_text k) index) same
    ∙ c.requires.absent in
    let is : new ≡ index ++ (key, numbers) ∷ [] = c.in_ok-insert.ensures.entries ∙ insert_entry-new same_text
    c.args.index.now key numbers none in
    let at : c.len-at.result ≡ length index = search rules in
    let there = place_new key index numbers none in
    let place : IsPlace metric new c.len-at.result =
    subst (λ (n : ℕ). IsPlace metric new n) (sym at)
    (subst (λ (es : Index). IsPlace metric es (length index)) (sym is)
    (subst (λ (k : List ℕ). IsPlace k (index ++ (key, numbers) ∷ []) (length index)) same there.0)) in
    (place, key, numbers, ((λ i. slice_get (is i) (at i)) ∙ there.1), c.in_ok-reserve_one.ensures.room)
