use Rattle.std.proofs.Common.{◌≡◌, ◌∙◌, Bool, true, false, List, is_some, not, refl, sym, ap}
use Rattle.std.specs.Map.{lookup}
use Rattle.indexmap.specs.IndexMap.{insert_entry}
use Rattle.mon_value.specs.Same.{same_series}
use Rattle.mon_value.specs.declared.rows.SeriesKey.{SeriesKey}
use Rattle.mon_value.proofs.SameLemmas.{eq-same_series, same_series-test}
use Rattle.standing_incr.proofs.NeedLemmas.{put_series, there_already}
use Rattle.standing_incr.proofs.needs.is_first.Goals as goal

pub returns-then-contains_key-clause-first : goal.returns-then-contains_key-clause-first
returns-then-contains_key-clause-first c =
    let key = c.args.key.now in
    let entries = c.args.behind.now.entries in
    let there : is_some (lookup (same_series key) entries) ≡ true =
    ap (λ test. is_some (lookup test entries)) (sym (same_series-test key)) ∙ sym c.contains_key.ensures
    ∙ c.if-contains_key.true in
    sym (ap not there)

pub returns-then-contains_key-clause-put : goal.returns-then-contains_key-clause-put
returns-then-contains_key-clause-put c other =
    let key = c.args.key.now in
    let entries = c.args.behind.now.entries in
    let there : is_some (lookup (same_series key) entries) ≡ true =
    ap (λ test. is_some (lookup test entries)) (sym (same_series-test key)) ∙ sym c.contains_key.ensures
    ∙ c.if-contains_key.true in
    there_already key other entries (same_series other key) refl there

pub returns-clause-first : goal.returns-clause-first
returns-clause-first c =
    let key = c.args.key.now in
    let entries = c.args.behind.now.entries in
    let none : is_some (lookup (same_series key) entries) ≡ false =
    ap (λ test. is_some (lookup test entries)) (sym (same_series-test key)) ∙ sym c.contains_key.ensures
    ∙ c.if-contains_key.false in
    sym (ap not none)

pub returns-clause-put : goal.returns-clause-put
returns-clause-put c other =
    let key = c.args.key.now in
    let entries = c.args.behind.now.entries in
    let put = c.in_ok-insert.ensures.entries in
    let alike = c.in_ok-copy.ensures.equal in
    ap (λ (all : List (SeriesKey × Bool)). is_some (lookup (same_series other) all))
    (put
    ∙ (λ i. insert_entry (λ a b. eq-same_series a b i) entries c.in_ok-copy.field-0 true)
    ∙ ap (λ k. insert_entry same_series entries k true) alike)
    ∙ put_series key true other entries
