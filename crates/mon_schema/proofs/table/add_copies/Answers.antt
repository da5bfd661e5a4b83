use Rattle.std.proofs.Common.{◌≡◌, ◌∙◌, ◌∷◌, ◌++◌, ◌+◌, List, ℕ, arith, drop, sym, ap}
use Rattle.std.proofs.lemmas.List.{drop_more}
use Rattle.std.specs.Map.{lookup}
use Rattle.mon_value.specs.Same.{same_text}
use Rattle.mon_schema.specs.Held.{named_entries}
use Rattle.mon_schema.proofs.NamedEntriesLemmas.{copy_absent}
use Rattle.mon_schema.proofs.table.add_copies.Goals as goal

pub add_copy-requires : goal.add_copy-requires
add_copy-requires g c =
    let copied = c.loop-name.copied in
    let items = c.entries-name-items.result.now in
    let entry = c.loop-name-item.result in
    let all = c.args.map.now.entries in
    let rest = drop (c.loop-name.name-index + 1) items in
    let next : drop c.loop-name.name-index items ≡ entry ∷ rest = drop_more items c.loop-name.name-index entry
    (omega (arith, c.loop-name-test.true)) ∙ ap (λ e. e ∷ rest) (sym c.loop-name-item.is) in
    let whole : named_entries copied.entries ++ named_entries (entry ∷ rest) ≡ named_entries all =
    ap (λ left. named_entries copied.entries ++ named_entries left) (sym next) ∙ c.loop-name.invariant in
    record {
      new = ap (λ (text : List ℕ). lookup (same_text text) (named_entries copied.entries)) c.as_slice.ensures.value
          ∙ copy_absent copied entry.0 entry.1 rest all whole c.entries-name-items.ensures.unique;
    }
