-- What leads to an entry that comes to a leaf's history, and which entries are a range's.
use Rattle.std.specs.Prelude.{◌≡◌, ℕ, Bool, true, false, List, [], ◌∷◌}
use Rattle.history_book.specs.declared.views.BookEntry.{BookEntry}
use Rattle.history_book.specs.declared.views.BookEntry.TheVariants as one
use Rattle.know.specs.Sound.{known_bits}
use Rattle.mon_hints.specs.Covers.{IsRaised}
use Rattle.mon_hints.specs.Hints.{history_buckets}
use Rattle.mon_hints.specs.Formulas.{is_among}
use Rattle.mon_topo.specs.Settings.{Setting, zone_of_leaf}
use Rattle.mon_value.specs.declared.histories.Entry.{Entry}
use Rattle.mon_value.specs.declared.positions.Leaf.{Leaf}
use Rattle.raise_table.specs.declared.views.Hints.{Hints}

-- what an entry brings that is new to a history leads to the leaf
abbrev pub LeadsOn : Setting → Hints → Leaf → List Entry → Entry → Type 0
LeadsOn setting hints leaf history e = (bucket : ℕ)
    → is_among bucket (history_buckets setting.buckets_of (e ∷ [])) ≡ true
    → is_among bucket (history_buckets setting.buckets_of history) ≡ false
    → IsRaised (known_bits setting hints) (zone_of_leaf setting leaf) leaf bucket

abbrev pub is_range_entry : BookEntry → Bool
is_range_entry (one.Leaf e) = false
is_range_entry (one.Range e) = true

abbrev pub IsRangeEntry : BookEntry → Type 0
IsRangeEntry e = is_range_entry e ≡ true
