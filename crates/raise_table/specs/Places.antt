-- Where the words of a raise table stand, which leaves there are, and which bit is whose.
use Rattle.std.specs.Prelude.{ℕ, zero, suc, ◌+◌, ◌*◌, ◌/◌, ◌%◌, ◌<◌, List, [], ◌∷◌, ◌++◌, length, slice_index}
use Rattle.mon_hints.specs.Places.{word_index}
use Rattle.mon_value.specs.declared.positions.Zone.{Zone}
use Rattle.mon_hints.specs.declared.places.Place.{Place}
use Rattle.mon_hints.specs.declared.places.Place.TheVariants as at
use Rattle.raise_table.specs.declared.places.ZoneLeaf.{ZoneLeaf}
use Rattle.mon_value.specs.Histories.{zone_numbered}
use Rattle.mon_value.specs.declared.limits.TheConstants.{MOST_BUCKETS}

abbrev pub zone_leaf : ℕ → ℕ → ZoneLeaf
zone_leaf zone child = record { zone = zone_numbered zone; child = child }

-- ---- leaves

-- the first so many leaves of a zone
abbrev pub leaves_of_zone : ℕ → ℕ → List ZoneLeaf
leaves_of_zone zone zero = []
leaves_of_zone zone (suc count) = leaves_of_zone zone count ++ zone_leaf zone count ∷ []

-- the leaves of zones that are numbered on from `first`, each of which has so many
abbrev pub leaves_from : ℕ → List ℕ → List ZoneLeaf
leaves_from first [] = []
leaves_from first (count ∷ counts) = leaves_of_zone first count ++ leaves_from (first + 1) counts

-- the leaves of all zones, in order
abbrev pub leaves_in : List ℕ → List ZoneLeaf
leaves_in = leaves_from 0

-- ---- words

abbrev pub place_numbered : ℕ → Place
place_numbered zero = at.Root
place_numbered (suc n) = at.Zone (zone_numbered n)

-- each place has 4,096 words, one for each bucket
abbrev pub word_number : Place → ℕ → ℕ
word_number = word_index MOST_BUCKETS

abbrev pub place_of_word : ℕ → Place
place_of_word word = place_numbered (word / MOST_BUCKETS)

abbrev pub bucket_of_word : ℕ → ℕ
bucket_of_word word = word % MOST_BUCKETS

-- how many words a table has
abbrev pub word_count : List ℕ → ℕ
word_count zones = (length zones + 1) * MOST_BUCKETS

-- the word of a place and a bucket
abbrev pub word_at : List ℕ → Place → ℕ → ℕ
word_at words place bucket = slice_index words (word_number place bucket)

-- the place is the root, or one of so many zones
abbrev pub IsPlaceAmong : ℕ → Place → Type 0
IsPlaceAmong zones at.Root = Unit {0}
IsPlaceAmong zones (at.Zone zone) = zone.0 < zones

-- ---- bits

-- a leaf's bit: in a word of the root that of its zone, in a word of its zone its own
abbrev pub bit_of : ZoneLeaf → Place → ℕ
bit_of leaf at.Root = leaf.zone.0
bit_of leaf (at.Zone zone) = leaf.child
