-- The hint words: a word for each place and bucket, the root's words first and then those of each zone.
use Rattle.std.specs.Prelude.{◌≡◌, ℕ, ◌+◌, ◌*◌, ◌%◌, ◌^◌, ◌<◌, ◌||◌, ◌&&◌, Bool, nat_eq, List, length, get_or, set}
use Rattle.std.specs.Prelude.{replicate, bit_or}
use Rattle.mon_hints.specs.Places.{same_place, word_index}
use Rattle.mon_hints.specs.Hints.{has_bit}
use Rattle.mon_hints.specs.declared.places.Place.{Place}

-- the words, table by table, and how many buckets each table is for
pub record HintTable : Type 0 where
  pub words : List ℕ
  pub buckets : ℕ

abbrev pub index_of : HintTable → Place → ℕ → ℕ
index_of hints = word_index hints.buckets

abbrev pub hint_word_at : HintTable → Place → ℕ → ℕ
hint_word_at hints place bucket = get_or hints.words (index_of hints place bucket) 0

-- there is a word of a place and a bucket
pub record HasWord (hints : HintTable) (place : Place) (bucket : ℕ) : Type 0 where
  pub bucket_there : bucket < hints.buckets
  pub word_there : index_of hints place bucket < length hints.words

-- no bit is set
abbrev pub no_words : ℕ → ℕ → HintTable
no_words zones buckets = record { words = replicate ((zones + 1) * buckets) 0; buckets = buckets }

-- the bit of a child
abbrev pub child_bit : ℕ → ℕ
child_bit child = 1 * 2 ^ child % 2 ^ 64

-- a child's bit is set
abbrev pub with_child_bit : HintTable → Place → ℕ → ℕ → HintTable
with_child_bit hints place child bucket = record {
  words = set hints.words (index_of hints place bucket) (bit_or (hint_word_at hints place bucket) (child_bit child));
  buckets = hints.buckets;
}

-- whether a child has its bit in the word of a place and a bucket, once one bit more was set
abbrev pub with_raised : HintTable → Place → ℕ → ℕ → Place → ℕ → ℕ → Bool
with_raised hints place child bucket other b c =
    ((same_place other place && nat_eq b bucket) && nat_eq c child) || has_bit (hint_word_at hints other b) c

-- what setting a bit changes: that bit, and no other
abbrev pub RaisesOne : HintTable → Place → ℕ → ℕ → Type 0
RaisesOne hints place child bucket =
    (other : Place) (b c : ℕ) → b < hints.buckets
    → has_bit (hint_word_at (with_child_bit hints place child bucket) other b) c
    ≡ with_raised hints place child bucket other b c
