-- Bits that grow lead to as much, and to what one entry more brings.
use Rattle.std.proofs.Common.{◌≡◌, ℕ, Bool, ◌||◌, ◌&&◌, List, [], ◌∷◌, ◌++◌, sym, ap, ◌∙◌, inl, inr}
use Rattle.std.specs.Prelude.{nat_eq}
use Rattle.std.specs.List.{flat_map}
use Rattle.std.proofs.lemmas.Bool.{or_cases, or_left, or_right}
use Rattle.std.proofs.lemmas.List.Concat.{flat_map-append}
use Rattle.std.proofs.lemmas.List.Folds.{list_any-append}
use Rattle.mon_value.specs.LeafHistories.{brought_rows, leaf_rows}
use Rattle.mon_value.specs.declared.histories.Entry.{Entry}
use Rattle.mon_value.specs.declared.positions.Leaf.{Leaf}
use Rattle.mon_value.specs.declared.positions.Zone.{Zone}
use Rattle.mon_value.specs.declared.rows.SeriesKey.{SeriesKey}
use Rattle.mon_hints.specs.Covers.{AreBitsWithin, StaysSet, Bits, Covers, joined_bits, with_bit}
use Rattle.mon_hints.specs.Hints.{history_buckets}
use Rattle.mon_hints.specs.Formulas.{is_among}

-- ---- bits

pub kept_bit : (bits : ℕ → ℕ → Bool) (place bucket : ℕ) → StaysSet bits (with_bit bits place bucket)
kept_bit bits place bucket other n h = or_right (nat_eq other place && nat_eq n bucket) (bits other n) h

pub bits_within : (some all : ℕ → ℕ → Bool) (place bucket : ℕ) → StaysSet some all
    → StaysSet (with_bit some place bucket) (with_bit all place bucket)
bits_within some all place bucket k other n h =
    elim (or_cases (nat_eq other place && nat_eq n bucket) (some other n) h) [
      | inl new ↦ or_left (nat_eq other place && nat_eq n bucket) (all other n) new
      | inr old ↦ or_right (nat_eq other place && nat_eq n bucket) (all other n) (k other n old)
    ]

pub joined_bits_first : (a b : Bits) → AreBitsWithin a (joined_bits a b)
joined_bits_first a b = record {
  root = λ place bucket there. or_left (a.root place bucket) (b.root place bucket) there;
  zone = λ place bucket there. or_left (a.zone place bucket) (b.zone place bucket) there;
}

pub joined_bits_second : (a b : Bits) → AreBitsWithin b (joined_bits a b)
joined_bits_second a b = record {
  root = λ place bucket there. or_right (a.root place bucket) (b.root place bucket) there;
  zone = λ place bucket there. or_right (a.zone place bucket) (b.zone place bucket) there;
}

pub joined_bits_within : (a b all : Bits) → AreBitsWithin a all → AreBitsWithin b all → AreBitsWithin (joined_bits a b)
    all
joined_bits_within a b all h k = record {
  root = λ place bucket there. elim (or_cases (a.root place bucket) (b.root place bucket) there)
      [ inl x ↦ h.root place bucket x | inr y ↦ k.root place bucket y ];
  zone = λ place bucket there. elim (or_cases (a.zone place bucket) (b.zone place bucket) there)
      [ inl x ↦ h.zone place bucket x | inr y ↦ k.zone place bucket y ];
}

-- ---- what they lead to

pub covers_more : (some others : Bits) (zone : Zone) (leaf : Leaf) (buckets : List ℕ) → AreBitsWithin some others
    → Covers some zone leaf buckets → Covers others zone leaf buckets
covers_more some others zone leaf buckets within h = λ bucket there. record {
  at_root = within.root zone.0 bucket (h bucket there).at_root;
  in_zone = within.zone leaf.0 bucket (h bucket there).in_zone;
}

pub among-append : (n : ℕ) (some others : List ℕ) → is_among n (some ++ others) ≡ (is_among n some || is_among n others)
among-append n some others = list_any-append (λ other. nat_eq n other) some others

pub buckets-push : (buckets_of : SeriesKey → List ℕ) (history : List Entry) (e : Entry)
    → history_buckets buckets_of (history ++ e ∷ []) ≡ history_buckets buckets_of history ++ history_buckets
    buckets_of (e ∷ [])
buckets-push buckets_of history e =
    ap (flat_map (λ row. buckets_of row.key)) (flat_map-append brought_rows history (e ∷ []))
    ∙ flat_map-append (λ row. buckets_of row.key) (leaf_rows history) (leaf_rows (e ∷ []))

pub covers-push : (bits : Bits) (zone : Zone) (leaf : Leaf) (buckets_of : SeriesKey → List ℕ) (history : List Entry)
    (e : Entry)
    → Covers bits zone leaf (history_buckets buckets_of history)
    → Covers bits zone leaf (history_buckets buckets_of (e ∷ []))
    → Covers bits zone leaf (history_buckets buckets_of (history ++ e ∷ []))
covers-push bits zone leaf buckets_of history e h k = λ bucket there.
    elim (or_cases (is_among bucket (history_buckets buckets_of history))
    (is_among bucket (history_buckets buckets_of (e ∷ [])))
    (sym (among-append bucket (history_buckets buckets_of history) (history_buckets buckets_of (e ∷ [])))
    ∙ ap (is_among bucket) (sym (buckets-push buckets_of history e)) ∙ there)) [
      | inl old ↦ h bucket old
      | inr new ↦ k bucket new
    ]
