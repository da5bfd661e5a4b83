-- Rows of a join that come one left row after another, where there is room for them.
use Rattle.std.proofs.Common.{◌≡◌, ℕ, ◌+◌, ◌<◌, List, ◌∷◌, ◌++◌, length, drop, get_or, Some, None, Ok, Err, Bool}
use Rattle.std.proofs.Common.{true, false, cond, refl, sym, ap, ◌∙◌, append_assoc, length-append}
use Rattle.std.specs.Prelude.{nat_lt}
use Rattle.std.specs.List.{flat_map}
use Rattle.std.proofs.lemmas.Bool.{lt-ltb}
use Rattle.std.proofs.lemmas.List.{drop_more}
use Rattle.mon_value.specs.Answers.{RefusesBy, Withholds}
use Rattle.mon_value.specs.declared.refusals.Refusal.{Refusal}
use Rattle.mon_value.specs.declared.refusals.Refusal.TheVariants as refusal
use Rattle.mon_value.specs.declared.tables.TimedRow.{TimedRow}
use Rattle.mon_table.specs.JoinRoom.{over_room, rows_within_room}
use Rattle.mon_table.specs.declared.pairs.OverRoom.{OverRoom}

abbrev over : ℕ → OverRoom
over room = record { room = room }

-- too many rows, and rows that are not too many
pub over_room-more : (room count : ℕ) → room < count → over_room room count ≡ Some (over room)
over_room-more room count more = ap (λ b. cond b (Some (over room)) None) (lt-ltb room count more)

kept_at : (room : ℕ) (rows : List TimedRow) (b : Bool) → cond b (Some (over room)) None ≡ None
    → cond b (Err (over room)) (Ok rows) ≡ Ok rows
kept_at room rows true none = absurd cc
kept_at room rows false none = refl

-- rows that have room are given
pub rows_kept : (room : ℕ) (rows : List TimedRow) → over_room room (length rows) ≡ None → rows_within_room room rows
    ≡ Ok rows
rows_kept room rows none = kept_at room rows (nat_lt room (length rows)) none

withheld_at : (room : ℕ) (rows : List TimedRow) (why : OverRoom) (b : Bool) → cond b (Some (over room)) None ≡ Some why
    → cond b (Err (over room)) (Ok rows) ≡ Err why
withheld_at room rows why true some = cc
withheld_at room rows why false some = absurd cc

-- rows that have none are withheld
pub rows_withheld : (room : ℕ) (rows : List TimedRow) (r : Refusal OverRoom)
    → RefusesBy r (over_room room (length rows)) → Withholds r (rows_within_room room rows)
rows_withheld room rows (refusal.Fault why) refused = withheld_at room rows why (nat_lt room (length rows)) refused
rows_withheld room rows refusal.OutOfMemory refused = tt

module _ (f : TimedRow → List TimedRow) (xs : List TimedRow) (i : ℕ) (x : TimedRow) (within : i < length xs)
    (is : x ≡ get_or xs i x) where
  pub next_rows : flat_map f (drop i xs) ≡ f x ++ flat_map f (drop (i + 1) xs)
  next_rows = ap (flat_map f) (drop_more xs i x within ∙ ap (λ y. y ∷ drop (i + 1) xs) (sym is))

  -- how many rows come of those that are left
  pub next_count : length (flat_map f (drop i xs)) ≡ length (f x) + length (flat_map f (drop (i + 1) xs))
  next_count = ap length next_rows ∙ length-append (f x) (flat_map f (drop (i + 1) xs))

  -- the rows of one left row more
  pub rows_more : (rows : List TimedRow) → rows ++ flat_map f (drop i xs) ≡ flat_map f xs → (rows ++ f x)
      ++ flat_map f (drop (i + 1) xs) ≡ flat_map f xs
  rows_more rows so_far = append_assoc rows (f x) (flat_map f (drop (i + 1) xs)) ∙ ap (λ more. rows ++ more)
      (sym next_rows) ∙ so_far
