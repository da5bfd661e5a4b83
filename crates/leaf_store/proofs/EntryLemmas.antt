-- Entries that are kept, as replicas grow.
use Rattle.std.proofs.Common.{◌≡◌, ◌∙◌, ◌≤◌, nat_lt, ℕ, ℤ, zero, suc, Bool, true, false, cond, Option, Some, None}
use Rattle.std.proofs.Common.{option_map, List, [], ◌∷◌, ◌++◌, length, take, slice_get, refl, sym, ap, subst}
use Rattle.std.proofs.Common.{append-nil, arith}
use Rattle.std.specs.Prelude.{is_some}
use Rattle.std.proofs.lemmas.Bool.Decides.{nat_tests}
use Rattle.std.proofs.lemmas.List.{length-append, take-append-le}
use Rattle.std.proofs.Math.Seq.{take-length}
use Rattle.indexmap.specs.Layout.{set_value_at}
use Rattle.mon_value.specs.declared.histories.Entry.{Entry}
use Rattle.mon_value.specs.declared.histories.Entry.TheVariants as entry
use Rattle.mon_value.specs.declared.rows.Row.{Row}
use Rattle.mon_value.specs.Turns.{Turn, Adds, Hides, added_row}
use Rattle.mon_series.specs.SlotViews.{SlotView, all_kept}
use Rattle.leaf_store.specs.declared.kept.Kept.{Kept}
use Rattle.leaf_store.specs.declared.kept.Kept.TheVariants as kept
use Rattle.leaf_store.specs.declared.replicas.Replica.{Replica}
use Rattle.leaf_store.specs.within.Replicas.{AllHaveRows, IsNewReplica, IsReplicaAdded, IsPut, IsTurned, Replicas}
use Rattle.leaf_store.specs.within.Replicas.{SettlesEntry, entry_of, front_rows, opened_entry, put_entry, rows_held}
use Rattle.leaf_store.specs.within.Replicas.{shown_entries, trim_entry, with_first, with_turn}
use Rattle.leaf_store.proofs.ReplicaLemmas.{holds_opened, holds_turn, switch_rows, taken_rows}
use Rattle.mon_value.proofs.PlainLemmas.{get_front, get_next}

-- ---- rows that are there stay

-- a replica has its number, and its rows in front
abbrev IsLonger : Replicas → ℕ → Replica × SlotView → Type 0
IsLonger new n held =
    (next : SlotView) × (more : List Row) × (slice_get new n ≡ Some (held.0, next)) × (next.rows ≡ held.1.rows ++ more)

abbrev pub Grows : Replicas → Replicas → Type 0
Grows old new = (n : ℕ) (held : Replica × SlotView) → slice_get old n ≡ Some held → IsLonger new n held

stays_there : (new : Replicas) (n : ℕ) (held : Replica × SlotView) → slice_get new n ≡ Some held → IsLonger new n held
stays_there new n held e = (held.1, [], e, sym (append-nil held.1.rows))

pub grows_new : (old more : Replicas) → Grows old (old ++ more)
grows_new old more n held e = stays_there (old ++ more) n held (get_front old more n held e)

pub grows_turn : (old : Replicas) (at : ℕ) (replica : Replica) (own : SlotView) (turn : Turn) → slice_get old at
    ≡ Some (replica, own) → Grows old (set_value_at old at (with_turn turn own))
grows_turn [] at replica own turn there n held e = absurd cc
grows_turn (o ∷ old) zero replica own turn there zero held e =
    let one : o ≡ (replica, own) = cc in
    let two : o ≡ held = cc in
    let same : own ≡ held.1 = ap (λ (h : Replica × SlotView). h.1) (sym one ∙ two) in (
      with_turn turn own,
      added_row turn,
      ap (λ (h : Replica × SlotView). Some (h.0, with_turn turn own)) two,
      ap (λ (h : SlotView). h.rows ++ added_row turn) same,
    )
grows_turn (o ∷ old) zero replica own turn there (suc n) held e =
    stays_there (set_value_at (o ∷ old) zero (with_turn turn own)) (suc n) held e
grows_turn (o ∷ old) (suc at) replica own turn there zero held e =
    stays_there (set_value_at (o ∷ old) (suc at) (with_turn turn own)) zero held e
grows_turn (o ∷ old) (suc at) replica own turn there (suc n) held e = grows_turn old at replica own turn there n held e

front_by : (count : ℕ) (rows more front : List Row) (b : Bool) → nat_lt (length rows) count ≡ b
    → cond b None (Some (take count rows)) ≡ Some front
    → front_rows count (rows ++ more) ≡ Some front
front_by count rows more front true less e = absurd cc
front_by count rows more front false less e =
    let within : count ≤ length rows = grind (arith, nat_tests) in
    let all = length-append rows more in
    let longer : nat_lt (length (rows ++ more)) count ≡ false = grind (arith, nat_tests) in
    ap (λ b. cond b None (Some (take count (rows ++ more)))) longer ∙ ap Some (take-append-le count rows more within)
    ∙ e

front_more : (count : ℕ) (rows more front : List Row) → front_rows count rows ≡ Some front → front_rows count
    (rows ++ more) ≡ Some front
front_more count rows more front e = front_by count rows more front (nat_lt (length rows) count) refl e

pub front_all : (rows : List Row) → front_rows (length rows) rows ≡ Some rows
front_all rows =
    let all : nat_lt (length rows) (length rows) ≡ false = grind (arith, nat_tests) in
    ap (λ b. cond b None (Some (take (length rows) rows))) all ∙ ap Some (take-length rows)

some_map : {A B : Type 0} (f : A → B) (o p : Option A) (b : B) → ((a : A) → o ≡ Some a → p ≡ Some a) → option_map f o
    ≡ Some b → option_map f p ≡ Some b
some_map f None p b same e = absurd cc
some_map f (Some a) p b same e = ap (option_map f) (same a refl) ∙ e

opened_kept : (new : Replicas) (n pass count : ℕ) (o : Option (Replica × SlotView)) (e : Entry)
    → ((held : Replica × SlotView) → o ≡ Some held → IsLonger new n held)
    → opened_entry pass count o ≡ Some e → opened_entry pass count (slice_get new n) ≡ Some e
opened_kept new n pass count None e grows is = absurd cc
opened_kept new n pass count (Some held) e grows is =
    let g = grows held refl in
    let make = entry.Opened pass held.0.range held.0.slot in
    ap (opened_entry pass count) g.2
    ∙ ap (λ (rows : List Row). option_map make (front_rows count rows)) g.3
    ∙ some_map make (front_rows count held.1.rows) (front_rows count (held.1.rows ++ g.1)) e
    (λ front f. front_more count held.1.rows g.1 front f) is

put_kept : (new : Replicas) (n pass row : ℕ) (o : Option (Replica × SlotView)) (e : Entry)
    → ((held : Replica × SlotView) → o ≡ Some held → IsLonger new n held)
    → put_entry pass row o ≡ Some e → put_entry pass row (slice_get new n) ≡ Some e
put_kept new n pass row None e grows is = absurd cc
put_kept new n pass row (Some held) e grows is =
    let g = grows held refl in
    let make = entry.Put pass held.0.range held.0.slot in
    ap (put_entry pass row) g.2
    ∙ ap (λ (rows : List Row). option_map make (slice_get rows row)) g.3
    ∙ some_map make (slice_get held.1.rows row) (slice_get (held.1.rows ++ g.1) row) e
    (λ r f. get_front held.1.rows g.1 row r f) is

trim_kept : (new : Replicas) (n pass : ℕ) (before : ℤ) (o : Option (Replica × SlotView)) (e : Entry)
    → ((held : Replica × SlotView) → o ≡ Some held → IsLonger new n held)
    → trim_entry pass before o ≡ Some e → trim_entry pass before (slice_get new n) ≡ Some e
trim_kept new n pass before None e grows is = absurd cc
trim_kept new n pass before (Some held) e grows is = ap (trim_entry pass before) (grows held refl).2 ∙ is

pub entry_kept : (old new : Replicas) → Grows old new → (k : Kept) (e : Entry) → entry_of old k ≡ Some e
    → entry_of new k ≡ Some e
entry_kept old new grows (kept.Opened pass number count) e is =
    opened_kept new number pass count (slice_get old number) e (grows number) is
entry_kept old new grows (kept.Put pass number row) e is =
    put_kept new number pass row (slice_get old number) e (grows number) is
entry_kept old new grows (kept.Trim pass number before) e is =
    trim_kept new number pass before (slice_get old number) e (grows number) is
entry_kept old new grows (kept.Down pass) e is = is
entry_kept old new grows (kept.Up pass) e is = is

-- ---- one entry more

set_there : (old : Replicas) (at : ℕ) (replica : Replica) (held new : SlotView) → slice_get old at
    ≡ Some (replica, held)
    → slice_get (set_value_at old at new) at ≡ Some (replica, new)
set_there [] at replica held new there = absurd cc
set_there (o ∷ old) zero replica held new there = let one : o ≡ (replica, held) = cc in
    ap (λ (h : Replica × SlotView). Some (h.0, new)) one
set_there (o ∷ old) (suc at) replica held new there = set_there old at replica held new there

module _ (old new : Replicas) (replica : Replica) (turn : Turn) (number : ℕ)
    (turned : IsTurned old new replica turn number) where
  turn_keeps : (k : Kept) (e : Entry) → entry_of old k ≡ Some e → entry_of new k ≡ Some e
  turn_keeps = entry_kept old new (subst (Grows old) (sym turned.changed) (grows_turn old number replica turned.held turn
      turned.there))

  turn_there : slice_get new number ≡ Some (replica, with_turn turn turned.held)
  turn_there = ap (λ (all : Replicas). slice_get all number) turned.changed
      ∙ set_there old number replica turned.held (with_turn turn turned.held) turned.there

pub put_settles : (old new : Replicas) (pass : ℕ) (replica : Replica) (row : Row) (number place : ℕ)
    → IsPut old new replica row number place
    → SettlesEntry old new (entry.Put pass replica.range replica.slot row) (kept.Put pass number place)
put_settles old new pass replica row number place put =
    let turned = put.turned in
    let rows = turned.held.rows in
    let make = entry.Put pass replica.range replica.slot in
    record {
      keeps = turn_keeps old new replica (Adds row) number turned;
      own_is = ap (put_entry pass place) (turn_there old new replica (Adds row) number turned)
          ∙ ap (λ n. option_map make (slice_get (rows ++ row ∷ []) n)) put.place_is
          ∙ ap (option_map make) (get_next rows row);
      holds = λ history formed follows held. holds_turn old new history pass replica.range replica.slot (Adds row)
          turned.each held;
    }

pub trim_settles : (old new : Replicas) (pass : ℕ) (replica : Replica) (before : ℤ) (number : ℕ)
    → IsTurned old new replica (Hides before) number
    → SettlesEntry old new (entry.Trim pass replica.range replica.slot before) (kept.Trim pass number before)
trim_settles old new pass replica before number turned = record {
  keeps = turn_keeps old new replica (Hides before) number turned;
  own_is = ap (trim_entry pass before) (turn_there old new replica (Hides before) number turned);
  holds = λ history formed follows held. holds_turn old new history pass replica.range replica.slot (Hides before)
      turned.each held;
}

pub opened_settles : (old new : Replicas) (pass : ℕ) (replica : Replica) (rows : List Row) (number count : ℕ)
    → IsNewReplica old replica
    → IsReplicaAdded old new replica rows number count
    → SettlesEntry old new (entry.Opened pass replica.range replica.slot rows)
    (kept.Opened pass number count)
opened_settles old new pass replica rows number count fresh opened = record {
  keeps = entry_kept old new (subst (Grows old) (sym opened.grown) (grows_new old ((replica, all_kept rows) ∷ [])));
  own_is = ap (opened_entry pass count) ((λ i. slice_get (opened.grown i) (opened.number_is i))
      ∙ get_next old (replica, all_kept rows))
      ∙ ap (λ n. option_map (entry.Opened pass replica.range replica.slot) (front_rows n rows)) opened.count_is
      ∙ ap (option_map (entry.Opened pass replica.range replica.slot)) (front_all rows);
  holds = λ history formed follows held. holds_opened old new history pass replica.range replica.slot rows formed
      follows held
      (λ other place. ap (λ (all : Replicas). rows_held all other place) opened.grown
      ∙ taken_rows old replica (all_kept rows) fresh other place);
}

pub down_settles : (old : Replicas) (pass : ℕ) → SettlesEntry old old (entry.Down pass) (kept.Down pass)
down_settles old pass = record {
  keeps = λ k e is. is;
  own_is = refl;
  holds = λ history formed follows held. λ range slot. held range slot
      ∙ sym (switch_rows range slot history (entry.Down pass) refl refl refl);
}

pub up_settles : (old : Replicas) (pass : ℕ) → SettlesEntry old old (entry.Up pass) (kept.Up pass)
up_settles old pass = record {
  keeps = λ k e is. is;
  own_is = refl;
  holds = λ history formed follows held. λ range slot. held range slot
      ∙ sym (switch_rows range slot history (entry.Up pass) refl refl refl);
}

-- ---- the entries that are kept

some_there : (o : Option Entry) → is_some o ≡ true → (e : Entry) × (o ≡ Some e)
some_there None e = absurd cc
some_there (Some entry) e = (entry, refl)

pub shown_kept : (old new : Replicas) (ks : List Kept) → ((k : Kept) (e : Entry) → entry_of old k ≡ Some e
    → entry_of new k ≡ Some e) → AllHaveRows old ks
    → (shown_entries new ks ≡ shown_entries old ks) × AllHaveRows new ks
shown_kept old new [] keeps there = (refl, tt)
shown_kept old new (k ∷ ks) keeps there =
    let found = some_there (entry_of old k) there.0 in
    let again = keeps k found.0 found.1 in
    let rest = shown_kept old new ks keeps there.1 in
    ((λ i. with_first ((again ∙ sym found.1) i) (rest.0 i)), (ap is_some again, rest.1))

pub shown_push : (replicas : Replicas) (ks : List Kept) (k : Kept) (e : Entry) → entry_of replicas k ≡ Some e
    → shown_entries replicas (ks ++ k ∷ []) ≡ shown_entries replicas ks ++ e ∷ []
shown_push replicas [] k e is = ap (λ (o : Option Entry). with_first o []) is
shown_push replicas (first ∷ ks) k e is = ap (with_first (entry_of replicas first)) (shown_push replicas ks k e is)
    ∙ by (entry_of replicas first)
  where
    by : (o : Option Entry) → with_first o (shown_entries replicas ks ++ e ∷ [])
        ≡ with_first o (shown_entries replicas ks) ++ e ∷ []
    by None = refl
    by (Some f) = refl

pub there_push : (replicas : Replicas) (ks : List Kept) (k : Kept) (e : Entry) → entry_of replicas k ≡ Some e
    → AllHaveRows replicas ks → AllHaveRows replicas (ks ++ k ∷ [])
there_push replicas [] k e is there = (ap is_some is, tt)
there_push replicas (first ∷ ks) k e is there = (there.0, there_push replicas ks k e is there.1)

pub shown_count : (replicas : Replicas) (ks : List Kept) → AllHaveRows replicas ks → length (shown_entries replicas ks)
    ≡ length ks
shown_count replicas [] there = refl
shown_count replicas (k ∷ ks) there =
    let found = some_there (entry_of replicas k) there.0 in
    ap (λ (o : Option Entry). length (with_first o (shown_entries replicas ks))) found.1
    ∙ ap suc (shown_count replicas ks there.1)

pub shown_take : (replicas : Replicas) (ks : List Kept) (n : ℕ) → AllHaveRows replicas ks
    → (shown_entries replicas (take n ks) ≡ take n (shown_entries replicas ks)) × AllHaveRows replicas (take n ks)
shown_take replicas [] zero there = (refl, tt)
shown_take replicas [] (suc n) there = (refl, tt)
shown_take replicas (k ∷ ks) zero there = (refl, tt)
shown_take replicas (k ∷ ks) (suc n) there =
    let found = some_there (entry_of replicas k) there.0 in
    let rest = shown_take replicas ks n there.1 in (
      ap (λ (o : Option Entry). with_first o (shown_entries replicas (take n ks))) found.1
          ∙ ap (λ (es : List Entry). found.0 ∷ es) rest.0
          ∙ ap (λ (o : Option Entry). take (suc n) (with_first o (shown_entries replicas ks))) (sym found.1),
      (there.0, rest.1),
    )
