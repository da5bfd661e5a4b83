-- How the replicas that are kept grow, and follow a history.
use Rattle.std.proofs.Common.{◌≡◌, ◌∙◌, ℕ, zero, suc, Bool, true, false, cond, ◌||◌, Option, Some, None, option_map}
use Rattle.std.proofs.Common.{List, [], ◌∷◌, ◌++◌, map, length, position, slice_get, refl, sym, ap, append-nil}
use Rattle.std.proofs.Common.{◌+◌, not, nat_lt, arith, subst}
use Rattle.std.specs.Prelude.{is_some}
use Rattle.std.specs.List.{AllByRecursion, IsDistinct, position_or_len}
use Rattle.std.specs.Map.{keys_of}
use Rattle.std.proofs.lemmas.Bool.Decides.{nat_tests}
use Rattle.std.proofs.lemmas.Option.{slice_get-map, slice_get_within}
use Rattle.indexmap.specs.Layout.{set_value_at}
use Rattle.mon_value.proofs.PlainLemmas.{or_false}
use Rattle.mon_value.specs.LeafHistories.{IsWellFormed, MayFollow, begun_rows, entry_rows, entry_turns, is_opened}
use Rattle.mon_value.specs.LeafHistories.{same_replica, turn_entry}
use Rattle.mon_value.specs.Turns.{Turn, Adds, Hides, added_row, after_turns}
use Rattle.mon_value.specs.declared.histories.Entry.{Entry}
use Rattle.mon_value.specs.declared.histories.Entry.TheVariants as entry
use Rattle.mon_value.specs.declared.positions.Range.{Range}
use Rattle.mon_value.specs.declared.positions.Slot.{Slot}
use Rattle.mon_value.specs.declared.rows.Row.{Row}
use Rattle.mon_series.specs.SlotViews.{SlotView, all_kept}
use Rattle.leaf_store.specs.LeafStates.{opened_rows, slot_view}
use Rattle.leaf_store.specs.contracts.replicas.ReplicaPartialEq.TheImpl as derived
use Rattle.leaf_store.specs.declared.replicas.Replica.{Replica}
use Rattle.leaf_store.specs.within.Replicas.{HoldsHistory, IsPut, IsTurned, Replicas, place_in, rows_held, rows_if}
use Rattle.leaf_store.specs.within.Replicas.{with_turn}
use Rattle.leaf_store.proofs.FromBehindLemmas.{added_all}
use Rattle.leaf_store.proofs.KeptStepLemmas.{kept_after, kept_on}
use Rattle.mon_series.proofs.FirstLemmas.{IsFirst, first_found, first_position, get_there}
use Rattle.mon_value.proofs.KeptRowLemmas.{in_turn}
use Rattle.mon_value.proofs.LeafHistoryLemmas.{no_rows, opened_more, opened_same, parts_same, replica_rows-push}
use Rattle.mon_value.proofs.LeafHistoryLemmas.{same_tests}

-- ---- the test of a replica

abbrev pub own : Replica → Replica → Bool
own replica other = same_replica replica.range replica.slot other.range other.slot

-- the test of the map is that of the definitions
pub same_test : (replica : Replica) → derived.eq-value.it replica ≡ own replica
same_test replica = refl

own_same : (replica other : Replica) → own replica other ≡ true → other ≡ replica
own_same replica other same =
    let both = parts_same replica.range other.range replica.slot other.slot same in
    λ i. record { range = sym both.0 i; slot = sym both.1 i }

-- what holds of all holds of each
all_at : (P : Replica → Type 0) (keys : List Replica) (n : ℕ) (key : Replica) → AllByRecursion P keys
    → slice_get keys n ≡ Some key → P key
all_at P [] n key all there = absurd cc
all_at P (first ∷ keys) zero key all there = let same : first ≡ key = cc in subst P same all.0
all_at P (first ∷ keys) (suc n) key all there = all_at P keys n key all.1 there

-- the replica of a place is the only one
apart_from : (replica first : Replica) (keys : List Replica) (n : ℕ) (b : Bool) → own replica first ≡ b
    → AllByRecursion (λ other. own first other ≡ false) keys → slice_get keys n ≡ Some replica → b ≡ false
apart_from replica first keys n true same apart there =
    let one : first ≡ replica = own_same replica first same in
    let itself : own replica replica ≡ true = ap (own replica) (sym one) ∙ same in
    let other : own replica replica ≡ false =
    ap (λ (f : Replica). own f replica) (sym one) ∙ all_at (λ other. own first other ≡ false) keys n replica apart there in
    absurd cc
apart_from replica first keys n false same apart there = refl

same_itself : (replica : Replica) → own replica replica ≡ true
same_itself replica = grind (arith, nat_tests)

first_key : (replica : Replica) (keys : List Replica) (n : ℕ) → IsDistinct own keys → slice_get keys n ≡ Some replica
    → position_or_len (own replica) keys ≡ n
unfolding IsDistinct
first_key replica [] n distinct there = absurd cc
first_key replica (first ∷ keys) zero distinct there =
    let one : first ≡ replica = cc in
    let same : own replica first ≡ true = ap (own replica) one ∙ same_itself replica in
    ap (λ b. cond (not b) (1 + position_or_len (own replica) keys) 0) same
first_key replica (first ∷ keys) (suc n) distinct there =
    let other : own replica first ≡ false = apart_from replica first keys n (own replica first) refl distinct.0 there in
    let rest = first_key replica keys n distinct.1 there in
    ap (λ b. cond (not b) (1 + position_or_len (own replica) keys) 0) other ∙ omega (arith, rest)

key_at : (range : Range) (slot : Slot) (replicas : Replicas) (n : ℕ) (o : Option (Replica × SlotView))
    → slice_get replicas n ≡ o → is_some (rows_if range slot o) ≡ true
    → slice_get (keys_of replicas) n ≡ Some (record { range = range; slot = slot })
key_at range slot replicas n None there some = absurd cc
key_at range slot replicas n (Some held) there some =
    let replica : Replica = record { range = range; slot = slot } in
    slice_get-map (λ (e : Replica × SlotView). e.0) replicas n
    ∙ ap (option_map (λ (e : Replica × SlotView). e.0)) there
    ∙ ap (λ (r : Replica). Some r) (own_same replica held.0 (tested (own replica held.0) held.1 some))
  where
    tested : (b : Bool) (rows : SlotView) → is_some (cond b (Some rows) None) ≡ true → b ≡ true
    tested true rows is = refl
    tested false rows is = absurd cc

-- where a replica is, that is its place
pub place_there : (replicas : Replicas) (replica : Replica) (n : ℕ) → IsDistinct own (keys_of replicas)
    → is_some (rows_if replica.range replica.slot (slice_get replicas n)) ≡ true → place_in replicas replica ≡ Some n
place_there replicas replica n distinct some =
    let keys = keys_of replicas in
    let there = key_at replica.range replica.slot replicas n (slice_get replicas n) refl some in
    let at = first_key replica keys n distinct there in
    let within = slice_get_within keys n replica there in
    let below : nat_lt n (length keys) ≡ true = grind (arith, nat_tests) in
    ap (λ (m : ℕ). cond (nat_lt m (length keys)) (Some m) None) at ∙ ap (λ b. cond b (Some n) None) below

-- ---- a turn more

-- whether a replica is the one of a range and a slot
abbrev at_place : Range → Slot → Replica → Bool
at_place range slot replica = same_replica range slot replica.range replica.slot

-- the rows of a replica that is a certain one are changed
abbrev changed_if : Bool → (SlotView → SlotView) → SlotView → SlotView
changed_if b change held = cond b (change held) held

changed_here : (b : Bool) (change : SlotView → SlotView) (held : SlotView) (rest : Option SlotView)
    → cond b (Some (change held)) rest ≡ option_map (changed_if b change) (cond b (Some held) rest)
changed_here true change held rest = refl
changed_here false change held None = refl
changed_here false change held (Some other) = refl

changed_behind : (b same : Bool) (change : SlotView → SlotView) (held : SlotView) (rest new : Option SlotView)
    → (b ≡ true → same ≡ false) → new ≡ option_map (changed_if same change) rest
    → cond b (Some held) new ≡ option_map (changed_if same change) (cond b (Some held) rest)
changed_behind true same change held rest new apart e = ap (λ c. Some (cond c (change held) held)) (sym (apart refl))
changed_behind false same change held rest new apart e = e

-- two replicas that are at one place are the same
apart_at : (range : Range) (slot : Slot) (replica other : Replica) (b : Bool) → own replica other ≡ false
    → at_place range slot replica ≡ b
    → at_place range slot other ≡ true → b ≡ false
apart_at range slot replica other true apart here there =
    let same : own replica other ≡ true = sym (same_tests range replica.range slot replica.slot here other.range
    other.slot) ∙ there in
    absurd cc
apart_at range slot replica other false apart here there = refl

changed_rows : (replica : Replica) (replicas : Replicas) (n : ℕ) (change : SlotView → SlotView) (held : SlotView)
    → IsFirst (own replica) replicas n → slice_get replicas n ≡ Some (replica, held)
    → (range : Range) (slot : Slot) → rows_held (set_value_at replicas n (change held)) range slot
    ≡ option_map (changed_if (at_place range slot replica) change) (rows_held replicas range slot)
changed_rows replica [] n change held first there range slot = absurd first
changed_rows replica (e ∷ es) zero change held first there range slot =
    let same : e ≡ (replica, held) = cc in
    let at = at_place range slot replica in
    ap (λ (e : Replica × SlotView). cond (at_place range slot e.0) (Some (change held)) (rows_held es range slot)) same
    ∙ changed_here at change held (rows_held es range slot)
    ∙ ap (λ (e : Replica × SlotView). option_map (changed_if at change)
    (cond (at_place range slot e.0) (Some e.1) (rows_held es range slot))) (sym same)
changed_rows replica (e ∷ es) (suc n) change held first there range slot =
    changed_behind (at_place range slot e.0) (at_place range slot replica) change e.1 (rows_held es range slot)
    (rows_held (set_value_at es n (change held)) range slot)
    (λ is. apart_at range slot replica e.0 (at_place range slot replica) first.0 refl is)
    (changed_rows replica es n change held first.1 there range slot)

pub is_turned : (replicas : Replicas) (replica : Replica) (turn : Turn) (n number : ℕ) (held new : SlotView)
    → position (derived.eq-value.it replica) (keys_of replicas) ≡ Some n
    → Some held ≡ slice_get (map (λ e. e.1) replicas) n → new ≡ with_turn turn held → number ≡ n
    → IsTurned replicas (set_value_at replicas n new) replica turn number
is_turned replicas replica turn n number held new at found turned same =
    let first : IsFirst (own replica) replicas n = first_position (own replica) replicas n
    (ap (λ test. position test (keys_of replicas)) (sym (same_test replica)) ∙ at) in
    let there = get_there replicas n held found in
    let key = own_same replica there.0 (first_found (own replica) replicas n there.0 held first there.1).0 in
    let listed : slice_get replicas n ≡ Some (replica, held) = there.1 ∙ ap (λ (r : Replica). Some (r, held)) key in
    record {
      held = held;
      there = ap (slice_get replicas) same ∙ listed;
      each = λ range slot. ap (λ (all : SlotView). rows_held (set_value_at replicas n all) range slot) turned
          ∙ changed_rows replica replicas n (with_turn turn) held first listed range slot;
      changed = (λ i. set_value_at replicas (sym same i) (turned i));
    }

pub is_put : (replicas : Replicas) (replica : Replica) (row : Row) (n place number : ℕ) (held new : SlotView)
    → position (derived.eq-value.it replica) (keys_of replicas) ≡ Some n
    → Some held ≡ slice_get (map (λ e. e.1) replicas) n → place ≡ length held.rows → new ≡ with_turn (Adds row) held
    → number ≡ n → IsPut replicas (set_value_at replicas n new) replica row number place
unfolding is_turned
is_put replicas replica row n place number held new at found count turned same = record {
  turned = is_turned replicas replica (Adds row) n number held new at found turned same;
  place_is = count;
}

-- the rows at a replica's place are its own
pub placed_rows : (replicas : Replicas) (replica : Replica) (n : ℕ) (held : SlotView) → place_in replicas replica
    ≡ Some n
    → Some held ≡ slice_get (map (λ e. e.1) replicas) n → rows_held replicas replica.range replica.slot ≡ Some held
placed_rows replicas replica n held at found =
    let first : IsFirst (own replica) replicas n = first_position (own replica) replicas n at in
    let there = get_there replicas n held found in
    (first_found (own replica) replicas n there.0 held first there.1).1

-- ---- a replica more

taken_by : (b : Bool) (rows own : SlotView) (rest new : Option SlotView) (same : Bool) → (b ≡ true → same ≡ false)
    → new ≡ cond same (Some rows) rest
    → cond b (Some own) new ≡ cond same (Some rows) (cond b (Some own) rest)
taken_by true rows own rest new true apart e = absurd (let clash = apart refl in cc)
taken_by true rows own rest new false apart e = refl
taken_by false rows own rest new same apart e = e

absent_by : (first : Option SlotView) (b : Bool) (rest : Option SlotView) → cond b first rest ≡ None
    → (first ≡ None → ⊥) → (b ≡ false) × (rest ≡ None)
absent_by first true rest none some = absurd (some none)
absent_by first false rest none some = (refl, none)

pub taken_rows : (replicas : Replicas) (replica : Replica) (rows : SlotView) → rows_held replicas replica.range
    replica.slot ≡ None
    → (range : Range) (slot : Slot) → rows_held (replicas ++ (replica, rows) ∷ []) range slot
    ≡ cond (at_place range slot replica) (Some rows) (rows_held replicas range slot)
taken_rows [] replica rows fresh range slot = refl
taken_rows (e ∷ es) replica rows fresh range slot =
    let parts = absent_by (Some e.1) (own replica e.0) (rows_held es replica.range replica.slot) fresh (λ h. cc) in
    taken_by (at_place range slot e.0) rows e.1 (rows_held es range slot) (rows_held (es ++ (replica, rows) ∷ []) range
    slot) (at_place range slot replica)
    (λ is. apart_at range slot replica e.0 (at_place range slot replica) parts.0 refl is)
    (taken_rows es replica rows parts.1 range slot)

-- ---- a history with one entry more

-- the rows of a replica after an entry that opens nothing
abbrev after_entry : Range → Slot → Entry → SlotView → SlotView
after_entry range slot e held =
    record { rows = held.rows ++ entry_rows range slot e; kept = after_turns held.kept (entry_turns range slot e) }

begins_none : (range : Range) (slot : Slot) (e : Entry) → is_opened range slot (e ∷ []) ≡ false
    → begun_rows range slot e ≡ []
begins_none range slot (entry.Opened pass other place rows) none = by (same_replica range slot other place) none
  where
    by : (b : Bool) → (b || false) ≡ false → cond b rows [] ≡ []
    by true none = absurd cc
    by false none = refl
begins_none range slot (entry.Put pass other place row) none = refl
begins_none range slot (entry.Trim pass other place before) none = refl
begins_none range slot (entry.Down pass) none = refl
begins_none range slot (entry.Up pass) none = refl

-- an entry that opens nothing
opened_as_before : (range : Range) (slot : Slot) (history : List Entry) (last : Entry) → is_opened range slot
    (last ∷ []) ≡ false
    → opened_rows range slot (history ++ last ∷ []) ≡ cond (is_opened range slot history)
    (Some (after_entry range slot last (slot_view range slot history))) None
opened_as_before range slot history last none =
    let opened : is_opened range slot (history ++ last ∷ []) ≡ is_opened range slot history =
    opened_more range slot history (last ∷ []) ∙ ap (λ b. is_opened range slot history || b) none
    ∙ or_false (is_opened range slot history) in
    let rows = replica_rows-push range slot history last in
    let kept = kept_on range slot history last (begins_none range slot last none) in
    λ i. cond (opened i) (Some (record { rows = rows i; kept = kept i })) None

either_way : (b : Bool) (rows : List Row) → rows ≡ cond b rows rows
either_way true rows = refl
either_way false rows = refl

-- what a turn's entry does to the rows of a replica
turn_rows : (range other : Range) (slot place : Slot) (pass : ℕ) (turn : Turn)
    → entry_rows other place (turn_entry pass range slot turn)
    ≡ cond (same_replica other place range slot) (added_row turn) []
turn_rows range other slot place pass (Adds row) = refl
turn_rows range other slot place pass (Hides before) = either_way (same_replica other place range slot) []

turn_turns : (range other : Range) (slot place : Slot) (pass : ℕ) (turn : Turn)
    → entry_turns other place (turn_entry pass range slot turn)
    ≡ cond (same_replica other place range slot) (turn ∷ []) []
turn_turns range other slot place pass (Adds row) = refl
turn_turns range other slot place pass (Hides before) = refl

turn_opens : (range other : Range) (slot place : Slot) (pass : ℕ) (turn : Turn)
    → is_opened other place (turn_entry pass range slot turn ∷ []) ≡ false
turn_opens range other slot place pass (Adds row) = refl
turn_opens range other slot place pass (Hides before) = refl

turned_by : (b : Bool) (turn : Turn) (held : SlotView)
    → record { rows = held.rows ++ cond b (added_row turn) []; kept = after_turns held.kept (cond b (turn ∷ []) []) }
    ≡ changed_if b (with_turn turn) held
turned_by true turn held = refl
turned_by false turn held = λ i. record { rows = append-nil held.rows i; kept = held.kept }

mapped : (b : Bool) (change : SlotView → SlotView) (held : SlotView)
    → option_map change (cond b (Some held) None) ≡ cond b (Some (change held)) None
mapped true change held = refl
mapped false change held = refl

pub holds_turn : (old new : Replicas) (history : List Entry) (pass : ℕ) (range : Range) (slot : Slot) (turn : Turn)
    → ((other : Range) → (place : Slot) → rows_held new other place
    ≡ option_map (λ held. cond (same_replica other place range slot) (with_turn turn held) held)
    (rows_held old other place))
    → HoldsHistory old history → HoldsHistory new (history ++ turn_entry pass range slot turn ∷ [])
holds_turn old new history pass range slot turn turned held = λ other place.
    let same = same_replica other place range slot in
    let last = turn_entry pass range slot turn in
    let view = slot_view other place history in
    let rows = turn_rows range other slot place pass turn in
    let turns = turn_turns range other slot place pass turn in
    let after : after_entry other place last view ≡ changed_if same (with_turn turn) view =
    (λ i. record { rows = view.rows ++ rows i; kept = after_turns view.kept (turns i) }) ∙ turned_by same turn view in
    turned other place
    ∙ ap (option_map (changed_if same (with_turn turn))) (held other place)
    ∙ mapped (is_opened other place history) (changed_if same (with_turn turn)) view
    ∙ ap (λ (all : SlotView). cond (is_opened other place history) (Some all) None) (sym after)
    ∙ sym (opened_as_before other place history last (turn_opens range other slot place pass turn))

pub switch_rows : (range : Range) (slot : Slot) (history : List Entry) (last : Entry) → is_opened range slot
    (last ∷ []) ≡ false → entry_rows range slot last ≡ [] → entry_turns range slot last ≡ []
    → opened_rows range slot (history ++ last ∷ []) ≡ opened_rows range slot history
switch_rows range slot history last none rows turns =
    let view = slot_view range slot history in
    let after : after_entry range slot last view ≡ view =
    (λ i. record { rows = view.rows ++ rows i; kept = after_turns view.kept (turns i) })
    ∙ (λ i. record { rows = append-nil view.rows i; kept = view.kept }) in
    opened_as_before range slot history last none
    ∙ ap (λ (all : SlotView). cond (is_opened range slot history) (Some all) None) after

-- a replica that is opened had no rows, and another has those that it had
opened_by : (same opened : Bool) (had all : SlotView) (rows : List Row)
    → (same ≡ true → (opened ≡ false) × (had.rows ≡ []) × (had.kept ≡ []))
    → all.rows ≡ had.rows ++ cond same rows [] → all.kept ≡ after_turns had.kept (cond same (map Adds rows) [])
    → cond same (Some (all_kept rows)) (cond opened (Some had) None) ≡ cond (opened || (same || false)) (Some all) None
opened_by true true had all rows fresh e k = absurd (let wrong = (fresh refl).0 in cc)
opened_by true false had all rows fresh e k =
    let none = fresh refl in
    let came : all.rows ≡ rows = e ∙ ap (λ (front : List Row). front ++ rows) none.1 in
    let kept : all.kept ≡ rows = k ∙ ap (λ (front : List Row). after_turns front (map Adds rows)) none.2
    ∙ added_all [] rows in
    λ i. Some (record { rows = sym came i; kept = sym kept i })
opened_by false true had all rows fresh e k =
    let came : all.rows ≡ had.rows = e ∙ append-nil had.rows in
    λ i. Some (record { rows = sym came i; kept = sym k i })
opened_by false false had all rows fresh e k = refl

pub holds_opened : (old new : Replicas) (history : List Entry) (pass : ℕ) (range : Range) (slot : Slot)
    (rows : List Row) → IsWellFormed history
    → MayFollow history (entry.Opened pass range slot rows) → HoldsHistory old history
    → ((other : Range) → (place : Slot) → rows_held new other place ≡ cond (same_replica other place range slot)
    (Some (all_kept rows)) (rows_held old other place))
    → HoldsHistory new (history ++ entry.Opened pass range slot rows ∷ [])
holds_opened old new history pass range slot rows formed may held takes = λ other place.
    let same = same_replica other place range slot in
    let last = entry.Opened pass range slot rows in
    let opened = opened_more other place history (last ∷ []) in
    let turn = in_turn other place history formed in
    takes other place
    ∙ ap (cond same (Some (all_kept rows))) (held other place)
    ∙ opened_by same (is_opened other place history) (slot_view other place history)
    (slot_view other place (history ++ last ∷ [])) rows
    (λ is. let never : is_opened other place history ≡ false = opened_same other range place slot history is ∙ may.1
    in (
      never,
      no_rows other place history formed never,
      λ i. after_turns ((turn.none never).0 i) ((turn.none never).1 i),
    ))
    (replica_rows-push other place history last) (kept_after other place history last turn may)
    ∙ sym (λ i. cond (opened i) (Some (slot_view other place (history ++ last ∷ []))) None)
