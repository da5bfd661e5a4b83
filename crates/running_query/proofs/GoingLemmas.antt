-- What each look keeps, and that it is kept by looks one after another.
use Rattle.std.proofs.Common.{◌≡◌, ◌∙◌, ◌+◌, ◌-◌, ◌^◌, ◌⊎◌, inl, inr, ℕ, List, [], ◌∷◌, ◌++◌, refl, sym, ap, subst}
use Rattle.std.proofs.Common.{append_assoc, arith}
use Rattle.std.specs.Prelude.{length}
use Rattle.std.specs.List.{sum_by}
use Rattle.std.proofs.lemmas.Bool.{cases_lt}
use Rattle.std.proofs.lemmas.List.{append-nil}
use Rattle.history_book.specs.Histories.{AreFronts}
use Rattle.history_book.specs.Numbers.{times_among}
use Rattle.history_book.specs.declared.numbers.Numbers.{Numbers}
use Rattle.history_book.specs.Seats.{length_note, times_lost}
use Rattle.history_book.specs.declared.views.Purse.{Purse}
use Rattle.know.specs.Knowledge as knowledge
use Rattle.know.specs.Knowledge.{Knowledge, stopped_count}
use Rattle.know.specs.Sound.{IsSound}
use Rattle.mon_hints.specs.declared.places.Place.{Place}
use Rattle.mon_topo.specs.Settings.{Setting}
use Rattle.mon_topo.specs.Sights.{sight_of}
use Rattle.mon_value.specs.Histories.{leaf_history, range_history}
use Rattle.mon_value.specs.declared.histories.Entry.{Entry}
use Rattle.mon_value.specs.declared.histories.Histories.{Histories}
use Rattle.mon_value.specs.declared.positions.Leaf.{Leaf}
use Rattle.mon_value.specs.declared.positions.Range.{Range}
use Rattle.owners.specs.Calls.{HasCalled}
use Rattle.query_traces.specs.SeenSights.{seen_of}
use Rattle.query_traces.specs.declared.asks.Seen.{Seen}
use Rattle.query_traces.specs.declared.asks.Told.TheVariants as told
use Rattle.raise_table.specs.Seats.{HasKnown, KnowsAsMuch, note}
use Rattle.range_cell.specs.Calls.{HasMetRange}
use Rattle.running_query.specs.Looks.{GoesOn}
use Rattle.running_query.specs.Notes.{HandsOut, IsHanded}
use Rattle.running_query.specs.Telling.{IsWordTold}
use Rattle.range_cell.proofs.LookingLemmas.{none_kept}

-- ---- going on twice

pub fronts_through : (a b c : Histories) → AreFronts a b → AreFronts b c → AreFronts a c
fronts_through a b c one two = (
  λ leaf. (
    (one.0 leaf).0 ++ (two.0 leaf).0,
    sym (append_assoc (leaf_history a leaf) (one.0 leaf).0 (two.0 leaf).0)
        ∙ ap (λ h. h ++ (two.0 leaf).0) (one.0 leaf).1 ∙ (two.0 leaf).1,
  ),
  λ range. (
    (one.1 range).0 ++ (two.1 range).0,
    sym (append_assoc (range_history a range) (one.1 range).0 (two.1 range).0)
        ∙ ap (λ h. h ++ (two.1 range).0) (one.1 range).1 ∙ (two.1 range).1,
  ),
)

pub goes_through : (store : Setting) (a b c : Knowledge) → GoesOn store a b → GoesOn store b c → GoesOn store a c
goes_through store a b c one two = record {
  fronts = fronts_through a.seen b.seen c.seen one.fronts two.fronts;
  knows = λ place bucket bit k. two.knows place bucket bit (one.knows place bucket bit k);
  own = two.own ∙ one.own;
  met = two.met ∙ one.met;
  stock = two.stock ∙ one.stock;
  lost = λ n. two.lost n ∙ one.lost n;
  rooms = two.rooms ∙ one.rooms;
  holds = two.holds ∙ one.holds;
  lengths = one.lengths ++ two.lengths;
  lengths_are = two.lengths_are ∙ ap (λ notes. notes ++ two.lengths) one.lengths_are
      ∙ append_assoc a.purse.notes one.lengths two.lengths;
  words = one.words ++ two.words;
  words_are = two.words_are ∙ ap (λ notes. notes ++ two.words) one.words_are
      ∙ append_assoc a.hints.notes one.words two.words;
  sound = two.sound;
}

-- ---- what one look keeps

abbrev times_lost_in : ℕ → List Numbers → ℕ
times_lost_in n lost = sum_by (times_among n) lost

pub same_fronts : (seen : Histories) → AreFronts seen seen
same_fronts seen = (λ leaf. ([], append-nil (leaf_history seen leaf)), λ range. ([], append-nil (range_history seen range)))

-- nothing has changed
pub same_goes : (store : Setting) (know : Knowledge) → IsSound store know.hints know.seen → GoesOn store know know
same_goes store know sound = record {
  fronts = same_fronts know.seen;
  knows = λ place bucket bit k. k;
  own = refl;
  met = refl;
  stock = refl;
  lost = λ n. refl;
  rooms = refl;
  holds = refl;
  lengths = [];
  lengths_are = sym (append-nil know.purse.notes);
  words = [];
  words_are = sym (append-nil know.hints.notes);
  sound = sound;
}

-- a word was loaded
module _ (store : Setting) (place : Place) (bucket word : ℕ) (old new : Knowledge)
    (is : new ≡ knowledge.after_load place bucket word old) where
  seen_same : new.seen ≡ old.seen
  seen_same = ap (λ (know : Knowledge). know.seen) is

  purse_same : new.purse ≡ old.purse
  purse_same = ap (λ (know : Knowledge). know.purse) is

  pub load_goes : KnowsAsMuch old.hints new.hints → IsSound store new.hints new.seen → GoesOn store old new
  load_goes knows sound = record {
    fronts = subst (λ (seen : Histories). AreFronts old.seen seen) (sym seen_same) (same_fronts old.seen);
    knows = knows;
    own = ap (λ (purse : Purse). purse.own) purse_same;
    met = ap (λ (purse : Purse). purse.met) purse_same;
    stock = ap (λ (purse : Purse). purse.stock) purse_same;
    lost = λ n. ap (times_lost n) purse_same;
    rooms = ap (λ (purse : Purse). purse.rooms) purse_same;
    holds = ap (λ (purse : Purse). purse.holds) purse_same;
    lengths = [];
    lengths_are = ap (λ (purse : Purse). purse.notes) purse_same ∙ sym (append-nil old.purse.notes);
    words = note place bucket word ∷ [];
    words_are = ap (λ (know : Knowledge). know.hints.notes) is;
    sound = sound;
  }

  pub load_told : (seen : Seen) → seen ≡ seen_of (sight_of old.seen) → HasKnown old.hints place bucket word
      → IsWordTold place bucket old new (told.Word word seen)
  load_told seen e known = record {
    word = word;
    is = ap (λ (s : Seen). told.Word word s) e;
    known = known;
    noted = ap (λ (know : Knowledge). know.hints.notes) is;
    lengths = ap (λ (purse : Purse). purse.notes) purse_same;
    handed = ap (λ (know : Knowledge). know.handed) is;
  }

-- a range was met
pub met_goes : (store : Setting) (leaves : ℕ) (range : Range) (before after : Knowledge)
    → HasMetRange leaves range before.purse.holds before after → IsSound store after.hints after.seen
    → GoesOn store before after
met_goes store leaves range before after met sound = record {
  fronts = met.fronts;
  knows = met.knows;
  own = met.own;
  met = met.met;
  stock = met.stock;
  lost = λ n. ap (times_lost_in n) met.lost;
  rooms = met.rooms;
  holds = met.holding;
  lengths = length_note (leaves + range.0) (length (range_history after.seen range)) ∷ [];
  lengths_are = met.notes;
  words = [];
  words_are = met.hint_notes ∙ sym (append-nil before.hints.notes);
  sound = sound;
}

pub called_goes : (store : Setting) (leaf : Leaf) (history : List Entry) (before after : Knowledge)
    → HasCalled leaf history [] before after → after.purse.rooms ≡ before.purse.rooms
    → IsSound store after.hints after.seen → GoesOn store before after
called_goes store leaf history before after called rooms sound = record {
  fronts = called.fronts;
  knows = called.knows;
  own = called.own ∙ none_kept leaf before.purse.own;
  met = called.met;
  stock = called.stock;
  lost = λ n. ap (times_lost_in n) called.lost;
  rooms = rooms;
  holds = called.holds;
  lengths = length_note leaf.0 (length history) ∷ [];
  lengths_are = called.notes;
  words = [];
  words_are = called.hint_notes ∙ sym (append-nil before.hints.notes);
  sound = sound;
}

-- ---- what is handed out

stopped_cases : (n : ℕ) → (stopped_count n ≡ n) ⊎ (stopped_count n ≡ 2 ^ 64 - 1)
stopped_cases n = elim (cases_lt n (2 ^ 64 - 1)) [
  | inl less ↦ inl (omega (arith, less))
  | inr most ↦ inr (omega (arith, most))
]

pub handed_more : (before much after more new : ℕ) → IsHanded before much after → HandsOut after more new
    → IsHanded before (much + more) new
handed_more before much after more new one (inr none) = elim one [
  | inl e ↦ inl (omega (arith, e, none.0, none.1))
  | inr e ↦ inr (none.0 ∙ e)
]
handed_more before much after more new one (inl two) = elim one [
  | inl e ↦ elim (stopped_cases (after + more)) [
    | inl f ↦ inl (omega (arith, e, two, f))
    | inr f ↦ inr (two ∙ f)
  ]
  | inr e ↦ elim (stopped_cases (after + more)) [
    | inl f ↦ inr (omega (arith, e, two, f))
    | inr f ↦ inr (two ∙ f)
  ]
]
