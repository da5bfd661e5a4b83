-- What a caller has once a turn came to a range at its cell, and that a row which came so was written.
use Rattle.std.proofs.Common.{◌≡◌, ℕ, ◌+◌, ◌<◌, Bool, true, List, [], ◌∷◌, ◌++◌, length, drop, map}
use Rattle.std.proofs.Common.{cond, nat_eq, refl, sym, ap, subst, ◌∙◌, arith, Some, None, inl, inr}
use Rattle.std.proofs.Common.{◌⊎◌, ◌&&◌, filter}
use Rattle.std.specs.Prelude.{Contains, option_map}
use Rattle.std.specs.List.{flat_map}
use Rattle.std.proofs.lemmas.Bool.Decides.{nat_tests}
use Rattle.std.proofs.lemmas.List.{append-nil, append_assoc}
use Rattle.std.proofs.lemmas.List.Elements.{Contains-append_cases}
use Rattle.std.proofs.lemmas.List.Sums.{sum_by-cons}
use Rattle.history_book.specs.Histories.{entries, is_under}
use Rattle.history_book.specs.Seats.{IsPurseBorneOut, kept_with, times_room}
use Rattle.history_book.specs.declared.views.BookEntry.{BookEntry}
use Rattle.history_book.specs.declared.views.BookEntry.TheVariants as one
use Rattle.history_book.specs.declared.views.History.{History}
use Rattle.history_book.specs.declared.views.History.TheVariants as of
use Rattle.history_book.specs.declared.views.Kept.{Kept}
use Rattle.know.specs.Knowledge.{Knowledge}
use Rattle.know.specs.Sound.{IsSound}
use Rattle.mon_config.specs.Configs.{range_of_key}
use Rattle.mon_config.specs.declared.config.Config.{Config}
use Rattle.mon_schema.specs.Names.{SchemaLists}
use Rattle.mon_topo.proofs.FrontLemmas.{begins_push}
use Rattle.mon_topo.proofs.RangeHistoryLemmas.{AreApart, all_at, numbered}
use Rattle.mon_topo.specs.HeldHistories.{BeginsWith}
use Rattle.mon_topo.specs.RangeHistories as range_spec
use Rattle.mon_topo.specs.RangeHistories.{IsLegal, serving, IsAckOf, turn_ack}
use Rattle.mon_topo.specs.Settings.{Setting}
use Rattle.mon_topo.specs.Zones.{leaves_in, ranges_in}
use Rattle.mon_topo.specs.declared.zones.ZoneSpec.{ZoneSpec}
use Rattle.mon_value.specs.Histories.{same_leaf}
use Rattle.mon_value.specs.Turns.{Turn, Adds, Hides}
use Rattle.mon_value.specs.declared.histories.Ack.{Ack}
use Rattle.mon_value.specs.declared.histories.Miss.{Miss}
use Rattle.mon_value.specs.declared.histories.RangeEntry.{RangeEntry}
use Rattle.mon_value.specs.declared.positions.Leaf.{Leaf}
use Rattle.mon_value.specs.declared.positions.Range.{Range}
use Rattle.mon_value.specs.declared.positions.SlotLeaf.{SlotLeaf}
use Rattle.mon_value.specs.declared.rows.Row.{Row}
use Rattle.owners.specs.Puts.{pass_of}
use Rattle.mon_store.proofs.AddedLemmas.{ack_added, only_is, put_is, puts_added, puts_number, took_apart, took_in}
use Rattle.mon_store.proofs.AddedLemmas.{took_of, took_slots, turned_differ}
use Rattle.mon_store.proofs.CarriedLemmas.{HasGoneOver, HasReturned, over_carried, over_down, over_found}
use Rattle.mon_store.proofs.WriteLemmas.{HaveCome, IsCarried, added_new, added_own, added_still, all_come, has_own}
use Rattle.mon_store.proofs.WriteLemmas.{own_is, written_pass}
use Rattle.mon_store.specs.Passes.{IsPass}
use Rattle.mon_store.specs.Writes.{IsWritten, only_in, own_entries, IsStill, WasFoundSo, new_entries, turn_in, turned}
use Rattle.running_query.specs.Ends.{WasFoundDown}
use Rattle.range_cell.specs.Calls.{HasBegun}
use Rattle.range_cell.specs.Stages.{IsThrough}
use Rattle.range_cell.specs.Writes.{HasAcknowledged}
use Rattle.range_cell.specs.Writing.{IsFated, put_of, ready_count, with_puts, HasComeSince}
use Rattle.write_core.proofs.AckLemmas.{missed_in}
use Rattle.mon_value.proofs.PlainLemmas.{in_map}
use Rattle.write_core.specs.Invariant.{AreAll, is_decided}
use Rattle.write_core.specs.Marks.{is_ready, replica_of}
use Rattle.write_core.specs.RangeAnswers.{refusal}
use Rattle.write_core.specs.declared.marks.Fate.{Fate}
use Rattle.write_core.specs.declared.marks.Fate.TheVariants as fate
use Rattle.write_core.specs.declared.marks.Mark.{Mark}
use Rattle.mon_value.specs.LeafHistories.{turn_entry}
use Rattle.mon_value.specs.declared.positions.Slot.{Slot}
use Rattle.mon_store.proofs.OwnLemmas.{leaf_since, range_since}
use Rattle.running_query.proofs.GoingLemmas.{same_fronts}

-- ---- legal histories

-- the last entry of a legal history may follow those before it
module _ (held : SchemaLists) (zones : List ZoneSpec) (points : ℕ) (range : Range) where
  last_follows : (before history : List RangeEntry) (e : RangeEntry)
      → range_spec.GoesOn held zones points range before (history ++ e ∷ [])
      → range_spec.MayFollow held zones points range (before ++ history) e
  last_follows before [] e goes =
      subst (λ (h : List RangeEntry). range_spec.MayFollow held zones points range h e) (sym (append-nil before)) goes.0
  last_follows before (x ∷ history) e goes =
      subst (λ (h : List RangeEntry). range_spec.MayFollow held zones points range h e)
      (append_assoc before (x ∷ []) history) (last_follows (before ++ x ∷ []) history e goes.1)

module _ (held : SchemaLists) (zones : List ZoneSpec) (points : ℕ) (range : Range) where
  front_legal : (before history more : List RangeEntry)
      → range_spec.GoesOn held zones points range before (history ++ more)
      → range_spec.GoesOn held zones points range before history
  front_legal before [] more goes = tt
  front_legal before (x ∷ history) more goes = (goes.0, front_legal (before ++ x ∷ []) history more goes.1)

both : (P : History → BookEntry → Type 0) (a b : History) (x y : BookEntry) → a ≡ b → x ≡ y → P a x → P b y
both P a b x y e f h = subst (λ (z : BookEntry). P b z) f (subst (λ (w : History). P w x) e h)

-- ---- replicas that are decided

no_more : (n : ℕ) → 0 + n ≡ n
no_more n = omega arith

not_ready : (leaf : Leaf) (marks : List Mark) → AreAll is_decided marks → ready_count leaf marks ≡ 0
not_ready leaf [] h = refl
not_ready leaf (mark ∷ marks) h =
    sum_by-cons (λ x. cond (is_ready x.fate && same_leaf leaf x.leaf) 1 0) mark marks
    ∙ by mark.fate (same_leaf leaf mark.leaf) h.0 ∙ not_ready leaf marks h.1
  where
    by : (f : Fate) (b : Bool) → is_decided f ≡ true
        → cond {A = ℕ} (is_ready f && b) 1 0 + ready_count leaf marks ≡ ready_count leaf marks
    by fate.Waiting b e = absurd cc
    by fate.Ready b e = absurd cc
    by fate.Took b e = no_more (ready_count leaf marks)
    by (fate.Missed cut) b e = no_more (ready_count leaf marks)

module _ (range : Range) (turn : Turn) (pass : ℕ) (replicas : List SlotLeaf) (begun mid : Knowledge)
    (marks : List Mark) (through : IsThrough range turn pass begun replicas mid marks) where
  pub went_over : HasGoneOver begun mid
  went_over = record {
    fronts = through.so_far.writing.fronts;
    rooms = λ leaf. through.so_far.writing.rooms leaf
        ∙ ap (λ n. times_room leaf begun.purse.rooms + n) (not_ready leaf marks through.decided);
    more = through.so_far.writing.notes.0;
    notes = through.so_far.writing.notes.1;
    holds = through.so_far.writing.holds;
    met = through.so_far.writing.met;
    stock = through.so_far.writing.stock;
    lost = through.so_far.writing.lost;
    handed = through.so_far.writing.handed;
  }

  fated : (mark : Mark) → Contains marks mark → (f : Fate) → mark.fate ≡ f
      → IsFated range turn pass begun mid mark f
  fated mark there f e =
      subst (λ (f' : Fate). IsFated range turn pass begun mid mark f') e
      (all_at (λ (x : Mark). IsFated range turn pass begun mid x x.fate) marks mark through.so_far.writing.each
      there)

  pub went_down : (mark : Mark) (cut : ℕ) → Contains marks mark → mark.fate ≡ fate.Missed cut
      → IsFated range turn pass begun mid mark (fate.Missed cut)
  went_down mark cut there e = fated mark there (fate.Missed cut) e

  pub went_in : (mark : Mark) → Contains marks mark → mark.fate ≡ fate.Took
      → HasComeSince begun mid mark.leaf (put_of pass range turn mark)
  went_in mark there e = (fated mark there fate.Took e).1

  pub serves : (mark : Mark) → Contains marks mark → Contains replicas (replica_of mark)
  serves mark there =
      subst (λ (xs : List SlotLeaf). Contains xs (replica_of mark)) through.so_far.serve
      (in_map replica_of marks mark there)

-- ---- the entries of a turn

here_again : (n : ℕ) → nat_eq n n ≡ true
here_again n = grind (arith, nat_tests)

-- an entry of a replica is under the number of the pass
put_under : (pass : ℕ) (range : Range) (slot : Slot) (turn : Turn)
    → is_under pass (one.Leaf (turn_entry pass range slot turn)) ≡ true
put_under pass range slot (Adds row) = here_again pass
put_under pass range slot (Hides before) = here_again pass

ack_under : (pass : ℕ) (turn : Turn) (ack : Ack) → is_under pass (one.Range (turn_ack pass turn ack)) ≡ true
ack_under pass (Adds row) ack = here_again pass
ack_under pass (Hides before) ack = here_again pass

module _ (held : SchemaLists) (zones : List ZoneSpec) (points : ℕ) (range : Range) where
  -- whatever came, it is acknowledged by the replicas that serve
  named_by : (history : List RangeEntry) (pass : ℕ) (turn : Turn) (ack : Ack)
      → range_spec.MayFollow held zones points range history (turn_ack pass turn ack)
      → IsAckOf range (serving history) ack
  named_by history pass (Adds row) ack may = may.0
  named_by history pass (Hides before) ack may = may

-- ---- a turn that came

-- How a turn came to a range of this history, and to these replicas
pub record HasComeTo (config : Config) (range : Range) (turn : Turn) (history : List RangeEntry) (took : List SlotLeaf)
    (before after : Knowledge) (ack : Ack) : Type 0 where
  pub found : WasFoundSo config range history before after
  pub named : IsAckOf range (serving history) ack
  pub took_are : map (λ (replica : SlotLeaf). replica.slot) took ≡ ack.took
  pub served : (replica : SlotLeaf) → Contains took replica → Contains (serving history) replica
  pub own : (whose : History) → own_entries after.purse.own whose
      ≡ own_entries before.purse.own whose ++ turned (pass_of before) range turn ack took whose
  pub new : (whose : History) → new_entries before after whose ≡ turned (pass_of before) range turn ack took whose
  pub missed : (miss : Miss) → Contains ack.missed miss → WasFoundDown before after miss.leaf miss.cut
  pub still : IsStill before after

module _ (setting : Setting) (config : Config) (leaves : ℕ) (range : Range) (turn : Turn) (before after : Knowledge)
    (is : IsPass setting before) (borne : IsPurseBorneOut after.seen after.purse)
    (sound : IsSound setting after.hints after.seen) (counted : leaves ≡ length (leaves_in config.topology))
    (here : range.0 < length (ranges_in setting.zones)) (history : List RangeEntry) (begun : Knowledge)
    (begins : HasBegun leaves range history before begun) (ack : Ack)
    (acked : HasAcknowledged leaves range turn history (pass_of before) begun after ack) where
  abbrev pass : ℕ
  pass = pass_of before

  abbrev e : RangeEntry
  e = turn_ack pass turn ack

  abbrev pub took : List SlotLeaf
  took = took_of acked.marks

  returned : HasReturned leaves range history acked.mid after
  returned = record {
    fronts = acked.entered.fronts;
    notes = acked.entered.notes;
    met = acked.entered.met;
    stock = acked.entered.stock;
    lost = acked.entered.lost;
    rooms = acked.entered.rooms;
    holding = acked.entered.holding;
    handed = acked.entered.handed;
  }

  over : HasGoneOver begun acked.mid
  over = went_over range turn pass (serving history) begun acked.mid acked.marks acked.through

  carried : IsCarried before after
  carried =
      over_carried setting config leaves range before after is counted history begun acked.mid begins over returned

  there : range.0 < length after.seen.ranges
  there = subst (λ n. range.0 < n) (sym sound.held.all_ranges) here

  legal : IsLegal setting.held setting.zones setting.points range (history ++ e ∷ [])
  legal = subst (λ (h : List RangeEntry). IsLegal setting.held setting.zones setting.points range h)
      acked.entered.whole (sound.held.legal range there)

  may : range_spec.MayFollow setting.held setting.zones setting.points range history e
  may = last_follows setting.held setting.zones setting.points range [] history e legal

  took_serves : (replica : SlotLeaf) → Contains took replica → Contains (serving history) replica
  took_serves replica in_took =
      let found = took_in acked.marks replica in_took in
      subst (λ (x : SlotLeaf). Contains (serving history) x) found.3
      (serves range turn pass (serving history) begun acked.mid acked.marks acked.through found.0 found.1)

  -- what came to a replica came behind all that had been seen
  put_came : (replica : SlotLeaf) → Contains took replica
      → Contains (drop (length (entries before.seen (of.Leaf replica.leaf)))
      (entries after.seen (of.Leaf replica.leaf))) (one.Leaf (turn_entry pass range replica.slot turn))
  put_came replica in_took =
      let found = took_in acked.marks replica in_took in
      let since = went_in range turn pass (serving history) begun acked.mid acked.marks acked.through found.0 found.1
      found.2 in
      subst (λ (x : SlotLeaf).
      Contains (drop (length (entries before.seen (of.Leaf x.leaf))) (entries after.seen (of.Leaf x.leaf)))
      (one.Leaf (turn_entry pass range x.slot turn))) found.3
      (leaf_since before.seen begun.seen acked.mid.seen after.seen begins.met.fronts acked.entered.fronts found.0.leaf
      since.more (put_of pass range turn found.0) since.since since.come)

  -- and so did the acknowledgement
  ack_came : Contains (drop (length (entries before.seen (of.Range range))) (entries after.seen (of.Range range)))
      (one.Range e)
  ack_came =
      range_since before.seen begun.seen after.seen after.seen begins.met.fronts (same_fronts after.seen) range (e ∷ []) e
      (acked.entered.whole ∙ ap (λ (h : List RangeEntry). h ++ e ∷ []) (sym begins.whole)) (0, omega arith, refl)

  -- ---- what came under its number

  abbrev new : History → List BookEntry
  new = turned pass range turn ack took

  came_by : (P : History → BookEntry → Type 0)
      → ((replica : SlotLeaf) → Contains took replica
      → P (of.Leaf replica.leaf) (one.Leaf (turn_entry pass range replica.slot turn)))
      → P (of.Range range) (one.Range e) → (whose : History) (x : BookEntry) → Contains (new whose) x → P whose x
  came_by P puts acks whose x in_new =
      by (Contains-append_cases (flat_map (turn_in pass range turn whose) took)
      (only_in (of.Range range) (one.Range e) whose)
      x in_new)
    where
      by : Contains (flat_map (turn_in pass range turn whose) took) x
          ⊎ Contains (only_in (of.Range range) (one.Range e) whose) x → P whose x
      by (inl put) =
          let found = put_is pass range turn whose took x put in
          both P (of.Leaf found.0.leaf) whose (one.Leaf (turn_entry pass range found.0.slot turn)) x found.2 found.3
          (puts found.0 found.1)
      by (inr acked') =
          let found = only_is (of.Range range) (one.Range e) x whose acked' in
          both P (of.Range range) whose (one.Range e) x found.0 found.1 acks

  come : HaveCome setting before after is carried borne new
  come = record {
    differ = λ whose. turned_differ pass range turn whose ack took
        (took_apart acked.marks (subst AreApart (sym acked.through.so_far.serve)
        (numbered setting.held setting.zones setting.points range history
        (front_legal setting.held setting.zones setting.points range [] history (e ∷ []) legal)).apart));
    under = came_by (λ whose x. is_under pass x ≡ true) (λ replica in_took. put_under pass range replica.slot turn)
        (ack_under pass turn ack);
    came = came_by (λ whose x. Contains (drop (length (entries before.seen whose)) (entries after.seen whose)) x)
        put_came ack_came;
  }

  -- ---- what is kept under it

  abbrev first : Kept
  first = (has_own before is.number).kept

  abbrev puts : Kept → Kept
  puts = with_puts pass range turn acked.marks

  abbrev last : Kept
  last = kept_with (of.Range range) (one.Range e) (puts first)

  own : after.purse.own ≡ Some last
  own =
      acked.entered.own
      ∙ ap (option_map (kept_with (of.Range range) (one.Range e)))
      (acked.through.so_far.writing.own ∙ ap (option_map puts)
      (begins.met.own ∙ (has_own before is.number).is))

  number : last.number ≡ pass
  number = puts_number pass range turn acked.marks first ∙ (has_own before is.number).number

  added : (whose : History) → entries last.own whose ≡ own_entries before.purse.own whose ++ new whose
  added whose =
      let puts_here = flat_map (turn_in pass range turn whose) took in
      let ack_here = only_in (of.Range range) (one.Range e) whose in
      ack_added pass range turn ack whose (puts first).own
      ∙ ap (λ (xs : List BookEntry). xs ++ ack_here)
      (puts_added pass range turn whose acked.marks first
      ∙ ap (λ (xs : List BookEntry). xs ++ puts_here)
      (sym (own_is before.purse.own first whose (has_own before is.number).is)))
      ∙ append_assoc (own_entries before.purse.own whose) puts_here ack_here

  -- ---- the whole

  all_seen : (whose : History) → filter (is_under pass) (entries after.seen whose) ≡ entries last.own whose
  all_seen = all_come setting before after is carried borne new last own number added come

  pub acknowledged_pass : IsPass setting after
  acknowledged_pass = written_pass setting before after is carried borne new last own number added all_seen

  found_down : (miss : Miss) → Contains ack.missed miss → WasFoundDown before after miss.leaf miss.cut
  found_down miss in_missed =
      let mark = missed_in acked.marks miss
      (subst (λ (a : Ack). Contains a.missed miss) (sym acked.ack_is) in_missed) in
      let down = went_down range turn pass (serving history) begun acked.mid acked.marks acked.through mark.0 mark.2
      mark.1 mark.3 in
      subst (λ (m : Miss). WasFoundDown before after m.leaf m.cut) mark.4
      (over_down setting config leaves range before after is counted history begun acked.mid begins over returned
      mark.0.leaf mark.2 down.1 down.2)

  -- these replicas took it, and each leaf that missed it was found down
  pub has_come : HasComeTo config range turn history took before after ack
  has_come = record {
    found = over_found setting config leaves range before after is counted history begun acked.mid begins over returned
        (subst (λ (h : List RangeEntry). BeginsWith h history) (sym acked.entered.whole) (begins_push history e));
    named = named_by setting.held setting.zones setting.points range history pass turn ack may;
    took_are = took_slots acked.marks ∙ ap (λ (a : Ack). a.took) acked.ack_is;
    served = took_serves;
    own = added_own setting before after is carried borne new last own number added all_seen;
    new = added_new setting before after is carried borne new last own number added all_seen;
    missed = found_down;
    still = added_still setting before after is carried borne new last own number added all_seen;
  }

-- ---- a row that was written

module _ (setting : Setting) (config : Config) (leaves : ℕ) (range : Range) (row : Row) (before after : Knowledge)
    (is : IsPass setting before) (borne : IsPurseBorneOut after.seen after.purse)
    (sound : IsSound setting after.hints after.seen) (counted : leaves ≡ length (leaves_in config.topology))
    (here : range.0 < length (ranges_in setting.zones)) (history : List RangeEntry) (begun : Knowledge)
    (begins : HasBegun leaves range history before begun) (ack : Ack)
    (acked : HasAcknowledged leaves range (Adds row) history (pass_of before) begun after ack) where
  pub is_written : range_of_key config row.key ≡ Some range → refusal config.range_points history row ≡ None
      → IsWritten config row before after ack
  is_written in_range free =
      let came = has_come setting config leaves range (Adds row) before after is borne sound counted here history begun
      begins ack acked in
      record {
        range = range;
        in_range = in_range;
        history = history;
        found = came.found;
        free = free;
        named = came.named;
        took = took_of acked.marks;
        took_are = came.took_are;
        served = came.served;
        acknowledged = acked.entered.whole;
        own = came.own;
        new = came.new;
        missed = came.missed;
        still = came.still;
      }
