-- What became of a file's records was found so: each refusal stands behind the rows of the file that were accepted before
-- it, and before the others.
use Rattle.std.proofs.Common.{◌≡◌, ℕ, ◌+◌, ◌-◌, ◌<◌, ◌≤◌, Bool, true, false, cond, List, []}
use Rattle.std.proofs.Common.{◌∷◌, ◌++◌, length, map, filter, slice_get, take, drop, Some, refl, sym, ap, ◌∙◌, subst}
use Rattle.std.proofs.Common.{arith, append_assoc, inl, inr}
use Rattle.std.specs.Prelude.{Contains}
use Rattle.std.specs.List.{AllByRecursion, list_any}
use Rattle.std.proofs.lemmas.Bool.{cases_lt}
use Rattle.std.proofs.lemmas.Bool.Decides.{nat_tests}
use Rattle.std.proofs.lemmas.List.{drop_at, length-append, take_at}
use Rattle.std.proofs.lemmas.List.Elements.{Contains-push}
use mathlib.Core.Logic.{◌⊎◌}
use Rattle.history_book.proofs.ListLemmas.{prefix_contains, prefix_length}
use Rattle.history_book.specs.Histories.{AreFronts, entries}
use Rattle.history_book.specs.declared.views.BookEntry.{BookEntry}
use Rattle.history_book.specs.declared.views.History.{History}
use Rattle.history_book.specs.declared.views.History.TheVariants as of
use Rattle.know.specs.Knowledge.{Knowledge}
use Rattle.line_runs.specs.Feeding.{WasTaken}
use Rattle.mon_config.specs.declared.config.Config.{Config}
use Rattle.mon_points.specs.declared.records.RowRead.{RowRead}
use Rattle.mon_points.specs.declared.records.RowRead.TheVariants as read
use Rattle.mon_store.proofs.OwnLemmas.{entries_front}
use Rattle.mon_value.specs.Histories.{leaf_numbered, range_history, same_leaf}
use Rattle.mon_value.specs.declared.histories.Histories.{Histories}
use Rattle.mon_value.specs.declared.histories.Miss.{Miss}
use Rattle.mon_value.specs.declared.histories.RangeEntry.{RangeEntry}
use Rattle.mon_value.specs.declared.histories.RangeEntry.TheVariants as range_entry
use Rattle.mon_value.specs.declared.positions.FoundDown.{FoundDown}
use Rattle.mon_value.specs.declared.positions.Leaf.{Leaf}
use Rattle.mon_value.specs.declared.rows.Row.{Row}
use Rattle.owners.specs.Puts.{pass_of}
use Rattle.query_traces.specs.Founds.{IsFoundBetween}
use Rattle.query_traces.specs.Traces.{IsBetween, Lengths}
use Rattle.range_cell.specs.declared.answers.WriteFault.TheVariants as unwritten
use Rattle.run_traces.specs.LineCauses.{HasRowCause, WereMissed, rows_before}
use Rattle.run_traces.specs.LineClaims.{AllTakenFound, FoundAmid, RowFound, RowsFound, TakenFound, marked}
use Rattle.ingest_queue.specs.Ends.{refused_at}
use Rattle.run_traces.specs.LineTables.{file_cuts, row_cuts}
use Rattle.run_traces.specs.LineSwitches.{found_cuts, is_fed, is_row}
use Rattle.ingest_queue.specs.declared.refusals.RowRefusal.{RowRefusal}
use Rattle.ingest_queue.specs.declared.refusals.RowRefused.{RowRefused}
use Rattle.ingest_queue.specs.declared.refusals.RowRefused.TheVariants as refused
use Rattle.run_traces.proofs.ListFacts.{both_all}
use Rattle.run_traces.proofs.RowFacts.{fed_pass}
use Rattle.line_runs.proofs.FeedCauses.{cause_stands, contained, found_down, lengths}
use Rattle.line_runs.proofs.FeedParts.{AreSources, Part, at_new, fed_apart, part_both, part_none, part_refused}
use Rattle.line_runs.proofs.FeedParts.{part_taken, same_pass}
use Rattle.line_runs.proofs.FeedRows.{at_end, front_stands}
use Rattle.line_runs.proofs.FileRecords.{AreFedAmid, IsAmong, among_part, gap_behind, refused_gap, row_behind}
use Rattle.run_traces.proofs.Causes.{fed_more}

-- ---- where refusals stand

either_way : {A B C : Type 0} → A ⊎ B → (A → C) → (B → C) → C
either_way (inl a) f g = f a
either_way (inr b) f g = g b

less_by : (k n : ℕ) → (n ≤ k → ⊥) → k < n
less_by k n never = either_way (cases_lt k n) (λ l. l) (λ l. absurd (never l))

least_by : (k n : ℕ) → (k < n → ⊥) → n ≤ k
least_by k n never = either_way (cases_lt k n) (λ l. absurd (never l)) (λ l. l)

pub seen_below : (x y : Knowledge) → AreFronts x.seen y.seen → (h : History) → lengths x h ≤ lengths y h
seen_below x y fronts h = prefix_length (entries x.seen h) (entries y.seen h) (entries_front x.seen y.seen fronts h)

module _ (config : Config) (first last : Knowledge) (sources : AreSources config last) where
  -- a record behind some rows and before others: it was refused, or its own row is between them
  module _ (b m : Knowledge) (rows own more : List Row) (done : Part config first b rows) (here : Part config b m own)
      (left : Part config m last more) where
    behind : Part config b last (own ++ more)
    behind = part_both config b m last own more here left

    so_far : Part config first m (rows ++ own)
    so_far = part_both config first b m rows own done here

    -- an entry of the rows before it stands where these were written
    stands_before : (h : History) (k : ℕ) (e : BookEntry) → slice_get (entries last.seen h) k ≡ Some e
        → is_fed (pass_of first) rows e ≡ true → k < lengths b h
    stands_before h k e there mine = less_by k (lengths b h) (λ low.
        let same = same_pass first b done.still in
        fed_apart config first b last rows (own ++ more) done behind sources (pass_of first) e mine
        (subst (λ n. is_fed n (own ++ more) e ≡ true) same
        (at_new config b last (own ++ more) behind h k e there low
        (fed_pass (pass_of first) rows e mine ∙ sym same))))

    -- and one of the others stands behind
    stands_behind : (h : History) (k : ℕ) (e : BookEntry) → slice_get (entries last.seen h) k ≡ Some e
        → lengths first h ≤ k → is_fed (pass_of first) more e ≡ true → lengths m h ≤ k
    stands_behind h k e there low mine = least_by k (lengths m h) (λ less.
        fed_apart config first m last (rows ++ own) more so_far left sources (pass_of first) e
        (at_new config first m (rows ++ own) so_far h k e
        (front_stands (entries m.seen h) (entries last.seen h) (entries_front m.seen last.seen left.still.fronts h) k e
        there less) low (fed_pass (pass_of first) more e mine)) mine)

    -- what was so between is found amid rows that are among them
    amid : (front rest : List Row) → ((w : Row) → list_any (is_row w) front ≡ true → list_any (is_row w) rows ≡ true)
        → ((w : Row) → list_any (is_row w) rest ≡ true → list_any (is_row w) more ≡ true)
        → (Is : Lengths → Lengths → Type 0) → Is (marked (lengths b)) (marked (lengths m))
        → FoundAmid config last.seen (lengths first) (lengths last) (pass_of first) front rest Is
    amid front rest of_front of_rest Is is = record {
      since = lengths b;
      until = lengths m;
      low = seen_below first b done.still.fronts;
      forth = seen_below b m here.still.fronts;
      high = seen_below m last left.still.fronts;
      before = λ h place stands. stands_before h place stands.0 stands.1
          (fed_more (pass_of first) front rows of_front stands.0 stands.4);
      behind = λ h place stands. stands_behind h place stands.0 stands.1 stands.2
          (fed_more (pass_of first) rest more of_rest stands.0 stands.4);
      is = is;
    }

  -- what is among rows that are the same
  same_any : (w : Row) (rows more : List Row) → rows ≡ more → list_any (is_row w) rows ≡ true
      → list_any (is_row w) more ≡ true
  same_any w rows more same is = subst (λ (some : List Row). list_any (is_row w) some ≡ true) same is

  row_found : (b m : Knowledge) (rows more : List Row) → IsAmong config first b rows → Part config b m []
      → IsAmong config m last more → (reads : List RowRead) (n others : ℕ) (one : RowRead) (fault : RowRefused)
      → n ≡ length rows + others + 1 → slice_get reads (n - 1) ≡ Some one
      → HasRowCause config last.seen (marked (lengths b)) (marked (lengths m)) one fault
      → RowFound config last.seen (lengths first) (lengths last) reads (pass_of first) (rows ++ more) others
      (refused_at n fault)
  row_found b m rows more done here left reads n others one fault counted there cause =
      let k : rows_before others (refused_at n fault) ≡ length rows = omega arith in
      let front = take (rows_before others (refused_at n fault)) (rows ++ more) in
      let rest = drop (rows_before others (refused_at n fault)) (rows ++ more) in
      record {
        read = one;
        read_is = there;
        amid = amid b m done.all [] left.all done.part here left.part front rest
            (λ w is. done.among w
            (same_any w front rows (take_at rows more (rows_before others (refused_at n fault)) (sym k)) is))
            (λ w is. left.among w
            (same_any w rest more (drop_at rows more (rows_before others (refused_at n fault)) (sym k)) is))
            (λ since until. HasRowCause config last.seen since until one fault) cause;
      }

  -- a row that was taken
  taken_found : (b m : Knowledge) (rows more : List Row) (row : Row) → IsAmong config first b rows
      → WasTaken config row b m → IsAmong config m last more
      → TakenFound config last.seen (lengths first) (lengths last) (pass_of first) (rows ++ row ∷ more) (length rows) row
  taken_found b m rows more row done taken left =
      let w = taken.written in
      let place = length rows in
      let all = rows ++ row ∷ more in
      let e = range_entry.Acked (pass_of first) row taken.ack in
      let there : range_history m.seen w.range ≡ w.history ++ e ∷ [] =
      w.acknowledged ∙ ap (λ n. w.history ++ range_entry.Acked n row taken.ack ∷ []) (same_pass first b done.part.still) in
      let past : drop (place + 1) all ≡ more =
      ap (drop (place + 1)) (sym (append_assoc rows (row ∷ []) more))
      ∙ drop_at (rows ++ row ∷ []) more (place + 1) (length-append rows (row ∷ [])) in
      record {
        range = w.range;
        ack = taken.ack;
        told = prefix_contains (range_history m.seen w.range) (range_history last.seen w.range) e
            (left.part.still.fronts.1 w.range)
            (subst (λ (h : List RangeEntry). Contains h e) (sym there) (Contains-push w.history e));
        amid = amid b m done.all (row ∷ []) left.all done.part (part_taken config row b m taken) left.part
            (take place all) (drop (place + 1) all)
            (λ v is. done.among v (same_any v (take place all) rows (take_at rows (row ∷ more) place refl) is))
            (λ v is. left.among v (same_any v (drop (place + 1) all) more past is))
            (λ since until. WereMissed last.seen since until taken.ack)
            (contained (λ (miss : Miss). IsFoundBetween (marked (lengths b)) (marked (lengths m)) last.seen
            (record { leaf = miss.leaf; cut = miss.cut })) taken.ack.missed
            (λ miss there. let was = w.missed miss there in found_down config b m last left.part.still.fronts
            (record { leaf = miss.leaf; cut = miss.cut }) was.from was.down));
      }

  abbrev AllTaken : List Row → ℕ → List Row → Type 0
  AllTaken all place some =
      AllTakenFound config last.seen (lengths first) (lengths last) (pass_of first) all place some

  pub all_taken_found : (n : ℕ) (reads : List RowRead) (b : Knowledge) (rows more : List Row)
      (refusals : List RowRefusal) → IsAmong config first b rows → AreFedAmid config n reads more refusals b last
      → AllTaken (rows ++ more) (length rows) more
  all_taken_found n [] b rows more refusals done fed =
      subst (λ (some : List Row). AllTaken (rows ++ some) (length rows) some) (sym fed.0) tt
  all_taken_found n (read.Fault fault ∷ reads) b rows more refusals done fed =
      all_taken_found (n + 1) reads b rows more fed.0 done fed.2
  all_taken_found n (read.Row row ∷ reads) b rows more refusals done fed =
      let so_far = gap_behind config first b fed.0 rows done fed.2 in
      elim fed.3 [
        | inl t ↦ subst (λ (some : List Row). AllTaken (rows ++ some) (length rows) some) (sym t.1) (
          taken_found fed.0 fed.1 rows t.0 row so_far t.2
              (among_part config (n + 1) reads t.0 refusals fed.1 last t.3),
          subst (λ k. AllTaken (rows ++ row ∷ t.0) k t.0) (length-append rows (row ∷ []))
              (subst (λ (all : List Row). AllTaken all (length (rows ++ row ∷ [])) t.0)
              (append_assoc rows (row ∷ []) t.0)
              (all_taken_found (n + 1) reads fed.1 (rows ++ row ∷ []) t.0 refusals
              (row_behind config first fed.0 fed.1 rows row so_far t.2) t.3)),
        )
        | inr t ↦ all_taken_found (n + 1) reads fed.1 rows more t.1
            (gap_behind config first fed.0 fed.1 rows so_far (refused_gap config fed.0 fed.1 t.3.unwritten)) t.4
      ]

  abbrev Found : List RowRead → List Row → ℕ → List RowRefusal → Type 0
  Found reads rows others refusals =
      RowsFound config last.seen (lengths first) (lengths last) reads (pass_of first) rows others refusals

  -- one record more in front
  one_read : (front : List RowRead) (one : RowRead) (reads all : List RowRead) → all ≡ front ++ one ∷ reads
      → all ≡ (front ++ one ∷ []) ++ reads
  one_read front one reads all is = is ∙ sym (append_assoc front (one ∷ []) reads)

  read_at : (front : List RowRead) (one : RowRead) (reads all : List RowRead) (n : ℕ) → all ≡ front ++ one ∷ reads
      → n ≡ length front + 1 → slice_get all (n - 1) ≡ Some one
  read_at front one reads all n is counted =
      let k : n - 1 ≡ length front = omega arith in
      (λ i. slice_get (is i) (k i)) ∙ at_end front one reads

  longer : {X : Type 0} (front : List X) (x : X) → length (front ++ x ∷ []) ≡ length front + 1
  longer front x = length-append front (x ∷ [])

  pub rows_found : (all front reads : List RowRead) (n others : ℕ) (b : Knowledge) (rows more : List Row)
      (refusals : List RowRefusal) → all ≡ front ++ reads → n ≡ length front + 1 → n ≡ length rows + others + 1
      → IsAmong config first b rows → AreFedAmid config n reads more refusals b last
      → Found all (rows ++ more) others refusals
  rows_found all front [] n others b rows more refusals is placed counted done fed =
      subst (λ (some : List RowRefusal). Found all (rows ++ more) others some) (sym fed.1) tt
  rows_found all front (read.Fault fault ∷ reads) n others b rows more refusals is placed counted done fed =
      subst (λ (some : List RowRefusal). Found all (rows ++ more) others some) (sym fed.1) (
        row_found b b rows more done (part_none config b)
            (among_part config (n + 1) reads more fed.0 b last fed.2)
            all n others (read.Fault fault) (refused.Read fault) counted
            (read_at front (read.Fault fault) reads all n is placed) refl,
        rows_found all (front ++ read.Fault fault ∷ []) reads (n + 1) (others + 1) b rows more fed.0
            (one_read front (read.Fault fault) reads all is)
            (let l = longer front (read.Fault fault) in omega arith) (omega arith) done fed.2,
      )
  rows_found all front (read.Row row ∷ reads) n others b rows more refusals is placed counted done fed =
      let so_far = gap_behind config first b fed.0 rows done fed.2 in
      elim fed.3 [
        | inl t ↦ subst (λ (some : List Row). Found all some others refusals)
            (append_assoc rows (row ∷ []) t.0 ∙ ap (λ (w : List Row). rows ++ w) (sym t.1))
            (rows_found all (front ++ read.Row row ∷ []) reads (n + 1) others fed.1 (rows ++ row ∷ []) t.0 refusals
            (one_read front (read.Row row) reads all is) (let l = longer front (read.Row row) in omega arith)
            (let l = longer rows row in omega arith)
            (row_behind config first fed.0 fed.1 rows row so_far t.2) t.3)
        | inr t ↦
            let left = among_part config (n + 1) reads more t.1 fed.1 last t.4 in
            subst (λ (some : List RowRefusal). Found all (rows ++ more) others some) (sym t.2) (
              row_found fed.0 fed.1 rows more so_far (part_refused config fed.0 fed.1 t.3.unwritten) left all n others
                  (read.Row row) (refused.Write t.0) counted (read_at front (read.Row row) reads all n is placed)
                  (cause_stands config fed.0 fed.1 last left.part.still.fronts row t.0 t.3.told t.3.cause),
              rows_found all (front ++ read.Row row ∷ []) reads (n + 1) (others + 1) fed.1 rows more t.1
                  (one_read front (read.Row row) reads all is) (let l = longer front (read.Row row) in omega arith)
                  (omega arith)
                  (gap_behind config first fed.0 fed.1 rows so_far (refused_gap config fed.0 fed.1 t.3.unwritten)) t.4,
            )
      ]

-- ---- cuts that refusals name

module _ (config : Config) (seen : Histories) (from to : History → ℕ) (leaf : Leaf) where
  abbrev Lies : ℕ → Type 0
  Lies cut = IsBetween (from (of.Leaf leaf)) (to (of.Leaf leaf)) cut

  module _ (since until : History → ℕ) (low : (h : History) → from h ≤ since h) (high : (h : History) → until h ≤ to h)
    where
      leaf_is : (found : FoundDown) → same_leaf leaf found.leaf ≡ true → found.leaf ≡ leaf
      leaf_is found is = let e : found.leaf.0 ≡ leaf.0 = grind (arith, nat_tests) in ap leaf_numbered e

      cut_by : (found : FoundDown) (founds : List FoundDown) (b : Bool) → same_leaf leaf found.leaf ≡ b
          → IsFoundBetween (marked since) (marked until) seen found → AllByRecursion Lies (found_cuts leaf founds)
          → AllByRecursion Lies (map (λ (one : FoundDown). one.cut)
          (cond b (found ∷ filter (λ (one : FoundDown). same_leaf leaf one.leaf) founds)
          (filter (λ (one : FoundDown). same_leaf leaf one.leaf) founds)))
      cut_by found founds true is was all = (
        subst (λ (l : Leaf). IsBetween (from (of.Leaf l)) (to (of.Leaf l)) found.cut) (leaf_is found is) (record {
          from = let a = low (of.Leaf found.leaf) in let b = was.between.from in omega arith;
          to = let a = high (of.Leaf found.leaf) in let b = was.between.to in omega arith;
        }),
        all,
      )
      cut_by found founds false is was all = all

      cuts_of : (founds : List FoundDown) → AllByRecursion (IsFoundBetween (marked since) (marked until) seen) founds
          → AllByRecursion Lies (found_cuts leaf founds)
      cuts_of [] all = tt
      cuts_of (found ∷ founds) all =
          cut_by found founds (same_leaf leaf found.leaf) refl all.0 (cuts_of founds all.1)

      cuts_by : (one : RowRead) (fault : RowRefused)
          → HasRowCause config seen (marked since) (marked until) one fault → AllByRecursion Lies (row_cuts leaf fault)
      cuts_by one (refused.Read told) cause = tt
      cuts_by (read.Fault fault) (refused.Write told) cause = absurd cause
      cuts_by (read.Row row) (refused.Write unwritten.NoZone) cause = tt
      cuts_by (read.Row row) (refused.Write (unwritten.OldPoint end)) cause = tt
      cuts_by (read.Row row) (refused.Write (unwritten.RangeFull limit)) cause = tt
      cuts_by (read.Row row) (refused.Write (unwritten.Unavailable range founds)) cause =
          cuts_of founds cause.none_up.were_found
      cuts_by (read.Row row) (refused.Write unwritten.OutOfMemory) cause = tt

  pub cuts_between : (reads : List RowRead) (pass : ℕ) (rows : List Row) (others : ℕ) (refusals : List RowRefusal)
      → RowsFound config seen from to reads pass rows others refusals
      → AllByRecursion Lies (file_cuts leaf refusals)
  cuts_between reads pass rows others [] found = tt
  cuts_between reads pass rows others (refusal ∷ refusals) found =
      both_all Lies (row_cuts leaf refusal.fault)
      (file_cuts leaf refusals)
      (cuts_by found.0.amid.since found.0.amid.until found.0.amid.low found.0.amid.high found.0.read refusal.fault
      found.0.amid.is)
      (cuts_between reads pass rows (others + 1) refusals found.1)
