-- What became of the records of a file, one after another, where rows of another file may be written between them.
use Rattle.std.proofs.Common.{◌≡◌, ℕ, ◌+◌, Bool, true, List, [], ◌∷◌, ◌++◌, sym, ap, subst, inl, inr}
use Rattle.std.proofs.Common.{◌||◌}
use Rattle.std.specs.List.{list_any}
use Rattle.std.proofs.lemmas.Bool.{false≢true, or_right}
use mathlib.Core.Logic.{◌⊎◌}
use Rattle.ingest_queue.specs.Ends.{refused_at}
use Rattle.ingest_queue.specs.declared.refusals.RowRefusal.{RowRefusal}
use Rattle.ingest_queue.specs.declared.refusals.RowRefused.TheVariants as refused
use Rattle.know.specs.Knowledge.{Knowledge}
use Rattle.line_runs.specs.Feeding.{AreFed, WasRefused, WasTaken}
use Rattle.mon_config.specs.declared.config.Config.{Config}
use Rattle.mon_points.specs.declared.records.RowRead.{RowRead}
use Rattle.mon_points.specs.declared.records.RowRead.TheVariants as read
use Rattle.mon_store.specs.Writes.{IsUnwritten}
use Rattle.mon_value.specs.declared.rows.Row.{Row}
use Rattle.range_cell.specs.declared.answers.WriteFault.{WriteFault}
use Rattle.run_traces.specs.LineFeeds.{AreTold}
use Rattle.run_traces.specs.LineSwitches.{is_row}
use Rattle.run_traces.proofs.ListFacts.{or_either}
use Rattle.run_traces.proofs.Woven.{either_more}
use Rattle.line_runs.proofs.FeedParts.{Part, part_both, part_none, part_refused, part_taken}
use Rattle.line_runs.proofs.FeedRows.{any_first, any_last}

-- what is among some items is among those in front of others
any_on : {X : Type 0} (test : X → Bool) (xs ys zs : List X) → (list_any test xs ≡ true → list_any test ys ≡ true)
    → list_any test (xs ++ zs) ≡ true → list_any test (ys ++ zs) ≡ true
any_on test [] ys zs more is = any_last test ys zs is
any_on test (x ∷ xs) ys zs more is =
    or_either (test x) (list_any test (xs ++ zs)) (list_any test (ys ++ zs) ≡ true) is
    (λ here. any_first test ys zs (more (ap (λ b. b || list_any test xs) here)))
    (λ there. any_on test xs ys zs (λ some. more (or_right (test x) (list_any test xs) some)) there)

module _ (config : Config) where
  -- only rows of others were written
  pub record HasGap (before after : Knowledge) : Type 0 where
    pub others : List Row
    pub part : Part config before after others

  pub no_gap : (x : Knowledge) → HasGap x x
  no_gap x = record { others = []; part = part_none config x }

  pub refused_gap : (x y : Knowledge) → IsUnwritten x y → HasGap x y
  refused_gap x y un = record { others = []; part = part_refused config x y un }

  pub taken_gap : (row : Row) (x y : Knowledge) → WasTaken config row x y → HasGap x y
  taken_gap row x y taken = record { others = row ∷ []; part = part_taken config row x y taken }

  pub gap_both : (x y z : Knowledge) → HasGap x y → HasGap y z → HasGap x z
  gap_both x y z a b = record {
    others = a.others ++ b.others;
    part = part_both config x y z a.others b.others a.part b.part;
  }

  -- Records that are numbered on from one came to these rows and refusals, and rows of others may have been written before
  -- each and behind the last
  abbrev pub AreFedAmid : ℕ → List RowRead → List Row → List RowRefusal → Knowledge → Knowledge → Type 0
  AreFedAmid n [] rows refusals before after = (rows ≡ []) × (refusals ≡ []) × HasGap before after
  AreFedAmid n (read.Fault fault ∷ reads) rows refusals before after = (rest : List RowRefusal)
      × (refusals ≡ refused_at n (refused.Read fault) ∷ rest) × AreFedAmid (n + 1) reads rows rest before after
  AreFedAmid n (read.Row row ∷ reads) rows refusals before after = (now : Knowledge) × (mid : Knowledge)
      × HasGap before now
      × (((rest : List Row) × (rows ≡ row ∷ rest) × WasTaken config row now mid
      × AreFedAmid (n + 1) reads rest refusals mid after)
      ⊎ ((fault : WriteFault) × (rest : List RowRefusal) × (refusals ≡ refused_at n (refused.Write fault) ∷ rest)
      × WasRefused config row fault now mid × AreFedAmid (n + 1) reads rows rest mid after))

  -- a feed writes nothing between
  pub fed_amid : (n : ℕ) (reads : List RowRead) (rows : List Row) (refusals : List RowRefusal) (x z : Knowledge)
      → AreFed config n reads rows refusals x z → AreFedAmid n reads rows refusals x z
  fed_amid n [] rows refusals x z fed =
      (fed.0, fed.1, subst (λ (w : Knowledge). HasGap x w) (sym fed.2) (no_gap x))
  fed_amid n (read.Fault fault ∷ reads) rows refusals x z fed =
      (fed.0, fed.1, fed_amid (n + 1) reads rows fed.0 x z fed.2)
  fed_amid n (read.Row row ∷ reads) rows refusals x z fed = elim fed.1 [
    | inl t ↦ (x, fed.0, no_gap x, inl (t.0, t.1, t.2, fed_amid (n + 1) reads t.0 refusals fed.0 z t.3))
    | inr t ↦ (x, fed.0, no_gap x, inr (t.0, t.1, t.2, t.3, fed_amid (n + 1) reads rows t.1 fed.0 z t.4))
  ]

  -- each record is told of
  pub all_told : (n : ℕ) (reads : List RowRead) (rows : List Row) (refusals : List RowRefusal) (x z : Knowledge)
      → AreFedAmid n reads rows refusals x z → AreTold n reads rows refusals
  all_told n [] rows refusals x z fed = (fed.0, fed.1)
  all_told n (read.Fault fault ∷ reads) rows refusals x z fed =
      (fed.0, fed.1, all_told (n + 1) reads rows fed.0 x z fed.2)
  all_told n (read.Row row ∷ reads) rows refusals x z fed = elim fed.3 [
    | inl t ↦ inl (t.0, t.1, all_told (n + 1) reads t.0 refusals fed.1 z t.3)
    | inr t ↦ inr (t.0, t.1, t.2, all_told (n + 1) reads rows t.1 fed.1 z t.4)
  ]

  -- ---- rows among those of a part

  pub record IsAmong (before after : Knowledge) (rows : List Row) : Type 0 where
    pub all : List Row
    pub part : Part config before after all
    pub among : (w : Row) → list_any (is_row w) rows ≡ true → list_any (is_row w) all ≡ true

  pub none_among : (x y : Knowledge) → HasGap x y → IsAmong x y []
  none_among x y gap = record { all = gap.others; part = gap.part; among = λ w is. absurd (false≢true is) }

  -- one row more, behind the others
  pub row_behind : (x y z : Knowledge) (rows : List Row) (row : Row) → IsAmong x y rows → WasTaken config row y z
      → IsAmong x z (rows ++ row ∷ [])
  row_behind x y z rows row some taken = record {
    all = some.all ++ row ∷ [];
    part = part_both config x y z some.all (row ∷ []) some.part (part_taken config row y z taken);
    among = λ w is. any_on (is_row w) rows some.all (row ∷ []) (some.among w) is;
  }

  -- rows of others behind them
  pub gap_behind : (x y z : Knowledge) (rows : List Row) → IsAmong x y rows → HasGap y z → IsAmong x z rows
  gap_behind x y z rows some gap = record {
    all = some.all ++ gap.others;
    part = part_both config x y z some.all gap.others some.part gap.part;
    among = λ w is. any_first (is_row w) some.all gap.others (some.among w is);
  }

  -- and before them
  gap_before : (x y z : Knowledge) (rows : List Row) → HasGap x y → IsAmong y z rows → IsAmong x z rows
  gap_before x y z rows gap some = record {
    all = gap.others ++ some.all;
    part = part_both config x y z gap.others some.all gap.part some.part;
    among = λ w is. any_last (is_row w) gap.others some.all (some.among w is);
  }

  row_before : (x y z : Knowledge) (rows : List Row) (row : Row) → WasTaken config row x y → IsAmong y z rows
      → IsAmong x z (row ∷ rows)
  row_before x y z rows row taken some = record {
    all = row ∷ some.all;
    part = part_both config x y z (row ∷ []) some.all (part_taken config row x y taken) some.part;
    among = λ w is. either_more (is_row w row) (list_any (is_row w) rows) (list_any (is_row w) some.all) is
        (some.among w);
  }

  pub among_part : (n : ℕ) (reads : List RowRead) (rows : List Row) (refusals : List RowRefusal) (x z : Knowledge)
      → AreFedAmid n reads rows refusals x z → IsAmong x z rows
  among_part n [] rows refusals x z fed =
      subst (λ (some : List Row). IsAmong x z some) (sym fed.0) (none_among x z fed.2)
  among_part n (read.Fault fault ∷ reads) rows refusals x z fed = among_part (n + 1) reads rows fed.0 x z fed.2
  among_part n (read.Row row ∷ reads) rows refusals x z fed = elim fed.3 [
    | inl t ↦ subst (λ (some : List Row). IsAmong x z some) (sym t.1)
        (gap_before x fed.0 z (row ∷ t.0) fed.2
        (row_before fed.0 fed.1 z t.0 row t.2 (among_part (n + 1) reads t.0 refusals fed.1 z t.3)))
    | inr t ↦ gap_before x fed.0 z rows fed.2
        (gap_before fed.0 fed.1 z rows (refused_gap fed.0 fed.1 t.3.unwritten)
        (among_part (n + 1) reads rows t.1 fed.1 z t.4))
  ]
