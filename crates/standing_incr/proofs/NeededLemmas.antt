-- Rows that matter, at a later moment and behind more rows.
use Rattle.std.proofs.Common.{◌≡◌, ◌∙◌, ℤ, ◌<ℤ◌, ◌≤ℤ◌, ◌-ℤ◌, Bool, true, false, not, ◌&&◌, ◌||◌, cond, List, [], ◌∷◌, ◌++◌}
use Rattle.std.proofs.Common.{None, map, append-nil, refl, sym, ap, subst, arith}
use Rattle.std.specs.Prelude.{int_le, int_lt}
use Rattle.std.specs.List.{AllByRecursion, filter, list_any}
use Rattle.std.proofs.lemmas.Int.{ints}
use Rattle.mon_value.specs.Grids.{EndsRise, window_of, with_earlier}
use Rattle.mon_value.specs.Increases.{increases}
use Rattle.mon_value.specs.Same.{same_series}
use Rattle.mon_value.specs.declared.rows.Point.{Point}
use Rattle.mon_value.specs.declared.rows.Row.{Row}
use Rattle.mon_value.specs.declared.rows.SeriesKey.{SeriesKey}
use Rattle.mon_value.proofs.SameLemmas.{same_series-Decides}
use Rattle.mon_value.proofs.EarlierLemmas.{enough}
use Rattle.standing_incr.specs.NeededRows as held
use Rattle.standing_incr.proofs.FrontLemmas.{front, is_front}

or_assoc : (a b c : Bool) → (a || (b || c)) ≡ ((a || b) || c)
or_assoc true b c = refl
or_assoc false b c = refl

any_append : {A : Type 0} (p : A → Bool) (xs ys : List A) → list_any p (xs ++ ys) ≡ (list_any p xs || list_any p ys)
any_append p [] ys = refl
any_append p (x ∷ xs) ys =
    ap (λ b. p x || b) (any_append p xs ys) ∙ or_assoc (p x) (list_any p xs) (list_any p ys)

wider_by : (a b c d : Bool) → (a ≡ true → b ≡ true) → (c ≡ true → d ≡ true) → (a || c) ≡ true → (b || d) ≡ true
wider_by true true c d f g e = refl
wider_by true false c d f g e =
    let wrong : false ≡ true = f refl in
    absurd cc
wider_by false true c d f g e = refl
wider_by false false c d f g e = g e

any_wider : {A : Type 0} (p q : A → Bool) → ((x : A) → p x ≡ true → q x ≡ true) → (xs : List A)
    → list_any p xs ≡ true → list_any q xs ≡ true
any_wider p q step [] e = absurd cc
any_wider p q step (x ∷ xs) e =
    wider_by (p x) (q x) (list_any p xs) (list_any q xs) (step x) (any_wider p q step xs) e

three : (a b c : Bool) → (a && (b && c)) ≡ true → (a ≡ true) × ((b ≡ true) × (c ≡ true))
three true true true e = (refl, (refl, refl))
three true true false e = absurd cc
three true false c e = absurd cc
three false b c e = absurd cc

all_three : (a b c : Bool) → a ≡ true → b ≡ true → c ≡ true → (a && (b && c)) ≡ true
all_three true true true e f g = refl
all_three true true false e f g = absurd cc
all_three true false c e f g = absurd cc
all_three false b c e f g = absurd cc

true_or : (a b : Bool) → (a ≡ true → b ≡ true) → b ≡ (a || b)
true_or true true so = refl
true_or true false so = so refl
true_or false b so = refl

module _ (met flows : Row → Bool) (meets : (row : Row) → flows row ≡ true → met row ≡ true) where
  abbrev newer : ℤ → SeriesKey → List Row → Bool
  newer start key rows = list_any (held.is_earlier met flows start key) rows

  abbrev needed : ℤ → List Row → List Row
  needed = held.needed_rows met flows

  later_earlier : (start later : ℤ) → start ≤ℤ later → (a b : SeriesKey) → a ≡ b → (row : Row)
      → held.is_earlier met flows start b row ≡ true → held.is_earlier met flows later a row ≡ true
  later_earlier start later order a b same row e =
      let parts = three (same_series b row.key) (flows row) (int_le row.point.end start) e in
      let early = parts.1.1 in
      let own : same_series a row.key ≡ true = ap (λ k. same_series k row.key) same ∙ parts.0 in
      all_three (same_series a row.key) (flows row) (int_le row.point.end later) own parts.1.0 (grind (arith, ints))

  -- a row that isn't held, and flows, has a newer one behind it
  dropped_has : (m late f n : Bool) → (f ≡ true → m ≡ true) → (m && (late || (f && not n))) ≡ false → f ≡ true
      → (late ≡ false) × (n ≡ true)
  dropped_has true false true true so e g = (refl, refl)
  dropped_has true false true false so e g = absurd cc
  dropped_has true true f n so e g = absurd cc
  dropped_has m late false n so e g = absurd cc
  dropped_has false late true n so e g =
      let wrong : false ≡ true = so refl in
      absurd cc

  newer_still : (start later : ℤ) → start ≤ℤ later → (key : SeriesKey) (row : Row) (rows : List Row)
      → held.is_needed met flows start row rows ≡ false → held.is_earlier met flows later key row ≡ true
      → newer later key rows ≡ true
  newer_still start later order key row rows gone own =
      let parts = three (same_series key row.key) (flows row) (int_le row.point.end later) own in
      let there = (dropped_has (met row) (int_lt start row.point.end) (flows row) (newer start row.key rows) (meets row)
      gone parts.1.0).1 in
      any_wider (held.is_earlier met flows start row.key) (held.is_earlier met flows later key)
      (later_earlier start later order key row.key ((same_series-Decides key row.key).0 parts.0)) rows there

  newer_by : (start later : ℤ) → start ≤ℤ later → (key : SeriesKey) (row : Row) (rows : List Row) (b : Bool)
      → held.is_needed met flows start row rows ≡ b → newer later key (needed start rows) ≡ newer later key rows
      → newer later key (cond b (row ∷ needed start rows) (needed start rows)) ≡ newer later key (row ∷ rows)
  newer_by start later order key row rows true e rest = ap (λ b. held.is_earlier met flows later key row || b) rest
  newer_by start later order key row rows false e rest =
      rest ∙ true_or (held.is_earlier met flows later key row) (newer later key rows)
      (newer_still start later order key row rows e)

  -- whether a newer one is there is told by what is held
  newer_held : (start later : ℤ) → start ≤ℤ later → (key : SeriesKey) (rows : List Row)
      → newer later key (needed start rows) ≡ newer later key rows
  newer_held start later order key [] = refl
  newer_held start later order key (row ∷ rows) =
      newer_by start later order key row rows (held.is_needed met flows start row rows) refl
      (newer_held start later order key rows)

  newer_more : (start later : ℤ) → start ≤ℤ later → (key : SeriesKey) (rows more : List Row)
      → newer later key (needed start rows ++ more) ≡ newer later key (rows ++ more)
  newer_more start later order key rows more =
      any_append (held.is_earlier met flows later key) (needed start rows) more
      ∙ ap (λ b. b || newer later key more) (newer_held start later order key rows)
      ∙ sym (any_append (held.is_earlier met flows later key) rows more)

  -- a row that isn't held isn't later either
  gone_by : (m late f n later more : Bool) → (late ≡ false → later ≡ false) → (n ≡ true → more ≡ true)
      → (m && (late || (f && not n))) ≡ false → (m && (later || (f && not more))) ≡ false
  gone_by false late f n later more so then e = refl
  gone_by true true f n later more so then e = absurd cc
  gone_by true false f n true more so then e = so refl
  gone_by true false false n false more so then e = refl
  gone_by true false true true false true so then e = refl
  gone_by true false true true false false so then e =
      let wrong : false ≡ true = then refl in
      absurd cc
  gone_by true false true false false more so then e = absurd cc

  or_more : (a b : Bool) → a ≡ true → (a || b) ≡ true
  or_more true b e = refl
  or_more false b e = absurd cc

  sooner : (start later end : ℤ) → start ≤ℤ later → (b : Bool) → int_lt later end ≡ b → int_lt start end ≡ false
      → b ≡ false
  sooner start later end order true e f = absurd (grind (arith, ints))
  sooner start later end order false e f = refl

  gone_still : (start later : ℤ) → start ≤ℤ later → (row : Row) (rows more : List Row)
      → held.is_needed met flows start row rows ≡ false → held.is_needed met flows later row (rows ++ more) ≡ false
  gone_still start later order row rows more e =
      gone_by (met row) (int_lt start row.point.end) (flows row) (newer start row.key rows)
      (int_lt later row.point.end) (newer later row.key (rows ++ more))
      (sooner start later row.point.end order (int_lt later row.point.end) refl)
      (λ there. any_append (held.is_earlier met flows later row.key) rows more
      ∙ or_more (newer later row.key rows) (newer later row.key more)
      (any_wider (held.is_earlier met flows start row.key) (held.is_earlier met flows later row.key)
      (later_earlier start later order row.key row.key refl) rows there)) e

  needed_by : (start later : ℤ) → start ≤ℤ later → (row : Row) (rows more : List Row) (b : Bool)
      → held.is_needed met flows start row rows ≡ b
      → needed later (needed start rows ++ more) ≡ needed later (rows ++ more)
      → needed later (cond b (row ∷ needed start rows) (needed start rows) ++ more)
      ≡ needed later (row ∷ rows ++ more)
  needed_by start later order row rows more true e rest =
      let same = newer_more start later order row.key rows more in
      λ i. cond (met row && (int_lt later row.point.end || (flows row && not (same i)))) (row ∷ rest i) (rest i)
  needed_by start later order row rows more false e rest =
      rest ∙ sym (ap (λ b. cond b (row ∷ needed later (rows ++ more)) (needed later (rows ++ more)))
      (gone_still start later order row rows more e))

  -- what is held of what was held and more rows is what is held of all
  pub needed_more : (start later : ℤ) → start ≤ℤ later → (rows more : List Row)
      → needed later (needed start rows ++ more) ≡ needed later (rows ++ more)
  needed_more start later order [] more = refl
  needed_more start later order (row ∷ rows) more =
      needed_by start later order row rows more (held.is_needed met flows start row rows) refl
      (needed_more start later order rows more)

  pub needed_again : (start later : ℤ) → start ≤ℤ later → (rows : List Row)
      → needed later (needed start rows) ≡ needed later rows
  needed_again start later order rows =
      ap (needed later) (sym (append-nil (needed start rows)))
      ∙ needed_more start later order rows []
      ∙ ap (needed later) (append-nil rows)

  -- ---- the points of a series

  abbrev pub points : SeriesKey → List Row → List Point
  points key rows = map (λ (row : Row). row.point) (filter (λ row. same_series key row.key && flows row) rows)

  points_if : (key : SeriesKey) (row : Row) (rows : List Row) (c : Bool)
      → (same_series key row.key && flows row) ≡ c
      → points key (row ∷ rows) ≡ cond c (row.point ∷ points key rows) (points key rows)
  points_if key row rows c e = ap (λ b. map (λ (r : Row). r.point)
      (cond b (row ∷ filter (λ r. same_series key r.key && flows r) rows)
      (filter (λ r. same_series key r.key && flows r) rows))) e ∙ pick c
    where
      pick : (b : Bool) → map (λ (r : Row). r.point)
          (cond b (row ∷ filter (λ r. same_series key r.key && flows r) rows)
          (filter (λ r. same_series key r.key && flows r) rows))
          ≡ cond b (row.point ∷ points key rows) (points key rows)
      pick true = refl
      pick false = refl

  abbrev any_by : ℤ → List Point → Bool
  any_by start some = list_any (λ (p : Point). int_le p.end start) some

  any_if : (start : ℤ) (key : SeriesKey) (row : Row) (rows : List Row) (a b : Bool) → same_series key row.key ≡ a
      → flows row ≡ b → newer start key rows ≡ any_by start (points key rows)
      → ((a && (b && int_le row.point.end start)) || newer start key rows)
      ≡ any_by start (cond (a && b) (row.point ∷ points key rows) (points key rows))
  any_if start key row rows true true e f rest = ap (λ c. int_le row.point.end start || c) rest
  any_if start key row rows true false e f rest = rest
  any_if start key row rows false b e f rest = rest

  newer_points : (start : ℤ) (key : SeriesKey) (rows : List Row)
      → newer start key rows ≡ any_by start (points key rows)
  newer_points start key [] = refl
  newer_points start key (row ∷ rows) =
      any_if start key row rows (same_series key row.key) (flows row) refl refl (newer_points start key rows)
      ∙ ap (any_by start) (sym (points_if key row rows (same_series key row.key && flows row) refl))

  -- points above a time
  none_below : (start end : ℤ) (some : List Point) → AllByRecursion (λ (p : Point). end <ℤ p.end) some
      → start ≤ℤ end → any_by start some ≡ false
  none_below start end [] all above = refl
  none_below start end (p ∷ some) all above =
      let far = all.0 in
      let here : int_le p.end start ≡ false = grind (arith, ints) in
      ap (λ b. b || any_by start some) here ∙ none_below start end some all.1 above

  all_front : (start : ℤ) (q : Point) (some : List Point) → EndsRise (q ∷ some) → start ≤ℤ q.end
      → front start (q ∷ some) ≡ q ∷ some
  all_front start q [] rise above = refl
  all_front start q (r ∷ some) rise above =
      let far = rise.0.0 in
      let here : int_le r.end start ≡ false = grind (arith, ints) in
      ap (λ b. cond b (front start (r ∷ some)) (q ∷ r ∷ some)) here

  both_true : (a b : Bool) → (a && b) ≡ true → (a ≡ true) × (b ≡ true)
  both_true true true e = (refl, refl)
  both_true true false e = absurd cc
  both_true false b e = absurd cc

  held_if : (m late f n : Bool) → (f ≡ true → m ≡ true) → f ≡ true → n ≡ false → (m && (late || (f && not n))) ≡ true
  held_if true true f n so e g = refl
  held_if true false true false so e g = refl
  held_if true false true true so e g = absurd cc
  held_if m late false n so e g = absurd cc
  held_if false late true n so e g =
      let wrong : false ≡ true = so refl in
      absurd cc

  gone_if : (m late f n : Bool) → late ≡ false → n ≡ true → (m && (late || (f && not n))) ≡ false
  gone_if false late f n e g = refl
  gone_if true true f n e g = absurd cc
  gone_if true false f false e g = absurd cc
  gone_if true false true true e g = refl
  gone_if true false false true e g = refl

  -- a row of the series, by the points behind it
  front_by : (start : ℤ) (key : SeriesKey) (row : Row) (rows : List Row) → (same_series key row.key && flows row) ≡ true
      → (some : List Point) → points key rows ≡ some → EndsRise (row.point ∷ some)
      → points key (needed start rows) ≡ front start some
      → points key (needed start (row ∷ rows)) ≡ front start (row.point ∷ some)
  front_by start key row rows own [] e rise rest =
      let parts = both_true (same_series key row.key) (flows row) own in
      let same : key ≡ row.key = (same_series-Decides key row.key).0 parts.0 in
      let none : newer start row.key rows ≡ false =
      ap (λ k. newer start k rows) (sym same) ∙ newer_points start key rows ∙ ap (any_by start) e in
      let kept = held_if (met row) (int_lt start row.point.end) (flows row) (newer start row.key rows) (meets row)
      parts.1 none in
      ap (λ b. points key (cond b (row ∷ needed start rows) (needed start rows))) kept
      ∙ points_if key row (needed start rows) true own
      ∙ ap (λ more. row.point ∷ more) rest
  front_by start key row rows own (q ∷ some) e rise rest =
      next (int_le q.end start) refl
    where
      next : (d : Bool) → int_le q.end start ≡ d
          → points key (needed start (row ∷ rows)) ≡ cond d (front start (q ∷ some)) (row.point ∷ q ∷ some)
      next true f =
          let parts = both_true (same_series key row.key) (flows row) own in
          let same : key ≡ row.key = (same_series-Decides key row.key).0 parts.0 in
          let one : newer start row.key rows ≡ true =
          ap (λ k. newer start k rows) (sym same) ∙ newer_points start key rows ∙ ap (any_by start) e
          ∙ ap (λ b. b || any_by start some) f in
          let less = rise.0.0 in
          let early : int_lt start row.point.end ≡ false = grind (arith, ints) in
          let gone = gone_if (met row) (int_lt start row.point.end) (flows row) (newer start row.key rows) early one in
          ap (λ b. points key (cond b (row ∷ needed start rows) (needed start rows))) gone ∙ rest
      next false f =
          let parts = both_true (same_series key row.key) (flows row) own in
          let same : key ≡ row.key = (same_series-Decides key row.key).0 parts.0 in
          let above : start ≤ℤ q.end = grind (arith, ints) in
          let none : newer start row.key rows ≡ false =
          ap (λ k. newer start k rows) (sym same) ∙ newer_points start key rows ∙ ap (any_by start) e
          ∙ ap (λ b. b || any_by start some) f ∙ none_below start q.end some rise.1.0 above in
          let kept = held_if (met row) (int_lt start row.point.end) (flows row) (newer start row.key rows) (meets row)
          parts.1 none in
          ap (λ b. points key (cond b (row ∷ needed start rows) (needed start rows))) kept
          ∙ points_if key row (needed start rows) true own
          ∙ ap (λ more. row.point ∷ more) (rest ∙ all_front start q some rise.1 above)

  others_by : (start : ℤ) (key : SeriesKey) (row : Row) (rows : List Row)
      → (same_series key row.key && flows row) ≡ false → (b : Bool)
      → points key (cond b (row ∷ needed start rows) (needed start rows)) ≡ points key (needed start rows)
  others_by start key row rows other true = points_if key row (needed start rows) false other
  others_by start key row rows other false = refl

  front_if : (start : ℤ) (key : SeriesKey) (row : Row) (rows : List Row) (c : Bool)
      → (same_series key row.key && flows row) ≡ c → EndsRise (cond c (row.point ∷ points key rows) (points key rows))
      → (EndsRise (points key rows) → points key (needed start rows) ≡ front start (points key rows))
      → points key (needed start (row ∷ rows))
      ≡ front start (cond c (row.point ∷ points key rows) (points key rows))
  front_if start key row rows true own rise rest =
      front_by start key row rows own (points key rows) refl rise (rest rise.1)
  front_if start key row rows false own rise rest =
      others_by start key row rows own (held.is_needed met flows start row rows) ∙ rest rise

  front_held : (start : ℤ) (key : SeriesKey) (rows : List Row) → EndsRise (points key rows)
      → points key (needed start rows) ≡ front start (points key rows)
  front_held start key [] rise = refl
  front_held start key (row ∷ rows) rise =
      let c = same_series key row.key && flows row in
      let parts = points_if key row rows c refl in
      front_if start key row rows c refl (subst EndsRise parts rise) (front_held start key rows)
      ∙ ap (front start) (sym parts)

  -- of each series, the points above the start of the reach and the newest of the others
  pub needed_points : (start : ℤ) (key : SeriesKey) (rows : List Row) → EndsRise (points key rows)
      → points key (needed start rows) ≡ with_earlier start (points key rows)
  needed_points start key rows rise =
      front_held start key rows rise ∙ sym (is_front start (points key rows) rise)

  -- so each later window has the same increases
  pub needed_windows : (time seconds start : ℤ) → start ≤ℤ (time -ℤ seconds) → (key : SeriesKey) (rows : List Row)
      → EndsRise (points key rows)
      → window_of time seconds (increases None (points key (needed start rows)))
      ≡ window_of time seconds (increases None (points key rows))
  needed_windows time seconds start order key rows rise =
      ap (λ some. window_of time seconds (increases None some)) (needed_points start key rows rise)
      ∙ enough time seconds start order (points key rows) rise

  -- ---- what is in reach

  abbrev reached : ℤ → Row → Bool
  reached start row = met row && int_lt start row.point.end

  kept_reached : (m late f n : Bool) (row : Row) (held all : List Row) → held ≡ all → (b : Bool)
      → (m && (late || (f && not n))) ≡ b → (some : List Row)
      → some ≡ held → cond b (cond (m && late) (row ∷ some) some) some ≡ cond (m && late) (row ∷ all) all
  kept_reached m late f n row held all e true g some h = λ i. cond (m && late) (row ∷ (h ∙ e) i) ((h ∙ e) i)
  kept_reached false late f n row held all e false g some h = h ∙ e
  kept_reached true false f n row held all e false g some h = h ∙ e
  kept_reached true true f n row held all e false g some h = absurd cc

  reached_if : (start : ℤ) (row : Row) (some : List Row) (b : Bool)
      → filter (reached start) (cond b (row ∷ some) some)
      ≡ cond b (cond (reached start row) (row ∷ filter (reached start) some) (filter (reached start) some))
      (filter (reached start) some)
  reached_if start row some true = refl
  reached_if start row some false = refl

  -- the rows in reach are the same: those that stand before it count in no load
  pub needed_reached : (start : ℤ) (rows : List Row)
      → filter (reached start) (needed start rows) ≡ filter (reached start) rows
  needed_reached start [] = refl
  needed_reached start (row ∷ rows) =
      reached_if start row (needed start rows) (held.is_needed met flows start row rows)
      ∙ kept_reached (met row) (int_lt start row.point.end) (flows row) (newer start row.key rows) row
      (filter (reached start) (needed start rows)) (filter (reached start) rows) (needed_reached start rows)
      (held.is_needed met flows start row rows) refl (filter (reached start) (needed start rows)) refl
