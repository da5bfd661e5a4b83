-- Lists of a query's events, one further on.
use Rattle.std.proofs.Common.{◌≡◌, ◌∙◌, ◌+◌, ◌-◌, ◌<◌, ◌≤◌, ℕ, suc, Bool, true, false, cond, List, [], ◌∷◌, ◌++◌}
use Rattle.std.proofs.Common.{length, map, take, drop, get_or, sym, ap, arith, append-nil, append_assoc}
use Rattle.std.specs.List.{flat_map}
use Rattle.std.proofs.lemmas.List.{drop_all, drop_more, length-take-le, map-append, take-append-drop, take_more}
use Rattle.std.proofs.lemmas.List.Concat.{flat_map-append}
use Rattle.std.proofs.Math.Decide.{dec_lt}
use mathlib.Core.Logic.{dite}
use Rattle.mon_value.specs.declared.positions.Leaf.{Leaf}
use Rattle.query_traces.specs.Rounds.{range_at}
use Rattle.plan_split.specs.Meeting.{flag_at}
use Rattle.query_core.specs.Orders.{ZoneCourse, areas_of_zones, chosen_areas, query_events, resolve_events}
use Rattle.query_core.specs.Orders.{round_events, zone_events}
use Rattle.query_traces.specs.declared.areas.Area.{Area}
use Rattle.query_traces.specs.declared.asks.Ask.{Ask}
use Rattle.query_traces.specs.declared.asks.Ask.TheVariants as ask

-- one event of those that are left was done
pub one_on : (done : List Ask) (one : Ask) (left all : List Ask) → done ++ one ∷ left ≡ all
    → (done ++ one ∷ []) ++ left ≡ all
one_on done one left all h = append_assoc done (one ∷ []) left ∙ h

pub none_left : (done all : List Ask) → done ++ [] ≡ all → done ≡ all
none_left done all h = sym (append-nil done) ∙ h

-- ---- words and ranges that are left

pub words_next : (event : ℕ → Ask) (buckets : List ℕ) (place : ℕ) → place < length buckets
    → map event (drop place buckets) ≡ event (get_or buckets place 0) ∷ map event (drop (place + 1) buckets)
words_next event buckets place h = ap (map event) (drop_more buckets place 0 h)

pub words_none : (event : ℕ → Ask) (buckets : List ℕ) (place : ℕ) → length buckets ≤ place
    → map event (drop place buckets) ≡ []
words_none event buckets place h = ap (map event) (drop_all place buckets h)

pub resolves_next : (area : Area) (place count : ℕ) → place < count
    → resolve_events area place (count - place)
    ≡ ask.Resolve (range_at area place) ∷ resolve_events area (place + 1) (count - (place + 1))
resolves_next area place count h =
    let more : count - place ≡ suc (count - (place + 1)) = omega (arith, h) in ap (resolve_events area place) more

pub resolves_none : (area : Area) (place count : ℕ) → count ≤ place → resolve_events area place (count - place) ≡ []
resolves_none area place count h =
    let none : count - place ≡ 0 = omega (arith, h) in ap (resolve_events area place) none

pub resolves_all : (area : Area) (count : ℕ) → resolve_events area 0 (count - 0) ≡ resolve_events area 0 count
resolves_all area count = let all : count - 0 ≡ count = omega arith in ap (resolve_events area 0) all

-- ---- one zone, one round and one leaf more

module _ (buckets : List ℕ) (zones : List ZoneCourse) where
  abbrev behind : List Ask
  behind = query_events buckets zones

  zone_last : (zone : ZoneCourse) → query_events buckets (zones ++ zone ∷ []) ≡ behind ++ zone_events buckets zone
  zone_last zone =
      ap (λ events. map ask.LoadRoot buckets ++ events) (flat_map-append (zone_events buckets) zones (zone ∷ [])
      ∙ ap (λ events. flat_map (zone_events buckets) zones ++ events) (append-nil (zone_events buckets zone)))
      ∙ sym (append_assoc (map ask.LoadRoot buckets) (flat_map (zone_events buckets) zones)
      (zone_events buckets zone))

  module _ (area : Area) where
    abbrev zone_of : List (List Leaf) → ZoneCourse
    zone_of rounds = record { area = area; rounds = rounds }

    abbrev words : List Ask
    words = map (ask.LoadZone area.zone) buckets

    round_last : (rounds : List (List Leaf)) (leaves : List Leaf)
        → zone_events buckets (zone_of (rounds ++ leaves ∷ []))
        ≡ zone_events buckets (zone_of rounds) ++ round_events buckets area leaves
    round_last rounds leaves =
        ap (λ events. words ++ events) (flat_map-append (round_events buckets area) rounds (leaves ∷ [])
        ∙ ap (λ events. flat_map (round_events buckets area) rounds ++ events)
        (append-nil (round_events buckets area leaves)))
        ∙ sym (append_assoc words (flat_map (round_events buckets area) rounds) (round_events buckets area leaves))

    leaf_last : (leaves : List Leaf) (leaf : Leaf) → round_events buckets area (leaves ++ leaf ∷ [])
        ≡ round_events buckets area leaves ++ ask.Visit leaf ∷ []
    leaf_last leaves leaf =
        let resolves = resolve_events area 0 area.ranges in
        ap (λ events. resolves ++ (words ++ events)) (map-append ask.Visit leaves (leaf ∷ []))
        ∙ ap (λ events. resolves ++ events) (sym (append_assoc words (map ask.Visit leaves) (ask.Visit leaf ∷ [])))
        ∙ sym (append_assoc resolves (words ++ map ask.Visit leaves) (ask.Visit leaf ∷ []))

    -- a zone is begun by its words
    pub zone_begins : behind ++ words ≡ query_events buckets (zones ++ zone_of [] ∷ [])
    zone_begins = ap (λ events. behind ++ events) (sym (append-nil words)) ∙ sym (zone_last (zone_of []))

    -- a round by its ranges and words
    pub round_begins : (rounds : List (List Leaf))
        → query_events buckets (zones ++ zone_of rounds ∷ []) ++ (resolve_events area 0 area.ranges ++ words)
        ≡ query_events buckets (zones ++ zone_of (rounds ++ [] ∷ []) ∷ [])
    round_begins rounds =
        let begun = resolve_events area 0 area.ranges ++ words in
        let zone = zone_events buckets (zone_of rounds) in
        ap (λ events. events ++ begun) (zone_last (zone_of rounds)) ∙ append_assoc behind zone begun
        ∙ ap (λ events. behind ++ (zone ++ (resolve_events area 0 area.ranges ++ events))) (sym (append-nil words))
        ∙ ap (λ events. behind ++ events) (sym (round_last rounds []))
        ∙ sym (zone_last (zone_of (rounds ++ [] ∷ [])))

    -- and a leaf more
    pub leaf_visited : (rounds : List (List Leaf)) (leaves : List Leaf) (leaf : Leaf)
        → query_events buckets (zones ++ zone_of (rounds ++ leaves ∷ []) ∷ []) ++ ask.Visit leaf ∷ []
        ≡ query_events buckets (zones ++ zone_of (rounds ++ (leaves ++ leaf ∷ []) ∷ []) ∷ [])
    leaf_visited rounds leaves leaf =
        let visit = ask.Visit leaf ∷ [] in
        let zone = zone_events buckets (zone_of rounds) in
        let round = round_events buckets area leaves in
        ap (λ events. events ++ visit) (zone_last (zone_of (rounds ++ leaves ∷ []))
        ∙ ap (λ events. behind ++ events) (round_last rounds leaves))
        ∙ append_assoc behind (zone ++ round) visit
        ∙ ap (λ events. behind ++ events) (append_assoc zone round visit
        ∙ ap (λ events. zone ++ events) (sym (leaf_last leaves leaf))
        ∙ sym (round_last rounds (leaves ++ leaf ∷ [])))
        ∙ sym (zone_last (zone_of (rounds ++ (leaves ++ leaf ∷ []) ∷ [])))

-- ---- zones that are let in

pub zones_last : (zones : List ZoneCourse) (zone : ZoneCourse)
    → areas_of_zones (zones ++ zone ∷ []) ≡ areas_of_zones zones ++ zone.area ∷ []
zones_last zones zone = map-append (λ (one : ZoneCourse). one.area) zones (zone ∷ [])

one_before : (b : Bool) (area : Area) (all front back : List Area) → all ≡ front ++ back
    → cond b (area ∷ all) all ≡ cond b (area ∷ front) front ++ back
one_before true area all front back h = ap (λ areas. area ∷ areas) h
one_before false area all front back h = h

pub chosen-append : (flags : List Bool) (number : ℕ) (areas more : List Area)
    → chosen_areas flags number (areas ++ more)
    ≡ chosen_areas flags number areas ++ chosen_areas flags (number + length areas) more
chosen-append flags number [] more =
    let same : number ≡ number + 0 = omega arith in ap (λ n. chosen_areas flags n more) same
chosen-append flags number (area ∷ areas) more =
    let same : number + 1 + length areas ≡ number + suc (length areas) = omega arith in
    one_before (flag_at flags number) area (chosen_areas flags (number + 1) (areas ++ more))
    (chosen_areas flags (number + 1) areas) (chosen_areas flags (number + suc (length areas)) more)
    (chosen-append flags (number + 1) areas more
    ∙ ap (λ n. chosen_areas flags (number + 1) areas ++ chosen_areas flags n more) same)

no_area : (area : Area) (rest : List Area) → area ∷ rest ≡ [] → ⊥
no_area area rest e = cc

same_first : (a b : Area) (xs ys : List Area) → a ∷ xs ≡ b ∷ ys → a ≡ b
same_first a b xs ys e = cc

same_rest : (a b : Area) (xs ys : List Area) → a ∷ xs ≡ b ∷ ys → xs ≡ ys
same_rest a b xs ys e = cc

module _ (flags : List Bool) (areas : List Area) (begun : ℕ) (area : Area) (rest : List Area)
    (left : drop begun areas ≡ area ∷ rest) where
  there : begun < length areas
  there = dite (dec_lt begun (length areas)) (λ below. below)
      (λ beyond. absurd (no_area area rest (sym left ∙ drop_all begun areas (omega arith))))

  first_and_rest : get_or areas begun area ∷ drop (begun + 1) areas ≡ area ∷ rest
  first_and_rest = sym (drop_more areas begun area there) ∙ left

  pub rest_left : drop (begun + 1) areas ≡ rest
  rest_left = same_rest (get_or areas begun area) area (drop (begun + 1) areas) rest first_and_rest

  one_more : take (begun + 1) areas ≡ take begun areas ++ area ∷ []
  one_more =
      let same = same_first (get_or areas begun area) area (drop (begun + 1) areas) rest first_and_rest in
      take_more areas begun area there ∙ ap (λ (one : Area). take begun areas ++ one ∷ []) same

  number_is : 0 + length (take begun areas) ≡ begun
  number_is =
      let h = there in
      let all : length (take begun areas) ≡ begun = length-take-le begun areas (omega (arith, h)) in
      omega (arith, all)

  chosen_then : chosen_areas flags 0 (take (begun + 1) areas)
      ≡ chosen_areas flags 0 (take begun areas) ++ cond (flag_at flags begun) (area ∷ []) []
  chosen_then =
      ap (chosen_areas flags 0) one_more ∙ chosen-append flags 0 (take begun areas) (area ∷ [])
      ∙ ap (λ n. chosen_areas flags 0 (take begun areas) ++ cond (flag_at flags n) (area ∷ []) []) number_is

  pub chosen_in : flag_at flags begun ≡ true
      → chosen_areas flags 0 (take (begun + 1) areas) ≡ chosen_areas flags 0 (take begun areas) ++ area ∷ []
  chosen_in h = chosen_then ∙ ap (λ b. chosen_areas flags 0 (take begun areas) ++ cond b (area ∷ []) []) h

  pub chosen_out : flag_at flags begun ≡ false
      → chosen_areas flags 0 (take (begun + 1) areas) ≡ chosen_areas flags 0 (take begun areas)
  chosen_out h =
      chosen_then ∙ ap (λ b. chosen_areas flags 0 (take begun areas) ++ cond b (area ∷ []) []) h
      ∙ append-nil (chosen_areas flags 0 (take begun areas))

pub chosen_whole : (flags : List Bool) (areas : List Area) (begun : ℕ)
    → chosen_areas flags 0 (take begun areas)
    ++ chosen_areas flags (0 + length (take begun areas)) (drop begun areas) ≡ chosen_areas flags 0 areas
chosen_whole flags areas begun =
    sym (chosen-append flags 0 (take begun areas) (drop begun areas))
    ∙ ap (chosen_areas flags 0) (take-append-drop begun areas)

pub chosen_all : (flags : List Bool) (areas : List Area) (begun : ℕ) → drop begun areas ≡ []
    → chosen_areas flags 0 (take begun areas) ≡ chosen_areas flags 0 areas
chosen_all flags areas begun none =
    ap (chosen_areas flags 0) (sym (append-nil (take begun areas))
    ∙ ap (λ more. take begun areas ++ more) (sym none) ∙ take-append-drop begun areas)
