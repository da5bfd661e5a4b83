-- What a query knows once it has loaded words, and of zones that stand as they had been seen.
use Rattle.std.proofs.Common.{◌≡◌, ◌∙◌, ℕ, zero, suc, ◌+◌, ◌-◌, ◌<◌, ◌≤◌, Bool, true, false, List, [], ◌∷◌, ◌++◌}
use Rattle.std.proofs.Common.{length, map, take, drop, get_or, slice_get, Some, ◌⊎◌, inl, inr, sym, ap, subst}
use Rattle.std.proofs.Common.{append_assoc, append-nil, length-append, arith}
use Rattle.std.specs.List.{AllByRecursion as All}
use Rattle.std.proofs.lemmas.Bool.{cases_lt}
use Rattle.std.proofs.lemmas.List.{drop-drop, drop_all, get_or_append_left, get_or_at, length-map, map-append}
use Rattle.std.proofs.lemmas.List.{take-append-drop}
use Rattle.std.proofs.lemmas.List.FromFn.{get_or-map-range_with_len, length-map-range_with_len}
use Rattle.mon_hints.specs.Covers.{AreBitsWithin, Bits}
use Rattle.mon_hints.specs.Formulas.{all_named, formula_tree, formulas, AreAmong, is_among}
use Rattle.mon_hints.specs.Hints.{history_buckets, has_bit}
use Rattle.mon_schema.specs.Fits.{fits}
use Rattle.mon_topo.proofs.RangeHistoryLemmas.{all_on}
use Rattle.mon_value.specs.Histories.{leaf_history, range_numbered, zone_numbered}
use Rattle.mon_value.specs.declared.histories.Histories.{Histories}
use Rattle.mon_topo.specs.Replicas.{HasReplicas}
use Rattle.mon_topo.specs.HeldHistories.{AreWithin}
use Rattle.mon_topo.specs.Settings.{Setting}
use Rattle.mon_topo.specs.Settings.{zone_of_leaf}
use Rattle.mon_topo.specs.Zones.{first_leaf, first_range, leaf_zones, no_zone, ranges_in}
use Rattle.mon_topo.specs.declared.zones.ZoneSpec.{ZoneSpec}
use Rattle.mon_value.specs.LeafHistories.{leaf_rows}
use Rattle.mon_value.specs.declared.histories.Entry.{Entry}
use Rattle.mon_value.specs.declared.positions.Leaf.{Leaf}
use Rattle.mon_value.specs.declared.positions.Zone.{Zone}
use Rattle.query_traces.proofs.HintFacts.{AreKnown, shut_out}
use Rattle.query_traces.proofs.SeenSpans.{seen_span}
use Rattle.query_traces.proofs.Spans.{span_append}
use Rattle.query_core.proofs.TraceClaims.{Below, KnownOf, LoadedSo, LoadingSo, SeenThen, Span, met, root_known}
use Rattle.query_core.proofs.TraceClaims.{then_on, wanted, zone_known}
use Rattle.mon_topo.proofs.SizeLemmas.{parts_so_far}
use Rattle.query_traces.proofs.ZoneFacts.{all_leaves, all_ranges, leaves_next, ranges_next, zone_of_leaf_at}
use Rattle.query_traces.specs.Rounds.{area_of, unread_look, QuerySetting}
use Rattle.query_core.specs.Courses.{cuts_seen, firsts_seen}
use Rattle.query_traces.specs.Loadings.{seen_first}
use Rattle.query_traces.specs.TrueAnswers.{IsSeenSo}
use Rattle.mon_topo.specs.Views.{IsSound, IsViewWithin, View}
use Rattle.plan_split.specs.Meeting.{flag_at, let_in, lets_child_in}
use Rattle.query_traces.specs.declared.answers.Resolved.{Resolved}
use Rattle.query_traces.specs.declared.asks.Seen.{Seen}
use Rattle.query_traces.specs.declared.looks.Look.{Look}

-- ---- one word more

one_word : (known : ℕ → ℕ → Bool) (count : ℕ) (named : List ℕ) (word : ℕ)
    → ((child : ℕ) → child < count → known child (get_or named 0 0) ≡ true → has_bit word child ≡ true)
    → AreKnown known count named (word ∷ [])
one_word known count named word tells zero l child lt is = tells child lt is
one_word known count named word tells (suc i) l child lt is = absurd (omega (arith, l))

more_words : (known : ℕ → ℕ → Bool) (count : ℕ) (named words : List ℕ) (word : ℕ) → AreKnown known count named words
    → ((child : ℕ) → child < count → known child (get_or named (length words) 0) ≡ true → has_bit word child ≡ true)
    → AreKnown known count named (words ++ word ∷ [])
more_words known count named words word all tells i l child lt is =
    elim (cases_lt i (length words)) [
      | inl old ↦ subst (λ (n : ℕ). has_bit n child ≡ true) (sym (get_or_append_left words (word ∷ []) 0 i old))
          (all i old child lt is)
      | inr new ↦ (let last : i ≡ length words = omega (arith, new, l, length-append words (word ∷ [])) in
          subst (λ (n : ℕ). has_bit n child ≡ true) (sym (get_or_at words word [] 0 i (sym last)))
          (tells child lt (subst (λ (n : ℕ). known child (get_or named n 0) ≡ true) last is)))
    ]

module _ (store : Setting) (setting : QuerySetting) (at_entry : Histories) where
  pub loading_from : (now : View) (known_of : KnownOf) (count : ℕ) (Also : Histories → Type 0) (words : List ℕ)
      (seen : Seen)
      → LoadedSo store setting at_entry now known_of count Also words seen
      → LoadingSo store setting at_entry now known_of count Also words seen
  loading_from now known_of count Also [] seen is = record {}
  loading_from now known_of count Also (word ∷ words) seen is = is

  module _ (before after : View) (grown : IsViewWithin before after) (since : AreWithin at_entry before.seen)
      (sound : IsSound store before) (known_of : KnownOf)
      (stays : (some others : Bits) → AreBitsWithin some others → (child bucket : ℕ) → known_of some child bucket ≡ true
      → known_of others child bucket ≡ true)
      (count : ℕ) (Also : Histories → Type 0) where
    -- what had been seen by the first word is what counts
    pub word_loaded : (words : List ℕ) (seen : Seen) (word : ℕ) (told : Seen)
        → LoadingSo store setting at_entry before known_of count Also words seen → IsSeenSo before.seen told
        → ((child : ℕ) → child < count → known_of before.bits child (get_or setting.plan.buckets (length words) 0)
        ≡ true
        → has_bit word child ≡ true)
        → Also before.seen
        → LoadedSo store setting at_entry after known_of count Also (words ++ word ∷ []) (seen_first words seen told)
    word_loaded [] seen word told is so tells also = record {
      then = before;
      is = record { since = since; until = grown.seen; bits = grown.bits; sound = sound; so = so };
      also = also;
      known = one_word (known_of before.bits) count setting.plan.buckets word tells;
    }
    word_loaded (first ∷ words) seen word told is so tells also = record {
      then = is.then;
      is = then_on store setting at_entry before after grown seen is.then is.is;
      also = is.also;
      known = more_words (known_of is.then.bits) count setting.plan.buckets (first ∷ words) word is.known
          (λ child lt known. tells child lt (stays is.then.bits before.bits is.is.bits child
          (get_or setting.plan.buckets (length (first ∷ words)) 0) known));
    }

-- ---- what words leave out

get_from : {X : Type 0} (xs : List X) (i : ℕ) (x d : X) → slice_get xs i ≡ Some x → get_or xs i d ≡ x
get_from [] i x d e = absurd (cc)
get_from (y ∷ xs) zero x d e = cc
get_from (y ∷ xs) (suc i) x d e = get_from xs i x d e

module _ (store : Setting) (setting : QuerySetting)
    (listed : AreAmong (all_named (formulas (map formula_tree setting.plan.formulas))) setting.plan.buckets) where
  module _ (then : View) (sound : IsSound store then) (z : ℕ) (there : z < length store.zones) (leaf : Leaf)
      (from : first_leaf store.zones z ≤ leaf.0) (to : leaf.0 < first_leaf store.zones (z + 1)) where
    abbrev place : ℕ
    place = leaf.0 - first_leaf store.zones z

    in_zone : place < (area_of store.zones z).leaves
    in_zone = omega (arith, from, to, leaves_next store.zones z there)

    zone_is : (zone_of_leaf store leaf).0 ≡ z
    zone_is =
        let same : first_leaf store.zones z + place ≡ leaf.0 = omega (arith, from) in
        ap (λ (zone : Zone). zone.0)
        (get_from (leaf_zones store.zones) leaf.0 (zone_numbered z) (zone_numbered 0)
        (ap (slice_get (leaf_zones store.zones)) (sym same) ∙ zone_of_leaf_at store.zones z place there in_zone))

    covered : (bucket : ℕ) → is_among bucket (history_buckets store.buckets_of (leaf_history then.seen leaf)) ≡ true
        → (then.bits.root z bucket ≡ true) × (then.bits.zone leaf.0 bucket ≡ true)
    covered bucket here =
        let within : leaf.0 < length then.seen.leaves =
        omega (
          arith,
          to,
          leaves_next store.zones z there,
          parts_so_far (λ (zone : ZoneSpec). zone.leaves) store.zones z no_zone there,
          sound.held.all_leaves,
        ) in
        let is = sound.covered leaf bucket here in
        (subst (λ (n : ℕ). then.bits.root n bucket ≡ true) zone_is is.at_root, is.in_zone)

    pub root_shut : (words : List ℕ) → AreKnown (root_known then.bits) (length store.zones) setting.plan.buckets words
        → length setting.plan.buckets ≤ length words → flag_at (let_in setting.plan words (length store.zones)) z
        ≡ false
        → met store setting (history_buckets store.buckets_of (leaf_history then.seen leaf)) ≡ false
    root_shut words known long out =
        shut_out (formulas (map formula_tree setting.plan.formulas)) (root_known then.bits) (length store.zones)
        setting.plan.buckets words (history_buckets store.buckets_of (leaf_history then.seen leaf)) z listed known
        there long
        (λ bucket here. (covered bucket here).0)
        (sym (get_or-map-range_with_len (lets_child_in setting.plan words) 0 (length store.zones) z z false there
        (omega arith)) ∙ out)

    pub zone_shut : (words : List ℕ)
        → AreKnown (zone_known store.zones z then.bits) (area_of store.zones z).leaves setting.plan.buckets words
        → length setting.plan.buckets ≤ length words
        → flag_at (let_in setting.plan words (area_of store.zones z).leaves) place ≡ false
        → met store setting (history_buckets store.buckets_of (leaf_history then.seen leaf)) ≡ false
    zone_shut words known long out =
        let same : leaf.0 ≡ first_leaf store.zones z + place = omega (arith, from) in
        shut_out (formulas (map formula_tree setting.plan.formulas)) (zone_known store.zones z then.bits)
        (area_of store.zones z).leaves setting.plan.buckets words
        (history_buckets store.buckets_of (leaf_history then.seen leaf)) place listed known in_zone long
        (λ bucket here. subst (λ (n : ℕ). then.bits.zone n bucket ≡ true) same (covered bucket here).1)
        (sym (get_or-map-range_with_len (lets_child_in setting.plan words) 0
        (area_of store.zones z).leaves place place false
        in_zone
        (omega arith)) ∙ out)

-- ---- zones that stand as they had been seen

module _ (store : Setting) (setting : QuerySetting) (at_entry : Histories)
    (replicated : (r : ℕ) → r < length (ranges_in store.zones) → HasReplicas store.zones (range_numbered r))
    (unmet : (history : List Entry) → All (λ row. fits store.held row ≡ true) (leaf_rows history)
    → met store setting (history_buckets store.buckets_of history) ≡ false
    → All (λ row. wanted store setting row ≡ false) (leaf_rows history))
    (now : View) (avoided : List Leaf) (Skip : Leaf → Type 0) (seen : Seen) (then : View)
    (is : SeenThen store setting at_entry now seen then) where
  pub zone_seen : (k : ℕ) (there : k < length store.zones) → Below (first_leaf store.zones k) avoided
      → ((leaf : Leaf) → first_leaf store.zones k ≤ leaf.0 → leaf.0 < first_leaf store.zones (k + 1)
      → Skip leaf ⊎ (met store setting (history_buckets store.buckets_of (leaf_history then.seen leaf)) ≡ false))
      → Span store setting at_entry now.seen avoided Skip (first_leaf store.zones k) (first_leaf store.zones (k + 1))
      (first_range store.zones k) (first_range store.zones (k + 1)) (firsts_seen seen (area_of store.zones k))
      (map unread_look (cuts_seen seen (area_of store.zones k)))
  zone_seen k there below shut =
      seen_span store.held store.zones store.points replicated (wanted store setting) (met store setting)
      store.buckets_of
      unmet at_entry then.seen now.seen is.sound.held is.since is.until avoided k there below seen.cuts seen.firsts
      is.so.cuts
      is.so.ranges is.so.firsts Skip (λ leaf from to. shut leaf from
      (omega (arith, to, leaves_next store.zones k there)))

  split : {X : Type 0} (n m next : ℕ) (xs : List X) → n + m ≡ next → drop n xs ≡ take m (drop n xs) ++ drop next xs
  split n m next xs e =
      sym (take-append-drop m (drop n xs))
      ∙ ap (λ rest. take m (drop n xs) ++ rest) (drop-drop m n xs ∙ ap (λ i. drop i xs) (omega (arith, e)))

  abbrev rest_resolved : ℕ → List Resolved
  rest_resolved k = drop (first_range store.zones k) seen.firsts

  abbrev rest_looks : ℕ → List Look
  rest_looks k = map unread_look (drop (first_leaf store.zones k) seen.cuts)

  -- all zones that the query did not come to
  pub rest_seen : (n k : ℕ) (resolved : List Resolved) (looks : List Look) → k + n ≡ length store.zones
      → (0 < n → (leaf : Leaf) → Skip leaf)
      → Below (first_leaf store.zones k) avoided
      → Span store setting at_entry now.seen avoided Skip 0 (first_leaf store.zones k) 0 (first_range store.zones k)
      resolved looks
      → Span store setting at_entry now.seen avoided Skip 0 (first_leaf store.zones (length store.zones)) 0
      (first_range store.zones (length store.zones)) (resolved ++ rest_resolved k) (looks ++ rest_looks k)
  rest_seen zero k resolved looks e skips below span =
      let last : k ≡ length store.zones = omega (arith, e) in
      let no_firsts : rest_resolved k ≡ [] =
      drop_all (first_range store.zones k) seen.firsts
      (omega (
        arith,
        all_ranges store.zones k (omega (arith, e)),
        is.sound.held.all_ranges,
        ap length is.so.ranges,
        length-map seen.firsts (λ (one : Resolved). one.range),
        length-map-range_with_len range_numbered 0 (length then.seen.ranges),
      )) in
      let no_cuts : rest_looks k ≡ [] =
      ap (map unread_look) (drop_all (first_leaf store.zones k) seen.cuts
      (omega (
        arith,
        all_leaves store.zones k (omega (arith, e)),
        is.sound.held.all_leaves,
        ap length is.so.cuts,
        length-map then.seen.leaves (λ (history : List Entry). length history),
      ))) in
      subst (λ (n : ℕ). Span store setting at_entry now.seen avoided Skip 0 (first_leaf store.zones n) 0
      (first_range store.zones n) (resolved ++ rest_resolved k) (looks ++ rest_looks k)) last
      (subst (λ (more : List Resolved). Span store setting at_entry now.seen avoided Skip 0 (first_leaf store.zones k) 0
      (first_range store.zones k) more (looks ++ rest_looks k))
      (sym (append-nil resolved) ∙ ap (λ more. resolved ++ more) (sym no_firsts))
      (subst (Span store setting at_entry now.seen avoided Skip 0 (first_leaf store.zones k) 0
      (first_range store.zones k) resolved)
      (sym (append-nil looks) ∙ ap (λ more. looks ++ more) (sym no_cuts)) span))
  rest_seen (suc n) k resolved looks e skips below span =
      let there : k < length store.zones = omega (arith, e) in
      let area = area_of store.zones k in
      let own = firsts_seen seen area in
      let own_looks = map unread_look (cuts_seen seen area) in
      let own_span = zone_seen k there below (λ leaf from to. inl (skips (omega arith) leaf)) in
      let both = span_append at_entry (wanted store setting) (met store setting) store.buckets_of now.seen avoided Skip
      0
      (first_leaf store.zones k) (first_leaf store.zones (k + 1)) 0 (first_range store.zones k)
      (first_range store.zones (k + 1))
      resolved own looks own_looks span own_span in
      let next_range : first_range store.zones k + area.ranges ≡ first_range store.zones (k + 1) =
      sym (ranges_next store.zones k there) in
      let next_leaf : first_leaf store.zones k + area.leaves ≡ first_leaf store.zones (k + 1) =
      sym (leaves_next store.zones k there) in
      let resolved_same : (resolved ++ own) ++ rest_resolved (k + 1) ≡ resolved ++ rest_resolved k =
      append_assoc resolved own (rest_resolved (k + 1))
      ∙ ap (λ more. resolved ++ more)
      (sym (split (first_range store.zones k) area.ranges (first_range store.zones (k + 1)) seen.firsts next_range)) in
      let looks_same : (looks ++ own_looks) ++ rest_looks (k + 1) ≡ looks ++ rest_looks k =
      append_assoc looks own_looks (rest_looks (k + 1))
      ∙ ap (λ more. looks ++ more)
      (sym (map-append unread_look (cuts_seen seen area) (drop (first_leaf store.zones (k + 1)) seen.cuts)))
      ∙ ap (λ more. looks ++ map unread_look more)
      (sym (split (first_leaf store.zones k) area.leaves (first_leaf store.zones (k + 1)) seen.cuts next_leaf)) in
      subst (λ (more : List Resolved). Span store setting at_entry now.seen avoided Skip 0
      (first_leaf store.zones (length store.zones)) 0 (first_range store.zones (length store.zones)) more
      (looks ++ rest_looks k))
      resolved_same
      (subst (Span store setting at_entry now.seen avoided Skip 0 (first_leaf store.zones (length store.zones)) 0
      (first_range store.zones (length store.zones)) ((resolved ++ own) ++ rest_resolved (k + 1))) looks_same
      (rest_seen n (k + 1) (resolved ++ own) (looks ++ own_looks) (omega (arith, e)) (λ some. skips (omega arith))
      (all_on (λ (leaf : Leaf). leaf.0 < first_leaf store.zones k) (λ (leaf : Leaf). leaf.0 < first_leaf store.zones
      (k + 1))
      (λ leaf less. omega (arith, less, next_leaf)) avoided below) both))
