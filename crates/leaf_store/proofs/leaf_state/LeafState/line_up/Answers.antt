use Rattle.std.proofs.Common.{rules, ◌≡◌, ◌∙◌, ◌≤◌, ◌++◌, ◌∷◌, [], List, length, drop, IfSome, refl, sym, ap, subst}
use Rattle.std.proofs.Common.{append-nil, arith}
use Rattle.std.specs.List.{count_by}
use Rattle.std.specs.Vec.{vec_len}
use Rattle.std.proofs.lemmas.List.{length-append}
use Rattle.mon_hints.specs.BucketSets.{is_set}
use Rattle.mon_hints.specs.Hints.{history_buckets}
use Rattle.mon_hints.specs.Formulas.{is_among}
use Rattle.mon_value.proofs.LeafHistoryLemmas.{follows}
use Rattle.mon_value.specs.LeafHistories.{IsWellFormed, is_down, is_switch}
use Rattle.mon_value.specs.declared.histories.Entry.{Entry}
use Rattle.leaf_store.specs.LeafStates.{key_buckets, LeafView, HasNumber}
use Rattle.leaf_store.specs.declared.fresh.FreshEntry.{FreshEntry}
use Rattle.leaf_store.specs.declared.kept.Kept.{Kept}
use Rattle.leaf_store.specs.within.FreshEntries.{AreNumbered, entries_in}
use Rattle.leaf_store.specs.within.Replicas.{IsInTwoParts, Replicas, shown_entries}
use Rattle.leaf_store.specs.within.States.{history_inside, left_of}
use Rattle.leaf_store.proofs.BehindLemmas.{comes_behind, none_behind, shown}
use Rattle.leaf_store.proofs.KnownLemmas.{adds_unless_known, holds_buckets}
use Rattle.leaf_store.proofs.SeriesNumberLemmas.{next_number}
use Rattle.leaf_store.proofs.StateLemmas.{count_plain, down_plain, history_push, holds_push, numbers_push, raised_push}
use Rattle.leaf_store.proofs.leaf_state.LeafState.line_up.Goals as goal

pub raise_unknown-requires-clause-held : goal.raise_unknown-requires-clause-held
raise_unknown-requires-clause-held c =
    let leaf = c.self.inside in
    holds_buckets (key_buckets leaf.buckets leaf.schemas) leaf.replicas.entries (is_set leaf.raised.words)
    (shown_entries leaf.replicas.entries leaf.kept.items) (left_of leaf) c.self.invariant.holds.holds
    c.self.invariant.raised

pub invariant_of-self : goal.invariant_of-self
invariant_of-self c =
    let leaf = c.self.inside in
    let e = c.args.entry in
    let last : FreshEntry = record { entry = e; series = c.args.series } in
    let fresh = leaf.fresh.items in
    let moved = leaf.moved in
    let first = shown_entries leaf.replicas.entries leaf.kept.items in
    let history = history_inside leaf in
    let is = c.requires.rows in
    let formed : IsWellFormed (history ++ e ∷ []) = subst (λ (v : LeafView). IsWellFormed (v.history ++ e ∷ []))
    (sym c.self.view_is) c.requires.follows in
    let promised : 1 ≤ leaf.promised = subst (λ (v : LeafView). 1 ≤ v.promised) (sym c.self.view_is)
    c.requires.promised in
    let known : IfSome c.args.series (HasNumber history e) =
    subst (λ (v : LeafView). IfSome c.args.series (HasNumber v.history e)) (sym c.self.view_is) c.requires.numbered in
    let items : c.push_reserved.new.self.items ≡ fresh ++ last ∷ [] = c.push_reserved.ensures.items in
    let all : first ++ entries_in (drop moved c.push_reserved.new.self.items) ≡ history ++ e ∷ [] =
    ap (λ (es : List FreshEntry). first ++ entries_in (drop moved es)) items
    ∙ history_push first fresh moved last c.self.invariant.within in
    let more = ap length items ∙ length-append fresh (last ∷ []) in
    let buckets_of = key_buckets leaf.buckets leaf.schemas in
    let old = is_set leaf.raised.words in
    let new = is_set c.raise_unknown.new.raised.words in
    let adds = adds_unless_known buckets_of old new history e c.args.series c.self.invariant.raised known
    c.raise_unknown.ensures.added c.raise_unknown.ensures.kept in
    record {
      within = omega (arith, more, c.self.invariant.within);
      holds = subst (λ (es : List FreshEntry). IsInTwoParts leaf.replicas.entries leaf.kept.items
          (entries_in (drop moved es))) (sym items)
          (holds_push leaf.replicas.entries leaf.kept.items fresh moved last c.self.invariant.within
          c.self.invariant.holds formed);
      numbered = subst (λ (es : List FreshEntry). AreNumbered first (drop moved es)) (sym items)
          (numbers_push first fresh moved last c.self.invariant.within c.self.invariant.numbered known);
      raised = λ bucket. raised_push old new leaf.buckets leaf.schemas history e c.self.invariant.raised adds bucket
          ∙ ap (λ (es : List Entry). is_among bucket (history_buckets buckets_of es)) (sym all);
      down = down_plain history e leaf.down is c.self.invariant.down ∙ ap is_down (sym all);
      switches = let count = ap (count_by is_switch) all ∙ count_plain history e is in
          omega (arith, count, c.self.invariant.switches);
      waits = λ settled. absurd cc;
      room = omega (arith, more, promised, c.push_reserved.ensures.capacity, c.self.invariant.room);
      some = c.self.invariant.some;
      most = c.self.invariant.most;
    }

pub put_behind-requires-clause-numbered : goal.put_behind-requires-clause-numbered
put_behind-requires-clause-numbered c =
    let leaf = c.self.inside in
    let e = c.args.entry in
    let series = c.args.series in
    let replicas = leaf.replicas.entries in
    let ks = leaf.kept.items in
    let fresh = leaf.fresh.items in
    let moved = leaf.moved in
    let history = history_inside leaf in
    let formed : IsWellFormed (history ++ e ∷ []) = subst (λ (v : LeafView). IsWellFormed (v.history ++ e ∷ []))
    (sym c.self.view_is) c.requires.follows in
    let known : IfSome series (HasNumber history e) =
    subst (λ (v : LeafView). IfSome series (HasNumber v.history e)) (sym c.self.view_is) c.requires.numbered in
    let len : vec_len leaf.fresh ≡ length fresh = search rules in
    let all_moved : length fresh ≤ moved = omega (arith, len, c.len.ensures, c.if-self-len.false) in
    let gone = none_behind fresh moved c.self.invariant.within all_moved in
    let none : left_of leaf ≡ [] = ap entries_in gone in
    let two = comes_behind replicas ks (left_of leaf) history e c.self.invariant.holds none refl formed in
    next_number replicas (shown_entries replicas ks) e series two.holds
    (follows (shown_entries replicas ks) e [] two.formed)
    (subst (λ (es : List Entry). IfSome series (HasNumber es e))
    (sym (shown replicas ks (left_of leaf) history e c.self.invariant.holds none refl)) known)

pub invariant_of-self-in-Err : goal.invariant_of-self-in-Err
invariant_of-self-in-Err c =
    let leaf = c.self.inside in
    let e = c.args.entry in
    let series = c.args.series in
    let replicas = leaf.replicas.entries in
    let ks = leaf.kept.items in
    let fresh = leaf.fresh.items in
    let moved = leaf.moved in
    let history = history_inside leaf in
    let formed : IsWellFormed (history ++ e ∷ []) = subst (λ (v : LeafView). IsWellFormed (v.history ++ e ∷ []))
    (sym c.self.view_is) c.requires.follows in
    let known : IfSome series (HasNumber history e) =
    subst (λ (v : LeafView). IfSome series (HasNumber v.history e)) (sym c.self.view_is) c.requires.numbered in
    let promised : 1 ≤ leaf.promised = subst (λ (v : LeafView). 1 ≤ v.promised) (sym c.self.view_is)
    c.requires.promised in
    let buckets_of = key_buckets leaf.buckets leaf.schemas in
    let old = is_set leaf.raised.words in
    let new = is_set c.raise_unknown.new.raised.words in
    let adds = adds_unless_known buckets_of old new history e series c.self.invariant.raised known
    c.raise_unknown.ensures.added c.raise_unknown.ensures.kept in
    let back = sym c.in-Err.ensures.back in
    let stayed = c.in-Err.ensures.stayed in
    let kept = c.in-Err.ensures.kept in
    let these = c.put_behind.new.replicas.entries in
    let more = c.put_behind.new.kept.items in
    let own : FreshEntry = record { entry = c.in-Err.entry; series = series } in
    let last : FreshEntry = record { entry = e; series = series } in
    let same : own ≡ last = λ i. record { entry = sym back i; series = series } in
    let items : c.push_reserved-in-Err.new.self.items ≡ fresh ++ last ∷ [] =
    c.push_reserved-in-Err.ensures.items ∙ ap (λ (one : FreshEntry). fresh ++ one ∷ []) same in
    let first = shown_entries replicas ks in
    let here : shown_entries these more ≡ first = λ i. shown_entries (stayed i) (kept i) in
    let all : shown_entries these more ++ entries_in (drop moved c.push_reserved-in-Err.new.self.items)
    ≡ history ++ e ∷ [] =
    (λ i. here i ++ entries_in (drop moved (items i))) ∙ history_push first fresh moved last c.self.invariant.within in
    let count = ap length items ∙ length-append fresh (last ∷ []) in
    let is = c.requires.rows in
    record {
      within = omega (arith, count, c.self.invariant.within);
      holds = subst (λ (es : List FreshEntry). IsInTwoParts these more (entries_in (drop moved es))) (sym items)
          (subst (λ (rs : Replicas). IsInTwoParts rs more (entries_in (drop moved (fresh ++ last ∷ [])))) (sym stayed)
          (subst (λ (own : List Kept). IsInTwoParts replicas own (entries_in (drop moved (fresh ++ last ∷ []))))
          (sym kept) (holds_push replicas ks fresh moved last c.self.invariant.within c.self.invariant.holds formed)));
      numbered = subst (λ (es : List Entry). AreNumbered es (drop moved c.push_reserved-in-Err.new.self.items)) (sym here)
          (subst (λ (es : List FreshEntry). AreNumbered first (drop moved es)) (sym items)
          (numbers_push first fresh moved last c.self.invariant.within c.self.invariant.numbered known));
      raised = λ bucket. raised_push old new leaf.buckets leaf.schemas history e c.self.invariant.raised adds bucket
          ∙ ap (λ (es : List Entry). is_among bucket (history_buckets buckets_of es)) (sym all);
      down = down_plain history e leaf.down is c.self.invariant.down ∙ ap is_down (sym all);
      switches = let entries = ap (count_by is_switch) all ∙ count_plain history e is in
          omega (arith, entries, c.self.invariant.switches);
      waits = λ settled. absurd cc;
      room = omega (arith, count, promised, c.push_reserved-in-Err.ensures.capacity, c.self.invariant.room);
      some = c.self.invariant.some;
      most = c.self.invariant.most;
    }

pub invariant_of-self-in_default : goal.invariant_of-self-in_default
invariant_of-self-in_default c =
    let leaf = c.self.inside in
    let e = c.args.entry in
    let series = c.args.series in
    let replicas = leaf.replicas.entries in
    let ks = leaf.kept.items in
    let fresh = leaf.fresh.items in
    let moved = leaf.moved in
    let history = history_inside leaf in
    let formed : IsWellFormed (history ++ e ∷ []) = subst (λ (v : LeafView). IsWellFormed (v.history ++ e ∷ []))
    (sym c.self.view_is) c.requires.follows in
    let known : IfSome series (HasNumber history e) =
    subst (λ (v : LeafView). IfSome series (HasNumber v.history e)) (sym c.self.view_is) c.requires.numbered in
    let len : vec_len leaf.fresh ≡ length fresh = search rules in
    let all_moved : length fresh ≤ moved = omega (arith, len, c.len.ensures, c.if-self-len.false) in
    let gone = none_behind fresh moved c.self.invariant.within all_moved in
    let none : left_of leaf ≡ [] = ap entries_in gone in
    let promised : 1 ≤ leaf.promised = subst (λ (v : LeafView). 1 ≤ v.promised) (sym c.self.view_is)
    c.requires.promised in
    let buckets_of = key_buckets leaf.buckets leaf.schemas in
    let old = is_set leaf.raised.words in
    let new = is_set c.raise_unknown.new.raised.words in
    let adds = adds_unless_known buckets_of old new history e series c.self.invariant.raised known
    c.raise_unknown.ensures.added c.raise_unknown.ensures.kept in
    let these = c.put_behind.new.replicas.entries in
    let more = c.put_behind.new.kept.items in
    let all : shown_entries these more ++ left_of leaf ≡ history ++ e ∷ [] =
    ap (λ (left : List Entry). shown_entries these more ++ left) none ∙ append-nil (shown_entries these more)
    ∙ c.in_default.ensures.history ∙ ap (λ (es : List Entry). es ++ e ∷ [])
    (shown replicas ks (left_of leaf) history e c.self.invariant.holds none refl) in
    let is = c.requires.rows in
    record {
      within = c.self.invariant.within;
      holds = subst (IsInTwoParts these more) (sym none) c.in_default.ensures.holds;
      numbered = subst (AreNumbered (shown_entries these more)) (sym gone) tt;
      raised = λ bucket. raised_push old new leaf.buckets leaf.schemas history e c.self.invariant.raised adds bucket
          ∙ ap (λ (es : List Entry). is_among bucket (history_buckets buckets_of es)) (sym all);
      down = down_plain history e leaf.down is c.self.invariant.down ∙ ap is_down (sym all);
      switches = let entries = ap (count_by is_switch) all ∙ count_plain history e is in
          omega (arith, entries, c.self.invariant.switches);
      waits = λ settled. absurd cc;
      room = omega (arith, promised, c.self.invariant.room);
      some = c.self.invariant.some;
      most = c.self.invariant.most;
    }
