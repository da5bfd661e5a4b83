-- Where a leaf raised what its history lacked of a row's buckets, it has raised just those of its history with the row.
use Rattle.std.proofs.Common.{◌≡◌, ℕ, Bool, true, false, not, ◌||◌, ◌&&◌, List, [], ◌∷◌, ◌++◌, refl, sym, ap, ◌∙◌}
use Rattle.std.proofs.lemmas.List.{append-nil}
use Rattle.mon_hints.proofs.CoverLemmas.{among-append, buckets-push}
use Rattle.mon_hints.specs.Hints.{history_buckets}
use Rattle.mon_hints.specs.Formulas.{is_among}
use Rattle.mon_value.specs.declared.histories.Entry.{Entry}
use Rattle.mon_value.specs.declared.histories.Entry.TheVariants as entry
use Rattle.mon_value.specs.declared.positions.Range.{Range}
use Rattle.mon_value.specs.declared.positions.Slot.{Slot}
use Rattle.mon_value.specs.declared.rows.Row.{Row}
use Rattle.mon_value.specs.declared.rows.SeriesKey.{SeriesKey}

either_way : (old key : Bool) → (old || (key && not old)) ≡ (old || key)
either_way true key = refl
either_way false true = refl
either_way false false = refl

module _ (buckets_of own : SeriesKey → List ℕ) (alike : buckets_of ≡ own) where
  pub history_alike : (history : List Entry) → history_buckets buckets_of history ≡ history_buckets own history
  history_alike history = ap (λ (f : SeriesKey → List ℕ). history_buckets f history) alike

  -- whatever the entry
  pub raised_with : (history : List Entry) (e : Entry) (before after : ℕ → Bool)
      → ((bucket : ℕ) → before bucket ≡ is_among bucket (history_buckets buckets_of history))
      → ((bucket : ℕ) → after bucket ≡ (before bucket || (is_among bucket (history_buckets own (e ∷ []))
      && not (is_among bucket (history_buckets own history)))))
      → (bucket : ℕ) → after bucket ≡ is_among bucket (history_buckets buckets_of (history ++ e ∷ []))
  raised_with history e before after was now bucket =
      let old = is_among bucket (history_buckets own history) in
      let new = is_among bucket (history_buckets own (e ∷ [])) in
      now bucket
      ∙ ap (λ b. b || (new && not old)) (was bucket ∙ ap (is_among bucket) (history_alike history))
      ∙ either_way old new
      ∙ sym (among-append bucket (history_buckets own history) (history_buckets own (e ∷ [])))
      ∙ ap (is_among bucket) (sym (buckets-push own history e))
      ∙ ap (is_among bucket) (sym (history_alike (history ++ e ∷ [])))

  pub raised_exactly : (history : List Entry) (pass : ℕ) (range : Range) (slot : Slot) (row : Row)
      (before after : ℕ → Bool)
      → ((bucket : ℕ) → before bucket ≡ is_among bucket (history_buckets buckets_of history))
      → ((bucket : ℕ) → after bucket
      ≡ (before bucket || (is_among bucket (own row.key) && not (is_among bucket (history_buckets own history)))))
      → (bucket : ℕ) → after bucket
      ≡ is_among bucket (history_buckets buckets_of (history ++ entry.Put pass range slot row ∷ []))
  raised_exactly history pass range slot row before after was now bucket =
      let old = is_among bucket (history_buckets own history) in
      let same : is_among bucket (history_buckets buckets_of history) ≡ old =
      ap (is_among bucket) (history_alike history) in
      now bucket
      ∙ ap (λ b. b || (is_among bucket (own row.key) && not old)) (was bucket ∙ same)
      ∙ either_way old (is_among bucket (own row.key))
      ∙ ap (λ b. old || b) (ap (is_among bucket) (sym (append-nil (own row.key))))
      ∙ sym (among-append bucket (history_buckets own history) (own row.key ++ []))
      ∙ ap (is_among bucket) (sym (buckets-push own history (entry.Put pass range slot row)))
      ∙ ap (is_among bucket) (sym (history_alike (history ++ entry.Put pass range slot row ∷ [])))
