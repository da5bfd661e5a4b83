-- Who has seen nothing: that is held and covered, whatever bits are known.
use Rattle.std.proofs.Common.{◌≡◌, ℕ, zero, suc, ◌<◌, List, [], ◌∷◌, length, replicate, refl, sym, ap}
use Rattle.std.proofs.Common.{subst, ◌∙◌}
use Rattle.std.specs.Prelude.{Contains}
use Rattle.mon_value.specs.LeafHistories.{IsWellFormed}
use Rattle.mon_value.specs.declared.histories.Entry.{Entry}
use Rattle.mon_value.specs.declared.histories.RangeEntry.{RangeEntry}
use Rattle.mon_hints.specs.Covers.{Covers}
use Rattle.mon_hints.specs.Hints.{history_buckets}
use Rattle.mon_topo.specs.HeldHistories.{AreAtHome, IsHeldBy}
use Rattle.mon_topo.specs.RangeHistories.{IsLegal}
use Rattle.mon_topo.specs.Settings.{Setting, zone_of_leaf}
use Rattle.mon_topo.specs.Zones.{leaves_in, ranges_in}
use Rattle.history_book.specs.Histories.{empty_histories}
use Rattle.history_book.proofs.HistoryLemmas.{none_at, nothing}
use Rattle.mon_value.proofs.PlainLemmas.{contains_none}
use Rattle.raise_table.specs.declared.views.Hints.{Hints}
use Rattle.know.specs.Sound.{IsSound, known_bits}

count_of : {X : Type 0} (n : ℕ) (x : X) → length (replicate n x) ≡ n
count_of zero x = refl
count_of (suc n) x = ap suc (count_of n x)

pub nothing_is_sound : (setting : Setting) (hints : Hints) (leaves ranges : ℕ) → leaves
    ≡ length (leaves_in setting.zones)
    → ranges ≡ length (ranges_in setting.zones) → IsSound setting hints (empty_histories leaves ranges)
nothing_is_sound setting hints leaves ranges all_leaves all_ranges =
    let seen = empty_histories leaves ranges in
    record {
      held = record {
        all_leaves = count_of leaves (nothing Entry) ∙ all_leaves;
        all_ranges = count_of ranges (nothing RangeEntry) ∙ all_ranges;
        formed = λ leaf here. subst IsWellFormed (sym (none_at leaves leaf.0)) tt;
        at_home = λ leaf e. subst (λ (h : List Entry). Contains h e → AreAtHome setting.held setting.zones e)
            (sym (none_at leaves leaf.0)) (λ there. absurd (contains_none e there));
        legal = λ range here.
            subst (IsLegal setting.held setting.zones setting.points range) (sym (none_at ranges range.0)) tt;
        borne_out = λ range here. subst (IsHeldBy seen range) (sym (none_at ranges range.0))
            (record { kept = λ replica there. refl; borne_out = λ k e is. absurd cc });
      };
      covered = λ leaf.
          subst (λ (h : List Entry). Covers (known_bits setting hints) (zone_of_leaf setting leaf) leaf
          (history_buckets setting.buckets_of h)) (sym (none_at leaves leaf.0)) (λ bucket there. absurd cc);
    }
