-- Words that are loaded one after another, one for each bucket of a plan.
use Rattle.std.specs.Prelude.{ℕ, nat_le, Bool, List, [], ◌∷◌, ◌++◌, length, get_or}
use Rattle.typed_trees.specs.declared.plans.Plan.{Plan}
use Rattle.query_traces.specs.declared.asks.Seen.{Seen}
use Rattle.query_traces.specs.declared.loadings.Loading.{Loading}

abbrev pub no_word : Loading
no_word = record { words = []; seen = record { cuts = []; firsts = [] } }

abbrev pub is_whole : Plan → Loading → Bool
is_whole plan loading = nat_le (length plan.buckets) (length loading.words)

-- the bucket whose word is loaded next
abbrev pub next_bucket : Plan → Loading → ℕ
next_bucket plan loading = get_or plan.buckets (length loading.words) 0

abbrev pub seen_first : List ℕ → Seen → Seen → Seen
seen_first [] before seen = seen
seen_first (word ∷ words) before seen = before

-- one word more; what counts as seen is what had been seen by the first one
abbrev pub with_word : Loading → ℕ → Seen → Loading
with_word loading word seen = record {
  words = loading.words ++ word ∷ [];
  seen = seen_first loading.words loading.seen seen;
}
