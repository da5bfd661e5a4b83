use Rattle.std.proofs.Common.{◌≡◌, ◌∙◌, List, ℕ, ap, map}
use Rattle.leaf_store.specs.LeafStates.{key_buckets}
use Rattle.mon_hints.specs.Hints.{history_buckets}
use Rattle.leaf_eval.proofs.OwnWords.{met_by_words, own_word}
use Rattle.leaf_eval.proofs.own_buckets.is_met.Goals as goal

pub returns : goal.returns
returns c =
    let state = c.args.state.now in
    let own : List ℕ = history_buckets (key_buckets state.buckets state.schemas) state.history in
    let words_are : c.in_ok-words.words ≡ map (own_word own) c.args.plan.now.buckets =
    c.in_ok-words.ensures.words ∙ ap (map (own_word own)) c.as_slice.ensures.items in
    record {
      met = c.is_let_in.ensures.let_in
          ∙ met_by_words own c.args.plan.now c.in_ok-words.words c.requires.listed words_are;
    }
