use Rattle.std.proofs.Common.{refl, sym, subst}
use Rattle.std.specs.Prelude.{Option, Some}
use Rattle.query_core.specs.Sides.{word_asked}
use Rattle.query_traces.specs.declared.asks.Told.{Told}
use Rattle.query_traces.specs.declared.asks.Told.TheVariants as told
use Rattle.weave_core.proofs.QuerySideLemmas.{word_so, word_there}
use Rattle.weave_core.specs.QuerySides.{TellsThere}
use Rattle.weave_core.proofs.queries.StoreSideQuerySide.load.Goals as goal

pub word-requires : goal.word-requires
word-requires c = record {
  there = word_there c.args.self.now.store.now c.args.sight.now c.args._machine.now c.args._moment c.args.bucket c.args.place
      c.requires.asked;
}

pub returns : goal.returns
returns c = record {
  told = subst (λ (found : Option Told). TellsThere c.args.self.now.store.now c.args.sight.now c.args._machine.now
      c.args._moment (word_asked c.args.place c.args.bucket) found c.args.self.now.store.now c.args.sight.now)
      (λ i. Some (told.Word (sym c.word.ensures.word i) (sym c.in_ok-seen.ensures.seen i)))
      (word_so c.args.self.now.store.now c.args.sight.now c.args._machine.now c.args._moment c.args.bucket c.args.place);
  left = refl;
}
