use Rattle.std.proofs.Common.{rules, ◌<◌, ◌≤◌, sym, ap, ◌∙◌, subst, arith}
use Rattle.raise_table.specs.Places.{word_number}
use Rattle.raise_table.proofs.WordLemmas.{word_within}
use Rattle.raise_table.specs.Seats.{HasKnown, after_load}
use Rattle.raise_table.proofs.KnowsLemmas.{load_keeps, load_learns}
use Rattle.raise_table.proofs.StepLemmas.{keeps_load, loaded_known, loaded_view}
use Rattle.raise_table.proofs.tables.RaiseTable.load.Goals as goal

pub load-requires : goal.load-requires
load-requires g c =
    let raise = g.N.RaiseName.raise in
    let low : c.args.bucket < 4096 = let b : c.args.bucket < raise.buckets = c.requires.exists.1 in
    let most : raise.buckets ≤ 4096 = c.args.self.now.shaped.buckets in omega arith in
    let within = word_within raise.zones c.args.place c.args.bucket c.requires.exists.0 low in
    let number = c.word_number-at.ensures.number in
    let count = ap (λ z. z.words) c.args.self.now.named.0 ∙ c.args.self.now.shaped.words in (
      search rules,
      subst (λ n. n < c.args.self.now.table.shared.table_id.words) (sym number)
          (subst (λ n. word_number c.args.place c.args.bucket < n) (sym count) within),
      keeps_load _ _ _ _ _,
    )

pub returns : goal.returns
returns g c =
    let raise = g.N.RaiseName.raise in
    let place = c.args.place in
    let bucket = c.args.bucket in
    let found = c.load.result in
    let before = c.seat.inside.seat.me in
    let after = c.load.new.seat.me in
    let low : bucket < 4096 = let b : bucket < raise.buckets = c.requires.exists.1 in let most : raise.buckets ≤ 4096 =
    c.args.self.now.shaped.buckets in omega arith in
    let number = c.word_number-at.ensures.number in
    let noted = loaded_view before after place bucket _ found low number c.load.ensures.2.1
    ∙ ap (after_load place bucket found) c.seat.view_is in
    let known = subst (λ h. HasKnown h place bucket found) c.seat.view_is (loaded_known before.0.hints place bucket
    _ found low number c.load.ensures.2.0) in
    record {
      known = known;
      noted = noted;
      learned = load_learns place bucket found c.args.seat.now after.0.hints noted;
      kept = load_keeps place bucket found c.args.seat.now after.0.hints noted;
    }
