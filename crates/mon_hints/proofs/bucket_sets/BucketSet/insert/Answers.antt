use Rattle.std.proofs.Common.{◌≡◌, length, rules}
use Rattle.mon_hints.proofs.SetLemmas.{inserted, word_within}
use Rattle.mon_hints.proofs.bucket_sets.BucketSet.insert.Goals as goal

pub returns : goal.returns
returns c =
    let long : length c.args.self.now.words ≡ 64 = search rules in
    record {
      added = inserted c.args.self.now.words c.args.bucket (word_within c.args.bucket c.args.self.now.words long
          (search rules));
    }
