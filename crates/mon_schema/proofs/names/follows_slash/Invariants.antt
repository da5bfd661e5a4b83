-- the whole text is as lawful as what is left is behind the last byte
use Rattle.std.proofs.Common.{◌≡◌, drop, cond}
use Rattle.mon_schema.specs.Names.{follows_slash, follows_part}
use Rattle.mon_schema.proofs.names.follows_slash.Given as goal

abbrev pub invariant-loop-byte : goal.invariant-loop-byte
invariant-loop-byte l = follows_slash l.bytes ≡ cond l.behind_slash (follows_slash (drop l.byte-index l.bytes))
    (follows_part (drop l.byte-index l.bytes))
