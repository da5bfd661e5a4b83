-- The test of UTF-8 answers by what UTF-8 is.
use Rattle.std.proofs.Common.{◌≡◌, ℕ, cond, List, Some, None, ap}
use Rattle.std.proofs.lemmas.Bool.{false_from_ne_true}
use Rattle.std.proofs.lemmas.Str.{IsUtf8-from_is_utf8, is_utf8-from_IsUtf8}
use Rattle.std.specs.Str.{IsUtf8, is_utf8}
use Rattle.mon_value.specs.Values.{text_in}

pub text_in-IsUtf8 : (bytes : List ℕ) → IsUtf8 bytes → text_in bytes ≡ Some bytes
text_in-IsUtf8 bytes valid = ap (λ b. cond b (Some bytes) None) (is_utf8-from_IsUtf8 bytes valid)

pub text_in-not_IsUtf8 : (bytes : List ℕ) → ¬ (IsUtf8 bytes) → text_in bytes ≡ None
text_in-not_IsUtf8 bytes bad = ap (λ b. cond b (Some bytes) None) (false_from_ne_true (is_utf8 bytes)
    (λ e. bad (IsUtf8-from_is_utf8 bytes e)))

pub ruleset utf8 = (text_in-IsUtf8)
