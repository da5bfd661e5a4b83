-- When a text spells no data.
use Rattle.std.proofs.Common.{◌≡◌, ℕ, Bool, true, false, cond, List, None, refl, ap}
use Rattle.std.proofs.lemmas.Str.{IsUtf8-from_is_utf8, is_utf8-from_IsUtf8}
use Rattle.std.specs.Str.{IsUtf8, is_utf8}
use Rattle.serde_json.specs.Read.{read}
use Rattle.mon_config.specs.Configs.{data_in}

-- a text that is UTF-8 spells what JSON reads
pub data_in-read : (text : List ℕ) → IsUtf8 text → data_in text ≡ read text
data_in-read text valid = ap (λ b. cond b (read text) None) (is_utf8-from_IsUtf8 text valid)

by_utf8 : (text : List ℕ) (b : Bool) → (b ≡ true → read text ≡ None) → cond b (read text) None ≡ None
by_utf8 text true refused = refused refl
by_utf8 text false refused = refl

-- it spells none where JSON reads none of it
pub data_in-refused : (text : List ℕ) → (IsUtf8 text → read text ≡ None) → data_in text ≡ None
data_in-refused text refused = by_utf8 text (is_utf8 text) (λ e. refused (IsUtf8-from_is_utf8 text e))
