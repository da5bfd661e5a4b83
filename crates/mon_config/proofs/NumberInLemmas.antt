-- A number that is read passes its test.
use Rattle.std.proofs.Common.{◌≡◌, ℕ, Bool, true, false, cond, List, Option, Some, None, option_and_then, Result, Ok}
use Rattle.std.proofs.Common.{Err, refl, subst}
use Rattle.serde_json.specs.Data.{Data}
use Rattle.serde_json.specs.Find.{as_number, as_u64, get}
use Rattle.mon_config.specs.Objects.{number_of_data, number_if, value_or_here, if_there, optional_key, under_key}

-- a number that is kept for a test passes it
by_test : (test : ℕ → Bool) (m n : ℕ) (b : Bool) → test m ≡ b → value_or_here (cond b (Some m) None) ≡ Ok n
    → test n ≡ true
by_test test m n true e h = let same : m ≡ n = cc in subst (λ (k : ℕ). test k ≡ true) same e
by_test test m n false e h = absurd (cc)

by_found : (test : ℕ → Bool) (n : ℕ) (found : Option ℕ)
    → value_or_here (option_and_then (number_if test) found) ≡ Ok n → test n ≡ true
by_found test n None h = absurd (cc)
by_found test n (Some m) h = by_test test m n (test m) refl h

through : {T : Type 0} (key : List ℕ) (read : Result T (List ℕ)) (x : T) → under_key key read ≡ Ok x → read ≡ Ok x
through key (Ok y) x h = h
through key (Err path) x h = absurd (cc)

by_there : (test : ℕ → Bool) (default n : ℕ) (there : Option Data) → test default ≡ true
    → if_there (Ok default) (number_of_data test) there ≡ Ok n → test n ≡ true
by_there test default n None lawful h = let same : default ≡ n = cc in subst (λ (k : ℕ). test k ≡ true) same lawful
by_there test default n (Some d) lawful h = by_found test n (option_and_then as_u64 (as_number d)) h

-- a number under a key passes its test, where its default does
pub optional_passes : (test : ℕ → Bool) (default : ℕ) (key : List ℕ) (d : Data) (n : ℕ) → test default ≡ true
    → optional_key default key (number_of_data test) d ≡ Ok n → test n ≡ true
optional_passes test default key d n lawful h = by_there test default n (get key d) lawful
    (through key (if_there (Ok default) (number_of_data test) (get key d)) n h)
