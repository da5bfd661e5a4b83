-- Numbers in their order, each with how often it comes.
use Rattle.std.specs.Prelude.{◌≡◌, ◌<◌, ℕ, ℤ, ◌<ℤ◌, Bool, List, IfSome, unwrap_or}
use Rattle.std.specs.List.{count_by}
use Rattle.std.specs.Map.{lookup}
use Rattle.std.specs.Ordering.{int_cmp, is_eq}

-- whether two numbers are the same
abbrev pub is_number : ℤ → ℤ → Bool
is_number z x = is_eq (int_cmp z x)

-- how often a number comes
abbrev pub how_often : ℤ → List (ℤ × ℕ) → ℕ
how_often z entries = unwrap_or (lookup (is_number z) entries) 0

-- a number that comes, below which none does
pub record IsLeast (entries : List (ℤ × ℕ)) (z : ℤ) : Type 0 where
  pub comes : 0 < how_often z entries
  pub none_below : (y : ℤ) → y <ℤ z → how_often y entries ≡ 0

-- a number that comes, above which none does
pub record IsGreatest (entries : List (ℤ × ℕ)) (z : ℤ) : Type 0 where
  pub comes : 0 < how_often z entries
  pub none_above : (y : ℤ) → z <ℤ y → how_often y entries ≡ 0

-- each number comes as often as in a list, and an entry is of one that comes
pub record AreNumbersOf (numbers : List ℤ) (entries : List (ℤ × ℕ)) : Type 0 where
  pub often : (z : ℤ) → count_by (λ x. is_number x z) numbers ≡ how_often z entries
  pub some : (z : ℤ) → IfSome (lookup (is_number z) entries) (λ n. 0 < n)
