-- SipHash-1-3 over the words of what is written, as functions of a hasher's state.
use Rattle.std.specs.Prelude.{ℕ, zero, suc, ◌+◌, ◌*◌, ◌%◌, ◌^◌, cond, nat_lt, bit_or, bit_xor}
use Rattle.std.specs.Prelude.{List, [], ◌∷◌, take, drop, length}
use Rattle.std.specs.Int.{w64, rotate_left, from_le_bytes}
use Rattle.std.specs.List.{fold}
use Rattle.insertion_map.specs.declared.hash.WordHasher.{WordHasher}

-- `x.wrapping_add(y)` at `u64`
abbrev pub wrapping_add : ℕ → ℕ → ℕ
wrapping_add x y = (x + y) % 2 ^ 64

-- the state with both keys 0
unfoldable pub initial : WordHasher
initial = record {
  v0 = 0x736f_6d65_7073_6575;
  v1 = 0x646f_7261_6e64_6f6d;
  v2 = 0x6c79_6765_6e65_7261;
  v3 = 0x7465_6462_7974_6573;
}

-- the state after one round
unfoldable pub round : WordHasher → WordHasher
round s =
    let a0 = wrapping_add s.v0 s.v1 in
    let a2 = wrapping_add s.v2 s.v3 in
    let a1 = bit_xor (rotate_left w64 s.v1 13) a0 in
    let a3 = bit_xor (rotate_left w64 s.v3 16) a2 in
    let b2 = wrapping_add a2 a1 in
    let b0 = wrapping_add (rotate_left w64 a0 32) a3 in
    let b1 = bit_xor (rotate_left w64 a1 17) b2 in
    let b3 = bit_xor (rotate_left w64 a3 21) b0 in
    record { v0 = b0; v1 = b1; v2 = rotate_left w64 b2 32; v3 = b3 }

-- the state after a word
unfoldable pub absorb : WordHasher → ℕ → WordHasher
absorb s m =
    let t = round (record { v0 = s.v0; v1 = s.v1; v2 = s.v2; v3 = bit_xor s.v3 m }) in
    record { v0 = bit_xor t.v0 m; v1 = t.v1; v2 = t.v2; v3 = t.v3 }

-- a word with one byte more
abbrev pub with_byte : ℕ → ℕ → ℕ
with_byte word byte = bit_or ((word * 2 ^ 8) % 2 ^ 64) byte

-- a word that begins so, with these bytes behind
abbrev pub word_of : ℕ → List ℕ → ℕ
word_of start bytes = fold with_byte start bytes

-- the first eight of some bytes, as a word
abbrev pub first_word : List ℕ → ℕ
first_word bytes = from_le_bytes w64 (take 8 bytes)

-- fewer bytes than eight, as a word behind their count
abbrev pub last_word : List ℕ → ℕ
last_word bytes = word_of (length bytes) bytes

-- no word for no bytes
abbrev pub last_words : List ℕ → List ℕ
last_words [] = []
last_words (byte ∷ bytes) = last_word (byte ∷ bytes) ∷ []

-- the words of some bytes: eight in each, and in a last one those that are left, behind their count; n is at least the
-- number of bytes
unfoldable pub words : ℕ → List ℕ → List ℕ
words zero bytes = last_words bytes
words (suc n) bytes = cond (nat_lt (length bytes) 8) (last_words bytes) (first_word bytes ∷ words n (drop 8 bytes))

-- the state after a write
unfoldable pub write : WordHasher → List ℕ → WordHasher
write s bytes = fold absorb s (words (length bytes) bytes)

-- what `finish` returns
unfoldable pub finish : WordHasher → ℕ
finish s =
    let u = round (round (round (record { v0 = s.v0; v1 = s.v1; v2 = bit_xor s.v2 255; v3 = s.v3 }))) in
    bit_xor (bit_xor (bit_xor u.v0 u.v1) u.v2) u.v3
