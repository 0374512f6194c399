-- Numbers as bytes, and fields of bits, the most significant first.
use Rattle.std.specs.Prelude.{ℕ, zero, suc, ◌+◌, ◌-◌, ◌*◌, ◌/◌, ◌%◌, ◌^◌, ◌<◌, Bool, true, false, ◌&&◌, List, [], ◌∷◌, ◌++◌, length, nat_lt, slice_index}

-- the lowest k bytes of a number
abbrev pub bytes : ℕ → ℕ → List ℕ
bytes zero n = []
bytes (suc k) n = bytes k (n / 256) ++ (n % 256 ∷ [])

-- the number that bytes spell
abbrev pub spelt : List ℕ → ℕ
spelt [] = 0
spelt (b ∷ bs) = b * 2 ^ (8 * length bs) + spelt bs

-- each is a byte
abbrev pub AreBytes : List ℕ → Type 0
AreBytes bs = (i : ℕ) → slice_index bs i < 256

-- the number in the w bits from bit o on; bits count from 0 at the first byte's highest
abbrev pub field : List ℕ → ℕ → ℕ → ℕ
field bs o w = spelt bs / 2 ^ (8 * length bs - (o + w)) % 2 ^ w

-- the numbers in fields of these widths, one behind the other, from bit o on
abbrev pub fields : List ℕ → ℕ → List ℕ → List ℕ
fields bs o [] = []
fields bs o (w ∷ ws) = field bs o w ∷ fields bs (o + w) ws

-- the bits of fields with these widths
abbrev pub total : List ℕ → ℕ
total [] = 0
total (w ∷ ws) = w + total ws

-- no value is wider than its field
abbrev pub fit : List ℕ → List ℕ → Bool
fit [] vs = true
fit (w ∷ ws) [] = false
fit (w ∷ ws) (v ∷ vs) = nat_lt v (2 ^ w) && fit ws vs

-- the number n with the values, each in its width, behind it
abbrev pub packed : ℕ → List ℕ → List ℕ → ℕ
packed n [] vs = n
packed n (w ∷ ws) [] = n
packed n (w ∷ ws) (v ∷ vs) = packed (n * 2 ^ w + v) ws vs
