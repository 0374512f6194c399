-- What a writer that goes bit by bit through bytes has behind it.
use Rattle.std.specs.Prelude.{◌≡◌, ℕ, ◌/◌, ◌%◌, ◌^◌, Bool, true, ◌&&◌, List, [], ◌∷◌, take, map, nat_le}
use Rattle.layout.specs.Bits.{bytes}

-- the bits of n are written: all but the last `held` stand in the first `at` bytes, and `rest` has those
abbrev pub Wrote : List ℕ → ℕ → ℕ → ℕ → ℕ → Type 0
Wrote bs at held rest n = (take at bs ≡ bytes at (n / 2 ^ held)) × (rest ≡ n % 2 ^ held)

-- no field is wider than 32 bits
abbrev pub narrow : List ℕ → Bool
narrow [] = true
narrow (w ∷ ws) = nat_le w 32 && narrow ws

-- fields that are given as pairs of a width and a value: the widths, and the values
abbrev pub widths_in : List (ℕ × ℕ) → List ℕ
widths_in fields = map (λ field. field.0) fields

abbrev pub values_in : List (ℕ × ℕ) → List ℕ
values_in fields = map (λ field. field.1) fields
