-- What holds of every kind's layout.
use Rattle.std.proofs.Common.{◌≡◌, ℕ, ◌<◌, ◌≤◌, List, refl, arith}
use Rattle.entry.specs.declared.kinds.Kind.{Kind}
use Rattle.entry.specs.declared.kinds.Kind.TheVariants as k
use Rattle.layout.specs.Bits.{total}
use Rattle.layout.specs.Layout.{code, widths, kind_of, entry_of, size}

pub total_le : (kind : Kind) → total (widths kind) ≤ 150
total_le k.Clock = omega arith
total_le k.Post = omega arith
total_le k.Leave = omega arith
total_le k.Trade = omega arith
total_le k.Parameters = omega arith
total_le k.Reference = omega arith
total_le k.Ruling = omega arith

pub code_lt : (kind : Kind) → code kind < 16
code_lt k.Clock = omega arith
code_lt k.Post = omega arith
code_lt k.Leave = omega arith
code_lt k.Trade = omega arith
code_lt k.Parameters = omega arith
code_lt k.Reference = omega arith
code_lt k.Ruling = omega arith

pub kind_kept : (kind : Kind) (vs : List ℕ) → kind_of (entry_of kind vs) ≡ kind
kind_kept k.Clock vs = refl
kind_kept k.Post vs = refl
kind_kept k.Leave vs = refl
kind_kept k.Trade vs = refl
kind_kept k.Parameters vs = refl
kind_kept k.Reference vs = refl
kind_kept k.Ruling vs = refl

pub some_bytes : (kind : Kind) → 0 < size kind
some_bytes kind = omega arith
