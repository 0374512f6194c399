-- A bit is flipped exactly where a level begins or ends.
use Rattle.std.proofs.Common.{◌≡◌, ◌+◌, ◌-◌, ◌/◌, ◌%◌, get_or, ap, arith, length-set}
use lib.Bits.{bit_xor}
use Rattle.std.proofs.lemmas.Nat.{one_shl}
use Rattle.std.proofs.lemmas.Bool.Decides.{nat_tests}
use Rattle.grid.specs.Ranks.{cell_at, bit}
use Rattle.grid.proofs.Soundness.{limited_set}
use Rattle.grid.proofs.Words.{marks_same, marks_flip}
use Rattle.grid.proofs.side_cells.SideCells.put.Goals as goal

pub invariant_of-self : goal.invariant_of-self
invariant_of-self c =
    let h = c.args.self.now in
    let i = c.from-rank.result in
    let d = c.args.cell in
    let a = c.is_empty-was_empty.ensures in
    let b = c.is_empty.ensures in
    let t = c.if-is_empty-was_empty.true in
    let e : bit (cell_at h.cells i) + bit d ≡ 1 = grind (arith, nat_tests) in
    record {
      size = simp length-set h.size;
      words = simp length-set h.words;
      limited = limited_set h.cells i d h.limited (omega arith);
      marked = marks_flip h.marks h.cells i _ d h.marked h.words h.size (omega arith) e (ap (bit_xor (get_or h.marks (i / 64) 0)) (one_shl (63 - i % 64) 64 (omega arith)));
    }

pub invariant_of-self-else-is_empty-was_empty : goal.invariant_of-self-else-is_empty-was_empty
invariant_of-self-else-is_empty-was_empty c =
    let h = c.args.self.now in
    let i = c.from-rank.result in
    let d = c.args.cell in
    let a = c.is_empty-was_empty.ensures in
    let b = c.is_empty.ensures in
    let t = c.if-is_empty-was_empty.false in
    let e : bit d ≡ bit (cell_at h.cells i) = grind (arith, nat_tests) in
    record {
      size = simp length-set h.size;
      words = h.words;
      limited = limited_set h.cells i d h.limited (omega arith);
      marked = marks_same h.marks h.cells i d h.marked e;
    }
