-- The word has what the bytes so far spell.
use Rattle.std.proofs.Common.{◌≡◌, take}
use Rattle.layout.specs.Bits.{spelt}
use Rattle.feed.proofs.words.bits.Given as goal

abbrev pub invariant-loop-byte : goal.invariant-loop-byte
invariant-loop-byte l = l.word ≡ spelt (take l.byte-index l.byte-items)
