use Rattle.std.proofs.Common.{◌≡◌, ℕ, ◌+◌, ◌-◌, ◌*◌, ◌/◌, ◌%◌, ◌^◌, ◌<◌, ◌≤◌, List, length, get_or, take, drop, sym, ap, ◌∙◌, subst, lt_of_lt_of_le, arith, pow_mono}
use lib.Bits.{bit_and, bit_or}
use Rattle.std.proofs.lemmas.Nat.{and_mask, or_shifted, one_shl, shl_whole}
use Rattle.std.proofs.lemmas.List.{length-take, take_all}
use Rattle.layout.specs.Bits.{AreBytes, spelt}
use Rattle.layout.proofs.Numbers.{spelt-more, spelt_lt, spelt_between, bytes_drop, bytes_take, field_in}
use Rattle.feed.proofs.words.bits.Goals as goal

-- a word of at most four bytes takes one more
word_more :
    (bs : List ℕ) (i word : ℕ) → AreBytes bs → i < length bs → i ≤ 4 → word ≡ spelt (take i bs) →
    bit_or (word * 256 % 18446744073709551616) (get_or bs i 0) ≡ spelt (take (i + 1) bs)
word_more bs i word are lt few p =
    let short : 8 * length (take i bs) ≤ 32 = omega (arith, length-take i bs) in
    let small : word < 2 ^ 32 =
    subst (λ (x : ℕ). x < 2 ^ 32) (sym p) (lt_of_lt_of_le (spelt_lt (take i bs) (bytes_take bs i are)) (pow_mono {i = 8 * length (take i bs)} {j = 32} short)) in
    ap (λ (x : ℕ). bit_or x (get_or bs i 0)) (shl_whole word 32 8 64 small (omega arith))
    ∙ (or_shifted word 8 (get_or bs i 0) (are i) ∙ (ap (λ (x : ℕ). x * 256 + get_or bs i 0) p ∙ sym (spelt-more bs i lt)))

pub loop-byte-preserved : goal.loop-byte-preserved
loop-byte-preserved c =
    let first : ℕ = c.args.from / 8 in
    let n : ℕ = c.div_ceil-end.result - first in
    let bs : List ℕ = take n (drop first c.args.src.now) in
    let are : AreBytes bs = bytes_take (drop first c.args.src.now) n (bytes_drop c.args.src.now first (λ i. (c.type_inv.src i).fits)) in
    let few : c.loop-byte.byte-index ≤ 4 = omega (arith, length-take n (drop first c.args.src.now)) in
    word_more bs c.loop-byte.byte-index c.loop-byte.word are c.loop-byte-test.true few c.loop-byte.invariant

pub returns : goal.returns
returns c =
    let first : ℕ = c.args.from / 8 in
    let last : ℕ = c.div_ceil-end.result in
    let n : ℕ = last - first in
    let bs : List ℕ = take n (drop first c.args.src.now) in
    let s : ℕ = 8 * last - c.args.from - c.args.width in
    let are : AreBytes c.args.src.now = λ i. (c.type_inv.src i).fits in
    let inside : last ≤ length c.args.src.now = omega arith in
    let mask = ap (λ (x : ℕ). bit_and (c.loop-byte.word / 2 ^ s) (x - 1)) (one_shl c.args.width 64 (omega arith)) ∙ and_mask (c.loop-byte.word / 2 ^ s) c.args.width in
    let word : c.loop-byte.word ≡ spelt (take last c.args.src.now) % 2 ^ (8 * n) =
    c.loop-byte.invariant ∙ (ap spelt (take_all c.loop-byte.byte-index bs c.loop-byte-test.false) ∙ spelt_between c.args.src.now first last are (omega arith) inside) in
    record {
      answer =
          mask
          ∙ (ap (λ (x : ℕ). x / 2 ^ s % 2 ^ c.args.width) word
          ∙ field_in c.args.src.now c.args.from c.args.width last (8 * n) are inside (omega arith) (omega arith));
    }
