-- The laws of a cursor, over any width.
use Rattle.std.proofs.Common.{◌≡◌, ℕ, ◌+◌, ◌-◌, ◌*◌, ◌/◌, ◌%◌, ◌^◌, ◌<◌, ◌≤◌, List, [], ◌∷◌, ◌++◌, length, set, sym, ap, ◌∙◌, subst, add_comm, add-one, arith, pow_pos, pow-add, shl_exact, shr-shr, shr_lt}
use lib.Bits.{bit_and, bit_or}
use lib.Pow.{high, low, mod-pow-add, field, mod-mod-pow}
use lib.Arith.{digits_lt}
use Rattle.std.proofs.lemmas.Nat.{and_mask, or_shifted, one_shl, mod_below}
use Rattle.std.proofs.lemmas.List.{take_more_set}
use Rattle.layout.specs.Bits.{bytes}
use Rattle.feed.specs.Cursor.{Wrote}

-- `acc << width | value`
pub shifted : (a h w v : ℕ) → a < 2 ^ h → h + w ≤ 64 → v < 2 ^ w → bit_or ((a * 2 ^ w) % 18446744073709551616) v ≡ a * 2 ^ w + v
shifted a h w v p q r = ap (λ (x : ℕ). bit_or x v) (shl_exact h w 64 p q) ∙ or_shifted a w v r

-- `acc & ((1 << held) - 1)`
pub masked : (a h : ℕ) → h < 64 → bit_and a ((1 * 2 ^ h) % 18446744073709551616 - 1) ≡ a % 2 ^ h
masked a h p = ap (λ (x : ℕ). bit_and a (x - 1)) (one_shl h 64 p) ∙ and_mask a h

pub joined_lt : (a h w v : ℕ) → a < 2 ^ h → v < 2 ^ w → a * 2 ^ w + v < 2 ^ (h + w)
joined_lt a h w v p q = rw pow-add (digits_lt p q)

pub put_start : (bs : List ℕ) (at h a n w v : ℕ) → v < 2 ^ w → Wrote bs at h a n → Wrote bs at (h + w) (a * 2 ^ w + v) (n * 2 ^ w + v)
put_start bs at h a n w v q p =
    let up : (n * 2 ^ w + v) / 2 ^ (h + w) ≡ n / 2 ^ h =
    ap (λ (x : ℕ). (n * 2 ^ w + v) / 2 ^ x) (add_comm h w) ∙ (sym (shr-shr (n * 2 ^ w + v) w h) ∙ ap (λ (x : ℕ). x / 2 ^ h) (high n w q)) in
    let down : (n * 2 ^ w + v) % 2 ^ (h + w) ≡ (n % 2 ^ h) * 2 ^ w + v =
    mod-pow-add (n * 2 ^ w + v) h w ∙ (ap (λ (x : ℕ). (x % 2 ^ h) * 2 ^ w + (n * 2 ^ w + v) % 2 ^ w) (high n w q) ∙ ap (λ (x : ℕ). (n % 2 ^ h) * 2 ^ w + x) (low n w q)) in
    (p.0 ∙ ap (bytes at) (sym up), ap (λ (x : ℕ). x * 2 ^ w + v) p.1 ∙ sym down)

pub bytes_push : (k n : ℕ) → bytes (k + 1) n ≡ bytes k (n / 256) ++ (n % 256 ∷ [])
bytes_push k n = rw add-one

pub put_step :
    (bs : List ℕ) (at held h a n : ℕ) → at < length bs → held ≡ 8 + h → Wrote bs at held a n → Wrote (set bs at (a / 2 ^ h)) (at + 1) h (a % 2 ^ h) n
put_step bs at held h a n lt e p =
    let is : a ≡ n % 2 ^ (8 + h) = p.1 ∙ ap (λ (x : ℕ). n % 2 ^ x) e in
    let byte : a / 2 ^ h ≡ n / 2 ^ h % 256 = ap (λ (x : ℕ). x / 2 ^ h) is ∙ field n 8 h in
    let whole : n / 2 ^ held ≡ n / 2 ^ h / 256 = ap (λ (x : ℕ). n / 2 ^ x) (e ∙ add_comm 8 h) ∙ sym (shr-shr n h 8) in (
      take_more_set bs at (a / 2 ^ h) lt
          ∙ (ap (λ (x : List ℕ). x ++ (a / 2 ^ h ∷ [])) (p.0 ∙ ap (bytes at) whole)
          ∙ (ap (λ (x : ℕ). bytes at (n / 2 ^ h / 256) ++ (x ∷ [])) byte ∙ sym (bytes_push at (n / 2 ^ h)))),
      ap (λ (x : ℕ). x % 2 ^ h) is ∙ mod-mod-pow n 8 h,
    )

-- `acc >> (held - width)`
pub top_lt : (held w a : ℕ) → w ≤ held → a < 2 ^ held → a / 2 ^ (held - w) < 2 ^ w
top_lt held w a p q = let e : held ≡ w + (held - w) = omega arith in shr_lt w (held - w) (subst (λ (x : ℕ). a < 2 ^ x) e q)

pub mod_lt : (a h : ℕ) → a % 2 ^ h < 2 ^ h
mod_lt a h = mod_below a (2 ^ h) (pow_pos h)
