-- 01, "Messages": every number is below 2^32, in groups of seven bits, lowest first, top bit set on all but the last byte, shortest form.
use Rattle.std.specs.Prelude.{cond, List, [], ◌∷◌, ◌++◌, ℕ, zero, suc, ◌+◌, ◌-◌, ◌*◌, ◌/◌, ◌%◌, length, get_or, ltb, leb}
use Rattle.strings.specs.Results.{Result, value, unless, and_then}
use Rattle.strings.specs.declared.Refusal.TheVariants.{Truncated, BadNumber}

-- the bytes of v in at most k + 1 groups
unfoldable pub groups : ℕ → ℕ → List ℕ
groups zero v = v ∷ []
groups (suc k) v = cond (ltb v 128) (v ∷ []) ((v % 128 + 128) ∷ groups k (v / 128))

-- the bytes of a number below 2^32: at most five
unfoldable pub number : ℕ → List ℕ
number v = groups 4 v

-- Reading gives the number and the position behind it. It goes byte by byte: after bytes that gave the value v, the byte at position at counts
-- w-fold, and k more may follow it. 4 if the message ends; 5 for a zero last byte after another byte; 5 for a fifth byte (k is 0) above hexadecimal 0f
unfoldable pub next_byte : ℕ → List ℕ → ℕ → ℕ → ℕ → Result (ℕ × ℕ)
next_byte zero s at w v =
    unless (ltb at (length s)) Truncated (
    unless (ltb 0 (get_or s at 0)) BadNumber (
    unless (leb (get_or s at 0) 15) BadNumber (
    value (v + w * get_or s at 0, at + 1))))
next_byte (suc k) s at w v =
    unless (ltb at (length s)) Truncated (
    unless (ltb 0 (get_or s at 0)) BadNumber (
    cond (ltb (get_or s at 0) 128) (value (v + w * get_or s at 0, at + 1)) (
    next_byte k s (at + 1) (w * 128) (v + w * (get_or s at 0 - 128)))))

-- the number at a position of the message s, and the position behind it; a first byte may be zero
unfoldable pub number_at : List ℕ → ℕ → Result (ℕ × ℕ)
number_at s at =
    unless (ltb at (length s)) Truncated (
    cond (ltb (get_or s at 0) 128) (value (get_or s at 0, at + 1)) (
    next_byte 3 s (at + 1) 128 (get_or s at 0 - 128)))

-- two numbers, one behind the other, and the position behind them; three
unfoldable pub two_at : List ℕ → ℕ → Result (ℕ × ℕ × ℕ)
two_at s at =
    and_then (number_at s at) (λ (a, next).
    and_then (number_at s next) (λ (b, end).
    value (a, b, end)))

unfoldable pub three_at : List ℕ → ℕ → Result (ℕ × ℕ × ℕ × ℕ)
three_at s at =
    and_then (two_at s at) (λ (a, b, next).
    and_then (number_at s next) (λ (c, end).
    value (a, b, c, end)))

-- the bytes of numbers, one behind the other
unfoldable pub all_numbers : List ℕ → List ℕ
all_numbers [] = []
all_numbers (v ∷ l) = number v ++ all_numbers l

-- k numbers, one behind the other, and the position behind them
unfoldable pub numbers_at : ℕ → List ℕ → ℕ → Result (List ℕ × ℕ)
numbers_at zero s at = value ([], at)
numbers_at (suc k) s at =
    and_then (number_at s at) (λ (a, next).
    and_then (numbers_at k s next) (λ (l, end).
    value (a ∷ l, end)))
