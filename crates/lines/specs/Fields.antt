-- Fields of a byte list, parted by a separator byte: the lines of the input (separator newline), the groups of a line (separator blank).
use Rattle.std.specs.Prelude.{Bool, true, false, cond, List, [], ◌∷◌, ℕ, zero, suc, ◌+◌, ◌-◌, length, take, drop, eqb, ltb}
use Rattle.std.proofs.Math.Option.{Option, none, some, map}
use Rattle.strings.specs.declared.Refusal.{Refusal}
use Rattle.strings.specs.Refusals.{refusal_number}
use Rattle.strings.specs.Results.{Result, refusal, value}

abbrev pub newline_byte : ℕ
newline_byte = 10

abbrev pub blank_byte : ℕ
blank_byte = 32

-- how many bytes stand before the first separator; all of them if there is none
unfoldable pub before_first : ℕ → List ℕ → ℕ
before_first sep [] = 0
before_first sep (x ∷ l) = cond (eqb x sep) 0 (suc (before_first sep l))

-- the index of the first separator from index `from` on, or the length; at or past the end, `from` itself
unfoldable pub field_end : ℕ → List ℕ → ℕ → ℕ
field_end sep s from = from + before_first sep (drop from s)

-- The i-th field, counted from the field that starts at index `from`. A field ends at a separator or at the end of the list. The next field
-- exists only if the one before it ended at a separator: a list without a separator has one field, a list that ends with one has an empty last field.
unfoldable pub field_from : ℕ → ℕ → List ℕ → ℕ → Option (ℕ × ℕ)
field_from sep zero s from = some (from, field_end sep s from)
field_from sep (suc i) s from = cond (ltb (field_end sep s from) (length s)) (field_from sep i s (suc (field_end sep s from))) none

-- field i of the list, counted from 0: its first index and the index behind its last. Field 0 always exists.
unfoldable pub field : ℕ → ℕ → List ℕ → Option (ℕ × ℕ)
field sep i s = field_from sep i s 0

-- the bytes of s from index a up to, not including, index b
abbrev pub bytes_between : ℕ → ℕ → List ℕ → List ℕ
bytes_between a b s = take (b - a) (drop a s)

-- the bytes of field i
abbrev pub field_text : ℕ → ℕ → List ℕ → Option (List ℕ)
field_text sep i s = map (λ (place : ℕ × ℕ). bytes_between place.0 place.1 s) (field sep i s)

-- whether there is nothing
abbrev pub absent : {A : Type 0} → Option A → Bool
absent none = true
absent (some a) = false

-- what there is; nothing is refused with e
abbrev pub or_refuse : {A : Type 0} → Refusal → Option A → Result A
or_refuse e none = refusal (refusal_number e)
or_refuse e (some a) = value a

-- line i of the input, counted from 0; a missing line is refused as one of another form is, with e
abbrev pub line_of : Refusal → ℕ → List ℕ → Result (List ℕ)
line_of e i input = or_refuse e (field_text newline_byte i input)
