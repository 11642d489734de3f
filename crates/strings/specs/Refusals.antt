-- 01, "Why a call is turned down", and 02, CR 1, CR 12 and CR 13: the number of each refusal.
use Rattle.std.specs.Prelude.{ℕ}
use Rattle.strings.specs.declared.Refusal.{Refusal}
use Rattle.strings.specs.declared.Refusal.TheVariants.{BadSetting, BadString, OutOfTurn, Truncated, BadNumber, BadKind, TrailingBytes, OutOfRange, BufferTooShort, BadBurst, ListTooShort, MessageLength}

abbrev pub refusal_number : Refusal → ℕ
refusal_number BadSetting = 1
refusal_number BadString = 2
refusal_number OutOfTurn = 3
refusal_number Truncated = 4
refusal_number BadNumber = 5
refusal_number BadKind = 6
refusal_number TrailingBytes = 7
refusal_number OutOfRange = 8
refusal_number BufferTooShort = 9
refusal_number BadBurst = 10
refusal_number ListTooShort = 14
refusal_number MessageLength = 15
