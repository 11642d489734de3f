-- The settings line: five decimal numbers parted by single blanks, nothing before or after. A line of another form is refused with 1.
use Rattle.std.specs.Prelude.{Bool, true, cond, ◌&&◌, List, [], ◌∷◌, ℕ, ◌+◌, ◌-◌, ◌*◌, length, leb, ltb, Option as CodeOption, Some, None}
use Rattle.std.proofs.Math.Option.{Option, none, some, bind}
use Rattle.strings.specs.Bits.{max_bits}
use Rattle.strings.specs.declared.settings.Settings.{Settings}
use Rattle.strings.specs.declared.Refusal.TheVariants.{BadSetting}
use Rattle.strings.specs.Refusals.{refusal_number}
use Rattle.strings.specs.Results.{Result, refusal, value, unless, and_then}
use Rattle.lines.specs.Fields.{blank_byte, field, field_text, absent, or_refuse, line_of}

-- the bytes 0 (48) to 9 (57)
unfoldable pub is_digit : ℕ → Bool
is_digit x = leb 48 x && leb x 57

unfoldable pub all_digits : List ℕ → Bool
all_digits [] = true
all_digits (x ∷ l) = is_digit x && all_digits l

-- the value of digits, the highest first, behind digits of the value v
unfoldable pub value_from : ℕ → List ℕ → ℕ
value_from v [] = v
value_from v (x ∷ l) = value_from (v * 10 + (x - 48)) l

-- A decimal number: one or more digits, leading zeros allowed. A value of 2^32 or more is none: no setting's limits hold it, so that it is refused with 1 either way.
unfoldable pub decimal_of : List ℕ → Option ℕ
decimal_of l = cond (ltb 0 (length l) && (all_digits l && ltb (value_from 0 l) 4294967296)) (some (value_from 0 l)) none

-- the number of group i of the line, the groups being what blanks part; an empty group, as between two blanks, is none
unfoldable pub group_of : List ℕ → ℕ → Option ℕ
group_of line i = bind (field_text blank_byte i line) decimal_of

-- the setting in group i
abbrev pub setting_at : List ℕ → ℕ → Result ℕ
setting_at line i = or_refuse BadSetting (group_of line i)

-- m, h, k, key, ceiling, in that order
unfoldable pub five_groups : List ℕ → Result Settings
five_groups line =
    and_then (setting_at line 0) (λ m.
    and_then (setting_at line 1) (λ h.
    and_then (setting_at line 2) (λ k.
    and_then (setting_at line 3) (λ key.
    and_then (setting_at line 4) (λ ceiling.
    value (record { m = m; h = h; k = k; key = key; ceiling = ceiling }))))))

-- the most characters of the line: as many as a line of X or Y may have
abbrev pub longest_line : ℕ
longest_line = max_bits

-- five groups and no sixth
unfoldable pub settings_of : List ℕ → Result Settings
settings_of line =
    unless (leb (length line) longest_line) BadSetting (
    unless (absent (field blank_byte 5 line)) BadSetting (
    five_groups line))

-- the settings of the input: its line 0
unfoldable pub settings_in : List ℕ → Result Settings
settings_in input = and_then (line_of BadSetting 0 input) settings_of

-- what the code's answer says
abbrev pub said_settings : CodeOption Settings → Result Settings
said_settings (Some s) = value s
said_settings None = refusal (refusal_number BadSetting)
