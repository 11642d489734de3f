-- The anchor search (01, "The rebuilder": "An anchor at offset s is placed at r .."). Where an anchor is placed is defined in Anchors.
use Rattle.std.specs.Prelude.{Bool, ◌&&◌, List, ℕ, ◌+◌, leb, Option as Found, Some, None, Result as CodeResult, Ok, Err}
use Rattle.std.proofs.Math.Option.{Option, none, some}
use Rattle.strings.specs.Bits.{range, max_bits}
use Rattle.strings.specs.StringRule.{string_rule}
use Rattle.strings.specs.SettingLimits.{anchor_limits, factor_limits}
use Rattle.strings.specs.Refusals.{refusal_number}
use Rattle.strings.specs.Results.{Result, refusal, value, unless}
use Rattle.strings.specs.declared.Refusal.{Refusal}
use Rattle.strings.specs.declared.Refusal.TheVariants.{BadSetting, BadString, OutOfRange}
use Rattle.ends.specs.Anchors.{place}

-- what the code's answer is for a place and for none
abbrev pub place_in : Option ℕ → Found ℕ
place_in none = None
place_in (some r) = Some r

-- ---- the search as a host calls it, on the copy y of that many bits and a string a as the anchor
-- anchor m 8 to 64 bits; window factor k 1 to 8
unfoldable pub anchor_settings : (m k : ℕ) → Bool
anchor_settings m k = anchor_limits m && factor_limits k

-- the copy's piece ends by the copy's bit count, the piece of p bits is no longer than a string, and the anchor's offset is not past p - m
unfoldable pub anchor_range : (bits start q p s m : ℕ) → Bool
anchor_range bits start q p s m = leb (start + q) bits && (leb p max_bits && leb (s + m) p)

-- 1; 2 for either string; 8; else the place, or none
unfoldable pub anchor_search : (y : List ℕ) (bits start q p s m k : ℕ) (a : List ℕ) → Result (Option ℕ)
anchor_search y bits start q p s m k a =
    unless (anchor_settings m k) BadSetting (
    unless (string_rule y bits && string_rule a m) BadString (
    unless (anchor_range bits start q p s m) OutOfRange (
    value (place m k p s (range y start q) (range a 0 m)))))

-- what each case of the code's answer says
abbrev pub said_anchor : CodeResult (Found ℕ) Refusal → Result (Option ℕ)
said_anchor (Ok (Some r)) = value (some r)
said_anchor (Ok None) = value none
said_anchor (Err e) = refusal (refusal_number e)
