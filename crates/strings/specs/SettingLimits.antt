-- 01, "Strings and settings": the limits of each setting, the settings within them, and the house settings. Layers 2 to 4 test the limits,
-- each those of its own input.
use Rattle.std.specs.Prelude.{Bool, ◌&&◌, ℕ, ◌≤◌, ◌<◌, leb}
use Rattle.strings.specs.declared.settings.Settings.{Settings}

-- whether v is lo to hi
abbrev pub between : ℕ → ℕ → ℕ → Bool
between lo v hi = leb lo v && leb v hi

-- anchor m: 8 to 64 bits
abbrev pub anchor_limits : ℕ → Bool
anchor_limits m = between 8 m 64

-- hash h: 8 to 32 bits
abbrev pub hash_limits : ℕ → Bool
hash_limits h = between 8 h 32

-- window factor k: 1 to 8
abbrev pub factor_limits : ℕ → Bool
factor_limits k = between 1 k 8

-- key: 1 to 2^32 - 1
abbrev pub key_limits : ℕ → Bool
key_limits key = between 1 key 4294967295

-- ceiling: 0 to 16,384 bytes
abbrev pub ceiling_limits : ℕ → Bool
ceiling_limits ceiling = leb ceiling 16384

abbrev pub house_settings : Settings
house_settings = record { m = 16; h = 16; k = 2; key = 1; ceiling = 4096 }

-- each setting is within its limits
unfoldable pub within_limits : Settings → Bool
within_limits S = anchor_limits S.m && (hash_limits S.h && (factor_limits S.k && (key_limits S.key && ceiling_limits S.ceiling)))

-- the same as a statement
pub record Limits (S : Settings) : Type 0 where
  pub m-least : 8 ≤ S.m
  pub m-most : S.m ≤ 64
  pub h-least : 8 ≤ S.h
  pub h-most : S.h ≤ 32
  pub k-least : 1 ≤ S.k
  pub k-most : S.k ≤ 8
  pub key-least : 1 ≤ S.key
  pub key-most : S.key < 4294967296
  pub ceiling-most : S.ceiling ≤ 16384
