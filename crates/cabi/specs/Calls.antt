-- The calls of both ends on bytes: what each gives as one number, and what every lent slice holds after it. A refusal leaves all bytes as they were.
-- A state stands in the first bytes of its slice: a slice with more is taken as well, and the bytes behind the state are neither read nor written.
use Rattle.std.specs.Prelude.{cond, List, ℕ, ◌/◌, length, leb}
use Rattle.strings.specs.Bits.{at_front}
use Rattle.strings.specs.StringRule.{string_rule}
use Rattle.strings.specs.Results.{Result, refusal, value, unless}
use Rattle.strings.specs.declared.Refusal.TheVariants.{BadSetting, BadString, OutOfTurn, BufferTooShort}
use Rattle.strings.specs.declared.settings.Settings.{Settings}
use Rattle.strings.specs.SettingLimits.{within_limits}
use Rattle.ends.specs.HolderCall.{Reply, holder_call, fresh_holder}
use Rattle.ends.specs.RebuilderCall.{Started, rebuilder_start, Taken, Capacities, rebuilder_call, string_after}
use Rattle.layout.specs.Layout.{holder_size, holder_bytes, holder_of, is_holder, rebuilder_size, rebuilder_bytes, rebuilder_of, is_rebuilder}
use Rattle.layout.specs.Sheet.{row_size, sheet_bytes_after}
use Rattle.cabi.specs.Packing.{packed}

-- ---- a fresh holder: fewer bytes than a state's get 9
pub record HolderMade : Type 0 where
  pub result : ℕ
  pub state : List ℕ

unfoldable pub holder_made : List ℕ → HolderMade
holder_made s = cond (leb holder_size (length s))
    (record { result = packed (value 0); state = at_front (holder_bytes fresh_holder) s })
    (record { result = packed (refusal 9); state = s })

-- ---- the holder's call
-- with the bytes s of its state, the bytes x of X, their bit count, a message and a reply buffer of capacity bytes: bytes that no state has get 3, after 2
unfoldable pub holder_on_bytes : (s x : List ℕ) (bits : ℕ) (msg : List ℕ) (capacity : ℕ) → Result Reply
holder_on_bytes s x bits msg capacity =
    unless (string_rule x bits) BadString (
    unless (is_holder s) OutOfTurn (
    holder_call (holder_of s) x bits msg capacity))

pub record HolderLeft : Type 0 where
  pub result : ℕ
  pub state : List ℕ
  pub reply : List ℕ

-- the value is the reply's length
abbrev pub holder_left : (s reply : List ℕ) → Result Reply → HolderLeft
holder_left s reply (refusal number) = record { result = packed (refusal number); state = s; reply = reply }
holder_left s reply (value r) = record { result = packed (value (length r.message)); state = at_front (holder_bytes r.state) s; reply = at_front r.message reply }

-- the call with the bytes of its state, of X, of the message and of the reply buffer
abbrev pub holder_bytes_outcome : (s x : List ℕ) (bits : ℕ) (msg reply : List ℕ) → HolderLeft
holder_bytes_outcome s x bits msg reply = holder_left s reply (holder_on_bytes s x bits msg (length reply))

-- ---- the rebuilder's start
-- fewer bytes than a state's get 9, after 1 and 2
unfoldable pub start_on_bytes : Settings → (y : List ℕ) (bits : ℕ) (state_capacity capacity : ℕ) → Result Started
start_on_bytes S y bits state_capacity capacity =
    unless (within_limits S) BadSetting (
    unless (string_rule y bits) BadString (
    unless (leb rebuilder_size state_capacity) BufferTooShort (
    rebuilder_start S y bits capacity)))

pub record StartLeft : Type 0 where
  pub result : ℕ
  pub state : List ℕ
  pub question : List ℕ

-- the value is the first question's length
abbrev pub start_left : (s question : List ℕ) → Result Started → StartLeft
start_left s question (refusal number) = record { result = packed (refusal number); state = s; question = question }
start_left s question (value b) = record { result = packed (value (length b.question)); state = at_front (rebuilder_bytes b.state) s; question = at_front b.question question }

-- the start with settings, the bytes y of Y and their bit count, and the bytes of state and question buffer
abbrev pub start_bytes_outcome : Settings → (y : List ℕ) (bits : ℕ) (s question : List ℕ) → StartLeft
start_bytes_outcome S y bits s question = start_left s question (start_on_bytes S y bits (length s) (length question))

-- ---- the rebuilder's call
-- with the bytes s of its state, the bytes y of Y, their bit count and a message: bytes that no state has get 3, after 2
unfoldable pub rebuilder_on_bytes : (s y : List ℕ) (bits : ℕ) (msg : List ℕ) → Capacities → Result Taken
rebuilder_on_bytes s y bits msg capacities =
    unless (string_rule y bits) BadString (
    unless (is_rebuilder s) OutOfTurn (
    rebuilder_call (rebuilder_of s) y bits msg capacities))

-- the capacity in lent bytes; that of the sheet in rows
abbrev pub capacities_in : (string sheet question : List ℕ) → Capacities
capacities_in string sheet question = record { string = length string; sheet = length sheet / row_size; question = length question }

pub record RebuilderLeft : Type 0 where
  pub result : ℕ
  pub state : List ℕ
  pub string : List ℕ
  pub sheet : List ℕ
  pub question : List ℕ

-- the value is the next question's length, 0 at the finish
abbrev pub rebuilder_left : (s string sheet question : List ℕ) → Result Taken → RebuilderLeft
rebuilder_left s string sheet question (refusal number) =
    record { result = packed (refusal number); state = s; string = string; sheet = sheet; question = question }
rebuilder_left s string sheet question (value t) = record {
  result = packed (value (length t.question));
  state = at_front (rebuilder_bytes t.step.state) s;
  string = string_after string t.step.string;
  sheet = sheet_bytes_after sheet t.step.sheet;
  question = at_front t.question question;
}

-- the call with the bytes of its state, of Y, of the message, of string and sheet, and of the question buffer
abbrev pub rebuilder_bytes_outcome : (s y : List ℕ) (bits : ℕ) (msg string sheet question : List ℕ) → RebuilderLeft
rebuilder_bytes_outcome s y bits msg string sheet question =
    rebuilder_left s string sheet question (rebuilder_on_bytes s y bits msg (capacities_in string sheet question))
