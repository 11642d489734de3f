-- What a writer of a message leaves in a lent buffer.
use Rattle.std.specs.Prelude.{Result as CodeResult, cond, List, ℕ, length, leb}
use Rattle.strings.specs.Bits.{at_front}
use Rattle.strings.specs.Refusals.{refusal_number}
use Rattle.strings.specs.Results.{Result, refusal, value, said}
use Rattle.strings.specs.declared.Refusal.{Refusal}
use Rattle.strings.specs.declared.Refusal.TheVariants.{BufferTooShort}

-- the message's length or why it was not written, and the buffer's bytes after it
pub record Wrote : Type 0 where
  pub answer : Result ℕ
  pub buffer : List ℕ

-- what the code's answer says, where the buffer's bytes are buf
abbrev pub said_write : CodeResult ℕ Refusal → List ℕ → Wrote
said_write r buf = record { answer = said r; buffer = buf }

-- the message m at the front of the buffer, later bytes as they were; too short a buffer keeps all its bytes
unfoldable pub put_front : List ℕ → List ℕ → Wrote
put_front m buf =
    cond (leb (length m) (length buf))
    (record { answer = value (length m); buffer = at_front m buf })
    (record { answer = refusal (refusal_number BufferTooShort); buffer = buf })
