-- What the holder's call gives and leaves (01, "Messages", "Why a call is turned down").
use Rattle.std.specs.Prelude.{List, ℕ, length}
use Rattle.strings.specs.Bits.{at_front}
use Rattle.strings.specs.Results.{Result, refusal, value, said}
use Rattle.ends.specs.declared.Holder.{Holder}
use Rattle.ends.specs.HolderCall.{Reply, holder_call}
use Rattle.ends.specs.declared.answering.HolderOut.{HolderOut}

-- a refusal's number alone or the length of the message sent; the next state; the bytes of the reply buffer
pub record HolderSaid : Type 0 where
  pub answer : Result ℕ
  pub state : Holder
  pub reply : List ℕ

-- what the code's result says: a reply's length, or 01's number of the refusal
abbrev pub said_holder : HolderOut → List ℕ → HolderSaid
said_holder r reply = record { answer = said r.answer; state = r.state; reply = reply }

-- turned down: state and reply stay; else the message stands at the front of the reply, and later bytes stay
abbrev pub leaves_holder : Holder → List ℕ → Result Reply → HolderSaid
leaves_holder st reply (refusal number) = record { answer = refusal number; state = st; reply = reply }
leaves_holder st reply (value r) = record { answer = value (length r.message); state = r.state; reply = at_front r.message reply }

-- the call on the bytes x of X, their bit count, a message and the bytes of the reply buffer
abbrev pub holder_outcome : Holder → (x : List ℕ) (bits : ℕ) (msg reply : List ℕ) → HolderSaid
holder_outcome st x bits msg reply = leaves_holder st reply (holder_call st x bits msg (length reply))
