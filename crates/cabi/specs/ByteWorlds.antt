-- Demand 3 on bytes: lists of calls as a host makes them, to lo_holder_answer and lo_rebuilder_call on state bytes and sheet bytes, after
-- lo_holder_fresh and lo_rebuilder_start.
use Rattle.std.specs.Prelude.{◌≡◌, cond, List, [], ◌∷◌, ◌++◌, ℕ, ◌*◌, ◌/◌, ◌%◌, ◌≤◌, length, take, eqb}
use Rattle.strings.specs.Bits.{Bytes, at_front}
use Rattle.strings.specs.declared.settings.Settings.{Settings}
use Rattle.messages.specs.Questions.{question_bytes}
use Rattle.messages.specs.declared.Question.TheVariants.{AskOpen}
use Rattle.ends.specs.Statement.{AfterClaims, HoldersAnswer, LongEnough, OnceEach, Supposed, fixed}
use Rattle.ends.specs.Worlds.{Call, EachBy, Lent, World, WorldOf, after_by, step_world, to_holder, to_rebuilder, with_holder, with_rebuilder}
use Rattle.layout.specs.Layout.{holder_of, holder_size, rebuilder_of, rebuilder_size}
use Rattle.layout.specs.Sheet.{rows_in}
use Rattle.cabi.specs.Packing.{value_unit}
use Rattle.cabi.specs.Calls.{HolderLeft, RebuilderLeft, StartLeft, holder_bytes_outcome, holder_made, rebuilder_bytes_outcome, start_bytes_outcome}

-- what a host lends: settings; X, Y and their bit counts; string and sheet; the start's question buffer; the bytes for both states
pub record ByteLent : Type 0 where
  pub settings : Settings
  pub x : List ℕ
  pub xbits : ℕ
  pub y : List ℕ
  pub ybits : ℕ
  pub string : List ℕ
  pub sheet : List ℕ
  pub question : List ℕ
  pub holder : List ℕ
  pub rebuilder : List ℕ

-- what the calls so far have left in these bytes, and the messages as in ends' World
abbrev pub ByteWorld : Type 0
ByteWorld = WorldOf (List ℕ) (List ℕ) (List ℕ)

-- ---- what a number says that a call returned: the lowest byte is a refusal's, or 0; the rest is a length
abbrev pub joined_by : (result : ℕ) → List ℕ → List (List ℕ) → List (List ℕ)
joined_by result m ms = cond (eqb (result % value_unit) 0) (ms ++ (m ∷ [])) ms

abbrev pub written_by : (result : ℕ) → (before buffer : List ℕ) → List ℕ
written_by result before buffer = cond (eqb (result % value_unit) 0) (take (result / value_unit) buffer) before

-- ---- one call: the right sides of the contracts
abbrev pub holder_does : ByteLent → ByteWorld → (message reply : List ℕ) → HolderLeft
holder_does c b m reply = holder_bytes_outcome b.holder c.x c.xbits m reply

abbrev pub rebuilder_does : ByteLent → ByteWorld → (message question : List ℕ) → RebuilderLeft
rebuilder_does c b m question = rebuilder_bytes_outcome b.rebuilder c.y c.ybits m b.string b.sheet question

abbrev pub after_holder_did : ByteWorld → List ℕ → HolderLeft → ByteWorld
after_holder_did b m out = with_holder b out.state (joined_by out.result m b.heard)

abbrev pub after_rebuilder_did : ByteWorld → List ℕ → RebuilderLeft → ByteWorld
after_rebuilder_did b m out = with_rebuilder b out.state out.string out.sheet (written_by out.result b.waiting out.question) (joined_by out.result b.waiting b.earlier) (joined_by out.result m b.taken)

abbrev pub step_bytes : ByteLent → ByteWorld → Call → ByteWorld
step_bytes c b (to_holder m reply) = after_holder_did b m (holder_does c b m reply)
step_bytes c b (to_rebuilder m question) = after_rebuilder_did b m (rebuilder_does c b m question)

-- ---- lists of calls, as in ends' Worlds
abbrev pub bytes_after : ByteLent → ByteWorld → List Call → ByteWorld
bytes_after c b ks = after_by (step_bytes c) b ks

abbrev pub EachOnBytes : (ByteWorld → Call → Type 0) → ByteLent → ByteWorld → List Call → Type 0
EachOnBytes P c b ks = EachBy (step_bytes c) P b ks

abbrev pub start_does : ByteLent → StartLeft
start_does c = start_bytes_outcome c.settings c.y c.ybits c.rebuilder c.question

abbrev pub first_bytes : ByteLent → ByteWorld
first_bytes c = record {
  holder = (holder_made c.holder).state;
  rebuilder = (start_does c).state;
  string = c.string;
  sheet = c.sheet;
  waiting = written_by (start_does c).result [] (start_does c).question;
  earlier = [];
  heard = [];
  taken = [];
}

-- ---- what the bytes hold: the states, and the rows of the sheet
abbrev pub lent_of : ByteLent → Lent
lent_of c = record { settings = c.settings; x = c.x; xbits = c.xbits; y = c.y; ybits = c.ybits; string = c.string; sheet = rows_in c.sheet; question = c.question }

abbrev pub world_of : ByteWorld → World
world_of b = record {
  holder = holder_of b.holder;
  rebuilder = rebuilder_of b.rebuilder;
  string = b.string;
  sheet = rows_in b.sheet;
  waiting = b.waiting;
  earlier = b.earlier;
  heard = b.heard;
  taken = b.taken;
}

-- ---- what is supposed: as in ends' Statement, and state buffers that are long enough; every message is of bytes
pub record SupposedOnBytes (c : ByteLent) : Type 0 where
  pub lent : Supposed (lent_of c)
  pub holder : holder_size ≤ length c.holder
  pub rebuilder : rebuilder_size ≤ length c.rebuilder

abbrev pub IsBytes : Call → Type 0
IsBytes (to_holder m buffer) = Bytes m
IsBytes (to_rebuilder m buffer) = Bytes m

-- the rebuilder takes only the holder's answer to the question then waiting
abbrev pub FairOnBytes : ByteLent → ByteWorld → Call → Type 0
FairOnBytes c b (to_holder m buffer) = Unit {0}
FairOnBytes c b (to_rebuilder m buffer) = (rebuilder_does c b m buffer).result % value_unit ≡ 0 → HoldersAnswer (lent_of c) b.waiting m

abbrev pub AdmittedOnBytes : ByteLent → ByteWorld → Call → Type 0
AdmittedOnBytes c b k = IsBytes k × LongEnough (lent_of c) k × FairOnBytes c b k

-- ---- what is claimed
-- both functions that make a state succeed, and the opening question is written
pub record BeginsOnBytes (c : ByteLent) : Type 0 where
  pub holder : (holder_made c.holder).result ≡ 0
  pub result : (start_does c).result ≡ length (question_bytes (AskOpen c.settings.h c.settings.key)) * value_unit
  pub question : (start_does c).question ≡ at_front (question_bytes (AskOpen c.settings.h c.settings.key)) c.question

-- of each call; b is the world in which it came, b' the one after it
pub record RebuilderDid (c : ByteLent) (b b' : ByteWorld) (m buffer : List ℕ) : Type 0 where
  -- one step of the bytes is a step of ends' world on the states that they hold
  pub step : world_of b' ≡ step_world (lent_of c) (world_of b) (to_rebuilder m buffer)
  -- "The rebuilder refused no such answer"
  pub accepts : HoldersAnswer (lent_of c) b.waiting m → (rebuilder_does c b m buffer).result % value_unit ≡ 0
  -- "Each answer taken gave the next question that document 01 fixes, or its finish", which has length 0
  pub gives : (rebuilder_does c b m buffer).result % value_unit ≡ 0
      → ((rebuilder_does c b m buffer).result ≡ length (fixed (lent_of c) (world_of b')) * value_unit) × ((rebuilder_does c b m buffer).question ≡ at_front (fixed (lent_of c) (world_of b')) buffer)
  -- a refused call leaves every byte as it was
  pub unchanged : ((rebuilder_does c b m buffer).result % value_unit ≡ 0 → ⊥) → (b' ≡ b) × ((rebuilder_does c b m buffer).question ≡ buffer)

pub record HolderDid (c : ByteLent) (b b' : ByteWorld) (m buffer : List ℕ) : Type 0 where
  pub step : world_of b' ≡ step_world (lent_of c) (world_of b) (to_holder m buffer)
  -- "a holder that had taken each earlier question once and nothing else refused no waiting question": it replies exactly the answer
  pub replies : (a : List ℕ) → m ≡ b.waiting → HoldersAnswer (lent_of c) m a → OnceEach b.earlier b.heard
      → ((holder_does c b m buffer).result ≡ length a * value_unit) × ((holder_does c b m buffer).reply ≡ at_front a buffer)
  pub unchanged : ((holder_does c b m buffer).result % value_unit ≡ 0 → ⊥) → (b' ≡ b) × ((holder_does c b m buffer).reply ≡ buffer)

abbrev pub CallDid : ByteLent → ByteWorld → Call → Type 0
CallDid c b (to_holder m buffer) = HolderDid c b (step_bytes c b (to_holder m buffer)) m buffer
CallDid c b (to_rebuilder m buffer) = RebuilderDid c b (step_bytes c b (to_rebuilder m buffer)) m buffer

pub record Demand3OnBytes (c : ByteLent) (ks : List Call) : Type 0 where
  pub calls : EachOnBytes (CallDid c) c (first_bytes c) ks
  -- after the list, of the states, the string and the rows that the bytes hold
  pub after : AfterClaims (lent_of c) (world_of (bytes_after c (first_bytes c) ks))

abbrev pub DemandThreeOnBytes : Type 0
DemandThreeOnBytes = (c : ByteLent) → SupposedOnBytes c → BeginsOnBytes c × ((ks : List Call) → EachOnBytes (AdmittedOnBytes c) c (first_bytes c) ks → Demand3OnBytes c ks)
