-- 01, demand 3: lists of calls to a fresh holder and a fresh rebuilder. Every list runs from the first to the last.
use Rattle.std.specs.Prelude.{Bool, List, [], ◌∷◌, ◌++◌, ℕ, take}
use Rattle.std.proofs.Math.Option.{Option, none, some}
use Rattle.strings.specs.Bits.{range}
use Rattle.strings.specs.Results.{Result, refusal, value}
use Rattle.strings.specs.declared.settings.Settings.{Settings}
use Rattle.ends.specs.declared.Holder.{Holder}
use Rattle.ends.specs.declared.Rebuilder.{Rebuilder}
use Rattle.ends.specs.declared.Row.{Row}
use Rattle.ends.specs.HolderCall.{fresh_holder}
use Rattle.ends.specs.HolderOutcome.{HolderSaid, holder_outcome}
use Rattle.ends.specs.RebuilderOutcome.{StartSaid, start_outcome}
use Rattle.ends.specs.SheetCall.{SheetSaid, sheet_outcome}

-- a call on any message, with the bytes of the buffer that it is lent for the reply or the question
pub data Call : Type 0 where
  to_holder : (message reply : List ℕ) → Call
  to_rebuilder : (message question : List ℕ) → Call

-- what is lent besides: the settings; X, Y and their bit counts; string buffer and sheet as first lent; the start's question buffer
pub record Lent : Type 0 where
  pub settings : Settings
  pub x : List ℕ
  pub xbits : ℕ
  pub y : List ℕ
  pub ybits : ℕ
  pub string : List ℕ
  pub sheet : List Row
  pub question : List ℕ

abbrev pub bits_of_x : Lent → List Bool
bits_of_x c = range c.x 0 c.xbits

abbrev pub bits_of_y : Lent → List Bool
bits_of_y c = range c.y 0 c.ybits

-- what the calls so far have left: both states, the string buffer and the sheet; the question waiting, empty if none waits, and those that
-- waited before it; the messages that each end took. H, R and S are the forms in which states and sheet are kept
pub record WorldOf (H R S : Type 0) : Type 0 where
  pub holder : H
  pub rebuilder : R
  pub string : List ℕ
  pub sheet : S
  pub waiting : List ℕ
  pub earlier : List (List ℕ)
  pub heard : List (List ℕ)
  pub taken : List (List ℕ)

abbrev pub World : Type 0
World = WorldOf Holder Rebuilder (List Row)

-- w with another state of the holder and other messages that it took; the rebuilder's part stays
abbrev pub with_holder : {H R S : Type 0} → WorldOf H R S → H → (heard : List (List ℕ)) → WorldOf H R S
with_holder w state heard = record {
  holder = state;
  rebuilder = w.rebuilder;
  string = w.string;
  sheet = w.sheet;
  waiting = w.waiting;
  earlier = w.earlier;
  heard = heard;
  taken = w.taken;
}

-- w with all that a call of the rebuilder may change; the holder's part stays
abbrev pub with_rebuilder : {H R S : Type 0} → WorldOf H R S → R → (string : List ℕ) → (sheet : S) → (waiting : List ℕ) → (earlier taken : List (List ℕ)) → WorldOf H R S
with_rebuilder w state string sheet waiting earlier taken = record {
  holder = w.holder;
  rebuilder = state;
  string = string;
  sheet = sheet;
  waiting = waiting;
  earlier = earlier;
  heard = w.heard;
  taken = taken;
}

-- m joins those before it if the call was taken
abbrev pub joined : {A : Type 0} → Result A → List ℕ → List (List ℕ) → List (List ℕ)
joined (refusal number) m ms = ms
joined (value v) m ms = ms ++ (m ∷ [])

-- "The question waiting is the one last written by the start or by a taken call of the rebuilder; after the finish none waits"
abbrev pub last_written : (before : List ℕ) → Result (Option ℕ) → (buffer : List ℕ) → List ℕ
last_written before (refusal number) buffer = before
last_written before (value none) buffer = []
last_written before (value (some size)) buffer = take size buffer

abbrev pub first_written : Result ℕ → (buffer : List ℕ) → List ℕ
first_written (refusal number) buffer = []
first_written (value size) buffer = take size buffer

-- ---- one call
-- what it gives and leaves: the right sides of the contracts of holder_call and rebuilder_call_on_sheet
abbrev pub holder_says : Lent → World → (message reply : List ℕ) → HolderSaid
holder_says c w m reply = holder_outcome w.holder c.x c.xbits m reply

abbrev pub rebuilder_says : Lent → World → (message question : List ℕ) → SheetSaid
rebuilder_says c w m question = sheet_outcome w.rebuilder c.y c.ybits m w.sheet w.string question

abbrev pub after_holder : World → List ℕ → HolderSaid → World
after_holder w m said = with_holder w said.state (joined said.answer m w.heard)

abbrev pub after_rebuilder : World → List ℕ → SheetSaid → World
after_rebuilder w m out = with_rebuilder w out.said.state out.said.string out.rows (last_written w.waiting out.said.answer out.said.question) (joined out.said.answer w.waiting w.earlier) (joined out.said.answer m w.taken)

-- "Each call gets the state that its end's last taken call returned": a refused one returns the state that it got
abbrev pub step_world : Lent → World → Call → World
step_world c w (to_holder m reply) = after_holder w m (holder_says c w m reply)
step_world c w (to_rebuilder m question) = after_rebuilder w m (rebuilder_says c w m question)

-- ---- lists of calls, for any step
abbrev pub after_by : {W : Type 0} → (W → Call → W) → W → List Call → W
after_by step w [] = w
after_by step w (k ∷ ks) = after_by step (step w k) ks

-- P holds of each call and of the world in which it came
abbrev pub EachBy : {W : Type 0} → (W → Call → W) → (W → Call → Type 0) → W → List Call → Type 0
EachBy step P w [] = Unit {0}
EachBy step P w (k ∷ ks) = P w k × EachBy step P (step w k) ks

abbrev pub world_after : Lent → World → List Call → World
world_after c w ks = after_by (step_world c) w ks

abbrev pub Each : (World → Call → Type 0) → Lent → World → List Call → Type 0
Each P c w ks = EachBy (step_world c) P w ks

-- the right side of the contract of rebuilder_start
abbrev pub start_says : Lent → StartSaid
start_says c = start_outcome c.settings c.y c.ybits c.question

-- "The holder begins with a fresh state, the rebuilder with the state and question that its start gave"
abbrev pub first_world : Lent → World
first_world c = record {
  holder = fresh_holder;
  rebuilder = (start_says c).state;
  string = c.string;
  sheet = c.sheet;
  waiting = first_written (start_says c).answer (start_says c).question;
  earlier = [];
  heard = [];
  taken = [];
}
