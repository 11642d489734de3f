-- 01, "The demonstration run": runs of both ends on bytes, computed on the definitions of the calls. Further runs are stored in data/runs.
use Rattle.std.specs.Prelude.{◌≡◌, refl, Bool, true, false, List, [], ◌∷◌, ◌++◌, map, ℕ, zero, suc, ◌+◌, ◌-◌, ◌*◌, ◌/◌, length, take, replicate}
use Rattle.strings.specs.Results.{Result, refusal, value}
use Rattle.strings.specs.Bits.{bit_at, range, bytes_for, flipped, set_bit, write_bits, pack, cleared, same_bits}
use Rattle.strings.specs.StringRule.{none_set, string_rule}
use Rattle.codes.specs.Syndrome.{syndrome}
use Rattle.codes.specs.Repair.{insertions, deletions, with_syndrome, put_in, take_out, repair_to}
use Rattle.codes.specs.Columns.{columns, syndromes, repair_run}
use Rattle.codes.specs.Hash.{xor_left, xor_right, xorshift, hash_from, hash}
use Rattle.messages.specs.Numbers.{groups, number, next_byte, number_at, two_at, three_at, all_numbers, numbers_at}
use Rattle.messages.specs.Kinds.{kind_at}
use Rattle.messages.specs.Questions.{question_bytes, opening_at, range_question, burst_range_at, fields_at}
use Rattle.messages.specs.Answers.{answer_bytes, size_at, hash_at, syndrome_at, bits_at, within_columns, burst_at, answer_fields, read_answer}
use Rattle.strings.specs.declared.settings.Settings.{Settings}
use Rattle.ends.specs.declared.Row.{Row}
use Rattle.ends.specs.declared.Holder.{Holder}
use Rattle.ends.specs.declared.Rebuilder.{Rebuilder}
use Rattle.strings.specs.SettingLimits.{house_settings, within_limits}
use Rattle.ends.specs.Anchors.{isqrt, place}
use Rattle.ends.specs.Segments.{hash_of, later_stage, is_burst, effect, first_stage}
use Rattle.ends.specs.States.{no_piece, top, popped, pushed, restaged, retried, split_at, planned}
use Rattle.ends.specs.Soundness.{holder_sound, is_blank, blank_from, piece_fits, in_order, rows_of_waiting, asks_left, stage_fits, stack_sound, top_fits, opening_sound, pieces_sound, whole_sound, sound}
use Rattle.ends.specs.HolderCall.{fresh_holder, same_bit_count, sends, holder_call, Reply}
use Rattle.ends.specs.RebuilderCall.{Started, starts, rebuilder_start, Step, Taken, no_row, string_after, sheet_after, tallied, effect_step, opening_step, whole_step, step_of, rebuilder_call, fresh_rebuilder}
use Rattle.ends.specs.RebuilderOutcome.{capacities}
use Rattle.ends.specs.Worlds.{Call, to_holder, to_rebuilder, Lent, first_world, world_after}
use Rattle.ends.specs.declared.Stage.TheVariants.{Hashing}
use Rattle.ends.specs.declared.Phase.TheVariants.{AtPieces}

-- ---- the lines that are printed
pub data Line : Type 0 where
  -- Q and A, each with its message
  asks answers : List ℕ → Line
  -- P start length how
  row : (start len how : ℕ) → Line
  -- X, the string, questions after the opening, counted bytes
  rebuilt : List Bool → (questions counted : ℕ) → Line
  -- R and the refusal's number
  turned_down : ℕ → Line

abbrev row_line : Row → Line
row_line r = row r.start r.len r.how

-- after the last answer: each used row in the sheet's order, then the string and the counts
abbrev last_lines : Rebuilder → (string : List ℕ) → List Row → List Line
last_lines st bs sh = map row_line (take st.rows sh) ++ (rebuilt (range bs 0 st.n) (st.answered - 1) st.counted ∷ [])

abbrev after_reply : Result Reply → (Holder → List ℕ → List Line) → List Line
after_reply (refusal number) go = turned_down number ∷ []
after_reply (value r) go = answers r.message ∷ go r.state r.message

abbrev after_call : Result Taken → (Step → List ℕ → List Line) → List Line
after_call (refusal number) go = turned_down number ∷ []
after_call (value t) go = go t.step t.question

-- question by question, at most fuel of them: each goes to the holder, and its reply to the rebuilder; no question is the finish
abbrev rounds : (fuel : ℕ) → Lent → Holder → Rebuilder → (string : List ℕ) → List Row → (question : List ℕ) → List Line
rounds zero c H st bs sh q = []
rounds (suc f) c H st bs sh [] = last_lines st bs sh
rounds (suc f) c H st bs sh (b ∷ q) =
    asks (b ∷ q) ∷ after_reply (holder_call H c.x c.xbits (b ∷ q) (1 + bytes_for c.xbits + 9)) (λ (H' : Holder) (a : List ℕ).
    after_call (rebuilder_call st c.y c.ybits a (capacities (length bs) (length sh) 8)) (λ (s : Step) (q' : List ℕ).
    rounds f c H' s.state (string_after bs s.string) (sheet_after sh s.sheet) q'))

abbrev after_start : Lent → Result Started → List Line
after_start c (refusal number) = turned_down number ∷ []
after_start c (value b) = rounds (10 * (c.xbits / c.settings.m) + 7) c fresh_holder b.state c.string c.sheet b.question

-- the printed lines for settings, X and Y: bytes and bit count each
abbrev demonstration : Settings → (x : List ℕ) (xbits : ℕ) (y : List ℕ) (ybits : ℕ) → List Line
demonstration S x xbits y ybits =
    after_start (record {
      settings = S;
      x = x;
      xbits = xbits;
      y = y;
      ybits = ybits;
      string = replicate (bytes_for xbits) 0;
      sheet = replicate (2 * (xbits / S.m) + 1) no_row;
      question = replicate 8 0;
    }) (rebuilder_start S y ybits 8)

-- ---- the runs
-- settings 8 8 1 1 and a ceiling
abbrev up_to : ℕ → Settings
up_to c = record { m = 8; h = 8; k = 1; key = 1; ceiling = c }

-- 64 bits, and a copy of 66 bits that agrees with them from bit 20 to bit 50
abbrev x64 : List ℕ
x64 = 0x33 ∷ 0x38 ∷ 0x85 ∷ 0xfa ∷ 0x2f ∷ 0xea ∷ 0x99 ∷ 0xa9 ∷ []

abbrev y66 : List ℕ
y66 = 0x36 ∷ 0x71 ∷ 0x15 ∷ 0xfa ∷ 0x2f ∷ 0xea ∷ 0x8c ∷ 0xd4 ∷ 0xc0 ∷ []

-- a row and eight bytes that were there before
abbrev nines : Row
nines = record { start = 9; len = 9; how = 9 }

abbrev eight : List ℕ
eight = replicate 8 0xee

-- 01's example as lent, its opening, and calls on it
abbrev example_lent : Lent
example_lent = record { settings = up_to 100; x = 0xb0 ∷ []; xbits = 4; y = 0xa0 ∷ []; ybits = 3; string = 0xff ∷ 0x07 ∷ []; sheet = nines ∷ nines ∷ []; question = eight }

abbrev opening : List ℕ
opening = 0x00 ∷ 0x01 ∷ 0x08 ∷ 0x01 ∷ []

abbrev example_calls : List Call
example_calls =
    to_holder opening eight
    ∷ to_rebuilder (0x00 ∷ 0x04 ∷ []) eight
    ∷ to_holder opening eight
    ∷ to_holder (0x02 ∷ 0x00 ∷ 0x04 ∷ []) eight
    ∷ to_rebuilder (0x02 ∷ 0x03 ∷ 0xab ∷ []) eight
    ∷ to_rebuilder (0x02 ∷ 0x03 ∷ 0xab ∷ 0x01 ∷ []) eight
    ∷ []

pub record Demo : Type 0 where
  -- 01's own: `8 8 1 1 100`, `1011`, `101`
  pub example : demonstration (up_to 100) (0xb0 ∷ []) 4 (0xa0 ∷ []) 3
      ≡ asks opening ∷ answers (0x00 ∷ 0x04 ∷ [])
      ∷ asks (0x02 ∷ 0x00 ∷ 0x04 ∷ []) ∷ answers (0x02 ∷ 0x03 ∷ 0xab ∷ 0x01 ∷ [])
      ∷ row 0 4 2 ∷ rebuilt (true ∷ false ∷ true ∷ true ∷ []) 1 4 ∷ []
  -- the same under the house settings: h 16
  pub house : demonstration house_settings (0xb0 ∷ []) 4 (0xa0 ∷ []) 3
      ≡ asks (0x00 ∷ 0x01 ∷ 0x10 ∷ 0x01 ∷ []) ∷ answers (0x00 ∷ 0x04 ∷ [])
      ∷ asks (0x02 ∷ 0x00 ∷ 0x04 ∷ []) ∷ answers (0x02 ∷ 0x03 ∷ 0xab ∷ 0x23 ∷ [])
      ∷ row 0 4 2 ∷ rebuilt (true ∷ false ∷ true ∷ true ∷ []) 1 4 ∷ []
  -- n = 0: nothing waits, no row; Y is of no account
  pub empty : demonstration (up_to 100) [] 0 (0xb0 ∷ []) 4
      ≡ asks opening ∷ answers (0x00 ∷ 0x00 ∷ [])
      ∷ rebuilt [] 0 0 ∷ []
  -- 01's sample `100`, `0000`: none, then question 03 00 03, answer 03 80
  pub no-take-out : demonstration (up_to 100) (0x80 ∷ []) 3 (0x00 ∷ []) 4
      ≡ asks opening ∷ answers (0x00 ∷ 0x03 ∷ [])
      ∷ asks (0x02 ∷ 0x00 ∷ 0x03 ∷ []) ∷ answers (0x02 ∷ 0x01 ∷ 0x21 ∷ [])
      ∷ asks (0x03 ∷ 0x00 ∷ 0x03 ∷ []) ∷ answers (0x03 ∷ 0x80 ∷ [])
      ∷ row 0 3 5 ∷ rebuilt (true ∷ false ∷ false ∷ []) 2 5 ∷ []
  -- demand 3's exception: for h 8 and key 1 the nine bits of X hash to 0 as nine zeros do, and the run ends with Y's zeros
  pub collision : demonstration (up_to 100) (0x4c ∷ 0x00 ∷ []) 9 (0x00 ∷ 0x00 ∷ []) 9
      ≡ asks opening ∷ answers (0x00 ∷ 0x09 ∷ [])
      ∷ asks (0x01 ∷ 0x00 ∷ 0x09 ∷ []) ∷ answers (0x01 ∷ 0x00 ∷ [])
      ∷ row 0 9 1 ∷ rebuilt (replicate 9 false) 1 2 ∷ []
  -- 02, CR 1: two bits lost are asked for in two columns, each repaired by one bit; three bits gained in three
  pub burst-lost : demonstration (up_to 100) (0xb5 ∷ []) 8 (0xd4 ∷ []) 6
      ≡ asks opening ∷ answers (0x00 ∷ 0x08 ∷ [])
      ∷ asks (0x04 ∷ 0x00 ∷ 0x08 ∷ 0x02 ∷ []) ∷ answers (0x04 ∷ 0x03 ∷ 0x04 ∷ 0xc9 ∷ 0x01 ∷ [])
      ∷ row 0 8 6 ∷ rebuilt (range (0xb5 ∷ []) 0 8) 1 5 ∷ []
  pub burst-gained : demonstration (up_to 100) (0xb5 ∷ []) 8 (0xb6 ∷ 0xa0 ∷ []) 11
      ≡ asks opening ∷ answers (0x00 ∷ 0x08 ∷ [])
      ∷ asks (0x04 ∷ 0x00 ∷ 0x08 ∷ 0x03 ∷ []) ∷ answers (0x04 ∷ 0x03 ∷ 0x03 ∷ 0x00 ∷ 0xc9 ∷ 0x01 ∷ [])
      ∷ row 0 8 6 ∷ rebuilt (range (0xb5 ∷ []) 0 8) 1 6 ∷ []
  -- p 64, q 66, no run of 2: the columns' repair does not have the hash, and step 4 follows. The anchor at 28 is placed and leaves a left and
  -- a right piece, of which the right one is asked for in columns again
  pub anchor : demonstration (up_to 100) x64 64 y66 66
      ≡ asks opening ∷ answers (0x00 ∷ 0x40 ∷ [])
      ∷ asks (0x04 ∷ 0x00 ∷ 0x40 ∷ 0x02 ∷ []) ∷ answers (0x04 ∷ 0x0c ∷ 0x0a ∷ 0xcc ∷ 0x01 ∷ [])
      ∷ asks (0x03 ∷ 0x1c ∷ 0x08 ∷ []) ∷ answers (0x03 ∷ 0xa2 ∷ [])
      ∷ asks (0x01 ∷ 0x00 ∷ 0x1c ∷ []) ∷ answers (0x01 ∷ 0x30 ∷ [])
      ∷ asks (0x03 ∷ 0x00 ∷ 0x1c ∷ []) ∷ answers (0x03 ∷ 0x33 ∷ 0x38 ∷ 0x85 ∷ 0xf0 ∷ [])
      ∷ asks (0x04 ∷ 0x24 ∷ 0x1c ∷ 0x02 ∷ []) ∷ answers (0x04 ∷ 0x0d ∷ 0x08 ∷ 0xbb ∷ 0x01 ∷ [])
      ∷ asks (0x03 ∷ 0x24 ∷ 0x1c ∷ []) ∷ answers (0x03 ∷ 0xfe ∷ 0xa9 ∷ 0x9a ∷ 0x90 ∷ [])
      ∷ row 28 8 4 ∷ row 0 28 5 ∷ row 36 28 5 ∷ rebuilt (range x64 0 64) 6 24 ∷ []
  -- nowhere to place the anchors at 28, 36, 20: the whole piece. Lengths 34 apart are not asked for in columns
  pub three-anchors : demonstration (up_to 100) x64 64 (replicate 13 0x00) 98
      ≡ asks opening ∷ answers (0x00 ∷ 0x40 ∷ [])
      ∷ asks (0x03 ∷ 0x1c ∷ 0x08 ∷ []) ∷ answers (0x03 ∷ 0xa2 ∷ [])
      ∷ asks (0x03 ∷ 0x24 ∷ 0x08 ∷ []) ∷ answers (0x03 ∷ 0xfe ∷ [])
      ∷ asks (0x03 ∷ 0x14 ∷ 0x08 ∷ []) ∷ answers (0x03 ∷ 0x5f ∷ [])
      ∷ asks (0x03 ∷ 0x00 ∷ 0x40 ∷ []) ∷ answers (0x03 ∷ 0x33 ∷ 0x38 ∷ 0x85 ∷ 0xfa ∷ 0x2f ∷ 0xea ∷ 0x99 ∷ 0xa9 ∷ [])
      ∷ row 0 64 5 ∷ rebuilt (range x64 0 64) 4 15 ∷ []
  -- the same as `anchor` with ceiling 7: the columns' 5 bytes and the anchor's 2 do not exceed it, the left piece's hash does, and bits 0, 64
  -- replaces the anchor's row
  pub at-ceiling : demonstration (up_to 7) x64 64 y66 66
      ≡ asks opening ∷ answers (0x00 ∷ 0x40 ∷ [])
      ∷ asks (0x04 ∷ 0x00 ∷ 0x40 ∷ 0x02 ∷ []) ∷ answers (0x04 ∷ 0x0c ∷ 0x0a ∷ 0xcc ∷ 0x01 ∷ [])
      ∷ asks (0x03 ∷ 0x1c ∷ 0x08 ∷ []) ∷ answers (0x03 ∷ 0xa2 ∷ [])
      ∷ asks (0x01 ∷ 0x00 ∷ 0x1c ∷ []) ∷ answers (0x01 ∷ 0x30 ∷ [])
      ∷ asks (0x03 ∷ 0x00 ∷ 0x40 ∷ []) ∷ answers (0x03 ∷ 0x33 ∷ 0x38 ∷ 0x85 ∷ 0xfa ∷ 0x2f ∷ 0xea ∷ 0x99 ∷ 0xa9 ∷ [])
      ∷ row 0 64 5 ∷ rebuilt (range x64 0 64) 4 18 ∷ []
  -- ceiling 6: the anchor's 2 bytes exceed it
  pub past-ceiling : demonstration (up_to 6) x64 64 y66 66
      ≡ asks opening ∷ answers (0x00 ∷ 0x40 ∷ [])
      ∷ asks (0x04 ∷ 0x00 ∷ 0x40 ∷ 0x02 ∷ []) ∷ answers (0x04 ∷ 0x0c ∷ 0x0a ∷ 0xcc ∷ 0x01 ∷ [])
      ∷ asks (0x03 ∷ 0x1c ∷ 0x08 ∷ []) ∷ answers (0x03 ∷ 0xa2 ∷ [])
      ∷ asks (0x03 ∷ 0x00 ∷ 0x40 ∷ []) ∷ answers (0x03 ∷ 0x33 ∷ 0x38 ∷ 0x85 ∷ 0xfa ∷ 0x2f ∷ 0xea ∷ 0x99 ∷ 0xa9 ∷ [])
      ∷ row 0 64 5 ∷ rebuilt (range x64 0 64) 3 16 ∷ []
  -- 01's own start
  pub started : rebuilder_start (up_to 100) (0xa0 ∷ []) 3 8 ≡ starts (fresh_rebuilder (up_to 100) 3) opening
  -- and its calls from there on. The opening sent twice and a message that ends inside its hash are turned down and change nothing;
  -- byte 07 behind the string and the unused row keep what they had
  pub all-calls : world_after example_lent (first_world example_lent) example_calls
      ≡ record {
        holder = record { opened = true; bits = 4; h = 8; key = 1; answers = 2 };
        rebuilder = record { settings = up_to 100; ybits = 3; phase = AtPieces; n = 4; answered = 2; counted = 4; rows = 1; stage = Hashing; waiting = 0; pieces = replicate 32 no_piece };
        string = 0xb0 ∷ 0x07 ∷ [];
        sheet = record { start = 0; len = 4; how = 2 } ∷ nines ∷ [];
        waiting = [];
        earlier = opening ∷ (0x02 ∷ 0x00 ∷ 0x04 ∷ []) ∷ [];
        heard = opening ∷ (0x02 ∷ 0x00 ∷ 0x04 ∷ []) ∷ [];
        taken = (0x00 ∷ 0x04 ∷ []) ∷ (0x02 ∷ 0x03 ∷ 0xab ∷ 0x01 ∷ []) ∷ [];
      }

pub demo : Demo
unfolding bit_at range flipped set_bit write_bits pack cleared same_bits none_set string_rule syndrome insertions deletions with_syndrome put_in take_out repair_to columns syndromes repair_run xor_left xor_right xorshift hash_from hash groups number next_byte number_at two_at three_at all_numbers numbers_at kind_at question_bytes opening_at range_question burst_range_at fields_at answer_bytes size_at hash_at syndrome_at bits_at within_columns burst_at answer_fields read_answer within_limits isqrt place hash_of later_stage is_burst effect first_stage top popped pushed restaged retried split_at planned holder_sound is_blank blank_from piece_fits in_order rows_of_waiting asks_left stage_fits top_fits stack_sound opening_sound pieces_sound whole_sound sound same_bit_count sends holder_call rebuilder_start tallied effect_step opening_step whole_step step_of rebuilder_call
demo = record { example = refl; house = refl; empty = refl; no-take-out = refl; collision = refl; burst-lost = refl; burst-gained = refl; anchor = refl; three-anchors = refl; at-ceiling = refl; past-ceiling = refl; started = refl; all-calls = refl }
