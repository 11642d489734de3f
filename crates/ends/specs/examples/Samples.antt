-- Thresholds of the protocol's definitions (just below, at, just above), with 01's words: each field is an equation over a list of such cases.
use Rattle.std.specs.Prelude.{◌≡◌, refl, Bool, true, false, List, [], ◌∷◌, ◌++◌, map, ℕ, take, set, replicate}
use Rattle.std.proofs.Math.Option.{Option, none, some}
use Rattle.strings.specs.Results.{Result, refusal, value}
use Rattle.strings.specs.Bits.{bit_at, range, flipped, set_bit, write_bits, pack, cleared, same_bits}
use Rattle.strings.specs.StringRule.{none_set, string_rule}
use Rattle.codes.specs.Syndrome.{syndrome}
use Rattle.codes.specs.Repair.{insertions, with_syndrome, put_in}
use Rattle.codes.specs.Columns.{columns, syndromes}
use Rattle.codes.specs.Hash.{xor_left, xor_right, xorshift, hash_from, hash}
use Rattle.messages.specs.Numbers.{groups, number, next_byte, number_at, two_at, three_at, all_numbers, numbers_at}
use Rattle.messages.specs.declared.Question.TheVariants.{AskBits}
use Rattle.messages.specs.Kinds.{kind_at}
use Rattle.messages.specs.Questions.{opening_at, range_question, burst_range_at, fields_at}
use Rattle.messages.specs.Answers.{hash_answer, syndrome_answer, bits_answer, answer_bytes, size_at, syndrome_at, bits_at, within_columns, burst_at, answer_fields, read_answer}
use Rattle.strings.specs.declared.settings.Settings.{Settings}
use Rattle.ends.specs.declared.How.TheVariants.{ByBits}
use Rattle.ends.specs.declared.Row.{Row}
use Rattle.ends.specs.declared.Holder.{Holder}
use Rattle.ends.specs.declared.Rebuilder.{Rebuilder}
use Rattle.ends.specs.declared.SheetChange.TheVariants.{AddRow, OneRow}
use Rattle.strings.specs.SettingLimits.{house_settings, within_limits}
use Rattle.ends.specs.Anchors.{isqrt, place}
use Rattle.ends.specs.Segments.{dropped, waiting, settled, hash_of, later_stage, is_burst, first_stage, begin, effect, offset}
use Rattle.ends.specs.Runs.{size_of, working, whole, judge, blank}
use Rattle.ends.specs.States.{no_piece, top, popped, restaged, retried, planned}
use Rattle.ends.specs.Soundness.{holder_sound, is_blank, blank_from, piece_fits, in_order, rows_of_waiting, asks_left, stage_fits, stack_sound, top_fits, opening_sound, pieces_sound, whole_sound, sound}
use Rattle.ends.specs.HolderCall.{replies, fresh_holder, same_bit_count, sends, holder_call}
use Rattle.ends.specs.RebuilderCall.{rebuilder_start, Capacities, clears, writes, string_after, sheet_after, tallied, effect_step, step_of, rebuilder_call, fresh_rebuilder}
use Rattle.ends.specs.declared.Stage.{Stage}
use Rattle.ends.specs.declared.Stage.TheVariants.{Anchor, AllBits, Hashing, PuttingIn, TakingOut, Columns}
use Rattle.ends.specs.declared.Attempt.TheVariants.{First, Second, Third}
use Rattle.ends.specs.declared.Phase.{Phase}
use Rattle.ends.specs.declared.Phase.TheVariants.{AtOpening, AtPieces, AtWhole}

abbrev settings : (m h k key ceiling : ℕ) → Settings
settings m h k key ceiling = record { m = m; h = h; k = k; key = key; ceiling = ceiling }

abbrev eight : Settings
eight = settings 8 8 1 1 100

-- ---- an anchor of 8 bits, at offset s of a piece of 64
abbrev anchor : List Bool
anchor = true ∷ false ∷ true ∷ false ∷ true ∷ false ∷ true ∷ false ∷ []

-- where it is placed in q bits that have it at r, and zeros elsewhere
abbrev found : (k s q r : ℕ) → Option ℕ
found k s q r = place 8 k 64 s (take q (blank r ++ (anchor ++ blank q))) anchor

-- where it is placed if it stands both at r and at r + 2
abbrev found_of_two : (k s q r : ℕ) → Option ℕ
found_of_two k s q r = place 8 k 64 s (take q (blank r ++ (true ∷ false ∷ (anchor ++ blank q)))) anchor

-- ---- states and lent capacities
abbrev holder : (opened : Bool) (bits h key answers : ℕ) → Holder
holder o b h k a = record { opened = o; bits = b; h = h; key = k; answers = a }

-- one piece of 4 bits of X and 3 of Y in the stack
abbrev state : Phase → (n answered counted rows : ℕ) → Stage → (waiting : ℕ) → Rebuilder
state ph n a c r t w =
    record { settings = eight; ybits = 3; phase = ph; n = n; answered = a; counted = c; rows = r; stage = t; waiting = w; pieces = set (replicate 32 no_piece) 0 (record { x = 0; p = 4; y = 0; q = 3 }) }

-- it waits at a stage, after the opening's answer
abbrev sample_at_stage : Stage → Rebuilder
sample_at_stage t = state AtPieces 4 1 0 0 t 1

-- a piece of 5 bits of X and 3 of Y, asked for in columns
abbrev at_columns : Rebuilder
at_columns =
    record { settings = eight; ybits = 3; phase = AtPieces; n = 5; answered = 1; counted = 0; rows = 0; stage = Columns; waiting = 1; pieces = set (replicate 32 no_piece) 0 (record { x = 0; p = 5; y = 0; q = 3 }) }

abbrev finished : Rebuilder
finished = popped (state AtPieces 4 2 4 1 Hashing 1)

-- the offsets of the anchors that step 4 tries in a piece of p bits
abbrev offsets : Settings → ℕ → Stage → List ℕ
offsets S p Hashing = []
offsets S p PuttingIn = []
offsets S p TakingOut = []
offsets S p Columns = []
offsets S p (Anchor i) = offset S.m p First ∷ offset S.m p Second ∷ offset S.m p Third ∷ []
offsets S p AllBits = []

abbrev tried : Settings → (q p : ℕ) → List ℕ
tried S q p = offsets S p (later_stage S p q)

abbrev capacities : (string sheet question : ℕ) → Capacities
capacities s sh q = record { string = s; sheet = sh; question = q }

abbrev row : (start len how : ℕ) → Row
row s l w = record { start = s; len = l; how = w }

-- ---- the number with which a call is turned down; 0 for one that is taken
abbrev number_of : {A : Type 0} → Result A → ℕ
number_of (refusal number) = number
number_of (value a) = 0

-- the start on Y with a question buffer of 8 bytes; the holder's call for X 1011; the rebuilder's call for Y 101
abbrev start_refusal : (y : List ℕ) (bits : ℕ) → ℕ
start_refusal y bits = number_of (rebuilder_start eight y bits 8)

abbrev holder_refusal : Holder → (capacity : ℕ) → (message : List ℕ) → ℕ
holder_refusal H capacity m = number_of (holder_call H (0xb0 ∷ []) 4 m capacity)

abbrev rebuilder_refusal : Rebuilder → Capacities → (message : List ℕ) → ℕ
rebuilder_refusal st r m = number_of (rebuilder_call st (0xa0 ∷ []) 3 m r)

pub record Samples : Type 0 where
  -- Settings: m 8 to 64, h 8 to 32, k 1 to 8, key 1 to 2^32 - 1, ceiling 0 to 16,384
  pub limit-m : map (λ (m : ℕ). within_limits (settings m 8 1 1 100)) (7 ∷ 8 ∷ 64 ∷ 65 ∷ []) ≡ false ∷ true ∷ true ∷ false ∷ []
  pub limit-h : map (λ (h : ℕ). within_limits (settings 8 h 1 1 100)) (7 ∷ 8 ∷ 32 ∷ 33 ∷ []) ≡ false ∷ true ∷ true ∷ false ∷ []
  pub limit-k : map (λ (k : ℕ). within_limits (settings 8 8 k 1 100)) (0 ∷ 1 ∷ 8 ∷ 9 ∷ []) ≡ false ∷ true ∷ true ∷ false ∷ []
  pub limit-key : map (λ (key : ℕ). within_limits (settings 8 8 1 key 100)) (0 ∷ 1 ∷ 4294967295 ∷ 4294967296 ∷ []) ≡ false ∷ true ∷ true ∷ false ∷ []
  pub limit-ceiling : map (λ (ceiling : ℕ). within_limits (settings 8 8 1 1 ceiling)) (0 ∷ 16384 ∷ 16385 ∷ []) ≡ true ∷ true ∷ false ∷ []
  -- the house settings: 16, 16, 2, 1, 4,096
  pub house : house_settings ≡ settings 16 16 2 1 4096
  -- floor(sqrt(q)), on both sides of a square
  pub roots : map isqrt (0 ∷ 1 ∷ 2 ∷ 3 ∷ 4 ∷ 8 ∷ 9 ∷ 63 ∷ 64 ∷ 65 ∷ 66 ∷ 80 ∷ 81 ∷ []) ≡ 0 ∷ 1 ∷ 1 ∷ 1 ∷ 2 ∷ 2 ∷ 3 ∷ 7 ∷ 8 ∷ 8 ∷ 8 ∷ 8 ∷ 9 ∷ []
  -- with q 66, k 1: r 21 to 37
  pub window : map (found 1 28 66) (20 ∷ 21 ∷ 37 ∷ 38 ∷ []) ≡ none ∷ some 21 ∷ some 37 ∷ none ∷ []
  -- matches at 28 and 30 give 28; of 27 and 29, as of 29 and 31, the smaller distance wins
  pub tie : map (found_of_two 1 28 66) (28 ∷ 27 ∷ 29 ∷ []) ≡ some 28 ∷ some 29 ∷ some 29 ∷ []
  -- q - p odd: |2r - 59| and |2r - 57| at most 16. Halving q - p first would let in 21 and 20, and make 28 and 30 a tie
  pub window-67 : map (found 1 28 67) (21 ∷ 22 ∷ 37 ∷ 38 ∷ []) ≡ none ∷ some 22 ∷ some 37 ∷ none ∷ []
  pub window-65 : map (found 1 28 65) (20 ∷ 21 ∷ 36 ∷ 37 ∷ []) ≡ none ∷ some 21 ∷ some 36 ∷ none ∷ []
  pub tie-67 : found_of_two 1 28 67 28 ≡ some 30
  -- q below p, where the root is 7: |2r - 55| at most 14; k 2: |2r - 58| at most 32
  pub window-63 : map (found 1 28 63) (20 ∷ 21 ∷ 34 ∷ 35 ∷ []) ≡ none ∷ some 21 ∷ some 34 ∷ none ∷ []
  pub window-k-2 : map (found 2 28 66) (12 ∷ 13 ∷ 45 ∷ 46 ∷ []) ≡ none ∷ some 13 ∷ some 45 ∷ none ∷ []
  -- r 0 to q - m: none for q 7, one for q 8; the last one for q 9 and q 66
  pub last-place : found 1 28 7 0 ∷ found 1 28 8 0 ∷ found 1 28 9 1 ∷ found 1 56 66 58 ∷ [] ≡ none ∷ some 0 ∷ some 1 ∷ some 58 ∷ []
  -- 2s + q - p below 0, here -8: r 0 is 8 away, which 2·4 admits, r 1 is 10 away
  pub below-0 : map (found 1 20 16) (0 ∷ 1 ∷ []) ≡ some 0 ∷ none ∷ []
  -- Step 4, p < 4(m + h): m = h = 8, p 63 goes as bits, p 64 gets anchors at 28, 36, 20; floor((p - m)/2)
  pub small-p : map (tried eight 66) (63 ∷ 64 ∷ 65 ∷ 66 ∷ []) ≡ [] ∷ (28 ∷ 36 ∷ 20 ∷ []) ∷ (28 ∷ 36 ∷ 20 ∷ []) ∷ (29 ∷ 37 ∷ 21 ∷ []) ∷ []
  pub small-m-16 : map (tried (settings 16 8 1 1 100) 99) (95 ∷ 96 ∷ []) ≡ [] ∷ (40 ∷ 56 ∷ 24 ∷ []) ∷ []
  pub small-h-16 : map (tried (settings 8 16 1 1 100) 99) (95 ∷ 96 ∷ []) ≡ [] ∷ (44 ∷ 52 ∷ 36 ∷ []) ∷ []
  pub small-most : map (tried (settings 64 32 1 1 100) 390) (383 ∷ 384 ∷ []) ≡ [] ∷ (160 ∷ 224 ∷ 96 ∷ []) ∷ []
  -- or q < m
  pub small-q : map (later_stage eight 64) (7 ∷ 8 ∷ []) ≡ AllBits ∷ Anchor First ∷ []
  -- Steps 2 to 4: q = p, q = p - 1 or p + 1, otherwise
  pub first-10 : map (first_stage eight 10) (8 ∷ 9 ∷ 10 ∷ 11 ∷ 12 ∷ []) ≡ Columns ∷ PuttingIn ∷ Hashing ∷ TakingOut ∷ Columns ∷ []
  pub first-100 : map (first_stage eight 100) (98 ∷ 99 ∷ 100 ∷ 101 ∷ 102 ∷ []) ≡ Columns ∷ PuttingIn ∷ Hashing ∷ TakingOut ∷ Columns ∷ []
  pub first-1 : map (first_stage eight 1) (0 ∷ 1 ∷ 2 ∷ 3 ∷ []) ≡ PuttingIn ∷ Hashing ∷ TakingOut ∷ Columns ∷ []
  pub first-2 : map (first_stage eight 2) (0 ∷ 1 ∷ []) ≡ Columns ∷ PuttingIn ∷ []
  -- 02, CR 1: lengths that differ by 2 to 32, before step 4
  pub first-40 : map (first_stage eight 40) (7 ∷ 8 ∷ 38 ∷ 42 ∷ 72 ∷ 73 ∷ []) ≡ AllBits ∷ Columns ∷ Columns ∷ Columns ∷ Columns ∷ AllBits ∷ []
  -- Step 1: p = 0 is dropped, whatever q is
  pub empty-piece : begin eight 0 [] ∷ begin eight 0 (true ∷ []) ∷ begin eight 1 (true ∷ []) ∷ [] ≡ dropped [] ∷ dropped (true ∷ []) ∷ waiting 1 (true ∷ []) Hashing ∷ []
  -- an answer's bytes join a count
  pub answer-bytes : map size_of (hash_answer 127 ∷ hash_answer 128 ∷ syndrome_answer 3 0xab ∷ bits_answer (blank 8) ∷ bits_answer (blank 9) ∷ []) ≡ 2 ∷ 3 ∷ 4 ∷ 2 ∷ 3 ∷ []
  -- if this exceeds the ceiling, here 5, and pieces wait (p = 0 does not count), the next question is bits 0, n
  pub ceiling : map (λ (c : ℕ). judge (settings 8 8 1 1 5) 4 c (waiting 4 [] AllBits ∷ []) []) (5 ∷ 6 ∷ []) ≡ working 4 5 (waiting 4 [] AllBits ∷ []) [] ∷ whole 4 6 (waiting 4 [] AllBits ∷ []) [] ∷ []
  pub ceiling-settled : judge (settings 8 8 1 1 5) 4 6 (dropped [] ∷ settled ByBits [] (blank 4) ∷ []) [] ≡ working 4 6 (dropped [] ∷ settled ByBits [] (blank 4) ∷ []) []
  -- the same by a state's phase, ceiling 100
  pub ceiling-phase : (tallied (sample_at_stage PuttingIn) 100 0).phase ∷ (tallied (sample_at_stage PuttingIn) 101 0).phase ∷ (tallied (popped (sample_at_stage PuttingIn)) 101 0).phase ∷ [] ≡ AtPieces ∷ AtWhole ∷ AtPieces ∷ []
  -- the string buffer needs ceil(n/8) bytes, zeroed; later bytes keep what they had
  pub zeroed : map (λ (n : ℕ). string_after (0xff ∷ 0xff ∷ []) (clears n)) (0 ∷ 8 ∷ 9 ∷ []) ≡ (0xff ∷ 0xff ∷ []) ∷ (0x00 ∷ 0xff ∷ []) ∷ (0x00 ∷ 0x00 ∷ []) ∷ []
  pub written : string_after (0x00 ∷ 0x00 ∷ 0xff ∷ []) (writes 6 (true ∷ true ∷ true ∷ [])) ≡ 0x03 ∷ 0x80 ∷ 0xff ∷ []
  -- rows follow in order of settling; a whole-string answer leaves one row and sets the used ones behind it to zeros
  pub sheet-add : sheet_after (replicate 3 (row 9 9 9)) (AddRow 1 (row 0 4 5)) ≡ row 9 9 9 ∷ row 0 4 5 ∷ row 9 9 9 ∷ []
  pub sheet-one : map (λ (used : ℕ). sheet_after (replicate 3 (row 9 9 9)) (OneRow used (row 0 4 5))) (0 ∷ 2 ∷ []) ≡ (row 0 4 5 ∷ row 9 9 9 ∷ row 9 9 9 ∷ []) ∷ (row 0 4 5 ∷ row 0 0 0 ∷ row 9 9 9 ∷ []) ∷ []
  -- Refusals of the start, in their order: 1, 2, 9; the question buffer needs 8 bytes
  pub start-order : map number_of (rebuilder_start (settings 7 8 1 1 100) (0xb0 ∷ []) 3 0 ∷ rebuilder_start eight (0xb0 ∷ []) 3 0 ∷ rebuilder_start eight (0xa0 ∷ []) 3 7 ∷ rebuilder_start eight (0xa0 ∷ []) 3 8 ∷ []) ≡ 1 ∷ 2 ∷ 9 ∷ 0 ∷ []
  -- a string has 0 to 65,536 bits in exactly ceil(bits/8) bytes, spare bits zero
  pub string_bytes : start_refusal [] 0 ∷ start_refusal (0x00 ∷ []) 0 ∷ start_refusal (0xff ∷ []) 8 ∷ start_refusal (0xff ∷ []) 9 ∷ [] ≡ 0 ∷ 2 ∷ 0 ∷ 2 ∷ []
  pub string-spare : start_refusal (0xff ∷ 0x80 ∷ []) 9 ∷ start_refusal (0xff ∷ 0x40 ∷ []) 9 ∷ [] ≡ 0 ∷ 2 ∷ []
  pub string-most : start_refusal (replicate 8192 0) 65536 ∷ start_refusal (replicate 8193 0) 65537 ∷ [] ≡ 0 ∷ 2 ∷ []
  -- Refusals of the holder's call: 2 before 3: the string rule, and the bit count of the opening
  pub holder-string : number_of (holder_call (holder true 4 8 1 0) (0xb8 ∷ []) 4 [] 0) ∷ holder_refusal (holder true 5 8 1 1) 0 [] ∷ [] ≡ 2 ∷ 2 ∷ []
  -- 3 before the message, here empty: an unsound state; at most 1,000,000 answers
  pub holder-state : map (λ (H : Holder). holder_refusal H 9 []) (holder true 4 8 1 0 ∷ holder false 0 0 0 1 ∷ holder true 4 7 1 1 ∷ holder true 4 33 1 1 ∷ holder true 4 8 0 1 ∷ holder true 4 8 1 1 ∷ []) ≡ 3 ∷ 3 ∷ 3 ∷ 3 ∷ 3 ∷ 4 ∷ []
  pub holder-answers : map (λ (answers : ℕ). holder_refusal (holder true 4 8 1 answers) 9 []) (0 ∷ 1 ∷ 999999 ∷ 1000000 ∷ 1000001 ∷ []) ≡ 3 ∷ 4 ∷ 4 ∷ 3 ∷ 3 ∷ []
  pub last-answer : holder_call (holder true 4 8 1 999999) (0xb0 ∷ []) 4 (0x01 ∷ 0x00 ∷ 0x04 ∷ []) 3 ≡ replies (holder true 4 8 1 1000000) (0x01 ∷ 0xab ∷ 0x01 ∷ [])
  -- the kind: 4, 5, 6 as met; then 3 for a known kind out of turn, before its fields
  pub kind-unopened : map (holder_refusal fresh_holder 9) ([] ∷ (0x80 ∷ []) ∷ (0x80 ∷ 0x00 ∷ []) ∷ (0x05 ∷ []) ∷ (0x01 ∷ []) ∷ (0x02 ∷ []) ∷ (0x03 ∷ []) ∷ (0x04 ∷ []) ∷ []) ≡ 4 ∷ 4 ∷ 5 ∷ 6 ∷ 3 ∷ 3 ∷ 3 ∷ 3 ∷ []
  pub kind-opened : map (holder_refusal (holder true 4 8 1 1) 9) ((0x05 ∷ []) ∷ (0x00 ∷ []) ∷ []) ≡ 6 ∷ 3 ∷ []
  -- the fields: 4 and 5 as met; then 7, 8, 9: a reply needs its own length
  pub fields : map (holder_refusal (holder true 4 8 1 1) 9) ((0x01 ∷ 0x00 ∷ []) ∷ (0x01 ∷ 0x80 ∷ 0x00 ∷ []) ∷ (0x01 ∷ 0xff ∷ 0xff ∷ 0xff ∷ 0xff ∷ 0x10 ∷ []) ∷ (0x01 ∷ 0xff ∷ 0xff ∷ 0xff ∷ 0xff ∷ 0x0f ∷ 0x01 ∷ []) ∷ (0x01 ∷ 0x00 ∷ 0x05 ∷ 0x00 ∷ []) ∷ []) ≡ 4 ∷ 5 ∷ 5 ∷ 8 ∷ 7 ∷ []
  pub reply-short : holder_refusal (holder true 4 8 1 1) 0 (0x01 ∷ 0x00 ∷ 0x05 ∷ []) ∷ holder_refusal (holder true 4 8 1 1) 2 (0x01 ∷ 0x00 ∷ 0x04 ∷ []) ∷ holder_refusal (holder true 4 8 1 1) 3 (0x01 ∷ 0x00 ∷ 0x04 ∷ []) ∷ [] ≡ 8 ∷ 9 ∷ 0 ∷ []
  -- a range has length 1 or more and ends by n, here 4
  pub ranges : map (holder_refusal (holder true 4 8 1 1) 9) ((0x01 ∷ 0x00 ∷ 0x00 ∷ []) ∷ (0x01 ∷ 0x00 ∷ 0x01 ∷ []) ∷ (0x01 ∷ 0x00 ∷ 0x04 ∷ []) ∷ (0x01 ∷ 0x00 ∷ 0x05 ∷ []) ∷ (0x01 ∷ 0x03 ∷ 0x01 ∷ []) ∷ (0x01 ∷ 0x04 ∷ 0x01 ∷ []) ∷ (0x02 ∷ 0x03 ∷ 0x02 ∷ []) ∷ (0x03 ∷ 0x03 ∷ 0x02 ∷ []) ∷ []) ≡ 8 ∷ 0 ∷ 0 ∷ 8 ∷ 0 ∷ 8 ∷ 8 ∷ 8 ∷ []
  -- B is 2 to 32, else 10, after 7 and before 8
  pub bursts : map (λ (b : ℕ). holder_refusal (holder true 4 8 1 1) 40 (0x04 ∷ 0x00 ∷ 0x04 ∷ b ∷ [])) (0 ∷ 1 ∷ 2 ∷ 32 ∷ 33 ∷ []) ≡ 10 ∷ 10 ∷ 0 ∷ 0 ∷ 10 ∷ []
  pub burst-order : map (holder_refusal (holder true 4 8 1 1) 9) ((0x04 ∷ 0x00 ∷ 0x05 ∷ []) ∷ (0x04 ∷ 0x00 ∷ 0x05 ∷ 0x01 ∷ 0x00 ∷ []) ∷ (0x04 ∷ 0x00 ∷ 0x05 ∷ 0x01 ∷ []) ∷ (0x04 ∷ 0x00 ∷ 0x05 ∷ 0x02 ∷ []) ∷ (0x04 ∷ 0x00 ∷ 0x04 ∷ 0x20 ∷ []) ∷ []) ≡ 4 ∷ 7 ∷ 10 ∷ 8 ∷ 9 ∷ []
  -- an opening: version 1, h and key in the settings' limits; 7 before 8; its reply has 2 bytes
  pub opening-version : map (λ (version : ℕ). holder_refusal fresh_holder 9 (0x00 ∷ version ∷ 0x08 ∷ 0x01 ∷ [])) (0 ∷ 1 ∷ 2 ∷ []) ≡ 8 ∷ 0 ∷ 8 ∷ []
  pub opening-h : map (λ (h : ℕ). holder_refusal fresh_holder 9 (0x00 ∷ 0x01 ∷ h ∷ 0x01 ∷ [])) (7 ∷ 8 ∷ 32 ∷ 33 ∷ []) ≡ 8 ∷ 0 ∷ 0 ∷ 8 ∷ []
  pub opening-key : map (λ (key : List ℕ). holder_refusal fresh_holder 9 (0x00 ∷ 0x01 ∷ 0x08 ∷ key)) ((0x00 ∷ []) ∷ (0x01 ∷ []) ∷ (0xff ∷ 0xff ∷ 0xff ∷ 0xff ∷ 0x0f ∷ []) ∷ (0xff ∷ 0xff ∷ 0xff ∷ 0xff ∷ 0x10 ∷ []) ∷ []) ≡ 8 ∷ 0 ∷ 0 ∷ 5 ∷ []
  pub opening-short : holder_refusal fresh_holder 9 (0x00 ∷ 0x02 ∷ 0x08 ∷ 0x01 ∷ 0x00 ∷ []) ∷ map (λ (capacity : ℕ). holder_refusal fresh_holder capacity (0x00 ∷ 0x01 ∷ 0x08 ∷ 0x01 ∷ [])) (1 ∷ 2 ∷ []) ≡ 7 ∷ 9 ∷ 0 ∷ []
  -- Refusals of the rebuilder's call: 2 before 3; 3 before the message: finished, or unsound
  pub call-string : map number_of (rebuilder_call finished (0xb0 ∷ []) 3 [] (capacities 0 0 0) ∷ rebuilder_call finished (0xa0 ∷ []) 4 [] (capacities 0 0 0) ∷ []) ≡ 2 ∷ 2 ∷ []
  pub call-state : map (λ (st : Rebuilder). rebuilder_refusal st (capacities 0 0 0) []) (finished ∷ sample_at_stage PuttingIn ∷ sample_at_stage (Anchor First) ∷ sample_at_stage Hashing ∷ []) ≡ 3 ∷ 4 ∷ 3 ∷ 3 ∷ []
  -- 4, 5, 6 as met, 6 for another kind than the one awaited; then 7, 8, 9
  pub call-order : map (rebuilder_refusal (fresh_rebuilder eight 3) (capacities 0 0 0)) ([] ∷ (0x01 ∷ []) ∷ (0x04 ∷ []) ∷ (0x00 ∷ []) ∷ (0x00 ∷ 0x80 ∷ []) ∷ (0x00 ∷ 0x80 ∷ 0x00 ∷ []) ∷ (0x00 ∷ 0x81 ∷ 0x80 ∷ 0x04 ∷ 0x00 ∷ []) ∷ (0x00 ∷ 0x81 ∷ 0x80 ∷ 0x04 ∷ []) ∷ (0x00 ∷ 0x04 ∷ []) ∷ []) ≡ 4 ∷ 6 ∷ 6 ∷ 4 ∷ 4 ∷ 5 ∷ 7 ∷ 8 ∷ 9 ∷ []
  -- n up to 65,536; ceil(n/8) bytes, 2·floor(n/m) + 1 rows, and 8 bytes for the question, even the last
  pub capacities-most : map (rebuilder_refusal (fresh_rebuilder eight 3) (capacities 8192 16385 8)) ((0x00 ∷ 0x80 ∷ 0x80 ∷ 0x04 ∷ []) ∷ (0x00 ∷ 0x81 ∷ 0x80 ∷ 0x04 ∷ []) ∷ []) ≡ 0 ∷ 8 ∷ []
  pub capacities-0 : map (λ (r : Capacities). rebuilder_refusal (fresh_rebuilder eight 3) r (0x00 ∷ 0x00 ∷ [])) (capacities 0 0 8 ∷ capacities 0 1 8 ∷ []) ≡ 9 ∷ 0 ∷ []
  pub capacities-7 : map (λ (r : Capacities). rebuilder_refusal (fresh_rebuilder eight 3) r (0x00 ∷ 0x07 ∷ [])) (capacities 0 1 8 ∷ capacities 1 1 8 ∷ []) ≡ 9 ∷ 0 ∷ []
  pub capacities-8 : map (λ (r : Capacities). rebuilder_refusal (fresh_rebuilder eight 3) r (0x00 ∷ 0x08 ∷ [])) (capacities 0 3 8 ∷ capacities 1 2 8 ∷ capacities 1 3 7 ∷ capacities 1 3 8 ∷ []) ≡ 9 ∷ 9 ∷ 9 ∷ 0 ∷ []
  pub capacities-9 : map (λ (r : Capacities). rebuilder_refusal (fresh_rebuilder eight 3) r (0x00 ∷ 0x09 ∷ [])) (capacities 1 3 8 ∷ capacities 2 3 8 ∷ []) ≡ 9 ∷ 0 ∷ []
  pub capacities-last : map (λ (question : ℕ). rebuilder_refusal (sample_at_stage PuttingIn) (capacities 1 1 question) (0x02 ∷ 0x03 ∷ 0xab ∷ 0x01 ∷ [])) (7 ∷ 8 ∷ []) ≡ 9 ∷ 0 ∷ []
  -- a syndrome up to the length, here 4; a hash below 2^h, here 256; then an answer cut short, one with a byte behind it, one of another kind
  pub syndrome-answers : map (rebuilder_refusal (sample_at_stage PuttingIn) (capacities 1 1 8)) ((0x02 ∷ 0x04 ∷ 0x00 ∷ []) ∷ (0x02 ∷ 0x05 ∷ 0x00 ∷ []) ∷ (0x02 ∷ 0x00 ∷ 0xff ∷ 0x01 ∷ []) ∷ (0x02 ∷ 0x00 ∷ 0x80 ∷ 0x02 ∷ []) ∷ (0x02 ∷ 0x03 ∷ []) ∷ (0x02 ∷ 0x03 ∷ 0xab ∷ 0x01 ∷ 0x00 ∷ []) ∷ (0x01 ∷ 0x03 ∷ []) ∷ []) ≡ 0 ∷ 8 ∷ 0 ∷ 8 ∷ 4 ∷ 7 ∷ 6 ∷ []
  -- a syndrome of each column up to its length, here 3 and 2, and a hash below 2^h; then 4 and 7
  pub burst-answers : map (rebuilder_refusal at_columns (capacities 1 1 8)) ((0x04 ∷ 0x03 ∷ 0x02 ∷ 0x00 ∷ []) ∷ (0x04 ∷ 0x04 ∷ 0x02 ∷ 0x00 ∷ []) ∷ (0x04 ∷ 0x03 ∷ 0x03 ∷ 0x00 ∷ []) ∷ (0x04 ∷ 0x03 ∷ 0x02 ∷ 0xff ∷ 0x01 ∷ []) ∷ (0x04 ∷ 0x03 ∷ 0x02 ∷ 0x80 ∷ 0x02 ∷ []) ∷ (0x04 ∷ 0x03 ∷ 0x02 ∷ []) ∷ (0x04 ∷ 0x03 ∷ 0x02 ∷ 0x00 ∷ 0x00 ∷ []) ∷ []) ≡ 0 ∷ 8 ∷ 8 ∷ 0 ∷ 8 ∷ 4 ∷ 7 ∷ []
  -- bits packed as a string: here 4 in 1 byte, spare bits zero
  pub bits-answers : map (rebuilder_refusal (sample_at_stage AllBits) (capacities 1 1 8)) ((0x03 ∷ []) ∷ (0x03 ∷ 0xb0 ∷ []) ∷ (0x03 ∷ 0xb8 ∷ []) ∷ (0x03 ∷ 0xb8 ∷ 0x00 ∷ []) ∷ []) ≡ 4 ∷ 0 ∷ 8 ∷ 7 ∷ []
  -- a trial is left in the string only if its hash agrees; else the whole piece is asked for
  pub trial : map (λ (v : ℕ). string_after (0x00 ∷ []) (step_of (sample_at_stage PuttingIn) (0xa0 ∷ []) 4 (syndrome_answer 3 v)).string) (0xab ∷ 0xaa ∷ []) ≡ (0xb0 ∷ []) ∷ (0x00 ∷ []) ∷ []
  pub trial-next : map (λ (v : ℕ). planned (step_of (sample_at_stage PuttingIn) (0xa0 ∷ []) 4 (syndrome_answer 3 v)).state) (0xab ∷ 0xaa ∷ []) ≡ none ∷ some (AskBits 0 4) ∷ []
  -- the state is unsound: a field, waiting piece or count beyond what a run can hold; here `sample_at_stage PuttingIn` with one of them at or past its edge
  pub sound-phase : map (λ (phase : Phase). sound (state phase 4 1 0 0 PuttingIn 1)) (AtOpening ∷ AtPieces ∷ AtWhole ∷ []) ≡ false ∷ true ∷ false ∷ []
  pub sound-n : map (λ (n : ℕ). sound (state AtPieces n 1 0 0 PuttingIn 1)) (3 ∷ 4 ∷ []) ≡ false ∷ true ∷ []
  pub sound-answered : map (λ (answered : ℕ). sound (state AtPieces 4 answered 0 0 PuttingIn 1)) (0 ∷ 1 ∷ 2 ∷ []) ≡ false ∷ true ∷ false ∷ []
  pub sound-counted : map (λ (counted : ℕ). sound (state AtPieces 4 1 counted 0 PuttingIn 1)) (100 ∷ 101 ∷ []) ≡ true ∷ false ∷ []
  pub sound-rows : map (λ (rows : ℕ). sound (state AtPieces 4 1 0 rows PuttingIn 1)) (0 ∷ 1 ∷ []) ≡ true ∷ false ∷ []
  pub sound-stage : map (λ (stage : Stage). sound (state AtPieces 4 2 0 0 stage 1)) (Anchor First ∷ AllBits ∷ Hashing ∷ []) ≡ false ∷ true ∷ false ∷ []
  pub sound-waiting : map (λ (waiting : ℕ). sound (state AtPieces 4 1 0 0 PuttingIn waiting)) (0 ∷ 1 ∷ 2 ∷ 33 ∷ []) ≡ false ∷ true ∷ false ∷ false ∷ []
  pub sound-whole : map (λ (counted : ℕ). sound (state AtWhole 4 1 counted 0 PuttingIn 1)) (100 ∷ 101 ∷ 202 ∷ 203 ∷ []) ≡ false ∷ true ∷ true ∷ false ∷ []

pub samples : Samples
unfolding bit_at range flipped set_bit write_bits pack cleared same_bits none_set string_rule syndrome insertions with_syndrome put_in columns syndromes xor_left xor_right xorshift hash_from hash groups number next_byte number_at two_at three_at all_numbers numbers_at kind_at opening_at range_question burst_range_at fields_at answer_bytes size_at syndrome_at bits_at within_columns burst_at answer_fields read_answer within_limits isqrt place hash_of later_stage is_burst first_stage begin effect size_of judge top popped restaged retried planned holder_sound is_blank blank_from piece_fits in_order rows_of_waiting asks_left stage_fits top_fits stack_sound opening_sound pieces_sound whole_sound sound same_bit_count sends holder_call rebuilder_start tallied effect_step step_of rebuilder_call
samples = record { limit-m = refl; limit-h = refl; limit-k = refl; limit-key = refl; limit-ceiling = refl; house = refl; roots = refl; window = refl; tie = refl; window-67 = refl; window-65 = refl; tie-67 = refl; window-63 = refl; window-k-2 = refl; last-place = refl; below-0 = refl; small-p = refl; small-m-16 = refl; small-h-16 = refl; small-most = refl; small-q = refl; first-10 = refl; first-100 = refl; first-1 = refl; first-2 = refl; first-40 = refl; empty-piece = refl; answer-bytes = refl; ceiling = refl; ceiling-settled = refl; ceiling-phase = refl; zeroed = refl; written = refl; sheet-add = refl; sheet-one = refl; start-order = refl; string_bytes = refl; string-spare = refl; string-most = refl; holder-string = refl; holder-state = refl; holder-answers = refl; last-answer = refl; kind-unopened = refl; kind-opened = refl; fields = refl; reply-short = refl; ranges = refl; bursts = refl; burst-order = refl; opening-version = refl; opening-h = refl; opening-key = refl; opening-short = refl; call-string = refl; call-state = refl; call-order = refl; capacities-most = refl; capacities-0 = refl; capacities-7 = refl; capacities-8 = refl; capacities-9 = refl; capacities-last = refl; syndrome-answers = refl; burst-answers = refl; bits-answers = refl; trial = refl; trial-next = refl; sound-phase = refl; sound-n = refl; sound-answered = refl; sound-counted = refl; sound-rows = refl; sound-stage = refl; sound-waiting = refl; sound-whole = refl }
