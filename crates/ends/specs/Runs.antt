-- 01, "The rebuilder": a run, from n, Y, the settings and the answers taken.
use Rattle.std.specs.Prelude.{Bool, false, cond, ◌&&◌, List, [], ◌∷◌, ◌++◌, ℕ, zero, suc, ◌+◌, ◌/◌, max, length, ltb}
use Rattle.std.proofs.Math.Option.{Option, none, some}
use Rattle.codes.specs.Syndrome.{syndrome}
use Rattle.codes.specs.Hash.{hash}
use Rattle.codes.specs.Columns.{syndromes}
use Rattle.messages.specs.declared.Question.{Question}
use Rattle.messages.specs.declared.Question.TheVariants.{AskOpen, AskHash, AskSyndrome, AskBits, AskBurst}
use Rattle.messages.specs.Answers.{Answer, size_answer, hash_answer, syndrome_answer, bits_answer, burst_answer, answer_bytes, read_answer, longest_numbers}
use Rattle.messages.specs.Questions.{question_kind, question_length, question_burst}
use Rattle.strings.specs.Results.{Result, refusal, value}
use Rattle.strings.specs.Refusals.{refusal_number}
use Rattle.strings.specs.declared.Refusal.TheVariants.{OutOfTurn}
use Rattle.strings.specs.declared.settings.Settings.{Settings}
use Rattle.ends.specs.declared.How.TheVariants.{ByBits}
use Rattle.ends.specs.declared.Row.{Row}
use Rattle.ends.specs.Anchors.{part}
use Rattle.ends.specs.Segments.{Segment, dropped, waiting, settled, begin, ask, step, waits, row, new_rows, the_size, the_bits}

-- the holder's answer for X to a question, under an opening's h and key
abbrev pub answer : (h key : ℕ) → List Bool → Question → Answer
answer h key X (AskOpen h' key') = size_answer (length X)
answer h key X (AskHash x p) = hash_answer (hash h key (part X x p))
answer h key X (AskSyndrome x p) = syndrome_answer (syndrome (part X x p)) (hash h key (part X x p))
answer h key X (AskBits x p) = bits_answer (part X x p)
answer h key X (AskBurst x p b) = burst_answer (syndromes b (part X x p)) (hash h key (part X x p))

-- the holder's answer under the rebuilder's own opening
abbrev pub honest_answer : Settings → List Bool → Question → Answer
honest_answer S X q = answer S.h S.key X q

-- an answer's bytes, as the count takes them
unfoldable pub size_of : Answer → ℕ
size_of a = length (answer_bytes a)

-- 01's F: the bytes of the answer to bits 0, n
abbrev pub full : ℕ → ℕ
full n = 1 + (n + 7) / 8

-- the longest answer where X has n bits: numbers, or all bits
abbrev pub longest_answer : ℕ → ℕ
longest_answer n = max longest_numbers (full n)

-- before the opening's answer; with n, the counted bytes, the pieces and the rows, finished where no piece waits; the same, but bits 0, n asked for
pub data Run : Type 0 where
  opening : Run
  working : (n count : ℕ) → List Segment → List Row → Run
  whole : (n count : ℕ) → List Segment → List Row → Run

-- the question that waits; none after the finish
abbrev pub question : Settings → Run → Option Question
question S opening = some (AskOpen S.h S.key)
question S (working n c segs rows) = ask S 0 segs
question S (whole n c segs rows) = some (AskBits 0 n)

-- the ceiling: if the count exceeds it and pieces wait, the next question is bits 0, n
unfoldable pub judge : Settings → (n count : ℕ) → List Segment → List Row → Run
judge S n c segs rows = cond (ltb S.ceiling c && waits segs) (whole n c segs rows) (working n c segs rows)

-- after one answer more; the opening's is not counted, and bits 0, n replaces everything
abbrev pub advance : Settings → List Bool → Run → Answer → Run
advance S Y opening a = working (the_size a) 0 (begin S (the_size a) Y ∷ []) []
advance S Y (working n c segs rows) a = judge S n (c + size_of a) (step S a segs) (rows ++ new_rows S a 0 segs)
advance S Y (whole n c segs rows) a = working n (c + size_of a) (settled ByBits Y (the_bits a) ∷ []) (row 0 n ByBits ∷ [])

-- a message, read as the answer to the question that waits; after the finish there is none
abbrev pub answer_for : Settings → Option Question → List ℕ → Result Answer
answer_for S none m = refusal (refusal_number OutOfTurn)
answer_for S (some q) m = read_answer (question_kind q) (question_length q) (question_burst q) S.h m

-- after one message more; what is no answer makes nothing
abbrev pub continued : Settings → List Bool → Run → Result Answer → Run
continued S Y s (refusal number) = s
continued S Y s (value a) = advance S Y s a

-- the run that messages make, from the first one to the last
abbrev pub run_from : Settings → List Bool → Run → List (List ℕ) → Run
run_from S Y s [] = s
run_from S Y s (m ∷ ms) = run_from S Y (continued S Y s (answer_for S (question S s) m)) ms

abbrev pub run : Settings → List Bool → List (List ℕ) → Run
run S Y ms = run_from S Y opening ms

-- ---- what a run has
abbrev pub pieces_of : Run → List Segment
pieces_of opening = []
pieces_of (working n c segs rows) = segs
pieces_of (whole n c segs rows) = segs

abbrev pub sheet_of : Run → List Row
sheet_of opening = []
sheet_of (working n c segs rows) = rows
sheet_of (whole n c segs rows) = rows

abbrev pub count_of : Run → ℕ
count_of opening = 0
count_of (working n c segs rows) = c
count_of (whole n c segs rows) = c

-- the bits of the string: zeros for what waits
abbrev pub blank : ℕ → List Bool
blank zero = []
blank (suc n) = false ∷ blank n

abbrev pub bits_of : Segment → List Bool
bits_of (dropped ys) = []
bits_of (waiting p ys t) = blank p
bits_of (settled w ys b) = b

abbrev pub string : List Segment → List Bool
string [] = []
string (s ∷ r) = bits_of s ++ string r

-- the copies of the pieces, which are together Y
abbrev pub copy_of : Segment → List Bool
copy_of (dropped ys) = ys
copy_of (waiting p ys t) = ys
copy_of (settled w ys b) = ys

abbrev pub copies : List Segment → List Bool
copies [] = []
copies (s ∷ r) = copy_of s ++ copies r
