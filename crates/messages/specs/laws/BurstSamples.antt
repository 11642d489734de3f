-- 02, CR 1: some messages of kind 4, worked out.
use Rattle.std.specs.Prelude.{◌≡◌, refl, [], ◌∷◌}
use Rattle.strings.specs.Results.{refusal, value}
use Rattle.messages.specs.declared.Question.TheVariants.{AskBurst}
use Rattle.messages.specs.declared.Kind.TheVariants.{Burst}
use Rattle.messages.specs.Numbers.{groups, number, next_byte, number_at, two_at, three_at, all_numbers, numbers_at}
use Rattle.messages.specs.Kinds.{kind_at}
use Rattle.messages.specs.Questions.{burst_range_at, fields_at, read_question}
use Rattle.messages.specs.Answers.{burst_answer, within_columns, answer_fields, read_answer, answer_bytes, burst_syndromes}
use Rattle.messages.specs.Answers.{burst_at}

-- start 0, length 40, B 3 of n 40; 10 before 8; 7 before 10; 8
pub asked : read_question (4 ∷ 0 ∷ 40 ∷ 3 ∷ []) 40 ≡ value (AskBurst 0 40 3)
unfolding read_question kind_at fields_at burst_range_at three_at two_at number_at
asked = refl

pub ten-before-eight : read_question (4 ∷ 0 ∷ 0 ∷ 33 ∷ []) 40 ≡ refusal 10
unfolding read_question kind_at fields_at burst_range_at three_at two_at number_at
ten-before-eight = refl

pub seven-before-ten : read_question (4 ∷ 0 ∷ 0 ∷ 1 ∷ 0 ∷ []) 40 ≡ refusal 7
unfolding read_question kind_at fields_at burst_range_at three_at two_at number_at
seven-before-ten = refl

pub past_the_end : read_question (4 ∷ 1 ∷ 40 ∷ 2 ∷ []) 40 ≡ refusal 8
unfolding read_question kind_at fields_at burst_range_at three_at two_at number_at
past_the_end = refl

pub kind-five : read_question (5 ∷ 1 ∷ 40 ∷ 2 ∷ []) 40 ≡ refusal 6
unfolding read_question kind_at fields_at burst_range_at three_at two_at number_at
kind-five = refl

-- 7 bits in 3 columns have 3, 2, 2 bits
pub answered : read_answer Burst 7 3 8 (4 ∷ 3 ∷ 2 ∷ 2 ∷ 255 ∷ 1 ∷ []) ≡ value (burst_answer (3 ∷ 2 ∷ 2 ∷ []) 255)
unfolding read_answer answer_fields burst_at numbers_at number_at next_byte within_columns
answered = refl

pub syndrome-above-its-column : read_answer Burst 7 3 8 (4 ∷ 3 ∷ 3 ∷ 2 ∷ 255 ∷ 1 ∷ []) ≡ refusal 8
unfolding read_answer answer_fields burst_at numbers_at number_at next_byte within_columns
syndrome-above-its-column = refl

pub seven-before-eight : read_answer Burst 7 3 8 (4 ∷ 3 ∷ 3 ∷ 2 ∷ 128 ∷ 2 ∷ 0 ∷ []) ≡ refusal 7
unfolding read_answer answer_fields burst_at numbers_at number_at next_byte within_columns
seven-before-eight = refl

pub hash-of-nine-bits : read_answer Burst 7 3 8 (4 ∷ 3 ∷ 2 ∷ 2 ∷ 128 ∷ 2 ∷ []) ≡ refusal 8
unfolding read_answer answer_fields burst_at numbers_at number_at next_byte within_columns
hash-of-nine-bits = refl

pub no-hash : read_answer Burst 7 3 8 (4 ∷ 9 ∷ 2 ∷ 2 ∷ []) ≡ refusal 4
unfolding read_answer answer_fields burst_at numbers_at number_at next_byte within_columns
no-hash = refl

pub written : answer_bytes (burst_answer (3 ∷ 2 ∷ 200 ∷ []) 255) ≡ 4 ∷ 3 ∷ 2 ∷ 200 ∷ 1 ∷ 255 ∷ 1 ∷ []
unfolding answer_bytes all_numbers number groups
written = refl

pub syndromes-behind-the-kind : burst_syndromes 3 (4 ∷ 3 ∷ 2 ∷ 2 ∷ 255 ∷ 1 ∷ []) ≡ 3 ∷ 2 ∷ 2 ∷ []
unfolding burst_syndromes numbers_at number_at next_byte
syndromes-behind-the-kind = refl
