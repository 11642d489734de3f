-- Laws for the proofs of src/answering.rt.
use Rattle.std.specs.Prelude.{◌≡◌, Result as CodeResult, Ok, Err, Bool, true, false, cond, ◌&&◌, List, [], ◌∷◌, ◌++◌, ℕ, ◌+◌, ◌≤◌, ◌<◌, length, set, take, leb, ltb, eqb}
use Rattle.std.proofs.Math.Path.{refl}
use Rattle.std.proofs.Common.{sym, ap, ap₂, ◌∙◌, subst, zero-add, add-one, arith, take_all, take_at, take-suc, take-suc-set, le-leb, leb-true, ltb-true, eqb-true}
use Rattle.std.proofs.Math.Decide.{dec_lt}
use Rattle.std.proofs.lemmas.Bool.{lt-leb}
use Rattle.strings.specs.Refusals.{refusal_number}
use Rattle.strings.specs.Results.{Result, refusal, value, said}
use Rattle.strings.specs.Bits.{range, max_bits, Part}
use Rattle.strings.specs.StringRule.{string_rule}
use Rattle.strings.proofs.laws.RangeLaws.{range_length, range-part}
use Rattle.strings.proofs.laws.RuleLaws.{rule-is}
use Rattle.strings.specs.laws.Tests.{and_left, and_right}
use Rattle.strings.specs.declared.Refusal.{Refusal}
use Rattle.strings.specs.declared.Refusal.TheVariants.{BadString, OutOfTurn}
use Rattle.codes.specs.Hash.{hash}
use Rattle.codes.specs.Syndrome.{syndrome}
use Rattle.codes.specs.laws.SyndromeLaws.{syndrome-most}
use Rattle.messages.specs.declared.Kind.{Kind}
use Rattle.messages.specs.declared.Question.{Question}
use Rattle.messages.specs.declared.Question.TheVariants.{AskOpen, AskHash, AskSyndrome, AskBits, AskBurst}
use Rattle.messages.specs.Kinds.{kind_at}
use Rattle.messages.specs.Questions.{fields_at}
use Rattle.messages.specs.laws.QuestionLaws.{Within, RangeWithin, fields_within}
use Rattle.messages.specs.Answers.{Answer, size_answer, hash_answer, syndrome_answer, bits_answer, burst_answer, answer_bytes}
use Rattle.messages.specs.Writing.{put_front, Wrote, said_write}
use Rattle.messages.specs.laws.WritingLaws.{put-fits, put-short}
use Rattle.ends.specs.declared.Holder.{Holder}
use Rattle.ends.specs.Anchors.{part}
use Rattle.ends.specs.Runs.{answer}
use Rattle.strings.specs.SettingLimits.{between}
use Rattle.ends.specs.Soundness.{holder_sound, most_answers}
use Rattle.ends.specs.HolderCall.{same_bit_count, in_turn, sends, answers_to, of_kind, holder_call, Reply}
use Rattle.ends.specs.declared.answering.HolderOut.{HolderOut}
use Rattle.ends.specs.HolderOutcome.{HolderSaid, said_holder, leaves_holder}
use Rattle.ends.specs.code.HolderParts.{refused, written, opened_with, one_more, Answers, Able, Ready}
use Rattle.codes.specs.Columns.{column, syndromes}
use Rattle.codes.specs.laws.ColumnLaws.{column-short, syndromes-at, syndromes-length}

-- ---- a call that is turned down, and one that writes its answer
pub refused-holder : {st : Holder} {e : Refusal} {r : HolderOut} (reply : List ℕ) {heard : Result Reply} → r ≡ refused st e → heard ≡ refusal (refusal_number e) → said_holder r reply ≡ leaves_holder st reply heard
refused-holder {st} reply f g = ap (λ (o : HolderOut). said_holder o reply) f ∙ ap (leaves_holder st reply) (sym g)

-- by what writing the answer left: the state becomes `next` if the buffer was long enough
abbrev state_for : (st next : Holder) → Result ℕ → Holder
state_for st next (refusal number) = st
state_for st next (value size) = next

abbrev wrote_said : (st next : Holder) → Wrote → HolderSaid
wrote_said st next w = record { answer = w.answer; state = state_for st next w.answer; reply = w.buffer }

said-wrote : (st next : Holder) (buf : List ℕ) (w : CodeResult ℕ Refusal) → said_holder (written st next w) buf ≡ wrote_said st next (said_write w buf)
said-wrote st next buf (Ok size) = refl
said-wrote st next buf (Err e) = refl

put-sends : (st next : Holder) (m buf : List ℕ) → Dec (length buf < length m) → wrote_said st next (put_front m buf) ≡ leaves_holder st buf (sends (length buf) next m)
unfolding sends
put-sends st next m buf (yes h) = ap (wrote_said st next) (sym (put-short m buf h)) ∙ rw (lt-leb (length m) (length buf) h) refl
put-sends st next m buf (no h) =
    let l : length m ≤ length buf = omega arith in
    ap (wrote_said st next) (put-fits m buf l) ∙ rw (le-leb (length m) (length buf) l) refl

pub written-said : (st next next' : Holder) (m m' buf after : List ℕ) (w : CodeResult ℕ Refusal) {r : HolderOut} → r ≡ written st next w → said_write w after ≡ put_front m buf → next ≡ next' → m ≡ m' → said_holder r after ≡ leaves_holder st buf (sends (length buf) next' m')
written-said st next next' m m' buf after w e f g k =
    ap (λ (o : HolderOut). said_holder o after) e
    ∙ said-wrote st next after w
    ∙ ap (wrote_said st next) f
    ∙ put-sends st next m buf (dec_lt (length buf) (length m))
    ∙ ap₂ (λ (s : Holder) (l : List ℕ). leaves_holder st buf (sends (length buf) s l)) g k

-- ---- what the tests and the reader show
pub syndrome-few : (x : List ℕ) (start len : ℕ) → syndrome (range x start len) ≤ len
syndrome-few x start len =
    let m = syndrome-most (range x start len) in
    let e = range_length x start len in
    omega arith

pub column-few : (x : List ℕ) (start len b j : ℕ) → syndrome (column b j (range x start len)) ≤ len
column-few x start len b j =
    let m = syndrome-most (column b j (range x start len)) in
    let k = column-short b j (range x start len) in
    let e = range_length x start len in
    omega arith

-- ---- the loop over the columns writes their syndromes one behind the other: a turn, and its end
module _ (b j : ℕ) (l : List Bool) (a : List ℕ) (is : take j a ≡ take j (syndromes b l)) where
  pub syndromes-next : (v : ℕ) → j < b → j < length a → v ≡ syndrome (column b j l) → take (j + 1) (set a j v) ≡ take (j + 1) (syndromes b l)
  syndromes-next v h k e =
      let m = syndromes-length b l in
      ap (λ (i : ℕ). take i (set a j v)) (add-one j)
      ∙ take-suc-set a j v k
      ∙ ap₂ (λ (xs : List ℕ) (x : ℕ). xs ++ (x ∷ [])) is (e ∙ sym (syndromes-at b l j h))
      ∙ sym (take-suc (syndromes b l) j 0 (omega arith))
      ∙ ap (λ (i : ℕ). take i (syndromes b l)) (sym (add-one j))

  pub syndromes-all : j ≡ b → take b a ≡ syndromes b l
  syndromes-all e = let m = syndromes-length b l in ap (λ (i : ℕ). take i a) (sym e) ∙ is ∙ take_all j (syndromes b l) (omega arith)

  -- the same of a list that is the front of a longer one
  pub syndromes-filled : (behind : List ℕ) → length a ≡ b → b ≤ j → take b (a ++ behind) ≡ syndromes b l
  syndromes-filled behind long h =
      let m = syndromes-length b l in
      take_at a behind b long ∙ sym (take_all j a (omega arith)) ∙ is ∙ take_all j (syndromes b l) (omega arith)

-- an unopened sound state has h 0
pub sound-width : (st : Holder) → holder_sound st ≡ true → st.h ≤ 32
unfolding holder_sound
sound-width st e = go st.opened e
  where
    fresh : Bool
    fresh = eqb st.key 0 && eqb st.answers 0

    rest : Bool
    rest = leb 1 st.key && between 1 st.answers most_answers

    go : (t : Bool) → cond t (leb st.bits max_bits && (between 8 st.h 32 && rest)) (eqb st.bits 0 && (eqb st.h 0 && fresh)) ≡ true → st.h ≤ 32
    go true e =
        let b = and_left (between 8 st.h 32) rest (and_right (leb st.bits max_bits) (between 8 st.h 32 && rest) e) in
        leb-true st.h 32 (and_right (leb 8 st.h) (leb st.h 32) b)
    go false e = let z = eqb-true st.h 0 (and_left (eqb st.h 0) fresh (and_right (eqb st.bits 0) (eqb st.h 0 && fresh) e)) in omega arith

-- ---- the answers, for bits of X where they lie
module _ (st : Holder) (x : List ℕ) (n : ℕ) where
  pub able-few : Able st x n → n ≤ max_bits
  able-few a = (rule-is x n a.string).few

  pub ready-within : {q q' : Question} → Ready st x n q → q ≡ q' → Within n q'
  ready-within g e = subst (Within n) e g.within

  pub able-answers : {start len : ℕ} → Able st x n → RangeWithin n start len → Answers st x start len
  able-answers a w =
      let r = rule-is x n a.string in
      let f = r.few in
      let b = r.bytes in
      let e = w.ends in
      record { part = record { there = omega arith; few = omega arith }; width = sound-width st a.sound; left = a.left }

  module _ (reply : List ℕ) {q : Question} {s : HolderSaid} where
    pub open-asked : {h key : ℕ} → q ≡ AskOpen h key
        → s ≡ leaves_holder st reply (sends (length reply) (opened_with n h key) (answer_bytes (size_answer n)))
        → s ≡ leaves_holder st reply (answers_to st x n (length reply) q)
    open-asked {h} {key} e f =
        f ∙ ap (λ (k : ℕ). leaves_holder st reply (sends (length reply) (opened_with n h key) (answer_bytes (size_answer k)))) (sym (range_length x 0 n))
        ∙ ap (λ (p : Question). leaves_holder st reply (answers_to st x n (length reply) p)) (sym e)

    -- the part of X's bits that a question names is a range of X's bytes
    range-asked : (answered : List Bool → Answer) (start len : ℕ) {q' : Question} → RangeWithin n start len → q ≡ q'
        → answers_to st x n (length reply) q' ≡ sends (length reply) (one_more st) (answer_bytes (answered (part (range x 0 n) start len)))
        → s ≡ leaves_holder st reply (sends (length reply) (one_more st) (answer_bytes (answered (range x start len))))
        → s ≡ leaves_holder st reply (answers_to st x n (length reply) q)
    range-asked answered start len w e g f =
        let there : range x start len ≡ part (range x 0 n) start len = sym (range-part x 0 n start len w.ends ∙ ap (λ (k : ℕ). range x k len) (zero-add start)) in
        f ∙ ap (λ (l : List Bool). leaves_holder st reply (sends (length reply) (one_more st) (answer_bytes (answered l)))) there
        ∙ ap (leaves_holder st reply) (sym g)
        ∙ ap (λ (p : Question). leaves_holder st reply (answers_to st x n (length reply) p)) (sym e)

    module _ (g : Ready st x n q) {start len : ℕ} where
      pub hash-asked : q ≡ AskHash start len
          → s ≡ leaves_holder st reply (sends (length reply) (one_more st) (answer_bytes (hash_answer (hash st.h st.key (range x start len)))))
          → s ≡ leaves_holder st reply (answers_to st x n (length reply) q)
      hash-asked e f = range-asked (λ l. hash_answer (hash st.h st.key l)) start len (ready-within g e) e refl f

      pub syndrome-asked : q ≡ AskSyndrome start len
          → s ≡ leaves_holder st reply (sends (length reply) (one_more st) (answer_bytes (syndrome_answer (syndrome (range x start len)) (hash st.h st.key (range x start len)))))
          → s ≡ leaves_holder st reply (answers_to st x n (length reply) q)
      syndrome-asked e f = range-asked (λ l. syndrome_answer (syndrome l) (hash st.h st.key l)) start len (ready-within g e) e refl f

      pub burst-asked : {b : ℕ} → q ≡ AskBurst start len b
          → s ≡ leaves_holder st reply (sends (length reply) (one_more st) (answer_bytes (burst_answer (syndromes b (range x start len)) (hash st.h st.key (range x start len)))))
          → s ≡ leaves_holder st reply (answers_to st x n (length reply) q)
      burst-asked {b} e f = range-asked (λ l. burst_answer (syndromes b l) (hash st.h st.key l)) start len (ready-within g e).range e refl f

      pub bits-asked : q ≡ AskBits start len
          → s ≡ leaves_holder st reply (sends (length reply) (one_more st) (answer_bytes (bits_answer (range x start len))))
          → s ≡ leaves_holder st reply (answers_to st x n (length reply) q)
      bits-asked e f = range-asked bits_answer start len (ready-within g e) e refl f

-- ---- the replies that are written for them
-- an answer, written at the front of the reply
abbrev put_answer : List ℕ → Answer → Wrote
put_answer reply a = put_front (answer_bytes a) reply

pub within-as : (n : ℕ) {q q' : Question} → Within n q → q ≡ q' → Within n q'
within-as n w e = subst (Within n) e w

module _ (x : List ℕ) (n : ℕ) where
  pub asked-part : {start len : ℕ} → string_rule x n ≡ true → RangeWithin n start len → Part x start len
  asked-part s w =
      let r = rule-is x n s in
      let f = r.few in
      let b = r.bytes in
      let e = w.ends in
      record { there = omega arith; few = omega arith }

  module _ (h key : ℕ) (reply : List ℕ) where
    -- the answer to a question, written at the front of the reply
    abbrev answered : Question → Wrote
    answered q = put_answer reply (answer h key (range x 0 n) q)

    module _ {q : Question} {w : Wrote} where
      pub size-replied : {h' key' : ℕ} → q ≡ AskOpen h' key' → w ≡ put_answer reply (size_answer n) → w ≡ answered q
      size-replied e f = f ∙ ap (λ (k : ℕ). put_answer reply (size_answer k)) (sym (range_length x 0 n)) ∙ ap answered (sym e)

      -- the part of X's bits that a question names is the range of X's bytes that is answered for
      range-replied : (of : List Bool → Answer) (start len : ℕ) {l : List Bool} {q' : Question} → RangeWithin n start len → q ≡ q' → l ≡ range x start len
          → answer h key (range x 0 n) q' ≡ of (part (range x 0 n) start len)
          → w ≡ put_answer reply (of l)
          → w ≡ answered q
      range-replied of start len {l} r e p g f =
          let there : l ≡ part (range x 0 n) start len = p ∙ sym (range-part x 0 n start len r.ends ∙ ap (λ (k : ℕ). range x k len) (zero-add start)) in
          f ∙ ap (λ (l : List Bool). put_answer reply (of l)) there ∙ ap (put_answer reply) (sym g) ∙ ap answered (sym e)

      module _ (within : Within n q) {start len : ℕ} {l : List Bool} where
        pub hash-replied : q ≡ AskHash start len → l ≡ range x start len → {v : ℕ} → v ≡ hash h key l → w ≡ put_answer reply (hash_answer v) → w ≡ answered q
        hash-replied e p k f =
            range-replied (λ (l : List Bool). hash_answer (hash h key l)) start len (within-as n within e) e p refl
            (f ∙ ap (λ (v : ℕ). put_answer reply (hash_answer v)) k)

        pub syndrome-replied : q ≡ AskSyndrome start len → l ≡ range x start len → w ≡ put_answer reply (syndrome_answer (syndrome l) (hash h key l))
            → w ≡ answered q
        syndrome-replied e p f =
            range-replied (λ (l : List Bool). syndrome_answer (syndrome l) (hash h key l)) start len (within-as n within e) e p refl f

        pub bits-replied : q ≡ AskBits start len → l ≡ range x start len → w ≡ put_answer reply (bits_answer l) → w ≡ answered q
        bits-replied e p f = range-replied bits_answer start len (within-as n within e) e p refl f

        pub burst-replied : {b : ℕ} → q ≡ AskBurst start len b → l ≡ range x start len → w ≡ put_answer reply (burst_answer (syndromes b l) (hash h key l))
            → w ≡ answered q
        burst-replied {b} e p f =
            range-replied (λ (l : List Bool). burst_answer (syndromes b l) (hash h key l)) start len (within-as n within e).range e p refl f

-- ---- the call, test by test
module _ (st : Holder) (x : List ℕ) (bits : ℕ) where
  pub tests-able : string_rule x bits && same_bit_count st bits ≡ true → holder_sound st && ltb st.answers most_answers ≡ true → Able st x bits
  tests-able a b = record {
    string = and_left (string_rule x bits) (same_bit_count st bits) a;
    sound = and_left (holder_sound st) (ltb st.answers most_answers) b;
    left = ltb-true st.answers most_answers (and_right (holder_sound st) (ltb st.answers most_answers) b);
  }

  module _ (msg : List ℕ) (capacity : ℕ) where
    pub call-bad-string : string_rule x bits && same_bit_count st bits ≡ false → holder_call st x bits msg capacity ≡ refusal (refusal_number BadString)
    unfolding holder_call
    call-bad-string a = rw a refl

    pub call-out-of-turn : string_rule x bits && same_bit_count st bits ≡ true → holder_sound st && ltb st.answers most_answers ≡ false → holder_call st x bits msg capacity ≡ refusal (refusal_number OutOfTurn)
    unfolding holder_call
    call-out-of-turn a b = rw (a, b) refl

    -- the kind was not read, or was
    pub call-no-kind : {k : CodeResult (Kind × ℕ) Refusal} {e : Refusal} → string_rule x bits && same_bit_count st bits ≡ true → holder_sound st && ltb st.answers most_answers ≡ true
        → said k ≡ kind_at msg → k ≡ Err e → holder_call st x bits msg capacity ≡ refusal (refusal_number e)
    unfolding holder_call
    call-no-kind a b e f = rw (a, b, ← e, f) refl

    pub call-kind : {k : CodeResult (Kind × ℕ) Refusal} {kind : Kind} {at : ℕ} → string_rule x bits && same_bit_count st bits ≡ true → holder_sound st && ltb st.answers most_answers ≡ true
        → said k ≡ kind_at msg → k ≡ Ok (kind, at) → holder_call st x bits msg capacity ≡ of_kind st x bits msg capacity kind at
    unfolding holder_call
    call-kind a b e f = rw (a, b, ← e, f) refl

    module _ (k : Kind) (at : ℕ) where
      pub kind-out-of-turn : in_turn st.opened k ≡ false → of_kind st x bits msg capacity k at ≡ refusal (refusal_number OutOfTurn)
      kind-out-of-turn t = rw t refl

      -- so were the fields
      pub kind-no-fields : {q : CodeResult Question Refusal} {e : Refusal} → in_turn st.opened k ≡ true → said q ≡ fields_at k msg at bits → q ≡ Err e → of_kind st x bits msg capacity k at ≡ refusal (refusal_number e)
      kind-no-fields t e f = rw (t, ← e, f) refl

      pub kind-fields : {q : CodeResult Question Refusal} {q' : Question} → in_turn st.opened k ≡ true → said q ≡ fields_at k msg at bits → q ≡ Ok q' → of_kind st x bits msg capacity k at ≡ answers_to st x bits capacity q'
      kind-fields t e f = rw (t, ← e, f) refl

  module _ (msg : List ℕ) (k : Kind) (at : ℕ) {p : CodeResult Question Refusal} {q : Question} where
    pub able-ready : Able st x bits → said p ≡ fields_at k msg at bits → p ≡ Ok q → Ready st x bits q
    able-ready a e f = record { able = a; within = (fields_within k msg at bits q (sym e ∙ ap said f)).1 }

-- what is said of a call is what is said of the part that it comes to
pub said-by : {s : HolderSaid} (st : Holder) (reply : List ℕ) {whole heard : Result Reply} → s ≡ leaves_holder st reply heard → whole ≡ heard → s ≡ leaves_holder st reply whole
said-by st reply e f = e ∙ ap (leaves_holder st reply) (sym f)
