-- Laws of a fresh holder and of the holder's call on bytes: its returns, and that the bytes carry the state from call to call.
use Rattle.std.specs.Prelude.{◌≡◌, Ok, Err, Bool, true, false, List, ◌++◌, ℕ, ◌*◌, ◌≤◌, ◌<◌}
use Rattle.std.proofs.Math.Path.{refl, ap}
use Rattle.std.proofs.Common.{sym, ◌∙◌, arith, length-append, length-take, length-drop, le-leb}
use Rattle.std.proofs.Math.ListN.{length, drop}
use Rattle.strings.specs.Bits.{range, at_front, max_bits}
use Rattle.strings.specs.Bits.{Bytes}
use Rattle.strings.proofs.laws.RangeLaws.{range_length}
use Rattle.strings.specs.StringRule.{string_rule}
use Rattle.strings.specs.Refusals.{refusal_number}
use Rattle.strings.specs.Results.{Result, refusal, value, said}
use Rattle.strings.specs.laws.ResultLaws.{no_value, value-is, unless-passed}
use Rattle.strings.specs.declared.Refusal.{Refusal}
use Rattle.strings.specs.declared.Refusal.TheVariants.{BadString, OutOfTurn}
use Rattle.codes.specs.Syndrome.{syndrome}
use Rattle.codes.specs.Columns.{syndromes}
use Rattle.codes.specs.laws.ColumnLaws.{syndromes-length}
use Rattle.codes.specs.Hash.{hash}
use Rattle.messages.specs.declared.Question.{Question}
use Rattle.messages.specs.declared.Question.TheVariants.{AskOpen, AskHash, AskSyndrome, AskBits, AskBurst}
use Rattle.messages.specs.laws.QuestionLaws.{key_of, burst-few, fields-form, fields_within}
use Rattle.messages.specs.Questions.{question_burst}
use Rattle.messages.specs.Numbers.{number, all_numbers}
use Rattle.messages.specs.laws.NumberLaws.{size-most, numbers-most}
use Rattle.messages.specs.Answers.{syndrome_answer, burst_answer, answer_bytes}
use Rattle.messages.specs.laws.AnswerLaws.{answer-size, size-answer-most, hash-answer-most, bits-answer-size}
use Rattle.ends.specs.declared.Holder.{Holder}
use Rattle.ends.specs.Anchors.{part}
use Rattle.ends.specs.Runs.{answer}
use Rattle.ends.specs.HolderCall.{Reply, replies, holder_call, fresh_holder}
use Rattle.ends.specs.laws.HolderLaws.{heard-call, Made, opens, counts, heard-made, holder-sound}
use Rattle.ends.specs.declared.answering.HolderOut.{HolderOut}
use Rattle.ends.specs.HolderOutcome.{HolderSaid, said_holder, leaves_holder}
use Rattle.layout.specs.Layout.{holder_size, holder_bytes, holder_of, is_holder}
use Rattle.layout.specs.laws.LayoutLaws.{HolderFits, holder-read, holder-bytes-front, length-holder}
use Rattle.cabi.specs.Packing.{packed, value_unit}
use Rattle.cabi.specs.Calls.{holder_made, holder_on_bytes, HolderLeft, holder_left, holder_bytes_outcome}

-- ---- a fresh holder
pub fresh-whole : (s t : List ℕ) → holder_size ≤ length s → t ≡ holder_bytes fresh_holder ++ drop holder_size s → record { result = 0; state = t } ≡ holder_made s
unfolding holder_made packed
fresh-whole s t h e =
    rw (le-leb holder_size (length s) h, e) (ap (λ (n : ℕ). record { result = 0; state = holder_bytes fresh_holder ++ drop n s }) (sym (length-holder fresh_holder)))

-- its bytes, whatever follows them, are taken and read as it
pub fresh-carried : (l : List ℕ) → (is_holder (holder_bytes fresh_holder ++ l) ≡ true) × (holder_of (holder_bytes fresh_holder ++ l) ≡ fresh_holder)
fresh-carried l = (
  holder-bytes-front fresh_holder l,
  holder-read fresh_holder l (record { bits-fits = omega arith; h_fits = omega arith; key_fits = omega arith; answers-fits = omega arith }),
)

-- ---- a reply has at most 65,536 bytes
part-most : (l : List Bool) (x p : ℕ) → length (part l x p) ≤ length l
part-most l x p = let a = length-take p (drop x l) in let b = length-drop x l in omega arith

answer-most : (h key : ℕ) (X : List Bool) (q : Question) → length X ≤ max_bits → question_burst q ≤ 32 → length (answer_bytes (answer h key X q)) ≤ max_bits
answer-most h key X (AskOpen h' key') m few = let e = size-answer-most (length X) m in omega arith
answer-most h key X (AskHash x p) m few = let e = hash-answer-most (hash h key (part X x p)) in omega arith
answer-most h key X (AskSyndrome x p) m few =
    let a : ℕ = syndrome (part X x p) in
    let v : ℕ = hash h key (part X x p) in
    let e = answer-size (syndrome_answer a v) in
    let f = length-append (number a) (number v) in
    let i = size-most a in
    let j = size-most v in
    omega arith
answer-most h key X (AskBits x p) m few = let e = bits-answer-size (part X x p) in let k = part-most X x p in omega arith
answer-most h key X (AskBurst x p b) m few =
    let l : List ℕ = syndromes b (part X x p) in
    let v : ℕ = hash h key (part X x p) in
    let e = answer-size (burst_answer l v) in
    let f = length-append (all_numbers l) (number v) in
    let n = syndromes-length b (part X x p) in
    let i = numbers-most l in
    let j = size-most v in
    omega arith

pub reply-most : (st : Holder) (x : List ℕ) (bits : ℕ) (msg : List ℕ) (capacity : ℕ) (r : Reply)
    → holder_call st x bits msg capacity ≡ value r → length r.message ≤ max_bits
reply-most st x bits msg capacity r e =
    let k = heard-call st x bits msg capacity r.state r.message e in
    let l = range_length x 0 bits in
    let f = k.few in
    rw k.sends (answer-most st.h st.key (range x 0 bits) k.q (omega arith) (burst-few _ k.q (fields_within k.kind msg k.at bits k.q k.fields).1))

-- ---- the returns
module _ (s x : List ℕ) (bits : ℕ) (msg reply : List ℕ) where
  pub holder-bad-string : {r : ℕ} → r ≡ packed (refusal (refusal_number BadString)) → string_rule x bits ≡ false
      → record { result = r; state = s; reply = reply } ≡ holder_left s reply (holder_on_bytes s x bits msg (length reply))
  unfolding holder_on_bytes packed
  holder-bad-string p e = rw (p, e) refl

  pub holder-no-state : {r : ℕ} → r ≡ packed (refusal (refusal_number OutOfTurn)) → string_rule x bits ≡ true → is_holder s ≡ false
      → record { result = r; state = s; reply = reply } ≡ holder_left s reply (holder_on_bytes s x bits msg (length reply))
  unfolding holder_on_bytes packed
  holder-no-state p e f = rw (p, e, f) refl

  pub holder-called : string_rule x bits ≡ true → is_holder s ≡ true → holder_on_bytes s x bits msg (length reply) ≡ holder_call (holder_of s) x bits msg (length reply)
  unfolding holder_on_bytes
  holder-called e f = rw (e, f) refl

-- what the call on the state says, as bytes
module _ (s reply reply' : List ℕ) (st : Holder) (out : HolderOut) where
  holder-declined : (t : Result Reply) (e : Refusal) → said_holder out reply' ≡ leaves_holder st reply t → out.answer ≡ Err e
      → record { result = packed (refusal (refusal_number e)); state = s; reply = reply' } ≡ holder_left s reply t
  holder-declined (refusal number) e k f =
      let a : said out.answer ≡ refusal number = ap (λ (w : HolderSaid). w.answer) k in
      let b : refusal (refusal_number e) ≡ refusal number = rw f at a in
      let c : reply' ≡ reply = ap (λ (w : HolderSaid). w.reply) k in
      rw (b, c) refl
  holder-declined (value r) e k f =
      let a : said out.answer ≡ value (length r.message) = ap (λ (w : HolderSaid). w.answer) k in
      let b : refusal (refusal_number e) ≡ value (length r.message) = rw f at a in
      absurd (no_value (refusal_number e) (length r.message) b)

  holder-size : (t : Result Reply) (size : ℕ) → said_holder out reply' ≡ leaves_holder st reply t → out.answer ≡ Ok size
      → ((r : Reply) → t ≡ value r → length r.message ≤ max_bits) → size ≤ max_bits
  holder-size (refusal number) size k f h =
      let a : said out.answer ≡ refusal number = ap (λ (w : HolderSaid). w.answer) k in
      let b : value size ≡ refusal number = rw f at a in
      absurd (no_value number size (sym b))
  holder-size (value r) size k f h =
      let a : said out.answer ≡ value (length r.message) = ap (λ (w : HolderSaid). w.answer) k in
      let b : value size ≡ value (length r.message) = rw f at a in
      let c : size ≡ length r.message = value-is b in
      let i = h r refl in omega arith

  holder-replied : (t : Result Reply) (size : ℕ) (s' : List ℕ) → said_holder out reply' ≡ leaves_holder st reply t → out.answer ≡ Ok size
      → s' ≡ holder_bytes out.state ++ drop holder_size s
      → record { result = size * value_unit; state = s'; reply = reply' } ≡ holder_left s reply t
  unfolding packed
  holder-replied (refusal number) size s' k f g =
      let a : said out.answer ≡ refusal number = ap (λ (w : HolderSaid). w.answer) k in
      let b : value size ≡ refusal number = rw f at a in
      absurd (no_value number size (sym b))
  holder-replied (value r) size s' k f g =
      let a : said out.answer ≡ value (length r.message) = ap (λ (w : HolderSaid). w.answer) k in
      let b : value size ≡ value (length r.message) = rw f at a in
      let c : size ≡ length r.message = value-is b in
      let d : out.state ≡ r.state = ap (λ (w : HolderSaid). w.state) k in
      let i : reply' ≡ at_front r.message reply = ap (λ (w : HolderSaid). w.reply) k in
      let j : s' ≡ at_front (holder_bytes r.state) s
      = g ∙ ap (λ (z : Holder). holder_bytes z ++ drop holder_size s) d ∙ ap (λ (n : ℕ). holder_bytes r.state ++ drop n s) (sym (length-holder r.state)) in
      rw (c, j, i) refl

-- for the code: what is known where the call on the state that was read has answered
pub record HolderCalled : Type 0 where
  pub s : List ℕ
  pub x : List ℕ
  pub bits : ℕ
  pub msg : List ℕ
  pub reply : List ℕ
  pub reply' : List ℕ
  pub st : Holder
  pub out : HolderOut
  pub rule : string_rule x bits ≡ true
  pub whole : is_holder s ≡ true
  pub read : st ≡ holder_of s
  pub said : said_holder out reply' ≡ leaves_holder st reply (holder_call st x bits msg (length reply))

abbrev pub on_state : (s x : List ℕ) (bits : ℕ) (msg reply reply' : List ℕ) (st : Holder) (out : HolderOut) → string_rule x bits ≡ true → is_holder s ≡ true → st ≡ holder_of s
    → said_holder out reply' ≡ leaves_holder st reply (holder_call st x bits msg (length reply)) → HolderCalled
on_state s x bits msg reply reply' st out a b c d = record { s = s; x = x; bits = bits; msg = msg; reply = reply; reply' = reply'; st = st; out = out; rule = a; whole = b; read = c; said = d }

-- and what shall be left; the answer's two cases
module _ (k : HolderCalled) where
  abbrev pub holder_leaves : HolderLeft
  holder_leaves = holder_bytes_outcome k.s k.x k.bits k.msg k.reply

  -- what the call on the state gives
  abbrev heard : Result Reply
  heard = holder_call k.st k.x k.bits k.msg (length k.reply)

  called : holder_left k.s k.reply heard ≡ holder_leaves
  called = sym (rw (holder-called k.s k.x k.bits k.msg k.reply k.rule k.whole, k.read) refl)

  pub answer-declined : {d : Refusal} {r : ℕ} → k.out.answer ≡ Err d → r ≡ packed (refusal (refusal_number d)) → record { result = r; state = k.s; reply = k.reply' } ≡ holder_leaves
  answer-declined {d} a h = (rw h (holder-declined k.s k.reply k.reply' k.st k.out heard d k.said a)) ∙ called

  pub answer-small : {size : ℕ} → k.out.answer ≡ Ok size → size ≤ max_bits
  answer-small {size} a =
      holder-size k.s k.reply k.reply' k.st k.out heard size k.said a (reply-most k.st k.x k.bits k.msg (length k.reply))

  pub answer-replied : {size r : ℕ} {s' : List ℕ} → k.out.answer ≡ Ok size → r ≡ size * value_unit → s' ≡ holder_bytes k.out.state ++ drop holder_size k.s
      → record { result = r; state = s'; reply = k.reply' } ≡ holder_leaves
  answer-replied {size} {s' = s'} a h i = (rw h (holder-replied k.s k.reply k.reply' k.st k.out heard size s' k.said a i)) ∙ called

-- ---- the bytes carry the state: what a taken call leaves, whatever follows it, is taken and read as its next state
pub holder-carried : (s x : List ℕ) (bits : ℕ) (msg : List ℕ) (capacity : ℕ) (next : Holder) (m l : List ℕ) → HolderFits (holder_of s) → Bytes msg
    → holder_on_bytes s x bits msg capacity ≡ replies next m → (is_holder (holder_bytes next ++ l) ≡ true) × (holder_of (holder_bytes next ++ l) ≡ next) × HolderFits next
unfolding holder_on_bytes
holder-carried s x bits msg capacity next m l b c e =
    let u = unless-passed (string_rule x bits) BadString _ _ e in
    let v = unless-passed (is_holder s) OutOfTurn _ _ u.1 in
    let o = holder-sound (holder_of s) x bits msg capacity next m v.1 in
    let k = heard-call (holder_of s) x bits msg capacity next m v.1 in
    let q = o.bits in
    let r = o.h-most in
    let w = o.answers-most in
    let i = (fields-form msg c k.kind k.at bits k.q k.fields).range.key-most in
    let f : HolderFits next = record {
      bits-fits = omega arith;
      h_fits = omega arith;
      answers-fits = omega arith;
      key_fits = key-small k.q i (heard-made (holder_of s) x bits msg capacity next m k);
    } in
    (holder-bytes-front next l, holder-read next l f, f)
  where
    key-small : (q : Question) → key_of q < 4294967296 → Made (holder_of s) bits q next → next.key < 4294967296
    key-small q i (opens z h key a w n) = let j = ap key_of a in rw n (omega arith)
    key-small q i (counts z n f) = rw f b.key_fits
