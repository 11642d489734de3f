-- What an answered call of the holder shows, and that every state from it is sound.
use Rattle.std.specs.Prelude.{◌≡◌, refl, Bool, true, false, not, ◌&&◌, ◌||◌, ◌⊎◌, List, ℕ, ◌+◌, ◌≤◌, ◌<◌, length, leb, eqb}
use Rattle.std.proofs.Math.Path.{sym}
use Rattle.std.proofs.Common.{◌∙◌, ap, inl, inr, arith}
use Rattle.std.proofs.Math.Dec.{ltb}
use borrow.Author.Tests.{ltb-true, leb-true, le-leb, not-true, eq-eqb}
use Rattle.strings.specs.laws.ResultLaws.{unless-passed, then-passed, value-is}
use Rattle.strings.specs.Results.{value}
use Rattle.messages.specs.laws.QuestionLaws.{Within, OpeningWithin, fields_within}
use Rattle.messages.specs.Answers.{answer_bytes}
use Rattle.messages.specs.Kinds.{kind_at}
use Rattle.messages.specs.Questions.{fields_at, question_kind}
use Rattle.messages.specs.declared.Kind.{Kind}
use Rattle.messages.specs.declared.Kind.TheVariants.{Bits, Hash, Open, Syndrome, Burst}
use Rattle.messages.specs.declared.Question.{Question}
use Rattle.messages.specs.declared.Question.TheVariants.{AskBits, AskHash, AskOpen, AskSyndrome, AskBurst}
use Rattle.ends.specs.HolderCall.{after_answer, answers_to, fresh_holder, holder_call, in_turn, of_kind, replies, same_bit_count, sends, Reply}
use Rattle.strings.specs.SettingLimits.{between}
use Rattle.ends.specs.Runs.{answer}
use Rattle.ends.specs.Soundness.{holder_sound, most_answers}
use Rattle.ends.specs.declared.Holder.{Holder}
use Rattle.strings.specs.Bits.{range, max_bits}
use Rattle.strings.proofs.laws.RuleLaws.{rule-is}
use Rattle.strings.specs.StringRule.{string_rule}
use Rattle.strings.specs.laws.Tests.{and_left, both, and_right}
use Rattle.strings.specs.declared.Refusal.TheVariants.{BadString, BufferTooShort, OutOfTurn}

-- ---- a call of the holder that was answered
pub record HeardCall (st : Holder) (x : List ℕ) (bits : ℕ) (msg : List ℕ) (capacity : ℕ) (next : Holder) (reply : List ℕ) : Type 0 where
  pub few : bits ≤ max_bits
  pub sound-before : holder_sound st ≡ true
  pub left : st.answers < most_answers
  pub kind : Kind
  pub at : ℕ
  pub known : kind_at msg ≡ value (kind, at)
  pub turn : in_turn st.opened kind ≡ true
  pub q : Question
  pub fields : fields_at kind msg at bits ≡ value q
  pub after : next ≡ after_answer st bits q
  pub sends : reply ≡ answer_bytes (answer st.h st.key (range x 0 bits) q)

module _ (st : Holder) (x : List ℕ) (bits : ℕ) (msg : List ℕ) (capacity : ℕ) (next : Holder) (reply : List ℕ) where
  pub heard-call : holder_call st x bits msg capacity ≡ replies next reply → HeardCall st x bits msg capacity next reply
  unfolding holder_call sends
  heard-call e =
      let u = unless-passed (string_rule x bits && same_bit_count st bits) BadString _ _ e in
      let v = unless-passed (holder_sound st && ltb st.answers most_answers) OutOfTurn _ _ u.1 in
      let w = then-passed (kind_at msg) (λ (k, at). of_kind st x bits msg capacity k at) _ v.1 in
      let f = unless-passed (in_turn st.opened w.0.0) OutOfTurn _ _ w.2 in
      let g = then-passed (fields_at w.0.0 msg w.0.1 bits) (answers_to st x bits capacity) _ f.1 in
      let m = answer_bytes (answer st.h st.key (range x 0 bits) g.0) in
      let h = unless-passed (leb (length m) capacity) BufferTooShort _ _ g.2 in
      let d = value-is h.1 in
      record {
        few = (rule-is x bits (and_left (string_rule x bits) (same_bit_count st bits) u.0)).few;
        sound-before = and_left (holder_sound st) (ltb st.answers most_answers) v.0;
        left = ltb-true st.answers most_answers (and_right (holder_sound st) (ltb st.answers most_answers) v.0);
        kind = w.0.0;
        at = w.0.1;
        known = w.1;
        turn = f.0;
        q = g.0;
        fields = g.1;
        after = sym (ap (λ (z : Reply). z.state) d);
        sends = sym (ap (λ (z : Reply). z.message) d);
      }

-- ---- soundness
pub record OpenedIs (st : Holder) : Type 0 where
  pub opened : st.opened ≡ true
  pub bits : st.bits ≤ max_bits
  pub h-least : 8 ≤ st.h
  pub h-most : st.h ≤ 32
  pub key-least : 1 ≤ st.key
  pub answers-least : 1 ≤ st.answers
  pub answers-most : st.answers ≤ most_answers

pub opened-sound : (st : Holder) → OpenedIs st → holder_sound st ≡ true
unfolding holder_sound
opened-sound st k =
    rw (
      k.opened,
      le-leb st.bits max_bits k.bits,
      le-leb 8 st.h k.h-least,
      le-leb st.h 32 k.h-most,
      le-leb 1 st.key k.key-least,
      le-leb 1 st.answers k.answers-least,
      le-leb st.answers most_answers k.answers-most,
    ) refl

pub sound-opened : (st : Holder) → holder_sound st ≡ true → st.opened ≡ true → OpenedIs st
unfolding holder_sound
sound-opened st s e =
    let b = both (leb st.bits max_bits) (between 8 st.h 32 && (leb 1 st.key && between 1 st.answers most_answers)) (rw e at s) in
    let c = both (between 8 st.h 32) (leb 1 st.key && between 1 st.answers most_answers) b.1 in
    let d = both (leb 1 st.key) (between 1 st.answers most_answers) c.1 in
    let f = both (leb 8 st.h) (leb st.h 32) c.0 in
    let g = both (leb 1 st.answers) (leb st.answers most_answers) d.1 in
    record {
      opened = e;
      bits = leb-true st.bits max_bits b.0;
      h-least = leb-true 8 st.h f.0;
      h-most = leb-true st.h 32 f.1;
      key-least = leb-true 1 st.key d.0;
      answers-least = leb-true 1 st.answers g.0;
      answers-most = leb-true st.answers most_answers g.1;
    }

-- a kind in turn tells whether the holder has opened
turn-open : (o : Bool) (k : Kind) → in_turn o k ≡ true → ((k ≡ Open) × (o ≡ false)) ⊎ ((k ≡ Open → ⊥) × (o ≡ true))
turn-open o Open e = inl (refl, not-true o e)
turn-open o Hash e = inr ((λ d. let z : ◌≡◌ {A = ℕ} 0 1 = cc in omega arith), e)
turn-open o Syndrome e = inr ((λ d. let z : ◌≡◌ {A = ℕ} 0 1 = cc in omega arith), e)
turn-open o Bits e = inr ((λ d. let z : ◌≡◌ {A = ℕ} 0 1 = cc in omega arith), e)
turn-open o Burst e = inr ((λ d. let z : ◌≡◌ {A = ℕ} 0 1 = cc in omega arith), e)

-- what an answered call makes of the state: it opens, or counts one more
pub data Made (st : Holder) (bits : ℕ) (q : Question) (next : Holder) : Type 0 where
  opens : st.opened ≡ false → (h key : ℕ) → AskOpen h key ≡ q → OpeningWithin h key → next ≡ record { opened = true; bits = bits; h = h; key = key; answers = 1 } → Made st bits q next
  counts : st.opened ≡ true → (question_kind q ≡ Open → ⊥) → next ≡ record { opened = st.opened; bits = st.bits; h = st.h; key = st.key; answers = st.answers + 1 } → Made st bits q next

pub heard-made : (st : Holder) (x : List ℕ) (bits : ℕ) (msg : List ℕ) (capacity : ℕ) (next : Holder) (reply : List ℕ) (k : HeardCall st x bits msg capacity next reply) → Made st bits k.q next
heard-made st x bits msg capacity next reply k = go k.q (turn-open st.opened k.kind k.turn) (fields_within k.kind msg k.at bits k.q k.fields) k.after
  where
    go : (q : Question) → ((k.kind ≡ Open) × (st.opened ≡ false)) ⊎ ((k.kind ≡ Open → ⊥) × (st.opened ≡ true)) → (question_kind q ≡ k.kind) × Within bits q → next ≡ after_answer st bits q → Made st bits q next
    go (AskOpen h key) (inl t) w e = opens t.1 h key refl w.1 e
    go (AskOpen h key) (inr t) w e = absurd (t.0 (sym w.0))
    go (AskHash s l) (inl t) w e = let d = w.0 ∙ t.0 in let z : ◌≡◌ {A = ℕ} 0 1 = cc in absurd (omega arith)
    go (AskHash s l) (inr t) w e = counts t.1 (λ d. t.0 (sym w.0 ∙ d)) e
    go (AskSyndrome s l) (inl t) w e = let d = w.0 ∙ t.0 in let z : ◌≡◌ {A = ℕ} 0 1 = cc in absurd (omega arith)
    go (AskSyndrome s l) (inr t) w e = counts t.1 (λ d. t.0 (sym w.0 ∙ d)) e
    go (AskBits s l) (inl t) w e = let d = w.0 ∙ t.0 in let z : ◌≡◌ {A = ℕ} 0 1 = cc in absurd (omega arith)
    go (AskBurst s l b) (inl t) w e = let d = w.0 ∙ t.0 in let z : ◌≡◌ {A = ℕ} 0 1 = cc in absurd (omega arith)
    go (AskBurst s l b) (inr t) w e = counts t.1 (λ d. t.0 (sym w.0 ∙ d)) e
    go (AskBits s l) (inr t) w e = counts t.1 (λ d. t.0 (sym w.0 ∙ d)) e

-- every state from a call of the holder is sound
pub holder-sound : (st : Holder) (x : List ℕ) (bits : ℕ) (msg : List ℕ) (capacity : ℕ) (next : Holder) (reply : List ℕ) → holder_call st x bits msg capacity ≡ replies next reply → OpenedIs next
holder-sound st x bits msg capacity next reply e =
    let k = heard-call st x bits msg capacity next reply e in
    go k.few k.left k.sound-before (heard-made st x bits msg capacity next reply k)
  where
    go : {q : Question} → bits ≤ max_bits → st.answers < most_answers → holder_sound st ≡ true → Made st bits q next → OpenedIs next
    go f l s (opens o h key d w e) = rw e record { opened = refl; bits = f; h-least = w.h-least; h-most = w.h-most; key-least = w.key-least; answers-least = omega arith; answers-most = omega arith }
    go f l s (counts o n e) =
        let i = sound-opened st s o in
        rw e record { opened = o; bits = i.bits; h-least = i.h-least; h-most = i.h-most; key-least = i.key-least; answers-least = omega arith; answers-most = omega arith }

pub fresh-holder-sound : holder_sound fresh_holder ≡ true
unfolding holder_sound
fresh-holder-sound = refl

-- a string of the opening's bit count is taken
pub same_count : (st : Holder) (bits : ℕ) → st.bits ≡ bits → same_bit_count st bits ≡ true
unfolding same_bit_count
same_count st bits e = go st.opened
  where
    go : (o : Bool) → (not o || eqb st.bits bits) ≡ true
    go true = eq-eqb st.bits bits e
    go false = refl
