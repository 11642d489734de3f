-- Lists of calls: what is known of the world in which a call comes, by induction from the first call on.
use Rattle.std.specs.Prelude.{◌≡◌, Bool, List, [], ◌∷◌, ◌++◌, ℕ, ◌+◌, ◌*◌, ◌/◌, ◌≤◌, ◌<◌, length, leb}
use Rattle.std.proofs.Math.Path.{refl, ap, ap₂, subst}
use Rattle.std.proofs.Common.{sym, ◌∙◌, inl, inr}
use Rattle.std.proofs.Math.Bool.{true, false}
use Rattle.std.proofs.Math.Option.{some}
use native.Mathlib.Omega.{arith}
use borrow.Author.Tests.{eq-eqb, le-leb, lt-ltb}
use Rattle.strings.specs.Bits.{bytes_for, range, max_bits}
use Rattle.strings.specs.Results.{value}
use Rattle.strings.specs.SettingLimits.{Limits}
use Rattle.strings.proofs.laws.RangeLaws.{range_length}
use Rattle.strings.proofs.laws.RuleLaws.{rule-is}
use Rattle.strings.specs.laws.SettingLaws.{limits-is}
use Rattle.strings.specs.laws.Tests.{and-true, true-false}
use Rattle.strings.specs.declared.settings.Settings.{Settings}
use Rattle.messages.specs.Answers.{Answer, answer_bytes, read_answer}
use Rattle.messages.specs.Questions.{question_burst, question_bytes, question_kind, question_length, read_question}
use Rattle.messages.specs.declared.Question.{Question}
use Rattle.messages.specs.declared.Question.TheVariants.{AskBits, AskHash, AskOpen, AskSyndrome, AskBurst}
use Rattle.messages.specs.laws.AnswerLaws.{answer-reads}
use Rattle.messages.specs.laws.QuestionLaws.{InRange, question-fields-read, question-kind-reads, question-known, question-reads}
use Rattle.ends.specs.Claims.{zeroed_next}
use Rattle.ends.specs.HolderCall.{after_answer, fresh_holder, holder_call, in_turn, replies, same_bit_count, sends}
use Rattle.ends.specs.RebuilderCall.{Step, bits_known, enough_for, rebuilder_call, sheet_after, step_of, string_after, takes, written_question}
use Rattle.ends.specs.RebuilderOutcome.{capacities}
use Rattle.ends.specs.Runs.{Run, advance, answer, answer_for, continued, honest_answer, opening, question, size_of, whole, working, longest_answer}
use Rattle.ends.specs.Soundness.{sound, most_answers}
use Rattle.ends.specs.States.{planned}
use Rattle.ends.specs.Statement.{Member, Supposed}
use Rattle.ends.specs.Worlds.{Lent, bits_of_x, bits_of_y}
use Rattle.ends.specs.declared.Holder.{Holder}
use Rattle.ends.specs.declared.Phase.TheVariants.{AtOpening, AtPieces, AtWhole}
use Rattle.ends.specs.declared.Rebuilder.{Rebuilder}
use Rattle.ends.specs.declared.Row.{Row}
use Rattle.ends.specs.laws.Asking.{asks-planned}
use Rattle.ends.specs.laws.Delivery.{NotOpen, inside-range, later-not-open, length_most, sheet-length-after, step-answered, string-length-after}
use Rattle.ends.specs.laws.HolderLaws.{Made, OpenedIs, counts, fresh-holder-sound, heard-call, heard-made, holder-sound, opened-sound, opens, same_count}
use Rattle.ends.specs.laws.Invariant.{Inv, Truth, advance-ok, question-inside}
use Rattle.ends.proofs.laws.TrueAnswers.{advance-true, proper-now}
use Rattle.ends.specs.laws.Kept.{Opened}
use Rattle.ends.specs.laws.RunLaws.{length-snoc}
use Rattle.ends.specs.laws.Shape.{Inside, ProperFor, sizes}
use Rattle.ends.specs.laws.SoundSteps.{step-sound}
use Rattle.ends.specs.laws.Standing.{Stands}
use Rattle.ends.specs.laws.Steps.{EnoughFor, stands-step}
use Rattle.ends.specs.laws.Store.{Tidy, asks-same, keeps-pace, store_of}

module _ (c : Lent) (sup : Supposed c) where
  abbrev pub S : Settings
  S = c.settings

  abbrev pub X : List Bool
  X = bits_of_x c

  abbrev pub Y : List Bool
  Y = bits_of_y c

  pub L : Limits S
  L = limits-is S sup.limits

  pub x-length : length X ≡ c.xbits
  x-length = range_length c.x 0 c.xbits

  pub y-length : length Y ≡ c.ybits
  y-length = range_length c.y 0 c.ybits

  pub x-few : c.xbits ≤ max_bits
  x-few = (rule-is c.x c.xbits sup.reference).few

  pub n_x : length X ≤ max_bits
  n_x = let e = x-length in let f = x-few in omega arith

  y-range : range c.y 0 (length Y) ≡ Y
  y-range = ap (range c.y 0) y-length

  -- ---- a run with n of the holder's answers
  pub record Honest (n : ℕ) (s : Run) : Type 0 where
    pub inv : Inv S Y n s
    pub truth : Truth S X s

  -- its question is in range, and the holder's answer to it proper and short
  pub in-range : (n : ℕ) (s : Run) → Honest n s → (q : Question) → question S s ≡ some q → InRange c.xbits q
  in-range n opening h q k =
      let e : AskOpen S.h S.key ≡ q = cc in
      rw (← e) record { within = record { h-least = L.h-least; h-most = L.h-most; key-least = L.key-least }; key-most = L.key-most }
  in-range n (working b d segs rows) h q k =
      let i = question-inside S Y L n (working b d segs rows) q h.inv k in
      let e : b ≡ c.xbits = h.truth.0 ∙ x-length in
      inside-range c.xbits q (later-not-open S (working b d segs rows) q tt k) (rw e at i)
  in-range n (whole b d segs rows) h q k =
      let i = question-inside S Y L n (whole b d segs rows) q h.inv k in
      let e : b ≡ c.xbits = h.truth.0 ∙ x-length in
      inside-range c.xbits q (later-not-open S (whole b d segs rows) q tt k) (rw e at i)

  proper : (n : ℕ) (s : Run) → Honest n s → (q : Question) → question S s ≡ some q → ProperFor S q (honest_answer S X q)
  proper n s h q k = proper-now S X Y L n_x n s q h.inv h.truth k

  reply-short : (n : ℕ) (s : Run) → Honest n s → (q : Question) → question S s ≡ some q → length (answer_bytes (honest_answer S X q)) ≤ longest_answer c.xbits
  unfolding size_of
  reply-short n s h q k = sizes S c.xbits x-few q (honest_answer S X q) (inside_of q (in-range n s h q k)) (proper n s h q k)
    where
      inside_of : (q : Question) → InRange c.xbits q → Inside c.xbits q
      inside_of (AskOpen h key) r = tt
      inside_of (AskHash x p) r = (r.within.some, r.within.ends)
      inside_of (AskSyndrome x p) r = (r.within.some, r.within.ends)
      inside_of (AskBits x p) r = (r.within.some, r.within.ends)
      inside_of (AskBurst x p b) r = (r.within.range.some, r.within.range.ends, r.within.b-least, r.within.b-most)

  pub honest-next : (n : ℕ) (s : Run) → Honest n s → (q : Question) → question S s ≡ some q → Honest (n + 1) (advance S Y s (honest_answer S X q))
  honest-next n s h q k = record {
    inv = advance-ok S Y L n s q (honest_answer S X q) k (proper n s h q k) h.inv;
    truth = advance-true S X Y L n_x s q k h.truth;
  }

  -- ---- the rebuilder: its state, string, sheet and question after n answers, of which z rows were set to zeros
  pub record Rep (r : Rebuilder) (bs : List ℕ) (sh : List Row) (w : List ℕ) (n z : ℕ) (s : Run) : Type 0 where
    pub honest : Honest n s
    pub stands : Stands S (length Y) c.string c.sheet z r bs sh (store_of s)
    pub tidy : Tidy S s
    pub sound-now : sound r ≡ true
    pub answered : r.answered ≡ n
    pub string-length : length bs ≡ length c.string
    pub sheet-length : length sh ≡ length c.sheet
    pub asks : w ≡ written_question (question S s)
    -- while a question waits no row is set to zeros: the whole string's answer is the last
    pub unzeroed : (q : Question) → question S s ≡ some q → z ≡ 0

  -- the bits that the call counts its buffers by
  bits-known : (r : Rebuilder) (bs : List ℕ) (sh : List Row) (z : ℕ) (s : Run) (q : Question) → Stands S (length Y) c.string c.sheet z r bs sh (store_of s) → Truth S X s → question S s ≡ some q
      → bits_known r (honest_answer S X q) ≡ c.xbits
  bits-known r bs sh z opening q h t k =
      let hi = h.is in
      let ep : r.phase ≡ AtOpening = cc in
      let e : AskOpen S.h S.key ≡ q = cc in
      rw (ep, ← e) x-length
  bits-known r bs sh z (working n d segs rows) q h t k =
      let hi = h.is in
      let ep : r.phase ≡ AtPieces = cc in
      let en : n ≡ r.n = cc in
      rw ep (sym en ∙ t.0 ∙ x-length)
  bits-known r bs sh z (whole n d segs rows) q h t k =
      let hi = h.is in
      let ep : r.phase ≡ AtWhole = cc in
      let en : n ≡ r.n = cc in
      rw ep (sym en ∙ t.0 ∙ x-length)

  enough-now : (s : Run) (q : Question) → Truth S X s → question S s ≡ some q → EnoughFor S s (honest_answer S X q) c.string c.sheet
  enough-now opening q t k = let e : AskOpen S.h S.key ≡ q = cc in rw (← e, x-length) (sup.string, sup.sheet)
  enough-now (working n d segs rows) q t k = let e : n ≡ c.xbits = t.0 ∙ x-length in rw e (sup.string, sup.sheet)
  enough-now (whole n d segs rows) q t k = let e : n ≡ c.xbits = t.0 ∙ x-length in rw e (sup.string, sup.sheet)

  -- the whole string's answer leaves no question
  zeroed-last : (s : Run) (a : Answer) (q : Question) → question S (advance S Y s a) ≡ some q → zeroed_next s ≡ 0
  zeroed-last opening a q e = refl
  zeroed-last (working n d segs rows) a q e = refl
  zeroed-last (whole n d segs rows) a q e = let z : ◌≡◌ {A = ℕ} 0 1 = cc in absurd (omega arith)

  module _ (r : Rebuilder) (bs : List ℕ) (sh : List Row) (w : List ℕ) (n z : ℕ) (s : Run) (k : Rep r bs sh w n z s) (q : Question) (wq : question S s ≡ some q) where
    abbrev a : Answer
    a = honest_answer S X q

    abbrev m : List ℕ
    m = answer_bytes a

    abbrev pub next : Step
    next = step_of r c.y (length m) a

    planned-is : planned r ≡ some q
    planned-is = asks-planned k.stands ∙ asks-same S s ∙ wq

    reads_so : read_answer (question_kind q) (question_length q) (question_burst q) S.h m ≡ value a
    reads_so =
        let r = in-range n s k.honest q wq in
        answer-reads (question_length q) (question_burst q) S.h (length_most c.xbits q x-few r) L.h-most (question_kind q) a (proper n s k.honest q wq)

    -- the message is read so in the run, too
    pub continues : continued S Y s (answer_for S (question S s) m) ≡ advance S Y s a
    continues = rw (wq, reads_so) refl

    pub takes-it : (buffer : List ℕ) → 8 ≤ length buffer
        → rebuilder_call r c.y c.ybits m (capacities (length bs) (length sh) (length buffer)) ≡ takes next (written_question (planned next.state))
    unfolding rebuilder_call
    takes-it buffer g =
        let yb : r.ybits ≡ c.ybits = k.stands.copy ∙ y-length in
        let st : r.settings.h ≡ S.h = ap (λ (z : Settings). z.h) k.stands.settings in
        let rd : read_answer (question_kind q) (question_length q) (question_burst q) r.settings.h m ≡ value a = ap (λ (z : ℕ). read_answer (question_kind q) (question_length q) (question_burst q) z m) st ∙ reads_so in
        rw (sup.copy, eq-eqb r.ybits c.ybits yb, k.sound-now, planned-is, rd, enough-true) refl
      where
        enough-true : enough_for r (bits_known r a) (capacities (length bs) (length sh) (length buffer)) ≡ true
        enough-true =
            let e = bits-known r bs sh z s q k.stands k.honest.truth wq in
            let u = sup.string in let v = sup.sheet in
            let x = k.string-length in let y = k.sheet-length in
            let st = k.stands.settings in
            rw (e, st)
            (and-true (leb (bytes_for c.xbits) (length bs)) _ (le-leb (bytes_for c.xbits) (length bs) (omega arith))
            (and-true (leb (2 * (c.xbits / c.settings.m) + 1) (length sh)) (leb 8 (length buffer)) (le-leb (2 * (c.xbits / c.settings.m) + 1) (length sh) (omega arith)) (le-leb 8 (length buffer) g)))

    -- and then stands for the run with this answer
    pub rep_next : Rep next.state (string_after bs next.string) (sheet_after sh next.sheet) (written_question (planned next.state)) (n + 1) (z + zeroed_next s) (advance S Y s a)
    unfolding size_of
    rep_next =
        let o = proper n s k.honest q wq in
        let kp = keeps-pace S Y L n s q a o k.honest.inv k.tidy wq in
        let sn = step-sound r c.y q a (length m) k.stands.array k.sound-now planned-is (rw k.stands.settings o) refl in
        let sk : Stands S (length Y) c.string c.sheet 0 r bs sh (store_of s) = rw (k.unzeroed q wq) at k.stands in
        let ss = stands-step S Y L c.y y-range c.string c.sheet r bs sh n s q a (length m) sk k.honest.inv wq o refl (enough-now s q k.honest.truth wq) in
        let z0 = k.unzeroed q wq in
        let ze : zeroed_next s ≡ z + zeroed_next s = omega arith in
        let st : Stands S (length Y) c.string c.sheet (z + zeroed_next s) next.state (string_after bs next.string) (sheet_after sh next.sheet) (store_of (advance S Y s a)) =
        subst (λ (u : ℕ). Stands S (length Y) c.string c.sheet u next.state (string_after bs next.string) (sheet_after sh next.sheet) (store_of (advance S Y s a))) ze (rw kp.0 ss) in
        let an = step-answered r c.y q a (length m) k.stands.array k.sound-now planned-is in
        let ka = k.answered in
        record {
          honest = honest-next n s k.honest q wq;
          stands = st;
          tidy = kp.1;
          sound-now = sn.0;
          answered = omega arith;
          string-length = string-length-after bs next.string ∙ k.string-length;
          sheet-length = sheet-length-after sh next.sheet ∙ k.sheet-length;
          asks = ap written_question (asks-planned st ∙ asks-same S (advance S Y s a));
          unzeroed = λ q' e. let zl = zeroed-last s a q' e in omega arith;
        }

  -- ---- the holder
  -- it has taken nothing, or has opened by one of the messages that it took
  pub data HolderIs (H : Holder) (hs : List (List ℕ)) : Type 0 where
    unopened : H ≡ fresh_holder → hs ≡ [] → HolderIs H hs
    has_opened : OpenedIs H → H.bits ≡ c.xbits → H.answers ≡ length hs → (m : List ℕ) → Member m hs → read_question m c.xbits ≡ value (AskOpen H.h H.key) → HolderIs H hs

  member-last : (m : List ℕ) (hs : List (List ℕ)) → Member m (hs ++ (m ∷ []))
  member-last m [] = inl refl
  member-last m (x ∷ hs) = inr (member-last m hs)

  member-first : (m k : List ℕ) (hs : List (List ℕ)) → Member m hs → Member m (hs ++ (k ∷ []))
  member-first m k [] h = absurd h
  member-first m k (x ∷ hs) (inl e) = inl e
  member-first m k (x ∷ hs) (inr e) = inr (member-first m k hs e)

  pub holder-step : (H H' : Holder) (hs : List (List ℕ)) (m b : List ℕ) (capacity : ℕ) → HolderIs H hs → holder_call H c.x c.xbits m capacity ≡ replies H' b → HolderIs H' (hs ++ (m ∷ []))
  holder-step H H' hs m b capacity i e =
      let k = heard-call H c.x c.xbits m capacity H' b e in
      let o = holder-sound H c.x c.xbits m capacity H' b e in
      let rq : read_question m c.xbits ≡ value k.q = question-known m c.xbits k.known ∙ k.fields in
      go k.q rq o i (heard-made H c.x c.xbits m capacity H' b k)
    where
      go : (q : Question) → read_question m c.xbits ≡ value q → OpenedIs H' → HolderIs H hs → Made H c.xbits q H' → HolderIs H' (hs ++ (m ∷ []))
      go q rq o (unopened f n) (opens z h key d w e) =
          let an : H'.answers ≡ 1 = ap (λ (s : Holder). s.answers) e in
          let ln : length hs ≡ 0 = ap length n in
          let ls = length-snoc hs m in
          has_opened o (ap (λ (s : Holder). s.bits) e) (omega arith) m (member-last m hs)
          (rq ∙ ap value (sym d) ∙ sym (ap₂ (λ (u v : ℕ). value (AskOpen u v)) (ap (λ (s : Holder). s.h) e) (ap (λ (s : Holder). s.key) e)))
      go q rq o (unopened f n) (counts z w e) = absurd (true-false (sym z ∙ ap (λ (s : Holder). s.opened) f))
      go q rq o (has_opened p bt an m₀ mem rd) (opens z h key d w e) = absurd (true-false (sym p.opened ∙ z))
      go q rq o (has_opened p bt an m₀ mem rd) (counts z w e) =
          let a : H'.answers ≡ H.answers + 1 = ap (λ (s : Holder). s.answers) e in
          let ls = length-snoc hs m in
          has_opened o (ap (λ (s : Holder). s.bits) e ∙ bt) (omega arith) m₀ (member-first m₀ m hs mem)
          (rd ∙ sym (ap₂ (λ (u v : ℕ). value (AskOpen u v)) (ap (λ (s : Holder). s.h) e) (ap (λ (s : Holder). s.key) e)))

  -- ---- the questions that waited: in range, and an opening only if it is the rebuilder's own
  abbrev OwnOpening : Question → Type 0
  OwnOpening (AskOpen h key) = (h ≡ S.h) × (key ≡ S.key)
  OwnOpening (AskHash x p) = Unit {0}
  OwnOpening (AskSyndrome x p) = Unit {0}
  OwnOpening (AskBits x p) = Unit {0}
  OwnOpening (AskBurst x p b) = Unit {0}

  pub record Past (m : List ℕ) : Type 0 where
    pub q : Question
    pub range : InRange c.xbits q
    pub own : OwnOpening q
    pub is : m ≡ question_bytes q

  pub past-now : (n : ℕ) (s : Run) → Honest n s → (q : Question) → question S s ≡ some q → Past (question_bytes q)
  past-now n s h q k = record { q = q; range = in-range n s h q k; own = own-now s q k; is = refl }
    where
      not-open : (q : Question) → NotOpen q → OwnOpening q
      not-open (AskOpen h key) o = absurd o
      not-open (AskHash x p) o = tt
      not-open (AskSyndrome x p) o = tt
      not-open (AskBits x p) o = tt
      not-open (AskBurst x p b) o = tt

      own-now : (s : Run) (q : Question) → question S s ≡ some q → OwnOpening q
      own-now opening q k = let e : AskOpen S.h S.key ≡ q = cc in rw (← e) (refl, refl)
      own-now (working b d segs rows) q k = not-open q (later-not-open S (working b d segs rows) q tt k)
      own-now (whole b d segs rows) q k = not-open q (later-not-open S (whole b d segs rows) q tt k)

  pub past_more : (es : List (List ℕ)) (k : List ℕ) → ((m : List ℕ) → Member m es → Past m) → Past k → (m : List ℕ) → Member m (es ++ (k ∷ [])) → Past m
  past_more [] k f p m (inl e) = subst Past e p
  past_more [] k f p m (inr e) = absurd e
  past_more (x ∷ es) k f p m (inl e) = f m (inl e)
  past_more (x ∷ es) k f p m (inr e) = past_more es k (λ i j. f i (inr j)) p m e

  pub same-opening : (H : Holder) (m : List ℕ) → Past m → read_question m c.xbits ≡ value (AskOpen H.h H.key) → (H.h ≡ S.h) × (H.key ≡ S.key)
  same-opening H m p rd =
      let rr : read_question (question_bytes p.q) c.xbits ≡ value p.q = question-reads p.q c.xbits x-few p.range in
      let rm : read_question m c.xbits ≡ value p.q = ap (λ (z : List ℕ). read_question z c.xbits) p.is ∙ rr in
      let d : p.q ≡ AskOpen H.h H.key = cc in
      rw d at p.own

  turn-true : (q : Question) → NotOpen q → in_turn true (question_kind q) ≡ true
  turn-true (AskOpen h key) n = absurd n
  turn-true (AskHash x p) n = refl
  turn-true (AskSyndrome x p) n = refl
  turn-true (AskBits x p) n = refl
  turn-true (AskBurst x p b) n = refl

  -- "A holder that had taken each earlier question once and nothing else replies exactly this"
  module _ (n : ℕ) (s : Run) (h : Honest n s) (q : Question) (k : question S s ≡ some q) (reply : List ℕ) (long : longest_answer c.xbits ≤ length reply) where
    sends-it : (next : Holder) → sends (length reply) next (answer_bytes (honest_answer S X q)) ≡ replies next (answer_bytes (honest_answer S X q))
    unfolding sends
    sends-it next =
        let u = reply-short n s h q k in
        rw (le-leb (length (answer_bytes (honest_answer S X q))) (length reply) (omega arith)) refl

    -- before the opening
    pub opening-reply : s ≡ opening → holder_call fresh_holder c.x c.xbits (question_bytes q) (length reply) ≡ replies (after_answer fresh_holder c.xbits q) (answer_bytes (honest_answer S X q))
    unfolding holder_call same_bit_count
    opening-reply e =
        let o : AskOpen S.h S.key ≡ q = by-opening (rw e at k) in
        let rf = question-fields-read q c.xbits x-few (in-range n s h q k) in
        let rk = question-kind-reads q in
        let si = sends-it (after_answer fresh_holder c.xbits q) in
        let tk : in_turn false (question_kind q) ≡ true = ap (λ (z : Question). in_turn false (question_kind z)) (sym o) in
        let an : answer 0 0 X q ≡ honest_answer S X q = ap (λ (z : Question). answer 0 0 X z) (sym o) ∙ ap (λ (z : Question). honest_answer S X z) o in
        rw (sup.reference, fresh-holder-sound, rk) (rw (tk, rf, an) si)
      where
        by-opening : question S opening ≡ some q → AskOpen S.h S.key ≡ q
        by-opening e = cc

    -- after it
    pub later-reply : (H : Holder) → Opened s → OpenedIs H → H.bits ≡ c.xbits → H.answers < most_answers → (H.h ≡ S.h) × (H.key ≡ S.key)
        → holder_call H c.x c.xbits (question_bytes q) (length reply) ≡ replies (after_answer H c.xbits q) (answer_bytes (honest_answer S X q))
    unfolding holder_call same_bit_count
    later-reply H o p bt an hk =
        let no = later-not-open S s q o k in
        let t : in_turn H.opened (question_kind q) ≡ true = rw p.opened (turn-true q no) in
        let rf = question-fields-read q c.xbits x-few (in-range n s h q k) in
        let ans : answer H.h H.key X q ≡ honest_answer S X q = ap₂ (λ (i j : ℕ). answer i j X q) hk.0 hk.1 in
        let sc = same_count H c.xbits bt in
        rw (sup.reference, sc, opened-sound H p, lt-ltb H.answers most_answers an, question-kind-reads q) (rw (t, rf, ans) (sends-it (after_answer H c.xbits q)))
