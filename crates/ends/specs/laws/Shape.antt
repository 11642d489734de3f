-- What the pieces keep, whatever a reader lets through as an answer.
use Rattle.std.specs.Prelude.{◌≡◌, refl, Bool, List, length, take, drop, eqb}
use Rattle.std.proofs.Common.{ap, ◌∙◌, subst}
use Rattle.std.proofs.Math.Option.{Option, none, some}
use Prim.Native.Nat.{ℕ, zero, suc, ◌+◌, ◌-◌, ◌≤◌, ◌<◌}
use native.Mathlib.Omega.{arith}
use Rattle.codes.specs.Repair.{put_in, take_out}
use Rattle.codes.specs.laws.RepairLaws.{put-in-length, take-out-length}
use Rattle.messages.specs.Answers.{Answer, bits_answer, hash_answer, size_answer, syndrome_answer, burst_answer}
use Rattle.messages.specs.laws.AnswerLaws.{Proper, Values, answer-most, answer_kind, bits-answer-size}
use Rattle.messages.specs.Questions.{question_kind, question_length, question_burst}
use Rattle.messages.specs.declared.Kind.TheVariants.{Bits, Burst}
use Rattle.messages.specs.declared.Question.{Question}
use Rattle.messages.specs.declared.Question.TheVariants.{AskBits, AskHash, AskOpen, AskSyndrome, AskBurst}
use Rattle.ends.specs.Anchors.{place, distance}
use Rattle.strings.specs.SettingLimits.{Limits}
use Rattle.ends.specs.laws.Right.{Fit, StageOk, after-ok, begin-span, first-ok, later-ok, offset-fits, run-apart}
use Rattle.ends.specs.Runs.{size_of, full, longest_answer}
use Rattle.ends.specs.laws.SegmentLaws.{Chain}
use Rattle.ends.specs.Segments.{Effect, Segment, asks, begin, dropped, effect, hash_of, made, placed, retry, settled, settles, span, the_bits, the_hash, the_size, the_syndrome, trial, trial_of, waiting, work, offset, after_anchor, the_syndromes}
use Rattle.ends.specs.declared.How.{How}
use Rattle.ends.specs.declared.How.TheVariants.{ByHash, ByPutIn, ByTakeOut, ByBurst}
use Rattle.strings.specs.declared.settings.Settings.{Settings}
use Rattle.strings.specs.laws.Tests.{by-test}
use Rattle.ends.specs.declared.Stage.TheVariants.{Hashing, PuttingIn, TakingOut, Anchor, AllBits, Columns}
use Rattle.strings.specs.Bits.{max_bits}
use Rattle.ends.specs.declared.Stage.{Stage}
use Rattle.codes.specs.Columns.{repair_run}
use Rattle.codes.specs.laws.ColumnLaws.{repair-run-found}

-- a piece of a reference of n bits, at its start x
abbrev pub Shape : Settings → ℕ → ℕ → Segment → Type 0
Shape S n x (dropped ys) = Unit {0}
Shape S n x (waiting p ys t) = (x + p ≤ n) × StageOk S p (length ys) t × (0 < p)
Shape S n x (settled w ys b) = x + length b ≤ n

-- the answer is of the kind asked for, and in range: what a reader lets through
abbrev pub ProperFor : Settings → Question → Answer → Type 0
ProperFor S q a = Proper (question_kind q) (question_length q) (question_burst q) S.h a

-- an answer of bits is made of them
is-bits : (a : Answer) → answer_kind a ≡ Bits → a ≡ bits_answer (the_bits a)
is-bits (size_answer n) e = cc
is-bits (hash_answer v) e = cc
is-bits (syndrome_answer s v) e = cc
is-bits (bits_answer l) e = refl
is-bits (burst_answer ss v) e = cc

pub size-bits : (l : List Bool) → size_of (bits_answer l) ≡ full (length l)
unfolding size_of
size-bits l = bits-answer-size l

-- the values of a proper answer to each kind of question that is looked into
pub proper-size : (S : Settings) (h key : ℕ) (a : Answer) → ProperFor S (AskOpen h key) a → the_size a ≤ max_bits
proper-size S h key (size_answer n) p = p.values
proper-size S h key (hash_answer v) p = omega arith
proper-size S h key (syndrome_answer s v) p = omega arith
proper-size S h key (bits_answer l) p = omega arith
proper-size S h key (burst_answer ss v) p = omega arith

pub proper-bits : (S : Settings) (x p : ℕ) (a : Answer) → ProperFor S (AskBits x p) a → length (the_bits a) ≡ p
proper-bits S x p a h = (subst (Values p 0 S.h) (is-bits a h.of-kind) h.values).0

pub proper-full : (S : Settings) (x p : ℕ) (a : Answer) → ProperFor S (AskBits x p) a → size_of a ≡ full p
proper-full S x p a h = ap size_of (is-bits a h.of-kind) ∙ size-bits (the_bits a) ∙ ap full (proper-bits S x p a h)

-- a burst's answer has a syndrome for each column
is-burst : (a : Answer) → answer_kind a ≡ Burst → a ≡ burst_answer (the_syndromes a) (the_hash a)
is-burst (size_answer n) e = cc
is-burst (hash_answer v) e = cc
is-burst (syndrome_answer s v) e = cc
is-burst (bits_answer l) e = cc
is-burst (burst_answer ss v) e = refl

pub proper-syndromes : (S : Settings) (x p b : ℕ) (a : Answer) → ProperFor S (AskBurst x p b) a → length (the_syndromes a) ≡ b
proper-syndromes S x p b a h = (subst (Values p b S.h) (is-burst a h.of-kind) h.values).many

-- a range of n bits
abbrev pub Inside : ℕ → Question → Type 0
Inside n (AskOpen h key) = Unit {0}
Inside n (AskHash x p) = (0 < p) × (x + p ≤ n)
Inside n (AskSyndrome x p) = (0 < p) × (x + p ≤ n)
Inside n (AskBits x p) = (0 < p) × (x + p ≤ n)
Inside n (AskBurst x p b) = (0 < p) × (x + p ≤ n) × (2 ≤ b) × (b ≤ 32)

inside-length : (n : ℕ) (q : Question) → Inside n q → question_length q ≤ n
inside-length n (AskOpen h key) i = omega arith
inside-length n (AskHash x p) i = let j = i.1 in omega arith
inside-length n (AskSyndrome x p) i = let j = i.1 in omega arith
inside-length n (AskBits x p) i = let j = i.1 in omega arith
inside-length n (AskBurst x p b) i = let j = i.1 in omega arith

-- what kind 4 asks for: at most 32 columns
inside-burst : (n : ℕ) (q : Question) → Inside n q → question_burst q ≤ 32
inside-burst n (AskOpen h key) i = omega arith
inside-burst n (AskHash x p) i = omega arith
inside-burst n (AskSyndrome x p) i = omega arith
inside-burst n (AskBits x p) i = omega arith
inside-burst n (AskBurst x p b) i = i.3

-- a proper answer's bytes
pub sizes : (S : Settings) (n : ℕ) → n ≤ max_bits → (q : Question) (a : Answer) → Inside n q → ProperFor S q a → size_of a ≤ longest_answer n
unfolding size_of
sizes S n h q a i p = let l = inside-length n q i in let c = inside-burst n q i in let e = answer-most (question_length q) (question_burst q) S.h a (omega arith) c p.values in omega arith

-- ---- what an answer makes of a waiting piece
module _ (S : Settings) (L : Limits S) (n : ℕ) where
  pub begin-shape : (x p : ℕ) (ys : List Bool) → x + p ≤ n → Shape S n x (begin S p ys)
  unfolding begin
  begin-shape x zero ys h = tt
  begin-shape x (suc p) ys h = (h, first-ok S L (suc p) (length ys), omega arith)

  -- what an effect makes has the piece's place
  abbrev Fine : ℕ → ℕ → List Bool → Effect → Type 0
  Fine x p ys e = Chain (Shape S n) x (made S p ys e) (x + p)

  again : (x p : ℕ) (ys : List Bool) → x + p ≤ n → 0 < p → Fine x p ys (retry S p ys)
  again x p ys h o = ((h, later-ok S L p (length ys), o), refl)

  trial-shape : (x p v : ℕ) (w : How) (ys b : List Bool) → x + p ≤ n → 0 < p → length b ≡ p → Fine x p ys (trial S v w b (retry S p ys))
  trial-shape x p v w ys b h o e = by-test (Fine x p ys) (eqb (hash_of S b) v) {a = settles w b} (λ q. (omega arith, omega arith)) (λ q. again x p ys h o)

  trial_of-shape : (x p v : ℕ) (w : How) (ys : List Bool) (o : Option (List Bool)) → x + p ≤ n → 0 < p → ((b : List Bool) → o ≡ some b → length b ≡ p) → Fine x p ys (trial_of S v w o (retry S p ys))
  trial_of-shape x p v w ys none h o k = again x p ys h o
  trial_of-shape x p v w ys (some b) h o k = trial-shape x p v w ys b h o (k b refl)

  placed-shape : (x p s : ℕ) (ys b : List Bool) (u : Stage) (o : Option ℕ) → x + p ≤ n → 0 < p → Fit S p s → StageOk S p (length ys) u → length b ≡ S.m → Fine x p ys (placed s b u o)
  placed-shape x p s ys b u none h o f k e = ((h, k, o), refl)
  placed-shape x p s ys b u (some r) h o f k e =
      let q = f.inside in
      let c = begin-span S L s (take r ys) in
      let v = begin-span S L (p - (s + S.m)) (drop (r + S.m) ys) in (
        begin-shape x s (take r ys) (omega arith),
        (omega arith, (begin-shape (x + span (begin S s (take r ys)) + length b) (p - (s + S.m)) (drop (r + S.m) ys) (omega arith), omega arith)),
      )

  pub work-shape : (x p : ℕ) (ys : List Bool) (t : Stage) (a : Answer) → Shape S n x (waiting p ys t) → ProperFor S (asks S x p (length ys) t) a → Chain (Shape S n) x (work S a p ys t) (x + p)
  unfolding effect
  work-shape x p ys Hashing a h k = trial-shape x p (the_hash a) ByHash ys ys h.0 h.2 h.1
  work-shape x p ys PuttingIn a h k = let d = h.1 in trial_of-shape x p (the_hash a) ByPutIn ys (put_in (the_syndrome a) ys) h.0 h.2 (λ b e. let l = put-in-length (the_syndrome a) ys b e in omega arith)
  work-shape x p ys TakingOut a h k = let d = h.1 in trial_of-shape x p (the_hash a) ByTakeOut ys (take_out (the_syndrome a) ys) h.0 h.2 (λ b e. let l = take-out-length (the_syndrome a) ys b e in omega arith)
  work-shape x p ys Columns a h k =
      trial_of-shape x p (the_hash a) ByBurst ys (repair_run (distance p (length ys)) p (the_syndromes a) ys) h.0 h.2 (λ b e.
      (repair-run-found (distance p (length ys)) p (the_syndromes a) ys b (omega (arith, h.1.0)) (proper-syndromes S x p (distance p (length ys)) a k) (run-apart p (length ys)) e).0)
  work-shape x p ys AllBits a h k = let e = proper-bits S x p a k in let d = h.0 in (omega arith, omega arith)
  work-shape x p ys (Anchor i) a h k =
      let s = offset S.m p i in
      placed-shape x p s ys (the_bits a) (after_anchor i) (place S.m S.k p s ys (the_bits a)) h.0 h.2 (offset-fits S L p i h.1) (after-ok S L p (length ys) i h.1) (proper-bits S (x + s) S.m a k)

  pub asks-inside : (x p : ℕ) (ys : List Bool) (t : Stage) → Shape S n x (waiting p ys t) → Inside n (asks S x p (length ys) t)
  asks-inside x p ys Hashing g = (g.2, g.0)
  asks-inside x p ys PuttingIn g = (g.2, g.0)
  asks-inside x p ys TakingOut g = (g.2, g.0)
  asks-inside x p ys Columns g = (g.2, g.0, g.1.0, g.1.1)
  asks-inside x p ys AllBits g = (g.2, g.0)
  asks-inside x p ys (Anchor i) g = let r = (offset-fits S L p i g.1).inside in let a = g.0 in let b = L.m-least in (omega arith, omega arith)
