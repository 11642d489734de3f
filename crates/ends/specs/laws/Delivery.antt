-- Parts of the proof of demand 3: questions, lengths of buffers, counts, the start.
use Rattle.std.specs.Prelude.{◌≡◌, refl, Bool, true, List, [], ◌∷◌, ℕ, ◌+◌, ◌-◌, ◌≤◌, replicate, length, leb}
use Rattle.std.proofs.Common.{ap, sym, arith, leb-true, le-leb}
use Rattle.std.proofs.Math.Option.{some}
use Rattle.std.proofs.Math.Seq.{length-sets}
use Rattle.strings.specs.laws.ResultLaws.{unless-passed, value-is}
use Rattle.messages.specs.Answers.{Answer}
use Rattle.messages.specs.laws.QuestionLaws.{InRange}
use Rattle.messages.specs.Questions.{question_bytes, question_length}
use Rattle.messages.specs.declared.Question.{Question}
use Rattle.messages.specs.declared.Question.TheVariants.{AskBits, AskHash, AskOpen, AskSyndrome, AskBurst}
use Rattle.strings.specs.SettingLimits.{Limits, within_limits}
use Rattle.ends.specs.laws.Kept.{Opened}
use Rattle.ends.specs.laws.Moves.{effect_state, moved-effect, moved-opening}
use Rattle.ends.specs.RebuilderCall.{StringChange, clears, effect_step, fresh_rebuilder, keeps, no_row, opening_step, rebuilder_start, sheet_after, starts, step_of, string_after, tallied, whole_step, writes, Started}
use Rattle.ends.specs.Runs.{Run, opening, question, whole, working}
use Rattle.ends.specs.Segments.{Effect, Segment, ask, asks, dropped, effect, settled, settles, splits, stays, the_bits, the_size, waiting}
use Rattle.ends.specs.laws.Shape.{Inside}
use Rattle.strings.specs.laws.SettingLaws.{limits-is}
use Rattle.ends.specs.laws.SoundParts.{PhaseOf, is_opening, is_pieces, is_whole, phase-of, sound-is, top-is}
use Rattle.ends.specs.Soundness.{sound}
use Rattle.ends.specs.States.{planned, popped, restaged, retried, split_at, top}
use Rattle.ends.specs.laws.Steps.{step-opening, step-pieces, step-whole}
use Rattle.ends.specs.declared.Rebuilder.{Rebuilder}
use Rattle.ends.specs.declared.Row.{Row}
use Rattle.strings.specs.declared.settings.Settings.{Settings}
use Rattle.ends.specs.declared.SheetChange.{SheetChange}
use Rattle.ends.specs.declared.SheetChange.TheVariants.{AddRow, NoRow, OneRow}
use Rattle.strings.specs.Bits.{bytes_for, range, max_bits}
use Rattle.strings.proofs.laws.PackLaws.{length-cleared}
use Rattle.strings.specs.StringRule.{string_rule}
use Rattle.strings.proofs.laws.WriteLaws.{length-write_bits}
use Rattle.strings.specs.declared.Refusal.TheVariants.{BadSetting, BadString, BufferTooShort}
use Rattle.ends.specs.declared.Stage.TheVariants.{Hashing, PuttingIn, TakingOut, Anchor, AllBits, Columns}
use Rattle.ends.specs.declared.Stage.{Stage}

-- ---- questions
abbrev pub NotOpen : Question → Type 0
NotOpen (AskOpen h key) = ⊥
NotOpen (AskHash x p) = Unit {0}
NotOpen (AskSyndrome x p) = Unit {0}
NotOpen (AskBits x p) = Unit {0}
NotOpen (AskBurst x p b) = Unit {0}

pub asks-not-open : (S : Settings) (x p q : ℕ) (t : Stage) → NotOpen (asks S x p q t)
asks-not-open S x p q Hashing = tt
asks-not-open S x p q PuttingIn = tt
asks-not-open S x p q TakingOut = tt
asks-not-open S x p q Columns = tt
asks-not-open S x p q (Anchor i) = tt
asks-not-open S x p q AllBits = tt

pub ask-not-open : (S : Settings) (x : ℕ) (segs : List Segment) (q : Question) → ask S x segs ≡ some q → NotOpen q
ask-not-open S x [] q k = let z : ◌≡◌ {A = ℕ} 0 1 = cc in absurd (omega arith)
ask-not-open S x (dropped ys ∷ r) q k = ask-not-open S x r q k
ask-not-open S x (settled w ys b ∷ r) q k = ask-not-open S (x + length b) r q k
ask-not-open S x (waiting p ys t ∷ r) q k = let e : asks S x p (length ys) t ≡ q = cc in rw e at (asks-not-open S x p (length ys) t)

pub later-not-open : (S : Settings) (s : Run) (q : Question) → Opened s → question S s ≡ some q → NotOpen q
later-not-open S opening q n k = absurd n
later-not-open S (working n c segs rows) q m k = ask-not-open S 0 segs q k
later-not-open S (whole n c segs rows) q m k = let e : AskBits 0 n ≡ q = cc in rw (← e) tt

pub inside-range : (n : ℕ) (q : Question) → NotOpen q → Inside n q → InRange n q
inside-range n (AskOpen h key) o i = absurd o
inside-range n (AskHash x p) o i = record { within = record { some = i.0; ends = i.1 }; key-most = omega arith }
inside-range n (AskSyndrome x p) o i = record { within = record { some = i.0; ends = i.1 }; key-most = omega arith }
inside-range n (AskBits x p) o i = record { within = record { some = i.0; ends = i.1 }; key-most = omega arith }
inside-range n (AskBurst x p b) o i = record { within = record { range = record { some = i.0; ends = i.1 }; b-least = i.2; b-most = i.3 }; key-most = omega arith }

pub length_most : (n : ℕ) (q : Question) → n ≤ max_bits → InRange n q → question_length q ≤ max_bits
length_most n (AskOpen h key) m r = omega arith
length_most n (AskHash x p) m r = let e = r.within.ends in omega arith
length_most n (AskSyndrome x p) m r = let e = r.within.ends in omega arith
length_most n (AskBits x p) m r = let e = r.within.ends in omega arith
length_most n (AskBurst x p b) m r = let e = r.within.range.ends in omega arith

-- ---- buffers keep their lengths
pub string-length-after : (bs : List ℕ) (k : StringChange) → length (string_after bs k) ≡ length bs
string-length-after bs keeps = refl
string-length-after bs (clears n) = length-cleared bs 0 (bytes_for n)
string-length-after bs (writes at l) = length-write_bits bs at l

pub sheet-length-after : (sh : List Row) (k : SheetChange) → length (sheet_after sh k) ≡ length sh
sheet-length-after sh NoRow = refl
sheet-length-after sh (AddRow i r) = length-sets sh i (r ∷ [])
sheet-length-after sh (OneRow u r) = length-sets sh 0 (r ∷ replicate (u - 1) no_row)

-- a step counts one answer more
tallied-answered : (st s : Rebuilder) (size rows : ℕ) → s.answered ≡ st.answered → (tallied s size rows).answered ≡ st.answered + 1
unfolding tallied
tallied-answered st s size rows e = ap (λ (n : ℕ). n + 1) e

effect-answered : (st : Rebuilder) (size : ℕ) (e : Effect) → (effect_state st e).answered ≡ st.answered → (effect_step st size e).state.answered ≡ st.answered + 1
unfolding effect_step
effect-answered st size (settles w b) e = tallied-answered st (restaged (popped st)) size 1 e
effect-answered st size (stays t) e = tallied-answered st (retried st) size 0 e
effect-answered st size (splits s r b) e = tallied-answered st (split_at st s r) size 1 e

opening-answered : (st : Rebuilder) (n : ℕ) → length st.pieces ≡ 32 → (opening_step st n).state.answered ≡ st.answered + 1
opening-answered st n arr = (moved-opening st n arr).answered

whole-answered : (st : Rebuilder) (size : ℕ) (l : List Bool) → (whole_step st size l).state.answered ≡ st.answered + 1
unfolding whole_step
whole-answered st size l = refl

pub step-answered : (st : Rebuilder) (y : List ℕ) (q : Question) (a : Answer) (size : ℕ) → length st.pieces ≡ 32 → sound st ≡ true → planned st ≡ some q → (step_of st y size a).state.answered ≡ st.answered + 1
step-answered st y q a size arr s k = let f = sound-is st s in go (phase-of st q f.1 k)
  where
    go : PhaseOf st q → (step_of st y size a).state.answered ≡ st.answered + 1
    go (is_opening p i e) = rw (step-opening st y size a p) (opening-answered st (the_size a) arr)
    go (is_pieces p i w e) =
        let t = top-is st i.stack w in
        let f = effect st.settings a (top st).p (range y (top st).y (top st).q) st.stage in
        rw (step-pieces st y size a p) (effect-answered st size f (moved-effect st.settings st refl arr w t.few f).answered)
    go (is_whole p i e) = rw (step-whole st y size a p) (whole-answered st size (the_bits a))

-- ---- the start
pub record StartedIs (S : Settings) (y : List ℕ) (bits capacity : ℕ) (r : Rebuilder) (q : List ℕ) : Type 0 where
  pub limits : Limits S
  pub string : string_rule y bits ≡ true
  pub enough : 8 ≤ capacity
  pub state : r ≡ fresh_rebuilder S bits
  pub question : q ≡ question_bytes (AskOpen S.h S.key)

pub started-is : (S : Settings) (y : List ℕ) (bits qr : ℕ) (r : Rebuilder) (q : List ℕ) → rebuilder_start S y bits qr ≡ starts r q → StartedIs S y bits qr r q
unfolding rebuilder_start
started-is S y bits qr r q e =
    let u = unless-passed (within_limits S) BadSetting _ _ e in
    let v = unless-passed (string_rule y bits) BadString _ _ u.1 in
    let w = unless-passed (leb 8 qr) BufferTooShort _ _ v.1 in
    let d = value-is w.1 in
    record { limits = limits-is S u.0; string = v.0; enough = leb-true 8 qr w.0; state = sym (ap (λ (z : Started). z.state) d); question = sym (ap (λ (z : Started). z.question) d) }

-- a legal start is taken
pub starts-so : (S : Settings) (y : List ℕ) (bits qr : ℕ) → within_limits S ≡ true → string_rule y bits ≡ true → 8 ≤ qr
    → rebuilder_start S y bits qr ≡ starts (fresh_rebuilder S bits) (question_bytes (AskOpen S.h S.key))
unfolding rebuilder_start
starts-so S y bits qr l r e = rw (l, r, le-leb 8 qr e) refl
