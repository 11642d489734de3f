-- The bytes carry the rebuilder's state from call to call: what the start or a taken call leaves is read as its state.
use Rattle.std.specs.Prelude.{◌≡◌, true, List, ◌++◌, ℕ, zero, suc, ◌+◌, ◌≤◌, ◌<◌, length, get_or, leb, eqb}
use Rattle.std.proofs.Common.{div-le_self, arith}
use Rattle.std.proofs.Math.Decide.{ℕ_discrete, dec_lt}
use Rattle.std.proofs.Math.ListN.{get_or-eq_default}
use Rattle.strings.specs.Bits.{max_bits}
use Rattle.strings.specs.Bits.{Bytes}
use Rattle.strings.specs.StringRule.{string_rule}
use Rattle.strings.proofs.laws.RuleLaws.{rule-is}
use Rattle.strings.specs.laws.ResultLaws.{unless-passed}
use Rattle.strings.specs.laws.Tests.{by-test}
use Rattle.strings.specs.declared.Refusal.TheVariants.{BadSetting, BadString, OutOfTurn, BufferTooShort}
use Rattle.strings.specs.declared.settings.Settings.{Settings}
use Rattle.ends.specs.declared.Piece.{Piece}
use Rattle.ends.specs.declared.Phase.{Phase}
use Rattle.ends.specs.declared.Phase.TheVariants.{AtOpening, AtPieces, AtWhole}
use Rattle.ends.specs.declared.Rebuilder.{Rebuilder}
use Rattle.strings.specs.SettingLimits.{within_limits}
use Rattle.ends.specs.States.{no_piece, held}
use Rattle.ends.specs.Soundness.{sound, phase_sound, sound_at}
use Rattle.ends.specs.laws.Counts.{before-most}
use Rattle.ends.specs.laws.SoundLaws.{Ordered}
use Rattle.ends.specs.laws.SoundParts.{Framed, sound-is, OpeningIs, opening-is, PiecesIs, pieces-is, WholeIs, whole_is}
use Rattle.ends.specs.laws.SoundSteps.{fresh-sound}
use Rattle.ends.specs.RebuilderCall.{starts, fresh_rebuilder, takes, Step, Capacities}
use Rattle.ends.specs.laws.Asking.{call-sound}
use Rattle.ends.specs.laws.Delivery.{started-is}
use Rattle.layout.specs.Layout.{rebuilder_size, rebuilder_bytes, rebuilder_of, is_rebuilder}
use Rattle.layout.specs.laws.LayoutLaws.{PieceFits, RebuilderFits, rebuilder-read, rebuilder-bytes-front, rebuilder-pieces}
use Rattle.cabi.specs.Calls.{start_on_bytes, rebuilder_on_bytes}

-- ---- every number of a sound state is below 2^32
-- a piece of n bits of X and e of Y
piece-fits : (n e : ℕ) (pc : Piece) → n ≤ max_bits → e ≤ max_bits → pc.x + pc.p ≤ n → pc.y + pc.q ≤ e → PieceFits pc
piece-fits n e pc a b c d = record { x_fits = omega arith; p-fits = omega arith; y-fits = omega arith; q-fits = omega arith }

held_fits : (n e x y w : ℕ) (l : List Piece) → n ≤ max_bits → e ≤ max_bits → Ordered n e x y (held w l) → (i : ℕ) → i < w → PieceFits (get_or l i no_piece)
held_fits n e x y zero l a b o i h = absurd (omega arith)
held_fits n e x y (suc w) l a b o i h =
    go (ℕ_discrete i w)
    (λ k. held_fits n e ((get_or l w no_piece).x + (get_or l w no_piece).p) ((get_or l w no_piece).y + (get_or l w no_piece).q) w l a b o.6 i k)
  where
    go : Dec (i ≡ w) → (i < w → PieceFits (get_or l i no_piece)) → PieceFits (get_or l i no_piece)
    go (yes z) f = rw z (piece-fits n e (get_or l w no_piece) a b o.3 o.4)
    go (no z) f = f (omega arith)

none-fits : PieceFits no_piece
none-fits = record { x_fits = omega arith; p-fits = omega arith; y-fits = omega arith; q-fits = omega arith }

pieces-fit : (st : Rebuilder) → Framed st → length st.pieces ≡ 32 → Ordered st.n st.ybits 0 0 (held st.waiting st.pieces) → (i : ℕ) → PieceFits (get_or st.pieces i no_piece)
pieces-fit st f l o i = go (dec_lt i st.waiting) (dec_lt i 32)
  where
    go : Dec (i < st.waiting) → Dec (i < 32) → PieceFits (get_or st.pieces i no_piece)
    go (yes a) b = held_fits st.n st.ybits 0 0 st.waiting st.pieces f.size f.copy o i a
    go (no a) (yes b) = rw (f.blank i (omega arith) b) none-fits
    go (no a) (no b) = rw (get_or-eq_default st.pieces no_piece {n = i} (omega arith)) none-fits

-- the fields that the phase bounds. The bounds are not tight: that the numbers fit four bytes is all that is wanted of them
record Bounded (st : Rebuilder) : Type 0 where
  answered-most : st.answered ≤ 1000000
  counted-most : st.counted ≤ 1000000
  rows-most : st.rows ≤ 1000000
  order : Ordered st.n st.ybits 0 0 (held st.waiting st.pieces)

opening-bounded : (st : Rebuilder) → OpeningIs st → Bounded st
opening-bounded st k =
    let a = k.answered in
    let c = k.counted in
    let r = k.rows in
    record { answered-most = omega arith; counted-most = omega arith; rows-most = omega arith; order = rw k.waiting tt }

pieces-bounded : (st : Rebuilder) → Framed st → PiecesIs st → Bounded st
pieces-bounded st f k =
    let l = f.limits.ceiling-most in
    let n = f.size in
    let q = div-le_self st.n st.settings.m in
    let s = before-most st.stage in
    let r = k.stack.rows in
    let a = k.asks in
    let c = by-test (λ (v : ℕ). st.counted ≤ v → st.counted ≤ 1000000) (eqb st.waiting 0) (λ e h. omega arith) (λ e h. omega arith) k.counted in
    record { answered-most = omega arith; counted-most = c; rows-most = omega arith; order = k.stack.order }

whole-bounded : (st : Rebuilder) → Framed st → WholeIs st → Bounded st
whole-bounded st f k =
    let l = f.limits.ceiling-most in
    let n = f.size in
    let q = div-le_self st.n st.settings.m in
    let r = k.stack.rows in
    let a = k.asks in
    let c = k.counted in
    record { answered-most = omega arith; counted-most = omega arith; rows-most = omega arith; order = k.stack.order }

bounded : (st : Rebuilder) → Framed st → phase_sound st ≡ true → Bounded st
bounded st f e = go st.phase e
  where
    go : (p : Phase) → sound_at p st ≡ true → Bounded st
    go AtOpening h = opening-bounded st (opening-is st h)
    go AtPieces h = pieces-bounded st f (pieces-is st h)
    go AtWhole h = whole-bounded st f (whole_is st h)

pub sound-fits : (st : Rebuilder) → sound st ≡ true → length st.pieces ≡ 32 → RebuilderFits st
sound-fits st e l =
    let i = sound-is st e in
    let f = i.0 in
    let k = bounded st f i.1 in
    let m = f.limits in
    let m1 = m.m-most in let m2 = m.h-most in let m3 = m.k-most in let m4 = m.key-most in let m5 = m.ceiling-most in
    let f1 = f.copy in let f2 = f.size in let f3 = f.few in
    let k1 = k.answered-most in let k2 = k.counted-most in let k3 = k.rows-most in
    record {
      settings-fit = record { m-fits = omega arith; h_fits = omega arith; k-fits = omega arith; key_fits = omega arith; ceiling-fits = omega arith };
      ybits-fits = omega arith;
      n-fits = omega arith;
      answered-fits = omega arith;
      counted-fits = omega arith;
      rows-fits = omega arith;
      waiting-fits = omega arith;
      pieces-fit = pieces-fit st f l k.order;
      pieces-number = l;
    }

-- ---- the start and the call
-- what they leave, whatever follows it, is taken and read as the state
pub start-carried : (S : Settings) (y : List ℕ) (bits state_capacity capacity : ℕ) (st : Rebuilder) (m l : List ℕ) → start_on_bytes S y bits state_capacity capacity ≡ starts st m
    → (is_rebuilder (rebuilder_bytes st ++ l) ≡ true) × (rebuilder_of (rebuilder_bytes st ++ l) ≡ st)
unfolding start_on_bytes
start-carried S y bits state_capacity capacity st m l e =
    let t = unless-passed (within_limits S) BadSetting _ _ e in
    let u = unless-passed (string_rule y bits) BadString _ _ t.1 in
    let v = unless-passed (leb rebuilder_size state_capacity) BufferTooShort _ _ u.1 in
    let k = started-is S y bits capacity st m v.1 in
    let f = fresh-sound S bits k.limits (rule-is y bits k.string).few in
    (rebuilder-bytes-front st l, rebuilder-read st l (rw k.state (sound-fits (fresh_rebuilder S bits) f.0 f.1)))

pub call-carried : (s y : List ℕ) (bits : ℕ) (msg : List ℕ) (capacities : Capacities) (j : Step) (m l : List ℕ) → Bytes msg → rebuilder_on_bytes s y bits msg capacities ≡ takes j m
    → (is_rebuilder (rebuilder_bytes j.state ++ l) ≡ true) × (rebuilder_of (rebuilder_bytes j.state ++ l) ≡ j.state)
unfolding rebuilder_on_bytes
call-carried s y bits msg capacities j m l b e =
    let u = unless-passed (string_rule y bits) BadString _ _ e in
    let v = unless-passed (is_rebuilder s) OutOfTurn _ _ u.1 in
    let f = call-sound (rebuilder_of s) y bits msg capacities j m (rebuilder-pieces s) b v.1 in
    (rebuilder-bytes-front j.state l, rebuilder-read j.state l (sound-fits j.state f.0 f.1))
