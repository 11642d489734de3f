-- Whatever a call answers, the slice of its state keeps its length and the bytes behind a state's.
use Rattle.std.specs.Prelude.{◌≡◌, refl, Bool, true, false, List, ℕ, ◌≤◌, length, drop, leb}
use Rattle.std.proofs.Common.{subst, arith, length-append, length-drop, leb-true}
use Rattle.std.proofs.Math.Seq.{drop-append_seam}
use Rattle.strings.specs.Bits.{at_front}
use Rattle.strings.specs.StringRule.{string_rule}
use Rattle.strings.specs.Results.{Result, refusal, value}
use Rattle.strings.specs.laws.ResultLaws.{unless-passed}
use Rattle.strings.specs.declared.Refusal.TheVariants.{BadSetting, BadString, OutOfTurn, BufferTooShort}
use Rattle.strings.specs.declared.settings.Settings.{Settings}
use Rattle.strings.specs.SettingLimits.{within_limits}
use Rattle.ends.specs.HolderCall.{Reply, fresh_holder}
use Rattle.ends.specs.RebuilderCall.{Started, Taken, Capacities}
use Rattle.layout.specs.Layout.{holder_size, holder_bytes, is_holder, rebuilder_size, rebuilder_bytes, is_rebuilder}
use Rattle.layout.specs.laws.LayoutLaws.{length-holder, length-rebuilder, holder-long, rebuilder-long}
use Rattle.cabi.specs.Calls.{holder_made, holder_on_bytes, holder_left, start_on_bytes, start_left, rebuilder_on_bytes, capacities_in, rebuilder_left}

-- the bytes t that are left of the bytes s of a slice, for a state of n bytes
pub record StateKept (n : ℕ) (s t : List ℕ) : Type 0 where
  pub long : length t ≡ length s
  pub later : drop n t ≡ drop n s

kept_same : (n : ℕ) (s : List ℕ) → StateKept n s s
kept_same n s = record { long = refl; later = refl }

front_kept : (n : ℕ) (s b : List ℕ) → length b ≡ n → n ≤ length s → StateKept n s (at_front b s)
front_kept n s b e h = subst (λ (k : ℕ). StateKept k s (at_front b s)) e (record {
  long = (let a = length-append b (drop (length b) s) in let d = length-drop (length b) s in omega arith);
  later = drop-append_seam b (drop (length b) s);
})

-- ---- a fresh holder
pub made_kept : (s : List ℕ) → StateKept holder_size s (holder_made s).state
unfolding holder_made
made_kept s = go (leb holder_size (length s)) refl
  where
    go : (t : Bool) → leb holder_size (length s) ≡ t → StateKept holder_size s (holder_made s).state
    go true e = rw e (front_kept holder_size s (holder_bytes fresh_holder) (length-holder fresh_holder) (leb-true holder_size (length s) e))
    go false e = rw e (kept_same holder_size s)

-- ---- the holder's call
holder-capacity : (s x : List ℕ) (bits : ℕ) (msg : List ℕ) (capacity : ℕ) (r : Reply) → holder_on_bytes s x bits msg capacity ≡ value r → holder_size ≤ length s
unfolding holder_on_bytes
holder-capacity s x bits msg capacity r e =
    let u = unless-passed (string_rule x bits) BadString _ _ e in
    let v = unless-passed (is_holder s) OutOfTurn _ _ u.1 in
    holder-long s v.0

pub answer-kept : (s x : List ℕ) (bits : ℕ) (msg reply : List ℕ) → StateKept holder_size s (holder_left s reply (holder_on_bytes s x bits msg (length reply))).state
answer-kept s x bits msg reply = go (holder_on_bytes s x bits msg (length reply)) refl
  where
    go : (t : Result Reply) → holder_on_bytes s x bits msg (length reply) ≡ t → StateKept holder_size s (holder_left s reply t).state
    go (refusal number) e = kept_same holder_size s
    go (value r) e = front_kept holder_size s (holder_bytes r.state) (length-holder r.state) (holder-capacity s x bits msg (length reply) r e)

-- ---- the rebuilder's start
start-capacity : (S : Settings) (y : List ℕ) (bits state_capacity capacity : ℕ) (b : Started) → start_on_bytes S y bits state_capacity capacity ≡ value b → rebuilder_size ≤ state_capacity
unfolding start_on_bytes
start-capacity S y bits state_capacity capacity b e =
    let t = unless-passed (within_limits S) BadSetting _ _ e in
    let u = unless-passed (string_rule y bits) BadString _ _ t.1 in
    let v = unless-passed (leb rebuilder_size state_capacity) BufferTooShort _ _ u.1 in
    leb-true rebuilder_size state_capacity v.0

pub start-kept : (S : Settings) (y : List ℕ) (bits : ℕ) (s question : List ℕ) → StateKept rebuilder_size s (start_left s question (start_on_bytes S y bits (length s) (length question))).state
start-kept S y bits s question = go (start_on_bytes S y bits (length s) (length question)) refl
  where
    go : (t : Result Started) → start_on_bytes S y bits (length s) (length question) ≡ t → StateKept rebuilder_size s (start_left s question t).state
    go (refusal number) e = kept_same rebuilder_size s
    go (value b) e = front_kept rebuilder_size s (rebuilder_bytes b.state) (length-rebuilder b.state) (start-capacity S y bits (length s) (length question) b e)

-- ---- the rebuilder's call
call-capacity : (s y : List ℕ) (bits : ℕ) (msg : List ℕ) (capacities : Capacities) (t : Taken) → rebuilder_on_bytes s y bits msg capacities ≡ value t → rebuilder_size ≤ length s
unfolding rebuilder_on_bytes
call-capacity s y bits msg capacities t e =
    let u = unless-passed (string_rule y bits) BadString _ _ e in
    let v = unless-passed (is_rebuilder s) OutOfTurn _ _ u.1 in
    rebuilder-long s v.0

pub call_kept : (s y : List ℕ) (bits : ℕ) (msg string sheet question : List ℕ)
    → StateKept rebuilder_size s (rebuilder_left s string sheet question (rebuilder_on_bytes s y bits msg (capacities_in string sheet question))).state
call_kept s y bits msg string sheet question = go (rebuilder_on_bytes s y bits msg (capacities_in string sheet question)) refl
  where
    go : (t : Result Taken) → rebuilder_on_bytes s y bits msg (capacities_in string sheet question) ≡ t → StateKept rebuilder_size s (rebuilder_left s string sheet question t).state
    go (refusal number) e = kept_same rebuilder_size s
    go (value t) e = front_kept rebuilder_size s (rebuilder_bytes t.step.state) (length-rebuilder t.step.state) (call-capacity s y bits msg (capacities_in string sheet question) t e)
