-- One message more at the end of a run's messages, and one list of calls behind another.
use Rattle.std.specs.Prelude.{◌≡◌, refl, Bool, List, [], ◌∷◌, ◌++◌, ℕ, ◌+◌, ◌<◌, length}
use Rattle.std.proofs.Common.{arith}
use Rattle.std.proofs.Math.Seq.{take-append_seam}
use Rattle.strings.specs.Bits.{at_front}
use Rattle.strings.specs.Results.{value}
use Rattle.strings.specs.declared.settings.Settings.{Settings}
use Rattle.ends.specs.Claims.{zeroed_from, zeroed_next}
use Rattle.ends.specs.RebuilderOutcome.{next_size}
use Rattle.ends.specs.Runs.{Run, answer_for, continued, question, run_from}
use Rattle.ends.specs.Statement.{counted_bytes, lengths}
use Rattle.ends.specs.Worlds.{Call, Each, Lent, World, last_written, step_world, world_after}

-- ---- messages
module _ (S : Settings) (Y : List Bool) where
  pub run-snoc : (s : Run) (ms : List (List ℕ)) (m : List ℕ) → run_from S Y s (ms ++ (m ∷ [])) ≡ continued S Y (run_from S Y s ms) (answer_for S (question S (run_from S Y s ms)) m)
  run-snoc s [] m = refl
  run-snoc s (k ∷ ms) m = run-snoc (continued S Y s (answer_for S (question S s) k)) ms m

  pub zeroed-snoc : (s : Run) (ms : List (List ℕ)) (m : List ℕ) → zeroed_from S Y s (ms ++ (m ∷ [])) ≡ zeroed_from S Y s ms + zeroed_next (run_from S Y s ms)
  zeroed-snoc s [] m = omega arith
  zeroed-snoc s (k ∷ ms) m = let e = zeroed-snoc (continued S Y s (answer_for S (question S s) k)) ms m in omega arith

pub length-snoc : {A : Type 0} (l : List A) (a : A) → length (l ++ (a ∷ [])) ≡ length l + 1
length-snoc [] a = refl
length-snoc (b ∷ l) a = let e = length-snoc l a in omega arith

lengths-snoc : (ms : List (List ℕ)) (m : List ℕ) → lengths (ms ++ (m ∷ [])) ≡ lengths ms + length m
lengths-snoc [] m = omega arith
lengths-snoc (k ∷ ms) m = let e = lengths-snoc ms m in omega arith

pub counted-snoc : (ms : List (List ℕ)) (m : List ℕ) → 0 < length ms → counted_bytes (ms ++ (m ∷ [])) ≡ counted_bytes ms + length m
counted-snoc [] m h = absurd (omega arith)
counted-snoc (k ∷ ms) m h = lengths-snoc ms m

-- the question at the front of its buffer is the one last written
pub written-waits : (before q buffer : List ℕ) → last_written before (value (next_size q)) (at_front q buffer) ≡ q
written-waits before [] buffer = refl
written-waits before (b ∷ q) buffer = take-append_seam (b ∷ q) _

-- ---- lists of calls
pub after_both : (c : Lent) (w : World) (ks ls : List Call) → world_after c w (ks ++ ls) ≡ world_after c (world_after c w ks) ls
after_both c w [] ls = refl
after_both c w (k ∷ ks) ls = after_both c (step_world c w k) ks ls

pub each_both : (P : World → Call → Type 0) (c : Lent) (w : World) (ks ls : List Call) → Each P c w ks → Each P c (world_after c w ks) ls → Each P c w (ks ++ ls)
each_both P c w [] ls e f = f
each_both P c w (k ∷ ks) ls e f = (e.0, each_both P c (step_world c w k) ks ls e.1 f)
