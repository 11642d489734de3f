-- Runs end: while a question waits the holder's answer to it is taken, and only so many are.
use Rattle.std.specs.Prelude.{◌≡◌, refl, List, [], ◌∷◌, ◌++◌, ℕ, zero, suc, ◌+◌, ◌*◌, ◌/◌, ◌<◌, length, replicate}
use Rattle.std.proofs.Common.{ap, ◌∙◌, arith}
use Rattle.std.proofs.Math.Option.{Option, none, some}
use Rattle.strings.specs.Results.{Result}
use Rattle.messages.specs.Answers.{answer_bytes}
use Rattle.messages.specs.declared.Question.{Question}
use Rattle.ends.specs.RebuilderCall.{Taken, written_question}
use Rattle.ends.specs.Runs.{honest_answer}
use Rattle.ends.specs.SheetCall.{leaves_on_sheet}
use Rattle.ends.specs.Statement.{Admitted, Supposed, asked}
use Rattle.ends.specs.Worlds.{Call, Each, Lent, World, after_rebuilder, bits_of_x, first_world, step_world, to_rebuilder, world_after}
use Rattle.ends.proofs.laws.Claimed.{Known, after-claims, call_known, call-takes, first-known, list-known, waiting-reads}
use Rattle.ends.specs.laws.RunLaws.{after_both, each_both, length-snoc}

module _ (c : Lent) (sup : Supposed c) where
  abbrev most : ℕ
  most = 10 * (c.xbits / c.settings.m) + 6

  -- none waits, or there is a message that the rebuilder takes
  data Next (w : World) : Type 0 where
    ends : w.waiting ≡ [] → Next w
    goes : (m : List ℕ) → Admitted c w (to_rebuilder m (replicate 8 0)) → length (step_world c w (to_rebuilder m (replicate 8 0))).taken ≡ suc (length w.taken) → Next w

  next : (w : World) → Known c sup w → Next w
  next w k = go (asked c w) refl
    where
      go : (o : Option Question) → asked c w ≡ o → Next w
      go none e = ends (k.rep.asks ∙ ap written_question e)
      go (some q) e =
          let m = answer_bytes (honest_answer c.settings (bits_of_x c) q) in
          let ls = length-snoc w.taken m in
          let tk = ap (λ (o : Result Taken). length (after_rebuilder w m (leaves_on_sheet w.rebuilder w.sheet w.string (replicate 8 0) o)).taken) (call-takes c sup w k q e (replicate 8 0) (omega arith)) in
          goes m (omega arith, λ t. record { q = q; reads = waiting-reads c sup w k q e; is = refl }) (omega arith)

  -- fuel is more than what may still be taken
  go_on : (fuel : ℕ) (w : World) → Known c sup w → most < fuel + length w.taken → (more : List Call) × Each (Admitted c) c w more × ((world_after c w more).waiting ≡ [])
  go_on zero w k b = let h = (after-claims c sup w k).questions in absurd (omega arith)
  go_on (suc n) w k b = by (next w k) (go_on n)
    where
      by : Next w → ((w : World) → Known c sup w → most < n + length w.taken → (more : List Call) × Each (Admitted c) c w more × ((world_after c w more).waiting ≡ []))
          → (more : List Call) × Each (Admitted c) c w more × ((world_after c w more).waiting ≡ [])
      by (ends e) again = ([], tt, e)
      by (goes m a t) again =
          let r = again (step_world c w (to_rebuilder m (replicate 8 0))) (call_known c sup w k (to_rebuilder m (replicate 8 0)) a) (omega arith) in
          (to_rebuilder m (replicate 8 0) ∷ r.0, (a, r.1), r.2)

  pub all_end : (ks : List Call) → Each (Admitted c) c (first_world c) ks
      → (more : List Call) × Each (Admitted c) c (first_world c) (ks ++ more) × ((world_after c (first_world c) (ks ++ more)).waiting ≡ [])
  all_end ks a =
      let w = world_after c (first_world c) ks in
      let r = go_on (suc most) w (list-known c sup (first_world c) (first-known c sup) ks a) (omega arith) in
      (r.0, each_both (Admitted c) c (first_world c) ks r.0 a r.1, ap (λ (v : World). v.waiting) (after_both c (first_world c) ks r.0) ∙ r.2)
