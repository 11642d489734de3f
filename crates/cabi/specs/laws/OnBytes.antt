-- Demand 3 on bytes: the start, and every list of calls.
use Rattle.std.specs.Prelude.{◌≡◌, List, [], ◌∷◌, ℕ, length, drop}
use Rattle.std.proofs.Math.Path.{refl}
use Rattle.std.proofs.Common.{sym, ap, ◌∙◌, subst, arith}
use borrow.Author.Tests.{le-leb}
use Rattle.strings.specs.Bits.{at_front}
use Rattle.strings.specs.Results.{Result}
use Rattle.messages.specs.Questions.{question_bytes}
use Rattle.messages.specs.declared.Question.TheVariants.{AskOpen}
use Rattle.ends.specs.HolderCall.{fresh_holder}
use Rattle.ends.specs.RebuilderCall.{Started, fresh_rebuilder, rebuilder_start, starts}
use Rattle.ends.specs.RebuilderOutcome.{leaves_start}
use Rattle.ends.specs.Statement.{Supposed}
use Rattle.ends.specs.Worlds.{Call, Lent, first_world, to_holder, to_rebuilder}
use Rattle.ends.proofs.laws.Claimed.{Known, after-claims, first-known}
use Rattle.ends.specs.laws.Delivery.{starts-so}
use Rattle.layout.specs.Layout.{holder_bytes, holder_of, is_holder, is_rebuilder, rebuilder_bytes, rebuilder_of, rebuilder_size, holder_size}
use Rattle.layout.specs.Sheet.{rows_in}
use Rattle.layout.specs.laws.LayoutLaws.{HolderFits}
use Rattle.cabi.specs.ByteWorlds.{AdmittedOnBytes, BeginsOnBytes, ByteLent, ByteWorld, CallDid, Demand3OnBytes, EachOnBytes, SupposedOnBytes, bytes_after, first_bytes, lent_of, start_does, step_bytes, world_of, written_by}
use Rattle.cabi.specs.Calls.{holder_made, start_left, start_on_bytes}
use Rattle.cabi.specs.Packing.{packed}
use Rattle.cabi.specs.laws.ByteWorldLaws.{Carried, holder-did, holder-step-carried, packed-value, rebuilder-did, rebuilder-step-carried, written-value}
use Rattle.cabi.specs.laws.CarriedLaws.{start-carried}
use Rattle.cabi.specs.laws.HolderBytesLaws.{fresh-carried}

module _ (c : ByteLent) (sup : SupposedOnBytes c) where
  abbrev C : Lent
  C = lent_of c

  abbrev U : Supposed C
  U = sup.lent

  abbrev opens : List ℕ
  opens = question_bytes (AskOpen c.settings.h c.settings.key)

  abbrev fresh : Result Started
  fresh = starts (fresh_rebuilder c.settings c.ybits) opens

  -- ---- the start
  started : rebuilder_start c.settings c.y c.ybits (length c.question) ≡ fresh
  started = starts-so c.settings c.y c.ybits (length c.question) U.limits U.copy U.question

  on-bytes : start_on_bytes c.settings c.y c.ybits (length c.rebuilder) (length c.question) ≡ fresh
  unfolding start_on_bytes
  on-bytes = rw (U.limits, U.copy, le-leb rebuilder_size (length c.rebuilder) sup.rebuilder) started

  made : holder_made c.holder ≡ record { result = 0; state = at_front (holder_bytes fresh_holder) c.holder }
  unfolding holder_made packed
  made = rw (le-leb holder_size (length c.holder) sup.holder) refl

  begins : BeginsOnBytes c
  begins = record {
    holder = ap (λ z. z.result) made;
    result = ap (λ (o : Result Started). (start_left c.rebuilder c.question o).result) on-bytes ∙ packed-value (length opens);
    question = ap (λ (o : Result Started). (start_left c.rebuilder c.question o).question) on-bytes;
  }

  -- ---- the first world
  first-carried : Carried c sup (first_bytes c)
  first-carried =
      let f = fresh-carried (drop (length (holder_bytes fresh_holder)) c.holder) in
      let h : (holder_made c.holder).state ≡ at_front (holder_bytes fresh_holder) c.holder = ap (λ z. z.state) made in
      let s : (start_does c).state ≡ at_front (rebuilder_bytes (fresh_rebuilder c.settings c.ybits)) c.rebuilder = ap (λ (o : Result Started). (start_left c.rebuilder c.question o).state) on-bytes in
      let st = start-carried c.settings c.y c.ybits (length c.rebuilder) (length c.question) (fresh_rebuilder c.settings c.ybits) opens (drop (length (rebuilder_bytes (fresh_rebuilder c.settings c.ybits))) c.rebuilder) on-bytes in
      let hh : holder_of (holder_made c.holder).state ≡ fresh_holder = ap holder_of h ∙ f.1 in
      let w : written_by (start_does c).result [] (start_does c).question ≡ opens =
      ap (λ (o : Result Started). written_by (start_left c.rebuilder c.question o).result [] (start_left c.rebuilder c.question o).question) on-bytes ∙ written-value [] opens c.question in
      let r : rebuilder_of (start_does c).state ≡ fresh_rebuilder c.settings c.ybits = ap rebuilder_of s ∙ st.1 in
      let r' : fresh_rebuilder c.settings c.ybits ≡ (first_world C).rebuilder = sym (ap (λ (o : Result Started). (leaves_start c.question o).state) started) in
      let w' : opens ≡ (first_world C).waiting = sym (first-waits) in
      let same : world_of (first_bytes c) ≡ first_world C = (λ i. record {
        holder = hh i;
        rebuilder = (r ∙ r') i;
        string = c.string;
        sheet = rows_in c.sheet;
        waiting = (w ∙ w') i;
        earlier = [];
        heard = [];
        taken = [];
      }) in
      record {
        holder-is = ap is_holder h ∙ f.0;
        holder-fits = subst HolderFits (sym hh) (record { bits-fits = omega arith; h_fits = omega arith; key_fits = omega arith; answers-fits = omega arith });
        rebuilder-is = ap is_rebuilder s ∙ st.0;
        known = subst (Known C U) (sym same) (first-known C U);
      }
    where
      first-waits : (first_world C).waiting ≡ opens
      first-waits = (first-known C U).rep.asks

  -- ---- every list
  step-carried : (b : ByteWorld) → Carried c sup b → (k : Call) → AdmittedOnBytes c b k → Carried c sup (step_bytes c b k)
  step-carried b i (to_holder m buffer) a = holder-step-carried c sup b i m buffer a.0 a.1
  step-carried b i (to_rebuilder m buffer) a = rebuilder-step-carried c sup b i m buffer a.0 a.1 a.2

  step-did : (b : ByteWorld) → Carried c sup b → (k : Call) → AdmittedOnBytes c b k → CallDid c b k
  step-did b i (to_holder m buffer) a = holder-did c sup b i m buffer a.0 a.1
  step-did b i (to_rebuilder m buffer) a = rebuilder-did c sup b i m buffer a.0 a.1 a.2

  list-carried : (b : ByteWorld) → Carried c sup b → (ks : List Call) → EachOnBytes (AdmittedOnBytes c) c b ks → Carried c sup (bytes_after c b ks)
  list-carried b i [] a = i
  list-carried b i (k ∷ ks) a = list-carried (step_bytes c b k) (step-carried b i k a.0) ks a.1

  list-did : (b : ByteWorld) → Carried c sup b → (ks : List Call) → EachOnBytes (AdmittedOnBytes c) c b ks → EachOnBytes (CallDid c) c b ks
  list-did b i [] a = tt
  list-did b i (k ∷ ks) a = (step-did b i k a.0, list-did (step_bytes c b k) (step-carried b i k a.0) ks a.1)

  pub all-on-bytes : BeginsOnBytes c × ((ks : List Call) → EachOnBytes (AdmittedOnBytes c) c (first_bytes c) ks → Demand3OnBytes c ks)
  all-on-bytes = (
    begins,
    λ ks a. record {
      calls = list-did (first_bytes c) first-carried ks a;
      after = after-claims C U (world_of (bytes_after c (first_bytes c) ks)) (list-carried (first_bytes c) first-carried ks a).known;
    },
  )
