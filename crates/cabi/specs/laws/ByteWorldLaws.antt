-- Demand 3 on bytes: each lo_ call is ends' call on the states that the bytes hold.
use Rattle.std.specs.Prelude.{◌≡◌, refl, true, List, [], ◌∷◌, ◌++◌, ℕ, ◌*◌, ◌%◌, length, drop}
use Rattle.std.proofs.Common.{sym, ap, ◌∙◌, subst, arith, ne_eqb}
use Rattle.std.proofs.Math.Option.{Option, none, some}
use Rattle.std.proofs.Math.Seq.{take-append_seam}
use Rattle.strings.specs.Bits.{at_front, Bytes}
use Rattle.strings.specs.Refusals.{refusal_number}
use Rattle.strings.specs.Results.{Result, refusal, value, mapped}
use Rattle.strings.specs.declared.Refusal.{Refusal}
use Rattle.strings.specs.laws.ResultLaws.{refusal-small}
use Rattle.ends.specs.HolderCall.{Reply, holder_call}
use Rattle.ends.specs.HolderOutcome.{leaves_holder}
use Rattle.ends.specs.RebuilderCall.{Capacities, Taken, change_row, rebuilder_call}
use Rattle.ends.specs.RebuilderOutcome.{capacities, next_size}
use Rattle.ends.specs.SheetCall.{leaves_on_sheet}
use Rattle.ends.specs.Statement.{FairCall, HoldersAnswer, LongEnough, OnceEach, RebuilderClaims, Supposed, WasTaken, fixed}
use Rattle.ends.specs.Worlds.{Lent, World, after_holder, after_rebuilder, step_world, to_holder, to_rebuilder}
use Rattle.ends.specs.declared.Row.{Row}
use Rattle.ends.proofs.laws.Claimed.{Known, holder-claims, holder_known, rebuilder-claims, rebuilder-known}
use Rattle.ends.specs.laws.RefusedLaws.{call-numbered, holder-numbered}
use Rattle.ends.specs.laws.RunLaws.{written-waits}
use Rattle.ends.specs.laws.SheetLength.{SmallRow, taken-row, taken-rows}
use Rattle.layout.specs.Layout.{holder_bytes, holder_of, is_holder, is_rebuilder, rebuilder_bytes, rebuilder_of}
use Rattle.layout.specs.Sheet.{rows_in}
use Rattle.layout.specs.laws.LayoutLaws.{HolderFits}
use Rattle.layout.specs.laws.SheetLaws.{RowFits, rows-in-length, same_rows}
use Rattle.cabi.specs.ByteWorlds.{ByteLent, ByteWorld, FairOnBytes, HolderDid, RebuilderDid, SupposedOnBytes, after_holder_did, after_rebuilder_did, holder_does, joined_by, lent_of, rebuilder_does, step_bytes, world_of, written_by}
use Rattle.cabi.specs.Calls.{HolderLeft, RebuilderLeft, capacities_in, holder_left, holder_on_bytes, rebuilder_left, rebuilder_on_bytes}
use Rattle.cabi.specs.Packing.{packed, value_unit}
use Rattle.cabi.specs.laws.CarriedLaws.{call-carried}
use Rattle.cabi.specs.laws.HolderBytesLaws.{holder-called, holder-carried}
use Rattle.cabi.specs.laws.PackingLaws.{refusal-read, value_read, value-refusal}
use Rattle.cabi.specs.laws.RebuilderBytesLaws.{rebuilder-called}

-- ---- what a number says
pub packed-value : (v : ℕ) → packed (value v) ≡ v * value_unit
unfolding packed
packed-value v = refl

refusal-low : (e : Refusal) → packed (refusal (refusal_number e)) % value_unit ≡ 0 → ⊥
refusal-low e h =
    let s = refusal-small e in
    let r = refusal-read (refusal_number e) (omega (arith, s.1)) in
    let a = s.0 in
    absurd (omega arith)

joined-value : (v : ℕ) (m : List ℕ) (ms : List (List ℕ)) → joined_by (packed (value v)) m ms ≡ ms ++ (m ∷ [])
joined-value v m ms = rw (value-refusal v) refl

joined-refusal : (e : Refusal) (m : List ℕ) (ms : List (List ℕ)) → joined_by (packed (refusal (refusal_number e))) m ms ≡ ms
joined-refusal e m ms = rw (ne_eqb (packed (refusal (refusal_number e)) % value_unit) 0 (refusal-low e)) refl

pub written-value : (before q buffer : List ℕ) → written_by (packed (value (length q))) before (at_front q buffer) ≡ q
written-value before q buffer = rw (value-refusal (length q), value_read (length q)) (take-append_seam q (drop (length q) buffer))

written-refusal : (e : Refusal) (before buffer : List ℕ) → written_by (packed (refusal (refusal_number e))) before buffer ≡ before
written-refusal e before buffer = rw (ne_eqb (packed (refusal (refusal_number e)) % value_unit) 0 (refusal-low e)) refl

-- the length of the next question; 0 at the finish
abbrev question_size : Option ℕ → ℕ
question_size none = 0
question_size (some n) = n

size_is : (q : List ℕ) → question_size (next_size q) ≡ length q
size_is [] = refl
size_is (b ∷ q) = refl

small-fits : (r : Row) → SmallRow r → RowFits r
small-fits r k = let a = k.start-most in let b = k.len-most in let c = k.how-most in record { start_fits = omega arith; len-fits = omega arith; how-fits = omega arith }

module _ (c : ByteLent) (sup : SupposedOnBytes c) where
  abbrev C : Lent
  C = lent_of c

  abbrev U : Supposed C
  U = sup.lent

  -- what the bytes of a world hold
  pub record Carried (b : ByteWorld) : Type 0 where
    pub holder-is : is_holder b.holder ≡ true
    pub holder-fits : HolderFits (holder_of b.holder)
    pub rebuilder-is : is_rebuilder b.rebuilder ≡ true
    pub known : Known C U (world_of b)

  -- ---- a call to the holder
  module _ (b : ByteWorld) (k : Carried b) (m reply : List ℕ) (of : Bytes m) (long : LongEnough C (to_holder m reply)) where
    abbrev o : Result Reply
    o = holder_call (holder_of b.holder) c.x c.xbits m (length reply)

    on-bytes : holder_on_bytes b.holder c.x c.xbits m (length reply) ≡ o
    on-bytes = holder-called b.holder c.x c.xbits m reply U.reference k.holder-is

    abbrev did : Result Reply → HolderLeft
    did r = holder_left b.holder reply r

    abbrev said : Result Reply → World
    said r = after_holder (world_of b) m (leaves_holder (holder_of b.holder) reply r)

    -- by the call's result
    record Step (r : Result Reply) : Type 0 where
      world : world_of (after_holder_did b m (did r)) ≡ said r
      carried-is : is_holder (did r).state ≡ true
      carried-fits : HolderFits (holder_of (did r).state)
      number : (did r).result ≡ packed (leaves_holder (holder_of b.holder) reply r).answer
      buffer : (did r).reply ≡ (leaves_holder (holder_of b.holder) reply r).reply
      same : ((did r).result % value_unit ≡ 0 → ⊥) → (after_holder_did b m (did r) ≡ b) × ((did r).reply ≡ reply)

    steps : (r : Result Reply) → o ≡ r → Step r
    steps (refusal d) e =
        let n = (holder-numbered (holder_of b.holder) c.x c.xbits m (length reply)).one d e in
        let j : joined_by (packed (refusal d)) m b.heard ≡ b.heard = ap (λ (u : ℕ). joined_by (packed (refusal u)) m b.heard) n.1 ∙ joined-refusal n.0 m b.heard in
        record {
          world = ap (λ (l : List (List ℕ)). record {
            holder = holder_of b.holder;
            rebuilder = rebuilder_of b.rebuilder;
            string = b.string;
            sheet = rows_in b.sheet;
            waiting = b.waiting;
            earlier = b.earlier;
            heard = l;
            taken = b.taken;
          }) j;
          carried-is = k.holder-is;
          carried-fits = k.holder-fits;
          number = refl;
          buffer = refl;
          same = λ h. (
            ap (λ (l : List (List ℕ)). record {
              holder = b.holder;
              rebuilder = b.rebuilder;
              string = b.string;
              sheet = b.sheet;
              waiting = b.waiting;
              earlier = b.earlier;
              heard = l;
              taken = b.taken;
            }) j,
            refl,
          );
        }
    steps (value r) e =
        let h = holder-carried b.holder c.x c.xbits m (length reply) r.state r.message (drop (length (holder_bytes r.state)) b.holder) k.holder-fits of (on-bytes ∙ e) in
        let j = joined-value (length r.message) m b.heard in
        record {
          world = (λ i. record {
            holder = h.1 i;
            rebuilder = rebuilder_of b.rebuilder;
            string = b.string;
            sheet = rows_in b.sheet;
            waiting = b.waiting;
            earlier = b.earlier;
            heard = j i;
            taken = b.taken;
          });
          carried-is = h.0;
          carried-fits = subst HolderFits (sym h.1) h.2;
          number = refl;
          buffer = refl;
          same = λ z. absurd (z (value-refusal (length r.message)));
        }

    now-step : Step (holder_on_bytes b.holder c.x c.xbits m (length reply))
    now-step = subst Step (sym on-bytes) (steps o refl)

    world_is : world_of (step_bytes c b (to_holder m reply)) ≡ step_world C (world_of b) (to_holder m reply)
    world_is = now-step.world ∙ ap said on-bytes

    pub holder-step-carried : Carried (step_bytes c b (to_holder m reply))
    holder-step-carried = record {
      holder-is = now-step.carried-is;
      holder-fits = now-step.carried-fits;
      rebuilder-is = k.rebuilder-is;
      known = subst (Known C U) (sym world_is) (holder_known C U (world_of b) k.known m reply long);
    }

    pub holder-did : HolderDid c b (step_bytes c b (to_holder m reply)) m reply
    holder-did = record { step = world_is; replies = exactly; unchanged = now-step.same }
      where
        exactly : (a : List ℕ) → m ≡ b.waiting → HoldersAnswer C m a → OnceEach b.earlier b.heard
            → ((holder_does c b m reply).result ≡ length a * value_unit) × ((holder_does c b m reply).reply ≡ at_front a reply)
        exactly a e f g =
            let r = (holder-claims C U (world_of b) k.known m reply long).replies a e f g in
            let n = now-step.number ∙ ap (λ (x : Result Reply). packed (leaves_holder (holder_of b.holder) reply x).answer) on-bytes ∙ ap packed r.0 ∙ packed-value (length a) in
            (n, now-step.buffer ∙ ap (λ (x : Result Reply). (leaves_holder (holder_of b.holder) reply x).reply) on-bytes ∙ r.1)

  -- ---- a call to the rebuilder
  module _ (b : ByteWorld) (k : Carried b) (m question : List ℕ) (of : Bytes m) (long : LongEnough C (to_rebuilder m question)) where
    -- the sheet counts in rows
    same-capacities : capacities_in b.string b.sheet question ≡ capacities (length b.string) (length (rows_in b.sheet)) (length question)
    same-capacities = ap (λ (n : ℕ). capacities (length b.string) n (length question)) (sym (rows-in-length b.sheet))

    abbrev t : Result Taken
    t = rebuilder_call (rebuilder_of b.rebuilder) c.y c.ybits m (capacities_in b.string b.sheet question)

    abbrev heard : Result Taken
    heard = rebuilder_on_bytes b.rebuilder c.y c.ybits m (capacities_in b.string b.sheet question)

    heard-is : heard ≡ t
    heard-is = rebuilder-called b.rebuilder c.y c.ybits m b.string b.sheet question U.copy k.rebuilder-is

    abbrev left : Result Taken → RebuilderLeft
    left r = rebuilder_left b.rebuilder b.string b.sheet question r

    abbrev world-left : Result Taken → World
    world-left r = after_rebuilder (world_of b) m (leaves_on_sheet (rebuilder_of b.rebuilder) (rows_in b.sheet) b.string question r)

    record TakenStep (r : Result Taken) : Type 0 where
      world : world_of (after_rebuilder_did b m (left r)) ≡ world-left r
      carried-is : is_rebuilder (left r).state ≡ true
      number : (left r).result ≡ packed (mapped question_size (leaves_on_sheet (rebuilder_of b.rebuilder) (rows_in b.sheet) b.string question r).said.answer)
      buffer : (left r).question ≡ (leaves_on_sheet (rebuilder_of b.rebuilder) (rows_in b.sheet) b.string question r).said.question
      same : ((left r).result % value_unit ≡ 0 → ⊥) → (after_rebuilder_did b m (left r) ≡ b) × ((left r).question ≡ question)
      taken : (left r).result % value_unit ≡ 0 → WasTaken (leaves_on_sheet (rebuilder_of b.rebuilder) (rows_in b.sheet) b.string question r).said.answer

    taken-steps : (r : Result Taken) → t ≡ r → TakenStep r
    taken-steps (refusal d) e =
        let n = (call-numbered (rebuilder_of b.rebuilder) c.y c.ybits m (capacities_in b.string b.sheet question)).one d e in
        let j : joined_by (packed (refusal d)) m b.taken ≡ b.taken = ap (λ (u : ℕ). joined_by (packed (refusal u)) m b.taken) n.1 ∙ joined-refusal n.0 m b.taken in
        let g : joined_by (packed (refusal d)) b.waiting b.earlier ≡ b.earlier =
        ap (λ (u : ℕ). joined_by (packed (refusal u)) b.waiting b.earlier) n.1 ∙ joined-refusal n.0 b.waiting b.earlier in
        let w : written_by (packed (refusal d)) b.waiting question ≡ b.waiting = ap (λ (u : ℕ). written_by (packed (refusal u)) b.waiting question) n.1 ∙ written-refusal n.0 b.waiting question in
        record {
          world = (λ i. record {
            holder = holder_of b.holder;
            rebuilder = rebuilder_of b.rebuilder;
            string = b.string;
            sheet = rows_in b.sheet;
            waiting = w i;
            earlier = g i;
            heard = b.heard;
            taken = j i;
          });
          carried-is = k.rebuilder-is;
          number = refl;
          buffer = refl;
          same = λ h. (
            (λ i. record {
              holder = b.holder;
              rebuilder = b.rebuilder;
              string = b.string;
              sheet = b.sheet;
              waiting = w i;
              earlier = g i;
              heard = b.heard;
              taken = j i;
            }),
            refl,
          );
          taken = λ h. absurd (refusal-low n.0 (rw n.1 at h));
        }
    taken-steps (value r) e =
        let q = r.question in
        let h = call-carried b.rebuilder c.y c.ybits m (capacities_in b.string b.sheet question) r.step r.question (drop (length (rebuilder_bytes r.step.state)) b.rebuilder) of (heard-is ∙ e) in
        let sm = taken-row (rebuilder_of b.rebuilder) c.y c.ybits m (capacities_in b.string b.sheet question) r.step r.question e in
        let need = taken-rows (rebuilder_of b.rebuilder) c.y c.ybits m (capacities_in b.string b.sheet question) r.step r.question e in
        let rows = same_rows b.sheet r.step.sheet (small-fits (change_row r.step.sheet) sm) need in
        let j = joined-value (length r.question) m b.taken in
        let g = joined-value (length r.question) b.waiting b.earlier in
        let w = written-value b.waiting r.question question ∙ sym (written-waits b.waiting r.question question) in
        record {
          world = (λ i. record {
            holder = holder_of b.holder;
            rebuilder = h.1 i;
            string = (left (value r)).string;
            sheet = rows i;
            waiting = w i;
            earlier = g i;
            heard = b.heard;
            taken = j i;
          });
          carried-is = h.0;
          number = ap (λ (n : ℕ). packed (value n)) (sym (size_is r.question));
          buffer = refl;
          same = λ z. absurd (z (value-refusal (length r.question)));
          taken = λ z. (next_size r.question, refl);
        }

    now-taken : TakenStep heard
    now-taken = subst TakenStep (sym heard-is) (taken-steps t refl)

    -- what the world's call says
    abbrev says : Result (Option ℕ)
    says = (leaves_on_sheet (rebuilder_of b.rebuilder) (rows_in b.sheet) b.string question (rebuilder_call (rebuilder_of b.rebuilder) c.y c.ybits m (capacities (length b.string) (length (rows_in b.sheet)) (length question)))).said.answer

    heard-says : heard ≡ rebuilder_call (rebuilder_of b.rebuilder) c.y c.ybits m (capacities (length b.string) (length (rows_in b.sheet)) (length question))
    heard-says = heard-is ∙ ap (λ (u : Capacities). rebuilder_call (rebuilder_of b.rebuilder) c.y c.ybits m u) same-capacities

    abbrev answer_of : Result Taken → Result (Option ℕ)
    answer_of r = (leaves_on_sheet (rebuilder_of b.rebuilder) (rows_in b.sheet) b.string question r).said.answer

    number_is : (rebuilder_does c b m question).result ≡ packed (mapped question_size says)
    number_is = now-taken.number ∙ ap (λ (r : Result Taken). packed (mapped question_size (answer_of r))) heard-says

    world_same : world_of (step_bytes c b (to_rebuilder m question)) ≡ step_world C (world_of b) (to_rebuilder m question)
    world_same = now-taken.world ∙ ap world-left heard-says

    -- taken there, taken here
    low-taken : WasTaken says → (rebuilder_does c b m question).result % value_unit ≡ 0
    low-taken v = ap (λ (n : ℕ). n % value_unit) (number_is ∙ ap (λ (r : Result (Option ℕ)). packed (mapped question_size r)) v.1) ∙ value-refusal (question_size v.0)

    taken-low : (rebuilder_does c b m question).result % value_unit ≡ 0 → WasTaken says
    taken-low h = let v = now-taken.taken h in (v.0, sym (ap answer_of heard-says) ∙ v.1)

    pub fair-same : FairOnBytes c b (to_rebuilder m question) → FairCall C (world_of b) (to_rebuilder m question)
    fair-same f v = f (low-taken v)

    module _ (fair : FairOnBytes c b (to_rebuilder m question)) where
      pub rebuilder-step-carried : Carried (step_bytes c b (to_rebuilder m question))
      rebuilder-step-carried = record {
        holder-is = k.holder-is;
        holder-fits = k.holder-fits;
        rebuilder-is = now-taken.carried-is;
        known = subst (Known C U) (sym world_same) (rebuilder-known C U (world_of b) k.known m question long (fair-same fair));
      }

      pub rebuilder-did : RebuilderDid c b (step_bytes c b (to_rebuilder m question)) m question
      rebuilder-did = record { step = world_same; accepts = λ f. low-taken (claims.accepts f); gives = gives; unchanged = now-taken.same }
        where
          claims : RebuilderClaims C (world_of b) (step_world C (world_of b) (to_rebuilder m question)) m question
          claims = rebuilder-claims C U (world_of b) k.known m question long (fair-same fair)

          gives : (rebuilder_does c b m question).result % value_unit ≡ 0
              → ((rebuilder_does c b m question).result ≡ length (fixed C (world_of (step_bytes c b (to_rebuilder m question)))) * value_unit)
              × ((rebuilder_does c b m question).question ≡ at_front (fixed C (world_of (step_bytes c b (to_rebuilder m question)))) question)
          gives h =
              let g = claims.gives (taken-low h) in
              let q : List ℕ = fixed C (step_world C (world_of b) (to_rebuilder m question)) in
              let w = ap (fixed C) (sym world_same) in (
                number_is ∙ ap (λ (r : Result (Option ℕ)). packed (mapped question_size r)) g.said ∙ packed-value (question_size (next_size q)) ∙ ap (λ (n : ℕ). n * value_unit) (size_is q ∙ ap length w),
                now-taken.buffer ∙ ap (λ (r : Result Taken). (leaves_on_sheet (rebuilder_of b.rebuilder) (rows_in b.sheet) b.string question r).said.question) heard-says ∙ g.written ∙ ap (λ (u : List ℕ). at_front u question) w,
              )
