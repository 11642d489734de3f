-- Demand 3: what is known of the world of each call gives what is claimed of it.
use Rattle.std.specs.Prelude.{◌≡◌, refl, Bool, ◌⊎◌, List, [], ◌∷◌, ◌++◌, ℕ, ◌+◌, ◌*◌, ◌/◌, ◌≤◌, ◌<◌, length, drop}
use Rattle.std.proofs.Common.{sym, ap, ◌∙◌, subst, inl, div-le_self, arith}
use Rattle.std.proofs.Math.Option.{Option, none, some}
use Rattle.std.proofs.Math.Seq.{take-append_seam}
use Rattle.strings.specs.Bits.{at_front, pack}
use Rattle.strings.specs.Results.{Result, refusal, value}
use Rattle.strings.proofs.laws.PackLaws.{pack-none}
use Rattle.strings.specs.laws.ResultLaws.{no_value}
use Rattle.strings.proofs.laws.RuleLaws.{rule-is}
use Rattle.strings.specs.declared.settings.Settings.{Settings}
use Rattle.messages.specs.Answers.{Answer, answer_bytes}
use Rattle.messages.specs.Questions.{question_bytes, read_question}
use Rattle.messages.specs.declared.Question.{Question}
use Rattle.messages.specs.declared.Question.TheVariants.{AskOpen}
use Rattle.messages.specs.laws.QuestionLaws.{empty-no-question, question-reads}
use Rattle.ends.specs.Claims.{At, rows_at_front, zeroed}
use Rattle.ends.specs.HolderCall.{Reply, after_answer, fresh_holder, holder_call, replies}
use Rattle.ends.specs.HolderOutcome.{leaves_holder}
use Rattle.ends.specs.RebuilderCall.{Started, Step, Taken, fresh_rebuilder, rebuilder_call, rebuilder_start, starts, step_of, takes, written_question}
use Rattle.ends.specs.RebuilderOutcome.{capacities, leaves_start, next_size}
use Rattle.ends.specs.Runs.{Run, advance, count_of, full, honest_answer, opening, pieces_of, question, run, sheet_of, size_of, string, whole, working, longest_answer}
use Rattle.ends.specs.Segments.{settled}
use Rattle.ends.specs.SheetCall.{SheetSaid, leaves_on_sheet}
use Rattle.ends.specs.Soundness.{most_answers}
use Rattle.ends.specs.States.{planned}
use Rattle.ends.specs.Statement.{Admitted, AfterClaims, Begins, CallClaims, Demand3, FairCall, HolderClaims, HoldersAnswer, Member, NextGiven, OnceEach, RebuilderClaims, Supposed, WasTaken, asked, counted_bytes, fixed, run_in}
use Rattle.ends.specs.Worlds.{Call, Each, Lent, World, after_holder, after_rebuilder, bits_of_x, bits_of_y, first_world, step_world, to_holder, to_rebuilder, world_after}
use Rattle.ends.specs.declared.Holder.{Holder}
use Rattle.ends.specs.declared.How.{How}
use Rattle.ends.specs.declared.Rebuilder.{Rebuilder}
use Rattle.ends.specs.declared.Row.{Row}
use Rattle.ends.proofs.laws.CallLists.{HolderIs, Honest, L, Past, Rep, continues, has_opened, holder-step, in-range, later-reply, n_x, opening-reply, past_more, past-now, rep_next, same-opening, takes-it, unopened, x-few, x-length, y-length}
use Rattle.ends.specs.laws.Delivery.{starts-so}
use Rattle.ends.specs.laws.Invariant.{Truth}
use Rattle.ends.specs.laws.Kept.{Opened, counted, kept, opened}
use Rattle.ends.proofs.laws.Lasting.{settled-stays}
use Rattle.ends.specs.laws.RunLaws.{counted-snoc, length-snoc, run-snoc, written-waits, zeroed-snoc}
use Rattle.ends.specs.laws.SoundSteps.{fresh-sound}
use Rattle.ends.specs.laws.Standing.{Stands}
use Rattle.ends.specs.laws.Store.{store_of}

-- a run has begun once there is an answer
abbrev Begun : Run → ℕ → Type 0
Begun opening n = n ≡ 0
Begun (working b d segs rows) n = 0 < n
Begun (whole b d segs rows) n = 0 < n

begun_opened : (s : Run) (n : ℕ) → Opened s → 0 < n → Begun s n
begun_opened opening n o h = absurd o
begun_opened (working b d segs rows) n o h = h
begun_opened (whole b d segs rows) n o h = h

counted_next : (S : Settings) (Y : List Bool) (s : Run) (ts : List (List ℕ)) (a : Answer) → Begun s (length ts) → count_of s ≡ counted_bytes ts
    → count_of (advance S Y s a) ≡ counted_bytes (ts ++ (answer_bytes a ∷ []))
unfolding size_of
counted_next S Y opening [] a b e = refl
counted_next S Y opening (t ∷ ts) a b e = absurd (omega arith)
counted_next S Y (working n d segs rows) ts a b e =
    let u = counted S Y (working n d segs rows) a tt in let v = counted-snoc ts (answer_bytes a) b in omega arith
counted_next S Y (whole n d segs rows) ts a b e =
    let u = counted S Y (whole n d segs rows) a tt in let v = counted-snoc ts (answer_bytes a) b in omega arith

module _ (c : Lent) (sup : Supposed c) where
  abbrev S : Settings
  S = c.settings

  abbrev X : List Bool
  X = bits_of_x c

  abbrev Y : List Bool
  Y = bits_of_y c

  -- ---- what is known of the world in which a call comes
  pub record Known (w : World) : Type 0 where
    pub rep : Rep c sup w.rebuilder w.string w.sheet w.waiting (length w.taken) (zeroed S Y w.taken) (run_in c w)
    pub begun : Begun (run_in c w) (length w.taken)
    pub counted : count_of (run_in c w) ≡ counted_bytes w.taken
    pub past : (m : List ℕ) → Member m w.earlier → Past c sup m
    pub many : length w.earlier ≡ length w.taken
    pub holder : HolderIs c sup w.holder w.heard

  -- the holder's answer to the question waiting is the honest answer to the run's question
  pub answer-is : (w : World) → Known w → (m : List ℕ) → HoldersAnswer c w.waiting m → (q : Question) × (asked c w ≡ some q) × (m ≡ answer_bytes (honest_answer S X q))
  answer-is w k m f = go (asked c w) refl
    where
      go : (o : Option Question) → asked c w ≡ o → (q : Question) × (asked c w ≡ some q) × (m ≡ answer_bytes (honest_answer S X q))
      go none e =
          let z : read_question [] c.xbits ≡ value f.q = ap (λ (u : List ℕ). read_question u c.xbits) (sym (k.rep.asks ∙ ap written_question e)) ∙ f.reads in
          absurd (empty-no-question c.xbits f.q z)
      go (some q) e =
          let r = question-reads q c.xbits (x-few c sup) (in-range c sup (length w.taken) (run_in c w) k.rep.honest q e) in
          let z : read_question (question_bytes q) c.xbits ≡ value f.q = ap (λ (u : List ℕ). read_question u c.xbits) (sym (k.rep.asks ∙ ap written_question e)) ∙ f.reads in
          let d : f.q ≡ q = cc in
          (q, e, f.is ∙ ap (λ (u : Question). answer_bytes (honest_answer S X u)) d)

  -- ---- the rebuilder takes the answer to the question q
  module _ (w : World) (k : Known w) (q : Question) (wq : asked c w ≡ some q) (buffer : List ℕ) (long : 8 ≤ length buffer) where
    abbrev n : ℕ
    n = length w.taken

    abbrev z : ℕ
    z = zeroed S Y w.taken

    abbrev a : Answer
    a = honest_answer S X q

    abbrev m : List ℕ
    m = answer_bytes a

    abbrev new : Step
    new = step_of w.rebuilder c.y (length m) a

    abbrev asks : List ℕ
    asks = written_question (planned new.state)

    pub call-takes : rebuilder_call w.rebuilder c.y c.ybits m (capacities (length w.string) (length w.sheet) (length buffer)) ≡ takes new asks
    call-takes = takes-it c sup w.rebuilder w.string w.sheet w.waiting n z (run_in c w) k.rep q wq buffer long

    abbrev pub after : World
    after = after_rebuilder w m (leaves_on_sheet w.rebuilder w.sheet w.string buffer (takes new asks))

    pub run-next : run_in c after ≡ advance S Y (run_in c w) a
    run-next = run-snoc S Y opening w.taken m ∙ continues c sup w.rebuilder w.string w.sheet w.waiting n z (run_in c w) k.rep q wq

    rep-after : Rep c sup after.rebuilder after.string after.sheet after.waiting (length after.taken) (zeroed S Y after.taken) (run_in c after)
    rep-after =
        rw (written-waits w.waiting asks buffer, length-snoc w.taken m, zeroed-snoc S Y opening w.taken m, run-next)
        (rep_next c sup w.rebuilder w.string w.sheet w.waiting n z (run_in c w) k.rep q wq)

    pub known-after : Known after
    known-after =
        let ln = length-snoc w.taken m in
        let le = length-snoc w.earlier w.waiting in
        let km = k.many in
        let wp : question_bytes q ≡ w.waiting = sym (k.rep.asks ∙ ap written_question wq) in
        record {
          rep = rep-after;
          begun = begun_opened (run_in c after) (length after.taken) (subst Opened (sym run-next) (opened S Y (run_in c w) a)) (omega arith);
          counted = ap count_of run-next ∙ counted_next S Y (run_in c w) w.taken a k.begun k.counted;
          past = past_more c sup w.earlier w.waiting k.past (subst (Past c sup) wp (past-now c sup n (run_in c w) k.rep.honest q wq));
          many = omega arith;
          holder = k.holder;
        }

  -- ---- a call to the rebuilder
  module _ (w : World) (k : Known w) (m buffer : List ℕ) (long : 8 ≤ length buffer) where
    abbrev call : Result Taken
    call = rebuilder_call w.rebuilder c.y c.ybits m (capacities (length w.string) (length w.sheet) (length buffer))

    -- what the call leaves, by its result
    abbrev left : Result Taken → SheetSaid
    left o = leaves_on_sheet w.rebuilder w.sheet w.string buffer o

    -- the step for the honest answer to q, and the question after it
    abbrev step_for : Question → Step
    step_for q = step_of w.rebuilder c.y (length (answer_bytes (honest_answer S X q))) (honest_answer S X q)

    abbrev asks_after : Question → List ℕ
    asks_after q = written_question (planned (step_for q).state)

    -- a refused call; or the answer to the run's question
    data Heard (o : Result Taken) : Type 0 where
      refused : (number : ℕ) → o ≡ refusal number → Heard o
      answers : (q : Question) (wq : asked c w ≡ some q) → m ≡ answer_bytes (honest_answer S X q) → o ≡ takes (step_for q) (asks_after q) → Heard o

    honest-answers : HoldersAnswer c w.waiting m → Heard call
    honest-answers f =
        let i = answer-is w k m f in
        let e = call-takes w k i.0 i.1 buffer long in
        answers i.0 i.1 i.2 (ap (λ (u : List ℕ). rebuilder_call w.rebuilder c.y c.ybits u (capacities (length w.string) (length w.sheet) (length buffer))) i.2 ∙ e)

    heard : FairCall c w (to_rebuilder m buffer) → Heard call
    heard fair = go call refl
      where
        go : (o : Result Taken) → call ≡ o → Heard call
        go (refusal number) e = refused number e
        go (value t) e = honest-answers (fair (next_size t.question, ap (λ (o : Result Taken). (left o).said.answer) e))

    pub rebuilder-known : FairCall c w (to_rebuilder m buffer) → Known (step_world c w (to_rebuilder m buffer))
    rebuilder-known fair = go (heard fair)
      where
        go : Heard call → Known (after_rebuilder w m (left call))
        go (refused number e) = rw e k
        go (answers q wq i e) = rw e (subst (λ (u : List ℕ). Known (after_rebuilder w u (left (takes (step_for q) (asks_after q))))) (sym i) (known-after w k q wq buffer long))

    pub rebuilder-claims : FairCall c w (to_rebuilder m buffer) → RebuilderClaims c w (step_world c w (to_rebuilder m buffer)) m buffer
    rebuilder-claims fair = record { accepts = accepts; gives = gives (heard fair); keeps = keeps (heard fair); unchanged = unchanged call refl }
      where
        accepts : HoldersAnswer c w.waiting m → WasTaken (left call).said.answer
        accepts f = go (honest-answers f)
          where
            go : Heard call → WasTaken (left call).said.answer
            go (answers q wq i e) = (next_size (asks_after q), ap (λ (o : Result Taken). (left o).said.answer) e)
            go (refused number e) = by (call-takes w k (answer-is w k m f).0 (answer-is w k m f).1 buffer long)
              where
                by : {u : Taken} → rebuilder_call w.rebuilder c.y c.ybits (answer_bytes (honest_answer S X (answer-is w k m f).0)) (capacities (length w.string) (length w.sheet) (length buffer)) ≡ value u → WasTaken (left call).said.answer
                by {u} t = absurd (no_value number u (sym e ∙ ap (λ (u : List ℕ). rebuilder_call w.rebuilder c.y c.ybits u (capacities (length w.string) (length w.sheet) (length buffer))) (answer-is w k m f).2 ∙ t))

        gives : Heard call → WasTaken (left call).said.answer → NextGiven c w (after_rebuilder w m (left call)) m buffer
        gives (refused number e) t = absurd (no_value number t.0 (sym (ap (λ (o : Result Taken). (left o).said.answer) e) ∙ t.1))
        gives (answers q wq i e) t =
            let kn : Known (after_rebuilder w m (left call)) = rebuilder-known fair in
            let f : (after_rebuilder w m (left call)).waiting ≡ fixed c (after_rebuilder w m (left call)) = kn.rep.asks in
            let v : (after_rebuilder w m (left call)).waiting ≡ asks_after q =
            ap (λ (o : Result Taken). (after_rebuilder w m (left o)).waiting) e ∙ written-waits w.waiting (asks_after q) buffer in
            record {
              said = ap (λ (o : Result Taken). (left o).said.answer) e ∙ ap (λ (u : List ℕ). value (next_size u)) (sym v ∙ f);
              written = ap (λ (o : Result Taken). (left o).said.question) e ∙ ap (λ (u : List ℕ). at_front u buffer) (sym v ∙ f);
              waits = f;
            }

        keeps : Heard call → (x : ℕ) (how : How) (copy bits : List Bool) → At 0 (pieces_of (run_in c w)) x (settled how copy bits)
            → At 0 (pieces_of (run_in c (after_rebuilder w m (left call)))) x (settled how copy bits) ⊎ (string (pieces_of (run_in c (after_rebuilder w m (left call)))) ≡ X)
        keeps (refused number e) x how copy bits h = inl (rw e h)
        keeps (answers q wq i e) x how copy bits h =
            let l = settled-stays S X Y (L c sup) (n_x c sup) (length w.taken) (run_in c w) q k.rep.honest.inv k.rep.honest.truth wq x how copy bits h in
            let r = run-next w k q wq buffer long in
            let e' : run_in c (after_rebuilder w m (left call)) ≡ advance S Y (run_in c w) (honest_answer S X q) =
            ap (λ (o : Result Taken). run_in c (after_rebuilder w m (left o))) e ∙ ap (λ (u : List ℕ). run S Y (w.taken ++ (u ∷ []))) i ∙ r in
            rw e' l

        unchanged : (o : Result Taken) → call ≡ o → (number : ℕ) → (left call).said.answer ≡ refusal number → (after_rebuilder w m (left call) ≡ w) × ((left call).said.question ≡ buffer)
        unchanged (refusal d) e number h = (ap (λ (o : Result Taken). after_rebuilder w m (left o)) e, ap (λ (o : Result Taken). (left o).said.question) e)
        unchanged (value t) e number h = absurd (no_value number (next_size t.question) (sym h ∙ ap (λ (o : Result Taken). (left o).said.answer) e))

  -- ---- a call to the holder
  few-asked : (w : World) → Known w → length w.taken ≤ 10 * (c.xbits / S.m) + 6
  few-asked w k = rw (x-length c sup) at (kept S X Y (L c sup) (n_x c sup) (length w.taken) (run_in c w) k.rep.honest.inv k.rep.honest.truth).questions

  -- the waiting question q, put to a holder that had taken each earlier one once
  module _ (w : World) (k : Known w) (q : Question) (o : OnceEach w.earlier w.heard) (buffer : List ℕ) (long : longest_answer c.xbits ≤ length buffer) where
    abbrev pub Replies : Type 0
    Replies = (H : Holder) × (holder_call w.holder c.x c.xbits (question_bytes q) (length buffer) ≡ replies H (answer_bytes (honest_answer S X q)))

    none-earlier : (m : List ℕ) (es : List (List ℕ)) → length es ≡ 0 → Member m es → Replies
    none-earlier m [] z i = absurd i
    none-earlier m (x ∷ es) z i = absurd (omega arith)

    first-replies : Honest c sup (length w.taken) opening → question S opening ≡ some q → length w.taken ≡ 0 → HolderIs c sup w.holder w.heard → Replies
    first-replies h e b (unopened f n) = (after_answer fresh_holder c.xbits q, rw f (opening-reply c sup (length w.taken) opening h q e buffer long refl))
    first-replies h e b (has_opened p bt an m₀ mem rd) = let em = k.many in none-earlier m₀ w.earlier (omega arith) (o.each m₀ mem)

    later-replies : (s : Run) → Honest c sup (length w.taken) s → question S s ≡ some q → Opened s → 0 < length w.taken → HolderIs c sup w.holder w.heard → Replies
    later-replies s h e op g (unopened f n) = let em = k.many in let om = o.many in let hn : length w.heard ≡ 0 = ap length n in absurd (omega arith)
    later-replies s h e op g (has_opened p bt an m₀ mem rd) =
        let em = k.many in let om = o.many in
        let fa = few-asked w k in
        let d = div-le_self c.xbits S.m in
        let xf = x-few c sup in
        let less : w.holder.answers < most_answers = omega arith in
        (after_answer w.holder c.xbits q, later-reply c sup (length w.taken) s h q e buffer long w.holder op p bt less (same-opening c sup w.holder m₀ (k.past m₀ (o.each m₀ mem)) rd))

    pub asked-replies : asked c w ≡ some q → Replies
    asked-replies wq = go (run_in c w) k.rep.honest wq k.begun
      where
        go : (s : Run) → Honest c sup (length w.taken) s → question S s ≡ some q → Begun s (length w.taken) → Replies
        go opening h e b = first-replies h e b k.holder
        go (working n d segs rows) h e b = later-replies (working n d segs rows) h e tt b k.holder
        go (whole n d segs rows) h e b = later-replies (whole n d segs rows) h e tt b k.holder

  module _ (w : World) (k : Known w) (m buffer : List ℕ) (long : longest_answer c.xbits ≤ length buffer) where
    abbrev given : Result Reply
    given = holder_call w.holder c.x c.xbits m (length buffer)

    pub holder_known : Known (step_world c w (to_holder m buffer))
    holder_known = go given refl
      where
        go : (o : Result Reply) → given ≡ o → Known (after_holder w m (leaves_holder w.holder buffer given))
        go (refusal number) e = rw e k
        go (value r) e = rw e record {
          rep = k.rep;
          begun = k.begun;
          counted = k.counted;
          past = k.past;
          many = k.many;
          holder = holder-step c sup w.holder r.state w.heard m r.message (length buffer) k.holder e;
        }

    pub holder-claims : HolderClaims c w (step_world c w (to_holder m buffer)) m buffer
    holder-claims = record { replies = exactly; unchanged = unchanged given refl }
      where
        exactly : (a : List ℕ) → m ≡ w.waiting → HoldersAnswer c m a → OnceEach w.earlier w.heard
            → ((leaves_holder w.holder buffer given).answer ≡ value (length a)) × ((leaves_holder w.holder buffer given).reply ≡ at_front a buffer)
        exactly a e f o =
            let i = answer-is w k a (subst (λ (u : List ℕ). HoldersAnswer c u a) e f) in
            let r = asked-replies w k i.0 o buffer long i.1 in
            let me : m ≡ question_bytes i.0 = e ∙ k.rep.asks ∙ ap written_question i.1 in
            let g : given ≡ replies r.0 a =
            ap (λ (u : List ℕ). holder_call w.holder c.x c.xbits u (length buffer)) me ∙ r.1 ∙ ap (λ (u : List ℕ). replies r.0 u) (sym i.2) in
            (ap (λ (x : Result Reply). (leaves_holder w.holder buffer x).answer) g, ap (λ (x : Result Reply). (leaves_holder w.holder buffer x).reply) g)

        unchanged : (o : Result Reply) → given ≡ o → (number : ℕ) → (leaves_holder w.holder buffer given).answer ≡ refusal number
            → (after_holder w m (leaves_holder w.holder buffer given) ≡ w) × ((leaves_holder w.holder buffer given).reply ≡ buffer)
        unchanged (refusal d) e number h =
            (ap (λ (x : Result Reply). after_holder w m (leaves_holder w.holder buffer x)) e, ap (λ (x : Result Reply). (leaves_holder w.holder buffer x).reply) e)
        unchanged (value r) e number h = absurd (no_value number (length r.message) (sym h ∙ ap (λ (x : Result Reply). (leaves_holder w.holder buffer x).answer) e))

  -- ---- every call
  pub call_known : (w : World) → Known w → (k : Call) → Admitted c w k → Known (step_world c w k)
  call_known w i (to_holder m buffer) a = holder_known w i m buffer a.0
  call_known w i (to_rebuilder m buffer) a = rebuilder-known w i m buffer a.0 a.1

  pub call-claims : (w : World) → Known w → (k : Call) → Admitted c w k → CallClaims c w k
  call-claims w i (to_holder m buffer) a = holder-claims w i m buffer a.0
  call-claims w i (to_rebuilder m buffer) a = rebuilder-claims w i m buffer a.0 a.1

  pub list-known : (w : World) → Known w → (ks : List Call) → Each (Admitted c) c w ks → Known (world_after c w ks)
  list-known w i [] a = i
  list-known w i (k ∷ ks) a = list-known (step_world c w k) (call_known w i k a.0) ks a.1

  list-claims : (w : World) → Known w → (ks : List Call) → Each (Admitted c) c w ks → Each (CallClaims c) c w ks
  list-claims w i [] a = tt
  list-claims w i (k ∷ ks) a = (call-claims w i k a.0, list-claims (step_world c w k) (call_known w i k a.0) ks a.1)

  -- ---- the start
  abbrev open-question : List ℕ
  open-question = question_bytes (AskOpen S.h S.key)

  started : rebuilder_start S c.y c.ybits (length c.question) ≡ starts (fresh_rebuilder S c.ybits) open-question
  started = starts-so S c.y c.ybits (length c.question) sup.limits sup.copy sup.question

  begins : Begins c
  begins = record {
    answer = ap (λ (o : Result Started). (leaves_start c.question o).answer) started;
    state = ap (λ (o : Result Started). (leaves_start c.question o).state) started;
    question = ap (λ (o : Result Started). (leaves_start c.question o).question) started;
  }

  pub first-known : Known (first_world c)
  first-known =
      let fs = fresh-sound S c.ybits (L c sup) (rule-is c.y c.ybits sup.copy).few in
      rw (started, take-append_seam open-question (drop (length open-question) c.question)) record {
        rep = record {
          honest = record { inv = refl; truth = tt };
          stands = record { str = []; rows = []; is = refl; size = refl; string = sym (ap (λ (u : List ℕ). at_front u c.string) pack-none); used = refl; sheet = refl; settings = refl; copy = sym (y-length c sup); array = fs.1 };
          tidy = tt;
          sound-now = fs.0;
          answered = refl;
          string-length = refl;
          sheet-length = refl;
          asks = refl;
          unzeroed = λ q e. refl;
        };
        begun = refl;
        counted = refl;
        past = λ m i. absurd i;
        many = refl;
        holder = unopened refl refl;
      }

  -- ---- after the list
  -- what a state that stands for a run shows of it
  record Shows (z : ℕ) (r : Rebuilder) (bs : List ℕ) (sh : List Row) (s : Run) : Type 0 where
    string-is : bs ≡ at_front (pack (string (pieces_of s))) c.string
    counted_is : r.counted ≡ count_of s
    sheet-is : sh ≡ rows_at_front (sheet_of s) z c.sheet
    used-is : r.rows ≡ length (sheet_of s)

  module _ (z : ℕ) (r : Rebuilder) (bs : List ℕ) (sh : List Row) where
    shown : (s : Run) (h : Stands S (length Y) c.string c.sheet z r bs sh (store_of s)) → h.str ≡ string (pieces_of s) → r.counted ≡ count_of s → h.rows ≡ sheet_of s → Shows z r bs sh s
    shown s h e f g = record {
      string-is = h.string ∙ ap (λ (l : List Bool). at_front (pack l) c.string) e;
      counted_is = f;
      sheet-is = h.sheet ∙ ap (λ (l : List Row). rows_at_front l z c.sheet) g;
      used-is = h.used ∙ ap length g;
    }

    shows : (s : Run) → Stands S (length Y) c.string c.sheet z r bs sh (store_of s) → Shows z r bs sh s
    shows opening h = let hi = h.is in shown opening h (cc) (cc) (cc)
    shows (working n d segs rows) h = let hi = h.is in shown (working n d segs rows) h (cc) (cc) (cc)
    shows (whole n d segs rows) h = let hi = h.is in shown (whole n d segs rows) h (cc) (cc) (cc)

    size-shown : (s : Run) → Stands S (length Y) c.string c.sheet z r bs sh (store_of s) → Truth S X s → question S s ≡ none → r.n ≡ c.xbits
    size-shown opening h t k = let z : ◌≡◌ {A = ℕ} 0 1 = cc in absurd (omega arith)
    size-shown (working n d segs rows) h t k = let hi = h.is in let e : r.n ≡ n = cc in e ∙ t.0 ∙ x-length c sup
    size-shown (whole n d segs rows) h t k = let z : ◌≡◌ {A = ℕ} 0 1 = cc in absurd (omega arith)

  pub waiting-reads : (w : World) → Known w → (q : Question) → asked c w ≡ some q → read_question w.waiting c.xbits ≡ value q
  waiting-reads w k q e =
      ap (λ (u : List ℕ). read_question u c.xbits) (k.rep.asks ∙ ap written_question e)
      ∙ question-reads q c.xbits (x-few c sup) (in-range c sup (length w.taken) (run_in c w) k.rep.honest q e)

  pub after-claims : (w : World) → Known w → AfterClaims c w
  after-claims w k =
      let h = k.rep.honest in
      let kp = kept S X Y (L c sup) (n_x c sup) (length w.taken) (run_in c w) h.inv h.truth in
      let sw = shows (zeroed S Y w.taken) w.rebuilder w.string w.sheet (run_in c w) k.rep.stands in
      let ci = k.counted in let cs = sw.counted_is in
      let kb : count_of (run_in c w) ≤ S.ceiling + full c.xbits + longest_answer c.xbits = rw (x-length c sup) at kp.bytes in
      record {
        waits = k.rep.asks;
        reads = waiting-reads w k;
        answered = k.rep.answered;
        questions = few-asked w k;
        counted = cs ∙ ci;
        bytes = omega arith;
        few = kp.few;
        string = sw.string-is;
        sheet = sw.sheet-is;
        used = sw.used-is;
        rows = rw (x-length c sup) at kp.sheet;
        copied = kp.copied;
        finish = λ e. (kp.finish e, size-shown (zeroed S Y w.taken) w.rebuilder w.string w.sheet (run_in c w) k.rep.stands h.truth e);
        settled = kp.settled;
      }

  pub all-lists : Begins c × ((ks : List Call) → Each (Admitted c) c (first_world c) ks → Demand3 c ks)
  all-lists = (
    begins,
    λ ks a. let i = list-known (first_world c) first-known ks a in record {
      calls = list-claims (first_world c) first-known ks a;
      after = after-claims (world_after c (first_world c) ks) i;
      next = call-claims (world_after c (first_world c) ks) i;
    },
  )
