-- Laws of the rebuilder's start and call on bytes: its returns, that a change of the sheet lies in its bytes, that results are small.
use Rattle.std.specs.Prelude.{◌≡◌, Result as CodeResult, Option as CodeOption, Some, None, Ok, Err, unwrap_or, true, false, List, [], ◌∷◌, ◌++◌, ℕ, ◌*◌, ◌≤◌, ◌<◌, drop}
use Rattle.std.proofs.Math.Path.{refl, ap}
use Rattle.std.proofs.Common.{sym, ◌∙◌, arith, length-append}
use Rattle.std.proofs.Math.Option.{Option, none, some}
use Rattle.std.proofs.Math.ListN.{length}
use borrow.Author.Tests.{le-leb, lt-leb}
use Rattle.strings.specs.Bits.{at_front}
use Rattle.strings.specs.StringRule.{string_rule}
use Rattle.strings.specs.Refusals.{refusal_number}
use Rattle.strings.specs.Results.{Result, refusal, value, said}
use Rattle.strings.specs.laws.ResultLaws.{no_value, value-is}
use Rattle.strings.specs.declared.Refusal.{Refusal}
use Rattle.strings.specs.declared.Refusal.TheVariants.{BadSetting, BadString, OutOfTurn, BufferTooShort}
use Rattle.messages.specs.declared.Question.{Question}
use Rattle.messages.specs.declared.Question.TheVariants.{AskOpen, AskHash, AskSyndrome, AskBits, AskBurst}
use Rattle.messages.specs.Numbers.{number}
use Rattle.messages.specs.laws.NumberLaws.{size-most}
use Rattle.messages.specs.Kinds.{kind_number}
use Rattle.messages.specs.laws.KindLaws.{kind-size}
use Rattle.messages.specs.Questions.{question_kind, question_bytes}
use Rattle.messages.specs.laws.QuestionLaws.{field_bytes, question-parts}
use Rattle.strings.specs.declared.settings.Settings.{Settings}
use Rattle.ends.specs.declared.Rebuilder.{Rebuilder}
use Rattle.strings.specs.SettingLimits.{within_limits}
use Rattle.ends.specs.States.{planned}
use Rattle.ends.specs.RebuilderCall.{Started, rebuilder_start, Taken, Capacities, rebuilder_call, written_question, step_of, string_after, rows_needed}
use Rattle.ends.specs.laws.Asking.{TakenCall, taken-call}
use Rattle.ends.specs.laws.Delivery.{started-is}
use Rattle.ends.specs.declared.rebuilding.Started.{Started as CodeStarted}
use Rattle.ends.specs.declared.rebuilding.RebuilderOut.{RebuilderOut}
use Rattle.ends.specs.RebuilderOutcome.{StartSaid, said_start, leaves_start, call_said, RebuilderSaid, said_rebuilder, next_size, leaves_rebuilder}
use Rattle.ends.proofs.code.SheetCallLaws.{change-fits}
use Rattle.layout.specs.Layout.{rebuilder_size, rebuilder_bytes, rebuilder_of, is_rebuilder}
use Rattle.layout.specs.laws.LayoutLaws.{length-rebuilder}
use Rattle.layout.specs.Sheet.{row_size, sheet_bytes_after}
use Rattle.cabi.specs.Packing.{packed, value_unit}
use Rattle.cabi.specs.Calls.{start_on_bytes, StartLeft, start_left, rebuilder_on_bytes, capacities_in, RebuilderLeft, rebuilder_left, start_bytes_outcome, rebuilder_bytes_outcome}

-- ---- a question has at most 16 bytes, whatever its numbers
question-most : (q : Question) → length (question_bytes q) ≤ 16
question-most q =
    let e = length-append (number (kind_number (question_kind q))) (field_bytes q) in
    let k = kind-size (question_kind q) in
    let p = ap length (question-parts q) in
    let f = fields q in
    omega arith
  where
    two : (a b : ℕ) → length (number a ++ number b) ≤ 10
    two a b = let e = length-append (number a) (number b) in let i = size-most a in let j = size-most b in omega arith

    fields : (q : Question) → length (field_bytes q) ≤ 15
    fields (AskOpen h key) = let e = length-append (number 1) (number h ++ number key) in let i = size-most 1 in let j = two h key in omega arith
    fields (AskHash start len) = let j = two start len in omega arith
    fields (AskSyndrome start len) = let j = two start len in omega arith
    fields (AskBits start len) = let j = two start len in omega arith
    fields (AskBurst start len b) = let e = length-append (number start) (number len ++ number b) in let i = size-most start in let j = two len b in omega arith

written-most : (o : Option Question) → length (written_question o) ≤ 16
written-most none = omega arith
written-most (some q) = question-most q

-- as the one that a taken call writes
pub taken-small : (st : Rebuilder) (y : List ℕ) (bits : ℕ) (msg : List ℕ) (capacities : Capacities) (t : Taken) → rebuilder_call st y bits msg capacities ≡ value t → length t.question ≤ 16
taken-small st y bits msg capacities t e =
    let k : TakenCall st y msg capacities t.step t.question = taken-call st y bits msg capacities t.step t.question e in
    rw k.asks (written-most (planned (step_of st y (length msg) k.a).state))

-- ---- the returns of the call

module _ (s y : List ℕ) (bits : ℕ) (msg string sheet question : List ℕ) where
  pub call-bad-string : {r : ℕ} → r ≡ packed (refusal (refusal_number BadString)) → string_rule y bits ≡ false
      → record { result = r; state = s; string = string; sheet = sheet; question = question } ≡ rebuilder_bytes_outcome s y bits msg string sheet question
  unfolding rebuilder_on_bytes packed
  call-bad-string p e = rw (p, e) refl

  pub call-no-state : {r : ℕ} → r ≡ packed (refusal (refusal_number OutOfTurn)) → string_rule y bits ≡ true → is_rebuilder s ≡ false
      → record { result = r; state = s; string = string; sheet = sheet; question = question } ≡ rebuilder_bytes_outcome s y bits msg string sheet question
  unfolding rebuilder_on_bytes packed
  call-no-state p e f = rw (p, e, f) refl

  pub rebuilder-called : string_rule y bits ≡ true → is_rebuilder s ≡ true
      → rebuilder_on_bytes s y bits msg (capacities_in string sheet question) ≡ rebuilder_call (rebuilder_of s) y bits msg (capacities_in string sheet question)
  unfolding rebuilder_on_bytes
  rebuilder-called e f = rw (e, f) refl

-- the length of the next question
abbrev pub asked_size : Option ℕ → ℕ
asked_size (some size) = size
asked_size none = 0

next-size : (m : List ℕ) → asked_size (next_size m) ≡ length m
next-size [] = refl
next-size (b ∷ m) = refl

-- where the code does not turn down, it says what is asked next: o, whose length is 0 where there is none
not_refused : (o : CodeOption ℕ) (number : ℕ) → call_said (Ok o) ≡ refusal number → ⊥
not_refused (Some size) number e = no_value number (some size) (sym e)
not_refused None number e = no_value number none (sym e)

next_asked : (o : CodeOption ℕ) (n : Option ℕ) → call_said (Ok o) ≡ value n → unwrap_or o 0 ≡ asked_size n
next_asked (Some size) n e = ap asked_size (value-is e)
next_asked None n e = ap asked_size (value-is e)

-- a state written to the front of bytes
front : (s : List ℕ) (st next : Rebuilder) → st ≡ next → rebuilder_bytes st ++ drop rebuilder_size s ≡ at_front (rebuilder_bytes next) s
front s st next e = ap (λ (z : Rebuilder). rebuilder_bytes z ++ drop rebuilder_size s) e ∙ ap (λ (n : ℕ). rebuilder_bytes next ++ drop n s) (sym (length-rebuilder next))

-- what the call on the state says, as bytes
module _ (s string sheet question string' question' : List ℕ) (st : Rebuilder) (out : RebuilderOut) where
  said-declined : (t : Result Taken) (e : Refusal) → said_rebuilder out string' question' ≡ leaves_rebuilder st string question t → out.answer ≡ Err e
      → record { result = packed (refusal (refusal_number e)); state = s; string = string'; sheet = sheet; question = question' } ≡ rebuilder_left s string sheet question t
  said-declined (refusal number) e k f =
      let a : call_said out.answer ≡ refusal number = ap (λ (w : RebuilderSaid). w.answer) k in
      let i : call_said out.answer ≡ refusal (refusal_number e) = ap call_said f in
      let b : refusal_number e ≡ number = cc in
      let c : string' ≡ string = ap (λ (w : RebuilderSaid). w.string) k in
      let g : question' ≡ question = ap (λ (w : RebuilderSaid). w.question) k in
      rw (b, c, g) refl
  said-declined (value t) e k f =
      let a : call_said out.answer ≡ value (next_size t.question) = ap (λ (w : RebuilderSaid). w.answer) k in
      let i : call_said out.answer ≡ refusal (refusal_number e) = ap call_said f in
      absurd (no_value (refusal_number e) (next_size t.question) (sym i ∙ a))

  -- n is the length of the next question, if there is one
  module _ (n : Option ℕ) (is : call_said out.answer ≡ value n) where
    said-size : (t : Taken) → said_rebuilder out string' question' ≡ leaves_rebuilder st string question (value t) → asked_size n ≡ length t.question
    said-size t k =
        let a : call_said out.answer ≡ value (next_size t.question) = ap (λ (w : RebuilderSaid). w.answer) k in
        ap asked_size (value-is (sym is ∙ a)) ∙ next-size t.question

    said-taken : (t : Result Taken) (s' sheet' : List ℕ) → said_rebuilder out string' question' ≡ leaves_rebuilder st string question t
        → s' ≡ rebuilder_bytes out.state ++ drop rebuilder_size s → sheet' ≡ sheet_bytes_after sheet out.sheet
        → record { result = asked_size n * value_unit; state = s'; string = string'; sheet = sheet'; question = question' } ≡ rebuilder_left s string sheet question t
    unfolding packed
    said-taken (refusal number) s' sheet' k g h =
        let a : call_said out.answer ≡ refusal number = ap (λ (w : RebuilderSaid). w.answer) k in
        absurd (no_value number n (sym a ∙ is))
    said-taken (value t) s' sheet' k g h =
        let a = said-size t k in
        let b : out.state ≡ t.step.state = ap (λ (w : RebuilderSaid). w.state) k in
        let c : out.sheet ≡ t.step.sheet = ap (λ (w : RebuilderSaid). w.sheet) k in
        let d : string' ≡ string_after string t.step.string = ap (λ (w : RebuilderSaid). w.string) k in
        let f : question' ≡ at_front t.question question = ap (λ (w : RebuilderSaid). w.question) k in
        let i : s' ≡ at_front (rebuilder_bytes t.step.state) s = g ∙ front s out.state t.step.state b in
        rw (a, i, h, c, d, f) refl

    said-small : (t : Result Taken) → said_rebuilder out string' question' ≡ leaves_rebuilder st string question t
        → ((v : Taken) → t ≡ value v → length v.question ≤ 16) → asked_size n ≤ 16
    said-small (refusal number) k h =
        let a : call_said out.answer ≡ refusal number = ap (λ (w : RebuilderSaid). w.answer) k in
        absurd (no_value number n (sym a ∙ is))
    said-small (value t) k h = let a = said-size t k in let i = h t refl in omega arith

  -- o is the same length as the code says it
  module _ (o : CodeOption ℕ) (is : out.answer ≡ Ok o) where
    ok-size : (t : Taken) → said_rebuilder out string' question' ≡ leaves_rebuilder st string question (value t) → unwrap_or o 0 ≡ length t.question
    ok-size t k =
        let a : call_said out.answer ≡ value (next_size t.question) = ap (λ (w : RebuilderSaid). w.answer) k in
        next_asked o (next_size t.question) (sym (ap call_said is) ∙ a) ∙ next-size t.question

    ok-taken : (t : Result Taken) (s' sheet' : List ℕ) → said_rebuilder out string' question' ≡ leaves_rebuilder st string question t
        → s' ≡ rebuilder_bytes out.state ++ drop rebuilder_size s → sheet' ≡ sheet_bytes_after sheet out.sheet
        → record { result = unwrap_or o 0 * value_unit; state = s'; string = string'; sheet = sheet'; question = question' } ≡ rebuilder_left s string sheet question t
    unfolding packed
    ok-taken (refusal number) s' sheet' k g h =
        let a : call_said out.answer ≡ refusal number = ap (λ (w : RebuilderSaid). w.answer) k in
        absurd (not_refused o number (sym (ap call_said is) ∙ a))
    ok-taken (value t) s' sheet' k g h =
        let a = ok-size t k in
        let b : out.state ≡ t.step.state = ap (λ (w : RebuilderSaid). w.state) k in
        let c : out.sheet ≡ t.step.sheet = ap (λ (w : RebuilderSaid). w.sheet) k in
        let d : string' ≡ string_after string t.step.string = ap (λ (w : RebuilderSaid). w.string) k in
        let f : question' ≡ at_front t.question question = ap (λ (w : RebuilderSaid). w.question) k in
        let i : s' ≡ at_front (rebuilder_bytes t.step.state) s = g ∙ front s out.state t.step.state b in
        rw (a, i, h, c, d, f) refl

    ok-small : (t : Result Taken) → said_rebuilder out string' question' ≡ leaves_rebuilder st string question t
        → ((v : Taken) → t ≡ value v → length v.question ≤ 16) → unwrap_or o 0 ≤ 16
    ok-small (refusal number) k h =
        let a : call_said out.answer ≡ refusal number = ap (λ (w : RebuilderSaid). w.answer) k in
        absurd (not_refused o number (sym (ap call_said is) ∙ a))
    ok-small (value t) k h = let a = ok-size t k in let i = h t refl in omega arith

-- for the code: what is known where the call on the state that was read has answered
pub record RebuilderCalled : Type 0 where
  pub s : List ℕ
  pub y : List ℕ
  pub bits : ℕ
  pub msg : List ℕ
  pub string : List ℕ
  pub sheet : List ℕ
  pub question : List ℕ
  pub string' : List ℕ
  pub question' : List ℕ
  pub st : Rebuilder
  pub out : RebuilderOut
  pub rule : string_rule y bits ≡ true
  pub whole : is_rebuilder s ≡ true
  pub read : st ≡ rebuilder_of s
  pub said : said_rebuilder out string' question' ≡ leaves_rebuilder st string question (rebuilder_call st y bits msg (capacities_in string sheet question))

-- a call of these, from what the code's steps say
abbrev pub rebuilder_called : (s y : List ℕ) (bits : ℕ) (msg string sheet question : List ℕ) {string' question' : List ℕ} {st : Rebuilder} (out : RebuilderOut)
    → string_rule y bits ≡ true → is_rebuilder s ≡ true → st ≡ rebuilder_of s
    → said_rebuilder out string' question' ≡ leaves_rebuilder st string question (rebuilder_call st y bits msg (capacities_in string sheet question)) → RebuilderCalled
rebuilder_called s y bits msg string sheet question {string'} {question'} {st} out rule whole read said = record {
  s = s;
  y = y;
  bits = bits;
  msg = msg;
  string = string;
  sheet = sheet;
  question = question;
  string' = string';
  question' = question';
  st = st;
  out = out;
  rule = rule;
  whole = whole;
  read = read;
  said = said;
}

module _ (k : RebuilderCalled) where
  abbrev capacities : Capacities
  capacities = capacities_in k.string k.sheet k.question

  abbrev pub called_leaves : RebuilderLeft
  called_leaves = rebuilder_bytes_outcome k.s k.y k.bits k.msg k.string k.sheet k.question

  -- what the call on the state gives
  abbrev heard : Result Taken
  heard = rebuilder_call k.st k.y k.bits k.msg capacities

  pub call_rows : row_size * rows_needed k.out.sheet ≤ length k.sheet
  call_rows =
      let r = change-fits k.st k.y k.bits k.msg capacities k.string k.question k.string' k.question' k.out k.said in
      omega arith

  called : rebuilder_left k.s k.string k.sheet k.question heard ≡ called_leaves
  called = sym (rw (rebuilder-called k.s k.y k.bits k.msg k.string k.sheet k.question k.rule k.whole, k.read) refl)

  pub call-declined : {d : Refusal} {r : ℕ} → k.out.answer ≡ Err d → r ≡ packed (refusal (refusal_number d))
      → record { result = r; state = k.s; string = k.string'; sheet = k.sheet; question = k.question' } ≡ called_leaves
  call-declined {d} a h =
      (rw h (said-declined k.s k.string k.sheet k.question k.string' k.question' k.st k.out heard d k.said a)) ∙ called

  module _ {n : Option ℕ} (a : call_said k.out.answer ≡ value n) where
    pub call-small : asked_size n ≤ 16
    call-small =
        said-small k.s k.string k.sheet k.question k.string' k.question' k.st k.out n a heard k.said
        (taken-small k.st k.y k.bits k.msg capacities)

    pub call-taken : {r : ℕ} {s' sheet' : List ℕ} → r ≡ asked_size n * value_unit → s' ≡ rebuilder_bytes k.out.state ++ drop rebuilder_size k.s → sheet' ≡ sheet_bytes_after k.sheet k.out.sheet
        → record { result = r; state = s'; string = k.string'; sheet = sheet'; question = k.question' } ≡ called_leaves
    call-taken {r} {s'} {sheet'} h i j =
        (rw h (said-taken k.s k.string k.sheet k.question k.string' k.question' k.st k.out n a heard s' sheet' k.said i j)) ∙ called

  module _ {o : CodeOption ℕ} (a : k.out.answer ≡ Ok o) where
    pub call-ok-small : unwrap_or o 0 ≤ 16
    call-ok-small =
        ok-small k.s k.string k.sheet k.question k.string' k.question' k.st k.out o a heard k.said
        (taken-small k.st k.y k.bits k.msg capacities)

    pub call-ok-taken : {r : ℕ} {s' sheet' : List ℕ} → r ≡ unwrap_or o 0 * value_unit → s' ≡ rebuilder_bytes k.out.state ++ drop rebuilder_size k.s → sheet' ≡ sheet_bytes_after k.sheet k.out.sheet
        → record { result = r; state = s'; string = k.string'; sheet = sheet'; question = k.question' } ≡ called_leaves
    call-ok-taken {r} {s'} {sheet'} h i j =
        (rw h (ok-taken k.s k.string k.sheet k.question k.string' k.question' k.st k.out o a heard s' sheet' k.said i j)) ∙ called

-- ---- the returns of the start
module _ (S : Settings) (y : List ℕ) (bits : ℕ) (s question : List ℕ) where
  pub start-bad-setting : {r : ℕ} → r ≡ packed (refusal (refusal_number BadSetting)) → within_limits S ≡ false
      → record { result = r; state = s; question = question } ≡ start_left s question (start_on_bytes S y bits (length s) (length question))
  unfolding start_on_bytes packed
  start-bad-setting p e = rw (p, e) refl

  pub start-bad-string : {r : ℕ} → r ≡ packed (refusal (refusal_number BadString)) → within_limits S ≡ true → string_rule y bits ≡ false
      → record { result = r; state = s; question = question } ≡ start_left s question (start_on_bytes S y bits (length s) (length question))
  unfolding start_on_bytes packed
  start-bad-string p e f = rw (p, e, f) refl

  module _ (e : within_limits S ≡ true) (f : string_rule y bits ≡ true) where
    pub start-short : {r : ℕ} → r ≡ packed (refusal (refusal_number BufferTooShort)) → length s < rebuilder_size
        → record { result = r; state = s; question = question } ≡ start_left s question (start_on_bytes S y bits (length s) (length question))
    unfolding start_on_bytes packed
    start-short p h = rw (p, e, f, lt-leb rebuilder_size (length s) h) refl

    started : rebuilder_size ≤ length s → start_on_bytes S y bits (length s) (length question) ≡ rebuilder_start S y bits (length question)
    unfolding start_on_bytes
    started h = rw (e, f, le-leb rebuilder_size (length s) h) refl

module _ (s question question' : List ℕ) (out : CodeResult CodeStarted Refusal) where
  start-declines : (t : Result Started) (e : Refusal) → said_start out question' ≡ leaves_start question t → out ≡ Err e
      → record { result = packed (refusal (refusal_number e)); state = s; question = question' } ≡ start_left s question t
  start-declines (refusal number) e k f =
      let i : said_start (Err e) question' ≡ leaves_start question (refusal number) = sym (ap (λ (o : CodeResult CodeStarted Refusal). said_start o question') f) ∙ k in
      let a : refusal (refusal_number e) ≡ refusal number = ap (λ (w : StartSaid). w.answer) i in
      let b : refusal_number e ≡ number = cc in
      let g : question' ≡ question = ap (λ (w : StartSaid). w.question) i in
      rw (b, g) refl
  start-declines (value v) e k f =
      let i : said_start (Err e) question' ≡ leaves_start question (value v) = sym (ap (λ (o : CodeResult CodeStarted Refusal). said_start o question') f) ∙ k in
      absurd (no_value (refusal_number e) (length v.question) (ap (λ (w : StartSaid). w.answer) i))

  module _ (b : CodeStarted) (f : out ≡ Ok b) where
    begun-said : (t : Result Started) → said_start out question' ≡ leaves_start question t → said_start (Ok b) question' ≡ leaves_start question t
    begun-said t k = sym (ap (λ (o : CodeResult CodeStarted Refusal). said_start o question') f) ∙ k

    start-begins : (t : Result Started) (s' : List ℕ) → said_start out question' ≡ leaves_start question t
        → s' ≡ rebuilder_bytes b.state ++ drop rebuilder_size s
        → record { result = b.size * value_unit; state = s'; question = question' } ≡ start_left s question t
    unfolding packed
    start-begins (refusal number) s' k g = absurd (no_value number b.size (sym (ap (λ (w : StartSaid). w.answer) (begun-said (refusal number) k))))
    start-begins (value v) s' k g =
        let i = begun-said (value v) k in
        let c : b.size ≡ length v.question = value-is (ap (λ (w : StartSaid). w.answer) i) in
        let e : b.state ≡ v.state = ap (λ (w : StartSaid). w.state) i in
        let d : question' ≡ at_front v.question question = ap (λ (w : StartSaid). w.question) i in
        let h : s' ≡ at_front (rebuilder_bytes v.state) s = g ∙ front s b.state v.state e in
        rw (c, h, d) refl

    start-size : (t : Result Started) → said_start out question' ≡ leaves_start question t → ((v : Started) → t ≡ value v → length v.question ≤ 16) → b.size ≤ 16
    start-size (refusal number) k h = absurd (no_value number b.size (sym (ap (λ (w : StartSaid). w.answer) (begun-said (refusal number) k))))
    start-size (value v) k h =
        let c : b.size ≡ length v.question = value-is (ap (λ (w : StartSaid). w.answer) (begun-said (value v) k)) in
        let i = h v refl in omega arith

-- for the code: what is known where the start has answered; the settings were given as a struct
pub record StartCalled : Type 0 where
  pub S : Settings
  pub given : Settings
  pub y : List ℕ
  pub bits : ℕ
  pub s : List ℕ
  pub question : List ℕ
  pub question' : List ℕ
  pub out : CodeResult CodeStarted Refusal
  pub same : given ≡ S
  pub limits : within_limits S ≡ true
  pub rule : string_rule y bits ≡ true
  pub capacity : rebuilder_size ≤ length s
  pub said : said_start out question' ≡ leaves_start question (rebuilder_start given y bits (length question))

-- a start of these, from what the code's steps say
abbrev pub start_called : (S : Settings) {given : Settings} (y : List ℕ) (bits : ℕ) (s question question' : List ℕ) (out : CodeResult CodeStarted Refusal)
    → given ≡ S → within_limits given ≡ true → string_rule y bits ≡ true → rebuilder_size ≤ length s
    → said_start out question' ≡ leaves_start question (rebuilder_start given y bits (length question)) → StartCalled
start_called S {given} y bits s question question' out same limits rule capacity said = record {
  S = S;
  given = given;
  y = y;
  bits = bits;
  s = s;
  question = question;
  question' = question';
  out = out;
  same = same;
  limits = ap within_limits (sym same) ∙ limits;
  rule = rule;
  capacity = capacity;
  said = said;
}

module _ (k : StartCalled) where
  -- what the start gives
  abbrev began : Result Started
  began = rebuilder_start k.S k.y k.bits (length k.question)

  said-began : said_start k.out k.question' ≡ leaves_start k.question began
  said-began = k.said ∙ ap (λ (z : Settings). leaves_start k.question (rebuilder_start z k.y k.bits (length k.question))) k.same

  pub start_small : {b : CodeStarted} → k.out ≡ Ok b → b.size ≤ 16
  start_small {b} a =
      start-size k.s k.question k.question' k.out b a began said-began
      (λ v t. rw (started-is k.S k.y k.bits (length k.question) v.state v.question t).question (question-most (AskOpen k.S.h k.S.key)))

  abbrev pub start_leaves : StartLeft
  start_leaves = start_bytes_outcome k.S k.y k.bits k.s k.question

  began-leaves : start_left k.s k.question began ≡ start_leaves
  began-leaves = sym (rw (started k.S k.y k.bits k.s k.question k.limits k.rule k.capacity) refl)

  pub start-declined : {d : Refusal} {r : ℕ} → k.out ≡ Err d → r ≡ packed (refusal (refusal_number d)) → record { result = r; state = k.s; question = k.question' } ≡ start_leaves
  start-declined {d} a i = (rw i (start-declines k.s k.question k.question' k.out began d said-began a)) ∙ began-leaves

  pub start-begun : {b : CodeStarted} {s' : List ℕ} → k.out ≡ Ok b → s' ≡ rebuilder_bytes b.state ++ drop rebuilder_size k.s
      → record { result = b.size * value_unit; state = s'; question = k.question' } ≡ start_leaves
  start-begun {b} {s'} a i = start-begins k.s k.question k.question' k.out b a began s' said-began i ∙ began-leaves
