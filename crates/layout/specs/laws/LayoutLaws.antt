-- Lengths of the layouts; a state's bytes pass the test of states, and reading them gives the state.
use Rattle.std.specs.Prelude.{◌≡◌, refl, Bool, true, List, [], ◌∷◌, ◌++◌, ℕ, zero, suc, ◌+◌, ◌*◌, ◌≤◌, ◌<◌, length, get_or, take, drop, leb, false, ◌-◌, set, replicate}
use Rattle.std.proofs.Common.{sym, ap, ap₂, ◌∙◌, append_assoc, append-nil, add-zero, arith, length-append, drop-cons, take_all, le-leb, leb-true, add-one}
use Rattle.std.proofs.lemmas.List.Edits.{sets}
use Rattle.strings.specs.declared.settings.Settings.{Settings}
use Rattle.ends.specs.declared.Holder.{Holder}
use Rattle.ends.specs.declared.Piece.{Piece}
use Rattle.ends.specs.declared.Phase.{Phase}
use Rattle.ends.specs.declared.Rebuilder.{Rebuilder}
use Rattle.ends.specs.declared.Stage.{Stage}
use Rattle.ends.specs.States.{no_piece}
use Rattle.layout.specs.Bytes32.{bytes_of, word_at}
use Rattle.layout.specs.Layout.{all_bytes, opened_number, opened_of, phase_number, phase_of, stage_number, stage_of, holder_size, holder_bytes, holder_of, is_holder, piece_bytes, piece_at, pieces_bytes, pieces_at, rebuilder_size, head_bytes, rebuilder_bytes, fields_of, rebuilder_of, is_rebuilder}
use Rattle.strings.specs.laws.StoreLaws.{sets-append, sets-front}
use Rattle.strings.specs.Bits.{Bytes}
use Rattle.strings.specs.laws.Tests.{and_left, and-true}
use Rattle.layout.specs.laws.Bytes32Laws.{digits, number_behind, number-below}
use Rattle.layout.specs.laws.CaseLaws.{opened-most, opened-back, phase-most, phase-back, stage-most, stage-back}
use Rattle.std.proofs.lemmas.List.{length-replicate}
use Rattle.std.proofs.lemmas.Bool.{lt-leb}

-- ---- lengths
pub length-holder : (st : Holder) → length (holder_bytes st) ≡ holder_size
unfolding holder_bytes all_bytes bytes_of
length-holder st = refl

pub length-piece : (pc : Piece) → length (piece_bytes pc) ≡ 16
unfolding piece_bytes all_bytes bytes_of
length-piece pc = refl

pub length-pieces : (l : List Piece) (i n : ℕ) → length (pieces_bytes l i n) ≡ 16 * n
unfolding pieces_bytes
length-pieces l i zero = refl
length-pieces l i (suc n) =
    let a = length-append (piece_bytes (get_or l i no_piece)) (pieces_bytes l (suc i) n) in
    let b = length-piece (get_or l i no_piece) in
    let c = length-pieces l (suc i) n in
    omega arith

pub length_fields : (st : Rebuilder) → length (head_bytes st) ≡ 52
unfolding head_bytes all_bytes bytes_of
length_fields st = refl

pub length-rebuilder : (st : Rebuilder) → length (rebuilder_bytes st) ≡ rebuilder_size
unfolding rebuilder_bytes
length-rebuilder st =
    let a = length-append (head_bytes st) (pieces_bytes st.pieces 0 32) in
    let b = length_fields st in
    let c = length-pieces st.pieces 0 32 in
    omega arith

length-pieces_at : (s : List ℕ) (at n : ℕ) → length (pieces_at s at n) ≡ n
unfolding pieces_at
length-pieces_at s at zero = refl
length-pieces_at s at (suc n) = ap suc (length-pieces_at s (at + 16) n)

-- what is read is a state with 32 pieces
pub rebuilder-pieces : (s : List ℕ) → length (rebuilder_of s).pieces ≡ 32
unfolding rebuilder_of fields_of
rebuilder-pieces s = length-pieces_at s 52 32

-- ---- every number of a state is below 2^32, as of any state that code holds; those of its cases always are
pub record HolderFits (st : Holder) : Type 0 where
  pub bits-fits : st.bits < 4294967296
  pub h_fits : st.h < 4294967296
  pub key_fits : st.key < 4294967296
  pub answers-fits : st.answers < 4294967296

pub record PieceFits (pc : Piece) : Type 0 where
  pub x_fits : pc.x < 4294967296
  pub p-fits : pc.p < 4294967296
  pub y-fits : pc.y < 4294967296
  pub q-fits : pc.q < 4294967296

pub record SettingsFit (S : Settings) : Type 0 where
  pub m-fits : S.m < 4294967296
  pub h_fits : S.h < 4294967296
  pub k-fits : S.k < 4294967296
  pub key_fits : S.key < 4294967296
  pub ceiling-fits : S.ceiling < 4294967296

pub record RebuilderFits (st : Rebuilder) : Type 0 where
  pub settings-fit : SettingsFit st.settings
  pub ybits-fits : st.ybits < 4294967296
  pub n-fits : st.n < 4294967296
  pub answered-fits : st.answered < 4294967296
  pub counted-fits : st.counted < 4294967296
  pub rows-fits : st.rows < 4294967296
  pub waiting-fits : st.waiting < 4294967296
  pub pieces-fit : (i : ℕ) → PieceFits (get_or st.pieces i no_piece)
  pub pieces-number : length st.pieces ≡ 32

-- ---- the holder: reading its bytes, whatever follows them
pub holder-same : {a a' : Bool} {b c d e b' c' d' e' : ℕ} → a ≡ a' → b ≡ b' → c ≡ c' → d ≡ d' → e ≡ e'
    → ◌≡◌ {A = Holder} (record { opened = a; bits = b; h = c; key = d; answers = e }) (record { opened = a'; bits = b'; h = c'; key = d'; answers = e' })
holder-same p q r s t = rw (p, q, r, s, t) refl

pub holder-read : (st : Holder) (l : List ℕ) → HolderFits st → holder_of (holder_bytes st ++ l) ≡ st
unfolding holder_of holder_bytes all_bytes bytes_of word_at
holder-read st l f =
    holder-same
    (ap opened_of (digits (opened_number st.opened) (let k = opened-most st.opened in omega arith)) ∙ opened-back st.opened)
    (digits st.bits f.bits-fits) (digits st.h f.h_fits) (digits st.key f.key_fits)
    (digits st.answers f.answers-fits)

pub holder-back : (st : Holder) → HolderFits st → holder_of (holder_bytes st) ≡ st
holder-back st f = ap holder_of (sym (append-nil (holder_bytes st))) ∙ holder-read st [] f

-- the numbers that bytes are read as are below 2^32
pub holder-fits : (s : List ℕ) → Bytes s → HolderFits (holder_of s)
unfolding holder_of
holder-fits s b = record {
  bits-fits = number-below s 4 b;
  h_fits = number-below s 8 b;
  key_fits = number-below s 12 b;
  answers-fits = number-below s 16 b;
}

-- ---- pieces
pub piece-same : {a b c d a' b' c' d' : ℕ} → a ≡ a' → b ≡ b' → c ≡ c' → d ≡ d'
    → ◌≡◌ {A = Piece} (record { x = a; p = b; y = c; q = d }) (record { x = a'; p = b'; y = c'; q = d' })
piece-same p q r s = rw (p, q, r, s) refl

piece-read : (pc : Piece) (b l : List ℕ) → PieceFits pc → piece_at (b ++ (piece_bytes pc ++ l)) (length b) ≡ pc
unfolding piece_at piece_bytes all_bytes bytes_of word_at
piece-read pc b l f =
    piece-same
    (ap (λ (i : ℕ). word_at (b ++ (piece_bytes pc ++ l)) i) (sym (add-zero (length b))) ∙ number_behind b (piece_bytes pc ++ l) 0 ∙ digits pc.x f.x_fits)
    (number_behind b (piece_bytes pc ++ l) 4 ∙ digits pc.p f.p-fits)
    (number_behind b (piece_bytes pc ++ l) 8 ∙ digits pc.y f.y-fits)
    (number_behind b (piece_bytes pc ++ l) 12 ∙ digits pc.q f.q-fits)

-- the n pieces of a list from number i on
abbrev some : List Piece → (i n : ℕ) → List Piece
some l i zero = []
some l i (suc n) = get_or l i no_piece ∷ some l (suc i) n

some_is : (l : List Piece) (i n : ℕ) → i + n ≤ length l → some l i n ≡ take n (drop i l)
some_is l i zero h = refl
some_is l i (suc n) h = rw (drop-cons l i no_piece (omega arith)) (ap (λ (m : List Piece). get_or l i no_piece ∷ m) (some_is l (suc i) n (omega arith)))

pieces-read : (l : List Piece) (i n : ℕ) (b r : List ℕ) → ((j : ℕ) → PieceFits (get_or l j no_piece)) → pieces_at (b ++ (pieces_bytes l i n ++ r)) (length b) n ≡ some l i n
unfolding pieces_at pieces_bytes
pieces-read l i zero b r f = refl
pieces-read l i (suc n) b r f =
    let e = append_assoc (piece_bytes (get_or l i no_piece)) (pieces_bytes l (suc i) n) r in
    let t : b ++ (piece_bytes (get_or l i no_piece) ++ (pieces_bytes l (suc i) n ++ r)) ≡ (b ++ piece_bytes (get_or l i no_piece)) ++ (pieces_bytes l (suc i) n ++ r)
    = sym (append_assoc b (piece_bytes (get_or l i no_piece)) (pieces_bytes l (suc i) n ++ r)) in
    let k : length b + 16 ≡ length (b ++ piece_bytes (get_or l i no_piece))
    = (let a = length-append b (piece_bytes (get_or l i no_piece)) in let c = length-piece (get_or l i no_piece) in omega arith) in
    ap (λ (m : List ℕ). piece_at (b ++ m) (length b) ∷ pieces_at (b ++ m) (length b + 16) n) e
    ∙ ap₂ (λ (x : Piece) (y : List Piece). x ∷ y) (piece-read (get_or l i no_piece) b (pieces_bytes l (suc i) n ++ r) (f i))
    (ap₂ (λ (m : List ℕ) (a : ℕ). pieces_at m a n) t k ∙ pieces-read l (suc i) n (b ++ piece_bytes (get_or l i no_piece)) r f)

-- ---- the rebuilder
pub settings-same : {a b c d e a' b' c' d' e' : ℕ} → a ≡ a' → b ≡ b' → c ≡ c' → d ≡ d' → e ≡ e'
    → ◌≡◌ {A = Settings} (record { m = a; h = b; k = c; key = d; ceiling = e }) (record { m = a'; h = b'; k = c'; key = d'; ceiling = e' })
settings-same p q r s t = rw (p, q, r, s, t) refl

pub state-same : {S S' : Settings} {a c d e f h a' c' d' e' f' h' : ℕ} {b b' : Phase} {g g' : Stage} {l l' : List Piece}
    → S ≡ S' → a ≡ a' → b ≡ b' → c ≡ c' → d ≡ d' → e ≡ e' → f ≡ f' → g ≡ g' → h ≡ h' → l ≡ l'
    → ◌≡◌ {A = Rebuilder}
    (record { settings = S; ybits = a; phase = b; n = c; answered = d; counted = e; rows = f; stage = g; waiting = h; pieces = l })
    (record { settings = S'; ybits = a'; phase = b'; n = c'; answered = d'; counted = e'; rows = f'; stage = g'; waiting = h'; pieces = l' })
state-same o p q r s t u v w x = rw (o, p, q, r, s, t, u, v, w, x) refl

pieces-back : (st : Rebuilder) (l : List ℕ) → RebuilderFits st → pieces_at (rebuilder_bytes st ++ l) 52 32 ≡ st.pieces
unfolding rebuilder_bytes
pieces-back st l f =
    ap₂ (λ (m : List ℕ) (a : ℕ). pieces_at m a 32) (append_assoc (head_bytes st) (pieces_bytes st.pieces 0 32) l) (sym (length_fields st))
    ∙ pieces-read st.pieces 0 32 (head_bytes st) l f.pieces-fit
    ∙ some_is st.pieces 0 32 (let e = f.pieces-number in omega arith)
    ∙ take_all 32 st.pieces (let e = f.pieces-number in omega arith)

pub rebuilder-read : (st : Rebuilder) (l : List ℕ) → RebuilderFits st → rebuilder_of (rebuilder_bytes st ++ l) ≡ st
unfolding rebuilder_of fields_of rebuilder_bytes head_bytes all_bytes bytes_of word_at
rebuilder-read st l f =
    let g = f.settings-fit in
    state-same
    (settings-same (digits st.settings.m g.m-fits) (digits st.settings.h g.h_fits) (digits st.settings.k g.k-fits)
    (digits st.settings.key g.key_fits) (digits st.settings.ceiling g.ceiling-fits))
    (digits st.ybits f.ybits-fits)
    (ap phase_of (digits (phase_number st.phase) (let k = phase-most st.phase in omega arith)) ∙ phase-back st.phase)
    (digits st.n f.n-fits)
    (digits st.answered f.answered-fits)
    (digits st.counted f.counted-fits)
    (digits st.rows f.rows-fits)
    (ap stage_of (digits (stage_number st.stage) (let k = stage-most st.stage in omega arith)) ∙ stage-back st.stage)
    (digits st.waiting f.waiting-fits)
    (pieces-back st l f)

pub rebuilder-back : (st : Rebuilder) → RebuilderFits st → rebuilder_of (rebuilder_bytes st) ≡ st
rebuilder-back st f = ap rebuilder_of (sym (append-nil (rebuilder_bytes st))) ∙ rebuilder-read st [] f

-- ---- the test of a state's bytes: those of a state pass it, whatever follows them
holder-word : (st : Holder) (l : List ℕ) → word_at (holder_bytes st ++ l) 0 ≡ opened_number st.opened
unfolding holder_bytes all_bytes bytes_of word_at
holder-word st l = digits (opened_number st.opened) (let k = opened-most st.opened in omega arith)

pub holder-bytes-front : (st : Holder) (l : List ℕ) → is_holder (holder_bytes st ++ l) ≡ true
unfolding is_holder
holder-bytes-front st l =
    and-true _ _
    (le-leb holder_size (length (holder_bytes st ++ l)) (let a = length-append (holder_bytes st) l in let b = length-holder st in omega arith))
    (le-leb (word_at (holder_bytes st ++ l) 0) 1 (let a = holder-word st l in let b = opened-most st.opened in omega arith))

pub holder-bytes-are : (st : Holder) → is_holder (holder_bytes st) ≡ true
holder-bytes-are st = ap is_holder (sym (append-nil (holder_bytes st))) ∙ holder-bytes-front st []

phase-word : (st : Rebuilder) (l : List ℕ) → word_at (rebuilder_bytes st ++ l) 24 ≡ phase_number st.phase
unfolding rebuilder_bytes head_bytes all_bytes bytes_of word_at
phase-word st l = digits (phase_number st.phase) (let k = phase-most st.phase in omega arith)

stage-word : (st : Rebuilder) (l : List ℕ) → word_at (rebuilder_bytes st ++ l) 44 ≡ stage_number st.stage
unfolding rebuilder_bytes head_bytes all_bytes bytes_of word_at
stage-word st l = digits (stage_number st.stage) (let k = stage-most st.stage in omega arith)

pub rebuilder-bytes-front : (st : Rebuilder) (l : List ℕ) → is_rebuilder (rebuilder_bytes st ++ l) ≡ true
unfolding is_rebuilder
rebuilder-bytes-front st l =
    and-true _ _
    (le-leb rebuilder_size (length (rebuilder_bytes st ++ l)) (let a = length-append (rebuilder_bytes st) l in let b = length-rebuilder st in omega arith))
    (and-true _ _
    (le-leb (word_at (rebuilder_bytes st ++ l) 24) 2 (let a = phase-word st l in let b = phase-most st.phase in omega arith))
    (le-leb (word_at (rebuilder_bytes st ++ l) 44) 7 (let a = stage-word st l in let b = stage-most st.stage in omega arith)))

pub rebuilder-bytes-are : (st : Rebuilder) → is_rebuilder (rebuilder_bytes st) ≡ true
rebuilder-bytes-are st = ap is_rebuilder (sym (append-nil (rebuilder_bytes st))) ∙ rebuilder-bytes-front st []

-- what passes is long enough to be read
pub holder-long : (s : List ℕ) → is_holder s ≡ true → holder_size ≤ length s
unfolding is_holder
holder-long s e = leb-true holder_size (length s) (and_left (leb holder_size (length s)) _ e)

pub rebuilder-long : (s : List ℕ) → is_rebuilder s ≡ true → rebuilder_size ≤ length s
unfolding is_rebuilder
rebuilder-long s e = leb-true rebuilder_size (length s) (and_left (leb rebuilder_size (length s)) _ e)

-- ---- for the code
-- the tests
pub holder-short : (s : List ℕ) → length s < holder_size → false ≡ is_holder s
unfolding is_holder
holder-short s h = rw (lt-leb holder_size (length s) h) refl

pub holder-tested : (s : List ℕ) (v : ℕ) → holder_size ≤ length s → v ≡ word_at s 0 → leb v 1 ≡ is_holder s
unfolding is_holder
holder-tested s v h e = rw (le-leb holder_size (length s) h, e) refl

pub rebuilder-short : (s : List ℕ) → length s < rebuilder_size → false ≡ is_rebuilder s
unfolding is_rebuilder
rebuilder-short s h = rw (lt-leb rebuilder_size (length s) h) refl

pub no-phase : (s : List ℕ) (v : ℕ) → rebuilder_size ≤ length s → v ≡ word_at s 24 → 2 < v → false ≡ is_rebuilder s
unfolding is_rebuilder
no-phase s v h e k = rw (le-leb rebuilder_size (length s) h, lt-leb (word_at s 24) 2 (omega arith)) refl

pub rebuilder-tested : (s : List ℕ) (v w : ℕ) → rebuilder_size ≤ length s → v ≡ word_at s 24 → v ≤ 2 → w ≡ word_at s 44 → leb w 7 ≡ is_rebuilder s
unfolding is_rebuilder
rebuilder-tested s v w h e k f = rw (le-leb rebuilder_size (length s) h, le-leb (word_at s 24) 2 (omega arith), f) refl

-- a list stored right behind another
pub store-next : (s t u : List ℕ) (at i : ℕ) (a b : List ℕ) → t ≡ sets s at a → u ≡ sets t i b → i ≡ at + length a → u ≡ sets s at (a ++ b)
store-next s t u at i a b e f g = f ∙ rw (e, g) (sym (sets-append s a b at))

-- numbers stored one after the other
pub two-stored : (s t u : List ℕ) (at a b : ℕ) → t ≡ sets s at (bytes_of a) → u ≡ sets t (at + 4) (bytes_of b) → u ≡ sets s at (all_bytes (a ∷ b ∷ []))
unfolding all_bytes bytes_of
two-stored s t u at a b e f = store-next s t u at (at + 4) (bytes_of a) (bytes_of b) e f refl

pub four-stored : (s t u : List ℕ) (at a b c d : ℕ) → t ≡ sets s at (all_bytes (a ∷ b ∷ [])) → u ≡ sets t (at + 8) (all_bytes (c ∷ d ∷ []))
    → u ≡ sets s at (all_bytes (a ∷ b ∷ c ∷ d ∷ []))
unfolding all_bytes bytes_of
four-stored s t u at a b c d e f = store-next s t u at (at + 8) (all_bytes (a ∷ b ∷ [])) (all_bytes (c ∷ d ∷ [])) e f refl

-- a turn of the loop that writes the pieces, and its end
pub pieces-turn : (s t u : List ℕ) (l : List Piece) (at i : ℕ) → i < 32 → t ≡ sets s (at + 16 * i) (piece_bytes (get_or l i no_piece))
    → sets s (at + 16 * i) (pieces_bytes l i (32 - i)) ≡ u → sets t (at + 16 * (i + 1)) (pieces_bytes l (i + 1) (32 - (i + 1))) ≡ u
unfolding pieces_bytes
pieces-turn s t u l at i h e f =
    let b : List ℕ = piece_bytes (get_or l i no_piece) in
    let r : List ℕ = pieces_bytes l (suc i) (31 - i) in
    let k : suc (31 - i) ≡ 32 - i = omega arith in
    let m : 32 - (i + 1) ≡ 31 - i = omega arith in
    let o : at + 16 * (i + 1) ≡ at + 16 * i + length (piece_bytes (get_or l i no_piece)) = (let q = length-piece (get_or l i no_piece) in omega arith) in
    ap₂ (λ (x : ℕ) (y : List ℕ). sets t x y) o (ap₂ (λ (x y : ℕ). pieces_bytes l x y) (add-one i) m)
    ∙ ap (λ (x : List ℕ). sets x (at + 16 * i + length b) r) e
    ∙ sym (sets-append s b r (at + 16 * i))
    ∙ ap (λ (n : ℕ). sets s (at + 16 * i) (pieces_bytes l i n)) k
    ∙ f

pub pieces_end : (s u : List ℕ) (l : List Piece) (at i : ℕ) → 32 ≤ i → sets s (at + 16 * i) (pieces_bytes l i (32 - i)) ≡ u → s ≡ u
unfolding pieces_bytes
pieces_end s u l at i h f = let k : 0 ≡ 32 - i = omega arith in ap (λ (n : ℕ). sets s (at + 16 * i) (pieces_bytes l i n)) k ∙ f

-- a state with other pieces
abbrev pub with_pieces : Rebuilder → List Piece → Rebuilder
with_pieces st l = record {
  settings = st.settings;
  ybits = st.ybits;
  phase = st.phase;
  n = st.n;
  answered = st.answered;
  counted = st.counted;
  rows = st.rows;
  stage = st.stage;
  waiting = st.waiting;
  pieces = l;
}

-- the loop that reads the pieces: its start, a turn and its end
pub read-start : (st : Rebuilder) (s : List ℕ) → st ≡ fields_of s (replicate 32 no_piece) → with_pieces st (sets st.pieces 0 (pieces_at s (52 + 16 * 0) (32 - 0))) ≡ rebuilder_of s
unfolding rebuilder_of fields_of
read-start st s e = ap (λ (r : Rebuilder). with_pieces r (sets r.pieces 0 (pieces_at s 52 32))) e ∙ ap (λ (l : List Piece). fields_of s l) (all (pieces_at s 52 32) (length-pieces_at s 52 32))
  where
    all : (l : List Piece) → length l ≡ 32 → sets (replicate 32 no_piece) 0 l ≡ l
    all l k = sets-front (replicate 32 no_piece) l (let e = length-replicate 32 no_piece in omega arith) ∙ ap (λ (n : ℕ). l ++ drop n (replicate 32 no_piece)) k ∙ append-nil l

pub read-turn : (st : Rebuilder) (s : List ℕ) (u : Rebuilder) (i : ℕ) (pc : Piece) → i < 32 → pc ≡ piece_at s (52 + 16 * i)
    → with_pieces st (sets st.pieces i (pieces_at s (52 + 16 * i) (32 - i))) ≡ u
    → with_pieces st (sets (set st.pieces i pc) (i + 1) (pieces_at s (52 + 16 * (i + 1)) (32 - (i + 1)))) ≡ u
unfolding pieces_at
read-turn st s u i pc h e f =
    let k : suc (31 - i) ≡ 32 - i = omega arith in
    let m : 32 - (i + 1) ≡ 31 - i = omega arith in
    let o : 52 + 16 * (i + 1) ≡ 52 + 16 * i + 16 = omega arith in
    ap (λ (l : List Piece). with_pieces st l)
    (ap₂ (λ (x : ℕ) (y : List Piece). sets (set st.pieces i pc) x y) (add-one i) (ap₂ (λ (x y : ℕ). pieces_at s x y) o m)
    ∙ ap (λ (x : Piece). sets (set st.pieces i x) (suc i) (pieces_at s (52 + 16 * i + 16) (31 - i))) e
    ∙ ap (λ (n : ℕ). sets st.pieces i (pieces_at s (52 + 16 * i) n)) k)
    ∙ f

pub rest_read : (st : Rebuilder) (s : List ℕ) (u : Rebuilder) (i : ℕ) → 32 ≤ i → with_pieces st (sets st.pieces i (pieces_at s (52 + 16 * i) (32 - i))) ≡ u → st ≡ u
unfolding pieces_at
rest_read st s u i h f = let k : 0 ≡ 32 - i = omega arith in ap (λ (n : ℕ). with_pieces st (sets st.pieces i (pieces_at s (52 + 16 * i) n))) k ∙ f

-- ---- whole states at the front of the bytes
pub holder-front : (s : List ℕ) (st : Holder) → holder_size ≤ length s → sets s 0 (holder_bytes st) ≡ holder_bytes st ++ drop holder_size s
holder-front s st h =
    sets-front s (holder_bytes st) (let e = length-holder st in omega arith) ∙ ap (λ (n : ℕ). holder_bytes st ++ drop n s) (length-holder st)

pub rebuilder-front : (s : List ℕ) (st : Rebuilder) → rebuilder_size ≤ length s → sets s 0 (rebuilder_bytes st) ≡ rebuilder_bytes st ++ drop rebuilder_size s
rebuilder-front s st h =
    sets-front s (rebuilder_bytes st) (let e = length-rebuilder st in omega arith) ∙ ap (λ (n : ℕ). rebuilder_bytes st ++ drop n s) (length-rebuilder st)

pub holder-stored : (s t u : List ℕ) (st : Holder) (o : ℕ) → holder_size ≤ length s → o ≡ opened_number st.opened → t ≡ sets s 0 (all_bytes (o ∷ st.bits ∷ st.h ∷ st.key ∷ []))
    → u ≡ sets t 16 (bytes_of st.answers) → u ≡ holder_bytes st ++ drop holder_size s
unfolding holder_bytes all_bytes bytes_of
holder-stored s t u st o h k e f =
    store-next s t u 0 16 (all_bytes (o ∷ st.bits ∷ st.h ∷ st.key ∷ [])) (bytes_of st.answers) e f refl
    ∙ ap (λ (v : ℕ). sets s 0 (all_bytes (v ∷ st.bits ∷ st.h ∷ st.key ∷ st.answers ∷ []))) k
    ∙ holder-front s st h

pub fields-stored : (s t u v w : List ℕ) (st : Rebuilder) (p q : ℕ) → p ≡ phase_number st.phase → q ≡ stage_number st.stage
    → t ≡ sets s 0 (all_bytes (st.settings.m ∷ st.settings.h ∷ st.settings.k ∷ st.settings.key ∷ []))
    → u ≡ sets t 16 (all_bytes (st.settings.ceiling ∷ st.ybits ∷ p ∷ st.n ∷ []))
    → v ≡ sets u 32 (all_bytes (st.answered ∷ st.counted ∷ st.rows ∷ q ∷ []))
    → w ≡ sets v 48 (bytes_of st.waiting)
    → w ≡ sets s 0 (head_bytes st)
unfolding head_bytes all_bytes bytes_of
fields-stored s t u v w st p q i j e f g h =
    let a : List ℕ = all_bytes (st.settings.m ∷ st.settings.h ∷ st.settings.k ∷ st.settings.key ∷ []) in
    let b : List ℕ = all_bytes (st.settings.ceiling ∷ st.ybits ∷ p ∷ st.n ∷ []) in
    let c : List ℕ = all_bytes (st.answered ∷ st.counted ∷ st.rows ∷ q ∷ []) in
    store-next s v w 0 48 ((a ++ b) ++ c) (bytes_of st.waiting)
    (store-next s u v 0 32 (a ++ b) c (store-next s t u 0 16 a b e f refl) g refl)
    h refl
    ∙ ap₂ (λ (x y : ℕ). sets s 0 (all_bytes (
    st.settings.m ∷ st.settings.h ∷ st.settings.k ∷ st.settings.key ∷ st.settings.ceiling ∷
    st.ybits ∷ x ∷ st.n ∷ st.answered ∷ st.counted ∷ st.rows ∷ y ∷ st.waiting ∷ []))) i j

-- the same with all five numbers stored at once
pub holder-stored-whole : (s t : List ℕ) (st : Holder) (o : ℕ) → holder_size ≤ length s → o ≡ opened_number st.opened
    → t ≡ sets s 0 (all_bytes (o ∷ st.bits ∷ st.h ∷ st.key ∷ st.answers ∷ [])) → t ≡ holder_bytes st ++ drop holder_size s
unfolding holder_bytes
holder-stored-whole s t st o h e f = f ∙ ap (λ (v : ℕ). sets s 0 (all_bytes (v ∷ st.bits ∷ st.h ∷ st.key ∷ st.answers ∷ []))) e ∙ holder-front s st h

pub rebuilder-stored : (s t u : List ℕ) (st : Rebuilder) → rebuilder_size ≤ length s → t ≡ sets s 0 (head_bytes st) → u ≡ sets t 52 (pieces_bytes st.pieces 0 32)
    → u ≡ rebuilder_bytes st ++ drop rebuilder_size s
unfolding rebuilder_bytes
rebuilder-stored s t u st h e f =
    store-next s t u 0 52 (head_bytes st) (pieces_bytes st.pieces 0 32) e f (let l = length_fields st in omega arith) ∙ rebuilder-front s st h
