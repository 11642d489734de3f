-- Laws of fields: they are the parts at the separators, and each lies within the list.
use Rattle.std.specs.Prelude.{◌≡◌, Bool, List, [], ◌∷◌, take, drop, eqb, Option as CodeOption, Some, None, get_or}
use Rattle.std.specs.Borrow.{Bor}
use Rattle.std.specs.List.{slice_get, slice_split, onto_first}
use Rattle.std.specs.Option.{option_map}
use Rattle.std.proofs.Math.Path.{refl, ap}
use Rattle.std.proofs.Math.Seq.{take-length}
use Rattle.std.proofs.Common.{sym, ◌∙◌, drop-drop, add-one, drop_of_length-le, drop-cons}
use Rattle.std.proofs.Math.Bool.{true, false, cond}
use Rattle.std.proofs.Math.Option.{Option, none, some, map, some-injective, none-ne-some}
use Prim.Native.Nat.{ℕ, zero, suc, ◌+◌, ◌-◌, ◌≤◌, ◌<◌}
use native.Mathlib.Omega.{arith}
use Rattle.std.proofs.Math.ListN.{length, length-drop}
use Rattle.std.proofs.Math.Dec.{ltb}
use borrow.Author.Tests.{lt-ltb, le-ltb, ltb-true, ltb-false, eq-eqb, ne_eqb}
use Rattle.lines.specs.Fields.{before_first, field_end, field_from, field, bytes_between, field_text}
use Rattle.lines.specs.code.Readings.{said_bytes, said_field}

before-most : (sep : ℕ) (l : List ℕ) → before_first sep l ≤ length l
unfolding before_first
before-most sep [] = omega arith
before-most sep (x ∷ l) = go (eqb x sep) (before-most sep l)
  where
    go : (t : Bool) → before_first sep l ≤ length l → cond t 0 (suc (before_first sep l)) ≤ suc (length l)
    go true h = omega arith
    go false h = omega arith

-- the parts of a list at its separators
abbrev pub parts : ℕ → List ℕ → List (List ℕ)
parts sep l = slice_split (λ x. eqb x sep) l

-- the first part ends at the first separator, and the others follow it
parts_first : (sep : ℕ) (l : List ℕ) → parts sep l ≡ cond (ltb (before_first sep l) (length l)) (take (before_first sep l) l ∷ parts sep (drop (suc (before_first sep l)) l)) (l ∷ [])
unfolding before_first
parts_first sep [] = refl
parts_first sep (x ∷ l) = go (eqb x sep) (parts_first sep l)
  where
    later : (t : Bool) → ltb (before_first sep l) (length l) ≡ t
        → onto_first x (cond t (take (before_first sep l) l ∷ parts sep (drop (suc (before_first sep l)) l)) (l ∷ []))
        ≡ cond (ltb (suc (before_first sep l)) (suc (length l))) ((x ∷ take (before_first sep l) l) ∷ parts sep (drop (suc (before_first sep l)) l)) ((x ∷ l) ∷ [])
    later true e =
        let h = ltb-true (before_first sep l) (length l) e in
        let k : suc (before_first sep l) < suc (length l) = omega arith in
        rw (lt-ltb (suc (before_first sep l)) (suc (length l)) k) refl
    later false e =
        let h = ltb-false (before_first sep l) (length l) e in
        let k : suc (length l) ≤ suc (before_first sep l) = omega arith in
        rw (le-ltb (suc (before_first sep l)) (suc (length l)) k) refl

    go : (t : Bool) → parts sep l ≡ cond (ltb (before_first sep l) (length l)) (take (before_first sep l) l ∷ parts sep (drop (suc (before_first sep l)) l)) (l ∷ [])
        → cond t ([] ∷ parts sep l) (onto_first x (parts sep l))
        ≡ cond (ltb (cond t 0 (suc (before_first sep l))) (suc (length l))) (take (cond t 0 (suc (before_first sep l))) (x ∷ l) ∷ parts sep (drop (suc (cond t 0 (suc (before_first sep l)))) (x ∷ l))) ((x ∷ l) ∷ [])
    go true e = rw (lt-ltb 0 (suc (length l)) (omega arith)) refl
    go false e = rw e (later (ltb (before_first sep l) (length l)) refl)

-- an element that may be missing, in the definitions' words
abbrev or_none : CodeOption (List ℕ) → Option (List ℕ)
or_none (Some l) = some l
or_none None = none

module _ (sep : ℕ) (s : List ℕ) where
  pub end-here : (i : ℕ) → i < length s → get_or s i 0 ≡ sep → i ≡ field_end sep s i
  unfolding field_end before_first
  end-here i h e = rw (drop-cons s i 0 h, eq-eqb (get_or s i 0) sep e) (omega arith)

  pub end-next : (i : ℕ) → i < length s → (get_or s i 0 ≡ sep → ⊥) → field_end sep s (i + 1) ≡ field_end sep s i
  unfolding field_end before_first
  end-next i h e = rw (drop-cons s i 0 h, ne_eqb (get_or s i 0) sep e, add-one) (omega arith)

  pub end-last : (i : ℕ) → length s ≤ i → i ≡ field_end sep s i
  unfolding field_end before_first
  end-last i h = rw (drop_of_length-le s {i = i} h) (omega arith)

  pub end-from : (from : ℕ) → from ≤ field_end sep s from
  unfolding field_end
  end-from from = omega arith

  pub end-most : (from : ℕ) → from ≤ length s → field_end sep s from ≤ length s
  unfolding field_end
  end-most from h = let m = before-most sep (drop from s) in let l = length-drop from s in omega arith

  -- ---- one field after another, e being where the field from `from` on ends
  pub found_here : (i from e : ℕ) → i ≤ 0 → e ≡ field_end sep s from → some (from, e) ≡ field_from sep i s from
  unfolding field_from
  found_here zero from e h p = rw p refl
  found_here (suc i) from e h p = absurd (omega arith)

  pub found-missing : (i from e : ℕ) → 0 < i → e ≡ field_end sep s from → length s ≤ e → none ≡ field_from sep i s from
  unfolding field_from
  found-missing zero from e h p q = absurd (omega arith)
  found-missing (suc i) from e h p q = rw (← p, le-ltb e (length s) q) refl

  pub found-next : (i from e : ℕ) → 0 < i → e ≡ field_end sep s from → e < length s → field_from sep (i - 1) s (e + 1) ≡ field_from sep i s from
  unfolding field_from
  found-next zero from e h p q = absurd (omega arith)
  found-next (suc i) from e h p q =
      let k : suc i - 1 ≡ i = omega arith in
      rw (k, ← p, lt-ltb e (length s) q, add-one) refl

  -- the bytes of the i-th field from index `from` on
  abbrev text_from : ℕ → ℕ → Option (List ℕ)
  text_from i from = map (λ (place : ℕ × ℕ). bytes_between place.0 place.1 s) (field_from sep i s from)

  module _ (from : ℕ) where
    -- what stands from there on, and how far its first separator is
    abbrev onwards : List ℕ
    onwards = drop from s

    abbrev distance : ℕ
    distance = before_first sep onwards

    part_here : from ≤ length s → (t : Bool) → ltb distance (length onwards) ≡ t
        → text_from 0 from ≡ or_none (slice_get (cond t (take distance onwards ∷ parts sep (drop (suc distance) onwards)) (onwards ∷ [])) 0)
    unfolding field_from field_end
    part_here h true e = let k : from + distance - from ≡ distance = omega arith in rw k refl
    part_here h false e =
        let m = before-most sep onwards in
        let n = ltb-false distance (length onwards) e in
        let k : from + distance - from ≡ length onwards = omega arith in
        rw (k, take-length onwards) refl

    part_next : (i : ℕ) → from ≤ length s → (t : Bool) → ltb distance (length onwards) ≡ t
        → (suc (from + distance) ≤ length s → text_from i (suc (from + distance)) ≡ or_none (slice_get (parts sep (drop (suc (from + distance)) s)) i))
        → text_from (suc i) from ≡ or_none (slice_get (cond t (take distance onwards ∷ parts sep (drop (suc distance) onwards)) (onwards ∷ [])) (suc i))
    unfolding field_from field_end
    part_next i h true e f =
        let l = length-drop from s in
        let q = ltb-true distance (length onwards) e in
        let k : from + distance < length s = omega arith in
        let n : from + suc distance ≡ suc (from + distance) = omega arith in
        rw (lt-ltb (from + distance) (length s) k, drop-drop (suc distance) from s, n) (f k)
    part_next i h false e f =
        let l = length-drop from s in
        let q = ltb-false distance (length onwards) e in
        let k : length s ≤ from + distance = omega arith in
        rw (le-ltb (from + distance) (length s) k) refl

  -- the fields from index `from` on are the parts of what stands there
  part_from : (i from : ℕ) → from ≤ length s → text_from i from ≡ or_none (slice_get (parts sep (drop from s)) i)
  part_from zero from h = rw (parts_first sep (onwards from)) (part_here from h (ltb (distance from) (length (onwards from))) refl)
  part_from (suc i) from h = rw (parts_first sep (onwards from)) (part_next from i h (ltb (distance from) (length (onwards from))) refl (part_from i (suc (from + distance from))))

  -- a reference to the part at an index is the field
  pub field-part : (i : ℕ) (r : CodeOption (Bor (List ℕ))) → option_map (λ x. x.now) r ≡ slice_get (parts sep s) i → said_bytes r ≡ field_text sep i s
  unfolding field
  field-part i r e = said r ∙ ap or_none e ∙ sym (part_from i 0 (omega arith))
    where
      said : (r : CodeOption (Bor (List ℕ))) → said_bytes r ≡ or_none (option_map (λ x. x.now) r)
      said (Some x) = refl
      said None = refl

  -- a field lies within the list
  from-within : (i from a b : ℕ) → from ≤ length s → field_from sep i s from ≡ some (a, b) → (a ≤ b) × (b ≤ length s)
  unfolding field_from
  from-within zero from a b h e =
      let pair = some-injective (from, field_end sep s from) (a, b) e in
      let p : from ≡ a = ap (λ (w : ℕ × ℕ). w.0) pair in
      let q : field_end sep s from ≡ b = ap (λ (w : ℕ × ℕ). w.1) pair in
      let l = end-from from in
      let m = end-most from h in
      (omega arith, omega arith)
  from-within (suc i) from a b h e = go (ltb (field_end sep s from) (length s)) refl (from-within i (suc (field_end sep s from)) a b) e
    where
      go : (t : Bool) → ltb (field_end sep s from) (length s) ≡ t
          → (suc (field_end sep s from) ≤ length s → field_from sep i s (suc (field_end sep s from)) ≡ some (a, b) → (a ≤ b) × (b ≤ length s))
          → cond t (field_from sep i s (suc (field_end sep s from))) none ≡ some (a, b) → (a ≤ b) × (b ≤ length s)
      go true p f e = let q = ltb-true (field_end sep s from) (length s) p in f (omega arith) e
      go false p f e = absurd (none-ne-some (a, b) e)

  pub field-within : (i a b : ℕ) {r : CodeOption (ℕ × ℕ)} → said_field r ≡ field sep i s → r ≡ Some (a, b) → (a ≤ b) × (b ≤ length s)
  unfolding field
  field-within i a b p q = from-within i 0 a b (omega arith) (sym p ∙ ap said_field q)
