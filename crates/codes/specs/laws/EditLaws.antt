-- Laws of edits: what is found is 01's repair; an edited range in parts, its copy and its hash.
use Rattle.std.specs.Prelude.{◌≡◌, Bool, List, [], ◌∷◌, ◌++◌, ℕ, suc, ◌+◌, ◌-◌, ◌%◌, ◌^◌, ◌≤◌, ◌<◌, length, Option as Found, Some, None}
use Rattle.std.proofs.Math.Path.{sym}
use Rattle.std.proofs.Common.{ap, ap₂, ◌∙◌, subst, arith}
use Rattle.std.proofs.Math.Option.{Option, none, some}
use Rattle.std.proofs.Math.Bridge.{le_prop}
use Rattle.strings.specs.Bits.{range, set_bit, write_bits}
use Rattle.strings.proofs.laws.RangeLaws.{range_length, range-take, range-drop}
use Rattle.strings.proofs.laws.WriteLaws.{write-next, write-append}
use Rattle.codes.specs.Repair.{without, insert_at, put_in, take_out}
use Rattle.codes.specs.laws.RepairLaws.{length-insert, length_without, put-place-within, put-in-filled, put-in-above}
use Rattle.codes.specs.code.Place.{put_place, put_bit, filled, take_place}
use Rattle.codes.specs.laws.PlaceLaws.{take-place-found, take-place-none}
use Rattle.codes.specs.Hash.{hash}
use Rattle.codes.specs.code.HashForms.{Went}
use Rattle.codes.specs.laws.HashLaws.{went_on, went-cut}
use Rattle.codes.specs.code.Edits.{edited, Fits, repaired, RepairFits}
use Rattle.codes.specs.declared.edits.Edit.{Edit}
use Rattle.codes.specs.declared.edits.Edit.TheVariants.{Put, Take}

-- ---- the code's places give 01's repairs, from the numbers that a function holds
module _ (a : ℕ) (l : List Bool) (len : ℕ) (n : length l ≡ len) where
  pub put-repair : (p : ℕ) (b : Bool) → a ≤ len + 1 → p ≡ put_place a l → b ≡ put_bit a l → (some (insert_at p b l) ≡ put_in a l) × (p ≤ len)
  unfolding filled
  put-repair p b h e f =
      let w = put-place-within a l in
      (ap₂ (λ (x : ℕ) (y : Bool). some (insert_at x y l)) e f ∙ sym (put-in-filled a l (omega arith)), omega arith)

  pub put-none : len + 1 < a → none ≡ put_in a l
  put-none h = sym (put-in-above a l (omega arith))

  pub take-repair : (i : ℕ) → i ≡ take_place a l → i < len → some (without i l) ≡ take_out a l
  take-repair i e h = ap (λ (x : ℕ). some (without x l)) e ∙ sym (take-place-found a l (omega arith))

  pub take_none : (i : ℕ) → i ≡ take_place a l → len ≤ i → none ≡ take_out a l
  take_none i e h = sym (take-place-none a l (omega arith))

-- ---- what the arms of a match on a repair know, where it gives o
module _ (r : Found Edit) (l : List Bool) (o : Option (List Bool)) (f : repaired r l ≡ o) where
  pub found-is : (e : Edit) → r ≡ Some e → o ≡ some (edited e l)
  found-is e h = sym f ∙ ap (λ (x : Found Edit). repaired x l) h

  pub nothing_is : r ≡ None → o ≡ none
  nothing_is h = sym f ∙ ap (λ (x : Found Edit). repaired x l) h

-- an edit fits in one way only
pub Fits-prop : (e : Edit) (len : ℕ) → IsProp (Fits e len)
Fits-prop (Put i b) len = le_prop
Fits-prop (Take i) len = le_prop

pub found-fits : (r : Found Edit) (len : ℕ) (e : Edit) → RepairFits r len → r ≡ Some e → Fits e len
found-fits r len e f h = subst (λ (x : Found Edit). RepairFits x len) h f

-- ---- what the arms of a match on an edit know
pub edited-as : (e x : Edit) (l : List Bool) → e ≡ x → edited x l ≡ edited e l
edited-as e x l h = ap (λ (z : Edit). edited z l) (sym h)

module _ (e : Edit) (l : List Bool) (len : ℕ) (n : length l ≡ len) (f : Fits e len) where
  pub as-put : (i : ℕ) (b : Bool) → e ≡ Put i b → (i ≤ len) × (length (edited e l) ≡ len + 1)
  as-put i b h =
      (subst (λ (x : Edit). Fits x len) h f, ap (λ (x : Edit). length (edited x l)) h ∙ length-insert i b l ∙ ap (λ (x : ℕ). x + 1) n)

  pub as-take : (i : ℕ) → e ≡ Take i → (i < len) × (length (edited e l) + 1 ≡ len)
  as-take i h =
      let w : i < len = subst (λ (x : Edit). Fits x len) h f in
      (w, ap (λ (x : Edit). length (edited x l) + 1) h ∙ length_without i l (omega arith) ∙ n)

-- ---- an edited range in parts, and what is made of its parts: a copy and a hash
module _ (s : List ℕ) (start len i : ℕ) where
  put-parts : (b : Bool) → i ≤ len → insert_at i b (range s start len) ≡ range s start i ++ (b ∷ range s (start + i) (len - i))
  put-parts b h = ap₂ (λ (x y : List Bool). x ++ (b ∷ y)) (range-take s start len i h) (range-drop s start len i h)

  take-parts : i < len → without i (range s start len) ≡ range s start i ++ range s (start + i + 1) (len - i - 1)
  take-parts h =
      let p : start + suc i ≡ start + i + 1 = omega arith in
      let q : len - suc i ≡ len - i - 1 = omega arith in
      ap₂ (λ (x y : List Bool). x ++ y) (range-take s start len i (omega arith)) (range-drop s start len (suc i) (omega arith) ∙ ap₂ (range s) p q)

  -- the same with the bits behind the first i + 1
  skip-parts : i < len → without i (range s start len) ≡ range s start i ++ range s (start + (i + 1)) (len - (i + 1))
  skip-parts h =
      let p : start + suc i ≡ start + (i + 1) = omega arith in
      let q : len - suc i ≡ len - (i + 1) = omega arith in
      ap₂ (λ (x y : List Bool). x ++ y) (range-take s start len i (omega arith)) (range-drop s start len (suc i) (omega arith) ∙ ap₂ (range s) p q)

  -- bits written behind the first i
  write-behind : (t : List ℕ) (at : ℕ) (l : List Bool) → write_bits (write_bits t at (range s start i)) (at + i) l ≡ write_bits t at (range s start i ++ l)
  write-behind t at l =
      ap (λ (n : ℕ). write_bits (write_bits t at (range s start i)) (at + n) l) (sym (range_length s start i)) ∙ sym (write-append t at (range s start i) l)

  pub put-copied : (t t₁ t₂ t₃ : List ℕ) (at : ℕ) (b : Bool) → i ≤ len → t₁ ≡ write_bits t at (range s start i) → t₂ ≡ set_bit t₁ (at + i) b
      → t₃ ≡ write_bits t₂ (at + i + 1) (range s (start + i) (len - i)) → t₃ ≡ write_bits t at (insert_at i b (range s start len))
  put-copied t t₁ t₂ t₃ at b h e f g =
      g ∙ ap (λ (x : List ℕ). write_bits x (at + i + 1) (range s (start + i) (len - i))) (f ∙ ap (λ (x : List ℕ). set_bit x (at + i) b) e)
      ∙ sym (write-next (write_bits t at (range s start i)) (at + i) b (range s (start + i) (len - i)))
      ∙ write-behind t at (b ∷ range s (start + i) (len - i)) ∙ ap (write_bits t at) (sym (put-parts b h))

  pub take-copied : (t t₁ t₂ : List ℕ) (at : ℕ) → i < len → t₁ ≡ write_bits t at (range s start i)
      → t₂ ≡ write_bits t₁ (at + i) (range s (start + i + 1) (len - i - 1)) → t₂ ≡ write_bits t at (without i (range s start len))
  take-copied t t₁ t₂ at h e f =
      f ∙ ap (λ (x : List ℕ). write_bits x (at + i) (range s (start + i + 1) (len - i - 1))) e
      ∙ write-behind t at (range s (start + i + 1) (len - i - 1)) ∙ ap (write_bits t at) (sym (take-parts h))

  pub skip-copied : (t t₁ t₂ : List ℕ) (at : ℕ) → i < len → t₁ ≡ write_bits t at (range s start i)
      → t₂ ≡ write_bits t₁ (at + i) (range s (start + (i + 1)) (len - (i + 1))) → t₂ ≡ write_bits t at (without i (range s start len))
  skip-copied t t₁ t₂ at h e f =
      f ∙ ap (λ (x : List ℕ). write_bits x (at + i) (range s (start + (i + 1)) (len - (i + 1)))) e
      ∙ write-behind t at (range s (start + (i + 1)) (len - (i + 1))) ∙ ap (write_bits t at) (sym (skip-parts h))

  module _ (h key x v : ℕ) (p : Went 0 key (range s start i) x v) where
    pub put-hashed : (x₁ v₁ x₂ v₂ : ℕ) (b : Bool) → i ≤ len → Went x v (b ∷ []) x₁ v₁ → Went x₁ v₁ (range s (start + i) (len - i)) x₂ v₂
        → x₂ % 2 ^ h ≡ hash h key (insert_at i b (range s start len))
    put-hashed x₁ v₁ x₂ v₂ b l q r =
        let behind = range s (start + i) (len - i) in
        went-cut h key x₂ v₂ (range s start i ++ (b ∷ range s (start + i) (len - i)))
        (went_on 0 key x v x₂ v₂ (range s start i) (b ∷ behind) p (went_on x v x₁ v₁ x₂ v₂ (b ∷ []) behind q r))
        ∙ ap (hash h key) (sym (put-parts b l))

    pub take-hashed : (x₁ v₁ : ℕ) → i < len → Went x v (range s (start + i + 1) (len - i - 1)) x₁ v₁ → x₁ % 2 ^ h ≡ hash h key (without i (range s start len))
    take-hashed x₁ v₁ l q =
        went-cut h key x₁ v₁ (range s start i ++ range s (start + i + 1) (len - i - 1))
        (went_on 0 key x v x₁ v₁ (range s start i) (range s (start + i + 1) (len - i - 1)) p q)
        ∙ ap (hash h key) (sym (take-parts l))

    pub skip-hashed : (x₁ v₁ : ℕ) → i < len → Went x v (range s (start + (i + 1)) (len - (i + 1))) x₁ v₁ → x₁ % 2 ^ h ≡ hash h key (without i (range s start len))
    skip-hashed x₁ v₁ l q =
        went-cut h key x₁ v₁ (range s start i ++ range s (start + (i + 1)) (len - (i + 1)))
        (went_on 0 key x v x₁ v₁ (range s start i) (range s (start + (i + 1)) (len - (i + 1))) p q)
        ∙ ap (hash h key) (sym (skip-parts l))
