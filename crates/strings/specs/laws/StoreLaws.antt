-- Laws of a list stored from an index on.
use Rattle.std.specs.Prelude.{◌≡◌, refl, List, [], ◌∷◌, ◌++◌, ◌≢◌, ℕ, zero, suc, ◌+◌, ◌≤◌, ◌<◌, length, get_or, set, drop}
use Rattle.std.proofs.Common.{sym, ap, ◌∙◌, zero-add, add-zero, arith, length-set, get_or-set_same, get_or-set_other}
use Rattle.std.proofs.lemmas.List.Edits.{sets, sets-eq}

module _ {A : Type 0} where
  -- before what is stored nothing changes
  pub get_d_sets_before : (s : List A) (at : ℕ) (vs : List A) (j : ℕ) (d : A) → j < at → get_or (sets s at vs) j d ≡ get_or s j d
  get_d_sets_before s at [] j d h = refl
  get_d_sets_before s at (a ∷ vs) j d h =
      let n : j ≢ at = λ e. absurd (omega arith) in
      get_d_sets_before (set s at a) (suc at) vs j d (omega arith) ∙ get_or-set_other s at j a d n

  -- nor behind it
  pub get_d-sets-behind : (s : List A) (at : ℕ) (vs : List A) (j : ℕ) (d : A) → at + length vs ≤ j → get_or (sets s at vs) j d ≡ get_or s j d
  get_d-sets-behind s at [] j d h = refl
  get_d-sets-behind s at (a ∷ vs) j d h =
      let n : j ≢ at = λ e. absurd (omega arith) in
      get_d-sets-behind (set s at a) (suc at) vs j d (omega arith) ∙ get_or-set_other s at j a d n

  -- in between stands what is stored
  pub get_d-sets-in : (s : List A) (at : ℕ) (vs : List A) (j : ℕ) (d : A) → j < length vs → at + length vs ≤ length s → get_or (sets s at vs) (at + j) d ≡ get_or vs j d
  get_d-sets-in s at [] j d h k = absurd (omega arith)
  get_d-sets-in s at (a ∷ vs) zero d h k =
      ap (λ (i : ℕ). get_or (sets (set s at a) (suc at) vs) i d) (add-zero at)
      ∙ get_d_sets_before (set s at a) (suc at) vs at d (omega arith)
      ∙ get_or-set_same s at a d (omega arith)
  get_d-sets-in s at (a ∷ vs) (suc j) d h k =
      let e : at + suc j ≡ suc at + j = omega arith in
      let l = length-set s at a in
      ap (λ (i : ℕ). get_or (sets (set s at a) (suc at) vs) i d) e
      ∙ get_d-sets-in (set s at a) (suc at) vs j d (omega arith) (omega arith)

  -- a list stored right behind another
  pub sets-append : (s l m : List A) (at : ℕ) → sets s at (l ++ m) ≡ sets (sets s at l) (at + length l) m
  sets-append s [] m at = ap (λ (j : ℕ). sets s j m) (sym (add-zero at))
  sets-append s (a ∷ l) m at =
      let e : suc at + length l ≡ at + suc (length l) = omega arith in
      sets-append (set s at a) l m (suc at) ∙ ap (λ (j : ℕ). sets (sets (set s at a) (suc at) l) j m) e

  -- a list stored at the front
  pub sets-front : (s vs : List A) → length vs ≤ length s → sets s 0 vs ≡ vs ++ drop (length vs) s
  sets-front s vs h =
      sets-eq vs s 0 (let e = zero-add (length vs) in omega arith) ∙ ap (λ (n : ℕ). vs ++ drop n s) (zero-add (length vs))
