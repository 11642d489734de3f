-- Laws of the parted numbers, of the linked low numbers, and of the loops that link, count and list.
use Rattle.std.specs.Prelude.{◌≡◌, Bool, length, get_or, set, replicate}
use Rattle.std.proofs.Math.Path.{refl, sym, ap, ap₂}
use Rattle.std.proofs.Common.{◌∙◌, subst, mod-lt, mod-eq_of_lt, pow-suc, add-suc, suc-add, add-zero, zero-add, mul-add, mul-one, zero-mul, length-append, length-set, get_or-set_same, get_or-set_other, pow-add, pow_mono, one-mul, mul-le-mul_right}
use Rattle.std.proofs.Math.Bool.{true, false, cond}
use mathlib.Core.List.{List, [], ◌∷◌, ◌++◌, append_assoc, append-nil}
use Prim.Native.Nat.{ℕ, zero, suc, ◌+◌, ◌-◌, ◌*◌, ◌/◌, ◌%◌, ◌^◌, ◌≤◌, ◌<◌}
use Rattle.std.proofs.Math.Nat.{mod-add-mod, add-mod-mod, suc-mul}
use Rattle.std.proofs.Math.Decide.{ℕ_discrete}
use native.Mathlib.Omega.{arith}
use Rattle.std.proofs.lemmas.List.{length-map, length-replicate, get_or-replicate}
use Rattle.std.proofs.lemmas.List.Edits.{sets}
use Rattle.std.proofs.Math.Dec.{eqb}
use borrow.Author.Tests.{eq-eqb, ne_eqb}
use Rattle.strings.specs.laws.StoreLaws.{sets-append}
use Rattle.codes.specs.Syndrome.{weighted_sum, syndrome}
use Rattle.codes.specs.laws.SyndromeLaws.{weighted-sum-append, syndrome-is}
use Rattle.codes.specs.laws.RepairLaws.{lack-is, lack-adds}
use Rattle.codes.specs.Listing.{bits_of, listing}
use Rattle.codes.specs.laws.ListingLaws.{length-bits, listing-from, listing-most, kept-most}
use Rattle.codes.specs.code.Sums.{Residue}
use Rattle.codes.specs.code.Linking.{kept, list_from, low_digits, high_digits, residue, low_residue, wanted, lows, behind, blocks_from, blocks, first_or, Linked, Counted}

-- ---- a number's digits in two parts
twice : (h c : ℕ) → h * 2 ^ suc c ≡ 2 * (h * 2 ^ c)
twice h c =
    let p = pow-suc 2 c in
    let e : 2 ^ suc c ≡ 2 ^ c + 2 ^ c = omega arith in
    ap (λ (x : ℕ). h * x) e ∙ mul-add h (2 ^ c) (2 ^ c) ∙ omega arith

bits-parted : (d c h j : ℕ) → j < 2 ^ c → bits_of (d + c) (h * 2 ^ c + j) ≡ bits_of d h ++ bits_of c j
unfolding bits_of
bits-parted d zero h j l =
    let o = mul-one h in
    let e : h * 2 ^ 0 + j ≡ h = omega arith in
    ap₂ bits_of (add-zero d) e ∙ sym (append-nil (bits_of d h))
bits-parted d (suc c) h j l =
    let p = pow-suc 2 c in
    let t = twice h c in
    let e : (h * 2 ^ suc c + j) / 2 ≡ h * 2 ^ c + j / 2 = omega arith in
    let f : (h * 2 ^ suc c + j) % 2 ≡ j % 2 = omega arith in
    ap (λ (k : ℕ). bits_of k (h * 2 ^ suc c + j)) (add-suc d c)
    ∙ ap₂ (λ (x y : ℕ). bits_of (d + c) x ++ (eqb y 1 ∷ [])) e f
    ∙ ap (λ (x : List Bool). x ++ (eqb (j % 2) 1 ∷ [])) (bits-parted d c h (j / 2) (omega arith))
    ∙ append_assoc (bits_of d h) (bits_of c (j / 2)) (eqb (j % 2) 1 ∷ [])

-- ---- the parts of a number of n digits
module _ (n : ℕ) where
  parts : high_digits n + low_digits n ≡ n
  parts = omega arith

  powers : 2 ^ n ≡ 2 ^ high_digits n * 2 ^ low_digits n
  powers = ap (λ (x : ℕ). 2 ^ x) (sym parts) ∙ pow-add 2 (high_digits n) (low_digits n)

  pub low-power-most : n ≤ 20 → 2 ^ low_digits n ≤ 1024
  low-power-most b = pow_mono {i = low_digits n} {j = 10} (omega arith)

  -- a number's high and low part make a number of at most 20 digits
  pub number-most : (h : ℕ) → n ≤ 20 → h < 2 ^ high_digits n → h * 2 ^ low_digits n + 2 ^ low_digits n ≤ 1048576
  number-most h b l =
      let e = suc-mul h (2 ^ low_digits n) in
      let f : suc h * 2 ^ low_digits n ≤ 2 ^ high_digits n * 2 ^ low_digits n = mul-le-mul_right (2 ^ low_digits n) (omega arith) in
      let g : 2 ^ n ≤ 1048576 = pow_mono {i = n} {j = 20} b in
      let p = powers in
      omega arith

  pub count_most : (a : ℕ) → n ≤ 20 → length (listing n a) ≤ 1048576
  count_most a b = let h = listing-most n a in let g : 2 ^ n ≤ 1048576 = pow_mono {i = n} {j = 20} b in omega arith

  syndrome-parted : (h j : ℕ) → j < 2 ^ low_digits n
      → (weighted_sum 1 (bits_of (high_digits n) h) + low_residue n j) % (n + 1) ≡ syndrome (bits_of n (h * 2 ^ low_digits n + j))
  syndrome-parted h j l =
      let low = weighted_sum (high_digits n + 1) (bits_of (low_digits n) j) in
      let e : bits_of n (h * 2 ^ low_digits n + j) ≡ bits_of (high_digits n) h ++ bits_of (low_digits n) j =
      ap (λ (x : ℕ). bits_of x (h * 2 ^ low_digits n + j)) (sym parts) ∙ bits-parted (high_digits n) (low_digits n) h j l in
      let k : 1 + length (bits_of (high_digits n) h) ≡ high_digits n + 1 = (let i = length-bits (high_digits n) h in omega arith) in
      let f = ap (weighted_sum 1) e ∙ weighted-sum-append 1 (bits_of (high_digits n) h) (bits_of (low_digits n) j)
      ∙ ap (λ (x : ℕ). weighted_sum 1 (bits_of (high_digits n) h) + weighted_sum x (bits_of (low_digits n) j)) k in
      add-mod-mod (weighted_sum 1 (bits_of (high_digits n) h)) low (n + 1) ∙ syndrome-is (bits_of n (h * 2 ^ low_digits n + j)) n _ (length-bits n _) (sym f)

  low-residue-most : (j : ℕ) → low_residue n j ≤ n
  low-residue-most j = let h : low_residue n j < n + 1 = mod-lt (weighted_sum (high_digits n + 1) (bits_of (low_digits n) j)) (omega arith) in omega arith

  -- a number has the syndrome a if its low digits have the residue that its high digits want
  wanted-right : (a h j : ℕ) → a ≤ n → j < 2 ^ low_digits n → eqb (syndrome (bits_of n (h * 2 ^ low_digits n + j))) a ≡ eqb (low_residue n j) (wanted n a h)
  unfolding wanted
  wanted-right a h j p l = go (ℕ_discrete (low_residue n j) (wanted n a h))
    where
      go : Dec (low_residue n j ≡ wanted n a h) → eqb (syndrome (bits_of n (h * 2 ^ low_digits n + j))) a ≡ eqb (low_residue n j) (wanted n a h)
      go (yes e) =
          eq-eqb _ a (sym (syndrome-parted h j l) ∙ lack-adds (weighted_sum 1 (bits_of (high_digits n) h)) (low_residue n j) a (n + 1) (omega arith) e (omega arith))
          ∙ sym (eq-eqb (low_residue n j) (wanted n a h) e)
      go (no e) =
          ne_eqb _ a (λ f. e (sym (lack-is (weighted_sum 1 (bits_of (high_digits n) h)) (low_residue n j) a (n + 1) (omega arith) (syndrome-parted h j l ∙ f) (let m = low-residue-most j in omega arith))))
          ∙ sym (ne_eqb (low_residue n j) (wanted n a h) e)

  module _ (a : ℕ) (p : a ≤ n) where
    -- the numbers of one high number
    abbrev wants : (h count j : ℕ) → List ℕ
    wants h count j = kept (λ (x : ℕ). eqb (low_residue n x) (wanted n a h)) count j

    block-is : (h count more j : ℕ) → j + count ≤ 2 ^ low_digits n
        → list_from n a (count + more) (h * 2 ^ low_digits n + j) ≡ behind n h (wants h count j) ++ list_from n a more (h * 2 ^ low_digits n + j + count)
    unfolding kept
    block-is h zero more j l = ap₂ (λ (x y : ℕ). list_from n a x y) (zero-add more) (sym (add-zero (h * 2 ^ low_digits n + j)))
    block-is h (suc count) more j l =
        ap (λ (x : ℕ). list_from n a x (h * 2 ^ low_digits n + j)) (suc-add count more)
        ∙ ap₂ (λ (t : Bool) (F : List ℕ). cond t ((h * 2 ^ low_digits n + j) ∷ F) F) (wanted-right a h j p (omega arith)) (ap (list_from n a (count + more)) (sym (add-suc (h * 2 ^ low_digits n) j)))
        ∙ go (eqb (low_residue n j) (wanted n a h)) (list_from n a (count + more) (h * 2 ^ low_digits n + suc j)) (wants h count (suc j)) _ (block-is h count more (suc j) (omega arith))
        ∙ ap (λ (x : ℕ). behind n h (wants h (suc count) j) ++ list_from n a more x) {x = h * 2 ^ low_digits n + suc j + count} {y = h * 2 ^ low_digits n + j + suc count} (omega arith)
      where
        go : (t : Bool) (F L M : List ℕ) → F ≡ behind n h L ++ M → cond t ((h * 2 ^ low_digits n + j) ∷ F) F ≡ behind n h (cond t (j ∷ L) L) ++ M
        go true F L M e = ap (λ (x : List ℕ). (h * 2 ^ low_digits n + j) ∷ x) e
        go false F L M e = e

    blocks-are : (count h : ℕ) → list_from n a (count * 2 ^ low_digits n) (h * 2 ^ low_digits n) ≡ blocks_from n a count h
    unfolding kept blocks_from
    blocks-are zero h = ap (λ (x : ℕ). list_from n a x (h * 2 ^ low_digits n)) (zero-mul (2 ^ low_digits n))
    blocks-are (suc count) h =
        let P = 2 ^ low_digits n in
        let e : suc count * P ≡ P + count * P = (let s = suc-mul count P in omega arith) in
        let f : h * P ≡ h * P + 0 = omega arith in
        let g : h * P + 0 + P ≡ suc h * P = (let s = suc-mul h P in omega arith) in
        let z : P ≡ P - 0 = omega arith in
        ap₂ (λ (x y : ℕ). list_from n a x y) e f ∙ block-is h P (count * P) 0 (omega arith)
        ∙ ap₂ (λ (x : ℕ) (y : List ℕ). behind n h (wants h x 0) ++ y) z (ap (λ (x : ℕ). list_from n a (count * P) x) g ∙ blocks-are count (suc h))

    -- the list is the blocks of all high numbers
    pub listing-blocks : listing n a ≡ blocks n a 0
    listing-blocks =
        listing-from n a ∙ ap₂ (λ (x y : ℕ). list_from n a x y) powers (sym (zero-mul (2 ^ low_digits n))) ∙ blocks-are (2 ^ high_digits n) 0
        ∙ ap (λ (x : ℕ). blocks_from n a x 0) {x = 2 ^ high_digits n} {y = 2 ^ high_digits n - 0} (omega arith)

  module _ (a h : ℕ) where
    pub blocks-next : h < 2 ^ high_digits n → blocks n a h ≡ behind n h (lows n (wanted n a h) 0) ++ blocks n a (h + 1)
    unfolding blocks_from
    blocks-next l =
        let s : suc h ≡ h + 1 = omega arith in
        ap (λ (x : ℕ). blocks_from n a x h) {x = 2 ^ high_digits n - h} {y = suc (2 ^ high_digits n - (h + 1))} (omega arith)
        ∙ ap (λ (x : ℕ). behind n h (lows n (wanted n a h) 0) ++ blocks_from n a (2 ^ high_digits n - (h + 1)) x) s

    pub blocks_last : 2 ^ high_digits n ≤ h → blocks n a h ≡ []
    unfolding blocks_from
    blocks_last l = ap (λ (x : ℕ). blocks_from n a x h) {x = 2 ^ high_digits n - h} {y = 0} (omega arith)

  -- ---- the low numbers with one residue
  module _ (r : ℕ) where
    lows-next : (j : ℕ) → j < 2 ^ low_digits n → lows n r j ≡ cond (eqb (low_residue n j) r) (j ∷ lows n r (suc j)) (lows n r (suc j))
    unfolding kept
    lows-next j l = ap (λ (x : ℕ). kept (λ (y : ℕ). eqb (low_residue n y) r) x j) {x = 2 ^ low_digits n - j} {y = suc (2 ^ low_digits n - suc j)} (omega arith)

    lows-hit : (j : ℕ) → j < 2 ^ low_digits n → low_residue n j ≡ r → lows n r j ≡ j ∷ lows n r (suc j)
    lows-hit j l e = lows-next j l ∙ ap (λ (t : Bool). cond t (j ∷ lows n r (suc j)) (lows n r (suc j))) (eq-eqb (low_residue n j) r e)

    lows-miss : (j : ℕ) → j < 2 ^ low_digits n → (low_residue n j ≡ r → ⊥) → lows n r j ≡ lows n r (suc j)
    lows-miss j l e = lows-next j l ∙ ap (λ (t : Bool). cond t (j ∷ lows n r (suc j)) (lows n r (suc j))) (ne_eqb (low_residue n j) r e)

    pub lows-last : (j : ℕ) → 2 ^ low_digits n ≤ j → lows n r j ≡ []
    unfolding kept
    lows-last j l = ap (λ (x : ℕ). kept (λ (y : ℕ). eqb (low_residue n y) r) x j) {x = 2 ^ low_digits n - j} {y = 0} (omega arith)

    pub lows-most : (j : ℕ) → length (lows n r j) ≤ 2 ^ low_digits n
    lows-most j = let h = kept-most (λ (x : ℕ). eqb (low_residue n x) r) (2 ^ low_digits n - j) j in omega arith

    -- x is the first from i on, or the count of the low numbers
    pub record First (i x : ℕ) : Type 0 where
      pub least : i ≤ x
      pub most : x ≤ 2 ^ low_digits n
      pub same : lows n r i ≡ lows n r x
      pub hit : x < 2 ^ low_digits n → low_residue n x ≡ r

    first_found : (count i x : ℕ) → i + count ≡ 2 ^ low_digits n → x ≡ first_or (2 ^ low_digits n) (lows n r i) → First i x
    first_found zero i x s e =
        let f = e ∙ ap (first_or (2 ^ low_digits n)) (lows-last i (omega arith)) in
        let g : i ≡ x = omega arith in
        record { least = omega arith; most = omega arith; same = ap (lows n r) g; hit = λ h. absurd (omega arith) }
    first_found (suc count) i x s e = go (ℕ_discrete (low_residue n i) r) (first_found count (suc i) x (omega arith))
      where
        go : Dec (low_residue n i ≡ r) → (x ≡ first_or (2 ^ low_digits n) (lows n r (suc i)) → First (suc i) x) → First i x
        go (yes h) ih =
            let f : x ≡ i = e ∙ ap (first_or (2 ^ low_digits n)) (lows-hit i (omega arith) h) in
            record { least = omega arith; most = omega arith; same = ap (lows n r) (sym f); hit = λ k. ap (low_residue n) f ∙ h }
        go (no h) ih =
            let m = lows-miss i (omega arith) h in
            let q = ih (e ∙ ap (first_or (2 ^ low_digits n)) m) in
            let l = q.least in
            record { least = omega arith; most = q.most; same = m ∙ q.same; hit = q.hit }

  pub first-is : (r i x : ℕ) → i ≤ 2 ^ low_digits n → x ≡ first_or (2 ^ low_digits n) (lows n r i) → First r i x
  first-is r i x l e = first_found r (2 ^ low_digits n - i) i x (omega arith) e

  -- ---- linking
  module _ (size : ℕ) (e : size ≡ 2 ^ low_digits n) (b : n ≤ 20) where
    pub linked-none : Linked n size (replicate 21 size) (replicate 1024 0)
    linked-none = record {
      residues = length-replicate 21 size;
      numbers = length-replicate {A = ℕ} 1024 0;
      firsts = λ r h. (get_or-replicate 21 r size 0 (omega arith) ∙ e ∙ sym (ap (first_or (2 ^ low_digits n)) (lows-last r size (omega arith))));
      nexts = λ j h l. absurd (omega arith);
    }

    pub counted_none : Counted n size (replicate 21 0)
    counted_none = record { residues = length-replicate {A = ℕ} 21 0; totals = λ r h. (get_or-replicate 21 r 0 0 (omega arith) ∙ sym (ap length (lows-last r size (omega arith)))) }

  module _ (j : ℕ) (first next counts : List ℕ) (l : j < 2 ^ low_digits n) (b : n ≤ 20) (r : ℕ) (e : r ≡ low_residue n j) where
    r-most : r < 21
    r-most = let h = low-residue-most j in omega arith

    pub linked-next : (i : ℕ) → i ≡ suc j → Linked n i first next → Linked n j (set first r j) (set next j (get_or first r 0))
    linked-next i s q' = record {
      residues = length-set first r j ∙ q.residues;
      numbers = length-set next j (get_or first r 0) ∙ q.numbers;
      firsts = λ r' h. at-residue r' h (ℕ_discrete r' r);
      nexts = λ j' h k. at-number j' h k (ℕ_discrete j' j);
    }
      where
        q : Linked n (suc j) first next
        q = subst (λ (x : ℕ). Linked n x first next) s q'

        at-residue : (r' : ℕ) → r' ≤ n → Dec (r' ≡ r) → get_or (set first r j) r' 0 ≡ first_or (2 ^ low_digits n) (lows n r' j)
        at-residue r' h (yes z) =
            let m = q.residues in
            let g = r-most in
            ap (λ (x : ℕ). get_or (set first r j) x 0) z ∙ get_or-set_same first r j 0 (omega arith)
            ∙ sym (ap (first_or (2 ^ low_digits n)) (lows-hit r' j l (sym e ∙ sym z)))
        at-residue r' h (no z) =
            get_or-set_other first r r' j 0 z ∙ q.firsts r' h ∙ ap (first_or (2 ^ low_digits n)) (sym (lows-miss r' j l (λ f. z (sym (e ∙ f)))))

        at-number : (j' : ℕ) → j ≤ j' → j' < 2 ^ low_digits n → Dec (j' ≡ j)
            → get_or (set next j (get_or first r 0)) j' 0 ≡ first_or (2 ^ low_digits n) (lows n (low_residue n j') (suc j'))
        at-number j' h k (yes z) =
            let m = q.numbers in
            let g = low-power-most b in
            let f = r-most in
            ap (λ (x : ℕ). get_or (set next j (get_or first r 0)) x 0) z ∙ get_or-set_same next j (get_or first r 0) 0 (omega arith)
            ∙ q.firsts r (let y = low-residue-most j in omega arith)
            ∙ ap₂ (λ (x y : ℕ). first_or (2 ^ low_digits n) (lows n x (suc y))) (e ∙ ap (low_residue n) (sym z)) (sym z)
        at-number j' h k (no z) = get_or-set_other next j j' (get_or first r 0) 0 z ∙ q.nexts j' (omega arith) k

    pub counted_next : (i : ℕ) → i ≡ suc j → Counted n i counts → Counted n j (set counts r (get_or counts r 0 + 1))
    counted_next i s q' = record { residues = length-set counts r (get_or counts r 0 + 1) ∙ q.residues; totals = λ r' h. at-residue r' h (ℕ_discrete r' r) }
      where
        q : Counted n (suc j) counts
        q = subst (λ (x : ℕ). Counted n x counts) s q'

        at-residue : (r' : ℕ) → r' ≤ n → Dec (r' ≡ r) → get_or (set counts r (get_or counts r 0 + 1)) r' 0 ≡ length (lows n r' j)
        at-residue r' h (yes z) =
            let m = q.residues in
            let g = r-most in
            let t = q.totals r' h in
            let u = ap (λ (x : ℕ). get_or counts x 0) z in
            let v = ap length (lows-hit r' j l (sym e ∙ sym z)) in
            ap (λ (x : ℕ). get_or (set counts r (get_or counts r 0 + 1)) x 0) z ∙ get_or-set_same counts r (get_or counts r 0 + 1) 0 (omega arith) ∙ omega arith
        at-residue r' h (no z) =
            get_or-set_other counts r r' (get_or counts r 0 + 1) 0 z ∙ q.totals r' h ∙ ap length (sym (lows-miss r' j l (λ f. z (sym (e ∙ f)))))

  -- ---- the loop that stores one block
  module _ (first next : List ℕ) (q : Linked n 0 first next) (r : ℕ) where
    pub link-first : r ≤ n → First r 0 (get_or first r 0)
    link-first h = first-is r 0 (get_or first r 0) (omega arith) (q.firsts r h)

    -- x stands behind j in the list of the low numbers with the residue r
    pub record Next (j x : ℕ) : Type 0 where
      pub later : j < x
      pub most : x ≤ 2 ^ low_digits n
      pub hit : x < 2 ^ low_digits n → low_residue n x ≡ r
      pub more : lows n r j ≡ j ∷ lows n r x

    pub link-next : (j : ℕ) → j < 2 ^ low_digits n → low_residue n j ≡ r → Next j (get_or next j 0)
    link-next j l e =
        let f = first-is r (suc j) (get_or next j 0) (omega arith) (q.nexts j (omega arith) l ∙ ap (λ (x : ℕ). first_or (2 ^ low_digits n) (lows n x (suc j))) e) in
        record { later = f.least; most = f.most; hit = f.hit; more = lows-hit r j l e ∙ ap (λ (x : List ℕ). j ∷ x) f.same }

  pub block-turn : (r h at j x v : ℕ) (s u : List ℕ) → lows n r j ≡ j ∷ lows n r x → v ≡ h * 2 ^ low_digits n + j → sets s at (behind n h (lows n r j)) ≡ u
      → sets (set s at v) (at + 1) (behind n h (lows n r x)) ≡ u
  block-turn r h at j x v s u e f g =
      let k : at + 1 ≡ suc at = omega arith in
      ap₂ (λ (y z : ℕ). sets (set s at y) z (behind n h (lows n r x))) f k
      ∙ sym (ap (λ (l : List ℕ). sets s at (behind n h l)) e) ∙ g

  pub block_last : (r h at j : ℕ) (s u : List ℕ) → 2 ^ low_digits n ≤ j → sets s at (behind n h (lows n r j)) ≡ u → s ≡ u
  block_last r h at j s u l g = sym (ap (λ (x : List ℕ). sets s at (behind n h x)) (lows-last r j l)) ∙ g

  -- ---- the loops over the high numbers
  module _ (a h : ℕ) (r : ℕ) (e : r ≡ wanted n a h) (l : h < 2 ^ high_digits n) where
    block_of : blocks n a h ≡ behind n h (lows n r 0) ++ blocks n a (h + 1)
    block_of = blocks-next a h l ∙ ap (λ (x : ℕ). behind n h (lows n x 0) ++ blocks n a (h + 1)) (sym e)

    pub count_turn : length (blocks n a h) ≡ length (lows n r 0) + length (blocks n a (h + 1))
    count_turn = ap length block_of ∙ length-append (behind n h (lows n r 0)) (blocks n a (h + 1)) ∙ ap (λ (x : ℕ). x + length (blocks n a (h + 1))) (length-map (lows n r 0) _)

    pub list-turn : (s s' u : List ℕ) (k k' : ℕ) → s' ≡ sets s k (behind n h (lows n r 0)) → k' ≡ k + length (lows n r 0) → sets s k (blocks n a h) ≡ u → sets s' k' (blocks n a (h + 1)) ≡ u
    list-turn s s' u k k' f g i =
        ap₂ (λ (x : List ℕ) (y : ℕ). sets x y (blocks n a (h + 1))) f (g ∙ ap (λ (x : ℕ). k + x) (sym (length-map (lows n r 0) (λ (j : ℕ). h * 2 ^ low_digits n + j))))
        ∙ sym (sets-append s (behind n h (lows n r 0)) (blocks n a (h + 1)) k) ∙ ap (sets s k) (sym block_of) ∙ i

-- ---- the loop that sums the digits
module _ (k v : ℕ) where
  sum-snoc : (c : ℕ) → weighted_sum k (bits_of (suc c) v) ≡ weighted_sum k (bits_of c (v / 2)) + weighted_sum (k + c) (eqb (v % 2) 1 ∷ [])
  unfolding bits_of
  sum-snoc c =
      weighted-sum-append k (bits_of c (v / 2)) (eqb (v % 2) 1 ∷ [])
      ∙ ap (λ (x : ℕ). weighted_sum k (bits_of c (v / 2)) + weighted_sum (k + x) (eqb (v % 2) 1 ∷ [])) (length-bits c (v / 2))

  sum-none : weighted_sum k (bits_of 0 v) ≡ 0
  unfolding bits_of
  sum-none = refl

  module _ (m i sum : ℕ) where
    pub digits-turn : (sum' : ℕ) → 0 < i → Residue m (sum + weighted_sum (k + (i - 1)) (eqb (v % 2) 1 ∷ [])) sum'
        → (sum' + weighted_sum k (bits_of (i - 1) (v / 2))) % m ≡ (sum + weighted_sum k (bits_of i v)) % m
    digits-turn sum' h f =
        let d = weighted_sum (k + (i - 1)) (eqb (v % 2) 1 ∷ []) in
        let rest = weighted_sum k (bits_of (i - 1) (v / 2)) in
        let s : suc (i - 1) ≡ i = omega arith in
        let g = sym (ap (λ (x : ℕ). weighted_sum k (bits_of x v)) s) ∙ sum-snoc (i - 1) in
        ap (λ (x : ℕ). (x + rest) % m) f.is ∙ mod-add-mod (sum + d) m rest ∙ ap (λ (x : ℕ). x % m) {x = sum + d + rest} {y = sum + weighted_sum k (bits_of i v)} (omega arith)

    pub digits_last : (u : ℕ) → i ≤ 0 → sum < m → (sum + weighted_sum k (bits_of i v)) % m ≡ u → sum ≡ u
    digits_last u h l e =
        let z = ap (λ (x : ℕ). weighted_sum k (bits_of x v)) {x = i} {y = 0} (omega arith) ∙ sum-none in
        let s : sum ≡ sum + weighted_sum k (bits_of i v) = omega arith in
        sym (mod-eq_of_lt l) ∙ ap (λ (x : ℕ). x % m) s ∙ e

pub power-shift : (d : ℕ) → d ≤ 20 → (1 * 2 ^ d) % 18446744073709551616 ≡ 2 ^ d
power-shift d h =
    let p : 2 ^ d ≤ 1048576 = pow_mono {i = d} {j = 20} h in
    let o = one-mul (2 ^ d) in
    ap (λ (x : ℕ). x % 18446744073709551616) o ∙ mod-eq_of_lt (omega arith)

-- the residues modulo the code's m
pub low-residue-is : (n j : ℕ) → {m r : ℕ} → m ≡ n + 1 → (r ≡ residue (high_digits n + 1) (low_digits n) m j) × (r < m) → (r ≡ low_residue n j) × (r ≤ n)
low-residue-is n j {m} {r} e f = let b = f.1 in (subst (λ (x : ℕ). r ≡ residue (high_digits n + 1) (low_digits n) x j) e f.0, omega arith)

pub wanted-is : (n a h : ℕ) → {m high r : ℕ} → m ≡ n + 1 → high ≡ residue 1 (high_digits n) m h → Residue m (a + (m - high)) r → (r ≡ wanted n a h) × (r ≤ n)
unfolding wanted
wanted-is n a h {m} {high} {r} e f g =
    let lack = subst (λ (x : ℕ). Residue x (a + (x - high)) r) e g in
    let b = lack.below in
    (lack.is ∙ ap (λ (x : ℕ). (a + (n + 1 - x)) % (n + 1)) (subst (λ (x : ℕ). high ≡ residue 1 (high_digits n) x h) e f), omega arith)
