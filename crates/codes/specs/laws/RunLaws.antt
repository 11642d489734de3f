-- Laws of runs: a run's two lengths can be apart in one way only; the places and the bits of the columns' repairs are those of each.
use Rattle.std.specs.Prelude.{◌≡◌, Bool, false, List, get_or, ℕ, ◌+◌, ◌≤◌, ◌<◌}
use Rattle.std.specs.Coded.{Coded-set, coded_ℕ}
use Rattle.std.proofs.Common.{arith, ap, ap₂, sym}
use Rattle.std.proofs.Math.ListN.{get_or-map}
use mathlib.Core.Logic.{inl, inr}
use Rattle.codes.specs.Columns.{RunApart}
use Rattle.codes.specs.code.Runs.{places, put_bits}
use Rattle.codes.specs.code.Weaving.{woven_bit, Placed}
use Rattle.codes.specs.declared.weaving.ColumnRepair.{ColumnRepair}

pub RunApart-prop : (B len n : ℕ) → 2 ≤ B → IsProp (RunApart B len n)
RunApart-prop B len n h (inl p) (inl q) = ap inl (Coded-set coded_ℕ (len + B) n p q)
RunApart-prop B len n h (inl p) (inr q) = absurd (omega arith)
RunApart-prop B len n h (inr p) (inl q) = absurd (omega arith)
RunApart-prop B len n h (inr p) (inr q) = ap inr (Coded-set coded_ℕ len (n + B) p q)

-- the place and the bit of one of the columns' repairs
abbrev pub no_repair : ColumnRepair
no_repair = record { place = 0; bit = false }

module _ (rs : List ColumnRepair) (j : ℕ) where
  pub one_place : get_or (places rs) j 0 ≡ (get_or rs j no_repair).place
  one_place = get_or-map (λ (r : ColumnRepair). r.place) rs j no_repair

  pub one_bit : get_or (put_bits rs) j false ≡ (get_or rs j no_repair).bit
  one_bit = get_or-map (λ (r : ColumnRepair). r.bit) rs j no_repair

  pub one-woven : (l : List Bool) (n B i : ℕ) → woven_bit l n B i (get_or rs j no_repair).place (get_or rs j no_repair).bit ≡ woven_bit l n B i (get_or (places rs) j 0) (get_or (put_bits rs) j false)
  one-woven l n B i = ap₂ (woven_bit l n B i) (sym one_place) (sym one_bit)

  pub one_near : (B len : ℕ) → Placed B len (places rs) → (get_or rs j no_repair).place < len + B
  one_near B len p = let e = one_place in let q = p j in omega arith
