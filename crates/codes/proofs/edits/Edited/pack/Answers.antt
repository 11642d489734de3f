-- `codes::Edited::pack` meets its contract. Assumes nothing.
use mathlib.Core.Path.{ap, ◌∙◌}
use mathlib.Core.List.{List}
use Prim.Native.Nat.{ℕ}
use Rattle.strings.specs.Bits.{write_bits}
use Rattle.strings.specs.Ranges.{bits}
use Rattle.strings.proofs.laws.PackLaws.{packed-into}
use Rattle.codes.specs.code.Edits.{edited}
use Rattle.codes.proofs.edits.Edited.pack.Goals as goal

pub returns : goal.returns
returns c = let args = c.args in
    c.copy.ensures ∙ ap (λ (x : List ℕ). write_bits x 0 (edited args.self.now.edit (bits args.self.now.piece))) (rw c.bytes_for.ensures at c.clear_bytes.ensures)
    ∙ packed-into args.out.now _ args.n c.requires.len_len c.requires.n_in_bounds
