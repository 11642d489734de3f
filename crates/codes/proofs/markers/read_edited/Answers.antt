-- `codes::read_edited` meets its contract. Assumes nothing.
use mathlib.Core.Path.{ap, ◌∙◌}
use mathlib.Core.Bool.{Bool}
use mathlib.Core.List.{List}
use mathlib.Core.Option.{some}
use Prim.Native.Nat.{ℕ}
use Rattle.strings.specs.Bits.{range}
use Rattle.strings.specs.Ranges.{bits}
use Rattle.strings.specs.Results.{value}
use Rattle.codes.specs.Entries.{repair_left}
use Rattle.codes.specs.Markers.{built_message}
use Rattle.codes.specs.code.Edits.{edited}
use Rattle.codes.specs.laws.MarkerEntryLaws.{front-range}
use Rattle.codes.proofs.markers.read_edited.Goals as goal

pub returns : goal.returns
returns c = let packed = c.pack.ensures in
    let n = c.args.w.n in
    let word = edited c.args.e.edit (bits c.args.e.piece) in
    let same = ap (λ (x : List ℕ). range x 0 n) packed ∙ front-range word _ n c.requires.bits_len in
    c.read_word.ensures ∙ ap (λ (w : List Bool). repair_left c.args.out.now (value (built_message n (some w)))) same
